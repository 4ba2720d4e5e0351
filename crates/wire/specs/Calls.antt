-- What a frame asks of the desk: its fields in the document's order (document 01, section "The line program").
use Rattle.std.specs.Prelude.{ℕ, ◌-◌, List, ◌∷◌, eqb}
use Rattle.octets.specs.Numbers.{num}
use Rattle.desk.specs.Requests.{PushRequest, DecideRequest, TokenRequest, ResourceRequest}
use Rattle.wire.specs.Kinds.{push, decide, token, resource, sweep, start, field, rest, byte, yes_byte, width}

-- "now(8)", first in every call's frame
abbrev pub time : List ℕ → ℕ
time f = num (field sweep 0 f)

-- "slots(1)"
abbrev pub slot_count : List ℕ → ℕ
slot_count f = byte start 0 f

abbrev pub push_request : List ℕ → PushRequest
push_request f = record {
  client = field push 1 f;
  key = field push 2 f;
  scope = num (field push 3 f);
  challenge = field push 4 f;
  redirect = rest push f;
  fresh = field push 5 f;
}

abbrev pub decide_request : List ℕ → DecideRequest
decide_request f = record {
  reference = field decide 2 f;
  client = field decide 1 f;
  yes = eqb (yes_byte f) 1;
  holder = num (field decide 4 f);
  fresh = field decide 5 f;
}

abbrev pub token_request : List ℕ → TokenRequest
token_request f = record {
  client = field token 1 f;
  key = field token 2 f;
  presented = field token 3 f;
  code = field token 4 f;
  verifier = rest token f;
  fresh = field token 5 f;
}

abbrev pub resource_request : List ℕ → ResourceRequest
resource_request f = record {
  token = field resource 1 f;
  presented = field resource 2 f;
  scope = num (field resource 3 f);
  holder = num (field resource 4 f);
}

-- "84-byte resource requests, as in frame 04 without its kind" (document 02, Q-6): what one asks, and at what time
abbrev pub request_size : ℕ
request_size = width resource - 1

abbrev pub request_of : List ℕ → ResourceRequest
request_of r = resource_request (resource.byte ∷ r)

abbrev pub time_of : List ℕ → ℕ
time_of r = time (resource.byte ∷ r)
