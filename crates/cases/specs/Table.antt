-- The twelve cases of document 01's section "At the edges" that are marked P: a single table under a single statement.
use Rattle.std.specs.Prelude.{ℕ, ◌-◌, ◌^◌, ◌≡◌, List, [], ◌∷◌}
use Rattle.cases.specs.Cases.{Varied, start_length, start_byte, start_other, decide_time, token_time, resource_time, push_scope, sweep_time, token_verifier, form_verifier, push_redirect, decide_fresh, message_length, Input, InOrder, outcome}

-- a row: the case's number, what is varied, and the number expected
pub record Row : Type 0 where
  pub name : ℕ
  pub varied : Varied
  pub number : ℕ

abbrev pub P : ℕ → Varied → ℕ → Row
P name varied number = record { name = name; varied = varied; number = number }

-- `https://a`, `https://` and `http://ab`
abbrev pub shortest : List ℕ
shortest = 0x68 ∷ 0x74 ∷ 0x74 ∷ 0x70 ∷ 0x73 ∷ 0x3A ∷ 0x2F ∷ 0x2F ∷ 0x61 ∷ []

abbrev pub too_short : List ℕ
too_short = 0x68 ∷ 0x74 ∷ 0x74 ∷ 0x70 ∷ 0x73 ∷ 0x3A ∷ 0x2F ∷ 0x2F ∷ []

abbrev pub not_secure : List ℕ
not_secure = 0x68 ∷ 0x74 ∷ 0x74 ∷ 0x70 ∷ 0x3A ∷ 0x2F ∷ 0x2F ∷ 0x61 ∷ 0x62 ∷ []

abbrev pub rows : List Row
rows =
    -- "start on 288 bytes: all zero but byte 15, which is 1"
    P 1 (start_length 288) 0
    ∷ P 1 (start_byte 288 15) 1
    ∷ P 1 (start_other 288 15) 0
    -- "287 bytes: 1"
    ∷ P 2 (start_length 287) 1
    -- "51,232 bytes accepted, 51,488: 1"
    ∷ P 3 (start_length 51232) 0
    ∷ P 3 (start_length 51488) 1
    -- "push at 1,000: decide at 1,598 accepted, at 1,599: 11"; "P4 is for a record that says 599"
    ∷ P 4 (decide_time 599 1000 1598) 0
    ∷ P 4 (decide_time 599 1000 1599) 11
    -- "0 meaning 90": the same edge for a record that says 0
    ∷ P 4 (decide_time 0 1000 1089) 0
    ∷ P 4 (decide_time 0 1000 1090) 11
    -- "consent at 1,000: token at 1,059 accepted, at 1,060: 11"
    ∷ P 5 (token_time 1000 1059) 0
    ∷ P 5 (token_time 1000 1060) 11
    -- "token at 1,059: resource at 1,358 granted, at 1,359: 11"
    ∷ P 6 (resource_time 1059 1358) 0
    ∷ P 6 (resource_time 1059 1359) 11
    -- "permitted 5: push of 4 accepted, of 2 or 0: 6"
    ∷ P 7 (push_scope 5 4) 0
    ∷ P 7 (push_scope 5 2) 6
    ∷ P 7 (push_scope 5 0) 6
    -- "fresh ledger, sweep at 2^40 - 1 accepted, at 2^40: 2"
    ∷ P 8 (sweep_time (2 ^ 40 - 1)) 0
    ∷ P 8 (sweep_time (2 ^ 40)) 2
    -- "verifier of 42: 5; 43 and 128 well formed; 129: 5"
    ∷ P 9 (token_verifier 42) 5
    ∷ P 9 (form_verifier 43) 0
    ∷ P 9 (form_verifier 128) 0
    ∷ P 9 (token_verifier 129) 5
    -- "`https://a` accepted, `https://` and `http://ab` refused by 5"
    ∷ P 10 (push_redirect shortest) 0
    ∷ P 10 (push_redirect too_short) 5
    ∷ P 10 (push_redirect not_secure) 5
    -- "fresh equal to the reference that it would replace: 7"
    ∷ P 11 decide_fresh 7
    -- "a message of 55 bytes fills one SHA-256 block, 56 two, 119 two, 120 three"
    ∷ P 12 (message_length 55) 1
    ∷ P 12 (message_length 56) 2
    ∷ P 12 (message_length 119) 2
    ∷ P 12 (message_length 120) 3
    ∷ []

-- the single statement: on every input in order, the row's number comes out
abbrev pub Holds : Row → Type 0
Holds r = (x : Input r.varied) → InOrder r.varied x → outcome r.varied x ≡ r.number

-- and there is such an input
pub record Met (r : Row) : Type 0 where
  pub input : Input r.varied
  pub in_order : InOrder r.varied input

-- of every row of a list
abbrev pub Each : (Row → Type 0) → List Row → Type 0
Each Q [] = Unit {0}
Each Q (r ∷ rs) = Q r × Each Q rs

pub record TheTable : Type 0 where
  pub every_row_holds : Each Holds rows
  pub every_row_is_met : Each Met rows
