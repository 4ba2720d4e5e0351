-- The text and resource agree: it is live exactly when resource, at that time with that token and the text's own key, scope and holder, is granted, with that
-- holder, scope and expiry (document 02, Q-1: "`{"active":false}` when it is unknown or expired, else one object").
use Rattle.std.specs.Prelude.{ℕ, ◌≤◌, ◌≡◌, List, length, take}
use Rattle.octets.specs.Plain.{Bytes}
use Rattle.description.specs.Description.{Description, live_text}
use Rattle.description.specs.Apart.{Described, live_most}
use Rattle.ledger_laws.specs.Sound.{SoundLedger}
use Rattle.desk.specs.Answers.{done}
use Rattle.desk.specs.Outcome.{Outcome}
use Rattle.desk.specs.Requests.{ResourceRequest}
use Rattle.desk.specs.Introspect.{text_for, introspect}
use Rattle.desk.specs.Resource.{resource}
use Rattle.desk.specs.declared.answer.Answer.{Answer}
use Rattle.desk.specs.declared.answer.Introspected.{Introspected}
use Rattle.call_laws.specs.Conditions.{InTime}

-- the text that introspect wrote: the front of the output, as long as it answers
abbrev pub text_in : Outcome Introspected → List ℕ
text_in o = take o.answer.length o.output

-- resource asked with that token and a description's own key, scope and holder
abbrev pub own_request : List ℕ → Description → ResourceRequest
own_request v d = record { token = v; presented = d.key; scope = d.scope; holder = d.holder }

-- granted, with that holder, scope and expiry
pub record GrantedAs (d : Description) (a : Answer) : Type 0 where
  pub number_is : a.number ≡ done
  pub holder_is : a.holder ≡ d.holder
  pub scope_is : a.scope ≡ d.scope
  pub expiry_is : a.expiry ≡ d.expiry

-- the text is live, with the key and the holder that resource was asked with, and with what it answered
pub record LiveFor (q : ResourceRequest) (a : Answer) (text : List ℕ) : Type 0 where
  pub own : Description
  pub text_is : text ≡ live_text own
  pub key_is : own.key ≡ q.presented
  pub holder_is : own.holder ≡ q.holder
  pub granted : GrantedAs own a

-- on every ledger, where introspect is accepted
pub record LiveExactly : Type 0 where
  -- a live text: resource is granted with the text's own key, scope and holder, and answers that holder, scope and expiry
  pub live_granted : (l : List ℕ) (t : ℕ) (v out : List ℕ) (d : Description) → Bytes l → Described d → (introspect l t v out).answer.number ≡ done
      → text_in (introspect l t v out) ≡ live_text d → GrantedAs d (resource l t (own_request v d)).answer
  -- and where resource is granted, whatever else it was asked with, the text of its token is live
  pub granted_live : (l : List ℕ) (t : ℕ) (q : ResourceRequest) (out : List ℕ) → (introspect l t q.token out).answer.number ≡ done
      → (resource l t q).answer.number ≡ done → LiveFor q (resource l t q).answer (text_in (introspect l t q.token out))

-- "20 when the buffer is shorter than the text": on a sound ledger an output of `live_most` bytes never is
pub record AlwaysFits : Type 0 where
  pub text_most : (l : List ℕ) (t : ℕ) (v : List ℕ) → Bytes l → SoundLedger l → length (text_for l t v) ≤ live_most
  pub roomy : (l : List ℕ) (t : ℕ) (v out : List ℕ) → Bytes l → SoundLedger l → InTime l t → live_most ≤ length out
      → (introspect l t v out).answer.number ≡ done
