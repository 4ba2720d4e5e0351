-- What stands behind a live text.
use Prim.Native.Nat.{ℕ}
use mathlib.Core.Path.{◌≡◌, ◌∙◌}
use mathlib.Core.Bool.{true}
use mathlib.Core.List.{List}
use Rattle.description.specs.Description.{Description}
use Rattle.desk.specs.Answers.{done}
use Rattle.desk.specs.Introspect.{describes, shown, is_live, introspect}
use Rattle.desk.specs.Resource.{token_place}
use Rattle.call_laws.specs.Live.{own_request}
use Rattle.call_laws.proofs.Rows.{resource_passed}
use Rattle.call_laws.proofs.Facts.{resource_facts}
use Rattle.call_laws.proofs.Living.{own_granted, described_live, described_own}
use Rattle.history.specs.Runs.{started, last_in}
use Rattle.history.specs.Events.{Event, events_in}
use Rattle.history.specs.Introspected.{Behind, EveryText}
use Rattle.history.proofs.Effects.{Reads, reads}
use Rattle.history.proofs.Runs.{good_start, good_last}
use Rattle.history.proofs.Links.{Inv}
use Rattle.history.proofs.Readings.{read_chain, read_client}
use Rattle.history.proofs.Demand3.{kept_run}

module _ (l : List ℕ) (es : List Event) (inv : Inv l es) (t : ℕ) (v out : List ℕ) (ok : (introspect l t v out).answer.number ≡ done) (e : is_live l t v ≡ true) where
  abbrev own : Description
  own = describes (shown l v)

  abbrev shown_at : ℕ
  shown_at = token_place l (own_request v own)

  own_reads : Reads l t (own_request v own) shown_at
  own_reads =
      reads l t (own_request v own) (resource_facts l t (own_request v own) ((resource_passed l t (own_request v own)).0 (own_granted l t v out ok e).number_is))

  pub own_behind : Behind t v own es
  own_behind =
      let chain = read_chain l es t (own_request v own) shown_at own_reads inv in
      let by = read_client l es t (own_request v own) shown_at own_reads inv in
      record {
        grant = _;
        chain = chain;
        pushed_by = by;
        consented_by = chain.same_client.0 ∙ by;
        redeemed_by = chain.same_client.1 ∙ by;
      }

-- a live text is of the record alone
pub every_text : EveryText
every_text n a b cs y t v out d f ok e =
    let good = good_start n a b in
    let l = last_in n cs in
    let bytes = (good_last cs (started n) good y).bytes in
    rw (described_own l t v out d bytes f ok e)
    (own_behind l (events_in n cs) (kept_run n good cs y).inv t v out ok (described_live l t v out d bytes f ok e))
