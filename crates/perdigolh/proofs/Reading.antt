-- Laws of the chunks that were read, one after the other, and of the end.
use Rattle.std.proofs.Common.{◌≡◌, ℕ, ◌+◌, ◌%◌, ◌^◌, ◌<◌, List, [], ◌∷◌, ◌++◌, length, take, sym, refl, ap, ◌∙◌, append_assoc, append-nil, arith, length-append, Option, None, Some, IfSome, IfOk, IsTrue, Bool, Result, Ok, Err, subst, inl, inr}
use Rattle.std.specs.Io.KnownBytes.{Appends, Consumes, IsAtEnd}
use Rattle.lines.specs.Turn.{Held, held, lengths}
use Rattle.lines.specs.declared.feed.State.{State}
use Rattle.lines.specs.Feed.{Left, finish}
use Rattle.lines.specs.Lines.{run}
use Rattle.lines.specs.Run.{Passed, puts, pass_on, pass_all, session, joined, Buffers}
use Rattle.lines.proofs.Whole.{whole_run}
use Rattle.perdigolh.specs.Chunk.{kept, LeavesAs, EndsAs, RunsAs, RunsOn, Begins, StepWritesFront, WritesFront}
use Rattle.perdigolh.specs.declared.Desk.{Desk}
use Rattle.perdigolh.proofs.Bytes.{appends_same, appends_more, consumes_same, consumes_more, begins_all, begins_more, begins_longer}

-- ---- read after read

-- what is kept is what the chunks so far leave; they are what was read, and what they are answered was written
pub record Sofar (d e : Desk) (unread unread' contents contents' : Option (List ℕ)) : Type 0 where
  pub chunks : List (List ℕ)
  pub leaves : LeavesAs (pass_all (kept d) d.out chunks) d e
  pub reads : Consumes unread unread' (joined chunks)
  pub writes : Appends contents contents' (pass_all (kept d) d.out chunks).written

pub sofar_none : (d : Desk) (unread contents : Option (List ℕ)) → d.handed < 2 ^ 64 → Sofar d d unread unread contents contents
unfolding pass_all
sofar_none d unread contents k =
    record { chunks = []; leaves = (refl, refl, omega arith); reads = consumes_same unread; writes = appends_same contents }

one_more : (h : Held) (out : List ℕ) (cs : List (List ℕ)) (c : List ℕ)
    → ((pass_all h out (cs ++ (c ∷ []))).held ≡ (pass_on (length c) (pass_all h out cs).held (pass_all h out cs).out c).held)
    × ((pass_all h out (cs ++ (c ∷ []))).out ≡ (pass_on (length c) (pass_all h out cs).held (pass_all h out cs).out c).out)
    × ((pass_all h out (cs ++ (c ∷ []))).written
    ≡ (pass_all h out cs).written ++ (pass_on (length c) (pass_all h out cs).held (pass_all h out cs).out c).written)
unfolding pass_all
one_more h out [] c = (refl, refl, append-nil (pass_on (length c) h out c).written)
one_more h out (d ∷ ds) c =
    let p = pass_on (length d) h out d in
    let q = pass_all p.held p.out ds in
    let i = one_more p.held p.out ds c in (
      i.0,
      i.1,
      ap (λ (x : List ℕ). p.written ++ x) i.2 ∙ sym (append_assoc p.written q.written (pass_on (length c) q.held q.out c).written),
    )

joined_more : (cs : List (List ℕ)) (c : List ℕ) → joined (cs ++ (c ∷ [])) ≡ joined cs ++ c
joined_more [] c = append-nil c
joined_more (d ∷ ds) c = ap (λ (x : List ℕ). d ++ x) (joined_more ds c) ∙ sym (append_assoc d (joined ds) c)

module _ (d e : Desk) (r r' w w' : Option (List ℕ)) (s : Sofar d e r r' w w') where
  -- what the chunks so far and one more leave
  and_one : (c : List ℕ)
      → ((pass_on (length c) (kept e) e.out c).held ≡ (pass_all (kept d) d.out (s.chunks ++ (c ∷ []))).held)
      × ((pass_on (length c) (kept e) e.out c).out ≡ (pass_all (kept d) d.out (s.chunks ++ (c ∷ []))).out)
      × ((pass_all (kept d) d.out s.chunks).written ++ (pass_on (length c) (kept e) e.out c).written
      ≡ (pass_all (kept d) d.out (s.chunks ++ (c ∷ []))).written)
  and_one c =
      let a = pass_all (kept d) d.out s.chunks in
      let i = one_more (kept d) d.out s.chunks c in
      let p : pass_on (length c) (kept e) e.out c ≡ pass_on (length c) a.held a.out c = rw (s.leaves.0, s.leaves.1) in (
        ap (λ (x : Passed). x.held) p ∙ sym i.0,
        ap (λ (x : Passed). x.out) p ∙ sym i.1,
        ap (λ (x : Passed). a.written ++ x.written) p ∙ sym i.2,
      )

  pub sofar_more : (c : List ℕ) (f : Desk) → LeavesAs (pass_on (length c) (kept e) e.out c) e f → (r'' w'' : Option (List ℕ)) → Consumes r' r'' c
      → Appends w' w'' (pass_on (length c) (kept e) e.out c).written → Sofar d f r r'' w w''
  sofar_more c f l r'' w'' x y =
      let a = (pass_all (kept d) d.out s.chunks).written in
      let b = (pass_on (length c) (kept e) e.out c).written in
      let i = and_one c in
      let C : List ℕ → Type 0 = λ v. Consumes r r'' v in
      let A : List ℕ → Type 0 = λ v. Appends w w'' v in
      record {
        chunks = s.chunks ++ (c ∷ []);
        leaves = (l.0 ∙ i.0, l.1 ∙ i.1, omega (arith, s.leaves.2, l.2, ap length i.2, length-append a b));
        reads = subst C (sym (joined_more s.chunks c)) (consumes_more r r' r'' (joined s.chunks) c s.reads x);
        writes = subst A i.2 (appends_more w w' w'' a b s.writes y);
      }

  -- the end of what the chunks so far leave
  same_end : finish (kept e) e.out ≡ finish (pass_all (kept d) d.out s.chunks).held (pass_all (kept d) d.out s.chunks).out
  same_end = rw (s.leaves.0, s.leaves.1)

  pub runs_end : (f : Desk) → EndsAs (finish (kept e) e.out) e f → (r'' w'' : Option (List ℕ)) → Consumes r' r'' []
      → Appends w' w'' (puts (finish (kept e) e.out)) → RunsOn d f r r'' w w''
  unfolding session
  runs_end f l r'' w'' x y =
      let a = (pass_all (kept d) d.out s.chunks).written in
      let p = same_end in
      let q : a ++ puts (finish (kept e) e.out) ≡ session (kept d) d.out s.chunks = ap (λ (x : Left). a ++ puts x) p in
      let C : List ℕ → Type 0 = λ v. Consumes r r'' v in
      let A : List ℕ → Type 0 = λ v. Appends w w'' v in
      record {
        runs = record {
          chunks = s.chunks;
          leaves = (
            l.0 ∙ ap (λ (x : Left). x.held) p,
            l.1 ∙ ap (λ (x : Left). x.out) p,
            omega (arith, s.leaves.2, l.2, ap length q, length-append a (puts (finish (kept e) e.out))),
          );
        };
        reads = subst C (append-nil (joined s.chunks)) (consumes_more r r' r'' (joined s.chunks) [] s.reads x);
        writes = subst A q (appends_more w w' w'' a (puts (finish (kept e) e.out)) s.writes y);
      }

  -- a read of which the beginning was written
  pub front_end : (input : List ℕ) (HasRoom HadRoom : Type 0) → (HadRoom → HasRoom) → (r'' w'' : Option (List ℕ))
      → StepWritesFront (kept e) e.out input HasRoom r' r'' w' w'' → WritesFront (kept d) d.out HadRoom r r'' w w''
  unfolding session
  front_end input HasRoom HadRoom k r'' w'' x =
      let c = take x.got input in
      let a = (pass_all (kept d) d.out s.chunks).written in
      let C : List ℕ → Type 0 = λ v. Consumes r r'' v in
      let B : List ℕ → Type 0 = λ v. Begins w w'' v in
      let F : Left → Type 0 = λ v. Begins w w'' (a ++ puts v) in
      let y : Consumes r r'' (joined s.chunks ++ c) = consumes_more r r' r'' (joined s.chunks) c s.reads x.reads in
      elim x.front [
        | inl b ↦ record {
          chunks = s.chunks ++ (c ∷ []);
          reads = subst C (sym (joined_more s.chunks c)) y;
          front = inl (subst B (and_one c).2 (begins_more w w' w'' a (pass_on (length c) (kept e) e.out c).written s.writes b));
        }
        | inr t ↦ record {
          chunks = s.chunks;
          reads = subst C (ap (λ (m : ℕ). joined s.chunks ++ take m input) t.0 ∙ append-nil (joined s.chunks)) y;
          front = inr (λ z. t.1 (k z), subst F same_end (begins_more w w' w'' a (puts (finish (kept e) e.out)) s.writes t.2));
        }
      ]

  pub front_out : (HasRoom : Type 0) → WritesFront (kept d) d.out HasRoom r r' w w'
  front_out HasRoom = record { chunks = s.chunks; reads = s.reads; front = inl (begins_all w w' (pass_all (kept d) d.out s.chunks).written s.writes) }

-- what was read, to its end, is the chunks
all_read : (xs : List ℕ) (r' : Option (List ℕ)) (cs : List ℕ) → Consumes (Some xs) r' cs → IsAtEnd r' → cs ≡ xs
all_read xs None cs c e = absurd c
all_read xs (Some ys) cs c e = sym (c ∙ ap (λ (v : List ℕ). cs ++ v) e ∙ append-nil cs)

-- in buffers of the right sizes, from the first state
module _ (s : State) (line ledger table out : List ℕ) (z : s ≡ lengths 0 0 0) (b : Buffers line ledger table out) where
  -- a session is the run of the lines that were read
  first_run : (chunks : List (List ℕ)) → session (held s line ledger table) out chunks ≡ run (joined chunks)
  first_run chunks =
      let S : State → Type 0 = λ x. session (held x line ledger table) out chunks ≡ run (joined chunks) in
      subst S (sym z) (whole_run line ledger table out chunks b)

  -- where the end was reached, what was written is the run of the lines of all that there was to read
  pub whole : {E : Type 0} (a : Result Bool E) (n : ℕ) (e : Desk) (HasRoom : Type 0) → HasRoom → (r r' w w' : Option (List ℕ))
      → IfOk a (λ t. IsTrue t → RunsOn (record { state = s; line = line; ledger = ledger; table = table; out = out; handed = n }) e r r' w w')
      → IfOk a (λ t. IsTrue t → HasRoom → IsAtEnd r') → IfOk a (λ t. IsTrue t → IfSome r (λ xs. Appends w w' (run xs)))
  whole (Err f) n e HasRoom k r r' w w' x y = tt
  whole (Ok t) n e HasRoom k None r' w w' x y = λ i. tt
  whole (Ok t) n e HasRoom k (Some xs) r' w w' x y =
      λ i.
      let A : List ℕ → Type 0 = λ v. Appends w w' v in
      subst A (first_run (x i).runs.chunks ∙ ap run (all_read xs r' (joined (x i).runs.chunks) (x i).reads (y i k))) (x i).writes

  -- whatever failed, it is the beginning of that run
  pub front : (HasRoom : Type 0) → HasRoom → (r r' w w' : Option (List ℕ)) → WritesFront (held s line ledger table) out HasRoom r r' w w'
      → IfSome r (λ xs. Begins w w' (run xs))
  unfolding session
  front HasRoom k None r' w w' x = tt
  front HasRoom k (Some xs) None w w' x = absurd x.reads
  front HasRoom k (Some xs) (Some ys) w w' x =
      let first = held s line ledger table in
      let a = pass_all first out x.chunks in
      let p = pass_on (length ys) a.held a.out ys in
      let q = pass_all first out (x.chunks ++ (ys ∷ [])) in
      let B : List ℕ → Type 0 = λ v. Begins w w' v in
      let e : (a.written ++ p.written) ++ puts (finish q.held q.out) ≡ run xs =
      ap (λ (v : List ℕ). v ++ puts (finish q.held q.out)) (sym (one_more first out x.chunks ys).2)
      ∙ first_run (x.chunks ++ (ys ∷ [])) ∙ ap run (joined_more x.chunks ys ∙ sym x.reads) in
      elim x.front [
        | inl t ↦ subst B e (begins_longer w w' (a.written ++ p.written) (puts (finish q.held q.out)) (begins_longer w w' a.written p.written t))
        | inr t ↦ subst B (first_run x.chunks ∙ ap run (all_read xs (Some ys) (joined x.chunks) x.reads (t.0 k))) t.1
      ]

-- as many bytes were handed on as the run of the lines that were read has
pub as_many : (d e : Desk) → d.state ≡ lengths 0 0 0 → Buffers d.line d.ledger d.table d.out → (r : RunsAs d e)
    → e.handed ≡ (d.handed + length (run (joined r.chunks))) % 2 ^ 64
as_many d e z b r = r.leaves.2 ∙ ap (λ (x : List ℕ). (d.handed + length x) % 2 ^ 64) (first_run d.state d.line d.ledger d.table d.out z b r.chunks)
