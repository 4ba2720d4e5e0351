-- Two descriptions never have one text: the texts are read from the front, member by member.
use Prim.Native.Nat.{ℕ}
use native.Mathlib.Omega.{arith}
use mathlib.Core.Path.{◌≡◌, refl, sym, ap, ◌∙◌}
use mathlib.Core.Bool.{Bool, true, false}
use mathlib.Core.List.{List, [], ◌∷◌, ◌++◌, append_assoc}
use lib.ListN.{length, get_or, drop, length-append}
use Rattle.octets.specs.Lists.{every}
use Rattle.texts.specs.Hex.{is_digit, hex}
use Rattle.texts.specs.Decimal.{is_decimal, decimal}
use Rattle.texts.specs.Base64url.{base64url}
use Rattle.texts.proofs.Apart.{by_length, by_end}
use Rattle.texts.proofs.Hexes.{hex_digits, hex_injective}
use Rattle.texts.proofs.Decimals.{digits_decimal, decimal_injective}
use Rattle.texts.proofs.Letters.{base64url_injective}
use Rattle.description.specs.Scope.{scope_names}
use Rattle.description.specs.Description.{Description, described, client_member, sub_member, exp_member, scope_member, cnf_member, live_text, inactive_text}
use Rattle.description.specs.Apart.{Described, Apart, NeverInactive}
use Rattle.description.proofs.Bits.{scope_apart}
use Rattle.description.proofs.Lengths.{last_member}

-- ---- what stands behind each member

after_scope : Description → List ℕ
after_scope d = 44 ∷ (cnf_member d.key ++ (125 ∷ []))

after_exp : Description → List ℕ
after_exp d = scope_member d.scope ++ after_scope d

after_sub : Description → List ℕ
after_sub d = 44 ∷ (exp_member d.expiry ++ (44 ∷ after_exp d))

after_client : Description → List ℕ
after_client d = 44 ∷ (sub_member d.holder ++ after_sub d)

-- a quoted value ends at the quote
quoted : (q : ℕ → Bool) (xs ys s t : List ℕ) → every q xs ≡ true → every q ys ≡ true → q 34 ≡ false
    → (xs ++ (34 ∷ [])) ++ s ≡ (ys ++ (34 ∷ [])) ++ t → (xs ≡ ys) × (s ≡ t)
quoted q xs ys s t p r f e =
    by_end q xs ys 34 34 s t p r f f (sym (append_assoc xs (34 ∷ []) s) ∙ e ∙ append_assoc ys (34 ∷ []) t)

module _ (d e : Description) where
  read_client : Described d → Described e → live_text d ≡ live_text e → (d.client ≡ e.client) × (after_client d ≡ after_client e)
  unfolding live_text client_member after_client after_sub after_exp after_scope is_digit
  read_client v w h =
      let r = quoted is_digit (hex d.client) (hex e.client) (after_client d) (after_client e) (hex_digits _ v.client) (hex_digits _ w.client) refl (ap (drop 28) h) in
      (hex_injective _ _ v.client w.client r.0, r.1)

  read_sub : after_client d ≡ after_client e → (d.holder ≡ e.holder) × (after_sub d ≡ after_sub e)
  unfolding after_client sub_member is_decimal
  read_sub h =
      let r = quoted is_decimal (decimal d.holder) (decimal e.holder) (after_sub d) (after_sub e) (digits_decimal _) (digits_decimal _) refl (ap (drop 8) h) in
      (decimal_injective _ _ r.0, r.1)

  read_exp : after_sub d ≡ after_sub e → (d.expiry ≡ e.expiry) × (after_exp d ≡ after_exp e)
  unfolding after_sub exp_member is_decimal
  read_exp h =
      let r = by_end is_decimal (decimal d.expiry) (decimal e.expiry) 44 44 (after_exp d) (after_exp e) (digits_decimal _) (digits_decimal _) refl refl (ap (drop 7) h) in
      (decimal_injective _ _ r.0, r.1)

  read_scope : Described d → Described e → after_exp d ≡ after_exp e → (d.scope ≡ e.scope) × (after_scope d ≡ after_scope e)
  unfolding after_exp scope_member
  read_scope v w h =
      let f : (scope_names d.scope ++ (34 ∷ [])) ++ after_scope d ≡ (scope_names e.scope ++ (34 ∷ [])) ++ after_scope e = ap (drop 9) h in
      scope_apart d.scope e.scope (after_scope d) (after_scope e) v.scope w.scope
      (sym (append_assoc (scope_names d.scope) (34 ∷ []) (after_scope d)) ∙ f ∙ append_assoc (scope_names e.scope) (34 ∷ []) (after_scope e))

  read_key : Described d → Described e → after_scope d ≡ after_scope e → d.key ≡ e.key
  unfolding after_scope
  read_key v w h =
      let k = base64url d.key in
      let l = base64url e.key in
      let z : List ℕ = 34 ∷ 125 ∷ 125 ∷ [] in
      let f : k ++ z ≡ l ++ z = ap (drop 19) (sym (last_member d.key) ∙ ap (drop 1) h ∙ last_member e.key) in
      let a = length-append k z in
      let b = length-append l z in
      let c = ap length f in
      let n : length k ≡ length l = omega arith in
      base64url_injective d.key e.key v.key w.key (by_length k l z z n f).0

same : (d e : Description) → d.client ≡ e.client → d.holder ≡ e.holder → d.expiry ≡ e.expiry → d.scope ≡ e.scope → d.key ≡ e.key → d ≡ e
same d e p q r s t =
    ap (λ (x : List ℕ). described x d.holder d.expiry d.scope d.key) p
    ∙ ap (λ (x : ℕ). described e.client x d.expiry d.scope d.key) q
    ∙ ap (λ (x : ℕ). described e.client e.holder x d.scope d.key) r
    ∙ ap (λ (x : ℕ). described e.client e.holder e.expiry x d.key) s
    ∙ ap (λ (x : List ℕ). described e.client e.holder e.expiry e.scope x) t

pub apart : Apart
apart d e v w h =
    let a = read_client d e v w h in
    let b = read_sub d e a.1 in
    let c = read_exp d e b.1 in
    let s = read_scope d e v w c.1 in
    same d e a.0 b.0 c.0 s.0 (read_key d e v w s.1)

-- the eleventh character: t of true, f of false
pub never_inactive : NeverInactive
unfolding live_text inactive_text
never_inactive d h = let e : ◌≡◌ {A = ℕ} 116 102 = ap (λ (l : List ℕ). get_or l 10 0) h in omega arith
