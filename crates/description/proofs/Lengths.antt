-- How long a live text is, member by member, and at most.
use Prim.Native.Nat.{ℕ, ◌+◌, ◌*◌, ◌/◌, ◌≤◌, ◌<◌}
use native.Mathlib.Omega.{arith}
use mathlib.Core.Path.{◌≡◌}
use mathlib.Core.List.{List, [], ◌∷◌, ◌++◌, append_assoc}
use lib.ListN.{length, length-append}
use Rattle.texts.specs.Hex.{hex}
use Rattle.texts.specs.Decimal.{decimal, decimal_most}
use Rattle.texts.specs.Base64url.{base64url}
use Rattle.texts.proofs.Hexes.{length_hex}
use Rattle.texts.proofs.Decimals.{length_decimal, most_in}
use Rattle.texts.proofs.Letters.{length_base64url}
use Rattle.description.specs.Literal.{bytes}
use Rattle.description.specs.Scope.{scope_names}
use Rattle.description.specs.Description.{Description, client_member, sub_member, exp_member, scope_member, cnf_member, live_text}
use Rattle.description.specs.Apart.{Fielded, most_with, expiry_digits, Longest}
use Rattle.description.proofs.Names.{length_names}

pub length_client : (id : List ℕ) → length (client_member id) ≡ 14 + 2 * length id
unfolding client_member
length_client id = let e = length-append (hex id) (34 ∷ []) in let f = length_hex id in omega arith

pub length_sub : (who : ℕ) → length (sub_member who) ≡ 8 + length (decimal who)
unfolding sub_member
length_sub who = let e = length-append (decimal who) (34 ∷ []) in omega arith

pub length_exp : (until : ℕ) → length (exp_member until) ≡ 6 + length (decimal until)
unfolding exp_member
length_exp until = omega arith

pub length_scope : (bits : ℕ) → length (scope_member bits) ≡ 10 + length (scope_names bits)
unfolding scope_member
length_scope bits = let e = length-append (scope_names bits) (34 ∷ []) in omega arith

pub length_cnf : (key : List ℕ) → length (cnf_member key) ≡ 21 + (4 * length key + 2) / 3
unfolding cnf_member
length_cnf key = let e = length-append (base64url key) (34 ∷ 125 ∷ []) in let f = length_base64url key in omega arith

-- the last member, and the end of the object
pub length_last : (key : List ℕ) → length (cnf_member key ++ (125 ∷ [])) ≡ 22 + (4 * length key + 2) / 3
length_last key = let e = length-append (cnf_member key) (125 ∷ []) in let f = length_cnf key in omega arith

pub last_member : (key : List ℕ) → cnf_member key ++ (125 ∷ []) ≡ bytes "\"cnf\":{\"x5t#S256\":\"" ++ (base64url key ++ bytes "\"}}")
unfolding cnf_member
last_member key = rw (append_assoc (base64url key) (34 ∷ 125 ∷ []) (125 ∷ []))

-- a live text as it is written: the words that stand before each value, and the value
pub live_pieces : (d : Description) → live_text d ≡ bytes "{\"active\":true,\"client_id\":\"" ++ (hex d.client
    ++ (bytes "\",\"sub\":\"" ++ (decimal d.holder
    ++ (bytes "\",\"exp\":" ++ (decimal d.expiry
    ++ (bytes ",\"scope\":\"" ++ (scope_names d.scope
    ++ (bytes "\",\"cnf\":{\"x5t#S256\":\"" ++ (base64url d.key ++ bytes "\"}}")))))))))
unfolding live_text client_member sub_member exp_member scope_member cnf_member
live_pieces d = simp append_assoc

pub length_live : (d : Description) → length (live_text d) ≡ 15 + (length (client_member d.client) + (1 + (length (sub_member d.holder)
    + (1 + (length (exp_member d.expiry) + (1 + (length (scope_member d.scope) + (1 + length (cnf_member d.key ++ (125 ∷ []))))))))))
unfolding live_text
length_live d =
    let z = cnf_member d.key ++ (125 ∷ []) in
    let y = scope_member d.scope ++ (44 ∷ z) in
    let x = exp_member d.expiry ++ (44 ∷ y) in
    let w = sub_member d.holder ++ (44 ∷ x) in
    let e = length-append (client_member d.client) (44 ∷ w) in
    let f = length-append (sub_member d.holder) (44 ∷ x) in
    let g = length-append (exp_member d.expiry) (44 ∷ y) in
    let h = length-append (scope_member d.scope) (44 ∷ z) in
    omega arith

-- the digits of the client and the bytes of the key alone are shorter
pub live_least : (d : Description) → 2 * length d.client + length d.key < length (live_text d)
live_least d = omega (arith, length_live d, length_client d.client, length_last d.key)

-- ---- at most

by_digits : (d : Description) (n : ℕ) → Fielded d → length (decimal d.expiry) ≤ n → length (live_text d) ≤ most_with n
by_digits d n f h =
    let c = f.client in
    let k = f.key in
    omega (
      arith,
      length_live d,
      length_client d.client,
      length_sub d.holder,
      length_decimal d.holder f.holder,
      length_exp d.expiry,
      length_scope d.scope,
      length_names d.scope,
      length_last d.key,
    )

pub longest : Longest
longest = record {
  scope = length_names;
  widest = λ d f. by_digits d decimal_most f (length_decimal d.expiry f.expiry);
  sound = λ d f h. by_digits d expiry_digits f (most_in 12 d.expiry h);
}
