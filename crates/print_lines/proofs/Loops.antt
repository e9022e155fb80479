-- The loops: the digits of a number, and those of bytes. Assumes nothing.
use Prim.Native.Nat.{ℕ, zero, suc, ◌+◌, ◌-◌, ◌/◌, ◌%◌, ◌≤◌, ◌<◌}
use mathlib.Core.Path.{◌≡◌, refl, sym, ◌∙◌, ap}
use mathlib.Core.List.{List, [], ◌∷◌, ◌++◌, append_assoc, append-nil, map, reverse, reverse-append, reverse-reverse}
use native.Mathlib.Omega.{arith}
use lib.ListN.{length, set, length-append}
use Rattle.std.proofs.Common.{Bor}
use Rattle.std.proofs.lemmas.List.{map-append}
use Rattle.numeral.specs.Numeral.{unless_zero, digits_in, digits}
use Rattle.hexadecimal.specs.Hexadecimal.{hex_digit, hex}
use Rattle.print_lines.specs.Lines.{PutBefore}
use Rattle.print_lines.proofs.Laws.{none_put, one_put, both_put}

-- ---- a number

-- the digits `done` of n are put, those of v are still to be put
pub record DigitsSoFar (n v : ℕ) (before after : List ℕ) (end at : ℕ) : Type 0 where
  pub steps : ℕ
  pub done : List ℕ
  pub enough : v < steps
  pub fits : length (digits n) ≤ end
  pub inside : end ≤ length before
  pub same : digits_in steps v ++ done ≡ digits n
  pub put : PutBefore before after end at done

pub digits_start : (n : ℕ) (text : List ℕ) (end : ℕ) → length (digits n) ≤ end → end ≤ length text → DigitsSoFar n n text text end end
unfolding digits
digits_start n text end f i = record {
  steps = suc n;
  done = [];
  enough = omega arith;
  fits = f;
  inside = i;
  same = append-nil (digits_in (suc n) n);
  put = none_put text end;
}

not_zero : (q : ℕ) (text : ℕ → List ℕ) → (q ≡ 0 → ⊥) → unless_zero q text ≡ text q
not_zero zero text h = absurd (h refl)
not_zero (suc q) text h = refl

module _ {n v end at : ℕ} {before after : List ℕ} (f : DigitsSoFar n v before after end at) where
  -- one step less
  less : (k : ℕ) → f.steps ≡ suc k → unless_zero (v / 10) (λ q. digits_in k q) ++ ((48 + v % 10) ∷ f.done) ≡ digits n
  unfolding digits_in
  less k z =
      let s : digits_in (suc k) v ++ f.done ≡ digits n = rw z at f.same in
      sym (append_assoc (unless_zero (v / 10) (λ q. digits_in k q)) ((48 + v % 10) ∷ []) f.done) ∙ s

  abbrev last : ℕ
  last = f.steps - 1

  counted : f.steps ≡ suc last
  counted = let e = f.enough in omega arith

  -- a digit is still to be put
  pub digit_room : 1 ≤ at
  digit_room =
      let l = ap length (less last counted) in
      let m = length-append (unless_zero (v / 10) (λ q. digits_in last q)) ((48 + v % 10) ∷ f.done) in
      let p = f.put.place in
      let r = f.fits in
      omega arith

  next_put : PutBefore before (set after (at - 1) (48 + v % 10)) end (at - 1) ((48 + v % 10) ∷ f.done)
  next_put = one_put f.put (48 + v % 10) digit_room f.inside

  pub digits_next : (v / 10 ≡ 0 → ⊥) → DigitsSoFar n (v / 10) before (set after (at - 1) (48 + v % 10)) end (at - 1)
  digits_next h =
      let e = f.enough in
      record {
        steps = last;
        done = (48 + v % 10) ∷ f.done;
        enough = (let c = counted in omega arith);
        fits = f.fits;
        inside = f.inside;
        same = rw (← not_zero (v / 10) (λ q. digits_in last q) h) (less last counted);
        put = next_put;
      }

  pub digits_end : v / 10 ≡ 0 → PutBefore before (set after (at - 1) (48 + v % 10)) end (at - 1) (digits n)
  digits_end h = let t : (48 + v % 10) ∷ f.done ≡ digits n = rw h at (less last counted) in rw (← t) next_put

-- ---- bytes in hexadecimal

-- the bytes that a loop from the last to the first has had, in their order
abbrev pub seen : List (Bor ℕ) → List ℕ
seen bs = reverse (map (λ b. b.now) bs)

-- one byte more: its two digits are put
pub hex_next : (bs : List (Bor ℕ)) (b : Bor ℕ) {before after last : List ℕ} {end at from low high : ℕ} → PutBefore before after end at (hex (seen bs))
    → high ≡ hex_digit (b.now / 16) → low ≡ hex_digit (b.now % 16) → PutBefore after last at from (high ∷ low ∷ [])
    → PutBefore before last end from (hex (seen (bs ++ (b ∷ []))))
unfolding hex
hex_next bs b p x y q =
    let e : seen (bs ++ (b ∷ [])) ≡ b.now ∷ seen bs = ap reverse (map-append (λ (c : Bor ℕ). c.now) bs (b ∷ [])) ∙ reverse-append (map (λ (c : Bor ℕ). c.now) bs) (b.now ∷ []) in
    rw (e, ← x, ← y) (both_put p q)

-- the same, where the low digit is stored, and the high digit before that
pub hex_stored : (bs : List (Bor ℕ)) (b : Bor ℕ) {before after : List ℕ} {end at high low : ℕ} → PutBefore before after end at (hex (seen bs)) → 2 ≤ at
    → end ≤ length before → high ≡ hex_digit (b.now / 16) → low ≡ hex_digit (b.now % 16)
    → PutBefore before (set (set after (at - 1) low) (at - 1 - 1) high) end (at - 1 - 1) (hex (seen (bs ++ (b ∷ []))))
hex_stored bs b {after = after} {at = at} {high} {low} p r i x y =
    let l = p.place in
    let m = p.long in
    let j : at ≤ length after = omega arith in
    hex_next bs b p x y (one_put (one_put (none_put after at) low (omega arith) j) high (omega arith) j)

pub hex_end : (bs : List (Bor ℕ)) (bytes : List ℕ) {before after : List ℕ} {end at : ℕ} → map (λ b. b.now) bs ≡ reverse bytes → PutBefore before after end at (hex (seen bs))
    → PutBefore before after end at (hex bytes)
hex_end bs bytes e p = let s : seen bs ≡ bytes = ap reverse e ∙ reverse-reverse bytes in rw s at p
