-- What is known at each turn of the loop that reads a number, and what each way out of it says. Assumes nothing.
use Prim.Native.Nat.{ℕ, zero, suc, ◌+◌, ◌-◌, ◌*◌, ◌%◌, ◌≤◌, ◌<◌, min}
use mathlib.Core.Path.{◌≡◌, refl, ◌∙◌}
use mathlib.Core.List.{List, [], ◌∷◌}
use native.Mathlib.Numerals.{add-one}
use native.Mathlib.Omega.{arith}
use lib.ListN.{length, get_or, drop, drop_of_length-le}
use lib.Seq.{drop-cons}
use Rattle.sequences.proofs.Tests.{tests}
use Rattle.std.specs.Prelude.{Ok, Err}
use Rattle.token.specs.Tokens.{largest}
use Rattle.token.specs.Faults.{refusal}
use Rattle.token.specs.declared.Fault.TheVariants.{Missing, BadNumber}
use Rattle.number.specs.Number.{NumberFront, spelled, unended, cut, after, front, number, number_judged, number_at}
use Rattle.number.specs.Bounds.{Within}
use Rattle.number.proofs.Capped.{sum_capped, unit_capped, regrouped}

-- a front read after some bytes that say `sum`, where a one in its first byte counts `unit`
abbrev pub onto : ℕ → ℕ → ℕ → NumberFront → NumberFront
onto sum unit taken (spelled value size) = spelled (sum + value * unit) (taken + size)
onto sum unit taken unended = unended
onto sum unit taken cut = cut

onto_after : (sum unit taken b : ℕ) (f : NumberFront) → onto sum unit taken (after b f) ≡ onto (sum + b % 128 * unit) (unit * 128) (suc taken) f
onto_after sum unit taken b (spelled value size) =
    let e = regrouped sum (b % 128) value unit in
    let t : taken + suc size ≡ suc taken + size = omega arith in
    rw (e, t)
onto_after sum unit taken b unended = refl
onto_after sum unit taken b cut = refl

onto_nothing : (f : NumberFront) → onto 0 1 0 f ≡ f
onto_nothing (spelled value size) =
    let e : 0 + value * 1 ≡ value = omega arith in
    let s : 0 + size ≡ size = omega arith in
    rw (e, s)
onto_nothing unended = refl
onto_nothing cut = refl

front_cut : (left : ℕ) → (left ≡ 0 → ⊥) → front left [] ≡ cut
unfolding front
front_cut zero n = absurd (n refl)
front_cut (suc left) n = refl

front_low : (left b : ℕ) (l : List ℕ) → (left ≡ 0 → ⊥) → b < 128 → front left (b ∷ l) ≡ spelled b 1
unfolding front
front_low zero b l n h = absurd (n refl)
front_low (suc left) b l n h = simp (tests, h)

front_high : (left b : ℕ) (l : List ℕ) → (left ≡ 0 → ⊥) → 128 ≤ b → front left (b ∷ l) ≡ after b (front (left - 1) l)
unfolding front
front_high zero b l n h = absurd (n refl)
front_high (suc left) b l n h = let e : suc left - 1 ≡ left = omega arith in rw e (simp (tests, h))

pub record Going (most : ℕ) (doc : List ℕ) (at value scale next left : ℕ) : Type 0 where
  -- what the bytes taken say, and what a one in the next byte counts, exactly
  pub sum : ℕ
  pub unit : ℕ
  pub counts : 1 ≤ unit
  pub sum_kept : value ≡ min sum 2147483648
  pub unit_kept : scale ≡ min unit 34359738368
  pub past : at ≤ next
  pub same : number_judged doc at (onto sum unit (next - at) (front left (drop next doc))) ≡ number_at most doc at

pub going_start : (most : ℕ) (doc : List ℕ) (at : ℕ) → Going most doc at 0 1 at most
unfolding number_at
going_start most doc at =
    let z : at - at ≡ 0 = omega arith in
    record {
      sum = 0;
      unit = 1;
      counts = omega arith;
      sum_kept = refl;
      unit_kept = refl;
      past = omega arith;
      same = rw (z, onto_nothing (front most (drop at doc)));
    }

module _ {most : ℕ} {doc : List ℕ} {at value scale next left : ℕ} (g : Going most doc at value scale next left) where
  -- no byte below 80 hex among those allowed
  pub too_many : left ≡ 0 → (Err (refusal BadNumber at) ≡ number_at most doc at) × Within (length doc) at (Err (refusal BadNumber at))
  unfolding front
  too_many e = ((rw e at g.same), tt)

  -- the document ends inside the number
  pub too_short : (left ≡ 0 → ⊥) → length doc ≤ next
      → (Err (refusal Missing (length doc)) ≡ number_at most doc at) × Within (length doc) at (Err (refusal Missing (length doc)))
  too_short n h = (rw (drop_of_length-le doc h, front_cut left n) at g.same, tt)

  module _ (some : left ≡ 0 → ⊥) (inside : next < length doc) {b : ℕ} (byte : b ≡ get_or doc next 0) where
    here : drop next doc ≡ b ∷ drop (next + 1) doc
    here = rw (byte, add-one, drop-cons doc next 0 inside)

    -- the sum with this byte's bits, as the code has it
    module _ {grown : ℕ} (kept : grown ≡ min (value + b % 128 * scale) 2147483648) where
      pub grown_is : grown ≡ min (g.sum + b % 128 * g.unit) 2147483648
      grown_is = kept ∙ (rw (g.sum_kept, g.unit_kept) (sum_capped g.sum g.unit (b % 128) g.counts))

      ended : b < 128 → number_judged doc at (spelled (g.sum + b * g.unit) (next - at + 1)) ≡ number_at most doc at
      ended h = rw (here, front_low left b (drop (next + 1) doc) some h) at g.same

      last_sum : b < 128 → grown ≡ min (g.sum + b * g.unit) 2147483648
      last_sum h = let e : b % 128 ≡ b = omega arith in rw e at grown_is

      -- the last byte, and the value is over the largest
      pub too_large : b < 128 → largest < grown → (Err (refusal BadNumber at) ≡ number_at most doc at) × Within (length doc) at (Err (refusal BadNumber at))
      too_large h l =
          let s = last_sum h in
          let over : largest < g.sum + b * g.unit = omega arith in
          (simp (tests, over) at (ended h), tt)

      -- the last byte
      pub found : b < 128 → grown ≤ largest → (Ok (number grown (next + 1)) ≡ number_at most doc at) × Within (length doc) at (Ok (number grown (next + 1)))
      found h l =
          let s = last_sum h in
          let exact : g.sum + b * g.unit ≡ grown = omega arith in
          let place : at + (next - at + 1) ≡ next + 1 = let p = g.past in omega arith in
          (simp (tests, l) at (rw (exact, place) at (ended h)), (let p = g.past in omega arith, omega arith, l))

      -- another byte
      pub going_on : 128 ≤ b → {raised : ℕ} → raised ≡ min (scale * 128) 34359738368 → Going most doc at grown raised (next + 1) (left - 1)
      going_on h {raised} e =
          let z : next + 1 - at ≡ suc (next - at) = let p = g.past in omega arith in
          let u : 1 ≤ g.unit * 128 = let c = g.counts in omega arith in
          record {
            sum = g.sum + b % 128 * g.unit;
            unit = g.unit * 128;
            counts = u;
            sum_kept = grown_is;
            unit_kept = e ∙ (rw g.unit_kept (unit_capped g.unit));
            past = let p = g.past in omega arith;
            same = rw z (rw (here, front_high left b (drop (next + 1) doc) some h, onto_after) at g.same);
          }
