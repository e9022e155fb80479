-- The hash of a text, unit after unit, and texts with different hashes. Assumes nothing.
use Prim.Native.Nat.{ℕ, ◌+◌, ◌*◌, ◌/◌, ◌≤◌, ◌<◌}
use mathlib.Core.Path.{◌≡◌, refl, sym, ap, ◌∙◌}
use mathlib.Core.Bool.{Bool, true, false}
use mathlib.Core.List.{List}
use lib.ListN.{length, get_or, drop}
use Rattle.sequences.specs.Lists.{units_of, same}
use Rattle.sequences.proofs.Same.{not_same, same_true, same_list}
use Rattle.sequences.proofs.Units.{unit_step, unit_end}
use Rattle.hash.specs.Hash.{mix_of, hash_from, seed}
use Rattle.name_classes.specs.Texts.{text_hash}

-- the hash of a text, of which k units are passed
abbrev pub Hashing : List ℕ → ℕ → ℕ → Type 0
Hashing text h k = hash_from h (units_of (drop (2 * k) text)) ≡ text_hash text

module _ (text : List ℕ) where
  pub hash_start : Hashing text seed 0
  hash_start = refl

  pub hash_next : (h k u h' : ℕ) → Hashing text h k → k < length text / 2 → u ≡ get_or text (2 * k) 0 + 256 * get_or text (2 * k + 1) 0
      → h' ≡ mix_of h u → Hashing text h' (k + 1)
  unfolding hash_from
  hash_next h k u h' x l e i = rw i (rw (unit_step text k _ refl l u e) at x)

  pub hash_end : (h k : ℕ) → Hashing text h k → length text / 2 ≤ k → h ≡ text_hash text
  unfolding hash_from
  hash_end h k x l = rw (unit_end text k _ refl l) at x

-- texts with different hashes
pub texts_differ : (s t : List ℕ) (g h : ℕ) → g ≡ text_hash s → h ≡ text_hash t → (g ≡ h → ⊥) → false ≡ same s t
texts_differ s t g h a b n = not_same s t (λ e. n (a ∙ ap text_hash e ∙ sym b))

-- what the test of two texts tells
pub texts_told : (s t : List ℕ) (b : Bool) → b ≡ same s t → (b ≡ true → s ≡ t) × (s ≡ t → b ≡ true)
texts_told s t b e = (λ h. same_true s t (sym e ∙ h), λ h. e ∙ (same_list s t).1 h)
