-- The regions of all open documents, the innermost last in the array and first in the list. Assumes nothing.
use Prim.Native.Nat.{ℕ, suc, ◌+◌, ◌*◌, ◌≤◌}
use mathlib.Core.Path.{◌≡◌, refl, sym, ◌∙◌}
use mathlib.Core.Bool.{Bool}
use mathlib.Core.List.{List, [], ◌∷◌}
use native.Mathlib.Omega.{arith}
use lib.ListN.{length}
use Rattle.form.specs.Canonical.{place, absent}
use Rattle.form_slots.specs.Slots.{Cleared, region}
use Rattle.form_names.proofs.Marks.{slot_of, Marks, Agree, marks_agree}

module _ {A : Type 0} (same : A → A → Bool) (T : List A) where
  pub data Layers (slots : List ℕ) : List (List A) → Type 0 where
    bottom : Layers slots []
    layer : {c : List A} {cs : List (List A)} → Marks same T c slots (region * length cs) → Layers slots cs → Layers slots (c ∷ cs)

  pub layers_agree : {slots slots' : List ℕ} (few : length T ≤ 1024) (cs : List (List A)) → Agree (region * length cs) slots slots' → Layers slots cs → Layers slots' cs
  layers_agree few [] g bottom = bottom
  layers_agree {slots} {slots'} few (c ∷ cs) g (layer m l) =
      let less : Agree (region * length cs) slots slots' = record { each = λ k h. g.each k (omega arith) } in
      let room : region * length cs + region ≤ region * suc (length cs) = omega arith in
      layer {cs = cs} (marks_agree same g few room m) (layers_agree few cs less l)

  -- a document that has defined nothing
  slot_none : (a : A) → slot_of same [] a ≡ 0
  unfolding slot_of absent place
  slot_none a = refl

  pub marks_none : {slots slots' : List ℕ} {base : ℕ} → length T ≤ 1024 → Cleared slots slots' base → Marks same T [] slots' base
  marks_none {base = base} few x =
      record {
        count = x.inside base (omega arith) (omega arith);
        at = λ a h. x.inside (base + suc (place same T a)) (omega arith) (omega arith) ∙ sym (slot_none a);
      }

pub cleared_agree : {slots slots' : List ℕ} {base : ℕ} → Cleared slots slots' base → Agree base slots slots'
cleared_agree x = record { each = x.under }
