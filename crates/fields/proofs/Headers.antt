-- A header byte by byte: what each of its five answers says. Assumes nothing.
use Prim.Native.Nat.{ℕ, ◌+◌, ◌≤◌, ◌<◌}
use mathlib.Core.Path.{◌≡◌, refl, sym, ◌∙◌, ap, subst}
use mathlib.Core.Bool.{Bool, true, false, cond, ◌&&◌}
use mathlib.Core.List.{List}
use native.Mathlib.Omega.{arith}
use lib.Dec.{ltb, leb}
use lib.ListN.{length, get_or}
use borrow.Author.Tests.{ltb-true, leb-true}
use Rattle.std.specs.Prelude.{Result, Ok, Err}
use Rattle.sequences.proofs.Tests.{cond_if, and_left, and_right}
use Rattle.token.specs.Faults.{refusal}
use Rattle.token.specs.declared.Fault.TheVariants.{Missing, BadHeader}
use Rattle.token.specs.declared.Refusal.{Refusal}
use Rattle.fields.specs.Fields.{header_judged, header_at}
use Rattle.fields.specs.Bounds.{HeaderWithin}
use Rattle.fields.specs.Faults.{byte_judged}
use Rattle.fields.specs.declared.Header.{Header}

-- a byte's refusal, or what follows it
onto : Result Unit Refusal → Result Header Refusal → Result Header Refusal
onto (Ok u) onward = onward
onto (Err r) onward = Err r

module _ (doc : List ℕ) (at first last : ℕ) where
  judged : (onward : Result Header Refusal) → onto (byte_judged doc at first last) onward ≡ header_judged doc at first last onward
  unfolding byte_judged onto
  judged onward = go (ltb at (length doc)) (leb first (get_or doc at 0) && leb (get_or doc at 0) last)
    where
      go : (t u : Bool) → onto (cond t (cond u (Ok tt) (Err (refusal BadHeader at))) (Err (refusal Missing (length doc)))) onward ≡ cond t (cond u onward (Err (refusal BadHeader at))) (Err (refusal Missing (length doc)))
      go true true = refl
      go true false = refl
      go false u = refl

  -- what is known of a byte that was judged right
  abbrev pub Right : Type 0
  Right = (at < length doc) × (first ≤ get_or doc at 0) × (get_or doc at 0 ≤ last)

module _ (doc : List ℕ) (at first last : ℕ) {r : Result Unit Refusal} (e : r ≡ byte_judged doc at first last) where
  pub wrong : {f : Refusal} (onward : Result Header Refusal) → r ≡ Err f → Err f ≡ header_judged doc at first last onward
  unfolding onto
  wrong onward g = ap (λ (x : Result Unit Refusal). onto x onward) (sym g ∙ e) ∙ judged doc at first last onward

  pub right : {u : Unit} {onward : Result Header Refusal} → r ≡ Ok u → onward ≡ header_judged doc at first last onward
  unfolding onto
  right {onward = onward} g = ap (λ (x : Result Unit Refusal). onto x onward) (sym g ∙ e) ∙ judged doc at first last onward

  pub within : {u : Unit} → r ≡ Ok u → Right doc at first last
  unfolding byte_judged
  within {u} g = go (ltb at (length doc)) (leb first (get_or doc at 0)) (leb (get_or doc at 0) last) refl refl refl (sym g ∙ e)
    where
      go : (t a b : Bool) → ltb at (length doc) ≡ t → leb first (get_or doc at 0) ≡ a → leb (get_or doc at 0) last ≡ b
          → Ok u ≡ cond t (cond (a && b) (Ok tt) (Err (refusal BadHeader at))) (Err (refusal Missing (length doc))) → Right doc at first last
      go true true true x y z h = (ltb-true _ _ x, leb-true _ _ y, leb-true _ _ z)
      go true true false x y z h = absurd (let w : ◌≡◌ {A = ℕ} 0 1 = cc in let q : ⊥ = omega arith in q)
      go true false b x y z h = absurd (let w : ◌≡◌ {A = ℕ} 0 1 = cc in let q : ⊥ = omega arith in q)
      go false a b x y z h = absurd (let w : ◌≡◌ {A = ℕ} 0 1 = cc in let q : ⊥ = omega arith in q)

-- a refusal is inside any bounds
pub refused_at : (doc : List ℕ) (at : ℕ) {x : Result Header Refusal} {f : Refusal} → x ≡ Err f → Err f ≡ header_at doc at → (x ≡ header_at doc at) × HeaderWithin (length doc) at x
refused_at doc at e h = (e ∙ h, subst (λ (y : Result Header Refusal). HeaderWithin (length doc) at y) (sym e) tt)

pub header_within : (doc : List ℕ) (at : ℕ) → HeaderWithin (length doc) at (header_at doc at)
unfolding header_at
header_within doc at =
    kept at 0xDF 0xDF _ λ a1 b1 c1. kept (at + 1) 0xFF 0xFF _ λ a2 b2 c2. kept (at + 2) 1 2 _ λ a3 b3 c3.
    kept (at + 3) 0xB0 0xB0 _ λ a4 b4 c4. kept (at + 4) 0x04 0x04 _ λ a5 b5 c5. (refl, omega arith, b3, c3)
  where
    kept : (p first last : ℕ) (onward : Result Header Refusal)
        → (p < length doc → first ≤ get_or doc p 0 → get_or doc p 0 ≤ last → HeaderWithin (length doc) at onward)
        → HeaderWithin (length doc) at (header_judged doc p first last onward)
    kept p first last onward f =
        cond_if (HeaderWithin (length doc) at) (ltb p (length doc)) _ _
        (λ t. cond_if (HeaderWithin (length doc) at) (leb first (get_or doc p 0) && leb (get_or doc p 0) last) _ _
        (λ u. f (ltb-true _ _ t) (leb-true _ _ (and_left (leb first (get_or doc p 0)) _ u)) (leb-true _ _ (and_right (leb first (get_or doc p 0)) _ u)))
        (λ u. tt))
        (λ t. tt)
