-- Laws of the checker of what opens and closes: it takes events one run after the other, and keeps 01's bounds. Assumes nothing.
use Prim.Native.Nat.{ℕ, ◌+◌, ◌≤◌, ◌<◌}
use mathlib.Core.Path.{◌≡◌, refl, sym, ◌∙◌, subst}
use mathlib.Core.Bool.{Bool, true, not, ◌&&◌}
use mathlib.Core.List.{List, [], ◌∷◌, ◌++◌}
use mathlib.Core.Option.{Option, none, some}
use native.Mathlib.Omega.{arith}
use lib.Dec.{ltb, leb, eqb}
use lib.ListN.{length}
use borrow.Author.Tests.{ltb-true, leb-true}
use Rattle.sequences.proofs.Tests.{cond_if, and_right}
use Rattle.token.specs.Tokens.{open_elements, nested_documents, class_of}
use Rattle.token.specs.declared.Class.{Class}
use Rattle.token.specs.declared.Class.TheVariants as class
use Rattle.machine.specs.Machine.{EventRow}
use Rattle.machine.specs.Balance.{Opened, nothing_open, total, innermost, raised, lowered, around, outside, only, taken_by, taken, and_then, check, AtMost}

-- ---- the checker's run

pub check_append : (es fs : List EventRow) (b : Opened) → check b (es ++ fs) ≡ and_then (λ c. check c fs) (check b es)
check_append [] fs b = refl
check_append (e ∷ es) fs b = go (λ c. check_append es fs c) (taken e.token b)
  where
    go : ((c : Opened) → check c (es ++ fs) ≡ and_then (λ d. check d fs) (check c es)) → (o : Option Opened)
        → and_then (λ c. check c (es ++ fs)) o ≡ and_then (λ c. check c fs) (and_then (λ c. check c es) o)
    go k none = refl
    go k (some c) = k c

-- where it takes some events, it takes those at their front
pub record Taken (b : Opened) (es : List EventRow) : Type 0 where
  pub after : Opened
  pub reached : check b es ≡ some after

pub front_taken : (front back : List EventRow) (b : Opened) {c : Opened} → check b (front ++ back) ≡ some c → Taken b front
front_taken front back b {c} e = go (check b front) refl (sym (check_append front back b) ∙ e)
  where
    go : (o : Option Opened) → check b front ≡ o → and_then (λ d. check d back) o ≡ some c → Taken b front
    go none r e = absurd (let z : ◌≡◌ {A = ℕ} 0 1 = cc in let q : ⊥ = omega arith in q)
    go (some d) r e = record { after = d; reached = r }

-- ---- the bounds hold after each event

abbrev Bounds : Option Opened → Type 0
Bounds none = Unit
Bounds (some b) = (total b.documents ≤ 64) × (length b.documents ≤ 9)

only_bounds : (t : Bool) (b : Opened) → (t ≡ true → Bounds (some b)) → Bounds (only t b)
only_bounds t b f = cond_if Bounds t (some b) none f (λ e. tt)

raised_total : (ds : List ℕ) → (total (raised ds) ≤ total ds + 1) × (length (raised ds) ≡ length ds)
raised_total [] = (omega arith, refl)
raised_total (n ∷ ns) = (omega arith, refl)

lowered_total : (ds : List ℕ) → (total (lowered ds) ≤ total ds) × (length (lowered ds) ≡ length ds)
lowered_total [] = (omega arith, refl)
lowered_total (n ∷ ns) = (omega arith, refl)

around_total : (ds : List ℕ) → (total (around ds) ≤ total ds) × (length (around ds) ≤ length ds)
around_total [] = (omega arith, omega arith)
around_total (n ∷ ns) = (omega arith, omega arith)

taken_bounds : (c : Class) (b : Opened) → Bounds (some b) → Bounds (taken_by c b)
taken_bounds class.Unknown b h = h
taken_bounds class.Value b h = h
taken_bounds class.LaterValue b h = h
taken_bounds class.XmlDecl b h = h
taken_bounds class.Encoding b h = h
taken_bounds class.DocType b h = h
taken_bounds class.System b h = h
taken_bounds class.Public b h = h
taken_bounds class.Subset b h = h
taken_bounds class.Element b h =
    only_bounds (outside b && ltb (total b.documents) open_elements) _
    (λ t. let l : total b.documents < 64 = ltb-true _ _ (and_right (outside b) _ t) in let r = raised_total b.documents in omega arith)
taken_bounds class.EndElement b h =
    only_bounds (outside b && ltb 0 (innermost b.documents)) _ (λ t. let r = lowered_total b.documents in omega arith)
taken_bounds class.Attribute b h = only_bounds (not b.section) _ (λ t. h)
taken_bounds class.EndAttributes b h = only_bounds (b.list && not b.section) _ (λ t. h)
taken_bounds class.Pi b h = h
taken_bounds class.Comment b h = h
taken_bounds class.Cdata b h = only_bounds (not b.list) _ (λ t. h)
taken_bounds class.CdataEnd b h = only_bounds (not b.list && b.section) _ (λ t. h)
taken_bounds class.NameDef b h = h
taken_bounds class.QnameDef b h = h
taken_bounds class.Nest b h =
    only_bounds (outside b && leb (length b.documents) nested_documents) _
    (λ t. let l : length b.documents ≤ 8 = leb-true _ _ (and_right (outside b) _ t) in omega arith)
taken_bounds class.EndNest b h =
    only_bounds (outside b && ltb 1 (length b.documents) && eqb (innermost b.documents) 0) _ (λ t. let r = around_total b.documents in omega arith)
taken_bounds class.Extension b h = h
taken_bounds class.Flush b h = h

check_bounds : (es : List EventRow) (b : Opened) → Bounds (some b) → Bounds (check b es)
check_bounds [] b h = h
check_bounds (e ∷ es) b h = go (λ c k. check_bounds es c k) (taken e.token b) (taken_bounds (class_of e.token) b h)
  where
    go : ((c : Opened) → Bounds (some c) → Bounds (check c es)) → (o : Option Opened) → Bounds o → Bounds (and_then (λ c. check c es) o)
    go f none k = tt
    go f (some c) k = f c k

-- after any events that the checker takes from the start on
pub taken_at_most : {es : List EventRow} → Taken nothing_open es → AtMost es
taken_at_most {es} t =
    let b = subst Bounds t.reached (check_bounds es nothing_open (let q : (0 ≤ 64) × (1 ≤ 9) = omega arith in q)) in
    record { after = t.after; reached = t.reached; elements = b.0; nested = b.1 }
