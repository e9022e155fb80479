-- How many documents are open at an event, from the balance of a reading's events. Assumes nothing.
use Prim.Native.Nat.{ℕ, suc, ◌+◌, ◌-◌, ◌≤◌, ◌<◌}
use mathlib.Core.Path.{◌≡◌, refl, ◌∙◌, ap}
use mathlib.Core.Bool.{Bool, true, false, cond, not, ◌&&◌}
use mathlib.Core.Option.{Option, none, some}
use mathlib.Core.List.{List, [], ◌∷◌}
use native.Mathlib.Omega.{arith}
use lib.Dec.{ltb, leb, eqb}
use lib.ListN.{length}
use borrow.Author.Tests.{ltb-true, leb-true}
use Rattle.sequences.proofs.Tests.{and_left, and_right}
use Rattle.token.specs.Tokens.{open_elements, nested_documents, class_of}
use Rattle.token.specs.declared.Class.{Class}
use Rattle.token.specs.declared.Class.TheVariants as class
use Rattle.machine.specs.Machine.{EventRow}
use Rattle.machine.specs.Balance.{Opened, opened, total, innermost, raised, lowered, around, outside, only, taken_by, and_then, check}
use Rattle.form_items.specs.declared.Item.{Item}
use Rattle.form_items.specs.declared.Item.TheVariants.{Byte, Texted, Pi, Refer, Valued, Nest, Leave}
use Rattle.form_items.specs.Items.{item_by, item_of}

-- the documents open before and after an item
abbrev pub Deeper : Item → ℕ → ℕ → Type 0
Deeper (Byte value) n m = m ≡ n
Deeper (Texted token place units) n m = m ≡ n
Deeper (Pi row start) n m = m ≡ n
Deeper (Refer token row) n m = m ≡ n
Deeper (Valued token place size) n m = m ≡ n
Deeper (Nest version) n m = (n ≤ 8) × (m ≡ n + 1)
Deeper Leave n m = (1 < n) × (m ≡ n - 1)

abbrev pub docs : Opened → ℕ
docs o = length o.documents

only_some : (t : Bool) (b o : Opened) → only t b ≡ some o → (t ≡ true) × (o ≡ b)
only_some true b o e = (refl, cc)
only_some false b o e = absurd (let z : ◌≡◌ {A = ℕ} 0 1 = cc in let q : ⊥ = omega arith in q)

same_some : (b o : Opened) → ◌≡◌ {A = Option Opened} (some b) (some o) → docs o ≡ docs b
same_some b o e = let i : o ≡ b = cc in ap docs i

raised_long : (l : List ℕ) → length (raised l) ≡ length l
raised_long [] = refl
raised_long (n ∷ l) = refl

lowered_long : (l : List ℕ) → length (lowered l) ≡ length l
lowered_long [] = refl
lowered_long (n ∷ l) = refl

around_long : (l : List ℕ) → length (around l) ≡ length l - 1
around_long [] = refl
around_long (n ∷ l) = omega arith

value_deeper : (t : Bool) (e : EventRow) (n m : ℕ) → m ≡ n → Deeper (cond t (Refer e.token e.a) (Valued e.token e.a e.b)) n m
value_deeper true e n m h = h
value_deeper false e n m h = h

class_deeper : (c : Class) (e : EventRow) (b o : Opened) → taken_by c b ≡ some o → Deeper (item_by c e) (docs b) (docs o)
class_deeper class.Unknown e b o h = same_some b o h
class_deeper class.Value e b o h = value_deeper (eqb e.token 0x8C) e (docs b) (docs o) (same_some b o h)
class_deeper class.LaterValue e b o h = same_some b o h
class_deeper class.XmlDecl e b o h = same_some b o h
class_deeper class.Encoding e b o h = same_some b o h
class_deeper class.DocType e b o h = same_some b o h
class_deeper class.System e b o h = same_some b o h
class_deeper class.Public e b o h = same_some b o h
class_deeper class.Subset e b o h = same_some b o h
class_deeper class.Element e b o h = ap docs (only_some (outside b && ltb (total b.documents) open_elements) (opened (raised b.documents) false false) o h).1 ∙ raised_long b.documents
class_deeper class.EndElement e b o h = ap docs (only_some (outside b && ltb 0 (innermost b.documents)) (opened (lowered b.documents) false false) o h).1 ∙ lowered_long b.documents
class_deeper class.Attribute e b o h = ap docs (only_some (not b.section) (opened b.documents true false) o h).1
class_deeper class.EndAttributes e b o h = ap docs (only_some (b.list && not b.section) (opened b.documents false false) o h).1
class_deeper class.Pi e b o h = same_some b o h
class_deeper class.Comment e b o h = same_some b o h
class_deeper class.Cdata e b o h = ap docs (only_some (not b.list) (opened b.documents false true) o h).1
class_deeper class.CdataEnd e b o h = ap docs (only_some (not b.list && b.section) (opened b.documents false false) o h).1
class_deeper class.NameDef e b o h = same_some b o h
class_deeper class.QnameDef e b o h = same_some b o h
class_deeper class.Nest e b o h =
    let x = only_some (outside b && leb (length b.documents) nested_documents) (opened (0 ∷ b.documents) false false) o h in
    let i : docs o ≡ suc (docs b) = ap docs x.1 in
    (leb-true _ _ (and_right (outside b) _ x.0), omega arith)
class_deeper class.EndNest e b o h =
    let x = only_some ((outside b && ltb 1 (length b.documents)) && eqb (innermost b.documents) 0) (opened (around b.documents) false false) o h in
    (ltb-true _ _ (and_right (outside b) _ (and_left (outside b && ltb 1 (length b.documents)) _ x.0)), ap docs x.1 ∙ around_long b.documents)
class_deeper class.Extension e b o h = same_some b o h
class_deeper class.Flush e b o h = same_some b o h

-- the next event of a balanced list, and the rest of it
pub record Next (o fin : Opened) (e : EventRow) (es : List EventRow) : Type 0 where
  pub after : Opened
  pub deeper : Deeper (item_of e) (docs o) (docs after)
  pub rest : check after es ≡ some fin

pub next : (o fin : Opened) (e : EventRow) (es : List EventRow) → check o (e ∷ es) ≡ some fin → Next o fin e es
unfolding item_of
next o fin e es h = go (taken_by (class_of e.token) o) refl h
  where
    go : (x : Option Opened) → taken_by (class_of e.token) o ≡ x → and_then (λ c. check c es) x ≡ some fin → Next o fin e es
    go none i h = absurd (let z : ◌≡◌ {A = ℕ} 0 1 = cc in let q : ⊥ = omega arith in q)
    go (some c) i h = record { after = c; deeper = class_deeper (class_of e.token) e o c i; rest = h }
