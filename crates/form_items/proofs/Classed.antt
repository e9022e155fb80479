-- The item of a token whose class is one of several that are taken alike. Assumes nothing.
use Prim.Native.Nat.{ℕ}
use mathlib.Core.Path.{◌≡◌, refl, ◌∙◌}
use mathlib.Core.List.{[], ◌∷◌}
use lib.Dec.{T}
use types.Run.{OneOf}
use denote.Enum.Declared.{tag_of}
use Rattle.sequences.proofs.Match.{among, one_of}
use Rattle.token.specs.contracts.Class.{the_type}
use Rattle.token.specs.Tokens.{class_of}
use Rattle.token.specs.declared.Class.{Class}
use Rattle.token.specs.declared.Class.TheVariants as class
use Rattle.machine.specs.Machine.{EventRow, event}
use Rattle.form_items.specs.declared.Item.{Item}
use Rattle.form_items.specs.declared.Item.TheVariants.{Byte, Texted, Refer}
use Rattle.form_items.specs.Items.{item_by, item_of}

refers_by : (c : Class) (e : EventRow) → T (among (9 ∷ 11 ∷ []) (tag_of the_type c)) → Refer e.token e.a ≡ item_by c e
refers_by class.Unknown e h = absurd h
refers_by class.Value e h = absurd h
refers_by class.LaterValue e h = absurd h
refers_by class.XmlDecl e h = absurd h
refers_by class.Encoding e h = absurd h
refers_by class.DocType e h = absurd h
refers_by class.System e h = absurd h
refers_by class.Public e h = absurd h
refers_by class.Subset e h = absurd h
refers_by class.Element e h = refl
refers_by class.EndElement e h = absurd h
refers_by class.Attribute e h = refl
refers_by class.EndAttributes e h = absurd h
refers_by class.Pi e h = absurd h
refers_by class.Comment e h = absurd h
refers_by class.Cdata e h = absurd h
refers_by class.CdataEnd e h = absurd h
refers_by class.NameDef e h = absurd h
refers_by class.QnameDef e h = absurd h
refers_by class.Nest e h = absurd h
refers_by class.EndNest e h = absurd h
refers_by class.Extension e h = absurd h
refers_by class.Flush e h = absurd h

pub refers : (c : Class) (e : EventRow) → OneOf (9 ∷ 11 ∷ []) (tag_of the_type c) → Refer e.token e.a ≡ item_by c e
refers c e h = refers_by c e (one_of (9 ∷ 11 ∷ []) (tag_of the_type c) h)

bytes_by : (c : Class) (e : EventRow) → T (among (10 ∷ 12 ∷ 16 ∷ 17 ∷ 18 ∷ 21 ∷ 22 ∷ []) (tag_of the_type c)) → Byte e.token ≡ item_by c e
bytes_by class.Unknown e h = absurd h
bytes_by class.Value e h = absurd h
bytes_by class.LaterValue e h = absurd h
bytes_by class.XmlDecl e h = absurd h
bytes_by class.Encoding e h = absurd h
bytes_by class.DocType e h = absurd h
bytes_by class.System e h = absurd h
bytes_by class.Public e h = absurd h
bytes_by class.Subset e h = absurd h
bytes_by class.Element e h = absurd h
bytes_by class.EndElement e h = refl
bytes_by class.Attribute e h = absurd h
bytes_by class.EndAttributes e h = refl
bytes_by class.Pi e h = absurd h
bytes_by class.Comment e h = absurd h
bytes_by class.Cdata e h = absurd h
bytes_by class.CdataEnd e h = refl
bytes_by class.NameDef e h = refl
bytes_by class.QnameDef e h = refl
bytes_by class.Nest e h = absurd h
bytes_by class.EndNest e h = absurd h
bytes_by class.Extension e h = refl
bytes_by class.Flush e h = refl

pub bytes : (c : Class) (e : EventRow) → OneOf (10 ∷ 12 ∷ 16 ∷ 17 ∷ 18 ∷ 21 ∷ 22 ∷ []) (tag_of the_type c) → Byte e.token ≡ item_by c e
bytes c e h = bytes_by c e (one_of (10 ∷ 12 ∷ 16 ∷ 17 ∷ 18 ∷ 21 ∷ 22 ∷ []) (tag_of the_type c) h)

texts_by : (c : Class) (e : EventRow) → T (among (3 ∷ 4 ∷ 5 ∷ 6 ∷ 7 ∷ 8 ∷ 14 ∷ 15 ∷ []) (tag_of the_type c)) → Texted e.token e.a e.b ≡ item_by c e
texts_by class.Unknown e h = absurd h
texts_by class.Value e h = absurd h
texts_by class.LaterValue e h = absurd h
texts_by class.XmlDecl e h = refl
texts_by class.Encoding e h = refl
texts_by class.DocType e h = refl
texts_by class.System e h = refl
texts_by class.Public e h = refl
texts_by class.Subset e h = refl
texts_by class.Element e h = absurd h
texts_by class.EndElement e h = absurd h
texts_by class.Attribute e h = absurd h
texts_by class.EndAttributes e h = absurd h
texts_by class.Pi e h = absurd h
texts_by class.Comment e h = refl
texts_by class.Cdata e h = refl
texts_by class.CdataEnd e h = absurd h
texts_by class.NameDef e h = absurd h
texts_by class.QnameDef e h = absurd h
texts_by class.Nest e h = absurd h
texts_by class.EndNest e h = absurd h
texts_by class.Extension e h = absurd h
texts_by class.Flush e h = absurd h

pub texts : (c : Class) (e : EventRow) → OneOf (3 ∷ 4 ∷ 5 ∷ 6 ∷ 7 ∷ 8 ∷ 14 ∷ 15 ∷ []) (tag_of the_type c) → Texted e.token e.a e.b ≡ item_by c e
texts c e h = texts_by c e (one_of (3 ∷ 4 ∷ 5 ∷ 6 ∷ 7 ∷ 8 ∷ 14 ∷ 15 ∷ []) (tag_of the_type c) h)

-- an item does not depend on the place of its row
place_free : (c : Class) (token p q a b : ℕ) → item_by c (event token p a b) ≡ item_by c (event token q a b)
place_free class.Unknown token p q a b = refl
place_free class.Value token p q a b = refl
place_free class.LaterValue token p q a b = refl
place_free class.XmlDecl token p q a b = refl
place_free class.Encoding token p q a b = refl
place_free class.DocType token p q a b = refl
place_free class.System token p q a b = refl
place_free class.Public token p q a b = refl
place_free class.Subset token p q a b = refl
place_free class.Element token p q a b = refl
place_free class.EndElement token p q a b = refl
place_free class.Attribute token p q a b = refl
place_free class.EndAttributes token p q a b = refl
place_free class.Pi token p q a b = refl
place_free class.Comment token p q a b = refl
place_free class.Cdata token p q a b = refl
place_free class.CdataEnd token p q a b = refl
place_free class.NameDef token p q a b = refl
place_free class.QnameDef token p q a b = refl
place_free class.Nest token p q a b = refl
place_free class.EndNest token p q a b = refl
place_free class.Extension token p q a b = refl
place_free class.Flush token p q a b = refl

pub looked : (token place a b : ℕ) {k : Class} {x y z : ℕ} {r : Item} → x ≡ token → y ≡ a → z ≡ b → k ≡ class_of x → r ≡ item_by k (event x 0 y z) → r ≡ item_of (event token place a b)
unfolding item_of
looked token place a b {k} {x} {y} {z} {r} e f g h i =
    let j : r ≡ item_by (class_of token) (event token 0 a b) = i ∙ rw (h, e, f, g) in
    j ∙ place_free (class_of token) token 0 place a b
