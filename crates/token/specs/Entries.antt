-- Serves the code. What an entry of the table stands for: the number of a class times 32, plus the number of a shape.
use Rattle.std.specs.Prelude.{ℕ, ◌/◌, ◌%◌, ◌<◌, ◌≡◌, List, [], ◌∷◌, get_or}
use Rattle.token.specs.Tokens.{mb32, mb64, class_of, shape_of}
use Rattle.token.specs.declared.Class.{Class}
use Rattle.token.specs.declared.Class.TheVariants.{Unknown, Value, LaterValue, XmlDecl, Encoding, DocType, System, Public, Subset, Element, EndElement, Attribute, EndAttributes, Pi, Comment, Cdata, CdataEnd, NameDef, QnameDef, Nest, EndNest, Extension, Flush}
use Rattle.token.specs.declared.Shape.{Shape}
use Rattle.token.specs.declared.Shape.TheVariants.{Nothing, Fixed, Text, Blob, CodePage, Decimal, Qname, Stamp, Date, Time, ZonedTime}

-- in the order of their numbers
abbrev pub classes : List Class
classes = Unknown ∷ Value ∷ LaterValue ∷ XmlDecl ∷ Encoding ∷ DocType ∷ System ∷ Public ∷ Subset ∷ Element ∷ EndElement ∷ Attribute ∷ EndAttributes ∷ Pi ∷ Comment ∷ Cdata ∷ CdataEnd ∷ NameDef ∷ QnameDef ∷ Nest ∷ EndNest ∷ Extension ∷ Flush ∷ []

abbrev pub shapes : List Shape
shapes = Nothing ∷ (Fixed 1) ∷ (Fixed 2) ∷ (Fixed 4) ∷ (Fixed 8) ∷ (Fixed 16) ∷ (Text mb32) ∷ (Text mb64) ∷ (Blob mb32) ∷ (Blob mb64) ∷ (CodePage mb32) ∷ (CodePage mb64) ∷ Decimal ∷ Qname ∷ (Stamp 0) ∷ (Stamp 1) ∷ (Stamp 2) ∷ (Date 0 3652058) ∷ (Time 693595 693595) ∷ (Time 0 3652058) ∷ (ZonedTime 0 3652058) ∷ (ZonedTime 0 16777215) ∷ []

unfoldable pub class_in : ℕ → Class
class_in entry = get_or classes (entry / 32) Unknown

unfoldable pub shape_in : ℕ → Shape
shape_in entry = get_or shapes (entry % 32) Nothing

-- a table that says of each byte the class and the shape of 004's list
pub record Listed (table : List ℕ) : Type 0 where
  pub class_is : (code : ℕ) → code < 256 → class_in (get_or table code 0) ≡ class_of code
  pub shape_is : (code : ℕ) → code < 256 → shape_in (get_or table code 0) ≡ shape_of code
