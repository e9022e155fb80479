-- Serves the code. The values whose payload has one size, told without their class and shape apart.
use Rattle.std.specs.Prelude.{ℕ}
use Rattle.token.specs.Tokens.{class_of, shape_of}
use Rattle.token.specs.declared.Class.{Class}
use Rattle.token.specs.declared.Class.TheVariants.{Unknown, Value, LaterValue, XmlDecl, Encoding, DocType, System, Public, Subset, Element, EndElement, Attribute, EndAttributes, Pi, Comment, Cdata, CdataEnd, NameDef, QnameDef, Nest, EndNest, Extension, Flush}
use Rattle.token.specs.declared.Shape.{Shape}
use Rattle.token.specs.declared.Shape.TheVariants.{Nothing, Fixed, Text, Blob, CodePage, Decimal, Qname, Stamp, Date, Time, ZonedTime}

-- the bytes of a payload of the shape `Fixed`; 0 for each other shape
abbrev pub size_in : Shape → ℕ
size_in Nothing = 0
size_in (Fixed size) = size
size_in (Text most) = 0
size_in (Blob most) = 0
size_in (CodePage most) = 0
size_in Decimal = 0
size_in Qname = 0
size_in (Stamp low) = 0
size_in (Date first last) = 0
size_in (Time first last) = 0
size_in (ZonedTime first last) = 0

-- those of a value of both versions; 0 for each other class
abbrev pub fixed_by : Class → Shape → ℕ
fixed_by Unknown shape = 0
fixed_by Value shape = size_in shape
fixed_by LaterValue shape = 0
fixed_by XmlDecl shape = 0
fixed_by Encoding shape = 0
fixed_by DocType shape = 0
fixed_by System shape = 0
fixed_by Public shape = 0
fixed_by Subset shape = 0
fixed_by Element shape = 0
fixed_by EndElement shape = 0
fixed_by Attribute shape = 0
fixed_by EndAttributes shape = 0
fixed_by Pi shape = 0
fixed_by Comment shape = 0
fixed_by Cdata shape = 0
fixed_by CdataEnd shape = 0
fixed_by NameDef shape = 0
fixed_by QnameDef shape = 0
fixed_by Nest shape = 0
fixed_by EndNest shape = 0
fixed_by Extension shape = 0
fixed_by Flush shape = 0

-- those of a token
unfoldable pub fixed_of : ℕ → ℕ
fixed_of code = fixed_by (class_of code) (shape_of code)
