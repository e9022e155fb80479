-- The answer numbers and the bounds of 01, and the tokens of 004, by name.
use Rattle.std.specs.Prelude.{ℕ, cond, List, [], ◌∷◌, eqb}
use Rattle.token.specs.declared.Class.{Class}
use Rattle.token.specs.declared.Class.TheVariants.{Unknown, Value, LaterValue, XmlDecl, Encoding, DocType, System, Public, Subset, Element, EndElement, Attribute, EndAttributes, Pi, Comment, Cdata, CdataEnd, NameDef, QnameDef, Nest, EndNest, Extension, Flush}
use Rattle.token.specs.declared.Shape.{Shape}
use Rattle.token.specs.declared.Shape.TheVariants.{Nothing, Fixed, Text, Blob, CodePage, Decimal, Qname, Stamp, Date, Time, ZonedTime}

-- ---- answer numbers (01, "Answer numbers")

abbrev pub accepted : ℕ
accepted = 0

abbrev pub too_long : ℕ
too_long = 1

abbrev pub missing : ℕ
missing = 2

abbrev pub bad_header : ℕ
bad_header = 3

abbrev pub bad_number : ℕ
bad_number = 4

abbrev pub bad_token : ℕ
bad_token = 5

abbrev pub not_defined : ℕ
not_defined = 6

abbrev pub bad_value : ℕ
bad_value = 7

abbrev pub too_deep : ℕ
too_deep = 8

abbrev pub no_row : ℕ
no_row = 9

abbrev pub no_room : ℕ
no_room = 10

abbrev pub no_pairs : ℕ
no_pairs = 11

abbrev pub no_text : ℕ
no_text = 12

abbrev pub form_too_long : ℕ
form_too_long = 13

-- ---- bounds (01, "Numbers that bound the work")

-- the longest document, in bytes
abbrev pub longest : ℕ
longest = 65536

-- the largest value of a multi-byte number (01, "Document rules")
abbrev pub largest : ℕ
largest = 2147483647

-- bytes of a number, at most (004, section 2.3.2: mb32 = *4highbyte lowbyte, mb64 = *9highbyte lowbyte)
abbrev pub mb32 : ℕ
mb32 = 5

abbrev pub mb64 : ℕ
mb64 = 10

-- rows of each table, at most
abbrev pub name_rows : ℕ
name_rows = 1024

abbrev pub qname_rows : ℕ
qname_rows = 1024

abbrev pub event_rows : ℕ
event_rows = 4096

-- numbers of a row of each table (01, "Rows")
abbrev pub name_width : ℕ
name_width = 2

abbrev pub qname_width : ℕ
qname_width = 3

abbrev pub event_width : ℕ
event_width = 4

-- elements open at once, counted across nesting
abbrev pub open_elements : ℕ
open_elements = 64

-- documents nested one inside another
abbrev pub nested_documents : ℕ
nested_documents = 8

-- ---- the codes of the tokens that are no values, and of XSD-QNAME, by 004's names (004, section 2)

abbrev pub XMLDECL_TOKEN : ℕ
XMLDECL_TOKEN = 0xFE

abbrev pub ENCODING_TOKEN : ℕ
ENCODING_TOKEN = 0xFD

abbrev pub DOCTYPEDECL_TOKEN : ℕ
DOCTYPEDECL_TOKEN = 0xFC

abbrev pub SYSTEM_TOKEN : ℕ
SYSTEM_TOKEN = 0xFB

abbrev pub PUBLIC_TOKEN : ℕ
PUBLIC_TOKEN = 0xFA

abbrev pub SUBSET_TOKEN : ℕ
SUBSET_TOKEN = 0xF9

abbrev pub ELEMENT_TOKEN : ℕ
ELEMENT_TOKEN = 0xF8

abbrev pub ENDELEMENT_TOKEN : ℕ
ENDELEMENT_TOKEN = 0xF7

abbrev pub ATTRIBUTE_TOKEN : ℕ
ATTRIBUTE_TOKEN = 0xF6

abbrev pub ENDATTRIBUTES_TOKEN : ℕ
ENDATTRIBUTES_TOKEN = 0xF5

abbrev pub PI_TOKEN : ℕ
PI_TOKEN = 0xF4

abbrev pub COMMENT_TOKEN : ℕ
COMMENT_TOKEN = 0xF3

abbrev pub CDATA_TOKEN : ℕ
CDATA_TOKEN = 0xF2

abbrev pub CDATAEND_TOKEN : ℕ
CDATAEND_TOKEN = 0xF1

abbrev pub NAMEDEF_TOKEN : ℕ
NAMEDEF_TOKEN = 0xF0

abbrev pub QNAMEDEF_TOKEN : ℕ
QNAMEDEF_TOKEN = 0xEF

abbrev pub NEST_TOKEN : ℕ
NEST_TOKEN = 0xEC

abbrev pub ENDNEST_TOKEN : ℕ
ENDNEST_TOKEN = 0xEB

abbrev pub EXTN_TOKEN : ℕ
EXTN_TOKEN = 0xEA

abbrev pub FLUSH_DEFINED_NAME_TOKENS : ℕ
FLUSH_DEFINED_NAME_TOKENS = 0xE9

abbrev pub XSD_QNAME : ℕ
XSD_QNAME = 0x8C

-- ---- the tokens of the format (004, section 2, the codes in their order there)

-- a code, its class, and the shape of what follows it; sizes, bounds and rules of the shapes are those of 01, "Value rules"
pub record Token : Type 0 where
  pub code : ℕ
  pub class : Class
  pub shape : Shape

abbrev pub token : ℕ → Class → Shape → Token
token code class shape = record { code = code; class = class; shape = shape }

-- `Text`, `Blob`, `CodePage`: the length is a number of at most so many bytes.
-- `Date`, `Time`, `ZonedTime` carry the first and the last day number that 01 allows.
abbrev pub tokens : List Token
tokens =
    token 0x01 Value (Fixed 2)  -- SQL-SMALLINT
    ∷ token 0x02 Value (Fixed 4)  -- SQL-INT
    ∷ token 0x03 Value (Fixed 4)  -- SQL-REAL
    ∷ token 0x04 Value (Fixed 8)  -- SQL-FLOAT
    ∷ token 0x05 Value (Fixed 8)  -- SQL-MONEY
    ∷ token 0x06 Value (Fixed 1)  -- SQL-BIT
    ∷ token 0x07 Value (Fixed 1)  -- SQL-TINYINT
    ∷ token 0x08 Value (Fixed 8)  -- SQL-BIGINT
    ∷ token 0x09 Value (Fixed 16)  -- SQL-UUID
    ∷ token 0x0A Value Decimal  -- SQL-DECIMAL
    ∷ token 0x0B Value Decimal  -- SQL-NUMERIC
    ∷ token 0x0C Value (Blob mb32)  -- SQL-BINARY
    ∷ token 0x0D Value (CodePage mb32)  -- SQL-CHAR
    ∷ token 0x0E Value (Text mb32)  -- SQL-NCHAR
    ∷ token 0x0F Value (Blob mb64)  -- SQL-VARBINARY
    ∷ token 0x10 Value (CodePage mb64)  -- SQL-VARCHAR
    ∷ token 0x11 Value (Text mb64)  -- SQL-NVARCHAR
    ∷ token 0x12 Value (Fixed 8)  -- SQL-DATETIME
    ∷ token 0x13 Value (Fixed 4)  -- SQL-SMALLDATETIME
    ∷ token 0x14 Value (Fixed 4)  -- SQL-SMALLMONEY
    ∷ token 0x16 Value (CodePage mb64)  -- SQL-TEXT
    ∷ token 0x17 Value (Blob mb64)  -- SQL-IMAGE
    ∷ token 0x18 Value (Text mb64)  -- SQL-NTEXT
    ∷ token 0x1B Value (Blob mb32)  -- SQL-UDT
    ∷ token 0x7A LaterValue (ZonedTime 0 16777215)  -- XSD-TIMEOFFSET
    ∷ token 0x7B LaterValue (ZonedTime 0 3652058)  -- XSD-DATETIMEOFFSET
    ∷ token 0x7C LaterValue (ZonedTime 0 3652058)  -- XSD-DATEOFFSET
    ∷ token 0x7D LaterValue (Time 693595 693595)  -- XSD-TIME2
    ∷ token 0x7E LaterValue (Time 0 3652058)  -- XSD-DATETIME2
    ∷ token 0x7F LaterValue (Date 0 3652058)  -- XSD-DATE2
    ∷ token 0x81 Value (Stamp 0)  -- XSD-TIME
    ∷ token 0x82 Value (Stamp 2)  -- XSD-DATETIME
    ∷ token 0x83 Value (Stamp 1)  -- XSD-DATE
    ∷ token 0x84 Value (Blob mb32)  -- XSD-BINHEX
    ∷ token 0x85 Value (Blob mb32)  -- XSD-BASE64
    ∷ token 0x86 Value (Fixed 1)  -- XSD-BOOLEAN
    ∷ token 0x87 Value Decimal  -- XSD-DECIMAL
    ∷ token 0x88 Value (Fixed 1)  -- XSD-BYTE
    ∷ token 0x89 Value (Fixed 2)  -- XSD-UNSIGNEDSHORT
    ∷ token 0x8A Value (Fixed 4)  -- XSD-UNSIGNEDINT
    ∷ token 0x8B Value (Fixed 8)  -- XSD-UNSIGNEDLONG
    ∷ token 0x8C Value Qname  -- XSD-QNAME
    ∷ token 0xE9 Flush Nothing  -- FLUSH-DEFINED-NAME-TOKENS
    ∷ token 0xEA Extension (Blob mb32)  -- EXTN-TOKEN
    ∷ token 0xEB EndNest Nothing  -- ENDNEST-TOKEN
    ∷ token 0xEC Nest Nothing  -- NEST-TOKEN
    ∷ token 0xEF QnameDef Nothing  -- QNAMEDEF-TOKEN
    ∷ token 0xF0 NameDef (Text mb32)  -- NAMEDEF-TOKEN
    ∷ token 0xF1 CdataEnd Nothing  -- CDATAEND-TOKEN
    ∷ token 0xF2 Cdata (Text mb32)  -- CDATA-TOKEN
    ∷ token 0xF3 Comment (Text mb32)  -- COMMENT-TOKEN
    ∷ token 0xF4 Pi Nothing  -- PI-TOKEN
    ∷ token 0xF5 EndAttributes Nothing  -- ENDATTRIBUTES-TOKEN
    ∷ token 0xF6 Attribute Qname  -- ATTRIBUTE-TOKEN
    ∷ token 0xF7 EndElement Nothing  -- ENDELEMENT-TOKEN
    ∷ token 0xF8 Element Qname  -- ELEMENT-TOKEN
    ∷ token 0xF9 Subset (Text mb32)  -- SUBSET-TOKEN
    ∷ token 0xFA Public (Text mb32)  -- PUBLIC-TOKEN
    ∷ token 0xFB System (Text mb32)  -- SYSTEM-TOKEN
    ∷ token 0xFC DocType (Text mb32)  -- DOCTYPEDECL-TOKEN
    ∷ token 0xFD Encoding (Text mb32)  -- ENCODING-TOKEN
    ∷ token 0xFE XmlDecl (Text mb32)  -- XMLDECL-TOKEN
    ∷ []

-- the token of a code; a code that is not listed is no token
abbrev pub find : ℕ → List Token → Token
find code [] = token code Unknown Nothing
find code (t ∷ ts) = cond (eqb code t.code) t (find code ts)

unfoldable pub class_of : ℕ → Class
class_of code = (find code tokens).class

unfoldable pub shape_of : ℕ → Shape
shape_of code = (find code tokens).shape
