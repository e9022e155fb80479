-- Where tokens may stand (01, "Document rules"): what may come next is a mode.
use Rattle.std.specs.Prelude.{ℕ, Bool, true, false, ◌&&◌, ◌||◌, ltb, eqb}
use Rattle.token.specs.declared.Class.{Class}
use Rattle.token.specs.declared.Class.TheVariants as class
use Rattle.modes.specs.declared.Mode.{Mode}
use Rattle.modes.specs.declared.Mode.TheVariants.{Content, Tag, First, Prolog, AfterDocType, AfterSystem, AfterPublic, Attributes, Cdata, AfterXmlDecl, AfterEncoding}
use Rattle.modes.specs.declared.View.{View}

-- at root or in an element: comments, PIs, metadata, values, elements, CDATA and nested documents stand here
abbrev pub content : Mode → Bool
content Content = true
content Tag = true
content First = true
content Prolog = true
content AfterDocType = true
content AfterSystem = true
content AfterPublic = true
content Attributes = false
content Cdata = false
content AfterXmlDecl = false
content AfterEncoding = false

-- from an ATTRIBUTE to ENDATTRIBUTES
abbrev pub in_attributes : Mode → Bool
in_attributes Content = false
in_attributes Tag = false
in_attributes First = false
in_attributes Prolog = false
in_attributes AfterDocType = false
in_attributes AfterSystem = false
in_attributes AfterPublic = false
in_attributes Attributes = true
in_attributes Cdata = false
in_attributes AfterXmlDecl = false
in_attributes AfterEncoding = false

-- inside an XML declaration: the next byte is no token
abbrev pub in_declaration : Mode → Bool
in_declaration Content = false
in_declaration Tag = false
in_declaration First = false
in_declaration Prolog = false
in_declaration AfterDocType = false
in_declaration AfterSystem = false
in_declaration AfterPublic = false
in_declaration Attributes = false
in_declaration Cdata = false
in_declaration AfterXmlDecl = true
in_declaration AfterEncoding = true

-- a mode's number, to compare two of them
abbrev pub mode_number : Mode → ℕ
mode_number Content = 0
mode_number Tag = 1
mode_number First = 2
mode_number Prolog = 3
mode_number AfterDocType = 4
mode_number AfterSystem = 5
mode_number AfterPublic = 6
mode_number Attributes = 7
mode_number Cdata = 8
mode_number AfterXmlDecl = 9
mode_number AfterEncoding = 10

abbrev pub is : Mode → Mode → Bool
is m n = eqb (mode_number m) (mode_number n)

-- a token of this class may stand here
abbrev pub allowed : Class → View → Bool
allowed class.Unknown v = false
allowed class.Value v = content v.mode || in_attributes v.mode
allowed class.LaterValue v = (content v.mode || in_attributes v.mode) && eqb v.version 2
allowed class.XmlDecl v = is v.mode First
allowed class.Encoding v = false
allowed class.DocType v = is v.mode First || is v.mode Prolog
allowed class.System v = is v.mode AfterDocType
allowed class.Public v = is v.mode AfterDocType || is v.mode AfterSystem
allowed class.Subset v = is v.mode AfterDocType || is v.mode AfterSystem || is v.mode AfterPublic
allowed class.Element v = content v.mode
allowed class.EndElement v = content v.mode && ltb 0 v.elements
allowed class.Attribute v = is v.mode Tag || in_attributes v.mode
allowed class.EndAttributes v = in_attributes v.mode
allowed class.Pi v = content v.mode
allowed class.Comment v = content v.mode
allowed class.Cdata v = content v.mode || is v.mode Cdata
allowed class.CdataEnd v = is v.mode Cdata
allowed class.NameDef v = content v.mode || in_attributes v.mode
allowed class.QnameDef v = content v.mode || in_attributes v.mode
allowed class.Nest v = content v.mode
allowed class.EndNest v = content v.mode && ltb 0 v.depth && eqb v.elements 0
allowed class.Extension v = content v.mode || in_attributes v.mode
allowed class.Flush v = content v.mode || in_attributes v.mode

-- after metadata: DOCTYPEDECL and ATTRIBUTE stay possible
abbrev pub after_metadata : Mode → Mode
after_metadata Content = Content
after_metadata Tag = Tag
after_metadata First = Prolog
after_metadata Prolog = Prolog
after_metadata AfterDocType = Content
after_metadata AfterSystem = Content
after_metadata AfterPublic = Content
after_metadata Attributes = Attributes
after_metadata Cdata = Cdata
after_metadata AfterXmlDecl = AfterXmlDecl
after_metadata AfterEncoding = AfterEncoding

-- after a comment or a PI: DOCTYPEDECL stays possible
abbrev pub after_misc : Mode → Mode
after_misc Content = Content
after_misc Tag = Content
after_misc First = Prolog
after_misc Prolog = Prolog
after_misc AfterDocType = Content
after_misc AfterSystem = Content
after_misc AfterPublic = Content
after_misc Attributes = Content
after_misc Cdata = Content
after_misc AfterXmlDecl = Content
after_misc AfterEncoding = Content

-- after a value: an attribute list goes on
abbrev pub after_value : Mode → Mode
after_value Content = Content
after_value Tag = Content
after_value First = Content
after_value Prolog = Content
after_value AfterDocType = Content
after_value AfterSystem = Content
after_value AfterPublic = Content
after_value Attributes = Attributes
after_value Cdata = Content
after_value AfterXmlDecl = Content
after_value AfterEncoding = Content
