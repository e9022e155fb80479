-- The grammar of 004, section 2, as derivations, with 01's rules where 01 decides ("Document rules", "Value rules"). A
-- nonterminal is a relation, an alternative a constructor. The limits of 01 stand apart, in `Derives`.
use Rattle.std.specs.Prelude.{ℕ, suc, ◌+◌, ◌*◌, ◌%◌, ◌≤◌, ◌<◌, max, ◌≡◌, List, [], ◌∷◌, ◌++◌, map, length, get_or, ◌⊎◌}
use Rattle.token.specs.Tokens.{largest, mb32, mb64, longest, open_elements, nested_documents, accepted, PI_TOKEN, NEST_TOKEN, ENDNEST_TOKEN, XMLDECL_TOKEN, ENCODING_TOKEN, DOCTYPEDECL_TOKEN, SYSTEM_TOKEN, PUBLIC_TOKEN, SUBSET_TOKEN, NAMEDEF_TOKEN, QNAMEDEF_TOKEN, EXTN_TOKEN, FLUSH_DEFINED_NAME_TOKENS, COMMENT_TOKEN, CDATA_TOKEN, CDATAEND_TOKEN, ATTRIBUTE_TOKEN, ENDATTRIBUTES_TOKEN, ELEMENT_TOKEN, ENDELEMENT_TOKEN}
use Rattle.sequences.specs.Lists.{overlay, part, little}
use Rattle.token.specs.declared.Shape.{Shape}
use Rattle.token.specs.declared.Shape.TheVariants as shape
use Rattle.machine.specs.Machine.{NameRow, QnameRow, EventRow, name_row, qname_row, event, flat_names, flat_qnames, flat_events, row_of, State, reading, Event, event_of}
use Rattle.machine.specs.declared.Answer.{Answer}
use Rattle.scan.specs.declared.Room.{Room}

-- ---- bytes, multi-byte numbers and texts

module _ (doc : List ℕ) where
  -- this byte stands at this place
  pub record Byte (place byte : ℕ) : Type 0 where
    pub inside : place < length doc
    pub is : get_or doc place 0 ≡ byte

  -- *highbyte lowbyte, of at most so many bytes: from a place, a value, to a place (2.3.2)
  pub data Digits : ℕ → ℕ → ℕ → ℕ → Type 0 where
    lowbyte : {most p b : ℕ} → Byte p b → b < 128 → Digits (suc most) p b (p + 1)
    highbyte : {most p b v q : ℕ} → Byte p b → 128 ≤ b → Digits most (p + 1) v q → Digits (suc most) p (b % 128 + 128 * v) q

  -- 01: the value is at most 2,147,483,647; longer spellings than needed are accepted
  pub record MultiByte (most p v q : ℕ) : Type 0 where
    pub spelled : Digits most p v q
    pub small : v ≤ largest

  -- mb32 = *4highbyte lowbyte; mb64 = *9highbyte lowbyte is `MultiByte mb64`, in payloads alone
  abbrev pub Mb32 : ℕ → ℕ → ℕ → Type 0
  Mb32 p v q = MultiByte mb32 p v q

  -- textdata = length32 *(byte byte): its units lie at a place
  pub record TextData (p place units : ℕ) : Type 0 where
    pub length32 : Mb32 p units place
    pub there : place + 2 * units ≤ length doc

-- ---- what follows the token of a value, by its shape (004, sections 2, 2.3 and 2.4): from the token's place, the place and the
-- size of the payload (01, "Rows")

-- precision, scale and sign, then decimaldata = 4byte / 8byte / 12byte / 16byte
pub data DecimalSize : ℕ → Type 0 where
  four : DecimalSize 7
  eight : DecimalSize 11
  twelve : DecimalSize 15
  sixteen : DecimalSize 19

module _ (doc : List ℕ) where
  -- sqltime = (%x00-02 3byte) / (%x03-04 4byte) / (%x05-07 5byte): so many bytes with the precision
  pub data SqlTime (place : ℕ) : ℕ → Type 0 where
    three_bytes : {precision : ℕ} → Byte doc place precision → precision ≤ 2 → SqlTime place 4
    four_bytes : {precision : ℕ} → Byte doc place precision → 3 ≤ precision → precision ≤ 4 → SqlTime place 5
    five_bytes : {precision : ℕ} → Byte doc place precision → 5 ≤ precision → precision ≤ 7 → SqlTime place 6

  -- sqldate = 3byte, little-endian; 01: from the first to the last day
  pub record SqlDate (first last place : ℕ) : Type 0 where
    pub from : first ≤ little (part doc place 3)
    pub to : little (part doc place 3) ≤ last

  -- sqltimezone = 2byte, little-endian; 01: signed, -840 to 840
  pub record SqlTimeZone (place : ℕ) : Type 0 where
    pub within : (little (part doc place 2) ≤ 840) ⊎ (64696 ≤ little (part doc place 2))

  pub data PayloadAt : Shape → ℕ → ℕ → ℕ → Type 0 where
    -- no value has this shape
    nothing : {at : ℕ} → (at + 1) + 0 ≤ length doc → PayloadAt shape.Nothing at (at + 1) 0
    -- byte, 2byte, 4byte, 8byte, 16byte
    bytes : {at size : ℕ} → (at + 1) + size ≤ length doc → PayloadAt (shape.Fixed size) at (at + 1) size
    -- textdata = length32 *(byte byte), textdata64 = length64 *(byte byte)
    textdata : {most at units place : ℕ} → MultiByte doc most (at + 1) units place → place + 2 * units ≤ length doc → PayloadAt (shape.Text most) at place (2 * units)
    -- blob = length32 *byte, blob64 = length64 *byte
    blob : {most at place size : ℕ} → MultiByte doc most (at + 1) size place → place + size ≤ length doc → PayloadAt (shape.Blob most) at place size
    -- codepagetext = length32 codepage *byte, codepagetext64 = length64 codepage *byte; codepage = 4byte
    codepagetext : {most at place size : ℕ} → MultiByte doc most (at + 1) size place → place + size ≤ length doc → 4 ≤ size → PayloadAt (shape.CodePage most) at place size
    -- decimal = length32 byte sign decimaldata, where 2.3.5 and 01 have two bytes before the sign: precision at most 38,
    -- scale at most precision; sign 0 or 1
    decimal : {at place size : ℕ} → MultiByte doc mb32 (at + 1) size place → DecimalSize size → place + size ≤ length doc → get_or doc place 0 ≤ 38
        → get_or doc (place + 1) 0 ≤ get_or doc place 0 → get_or doc (place + 2) 0 ≤ 1 → PayloadAt shape.Decimal at place size
    -- 8byte of XSD-TIME, XSD-DATETIME, XSD-DATE; 01: the low two bits
    stamp : {low at : ℕ} → (at + 1) + 8 ≤ length doc → get_or doc (at + 1) 0 % 4 ≡ low → PayloadAt (shape.Stamp low) at (at + 1) 8
    -- sqldate
    sqldate : {first last at : ℕ} → (at + 1) + 3 ≤ length doc → SqlDate first last (at + 1) → PayloadAt (shape.Date first last) at (at + 1) 3
    -- sqldatetime2 = sqltime sqldate
    sqldatetime2 : {first last at time : ℕ} → SqlTime (at + 1) time → (at + 1) + (time + 3) ≤ length doc → SqlDate first last ((at + 1) + time)
        → PayloadAt (shape.Time first last) at (at + 1) (time + 3)
    -- sqldatetimeoffset = sqltime sqldate sqltimezone
    sqldatetimeoffset : {first last at time : ℕ} → SqlTime (at + 1) time → (at + 1) + (time + 5) ≤ length doc → SqlDate first last ((at + 1) + time)
        → SqlTimeZone ((at + 1) + (time + 3)) → PayloadAt (shape.ZonedTime first last) at (at + 1) (time + 5)

-- ---- the alternatives of atomicvalue in 004's order: the token, and the shape of what follows it; 01 decides that 7A to 7F are
-- of version 2 alone, and the bounds that shapes carry: the first and the last day

-- `Text`, `Blob`, `CodePage`: the length is an mb32 or an mb64
pub data Atomic (version : ℕ) : ℕ → Shape → Type 0 where
  SQL_BIT : Atomic version 0x06 (shape.Fixed 1)
  SQL_TINYINT : Atomic version 0x07 (shape.Fixed 1)
  SQL_SMALLINT : Atomic version 0x01 (shape.Fixed 2)
  SQL_INT : Atomic version 0x02 (shape.Fixed 4)
  SQL_BIGINT : Atomic version 0x08 (shape.Fixed 8)
  SQL_REAL : Atomic version 0x03 (shape.Fixed 4)
  SQL_FLOAT : Atomic version 0x04 (shape.Fixed 8)
  SQL_MONEY : Atomic version 0x05 (shape.Fixed 8)
  SQL_SMALLMONEY : Atomic version 0x14 (shape.Fixed 4)
  SQL_DATETIME : Atomic version 0x12 (shape.Fixed 8)
  SQL_SMALLDATETIME : Atomic version 0x13 (shape.Fixed 4)
  SQL_DECIMAL : Atomic version 0x0A shape.Decimal
  SQL_NUMERIC : Atomic version 0x0B shape.Decimal
  SQL_UUID : Atomic version 0x09 (shape.Fixed 16)
  SQL_VARBINARY : Atomic version 0x0F (shape.Blob mb64)
  SQL_BINARY : Atomic version 0x0C (shape.Blob mb32)
  SQL_IMAGE : Atomic version 0x17 (shape.Blob mb64)
  SQL_CHAR : Atomic version 0x0D (shape.CodePage mb32)
  SQL_VARCHAR : Atomic version 0x10 (shape.CodePage mb64)
  SQL_TEXT : Atomic version 0x16 (shape.CodePage mb64)
  SQL_NVARCHAR : Atomic version 0x11 (shape.Text mb64)
  SQL_NCHAR : Atomic version 0x0E (shape.Text mb32)
  SQL_NTEXT : Atomic version 0x18 (shape.Text mb64)
  SQL_UDT : Atomic version 0x1B (shape.Blob mb32)
  XSD_BOOLEAN : Atomic version 0x86 (shape.Fixed 1)
  XSD_TIME : Atomic version 0x81 (shape.Stamp 0)
  XSD_DATETIME : Atomic version 0x82 (shape.Stamp 2)
  XSD_DATE : Atomic version 0x83 (shape.Stamp 1)
  XSD_BINHEX : Atomic version 0x84 (shape.Blob mb32)
  XSD_BASE64 : Atomic version 0x85 (shape.Blob mb32)
  XSD_DECIMAL : Atomic version 0x87 shape.Decimal
  XSD_BYTE : Atomic version 0x88 (shape.Fixed 1)
  XSD_UNSIGNEDSHORT : Atomic version 0x89 (shape.Fixed 2)
  XSD_UNSIGNEDINT : Atomic version 0x8A (shape.Fixed 4)
  XSD_UNSIGNEDLONG : Atomic version 0x8B (shape.Fixed 8)
  XSD_QNAME : Atomic version 0x8C shape.Qname
  XSD_DATE2 : version ≡ 2 → Atomic version 0x7F (shape.Date 0 3652058)
  XSD_DATETIME2 : version ≡ 2 → Atomic version 0x7E (shape.Time 0 3652058)
  XSD_TIME2 : version ≡ 2 → Atomic version 0x7D (shape.Time 693595 693595)
  XSD_DATEOFFSET : version ≡ 2 → Atomic version 0x7C (shape.ZonedTime 0 3652058)
  XSD_DATETIMEOFFSET : version ≡ 2 → Atomic version 0x7B (shape.ZonedTime 0 3652058)
  XSD_TIMEOFFSET : version ≡ 2 → Atomic version 0x7A (shape.ZonedTime 0 16777215)

-- ---- a point of a derivation: the place in the document, what is in force there, and the rows so far (01, "Rows"); and the
-- points that tokens lead to

-- the version, and the rows of the names and of the qnames in force in the order of their numbers, are those of the
-- innermost document; the rows are those of the whole document
pub record Point : Type 0 where
  pub at : ℕ
  pub version : ℕ
  pub known : List ℕ
  pub qknown : List ℕ
  pub names : List NameRow
  pub qnames : List QnameRow
  pub events : List EventRow

abbrev pub point : ℕ → ℕ → List ℕ → List ℕ → List NameRow → List QnameRow → List EventRow → Point
point at version known qknown names qnames events =
    record { at = at; version = version; known = known; qknown = qknown; names = names; qnames = qnames; events = events }

-- the rows of a document
pub record Rows : Type 0 where
  pub names : List NameRow
  pub qnames : List QnameRow
  pub events : List EventRow

abbrev pub rows_at : Point → Rows
rows_at s = record { names = s.names; qnames = s.qnames; events = s.events }

-- before the outer header
abbrev pub before_header : Point
before_header = point 0 0 [] [] [] [] []

-- a row of events, and the place after what it stands for
abbrev pub past_event : Point → EventRow → ℕ → Point
past_event s e next = point next s.version s.known s.qknown s.names s.qnames (s.events ++ (e ∷ []))

-- a token with a text: FE, FD, FC, FB, FA, F9, F3, F2
abbrev pub past_text : Point → ℕ → ℕ → ℕ → Point
past_text s token place units = past_event s (event token s.at place units) (place + 2 * units)

-- the standalone byte: token 0
abbrev pub past_standalone : Point → ℕ → Point
past_standalone s value = past_event s (event 0 s.at value 0) (s.at + 1)

-- F4: the target's row, and the place of the text's length
abbrev pub past_pi : Point → ℕ → ℕ → ℕ → Point
past_pi s target start next = past_event s (event PI_TOKEN s.at (row_of s.known target) start) next

-- F8, F6, 8C: the qname's row
abbrev pub past_qname : Point → ℕ → ℕ → ℕ → Point
past_qname s token number next = past_event s (event token s.at (row_of s.qknown number) 0) next

-- F7, F5, F1
abbrev pub past_end : Point → ℕ → Point
past_end s token = past_event s (event token s.at 0 0) (s.at + 1)

-- other values: the payload
abbrev pub past_value : Point → ℕ → ℕ → ℕ → Point
past_value s token place size = past_event s (event token s.at place size) (place + size)

-- F0: a row of names, which has the next number
abbrev pub past_name_def : Point → ℕ → ℕ → Point
past_name_def s place units =
    point (place + 2 * units) s.version (s.known ++ ((length s.names + 1) ∷ [])) s.qknown (s.names ++ (name_row place units ∷ []))
    s.qnames s.events

-- EF: a row of qnames, which has the next number
abbrev pub past_qname_def : Point → ℕ → ℕ → ℕ → ℕ → Point
past_qname_def s uri prefix local next =
    point next s.version s.known (s.qknown ++ ((length s.qnames + 1) ∷ [])) s.names
    (s.qnames ++ (qname_row (row_of s.known uri) (row_of s.known prefix) (row_of s.known local) ∷ [])) s.events

-- EA
abbrev pub past_extension : Point → ℕ → Point
past_extension s next = point next s.version s.known s.qknown s.names s.qnames s.events

-- E9: both counts restart
abbrev pub past_flush : Point → Point
past_flush s = point (s.at + 1) s.version [] [] s.names s.qnames s.events

-- a header: its document starts with no names
abbrev pub past_header : Point → ℕ → Point
past_header s version = point (s.at + 5) version [] [] s.names s.qnames s.events

-- EC, whose row has the version of the nested document
abbrev pub past_nest : Point → ℕ → Point
past_nest s version = past_event s (event NEST_TOKEN s.at version 0) (s.at + 1)

-- EB: what was in force before the nested document is so again
abbrev pub past_end_nest : Point → Point → Point
past_end_nest s t = point (t.at + 1) s.version s.known s.qknown t.names t.qnames (t.events ++ (event ENDNEST_TOKEN t.at 0 0 ∷ []))

-- ---- the nonterminals: a derivation leads from a point to a point; its depth is what it has open at most

-- *R and [R]
pub data Star (R : Point → Point → Type 0) : Point → Point → Type 0 where
  nil : {s : Point} → Star R s s
  cons : {s t u : Point} → R s t → Star R t u → Star R s u

pub data Optional (R : Point → Point → Type 0) : Point → Point → Type 0 where
  omitted : {s : Point} → Optional R s s
  present : {s t : Point} → R s t → Optional R s t

-- elements open one inside another, and documents nested one inside another
pub record Depth : Type 0 where
  pub elements : ℕ
  pub nested : ℕ

abbrev pub depth : ℕ → ℕ → Depth
depth elements nested = record { elements = elements; nested = nested }

abbrev pub flat : Depth
flat = depth 0 0

abbrev pub both : Depth → Depth → Depth
both m n = depth (max m.elements n.elements) (max m.nested n.nested)

abbrev pub in_element : Depth → Depth
in_element m = depth (suc m.elements) m.nested

abbrev pub in_document : Depth → Depth
in_document m = depth m.elements (suc m.nested)

module _ (doc : List ℕ) where
  -- ---- names

  -- name = mb32: 0, or a number in force (2.2.2)
  pub record NameReference (s : Point) (p number q : ℕ) : Type 0 where
    pub mb32 : Mb32 doc p number q
    pub defined : number ≤ length s.known

  -- qname = mb32: a number in force, 0 is invalid (2.2.4)
  pub record QnameReference (s : Point) (p number q : ℕ) : Type 0 where
    pub mb32 : Mb32 doc p number q
    pub positive : 1 ≤ number
    pub defined : number ≤ length s.qknown

  -- a token and its textdata
  pub data TextToken (token : ℕ) : Point → Point → Type 0 where
    texttoken : {s : Point} {place units : ℕ} → Byte doc s.at token → TextData doc (s.at + 1) place units → TextToken token s (past_text s token place units)

  -- signature version encoding (2.1.1)
  pub record HeaderBytes (p version : ℕ) : Type 0 where
    pub signature : Byte doc p 0xDF
    pub signature' : Byte doc (p + 1) 0xFF
    pub version_is : Byte doc (p + 2) version
    pub version_low : 1 ≤ version
    pub version_high : version ≤ 2
    pub encoding : Byte doc (p + 3) 0xB0
    pub encoding' : Byte doc (p + 4) 0x04

  -- ---- declarations (2.1.2, 2.1.3)

  -- standalone = %x00 / %x01 / %x02
  pub data Standalone : Point → Point → Type 0 where
    standalone : {s : Point} {value : ℕ} → Byte doc s.at value → value ≤ 2 → Standalone s (past_standalone s value)

  -- xmldecl = XMLDECL-TOKEN textdata [ENCODING-TOKEN textdata] standalone
  pub data XmlDecl : Point → Point → Type 0 where
    xmldecl : {s t u v : Point} → TextToken XMLDECL_TOKEN s t → Optional (TextToken ENCODING_TOKEN) t u → Standalone u v → XmlDecl s v

  -- doctypedecl = DOCTYPEDECL-TOKEN textdata [SYSTEM-TOKEN textdata] [PUBLIC-TOKEN textdata] [SUBSET-TOKEN textdata]
  pub data DocTypeDecl : Point → Point → Type 0 where
    doctypedecl : {s t u v w : Point} → TextToken DOCTYPEDECL_TOKEN s t → Optional (TextToken SYSTEM_TOKEN) t u → Optional (TextToken PUBLIC_TOKEN) u v → Optional (TextToken SUBSET_TOKEN) v w
        → DocTypeDecl s w

  -- ---- metadata (2.1.10, 2.2)

  -- namedef = NAMEDEF-TOKEN textdata
  pub data NameDef : Point → Point → Type 0 where
    namedef : {s : Point} {place units : ℕ} → Byte doc s.at NAMEDEF_TOKEN → TextData doc (s.at + 1) place units → NameDef s (past_name_def s place units)

  -- qnamedef = QNAMEDEF-TOKEN namespaceuri prefix localname, a name each
  pub data QnameDef : Point → Point → Type 0 where
    qnamedef : {s : Point} {uri prefix local p q next : ℕ} → Byte doc s.at QNAMEDEF_TOKEN → NameReference s (s.at + 1) uri p → NameReference s p prefix q → NameReference s q local next
        → QnameDef s (past_qname_def s uri prefix local next)

  -- extension = EXTN-TOKEN length32 *byte
  pub data Extension : Point → Point → Type 0 where
    extension : {s : Point} {size next : ℕ} → Byte doc s.at EXTN_TOKEN → Mb32 doc (s.at + 1) size next → next + size ≤ length doc → Extension s (past_extension s (next + size))

  -- metadata = namedef / qnamedef / extension / FLUSH-DEFINED-NAME-TOKENS
  pub data Metadata : Point → Point → Type 0 where
    a_namedef : {s t : Point} → NameDef s t → Metadata s t
    a_qnamedef : {s t : Point} → QnameDef s t → Metadata s t
    an_extension : {s t : Point} → Extension s t → Metadata s t
    flush_defined_name_tokens : {s : Point} → Byte doc s.at FLUSH_DEFINED_NAME_TOKENS → Metadata s (past_flush s)

  -- ---- comments, PIs, CDATA (2.1.4, 2.1.8)

  -- comment = COMMENT-TOKEN textdata
  pub data Comment : Point → Point → Type 0 where
    comment : {s t : Point} → TextToken COMMENT_TOKEN s t → Comment s t

  -- pi = PI-TOKEN name textdata
  pub data Pi : Point → Point → Type 0 where
    pi : {s : Point} {target start place units : ℕ} → Byte doc s.at PI_TOKEN → NameReference s (s.at + 1) target start → TextData doc start place units
        → Pi s (past_pi s target start (place + 2 * units))

  -- misc = comment / pi / metadata
  pub data Misc : Point → Point → Type 0 where
    misc_comment : {s t : Point} → Comment s t → Misc s t
    misc_pi : {s t : Point} → Pi s t → Misc s t
    misc_metadata : {s t : Point} → Metadata s t → Misc s t

  -- cdsect = 1*(CDATA-TOKEN textdata) CDATAEND-TOKEN
  pub data CdSect : Point → Point → Type 0 where
    cdsect : {s t u : Point} → TextToken CDATA_TOKEN s t → Star (TextToken CDATA_TOKEN) t u → Byte doc u.at CDATAEND_TOKEN → CdSect s (past_end u CDATAEND_TOKEN)

  -- ---- values (2.3, 2.4)

  -- the alternatives are those of `Atomic`; XSD-QNAME has a qname, the others a payload that keeps 01's value rules
  pub data AtomicValue : Point → Point → Type 0 where
    atomicvalue : {s : Point} {token place size : ℕ} {h : Shape} → Byte doc s.at token → Atomic s.version token h
        → PayloadAt doc h s.at place size → AtomicValue s (past_value s token place size)
    qname_value : {s : Point} {token number next : ℕ} → Byte doc s.at token → Atomic s.version token shape.Qname → QnameReference s (s.at + 1) number next
        → AtomicValue s (past_qname s token number next)

  -- ---- attributes (2.1.6)

  -- metadata / atomicvalue
  pub data Part : Point → Point → Type 0 where
    part_metadata : {s t : Point} → Metadata s t → Part s t
    part_value : {s t : Point} → AtomicValue s t → Part s t

  -- attribute = *metadata ATTRIBUTE-TOKEN qname *(metadata / atomicvalue)
  pub data Attribute : Point → Point → Type 0 where
    attribute : {s t u : Point} {number next : ℕ} → Star Metadata s t → Byte doc t.at ATTRIBUTE_TOKEN → QnameReference t (t.at + 1) number next
        → Star Part (past_qname t ATTRIBUTE_TOKEN number next) u → Attribute s u

  -- 1*attribute ENDATTRIBUTES-TOKEN; metadata before ENDATTRIBUTES belongs to the last attribute
  pub data Attributes : Point → Point → Type 0 where
    attributes : {s t u : Point} → Attribute s t → Star Attribute t u → Byte doc u.at ENDATTRIBUTES_TOKEN → Attributes s (past_end u ENDATTRIBUTES_TOKEN)

  -- doctypedecl *misc
  pub data Typed : Point → Point → Type 0 where
    typed : {s t u : Point} → DocTypeDecl s t → Star Misc t u → Typed s u

  -- ---- documents, content, elements (2.1.1, 2.1.5, 2.1.6, 2.1.9)
  mutual
    -- document = signature version encoding [xmldecl] *misc [doctypedecl *misc] content
    pub data Document : Depth → ℕ → Point → Point → Type 0 where
      document : {m : Depth} {version : ℕ} {s a b c t : Point} → HeaderBytes s.at version → Optional XmlDecl (past_header s version) a → Star Misc a b
          → Optional Typed b c → Content m c t → Document m version s t

    -- content = *(element / cdsect / pi / comment / atomicvalue / metadata / nestedbinaryxml)
    pub data Content : Depth → Point → Point → Type 0 where
      done : {s : Point} → Content flat s s
      then : {m n : Depth} {s t u : Point} → Item m s t → Content n t u → Content (both m n) s u

    pub data Item : Depth → Point → Point → Type 0 where
      an_element : {m : Depth} {s t : Point} → Element m s t → Item m s t
      a_cdsect : {s t : Point} → CdSect s t → Item flat s t
      a_pi : {s t : Point} → Pi s t → Item flat s t
      a_comment : {s t : Point} → Comment s t → Item flat s t
      an_atomicvalue : {s t : Point} → AtomicValue s t → Item flat s t
      a_metadata : {s t : Point} → Metadata s t → Item flat s t
      a_nestedbinaryxml : {m : Depth} {s t : Point} → NestedBinaryXml m s t → Item m s t

    -- element = ELEMENT-TOKEN qname [1*attribute ENDATTRIBUTES-TOKEN] content ENDELEMENT-TOKEN
    pub data Element : Depth → Point → Point → Type 0 where
      element : {m : Depth} {s a t : Point} {number next : ℕ} → Byte doc s.at ELEMENT_TOKEN → QnameReference s (s.at + 1) number next
          → Optional Attributes (past_qname s ELEMENT_TOKEN number next) a → Content m a t → Byte doc t.at ENDELEMENT_TOKEN → Element (in_element m) s (past_end t ENDELEMENT_TOKEN)

    -- nestedbinaryxml = NEST-TOKEN document ENDNEST-TOKEN
    pub data NestedBinaryXml : Depth → Point → Point → Type 0 where
      nestedbinaryxml : {m : Depth} {version : ℕ} {s t : Point} → Byte doc s.at NEST_TOKEN → Document m version (past_nest s version) t → Byte doc t.at ENDNEST_TOKEN
          → NestedBinaryXml (in_document m) s (past_end_nest s t)

  -- ---- limits (01, "Numbers that bound the work")

  -- the document is derived within the limits, with this version and these rows
  pub record Derives (room : Room) (version : ℕ) (rows : Rows) : Type 0 where
    pub deep : Depth
    pub end : Point
    pub derived : Document deep version before_header end
    pub whole : end.at ≡ length doc
    pub rows_are : rows_at end ≡ rows
    pub not_long : length doc ≤ longest
    pub elements_few : deep.elements ≤ open_elements
    pub nested_few : deep.nested ≤ nested_documents
    pub names_few : length rows.names ≤ room.names
    pub qnames_few : length rows.qnames ≤ room.qnames
    pub events_few : length rows.events ≤ room.events

-- ---- what reading has accepted, in these terms: its answer, the outer version and the rows

-- the rows that a reading has completed
abbrev pub rows_in : State → Rows
rows_in s = record { names = s.names; qnames = s.qnames; events = s.events }

-- reading answers 0 at the document's length, with this version and these rows
pub record Accepts (doc : List ℕ) (room : Room) (version : ℕ) (rows : Rows) : Type 0 where
  pub number_is : (reading doc room).number ≡ accepted
  pub place_is : (reading doc room).place ≡ length doc
  pub version_is : (reading doc room).version ≡ version
  pub rows_are : rows_in (reading doc room).final ≡ rows

-- a document has a derivation within the limits
pub record Derivable (doc : List ℕ) (room : Room) : Type 0 where
  pub version : ℕ
  pub rows : Rows
  pub derives : Derives doc room version rows

-- the job answers 0 at the document's length with this version, and its tables hold these rows, laid over what stood there
pub record Gives (doc : List ℕ) (version : ℕ) (rows : Rows) (names qnames events names' qnames' events' : List ℕ) (a : Answer) : Type 0 where
  pub number_is : a.number ≡ accepted
  pub place_is : a.place ≡ length doc
  pub version_is : a.version ≡ version
  pub names_are : names' ≡ overlay (flat_names rows.names) names
  pub qnames_are : qnames' ≡ overlay (flat_qnames rows.qnames) qnames
  pub events_are : events' ≡ overlay (flat_events rows.events) events

-- the events of some rows, names by text
abbrev pub events_derived : List ℕ → Rows → List Event
events_derived doc rows = map (event_of doc rows.names rows.qnames) rows.events
