-- The table of tokens lists exactly the alternatives of atomicvalue as values. Assumes nothing.
use Prim.Native.Nat.{ℕ}
use mathlib.Core.Path.{◌≡◌, refl, subst}
use mathlib.Core.Bool.{Bool, true, false}
use mathlib.Core.List.{List, [], ◌∷◌}
use native.Mathlib.Omega.{arith}
use lib.Dec.{eqb}
use Rattle.sequences.specs.Arrays.{Every, none, first}
use Rattle.sequences.proofs.Tests.{cond_if}
use Rattle.token.specs.Tokens.{Token, token, tokens, find, class_of, shape_of}
use Rattle.token.specs.declared.Class.{Class}
use Rattle.token.specs.declared.Class.TheVariants as class
use Rattle.token.specs.declared.Shape.{Shape}
use Rattle.token.specs.declared.Shape.TheVariants.{Nothing}
use Rattle.machine.proofs.Codes.{find_code}
use Rattle.grammar.specs.Grammar.{Atomic, SQL_BIT, SQL_TINYINT, SQL_SMALLINT, SQL_INT, SQL_BIGINT, SQL_REAL, SQL_FLOAT, SQL_MONEY, SQL_SMALLMONEY, SQL_DATETIME, SQL_SMALLDATETIME, SQL_DECIMAL, SQL_NUMERIC, SQL_UUID, SQL_VARBINARY, SQL_BINARY, SQL_IMAGE, SQL_CHAR, SQL_VARCHAR, SQL_TEXT, SQL_NVARCHAR, SQL_NCHAR, SQL_NTEXT, SQL_UDT, XSD_BOOLEAN, XSD_TIME, XSD_DATETIME, XSD_DATE, XSD_BINHEX, XSD_BASE64, XSD_DECIMAL, XSD_BYTE, XSD_UNSIGNEDSHORT, XSD_UNSIGNEDINT, XSD_UNSIGNEDLONG, XSD_QNAME, XSD_DATE2, XSD_DATETIME2, XSD_TIME2, XSD_DATEOFFSET, XSD_DATETIMEOFFSET, XSD_TIMEOFFSET}

-- a class of values, in a version that has them
pub data Values (version : ℕ) : Class → Type 0 where
  any_version : Values version class.Value
  later : version ≡ 2 → Values version class.LaterValue

pub atomic_class : {version code : ℕ} {shape : Shape} → Atomic version code shape → Values version (class_of code)
unfolding class_of
atomic_class SQL_BIT = any_version
atomic_class SQL_TINYINT = any_version
atomic_class SQL_SMALLINT = any_version
atomic_class SQL_INT = any_version
atomic_class SQL_BIGINT = any_version
atomic_class SQL_REAL = any_version
atomic_class SQL_FLOAT = any_version
atomic_class SQL_MONEY = any_version
atomic_class SQL_SMALLMONEY = any_version
atomic_class SQL_DATETIME = any_version
atomic_class SQL_SMALLDATETIME = any_version
atomic_class SQL_DECIMAL = any_version
atomic_class SQL_NUMERIC = any_version
atomic_class SQL_UUID = any_version
atomic_class SQL_VARBINARY = any_version
atomic_class SQL_BINARY = any_version
atomic_class SQL_IMAGE = any_version
atomic_class SQL_CHAR = any_version
atomic_class SQL_VARCHAR = any_version
atomic_class SQL_TEXT = any_version
atomic_class SQL_NVARCHAR = any_version
atomic_class SQL_NCHAR = any_version
atomic_class SQL_NTEXT = any_version
atomic_class SQL_UDT = any_version
atomic_class XSD_BOOLEAN = any_version
atomic_class XSD_TIME = any_version
atomic_class XSD_DATETIME = any_version
atomic_class XSD_DATE = any_version
atomic_class XSD_BINHEX = any_version
atomic_class XSD_BASE64 = any_version
atomic_class XSD_DECIMAL = any_version
atomic_class XSD_BYTE = any_version
atomic_class XSD_UNSIGNEDSHORT = any_version
atomic_class XSD_UNSIGNEDINT = any_version
atomic_class XSD_UNSIGNEDLONG = any_version
atomic_class XSD_QNAME = any_version
atomic_class (XSD_DATE2 h) = later h
atomic_class (XSD_DATETIME2 h) = later h
atomic_class (XSD_TIME2 h) = later h
atomic_class (XSD_DATEOFFSET h) = later h
atomic_class (XSD_DATETIMEOFFSET h) = later h
atomic_class (XSD_TIMEOFFSET h) = later h

pub atomic_shape : {version code : ℕ} {shape : Shape} → Atomic version code shape → shape_of code ≡ shape
unfolding shape_of
atomic_shape SQL_BIT = refl
atomic_shape SQL_TINYINT = refl
atomic_shape SQL_SMALLINT = refl
atomic_shape SQL_INT = refl
atomic_shape SQL_BIGINT = refl
atomic_shape SQL_REAL = refl
atomic_shape SQL_FLOAT = refl
atomic_shape SQL_MONEY = refl
atomic_shape SQL_SMALLMONEY = refl
atomic_shape SQL_DATETIME = refl
atomic_shape SQL_SMALLDATETIME = refl
atomic_shape SQL_DECIMAL = refl
atomic_shape SQL_NUMERIC = refl
atomic_shape SQL_UUID = refl
atomic_shape SQL_VARBINARY = refl
atomic_shape SQL_BINARY = refl
atomic_shape SQL_IMAGE = refl
atomic_shape SQL_CHAR = refl
atomic_shape SQL_VARCHAR = refl
atomic_shape SQL_TEXT = refl
atomic_shape SQL_NVARCHAR = refl
atomic_shape SQL_NCHAR = refl
atomic_shape SQL_NTEXT = refl
atomic_shape SQL_UDT = refl
atomic_shape XSD_BOOLEAN = refl
atomic_shape XSD_TIME = refl
atomic_shape XSD_DATETIME = refl
atomic_shape XSD_DATE = refl
atomic_shape XSD_BINHEX = refl
atomic_shape XSD_BASE64 = refl
atomic_shape XSD_DECIMAL = refl
atomic_shape XSD_BYTE = refl
atomic_shape XSD_UNSIGNEDSHORT = refl
atomic_shape XSD_UNSIGNEDINT = refl
atomic_shape XSD_UNSIGNEDLONG = refl
atomic_shape XSD_QNAME = refl
atomic_shape (XSD_DATE2 h) = refl
atomic_shape (XSD_DATETIME2 h) = refl
atomic_shape (XSD_TIME2 h) = refl
atomic_shape (XSD_DATEOFFSET h) = refl
atomic_shape (XSD_DATETIMEOFFSET h) = refl
atomic_shape (XSD_TIMEOFFSET h) = refl

-- a token of the list that is a value is an alternative
record Listed (version : ℕ) (t : Token) : Type 0 where
  alternative : Values version t.class → Atomic version t.code t.shape

-- values of both versions, of version 2, and no values
any : {version code : ℕ} {shape : Shape} → Atomic version code shape → Listed version (token code class.Value shape)
any a = record { alternative = λ v. a }

two : {version code : ℕ} {shape : Shape} → (version ≡ 2 → Atomic version code shape) → Listed version (token code class.LaterValue shape)
two {version} {code} {shape} a = record { alternative = λ v. go v }
  where
    go : Values version class.LaterValue → Atomic version code shape
    go (later h) = a h

abbrev is_value : Class → Bool
is_value class.Unknown = false
is_value class.Value = true
is_value class.LaterValue = true
is_value class.XmlDecl = false
is_value class.Encoding = false
is_value class.DocType = false
is_value class.System = false
is_value class.Public = false
is_value class.Subset = false
is_value class.Element = false
is_value class.EndElement = false
is_value class.Attribute = false
is_value class.EndAttributes = false
is_value class.Pi = false
is_value class.Comment = false
is_value class.Cdata = false
is_value class.CdataEnd = false
is_value class.NameDef = false
is_value class.QnameDef = false
is_value class.Nest = false
is_value class.EndNest = false
is_value class.Extension = false
is_value class.Flush = false

neither : {version code : ℕ} {c : Class} {shape : Shape} → is_value c ≡ false → Listed version (token code c shape)
neither {version} {code} {c} {shape} e = record { alternative = λ v. go v e }
  where
    go : {c : Class} → Values version c → is_value c ≡ false → Atomic version code shape
    go any_version e = absurd (let z : ◌≡◌ {A = ℕ} 0 1 = cc in let q : ⊥ = omega arith in q)
    go (later h) e = absurd (let z : ◌≡◌ {A = ℕ} 0 1 = cc in let q : ⊥ = omega arith in q)

listed : (version : ℕ) → Every (Listed version) tokens
listed version =
    first (any SQL_SMALLINT)
    (first (any SQL_INT)
    (first (any SQL_REAL)
    (first (any SQL_FLOAT)
    (first (any SQL_MONEY)
    (first (any SQL_BIT)
    (first (any SQL_TINYINT)
    (first (any SQL_BIGINT)
    (first (any SQL_UUID)
    (first (any SQL_DECIMAL)
    (first (any SQL_NUMERIC)
    (first (any SQL_BINARY)
    (first (any SQL_CHAR)
    (first (any SQL_NCHAR)
    (first (any SQL_VARBINARY)
    (first (any SQL_VARCHAR)
    (first (any SQL_NVARCHAR)
    (first (any SQL_DATETIME)
    (first (any SQL_SMALLDATETIME)
    (first (any SQL_SMALLMONEY)
    (first (any SQL_TEXT)
    (first (any SQL_IMAGE)
    (first (any SQL_NTEXT)
    (first (any SQL_UDT)
    (first (two (λ h. XSD_TIMEOFFSET h))
    (first (two (λ h. XSD_DATETIMEOFFSET h))
    (first (two (λ h. XSD_DATEOFFSET h))
    (first (two (λ h. XSD_TIME2 h))
    (first (two (λ h. XSD_DATETIME2 h))
    (first (two (λ h. XSD_DATE2 h))
    (first (any XSD_TIME)
    (first (any XSD_DATETIME)
    (first (any XSD_DATE)
    (first (any XSD_BINHEX)
    (first (any XSD_BASE64)
    (first (any XSD_BOOLEAN)
    (first (any XSD_DECIMAL)
    (first (any XSD_BYTE)
    (first (any XSD_UNSIGNEDSHORT)
    (first (any XSD_UNSIGNEDINT)
    (first (any XSD_UNSIGNEDLONG)
    (first (any XSD_QNAME)
    (first (neither refl)
    (first (neither refl)
    (first (neither refl)
    (first (neither refl)
    (first (neither refl)
    (first (neither refl)
    (first (neither refl)
    (first (neither refl)
    (first (neither refl)
    (first (neither refl)
    (first (neither refl)
    (first (neither refl)
    (first (neither refl)
    (first (neither refl)
    (first (neither refl)
    (first (neither refl)
    (first (neither refl)
    (first (neither refl)
    (first (neither refl)
    (first (neither refl)
    (none))))))))))))))))))))))))))))))))))))))))))))))))))))))))))))))

found : {P : Token → Type 0} (code : ℕ) (ts : List Token) → P (token code class.Unknown Nothing) → Every P ts → P (find code ts)
found code [] u none = u
found {P} code (t ∷ ts) u (first p ps) = cond_if P (eqb code t.code) t (find code ts) (λ e. p) (λ e. found code ts u ps)

-- so a code of such a class is an alternative
pub class_atomic : (version code : ℕ) → Values version (class_of code) → Atomic version code (shape_of code)
unfolding class_of shape_of
class_atomic version code v =
    subst (λ (n : ℕ). Atomic version n (find code tokens).shape) (find_code code tokens)
    ((found {P = Listed version} code tokens (neither refl) (listed version)).alternative v)
