-- The modes of a source and of its form: the source's metadata may have moved its mode on where the form has none yet. What
-- may stand in the source's mode may stand in the form's. Assumes nothing.
use mathlib.Core.Path.{◌≡◌, refl, ◌∙◌}
use mathlib.Core.Logic.{◌⊎◌, inl, inr}
use mathlib.Core.Bool.{true}
use Rattle.token.specs.declared.Class.{Class}
use Rattle.modes.specs.Modes.{content, in_attributes, in_declaration, is, allowed, after_metadata, after_misc, after_value}
use Rattle.modes.specs.declared.Mode.{Mode}
use Rattle.modes.specs.declared.Mode.TheVariants.{Content, Tag, First, Prolog, AfterDocType, AfterSystem, AfterPublic, Attributes, Cdata, AfterXmlDecl, AfterEncoding}
use Rattle.modes.specs.declared.View.{View}
use Rattle.machine.proofs.Found as found
use Rattle.machine.proofs.Found.{TextLeads}
use Rattle.form_laws.proofs.Lists.{clash}

-- the mode of the source, and that of the form
pub data Earlier : Mode → Mode → Type 0 where
  same : {m : Mode} → Earlier m m
  at_first : Earlier Prolog First
  typed : Earlier Content AfterDocType
  system : Earlier Content AfterSystem
  public : Earlier Content AfterPublic

-- modes that no token with a name tells apart
pub record Alike (m m' : Mode) : Type 0 where
  pub contents : content m' ≡ content m
  pub listings : in_attributes m' ≡ in_attributes m
  pub declarations : in_declaration m' ≡ in_declaration m
  pub tags : is m' Tag ≡ is m Tag
  pub sections : is m' Cdata ≡ is m Cdata
  pub miscs : after_misc m' ≡ after_misc m
  pub values : after_value m' ≡ after_value m

alike : {m m' : Mode} → content m' ≡ content m → in_attributes m' ≡ in_attributes m → in_declaration m' ≡ in_declaration m → is m' Tag ≡ is m Tag → is m' Cdata ≡ is m Cdata
    → after_misc m' ≡ after_misc m → after_value m' ≡ after_value m → Alike m m'
alike a b c d e f g = record { contents = a; listings = b; declarations = c; tags = d; sections = e; miscs = f; values = g }

pub alike_same : (m : Mode) → Alike m m
alike_same m = alike refl refl refl refl refl refl refl

pub alike_on : {m n o : Mode} → Alike m n → Alike n o → Alike m o
alike_on a b =
    record {
      contents = b.contents ∙ a.contents;
      listings = b.listings ∙ a.listings;
      declarations = b.declarations ∙ a.declarations;
      tags = b.tags ∙ a.tags;
      sections = b.sections ∙ a.sections;
      miscs = b.miscs ∙ a.miscs;
      values = b.values ∙ a.values;
    }

pub alike_earlier : {m m' : Mode} → Earlier m m' → Alike m m'
alike_earlier (same {m = m}) = alike_same m
alike_earlier at_first = alike refl refl refl refl refl refl refl
alike_earlier typed = alike refl refl refl refl refl refl refl
alike_earlier system = alike refl refl refl refl refl refl refl
alike_earlier public = alike refl refl refl refl refl refl refl

-- metadata of the form
pub alike_metadata : (m : Mode) → Alike m (after_metadata m)
alike_metadata Content = alike_same Content
alike_metadata Tag = alike_same Tag
alike_metadata First = alike refl refl refl refl refl refl refl
alike_metadata Prolog = alike_same Prolog
alike_metadata AfterDocType = alike refl refl refl refl refl refl refl
alike_metadata AfterSystem = alike refl refl refl refl refl refl refl
alike_metadata AfterPublic = alike refl refl refl refl refl refl refl
alike_metadata Attributes = alike_same Attributes
alike_metadata Cdata = alike_same Cdata
alike_metadata AfterXmlDecl = alike_same AfterXmlDecl
alike_metadata AfterEncoding = alike_same AfterEncoding

-- metadata of the source
pub earlier_metadata : {m m' : Mode} → Earlier m m' → Earlier (after_metadata m) m'
earlier_metadata (same {m = m}) = go m
  where
    go : (m : Mode) → Earlier (after_metadata m) m
    go Content = same
    go Tag = same
    go First = at_first
    go Prolog = same
    go AfterDocType = typed
    go AfterSystem = system
    go AfterPublic = public
    go Attributes = same
    go Cdata = same
    go AfterXmlDecl = same
    go AfterEncoding = same
earlier_metadata at_first = at_first
earlier_metadata typed = typed
earlier_metadata system = system
earlier_metadata public = public

-- modes that are the same
pub earlier_equal : {m m' : Mode} → m' ≡ m → Earlier m m'
earlier_equal e = rw e same

pub earlier_declares : {m m' : Mode} → Earlier m m' → in_declaration m ≡ true → m' ≡ m
earlier_declares same e = refl
earlier_declares at_first e = clash (cc)
earlier_declares typed e = clash (cc)
earlier_declares system e = clash (cc)
earlier_declares public e = clash (cc)

pub declaring : (m : Mode) → in_declaration m ≡ true → (m ≡ AfterXmlDecl) ⊎ (m ≡ AfterEncoding)
declaring Content e = clash (cc)
declaring Tag e = clash (cc)
declaring First e = clash (cc)
declaring Prolog e = clash (cc)
declaring AfterDocType e = clash (cc)
declaring AfterSystem e = clash (cc)
declaring AfterPublic e = clash (cc)
declaring Attributes e = clash (cc)
declaring Cdata e = clash (cc)
declaring AfterXmlDecl e = inl refl
declaring AfterEncoding e = inr refl

pub is_listing : (m : Mode) → in_attributes m ≡ true → m ≡ Attributes
is_listing Content e = clash (cc)
is_listing Tag e = clash (cc)
is_listing First e = clash (cc)
is_listing Prolog e = clash (cc)
is_listing AfterDocType e = clash (cc)
is_listing AfterSystem e = clash (cc)
is_listing AfterPublic e = clash (cc)
is_listing Attributes e = refl
is_listing Cdata e = clash (cc)
is_listing AfterXmlDecl e = clash (cc)
is_listing AfterEncoding e = clash (cc)

pub is_cdata : (m : Mode) → is m Cdata ≡ true → m ≡ Cdata
is_cdata Content e = clash (cc)
is_cdata Tag e = clash (cc)
is_cdata First e = clash (cc)
is_cdata Prolog e = clash (cc)
is_cdata AfterDocType e = clash (cc)
is_cdata AfterSystem e = clash (cc)
is_cdata AfterPublic e = clash (cc)
is_cdata Attributes e = clash (cc)
is_cdata Cdata e = refl
is_cdata AfterXmlDecl e = clash (cc)
is_cdata AfterEncoding e = clash (cc)

-- the tokens with a text are judged by the mode alone
abbrev pub view_at : Mode → View
view_at m =
    record { at = 0; mode = m; version = 0; elements = 0; opened = 0; depth = 0; known = 0; base = 0; qknown = 0; qbase = 0; names = 0; qnames = 0; events = 0 }

pub earlier_text : {c : Class} {m m' n : Mode} → Earlier m m' → TextLeads m c n → allowed c (view_at m) ≡ true → allowed c (view_at m') ≡ true
earlier_text same t e = e
earlier_text at_first found.xml_decl e = clash (cc)
earlier_text at_first found.doc_type e = refl
earlier_text at_first found.system e = e
earlier_text at_first found.public e = e
earlier_text at_first found.subset e = e
earlier_text at_first found.comment e = refl
earlier_text at_first found.cdata e = refl
earlier_text typed found.xml_decl e = e
earlier_text typed found.doc_type e = e
earlier_text typed found.system e = clash (cc)
earlier_text typed found.public e = clash (cc)
earlier_text typed found.subset e = clash (cc)
earlier_text typed found.comment e = refl
earlier_text typed found.cdata e = refl
earlier_text system found.xml_decl e = e
earlier_text system found.doc_type e = e
earlier_text system found.system e = e
earlier_text system found.public e = clash (cc)
earlier_text system found.subset e = clash (cc)
earlier_text system found.comment e = refl
earlier_text system found.cdata e = refl
earlier_text public found.xml_decl e = e
earlier_text public found.doc_type e = e
earlier_text public found.system e = e
earlier_text public found.public e = e
earlier_text public found.subset e = clash (cc)
earlier_text public found.comment e = refl
earlier_text public found.cdata e = refl
