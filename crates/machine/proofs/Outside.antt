-- Which modes have an attribute list or a CDATA section open, mode by mode. Assumes nothing.
use mathlib.Core.Path.{◌≡◌, refl, sym, ◌∙◌}
use mathlib.Core.Bool.{Bool, true, false, ◌||◌}
use Rattle.modes.specs.Modes.{content, in_attributes, is, after_metadata, after_misc, after_value}
use Rattle.modes.specs.declared.Mode.{Mode}
use Rattle.modes.specs.declared.Mode.TheVariants.{Content, Tag, First, Prolog, AfterDocType, AfterSystem, AfterPublic, Attributes, Cdata, AfterXmlDecl, AfterEncoding}

module _ (test : Mode → Bool) where
  -- a test that fails in an attribute list holds only where none is open
  pub no_list : test Attributes ≡ false → (m : Mode) → test m ≡ true → in_attributes m ≡ false
  no_list a Content e = refl
  no_list a Tag e = refl
  no_list a First e = refl
  no_list a Prolog e = refl
  no_list a AfterDocType e = refl
  no_list a AfterSystem e = refl
  no_list a AfterPublic e = refl
  no_list a Attributes e = sym e ∙ a
  no_list a Cdata e = refl
  no_list a AfterXmlDecl e = refl
  no_list a AfterEncoding e = refl

  -- a test that fails in a CDATA section holds only where none is open
  pub no_section : test Cdata ≡ false → (m : Mode) → test m ≡ true → is m Cdata ≡ false
  no_section a Content e = refl
  no_section a Tag e = refl
  no_section a First e = refl
  no_section a Prolog e = refl
  no_section a AfterDocType e = refl
  no_section a AfterSystem e = refl
  no_section a AfterPublic e = refl
  no_section a Attributes e = refl
  no_section a Cdata e = sym e ∙ a
  no_section a AfterXmlDecl e = refl
  no_section a AfterEncoding e = refl

  -- a test that fails in both and in a declaration holds only at root or in an element
  pub in_content : test Attributes ≡ false → test Cdata ≡ false → test AfterXmlDecl ≡ false → test AfterEncoding ≡ false
      → (m : Mode) → test m ≡ true → content m ≡ true
  in_content a b c d Content e = refl
  in_content a b c d Tag e = refl
  in_content a b c d First e = refl
  in_content a b c d Prolog e = refl
  in_content a b c d AfterDocType e = refl
  in_content a b c d AfterSystem e = refl
  in_content a b c d AfterPublic e = refl
  in_content a b c d Attributes e = sym a ∙ e
  in_content a b c d Cdata e = sym b ∙ e
  in_content a b c d AfterXmlDecl e = sym c ∙ e
  in_content a b c d AfterEncoding e = sym d ∙ e

-- no list and no section is open at root or in an element
pub content_list : (m : Mode) → content m ≡ true → in_attributes m ≡ false
content_list m e = no_list content refl m e

pub content_section : (m : Mode) → content m ≡ true → is m Cdata ≡ false
content_section m e = no_section content refl m e

-- a value leaves both as they are, and so does metadata
pub value_list : (m : Mode) → in_attributes (after_value m) ≡ in_attributes m
value_list Content = refl
value_list Tag = refl
value_list First = refl
value_list Prolog = refl
value_list AfterDocType = refl
value_list AfterSystem = refl
value_list AfterPublic = refl
value_list Attributes = refl
value_list Cdata = refl
value_list AfterXmlDecl = refl
value_list AfterEncoding = refl

pub value_section : (m : Mode) → (content m || in_attributes m) ≡ true → is (after_value m) Cdata ≡ is m Cdata
value_section Content e = refl
value_section Tag e = refl
value_section First e = refl
value_section Prolog e = refl
value_section AfterDocType e = refl
value_section AfterSystem e = refl
value_section AfterPublic e = refl
value_section Attributes e = refl
value_section Cdata e = e
value_section AfterXmlDecl e = refl
value_section AfterEncoding e = refl

pub metadata_list : (m : Mode) → in_attributes (after_metadata m) ≡ in_attributes m
metadata_list Content = refl
metadata_list Tag = refl
metadata_list First = refl
metadata_list Prolog = refl
metadata_list AfterDocType = refl
metadata_list AfterSystem = refl
metadata_list AfterPublic = refl
metadata_list Attributes = refl
metadata_list Cdata = refl
metadata_list AfterXmlDecl = refl
metadata_list AfterEncoding = refl

pub metadata_section : (m : Mode) → is (after_metadata m) Cdata ≡ is m Cdata
metadata_section Content = refl
metadata_section Tag = refl
metadata_section First = refl
metadata_section Prolog = refl
metadata_section AfterDocType = refl
metadata_section AfterSystem = refl
metadata_section AfterPublic = refl
metadata_section Attributes = refl
metadata_section Cdata = refl
metadata_section AfterXmlDecl = refl
metadata_section AfterEncoding = refl

-- content follows a comment and a PI
pub misc_content : (m : Mode) → content (after_misc m) ≡ true
misc_content Content = refl
misc_content Tag = refl
misc_content First = refl
misc_content Prolog = refl
misc_content AfterDocType = refl
misc_content AfterSystem = refl
misc_content AfterPublic = refl
misc_content Attributes = refl
misc_content Cdata = refl
misc_content AfterXmlDecl = refl
misc_content AfterEncoding = refl
