-- The tests on modes by their numbers. Assumes nothing.
use mathlib.Core.Path.{◌≡◌, refl}
use lib.Dec.{leb}
use Rattle.modes.specs.Modes.{content, in_declaration, mode_number}
use Rattle.modes.specs.declared.Mode.{Mode}
use Rattle.modes.specs.declared.Mode.TheVariants.{Content, Tag, First, Prolog, AfterDocType, AfterSystem, AfterPublic, Attributes, Cdata, AfterXmlDecl, AfterEncoding}

pub content_is : (m : Mode) → leb (mode_number m) 6 ≡ content m
content_is Content = refl
content_is Tag = refl
content_is First = refl
content_is Prolog = refl
content_is AfterDocType = refl
content_is AfterSystem = refl
content_is AfterPublic = refl
content_is Attributes = refl
content_is Cdata = refl
content_is AfterXmlDecl = refl
content_is AfterEncoding = refl

pub declares_is : (m : Mode) → leb 9 (mode_number m) ≡ in_declaration m
declares_is Content = refl
declares_is Tag = refl
declares_is First = refl
declares_is Prolog = refl
declares_is AfterDocType = refl
declares_is AfterSystem = refl
declares_is AfterPublic = refl
declares_is Attributes = refl
declares_is Cdata = refl
declares_is AfterXmlDecl = refl
declares_is AfterEncoding = refl
