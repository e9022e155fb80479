-- Events and their canonical form, worked by hand (01, "Meaning and canonical form", last paragraph).
use Rattle.std.specs.Prelude.{ℕ, List, [], ◌∷◌}
use Rattle.token.specs.Tokens.{ELEMENT_TOKEN, ENDELEMENT_TOKEN, ENDNEST_TOKEN}
use Rattle.machine.specs.Machine.{Event, pi, qnamed, nest, plain}

-- an outer version and some events, and the bytes of their form
pub record Example : Type 0 where
  pub version : ℕ
  pub events : List Event
  pub form : List ℕ

-- the texts a and t
abbrev pub text_a : List ℕ
text_a = 0x61 ∷ 0x00 ∷ []

abbrev pub text_t : List ℕ
text_t = 0x74 ∷ 0x00 ∷ []

-- an element with the empty URI and prefix
abbrev pub element : List ℕ → Event
element local = qnamed ELEMENT_TOKEN [] [] local

-- a PI with target 0: the empty text is never defined
abbrev pub empty_target : Example
empty_target = record { version = 1; events = pi [] text_t ∷ []; form = 0xDF ∷ 0xFF ∷ 0x01 ∷ 0xB0 ∷ 0x04 ∷ 0xF4 ∷ 0x00 ∷ 0x01 ∷ 0x74 ∷ 0x00 ∷ [] }

-- a text that is a URI, a prefix, a local name and a PI's target is defined once
abbrev pub shared_text : Example
shared_text =
    record {
      version = 1;
      events = qnamed ELEMENT_TOKEN text_t text_t text_t ∷ plain ENDELEMENT_TOKEN ∷ pi text_t text_a ∷ [];
      form =
          0xDF ∷ 0xFF ∷ 0x01 ∷ 0xB0 ∷ 0x04
          ∷ 0xF0 ∷ 0x01 ∷ 0x74 ∷ 0x00 ∷ 0xEF ∷ 0x01 ∷ 0x01 ∷ 0x01 ∷ 0xF8 ∷ 0x01 ∷ 0xF7
          ∷ 0xF4 ∷ 0x01 ∷ 0x01 ∷ 0x61 ∷ 0x00 ∷ [];
    }

-- two qnames with one local name: its text is defined once, before the first
abbrev pub shared_local : Example
shared_local =
    record {
      version = 2;
      events = qnamed ELEMENT_TOKEN text_a [] text_t ∷ element text_t ∷ plain ENDELEMENT_TOKEN ∷ plain ENDELEMENT_TOKEN ∷ element text_t ∷ plain ENDELEMENT_TOKEN ∷ [];
      form =
          0xDF ∷ 0xFF ∷ 0x02 ∷ 0xB0 ∷ 0x04
          ∷ 0xF0 ∷ 0x01 ∷ 0x61 ∷ 0x00 ∷ 0xF0 ∷ 0x01 ∷ 0x74 ∷ 0x00 ∷ 0xEF ∷ 0x01 ∷ 0x00 ∷ 0x02 ∷ 0xF8 ∷ 0x01
          ∷ 0xEF ∷ 0x00 ∷ 0x00 ∷ 0x02 ∷ 0xF8 ∷ 0x02 ∷ 0xF7 ∷ 0xF7
          ∷ 0xF8 ∷ 0x02 ∷ 0xF7 ∷ [];
    }

-- a nested document defines its names for itself, and its parent's go on after it
abbrev pub nested_document : Example
nested_document =
    record {
      version = 1;
      events =
          element text_a ∷ nest 2 ∷ element text_t ∷ element text_a ∷ plain ENDELEMENT_TOKEN ∷ plain ENDELEMENT_TOKEN ∷ plain ENDNEST_TOKEN
          ∷ element text_a ∷ plain ENDELEMENT_TOKEN ∷ plain ENDELEMENT_TOKEN ∷ [];
      form =
          0xDF ∷ 0xFF ∷ 0x01 ∷ 0xB0 ∷ 0x04
          ∷ 0xF0 ∷ 0x01 ∷ 0x61 ∷ 0x00 ∷ 0xEF ∷ 0x00 ∷ 0x00 ∷ 0x01 ∷ 0xF8 ∷ 0x01
          ∷ 0xEC ∷ 0xDF ∷ 0xFF ∷ 0x02 ∷ 0xB0 ∷ 0x04
          ∷ 0xF0 ∷ 0x01 ∷ 0x74 ∷ 0x00 ∷ 0xEF ∷ 0x00 ∷ 0x00 ∷ 0x01 ∷ 0xF8 ∷ 0x01
          ∷ 0xF0 ∷ 0x01 ∷ 0x61 ∷ 0x00 ∷ 0xEF ∷ 0x00 ∷ 0x00 ∷ 0x02 ∷ 0xF8 ∷ 0x02
          ∷ 0xF7 ∷ 0xF7 ∷ 0xEB
          ∷ 0xF8 ∷ 0x01 ∷ 0xF7 ∷ 0xF7 ∷ [];
    }
