-- The cases marked P in 01, "Extracts worked by hand", of reading and of value text, and those of 02, item 2, as one list; bytes as the
-- papers write them.
use Rattle.std.specs.Prelude.{ℕ, List, [], ◌∷◌, ◌++◌}
use Rattle.std.proofs.Math.Option.{Option, some}
use Rattle.plan.specs.Text.{text_of}
use Rattle.machine.specs.Machine.{NameRow, QnameRow, EventRow, Result, full}
use Rattle.machine.specs.Machine as machine
use Rattle.machine.specs.Examples.{H, Case, case}

-- a case of reading, none has a row; or a token with its payload and the units of its text
pub data Worked : Type 0 where
  read : Case → Worked
  text : ℕ → List ℕ → List ℕ → Worked

-- a document with the answer number and its place
abbrev reading : List ℕ → ℕ → ℕ → Worked
reading document number place = read (case document number place)

-- what a job gives: an answer number, its place and the three tables; or the units of a text, if there is one
pub data Given : Type 0 where
  answer : ℕ → ℕ → List NameRow → List QnameRow → List EventRow → Given
  units : Option (List ℕ) → Given

-- what 01 and 02 say
abbrev pub said : Worked → Given
said (read c) = answer c.number c.place [] [] []
said (text token payload written) = units (some written)

abbrev answered : Result → Given
answered r = answer r.number r.place r.final.names r.final.qnames r.final.events

-- what the definitions give, with tables at the full bounds
abbrev pub given : Worked → Given
given (read c) = answered (machine.reading c.document full)
given (text token payload written) = units (text_of token payload)

abbrev pub cases : List Worked
cases =
    -- empty input: 2 at 0
    reading [] 2 0
    -- H: accepted, no rows
    ∷ reading H 0 5
    -- H F7: 5 at 5
    ∷ reading (H ++ (0xF7 ∷ [])) 5 5
    -- H F8: 2 at 6
    ∷ reading (H ++ (0xF8 ∷ [])) 2 6
    -- H F8 00: 6 at 6
    ∷ reading (H ++ (0xF8 ∷ 0x00 ∷ [])) 6 6
    -- H F8 FF FF FF FF 07: 6 at 6
    ∷ reading (H ++ (0xF8 ∷ 0xFF ∷ 0xFF ∷ 0xFF ∷ 0xFF ∷ 0x07 ∷ [])) 6 6
    -- with last byte 08: 4 at 6
    ∷ reading (H ++ (0xF8 ∷ 0xFF ∷ 0xFF ∷ 0xFF ∷ 0xFF ∷ 0x08 ∷ [])) 4 6
    -- H 11 03 61 00: 2 at 9
    ∷ reading (H ++ (0x11 ∷ 0x03 ∷ 0x61 ∷ 0x00 ∷ [])) 2 9
    -- payload of 0A 07 06 04 01 5E 0D 03 00: "20.0030"
    ∷ text 0x0A (0x06 ∷ 0x04 ∷ 0x01 ∷ 0x5E ∷ 0x0D ∷ 0x03 ∷ 0x00 ∷ []) (50 ∷ 48 ∷ 46 ∷ 48 ∷ 48 ∷ 51 ∷ 48 ∷ [])
    -- 05 with 103001: "10.3001"
    ∷ text 0x05 (0x59 ∷ 0x92 ∷ 0x01 ∷ 0 ∷ 0 ∷ 0 ∷ 0 ∷ 0 ∷ []) (49 ∷ 48 ∷ 46 ∷ 51 ∷ 48 ∷ 48 ∷ 49 ∷ [])
    -- 07 FF: "255" (02, item 2; 01 had "-1")
    ∷ text 0x07 (0xFF ∷ []) (50 ∷ 53 ∷ 53 ∷ [])
    -- 88 FF: "-1" (02, item 2; 01 had "255")
    ∷ text 0x88 (0xFF ∷ []) (45 ∷ 49 ∷ [])
    -- 07 C8: "200", the storeys of 02, item 2
    ∷ text 0x07 (0xC8 ∷ []) (50 ∷ 48 ∷ 48 ∷ [])
    ∷ []
