-- The smallest documents that 01, "How tight each statement is", argues by are derived: a reader that refuses everything,
-- and one that accepts but fills no row, are not what `exactly` says. Assumes nothing.
use Prim.Native.Nat.{ℕ}
use mathlib.Core.Path.{refl}
use mathlib.Core.List.{List, [], ◌∷◌, ◌++◌}
use native.Mathlib.Omega.{arith}
use Rattle.machine.specs.Machine.{event, full}
use Rattle.machine.specs.Examples.{H}
use Rattle.grammar.specs.Grammar.{before_header, past_text, past_header, lowbyte, nil, omitted, flat, texttoken, HeaderBytes, comment, document, done, then, a_comment, Derives}

-- H, then some bytes
header : (more : List ℕ) → HeaderBytes (H ++ more) 0 1
header more =
    record {
      signature = record { inside = omega arith; is = refl };
      signature' = record { inside = omega arith; is = refl };
      version_is = record { inside = omega arith; is = refl };
      version_low = omega arith;
      version_high = omega arith;
      encoding = record { inside = omega arith; is = refl };
      encoding' = record { inside = omega arith; is = refl };
    }

-- demand 2: H is derived, so a reader that refuses everything is shut out
pub header_derived : Derives H full 1 (record { names = []; qnames = []; events = [] })
header_derived =
    record {
      deep = flat;
      end = past_header before_header 1;
      derived = document (header []) omitted nil omitted done;
      whole = refl;
      rows_are = refl;
      not_long = omega arith;
      elements_few = omega arith;
      nested_few = omega arith;
      names_few = omega arith;
      qnames_few = omega arith;
      events_few = omega arith;
    }

-- H F3 00, a comment with no text
abbrev commented : List ℕ
commented = H ++ (0xF3 ∷ 0x00 ∷ [])

-- demand 2: its derivation has a row of events, so a reader that accepts but fills no row is shut out
pub row_derived : Derives commented full 1 (record { names = []; qnames = []; events = event 0xF3 5 7 0 ∷ [] })
row_derived =
    record {
      deep = flat;
      end = past_text (past_header before_header 1) 0xF3 7 0;
      derived =
          document (header (0xF3 ∷ 0x00 ∷ [])) omitted nil omitted
          (then
          (a_comment
          (comment
          (texttoken {s = past_header before_header 1} (record { inside = omega arith; is = refl })
          (record { length32 = record { spelled = lowbyte {p = 6} (record { inside = omega arith; is = refl }) (omega arith); small = omega arith }; there = omega arith }))))
          done);
      whole = refl;
      rows_are = refl;
      not_long = omega arith;
      elements_few = omega arith;
      nested_few = omega arith;
      names_few = omega arith;
      qnames_few = omega arith;
      events_few = omega arith;
    }
