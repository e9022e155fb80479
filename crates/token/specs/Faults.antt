-- Why a job refuses (01, "Answer numbers"): the number of each fault, and a refusal with its place or count.
use Rattle.std.specs.Prelude.{ℕ}
use Rattle.token.specs.Tokens.{too_long, missing, bad_header, bad_number, bad_token, not_defined, bad_value, too_deep, no_row, no_room, no_pairs, no_text, form_too_long}
use Rattle.token.specs.declared.Fault.{Fault}
use Rattle.token.specs.declared.Fault.TheVariants.{TooLong, Missing, BadHeader, BadNumber, BadToken, NotDefined, BadValue, TooDeep, NoRow, NoRoom, NoPairs, NoText, FormTooLong}
use Rattle.token.specs.declared.Refusal.{Refusal}

abbrev pub number_of : Fault → ℕ
number_of TooLong = too_long
number_of Missing = missing
number_of BadHeader = bad_header
number_of BadNumber = bad_number
number_of BadToken = bad_token
number_of NotDefined = not_defined
number_of BadValue = bad_value
number_of TooDeep = too_deep
number_of NoRow = no_row
number_of NoRoom = no_room
number_of NoPairs = no_pairs
number_of NoText = no_text
number_of FormTooLong = form_too_long

abbrev pub refusal : Fault → ℕ → Refusal
refusal fault place = record { fault = fault; place = place }
