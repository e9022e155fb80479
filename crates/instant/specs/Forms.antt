-- Serves the code. The rule of each kind of payload with a date or a time, as the table of tokens has it.
use Rattle.token.specs.declared.Shape.{Shape}
use Rattle.token.specs.declared.Shape.TheVariants.{Stamp, Date, Time, ZonedTime}
use Rattle.instant.specs.declared.Form.{Form}
use Rattle.instant.specs.declared.Form.TheVariants.{Date2, DateTime2, Time2, DateTimeOffset, Milliseconds}

abbrev pub form_shape : Form → Shape
form_shape Date2 = Date 0 3652058
form_shape DateTime2 = Time 0 3652058
form_shape Time2 = Time 693595 693595
form_shape DateTimeOffset = ZonedTime 0 3652058
form_shape Milliseconds = Stamp 0
