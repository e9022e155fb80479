-- Serves the code. The commonest tokens, found by a short way: what each is a name for among the steps.
use Rattle.std.specs.Prelude.{ℕ, ◌+◌, ◌≤◌, ◌<◌, List, length, get_or, Option, Some, None, Result, Ok}
use Rattle.token.specs.declared.Refusal.{Refusal}
use Rattle.modes.specs.Modes.{mode_number}
use Rattle.scan.specs.Steps.{step_at}
use Rattle.modes.specs.declared.Mode.TheVariants.{Content, AfterPublic}
use Rattle.modes.specs.declared.View.{View}
use Rattle.scan.specs.declared.Room.{Room}
use Rattle.scan.specs.declared.Step.{Step}
use Rattle.scan.specs.declared.Step.TheVariants as step
use Rattle.common.specs.declared.Common.{Common}
use Rattle.common.specs.declared.Common.TheVariants.{End, Begin, Fixed}

abbrev pub named_step : List ℕ → View → Common → Step
named_step doc v End = step.Close (v.at + 1)
named_step doc v (Begin number) = step.Open number (v.at + 2)
named_step doc v (Fixed size) = step.Event (get_or doc v.at 0) (v.at + 1) size Content (v.at + 1 + size)

-- `None` says nothing: the step is still to be found
abbrev pub common_step : List ℕ → View → Room → Option Common → Result Step Refusal
common_step doc v room None = step_at doc v room
common_step doc v room (Some x) = Ok (named_step doc v x)

-- what all three ask for: a byte, where content may stand, and a row of events
pub record Ready (doc : List ℕ) (v : View) (room : Room) : Type 0 where
  pub here : v.at < length doc
  pub in_content : mode_number v.mode ≤ mode_number AfterPublic
  pub row_left : v.events < room.events
