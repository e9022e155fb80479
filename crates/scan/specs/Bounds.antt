-- Serves the code. Bounds that a caller of the scanner needs, by what it found.
use Rattle.std.specs.Prelude.{ℕ, ◌+◌, ◌*◌, ◌≤◌, ◌<◌, ◌≡◌, Result, Ok, Err}
use Rattle.token.specs.declared.Refusal.{Refusal}
use Rattle.modes.specs.declared.View.{View}
use Rattle.scan.specs.declared.Room.{Room}
use Rattle.scan.specs.declared.Step.{Step}
use Rattle.scan.specs.declared.Step.TheVariants as step
use Rattle.token.specs.Tokens.{open_elements, nested_documents}

abbrev pub Fine : ℕ → View → Room → Step → Type 0
Fine size v room (step.End place) = Unit
Fine size v room (step.Name place units next) = (v.at < next) × (next ≤ size) × (place + 2 * units ≤ size) × (v.names < room.names)
Fine size v room (step.Qname uri prefix local next) =
    (v.at < next) × (next ≤ size) × (uri.0 ≤ v.known) × (prefix.0 ≤ v.known) × (local.0 ≤ v.known) × (v.qnames < room.qnames)
Fine size v room (step.Skip next) = (v.at < next) × (next ≤ size)
Fine size v room (step.Flush next) = (v.at < next) × (next ≤ size)
Fine size v room (step.Event token a b mode next) =
    (v.at < next) × (next ≤ size) × (a ≤ size + 2) × (b ≤ size) × (v.events < room.events)
Fine size v room (step.Refer token number mode next) =
    (v.at < next) × (next ≤ size) × (1 ≤ number.0) × (number.0 ≤ v.qknown) × (v.events < room.events)
Fine size v room (step.Open number next) =
    (v.at < next) × (next ≤ size) × (1 ≤ number.0) × (number.0 ≤ v.qknown) × (v.opened < open_elements) × (v.events < room.events)
Fine size v room (step.Pi target start next) =
    (v.at < next) × (next ≤ size) × (target.0 ≤ v.known) × (start ≤ size) × (v.events < room.events)
Fine size v room (step.Close next) = (v.at < next) × (next ≤ size) × (0 < v.elements) × (v.events < room.events)
Fine size v room (step.Nest version next) =
    (v.at < next) × (next ≤ size) × (1 ≤ version) × (version ≤ 2) × (v.depth < nested_documents) × (v.events < room.events)
Fine size v room (step.Leave next) = (v.at < next) × (next ≤ size) × (0 < v.depth) × (v.elements ≡ 0) × (v.events < room.events)

-- what was found, where it is no refusal
abbrev pub FineIf : ℕ → View → Room → Result Step Refusal → Type 0
FineIf size v room (Ok x) = Fine size v room x
FineIf size v room (Err r) = Unit
