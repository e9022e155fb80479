-- Serves the code. Bounds that a caller of `fields::name_at`, `fields::qname_at` and `fields::header_at` needs.
use Rattle.std.specs.Prelude.{ℕ, ◌≤◌, ◌<◌, ◌+◌, ◌≡◌, Result, Ok, Err}
use Rattle.token.specs.declared.Refusal.{Refusal}
use Rattle.fields.specs.declared.Name.{Name}
use Rattle.fields.specs.declared.Qname.{Qname}
use Rattle.fields.specs.declared.Header.{Header}

-- bounds that a caller needs
abbrev pub NameWithin : ℕ → ℕ → ℕ → Result Name Refusal → Type 0
NameWithin size at known (Ok n) = (at < n.next) × (n.next ≤ size) × (n.number.0 ≤ known)
NameWithin size at known (Err r) = Unit

abbrev pub QnameWithin : ℕ → ℕ → ℕ → Result Qname Refusal → Type 0
QnameWithin size at known (Ok n) = (at < n.next) × (n.next ≤ size) × (1 ≤ n.number.0) × (n.number.0 ≤ known)
QnameWithin size at known (Err r) = Unit

-- bounds that a caller needs
abbrev pub HeaderWithin : ℕ → ℕ → Result Header Refusal → Type 0
HeaderWithin size at (Ok h) = (h.next ≡ at + 5) × (h.next ≤ size) × (1 ≤ h.version) × (h.version ≤ 2)
HeaderWithin size at (Err r) = Unit
