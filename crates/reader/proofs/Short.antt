-- The short way of the commonest tokens: each goes on as the step that it is a name for. Assumes nothing.
use Prim.Native.Nat.{ℕ, ◌+◌, ◌≤◌, ◌<◌}
use mathlib.Core.Path.{◌≡◌, refl, sym, ◌∙◌, ap}
use mathlib.Core.List.{List}
use lib.ListN.{length, get_or}
use Rattle.token.specs.declared.QnameNumber.{QnameNumber}
use Rattle.scan.specs.Bounds.{Fine}
use Rattle.scan.specs.Steps.{step_at}
use Rattle.std.specs.Prelude.{Option, Some, Ok}
use Rattle.common.specs.Common.{common_step, named_step}
use Rattle.modes.specs.declared.Mode.TheVariants.{Content}
use Rattle.modes.specs.declared.View.{View}
use Rattle.scan.specs.declared.Room.{Room}
use Rattle.common.specs.declared.Common.{Common}
use Rattle.common.specs.declared.Common.TheVariants.{End, Begin, Fixed}
use Rattle.scan.proofs.Fine.{found_fine}
use Rattle.machine.specs.Machine.{Result}
use Rattle.rows.specs.declared.Stacks.{Stacks}
use Rattle.rows.specs.Tables.{Tables, tables, put4, row_at, evented, entered, element_closed, Turned}
use Rattle.machine.proofs.Goes.{Goes}
use Rattle.reader.proofs.Walks.{Walks, going, nearer}

module _ (doc : List ℕ) (v : View) (room : Room) {c : Option Common} {x : Common} (e : common_step doc v room c ≡ step_at doc v room) (g : c ≡ Some x) where
  common_is : Ok (named_step doc v x) ≡ step_at doc v room
  common_is = ap (common_step doc v room) (sym g) ∙ e

  pub common_fine : Fine (length doc) v room (named_step doc v x)
  common_fine = found_fine doc v room common_is

-- the loop goes on, with fewer bytes left
pub record Onward (doc : List ℕ) (room : Room) (version : ℕ) (end : Result) (n₀ q₀ e₀ : List ℕ) (t : Tables) (v r : View) : Type 0 where
  pub walks : Walks doc room version end n₀ q₀ e₀ t r
  pub past : v.at < r.at
  pub inside : r.at ≤ length doc

module _ {doc : List ℕ} {room : Room} {version : ℕ} {end : Result} {n₀ q₀ e₀ names qnames events : List ℕ} {stacks : Stacks} {v : View}
    (w : Walks doc room version end n₀ q₀ e₀ (tables names qnames events stacks) v)
    {c : Option Common} (e : common_step doc v room c ≡ step_at doc v room) {events' : List ℕ} {r : View} where
  onward : {x : Common} → c ≡ Some x → Goes (named_step doc v x)
      → Turned (tables names qnames events stacks) (tables names qnames events' stacks) v (named_step doc v x) r
      → Onward doc room version end n₀ q₀ e₀ (tables names qnames events' stacks) v r
  onward {x} g go u =
      let f = common_fine doc v room e g in
      let n = nearer w (named_step doc v x) go f u in
      record { walks = going w (named_step doc v x) (common_is doc v room e g) go f u; past = n.0; inside = n.1 }

  pub ended : c ≡ Some End → events' ≡ put4 events v.events 0xF7 v.at 0 0 → r ≡ element_closed v (v.at + 1)
      → Onward doc room version end n₀ q₀ e₀ (tables names qnames events' stacks) v r
  ended g p s =
      onward g tt (record { names_are = refl; qnames_are = refl; events_are = p; stacks_are = refl; view_is = s })

  pub begun : {number : QnameNumber} → c ≡ Some (Begin number)
      → events' ≡ put4 events v.events 0xF8 v.at (row_at stacks.qnames v.qbase number.0) 0 → r ≡ entered v (v.at + 2)
      → Onward doc room version end n₀ q₀ e₀ (tables names qnames events' stacks) v r
  begun g p s =
      onward g tt (record { names_are = refl; qnames_are = refl; events_are = p; stacks_are = refl; view_is = s })

  pub valued : {size : ℕ} → c ≡ Some (Fixed size)
      → events' ≡ put4 events v.events (get_or doc v.at 0) v.at (v.at + 1) size → r ≡ evented v Content (v.at + 1 + size)
      → Onward doc room version end n₀ q₀ e₀ (tables names qnames events' stacks) v r
  valued g p s =
      onward g tt (record { names_are = refl; qnames_are = refl; events_are = p; stacks_are = refl; view_is = s })
