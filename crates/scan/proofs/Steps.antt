-- What the short way for the commonest tokens (crate common) needs of the definition: a token that may stand, outside a declaration. Assumes nothing.
use Prim.Native.Nat.{ℕ, ◌<◌}
use mathlib.Core.Path.{◌≡◌, sym, ◌∙◌}
use mathlib.Core.Bool.{Bool, true, false}
use mathlib.Core.List.{List}
use lib.ListN.{length, get_or}
use Rattle.sequences.proofs.Tests.{tests}
use Rattle.token.specs.Tokens.{class_of}
use Rattle.modes.specs.Modes.{in_declaration, mode_number, allowed}
use Rattle.scan.specs.Steps.{class_step, token_step, step_at}
use Rattle.modes.specs.declared.View.{View}
use Rattle.scan.specs.declared.Room.{Room}
use Rattle.modes.proofs.ModeLaws.{declares_is}

module _ (doc : List ℕ) (v : View) (room : Room) where
  pub token_on : (token : ℕ) {t : Bool} → t ≡ allowed (class_of token) v → t ≡ true → class_step (class_of token) doc v room token ≡ token_step doc v room token
  unfolding token_step
  token_on token e g = rw (sym e ∙ g)

  pub at_token : v.at < length doc → mode_number v.mode < 9 → {b : ℕ} → b ≡ get_or doc v.at 0 → token_step doc v room b ≡ step_at doc v room
  unfolding step_at
  at_token here k e =
      let d : in_declaration v.mode ≡ false = sym (declares_is v.mode) ∙ simp (tests, k) in
      rw e (simp (tests, here, d))
