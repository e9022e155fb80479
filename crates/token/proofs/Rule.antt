-- The rule of the table, from one test computed over all of its entries; and what no number of a class or shape says. Assumes nothing.
use Prim.Native.Nat.{ℕ, ◌/◌, ◌%◌, ◌<◌}
use mathlib.Core.Path.{◌≡◌, refl, ◌∙◌}
use mathlib.Core.Logic.{⊎_elim}
use mathlib.Core.List.{List, map}
use lib.ListN.{get_or, get_or-eq_default}
use Rattle.sequences.proofs.Match.{NoneTo, past_keys}
use Rattle.sequences.proofs.Table.{counted, at_each}
use Rattle.token.specs.Tokens.{class_of, shape_of}
use Rattle.token.specs.Entries.{Listed, class_in, shape_in, classes, shapes}
use Rattle.token.specs.declared.Class.{Class}
use Rattle.token.specs.declared.Class.TheVariants.{Unknown}
use Rattle.token.specs.declared.Shape.{Shape}
use Rattle.token.specs.declared.Shape.TheVariants.{Nothing}

-- entry by entry the same classes and the same shapes: each code has its own
pub listed : (table : List ℕ) → map class_in table ≡ map class_of (counted 256 0) → map shape_in table ≡ map shape_of (counted 256 0) → Listed table
unfolding class_in shape_in class_of shape_of
listed table c s =
    record {
      class_is = λ code h. at_each class_in class_of table 256 c code h refl;
      shape_is = λ code h. at_each shape_in shape_of table 256 s code h refl;
    }

-- a number of no class, and 0, is that of no token
pub no_class : (entry : ℕ) → NoneTo 22 (entry / 32) → Unknown ≡ class_in entry
unfolding class_in
no_class entry h = ⊎_elim (λ e. rw e) (λ l. rw (get_or-eq_default classes Unknown l)) (past_keys 22 (entry / 32) h)

-- a number of no shape, and 0, is that of no payload
pub no_shape : (entry : ℕ) → NoneTo 21 (entry % 32) → Nothing ≡ shape_in entry
unfolding shape_in
no_shape entry h = ⊎_elim (λ e. rw e) (λ l. rw (get_or-eq_default shapes Nothing l)) (past_keys 21 (entry % 32) h)

-- the entry of a byte says what 004's list says of it
pub class_here : {table : List ℕ} {code : ℕ} {r : Class} → Listed table → code < 256 → r ≡ class_in (get_or table code 0) → r ≡ class_of code
class_here {code = code} l h e = e ∙ l.class_is code h

pub shape_here : {table : List ℕ} {code : ℕ} {r : Shape} → Listed table → code < 256 → r ≡ shape_in (get_or table code 0) → r ≡ shape_of code
shape_here {code = code} l h e = e ∙ l.shape_is code h
