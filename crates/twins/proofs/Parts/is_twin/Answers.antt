-- `twins::Parts::is_twin` meets its contract: equal parts have equal hashes. Assumes nothing.
use Rattle.hash.specs.Hash.{hash_of}
use Rattle.sequences.proofs.Same.{not_same}
use mathlib.Core.Path.{sym, ap, ◌∙◌}
use Rattle.twins.proofs.Parts.is_twin.Goals as goal

pub returns-then-self-j : goal.returns-then-self-j
returns-then-self-j c =
    not_same _ _ (λ e. c.if-self-j.true (c.args.self.now.hashed _ c.requires.1 ∙ sym (ap hash_of e) ∙ sym c.requires.2))

pub returns : goal.returns
returns c = rw (← c.part.ensures, ← c.part-2.ensures) c.same_numbers.ensures
