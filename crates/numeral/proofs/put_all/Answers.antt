-- `numeral::put_all` meets its contract. Assumes nothing.
use Rattle.std.proofs.Common.{sym, ◌∙◌}
use Rattle.numeral.proofs.Whole.{whole_start, whole_room, whole_next, whole_less, whole_end}
use borrow.Author.Tests.{eqb-true, eqb-false}
use Rattle.numeral.proofs.put_all.Goals as goal

pub loop-rest-init : goal.loop-rest-init
loop-rest-init g c = (c.requires.fits, whole_start _ _)

pub put-requires : goal.put-requires
put-requires g c = whole_room c.loop-rest.invariant.1 c.requires.room

pub loop-rest-preserved : goal.loop-rest-preserved
loop-rest-preserved g c = (
  c.tenth-rest.ensures.1,
  whole_next c.loop-rest.invariant.1 c.put.ensures c.digit.ensures c.tenth-rest.ensures.0
      (eqb-false _ _ (sym c.is_zero.ensures ∙ c.if-is_zero.false)),
)

pub loop-rest-smaller : goal.loop-rest-smaller
loop-rest-smaller g c =
    whole_less c.loop-rest.invariant.1 c.put.ensures c.digit.ensures c.tenth-rest.ensures.0
    (eqb-false _ _ (sym c.is_zero.ensures ∙ c.if-is_zero.false))

pub returns : goal.returns
returns g c =
    whole_end c.loop-rest.invariant.1 c.put.ensures c.digit.ensures c.tenth-rest.ensures.0
    (eqb-true _ _ (sym c.is_zero.ensures ∙ c.if-is_zero.true))
