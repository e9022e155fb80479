-- `marks::Tables::pair_at` meets its contract. Assumes nothing.
use Rattle.marks.proofs.MarkLaws.{pair_is}
use native.Mathlib.Omega.{arith}
use Rattle.marks.proofs.Tables.pair_at.Goals as goal

pub class_of-uri-requires : goal.class_of-uri-requires
class_of-uri-requires c = (omega (arith, c.requires.from, c.requires.long), c.requires.uri_key)

pub class_of-local-requires : goal.class_of-local-requires
class_of-local-requires c = (omega (arith, c.requires.from, c.requires.long), c.requires.local_key)

pub overflow_mul-result : goal.overflow_mul-result
overflow_mul-result c = omega (arith, c.class_of-uri.ensures.1, c.class_of-local.ensures.1)

pub overflow_add-result : goal.overflow_add-result
overflow_add-result c = omega (arith, c.class_of-uri.ensures.1, c.class_of-local.ensures.1)

pub returns : goal.returns
returns c = (pair_is _ _ _ _ _ c.class_of-uri.ensures.0 c.class_of-local.ensures.0, omega (arith, c.class_of-uri.ensures.1, c.class_of-local.ensures.1))
