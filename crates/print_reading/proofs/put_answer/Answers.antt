-- `print_reading::put_answer` meets its contract. Assumes nothing.
use Rattle.print_reading.proofs.Texts.{answer_put}
use Rattle.print_reading.proofs.put_answer.Goals as goal

pub returns : goal.returns
returns c = answer_put c.args.a c.put_counts-at.ensures.0 c.put_verdict.ensures
