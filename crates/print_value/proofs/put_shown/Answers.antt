-- `print_value::put_shown` meets its contract: a law for each answer. Assumes nothing.
use Rattle.print_value.proofs.Laws.{text_shown, short_put, none_put}
use Rattle.print_value.proofs.put_shown.Goals as goal

pub put_text-requires : goal.put_text-requires
put_text-requires c = (c.requires.0, rw c.part.ensures c.requires.1)

pub returns-in-Own : goal.returns-in-Own
returns-in-Own c = text_shown c.args.payload.now c.args.buffer.now c.in-Own.is c.part.ensures c.put_text.ensures

pub returns-in-Short : goal.returns-in-Short
returns-in-Short c = short_put c.args.payload.now c.args.buffer.now c.in-Short.is c.put_refusal.ensures

pub returns-in-NoText : goal.returns-in-NoText
returns-in-NoText c = none_put c.args.payload.now c.args.buffer.now c.in-NoText.is c.put_refusal-in-NoText.ensures
