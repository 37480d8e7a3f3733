-- `lent::tick` meets its contract: what `board::tick` left and answered is the step's whole result. Assumes nothing.
use Rattle.rules.specs.declared.Call.TheVariants.{Wait}
use Rattle.lent.proofs.Calls.{whole}
use Rattle.lent.proofs.tick.Goals as goal

pub returns : goal.returns
returns c = whole c.args.s (Wait c.args.at) c.tick-answer.result c.tick-answer.new.s c.tick-answer.ensures
