-- `lent::activate` meets its contract: what `board::activate` left and answered is the step's whole result. Assumes nothing.
use Rattle.rules.specs.declared.Call.TheVariants.{Activate}
use Rattle.lent.proofs.Calls.{whole}
use Rattle.lent.proofs.activate.Goals as goal

pub returns : goal.returns
returns c = whole c.args.s (Activate c.args.at c.args.task) c.activate-answer.result c.activate-answer.new.s c.activate-answer.ensures
