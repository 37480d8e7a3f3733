-- `lent::terminate` meets its contract: what `board::terminate` left and answered is the step's whole result. Assumes nothing.
use Rattle.rules.specs.declared.Call.TheVariants.{Terminate}
use Rattle.lent.proofs.Calls.{whole}
use Rattle.lent.proofs.terminate.Goals as goal

pub returns : goal.returns
returns c = whole c.args.s (Terminate c.args.at) c.terminate-answer.result c.terminate-answer.new.s c.terminate-answer.ensures
