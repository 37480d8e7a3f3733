-- `lent::chain` meets its contract: what `board::chain` left and answered is the step's whole result. Assumes nothing.
use Rattle.rules.specs.declared.Call.TheVariants.{Chain}
use Rattle.lent.proofs.Calls.{whole}
use Rattle.lent.proofs.chain.Goals as goal

pub returns : goal.returns
returns c = whole c.args.s (Chain c.args.at c.args.task) c.chain-answer.result c.chain-answer.new.s c.chain-answer.ensures
