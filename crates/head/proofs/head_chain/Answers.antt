-- `head::head_chain` meets its contract: what the step gives is what it leaves. Assumes nothing.
use Rattle.rules.specs.declared.Call.TheVariants.{Chain}
use Rattle.head.proofs.Calls.{left}
use Rattle.head.proofs.head_chain.Goals as goal

pub returns : goal.returns
returns c = left c.args.s.now (Chain c.args.at c.args.task) c.step_chain-next.result c.requires c.step_chain-next.ensures
