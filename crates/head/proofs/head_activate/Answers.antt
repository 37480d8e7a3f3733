-- `head::head_activate` meets its contract: what the step gives is what it leaves. Assumes nothing.
use Rattle.rules.specs.declared.Call.TheVariants.{Activate}
use Rattle.head.proofs.Calls.{left}
use Rattle.head.proofs.head_activate.Goals as goal

pub returns : goal.returns
returns c = left c.args.s.now (Activate c.args.at c.args.task) c.step_activate-next.result c.requires c.step_activate-next.ensures
