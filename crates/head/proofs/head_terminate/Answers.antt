-- `head::head_terminate` meets its contract: what the step gives is what it leaves. Assumes nothing.
use Rattle.rules.specs.declared.Call.TheVariants.{Terminate}
use Rattle.head.proofs.Calls.{left}
use Rattle.head.proofs.head_terminate.Goals as goal

pub returns : goal.returns
returns c = left c.args.s.now (Terminate c.args.at) c.step_terminate-next.result c.requires c.step_terminate-next.ensures
