-- `head::head_tick` meets its contract: what the step gives is what it leaves. Assumes nothing.
use Rattle.rules.specs.declared.Call.TheVariants.{Wait}
use Rattle.head.proofs.Calls.{left}
use Rattle.head.proofs.head_tick.Goals as goal

pub returns : goal.returns
returns c = left c.args.s.now (Wait c.args.at) c.step_tick-next.result c.requires c.step_tick-next.ensures
