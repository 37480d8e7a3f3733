-- `board::tick` meets its contract: what `scheduler::tick` gives is what it leaves. Assumes nothing.
use Rattle.rules.specs.declared.Call.TheVariants.{Wait}
use Rattle.board.proofs.Calls.{left}
use Rattle.board.proofs.tick.Goals as goal

pub returns : goal.returns
returns c = left c.args.s.now (Wait c.args.at) c.tick-next.result c.requires c.tick-next.ensures
