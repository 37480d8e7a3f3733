-- `board::activate` meets its contract: what `scheduler::activate` gives is what it leaves. Assumes nothing.
use Rattle.rules.specs.declared.Call.TheVariants.{Activate}
use Rattle.board.proofs.Calls.{left}
use Rattle.board.proofs.activate.Goals as goal

pub returns : goal.returns
returns c = left c.args.s.now (Activate c.args.at c.args.task) c.activate-next.result c.requires c.activate-next.ensures
