-- `board::terminate` meets its contract: what `scheduler::terminate` gives is what it leaves. Assumes nothing.
use Rattle.rules.specs.declared.Call.TheVariants.{Terminate}
use Rattle.board.proofs.Calls.{left}
use Rattle.board.proofs.terminate.Goals as goal

pub returns : goal.returns
returns c = left c.args.s.now (Terminate c.args.at) c.terminate-next.result c.requires c.terminate-next.ensures
