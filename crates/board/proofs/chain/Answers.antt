-- `board::chain` meets its contract: what `scheduler::chain` gives is what it leaves. Assumes nothing.
use Rattle.rules.specs.declared.Call.TheVariants.{Chain}
use Rattle.board.proofs.Calls.{left}
use Rattle.board.proofs.chain.Goals as goal

pub returns : goal.returns
returns c = left c.args.s.now (Chain c.args.at c.args.task) c.chain-next.result c.requires c.chain-next.ensures
