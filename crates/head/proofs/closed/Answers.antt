-- `head::closed` meets its contract: behind the pending jobs are blanks, before the call and after it. Assumes nothing.
use Rattle.head.proofs.Behind.{left_behind}
use Rattle.head.proofs.closed.Goals as goal

pub placed_jobs-requires : goal.placed_jobs-requires
placed_jobs-requires c = left_behind c.args.p c.args.next.state _ c.requires.0 c.requires.1 c.max-n.ensures
