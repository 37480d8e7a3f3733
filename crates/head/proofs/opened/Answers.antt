-- `head::opened` meets its contract. Assumes nothing.
use Rattle.head.proofs.Behind.{blank_behind}
use Rattle.head.proofs.opened.Goals as goal

pub jobs_in-requires : goal.jobs_in-requires
jobs_in-requires c = blank_behind c.args.p c.requires
