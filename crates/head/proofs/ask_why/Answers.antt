-- `head::ask_why` meets its contract. Assumes nothing.
use Rattle.head.proofs.Handing.{opens, asks}
use Rattle.head.proofs.ask_why.Goals as goal

pub why-requires : goal.why-requires
why-requires c = opens c.args.p _ c.requires c.opened-s.ensures

pub returns : goal.returns
returns c =
    let a = c.args in
    asks a.p a.task _ _ _ c.opened-s.ensures c.why.ensures c.from.ensures
