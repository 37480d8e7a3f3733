-- `head::step_activate` meets its contract. Assumes nothing.
use Rattle.rules.specs.declared.Call.TheVariants.{Activate}
use Rattle.head.proofs.Handing.{opens, steps}
use Rattle.head.proofs.step_activate.Goals as goal

pub activate-next-requires : goal.activate-next-requires
activate-next-requires c = opens c.args.p _ c.requires c.opened-s.ensures

pub closed-requires : goal.closed-requires
closed-requires c = (c.requires, c.activate-next.ensures.1)

pub returns : goal.returns
returns c =
    let a = c.args in
    steps a.p (Activate a.at a.task) _ _ _ c.opened-s.ensures c.activate-next.ensures c.closed.ensures
