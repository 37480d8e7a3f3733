-- `head::step_tick` meets its contract. Assumes nothing.
use Rattle.rules.specs.declared.Call.TheVariants.{Wait}
use Rattle.head.proofs.Behind.{tick_leaves}
use Rattle.head.proofs.Handing.{opens, steps}
use Rattle.head.proofs.step_tick.Goals as goal

pub tick-next-requires : goal.tick-next-requires
tick-next-requires c =
    opens c.args.p _ c.requires c.opened-s.ensures

pub stepped_for-requires : goal.stepped_for-requires
stepped_for-requires c =
    tick_leaves c.args.p _ _ c.args.at c.requires c.opened-s.ensures c.tick-next.ensures.0

pub returns : goal.returns
returns c =
    let a = c.args in
    steps a.p (Wait a.at) _ _ _ c.opened-s.ensures c.tick-next.ensures c.stepped_for.ensures
