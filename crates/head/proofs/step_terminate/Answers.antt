-- `head::step_terminate` meets its contract. Assumes nothing.
use Rattle.rules.specs.declared.Call.TheVariants.{Terminate}
use Rattle.head.proofs.Handing.{opens, steps}
use Rattle.head.proofs.step_terminate.Goals as goal

pub terminate-next-requires : goal.terminate-next-requires
terminate-next-requires c = opens c.args.p _ c.requires c.opened-s.ensures

pub closed-requires : goal.closed-requires
closed-requires c = (c.requires, c.terminate-next.ensures.1)

pub returns : goal.returns
returns c =
    let a = c.args in
    steps a.p (Terminate a.at) _ _ _ c.opened-s.ensures c.terminate-next.ensures c.closed.ensures
