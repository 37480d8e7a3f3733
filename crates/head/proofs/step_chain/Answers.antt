-- `head::step_chain` meets its contract. Assumes nothing.
use Rattle.rules.specs.declared.Call.TheVariants.{Chain}
use Rattle.head.proofs.Handing.{opens, steps}
use Rattle.head.proofs.step_chain.Goals as goal

pub chain-next-requires : goal.chain-next-requires
chain-next-requires c = opens c.args.p _ c.requires c.opened-s.ensures

pub closed-requires : goal.closed-requires
closed-requires c = (c.requires, c.chain-next.ensures.1)

pub returns : goal.returns
returns c =
    let a = c.args in
    steps a.p (Chain a.at a.task) _ _ _ c.opened-s.ensures c.chain-next.ensures c.closed.ensures
