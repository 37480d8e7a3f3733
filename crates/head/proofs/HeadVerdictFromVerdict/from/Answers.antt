-- What the check answers is told to C by its numbers. Assumes nothing.
use Rattle.head.specs.Placed.{verdict_for}
use Rattle.head.proofs.HeadVerdictFromVerdict.from.Goals as goal

pub returns-in-NoneNamed : goal.returns-in-NoneNamed
unfolding verdict_for
returns-in-NoneNamed c = rw c.in-NoneNamed.is

pub returns-in-TheLine : goal.returns-in-TheLine
unfolding verdict_for
returns-in-TheLine c = rw c.in-TheLine.is

pub returns-in-BothLines : goal.returns-in-BothLines
unfolding verdict_for
returns-in-BothLines c = rw c.in-BothLines.is
