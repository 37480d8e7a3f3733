-- `jobs::none_late` meets its contract. Assumes nothing.
use mathlib.Core.Path.{refl}
use Rattle.jobs.specs.Listed.{late_in}
use Rattle.jobs.proofs.none_late.Goals as goal

pub returns : goal.returns
unfolding late_in
returns c = refl
