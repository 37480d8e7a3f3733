-- `JobList::is_first` meets its contract. Assumes nothing.
use mathlib.Core.Path.{◌∙◌}
use native.Mathlib.Omega.{arith}
use borrow.Author.Tests.{eq-eqb, ne_eqb}
use Rattle.jobs.proofs.Scans.{is_first_law}
use Rattle.jobs.proofs.JobList.is_first.Goals as goal

pub returns-then-self-eq0 : goal.returns-then-self-eq0
returns-then-self-eq0 c =
    rw (eq-eqb c.args.self.now.count 0 c.if-self-eq0.true) at (is_first_law c.args.self.now c.args.job (omega arith))

pub returns : goal.returns
returns c =
    c.goes_before.ensures ∙ (rw (ne_eqb c.args.self.now.count 0 c.if-self-eq0.false) at (is_first_law c.args.self.now c.args.job (omega arith)))
