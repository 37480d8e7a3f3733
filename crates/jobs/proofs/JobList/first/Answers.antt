-- `JobList::first` meets its contract. Assumes nothing.
use mathlib.Core.Path.{◌∙◌}
use native.Mathlib.Omega.{arith}
use borrow.Author.Tests.{eq-eqb, ne_eqb}
use Rattle.jobs.proofs.Scans.{first_law}
use Rattle.jobs.proofs.JobList.first.Goals as goal

pub returns-then-self-eq0 : goal.returns-then-self-eq0
returns-then-self-eq0 c =
    c.blank.ensures ∙ (rw (eq-eqb c.args.self.now.count 0 c.if-self-eq0.true) at (first_law c.args.self.now (omega arith)))

pub returns : goal.returns
returns c =
    rw (ne_eqb c.args.self.now.count 0 c.if-self-eq0.false) at (first_law c.args.self.now (omega arith))
