-- `JobList::remove_first` meets its contract. Assumes nothing.
use Prim.Native.Nat.{◌-◌}
use mathlib.Core.Path.{◌≡◌, ◌∙◌}
use mathlib.Core.Bool.{false}
use borrow.Author.Rules.{rules}
use lib.ListN.{drop}
use Rattle.rules.specs.declared.Job.{Job}
use Rattle.jobs.specs.declared.JobList.{JobList}
use Rattle.jobs.specs.Listed.{view, pack}
use Rattle.jobs.proofs.Changes.{remove_law, led_law, lead_law}
use Rattle.jobs.proofs.JobList.remove_first.Goals as goal

pub returns : goal.returns
returns c =
    let l = c.args.self.now in
    let e : ◌≡◌ {A = JobList} (record { jobs = c.slide.new.jobs; count = l.count - 1 }) (pack (drop 1 (view l))) = rw (c.slide.ensures (λ (y : Job). false) (λ y b p. search rules), c.blank.ensures) (remove_law l c.requires.0 c.requires.1) in
    (c.release_first.ensures.0 ∙ led_law _ _ e, c.release_first.ensures.1 ∙ lead_law _ _ e)
