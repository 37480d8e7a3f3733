-- `JobList::replace_first` meets its contract. Assumes nothing.
use mathlib.Core.Path.{◌≡◌, ◌∙◌}
use borrow.Author.Rules.{rules}
use lib.ListN.{drop}
use Rattle.jobs.specs.declared.JobList.{JobList}
use Rattle.jobs.specs.Listed.{view, pack, goes_before, insert_due}
use Rattle.jobs.proofs.Changes.{replace_law, led_law, lead_law}
use Rattle.jobs.proofs.JobList.replace_first.Goals as goal

pub returns : goal.returns
returns c =
    let l = c.args.self.now in
    let job = c.args.job in
    let e : ◌≡◌ {A = JobList} (record { jobs = c.slide.new.jobs; count = l.count }) (pack (insert_due job (drop 1 (view l)))) = rw (c.slide.ensures (goes_before job) (λ y b p. search rules)) (replace_law l c.requires.0 job c.requires.1) in
    (c.release_first.ensures.0 ∙ led_law _ _ e, c.release_first.ensures.1 ∙ lead_law _ _ e)
