-- One outcome: any two that satisfy what the source of a public function ensures are equal, its lent list included. A field for each. Assumes nothing.
use mathlib.Core.Path.{refl}
use Rattle.rules.proofs.Outcome.{OneStated, OneStatedWith, only}
use Rattle.jobs.proofs.JobList.empty.Reads as empty
use Rattle.jobs.proofs.is_earlier.Reads as is_earlier
use Rattle.jobs.proofs.JobList.is_first.Reads as is_first
use Rattle.jobs.proofs.JobList.insert.Reads as insert
use Rattle.jobs.proofs.JobList.remove_first.Reads as remove_first
use Rattle.jobs.proofs.JobList.replace_first.Reads as replace_first
use Rattle.jobs.proofs.JobList.pending_from.Reads as pending_from
use Rattle.jobs.proofs.JobList.first_of.Reads as first_of
use Rattle.jobs.proofs.JobList.first.Reads as first
use Rattle.jobs.proofs.JobList.front.Reads as front
use Rattle.jobs.proofs.none_late.Reads as none_late
use Rattle.jobs.proofs.JobList.newly_late.Reads as newly_late
use Rattle.jobs.proofs.insert.Reads as insert_by_value
use Rattle.jobs.proofs.remove_first.Reads as remove_first_by_value
use Rattle.jobs.proofs.replace_first.Reads as replace_first_by_value
use Rattle.jobs.proofs.front.Reads as front_by_value
use Rattle.jobs.proofs.front_with.Reads as front_with

pub record Outcomes : Type 0 where
  empty : OneStated empty.Post
  is_earlier : OneStated is_earlier.Post
  is_first : OneStated is_first.Post
  insert : OneStatedWith insert.Post (λ κs s. s.0.now)
  remove_first : OneStatedWith remove_first.Post (λ κs s. s.0.now)
  replace_first : OneStatedWith replace_first.Post (λ κs s. s.0.now)
  pending_from : OneStated pending_from.Post
  first_of : OneStated first_of.Post
  first : OneStated first.Post
  front : OneStated front.Post
  none_late : OneStated none_late.Post
  newly_late : OneStated newly_late.Post
  insert_by_value : OneStated insert_by_value.Post
  remove_first_by_value : OneStated remove_first_by_value.Post
  replace_first_by_value : OneStated replace_first_by_value.Post
  front_by_value : OneStated front_by_value.Post
  front_with : OneStated front_with.Post

pub the_outcomes : Outcomes
the_outcomes =
    record {
      empty = λ κs a r r' s s'. only;
      is_earlier = λ κs a r r' s s'. only;
      is_first = λ κs a r r' s s'. only;
      insert = λ κs a r r' s s' p q. (refl, only p q);
      remove_first = λ κs a r r' s s' p q. (only p.1 q.1, only p.0 q.0);
      replace_first = λ κs a r r' s s' p q. (only p.1 q.1, only p.0 q.0);
      pending_from = λ κs a r r' s s'. only;
      first_of = λ κs a r r' s s'. only;
      first = λ κs a r r' s s'. only;
      front = λ κs a r r' s s'. only;
      none_late = λ κs a r r' s s'. only;
      newly_late = λ κs a r r' s s'. only;
      insert_by_value = λ κs a r r' s s'. only;
      remove_first_by_value = λ κs a r r' s s'. only;
      replace_first_by_value = λ κs a r r' s s'. only;
      front_by_value = λ κs a r r' s s'. only;
      front_with = λ κs a r r' s s'. only;
    }
