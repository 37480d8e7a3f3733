-- What specs/Claims.antt claims. Assumes nothing.
use Rattle.rules.specs.Claims.{Claims}
use Rattle.rules.proofs.Demand3.{demand_3, demand_3_answers}
use Rattle.rules.proofs.Broken.{demand_3_broken}
use Rattle.rules.proofs.Edf.{plain_is_edf}
use Rattle.rules.proofs.Priority.{kernel_is_priority, preempted_oldest, chain_is_both}
use Rattle.rules.proofs.Checked.{check_exact}
use Rattle.rules.proofs.Refusals.{refusals_exact, plain_refusals_exact}
use Rattle.rules.proofs.Called.{last_accepted, calls_exact, calls_made}
use Rattle.rules.proofs.Unchanged.{refused_unchanged}
use Rattle.rules.proofs.Room.{no_ten}
use Rattle.rules.proofs.Listing.{list_holds, list_moves}
use Rattle.rules.proofs.Runs.{runs_released}
use Rattle.rules.proofs.Started.{released_once}
use Rattle.rules.proofs.Vanished.{nothing_vanishes}
use Rattle.rules.proofs.First.{apart_priorities}
use Rattle.rules.proofs.Reported.{late_once, reported_once}
use Rattle.rules.proofs.Marks.{late_needs_no_mark}
use Rattle.rules.proofs.Places.{places_suffice}
use Rattle.rules.proofs.Counted.{counts_add_up}
use Rattle.rules.proofs.Reasons.{why_true, why_refused}
use Rattle.rules.proofs.Searched.{place_from_back, list_from_back}
use Rattle.rules.proofs.Cases.{cases}

pub the_claims : Claims
the_claims =
    record {
      demand_3 = demand_3;
      demand_3_answers = demand_3_answers;
      demand_3_broken = demand_3_broken;
      plain_is_edf = plain_is_edf;
      kernel_is_priority = kernel_is_priority;
      preempted_oldest = preempted_oldest;
      chain_is_both = chain_is_both;
      check_exact = check_exact;
      refusals_exact = refusals_exact;
      plain_refusals_exact = plain_refusals_exact;
      last_accepted = last_accepted;
      refused_unchanged = refused_unchanged;
      no_ten = no_ten;
      list_holds = list_holds;
      runs_released = runs_released;
      list_moves = list_moves;
      calls_exact = calls_exact;
      calls_made = calls_made;
      released_once = released_once;
      nothing_vanishes = nothing_vanishes;
      apart_priorities = apart_priorities;
      late_once = late_once;
      reported_once = reported_once;
      late_needs_no_mark = late_needs_no_mark;
      places_suffice = places_suffice;
      counts_add_up = counts_add_up;
      why_true = why_true;
      why_refused = why_refused;
      place_from_back = place_from_back;
      list_from_back = list_from_back;
      cases = cases;
    }
