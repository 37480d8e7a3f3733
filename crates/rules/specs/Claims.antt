-- All that is claimed of the rules, in one place; proofs/Claims.antt proves it. Assumes nothing.
use Rattle.rules.specs.Statement.{Demand3, Demand3Answers, Demand3Broken, PlainIsEdf, KernelIsPriority, PreemptedOldest, ChainIsBoth, CheckExact, RefusalsExact, PlainRefusalsExact, LastAccepted, RefusedUnchanged, NoTen, ListHolds, RunsReleased, ListMoves, CallsExact, CallsMade, ReleasedOnce, NothingVanishes, ApartPriorities, LateOnce, ReportedOnce, LateNeedsNoMark, PlacesSuffice, CountsAddUp}
use Rattle.rules.specs.Why.{WhyTrue, WhyRefused}
use Rattle.rules.specs.Search.{PlaceFromBack, ListFromBack}
use Rattle.rules.specs.Cases.{Cases}

pub record Claims : Type 0 where
  -- demand 3: the kernel runs what the plain scheduler runs; on a broken pair the two part
  pub demand_3 : Demand3
  pub demand_3_answers : Demand3Answers
  pub demand_3_broken : Demand3Broken
  -- the plain scheduler picks the earliest deadline, the kernel the highest priority; a preempted job is the oldest of its level
  pub plain_is_edf : PlainIsEdf
  pub kernel_is_priority : KernelIsPriority
  pub preempted_oldest : PreemptedOldest
  pub chain_is_both : ChainIsBoth
  -- each number of the check is given exactly on its condition, with the lines named
  pub check_exact : CheckExact
  -- each number of a call is given exactly on its condition, and a refused call changes nothing
  pub refusals_exact : RefusalsExact
  pub plain_refusals_exact : PlainRefusalsExact
  pub last_accepted : LastAccepted
  pub refused_unchanged : RefusedUnchanged
  pub no_ten : NoTen
  -- the list is in order, its first job released; what runs, what each call does to the list, and which kernel call it makes
  pub list_holds : ListHolds
  pub runs_released : RunsReleased
  pub list_moves : ListMoves
  pub calls_exact : CallsExact
  pub calls_made : CallsMade
  -- each job is released by exactly one kernel call, and no accepted job vanishes
  pub released_once : ReleasedOnce
  pub nothing_vanishes : NothingVanishes
  pub apart_priorities : ApartPriorities
  -- each late job is reported once, and the counts follow from the accepted calls
  pub late_once : LateOnce
  pub reported_once : ReportedOnce
  pub late_needs_no_mark : LateNeedsNoMark
  pub places_suffice : PlacesSuffice
  pub counts_add_up : CountsAddUp
  -- Q-1: exactly one reason is true of a task's first pending job, and it is the one given; 3 exactly for a task without a line
  pub why_true : WhyTrue
  pub why_refused : WhyRefused
  -- Q-3: from the back a new job finds the place that it finds from the front: in every list that is in order, and so in the layer's
  pub place_from_back : PlaceFromBack
  pub list_from_back : ListFromBack
  -- the printed run, and cases a to l
  pub cases : Cases
