-- `jobs::slide` meets its contract. Assumes nothing.
use Prim.Native.Nat.{◌+◌, ◌<◌}
use mathlib.Core.Path.{◌≡◌}
use mathlib.Core.Bool.{Bool}
use lib.ListN.{length}
use Rattle.rules.specs.Words.{places}
use Rattle.rules.specs.declared.Job.{Job}
use Rattle.jobs.specs.Inside.{slide_at}
use Rattle.jobs.proofs.slide.Given as goal

abbrev pub invariant-loop-i : goal.invariant-loop-i
invariant-loop-i g l = record {
  here : l.place + 1 ≡ l.i;
  within : l.place < places;
  all : length l.jobs ≡ places;
  turns : (stop : Job → Bool) → ((x : Job) (b : Bool) → goal.F-post g l.stops x b → b ≡ stop x) → slide_at stop l.many l.put l.place l.jobs ≡ slide_at stop l.many l.put 0 l.initial.jobs;
}
