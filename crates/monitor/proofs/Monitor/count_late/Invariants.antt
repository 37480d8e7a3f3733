-- `Monitor::count_late` meets its contract. Assumes nothing.
use mathlib.Core.Path.{◌≡◌}
use lib.ListN.{length, drop}
use Rattle.rules.specs.Counts.{with_late}
use Rattle.monitor.proofs.Monitor.count_late.Given as goal

abbrev pub invariant-loop-task : goal.invariant-loop-task
invariant-loop-task l = record {
  all : length l.self.tallies ≡ 32;
  turns : with_late (drop l.task-index l.task-items) l.self.tallies ≡ with_late l.task-items l.initial.self.tallies;
}
