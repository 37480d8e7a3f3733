-- `spool::agreeing` meets its contract. Assumes nothing.
use Rattle.std.proofs.Common.{◌≤◌}
use Rattle.spool.proofs.agreeing.Given as goal

abbrev pub invariant-loop-given : goal.invariant-loop-given
invariant-loop-given l = l.n ≤ l.given-index
