-- `spool::write_each` meets its contract. Assumes nothing.
use Rattle.std.proofs.Common.{◌≡◌, ◌≤◌, length}
use Rattle.spool.proofs.write_each.Given as goal

abbrev pub invariant-loop-part : goal.invariant-loop-part
invariant-loop-part l = (length l.buf ≡ length l.initial.buf) × (l.at ≤ length l.buf)
