-- A copy of lent lines is as good as the lines. Assumes nothing.
use mathlib.Core.Path.{◌≡◌}
use mathlib.Core.List.{List}
use Rattle.rules.specs.declared.Line.{Line}
use Rattle.rules.specs.Words.{places}
use Rattle.table.specs.Copy.{as_list, copy}
use Rattle.table.proofs.Copied.{copied_count, copied_places, copied_lines}
use Rattle.scheduler.specs.State.{checked_for, checked_of}
use Rattle.scheduler.specs.Claims.{CopyOf}
use Rattle.scheduler.proofs.Claims.{the_claims}

-- the check answers for the copy as for the lines
pub checks_lines : (xs : List Line) → checked_of (as_list places (copy places xs)) ≡ checked_for (record { lines = xs })
checks_lines xs = (the_claims.answers_every (record { lines = xs }) (as_list places (copy places xs)) copies).gives
  where
    copies : CopyOf (record { lines = xs }) (as_list places (copy places xs))
    copies = record { counted = copied_count xs; placed = copied_places xs; copied = copied_lines xs }
