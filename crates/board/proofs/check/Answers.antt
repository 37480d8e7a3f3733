-- `board::check` meets its contract. Assumes nothing.
use mathlib.Core.Path.{ap, ◌∙◌}
use Rattle.scheduler.specs.State.{checked_of}
use Rattle.board.proofs.Copies.{checks_lines}
use Rattle.board.proofs.check.Goals as goal

pub returns : goal.returns
returns c =
    record { gives = c.check.ensures.0 ∙ ap checked_of c.copied.ensures ∙ checks_lines c.args.lines.now; hands_out = c.check.ensures.1 }
