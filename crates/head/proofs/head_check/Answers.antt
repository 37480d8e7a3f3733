-- `head::head_check` meets its contract. Assumes nothing.
use mathlib.Core.Path.{ap, ◌∙◌}
use Rattle.head.specs.Calls.{checked_table}
use Rattle.head.proofs.Handing.{checks_lines}
use Rattle.head.proofs.head_check.Goals as goal

pub returns : goal.returns
returns c = checks_lines c.args.lines.now c.checked_table.result (c.checked_table.ensures.0 ∙ ap checked_table c.copied.ensures, c.checked_table.ensures.1)
