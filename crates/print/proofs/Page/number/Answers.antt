-- `print::Page::number` meets its contract. Assumes nothing.
use Rattle.print.proofs.Texts.{as_text, decimal_of}
use mathlib.Core.Path.{◌∙◌}
use Rattle.print.proofs.Page.number.Goals as goal

pub returns : goal.returns
returns c =
    let n = c.args.n in
    as_text (c.decimal-k.ensures.digits ∙ decimal_of n c.decimal-k.result c.ranges.n.fits c.decimal-k.ensures.len) c.words.ensures
