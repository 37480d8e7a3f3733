-- `show::tally` meets its contract. Assumes nothing.
use Rattle.print.proofs.Texts.{as_text, then, pair_spaced}
use Rattle.rules.specs.Print.{decimal, spaced}
use Rattle.show.specs.Text.{tally_text}
use Rattle.show.proofs.tally.Goals as goal

pub returns : goal.returns
unfolding spaced tally_text
returns c =
    let t = c.args.tally in
    as_text (pair_spaced (decimal t.late) (decimal t.ended) (decimal t.response))
    (then c.two.ensures (then c.byte.ensures c.number.ensures))
