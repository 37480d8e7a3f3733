-- `print::Page::words` meets its contract. Assumes nothing.
use borrow.Author.Rules.{rules}
use Rattle.print.proofs.Texts.{none_put, put_more, put_all}
use Rattle.print.proofs.Page.words.Goals as goal

pub loop-b-init : goal.loop-b-init
loop-b-init c = none_put _ _

pub loop-b-preserved : goal.loop-b-preserved
loop-b-preserved c = put_more c.args.text.now c.loop-b.b-index (search rules) c.loop-b.invariant c.put-next.ensures

pub returns : goal.returns
returns c = put_all c.args.text.now c.loop-b.b-index (search rules) c.loop-b.invariant
