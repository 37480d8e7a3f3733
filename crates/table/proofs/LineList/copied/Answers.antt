-- `LineList::copied` meets its contract. Assumes nothing.
use mathlib.Core.Path.{◌≡◌, sym, ap, ◌∙◌}
use mathlib.Core.List.{foldl}
use native.Mathlib.Omega.{arith}
use lib.ListN.{length, take}
use lib.Seq.{length-take-le}
use Rattle.table.specs.Copy.{lines_read, begun, as_list, pushed_of}
use Rattle.table.proofs.Copied.{reads_le, copied_list}
use Rattle.table.proofs.LineList.copied.Goals as goal

pub returns : goal.returns
returns g c =
    let p = g.row.N in
    let xs = c.args.lines.now in
    let n : c.lines_read.result ≡ length (take c.lines_read.result xs) = sym (length-take-le _ _ (rw c.lines_read.ensures (reads_le p _))) in
    let end : c.loop-line.line-index ≡ lines_read p (length xs) = omega (arith, c.lines_read.ensures) in
    c.loop-line.invariant ∙ ap (λ i. foldl (pushed_of p) (as_list p (begun p (length xs))) (take i xs)) end ∙ copied_list p xs
