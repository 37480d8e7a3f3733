-- `lent::write_table` meets its contract. Assumes nothing.
use mathlib.Core.Path.{◌≡◌, sym, subst}
use Prim.Native.Nat.{ℕ, ◌-◌, ◌≤◌, ◌<◌}
use mathlib.Core.Bool.{Bool, true}
use mathlib.Core.List.{List, ◌++◌}
use borrow.Author.Tests.{lt-ltb}
use lib.ListN.{length, take, replicate, length-append, length-take, length-replicate}
use native.Mathlib.Omega.{arith}
use Rattle.rules.specs.declared.Line.{Line}
use Rattle.rules.specs.Table.{Table, no_line}
use Rattle.rules.specs.Tape.{greatest_byte, Written, bad_table, table_bytes, Wrote, TableWrote}
use Rattle.tape.specs.Tables.{given_lines}
use Rattle.tape.proofs.Sizes.{given_is}
use Rattle.lent.proofs.write_table.Goals as goal

-- more than 255 lines are refused with 24
lines_refused : (xs : List Line) → greatest_byte < length xs → bad_table (record { lines = xs }) ≡ true
lines_refused xs h = rw (lt-ltb _ _ h)

given_many : (lines : List Line) (count : ℕ) → length lines ≡ 255 → 255 < count → bad_table (given_lines lines count) ≡ true
given_many lines count held h =
    let many : 255 < length (take count lines ++ replicate (count - length lines) no_line) = simp (length-append, length-take, length-replicate) (omega arith) in
    rw (lt-ltb _ _ many)

-- what is refused with 24 is written alike
refused_alike : (bad bad' : Bool) (bytes bytes' old : List ℕ) (r : Written) (new : List ℕ) → bad ≡ true → bad' ≡ true → Wrote bad bytes old r new → Wrote bad' bytes' old r new
refused_alike bad bad' bytes bytes' old r new p p' w = record { answer = rw p' (rw p at w.answer); buffer = rw p' (rw p at w.buffer) }

-- up to 255 lines are all lent
part_wrote : (lines : List Line) (count : ℕ) (old : List ℕ) (r : Written) (new : List ℕ) → length lines ≡ 255 → count ≤ 255 → TableWrote (record { lines = take count lines }) old r new → TableWrote (given_lines lines count) old r new
part_wrote lines count old r new held few = subst (λ (T : Table). TableWrote T old r new) (sym (given_is lines count held few))

-- more are refused as any 256 are
more_wrote : (x : Line) (lines : List Line) (count : ℕ) (old : List ℕ) (r : Written) (new : List ℕ) → length lines ≡ 255 → 255 < count → TableWrote (record { lines = replicate 256 x }) old r new → TableWrote (given_lines lines count) old r new
more_wrote x lines count old r new held many =
    refused_alike (bad_table (record { lines = replicate 256 x })) (bad_table (given_lines lines count)) (table_bytes (record { lines = replicate 256 x })) (table_bytes (given_lines lines count)) old r new
    (lines_refused (replicate 256 x) (omega arith)) (given_many lines count held many)

pub returns-then-count-le-MOST_LINES : goal.returns-then-count-le-MOST_LINES
returns-then-count-le-MOST_LINES c =
    part_wrote c.args.table.lines c.args.table.count _ _ _ (omega (arith, c.well_formed)) c.if-count-le-MOST_LINES.true c.write_table.ensures

pub returns : goal.returns
returns c =
    more_wrote c.default.result c.args.table.lines c.args.table.count _ _ _ (omega (arith, c.well_formed)) (omega arith) c.write_table-2.ensures
