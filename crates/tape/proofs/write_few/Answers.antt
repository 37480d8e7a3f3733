-- `tape::write_few` meets its contract. Assumes nothing.
use Rattle.std.proofs.Common.{◌≡◌, Some, Err, rules}
use mathlib.Core.Path.{sym, ◌∙◌}
use mathlib.Core.Bool.{false}
use lib.ListN.{length}
use borrow.Author.Tests.{le-ltb}
use Rattle.rules.specs.Tape.{table_bytes, bad_table}
use Rattle.number.proofs.Writes.{wrote_none, wrote_all}
use Rattle.tape.proofs.Sizes.{sized_is}
use Rattle.tape.proofs.write_few.Goals as goal
use Rattle.tape.proofs.write_few.Goals.{In_ok-size}

-- 24 is not given, and the size is that of the bytes
fits : (c : In_ok-size) → (bad_table (record { lines = c.args.lines.now }) ≡ false) × (c.in_ok-size.size ≡ length (table_bytes (record { lines = c.args.lines.now })))
fits c =
    let sized : c.table_size.result ≡ Some c.in_ok-size.size = search rules in
    let s = sized_is c.args.lines.now _ (sym c.table_size.ensures ∙ sized) in
    (rw (le-ltb 255 (length c.args.lines.now) c.requires) s.0, s.1)

pub returns-in_err-n : goal.returns-in_err-n
returns-in_err-n c =
    let a = c.args in
    let x = fits (goal.at.returns-in_err-n c).In_ok-size in
    let e : c.from_residual-in_err-n.result ≡ Err c.in_err-n.field-0.0 = search rules in
    rw e (wrote_none (table_bytes (record { lines = a.lines.now })) a.buf.now _ x.0 _ x.1 _ c.in_err-n.ensures)

pub returns : goal.returns
returns c =
    let a = c.args in
    let x = fits (goal.at.returns c).In_ok-size in
    wrote_all (table_bytes (record { lines = a.lines.now })) a.buf.now _ x.0 _ x.1 _ c.in_ok-n.ensures _ c.put_table.ensures
