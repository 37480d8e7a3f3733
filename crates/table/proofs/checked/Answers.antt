-- `table::checked` meets its contract. Assumes nothing.
use Prim.Native.Nat.{◌<◌, ◌≤◌}
use mathlib.Core.Path.{◌≡◌, refl, ◌∙◌}
use lib.ListN.{length}
use native.Mathlib.Omega.{arith}
use borrow.Author.Rules.{rules}
use Rattle.std.proofs.lemmas.Result.{err_from_is_err_and}
use Rattle.rules.specs.Words.{places}
use Rattle.rules.specs.Table.{limits, fine}
use Rattle.table.specs.Lines.{lines_in, refused_as}
use Rattle.table.proofs.Laws.{refused_number, limits_law, check_1, check_ranges, check_4, check_pairs}
use Rattle.table.proofs.checked.Goals as goal
use Rattle.table.proofs.checked.Goals.{then-n-lt1-via-then-n-lt1, then-n-lt1-via-else-n-lt1+then-n-gt-PLACES}

pub returns-then-n-lt1 : goal.returns-then-n-lt1
returns-then-n-lt1 c =
    let t = c.args.table.now in
    let n : length t.lines ≡ places = search rules in
    elim c.then-n-lt1.branch [
      | then-n-lt1-via-then-n-lt1 w ↦ check_1 t n (λ z. omega arith)
      | then-n-lt1-via-else-n-lt1+then-n-gt-PLACES w ↦ check_1 t n (λ z. omega arith)
    ]

pub returns-in_err-ranges : goal.returns-in_err-ranges
returns-in_err-ranges c =
    let t = c.args.table.now in
    let n : length t.lines ≡ places = search rules in
    let p = err_from_is_err_and c.from_residual.result c.from_residual.ensures.1 in
    let r = c.in_err-ranges.field-0.0 in
    rw (p.1, p.2) (check_ranges t n (omega arith, omega arith) (refused_as r) c.in_err-ranges.ensures (refused_number r))

pub returns-then-limit_sum-gt-MOST : goal.returns-then-limit_sum-gt-MOST
returns-then-limit_sum-gt-MOST c =
    let t = c.args.table.now in
    let n : length t.lines ≡ places = search rules in
    let h : 32 < limits (lines_in t) = rw (← limits_law (lines_in t)) (omega arith) in
    check_4 t n (omega arith, omega arith) fine c.in_ok-ranges.ensures refl h

pub returns : goal.returns
returns c =
    let t = c.args.table.now in
    let n : length t.lines ≡ places = search rules in
    let h : limits (lines_in t) ≤ 32 = rw (← limits_law (lines_in t)) (omega arith) in
    c.pairs.ensures ∙ check_pairs t n (omega arith, omega arith) fine c.in_ok-ranges.ensures refl h
