-- `lent::check` meets its contract. Assumes nothing.
use Prim.Native.Nat.{◌<◌}
use mathlib.Core.Path.{◌≡◌, sym, ap, ◌∙◌}
use mathlib.Core.List.{List}
use native.Mathlib.Omega.{arith}
use lib.ListN.{length, replicate}
use Rattle.rules.specs.declared.Line.{Line}
use Rattle.rules.specs.Words.{places}
use Rattle.rules.specs.Table.{size}
use Rattle.table.specs.Lines.{given}
use Rattle.table.proofs.Laws.{given_few, given_size}
use Rattle.scheduler.specs.State.{checked_for, checked_of}
use Rattle.scheduler.proofs.Claims.{told_over}
use Rattle.lent.proofs.check.Goals as goal

-- up to 32 lines are all lent
pub returns-then-given-le-PLACES : goal.returns-then-given-le-PLACES
unfolding checked_of
returns-then-given-le-PLACES c =
    let full : length c.args.given.lines ≡ places = c.well_formed.0.1.1.0.1.0.1 in
    (c.check.ensures.gives ∙ ap (λ (xs : List Line). checked_for (record { lines = xs })) (sym (given_few c.args.given full c.if-given-le-PLACES.true)), c.check.ensures.hands_out)

-- more are refused as any 33 are
pub returns : goal.returns
unfolding checked_of
returns c =
    let full : length c.args.given.lines ≡ places = c.well_formed.0.1.1.0.1.0.1 in
    let many : places < size (given c.args.given) = omega (arith, given_size c.args.given full) in
    (c.check-2.ensures.gives ∙ told_over (record { lines = replicate 33 c.default.result }) (omega arith) ∙ sym (told_over (given c.args.given) many), c.check-2.ensures.hands_out)
