-- `number::read_rest` meets its contract. Assumes nothing.
use Rattle.std.proofs.Common.{rules, ◌≡◌, ◌+◌, ◌-◌, ◌<◌, ℕ, arith, sym, ap, ◌∙◌}
use lib.ListN.{drop}
use Rattle.rules.specs.Number.{rest_of, joined}
use Rattle.number.proofs.Turns.{turn_end, turn_zero, turn_last, turn_more, joined_joined, room_next, digit, turn_fits}
use Rattle.number.proofs.read_rest.Goals as goal
use Rattle.number.proofs.read_rest.Goals.{Else-group-lt-BIT_7}

-- the low seven bits of a byte with bit 7 set
low_bits : (c : Else-group-lt-BIT_7) → c.in_ok-group.group - 128 < 128
low_bits c = let byte = c.type_inv.tape (c.args.from + c.loop-i.i) in omega (arith, byte, c.in_ok-group.ensures.1)

pub returns-in_err-group : goal.returns-in_err-group
unfolding joined
returns-in_err-group c =
    let l = c.loop-i in
    let some : 0 < 8 - l.i = omega arith in
    rw (l.invariant.3, turn_end _ (c.args.from + l.i) _ some (c.in_err-group.ensures).0) (search rules)

pub returns-then-group-eq0 : goal.returns-then-group-eq0
unfolding joined
returns-then-group-eq0 c =
    let l = c.loop-i in
    let h = c.in_ok-group.ensures in
    sym (l.invariant.3 ∙ ap (joined l.value l.scale) (turn_zero _ (c.args.from + l.i) c.in_ok-group.group h.0 h.1 (8 - l.i) (omega arith) c.if-group-eq0.true))

pub overflow_mul-result : goal.overflow_mul-result
overflow_mul-result c =
    let l = c.loop-i in
    omega (arith, turn_fits l.value l.scale c.in_ok-group.group (8 - l.i) l.invariant.1 (omega arith) l.invariant.2 c.if-group-lt-BIT_7.true)

pub overflow_add-result : goal.overflow_add-result
overflow_add-result c =
    let l = c.loop-i in
    omega (arith, turn_fits l.value l.scale c.in_ok-group.group (8 - l.i) l.invariant.1 (omega arith) l.invariant.2 c.if-group-lt-BIT_7.true)

pub returns-then-group-lt-BIT_7 : goal.returns-then-group-lt-BIT_7
unfolding joined
returns-then-group-lt-BIT_7 c =
    let l = c.loop-i in
    let h = c.in_ok-group.ensures in
    sym (l.invariant.3 ∙ ap (joined l.value l.scale) (turn_last _ (c.args.from + l.i) c.in_ok-group.group h.0 h.1 (8 - l.i) (omega arith) c.if-group-lt-BIT_7.true c.if-group-eq0.false))

pub overflow_mul-value : goal.overflow_mul-value
overflow_mul-value c =
    let l = c.loop-i in
    omega (arith, turn_fits l.value l.scale (c.in_ok-group.group - 128) (8 - l.i) l.invariant.1 (omega arith) l.invariant.2 (low_bits (goal.at.overflow_mul-value c).Else-group-lt-BIT_7))

pub overflow_add-value : goal.overflow_add-value
overflow_add-value c =
    let l = c.loop-i in
    omega (arith, turn_fits l.value l.scale (c.in_ok-group.group - 128) (8 - l.i) l.invariant.1 (omega arith) l.invariant.2 (low_bits (goal.at.overflow_add-value c).Else-group-lt-BIT_7))

pub overflow_mul-scale : goal.overflow_mul-scale
overflow_mul-scale c =
    let l = c.loop-i in
    omega (arith, turn_fits l.value l.scale (c.in_ok-group.group - 128) (8 - l.i) l.invariant.1 (omega arith) l.invariant.2 (low_bits (goal.at.overflow_mul-scale c).Else-group-lt-BIT_7))

pub loop-i-preserved : goal.loop-i-preserved
loop-i-preserved c =
    let l = c.loop-i in
    let g = c.in_ok-group.group in
    let h = c.in_ok-group.ensures in
    let left = 8 - l.i in
    let some : 0 < left = omega arith in
    let next : 8 - (l.i + 1) ≡ left - 1 = omega arith in
    let place : c.args.from + (l.i + 1) ≡ c.args.from + l.i + 1 = omega arith in (
      omega (arith, h.0),
      digit l.value l.scale (g - 128) l.invariant.1 (low_bits (goal.at.loop-i-preserved c).Else-group-lt-BIT_7),
      rw next (room_next l.scale left some l.invariant.2),
      rw (next, place)
          (l.invariant.3
          ∙ ap (joined l.value l.scale) (turn_more _ (c.args.from + l.i) g h.0 h.1 left some c.if-group-lt-BIT_7.false)
          ∙ joined_joined l.value l.scale (g - 128) _),
    )

pub returns : goal.returns
unfolding joined rest_of
returns c =
    let l = c.loop-i in
    let none : 8 - l.i ≡ 0 = omega arith in
    sym (l.invariant.3 ∙ ap (λ (k : ℕ). joined l.value l.scale (rest_of k (c.args.from + l.i) (drop (c.args.from + l.i) c.args.tape.now))) none)
