-- Demand 3, a broken pair: the longer task and then the shorter part the kernel from the plain scheduler. Assumes nothing.
use Prim.Native.Nat.{ℕ, ◌≤◌}
use mathlib.Core.Path.{◌≡◌, refl, ap, sym, ◌∙◌}
use mathlib.Core.Bool.{true}
use mathlib.Core.List.{[], ◌∷◌, map}
use native.Mathlib.Omega.{arith}
use borrow.Author.Tests.{le-ltb, eq-eqb, ne_eqb}
use Rattle.rules.specs.declared.Tick.{Tick}
use Rattle.rules.specs.declared.Phase.TheVariants.{Released}
use Rattle.rules.specs.declared.Call.TheVariants.{Activate}
use Rattle.rules.specs.declared.Running.{Running}
use Rattle.rules.specs.Answers.{runs_as}
use Rattle.rules.specs.Words.{unless}
use Rattle.rules.specs.Table.{Table, line_of, InRange, plus, deadline_of, priority_of}
use Rattle.rules.specs.Jobs.{accepted, new_job, Before, before}
use Rattle.rules.specs.Calls.{View, refusal}
use Rattle.rules.specs.Late.{marked_at}
use Rattle.rules.specs.Layer.{Board, fresh, marked, done, next, result, viewed, choice}
use Rattle.rules.specs.Plain.{Plain, start, plain_next, plain_run, plain_choice, plain_viewed}
use Rattle.rules.specs.declared.Answer.{Answer}
use Rattle.rules.specs.Run.{run, answers}
use Rattle.rules.specs.Statement.{Broken, Demand3Broken, part_at}
use Rattle.rules.proofs.Allowed.{accepts}
use Rattle.rules.proofs.Order.{is_before, part_small, part_order}
use Rattle.rules.proofs.Checked.{broken_is_5}

-- the two activations at any tick t at which the shorter goes before the longer
module _ (T : Table) (i j : ℕ) (h : Broken T i j) (t : Tick) (small : t.0 ≤ 1000) (o : Before T (accepted T t i) (accepted T t j)) where
  line_i : InRange (line_of T i)
  line_i = h.passes.ranged i h.short

  line_j : InRange (line_of T j)
  line_j = h.passes.ranged j h.long

  differ : i ≡ j → ⊥
  differ e = let d : (deadline_of T i).0 ≡ (deadline_of T j).0 = ap (λ n. (deadline_of T n).0) e in omega (arith, h.shorter)

  -- the two schedulers after the first call and after the second
  board_1 : Board
  board_1 = record { last = t; jobs = new_job Released (accepted T t j) ∷ []; ready = j ∷ [] }

  board_2 : Board
  board_2 =
      record {
        last = t;
        jobs = new_job Released (accepted T t i) ∷ marked_at t (new_job Released (accepted T t j)) ∷ [];
        ready = j ∷ i ∷ [];
      }

  plain_1 : Plain
  plain_1 = record { last = t; pending = accepted T t j ∷ [] }

  plain_2 : Plain
  plain_2 = record { last = t; pending = accepted T t i ∷ accepted T t j ∷ [] }

  first_accepted : (v : View) → v.last.0 ≤ t.0 → v.pending ≡ [] → refusal T v (Activate t j) ≡ 0
  first_accepted v l p =
      accepts T v t j
      (record {
        time = record { not_back = l; not_over = omega arith };
        enters = record { known = h.long; below = rw p line_j.limit.0; reach = omega (arith, line_j) };
        room = rw p (omega arith);
      })

  second_accepted : (v : View) → v.last.0 ≤ t.0 → v.pending ≡ j ∷ [] → refusal T v (Activate t i) ≡ 0
  second_accepted v l p =
      accepts T v t i
      (record {
        time = record { not_back = l; not_over = omega arith };
        enters = record { known = h.short; below = rw (p, ne_eqb i j differ) line_i.limit.0; reach = omega (arith, line_i) };
        room = rw p (omega arith);
      })

  goes_before : before T (accepted T t i) (accepted T t j) ≡ true
  goes_before = is_before T (accepted T t i) (accepted T t j) o

  to_board_1 : next T fresh (Activate t j) ≡ board_1
  unfolding board_1
  to_board_1 = ap (λ z. unless z fresh (done T (marked t fresh) (Activate t j))) (first_accepted (viewed T fresh) (omega arith) refl)

  second_of_board : result T board_1 (Activate t i) ≡ 0
  unfolding board_1
  second_of_board = second_accepted (viewed T board_1) (omega arith) refl

  to_board_2 : next T board_1 (Activate t i) ≡ board_2
  unfolding board_1 board_2
  to_board_2 = ap (λ z. unless z board_1 (done T (marked t board_1) (Activate t i))) second_of_board ∙ simp goes_before

  to_plain_1 : plain_next T start (Activate t j) ≡ plain_1
  unfolding plain_1
  to_plain_1 = ap (λ z. unless z start plain_1) (first_accepted (plain_viewed T start) (omega arith) refl)

  to_plain_2 : plain_next T plain_1 (Activate t i) ≡ plain_2
  unfolding plain_1 plain_2
  to_plain_2 = ap (λ z. unless z plain_1 plain_2) (second_accepted (plain_viewed T plain_1) (omega arith) refl)

  both_accepted : map (λ (a : Answer). a.result) (answers T fresh (Activate t j ∷ Activate t i ∷ [])) ≡ 0 ∷ 0 ∷ []
  both_accepted =
      let first : result T fresh (Activate t j) ≡ 0 = first_accepted (viewed T fresh) (omega arith) refl in
      let second : result T (next T fresh (Activate t j)) (Activate t i) ≡ 0 = ap (λ (b : Board). result T b (Activate t i)) to_board_1 ∙ second_of_board in
      λ k. first k ∷ second k ∷ []

  -- the kernel goes on with the longer, which was released first and is not lower
  kernel_runs : choice T (run T fresh (Activate t j ∷ Activate t i ∷ [])) ≡ runs_as j (plus t (deadline_of T j))
  unfolding board_2
  kernel_runs =
      ap (λ z. choice T (next T z (Activate t i))) to_board_1 ∙ ap (choice T) to_board_2
      ∙ simp (le-ltb (priority_of T j) (priority_of T i) h.not_higher, ne_eqb j i (λ e. differ (sym e)), eq-eqb j j refl)

  plain_runs : plain_choice T (plain_run T start (Activate t j ∷ Activate t i ∷ [])).pending ≡ runs_as i (plus t (deadline_of T i))
  unfolding plain_2
  plain_runs =
      ap (λ z. plain_choice T (plain_next T z (Activate t i)).pending) to_plain_1 ∙ ap (λ z. plain_choice T z.pending) to_plain_2
      ∙ simp goes_before

  runs_apart : runs_as i (plus t (deadline_of T i)) ≡ runs_as j (plus t (deadline_of T j)) → ⊥
  runs_apart e =
      let same : ◌≡◌ {A = Running} (record { task = i; due = plus t (deadline_of T i) }) (record { task = j; due = plus t (deadline_of T j) }) = cc in
      differ (ap (λ (r : Running). r.task) same)

pub demand_3_broken : Demand3Broken
demand_3_broken T i j h = (record { accepted = both_accepted T i j h t small o; kernel = k; plain = p; apart = λ e. runs_apart T i j h t small o (sym p ∙ sym e ∙ k) }, broken_is_5 T i j h)
  where
    t : Tick
    t = part_at T i j

    small : t.0 ≤ 1000
    small = part_small T i j

    o : Before T (accepted T t i) (accepted T t j)
    o = part_order T i j h.passes h.shorter

    k : choice T (run T fresh (Activate t j ∷ Activate t i ∷ [])) ≡ runs_as j (plus t (deadline_of T j))
    k = kernel_runs T i j h t small o

    p : plain_choice T (plain_run T start (Activate t j ∷ Activate t i ∷ [])).pending ≡ runs_as i (plus t (deadline_of T i))
    p = plain_runs T i j h t small o
