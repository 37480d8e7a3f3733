-- No line is longer than the room that is kept for it. Assumes nothing.
use Prim.Native.Nat.{ℕ, zero, suc, ◌+◌, ◌*◌, ◌≤◌}
use mathlib.Core.Path.{◌≡◌, ap, ◌∙◌, subst⁻¹}
use mathlib.Core.Bool.{Bool, true, false, cond}
use mathlib.Core.List.{List, [], ◌∷◌, ◌++◌}
use Rattle.std.specs.Prelude.{Some, None, Ok, Err}
use native.Mathlib.Omega.{arith}
use lib.Dec.{ltb}
use lib.ListN.{length, take, length-append, length-take}
use Prim.Native.Nat.{◌/◌, ◌%◌}
use Rattle.rules.specs.declared.Tick.{Tick}
use Rattle.rules.specs.declared.Answer.{Answer}
use Rattle.rules.specs.declared.KernelCall.{KernelCall}
use Rattle.rules.specs.declared.KernelCall.TheVariants.{NoCall, ActivateTask, ChainTask, TerminateTask}
use Rattle.rules.specs.declared.Call.{Call}
use Rattle.rules.specs.Answers.{Choice}
use Rattle.rules.specs.Table.{Table}
use Rattle.rules.specs.Layer.{Board, answer}
use Rattle.rules.specs.Run.{Head, Reached}
use Rattle.rules.specs.Number.{tape_number}
use Rattle.rules.specs.Tape.{RecordRead}
use Rattle.rules.specs.Print.{ascii, decimal_in, decimal, spaced, ended, run_text, due_text, call_text, comma_tasks, tasks_text, answer_text, tape_text}
use Rattle.rules.proofs.Reached.{reached_keeps, reached_board}
use Rattle.rules.proofs.Places.{places_suffice}
use Rattle.scheduler.specs.declared.State.{State}
use Rattle.scheduler.specs.declared.Stepped.{Stepped}
use Rattle.scheduler.specs.State.{state_of, Handed, told, step_of}
use Rattle.scheduler.proofs.Back.{step_is}
use Rattle.scheduler.proofs.Handed.{handed_by}
use Rattle.transcript.specs.Pieces.{called_of, read_in, line_text, line_most}
use Rattle.transcript.specs.Claims.{LinesFit}

digits_few : (k n : ℕ) → length (decimal_in k n) ≤ k
unfolding decimal_in
digits_few zero n = omega arith
digits_few (suc k) n = go (ltb n 10) (digits_few k (n / 10))
  where
    go : (u : Bool) → length (decimal_in k (n / 10)) ≤ k → length (cond u [] (decimal_in k (n / 10)) ++ ((48 + n % 10) ∷ [])) ≤ suc k
    go true h = omega arith
    go false h = omega (arith, h, length-append (decimal_in k (n / 10)) ((48 + n % 10) ∷ []))

pub number_few : (n : ℕ) → length (decimal n) ≤ 20
number_few n = digits_few 20 n

run_few : (x : Choice) → length (run_text x) ≤ 20
run_few None = omega arith
run_few (Some r) = number_few r.task

due_few : (x : Choice) → length (due_text x) ≤ 20
due_few None = omega arith
due_few (Some r) = number_few r.due.0

call_few : (x : KernelCall) → length (call_text x) ≤ 21
call_few NoCall = omega arith
call_few (ActivateTask n) = omega (arith, number_few n)
call_few (ChainTask n) = omega (arith, number_few n)
call_few TerminateTask = omega arith

comma_few : (l : List ℕ) → length (comma_tasks l) ≤ 21 * length l
unfolding comma_tasks
comma_few [] = omega arith
comma_few (n ∷ l) = omega (arith, number_few n, comma_few l, length-append (ascii "," ++ decimal n) (comma_tasks l))

tasks_few : (l : List ℕ) → length (tasks_text l) ≤ 1 + 21 * length l
unfolding tasks_text
tasks_few [] = omega arith
tasks_few (n ∷ l) = omega (arith, number_few n, comma_few l, length-append (decimal n) (comma_tasks l))

line_few : (t : Tick) (a : Answer) → length a.late.tasks ≡ 32 → length (ended (answer_text t a)) ≤ line_most
unfolding answer_text spaced
line_few t a h =
    let late = take a.late.count a.late.tasks in
    let many : length late ≤ 32 = omega (arith, h, length-take a.late.count a.late.tasks) in
    simp length-append
    (omega (
      arith,
      number_few t.0,
      number_few a.result,
      run_few a.running,
      due_few a.running,
      call_few a.call,
      tasks_few late,
      many,
    ))

pub stop_few : (n p : ℕ) → length (ended (tape_text n p)) ≤ line_most
unfolding tape_text spaced
stop_few n p = simp length-append (omega (arith, number_few n, number_few p))

-- an answer has all its places
answer_places : (s : State) → Handed s → (e : Call) → length (step_of s e).answer.late.tasks ≡ 32
unfolding told
answer_places s d e = handed_by (λ (z : State). length (step_of z e).answer.late.tasks ≡ 32) go s d
  where
    go : (T : Table) (h : Head) → Reached T h → length (step_of (state_of T h) e).answer.late.tasks ≡ 32
    go T h r =
        ap (λ (z : Stepped). length z.answer.late.tasks) (step_is T h r e)
        ∙ subst⁻¹ (λ (b : Board). length (answer T b e).late.tasks ≡ 32) (reached_board T h r) (places_suffice T (reached_keeps T h r).passes r.calls e).in_all

pub lines_fit : LinesFit
unfolding called_of
lines_fit tape x d = go (read_in tape x)
  where
    go : (r : RecordRead) → length (line_text x r) ≤ line_most
    go (Ok (Some t)) = line_few _ (step_of x.state t.value).answer (answer_places x.state d t.value)
    go (Ok None) = omega arith
    go (Err k) = stop_few (tape_number k) x.at
