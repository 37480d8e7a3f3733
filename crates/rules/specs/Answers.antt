-- Document 01, "What a call returns": a job's phase by whether it is released, what runs, and the numbers of the refusals. Assumes nothing.
use Rattle.std.specs.Prelude.{ℕ, Bool, true, false, Option, Some, Result, Ok, Err}
use Rattle.rules.specs.declared.Tick.{Tick}
use Rattle.rules.specs.declared.Phase.{Phase}
use Rattle.rules.specs.declared.Phase.TheVariants.{Delayed, Released}
use Rattle.rules.specs.declared.Running.{Running}
use Rattle.rules.specs.declared.CallRefusal.{CallRefusal}
use Rattle.rules.specs.declared.CallRefusal.TheVariants.{NoJob, NoTask, LimitReached, BadTick, DueBeyond, NoPlace}

-- released or not
abbrev pub phase_of : Bool → Phase
phase_of true = Released
phase_of false = Delayed

-- what runs: nothing, or a job by its task and deadline
abbrev pub Choice : Type 0
Choice = Option Running

abbrev pub runs_as : ℕ → Tick → Choice
runs_as n due = Some (record { task = n; due = due })

-- a refusal by its number
abbrev pub call_number : CallRefusal → ℕ
call_number NoJob = 2
call_number NoTask = 3
call_number LimitReached = 4
call_number BadTick = 8
call_number DueBeyond = 9
call_number NoPlace = 10

-- an answer's number: 0 where nothing is refused
abbrev pub result_number : {A : Type 0} → Result A CallRefusal → ℕ
result_number (Ok a) = 0
result_number (Err k) = call_number k
