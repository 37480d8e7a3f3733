-- Document 01, "The program and one whole run" and "Errors a builder could fall into": the printed run, cases a to l (j as Q-2 has it), and other single rows, as one statement; and those of Q-1 and Q-3. Assumes nothing.
use Rattle.std.specs.Prelude.{ℕ, ◌+◌, ◌*◌, ◌/◌, ◌≡◌, true, false, List, [], ◌∷◌, ◌++◌, map, take, replicate, ltb, None, Ok, Err}
use Prim.Native.String.{String}
use Rattle.std.proofs.Math.Option.{some}
use Rattle.rules.specs.declared.Tick.{Tick}
use Rattle.rules.specs.declared.Line.{Line}
use Rattle.rules.specs.declared.Named.TheVariants.{NoneNamed, TheLine, BothLines}
use Rattle.rules.specs.declared.Phase.{Phase}
use Rattle.rules.specs.declared.Phase.TheVariants.{Delayed, Released}
use Rattle.rules.specs.declared.Call.{Call}
use Rattle.rules.specs.declared.Call.TheVariants.{Wait, Activate, Terminate, Chain}
use Rattle.rules.specs.declared.KernelCall.{KernelCall}
use Rattle.rules.specs.declared.KernelCall.TheVariants.{NoCall, ActivateTask, ChainTask, TerminateTask}
use Rattle.rules.specs.declared.Answer.{Answer}
use Rattle.rules.specs.declared.Tally.{Tally}
use Rattle.rules.specs.declared.TapeRefusal.TheVariants.{CutShort, ZeroGroup, UnknownKind, AboveBound, Unwritable, NoRoom, TooLong}
use Rattle.rules.specs.Number.{bytes_of, tape_number, taken, number_at}
use Rattle.rules.specs.Tape.{lines_bytes, tape_of, record_at, read_tape, whole, written, stored}
use Rattle.rules.specs.Table.{Table, deadline_of, priority_of, greatest, verdict, check}
use Rattle.rules.specs.Jobs.{Job, Pending, before}
use Rattle.rules.specs.declared.CallRefusal.TheVariants.{NoTask}
use Rattle.rules.specs.Answers.{Choice, runs_as}
use Rattle.rules.specs.Kernel.{dispatched, kernel}
use Rattle.rules.specs.Layer.{moved, fresh, result, choice, answer, in_places}
use Rattle.rules.specs.Plain.{start, plain_result, plain_run, plain_choice}
use Rattle.rules.specs.Run.{run, answers, fresh_head, head_run}
use Rattle.rules.specs.Print.{ascii, ended, transcript}
use Rattle.rules.specs.declared.Reason.TheVariants.{NonePending, ItRuns, Earlier, ThereFirst}
use Rattle.rules.specs.Why.{why}
use Rattle.rules.specs.WhyPrint.{why_transcript}
use Rattle.rules.specs.Search.{from_front, from_back, reads_from_back}

abbrev pub line : ℕ → ℕ → ℕ → Line
line d p l = record { deadline = record { 0 = d }; priority = p; limit = l }

abbrev pub table : List Line → Table
table ls = record { lines = ls }

abbrev pub at : ℕ → Tick
at t = record { 0 = t }

-- a job of task n, activated at t, due at d
abbrev pub job : ℕ → ℕ → ℕ → Phase → Job
job n t d s = record { task = n; since = at t; due = at d; phase = s; reported = false }

abbrev pub says : ℕ → Choice → KernelCall → List ℕ → Answer
says r c k l = record { result = r; running = c; call = k; late = in_places l }

abbrev pub tally : ℕ → ℕ → ℕ → Tally
tally l e r = record { late = l; ended = e; response = r }

abbrev pub table_p : Table
table_p = table (line 3 12 2 ∷ line 5 11 2 ∷ line 5 10 2 ∷ [])

abbrev pub table_d : Table
table_d = table (line 10 9 1 ∷ line 12 8 1 ∷ [])

-- the error of case d: due at the next multiple of D
abbrev pub multiple : Table → Tick → ℕ → Pending
multiple T t n = record { task = n; since = t; due = at ((t.0 / (deadline_of T n).0 + 1) * (deadline_of T n).0) }

abbrev pub table_e : Table
table_e = table (line 3 1 1 ∷ line 5 2 1 ∷ [])

abbrev pub table_f : Table
table_f = table (line 3 2 1 ∷ line 5 2 1 ∷ [])

abbrev pub longer_first : List Call
longer_first = Activate (at 0) 1 ∷ Activate (at 0) 0 ∷ []

abbrev pub up_to_tick3 : List Call
up_to_tick3 = Activate (at 0) 0 ∷ Activate (at 0) 2 ∷ Activate (at 0) 1 ∷ Terminate (at 1) ∷ Activate (at 3) 0 ∷ []

abbrev pub printed : List Call
printed =
    Activate (at 0) 0 ∷ Activate (at 0) 2 ∷ Activate (at 0) 1 ∷ Terminate (at 1) ∷ Activate (at 3) 0 ∷ Terminate (at 3)
    ∷ Terminate (at 4) ∷ Wait (at 7) ∷ Terminate (at 8) ∷ []

abbrev pub two_of_task0 : List Call
two_of_task0 = Activate (at 0) 0 ∷ Activate (at 0) 0 ∷ []

-- 32 jobs, which only a table that the check refuses can have without being at a limit
abbrev pub table_over : Table
table_over = table (line 5 2 32 ∷ line 5 1 32 ∷ [])

abbrev pub full : List Call
full = replicate 32 (Activate (at 0) 0)

-- the input of the printed run, in hexadecimal
abbrev pub printed_tape : List ℕ
printed_tape =
    0x03 ∷ 0x03 ∷ 0x0C ∷ 0x02 ∷ 0x05 ∷ 0x0B ∷ 0x02 ∷ 0x05 ∷ 0x0A ∷ 0x02
    ∷ 0x01 ∷ 0x00 ∷ 0x00 ∷ 0x01 ∷ 0x00 ∷ 0x02 ∷ 0x01 ∷ 0x00 ∷ 0x01 ∷ 0x02 ∷ 0x01 ∷ 0x01 ∷ 0x02 ∷ 0x00
    ∷ 0x02 ∷ 0x00 ∷ 0x02 ∷ 0x01 ∷ 0x00 ∷ 0x03 ∷ 0x02 ∷ 0x01 ∷ []

-- a print by its lines
abbrev pub lines : List String → List ℕ
lines [] = []
lines (s ∷ ss) = ended (ascii s) ++ lines ss

-- a new deadline among deadlines: its place from the front, its place from the back, and how many are read from the back
abbrev pub searched : ℕ → List ℕ → List ℕ
searched n l = from_front ltb n l ∷ from_back ltb n l ∷ reads_from_back ltb n l ∷ []

pub record Cases : Type 0 where
  -- the printed run
  pub printed_written : tape_of table_p printed ≡ printed_tape
  pub printed_read : read_tape printed_tape ≡ whole table_p printed
  pub printed_table : check table_p ≡ verdict 0 NoneNamed
  pub printed_run :
      answers table_p fresh printed
      ≡ says 0 (runs_as 0 (at 3)) (ActivateTask 0) []
      ∷ says 0 (runs_as 0 (at 3)) NoCall []
      ∷ says 0 (runs_as 0 (at 3)) NoCall []
      ∷ says 0 (runs_as 2 (at 5)) (ChainTask 2) []
      ∷ says 0 (runs_as 2 (at 5)) NoCall []
      ∷ says 0 (runs_as 1 (at 5)) (ChainTask 1) []
      ∷ says 0 (runs_as 0 (at 6)) (ChainTask 0) []
      ∷ says 0 (runs_as 0 (at 6)) NoCall (0 ∷ [])
      ∷ says 0 None TerminateTask []
      ∷ []
  pub printed_print :
      transcript printed_tape
      ≡ lines
      ("tick res run due call late"
      ∷ "0 0 0 3 A0 -"
      ∷ "0 0 0 3 - -"
      ∷ "0 0 0 3 - -"
      ∷ "1 0 2 5 C2 -"
      ∷ "3 0 2 5 - -"
      ∷ "3 0 1 5 C1 -"
      ∷ "4 0 0 6 C0 -"
      ∷ "7 0 0 6 - 0"
      ∷ "8 0 - - T -"
      ∷ [])
  pub printed_counts : take 3 (head_run table_p fresh_head printed).tallies ≡ tally 1 2 5 ∷ tally 0 1 4 ∷ tally 0 1 3 ∷ []
  -- what else the program prints
  pub print_nothing_read : transcript [] ≡ lines ("tape 20 at 0" ∷ [])
  pub print_count_33 : transcript (33 ∷ []) ≡ lines ("table 1 - -" ∷ [])
  pub print_no_record : transcript (0x01 ∷ 0x03 ∷ 0x0C ∷ 0x02 ∷ []) ≡ lines ("tick res run due call late" ∷ [])
  pub print_bad_record :
      transcript (0x01 ∷ 0x03 ∷ 0x0C ∷ 0x02 ∷ 0x03 ∷ 0x0C ∷ 0x07 ∷ 0x04 ∷ []) ≡ lines ("tick res run due call late" ∷ "12 2 - - - -" ∷ "tape 22 at 7" ∷ [])
  pub print_count_32 : transcript (32 ∷ lines_bytes (replicate 32 (line 5 1 1))) ≡ lines ("tick res run due call late" ∷ [])
  pub print_late :
      transcript (0x01 ∷ 0x03 ∷ 0x0C ∷ 0x02 ∷ 0x01 ∷ 0x00 ∷ 0x00 ∷ 0x01 ∷ 0x00 ∷ 0x00 ∷ 0x00 ∷ 0x80 ∷ 0x08 ∷ [])
      ≡ lines ("tick res run due call late" ∷ "0 0 0 3 A0 -" ∷ "0 0 0 3 - -" ∷ "1024 0 0 3 - 0,0" ∷ [])
  pub print_refused_ticks :
      transcript (0x01 ∷ 0x05 ∷ 0x01 ∷ 0x01 ∷ 0x02 ∷ 0x07 ∷ 0x01 ∷ 0x07 ∷ 0x00 ∷ [])
      ≡ lines ("tick res run due call late" ∷ "7 2 - - - -" ∷ "14 0 0 19 A0 -" ∷ [])
  pub print_one_named : transcript (0x02 ∷ 0x05 ∷ 0x02 ∷ 0x01 ∷ 0x00 ∷ 0x01 ∷ 0x01 ∷ []) ≡ lines ("table 2 1 -" ∷ [])
  pub print_none_named : transcript (0x02 ∷ 0x03 ∷ 0x02 ∷ 0x10 ∷ 0x05 ∷ 0x01 ∷ 0x11 ∷ []) ≡ lines ("table 4 - -" ∷ [])
  pub print_longest : transcript (replicate 65536 33) ≡ lines ("table 1 - -" ∷ [])
  pub print_too_long : transcript (replicate 65537 33) ≡ lines ("tape 26 at 65536" ∷ [])
  -- cases a to l
  pub a_stays_delayed :
      (run table_p fresh up_to_tick3).jobs ≡ job 2 0 5 Released ∷ job 1 0 5 Delayed ∷ job 0 3 6 Delayed ∷ []
  pub a_runs_on : choice table_p (run table_p fresh up_to_tick3) ≡ runs_as 2 (at 5)
  pub a_plain : plain_choice table_p (plain_run table_p start up_to_tick3).pending ≡ runs_as 2 (at 5)
  pub b_no_second_start :
      answers table_p fresh (Activate (at 0) 1 ∷ Activate (at 1) 0 ∷ Terminate (at 2) ∷ [])
      ≡ says 0 (runs_as 1 (at 5)) (ActivateTask 1) [] ∷ says 0 (runs_as 0 (at 4)) (ActivateTask 0) [] ∷ says 0 (runs_as 1 (at 5)) TerminateTask [] ∷ []
  pub c_behind_its_equal : (run table_p fresh two_of_task0).jobs ≡ job 0 0 3 Released ∷ job 0 0 3 Delayed ∷ []
  pub d_accepted : check table_d ≡ verdict 0 NoneNamed
  pub d_own_deadlines :
      answers table_d fresh (Activate (at 21) 0 ∷ Activate (at 22) 1 ∷ [])
      ≡ says 0 (runs_as 0 (at 31)) (ActivateTask 0) [] ∷ says 0 (runs_as 0 (at 31)) NoCall [] ∷ []
  pub d_second_waits :
      (run table_d fresh (Activate (at 21) 0 ∷ Activate (at 22) 1 ∷ [])).jobs ≡ job 0 21 31 Released ∷ job 1 22 34 Delayed ∷ []
  pub d_multiple_due : (multiple table_d (at 21) 0).due ≡ at 30
  pub d_multiple_first :
      moved (before table_d) (multiple table_d) (some 0) (job 0 21 30 Released ∷ []) (Activate (at 22) 1)
      ≡ record { jobs = job 1 22 24 Released ∷ job 0 21 30 Released ∷ []; call = ActivateTask 1 }
  pub d_multiple_not_run : dispatched (priority_of table_d) (kernel (some 0) (ActivateTask 1) (0 ∷ [])) ≡ some 0
  pub e_refused : check table_e ≡ verdict 5 (BothLines 0 1)
  pub e_print : transcript (0x02 ∷ 0x03 ∷ 0x01 ∷ 0x01 ∷ 0x05 ∷ 0x02 ∷ 0x01 ∷ 0x04 ∷ []) ≡ lines ("table 5 0 1" ∷ [])
  pub e_kernel : choice table_e (run table_e fresh longer_first) ≡ runs_as 1 (at 5)
  pub e_plain : plain_choice table_e (plain_run table_e start longer_first).pending ≡ runs_as 0 (at 3)
  pub f_refused : check table_f ≡ verdict 5 (BothLines 0 1)
  pub f_kernel : choice table_f (run table_f fresh longer_first) ≡ runs_as 1 (at 5)
  pub f_plain : plain_choice table_f (plain_run table_f start longer_first).pending ≡ runs_as 0 (at 3)
  pub g_accepted : check (table (line 5 2 1 ∷ line 5 2 1 ∷ [])) ≡ verdict 0 NoneNamed
  pub h_runs : choice table_p (run table_p fresh two_of_task0) ≡ runs_as 0 (at 3)
  pub h_chain : answer table_p (run table_p fresh two_of_task0) (Chain (at 0) 0) ≡ says 0 (runs_as 0 (at 3)) (ChainTask 0) []
  pub h_activate : result table_p (run table_p fresh two_of_task0) (Activate (at 0) 0) ≡ 4
  pub i_nothing_runs : result table_p fresh (Terminate (at 0)) ≡ 2
  pub i_accepted : result table_p fresh (Wait (at 5)) ≡ 0
  pub i_goes_back : result table_p (run table_p fresh (Wait (at 5) ∷ [])) (Terminate (at 4)) ≡ 8
  pub i_plain : plain_result table_p (plain_run table_p start (Wait (at 5) ∷ [])) (Terminate (at 4)) ≡ 8
  pub i_changes_nothing : run table_p fresh (Wait (at 5) ∷ Terminate (at 4) ∷ []) ≡ run table_p fresh (Wait (at 5) ∷ [])
  pub j_on_time : answer table_p (run table_p fresh (Activate (at 3) 0 ∷ [])) (Terminate (at 5)) ≡ says 0 None TerminateTask []
  pub j_late : answer table_p (run table_p fresh (Activate (at 3) 0 ∷ [])) (Terminate (at 6)) ≡ says 0 None TerminateTask (0 ∷ [])
  pub j_on_time_counts : take 1 (head_run table_p fresh_head (Activate (at 3) 0 ∷ Terminate (at 5) ∷ [])).tallies ≡ tally 0 1 2 ∷ []
  pub j_late_counts : take 1 (head_run table_p fresh_head (Activate (at 3) 0 ∷ Terminate (at 6) ∷ [])).tallies ≡ tally 1 1 3 ∷ []
  pub j_reported_once :
      answers table_p fresh (Activate (at 3) 0 ∷ Wait (at 5) ∷ Wait (at 6) ∷ Wait (at 6) ∷ Wait (at 7) ∷ [])
      ≡ says 0 (runs_as 0 (at 6)) (ActivateTask 0) []
      ∷ says 0 (runs_as 0 (at 6)) NoCall []
      ∷ says 0 (runs_as 0 (at 6)) NoCall (0 ∷ [])
      ∷ says 0 (runs_as 0 (at 6)) NoCall []
      ∷ says 0 (runs_as 0 (at 6)) NoCall []
      ∷ []
  pub j_first_call_after : answer table_p (run table_p fresh (Activate (at 3) 0 ∷ Wait (at 5) ∷ [])) (Wait (at 7)) ≡ says 0 (runs_as 0 (at 6)) NoCall (0 ∷ [])
  pub k_not_shortest : number_at (0x80 ∷ 0x00 ∷ []) 0 ≡ Err ZeroGroup
  pub k_cut_off : number_at (0x80 ∷ []) 0 ≡ Err CutShort
  pub l_fits : check (table (line 3 2 16 ∷ line 5 1 16 ∷ [])) ≡ verdict 0 NoneNamed
  pub l_too_many : check (table (line 3 2 16 ∷ line 5 1 17 ∷ [])) ≡ verdict 4 NoneNamed
  -- a number, a record, a write
  pub number_writes_127 : bytes_of 127 ≡ 0x7F ∷ []
  pub number_writes_128 : bytes_of 128 ≡ 0x80 ∷ 0x01 ∷ []
  pub number_writes_300 : bytes_of 300 ≡ 0xAC ∷ 0x02 ∷ []
  pub number_127 : number_at (0x7F ∷ []) 0 ≡ taken 127 1
  pub number_128 : number_at (0x80 ∷ 0x01 ∷ []) 0 ≡ taken 128 2
  pub number_300 : number_at (0xAC ∷ 0x02 ∷ []) 0 ≡ taken 300 2
  pub number_nine_groups :
      number_at (0xFF ∷ 0xFF ∷ 0xFF ∷ 0xFF ∷ 0xFF ∷ 0xFF ∷ 0xFF ∷ 0xFF ∷ 0x3F ∷ []) 0 ≡ taken 4611686018427387903 9
  pub number_tenth_group :
      number_at (0xFF ∷ 0xFF ∷ 0xFF ∷ 0xFF ∷ 0xFF ∷ 0xFF ∷ 0xFF ∷ 0xFF ∷ 0xBF ∷ 0x01 ∷ []) 0 ≡ Err AboveBound
  pub tape_numbers :
      map tape_number (CutShort ∷ ZeroGroup ∷ UnknownKind ∷ AboveBound ∷ Unwritable ∷ NoRoom ∷ TooLong ∷ []) ≡ 20 ∷ 21 ∷ 22 ∷ 23 ∷ 24 ∷ 25 ∷ 26 ∷ []
  pub record_kind_first : record_at (0x04 ∷ []) 0 (at 0) ≡ Err UnknownKind
  pub record_sum_first : record_at (0x01 ∷ 0x01 ∷ []) 0 greatest ≡ Err AboveBound
  pub write_24_first : written true (bytes_of 300) 1 ≡ Err Unwritable
  pub write_too_short : written false (bytes_of 300) 1 ≡ Err NoRoom
  pub write_just_fits : written false (bytes_of 300) 2 ≡ Ok 2
  pub write_left_as_it_was : stored false (bytes_of 300) (0xEE ∷ []) ≡ 0xEE ∷ []
  pub write_nothing_behind : stored false (bytes_of 300) (0xEE ∷ 0xEE ∷ 0xEE ∷ []) ≡ 0xAC ∷ 0x02 ∷ 0xEE ∷ []
  -- rows of the check and of the calls
  pub one_none : check (table []) ≡ verdict 1 NoneNamed
  pub one_many : check (table (replicate 33 (line 5 1 1))) ≡ verdict 1 NoneNamed
  pub two_first : check (table (line 0 1 0 ∷ [])) ≡ verdict 2 (TheLine 0)
  pub three_first : check (table (line 5 1 33 ∷ line 0 1 1 ∷ [])) ≡ verdict 3 (TheLine 0)
  pub no_line : result table_p fresh (Activate (at 0) 3) ≡ 3
  pub in_reach : result table_p fresh (Activate (at 4611686018427387900) 0) ≡ 0
  pub no_reach : result table_p fresh (Activate (at 4611686018427387901) 0) ≡ 9
  pub ten_refused : check table_over ≡ verdict 4 NoneNamed
  pub ten_at_31 : result table_over (run table_over fresh (take 31 full)) (Activate (at 0) 1) ≡ 0
  pub ten_at_32 : result table_over (run table_over fresh full) (Activate (at 0) 1) ≡ 10
  pub ten_after_4 : result table_over (run table_over fresh full) (Activate (at 0) 0) ≡ 4
  -- Q-1: at tick 3 of the printed run, and at its borders
  pub why_earlier : why table_p (run table_p fresh up_to_tick3) 0 ≡ Ok (Earlier 2 (at 5))
  pub why_there_first : why table_p (run table_p fresh up_to_tick3) 1 ≡ Ok (ThereFirst 2 (at 5))
  pub why_it_runs : why table_p (run table_p fresh up_to_tick3) 2 ≡ Ok ItRuns
  pub why_no_line : why table_p (run table_p fresh up_to_tick3) 3 ≡ Err NoTask
  pub why_byte_255 : why table_p fresh 255 ≡ Err NoTask
  pub why_none_pending : why table_p fresh 0 ≡ Ok NonePending
  pub why_first_of_two : why table_p (run table_p fresh two_of_task0) 0 ≡ Ok ItRuns
  pub why_preempted : why table_p (run table_p fresh (Activate (at 0) 1 ∷ Activate (at 1) 0 ∷ [])) 1 ≡ Ok (Earlier 0 (at 4))
  pub why_late : why table_p (run table_p fresh (Activate (at 0) 0 ∷ Wait (at 9) ∷ Activate (at 9) 0 ∷ Activate (at 9) 1 ∷ [])) 1 ≡ Ok (Earlier 0 (at 3))
  pub why_print :
      why_transcript (take 24 printed_tape)
      ≡ lines
      ("task 0 is waiting: task 2 is running with the earlier deadline 5"
      ∷ "task 1 is waiting: task 2 was there first and is running with the same deadline 5"
      ∷ "task 2 is running"
      ∷ [])
  pub why_print_whole : why_transcript printed_tape ≡ lines ("task 0 has no pending job" ∷ "task 1 has no pending job" ∷ "task 2 has no pending job" ∷ [])
  pub why_print_no_record : why_transcript (0x01 ∷ 0x03 ∷ 0x0C ∷ 0x02 ∷ []) ≡ lines ("task 0 has no pending job" ∷ [])
  pub why_print_bad_record :
      why_transcript (0x01 ∷ 0x03 ∷ 0x0C ∷ 0x02 ∷ 0x01 ∷ 0x00 ∷ 0x00 ∷ 0x04 ∷ []) ≡ lines ("task 0 is running" ∷ "tape 22 at 7" ∷ [])
  pub why_print_bad_table : why_transcript (0x02 ∷ 0x03 ∷ 0x01 ∷ 0x01 ∷ 0x05 ∷ 0x02 ∷ 0x01 ∷ 0x04 ∷ []) ≡ lines ("table 5 0 1" ∷ [])
  pub why_print_nothing_read : why_transcript [] ≡ lines ("tape 20 at 0" ∷ [])
  -- Q-3: a job that goes behind all others reads one; where the list is not in order the two places part
  pub place_last : searched 6 (3 ∷ 5 ∷ 5 ∷ 6 ∷ []) ≡ 4 ∷ 4 ∷ 1 ∷ []
  pub place_between : searched 5 (3 ∷ 5 ∷ 5 ∷ 6 ∷ []) ≡ 3 ∷ 3 ∷ 2 ∷ []
  pub place_first : searched 2 (3 ∷ 5 ∷ 5 ∷ 6 ∷ []) ≡ 0 ∷ 0 ∷ 4 ∷ []
  pub place_alone : searched 2 [] ≡ 0 ∷ 0 ∷ 0 ∷ []
  pub place_unordered : searched 4 (5 ∷ 3 ∷ []) ≡ 0 ∷ 2 ∷ 1 ∷ []
