-- Document 01, "The program and one whole run": a sequence of calls from a fresh start. Assumes nothing.
use Rattle.std.specs.Prelude.{◌≡◌, List, [], ◌∷◌}
use Rattle.rules.specs.declared.Call.{Call}
use Rattle.rules.specs.declared.Answer.{Answer}
use Rattle.rules.specs.declared.Tally.{Tally}
use Rattle.rules.specs.Table.{Table, fine, check}
use Rattle.rules.specs.Layer.{Board, fresh, next, answer}
use Rattle.rules.specs.Counts.{no_tallies, tallied}

-- the board after a sequence of calls, and what each call returned
abbrev pub run : Table → Board → List Call → Board
run T b [] = b
run T b (e ∷ es) = run T (next T b e) es

abbrev pub answers : Table → Board → List Call → List Answer
answers T b [] = []
answers T b (e ∷ es) = answer T b e ∷ answers T (next T b e) es

-- the scheduler state of a recorder head: its board, and the counts beside it
pub record Head : Type 0 where
  pub board : Board
  pub tallies : List Tally

-- what the check hands out: no job; tick, counts and greatest responses 0
abbrev pub fresh_head : Head
fresh_head = record { board = fresh; tallies = no_tallies }

abbrev pub head_next : Table → Head → Call → Head
head_next T h e = record { board = next T h.board e; tallies = tallied T h.board e h.tallies }

abbrev pub head_run : Table → Head → List Call → Head
head_run T h [] = h
head_run T h (e ∷ es) = head_run T (head_next T h e) es

-- a state that the check handed out and that has since been changed by nothing but calls
pub record Reached (T : Table) (h : Head) : Type 0 where
  pub accepted : check T ≡ fine
  pub calls : List Call
  pub is : h ≡ head_run T fresh_head calls
