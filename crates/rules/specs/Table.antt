-- Document 01, "The task table". Assumes nothing.
use Rattle.std.specs.Prelude.{ℕ, zero, suc, ◌+◌, ◌<◌, ◌≤◌, Bool, true, false, not, ◌&&◌, ◌||◌, List, [], ◌∷◌, length, get_or, ltb, leb}
use Rattle.rules.specs.declared.Tick.{Tick}
use Rattle.rules.specs.declared.Span.{Span}
use Rattle.rules.specs.declared.Line.{Line}
use Rattle.rules.specs.declared.Named.{Named}
use Rattle.rules.specs.declared.Named.TheVariants.{NoneNamed, TheLine, BothLines}
use Rattle.rules.specs.declared.Verdict.{Verdict}
use Rattle.rules.specs.Words.{Within, within}

-- the task table: its lines. A line's place from 0 is its task number
pub record Table : Type 0 where
  pub lines : List Line

abbrev pub size : Table → ℕ
size T = length T.lines

-- stands for a line that is not there
abbrev pub no_line : Line
no_line = record { deadline = record { 0 = 0 }; priority = 0; limit = 0 }

-- the line of task n
abbrev pub line_of : Table → ℕ → Line
line_of T n = get_or T.lines n no_line

abbrev pub deadline_of : Table → ℕ → Span
deadline_of T n = (line_of T n).deadline

abbrev pub priority_of : Table → ℕ → ℕ
priority_of T n = (line_of T n).priority

abbrev pub limit_of : Table → ℕ → ℕ
limit_of T n = (line_of T n).limit

-- what the limits of the lines add up to
abbrev pub limits : List Line → ℕ
limits [] = 0
limits (x ∷ xs) = x.limit + limits xs

-- the greatest tick
abbrev pub greatest : Tick
greatest = record { 0 = 4611686018427387903 }

-- the one sum of a tick and a relative deadline
abbrev pub plus : Tick → Span → Tick
plus t d = record { 0 = t.0 + d.0 }

-- ---- what a table has to keep

abbrev pub DeadlineInRange : Line → Type 0
DeadlineInRange x = Within 1 1000000000 x.deadline.0

abbrev pub LimitInRange : Line → Type 0
LimitInRange x = Within 1 32 x.limit

pub record InRange (x : Line) : Type 0 where
  pub deadline : DeadlineInRange x
  pub limit : LimitInRange x

-- checks 1 to 4: 1 to 32 lines, every line in range, the limits add up to at most 32
pub record Passes (T : Table) : Type 0 where
  pub counted : Within 1 32 (size T)
  pub ranged : (n : ℕ) → n < size T → InRange (line_of T n)
  pub summed : limits T.lines ≤ 32

-- the priority rule: for any two lines, the shorter relative deadline has the strictly higher priority
abbrev pub Rule : Table → Type 0
Rule T =
    (i j : ℕ) → i < size T → j < size T → (deadline_of T i).0 < (deadline_of T j).0 → priority_of T j < priority_of T i

pub record Keeps (T : Table) : Type 0 where
  pub passes : Passes T
  pub rule : Rule T

-- ---- the check

-- its answer: the number, and the lines named
abbrev pub verdict : ℕ → Named → Verdict
verdict n ls = record { number = n; lines = ls }

abbrev pub fine : Verdict
fine = verdict 0 NoneNamed

infixr 10 ◌then◌
-- the first answer, or the second where the first is 0
unfoldable pub ◌then◌ : Verdict → Verdict → Verdict
◌then◌ v w = elim v.number [ zero ↦ w | suc n ↦ v ]

-- the number n on these lines, if the condition holds
unfoldable pub refuse : ℕ → Named → Bool → Verdict
refuse n ls true = verdict n ls
refuse n ls false = fine

-- 2 and 3: line by line, the deadline before the limit
abbrev pub ranges_from : ℕ → List Line → Verdict
ranges_from i [] = fine
ranges_from i (x ∷ xs) =
    refuse 2 (TheLine i) (not (within 1 1000000000 x.deadline.0))
    then refuse 3 (TheLine i) (not (within 1 32 x.limit))
    then ranges_from (suc i) xs

-- the shorter relative deadline lacks the strictly higher priority
abbrev pub breaks : Line → Line → Bool
breaks x y = ltb x.deadline.0 y.deadline.0 && leb x.priority y.priority

-- 5: line i with each line behind it, then the next line i
abbrev pub pairs_with : ℕ → Line → ℕ → List Line → Verdict
pairs_with i x j [] = fine
pairs_with i x j (y ∷ ys) = refuse 5 (BothLines i j) (breaks x y || breaks y x) then pairs_with i x (suc j) ys

abbrev pub pairs_from : ℕ → List Line → Verdict
pairs_from i [] = fine
pairs_from i (x ∷ xs) = pairs_with i x (suc i) xs then pairs_from (suc i) xs

abbrev pub check : Table → Verdict
check T =
    refuse 1 NoneNamed (not (within 1 32 (size T)))
    then ranges_from 0 T.lines
    then refuse 4 NoneNamed (ltb 32 (limits T.lines))
    then pairs_from 0 T.lines
