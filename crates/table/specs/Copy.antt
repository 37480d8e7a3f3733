-- Document 01, "The task table": "The check reads the lent table lines as they are". How they are copied, one after the other. Assumes nothing.
use Rattle.std.specs.Prelude.{ℕ, ◌+◌, ◌-◌, cond, leb, ltb, length, take, replicate, set}
use mathlib.Core.List.{List, foldl}
use Rattle.rules.specs.declared.Line.{Line}
use Rattle.rules.specs.Table.{no_line}
use Rattle.table.specs.declared.LineList.{LineList}

-- ---- with p places

-- what the places hold, and the count
pub record Copy : Type 0 where
  pub lines : List Line
  pub count : ℕ

-- how many of n lines are read: none, if they have no place
abbrev pub lines_read : ℕ → ℕ → ℕ
lines_read p n = cond (leb n p) n 0

-- the copy before its first line: of lines that are not read it holds the count
abbrev pub begun : ℕ → ℕ → Copy
begun p n = record { lines = replicate p no_line; count = n - lines_read p n }

-- one line more, if it has a place
abbrev pub pushed : ℕ → Copy → Line → Copy
pushed p c x = cond (ltb c.count p) (record { lines = set c.lines c.count x; count = c.count + 1 }) c

-- lines xs, one after the other
abbrev pub copy : ℕ → List Line → Copy
copy p xs = foldl (pushed p) (begun p (length xs)) (take (lines_read p (length xs)) xs)

-- ---- as a list of p places

-- a copy as a list, and what `pushed` gives there
abbrev pub as_list : (p : ℕ) → Copy → LineList p
as_list p c = record { lines = c.lines; count = c.count }

abbrev pub pushed_of : (p : ℕ) → LineList p → Line → LineList p
pushed_of p t x = as_list p (pushed p (record { lines = t.lines; count = t.count }) x)
