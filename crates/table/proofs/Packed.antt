-- A table as it is kept has the lines that it was given. Assumes nothing.
use Prim.Native.Nat.{ℕ, zero, suc, ◌-◌, ◌≤◌}
use mathlib.Core.Path.{◌≡◌, refl}
use mathlib.Core.List.{List, [], ◌∷◌, ◌++◌}
use native.Mathlib.Omega.{arith}
use lib.ListN.{length, get_or, replicate, length-append, length-replicate}
use lib.Seq.{take-append_seam}
use Rattle.rules.specs.Words.{places}
use Rattle.rules.specs.declared.Line.{Line}
use Rattle.rules.specs.Table.{no_line}
use Rattle.table.specs.Lines.{packed, line_at, lines_in}

blanks_behind : (ls : List Line) (k n : ℕ) → get_or (ls ++ replicate k no_line) n no_line ≡ get_or ls n no_line
blanks_behind [] zero n = refl
blanks_behind [] (suc k) zero = refl
blanks_behind [] (suc k) (suc n) = blanks_behind [] k n
blanks_behind (x ∷ ls) k zero = refl
blanks_behind (x ∷ ls) k (suc n) = blanks_behind ls k n

-- each task's line
pub kept_line : (ls : List Line) (n : ℕ) → line_at (packed ls).lines n ≡ line_at ls n
unfolding packed
kept_line ls n = blanks_behind ls (places - length ls) n

-- and all of them
pub kept_lines : (ls : List Line) → lines_in (packed ls) ≡ ls
unfolding packed
kept_lines ls = take-append_seam ls (replicate (places - length ls) no_line)

pub count_packed : (ls : List Line) → (packed ls).count ≡ length ls
unfolding packed
count_packed ls = refl

-- as many places as there are
pub packed_length : (ls : List Line) → length ls ≤ places → length (packed ls).lines ≡ places
unfolding packed
packed_length ls h = simp (length-append, length-replicate) (omega arith)
