-- `print::Page::late_tasks` meets its contract. Assumes nothing.
use borrow.Author.Rules.{rules}
use Prim.Native.Nat.{ℕ, min}
use mathlib.Core.Path.{◌≡◌, sym, ap, ◌∙◌}
use mathlib.Core.List.{List}
use lib.ListN.{length, take}
use Rattle.std.proofs.lemmas.List.{take_min}
use Rattle.rules.specs.Print.{tasks_text}
use Rattle.print.proofs.Texts.{then, as_text, no_tasks, tasks_split}
use Rattle.print.proofs.Page.late_tasks.Goals as goal

kept : (ts : List ℕ) (m n : ℕ) → length ts ≡ 32 → m ≡ min n 32 → take m ts ≡ take n ts
kept ts m n l e = ap (λ (k : ℕ). take k ts) (e ∙ ap (min n) (sym l)) ∙ take_min n ts

pub returns-in_default : goal.returns-in_default
returns-in_default c =
    let l = c.args.late in
    let m = c.min-count.result in
    let h : length l.tasks ≡ 32 = search rules in
    as_text (no_tasks (take m l.tasks) c.in_default.len_below ∙ ap tasks_text (kept l.tasks m l.count h c.min-count.ensures)) c.byte.ensures

pub returns : goal.returns
returns c =
    let l = c.args.late in
    let m = c.min-count.result in
    let h : length l.tasks ≡ 32 = search rules in
    as_text
    (tasks_split (take m l.tasks) c.in-len1-up.len_at_least ∙ ap tasks_text (kept l.tasks m l.count h c.min-count.ensures))
    (then c.number.ensures c.more_tasks.ensures)
