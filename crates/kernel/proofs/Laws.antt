-- `better` by cases, and a turn and the end of `dispatch`'s loop. Assumes nothing.
use Prim.Native.Nat.{ℕ, min, ◌+◌, ◌≤◌, ◌<◌}
use mathlib.Core.Path.{◌≡◌, refl, sym, ap, ◌∙◌}
use mathlib.Core.Bool.{true, false}
use mathlib.Core.List.{List, ◌∷◌}
use native.Mathlib.Numerals.{add-one}
use lib.ListN.{length, take, drop, get_or, drop_of_length-le}
use lib.Seq.{drop-cons}
use Rattle.std.proofs.lemmas.List.{take_min}
use Rattle.rules.specs.declared.Phase.TheVariants.{Delayed, Released}
use Rattle.rules.specs.declared.Line.{Line}
use Rattle.rules.specs.declared.Job.{Job as Entry}
use Rattle.jobs.specs.declared.JobList.{JobList}
use Rattle.jobs.specs.Listed.{blank_job, view}
use Rattle.std.specs.Prelude.{Some}
use Rattle.kernel.specs.declared.Best.{Best}
use Rattle.kernel.specs.Dispatch.{priority_in, takes_over, better_of, best_from}

module _ (lines : List Line) (i : ℕ) (b : Best) where
  pub better_delayed : (x : Entry) → x.phase ≡ Delayed → b ≡ better_of lines i b x
  unfolding better_of
  better_delayed x h = rw h

  -- p is the priority of x
  pub better_taken : (x : Entry) (p : ℕ) → x.phase ≡ Released → p ≡ priority_in lines x → takes_over p b.top ≡ true
      → record { found = Some i; top = p } ≡ better_of lines i b x
  unfolding better_of
  better_taken x p h e k = rw (h, sym e, k)

  pub better_left : (x : Entry) (p : ℕ) → x.phase ≡ Released → p ≡ priority_in lines x → takes_over p b.top ≡ false → b ≡ better_of lines i b x
  unfolding better_of
  better_left x p h e k = rw (h, sym e, k)

  -- the job at i is the next one
  pub best_turn : (xs : List Entry) → i < length xs → best_from lines i b (drop i xs) ≡ best_from lines (i + 1) (better_of lines i b (get_or xs i blank_job)) (drop (i + 1) xs)
  unfolding best_from
  best_turn xs h =
      let e : drop i xs ≡ get_or xs i blank_job ∷ drop (i + 1) xs = drop-cons xs i blank_job h ∙ rw add-one refl in
      ap (best_from lines i b) e

  pub best_done : (xs : List Entry) → length xs ≤ i → best_from lines i b (drop i xs) ≡ b
  unfolding best_from
  best_done xs h = ap (best_from lines i b) (drop_of_length-le xs h)

-- past the last place there is nothing to view
pub view_least : (l : JobList) (k m : ℕ) → length l.jobs ≡ m → k ≡ min l.count m → take k l.jobs ≡ view l
view_least l k m e f = rw (f, ← e) (take_min l.count l.jobs)
