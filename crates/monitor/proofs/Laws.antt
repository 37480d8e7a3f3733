-- What a turn of the loop over newly late jobs does to what is left to count. Assumes nothing.
use Prim.Native.Nat.{ℕ, min, ◌+◌, ◌<◌, ◌≤◌}
use mathlib.Core.Path.{◌≡◌, sym}
use mathlib.Core.List.{List}
use lib.ListN.{length, take, drop, get_or, drop_of_length-le}
use lib.Seq.{drop-cons, set_out}
use Rattle.std.proofs.lemmas.List.{take_min}
use native.Mathlib.Numerals.{add-one}
use Rattle.rules.specs.declared.Tally.{Tally}
use Rattle.rules.specs.Counts.{no_tally, late_more, on_task, with_late}

-- the job at i is counted
pub late_turn : (ts : List ℕ) (c : List Tally) (i : ℕ) → i < length ts → with_late (drop (i + 1) ts) (on_task (get_or ts i 0) late_more c) ≡ with_late (drop i ts) c
late_turn ts c i h = rw (add-one, drop-cons ts i 0 h)

-- none is left past the last
pub late_end : (ts : List ℕ) (c : List Tally) (i : ℕ) → length ts ≤ i → with_late (drop i ts) c ≡ c
late_end ts c i h = rw (drop_of_length-le ts h)

-- the places hold no more than the list has
pub take_least : (ts : List ℕ) (n k m : ℕ) → length ts ≡ m → k ≡ min n m → take k ts ≡ take n ts
take_least ts n k m e f = rw (f, ← e) (take_min n ts)

-- a task without a place changes no tally
pub on_none : (n : ℕ) (f : Tally → Tally) (c : List Tally) → length c ≤ n → c ≡ on_task n f c
on_none n f c h = sym (set_out c n (f (get_or c n no_tally)) h)
