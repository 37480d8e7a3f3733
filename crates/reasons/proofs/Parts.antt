-- A task's line is made of its parts. Assumes nothing.
use Prim.Native.Nat.{ℕ}
use mathlib.Core.Path.{◌≡◌, refl, ap, ◌∙◌}
use mathlib.Core.List.{List, [], ◌∷◌, ◌++◌, append_assoc}
use Rattle.rules.specs.declared.Tick.{Tick}
use Rattle.rules.specs.declared.Reason.TheVariants.{NonePending, ItRuns, Earlier, ThereFirst}
use Rattle.std.specs.Prelude.{Result, Ok, Err}
use Rattle.rules.specs.declared.Reason.{Reason}
use Rattle.rules.specs.declared.CallRefusal.{CallRefusal}
use Rattle.rules.specs.Print.{ascii, decimal, spaced}
use Rattle.rules.specs.WhyPrint.{reason_words, why_words, why_text}
use Rattle.reasons.specs.Words.{waits_text, refused_text, named_text, refused_line}

pub none_words : ascii "has no pending job" ≡ spaced (reason_words NonePending)
unfolding spaced
none_words = refl

pub runs_words : ascii "is running" ≡ spaced (reason_words ItRuns)
unfolding spaced
runs_words = refl

pub earlier_words : (m : ℕ) (t : Tick) → waits_text m (ascii " is running with the earlier deadline ") t ≡ spaced (reason_words (Earlier m t))
unfolding spaced
earlier_words m t = refl

pub there_words : (m : ℕ) (t : Tick) → waits_text m (ascii " was there first and is running with the same deadline ") t ≡ spaced (reason_words (ThereFirst m t))
unfolding spaced
there_words m t = refl

-- any number's words
pub refused_words : (k : ℕ) → refused_text k ≡ spaced (ascii "is refused:" ∷ decimal k ∷ [])
unfolding spaced
refused_words k = refl

-- what stands in front of a line's words stands in front of the whole
pub in_front : (n : ℕ) (t : List ℕ) → named_text n ++ t ≡ ascii "task " ++ (decimal n ++ (32 ∷ t))
in_front n t = append_assoc (ascii "task ") (decimal n ++ (32 ∷ [])) t ∙ ap (λ (s : List ℕ). ascii "task " ++ s) (append_assoc (decimal n) (32 ∷ []) t)

-- the task, and then any number's words
pub numbered_words : (n k : ℕ) → ascii "task " ++ (decimal n ++ (32 ∷ refused_text k)) ≡ refused_line n k
unfolding spaced
numbered_words n k = refl

-- the task, and then an answer's words
pub line_words : (n : ℕ) (w : Result Reason CallRefusal) → ascii "task " ++ (decimal n ++ (32 ∷ spaced (why_words w))) ≡ why_text n w
unfolding why_text spaced
line_words n (Err k) = refl
line_words n (Ok NonePending) = refl
line_words n (Ok ItRuns) = refl
line_words n (Ok (Earlier m t)) = refl
line_words n (Ok (ThereFirst m t)) = refl
