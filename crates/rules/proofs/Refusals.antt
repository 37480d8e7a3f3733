-- Each number of a call is given exactly on its row's condition, where no earlier row applies. Assumes nothing.
use Prim.Native.Nat.{ℕ, ◌<◌, ◌≤◌}
use mathlib.Core.Path.{◌≡◌, refl, sym}
use mathlib.Core.Logic.{◌↔◌, ◌⊎◌, inl, inr}
use mathlib.Core.Bool.{Bool, true, false, true≢false}
use mathlib.Core.List.{List, [], ◌∷◌}
use mathlib.Core.Option.{Option, some, none}
use lib.ListN.{length}
use lib.Dec.{ltb, leb}
use native.Mathlib.Omega.{arith}
use borrow.Author.Tests.{ltb-true, ltb-false, leb-true, leb-false}
use Rattle.rules.specs.declared.Tick.{Tick}
use Rattle.rules.specs.declared.Call.{Call}
use Rattle.rules.specs.declared.Call.TheVariants.{Wait, Activate, Terminate, Chain}
use Rattle.rules.specs.Words.{◌if◌else◌, count}
use Rattle.rules.specs.Table.{Table, size, limit_of, deadline_of, plus, greatest}
use Rattle.rules.specs.Calls.{View, refusal, bad_tick, is_idle}
use Rattle.rules.specs.Statement.{Row, ◌when◌, rows, Exact, BadTick, NothingRuns, RefusalsExact, PlainRefusalsExact}
use Rattle.rules.specs.Layer.{viewed}
use Rattle.rules.specs.Plain.{plain_viewed}
use Rattle.rules.proofs.Bools.{or_true_one, or_false_both, absurd_bool}

-- ---- rows with tests that decide them

record Tested : Type 1 where
  number : ℕ
  test : Bool
  condition : Type 0
  yes : test ≡ true → condition
  no : test ≡ false → condition → ⊥

abbrev rows_of : List Tested → List Row
rows_of [] = []
rows_of (r ∷ rs) = r.number when r.condition ∷ rows_of rs

-- the first row whose test passes
abbrev number_of : List Tested → ℕ
number_of [] = 0
number_of (r ∷ rs) = r.number if r.test else number_of rs

-- k is not 0, and the number of none of them
abbrev pub Apart : ℕ → List Row → Type 0
Apart k [] = k ≡ 0 → ⊥
Apart k (r ∷ rs) = (k ≡ r.number → ⊥) × Apart k rs

abbrev Distinct : List Row → Type 0
Distinct [] = Unit {0}
Distinct (r ∷ rs) = Apart r.number rs × Distinct rs

-- after a row that applies, none is given
after_one : (rs : List Row) (u : Type 0) (k : ℕ) → (u → ⊥) → Apart k rs → Exact rs u k
after_one [] u k n a = (λ e. absurd (a e), λ h. absurd (n h))
after_one (r ∷ rs) u k n a = ((λ e. absurd (a.0 e), λ h. absurd (n h.0)), after_one rs (u × (r.condition → ⊥)) k (λ h. n h.0) a.1)

-- a number that is none of theirs is not given
other_number : (rs : List Tested) (k : ℕ) → Apart k (rows_of rs) → k ≡ number_of rs → ⊥
unfolding ◌if◌else◌
other_number [] k a e = a e
other_number (r ∷ rs) k a e = go r.test e (other_number rs k a.1)
  where
    go : (t : Bool) → k ≡ (r.number if t else number_of rs) → (k ≡ number_of rs → ⊥) → ⊥
    go true e ih = a.0 e
    go false e ih = ih e

exact_of : (rs : List Tested) (u : Type 0) → u → Distinct (rows_of rs) → Exact (rows_of rs) u (number_of rs)
unfolding ◌if◌else◌
exact_of [] u h d = (λ e. h, λ g. refl)
exact_of (r ∷ rs) u h d = go r.test refl (λ n. exact_of rs (u × (r.condition → ⊥)) (h, n) d.1)
  where
    go : (t : Bool) → r.test ≡ t → ((r.condition → ⊥) → Exact (rows_of rs) (u × (r.condition → ⊥)) (number_of rs))
        → Exact (rows_of (r ∷ rs)) u (r.number if t else number_of rs)
    go true e ih = ((λ z. (h, r.yes e), λ g. refl), after_one (rows_of rs) (u × (r.condition → ⊥)) r.number (λ g. g.1 (r.yes e)) d.0)
    go false e ih = ((λ z. absurd (other_number rs r.number d.0 (sym z)), λ g. absurd (r.no e g.1)), ih (r.no e))

-- ---- the conditions

on_tick : Tick → Tick → Tested
on_tick last t =
    record {
      number = 8;
      test = bad_tick last t;
      condition = BadTick last t;
      yes = λ e. yes (or_true_one (ltb t.0 last.0) (ltb greatest.0 t.0) e);
      no = λ e. no (or_false_both (ltb t.0 last.0) (ltb greatest.0 t.0) e);
    }
  where
    yes : (ltb t.0 last.0 ≡ true) ⊎ (ltb greatest.0 t.0 ≡ true) → BadTick last t
    yes (inl e) = inl (ltb-true t.0 last.0 e)
    yes (inr e) = inr (ltb-true greatest.0 t.0 e)

    no : (ltb t.0 last.0 ≡ false) × (ltb greatest.0 t.0 ≡ false) → BadTick last t → ⊥
    no e (inl h) = let g = ltb-false t.0 last.0 e.0 in omega arith
    no e (inr h) = let g = ltb-false greatest.0 t.0 e.1 in omega arith

on_idle : View → Tested
on_idle v = record { number = 2; test = is_idle v.runs; condition = NothingRuns v.runs; yes = yes v.runs; no = no v.runs }
  where
    yes : (r : Option ℕ) → is_idle r ≡ true → r ≡ none
    yes none e = refl
    yes (some n) e = absurd_bool (sym e)

    no : (r : Option ℕ) → is_idle r ≡ false → r ≡ none → ⊥
    no none e h = true≢false e
    no (some n) e h = let z : ◌≡◌ {A = ℕ} 0 1 = cc in omega arith

-- a row on an order of two numbers
at_or_above : ℕ → ℕ → ℕ → Tested
at_or_above k a b =
    record { number = k; test = leb a b; condition = a ≤ b; yes = leb-true a b; no = λ e h. let g = leb-false a b e in omega arith }

above : ℕ → ℕ → ℕ → Tested
above k a b = record { number = k; test = ltb a b; condition = a < b; yes = ltb-true a b; no = λ e h. let g = ltb-false a b e in omega arith }

-- ---- the rows of each kind of call

tested : Table → View → Call → List Tested
tested T v (Wait t) = on_tick v.last t ∷ []
tested T v (Activate t n) =
    on_tick v.last t
    ∷ at_or_above 3 (size T) n
    ∷ at_or_above 4 (limit_of T n) (count n v.pending)
    ∷ at_or_above 10 32 (length v.pending)
    ∷ above 9 greatest.0 (plus t (deadline_of T n)).0
    ∷ []
tested T v (Terminate t) = on_tick v.last t ∷ on_idle v ∷ []
tested T v (Chain t n) =
    on_tick v.last t
    ∷ on_idle v
    ∷ at_or_above 3 (size T) n
    ∷ at_or_above 4 (limit_of T n) (count n v.others)
    ∷ above 9 greatest.0 (plus t (deadline_of T n)).0
    ∷ []

pub view_exact : (T : Table) (v : View) (e : Call) → Exact (rows T v e) (Unit {0}) (refusal T v e)
unfolding refusal tested on_tick on_idle at_or_above above
view_exact T v (Wait t) = exact_of (tested T v (Wait t)) (Unit {0}) tt (omega arith)
view_exact T v (Activate t n) = exact_of (tested T v (Activate t n)) (Unit {0}) tt (omega arith)
view_exact T v (Terminate t) = exact_of (tested T v (Terminate t)) (Unit {0}) tt (omega arith)
view_exact T v (Chain t n) = exact_of (tested T v (Chain t n)) (Unit {0}) tt (omega arith)

-- of the layer and of the plain scheduler: what each looks at
pub refusals_exact : RefusalsExact
refusals_exact T b e = view_exact T (viewed T b) e

pub plain_refusals_exact : PlainRefusalsExact
plain_refusals_exact T p e = view_exact T (plain_viewed T p) e

-- a number that is not in the rows of a call is never its result
pub not_given : (T : Table) (v : View) (e : Call) (k : ℕ) → Apart k (rows T v e) → k ≡ refusal T v e → ⊥
unfolding refusal tested on_tick on_idle at_or_above above
not_given T v (Wait t) k a z = other_number (tested T v (Wait t)) k a z
not_given T v (Activate t n) k a z = other_number (tested T v (Activate t n)) k a z
not_given T v (Terminate t) k a z = other_number (tested T v (Terminate t)) k a z
not_given T v (Chain t n) k a z = other_number (tested T v (Chain t n)) k a z

-- ---- 0 is given exactly when no row applies

abbrev pub None : List Row → Type 0 → Type 0
None [] u = u
None (r ∷ rs) u = None rs (u × (r.condition → ⊥))

pub at_zero : (rs : List Row) (u : Type 0) (k : ℕ) → Exact rs u k → (k ≡ 0) ↔ (None rs u)
at_zero [] u k h = h
at_zero (r ∷ rs) u k h = at_zero rs (u × (r.condition → ⊥)) k h.1
