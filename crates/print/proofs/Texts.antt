-- Laws of texts put into a line. Assumes nothing.
use Prim.Native.Nat.{ℕ, zero, suc, ◌+◌, ◌-◌, ◌/◌, ◌%◌, ◌^◌, ◌≤◌, ◌<◌}
use mathlib.Core.Path.{◌≡◌, refl, sym, ap, ◌∙◌, subst}
use mathlib.Core.Bool.{Bool, true, false}
use mathlib.Core.List.{List, [], ◌∷◌, ◌++◌, append_assoc, append-nil}
use lib.ListN.{length, take, drop, set, get_or, length-take, length-append}
use lib.Seq.{sets, length-sets, take_all, take-suc}
use lib.Dec.{leb, lit<}
use native.Mathlib.Omega.{arith}
use native.Mathlib.Numerals.{add-one}
use native.Mathlib.Nat.{sub-zero, zero-sub, suc-sub-suc, mod-lt, le_trans, le_of_lt, lt_irrefl, lt_of_lt_of_le, not-suc-le-zero, pow-suc, pow-le-pow_right, div-lt_iff_lt-mul, le-div_iff_mul-le}
use borrow.Author.Tests.{lt-ltb, le-ltb, leb-true, leb-false}
use Rattle.io.specs.Digits.{last_digits, hex_digit_ascii, IsDigitCount}
use Rattle.rules.specs.Print.{decimal_in, decimal, comma_tasks, tasks_text}
use Rattle.rules.proofs.Lists.{sets_append}
use Rattle.rules.proofs.Outcome.{only}
use Rattle.print.specs.declared.Page.{Page}
use Rattle.print.specs.Buffers.{fits_at, Put}

-- ---- one text comma_tasks another

cut_both : (m : ℕ) (p q : List ℕ) → take m (p ++ q) ≡ take m p ++ take (m - length p) q
cut_both zero p q = rw zero-sub
cut_both (suc m) [] q = rw sub-zero
cut_both (suc m) (x ∷ p) q = rw suc-sub-suc (ap (λ (r : List ℕ). x ∷ r) (cut_both m p q))

-- one text, and then another
pub then : {a b c : List ℕ} {i j k : ℕ} {p q : List ℕ} → Put a i p b j → Put b j q c k → Put a i (p ++ q) c k
then {a} {b} {c} {i} {j} {k} {p} {q} x y =
    let u = fits_at a i p in
    let left : length b - j ≡ length a - i - length p = rw (x.is, x.place, length-sets a i u) (omega (arith, length-take (length a - i) p)) in
    let both : fits_at a i (p ++ q) ≡ u ++ fits_at b j q = cut_both (length a - i) p q ∙ ap (λ (m : ℕ). u ++ take m q) (sym left) in
    record {
      is =
          y.is
          ∙ ap (λ (l : List ℕ). sets l j (fits_at b j q)) x.is
          ∙ ap (λ (n : ℕ). sets (sets a i u) n (fits_at b j q)) x.place
          ∙ sets_append a i u (fits_at b j q)
          ∙ ap (sets a i) (sym both);
      place = rw both (omega (arith, y.place, x.place, length-append u (fits_at b j q)));
    }

-- no text
pub none_put : (out : List ℕ) (at : ℕ) → Put out at [] out at
none_put out at = let nothing : fits_at out at [] ≡ [] = take_all (length out - at) [] (omega arith) in record { is = rw nothing; place = rw nothing (omega arith) }

-- a byte where there is room
pub byte_put : (out : List ℕ) (at b : ℕ) → at < length out → Put out at (b ∷ []) (set out at b) (at + 1)
byte_put out at b l =
    let fits : fits_at out at (b ∷ []) ≡ b ∷ [] = take_all (length out - at) (b ∷ []) (omega arith) in
    record { is = rw fits; place = rw fits }

-- and where there is none
pub byte_left : (out : List ℕ) (at b : ℕ) → length out ≤ at → Put out at (b ∷ []) out at
byte_left out at b l =
    let full : length out - at ≡ 0 = omega arith in
    record { is = rw full; place = rw full (omega arith) }

-- the same text, said in another way
pub as_text : {a b : List ℕ} {i j : ℕ} {p q : List ℕ} → p ≡ q → Put a i p b j → Put a i q b j
as_text {a} {b} {i} {j} {p} {q} e x = subst (λ (t : List ℕ). Put a i t b j) e x

-- one byte more of a text
pub put_more : {a b c : List ℕ} {i j k : ℕ} (text : List ℕ) (n : ℕ)
    → n < length text
    → Put a i (take n text) b j
    → Put b j (get_or text n 0 ∷ []) c k
    → Put a i (take (n + 1) text) c k
put_more text n l x y = as_text (rw (add-one, take-suc text n 0 l) refl) (then x y)

-- all of a text
pub put_all : {a b : List ℕ} {i j : ℕ} (text : List ℕ) (n : ℕ) → length text ≤ n → Put a i (take n text) b j → Put a i text b j
put_all text n l x = as_text (take_all n text l) x

-- a text put on a page leaves one page
pub one_page : {old : List ℕ} {at : ℕ} {t : List ℕ} (p q : Page) → Put old at t p.bytes p.len → Put old at t q.bytes q.len → p ≡ q
one_page p q x y = λ i. record { bytes = only x.is y.is i; len = only x.place y.place i }

-- ---- numbers

digit : (n : ℕ) → hex_digit_ascii (n % 10) ≡ 48 + n % 10
digit n = rw (lt-ltb (n % 10) 10 (mod-lt n (omega arith)))

pub decimal_digits : (k f n : ℕ) → k ≤ f → n < 10 ^ suc k → (zero < k → 10 ^ k ≤ n) → last_digits 10 (suc k) n ≡ decimal_in (suc f) n
unfolding decimal_in
decimal_digits zero f n h l g = rw (lt-ltb n 10 l, digit)
decimal_digits (suc k) zero n h l g = absurd (not-suc-le-zero h)
decimal_digits (suc k) (suc f) n h l g =
    let big : 10 ≤ n = le_trans (pow-le-pow_right {n = 10} (omega arith) {i = 1} {j = suc k} (omega arith)) (g (omega arith)) in
    let small : n / 10 < 10 ^ suc k = (div-lt_iff_lt-mul {k = 10} (omega arith)).1 (subst (λ (m : ℕ). n < m) (pow-suc 10 (suc k)) l) in
    let least : zero < k → 10 ^ k ≤ n / 10 = λ z. (le-div_iff_mul-le {k = 10} (omega arith)).1 (subst (λ (m : ℕ). m ≤ n) (pow-suc 10 k) (g (omega arith))) in
    rw (le-ltb n 10 big, digit n)
    (ap (λ (s : List ℕ). s ++ ((48 + n % 10) ∷ [])) (decimal_digits k f (n / 10) (omega arith) small least))

few_enough : (k n : ℕ) (b : Bool) → leb k 19 ≡ b → n < 18446744073709551616 → (zero < k → 10 ^ k ≤ n) → k ≤ 19
few_enough k n true e h g = leb-true k 19 e
few_enough k n false e h g =
    let big : 10 ^ 20 ≤ 10 ^ k = pow-le-pow_right {n = 10} (omega arith) {i = 20} {j = k} (omega (arith, leb-false k 19 e)) in
    absurd (lt_irrefl n (lt_of_lt_of_le h (le_trans (le_of_lt (lit< tt)) (le_trans big (g (omega (arith, leb-false k 19 e)))))))

pub decimal_of : (n k : ℕ) → n < 18446744073709551616 → IsDigitCount 10 1 n k → last_digits 10 k n ≡ decimal n
decimal_of n zero h f = absurd (not-suc-le-zero f.0)
decimal_of n (suc k) h f =
    let least : zero < k → 10 ^ k ≤ n = λ z. subst (λ (m : ℕ). 10 ^ m ≤ n) (omega arith) (f.2 (omega arith)) in
    decimal_digits k 19 n (few_enough k n (leb k 19) refl h least) f.1 least

-- ---- words with spaces and commas between them

pub pair_spaced : (u v w : List ℕ) → (u ++ (32 ∷ v)) ++ (32 ∷ w) ≡ u ++ (32 ∷ (v ++ (32 ∷ w)))
pair_spaced u v w = append_assoc u (32 ∷ v) (32 ∷ w)

pub pairs_spaced : (t u v w y : List ℕ)
    → (t ++ (32 ∷ u)) ++ (32 ∷ ((v ++ (32 ∷ w)) ++ (32 ∷ y))) ≡ t ++ (32 ∷ (u ++ (32 ∷ (v ++ (32 ∷ (w ++ (32 ∷ y)))))))
pairs_spaced t u v w y =
    pair_spaced t u ((v ++ (32 ∷ w)) ++ (32 ∷ y)) ∙ ap (λ (s : List ℕ). t ++ (32 ∷ (u ++ (32 ∷ s)))) (pair_spaced v w y)

pub no_tasks : (ts : List ℕ) → length ts < 1 → 45 ∷ [] ≡ tasks_text ts
unfolding tasks_text
no_tasks [] l = refl
no_tasks (t ∷ ts) l = absurd (omega arith)

pub tasks_split : (ts : List ℕ) → 1 ≤ length ts → decimal (get_or ts 0 0) ++ comma_tasks (take (length ts - 1) (drop 1 ts)) ≡ tasks_text ts
unfolding tasks_text
tasks_split [] l = absurd (not-suc-le-zero l)
tasks_split (t ∷ ts) l = ap (λ (s : List ℕ). decimal t ++ comma_tasks s) (take_all (suc (length ts) - 1) ts (omega arith))

last_task : (ts : List ℕ) (t : ℕ) → comma_tasks ts ++ (44 ∷ decimal t) ≡ comma_tasks (ts ++ (t ∷ []))
unfolding comma_tasks
last_task [] t = sym (append-nil (44 ∷ decimal t))
last_task (x ∷ ts) t = append_assoc (44 ∷ decimal x) (comma_tasks ts) (44 ∷ decimal t) ∙ ap (λ (s : List ℕ). (44 ∷ decimal x) ++ s) (last_task ts t)

-- one task more
pub more_tasks : (ts : List ℕ) (i : ℕ) → i < length ts → comma_tasks (take i ts) ++ (44 ∷ decimal (get_or ts i 0)) ≡ comma_tasks (take (i + 1) ts)
more_tasks ts i l = last_task (take i ts) (get_or ts i 0) ∙ ap comma_tasks (sym (rw add-one (take-suc ts i 0 l)))
