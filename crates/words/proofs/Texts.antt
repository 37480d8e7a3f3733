-- A bad tape's line, as `writeln!` writes it. Assumes nothing.
use Prim.Native.Nat.{ℕ, ◌^◌, ◌<◌}
use mathlib.Core.Path.{◌≡◌, sym, ap}
use mathlib.Core.List.{List, [], ◌∷◌, ◌++◌, append_assoc}
use native.Mathlib.Omega.{arith}
use Rattle.std.proofs.Common.{rules}
use Rattle.std.proofs.lemmas.Fmt.{AppendsLastDigit, decimal_from_appends, length-decimal-le}
use Rattle.std.specs.Fmt as std
use Rattle.rules.specs.Print.{decimal_in, decimal, spaced, ended, tape_text}

last_digit : AppendsLastDigit decimal_in
unfolding decimal_in
last_digit = search rules

-- the digits of `{}` are those of the print
same_digits : (n : ℕ) → n < 2 ^ 64 → std.decimal n ≡ decimal n
same_digits n h = sym (decimal_from_appends decimal_in last_digit 20 n h (length-decimal-le 20 n (omega arith) (omega arith) h))

pub halt_text : (n p : ℕ) → n < 2 ^ 64 → p < 2 ^ 64
    → 116 ∷ 97 ∷ 112 ∷ 101 ∷ 32 ∷ (std.decimal n ++ 32 ∷ 97 ∷ 116 ∷ 32 ∷ (std.decimal p ++ 10 ∷ [])) ≡ ended (tape_text n p)
unfolding tape_text spaced
halt_text n p h k =
    rw (same_digits n h, same_digits p k)
    (ap (λ (t : List ℕ). 116 ∷ 97 ∷ 112 ∷ 101 ∷ 32 ∷ t) (sym (append_assoc (decimal n) (32 ∷ 97 ∷ 116 ∷ 32 ∷ decimal p) (10 ∷ []))))
