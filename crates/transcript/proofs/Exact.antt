-- How a tape opens, exactly when. Assumes nothing.
use Prim.Native.Nat.{ℕ, ◌≤◌, ◌<◌}
use mathlib.Core.Path.{◌≡◌, refl, sym, ap, ◌∙◌, subst}
use mathlib.Core.Bool.{Bool, true, false, cond}
use mathlib.Core.List.{List}
use mathlib.Core.Logic.{◌⊎◌, inl, inr, ⊎_elim}
use native.Mathlib.Omega.{arith}
use lib.ListN.{length}
use lib.Dec.{eqb}
use borrow.Author.Tests.{lt-ltb, le-ltb, eqb-true, eqb-false, ne_eqb}
use Rattle.std.specs.Prelude.{Ok, Err}
use Rattle.rules.specs.declared.TapeRefusal.{TapeRefusal}
use Rattle.rules.specs.declared.Verdict.{Verdict}
use Rattle.rules.specs.declared.Taken.{Taken}
use Rattle.rules.specs.declared.Unopened.TheVariants.{BadTable}
use Rattle.rules.specs.Words.{places}
use Rattle.rules.specs.Table.{Table, size, fine, check}
use Rattle.rules.specs.Number.{Read, taken, bounded_at}
use Rattle.rules.specs.Tape.{greatest_byte, table_at}
use Rattle.rules.specs.Print.{Opened, longest, table_opened, count_above, opening}
use Rattle.rules.proofs.Checked.{keeps_found, found_keeps}
use Rattle.std.proofs.lemmas.Bool.{cases_lt}
use Rattle.number.proofs.Round.{bounded_value}
use Rattle.tape.specs.Claims.{NumberWithin}
use Rattle.tape.proofs.Tables.{table_counted}
use Rattle.transcript.specs.Claims.{OpensAs, too_long, count_above_lem, no_table, table_refused, table_accepted, OpensExact}

-- the number 0 is the check's answer of an accepted table
accepts : (T : Table) → (check T).number ≡ 0 → check T ≡ fine
accepts T z = found_keeps T (keeps_found T z)

number_0 : (T : Table) → check T ≡ fine → (check T).number ≡ 0
number_0 T a = ap (λ (v : Verdict). v.number) a

-- it has at most 32 lines
few_lines : (T : Table) → check T ≡ fine → size T ≤ 32
few_lines T a = (keeps_found T (number_0 T a)).passes.counted.1

-- a number that is read is read in one way
none_read : {A : Type 0} (r : TapeRefusal) (k p : ℕ) → Err r ≡ taken k p → A
none_read r k p e = let z : ◌≡◌ {A = ℕ} 0 1 = cc in absurd (omega arith)

one_read : (t : Taken ℕ) (k p : ℕ) → Ok t ≡ taken k p → t.value ≡ k
one_read t k p e = let same : ◌≡◌ {A = Taken ℕ} t (record { value = k; next = p }) = cc in ap (λ (x : Taken ℕ). x.value) same

module _ (tape : List ℕ) where
  -- the count as the opening reads it
  abbrev count_read : Read ℕ
  count_read = bounded_at greatest_byte tape 0

  within_is : (k p : ℕ) → NumberWithin tape 0 255 k p → count_read ≡ taken k p
  unfolding bounded_at
  within_is k p w = rw (w.read, le-ltb greatest_byte k w.within)

  is_within : (k p : ℕ) → count_read ≡ taken k p → NumberWithin tape 0 255 k p
  unfolding bounded_at
  is_within k p e = let x = bounded_value greatest_byte _ k p e in record { read = x.0; within = x.1 }

  -- the count is above 32, or none that is read is
  abbrev Above : Type 0
  Above = (count_above count_read ≡ true) × (k : ℕ) × (p : ℕ) × NumberWithin tape 0 255 k p × (32 < k)

  abbrev Few : Type 0
  Few = (count_above count_read ≡ false) × ((k p : ℕ) → NumberWithin tape 0 255 k p → k ≤ 32)

  above_or_few : Above ⊎ Few
  above_or_few = go count_read refl
    where
      go : (x : Read ℕ) → count_read ≡ x → Above ⊎ Few
      go (Err r) e = inr (rw e, λ k p w. none_read r k p (sym e ∙ within_is k p w))
      go (Ok t) e =
          ⊎_elim
          (λ (h : 32 < t.value). inl (rw (e, lt-ltb places t.value h), t.value, t.next, is_within t.value t.next e, h))
          (λ (h : t.value ≤ 32). inr (rw (e, le-ltb places t.value h), λ k p w. let same : t.value ≡ k = one_read t k p (sym e ∙ within_is k p w) in omega arith))
          (cases_lt 32 t.value)

  -- a table that was read and has at most 32 lines
  few_counted : (T : Table) (p : ℕ) → table_at tape ≡ taken T p → size T ≤ 32 → count_above count_read ≡ false
  few_counted T p e h = let c = table_counted tape T p e in rw (within_is (size T) c.0 c.1, le-ltb places (size T) h)

  -- what an accepted table opens
  pub opens_with : (T : Table) (p : ℕ) → length tape ≤ longest → table_at tape ≡ taken T p → check T ≡ fine
      → opening tape ≡ Ok (record { value = T; next = p })
  unfolding opening
  opens_with T p l e a = rw (le-ltb longest (length tape) l, few_counted T p e (few_lines T a), e, number_0 T a)

  -- ---- an opening has its row

  row_of : OpensAs tape (opening tape)
  unfolding opening
  row_of =
      ⊎_elim
      (λ (h : 65536 < length tape). rw (lt-ltb longest (length tape) h) (too_long h))
      (λ (h : length tape ≤ 65536).
      ⊎_elim
      (λ (c : Above). rw (le-ltb longest (length tape) h, c.0) (count_above_lem c.1 c.2 h c.3 c.4))
      (λ (c : Few). rw (le-ltb longest (length tape) h, c.0) (of_read h c.1 (table_at tape) refl))
      above_or_few)
      (cases_lt 65536 (length tape))
    where
      of_check : length tape ≤ 65536 → (T : Table) (p : ℕ) → table_at tape ≡ taken T p → size T ≤ 32 → (u : Bool) → eqb (check T).number 0 ≡ u
          → OpensAs tape (cond u (Ok (record { value = T; next = p })) (Err (BadTable (check T))))
      of_check h T p e f true z = table_accepted T p h e (accepts T (eqb-true _ _ z))
      of_check h T p e f false z = table_refused T p h e f (λ a. eqb-false _ _ z (number_0 T a))

      of_read : length tape ≤ 65536 → ((k p : ℕ) → NumberWithin tape 0 255 k p → k ≤ 32) → (x : Read Table) → table_at tape ≡ x → OpensAs tape (table_opened x)
      of_read h f (Err r) e = no_table r h f e
      of_read h f (Ok t) e = let c = table_counted tape t.value t.next e in of_check h t.value t.next e (f (size t.value) c.0 c.1) (eqb (check t.value).number 0) refl

  -- ---- a row tells the opening

  row_is : (a : Opened) → OpensAs tape a → opening tape ≡ a
  unfolding opening
  row_is a (too_long h) = rw (lt-ltb longest (length tape) h)
  row_is a (count_above_lem k p l w h) = rw (le-ltb longest (length tape) l, within_is k p w, lt-ltb places k h)
  row_is a (no_table r l f e) =
      ⊎_elim
      (λ (c : Above). absurd (omega (arith, c.4, f c.1 c.2 c.3)))
      (λ (c : Few). rw (le-ltb longest (length tape) l, c.0, e))
      above_or_few
  row_is a (table_refused T p l e f n) =
      rw (le-ltb longest (length tape) l, few_counted T p e f, e, ne_eqb (check T).number 0 (λ z. n (accepts T z)))
  row_is a (table_accepted T p l e h) = opens_with T p l e h

pub opens_exact : OpensExact
opens_exact tape a = (λ e. subst (OpensAs tape) e (row_of tape), row_is tape a)
