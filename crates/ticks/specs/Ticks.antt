-- Document 01, "Ticks and jobs": what is computed of ticks and relative deadlines. Assumes nothing.
use Rattle.std.specs.Prelude.{ℕ, suc, ◌-◌, min, Bool, ltb}
use Rattle.rules.specs.declared.Tick.{Tick}
use Rattle.rules.specs.declared.Span.{Span}
use Rattle.rules.specs.Table.{greatest, plus}

-- the sum; past the greatest tick, the tick after that
unfoldable pub sum : Tick → Span → Tick
sum t d = record { 0 = min (plus t d).0 (suc greatest.0) }

-- above the greatest tick: 9 of a call, 23 of the running sum on tape
abbrev pub is_beyond : Tick → Bool
is_beyond due = ltb greatest.0 due.0

-- ending tick less activation tick, the activation being the deadline less the relative deadline
unfoldable pub response_by : Tick → Tick → Span → ℕ
response_by t due d = (plus t d).0 - due.0
