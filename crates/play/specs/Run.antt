-- How far the lines of a text went. Assumes nothing.
use Rattle.std.specs.Prelude.{Option, Some, None}
use Rattle.scheduler.specs.State.{Handed}
use Rattle.play.specs.declared.Run.{Run}

-- where calls may be made, the check handed the state out
abbrev pub Kept : Option Run → Type 0
Kept None = Unit {0}
Kept (Some r) = Handed r.state
