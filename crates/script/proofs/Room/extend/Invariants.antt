-- `script::Room::extend` meets its contract. Assumes nothing.
use Rattle.std.proofs.Common.{◌≡◌, ◌+◌, ◌++◌, min, take}
use Rattle.script.proofs.Room.extend.Given as goal

abbrev pub invariant-loop-b : goal.invariant-loop-b
invariant-loop-b g l = record {
  put : take l.self.len l.self.bytes ≡ take g.row.N (take l.initial.self.len l.initial.self.bytes ++ take l.b-index l.bytes);
  counted : l.self.len ≡ min (l.initial.self.len + l.b-index) g.row.N;
}
