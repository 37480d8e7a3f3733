use lib.ListN.{take}
use Rattle.print.specs.Buffers.{Put}
use Rattle.print.proofs.Page.words.Given as goal

abbrev pub invariant-loop-b : goal.invariant-loop-b
invariant-loop-b l = Put l.initial.self.bytes l.initial.self.len (take l.b-index l.text) l.self.bytes l.next
