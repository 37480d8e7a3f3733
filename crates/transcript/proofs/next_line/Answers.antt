-- `transcript::next_line` meets its contract. Assumes nothing.
use mathlib.Core.Path.{◌≡◌, sym, ap, ◌∙◌}
use borrow.Author.Rules.{rules}
use Rattle.std.specs.Prelude.{Option, None, Ok}
use Rattle.rules.specs.declared.Taken.{Taken}
use Rattle.rules.specs.declared.Call.{Call}
use Rattle.print.proofs.Texts.{as_text}
use Rattle.transcript.specs.Pieces.{read_in, halt_text, line_text, run_after}
use Rattle.transcript.proofs.Lines.{stops}
use Rattle.transcript.proofs.next_line.Goals as goal
use Rattle.transcript.proofs.next_line.Goals.{in_default-via-in-Ok+in_default, in_default-via-in_default}

pub returns-in_default : goal.returns-in_default
returns-in_default c =
    let x = c.args.run in
    let k = c.read_record-read in
    let e : k.result ≡ read_in c.args.tape.now x = k.ensures in
    let none : run_after x k.result ≡ None =
    elim c.in_default.branch [
      | in_default-via-in-Ok+in_default w ↦ let h : w.in_default.field-0 ≡ None = search rules in ap (run_after x) w.in_default.is ∙ ap (λ (r : Option (Taken Call)). run_after x (Ok r)) h
      | in_default-via-in_default w ↦ ap (run_after x) w.in_default.is
    ]
    in
    record {
      line = as_text (ap halt_text c.halt_of.ensures ∙ stops x k.result none ∙ ap (line_text x) e) c.halt_line.ensures;
      run = sym none ∙ ap (run_after x) e;
      handed = tt;
    }
