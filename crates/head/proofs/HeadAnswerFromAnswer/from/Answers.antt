-- What a call returns is told to C by its numbers. Assumes nothing.
use Rattle.head.specs.Placed.{answer_for}
use Rattle.head.proofs.HeadAnswerFromAnswer.from.Goals as goal

pub returns : goal.returns
unfolding answer_for
returns c =
    rw (c.is_some.ensures, c.task_in.ensures, c.due_in.ensures, c.number_of.ensures, c.called_of.ensures)
