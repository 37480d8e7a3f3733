-- `print::Page::kernel_call` meets its contract. Assumes nothing.
use Rattle.print.proofs.Texts.{as_text}
use Rattle.rules.specs.Print.{call_text}
use mathlib.Core.Path.{sym, ap}
use Rattle.print.proofs.Page.kernel_call.Goals as goal

pub returns-in-NoCall : goal.returns-in-NoCall
returns-in-NoCall c = as_text (sym (ap call_text c.in-NoCall.is)) c.byte.ensures

pub returns-in-ActivateTask : goal.returns-in-ActivateTask
returns-in-ActivateTask c = as_text (sym (ap call_text c.in-ActivateTask.is)) c.named.ensures

pub returns-in-ChainTask : goal.returns-in-ChainTask
returns-in-ChainTask c = as_text (sym (ap call_text c.in-ChainTask.is)) c.named-in-ChainTask.ensures

pub returns-in-TerminateTask : goal.returns-in-TerminateTask
returns-in-TerminateTask c = as_text (sym (ap call_text c.in-TerminateTask.is)) c.byte-in-TerminateTask.ensures
