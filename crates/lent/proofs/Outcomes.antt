-- One outcome: any two that satisfy what the source of a public function ensures are equal, its lent buffer included. A field for each. Assumes nothing.
use mathlib.Core.Path.{◌≡◌, refl}
use Rattle.rules.specs.declared.Call.TheVariants.{Wait, Activate, Terminate, Chain}
use Rattle.rules.specs.Tape.{TableWrote}
use Rattle.rules.proofs.Outcome.{OneStated, OneStatedWith, OneWalked, OneWalkedWith, only}
use Rattle.scheduler.specs.State.{CheckGives, CallGives, why_of}
use Rattle.tape.specs.Tables.{given_lines}
use Rattle.lent.specs.contracts.check as check
use Rattle.lent.proofs.check.Reads as check_read
use Rattle.lent.specs.contracts.write_table as write_table
use Rattle.lent.proofs.write_table.Reads as write_table_read
use Rattle.lent.specs.contracts.tick as tick
use Rattle.lent.proofs.tick.Reads as tick_read
use Rattle.lent.specs.contracts.activate as activate
use Rattle.lent.proofs.activate.Reads as activate_read
use Rattle.lent.specs.contracts.terminate as terminate
use Rattle.lent.proofs.terminate.Reads as terminate_read
use Rattle.lent.specs.contracts.chain as chain
use Rattle.lent.proofs.chain.Reads as chain_read
use Rattle.lent.specs.contracts.call as call
use Rattle.lent.proofs.call.Reads as call_read
use Rattle.lent.specs.contracts.why as why
use Rattle.lent.proofs.why.Reads as why_read

one_check : OneStated check_read.Post
one_check = λ κs a r r' s s' p q. only p.0 q.0

one_write_table : OneStatedWith write_table_read.Post (λ κs s. s.1.0.now)
one_write_table = λ κs a r r' s s' p q. (only p.answer q.answer, only p.buffer q.buffer)

one_tick : OneStated tick_read.Post
one_tick = λ κs a r r' s s' p q. only p.0 q.0

one_activate : OneStated activate_read.Post
one_activate = λ κs a r r' s s' p q. only p.0 q.0

one_terminate : OneStated terminate_read.Post
one_terminate = λ κs a r r' s s' p q. only p.0 q.0

one_chain : OneStated chain_read.Post
one_chain = λ κs a r r' s s' p q. only p.0 q.0

one_call : OneStated call_read.Post
one_call = λ κs a r r' s s' p q. only p.0 q.0

one_why : OneStated why_read.Post
one_why = λ κs a r r' s s'. only

-- by its clauses, which are the promise that is named, and as it is read
pub record Outcomes : Type 2 where
  check : OneWalked check.ended (λ w. check.clauses w.𝓛 w.𝓜.mem w.𝓡.run) (λ κs a r s. CheckGives a.0 r) × OneStated check_read.Post
  write_table : OneWalkedWith write_table.ended (λ w. write_table.clauses w.𝓛 w.𝓜.mem w.𝓡.run) (λ κs a r s. TableWrote (given_lines a.0.lines a.0.count) a.1.0.now r s.1.0.now) (λ κs s. s.1.0.now) × OneStatedWith write_table_read.Post (λ κs s. s.1.0.now)
  tick : OneWalked tick.ended (λ w. tick.clauses w.𝓛 w.𝓜.mem w.𝓡.run) (λ κs a r s. CallGives a.0 (Wait a.1.0) r) × OneStated tick_read.Post
  activate : OneWalked activate.ended (λ w. activate.clauses w.𝓛 w.𝓜.mem w.𝓡.run) (λ κs a r s. CallGives a.0 (Activate a.1.0 a.1.1.0) r) × OneStated activate_read.Post
  terminate : OneWalked terminate.ended (λ w. terminate.clauses w.𝓛 w.𝓜.mem w.𝓡.run) (λ κs a r s. CallGives a.0 (Terminate a.1.0) r) × OneStated terminate_read.Post
  chain : OneWalked chain.ended (λ w. chain.clauses w.𝓛 w.𝓜.mem w.𝓡.run) (λ κs a r s. CallGives a.0 (Chain a.1.0 a.1.1.0) r) × OneStated chain_read.Post
  call : OneWalked call.ended (λ w. call.clauses w.𝓛 w.𝓜.mem w.𝓡.run) (λ κs a r s. CallGives a.0 a.1.0 r) × OneStated call_read.Post
  why : OneWalked why.ended (λ w. why.clauses w.𝓛 w.𝓜.mem w.𝓡.run) (λ κs a r s. r ≡ why_of a.0 a.1.0) × OneStated why_read.Post

pub the_outcomes : Outcomes
the_outcomes =
    record {
      check = ((λ w κs a g r s. refl, one_check), one_check);
      write_table = ((λ w κs a g r s. refl, one_write_table), one_write_table);
      tick = ((λ w κs a g r s. refl, one_tick), one_tick);
      activate = ((λ w κs a g r s. refl, one_activate), one_activate);
      terminate = ((λ w κs a g r s. refl, one_terminate), one_terminate);
      chain = ((λ w κs a g r s. refl, one_chain), one_chain);
      call = ((λ w κs a g r s. refl, one_call), one_call);
      why = ((λ w κs a g r s. refl, one_why), one_why);
    }
