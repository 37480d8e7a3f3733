-- One outcome: any two that satisfy what the source of a public function ensures are equal, its lent state or buffer included. A field for each. Assumes nothing.
use mathlib.Core.Path.{◌≡◌, refl}
use Rattle.rules.specs.declared.Call.TheVariants.{Wait, Activate, Terminate, Chain}
use Rattle.rules.specs.Tape.{TableWrote}
use Rattle.rules.proofs.Outcome.{OneStated, OneStatedWith, OneWalked, OneWalkedWith, only}
use Rattle.scheduler.specs.State.{why_of}
use Rattle.board.specs.Lent.{LinesChecked, Left}
use Rattle.board.proofs.Claims.{the_claims}
use Rattle.board.specs.contracts.check as check
use Rattle.board.proofs.check.Reads as check_read
use Rattle.board.specs.contracts.tick as tick
use Rattle.board.proofs.tick.Reads as tick_read
use Rattle.board.specs.contracts.activate as activate
use Rattle.board.proofs.activate.Reads as activate_read
use Rattle.board.specs.contracts.terminate as terminate
use Rattle.board.proofs.terminate.Reads as terminate_read
use Rattle.board.specs.contracts.chain as chain
use Rattle.board.proofs.chain.Reads as chain_read
use Rattle.board.specs.contracts.why as why
use Rattle.board.proofs.why.Reads as why_read
use Rattle.board.specs.contracts.write_table as write_table
use Rattle.board.proofs.write_table.Reads as write_table_read

one_check : OneStated check_read.Post
one_check = λ κs a r r' s s'. the_claims.one_checked a.0.now r r'

one_tick : OneStatedWith tick_read.Post (λ κs s. s.0.now)
one_tick = λ κs a r r' s s'. the_claims.one_left a.0.now (Wait a.1.0) r r' s.0.now s'.0.now

one_activate : OneStatedWith activate_read.Post (λ κs s. s.0.now)
one_activate = λ κs a r r' s s'. the_claims.one_left a.0.now (Activate a.1.0 a.1.1.0) r r' s.0.now s'.0.now

one_terminate : OneStatedWith terminate_read.Post (λ κs s. s.0.now)
one_terminate = λ κs a r r' s s'. the_claims.one_left a.0.now (Terminate a.1.0) r r' s.0.now s'.0.now

one_chain : OneStatedWith chain_read.Post (λ κs s. s.0.now)
one_chain = λ κs a r r' s s'. the_claims.one_left a.0.now (Chain a.1.0 a.1.1.0) r r' s.0.now s'.0.now

one_why : OneStated why_read.Post
one_why = λ κs a r r' s s'. only

one_write_table : OneStatedWith write_table_read.Post (λ κs s. s.1.0.now)
one_write_table = λ κs a r r' s s' p q. (only p.answer q.answer, only p.buffer q.buffer)

-- by its clauses, which are the promise that is named, and as it is read
pub record Outcomes : Type 2 where
  check : OneWalked check.ended (λ w. check.clauses w.𝓛 w.𝓜.mem w.𝓡.run) (λ κs a r s. LinesChecked a.0.now r) × OneStated check_read.Post
  tick : OneWalkedWith tick.ended (λ w. tick.clauses w.𝓛 w.𝓜.mem w.𝓡.run) (λ κs a r s. Left a.0.now (Wait a.1.0) r s.0.now) (λ κs s. s.0.now) × OneStatedWith tick_read.Post (λ κs s. s.0.now)
  activate : OneWalkedWith activate.ended (λ w. activate.clauses w.𝓛 w.𝓜.mem w.𝓡.run) (λ κs a r s. Left a.0.now (Activate a.1.0 a.1.1.0) r s.0.now) (λ κs s. s.0.now) × OneStatedWith activate_read.Post (λ κs s. s.0.now)
  terminate : OneWalkedWith terminate.ended (λ w. terminate.clauses w.𝓛 w.𝓜.mem w.𝓡.run) (λ κs a r s. Left a.0.now (Terminate a.1.0) r s.0.now) (λ κs s. s.0.now) × OneStatedWith terminate_read.Post (λ κs s. s.0.now)
  chain : OneWalkedWith chain.ended (λ w. chain.clauses w.𝓛 w.𝓜.mem w.𝓡.run) (λ κs a r s. Left a.0.now (Chain a.1.0 a.1.1.0) r s.0.now) (λ κs s. s.0.now) × OneStatedWith chain_read.Post (λ κs s. s.0.now)
  why : OneWalked why.ended (λ w. why.clauses w.𝓛 w.𝓜.mem w.𝓡.run) (λ κs a r s. r ≡ why_of a.0.now a.1.0) × OneStated why_read.Post
  write_table : OneWalkedWith write_table.ended (λ w. write_table.clauses w.𝓛 w.𝓜.mem w.𝓡.run) (λ κs a r s. TableWrote (record { lines = a.0.now }) a.1.0.now r s.1.0.now) (λ κs s. s.1.0.now) × OneStatedWith write_table_read.Post (λ κs s. s.1.0.now)

pub the_outcomes : Outcomes
the_outcomes =
    record {
      check = ((λ w κs a g r s. refl, one_check), one_check);
      tick = ((λ w κs a g r s. refl, one_tick), one_tick);
      activate = ((λ w κs a g r s. refl, one_activate), one_activate);
      terminate = ((λ w κs a g r s. refl, one_terminate), one_terminate);
      chain = ((λ w κs a g r s. refl, one_chain), one_chain);
      why = ((λ w κs a g r s. refl, one_why), one_why);
      write_table = ((λ w κs a g r s. refl, one_write_table), one_write_table);
    }
