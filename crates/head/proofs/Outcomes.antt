-- One outcome: any two that satisfy what the source of a public function ensures are equal, its lent state or buffer included. A field for each. Assumes nothing.
use mathlib.Core.Path.{◌≡◌, refl}
use Rattle.rules.specs.declared.Call.TheVariants.{Wait, Activate, Terminate, Chain}
use Rattle.rules.proofs.Outcome.{OneStated, OneStatedWith, OneWalked, OneWalkedWith, only}
use Rattle.head.specs.Calls.{LinesChecked, Left, head_why}
use Rattle.head.proofs.Claims.{the_claims}
use Rattle.head.specs.contracts.head_check as head_check
use Rattle.head.proofs.head_check.Reads as head_check_read
use Rattle.head.specs.contracts.head_tick as head_tick
use Rattle.head.proofs.head_tick.Reads as head_tick_read
use Rattle.head.specs.contracts.head_activate as head_activate
use Rattle.head.proofs.head_activate.Reads as head_activate_read
use Rattle.head.specs.contracts.head_terminate as head_terminate
use Rattle.head.proofs.head_terminate.Reads as head_terminate_read
use Rattle.head.specs.contracts.head_chain as head_chain
use Rattle.head.proofs.head_chain.Reads as head_chain_read
use Rattle.head.specs.contracts.head_why as head_why
use Rattle.head.proofs.head_why.Reads as head_why_read

one_head_check : OneStated head_check_read.Post
one_head_check = λ κs a r r' s s'. the_claims.one_checked a.0.now r r'

one_head_tick : OneStatedWith head_tick_read.Post (λ κs s. s.0.now)
one_head_tick = λ κs a r r' s s'. the_claims.one_left a.0.now (Wait a.1.0) r r' s.0.now s'.0.now

one_head_activate : OneStatedWith head_activate_read.Post (λ κs s. s.0.now)
one_head_activate = λ κs a r r' s s'. the_claims.one_left a.0.now (Activate a.1.0 a.1.1.0) r r' s.0.now s'.0.now

one_head_terminate : OneStatedWith head_terminate_read.Post (λ κs s. s.0.now)
one_head_terminate = λ κs a r r' s s'. the_claims.one_left a.0.now (Terminate a.1.0) r r' s.0.now s'.0.now

one_head_chain : OneStatedWith head_chain_read.Post (λ κs s. s.0.now)
one_head_chain = λ κs a r r' s s'. the_claims.one_left a.0.now (Chain a.1.0 a.1.1.0) r r' s.0.now s'.0.now

one_head_why : OneStated head_why_read.Post
one_head_why = λ κs a r r' s s'. only

-- by its clauses, which are the promise that is named, and as it is read
pub record Outcomes : Type 2 where
  head_check : OneWalked head_check.ended (λ w. head_check.clauses w.𝓛 w.𝓜.mem w.𝓡.run) (λ κs a r s. LinesChecked a.0.now r) × OneStated head_check_read.Post
  head_tick : OneWalkedWith head_tick.ended (λ w. head_tick.clauses w.𝓛 w.𝓜.mem w.𝓡.run) (λ κs a r s. Left a.0.now (Wait a.1.0) r s.0.now) (λ κs s. s.0.now) × OneStatedWith head_tick_read.Post (λ κs s. s.0.now)
  head_activate : OneWalkedWith head_activate.ended (λ w. head_activate.clauses w.𝓛 w.𝓜.mem w.𝓡.run) (λ κs a r s. Left a.0.now (Activate a.1.0 a.1.1.0) r s.0.now) (λ κs s. s.0.now) × OneStatedWith head_activate_read.Post (λ κs s. s.0.now)
  head_terminate : OneWalkedWith head_terminate.ended (λ w. head_terminate.clauses w.𝓛 w.𝓜.mem w.𝓡.run) (λ κs a r s. Left a.0.now (Terminate a.1.0) r s.0.now) (λ κs s. s.0.now) × OneStatedWith head_terminate_read.Post (λ κs s. s.0.now)
  head_chain : OneWalkedWith head_chain.ended (λ w. head_chain.clauses w.𝓛 w.𝓜.mem w.𝓡.run) (λ κs a r s. Left a.0.now (Chain a.1.0 a.1.1.0) r s.0.now) (λ κs s. s.0.now) × OneStatedWith head_chain_read.Post (λ κs s. s.0.now)
  head_why : OneWalked head_why.ended (λ w. head_why.clauses w.𝓛 w.𝓜.mem w.𝓡.run) (λ κs a r s. r ≡ head_why a.0.now a.1.0) × OneStated head_why_read.Post

pub the_outcomes : Outcomes
the_outcomes =
    record {
      head_check = ((λ w κs a g r s. refl, one_head_check), one_head_check);
      head_tick = ((λ w κs a g r s. refl, one_head_tick), one_head_tick);
      head_activate = ((λ w κs a g r s. refl, one_head_activate), one_head_activate);
      head_terminate = ((λ w κs a g r s. refl, one_head_terminate), one_head_terminate);
      head_chain = ((λ w κs a g r s. refl, one_head_chain), one_head_chain);
      head_why = ((λ w κs a g r s. refl, one_head_why), one_head_why);
    }
