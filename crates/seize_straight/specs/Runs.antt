-- Runs of a machine over any memory: what may be run, and what came of it. Between two operations others may step: what they do lies within what an
-- operation took.
use Rattle.std.specs.Prelude.{ℕ, zero, suc, Option}
use Rattle.seize_words.specs.OneMemory.Op.{Op, Out}
use Rattle.seize_words.specs.OneMemory.Plan.{Plan, May, Steps}

-- `on` says which outcomes go on, `plan` what the next step does at each point
module _ {T X P M : Type 0} (on : P → Type 0) (took : M → Op T → Out T → M → Type 0) (shown : M → ℕ → Option T) (plan : X → Plan T (X × P)) where
  -- so many steps may be taken from here on, whatever they come to
  abbrev pub Lasts : (M → Op T → Type 0) → ℕ → X → M → Type 0
  Lasts can zero x m = Unit {0}
  Lasts can (suc k) x m = May can took shown m (plan x) × ((n : M) (y : X) (told : P) → on told → Steps took shown m (plan x) n (y, told) → Lasts can k y n)

  -- It may be run from here on, for as long as it goes on.
  pub data MayRun (can : M → Op T → Type 0) : X → M → Type 0 where
    lasts : (x : X) (m : M) → ((k : ℕ) → Lasts can k x m) → MayRun can x m

  -- Some steps that go on lead from the one to the other, and from this memory to that.
  pub data Leads : X → M → X → M → Type 0 where
    none_taken : (x : X) (m : M) → Leads x m x m
    one_more : (x : X) (m : M) (y : X) (n : M) → Leads x m y n → (told : P) → on told → (z : X) (k : M) → Steps took shown n (plan y) k (z, told) → Leads x m z k

  -- some steps that go on lead to one that tells this, and does not go on
  abbrev pub EndsTelling : X → M → M → P → Type 0
  EndsTelling x m k told = (y : X) × (n : M) × (z : X) × Leads x m y n × Steps took shown n (plan y) k (z, told) × (on told → ⊥)
