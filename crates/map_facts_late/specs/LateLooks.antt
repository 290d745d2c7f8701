-- What a lookup knows in a table that the root has left, in blocking mode.
use Rattle.std.specs.Prelude.{◌≡◌, ℕ, Bool, true, false}
use Rattle.map_facts.specs.Given.TablesDeclared.resize_mode.ResizeMode.{ResizeMode}
use Rattle.map_facts.specs.Given.TablesDeclared.trial.Trial.{Trial}
use Rattle.map_facts.specs.Given.ResizeDeclared.lookup.Lookup.{Lookup}
use Rattle.map_facts.specs.Given.ResizeDeclared.lookup.Looking.{Looking}
use Rattle.map_facts.specs.Given.ResizeDeclared.lookup.Looking.TheVariants as at
use Rattle.map_facts.specs.Given.RuleChart.{Chart}
use Rattle.map_facts.specs.Given.RuleRule.{Passed}
use Rattle.map_facts.specs.Given.RuleWords.{Blocks}
use Rattle.map_facts.specs.Given.RuleMaps.{spot_of, IsTrial}
use Rattle.map_facts_late.specs.Left.{Left}

module _ {K : Type 0} (same : K → K → Bool) (hash : K → ℕ) (keys : K → Bool) (code : ℕ) (c : Chart K) (blocks : Blocks) (began : ℕ) where
  -- it is at a try there, and no key of these was met at the tries before
  abbrev pub IsSupersededTrial : Trial → Type 0
  IsSupersededTrial trial =
      (t : ℕ) × (j : ℕ) × IsTrial c blocks trial code t j × ((k : K) → keys k ≡ true → Passed same (spot_of hash) false c t k j) × Left c began t

  abbrev pub SupersededLooking : Looking → Type 0
  SupersededLooking (at.Probes trial) = IsSupersededTrial trial
  SupersededLooking _ = ⊥

  -- what a lookup knows there
  pub record SupersededLookupFacts (mode : ResizeMode) (root : ℕ) (l : Lookup) : Type 0 where
    pub root_is : l.root ≡ root
    pub mode_is : l.mode ≡ mode
    pub hash_is : l.hash ≡ code
    pub point : SupersededLooking l.stands
