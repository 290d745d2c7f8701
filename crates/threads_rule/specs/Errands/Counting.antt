-- What a seat knows while it counts the pairs of a map, and once it has.
use Rattle.std.specs.Prelude.{◌≡◌, ◌<◌, ◌+◌, ◌-◌, ℕ, Bool, Ok}
use Rattle.map_tables.specs.declared.node.Node.{Node}
use Rattle.map_tables.specs.declared.setting.Setting.{Setting}
use Rattle.map_machines.specs.Sum.{summing}
use Rattle.map_machines.specs.declared.sum.Summing.{Summing}
use Rattle.map_machines.specs.declared.sum.Summing.TheVariants.{Adds, Over}
use Rattle.papaya_raw.specs.declared.machines.machine.Machine.{Machine}
use Rattle.papaya_raw.specs.declared.machines.machine.Machine.TheVariants.{Count as Counting}
use Rattle.papaya_raw.specs.declared.machines.progress.Answer.TheVariants as said
use Rattle.papaya_raw.specs.declared.machines.progress.Progress.{Progress}
use Rattle.papaya_raw.specs.declared.machines.progress.Progress.TheVariants as progress
use Rattle.many_acts.specs.Acts.Acts.{Count}
use Rattle.threads_rule.specs.declared.view.View.{View}
use Rattle.threads_rule.specs.declared.view.SeatWork.TheVariants.{Nothing}
use Rattle.threads_rule.specs.Errands.Calling.{MayDo, Works, outcome_of}
use Rattle.threads_rule.specs.Errands.Looking.{HasRun, StaysThere}

-- there are shards to add
abbrev pub AddsStill : Summing → Type 0
AddsStill (Adds shard total) = Unit {0}
AddsStill (Over count) = ⊥

-- how many there are, by the number of the last one
abbrev pub left_at : Summing → ℕ → ℕ
left_at (Adds shard total) last = last + 1 - shard
left_at (Over count) last = 0

module _ {K V Q : Type 0} where
  -- it is a counting that has shards to add
  abbrev pub IsAdding : Machine K V Q → Type 0
  IsAdding (Counting c) = AddsStill c.stands
  IsAdding machine = ⊥

  abbrev pub shards_left : Machine K V Q → ℕ
  shards_left (Counting c) = left_at c.stands c.setting.mask
  shards_left machine = 0

-- what a step of it tells
abbrev pub IsOfCounting : {T : Type 0} → Progress T → Type 0
IsOfCounting progress.Goes = Unit {0}
IsOfCounting (progress.Done (said.Count count)) = Unit {0}
IsOfCounting told = ⊥

module _ {K V S : Type 0} where
  -- a counting is under way that has shards to add
  pub record IsCounting (hasher : S) (machine : Machine K V K) (v : View K V S) : Type 0 where
    pub at : Works hasher machine v
    pub adds : IsAdding machine

  -- It has added one: it goes on, with fewer to add, or has ended with its count.
  abbrev pub CountedSo : S → Machine K V K → Machine K V K → Progress (Node K V) → View K V S → Type 0
  CountedSo hasher machine next progress.Goes v = IsCounting hasher next v × (shards_left next < shards_left machine)
  CountedSo hasher machine next (progress.Done (said.Count count)) v = v.work ≡ Nothing
  CountedSo hasher machine next told v = ⊥

  module _ (same : K → K → Bool) (hash : S → K → ℕ) where
    -- within a section, with nothing else under way, it may count the pairs of the map that it knows, by this machine
    pub record MayCount (hasher : S) (machine : Machine K V K) (v : View K V S) : Type 0 where
      pub may : MayDo same hash hasher machine v
      pub setting : Setting
      pub counts : machine ≡ Counting (summing setting)

    -- what a call has come to that has counted so many
    pub record HasCounted (count : ℕ) (v w : View K V S) : Type 0 where
      pub free : w.work ≡ Nothing
      pub stays : StaysThere v w
      pub ran : HasRun same hash Count (outcome_of (Ok (said.Count count))) v w
