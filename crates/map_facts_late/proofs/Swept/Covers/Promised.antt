-- What is promised of what a sweep comes to by its own steps.
use Rattle.std.specs.Prelude.{ℕ, Bool}
use Rattle.map_facts.proofs.Given.RuleWorld.WentTold.{went_as}
use Rattle.map_facts_late.specs.CoversSweeps.{CoversOn, SweepsCover}
use Rattle.map_facts_late.specs.ToldSweeps.{SweepOutcome}
use Rattle.map_facts_late.proofs.Swept.Covers.Steps.{covers_by}
use Rattle.map_facts_late.proofs.Swept.Sweeps.Moved.{SweepTells}
use Rattle.map_facts_late.proofs.Swept.Sweeps.Points.{went_sweep}
use Rattle.map_facts_late.proofs.Swept.Sweeps.Told.{told_of}

pub sweeps_cover : {K : Type 0} (V : Type 0) (same : K → K → Bool) (hash : K → ℕ) → SweepsCover V same hash
sweeps_cover V same hash are setting initial_is w caller c blocks began p map moments few since f none m2 p2 end s =
    went_as same hash setting caller w c blocks m2 (SweepTells same hash caller setting began w c blocks p p.stands (p2, end))
    (λ w2 c2 blocks2. SweepOutcome same hash caller setting began c blocks p w2 c2 blocks2 p2 end × CoversOn hash began c blocks p c2 blocks2 p2 end)
    (λ w2 c2 blocks2 map2 moved same_blocks tells. (
      told_of same hash caller setting began w c blocks map p w2 c2 blocks2 p2 end tells,
      covers_by same hash are setting caller began w c blocks map moments since p f w2 c2 blocks2 map2 moved same_blocks p2 end tells.1,
    ))
    (went_sweep same hash are caller setting initial_is began w c blocks map moments few p f m2 (p2, end) none s)
