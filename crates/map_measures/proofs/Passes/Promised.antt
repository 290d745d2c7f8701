-- What is promised of the number of a sweep, over its own steps.
use Rattle.std.proofs.Common.{◌≡◌, ℕ, Bool, length, rules}
use Rattle.map_sweeps.specs.declared.sweep.Sweep.{Sweep}
use Rattle.map_sweeps.specs.declared.sweep.Sweeping.{Sweeping}
use Rattle.many_calls.specs.Given.RuleChart.{Chart}
use Rattle.many_calls.specs.Given.RuleWords.{Blocks}
use Rattle.map_measures.proofs.Falls.Led.{onward}
use Rattle.map_measures.specs.Passes.FallsSweeps.{SweepsFall, SweepNumbersAreAsMany}
use Rattle.map_measures.specs.Passes.Sweeps.{numbers_at}
use Rattle.map_measures.proofs.Passes.Points.{swept_on}

pub sweeps_fall : {K : Type 0} (V : Type 0) (same : K → K → Bool) (hash : K → ℕ) → SweepsFall V same hash
sweeps_fall V same hash are setting w caller c blocks began p map f none m2 p2 end s goes went =
    swept_on same hash setting w caller c blocks began p map f.setting_is m2 went.c2 went.blocks2
    (onward same hash are.lawful setting w caller c blocks map m2 went) f none (p2, end) s goes

eleven : {K : Type 0} (hash : K → ℕ) (c : Chart K) (blocks : Blocks) (p : Sweep) (stands : Sweeping) → length (numbers_at hash c blocks p stands) ≡ 11
eleven hash c blocks p stands = search rules

pub sweep_numbers_are_as_many : {K : Type 0} → SweepNumbersAreAsMany K
sweep_numbers_are_as_many hash c blocks p = eleven hash c blocks p p.stands
