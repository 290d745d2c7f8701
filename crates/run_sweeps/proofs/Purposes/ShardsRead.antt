-- A call that adds shards up reads those that the moment says.
use Rattle.std.specs.Prelude.{ℕ, ◌==◌, Bool, List, filter, length, Some}
use Rattle.std.proofs.Common.{ap, sym, ◌∙◌, arith}
use Rattle.run_finds.specs.Given.SchedulesMoment.{TableThere}
use Rattle.run_finds.specs.Given.EffectsEffects.{effects_of}
use Rattle.run_finds.specs.Given.EffectsDeclared.acting.Acting.TheVariants as acts
use Rattle.run_finds.proofs.Given.FollowsFinds.{tables_many}
use Rattle.run_finds.proofs.Grows.Steps.{tables_have_been}
use Rattle.run_finds.proofs.Given.ShardsShardCalls.{rooms_count_nothing}
use Rattle.run_finds.specs.Purposes.Shards.{EventsBeginUncounted, StepsReadShards}

pub events_begin_uncounted : (K V : Type 0) → EventsBeginUncounted K V
events_begin_uncounted K V log m of shards tables none = (
  λ shard. ap (λ (f : ℕ → ℕ → ℕ). f of shard) shards,
  λ tableless shard. none.maps of (sym (ap (λ (ts : List TableThere). length (filter (λ u. u.table.map == of) ts)) tables) ∙ tableless) shard,
)

pub steps_read_shards : (K V : Type 0) (same : K → K → Bool) (hash : ℕ → K → ℕ) → StepsReadShards K V same hash
steps_read_shards K V same hash name log m known s old new at whole counters of i u here said leads none = (
  λ adds_up. (counters.shards, none, λ st there past. none.1 (sym (tables_many of (whole.all.shown.number of) st m known (whole.all.shown.maps of st there)) ∙ past)),
  λ adds_up. (
    λ shard. ap (λ (f : ℕ → ℕ → ℕ). f of shard) (rooms_count_nothing K V same hash name m known s old new at whole of i u here said leads adds_up) ∙ none.0 shard,
    λ tableless.
        let grown = tables_have_been K V (Some (name i)) (Some of) (effects_of (acts.Call i of) known new.changed) m of in
        none.1 (omega (arith, tableless, grown)),
  ),
)
