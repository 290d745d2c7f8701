-- The effects of a step of a call find all parts that are promised.
use Rattle.std.specs.Prelude.{ℕ, Bool}
use Rattle.run_executor.specs.Given.EffectsEffects.{effects_of}
use Rattle.run_executor.specs.Given.EffectsDeclared.acting.Acting.TheVariants as acts
use Rattle.run_blocks.proofs.Owes.Events.{steps_find_made}
use Rattle.run_blocks.proofs.Owes.Looking.Calls.{calls_keep_looking}
use Rattle.run_blocks.proofs.Given.SettlesCalls.{calls_keep_counts}
use Rattle.run_blocks.proofs.Given.SettlesShards.{counts_find_shards}
use Rattle.run_finds.specs.Steps.{StepsFindParts}
use Rattle.run_finds.proofs.Steps.{steps_do_theirs, steps_find_places}

pub steps_find_parts : (K V : Type 0) (same : K → K → Bool) (hash : ℕ → K → ℕ) → StepsFindParts K V same hash
steps_find_parts K V same hash name m known s old new at shows map i u here said leads terms shards c c_is seat moments =
    let found = steps_find_places K V same hash name m known s old new at shows.whole map i u here said leads in
    record {
      kinds = steps_do_theirs K V same hash name m known s old new at shows.whole map i u here said leads;
      at_work = (calls_keep_looking K V same hash name m known s old new at shows.whole shows.looking map i u here said leads).0;
      made = steps_find_made K V same hash name m known s old new at shows.whole shows.made shows.tables shows.short map i u here said leads terms moments;
      on_map = found.0;
      places = found.1;
      ahead = found.2;
      shards = counts_find_shards K V terms i (leads map u here).0.setting shards (name i) map (effects_of (acts.Call i map) known new.changed) m c c_is seat
          (calls_keep_counts K V same hash name m known s old new at shows.whole shows.counts map i u here said leads).0 moments;
    }
