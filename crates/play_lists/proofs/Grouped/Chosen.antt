-- A choice of a number comes: the list of acts goes on by that, and the executor is there with it.
use Rattle.std.proofs.Common.{ℕ, Bool, refl, ap}
use Rattle.many_acts.specs.Given.ScenesScene.{Scene, slot_of}
use Rattle.run_kept.specs.Given.EffectsKnown.{Known}
use Rattle.run_finds.specs.Given.ExecutorIsThere.{IsThere}
use Rattle.run_finds.specs.Given.ExecutorDeclared.executor.Executor.{Executor}
use Rattle.many_acts.specs.Acts.Doings.{memory_chosen, scene_chosen}
use Rattle.many_acts.specs.Acts.Lists.{Course}
use Rattle.many_acts.proofs.Acts.Chosen.{chosen_stand}
use Rattle.play_lists.specs.Played.Play.{State, choice_come}
use Rattle.play_lists.specs.Grouped.Reach.{Reach}
use Rattle.play_lists.proofs.Grouped.OneMore.{one_choice}
use Rattle.play_lists.proofs.Grouped.Reached.{goes_at}

-- the executor whose memory has one choice more
abbrev pub executor_chosen : {K V S : Type 0} → ℕ → Executor K V S → Executor K V S
executor_chosen choice e = record e { memory = record e.memory { memory = memory_chosen choice e.memory.memory } }

module _ {K V S : Type 0} (same : K → K → Bool) (by_hasher : S → K → ℕ) (shards choice : ℕ) (e : Executor K V S) where
  -- it is there with the choice
  there_chosen : (s : Scene K V) → IsThere same (by_hasher e.hasher) e s → IsThere same (by_hasher e.hasher) (executor_chosen choice e) (scene_chosen choice s)
  there_chosen s at = record {
    held = record {
      memory = ap (memory_chosen choice) at.held.memory;
      together = chosen_stand V same by_hasher e.batch_size e.roots slot_of s at.held.together choice;
      hashes = at.held.hashes;
      hashes_made = at.held.hashes_made;
      on_slots = at.held.on_slots;
      small = at.held.small;
    };
    maps = at.maps;
    calls = at.calls;
    makers = at.makers;
    enders = at.enders;
    numbers = at.numbers;
    rows = at.rows;
    slots = at.slots;
    uses = at.uses;
  }

  pub choice_goes : (P Q : State K V S → Type 0) → ((x : State K V S) → P x → Q (choice_come choice x)) → (noted : Known) (b r : ℕ) → Course V same by_hasher b r slot_of
      → Reach same by_hasher e.hasher b r shards P e noted → Reach same by_hasher e.hasher b r shards Q (executor_chosen choice e) noted
  choice_goes P Q so noted b r any at =
      goes_at same by_hasher shards P Q e (executor_chosen choice e) noted noted
      (λ course there. one_choice same by_hasher shards e (executor_chosen choice e) (refl, refl, refl) course noted noted P Q choice there_chosen refl so there) b r any at
