-- Ends of maps, where calls come one after another: what waits behind their tables leaves the waiting sets of blocks as each is left over, and those of the model
-- as each is taken away.
use Rattle.std.specs.Prelude.{◌≡◌, ◌⊎◌, ◌<◌, ◌^◌, ℕ, Bool, true, List, [], ◌∷◌, ◌++◌, map, flat_map, Some, None}
use Rattle.std.specs.List.{AllByRecursion}
use Rattle.run_schedules.specs.Given.SeizeWordsMem.{value_at}
use Rattle.seize.specs.Law.{Ended}
use Rattle.seize.specs.WaitingSets.{Change, Ends, Sets, is_one_of}
use Rattle.seize.specs.World.{World, LeftTo, with_effect}
use Rattle.seize.specs.declared.rows.settle.Settled.{Settled}
use Rattle.run_executor.specs.Given.SeizeWaitingHeld.{Every}
use Rattle.papaya_raw.specs.Given.TablesNodes.{deferred_word}
use Rattle.papaya_raw.specs.Given.TablesDeclared.node.Node.{Node}
use Rattle.run_schedules.specs.Schedules.After.{tables_taken}
use Rattle.run_schedules.specs.Schedules.Lists.{is_in}
use Rattle.run_schedules.specs.Schedules.Moment.{Moment}
use Rattle.run_schedules.specs.Schedules.Things.{same_table}
use Rattle.run_schedules.specs.declared.effect.Effect.{Effect}
use Rattle.run_schedules.specs.declared.effect.Effect.TheVariants.{Stored, Linked, Reclaimed}
use Rattle.run_schedules.specs.declared.effect.TableId.{TableId}
use Rattle.run_schedules.specs.declared.effect.Thing.{Thing}
use Rattle.run_executor.specs.Given.EffectsEffects.{effects_of, known_after}
use Rattle.run_executor.specs.Given.EffectsKnown.{Known}
use Rattle.run_executor.specs.Given.EffectsDeclared.acting.Acting.TheVariants.{Ending}
use Rattle.run_executor.specs.Given.EffectsDeclared.role.Role.TheVariants as role
use Rattle.run_executor.specs.Given.FinishesEndings.{Finishing}
use Rattle.run_executor.specs.Given.FollowsBlocks.{RefinesBlocks}
use Rattle.run_executor.specs.Given.MomentsWhole.{RefinesWhole}
use Rattle.run_kept.specs.Models.Alike.{SetsAlike}
use Rattle.run_kept.specs.Models.Calls.{sets_on}
use Rattle.run_kept.specs.Models.Follows.{FollowsSets}
use Rattle.run_kept.specs.Models.Numbers.{HasNumber, EachIsOnce}
use Rattle.run_kept.specs.Models.Others.{HandNone}
use Rattle.run_kept.specs.Models.Turns.{sets_of, CameByTurns}
use Rattle.run_executor.specs.Given.ScenesEnding.{EndingLeads}
use Rattle.run_executor.specs.Given.ScenesHeld.{Held, IsAt}
use Rattle.run_executor.specs.Given.ScenesScene.{Scene}

-- an effect of the end of a map: nothing comes by it, and nothing that was handed over is reclaimed
abbrev pub IsOfEnd : Effect → Type 0
IsOfEnd (Stored n x) = ⊥
IsOfEnd (Linked t shape) = ⊥
IsOfEnd (Reclaimed x) = ⊥
IsOfEnd _ = Unit {0}

abbrev pub AreOfEnd : List Effect → Type 0
AreOfEnd [] = Unit {0}
AreOfEnd (e ∷ effects) = IsOfEnd e × AreOfEnd effects

module _ (first known : Known) where
  -- the table was in a block which was taken away
  abbrev pub WasTaken : TableId → Type 0
  WasTaken t = (b : ℕ) × (len : ℕ) × (first.roles b ≡ role.Table t len) × (known.roles b ≡ role.Free)

module _ {K V : Type 0} (batch_size roots : ℕ) where
  -- In the midst of the end of a map by caller i, once it has done this. As it began the sets were alike, by what was noted then, and others waited behind tables
  -- alone. What was behind these blocks has left them since, and each of those is left to the caller, or gone. What was told as taken are the tables in the blocks
  -- that it took away, and nothing else is noted otherwise.
  pub record FollowsInEnd (things : List Thing) (sets : Sets) (first : Known) (i : ℕ) (done : List Effect) (known : Known) (w : World (Node K V)) : Type 0 where
    pub before : List Change
    pub ended : List ℕ
    pub came : CameByTurns deferred_word batch_size roots w (before ++ map (λ b. Ends b) ended)
    pub alike : SetsAlike (HasNumber first things) (sets_of batch_size before) sets
    pub tables : Every (λ f. (t : TableId) × (len : ℕ) × (first.roles f.behind ≡ role.Table t len)) (sets_of batch_size before).further
    pub left : (b : ℕ) → is_one_of b ended ≡ true → (w.hand b ≡ LeftTo i) ⊎ (value_at w.memory b ≡ None)
    pub noted : (b : ℕ) → (known.roles b ≡ first.roles b) ⊎ (known.roles b ≡ role.Free)
    pub told : (b len : ℕ) (t : TableId) → first.roles b ≡ role.Table t len → known.roles b ≡ role.Free → is_in same_table t (flat_map tables_taken done) ≡ true
    pub taken : AllByRecursion (WasTaken first known) (flat_map tables_taken done)
    pub hands : HandNone done
    pub of_end : AreOfEnd done

-- no block that is noted as a table is left over
abbrev pub NoTableIsLeft : {K V : Type 0} → Known → ℕ → World (Node K V) → Type 0
NoTableIsLeft known i w = (b len : ℕ) (t : TableId) → known.roles b ≡ role.Table t len → w.hand b ≡ LeftTo i → ⊥

module _ (K V : Type 0) where
  -- The promises: so it is where the end of a map begins;
  abbrev pub EndsBegin : Type 0
  EndsBegin =
      (batch_size roots : ℕ) (things : List Thing) (sets : Sets) (known : Known) (w : World (Node K V)) → batch_size < 2 ^ 64 → FollowsSets batch_size roots things sets known w
      → (m : Moment K V) → RefinesBlocks m known w → (i owner : ℕ) → FollowsInEnd batch_size roots things sets known i [] known (with_effect w (Ended owner))

  -- and once it is over, and no table is left over, the sets are alike.
  abbrev pub EndsEnd : Type 0
  EndsEnd =
      (batch_size roots : ℕ) (things : List Thing) (sets : Sets) (first : Known) (i : ℕ) (done : List Effect) (known : Known) (w : World (Node K V)) → batch_size < 2 ^ 64
      → EachIsOnce first → FollowsInEnd batch_size roots things sets first i done known w → (m : Moment K V) → RefinesBlocks m known w → NoTableIsLeft known i w
      → (slot : ℕ) → FollowsSets batch_size roots things (sets_on batch_size things slot done sets) known w

module _ (K V : Type 0) (same : K → K → Bool) (hash : ℕ → K → ℕ) where
  -- It goes on so by each step of the end.
  abbrev pub EndsContinue : Type 0
  EndsContinue =
      (name : ℕ → List ℕ) (m : Moment K V) (known : Known) (s : Scene K V) (old new : Held K V) → IsAt same hash old s → RefinesWhole same name m known s
      → (i : ℕ) (told : Settled (Node K V)) (leads : EndingLeads same hash i told s old new) (f : Finishing K V) (here : s.enders i ≡ Some f) (map : ℕ) → s.maps map ≡ None
      → (roots : ℕ) (things : List Thing) (sets : Sets) (first : Known) (done : List Effect) → FollowsInEnd old.batch_size roots things sets first i done known s.world
      → FollowsInEnd old.batch_size roots things sets first i (done ++ effects_of (Ending map) known new.changed) (known_after (Ending map) new.changed known)
      (leads f here).2.w2
