-- Events that make a map, or end one, whole: they are by the model.
use Rattle.std.specs.Prelude.{◌≡◌, ◌<◌, ◌^◌, ℕ, Bool, List, [], ◌∷◌, ◌++◌, flat_map, Option, Some}
use Rattle.seize.specs.WaitingSets.{Sets}
use Rattle.seize.specs.World.{World}
use Rattle.seize.specs.declared.advance.Advance.{Advance}
use Rattle.papaya_raw.specs.Given.TablesDeclared.node.Node.{Node}
use Rattle.papaya_raw.specs.Given.TablesDeclared.setting.Setting.{Setting}
use Rattle.run_executor.specs.Given.EffectsEffects.{effects_of, known_after}
use Rattle.run_executor.specs.Given.EffectsKnown.{Known}
use Rattle.run_executor.specs.Given.EffectsDeclared.acting.Acting.TheVariants.{Making}
use Rattle.run_executor.specs.Given.FinishesMakings.{Beginning}
use Rattle.run_executor.specs.Given.FollowsBlocks.{RefinesBlocks}
use Rattle.run_executor.specs.Given.MomentsWhole.{RefinesWhole}
use Rattle.run_schedules.specs.Schedules.After.{moment}
use Rattle.run_schedules.specs.Schedules.Entry.{Entry}
use Rattle.run_schedules.specs.Schedules.Model.{handing, things_in, sets_in, changes_of, left_last}
use Rattle.run_schedules.specs.Schedules.Moment.{Moment}
use Rattle.run_schedules.specs.Schedules.Terms.{Terms}
use Rattle.run_schedules.specs.declared.effect.Effect.{Effect}
use Rattle.run_schedules.specs.declared.effect.Thing.{Thing}
use Rattle.run_kept.specs.Models.CallEvents.{things_then}
use Rattle.run_kept.specs.Models.Calls.{EndNone}
use Rattle.run_kept.specs.Models.Ends.{FollowsInEnd, NoTableIsLeft}
use Rattle.run_kept.specs.Models.Follows.{FollowsSets, IsFollowed}
use Rattle.run_kept.specs.Models.Numbers.{EachIsOnce, NoneBack}
use Rattle.run_executor.specs.Given.OthersMakings.{WasNew}
use Rattle.run_kept.specs.Models.Others.{HandNone}
use Rattle.run_executor.specs.Given.ScenesHeld.{Held, IsAt}
use Rattle.run_executor.specs.Given.ScenesMaking.{MakingLeads}
use Rattle.run_executor.specs.Given.ScenesScene.{Scene}

module _ {K V : Type 0} (batch_size roots : ℕ) where
  -- In the midst of an event that makes a map, which has done this: it hands nothing over, and the sets are those of the model as it began.
  pub record FollowsInMaking (things : List Thing) (sets : Sets) (done : List Effect) (known : Known) (w : World (Node K V)) : Type 0 where
    pub hands : HandNone done
    pub ends : EndNone done
    pub back : NoneBack done
    pub follows : FollowsSets batch_size roots (things_then things done) sets known w

-- A moment that shows a scene notes each thing once.
abbrev pub MomentsNoteOnce : Type 0 → Type 0 → Type 0
MomentsNoteOnce K V =
    (same : K → K → Bool) (name : ℕ → List ℕ) (m : Moment K V) (known : Known) (s : Scene K V) → RefinesWhole same name m known s → EachIsOnce known

module _ (K V : Type 0) where
  -- The promises: so it is where a making begins,
  abbrev pub MakingEventsBegin : Type 0
  MakingEventsBegin =
      (batch_size roots : ℕ) (things : List Thing) (sets : Sets) (known : Known) (w : World (Node K V)) → FollowsSets batch_size roots things sets known w
      → FollowsInMaking batch_size roots things sets [] known w

  -- and once its event is over it is by the model, and the sets are those of the model after it.
  abbrev pub MakingEventsEnd : Type 0
  MakingEventsEnd =
      (terms : Terms) (log : List (Entry K V)) (e : Entry K V) (slot : ℕ) (known : Known) (w : World (Node K V))
      → FollowsInMaking terms.batch_size terms.roots (things_in log) (sets_in terms.batch_size log) e.effects known w
      → changes_of log e ≡ flat_map (handing (things_in (e ∷ log)) slot) e.effects → left_last e.event e.outcome (moment log) ≡ [] → IsFollowed terms log e known w

  -- So it is of the end of a map, if no table is left over.
  abbrev pub EndEventsEnd : Type 0
  EndEventsEnd =
      (terms : Terms) (log : List (Entry K V)) (e : Entry K V) (slot i : ℕ) (first known : Known) (w : World (Node K V)) → terms.batch_size < 2 ^ 64 → EachIsOnce first
      → FollowsInEnd terms.batch_size terms.roots (things_in log) (sets_in terms.batch_size log) first i e.effects known w
      → (m : Moment K V) → RefinesBlocks m known w → NoTableIsLeft known i w → changes_of log e ≡ flat_map (handing (things_in (e ∷ log)) slot) e.effects
      → left_last e.event e.outcome (moment log) ≡ [] → IsFollowed terms log e known w

module _ (K V : Type 0) (same : K → K → Bool) (hash : ℕ → K → ℕ) where
  -- A making goes on so with each step.
  abbrev pub MakingEventsContinue : Type 0
  MakingEventsContinue =
      (name : ℕ → List ℕ) (m : Moment K V) (known : Known) (s : Scene K V) (old new : Held K V) → IsAt same hash old s → RefinesWhole same name m known s
      → (i : ℕ) (told : Advance Setting) (leads : MakingLeads same hash i told s old new) (b : Beginning K) (here : s.makers i ≡ Some b) → Option ℕ → WasNew b.map told m
      → (roots : ℕ) (things : List Thing) (sets : Sets) (done : List Effect) → FollowsInMaking old.batch_size roots things sets done known s.world
      → FollowsInMaking old.batch_size roots things sets (done ++ effects_of (Making b.map) known new.changed) (known_after (Making b.map) new.changed known)
      (leads b here).2.step.w2
