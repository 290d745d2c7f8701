-- Events that are rows on slots: in the midst of one, as it begins, goes on and ends.
use Rattle.std.specs.Prelude.{◌≡◌, ◌⊎◌, ◌<◌, ◌^◌, ℕ, Bool, List, [], ◌++◌, flat_map}
use Rattle.seize.specs.Sequence.{changes, taken_in}
use Rattle.seize.specs.WaitingSets.{Change, Sets}
use Rattle.seize.specs.World.{World, Rests, Request, Begins, Step, Use}
use Rattle.run_executor.specs.Given.CallersTogether.{IsOfSlots}
use Rattle.papaya_raw.specs.Given.TablesNodes.{deferred_word}
use Rattle.papaya_raw.specs.Given.TablesDeclared.node.Node.{Node}
use Rattle.run_schedules.specs.Schedules.After.{moment}
use Rattle.run_schedules.specs.Schedules.Beginning.{at_work}
use Rattle.run_schedules.specs.Schedules.Entry.{Entry}
use Rattle.run_schedules.specs.Schedules.Model.{thing_back, changes_by, things_in, sets_in}
use Rattle.run_schedules.specs.Schedules.Moment.{Moment}
use Rattle.run_schedules.specs.Schedules.Terms.{Terms}
use Rattle.run_schedules.specs.declared.effect.Effect.{Effect}
use Rattle.run_schedules.specs.declared.effect.Thing.{Thing}
use Rattle.run_schedules.specs.declared.event.Event.{Event}
use Rattle.run_schedules.specs.declared.outcome.Outcome.{Outcome}
use Rattle.run_executor.specs.Given.EffectsEffects.{effects_of, known_after}
use Rattle.run_executor.specs.Given.EffectsKnown.{Known}
use Rattle.run_executor.specs.Given.EffectsDeclared.acting.Acting.TheVariants.{Row}
use Rattle.run_executor.specs.Given.EffectsDeclared.role.Role.TheVariants.{Free}
use Rattle.run_executor.specs.Given.ScenesDeclared.row.RowTold.{RowTold}
use Rattle.run_executor.specs.Given.ScenesDeclared.row.SlotRow.{SlotRow}
use Rattle.run_executor.specs.Given.FollowsBlocks.{RefinesBlocks}
use Rattle.run_executor.specs.Given.OthersRows.{scene_then}
use Rattle.run_kept.specs.Models.Alike.{SetsAlike}
use Rattle.run_kept.specs.Models.Follows.{FollowsSets, IsFollowed}
use Rattle.run_kept.specs.Models.Numbers.{things_of, HasNumber, EachIsOnce, AreOfRow}
use Rattle.run_kept.specs.Models.Turns.{sets_of, IsInRow}
use Rattle.run_executor.specs.Given.ScenesHeld.{Held, IsAt}
use Rattle.run_executor.specs.Given.ScenesOnSlots.{RowLeads}
use Rattle.run_executor.specs.Given.ScenesScene.{IsOnSlot, Scene}

module _ {K V : Type 0} (batch_size roots : ℕ) where
  -- In the midst of an event that is a row of caller i, which began in that world, once it has done this. As the row began these were the sets, by what was noted then; what it has
  -- reclaimed since are the things that were noted in the blocks that it took away, and nothing else is noted otherwise.
  pub record FollowsInRow (things : List Thing) (sets : Sets) (first : Known) (i : ℕ) (request : Request) (began : World (Node K V)) (done : List Effect) (known : Known) (w : World (Node K V)) : Type 0 where
    pub of_slots : IsOfSlots request
    pub before : List Change
    pub row : IsInRow deferred_word batch_size roots i request began before w
    pub alike : SetsAlike (HasNumber first things) (sets_of batch_size before) sets
    pub back : List ℕ
    pub taken : taken_in w.log ≡ taken_in began.log ++ back
    pub reclaimed : flat_map thing_back done ≡ flat_map (λ b. things_of (first.roles b)) back
    pub all : AreOfRow done
    pub noted : (b : ℕ) → (known.roles b ≡ first.roles b) ⊎ (known.roles b ≡ Free)

module _ {K V : Type 0} where
  -- To the waiting sets an event is that row.
  abbrev pub IsRowFor : Request → (before after : ℕ → Use) → Event K V → Outcome V → Moment K V → Type 0
  IsRowFor request before after event outcome m = changes_by [] event outcome [] m ≡ changes request before after

module _ (K V : Type 0) where
  -- The promises: so it is where such a row begins;
  abbrev pub SlotEventsBegin : Type 0
  SlotEventsBegin =
      (batch_size roots : ℕ) (things : List Thing) (sets : Sets) (known : Known) (w w2 : World (Node K V)) → FollowsSets batch_size roots things sets known w
      → (i : ℕ) (request : Request) → IsOfSlots request → w.row i ≡ Rests → Begins deferred_word batch_size i request w w2
      → FollowsInRow batch_size roots things sets known i request w [] known w2

  -- and where its caller rests, and the event is that row to the waiting sets, it has reclaimed what the model reclaims.
  abbrev pub SlotEventsEnd : Type 0
  SlotEventsEnd =
      (terms : Terms) (log : List (Entry K V)) (e : Entry K V) (first : Known) (i : ℕ) (request : Request) (known : Known) (began w : World (Node K V))
      → terms.batch_size < 2 ^ 64 → EachIsOnce first
      → FollowsInRow terms.batch_size terms.roots (things_in log) (sets_in terms.batch_size log) first i request began e.effects known w
      → w.row i ≡ Rests → (m : Moment K V) → RefinesBlocks m known w
      → IsRowFor request began.uses w.uses e.event e.outcome (at_work e (moment log)) → IsFollowed terms log e known w

module _ (K V : Type 0) (same : K → K → Bool) (hash : ℕ → K → ℕ) where
  -- It goes on so by each step of the row.
  abbrev pub SlotEventsContinue : Type 0
  SlotEventsContinue =
      (m : Moment K V) (known : Known) (s : Scene K V) (old new : Held K V) → IsAt same hash old s → RefinesBlocks m known s.world
      → (i : ℕ) (told : RowTold (Node K V)) (leads : RowLeads same hash i told s old new) (row : SlotRow) (here : IsOnSlot s i row)
      → (roots : ℕ) (things : List Thing) (sets : Sets) (first : Known) (request : Request) (began : World (Node K V)) (done : List Effect)
      → FollowsInRow old.batch_size roots things sets first i request began done known s.world
      → FollowsInRow old.batch_size roots things sets first i request began (done ++ effects_of Row known new.changed) (known_after Row new.changed known)
      (scene_then same hash (Step i) s old new (leads row here).2).world
