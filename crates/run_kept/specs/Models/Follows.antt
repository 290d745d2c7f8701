-- The waiting sets of the collector are those of the model, where calls come one after another.
use Rattle.std.specs.Prelude.{◌≡◌, ℕ, List, [], ◌∷◌}
use Rattle.seize.specs.WaitingSets.{Change, Sets}
use Rattle.seize.specs.World.{World}
use Rattle.papaya_raw.specs.Given.TablesNodes.{deferred_word}
use Rattle.papaya_raw.specs.Given.TablesDeclared.node.Node.{Node}
use Rattle.run_schedules.specs.Schedules.After.{moment}
use Rattle.run_schedules.specs.Schedules.Entry.{Entry}
use Rattle.run_schedules.specs.Schedules.Model.{IsByModel, things_in, sets_in, changes_of, left_last}
use Rattle.run_schedules.specs.Schedules.Terms.{Terms}
use Rattle.run_schedules.specs.declared.effect.Thing.{Thing}
use Rattle.run_executor.specs.Given.EffectsKnown.{Known}
use Rattle.run_kept.specs.Models.Alike.{SetsAlike}
use Rattle.run_kept.specs.Models.Numbers.{HasNumber}
use Rattle.run_kept.specs.Models.Turns.{sets_of, CameByTurns}

module _ {K V : Type 0} (batch_size roots : ℕ) where
  -- No row is under way. The world came about by rows one after another, and the waiting sets of its blocks are these sets of the things that are noted in them.
  pub record FollowsSets (things : List Thing) (sets : Sets) (known : Known) (w : World (Node K V)) : Type 0 where
    pub before : List Change
    pub came : CameByTurns deferred_word batch_size roots w before
    pub alike : SetsAlike (HasNumber known things) (sets_of batch_size before) sets

  -- these are the sets of the model after a log
  abbrev pub FollowsModel : List (Entry K V) → Known → World (Node K V) → Type 0
  FollowsModel log known w = FollowsSets (things_in log) (sets_in batch_size log) known w

module _ {K V : Type 0} (terms : Terms) where
  -- an event reclaimed what the model reclaims, and the collector's sets are those of the model after it
  abbrev pub IsFollowed : List (Entry K V) → Entry K V → Known → World (Node K V) → Type 0
  IsFollowed log e known w = IsByModel terms log e × FollowsModel terms.batch_size terms.roots (e ∷ log) known w

-- The promise: an event that does nothing, and changes no waiting sets, is by the model, and leaves things and sets as they were.
abbrev pub IdleEventsFollow : Type 0 → Type 0 → Type 0
IdleEventsFollow K V =
    (terms : Terms) (log : List (Entry K V)) (e : Entry K V) → e.effects ≡ [] → changes_of log e ≡ [] → left_last e.event e.outcome (moment log) ≡ []
    → IsByModel terms log e × (things_in (e ∷ log) ≡ things_in log) × (sets_in terms.batch_size (e ∷ log) ≡ sets_in terms.batch_size log)
