-- Events of calls, where they come one after another: what a call hands over changes the waiting sets of blocks as it does those of the model, once its row
-- has run.
use Rattle.std.specs.Prelude.{◌≡◌, ◌≤◌, ◌<◌, ◌^◌, ℕ, List, [], ◌∷◌, ◌++◌, flat_map}
use Rattle.seize.specs.Sequence.{changes}
use Rattle.seize.specs.WaitingSets.{Change, Sets, all_changed}
use Rattle.seize.specs.World.{World, Rests, Request, IsInside}
use Rattle.run_executor.specs.Given.SeizeWaitingHeld.{count}
use Rattle.papaya_raw.specs.Given.TablesNodes.{deferred_word}
use Rattle.papaya_raw.specs.Given.TablesDeclared.node.Node.{Node}
use Rattle.run_schedules.specs.Schedules.After.{moment}
use Rattle.run_schedules.specs.Schedules.Entry.{Entry}
use Rattle.run_schedules.specs.Schedules.Model.{IsByModel, thing_back, handing, things_in, sets_in, changes_of, left_last}
use Rattle.run_schedules.specs.Schedules.Terms.{Terms}
use Rattle.run_schedules.specs.declared.effect.Effect.{Effect}
use Rattle.run_schedules.specs.declared.effect.Effect.TheVariants.{Taken}
use Rattle.run_schedules.specs.declared.effect.Thing.{Thing}
use Rattle.run_executor.specs.Given.EffectsKnown.{Known}
use Rattle.run_kept.specs.Models.Alike.{SetsAlike, ChangesAlike}
use Rattle.run_kept.specs.Models.Follows.{FollowsSets}
use Rattle.run_kept.specs.Models.Numbers.{HasNumber, EachIsOnce}
use Rattle.run_kept.specs.Models.Turns.{sets_of, IsInRow}

-- the sets of the model after these effects of a call under this slot, of which the things are these
abbrev pub sets_on : ℕ → List Thing → ℕ → List Effect → Sets → Sets
sets_on batch_size things slot effects sets = (all_changed batch_size (flat_map (handing things slot) effects) sets).sets

module _ {K V : Type 0} (batch_size roots : ℕ) where
  -- In the midst of a row of caller i within its call. As the row began the sets were alike, and this was handed over since then, as it was told.
  pub record FollowsInCall (things : List Thing) (sets : Sets) (known : Known) (i : ℕ) (request : Request) (handed : List Change) (w : World (Node K V)) : Type 0 where
    pub began : World (Node K V)
    pub before : List Change
    pub row : IsInRow deferred_word batch_size roots i request began before w
    pub first : Sets
    pub alike : SetsAlike (HasNumber known things) (sets_of batch_size before) first
    pub sets_are : sets ≡ (all_changed batch_size handed first).sets

-- no table ends with its map by this
abbrev pub EndsNone : Effect → Type 0
EndsNone (Taken t) = ⊥
EndsNone _ = Unit {0}

abbrev pub EndNone : List Effect → Type 0
EndNone [] = Unit {0}
EndNone (e ∷ effects) = EndsNone e × EndNone effects

module _ (K V : Type 0) where
  -- The promises: the sets are those of further things, too, which are not in them;
  abbrev pub MoreThingsFollow : Type 0
  MoreThingsFollow =
      (batch_size roots : ℕ) (things more : List Thing) (sets : Sets) (known : Known) (w : World (Node K V))
      → (FollowsSets batch_size roots things sets known w → FollowsSets batch_size roots (things ++ more) sets known w)
      × ((i : ℕ) (request : Request) (handed : List Change) → FollowsInCall batch_size roots things sets known i request handed w
      → FollowsInCall batch_size roots (things ++ more) sets known i request handed w)

  -- once a row within a call has ended, and was told as what it is, the sets are alike again;
  abbrev pub RowsWithinEnd : Type 0
  RowsWithinEnd =
      (batch_size roots : ℕ) (things : List Thing) (sets : Sets) (known : Known) (i : ℕ) (request : Request) (handed : List Change) (w : World (Node K V)) → batch_size < 2 ^ 64
      → EachIsOnce known → (r : FollowsInCall batch_size roots things sets known i request handed w) → w.row i ≡ Rests
      → ChangesAlike (HasNumber known things) (changes request r.began.uses w.uses) handed → FollowsSets batch_size roots things sets known w

  -- an active slot is so in the sets;
  abbrev pub InsidesFollow : Type 0
  InsidesFollow =
      (batch_size roots : ℕ) (things : List Thing) (sets : Sets) (known : Known) (w : World (Node K V)) → batch_size < 2 ^ 64
      → FollowsSets batch_size roots things sets known w → (slot : ℕ) → IsInside (w.uses slot) → 1 ≤ count slot sets.active

  -- and an event that hands over under a slot that is active, and reclaims nothing, is by the model, and leaves that slot active.
  abbrev pub HandingIsByModel : Type 0
  HandingIsByModel =
      (terms : Terms) (log : List (Entry K V)) (e : Entry K V) (slot : ℕ) → changes_of log e ≡ flat_map (handing (things_in (e ∷ log)) slot) e.effects
      → left_last e.event e.outcome (moment log) ≡ [] → EndNone e.effects → flat_map thing_back e.effects ≡ [] → 1 ≤ count slot (sets_in terms.batch_size log).active
      → IsByModel terms log e × (1 ≤ count slot (sets_in terms.batch_size (e ∷ log)).active)
