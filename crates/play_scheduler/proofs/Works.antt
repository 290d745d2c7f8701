-- What an event has done is what its functions have done.
use Rattle.std.specs.Prelude.{◌≡◌, ℕ, true, List, []}
use Rattle.std.proofs.Common.{refl, sym, subst, inl, inr}
use Rattle.seize.specs.declared.advance.Advance.{Advance}
use Rattle.seize_words.specs.declared.fault.Fault.{Fault}
use Rattle.papaya_raw.specs.Given.TablesDeclared.node.Node.{Node}
use Rattle.papaya_raw.specs.Given.TablesDeclared.setting.Setting.{Setting}
use Rattle.run_schedules.specs.declared.effect.Effect.{Effect}
use Rattle.run_schedules.specs.declared.event.Event.{Event}
use Rattle.run_schedules.specs.declared.outcome.Outcome.TheVariants.{Done, Refused}
use Rattle.run_shows.specs.declared.row.RowTold.{RowTold}
use Rattle.run_shows.specs.declared.row.SlotCall.{SlotCall}
use Rattle.run_logged.specs.Log.Ends.{EndRan}
use Rattle.run_logged.specs.Log.Goes.{EndGone, MakingGone}
use Rattle.run_logged.specs.Log.Makings.{MakingRan}
use Rattle.run_logged.specs.Log.Roots.{MakingFinds}
use Rattle.run_logged.specs.declared.logged.Logged.{Logged}
use Rattle.run_logged.specs.Rows.Rows.{RowRan, RowRanOn}
use Rattle.play_scheduler.specs.Works.{HasOutcomeBy, HasNoRow, IsAbout, IsItsRow, WorksOnSlot}
use Rattle.play_scheduler.specs.declared.played.Played.{Played}
use Rattle.play_scheduler.specs.declared.scheduler.Scheduler.{Scheduler}

module _ {K V S : Type 0} (event : Event K V) (old : Scheduler K V S) (played : Played V) where
  -- it was refused, and did nothing;
  pub did_refuse : (fault : Fault) → played.outcome ≡ Refused fault → played.effects.items ≡ [] → WorksOnSlot played old old event
  did_refuse fault is none = (refl, inl (fault, is, (none, refl)))

  module _ (slot : ℕ) (about : IsAbout event old slot) (new : Scheduler K V S) (calls : new.calls ≡ old.calls) where
    -- there was nothing to be done on its slot;
    pub did_none : played.outcome ≡ Done → HasNoRow event old.there slot → played.effects.items ≡ [] → new.logged ≡ old.logged → WorksOnSlot played old new event
    did_none done no_row none still = (calls, inr (slot, about, inl (done, no_row, (none, still))))

    -- or its row has run there
    module _ (called : SlotCall) (its : IsItsRow event old slot called) (before after : List Effect) (nothing : before ≡ []) (effects : played.effects.items ≡ after) (q : Logged K V S) (is : new.logged ≡ q) where
      pub did_told : (said : RowTold (Node K V)) → HasOutcomeBy event said played.outcome → RowRan slot called said before after old.logged q → WorksOnSlot played old new event
      did_told said comes ran = (
        calls,
        inr (
          slot,
          about,
          inr (
            called,
            its,
            said,
            comes,
            subst (λ (l : Logged K V S). RowRan slot called said [] played.effects.items old.logged l) (sym is)
                (subst (λ (xs : List Effect). RowRan slot called said [] xs old.logged q) (sym effects)
                (subst (λ (xs : List Effect). RowRan slot called said xs after old.logged q) nothing ran)),
          ),
        ),
      )

      pub did_row : ((said : RowTold (Node K V)) → HasOutcomeBy event said played.outcome) → RowRanOn slot called before after old.logged q → WorksOnSlot played old new event
      did_row comes ran = did_told ran.0 (comes ran.0) ran.1

-- What has run from an empty list is so, of the map by its number, and by what was told.
module _ {K V S : Type 0} (i map number : ℕ) (is : map ≡ number) (said last : Advance Setting) (told : said ≡ last) (before after : List Effect) (nothing : before ≡ []) (began new : Logged K V S) where
  abbrev So : (ℕ → Advance Setting → List Effect → Type 0) → Type 0
  So P = P map said before → P number last []

  so : (P : ℕ → Advance Setting → List Effect → Type 0) → So P
  so P it = subst (λ (xs : List Effect). P number last xs) nothing (subst (λ (x : Advance Setting). P number x before) told (subst (λ (n : ℕ). P n said before) is it))

  pub run_as : MakingRan i map said before after began new → MakingRan i number last [] after began new
  run_as = so (λ n x xs. MakingRan i n x xs after began new)

  pub finds_as : MakingFinds i map said before after began new → MakingFinds i number last [] after began new
  finds_as = so (λ n x xs. MakingFinds i n x xs after began new)

  pub gone_as : MakingGone i map said before after began new → MakingGone i number last [] after began new
  gone_as = so (λ n x xs. MakingGone i n x xs after began new)

module _ {K V S : Type 0} (i number : ℕ) (before after : List Effect) (nothing : before ≡ []) (began new : Logged K V S) where
  pub end_ran_as : EndRan i number true before after began new → EndRan i number true [] after began new
  end_ran_as = subst (λ (xs : List Effect). EndRan i number true xs after began new) nothing

  pub end_gone_as : EndGone i number before after began new → EndGone i number [] after began new
  end_gone_as = subst (λ (xs : List Effect). EndGone i number xs after began new) nothing
