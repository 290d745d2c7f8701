-- That all is reclaimed begins where the executor is shown, and each step of it is written down.
use Rattle.std.specs.Prelude.{◌≡◌, ℕ, Bool, List, length, ◌++◌, None}
use Rattle.std.proofs.Common.{sym, subst}
use Rattle.seize.specs.declared.rows.reclaim_all.ReclaimAll.{ReclaimAll}
use Rattle.seize.specs.declared.rows.settle.Settled.{Settled}
use Rattle.seize.specs.declared.rows.settle.Settled.TheVariants as settled
use Rattle.papaya_raw.specs.Given.TablesDeclared.node.Node.{Node}
use Rattle.run_schedules.specs.declared.effect.Effect.{Effect}
use Rattle.run_schedules.specs.Schedules.Effects.{with_effects}
use Rattle.run_schedules.specs.Schedules.Moment.{Moment}
use Rattle.run_effects.specs.Effects.Effects.{effects_of, known_after}
use Rattle.run_effects.specs.Effects.Known.{Known, known}
use Rattle.run_effects.specs.declared.acting.Acting.TheVariants.{Row}
use Rattle.run_effects.specs.declared.notes.Notes.{Notes}
use Rattle.run_executor.specs.declared.executor.Executor.{Executor}
use Rattle.run_executor.specs.ReclaimsAll.Reclaiming.{IsReclaimingThere, ReclaimsThere}
use Rattle.run_executor.specs.Given.MomentsWhole.{RefinesWhole}
use Rattle.run_kept.specs.Kept.Kept.{RefinesKept}
use Rattle.run_logged.specs.Log.Reclaims.{ReclaimingIsShown, ReclaimingThen, ReclaimingContinues, ReclaimingSteps}
use Rattle.run_logged.specs.Log.Shown.{AreNumbered, IsShown}
use Rattle.run_logged.specs.declared.logged.Logged.{Logged}
use Rattle.run_kept.specs.Given.RemainsNumbered.{NumbersUpTo}
use Rattle.run_kept.specs.Given.RemainsSlots.{SlotsNoted}
use Rattle.run_kept.proofs.Sheds.Reclaiming.Numbered.{reclaiming_keeps_count, reclaiming_notes_slots}
use Rattle.run_logged.proofs.Log.Reclaiming.Rest.{reclaiming_found, reclaiming_keeps}
use Rattle.run_kept.proofs.Sheds.Reclaiming.Steps.{reclaiming_whole}
use Rattle.run_executor.specs.Executing.IsThere.{IsThere, PreservesSettings, held_by}
use Rattle.run_shows.specs.Scenes.Scene.{Scene}
use Rattle.run_kept.proofs.Sheds.Held.{reclaim_held}
use Rattle.run_shows.specs.Scenes.Reclaiming.{ReclaimingOutcomeHolds}

module _ {K V S : Type 0} (same : K → K → Bool) (hash : K → ℕ) where
  -- it begins where the executor is shown
  pub reclaiming_begins : (l : Logged K V S) (name : ℕ → List ℕ) (m : Moment K V) (s : Scene K V) (i : ℕ) (lists : ℕ → List ℕ) (all : ReclaimAll) → IsShown same hash name m l s
      → IsReclaimingThere same hash l.executor s i lists all → ReclaimingIsShown same hash name m l s i lists all
  reclaiming_begins l name m s i lists all shown at = record { under_way = at; shows = shown.shows; kept = shown.kept; numbered = shown.counted.numbered }

  module _ (old : Logged K V S) (stepped : Executor K V S) (notes : Notes) (name : ℕ → List ℕ) (m : Moment K V) (s : Scene K V) (i : ℕ) (lists : ℕ → List ℕ) (before after : ReclaimAll) where
    abbrev moment_then : Moment K V
    moment_then = with_effects None None (effects_of Row (known old.notes) stepped.memory.changed) m

    abbrev then_logged : Logged K V S
    then_logged = record { executor = stepped; notes = notes }

    then_so : (to : Scene K V) (lists2 : ℕ → List ℕ) (told : Settled (Node K V)) → ReclaimingOutcomeHolds same s i lists (λ s2 lists3 all. IsReclaimingThere same hash stepped s2 i lists3 all) (IsThere same hash stepped) (held_by old.executor) (held_by stepped) to lists2 after told
        → RefinesWhole same name moment_then (known notes) to → RefinesKept name moment_then (known notes) to → AreNumbered moment_then then_logged
        → ReclaimingThen same hash name moment_then s i lists to lists2 after old then_logged told
    then_so to lists2 settled.Goes comes shows kept numbered = record { under_way = comes; shows = shows; kept = kept; numbered = numbered }
    then_so to lists2 settled.Waits comes shows kept numbered = record { under_way = comes; shows = shows; kept = kept; numbered = numbered }
    then_so to lists2 (settled.Gave value) comes shows kept numbered = record { under_way = comes; shows = shows; kept = kept; numbered = numbered }
    then_so to lists2 settled.Done comes shows kept numbered = (comes.0, record { is_at = comes.1; shows = shows; kept = kept; numbered = numbered })

    reclaiming_so : (told : Settled (Node K V))
        → ((s : Scene K V) (i : ℕ) (lists : ℕ → List ℕ) → IsReclaimingThere same hash old.executor s i lists before → ReclaimsThere same hash s i lists old.executor stepped before after told)
        → known notes ≡ known_after Row stepped.memory.changed (known old.notes) → PreservesSettings old.executor stepped → ReclaimingIsShown same hash name m old s i lists before
        → ReclaimingContinues same hash name m s i lists before after told (effects_of Row (known old.notes) stepped.memory.changed) old then_logged
    reclaiming_so told stepping noted given shown =
        let went = stepping s i lists shown.under_way in
        let leads = reclaim_held same hash s old.executor stepped i lists before after told went in
        let to : Scene K V = record s { world = leads.1.w2; maps = leads.1.maps2 } in
        let found = reclaiming_found same (λ map. hash) name m (known old.notes) s shown.shows shown.kept (held_by old.executor) (held_by stepped) i lists before after told shown.under_way.held leads in (
          leads,
          found,
          then_so to leads.1.lists2 told went.2
              (subst (λ (k : Known). RefinesWhole {K = K} {V = V} same name moment_then k to) (sym noted)
              (reclaiming_whole same (λ map. hash) name m (known old.notes) s shown.shows (held_by old.executor) (held_by stepped) i lists before after told shown.under_way.held leads found.0 found.1))
              (subst (λ (k : Known). RefinesKept {K = K} {V = V} name moment_then k to) (sym noted)
              (reclaiming_keeps same (λ map. hash) name m (known old.notes) s shown.shows shown.kept (held_by old.executor) (held_by stepped) i lists before after told shown.under_way.held leads))
              (record {
                numbers = subst (λ (n : ℕ). NumbersUpTo n moment_then) (sym given.3)
                    (reclaiming_keeps_count same (λ map. hash) name m (known old.notes) s shown.shows (held_by old.executor) (held_by stepped) i lists before after told shown.under_way.held leads (length old.executor.maps.items) shown.numbered.numbers);
                slots = subst (λ (k : Known). SlotsNoted k stepped.memory.memory) (sym noted) (reclaiming_notes_slots same (λ map. hash) name m (known old.notes) s shown.shows (held_by old.executor) (held_by stepped) i lists before after told shown.under_way.held leads shown.numbered.slots);
              }),
        )

-- The step was taken, and then the memory was noted: the executor stayed as it was.
pub reclaiming_steps : {K V S : Type 0} (old new : Logged K V S) (stepped : Executor K V S) (before after : ReclaimAll) (told : Settled (Node K V)) (had has : List Effect)
    → ((same : K → K → Bool) (hash : K → ℕ) (s : Scene K V) (i : ℕ) (lists : ℕ → List ℕ) → IsReclaimingThere same hash old.executor s i lists before
    → ReclaimsThere same hash s i lists old.executor stepped before after told)
    → has ≡ had ++ effects_of Row (known old.notes) stepped.memory.changed
    → known new.notes ≡ known_after Row stepped.memory.changed (known old.notes)
    → new.executor ≡ stepped → PreservesSettings old.executor stepped → ReclaimingSteps before after told had has old new
reclaiming_steps {K} {V} {S} old new stepped before after told had has stepping did noted executor given =
    let effects = effects_of Row (known old.notes) stepped.memory.changed in (
      effects,
      did,
      λ same hash name m s i lists shown.
          subst (λ (e : Executor K V S). ReclaimingContinues same hash name m s i lists before after told effects old (record { executor = e; notes = new.notes })) (sym executor)
          (reclaiming_so same hash old stepped new.notes name m s i lists before after told (stepping same hash) noted given shown),
    )
