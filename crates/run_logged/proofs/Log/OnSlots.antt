-- The beginning of a row on a slot is written down, and a step of it.
use Rattle.std.specs.Prelude.{◌≡◌, ℕ, Bool, List, ◌++◌, None}
use Rattle.std.proofs.Common.{subst, sym}
use Rattle.seize.specs.World.{Begin, Step}
use Rattle.papaya_raw.specs.Given.TablesDeclared.node.Node.{Node}
use Rattle.run_schedules.specs.declared.effect.Effect.{Effect}
use Rattle.run_schedules.specs.Schedules.Effects.{with_effects}
use Rattle.run_schedules.specs.Schedules.Moment.{Moment}
use Rattle.run_effects.specs.Effects.Effects.{effects_of, known_after}
use Rattle.run_effects.specs.Effects.Known.{Known, known}
use Rattle.run_effects.specs.declared.notes.Notes.{Notes}
use Rattle.run_effects.specs.declared.acting.Acting.TheVariants as acts
use Rattle.run_executor.specs.declared.executor.Executor.{Executor}
use Rattle.run_shows.specs.declared.row.RowTold.{RowTold}
use Rattle.run_shows.specs.declared.row.SlotCall.{SlotCall}
use Rattle.run_shows.specs.Others.Rows.{scene_then}
use Rattle.run_executor.proofs.Given.MomentsOnSlots.{rows_begin_whole, rows_keep_whole}
use Rattle.run_executor.specs.Given.MomentsWhole.{RefinesWhole}
use Rattle.run_kept.specs.Kept.Kept.{RefinesKept}
use Rattle.run_kept.proofs.Kept.Others.{rows_begin_kept, rows_keep_kept, rows_find_kept}
use Rattle.run_logged.specs.Log.OnSlots.{OnSlotBegins, OnSlotContinues, OnSlotSteps}
use Rattle.run_logged.specs.Log.Shown.{IsShown}
use Rattle.run_logged.specs.declared.logged.Logged.{Logged}
use Rattle.run_logged.proofs.Log.Counted.{counted_row_begins, counted_row_steps}
use Rattle.run_kept.proofs.Sheds.LeftNoted.{rows_note_left}
use Rattle.run_executor.specs.Executing.IsThere.{IsThere, PreservesSettings, held_by}
use Rattle.run_executor.specs.Executing.OnSlots.{RowBeginsThere, RowStepsThere}
use Rattle.run_shows.specs.Scenes.Rows.{request_of}
use Rattle.run_shows.specs.Scenes.Scene.{Scene, slot_of}
use Rattle.run_kept.proofs.Sheds.Held.{begun_held}
use Rattle.run_executor.proofs.Executing.RowLeads.{has_row, held_row}

module _ {K V S : Type 0} (same : K → K → Bool) (hash : K → ℕ) where
  pub on_slot_begins : (old new : Logged K V S) (called : SlotCall) (i : ℕ)
      → ((s : Scene K V) → IsThere same hash old.executor s → RowBeginsThere same hash called i s old.executor new.executor)
      → new.notes ≡ old.notes → PreservesSettings old.executor new.executor
      → (name : ℕ → List ℕ) (m : Moment K V) (s : Scene K V) → IsShown same hash name m old s → OnSlotBegins same hash name m s called i old new
  on_slot_begins old new called i begins noted given name m s shown may =
      let went = begins s shown.is_at in
      let leads = begun_held same hash s old.executor new.executor i called may went in
      let then_at = scene_then same (λ map. hash) (Begin i (request_of (slot_of i) called)) s (held_by old.executor) (held_by new.executor) leads.2 in (
        went,
        record {
          is_at = (went may).3.2.4;
          shows = subst (λ (n : Notes). RefinesWhole {K = K} {V = V} same name m (known n) then_at) (sym noted)
              (rows_begin_whole K V same (λ map. hash) name m (known old.notes) s (held_by old.executor) (held_by new.executor) shown.is_at.held shown.shows called i leads);
          kept = subst (λ (n : Notes). RefinesKept {K = K} {V = V} name m (known n) then_at) (sym noted)
              (rows_begin_kept K V same (λ map. hash) name m (known old.notes) s (held_by old.executor) (held_by new.executor) shown.is_at.held shown.kept called i leads);
          counted = counted_row_begins same (λ map. hash) old new given noted m s shown.is_at.held shown.counted called i leads;
        },
      )

  on_slot_so : (old : Logged K V S) (stepped : Executor K V S) (notes : Notes) (i : ℕ) (told : RowTold (Node K V))
      → ((s : Scene K V) → IsThere same hash old.executor s → RowStepsThere same hash i told s old.executor stepped)
      → known notes ≡ known_after acts.Row stepped.memory.changed (known old.notes) → PreservesSettings old.executor stepped
      → (name : ℕ → List ℕ) (m : Moment K V) (s : Scene K V) → IsShown same hash name m old s
      → OnSlotContinues same hash name m s i told (effects_of acts.Row (known old.notes) stepped.memory.changed) old (record { executor = stepped; notes = notes })
  on_slot_so old stepped notes i told stepping noted given name m s shown row here =
      let went = stepping s shown.is_at in
      let on = (went row here).0 in
      let leads = held_row same hash s old.executor stepped shown.is_at i told went in
      let then_at = scene_then same (λ map. hash) (Step i) s (held_by old.executor) (held_by stepped) (leads row on).2 in
      let effects = effects_of acts.Row (known old.notes) stepped.memory.changed in
      let finds = rows_find_kept K V same (λ map. hash) name m (known old.notes) s (held_by old.executor) (held_by stepped) shown.is_at.held shown.shows shown.kept i told leads row on in (
        on,
        leads,
        record {
          is_at = (went row (has_row same hash old.executor s shown.is_at i row on)).5.4;
          shows = subst (λ (k : Known). RefinesWhole {K = K} {V = V} same name (with_effects None None effects m) k then_at) (sym noted)
              (rows_keep_whole K V same (λ map. hash) name m (known old.notes) s (held_by old.executor) (held_by stepped) shown.is_at.held shown.shows i told leads row on finds.0 finds.1);
          kept = subst (λ (k : Known). RefinesKept {K = K} {V = V} name (with_effects None None effects m) k then_at) (sym noted)
              (rows_keep_kept K V same (λ map. hash) name m (known old.notes) s (held_by old.executor) (held_by stepped) shown.is_at.held shown.shows shown.kept i told leads row on);
          counted = counted_row_steps same (λ map. hash) old stepped notes given m s shown.is_at.held shown.counted i told leads row on noted
              (rows_note_left same (λ map. hash) (known old.notes) s (held_by old.executor) (held_by stepped) shown.is_at.held i told leads row on);
        },
      )

-- The executor has taken the step, and then its memory was noted: the executor stayed as it was.
pub on_slot_steps : {K V S : Type 0} (old new : Logged K V S) (stepped : Executor K V S) (i : ℕ) (told : RowTold (Node K V)) (before after : List Effect)
    → ((same : K → K → Bool) (hash : K → ℕ) (s : Scene K V) → IsThere same hash old.executor s → RowStepsThere same hash i told s old.executor stepped)
    → after ≡ before ++ effects_of acts.Row (known old.notes) stepped.memory.changed
    → known new.notes ≡ known_after acts.Row stepped.memory.changed (known old.notes)
    → new.executor ≡ stepped → PreservesSettings old.executor stepped → OnSlotSteps i told before after old new
on_slot_steps {K} {V} {S} old new stepped i told before after stepping did noted executor given =
    let effects = effects_of acts.Row (known old.notes) stepped.memory.changed in (
      effects,
      did,
      λ same hash name m s shown. subst (λ (e : Executor K V S). OnSlotContinues same hash name m s i told effects old (record { executor = e; notes = new.notes })) (sym executor)
          (on_slot_so same hash old stepped new.notes i told (stepping same hash) noted given name m s shown),
    )
