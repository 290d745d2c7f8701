-- Where a row begins on a slot, and where nothing happens to slots and blocks, what is sheltered stays so.
use Rattle.std.specs.Prelude.{◌≡◌, ℕ, Bool, true, false, List, Option, Some, None}
use Rattle.std.proofs.Common.{ap, sym, subst}
use Rattle.run_places.specs.Given.SeizeLaw.{Effect as Happened, holds}
use Rattle.run_places.specs.Given.SeizeWorld.{World, Use, Outside, Changing, IsInside, Begins, with_at}
use Rattle.run_places.specs.Given.TablesNodes.{deferred_word}
use Rattle.run_places.specs.Given.TablesDeclared.node.Node.{Node}
use Rattle.run_places.specs.Given.RunsPresent.{Present, guard_of}
use Rattle.run_places.specs.Given.RunsDeclared.holders.NamedGuard.{NamedGuard}
use Rattle.run_places.specs.Given.RunsDeclared.call.Call.{Call}
use Rattle.run_places.specs.Given.SchedulesBeginning.{with_call}
use Rattle.run_places.specs.Given.SchedulesMoment.{Sheltered, Moment}
use Rattle.run_places.proofs.Given.CallersTogether.At.{at_other}
use Rattle.run_places.proofs.Given.CallersTogether.Handed.{inside_on}
use Rattle.run_places.specs.Given.EffectsKnown.{Known}
use Rattle.run_places.specs.Given.ScenesDeclared.row.SlotCall.{SlotCall}
use Rattle.run_places.specs.Given.ScenesDeclared.row.SlotCall.TheVariants as call
use Rattle.run_places.specs.Given.OthersWalks.{given_up}
use Rattle.run_histories.specs.Promises.Others.{SparesGuards, NobodyOn, RowsBeginShelter, HoldByCalls, HoldByMaps, SectionsContinue}
use Rattle.run_histories.specs.Promises.Sheltered.{GuardsAreInside, IsSheltered, AreSheltered, SectionsHold}
use Rattle.run_histories.proofs.Promises.Lists.{all_of}
use Rattle.run_places.specs.Given.ScenesRows.{request_of}
use Rattle.run_places.specs.Given.ScenesScene.{slot_of}

module _ {K V : Type 0} (size slot i : ℕ) (w w2 : World (Node K V)) where
  -- a guard on another slot is within its section still
  other_inside : w2.uses ≡ with_at w.uses slot Changing → (t : ℕ) → (t ≡ slot → ⊥) → IsInside (w.uses t) → IsInside (w2.uses t)
  other_inside uses t apart inside = subst IsInside (sym (ap (λ (f : ℕ → Use). f t) uses)) (subst IsInside (sym (at_other w.uses slot Changing t apart)) inside)

  module _ (there : Present) where
    -- sections that have guards go on
    abbrev GuardsGoOn : Type 0
    GuardsGoOn = (own : List ℕ) (g : NamedGuard) → guard_of own there.guards ≡ Some g → IsInside (w.uses g.slot) → IsInside (w2.uses g.slot)

    others_go : NobodyOn slot there → w2.uses ≡ with_at w.uses slot Changing → GuardsGoOn
    others_go none uses own g is inside = other_inside uses g.slot (none own g is) inside

    -- none of them is on a slot that is outside
    outside_has_nobody : w.uses slot ≡ Outside 0 → GuardsAreInside there w → NobodyOn slot there
    outside_has_nobody outside inside own g is on = subst IsInside outside (subst (λ (t : ℕ). IsInside (w.uses t)) on (inside own g is))

    begun_inside : (called : SlotCall) → Begins deferred_word size i (request_of slot called) w w2 → SparesGuards called slot there → GuardsAreInside there w → GuardsGoOn
    begun_inside (call.Register enters) h spares all = λ own g is inside. subst (λ (u : World (Node K V)). IsInside (u.uses g.slot)) (sym h) inside
    begun_inside call.Enter h spares all = others_go (outside_has_nobody h.0 all) (ap (λ (u : World (Node K V)). u.uses) h.1)
    begun_inside call.Leave h spares all = others_go spares (ap (λ (u : World (Node K V)). u.uses) h.1)
    begun_inside call.LeaveOwned h spares all = others_go spares (ap (λ (u : World (Node K V)). u.uses) h.1)
    begun_inside call.Refresh h spares all = others_go spares (ap (λ (u : World (Node K V)). u.uses) h.1)
    begun_inside call.Unregister h spares all = others_go (outside_has_nobody h.0 all) (ap (λ (u : World (Node K V)). u.uses) h.1)
    begun_inside call.Flush h spares all = λ own g is inside. subst (λ (u : World (Node K V)). IsInside (u.uses g.slot)) (sym h.1) (inside_on w.uses slot g.slot inside)

  begun_log : (called : SlotCall) → Begins deferred_word size i (request_of slot called) w w2 → w2.log ≡ w.log
  begun_log (call.Register enters) h = ap (λ (u : World (Node K V)). u.log) h
  begun_log call.Enter h = ap (λ (u : World (Node K V)). u.log) h.1
  begun_log call.Leave h = ap (λ (u : World (Node K V)). u.log) h.1
  begun_log call.LeaveOwned h = ap (λ (u : World (Node K V)). u.log) h.1
  begun_log call.Refresh h = ap (λ (u : World (Node K V)). u.log) h.1
  begun_log call.Unregister h = ap (λ (u : World (Node K V)). u.log) h.1
  begun_log call.Flush h = ap (λ (u : World (Node K V)). u.log) h.1

  module _ (there : Present) (called : SlotCall) (h : Begins deferred_word size i (request_of slot called) w w2) (spares : SparesGuards called slot there) (inside : GuardsAreInside there w) (known : Known) where
    one_goes_on : (x : Sheltered) → IsSheltered there w known x → IsSheltered there w2 known x
    one_goes_on x (come, g, is, in_it, each) = (
      come,
      g,
      is,
      begun_inside there called h spares inside x.guard g is in_it,
      λ b of. subst (λ (log : List Happened). holds g.slot b log ≡ true) (sym (begun_log called h)) (each b of),
    )

    begun_shelters : (xs : List Sheltered) → AreSheltered there w known xs → GuardsAreInside there w2 × AreSheltered there w2 known xs
    begun_shelters xs all =
        (λ own g is. begun_inside there called h spares inside own g is (inside own g is), all_of (IsSheltered there w known) (IsSheltered there w2 known) xs one_goes_on all)

module _ (K V : Type 0) (same : K → K → Bool) (hash : ℕ → K → ℕ) where
  pub rows_begin_shelter : RowsBeginShelter K V same hash
  rows_begin_shelter s old new called i leads there spares inside known xs all =
      let to = leads.2 in begun_shelters old.batch_size (slot_of i) i s.world to.0 there called to.1.1 spares inside known xs all

module _ {K V : Type 0} (m : Moment K V) (known : Known) (w : World (Node K V)) (hold : SectionsHold m known w) where
  begins : (own guard : List ℕ) (call : Call K V) (map : Option ℕ) → SectionsHold (with_call own guard call map m) known w
  begins own guard call None = hold
  begins own guard call (Some map) = (hold.0, hold.1)

  stops : (own : List ℕ) (stopped : Bool) → SectionsHold (given_up own stopped m) known w
  stops own true = (hold.0, hold.1)
  stops own false = hold

  hold_by_calls : HoldByCalls m known w
  hold_by_calls = record { begins = begins; takes = λ own reply. (hold.0, hold.1); comes_to = λ own outcome steps. (hold.0, hold.1); stops = stops }

  hold_by_maps : HoldByMaps m known w
  hold_by_maps = record { comes = λ there. (hold.0, hold.1); ends = λ owner. (hold.0, hold.1); over = λ own remains. (hold.0, hold.1); has = λ memory. (hold.0, hold.1) }

pub sections_go_on : (K V : Type 0) → SectionsContinue K V
sections_go_on K V m known w hold = (hold_by_calls m known w hold, hold_by_maps m known w hold)
