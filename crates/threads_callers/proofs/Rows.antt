-- A seat of maps that has nothing but a row under way, as its notes have it, and who has come to rest.
use Rattle.std.specs.Prelude.{◌<◌, List, Option, Some, None, Result, Ok, Err, IfOk, IfErr}
use Rattle.std.proofs.Common.{◌≡◌, ℕ, Bool, sym, subst, ap, ◌∙◌}
use Rattle.seize_words.specs.declared.fault.Fault.{Fault}
use Rattle.seize_views.specs.Views.Rows.{IsQuiescent}
use Rattle.seize_views.specs.declared.view.Has.TheVariants.{Nothing as NoBlock}
use Rattle.seize_views.specs.declared.view.SlotView.{SlotView}
use Rattle.seize_views.specs.declared.view.SlotView.TheVariants.{Rests, Outside, Inside}
use Rattle.map_tables.specs.declared.node.Node.{Node}
use Rattle.map_tables.specs.declared.setting.Setting.{Setting}
use Rattle.map_machines.specs.declared.new_map.NewMap.{NewMap}
use Rattle.papaya_raw.specs.declared.machines.progress.Answer.{Answer}
use Rattle.threads_errands.specs.Given.ActsActs.{Wanted}
use Rattle.threads_errands.specs.Given.ViewsNotes.{beside_of, knows_by, row_known, notes_of, SeatIsQuiescent}
use Rattle.threads_errands.specs.Given.ViewsDeclared.view.Map.{Map}
use Rattle.threads_errands.specs.Given.ViewsDeclared.view.BegunCall.{BegunCall}
use Rattle.threads_errands.specs.Given.ViewsDeclared.view.View.{View}
use Rattle.threads_errands.specs.Given.ViewsDeclared.view.SeatWork.{SeatWork}
use Rattle.threads_errands.specs.Given.ViewsDeclared.view.SeatWork.TheVariants.{Nothing}
use Rattle.threads_errands.specs.Given.ViewsRule.{section_of, side_of, stand_of}
use Rattle.threads_errands.proofs.Given.ViewsContents.{knows_free}
use Rattle.papaya_raw.specs.declared.machines.asking.MachineReply.{MachineReply}
use Rattle.threads_errands.specs.Given.StepsAsking.{HasAnswered}
use Rattle.threads_errands.proofs.Given.ViewsLeaves.{own_section}
use Rattle.threads_errands.specs.Given.ErrandsCalling.{HasCalled}
use Rattle.threads_errands.specs.Given.ErrandsCounting.{HasCounted}
use Rattle.threads_errands.specs.Given.ErrandsLooking.{HasFound, StaysThere}
use Rattle.threads_errands.specs.Given.ErrandsMaking.{HasOutcome}

module _ {K V S : Type 0} where
  -- who has nothing else under way knows its row
  pub known_free : (v : View K V S) (x : SlotView (Node K V)) → v.under ≡ None → v.by ≡ None → v.slot ≡ x → v.work ≡ Nothing → (notes_of v).knows ≡ x
  known_free v x lone good slot free =
      ap (λ (o : Option ℕ). knows_by o (row_known v.under v.slot v.work)) good ∙ ap (λ (o : Option (ℕ × ℕ)). row_known o v.slot v.work) lone ∙ ap (λ (k : SeatWork K V S). row_known None v.slot k) free ∙ slot

  pub rests_so : (v : View K V S) (x : SlotView (Node K V)) → v.under ≡ None → v.by ≡ None → v.slot ≡ x → v.work ≡ Nothing → IsQuiescent x → SeatIsQuiescent v
  rests_so v x lone good slot free rests = subst (λ (y : SlotView (Node K V)). IsQuiescent y) (sym (known_free v x lone good slot free)) rests

  -- who stands where one stood that held this slot, and leant on nobody, does so, too
  stood : (v w : View K V S) (x : SlotView (Node K V)) → v.under ≡ None → v.slot ≡ x → side_of w ≡ side_of v → (w.under ≡ None) × (w.slot ≡ x)
  stood v w x lone slot same_stand =
      (ap (λ (p : SlotView (Node K V) × Option (ℕ × ℕ)). p.1) same_stand ∙ lone, ap (λ (p : SlotView (Node K V) × Option (ℕ × ℕ)). p.0) same_stand ∙ slot)

  -- who has come back to where it stood, with nothing under way, rests as it did
  back_there : (v w : View K V S) (x : SlotView (Node K V)) → v.under ≡ None → v.by ≡ None → v.slot ≡ x → IsQuiescent x → w.work ≡ Nothing → stand_of w ≡ stand_of v → SeatIsQuiescent w
  back_there v w x lone good slot rests free same_stand =
      let s = stood v w x lone slot (ap (λ (p : (SlotView (Node K V) × Option (ℕ × ℕ)) × Option ℕ). p.0) same_stand) in
      rests_so w x s.0 (ap (λ (p : (SlotView (Node K V) × Option (ℕ × ℕ)) × Option ℕ). p.1) same_stand ∙ good) s.1 free rests

  -- whoever leans on nobody is within the section of its own slot
  pub own_inside : (v : View K V S) (t : ℕ) → v.under ≡ None → section_of v.under v.slot ≡ Some t → v.slot ≡ Inside t NoBlock
  own_inside v t lone section = own_section v.slot t (ap (λ (o : Option (ℕ × ℕ)). section_of o v.slot) (sym lone) ∙ section)

  -- and the other way round
  pub section_own : (v : View K V S) (t : ℕ) → v.under ≡ None → v.slot ≡ Inside t NoBlock → section_of v.under v.slot ≡ Some t
  section_own v t lone inside = ap (λ (o : Option (ℕ × ℕ)). section_of o v.slot) lone ∙ ap (λ (x : SlotView (Node K V)). section_of None x) inside

  -- what the notes say of who has looked for a slot
  abbrev pub Noted : View K V S → Result ℕ Fault → Type 0
  Noted w answer = IfOk answer (λ slot. ((notes_of w).knows ≡ Outside slot) × (slot < 65536)) × IfErr answer (λ fault. (notes_of w).knows ≡ Rests)

  -- who has found a slot has it, and who has found none has none
  pub took : (w : View K V S) (answer : Result ℕ Fault) (slot : ℕ) → answer ≡ Ok slot → Noted w answer → (w.under ≡ None) × (w.work ≡ Nothing) × (w.slot ≡ Outside slot) × (w.by ≡ None)
  took w answer slot e is = knows_free w (Outside slot) tt (subst (λ (r : Result ℕ Fault). Noted w r) e is).0.0

  -- who has made a map, or was refused, rests
  pub rests_after : (hasher : S) (opening : NewMap) (answer : Result Setting Fault) (v w : View K V S) → v.under ≡ None → v.by ≡ None → v.slot ≡ Rests → HasOutcome hasher opening answer v w → SeatIsQuiescent w
  rests_after hasher opening (Ok setting) v w lone good rests came = let s = stood v w Rests lone rests came.slot in rests_so w Rests s.0 (came.good good) s.1 came.made.0.free tt
  rests_after hasher opening (Err fault) v w lone good rests came = let s = stood v w Rests lone rests came.slot in rests_so w Rests s.0 (came.good good) s.1 came.refused.0 tt

  -- what is beside a row stays: the map, and the calls
  pub map_stays : (v w : View K V S) → beside_of w ≡ beside_of v → w.map ≡ v.map
  map_stays v w e = ap (λ (b : Option (Map S) × List (BegunCall K V)). b.0) e

  pub calls_stay : (v w : View K V S) → beside_of w ≡ beside_of v → w.calls ≡ v.calls
  calls_stay v w e = ap (λ (b : Option (Map S) × List (BegunCall K V)). b.1) e

  -- and so does who has looked a key up
  pub rests_inside : (same : K → K → Bool) (hash : S → K → ℕ) (key : K) (answer : Option ℕ) (v w : View K V S) (t : ℕ) → v.under ≡ None → v.by ≡ None → section_of v.under v.slot ≡ Some t → HasFound same hash key answer v w → SeatIsQuiescent w
  rests_inside same hash key answer v w t lone good section found =
      back_there v w (Inside t NoBlock) lone good (own_inside v t lone section) tt found.looked.free found.stays.slot

  -- and so does who has run a call
  pub rests_called : (same : K → K → Bool) (hash : S → K → ℕ) (wanted : Wanted K V) (answer : Result Answer Fault) (unstored : Option (Node K V)) (v w : View K V S) (t : ℕ)
      → v.under ≡ None → v.by ≡ None → section_of v.under v.slot ≡ Some t → HasCalled same hash wanted answer unstored v w → SeatIsQuiescent w
  rests_called same hash wanted answer unstored v w t lone good section called =
      back_there v w (Inside t NoBlock) lone good (own_inside v t lone section) tt called.free called.stays.slot

  -- or has counted
  pub rests_counted : (same : K → K → Bool) (hash : S → K → ℕ) (count : ℕ) (v w : View K V S) (t : ℕ) → v.under ≡ None → v.by ≡ None → section_of v.under v.slot ≡ Some t → HasCounted same hash count v w
      → SeatIsQuiescent w
  rests_counted same hash count v w t lone good section counted =
      back_there v w (Inside t NoBlock) lone good (own_inside v t lone section) tt counted.free counted.stays.slot

  -- or has come back, whatever it was sent for
  pub rests_there : (v w : View K V S) (t : ℕ) → v.under ≡ None → v.by ≡ None → v.slot ≡ Inside t NoBlock → w.work ≡ Nothing → StaysThere v w → SeatIsQuiescent w
  rests_there v w t lone good inside free stays = back_there v w (Inside t NoBlock) lone good inside tt free stays.slot

  -- or one that has asked
  pub rests_answered : (same : K → K → Bool) (hash : S → K → ℕ) (says : Option (K × V) → MachineReply V → Type 0) (wanted : Wanted K V) (answer : Result Answer Fault) (v w : View K V S) (t : ℕ)
      → v.under ≡ None → v.by ≡ None → section_of v.under v.slot ≡ Some t → HasAnswered same hash says wanted answer v w → SeatIsQuiescent w
  rests_answered same hash says wanted answer v w t lone good section answered =
      back_there v w (Inside t NoBlock) lone good (own_inside v t lone section) tt answered.free answered.stays.slot
