-- Who has made a map of its own, or was refused, or has ended it, has come to rest.
use Rattle.std.specs.Prelude.{Option, None, Result, Ok, Err}
use Rattle.std.proofs.Common.{◌≡◌, ℕ, ap, ◌∙◌}
use Rattle.map_tables.specs.declared.node.Node.{Node}
use Rattle.map_tables.specs.declared.setting.Setting.{Setting}
use Rattle.map_machines.specs.declared.new_map.NewMap.{NewMap}
use Rattle.seize_views.specs.declared.view.SlotView.{SlotView}
use Rattle.seize_views.specs.declared.view.SlotView.TheVariants.{Rests}
use Rattle.seize_words.specs.declared.fault.Fault.{Fault}
use Rattle.threads_ends.specs.Ending.{HasEndedOwn}
use Rattle.threads_errands.specs.Given.ErrandsMaking.{HasOwnOutcome}
use Rattle.threads_errands.specs.Given.ViewsNotes.{SeatIsQuiescent}
use Rattle.threads_errands.specs.Given.ViewsRule.{side_of}
use Rattle.threads_errands.specs.Given.ViewsDeclared.view.View.{View}
use Rattle.threads_errands.specs.Given.ViewsDeclared.view.SeatWork.TheVariants.{Nothing}
use Rattle.threads_callers.proofs.Rows.{rests_so}

module _ {K V S : Type 0} (v w : View K V S) (lone : v.under ≡ None) (good : v.by ≡ None) (rests : v.slot ≡ Rests) where
  -- who stands where one stood that rested, and leans on whom that leant, rests with nothing under way
  still_rests : w.work ≡ Nothing → side_of w ≡ side_of v → w.by ≡ v.by → SeatIsQuiescent w
  still_rests free side by =
      rests_so w Rests (ap (λ (p : SlotView (Node K V) × Option (ℕ × ℕ)). p.1) side ∙ lone) (by ∙ good) (ap (λ (p : SlotView (Node K V) × Option (ℕ × ℕ)). p.0) side ∙ rests) free tt

  pub rests_ended : HasEndedOwn v w → SeatIsQuiescent w
  rests_ended ended = still_rests ended.free ended.side ended.by

module _ {K V S : Type 0} (hasher : S) (opening : NewMap) where
  pub rests_owning : (answer : Result Setting Fault) (v w : View K V S) → v.under ≡ None → v.by ≡ None → v.slot ≡ Rests → HasOwnOutcome hasher opening answer v w → SeatIsQuiescent w
  rests_owning (Ok setting) v w lone good rests came = still_rests v w lone good rests came.made.0.free came.slot came.by
  rests_owning (Err fault) v w lone good rests came = still_rests v w lone good rests came.refused.0 came.slot came.by
