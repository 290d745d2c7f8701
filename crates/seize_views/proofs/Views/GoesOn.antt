-- Each row goes on: its next operation may be made at any moment.
use Rattle.std.proofs.Common.{◌≡◌, ℕ, subst}
use Rattle.std.specs.Prelude.{Option, Some}
use Rattle.seize_words.specs.OneMemory.Op.{Op, Store, Swap}
use Rattle.seize_words.specs.declared.at.At.TheVariants.{Slot}
use Rattle.seize.specs.declared.states.TheConstants.{HEAD, FREE, ACTIVE}
use Rattle.seize.specs.World.{World, Use}
use Rattle.seize_views.specs.Views.Rows.{head_of}
use Rattle.seize_views.specs.Views.Told.{told}
use Rattle.seize_views.specs.Views.Promises.{op_of, RowsContinue}
use Rattle.seize_views.specs.declared.view.SlotView.{SlotView}
use Rattle.seize_views.specs.declared.view.SlotView.TheVariants.{Rests, Registers, Outside, Owes, Enters, Inside, Settles, Leaves, Left, Frees, Brings, Bears, Watches, Under, Joins, Defers, Busy}
use Rattle.seize_views.specs.declared.view.Fixed.{Fixed}
use Rattle.seize_views.proofs.Views.InWorld.{IsJustSo, just_so, IsLikeness, HasRow, MayMake}
use Rattle.seize_views.proofs.Views.Lifted.{has_row, makes}
use Rattle.seize_views.proofs.Views.Operations.{enters, leaves, frees}
use Rattle.seize_views.proofs.Views.Registers.{registers}
use Rattle.seize_views.proofs.Views.Settling.{settles}
use Rattle.seize_words.proofs.General.{same_some}

-- in a world
module _ {T : Type 0} (defers : T → Option ℕ) (fixed : Fixed) (Is : Use → Use → Type 0) (like : IsLikeness Is) (w : World T) (i : ℕ) where
  abbrev May : SlotView T → Op T → Type 0
  May v op = MayMake defers fixed Is w i v op (told defers v op)

  pub goes_on : (v : SlotView T) (op : Op T) → HasRow defers fixed Is w i v → op_of defers v ≡ Some op → May v op
  goes_on Rests op h e = absurd (cc e)
  goes_on (Registers c) op h e = registers defers fixed Is like w i c h op e
  goes_on (Outside t) op h e = absurd (cc e)
  goes_on (Brings b x) op h e = absurd (cc e)
  goes_on (Bears b) op h e = absurd (cc e)
  goes_on (Watches t b) op h e = absurd (cc e)
  goes_on (Under n t b) op h e = absurd (cc e)
  goes_on (Joins block) op h e = absurd (cc e)
  goes_on (Defers t c) op h e = absurd (cc e)
  goes_on (Busy t) op h e = absurd (cc e)
  goes_on (Owes t b) op h e = absurd (cc e)
  goes_on (Enters t) op h e = subst (May (Enters t)) (same_some (Store (Slot t HEAD) ACTIVE) op e) (enters defers fixed Is like w i t h)
  goes_on (Inside t has) op h e = absurd (cc e)
  goes_on (Settles c why seen left) op h e = settles defers fixed Is like w i c why seen left h op e
  goes_on (Leaves t size way) op h e =
      subst (May (Leaves t size way)) (same_some (Swap (Slot t HEAD) (head_of way)) op e) (leaves defers fixed Is like w i t size way h)
  goes_on (Left t size way) op h e = absurd (cc e)
  goes_on (Frees t) op h e = subst (May (Frees t)) (same_some (Store (Slot t HEAD) FREE) op e) (frees defers fixed Is like w i t h)

module _ (T : Type 0) (defers : T → Option ℕ) where
  pub rows_go_on : RowsContinue T defers
  rows_go_on fixed id v op e s h at_id =
      makes defers fixed s id v h at_id op (told defers v op) (goes_on defers fixed IsJustSo just_so s.world id v op (has_row defers fixed s id v h at_id) e)
