-- What a seat has noted of an operation at a root, by what it knew.
use Rattle.std.specs.Prelude.{Some, None}
use Rattle.std.proofs.Common.{◌≡◌, ℕ, ap, ◌∙◌}
use Rattle.seize_words.specs.OneMemory.Op.{Load, Swap, Or, Found}
use Rattle.seize_words.specs.declared.at.At.TheVariants.{Root}
use Rattle.seize_views.specs.Views.Notes.{deed}
use Rattle.seize_views.specs.declared.view.SlotView.{SlotView}
use Rattle.seize_views.specs.declared.view.SlotView.TheVariants.{Outside, Inside, Brings}
use Rattle.seize_views.specs.declared.view.Has.{Has}
use Rattle.seize_views.specs.declared.view.Has.TheVariants.{Nothing, Made}
use Rattle.seize_views.specs.declared.view.Deed.{Deed}
use Rattle.seize_views.specs.declared.view.Deed.TheVariants.{Looked, Wrote, Marked}

module _ {T : Type 0} (v : SlotView T) (did d : Deed T) (slot r word old : ℕ) where
  -- it has put the block that it has made
  pub put_noted : (b : ℕ) (x : T) → v ≡ Inside slot (Made b x) → d ≡ deed v did (Swap (Root r) word) (Found old) → d ≡ Wrote r word (Some x) old
  put_noted b x is so = so ∙ ap (λ (u : SlotView T). deed u did (Swap (Root r) word) (Found old)) is

  -- or taken what was there, within a section or outside of one
  pub removed_noted : v ≡ Inside slot Nothing → d ≡ deed v did (Swap (Root r) word) (Found old) → d ≡ Wrote r word None old
  removed_noted is so = so ∙ ap (λ (u : SlotView T). deed u did (Swap (Root r) word) (Found old)) is

  pub withdrawn_noted : v ≡ Outside slot → d ≡ deed v did (Swap (Root r) word) (Found old) → d ≡ Wrote r word None old
  withdrawn_noted is so = so ∙ ap (λ (u : SlotView T). deed u did (Swap (Root r) word) (Found old)) is

  -- it has looked
  pub looked_noted : (has : Has T) → v ≡ Inside slot has → d ≡ deed v did (Load (Root r)) (Found old) → d ≡ Looked r old
  looked_noted has is so = so ∙ ap (λ (u : SlotView T). deed u did (Load (Root r)) (Found old)) is

  -- or set bits of the word there
  pub marked_noted : (has : Has T) (bits : ℕ) → v ≡ Inside slot has → d ≡ deed v did (Or (Root r) bits) (Found old) → d ≡ Marked r bits old
  marked_noted has bits is so = so ∙ ap (λ (u : SlotView T). deed u did (Or (Root r) bits) (Found old)) is

-- without a slot, too
module _ {T : Type 0} (v : SlotView T) (did d : Deed T) (r word there b : ℕ) (x : T) (is : v ≡ Brings b x) where
  pub own_noted : (old : ℕ) → d ≡ deed v did (Swap (Root r) word) (Found old) → d ≡ Wrote r word (Some x) old
  own_noted old so = so ∙ ap (λ (u : SlotView T). deed u did (Swap (Root r) word) (Found old)) is
