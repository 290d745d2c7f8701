-- A block that waits behind another one: what a seat knows that takes it out of a root, and what came of that.
use Rattle.std.specs.Prelude.{◌≡◌, ◌≢◌, ◌<◌, ◌^◌, ℕ, Option, Some, None, option_map}
use Rattle.seize_words.specs.OneMemory.Word.{link_to}
use Rattle.seize_words.specs.declared.at.At.TheVariants.{Word}
use Rattle.seize.specs.Defer.{deferring, standing}
use Rattle.seize.specs.declared.rows.defer.Deferring.{Deferring}
use Rattle.seize_views.specs.declared.view.Began.TheVariants.{Deferral}
use Rattle.seize_views.specs.declared.view.Deferral.TheVariants.{Puts}
use Rattle.seize_views.specs.declared.view.Has.{Has}
use Rattle.seize_views.specs.declared.view.Has.TheVariants.{Seen, Both, Cut}
use Rattle.seize_views.specs.declared.view.Noted.{Noted}
use Rattle.seize_views.specs.declared.view.SlotView.{SlotView}
use Rattle.seize_views.specs.declared.view.SlotView.TheVariants.{Inside, Defers}
use Rattle.seize_guards.specs.declared.deferring.Came.{Came}
use Rattle.seize_guards.specs.declared.deferring.Came.TheVariants.{Nobody, Waits, Unlinks}

module _ {T : Type 0} where
  -- who has seen this block, and has made another one, or none
  abbrev pub beside : Option (ℕ × T) → ℕ → Has T
  beside None a = Seen a
  beside (Some made) a = Both made.0 made.1 a

  abbrev pub value_made : Option (ℕ × T) → Option T
  value_made made = option_map (λ (m : ℕ × T). m.1) made

  -- the row is under way that puts the second block in front of the list of the first one, at this word of its own, and stands here
  abbrev pub putting : ℕ → ℕ → ℕ → ℕ → Deferring → SlotView T
  putting slot a field b stands = Defers slot (Puts a (standing (deferring (link_to b) (Word a field)) stands))

  -- What came of it, where this block was at the root, 0 for none: there was none; or it waits behind the one that was seen; or it was unlinked.
  abbrev pub IsCome : ℕ → ℕ → ℕ → Noted T → Came → Type 0
  IsCome slot a b w Nobody = (w.knows ≡ Inside slot (Seen a)) × (b ≡ 0)
  IsCome slot a b w Waits = (w.knows ≡ Inside slot (Seen a)) × (b ≢ 0) × (w.began ≡ Deferral)
  IsCome slot a b w (Unlinks c) = (w.knows ≡ Inside slot (Cut c)) × (b ≡ c) × (c ≢ 0) × (c < 2 ^ 53)
