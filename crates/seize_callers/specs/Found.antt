-- What a pass does at a root where it finds this word: it looks, or sets these bits of it.
use Rattle.std.specs.Prelude.{ℕ, Option, Some, None}
use Rattle.seize_views.specs.declared.view.Deed.{Deed}
use Rattle.seize_views.specs.declared.view.Deed.TheVariants.{Looked, Marked}

abbrev pub found_at : {T : Type 0} → ℕ → Option ℕ → ℕ → Deed T
found_at r None word = Looked r word
found_at r (Some bits) word = Marked r bits word
