-- What who has a slot has done last at a root.
use Rattle.std.specs.Prelude.{ℕ, Option, Some, None, ◌==◌, if◌then◌else◌}
use Rattle.seize_words.specs.OneMemory.Word.{block_in}
use Rattle.seize_views.specs.declared.view.Deed.{Deed}
use Rattle.seize_views.specs.declared.view.Deed.TheVariants.{Wrote}

module _ {T : Type 0} where
  -- it has put a value there: where, and which
  abbrev pub has_put : Deed T → Option (ℕ × T)
  has_put (Wrote r word (Some x) was) = Some (r, x)
  has_put _ = None

  -- it has taken away what was there, and nothing came in its place: where
  abbrev pub has_taken : Deed T → Option ℕ
  has_taken (Wrote r word None was) = if block_in was == 0 then None else Some r
  has_taken _ = None
