-- A call that is to remove the pair of a key, by straight code from the root on, and what its seat knows then.
use Rattle.std.specs.Prelude.{ℕ, Bool, Ok}
use Rattle.map_tables.specs.declared.setting.Setting.{Setting}
use Rattle.papaya_raw.specs.declared.machines.progress.Answer.TheVariants.{Key as OfKey}
use Rattle.threads_steps.specs.Given.ViewsDeclared.view.View.{View}
use Rattle.map_straight.specs.Straight.Removing.{removing_at, seeking}
use Rattle.map_straight.specs.declared.removing.RemovalAt.{RemovalAt}
use Rattle.map_straight.specs.declared.removing.RemovalAt.TheVariants as removed
use Rattle.threads_errands.specs.Ahead.{IsAhead, IsEnding}
use Rattle.threads_steps.specs.Given.ErrandsCalling.{HasEnded}
use Rattle.threads_steps.specs.Given.ErrandsLooking.{IsOfThem, StaysThere}

module _ {K V S : Type 0} (same : K → K → Bool) (hash : S → K → ℕ) (hasher : S) (setting : Setting) (hashed : ℕ) (key : K) where
  -- straight code from the root on has come to this: the code has ended the call, or stands there,
  abbrev pub HasTaken : RemovalAt → View K V S → View K V S → Type 0
  HasTaken (removed.Answered answer) v w = IsEnding same hash answer w × StaysThere v w × IsOfThem v w
  HasTaken (removed.Stands trial removal) v w = IsAhead same hash hasher (seeking setting hashed key trial (removing_at setting trial removal)) w × StaysThere v w × IsOfThem v w

  -- and the call has ended, too
  abbrev pub HasTakenOut : RemovalAt → View K V S → View K V S → Type 0
  HasTakenOut (removed.Answered answer) v w = HasEnded (Ok (OfKey answer)) v w × StaysThere v w
  HasTakenOut (removed.Stands trial removal) v w = HasTaken (removed.Stands trial removal) v w
