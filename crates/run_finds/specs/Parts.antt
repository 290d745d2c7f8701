-- What an effect of a step of a call finds, by parts: where pairs lie, that the root leaves no pair behind, and what is left.
use Rattle.std.specs.Prelude.{◌≡◌, ℕ, true, false, List, ◌∷◌, Some}
use Rattle.run_executor.specs.Given.RunsDeclared.effect.Effect.{Effect}
use Rattle.run_executor.specs.Given.RunsDeclared.effect.Effect.TheVariants.{Asked, Linked, Promoted, Copied, Stored, Deferred, Retired}
use Rattle.run_executor.specs.Given.RunsDeclared.effect.Growth.TheVariants.{ABlock}
use Rattle.run_executor.specs.Given.RunsDeclared.effect.Thing.TheVariants.{APair}
use Rattle.run_executor.specs.Given.SchedulesEffects.{AtEachEffect}
use Rattle.run_executor.specs.Given.SchedulesEntry.{ByCall, acting}
use Rattle.run_executor.specs.Given.SchedulesGrowing.{only_looks, MayGrow, Follows, none_before}
use Rattle.run_executor.specs.Given.SchedulesLives.{CallFinds, IsFreeFor, IsPast, MayCopy, MayDefer}
use Rattle.run_executor.specs.Given.SchedulesMoment.{UnderWay as CallThere, Moment}
use Rattle.run_executor.specs.Given.SchedulesTerms.{Terms}
use Rattle.run_executor.specs.Given.SchedulesViews.{map_at, capacity_or, grows_in_chunks, first_of, tables_of}
use Rattle.run_blocks.specs.Given.SettlesOwing.{FindsObligation}
use Rattle.run_blocks.specs.Given.SettlesShards.{is_counting}

-- Of each kind of effect these parts make up what it finds:
--   Asked ABlock        not short (made), and it may ask for a block (rest)
--   PairMade            made
--   PairGivenUp         made
--   TableMade           made
--   TableGivenUp        made
--   Linked              its table (made), the next turn (map), and which shape follows (rest)
--   Promoted            the root may come there (map), and no pair is left behind (ahead)
--   Copied              where a copy may lie (place)
--   Stored              the next number and a linked table (map), a block (made), and a place that is free for it (place)
--   Replaced, Removed   a pair of the map (map)
--   Counted             something to count, and its shard (count)
--   Deferred            what is owed (owed), and where it may wait (rest)
--   Retired             what is owed (owed), and of a pair that the root has come to where it lies (rest)
-- The others are no call's (kinds). `made` is FindsMade of `run_blocks`, `map` FindsMap of `run_shows`, `owed` FindsOwed and `count` CountsFindShards of
-- `run_debts`. The rest has three parts, which are in `Rest`.

module _ {K V : Type 0} where
  -- A pair is copied to where a copy may lie, and stored where no pair of the map lies, or the one that it replaces.
  abbrev pub FindsPlace : ℕ → Moment K V → Effect → CallThere K V → Type 0
  FindsPlace map m (Copied n s) c = MayCopy (grows_in_chunks (map_at map m)) map m n s
  FindsPlace map m (Stored n s) c = IsFreeFor c.replacing map s m
  FindsPlace map m _ c = Unit {0}

  -- the root leaves no pair of the map behind that has no copy where it comes to
  abbrev pub FindsAhead : ℕ → Moment K V → Effect → Type 0
  FindsAhead map m (Promoted t) = none_before map t.turn m ≡ true
  FindsAhead map m _ = Unit {0}

  -- so it is for each of these effects of the call of this name
  abbrev pub FindPlacesOf : List ℕ → ℕ → List Effect → Moment K V → Type 0
  FindPlacesOf own map effects m = AtEachEffect (λ v f. ByCall (FindsPlace map v f) (acting (Some own) v)) (Some own) (Some map) effects m

  abbrev pub FindAhead : List ℕ → ℕ → List Effect → Moment K V → Type 0
  FindAhead own map effects m = AtEachEffect (FindsAhead map) (Some own) (Some map) effects m

  -- and for each it finds what it hands over
  abbrev pub FindObligations : List ℕ → ℕ → List Effect → Moment K V → Type 0
  FindObligations own map effects m = AtEachEffect (λ v f. ByCall (FindsObligation v f) (acting (Some own) v)) (Some own) (Some map) effects m

module _ {K V : Type 0} (terms : Terms) where
  -- What is left: why a block is asked for, which shape a table has that is linked, behind which table a pair may wait, and that a pair that is retired lies no further
  -- on than the root.
  abbrev pub FindsRest : List (Moment K V) → Moment K V → Effect → CallThere K V → Type 0
  FindsRest moments m (Asked ABlock) c = MayGrow terms c.call c (m ∷ moments)
  FindsRest moments m (Linked t shape) c = Follows terms c (m ∷ moments) (capacity_or (map_at c.map m)) shape (tables_of c.map m)
  FindsRest moments m (Deferred n t) c = MayDefer c.map m n t
  FindsRest moments m (Retired (APair n)) c = IsPast (m.born n).turn (m.spot n).turn (first_of c.map m)
  FindsRest moments m _ c = Unit {0}

  abbrev pub FindRest : List (Moment K V) → List ℕ → ℕ → List Effect → Moment K V → Type 0
  FindRest moments own map effects m = AtEachEffect (λ v f. ByCall (FindsRest moments v f) (acting (Some own) v)) (Some own) (Some map) effects m

  -- each that counts does so in the shard of its guard's slot
  abbrev pub FindShards : List (Moment K V) → List ℕ → ℕ → List Effect → Moment K V → Type 0
  FindShards moments own map effects m =
      AtEachEffect (λ v f. is_counting f ≡ true → ByCall (CallFinds terms moments v f) (acting (Some own) v)) (Some own) (Some map) effects m

  -- an effect of the call of this name finds all that it must
  abbrev pub FindsAll : List (Moment K V) → List ℕ → Moment K V → Effect → Type 0
  FindsAll moments own m f = ByCall (λ (c : CallThere K V). (only_looks c.call ≡ false) × CallFinds terms moments m f c) (acting (Some own) m)

  abbrev pub FindAll : List (Moment K V) → List ℕ → ℕ → List Effect → Moment K V → Type 0
  FindAll moments own map effects m = AtEachEffect (FindsAll moments own) (Some own) (Some map) effects m
