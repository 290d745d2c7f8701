-- How all stays in order from entry to entry of a history.
use Rattle.std.specs.Prelude.{◌≡◌, ℕ, List, ◌∷◌, Some}
use Rattle.std.specs.List.{AllByRecursion}
use Rattle.run_schedules.specs.Schedules.After.{AtEachEvent}
use Rattle.run_schedules.specs.Schedules.Moment.{Moment, UnderWay as CallThere}
use Rattle.run_schedules.specs.Schedules.Terms.{Terms}
use Rattle.run_legal.specs.Given.CallersTogether.{UnderWay}
use Rattle.run_legal.specs.Given.FinishesMachines.{machine_of}
use Rattle.run_legal.specs.Given.FinishesMakings.{Beginning}
use Rattle.run_legal.specs.Given.FindsWithin.{AllIsInOrder}
use Rattle.run_legal.specs.Given.NamedMachines.{RefusedForRoom}
use Rattle.run_legal.specs.Given.ScenesScene.{Scene}
use Rattle.run_schedules.specs.Deeds.Deeds.{Entry, moment, named}
use Rattle.play_linear.specs.Given.AgreesFresh.{AreNamed}
use Rattle.play_linear.specs.Linear.Coming.{Comes}
use Rattle.play_moves.specs.EachMoves.Parts.{DoesIts}
use Rattle.play_moves.specs.EachMoves.Finds.{FindsIts}
use Rattle.play_moves.specs.EachMoves.Own.{IsOfItsCall}
use Rattle.play_moves.specs.Moves.Steps.{EachStoresOne, OfStep}

module _ {K V : Type 0} where
  -- a call of the moment is under way in the scene, by the number that is its caller's name
  abbrev pub IsUnderWay : Scene K V → CallThere K V → Type 0
  IsUnderWay s c = (i : ℕ) × (c.caller ≡ named i) × ((u : UnderWay K V K) × (s.calls c.map i ≡ Some u))

  abbrev pub AreUnderWay : Moment K V → Scene K V → Type 0
  AreUnderWay m s = AllByRecursion (IsUnderWay s) m.calls

  -- all stays in order by an entry that does what is its own, whose effects find what they must
  abbrev pub OrderStays : Terms → List (Entry K V) → Entry K V → Type 0
  OrderStays terms log e = AllIsInOrder (moment log) → FindsIts terms log e → OfStep e.deed (EachStoresOne log e) → DoesIts log e → AllIsInOrder (moment (e ∷ log))

  -- So it is of each entry, which is of its call; and by this it will be of the next one: each call of the moment is under way, and one on no key is refused for want of room alone.
  pub record KeepsOrder (terms : Terms) (history : List (Entry K V)) (s : Scene K V) : Type 0 where
    pub under_way : AreUnderWay (moment history) s
    pub room : (map i : ℕ) (u : UnderWay K V K) → s.calls map i ≡ Some u → RefusedForRoom (machine_of u)
    pub each : AtEachEvent (OrderStays terms) history
    pub own : AtEachEvent IsOfItsCall history

  -- if maps have their numbers as names, and each that is made comes as a new one
  pub record MapsComeNew (history : List (Entry K V)) (s : Scene K V) : Type 0 where
    pub names : AreNamed (moment history)
    pub coming : (i : ℕ) (b : Beginning K) → s.makers i ≡ Some b → Comes b (moment history)
