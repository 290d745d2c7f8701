-- What is promised of an entry of a history: its effects find what they must. Those of rows, of makings, and of who reclaims all, do where all is in order as it comes.
use Rattle.std.specs.Prelude.{List}
use Rattle.run_legal.specs.Given.FindsWithin.{AllIsInOrder}
use Rattle.run_schedules.specs.Schedules.Effects.{AtEachEffect}
use Rattle.run_schedules.specs.Schedules.Terms.{Terms}
use Rattle.run_schedules.specs.Deeds.Deeds.{Deed, Entry, Leaves, Makes, ReclaimsAll, Registers, Steps, Tends, moment}
use Rattle.run_schedules.specs.Deeds.History.{FindsBy, transition}

module _ {K V : Type 0} where
  -- each effect finds what it must
  abbrev pub FindsIts : Terms → List (Entry K V) → Entry K V → Type 0
  FindsIts terms log e = let t = transition log e in AtEachEffect (FindsBy terms log e.deed t) t.caller t.map e.effects t.found

  -- it is no step of a call
  abbrev pub IsOther : Deed K V → Type 0
  IsOther (Steps i) = ⊥
  IsOther deed = Unit {0}

  -- it is one of who registers, leaves or tends a slot, of who makes a map, or of who reclaims all
  abbrev pub IsOfOthers : Deed K V → Type 0
  IsOfOthers (Registers slot) = Unit {0}
  IsOfOthers (Leaves slot) = Unit {0}
  IsOfOthers (Tends slot) = Unit {0}
  IsOfOthers (Makes map) = Unit {0}
  IsOfOthers (ReclaimsAll last) = Unit {0}
  IsOfOthers deed = ⊥

  -- Such an entry finds what it must where all is in order as it comes.
  abbrev pub OthersFind : Terms → List (Entry K V) → Entry K V → Type 0
  OthersFind terms log e = IsOfOthers e.deed → AllIsInOrder (moment log) → FindsIts terms log e
