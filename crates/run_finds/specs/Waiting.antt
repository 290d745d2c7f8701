-- Where the pairs of a run are that have left their maps: with the call that took them out, behind a table, or reclaimed. Each of these has its list, in which such
-- a pair stands just once, and no other one does.
use Rattle.std.specs.Prelude.{◌≡◌, ℕ, ◌+◌, ◌≤◌, ◌==◌, Bool, true, false, List, [], ◌∷◌, length, Option, if◌then◌else◌}
use Rattle.std.specs.List.{AllByRecursion, list_any}
use Rattle.run_executor.specs.Given.RunsLifeCycle.{times}
use Rattle.run_executor.specs.Given.RunsSame.{is_same}
use Rattle.run_executor.specs.Given.RunsDeclared.effect.Effect.{Effect}
use Rattle.run_executor.specs.Given.RunsDeclared.effect.Effect.TheVariants.{Stored, Replaced, Removed, Deferred, Retired, Reclaimed, Ended}
use Rattle.run_executor.specs.Given.RunsDeclared.effect.Thing.{Thing}
use Rattle.run_executor.specs.Given.RunsDeclared.effect.Thing.TheVariants.{APair}
use Rattle.run_executor.specs.Given.SchedulesAfter.{without_call}
use Rattle.run_executor.specs.Given.SchedulesEffects.{stored_by, with_effects, AtEachEffect}
use Rattle.run_executor.specs.Given.SchedulesEntry.{acting, ByCall}
use Rattle.run_executor.specs.Given.SchedulesLists.{is_in}
use Rattle.run_executor.specs.Given.SchedulesMoment.{Place, Unborn, Out, Handed, Behind, Left, GivenBack, UnderWay, Deferral, Moment, start}
use Rattle.run_executor.specs.Given.SchedulesThings.{same_thing}
use Rattle.run_executor.specs.Given.SchedulesViews.{is_in_a_map}

abbrev pub is_unborn : Place → Bool
is_unborn Unborn = true
is_unborn _ = false

abbrev pub is_out : Place → Bool
is_out Out = true
is_out _ = false

abbrev pub is_behind_one : Place → Bool
is_behind_one Behind = true
is_behind_one _ = false

abbrev pub is_back : Place → Bool
is_back GivenBack = true
is_back _ = false

-- it was retired, or is left over by a map that has ended
abbrev pub is_let_go : Place → Bool
is_let_go Handed = true
is_let_go Left = true
is_let_go _ = false

-- once, if it is so
abbrev pub once_if : Bool → ℕ
once_if so = if so then 1 else 0

-- how often a pair stands among things, and among the obligations of calls
abbrev pub owed_in : ℕ → List Thing → ℕ
owed_in n [] = 0
owed_in n (x ∷ things) = once_if (same_thing (APair n) x) + owed_in n things

-- and behind tables
abbrev pub put_in : ℕ → List Deferral → ℕ
put_in n [] = 0
put_in n (d ∷ deferred) = once_if (n == d.pair) + put_in n deferred

module _ {K V : Type 0} where
  abbrev pub owed_by : ℕ → List (UnderWay K V) → ℕ
  owed_by n [] = 0
  owed_by n (c ∷ calls) = owed_in n c.owes + owed_by n calls

  -- no two calls under way are of one caller
  abbrev pub AreApart : List (UnderWay K V) → Type 0
  AreApart [] = Unit {0}
  AreApart (c ∷ calls) = (list_any (λ d. is_same d.caller c.caller) calls ≡ false) × AreApart calls

  pub record PairsArePlaced (m : Moment K V) : Type 0 where
    -- a pair that is out is owed by one call, once
    pub owed : (n : ℕ) → owed_by n m.calls ≡ once_if (is_out (m.place n))
    -- one that is behind a table is behind one, once
    pub put : (n : ℕ) → put_in n m.deferred ≡ once_if (is_behind_one (m.place n))
    -- one that is reclaimed was given back once
    pub back : (n : ℕ) → times n m.given_back ≡ once_if (is_back (m.place n))
    -- and those that are anywhere were stored
    pub stored : (n : ℕ) → is_unborn (m.place n) ≡ false → n ≤ length m.stored
    pub apart : AreApart m.calls

  -- the effect is of a call that owes this pair
  abbrev pub HasPairPending : Option (List ℕ) → Moment K V → ℕ → Type 0
  HasPairPending caller m n = ByCall (λ c. is_in same_thing (APair n) c.owes ≡ true) (acting caller m)

  -- it is of a call, which takes this pair out of a map
  abbrev pub TakesOut : Option (List ℕ) → Moment K V → ℕ → Type 0
  TakesOut caller m n = ByCall (λ c. is_in_a_map (m.place n) ≡ true) (acting caller m)

  -- What an effect finds of that: a pair that is stored is the next one, and is put down; what is taken out is in a map; what is handed over is owed; and what is
  -- reclaimed was let go, or ends in its map.
  abbrev pub FindsPlaced : Option (List ℕ) → Moment K V → Effect → Type 0
  FindsPlaced caller m (Stored n s) = (n ≡ length m.stored + 1) × (length (stored_by (acting caller m) (Stored n s) m.stored) ≡ n)
  FindsPlaced caller m (Replaced n) = TakesOut caller m n
  FindsPlaced caller m (Removed n) = TakesOut caller m n
  FindsPlaced caller m (Deferred n t) = HasPairPending caller m n
  FindsPlaced caller m (Retired (APair n)) = HasPairPending caller m n
  FindsPlaced caller m (Reclaimed (APair n)) = is_let_go (m.place n) ≡ true
  FindsPlaced caller m (Ended n) = is_in_a_map (m.place n) ≡ true
  FindsPlaced caller m _ = Unit {0}

-- The promises: so it is before all events,
abbrev pub PlacedAtFirst : Type 0 → Type 0 → Type 0
PlacedAtFirst K V = PairsArePlaced (start {K = K} {V = V})

-- and after any effects that find what they must;
abbrev pub EffectsPreservePlaced : Type 0 → Type 0 → Type 0
EffectsPreservePlaced K V =
    (caller : Option (List ℕ)) (acted : Option ℕ) (effects : List Effect) (m : Moment K V) → AtEachEffect (FindsPlaced caller) caller acted effects m → PairsArePlaced m
    → PairsArePlaced (with_effects caller acted effects m)

-- where calls come to something, begin or end, and owe what they owed, of the same pairs,
abbrev pub OthersPreservePlaced : Type 0 → Type 0 → Type 0
OthersPreservePlaced K V =
    (m v : Moment K V) → PairsArePlaced m → ((n : ℕ) → v.place n ≡ m.place n) → v.deferred ≡ m.deferred → v.given_back ≡ m.given_back → v.stored ≡ m.stored
    → ((n : ℕ) → owed_by n v.calls ≡ owed_by n m.calls) → AreApart v.calls → PairsArePlaced v

-- as they do where a call goes that has no obligation: one that has ended.
abbrev pub EndedOweNothing : Type 0 → Type 0 → Type 0
EndedOweNothing K V =
    (own : List ℕ) (calls : List (UnderWay K V)) → AreApart calls → AllByRecursion (λ c. is_same c.caller own ≡ true → c.owes ≡ []) calls
    → ((n : ℕ) → owed_by n (without_call own calls) ≡ owed_by n calls) × AreApart (without_call own calls)
