-- What effects leave of where pairs lie.
use Rattle.std.specs.Prelude.{◌≡◌, ◌≢◌, ℕ, ◌==◌, Bool, true, false, ◌&&◌, List, [], ◌∷◌, Option, Some, None, if◌then◌else◌}
use Rattle.std.proofs.Common.{refl, ap, ◌∙◌}
use Rattle.run_shows.specs.Given.RunsDeclared.effect.Effect.{Effect}
use Rattle.run_shows.specs.Given.RunsDeclared.effect.Effect.TheVariants.{Stored, Copied, Promoted}
use Rattle.run_shows.specs.Given.RunsDeclared.effect.Spot.{Spot}
use Rattle.run_shows.specs.Given.RunsDeclared.effect.TableId.{TableId}
use Rattle.run_shows.specs.Given.SchedulesEffects.{later, born_by, copy_by, spot_by, with_effect, with_effects}
use Rattle.run_shows.specs.Given.SchedulesMoment.{Place, Moment}
use Rattle.run_shows.specs.Given.SchedulesViews.{is_in_map}
use Rattle.run_shows.proofs.Follows.Alike.{is_calm, AllCalm, put_here, put_elsewhere}

-- the effect neither stores nor copies a pair, and leaves the root where it is
abbrev pub is_aside : Effect → Bool
is_aside (Stored n s) = false
is_aside (Copied n s) = false
is_aside (Promoted t) = false
is_aside _ = true

abbrev pub AllAside : List Effect → Type 0
AllAside [] = Unit {0}
AllAside (f ∷ effects) = (is_aside f ≡ true) × AllAside effects

calm_is_aside : (f : Effect) → is_calm f ≡ true → is_aside f ≡ true
calm_is_aside (Stored n s) e = absurd (cc e)
calm_is_aside (Copied n s) e = absurd (cc e)
calm_is_aside (Promoted t) e = absurd (cc e)
calm_is_aside _ e = refl

pub calm_aside : (effects : List Effect) → AllCalm effects → AllAside effects
calm_aside [] all = tt
calm_aside (f ∷ effects) all = (calm_is_aside f all.0, calm_aside effects all.1)

spot_aside : (q : Bool) (place : ℕ → Place) (copy : ℕ → Spot) (f : Effect) (spot : ℕ → Spot) → is_aside f ≡ true → spot_by q place copy f spot ≡ spot
spot_aside true place copy (Stored n s) spot e = absurd (cc e)
spot_aside true place copy (Copied n s) spot e = absurd (cc e)
spot_aside true place copy (Promoted t) spot e = absurd (cc e)
spot_aside true place copy _ spot e = refl
spot_aside false place copy (Stored n s) spot e = absurd (cc e)
spot_aside false place copy (Copied n s) spot e = absurd (cc e)
spot_aside false place copy (Promoted t) spot e = absurd (cc e)
spot_aside false place copy _ spot e = refl

copy_aside : (f : Effect) (copy : ℕ → Spot) → is_aside f ≡ true → copy_by f copy ≡ copy
copy_aside (Copied n s) copy e = absurd (cc e)
copy_aside _ copy e = refl

born_aside : (acted : Option ℕ) (f : Effect) (born : ℕ → TableId) → is_aside f ≡ true → born_by acted f born ≡ born
born_aside None f born e = refl
born_aside (Some map) (Stored n s) born e = absurd (cc e)
born_aside (Some map) _ born e = refl

-- a copy, by the mode
pub spot_copied : (q : Bool) (place : ℕ → Place) (copy : ℕ → Spot) (k : ℕ) (s : Spot) (spot : ℕ → Spot) → spot_by q place copy (Copied k s) spot k ≡ (if q then later (spot k) s else spot k)
spot_copied true place copy k s spot = put_here k (later (spot k) s) spot k refl
spot_copied false place copy k s spot = refl

pub spot_copied_other : (q : Bool) (place : ℕ → Place) (copy : ℕ → Spot) (k : ℕ) (s : Spot) (spot : ℕ → Spot) (x : ℕ) → x ≢ k → spot_by q place copy (Copied k s) spot x ≡ spot x
spot_copied_other true place copy k s spot x ne = put_elsewhere k (later (spot k) s) spot x ne
spot_copied_other false place copy k s spot x ne = refl

-- as the root comes to a table: in blocking mode a pair of the map that has its newest copy there lies there
pub spot_promoted : (q : Bool) (place : ℕ → Place) (copy : ℕ → Spot) (t : TableId) (spot : ℕ → Spot) (x : ℕ) → is_in_map t.map (place x) ≡ true → (q ≡ false → ((copy x).turn == t.turn) ≡ true)
    → spot_by q place copy (Promoted t) spot x ≡ (if q then spot x else copy x)
spot_promoted true place copy t spot x in_map there = refl
spot_promoted false place copy t spot x in_map there =
    ap (λ (z : Bool). if z && ((copy x).turn == t.turn) then copy x else spot x) in_map ∙ ap (λ (z : Bool). if z then copy x else spot x) (there refl)

-- and one of another map lies where it lay
pub spot_promoted_other : (q : Bool) (place : ℕ → Place) (copy : ℕ → Spot) (t : TableId) (spot : ℕ → Spot) (x : ℕ) → is_in_map t.map (place x) ≡ false → spot_by q place copy (Promoted t) spot x ≡ spot x
spot_promoted_other true place copy t spot x out = refl
spot_promoted_other false place copy t spot x out = ap (λ (z : Bool). if z && ((copy x).turn == t.turn) then copy x else spot x) out

module _ {K V : Type 0} where
  -- pairs lie where they lay
  pub record AreAside (m v : Moment K V) : Type 0 where
    pub spot : v.spot ≡ m.spot
    pub copy : v.copy ≡ m.copy
    pub born : v.born ≡ m.born

  pub aside_then : (m v x : Moment K V) → AreAside m v → AreAside v x → AreAside m x
  aside_then m v x a b = record { spot = b.spot ∙ a.spot; copy = b.copy ∙ a.copy; born = b.born ∙ a.born }

  pub aside_same : (m : Moment K V) → AreAside m m
  aside_same m = record { spot = refl; copy = refl; born = refl }

  aside_one : (caller : Option (List ℕ)) (acted : Option ℕ) (f : Effect) (m : Moment K V) → is_aside f ≡ true → AreAside m (with_effect caller acted f m)
  aside_one caller acted f m e = record {
    spot = spot_aside _ m.place m.copy f m.spot e;
    copy = copy_aside f m.copy e;
    born = born_aside acted f m.born e;
  }

  pub aside_all : (caller : Option (List ℕ)) (acted : Option ℕ) (effects : List Effect) (m : Moment K V) → AllAside effects → AreAside m (with_effects caller acted effects m)
  aside_all caller acted [] m all = aside_same m
  aside_all caller acted (f ∷ effects) m all =
      aside_then m (with_effect caller acted f m) (with_effects caller acted effects (with_effect caller acted f m)) (aside_one caller acted f m all.0)
      (aside_all caller acted effects (with_effect caller acted f m) all.1)
