-- A map that has a table at the limit has it still where none of its tables is promoted.
use Rattle.std.specs.Prelude.{◌≡◌, ℕ, ◌==◌, ◌&&◌, ◌||◌, nat_le, Bool, true, false, List, [], ◌∷◌, filter, find, map as list_map, Option, if◌then◌else◌}
use Rattle.std.specs.List.{list_any}
use Rattle.std.proofs.Common.{refl, ap, sym, subst, ◌∙◌}
use Rattle.run_schedules.specs.declared.effect.Effect.{Effect}
use Rattle.run_schedules.specs.declared.effect.Effect.TheVariants as effect
use Rattle.run_schedules.specs.declared.effect.TableId.{TableId}
use Rattle.run_schedules.specs.declared.effect.Thing.TheVariants.{APair, ATable}
use Rattle.run_schedules.specs.Schedules.Effects.{at_stage, with_effect, with_effects}
use Rattle.run_schedules.specs.Schedules.Moment.{IsReclaimed, IsRetired, IsTaken, MapThere, Moment, Stage, TableThere}
use Rattle.run_schedules.specs.Schedules.Things.{same_table}
use Rattle.run_schedules.specs.Schedules.Views.{first_of, first_or, map_at}
use Rattle.run_finds.proofs.Grown.{linked_as}
use Rattle.run_grows.specs.Grows.Limits.{IsAtLimit}
use Rattle.run_grows.proofs.Grows.Finding.Making.Unpromoted.{IsNoPromotion, NonePromoted}
use Rattle.run_grows.proofs.Grows.Limits.Last.{any_ahead, is_longest}

-- one that passes a test is such a one
filter_any : (p q : TableThere → Bool) (xs : List TableThere) → list_any q (filter p xs) ≡ list_any (λ t. p t && q t) xs
filter_any p q [] = refl
filter_any p q (x ∷ xs) = by (p x) (filter_any p q xs)
  where
    by : (b : Bool) → list_any q (filter p xs) ≡ list_any (λ t. p t && q t) xs → list_any q (if b then x ∷ filter p xs else filter p xs) ≡ ((b && q x) || list_any (λ t. p t && q t) xs)
    by true rest = ap (λ (r : Bool). q x || r) rest
    by false rest = rest

-- a table of the map from a turn on that is as long as one can be, or has the last turn
abbrev is_such : ℕ → ℕ → TableThere → Bool
is_such first of t = (t.table.map == of) && (nat_le first t.table.turn && is_longest t)

abbrev any_from : ℕ → ℕ → List TableThere → Bool
any_from first of ts = list_any is_longest (filter (λ t. nat_le first t.table.turn) (filter (λ t. t.table.map == of) ts))

such_any : (first of : ℕ) (ts : List TableThere) → any_from first of ts ≡ list_any (is_such first of) ts
such_any first of ts =
    filter_any (λ t. nat_le first t.table.turn) is_longest (filter (λ t. t.table.map == of) ts) ∙ filter_any (λ t. t.table.map == of) (λ t. nat_le first t.table.turn && is_longest t) ts

staged_any : (first of : ℕ) (t : TableId) (to : Stage) (ts : List TableThere) → list_any (is_such first of) (list_map (at_stage t to) ts) ≡ list_any (is_such first of) ts
staged_any first of t to [] = refl
staged_any first of t to (u ∷ ts) = by (same_table u.table t) (staged_any first of t to ts)
  where
    by : (q : Bool) → list_any (is_such first of) (list_map (at_stage t to) ts) ≡ list_any (is_such first of) ts
        → (is_such first of (if q then record u { stage = to } else u) || list_any (is_such first of) (list_map (at_stage t to) ts)) ≡ (is_such first of u || list_any (is_such first of) ts)
    by true rest = ap (λ (r : Bool). is_such first of u || r) rest
    by false rest = ap (λ (r : Bool). is_such first of u || r) rest

module _ {K V : Type 0} (caller : Option (List ℕ)) (acted : Option ℕ) where
  one_keeps : (f : Effect) (m : Moment K V) (first of : ℕ) → list_any (is_such first of) m.tables ≡ true → list_any (is_such first of) (with_effect caller acted f m).tables ≡ true
  one_keeps (effect.Linked t shape) m first of is = any_ahead (is_such first of) m.tables (linked_as t shape ∷ []) is
  one_keeps (effect.Retired (ATable t)) m first of is = staged_any first of t IsRetired m.tables ∙ is
  one_keeps (effect.Reclaimed (ATable t)) m first of is = staged_any first of t IsReclaimed m.tables ∙ is
  one_keeps (effect.Taken t) m first of is = staged_any first of t IsTaken m.tables ∙ is
  one_keeps (effect.Retired (APair n)) m first of is = is
  one_keeps (effect.Reclaimed (APair n)) m first of is = is
  one_keeps _ m first of is = is

  all_keep : (effects : List Effect) (m : Moment K V) (first of : ℕ) → list_any (is_such first of) m.tables ≡ true → list_any (is_such first of) (with_effects caller acted effects m).tables ≡ true
  all_keep [] m first of is = is
  all_keep (f ∷ fs) m first of is = all_keep fs (with_effect caller acted f m) first of (one_keeps f m first of is)

  from_keeps : (effects : List Effect) (m : Moment K V) (first of : ℕ) → any_from first of m.tables ≡ true → any_from first of (with_effects caller acted effects m).tables ≡ true
  from_keeps effects m first of is = such_any first of (with_effects caller acted effects m).tables ∙ all_keep effects m first of (sym (such_any first of m.tables) ∙ is)

  -- So it is where maps are as they were,
  pub same_maps_keep_limit : (effects : List Effect) (m : Moment K V) → (with_effects caller acted effects m).maps ≡ m.maps → (of : ℕ) → IsAtLimit of m → IsAtLimit of (with_effects caller acted effects m)
  same_maps_keep_limit effects m maps of is =
      subst (λ (fs : List MapThere). any_from (first_or (find (λ f. f.number == of) fs)) of (with_effects caller acted effects m).tables ≡ true) (sym maps) (from_keeps effects m (first_of of m) of is)

  -- and where no table is promoted.

  first_same : (f : Effect) (m : Moment K V) (of : ℕ) → IsNoPromotion f → first_of of (with_effect caller acted f m) ≡ first_of of m
  first_same (effect.Promoted t) m of none = absurd none
  first_same _ m of none = refl

  effect_keeps_limit : (f : Effect) (m : Moment K V) (of : ℕ) → IsNoPromotion f → IsAtLimit of m → IsAtLimit of (with_effect caller acted f m)
  effect_keeps_limit f m of none is =
      subst (λ (first : ℕ). any_from first of (with_effect caller acted f m).tables ≡ true) (sym (first_same f m of none))
      (such_any (first_of of m) of (with_effect caller acted f m).tables ∙ one_keeps f m (first_of of m) of (sym (such_any (first_of of m) of m.tables) ∙ is))

  pub effects_keep_limit : (effects : List Effect) (m : Moment K V) (of : ℕ) → NonePromoted effects → IsAtLimit of m → IsAtLimit of (with_effects caller acted effects m)
  effects_keep_limit [] m of none is = is
  effects_keep_limit (f ∷ fs) m of none is = effects_keep_limit fs (with_effect caller acted f m) of none.1 (effect_keeps_limit f m of none.0 is)

-- A map has such a table where it is there with the same root, and the same tables.

pub limit_where : {K V : Type 0} (m v : Moment K V) → v.tables ≡ m.tables → (n : ℕ) → map_at n v ≡ map_at n m → IsAtLimit n m → IsAtLimit n v
limit_where m v tables n there is =
    subst (λ (o : Option MapThere). any_from (first_or o) n v.tables ≡ true) (sym there) (subst (λ (ts : List TableThere). any_from (first_of n m) n ts ≡ true) (sym tables) is)

pub limit_same : {K V : Type 0} (m v : Moment K V) → v.maps ≡ m.maps → v.tables ≡ m.tables → (n : ℕ) → IsAtLimit n m → IsAtLimit n v
limit_same m v maps tables n is = limit_where m v tables n (ap (λ (fs : List MapThere). find (λ f. f.number == n) fs) maps) is
