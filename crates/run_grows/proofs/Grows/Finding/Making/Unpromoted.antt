-- What writes no root promotes no table; and a map of which no table is promoted has a second table still.
use Rattle.std.specs.Prelude.{◌≡◌, ℕ, ◌<◌, ◌≤◌, ◌==◌, nat_le, Bool, true, false, ◌++◌, List, [], ◌∷◌, filter, find, length, map as list_map, Option, if◌then◌else◌}
use Rattle.std.specs.List.{AllByRecursion}
use Rattle.std.proofs.Common.{refl, ap, sym, subst, ◌∙◌, arith, length-append}
use Rattle.std.proofs.lemmas.List.Elements.{filter-append}
use Rattle.run_finds.specs.Given.SeizeWordsDeclared.at.At.TheVariants.{Root}
use Rattle.run_schedules.specs.declared.effect.Effect.{Effect}
use Rattle.run_schedules.specs.declared.effect.Effect.TheVariants as effect
use Rattle.run_schedules.specs.declared.effect.TableId.{TableId}
use Rattle.run_schedules.specs.declared.effect.Thing.TheVariants.{APair, ATable}
use Rattle.run_schedules.specs.Schedules.Effects.{at_stage, with_effect, with_effects}
use Rattle.run_schedules.specs.Schedules.Growing.{HasNext}
use Rattle.run_schedules.specs.Schedules.Moment.{IsReclaimed, IsRetired, IsTaken, MapThere, Moment, Stage, TableThere}
use Rattle.run_schedules.specs.Schedules.Things.{same_table}
use Rattle.run_schedules.specs.Schedules.Views.{first_of, first_or}
use Rattle.run_finds.specs.Given.EffectsDeclared.changed.Changed.{Changed}
use Rattle.run_finds.specs.Given.EffectsDeclared.changed.Changed.TheVariants as changed
use Rattle.run_finds.specs.Given.EffectsEffects.{effects_of}
use Rattle.run_finds.specs.Given.EffectsKnown.{Known}
use Rattle.run_finds.specs.Given.EffectsDeclared.acting.Acting.{Acting}
use Rattle.run_finds.specs.Given.EffectsDeclared.acting.Acting.TheVariants as acts
use Rattle.run_kept.proofs.Given.FollowsOfEach.{OfEach, taken_so, operation_so}
use Rattle.run_finds.proofs.Grown.{linked_as}

-- what was told is no writing of a root
abbrev pub OffRoot : Changed → Type 0
OffRoot (changed.Wrote (Root r) old new) = ⊥
OffRoot _ = Unit {0}

abbrev pub IsNoPromotion : Effect → Type 0
IsNoPromotion (effect.Promoted t) = ⊥
IsNoPromotion _ = Unit {0}

abbrev pub NonePromoted : List Effect → Type 0
NonePromoted effects = AllByRecursion IsNoPromotion effects

module _ (caller map : ℕ) (known : Known) where
  abbrev its : Acting
  its = acts.Call caller map

  each_none : OfEach its known NonePromoted
  each_none = record {
    nothing = tt;
    linked = λ turn shape. (tt, tt);
    deferred = λ n t. (tt, tt);
    stored = λ s. (tt, tt);
    replaced = λ old s. (tt, (tt, tt));
    removed = λ n. (tt, tt);
    copied = λ n s. (tt, tt);
    retired = λ x. (tt, tt);
    asked = (tt, tt);
    pair_made = (tt, (tt, tt));
    table_made = λ turn. (tt, (tt, tt));
    pair_given_up = (tt, tt);
    table_given_up = λ turn. (tt, tt);
  }

  pub off_promotes_none : (told : Changed) → OffRoot told → NonePromoted (effects_of its known told)
  off_promotes_none told off =
      operation_so its known NonePromoted each_none told (λ r old new e. absurd (subst OffRoot e off)) (λ b field old new of e is. (tt, tt))
      (λ b e of_map. taken_so its known NonePromoted each_none (λ n. (tt, tt)) (λ t. (tt, tt)) (known.roles b) of_map) (λ bucket had e. (tt, tt))

-- Of the tables of a map from a turn on there are no fewer after an effect.

abbrev pub many_from : ℕ → ℕ → List TableThere → ℕ
many_from first of ts = length (filter (λ u. nat_le first u.table.turn) (filter (λ u. u.table.map == of) ts))

staged_from : (t : TableId) (to : Stage) (first of : ℕ) (ts : List TableThere) → many_from first of (list_map (at_stage t to) ts) ≡ many_from first of ts
staged_from t to first of [] = refl
staged_from t to first of (u ∷ ts) = by (same_table u.table t) (staged_from t to first of ts)
  where
    one : (w : Bool) (x y : TableThere) (xs ys : List TableThere) → length xs ≡ length ys → length (if w then x ∷ xs else xs) ≡ length (if w then y ∷ ys else ys)
    one true x y xs ys e = omega (arith, e)
    one false x y xs ys e = e

    two : (z : Bool) (x : TableThere) (xs ys : List TableThere) → x.table ≡ u.table → length (filter (λ w. nat_le first w.table.turn) xs) ≡ length (filter (λ w. nat_le first w.table.turn) ys)
        → length (filter (λ w. nat_le first w.table.turn) (if z then x ∷ xs else xs)) ≡ length (filter (λ w. nat_le first w.table.turn) (if z then u ∷ ys else ys))
    two true x xs ys same e =
        ap (λ (q : TableId). length (if nat_le first q.turn then x ∷ filter (λ w. nat_le first w.table.turn) xs else filter (λ w. nat_le first w.table.turn) xs)) same
        ∙ one (nat_le first u.table.turn) x u (filter (λ w. nat_le first w.table.turn) xs) (filter (λ w. nat_le first w.table.turn) ys) e
    two false x xs ys same e = e

    by : (q : Bool) → many_from first of (list_map (at_stage t to) ts) ≡ many_from first of ts
        → length (filter (λ w. nat_le first w.table.turn) (if ((if q then record u { stage = to } else u).table.map == of) then (if q then record u { stage = to } else u) ∷ filter (λ w. w.table.map == of) (list_map (at_stage t to) ts) else filter (λ w. w.table.map == of) (list_map (at_stage t to) ts)))
        ≡ length (filter (λ w. nat_le first w.table.turn) (if (u.table.map == of) then u ∷ filter (λ w. w.table.map == of) ts else filter (λ w. w.table.map == of) ts))
    by true rest = two (u.table.map == of) (record u { stage = to }) (filter (λ w. w.table.map == of) (list_map (at_stage t to) ts)) (filter (λ w. w.table.map == of) ts) refl rest
    by false rest = two (u.table.map == of) u (filter (λ w. w.table.map == of) (list_map (at_stage t to) ts)) (filter (λ w. w.table.map == of) ts) refl rest

as_many : (a b : ℕ) → a ≡ b → b ≤ a
as_many a b e = omega (arith, e)

module _ {K V : Type 0} (caller : Option (List ℕ)) (acted : Option ℕ) where
  more_from : (f : Effect) (m : Moment K V) (first of : ℕ) → many_from first of m.tables ≤ many_from first of (with_effect caller acted f m).tables
  more_from (effect.Linked t shape) m first of =
      let new : TableThere = linked_as t shape in
      let parts : many_from first of (m.tables ++ new ∷ []) ≡ length (filter (λ (u : TableThere). nat_le first u.table.turn) (filter (λ (u : TableThere). u.table.map == of) m.tables)
      ++ filter (λ (u : TableThere). nat_le first u.table.turn) (filter (λ (u : TableThere). u.table.map == of) (new ∷ []))) =
      ap (λ (ts : List TableThere). length (filter (λ (u : TableThere). nat_le first u.table.turn) ts)) (filter-append (λ (u : TableThere). u.table.map == of) m.tables (new ∷ []))
      ∙ ap length (filter-append (λ (u : TableThere). nat_le first u.table.turn) (filter (λ (u : TableThere). u.table.map == of) m.tables) (filter (λ (u : TableThere). u.table.map == of) (new ∷ []))) in
      let sum = length-append (filter (λ (u : TableThere). nat_le first u.table.turn) (filter (λ (u : TableThere). u.table.map == of) m.tables))
      (filter (λ (u : TableThere). nat_le first u.table.turn) (filter (λ (u : TableThere). u.table.map == of) (new ∷ []))) in omega (arith, parts, sum)
  more_from (effect.Retired (ATable t)) m first of = as_many _ _ (staged_from t IsRetired first of m.tables)
  more_from (effect.Reclaimed (ATable t)) m first of = as_many _ _ (staged_from t IsReclaimed first of m.tables)
  more_from (effect.Taken t) m first of = as_many _ _ (staged_from t IsTaken first of m.tables)
  more_from (effect.Retired (APair n)) m first of = omega arith
  more_from (effect.Reclaimed (APair n)) m first of = omega arith
  more_from _ m first of = omega arith

  pub effects_more_from : (effects : List Effect) (m : Moment K V) (first of : ℕ) → many_from first of m.tables ≤ many_from first of (with_effects caller acted effects m).tables
  effects_more_from [] m first of = omega arith
  effects_more_from (f ∷ fs) m first of =
      let one = more_from f m first of in let rest = effects_more_from fs (with_effect caller acted f m) first of in omega (arith, one, rest)

  -- So where maps are as they were, a map has a second table still,
  pub same_maps_keep_next : (effects : List Effect) (m : Moment K V) → (with_effects caller acted effects m).maps ≡ m.maps → (of : ℕ) → HasNext of m → HasNext of (with_effects caller acted effects m)
  same_maps_keep_next effects m maps of next =
      let more = effects_more_from effects m (first_of of m) of in
      subst (λ (fs : List MapThere). 1 < many_from (first_or (find (λ f. f.number == of) fs)) of (with_effects caller acted effects m).tables) (sym maps) (omega (arith, next, more))

  -- and so it has where no table is promoted.

  first_same : (f : Effect) (m : Moment K V) (of : ℕ) → IsNoPromotion f → first_of of (with_effect caller acted f m) ≡ first_of of m
  first_same (effect.Promoted t) m of none = absurd none
  first_same _ m of none = refl

  effect_keeps_next : (f : Effect) (m : Moment K V) (of : ℕ) → IsNoPromotion f → HasNext of m → HasNext of (with_effect caller acted f m)
  effect_keeps_next f m of none next =
      let more = more_from f m (first_of of m) of in
      subst (λ (first : ℕ). 1 < many_from first of (with_effect caller acted f m).tables) (sym (first_same f m of none)) (omega (arith, next, more))

  pub effects_keep_next : (effects : List Effect) (m : Moment K V) (of : ℕ) → NonePromoted effects → HasNext of m → HasNext of (with_effects caller acted effects m)
  effects_keep_next [] m of none next = next
  effects_keep_next (f ∷ fs) m of none next = effects_keep_next fs (with_effect caller acted f m) of none.1 (effect_keeps_next f m of none.0 next)
