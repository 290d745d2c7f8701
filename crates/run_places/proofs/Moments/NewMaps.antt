-- A map that comes by the next number is there as a new one: no pair is in a map of such a number.
use Rattle.std.specs.Prelude.{◌≡◌, ℕ, ◌<◌, List, [], ◌∷◌, Option, Some, None}
use Rattle.std.proofs.Common.{refl, sym, subst, ◌∙◌, arith, inl, inr}
use Rattle.std.proofs.lemmas.Bool.{cases_eq}
use Rattle.run_shows.specs.Given.RunsDeclared.effect.Effect.{Effect}
use Rattle.run_shows.specs.Given.RunsDeclared.effect.Effect.TheVariants.{Stored, Replaced, Removed, Retired, Deferred, Reclaimed, Ended, Taken}
use Rattle.run_shows.specs.Given.RunsDeclared.effect.Thing.TheVariants.{APair, ATable}
use Rattle.run_shows.specs.Given.SchedulesEffects.{in_map, with_effect, with_effects}
use Rattle.run_shows.specs.Given.SchedulesMoment.{InMap, Out, Handed, Behind, Left, GivenBack, Moment}
use Rattle.run_shows.specs.Given.SchedulesViews.{behind}
use Rattle.run_shows.proofs.Follows.Alike.{put_here, put_elsewhere}
use Rattle.run_places.specs.Moments.Numbers.{PairsAreBelow, PairsBegin, PairsStayAsMapsCome, PairsStayAsMapsGo, EffectsPreservePairs, MapsComeAsNew}
use Rattle.run_places.proofs.Moments.Numbers.{itself, maps_come_by_number}
use Rattle.run_places.proofs.Moments.OnSlots.{put_out, all_out}

-- a pair that is stored is in that map
stored_in : (o : Option ℕ) (made map : ℕ) → ((a : ℕ) → o ≡ Some a → a < made) → in_map o ≡ InMap map → map < made
stored_in None made map made_all is = absurd (cc is)
stored_in (Some a) made map made_all is = let same : a ≡ map = cc is in subst (λ (x : ℕ). x < made) same (made_all a refl)

module _ {K V : Type 0} (caller : Option (List ℕ)) (acted : Option ℕ) where
  one_below : (f : Effect) (m : Moment K V) → ((a : ℕ) → acted ≡ Some a → a < m.made) → PairsAreBelow m → PairsAreBelow (with_effect caller acted f m)
  one_below (Stored k s) m made below n map is = elim (cases_eq n k) as (λ _. map < m.made) [
    | inl e ↦ stored_in acted m.made map made (sym (put_here k (in_map acted) m.place n e) ∙ is)
    | inr ne ↦ below n map (sym (put_elsewhere k (in_map acted) m.place n ne) ∙ is)
  ]
  one_below (Replaced k) m made below n map is = below n map (put_out m.place k Out (λ x e. cc e) n map is)
  one_below (Removed k) m made below n map is = below n map (put_out m.place k Out (λ x e. cc e) n map is)
  one_below (Retired (APair k)) m made below n map is = below n map (put_out m.place k Handed (λ x e. cc e) n map is)
  one_below (Deferred k t) m made below n map is = below n map (put_out m.place k Behind (λ x e. cc e) n map is)
  one_below (Reclaimed (APair k)) m made below n map is = below n map (put_out m.place k GivenBack (λ x e. cc e) n map is)
  one_below (Reclaimed (ATable t)) m made below n map is = below n map (all_out m.place Handed (behind t m.deferred) (λ x e. cc e) n map is)
  one_below (Ended k) m made below n map is = below n map (put_out m.place k GivenBack (λ x e. cc e) n map is)
  one_below (Taken t) m made below n map is = below n map (all_out m.place Left (behind t m.deferred) (λ x e. cc e) n map is)
  one_below _ m made below n map is = below n map is

  all_below : (effects : List Effect) (m : Moment K V) → ((a : ℕ) → acted ≡ Some a → a < m.made) → PairsAreBelow m → PairsAreBelow (with_effects caller acted effects m)
  all_below [] m made below = below
  all_below (f ∷ effects) m made below = all_below effects (with_effect caller acted f m) made (one_below f m made below)

pub pairs_begin : (K V : Type 0) → PairsBegin K V
pairs_begin K V n map is = absurd (cc is)

pub pairs_stay_as_maps_come : (K V : Type 0) → PairsStayAsMapsCome K V
pairs_stay_as_maps_come K V m below there n map is = let l = below n map is in omega (arith, l)

pub pairs_stay_as_maps_go : (K V : Type 0) → PairsStayAsMapsGo K V
pairs_stay_as_maps_go K V m below own remains = below

pub effects_keep_pairs : (K V : Type 0) → EffectsPreservePairs K V
effects_keep_pairs K V m below caller acted effects made = all_below caller acted effects m made below

pub maps_come_as_new : (K V : Type 0) → MapsComeAsNew K V
maps_come_as_new K V m numbers below there next first setting root mode = record {
  there = there;
  is = itself m numbers there next;
  root = root;
  mode = mode;
  first = first;
  no_pairs = λ n is. (let l = below n there.number is in omega (arith, l, next));
  no_tables = (maps_come_by_number K V m numbers there next).1;
}
