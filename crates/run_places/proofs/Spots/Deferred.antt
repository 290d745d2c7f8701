-- What waits behind tables stays outside of maps.
use Rattle.std.specs.Prelude.{◌≡◌, ℕ, ◌≤◌, ◌==◌, Bool, true, false, not, ◌||◌, List, [], ◌∷◌, length, filter, map, Option, if◌then◌else◌, ◌⊎◌}
use Rattle.std.proofs.Common.{refl, ap, sym, subst, ◌∙◌, arith, inl, inr}
use Rattle.std.proofs.lemmas.Bool.{cases_eq}
use Rattle.run_shows.specs.Given.RunsDeclared.effect.Effect.{Effect}
use Rattle.run_shows.specs.Given.RunsDeclared.effect.Effect.TheVariants.{Asked, PairMade, PairGivenUp, TableMade, TableGivenUp, Linked, Promoted, Copied, Stored, Replaced, Removed, Counted, Deferred, Retired, Reclaimed, Ended, Taken}
use Rattle.run_shows.specs.Given.RunsDeclared.effect.TableId.{TableId}
use Rattle.run_shows.specs.Given.RunsDeclared.effect.Thing.TheVariants.{APair, ATable}
use Rattle.run_shows.specs.Given.SchedulesEffects.{all_at, in_map, place_by, deferred_by, with_effect}
use Rattle.run_shows.specs.Given.SchedulesLists.{is_among, put}
use Rattle.run_shows.specs.Given.SchedulesMoment.{Place, Out, Handed, Behind, Left, GivenBack, Deferral, Moment}
use Rattle.run_shows.specs.Given.SchedulesThings.{same_table}
use Rattle.run_shows.specs.Given.SchedulesViews.{is_in_a_map, behind}
use Rattle.run_shows.proofs.Follows.Alike.{put_here, put_elsewhere}
use Rattle.run_places.specs.Spots.Deferred.{WaitOutside, FindsNumbers, EffectsLeaveOutside, EachWaitsOutside}
use Rattle.run_places.proofs.Spots.Elsewhere.{stored_grows}

-- what stands in a part of a list stands in it
module _ (f : Deferral → Bool) (n : ℕ) where
  in_part : (ds : List Deferral) → is_among n (map (λ d. d.pair) (filter f ds)) ≡ true → is_among n (map (λ d. d.pair) ds) ≡ true
  in_part [] e = e
  in_part (d ∷ ds) e = by (f d) refl (in_part ds)
    where
      Among : Bool → Type 0
      Among z = is_among n (map (λ x. x.pair) (if z then d ∷ filter f ds else filter f ds)) ≡ true

      here : (a b c : Bool) → (b ≡ true → c ≡ true) → (a || b) ≡ true → (a || c) ≡ true
      here true b c more e = refl
      here false b c more e = more e

      either : (a b : Bool) → b ≡ true → (a || b) ≡ true
      either true b e = refl
      either false b e = e

      by : (z : Bool) → f d ≡ z → (is_among n (map (λ x. x.pair) (filter f ds)) ≡ true → is_among n (map (λ x. x.pair) ds) ≡ true) → ((n == d.pair) || is_among n (map (λ x. x.pair) ds)) ≡ true
      by true is rest = here (n == d.pair) (is_among n (map (λ x. x.pair) (filter f ds))) (is_among n (map (λ x. x.pair) ds)) rest (subst Among is e)
      by false is rest = either (n == d.pair) (is_among n (map (λ x. x.pair) ds)) (rest (subst Among is e))

-- a pair that is put elsewhere than in a map
put_out : (p : Place) (n : ℕ) (place : ℕ → Place) (k : ℕ) → is_in_a_map p ≡ false → is_in_a_map (place k) ≡ false → is_in_a_map (put n p place k) ≡ false
put_out p n place k out was = elim (cases_eq k n) as (λ _. is_in_a_map (put n p place k) ≡ false) [
  | inl e ↦ ap is_in_a_map (put_here n p place k e) ∙ out
  | inr ne ↦ ap is_in_a_map (put_elsewhere n p place k ne) ∙ was
]

all_out : (p : Place) (numbers : List ℕ) (place : ℕ → Place) (k : ℕ) → is_in_a_map p ≡ false → is_in_a_map (place k) ≡ false → is_in_a_map (all_at p numbers place k) ≡ false
all_out p numbers place k out was = by (is_among k numbers)
  where
    by : (q : Bool) → is_in_a_map (if q then p else place k) ≡ false
    by true = out
    by false = was

module _ {K V : Type 0} where
  pub stays_out : (acted : Option ℕ) (f : Effect) (m : Moment K V) → FindsNumbers m f → (k : ℕ) → k ≤ length m.stored → is_in_a_map (m.place k) ≡ false → is_in_a_map (place_by acted m.deferred f m.place k) ≡ false
  stays_out acted (Stored n s) m finds k l was = ap is_in_a_map (put_elsewhere n (in_map acted) m.place k (λ e. omega (arith, e, finds, l))) ∙ was
  stays_out acted (Replaced n) m finds k l was = put_out Out n m.place k refl was
  stays_out acted (Removed n) m finds k l was = put_out Out n m.place k refl was
  stays_out acted (Retired (APair n)) m finds k l was = put_out Handed n m.place k refl was
  stays_out acted (Retired (ATable t)) m finds k l was = was
  stays_out acted (Deferred n t) m finds k l was = put_out Behind n m.place k refl was
  stays_out acted (Reclaimed (APair n)) m finds k l was = put_out GivenBack n m.place k refl was
  stays_out acted (Reclaimed (ATable t)) m finds k l was = all_out Handed (behind t m.deferred) m.place k refl was
  stays_out acted (Ended n) m finds k l was = put_out GivenBack n m.place k refl was
  stays_out acted (Taken t) m finds k l was = all_out Left (behind t m.deferred) m.place k refl was
  stays_out acted (Asked growth) m finds k l was = was
  stays_out acted PairMade m finds k l was = was
  stays_out acted PairGivenUp m finds k l was = was
  stays_out acted (TableMade t) m finds k l was = was
  stays_out acted (TableGivenUp t) m finds k l was = was
  stays_out acted (Linked t shape) m finds k l was = was
  stays_out acted (Promoted t) m finds k l was = was
  stays_out acted (Copied n s) m finds k l was = was
  stays_out acted (Counted s) m finds k l was = was

  -- what waits then waited before, or was put there
  waited : (f : Effect) (m : Moment K V) → FindsNumbers m f → WaitOutside m → (n : ℕ) → is_among n (map (λ d. d.pair) (deferred_by f m.deferred)) ≡ true
      → (is_among n (map (λ d. d.pair) m.deferred) ≡ true) ⊎ ((t : TableId) × (f ≡ Deferred n t) × (n ≤ length m.stored))
  waited (Deferred p t) m finds h n e = by (n == p) refl
    where
      by : (q : Bool) → (n == p) ≡ q → (is_among n (map (λ d. d.pair) m.deferred) ≡ true) ⊎ ((u : TableId) × (Deferred p t ≡ Deferred n u) × (n ≤ length m.stored))
      by true is = let same : n ≡ p = grind (arith, is) in inr (t, ap (λ (x : ℕ). Deferred x t) (sym same), (omega (arith, same, finds)))
      by false is = inl (ap (λ (q : Bool). q || is_among n (map (λ d. d.pair) m.deferred)) (sym is) ∙ e)
  waited (Reclaimed (ATable t)) m finds h n e = inl (in_part (λ d. not (same_table d.behind t)) n m.deferred e)
  waited (Taken t) m finds h n e = inl (in_part (λ d. not (same_table d.behind t)) n m.deferred e)
  waited (Reclaimed (APair p)) m finds h n e = inl e
  waited (Stored p s) m finds h n e = inl e
  waited (Replaced p) m finds h n e = inl e
  waited (Removed p) m finds h n e = inl e
  waited (Retired x) m finds h n e = inl e
  waited (Ended p) m finds h n e = inl e
  waited (Asked growth) m finds h n e = inl e
  waited PairMade m finds h n e = inl e
  waited PairGivenUp m finds h n e = inl e
  waited (TableMade t) m finds h n e = inl e
  waited (TableGivenUp t) m finds h n e = inl e
  waited (Linked t shape) m finds h n e = inl e
  waited (Promoted t) m finds h n e = inl e
  waited (Copied p s) m finds h n e = inl e
  waited (Counted s) m finds h n e = inl e

  one_leaves : (caller : Option (List ℕ)) (acted : Option ℕ) (f : Effect) (m : Moment K V) → FindsNumbers m f → WaitOutside m → WaitOutside (with_effect caller acted f m)
  one_leaves caller acted f m finds h n e = by (waited f m finds h n e)
    where
      more : length m.stored ≤ length (with_effect caller acted f m).stored
      more = stored_grows caller acted (f ∷ []) m

      by : (is_among n (map (λ d. d.pair) m.deferred) ≡ true) ⊎ ((t : TableId) × (f ≡ Deferred n t) × (n ≤ length m.stored))
          → (n ≤ length (with_effect caller acted f m).stored) × (is_in_a_map ((with_effect caller acted f m).place n) ≡ false)
      by (inl before) = let was = h n before in ((let l = was.0 in omega (arith, l, more)), stays_out acted f m finds n was.0 was.1)
      by (inr (t, is, l)) = (omega (arith, l, more), ap (λ (x : Effect). is_in_a_map (place_by acted m.deferred x m.place n)) is ∙ ap is_in_a_map (put_here n Behind m.place n refl))

pub effects_leave_outside : (K V : Type 0) → EffectsLeaveOutside K V
effects_leave_outside K V caller acted [] m finds h = h
effects_leave_outside K V caller acted (f ∷ effects) m finds h =
    effects_leave_outside K V caller acted effects (with_effect caller acted f m) finds.1 (one_leaves caller acted f m finds.0 h)

pub each_waits_outside : (K V : Type 0) → EachWaitsOutside K V
each_waits_outside K V m h t n e = (h n (in_part (λ d. same_table d.behind t) n m.deferred e)).1
