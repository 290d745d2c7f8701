-- How many pairs a map has after an effect: one more where one is stored in it, one less where one leaves it.
use Rattle.std.specs.Prelude.{◌≡◌, ℕ, suc, ◌+◌, Bool, true, false, List, length, Option, Some, None, if◌then◌else◌}
use Rattle.std.proofs.Common.{refl, ap, sym, subst, ◌∙◌, arith, inl, inr}
use Rattle.std.proofs.lemmas.Bool.{cases_eq, eq-eqb}
use Rattle.run_finds.specs.Given.RunsDeclared.effect.Effect.{Effect}
use Rattle.run_finds.specs.Given.RunsDeclared.effect.Effect.TheVariants as effect
use Rattle.run_finds.specs.Given.RunsDeclared.effect.Spot.{Spot}
use Rattle.run_finds.specs.Given.RunsDeclared.effect.TableId.{TableId}
use Rattle.run_finds.specs.Given.RunsDeclared.effect.Thing.TheVariants.{APair, ATable}
use Rattle.run_finds.specs.Given.SchedulesEffects.{all_at, in_map, place_by, with_effect}
use Rattle.run_finds.specs.Given.SchedulesEntry.{ByCall, acting}
use Rattle.run_finds.specs.Given.SchedulesLists.{is_among, is_in, put}
use Rattle.run_finds.specs.Given.SchedulesMoment.{Place, InMap, Out, Handed, Behind, Left, GivenBack, UnderWay, Moment}
use Rattle.run_finds.specs.Given.SchedulesThings.{same_thing}
use Rattle.run_finds.specs.Given.SchedulesViews.{behind, call_of, is_in_map, places_below, size_of}
use Rattle.run_finds.proofs.Given.FollowsAlike.{put_here, put_elsewhere}
use Rattle.run_finds.specs.Waiting.{FindsPlaced, HasPairPending, PairsArePlaced, is_behind_one, is_let_go, is_out, is_unborn, once_if, owed_by}
use Rattle.run_finds.specs.Within.{AllIsInOrder}
use Rattle.run_finds.proofs.Counted.{was_behind}
use Rattle.run_finds.proofs.Owed.{owed_at_least, owed_there}
use Rattle.run_finds.proofs.Somewhere.{is_storing, leads, none_stored}
use Rattle.run_sweeps.proofs.Sizes.Sums.{places_put, places_same}
use Rattle.run_finds.proofs.Given.FollowsStored.{in_map_true as is_in_it}

pub it_is_in : (k : ℕ) (p : Place) → p ≡ InMap k → is_in_map k p ≡ true
it_is_in k p e = ap (is_in_map k) e ∙ eq-eqb k k refl

same_tests : (p q : Bool) → (p ≡ true → q ≡ true) → (q ≡ true → p ≡ true) → p ≡ q
same_tests true q to from = sym (to refl)
same_tests false true to from = from refl
same_tests false false to from = refl

-- the effect takes a pair out of its map
abbrev pub is_taking : Effect → Bool
is_taking (effect.Replaced n) = true
is_taking (effect.Removed n) = true
is_taking _ = false

-- it ends none of this map's
abbrev pub EndsNoneOf : ℕ → (ℕ → Place) → Effect → Type 0
EndsNoneOf k place (effect.Ended n) = place n ≡ InMap k → ⊥
EndsNoneOf k place _ = Unit {0}

-- by how much it makes the map larger, and smaller
abbrev pub brings : ℕ → Option ℕ → Effect → ℕ
brings k acted (effect.Stored n s) = once_if (is_in_map k (in_map acted))
brings k acted _ = 0

abbrev pub takes : ℕ → (ℕ → Place) → Effect → ℕ
takes k place (effect.Replaced n) = once_if (is_in_map k (place n))
takes k place (effect.Removed n) = once_if (is_in_map k (place n))
takes k place _ = 0

module _ {K V : Type 0} (k : ℕ) (caller : Option (List ℕ)) (acted : Option ℕ) (m : Moment K V) (h : AllIsInOrder m) where
  placed : PairsArePlaced m
  placed = h.waits.placed

  -- a pair that a call owes is in no map
  owed_is_out : (n : ℕ) → HasPairPending caller m n → m.place n ≡ InMap k → ⊥
  owed_is_out n owes is = by caller owes
    where
      by : (who : Option (List ℕ)) → HasPairPending who m n → ⊥
      by None owed = owed
      by (Some own) owed = of (call_of own m) refl owed
        where
          of : (o : Option (UnderWay K V)) → call_of own m ≡ o → ByCall (λ c. is_in same_thing (APair n) c.owes ≡ true) o → ⊥
          of None found owes_it = owes_it
          of (Some c) found owes_it =
              let some = owed_there n c.owes owes_it in let one = some.1 in
              let all = owed_at_least n own m.calls c found in let its = all.1 in
              let none : owed_by n m.calls ≡ 0 = placed.owed n ∙ ap (λ (p : Place). once_if (is_out p)) is in
              omega (arith, one, its, none)

  put_stays : (n : ℕ) (to : Place) → (m.place n ≡ InMap k → ⊥) → (j : ℕ) → m.place j ≡ InMap k → put n to m.place j ≡ InMap k
  put_stays n to none j is = elim (cases_eq j n) as (λ _. put n to m.place j ≡ InMap k) [
    | inl same ↦ absurd (none (subst (λ (i : ℕ). m.place i ≡ InMap k) same is))
    | inr ne ↦ put_elsewhere n to m.place j ne ∙ is
  ]

  all_stay : (t : TableId) (to : Place) (j : ℕ) → m.place j ≡ InMap k → all_at to (behind t m.deferred) m.place j ≡ InMap k
  all_stay t to j is = by (is_among j (behind t m.deferred)) refl
    where
      by : (q : Bool) → is_among j (behind t m.deferred) ≡ q → (if is_among j (behind t m.deferred) then to else m.place j) ≡ InMap k
      by true e = absurd (cc (sym (ap is_behind_one is) ∙ was_behind t to m.place m.deferred placed.put j e))
      by false e = ap (λ (q : Bool). if q then to else m.place j) e ∙ is

  let_go_is_out : (n : ℕ) → is_let_go (m.place n) ≡ true → m.place n ≡ InMap k → ⊥
  let_go_is_out n gone is = cc (sym (ap is_let_go is) ∙ gone)

  -- what is in the map stays there, if the effect does not take it out
  stays_in : (f : Effect) → is_storing f ≡ false → is_taking f ≡ false → FindsPlaced caller m f → EndsNoneOf k m.place f → (j : ℕ) → m.place j ≡ InMap k → place_by acted m.deferred f m.place j ≡ InMap k
  stays_in (effect.Stored n s) stores none finds ends j is = absurd (cc stores)
  stays_in (effect.Replaced n) stores none finds ends j is = absurd (cc none)
  stays_in (effect.Removed n) stores none finds ends j is = absurd (cc none)
  stays_in (effect.Deferred n t) stores none finds ends j is = put_stays n Behind (owed_is_out n finds) j is
  stays_in (effect.Retired (APair n)) stores none finds ends j is = put_stays n Handed (owed_is_out n finds) j is
  stays_in (effect.Retired (ATable t)) stores none finds ends j is = is
  stays_in (effect.Reclaimed (APair n)) stores none finds ends j is = put_stays n GivenBack (let_go_is_out n finds) j is
  stays_in (effect.Reclaimed (ATable t)) stores none finds ends j is = all_stay t Handed j is
  stays_in (effect.Ended n) stores none finds ends j is = put_stays n GivenBack ends j is
  stays_in (effect.Taken t) stores none finds ends j is = all_stay t Left j is
  stays_in _ stores none finds ends j is = is

  abbrev then_at : Effect → Moment K V
  then_at f = with_effect caller acted f m

  as_many : (f : Effect) → is_storing f ≡ false → length (then_at f).stored ≡ length m.stored
  as_many f stores = ap length (none_stored (acting caller m) f m.stored stores)

  -- so the map has as many
  same_size : (f : Effect) → is_storing f ≡ false → is_taking f ≡ false → FindsPlaced caller m f → EndsNoneOf k m.place f → size_of k (then_at f) ≡ size_of k m
  same_size f stores none finds ends =
      ap (places_below (is_in_map k) (then_at f).place) (as_many f stores)
      ∙ places_same (is_in_map k) (then_at f).place m.place (length m.stored)
      (λ j l u. same_tests (is_in_map k ((then_at f).place j)) (is_in_map k (m.place j)) (λ now. it_is_in k (m.place j) ((leads acted m f stores).in_map j k (is_in_it k ((then_at f).place j) now)))
      (λ was. it_is_in k ((then_at f).place j) (stays_in f stores none finds ends j (is_in_it k (m.place j) was))))

  -- it has one less that is taken out of it,
  out_size : (f : Effect) (n map : ℕ) → is_storing f ≡ false → (then_at f).place ≡ put n Out m.place → m.place n ≡ InMap map → size_of k (then_at f) + once_if (is_in_map k (m.place n)) ≡ size_of k m
  out_size f n map stores place is =
      let low = (h.within.maps n map is).0 in
      let high = placed.stored n (ap is_unborn is) in
      let moved = places_put (is_in_map k) n Out m.place (length m.stored) low high in
      let same : size_of k (then_at f) ≡ places_below (is_in_map k) (put n Out m.place) (length m.stored) =
      ap (places_below (is_in_map k) (then_at f).place) (as_many f stores) ∙ ap (λ (p : ℕ → Place). places_below (is_in_map k) p (length m.stored)) place in
      omega (arith, moved, same)

  -- and one more that is stored in it
  in_size : (n : ℕ) (s : Spot) → FindsPlaced caller m (effect.Stored n s) → size_of k (then_at (effect.Stored n s)) ≡ size_of k m + once_if (is_in_map k (in_map acted))
  in_size n s finds =
      let next : n ≡ length m.stored + 1 = finds.0 in
      let long : length (then_at (effect.Stored n s)).stored ≡ suc (length m.stored) = finds.1 ∙ (omega (arith, next)) in
      let all = ap (places_below (is_in_map k) (put n (in_map acted) m.place)) long in
      let others = places_same (is_in_map k) (put n (in_map acted) m.place) m.place (length m.stored) (λ j l u. ap (is_in_map k) (put_elsewhere n (in_map acted) m.place j (λ e. omega (arith, u, e, next)))) in
      let last : once_if (is_in_map k (put n (in_map acted) m.place (suc (length m.stored)))) ≡ once_if (is_in_map k (in_map acted)) =
      ap (λ (p : Place). once_if (is_in_map k p)) (put_here n (in_map acted) m.place (suc (length m.stored)) (omega (arith, next))) in
      omega (arith, all, others, last)

  -- what is taken out of a map is in one
  abbrev pub TakesFromOne : Effect → Type 0
  TakesFromOne (effect.Replaced n) = (map : ℕ) × (m.place n ≡ InMap map)
  TakesFromOne (effect.Removed n) = (map : ℕ) × (m.place n ≡ InMap map)
  TakesFromOne _ = Unit {0}

  pub size_goes : (f : Effect) → FindsPlaced caller m f → TakesFromOne f → EndsNoneOf k m.place f → size_of k (then_at f) + takes k m.place f ≡ size_of k m + brings k acted f
  size_goes (effect.Stored n s) finds from ends = let it = in_size n s finds in omega (arith, it)
  size_goes (effect.Replaced n) finds from ends = let it = out_size (effect.Replaced n) n from.0 refl refl from.1 in omega (arith, it)
  size_goes (effect.Removed n) finds from ends = let it = out_size (effect.Removed n) n from.0 refl refl from.1 in omega (arith, it)
  size_goes (effect.Retired (APair n)) finds from ends = let it = same_size (effect.Retired (APair n)) refl refl finds ends in omega (arith, it)
  size_goes (effect.Retired (ATable t)) finds from ends = let it = same_size (effect.Retired (ATable t)) refl refl finds ends in omega (arith, it)
  size_goes (effect.Reclaimed (APair n)) finds from ends = let it = same_size (effect.Reclaimed (APair n)) refl refl finds ends in omega (arith, it)
  size_goes (effect.Reclaimed (ATable t)) finds from ends = let it = same_size (effect.Reclaimed (ATable t)) refl refl finds ends in omega (arith, it)
  size_goes f finds from ends = let it = same_size f refl refl finds ends in omega (arith, it)
