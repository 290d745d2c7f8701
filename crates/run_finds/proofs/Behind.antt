-- A pair that waits behind a table lies where it lay, in the next table, whatever effects come.
use Rattle.std.specs.Prelude.{◌≡◌, ℕ, ◌<◌, ◌≤◌, ◌==◌, Bool, true, false, not, List, [], ◌∷◌, filter, length, Option, Some, None}
use Rattle.std.specs.List.{AllByRecursion}
use Rattle.std.proofs.Common.{refl, ap, sym, subst, ◌∙◌, arith}
use Rattle.std.proofs.lemmas.Bool.{eq-eqb}
use Rattle.run_executor.specs.Given.RunsDeclared.effect.Effect.{Effect}
use Rattle.run_executor.specs.Given.RunsDeclared.effect.Effect.TheVariants as effect
use Rattle.run_executor.specs.Given.RunsDeclared.effect.Spot.{Spot}
use Rattle.run_executor.specs.Given.RunsDeclared.effect.TableId.{TableId}
use Rattle.run_executor.specs.Given.RunsDeclared.effect.Thing.TheVariants.{APair, ATable}
use Rattle.run_executor.specs.Given.SchedulesEffects.{is_chunked, with_effect}
use Rattle.run_executor.specs.Given.SchedulesLists.{is_in}
use Rattle.run_executor.specs.Given.SchedulesLives.{MayCopy, MayDefer, CallFinds, EventFinds}
use Rattle.run_executor.specs.Given.SchedulesMoment.{Place, Unborn, InMap, Out, Handed, Behind, Left, GivenBack, UnderWay, Deferral, Moment}
use Rattle.run_executor.specs.Given.SchedulesTerms.{Terms}
use Rattle.run_executor.specs.Given.SchedulesThings.{same_table, same_thing}
use Rattle.run_executor.specs.Given.SchedulesViews.{is_in_a_map, first_of, grows_in_chunks, map_at, tables_of}
use Rattle.run_executor.specs.Given.SpotsDeferred.{FindsNumbers}
use Rattle.run_executor.proofs.Given.SpotsEffects.{aside_all, is_aside}
use Rattle.run_finds.specs.Past.{HasLeftMaps, FindsOnward}
use Rattle.run_finds.specs.Waiting.{is_unborn, is_behind_one, once_if, put_in, PairsArePlaced, FindsPlaced}
use Rattle.run_finds.specs.Within.{HasItsMap, LiesNext}
use Rattle.run_finds.proofs.Grown.{comes_on}
use Rattle.run_finds.proofs.Lists.{all_so, all_both}
use Rattle.run_finds.proofs.Owed.{owed_there}
use Rattle.run_finds.proofs.Past.{kept}
use Rattle.run_finds.proofs.Tables.{all_kept}

-- each of a list is put behind a table
once_more : (n : ℕ) (d : Deferral) (ds : List Deferral) → put_in n ds ≤ put_in n (d ∷ ds)
once_more n d ds = omega arith

pub each_is_put : (ds : List Deferral) → AllByRecursion (λ d. 1 ≤ put_in d.pair ds) ds
each_is_put [] = tt
each_is_put (d ∷ ds) = (here, all_so (λ (x : Deferral). 1 ≤ put_in x.pair ds) (λ (x : Deferral). 1 ≤ put_in x.pair (d ∷ ds)) (λ x l. (let more = once_more x.pair d ds in omega (arith, l, more))) ds (each_is_put ds))
  where
    here : 1 ≤ put_in d.pair (d ∷ ds)
    here = (let one : once_if (d.pair == d.pair) ≡ 1 = ap once_if (eq-eqb d.pair d.pair refl) in omega (arith, one))

behind_so : (p : Place) → 1 ≤ once_if (is_behind_one p) → (is_in_a_map p ≡ false) × (is_unborn p ≡ false)
behind_so Behind l = (refl, refl)
behind_so Unborn l = absurd (omega (arith, l))
behind_so (InMap map) l = absurd (omega (arith, l))
behind_so Out l = absurd (omega (arith, l))
behind_so Handed l = absurd (omega (arith, l))
behind_so Left l = absurd (omega (arith, l))
behind_so GivenBack l = absurd (omega (arith, l))

module _ {K V : Type 0} (m : Moment K V) (placed : PairsArePlaced m) where
  -- it has left its map
  pub put_has_left : (n : ℕ) → 1 ≤ put_in n m.deferred → HasLeftMaps m n
  put_has_left n l =
      let some : 1 ≤ once_if (is_behind_one (m.place n)) = (let e = placed.put n in omega (arith, l, e)) in
      let so = behind_so (m.place n) some in (placed.stored n so.1, so.0)

  module _ (who : Option (List ℕ)) (acted : Option ℕ) (f : Effect) (numbers : FindsNumbers m f) (onward : FindsOnward acted m f) where
    abbrev v : Moment K V
    v = with_effect who acted f m

    same_lies : (d : Deferral) → (v.born d.pair ≡ m.born d.pair) × (v.spot d.pair ≡ m.spot d.pair) → LiesNext m d → LiesNext v d
    same_lies d same lies = (
      lies.0,
      ap (λ (t : TableId). t.map) same.0 ∙ lies.1,
      subst (λ (t : TableId). t.turn < (v.spot d.pair).turn) (sym same.0) (subst (λ (x : Spot). (m.born d.pair).turn < x.turn) (sym same.1) lies.2),
      ap (λ (x : Spot). x.turn) same.1 ∙ lies.3,
    )

    -- those that waited
    pub lie_still : AllByRecursion (LiesNext m) m.deferred → AllByRecursion (LiesNext v) m.deferred
    lie_still all =
        all_so (λ (d : Deferral). LiesNext m d × (1 ≤ put_in d.pair m.deferred)) (LiesNext v) (λ d its. same_lies d (kept who acted f m numbers onward d.pair (put_has_left d.pair its.1)) its.0) m.deferred
        (all_both (LiesNext m) (λ (d : Deferral). 1 ≤ put_in d.pair m.deferred) m.deferred all (each_is_put m.deferred))

    fewer_lie : (t : TableId) → AllByRecursion (LiesNext v) m.deferred → AllByRecursion (LiesNext v) (filter (λ (d : Deferral). not (same_table d.behind t)) m.deferred)
    fewer_lie t all =
        all_so (λ (d : Deferral). LiesNext v d × (not (same_table d.behind t) ≡ true)) (LiesNext v) (λ d its. its.0) (filter (λ (d : Deferral). not (same_table d.behind t)) m.deferred)
        (all_kept (LiesNext v) (λ (d : Deferral). not (same_table d.behind t)) m.deferred all)

    -- and so do those that wait then, if one that comes does
    pub all_lie : ((n : ℕ) (t : TableId) → f ≡ effect.Deferred n t → LiesNext m (record { pair = n; behind = t })) → AllByRecursion (LiesNext m) m.deferred → AllByRecursion (LiesNext v) v.deferred
    all_lie new all = by f refl (lie_still all)
      where
        Then : Effect → Type 0
        Then g = AllByRecursion (LiesNext v) (with_effect who acted g m).deferred

        by : (g : Effect) → f ≡ g → AllByRecursion (LiesNext v) m.deferred → Then g
        by (effect.Deferred n t) is still =
            let aside = aside_all who acted (f ∷ []) m (ap is_aside is, tt) in
            (same_lies (record { pair = n; behind = t }) (ap (λ (g : ℕ → TableId). g n) aside.born, ap (λ (g : ℕ → Spot). g n) aside.spot) (new n t is), still)
        by (effect.Reclaimed (ATable t)) is still = fewer_lie t still
        by (effect.Reclaimed (APair n)) is still = still
        by (effect.Taken t) is still = fewer_lie t still
        by g is still = still

-- What effects find of that. No event has such an effect but by a call;
module _ {K V : Type 0} (everything : Bool) (m : Moment K V) where
  pub none_links : (n : ℕ) (s : Spot) (o : Option ℕ) → EventFinds o everything m (effect.Stored n s) → ⊥
  none_links n s None its = its
  none_links n s (Some of) its = its

  pub none_promotes : (t : TableId) (o : Option ℕ) → EventFinds o everything m (effect.Promoted t) → ⊥
  none_promotes t None its = its
  none_promotes t (Some of) its = its

  pub none_copies : (n : ℕ) (s : Spot) (o : Option ℕ) → EventFinds o everything m (effect.Copied n s) → ⊥
  none_copies n s None its = its
  none_copies n s (Some of) its = its

  pub none_defers : (n : ℕ) (t : TableId) (o : Option ℕ) → EventFinds o everything m (effect.Deferred n t) → ⊥
  none_defers n t None its = its
  none_defers n t (Some of) its = its

  module _ (acted : Option ℕ) where
    pub event_numbers : (caller : Option (List ℕ)) (f : Effect) → EventFinds acted everything m f → FindsPlaced caller m f → FindsNumbers m f
    event_numbers caller (effect.Stored n s) finds placed = placed.0
    event_numbers caller (effect.Deferred n t) finds placed = absurd (none_defers n t acted finds)
    event_numbers caller _ finds placed = tt

    pub event_onward : (f : Effect) → EventFinds acted everything m f → FindsOnward acted m f
    event_onward (effect.Copied n s) finds = absurd (none_copies n s acted finds)
    event_onward (effect.Promoted t) finds = absurd (none_promotes t acted finds)
    event_onward _ finds = tt

    pub event_next : (f : Effect) → EventFinds acted everything m f → (n : ℕ) (t : TableId) → f ≡ effect.Deferred n t → LiesNext m (record { pair = n; behind = t })
    event_next f finds n t is = absurd (none_defers n t acted (subst (EventFinds acted everything m) is finds))

-- and a call puts what it owes behind the table just before that in which it lies.
module _ {K V : Type 0} (terms : Terms) (moments : List (Moment K V)) (acted : Option ℕ) (m : Moment K V) (c : UnderWay K V) (acts : acted ≡ Some c.map) (its : HasItsMap m c) where
  call_owed : (n : ℕ) → is_in same_thing (APair n) c.owes ≡ true → (1 ≤ n) × (n ≤ length m.stored) × ((m.born n).map ≡ c.map)
  call_owed n there = let owed = owed_there n c.owes there in its.owes n owed.0 owed.1

  pub call_numbers : (caller : Option (List ℕ)) (f : Effect) → CallFinds terms moments m f c → FindsPlaced caller m f → FindsNumbers m f
  call_numbers caller (effect.Stored n s) finds placed = placed.0
  call_numbers caller (effect.Deferred n t) finds placed = (call_owed n finds.0).1
  call_numbers caller _ finds placed = tt

  pub call_onward : (f : Effect) → CallFinds terms moments m f c → FindsOnward acted m f
  call_onward (effect.Copied n s) finds = λ chunked. ap is_in_a_map (subst (λ (q : Bool). MayCopy q c.map m n s) (ap (λ (o : Option ℕ). is_chunked o m) (sym acts) ∙ chunked) finds).0
  call_onward (effect.Promoted t) finds =
      subst (λ (q : ℕ). first_of q m ≤ t.turn) (sym finds.0) (comes_on (grows_in_chunks (map_at c.map m)) (first_of c.map m) t.turn (tables_of c.map m) finds.2)
  call_onward _ finds = tt

  pub call_next : (f : Effect) → CallFinds terms moments m f c → (n : ℕ) (t : TableId) → f ≡ effect.Deferred n t → LiesNext m (record { pair = n; behind = t })
  call_next f finds n t is =
      let found = subst (λ (g : Effect). CallFinds terms moments m g c) is finds in
      let may : MayDefer c.map m n t = found.1 in
      let stored = call_owed n found.0 in
      (stored.0, stored.2 ∙ sym may.0, may.2, may.1)
