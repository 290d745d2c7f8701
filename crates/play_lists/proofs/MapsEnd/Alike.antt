-- Where all of a map is as it was, it goes on to end as it did.
use Rattle.std.specs.Prelude.{◌≡◌, ◌≤◌, ◌==◌, ◌&&◌, ℕ, Bool, true, false, not, nat_le, List, [], ◌∷◌, filter, find, length, Option, Some, None, if◌then◌else◌}
use Rattle.std.proofs.Common.{refl, ap, sym, ◌∙◌, arith}
use Rattle.std.proofs.lemmas.Bool.{eq-eqb}
use Rattle.run_schedules.specs.declared.effect.Effect.{Effect}
use Rattle.run_schedules.specs.declared.effect.Effect.TheVariants as effect
use Rattle.run_schedules.specs.declared.effect.Spot.{Spot}
use Rattle.run_schedules.specs.declared.effect.TableId.{TableId}
use Rattle.run_schedules.specs.Schedules.Effects.{with_effect}
use Rattle.run_schedules.specs.Schedules.Lists.{is_among}
use Rattle.run_schedules.specs.Schedules.Moment.{GivenBack, InMap, IsTaken, Left, MapThere, Moment, Place, TableThere}
use Rattle.run_schedules.specs.Schedules.Things.{is_before, same_table}
use Rattle.run_schedules.specs.Schedules.Views.{behind, first_of, first_or, is_in_map, is_linked, map_at}
use Rattle.run_finds.proofs.Lists.{number_passes, numbers_pass}
use Rattle.run_schedules.specs.Deeds.History.{EndFinds, is_first_of, is_next_pair, left_tables}
use Rattle.play_lists.specs.MapsEnd.Ends.{AlikeOf, AreStored, EndsWell}
use Rattle.play_lists.proofs.MapsEnd.Left.{left_by}
use Rattle.play_lists.proofs.MapsEnd.Places.{none_alike, none_in}
use Rattle.run_finds.proofs.Given.FollowsStored.{in_map_true as in_map_of}

module _ {K V : Type 0} (map : ℕ) where
  -- after one more of what ends with it
  abbrev pub ended : Effect → Moment K V → Moment K V
  ended f m = with_effect None (Some map) f m

  -- the next pair is so in both
  next_alike : (m v : Moment K V) → AlikeOf map m v → AreStored map m → (n : ℕ) → is_in_map map (m.place n) ≡ true → is_next_pair map n m ≡ true → is_next_pair map n v ≡ true
  next_alike m v alike stored n here next = numbers_pass (λ k. not (is_in_map map (v.place k) && is_before (v.spot k) (v.spot n))) 1 (length v.stored) (λ k l u. by k (is_in_map map (v.place k)) refl)
    where
      by : (k : ℕ) (q : Bool) → is_in_map map (v.place k) ≡ q → not (is_in_map map (v.place k) && is_before (v.spot k) (v.spot n)) ≡ true
      by k false e = ap (λ (q : Bool). not (q && is_before (v.spot k) (v.spot n))) e
      by k true e =
          let was : is_in_map map (m.place k) ≡ true = sym (alike.pairs k) ∙ e in
          let its = stored k was in
          let low = its.0 in
          let high = its.1 in
          let before = number_passes (λ j. not (is_in_map map (m.place j) && is_before (m.spot j) (m.spot n))) 1 (length m.stored) k low (omega (arith, high)) next in
          ap (λ (q : Bool). not (q && is_before (v.spot k) (v.spot n))) (alike.pairs k) ∙ ap (λ (s : Spot). not (is_in_map map (m.place k) && is_before s (v.spot n))) (alike.spots k was)
          ∙ ap (λ (s : Spot). not (is_in_map map (m.place k) && is_before (m.spot k) s)) (alike.spots n here) ∙ before

  in_it : (n : ℕ) (m : Moment K V) → m.place n ≡ InMap map → is_in_map map (m.place n) ≡ true
  in_it n m is = ap (is_in_map map) is ∙ eq-eqb map map refl

  -- what it finds it finds in both
  one_finds : (m v : Moment K V) → AlikeOf map m v → AreStored map m → (f : Effect) → EndFinds map m f → EndFinds map v f
  one_finds m v alike stored (effect.Ended n) (here, next) =
      let was = in_it n m here in (in_map_of map (v.place n) (alike.pairs n ∙ was), next_alike m v alike stored n was next)
  one_finds m v alike stored (effect.Taken t) (none, next) = (none_alike map m v alike stored none, ap (is_first_of t) alike.left ∙ next)
  one_finds m v alike stored _ never = absurd never

  -- a pair that is gone is so in both
  module _ (m v : Moment K V) (alike : AlikeOf map m v) where
    pair_alike : (n : ℕ) → AlikeOf map (ended (effect.Ended n) m) (ended (effect.Ended n) v)
    pair_alike n = record {
      pairs = λ k. pairs k (k == n);
      spots = λ k. spots k (k == n);
      left = alike.left;
      there = alike.there;
      stored = alike.stored;
    }
      where
        pairs : (k : ℕ) (q : Bool) → is_in_map map (if q then GivenBack else v.place k) ≡ is_in_map map (if q then GivenBack else m.place k)
        pairs k true = refl
        pairs k false = alike.pairs k

        spots : (k : ℕ) (q : Bool) → is_in_map map (if q then GivenBack else m.place k) ≡ true → v.spot k ≡ m.spot k
        spots k true e = absurd (cc e)
        spots k false e = alike.spots k e

    -- and so is a table, with no pair in the map
    table_alike : (t : TableId) → ((k : ℕ) → is_in_map map (m.place k) ≡ false) → AlikeOf map (ended (effect.Taken t) m) (ended (effect.Taken t) v)
    table_alike t none = record {
      pairs = λ k. out v k (alike.pairs k ∙ none k) (is_among k (behind t v.deferred)) ∙ sym (out m k (none k) (is_among k (behind t m.deferred)));
      spots = λ k e. absurd (let gone = out m k (none k) (is_among k (behind t m.deferred)) in cc (gone, e));
      left = taken v ∙ ap (filter (λ u. not (same_table u.table t))) alike.left ∙ sym (taken m);
      there = alike.there;
      stored = alike.stored;
    }
      where
        out : (x : Moment K V) (k : ℕ) → is_in_map map (x.place k) ≡ false → (q : Bool) → is_in_map map (if q then Left else x.place k) ≡ false
        out x k none true = refl
        out x k none false = none

        taken : (x : Moment K V) → left_tables map (ended (effect.Taken t) x) ≡ filter (λ u. not (same_table u.table t)) (left_tables map x)
        taken x = left_by map (first_of map x) t IsTaken refl x.tables

  one_alike : (m v : Moment K V) → AlikeOf map m v → AreStored map m → (f : Effect) → EndFinds map m f → AlikeOf map (ended f m) (ended f v)
  one_alike m v alike stored (effect.Ended n) finds = pair_alike m v alike n
  one_alike m v alike stored (effect.Taken t) (none, next) = table_alike m v alike t (none_in map m stored none)
  one_alike m v alike stored _ never = absurd never

  -- the pairs of it stay those that were stored
  pub one_stored : (m : Moment K V) → AreStored map m → (f : Effect) → EndFinds map m f → AreStored map (ended f m)
  one_stored m stored (effect.Ended n) finds k = by (k == n)
    where
      by : (q : Bool) → is_in_map map (if q then GivenBack else m.place k) ≡ true → (1 ≤ k) × (k ≤ length m.stored)
      by true e = absurd (cc e)
      by false e = stored k e
  one_stored m stored (effect.Taken t) finds k = by (is_among k (behind t m.deferred))
    where
      by : (q : Bool) → is_in_map map (if q then Left else m.place k) ≡ true → (1 ≤ k) × (k ≤ length m.stored)
      by true e = absurd (cc e)
      by false e = stored k e
  one_stored m stored _ never k = absurd never

  -- So it goes on to end.
  pub ends_alike : (effects : List Effect) (m v : Moment K V) → AlikeOf map m v → AreStored map m → EndsWell map effects m → EndsWell map effects v
  ends_alike [] m v alike stored well = record { finds = tt; no_pair = none_alike map m v alike stored well.no_pair; no_table = alike.left ∙ well.no_table }
  ends_alike (f ∷ effects) m v alike stored well =
      let rest = ends_alike effects (ended f m) (ended f v) (one_alike m v alike stored f well.finds.0) (one_stored m stored f well.finds.0)
      (record { finds = well.finds.1; no_pair = well.no_pair; no_table = well.no_table }) in
      record { finds = (one_finds m v alike stored f well.finds.0, rest.finds); no_pair = rest.no_pair; no_table = rest.no_table }

  -- by what has ended, too
  pub ends_next : (f : Effect) (effects : List Effect) (m : Moment K V) → AreStored map m → EndsWell map (f ∷ effects) m → AreStored map (ended f m) × EndsWell map effects (ended f m)
  ends_next f effects m stored well = (one_stored m stored f well.finds.0, record { finds = well.finds.1; no_pair = well.no_pair; no_table = well.no_table })

  -- all of it is alike along three moments
  pub alike_then : (m v u : Moment K V) → AlikeOf map m v → AlikeOf map v u → AlikeOf map m u
  alike_then m v u one two = record {
    pairs = λ k. two.pairs k ∙ one.pairs k;
    spots = λ k is. two.spots k (one.pairs k ∙ is) ∙ one.spots k is;
    left = two.left ∙ one.left;
    there = two.there ∙ one.there;
    stored = let a = one.stored in let b = two.stored in omega (arith, a, b);
  }

  pub alike_itself : (m : Moment K V) → AlikeOf map m m
  alike_itself m = record { pairs = λ k. refl; spots = λ k is. refl; left = refl; there = refl; stored = omega arith }

  -- where maps come, and are there no more, of which it is none
  pub alike_maps : (m v : Moment K V) → map_at map v ≡ map_at map m → v.place ≡ m.place → v.tables ≡ m.tables → v.spot ≡ m.spot → v.stored ≡ m.stored → AlikeOf map m v
  alike_maps m v there place tables spot stored = record {
    pairs = λ k. ap (λ (f : ℕ → Place). is_in_map map (f k)) place;
    spots = λ k is. ap (λ (f : ℕ → Spot). f k) spot;
    left = ap (λ (o : Option MapThere). filter (λ u. is_linked u.stage) (filter (λ u. nat_le (first_or o) u.table.turn) (filter (λ u. u.table.map == map) v.tables))) there
        ∙ ap (λ (us : List TableThere). filter (λ u. is_linked u.stage) (filter (λ u. nat_le (first_of map m) u.table.turn) (filter (λ u. u.table.map == map) us))) tables;
    there = there;
    stored = let e = ap length stored in omega (arith, e);
  }

  -- in moments that have the same of all maps
  pub alike_all : (m v : Moment K V) → v.maps ≡ m.maps → v.place ≡ m.place → v.tables ≡ m.tables → v.spot ≡ m.spot → v.stored ≡ m.stored → AlikeOf map m v
  alike_all m v maps place tables spot stored = alike_maps m v (ap (find (λ f. f.number == map)) maps) place tables spot stored
