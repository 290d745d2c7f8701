-- What is done to other maps leaves all of this one as it was.
use Rattle.std.specs.Prelude.{◌≡◌, ◌≢◌, ◌≤◌, ◌<◌, ◌==◌, ◌&&◌, ℕ, nat_le, Bool, true, false, List, [], ◌∷◌, filter, length, Option, Some, None, if◌then◌else◌}
use Rattle.std.proofs.Common.{refl, ap, sym, ◌∙◌, arith, eqb-true, length-append}
use Rattle.std.proofs.lemmas.Bool.{ne_eqb}
use Rattle.run_schedules.specs.declared.effect.Effect.{Effect}
use Rattle.run_schedules.specs.declared.effect.Effect.TheVariants as effect
use Rattle.run_schedules.specs.declared.effect.Spot.{Spot}
use Rattle.run_schedules.specs.declared.effect.TableId.{TableId}
use Rattle.run_schedules.specs.declared.effect.Thing.TheVariants.{APair, ATable}
use Rattle.run_schedules.specs.Schedules.Effects.{AtEachEffect, all_at, in_map, is_chunked, new_pair, spot_by, stored_by, with_effect, with_effects}
use Rattle.run_schedules.specs.Schedules.Entry.{acting}
use Rattle.run_schedules.specs.Schedules.Lists.{is_among, put}
use Rattle.run_schedules.specs.Schedules.Moment.{Behind, GivenBack, Handed, IsLinked, IsReclaimed, IsRetired, IsTaken, Left, MapThere, Moment, Out, Place, UnderWay}
use Rattle.run_schedules.specs.Schedules.Views.{behind, first_of, first_or, is_in_map, is_linked, tables_of}
use Rattle.run_finds.proofs.Given.FollowsAlike.{others_found, put_elsewhere}
use Rattle.play_lists.specs.MapsEnd.Ends.{AlikeOf, AreStored, IsOut, Spares}
use Rattle.play_lists.proofs.MapsEnd.Alike.{alike_itself, alike_then}
use Rattle.play_lists.proofs.MapsEnd.Left.{left_beside, linked_beside}
use Rattle.play_lists.proofs.MapsEnd.Places.{stored_alike}
use Rattle.run_finds.proofs.Given.FollowsStored.{in_map_true as in_map_of}

-- no pair is forgotten
stored_kept : {K V : Type 0} (o : Option (UnderWay K V)) (f : Effect) (stored : List (K × V)) → length stored ≤ length (stored_by o f stored)
stored_kept None f stored = omega arith
stored_kept (Some c) (effect.Stored n s) stored = let more = length-append stored (new_pair c.call c n) in omega (arith, more)
stored_kept (Some c) _ stored = omega arith

module _ {K V : Type 0} (map : ℕ) (m : Moment K V) (stored : AreStored map m) where
  -- a pair that is not in it comes to somewhere else
  put_out : (n : ℕ) (p : Place) → IsOut map m n → is_in_map map p ≡ false → (k : ℕ) → is_in_map map (put n p m.place k) ≡ is_in_map map (m.place k)
  put_out n p out none k = by (k == n) refl
    where
      by : (q : Bool) → (k == n) ≡ q → is_in_map map (if q then p else m.place k) ≡ is_in_map map (m.place k)
      by true e = none ∙ sym (ap (λ (x : ℕ). is_in_map map (m.place x)) (eqb-true k n e) ∙ out)
      by false e = refl

  all_out : (t : TableId) (p : Place) → ((k : ℕ) → is_among k (behind t m.deferred) ≡ true → IsOut map m k) → is_in_map map p ≡ false → (k : ℕ)
      → is_in_map map (all_at p (behind t m.deferred) m.place k) ≡ is_in_map map (m.place k)
  all_out t p out none k = by (is_among k (behind t m.deferred)) refl
    where
      by : (q : Bool) → is_among k (behind t m.deferred) ≡ q → is_in_map map (if q then p else m.place k) ≡ is_in_map map (m.place k)
      by true e = none ∙ sym (out k e)
      by false e = refl

  -- where such a pair lies is nothing to it
  other_pair : (n k : ℕ) → IsOut map m n → is_in_map map (m.place k) ≡ true → k ≢ n
  other_pair n k out is e = let also = ap (λ (x : ℕ). is_in_map map (m.place x)) e ∙ out in cc (also, is)

  spot_put : (n : ℕ) (s : Spot) → IsOut map m n → (k : ℕ) → is_in_map map (m.place k) ≡ true → put n s m.spot k ≡ m.spot k
  spot_put n s out k is = put_elsewhere n s m.spot k (other_pair n k out is)

  copied_spots : (q : Bool) (n : ℕ) (s : Spot) → (q ≡ true → IsOut map m n) → (k : ℕ) → is_in_map map (m.place k) ≡ true → spot_by q m.place m.copy (effect.Copied n s) m.spot k ≡ m.spot k
  copied_spots true n s out k is = put_elsewhere n _ m.spot k (other_pair n k (out refl) is)
  copied_spots false n s out k is = refl

  promoted_spots : (q : Bool) (t : TableId) → t.map ≢ map → (k : ℕ) → is_in_map map (m.place k) ≡ true → spot_by q m.place m.copy (effect.Promoted t) m.spot k ≡ m.spot k
  promoted_spots true t other k is = refl
  promoted_spots false t other k is =
      let not : is_in_map t.map (m.place k) ≡ false = ap (is_in_map t.map) (in_map_of map (m.place k) is) ∙ ne_eqb t.map map other in
      ap (λ (q : Bool). if q && ((m.copy k).turn == t.turn) then m.copy k else m.spot k) not

  born_out : (o : Option ℕ) → o ≢ Some map → is_in_map map (in_map o) ≡ false
  born_out None other = refl
  born_out (Some x) other = ne_eqb map x (λ e. other (ap Some (sym e)))

  not_stored : (n : ℕ) → length m.stored < n → IsOut map m n
  not_stored n more = by (is_in_map map (m.place n)) refl
    where
      by : (q : Bool) → is_in_map map (m.place n) ≡ q → is_in_map map (m.place n) ≡ false
      by false e = e
      by true e = absurd (let high = (stored n e).1 in omega (arith, high, more))

  module _ (caller : Option (List ℕ)) (acted : Option ℕ) (other : acted ≢ Some map) where
    abbrev led : Effect → Moment K V
    led f = with_effect caller acted f m

    kept : (f : Effect) → length m.stored ≤ length (led f).stored
    kept f = stored_kept (acting caller m) f m.stored

    pub one_spared : (f : Effect) → Spares map acted m f → AlikeOf map m (led f)
    one_spared (effect.Stored n s) new =
        record {
          pairs = put_out n (in_map acted) (not_stored n new) (born_out acted other);
          spots = spot_put n s (not_stored n new);
          left = refl;
          there = refl;
          stored = kept (effect.Stored n s);
        }
    one_spared (effect.Replaced n) out = record { pairs = put_out n Out out refl; spots = λ k is. refl; left = refl; there = refl; stored = kept (effect.Replaced n) }
    one_spared (effect.Removed n) out = record { pairs = put_out n Out out refl; spots = λ k is. refl; left = refl; there = refl; stored = kept (effect.Removed n) }
    one_spared (effect.Copied n s) out = record { pairs = λ k. refl; spots = copied_spots (is_chunked acted m) n s out; left = refl; there = refl; stored = kept (effect.Copied n s) }
    one_spared (effect.Deferred n t) out = record { pairs = put_out n Behind out refl; spots = λ k is. refl; left = refl; there = refl; stored = kept (effect.Deferred n t) }
    one_spared (effect.Retired (APair n)) out = record { pairs = put_out n Handed out refl; spots = λ k is. refl; left = refl; there = refl; stored = kept (effect.Retired (APair n)) }
    one_spared (effect.Retired (ATable t)) apart =
        record { pairs = λ k. refl; spots = λ k is. refl; left = left_beside map (first_of map m) t IsRetired refl m.tables apart; there = refl; stored = kept (effect.Retired (ATable t)) }
    one_spared (effect.Reclaimed (APair n)) out = record { pairs = put_out n GivenBack out refl; spots = λ k is. refl; left = refl; there = refl; stored = kept (effect.Reclaimed (APair n)) }
    one_spared (effect.Reclaimed (ATable t)) its =
        record {
          pairs = all_out t Handed its.behind_it refl;
          spots = λ k is. refl;
          left = left_beside map (first_of map m) t IsReclaimed refl m.tables its.apart;
          there = refl;
          stored = kept (effect.Reclaimed (ATable t));
        }
    one_spared (effect.Ended n) out = record { pairs = put_out n GivenBack out refl; spots = λ k is. refl; left = refl; there = refl; stored = kept (effect.Ended n) }
    one_spared (effect.Taken t) its =
        record {
          pairs = all_out t Left its.behind_it refl;
          spots = λ k is. refl;
          left = left_beside map (first_of map m) t IsTaken refl m.tables its.apart;
          there = refl;
          stored = kept (effect.Taken t);
        }
    one_spared (effect.Linked t shape) apart =
        record {
          pairs = λ k. refl;
          spots = λ k is. refl;
          left = linked_beside map (first_of map m) m.tables (record { table = t; shape = shape; stage = IsLinked }) (ne_eqb t.map map apart);
          there = refl;
          stored = kept (effect.Linked t shape);
        }
    one_spared (effect.Promoted t) apart =
        let found = others_found t map apart m.maps in
        record {
          pairs = λ k. refl;
          spots = promoted_spots (is_chunked acted m) t apart;
          left = ap (λ (o : Option MapThere). filter (λ u. is_linked u.stage) (filter (λ u. nat_le (first_or o) u.table.turn) (tables_of map m))) found;
          there = found;
          stored = kept (effect.Promoted t);
        }
    one_spared (effect.Asked growth) none = record { pairs = λ k. refl; spots = λ k is. refl; left = refl; there = refl; stored = kept (effect.Asked growth) }
    one_spared effect.PairMade none = record { pairs = λ k. refl; spots = λ k is. refl; left = refl; there = refl; stored = kept effect.PairMade }
    one_spared effect.PairGivenUp none = record { pairs = λ k. refl; spots = λ k is. refl; left = refl; there = refl; stored = kept effect.PairGivenUp }
    one_spared (effect.TableMade t) none = record { pairs = λ k. refl; spots = λ k is. refl; left = refl; there = refl; stored = kept (effect.TableMade t) }
    one_spared (effect.TableGivenUp t) none = record { pairs = λ k. refl; spots = λ k is. refl; left = refl; there = refl; stored = kept (effect.TableGivenUp t) }
    one_spared (effect.Counted s) none = record { pairs = λ k. refl; spots = λ k is. refl; left = refl; there = refl; stored = kept (effect.Counted s) }

-- So it is of all that somebody does at once.
module _ {K V : Type 0} (map : ℕ) (caller : Option (List ℕ)) (acted : Option ℕ) (other : acted ≢ Some map) where
  pub all_spared : (effects : List Effect) (m : Moment K V) → AreStored map m → AtEachEffect (Spares map acted) caller acted effects m → AlikeOf map m (with_effects caller acted effects m)
  all_spared [] m stored spares = alike_itself map m
  all_spared (f ∷ effects) m stored spares =
      let one = one_spared map m stored caller acted other f spares.0 in
      let v = with_effect caller acted f m in
      alike_then map m v (with_effects caller acted effects v) one (all_spared effects v (stored_alike map m v one stored) spares.1)
