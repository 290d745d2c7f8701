-- A pair that has left its map lies where it lay, and the root of a map does not go back.
use Rattle.std.specs.Prelude.{◌≡◌, ◌≢◌, ℕ, ◌≤◌, ◌==◌, nat_lt, Bool, true, false, MatchBool, List, [], ◌∷◌, find, length, map as list_map, Option, Some, None}
use Rattle.std.proofs.Common.{refl, ap, sym, subst, ◌∙◌, arith, inl, inr}
use Rattle.std.proofs.lemmas.Bool.{cases_eq}
use Rattle.run_executor.specs.Given.RunsDeclared.effect.Effect.{Effect}
use Rattle.run_executor.specs.Given.RunsDeclared.effect.Effect.TheVariants.{Stored, Copied, Promoted}
use Rattle.run_executor.specs.Given.RunsDeclared.effect.Spot.{Spot}
use Rattle.run_executor.specs.Given.RunsDeclared.effect.TableId.{TableId}
use Rattle.run_executor.specs.Given.SchedulesEffects.{promoted, born_by, spot_by, is_chunked, call_by, with_effect, AtEachEffect}
use Rattle.run_executor.specs.Given.SchedulesEntry.{ByCall}
use Rattle.run_executor.specs.Given.SchedulesLives.{IsPast, MayCopy}
use Rattle.run_executor.specs.Given.SchedulesMoment.{Place, UnderWay as CallThere, MapThere, Moment}
use Rattle.run_executor.specs.Given.SchedulesViews.{call_of, is_in_a_map, first_or, first_of, map_at, grows_in_chunks, tables_of}
use Rattle.run_executor.specs.Given.FollowsFinds.{FindsMap}
use Rattle.run_executor.proofs.Given.FollowsAlike.{put_elsewhere, others_found}
use Rattle.run_executor.proofs.Given.FollowsLinked.{own_found}
use Rattle.run_blocks.proofs.Owes.Fields.{its_effect}
use Rattle.run_executor.specs.Given.SpotsDeferred.{FindsNumbers}
use Rattle.run_executor.proofs.Given.SpotsDeferred.{stays_out}
use Rattle.run_executor.proofs.Given.SpotsEffects.{aside_all, spot_copied_other, spot_promoted_other}
use Rattle.run_executor.proofs.Given.SpotsElsewhere.{stored_grows}
use Rattle.run_finds.specs.Parts.{FindsPlace, FindPlacesOf}
use Rattle.run_finds.proofs.Grown.{comes_on}
use Rattle.run_finds.specs.Past.{HasLeftMaps, FindsOnward, CallsFindOnward}
use Rattle.run_executor.proofs.Given.General.{at_most_itself as itself}
use Rattle.run_executor.proofs.Given.OthersOutside.{not_in}

none_less : (n : ℕ) → 0 ≤ n
none_less n = omega arith

-- one that the root has come to is so further on
pub past_on : (born lies first first2 : ℕ) → first ≤ first2 → IsPast born lies first → IsPast born lies first2
past_on born lies first first2 less h = by (nat_lt born lies) h
  where
    by : (q : Bool) → MatchBool q (lies ≤ first) (Unit {0}) → MatchBool q (lies ≤ first2) (Unit {0})
    by true l = let here : lies ≤ first = l in omega (arith, here, less)
    by false l = tt

-- as the root of a map comes to a table that is no earlier one, no root goes back
roots_go_on : (t : TableId) (fs : List MapThere) → first_or (find (λ f. f.number == t.map) fs) ≤ t.turn → (map : ℕ)
    → first_or (find (λ f. f.number == map) fs) ≤ first_or (find (λ f. f.number == map) (list_map (promoted t) fs))
roots_go_on t fs later map = elim (cases_eq t.map map) as (λ _. first_or (find (λ f. f.number == map) fs) ≤ first_or (find (λ f. f.number == map) (list_map (promoted t) fs))) [
  | inl e ↦ subst (λ (x : ℕ). first_or (find (λ f. f.number == x) fs) ≤ first_or (find (λ f. f.number == x) (list_map (promoted t) fs))) e (by (find (λ f. f.number == t.map) fs) refl)
  | inr ne ↦ subst (λ (o : Option MapThere). first_or (find (λ f. f.number == map) fs) ≤ first_or o) (sym (others_found t map ne fs)) (itself (first_or (find (λ f. f.number == map) fs)))
]
  where
    Goal : Option MapThere → Type 0
    Goal o = first_or o ≤ first_or (find (λ f. f.number == t.map) (list_map (promoted t) fs))

    by : (o : Option MapThere) → find (λ f. f.number == t.map) fs ≡ o → Goal (find (λ f. f.number == t.map) fs)
    by None is = subst Goal (sym is) (none_less (first_or (find (λ f. f.number == t.map) (list_map (promoted t) fs))))
    by (Some was) is =
        let there : first_or (find (λ f. f.number == t.map) (list_map (promoted t) fs)) ≡ t.turn = ap first_or (own_found t fs was is) in
        subst (λ (x : ℕ). first_or (find (λ f. f.number == t.map) fs) ≤ x) (sym there) later

born_elsewhere : (acted : Option ℕ) (k : ℕ) (s : Spot) (born : ℕ → TableId) (n : ℕ) → n ≢ k → born_by acted (Stored k s) born n ≡ born n
born_elsewhere None k s born n ne = refl
born_elsewhere (Some map) k s born n ne = put_elsewhere k (record { map = map; turn = s.turn }) born n ne

born_copied : (acted : Option ℕ) (k : ℕ) (s : Spot) (born : ℕ → TableId) (n : ℕ) → born_by acted (Copied k s) born n ≡ born n
born_copied None k s born n = refl
born_copied (Some map) k s born n = refl

born_promoted : (acted : Option ℕ) (t : TableId) (born : ℕ → TableId) (n : ℕ) → born_by acted (Promoted t) born n ≡ born n
born_promoted None t born n = refl
born_promoted (Some map) t born n = refl

spot_elsewhere : (q : Bool) (place : ℕ → Place) (copy : ℕ → Spot) (k : ℕ) (s : Spot) (spot : ℕ → Spot) (n : ℕ) → (q ≡ true → n ≢ k) → spot_by q place copy (Copied k s) spot n ≡ spot n
spot_elsewhere true place copy k s spot n apart = spot_copied_other true place copy k s spot n (apart refl)
spot_elsewhere false place copy k s spot n apart = refl

module _ {K V : Type 0} (who : Option (List ℕ)) (acted : Option ℕ) where
  -- by one effect
  pub kept : (f : Effect) (m : Moment K V) → FindsNumbers m f → FindsOnward acted m f → (n : ℕ) → HasLeftMaps m n
      → ((with_effect who acted f m).born n ≡ m.born n) × ((with_effect who acted f m).spot n ≡ m.spot n)
  kept (Stored k s) m finds on n left =
      let apart : n ≢ k = (λ e. let l = left.0 in omega (arith, e, finds, l)) in (born_elsewhere acted k s m.born n apart, put_elsewhere k s m.spot n apart)
  kept (Copied k s) m finds on n left = (
    born_copied acted k s m.born n,
    spot_elsewhere (is_chunked acted m) m.place m.copy k s m.spot n (λ q e. let there = ap (λ (x : ℕ). is_in_a_map (m.place x)) e ∙ on q in let out = left.1 in cc (there, out)),
  )
  kept (Promoted t) m finds on n left = (born_promoted acted t m.born n, spot_promoted_other (is_chunked acted m) m.place m.copy t m.spot n (not_in t.map (m.place n) left.1))
  kept f m finds on n left =
      let aside = aside_all who acted (f ∷ []) m (refl, tt) in (ap (λ (g : ℕ → TableId). g n) aside.born, ap (λ (g : ℕ → Spot). g n) aside.spot)

  pub goes_on : (f : Effect) (m : Moment K V) → FindsOnward acted m f → (map : ℕ) → first_of map m ≤ first_of map (with_effect who acted f m)
  goes_on (Promoted t) m on map = roots_go_on t m.maps on map
  goes_on f m on map = itself (first_of map m)

  pub left_still : (f : Effect) (m : Moment K V) → FindsNumbers m f → (n : ℕ) → HasLeftMaps m n → HasLeftMaps (with_effect who acted f m) n
  left_still f m finds n left =
      let more : length m.stored ≤ length (with_effect who acted f m).stored = stored_grows who acted (f ∷ []) m in
      ((let l = left.0 in omega (arith, l, more)), stays_out acted f m finds n left.0 left.1)

module _ {K V : Type 0} (own : List ℕ) (map : ℕ) where
  one_onward : (f : Effect) (m : Moment K V) (c : CallThere K V) → FindsMap map m f → FindsPlace map m f c → FindsOnward (Some map) m f
  one_onward (Copied k s) m c on_map place = λ q. ap is_in_a_map (subst (λ (z : Bool). MayCopy z map m k s) q place).0
  one_onward (Promoted t) m c on_map place =
      subst (λ (x : ℕ). first_of x m ≤ t.turn) (sym on_map.0) (comes_on (grows_in_chunks (map_at map m)) (first_of map m) t.turn (tables_of map m) on_map.1.1)
  one_onward _ m c on_map place = tt

  all_onward : (effects : List Effect) (m : Moment K V) (c : CallThere K V) → call_of own m ≡ Some c → AtEachEffect (FindsMap map) (Some own) (Some map) effects m → FindPlacesOf own map effects m
      → AtEachEffect (FindsOnward (Some map)) (Some own) (Some map) effects m
  all_onward [] m c c_is on_map places = tt
  all_onward (f ∷ fs) m c c_is on_map places = (
    one_onward f m c on_map.0 (subst (ByCall (FindsPlace map m f)) c_is places.0),
    all_onward fs (with_effect (Some own) (Some map) f m) (call_by m f c) (its_effect own map f m c c_is) on_map.1 places.1,
  )

pub calls_find_onward : (K V : Type 0) → CallsFindOnward K V
calls_find_onward K V own map effects m c c_is on_map places = all_onward own map effects m c c_is on_map places
