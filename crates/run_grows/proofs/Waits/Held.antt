-- A pair that a call has in hand lies where it lay, whatever effects there are that leave it out of maps, and no root goes back.
use Rattle.std.specs.Prelude.{◌≡◌, ℕ, ◌<◌, ◌≤◌, false, List, [], ◌∷◌, length, Option, Some, None}
use Rattle.std.proofs.Common.{refl, ap, sym, subst, ◌∙◌, arith, inl, inr}
use Rattle.std.proofs.lemmas.Bool.{cases_eq}
use Rattle.run_schedules.specs.declared.effect.Effect.{Effect}
use Rattle.run_schedules.specs.declared.effect.Effect.TheVariants.{Deferred, Stored, Replaced, Removed}
use Rattle.run_schedules.specs.declared.effect.Spot.{Spot}
use Rattle.run_schedules.specs.declared.effect.TableId.{TableId}
use Rattle.run_schedules.specs.Schedules.Effects.{with_effect, with_effects, AtEachEffect}
use Rattle.run_schedules.specs.Schedules.Lives.{IsPast}
use Rattle.run_schedules.specs.Schedules.Moment.{Behind, Out, Moment}
use Rattle.run_schedules.specs.Schedules.Views.{is_in_a_map, first_of, map_at, grows_in_chunks}
use Rattle.run_finds.specs.Given.FollowsFinds.{FindsMap}
use Rattle.run_finds.proofs.Given.FollowsAlike.{put_here, put_elsewhere}
use Rattle.run_finds.specs.Given.SpotsDeferred.{FindsNumbers}
use Rattle.run_finds.proofs.Given.SpotsEffects.{aside_all}
use Rattle.run_finds.proofs.Given.SpotsElsewhere.{stored_grows}
use Rattle.run_finds.specs.Given.SettlesInHand.{TakesPair}
use Rattle.run_finds.specs.Past.{HasLeftMaps, FindsOnward}
use Rattle.run_finds.specs.Waits.{LiesFor, IsHeldPast, LeavesHeld}
use Rattle.run_finds.proofs.Capacities.{effect_leaves}
use Rattle.run_finds.proofs.Past.{past_on, kept, goes_on, left_still}
use Rattle.run_finds.proofs.Given.General.{at_most_itself as itself}

module _ {K V : Type 0} (map : ℕ) (m v : Moment K V) (k : ℕ) where
  -- a pair that was stored, and lies, where it did, before a root that has not gone back
  pub lies_same : (waits : Option ℕ) → v.born k ≡ m.born k → v.spot k ≡ m.spot k → first_of map m ≤ first_of map v → grows_in_chunks (map_at map v) ≡ grows_in_chunks (map_at map m)
      → LiesFor map m k waits → LiesFor map v k waits
  lies_same None born spot later chunks lies =
      subst (λ (s : Spot). IsPast (v.born k).turn s.turn (first_of map v)) (sym spot)
      (subst (λ (b : TableId). IsPast b.turn (m.spot k).turn (first_of map v)) (sym born) (past_on (m.born k).turn (m.spot k).turn (first_of map m) (first_of map v) later lies))
  lies_same (Some turn) born spot later chunks lies = (ap (λ (s : Spot). s.turn) spot ∙ lies.0, subst (λ (b : TableId). b.turn < turn) (sym born) lies.1, chunks ∙ lies.2)

module _ {K V : Type 0} (who : Option (List ℕ)) (acted : Option ℕ) where
  -- by one effect
  one_held : (f : Effect) (m : Moment K V) → FindsNumbers m f → FindsOnward acted m f → (map k : ℕ) (waits : Option ℕ) → IsHeldPast map m k waits → IsHeldPast map (with_effect who acted f m) k waits
  one_held f m finds on map k waits held =
      let same = kept who acted f m finds on k held.0 in (
        left_still who acted f m finds k held.0,
        lies_same map m (with_effect who acted f m) k waits same.0 same.1 (goes_on who acted f m on map)
            (effect_leaves grows_in_chunks (λ g n. refl) who acted f m map) held.1,
      )

-- Of a call: what it finds of its map is all that is needed of numbers, and one that is put behind a table is in no map, whichever it is.
module _ {K V : Type 0} (own : List ℕ) (acts_on : ℕ) where
  abbrev Then : Effect → Moment K V → Moment K V
  Then f m = with_effect (Some own) (Some acts_on) f m

  -- an effect that stores and copies none, and leaves the root, leaves spots
  aside_held : (f : Effect) (m : Moment K V) (map k : ℕ) (waits : Option ℕ) → HasLeftMaps (Then f m) k → (Then f m).born k ≡ m.born k → (Then f m).spot k ≡ m.spot k
      → first_of map m ≤ first_of map (Then f m) → LiesFor map m k waits → IsHeldPast map (Then f m) k waits
  aside_held f m map k waits left born spot later lies = (left, lies_same map m (Then f m) k waits born spot later (effect_leaves grows_in_chunks (λ g n. refl) (Some own) (Some acts_on) f m map) lies)

  put_behind : (n : ℕ) (t : TableId) (m : Moment K V) (map k : ℕ) (waits : Option ℕ) → IsHeldPast map m k waits → IsHeldPast map (Then (Deferred n t) m) k waits
  put_behind n t m map k waits held =
      let aside = aside_all (Some own) (Some acts_on) (Deferred n t ∷ []) m (refl, tt) in
      let more : length m.stored ≤ length (Then (Deferred n t) m).stored = stored_grows (Some own) (Some acts_on) (Deferred n t ∷ []) m in
      aside_held (Deferred n t) m map k waits ((let l = held.0.0 in omega (arith, l, more)), out) (ap (λ (g : ℕ → TableId). g k) aside.born) (ap (λ (g : ℕ → Spot). g k) aside.spot)
      (itself (first_of map m)) held.1
    where
      out : is_in_a_map ((Then (Deferred n t) m).place k) ≡ false
      out = elim (cases_eq k n) as (λ _. is_in_a_map ((Then (Deferred n t) m).place k) ≡ false) [
        | inl e ↦ ap is_in_a_map (put_here n Behind m.place k e)
        | inr ne ↦ ap is_in_a_map (put_elsewhere n Behind m.place k ne) ∙ held.0.1
      ]

  call_held : (f : Effect) (m : Moment K V) → FindsMap acts_on m f → FindsOnward (Some acts_on) m f → (map k : ℕ) (waits : Option ℕ) → IsHeldPast map m k waits → IsHeldPast map (Then f m) k waits
  call_held (Deferred n t) m on_map on map k waits held = put_behind n t m map k waits held
  call_held (Stored n s) m on_map on map k waits held = one_held (Some own) (Some acts_on) (Stored n s) m on_map.0 on map k waits held
  call_held f m on_map on map k waits held = one_held (Some own) (Some acts_on) f m tt on map k waits held

  pub calls_leave_held : (effects : List Effect) (m : Moment K V) → AtEachEffect (FindsMap acts_on) (Some own) (Some acts_on) effects m → AtEachEffect (FindsOnward (Some acts_on)) (Some own) (Some acts_on) effects m
      → LeavesHeld m (with_effects (Some own) (Some acts_on) effects m)
  calls_leave_held [] m on_map on map k waits held = held
  calls_leave_held (f ∷ fs) m on_map on map k waits held = calls_leave_held fs (Then f m) on_map.1 on.1 map k waits (call_held f m on_map.0 on.0 map k waits held)

  -- a pair that leaves the map lies where it lay
  module _ (m : Moment K V) (map k : ℕ) (waits : Option ℕ) (stored : k ≤ length m.stored) (lies : LiesFor map m k waits) where
    removed_held : IsHeldPast map (Then (Removed k) m) k waits
    removed_held =
        let aside = aside_all (Some own) (Some acts_on) (Removed k ∷ []) m (refl, tt) in
        let more : length m.stored ≤ length (Then (Removed k) m).stored = stored_grows (Some own) (Some acts_on) (Removed k ∷ []) m in
        aside_held (Removed k) m map k waits (omega (arith, stored, more), ap is_in_a_map (put_here k Out m.place k refl)) (ap (λ (g : ℕ → TableId). g k) aside.born)
        (ap (λ (g : ℕ → Spot). g k) aside.spot) (itself (first_of map m)) lies

    replaced_held : IsHeldPast map (Then (Replaced k) m) k waits
    replaced_held =
        let aside = aside_all (Some own) (Some acts_on) (Replaced k ∷ []) m (refl, tt) in
        let more : length m.stored ≤ length (Then (Replaced k) m).stored = stored_grows (Some own) (Some acts_on) (Replaced k ∷ []) m in
        aside_held (Replaced k) m map k waits (omega (arith, stored, more), ap is_in_a_map (put_here k Out m.place k refl)) (ap (λ (g : ℕ → TableId). g k) aside.born)
        (ap (λ (g : ℕ → Spot). g k) aside.spot) (itself (first_of map m)) lies

    -- by what takes it out
    pub taken_held : (effects : List Effect) → AtEachEffect (FindsMap acts_on) (Some own) (Some acts_on) effects m → AtEachEffect (FindsOnward (Some acts_on)) (Some own) (Some acts_on) effects m
        → TakesPair effects k → IsHeldPast map (with_effects (Some own) (Some acts_on) effects m) k waits
    taken_held effects on_map on (inl are) = subst (λ (l : List Effect). IsHeldPast map (with_effects (Some own) (Some acts_on) l m) k waits) (sym are) removed_held
    taken_held effects on_map on (inr (n, s, are)) =
        let finds = subst (λ (l : List Effect). AtEachEffect (FindsMap acts_on) (Some own) (Some acts_on) l m) are on_map in
        let onward = subst (λ (l : List Effect). AtEachEffect (FindsOnward (Some acts_on)) (Some own) (Some acts_on) l m) are on in
        subst (λ (l : List Effect). IsHeldPast map (with_effects (Some own) (Some acts_on) l m) k waits) (sym are)
        (call_held (Stored n s) (Then (Replaced k) m) finds.1.0 onward.1.0 map k waits replaced_held)
