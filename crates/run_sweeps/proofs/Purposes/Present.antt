-- Which pairs a map has now, and where a call begins.
use Rattle.std.specs.Prelude.{◌≡◌, ℕ, ◌<◌, ◌≤◌, Bool, true, false, List, ◌∷◌, Some}
use Rattle.std.proofs.Common.{refl, ap, sym, ◌∙◌, arith, inl}
use Rattle.run_finds.specs.Given.SchedulesMoment.{Place, Moment}
use Rattle.run_finds.specs.Given.SchedulesViews.{is_in_map}
use Rattle.run_finds.specs.Given.RuleChart.{Chart}
use Rattle.run_finds.proofs.Given.RuleLaws.{current_is_known}
use Rattle.run_finds.specs.Given.CallersTogether.{Together}
use Rattle.run_finds.specs.Given.EffectsKnown.{Known}
use Rattle.run_finds.specs.Given.FinishesMaps.{Standing}
use Rattle.run_finds.specs.Given.FollowsShows.{Refines}
use Rattle.run_finds.proofs.Given.FollowsStored.{in_map_true}
use Rattle.run_finds.specs.Purposes.Purposes.{PairsWithin}
use Rattle.run_finds.specs.Given.ScenesHeld.{Held, IsAt}
use Rattle.run_finds.specs.Given.ScenesScene.{Scene, slot_of}

module _ {K V : Type 0} (same : K → K → Bool) (hash : ℕ → K → ℕ) (name : ℕ → List ℕ) (m : Moment K V) (known : Known) (s : Scene K V) (e : Held K V) (at : IsAt same hash e s)
    (shown : Refines same name m known s) (of : ℕ) (st : Standing K) (there : s.maps of ≡ Some st) where
  abbrev c : Chart K
  c = st.chart

  each : Together V same st.hash same st.setting slot_of s.world st.chart st.blocks st.sights (s.calls of)
  each = at.together.makings.standing.each of st there

  -- a pair that the map has was stored
  pub now_stored : (n : ℕ) → c.was c.now n ≡ true → n < c.stored
  now_stored n was =
      (current_is_known same st.hash st.setting s.world.memory c st.blocks each.ground.map.map.rule each.ground.map.map.shows n (sym (each.ground.moments.now_is n) ∙ was)).0

  -- and its number is in the map
  pub now_there : (n : ℕ) → n < c.stored → is_in_map of (m.place (shown.number of n)) ≡ c.was c.now n
  now_there n l = (shown.maps of st there).pairs.here n l ∙ sym (each.ground.moments.now_is n)

  -- by other numbers, which rise, what comes later has a number that is not
  pub absent : (number2 : ℕ → ℕ) (stored2 : ℕ) → ((n o : ℕ) → n < o → o < stored2 → number2 n < number2 o) → ((n : ℕ) → n < c.stored → number2 n ≡ shown.number of n)
      → (n : ℕ) → c.stored ≤ n → n < stored2 → is_in_map of (m.place (number2 n)) ≡ false
  absent number2 stored2 rising numbers n a b = by (is_in_map of (m.place (number2 n))) (λ is. (shown.maps of st there).pairs.all (number2 n) (in_map_true of (m.place (number2 n)) is))
    where
      by : (q : Bool) → (q ≡ true → (o : ℕ) × (o < c.stored) × (number2 n ≡ shown.number of o)) → q ≡ false
      by false it = refl
      by true it = absurd (let o = it refl in let l = o.1 in let r = rising o.0 n (omega (arith, l, a)) b in let n_is = numbers o.0 o.1 in let o_is = o.2 in omega (arith, r, n_is, o_is))

  -- what the map has now is at each moment that has the same pairs
  pub begins_within : (m2 : Moment K V) (moments : List (Moment K V)) → m2.place ≡ m.place → PairsWithin of st (shown.number of) (m2 ∷ moments) c.now
  begins_within m2 moments place = record {
    stored = λ time n from to was. now_stored n (ap (λ (t : ℕ). c.was t n) (is_now time from to) ∙ was);
    within = λ time n from to l. inl (ap (λ (f : ℕ → Place). is_in_map of (f (shown.number of n))) place ∙ now_there n l ∙ ap (λ (t : ℕ). c.was t n) (is_now time from to));
  }
    where
      is_now : (time : ℕ) → c.now ≤ time → time ≤ c.now → c.now ≡ time
      is_now time from to = omega (arith, from, to)
