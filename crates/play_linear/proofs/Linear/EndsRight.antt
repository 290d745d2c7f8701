-- A step of the end of a map, as it is played: the map goes as it was noted, and other maps come and go as before.
use Rattle.std.specs.Prelude.{◌≡◌, ◌≢◌, ◌⊎◌, ℕ, Bool, true, false, List, [], ◌∷◌, ◌++◌, Option, Some, None, if◌then◌else◌}
use Rattle.std.proofs.Common.{refl, ap, sym, subst, ◌∙◌, inl, inr}
use Rattle.std.proofs.lemmas.Bool.{cases_eq}
use Rattle.std.proofs.lemmas.List.{append-nil}
use Rattle.seize_acts.specs.Given.SeizeWorld.{World, times, with_at}
use Rattle.seize_acts.specs.Given.SeizeDeclared.rows.settle.Settled.{Settled}
use Rattle.seize_acts.specs.Given.SeizeDeclared.rows.settle.Settled.TheVariants as settled
use Rattle.play_lists.specs.Given.TablesDeclared.node.Node.{Node}
use Rattle.run_schedules.specs.Given.RawEndMap.{end_map_plan}
use Rattle.run_logged.specs.Given.RawDeclared.machines.end_map.EndMap.{EndMap}
use Rattle.play_lists.specs.Given.FinishesEndings.{Finishing, waiting_by}
use Rattle.play_lists.specs.Given.FinishesFactsEnds.{Deed as FactsDeed, taken_by as taken_of}
use Rattle.play_lists.specs.Given.FinishesMakings.{Beginning}
use Rattle.run_logged.proofs.Given.CallersTogether.At.{at_other, at_same}
use Rattle.play_lists.proofs.Given.ScenesMay.{may_end}
use Rattle.play_lists.specs.Given.ScenesEnding.{EndingHasOutcome, EndingLeads}
use Rattle.play_lists.specs.Given.ScenesHeld.{Held, IsAt}
use Rattle.play_lists.specs.Given.ScenesScene.{Scene}
use Rattle.run_schedules.specs.declared.effect.Effect.{Effect}
use Rattle.run_schedules.specs.declared.outcome.Outcome.{Outcome}
use Rattle.run_schedules.specs.Schedules.Effects.{with_effects}
use Rattle.run_schedules.specs.Schedules.Moment.{Moment}
use Rattle.run_schedules.specs.Schedules.Views.{tables_of}
use Rattle.play_lists.specs.Given.EffectsEffects.{effects_of, known_after, taken_by}
use Rattle.play_lists.specs.Given.EffectsKnown.{Known}
use Rattle.play_lists.specs.Given.EffectsDeclared.acting.Acting.TheVariants as acts
use Rattle.run_logged.specs.Given.MomentsNumbers.{AreFound}
use Rattle.run_logged.specs.Given.MomentsWhole.{RefinesWhole}
use Rattle.run_logged.proofs.Given.MomentsAfter.{effects_after}
use Rattle.play_lists.proofs.Given.FollowsOperations.{Operated, operated}
use Rattle.play_lists.specs.Given.RemainsNumbered.{NumbersUpTo}
use Rattle.run_logged.specs.Log.Ends.{NotedStill}
use Rattle.run_sweeps.specs.Given.Ends.{ended_as}
use Rattle.run_logged.proofs.Log.EndTold.{did_end, noted_on}
use Rattle.play_lists.proofs.Given.RemainsNumbered.{ends_keep_count}
use Rattle.play_lists.specs.Given.ActsAsSteps.{EndedTo}
use Rattle.play_lists.proofs.Agrees.Elsewhere.{SameOf}
use Rattle.run_schedules.specs.Deeds.Deeds.{Ends, MapGoes, after, named, without_map}
use Rattle.play_lists.specs.Played.Play.{Ending, ended_on, is_over}
use Rattle.play_linear.specs.Linear.Coming.{Comes, Goes, IsGone, MapsComeAndGo}
use Rattle.play_linear.proofs.Linear.Coming.{comes_bare, comes_on, gone_leaves, others_leave, same_of, same_then}
use Rattle.play_linear.proofs.Linear.Counted.{all_found, counted_again, counted_gone}
use Rattle.play_linear.proofs.Linear.Going.{as_noted, goes_beside, notes_all, notes_still}
use Rattle.play_linear.proofs.Linear.MapsPlayed.{IsApart}
use Rattle.play_linear.proofs.Linear.Names.{apart_so}
use Rattle.play_lists.specs.Agrees.Fresh.{AreNamed}
use Rattle.play_lists.proofs.Agrees.Names.{effects_named, gone_named}
use Rattle.run_schedules.proofs.Given.General.{same_some}

-- what ends with a map leaves numbers below the count
ends_count : {K V : Type 0} (count map : ℕ) (first : Known) (blocks : List ℕ) (m : Moment K V) → NumbersUpTo count m → NumbersUpTo count (with_effects None (Some map) (ended_as map first blocks) m)
ends_count count map first [] m numbers = numbers
ends_count {K} {V} count map first (b ∷ blocks) m numbers =
    subst (NumbersUpTo count) (sym (effects_after None (Some map) (taken_by (acts.Ending map) (first.roles b)) (ended_as map first blocks) m))
    (ends_count count map first blocks (with_effects None (Some map) (taken_by (acts.Ending map) (first.roles b)) m) (ends_keep_count K V m count numbers map (first.roles b) None (Some map)))

-- The end of a map takes its step.
module _ {K V : Type 0} (same : K → K → Bool) (hash : ℕ → K → ℕ) (m : Moment K V) (known : Known) (enders : ℕ → Option Ending) (s n : Scene K V) (old new : Held K V) (at : IsAt same hash old s)
    (whole : RefinesWhole same named m known s) (so : MapsComeAndGo m known enders s) (i : ℕ) (e : Ending) (ending : enders i ≡ Some e) (f : Finishing K V) (ends : s.enders i ≡ Some f) (said : Settled (Node K V))
    (leads : EndingLeads same hash i said s old new) (gone : (map : ℕ) → IsGone map s → IsGone map n) where
  abbrev effects : List Effect
  effects = effects_of (acts.Ending e.map) known new.changed

  abbrev known_then : Known
  known_then = known_after (acts.Ending e.map) new.changed known

  abbrev taken : List ℕ
  taken = taken_of (leads f ends).2.deed

  pub its : Goes e.map f known s
  its = so.going i e ending f ends

  abbrev pub first : Known
  first = as_noted e.map f known s its

  did : effects ≡ ended_as e.map first taken
  did =
      did_end same hash named m known s old new at whole i f ends (leads f ends).0 said (leads f ends).1 (leads f ends).2 e.map its.gone.not_there (leads f ends).3 its.number first
      (notes_all e.map f known s its) (notes_still e.map f known s its)

  noted : NotedStill first known_then (f.back ++ taken)
  noted =
      noted_on same hash named m known s old new at whole i f ends (leads f ends).0 said (leads f ends).1 (leads f ends).2 e.map its.gone.not_there (leads f ends).3 its.number first
      (notes_all e.map f known s its) (notes_still e.map f known s its)

  -- the moment after its effects
  abbrev w : Moment K V
  w = with_effects None (Some e.map) effects m

  w_numbers : NumbersUpTo so.count w
  w_numbers = subst (λ (l : List Effect). NumbersUpTo so.count (with_effects None (Some e.map) l m)) (sym did) (ends_count so.count e.map first taken m so.numbers)

  w_names : AreNamed w
  w_names = effects_named None (Some e.map) effects m so.names

  -- What is asked of it: once the map is there no more, no map that stands has its name.
  pub goes_well : AreFound w × IsApart e.map w n
  goes_well = (all_found so.count w w_numbers, apart_so e.map w n w_names (gone e.map its.gone).not_there)

  -- The moment after the entry of this step.
  module _ (at2 : IsAt same hash new n) (o : Outcome V) (refused : Bool) where
    abbrev then_at : Bool → Moment K V
    then_at q = after (record { deed = if q then MapGoes e.map else Ends e.map; outcome = o; effects = effects; refused = refused }) m

    abbrev pub v : Moment K V
    v = then_at (is_over said)

    numbers_by : (q : Bool) → NumbersUpTo so.count (then_at q)
    numbers_by true = counted_again so.count (record w { maps = without_map e.map w.maps }) (then_at true) refl refl (counted_gone so.count e.map w w_numbers)
    numbers_by false = counted_again so.count w (then_at false) refl refl w_numbers

    names_by : (q : Bool) → AreNamed (then_at q)
    names_by true = gone_named e.map w.maps w_names
    names_by false = w_names

    others_by : (k : ℕ) → e.map ≢ k → tables_of k m ≡ [] → (q : Bool) → SameOf k m (then_at q)
    others_by k other bare q =
        same_then k m w (then_at q) (others_leave m known whole.blocks k bare (acts.Ending e.map) other new.changed None (Some e.map) (λ both. other (cc both))) (by q)
      where
        by : (q : Bool) → SameOf k w (then_at q)
        by true = gone_leaves k e.map other w (then_at true) w_names refl refl refl
        by false = same_of k w (then_at false) refl refl refl

    pub ended_numbers : NumbersUpTo so.count v
    ended_numbers = numbers_by (is_over said)

    pub ended_names : AreNamed v
    ended_names = names_by (is_over said)

    pub ended_coming : n.makers ≡ s.makers → (j : ℕ) (b : Beginning K) → n.makers j ≡ Some b → Comes b v
    ended_coming makers j b makes =
        let was : s.makers j ≡ Some b = sym (ap (λ (h : ℕ → Option (Beginning K)). h j) makers) ∙ makes in
        comes_on b m v (others_by b.map (λ same_map. its.gone.not_made j b was (sym same_map)) (comes_bare b m (so.coming j b was)) (is_over said)) (so.coming j b was)

    -- other ends go on,
    op : Operated old.memory new.memory new.changed
    op = operated old.memory new.memory new.changed (end_map_plan {K = K} {V = V} f.machine) ((leads f ends).0, said) (may_end same hash old s at i f ends) (leads f ends).1

    abbrev Its : Option Ending → Option (Finishing K V) → Type 0
    Its next_e next_f = (e2 : Ending) → next_e ≡ Some e2 → (f2 : Finishing K V) → next_f ≡ Some f2 → Goes e2.map f2 known_then n

    going_by : (next_e : Option Ending) (next_f : Option (Finishing K V)) → n.enders ≡ with_at s.enders i next_f → Its next_e next_f
        → (j : ℕ) (e2 : Ending) → with_at enders i next_e j ≡ Some e2 → (f2 : Finishing K V) → n.enders j ≡ Some f2 → Goes e2.map f2 known_then n
    going_by next_e next_f led own j e2 is_e f2 is_f = by (cases_eq j i)
      where
        there : with_at s.enders i next_f j ≡ Some f2
        there = sym (ap (λ (h : ℕ → Option (Finishing K V)). h j) led) ∙ is_f

        by : (j ≡ i) ⊎ (j ≢ i) → Goes e2.map f2 known_then n
        by (inl eq) = own e2 (sym (at_same enders i next_e j eq) ∙ is_e) f2 (sym (at_same s.enders i next_f j eq) ∙ there)
        by (inr ne) =
            let was : s.enders j ≡ Some f2 = sym (at_other s.enders i next_f j ne) ∙ there in
            let so_far = so.going j e2 (sym (at_other enders i next_e j ne) ∙ is_e) f2 was in
            goes_beside e2.map f2 known s so_far same hash m n old new at at2 whole.all.shown.blocks op (acts.Ending e.map) j was is_f (gone e2.map so_far.gone)

    -- and so does this one, with what it has reclaimed
    own_on : (machine : EndMap) (back waits : List ℕ) (last : EndMap) → back ≡ f.back ++ taken → Its (Some (record e { machine = last })) (Some (record f { machine = machine; back = back; waits = waits }))
    own_on machine back waits last back_is e2 is_e f2 is_f =
        let one_e : record e { machine = last } ≡ e2 = same_some (record e { machine = last }) e2 is_e in
        let one_f : record f { machine = machine; back = back; waits = waits } ≡ f2 = same_some (record f { machine = machine; back = back; waits = waits }) f2 is_f in
        subst (λ (x : Ending). Goes x.map f2 known_then n) one_e
        (subst (λ (x : Finishing K V). Goes e.map x known_then n) one_f
        (record {
          gone = gone e.map its.gone;
          number = its.number;
          first = first;
          notes = notes_all e.map f known s its;
          still = λ b is none. noted b (subst (λ (l : List ℕ). times b l ≡ 0) back_is none);
        }))

    none_taken : taken ≡ [] → f.back ≡ f.back ++ taken
    none_taken none = sym (ap (λ (l : List ℕ). f.back ++ l) none ∙ append-nil f.back)

    abbrev E : EndMap
    E = (leads f ends).0

    abbrev W : World (Node K V)
    W = (leads f ends).2.w2

    abbrev D : FactsDeed
    D = (leads f ends).2.deed

    going_said : (last : EndMap) (p : Settled (Node K V)) (c : EndingHasOutcome same hash s new i f E W D p) → EndedTo same hash s new i f E W D p c n
        → (j : ℕ) (e2 : Ending) → with_at enders i (ended_on e last p) j ≡ Some e2 → (f2 : Finishing K V) → n.enders j ≡ Some f2 → Goes e2.map f2 known_then n
    going_said last settled.Goes c led =
        going_by (Some (record e { machine = last })) (Some (record f { machine = E; back = f.back; waits = f.waits ++ waiting_by D })) (ap (λ (z : Scene K V). z.enders) led)
        (own_on E f.back (f.waits ++ waiting_by D) last (none_taken c.0))
    going_said last settled.Waits c led = absurd c
    going_said last (settled.Gave value) c led =
        going_by (Some (record e { machine = last })) (Some (record f { machine = E; back = f.back ++ c.0 ∷ []; waits = f.waits ++ waiting_by D })) (ap (λ (z : Scene K V). z.enders) led)
        (own_on E (f.back ++ c.0 ∷ []) (f.waits ++ waiting_by D) last (sym (ap (λ (l : List ℕ). f.back ++ l) c.2)))
    going_said last settled.Done c led = going_by None None (ap (λ (z : Scene K V). z.enders) led) (λ e2 none. absurd (cc none))

    pub ended_going : (last : EndMap) → EndedTo same hash s new i f E W D said (leads f ends).3 n
        → (j : ℕ) (e2 : Ending) → with_at enders i (ended_on e last said) j ≡ Some e2 → (f2 : Finishing K V) → n.enders j ≡ Some f2 → Goes e2.map f2 known_then n
    ended_going last led = going_said last said (leads f ends).3 led
