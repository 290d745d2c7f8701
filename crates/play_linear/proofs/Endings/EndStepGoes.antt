-- Each map that ends goes on to end by each step of an end, which finds what it must; and one that is over has left nothing of its map.
use Rattle.std.specs.Prelude.{◌≡◌, ◌≢◌, ◌⊎◌, ◌++◌, ℕ, Bool, true, false, List, [], ◌∷◌, Option, Some, None, if◌then◌else◌}
use Rattle.std.proofs.Common.{refl, ap, sym, subst, ◌∙◌, inl, inr}
use Rattle.std.proofs.lemmas.Bool.{cases_eq}
use Rattle.std.proofs.lemmas.List.{append-nil}
use Rattle.seize_acts.specs.Acts.Answers.{Grant}
use Rattle.seize_acts.specs.Given.SeizeWorld.{World, with_at}
use Rattle.seize_acts.specs.Given.SeizeDeclared.rows.settle.Settled.{Settled}
use Rattle.seize_acts.specs.Given.SeizeDeclared.rows.settle.Settled.TheVariants as settled
use Rattle.play_lists.specs.Given.TablesDeclared.node.Node.{Node}
use Rattle.run_schedules.specs.Given.RawEndMap.{end_map_plan}
use Rattle.run_logged.specs.Given.RawDeclared.machines.end_map.EndMap.{EndMap}
use Rattle.run_logged.proofs.Given.CallersTogether.At.{at_other, at_same}
use Rattle.play_lists.specs.Given.FinishesEndings.{Finishing, waiting_by}
use Rattle.play_lists.specs.Given.FinishesFactsEnds.{Deed as FactsDeed, taken_by as taken_of}
use Rattle.run_schedules.specs.declared.effect.Effect.{Effect}
use Rattle.run_schedules.specs.Schedules.Effects.{AtEachEffect, with_effects}
use Rattle.run_schedules.specs.Schedules.Moment.{MapThere, Moment}
use Rattle.run_schedules.specs.Schedules.Views.{map_at, size_of}
use Rattle.play_lists.specs.Given.EffectsEffects.{effects_of, known_after, taken_by}
use Rattle.play_lists.specs.Given.EffectsKnown.{Known}
use Rattle.play_lists.specs.Given.EffectsDeclared.acting.Acting.TheVariants as acts
use Rattle.play_lists.specs.Given.OthersEndings.{ObservesNext}
use Rattle.play_lists.specs.Given.EffectsDeclared.changed.Changed.{Changed}
use Rattle.play_lists.specs.Given.EffectsDeclared.changed.Changed.TheVariants as changed
use Rattle.play_lists.specs.Given.EffectsDeclared.changed.Changed.TheVariants.{Nothing as NoChange}
use Rattle.play_lists.specs.Given.ScenesEnding.{EndingHasOutcome, EndingLeads}
use Rattle.play_lists.specs.Given.ScenesHeld.{Held, IsAt}
use Rattle.play_lists.specs.Given.ScenesScene.{Scene, slot_of}
use Rattle.play_lists.proofs.Given.FollowsOperations.{Operated, operated}
use Rattle.play_lists.proofs.Given.ScenesMay.{may_end}
use Rattle.run_sweeps.specs.Given.Ends.{ended_as}
use Rattle.play_lists.specs.Given.ActsActs.{Act, Answer, OfEnding, StepsEnding}
use Rattle.play_lists.specs.Given.ActsAsSteps.{EndedTo, LeadsAs, changed_by, held_in}
use Rattle.play_lists.specs.Given.ActsLeads.{Led}
use Rattle.run_schedules.specs.Deeds.Deeds.{Ends, Entry, MapGoes, after, moment, named}
use Rattle.run_schedules.specs.Deeds.History.{EndFinds, left_tables}
use Rattle.play_lists.specs.Played.Play.{Ending, State, ended_on, ending_deed, ending_stepped, is_over, is_refusal, settled_outcome}
use Rattle.play_lists.specs.Played.Reached.{IsOf}
use Rattle.play_lists.proofs.Played.PlayedAs.{PlayedAs}
use Rattle.play_linear.specs.Linear.Coming.{Goes}
use Rattle.play_linear.proofs.Linear.Coming.{gone_leaves}
use Rattle.play_linear.proofs.Linear.Holding.{AllHolds}
use Rattle.play_lists.proofs.Played.Tied.{EndingTied, ending_tied}
use Rattle.play_lists.specs.MapsEnd.Ends.{AlikeOf, EndsWell}
use Rattle.play_lists.specs.MapsEnd.Going.{ContinuesToEnd}
use Rattle.play_linear.specs.Endings.GoingOn.{EndsContinue}
use Rattle.play_linear.specs.Endings.InOrder.{EndsInOrder}
use Rattle.play_lists.proofs.MapsEnd.Alike.{alike_all, alike_itself, alike_maps, alike_then}
use Rattle.play_linear.proofs.Endings.EndSteps.{Then, behind_same, does, none_done, none_then, one_then, tells}
use Rattle.play_linear.proofs.Endings.EndingGoes.{maps_kept}
use Rattle.play_lists.proofs.MapsEnd.Going.{NotedAlike, going_alike}
use Rattle.play_linear.proofs.Endings.Others.{taken_spares}
use Rattle.play_linear.proofs.Endings.Played.{goes_of, noted_on}
use Rattle.play_lists.proofs.MapsEnd.Spares.{all_spared}
use Rattle.play_lists.proofs.Agrees.Names.{effects_named}
use Rattle.run_schedules.proofs.Given.General.{same_some}

module _ {K V S : Type 0} (same : K → K → Bool) (by_hasher : S → K → ℕ) (hash : ℕ → K → ℕ) (batch_size roots : ℕ) (aborts : ℕ → V) (x y : State K V S) (s n : Scene K V)
    (is : IsOf by_hasher s s.world.row x.now) (at : IsAt same hash (held_in batch_size roots NoChange s) s) (all : AllHolds same x s) (so : EndsContinue x s) (told : Answer K V) (i : ℕ) (g : Grant) where
  abbrev act : Act K V S
  act = StepsEnding i g

  abbrev old : Held K V
  old = held_in batch_size roots NoChange s

  abbrev new : Held K V
  new = held_in batch_size roots (changed_by same act s) n

  abbrev m : Moment K V
  m = moment x.history

  module _ (it : Ending) (here : x.now.enders i ≡ Some it) (f : Finishing K V) (ends : s.enders i ≡ Some f) (said : Settled (Node K V)) (leads : EndingLeads same hash i said s old new) (at2 : IsAt same hash new n)
      (led : Led same by_hasher batch_size roots slot_of act s told n) where
    abbrev map : ℕ
    map = it.map

    abbrev effects : List Effect
    effects = effects_of (acts.Ending map) x.known new.changed

    abbrev known_then : Known
    known_then = known_after (acts.Ending map) new.changed x.known

    abbrev w : Moment K V
    w = with_effects None (Some map) effects m

    abbrev v : Moment K V
    v = after (record { deed = ending_deed it said; outcome = settled_outcome said; effects = effects; refused = is_refusal new.changed }) m

    its : Goes map f x.known s
    its = goes_of same by_hasher hash batch_size roots aborts x y s n is at all so told i it here f ends

    own : ContinuesToEnd map f x.known m
    own = so.each i it here f ends

    done : (effects ≡ []) ⊎ ((b : ℕ) × (new.changed ≡ changed.Took b))
    done = does same hash m x.known s old new at all.holds.shows.whole i f ends said leads map its own

    -- all that is told of maps stays
    maps_same : w.maps ≡ m.maps
    maps_same = elim done as (λ _. w.maps ≡ m.maps) [
      | inl none ↦ ap (λ (l : List Effect). (with_effects None (Some map) l m).maps) none
      | inr took ↦ ap (λ (z : Changed). (with_effects None (Some map) (effects_of (acts.Ending map) x.known z) m).maps) took.1 ∙ maps_kept map (x.known.roles took.0) m
    ]

    same_there : map_at map w ≡ map_at map m
    same_there = ap (λ (fs : List MapThere). map_at map (record m { maps = fs })) maps_same

    -- Of another map that ends all is as it was.
    module _ (j : ℕ) (apart : j ≢ i) (e : Ending) (ending : x.now.enders j ≡ Some e) (f2 : Finishing K V) (ends2 : s.enders j ≡ Some f2) (ends_then : n.enders j ≡ Some f2) where
      go : ContinuesToEnd e.map f2 x.known m
      go = so.each j e ending f2 ends2

      ne : map ≢ e.map
      ne same_map = so.apart j i e it apart ending here (sym same_map)

      op : Operated old.memory new.memory new.changed
      op = operated old.memory new.memory new.changed (end_map_plan {K = K} {V = V} f.machine) ((leads f ends).0, said) (may_end same hash old s at i f ends) (leads f ends).1

      still : NotedAlike go.rest x.known known_then
      still =
          noted_on same by_hasher hash batch_size roots aborts x y s n is at all so told new at2 op (acts.Ending map) j e ending f2 ends2 ends_then go

      other : ◌≡◌ {A = Option ℕ} (Some map) (Some e.map) → ⊥
      other both = ne (cc both)

      alike_led : AlikeOf e.map m w
      alike_led = elim done as (λ _. AlikeOf e.map m w) [
        | inl none ↦ subst (λ (l : List Effect). AlikeOf e.map m (with_effects None (Some map) l m)) (sym none) (alike_itself e.map m)
        | inr took ↦ subst (λ (z : Changed). AlikeOf e.map m (with_effects None (Some map) (effects_of (acts.Ending map) x.known z) m)) (sym took.1)
            (all_spared e.map None (Some map) other (taken_by (acts.Ending map) (x.known.roles took.0)) m go.stored
            (taken_spares same named e.map f2 x.known m s all.holds.shows.whole go (acts.Ending map) None (Some map) took.0
            (subst (λ (z : Changed). NotedAlike go.rest x.known (known_after (acts.Ending map) z x.known)) took.1 still)))
      ]

      alike_over : (q : Bool) → AlikeOf e.map w (after (record { deed = if q then MapGoes map else Ends map; outcome = settled_outcome said; effects = effects; refused = is_refusal new.changed }) m)
      alike_over false = alike_all e.map w (after (record { deed = Ends map; outcome = settled_outcome said; effects = effects; refused = is_refusal new.changed }) m) refl refl refl refl refl
      alike_over true =
          let z = after (record { deed = MapGoes map; outcome = settled_outcome said; effects = effects; refused = is_refusal new.changed }) m in
          alike_maps e.map w z (gone_leaves e.map map ne w z (effects_named None (Some map) effects m all.maps.names) refl refl refl).there refl refl refl refl

      pub other_goes : ContinuesToEnd e.map f2 known_then v
      other_goes = going_alike e.map f2 x.known m go known_then v (alike_then e.map m w v alike_led (alike_over (is_over said))) still

    -- its own goes on, if it is not over
    own_v : (f3 : Finishing K V) → is_over said ≡ false → ContinuesToEnd map f3 known_then w → ContinuesToEnd map f3 known_then v
    own_v f3 goes_on so_far = going_alike map f3 known_then w so_far known_then v (by (is_over said) goes_on) (λ b some. refl)
      where
        by : (q : Bool) → q ≡ false → AlikeOf map w (after (record { deed = if q then MapGoes map else Ends map; outcome = settled_outcome said; effects = effects; refused = is_refusal new.changed }) m)
        by false e = alike_all map w (after (record { deed = Ends map; outcome = settled_outcome said; effects = effects; refused = is_refusal new.changed }) m) refl refl refl refl refl
        by true e = absurd (cc e)

    abbrev E : EndMap
    E = (leads f ends).0

    abbrev W : World (Node K V)
    W = (leads f ends).2.w2

    abbrev D : FactsDeed
    D = (leads f ends).2.deed

    abbrev Comes : Settled (Node K V) → Type 0
    Comes p = EndingHasOutcome same hash s new i f E W D p

    told_next : ObservesNext same hash s new i f E W D said (leads f ends).3 new.changed
    told_next = tells same hash m x.known s old new at all.holds.shows.whole i f ends said leads map its own

    none : taken_of D ≡ [] → Then same hash m x.known s old new at all.holds.shows.whole i f ends said leads map its own []
    none = none_then same hash m x.known s old new at all.holds.shows.whole i f ends said leads map its own

    -- what it does finds what it must
    finds_by : (p : Settled (Node K V)) (c : Comes p) → ObservesNext same hash s new i f E W D p c new.changed → AtEachEffect (EndFinds map) None (Some map) effects m
    finds_by settled.Goes c tells_none = (none c.0).0
    finds_by settled.Waits c never = absurd c
    finds_by (settled.Gave value) c took = (one_then same hash m x.known s old new at all.holds.shows.whole i f ends said leads map its own value c took same_there).0
    finds_by settled.Done c tells_none = (none c.0).0

    pub step_finds : AtEachEffect (EndFinds map) None (Some map) effects m
    step_finds = finds_by said (leads f ends).3 told_next

    -- once it is over nothing of the map is left
    over_by : (p : Settled (Node K V)) → Comes p → is_over p ≡ true → (size_of map w ≡ 0) × (left_tables map w ≡ [])
    over_by settled.Goes c over = absurd (cc over)
    over_by settled.Waits c over = absurd c
    over_by (settled.Gave value) c over = absurd (cc over)
    over_by settled.Done c over =
        let all_back : own.rest ≡ [] = behind_same f.back own.rest [] (sym own.back_is ∙ sym c.1.back_is ∙ sym (append-nil f.back)) in
        let well : EndsWell map [] m = subst (λ (l : List ℕ). EndsWell map (ended_as map x.known l) m) all_back own.well in
        subst (λ (l : List Effect). (size_of map (with_effects None (Some map) l m) ≡ 0) × (left_tables map (with_effects None (Some map) l m) ≡ []))
        (sym (none_done same hash m x.known s old new at all.holds.shows.whole i f ends said leads map its own c.0)) (well.no_pair, well.no_table)

    pub over_whole : is_over said ≡ true → (size_of map w ≡ 0) × (left_tables map w ≡ [])
    over_whole = over_by said (leads f ends).3

    -- it is over, or goes on
    record Next (p : Settled (Node K V)) : Type 0 where
      pub next : Option (Finishing K V)
      pub ends_are : n.enders ≡ with_at s.enders i next
      pub goes : (last : EndMap) (e2 : Ending) (f2 : Finishing K V) → ended_on it last p ≡ Some e2 → next ≡ Some f2 → ContinuesToEnd e2.map f2 known_then v

    own_next : (f3 : Finishing K V) (last : EndMap) (e2 : Ending) (f2 : Finishing K V) → ◌≡◌ {A = Option Ending} (Some (record it { machine = last })) (Some e2) → ◌≡◌ {A = Option (Finishing K V)} (Some f3) (Some f2)
        → ContinuesToEnd map f3 known_then v → ContinuesToEnd e2.map f2 known_then v
    own_next f3 last e2 f2 e_is f_is goes_on =
        subst (λ (z : Ending). ContinuesToEnd z.map f2 known_then v) (same_some (record it { machine = last }) e2 e_is) (subst (λ (z : Finishing K V). ContinuesToEnd map z known_then v) (same_some f3 f2 f_is) goes_on)

    next_by : (p : Settled (Node K V)) (c : Comes p) → ObservesNext same hash s new i f E W D p c new.changed → is_over said ≡ is_over p → EndedTo same hash s new i f E W D p c n → Next p
    next_by settled.Goes c tells_none over led_to = record {
      next = Some (record f { machine = E; waits = f.waits ++ waiting_by D });
      ends_are = ap (λ (z : Scene K V). z.enders) led_to;
      goes = λ last e2 f2 e_is f_is.
          own_next (record f { machine = E; waits = f.waits ++ waiting_by D }) last e2 f2 e_is f_is
          (own_v (record f { machine = E; waits = f.waits ++ waiting_by D }) over
          (subst (λ (l : List ℕ). ContinuesToEnd map (record f { machine = E; back = l; waits = f.waits ++ waiting_by D }) known_then w) (append-nil f.back) ((none c.0).1 E (f.waits ++ waiting_by D))));
    }
    next_by settled.Waits c never over led_to = absurd c
    next_by (settled.Gave value) c took over led_to = record {
      next = Some (record f { machine = E; back = f.back ++ c.0 ∷ []; waits = f.waits ++ waiting_by D });
      ends_are = ap (λ (z : Scene K V). z.enders) led_to;
      goes = λ last e2 f2 e_is f_is.
          own_next (record f { machine = E; back = f.back ++ c.0 ∷ []; waits = f.waits ++ waiting_by D }) last e2 f2 e_is f_is
          (own_v (record f { machine = E; back = f.back ++ c.0 ∷ []; waits = f.waits ++ waiting_by D }) over
          ((one_then same hash m x.known s old new at all.holds.shows.whole i f ends said leads map its own value c took same_there).1 E (f.waits ++ waiting_by D)));
    }
    next_by settled.Done c tells_none over led_to = record { next = None; ends_are = ap (λ (z : Scene K V). z.enders) led_to; goes = λ last e2 f2 e_is f_is. absurd (cc f_is) }

    -- So all ends go on.
    pub all_go : (last : EndMap) → EndedTo same hash s new i f E W D said (leads f ends).3 n → y.known ≡ known_then → moment y.history ≡ v → y.now.enders ≡ with_at x.now.enders i (ended_on it last said) → EndsContinue y n
    all_go last led_to known_is moment_is enders = record {
      each = λ j e ending f2 ends2.
          subst (λ (k : Known). ContinuesToEnd e.map f2 k (moment y.history)) (sym known_is) (subst (ContinuesToEnd e.map f2 known_then) (sym moment_is)
          (each j e f2 (cases_eq j i) (sym (ap (λ (h : ℕ → Option Ending). h j) enders) ∙ ending) ends2 (sym (ap (λ (h : ℕ → Option (Finishing K V)). h j) its_next.ends_are) ∙ ends2)));
      apart = λ j k e e2 ne one two. so_apart j k e e2 ne (sym (ap (λ (h : ℕ → Option Ending). h j) enders) ∙ one) (sym (ap (λ (h : ℕ → Option Ending). h k) enders) ∙ two);
    }
      where
        its_next : Next said
        its_next = next_by said (leads f ends).3 told_next refl led_to

        each : (j : ℕ) (e : Ending) (f2 : Finishing K V) → (j ≡ i) ⊎ (j ≢ i) → with_at x.now.enders i (ended_on it last said) j ≡ Some e → n.enders j ≡ Some f2 → with_at s.enders i its_next.next j ≡ Some f2
            → ContinuesToEnd e.map f2 known_then v
        each j e f2 (inl same_one) e_is ends_then f_is = its_next.goes last e f2 (sym (at_same x.now.enders i (ended_on it last said) j same_one) ∙ e_is) (sym (at_same s.enders i its_next.next j same_one) ∙ f_is)
        each j e f2 (inr ne) e_is ends_then f_is =
            other_goes j ne e (sym (at_other x.now.enders i (ended_on it last said) j ne) ∙ e_is) f2 (sym (at_other s.enders i its_next.next j ne) ∙ f_is) ends_then

        -- the end of a map stays one of it
        was_so : (j : ℕ) (e : Ending) → with_at x.now.enders i (ended_on it last said) j ≡ Some e → (e0 : Ending) × (x.now.enders j ≡ Some e0) × (e.map ≡ e0.map)
        was_so j e e_is = by (cases_eq j i)
          where
            its_map : (q : Bool) → (if q then None else Some (record it { machine = last })) ≡ Some e → e.map ≡ it.map
            its_map true z = absurd (cc z)
            its_map false z = sym (ap (λ (w : Ending). w.map) (same_some (record it { machine = last }) e z))

            by : (j ≡ i) ⊎ (j ≢ i) → (e0 : Ending) × (x.now.enders j ≡ Some e0) × (e.map ≡ e0.map)
            by (inl same_one) = (it, ap x.now.enders same_one ∙ here, its_map (is_over said) (sym (at_same x.now.enders i (ended_on it last said) j same_one) ∙ e_is))
            by (inr ne) = (e, sym (at_other x.now.enders i (ended_on it last said) j ne) ∙ e_is, refl)

        so_apart : (j k : ℕ) (e e2 : Ending) → j ≢ k → with_at x.now.enders i (ended_on it last said) j ≡ Some e → with_at x.now.enders i (ended_on it last said) k ≡ Some e2 → e.map ≢ e2.map
        so_apart j k e e2 ne one two same_map =
            let a = was_so j e one in let b = was_so k e2 two in so.apart j k a.0 b.0 ne a.1 b.1 (sym a.2 ∙ same_map ∙ b.2)

  -- A step of an end is played: all ends go on.
  pub end_step_goes : PlayedAs same by_hasher batch_size roots aborts x y (StepsEnding i g) → Led same by_hasher batch_size roots slot_of act s told n → LeadsAs same by_hasher hash act s told n old new → IsAt same hash new n → EndsContinue y n
  end_step_goes played (f, ends, m2, machine, progress, computed, told_is, did, came) (said, answer, leads, goes) at2 =
      all_go tied.it tied.here f ends said leads at2 (f, ends, m2, machine, progress, computed, told_is, did, came) machine (goes f ends) (ap (λ (z : State K V S). z.known) z_is) (ap (λ (z : State K V S). moment z.history) z_is)
      (ap (λ (z : State K V S). z.now.enders) z_is)
    where
      tied : EndingTied same by_hasher batch_size roots aborts s n s.world.row x y is i g f (m2, (machine, progress))
      tied = ending_tied same by_hasher batch_size roots aborts s n s.world.row x y is i g f ends (m2, (machine, progress)) computed played

      said_is : progress ≡ said
      said_is = let both : ◌≡◌ {A = Answer K V} (OfEnding progress) (OfEnding said) = sym told_is ∙ answer in cc both

      z_is : y ≡ ending_stepped i tied.it new.changed x (m2, (machine, said))
      z_is = tied.comes ∙ ap (λ (p : Settled (Node K V)). ending_stepped i tied.it new.changed x (m2, (machine, p))) said_is

  -- And its entry ends its map in order.
  pub end_step_in_order : PlayedAs same by_hasher batch_size roots aborts x y (StepsEnding i g) → Led same by_hasher batch_size roots slot_of act s told n → LeadsAs same by_hasher hash act s told n old new → IsAt same hash new n
      → (e : Entry K V) × (y.history ≡ e ∷ x.history) × EndsInOrder x.history e
  end_step_in_order played (f, ends, m2, machine, progress, computed, told_is, did, came) (said, answer, leads, goes) at2 = (
    record { deed = ending_deed tied.it said; outcome = settled_outcome said; effects = effects_of (acts.Ending tied.it.map) x.known new.changed; refused = is_refusal new.changed },
    ap (λ (z : State K V S). z.history) z_is,
    by (is_over said) refl,
  )
    where
      tied : EndingTied same by_hasher batch_size roots aborts s n s.world.row x y is i g f (m2, (machine, progress))
      tied = ending_tied same by_hasher batch_size roots aborts s n s.world.row x y is i g f ends (m2, (machine, progress)) computed played

      said_is : progress ≡ said
      said_is = let both : ◌≡◌ {A = Answer K V} (OfEnding progress) (OfEnding said) = sym told_is ∙ answer in cc both

      z_is : y ≡ ending_stepped i tied.it new.changed x (m2, (machine, said))
      z_is = tied.comes ∙ ap (λ (p : Settled (Node K V)). ending_stepped i tied.it new.changed x (m2, (machine, p))) said_is

      finds : AtEachEffect (EndFinds tied.it.map) None (Some tied.it.map) (effects_of (acts.Ending tied.it.map) x.known new.changed) m
      finds = step_finds tied.it tied.here f ends said leads at2 (f, ends, m2, machine, progress, computed, told_is, did, came)

      its_effects : List Effect
      its_effects = effects_of (acts.Ending tied.it.map) x.known new.changed

      by : (q : Bool) → is_over said ≡ q → EndsInOrder x.history (record { deed = if q then MapGoes tied.it.map else Ends tied.it.map; outcome = settled_outcome said; effects = its_effects; refused = is_refusal new.changed })
      by true over = let whole = over_whole tied.it tied.here f ends said leads at2 (f, ends, m2, machine, progress, computed, told_is, did, came) over in (finds, whole.0, whole.1)
      by false over = finds
