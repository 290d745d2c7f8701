-- An event of a run: what is said of how many pairs each map has goes as these do.
use Rattle.std.specs.Prelude.{◌≡◌, ℕ, Bool, true, false, not, List, [], ◌∷◌, filter, flat_map, map, Option, Some, None}
use Rattle.std.specs.List.{AllByRecursion}
use Rattle.std.proofs.Common.{refl, ap, sym, subst, ◌∙◌}
use Rattle.run_finds.specs.Given.RunsSame.{is_same}
use Rattle.run_finds.specs.Given.RunsDeclared.effect.Effect.{Effect}
use Rattle.run_finds.specs.Given.RunsDeclared.effect.Effect.TheVariants as effect
use Rattle.run_finds.specs.Given.RunsDeclared.event.Event.{Event}
use Rattle.run_finds.specs.Given.RunsDeclared.event.Event.TheVariants as event
use Rattle.run_finds.specs.Given.RunsDeclared.outcome.Outcome.{Outcome}
use Rattle.run_finds.specs.Given.RunsDeclared.outcome.Outcome.TheVariants as outcome
use Rattle.run_finds.specs.Given.SchedulesAfter.{after, maps_on, moment}
use Rattle.run_finds.specs.Given.SchedulesBeginning.{begun}
use Rattle.run_finds.specs.Given.SchedulesEffects.{AtEachEffect, promoted, with_effect, with_effects, worked}
use Rattle.run_finds.specs.Given.SchedulesEntry.{ByCall, Entry, IfCall, acted_on, acting, caller_of}
use Rattle.run_finds.specs.Given.SchedulesGrowing.{only_looks}
use Rattle.run_finds.specs.Given.SchedulesHanding.{gives_all, moments_of}
use Rattle.run_finds.specs.Given.SchedulesLinearizable.{ActsOf, shift_of}
use Rattle.run_finds.specs.Given.SchedulesLives.{CallFinds, EventFinds, Finds}
use Rattle.run_finds.specs.Given.SchedulesMoment.{InMap, MapThere, UnderWay, Moment}
use Rattle.run_finds.specs.Given.SchedulesRuns.{IsLegal}
use Rattle.run_finds.specs.Given.SchedulesSequential.{Shift}
use Rattle.run_finds.specs.Given.SchedulesTerms.{Terms, shards_of}
use Rattle.run_finds.specs.Given.SchedulesViews.{call_of}
use Rattle.run_finds.specs.Events.{ended_by}
use Rattle.run_finds.specs.Life.{StoresOne}
use Rattle.run_finds.specs.Within.{ActsOn, AllIsInOrder, GoesInOrder, ReadyOweNone}
use Rattle.run_finds.proofs.Begun.{all_begun}
use Rattle.run_finds.proofs.Endings.{number_same}
use Rattle.run_finds.proofs.Grown.{found_of}
use Rattle.run_finds.proofs.Life.{each_so}
use Rattle.run_finds.proofs.Lists.{all_both, all_so}
use Rattle.run_finds.proofs.Over.{acts, both_at, calls_stay}
use Rattle.run_finds.proofs.Runs.{acts_still, events_keep_order, life_keeps_order}
use Rattle.run_finds.proofs.Tables.{all_kept, all_under}
use Rattle.run_finds.proofs.Within.{in_order}
use Rattle.run_sweeps.proofs.Sizes.Balance.{Moves, ReplacesFirst, evens, moves_none, moves_on}
use Rattle.run_sweeps.proofs.Sizes.Beginning.{Counted, begun_counted, begun_same}
use Rattle.run_sweeps.proofs.Sizes.Counting.{one_moves}
use Rattle.run_sweeps.proofs.Sizes.Ending.{Ends, SparesIt, all_spared, ended_clear, over_moves}
use Rattle.run_sweeps.proofs.Sizes.Places.{EndsNoneOf}
use Rattle.run_sweeps.proofs.Sizes.Settled.{IsSettled, ReadyCountsNone, all_of_both, begun_settled, clear_if_ready, its_ready, named, others_stay_all, over_settled}
use Rattle.run_sweeps.proofs.Sizes.Storing.{AllAwait, Awaits, all_end, all_store, changes_await, none_store}
use Rattle.run_sweeps.proofs.Sizes.Words.{AreWords, begun_words, one_words}

-- effects

module _ {K V : Type 0} (terms : Terms) (caller : Option (List ℕ)) (acted : Option ℕ) (everything : Bool) (moments : List (Moment K V)) where
  abbrev FindsAll : Moment K V → Effect → Type 0
  FindsAll v f = Finds terms caller acted everything moments v f × (StoresOne caller v f × ReplacesFirst caller v f)

  -- a pair that an effect ends is in the map on which its event acts
  ends_none_of : (k : ℕ) (m : Moment K V) (f : Effect) → Finds terms caller acted everything moments m f → SparesIt k acted f → EndsNoneOf k m.place f
  ends_none_of k m (effect.Ended n) finds spares = by caller finds
    where
      by : (who : Option (List ℕ)) → Finds terms who acted everything moments m (effect.Ended n) → m.place n ≡ InMap k → ⊥
      by (Some own) its = absurd (none (call_of own m) its)
        where
          none : (o : Option (UnderWay K V)) → ByCall (λ (c : UnderWay K V). (only_looks c.call ≡ false) × CallFinds terms moments m (effect.Ended n) c) o → ⊥
          none None it = it
          none (Some c) it = it.1
      by None its = of acted refl its
        where
          of : (o : Option ℕ) → acted ≡ o → EventFinds o everything m (effect.Ended n) → m.place n ≡ InMap k → ⊥
          of None at it = absurd it
          of (Some map) at it = λ is. spares n refl (at ∙ (let two : InMap map ≡ InMap k = sym it ∙ is in let one : map ≡ k = cc two in ap Some one))
  ends_none_of k m _ finds spares = tt

  pub all_move : (k : ℕ) (effects : List Effect) (m : Moment K V) → AtEachEffect FindsAll caller acted effects m → AllByRecursion (SparesIt k acted) effects → ActsOn caller acted m → AllIsInOrder m
      → Moves (shards_of terms) k m (with_effects caller acted effects m)
  all_move k [] m finds spares on h = moves_none (shards_of terms) k m m refl refl
  all_move k (f ∷ effects) m finds spares on h =
      let next = with_effect caller acted f m in
      moves_on (shards_of terms) k m next (with_effects caller acted effects next)
      (one_moves terms k m caller acted everything moments h on f finds.0.0 finds.0.1.0 finds.0.1.1 (ends_none_of k m f finds.0.0 spares.0))
      (all_move k effects next finds.1 spares.1 (acts_still caller acted m f on) (in_order terms everything moments caller acted m h on f finds.0.0 finds.0.1.0))

  all_words : (effects : List Effect) (m : Moment K V) → AtEachEffect FindsAll caller acted effects m → ActsOn caller acted m → AllIsInOrder m → AreWords m.made m.shards
      → AreWords (with_effects caller acted effects m).made (with_effects caller acted effects m).shards
  all_words [] m finds on h words = words
  all_words (f ∷ effects) m finds on h words =
      all_words effects (with_effect caller acted f m) finds.1 (acts_still caller acted m f on) (in_order terms everything moments caller acted m h on f finds.0.0 finds.0.1.0) (one_words caller acted m f h words)

-- maps keep their numbers
module _ {K V : Type 0} (R : ℕ → Type 0) where
  one_numbered : (caller : Option (List ℕ)) (acted : Option ℕ) (f : Effect) (m : Moment K V) → AllByRecursion (λ (x : MapThere). R x.number) m.maps → AllByRecursion (λ (x : MapThere). R x.number) (with_effect caller acted f m).maps
  one_numbered caller acted (effect.Promoted t) m all = all_under (promoted t) (λ (x : MapThere). R x.number) (λ (x : MapThere). R x.number) (λ x its. subst R (sym (number_same t x)) its) m.maps all
  one_numbered caller acted _ m all = all

  pub all_numbered : (caller : Option (List ℕ)) (acted : Option ℕ) (effects : List Effect) (m : Moment K V) → AllByRecursion (λ (x : MapThere). R x.number) m.maps
      → AllByRecursion (λ (x : MapThere). R x.number) (with_effects caller acted effects m).maps
  all_numbered caller acted [] m all = all
  all_numbered caller acted (f ∷ effects) m all = all_numbered caller acted effects (with_effect caller acted f m) (one_numbered caller acted f m all)

  left_numbered : (its : Event K V) (came : Outcome V) (maps : List MapThere) → AllByRecursion (λ (x : MapThere). R x.number) maps → AllByRecursion (λ (x : MapThere). R x.number) (maps_on its came maps)
  left_numbered (event.EndMap name) outcome.Done maps all =
      all_so (λ (x : MapThere). R x.number × (not (is_same x.name name) ≡ true)) (λ (x : MapThere). R x.number) (λ x its. its.0) (filter (λ x. not (is_same x.name name)) maps)
      (all_kept (λ (x : MapThere). R x.number) (λ x. not (is_same x.name name)) maps all)
  left_numbered its came maps all = all

-- What is so at each moment of a run: with all in order, calls are settled, and each map that is there is counted.
pub record IsSo {K V : Type 0} (shards : ℕ) (m : Moment K V) : Type 0 where
  pub order : AllIsInOrder m
  pub owes : ReadyOweNone m
  pub settled : AllByRecursion IsSettled m.calls
  pub words : AreWords m.made m.shards
  pub counted : AllByRecursion (λ (f : MapThere). Counted shards m f.number) m.maps

module _ {K V : Type 0} (eq : K → K → Bool) (terms : Terms) (log : List (Entry K V)) (e : Entry K V) (legal : IsLegal eq terms log e) (so : IsSo (shards_of terms) (moment log)) where
  abbrev m : Moment K V
  m = moment log

  abbrev caller : Option (List ℕ)
  caller = caller_of e.event

  abbrev b : Moment K V
  b = begun e.event e.outcome m

  abbrev acted : Option ℕ
  acted = acted_on e.event b

  abbrev w : Moment K V
  w = worked e m

  abbrev v : Moment K V
  v = after e m

  abbrev done : List Shift
  done = flat_map shift_of e.effects

  order_b : AllIsInOrder b
  order_b = all_begun terms log e e.event e.outcome legal.right so.order

  pub settled_b : AllByRecursion IsSettled b.calls
  settled_b = begun_settled terms log e.event e.outcome so.settled

  -- by whomever
  record StoresSo (who : Option (List ℕ)) : Type 0 where
    pub each : AtEachEffect (λ x f. StoresOne who x f × ReplacesFirst who x f) who acted e.effects b
    pub its : (own : List ℕ) → who ≡ Some own → AllByRecursion (λ (c : UnderWay K V). is_same c.caller own ≡ true → c.replacing ≡ None) (with_effects who acted e.effects b).calls

  none_so : (who : Option (List ℕ)) → done ≡ [] → StoresSo who
  none_so who none = record {
    each = none_store acted e.effects b none who;
    its = λ own is. subst (λ (o : Option (List ℕ)). AllByRecursion (λ (c : UnderWay K V). is_same c.caller own ≡ true → c.replacing ≡ None) (with_effects o acted e.effects b).calls) (sym is)
        (all_end own acted e.effects b (subst (λ (l : List Shift). AllAwait own l b.calls) (sym none) (all_so IsSettled (λ c. is_same c.caller own ≡ true → c.replacing ≡ None) (λ c its same. its.replacing) b.calls settled_b)));
  }

  own_so : (own : List ℕ) (c : UnderWay K V) → call_of own b ≡ Some c → Awaits c.call c.replies done c.replacing → StoresSo (Some own)
  own_so own c is h = record {
    each = all_store own acted e.effects b c is h;
    its = λ other same. (let one : own ≡ other = cc same in
        subst (λ (l : List ℕ). AllByRecursion (λ (d : UnderWay K V). is_same d.caller l ≡ true → d.replacing ≡ None) (with_effects (Some own) acted e.effects b).calls) one
        (all_end own acted e.effects b (named (λ (d : UnderWay K V). Awaits d.call d.replies done d.replacing) own b.calls order_b.waits.placed.apart
        (subst (IfCall (λ (d : UnderWay K V). Awaits d.call d.replies done d.replacing)) (sym is) h))));
  }

  stores : StoresSo caller
  stores = by caller refl (acting caller b) refl (acting caller w) legal.linearizable
    where
      by : (who : Option (List ℕ)) → caller ≡ who → (c : Option (UnderWay K V)) → acting caller b ≡ c → (d : Option (UnderWay K V)) → ActsOf eq log e c d → StoresSo caller
      by who is None c_is d none = none_so caller none
      by who is (Some c) c_is None none = none_so caller none
      by None is (Some c) c_is (Some d) its = absurd (let two : None ≡ Some c = sym (ap (λ (o : Option (List ℕ)). acting o b) is) ∙ c_is in cc two)
      by (Some own) is (Some c) c_is (Some d) its =
          let here : call_of own b ≡ Some c = sym (ap (λ (o : Option (List ℕ)). acting o b) is) ∙ c_is in
          let first = (found_of (λ (x : UnderWay K V). is_same x.caller own) IsSettled b.calls c settled_b here).1.replacing in
          subst StoresSo (sym is) (own_so own c here (subst (Awaits c.call c.replies done) (sym first) (changes_await eq c.call c b done its.changes)))

  abbrev moments : List (Moment K V)
  moments = moments_of terms log (acting caller b)

  pub finds : AtEachEffect (FindsAll terms caller acted (gives_all e.event) moments) caller acted e.effects b
  finds = both_at (Finds terms caller acted (gives_all e.event) moments) (λ x f. StoresOne caller x f × ReplacesFirst caller x f) caller acted e.effects b legal.life.finds stores.each

  pub goes : GoesInOrder terms log e
  goes = record {
    right = legal.right;
    life = legal.life;
    stores = each_so (λ x f. StoresOne caller x f × ReplacesFirst caller x f) (StoresOne caller) (λ x f its. its.0) caller acted e.effects b stores.each;
  }

  pub order_w : AllIsInOrder w
  order_w =
      life_keeps_order K V terms caller acted (gives_all e.event) moments e.effects b
      (both_at (Finds terms caller acted (gives_all e.event) moments) (StoresOne caller) caller acted e.effects b legal.life.finds goes.stores) (acts e.event b) order_b

  settled_w : AllByRecursion IsSettled w.calls
  settled_w = by caller refl
    where
      by : (who : Option (List ℕ)) → caller ≡ who → AllByRecursion IsSettled w.calls
      by None is = subst (λ (o : Option (List ℕ)). AllByRecursion IsSettled (with_effects o acted e.effects b).calls) (sym is) (subst (AllByRecursion IsSettled) (sym (calls_stay acted e.effects b)) settled_b)
      by (Some own) is =
          all_of_both IsSettled own w.calls
          (all_so (λ c. (is_same c.caller own ≡ true → c.replacing ≡ None) × (is_same c.caller own ≡ true → ReadyCountsNone c)) (λ c. is_same c.caller own ≡ true → IsSettled c)
          (λ c two same. record { replacing = two.0 same; ready = two.1 same }) w.calls
          (all_both (λ c. is_same c.caller own ≡ true → c.replacing ≡ None) (λ c. is_same c.caller own ≡ true → ReadyCountsNone c) w.calls (stores.its own is)
          (its_ready terms log e.steps e.effects e.outcome e.event goes order_w.waits.placed.apart settled_b own is)))
          (subst (λ (o : Option (List ℕ)). AllByRecursion (λ c. is_same c.caller own ≡ false → IsSettled c) (with_effects o acted e.effects b).calls) (sym is)
          (others_stay_all IsSettled own acted e.effects b (all_so IsSettled (λ c. is_same c.caller own ≡ false → IsSettled c) (λ c its other. its) b.calls settled_b)))

  ends : Ends (ended_by e.event e.outcome) w.calls
  ends = ended_clear terms log e.event e.outcome e.steps e.effects goes order_w.waits.placed.apart so.settled so.order.waits.placed.apart

  -- of a map whose pairs it does not end, what is said and what is there go alike
  pub event_moves : (k : ℕ) → AllByRecursion (SparesIt k acted) e.effects → Moves (shards_of terms) k m v
  event_moves k spares =
      let same = begun_same (shards_of terms) k e.event e.outcome m in
      moves_on (shards_of terms) k m w v
      (moves_on (shards_of terms) k m b w (moves_none (shards_of terms) k m b same.0 same.1) (all_move terms caller acted (gives_all e.event) moments k e.effects b finds spares (acts e.event b) order_b))
      (over_moves (shards_of terms) k e m settled_w ends)

  -- each map that there is when the effects are there was counted before
  pub counted_before : AllByRecursion (λ (f : MapThere). Counted (shards_of terms) b f.number) w.maps
  counted_before = all_numbered (Counted (shards_of terms) b) caller acted e.effects b (begun_counted (shards_of terms) e.event e.outcome m so.order so.words.blank so.counted)

  counted_after : AllByRecursion (λ (f : MapThere). Counted (shards_of terms) v f.number) v.maps
  counted_after =
      all_so (λ (f : MapThere). Counted (shards_of terms) b f.number × AllByRecursion (SparesIt f.number acted) e.effects) (λ (f : MapThere). Counted (shards_of terms) v f.number)
      (λ f its. evens (shards_of terms) f.number b v
      (moves_on (shards_of terms) f.number b w v (all_move terms caller acted (gives_all e.event) moments f.number e.effects b finds its.1 (acts e.event b) order_b) (over_moves (shards_of terms) f.number e m settled_w ends)) its.0) v.maps
      (all_both (λ (f : MapThere). Counted (shards_of terms) b f.number) (λ (f : MapThere). AllByRecursion (SparesIt f.number acted) e.effects) v.maps
      (left_numbered (Counted (shards_of terms) b) e.event e.outcome w.maps counted_before) (all_spared terms log e.event e.outcome e.steps e.effects goes so.order))

  pub then_so : IsSo (shards_of terms) v
  then_so =
      let in_order_then = events_keep_order K V terms log e goes (so.order, so.owes) in
      record {
        order = in_order_then.0;
        owes = in_order_then.1;
        settled = over_settled e.event e.outcome e.steps w.calls (clear_if_ready terms log e.steps e.effects e.outcome e.event goes order_w.waits.placed.apart) settled_w;
        words = all_words terms caller acted (gives_all e.event) moments e.effects b finds (acts e.event b) order_b (begun_words e.event e.outcome m so.words);
        counted = counted_after;
      }
