-- All is in order after each event that comes to what is right for it and keeps the promise `life`, and so at each moment of a run.
use Rattle.std.specs.Prelude.{◌≡◌, ℕ, ◌<◌, ◌≤◌, ◌==◌, Bool, true, false, not, List, [], ◌∷◌, filter, find, map, Option, Some, None, option_map}
use Rattle.std.specs.List.{AllByRecursion, list_any}
use Rattle.std.proofs.Common.{refl, ap, sym, subst, ◌∙◌, arith}
use Rattle.std.proofs.lemmas.Bool.{eq-eqb}
use Rattle.std.proofs.lemmas.List.Elements.{recursion_from_All, All-from_recursion}
use Rattle.run_executor.specs.Given.RunsSame.{is_same}
use Rattle.run_executor.specs.Given.RunsDeclared.effect.Effect.{Effect}
use Rattle.run_executor.specs.Given.RunsDeclared.event.Event.{Event}
use Rattle.run_executor.specs.Given.RunsDeclared.event.Event.TheVariants as event
use Rattle.run_executor.specs.Given.RunsDeclared.outcome.Outcome.{Outcome}
use Rattle.run_executor.specs.Given.RunsDeclared.outcome.Outcome.TheVariants as outcome
use Rattle.run_executor.specs.Given.SchedulesAfter.{moment, after, maps_on}
use Rattle.run_executor.specs.Given.SchedulesBeginning.{begun}
use Rattle.run_executor.specs.Given.SchedulesEffects.{call_by, with_effect, worked}
use Rattle.run_executor.specs.Given.SchedulesEntry.{Entry, caller_of, acting, acted_on}
use Rattle.run_executor.specs.Given.SchedulesHanding.{gives_all, moments_of}
use Rattle.run_executor.specs.Given.SchedulesInTurn.{is_called}
use Rattle.run_executor.specs.Given.SchedulesLives.{Finds}
use Rattle.run_executor.specs.Given.SchedulesMoment.{UnderWay, MapThere, Moment}
use Rattle.run_executor.specs.Given.SchedulesTerms.{Terms}
use Rattle.run_executor.specs.Given.SchedulesViews.{map_of, number_of, map_at}
use Rattle.run_executor.proofs.Given.FollowsCalling.{is_same_is}
use Rattle.run_executor.proofs.Given.FollowsCalls.{changed_same, changed, of_same, found}
use Rattle.run_finds.specs.Endings.{EndsWhole}
use Rattle.run_finds.specs.Events.{ended_by, EndedHasNoObligation}
use Rattle.run_finds.specs.Life.{StoresOne}
use Rattle.run_finds.specs.Within.{ReadyOweNone, many_of, HasItsMap, AllIsInOrder, ActsOn, GoesInOrder, AllInOrderAtFirst, LifePreservesOrder, EventsPreserveOrder}
use Rattle.run_finds.proofs.Begun.{makes_new, ends_uncalled, all_begun}
use Rattle.run_finds.proofs.Endings.{entry, number_at, same_number, fewer_found, ends_leave_maps, events_keep_named, events_keep_roots, events_keep_somewhere}
use Rattle.run_finds.proofs.Events.{events_keep_placed, events_keep_tables}
use Rattle.run_finds.proofs.Lists.{any_so, any_kept_among, all_so, all_both, each_is, each_among}
use Rattle.run_finds.proofs.Orderly.{order_at_first}
use Rattle.run_finds.proofs.Owed.{named_still}
use Rattle.run_finds.proofs.Ready.{after_ready, stopped_owes_none}
use Rattle.run_finds.proofs.Tables.{all_kept}
use Rattle.run_finds.proofs.TornDown.{somewhere_at_first}
use Rattle.run_finds.proofs.Grown.{found_any, any_found}
use Rattle.run_finds.proofs.Within.{in_order}
use Rattle.run_finds.proofs.Over.{acts, calls_stay, both_at, over_have, ended_owes_none}

pub all_in_order_at_first : (K V : Type 0) → AllInOrderAtFirst K V
all_in_order_at_first K V = record {
  waits = order_at_first K V;
  named = tt;
  somewhere = somewhere_at_first K V;
  within = record { tables = tt; apart = tt; roots = tt; made = tt; spots = λ n l u. absurd (omega (arith, l, u)); maps = λ n map e. absurd (cc e); calls = tt; behind = tt };
}

-- effects

module _ {K V : Type 0} where
  -- effects of a call are on its map still
  pub acts_still : (caller : Option (List ℕ)) (acted : Option ℕ) (m : Moment K V) (f : Effect) → ActsOn caller acted m → ActsOn caller acted (with_effect caller acted f m)
  acts_still None acted m f on own c caller_is c_is = absurd (cc caller_is)
  acts_still (Some who) acted m f on own c caller_is c_is =
      let one : who ≡ own = cc caller_is in
      let here : find (λ (d : UnderWay K V). is_same d.caller who) (map (changed (call_by m f) (changed_same m f) who) m.calls) ≡ Some c =
      subst (λ (l : List ℕ). find (λ (d : UnderWay K V). is_same d.caller l) (map (changed (call_by m f) (changed_same m f) who) m.calls) ≡ Some c) (sym one) c_is in
      let any = found_any (λ (d : UnderWay K V). is_same d.caller who) (map (changed (call_by m f) (changed_same m f) who) m.calls) c here in
      let some = any_found (λ (d : UnderWay K V). is_same d.caller who) m.calls (sym (named_still who (call_by m f) (changed_same m f) who m.calls) ∙ any) in
      let now = found (call_by m f) (changed_same m f) who who m.calls some.0 some.1 in
      let is : changed (call_by m f) (changed_same m f) who some.0 ≡ c = (let two : Some (changed (call_by m f) (changed_same m f) who some.0) ≡ Some c = sym now ∙ here in cc two) in
      on who some.0 refl some.1 ∙ ap Some (sym (of_same (call_by m f) (changed_same m f) who some.0).1 ∙ ap (λ (x : UnderWay K V). x.map) is)

pub life_keeps_order : (K V : Type 0) → LifePreservesOrder K V
life_keeps_order K V terms caller acted everything moments [] m finds on h = h
life_keeps_order K V terms caller acted everything moments (f ∷ effects) m finds on h =
    life_keeps_order K V terms caller acted everything moments effects (with_effect caller acted f m) finds.1 (acts_still caller acted m f on)
    (in_order terms everything moments caller acted m h on f finds.0.0 finds.0.1)

-- maps once an event is over

module _ {K V : Type 0} where
  -- a call that is under way has its map still where one ends on which no call is
  stays_there : (m : Moment K V) (name : List ℕ) → is_called (number_of name m) m ≡ false → AllByRecursion (λ f. map_of f.name m ≡ Some f) m.maps → (c : UnderWay K V)
      → list_any (λ (d : UnderWay K V). d.map == c.map) m.calls ≡ true → list_any (λ (f : MapThere). f.number == c.map) m.maps ≡ true
      → list_any (λ (f : MapThere). f.number == c.map) (filter (λ f. not (is_same f.name name)) m.maps) ≡ true
  stays_there m name uncalled named c called there =
      any_kept_among (λ (f : MapThere). f.number == c.map) (λ f. not (is_same f.name name)) (λ f. map_of f.name m ≡ Some f) (λ f at found_it. one f at found_it (is_same f.name name) refl) m.maps there named
    where
      number_is : (a b : ℕ) → (a == b) ≡ true → a ≡ b
      number_is a b e = grind (arith, e)

      one : (f : MapThere) → (f.number == c.map) ≡ true → map_of f.name m ≡ Some f → (q : Bool) → is_same f.name name ≡ q → not (is_same f.name name) ≡ true
      one f at found_it true same = absurd (
          let here : map_of name m ≡ Some f = subst (λ (l : List ℕ). map_of l m ≡ Some f) (is_same_is f.name name same) found_it in
          let number : number_of name m ≡ Some c.map = ap (option_map (λ (g : MapThere). g.number)) here ∙ ap Some (number_is f.number c.map at) in
          let none : list_any (λ (d : UnderWay K V). d.map == c.map) m.calls ≡ false = subst (λ (o : Option ℕ). is_called o m ≡ false) number uncalled in
          cc (called, none)
          )
      one f at found_it false same = ap not same

  -- what an event leaves of maps, and of calls on them
  record Leaves (w : Moment K V) (maps : List MapThere) : Type 0 where
    pub found : AllByRecursion (λ (f : MapThere). find (λ (g : MapThere). g.number == f.number) maps ≡ Some f) maps
    pub roots : AllByRecursion (λ (f : MapThere). f.first ≤ many_of f.number w) maps
    pub made : AllByRecursion (λ (f : MapThere). f.number < w.made) maps
    pub calls : AllByRecursion (λ (c : UnderWay K V). list_any (λ (f : MapThere). f.number == c.map) maps ≡ true) w.calls

  leaves_all : (w : Moment K V) → AllIsInOrder w → Leaves w w.maps
  leaves_all w h = record {
    found = recursion_from_All (λ (f : MapThere). map_at f.number w ≡ Some f) w.maps h.waits.found;
    roots = h.within.roots;
    made = h.within.made;
    calls = all_so (HasItsMap w) (λ c. list_any (λ (f : MapThere). f.number == c.map) w.maps ≡ true) (λ c its. its.there) w.calls h.within.calls;
  }

module _ {K V : Type 0} (terms : Terms) (log : List (Entry K V)) where
  abbrev m : Moment K V
  m = moment log

  leaves_on : (its : Event K V) (came : Outcome V) (steps : ℕ) (effects : List Effect) (goes : GoesInOrder terms log (entry its came steps effects)) → AllIsInOrder m → AllIsInOrder (worked (entry its came steps effects) m)
      → Leaves (worked (entry its came steps effects) m) (maps_on its came (worked (entry its came steps effects) m).maps)
  leaves_on (event.EndMap name) outcome.Done steps effects goes before h = record {
    found = fewer_found number_at same_number keep w.maps all.found;
    roots = fewer (λ f. f.first ≤ many_of f.number w) all.roots;
    made = fewer (λ f. f.number < w.made) all.made;
    calls = subst (λ (cs : List (UnderWay K V)). AllByRecursion (λ (c : UnderWay K V). list_any (λ (f : MapThere). f.number == c.map) (filter keep w.maps) ≡ true) cs) (sym same_calls)
        (all_so (λ (c : UnderWay K V). (list_any (λ (d : UnderWay K V). c.map == d.map) m.calls ≡ true) × (list_any (λ (f : MapThere). f.number == c.map) m.maps ≡ true))
        (λ (c : UnderWay K V). list_any (λ (f : MapThere). f.number == c.map) (filter keep w.maps) ≡ true)
        (λ c its. ap (λ (fs : List MapThere). list_any (λ (f : MapThere). f.number == c.map) (filter keep fs)) same_maps ∙ stays_there m name uncalled before.named c (back_way c its.0) its.1) m.calls
        (all_both (λ (c : UnderWay K V). list_any (λ (d : UnderWay K V). c.map == d.map) m.calls ≡ true) (λ (c : UnderWay K V). list_any (λ (f : MapThere). f.number == c.map) m.maps ≡ true) m.calls
        (each_among (λ (c d : UnderWay K V). c.map == d.map) (λ c. eq-eqb c.map c.map refl) m.calls)
        (all_so (HasItsMap m) (λ (c : UnderWay K V). list_any (λ (f : MapThere). f.number == c.map) m.maps ≡ true) (λ c its. its.there) m.calls before.within.calls)));
  }
    where
      w : Moment K V
      w = worked (entry (event.EndMap name) outcome.Done steps effects) m

      keep : MapThere → Bool
      keep f = not (is_same f.name name)

      all : Leaves w w.maps
      all = leaves_all w h

      fewer : (P : MapThere → Type 0) → AllByRecursion P w.maps → AllByRecursion P (filter keep w.maps)
      fewer P each = all_so (λ f. P f × (keep f ≡ true)) P (λ f its. its.0) (filter keep w.maps) (all_kept P keep w.maps each)

      same_maps : w.maps ≡ m.maps
      same_maps = ends_leave_maps (number_of name m) effects m goes.life.may

      same_calls : w.calls ≡ m.calls
      same_calls = calls_stay (number_of name m) effects m

      uncalled : is_called (number_of name m) m ≡ false
      uncalled = ends_uncalled terms log (entry (event.EndMap name) outcome.Done steps effects) name goes.right

      back_way : (c : UnderWay K V) → list_any (λ (d : UnderWay K V). c.map == d.map) m.calls ≡ true → list_any (λ (d : UnderWay K V). d.map == c.map) m.calls ≡ true
      back_way c any = any_so (λ (d : UnderWay K V). c.map == d.map) (λ (d : UnderWay K V). d.map == c.map) (λ d. Unit {0}) (λ d e nothing. eq-eqb d.map c.map (sym (number_is c.map d.map e))) m.calls any
          (each_is (λ (d : UnderWay K V). Unit {0}) (λ d. tt) m.calls)
        where
          number_is : (a b : ℕ) → (a == b) ≡ true → a ≡ b
          number_is a b e = grind (arith, e)
  leaves_on its came steps effects goes before h = leaves_all (worked (entry its came steps effects) m) h

  module _ (e : Entry K V) (goes : GoesInOrder terms log e) (h : AllIsInOrder m) (ready : ReadyOweNone m) where
    abbrev b : Moment K V
    b = begun e.event e.outcome m

    abbrev w : Moment K V
    w = worked e m

    abbrev v : Moment K V
    v = after e m

    then_worked : AllIsInOrder w
    then_worked =
        life_keeps_order K V terms (caller_of e.event) (acted_on e.event b) (gives_all e.event) (moments_of terms log (acting (caller_of e.event) b)) e.effects b
        (both_at (Finds terms (caller_of e.event) (acted_on e.event b) (gives_all e.event) (moments_of terms log (acting (caller_of e.event) b))) (StoresOne (caller_of e.event)) (caller_of e.event) (acted_on e.event b) e.effects b
        goes.life.finds goes.stores) (acts e.event b) (all_begun terms log e e.event e.outcome goes.right h)

    ends : EndsWhole e m
    ends = record { named = h.named; found = h.waits.found; may = goes.life.may; whole = goes.life.whole }

    owes : EndedHasNoObligation (ended_by e.event e.outcome) w.calls
    owes = ended_owes_none e.event e.outcome w then_worked.waits.placed.apart goes.life.leaves (stopped_owes_none terms log e.event e.outcome e.steps e.effects goes ready h.waits.placed.apart)

    left : Leaves w v.maps
    left = leaves_on e.event e.outcome e.steps e.effects goes h then_worked

    -- as it were with these maps
    abbrev mapped : Moment K V
    mapped = record w { maps = v.maps }

    then_after : AllIsInOrder v
    then_after = record {
      waits = record {
        placed = events_keep_placed K V e m then_worked.waits.placed owes;
        tables = events_keep_tables K V e m then_worked.waits.tables (events_keep_roots K V e m ends) owes;
        found = All-from_recursion (λ (f : MapThere). map_at f.number v ≡ Some f) v.maps left.found;
      };
      named = events_keep_named K V e m h.named (makes_new terms log e e.event e.outcome goes.right);
      somewhere = events_keep_somewhere K V e m ends then_worked.waits.placed then_worked.somewhere;
      within = record {
        tables = then_worked.within.tables;
        apart = then_worked.within.apart;
        roots = left.roots;
        made = left.made;
        spots = then_worked.within.spots;
        maps = then_worked.within.maps;
        calls = all_so (HasItsMap mapped) (HasItsMap v) (λ c its. record { there = its.there; table = its.table; owes = its.owes }) v.calls
            (over_have mapped e.event e.outcome e.steps w.calls
            (all_so (λ (c : UnderWay K V). HasItsMap w c × (list_any (λ (f : MapThere). f.number == c.map) v.maps ≡ true)) (HasItsMap mapped)
            (λ c its. record { there = its.1; table = its.0.table; owes = its.0.owes }) w.calls
            (all_both (HasItsMap w) (λ (c : UnderWay K V). list_any (λ (f : MapThere). f.number == c.map) v.maps ≡ true) w.calls then_worked.within.calls left.calls)));
        behind = then_worked.within.behind;
      };
    }

pub events_keep_order : (K V : Type 0) → EventsPreserveOrder K V
events_keep_order K V terms log e goes h =
    (then_after terms log e goes h.0 h.1, after_ready terms log e.event e.outcome e.steps e.effects goes h.1 (then_worked terms log e goes h.0 h.1).waits.placed.apart)
