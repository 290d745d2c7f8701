-- All is in order still where an event begins a call, or makes a map; and what is right for an event says of the names that it takes.
use Rattle.std.specs.Prelude.{◌≡◌, ℕ, ◌+◌, ◌<◌, ◌≤◌, ◌==◌, Bool, true, false, cond, not, ◌&&◌, List, [], ◌∷◌, ◌++◌, find, Option, Some, None, option_map, is_some, is_none, MatchBool, MatchOption, if◌then◌else◌}
use Rattle.std.specs.List.{AllByRecursion, list_any}
use Rattle.std.proofs.Common.{refl, ap, sym, subst, ◌∙◌, arith}
use Rattle.std.proofs.lemmas.Bool.{and_parts, or_left, eq-eqb, ne_eqb}
use Rattle.std.proofs.lemmas.List.Elements.{recursion_from_All, All-from_recursion}
use Rattle.std.proofs.lemmas.List.Folds.{list_any-append}
use Rattle.run_executor.specs.Given.SeizeWordsDeclared.fault.Fault.{Fault}
use Rattle.run_executor.specs.Given.SeizeWordsDeclared.fault.Fault.TheVariants.{Busy}
use Rattle.run_executor.specs.Given.RunsRuns.{map_fault}
use Rattle.run_executor.specs.Given.RunsSame.{is_same}
use Rattle.run_executor.specs.Given.RunsDeclared.call.Call.{Call}
use Rattle.run_executor.specs.Given.RunsDeclared.event.Event.{Event}
use Rattle.run_executor.specs.Given.RunsDeclared.event.Event.TheVariants.{MakeMap, EndMap, Begin, OneCall}
use Rattle.run_executor.specs.Given.RunsDeclared.outcome.Outcome.{Outcome}
use Rattle.run_executor.specs.Given.RunsDeclared.outcome.Outcome.TheVariants.{Done, Goes, Refused}
use Rattle.run_executor.specs.Given.SchedulesAfter.{moment}
use Rattle.run_executor.specs.Given.SchedulesBeginning.{with_call, with_map, begun}
use Rattle.run_executor.specs.Given.SchedulesEntry.{Entry, is_busy, nameless}
use Rattle.run_executor.specs.Given.SchedulesInTurn.{IsKeptOut, is_called, HasOutcome}
use Rattle.run_executor.specs.Given.SchedulesMoment.{UnderWay, MapThere, Moment}
use Rattle.run_executor.specs.Given.SchedulesTerms.{Terms}
use Rattle.run_executor.specs.Given.SchedulesViews.{call_of, map_of, number_of, map_at}
use Rattle.run_executor.proofs.Given.FollowsCalling.{is_same_refl, is_same_is}
use Rattle.run_executor.proofs.Given.ScenesNoCall.{none_is}
use Rattle.run_finds.specs.Endings.{MakesNew}
use Rattle.run_finds.specs.Within.{many_of, HasItsMap, AllIsInOrder}
use Rattle.run_finds.proofs.Endings.{name_of, number_at, same_number, more_found}
use Rattle.run_finds.proofs.Events.{beginnings_keep_placed, beginnings_keep_tables}
use Rattle.run_finds.proofs.Lists.{any_so, all_so}
use Rattle.run_finds.proofs.Tables.{all_append}
use Rattle.run_finds.proofs.Grown.{found_any, any_found}

-- what passes none is found by none
pub none_found : {X : Type 0} (test : X → Bool) (xs : List X) → AllByRecursion (λ x. test x ≡ false) xs → find test xs ≡ None
none_found test [] none = refl
none_found test (x ∷ xs) none = ap (λ (q : Bool). cond q (Some x) (find test xs)) none.0 ∙ none_found test xs none.1

pub finds_none : {X : Type 0} (test : X → Bool) (xs : List X) → is_none (find test xs) ≡ true → list_any test xs ≡ false
finds_none test xs none = by (list_any test xs) refl
  where
    by : (q : Bool) → list_any test xs ≡ q → list_any test xs ≡ false
    by true any = absurd (let some = any_found test xs any in let is : is_none (find test xs) ≡ false = ap is_none some.1 in cc (none, is))
    by false none_there = none_there

module _ {K V : Type 0} (m : Moment K V) (h : AllIsInOrder m) where
  -- a call begins, on a map that is there by its name, by a name that no call has
  begins : (own guard : List ℕ) (call : Call K V) (name : List ℕ) → is_none (call_of own m) ≡ true → AllIsInOrder (with_call own guard call (number_of name m) m)
  begins own guard call name none = by (map_of name m) refl
    where
      Goal : Option MapThere → Type 0
      Goal o = AllIsInOrder (with_call own guard call (option_map (λ (f : MapThere). f.number) o) m)

      by : (o : Option MapThere) → map_of name m ≡ o → Goal (map_of name m)
      by None is = subst Goal (sym is) h
      by (Some f) is = subst Goal (sym is) (record {
        waits = record {
          placed = (beginnings_keep_placed K V m h.waits.placed).0 own guard call f.number (finds_none (λ (d : UnderWay K V). is_same d.caller own) m.calls none);
          tables = (beginnings_keep_tables K V m h.waits.tables).0 own guard call f.number;
          found = h.waits.found;
        };
        named = h.named;
        somewhere = record { born = h.somewhere.born; there = h.somewhere.there };
        within = record {
          tables = h.within.tables;
          apart = h.within.apart;
          roots = h.within.roots;
          made = h.within.made;
          spots = h.within.spots;
          maps = h.within.maps;
          calls = (
            record { there = its_map; table = λ t e. absurd (cc e); owes = λ n k e. absurd (omega (arith, e)) },
            all_so (HasItsMap m) (HasItsMap (with_call own guard call (Some f.number) m)) (λ c its. record { there = its.there; table = its.table; owes = its.owes }) m.calls h.within.calls,
          );
          behind = h.within.behind;
        };
      })
        where
          its_map : list_any (λ (g : MapThere). g.number == f.number) m.maps ≡ true
          its_map =
              any_so (λ (g : MapThere). is_same g.name name) (λ (g : MapThere). g.number == f.number) (λ (g : MapThere). map_of g.name m ≡ Some g)
              (λ g same found. (
              let here : map_of name m ≡ Some g = subst (λ (l : List ℕ). map_of l m ≡ Some g) (is_same_is g.name name same) found in
              let one : g ≡ f = (let two : Some g ≡ Some f = sym here ∙ is in cc two) in
              eq-eqb g.number f.number (ap (λ (x : MapThere). x.number) one)
              )) m.maps (found_any (λ (g : MapThere). is_same g.name name) m.maps f is) h.named

  -- a map is made, by the next number and a name that none has
  makes : (f : MapThere) → f.number ≡ m.made → f.first ≡ 0 → map_of f.name m ≡ None → AllIsInOrder (with_map f m)
  makes f number first new = record {
    waits = record {
      placed = (beginnings_keep_placed K V m h.waits.placed).1 f;
      tables = (beginnings_keep_tables K V m h.waits.tables).1 f;
      found = All-from_recursion (λ (g : MapThere). map_at g.number (with_map f m) ≡ Some g) (m.maps ++ f ∷ [])
          (more_found number_at same_number m.maps f (eq-eqb f.number f.number refl) (none_found (λ (g : MapThere). g.number == f.number) m.maps (all_so (λ (g : MapThere). g.number < m.made) (λ (g : MapThere). (g.number == f.number) ≡ false)
          (λ g l. ne_eqb g.number f.number (λ e. omega (arith, l, e, number))) m.maps h.within.made)) (recursion_from_All (λ (g : MapThere). map_at g.number m ≡ Some g) m.maps h.waits.found));
    };
    named = more_found name_of is_same m.maps f (is_same_refl f.name) new h.named;
    somewhere = record { born = h.somewhere.born; there = λ n map l is. more map (h.somewhere.there n map l is) };
    within = record {
      tables = h.within.tables;
      apart = h.within.apart;
      roots = all_append (λ (g : MapThere). g.first ≤ many_of g.number m) m.maps f h.within.roots (omega (arith, first));
      made = all_append (λ (g : MapThere). g.number < m.made + 1) m.maps f
          (all_so (λ (g : MapThere). g.number < m.made) (λ (g : MapThere). g.number < m.made + 1) (λ g l. omega (arith, l)) m.maps h.within.made) (omega (arith, number));
      spots = h.within.spots;
      maps = h.within.maps;
      calls = all_so (HasItsMap m) (HasItsMap (with_map f m)) (λ c its. record { there = more c.map its.there; table = its.table; owes = its.owes }) m.calls h.within.calls;
      behind = h.within.behind;
    };
  }
    where
      more : (map : ℕ) → list_any (λ (g : MapThere). g.number == map) m.maps ≡ true → list_any (λ (g : MapThere). g.number == map) (m.maps ++ f ∷ []) ≡ true
      more map e = list_any-append (λ (g : MapThere). g.number == map) m.maps (f ∷ [])
          ∙ or_left (list_any (λ (g : MapThere). g.number == map) m.maps) (list_any (λ (g : MapThere). g.number == map) (f ∷ [])) e

-- what was made had no fault
abbrev pub was_done : (V : Type 0) → Outcome V
was_done V = Done

of_fault : (V : Type 0) (o : Option Fault) (A : Type 0) → MatchOption o A (λ fault. was_done V ≡ Refused fault) → A
of_fault V None A its = its
of_fault V (Some fault) A its = absurd (cc its)

module _ {K V : Type 0} (terms : Terms) (log : List (Entry K V)) (e : Entry K V) where
  abbrev m : Moment K V
  m = moment log

  abbrev Right : Event K V → Outcome V → Type 0
  Right event outcome = MatchBool m.is_closed (IsKeptOut event outcome) (HasOutcome terms log m e event outcome)

  -- an event in turn has what it needs
  pub in_turn : (turn : Bool) (Wanted : Type 0) (outcome : Outcome V) → MatchBool turn Wanted (outcome ≡ Refused Busy) → is_busy outcome ≡ false → turn ≡ true
  in_turn true Wanted outcome right calm = refl
  in_turn false Wanted outcome right calm = absurd (let busy : is_busy outcome ≡ true = ap is_busy right in cc (busy, calm))

  -- one that is not kept out, since it is not busy
  pub not_kept_out : (q : Bool) (Out In : Type 0) (outcome : Outcome V) → (Out → outcome ≡ Refused Busy) → MatchBool q Out In → is_busy outcome ≡ false → In
  not_kept_out true Out In outcome so right calm = absurd (let busy : is_busy outcome ≡ true = ap is_busy (so right) in cc (busy, calm))
  not_kept_out false Out In outcome so right calm = right

  pub makes_new : (event : Event K V) (outcome : Outcome V) → Right event outcome → MakesNew event outcome m
  makes_new (MakeMap name mode capacity) Done right = by m.is_closed right
    where
      by : (q : Bool) → MatchBool q (IsKeptOut {K = K} (MakeMap name mode capacity) (was_done V)) (HasOutcome terms log m e (MakeMap name mode capacity) (was_done V)) → map_of name m ≡ None
      by true out = absurd (let busy = of_fault V (map_fault mode capacity) (was_done V ≡ Refused Busy) out in cc busy)
      by false its = none_is (map_of name m) (in_turn (is_none (map_of name m)) _ Done (of_fault V (map_fault mode capacity) _ its) refl)
  makes_new _ _ right = tt

  -- no call is on a map that ends
  pub ends_uncalled : (name : List ℕ) → Right (EndMap name) Done → is_called (number_of name m) m ≡ false
  ends_uncalled name right = by (is_called (number_of name m) m) refl
    where
      turn : (is_some (map_of name m) && not (is_called (number_of name m) m)) ≡ true
      turn = in_turn _ _ Done (not_kept_out m.is_closed _ _ Done (λ out. out) right refl) refl

      by : (q : Bool) → is_called (number_of name m) m ≡ q → is_called (number_of name m) m ≡ false
      by true is = absurd (let two = (and_parts (is_some (map_of name m)) (not (is_called (number_of name m) m)) turn).1 in let no_more : not (is_called (number_of name m) m) ≡ false = ap not is in cc (two, no_more))
      by false is = is

  pub all_begun : (event : Event K V) (outcome : Outcome V) → Right event outcome → AllIsInOrder m → AllIsInOrder (begun event outcome m)
  all_begun (MakeMap name mode capacity) Done right h = makes m h _ refl refl (makes_new (MakeMap name mode capacity) Done right)
  all_begun (Begin caller guard name call) Goes right h =
      begins m h caller guard call name (and_parts (is_none (call_of caller m)) _ (and_parts _ _ (in_turn _ _ Goes (not_kept_out m.is_closed _ _ Goes (λ out. out) right refl) refl)).0).0
  all_begun (OneCall guard name call) outcome right h = by (is_busy outcome) refl
    where
      by : (q : Bool) → is_busy outcome ≡ q → AllIsInOrder (if q then m else with_call nameless guard call (number_of name m) m)
      by true busy = h
      by false calm =
          begins m h nameless guard call name (and_parts (is_none (call_of nameless m)) _ (and_parts _ _ (in_turn _ _ outcome (not_kept_out m.is_closed _ _ outcome (λ out. out) right calm) calm)).0).0
  all_begun _ _ right h = h
