-- What an event's outcome leaves: what is said of each map, and what is there, as a call that ends has counted all; and a map that ends is none of those that are left.
use Rattle.std.specs.Prelude.{◌≡◌, ℕ, ◌+◌, ◌==◌, Bool, true, false, not, ◌⊎◌, is_some, List, [], filter, map, sum_by, Option, Some, None, option_map, if◌then◌else◌}
use Rattle.std.specs.List.{AllByRecursion, list_all}
use Rattle.std.proofs.Common.{refl, ap, sym, subst, ◌∙◌, arith, inl, inr}
use Rattle.std.proofs.lemmas.Bool.{and_parts}
use Rattle.std.proofs.lemmas.List.Elements.{recursion_from_All}
use Rattle.run_finds.specs.Given.SeizeWordsDeclared.fault.Fault.TheVariants.{Busy}
use Rattle.run_finds.specs.Given.RunsSame.{is_same}
use Rattle.run_finds.specs.Given.RunsDeclared.effect.Effect.{Effect}
use Rattle.run_finds.specs.Given.RunsDeclared.effect.Effect.TheVariants as effect
use Rattle.run_finds.specs.Given.RunsDeclared.event.Event.{Event}
use Rattle.run_finds.specs.Given.RunsDeclared.event.Event.TheVariants as event
use Rattle.run_finds.specs.Given.RunsDeclared.outcome.Outcome.{Outcome}
use Rattle.run_finds.specs.Given.RunsDeclared.outcome.Outcome.TheVariants as outcome
use Rattle.run_finds.specs.Given.SchedulesAfter.{after, calls_on, with_outcome, maps_on, moment, replied, stepped, without_call}
use Rattle.run_finds.specs.Given.SchedulesBeginning.{begun}
use Rattle.run_finds.specs.Given.SchedulesEffects.{worked}
use Rattle.run_finds.specs.Given.SchedulesEntry.{Entry, IfCall, acted_on, caller_of, ends_call}
use Rattle.run_finds.specs.Given.SchedulesComing.{shows_now}
use Rattle.run_finds.specs.Given.SchedulesHanding.{IsWhole, is_clear_outcome, is_only, is_reclaiming, may_do}
use Rattle.run_finds.specs.Given.SchedulesMoment.{MapThere, UnderWay, Moment}
use Rattle.run_finds.specs.Given.SchedulesTerms.{Terms}
use Rattle.run_finds.specs.Given.SchedulesViews.{call_of, map_at, map_of, number_of}
use Rattle.run_finds.specs.Events.{ended_by}
use Rattle.run_finds.specs.Waiting.{AreApart, once_if}
use Rattle.run_finds.specs.Within.{AllIsInOrder, GoesInOrder}
use Rattle.run_finds.proofs.Begun.{in_turn, not_kept_out, was_done}
use Rattle.run_finds.proofs.Endings.{ends_leave_maps, entry}
use Rattle.run_finds.proofs.Grown.{found_of}
use Rattle.run_finds.proofs.Lists.{all_both, all_so, each_is, passes_each}
use Rattle.run_finds.proofs.Over.{calls_stay}
use Rattle.run_finds.proofs.Tables.{all_kept}
use Rattle.run_sweeps.proofs.Sizes.Balance.{IsWorth, Moves, minus_is, minus_of, moves_none, none_either, plus_is, plus_of, there}
use Rattle.run_finds.proofs.Ready.{busy_or}
use Rattle.run_sweeps.proofs.Sizes.Settled.{CountsNone, IsSettled, Its, comes_worth, its_clear, named, told_worth}
use Rattle.run_sweeps.proofs.Sizes.Sums.{all_weigh, gone_weigh}

-- the effect ends no pair of this map
abbrev pub SparesIt : ℕ → Option ℕ → Effect → Type 0
SparesIt k acted f = (n : ℕ) → f ≡ effect.Ended n → acted ≡ Some k → ⊥

-- calls

module _ {K V : Type 0} where
  -- one that has nothing to count, or to replace, weighs nothing
  none_plus : (k : ℕ) (c : UnderWay K V) → CountsNone c → plus_of k c ≡ 0
  none_plus k c none = none_either (k == c.map) c.gained (omega (arith, none))

  none_minus : (k : ℕ) (c : UnderWay K V) → CountsNone c → c.replacing ≡ None → minus_of k c ≡ 0
  none_minus k c none first =
      let nothing : once_if (is_some c.replacing) ≡ 0 = ap (λ (o : Option ℕ). once_if (is_some o)) first in
      none_either (k == c.map) (c.lost + once_if (is_some c.replacing)) (omega (arith, none, nothing))

  abbrev pub Ends : Option (List ℕ) → List (UnderWay K V) → Type 0
  Ends None calls = Unit {0}
  Ends (Some own) calls = Its CountsNone own calls

  module _ (k : ℕ) (calls : List (UnderWay K V)) (settled : AllByRecursion IsSettled calls) where
    abbrev SameSums : List (UnderWay K V) → Type 0
    SameSums then_calls = (sum_by (plus_of k) then_calls ≡ sum_by (plus_of k) calls) × (sum_by (minus_of k) then_calls ≡ sum_by (minus_of k) calls)

    changed_sums : (own : List ℕ) (change : UnderWay K V → UnderWay K V) → ((c : UnderWay K V) → IsWorth (change c) c.map c.gained c.lost c.replacing) → SameSums (map (λ c. if is_same c.caller own then change c else c) calls)
    changed_sums own change worth = (
      all_weigh (plus_of k) own change (λ c. plus_is k (change c) c.map c.gained c.lost c.replacing (worth c)) calls,
      all_weigh (minus_of k) own change (λ c. minus_is k (change c) c.map c.gained c.lost c.replacing (worth c)) calls,
    )

    gone_sums : (own : List ℕ) → Its CountsNone own calls → SameSums (without_call own calls)
    gone_sums own none = (
      gone_weigh (plus_of k) own calls (all_so (λ c. is_same c.caller own ≡ true → CountsNone c) (λ c. is_same c.caller own ≡ true → plus_of k c ≡ 0) (λ c its same. none_plus k c (its same)) calls none),
      gone_weigh (minus_of k) own calls
          (all_so (λ c. (is_same c.caller own ≡ true → CountsNone c) × IsSettled c) (λ c. is_same c.caller own ≡ true → minus_of k c ≡ 0) (λ c two same. none_minus k c (two.0 same) two.1.replacing) calls
          (all_both (λ c. is_same c.caller own ≡ true → CountsNone c) IsSettled calls none settled)),
    )

    stepped_sums : (caller : Option (List ℕ)) (came : Outcome V) (steps : ℕ) → Ends (if ends_call came then caller else None) calls → SameSums (stepped caller came steps calls)
    stepped_sums None came steps ends = (refl, refl)
    stepped_sums (Some own) came steps ends = by (ends_call came) ends
      where
        by : (q : Bool) → Ends (if q then Some own else None) calls
            → SameSums (if q then without_call own calls else map (λ c. if is_same c.caller own then with_outcome came (record c { steps = c.steps + steps }) else c) calls)
        by true none = gone_sums own none
        by false none =
            changed_sums own (λ c. with_outcome came (record c { steps = c.steps + steps }))
            (λ c. (let worth = comes_worth came (record c { steps = c.steps + steps }) in record { map = worth.map; gained = worth.gained; lost = worth.lost; replacing = worth.replacing }))

    pub over_sums : (its : Event K V) (came : Outcome V) (steps : ℕ) → Ends (ended_by its came) calls → SameSums (calls_on its came steps calls)
    over_sums (event.Replied caller reply) outcome.Goes steps ends = changed_sums caller (λ c. replied reply c c.stands) (λ c. told_worth reply c c.stands)
    over_sums (event.Stop caller) outcome.Done steps ends = gone_sums caller ends
    over_sums its came steps ends = stepped_sums (caller_of its) came steps ends

  -- so an event's end moves nothing
  pub over_moves : (shards k : ℕ) (e : Entry K V) (m : Moment K V) → AllByRecursion IsSettled (worked e m).calls → Ends (ended_by e.event e.outcome) (worked e m).calls → Moves shards k (worked e m) (after e m)
  over_moves shards k e m settled ends =
      let sums = over_sums k (worked e m).calls settled e.event e.outcome e.steps ends in
      let plus = sums.0 in
      let minus = sums.1 in
      moves_none shards k (worked e m) (after e m) (omega (arith, plus)) (omega (arith, minus))

module _ {K V : Type 0} (terms : Terms) (log : List (Entry K V)) where
  abbrev m : Moment K V
  m = moment log

  abbrev at_end : Event K V → Outcome V → ℕ → List Effect → Moment K V
  at_end its came steps effects = worked (entry its came steps effects) m

  clear_at_end : (came : Outcome V) → ends_call came ≡ true → is_clear_outcome came ≡ true
  clear_at_end outcome.Ready ends = refl
  clear_at_end came ends = ends

  -- a call that the event ends has counted all
  pub ended_clear : (its : Event K V) (came : Outcome V) (steps : ℕ) (effects : List Effect) → GoesInOrder terms log (entry its came steps effects) → AreApart (at_end its came steps effects).calls
      → AllByRecursion IsSettled m.calls → AreApart m.calls → Ends (ended_by its came) (at_end its came steps effects).calls
  ended_clear (event.Stop caller) outcome.Done steps effects goes apart settled before =
      subst (λ (cs : List (UnderWay K V)). Its CountsNone caller cs) (sym (calls_stay None effects m)) (named CountsNone caller m.calls before (one (call_of caller m) refl turn))
    where
      turn : shows_now (call_of caller m) ≡ true
      turn = in_turn terms log (entry (event.Stop caller) outcome.Done steps effects) (shows_now (call_of caller m)) (was_done V ≡ outcome.Done) (was_done V)
          (not_kept_out terms log (entry (event.Stop caller) outcome.Done steps effects) m.is_closed (was_done V ≡ outcome.Refused Busy) _ (was_done V) (λ out. out) goes.right refl) refl

      one : (o : Option (UnderWay K V)) → call_of caller m ≡ o → shows_now o ≡ true → IfCall CountsNone o
      one None found shows = tt
      one (Some c) found shows = (found_of (λ (d : UnderWay K V). is_same d.caller caller) IsSettled m.calls c settled found).1.ready shows
  ended_clear its came steps effects goes apart settled before = of (ends_call came) refl (caller_of its) refl
    where
      of : (q : Bool) → ends_call came ≡ q → (caller : Option (List ℕ)) → caller_of its ≡ caller → Ends (if q then caller else None) (at_end its came steps effects).calls
      of true ends None is = tt
      of true ends (Some own) is = its_clear terms log steps effects came its goes apart own is (clear_at_end came ends)
      of false ends caller is = tt

  -- maps

  -- the event ends no map
  abbrev ends_none : Event K V → Bool
  ends_none (event.EndMap name) = false
  ends_none _ = true

  never_ends : (its : Event K V) → ends_none its ≡ true → (n : ℕ) → may_do its m (effect.Ended n) ≡ true → ⊥
  never_ends (event.EndMap name) e n may = cc e
  never_ends (event.Refresh guard) e n may = cc (and_parts (is_only guard m) (is_reclaiming (effect.Ended n)) may).1
  never_ends (event.DropGuard guard) e n may = cc (and_parts (is_only guard m) (is_reclaiming (effect.Ended n)) may).1
  never_ends _ e n may = cc may

  others_spare : (k : ℕ) (acted : Option ℕ) (its : Event K V) → ends_none its ≡ true → (effects : List Effect) → list_all (may_do its m) effects ≡ true → AllByRecursion (SparesIt k acted) effects
  others_spare k acted its e effects may =
      all_so (λ f. may_do its m f ≡ true) (SparesIt k acted) (λ f may_it n is at. never_ends its e n (sym (ap (may_do its m) is) ∙ may_it)) effects (passes_each (may_do its m) effects may)

  calls_end_none : (its : Event K V) (own : List ℕ) → caller_of its ≡ Some own → ends_none its ≡ true
  calls_end_none (event.EndMap name) own is = absurd (cc is)
  calls_end_none _ own is = refl

  pub calls_spare : (k : ℕ) (acted : Option ℕ) (its : Event K V) (own : List ℕ) → caller_of its ≡ Some own → (effects : List Effect) → list_all (may_do its m) effects ≡ true → AllByRecursion (SparesIt k acted) effects
  calls_spare k acted its own is effects may = others_spare k acted its (calls_end_none its own is) effects may

  -- a map that is left as another one ends has another number
  left_spare : (name : List ℕ) → AllIsInOrder m → (f : MapThere) → map_at f.number m ≡ Some f → not (is_same f.name name) ≡ true → (g : Effect) → SparesIt f.number (number_of name m) g
  left_spare name h f found kept g n is at = by (map_of name m) refl at
    where
      by : (o : Option MapThere) → map_of name m ≡ o → option_map (λ (x : MapThere). x.number) o ≡ Some f.number → ⊥
      by None there number = cc number
      by (Some x) there number =
          let its = found_of (λ (y : MapThere). is_same y.name name) (λ (y : MapThere). map_at y.number m ≡ Some y) m.maps x (recursion_from_All (λ (y : MapThere). map_at y.number m ≡ Some y) m.maps h.waits.found) there in
          let same : x.number ≡ f.number = cc number in
          let one : x ≡ f = (let two : Some x ≡ Some f = sym its.1 ∙ ap (λ (k : ℕ). map_at k m) same ∙ found in cc two) in
          let no : not (is_same f.name name) ≡ false = ap (λ (y : MapThere). not (is_same y.name name)) (sym one) ∙ ap not its.0 in
          cc (sym no ∙ kept)

  -- so of each map that is there once an event is over its effects end no pair
  pub all_spared : (its : Event K V) (came : Outcome V) (steps : ℕ) (effects : List Effect) → GoesInOrder terms log (entry its came steps effects) → AllIsInOrder m
      → AllByRecursion (λ (f : MapThere). AllByRecursion (SparesIt f.number (acted_on its (begun its came m))) effects) (maps_on its came (at_end its came steps effects).maps)
  all_spared (event.EndMap name) came steps effects goes h =
      by (busy_or _ _ came (effects ≡ []) (came ≡ outcome.Done) goes.right (λ busy. subst (λ (o : Outcome V). IsWhole (event.EndMap name) o effects m (at_end (event.EndMap name) came steps effects)) busy goes.life.whole))
    where
      Spared : List Effect → MapThere → Type 0
      Spared fs f = AllByRecursion (SparesIt f.number (number_of name m)) fs

      by : (effects ≡ []) ⊎ (came ≡ outcome.Done) → AllByRecursion (Spared effects) (maps_on {K = K} (event.EndMap name) came (at_end (event.EndMap name) came steps effects).maps)
      by (inl none) = each_is (Spared effects) (λ f. subst (λ (fs : List Effect). Spared fs f) (sym none) tt) (maps_on {K = K} (event.EndMap name) came (at_end (event.EndMap name) came steps effects).maps)
      by (inr done) =
          subst (λ (o : Outcome V). AllByRecursion (Spared effects) (maps_on {K = K} (event.EndMap name) o (at_end (event.EndMap name) came steps effects).maps)) (sym done)
          (subst (λ (fs : List MapThere). AllByRecursion (Spared effects) (filter (λ f. not (is_same f.name name)) fs)) (sym (ends_leave_maps (number_of name m) effects m goes.life.may))
          (all_so (λ f. (map_at f.number m ≡ Some f) × (not (is_same f.name name) ≡ true)) (Spared effects) (λ f its. each_is (SparesIt f.number (number_of name m)) (left_spare name h f its.0 its.1) effects)
          (filter (λ f. not (is_same f.name name)) m.maps)
          (all_kept (λ f. map_at f.number m ≡ Some f) (λ f. not (is_same f.name name)) m.maps (recursion_from_All (λ (y : MapThere). map_at y.number m ≡ Some y) m.maps h.waits.found))))
  all_spared its came steps effects goes h =
      each_is (λ (f : MapThere). AllByRecursion (SparesIt f.number (acted_on its (begun its came m))) effects) (λ f. others_spare f.number (acted_on its (begun its came m)) its refl effects goes.life.may)
      (maps_on its came (at_end its came steps effects).maps)
