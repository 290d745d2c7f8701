-- A walk that is ready owes nothing: it comes to that with nothing left, and stays so until it is told to go on, or to stop.
use Rattle.std.specs.Prelude.{◌≡◌, ℕ, ◌+◌, Bool, true, false, not, List, [], ◌∷◌, map, Option, Some, None, MatchBool, ◌⊎◌, if◌then◌else◌}
use Rattle.std.specs.List.{AllByRecursion, list_all}
use Rattle.std.proofs.Common.{refl, ap, sym, subst, ◌∙◌, inl, inr}
use Rattle.run_executor.specs.Given.SeizeWordsDeclared.fault.Fault.TheVariants.{Busy}
use Rattle.run_executor.specs.Given.RunsSame.{is_same}
use Rattle.run_executor.specs.Given.RunsDeclared.call.Reply.{Reply}
use Rattle.run_executor.specs.Given.RunsDeclared.effect.Effect.{Effect}
use Rattle.run_executor.specs.Given.RunsDeclared.event.Event.{Event}
use Rattle.run_executor.specs.Given.RunsDeclared.event.Event.TheVariants as event
use Rattle.run_executor.specs.Given.RunsDeclared.outcome.Outcome.{Outcome}
use Rattle.run_executor.specs.Given.RunsDeclared.outcome.Outcome.TheVariants as outcome
use Rattle.run_executor.specs.Given.SchedulesAfter.{moment, moments_from, asks_on, with_outcome, replied, without_call, stepped, calls_on}
use Rattle.run_executor.specs.Given.SchedulesBeginning.{with_call, begun}
use Rattle.run_executor.specs.Given.SchedulesComing.{Progresses, is_ready, shows_now}
use Rattle.run_executor.specs.Given.SchedulesEffects.{call_by, calls_by, with_effect, with_effects, worked}
use Rattle.run_executor.specs.Given.SchedulesEntry.{Entry, is_busy, nameless, ByCall, IfCall, ends_call, caller_of, acting, acted_on}
use Rattle.run_executor.specs.Given.SchedulesHanding.{IsWhole, LeavesOf, is_clear_outcome}
use Rattle.run_executor.specs.Given.SchedulesMoment.{CallState, Going, Asking, Told, IsReady, UnderWay, Moment}
use Rattle.run_executor.specs.Given.SchedulesTerms.{Terms}
use Rattle.run_executor.specs.Given.SchedulesViews.{call_of, number_of}
use Rattle.run_executor.proofs.Given.FollowsCalls.{changed_same, changed}
use Rattle.run_finds.specs.Waiting.{AreApart}
use Rattle.run_finds.specs.Within.{ReadyHasNoObligation, ReadyOweNone, StoppedHasNoObligation, GoesInOrder}
use Rattle.run_finds.proofs.Begun.{was_done, in_turn, not_kept_out}
use Rattle.run_finds.proofs.Endings.{entry}
use Rattle.run_finds.proofs.Grown.{found_of, only_one}
use Rattle.run_finds.proofs.Lists.{all_so, all_both}
use Rattle.run_finds.proofs.Over.{calls_stay, none_of_name, if_clear}
use Rattle.run_finds.proofs.Tables.{all_under, all_kept}

is_ready_is : (s : CallState) → is_ready s ≡ true → s ≡ IsReady
is_ready_is IsReady e = refl
is_ready_is Going e = absurd (cc e)
is_ready_is (Asking q) e = absurd (cc e)
is_ready_is Told e = absurd (cc e)

module _ {K V : Type 0} where
  -- calls of others change nothing by an effect
  abbrev IsOther : Option (List ℕ) → UnderWay K V → Type 0
  IsOther caller d = (own : List ℕ) → caller ≡ Some own → is_same d.caller own ≡ false

  abbrev Others : Option (List ℕ) → List (UnderWay K V) → Type 0
  Others caller calls = AllByRecursion (λ d. IsOther caller d → ReadyHasNoObligation d) calls

  one_leaves : (caller : Option (List ℕ)) (m : Moment K V) (f : Effect) → Others caller m.calls → Others caller (calls_by caller (call_by m f) m.calls)
  one_leaves None m f all = all
  one_leaves (Some who) m f all =
      all_under (changed (call_by m f) (changed_same m f) who) (λ d. IsOther (Some who) d → ReadyHasNoObligation d) (λ d. IsOther (Some who) d → ReadyHasNoObligation d) (λ d its. by d its (is_same d.caller who) refl) m.calls all
    where
      Goal : UnderWay K V → Bool → Type 0
      Goal d q = IsOther (Some who) (if q then call_by m f d else d) → ReadyHasNoObligation (if q then call_by m f d else d)

      by : (d : UnderWay K V) → (IsOther (Some who) d → ReadyHasNoObligation d) → (q : Bool) → is_same d.caller who ≡ q → Goal d (is_same d.caller who)
      by d its true is = subst (Goal d) (sym is) (λ other. absurd (
          let no : is_same d.caller who ≡ false = sym (ap (λ (l : List ℕ). is_same l who) (changed_same m f d).0) ∙ other who refl in cc (is, no)
          ))
      by d its false is = subst (Goal d) (sym is) its

  others_stay : (caller : Option (List ℕ)) (acted : Option ℕ) (effects : List Effect) (m : Moment K V) → Others caller m.calls → Others caller (with_effects caller acted effects m).calls
  others_stay caller acted [] m all = all
  others_stay caller acted (f ∷ effects) m all = others_stay caller acted effects (with_effect caller acted f m) (one_leaves caller m f all)

  -- whoever is not the one that acts is an other
  all_ready : (caller : Option (List ℕ)) (calls : List (UnderWay K V)) → Others caller calls → ((own : List ℕ) → caller ≡ Some own → AllByRecursion (λ d. is_same d.caller own ≡ true → ReadyHasNoObligation d) calls)
      → AllByRecursion ReadyHasNoObligation calls
  all_ready None calls all its = all_so (λ d. IsOther None d → ReadyHasNoObligation d) ReadyHasNoObligation (λ d so. so (λ own e. absurd (cc e))) calls all
  all_ready (Some who) calls all its =
      all_so (λ d. (IsOther (Some who) d → ReadyHasNoObligation d) × (is_same d.caller who ≡ true → ReadyHasNoObligation d)) ReadyHasNoObligation (λ d two. by d two (is_same d.caller who) refl) calls
      (all_both (λ d. IsOther (Some who) d → ReadyHasNoObligation d) (λ d. is_same d.caller who ≡ true → ReadyHasNoObligation d) calls all (its who refl))
    where
      by : (d : UnderWay K V) → (IsOther (Some who) d → ReadyHasNoObligation d) × (is_same d.caller who ≡ true → ReadyHasNoObligation d) → (q : Bool) → is_same d.caller who ≡ q → ReadyHasNoObligation d
      by d two true is = two.1 is
      by d two false is = two.0 (λ own e. (let one : who ≡ own = cc e in subst (λ (l : List ℕ). is_same d.caller l ≡ false) one is))

  -- once the event is over

  asks_ready : (question : Option ℕ) (c : UnderWay K V) (stands : CallState) → ReadyHasNoObligation c → ReadyHasNoObligation (asks_on question c stands)
  asks_ready question c (Asking q) its e = its e
  asks_ready question c Going its e = absurd (cc e)
  asks_ready question c Told its e = absurd (cc e)
  asks_ready question c IsReady its e = absurd (cc e)

  comes_ready : (came : Outcome V) (c : UnderWay K V) → (came ≡ outcome.Ready → c.owes ≡ []) → ReadyHasNoObligation c → ReadyHasNoObligation (with_outcome came c)
  comes_ready outcome.Goes c clear its e = absurd (cc e)
  comes_ready outcome.Waits c clear its e = absurd (cc e)
  comes_ready (outcome.Asks question) c clear its e = asks_ready question c c.stands its e
  comes_ready outcome.Ready c clear its e = clear refl
  comes_ready (outcome.Shows k) c clear its e = its e
  comes_ready _ c clear its e = its e

  told_ready : (reply : Reply V) (c : UnderWay K V) (stands : CallState) → ReadyHasNoObligation c → ReadyHasNoObligation (replied reply c stands)
  told_ready reply c (Asking q) its e = absurd (cc e)
  told_ready reply c Going its e = its e
  told_ready reply c Told its e = its e
  told_ready reply c IsReady its e = its e

  fewer_ready : (own : List ℕ) (calls : List (UnderWay K V)) → AllByRecursion ReadyHasNoObligation calls → AllByRecursion ReadyHasNoObligation (without_call own calls)
  fewer_ready own calls all =
      all_so (λ c. ReadyHasNoObligation c × (not (is_same c.caller own) ≡ true)) ReadyHasNoObligation (λ c its. its.0) (without_call own calls) (all_kept ReadyHasNoObligation (λ c. not (is_same c.caller own)) calls all)

  changed_ready : (own : List ℕ) (change : UnderWay K V → UnderWay K V) (calls : List (UnderWay K V)) → AllByRecursion (λ c. is_same c.caller own ≡ true → ReadyHasNoObligation (change c)) calls → AllByRecursion ReadyHasNoObligation calls
      → AllByRecursion ReadyHasNoObligation (map (λ c. if is_same c.caller own then change c else c) calls)
  changed_ready own change calls new all =
      all_under (λ (c : UnderWay K V). if is_same c.caller own then change c else c) (λ c. (is_same c.caller own ≡ true → ReadyHasNoObligation (change c)) × ReadyHasNoObligation c) ReadyHasNoObligation
      (λ c its. by c its (is_same c.caller own) refl) calls (all_both (λ c. is_same c.caller own ≡ true → ReadyHasNoObligation (change c)) ReadyHasNoObligation calls new all)
    where
      by : (c : UnderWay K V) → (is_same c.caller own ≡ true → ReadyHasNoObligation (change c)) × ReadyHasNoObligation c → (q : Bool) → is_same c.caller own ≡ q → ReadyHasNoObligation (if is_same c.caller own then change c else c)
      by c its true is = subst (λ (q : Bool). ReadyHasNoObligation (if q then change c else c)) (sym is) (its.0 is)
      by c its false is = subst (λ (q : Bool). ReadyHasNoObligation (if q then change c else c)) (sym is) its.1

  stepped_ready : (caller : Option (List ℕ)) (came : Outcome V) (steps : ℕ) (calls : List (UnderWay K V))
      → ((own : List ℕ) → caller ≡ Some own → came ≡ outcome.Ready → AllByRecursion (λ c. is_same c.caller own ≡ true → c.owes ≡ []) calls) → AllByRecursion ReadyHasNoObligation calls
      → AllByRecursion ReadyHasNoObligation (stepped caller came steps calls)
  stepped_ready None came steps calls clear all = all
  stepped_ready (Some own) came steps calls clear all = by (ends_call came)
    where
      by : (q : Bool) → AllByRecursion ReadyHasNoObligation (if q then without_call own calls else map (λ c. if is_same c.caller own then with_outcome came (record c { steps = c.steps + steps }) else c) calls)
      by true = fewer_ready own calls all
      by false = changed_ready own (λ c. with_outcome came (record c { steps = c.steps + steps })) calls (each came refl) all
        where
          each : (o : Outcome V) → came ≡ o → AllByRecursion (λ c. is_same c.caller own ≡ true → ReadyHasNoObligation (with_outcome came (record c { steps = c.steps + steps }))) calls
          each outcome.Ready is =
              all_so (λ c. (is_same c.caller own ≡ true → c.owes ≡ []) × ReadyHasNoObligation c) (λ c. is_same c.caller own ≡ true → ReadyHasNoObligation (with_outcome came (record c { steps = c.steps + steps })))
              (λ c its same. comes_ready came (record c { steps = c.steps + steps }) (λ e. its.0 same) its.1) calls
              (all_both (λ c. is_same c.caller own ≡ true → c.owes ≡ []) ReadyHasNoObligation calls (clear own refl is) all)
          each o is =
              all_so ReadyHasNoObligation (λ c. is_same c.caller own ≡ true → ReadyHasNoObligation (with_outcome came (record c { steps = c.steps + steps })))
              (λ c its same. comes_ready came (record c { steps = c.steps + steps }) (λ e. absurd (let two : o ≡ outcome.Ready = sym is ∙ e in cc two)) its) calls all

  pub over_ready : (its : Event K V) (came : Outcome V) (steps : ℕ) (calls : List (UnderWay K V))
      → ((own : List ℕ) → caller_of its ≡ Some own → came ≡ outcome.Ready → AllByRecursion (λ c. is_same c.caller own ≡ true → c.owes ≡ []) calls) → AllByRecursion ReadyHasNoObligation calls
      → AllByRecursion ReadyHasNoObligation (calls_on its came steps calls)
  over_ready (event.Replied caller reply) outcome.Goes steps calls clear all =
      changed_ready caller (λ c. replied reply c c.stands) calls (all_so ReadyHasNoObligation (λ c. is_same c.caller caller ≡ true → ReadyHasNoObligation (replied reply c c.stands)) (λ c its same. told_ready reply c c.stands its) calls all) all
  over_ready (event.Stop caller) outcome.Done steps calls clear all = fewer_ready caller calls all
  over_ready its came steps calls clear all = stepped_ready (caller_of its) came steps calls clear all

-- an event none of whose effects may be has none
none_may : (effects : List Effect) → list_all (λ f. false) effects ≡ true → effects ≡ []
none_may [] e = refl
none_may (f ∷ effects) e = absurd (cc e)

-- one that is out of turn is busy, and one in turn as is right for it
pub busy_or : {V : Type 0} (q t : Bool) (came : Outcome V) (A G : Type 0) → MatchBool q (came ≡ outcome.Refused Busy) (MatchBool t G (came ≡ outcome.Refused Busy)) → (came ≡ outcome.Refused Busy → A) → A ⊎ G
busy_or true t came A G busy so = inl (so busy)
busy_or false true came A G its so = inr its
busy_or false false came A G busy so = inl (so busy)

module _ {K V : Type 0} (terms : Terms) (log : List (Entry K V)) where
  abbrev m : Moment K V
  m = moment log

  abbrev at_end : Event K V → Outcome V → ℕ → List Effect → Moment K V
  at_end its came steps effects = worked (entry its came steps effects) m

  begun_ready : (its : Event K V) (came : Outcome V) → ReadyOweNone m → ReadyOweNone (begun its came m)
  begun_ready (event.Begin caller guard name call) outcome.Goes ready = by (number_of name m)
    where
      by : (o : Option ℕ) → ReadyOweNone (with_call caller guard call o m)
      by None = ready
      by (Some number) = ((λ e. absurd (cc e)), ready)
  begun_ready (event.OneCall guard name call) came ready = by (is_busy came) (number_of name m)
    where
      by : (q : Bool) (o : Option ℕ) → ReadyOweNone (if q then m else with_call nameless guard call o m)
      by true o = ready
      by false None = ready
      by false (Some number) = ((λ e. absurd (cc e)), ready)
  begun_ready (event.MakeMap name mode capacity) outcome.Done ready = ready
  begun_ready _ _ ready = ready

  -- an event of a call has done nothing, or its call goes on as is right
  pub goes_or_not : (its : Event K V) (came : Outcome V) (steps : ℕ) (effects : List Effect) → GoesInOrder terms log (entry its came steps effects) → (own : List ℕ) → caller_of its ≡ Some own
      → (effects ≡ []) ⊎ ByCall (λ (c : UnderWay K V). Progresses terms c.stands c (moments_from c.begun log) (at_end its came steps effects) came) (acting (caller_of its) (at_end its came steps effects))
  goes_or_not (event.Step caller refuse) came steps effects goes own is =
      busy_or _ _ came (effects ≡ []) _ goes.right (λ busy. subst (λ (o : Outcome V). IsWhole (event.Step caller refuse) o effects m (at_end (event.Step caller refuse) came steps effects)) busy goes.life.whole)
  goes_or_not (event.Go caller refuse) came steps effects goes own is =
      busy_or _ _ came (effects ≡ []) _ goes.right (λ busy. subst (λ (o : Outcome V). IsWhole (event.Go caller refuse) o effects m (at_end (event.Go caller refuse) came steps effects)) busy goes.life.whole)
  goes_or_not (event.OneCall guard name call) came steps effects goes own is =
      busy_or _ _ came (effects ≡ []) _ goes.right (λ busy. subst (λ (o : Outcome V). IsWhole (event.OneCall guard name call) o effects m (at_end (event.OneCall guard name call) came steps effects)) busy goes.life.whole)
  goes_or_not (event.Next caller) came steps effects goes own is = inl (none_may effects goes.life.may)
  goes_or_not _ came steps effects goes own is = absurd (cc is)

  module _ (its : Event K V) (came : Outcome V) (steps : ℕ) (effects : List Effect) (goes : GoesInOrder terms log (entry its came steps effects)) (ready : ReadyOweNone m)
      (apart : AreApart (at_end its came steps effects).calls) where
    abbrev w : Moment K V
    w = at_end its came steps effects

    abbrev b : Moment K V
    b = begun its came m

    leaves_own : (own : List ℕ) → caller_of its ≡ Some own → IfCall (LeavesOf (is_clear_outcome came) came) (call_of own w)
    leaves_own own is = subst (λ (o : Option (List ℕ)). IfCall (LeavesOf (is_clear_outcome came) came) (acting o w)) is goes.life.leaves

    ready_clear : (own : List ℕ) → caller_of its ≡ Some own → came ≡ outcome.Ready → AllByRecursion (λ c. is_same c.caller own ≡ true → c.owes ≡ []) w.calls
    ready_clear own is comes = none_of_name own w.calls apart (if_clear came (call_of own w) (ap is_clear_outcome comes) (leaves_own own is))

    its_ready : (own : List ℕ) → caller_of its ≡ Some own → AllByRecursion (λ d. is_same d.caller own ≡ true → ReadyHasNoObligation d) w.calls
    its_ready own is = by (goes_or_not its came steps effects goes own is)
      where
        Goal : Type 0
        Goal = AllByRecursion (λ d. is_same d.caller own ≡ true → ReadyHasNoObligation d) w.calls

        progresses : (o : Option (UnderWay K V)) → call_of own w ≡ o → ByCall (λ (c : UnderWay K V). Progresses terms c.stands c (moments_from c.begun log) w came) o
            → AllByRecursion (λ d. is_same d.caller own ≡ true → ReadyHasNoObligation d) w.calls
        progresses None found none = absurd none
        progresses (Some c) found on =
            all_both_so own is c found (only_one own w.calls c apart found)
          where
            comes_to_ready : c.stands ≡ IsReady → came ≡ outcome.Ready
            comes_to_ready stands = subst (λ (s : CallState). Progresses terms s c (moments_from c.begun log) w came) stands on

            all_both_so : (who : List ℕ) → caller_of its ≡ Some who → (d : UnderWay K V) → call_of own w ≡ Some d → AllByRecursion (λ x. is_same x.caller own ≡ true → x ≡ c) w.calls
                → AllByRecursion (λ x. is_same x.caller own ≡ true → ReadyHasNoObligation x) w.calls
            all_both_so who who_is d d_is only =
                all_so (λ x. is_same x.caller own ≡ true → x ≡ c) (λ x. is_same x.caller own ≡ true → ReadyHasNoObligation x)
                (λ x one same e. (let it = one same in let stands : c.stands ≡ IsReady = ap (λ (y : UnderWay K V). y.stands) (sym it) ∙ is_ready_is x.stands e in
                let clear = subst (IfCall (λ (y : UnderWay K V). y.owes ≡ [])) found (if_clear came (call_of own w) (ap is_clear_outcome (comes_to_ready stands)) (leaves_own own is)) in
                ap (λ (y : UnderWay K V). y.owes) it ∙ clear)) w.calls only

        by : (effects ≡ []) ⊎ ByCall (λ (c : UnderWay K V). Progresses terms c.stands c (moments_from c.begun log) w came) (acting (caller_of its) w)
            → AllByRecursion (λ d. is_same d.caller own ≡ true → ReadyHasNoObligation d) w.calls
        by (inl none) =
            all_so ReadyHasNoObligation (λ d. is_same d.caller own ≡ true → ReadyHasNoObligation d) (λ d all same. all) w.calls
            (subst (λ (fs : List Effect). ReadyOweNone (with_effects (caller_of its) (acted_on its b) fs b)) (sym none) (begun_ready its came ready))
        by (inr on) =
            progresses (call_of own w) refl (subst (λ (o : Option (List ℕ)). ByCall (λ (c : UnderWay K V). Progresses terms c.stands c (moments_from c.begun log) w came) (acting o w)) is on)

    worked_ready : ReadyOweNone w
    worked_ready =
        all_ready (caller_of its) w.calls
        (others_stay (caller_of its) (acted_on its b) effects b (all_so ReadyHasNoObligation (λ d. IsOther (caller_of its) d → ReadyHasNoObligation d) (λ d all other. all) b.calls (begun_ready its came ready))) its_ready

    pub after_ready : AllByRecursion ReadyHasNoObligation (calls_on its came steps w.calls)
    after_ready = over_ready its came steps w.calls ready_clear worked_ready

  -- a walk that is stopped was ready
  pub stopped_owes_none : (its : Event K V) (came : Outcome V) (steps : ℕ) (effects : List Effect) → GoesInOrder terms log (entry its came steps effects) → ReadyOweNone m → AreApart m.calls
      → StoppedHasNoObligation its came (at_end its came steps effects).calls
  stopped_owes_none (event.Stop caller) outcome.Done steps effects goes ready apart =
      subst (λ (cs : List (UnderWay K V)). AllByRecursion (λ c. is_same c.caller caller ≡ true → c.owes ≡ []) cs) (sym (calls_stay None effects m))
      (none_of_name caller m.calls apart (by (call_of caller m) refl turn))
    where
      turn : shows_now (call_of caller m) ≡ true
      turn = in_turn terms log (entry (event.Stop caller) outcome.Done steps effects) (shows_now (call_of caller m)) (was_done V ≡ outcome.Done) (was_done V)
          (not_kept_out terms log (entry (event.Stop caller) outcome.Done steps effects) m.is_closed (was_done V ≡ outcome.Refused Busy) _ (was_done V) (λ out. out) goes.right refl) refl

      by : (o : Option (UnderWay K V)) → call_of caller m ≡ o → shows_now o ≡ true → IfCall (λ (c : UnderWay K V). c.owes ≡ []) o
      by None is shows = tt
      by (Some c) is shows = (found_of (λ (d : UnderWay K V). is_same d.caller caller) ReadyHasNoObligation m.calls c ready is).1 shows
  stopped_owes_none _ _ steps effects goes ready apart = tt
