-- Between events no call has a pair to replace, and a walk that is ready has nothing to count.
use Rattle.std.specs.Prelude.{◌≡◌, ℕ, ◌+◌, Bool, true, false, not, ◌⊎◌, List, [], ◌∷◌, find, map, Option, Some, None, if◌then◌else◌}
use Rattle.std.specs.List.{AllByRecursion, list_any}
use Rattle.std.proofs.Common.{refl, ap, sym, subst, ◌∙◌, inl, inr}
use Rattle.run_finds.specs.Given.RunsSame.{is_same}
use Rattle.run_finds.specs.Given.RunsDeclared.call.Reply.{Reply}
use Rattle.run_finds.specs.Given.RunsDeclared.effect.Effect.{Effect}
use Rattle.run_finds.specs.Given.RunsDeclared.event.Event.{Event}
use Rattle.run_finds.specs.Given.RunsDeclared.event.Event.TheVariants as event
use Rattle.run_finds.specs.Given.RunsDeclared.outcome.Outcome.{Outcome}
use Rattle.run_finds.specs.Given.RunsDeclared.outcome.Outcome.TheVariants as outcome
use Rattle.run_finds.specs.Given.SchedulesAfter.{asks_on, calls_on, with_outcome, moment, moments_from, replied, stepped, without_call}
use Rattle.run_finds.specs.Given.SchedulesBeginning.{begun, with_call}
use Rattle.run_finds.specs.Given.SchedulesComing.{Progresses, is_ready}
use Rattle.run_finds.specs.Given.SchedulesEffects.{call_by, with_effect, with_effects, worked}
use Rattle.run_finds.specs.Given.SchedulesEntry.{ByCall, Entry, IfCall, acting, caller_of, ends_call, is_busy, nameless}
use Rattle.run_finds.specs.Given.SchedulesHanding.{LeavesOf, is_clear_outcome}
use Rattle.run_finds.specs.Given.SchedulesMoment.{CallState, Going, Asking, Told, IsReady, UnderWay, Moment}
use Rattle.run_finds.specs.Given.SchedulesTerms.{Terms}
use Rattle.run_finds.specs.Given.SchedulesViews.{call_of, number_of}
use Rattle.run_finds.proofs.Given.FollowsCalls.{changed_same}
use Rattle.run_finds.specs.Waiting.{AreApart}
use Rattle.run_finds.specs.Within.{GoesInOrder}
use Rattle.run_finds.proofs.Endings.{entry}
use Rattle.run_finds.proofs.Grown.{any_found, only_one}
use Rattle.run_finds.proofs.Lists.{all_both, all_so, none_of_them}
use Rattle.run_finds.proofs.Ready.{goes_or_not}
use Rattle.run_finds.proofs.Tables.{all_kept, all_under}
use Rattle.run_sweeps.proofs.Sizes.Balance.{IsWorth}

module _ {K V : Type 0} where
  abbrev pub ReadyCountsNone : UnderWay K V → Type 0
  ReadyCountsNone c = is_ready c.stands ≡ true → c.gained + c.lost ≡ 0

  pub record IsSettled (c : UnderWay K V) : Type 0 where
    pub replacing : c.replacing ≡ None
    pub ready : ReadyCountsNone c

  -- all calls by those of one caller, and the others

  abbrev pub Its : (UnderWay K V → Type 0) → List ℕ → List (UnderWay K V) → Type 0
  Its P own calls = AllByRecursion (λ c. is_same c.caller own ≡ true → P c) calls

  abbrev pub Others : (UnderWay K V → Type 0) → List ℕ → List (UnderWay K V) → Type 0
  Others P own calls = AllByRecursion (λ c. is_same c.caller own ≡ false → P c) calls

  module _ (P : UnderWay K V → Type 0) (own : List ℕ) where
    pub all_of_both : (calls : List (UnderWay K V)) → Its P own calls → Others P own calls → AllByRecursion P calls
    all_of_both calls its others =
        all_so (λ c. (is_same c.caller own ≡ true → P c) × (is_same c.caller own ≡ false → P c)) P (λ c two. by c two (is_same c.caller own) refl) calls
        (all_both (λ c. is_same c.caller own ≡ true → P c) (λ c. is_same c.caller own ≡ false → P c) calls its others)
      where
        by : (c : UnderWay K V) → (is_same c.caller own ≡ true → P c) × (is_same c.caller own ≡ false → P c) → (q : Bool) → is_same c.caller own ≡ q → P c
        by c two true is = two.0 is
        by c two false is = two.1 is

    -- the one that is found is the only one of its caller
    pub named : (calls : List (UnderWay K V)) → AreApart calls → IfCall P (find (λ c. is_same c.caller own) calls) → Its P own calls
    named calls apart its = by (find (λ c. is_same c.caller own) calls) refl its
      where
        none : (q : Bool) → list_any (λ c. is_same c.caller own) calls ≡ q → find (λ c. is_same c.caller own) calls ≡ None → Its P own calls
        none true any is = absurd (let some = any_found (λ c. is_same c.caller own) calls any in let two : None ≡ Some some.0 = sym is ∙ some.1 in cc two)
        none false no_one is =
            all_so (λ c. is_same c.caller own ≡ false) (λ c. is_same c.caller own ≡ true → P c) (λ c other same. absurd (cc (sym other ∙ same))) calls (none_of_them (λ c. is_same c.caller own) calls no_one)

        by : (o : Option (UnderWay K V)) → find (λ c. is_same c.caller own) calls ≡ o → IfCall P o → Its P own calls
        by None is nothing = none (list_any (λ c. is_same c.caller own) calls) refl is
        by (Some c) is holds =
            all_so (λ d. is_same d.caller own ≡ true → d ≡ c) (λ d. is_same d.caller own ≡ true → P d) (λ d one same. subst P (sym (one same)) holds) calls (only_one own calls c apart is)

    -- effects of a caller leave the calls of others
    others_stay : (m : Moment K V) (f : Effect) → Others P own m.calls → Others P own (map (λ c. if is_same c.caller own then call_by m f c else c) m.calls)
    others_stay m f all =
        all_under (λ (c : UnderWay K V). if is_same c.caller own then call_by m f c else c) (λ c. is_same c.caller own ≡ false → P c) (λ c. is_same c.caller own ≡ false → P c) (λ c its. by c its (is_same c.caller own) refl) m.calls all
      where
        Goal : UnderWay K V → Bool → Type 0
        Goal c q = is_same (if q then call_by m f c else c).caller own ≡ false → P (if q then call_by m f c else c)

        by : (c : UnderWay K V) → (is_same c.caller own ≡ false → P c) → (q : Bool) → is_same c.caller own ≡ q → Goal c (is_same c.caller own)
        by c its true is = subst (Goal c) (sym is) (λ other. absurd (cc (sym (ap (λ (l : List ℕ). is_same l own) (changed_same m f c).0 ∙ is) ∙ other)))
        by c its false is = subst (Goal c) (sym is) its

    pub others_stay_all : (acted : Option ℕ) (effects : List Effect) (m : Moment K V) → Others P own m.calls → Others P own (with_effects (Some own) acted effects m).calls
    others_stay_all acted [] m all = all
    others_stay_all acted (f ∷ effects) m all = others_stay_all acted effects (with_effect (Some own) acted f m) (others_stay m f all)

  -- what an event's outcome, or a reply, leaves of a call's account

  asks_worth : (question : Option ℕ) (c : UnderWay K V) (stands : CallState) → IsWorth (asks_on question c stands) c.map c.gained c.lost c.replacing
  asks_worth question c (Asking q) = record { map = refl; gained = refl; lost = refl; replacing = refl }
  asks_worth question c _ = record { map = refl; gained = refl; lost = refl; replacing = refl }

  pub comes_worth : (came : Outcome V) (c : UnderWay K V) → IsWorth (with_outcome came c) c.map c.gained c.lost c.replacing
  comes_worth (outcome.Asks question) c = asks_worth question c c.stands
  comes_worth outcome.Goes c = record { map = refl; gained = refl; lost = refl; replacing = refl }
  comes_worth outcome.Waits c = record { map = refl; gained = refl; lost = refl; replacing = refl }
  comes_worth outcome.Ready c = record { map = refl; gained = refl; lost = refl; replacing = refl }
  comes_worth (outcome.Shows n) c = record { map = refl; gained = refl; lost = refl; replacing = refl }
  comes_worth _ c = record { map = refl; gained = refl; lost = refl; replacing = refl }

  pub told_worth : (reply : Reply V) (c : UnderWay K V) (stands : CallState) → IsWorth (replied reply c stands) c.map c.gained c.lost c.replacing
  told_worth reply c (Asking q) = record { map = refl; gained = refl; lost = refl; replacing = refl }
  told_worth reply c _ = record { map = refl; gained = refl; lost = refl; replacing = refl }

  -- calls are settled once an event is over, if all were, and one that has come to be ready has nothing to count

  asks_ready : (question : Option ℕ) (c : UnderWay K V) (stands : CallState) → ReadyCountsNone c → ReadyCountsNone (asks_on question c stands)
  asks_ready question c (Asking q) its = its
  asks_ready question c _ its = λ e. absurd (cc e)

  comes_ready : (came : Outcome V) (c : UnderWay K V) → (came ≡ outcome.Ready → c.gained + c.lost ≡ 0) → ReadyCountsNone c → ReadyCountsNone (with_outcome came c)
  comes_ready (outcome.Asks question) c clear its = asks_ready question c c.stands its
  comes_ready outcome.Ready c clear its = λ e. clear refl
  comes_ready outcome.Goes c clear its = λ e. absurd (cc e)
  comes_ready outcome.Waits c clear its = λ e. absurd (cc e)
  comes_ready (outcome.Shows n) c clear its = its
  comes_ready _ c clear its = its

  told_ready : (reply : Reply V) (c : UnderWay K V) (stands : CallState) → ReadyCountsNone c → ReadyCountsNone (replied reply c stands)
  told_ready reply c (Asking q) its = λ e. absurd (cc e)
  told_ready reply c _ its = its

  abbrev pub CountsNone : UnderWay K V → Type 0
  CountsNone c = c.gained + c.lost ≡ 0

  fewer_settled : (own : List ℕ) (calls : List (UnderWay K V)) → AllByRecursion IsSettled calls → AllByRecursion IsSettled (without_call own calls)
  fewer_settled own calls all =
      all_so (λ c. IsSettled c × (not (is_same c.caller own) ≡ true)) IsSettled (λ c its. its.0) (without_call own calls) (all_kept IsSettled (λ c. not (is_same c.caller own)) calls all)

  changed_settled : (own : List ℕ) (change : UnderWay K V → UnderWay K V) (calls : List (UnderWay K V)) → Its (λ c. IsSettled (change c)) own calls → AllByRecursion IsSettled calls
      → AllByRecursion IsSettled (map (λ c. if is_same c.caller own then change c else c) calls)
  changed_settled own change calls new all =
      all_under (λ (c : UnderWay K V). if is_same c.caller own then change c else c) (λ c. (is_same c.caller own ≡ true → IsSettled (change c)) × IsSettled c) IsSettled (λ c its. by c its (is_same c.caller own) refl) calls
      (all_both (λ c. is_same c.caller own ≡ true → IsSettled (change c)) IsSettled calls new all)
    where
      by : (c : UnderWay K V) → (is_same c.caller own ≡ true → IsSettled (change c)) × IsSettled c → (q : Bool) → is_same c.caller own ≡ q → IsSettled (if is_same c.caller own then change c else c)
      by c its true is = subst (λ (q : Bool). IsSettled (if q then change c else c)) (sym is) (its.0 is)
      by c its false is = subst (λ (q : Bool). IsSettled (if q then change c else c)) (sym is) its.1

  -- those of the event's caller have nothing to count where they come to be ready
  abbrev pub ClearIfReady : Option (List ℕ) → Outcome V → List (UnderWay K V) → Type 0
  ClearIfReady caller came calls = (own : List ℕ) → caller ≡ Some own → came ≡ outcome.Ready → Its CountsNone own calls

  stepped_settled : (caller : Option (List ℕ)) (came : Outcome V) (steps : ℕ) (calls : List (UnderWay K V)) → ClearIfReady caller came calls → AllByRecursion IsSettled calls
      → AllByRecursion IsSettled (stepped caller came steps calls)
  stepped_settled None came steps calls clear all = all
  stepped_settled (Some own) came steps calls clear all = by (ends_call came)
    where
      change : UnderWay K V → UnderWay K V
      change c = with_outcome came (record c { steps = c.steps + steps })

      settled : (c : UnderWay K V) → (came ≡ outcome.Ready → c.gained + c.lost ≡ 0) → IsSettled c → IsSettled (change c)
      settled c none its =
          let d = record c { steps = c.steps + steps } in record { replacing = (comes_worth came d).replacing ∙ its.replacing; ready = comes_ready came d none its.ready }

      ready : (o : Outcome V) → came ≡ o → Its (λ c. came ≡ outcome.Ready → c.gained + c.lost ≡ 0) own calls
      ready outcome.Ready is = all_so (λ c. is_same c.caller own ≡ true → CountsNone c) (λ c. is_same c.caller own ≡ true → came ≡ outcome.Ready → CountsNone c) (λ c its same e. its same) calls (clear own refl is)
      ready o is = all_so IsSettled (λ c. is_same c.caller own ≡ true → came ≡ outcome.Ready → CountsNone c) (λ c its same e. absurd (let two : o ≡ outcome.Ready = sym is ∙ e in cc two)) calls all

      by : (q : Bool) → AllByRecursion IsSettled (if q then without_call own calls else map (λ c. if is_same c.caller own then with_outcome came (record c { steps = c.steps + steps }) else c) calls)
      by true = fewer_settled own calls all
      by false = changed_settled own change calls
          (all_so (λ c. (is_same c.caller own ≡ true → came ≡ outcome.Ready → CountsNone c) × IsSettled c) (λ c. is_same c.caller own ≡ true → IsSettled (change c)) (λ c two same. settled c (two.0 same) two.1) calls
          (all_both (λ c. is_same c.caller own ≡ true → came ≡ outcome.Ready → CountsNone c) IsSettled calls (ready came refl) all)) all

  pub over_settled : (its : Event K V) (came : Outcome V) (steps : ℕ) (calls : List (UnderWay K V)) → ClearIfReady (caller_of its) came calls → AllByRecursion IsSettled calls
      → AllByRecursion IsSettled (calls_on its came steps calls)
  over_settled (event.Replied caller reply) outcome.Goes steps calls clear all =
      changed_settled caller (λ c. replied reply c c.stands) calls
      (all_so IsSettled (λ c. is_same c.caller caller ≡ true → IsSettled (replied reply c c.stands))
      (λ c its same. record { replacing = (told_worth reply c c.stands).replacing ∙ its.replacing; ready = told_ready reply c c.stands its.ready }) calls all) all
  over_settled (event.Stop caller) outcome.Done steps calls clear all = fewer_settled caller calls all
  over_settled its came steps calls clear all = stepped_settled (caller_of its) came steps calls clear all

module _ {K V : Type 0} (terms : Terms) (log : List (Entry K V)) where
  abbrev m : Moment K V
  m = moment log

  -- a call that begins has nothing to count
  pub begun_settled : (its : Event K V) (came : Outcome V) → AllByRecursion IsSettled m.calls → AllByRecursion IsSettled (begun its came m).calls
  begun_settled (event.Begin caller guard name call) outcome.Goes all = by (number_of name m)
    where
      by : (o : Option ℕ) → AllByRecursion IsSettled (with_call caller guard call o m).calls
      by None = all
      by (Some number) = (record { replacing = refl; ready = λ e. absurd (cc e) }, all)
  begun_settled (event.OneCall guard name call) came all = by (is_busy came) (number_of name m)
    where
      by : (q : Bool) (o : Option ℕ) → AllByRecursion IsSettled (if q then m else with_call nameless guard call o m).calls
      by true o = all
      by false None = all
      by false (Some number) = (record { replacing = refl; ready = λ e. absurd (cc e) }, all)
  begun_settled (event.MakeMap name mode capacity) outcome.Done all = all
  begun_settled _ _ all = all

  abbrev at_end : Event K V → Outcome V → ℕ → List Effect → Moment K V
  at_end its came steps effects = worked (entry its came steps effects) m

  module _ (steps : ℕ) (effects : List Effect) (came : Outcome V) where
    abbrev Goes : Event K V → Type 0
    Goes its = ByCall (λ (c : UnderWay K V). Progresses terms c.stands c (moments_from c.begun log) (at_end its came steps effects) came) (acting (caller_of its) (at_end its came steps effects))

    module _ (its : Event K V) (goes : GoesInOrder terms log (entry its came steps effects)) (apart : AreApart (at_end its came steps effects).calls) where
      abbrev w : Moment K V
      w = at_end its came steps effects

      clear_of : (o : Option (UnderWay K V)) → is_clear_outcome came ≡ true → IfCall (LeavesOf (is_clear_outcome came) came) o → IfCall CountsNone o
      clear_of None clear leaves = tt
      clear_of (Some c) clear leaves = (subst (λ (q : Bool). LeavesOf q came c) clear leaves).0.counted

      -- a call that ends with the event, or comes to be ready, has nothing to count
      pub its_clear : (own : List ℕ) → caller_of its ≡ Some own → is_clear_outcome came ≡ true → Its CountsNone own w.calls
      its_clear own is clear =
          named CountsNone own w.calls apart (clear_of (call_of own w) clear (subst (λ (o : Option (List ℕ)). IfCall (LeavesOf (is_clear_outcome came) came) (acting o w)) is goes.life.leaves))

      pub clear_if_ready : ClearIfReady (caller_of its) came w.calls
      clear_if_ready own is ready = its_clear own is (ap is_clear_outcome ready)

      -- and so has one that was ready
      pub its_ready : AllByRecursion IsSettled (begun its came m).calls → (own : List ℕ) → caller_of its ≡ Some own → Its ReadyCountsNone own w.calls
      its_ready settled own is = by (goes_or_not terms log its came steps effects goes own is)
        where
          by : (effects ≡ []) ⊎ Goes its → Its ReadyCountsNone own w.calls
          by (inl none) =
              all_so IsSettled (λ c. is_same c.caller own ≡ true → ReadyCountsNone c) (λ c all same. all.ready) w.calls
              (subst (λ (fs : List Effect). AllByRecursion IsSettled (at_end its came steps fs).calls) (sym none) settled)
          by (inr on) = named ReadyCountsNone own w.calls apart (of (call_of own w) refl (subst (λ (o : Option (List ℕ)). ByCall (λ (c : UnderWay K V). Progresses terms c.stands c (moments_from c.begun log) w came) (acting o w)) is on))
            where
              stands_ready : (s : CallState) (c : UnderWay K V) → is_ready s ≡ true → Progresses terms s c (moments_from c.begun log) w came → came ≡ outcome.Ready
              stands_ready IsReady c e its_way = its_way
              stands_ready Going c e its_way = absurd (cc e)
              stands_ready (Asking q) c e its_way = absurd (cc e)
              stands_ready Told c e its_way = absurd (cc e)

              of : (o : Option (UnderWay K V)) → call_of own w ≡ o → ByCall (λ (c : UnderWay K V). Progresses terms c.stands c (moments_from c.begun log) w came) o → IfCall ReadyCountsNone o
              of None found its_way = tt
              of (Some c) found its_way =
                  λ e. (let ready = stands_ready c.stands c e its_way in
                  subst (IfCall CountsNone) found (clear_of (call_of own w) (ap is_clear_outcome ready) (subst (λ (o : Option (List ℕ)). IfCall (LeavesOf (is_clear_outcome came) came) (acting o w)) is goes.life.leaves)))
