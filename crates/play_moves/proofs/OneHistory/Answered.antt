-- What a seat knows of a call that has ended is so in the history.
use Rattle.std.specs.Prelude.{◌≢◌, ◌==◌, ◌⊎◌, ◌++◌, ◌<◌, ◌^◌, Option, Some, None, if◌then◌else◌}
use Rattle.std.specs.List.{AllByRecursion}
use Rattle.std.proofs.Common.{◌≡◌, ℕ, Bool, true, false, List, [], ◌∷◌, inl, inr, refl, sym, subst, ap, ◌∙◌}
use Rattle.std.proofs.lemmas.Bool.{cases_eq, eq-eqb, ne_eqb}
use Rattle.threads_rule.specs.Given.SeizeSeatsState.{State, view_of}
use Rattle.threads_rule.specs.Given.SeizeViewsDeclared.view.Fixed.{Fixed}
use Rattle.run_legal.specs.Given.TablesDeclared.node.Node.{Node}
use Rattle.run_schedules.specs.Given.RawDeclared.machines.answer.KeyAnswer.{KeyAnswer}
use Rattle.run_schedules.specs.Given.RawDeclared.machines.answer.KeyAnswer.TheVariants as says
use Rattle.run_schedules.specs.Given.RawDeclared.machines.progress.Answer.TheVariants.{Key}
use Rattle.run_schedules.specs.Given.RawDeclared.machines.progress.Progress.{Progress}
use Rattle.run_schedules.specs.Given.RawDeclared.machines.progress.Progress.TheVariants.{Done}
use Rattle.threads_rule.specs.Views.Begun.{machine_for}
use Rattle.threads_rule.specs.Views.Listed.{Called, calls_of, calls_then, has_progressed, plain, seat_of, seen_of}
use Rattle.threads_rule.specs.Views.Told.{untold}
use Rattle.threads_rule.specs.Views.Rule.{MapsWorld, IsRun, AreRuns, Holds, caller_at, runs_of}
use Rattle.threads_rule.specs.declared.view.Map.{Map}
use Rattle.threads_rule.specs.declared.view.BegunCall.{BegunCall}
use Rattle.threads_rule.specs.declared.view.View.{View}
use Rattle.threads_rule.proofs.Views.Listed.{its_seat}
use Rattle.threads_rule.proofs.Views.Numbers.{its_caller}
use Rattle.run_legal.specs.Given.ScenesScene.{slot_of}
use Rattle.run_schedules.specs.declared.call.Response.{Response}
use Rattle.run_schedules.specs.declared.call.Response.TheVariants as answers
use Rattle.run_schedules.specs.declared.call.Call.TheVariants.{On}
use Rattle.run_schedules.specs.declared.call.OneKey.{OneKey}
use Rattle.run_schedules.specs.declared.call.OneKey.TheVariants as one_key
use Rattle.run_schedules.specs.declared.call.Reply.{Reply}
use Rattle.run_schedules.specs.declared.outcome.Outcome.{Outcome}
use Rattle.run_schedules.specs.declared.outcome.Outcome.TheVariants.{Answered}
use Rattle.threads_rule.specs.Given.ActsActs.{Answer as Told, Get, Wanted, OfCall, BeginsCall, StepsCall}
use Rattle.play_linear.specs.Given.ActsDoings.{Doing, Does}
use Rattle.play_linear.specs.Given.ActsLists.{nothing_done}
use Rattle.run_schedules.specs.Given.SeizeWordsMem.{Mem}
use Rattle.run_schedules.specs.Deeds.Deeds.{Entry}
use Rattle.run_legal.specs.Given.EffectsKnown.{Known}
use Rattle.run_legal.specs.Given.NamedSeen.{kind_of}
use Rattle.play_linear.specs.Given.PlayedPlay.{State as Played, call_for, first_state, outcome_of, play_all}
use Rattle.run_legal.specs.Given.ScenesStepping.{has_ended}
use Rattle.run_legal.specs.Given.HistoriesEvents.{HasOutcome}
use Rattle.play_moves.specs.OneHistory.Answered.{IsAnswered, SeatsAreAnswered}
use Rattle.play_moves.specs.OneHistory.Lookups.{IsLookedUp, IsSuch, LookupsWereSo}
use Rattle.play_moves.specs.OneHistory.Order.{CallsAreInOrder}
use Rattle.play_moves.proofs.OneHistory.Along.{all_tell}
use Rattle.play_moves.proofs.OneHistory.Legal.{hashes, own}
use Rattle.play_moves.proofs.OneHistory.Tells.{HasAnswered, Tells}
use Rattle.play_moves.proofs.OneHistory.Wanted.{one_slot, one_wanted}

module _ {K V : Type 0} (seat : ℕ) where
  abbrev pub IsIts : Called K V → Type 0
  IsIts call = seat_of call.caller ≡ seat

  -- the calls of a seat are its callers'
  told_its : (i : ℕ) (told : Progress (Node K V)) (calls : List (Called K V)) → AllByRecursion IsIts calls → AllByRecursion IsIts (has_progressed i told calls)
  told_its i told [] all = tt
  told_its i told (call ∷ calls) all = by (told_its i told calls all.1) (call.caller == i)
    where
      by : AllByRecursion IsIts (has_progressed i told calls) → (q : Bool) → AllByRecursion IsIts (if q then record call { told = told } ∷ calls else call ∷ has_progressed i told calls)
      by rest true = all
      by rest false = (all.0, rest)

module _ {K V S : Type 0} (seat : ℕ) where
  then_its : (doing : Doing K V S) (told : Told K V) (calls : List (Called K V)) → AllByRecursion (IsIts seat) calls → AllByRecursion (IsIts seat) (calls_then seat doing told calls)
  then_its (Does (BeginsCall i m wanted)) told calls all = by (cases_eq seat (seat_of i))
    where
      new : Called K V
      new = record { caller = i; map = m; wanted = wanted; told = untold }

      by : (seat ≡ seat_of i) ⊎ (seat ≢ seat_of i) → AllByRecursion (IsIts seat) (if seat == seat_of i then new ∷ calls else calls)
      by (inl e) = subst (λ (q : Bool). AllByRecursion (IsIts seat) (if q then new ∷ calls else calls)) (sym (eq-eqb seat (seat_of i) e)) (sym e, all)
      by (inr ne) = subst (λ (q : Bool). AllByRecursion (IsIts seat) (if q then new ∷ calls else calls)) (sym (ne_eqb seat (seat_of i) ne)) all
  then_its (Does (StepsCall i m g)) (OfCall told) calls all = by (seat == seat_of i)
    where
      by : (q : Bool) → AllByRecursion (IsIts seat) (if q then has_progressed i told calls else calls)
      by true = told_its seat i told calls all
      by false = all
  then_its _ _ calls all = all

  pub calls_its : (doings : List (Doing K V S)) (said : List (Told K V)) (calls : List (Called K V)) → AllByRecursion (IsIts seat) calls → AllByRecursion (IsIts seat) (calls_of seat doings said calls)
  calls_its (doing ∷ doings) (told ∷ said) calls all = calls_its doings said (calls_then seat doing told calls) (then_its doing told calls all)
  calls_its [] said calls all = all
  calls_its (doing ∷ doings) [] calls all = all

module _ {K V S : Type 0} (same : K → K → Bool) (hash : S → K → ℕ) (P Q : Called K V → Type 0) (run : BegunCall K V) (before : List (BegunCall K V)) where
  -- the call of the list that a run is
  pub record Found : Type 0 where
    pub one : Called K V
    pub is : IsRun same hash one run
    pub its : P one
    pub too : Q one

  found : (later : List (BegunCall K V)) (calls : List (Called K V)) → AreRuns same hash calls (later ++ run ∷ before) → AllByRecursion P calls → AllByRecursion Q calls → Found
  found [] (call ∷ calls) are all more = record { one = call; is = are.0; its = all.0; too = more.0 }
  found (other ∷ later) (call ∷ calls) are all more = found later calls are.1 all.1 more.1
  found [] [] are all more = absurd are
  found (other ∷ later) [] are all more = absurd are

-- what is told of a lookup, in the words of the history
pub such : {K V : Type 0} (known : Known) (key : K) (replies : List (Option ℕ × Reply V)) (told : KeyAnswer) (o : Outcome V) → HasOutcome known (one_key.Get key) replies (Done (Key told)) o
    → (answer : Response V) × IsSuch told answer × (o ≡ Answered answer)
such known key replies says.Absent (Answered a) (inl so) = (a, (let is = so 0 in let one : answers.Absent ≡ a = cc is in sym one), refl)
such known key replies (says.Found word) (Answered a) (inl (n, names, so)) = (a, (n, (let is = so 0 in let one : answers.Found n ≡ a = cc is in sym one)), refl)
such known key replies (says.Stored new) (Answered a) (inr (n, names, value, means)) = absurd (cc means)
such known key replies (says.Replaced old new) (Answered a) (inr (o, n, was, comes, value, means)) = absurd (cc means)
such known key replies (says.Removed old) (Answered a) (inr (o, names, means)) = absurd (let is = means 0 in cc is)
such known key replies says.Absent (Answered a) (inr done) = absurd done
such known key replies (says.Found word) (Answered a) (inr done) = absurd done
such known key replies (says.Stored new) (Answered a) (inl so) = absurd so
such known key replies (says.Replaced old new) (Answered a) (inl so) = absurd so
such known key replies (says.Removed old) (Answered a) (inl so) = absurd so
such known key replies told _ comes = absurd comes

module _ {K V S : Type 0} (same : K → K → Bool) (hash : S → K → ℕ) (fixed : Fixed) (small : fixed.batch_size < 2 ^ 64) (aborts : ℕ → V) (id t : ℕ) (v : View K V S) (map : Map S) (wanted : Wanted K V)
    (run : BegunCall K V) (later before : List (BegunCall K V)) (knows : v.map ≡ Some map) (calls_are : v.calls ≡ later ++ run ∷ before) (on_it : run.map ≡ map.number) (simple : plain wanted ≡ wanted)
    (began : run.began ≡ machine_for same hash map t wanted) (ended : has_ended run.told ≡ true) (s : State (Node K V) (View K V S) (MapsWorld K V S)) (h : Holds same hash fixed s)
    (at_id : view_of s id ≡ Some v) where
  abbrev calls : List (Called K V)
  calls = calls_of id s.world.doings h.reached.1 []

  abbrev seen : Option (ℕ × Mem (Node K V))
  seen = seen_of V same hash fixed.batch_size fixed.roots slot_of h.course id s.world.doings (nothing_done V same hash fixed.batch_size fixed.roots slot_of h.course) h.reached h.led None

  pub tell : (after : Played K V S) × (play_all same hash fixed.batch_size fixed.roots aborts s.world.doings (first_state fixed.roots) ≡ Some after) × Tells same id after calls seen
  tell =
      all_tell V same hash (hashes same hash fixed s h) fixed.batch_size fixed.roots small aborts h.course id s.world.doings h.reached h.led (own same hash fixed s h) h.so.fresh.0 h.so.fresh.2

  pub runs : AreRuns same hash calls (later ++ run ∷ before)
  runs =
      subst (λ (l : List (BegunCall K V)). AreRuns same hash calls l) calls_are
      (subst (λ (o : Option (View K V S)). AreRuns same hash calls (runs_of o)) at_id (h.calls id))

  -- the call of the list that this is
  module _ (one : Called K V) (is : IsRun same hash one run) where
    one_machine : machine_for same hash map t wanted ≡ machine_for same hash is.map (slot_of one.caller) one.wanted
    one_machine = sym began ∙ is.began

    pub same_wanted : wanted ≡ one.wanted
    same_wanted = sym simple ∙ one_wanted same hash map is.map t (slot_of one.caller) wanted one.wanted one_machine ∙ is.plainly

    pub same_caller : seat_of one.caller ≡ id → caller_at id t ≡ one.caller
    same_caller its =
        ap (λ (a : ℕ). caller_at a t) (sym its) ∙ ap (λ (a : ℕ). caller_at (seat_of one.caller) a) (one_slot same hash map is.map t (slot_of one.caller) wanted one.wanted one_machine)
        ∙ its_caller one.caller

    pub same_map : map.number ≡ one.map
    same_map = sym on_it ∙ is.its

  it : Found same hash (HasAnswered same tell.0.history) (IsIts id) run before
  it = found same hash (HasAnswered same tell.0.history) (IsIts id) run before later calls runs tell.2.answered (calls_its id s.world.doings h.reached.1 [] tt)

  abbrev history : List (Entry K V)
  history = tell.0.history

  abbrev outcome : Known → Option V → Wanted K V → Progress (Node K V) → Outcome V
  outcome known value w told = outcome_of known (kind_of (call_for w)) value told

  -- what a call comes to that has ended, in the words of the history
  abbrev Comes : Known → Option V → ℕ → ℕ → Wanted K V → Progress (Node K V) → Type 0
  Comes known value c m w told =
      IsAnswered same history c m (call_for w) (outcome known value w told)
      × ((key : K) (answer : Response V) → call_for w ≡ On (one_key.Get key) → outcome known value w told ≡ Answered answer → IsLookedUp same history c m key answer)
      × ((key : OneKey K V) → call_for w ≡ On key → (replies : List (Option ℕ × Reply V)) × HasOutcome known key replies told (outcome known value w told))

  pub comes : (known : Known) × (value : Option V) × Comes known value (caller_at id t) map.number wanted run.told
  comes =
      let has = it.its (ap has_ended (sym it.is.told) ∙ ended) in (
        has.0,
        has.1,
        subst (λ (c : ℕ). Comes has.0 has.1 c map.number wanted run.told) (sym (same_caller it.one it.is it.too))
            (subst (λ (m : ℕ). Comes has.0 has.1 it.one.caller m wanted run.told) (sym (same_map it.one it.is))
            (subst (λ (w : Wanted K V). Comes has.0 has.1 it.one.caller it.one.map w run.told) (sym (same_wanted it.one it.is))
            (subst (λ (p : Progress (Node K V)). Comes has.0 has.1 it.one.caller it.one.map it.one.wanted p) (sym it.is.told) (has.2, has.3, has.4)))),
      )

  pub answered : (after : Played K V S) × (play_all same hash fixed.batch_size fixed.roots aborts s.world.doings (first_state fixed.roots) ≡ Some after) × (known : Known) × (value : Option V)
      × IsAnswered same after.history (caller_at id t) map.number (call_for wanted) (outcome_of known (kind_of (call_for wanted)) value run.told)
  answered = (tell.0, tell.1, comes.0, comes.1, comes.2.0)

  -- where it looked a key up, and was told this of it
  pub was_so : (key : K) (told : KeyAnswer) → wanted ≡ Get key → run.told ≡ Done (Key told)
      → (after : Played K V S) × (play_all same hash fixed.batch_size fixed.roots aborts s.world.doings (first_state fixed.roots) ≡ Some after) × (answer : Response V) × IsSuch told answer
      × IsLookedUp same after.history (caller_at id t) map.number key answer
  was_so key told wants tells =
      let o = outcome comes.0 comes.1 wanted run.told in
      let on = comes.2.2 (one_key.Get key) (ap call_for wants) in
      let by = such comes.0 key on.0 told o (subst (λ (p : Progress (Node K V)). HasOutcome comes.0 (one_key.Get key) on.0 p o) tells on.1) in
      (tell.0, tell.1, by.0, by.1, comes.2.1 key by.0 (ap call_for wants) by.2)

module _ {K S : Type 0} (V : Type 0) (same : K → K → Bool) (hash : S → K → ℕ) where
  pub calls_are_in_order : CallsAreInOrder V same hash
  calls_are_in_order fixed small aborts s h id t is =
      let told = all_tell V same hash (hashes same hash fixed s h) fixed.batch_size fixed.roots small aborts h.course id s.world.doings h.reached h.led (own same hash fixed s h) h.so.fresh.0 h.so.fresh.2 in
      (told.0, told.1, told.2.got (caller_at id t) (sym (its_seat id t is)))

  pub seats_are_answered : SeatsAreAnswered V same hash
  seats_are_answered fixed small aborts id t v map wanted run later before knows calls_are on_it simple began ended s h at_id =
      answered same hash fixed small aborts id t v map wanted run later before knows calls_are on_it simple began ended s h at_id

  pub lookups_were_so : LookupsWereSo V same hash
  lookups_were_so fixed small aborts id t v map key run later before told knows calls_are on_it began tells s h at_id =
      was_so same hash fixed small aborts id t v map (Get key) run later before knows calls_are on_it refl began (ap has_ended tells) s h at_id key told refl tells
