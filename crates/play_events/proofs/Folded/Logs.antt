-- Over all events of a call: what it took out is what it has handed over, and behind that what it owes.
use Rattle.std.specs.Prelude.{◌≡◌, ◌⊎◌, ◌≤◌, ℕ, Bool, true, false, List, [], ◌∷◌, ◌++◌, flat_map, length, Option, Some, None, if◌then◌else◌}
use Rattle.std.proofs.Common.{refl, ap, sym, subst, ◌∙◌, arith, inl, inr}
use Rattle.std.proofs.lemmas.List.{append-nil}
use Rattle.run_schedules.specs.declared.effect.Effect.{Effect}
use Rattle.run_schedules.specs.declared.effect.Effect.TheVariants as effect
use Rattle.run_schedules.specs.declared.effect.TableId.{TableId}
use Rattle.run_schedules.specs.declared.effect.Thing.{Thing}
use Rattle.run_schedules.specs.declared.outcome.Outcome.{Outcome}
use Rattle.run_schedules.specs.Schedules.After.{AtEachEvent, moment}
use Rattle.run_schedules.specs.Schedules.Beginning.{at_work}
use Rattle.run_schedules.specs.Schedules.Effects.{worked}
use Rattle.run_schedules.specs.Schedules.Entry.{ByCall, Entry, IfCall, acted_on, acting, caller_of}
use Rattle.run_schedules.specs.Schedules.Handing.{LeavesOf, is_clear_outcome, gives_all, moments_of}
use Rattle.run_schedules.specs.Schedules.Growing.{only_looks}
use Rattle.run_schedules.specs.Schedules.Lives.{CallFinds, Finds, MayDefer}
use Rattle.run_schedules.specs.Schedules.Moment.{UnderWay as CallThere, Moment}
use Rattle.run_schedules.specs.Schedules.Terms.{Terms}
use Rattle.run_schedules.specs.Schedules.Views.{call_of}
use Rattle.play_stepping.proofs.Given.ChangesLogs.{events_are}
use Rattle.play_lists.proofs.Given.FindsLife.{each_so}
use Rattle.play_events.specs.Folded.Folded.{CallsFold, DeferralsAreRight, EndedCallsFold, HandsInOrder, handed, handed_in, if_its, out_in, since, took}
use Rattle.play_events.proofs.Folded.Effects.{all_go, joined}
use Rattle.play_events.proofs.Folded.Seen.{begun_was, calls_seen}
use Rattle.play_stepping.proofs.Given.General.{less_false as not_before, less_true as is_before}

module _ {K V : Type 0} (did : Moment K V → Entry K V → List Thing) (begun : ℕ) (own : List ℕ) where
  -- one event more,
  since_more : (e : Entry K V) (log : List (Entry K V)) → begun ≤ length log → since did begun own (e ∷ log) ≡ since did begun own log ++ if_its own (caller_of e.event) (did (moment log) e)
  since_more e log l = ap (λ (q : Bool). if q then [] else since did begun own log ++ if_its own (caller_of e.event) (did (moment log) e)) (not_before (length log) begun l)

  -- and none yet
  since_none : (log : List (Entry K V)) → length log ≤ begun → since did begun own log ≡ []
  since_none [] l = refl
  since_none (e ∷ log) l =
      ap (λ (q : Bool). if q then [] else since did begun own log ++ if_its own (caller_of e.event) (did (moment log) e))
      (is_before (length log) begun (omega (arith, l)))

module _ {K V : Type 0} where
  -- a call began by then, and what it took out is what it handed over, and what it owes
  abbrev Even : List (Entry K V) → List ℕ → ℕ → List Thing → Type 0
  Even log own began owes = since took began own log ≡ since handed began own log ++ owes

  abbrev Folds : List (Entry K V) → Type 0
  Folds log = (own : List ℕ) (c : CallThere K V) → call_of own (moment log) ≡ Some c → (c.begun ≤ length log) × Even log own c.begun c.owes

  -- so it is where an event has begun what it begins,
  begun_folds : (e : Entry K V) (log : List (Entry K V)) → Folds log → (own : List ℕ) (c : CallThere K V) → call_of own (at_work e (moment log)) ≡ Some c
      → (c.begun ≤ length log) × Even log own c.begun c.owes
  begun_folds e log so own c is = by (begun_was e.event e.outcome (moment log) own c is)
    where
      by : (call_of own (moment log) ≡ Some c) ⊎ ((c.owes ≡ []) × (c.begun ≡ (moment log).events)) → (c.begun ≤ length log) × Even log own c.begun c.owes
      by (inl was) = so own c was
      by (inr (none, now)) =
          let long = events_are log in
          let last : length log ≤ c.begun = omega (arith, now, long) in (
            omega (arith, now, long),
            since_none took c.begun own log last ∙ sym (ap (λ (l : List Thing). l ++ c.owes) (since_none handed c.begun own log last) ∙ none),
          )

  -- where it has done what it does,
  worked_folds : (e : Entry K V) (log : List (Entry K V)) → HandsInOrder log e → Folds log → (own : List ℕ) (c : CallThere K V) → call_of own (worked e (moment log)) ≡ Some c
      → (c.begun ≤ length log) × Even (e ∷ log) own c.begun c.owes
  worked_folds e log hands so own c is = (began, even)
    where
      b : Moment K V
      b = at_work e (moment log)

      out : List Thing
      out = if_its own (caller_of e.event) (out_in (caller_of e.event) (acted_on e.event b) e.effects b)

      hand : List Thing
      hand = if_its own (caller_of e.event) (flat_map handed_in e.effects)

      went : (d : CallThere K V) × (call_of own b ≡ Some d) × (c.begun ≡ d.begun) × (d.owes ++ out ≡ hand ++ c.owes)
      went = all_go (caller_of e.event) (acted_on e.event b) e.effects b hands own c is

      before : (c.begun ≤ length log) × Even log own c.begun went.0.owes
      before = subst (λ (n : ℕ). (n ≤ length log) × Even log own n went.0.owes) (sym went.2) (begun_folds e log so own went.0 went.1)

      began : c.begun ≤ length log
      began = before.0

      even : Even (e ∷ log) own c.begun c.owes
      even =
          since_more took c.begun own e log began
          ∙ joined [] (since took c.begun own log) out (since handed c.begun own log) went.0.owes hand c.owes before.1 went.3
          ∙ sym (ap (λ (l : List Thing). l ++ c.owes) (since_more handed c.begun own e log began))

  -- and after it
  folds_on : (e : Entry K V) (log : List (Entry K V)) → HandsInOrder log e → Folds log → Folds (e ∷ log)
  folds_on e log hands so own c is =
      let was = calls_seen e.event e.outcome e.steps (worked e (moment log)).calls own c is in
      let it = worked_folds e log hands so own was.0 was.1 in (
        (let l = it.0 in let same = was.3 in omega (arith, l, same)),
        subst (λ (n : ℕ). Even (e ∷ log) own n c.owes) was.3 (subst (Even (e ∷ log) own was.0.begun) was.2 it.1),
      )

  all_fold : (log : List (Entry K V)) → AtEachEvent HandsInOrder log → Folds log
  all_fold [] all = λ own c is. absurd (cc is)
  all_fold (e ∷ log) all = folds_on e log all.0 (all_fold log all.1)

  owes_none : (clear : Bool) (o : Outcome V) (c : CallThere K V) → clear ≡ true → LeavesOf clear o c → c.owes ≡ []
  owes_none true o c e leaves = leaves.0.owes
  owes_none false o c e leaves = absurd (cc e)

pub calls_fold : (K V : Type 0) → CallsFold K V
calls_fold K V log all own c is = (all_fold log all own c is).1

pub ended_calls_fold : (K V : Type 0) → EndedCallsFold K V
ended_calls_fold K V terms log e all life clear own its c is =
    sym (whole ∙ ap (λ (l : List Thing). since handed c.begun own (e ∷ log) ++ l) none ∙ append-nil (since handed c.begun own (e ∷ log)))
  where
    whole : since took c.begun own (e ∷ log) ≡ since handed c.begun own (e ∷ log) ++ c.owes
    whole = (worked_folds e log all.0 (all_fold log all.1) own c is).1

    none : c.owes ≡ []
    none =
        owes_none (is_clear_outcome e.outcome) e.outcome c clear
        (subst (IfCall (LeavesOf (is_clear_outcome e.outcome) e.outcome)) is
        (subst (λ (o : Option (List ℕ)). IfCall (LeavesOf (is_clear_outcome e.outcome) e.outcome) (acting o (worked e (moment log)))) its life.leaves))

module _ {K V : Type 0} (terms : Terms) (moments : List (Moment K V)) (everything : Bool) where
  -- a pair that is put behind a table may wait there
  waits_there : (who : Option (List ℕ)) (acted : Option ℕ) (m : Moment K V) (f : Effect) → Finds terms who acted everything moments m f
      → (n : ℕ) (t : TableId) → f ≡ effect.Deferred n t → ByCall (λ c. MayDefer c.map m n t) (acting who m)
  waits_there None None m f finds n t is = absurd (subst (Finds terms None None everything moments m) is finds)
  waits_there None (Some map) m f finds n t is = absurd (subst (Finds terms None (Some map) everything moments m) is finds)
  waits_there (Some own) acted m f finds n t is = by (call_of own m) (subst (Finds terms (Some own) acted everything moments m) is finds)
    where
      by : (o : Option (CallThere K V)) → ByCall (λ c. (only_looks c.call ≡ false) × CallFinds terms moments m (effect.Deferred n t) c) o → ByCall (λ c. MayDefer c.map m n t) o
      by None none = none
      by (Some c) found = found.1.1

pub deferrals_are_right : (K V : Type 0) → DeferralsAreRight K V
deferrals_are_right K V terms log e life =
    let b = at_work e (moment log) in
    let moments = moments_of terms log (acting (caller_of e.event) b) in
    each_so (Finds terms (caller_of e.event) (acted_on e.event b) (gives_all e.event) moments)
    (λ v f. (n : ℕ) (t : TableId) → f ≡ effect.Deferred n t → ByCall (λ c. MayDefer c.map v n t) (acting (caller_of e.event) v))
    (λ v f its. waits_there terms moments (gives_all e.event) (caller_of e.event) (acted_on e.event b) v f its) (caller_of e.event) (acted_on e.event b) e.effects b life.finds
