-- A session may count the pairs of its map, make room there, and remove all pairs: calls on the whole map that ask nothing.
use Rattle.std.specs.Prelude.{Option, Result, Ok, Err, Some, None, IfOk}
use Rattle.std.proofs.Common.{◌≡◌, ℕ, Bool, refl, sym, subst, ap, ◌∙◌}
use Rattle.seize_words.specs.declared.fault.Fault.{Fault}
use Rattle.map_tables.specs.declared.node.Node.{Node}
use Rattle.map_tables.specs.declared.setting.Setting.{Setting}
use Rattle.map_machines.specs.Sum.{summing}
use Rattle.map_machines.specs.declared.sum.Sum.{Sum}
use Rattle.papaya_raw.specs.Given.ReservesDeclared.reserve.Reserve.{Reserve}
use Rattle.papaya_raw.specs.Given.ReservesReserve.{reserving}
use Rattle.papaya_raw.specs.Given.ReservesDeclared.sweep.Purpose.TheVariants.{Clears}
use Rattle.papaya_raw.specs.Given.ReservesDeclared.sweep.Sweep.{Sweep}
use Rattle.papaya_raw.specs.Given.SweepsSweepPoints.{sweeping}
use Rattle.papaya_raw.specs.declared.machines.machine.Machine.{Machine}
use Rattle.papaya_raw.specs.declared.machines.machine.Machine.TheVariants as kinds
use Rattle.papaya_raw.specs.declared.machines.progress.Answer.{Answer}
use Rattle.papaya_raw.specs.declared.machines.progress.Answer.TheVariants as said
use Rattle.seize_views.specs.declared.view.Has.TheVariants.{Nothing as NoBlock}
use Rattle.seize_views.specs.declared.view.SlotView.TheVariants.{Inside}
use Rattle.threads_callers.specs.Given.ActsActs.{Count, GoOver, MakeRoom, Wanted}
use Rattle.threads_callers.specs.Given.CallKindsSweeps.{IsFor}
use Rattle.threads_callers.specs.Given.ViewsDeclared.view.View.{View}
use Rattle.threads_callers.specs.Given.ViewsDeclared.view.SeatWork.TheVariants.{Nothing}
use Rattle.threads_callers.specs.Given.ErrandsCalling.{HasCalled, IsAnswerBy, IsAnswerTo, ForRoom, MayCall, OverAll, outcome_of, wanted_of}
use Rattle.threads_callers.specs.Given.ErrandsCounting.{MayCount}
use Rattle.threads_callers.specs.Given.ErrandsLooking.{HasRun}
use Rattle.threads_callers.specs.Standing.{known_by}
use Rattle.threads_calls.proofs.Sessions.{may_do_all}

module _ {K V S : Type 0} (same : K → K → Bool) (hash : S → K → ℕ) (v : View K V S) (setting its : Setting) (hasher : S) (t : ℕ) (lone : v.under ≡ None) (inside : v.slot ≡ Inside t NoBlock)
    (free : v.work ≡ Nothing) (knows : known_by v ≡ Some (setting, hasher)) (is : its ≡ record setting { slot = t }) where
  pub may_count : (sum : Sum) → sum ≡ summing its → MayCount same hash hasher (kinds.Count sum) v
  may_count sum made = record {
    may =
        may_do_all same hash Count (λ x. kinds.Count (summing x)) (λ map s. refl) (λ x. refl) v setting its hasher t (kinds.Count sum) lone inside free knows is
        (ap kinds.Count made);
    setting = its;
    counts = ap kinds.Count made;
  }

  pub may_reserve : (additional : ℕ) (call : Reserve) → call ≡ reserving its additional → MayCall same hash hasher (kinds.Reserve call) v
  may_reserve additional call made = record {
    may =
        may_do_all same hash (MakeRoom additional) (λ x. kinds.Reserve (reserving x additional)) (λ map s. refl) (λ x. refl) v setting its hasher t (kinds.Reserve call) lone inside free knows
        is (ap kinds.Reserve made);
    none = tt;
    stores = λ pair e. absurd (cc e);
  }

  pub may_clear : (call : Sweep) → call ≡ sweeping its Clears → MayCall same hash hasher (kinds.Sweep call) v
  may_clear call made = record {
    may =
        may_do_all same hash (GoOver Clears) (λ x. kinds.Sweep (sweeping x Clears)) (λ map s. refl) (λ x. refl) v setting its hasher t (kinds.Sweep call) lone inside free knows is
        (ap kinds.Sweep made);
    none = subst (IsFor Clears) (sym made) record { is = refl; here = tt };
    stores = λ pair e. absurd (cc e);
  }

-- room was made, or all was gone over: there is one answer to each
room_only : (answer : Answer) → IsAnswerTo ForRoom answer → answer ≡ said.Reserved
room_only said.Reserved is = refl
room_only said.Swept is = absurd is
room_only (said.Key answer) is = absurd is
room_only (said.Count n) is = absurd is

swept_only : (answer : Answer) → IsAnswerTo OverAll answer → answer ≡ said.Swept
swept_only said.Swept is = refl
swept_only said.Reserved is = absurd is
swept_only (said.Key answer) is = absurd is
swept_only (said.Count n) is = absurd is

module _ {K V S : Type 0} (same : K → K → Bool) (hash : S → K → ℕ) {told : Result Answer Fault} {unstored : Option (Node K V)} (v w : View K V S) where
  -- what a call has come to is said of who wanted it
  ran_as : (machine : Machine K V K) (wanted : Wanted K V) (answer : Result Answer Fault) → wanted_of machine ≡ wanted → told ≡ answer → HasCalled same hash (wanted_of machine) told unstored v w
      → HasRun same hash wanted (outcome_of answer) v w
  ran_as machine wanted answer wants tells called =
      subst (λ (x : Wanted K V). HasRun same hash x (outcome_of answer) v w) wants
      (subst (λ (r : Result Answer Fault). HasRun same hash (wanted_of machine) (outcome_of r) v w) tells called.ran)

  module _ (its : Setting) (additional : ℕ) (call : Reserve) (made : call ≡ reserving its additional) (called : HasCalled same hash (wanted_of (kinds.Reserve call)) told unstored v w) where
    wants_room : wanted_of {K = K} {V = V} (kinds.Reserve call) ≡ MakeRoom additional
    wants_room = ap (λ (c : Reserve). MakeRoom c.additional) made

    pub has_room : (answer : Answer) → told ≡ Ok answer → IfOk told (IsAnswerBy {K = K} {V = V} {Q = K} (kinds.Reserve call)) → HasRun same hash (MakeRoom additional) (outcome_of (Ok said.Reserved)) v w
    has_room answer is fits =
        ran_as (kinds.Reserve call) (MakeRoom additional) (Ok said.Reserved) wants_room
        (is ∙ ap Ok (room_only answer (subst (λ (r : Result Answer Fault). IfOk r (IsAnswerBy {K = K} {V = V} {Q = K} (kinds.Reserve call))) is fits))) called

    pub no_room : (fault : Fault) → told ≡ Err fault → HasRun same hash (MakeRoom additional) (outcome_of (Err fault)) v w
    no_room fault is = ran_as (kinds.Reserve call) (MakeRoom additional) (Err fault) wants_room is called

  module _ (its : Setting) (call : Sweep) (made : call ≡ sweeping its Clears) (called : HasCalled same hash (wanted_of (kinds.Sweep call)) told unstored v w) where
    wants_all : wanted_of {K = K} {V = V} (kinds.Sweep call) ≡ GoOver Clears
    wants_all = ap (λ (c : Sweep). GoOver c.purpose) made

    pub has_cleared : (answer : Answer) → told ≡ Ok answer → IfOk told (IsAnswerBy {K = K} {V = V} {Q = K} (kinds.Sweep call)) → HasRun same hash (GoOver Clears) (outcome_of (Ok said.Swept)) v w
    has_cleared answer is fits =
        ran_as (kinds.Sweep call) (GoOver Clears) (Ok said.Swept) wants_all
        (is ∙ ap Ok (swept_only answer (subst (λ (r : Result Answer Fault). IfOk r (IsAnswerBy {K = K} {V = V} {Q = K} (kinds.Sweep call))) is fits))) called

    pub not_cleared : (fault : Fault) → told ≡ Err fault → HasRun same hash (GoOver Clears) (outcome_of (Err fault)) v w
    not_cleared fault is = ran_as (kinds.Sweep call) (GoOver Clears) (Err fault) wants_all is called
