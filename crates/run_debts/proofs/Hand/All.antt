-- What a call has in hand goes with the effects of each of its steps, whichever call it is, and whether the step is one of a row or not.
use Rattle.std.specs.Prelude.{◌≡◌, ℕ, Bool, List, [], Some, ◌⊎◌}
use Rattle.std.proofs.Common.{ap, sym, subst, inl, inr}
use Rattle.run_places.specs.Given.TablesDeclared.node.Node.{Node}
use Rattle.run_places.specs.Given.RawDeclared.machines.call.Calling.{Calling}
use Rattle.run_places.specs.Given.RawDeclared.machines.call.Calling.TheVariants as at
use Rattle.run_places.specs.Given.RawDeclared.machines.progress.Progress.{Progress}
use Rattle.run_places.specs.Given.SchedulesMoment.{Moment}
use Rattle.owner_facts.specs.Given.PointsFactsCalls.{IsCopying}
use Rattle.owner_facts.specs.Given.PointsTold.{IsRowOfCall}
use Rattle.owner_facts.specs.Given.LateToldReserves.{IsRowOfReserve}
use Rattle.owner_facts.specs.Given.LateToldSweeps.{IsRowOfSweep}
use Rattle.owner_facts.specs.Given.CallersOverAll.{CallOverAll}
use Rattle.owner_facts.specs.Given.CallersRooms.{CallForRoom}
use Rattle.owner_facts.specs.Given.CallersTogether.{CallOnKey, UnderWay, OnKey, ForRoom, Counting, OverAll}
use Rattle.run_places.specs.Given.EffectsKnown.{Known}
use Rattle.run_places.specs.Given.FollowsShows.{Refines}
use Rattle.run_places.proofs.Given.FollowsSteps.{went_to, made_so, DidSo, OfNoRow}
use Rattle.run_places.proofs.Spots.Steps.{stayed_calm}
use Rattle.run_debts.specs.Hand.{in_hand, NotesPending}
use Rattle.run_debts.specs.Owed.{PendingGoes, CallsMovePending}
use Rattle.run_debts.specs.Owing.{KeepsOwed}
use Rattle.run_debts.proofs.Hand.KeyCopies.{key_copies}
use Rattle.run_debts.proofs.Hand.Keys.{keys_go_in_hand}
use Rattle.run_debts.proofs.Hand.Rooms.{room_goes_on}
use Rattle.run_debts.proofs.Hand.Steps.{rows_hand_over}
use Rattle.run_debts.proofs.Hand.Sweeps.{sweep_goes_on}
use Rattle.run_debts.proofs.Takings.{all_calm}
use Rattle.run_places.specs.Given.ScenesHeld.{Held, IsAt}
use Rattle.run_places.specs.Given.ScenesScene.{Scene}
use Rattle.run_places.specs.Given.ScenesStepping.{StepLeads}

-- it copies, or it does not
pub copies_or_not : (p : Calling) → IsCopying p ⊎ (IsCopying p → ⊥)
copies_or_not (at.Helps copier goal) = inl tt
copies_or_not (at.Copies copier) = inl tt
copies_or_not _ = inr (λ copies. copies)

module _ {K V : Type 0} (same : K → K → Bool) (hash : ℕ → K → ℕ) (name : ℕ → List ℕ) (m : Moment K V) (known : Known) (s : Scene K V) (old new : Held K V) (at_old : IsAt same hash old s)
    (shown : Refines same name m known s) (map i : ℕ) (u : UnderWay K V K) (under_way : s.calls map i ≡ Some u) (said : Progress (Node K V)) (leads : StepLeads same hash i said s old new) where
  abbrev Did : UnderWay K V K → Type 0
  Did x = DidSo same hash name m known s old new at_old shown map i u under_way said leads x

  abbrev pub OwnStep : (x : UnderWay K V K) → Did x → Type 0
  OwnStep x did = OfNoRow same hash name m known s old new at_old shown map i u under_way said leads x did

  -- a step is one of a row, or it is not
  pub own_or_row : (x : UnderWay K V K) (did : Did x) → OwnStep x did ⊎ (OwnStep x did → ⊥)
  own_or_row (OnKey x) (p2, end, machine_is, told_is, inl step) = inl tt
  own_or_row (OnKey x) (p2, end, machine_is, told_is, inr row) = inr (λ own. own)
  own_or_row (ForRoom x) (p2, end, machine_is, told_is, inl step) = inl tt
  own_or_row (ForRoom x) (p2, end, machine_is, told_is, inr row) = inr (λ own. own)
  own_or_row (Counting x) did = inl tt
  own_or_row (OverAll x) (p2, end, machine_is, told_is, inl step) = inl tt
  own_or_row (OverAll x) (p2, end, machine_is, told_is, inr row) = inr (λ own. own)

  -- one that is not is taken at no row
  pub key_rests : (x : CallOnKey K V K) (did : Did (OnKey x)) → OwnStep (OnKey x) did → IsRowOfCall x.call.stands → ⊥
  key_rests x (p2, end, machine_is, told_is, inl (step, moved)) own = step.no_row
  key_rests x (p2, end, machine_is, told_is, inr row) own = absurd own

  pub room_rests : (x : CallForRoom) (did : Did (ForRoom x)) → OwnStep (ForRoom x) did → IsRowOfReserve x.reserve.stands → ⊥
  room_rests x (p2, end, machine_is, told_is, inl (step, moved)) own = step.no_row
  room_rests x (p2, end, machine_is, told_is, inr row) own = absurd own

  pub sweep_rests : (x : CallOverAll) (did : Did (OverAll x)) → OwnStep (OverAll x) did → IsRowOfSweep x.sweep.stands → ⊥
  sweep_rests x (p2, end, machine_is, told_is, inl (step, moved)) own = step.no_row
  sweep_rests x (p2, end, machine_is, told_is, inr row) own = absurd own

module _ (K V : Type 0) (same : K → K → Bool) (hash : ℕ → K → ℕ) where
  pub calls_go_in_hand : CallsMovePending K V same hash
  calls_go_in_hand name m known s old new at_old shown rows entries owning map i (OnKey x) here said leads notes =
      elim (own_or_row same hash name m known s old new at_old shown map i (OnKey x) here said leads (OnKey x) did) as (λ _. PendingGoes K V same hash m known s old new map i (OnKey x) said here leads) [
        | inl own ↦ elim (copies_or_not x.call.stands) as (λ _. PendingGoes K V same hash m known s old new map i (OnKey x) said here leads) [
          | inl copies ↦ key_copies same hash name m known s old new at_old shown map i x here said leads notes
              (key_rests same hash name m known s old new at_old shown map i (OnKey x) here said leads x did own) own copies
          | inr copies ↦ keys_go_in_hand K V same hash name m known s old new at_old shown map i x here said leads copies notes own
        ]
        | inr other ↦ rows_hand_over K V same hash name m known s old new at_old shown rows entries owning map i (OnKey x) here said leads notes other
      ]
    where
      did : DidSo same hash name m known s old new at_old shown map i (OnKey x) here said leads (OnKey x)
      did = (went_to same hash name m known s old new at_old shown map i (OnKey x) here said leads).4.did
  calls_go_in_hand name m known s old new at_old shown rows entries owning map i (ForRoom x) here said leads notes =
      elim (own_or_row same hash name m known s old new at_old shown map i (ForRoom x) here said leads (ForRoom x) did) as (λ _. PendingGoes K V same hash m known s old new map i (ForRoom x) said here leads) [
        | inl own ↦ room_goes_on same hash name m known s old new at_old shown map i x here said leads notes
            (room_rests same hash name m known s old new at_old shown map i (ForRoom x) here said leads x did own) own
        | inr other ↦ rows_hand_over K V same hash name m known s old new at_old shown rows entries owning map i (ForRoom x) here said leads notes other
      ]
    where
      did : DidSo same hash name m known s old new at_old shown map i (ForRoom x) here said leads (ForRoom x)
      did = (went_to same hash name m known s old new at_old shown map i (ForRoom x) here said leads).4.did
  calls_go_in_hand name m known s old new at_old shown rows entries owning map i (OverAll x) here said leads notes =
      elim (own_or_row same hash name m known s old new at_old shown map i (OverAll x) here said leads (OverAll x) did) as (λ _. PendingGoes K V same hash m known s old new map i (OverAll x) said here leads) [
        | inl own ↦ sweep_goes_on same hash name m known s old new at_old shown map i x here said leads notes
            (sweep_rests same hash name m known s old new at_old shown map i (OverAll x) here said leads x did own) own
        | inr other ↦ rows_hand_over K V same hash name m known s old new at_old shown rows entries owning map i (OverAll x) here said leads notes other
      ]
    where
      did : DidSo same hash name m known s old new at_old shown map i (OverAll x) here said leads (OverAll x)
      did = (went_to same hash name m known s old new at_old shown map i (OverAll x) here said leads).4.did
  calls_go_in_hand name m known s old new at_old shown rows entries owning map i (Counting x) here said leads notes = by (went_to same hash name m known s old new at_old shown map i (Counting x) here said leads).4.did
    where
      by : DidSo same hash name m known s old new at_old shown map i (Counting x) here said leads (Counting x) → PendingGoes K V same hash m known s old new map i (Counting x) said here leads
      by (sum2, end, machine_is, told_is, still, stayed) =
          let to = went_to same hash name m known s old new at_old shown map i (Counting x) here said leads in
          let none : in_hand known to.1 ≡ [] = ap (in_hand known) machine_is in
          let calm = stayed_calm same hash m known s old new at_old name shown map i to.0 to.2 (name i) (made_so same hash name m known s old new at_old shown map i (Counting x) here said leads) still in
          (KeepsOwed (all_calm _ calm.calm).0 none, subst (NotesPending known) (sym machine_is) tt, λ ended. none)
