-- A call is never refused as busy; so it is over for its history where it is over.
use Rattle.std.specs.Prelude.{◌≡◌, ℕ, Bool, true, Option, Some}
use Rattle.std.proofs.Common.{refl, sym, subst, inl, inr}
use Rattle.run_legal.specs.Given.LateKinds.{FaultFits}
use Rattle.run_schedules.specs.Given.SeizeWordsDeclared.fault.Fault.TheVariants.{Busy}
use Rattle.run_legal.specs.Given.TablesDeclared.node.Node.{Node}
use Rattle.run_schedules.specs.Given.RawDeclared.machines.progress.Progress.{Progress}
use Rattle.run_schedules.specs.Given.RawDeclared.machines.progress.Progress.TheVariants as progress
use Rattle.run_schedules.specs.Schedules.Entry.{ends_call}
use Rattle.run_legal.specs.Given.CallersPairs.{kind_of as kind_given}
use Rattle.run_legal.specs.Given.CallersTogether.{CallOnKey, Counting, ForRoom, OnKey, OverAll, UnderWay}
use Rattle.run_legal.specs.Given.EffectsKnown.{Known}
use Rattle.run_legal.specs.Given.FinishesMachines.{machine_of}
use Rattle.run_legal.specs.Given.NamedMachines.{RefusedForRoom}
use Rattle.run_legal.specs.Given.ExecutorDeclared.kind.CallKind.{CallKind}
use Rattle.run_legal.specs.Given.ScenesHeld.{Held}
use Rattle.run_legal.specs.Given.ScenesScene.{Scene}
use Rattle.run_legal.specs.Given.ScenesStepping.{StepLeads, has_ended}
use Rattle.run_legal.proofs.Given.HistoriesRefusals.{refused}
use Rattle.play_linear.specs.Given.PlayedPlay.{outcome_of}
use Rattle.run_legal.proofs.Given.QuietRoomSays.{NeverRefused, SaysRoom, reserve_room, sum_room, sweep_room}

module _ {K V : Type 0} where
  abbrev pub NotBusy : Progress (Node K V) → Type 0
  NotBusy said = said ≡ progress.Refused Busy → ⊥

  -- a refusal for room is none
  room_not_busy : (said : Progress (Node K V)) → SaysRoom said → NotBusy said
  room_not_busy said room is = elim (subst SaysRoom is room) as (λ _. ⊥) [
    | inl memory ↦ cc memory
    | inr capacity ↦ cc capacity
  ]

  -- so the outcome ends the call where its step has ended it
  pub ends_so : (known : Known) (kind : CallKind) (value : Option V) (said : Progress (Node K V)) → NotBusy said → has_ended said ≡ true → ends_call (outcome_of known kind value said) ≡ true
  ends_so known kind value (progress.Done answer) never e = refl
  ends_so known kind value (progress.Refused Busy) never e = absurd (never refl)
  ends_so known kind value (progress.Refused fault) never e = refl
  ends_so known kind value progress.Goes never e = absurd (cc e)
  ends_so known kind value (progress.Gave node) never e = absurd (cc e)
  ends_so known kind value (progress.Unstored node) never e = absurd (cc e)
  ends_so known kind value progress.Waits never e = absurd (cc e)
  ends_so known kind value (progress.Asks word) never e = absurd (cc e)
  ends_so known kind value progress.Ready never e = absurd (cc e)
  ends_so known kind value (progress.Pair word) never e = absurd (cc e)

module _ {K V : Type 0} (same : K → K → Bool) (hash : ℕ → K → ℕ) (s : Scene K V) (old new : Held K V) (map i : ℕ) where
  key_not_busy : (x : CallOnKey K V K) (here : s.calls map i ≡ Some (OnKey x)) (said : Progress (Node K V)) (leads : StepLeads same hash i said s old new) → NotBusy said
  key_not_busy x here (progress.Refused fault) leads is = elim fits as (λ _. ⊥) [
    | inl more ↦ elim more.1 as (λ _. ⊥) [
      | inl memory ↦ cc (memory, busy)
      | inr capacity ↦ cc (capacity, busy)
    ]
    | inr other ↦ (let nothing = other.2 in cc (nothing, busy))
  ]
    where
      busy : fault ≡ Busy
      busy = cc is

      fits : FaultFits (kind_given x.pair).present (kind_given x.pair).absent (kind_given x.pair).takes fault
      fits = elim (leads map (OnKey x) here).4.did.4 as (λ _. FaultFits (kind_given x.pair).present (kind_given x.pair).absent (kind_given x.pair).takes fault) [
        | inl (step, moved) ↦ (step.step.refuses fault (refused (leads map (OnKey x) here).4.did.1 fault (leads map (OnKey x) here).4.did.3)).1
        | inr (row, stayed) ↦ (row.step.refuses fault (refused (leads map (OnKey x) here).4.did.1 fault (leads map (OnKey x) here).4.did.3)).1
      ]
  key_not_busy x here _ leads is = absurd (cc is)

  pub not_busy : (u : UnderWay K V K) (here : s.calls map i ≡ Some u) → RefusedForRoom (machine_of u) → (said : Progress (Node K V)) (leads : StepLeads same hash i said s old new) → NotBusy said
  not_busy (OnKey x) here room said leads = key_not_busy x here said leads
  not_busy (ForRoom r) here room said leads =
      let to = leads map (ForRoom r) here in room_not_busy said (reserve_room same to.0.hash old new to.1 said r.reserve room to.3).1
  not_busy (OverAll o) here room said leads =
      let to = leads map (OverAll o) here in room_not_busy said (sweep_room same to.0.hash old new to.1 said o.sweep room to.3).1
  not_busy (Counting sum) here room said leads =
      let to = leads map (Counting sum) here in λ is. absurd (subst NeverRefused is (sum_room same to.0.hash old new to.1 said sum to.3))

  -- and what a call is refused for stays that after its step
  pub room_then : (u : UnderWay K V K) (here : s.calls map i ≡ Some u) → RefusedForRoom (machine_of u) → (said : Progress (Node K V)) (leads : StepLeads same hash i said s old new) → RefusedForRoom (leads map u here).1
  room_then (OnKey x) here room said leads = subst RefusedForRoom (sym (leads map (OnKey x) here).4.did.2) tt
  room_then (ForRoom r) here room said leads = let to = leads map (ForRoom r) here in (reserve_room same to.0.hash old new to.1 said r.reserve room to.3).0
  room_then (OverAll o) here room said leads = let to = leads map (OverAll o) here in (sweep_room same to.0.hash old new to.1 said o.sweep room to.3).0
  room_then (Counting sum) here room said leads = subst RefusedForRoom (sym (leads map (Counting sum) here).4.did.2) tt
