-- A call that is refused owes nothing, and where there was nothing to remove it was so at a moment of the run since it began.
use Rattle.std.specs.Prelude.{◌≡◌, ℕ, Bool, List, Some, None}
use Rattle.std.proofs.Common.{refl, ap, subst, inl, inr}
use Rattle.run_places.specs.Given.SeizeWordsDeclared.fault.Fault.{Fault}
use Rattle.run_places.specs.Given.SeizeWordsDeclared.fault.Fault.TheVariants.{RemoveNothing}
use Rattle.run_places.specs.Given.TablesDeclared.node.Node.{Node}
use Rattle.run_places.specs.Given.RawProgress.{of_called}
use Rattle.run_places.specs.Given.RawDeclared.machines.answer.Called.{Called}
use Rattle.run_places.specs.Given.RawDeclared.machines.answer.Called.TheVariants as called
use Rattle.run_places.specs.Given.RawDeclared.machines.progress.Progress.{Progress}
use Rattle.run_places.specs.Given.RawDeclared.machines.progress.Progress.TheVariants.{Refused}
use Rattle.run_places.specs.Given.RunsDeclared.call.Call.{Call}
use Rattle.run_places.specs.Given.RunsDeclared.call.Call.TheVariants.{On}
use Rattle.run_places.specs.Given.RunsDeclared.call.OneKey.{OneKey}
use Rattle.run_places.specs.Given.SchedulesLinearizable.{meaning_at}
use Rattle.run_places.specs.Given.SchedulesLists.{OneOf}
use Rattle.run_places.specs.Given.SchedulesMoment.{UnderWay as CallThere, Moment}
use Rattle.run_places.specs.Given.SchedulesSequential.{Refuses, means, key_of}
use Rattle.run_places.specs.Given.SchedulesViews.{call_of, finite_map, reply_to}
use Rattle.run_places.specs.Given.PointsFactsCalls.{Change, Unchanged}
use Rattle.run_places.specs.Given.LateKinds.{FaultFits}
use Rattle.run_places.specs.Given.CallersPairs.{Given, kind_of, RemovesNone}
use Rattle.run_places.specs.Given.CallersSights.{seen_by}
use Rattle.run_places.specs.Given.CallersTogether.{CallOnKey, OnKey}
use Rattle.run_places.specs.Given.FinishesMaps.{Standing}
use Rattle.run_places.specs.Given.EffectsKnown.{Known}
use Rattle.run_places.specs.Given.FollowsShows.{Refines}
use Rattle.run_places.proofs.Given.FollowsSteps.{WentTo, DidSo}
use Rattle.run_places.specs.Hands.Asked.{IsAskedOn, IsAskedAs}
use Rattle.run_places.proofs.Hands.Steps.{numbers_apart}
use Rattle.run_places.specs.Moments.Whole.{RefinesWhole}
use Rattle.run_histories.specs.Histories.Answers.{RefusalsWereSo}
use Rattle.run_histories.specs.Histories.Due.{HasPendingAnswer, RefinesPendingAnswers}
use Rattle.run_histories.proofs.Histories.Answers.{absent_then, kept_by, stands_on, stands_on_is}
use Rattle.run_histories.proofs.Histories.Due.{change_by, owes_then_by}
use Rattle.run_places.proofs.Changes.Meanings.{refuses_it}
use Rattle.run_histories.proofs.Histories.Roles.{stands_then, stands_is, roles_before, roles_after}
use Rattle.run_places.proofs.Changes.Steps.{to, led_on, v}
use Rattle.run_places.specs.Given.ScenesHeld.{Held, IsAt}
use Rattle.run_places.specs.Given.ScenesScene.{Scene, slot_of}
use Rattle.run_places.specs.Given.ScenesStepping.{StepLeads}
use Rattle.run_places.specs.Given.SchedulesTransition.{Past}

pub refused : {T : Type 0} (end : Called T) (fault : Fault) → Refused fault ≡ of_called end → end ≡ called.Refused fault
refused called.Goes fault e = absurd (cc e)
refused called.Waits fault e = absurd (cc e)
refused (called.Gave value) fault e = absurd (cc e)
refused (called.Unstored value) fault e = absurd (cc e)
refused (called.Asks about) fault e = absurd (cc e)
refused (called.Done other) fault e = absurd (cc e)
refused (called.Refused other) fault e = let one : other ≡ fault = cc e in ap called.Refused one

module _ {K V : Type 0} (same : K → K → Bool) (hash : ℕ → K → ℕ) (name : ℕ → List ℕ) (log : Past K V) (m : Moment K V) (known : Known) (s : Scene K V) (old new : Held K V)
    (at : IsAt same hash old s) (whole : RefinesWhole same name m known s) (dues : RefinesPendingAnswers same name log m known s) (map i : ℕ) (x : CallOnKey K V K) (here : s.calls map i ≡ Some (OnKey x))
    (fault : Fault) (leads : StepLeads same hash i (Refused fault) s old new) (c : CallThere K V) (c_is : call_of (name i) m ≡ Some c) (one : OneKey K V) (one_is : c.call ≡ On one)
    (still : finite_map same map m (key_of one) ≡ finite_map same map log.now (key_of one)) where
  abbrev said : Progress (Node K V)
  said = Refused fault

  abbrev shown : Refines same name m known s
  shown = dues.history.shown

  abbrev went : WentTo same hash name m known s old new at shown map i (OnKey x) here said leads
  went = to same hash name m known s old new at whole shown map i (OnKey x) here said leads

  abbrev st : Standing K
  st = went.0

  abbrev st2 : Standing K
  st2 = record st { chart = went.4.its_map.0; blocks = went.4.its_map.1; sights = went.4.its_map.2 }

  abbrev Did : Type 0
  Did = DidSo same hash name m known s old new at shown map i (OnKey x) here said leads (OnKey x)

  -- where it was told to remove what is not there
  abbrev NoneThere : Type 0
  NoneThere = OneOf (λ (y : Moment K V). meaning_at same one c y ≡ Refuses) (log.since c.begun)

  asked : IsAskedOn (shown.number map) st.chart.stored known x one c
  asked = subst (λ (z : Call K V). IsAskedAs (shown.number map) st.chart.stored known x z c) one_is (dues.history.asked.each map i (OnKey x) here st went.2 c c_is)

  means_so : FaultFits (kind_of x.pair).present (kind_of x.pair).absent (kind_of x.pair).takes fault → fault ≡ RemoveNothing → RemovesNone x.pair → (n : ℕ) → means one (reply_to None c.replies) None n ≡ Refuses
  means_so fits is none = refuses_it (shown.number map) st.chart.stored (numbers_apart map (shown.number map) st m known (shown.maps map st went.2).pairs) asked.asked c.replies asked.replies one
      (subst (λ (g : Given K V). FaultFits (kind_of g).present (kind_of g).absent (kind_of g).takes RemoveNothing) asked.given
      (subst (λ (f : Fault). FaultFits (kind_of x.pair).present (kind_of x.pair).absent (kind_of x.pair).takes f) is fits))
      (subst (λ (g : Given K V). RemovesNone g) asked.given none)

  none_there : fault ≡ RemoveNothing → Did → NoneThere
  none_there is (p2, end, machine_is, told_is, inl (step, moved)) =
      let it = step.step.refuses fault (refused end fault told_is) in
      let none = it.2 is in
      absent_then same hash name log m known s old new at whole dues.history map i x here said leads c c_is one one_is still Refuses (stands_then same hash name m known s old new at whole shown map i x here said leads p2 end step moved.1) (stands_is same hash name m known s old new at whole shown map i x here said leads p2 end step moved.1)
      (kept_by same hash name log m known s old new at whole dues.history map i x here said leads c c_is one one_is still Refuses step.step.went.told it.0) step.step.went.blocks2 (roles_after same hash name m known s old new at whole shown map i x here said leads p2 end step moved.1) none.1 (means_so it.1 is none.0)
  none_there is (p2, end, machine_is, told_is, inr (row, stayed)) =
      let it = row.step.refuses fault (refused end fault told_is) in
      let none = it.2 is in
      absent_then same hash name log m known s old new at whole dues.history map i x here said leads c c_is one one_is still Refuses (stands_on same hash name log m known s old new at whole dues.history map i x here said leads c c_is one one_is still Refuses (stayed.1 map)) (stands_on_is same hash name log m known s old new at whole dues.history map i x here said leads c c_is one one_is still Refuses (stayed.1 map)) refl (seen_by st.blocks (st.sights (slot_of i)))
      (roles_before same hash name m known s old new at whole shown map i x here said leads) none.1 (means_so it.1 is none.0)

  module _ (d : CallThere K V) (d_is : call_of (name i) (v same hash name m known s old new at whole shown map i (OnKey x) here said leads) ≡ Some d) where
    abbrev Owed : Change → Type 0
    Owed change = HasPendingAnswer ((led_on same hash name m known s old new at whole shown map i (OnKey x) here said leads).shows.number map) st2.chart.stored one d change

    none_owed : (did : Did) → Owed (change_by same hash name log m known s old new at whole dues map i x here said leads c c_is one one_is st2 went.4.its_map.4 d d_is did) → d.due ≡ None
    none_owed (p2, end, machine_is, told_is, inl (step, moved)) owes = subst Owed (step.step.refuses fault (refused end fault told_is)).0 owes
    none_owed (p2, end, machine_is, told_is, inr (row, stayed)) owes = subst Owed (row.step.refuses fault (refused end fault told_is)).0 owes

    pub refused_so : (d.due ≡ None) × (fault ≡ RemoveNothing → NoneThere)
    refused_so = (
      none_owed went.4.did (owes_then_by same hash name log m known s old new at whole dues map i x here said leads c c_is one one_is st2 went.4.its_map.4 d d_is),
      λ is. none_there is went.4.did,
    )

-- a call that is refused has changed nothing
module _ {K V : Type 0} (same : K → K → Bool) (hash : ℕ → K → ℕ) (name : ℕ → List ℕ) (log : Past K V) (m : Moment K V) (known : Known) (s : Scene K V) (old new : Held K V)
    (at : IsAt same hash old s) (whole : RefinesWhole same name m known s) (dues : RefinesPendingAnswers same name log m known s) (map i : ℕ) (x : CallOnKey K V K) (here : s.calls map i ≡ Some (OnKey x))
    (fault : Fault) (leads : StepLeads same hash i (Refused fault) s old new) (c : CallThere K V) (c_is : call_of (name i) m ≡ Some c) (one : OneKey K V) (one_is : c.call ≡ On one)
    (st2 : Standing K) (st2_is : (leads map (OnKey x) here).4.maps2 map ≡ Some st2) (d : CallThere K V)
    (d_is : call_of (name i) (v same hash name m known s old new at whole dues.history.shown map i (OnKey x) here (Refused fault) leads) ≡ Some d) where
  abbrev By : DidSo same hash name m known s old new at dues.history.shown map i (OnKey x) here (Refused fault) leads (OnKey x) → Change
  By did = change_by same hash name log m known s old new at whole dues map i x here (Refused fault) leads c c_is one one_is st2 st2_is d d_is did

  unchanged : (did : DidSo same hash name m known s old new at dues.history.shown map i (OnKey x) here (Refused fault) leads (OnKey x)) → By did ≡ Unchanged
  unchanged (p2, end, machine_is, told_is, inl (step, moved)) = (step.step.refuses fault (refused end fault told_is)).0
  unchanged (p2, end, machine_is, told_is, inr (row, stayed)) = (row.step.refuses fault (refused end fault told_is)).0

  pub change_refused : By (leads map (OnKey x) here).4.did ≡ Unchanged
  change_refused = unchanged (leads map (OnKey x) here).4.did

pub refusals_were_so : (K V : Type 0) (same : K → K → Bool) (hash : ℕ → K → ℕ) → RefusalsWereSo K V same hash
refusals_were_so K V same hash name log m known s old new at whole dues map i u here fault leads c c_is one one_is still d d_is =
    refused_so same hash name log m known s old new at whole dues map i u here fault leads c c_is one one_is still d d_is
