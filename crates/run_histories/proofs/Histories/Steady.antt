-- What a step of a call on one key changes of its class: nothing, or the call had changed nothing before and has now.
use Rattle.std.specs.Prelude.{◌≡◌, ℕ, Bool, List, [], ◌∷◌, flat_map, Option, Some, None, ◌⊎◌}
use Rattle.std.proofs.Common.{refl, ap, sym, ◌∙◌, inl, inr}
use Rattle.run_places.specs.Given.TablesChunks.{is_incremental}
use Rattle.run_places.specs.Given.TablesDeclared.node.Node.{Node}
use Rattle.run_places.specs.Given.RawDeclared.machines.progress.Progress.{Progress}
use Rattle.run_places.specs.Given.RunsDeclared.call.Call.TheVariants.{On}
use Rattle.run_places.specs.Given.RunsDeclared.call.OneKey.{OneKey}
use Rattle.run_places.specs.Given.RunsDeclared.effect.Effect.{Effect}
use Rattle.run_places.specs.Given.RunsDeclared.effect.Effect.TheVariants as effect
use Rattle.run_places.specs.Given.SchedulesEffects.{stored_by, with_effect, with_effects}
use Rattle.run_places.specs.Given.SchedulesEntry.{acting}
use Rattle.run_places.specs.Given.SchedulesLinearizable.{shift_of}
use Rattle.run_places.specs.Given.SchedulesMoment.{UnderWay as CallThere, Moment}
use Rattle.run_places.specs.Given.SchedulesViews.{call_of, finite_map}
use Rattle.run_places.specs.Given.RuleChart.{Chart}
use Rattle.run_places.specs.Given.PointsFactsCalls.{Change, Unchanged, Stored, Replaced, Removed, Changes}
use Rattle.run_places.specs.Given.CallersTogether.{CallOnKey, OnKey, change_observed}
use Rattle.run_places.specs.Given.FinishesMaps.{Standing}
use Rattle.run_places.specs.Given.EffectsEffects.{effects_of}
use Rattle.run_places.specs.Given.EffectsKnown.{Known}
use Rattle.run_places.specs.Given.EffectsDeclared.acting.Acting.TheVariants as acts
use Rattle.run_places.specs.Given.FollowsShows.{Refines}
use Rattle.run_places.specs.Given.FollowsSteps.{TakesNone}
use Rattle.run_places.proofs.Given.FollowsSteps.{WentTo}
use Rattle.run_places.proofs.Hands.RowSteps.{rows_hand_theirs}
use Rattle.run_places.specs.Moments.Whole.{RefinesWhole}
use Rattle.run_places.proofs.Moments.OnSlots.{stood_same}
use Rattle.run_histories.specs.Histories.Due.{RefinesPendingAnswers}
use Rattle.run_places.proofs.Changes.Changes.{ToldOnce, told_once, none_by, its_shifts, by_row, DidSoHere, NoRow}
use Rattle.run_places.proofs.Changes.Dues.{none_of}
use Rattle.run_histories.proofs.Histories.Due.{taken, nothing_due, change_by}
use Rattle.run_histories.proofs.Histories.Roles.{stands_then, stands_is}
use Rattle.run_places.proofs.Changes.Steps.{to, v, same_pairs}
use Rattle.run_places.specs.Given.ScenesHeld.{Held, IsAt}
use Rattle.run_places.specs.Given.ScenesScene.{Scene, slot_of}
use Rattle.run_places.specs.Given.ScenesStepping.{StepLeads}
use Rattle.run_places.specs.Given.SchedulesTransition.{Past}
use Rattle.run_places.proofs.Given.General.{same_some as one_of}

-- a moment after effects that shift no pair has the pairs that it had
module _ {K V : Type 0} where
  stored_kept : (o : Option (CallThere K V)) (f : Effect) (stored : List (K × V)) → shift_of f ≡ [] → stored_by o f stored ≡ stored
  stored_kept None f stored none = refl
  stored_kept (Some c) (effect.Stored n s) stored none = absurd (cc none)
  stored_kept (Some c) _ stored none = refl

  pub effects_stored : (caller : Option (List ℕ)) (acted : Option ℕ) (effects : List Effect) (m : Moment K V) → flat_map shift_of effects ≡ [] → (with_effects caller acted effects m).stored ≡ m.stored
  effects_stored caller acted [] m none = refl
  effects_stored caller acted (f ∷ effects) m none =
      let two = none_of (shift_of f) (flat_map shift_of effects) none in
      effects_stored caller acted effects (with_effect caller acted f m) two.1 ∙ stored_kept (acting caller m) f m.stored two.0

module _ {K V : Type 0} (same : K → K → Bool) (hash : ℕ → K → ℕ) (name : ℕ → List ℕ) (log : Past K V) (m : Moment K V) (known : Known) (s : Scene K V) (old new : Held K V)
    (at : IsAt same hash old s) (whole : RefinesWhole same name m known s) (dues : RefinesPendingAnswers same name log m known s) (map i : ℕ) (z : CallOnKey K V K) (here : s.calls map i ≡ Some (OnKey z))
    (said : Progress (Node K V)) (leads : StepLeads same hash i said s old new) (c : CallThere K V) (c_is : call_of (name i) m ≡ Some c) (one : OneKey K V) (one_is : c.call ≡ On one)
    (st2 : Standing K) (st2_is : (leads map (OnKey z) here).4.maps2 map ≡ Some st2) (d : CallThere K V)
    (d_is : call_of (name i) (v same hash name m known s old new at whole dues.history.shown map i (OnKey z) here said leads) ≡ Some d) where
  abbrev shown : Refines same name m known s
  shown = dues.history.shown

  abbrev went : WentTo same hash name m known s old new at shown map i (OnKey z) here said leads
  went = to same hash name m known s old new at whole shown map i (OnKey z) here said leads

  abbrev effects : List Effect
  effects = effects_of (acts.Call i map) known new.changed

  abbrev v2 : Moment K V
  v2 = v same hash name m known s old new at whole shown map i (OnKey z) here said leads

  abbrev DidHere : Type 0
  DidHere = DidSoHere same hash name m known s old new at whole shown dues.history.asked map i z here said leads c c_is one one_is (taken same hash name log m known s old new at whole dues map i z here said leads c c_is one one_is st2 st2_is d d_is) (nothing_due same hash name log m known s old new at whole dues map i z here said leads c c_is one one_is st2 st2_is d d_is)

  abbrev By : DidHere → Change
  By did = change_by same hash name log m known s old new at whole dues map i z here said leads c c_is one one_is st2 st2_is d d_is did

  -- nothing, or a first change
  abbrev pub Kinds : Change → Type 0
  Kinds change = ((change ≡ z.change) × (flat_map shift_of effects ≡ []) × ((k : K) → finite_map same map v2 k ≡ finite_map same map m k)) ⊎ ((z.change ≡ Unchanged) × ((change ≡ Unchanged) → ⊥))

  first : (c2 : Chart K) (change : Change) → z.change ≡ Unchanged → ((c2.current ≡ went.0.chart.current) → Kinds Unchanged) → Changes same went.0.hash (is_incremental went.0.setting.mode) z.keys went.0.chart c2 change → Kinds change
  first c2 Unchanged unchanged kept changes = kept changes
  first c2 (Stored n) unchanged kept changes = inr (unchanged, λ e. cc e)
  first c2 (Replaced o n) unchanged kept changes = inr (unchanged, λ e. cc e)
  first c2 (Removed n) unchanged kept changes = inr (unchanged, λ e. cc e)

  kinds : (did : DidHere) → ((NoRow same hash name m known s old new at whole shown dues.history.asked map i z here said leads c c_is one one_is (taken same hash name log m known s old new at whole dues map i z here said leads c c_is one one_is st2 st2_is d d_is) (nothing_due same hash name log m known s old new at whole dues map i z here said leads c c_is one one_is st2 st2_is d d_is) did → ⊥) → TakesNone new.changed) → Kinds (By did)
  kinds (p2, end, machine_is, told_is, inl (step, moved)) takes = by_told (told_once same hash name m known s old new at whole shown dues.history.asked map i z here said leads c c_is one one_is (taken same hash name log m known s old new at whole dues map i z here said leads c c_is one one_is st2 st2_is d d_is) (nothing_due same hash name log m known s old new at whole dues map i z here said leads c c_is one one_is st2 st2_is d d_is) step.step.went.told)
    where
      change : Change
      change = change_observed V same went.0.hash same went.0.setting slot_of step.step.went.told

      kept : step.step.went.c2.current ≡ went.0.chart.current → (flat_map shift_of effects ≡ []) × ((k : K) → finite_map same map v2 k ≡ finite_map same map m k)
      kept cur = (
        none_by same hash name m known s old new at whole shown dues.history.asked map i z here said leads c c_is one one_is (taken same hash name log m known s old new at whole dues map i z here said leads c c_is one one_is st2 st2_is d d_is) (nothing_due same hash name log m known s old new at whole dues map i z here said leads c c_is one one_is st2 st2_is d d_is) step.step.went.c2 (its_shifts same hash name m known s old new at whole shown dues.history.asked map i z here said leads c c_is one one_is (taken same hash name log m known s old new at whole dues map i z here said leads c c_is one one_is st2 st2_is d d_is) (nothing_due same hash name log m known s old new at whole dues map i z here said leads c c_is one one_is st2 st2_is d d_is) p2 end step) cur,
        λ k. same_pairs same hash name m known s old new at whole shown map i (OnKey z) here said leads map (stands_then same hash name m known s old new at whole shown map i z here said leads p2 end step moved.1) (stands_is same hash name m known s old new at whole shown map i z here said leads p2 end step moved.1) went.0 went.2 cur k,
      )

      by_told : ToldOnce same hash name m known s old new at whole shown dues.history.asked map i z here said leads c c_is one one_is (taken same hash name log m known s old new at whole dues map i z here said leads c c_is one one_is st2 st2_is d d_is) (nothing_due same hash name log m known s old new at whole dues map i z here said leads c c_is one one_is st2 st2_is d d_is) step.step.went.c2 change → Kinds change
      by_told (inl (e, cur)) = inl (e, (kept cur).0, (kept cur).1)
      by_told (inr (unchanged, changes)) = first step.step.went.c2 change unchanged (λ cur. inl (sym unchanged, (kept cur).0, (kept cur).1)) changes
  kinds (p2, end, machine_is, told_is, inr (row, stayed)) takes = inl (
    refl,
    by_row same hash name m known s old new at whole shown dues.history.asked map i z here said leads c c_is one one_is (taken same hash name log m known s old new at whole dues map i z here said leads c c_is one one_is st2 st2_is d d_is) (nothing_due same hash name log m known s old new at whole dues map i z here said leads c c_is one one_is st2 st2_is d d_is) (takes (λ no_one. no_one)) (p2, end, machine_is, told_is, inr (row, stayed)) (λ no_one. no_one),
    λ k. same_pairs same hash name m known s old new at whole shown map i (OnKey z) here said leads map st2 st2_is went.0 went.2 same_chart k,
  )
    where
      same_chart : st2.chart.current ≡ went.0.chart.current
      same_chart =
          let it = stood_same (s.maps map) (went.4.maps2 map) (stayed.1 map) st2 st2_is in
          ap (λ (x : Chart K). x.current) it.2 ∙ ap (λ (x : Standing K). x.chart.current) (one_of it.0 went.0 (sym it.1 ∙ went.2))

  pub step_kinds : Kinds (By went.4.did)
  step_kinds = kinds went.4.did (λ other. (rows_hand_theirs K V same hash name m known s old new at whole.all map i (OnKey z) here said leads other).1)
