-- In the midst of an event of several steps of a call on one key, and at its end.
use Rattle.std.specs.Prelude.{◌≡◌, ℕ, ◌+◌, Bool, List, [], ◌++◌, length, flat_map, Option, Some, None, ◌⊎◌}
use Rattle.std.proofs.Common.{refl, ap, sym, subst, ◌∙◌, inl, inr}
use Rattle.std.proofs.lemmas.Grind.{flat_map-append}
use Rattle.std.proofs.lemmas.List.{append-nil}
use Rattle.run_places.specs.Given.TablesDeclared.node.Node.{Node}
use Rattle.run_places.specs.Given.RawDeclared.machines.progress.Progress.{Progress}
use Rattle.run_places.specs.Given.RunsDeclared.call.Call.TheVariants.{On}
use Rattle.run_places.specs.Given.RunsDeclared.call.OneKey.{OneKey}
use Rattle.run_places.specs.Given.RunsDeclared.call.Reply.{Reply}
use Rattle.run_places.specs.Given.RunsDeclared.effect.Effect.{Effect}
use Rattle.run_places.specs.Given.SchedulesEffects.{with_effects}
use Rattle.run_places.specs.Given.SchedulesLinearizable.{shift_of, there_for, meaning_at, ChangesOnce}
use Rattle.run_places.specs.Given.SchedulesMoment.{UnderWay as CallThere, Moment}
use Rattle.run_places.specs.Given.SchedulesSequential.{Shift, means, key_of, shifts}
use Rattle.run_places.specs.Given.SchedulesViews.{call_of, finite_map, reply_to}
use Rattle.run_places.specs.Given.PointsFactsCalls.{Change, Unchanged}
use Rattle.run_places.specs.Given.CallersTogether.{CallOnKey, UnderWay, OnKey}
use Rattle.run_places.specs.Given.SeizeWorld.{with_at}
use Rattle.run_places.proofs.Given.CallersTogether.At.{at_same}
use Rattle.run_places.specs.Given.FinishesMaps.{Standing}
use Rattle.run_places.specs.Given.EffectsEffects.{effects_of, known_after}
use Rattle.run_places.specs.Given.EffectsKnown.{Known}
use Rattle.run_places.specs.Given.EffectsDeclared.acting.Acting.TheVariants as acts
use Rattle.run_places.proofs.Hands.Replacing.{calls_after}
use Rattle.run_places.proofs.Moments.Calls.{calls_keep_whole}
use Rattle.run_histories.specs.Histories.Due.{HasPendingAnswer}
use Rattle.run_places.specs.Changes.Kept.{ChangesFirst}
use Rattle.run_histories.specs.Histories.Several.{IsSameCall, InMidst, MidstsBegin, MidstsContinue}
use Rattle.run_places.proofs.Changes.Begun.{effects_begun}
use Rattle.run_places.proofs.Changes.Changes.{changes_once}
use Rattle.run_histories.proofs.Histories.Due.{change_by, goes_on, calls_keep_due}
use Rattle.run_places.proofs.Changes.Found.{map_alike}
use Rattle.run_places.proofs.Changes.Keys.{its_call}
use Rattle.run_places.proofs.Moments.After.{effects_after}
use Rattle.run_histories.proofs.Histories.Steady.{effects_stored, Kinds, step_kinds}
use Rattle.run_places.specs.Given.ScenesHeld.{Held, IsAt}
use Rattle.run_places.specs.Given.ScenesScene.{Scene}
use Rattle.run_places.specs.Given.ScenesStepping.{StepLeads, scene_after}
use Rattle.run_places.specs.Given.SchedulesTransition.{Past}
use Rattle.run_places.proofs.Given.General.{same_some as one_of}

-- what a call has changed by a step it has changed since the beginning of the event, where nothing had changed before
module _ {K V : Type 0} (same : K → K → Bool) (map : ℕ) (one : OneKey K V) (c d : CallThere K V) (m v : Moment K V) (same_call : IsSameCall c d) (on_map : c.map ≡ map)
    (kept : (k : K) → finite_map same map v k ≡ finite_map same map m k) (stored : length v.stored ≡ length m.stored) (due : c.due ≡ None) where
  same_there : there_for same one d v ≡ there_for same one c m
  same_there = ap (λ (z : ℕ). finite_map same z v (key_of one)) (same_call.map ∙ on_map) ∙ kept (key_of one) ∙ ap (λ (z : ℕ). finite_map same z m (key_of one)) (sym on_map)

  same_new : length v.stored + 1 ≡ length m.stored + 1
  same_new = ap (λ (z : ℕ). z + 1) stored

  same_meaning : meaning_at same one d v ≡ meaning_at same one c m
  same_meaning =
      ap (λ (o : Option ℕ). means one (reply_to o d.replies) o (length v.stored + 1)) same_there
      ∙ ap (λ (r : List (Option ℕ × Reply V)). means one (reply_to (there_for same one c m) r) (there_for same one c m) (length v.stored + 1)) same_call.replies
      ∙ ap (λ (z : ℕ). means one (reply_to (there_for same one c m) c.replies) (there_for same one c m) z) same_new

  pub once_from : (done : List Shift) → ChangesOnce same one d v done → ChangesOnce same one c m done
  once_from done (inl none) = inl none
  once_from done (inr (its_due, a, deed, meaning, did)) = inr (
    due,
    a,
    deed,
    sym same_meaning ∙ meaning,
    did ∙ ap (λ (o : Option ℕ). shifts o (length v.stored + 1) deed) same_there ∙ ap (λ (z : ℕ). shifts (there_for same one c m) z deed) same_new,
  )

module _ {K V : Type 0} (same : K → K → Bool) (name : ℕ → List ℕ) (log : Past K V) (map i : ℕ) where
  -- a call after effects of its own is the same call
  pub call_then : (effects : List Effect) (m : Moment K V) (c : CallThere K V) → call_of (name i) m ≡ Some c → (d : CallThere K V) → call_of (name i) (with_effects (Some (name i)) (Some map) effects m) ≡ Some d → IsSameCall c d
  call_then effects m c c_is d d_is =
      let now = calls_after (name i) map (name i) effects m c c_is in
      let one_now : d ≡ now.0 = one_of d now.0 (sym d_is ∙ now.1) in
      let begun = effects_begun (name i) map (name i) effects m c c_is in record {
        map = ap (λ (z : CallThere K V). z.map) one_now ∙ now.2.0.map;
        call = ap (λ (z : CallThere K V). z.call) one_now ∙ now.2.0.call;
        replies = ap (λ (z : CallThere K V). z.replies) one_now ∙ now.2.0.replies;
        begun = ap (λ (z : CallThere K V). z.begun) (one_of d begun.0 (sym d_is ∙ begun.1)) ∙ begun.2;
      }

pub same_then : {K V : Type 0} (c d e : CallThere K V) → IsSameCall c d → IsSameCall d e → IsSameCall c e
same_then c d e h k = record { map = k.map ∙ h.map; call = k.call ∙ h.call; replies = k.replies ∙ h.replies; begun = k.begun ∙ h.begun }

module _ {K V : Type 0} (same : K → K → Bool) (hash : ℕ → K → ℕ) (name : ℕ → List ℕ) (log : Past K V) (beginning : Moment K V) (map i : ℕ) (one : OneKey K V) (c : CallThere K V) (one_is : c.call ≡ On one)
    (done : List Effect) (m : Moment K V) (known : Known) (s : Scene K V) (u : CallOnKey K V K) (midst : InMidst same name log beginning map i one c done m known s u)
    (old new : Held K V) (at : IsAt same hash old s) (said : Progress (Node K V)) (leads : StepLeads same hash i said s old new) where
  abbrev pub step_effects : List Effect
  step_effects = effects_of (acts.Call i map) known new.changed

  abbrev pub then_at : Moment K V
  then_at = with_effects (Some (name i)) (Some map) step_effects m

  abbrev there : CallThere K V
  there = midst.there

  abbrev pub there_one : there.call ≡ On one
  there_one = midst.same_call.call ∙ one_is

  -- the call after the step
  abbrev pub d : CallThere K V
  d = (calls_after (name i) map (name i) step_effects m there midst.there_is).0

  pub d_is : call_of (name i) then_at ≡ Some d
  d_is = (calls_after (name i) map (name i) step_effects m there midst.there_is).1

  pub d_same : IsSameCall c d
  d_same = same_then c there d midst.same_call (call_then same name log map i step_effects m there midst.there_is d d_is)

  abbrev st2 : Standing K
  st2 = record (leads map (OnKey u) midst.here).0 {
    chart = (leads map (OnKey u) midst.here).4.its_map.0;
    blocks = (leads map (OnKey u) midst.here).4.its_map.1;
    sights = (leads map (OnKey u) midst.here).4.its_map.2;
  }

  abbrev pub by : Change
  by = change_by same hash name log m known s old new at midst.whole midst.dues map i u midst.here said leads there midst.there_is one there_one st2 (leads map (OnKey u) midst.here).4.its_map.4 d d_is
      (leads map (OnKey u) midst.here).4.did

  abbrev ItsKinds : Type 0
  ItsKinds = Kinds same hash name log m known s old new at midst.whole midst.dues map i u midst.here said leads there midst.there_is one there_one st2 (leads map (OnKey u) midst.here).4.its_map.4 d d_is by

  its_kinds : ItsKinds
  its_kinds = step_kinds same hash name log m known s old new at midst.whole midst.dues map i u midst.here said leads there midst.there_is one there_one st2 (leads map (OnKey u) midst.here).4.its_map.4 d d_is

  on_map : c.map ≡ map
  on_map = sym midst.same_call.map ∙ (its_call same name m known s midst.dues.history.shown map i u midst.here there midst.there_is one there_one).0

  its_changes : ChangesOnce same one there m (flat_map shift_of step_effects)
  its_changes =
      changes_once same hash name m known s old new at midst.whole midst.whole.all.shown midst.whole.all.asked map i u midst.here said leads there midst.there_is one there_one
      (midst.dues.taken map i (OnKey u) midst.here there midst.there_is one there_one)
      (λ none. subst (λ (x : Change). HasPendingAnswer (midst.dues.history.shown.number map) (leads map (OnKey u) midst.here).0.chart.stored one there x) none
      (midst.dues.owes map i u midst.here (leads map (OnKey u) midst.here).0 (leads map (OnKey u) midst.here).2 there midst.there_is one there_one))

  all_shifts : flat_map shift_of (done ++ step_effects) ≡ flat_map shift_of done ++ flat_map shift_of step_effects
  all_shifts = flat_map-append shift_of done step_effects

  -- its class has changed once at most since the event began
  pub changes_then : ChangesOnce same one c beginning (flat_map shift_of (done ++ step_effects))
  changes_then = subst (λ (l : List Shift). ChangesOnce same one c beginning l) (sym all_shifts) (kind its_kinds)
    where
      kind : ItsKinds → ChangesOnce same one c beginning (flat_map shift_of done ++ flat_map shift_of step_effects)
      kind (inl (e, none, kept)) =
          subst (λ (l : List Shift). ChangesOnce same one c beginning (flat_map shift_of done ++ l)) (sym none)
          (subst (λ (l : List Shift). ChangesOnce same one c beginning l) (sym (append-nil (flat_map shift_of done))) midst.changes)
      kind (inr (unchanged, first)) =
          let so = midst.untouched unchanged in
          subst (λ (l : List Shift). ChangesOnce same one c beginning (l ++ flat_map shift_of step_effects)) (sym so.0)
          (once_from same map one c there beginning m midst.same_call on_map so.1 so.2 so.3 (flat_map shift_of step_effects) its_changes)

  -- and not, as long as the call has changed nothing
  pub untouched_then : by ≡ Unchanged
      → (flat_map shift_of (done ++ step_effects) ≡ []) × ((k : K) → finite_map same map then_at k ≡ finite_map same map beginning k) × (length then_at.stored ≡ length beginning.stored) × (c.due ≡ None)
  untouched_then none = kind its_kinds
    where
      kind : ItsKinds → (flat_map shift_of (done ++ step_effects) ≡ []) × ((k : K) → finite_map same map then_at k ≡ finite_map same map beginning k)
          × (length then_at.stored ≡ length beginning.stored) × (c.due ≡ None)
      kind (inl (e, no_shift, kept)) = (let so = midst.untouched (sym e ∙ none) in (
        all_shifts ∙ ap (λ (l : List Shift). l ++ flat_map shift_of step_effects) so.0 ∙ no_shift,
        λ k. kept k ∙ so.1 k,
        ap (λ (l : List (K × V)). length l) (effects_stored (Some (name i)) (Some map) step_effects m no_shift) ∙ so.2,
        so.3,
      ))
      kind (inr (unchanged, first)) = absurd (first none)

  -- it had changed nothing before, if it has changed nothing then
  pub unchanged_before : by ≡ Unchanged → u.change ≡ Unchanged
  unchanged_before none = kind its_kinds
    where
      kind : ItsKinds → u.change ≡ Unchanged
      kind (inl (e, no_shift, kept)) = sym e ∙ none
      kind (inr (unchanged, first)) = unchanged

  pub first_change : ChangesFirst log m same map then_at
  first_change k = kind its_kinds
    where
      kind : ItsKinds → (finite_map same map then_at k ≡ finite_map same map m k) ⊎ (finite_map same map m k ≡ finite_map same map log.now k)
      kind (inl (e, no_shift, kept)) = inl (kept k)
      kind (inr (unchanged, first)) = inr ((midst.untouched unchanged).1 k ∙ map_alike same map k log.now beginning midst.begins.0 midst.begins.1)

  pub worked_then : then_at ≡ with_effects (Some (name i)) (Some map) (done ++ step_effects) beginning
  worked_then = ap (λ (x : Moment K V). with_effects (Some (name i)) (Some map) step_effects x) midst.worked ∙ sym (effects_after (Some (name i)) (Some map) done step_effects beginning)

  module _ (next : CallOnKey K V K) (goes : (leads map (OnKey u) midst.here).4.next ≡ Some (OnKey next)) where
    here_then : (scene_after same s old new map i (leads map (OnKey u) midst.here).0 (OnKey u) (leads map (OnKey u) midst.here).1 said (leads map (OnKey u) midst.here).4).calls map i ≡ Some (OnKey next)
    here_then =
        ap (λ (f : ℕ → Option (UnderWay K V K)). f i) (at_same s.calls map (with_at (s.calls map) i (leads map (OnKey u) midst.here).4.next) map refl)
        ∙ at_same (s.calls map) i (leads map (OnKey u) midst.here).4.next i refl ∙ goes

    change_is : next.change ≡ by
    change_is = goes_on same hash name log m known s old new at midst.whole midst.dues map i u midst.here said leads there midst.there_is one there_one st2 (leads map (OnKey u) midst.here).4.its_map.4 d d_is next goes
        (leads map (OnKey u) midst.here).4.did

    pub midst_then : InMidst same name log beginning map i one c (done ++ step_effects) then_at (known_after (acts.Call i map) new.changed known)
        (scene_after same s old new map i (leads map (OnKey u) midst.here).0 (OnKey u) (leads map (OnKey u) midst.here).1 said (leads map (OnKey u) midst.here).4) next
    midst_then = record {
      here = here_then;
      whole = calls_keep_whole K V same hash name m known s old new at midst.whole map i (OnKey u) midst.here said leads;
      dues = calls_keep_due K V same hash name log m known s old new at midst.whole midst.dues map i (OnKey u) midst.here said leads first_change;
      begins = midst.begins;
      worked = worked_then;
      there = d;
      there_is = d_is;
      same_call = d_same;
      changes = changes_then;
      untouched = λ none. untouched_then (sym change_is ∙ none);
    }

-- a map on which a call is under way stands
pub stands : {K V : Type 0} (same : K → K → Bool) (hash : ℕ → K → ℕ) (s : Scene K V) (e : Held K V) → IsAt same hash e s → (map i : ℕ) (x : UnderWay K V K) → s.calls map i ≡ Some x
    → (st : Standing K) × (s.maps map ≡ Some st)
stands same hash s e at map i x here = by (s.maps map) refl
  where
    by : (o : Option (Standing _)) → s.maps map ≡ o → (st : Standing _) × (s.maps map ≡ Some st)
    by None gone = absurd (let none = at.together.makings.standing.only map i gone in cc (none, here))
    by (Some st) is = (st, is)

module _ (K V : Type 0) (same : K → K → Bool) (hash : ℕ → K → ℕ) where
  pub midsts_begin : MidstsBegin K V same hash
  midsts_begin name log beginning begins known s e at whole dues map i u here c c_is one one_is = record {
    here = here;
    whole = whole;
    dues = dues;
    begins = begins;
    worked = refl;
    there = c;
    there_is = c_is;
    same_call = record { map = refl; call = refl; replies = refl; begun = refl };
    changes = inl refl;
    untouched = λ none. (
      refl,
      λ k. refl,
      refl,
      (let st = stands same hash s e at map i (OnKey u) here in
          subst (λ (x : Change). HasPendingAnswer (dues.history.shown.number map) st.0.chart.stored one c x) none (dues.owes map i u here st.0 st.1 c c_is one one_is)),
    );
  }

  pub midsts_go_on : MidstsContinue K V same hash
  midsts_go_on name log beginning map i one c one_is done m known s u midst old new at said leads next goes = midst_then same hash name log beginning map i one c one_is done m known s u midst old new at said leads next goes
