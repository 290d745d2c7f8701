-- A step of a call, of whichever kind: it finds what it counts, and each has to count what the moment says after it.
use Rattle.std.specs.Prelude.{◌≡◌, ◌+◌, ℕ, Bool, true, false, List, Option, Some, None, option_map, if◌then◌else◌}
use Rattle.std.proofs.Common.{refl, ap, sym, subst, ◌∙◌, inl, inr}
use Rattle.run_places.specs.Given.RunsSame.{is_same}
use Rattle.run_places.specs.Given.TablesDeclared.node.Node.{Node}
use Rattle.run_places.specs.Given.RawDeclared.machines.machine.Machine.{Machine}
use Rattle.run_places.specs.Given.RawDeclared.machines.progress.Progress.{Progress}
use Rattle.run_places.specs.Given.RunsDeclared.call.Call.{Call}
use Rattle.run_places.specs.Given.RunsDeclared.call.Call.TheVariants as call
use Rattle.run_places.specs.Given.RunsDeclared.call.Call.TheVariants.{On}
use Rattle.run_places.specs.Given.RunsDeclared.effect.Effect.{Effect}
use Rattle.run_places.specs.Given.SchedulesEffects.{with_effects}
use Rattle.run_places.specs.Given.SchedulesMoment.{UnderWay as CallThere, Moment}
use Rattle.run_places.specs.Given.SchedulesViews.{call_of}
use Rattle.owner_facts.specs.Given.CallersTogether.{UnderWay, OnKey, ForRoom, Counting, OverAll}
use Rattle.run_places.specs.Given.EffectsEffects.{effects_of}
use Rattle.run_places.specs.Given.EffectsKnown.{Known}
use Rattle.run_places.specs.Given.EffectsDeclared.acting.Acting.TheVariants as acts
use Rattle.owner_facts.specs.Given.FinishesMachines.{machine_of, ContinuesAs}
use Rattle.run_places.specs.Given.FollowsCalls.{IsCalled}
use Rattle.run_places.specs.Given.FollowsShows.{Refines}
use Rattle.run_places.specs.Given.FollowsSteps.{TakesNone}
use Rattle.run_places.proofs.Given.FollowsSteps.{WentTo, went_to, DidSo, OfNoRow}
use Rattle.run_places.specs.Hands.Asked.{IsAskedAs}
use Rattle.run_places.proofs.Hands.Asking.{which}
use Rattle.run_places.proofs.Hands.Calling.{caller_is}
use Rattle.run_places.proofs.Hands.RowSteps.{rows_hand_theirs}
use Rattle.run_places.specs.Moments.Whole.{RefinesWhole}
use Rattle.run_debts.specs.Counts.{is_to_count, HasToCount, RefinesCounts, shard_for, FindCounts}
use Rattle.run_debts.specs.Keeping.{CallsPreserveCounts}
use Rattle.run_debts.proofs.Gains.{CountGoes, Left, counts_left, others_stay}
use Rattle.run_debts.proofs.Keys.{key_counts}
use Rattle.run_debts.proofs.Rest.{room_counts, sum_counts, sweep_counts}
use Rattle.run_places.proofs.Given.ScenesGoes.{goes_as}
use Rattle.run_places.specs.Given.ScenesHeld.{Held, IsAt}
use Rattle.run_places.specs.Given.ScenesScene.{Scene}
use Rattle.run_places.specs.Given.ScenesStepping.{StepLeads, going_on, has_ended, scene_after}
use Rattle.run_places.proofs.Given.General.{same_some as one_of}

-- a call that goes on is the machine that it has come to
pub goes_as_one : {K V : Type 0} (machine : Machine K V K) (said : Progress (Node K V)) (next : Option (UnderWay K V K)) → ContinuesAs machine said next → (x : UnderWay K V K) → next ≡ Some x → machine_of x ≡ machine
goes_as_one machine said next goes x is = by (has_ended said) refl
  where
    whole : Some (machine_of x) ≡ going_on machine said
    whole = ap (option_map machine_of) (sym is) ∙ goes_as machine said next goes

    by : (q : Bool) → has_ended said ≡ q → machine_of x ≡ machine
    by true e = absurd (let none : Some (machine_of x) ≡ None = whole ∙ ap (λ (q : Bool). if q then None else Some machine) e in cc none)
    by false e = (let some : Some (machine_of x) ≡ Some machine = whole ∙ ap (λ (q : Bool). if q then None else Some machine) e in cc some)

module _ {K V : Type 0} (same : K → K → Bool) (hash : ℕ → K → ℕ) (name : ℕ → List ℕ) (m : Moment K V) (known : Known) (s : Scene K V) (old new : Held K V) (at : IsAt same hash old s)
    (whole : RefinesWhole same name m known s) (shows : RefinesCounts name m s) (map i : ℕ) (u : UnderWay K V K) (here : s.calls map i ≡ Some u) (said : Progress (Node K V))
    (leads : StepLeads same hash i said s old new) where
  abbrev shown : Refines same name m known s
  shown = whole.all.shown

  abbrev to : WentTo same hash name m known s old new at shown map i u here said leads
  to = went_to same hash name m known s old new at shown map i u here said leads

  abbrev effects : List Effect
  effects = effects_of (acts.Call i map) known new.changed

  abbrev shard : ℕ
  shard = shard_for i to.0.setting

  abbrev v : Moment K V
  v = with_effects (Some (name i)) (Some map) effects m

  abbrev Did : UnderWay K V K → Type 0
  Did x = DidSo same hash name m known s old new at shown map i u here said leads x

  abbrev NoRow : (x : UnderWay K V K) → Did x → Type 0
  NoRow x done = OfNoRow same hash name m known s old new at shown map i u here said leads x done

  takes : (NoRow u to.4.did → ⊥) → TakesNone new.changed
  takes other = (rows_hand_theirs K V same hash name m known s old new at whole.all map i u here said leads other).1

  -- a call on one key may store a pair
  abbrev pub MayStore : UnderWay K V K → Type 0
  MayStore (OnKey x) = Unit {0}
  MayStore _ = ⊥

  -- what the step does, by the kind of the call
  abbrev Does : UnderWay K V K → Type 0
  Does x = CountGoes (MayStore x) shard effects (is_to_count (machine_of x)) (is_to_count to.1) × (to.4.next ≡ None → is_to_count to.1 ≡ false)

  abbrev pub its : (c : CallThere K V) × (call_of (name i) m ≡ Some c) × (c.map ≡ map) × IsCalled same u c.call
  its = shown.calls map i u here

  -- between its steps a call on one key replaces nothing
  pub replaces_none : MayStore u → its.0.replacing ≡ None
  replaces_none may = by u refl may its.0.call its.3 refl
    where
      by : (x : UnderWay K V K) → u ≡ x → MayStore x → (called : Call K V) → IsCalled same u called → its.0.call ≡ called → its.0.replacing ≡ None
      by (OnKey x) is may (On one) called call_is =
          (subst (λ (z : Call K V). IsAskedAs (shown.number map) to.0.chart.stored known x z its.0) call_is (whole.all.asked.each map i (OnKey x) (here ∙ ap Some is) to.0 to.2 its.0 its.1)).replacing
      by (OnKey x) is may (call.Reserve n) called call_is = absurd (subst (λ (z : UnderWay K V K). IsCalled same z (call.Reserve n)) is called)
      by (OnKey x) is may call.Clear called call_is = absurd (subst (λ (z : UnderWay K V K). IsCalled same z call.Clear) is called)
      by (OnKey x) is may call.Retain called call_is = absurd (subst (λ (z : UnderWay K V K). IsCalled same z call.Retain) is called)
      by (OnKey x) is may call.Len called call_is = absurd (subst (λ (z : UnderWay K V K). IsCalled same z call.Len) is called)
      by (OnKey x) is may call.Walk called call_is = absurd (subst (λ (z : UnderWay K V K). IsCalled same z call.Walk) is called)
      by (ForRoom x) is may called_as called call_is = absurd may
      by (Counting x) is may called_as called call_is = absurd may
      by (OverAll x) is may called_as called call_is = absurd may

  module _ (does : Does u) where
    own_left : Left shard (name i) map effects m (HasToCount (is_to_count to.1))
    own_left = counts_left shard (name i) map m its.0 its.1 (MayStore u) effects (is_to_count (machine_of u)) (is_to_count to.1) replaces_none (shows.counts map i u here its.0 its.1) does.0

    own_has : (d : CallThere K V) → call_of (name i) v ≡ Some d → HasToCount (is_to_count to.1) (d.gained + d.lost)
    own_has d is = subst (λ (x : CallThere K V). HasToCount (is_to_count to.1) (x.gained + x.lost)) (one_of own_left.1 d (sym own_left.2 ∙ is)) own_left.3

    -- others have what they had
    other_has : (n j : ℕ) (x : UnderWay K V K) → (n ≡ map → j ≡ i → ⊥) → s.calls n j ≡ Some x → (d : CallThere K V) → call_of (name j) v ≡ Some d → HasToCount (is_to_count (machine_of x)) (d.gained + d.lost)
    other_has n j x apart was d is =
        let c = shown.calls n j x was in
        let stays = others_stay (name i) map (name j) effects m c.0 (by c.0 c.1 (is_same c.0.caller (name i)) refl) c.1 in
        subst (λ (y : CallThere K V). HasToCount (is_to_count (machine_of x)) (y.gained + y.lost)) (one_of c.0 d (sym stays ∙ is)) (shows.counts n j x was c.0 c.1)
      where
        by : (c : CallThere K V) → call_of (name j) m ≡ Some c → (q : Bool) → is_same c.caller (name i) ≡ q → is_same c.caller (name i) ≡ false
        by c c_is true e =
            absurd (let names : is_same (name j) (name i) ≡ true = ap (λ (l : List ℕ). is_same l (name i)) (sym (caller_is (name j) m c c_is)) ∙ e in
            let both = whole.all.asked.apart n j map i x u was here names in apart both.0 both.1)
        by c c_is false e = e

    has_then : (n j : ℕ) (x : UnderWay K V K) → (scene_after same s old new map i to.0 u to.1 said to.4).calls n j ≡ Some x → (d : CallThere K V) → call_of (name j) v ≡ Some d
        → HasToCount (is_to_count (machine_of x)) (d.gained + d.lost)
    has_then n j x is d d_is = elim (which s.calls map i to.4.next n j x is) as (λ _. HasToCount (is_to_count (machine_of x)) (d.gained + d.lost)) [
      | inl it ↦
          subst (λ (y : Machine K V K). HasToCount (is_to_count y) (d.gained + d.lost)) (sym (goes_as_one to.1 said to.4.next to.4.goes_on x it.2))
          (own_has d (ap (λ (k : ℕ). call_of (name k) v) (sym it.1) ∙ d_is))
      | inr was ↦ other_has n j x was.0 was.1 d d_is
    ]

    none_then : to.4.next ≡ None → (d : CallThere K V) → call_of (name i) v ≡ Some d → d.gained + d.lost ≡ 0
    none_then none d is = subst (λ (q : Bool). HasToCount q (d.gained + d.lost)) (does.1 none) (own_has d is)

    abbrev Kept : Type 0
    Kept =
        FindCounts shard (name i) map effects m × RefinesCounts name v (scene_after same s old new map i to.0 u to.1 said to.4)
        × (to.4.next ≡ None → (d : CallThere K V) → call_of (name i) v ≡ Some d → d.gained + d.lost ≡ 0)

    pub kept : Kept
    kept = (own_left.0, record { counts = has_then }, none_then)

pub calls_keep_counts : (K V : Type 0) (same : K → K → Bool) (hash : ℕ → K → ℕ) → CallsPreserveCounts K V same hash
calls_keep_counts K V same hash name m known s old new at whole shows map i (OnKey x) here said leads =
    kept same hash name m known s old new at whole shows map i (OnKey x) here said leads
    (key_counts same hash name m known s old new at whole.all.shown map i x here said leads (leads map (OnKey x) here).4.did (takes same hash name m known s old new at whole shows map i (OnKey x) here said leads))
calls_keep_counts K V same hash name m known s old new at whole shows map i (ForRoom x) here said leads =
    kept same hash name m known s old new at whole shows map i (ForRoom x) here said leads
    (room_counts same hash name m known s old new at whole.all.shown map i (ForRoom x) here said leads x refl (leads map (ForRoom x) here).4.did
    (takes same hash name m known s old new at whole shows map i (ForRoom x) here said leads))
calls_keep_counts K V same hash name m known s old new at whole shows map i (Counting x) here said leads =
    kept same hash name m known s old new at whole shows map i (Counting x) here said leads
    (sum_counts same hash name m known s old new at whole.all.shown map i (Counting x) here said leads x refl (leads map (Counting x) here).4.did)
calls_keep_counts K V same hash name m known s old new at whole shows map i (OverAll x) here said leads =
    kept same hash name m known s old new at whole shows map i (OverAll x) here said leads
    (sweep_counts same hash name m known s old new at whole.all.shown map i (OverAll x) here said leads x refl (leads map (OverAll x) here).4.did
    (takes same hash name m known s old new at whole shows map i (OverAll x) here said leads))
