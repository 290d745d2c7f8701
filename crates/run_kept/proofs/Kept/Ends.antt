-- That each copying that is not over has who ends it, beside the steps of calls: before all events, as calls begin, are told and are given up, by rows on slots, and by makings and ends of maps.
use Rattle.std.specs.Prelude.{Bool, true, false, List, Option, Some, None, nat_lt, if◌then◌else◌}
use Rattle.std.proofs.Common.{◌≡◌, ℕ, ◌≤◌, ◌⊎◌, inl, inr, refl, ap, sym, subst, ◌∙◌, arith}
use Rattle.std.proofs.lemmas.Bool.{cases_eq}
use Rattle.run_blocks.specs.Given.WaitsOthers.{copier_in, copier_in_room, copier_in_sweep, copier_of}
use Rattle.run_blocks.proofs.Given.WaitsEndingCalls.{AllOrOwn, as_own, copier_then, keeps_still, with_own}
use Rattle.run_blocks.proofs.Given.WaitersLikes.{IsFreshCopier, IsIdleCopier, idle_ends, like_keeps_blocking}
use Rattle.seize.specs.declared.rows.settle.Settled.{Settled}
use Rattle.seize.specs.declared.rows.settle.Settled.TheVariants as settled
use Rattle.seize.specs.declared.advance.Advance.{Advance}
use Rattle.seize.specs.declared.advance.Advance.TheVariants as progress
use Rattle.seize.specs.World.{World, Event, with_at}
use Rattle.papaya_raw.specs.Given.TablesChunks.{is_incremental}
use Rattle.papaya_raw.specs.Given.TablesDeclared.node.Node.{Node}
use Rattle.papaya_raw.specs.Given.TablesDeclared.setting.Setting.{Setting}
use Rattle.run_blocks.specs.Given.ResizeDeclared.copier.Copier.{Copier}
use Rattle.run_blocks.specs.Given.ResizeDeclared.new_map.NewMap.{NewMap}
use Rattle.papaya_raw.specs.CallAsks.{replied_at}
use Rattle.papaya_raw.specs.Machine.{is_ready, machine_asked, machine_replied, sweep_with_reply}
use Rattle.papaya_raw.specs.declared.machines.asking.MachineReply.{MachineReply}
use Rattle.papaya_raw.specs.declared.machines.call.Calling.{Calling}
use Rattle.papaya_raw.specs.declared.machines.call.Calling.TheVariants as at
use Rattle.papaya_raw.specs.declared.machines.call.KeyCall.{KeyCall}
use Rattle.papaya_raw.specs.declared.machines.end_map.EndMap.{EndMap}
use Rattle.papaya_raw.specs.declared.machines.machine.Machine.{Machine}
use Rattle.papaya_raw.specs.declared.machines.machine.Machine.TheVariants as kinds
use Rattle.papaya_raw.specs.Given.SweepsSweepPoints.{next_at}
use Rattle.papaya_raw.specs.Given.ReservesDeclared.sweep.Sweep.{Sweep}
use Rattle.papaya_raw.specs.Given.ReservesDeclared.sweep.Sweeping.{Sweeping}
use Rattle.papaya_raw.specs.Given.ReservesDeclared.sweep.Sweeping.TheVariants as sweeping
use Rattle.run_executor.specs.Given.RuleChart.{Chart}
use Rattle.run_executor.specs.Given.CallersTogether.{UnderWay, OnKey, ForRoom, Counting, OverAll}
use Rattle.run_executor.proofs.Given.CallersTogether.At.{at_same, at_other}
use Rattle.run_executor.specs.Given.FinishesEndings.{Finishing}
use Rattle.run_executor.specs.Given.FinishesFactsEnds.{Deed}
use Rattle.run_executor.specs.Given.FinishesMachines.{machine_of}
use Rattle.run_executor.specs.Given.FinishesMakings.{Beginning, IsNewChart}
use Rattle.run_executor.specs.Given.FinishesMaps.{Standing, IsSameMap, with_call as with_in}
use Rattle.run_executor.specs.Given.FollowsCalling.{NoneNamed}
use Rattle.run_executor.proofs.Given.FollowsCalling.{is_same_refl}
use Rattle.run_executor.specs.Given.OthersEndings.{ending_after}
use Rattle.run_executor.specs.Given.OthersMakings.{making_after}
use Rattle.run_executor.specs.Given.OthersRows.{scene_then}
use Rattle.run_kept.specs.Kept.Ends.{HaveEndsIn, MapsHaveEnds}
use Rattle.run_kept.proofs.Kept.ToldFresh.{reply_fresh, told_fresh}
use Rattle.run_executor.specs.Given.ScenesEnding.{EndingHasOutcome, ending_begun}
use Rattle.run_executor.specs.Given.ScenesHeld.{Held}
use Rattle.run_executor.specs.Given.ScenesMaking.{MakingHasOutcome}
use Rattle.run_executor.specs.Given.ScenesOnSlots.{HappensAt}
use Rattle.run_executor.specs.Given.ScenesReplying.{scene_with, unless_stopped}
use Rattle.run_executor.specs.Given.ScenesScene.{Scene, at_first}
use Rattle.run_executor.proofs.Given.General.{same_some as one_of}

-- a call that is to do nothing for a copying goes on so, in blocking mode as one that begins
pub idle_keeps : {K V : Type 0} (incremental : Bool) (c : Chart K) (calls : ℕ → Option (UnderWay K V K)) (i : ℕ) (next : Option (UnderWay K V K)) → HaveEndsIn incremental c calls
    → IsIdleCopier (copier_then (calls i)) → (incremental ≡ false → IsFreshCopier (copier_then next)) → HaveEndsIn incremental c (with_at calls i next)
idle_keeps true c calls i next ends idle fresh = keeps_still calls i c c next ends (λ t own. idle_ends c t (copier_then (calls i)) idle own)
idle_keeps false c calls i next ends idle fresh = like_keeps_blocking c calls i next ends (inr (idle, fresh refl))

-- a call goes on within the copier within which it stood; or it was to do nothing for a copying, and begins so
abbrev pub IsLike : (after before : Option Copier) → Type 0
IsLike after before = (after ≡ before) ⊎ (IsIdleCopier before × IsFreshCopier after)

-- so, in the same tables, each copying has who ends it as before
pub like_keeps : {K V : Type 0} (incremental : Bool) (c : Chart K) (calls : ℕ → Option (UnderWay K V K)) (i : ℕ) (next : Option (UnderWay K V K)) → HaveEndsIn incremental c calls
    → IsLike (copier_then next) (copier_then (calls i)) → HaveEndsIn incremental c (with_at calls i next)
like_keeps true c calls i next ends (inl e) = with_own calls i c next (subst (λ (o : Option Copier). AllOrOwn calls i c o) (sym e) (as_own calls i c ends))
like_keeps true c calls i next ends (inr (idle, fresh)) = idle_keeps true c calls i next ends idle (λ blocking. fresh)
like_keeps false c calls i next ends like = like_keeps_blocking c calls i next ends like

-- a map that stands stood so, with these tables, in this mode
abbrev pub StoodSo : {K : Type 0} → Option (Standing K) → Standing K → Type 0
StoodSo {K} o st = (before : Standing K) × (o ≡ Some before) × (st.chart ≡ before.chart) × (st.setting ≡ before.setting)

pub stood_so : {K : Type 0} (o o2 : Option (Standing K)) → IsSameMap o o2 → (st : Standing K) → o2 ≡ Some st → StoodSo o st
stood_so None o2 none st is = absurd (cc (none, is))
stood_so (Some before) o2 (blocks, sights, here, part) st is =
    let one = one_of st (record before { blocks = blocks; sights = sights }) (sym is ∙ here) in
    (before, refl, ap (λ (x : Standing _). x.chart) one, ap (λ (x : Standing _). x.setting) one)

module _ {K V : Type 0} (s : Scene K V) (ends : MapsHaveEnds s) where
  pub stood_ends : (n : ℕ) (st : Standing K) → StoodSo (s.maps n) st → HaveEndsIn (is_incremental st.setting.mode) st.chart (s.calls n)
  stood_ends n st (before, there, chart, setting) =
      subst (λ (c : Chart K). HaveEndsIn (is_incremental st.setting.mode) c (s.calls n)) (sym chart)
      (subst (λ (x : Setting). HaveEndsIn (is_incremental x.mode) before.chart (s.calls n)) (sym setting) (ends n before there))

  module _ (t : Scene K V) where
    -- each map that stands then stood so, with the same calls
    pub maps_stay : ((n : ℕ) (st : Standing K) → t.maps n ≡ Some st → StoodSo (s.maps n) st) → t.calls ≡ s.calls → MapsHaveEnds t
    maps_stay stood calls n st is =
        subst (λ (f : ℕ → ℕ → Option (UnderWay K V K)). HaveEndsIn (is_incremental st.setting.mode) st.chart (f n)) (sym calls) (stood_ends n st (stood n st is))

    pub ends_stay : t.maps ≡ s.maps → t.calls ≡ s.calls → MapsHaveEnds t
    ends_stay maps calls = maps_stay (λ n st is. (st, sym (ap (λ (f : ℕ → Option (Standing K)). f n) maps) ∙ is, refl, refl)) calls

    -- one caller's call on one map has become another, has begun, or is under way no more
    pub call_goes : (map i : ℕ) (next : Option (UnderWay K V K)) → t.calls ≡ with_in s.calls map i next
        → ((n : ℕ) (st : Standing K) → (n ≡ map → ⊥) → t.maps n ≡ Some st → StoodSo (s.maps n) st)
        → ((st : Standing K) → t.maps map ≡ Some st → HaveEndsIn (is_incremental st.setting.mode) st.chart (with_at (s.calls map) i next)) → MapsHaveEnds t
    call_goes map i next calls others own n st is = elim (cases_eq n map) as (λ _. HaveEndsIn (is_incremental st.setting.mode) st.chart (t.calls n)) [
      | inl e ↦ subst (λ (f : ℕ → Option (UnderWay K V K)). HaveEndsIn (is_incremental st.setting.mode) st.chart f) (sym (there e)) (own st (subst (λ (k : ℕ). t.maps k ≡ Some st) e is))
      | inr ne ↦ subst (λ (f : ℕ → Option (UnderWay K V K)). HaveEndsIn (is_incremental st.setting.mode) st.chart f) (sym (elsewhere ne)) (stood_ends n st (others n st ne is))
    ]
      where
        there : n ≡ map → t.calls n ≡ with_at (s.calls map) i next
        there e = ap (λ (f : ℕ → ℕ → Option (UnderWay K V K)). f n) calls ∙ at_same s.calls map (with_at (s.calls map) i next) n e

        elsewhere : (n ≡ map → ⊥) → t.calls n ≡ s.calls n
        elsewhere ne = ap (λ (f : ℕ → ℕ → Option (UnderWay K V K)). f n) calls ∙ at_other s.calls map (with_at (s.calls map) i next) n ne

  -- where no map has changed
  pub call_like : (map i : ℕ) (next : Option (UnderWay K V K)) → IsLike (copier_then next) (copier_then (s.calls map i)) → MapsHaveEnds (record s { calls = with_in s.calls map i next })
  call_like map i next like =
      call_goes (record s { calls = with_in s.calls map i next }) map i next refl (λ n st ne is. (st, is, refl, refl))
      (λ st is. like_keeps (is_incremental st.setting.mode) st.chart (s.calls map) i next (ends map st is) like)

-- what a sweep is told, or asked for, leads out of no copier
sweep_like : {V : Type 0} (c : Sweep) (reply : MachineReply V) (stands : Sweeping) → c.stands ≡ stands → IsLike (copier_in_sweep (sweep_with_reply stands c reply).0.stands) (copier_in_sweep stands)
sweep_like c reply (sweeping.Asks word) here = inr (tt, told_fresh c word here reply)
sweep_like c reply _ here = inl (ap copier_in_sweep here)

next_like : (c : Sweep) (stands : Sweeping) → c.stands ≡ stands → IsLike (copier_in_sweep (next_at stands c).stands) (copier_in_sweep stands)
next_like c sweeping.Ready here = inr (tt, by (nat_lt c.place c.table.len))
  where
    by : (b : Bool) → IsFreshCopier (copier_in_sweep (if b then sweeping.Words else sweeping.Over))
    by true = tt
    by false = tt
next_like c _ here = inl (ap copier_in_sweep here)

-- a walk that is ready stands within no copier
none_ready : (p : Sweeping) → true ≡ is_ready p → copier_in_sweep p ≡ None
none_ready sweeping.Ready e = refl
none_ready _ e = absurd (cc e)

-- the copier within which a machine stands
module _ {K V : Type 0} where
  abbrev copier_at : Machine K V K → Option Copier
  copier_at (kinds.Key c) = copier_in c.stands
  copier_at (kinds.Reserve c) = copier_in_room c.stands
  copier_at (kinds.Sweep c) = copier_in_sweep c.stands
  copier_at (kinds.Count sum) = None

  copier_is : (u : UnderWay K V K) → copier_of u ≡ copier_at (machine_of u)
  copier_is (OnKey u) = refl
  copier_is (ForRoom r) = refl
  copier_is (Counting sum) = refl
  copier_is (OverAll o) = refl

  key_like : (c : KeyCall K V K) (reply : MachineReply V) (stands : Calling) → c.stands ≡ stands → IsLike (copier_in (replied_at stands c reply).0.stands) (copier_in stands)
  key_like c reply (at.Asks about) here = inr (tt, reply_fresh c about here reply)
  key_like c reply _ here = inl (ap copier_in here)

  replied_like : (machine : Machine K V K) (reply : MachineReply V) → IsLike (copier_at (machine_replied machine reply).0) (copier_at machine)
  replied_like (kinds.Key c) reply = key_like c reply c.stands refl
  replied_like (kinds.Reserve c) reply = inl refl
  replied_like (kinds.Sweep c) reply = sweep_like c reply c.stands refl
  replied_like (kinds.Count sum) reply = inl refl

  asked_like : (machine : Machine K V K) → IsLike (copier_at (machine_asked machine).0) (copier_at machine)
  asked_like (kinds.Key c) = inl refl
  asked_like (kinds.Reserve c) = inl refl
  asked_like (kinds.Sweep c) = next_like c c.stands refl
  asked_like (kinds.Count sum) = inl refl

  -- so it is of a call
  goes_like : (u next : UnderWay K V K) (o : Option (UnderWay K V K)) → o ≡ Some u → (machine : Machine K V K) → machine_of next ≡ machine
      → IsLike (copier_at machine) (copier_at (machine_of u)) → IsLike (copier_of next) (copier_then o)
  goes_like u next o here machine is (inl e) = inl (copier_is next ∙ ap copier_at is ∙ e ∙ sym (copier_is u) ∙ sym (ap copier_then here))
  goes_like u next o here machine is (inr (idle, fresh)) = inr (subst IsIdleCopier (sym (ap copier_then here ∙ copier_is u)) idle, subst IsFreshCopier (sym (copier_is next ∙ ap copier_at is)) fresh)

  ready_none : (u : UnderWay K V K) → true ≡ (machine_asked (machine_of u)).1 → copier_of u ≡ None
  ready_none (OverAll o) e = none_ready o.sweep.stands e
  ready_none (OnKey u) e = absurd (cc e)
  ready_none (ForRoom r) e = absurd (cc e)
  ready_none (Counting sum) e = absurd (cc e)

  stopped_like : (stopped : Bool) (u : UnderWay K V K) → stopped ≡ (machine_asked (machine_of u)).1 → (o : Option (UnderWay K V K)) → o ≡ Some u
      → IsLike (copier_then (unless_stopped stopped u)) (copier_then o)
  stopped_like false u is o here = inl (sym (ap copier_then here))
  stopped_like true u is o here = inr (subst IsIdleCopier (sym (ap copier_then here ∙ ready_none u is)) tt, tt)

-- before all events no map stands
pub ends_begin : (K V : Type 0) (roots : ℕ) → MapsHaveEnds {K = K} {V = V} (at_first roots)
ends_begin K V roots map st is = absurd (cc is)

module _ {K V : Type 0} (s : Scene K V) (ends : MapsHaveEnds s) (map i : ℕ) where
  -- a call begins, by a caller whose name no call has
  pub calls_begin_ends : (name : ℕ → List ℕ) → NoneNamed name (name i) s → (u : UnderWay K V K) → copier_of u ≡ None → MapsHaveEnds (scene_with map i u s)
  calls_begin_ends name none u within =
      call_like s ends map i (Some u) (inr (subst (λ (o : Option (UnderWay K V K)). IsIdleCopier (copier_then o)) (sym (nobody (s.calls map i) refl)) tt, subst IsFreshCopier (sym within) tt))
    where
      nobody : (o : Option (UnderWay K V K)) → s.calls map i ≡ o → s.calls map i ≡ None
      nobody None is = is
      nobody (Some x) is = absurd (let yes = is_same_refl (name i) in let no = none map i x is in cc (yes, no))

  module _ (u : UnderWay K V K) (here : s.calls map i ≡ Some u) where
    -- one goes on by what it is told
    pub calls_take_ends : (reply : MachineReply V) (next : UnderWay K V K) → machine_of next ≡ (machine_replied (machine_of u) reply).0 → MapsHaveEnds (scene_with map i next s)
    calls_take_ends reply next next_is =
        call_like s ends map i (Some next) (goes_like u next (s.calls map i) here (machine_replied (machine_of u) reply).0 next_is (replied_like (machine_of u) reply))

    -- a walk goes on to its next pair,
    pub walks_go_on_ends : (next : UnderWay K V K) → machine_of next ≡ (machine_asked (machine_of u)).0 → MapsHaveEnds (scene_with map i next s)
    walks_go_on_ends next next_is = call_like s ends map i (Some next) (goes_like u next (s.calls map i) here (machine_asked (machine_of u)).0 next_is (asked_like (machine_of u)))

    -- and is given up
    pub walks_stop_ends : (stopped : Bool) → stopped ≡ (machine_asked (machine_of u)).1 → MapsHaveEnds (record s { calls = with_in s.calls map i (unless_stopped stopped u) })
    walks_stop_ends stopped is = call_like s ends map i (unless_stopped stopped u) (stopped_like stopped u is (s.calls map i) here)

-- a new map has one table at most
new_table : {K : Type 0} (hash : K → ℕ) (setting : Setting) (places : ℕ) (c : Chart K) → IsNewChart hash setting places c → c.past ≤ 1
new_table hash setting places c (inl (none, is)) = let e : c.past ≡ 0 = ap (λ (x : Chart _). x.past) is in omega (arith, e)
new_table hash setting places c (inr (some, limit, is)) = let e : c.past ≡ 1 = ap (λ (x : Chart _). x.past) is in omega (arith, e)

-- where there is one table at most, and no call, no copying is under way
few_have : {K V : Type 0} (incremental : Bool) (c : Chart K) (calls : ℕ → Option (UnderWay K V K)) → c.past ≤ 1 → ((k : ℕ) → calls k ≡ None) → HaveEndsIn incremental c calls
few_have true c calls few none = λ t some made unfinished. absurd (omega (arith, some, made, few))
few_have false c calls few none = record {
  ends = λ t some made unfinished. absurd (omega (arith, some, made, few));
  lost = λ t j behind made unfinished l is. absurd (omega (arith, behind, made, few));
  spent = λ k x is. absurd (let nobody = none k in cc (is, nobody));
}

module _ {K V : Type 0} (same : K → K → Bool) (hash : ℕ → K → ℕ) (s : Scene K V) (ends : MapsHaveEnds s) (old new : Held K V) where
  -- a row on a slot begins, and takes its steps
  pub rows_leave_ends : (event : Event (Node K V)) (happened : HappensAt same hash event s old new) → MapsHaveEnds (scene_then same hash event s old new happened)
  rows_leave_ends event happened =
      maps_stay s ends (scene_then same hash event s old new happened) (λ n st is. stood_so (s.maps n) (happened.2 n) (happened.3 n) st is) refl

  -- a map is made
  pub makings_keep_ends : (i : ℕ) (b : Beginning K) → ((k : ℕ) → s.calls b.map k ≡ None) → (opening : NewMap) (w2 : World (Node K V)) (said : Advance Setting) (comes : MakingHasOutcome same hash s old new i b opening w2 said)
      → MapsHaveEnds (making_after same hash s old new i b opening w2 said comes)
  makings_keep_ends i b none opening w2 progress.Goes comes = ends
  makings_keep_ends i b none opening w2 progress.Waits comes = ends
  makings_keep_ends i b none opening w2 (progress.Done setting) comes = λ n st is. elim (cases_eq n b.map) as (λ _. HaveEndsIn (is_incremental st.setting.mode) st.chart (s.calls n)) [
    | inl e ↦
        let one : st ≡ comes.0 = one_of st comes.0 (sym is ∙ at_same s.maps b.map (Some comes.0) n e) in
        let few : st.chart.past ≤ 1 = subst (λ (x : Standing K). x.chart.past ≤ 1) (sym one) (new_table b.hash setting b.places comes.0.chart comes.1.chart_is) in
        few_have (is_incremental st.setting.mode) st.chart (s.calls n) few (λ k. subst (λ (m : ℕ). s.calls m k ≡ None) (sym e) (none k))
    | inr ne ↦ ends n st (sym (at_other s.maps b.map (Some comes.0) n ne) ∙ is)
  ]
  makings_keep_ends i b none opening w2 (progress.Refused fault) comes = ends

  -- and one ends
  pub endings_keep_ends : (i : ℕ) (f : Finishing K V) (ending : EndMap) (w2 : World (Node K V)) (deed : Deed) (said : Settled (Node K V)) (comes : EndingHasOutcome same hash s new i f ending w2 deed said)
      → MapsHaveEnds (ending_after same hash s new i f ending w2 deed said comes)
  endings_keep_ends i f ending w2 deed settled.Goes comes = ends
  endings_keep_ends i f ending w2 deed settled.Waits comes = ends
  endings_keep_ends i f ending w2 deed (settled.Gave value) comes = ends
  endings_keep_ends i f ending w2 deed settled.Done comes = ends

pub endings_begin_ends : {K V : Type 0} (s : Scene K V) → MapsHaveEnds s → (map i : ℕ) (standing : Standing K) → MapsHaveEnds (ending_begun map i standing s)
endings_begin_ends s ends map i standing n st is = elim (cases_eq n map) as (λ _. HaveEndsIn (is_incremental st.setting.mode) st.chart (s.calls n)) [
  | inl e ↦ absurd (let none = sym (at_same s.maps map None n e) ∙ is in cc none)
  | inr ne ↦ ends n st (sym (at_other s.maps map None n ne) ∙ is)
]
