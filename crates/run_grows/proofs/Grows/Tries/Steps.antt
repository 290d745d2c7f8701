-- A step of a call: it has met what its tries meet, after it.
use Rattle.std.specs.Prelude.{◌≡◌, ◌≢◌, ◌⊎◌, ◌<◌, ◌≤◌, ◌==◌, ◌^◌, ℕ, suc, Bool, true, false, List, Some, if◌then◌else◌}
use Rattle.std.proofs.Common.{refl, ap, sym, subst, ◌∙◌, arith, inl, inr}
use Rattle.std.proofs.lemmas.Bool.{cases_eq}
use Rattle.run_finds.specs.Given.SeizeWordsMem.{Mem, word_at}
use Rattle.run_finds.specs.Given.SeizeWordsWord.{block_in}
use Rattle.papaya_raw.specs.Given.TablesChunks.{is_incremental}
use Rattle.papaya_raw.specs.Given.TablesFinding.{finding}
use Rattle.papaya_raw.specs.Given.TablesTrials.{place_tried}
use Rattle.papaya_raw.specs.Given.TablesDeclared.finding.Finding.TheVariants as finds
use Rattle.papaya_raw.specs.Given.TablesDeclared.node.Node.{Node}
use Rattle.papaya_raw.specs.Given.TablesDeclared.table.Table.{Table as Planned}
use Rattle.papaya_raw.specs.Given.SeizeWorld.{IsInside}
use Rattle.papaya_raw.specs.Given.SeizeDeclared.advance.Advance.{Advance as Counting_told}
use Rattle.run_finds.specs.Given.ResizeSum.{sum_plan}
use Rattle.run_finds.specs.Given.ResizeDeclared.yielding.Yielding.{Yielding}
use Rattle.run_finds.specs.Given.ResizeDeclared.sum.Sum.{Sum}
use Rattle.papaya_raw.specs.Given.ReservesReserve.{reserve_plan}
use Rattle.papaya_raw.specs.Given.ReservesDeclared.reserve.Reserve.{Reserve}
use Rattle.papaya_raw.specs.Given.SweepsSweep.{sweep_plan}
use Rattle.papaya_raw.specs.Given.ReservesDeclared.sweep.Sweep.{Sweep}
use Rattle.papaya_raw.specs.Given.ReservesDeclared.sweep.Swept.{Swept}
use Rattle.papaya_raw.specs.Call.{call_plan}
use Rattle.papaya_raw.specs.CallPoints.{aim_of}
use Rattle.papaya_raw.specs.Machine.{called as of_key, counted as of_sum, machine_plan, reserved as of_room, swept as of_sweep}
use Rattle.papaya_raw.specs.declared.machines.answer.Called.{Called}
use Rattle.papaya_raw.specs.declared.machines.call.Calling.{Calling}
use Rattle.papaya_raw.specs.declared.machines.call.Calling.TheVariants as calling
use Rattle.papaya_raw.specs.declared.machines.call.KeyCall.{KeyCall}
use Rattle.papaya_raw.specs.declared.machines.machine.Machine.{Machine}
use Rattle.papaya_raw.specs.declared.machines.progress.Progress.{Progress}
use Rattle.run_schedules.specs.declared.effect.Effect.{Effect}
use Rattle.run_schedules.specs.declared.effect.Spot.{Spot}
use Rattle.run_schedules.specs.Schedules.Effects.{with_effects}
use Rattle.run_schedules.specs.Schedules.Moment.{Moment, UnderWay as CallThere}
use Rattle.run_schedules.specs.Schedules.Tries.{FindsTaken, try_at}
use Rattle.run_schedules.specs.Schedules.Views.{call_of}
use Rattle.run_finds.specs.Given.TellerTells.{StepsObserved}
use Rattle.run_finds.specs.Given.EffectsDeclared.changed.Changed.{Changed}
use Rattle.run_finds.specs.Given.EffectsDeclared.changed.Changed.TheVariants as changes
use Rattle.run_finds.specs.Given.RuleInWorld.{IsMapIn}
use Rattle.run_finds.specs.Given.RuleMaps.{IsTrial}
use Rattle.run_finds.specs.Given.RuleWords.{Blocks}
use Rattle.run_finds.proofs.Given.RuleLaws.{current_is_known}
use Rattle.run_finds.specs.Given.PointsFactsCalls.{CallingFacts}
use Rattle.run_finds.specs.Given.PointsSteps.{AreLawful}
use Rattle.run_finds.specs.Given.PointsTold.{IsRowOfCall}
use Rattle.run_finds.specs.Given.LateLateCalls.{SupersededCalling}
use Rattle.run_finds.specs.Given.LateLeft.{Left}
use Rattle.run_finds.specs.Given.CallersSights.{seen_by}
use Rattle.run_finds.specs.Given.CallersTogether.{CallOnKey, Counting, ForRoom, OnKey, OverAll, Together, UnderWay, in_slot}
use Rattle.run_finds.proofs.Given.CallersSights.Seen.{map_seen}
use Rattle.run_finds.proofs.Given.CallersTogether.Fits.{map_in_slot}
use Rattle.run_finds.specs.Given.EffectsEffects.{effects_of}
use Rattle.run_finds.specs.Given.EffectsKnown.{Known}
use Rattle.run_finds.specs.Given.EffectsDeclared.acting.Acting.TheVariants as acts
use Rattle.run_finds.specs.Given.FinishesMachines.{machine_of}
use Rattle.run_finds.specs.Given.FinishesMaps.{Standing}
use Rattle.run_finds.proofs.Given.FollowsFinds.{tables_many}
use Rattle.run_finds.proofs.Given.FollowsSteps.{WentTo, went_to}
use Rattle.run_finds.proofs.Given.OthersOutcomes.{told_in}
use Rattle.run_finds.specs.Given.SpotsSpots.{LiesAt}
use Rattle.run_finds.specs.Given.MomentsWhole.{RefinesWhole}
use Rattle.run_finds.specs.Within.{many_of}
use Rattle.run_finds.proofs.Grows.Steps.{tables_have_been}
use Rattle.run_finds.proofs.Steps.{steps_do_theirs}
use Rattle.run_grows.specs.Sources.Sources.{RefinesSources}
use Rattle.run_grows.specs.Grows.Tries.{HasTaken, MachineTried, OthersHadTried, RefinesTries}
use Rattle.run_grows.proofs.Grows.Since as since
use Rattle.run_grows.proofs.Grows.Tries.Facts.{at_try, moves_none, takes_here}
use Rattle.run_grows.proofs.Grows.Tries.More.{Tried, machine_more}
use Rattle.run_grows.proofs.Grows.Tries.Off.{same_pairs}
use Rattle.run_grows.proofs.Grows.Tries.Shows.{Alike, Of, So, asked, more, replies, so_where}
use Rattle.run_grows.proofs.Grows.Tries.Stays.{same_taken}
use Rattle.run_grows.proofs.Grows.Tries.Walk.{OfNone, OffWords, call_tried}
use Rattle.run_finds.specs.Given.ScenesHeld.{Held, IsAt}
use Rattle.run_finds.specs.Given.ScenesScene.{Scene, slot_of}
use Rattle.run_finds.specs.Given.ScenesStepping.{StepLeads, scene_after}
use Rattle.run_schedules.specs.Schedules.Transition.{Past}

-- a call is at a try
abbrev Tries : Calling → Type 0
Tries stands = (calling.Probes ≡ stands) ⊎ ((word new : ℕ) × (calling.Tries word new ≡ stands))

-- of a machine of a call on one key
of_key_tried : {K V : Type 0} (Why : Spot × ℕ → Type 0) (e : KeyCall K V K × Called (Node K V)) → Tried Why e → MachineTried Why (of_key {K = K} {V = V} {Q = K} e).0
of_key_tried Why (p, told) so = so

module _ {K V : Type 0} (same : K → K → Bool) (hash : ℕ → K → ℕ) (name : ℕ → List ℕ) (log : Past K V) (m : Moment K V) (known : Known) (s : Scene K V) (old new : Held K V) (at : IsAt same hash old s)
    (whole : RefinesWhole same name m known s) (map i : ℕ) (u : UnderWay K V K) (here : s.calls map i ≡ Some u) (said : Progress (Node K V)) (leads : StepLeads same hash i said s old new) where
  abbrev to : WentTo same hash name m known s old new at whole.all.shown map i u here said leads
  to = went_to same hash name m known s old new at whole.all.shown map i u here said leads

  abbrev st : Standing K
  st = to.0

  abbrev step_told : Changed
  step_told = new.changed

  abbrev effects : List Effect
  effects = effects_of (acts.Call i map) known step_told

  abbrev v : Moment K V
  v = with_effects (Some (name i)) (Some map) effects m

  abbrev led : Scene K V
  led = scene_after same s old new map i st u to.1 said to.4

  -- others are as they were
  pub tries_others : OthersHadTried name log i m s → OthersHadTried name log i v led
  tries_others others =
      since.others_go_on (Of K V) (more K V) (replies K V) (asked K V) (So K V) (Alike K V) (λ m v pairs. pairs) (so_where K V) same hash name log m known s old new at whole map i u here said leads others

  module _ (sources : RefinesSources same name m known s) (tries : RefinesTries name log m s) (c : CallThere K V) (c_is : call_of (name i) m ≡ Some c) where
    abbrev Before : Spot × ℕ → Type 0
    Before = HasTaken map c.begun log m

    abbrev After : Spot × ℕ → Type 0
    After = HasTaken map c.begun log v

    each : Together V same st.hash same st.setting slot_of s.world st.chart st.blocks st.sights (s.calls map)
    each = at.together.makings.standing.each map st to.2

    lawful : AreLawful same st.hash
    lawful = (at.together.makings.standing.fit map st to.2).0

    abbrev seen : Blocks
    seen = seen_by st.blocks (st.sights (slot_of i))

    is_map : IsInside (s.world.uses (slot_of i)) → IsMapIn same st.hash (in_slot st.setting (slot_of i)) s.world st.chart seen
    is_map inside = map_seen same st.hash (in_slot st.setting (slot_of i)) s.world st.chart st.blocks (st.sights (slot_of i))
        (map_in_slot same st.hash st.setting s.world st.chart st.blocks (slot_of i) each.ground.map) (each.ground.sight (slot_of i) inside).0

    lies : (n : ℕ) → st.chart.current n ≡ true → LiesAt st.chart (is_incremental st.setting.mode) n (m.spot (sources.shown.number map n)) (m.born (sources.shown.number map n)).turn
    lies n current =
        let it = current_is_known same st.hash st.setting s.world.memory st.chart st.blocks each.ground.map.map.rule each.ground.map.map.shows n current in
        (whole.places.each map st to.2).lies n (sources.shown.number map n) (it.0, it.1, (sources.shown.maps map st to.2).pairs.roles n it.0 it.1) current

    many_now : st.chart.past ≡ many_of map m
    many_now = tables_many map (sources.shown.number map) st m known (sources.shown.maps map st to.2)

    -- at a try
    module _ (inside : IsInside (s.world.uses (slot_of i))) (x : CallOnKey K V K) (t j : ℕ) (is : IsTrial st.chart seen x.call.trial x.call.hash t j) (root : is_incremental st.setting.mode ≡ false → suc t ≡ st.chart.past → t ≡ st.chart.first) where
      turn_is : x.call.trial.table.turn ≡ t
      turn_is = ap (λ (y : Planned). y.turn) is.table.is

      passed_or : (y : Spot × ℕ) → y.0.turn ≡ t → suc t ≢ st.chart.past → Before y
      passed_or y e ne = let made = is.table.made in inr (inr (omega (arith, e, ne, made, many_now)))

      tries_within : (x.call.trial.probe.len ≤ x.call.trial.table.limit) × (suc x.call.trial.table.limit < 2 ^ 64)
      tries_within = (
        (let try = is.try in let most = is.most in omega (arith, try, most, limit_is)),
        (let sized = (each.ground.map.map.shows.sized t is.table.made).most in let low = (each.ground.map.map.rule.common.lens t is.table.made).1 in omega (arith, sized, low, limit_is)),
      )
        where
          limit_is : x.call.trial.table.limit ≡ st.chart.limit t
          limit_is = ap (λ (y : Planned). y.limit) is.table.is

      tries_take : (word : ℕ) → word_at s.world.memory (place_tried x.call.trial) ≡ Some word → word ≢ 0
          → Before (try_at x.call.trial.table.turn x.call.trial.table.len x.call.hash x.call.trial.probe.len, if block_in word == 0 then 0 else 1)
      tries_take word e some = elim (cases_eq (suc t) st.chart.past) as (λ _. Before (try_at x.call.trial.table.turn x.call.trial.table.len x.call.hash x.call.trial.probe.len, if block_in word == 0 then 0 else 1)) [
        | inl last ↦
            inr (inl (subst (λ (y : Spot). FindsTaken map y m (if block_in word == 0 then 0 else 1))
            (sym (at_try same map (sources.shown.number map) st lawful.fits lawful.lawful s.world.memory seen (is_map inside).map m known (sources.shown.maps map st to.2) lies (sources.left map st to.2) x.call.trial x.call.hash t j is))
            (takes_here same map (sources.shown.number map) st lawful.fits lawful.lawful s.world.memory seen (is_map inside).map m known (sources.shown.maps map st to.2) lies (sources.left map st to.2) x.call.trial x.call.hash t j is last
            (λ alone. root alone last) word e some)))
        | inr ne ↦ passed_or _ turn_is ne
      ]

      tries_move : (word : ℕ) → word_at s.world.memory (place_tried x.call.trial) ≡ Some word → (flag : Bool) → finding x.call.setting.mode (aim_of x.call.missing) word flag ≡ finds.Moved
          → (y : Spot × ℕ) → y.0.turn ≡ x.call.trial.table.turn → Before y
      tries_move word e flag moved y same_turn = elim (cases_eq (suc t) st.chart.past) as (λ _. Before y) [
        | inl last ↦
            absurd (moves_none same map (sources.shown.number map) st lawful.fits lawful.lawful s.world.memory seen (is_map inside).map m known (sources.shown.maps map st to.2) lies (sources.left map st to.2) x.call.trial x.call.hash t j is last
            (λ alone. root alone last) x.call.setting.mode (aim_of x.call.missing) flag word e moved)
        | inr ne ↦ passed_or y (same_turn ∙ turn_is) ne
      ]

    -- what a call knows at a try
    abbrev At : CallOnKey K V K → Type 0
    At x = (t : ℕ) × (j : ℕ) × IsTrial st.chart seen x.call.trial x.call.hash t j × (is_incremental st.setting.mode ≡ false → suc t ≡ st.chart.past → t ≡ st.chart.first)

    module _ (x : CallOnKey K V K) where
      other : (stands : Calling) → (calling.Probes ≡ stands → ⊥) → ((word new : ℕ) → calling.Tries word new ≡ stands → ⊥) → Tries stands → ⊥
      other stands probes tries (inl is) = probes is
      other stands probes tries (inr (word, new, is)) = tries word new is

      no_row : (stands : Calling) → Tries stands → IsRowOfCall stands → ⊥
      no_row calling.Probes trying row = row
      no_row (calling.Tries word new) trying row = row
      no_row (calling.Disposes dispose answer) trying row = other (calling.Disposes dispose answer) (λ e. cc e) (λ word new e. cc e) trying
      no_row (calling.Helps copier goal) trying row = other (calling.Helps copier goal) (λ e. cc e) (λ word new e. cc e) trying
      no_row (calling.Copies copier) trying row = other (calling.Copies copier) (λ e. cc e) (λ word new e. cc e) trying
      no_row _ trying row = row

      now : (stands : Calling) → Tries stands → CallingFacts same st.hash same s.world i (in_slot st.setting (slot_of i)) st.chart seen x.keys x.change x.call stands → At x
      now calling.Probes trying facts = (facts.1.0, facts.1.1, facts.1.2, λ alone last. facts.1.4 alone)
      now (calling.Tries word new) trying facts = (facts.2.0, facts.2.1, facts.2.2, λ alone last. facts.2.4 alone)
      now calling.Makes trying facts = absurd (other calling.Makes (λ e. cc e) (λ word new e. cc e) trying)
      now (calling.Looks l) trying facts = absurd (other (calling.Looks l) (λ e. cc e) (λ word new e. cc e) trying)
      now calling.Roots trying facts = absurd (other calling.Roots (λ e. cc e) (λ word new e. cc e) trying)
      now calling.Nexts trying facts = absurd (other calling.Nexts (λ e. cc e) (λ word new e. cc e) trying)
      now (calling.Firsts n) trying facts = absurd (other (calling.Firsts n) (λ e. cc e) (λ word new e. cc e) trying)
      now (calling.Allocs n) trying facts = absurd (other (calling.Allocs n) (λ e. cc e) (λ word new e. cc e) trying)
      now (calling.Helps copier goal) trying facts = absurd (other (calling.Helps copier goal) (λ e. cc e) (λ word new e. cc e) trying)
      now (calling.Copies copier) trying facts = absurd (other (calling.Copies copier) (λ e. cc e) (λ word new e. cc e) trying)
      now (calling.Asks a) trying facts = absurd (other (calling.Asks a) (λ e. cc e) (λ word new e. cc e) trying)
      now (calling.Counts removed) trying facts = absurd (other (calling.Counts removed) (λ e. cc e) (λ word new e. cc e) trying)
      now (calling.Disposes dispose answer) trying facts = absurd (other (calling.Disposes dispose answer) (λ e. cc e) (λ word new e. cc e) trying)
      now (calling.Drops end) trying facts = absurd (other (calling.Drops end) (λ e. cc e) (λ word new e. cc e) trying)
      now (calling.Over end) trying facts = absurd (other (calling.Over end) (λ e. cc e) (λ word new e. cc e) trying)

      -- a table that the root has left is not the last one
      no_last : (t began : ℕ) → Left st.chart began t → suc t ≡ st.chart.past → ⊥
      no_last t began gone last = let behind = gone.behind in let root = each.ground.map.map.rule.common.rooted (omega (arith, last)) in omega (arith, behind, root, last)

      then_late : (began : ℕ) (stands : Calling) → Tries stands → SupersededCalling same st.hash same s.world i (in_slot st.setting (slot_of i)) st.chart seen x.keys began x.call stands → At x
      then_late began calling.Probes trying late = (late.1.0, late.1.1, late.1.2, λ alone last. absurd (no_last late.1.0 began late.1.4 last))
      then_late began (calling.Tries word new) trying late = (late.1.0, late.1.1, late.1.2, λ alone last. absurd (no_last late.1.0 began late.1.4 last))
      then_late began (calling.Looks l) trying late = absurd (other (calling.Looks l) (λ e. cc e) (λ word new e. cc e) trying)
      then_late began calling.Nexts trying late = absurd (other calling.Nexts (λ e. cc e) (λ word new e. cc e) trying)
      then_late began (calling.Firsts n) trying late = absurd (other (calling.Firsts n) (λ e. cc e) (λ word new e. cc e) trying)
      then_late began (calling.Allocs n) trying late = absurd (other (calling.Allocs n) (λ e. cc e) (λ word new e. cc e) trying)
      then_late began (calling.Copies copier) trying late = absurd (other (calling.Copies copier) (λ e. cc e) (λ word new e. cc e) trying)
      then_late began (calling.Asks a) trying late = absurd (other (calling.Asks a) (λ e. cc e) (λ word new e. cc e) trying)
      then_late began _ trying late = absurd late

      at_try_of : s.calls map i ≡ Some (OnKey x) → Tries x.call.stands → At x
      at_try_of there trying = elim (each.stand i (OnKey x) there) as (λ _. At x) [
        | inl k ↦
            elim (k.1.facts) as (λ _. At x) [
              | inl facts ↦ now x.call.stands trying facts.point
              | inr late ↦ then_late x.began x.call.stands trying late.1.point
            ]
        | inr k ↦ absurd (no_row x.call.stands trying k.1)
      ]

    -- it is so by the moment before the step, and so by that after it
    follow : OffWords step_told → (y : Spot × ℕ) → Before y → After y
    follow off y (inl had) = inl had
    follow off y (inr now) =
        inr (same_taken m v (same_pairs i map known (name i) m step_told off (steps_do_theirs K V same hash name m known s old new at whole map i u here said leads)) map
        (tables_have_been K V (Some (name i)) (Some map) effects m map) y now)

    step_of : (x : UnderWay K V K) → u ≡ x → StepsObserved K V (Machine K V K × Progress (Node K V)) old.memory changes.Nothing (machine_plan same same to.0.hash (machine_of x)) new.memory step_told (to.1, said)
    step_of x is = subst (λ (y : UnderWay K V K). StepsObserved K V (Machine K V K × Progress (Node K V)) old.memory changes.Nothing (machine_plan same same to.0.hash (machine_of y)) new.memory step_told (to.1, said)) is to.3

    came : (e : Machine K V K × Progress (Node K V)) → (to.1, said) ≡ e → MachineTried After e.0 → MachineTried After to.1
    came e e_is so = subst (λ (y : Machine K V K × Progress (Node K V)). MachineTried After y.0) (sym e_is) so

    room_tried : (e : Reserve × Yielding (Node K V) Unit) → MachineTried After (of_room {K = K} {V = V} {Q = K} e).0
    room_tried (r, outcome) = tt

    sum_tried : (e : Sum × Counting_told ℕ) → MachineTried After (of_sum {K = K} {V = V} {Q = K} e).0
    sum_tried (sum, told) = tt

    sweep_tried : (e : Sweep × Swept (Node K V)) → MachineTried After (of_sweep {K = K} {V = V} {Q = K} e).0
    sweep_tried (c, told) = tt

    own_tried : (x : UnderWay K V K) → u ≡ x → MachineTried After to.1
    own_tried (OnKey x) is =
        let there : s.calls map i ≡ Some (OnKey x) = here ∙ ap (λ (y : UnderWay K V K). Some y) is in
        let it = told_in old.memory new.memory step_told of_key (call_plan same same to.0.hash x.call) (to.1, said) (step_of (OnKey x) is) in
        elim (call_tried Before same same to.0.hash old.memory new.memory step_told x.call it.0
        (λ trying. let a = at_try_of x there trying in tries_within (each.inside i (OnKey x) there) x a.0 a.1 a.2 a.3)
        (λ trying word e some. let a = at_try_of x there trying in tries_take (each.inside i (OnKey x) there) x a.0 a.1 a.2 a.3 word (subst (λ (q : Mem (Node K V)). word_at q (place_tried x.call.trial) ≡ Some word) (sym at.memory) e) some)
        (λ trying word e. let a = at_try_of x there trying in tries_move (each.inside i (OnKey x) there) x a.0 a.1 a.2 a.3 word (subst (λ (q : Mem (Node K V)). word_at q (place_tried x.call.trial) ≡ Some word) (sym at.memory) e))
        (tries map i (OnKey x) there c c_is) it.2) as (λ _. MachineTried After to.1) [
          | inl none ↦ came (of_key it.0) it.1 (machine_more OfNone After (λ y never. absurd never) (of_key {K = K} {V = V} {Q = K} it.0).0 (of_key_tried OfNone it.0 none))
          | inr so ↦ came (of_key it.0) it.1 (machine_more Before After (follow so.0) (of_key {K = K} {V = V} {Q = K} it.0).0 (of_key_tried Before it.0 so.1))
        ]
    own_tried (ForRoom x) is =
        let it = told_in old.memory new.memory step_told of_room (reserve_plan to.0.hash x.reserve) (to.1, said) (step_of (ForRoom x) is) in came (of_room it.0) it.1 (room_tried it.0)
    own_tried (Counting x) is = let it = told_in old.memory new.memory step_told of_sum (sum_plan x) (to.1, said) (step_of (Counting x) is) in came (of_sum it.0) it.1 (sum_tried it.0)
    own_tried (OverAll x) is =
        let it = told_in old.memory new.memory step_told of_sweep (sweep_plan to.0.hash x.sweep) (to.1, said) (step_of (OverAll x) is) in came (of_sweep it.0) it.1 (sweep_tried it.0)

    pub tries_go_on : OthersHadTried name log i m s → RefinesTries name log v led
    tries_go_on others =
        since.so_go_on (Of K V) (more K V) (replies K V) (asked K V) (So K V) (Alike K V) (λ m v pairs. pairs) (so_where K V) same hash name log m known s old new at whole map i u here said leads others c c_is
        (λ x is. own_tried u refl)
