-- A step of a call, of whichever kind: the memory's shards are those of the moment after it, and so is what each is about to add.
use Rattle.std.specs.Prelude.{◌≡◌, ◌≢◌, ◌+◌, ◌%◌, ◌^◌, ℕ, ◌≤◌, Bool, true, false, List, [], ◌∷◌, Option, Some}
use Rattle.std.proofs.Common.{refl, ap, sym, subst, ◌∙◌, arith, inl, inr}
use Rattle.std.proofs.lemmas.Bool.{cases_eq}
use Rattle.run_debts.specs.Given.SeizeWordsMem.{Mem, word_at}
use Rattle.run_debts.specs.Given.SeizeWordsDeclared.at.At.TheVariants.{Word}
use Rattle.run_debts.proofs.Given.SeizeMemoryWords.Named.{or_zero}
use Rattle.owner_calls.specs.Given.TablesCounts.{count_change}
use Rattle.run_debts.specs.Given.TablesDeclared.node.Node.{Node}
use Rattle.run_debts.specs.Given.TablesDeclared.setting.Setting.{Setting}
use Rattle.run_debts.specs.Given.RunsSame.{is_same}
use Rattle.run_debts.specs.Given.RawDeclared.machines.progress.Progress.{Progress}
use Rattle.run_debts.specs.Given.RunsDeclared.effect.Effect.{Effect}
use Rattle.run_debts.specs.Given.RunsDeclared.effect.Effect.TheVariants.{Counted}
use Rattle.run_debts.specs.Given.SchedulesEffects.{word_with, shards_by, with_effects}
use Rattle.run_debts.specs.Given.SchedulesLists.{put}
use Rattle.run_debts.specs.Given.SchedulesMoment.{UnderWay as CallThere, Moment}
use Rattle.run_debts.specs.Given.SchedulesViews.{call_of}
use Rattle.run_debts.specs.Given.EffectsDeclared.changed.Changed.{Changed}
use Rattle.run_debts.specs.Given.EffectsDeclared.changed.Changed.TheVariants as changed
use Rattle.owner_calls.specs.Given.CallersTogether.{UnderWay, OnKey, ForRoom, Counting, OverAll}
use Rattle.run_debts.specs.Given.EffectsEffects.{effects_of}
use Rattle.run_debts.specs.Given.EffectsKnown.{Known}
use Rattle.run_debts.specs.Given.EffectsDeclared.acting.Acting.TheVariants as acts
use Rattle.run_debts.specs.Given.EffectsDeclared.role.Role.TheVariants as role
use Rattle.run_debts.specs.Given.FinishesMachines.{machine_of}
use Rattle.run_debts.specs.Given.FinishesMakings.{Beginning, HasMade}
use Rattle.run_debts.specs.Given.FinishesMaps.{Standing}
use Rattle.run_debts.specs.Given.FollowsCalls.{IsCalled}
use Rattle.run_debts.specs.Given.FollowsShows.{Refines}
use Rattle.run_debts.proofs.Given.FollowsAlike.{put_here, put_elsewhere}
use Rattle.run_debts.proofs.Given.FollowsOperations.{LeavesBy, Operated, operated_leaves}
use Rattle.run_debts.proofs.Given.FollowsSteps.{WentTo, went_to, made_so}
use Rattle.run_debts.proofs.Given.HandsAsking.{which}
use Rattle.run_debts.proofs.Given.HandsCalling.{caller_is}
use Rattle.run_debts.specs.Given.MomentsWhole.{RefinesWhole}
use Rattle.run_blocks.specs.Shards.Adds.{adds_of, Adds}
use Rattle.run_debts.specs.Counts.{HasToCount, RefinesCounts, shard_for}
use Rattle.run_blocks.specs.Shards.ShardSteps.{AddsUp, CallsPreserveCounters, RoomsCountNothing}
use Rattle.run_blocks.specs.Shards.ShardWords.{RefinesShards, MakesUncounted, RefinesCounters}
use Rattle.run_blocks.proofs.Shards.Adds.{machine_not_adds, StepAdds, AddsNone, AddsIts, word_added, then_adds}
use Rattle.run_debts.proofs.Calls.{goes_as_one, MayStore, replaces_none}
use Rattle.run_debts.proofs.Gains.{others_stay}
use Rattle.run_blocks.proofs.Shards.KeyAdds.{key_adds}
use Rattle.run_debts.proofs.Rest.{room_nowhere, sum_nowhere}
use Rattle.run_blocks.proofs.Shards.RestAdds.{room_adds, sum_adds, sweep_adds}
use Rattle.run_blocks.proofs.Shards.ShardKept.{uncounted_shards, same_setting, word_kept, shard_there, made_there, shards_kept, makes_kept}
use Rattle.run_debts.proofs.Uncounted.{CountsNowhere, none_counts}
use Rattle.run_blocks.proofs.Shards.WordOps.{word_lasts}
use Rattle.run_debts.specs.Given.ScenesHeld.{Held, IsAt}
use Rattle.run_debts.specs.Given.ScenesScene.{Scene}
use Rattle.run_debts.specs.Given.ScenesStepping.{StepLeads, scene_after}
use Rattle.run_debts.proofs.Given.General.{same_some as one_of}

module _ {K V : Type 0} (same : K → K → Bool) (hash : ℕ → K → ℕ) (name : ℕ → List ℕ) (m : Moment K V) (known : Known) (s : Scene K V) (old new : Held K V) (at_old : IsAt same hash old s)
    (whole : RefinesWhole same name m known s) (counts : RefinesCounts name m s) (counters : RefinesCounters name m s) (map i : ℕ) (u : UnderWay K V K) (here : s.calls map i ≡ Some u)
    (said : Progress (Node K V)) (leads : StepLeads same hash i said s old new) where
  abbrev shown : Refines same name m known s
  shown = whole.all.shown

  abbrev to : WentTo same hash name m known s old new at_old shown map i u here said leads
  to = went_to same hash name m known s old new at_old shown map i u here said leads

  abbrev st : Standing K
  st = to.0

  abbrev told : Changed
  told = new.changed

  abbrev effects : List Effect
  effects = effects_of (acts.Call i map) known told

  abbrev shard : ℕ
  shard = shard_for i st.setting

  abbrev v : Moment K V
  v = with_effects (Some (name i)) (Some map) effects m

  abbrev t : Scene K V
  t = scene_after same s old new map i st u to.1 said to.4

  abbrev mem : Mem (Node K V)
  mem = s.world.memory

  abbrev mem2 : Mem (Node K V)
  mem2 = t.world.memory

  abbrev its : (c : CallThere K V) × (call_of (name i) m ≡ Some c) × (c.map ≡ map) × IsCalled same u c.call
  its = shown.calls map i u here

  made : Operated mem mem2 told
  made = subst (λ (n : Mem (Node K V)). Operated mem n told) (sym to.5.memory) (made_so same hash name m known s old new at_old shown map i u here said leads)

  -- each map that stands then stood with its setting
  stood : (n : ℕ) (x : Standing K) → t.maps n ≡ Some x → (before : Standing K) × (s.maps n ≡ Some before) × (x.setting ≡ before.setting)
  stood n x is = elim (cases_eq n map) as (λ _. (before : Standing K) × (s.maps n ≡ Some before) × (x.setting ≡ before.setting)) [
    | inl e ↦
        let on = to.4.its_map in
        let one = one_of x (record st { chart = on.0; blocks = on.1; sights = on.2 }) (sym is ∙ ap t.maps e ∙ on.4) in
        (st, ap s.maps e ∙ to.2, ap (λ (y : Standing K). y.setting) one)
    | inr ne ↦ same_setting (s.maps n) (t.maps n) (to.4.others n ne) x is
  ]

  -- the counter of a map, and one that was made for a map to come, is noted as that
  abbrev IsCounter : ℕ → Type 0
  IsCounter c = (of : ℕ) × (known.roles c ≡ role.Counter of)

  of_map : (n : ℕ) (x : Standing K) → s.maps n ≡ Some x → IsCounter x.setting.counter
  of_map n x is = (n, (shown.maps n x is).counter)

  of_maker : (j : ℕ) (b : Beginning K) → s.makers j ≡ Some b → HasMade b.machine.stands → IsCounter b.machine.setting.counter
  of_maker j b is has_made = (b.map, whole.counters j b is has_made)

  -- a step that writes no word of a count
  module _ (nowhere : CountsNowhere known told) where
    keeps : (c f x y : ℕ) → IsCounter c → word_at mem (Word c f) ≡ Some x → word_at mem2 (Word c f) ≡ Some y → y ≡ x
    keeps c f x y its was is = word_kept known mem mem2 told made nowhere c f x y its.0 its.1 was is

    same_shards : v.shards ≡ m.shards
    same_shards = uncounted_shards (Some (name i)) (Some map) effects m (none_counts i map known told nowhere)

    unwritten : RefinesShards v t × MakesUncounted v t
    unwritten = (
      shards_kept same hash m v s t new to.5 IsCounter keeps same_shards of_map stood counters.shards,
      makes_kept same hash m v s t new to.5 IsCounter keeps same_shards refl of_maker counters.makes,
    )

  -- a step that counts
  module _ (removed o : ℕ) (wrote : told ≡ changed.Wrote (Word st.setting.counter shard) o ((o + count_change removed) % 2 ^ 64)) (effects_are : effects ≡ Counted shard ∷ [])
      (adds : Adds removed its.0) where
    words : LeavesBy mem mem2 (changed.Wrote (Word st.setting.counter shard) o ((o + count_change removed) % 2 ^ 64))
    words = subst (LeavesBy mem mem2) wrote (operated_leaves mem mem2 told made)

    -- the shards of the moment then
    put_shards : v.shards ≡ put map (put shard (word_with its.0 (m.shards map shard)) (m.shards map)) m.shards
    put_shards =
        ap (λ (l : List Effect). (with_effects (Some (name i)) (Some map) l m).shards) effects_are ∙ ap (λ (c : Option (CallThere K V)). shards_by c (Counted shard) m.shards) its.1
        ∙ ap (λ (n : ℕ). put n (put shard (word_with its.0 (m.shards n shard)) (m.shards n)) m.shards) its.2

    others_now : (n : ℕ) → n ≢ map → v.shards n ≡ m.shards n
    others_now n ne = ap (λ (f : ℕ → ℕ → ℕ). f n) put_shards ∙ put_elsewhere map (put shard (word_with its.0 (m.shards map shard)) (m.shards map)) m.shards n ne

    its_now : v.shards map ≡ put shard (word_with its.0 (m.shards map shard)) (m.shards map)
    its_now = ap (λ (f : ℕ → ℕ → ℕ). f map) put_shards ∙ put_here map (put shard (word_with its.0 (m.shards map shard)) (m.shards map)) m.shards map refl

    -- another word of a count is what it was
    spared : (c f x y : ℕ) → (c ≡ st.setting.counter → f ≡ shard → ⊥) → word_at mem (Word c f) ≡ Some x → word_at mem2 (Word c f) ≡ Some y → y ≡ x
    spared c f x y other was is = elim (word_lasts mem mem2 c f y is told made) as (λ _. y ≡ x) [
      | inl kept ↦ kept ∙ ap or_zero was
      | inr now ↦
          absurd (let both : changed.Wrote (Word c f) now.0 now.1 ≡ changed.Wrote (Word st.setting.counter shard) o ((o + count_change removed) % 2 ^ 64) = sym now.2 ∙ wrote in
          let one : c ≡ st.setting.counter = cc both in let two : f ≡ shard = cc both in other one two)
    ]

    abbrev Says : ℕ → Setting → ℕ → Type 0
    Says n setting f = word_at mem2 (Word setting.counter f) ≡ Some (v.shards n f)

    -- its shard
    its_shard : shard ≤ st.setting.mask → Says map st.setting shard
    its_shard few =
        let was : Some o ≡ Some (m.shards map shard) = sym words.0 ∙ counters.shards map st to.2 shard few in
        let old_is : o ≡ m.shards map shard = one_of o (m.shards map shard) was in
        words.1 ∙ ap Some (
        sym (word_added removed o its.0 adds)
        ∙ ap (word_with its.0) old_is
        ∙ sym (ap (λ (f : ℕ → ℕ). f shard) its_now ∙ put_here shard (word_with its.0 (m.shards map shard)) (m.shards map) shard refl)
        )

    -- another one of its map
    beside : (f : ℕ) → f ≢ shard → f ≤ st.setting.mask → (x : Standing K) → t.maps map ≡ Some x → x.setting ≡ st.setting → Says map st.setting f
    beside f ne few x is set =
        let now = shard_there same hash m v s t new to.5 map x is f (subst (λ (z : Setting). f ≤ z.mask) (sym set) few) in
        let there : word_at mem2 (Word st.setting.counter f) ≡ Some now.0 = ap (λ (z : Setting). word_at mem2 (Word z.counter f)) (sym set) ∙ now.1 in
        there ∙ ap Some (
        spared st.setting.counter f (m.shards map f) now.0 (λ same_counter same_shard. ne same_shard) (counters.shards map st to.2 f few) there
        ∙ sym (ap (λ (g : ℕ → ℕ). g f) its_now ∙ put_elsewhere shard (word_with its.0 (m.shards map shard)) (m.shards map) f ne)
        )

    at_shard : (x : Standing K) → t.maps map ≡ Some x → x.setting ≡ st.setting → (f : ℕ) → f ≤ st.setting.mask → Says map st.setting f
    at_shard x is set f few = elim (cases_eq f shard) as (λ _. Says map st.setting f) [
      | inl e ↦ subst (Says map st.setting) (sym e) (its_shard (subst (λ (k : ℕ). k ≤ st.setting.mask) e few))
      | inr ne ↦ beside f ne few x is set
    ]

    on_map : (x : Standing K) → t.maps map ≡ Some x → x.setting ≡ st.setting → (f : ℕ) → f ≤ x.setting.mask → Says map x.setting f
    on_map x is set f few = subst (λ (z : Setting). Says map z f) (sym set) (at_shard x is set f (subst (λ (z : Setting). f ≤ z.mask) set few))

    off_map : (n : ℕ) → n ≢ map → (x : Standing K) → t.maps n ≡ Some x → (f : ℕ) → f ≤ x.setting.mask → Says n x.setting f
    off_map n ne x is f few =
        let was = stood n x is in
        let now = shard_there same hash m v s t new to.5 n x is f few in
        let before : word_at mem (Word x.setting.counter f) ≡ Some (m.shards n f) =
        ap (λ (z : Setting). word_at mem (Word z.counter f)) was.2 ∙ counters.shards n was.0 was.1 f (subst (λ (z : Setting). f ≤ z.mask) was.2 few) in
        now.1 ∙ ap Some (
        spared x.setting.counter f (m.shards n f) now.0
        (λ same_counter same_shard. at_old.together.makings.standing.counters n map was.0 st ne was.1 to.2 (ap (λ (z : Setting). z.counter) (sym was.2) ∙ same_counter)) before now.1
        ∙ sym (ap (λ (g : ℕ → ℕ). g f) (others_now n ne))
        )

    counted_shards : RefinesShards v t
    counted_shards n x is f few = elim (cases_eq n map) as (λ _. Says n x.setting f) [
      | inl e ↦
          let at_map : t.maps map ≡ Some x = ap t.maps (sym e) ∙ is in
          let was = stood map x at_map in
          let set : x.setting ≡ st.setting = was.2 ∙ ap (λ (y : Standing K). y.setting) (one_of was.0 st (sym was.1 ∙ to.2)) in
          subst (λ (k : ℕ). Says k x.setting f) (sym e) (on_map x at_map set f few)
      | inr ne ↦ off_map n ne x is f few
    ]

    -- maps to come have another number, and other counters
    counted_makes : MakesUncounted v t
    counted_makes j b is = (
      λ f. ap (λ (g : ℕ → ℕ). g f) (others_now b.map (λ e. (let gone = at_old.together.makings.coming j b is in let there = ap s.maps e ∙ to.2 in cc (gone, there)))) ∙ (counters.makes j b is).0 f,
      λ has_made f few. (let now = made_there same hash m v s t new to.5 j b is has_made f few in
          now.1 ∙ ap Some (spared b.machine.setting.counter f 0 now.0
          (λ same_counter same_shard. at_old.together.makings.counters_apart j map b st is to.2 has_made same_counter) ((counters.makes j b is).1 has_made f few) now.1)),
    )

  -- what it was about to add, and what it adds then
  abbrev Stores : Type 0
  Stores = MayStore same hash name m known s old new at_old whole counts map i u here said leads u

  abbrev Does : Type 0
  Does = StepAdds Stores known told st.setting.counter shard effects (adds_of (machine_of u)) (adds_of to.1)

  module _ (does : Does) where
    abbrev AllShow : Type 0
    AllShow = RefinesShards v t × MakesUncounted v t

    shards_then : AllShow
    shards_then = by does
      where
        by : Does → AllShow
        by (AddsNone nowhere none brings) = unwritten nowhere
        by (AddsIts removed o wrote effects_are before after) =
            let adds = counters.adds map i u here removed before its.0 its.1 in
            (counted_shards removed o wrote effects_are adds, counted_makes removed o wrote effects_are adds)

    own_adds : (removed : ℕ) → adds_of to.1 ≡ Some removed → (d : CallThere K V) → call_of (name i) v ≡ Some d → Adds removed d
    own_adds removed is d d_is = by does
      where
        by : Does → Adds removed d
        by (AddsNone nowhere none brings) =
            let has : its.0.gained + its.0.lost ≡ 0 = subst (λ (q : Bool). HasToCount q (its.0.gained + its.0.lost)) (machine_not_adds (machine_of u) none) (counts.counts map i u here its.0 its.1) in
            then_adds (name i) map m its.0 its.1 (omega (arith, has)) (omega (arith, has)) Stores effects removed (brings removed is)
            (replaces_none same hash name m known s old new at_old whole counts map i u here said leads) d d_is
        by (AddsIts before_removed o wrote effects_are before after) = absurd (cc (after, is))

    -- others add what they were to
    other_adds : (n j : ℕ) (x : UnderWay K V K) → (n ≡ map → j ≡ i → ⊥) → s.calls n j ≡ Some x → (removed : ℕ) → adds_of (machine_of x) ≡ Some removed
        → (d : CallThere K V) → call_of (name j) v ≡ Some d → Adds removed d
    other_adds n j x apart was removed is d d_is =
        let c = shown.calls n j x was in
        let stays = others_stay (name i) map (name j) effects m c.0 (by c.0 c.1 (is_same c.0.caller (name i)) refl) c.1 in
        subst (Adds removed) (one_of c.0 d (sym stays ∙ d_is)) (counters.adds n j x was removed is c.0 c.1)
      where
        by : (c : CallThere K V) → call_of (name j) m ≡ Some c → (q : Bool) → is_same c.caller (name i) ≡ q → is_same c.caller (name i) ≡ false
        by c c_is true e =
            absurd (let names : is_same (name j) (name i) ≡ true = ap (λ (l : List ℕ). is_same l (name i)) (sym (caller_is (name j) m c c_is)) ∙ e in
            let both = whole.all.asked.apart n j map i x u was here names in apart both.0 both.1)
        by c c_is false e = e

    adds_then : (n j : ℕ) (x : UnderWay K V K) → t.calls n j ≡ Some x → (removed : ℕ) → adds_of (machine_of x) ≡ Some removed → (d : CallThere K V) → call_of (name j) v ≡ Some d → Adds removed d
    adds_then n j x is removed to_add d d_is = elim (which s.calls map i to.4.next n j x is) as (λ _. Adds removed d) [
      | inl it ↦
          own_adds removed (ap adds_of (sym (goes_as_one to.1 said to.4.next to.4.goes_on x it.2)) ∙ to_add) d (ap (λ (k : ℕ). call_of (name k) v) (sym it.1) ∙ d_is)
      | inr was ↦ other_adds n j x was.0 was.1 removed to_add d d_is
    ]

    -- no shard of another map is another one
    pub others_then : (n : ℕ) → n ≢ map → v.shards n ≡ m.shards n
    others_then n ne = by does
      where
        by : Does → v.shards n ≡ m.shards n
        by (AddsNone nowhere none brings) = ap (λ (f : ℕ → ℕ → ℕ). f n) (same_shards nowhere)
        by (AddsIts removed o wrote effects_are before after) = others_now removed o wrote effects_are (counters.adds map i u here removed before its.0 its.1) n ne

    pub counters_then : RefinesCounters name v t
    counters_then = record { shards = shards_then.0; makes = shards_then.1; adds = adds_then }

pub calls_keep_counters : (K V : Type 0) (same : K → K → Bool) (hash : ℕ → K → ℕ) → CallsPreserveCounters K V same hash
calls_keep_counters K V same hash name m known s old new at_old whole counts counters map i (OnKey x) here said leads =
    counters_then same hash name m known s old new at_old whole counts counters map i (OnKey x) here said leads
    (key_adds same hash name m known s old new at_old whole.all.shown map i x here said leads (leads map (OnKey x) here).4.did)
calls_keep_counters K V same hash name m known s old new at_old whole counts counters map i (ForRoom x) here said leads =
    counters_then same hash name m known s old new at_old whole counts counters map i (ForRoom x) here said leads
    (room_adds same hash name m known s old new at_old whole.all.shown map i (ForRoom x) here said leads x refl (leads map (ForRoom x) here).4.did)
calls_keep_counters K V same hash name m known s old new at_old whole counts counters map i (Counting x) here said leads =
    counters_then same hash name m known s old new at_old whole counts counters map i (Counting x) here said leads
    (sum_adds same hash name m known s old new at_old whole.all.shown map i (Counting x) here said leads x refl (leads map (Counting x) here).4.did)
calls_keep_counters K V same hash name m known s old new at_old whole counts counters map i (OverAll x) here said leads =
    counters_then same hash name m known s old new at_old whole counts counters map i (OverAll x) here said leads
    (sweep_adds same hash name m known s old new at_old whole.all.shown map i (OverAll x) here said leads x refl (leads map (OverAll x) here).4.did)

-- a reservation and a counting count nothing
pub rooms_count_nothing : (K V : Type 0) (same : K → K → Bool) (hash : ℕ → K → ℕ) → RoomsCountNothing K V same hash
rooms_count_nothing K V same hash name m known s old new at_old whole map i u here said leads adds_up =
    uncounted_shards (Some (name i)) (Some map) (effects_of (acts.Call i map) known new.changed) m (none_counts i map known new.changed (by u refl adds_up))
  where
    by : (x : UnderWay K V K) → u ≡ x → AddsUp x → CountsNowhere known new.changed
    by (ForRoom r) is may = room_nowhere same hash name m known s old new at_old whole.all.shown map i u here said leads r is
    by (Counting sum) is may = sum_nowhere same hash name m known s old new at_old whole.all.shown map i u here said leads sum is
    by (OnKey x) is may = absurd may
    by (OverAll x) is may = absurd may
