-- Where the making of a map takes a step, shards are what they were; those that it makes are 0, and nothing was counted on its map when that stands.
use Rattle.std.specs.Prelude.{◌≡◌, ℕ, ◌<◌, ◌≤◌, Bool, List, Option, Some, None}
use Rattle.std.proofs.Common.{refl, ap, sym, subst, ◌∙◌, arith, inl, inr}
use Rattle.std.proofs.lemmas.Bool.{cases_eq}
use Rattle.run_debts.specs.Given.SeizeWordsMem.{Mem, value_at, word_at}
use Rattle.run_debts.specs.Given.SeizeWordsDeclared.at.At.TheVariants.{Root, Word}
use Rattle.run_debts.specs.Given.SeizeWorld.{World, with_at}
use Rattle.run_debts.specs.Given.SeizeDeclared.advance.Advance.{Advance}
use Rattle.run_debts.specs.Given.SeizeDeclared.advance.Advance.TheVariants as progress
use Rattle.run_debts.specs.Given.TablesDeclared.node.Node.{Node}
use Rattle.run_debts.specs.Given.TablesDeclared.node.Node.TheVariants as node
use Rattle.run_debts.specs.Given.TablesDeclared.setting.Setting.{Setting}
use Rattle.run_debts.specs.Given.ResizeNewMap.{opened, new_map_plan}
use Rattle.run_debts.specs.Given.ResizeNewMap as new_map
use Rattle.owner_calls.specs.Given.ResizeNewTable.{new_table_plan}
use Rattle.owner_calls.specs.Given.ResizeDeclared.new_map.NewMap.{NewMap}
use Rattle.owner_calls.specs.Given.ResizeDeclared.new_map.Opening.{Opening}
use Rattle.owner_calls.specs.Given.ResizeDeclared.new_map.Opening.TheVariants as at
use Rattle.run_debts.specs.Given.RunsDeclared.effect.Effect.{Effect}
use Rattle.run_debts.specs.Given.SchedulesEffects.{with_effects}
use Rattle.run_debts.specs.Given.SchedulesMoment.{Moment}
use Rattle.run_debts.specs.Given.EffectsDeclared.changed.Changed.{Changed}
use Rattle.run_debts.specs.Given.EffectsDeclared.changed.Changed.TheVariants as changed
use Rattle.run_debts.specs.Given.EffectsDeclared.changed.Kind.{Kind}
use Rattle.run_debts.specs.Given.EffectsDeclared.changed.Kind.TheVariants as kind
use Rattle.owner_calls.specs.Given.RuleRule.{no_table}
use Rattle.owner_calls.specs.Given.CallersTogether.{no_blocks}
use Rattle.owner_calls.proofs.Given.CallersTogether.At.{at_other, at_same}
use Rattle.run_debts.specs.Given.EffectsEffects.{effects_of}
use Rattle.run_debts.specs.Given.EffectsKnown.{Known}
use Rattle.run_debts.specs.Given.EffectsDeclared.acting.Acting.TheVariants as acts
use Rattle.run_debts.specs.Given.EffectsDeclared.role.Role.TheVariants as role
use Rattle.run_debts.specs.Given.FinishesEndings.{MakingStepsWithEndings}
use Rattle.run_debts.specs.Given.FinishesMakings.{Beginning, HasMade, OpeningFacts, MakingFacts, IsMade, PreservesItsOwn}
use Rattle.run_debts.specs.Given.FinishesMaps.{Standing}
use Rattle.run_debts.specs.Given.FollowsBlocks.{HasRole}
use Rattle.run_debts.proofs.Given.FollowsOperations.{LeavesBy, Operated, operated, operated_leaves}
use Rattle.run_debts.specs.Given.MomentsWhole.{RefinesWhole}
use Rattle.run_debts.proofs.Given.OthersMakingPlans.{DoneBy, making_done, CounterFrom, counter_from}
use Rattle.run_blocks.specs.Shards.ShardSteps.{MakingsPreserveCounters}
use Rattle.run_blocks.specs.Shards.ShardWords.{RefinesShards, IsUncounted, MakesUncounted, RefinesCounters}
use Rattle.run_debts.proofs.Aimed.{new_aims}
use Rattle.run_debts.proofs.Aims.{NewAims, PlanAims, aims_as, table_at, plan_aimed}
use Rattle.run_debts.proofs.Gains.{none_changed}
use Rattle.run_debts.proofs.Here.{IsNoCount}
use Rattle.run_blocks.proofs.Shards.ShardKept.{none_shards, word_kept, shard_there, made_there, shard_kept, shards_kept, made_kept, adds_kept}
use Rattle.run_debts.proofs.Uncounted.{CountsNowhere}
use Rattle.run_blocks.proofs.Shards.WordOps.{word_lasts, none_there}
use Rattle.run_debts.proofs.Given.ScenesMay.{may_make}
use Rattle.run_debts.specs.Given.ScenesHeld.{Held, IsAt}
use Rattle.run_debts.specs.Given.ScenesMaking.{MakingStepsFrom}
use Rattle.run_debts.specs.Given.ScenesScene.{Scene, slot_of}
use Rattle.run_debts.proofs.Given.General.{same_some as one_of}

-- which words of blocks the step of a making may write
module _ (P : ℕ → Type 0) where
  abbrev OpeningAims : Opening → Type 0
  OpeningAims (at.Tables making) = NewAims P making
  OpeningAims _ = Unit {0}

  open_at : (K V : Type 0) (c : NewMap) (p : Opening) → OpeningAims p → PlanAims P (new_map.plan_at {K = K} {V = V} c p)
  open_at K V c at.Takes so = tt
  open_at K V c at.Shards so = tt
  open_at K V c (at.Tables making) so = aims_as P (opened c) (new_table_plan {K = K} {V = V} making) (table_at P K V making making.stands so)
  open_at K V c (at.Unmakes fault) so = tt
  open_at K V c (at.Frees fault) so = tt
  open_at K V c at.Over so = tt
  open_at K V c (at.Refused fault) so = tt

module _ {K V : Type 0} (same : K → K → Bool) (hash : ℕ → K → ℕ) (name : ℕ → List ℕ) (m : Moment K V) (known : Known) (s : Scene K V) (old new : Held K V) (at_old : IsAt same hash old s)
    (whole : RefinesWhole same name m known s) (counters : RefinesCounters name m s) (i : ℕ) (b : Beginning K) (here : s.makers i ≡ Some b) (end : NewMap) (said : Advance Setting)
    (steps : MakingStepsFrom b.machine old new end said)
    (did : MakingStepsWithEndings V same same old.batch_size old.roots slot_of s.world s.maps s.calls s.makers s.enders i b new.memory (end, said)) (of : Option ℕ) where
  abbrev w : World (Node K V)
  w = s.world

  abbrev w2 : World (Node K V)
  w2 = did.step.w2

  abbrev told : Changed
  told = new.changed

  abbrev effects : List Effect
  effects = effects_of (acts.Making b.map) known told

  abbrev v : Moment K V
  v = with_effects None of effects m

  made : Operated w.memory w2.memory told
  made =
      subst (λ (n : Mem (Node K V)). Operated w.memory n told) (sym did.step.memory)
      (subst (λ (n : Mem (Node K V)). Operated n new.memory told) (sym at_old.memory)
      (operated old.memory new.memory told (new_map_plan b.machine) (end, said) (may_make same hash old s at_old i b here) steps))

  facts : MakingFacts w same old.batch_size old.roots i b
  facts = at_old.together.makings.facts i b here

  -- a table is no count
  own_no : (x len limit turn : ℕ) → value_at w.memory x ≡ Some (node.Table len limit turn) → IsNoCount known x
  own_no x len limit turn is n counter =
      absurd (let shards : value_at w.memory x ≡ Some node.Shards = subst (HasRole w m.stored x) counter (whole.all.shown.blocks.roles x) in cc (is, shards))

  aims : (p : Opening) → OpeningFacts w old.roots i b.machine p → OpeningAims (IsNoCount known) p
  aims (at.Tables making) point =
      new_aims same b.hash w i b.machine.setting no_table no_blocks (IsNoCount known) (λ t l seen. absurd (let none : t < 0 = l in omega (arith, none))) own_no
      (Root b.machine.setting.root) 0 making point.2
  aims _ point = tt

  nowhere : CountsNowhere known told
  nowhere x field before after n is counter =
      plan_aimed (IsNoCount known) old.memory new.memory told (new_map_plan b.machine) (end, said) steps
      (open_at (IsNoCount known) K V b.machine b.machine.stands (aims b.machine.stands facts.point)) x field before after is n counter

  -- counters are noted as such
  abbrev IsCounter : ℕ → Type 0
  IsCounter c = (n : ℕ) × (known.roles c ≡ role.Counter n)

  keeps : (c f x y : ℕ) → IsCounter c → word_at w.memory (Word c f) ≡ Some x → word_at w2.memory (Word c f) ≡ Some y → y ≡ x
  keeps c f x y its was is = word_kept known w.memory w2.memory told made nowhere c f x y its.0 its.1 was is

  of_map : (n : ℕ) (st : Standing K) → s.maps n ≡ Some st → IsCounter st.setting.counter
  of_map n st is = (n, (whole.all.shown.maps n st is).counter)

  of_maker : (j : ℕ) (d : Beginning K) → s.makers j ≡ Some d → HasMade d.machine.stands → IsCounter d.machine.setting.counter
  of_maker j d is has_made = (d.map, whole.counters j d is has_made)

  same_shards : v.shards ≡ m.shards
  same_shards = none_shards of effects m

  uncounted : (j : ℕ) (d : Beginning K) → s.makers j ≡ Some d → IsUncounted d.map v
  uncounted j d is shard = ap (λ (f : ℕ → ℕ → ℕ). f d.map shard) same_shards ∙ (counters.makes j d is).0 shard

  -- the words of a counter that it has just made are 0
  new_zero : (c f y : ℕ) → told ≡ changed.Made kind.Shards c → word_at w2.memory (Word c f) ≡ Some y → y ≡ 0
  new_zero c f y now is = elim (word_lasts w.memory w2.memory c f y is told made) as (λ _. y ≡ 0) [
    | inl kept ↦ kept ∙ none_there w.memory c f (subst (LeavesBy w.memory w2.memory) now (operated_leaves w.memory w2.memory told made)).0
    | inr wrote ↦ absurd (let so = wrote.2 in cc (now, so))
  ]

  -- the makings that are under way then are the others as they were, and this one, or none
  module _ (t : Scene K V) (at_new : IsAt same hash new t) (world : t.world ≡ w2) where
    keeps_then : (c f x y : ℕ) → IsCounter c → word_at s.world.memory (Word c f) ≡ Some x → word_at t.world.memory (Word c f) ≡ Some y → y ≡ x
    keeps_then c f x y its was is = keeps c f x y its was (subst (λ (u : World (Node K V)). word_at u.memory (Word c f) ≡ Some y) world is)

    abbrev Makes : ℕ → Beginning K → Type 0
    Makes j d =
        IsUncounted d.map v
        × (HasMade d.machine.stands → (shard : ℕ) → shard ≤ d.machine.setting.mask → word_at t.world.memory (Word d.machine.setting.counter shard) ≡ Some 0)

    makes_then : (next : Option (Beginning K)) → t.makers ≡ with_at s.makers i next → ((d : Beginning K) → next ≡ Some d → t.makers i ≡ Some d → Makes i d) → MakesUncounted v t
    makes_then next makers own j d is = elim (cases_eq j i) as (λ _. Makes j d) [
      | inl e ↦
          let at_i : t.makers i ≡ Some d = ap t.makers (sym e) ∙ is in
          own d (sym (ap (λ (f : ℕ → Option (Beginning K)). f i) makers ∙ at_same s.makers i next i refl) ∙ at_i) at_i
      | inr ne ↦
          let was : s.makers j ≡ Some d = sym (ap (λ (f : ℕ → Option (Beginning K)). f j) makers ∙ at_other s.makers i next j ne) ∙ is in
          made_kept same hash m v s t new at_new IsCounter keeps_then j d is was (uncounted j d was) (of_maker j d was) counters.makes
    ]

    -- this one goes on
    own_makes : HasMade end.stands → (shard y : ℕ) → shard ≤ end.setting.mask → word_at w2.memory (Word end.setting.counter shard) ≡ Some y → y ≡ 0
    own_makes has_made shard y few is = by (counter_from w i old.roots b.machine old.memory new.memory told end said has_made facts.point steps)
      where
        by : CounterFrom w i old.roots b.machine old.memory new.memory told end → y ≡ 0
        by (inl had) =
            let is_there : word_at w2.memory (Word b.machine.setting.counter shard) ≡ Some y = subst (λ (z : Setting). word_at w2.memory (Word z.counter shard) ≡ Some y) had.1 is in
            let few_then : shard ≤ b.machine.setting.mask = subst (λ (z : Setting). shard ≤ z.mask) had.1 few in
            keeps b.machine.setting.counter shard 0 y (of_maker i b here had.0) ((counters.makes i b here).1 had.0 shard few_then) is_there
        by (inr now) = new_zero end.setting.counter shard y now is

    goes_on : (d : Beginning K) → Some (record b { machine = end }) ≡ Some d → t.makers i ≡ Some d → Makes i d
    goes_on d e is = subst (Makes i) (one_of (record b { machine = end }) d e) (
      uncounted i b here,
      λ has_made shard few.
          let now = made_there same hash m v s t new at_new i (record b { machine = end }) (is ∙ sym e) has_made shard few in
          now.1 ∙ ap Some (own_makes has_made shard now.0 few (subst (λ (u : World (Node K V)). word_at u.memory (Word end.setting.counter shard) ≡ Some now.0) world now.1)),
    )

    gone : (d : Beginning K) → None ≡ Some d → t.makers i ≡ Some d → Makes i d
    gone d e is = absurd (cc e)

    -- the maps that stand are those that did
    shards_still : t.maps ≡ s.maps → RefinesShards v t
    shards_still maps =
        shards_kept same hash m v s t new at_new IsCounter keeps_then same_shards of_map (λ n st is. (st, subst (λ (f : ℕ → Option (Standing K)). f n ≡ Some st) maps is, refl)) counters.shards

    counters_at : MakesUncounted v t → RefinesShards v t → t.calls ≡ s.calls → RefinesCounters name v t
    counters_at makes shards under_way = record { shards = shards; makes = makes; adds = adds_kept name m v s t (none_changed of effects m) under_way counters.adds }

    -- or one more does
    module _ (setting : Setting) (done : said ≡ progress.Done setting) (st : Standing K) (made_map : IsMade V same same old.batch_size old.roots slot_of b setting st)
        (maps : t.maps ≡ with_at s.maps b.map (Some st)) where
      few_shards : (shard : ℕ) → shard ≤ setting.mask → shard ≤ b.machine.setting.mask
      few_shards shard few =
          let theirs : setting.mask ≡ b.given.mask = ap (λ (z : Setting). z.mask) made_map.answer_is in
          let ours : b.machine.setting.mask ≡ b.given.mask = ap (λ (z : Setting). z.mask) facts.setting_is in omega (arith, theirs, ours, few)

      its_steps : MakingStepsFrom b.machine old new end (progress.Done setting)
      its_steps = subst (λ (p : Advance Setting). MakingStepsFrom b.machine old new end p) done steps

      its_keeps : PreservesItsOwn V same same old.batch_size old.roots slot_of w w2 b.machine (end, progress.Done setting)
      its_keeps = subst (λ (p : Advance Setting). PreservesItsOwn V same same old.batch_size old.roots slot_of w w2 b.machine (end, p)) done did.step.keeps

      done_zero : (shard y : ℕ) → shard ≤ setting.mask → word_at w2.memory (Word setting.counter shard) ≡ Some y → y ≡ 0
      done_zero shard y few is = by told refl (making_done w i old.roots b.machine old.memory new.memory told end setting facts.point its_steps)
        where
          by : (x : Changed) → told ≡ x → DoneBy w i old.roots b.machine old.memory new.memory told setting x → y ≡ 0
          by (changed.Made it x) e so = new_zero setting.counter shard y (e ∙ ap (λ (k : Kind). changed.Made k x) so.1 ∙ ap (λ (c : ℕ). changed.Made kind.Shards c) (sym so.2)) is
          by (changed.Wrote a before after) e so =
              let counter_is : setting.counter ≡ b.machine.setting.counter = its_keeps.1 so.0 in
              let is_there : word_at w2.memory (Word b.machine.setting.counter shard) ≡ Some y = subst (λ (c : ℕ). word_at w2.memory (Word c shard) ≡ Some y) counter_is is in
              keeps b.machine.setting.counter shard 0 y (of_maker i b here so.0) ((counters.makes i b here).1 so.0 shard (few_shards shard few)) is_there
          by changed.Nothing e so = absurd so
          by (changed.Unmade k) e so = absurd so
          by (changed.Took x) e so = absurd so
          by (changed.Roomed bucket had) e so = absurd so

      its_map : t.maps b.map ≡ Some st
      its_map = ap (λ (f : ℕ → Option (Standing K)). f b.map) maps ∙ at_same s.maps b.map (Some st) b.map refl

      new_shard : (shard : ℕ) → shard ≤ st.setting.mask → word_at t.world.memory (Word st.setting.counter shard) ≡ Some (v.shards b.map shard)
      new_shard shard few =
          let now = shard_there same hash m v s t new at_new b.map st its_map shard few in
          let there : word_at w2.memory (Word setting.counter shard) ≡ Some now.0 =
          subst (λ (z : Setting). word_at w2.memory (Word z.counter shard) ≡ Some now.0) made_map.setting_is (subst (λ (u : World (Node K V)). word_at u.memory (Word st.setting.counter shard) ≡ Some now.0) world now.1) in
          now.1 ∙ ap Some (done_zero shard now.0 (subst (λ (z : Setting). shard ≤ z.mask) made_map.setting_is few) there ∙ sym (uncounted i b here shard))

      shards_more : RefinesShards v t
      shards_more n x is shard few = elim (cases_eq n b.map) as (λ _. word_at t.world.memory (Word x.setting.counter shard) ≡ Some (v.shards n shard)) [
        | inl e ↦
            let one : st ≡ x = one_of st x (sym its_map ∙ ap t.maps (sym e) ∙ is) in
            subst (λ (k : ℕ). word_at t.world.memory (Word x.setting.counter shard) ≡ Some (v.shards k shard)) (sym e)
            (subst (λ (y : Standing K). shard ≤ y.setting.mask → word_at t.world.memory (Word y.setting.counter shard) ≡ Some (v.shards b.map shard)) one (new_shard shard) few)
        | inr ne ↦
            let was : s.maps n ≡ Some x = sym (ap (λ (f : ℕ → Option (Standing K)). f n) maps ∙ at_other s.maps b.map (Some st) n ne) ∙ is in
            shard_kept same hash m v s t new at_new IsCounter keeps_then n x x is refl (of_map n x was) shard (m.shards n shard) few (counters.shards n x was shard few)
            ∙ ap (λ (f : ℕ → ℕ → ℕ). Some (f n shard)) (sym same_shards)
      ]

module _ (K V : Type 0) (same : K → K → Bool) (hash : ℕ → K → ℕ) where
  pub makings_keep_counters : MakingsPreserveCounters K V same hash
  makings_keep_counters name m known s old new at_old whole counters i progress.Goes leads b here of =
      let to = leads b here in
      let t : Scene K V = record s { world = to.2.step.w2; makers = with_at s.makers i (Some (record b { machine = to.0 })) } in
      counters_at same hash name m known s old new at_old whole counters i b here to.0 progress.Goes to.1 to.2 of t to.3 refl
      (makes_then same hash name m known s old new at_old whole counters i b here to.0 progress.Goes to.1 to.2 of t to.3 refl (Some (record b { machine = to.0 })) refl
      (goes_on same hash name m known s old new at_old whole counters i b here to.0 progress.Goes to.1 to.2 of t to.3 refl))
      (shards_still same hash name m known s old new at_old whole counters i b here to.0 progress.Goes to.1 to.2 of t to.3 refl refl) refl
  makings_keep_counters name m known s old new at_old whole counters i progress.Waits leads b here of = absurd (leads b here).3
  makings_keep_counters name m known s old new at_old whole counters i (progress.Done setting) leads b here of =
      let to = leads b here in
      let t : Scene K V = record s { world = to.2.step.w2; maps = with_at s.maps b.map (Some to.3.0); makers = with_at s.makers i None } in
      counters_at same hash name m known s old new at_old whole counters i b here to.0 (progress.Done setting) to.1 to.2 of t to.3.2 refl
      (makes_then same hash name m known s old new at_old whole counters i b here to.0 (progress.Done setting) to.1 to.2 of t to.3.2 refl None refl
      (gone same hash name m known s old new at_old whole counters i b here to.0 (progress.Done setting) to.1 to.2 of t to.3.2 refl))
      (shards_more same hash name m known s old new at_old whole counters i b here to.0 (progress.Done setting) to.1 to.2 of t to.3.2 refl setting refl to.3.0 to.3.1 refl) refl
  makings_keep_counters name m known s old new at_old whole counters i (progress.Refused fault) leads b here of =
      let to = leads b here in
      let t : Scene K V = record s { world = to.2.step.w2; makers = with_at s.makers i None } in
      counters_at same hash name m known s old new at_old whole counters i b here to.0 (progress.Refused fault) to.1 to.2 of t to.3 refl
      (makes_then same hash name m known s old new at_old whole counters i b here to.0 (progress.Refused fault) to.1 to.2 of t to.3 refl None refl
      (gone same hash name m known s old new at_old whole counters i b here to.0 (progress.Refused fault) to.1 to.2 of t to.3 refl))
      (shards_still same hash name m known s old new at_old whole counters i b here to.0 (progress.Refused fault) to.1 to.2 of t to.3 refl refl) refl
