-- A row within a call that retires a block tells it just once: as it writes into the block which batch that is of.
use Rattle.std.specs.Prelude.{◌≢◌, ◌<◌, Option, Some, IsSome, flat_map, length}
use Rattle.std.proofs.Common.{◌≡◌, ℕ, ◌+◌, Bool, true, false, List, [], ◌∷◌, ◌++◌, ◌⊎◌, inl, inr, refl, ap, sym, subst, arith, ◌∙◌}
use Rattle.std.proofs.lemmas.Bool.{eq-eqb, ne_eqb}
use Rattle.std.proofs.lemmas.List.{append-nil}
use Rattle.std.proofs.lemmas.List.Concat.{flat_map-cons}
use Rattle.run_schedules.specs.Given.SeizeWordsDeclared.at.At.TheVariants.{Entry}
use Rattle.run_schedules.specs.Given.SeizeWordsMem.{Mem, same_at, value_at, word_at, with_word, Can, Took}
use Rattle.run_schedules.specs.Given.SeizeWordsPlan.{May, Steps}
use Rattle.run_schedules.specs.Given.SeizeWordsWord.{link_to, block_in}
use Rattle.run_schedules.proofs.Given.SeizeWordsOneOwner.AfterWrites.{placed}
use Rattle.seize.specs.declared.states.TheConstants.{NEXT, FIRST, LAST_SLOT}
use Rattle.seize.specs.declared.rows.settle.Settle.{Settle}
use Rattle.seize.specs.declared.rows.settle.Settled.{Settled}
use Rattle.seize.specs.declared.rows.settle.Settled.TheVariants as settled
use Rattle.seize.specs.declared.rows.settle.Settling.{Settling}
use Rattle.seize.specs.declared.rows.settle.Settling.TheVariants as at
use Rattle.seize.specs.Settle.{settle_plan, plan_at, retiring}
use Rattle.seize.specs.Sequence.{changes}
use Rattle.seize.specs.WaitingSets.{Change, Retires}
use Rattle.seize.specs.World.{World, Row, Rests, Registers, Enters, Settles, Leaves, Defers, Frees, Hand, Cutting, Request, Retire, Begin, Step, Begins, Happens, Steps', settles_on, at_start}
use Rattle.run_executor.proofs.Given.SeizeMovesState.Ghost.{IsUnlinked}
use Rattle.run_executor.proofs.Given.SeizeRulePoints.Aside.{HandFits}
use Rattle.run_executor.proofs.Given.SeizeRulePoints.Known.{FitsAt, bare, open_blocks}
use Rattle.run_executor.proofs.Given.SeizeRulePoints.Retire.{of_link, open_chain}
use Rattle.run_executor.proofs.Given.SeizeRuleRows.Known.{FitsRow}
use Rattle.run_executor.proofs.Given.SeizeRuleRows.Others.{with_here}
use Rattle.run_executor.proofs.Given.SeizeMemoryWords.Chains.{Chain, first_or}
use Rattle.run_executor.proofs.Given.SeizeMemoryWords.Named.{link, block_there}
use Rattle.run_executor.proofs.Given.SeizeMemoryWords.Shows.{NextIs, lives}
use Rattle.run_executor.proofs.Given.SeizeMemoryWords.There.{value_there}
use Rattle.run_executor.proofs.Given.SeizeMemoryWords.View.{view}
use Rattle.run_executor.proofs.Given.SeizeRuleWorld.Good.{Good}
use Rattle.run_executor.proofs.Given.SeizeRuleWorld.Kept.{row_may}
use Rattle.run_executor.proofs.Given.SeizeRuleWorld.Start.{start_good}
use Rattle.run_executor.proofs.Given.SeizeAloneHistories.Reached.{Reached}
use Rattle.papaya_raw.specs.Given.TablesNodes.{deferred_word}
use Rattle.papaya_raw.specs.Given.TablesDeclared.node.Node.{Node}
use Rattle.run_executor.specs.Given.EffectsDeclared.changed.Changed.{Changed}
use Rattle.run_executor.specs.Given.EffectsDeclared.changed.Changed.TheVariants as changed
use Rattle.papaya_raw.specs.declared.machines.progress.Progress.{Progress}
use Rattle.run_executor.specs.Given.CallersTogether.{UnderWay, CameAbout}
use Rattle.run_executor.proofs.Given.CallersTogether.Came.{came_reached, came_next}
use Rattle.run_executor.specs.Given.EffectsEffects.{names_same, effects_of, known_after}
use Rattle.run_executor.specs.Given.EffectsKnown.{Known}
use Rattle.run_executor.specs.Given.EffectsDeclared.acting.Acting.TheVariants.{Call}
use Rattle.run_executor.specs.Given.EffectsDeclared.role.Role.{Role}
use Rattle.run_executor.specs.Given.EffectsDeclared.role.Role.TheVariants as role
use Rattle.run_executor.specs.Given.FollowsBlocks.{HasRole}
use Rattle.run_executor.proofs.Given.FollowsOnward.{KeepsRoles}
use Rattle.run_executor.proofs.Given.FollowsOperations.{LeavesBy, Operated, operated_leaves}
use Rattle.run_executor.proofs.Given.FollowsSteps.{WentTo, went_to, made_so}
use Rattle.run_executor.specs.Given.HandsRows.{ReclaimsNone}
use Rattle.run_executor.proofs.Given.HandsGuarded.{there_is}
use Rattle.run_executor.proofs.Given.HandsHanding.{plan_aside, settle_aside, is_batches as batches_or}
use Rattle.run_executor.specs.Given.MomentsWhole.{RefinesWhole}
use Rattle.run_schedules.specs.Schedules.Model.{handing}
use Rattle.run_schedules.specs.Schedules.Moment.{Moment}
use Rattle.run_schedules.specs.declared.effect.Effect.{Effect}
use Rattle.run_schedules.specs.declared.effect.Effect.TheVariants as effect
use Rattle.run_schedules.specs.declared.effect.Thing.{Thing}
use Rattle.run_schedules.specs.declared.effect.Thing.TheVariants.{APair, ATable}
use Rattle.run_blocks.specs.Given.PromisesSheltered.{IsOfThing}
use Rattle.run_executor.proofs.Given.SpotsHanding.{AllKeep}
use Rattle.run_kept.specs.Models.Alike.{ChangesAlike}
use Rattle.run_kept.specs.Models.Numbers.{HasNumber, AreOfThings}
use Rattle.run_kept.specs.Models.Retires.{IsToRetireAt, IsToRetire, IsPast, HasRetired, HasReportedRetire, RetiresAreReported}
use Rattle.run_kept.proofs.Models.Calls.{NoRow, OneStep, one_step, its_memory, kept_numbers, row_keeps}
use Rattle.run_kept.proofs.Models.Handing.{nothing_handed, keep_of}
use Rattle.run_kept.proofs.Models.Retires.{to_retire, retires, past_on, goes_row, past_row}
use Rattle.run_kept.proofs.Models.Told.{quiet_keeps, first_retires, is_told}
use Rattle.run_kept.proofs.Models.Unbatched.{IsKept, runs_unbatched}
use Rattle.run_executor.specs.Given.ScenesHeld.{Held, IsAt}
use Rattle.run_executor.specs.Given.ScenesScene.{Scene}
use Rattle.run_executor.specs.Given.ScenesStepping.{StepLeads}

past_other : (p : Settling) → IsPast p → (block : ℕ) → p ≡ at.Batches block → ⊥
past_other p past block e = subst IsPast e past

itself : (b : ℕ) → same_at (Entry b FIRST) (Entry b FIRST) ≡ true
itself b = grind (arith, eq-eqb b b refl)

settled_memory : {T : Type 0} (w : World T) (i : ℕ) (c : Settle) (m : Mem T) (end : Settle × Settled T) → (settles_on w i c m end).memory ≡ m
settled_memory w i c m (d, settled.Goes) = refl
settled_memory w i c m (d, settled.Waits) = refl
settled_memory w i c m (d, settled.Gave value) = refl
settled_memory w i c m (d, settled.Done) = refl

-- One step of such a row.

module _ {K V : Type 0} (size : ℕ) (w w2 : World (Node K V)) (reached : Reached deferred_word size w) (i map b : ℕ) (some : 0 < b) (known : Known) (told : Changed)
    (made : Operated w.memory w2.memory told) where
  abbrev n : ℕ
  n = LAST_SLOT + 1

  abbrev good : Good deferred_word n size w
  good = reached.good

  -- nothing is handed over
  abbrev pub Quiet : Type 0
  Quiet = AllKeep (effects_of (Call i map) known told)

  -- the block is written into which batch it is of
  pub record Writes : Type 0 where
    pub first : ℕ
    pub named : 0 < block_in first
    pub memory : w2.memory ≡ with_word w.memory (Entry b FIRST) first

  abbrev pub Kept : Type 0
  Kept = (field : ℕ) → word_at w2.memory (Entry b field) ≡ word_at w.memory (Entry b field)

  left : LeavesBy w.memory w2.memory told
  left = operated_leaves w.memory w2.memory told made

  module _ (c : Settle) (here : w.row i ≡ Settles c) (none : ReclaimsNone (Settles c)) (mem2 : Mem (Node K V)) (end : Settle × Settled (Node K V))
      (st : Steps Took value_at w.memory (settle_plan deferred_word c) mem2 end) (e : w2 ≡ settles_on w i c mem2 end) where
    memory_is : w2.memory ≡ mem2
    memory_is = ap (λ (u : World (Node K V)). u.memory) e ∙ settled_memory w i c mem2 end

    may : May Can Took value_at w.memory (settle_plan deferred_word c)
    may = row_may deferred_word n size refl w good i (Settles c) here

    quiet : ((block : ℕ) → c.stands ≡ at.Batches block → ⊥) → Quiet
    quiet other =
        quiet_keeps i map known told (λ x hands old new is.
        let l : LeavesBy w.memory w2.memory (changed.Wrote x old new) = subst (LeavesBy w.memory w2.memory) is left in
        plan_aside w.memory w2.memory x hands old new l.0 l.1 l.2 (settle_plan deferred_word c) end (settle_aside deferred_word c c.stands other) may
        (subst (λ (k : Mem (Node K V)). Steps Took value_at w.memory (settle_plan deferred_word c) k end) (sym memory_is) st))

    first_named : (block : ℕ) → c.stands ≡ at.Batches block → 0 < block_in c.first
    first_named block is = by (open_blocks good.state (bare c)) refl
      where
        fits : FitsAt n i (view deferred_word w.memory) good.state good.extra (bare c) (at.Batches block)
        fits = subst (FitsAt n i (view deferred_word w.memory) good.state good.extra (bare c)) is
            (subst (λ (r : Row). FitsRow n i (view deferred_word w.memory) good.state good.extra (length w.memory.slots) r) here (good.rows i))

        of : (d : ℕ) → 0 < d → c.first ≡ link d → 0 < block_in c.first
        of d pos first = subst (λ (x : ℕ). 0 < x) (sym (of_link c.first d first)) pos

        chain : Chain (good.extra.behind (good.state.open_batch c.slot)) (view deferred_word w.memory).nexts
            (first_or (good.extra.behind (good.state.open_batch c.slot)) (open_blocks good.state (bare c))) (open_blocks good.state (bare c))
        chain = open_chain n i (view deferred_word w.memory) good.state good.extra (bare c) good.inv good.shows fits.putting.common.slot_lt

        by : (l : List ℕ) → open_blocks good.state (bare c) ≡ l → 0 < block_in c.first
        by [] none_open = of fits.b fits.putting.some_block (fits.first ∙ ap (first_or (link fits.b)) none_open)
        by (d ∷ l) is_open =
            let ch = subst (λ (bs : List ℕ).
            Chain (good.extra.behind (good.state.open_batch c.slot)) (view deferred_word w.memory).nexts (first_or (good.extra.behind (good.state.open_batch c.slot)) bs) bs) is_open chain in
            of d ch.0 (fits.first ∙ ap (first_or (link fits.b)) is_open)

    -- it is to retire the block
    abbrev Goes : Type 0
    Goes = (IsToRetire b (w2.row i) × Kept × Quiet) ⊎ (HasRetired (w2.row i) × Writes)

    due : IsToRetireAt b c c.stands → word_at w.memory (Entry b NEXT) ≡ Some 0 → Goes
    due is next = by (batches_or c.stands)
      where
        by : ((block : ℕ) × (c.stands ≡ at.Batches block)) ⊎ ((block : ℕ) → c.stands ≡ at.Batches block → ⊥) → Goes
        by (inr other) =
            let on = to_retire deferred_word b some w.memory mem2 c none end c.stands refl is other next st in
            inl (
              subst (λ (u : World (Node K V)). IsToRetire b (u.row i)) (sym e) (goes_row w i b c mem2 end on.0.0 on.0.1),
              λ field. ap (λ (k : Mem (Node K V)). word_at k (Entry b field)) memory_is ∙ on.1 field,
              quiet other,
            )
        by (inl (block, stands)) =
            let at_block = subst (IsToRetireAt b c) stands is in
            let did = retires deferred_word b some w.memory mem2 c none end block at_block.0 at_block.1
            (subst (λ (p : Settling). Steps Took value_at w.memory (plan_at deferred_word c p) mem2 end) stands st) in
            inr (
              subst (λ (u : World (Node K V)). HasRetired (u.row i)) (sym e) (past_row w i b c mem2 end did.1),
              record { first = c.first; named = first_named block stands; memory = memory_is ∙ did.0 },
            )

    past : (c.pending ≡ 0) × IsPast c.stands → HasRetired (w2.row i) × Quiet
    past is = (
      subst (λ (u : World (Node K V)). HasRetired (u.row i)) (sym e) (past_row w i b c mem2 end (past_on deferred_word b some w.memory mem2 c none end is.0 is.1 c.stands is.1 none.3 st)),
      quiet (past_other c.stands is.1),
    )

  pub due_step : (row : Row) → w.row i ≡ row → ReclaimsNone row → Steps' deferred_word i row w w2 → IsToRetire b row → word_at w.memory (Entry b NEXT) ≡ Some 0
      → (IsToRetire b (w2.row i) × Kept × Quiet) ⊎ (HasRetired (w2.row i) × Writes)
  due_step Rests here none step is next = absurd is
  due_step (Registers c) here none step is next = absurd is
  due_step (Enters c) here none step is next = absurd is
  due_step (Leaves c) here none step is next = absurd is
  due_step (Defers s c) here none step is next = absurd is
  due_step (Frees c) here none step is next = absurd is
  due_step (Settles c) here none (mem2, end, st, e) is next = due c here none mem2 end st e is next

  pub past_step : (row : Row) → w.row i ≡ row → ReclaimsNone row → Steps' deferred_word i row w w2 → HasRetired row → HasRetired (w2.row i) × Quiet
  past_step Rests here none step is = absurd step
  past_step (Registers c) here none step is = absurd is
  past_step (Enters c) here none step is = absurd is
  past_step (Leaves c) here none step is = absurd is
  past_step (Defers s c) here none step is = absurd is
  past_step (Frees c) here none step is = absurd is
  past_step (Settles c) here none (mem2, end, st, e) is = past c here none mem2 end st e is

  -- What it has told then.
  module _ (things : List Thing) (slot k : ℕ) (has : HasNumber known things b k) (keeps : KeepsRoles known (known_after (Call i map) told known)) (handed : List Change) where
    abbrev effects : List Effect
    effects = effects_of (Call i map) known told

    abbrev known2 : Known
    known2 = known_after (Call i map) told known

    nothing_more : Quiet → handed ++ flat_map (handing things slot) effects ≡ handed
    nothing_more quiet = ap (λ (cs : List Change). handed ++ cs) (nothing_handed things slot effects quiet) ∙ append-nil handed

    more : (l : List Change) → ChangesAlike (HasNumber known things) (Retires slot b ∷ []) l → ChangesAlike (HasNumber known2 things) (Retires slot b ∷ []) l
    more [] h = absurd h
    more (d ∷ []) h = let it = h.0 in ((it.0, kept_numbers known known2 keeps things b it.0 it.1, it.2), tt)
    more (d ∷ e ∷ l) h = absurd h.1

    said_now : Writes → word_at w.memory (Entry b FIRST) ≡ Some 0 → effects ≡ effect.Retired has.0 ∷ []
    said_now writes zero =
        let other : writes.first ≡ 0 → ⊥ = λ e. (let pos = writes.named in let nil : block_in writes.first ≡ 0 = ap block_in e in omega (arith, pos, nil)) in
        let is = is_told w.memory w2.memory (Entry b FIRST) (itself b) (λ bucket. refl) 0 writes.first zero writes.memory other told made in
        let differ : names_same 0 writes.first ≡ false = ne_eqb 0 (block_in writes.first) (λ e. let pos = writes.named in omega (arith, pos, e)) in
        ap (effects_of (Call i map) known) is ∙ first_retires i map known b 0 writes.first has.0 has.1 differ

    told_now : effects ≡ effect.Retired has.0 ∷ [] → handed ≡ [] → ChangesAlike (HasNumber known2 things) (Retires slot b ∷ []) (handed ++ flat_map (handing things slot) effects)
    told_now said none =
        let all : handed ++ flat_map (handing things slot) effects ≡ Retires slot k ∷ [] =
        ap (λ (cs : List Change). cs ++ flat_map (handing things slot) effects) none ∙ ap (flat_map (handing things slot)) said ∙ flat_map-cons (handing things slot) (effect.Retired has.0) []
        ∙ ap (λ (x : ℕ). Retires slot x ∷ []) has.3 in
        subst (ChangesAlike (HasNumber known2 things) (Retires slot b ∷ [])) (sym all) ((k, kept_numbers known known2 keeps things b k has, refl), tt)

    pub told_on : ReclaimsNone (w.row i) → Steps' deferred_word i (w.row i) w w2 → HasReportedRetire things known i slot b handed w
        → HasReportedRetire things known2 i slot b (handed ++ flat_map (handing things slot) effects) w2 × AreOfThings things effects
    told_on none step (inl (is, nil, first, next)) = by (due_step (w.row i) refl none step is next)
      where
        by : (IsToRetire b (w2.row i) × Kept × Quiet) ⊎ (HasRetired (w2.row i) × Writes)
            → HasReportedRetire things known2 i slot b (handed ++ flat_map (handing things slot) effects) w2 × AreOfThings things effects
        by (inl (still, kept, quiet)) = (inl (still, nothing_more quiet ∙ nil, kept FIRST ∙ first, kept NEXT ∙ next), keep_of things effects quiet)
        by (inr (past, writes)) =
            let said = said_now writes first in (inr (past, told_now said nil), subst (AreOfThings things) (sym said) (has.2, tt))
    told_on none step (inr (is, alike)) =
        let on = past_step (w.row i) refl none step is in (
          inr (on.0, subst (ChangesAlike (HasNumber known2 things) (Retires slot b ∷ [])) (sym (nothing_more on.1)) (more handed alike)),
          keep_of things effects on.1,
        )

-- a block that is there has a number
in_place : {T : Type 0} (m : Mem T) (b : ℕ) → IsSome (value_at m b) → 0 < b
in_place m b there = let block = block_there m b there in (placed m b block.0 block.1).0

-- Where such a row begins the block is in no list and no batch.

module _ {K V : Type 0} (size : ℕ) (w : World (Node K V)) (came : CameAbout size w) (b h : ℕ) (cut : w.hand b ≡ Cutting h) where
  reached : Reached deferred_word size w
  reached = came_reached size w came

  life : reached.good.state.life b ≡ IsUnlinked h
  life = subst (λ (x : Hand). HandFits x (reached.good.state.life b)) cut (reached.good.hands b)

  some_number : 0 < b
  some_number =
      in_place w.memory b (value_there deferred_word (LAST_SLOT + 1) w.memory reached.good.state reached.good.extra b reached.good.shows (ap lives life))

  start_reached : Reached deferred_word size (at_start (deferred_word {K = K} {V = V}) came.0)
  start_reached = record { good = start_good deferred_word (LAST_SLOT + 1) size came.0; sized = λ i. tt }

  no_batch : word_at w.memory (Entry b FIRST) ≡ Some 0
  no_batch = runs_unbatched deferred_word size came.1 (at_start deferred_word came.0) w start_reached (λ x is. absurd is) came.2 b (subst IsKept (sym cut) tt)

  no_list : word_at w.memory (Entry b NEXT) ≡ Some 0
  no_list =
      there_is (word_at w.memory (Entry b NEXT)) 0 (reached.good.stocked.entries b NEXT (reached.good.shows.lists.lived b ∙ ap lives life) (omega arith))
      (subst (NextIs ((view deferred_word w.memory).nexts b)) life (reached.good.shows.lists.nexted b))

pub retires_are_told : (K V : Type 0) → RetiresAreReported K V
retires_are_told K V things known i s b handed w told rests before after = by told
  where
    by : HasReportedRetire things known i s b handed w → ChangesAlike (HasNumber known things) (changes (Retire s b) before after) handed
    by (inl (is, nil, first, next)) = absurd (subst (IsToRetire b) rests is)
    by (inr (past, alike)) = alike

module _ {K V : Type 0} (same : K → K → Bool) (hash : ℕ → K → ℕ) (name : ℕ → List ℕ) (m : Moment K V) (known : Known) (s : Scene K V) (old new : Held K V) (at : IsAt same hash old s)
    (whole : RefinesWhole same name m known s) (map i : ℕ) (u : UnderWay K V K) (here : s.calls map i ≡ Some u) (told : Progress (Node K V)) (leads : StepLeads same hash i told s old new) where
  abbrev pub to : WentTo same hash name m known s old new at whole.all.shown map i u here told leads
  to = went_to same hash name m known s old new at whole.all.shown map i u here told leads

  abbrev pub No : Type 0
  No = NoRow same hash name m known s old new at whole map i u here told leads u to.4.did

  abbrev pub Stepped : Type 0
  Stepped = OneStep same hash name m known s old new at whole map i u here told leads to.4.w2

  pub came : CameAbout old.batch_size s.world
  came = at.together.makings.standing.came

  pub made : (No → ⊥) → (v : World (Node K V)) → v.memory ≡ s.world.memory → Operated v.memory to.4.w2.memory new.changed
  made other v memory =
      subst (λ (k : Mem (Node K V)). Operated k to.4.w2.memory new.changed) (sym memory)
      (subst (λ (k : Mem (Node K V)). Operated s.world.memory k new.changed) (sym (its_memory same hash name m known s old new at whole map i u here told leads other))
      (made_so same hash name m known s old new at whole.all.shown map i u here told leads))

  pub keeps : (No → ⊥) → KeepsRoles known (known_after (Call i map) new.changed known)
  keeps other = row_keeps same hash name m known s old new at whole map i u here told leads other

  -- what is noted as a thing is there
  some_block : (things : List Thing) (b k : ℕ) → HasNumber known things b k → 0 < b
  some_block things b k has = in_place s.world.memory b (by has.0 has.1)
    where
      by : (x : Thing) → IsOfThing x (known.roles b) → IsSome (value_at s.world.memory b)
      by (APair n) of =
          let role_is : HasRole s.world m.stored b (role.Pair n) = subst (λ (r : Role). HasRole s.world m.stored b r) of (whole.all.shown.blocks.roles b) in
          subst (λ (o : Option (Node K V)). IsSome o) (sym role_is.3) refl
      by (ATable t) of =
          let role_is : HasRole s.world m.stored b (role.Table t of.0) = subst (λ (r : Role). HasRole s.world m.stored b r) of.1 (whole.all.shown.blocks.roles b) in
          subst (λ (o : Option (Node K V)). IsSome o) (sym role_is.1) refl

  abbrev effects_now : List Effect
  effects_now = effects_of (Call i map) known new.changed

  -- what it has told then, and that it is of things
  abbrev Tells : (things : List Thing) (slot b : ℕ) → List Change → Type 0
  Tells things slot b handed = HasReportedRetire things (known_after (Call i map) new.changed known) i slot b (handed ++ flat_map (handing things slot) effects_now) to.4.w2 × AreOfThings things effects_now

  pub goes_on : (No → ⊥) → s.world.row i ≢ Rests → (things : List Thing) (slot b k : ℕ) (handed : List Change) → HasNumber known things b k → HasReportedRetire things known i slot b handed s.world
      → Tells things slot b handed
  goes_on other goes things slot b k handed has so = by (one_step same hash name m known s old new at whole map i u here told leads other)
    where
      by : Stepped → Tells things slot b handed
      by (inl step) =
          told_on old.batch_size s.world to.4.w2 (came_reached old.batch_size s.world came) i map b (some_block things b k has) known new.changed (made other s.world refl) things slot k has (keeps other) handed
          (whole.all.rows.none map i u here) step so
      by (inr (request, begun, hands, begins, step)) = absurd (goes begins.0)

  pub begun_tells : (No → ⊥) → (request : Request) (begun : World (Node K V)) → Happens deferred_word old.batch_size (Begin i request) s.world begun
      → Happens deferred_word old.batch_size (Step i) begun to.4.w2 → (things : List Thing) (slot b k : ℕ) → request ≡ Retire slot b → HasNumber known things b k → Tells things slot b []
  begun_tells other request begun begin step things slot b k is has =
      let h = subst (λ (r : Request). Begins deferred_word old.batch_size i r s.world begun) is begin.1 in
      let row : begun.row i ≡ Settles (retiring slot old.batch_size (link_to b)) = ap (λ (x : World (Node K V)). x.row i) h.2 ∙ with_here s.world.row i (Settles (retiring slot old.batch_size (link_to b))) in
      let memory : begun.memory ≡ s.world.memory = ap (λ (x : World (Node K V)). x.memory) h.2 in
      let cut = h.1 in
      told_on old.batch_size begun to.4.w2 (came_reached old.batch_size begun (came_next old.batch_size s.world begun (Begin i request) came begin)) i map b
      (some_number old.batch_size s.world came b cut.0 cut.1) known new.changed (made other begun memory) things slot k has (keeps other) []
      (subst ReclaimsNone (sym row) (refl, refl, refl, tt)) step
      (inl (
        subst (IsToRetire b) (sym row) refl,
        refl,
        ap (λ (x : Mem (Node K V)). word_at x (Entry b FIRST)) memory ∙ no_batch old.batch_size s.world came b cut.0 cut.1,
        ap (λ (x : Mem (Node K V)). word_at x (Entry b NEXT)) memory ∙ no_list old.batch_size s.world came b cut.0 cut.1,
      ))

  pub begins : (No → ⊥) → s.world.row i ≡ Rests
      → (request : Request) × ((things : List Thing) (slot b k : ℕ) → request ≡ Retire slot b → HasNumber known things b k
      → HasReportedRetire things (known_after (Call i map) new.changed known) i slot b (flat_map (handing things slot) effects_now) to.4.w2)
  begins other rests = by (one_step same hash name m known s old new at whole map i u here told leads other)
    where
      by : Stepped
          → (request : Request) × ((things : List Thing) (slot b k : ℕ) → request ≡ Retire slot b → HasNumber known things b k
          → HasReportedRetire things (known_after (Call i map) new.changed known) i slot b (flat_map (handing things slot) effects_now) to.4.w2)
      by (inl step) = absurd (subst (λ (r : Row). Steps' deferred_word i r s.world to.4.w2) rests step)
      by (inr (request, begun, hands, begin, step)) = (request, λ things slot b k is has. (begun_tells other request begun begin step things slot b k is has).0)
