-- The owner's section is refreshed: the map rests then, with the same pairs.
use Rattle.std.specs.Prelude.{◌≡◌, ◌≢◌, ℕ, zero, suc, ◌+◌, ◌%◌, ◌^◌, ◌<◌, ◌==◌, Bool, true, false, List, [], ◌∷◌, length, Option, None, Result, if◌then◌else◌, nat_lt, cond}
use Rattle.std.proofs.Common.{refl, sym, ◌∙◌, ap, subst, arith, inl, inr, eqb}
use Rattle.std.proofs.lemmas.Bool.{eqb-true, eqb-false, eq-eqb, false_from_ne_true}
use Rattle.seize_words.specs.OneMemory.Mem.{Mem, Can, Took, value_at, with_word}
use Rattle.seize_words.specs.OneMemory.Plan.{Plan, Now, May, Steps}
use Rattle.seize_words.specs.declared.at.At.TheVariants.{Slot}
use Rattle.seize_words.specs.declared.fault.Fault.{Fault}
use Rattle.seize_words.proofs.OneMemory.OneOwner.Operations.{swapped, stored}
use Rattle.seize_words.proofs.OneMemory.Plans.{ends_if}
use Rattle.seize.specs.Leave.{leave_plan, plan_at as leave_plan_at, list_taken, settled, counted_down, standing, leaving as leaving_slot}
use Rattle.seize.specs.Settle.{settle_plan, counting_down}
use Rattle.seize.specs.World.{World, Row, Rests, Leaves, Refresh, Steps', MayStep, IsInside, Vacant, Outside, Inside, Changing, Use, leaves_on, left_as, left_row, with_row, with_use, at_start}
use Rattle.seize.specs.declared.advance.Advance.{Advance}
use Rattle.seize.specs.declared.rows.leave.Leave.{Leave}
use Rattle.seize.specs.declared.rows.leave.Leaving.{Leaving}
use Rattle.seize.specs.declared.rows.leave.Leaving.TheVariants as leaving
use Rattle.seize.specs.declared.rows.settle.Settle.{Settle}
use Rattle.seize.specs.declared.rows.settle.Settled.{Settled}
use Rattle.seize.specs.declared.rows.settle.Settled.TheVariants as settling
use Rattle.seize.specs.declared.states.TheConstants.{ACTIVE, HEAD, FREE, LAST_SLOT}
use Rattle.map_straight.proofs.Given.SeizeRuleRows.Leaving.{steps_back}
use Rattle.map_straight.proofs.Given.SeizeRuleRows.Others.{with_here, with_other}
use Rattle.map_straight.proofs.Given.SeizeRuleRows.Teams.{UseFits}
use Rattle.map_straight.proofs.Given.SeizeRuleRows.Known.{works_on}
use Rattle.map_straight.proofs.Given.SeizeMovesState.Ghost.{Head}
use Rattle.map_straight.specs.Given.SeizeWaitingHeld.{count, same as same_number}
use Rattle.owner_whole.proofs.Given.SeizeAloneHistories.Reached.{Reached}
use Rattle.map_straight.proofs.Given.SeizeRuleWorld.Start.{start_good}
use Rattle.owner_whole.proofs.Given.SeizeAloneHistories.NotTaken.{kept_value}
use Rattle.owner_whole.proofs.Given.SeizeEndsBatches.Rows.{HeldByRows, start_held, runs_held}
use Rattle.owner_whole.proofs.Given.SeizeEndsRows.Lone.{leave_to_go, leaves_lower}
use Rattle.owner_whole.proofs.Given.SeizeEndsSettling.Most.{is_going}
use Rattle.map_tables.specs.Nodes.{deferred_word}
use Rattle.map_tables.specs.Chunks.{is_incremental}
use Rattle.map_tables.specs.declared.node.Node.{Node}
use Rattle.map_tables.specs.declared.setting.Setting.{Setting}
use Rattle.map_straight.specs.Given.RuleInWorld.{IsMapIn}
use Rattle.map_straight.specs.Given.RuleWords.{Blocks}
use Rattle.owner_whole.specs.Given.AloneCounted.{HasAdded}
use Rattle.owner_whole.specs.Given.AloneCounting.{IsCounted}
use Rattle.owner_whole.specs.Given.CallersSights.{Visible}
use Rattle.owner_whole.specs.Given.CallersTogether.{Together, AllStand}
use Rattle.owner_whole.proofs.Given.CallersRows.Keep.{kept_block, used_kept}
use Rattle.owner_whole.proofs.Given.CallersTogether.Came.{came_reached}
use Rattle.owner_whole.proofs.Given.CallersTogether.Guards.{guards_stand_together}
use Rattle.owner_whole.proofs.Given.CallersTogether.Rows.{map2}
use Rattle.owner_whole.proofs.Whole.Contents.Below.{below_stays}
use Rattle.owner_whole.proofs.Whole.Rows.Shards.{row_shards}
use Rattle.owner_whole.specs.Strides.Ending.{Ends, all_end, RunsTo}
use Rattle.owner_calls.specs.Owned.Machines.{refreshes_plan, refreshes_after, refreshes_settled}
use Rattle.owner_calls.specs.Owned.Owned.{Holds}
use Rattle.owner_calls.specs.declared.machines.OwnerRefresh.{OwnerRefresh}
use Rattle.owner_calls.proofs.Owned.Owned.Blocks.{pair_same}
use Rattle.owner_calls.proofs.Owned.Owned.Rests.{together_as}
use Rattle.owner_calls.proofs.Owned.Owned.Keys.{may_turned}
use Rattle.owner_whole.proofs.Strides.Runs.Comes.{NextOf, goes_on, next_as, next_turned, run_comes}

-- a step of a leaving keeps its slot and what becomes of it, and ends where it is over
module _ {T : Type 0} (defers : T → Option ℕ) (c : Leave) where
  abbrev pub KeepsSlot : Leave × Settled T → Type 0
  KeepsSlot end = (end.0.slot ≡ c.slot) × (end.0.becomes ≡ c.becomes) × (end.1 ≡ settling.Done → c.stands ≡ leaving.Over)

  going_keeps : (d : Leave) → d.slot ≡ c.slot → d.becomes ≡ c.becomes → KeepsSlot (d, settling.Goes)
  going_keeps d s b = (s, b, λ e. absurd (cc e))

  counted_keeps : (b : Bool) → c.frees ≡ b → KeepsSlot (counted_down c, settling.Goes)
  counted_keeps true e = subst (λ (x : Leave). KeepsSlot (x, settling.Goes)) (sym (ap (λ (f : Bool). if f then standing c leaving.Frees else standing c leaving.Over) e)) (going_keeps (standing c leaving.Frees) refl refl)
  counted_keeps false e = subst (λ (x : Leave). KeepsSlot (x, settling.Goes)) (sym (ap (λ (f : Bool). if f then standing c leaving.Frees else standing c leaving.Over) e)) (going_keeps (standing c leaving.Over) refl refl)

  settled_keeps : (s : Settle) (o : Settled T) → KeepsSlot (settled c (s, o))
  settled_keeps s settling.Goes = (refl, refl, λ e. absurd (cc e))
  settled_keeps s settling.Waits = (refl, refl, λ e. absurd (cc e))
  settled_keeps s (settling.Gave value) = (refl, refl, λ e. absurd (cc e))
  settled_keeps s settling.Done = counted_keeps c.frees refl

  by_end : (end e : Leave × Settled T) → end ≡ e → KeepsSlot e → KeepsSlot end
  by_end end e is = subst KeepsSlot (sym is)

  keeps_at : (m m2 : Mem T) (end : Leave × Settled T) (stands : Leaving) → c.stands ≡ stands → Steps Took value_at m (leave_plan_at defers c stands) m2 end → KeepsSlot end
  keeps_at m m2 end leaving.Swaps at s =
      let d = swapped m (list_taken c) (Slot c.slot HEAD) c.becomes m2 end s in
      elim (ends_if (value_at (with_word m (Slot c.slot HEAD) c.becomes)) (nat_lt ACTIVE d.0) (Now (standing c (leaving.Settles (counting_down c.slot c.batch_size d.0)), settling.Goes)) (Now (counted_down c, settling.Goes)) end d.3) as (λ _. KeepsSlot end) [
        | inl h ↦ by_end end _ h.1 (going_keeps (standing c (leaving.Settles (counting_down c.slot c.batch_size d.0))) refl refl)
        | inr h ↦ by_end end _ h.1 (counted_keeps c.frees refl)
      ]
  keeps_at m m2 end (leaving.Settles settle) at s = let k = steps_back (settled c) m m2 (settle_plan defers settle) end s in by_end end _ k.2 (settled_keeps k.0.0 k.0.1)
  keeps_at m m2 end leaving.Frees at s = let d = stored m (λ out. Now (standing c leaving.Over, settling.Goes)) (Slot c.slot HEAD) FREE m2 end s in by_end end _ d.1 (going_keeps (standing c leaving.Over) refl refl)
  keeps_at m m2 end leaving.Over at s = by_end end _ s.1 (refl, refl, λ e. at)

  pub keeps_slot : (m m2 : Mem T) (end : Leave × Settled T) → Steps Took value_at m (leave_plan defers c) m2 end → KeepsSlot end
  keeps_slot m m2 end s = keeps_at m m2 end c.stands refl s

-- no row works on a slot where all rest
none_counted : (team : List ℕ) → ((i : ℕ) → count i team ≡ 0) → length team ≡ 0
none_counted [] none = refl
none_counted (x ∷ team) none = let e = none x in absurd (grind (arith, e))

inside_none : (u : Use) (head : Head) (k : ℕ) (open_now : Bool) → UseFits u head k open_now → k ≡ 0 → IsInside u → u ≡ Inside 0
inside_none (Inside n) head k open_now fits none in_it = ap Inside (sym fits.1 ∙ none)
inside_none Vacant head k open_now fits none in_it = absurd in_it
inside_none (Outside n) head k open_now fits none in_it = absurd in_it
inside_none Changing head k open_now fits none in_it = absurd in_it

pub inside_at_rest : {T : Type 0} (defers : T → Option ℕ) (size : ℕ) (w : World T) → Reached defers size w → ((i : ℕ) → w.row i ≡ Rests) → (s : ℕ) → IsInside (w.uses s) → w.uses s ≡ Inside 0
inside_at_rest defers size w r rests s in_it =
    inside_none (w.uses s) _ _ _ (r.good.used.fits s)
    (none_counted (r.good.used.team s) (λ i. r.good.used.teamed s i ∙ ap (λ x. same_number (s + 1) (works_on x)) (rests i) ∙ none_here s)) in_it
  where
    none_here : (s : ℕ) → same_number (s + 1) (works_on Rests) ≡ 0
    none_here s = ap (λ b. cond b 1 0) (false_from_ne_true (eqb (s + 1) 0) (λ z. let e = eqb-true (s + 1) 0 z in omega (arith, e)))

module _ {K V : Type 0} (same : K → K → Bool) (hash : K → ℕ) (setting : Setting) (m0 : Mem (Node K V)) (xs : List (K × V)) (h : Holds same hash setting m0 xs) where
  abbrev slot_of : ℕ → ℕ
  slot_of i = setting.slot

  abbrev TogetherIn : World (Node K V) → Blocks → (ℕ → Visible) → Type 0
  TogetherIn w blocks sights = Together {K = K} {Q = K} V same hash same setting slot_of w h.chart blocks sights (λ i. None)

  -- it is under way
  pub record Refreshing (r : OwnerRefresh) (m : Mem (Node K V)) : Type 0 where
    pub w : World (Node K V)
    pub blocks : Blocks
    pub sights : ℕ → Visible
    pub together : TogetherIn w blocks sights
    pub memory : w.memory ≡ m
    pub row : w.row 0 ≡ Leaves r.leave
    pub others : (i : ℕ) → i ≢ 0 → w.row i ≡ Rests
    pub slot_is : r.leave.slot ≡ setting.slot
    pub becomes_is : r.leave.becomes ≡ ACTIVE
    pub stays : (o : ℕ) → h.chart.current o ≡ true → value_at w.memory (blocks.pair o) ≡ value_at h.world.memory (h.blocks.pair o)
    pub added : HasAdded setting h.world.memory 0 w.memory

  module _ (r : OwnerRefresh) (m : Mem (Node K V)) (at : Refreshing r m) where
    steps_at : (m2 : Mem (Node K V)) (end : Leave × Settled (Node K V)) → Steps Took value_at m (leave_plan deferred_word r.leave) m2 end → Steps Took value_at at.w.memory (leave_plan deferred_word r.leave) m2 end
    steps_at m2 end s = subst (λ (x : Mem (Node K V)). Steps Took value_at x (leave_plan deferred_word r.leave) m2 end) (sym at.memory) s

    refresh_may : May Can Took value_at m (leave_plan deferred_word r.leave)
    refresh_may =
        subst (λ (x : Mem (Node K V)). May Can Took value_at x (leave_plan deferred_word r.leave)) at.memory
        (subst (λ (x : Row). MayStep deferred_word x at.w.memory) at.row (guards_stand_together {Q = K} same hash same setting slot_of h.lawful at.w h.chart at.blocks at.sights (λ i. None) at.together 0 refl).1)

    module _ (m2 : Mem (Node K V)) (end : Leave × Settled (Node K V)) (s : Steps Took value_at m (leave_plan deferred_word r.leave) m2 end) where
      abbrev w2 : World (Node K V)
      w2 = leaves_on at.w 0 r.leave m2 end

      happens : Steps' deferred_word 0 (at.w.row 0) at.w w2
      happens = subst (λ (x : Row). Steps' deferred_word 0 x at.w w2) (sym at.row) (m2, end, steps_at m2 end s, refl)

      stand2 : AllStand {K = K} {Q = K} V same hash same setting slot_of w2 h.chart at.blocks (λ i. None)
      stand2 = (guards_stand_together {Q = K} same hash same setting slot_of h.lawful at.w h.chart at.blocks at.sights (λ i. None) at.together 0 refl).2 w2 happens

      map_there : IsMapIn same hash setting w2 h.chart at.blocks
      map_there = map2 {Q = K} same hash same setting slot_of h.lawful at.w h.chart at.blocks at.sights (λ i. None) at.together 0 w2 happens

      reached : Reached deferred_word setting.batch_size at.w
      reached = came_reached setting.batch_size at.w at.together.ground.came

      -- the pairs stay in their blocks
      stays2 : (o : ℕ) → h.chart.current o ≡ true → value_at w2.memory (stand2.0.pair o) ≡ value_at h.world.memory (h.blocks.pair o)
      stays2 o is =
          ap (value_at w2.memory) (pair_same same hash h.lawful.fits (is_incremental setting.mode) w2.memory setting.root h.chart at.blocks stand2.0 map_there.map.rule map_there.map.shows stand2.2.ground.map.map.shows o is)
          ∙ kept_value deferred_word setting.batch_size at.w reached 0 w2 happens (at.blocks.pair o) (kept_block at.w (at.blocks.pair o) (used_kept at.w (at.blocks.pair o) (at.together.ground.map.pairs o is)))
          ∙ at.stays o is

      added2 : HasAdded setting h.world.memory 0 w2.memory
      added2 = row_shards same hash setting at.w h.chart at.blocks at.together.ground.map at.together.ground.came at.together.ground.counter 0 w2 happens h.world.memory 0 at.added

      others2 : (i : ℕ) → i ≢ 0 → w2.row i ≡ Rests
      others2 i ne = with_other at.w.row 0 i (left_row end.0 end.1) ne ∙ at.others i ne

      keeps : KeepsSlot deferred_word r.leave end
      keeps = keeps_slot deferred_word r.leave m m2 end s

    -- it goes on, and is nearer to its end
    going_on : (m2 : Mem (Node K V)) (d : Leave) (o : Settled (Node K V)) (s : Steps Took value_at m (leave_plan deferred_word r.leave) m2 (d, o)) → left_row d o ≡ Leaves d → is_going o ≡ true
        → Refreshing (record { leave = d }) m2 × (leave_to_go deferred_word m2 d < leave_to_go deferred_word m r.leave)
    going_on m2 d o s row going = (
      record {
        w = w2 m2 (d, o) s;
        blocks = (stand2 m2 (d, o) s).0;
        sights = (stand2 m2 (d, o) s).1;
        together = (stand2 m2 (d, o) s).2;
        memory = refl;
        row = with_here at.w.row 0 (left_row d o) ∙ row;
        others = others2 m2 (d, o) s;
        slot_is = (keeps m2 (d, o) s).0 ∙ at.slot_is;
        becomes_is = (keeps m2 (d, o) s).1 ∙ at.becomes_is;
        stays = stays2 m2 (d, o) s;
        added = added2 m2 (d, o) s;
      },
      subst (λ (x : Mem (Node K V)). leave_to_go deferred_word m2 d < leave_to_go deferred_word x r.leave) at.memory
          (leaves_lower deferred_word setting.batch_size 0 at.w (record { good = came_good.good; sized = came_good.sized; others = at.others }) held r.leave at.row m2 d o (steps_at m2 (d, o) s) going),
    )
      where
        came_good : Reached deferred_word setting.batch_size at.w
        came_good = came_reached setting.batch_size at.w at.together.ground.came

        held : HeldByRows at.w
        held =
            let came = at.together.ground.came in
            runs_held (deferred_word {K = K} {V = V}) setting.batch_size came.1 (at_start deferred_word came.0) at.w (start_good (deferred_word {K = K} {V = V}) (LAST_SLOT + 1) setting.batch_size came.0) (λ i. tt) came.2
            (start_held (deferred_word {K = K} {V = V}) setting.batch_size came.0)

    -- it has ended
    has_ended : (m2 : Mem (Node K V)) (d : Leave) (s : Steps Took value_at m (leave_plan deferred_word r.leave) m2 (d, settling.Done)) → Holds same hash setting m2 xs
    has_ended m2 d s = record {
      lawful = h.lawful;
      initial = h.initial;
      few = h.few;
      one_shard = h.one_shard;
      incremental = h.incremental;
      size = h.size;
      world = w2 m2 (d, settling.Done) s;
      chart = h.chart;
      blocks = (stand2 m2 (d, settling.Done) s).0;
      sights = (stand2 m2 (d, settling.Done) s).1;
      memory = refl;
      rests = record {
        calls = λ i. None;
        none = λ i. refl;
        together = (stand2 m2 (d, settling.Done) s).2;
        rows = λ i. rows_rest i (eqb i 0) refl;
        inside = inside2;
        alone = h.rests.alone;
      };
      counted = same_count (added2 m2 (d, settling.Done) s) h.counted;
      are = below_stays same h.world.memory m2 h.chart h.chart h.blocks (stand2 m2 (d, settling.Done) s).0 h.chart.stored xs (λ o l. refl) (λ o l is. stays2 m2 (d, settling.Done) s o is) h.are;
    }
      where
        rows_rest : (i : ℕ) (b : Bool) → eqb i 0 ≡ b → (w2 m2 (d, settling.Done) s).row i ≡ Rests
        rows_rest i true e = subst (λ x. (w2 m2 (d, settling.Done) s).row x ≡ Rests) (sym (eqb-true i 0 e)) (with_here at.w.row 0 Rests)
        rows_rest i false e = others2 m2 (d, settling.Done) s i (eqb-false i 0 e)

        inside_if : (b : Bool) (u : Use) → b ≡ true → IsInside (if b then Inside 0 else u)
        inside_if true u e = tt
        inside_if false u e = absurd (cc e)

        inside_over : (stands : Leaving) → stands ≡ leaving.Over → IsInside (left_as r.leave stands (at.w.uses r.leave.slot))
        inside_over stands e =
            subst (λ x. IsInside (left_as r.leave x (at.w.uses r.leave.slot))) (sym e)
            (inside_if (r.leave.becomes == ACTIVE) (if r.leave.frees then at.w.uses r.leave.slot else Outside 0) (eq-eqb r.leave.becomes ACTIVE at.becomes_is))

        inside2 : IsInside ((w2 m2 (d, settling.Done) s).uses setting.slot)
        inside2 =
            subst (λ x. IsInside ((w2 m2 (d, settling.Done) s).uses x)) at.slot_is
            (subst IsInside (sym (with_here at.w.uses r.leave.slot (left_as r.leave r.leave.stands (at.w.uses r.leave.slot)))) (inside_over r.leave.stands ((keeps m2 (d, settling.Done) s).2 refl)))

        no_more : (s : ℕ) → (s + 0) % 2 ^ 64 ≡ s % 2 ^ 64
        no_more s = ap (λ x. x % 2 ^ 64) (omega arith)

        same_count : HasAdded setting h.world.memory 0 m2 → IsCounted setting h.world.memory h.chart → IsCounted setting m2 h.chart
        same_count had counted = had ∙ no_more _ ∙ counted

  -- it is under way, and has less to do than one that stood so
  abbrev Nearer : Mem (Node K V) → OwnerRefresh → OwnerRefresh → Mem (Node K V) → Type 0
  Nearer m r x m2 = Refreshing x m2 × (leave_to_go deferred_word m2 x.leave < leave_to_go deferred_word m r.leave)

  -- what it comes to
  abbrev Comes : OwnerRefresh → Mem (Node K V) → Result Unit Fault → Type 0
  Comes x m result = Holds same hash setting m xs

  -- where a step of the machine leads, by what it tells
  abbrev Next : OwnerRefresh → Mem (Node K V) → Mem (Node K V) → OwnerRefresh → Advance Unit → Type 0
  Next x m m2 r told = NextOf (Nearer m r) Comes x m2 told

  next_by : (r : OwnerRefresh) (m : Mem (Node K V)) → Refreshing r m → (m2 : Mem (Node K V)) (d : Leave) (o : Settled (Node K V)) → Steps Took value_at m (leave_plan deferred_word r.leave) m2 (d, o)
      → Next (refreshes_settled (record { leave = d }) o).0 m m2 r (refreshes_settled {T = Node K V} (record { leave = d }) o).1
  next_by r m at m2 d settling.Goes s = going_on r m at m2 d settling.Goes s refl refl
  next_by r m at m2 d settling.Waits s = going_on r m at m2 d settling.Waits s refl refl
  next_by r m at m2 d (settling.Gave value) s = going_on r m at m2 d (settling.Gave value) s refl refl
  next_by r m at m2 d settling.Done s = has_ended r m at m2 d s

  abbrev the_plan : OwnerRefresh → Plan (Node K V) (OwnerRefresh × Advance Unit)
  the_plan = refreshes_plan deferred_word

  step_to : (r : OwnerRefresh) (m : Mem (Node K V)) → Refreshing r m → (m2 : Mem (Node K V)) (x : OwnerRefresh) (told : Advance Unit) → Steps Took value_at m (the_plan r) m2 (x, told) → Next x m m2 r told
  step_to r m at m2 x told s =
      next_turned (Nearer m r) Comes (refreshes_after r) m m2 (leave_plan deferred_word r.leave) (λ k. next_by r m at m2 k.0 k.1) (x, told) s

  ends_below : (k : ℕ) (r : OwnerRefresh) (m : Mem (Node K V)) → Refreshing r m → leave_to_go deferred_word m r.leave < k → Ends the_plan r m
  ends_below zero r m at l = absurd (omega (arith, l))
  ends_below (suc k) r m at l =
      all_end r m (may_turned (refreshes_after r) Can Took value_at m (leave_plan deferred_word r.leave) (refresh_may r m at)) (λ m2 x told on s.
      let g = goes_on (Nearer m r) Comes x m2 told on (step_to r m at m2 x told s) in ends_below k x m2 g.0 (let less = g.1 in omega (arith, l, less)))

  pub refreshing_ends : (r : OwnerRefresh) (m : Mem (Node K V)) → Refreshing r m → Ends the_plan r m
  refreshing_ends r m at = ends_below (suc (leave_to_go deferred_word m r.leave)) r m at (omega arith)

  pub refreshed : (r : OwnerRefresh) (m : Mem (Node K V)) (x : OwnerRefresh) (m2 : Mem (Node K V)) (result : Result Unit Fault) → RunsTo the_plan r m x m2 result → Refreshing r m → Holds same hash setting m2 xs
  refreshed r m x m2 result runs at =
      run_comes Refreshing Comes the_plan (λ y n under n2 end s. next_as (Nearer n y) Refreshing Comes Comes end.0 n2 end.1 (λ nearer. nearer.0) (λ told holds. holds) (step_to y n under n2 end.0 end.1 s)) r m at x m2 result runs

  -- it begins
  abbrev first_leave : Leave
  first_leave = leaving_slot setting.slot setting.batch_size ACTIVE false

  abbrev w1 : World (Node K V)
  w1 = with_use (with_row h.world 0 (Leaves first_leave)) setting.slot Changing

  still : TogetherIn h.world h.blocks h.sights
  still = together_as same hash setting h.incremental slot_of same same h.world h.chart h.blocks h.sights h.rests

  inside0 : h.world.uses setting.slot ≡ Inside 0
  inside0 = inside_at_rest deferred_word setting.batch_size h.world (came_reached setting.batch_size h.world h.rests.together.ground.came) h.rests.rows setting.slot h.rests.inside

  began : AllStand {K = K} {Q = K} V same hash same setting slot_of w1 h.chart h.blocks (λ i. None)
  began =
      (guards_stand_together {Q = K} same hash same setting slot_of h.lawful h.world h.chart h.blocks h.sights (λ i. None) still 0 refl).0
      (Refresh setting.slot) tt (λ j u is. absurd (cc is)) w1 (h.rests.rows 0, (inside0, refl))

  pub begins_refreshing : Refreshing (record { leave = first_leave }) m0
  begins_refreshing = record {
    w = w1;
    blocks = began.0;
    sights = began.1;
    together = began.2;
    memory = h.memory;
    row = with_here h.world.row 0 (Leaves first_leave);
    others = λ i ne. with_other h.world.row 0 i (Leaves first_leave) ne ∙ h.rests.rows i;
    slot_is = refl;
    becomes_is = refl;
    stays = λ o is. ap (value_at h.world.memory) (pair_same same hash h.lawful.fits (is_incremental setting.mode) h.world.memory setting.root h.chart h.blocks began.0
        h.rests.together.ground.map.map.rule h.rests.together.ground.map.map.shows began.2.ground.map.map.shows o is);
    added = none_added _;
  }
    where
      none_added : (s : ℕ) → s % 2 ^ 64 ≡ (s + 0) % 2 ^ 64
      none_added s = ap (λ x. x % 2 ^ 64) (omega arith)
