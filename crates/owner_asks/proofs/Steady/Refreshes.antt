-- A refresh of the owner's section leaves a map with one table at most.
use Rattle.std.specs.Prelude.{◌≡◌, ℕ, Bool, false, List, None, Result}
use Rattle.std.proofs.Common.{refl, sym, ◌∙◌, subst}
use Rattle.seize_words.specs.OneMemory.Mem.{Mem, Took, value_at}
use Rattle.seize_words.specs.OneMemory.Plan.{Steps}
use Rattle.seize_words.specs.declared.fault.Fault.{Fault}
use Rattle.seize.specs.Leave.{leave_plan, leaving}
use Rattle.papaya_raw.specs.Given.SeizeWorld.{World, Row, Leaves, Steps', left_row, leaves_on}
use Rattle.seize.specs.declared.advance.Advance.{Advance}
use Rattle.seize.specs.declared.rows.leave.Leave.{Leave}
use Rattle.seize.specs.declared.rows.settle.Settled.{Settled}
use Rattle.seize.specs.declared.rows.settle.Settled.TheVariants as settling
use Rattle.seize.specs.declared.states.TheConstants.{ACTIVE}
use Rattle.owner_calls.proofs.Given.SeizeRuleRows.Others.{with_here}
use Rattle.map_tables.specs.Nodes.{deferred_word}
use Rattle.map_tables.specs.declared.node.Node.{Node}
use Rattle.map_tables.specs.declared.setting.Setting.{Setting}
use Rattle.owner_calls.specs.Given.RuleWords.{Blocks, root_word}
use Rattle.owner_calls.specs.Given.CallersSights.{Visible}
use Rattle.owner_calls.specs.Given.CallersTogether.{Together, AllStand}
use Rattle.owner_calls.proofs.Given.CallersTogether.Guards.{guards_stand_together}
use Rattle.owner_calls.proofs.Given.CallersTogether.Rows.{map2}
use Rattle.owner_calls.specs.Given.StridesEnding.{RunsTo}
use Rattle.owner_calls.specs.Owned.Machines.{refreshes_plan, refreshes_after, refreshes_settled}
use Rattle.owner_calls.specs.Owned.Owned.{Holds}
use Rattle.owner_calls.specs.declared.machines.OwnerRefresh.{OwnerRefresh}
use Rattle.owner_calls.proofs.Owned.Owned.Refreshes.{begins_refreshing}
use Rattle.owner_calls.proofs.Given.StridesRuns.Comes.{NextOf, next_turned, run_comes}
use Rattle.owner_asks.proofs.Steady.Ends.{EndsAt, ends_at, ends_on, shows_one}
use Rattle.owner_asks.specs.Steady.Steady.{HasOneTable, RefreshesPreserveOneTable}

module _ {K V : Type 0} (same : K → K → Bool) (hash : K → ℕ) (setting : Setting) (m0 : Mem (Node K V)) (xs : List (K × V)) (h : Holds same hash setting m0 xs) where
  abbrev slot_of : ℕ → ℕ
  slot_of i = setting.slot

  -- it is under way, over the same tables
  record Under (link : ℕ) (r : OwnerRefresh) (m : Mem (Node K V)) : Type 0 where
    pub w : World (Node K V)
    pub blocks : Blocks
    pub sights : ℕ → Visible
    pub together : Together {K = K} {Q = K} V same hash same setting slot_of w h.chart blocks sights (λ i. None)
    pub memory : w.memory ≡ m
    pub row : w.row 0 ≡ Leaves r.leave
    pub linked : EndsAt setting link w.memory

  module _ (link : ℕ) (r : OwnerRefresh) (m : Mem (Node K V)) (here : Under link r m) (m2 : Mem (Node K V)) (d : Leave) (told : Settled (Node K V)) (s : Steps Took value_at m (leave_plan deferred_word r.leave) m2 (d, told)) where
    abbrev w2 : World (Node K V)
    w2 = leaves_on here.w 0 r.leave m2 (d, told)

    happens : Steps' deferred_word 0 (here.w.row 0) here.w w2
    happens =
        subst (λ (x : Row). Steps' deferred_word 0 x here.w w2) (sym here.row)
        (m2, (d, told), subst (λ (x : Mem (Node K V)). Steps Took value_at x (leave_plan deferred_word r.leave) m2 (d, told)) (sym here.memory) s, refl)

    linked_then : EndsAt setting link m2
    linked_then =
        ends_on same hash setting h.chart here.blocks here.w here.together.ground.map w2
        (map2 {Q = K} same hash same setting slot_of h.lawful here.w h.chart here.blocks here.sights (λ i. None) here.together 0 w2 happens) link here.linked

    stand2 : AllStand {K = K} {Q = K} V same hash same setting slot_of w2 h.chart here.blocks (λ i. None)
    stand2 = (guards_stand_together {Q = K} same hash same setting slot_of h.lawful here.w h.chart here.blocks here.sights (λ i. None) here.together 0 refl).2 w2 happens

    under_then : left_row d told ≡ Leaves d → Under link (record { leave = d }) m2
    under_then goes_on = record {
      w = w2;
      blocks = stand2.0;
      sights = stand2.1;
      together = stand2.2;
      memory = refl;
      row = with_here here.w.row 0 (left_row d told) ∙ goes_on;
      linked = linked_then;
    }

  -- what it comes to
  abbrev Comes : ℕ → OwnerRefresh → Mem (Node K V) → Result Unit Fault → Type 0
  Comes link x m result = EndsAt setting link m

  -- where a step leads
  abbrev Next : ℕ → OwnerRefresh → Mem (Node K V) → Advance Unit → Type 0
  Next link = NextOf (Under link) (Comes link)

  next_by : (link : ℕ) (r : OwnerRefresh) (m : Mem (Node K V)) (here : Under link r m) (m2 : Mem (Node K V)) (d : Leave) (told : Settled (Node K V)) → Steps Took value_at m (leave_plan deferred_word r.leave) m2 (d, told)
      → Next link (refreshes_settled (record { leave = d }) told).0 m2 (refreshes_settled {T = Node K V} (record { leave = d }) told).1
  next_by link r m here m2 d settling.Goes s = under_then link r m here m2 d settling.Goes s refl
  next_by link r m here m2 d settling.Waits s = under_then link r m here m2 d settling.Waits s refl
  next_by link r m here m2 d (settling.Gave value) s = under_then link r m here m2 d (settling.Gave value) s refl
  next_by link r m here m2 d settling.Done s = linked_then link r m here m2 d settling.Done s

  step_of : (link : ℕ) (r : OwnerRefresh) (m : Mem (Node K V)) → Under link r m → (m2 : Mem (Node K V)) (end : OwnerRefresh × Advance Unit) → Steps Took value_at m (refreshes_plan deferred_word r) m2 end → Next link end.0 m2 end.1
  step_of link r m here m2 end s = next_turned (Under link) (Comes link) (refreshes_after r) m m2 (leave_plan deferred_word r.leave) (λ k. next_by link r m here m2 k.0 k.1) end s

  -- from the map that rests
  keeps_one : HasOneTable setting m0 → (x : OwnerRefresh) (m : Mem (Node K V)) (result : Result Unit Fault)
      → RunsTo (refreshes_plan deferred_word) (record { leave = leaving setting.slot setting.batch_size ACTIVE false }) m0 x m result → HasOneTable setting m
  keeps_one one x m result runs =
      let b = begins_refreshing same hash setting m0 xs h in
      let link = root_word hash h.chart b.blocks in
      shows_one setting link m (run_comes (Under link) (Comes link) (refreshes_plan deferred_word) (step_of link) _ m0 (record {
        w = b.w;
        blocks = b.blocks;
        sights = b.sights;
        together = b.together;
        memory = b.memory;
        row = b.row;
        linked = ends_at same hash setting h.chart b.blocks b.w b.together.ground.map (subst (HasOneTable setting) (sym b.memory) one);
      }) x m result runs)

pub refreshes_keep_one_table : (K V : Type 0) → RefreshesPreserveOneTable K V
refreshes_keep_one_table K V same hash setting m0 xs h one y m result runs = keeps_one same hash setting m0 xs h one y m result runs
