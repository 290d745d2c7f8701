-- Each step keeps numbers of maps below the executor's count, slots noted, and what ended maps have left over behind the roots that the moment tells.
use Rattle.std.specs.Prelude.{◌≡◌, ◌<◌, ◌≤◌, ◌==◌, ℕ, Bool, false, ◌+◌, List, [], ◌∷◌, length, map, filter, find, Option, Some, None}
use Rattle.std.specs.List.{All}
use Rattle.std.proofs.Common.{refl, ap, sym, subst, ◌∙◌, arith}
use Rattle.run_schedules.specs.Given.SeizeWordsMem.{Mem}
use Rattle.seize.specs.World.{World, Begins, Begin, Step, with_at}
use Rattle.seize.specs.declared.advance.Advance.{Advance}
use Rattle.seize.specs.declared.rows.settle.Settled.{Settled}
use Rattle.run_schedules.specs.Runs.Same.{is_same}
use Rattle.papaya_raw.specs.Given.TablesNodes.{deferred_word}
use Rattle.papaya_raw.specs.Given.TablesDeclared.node.Node.{Node}
use Rattle.papaya_raw.specs.Given.TablesDeclared.setting.Setting.{Setting}
use Rattle.papaya_raw.specs.declared.machines.progress.Progress.{Progress as CallTold}
use Rattle.run_schedules.specs.declared.effect.Effect.{Effect}
use Rattle.run_schedules.specs.Schedules.After.{if_any}
use Rattle.run_schedules.specs.Schedules.Beginning.{used_roots, with_map}
use Rattle.run_schedules.specs.Schedules.Effects.{with_effects}
use Rattle.run_schedules.specs.Schedules.Lists.{is_among}
use Rattle.run_schedules.specs.Schedules.Moment.{MapThere, TableThere, Moment, start}
use Rattle.run_schedules.specs.Schedules.Views.{map_of}
use Rattle.run_shows.specs.Given.CallersTogether.{UnderWay}
use Rattle.run_effects.specs.Effects.Effects.{taken_by, effects_of, known_after}
use Rattle.run_effects.specs.Effects.Known.{Known, known, nothing_known}
use Rattle.run_effects.specs.declared.acting.Acting.TheVariants as acts
use Rattle.run_effects.specs.declared.notes.Notes.{Notes}
use Rattle.run_effects.specs.declared.role.Role.TheVariants as role
use Rattle.run_shows.specs.Given.FinishesEndings.{Finishing}
use Rattle.run_shows.specs.Given.FinishesMakings.{Beginning, HasTaken}
use Rattle.run_shows.specs.Given.FinishesMaps.{Standing}
use Rattle.run_executor.specs.declared.executor.Executor.{Executor}
use Rattle.run_shows.specs.declared.row.RowTold.{RowTold}
use Rattle.run_shows.specs.declared.row.SlotCall.{SlotCall}
use Rattle.run_shows.specs.declared.row.SlotCall.TheVariants as call
use Rattle.run_shows.specs.declared.row.SlotRow.{SlotRow}
use Rattle.run_shows.specs.Follows.Shows.{Refines}
use Rattle.run_shows.specs.Others.Endings.{ending_after, without_map}
use Rattle.run_shows.specs.Others.Makings.{making_after}
use Rattle.run_shows.specs.Others.Rows.{scene_then}
use Rattle.run_executor.proofs.Given.MomentsAfter.{effects_after}
use Rattle.run_executor.proofs.Given.MomentsNumbers.{maps_go}
use Rattle.run_executor.specs.Given.MomentsNumbers.{MapsAreBelow, NumbersMaps}
use Rattle.run_kept.specs.Given.RemainsNumbered.{NumbersUpTo}
use Rattle.run_kept.specs.Given.RemainsRemains.{LeftNoted, RefinesRemains}
use Rattle.run_kept.specs.Given.RemainsSlots.{SlotsNoted}
use Rattle.run_kept.proofs.Given.RemainsEndings.{endings_begin_remain, endings_keep_remains}
use Rattle.run_kept.proofs.Given.RemainsMakings.{makings_begin_remain, makings_keep_remains}
use Rattle.run_kept.proofs.Given.RemainsMaps.{maps_come_remain, maps_go_remain}
use Rattle.run_kept.proofs.Given.RemainsNumbered.{calls_keep_count, ends_keep_count, makings_keep_count, more_are_counted, rows_keep_count}
use Rattle.run_kept.proofs.Given.RemainsSlots.{calls_note_slots, endings_note_slots, makings_note_slots, rows_note_slots, slots_begin}
use Rattle.run_kept.proofs.Given.RemainsStays.{begins_remain, stays_remain}
use Rattle.run_kept.proofs.Given.RemainsSteps.{calls_keep_remains, rows_begin_remain, rows_keep_remains}
use Rattle.run_kept.specs.Ends.{ended_as}
use Rattle.run_logged.specs.Log.Shown.{IsCounted}
use Rattle.run_logged.specs.declared.logged.Logged.{Logged}
use Rattle.run_executor.specs.Executing.IsThere.{PreservesSettings, held_by}
use Rattle.run_shows.specs.Scenes.Ending.{EndingLeads, ending_begun}
use Rattle.run_shows.specs.Scenes.Rows.{request_of}
use Rattle.run_shows.specs.Scenes.Scene.{IsOnSlot, Scene, at_first, slot_of}
use Rattle.run_shows.specs.Scenes.Stepping.{StepLeads, scene_after}
use Rattle.run_shows.specs.Scenes.Held.{IsAt}
use Rattle.run_shows.specs.Scenes.Making.{MakingLeads}
use Rattle.run_shows.specs.Scenes.OnSlots.{RowBegins, RowLeads}

-- numbers are those of the same maps and tables
pub numbers_as : {K V : Type 0} (count : ℕ) (m v : Moment K V) → v.maps ≡ m.maps → v.tables ≡ m.tables → NumbersUpTo count m → NumbersUpTo count v
numbers_as count m v maps tables n = record {
  found = subst (λ (ms : List MapThere). All (λ there. find (λ f. f.number == there.number) ms ≡ Some there) ms) (sym maps) n.found;
  below = subst (λ (ms : List MapThere). All (λ there. there.number < count) ms) (sym maps) n.below;
  tables = subst (λ (ts : List TableThere). All (λ t. t.table.map < count) ts) (sym tables) n.tables;
}

-- numbers below the next one are below each count that is not less
pub numbers_within : {K V : Type 0} (count : ℕ) (m : Moment K V) → NumbersMaps m → m.made ≤ count → NumbersUpTo count m
numbers_within count m n le = record {
  found = n.found;
  below = λ k d l. (let b = n.below k d l in omega (arith, b, le));
  tables = λ k d l. (let b = n.tables k d l in omega (arith, b, le));
}

-- what ends with a map leaves numbers below the count
ends_count : {K V : Type 0} (count of : ℕ) (first : Known) (blocks : List ℕ) (m : Moment K V) → NumbersUpTo count m → NumbersUpTo count (with_effects None (Some of) (ended_as of first blocks) m)
ends_count count of first [] m numbers = numbers
ends_count {K} {V} count of first (b ∷ blocks) m numbers =
    subst (NumbersUpTo count) (sym (effects_after None (Some of) (taken_by (acts.Ending of) (first.roles b)) (ended_as of first blocks) m))
    (ends_count count of first blocks (with_effects None (Some of) (taken_by (acts.Ending of) (first.roles b)) m) (ends_keep_count K V m count numbers of (first.roles b) None (Some of)))

module _ {K V S : Type 0} (old new : Logged K V S) (given : PreservesSettings old.executor new.executor) where
  -- by what the executor was given, which stays
  pub counted_on : (v : Moment K V) (t : Scene K V) → RefinesRemains old.executor.roots v (known new.notes) t → NumbersUpTo (length old.executor.maps.items) v → SlotsNoted (known new.notes) new.executor.memory.memory → IsCounted v new t
  counted_on v t remains numbers slots = record {
    numbered = record { numbers = subst (λ (n : ℕ). NumbersUpTo n v) (sym given.3) numbers; slots = slots };
    remains = subst (λ (r : ℕ). RefinesRemains r v (known new.notes) t) (sym given.2) remains;
  }

  module _ (noted : new.notes ≡ old.notes) where
    -- with the same memory and notes
    same_slots : new.executor.memory.memory ≡ old.executor.memory.memory → SlotsNoted (known old.notes) old.executor.memory.memory → SlotsNoted (known new.notes) new.executor.memory.memory
    same_slots memory slots =
        subst (λ (n : Notes). SlotsNoted (known n) new.executor.memory.memory) (sym noted) (subst (λ (x : Mem (Node K V)). SlotsNoted (known old.notes) x) (sym memory) slots)

    -- where calls begin, are told something, or go on to their next pair, and where a walk is given up
    pub counted_stays : (m v : Moment K V) (s t : Scene K V) → IsCounted m old s → new.executor.memory.memory ≡ old.executor.memory.memory → v.maps ≡ m.maps → v.tables ≡ m.tables → v.remains ≡ m.remains
        → t.world ≡ s.world → t.maps ≡ s.maps → t.makers ≡ s.makers → t.enders ≡ s.enders → IsCounted v new t
    counted_stays m v s t c memory maps tables remains world same_maps makers enders =
        counted_on v t
        (subst (λ (n : Notes). RefinesRemains old.executor.roots v (known n) t) (sym noted) (stays_remain K V old.executor.roots m v (known old.notes) s t c.remains (ap (λ (ms : List MapThere). map (λ f. f.root) ms) maps) remains world same_maps makers enders))
        (numbers_as (length old.executor.maps.items) m v maps tables c.numbered.numbers) (same_slots memory c.numbered.slots)

-- where nothing of it has changed, as where a call comes to an outcome
pub counted_calls : {K V S : Type 0} (l : Logged K V S) (m v : Moment K V) (s : Scene K V) → IsCounted m l s → v.maps ≡ m.maps → v.tables ≡ m.tables → v.remains ≡ m.remains → IsCounted v l s
counted_calls {K} {V} l m v s c maps tables remains = record {
  numbered = record { numbers = numbers_as (length l.executor.maps.items) m v maps tables c.numbered.numbers; slots = c.numbered.slots };
  remains = stays_remain K V l.executor.roots m v (known l.notes) s s c.remains (ap (λ (ms : List MapThere). map (λ f. f.root) ms) maps) remains refl refl refl refl;
}

-- the executor's memory is that of the world
pub same_memory : {K V S : Type 0} (same : K → K → Bool) (hash : ℕ → K → ℕ) (old new : Executor K V S) (s t : Scene K V) → IsAt same hash (held_by old) s → IsAt same hash (held_by new) t → t.world.memory ≡ s.world.memory
    → new.memory.memory ≡ old.memory.memory
same_memory same hash old new s t at at2 memory = sym at2.memory ∙ memory ∙ at.memory

-- a row that begins on a slot leaves the memory
begun_memory : {K V : Type 0} (size slot i : ℕ) (w v : World (Node K V)) (called : SlotCall) → Begins deferred_word size i (request_of slot called) w v → v.memory ≡ w.memory
begun_memory size slot i w v (call.Register enters) h = ap (λ (x : World (Node _ _)). x.memory) h
begun_memory size slot i w v call.Enter h = ap (λ (x : World (Node _ _)). x.memory) h.1
begun_memory size slot i w v call.Leave h = ap (λ (x : World (Node _ _)). x.memory) h.1
begun_memory size slot i w v call.LeaveOwned h = ap (λ (x : World (Node _ _)). x.memory) h.1
begun_memory size slot i w v call.Refresh h = ap (λ (x : World (Node _ _)). x.memory) h.1
begun_memory size slot i w v call.Flush h = ap (λ (x : World (Node _ _)). x.memory) h.1
begun_memory size slot i w v call.Unregister h = ap (λ (x : World (Node _ _)). x.memory) h.1

module _ {K V S : Type 0} (same : K → K → Bool) (hash : ℕ → K → ℕ) where
  -- before all events
  pub counted_begins : (l : Logged K V S) (roots : ℕ) → IsAt same hash (held_by l.executor) (at_first roots) → l.executor.roots ≡ roots → known l.notes ≡ nothing_known → IsCounted start l (at_first roots)
  counted_begins l roots at is_roots noted = record {
    numbered = record {
      numbers = record { found = λ k d l. absurd (let none = l in omega (arith, none)); below = λ k d l. absurd (let none = l in omega (arith, none)); tables = λ k d l. absurd (let none = l in omega (arith, none)) };
      slots = subst (λ (k : Known). SlotsNoted k l.executor.memory.memory) (sym noted) (subst (λ (x : Mem (Node K V)). SlotsNoted nothing_known x) at.memory (slots_begin K V roots));
    };
    remains = subst (λ (r : ℕ). RefinesRemains {K = K} {V = V} r start (known l.notes) (at_first roots)) (sym is_roots)
        (subst (λ (k : Known). RefinesRemains {K = K} {V = V} roots start k (at_first roots)) (sym noted) (begins_remain K V roots));
  }

  -- where a row begins on a slot, and after a step of it
  pub counted_row_begins : (old new : Logged K V S) → PreservesSettings old.executor new.executor → new.notes ≡ old.notes → (m : Moment K V) (s : Scene K V) → IsAt same hash (held_by old.executor) s → IsCounted m old s
      → (called : SlotCall) (i : ℕ) (leads : RowBegins same hash called i s (held_by old.executor) (held_by new.executor))
      → IsCounted m new (scene_then same hash (Begin i (request_of (slot_of i) called)) s (held_by old.executor) (held_by new.executor) leads.2)
  counted_row_begins old new given noted m s at c called i leads =
      let to = leads.2 in
      counted_on old new given m _
      (subst (λ (n : Notes). RefinesRemains old.executor.roots m (known n) (scene_then same hash (Begin i (request_of (slot_of i) called)) s (held_by old.executor) (held_by new.executor) to)) (sym noted)
      (rows_begin_remain K V same hash m (known old.notes) s (held_by old.executor) (held_by new.executor) at c.remains called i leads)) c.numbered.numbers
      (same_slots old new given noted (sym to.4.memory ∙ begun_memory old.executor.batch_size (slot_of i) i s.world to.0 called to.1.1 ∙ at.memory) c.numbered.slots)

  pub counted_row_steps : (old : Logged K V S) (stepped : Executor K V S) (notes : Notes) → PreservesSettings old.executor stepped → (m : Moment K V) (s : Scene K V) → IsAt same hash (held_by old.executor) s → IsCounted m old s
      → (i : ℕ) (told : RowTold (Node K V)) (leads : RowLeads same hash i told s (held_by old.executor) (held_by stepped)) (row : SlotRow) (here : IsOnSlot s i row)
      → known notes ≡ known_after acts.Row stepped.memory.changed (known old.notes)
      → LeftNoted (known old.notes) (known_after acts.Row stepped.memory.changed (known old.notes)) s.world (scene_then same hash (Step i) s (held_by old.executor) (held_by stepped) (leads row here).2).world
      → IsCounted (with_effects None None (effects_of acts.Row (known old.notes) stepped.memory.changed) m) (record { executor = stepped; notes = notes })
      (scene_then same hash (Step i) s (held_by old.executor) (held_by stepped) (leads row here).2)
  counted_row_steps old stepped notes given m s at c i told leads row here noted left =
      counted_on old (record { executor = stepped; notes = notes }) given _ _
      (subst (λ (k : Known). RefinesRemains old.executor.roots (with_effects None None (effects_of acts.Row (known old.notes) stepped.memory.changed) m) k
      (scene_then same hash (Step i) s (held_by old.executor) (held_by stepped) (leads row here).2)) (sym noted)
      (rows_keep_remains K V same hash m (known old.notes) (known_after acts.Row stepped.memory.changed (known old.notes)) s (held_by old.executor) (held_by stepped) at c.remains i told leads row here None None
      (effects_of acts.Row (known old.notes) stepped.memory.changed) left))
      (rows_keep_count K V same hash m (known old.notes) s (held_by old.executor) (held_by stepped) (length old.executor.maps.items) c.numbered.numbers i told leads row here)
      (subst (λ (k : Known). SlotsNoted k stepped.memory.memory) (sym noted) (rows_note_slots K V same hash (known old.notes) s (held_by old.executor) (held_by stepped) at c.numbered.slots i told leads row here))

  -- after a step of a call
  pub counted_call_steps : (old : Logged K V S) (stepped : Executor K V S) (notes : Notes) → PreservesSettings old.executor stepped → (m : Moment K V) (s : Scene K V) → IsAt same hash (held_by old.executor) s → MapsAreBelow (length old.executor.maps.items) s → IsCounted m old s
      → (of i : ℕ) (u : UnderWay K V K) (here : s.calls of i ≡ Some u) (told : CallTold (Node K V)) (leads : StepLeads same hash i told s (held_by old.executor) (held_by stepped)) (caller : List ℕ)
      → known notes ≡ known_after (acts.Call i of) stepped.memory.changed (known old.notes)
      → (let to = leads of u here in
      LeftNoted (known old.notes) (known_after (acts.Call i of) stepped.memory.changed (known old.notes)) s.world (scene_after same s (held_by old.executor) (held_by stepped) of i to.0 u to.1 told to.4).world
      → IsCounted (with_effects (Some caller) (Some of) (effects_of (acts.Call i of) (known old.notes) stepped.memory.changed) m) (record { executor = stepped; notes = notes })
      (scene_after same s (held_by old.executor) (held_by stepped) of i to.0 u to.1 told to.4))
  counted_call_steps old stepped notes given m s at below c of i u here told leads caller noted left =
      counted_on old (record { executor = stepped; notes = notes }) given _ _
      (let to = leads of u here in
      subst (λ (k : Known). RefinesRemains old.executor.roots (with_effects (Some caller) (Some of) (effects_of (acts.Call i of) (known old.notes) stepped.memory.changed) m) k
      (scene_after same s (held_by old.executor) (held_by stepped) of i to.0 u to.1 told to.4)) (sym noted)
      (calls_keep_remains K V same hash m (known old.notes) (known_after (acts.Call i of) stepped.memory.changed (known old.notes)) s (held_by old.executor) (held_by stepped) at c.remains of i u here told leads
      (Some caller) (Some of) (effects_of (acts.Call i of) (known old.notes) stepped.memory.changed) left))
      (calls_keep_count K V same hash m (known old.notes) s (held_by old.executor) (held_by stepped) (length old.executor.maps.items) below c.numbered.numbers of i u here told leads (Some caller) (Some of))
      (subst (λ (k : Known). SlotsNoted k stepped.memory.memory) (sym noted) (calls_note_slots K V same hash (known old.notes) s (held_by old.executor) (held_by stepped) at c.numbered.slots of i u here told leads))

  -- where the making of a map begins, by the next number, and after a step of it
  pub counted_making_begins : (old new : Logged K V S) → new.executor.roots ≡ old.executor.roots → length new.executor.maps.items ≡ length old.executor.maps.items + 1 → new.notes ≡ old.notes
      → new.executor.memory.memory ≡ old.executor.memory.memory → (m : Moment K V) (s : Scene K V) → IsCounted m old s → (i : ℕ) (b : Beginning K) → s.makers i ≡ None → (HasTaken b.machine.stands → ⊥)
      → IsCounted m new (record s { makers = with_at s.makers i (Some b) })
  counted_making_begins old new roots count noted memory m s c i b none taken = record {
    numbered = record {
      numbers = subst (λ (n : ℕ). NumbersUpTo n m) (sym count) (more_are_counted K V m (length old.executor.maps.items) 1 c.numbered.numbers);
      slots = subst (λ (n : Notes). SlotsNoted (known n) new.executor.memory.memory) (sym noted)
          (subst (λ (x : Mem (Node K V)). SlotsNoted (known old.notes) x) (sym memory) c.numbered.slots);
    };
    remains = subst (λ (r : ℕ). RefinesRemains r m (known new.notes) (record s { makers = with_at s.makers i (Some b) })) (sym roots)
        (subst (λ (n : Notes). RefinesRemains old.executor.roots m (known n) (record s { makers = with_at s.makers i (Some b) })) (sym noted)
        (makings_begin_remain K V old.executor.roots m (known old.notes) s c.remains i b none taken));
  }

  pub counted_making_steps : (old : Logged K V S) (stepped : Executor K V S) (notes : Notes) → PreservesSettings old.executor stepped → (m : Moment K V) (s : Scene K V) → IsAt same hash (held_by old.executor) s → MapsAreBelow (length old.executor.maps.items) s → IsCounted m old s
      → (i : ℕ) (told : Advance Setting) (leads : MakingLeads same hash i told s (held_by old.executor) (held_by stepped)) (b : Beginning K) (here : s.makers i ≡ Some b) (of : Option ℕ)
      → known notes ≡ known_after (acts.Making b.map) stepped.memory.changed (known old.notes)
      → (let to = leads b here in
      LeftNoted (known old.notes) (known_after (acts.Making b.map) stepped.memory.changed (known old.notes)) s.world (making_after same hash s (held_by old.executor) (held_by stepped) i b to.0 to.2.step.w2 told to.3).world
      → IsCounted (with_effects None of (effects_of (acts.Making b.map) (known old.notes) stepped.memory.changed) m) (record { executor = stepped; notes = notes })
      (making_after same hash s (held_by old.executor) (held_by stepped) i b to.0 to.2.step.w2 told to.3))
  counted_making_steps old stepped notes given m s at below c i told leads b here of noted left =
      counted_on old (record { executor = stepped; notes = notes }) given _ _
      (let to = leads b here in
      subst (λ (k : Known). RefinesRemains old.executor.roots (with_effects None of (effects_of (acts.Making b.map) (known old.notes) stepped.memory.changed) m) k
      (making_after same hash s (held_by old.executor) (held_by stepped) i b to.0 to.2.step.w2 told to.3)) (sym noted)
      (makings_keep_remains K V same hash m (known old.notes) (known_after (acts.Making b.map) stepped.memory.changed (known old.notes)) s (held_by old.executor) (held_by stepped) at c.remains i told leads b here
      None of (effects_of (acts.Making b.map) (known old.notes) stepped.memory.changed) left))
      (makings_keep_count K V same hash m (known old.notes) s (held_by stepped) (length old.executor.maps.items) below c.numbered.numbers i b here None of)
      (subst (λ (k : Known). SlotsNoted k stepped.memory.memory) (sym noted) (makings_note_slots K V same hash (known old.notes) s (held_by old.executor) (held_by stepped) at c.numbered.slots i told leads b here b.map))

  -- where the end of one begins, and after a step of it, which does what it is told to do
  pub counted_end_begins : (old new : Logged K V S) → PreservesSettings old.executor new.executor → new.notes ≡ old.notes → (name : ℕ → List ℕ) (m : Moment K V) (s : Scene K V) → IsAt same hash (held_by old.executor) s
      → Refines same name m (known old.notes) s → IsCounted m old s → (of i : ℕ) (standing : Standing K) → s.maps of ≡ Some standing → s.enders i ≡ None
      → IsAt same hash (held_by new.executor) (ending_begun of i standing s) → IsCounted m new (ending_begun of i standing s)
  counted_end_begins old new given noted name m s at shown c of i standing there none at2 =
      counted_on old new given m _
      (subst (λ (n : Notes). RefinesRemains old.executor.roots m (known n) (ending_begun of i standing s)) (sym noted)
      (endings_begin_remain K V same hash name m (known old.notes) s (held_by old.executor) at shown c.remains of i standing there none)) c.numbered.numbers
      (same_slots old new given noted (same_memory same hash old.executor new.executor s (ending_begun of i standing s) at at2 refl) c.numbered.slots)

  pub counted_end_steps : (old : Logged K V S) (stepped : Executor K V S) (notes : Notes) → PreservesSettings old.executor stepped → (m : Moment K V) (s : Scene K V) → IsAt same hash (held_by old.executor) s → IsCounted m old s
      → (i of : ℕ) (told : Settled (Node K V)) (leads : EndingLeads same hash i told s (held_by old.executor) (held_by stepped)) (f : Finishing K V) (here : s.enders i ≡ Some f)
      → known notes ≡ known_after (acts.Ending of) stepped.memory.changed (known old.notes)
      → (first : Known) (blocks : List ℕ) → effects_of (acts.Ending of) (known old.notes) stepped.memory.changed ≡ ended_as of first blocks
      → (let to = leads f here in
      LeftNoted (known old.notes) (known_after (acts.Ending of) stepped.memory.changed (known old.notes)) s.world (ending_after same hash s (held_by stepped) i f to.0 to.2.w2 to.2.deed told to.3).world
      → IsCounted (with_effects None (Some of) (effects_of (acts.Ending of) (known old.notes) stepped.memory.changed) m) (record { executor = stepped; notes = notes })
      (ending_after same hash s (held_by stepped) i f to.0 to.2.w2 to.2.deed told to.3))
  counted_end_steps old stepped notes given m s at c i of told leads f here noted first blocks does left =
      counted_on old (record { executor = stepped; notes = notes }) given _ _
      (let to = leads f here in
      subst (λ (k : Known). RefinesRemains old.executor.roots (with_effects None (Some of) (effects_of (acts.Ending of) (known old.notes) stepped.memory.changed) m) k
      (ending_after same hash s (held_by stepped) i f to.0 to.2.w2 to.2.deed told to.3)) (sym noted)
      (endings_keep_remains K V same hash m (known old.notes) (known_after (acts.Ending of) stepped.memory.changed (known old.notes)) s (held_by old.executor) (held_by stepped) at c.remains i told leads f here
      None (Some of) (effects_of (acts.Ending of) (known old.notes) stepped.memory.changed) left))
      (subst (λ (fs : List Effect). NumbersUpTo (length old.executor.maps.items) (with_effects None (Some of) fs m)) (sym does) (ends_count (length old.executor.maps.items) of first blocks m c.numbered.numbers))
      (subst (λ (k : Known). SlotsNoted k stepped.memory.memory) (sym noted) (endings_note_slots K V same hash (known old.notes) s (held_by old.executor) (held_by stepped) at c.numbered.slots i told leads f here of))

module _ {K V S : Type 0} (l : Logged K V S) where
  -- where a map comes by the next number, with a root that is not used
  pub counted_comes : (m : Moment K V) (s : Scene K V) → IsCounted m l s → (there : MapThere) → NumbersUpTo (length l.executor.maps.items) (with_map there m)
      → is_among there.root (used_roots m) ≡ false → there.root < l.executor.roots → IsCounted (with_map there m) l s
  counted_comes m s c there numbers free below = record { numbered = record { numbers = numbers; slots = c.numbered.slots }; remains = maps_come_remain K V l.executor.roots m (known l.notes) s c.remains there free below }

  -- and where one is there no more
  pub counted_goes : (m : Moment K V) (s : Scene K V) (c : IsCounted m l s) (own : List ℕ) (f : MapThere) → map_of own m ≡ Some f → length (filter (λ g. is_same g.name own) m.maps) ≤ 1
      → ((j : ℕ) → s.enders j ≡ None) → (pairs : List ℕ) → map (known l.notes).roles (c.remains.lists f.root) ≡ map role.Pair pairs
      → IsCounted (without_map own (if_any f.root pairs m.remains) m) l s
  counted_goes m s c own f is alone nobody pairs is_noted = record {
    numbered = record {
      numbers = (let n = maps_go K V (record m { made = length l.executor.maps.items }) c.numbered.numbers own (if_any f.root pairs m.remains) in record { found = n.found; below = n.below; tables = n.tables });
      slots = c.numbered.slots;
    };
    remains = maps_go_remain K V l.executor.roots m (known l.notes) s c.remains own f is alone nobody pairs is_noted;
  }
