-- A kind of step is a constructor of what is done: each act leads where a step of its kind does, of what is held before and after it.
use Rattle.std.specs.Result.{is_err}
use Rattle.std.specs.Prelude.{◌≡◌, ℕ, Bool, List, Option, Some, None, Result, true, ◌++◌, [], ◌∷◌}
use Rattle.std.specs.Option.{option_map_or}
use Rattle.run_shows.specs.Given.SeizeWordsMem.{Mem}
use Rattle.run_shows.specs.Given.SeizeWordsOp.{Op, Out}
use Rattle.run_shows.specs.Given.SeizeWordsPlan.{Plan, Turn, Do}
use Rattle.run_shows.specs.Given.SeizeEnter.{enter_plan, unregister_plan}
use Rattle.run_shows.specs.Given.SeizeLeave.{leave_plan}
use Rattle.run_shows.specs.Given.SeizeReclaimAll.{reclaim_all_plan}
use Rattle.run_shows.specs.Given.SeizeRegister.{register_plan}
use Rattle.run_shows.specs.Given.SeizeSettle.{settle_plan}
use Rattle.run_shows.specs.Given.SeizeWorld.{World, with_at, Row, Rests, Registers, Enters, Settles, Leaves, Defers, Frees}
use Rattle.run_shows.specs.Given.SeizeDeclared.advance.Advance.{Advance}
use Rattle.run_shows.specs.Given.SeizeDeclared.advance.Advance.TheVariants as progress
use Rattle.run_shows.specs.Given.SeizeDeclared.rows.reclaim_all.ReclaimAll.{ReclaimAll}
use Rattle.run_shows.specs.Given.SeizeDeclared.rows.settle.Settled.{Settled}
use Rattle.run_shows.specs.Given.SeizeDeclared.rows.settle.Settled.TheVariants as settled
use Rattle.seize_acts.specs.Acts.Answers.{Grant, answer, stepped}
use Rattle.run_shows.specs.Given.TablesNodes.{deferred_word, was_left}
use Rattle.run_shows.specs.Given.TablesDeclared.node.Node.{Node}
use Rattle.run_shows.specs.Given.TablesDeclared.setting.Setting.{Setting}
use Rattle.run_shows.specs.Given.ResizeNewMap.{new_map_plan}
use Rattle.run_shows.specs.Given.ResizeDeclared.new_map.NewMap.{NewMap}
use Rattle.run_shows.specs.Given.RawEndMap.{end_map_plan}
use Rattle.run_shows.specs.Given.RawMachine.{machine_plan}
use Rattle.run_shows.specs.Given.RawDeclared.machines.asking.MachineReply.{MachineReply}
use Rattle.run_shows.specs.Given.RawDeclared.machines.end_map.EndMap.{EndMap}
use Rattle.run_shows.specs.Given.RawDeclared.machines.progress.Progress.{Progress as CallProgress}
use Rattle.run_shows.specs.Given.TellsSeen.{seen_of}
use Rattle.run_shows.specs.Given.TellerTells.{observed_of}
use Rattle.run_shows.specs.Given.EffectsDeclared.changed.Changed.{Changed}
use Rattle.run_shows.specs.Given.EffectsDeclared.changed.Changed.TheVariants.{Nothing as NoChange}
use Rattle.owner_facts.specs.Given.CallersTogether.{UnderWay}
use Rattle.owner_facts.specs.Given.FinishesEndings.{Finishing}
use Rattle.owner_facts.specs.Given.FinishesFactsEnds.{Deed}
use Rattle.owner_facts.specs.Given.FinishesMachines.{machine_of}
use Rattle.owner_facts.specs.Given.FinishesMakings.{Beginning}
use Rattle.owner_facts.specs.Given.FinishesMaps.{Standing, with_call}
use Rattle.many_acts.specs.Acts.Acts.{Act, Answer, OfCall, OfReply, OfAsking, OfMaking, OfEnding, begun, BeginsCall, StepsCall, TellsCall, AsksCall, StopsCall, BeginsMaking, StepsMaking, BeginsEnding, StepsEnding, BeginsRow, StepsRow}
use Rattle.many_acts.specs.Acts.Leads.{MayBe, AllStand, Led, asked_on, call_at}
use Rattle.run_shows.specs.Scenes.Beginning.{Begins}
use Rattle.run_shows.specs.Scenes.Ending.{EndingBeginsTo, EndingHasOutcome, EndingLeads, ending_begun, ending_goes}
use Rattle.run_shows.specs.Scenes.Held.{Held, IsAt}
use Rattle.run_shows.specs.Scenes.Making.{MakingHasOutcome, MakingLeads, making_begun, scene_making}
use Rattle.run_shows.specs.Scenes.OnSlots.{RowBegins, RowLeads}
use Rattle.many_acts.specs.Acts.Reclaiming.{ReclaimedOn}
use Rattle.run_shows.specs.Scenes.Reclaiming.{IsReclaiming, ReclaimingLeads}
use Rattle.run_shows.specs.Scenes.Replying.{ReplyLeads, AskLeads, StopLeads, scene_with, unless_stopped}
use Rattle.run_shows.specs.Scenes.Rows.{request_of, of_registering, of_storing, of_settling}
use Rattle.run_shows.specs.Scenes.Scene.{IsOnSlot, Scene, slot_of}
use Rattle.run_shows.specs.Scenes.Stepping.{StepLeads, scene_after}
use Rattle.run_shows.specs.declared.row.RowTold.{RowTold}
use Rattle.run_shows.specs.declared.row.RowTold.TheVariants as told
use Rattle.run_shows.specs.declared.row.SlotCall.{SlotCall}
use Rattle.run_shows.specs.declared.row.SlotRow.{SlotRow}

module _ {K V : Type 0} where
  -- what an operation has changed, by its answer, if it has one
  abbrev pub changed_as : Mem (Node K V) → Op (Node K V) → Option (Out (Node K V)) → Changed
  changed_as m op None = NoChange
  changed_as m op (Some out) = observed_of op out (seen_of m op out)

  -- what the one operation of a step has changed, where the memory chooses so
  abbrev pub changed_of : {R : Type 0} → Mem (Node K V) → Grant → Plan (Node K V) R → Changed
  changed_of m g (Turn rest) = NoChange
  changed_of m g (Do op rest) = changed_as m op (answer m g op)

  -- of a row
  abbrev pub row_changed : Row → Grant → Mem (Node K V) → Changed
  row_changed Rests g m = NoChange
  row_changed (Registers c) g m = changed_of m g (register_plan c)
  row_changed (Enters c) g m = changed_of m g (enter_plan c)
  row_changed (Settles c) g m = changed_of m g (settle_plan deferred_word c)
  row_changed (Leaves c) g m = changed_of m g (leave_plan deferred_word c)
  row_changed (Defers s c) g m = NoChange
  row_changed (Frees c) g m = changed_of m g (unregister_plan c)

  -- and what that tells by its step
  abbrev pub outcome_of_row_step : Row → Grant → Mem (Node K V) → RowTold (Node K V)
  outcome_of_row_step (Registers c) g m = option_map_or (λ p. of_registering p.1.1) (stepped m g (register_plan c)) told.Goes
  outcome_of_row_step (Enters c) g m = option_map_or (λ p. of_storing p.1.1) (stepped m g (enter_plan c)) told.Goes
  outcome_of_row_step (Settles c) g m = option_map_or (λ p. of_settling p.1.1) (stepped m g (settle_plan deferred_word c)) told.Goes
  outcome_of_row_step (Leaves c) g m = option_map_or (λ p. of_settling p.1.1) (stepped m g (leave_plan deferred_word c)) told.Goes
  outcome_of_row_step (Frees c) g m = option_map_or (λ p. of_storing p.1.1) (stepped m g (unregister_plan c)) told.Goes
  outcome_of_row_step _ g m = told.Goes

  module _ {S : Type 0} (same : K → K → Bool) where
    -- what the one operation of an act has changed
    abbrev pub changed_by : Act K V S → Scene K V → Changed
    changed_by (StepsCall i m g) s = option_map_or (λ it. changed_of s.world.memory g (machine_plan same same it.0.hash (machine_of it.1))) (call_at s i m) NoChange
    changed_by (StepsMaking i g) s = option_map_or (λ b. changed_of s.world.memory g (new_map_plan b.machine)) (s.makers i) NoChange
    changed_by (StepsEnding i g) s = option_map_or (λ f. changed_of s.world.memory g (end_map_plan f.machine)) (s.enders i) NoChange
    changed_by (StepsRow i g) s = row_changed (s.world.row i) g s.world.memory
    changed_by act s = NoChange

  -- what is held where a scene is, after an operation that has changed this
  abbrev pub held_in : ℕ → ℕ → Changed → Scene K V → Held K V
  held_in batch_size roots changed s = record { memory = s.world.memory; changed = changed; batch_size = batch_size; roots = roots }

-- Keys have a hash by each hasher, and each map has one by its number. A caller's number tells its slot.
module _ {K V S : Type 0} (by_hasher : S → K → ℕ) (hash : ℕ → K → ℕ) where
  -- A map is made with a hasher of which it has its hash, and a row begins on the slot of its caller.
  abbrev pub IsOwn : Act K V S → Type 0
  IsOwn (BeginsMaking i map hasher given places) = by_hasher hasher ≡ hash map
  IsOwn (BeginsRow i request) = (called : SlotCall) × (request ≡ request_of (slot_of i) called)
  IsOwn act = Unit {0}

module _ {K V : Type 0} (same : K → K → Bool) (hash : ℕ → K → ℕ) where
  -- The scene to which a step of the making of a map, or of the end of one, has come, by what it says.
  abbrev pub MadeTo : (s : Scene K V) (old new : Held K V) (i : ℕ) (b : Beginning K) (opening : NewMap) (w2 : World (Node K V)) (told : Advance Setting)
      → MakingHasOutcome same hash s old new i b opening w2 told → Scene K V → Type 0
  MadeTo s old new i b opening w2 progress.Goes comes n = n ≡ record s { world = w2; makers = with_at s.makers i (Some (record b { machine = opening })) }
  MadeTo s old new i b opening w2 progress.Waits comes n = ⊥
  MadeTo s old new i b opening w2 (progress.Done setting) comes n = n ≡ record s { world = w2; maps = with_at s.maps b.map (Some comes.0); makers = with_at s.makers i None }
  MadeTo s old new i b opening w2 (progress.Refused fault) comes n = n ≡ record s { world = w2; makers = with_at s.makers i None }

  abbrev pub EndedTo : (s : Scene K V) (new : Held K V) (i : ℕ) (f : Finishing K V) (ending : EndMap) (w2 : World (Node K V)) (deed : Deed) (told : Settled (Node K V))
      → EndingHasOutcome same hash s new i f ending w2 deed told → Scene K V → Type 0
  EndedTo s new i f ending w2 deed settled.Goes comes n = n ≡ ending_goes s i f ending w2 deed f.back
  EndedTo s new i f ending w2 deed settled.Waits comes n = ⊥
  EndedTo s new i f ending w2 deed (settled.Gave value) comes n = n ≡ ending_goes s i f ending w2 deed (f.back ++ comes.0 ∷ [])
  EndedTo s new i f ending w2 deed settled.Done comes n = n ≡ record s { world = w2; enders = with_at s.enders i None }

module _ {K V S : Type 0} (same : K → K → Bool) (by_hasher : S → K → ℕ) (hash : ℕ → K → ℕ) where
  -- where a step of its kind leads from there, that has told this, and to which scene
  abbrev pub LeadsAs : Act K V S → Scene K V → Answer K V → Scene K V → Held K V → Held K V → Type 0
  LeadsAs (BeginsCall i m wanted) s answer n old new =
      (standing : Standing K) × (s.maps m ≡ Some standing) × Begins same standing i (begun same slot_of standing i wanted)
      × (new.memory ≡ old.memory) × IsAt same hash new (scene_with m i (begun same slot_of standing i wanted) s) × (n ≡ scene_with m i (begun same slot_of standing i wanted) s)
  LeadsAs (StepsCall i m g) s answer n old new =
      (told : CallProgress (Node K V)) × (answer ≡ OfCall told) × (leads : StepLeads same hash i told s old new)
      × ((map : ℕ) (u : UnderWay K V K) (here : s.calls map i ≡ Some u) → (let to = leads map u here in n ≡ scene_after same s old new map i to.0 u to.1 told to.4))
  LeadsAs (TellsCall i m reply) s answer n old new =
      (result : Result Unit (MachineReply V)) × (answer ≡ OfReply result) × (leads : ReplyLeads same hash i reply result s old new)
      × ((map : ℕ) (u : UnderWay K V K) (here : s.calls map i ≡ Some u) → (is_err result ≡ true → (leads map u here).1 ≡ u) × (n ≡ scene_with map i (leads map u here).1 s))
  LeadsAs (AsksCall i m) s answer n old new =
      (ready : Bool) × (answer ≡ OfAsking ready) × (leads : AskLeads same hash i ready s old new)
      × ((map : ℕ) (u : UnderWay K V K) (here : s.calls map i ≡ Some u) → ((leads map u here).0 ≡ asked_on u) × (n ≡ scene_with map i (leads map u here).0 s))
  LeadsAs (StopsCall i m) s answer n old new =
      (stopped : Bool) × (answer ≡ OfAsking stopped) × StopLeads same hash i stopped s old new
      × ((map : ℕ) (u : UnderWay K V K) → s.calls map i ≡ Some u → n ≡ record s { calls = with_call s.calls map i (unless_stopped stopped u) })
  LeadsAs (BeginsMaking i map hasher given places) s answer n old new =
      (new.memory ≡ old.memory) × IsAt same hash new (scene_making i (making_begun (by_hasher hasher) old.roots map given places) s)
      × (n ≡ scene_making i (making_begun (by_hasher hasher) old.roots map given places) s)
  LeadsAs (StepsMaking i g) s answer n old new =
      (told : Advance Setting) × (answer ≡ OfMaking told) × (leads : MakingLeads same hash i told s old new)
      × ((b : Beginning K) (here : s.makers i ≡ Some b) → (let to = leads b here in MadeTo same hash s old new i b to.0 to.2.step.w2 told to.3 n))
  LeadsAs (BeginsEnding i m) s answer n old new = (to : EndingBeginsTo same (IsAt same hash new) m i s old new) × (n ≡ ending_begun m i to.0 s)
  LeadsAs (StepsEnding i g) s answer n old new =
      (told : Settled (Node K V)) × (answer ≡ OfEnding told) × (leads : EndingLeads same hash i told s old new)
      × ((f : Finishing K V) (here : s.enders i ≡ Some f) → (let to = leads f here in EndedTo same hash s new i f to.0 to.2.w2 to.2.deed told to.3 n))
  LeadsAs (BeginsRow i request) s answer n old new =
      (called : SlotCall) × (request ≡ request_of (slot_of i) called) × (leads : RowBegins same hash called i s old new) × (n ≡ record s { world = leads.2.0; maps = leads.2.2 })
  LeadsAs (StepsRow i g) s answer n old new =
      (leads : RowLeads same hash i (outcome_of_row_step (s.world.row i) g s.world.memory) s old new)
      × ((row : SlotRow) (here : IsOnSlot s i row) → n ≡ record s { world = (leads row here).2.0; maps = (leads row here).2.2 })

-- The promise: an act of its own leads so, from a scene of what is held to one of what is held then.
abbrev pub ActsLeadAsSteps : {K S : Type 0} (V : Type 0) (same : K → K → Bool) (by_hasher : S → K → ℕ) (hash : ℕ → K → ℕ) (batch_size roots : ℕ) → Type 0
ActsLeadAsSteps {K} {S} V same by_hasher hash batch_size roots =
    (s n : Scene K V) (before : Changed) → IsAt same hash (held_in batch_size roots before s) s → AllStand same by_hasher batch_size roots slot_of n
    → (act : Act K V S) → IsOwn by_hasher hash act → MayBe same by_hasher batch_size roots slot_of act s → (told : Answer K V) → Led same by_hasher batch_size roots slot_of act s told n
    → LeadsAs same by_hasher hash act s told n (held_in batch_size roots before s) (held_in batch_size roots (changed_by same act s) n) × IsAt same hash (held_in batch_size roots (changed_by same act s) n) n

-- And so does a step of a caller that reclaims all, and to that scene.
abbrev pub ReclaimingLeadsAsSteps : {K : Type 0} (V : Type 0) (same : K → K → Bool) (hash : ℕ → K → ℕ) (batch_size roots : ℕ) → Type 0
ReclaimingLeadsAsSteps {K} V same hash batch_size roots =
    (s n : Scene K V) (before : Changed) (i : ℕ) (lists : ℕ → List ℕ) (c : ReclaimAll) → IsReclaiming same hash (held_in batch_size roots before s) s i lists c
    → (g : Grant) (end : Settled (Node K V)) (lists2 : ℕ → List ℕ) (c2 : ReclaimAll) → ReclaimedOn V same batch_size roots slot_of s i lists c g end n lists2 c2
    → (leads : ReclaimingLeads same hash s i lists (held_in batch_size roots before s) (held_in batch_size roots (changed_of s.world.memory g (reclaim_all_plan deferred_word was_left c)) n) c c2 end)
    × (n ≡ record s { world = leads.1.w2; maps = leads.1.maps2 })
