-- The table that a call has made and has not linked: which one its machine has, what a moment of a run says of it, and what is promised of steps of calls.
use Rattle.std.specs.Prelude.{◌≡◌, ◌<◌, ◌≤◌, ℕ, Bool, true, List, length, Option, Some, None, option_map, ◌⊎◌}
use Rattle.run_debts.specs.Given.SeizeWordsWord.{block_in}
use Rattle.run_debts.specs.Given.SeizeWorld.{Making as IsMaking}
use Rattle.run_debts.specs.Given.TablesDeclared.node.Node.{Node}
use Rattle.run_debts.specs.Given.TablesDeclared.table.Table.{Table as Planned}
use Rattle.owner_calls.specs.Given.ResizeDeclared.new_table.Making.{Making}
use Rattle.owner_calls.specs.Given.ResizeDeclared.new_table.Making.TheVariants as making
use Rattle.owner_calls.specs.Given.ResizeDeclared.new_table.NewTable.{NewTable}
use Rattle.run_debts.specs.Given.RawMachine.{machine_replied}
use Rattle.run_debts.specs.Given.RawDeclared.machines.asking.MachineReply.{MachineReply}
use Rattle.run_debts.specs.Given.RawDeclared.machines.progress.Progress.{Progress}
use Rattle.run_debts.specs.Given.RunsDeclared.shapes.TableShape.{TableShape}
use Rattle.run_debts.specs.Given.RunsDeclared.call.Call.{Call}
use Rattle.run_debts.specs.Given.RunsDeclared.call.Reply.{Reply}
use Rattle.run_debts.specs.Given.RunsDeclared.effect.Effect.{Effect}
use Rattle.run_debts.specs.Given.RunsDeclared.effect.Effect.TheVariants.{TableMade, TableGivenUp, Linked}
use Rattle.run_debts.specs.Given.RunsDeclared.effect.TableId.{TableId}
use Rattle.run_debts.specs.Given.RunsDeclared.outcome.Outcome.{Outcome}
use Rattle.run_debts.specs.Given.SchedulesBeginning.{with_call}
use Rattle.run_debts.specs.Given.SchedulesEffects.{with_effects, AtEachEffect}
use Rattle.run_debts.specs.Given.SchedulesEntry.{ByCall, acting, ends_call}
use Rattle.run_debts.specs.Given.SchedulesMoment.{UnderWay as CallThere, Moment}
use Rattle.run_debts.specs.Given.SchedulesViews.{call_of, tables_of}
use Rattle.owner_calls.specs.Given.CallersTogether.{UnderWay}
use Rattle.run_debts.specs.Given.EffectsEffects.{effects_of, known_after}
use Rattle.run_debts.specs.Given.EffectsKnown.{Known}
use Rattle.run_debts.specs.Given.EffectsDeclared.acting.Acting.TheVariants as acts
use Rattle.run_debts.specs.Given.EffectsDeclared.role.Role.TheVariants as role
use Rattle.run_debts.specs.Given.FinishesMachines.{machine_of}
use Rattle.run_debts.specs.Given.FinishesMakings.{Beginning}
use Rattle.run_debts.specs.Given.FollowsCalling.{NoneNamed, told, come_to}
use Rattle.run_debts.specs.Given.FollowsShows.{Refines}
use Rattle.run_debts.specs.Given.MomentsWhole.{RefinesWhole}
use Rattle.run_blocks.specs.Owes.Making.{making_of, making_in_opening}
use Rattle.run_debts.specs.Given.ScenesHeld.{Held, IsAt}
use Rattle.run_debts.specs.Given.ScenesReplying.{scene_with}
use Rattle.run_debts.specs.Given.ScenesScene.{Scene}
use Rattle.run_debts.specs.Given.ScenesStepping.{StepLeads, scene_after}

-- the table that a making has made, and has neither linked nor given up
abbrev pub table_in : Making → Option Planned
table_in (making.Promotes table) = Some table
table_in (making.Links table) = Some table
table_in (making.Drops table found) = Some table
table_in _ = None

abbrev pub table_made : Option NewTable → Option Planned
table_made None = None
table_made (Some n) = table_in n.stands

-- by its map and its turn
abbrev pub of_map : ℕ → Planned → TableId
of_map map table = record { map = map; turn = table.turn }

module _ {K V : Type 0} (s : Scene K V) where
  -- the block is that of a table which a call of this caller has made, or a making
  abbrev pub IsOfCall : ℕ → ℕ → Type 0
  IsOfCall i b = (map : ℕ) × (u : UnderWay K V K) × (s.calls map i ≡ Some u) × (t : Planned) × (table_made (making_of (machine_of u)) ≡ Some t) × (b ≡ block_in t.link)

  abbrev pub IsOfMaker : ℕ → ℕ → Type 0
  IsOfMaker i b = (d : Beginning K) × (s.makers i ≡ Some d) × (t : Planned) × (table_made (making_in_opening d.machine.stands) ≡ Some t) × (b ≡ block_in t.link)

  -- this caller has the block so
  abbrev pub HoldsTable : ℕ → ℕ → Type 0
  HoldsTable i b = IsOfCall i b ⊎ IsOfMaker i b

-- Each call under way has the table that its machine has made, if any; and each block that is noted as a table which is not linked is one of a call's, or of a making's.
pub record RefinesOwnTables {K V : Type 0} (name : ℕ → List ℕ) (m : Moment K V) (known : Known) (s : Scene K V) : Type 0 where
  pub tables : (map i : ℕ) (u : UnderWay K V K) → s.calls map i ≡ Some u → (c : CallThere K V) → call_of (name i) m ≡ Some c
      → c.table ≡ option_map (of_map map) (table_made (making_of (machine_of u)))
  pub whose : (b turn : ℕ) (shape : TableShape) → known.roles b ≡ role.OwnTable turn shape → (i : ℕ) × HoldsTable s i b

module _ {K V : Type 0} where
  -- A table of the call's map is made on asking for it, by a call that has none; and the one that a call has is linked, or given up, where its turn was taken.
  abbrev pub FindsTable : Moment K V → Effect → CallThere K V → Type 0
  FindsTable m (TableMade t) c = (c.is_short ≡ true) × (c.table ≡ None) × (t.map ≡ c.map) × (t.turn ≤ length (tables_of c.map m))
  FindsTable m (TableGivenUp t) c = (c.table ≡ Some t) × (t.turn < length (tables_of c.map m))
  FindsTable m (Linked t shape) c = c.table ≡ Some t
  FindsTable m _ c = Unit {0}

  abbrev pub FindTables : List ℕ → ℕ → List Effect → Moment K V → Type 0
  FindTables own map effects m = AtEachEffect (λ v f. ByCall (FindsTable v f) (acting (Some own) v)) (Some own) (Some map) effects m

module _ (K V : Type 0) (same : K → K → Bool) (hash : ℕ → K → ℕ) where
  -- The promise: the effects of a step of a call find the call's table as they must, it is so after the step, whoever takes it, and a call that has ended by it has none.
  abbrev pub CallsPreserveOwnTables : Type 0
  CallsPreserveOwnTables =
      (name : ℕ → List ℕ) (m : Moment K V) (known : Known) (s : Scene K V) (old new : Held K V) → IsAt same hash old s → RefinesWhole same name m known s → RefinesOwnTables name m known s
      → (map i : ℕ) (u : UnderWay K V K) (here : s.calls map i ≡ Some u) (said : Progress (Node K V)) (leads : StepLeads same hash i said s old new)
      → (let to = leads map u here in
      let effects = effects_of (acts.Call i map) known new.changed in
      let v = with_effects (Some (name i)) (Some map) effects m in
      FindTables (name i) map effects m
      × RefinesOwnTables name v (known_after (acts.Call i map) new.changed known) (scene_after same s old new map i to.0 u to.1 said to.4)
      × (to.4.next ≡ None → (c : CallThere K V) → call_of (name i) v ≡ Some c → c.table ≡ None))

module _ (K V : Type 0) (same : K → K → Bool) (hash : ℕ → K → ℕ) where
  -- So it is where a call begins by a name that no call under way has: what is held has such a scene before it and after it, and the moment shows both,
  abbrev pub CallsBeginTables : Type 0
  CallsBeginTables =
      (name : ℕ → List ℕ) (m : Moment K V) (known : Known) (s : Scene K V) (old new : Held K V) → IsAt same hash old s → RefinesWhole same name m known s → RefinesOwnTables name m known s
      → (map i : ℕ) (u : UnderWay K V K) (call : Call K V) (guard : List ℕ) → NoneNamed name (name i) s → IsAt same hash new (scene_with map i u s)
      → Refines same name (with_call (name i) guard call (Some map) m) known (scene_with map i u s) → RefinesOwnTables name (with_call (name i) guard call (Some map) m) known (scene_with map i u s)

  -- where one that asks goes on by what it is told,
  abbrev pub CallsTakeTables : Type 0
  CallsTakeTables =
      (name : ℕ → List ℕ) (m : Moment K V) (known : Known) (s : Scene K V) (old new : Held K V) → IsAt same hash old s → RefinesWhole same name m known s → RefinesOwnTables name m known s
      → (map i : ℕ) (u : UnderWay K V K) → s.calls map i ≡ Some u → (reply : MachineReply V) (next : UnderWay K V K) → machine_of next ≡ (machine_replied (machine_of u) reply).0
      → (is_told : Reply V) → IsAt same hash new (scene_with map i next s) → Refines same name (told (name i) is_told m) known (scene_with map i next s)
      → RefinesOwnTables name (told (name i) is_told m) known (scene_with map i next s)

-- and where one comes to an outcome.
abbrev pub CallsComeToTables : Type 0 → Type 0 → Type 0
CallsComeToTables K V =
    (same : K → K → Bool) (name : ℕ → List ℕ) (m : Moment K V) (known : Known) (s : Scene K V) → RefinesWhole same name m known s → RefinesOwnTables name m known s
    → (own : List ℕ) (outcome : Outcome V) (steps : ℕ) → (ends_call outcome ≡ true → NoneNamed name own s) → RefinesOwnTables name (come_to own outcome steps m) known s

-- So each block that is noted as a table of somebody's own is in the hands of the one who makes it.
abbrev pub TablesAreMade : (K V : Type 0) (same : K → K → Bool) (hash : ℕ → K → ℕ) → Type 0
TablesAreMade K V same hash =
    (name : ℕ → List ℕ) (m : Moment K V) (known : Known) (s : Scene K V) (e : Held K V) → IsAt same hash e s → Refines same name m known s → RefinesOwnTables name m known s
    → (b turn : ℕ) (shape : TableShape) → known.roles b ≡ role.OwnTable turn shape → (j : ℕ) × (s.world.hand b ≡ IsMaking j)
