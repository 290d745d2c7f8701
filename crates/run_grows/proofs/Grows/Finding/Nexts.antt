-- Whatever happens, where a copier makes a table its map has a second table, or had one at a moment since the call began.
use Rattle.std.specs.Prelude.{◌≡◌, ◌<◌, ◌≤◌, ◌==◌, ℕ, Bool, true, List, find, Option, Some}
use Rattle.std.proofs.Common.{ap, sym, subst, inl, inr}
use Rattle.run_finds.specs.Given.SeizeWordsMem.{Mem, word_at}
use Rattle.run_finds.specs.Given.SeizeWordsPlan.{Do, Now, Plan, Seeing, Sure, Then, Turn}
use Rattle.papaya_raw.specs.Given.TablesTablePlaces.{at_word}
use Rattle.papaya_raw.specs.Given.TablesDeclared.node.Node.{Node}
use Rattle.papaya_raw.specs.Given.TablesDeclared.table_words.TheConstants.{NEXT}
use Rattle.run_finds.specs.Given.ResizeNewTable.{new_table_plan}
use Rattle.run_finds.specs.Given.ResizeDeclared.copier.Copier.{Copier}
use Rattle.run_finds.specs.Given.ResizeDeclared.new_table.NewTable.{NewTable}
use Rattle.papaya_raw.specs.Machine.{machine_asked, machine_plan, machine_replied}
use Rattle.papaya_raw.specs.declared.machines.asking.MachineReply.{MachineReply}
use Rattle.papaya_raw.specs.declared.machines.machine.Machine.{Machine}
use Rattle.papaya_raw.specs.declared.machines.progress.Progress.{Progress}
use Rattle.run_schedules.specs.declared.call.Call.{Call}
use Rattle.run_schedules.specs.declared.call.Reply.{Reply}
use Rattle.run_schedules.specs.declared.effect.Effect.{Effect}
use Rattle.run_schedules.specs.declared.outcome.Outcome.{Outcome}
use Rattle.run_schedules.specs.Schedules.Beginning.{with_call}
use Rattle.run_schedules.specs.Schedules.Effects.{with_effects}
use Rattle.run_schedules.specs.Schedules.Entry.{ends_call}
use Rattle.run_schedules.specs.Schedules.Growing.{HasNext}
use Rattle.run_schedules.specs.Schedules.Moment.{MapThere, Moment, TableThere, UnderWay as CallThere}
use Rattle.run_schedules.specs.Schedules.Views.{call_of, first_of, first_or, map_at}
use Rattle.run_finds.specs.Given.EffectsDeclared.changed.Changed.{Changed}
use Rattle.run_finds.specs.Given.EffectsDeclared.changed.Changed.TheVariants as changed
use Rattle.run_finds.proofs.Given.RuleKeys.Always.{Always, AlwaysOf, always_steps}
use Rattle.run_finds.specs.Given.CallersTogether.{UnderWay}
use Rattle.run_finds.specs.Given.EffectsEffects.{effects_of}
use Rattle.run_finds.specs.Given.EffectsKnown.{Known}
use Rattle.run_finds.specs.Given.EffectsDeclared.acting.Acting.TheVariants as acts
use Rattle.run_finds.specs.Given.FinishesMachines.{machine_of}
use Rattle.run_finds.specs.Given.FinishesMaps.{Standing, with_call as with_in}
use Rattle.run_finds.specs.Given.FollowsCalling.{NoneNamed, come_to, told}
use Rattle.run_finds.specs.Given.FollowsCalls.{RefinesCalls as IsThere}
use Rattle.run_finds.proofs.Given.FollowsSteps.{WentTo, went_to}
use Rattle.run_finds.specs.Given.OthersWalks.{given_up}
use Rattle.run_finds.specs.Given.MomentsWhole.{RefinesWhole}
use Rattle.run_grows.proofs.Grows.CopiersNext.{second_there}
use Rattle.run_grows.specs.Grows.Further.{MachineMakes}
use Rattle.run_grows.specs.Grows.Nexts.{MayFollow, OthersHadNext, RefinesNexts}
use Rattle.run_grows.proofs.Grows.Finding.Making.Ahead.{IsFollowed, begins_ahead}
use Rattle.run_grows.proofs.Grows.Finding.Making.Between.{none_made}
use Rattle.run_grows.proofs.Grows.Finding.Making.Machines.{Ends, asked_makes, machine_makes, reply_makes}
use Rattle.run_grows.proofs.Grows.Finding.Making.OffRoot.{HasCopier, NoTable, machine_none, machine_off}
use Rattle.run_grows.proofs.Grows.Finding.Making.Such.{machine_more}
use Rattle.run_grows.proofs.Grows.Finding.Making.Unpromoted.{OffRoot, effects_keep_next, many_from, off_promotes_none}
use Rattle.run_grows.proofs.Grows.Since as since
use Rattle.run_finds.proofs.Given.ScenesTold.{as_step}
use Rattle.run_finds.specs.Given.ScenesBeginning.{Begins}
use Rattle.run_finds.specs.Given.ScenesHeld.{Held, IsAt}
use Rattle.run_finds.specs.Given.ScenesReplying.{scene_with, unless_stopped}
use Rattle.run_finds.specs.Given.ScenesScene.{Scene}
use Rattle.run_finds.specs.Given.ScenesStepping.{StepLeads, scene_after}
use Rattle.run_schedules.specs.Schedules.Transition.{Past, further}
use Rattle.run_finds.specs.Given.ChangesHistories.{IsPast}

-- A map has a second table where it is there with the same root, and the same tables.

pub next_where : {K V : Type 0} (m v : Moment K V) → v.tables ≡ m.tables → (n : ℕ) → map_at n v ≡ map_at n m → HasNext n m → HasNext n v
next_where m v tables n there next =
    subst (λ (o : Option MapThere). 1 < many_from (first_or o) n v.tables) (sym there) (subst (λ (ts : List TableThere). 1 < many_from (first_of n m) n ts) (sym tables) next)

pub next_same : {K V : Type 0} (m v : Moment K V) → v.maps ≡ m.maps → v.tables ≡ m.tables → (n : ℕ) → HasNext n m → HasNext n v
next_same m v maps tables n next = next_where m v tables n (ap (λ (fs : List MapThere). find (λ f. f.number == n) fs) maps) next

-- What is so of each machine: where its copier makes a table, whatever follows from its map.
module _ (K V : Type 0) where
  abbrev Of : (Unit {0} → Type 0) → Machine K V K → Type 0
  Of Why machine = MachineMakes (λ (k : NewTable). Why tt) machine

  more : (A B : Unit {0} → Type 0) → ((x : Unit {0}) → A x → B x) → (machine : Machine K V K) → Of A machine → Of B machine
  more A B leads machine makes = machine_more (λ (k : NewTable). A tt) (λ (k : NewTable). B tt) (λ k so. leads tt so) machine makes

  replies : (A : Unit {0} → Type 0) (machine : Machine K V K) (reply : MachineReply V) → Of A machine → Of A (machine_replied machine reply).0
  replies A machine reply makes = reply_makes (λ (k : NewTable). A tt) K V K machine reply makes

  asked : (A : Unit {0} → Type 0) (machine : Machine K V K) → Of A machine → Of A (machine_asked machine).0
  asked A machine makes = asked_makes (λ (k : NewTable). A tt) K V K machine makes

  abbrev So : ℕ → Unit {0} → Moment K V → Type 0
  So map x m = HasNext map m

  so_where : (m v : Moment K V) → Unit {0} → v.tables ≡ m.tables → (n : ℕ) → map_at n v ≡ map_at n m → (x : Unit {0}) → So n x m → So n x v
  so_where m v pairs tables n there x next = next_where m v tables n there next

  abbrev AnyPairs : Moment K V → Moment K V → Type 0
  AnyPairs m v = Unit {0}

-- where calls are as they were, or are under way no more
pub nexts_alike : {K V : Type 0} (name : ℕ → List ℕ) (log : Past K V) (m v : Moment K V) (s t : Scene K V) → RefinesNexts name log m s → v.calls ≡ m.calls → ((n : ℕ) → HasNext n m → HasNext n v)
    → ((n j : ℕ) (x : UnderWay K V K) → t.calls n j ≡ Some x → s.calls n j ≡ Some x) → RefinesNexts name log v t
nexts_alike {K} {V} name log m v s t nexts calls keeps was = since.so_alike (Of K V) (more K V) (replies K V) (asked K V) (So K V) (AnyPairs K V) (λ m v pairs. tt) (so_where K V) name log m v s t nexts calls (λ n j x is y has. keeps n has) was

-- at a moment with other maps, where those that stand are found as they were
pub nexts_where : {K V : Type 0} (same : K → K → Bool) (hash : ℕ → K → ℕ) (name : ℕ → List ℕ) (log : Past K V) (m v : Moment K V) (s : Scene K V) (e : Held K V) → IsAt same hash e s → RefinesNexts name log m s
    → ((n : ℕ) (st : Standing K) → s.maps n ≡ Some st → map_at n v ≡ map_at n m) → v.tables ≡ m.tables → v.calls ≡ m.calls → RefinesNexts name log v s
nexts_where {K} {V} same hash name log m v s e at nexts still tables calls =
    since.so_where_found (Of K V) (more K V) (replies K V) (asked K V) (So K V) (AnyPairs K V) (λ m v pairs. tt) (so_where K V) same hash name log m v s e at nexts still tt tables calls

-- with a further event of the log
pub nexts_grow : {K V : Type 0} (name : ℕ → List ℕ) (log : Past K V) (next : Moment K V) (m : Moment K V) (s : Scene K V)
    → ((map i : ℕ) (u : UnderWay K V K) → s.calls map i ≡ Some u → (c : CallThere K V) → call_of (name i) m ≡ Some c → c.begun ≤ log.entries) → RefinesNexts name log m s → RefinesNexts name (further next log) m s
nexts_grow {K} {V} name log next m s begun nexts = since.so_grow (Of K V) (more K V) (replies K V) (asked K V) (So K V) (AnyPairs K V) (λ m v pairs. tt) (so_where K V) name log next m s begun nexts

-- Where a call begins, is told, is asked for its next pair, or is given up.

module _ {K V : Type 0} (same : K → K → Bool) (name : ℕ → List ℕ) (log : Past K V) (m : Moment K V) (s : Scene K V) (nexts : RefinesNexts name log m s) (map i : ℕ) (u : UnderWay K V K) where
  pub calls_begin_nexts : (guard : List ℕ) (its : Call K V) (standing : Standing K) → Begins same standing i u → NoneNamed name (name i) s
      → RefinesNexts name log (with_call (name i) guard its (Some map) m) (scene_with map i u s)
  calls_begin_nexts guard its standing begins apart =
      since.calls_begin_so (Of K V) (more K V) (replies K V) (asked K V) (So K V) (AnyPairs K V) (λ m v pairs. tt) (so_where K V) same name log m s nexts map i u guard its (λ Why. none_made (λ (k : NewTable). Why tt) same standing i u begins) apart

  module _ (here : s.calls map i ≡ Some u) (shown : IsThere same name m s.calls) (next : UnderWay K V K) where
    pub calls_take_nexts : (reply : Reply V) (machine_reply : MachineReply V) → machine_of next ≡ (machine_replied (machine_of u) machine_reply).0 → RefinesNexts name log (told (name i) reply m) (scene_with map i next s)
    calls_take_nexts reply machine_reply next_is = since.calls_take_so (Of K V) (more K V) (replies K V) (asked K V) (So K V) (AnyPairs K V) (λ m v pairs. tt) (so_where K V) same name log m s nexts map i u here shown next reply machine_reply next_is

    pub walks_go_on_nexts : machine_of next ≡ (machine_asked (machine_of u)).0 → RefinesNexts name log m (scene_with map i next s)
    walks_go_on_nexts next_is = since.walks_go_on_so (Of K V) (more K V) (replies K V) (asked K V) (So K V) (AnyPairs K V) (λ m v pairs. tt) (so_where K V) same name log m s nexts map i u here shown next next_is

    abbrev at_end : Bool → Scene K V
    at_end q = record s { calls = with_in s.calls map i (unless_stopped q u) }

    pub walks_stop_nexts : (q : Bool) → (q ≡ true → NoneNamed name (name i) (at_end q)) → RefinesNexts name log (given_up (name i) q m) (at_end q)
    walks_stop_nexts q none = since.walks_stop_so (Of K V) (more K V) (replies K V) (asked K V) (So K V) (AnyPairs K V) (λ m v pairs. tt) (so_where K V) same name log m s nexts map i u here shown next q none

-- Where a call comes to an outcome.
pub calls_come_to_nexts : {K V : Type 0} (same : K → K → Bool) (name : ℕ → List ℕ) (log : Past K V) (m : Moment K V) (s : Scene K V) → RefinesNexts name log m s → IsThere same name m s.calls → (own : List ℕ) (o : Outcome V) (steps : ℕ)
    → (ends_call o ≡ true → NoneNamed name own s) → RefinesNexts name log (come_to own o steps m) s
calls_come_to_nexts {K} {V} same name log m s nexts shown own o steps ended =
    since.calls_come_to_so (Of K V) (more K V) (replies K V) (asked K V) (So K V) (AnyPairs K V) (λ m v pairs. tt) (so_where K V) same name log m s nexts shown own o steps ended

-- A step of a call.

-- what is so is so of each outcome
module _ {T A : Type 0} (P : Type 0) (so : P) where
  so_of_rest : (rest : Then T A) → Always (λ (a : A). P) rest
  so_of_rest (Now end) = so
  so_of_rest (Seeing block rest) = λ value. so_of_rest (rest value)
  so_of_rest (Sure fact rest) = so_of_rest rest

  so_of_each : (plan : Plan T A) → AlwaysOf (λ (a : A). P) plan
  so_of_each (Turn rest) = so_of_rest rest
  so_of_each (Do op rest) = λ out. so_of_rest (rest out)

module _ {K V : Type 0} (same : K → K → Bool) (hash : ℕ → K → ℕ) (name : ℕ → List ℕ) (log : Past K V) (m : Moment K V) (known : Known) (s : Scene K V) (old new : Held K V) (at : IsAt same hash old s)
    (whole : RefinesWhole same name m known s) (map i : ℕ) (u : UnderWay K V K) (here : s.calls map i ≡ Some u) (said : Progress (Node K V)) (leads : StepLeads same hash i said s old new)
    (others : OthersHadNext name log i m s) where
  abbrev to : WentTo same hash name m known s old new at whole.all.shown map i u here said leads
  to = went_to same hash name m known s old new at whole.all.shown map i u here said leads

  abbrev st : Standing K
  st = to.0

  abbrev step_told : Changed
  step_told = new.changed

  abbrev effects : List Effect
  effects = effects_of (acts.Call i map) known step_told

  abbrev v : Moment K V
  v = with_effects (Some (name i)) (Some map) effects m

  abbrev led : Scene K V
  led = scene_after same s old new map i st u to.1 said to.4

  pub others_go_on : OthersHadNext name log i v led
  others_go_on = since.others_go_on (Of K V) (more K V) (replies K V) (asked K V) (So K V) (AnyPairs K V) (λ m v pairs. tt) (so_where K V) same hash name log m known s old new at whole map i u here said leads others

  module _ (nexts : RefinesNexts name log m s) (c : CallThere K V) (c_is : call_of (name i) m ≡ Some c) where
    abbrev Before : NewTable → Type 0
    Before n = MayFollow map c.begun log m

    abbrev After : NewTable → Type 0
    After n = MayFollow map c.begun log v

    -- its map has a second table still where it makes one
    came_off : MachineMakes Before to.1 → MachineMakes After to.1
    came_off makes = elim (machine_off old.memory new.memory step_told same same to.0.hash (machine_of u) to.1 said to.3) as (λ _. MachineMakes After to.1) [
      | inl none ↦ machine_more NoTable After (λ n nothing. absurd nothing) to.1 none
      | inr off ↦ machine_more Before After (λ n so. follow off so) to.1 makes
    ]
      where
        follow : OffRoot step_told → MayFollow map c.begun log m → MayFollow map c.begun log v
        follow off (inl had) = inl had
        follow off (inr now) = inr (effects_keep_next (Some (name i)) (Some map) effects m map (off_promotes_none i map known step_told off) now)

    none_by : (x : Copier) → HasCopier (machine_of u) x → IsFollowed s.world x → MachineMakes NoTable to.1
    none_by x its is =
        machine_none old.memory new.memory step_told same same to.0.hash x is.0 (λ read. is.1 (subst (λ (q : Mem (Node K V)). word_at q (at_word x.target NEXT) ≡ Some 0) (sym at.memory) read)) (machine_of u) to.1 said its
        to.3

    own_makes : MachineMakes After to.1
    own_makes =
        elim (begins_ahead Before same hash s old at map i st to.2 (λ ahead given table. inr (second_there map (whole.all.shown.number map) st m known (whole.all.shown.maps map st to.2) ahead)) u here) as (λ _. MachineMakes After to.1) [
          | inl begins ↦
              came_off (always_steps (Ends Before K V K) old.memory new.memory (machine_plan same same to.0.hash (machine_of u)) (to.1, said)
              (machine_makes Before K V K (λ n so. so_of_each (MayFollow map c.begun log m) so (new_table_plan {K = K} {V = V} n)) same same to.0.hash (machine_of u) (nexts map i u here c c_is) begins)
              (as_step old.memory changed.Nothing (machine_plan same same to.0.hash (machine_of u)) new.memory step_told (to.1, said) to.3))
          | inr followed ↦ machine_more NoTable After (λ n nothing. absurd nothing) to.1 (none_by followed.0 followed.1 followed.2)
        ]

    pub nexts_go_on : RefinesNexts name log v led
    nexts_go_on =
        since.so_go_on (Of K V) (more K V) (replies K V) (asked K V) (So K V) (AnyPairs K V) (λ m v pairs. tt) (so_where K V) same hash name log m known s old new at whole map i u here said leads others c c_is (λ x is. own_makes)

-- Where an event of a call begins, others are as the log says.
pub others_at_first : {K V : Type 0} (name : ℕ → List ℕ) (log : Past K V) (is_past : IsPast log) (i : ℕ) (m : Moment K V) (s : Scene K V) → m.maps ≡ log.now.maps → m.tables ≡ log.now.tables
    → ((map j : ℕ) (u : UnderWay K V K) → s.calls map j ≡ Some u → (c : CallThere K V) → call_of (name j) m ≡ Some c → c.begun ≤ log.entries) → RefinesNexts name log m s → OthersHadNext name log i m s
others_at_first {K} {V} name log is_past i m s maps tables begun nexts =
    since.others_at_first (Of K V) (more K V) (replies K V) (asked K V) (So K V) (AnyPairs K V) (λ m v pairs. tt) (so_where K V) name log is_past i m s tt maps tables begun nexts
