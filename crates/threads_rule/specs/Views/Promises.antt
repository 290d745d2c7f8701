-- What is promised of the rule of maps.
use Rattle.std.specs.Prelude.{◌≡◌, ◌⊎◌, ℕ, Bool, Some, ◌+◌, ◌<◌, ◌≤◌, ◌^◌, max, None}
use Rattle.seize_words.specs.OneMemory.Op.{Op}
use Rattle.seize_words.specs.OneMemory.Plan.{Then, Turn}
use Rattle.std.specs.Int.{IsPowerOfTwo}
use Rattle.map_tables.specs.Lengths.{IsTableLen}
use Rattle.map_tables.specs.declared.node.Node.{Node}
use Rattle.map_tables.specs.declared.setting.Setting.{Setting}
use Rattle.map_machines.specs.NewMap.{new_map_plan, opening}
use Rattle.map_machines.specs.declared.new_map.NewMap.{NewMap}
use Rattle.papaya_raw.specs.EndMap.{end_map_plan}
use Rattle.papaya_raw.specs.Machine.{machine_plan}
use Rattle.papaya_raw.specs.declared.machines.asking.MachineReply.{MachineReply}
use Rattle.papaya_raw.specs.declared.machines.machine.Machine.{Machine}
use Rattle.papaya_raw.specs.declared.machines.progress.Progress.{Progress}
use Rattle.many_acts.specs.Given.PointsSteps.{AreLawful}
use Rattle.many_acts.specs.Acts.Acts.{Wanted}
use Rattle.seize_seats.specs.Seats.Lendings.{VisibleTo, IsValueOf}
use Rattle.seize_seats.specs.Seats.Errands.{TurnsUnlent}
use Rattle.seize_seats.specs.Seats.State.{Starts, Comes, Allows, Turns, Learns, Meets, KeptByTwo, AreThere}
use Rattle.seize.specs.declared.rows.settle.Settle.{Settle}
use Rattle.map_tables.specs.Nodes.{deferred_word}
use Rattle.seize_views.specs.Views.Promises.{op_in, op_of, IsNext, IsToSettle}
use Rattle.seize_views.specs.declared.view.Becomes.{Becomes}
use Rattle.seize_views.specs.declared.view.Began.{Began}
use Rattle.seize_views.specs.declared.view.Fixed.{Fixed}
use Rattle.seize_views.specs.declared.view.Has.TheVariants.{Nothing as NoBlock}
use Rattle.seize_views.specs.declared.view.SlotView.{SlotView}
use Rattle.seize_views.specs.declared.view.SlotView.TheVariants.{Rests, Inside, Settles}
use Rattle.seize_views.specs.declared.view.Why.{Why}
use Rattle.seize_views.specs.declared.view.Why.TheVariants.{Retiring}
use Rattle.threads_rule.specs.Views.Begun.{machine_for, asked, calling, replied, shown_map, lent_map, returned_map, leaning, making, ending_own, with_slot}
use Rattle.threads_rule.specs.Views.Looks.{shown_in}
use Rattle.threads_rule.specs.Views.Rule.{Holds, KeepsFor, Leans, LooksAside, section_of, at_rest}
use Rattle.threads_rule.specs.Views.Told.{told, turned}
use Rattle.threads_rule.specs.declared.view.EndOfMap.{EndOfMap}
use Rattle.threads_rule.specs.declared.view.Map.{Map}
use Rattle.threads_rule.specs.declared.view.View.{View}
use Rattle.threads_rule.specs.declared.view.SeatWork.TheVariants.{Nothing, Calls, Makes, Ends}

module _ {K S : Type 0} (V : Type 0) (same : K → K → Bool) (hash : S → K → ℕ) where
  -- The promise: the rule may start, whatever is chosen, where each hasher is lawful.
  abbrev pub RulesStart : Type 0
  RulesStart = ((hasher : S) → AreLawful same (hash hasher)) → (fixed : Fixed) → Starts (Holds {V = V} same hash fixed) fixed.roots

  -- and seats may come
  abbrev pub SeatsCome : Type 0
  SeatsCome = (fixed : Fixed) → Comes (Holds {V = V} same hash fixed) KeepsFor at_rest

  -- the next operation of a call that is under way may be made at any moment
  abbrev pub CallsContinue : Type 0
  CallsContinue =
      (fixed : Fixed) (id : ℕ) (v : View K V S) (map : Map S) (machine : Machine K V K) (op : Op (Node K V))
      → v.map ≡ Some map → v.work ≡ Calls machine → op_in (machine_plan same same (hash map.hasher) machine) ≡ Some op
      → Allows (Holds same hash fixed) KeepsFor id v op (told same hash v op)

  -- and so may a step of it that makes none
  abbrev pub CallsTurn : Type 0
  CallsTurn =
      (fixed : Fixed) (id : ℕ) (v : View K V S) (map : Map S) (machine : Machine K V K) (rest : Then (Node K V) (Machine K V K × Progress (Node K V)))
      → v.map ≡ Some map → v.work ≡ Calls machine → machine_plan same same (hash map.hasher) machine ≡ Turn rest
      → Turns (Holds same hash fixed) KeepsFor id v (turned same hash v)

  -- what is known to be held for a seat is there, with its value
  abbrev pub HeldAreShown : Type 0
  HeldAreShown =
      (fixed : Fixed) (id b : ℕ) (v : View K V S) (x : Node K V) → shown_in v.held b ≡ Some x
      → VisibleTo (Holds same hash fixed) id v b × ((y : Node K V) → IsValueOf (Holds same hash fixed) id v b y → y ≡ x)

  -- Within its section a seat that knows a map, and has nothing under way, may begin to do anything with it; and so may one within the section of a seat that it
  -- leans on, but that it only looks keys up where the map is in blocking mode.
  abbrev pub CallsBegin : Type 0
  CallsBegin =
      (fixed : Fixed) (id t : ℕ) (v : View K V S) (map : Map S) (wanted : Wanted K V) → section_of v.under v.slot ≡ Some t → v.map ≡ Some map → v.work ≡ Nothing
      → LooksAside v.under (Some map) (Calls (machine_for same hash map t wanted)) → Turns (Holds same hash fixed) KeepsFor id v (λ w. w ≡ calling v map (machine_for same hash map t wanted))

  -- what it has under way may be told anything
  abbrev pub CallsAreReplied : Type 0
  CallsAreReplied =
      (fixed : Fixed) (id : ℕ) (v : View K V S) (map : Map S) (machine : Machine K V K) (reply : MachineReply V) → v.map ≡ Some map → v.work ≡ Calls machine
      → Turns (Holds same hash fixed) KeepsFor id v (λ w. w ≡ replied v machine reply)

  -- or asked for its next pair
  abbrev pub CallsAreAsked : Type 0
  CallsAreAsked =
      (fixed : Fixed) (id : ℕ) (v : View K V S) (map : Map S) (machine : Machine K V K) → v.map ≡ Some map → v.work ≡ Calls machine
      → Turns (Holds same hash fixed) KeepsFor id v (λ w. w ≡ asked v machine)

  -- and a map that one seat knows, and that is nobody's own, may be handed on to another one that has nothing under way
  abbrev pub MapsAreHandedOn : Type 0
  MapsAreHandedOn =
      (fixed : Fixed) (i j : ℕ) (v u : View K V S) (map : Map S) → v.map ≡ Some map → v.by ≡ None → u.work ≡ Nothing
      → Meets (Holds same hash fixed) i v j u (λ p q. (p ≡ v) × (q ≡ shown_map u map))

  -- A seat that has nothing under way may come to lean on one that owns a map, and knows that map then; and back.
  abbrev pub LoansBegin : Type 0
  LoansBegin =
      (fixed : Fixed) (i j : ℕ) (v u : View K V S) (map : Map S) → v.work ≡ Nothing → u.own ≡ Some map → Learns (Holds same hash fixed) KeepsFor i v j u (λ w. w ≡ lent_map v j map)

  abbrev pub LoansEnd : Type 0
  LoansEnd = (fixed : Fixed) (id : ℕ) (v : View K V S) → v.work ≡ Nothing → Turns (Holds same hash fixed) KeepsFor id v (λ w. w ≡ returned_map v)

  -- A block that is known to be held for a seat that leans on another one, and has nothing under way, that one keeps, as long as the map is known or owned that the one knows;
  abbrev pub HeldAreKept : Type 0
  HeldAreKept =
      (fixed : Fixed) (i n t k b : ℕ) (v u o : View K V S) (x : Node K V) → v.under ≡ Some (n, t) → v.work ≡ Nothing → (o.map ≡ v.map) ⊎ (o.own ≡ v.map) → shown_in v.held b ≡ Some x
      → KeptByTwo (Holds same hash fixed) KeepsFor i v n u k o b

  -- and what seats keep is there.
  abbrev pub KeptAreThere : Type 0
  KeptAreThere = (fixed : Fixed) → AreThere (Holds {V = V} same hash fixed) KeepsFor

  -- A seat that has nothing under way, and holds no slot, may come to lean on one within its section,
  abbrev pub LeaningsBegin : Type 0
  LeaningsBegin =
      (fixed : Fixed) (i j t : ℕ) (v u : View K V S) → v.slot ≡ Rests → v.under ≡ None → v.work ≡ Nothing → u.slot ≡ Inside t NoBlock
      → Learns (Holds same hash fixed) KeepsFor i v j u (λ w. w ≡ leaning v (Some (j, t)))

  -- and back.
  abbrev pub LeaningsEnd : Type 0
  LeaningsEnd = (fixed : Fixed) (id : ℕ) (v : View K V S) → v.slot ≡ Rests → v.work ≡ Nothing → Turns (Holds same hash fixed) KeepsFor id v (λ w. w ≡ leaning v None)

  -- A seat that holds no slot, and has nothing under way, may begin to make a map, for itself or for good, with lengths that tables may have,
  abbrev pub MakingsBegin : Type 0
  MakingsBegin =
      (fixed : Fixed) (id : ℕ) (v : View K V S) (own : Bool) (hasher : S) (given : Setting) (places : ℕ) → v.slot ≡ Rests → v.work ≡ Nothing
      → given.batch_size ≡ fixed.batch_size → given.mask + 1 < 2 ^ 64 → 0 < fixed.roots → IsPowerOfTwo given.initial → (max places 8 ≤ 2 ^ 48 → IsTableLen (max places 8))
      → Turns (Holds same hash fixed) KeepsFor id v (λ w. (m : ℕ) × (w ≡ making v own m hasher (opening given fixed.roots places)))

  -- and the next operation of a making may be made at any moment
  abbrev pub MakingsContinue : Type 0
  MakingsContinue =
      (fixed : Fixed) (id m : ℕ) (v : View K V S) (own : Bool) (hasher : S) (machine : NewMap) (op : Op (Node K V))
      → v.work ≡ Makes own m hasher machine → op_in (new_map_plan machine) ≡ Some op → Allows (Holds same hash fixed) KeepsFor id v op (told same hash v op)

  -- The one that owns a map, and on which nobody leans, may begin to end it, where it holds no slot and has nothing under way: from then on it doesn't stand.
  abbrev pub EndingsBegin : Type 0
  EndingsBegin =
      (fixed : Fixed) (id : ℕ) (v : View K V S) (map : Map S) → v.slot ≡ Rests → v.work ≡ Nothing → v.own ≡ Some map
      → TurnsUnlent (Holds same hash fixed) KeepsFor Leans id v (λ w. (left : ℕ) × (w ≡ ending_own v map left))

  -- And the next operation of an end may be made at any moment.
  abbrev pub EndingsContinue : Type 0
  EndingsContinue =
      (fixed : Fixed) (id : ℕ) (v : View K V S) (end : EndOfMap) (op : Op (Node K V))
      → v.work ≡ Ends end → op_in (end_map_plan end.machine) ≡ Some op → Allows (Holds same hash fixed) KeepsFor id v op (told same hash v op)

  -- What the last step of one has looked at is there until its next one, with its value.
  abbrev pub EndingsAreShown : Type 0
  EndingsAreShown =
      (fixed : Fixed) (id b : ℕ) (v : View K V S) (end : EndOfMap) (x : Node K V) → v.work ≡ Ends end → shown_in v.looks b ≡ Some x
      → VisibleTo (Holds same hash fixed) id v b × ((y : Node K V) → IsValueOf (Holds same hash fixed) id v b y → y ≡ x)

  -- The next operation of a row that a seat has under way may be made at any moment,
  abbrev pub RowsContinue : Type 0
  RowsContinue =
      (fixed : Fixed) (id : ℕ) (v : View K V S) (op : Op (Node K V)) → v.under ≡ None → v.work ≡ Nothing → op_of deferred_word v.slot ≡ Some op
      → Allows (Holds same hash fixed) KeepsFor id v op (told same hash v op)

  -- and where it has nothing else under way, and nobody leans on it, rows begin and end, and it notes what it has begun.
  abbrev pub RowsTurn : Type 0
  RowsTurn =
      (fixed : Fixed) (id : ℕ) (v : View K V S) (u : SlotView (Node K V)) (began : Began) → v.under ≡ None → v.work ≡ Nothing → IsNext fixed v.slot u
      → TurnsUnlent (Holds same hash fixed) KeepsFor Leans id v (λ w. w ≡ with_slot v u began)

  -- A batch may be tried, with as many steps left as that takes at most,
  abbrev pub SettlingsBegin : Type 0
  SettlingsBegin =
      (fixed : Fixed) (id : ℕ) (v : View K V S) (way : Becomes) (c : Settle) (began : Began) → v.under ≡ None → v.work ≡ Nothing → IsToSettle fixed v.slot way c
      → TurnsUnlent (Holds same hash fixed) KeepsFor Leans id v (λ w. (left : ℕ) × (w ≡ with_slot v (Settles c (Retiring way) None left) began))

  -- and the block that a settling is to look at is there, with the value that was told.
  abbrev pub LookedAreShown : Type 0
  LookedAreShown =
      (fixed : Fixed) (id : ℕ) (v : View K V S) (c : Settle) (why : Why) (b left : ℕ) (x : Node K V) → v.slot ≡ Settles c why (Some (b, x)) left
      → VisibleTo (Holds same hash fixed) id v b × ((y : Node K V) → IsValueOf (Holds same hash fixed) id v b y → y ≡ x)
