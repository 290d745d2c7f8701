-- What a seat knows while a call is under way, step by step, and once it has ended.
use Rattle.std.specs.Prelude.{◌≡◌, ◌<◌, ◌^◌, ℕ, Bool, true, false, Option, Some, None, IsSome, Result, Ok, Err}
use Rattle.seize_words.specs.declared.fault.Fault.{Fault}
use Rattle.map_tables.specs.declared.node.Node.{Node}
use Rattle.map_tables.specs.declared.node.Node.TheVariants.{Pair}
use Rattle.papaya_raw.specs.declared.machines.answer.There.{There}
use Rattle.papaya_raw.specs.declared.machines.answer.There.TheVariants as there
use Rattle.papaya_raw.specs.declared.machines.answer.Missing.{Missing}
use Rattle.papaya_raw.specs.declared.machines.answer.Missing.TheVariants as missing
use Rattle.papaya_raw.specs.declared.machines.answer.KeyAnswer.TheVariants as answers
use Rattle.papaya_raw.specs.declared.machines.call.Calling.TheVariants as at
use Rattle.papaya_raw.specs.declared.machines.call.KeyCall.{KeyCall}
use Rattle.papaya_raw.specs.Replies.{silent}
use Rattle.papaya_raw.specs.declared.machines.asking.Takes.{Takes}
use Rattle.papaya_raw.specs.declared.machines.asking.Takes.TheVariants as takes
use Rattle.papaya_raw.specs.declared.machines.machine.Machine.{Machine}
use Rattle.papaya_raw.specs.Machine.{machine_plan}
use Rattle.papaya_raw.specs.Given.ReservesDeclared.sweep.Purpose.TheVariants.{Clears}
use Rattle.papaya_raw.specs.declared.machines.machine.Machine.TheVariants.{Key}
use Rattle.papaya_raw.specs.declared.machines.machine.Machine.TheVariants as kinds
use Rattle.papaya_raw.specs.declared.machines.progress.Answer.{Answer}
use Rattle.papaya_raw.specs.declared.machines.progress.Answer.TheVariants.{Key as OfKey}
use Rattle.papaya_raw.specs.declared.machines.progress.Answer.TheVariants as said
use Rattle.papaya_raw.specs.declared.machines.progress.Progress.{Progress}
use Rattle.papaya_raw.specs.declared.machines.progress.Progress.TheVariants as progress
use Rattle.many_acts.specs.Acts.Acts.{Wanted, Get, Remove, Insert, TryToInsert, Compute, Update, TryToInsertWith, RemoveIf, MakeRoom, Count, GoOver}
use Rattle.threads_rule.specs.Views.Begun.{machine_for}
use Rattle.threads_rule.specs.Views.Looks.{shown_in}
use Rattle.threads_rule.specs.Views.Rule.{MayWant, section_of}
use Rattle.threads_rule.specs.Views.Told.{HandsBack, MayCome, call_after}
use Rattle.threads_rule.specs.declared.view.Map.{Map}
use Rattle.threads_rule.specs.declared.view.View.{View}
use Rattle.threads_rule.specs.declared.view.SeatWork.TheVariants.{Nothing, Calls}
use Rattle.threads_kinds.specs.CallKinds.Kinds.{Kind, Stage, AsksSo, Continues}
use Rattle.threads_kinds.specs.CallKinds.Leads.{Leads}
use Rattle.threads_kinds.specs.CallKinds.Shows.{AnsweredAreVisible, ToldAreVisible}
use Rattle.threads_kinds.specs.CallKinds.Sweeps.{IsFor}
use Rattle.threads_rule.specs.Errands.Looking.{HasRun, HasProgressed, StaysThere}

-- a call of this kind asks nothing where the key is there,
abbrev pub IsKnownThere : There → Type 0
IsKnownThere there.Asks = ⊥
IsKnownThere _ = Unit {0}

-- and where it is missing
abbrev pub IsKnownMissing : Missing → Type 0
IsKnownMissing missing.Asks = ⊥
IsKnownMissing _ = Unit {0}

pub record AsksNothing (k : Kind) : Type 0 where
  pub present : IsKnownThere k.present
  pub absent : IsKnownMissing k.absent

-- what a call is about: a key, room for further pairs, all pairs, or how many there are
pub data Sort : Type 0 where
  OnKey : Sort
  ForRoom : Sort
  OverAll : Sort
  OfCount : Sort

-- what may be answered to it
abbrev pub IsAnswerTo : Sort → Answer → Type 0
IsAnswerTo OnKey (OfKey answer) = Unit {0}
IsAnswerTo ForRoom said.Reserved = Unit {0}
IsAnswerTo OverAll said.Swept = Unit {0}
IsAnswerTo OfCount (said.Count n) = Unit {0}
IsAnswerTo sort answer = ⊥

module _ {K V Q : Type 0} where
  -- The next step of a call replaces no value, and looks at nothing where it makes no operation. That is so of all but of calls on one key, and of those of a kind that go on.
  abbrev pub IsSteady : Machine K V Q → Type 0
  IsSteady (Key c) = (k : Kind) × (s : Stage) × Continues k s c
  IsSteady machine = Unit {0}

  -- A call asks nothing, and is not to be asked: one on one key of a kind that asks nothing, a reservation, a removal of all pairs, or a counting.
  abbrev pub AsksNone : Machine K V Q → Type 0
  AsksNone (Key c) = (k : Kind) × (s : Stage) × AsksNothing k × Continues k s c
  AsksNone (kinds.Reserve c) = Unit {0}
  AsksNone (kinds.Sweep c) = IsFor Clears c
  AsksNone (kinds.Count c) = Unit {0}

  abbrev pub sort_of : Machine K V Q → Sort
  sort_of (Key c) = OnKey
  sort_of (kinds.Reserve c) = ForRoom
  sort_of (kinds.Sweep c) = OverAll
  sort_of (kinds.Count c) = OfCount

  -- it is an answer to such a call
  abbrev pub IsAnswerBy : Machine K V Q → Answer → Type 0
  IsAnswerBy machine answer = IsAnswerTo (sort_of machine) answer

  -- it is a call on one key of this kind that has come so far, and its next step goes on,
  abbrev pub MachineContinues : Kind → Stage → Machine K V Q → Type 0
  MachineContinues k s (Key c) = Continues k s c
  MachineContinues k s _ = ⊥

  -- or it asks, with a pair that is shown, or where the key is missing
  abbrev pub MachineAsks : Kind → Stage → (ℕ → Option (Node K V)) → Option ℕ → Machine K V Q → Type 0
  MachineAsks k s shown pair (Key c) = AsksSo k s shown pair c
  MachineAsks k s shown pair _ = ⊥

-- it puts its pair where the key is, or leaves the one that is there
abbrev pub PutsOrLeaves : There → Type 0
PutsOrLeaves there.Puts = Unit {0}
PutsOrLeaves there.Answers = Unit {0}
PutsOrLeaves _ = ⊥

-- a call that is to store this pair, and has taken no step yet
pub record IsToStore {K V Q : Type 0} (pair : Node K V) (c : KeyCall K V Q) : Type 0 where
  pub here : c.stands ≡ at.Makes
  pub unmade : c.unmade ≡ Some pair
  pub absent : c.missing ≡ missing.Puts
  pub present : PutsOrLeaves c.there
  pub none : c.own ≡ 0
  pub word : c.hash < 2 ^ 64
  pub untold : c.replies ≡ silent

abbrev pub MachineStores : {K V Q : Type 0} → Node K V → Machine K V Q → Type 0
MachineStores pair (Key c) = IsToStore pair c
MachineStores pair _ = ⊥

-- the pair that is to be stored, if one is
abbrev pub pair_wanted : {K V : Type 0} → Wanted K V → Option (Node K V)
pair_wanted (Insert key value) = Some (Pair key value)
pair_wanted (TryToInsert key value) = Some (Pair key value)
pair_wanted _ = None

-- an answer with which the call's own pair is in the map
abbrev pub is_put : Answer → Bool
is_put (OfKey (answers.Stored word)) = true
is_put (OfKey (answers.Replaced old new)) = true
is_put _ = false

-- the pair that an answer tells to be in the map: the one that was there, or the call's own
abbrev pub pair_there : Answer → Option ℕ
pair_there (OfKey (answers.Found word)) = Some word
pair_there (OfKey (answers.Stored word)) = Some word
pair_there (OfKey (answers.Replaced old new)) = Some new
pair_there _ = None

-- a call that was to store a pair tells which one is in the map, and with any other outcome than that its own is there, that has come back
abbrev pub IsBack : {T : Type 0} → T → Result Answer Fault → Option T → Type 0
IsBack pair (Ok answer) back = (is_put answer ≡ false → back ≡ Some pair) × IsSome (pair_there answer)
IsBack pair (Err fault) back = back ≡ Some pair

-- that is so of a pair that a call was to store
abbrev pub IsReturned : {K V : Type 0} → Wanted K V → Result Answer Fault → Option (Node K V) → Type 0
IsReturned {K} {V} wanted answer back = (pair : Node K V) → pair_wanted wanted ≡ Some pair → IsBack pair answer back

-- what a call that has ended has told
abbrev pub outcome_of : {T : Type 0} → Result Answer Fault → Progress T
outcome_of (Ok answer) = progress.Done answer
outcome_of (Err fault) = progress.Refused fault

-- what is wanted by who begins this call
abbrev pub wanted_by : {K V : Type 0} → There → Missing → Takes → Option (Node K V) → Option K → Option K → Wanted K V
wanted_by there.Puts absent kind (Some (Pair key value)) asked own = Insert key value
wanted_by there.Answers absent kind (Some (Pair key value)) asked own = TryToInsert key value
wanted_by there.Answers absent kind None (Some key) own = Get key
wanted_by there.Removes absent kind None (Some key) own = Remove key
wanted_by there.Asks absent kind None (Some key) own = RemoveIf key
wanted_by there.Answers absent kind None None (Some key) = TryToInsertWith key
wanted_by there.Asks missing.Answers kind None None (Some key) = Update key
wanted_by there.Asks missing.Asks takes.Changes None None (Some key) = Compute key
wanted_by present absent kind unmade asked own = Count

abbrev pub wanted_of : {K V : Type 0} → Machine K V K → Wanted K V
wanted_of (Key c) = wanted_by c.there c.missing c.replies.takes c.unmade c.asked c.replies.key
wanted_of (kinds.Reserve c) = MakeRoom c.additional
wanted_of (kinds.Sweep c) = GoOver c.purpose
wanted_of (kinds.Count c) = Count

-- a step tells that the call goes on,
abbrev pub IsGoing : {T : Type 0} → Progress T → Type 0
IsGoing (progress.Done answer) = ⊥
IsGoing (progress.Refused fault) = ⊥
IsGoing told = Unit {0}

-- and asks nothing,
abbrev pub IsNoQuestion : {T : Type 0} → Progress T → Type 0
IsNoQuestion (progress.Asks pair) = ⊥
IsNoQuestion progress.Ready = ⊥
IsNoQuestion (progress.Pair pair) = ⊥
IsNoQuestion told = Unit {0}

-- and what was handed back by then
abbrev pub handed_by : {T : Type 0} → Progress T → Option T → Option T
handed_by (progress.Unstored value) before = Some value
handed_by told before = before

module _ {K V S : Type 0} where
  -- this call is under way on the map that it knows, which has this hasher
  pub record Works (hasher : S) (machine : Machine K V K) (v : View K V S) : Type 0 where
    pub map : Map S
    pub knows : v.map ≡ Some map
    pub hashes : map.hasher ≡ hasher
    pub works : v.work ≡ Calls machine

  -- it is of this kind, has come so far, and goes on,
  pub record IsUnderWay (k : Kind) (s : Stage) (hasher : S) (machine : Machine K V K) (v : View K V S) : Type 0 where
    pub at : Works hasher machine v
    pub goes : MachineContinues k s machine

  -- or asks, and the pair that it asks with is shown
  pub record IsAsking (k : Kind) (s : Stage) (hasher : S) (pair : Option ℕ) (machine : Machine K V K) (v : View K V S) : Type 0 where
    pub at : Works hasher machine v
    pub asks : MachineAsks k s (shown_in v.held) pair machine

  -- it has nothing under way, its call has told this last, and each pair with which that has answered is shown
  pub record HasEnded (answer : Result Answer Fault) (v w : View K V S) : Type 0 where
    pub free : w.work ≡ Nothing
    pub told : HasProgressed (outcome_of answer) v w
    pub shows : AnsweredAreVisible (outcome_of answer) (shown_in w.held)

  -- what a step of it tells: it goes on, asks, or has ended
  abbrev pub StepOutcome : Kind → Stage → S → Machine K V K → Progress (Node K V) → View K V S → Type 0
  StepOutcome k s hasher machine (progress.Asks pair) v = IsAsking k s hasher pair machine v
  StepOutcome k s hasher machine progress.Ready v = ⊥
  StepOutcome k s hasher machine (progress.Pair pair) v = ⊥
  StepOutcome k s hasher machine (progress.Done answer) v = v.work ≡ Nothing
  StepOutcome k s hasher machine (progress.Refused fault) v = v.work ≡ Nothing
  StepOutcome k s hasher machine told v = IsUnderWay k s hasher machine v

  -- a call is under way whose next step may be taken
  pub record MayStep (hasher : S) (machine : Machine K V K) (v : View K V S) : Type 0 where
    pub at : Works hasher machine v
    pub steady : IsSteady machine

  -- one is under way that asks nothing
  pub record IsCalling (hasher : S) (machine : Machine K V K) (v : View K V S) : Type 0 where
    pub at : Works hasher machine v
    pub none : AsksNone machine

  -- what a step of that tells: it goes on, or has ended with an answer of its kind, or without one
  abbrev pub CalledSo : S → Machine K V K → Progress (Node K V) → View K V S → Type 0
  CalledSo hasher machine (progress.Asks pair) v = ⊥
  CalledSo hasher machine progress.Ready v = ⊥
  CalledSo hasher machine (progress.Pair pair) v = ⊥
  CalledSo hasher machine (progress.Done answer) v = (v.work ≡ Nothing) × IsAnswerBy machine answer
  CalledSo hasher machine (progress.Refused fault) v = v.work ≡ Nothing
  CalledSo hasher machine _ v = IsCalling hasher machine v

  -- Its step has come to this: how it goes on, and what it has told, by the plan of its machine, with what is shown since.
  pub record StepsTo (same : K → K → Bool) (hash : S → K → ℕ) (hasher : S) (machine next : Machine K V K) (told : Progress (Node K V)) (v w : View K V S) : Type 0 where
    pub work : w.work ≡ call_after next told
    pub stays : StaysThere v w
    pub calls : HasProgressed told v w
    pub leads : Leads (shown_in w.held) (machine_plan same same (hash hasher) machine) (next, told)
    pub came : MayCome (machine_plan same same (hash hasher) machine) (next, told)
    pub hands : HandsBack v.calls told
    pub shows : ToldAreVisible machine told (shown_in w.held)

  -- Within a section, its own or that of the seat that it leans on, with nothing else under way, it may begin this call, in the map that it knows.
  pub record MayDo (same : K → K → Bool) (hash : S → K → ℕ) (hasher : S) (machine : Machine K V K) (v : View K V S) : Type 0 where
    pub slot : ℕ
    pub map : Map S
    pub inside : section_of v.under v.slot ≡ Some slot
    pub knows : v.map ≡ Some map
    pub hashes : map.hasher ≡ hasher
    pub only : MayWant same hash v.under map (wanted_of machine)
    pub free : v.work ≡ Nothing
    pub begins : machine ≡ machine_for same hash map slot (wanted_of machine)

  -- it is of this kind, and has come so far
  pub record MayDoAs (same : K → K → Bool) (hash : S → K → ℕ) (k : Kind) (s : Stage) (hasher : S) (machine : Machine K V K) (v : View K V S) : Type 0 where
    pub may : MayDo same hash hasher machine v
    pub goes : MachineContinues k s machine

  -- or it asks nothing
  pub record MayCall (same : K → K → Bool) (hash : S → K → ℕ) (hasher : S) (machine : Machine K V K) (v : View K V S) : Type 0 where
    pub may : MayDo same hash hasher machine v
    pub none : AsksNone machine
    pub stores : (pair : Node K V) → pair_wanted (wanted_of machine) ≡ Some pair → MachineStores pair machine

  -- what a call has come to that wanted this; the pairs with which it has answered are shown
  pub record HasCalled (same : K → K → Bool) (hash : S → K → ℕ) (wanted : Wanted K V) (answer : Result Answer Fault) (unstored : Option (Node K V)) (v w : View K V S) : Type 0 where
    pub free : w.work ≡ Nothing
    pub stays : StaysThere v w
    pub ran : HasRun same hash wanted (outcome_of answer) v w
    pub back : IsReturned wanted answer unstored
    pub shows : AnsweredAreVisible (outcome_of answer) (shown_in w.held)
