-- What the answer of an operation tells its seat: how far what it has under way has come, and at which blocks the step looks.
use Rattle.std.specs.Prelude.{◌≡◌, ℕ, Bool, true, false, List, [], ◌∷◌, Option, Some, None}
use Rattle.seize_words.specs.OneMemory.Mem.{Mem, Took, value_at}
use Rattle.seize_words.specs.OneMemory.Op.{Op, Out}
use Rattle.seize_words.specs.OneMemory.Plan.{Plan, Steps}
use Rattle.seize.specs.declared.advance.Advance.{Advance as Told}
use Rattle.seize.specs.declared.advance.Advance.TheVariants as told_as
use Rattle.seize.specs.declared.rows.settle.Settled.{Settled}
use Rattle.seize.specs.declared.rows.settle.Settled.TheVariants as settled
use Rattle.map_tables.specs.Nodes.{deferred_word}
use Rattle.map_tables.specs.declared.node.Node.{Node}
use Rattle.map_tables.specs.declared.setting.Setting.{Setting}
use Rattle.map_machines.specs.NewMap.{new_map_plan}
use Rattle.map_machines.specs.declared.new_map.NewMap.{NewMap}
use Rattle.papaya_raw.specs.EndMap.{end_map_plan}
use Rattle.papaya_raw.specs.Machine.{machine_plan}
use Rattle.papaya_raw.specs.declared.machines.machine.Machine.{Machine}
use Rattle.papaya_raw.specs.declared.machines.machine.Machine.TheVariants as kinds
use Rattle.papaya_raw.specs.declared.machines.progress.Progress.{Progress}
use Rattle.papaya_raw.specs.declared.machines.progress.Progress.TheVariants as progress
use Rattle.many_acts.specs.Lefts.{GetsOn}
use Rattle.seize_views.specs.Views.Told.{FollowsBy, told as row_told}
use Rattle.seize_views.specs.declared.view.SlotView.{SlotView}
use Rattle.threads_kinds.specs.CallKinds.Shows.{ToldAreVisible}
use Rattle.threads_rule.specs.Views.Looks.{shown_in, TurnsTo, MayFollow}
use Rattle.threads_rule.specs.declared.view.Map.{Map}
use Rattle.threads_rule.specs.declared.view.BegunCall.{BegunCall}
use Rattle.threads_rule.specs.declared.view.EndOfMap.{EndOfMap}
use Rattle.threads_rule.specs.declared.view.View.{View}
use Rattle.threads_rule.specs.declared.view.SeatWork.{SeatWork}
use Rattle.threads_rule.specs.declared.view.SeatWork.TheVariants.{Nothing, Calls, Makes, Ends}

-- the step comes to this outcome in some memory
abbrev pub MayCome : {T R : Type 0} → Plan T R → R → Type 0
MayCome {T} plan end = (m n : Mem T) × Steps Took value_at m plan n end

-- a call that has taken no step has told nothing
abbrev pub untold : {T : Type 0} → Progress T
untold = progress.Goes

module _ {K V : Type 0} where
  -- the pair that a call began with, if it began with one
  abbrev pub begun_with : Machine K V K → Option (Node K V)
  begun_with (kinds.Key call) = call.unmade
  begun_with _ = None

  -- that of the newest call of a seat
  abbrev pub pair_in : List (BegunCall K V) → Option (Node K V)
  pair_in [] = None
  pair_in (run ∷ before) = begun_with run.began

  -- what a call hands back that it has not stored is the pair that it began with, if it began with one
  abbrev pub HandsBack : List (BegunCall K V) → Progress (Node K V) → Type 0
  HandsBack runs (progress.Unstored value) = (pair : Node K V) → pair_in runs ≡ Some pair → value ≡ pair
  HandsBack runs told = Unit {0}

  -- the calls of a seat, where the newest one has told this last
  abbrev pub newest_progress : Progress (Node K V) → List (BegunCall K V) → List (BegunCall K V)
  newest_progress told [] = []
  newest_progress told (run ∷ before) = record run { told = told } ∷ before

module _ {K V S : Type 0} where
  -- a call that has come so far: it goes on, or has ended
  abbrev pub call_after : Machine K V K → Progress (Node K V) → SeatWork K V S
  call_after machine (progress.Done answer) = Nothing
  call_after machine (progress.Refused fault) = Nothing
  call_after machine told = Calls machine

  -- what a seat knows once its call, which was this one, has come so far, and has looked at these blocks
  abbrev pub called : View K V S → Map S → Machine K V K → Machine K V K × Progress (Node K V) → List (ℕ × Node K V) → View K V S
  called v map machine end looks = record { slot = v.slot; under = v.under; map = v.map; by = v.by; own = v.own; work = call_after end.0 end.1; looks = looks; held = looks; began = v.began; calls = newest_progress end.1 v.calls }

  -- a map that is made is the maker's own, where it was to be that, and it has no other one; or it stands for good
  abbrev pub with_made : View K V S → Bool → Option (Map S) → Map S → List (ℕ × Node K V) → View K V S
  with_made v true None map looks = record { slot = v.slot; under = v.under; map = v.map; by = v.by; own = Some map; work = Nothing; looks = looks; held = []; began = v.began; calls = v.calls }
  with_made v true (Some other) map looks = record { slot = v.slot; under = v.under; map = Some map; by = None; own = v.own; work = Nothing; looks = looks; held = []; began = v.began; calls = v.calls }
  with_made v false own map looks = record { slot = v.slot; under = v.under; map = Some map; by = None; own = v.own; work = Nothing; looks = looks; held = []; began = v.began; calls = v.calls }

  -- and once the making of a map has
  abbrev pub made_after : View K V S → Bool → ℕ → S → List (ℕ × Node K V) → NewMap → Told Setting → View K V S
  made_after v own m hasher looks opening (told_as.Done setting) = with_made v own v.own record { number = m; setting = setting; hasher = hasher } looks
  made_after v own m hasher looks opening (told_as.Refused fault) = record { slot = v.slot; under = v.under; map = v.map; by = v.by; own = v.own; work = Nothing; looks = looks; held = []; began = v.began; calls = v.calls }
  made_after v own m hasher looks opening told = record { slot = v.slot; under = v.under; map = v.map; by = v.by; own = v.own; work = Makes own m hasher opening; looks = looks; held = []; began = v.began; calls = v.calls }

  -- and once the end of one has: its last step looks at nothing
  abbrev pub ended_after : View K V S → List (ℕ × Node K V) → EndOfMap → Settled (Node K V) → View K V S
  ended_after v looks end settled.Done = record { slot = v.slot; under = v.under; map = v.map; by = v.by; own = v.own; work = Nothing; looks = []; held = []; began = v.began; calls = v.calls }
  ended_after v looks end told = record { slot = v.slot; under = v.under; map = v.map; by = v.by; own = v.own; work = Ends end; looks = looks; held = []; began = v.began; calls = v.calls }

module _ {K V S : Type 0} (same : K → K → Bool) (hash : S → K → ℕ) where
  abbrev pub observed_by : View K V S → Option (Map S) → SeatWork K V S → Op (Node K V) → Out (Node K V) → View K V S → Type 0
  observed_by v map Nothing op out w =
      (slot : SlotView (Node K V)) × row_told deferred_word v.slot op out slot × (w ≡ record { slot = slot; under = v.under; map = v.map; by = v.by; own = v.own; work = Nothing; looks = []; held = []; began = v.began; calls = v.calls })
  observed_by v (Some map) (Calls machine) op out w =
      (end : Machine K V K × Progress (Node K V)) × FollowsBy (shown_in w.looks) (machine_plan same same (hash map.hasher) machine) out end
      × (w ≡ called v map machine end w.looks) × MayFollow (shown_in w.looks) (machine_plan same same (hash map.hasher) machine) out
      × MayCome (machine_plan same same (hash map.hasher) machine) end × HandsBack v.calls end.1 × ToldAreVisible machine end.1 (shown_in w.looks)
  observed_by v None (Calls machine) op out w = ⊥
  observed_by v map (Makes own m hasher opening) op out w =
      (end : NewMap × Told Setting) × FollowsBy (shown_in w.looks) (new_map_plan opening) out end × (w ≡ made_after v own m hasher w.looks end.0 end.1)
  observed_by v map (Ends e) op out w =
      (end : EndOfMap × Settled (Node K V)) × FollowsBy (shown_in w.looks) (end_map_plan e.machine) out (end.0.machine, end.1) × (w ≡ ended_after v w.looks end.0 end.1)
      × MayFollow (shown_in w.looks) (end_map_plan e.machine) out × GetsOn e.machine (end.0.machine, end.1) (e.left, e.along) (end.0.left, end.0.along)

  abbrev pub told : View K V S → Op (Node K V) → Out (Node K V) → View K V S → Type 0
  told v op out w = observed_by v v.map v.work op out w

  -- what a seat knows once its call has taken a step without an operation
  abbrev pub turned_by : View K V S → Option (Map S) → SeatWork K V S → View K V S → Type 0
  turned_by v (Some map) (Calls machine) w =
      (end : Machine K V K × Progress (Node K V)) × TurnsTo (shown_in w.looks) (machine_plan same same (hash map.hasher) machine) end × (w ≡ called v map machine end w.looks)
      × MayCome (machine_plan same same (hash map.hasher) machine) end × HandsBack v.calls end.1 × ToldAreVisible machine end.1 (shown_in w.looks)
  turned_by v map work w = ⊥

  abbrev pub turned : View K V S → View K V S → Type 0
  turned v w = turned_by v v.map v.work w
