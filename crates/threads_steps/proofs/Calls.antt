-- A step of the call of a seat: its operation may be made, and what it has come to is known with what it looks at.
use Rattle.std.specs.Prelude.{Some}
use Rattle.std.proofs.Common.{◌≡◌, ℕ, Bool}
use Rattle.seize_words.specs.OneMemory.Op.{Op, Out, Load, Store, Swap, Add, Or, Exchange, Make, Take, Rewrite, Room}
use Rattle.seize_words.specs.OneMemory.Plan.{Plan}
use Rattle.map_tables.specs.declared.node.Node.{Node}
use Rattle.papaya_raw.specs.Machine.{machine_plan}
use Rattle.papaya_raw.specs.declared.machines.machine.Machine.{Machine}
use Rattle.papaya_raw.specs.declared.machines.progress.Progress.{Progress}
use Rattle.seize_views.specs.Views.Promises.{op_in}
use Rattle.seize_views.specs.Views.Told.{FollowsBy}
use Rattle.threads_kinds.specs.CallKinds.Shows.{ToldAreVisible}
use Rattle.threads_rule.specs.Views.Looks.{MayFollow}
use Rattle.threads_rule.specs.Views.Told.{HandsBack, MayCome, called}
use Rattle.threads_rule.specs.declared.view.Map.{Map}
use Rattle.threads_rule.specs.declared.view.SeatWork.TheVariants.{Calls}
use Rattle.threads_rule.proofs.Views.Laws.{calls_go_on}
use Rattle.threads_steps.specs.Made.{HasAlone, CanMake, HasMade, shown_of}
use Rattle.threads_steps.specs.declared.within.Within.{Within}
use Rattle.threads_steps.proofs.Tellings.{told_shown as shown_then}
use Rattle.threads_kinds.proofs.CallKinds.Plans.{LeavesValues, ReplacesNone, leaves_values}

module _ {K V S : Type 0} (same : K → K → Bool) (hash : S → K → ℕ) (c : Within K V S) where
  -- an operation that replaces no value needs no block to itself
  pub has_alone : (op : Op (Node K V)) → ReplacesNone op → HasAlone same hash c op
  has_alone (Rewrite b x) is = absurd is
  has_alone (Load at) is = tt
  has_alone (Store at word) is = tt
  has_alone (Swap at word) is = tt
  has_alone (Add at by) is = tt
  has_alone (Or at bits) is = tt
  has_alone (Exchange at old new) is = tt
  has_alone (Make value words) is = tt
  has_alone (Take block) is = tt
  has_alone (Room bucket) is = tt

  module _ (map : Map S) (machine : Machine K V K) (knows : c.seat.now.view.map ≡ Some map) (works : c.seat.now.view.work ≡ Calls machine) where
    abbrev plan : Plan (Node K V) (Machine K V K × Progress (Node K V))
    plan = machine_plan same same (hash map.hasher) machine

    pub can_make : LeavesValues plan → (op : Op (Node K V)) → op_in plan ≡ Some op → CanMake same hash c op
    can_make leaves op e = record {
      alone = has_alone op (leaves_values plan op leaves e);
      may = calls_go_on V same hash c.blocks.now.words.fixed c.seat.now.id c.seat.now.view map machine op knows works e;
    }

    -- it shows what the step looks at
    pub told_shown : (op : Op (Node K V)) (out : Out (Node K V)) (n : Within K V S) → HasMade same hash c op out n
        → (end : Machine K V K × Progress (Node K V)) × FollowsBy (shown_of n) plan out end × (n.seat.now.view ≡ called c.seat.now.view map machine end n.seat.now.view.looks)
        × MayFollow (shown_of n) plan out × MayCome plan end × HandsBack c.seat.now.view.calls end.1 × ToldAreVisible machine end.1 (shown_of n)
    told_shown op out n made = shown_then same hash c.seat.now.view map machine knows works op out n.seat.now.view made.told
