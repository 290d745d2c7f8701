-- Between the steps of calls: where a call begins, takes a reply, or goes on as a walk, and where none does, each copier makes a table as it is to make it.
use Rattle.std.specs.Prelude.{◌≡◌, ℕ, Bool, Some}
use Rattle.std.proofs.Common.{sym, subst, inl, inr}
use Rattle.papaya_raw.specs.Machine.{machine_asked, machine_replied}
use Rattle.papaya_raw.specs.declared.machines.asking.MachineReply.{MachineReply}
use Rattle.papaya_raw.specs.declared.machines.call.KeyCall.{KeyCall}
use Rattle.papaya_raw.specs.declared.machines.machine.Machine.{Machine}
use Rattle.run_finds.specs.Given.ResizeDeclared.new_table.NewTable.{NewTable}
use Rattle.run_schedules.specs.Schedules.Moment.{Moment}
use Rattle.run_finds.specs.Given.CallersOverAll.{CallOverAll}
use Rattle.run_finds.specs.Given.CallersPairs.{Given}
use Rattle.run_finds.specs.Given.CallersRooms.{CallForRoom}
use Rattle.run_finds.specs.Given.CallersTogether.{Computes, Counting, ForRoom, Gets, Inserts, IsBegun, OnKey, OverAll, Removes, RemovesIf, TriesToInsert, TriesToInsertWith, UnderWay, Updates, UpdatesOrInserts}
use Rattle.run_finds.specs.Given.FinishesMachines.{machine_of}
use Rattle.run_finds.specs.Given.FinishesMaps.{Standing}
use Rattle.run_finds.proofs.Given.HandsAsking.{which}
use Rattle.run_grows.specs.Grows.Further.{CallMakes, IsFurther, MachineMakes, RoomMakes, RefinesFurther, SweepMakes, lengths_of}
use Rattle.run_grows.proofs.Grows.Finding.Making.Lengths.{KeepsLengths}
use Rattle.run_grows.proofs.Grows.Finding.Making.Machines.{asked_makes, reply_makes}
use Rattle.run_grows.proofs.Grows.Finding.Making.Steps.{later}
use Rattle.run_finds.specs.Given.ScenesBeginning.{Begins}
use Rattle.run_finds.specs.Given.ScenesReplying.{scene_with}
use Rattle.run_finds.specs.Given.ScenesScene.{Scene, slot_of}
use Rattle.run_finds.proofs.Given.General.{same_some as one_of}

-- where calls are as they were, or under way no more
pub further_stays : {K V : Type 0} (m v : Moment K V) (s t : Scene K V) → RefinesFurther m s → KeepsLengths m v
    → ((map i : ℕ) (u : UnderWay K V K) → t.calls map i ≡ Some u → (x : UnderWay K V K) × (s.calls map i ≡ Some x) × (machine_of x ≡ machine_of u)) → RefinesFurther v t
further_stays {K} {V} m v s t further keeps was map i u is =
    let x = was map i u is in
    subst (λ (z : Machine K V K). MachineMakes (IsFurther (lengths_of map v)) z) x.2 (later m v keeps map (machine_of x.0) (further map i x.0 x.1))

module _ {K V : Type 0} (m : Moment K V) (s : Scene K V) (further : RefinesFurther m s) (map i : ℕ) where
  -- one goes on as another machine
  goes_on : (next : UnderWay K V K) → MachineMakes (IsFurther (lengths_of map m)) (machine_of next) → RefinesFurther m (scene_with map i next s)
  goes_on next makes n j y is = elim (which s.calls map i (Some next) n j y is) as (λ _. MachineMakes (IsFurther (lengths_of n m)) (machine_of y)) [
    | inl it ↦
        subst (λ (k : ℕ). MachineMakes (IsFurther (lengths_of k m)) (machine_of y)) (sym it.0)
        (subst (λ (z : UnderWay K V K). MachineMakes (IsFurther (lengths_of map m)) (machine_of z)) (one_of next y it.2) makes)
    | inr was ↦ further n j y was.1
  ]

-- A call that begins makes no table.
module _ {K V : Type 0} (Such : NewTable → Type 0) (same : K → K → Bool) where
  key_begins : (hash : K → ℕ) (i : ℕ) (standing : Standing K) (keys : K → Bool) (given : Given K V) (call : KeyCall K V K) → IsBegun V same hash same standing.setting slot_of i keys given call → CallMakes Such call.stands
  key_begins hash i standing keys given call (Gets q code few class) = tt
  key_begins hash i standing keys given call (Removes q code few class) = tt
  key_begins hash i standing keys given call (Inserts key value) = tt
  key_begins hash i standing keys given call (TriesToInsert key value) = tt
  key_begins hash i standing keys given call (Computes key) = tt
  key_begins hash i standing keys given call (Updates key) = tt
  key_begins hash i standing keys given call (UpdatesOrInserts key absent) = tt
  key_begins hash i standing keys given call (TriesToInsertWith key) = tt
  key_begins hash i standing keys given call (RemovesIf q code few class) = tt

  pub none_made : (standing : Standing K) (i : ℕ) (u : UnderWay K V K) → Begins same standing i u → MachineMakes Such (machine_of u)
  none_made standing i (OnKey u) begins = key_begins standing.hash i standing u.keys u.pair u.call begins.0
  none_made standing i (ForRoom r) begins = subst (λ (x : CallForRoom). RoomMakes Such x.reserve.stands) (sym begins.1) tt
  none_made standing i (Counting sum) begins = tt
  none_made standing i (OverAll o) begins = subst (λ (x : CallOverAll). SweepMakes Such x.sweep.stands) (sym begins.1) tt

pub calls_begin_further : {K V : Type 0} (same : K → K → Bool) (m : Moment K V) (s : Scene K V) → RefinesFurther m s → (standing : Standing K) (map i : ℕ) (u : UnderWay K V K) → Begins same standing i u
    → RefinesFurther m (scene_with map i u s)
calls_begin_further same m s further standing map i u begins = goes_on m s further map i u (none_made (IsFurther (lengths_of map m)) same standing i u begins)

-- one that goes on by a reply, or as it is asked for its next pair
module _ {K V : Type 0} (m : Moment K V) (s : Scene K V) (further : RefinesFurther m s) (map i : ℕ) (u : UnderWay K V K) (here : s.calls map i ≡ Some u) (next : UnderWay K V K) where
  pub calls_take_further : (reply : MachineReply V) → machine_of next ≡ (machine_replied (machine_of u) reply).0 → RefinesFurther m (scene_with map i next s)
  calls_take_further reply is =
      goes_on m s further map i next (subst (λ (z : Machine K V K). MachineMakes (IsFurther (lengths_of map m)) z) (sym is) (reply_makes (IsFurther (lengths_of map m)) K V K (machine_of u) reply (further map i u here)))

  pub walks_go_on_further : machine_of next ≡ (machine_asked (machine_of u)).0 → RefinesFurther m (scene_with map i next s)
  walks_go_on_further is =
      goes_on m s further map i next (subst (λ (z : Machine K V K). MachineMakes (IsFurther (lengths_of map m)) z) (sym is) (asked_makes (IsFurther (lengths_of map m)) K V K (machine_of u) (further map i u here)))
