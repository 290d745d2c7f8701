-- All is reclaimed in the memory of an executor: it begins, each step may be taken, and at the end the executor is there.
use Rattle.std.specs.Prelude.{◌≡◌, ℕ, Bool, true, false, List, length, Option, None, option_map, slice_index_or, if◌then◌else◌}
use Rattle.std.proofs.Common.{refl, sym, ap, subst, ◌∙◌}
use Rattle.seize_words.specs.OneMemory.Mem.{Mem, Took, value_at}
use Rattle.seize_words.specs.OneMemory.Plan.{Steps}
use Rattle.seize.specs.declared.rows.reclaim_all.ReclaimAll.{ReclaimAll}
use Rattle.seize.specs.declared.rows.settle.Settled.{Settled}
use Rattle.seize.specs.declared.rows.settle.Settled.TheVariants as settled
use Rattle.seize.specs.ReclaimAll.{reclaiming_all, clearing, reclaim_all_plan}
use Rattle.seize.specs.World.{Rests}
use Rattle.papaya_raw.specs.Given.TablesNodes.{deferred_word, was_left}
use Rattle.papaya_raw.specs.Given.TablesDeclared.node.Node.{Node}
use Rattle.run_places.specs.Given.TellerTells.{StepsObserved}
use Rattle.run_places.specs.Given.EffectsDeclared.changed.Changed.TheVariants.{Nothing}
use Rattle.run_places.specs.Given.EffectsDeclared.teller.Teller.{Teller}
use Rattle.run_places.specs.Given.CallersRows.{IsRowOn}
use Rattle.run_places.specs.Given.FinishesEndings.{Finishing}
use Rattle.run_places.specs.Given.FinishesMachines.{machine_of}
use Rattle.run_places.specs.Given.FinishesMakings.{Beginning}
use Rattle.run_places.specs.Given.ReclaimsReclaims.{AllStandIdle, AllIsReclaimed, ReclaimingTogether, StepsOfReclaiming}
use Rattle.run_places.proofs.Given.ReclaimsPromised.{reclaiming_begins, reclaiming_stands}
use Rattle.run_executor.specs.declared.executor.Executor.{Executor}
use Rattle.run_places.specs.Given.ScenesDeclared.row.SlotUse.{SlotUse}
use Rattle.run_executor.specs.declared.worker.Work.{Work}
use Rattle.run_executor.specs.ReclaimsAll.Reclaiming.{NobodyHas, MayReclaim, IsReclaimingThere, Leaves, ReclaimsThere}
use Rattle.run_executor.specs.Executing.IsThere.{HasRow, IsThere, IsUsedAs, PreservesSettings, call_in, ending_in, held_by, making_in}
use Rattle.run_places.proofs.Given.ScenesGoes.{same_map_keeps}
use Rattle.run_places.proofs.Given.ScenesTold.{as_step}
use Rattle.run_places.specs.Given.ScenesReclaiming.{ReclaimingOutcomeHolds}
use Rattle.run_places.specs.Given.ScenesScene.{Scene, slot_of}
use Rattle.seize_words.proofs.General.{none_mapped as none_of}

module _ {K V S : Type 0} (same : K → K → Bool) (hash : K → ℕ) (e : Executor K V S) (s : Scene K V) (at : IsThere same hash e s) (nobody : NobodyHas e) where
  idle : AllStandIdle V same same e.batch_size e.roots slot_of s.maps s.calls s.makers s.enders s.world
  idle = record {
    together = at.held.together;
    no_calls = λ m j. none_of machine_of (s.calls m j) (at.calls m j ∙ ap (λ (x : Option (Work K V)). call_in x m) (nobody j));
    no_makers = λ j. none_of (λ (b : Beginning K). (b.map, b.machine)) (s.makers j) (at.makers j ∙ ap making_in (nobody j));
    no_enders = λ j. none_of (λ (f : Finishing K V). f.machine) (s.enders j) (at.enders j ∙ ap ending_in (nobody j));
  }

  resting : (j : ℕ) → s.world.row j ≡ Rests
  resting j = subst (λ (x : Option (Work K V)). HasRow x (s.world.row j)) (nobody j) (at.rows j)

  module _ (i : ℕ) (lists : ℕ → List ℕ) where
    under_way : (taken : Bool) → MayReclaim e s lists taken
        → ReclaimingTogether V same same e.batch_size e.roots slot_of s.maps s.calls s.makers s.enders s.world i lists (if taken then reclaiming_all e.batch_size e.roots else clearing e.roots)
    under_way true may =
        (reclaiming_begins {Q = K} V same same e.batch_size e.roots slot_of s.maps s.calls s.makers s.enders s.world i lists at.held.small idle resting may.0).0 may.1
    under_way false may =
        (reclaiming_begins {Q = K} V same same e.batch_size e.roots slot_of s.maps s.calls s.makers s.enders s.world i lists at.held.small idle resting may.0).1 may.1

module _ {K V S : Type 0} (same : K → K → Bool) (hash : K → ℕ) (e : Executor K V S) (s : Scene K V) (i : ℕ) (lists : ℕ → List ℕ) (all : ReclaimAll) (at : IsReclaimingThere same hash e s i lists all) where
  module _ (e1 : Executor K V S) (after : ReclaimAll) (told : Settled (Node K V))
      (steps : StepsObserved K V (ReclaimAll × Settled (Node K V)) e.memory.memory Nothing (reclaim_all_plan deferred_word was_left all) e1.memory.memory e1.memory.changed (after, told))
      (rest : e1 ≡ record e { memory = e1.memory }) (e2 : Executor K V S) (leaves : Leaves e1 e2 told) where
    its_step : Steps Took value_at s.world.memory (reclaim_all_plan deferred_word was_left all) e1.memory.memory (after, told)
    its_step =
        subst (λ (m : Mem (Node K V)). Steps Took value_at m (reclaim_all_plan deferred_word was_left all) e1.memory.memory (after, told)) (sym at.held.memory)
        (as_step e.memory.memory Nothing (reclaim_all_plan deferred_word was_left all) e1.memory.memory e1.memory.changed (after, told) steps)

    did : StepsOfReclaiming V same same e.batch_size e.roots slot_of s.maps s.calls s.makers s.enders s.world i lists all.stands e1.memory.memory after told
    did = (reclaiming_stands {Q = K} V same same e.batch_size e.roots slot_of s.maps s.calls s.makers s.enders s.world i lists all at.held.small at.held.under_way).1 e1.memory.memory after told its_step

    abbrev scene2 : Scene K V
    scene2 = record s { world = did.w2; maps = did.maps2 }

    settings : (m : ℕ) → option_map (λ standing. standing.setting) (did.maps2 m) ≡ slice_index_or e.maps.items m None
    settings m = (same_map_keeps hash (s.maps m) (did.maps2 m) (at.held.hashes m) (did.as_they_were m)).setting ∙ at.maps m

    -- it goes on
    goes : (e3 : Executor K V S) → e3 ≡ e1 → IsReclaimingThere same hash e3 scene2 i did.lists2 after
    goes e3 is = subst (λ (x : Executor K V S). IsReclaimingThere same hash x scene2 i did.lists2 after) (sym (is ∙ rest)) (record {
      held = record {
        memory = did.memory;
        under_way = did.next;
        hashes = λ m. (same_map_keeps hash (s.maps m) (did.maps2 m) (at.held.hashes m) (did.as_they_were m)).hashes;
        small = at.held.small;
      };
      nobody = at.nobody;
      maps = settings;
      slots = at.slots;
    })

    -- it is over
    over : told ≡ settled.Done → (e3 : Executor K V S) → Leaves e1 e3 settled.Done → AllIsReclaimed e.roots did.w2 did.maps2 × IsThere same hash e3 scene2
    over done e3 (vacant, long, is) = (did.over done, subst (λ (x : Executor K V S). IsThere same hash x scene2) (sym is_so) there)
      where
        is_so : e3 ≡ record e { memory = e1.memory; slots = e3.slots }
        is_so = is ∙ ap (λ (x : Executor K V S). record x { slots = e3.slots }) rest

        there : IsThere same hash (record e { memory = e1.memory; slots = e3.slots }) scene2
        there = record {
          held = record {
            memory = did.memory;
            together = did.next.stand.together;
            hashes = λ m. (same_map_keeps hash (s.maps m) (did.maps2 m) (at.held.hashes m) (did.as_they_were m)).hashes;
            hashes_made = λ j b makes. absurd (cc (at.held.under_way.stand.no_makers j, makes));
            on_slots = λ j. subst (IsRowOn (slot_of j)) (sym ((did.over done).nothing.0 j)) tt;
            small = at.held.small;
          };
          maps = settings;
          calls = λ m j. ap (option_map machine_of) (at.held.under_way.stand.no_calls m j) ∙ ap (λ (x : Option (Work K V)). call_in x m) (sym (at.nobody j));
          makers = λ j. ap (option_map (λ (b : Beginning K). (b.map, b.machine))) (at.held.under_way.stand.no_makers j) ∙ ap making_in (sym (at.nobody j));
          enders = λ j. ap (option_map (λ (f : Finishing K V). f.machine)) (at.held.under_way.stand.no_enders j) ∙ ap ending_in (sym (at.nobody j));
          numbers = λ j b makes. absurd (cc (at.held.under_way.stand.no_makers j, makes));
          rows = λ j. subst (λ (x : Option (Work K V)). HasRow x (did.w2.row j)) (sym (at.nobody j)) ((did.over done).nothing.0 j);
          slots = long ∙ ap (λ (x : Executor K V S). length x.slots.items) rest ∙ at.slots;
          uses = λ t. subst (λ (x : SlotUse). IsUsedAs x (did.w2.uses t)) (sym (vacant t)) ((did.over done).nothing.2 t);
        }

    abbrev ComesTo : Scene K V → (ℕ → List ℕ) → ReclaimAll → Settled (Node K V) → Type 0
    ComesTo = ReclaimingOutcomeHolds same s i lists (λ s2 lists2 all. IsReclaimingThere same hash e2 s2 i lists2 all) (IsThere same hash e2) (held_by e) (held_by e2)

    by_told : (t : Settled (Node K V)) → told ≡ t → Leaves e1 e2 t → ComesTo scene2 did.lists2 after t
    by_told settled.Goes is leaves = goes e2 leaves
    by_told settled.Waits is leaves = goes e2 leaves
    by_told (settled.Gave value) is leaves = goes e2 leaves
    by_told settled.Done is leaves = over is e2 leaves

    same_memory : (t : Settled (Node K V)) → Leaves e1 e2 t → e2.memory ≡ e1.memory
    same_memory settled.Goes leaves = ap (λ (x : Executor K V S). x.memory) leaves
    same_memory settled.Waits leaves = ap (λ (x : Executor K V S). x.memory) leaves
    same_memory (settled.Gave value) leaves = ap (λ (x : Executor K V S). x.memory) leaves
    same_memory settled.Done leaves = ap (λ (x : Executor K V S). x.memory) leaves.2

    -- where the step leads, in the memory that it has come to
    abbrev LeadsIn : Teller (Mem (Node K V)) → Type 0
    LeadsIn t =
        StepsObserved K V (ReclaimAll × Settled (Node K V)) e.memory.memory Nothing (reclaim_all_plan deferred_word was_left all) t.memory t.changed (after, told)
        × (d : StepsOfReclaiming V same same e.batch_size e.roots slot_of s.maps s.calls s.makers s.enders s.world i lists all.stands t.memory after told)
        × ComesTo (record s { world = d.w2; maps = d.maps2 }) d.lists2 after told

    pub leads : ReclaimsThere same hash s i lists e e2 all after told
    leads = subst LeadsIn (sym (same_memory told leaves)) (steps, did, by_told told refl leaves)

-- a step in the memory alone, and what it leaves then, keep what the executor was given
module _ {K V S : Type 0} (e mid e2 : Executor K V S) where
  given_by : e2 ≡ record mid { slots = e2.slots } → mid ≡ record e { memory = mid.memory } → PreservesSettings e e2
  given_by left rest = (
    ap (λ x. x.hasher) left ∙ ap (λ x. x.hasher) rest,
    ap (λ x. x.batch_size) left ∙ ap (λ x. x.batch_size) rest,
    ap (λ x. x.roots) left ∙ ap (λ x. x.roots) rest,
    ap (λ x. length x.maps.items) left ∙ ap (λ x. length x.maps.items) rest,
  )

  given_by_none : e2 ≡ mid → mid ≡ record e { memory = mid.memory } → PreservesSettings e e2
  given_by_none left rest = given_by (left ∙ sym (ap (λ x. record mid { slots = x.slots }) left)) rest

  pub given_then : (told : Settled (Node K V)) → mid ≡ record e { memory = mid.memory } → Leaves mid e2 told → PreservesSettings e e2
  given_then settled.Done rest left = given_by left.2 rest
  given_then settled.Goes rest left = given_by_none left rest
  given_then settled.Waits rest left = given_by_none left rest
  given_then (settled.Gave value) rest left = given_by_none left rest
