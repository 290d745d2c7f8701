-- A step of a caller that reclaims all leads where a step of its kind does.
use Rattle.std.specs.Prelude.{Some}
use Rattle.std.proofs.Common.{◌≡◌, ℕ, Bool, List, refl, sym, ap, subst, ◌∙◌}
use Rattle.run_shows.specs.Given.SeizeWordsPlan.{Plan}
use Rattle.run_shows.specs.Given.SeizeReclaimAll.{reclaim_all_plan}
use Rattle.run_shows.specs.Given.SeizeDeclared.rows.reclaim_all.ReclaimAll.{ReclaimAll}
use Rattle.run_shows.specs.Given.SeizeDeclared.rows.settle.Settled.{Settled}
use Rattle.run_shows.specs.Given.SeizeDeclared.rows.settle.Settled.TheVariants as settled
use Rattle.seize_acts.specs.Acts.Answers.{Grant}
use Rattle.run_shows.specs.Given.TablesNodes.{deferred_word, was_left}
use Rattle.run_shows.specs.Given.TablesDeclared.node.Node.{Node}
use Rattle.run_shows.specs.Given.EffectsDeclared.changed.Changed.{Changed}
use Rattle.owner_facts.specs.Given.CallersRows.{IsRowOn}
use Rattle.owner_facts.specs.Given.FinishesMaps.{Standing}
use Rattle.many_acts.specs.Acts.AsSteps.{ReclaimingLeadsAsSteps, changed_of, held_in}
use Rattle.many_acts.specs.Acts.Reclaiming.{ReclaimedOn}
use Rattle.many_acts.proofs.Acts.AsSteps.There.{held_as}
use Rattle.many_acts.proofs.Acts.AsSteps.Told.{was_told}
use Rattle.run_shows.proofs.Scenes.Goes.{same_map_keeps}
use Rattle.run_shows.specs.Scenes.Held.{Held, IsAt}
use Rattle.run_shows.specs.Scenes.Reclaiming.{IsReclaiming, ReclaimingHasOutcome, ReclaimingLeads}
use Rattle.run_shows.specs.Scenes.Scene.{Scene, slot_of}

module _ {K V : Type 0} (same : K → K → Bool) (hash : ℕ → K → ℕ) (batch_size roots : ℕ) (s n : Scene K V) (before : Changed) (i : ℕ) (lists : ℕ → List ℕ) (c : ReclaimAll)
    (at : IsReclaiming same hash (held_in batch_size roots before s) s i lists c) (g : Grant) (end : Settled (Node K V)) (lists2 : ℕ → List ℕ) (c2 : ReclaimAll)
    (on : ReclaimedOn V same batch_size roots slot_of s i lists c g end n lists2 c2) where
  abbrev plan : Plan (Node K V) (ReclaimAll × Settled (Node K V))
  plan = reclaim_all_plan deferred_word was_left c

  abbrev new : Held K V
  new = record { memory = on.memory; changed = changed_of s.world.memory g plan; batch_size = batch_size; roots = roots }

  abbrev after : Scene K V
  after = record s { world = on.did.w2; maps = on.did.maps2 }

  hashed : (m : ℕ) (standing : Standing K) → on.did.maps2 m ≡ Some standing → standing.hash ≡ hash m
  hashed m = (same_map_keeps (hash m) (s.maps m) (on.did.maps2 m) (at.hashes m) (on.did.as_they_were m)).hashes

  goes : IsReclaiming same hash new after i on.did.lists2 c2
  goes = record { memory = on.did.memory; under_way = on.did.next; hashes = hashed; small = at.small }

  over : end ≡ settled.Done → IsAt same hash new after
  over done = record {
    memory = on.did.memory;
    together = on.did.next.stand.together;
    hashes = hashed;
    hashes_made = λ j b makes. absurd (cc (at.under_way.stand.no_makers j, makes));
    on_slots = λ j. subst (IsRowOn (slot_of j)) (sym ((on.did.over done).nothing.0 j)) tt;
    small = at.small;
  }

  comes : (told : Settled (Node K V)) → end ≡ told → ReclaimingHasOutcome same hash s i lists (held_in batch_size roots before s) new after on.did.lists2 c2 told
  comes settled.Goes is = goes
  comes settled.Waits is = goes
  comes (settled.Gave value) is = goes
  comes settled.Done is = (on.did.over is, over is)

  memory_is : n.world.memory ≡ on.memory
  memory_is = ap (λ (x : Scene K V). x.world.memory) on.comes ∙ on.did.memory

  -- where it leads, and to which scene
  abbrev pub Leads : Held K V → Type 0
  Leads h = (leads : ReclaimingLeads same hash s i lists (held_in batch_size roots before s) h c c2 end) × (n ≡ record s { world = leads.1.w2; maps = leads.1.maps2 })

  pub reclaiming_as : Leads (held_in batch_size roots (changed_of s.world.memory g plan) n)
  reclaiming_as =
      subst Leads (sym (held_as batch_size roots n.world.memory on.memory (changed_of s.world.memory g plan) (changed_of s.world.memory g plan) memory_is refl))
      ((was_told s.world.memory g plan (on.memory, (c2, end)) on.computed, on.did, comes end refl), on.comes)

pub reclaiming_leads_as_steps : {K : Type 0} (V : Type 0) (same : K → K → Bool) (hash : ℕ → K → ℕ) (batch_size roots : ℕ) → ReclaimingLeadsAsSteps V same hash batch_size roots
reclaiming_leads_as_steps V same hash batch_size roots s n before i lists c at g end lists2 c2 on = reclaiming_as same hash batch_size roots s n before i lists c at g end lists2 c2 on
