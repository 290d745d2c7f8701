-- What callers do with calls leads where a step of its kind does.
use Rattle.std.specs.Prelude.{◌≢◌, Option, Some, Result}
use Rattle.std.specs.Result.{is_err}
use Rattle.std.proofs.Common.{◌≡◌, ◌⊎◌, ℕ, Bool, true, inl, inr, refl, sym, ap, subst, ◌∙◌}
use Rattle.std.proofs.lemmas.Bool.{cases_eq}
use Rattle.run_shows.specs.Given.SeizeWordsPlan.{Plan}
use Rattle.seize_acts.specs.Acts.Answers.{Grant, then_on}
use Rattle.run_shows.specs.Given.TablesDeclared.node.Node.{Node}
use Rattle.run_shows.specs.Given.RawMachine.{machine_plan, machine_replied, machine_asked}
use Rattle.run_shows.specs.Given.RawDeclared.machines.asking.MachineReply.{MachineReply}
use Rattle.run_shows.specs.Given.RawDeclared.machines.machine.Machine.{Machine}
use Rattle.run_shows.specs.Given.RawDeclared.machines.progress.Progress.{Progress}
use Rattle.owner_facts.specs.Given.PointsSteps.{AreLawful}
use Rattle.run_shows.specs.Given.EffectsDeclared.changed.Changed.{Changed}
use Rattle.run_shows.specs.Given.EffectsDeclared.changed.Changed.TheVariants.{Nothing as NoChange}
use Rattle.owner_facts.specs.Given.CallersTogether.{UnderWay}
use Rattle.owner_facts.specs.Given.CallersTogether as begins
use Rattle.owner_facts.specs.Given.FinishesMachines.{machine_of, MachineStepsWithEndings, RepliedOfKind}
use Rattle.owner_facts.specs.Given.FinishesMaps.{Standing, with_call}
use Rattle.many_acts.specs.Acts.Acts.{Answer, Wanted, Get, Remove, Insert, TryToInsert, Compute, Update, UpdateOrInsert, TryToInsertWith, RemoveIf, GetKeyValue, ContainsKey, GetOrInsert, GetOrInsertWith, RemoveEntry, MakeRoom, Count, GoOver, begun, Act, BeginsCall, StepsCall, TellsCall, AsksCall, StopsCall}
use Rattle.many_acts.specs.Acts.AsSteps.{LeadsAs, changed_by, changed_of, held_in}
use Rattle.many_acts.specs.Acts.Leads.{AllStand, CallCame, Led, asked_on, call_at}
use Rattle.many_acts.proofs.Acts.Calls.{asked_machine}
use Rattle.many_acts.proofs.Acts.AsSteps.There.{Hashed, Stand, calls_there, held_as, one_on_slot}
use Rattle.many_acts.proofs.Acts.AsSteps.Told.{of_some, was_told}
use Rattle.many_acts.proofs.Acts.Tests.{its_class}
use Rattle.run_shows.proofs.Scenes.Goes.{moved_map_keeps, same_map_keeps}
use Rattle.run_shows.specs.Scenes.Beginning.{Begins}
use Rattle.run_shows.specs.Scenes.Held.{Held, IsAt}
use Rattle.run_shows.specs.Scenes.Replying.{scene_with, unless_stopped}
use Rattle.run_shows.specs.Scenes.Scene.{Scene, slot_of}
use Rattle.run_shows.specs.Scenes.Stepping.{StepsFrom, scene_after}
use Rattle.run_shows.proofs.Given.General.{same_some}

-- what is wanted of a map begins so
pub begins_so : {K V : Type 0} (same : K → K → Bool) (s : Standing K) → AreLawful same s.hash → (i : ℕ) (wanted : Wanted K V) → Begins same s i (begun same slot_of s i wanted)
begins_so same s lawful i (Get key) = (begins.Gets key (s.hash key) (lawful.fits key) (its_class same s.hash lawful key), refl)
begins_so same s lawful i (Remove key) = (begins.Removes key (s.hash key) (lawful.fits key) (its_class same s.hash lawful key), refl)
begins_so same s lawful i (Insert key value) = (begins.Inserts key value, refl)
begins_so same s lawful i (TryToInsert key value) = (begins.TriesToInsert key value, refl)
begins_so same s lawful i (Compute key) = (begins.Computes key, refl)
begins_so same s lawful i (Update key) = (begins.Updates key, refl)
begins_so same s lawful i (UpdateOrInsert key absent) = (begins.UpdatesOrInserts key absent, refl)
begins_so same s lawful i (TryToInsertWith key) = (begins.TriesToInsertWith key, refl)
begins_so same s lawful i (RemoveIf key) = (begins.RemovesIf key (s.hash key) (lawful.fits key) (its_class same s.hash lawful key), refl)
begins_so same s lawful i (GetKeyValue key) = (begins.Gets key (s.hash key) (lawful.fits key) (its_class same s.hash lawful key), refl)
begins_so same s lawful i (ContainsKey key) = (begins.Gets key (s.hash key) (lawful.fits key) (its_class same s.hash lawful key), refl)
begins_so same s lawful i (GetOrInsert key value) = (begins.TriesToInsert key value, refl)
begins_so same s lawful i (GetOrInsertWith key) = (begins.TriesToInsertWith key, refl)
begins_so same s lawful i (RemoveEntry key) = (begins.Removes key (s.hash key) (lawful.fits key) (its_class same s.hash lawful key), refl)
begins_so same s lawful i (MakeRoom additional) = (additional, refl)
begins_so same s lawful i Count = refl
begins_so same s lawful i (GoOver purpose) = (purpose, refl)

module _ {K V S : Type 0} (same : K → K → Bool) (by_hasher : S → K → ℕ) (hash : ℕ → K → ℕ) (batch_size roots : ℕ) (s n : Scene K V) (before : Changed)
    (at : IsAt same hash (held_in batch_size roots before s) s) (all : AllStand same by_hasher batch_size roots slot_of n) (i m : ℕ) where
  abbrev old : Held K V
  old = held_in batch_size roots before s

  abbrev Stands : Scene K V → Type 0
  Stands x = Stand same hash batch_size roots s before at x

  -- where an act leads that has changed this
  abbrev Leads : Act K V S → Answer K V → Changed → Scene K V → Type 0
  Leads act told changed x =
      LeadsAs same by_hasher hash act s told x old (held_in batch_size roots changed x) × IsAt same hash (held_in batch_size roots changed x) x

  -- it is so of the scene that is named so
  onto : (act : Act K V S) (told : Answer K V) (changed : Changed) (x : Scene K V) → n ≡ x → (Stands x → Leads act told changed x) → Leads act told changed n
  onto act told changed x is so = subst (Leads act told changed) (sym is) (so (subst Stands is all))

  -- the calls of a caller are one
  one_call : (u : UnderWay K V K) → s.calls m i ≡ Some u → (P : (k : ℕ) → UnderWay K V K → Type 0) → P m u → (k : ℕ) (v : UnderWay K V K) → s.calls k i ≡ Some v → P k v
  one_call u here P so k v there =
      subst (λ (x : ℕ). (w : UnderWay K V K) → s.calls x i ≡ Some w → P x w) (at.together.makings.standing.once m k i (λ none. cc (none, here)) (λ none. cc (none, there)))
      (λ w has. subst (P m) (same_some u w (sym here ∙ has)) so) v there

  pub begins_as : (wanted : Wanted K V) (told : Answer K V) → Led same by_hasher batch_size roots slot_of (BeginsCall i m wanted) s told n → Leads (BeginsCall i m wanted) told NoChange n
  begins_as wanted told (standing, stands, none, is) =
      onto (BeginsCall i m wanted) told NoChange (scene_with m i (begun same slot_of standing i wanted) s) is
      (λ stand. let there = calls_there same hash batch_size roots s before at (with_call s.calls m i (Some (begun same slot_of standing i wanted))) NoChange stand in
      ((standing, stands, begins_so same standing (at.together.makings.standing.fit m standing stands).0 i wanted, refl, there, refl), there))

  module _ (g : Grant) (told : Answer K V) (came : CallCame same by_hasher batch_size roots slot_of s i m g told n) where
    abbrev plan : Plan (Node K V) (Machine K V K × Progress (Node K V))
    plan = machine_plan same same came.standing.hash (machine_of came.call)

    abbrev new : Held K V
    new = record { memory = came.memory; changed = changed_of s.world.memory g plan; batch_size = batch_size; roots = roots }

    abbrev after : Scene K V
    after = record { world = came.did.w2; maps = came.did.maps2; calls = with_call s.calls m i came.did.next; makers = s.makers; enders = s.enders }

    its_call : call_at s i m ≡ Some (came.standing, came.call)
    its_call =
        ap (λ (o : Option (Standing K)). then_on o (λ standing. then_on (s.calls m i) (λ u. Some (standing, u)))) came.stands
        ∙ ap (λ (o : Option (UnderWay K V K)). then_on o (λ u. Some (came.standing, u))) came.here

    hashed : Hashed same hash batch_size roots s before at came.did.maps2
    hashed k = by (cases_eq k m)
      where
        by : (k ≡ m) ⊎ (k ≢ m) → (standing : Standing K) → came.did.maps2 k ≡ Some standing → standing.hash ≡ hash k
        by (inl e) =
            subst (λ (x : ℕ). (standing : Standing K) → came.did.maps2 x ≡ Some standing → standing.hash ≡ hash x) (sym e)
            (moved_map_keeps (hash m) came.standing (s.maps m) (came.did.maps2 m) came.stands (at.hashes m came.standing came.stands) came.did.its_map).hashes
        by (inr ne) = (same_map_keeps (hash k) (s.maps k) (came.did.maps2 k) (at.hashes k) (came.did.others k ne)).hashes

    there : Stands after → IsAt same hash new after
    there stand = record {
      memory = came.did.memory;
      together = stand;
      hashes = hashed;
      hashes_made = at.hashes_made;
      on_slots = one_on_slot same hash batch_size roots s before at i came.did.w2 (came.did.slots.on_slot (at.on_slots i)) came.did.rows;
      small = at.small;
    }

    abbrev Goes : ℕ → UnderWay K V K → Type 0
    Goes k u =
        (standing : Standing K) × (machine : Machine K V K) × (s.maps k ≡ Some standing) × StepsFrom same standing.hash (machine_of u) old new machine came.progress
        × (did : MachineStepsWithEndings V same same batch_size roots slot_of s.world s.maps s.calls s.makers s.enders k standing i came.memory u machine came.progress)
        × IsAt same hash new (scene_after same s old new k i standing u machine came.progress did)

    -- there the scene is this
    abbrev GoesTo : ℕ → UnderWay K V K → Type 0
    GoesTo k u = (so : Goes k u) × (after ≡ scene_after same s old new k i so.0 u so.1 came.progress so.4)

    goes : Stands after → Goes m came.call
    goes stand = (came.standing, came.machine, came.stands, was_told s.world.memory g plan (came.memory, (came.machine, came.progress)) came.computed, came.did, there stand)

    pub steps_as : Leads (StepsCall i m g) told (changed_by {S = S} same (StepsCall i m g) s) n
    unfolding goes
    steps_as =
        onto (StepsCall i m g) told (changed_by {S = S} same (StepsCall i m g) s) after came.comes
        (λ stand. subst (λ (h : Held K V). LeadsAs same by_hasher hash (StepsCall i m g) s told after old h × IsAt same hash h after)
        (sym (held_as batch_size roots came.did.w2.memory came.memory (changed_by {S = S} same (StepsCall i m g) s) new.changed came.did.memory
        (of_some (λ it. changed_of s.world.memory g (machine_plan same same it.0.hash (machine_of it.1))) NoChange (call_at s i m) (came.standing, came.call) its_call)))
        (let so = one_call came.call came.here GoesTo (goes stand, refl) in ((came.progress, came.tells, λ k u has. (so k u has).0, λ k u has. (so k u has).1), there stand)))

  -- what a call is told, and asked for, and that it is given up
  abbrev Replied : MachineReply V → Result Unit (MachineReply V) → ℕ → UnderWay K V K → Type 0
  Replied reply result k u =
      (standing : Standing K) × (next : UnderWay K V K) × (s.maps k ≡ Some standing) × (machine_of next ≡ (machine_replied (machine_of u) reply).0)
      × (result ≡ (machine_replied (machine_of u) reply).1) × RepliedOfKind V same same batch_size roots slot_of standing i u reply next
      × (s.world.memory ≡ s.world.memory) × IsAt same hash (held_in batch_size roots NoChange s) (scene_with k i next s)

  abbrev RepliedTo : UnderWay K V K → MachineReply V → Result Unit (MachineReply V) → ℕ → UnderWay K V K → Type 0
  RepliedTo next reply result k u = (so : Replied reply result k u) × (is_err result ≡ true → so.1 ≡ u) × (scene_with m i next s ≡ scene_with k i so.1 s)

  pub told_as : (reply : MachineReply V) (told : Answer K V) → Led same by_hasher batch_size roots slot_of (TellsCall i m reply) s told n → Leads (TellsCall i m reply) told NoChange n
  told_as reply told (standing, stands, u, next, here, machine_is, told_is, kind, is) =
      onto (TellsCall i m reply) told NoChange (scene_with m i next s) is
      (λ stand. let there = calls_there same hash batch_size roots s before at (with_call s.calls m i (Some next)) NoChange stand in
      let so = one_call u here (RepliedTo next reply (machine_replied (machine_of u) reply).1) ((standing, next, stands, machine_is, refl, kind.0, refl, there), kind.1, refl) in
      (((machine_replied (machine_of u) reply).1, told_is, λ k v has. (so k v has).0, λ k v has. ((so k v has).1, (so k v has).2)), there))

  abbrev Asked : Bool → ℕ → UnderWay K V K → Type 0
  Asked ready k u =
      (next : UnderWay K V K) × (machine_of next ≡ (machine_asked (machine_of u)).0) × (ready ≡ (machine_asked (machine_of u)).1)
      × (s.world.memory ≡ s.world.memory) × IsAt same hash (held_in batch_size roots NoChange s) (scene_with k i next s)

  abbrev AskedOn : UnderWay K V K → Bool → ℕ → UnderWay K V K → Type 0
  AskedOn next ready k u = (so : Asked ready k u) × (so.0 ≡ asked_on u) × (scene_with m i next s ≡ scene_with k i so.0 s)

  pub asked_as : (told : Answer K V) → Led same by_hasher batch_size roots slot_of (AsksCall i m) s told n → Leads (AsksCall i m) told NoChange n
  asked_as told (u, here, told_is, is) =
      onto (AsksCall i m) told NoChange (scene_with m i (asked_on u) s) is
      (λ stand. let there = calls_there same hash batch_size roots s before at (with_call s.calls m i (Some (asked_on u))) NoChange stand in
      let so = one_call u here (AskedOn (asked_on u) (machine_asked (machine_of u)).1) ((asked_on u, asked_machine u, refl, refl, there), refl, refl) in
      (((machine_asked (machine_of u)).1, told_is, λ k v has. (so k v has).0, λ k v has. ((so k v has).1, (so k v has).2)), there))

  abbrev Stopped : Bool → ℕ → UnderWay K V K → Type 0
  Stopped stopped k u =
      (stopped ≡ (machine_asked (machine_of u)).1) × (s.world.memory ≡ s.world.memory)
      × IsAt same hash (held_in batch_size roots NoChange s) (record s { calls = with_call s.calls k i (unless_stopped stopped u) })

  abbrev StoppedTo : UnderWay K V K → Bool → ℕ → UnderWay K V K → Type 0
  StoppedTo it stopped k u =
      Stopped stopped k u × (record s { calls = with_call s.calls m i (unless_stopped stopped it) } ≡ record s { calls = with_call s.calls k i (unless_stopped stopped u) })

  pub stopped_as : (told : Answer K V) → Led same by_hasher batch_size roots slot_of (StopsCall i m) s told n → Leads (StopsCall i m) told NoChange n
  stopped_as told (u, here, told_is, is) =
      onto (StopsCall i m) told NoChange (record s { calls = with_call s.calls m i (unless_stopped (machine_asked (machine_of u)).1 u) }) is
      (λ stand. let there = calls_there same hash batch_size roots s before at (with_call s.calls m i (unless_stopped (machine_asked (machine_of u)).1 u)) NoChange stand in
      let so = one_call u here (StoppedTo u (machine_asked (machine_of u)).1) ((refl, refl, there), refl) in
      (((machine_asked (machine_of u)).1, told_is, λ k v has. (so k v has).0, λ k v has. (so k v has).1), there))
