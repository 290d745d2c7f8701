-- A registering asks for a bucket of slots where the first vacant slot may need one, and the slot behind it has no words.
use Rattle.std.specs.Prelude.{◌≡◌, ◌≤◌, ◌+◌, ◌&&◌, nat_lt, ℕ, Bool, true, false, length, Option, Some, None, IsSome, Ok, Err}
use Rattle.std.proofs.Common.{refl, ap, sym, subst, inl, inr, ◌∙◌, arith}
use Rattle.std.proofs.lemmas.Bool.{cases_lt}
use Rattle.run_grows.specs.Given.SeizeWordsDeclared.at.At.{At}
use Rattle.run_grows.specs.Given.SeizeWordsDeclared.at.At.TheVariants.{Slot}
use Rattle.run_grows.specs.Given.SeizeWordsDeclared.fault.Fault.TheVariants.{Memory}
use Rattle.run_grows.specs.Given.SeizeWordsMem.{Mem, Can, Took, value_at, word_at}
use Rattle.run_grows.specs.Given.SeizeWordsOp.{Out, Exchange, Room, Found, Stored, Exchanged, Made, Taken, Roomed}
use Rattle.run_grows.specs.Given.SeizeWordsPlace.{capacity}
use Rattle.run_grows.specs.Given.SeizeWordsPlan.{May, Steps}
use Rattle.run_grows.proofs.Given.SeizeWordsPlaces.Words.{capacity_le_capacity}
use Rattle.run_grows.specs.Given.SeizeDeclared.advance.Advance.{Advance}
use Rattle.run_grows.specs.Given.SeizeDeclared.advance.Advance.TheVariants as progress
use Rattle.run_grows.specs.Given.SeizeDeclared.rows.register.Register.{Register}
use Rattle.run_grows.specs.Given.SeizeDeclared.rows.register.Registering.{Registering}
use Rattle.run_grows.specs.Given.SeizeDeclared.rows.register.Registering.TheVariants as at
use Rattle.run_grows.specs.Given.SeizeDeclared.states.TheConstants.{HEAD, IDLE, LAST_SLOT}
use Rattle.run_grows.specs.Given.SeizeRegister.{MayNeedRoom, plan_at, refused, register_plan}
use Rattle.run_grows.specs.Given.SeizeSequence.{new_slot}
use Rattle.run_grows.specs.Given.SeizeWorld.{World, Registers, Use, registers_on}
use Rattle.run_grows.proofs.Given.SeizeRuleRows.Known.{works_on}
use Rattle.run_grows.proofs.Given.SeizeMemoryWords.Room.{slot_there}
use Rattle.run_grows.proofs.Given.SeizeRuleWorld.Good.{Good}
use Rattle.run_grows.proofs.Given.SeizeRuleWorld.Kept.{row_may}
use Rattle.run_grows.proofs.Given.SeizeSetsSlots.Registers.{Comes, GoesOn, IsRefused, NoneOnVacant, TakesFirst, registers_apart}
use Rattle.run_grows.specs.Given.TablesNodes.{deferred_word}
use Rattle.run_grows.specs.Given.TablesDeclared.node.Node.{Node}
use Rattle.run_logged.specs.Given.TellsSeen.{seen_of}
use Rattle.run_logged.specs.Given.TellerTells.{observed_of, StepsObserved}
use Rattle.run_logged.specs.Given.EffectsDeclared.changed.Changed.{Changed}
use Rattle.run_logged.specs.Given.EffectsDeclared.changed.Changed.TheVariants as changed
use Rattle.run_grows.proofs.Given.CallersTogether.Came.{came_reached}
use Rattle.run_logged.specs.Given.EffectsKnown.{Known}
use Rattle.run_grows.specs.Given.ScenesDeclared.row.RowTold.{RowTold}
use Rattle.run_grows.specs.Given.ScenesDeclared.row.SlotRow.{SlotRow}
use Rattle.run_grows.specs.Given.ScenesDeclared.row.SlotRow.TheVariants as rows
use Rattle.run_logged.specs.Given.RemainsSlots.{SlotsNoted}
use Rattle.run_logged.proofs.Rows.Taking.{OnIt}
use Rattle.run_grows.specs.Given.ScenesHeld.{Held}
use Rattle.run_grows.specs.Given.ScenesOnSlots.{RowSteps}
use Rattle.run_grows.specs.Given.ScenesScene.{Scene}

-- it asks for room of this bucket by its next step
abbrev pub AsksAt : Registering → ℕ → Type 0
AsksAt at.Begin bucket = bucket ≡ 0
AsksAt (at.Widen b seen) bucket = b ≡ bucket
AsksAt _ bucket = ⊥

module _ {K V : Type 0} (m m2 : Mem (Node K V)) (known : Known) (noted : SlotsNoted known m) (told : Changed) (bucket : ℕ) (had : Bool) (is : told ≡ changed.Roomed bucket had)
    (unknown : (had && nat_lt bucket known.buckets) ≡ false) where
  abbrev pub Lacks : Type 0
  Lacks = length m.slots + 32 ≡ capacity bucket

  -- a bucket that was not known was not there
  lacks_known : (b : ℕ) → capacity b ≤ length m.slots + 32 → b ≡ bucket → had ≡ true → Lacks
  lacks_known b can same_one true_had =
      let test : nat_lt bucket known.buckets ≡ false = ap (λ (q : Bool). q && nat_lt bucket known.buckets) (sym true_had) ∙ unknown in
      let low : known.buckets ≤ bucket = grind (arith, test) in
      let most = capacity_le_capacity known.buckets bucket low in
      let whole = noted.whole in
      let here = ap capacity same_one in
      omega (arith, most, whole, can, here)

  room_lacks : (b : ℕ) (out : Out (Node K V)) → Took m (Room b) out m2 → told ≡ observed_of (Room b) out (seen_of m (Room b) out) → Can m (Room b) → (b ≡ bucket) × Lacks
  room_lacks b (Roomed (Ok made)) took told_is can =
      let both : ◌≡◌ {A = Changed} (changed.Roomed b true) (changed.Roomed bucket had) = sym told_is ∙ is in
      let same_one : b ≡ bucket = cc both in
      let true_had : true ≡ had = cc both in
      (same_one, lacks_known b can.1 same_one (sym true_had))
  room_lacks b (Roomed (Err fault)) took told_is can =
      let both : ◌≡◌ {A = Changed} (changed.Roomed b false) (changed.Roomed bucket had) = sym told_is ∙ is in
      let same_one : b ≡ bucket = cc both in
      (same_one, took.0.1 ∙ ap capacity same_one)
  room_lacks b (Found word) took told_is can = absurd took.0
  room_lacks b Stored took told_is can = absurd took.0
  room_lacks b (Exchanged found) took told_is can = absurd took.0
  room_lacks b (Made made) took told_is can = absurd took.0
  room_lacks b (Taken value) took told_is can = absurd took.0

  none_told : {X : Type 0} → told ≡ changed.Nothing → X
  none_told none = absurd (cc (none, is))

  exchange_tells : (place : At) (old new : ℕ) (out : Out (Node K V)) → told ≡ observed_of (Exchange place old new) out (seen_of m (Exchange place old new) out) → ⊥
  exchange_tells place old new (Exchanged (Ok word)) told_is = cc (told_is, is)
  exchange_tells place old new (Exchanged (Err word)) told_is = cc (told_is, is)
  exchange_tells place old new (Found word) told_is = cc (told_is, is)
  exchange_tells place old new Stored told_is = cc (told_is, is)
  exchange_tells place old new (Made made) told_is = cc (told_is, is)
  exchange_tells place old new (Taken value) told_is = cc (told_is, is)
  exchange_tells place old new (Roomed roomed) told_is = cc (told_is, is)

  pub lacks_at : (c : Register) (p : Registering) (end : Register × Advance ℕ) → StepsObserved K V (Register × Advance ℕ) m changed.Nothing (plan_at c p) m2 told end → May Can Took value_at m (plan_at {T = Node K V} c p)
      → AsksAt p bucket × Lacks
  lacks_at c at.Begin end s may = let r = room_lacks 0 s.0 s.1.0 s.1.1 may.0 in (sym r.0, r.1)
  lacks_at c at.Look end s may = none_told s.1.1
  lacks_at c (at.Widen b seen) end s may = room_lacks b s.0 s.1.0 s.1.1 may.0
  lacks_at c (at.Take seen) end s may = absurd (exchange_tells (Slot c.slot HEAD) seen IDLE s.0 s.1.1)
  lacks_at c at.Enter end s may = absurd (let told_is = s.1.1 in cc (told_is, is))
  lacks_at c at.Registered end s may = none_told s.2
  lacks_at c (at.Refused fault) end s may = none_told s.2

-- where room of the bucket might be refused, the row might be refused for it
refused_at : {T : Type 0} (m : Mem T) (bucket : ℕ) → length m.slots + 32 ≡ capacity bucket → (c : Register) (p : Registering) → AsksAt p bucket → Steps Took value_at m (plan_at c p) m (refused c Memory)
refused_at m bucket lacks c at.Begin asks = (Roomed (Err Memory), ((refl, lacks ∙ ap capacity asks), refl), refl)
refused_at m bucket lacks c (at.Widen b seen) asks = (Roomed (Err Memory), ((refl, lacks ∙ ap capacity (sym asks)), refl), refl)
refused_at m bucket lacks c _ asks = absurd asks

-- the first vacant slot may need a bucket, and no slot behind the one behind it has words
abbrev pub NeedsSlot : {T : Type 0} → (ℕ → Use) → Mem T → Type 0
NeedsSlot uses m = (slot : ℕ) × (new_slot uses ≡ Some slot) × MayNeedRoom slot × (length m.slots ≤ slot + 1)

module _ {K V : Type 0} (same : K → K → Bool) (hash : ℕ → K → ℕ) (i : ℕ) (s : Scene K V) (size : ℕ) (enters : Bool) (apart : NoneOnVacant i s.world) where
  module _ (e : Held K V) (c : Register) (here : OnIt same hash i s size enters apart e c) where
    abbrev now : World (Node K V)
    now = here.w

    good : Good deferred_word (LAST_SLOT + 1) size now
    good = (came_reached size now here.came).good

    apart_then : NoneOnVacant i now
    apart_then j t other at_it vacant =
        apart j t other (sym (ap works_on (here.others j other)) ∙ at_it) (sym (ap (λ (f : ℕ → Use). f t) here.on.uses_same) ∙ vacant)

    few : (slot : ℕ) → word_at now.memory (Slot (slot + 1) HEAD) ≡ None → length now.memory.slots ≤ slot + 1
    few slot none = elim (cases_lt (slot + 1) (length now.memory.slots)) as (λ _. length now.memory.slots ≤ slot + 1) [
      | inl there ↦ absurd (let some : IsSome {T = ℕ} None = subst (λ (o : Option ℕ). IsSome o) none (slot_there now.memory (slot + 1) HEAD good.room.bucketed there (omega arith)) in cc some)
      | inr past ↦ past
    ]

    might_be_refused : (bucket : ℕ) → length now.memory.slots + 32 ≡ capacity bucket → AsksAt c.stands bucket → Comes s.world.uses enters i (registers_on now i c now.memory (refused c Memory)) (refused c Memory)
    might_be_refused bucket lacks asks =
        registers_apart deferred_word (LAST_SLOT + 1) refl now good i c here.row apart_then s.world.uses enters here.on (registers_on now i c now.memory (refused c Memory)) now.memory (refused c Memory)
        (refused_at now.memory bucket lacks c c.stands asks) refl

    needs_by : Comes s.world.uses enters i (registers_on now i c now.memory (refused c Memory)) (refused c Memory) → NeedsSlot s.world.uses now.memory
    needs_by (GoesOn c2 is row2 on2) = absurd (let told = ap (λ (q : Register × Advance ℕ). q.1) is in cc told)
    needs_by (TakesFirst c2 slot is row2 first used2) = absurd (let told = ap (λ (q : Register × Advance ℕ). q.1) is in cc told)
    needs_by (IsRefused c2 fault is row2 used2 (inl (memory, needs))) = (needs.0, needs.1, needs.2, few needs.0 needs.4)
    needs_by (IsRefused c2 fault is row2 used2 (inr (used_up, none))) =
        absurd (let told : progress.Refused Memory ≡ progress.Refused fault = ap (λ (q : Register × Advance ℕ). q.1) is in let memory : Memory ≡ fault = cc told in cc (memory, used_up))

    -- where a bucket is asked for that is not known
    pub asks_in_need : (m2 : Mem (Node K V)) (told : Changed) (after : SlotRow) (said : RowTold (Node K V)) → RowSteps K V (rows.Registers c) e.memory m2 told (after, said)
        → (known : Known) → SlotsNoted known e.memory → (bucket : ℕ) (had : Bool) → told ≡ changed.Roomed bucket had → (had && nat_lt bucket known.buckets) ≡ false → NeedsSlot s.world.uses e.memory
    asks_in_need m2 told after said went known noted bucket had is unknown =
        subst (λ (m : Mem (Node K V)). NeedsSlot s.world.uses m) here.memory (needs_by (might_be_refused bucket lacks.1 lacks.0))
      where
        lacks : AsksAt c.stands bucket × (length now.memory.slots + 32 ≡ capacity bucket)
        lacks =
            lacks_at now.memory m2 known (subst (λ (m : Mem (Node K V)). SlotsNoted known m) (sym here.memory) noted) told bucket had is unknown c c.stands went.0
            (subst (λ (m : Mem (Node K V)). StepsObserved K V (Register × Advance ℕ) m changed.Nothing (register_plan c) m2 told went.0) (sym here.memory) went.1)
            (row_may deferred_word (LAST_SLOT + 1) size refl now good i (Registers c) here.row)
