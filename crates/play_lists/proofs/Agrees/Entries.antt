-- What is so of a history, and of each entry that one step makes of it, is so wherever a list has led.
use Rattle.std.specs.Prelude.{◌==◌, Bool, true, false, is_ok, length, if◌then◌else◌}
use Rattle.std.proofs.Common.{◌≡◌, ℕ, List, [], ◌∷◌, refl, sym, subst}
use Rattle.seize_acts.specs.Acts.Answers.{Grant}
use Rattle.seize.specs.ReclaimAll.{reclaim_all_plan}
use Rattle.seize.specs.declared.rows.leave.Leave.{Leave}
use Rattle.seize.specs.declared.rows.leave.Leaving.{Leaving}
use Rattle.seize.specs.declared.rows.leave.Leaving.TheVariants as leaves
use Rattle.seize.specs.declared.rows.register.Registering.{Registering}
use Rattle.seize.specs.declared.rows.register.Registering.TheVariants as registers
use Rattle.seize.specs.declared.rows.settle.Settled.{Settled}
use Rattle.seize.specs.declared.states.TheConstants.{ACTIVE}
use Rattle.map_tables.specs.Nodes.{deferred_word, was_left}
use Rattle.run_kept.specs.Given.ResizeNewMap.{new_map_plan}
use Rattle.run_finds.specs.Given.ResizeDeclared.new_map.NewMap.{NewMap}
use Rattle.run_schedules.specs.Given.RawEndMap.{end_map_plan}
use Rattle.run_finds.specs.Given.RawMachine.{machine_asked, machine_plan, machine_replied}
use Rattle.run_kept.specs.Given.EffectsDeclared.changed.Changed.{Changed}
use Rattle.many_acts.specs.Given.ScenesScene.{row_of, slot_of}
use Rattle.many_acts.specs.Given.ScenesDeclared.row.SlotRow.{SlotRow}
use Rattle.many_acts.specs.Given.ScenesDeclared.row.SlotRow.TheVariants as rows
use Rattle.run_schedules.specs.declared.outcome.Outcome.{Outcome}
use Rattle.run_schedules.specs.declared.outcome.Outcome.TheVariants as outcome
use Rattle.run_kept.specs.Given.EffectsEffects.{effects_of, known_after}
use Rattle.run_kept.specs.Given.EffectsKnown.{Known}
use Rattle.run_kept.specs.Given.EffectsDeclared.acting.Acting.{Acting}
use Rattle.run_kept.specs.Given.EffectsDeclared.acting.Acting.TheVariants as acting
use Rattle.run_finds.specs.Given.NamedSeen.{kind_of}
use Rattle.many_acts.specs.Acts.Acts.{Act, BeginsCall, StepsCall, TellsCall, AsksCall, StopsCall, BeginsMaking, StepsMaking, BeginsEnding, StepsEnding, BeginsRow, StepsRow}
use Rattle.many_acts.specs.Acts.AsSteps.{changed_of, row_changed}
use Rattle.run_schedules.specs.Deeds.Deeds.{Deed, Begins, Steps, Replies, Stops, Opens, Leaves, MapComes, Makes, MapFails, Ends, MapGoes, ReclaimsAll, Entry}
use Rattle.play_lists.specs.Played.Play.{Ending, State, call_for, ending_deed, has_root, is_over, is_refusal, leaves_as, making_deed, making_outcome, outcome_of, pairs_for, registers_as, reply_for, row_deed, row_outcome, settled_outcome}
use Rattle.play_lists.proofs.Played.Along.{StaysSo}
use Rattle.play_lists.proofs.Played.Noted.{Anything}
use Rattle.play_lists.proofs.Played.PlayedAs.{PlayedAs, ReclaimedAs, played_as, reclaimed_as}

module _ {K V : Type 0} where
  -- a call begins within the section of its caller's slot
  abbrev pub BeginsOnIts : Deed K V → Type 0
  BeginsOnIts (Begins i s map call) = s ≡ slot_of i
  BeginsOnIts deed = Unit {0}

  if_its : (b : Bool) (d e : Deed K V) → BeginsOnIts d → BeginsOnIts e → BeginsOnIts (if b then d else e)
  if_its true d e its other = its
  if_its false d e its other = other

-- no deed of makings, ends and rows begins a call
module _ (K V : Type 0) where
  making_its : (on : ℕ) (before next : NewMap) → BeginsOnIts {K = K} {V = V} (making_deed on before next)
  making_its on before next =
      if_its (has_root before.stands) (if has_root next.stands then Makes on else MapFails on)
      (if has_root next.stands then MapComes on next.setting.root next.setting.mode (pairs_for next.len) else Makes on)
      (if_its (has_root next.stands) (Makes on) (MapFails on) tt tt)
      (if_its (has_root next.stands) (MapComes on next.setting.root next.setting.mode (pairs_for next.len)) (Makes on) tt tt)

  ending_its : {T : Type 0} (f : Ending) (told : Settled T) → BeginsOnIts {K = K} {V = V} (ending_deed f told)
  ending_its f told = if_its (is_over told) (MapGoes f.map) (Ends f.map) tt tt

  registers_its : (stands : Registering) (s : ℕ) → BeginsOnIts {K = K} {V = V} (registers_as stands s)
  registers_its registers.Enter s = tt
  registers_its registers.Begin s = tt
  registers_its registers.Look s = tt
  registers_its (registers.Widen bucket seen) s = tt
  registers_its (registers.Take seen) s = tt
  registers_its registers.Registered s = tt
  registers_its (registers.Refused fault) s = tt

  leaves_its : (c : Leave) (stands : Leaving) → BeginsOnIts {K = K} {V = V} (leaves_as c stands)
  leaves_its c leaves.Swaps = tt
  leaves_its c (leaves.Settles settle) = tt
  leaves_its c leaves.Frees = tt
  leaves_its c leaves.Over = if_its (c.becomes == ACTIVE) (Opens c.slot) (Leaves c.slot) tt tt

  row_its : (row : SlotRow) → BeginsOnIts {K = K} {V = V} (row_deed row)
  row_its (rows.Registers c) = registers_its c.stands c.slot
  row_its (rows.Enters c) = tt
  row_its (rows.Leaves c) = leaves_its c c.stands
  row_its (rows.Flushes c) = tt
  row_its (rows.Frees c) = tt

-- One entry more leaves it so, if it is one without an operation, or one that says what an operation has changed.
pub record Grows (K V : Type 0) (P : List (Entry K V) → Type 0) : Type 0 where
  pub quiet : (log : List (Entry K V)) (d : Deed K V) (o : Outcome V) → BeginsOnIts d → P log → P (record { deed = d; outcome = o; effects = []; refused = false } ∷ log)
  pub works : (log : List (Entry K V)) (who : Acting) (known : Known) (changed : Changed) (d : Deed K V) (o : Outcome V) → BeginsOnIts d → P log
      → P (record { deed = d; outcome = o; effects = effects_of who known changed; refused = is_refusal changed } ∷ log)

module _ {K V S : Type 0} (same : K → K → Bool) (by_hasher : S → K → ℕ) (batch_size roots : ℕ) (aborts : ℕ → V) (P : List (Entry K V) → Type 0) (grows : Grows K V P) (x y : State K V S) where
  abbrev Has : State K V S → Type 0
  Has v = P v.history

  perhaps_so : (taken : Bool) (d : Deed K V) (o : Outcome V) → BeginsOnIts d → Has x → P (if taken then record { deed = d; outcome = o; effects = []; refused = false } ∷ x.history else x.history)
  perhaps_so true d o its so = grows.quiet x.history d o its so
  perhaps_so false d o its so = so

  -- So it is after each act,
  acts_so : (act : Act K V S) → PlayedAs same by_hasher batch_size roots aborts x y act → Has x → Has y
  acts_so (BeginsCall i m wanted) (at, there, is) so = subst Has (sym is) (grows.quiet x.history (Begins i (slot_of i) m (call_for wanted)) outcome.Goes refl so)
  acts_so (StepsCall i m g) (at, stands, (c, here, end, came, is)) so =
      let change = changed_of x.now.memory g (machine_plan same same (by_hasher at.1) c.machine) in
      subst Has (sym is)
      (grows.works x.history (acting.Call i m) x.known change (Steps i) (outcome_of (known_after (acting.Call i m) change x.known) (kind_of c.call) c.value end.1.1) tt so)
  acts_so (TellsCall i m reply) (c, here, is) so =
      subst Has (sym is) (perhaps_so (is_ok (machine_replied c.machine reply).1) (Replies i (reply_for (aborts (length x.told)) reply)) outcome.Goes tt so)
  acts_so (AsksCall i m) (c, here, is) so = subst Has (sym is) so
  acts_so (StopsCall i m) (c, here, is) so = subst Has (sym is) (perhaps_so (machine_asked c.machine).1 (Stops i) outcome.Done tt so)
  acts_so (BeginsMaking i on hasher given places) is so = subst Has (sym is) so
  acts_so (StepsMaking i g) (b, here, end, came, is) so =
      subst Has (sym is)
      (grows.works x.history (acting.Making b.map) x.known (changed_of x.now.memory g (new_map_plan {K = K} {V = V} b.machine)) (making_deed b.map b.machine end.1.0) (making_outcome end.1.1)
      (making_its K V b.map b.machine end.1.0) so)
  acts_so (BeginsEnding i m) (at, there, is) so = subst Has (sym is) so
  acts_so (StepsEnding i g) (f, here, end, came, is) so =
      subst Has (sym is)
      (grows.works x.history (acting.Ending f.map) x.known (changed_of x.now.memory g (end_map_plan {K = K} {V = V} f.machine)) (ending_deed f end.1.1) (settled_outcome end.1.1) (ending_its K V f end.1.1) so)
  acts_so (BeginsRow i request) (called, there, is) so = subst Has (sym is) so
  acts_so (StepsRow i g) (row, here, end, came, is) so =
      subst Has (sym is) (grows.works x.history acting.Row x.known (row_changed (row_of row) g x.now.memory) (row_deed row) (row_outcome end.1.1) (row_its K V row) so)

  -- and after a step that reclaims all.
  reclaiming_so : (g : Grant) → ReclaimedAs same by_hasher batch_size roots aborts x y g → Has x → Has y
  reclaiming_so g (c, here, end, came, is) so =
      subst Has (sym is)
      (grows.works x.history acting.Row x.known (changed_of x.now.memory g (reclaim_all_plan deferred_word was_left c)) (ReclaimsAll (is_over end.1.1)) (settled_outcome end.1.1) tt so)

module _ {K S : Type 0} (V : Type 0) (same : K → K → Bool) (by_hasher : S → K → ℕ) (hash : ℕ → K → ℕ) (batch_size roots : ℕ) (aborts : ℕ → V) where
  pub histories_grow : (P : List (Entry K V) → Type 0) → Grows K V P
      → StaysSo V same by_hasher hash batch_size roots aborts (Anything V same by_hasher hash batch_size roots aborts) (λ p x. P x.history)
  histories_grow P grows = record {
    acts = λ p n x y act told own fits none none_then is is_then at may led leads at_then played so.
        acts_so same by_hasher batch_size roots aborts P grows x y act (played_as same by_hasher batch_size roots aborts x y act played) so;
    begins = λ p n x i c none begun same_scene all_free is is_then at so. so;
    steps = λ p n x y told g st is is_then at leads scene played so.
        reclaiming_so same by_hasher batch_size roots aborts P grows x y g (reclaimed_as same by_hasher batch_size roots aborts x y g played) so;
    chooses = λ p n x choice none none_then scene is is_then at so. so;
  }
