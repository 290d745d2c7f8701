-- Who registers asks for a bucket of words of slots where it needs one, and it is the next one that is not there.
use Rattle.std.specs.Prelude.{◌≡◌, ◌+◌, ℕ, Bool, true, length, Some}
use Rattle.std.specs.List.{list_any}
use Rattle.std.proofs.Common.{ap, sym, subst, ◌∙◌, inl, inr}
use Rattle.run_schedules.specs.Given.SeizeWordsMem.{Can, Took, value_at}
use Rattle.run_schedules.specs.Given.SeizeWordsPlan.{May}
use Rattle.run_legal.proofs.Given.SeizeWordsPlaces.Words.{capacity-one_to_one}
use Rattle.run_legal.specs.Given.SeizeRegister.{register_plan}
use Rattle.seize_acts.specs.Given.SeizeWorld.{Row}
use Rattle.seize_acts.specs.Given.SeizeDeclared.rows.register.Register.{Register}
use Rattle.seize_acts.specs.Given.SeizeDeclared.rows.register.Registering.{Registering}
use Rattle.seize_acts.specs.Given.SeizeDeclared.rows.register.Registering.TheVariants as registering
use Rattle.seize_acts.specs.Given.SeizeDeclared.states.TheConstants.{LAST_SLOT}
use Rattle.seize_acts.proofs.Given.SeizeMovesState.Ghost.{State as Ghost}
use Rattle.seize_acts.proofs.Given.SeizeRuleRows.Known.{FitsRegister, FitsRow}
use Rattle.seize_acts.proofs.Given.SeizeMemoryWords.Shows.{Extra}
use Rattle.seize_acts.proofs.Given.SeizeMemoryWords.View.{view}
use Rattle.seize_acts.proofs.Given.SeizeRuleWorld.Good.{Good}
use Rattle.run_legal.specs.Given.TablesNodes.{deferred_word}
use Rattle.run_legal.specs.Given.TablesDeclared.node.Node.{Node}
use Rattle.run_schedules.specs.Schedules.Handing.{asks_for_bucket}
use Rattle.run_legal.specs.Given.EffectsEffects.{effects_of}
use Rattle.run_legal.specs.Given.EffectsDeclared.acting.Acting.TheVariants as acts
use Rattle.run_legal.specs.Given.RemainsSlots.{SlotsNoted}
use Rattle.run_legal.specs.Given.ScenesHeld.{Held, IsAt}
use Rattle.run_legal.specs.Given.ScenesOnSlots.{RowLeads}
use Rattle.run_legal.specs.Given.ScenesScene.{IsOnSlot, Scene}
use Rattle.run_legal.specs.Given.ScenesDeclared.row.RowTold.{RowTold}
use Rattle.run_legal.specs.Given.ScenesDeclared.row.SlotRow.{SlotRow}
use Rattle.run_legal.specs.Given.ScenesDeclared.row.SlotRow.TheVariants as rows
use Rattle.run_legal.proofs.Given.CallersTogether.Came.{came_reached}
use Rattle.run_legal.proofs.Given.ScenesMay.{may_row}
use Rattle.run_legal.proofs.Given.NeedsSteps.{registers_tell}
use Rattle.run_schedules.specs.Deeds.History.{NeedsBucket, buckets}
use Rattle.play_linear.specs.Given.PlayedPlay.{State}
use Rattle.play_moves.proofs.EachMoves.Buckets.{BucketsHold}
use Rattle.run_legal.proofs.Works.Needs.{asked_is}
use Rattle.run_legal.proofs.Works.Registering.{AsksAt, lacks_at}

-- what a row knows that asks for room of the bucket that is not there
needs_at : (n i : ℕ) (m : Ghost) (x : Extra) (k slot bucket there : ℕ) (p : Registering) → FitsRegister n i m x k slot p → AsksAt p bucket → bucket ≡ there → NeedsBucket slot there
needs_at n i m x k slot bucket there registering.Begin knows asks is = inl (knows.first, sym is ∙ asks)
needs_at n i m x k slot bucket there (registering.Widen b seen) knows asks is = inr (knows.needed ∙ ap Some (asks ∙ is))
needs_at n i m x k slot bucket there _ knows asks is = absurd asks

module _ {K V S : Type 0} (same : K → K → Bool) (hash : ℕ → K → ℕ) (x : State K V S) (s : Scene K V) (old new : Held K V) (at : IsAt same hash old s) (memory : x.now.memory ≡ old.memory) (here : BucketsHold x)
    (i : ℕ) (said : RowTold (Node K V)) (leads : RowLeads same hash i said s old new) where
  good : Good deferred_word (LAST_SLOT + 1) old.batch_size s.world
  good = (came_reached old.batch_size s.world at.together.makings.standing.came).good

  noted : SlotsNoted x.known old.memory
  noted = subst (SlotsNoted x.known) memory here.slots

  module _ (c : Register) (on : IsOnSlot s i (rows.Registers c)) where
    fits : FitsRegister (LAST_SLOT + 1) i good.state good.extra (length s.world.memory.slots) c.slot c.stands
    fits = subst (λ (r : Row). FitsRow (LAST_SLOT + 1) i (view deferred_word s.world.memory) good.state good.extra (length s.world.memory.slots) r) on.1 (good.rows i)

    may : May Can Took value_at old.memory (register_plan {T = Node K V} c)
    may = may_row same hash old s at i (rows.Registers c) on

    pub needs : list_any asks_for_bucket (effects_of acts.Row x.known new.changed) ≡ true → NeedsBucket c.slot (buckets x.history)
    needs asked =
        let to = leads (rows.Registers c) on in
        let room = asked_is x.known new.changed (registers_tell old.memory new.memory new.changed (to.0, said) c to.1) asked in
        let lacks = lacks_at old.memory new.memory x.known noted new.changed room.0 room.1 room.2 room.3 c c.stands to.1.0 to.1.1 may in
        needs_at (LAST_SLOT + 1) i good.state good.extra (length s.world.memory.slots) c.slot room.0 (buckets x.history) c.stands fits lacks.0
        (capacity-one_to_one room.0 x.known.buckets (sym lacks.1 ∙ noted.whole) ∙ here.granted)

  -- So it is of the row that takes its step.
  pub row_needs : (row : SlotRow) → IsOnSlot s i row → (c : Register) → row ≡ rows.Registers c → list_any asks_for_bucket (effects_of acts.Row x.known new.changed) ≡ true → NeedsBucket c.slot (buckets x.history)
  row_needs row on c is asked = needs c (subst (IsOnSlot s i) is on) asked
