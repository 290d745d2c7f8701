-- The counters of makings are noted after a step of a call, of a row, and of an end.
use Rattle.std.specs.Prelude.{◌≡◌, ℕ, Bool, Some}
use Rattle.std.proofs.Common.{sym, subst, ◌∙◌, inl, inr}
use Rattle.std.proofs.lemmas.Bool.{cases_eq}
use Rattle.seize.specs.declared.rows.settle.Settled.{Settled}
use Rattle.seize.specs.declared.rows.settle.Settled.TheVariants as settled
use Rattle.run_effects.specs.Given.TablesDeclared.node.Node.{Node}
use Rattle.run_effects.specs.Given.RawEndMap.{end_map_plan}
use Rattle.run_effects.specs.Given.RawMachine.{machine_plan}
use Rattle.run_effects.specs.Given.RawDeclared.machines.end_map.EndMap.{EndMap}
use Rattle.many_maps.proofs.Given.CallersTogether.At.{at_other, at_same}
use Rattle.many_maps.specs.Endings.{StepsOfEnding}
use Rattle.many_maps.specs.Makings.{Beginning, HasMade}
use Rattle.many_maps.specs.Machines.{machine_of}
use Rattle.run_effects.specs.Effects.Effects.{known_after}
use Rattle.run_effects.specs.declared.acting.Acting.TheVariants as acts
use Rattle.run_effects.specs.declared.role.Role.TheVariants.{Counter}
use Rattle.run_shows.proofs.Follows.Operations.{Operated, operated}
use Rattle.run_shows.specs.Others.Counters.{NotesCounters, BeginningsNoteCounters, CallsNoteCounters, RowsNoteCounters, EndingsNoteCounters}
use Rattle.run_shows.specs.Others.Endings.{ending_after}
use Rattle.run_shows.proofs.Others.Noted.{counters_on}
use Rattle.run_shows.proofs.Others.RowPlans.{row_operated}
use Rattle.run_shows.proofs.Scenes.May.{may_end, may_row, may_step}
use Rattle.run_shows.specs.Scenes.Ending.{EndingHasOutcome, EndingStepsFrom}
use Rattle.run_shows.specs.Scenes.Held.{IsAt}
use Rattle.run_shows.specs.Scenes.Scene.{Scene, slot_of}
use Rattle.run_shows.specs.Scenes.Stepping.{scene_after}
use Rattle.seize_words.proofs.General.{same_some as one_of}

pub beginnings_note_counters : (K V : Type 0) → BeginningsNoteCounters K V
beginnings_note_counters K V known s notes i b none j d is made = elim (cases_eq j i) as (λ _. known.roles d.machine.setting.counter ≡ Counter d.map) [
  | inl e ↦
      let its : b ≡ d = one_of b d (sym (at_same s.makers i (Some b) j e) ∙ is) in
      absurd (none (subst (λ (x : Beginning K). HasMade x.machine.stands) (sym its) made))
  | inr ne ↦ notes j d (sym (at_other s.makers i (Some b) j ne) ∙ is) made
]

module _ (K V : Type 0) (same : K → K → Bool) (hash : ℕ → K → ℕ) where
  pub calls_note_counters : CallsNoteCounters K V same hash
  calls_note_counters name m known s old new at shown notes map i u here told leads =
      let to = leads map u here in
      counters_on same hash m known s (scene_after same s old new map i to.0 u to.1 told to.4) old new at to.5 shown.blocks
      (operated old.memory new.memory new.changed (machine_plan same same to.0.hash (machine_of u)) (to.1, told) (may_step same hash old s at map to.0 to.2 i u here) to.3) (acts.Call i map)
      (λ j b is. is) notes

  pub rows_note_counters : RowsNoteCounters K V same hash
  rows_note_counters name m known s old new at shown notes i told leads row here =
      let to = leads row here in
      counters_on same hash m known s (record s { world = to.2.0; maps = to.2.2 }) old new at to.2.4 shown.blocks
      (row_operated old.memory new.memory new.changed (to.0, told) row (may_row same hash old s at i row here) to.1) acts.Row
      (λ j b is. is) notes

  pub endings_note_counters : EndingsNoteCounters K V same hash
  endings_note_counters name m known s old new at shown notes i told leads f here map = by told to.3
    where
      to : (end : EndMap) × EndingStepsFrom f.machine old new end told
          × (did : StepsOfEnding V same same old.batch_size old.roots slot_of s.world s.maps s.calls s.makers s.enders i f new.memory (end, told)) × EndingHasOutcome same hash s new i f end did.w2 did.deed told
      to = leads f here

      op : Operated old.memory new.memory new.changed
      op =
          let may = may_end same hash old s at i f here in
          operated old.memory new.memory new.changed (end_map_plan f.machine) (to.0, told) may to.1

      on : (s2 : Scene K V) → IsAt same hash new s2 → ((j : ℕ) (b : Beginning K) → s2.makers j ≡ Some b → s.makers j ≡ Some b) → NotesCounters (known_after (acts.Ending map) new.changed known) s2
      on s2 at2 was = counters_on same hash m known s s2 old new at at2 shown.blocks op (acts.Ending map) was notes

      by : (t : Settled (Node K V)) (comes : EndingHasOutcome same hash s new i f to.0 to.2.w2 to.2.deed t) → NotesCounters (known_after (acts.Ending map) new.changed known) (ending_after same hash s new i f to.0 to.2.w2 to.2.deed t comes)
      by settled.Goes comes = on _ comes.1 (λ j b is. is)
      by settled.Waits comes = absurd comes
      by (settled.Gave value) comes = on _ comes.3 (λ j b is. is)
      by settled.Done comes = on _ comes.2 (λ j b is. is)
