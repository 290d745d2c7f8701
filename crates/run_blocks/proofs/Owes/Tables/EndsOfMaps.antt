-- A step of the end of a map takes no table that is not linked: what it takes was in use, or was left over, or is the map's counter.
use Rattle.std.specs.Prelude.{◌≡◌, ℕ, Bool, List, Some, None}
use Rattle.std.proofs.Common.{refl, ap, ◌∙◌, inl, inr}
use Rattle.run_debts.specs.Given.SeizeDeclared.rows.settle.Settled.{Settled}
use Rattle.run_debts.specs.Given.SeizeDeclared.rows.settle.Settled.TheVariants as settled
use Rattle.run_debts.specs.Given.TablesDeclared.node.Node.{Node}
use Rattle.run_debts.specs.Given.RawDeclared.machines.end_map.EndMap.{EndMap}
use Rattle.run_debts.specs.Given.SchedulesEffects.{with_effects}
use Rattle.run_debts.specs.Given.SchedulesMoment.{Moment}
use Rattle.run_debts.specs.Given.EffectsDeclared.changed.Changed.{Changed}
use Rattle.run_debts.specs.Given.EffectsDeclared.changed.Changed.TheVariants as changed
use Rattle.run_debts.specs.Given.EffectsEffects.{effects_of, known_after}
use Rattle.run_debts.specs.Given.EffectsKnown.{Known}
use Rattle.run_debts.specs.Given.EffectsDeclared.acting.Acting.{Acting}
use Rattle.run_debts.specs.Given.EffectsDeclared.acting.Acting.TheVariants as acts
use Rattle.run_debts.specs.Given.EffectsDeclared.role.Role.{Role}
use Rattle.run_debts.specs.Given.EffectsDeclared.role.Role.TheVariants as role
use Rattle.run_debts.specs.Given.FinishesEndings.{Finishing, StepsOfEnding}
use Rattle.run_debts.specs.Given.FollowsShows.{Refines}
use Rattle.run_debts.specs.Given.OthersEndings.{ending_after}
use Rattle.run_debts.proofs.Given.OthersQuiet.{calls_none}
use Rattle.run_blocks.specs.Owes.Tables.{RefinesOwnTables}
use Rattle.run_blocks.specs.Owes.TablesBeside.{EndingsPreserveOwnTables}
use Rattle.run_blocks.proofs.Owes.Lasting.{ending_says, ending_keeps_held}
use Rattle.run_blocks.proofs.Owes.Tables.Aside.{AreTables, tables_still}
use Rattle.run_blocks.proofs.Owes.Tables.Held.{held_by}
use Rattle.run_blocks.proofs.Owes.Tables.Roles.{own_table_of, put_table}
use Rattle.run_debts.specs.Given.ScenesEnding.{EndingHasOutcome, EndingStepsFrom}
use Rattle.run_debts.specs.Given.ScenesHeld.{Held, IsAt}
use Rattle.run_debts.specs.Given.ScenesScene.{Scene, slot_of}

module _ {K V : Type 0} (same : K → K → Bool) (hash : ℕ → K → ℕ) (name : ℕ → List ℕ) (m : Moment K V) (known : Known) (s : Scene K V) (old new : Held K V) (at : IsAt same hash old s)
    (shown : Refines same name m known s) (tables : RefinesOwnTables name m known s) (i : ℕ) (f : Finishing K V) (here : s.enders i ≡ Some f) (end : EndMap) (said : Settled (Node K V))
    (steps : EndingStepsFrom f.machine old new end said)
    (did : StepsOfEnding V same same old.batch_size old.roots slot_of s.world s.maps s.calls s.makers s.enders i f new.memory (end, said))
    (map : ℕ) (not_there : s.maps map ≡ None) (comes : EndingHasOutcome same hash s new i f end did.w2 did.deed said) where
  abbrev told : Changed
  told = new.changed

  abbrev its : Acting
  its = acts.Ending map

  -- what it takes is no table that a call or a making has
  none_taken : (b : ℕ) → told ≡ changed.Took b → (r : Role) → known.roles b ≡ r → own_table_of role.Free ≡ own_table_of r
  none_taken b took (role.OwnTable turn shape) e =
      absurd (let it = tables.whose b turn shape e in
      ending_keeps_held same hash name m known s old new at shown i f here end said steps did map not_there comes b it.0 (held_by same hash name m known s old at shown it.0 b it.1) took)
  none_taken b took role.Free e = refl
  none_taken b took (role.OwnPair j) e = refl
  none_taken b took (role.Pair n) e = refl
  none_taken b took (role.Table t len) e = refl
  none_taken b took (role.Counter of) e = refl

  same_tables : AreTables known (known_after its told known)
  same_tables b =
      elim (ending_says same hash name m known s old new at shown i f here end said steps did map not_there comes)
      as (λ _. own_table_of ((known_after its told known).roles b) ≡ own_table_of (known.roles b)) [
        | inl it ↦ ap (λ (g : ℕ → Role). own_table_of (g b)) it.1
        | inr it ↦
            ap (λ (x : Changed). own_table_of ((known_after its x known).roles b)) it.1 ∙ put_table it.0 role.Free known.roles (none_taken it.0 it.1 (known.roles it.0) refl) b
      ]

  same_calls : (t : Settled (Node K V)) (there : EndingHasOutcome same hash s new i f end did.w2 did.deed t) → (ending_after same hash s new i f end did.w2 did.deed t there).calls ≡ s.calls
  same_calls settled.Goes there = refl
  same_calls settled.Waits there = refl
  same_calls (settled.Gave value) there = refl
  same_calls settled.Done there = refl

  same_makers : (t : Settled (Node K V)) (there : EndingHasOutcome same hash s new i f end did.w2 did.deed t) → (ending_after same hash s new i f end did.w2 did.deed t there).makers ≡ s.makers
  same_makers settled.Goes there = refl
  same_makers settled.Waits there = refl
  same_makers (settled.Gave value) there = refl
  same_makers settled.Done there = refl

  pub ending_keeps : RefinesOwnTables name (with_effects None (Some map) (effects_of its known told) m) (known_after its told known) (ending_after same hash s new i f end did.w2 did.deed said comes)
  ending_keeps =
      tables_still name m (with_effects None (Some map) (effects_of its known told) m) known s (ending_after same hash s new i f end did.w2 did.deed said comes) tables
      (calls_none (Some map) (effects_of its known told) m) (same_calls said comes) (known_after its told known) (same_makers said comes) same_tables

module _ (K V : Type 0) (same : K → K → Bool) (hash : ℕ → K → ℕ) where
  pub endings_keep_tables : EndingsPreserveOwnTables K V same hash
  endings_keep_tables name m known s old new at shown tables i told leads f here map not_there =
      let to = leads f here in ending_keeps same hash name m known s old new at shown tables i f here to.0 told to.1 to.2 map not_there to.3
