-- A step of the end of a map takes no block for a pair that is not stored: what it takes was in use, or was left over, or is the map's counter.
use Rattle.std.specs.Prelude.{◌≡◌, ℕ, Bool, List, Some, None, ◌⊎◌}
use Rattle.std.proofs.Common.{refl, ap, sym, subst, ◌∙◌, inl, inr}
use Rattle.run_debts.specs.Given.SeizeWorld.{World}
use Rattle.run_debts.specs.Given.SeizeDeclared.rows.settle.Settled.{Settled}
use Rattle.run_debts.specs.Given.SeizeDeclared.rows.settle.Settled.TheVariants as settled
use Rattle.run_debts.specs.Given.TablesDeclared.node.Node.{Node}
use Rattle.run_debts.specs.Given.RawDeclared.machines.end_map.EndMap.{EndMap}
use Rattle.run_debts.specs.Given.SchedulesEffects.{with_effects}
use Rattle.run_debts.specs.Given.SchedulesMoment.{Moment}
use Rattle.run_debts.specs.Given.EffectsDeclared.changed.Changed.{Changed}
use Rattle.run_debts.specs.Given.EffectsDeclared.changed.Changed.TheVariants as changed
use Rattle.run_debts.specs.Given.EffectsDeclared.changed.Kind.TheVariants as kind
use Rattle.run_debts.specs.Given.EffectsEffects.{effects_of, known_after}
use Rattle.run_debts.specs.Given.EffectsKnown.{Known}
use Rattle.run_debts.specs.Given.EffectsDeclared.acting.Acting.{Acting}
use Rattle.run_debts.specs.Given.EffectsDeclared.acting.Acting.TheVariants as acts
use Rattle.run_debts.specs.Given.EffectsDeclared.role.Role.{Role}
use Rattle.run_debts.specs.Given.EffectsDeclared.role.Role.TheVariants as role
use Rattle.run_debts.specs.Given.FinishesEndings.{Finishing, StepsOfEnding}
use Rattle.run_debts.specs.Given.FollowsShows.{Refines}
use Rattle.run_debts.proofs.Given.FollowsAlike.{AllCalm, put_here}
use Rattle.run_debts.proofs.Given.FollowsOperations.{LeavesBy}
use Rattle.run_debts.specs.Given.OthersEndings.{ending_after}
use Rattle.run_debts.proofs.Given.OthersQuiet.{calls_none}
use Rattle.run_blocks.specs.Owes.Beside.{NoneOfBlock, EndingsPreserveMade}
use Rattle.run_blocks.specs.Owes.Made.{RefinesMade}
use Rattle.run_blocks.proofs.Owes.Aside.{LeavesAlone, NoneStored, left_alone, not_storing, calm_none, taken_none, made_still}
use Rattle.run_blocks.proofs.Owes.InHand.{free_there, in_hand}
use Rattle.run_blocks.proofs.Owes.Roles.{MakesFree, does_so}
use Rattle.run_blocks.proofs.Owes.Lasting.{ending_leaves, ending_says, ending_keeps_held}
use Rattle.run_debts.specs.Given.ScenesEnding.{EndingHasOutcome, EndingStepsFrom}
use Rattle.run_debts.specs.Given.ScenesHeld.{Held, IsAt}
use Rattle.run_debts.specs.Given.ScenesScene.{Scene, slot_of}

module _ {K V : Type 0} (same : K → K → Bool) (hash : ℕ → K → ℕ) (name : ℕ → List ℕ) (m : Moment K V) (known : Known) (s : Scene K V) (old new : Held K V) (at : IsAt same hash old s)
    (shown : Refines same name m known s) (made : RefinesMade name m known s) (i : ℕ) (f : Finishing K V) (here : s.enders i ≡ Some f) (end : EndMap) (said : Settled (Node K V))
    (steps : EndingStepsFrom f.machine old new end said)
    (did : StepsOfEnding V same same old.batch_size old.roots slot_of s.world s.maps s.calls s.makers s.enders i f new.memory (end, said))
    (map : ℕ) (not_there : s.maps map ≡ None) (comes : EndingHasOutcome same hash s new i f end did.w2 did.deed said) where
  abbrev w : World (Node K V)
  w = s.world

  abbrev w2 : World (Node K V)
  w2 = did.w2

  abbrev told : Changed
  told = new.changed

  abbrev its : Acting
  its = acts.Ending map

  leaves : LeavesBy w.memory w2.memory told
  leaves = ending_leaves same hash name m known s old new at shown i f here end said steps did map not_there comes

  says : (AllCalm (effects_of its known told) × ((known_after its told known).roles ≡ known.roles)) ⊎ ((b : ℕ) × (told ≡ changed.Took b))
  says = ending_says same hash name m known s old new at shown i f here end said steps did map not_there comes

  untaken : (b j : ℕ) → told ≡ changed.Took b → known.roles b ≡ role.OwnPair j → ⊥
  untaken b j is its_block =
      ending_keeps_held same hash name m known s old new at shown i f here end said steps did map not_there comes b j (in_hand same hash name m known s old at shown made j b its_block) is

  makes_free : (x : Changed) → LeavesBy w.memory w2.memory x → MakesFree its known x
  makes_free (changed.Made k b) l = free_there w m.stored known shown.blocks.roles b l.0
  makes_free changed.Nothing l = tt
  makes_free (changed.Wrote at before after) l = tt
  makes_free (changed.Unmade k) l = tt
  makes_free (changed.Took b) l = tt
  makes_free (changed.Roomed bucket had) l = tt

  -- nor does it make one: as much is known of blocks, unless it takes one
  unmade : (b : ℕ) → told ≡ changed.Made kind.Pair b → ⊥
  unmade b is = elim says as (λ _. ⊥) [
    | inl it ↦ (
        let free : known.roles b ≡ role.Free = subst (λ (x : Changed). MakesFree its known x) is (makes_free told leaves) in
        let own : (known_after its told known).roles b ≡ role.OwnPair 0 = ap (λ (x : Changed). (known_after its x known).roles b) is ∙ put_here b (role.OwnPair 0) known.roles b refl in
        let as_before : (known_after its told known).roles b ≡ known.roles b = ap (λ (g : ℕ → Role). g b) it.1 in
        cc (free, own, as_before)
        )
    | inr it ↦ (let took = it.1 in cc (is, took))
  ]

  stores_none : NoneStored (effects_of its known told)
  stores_none = elim says as (λ _. NoneStored (effects_of its known told)) [
    | inl it ↦ calm_none (effects_of its known told) it.0
    | inr it ↦ subst (λ (x : Changed). NoneStored (effects_of its known x)) (sym it.1) (taken_none its (known.roles it.0))
  ]

  alone : LeavesAlone its known told
  alone = left_alone its known told (does_so its known told (makes_free told leaves)) unmade untaken (λ storing. not_storing (effects_of its known told) storing stores_none)

  same_calls : (t : Settled (Node K V)) (there : EndingHasOutcome same hash s new i f end did.w2 did.deed t) → (ending_after same hash s new i f end did.w2 did.deed t there).calls ≡ s.calls
  same_calls settled.Goes there = refl
  same_calls settled.Waits there = refl
  same_calls (settled.Gave value) there = refl
  same_calls settled.Done there = refl

  pub ending_keeps : NoneOfBlock (effects_of its known told)
      × RefinesMade name (with_effects None (Some map) (effects_of its known told) m) (known_after its told known) (ending_after same hash s new i f end did.w2 did.deed said comes)
  ending_keeps = (
    alone.1,
    made_still name m (with_effects None (Some map) (effects_of its known told) m) known (known_after its told known) s (ending_after same hash s new i f end did.w2 did.deed said comes) made
        (calls_none (Some map) (effects_of its known told) m) (same_calls said comes) alone.0,
  )

module _ (K V : Type 0) (same : K → K → Bool) (hash : ℕ → K → ℕ) where
  pub endings_keep_made : EndingsPreserveMade K V same hash
  endings_keep_made name m known s old new at shown made i told leads f here map not_there =
      let to = leads f here in ending_keeps same hash name m known s old new at shown made i f here to.0 told to.1 to.2 map not_there to.3
