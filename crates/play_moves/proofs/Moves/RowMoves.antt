-- The step of a row on a slot, and one by which all is reclaimed, as they are played: they do what they may.
use Rattle.std.specs.Prelude.{◌≡◌, ℕ, Bool, true, List, []}
use Rattle.std.specs.List.{list_all}
use Rattle.std.proofs.Common.{sym, subst}
use Rattle.seize_acts.specs.Given.SeizeDeclared.rows.reclaim_all.ReclaimAll.{ReclaimAll}
use Rattle.seize_acts.specs.Given.SeizeDeclared.rows.settle.Settled.{Settled}
use Rattle.run_legal.specs.Given.TablesDeclared.node.Node.{Node}
use Rattle.run_schedules.specs.declared.effect.Effect.{Effect}
use Rattle.run_schedules.specs.declared.outcome.Outcome.{Outcome}
use Rattle.run_schedules.specs.Schedules.Handing.{is_reclaiming}
use Rattle.run_legal.specs.Given.EffectsDeclared.changed.Changed.{Changed}
use Rattle.run_legal.specs.Given.EffectsEffects.{effects_of}
use Rattle.run_legal.specs.Given.EffectsKnown.{Known}
use Rattle.run_legal.specs.Given.EffectsDeclared.acting.Acting.TheVariants as acts
use Rattle.run_legal.specs.Given.ScenesHeld.{Held, IsAt}
use Rattle.run_legal.specs.Given.ScenesOnSlots.{RowLeads}
use Rattle.run_legal.specs.Given.ScenesReclaiming.{IsReclaiming, ReclaimingLeads}
use Rattle.run_legal.specs.Given.ScenesScene.{IsOnSlot, Scene}
use Rattle.run_legal.specs.Given.ScenesDeclared.row.RowTold.{RowTold}
use Rattle.run_legal.specs.Given.ScenesDeclared.row.SlotRow.{SlotRow}
use Rattle.run_legal.proofs.OfAll.Tells.{gone_by, it_reclaims}
use Rattle.run_legal.proofs.Given.NeedsSteps.{takes_no_own}
use Rattle.run_schedules.specs.Deeds.Deeds.{Deed, Entry, Leaves, Opens, ReclaimsAll, Registers, Shuts, Tends, moment, named}
use Rattle.run_schedules.specs.Deeds.History.{may_do, past}
use Rattle.play_linear.specs.Given.PlayedPlay.{State, is_over, is_refusal, row_deed, settled_outcome}
use Rattle.play_linear.specs.Linear.Shown.{RefinesAnswers}
use Rattle.play_linear.proofs.Linear.RowsPlayed.{IsOfRow, is_of_row}
use Rattle.play_moves.specs.EachMoves.Parts.{DoesIts}
use Rattle.play_moves.proofs.EachMoves.Parts.{all_also, granted_so}
use Rattle.play_moves.proofs.EachMoves.RowKinds.{row_may}
use Rattle.run_legal.proofs.OfAll.Steps.{things_reclaim as all_reclaim}
use Rattle.play_linear.proofs.Given.AgreesGrants.{refusals_so as refuses_so}

module _ {K V : Type 0} (log : List (Entry K V)) (o : Outcome V) (known : Known) (changed : Changed) where
  abbrev of : Deed K V → Entry K V
  of d = record { deed = d; outcome = o; effects = effects_of acts.Row known changed; refused = is_refusal changed }

  -- what is done on a slot, or to reclaim all, moves on if it may be done
  pub of_row : (d : Deed K V) → IsOfRow d → list_all (may_do d) (effects_of acts.Row known changed) ≡ true → DoesIts log (of d)
  of_row (Registers s) is may = record { may = may; granted = granted_so acts.Row known changed; refuses = refuses_so acts.Row known changed; whole = tt; leaves = tt }
  of_row (Opens s) is may = record { may = may; granted = granted_so acts.Row known changed; refuses = refuses_so acts.Row known changed; whole = tt; leaves = tt }
  of_row (Shuts s) is may = record { may = may; granted = granted_so acts.Row known changed; refuses = refuses_so acts.Row known changed; whole = tt; leaves = tt }
  of_row (Leaves s) is may = record { may = may; granted = granted_so acts.Row known changed; refuses = refuses_so acts.Row known changed; whole = tt; leaves = tt }
  of_row (Tends s) is may = record { may = may; granted = granted_so acts.Row known changed; refuses = refuses_so acts.Row known changed; whole = tt; leaves = tt }
  of_row (ReclaimsAll last) is may = record { may = may; granted = granted_so acts.Row known changed; refuses = refuses_so acts.Row known changed; whole = tt; leaves = tt }
  of_row _ is may = absurd is

module _ {K V S : Type 0} (same : K → K → Bool) (hash : ℕ → K → ℕ) (x : State K V S) (s : Scene K V) (old new : Held K V) (all : RefinesAnswers same (past x.history) (moment x.history) x.known s) where
  pub rows_move : IsAt same hash old s → (i : ℕ) (row : SlotRow) (here : IsOnSlot s i row) (said : RowTold (Node K V)) → RowLeads same hash i said s old new → (o : Outcome V)
      → DoesIts x.history (record { deed = row_deed row; outcome = o; effects = effects_of acts.Row x.known new.changed; refused = is_refusal new.changed })
  rows_move at i row here said leads o =
      let to = leads row here in
      of_row x.history o x.known new.changed (row_deed row) (is_of_row K V row)
      (row_may old.memory new.memory new.changed (to.0, said) x.known
      (λ b took. takes_no_own same hash named (moment x.history) x.known s old new at all.whole.all.shown all.kept.made all.kept.tables i row here (to.0, said) to.1 to.2 b took) row to.1)

  pub reclaiming_moves : (i : ℕ) (lists : ℕ → List ℕ) (before next : ReclaimAll) (told : Settled (Node K V)) → IsReclaiming same hash old s i lists before
      → ReclaimingLeads same hash s i lists old new before next told
      → DoesIts x.history (record { deed = ReclaimsAll (is_over told); outcome = settled_outcome told; effects = effects_of acts.Row x.known new.changed; refused = is_refusal new.changed })
  reclaiming_moves i lists before next told at leads =
      let deed : Deed K V = ReclaimsAll (is_over told) in
      of_row x.history (settled_outcome told) x.known new.changed deed tt
      (all_also is_reclaiming (may_do deed) (λ f is. is) (effects_of acts.Row x.known new.changed)
      (subst (λ (fs : List Effect). list_all is_reclaiming fs ≡ true)
      (sym (it_reclaims same hash named (moment x.history) x.known s all.whole all.kept old new i lists before next told at leads)) (all_reclaim (gone_by x.known new.changed))))
