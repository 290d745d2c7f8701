-- What reclaiming all leaves in the memory, and in whose hands: each block that is there is as it was. What it tells is told of rows, or of a root that is emptied.
use Rattle.std.specs.Prelude.{◌≡◌, ℕ, zero, suc, true, List, [], ◌∷◌, Option, IsSome, ◌⊎◌}
use Rattle.std.proofs.Common.{refl, ap, sym, subst, ◌∙◌, arith, inl, inr}
use Rattle.run_schedules.specs.Given.SeizeWordsDeclared.at.At.{At}
use Rattle.run_schedules.specs.Given.SeizeWordsDeclared.at.At.TheVariants.{Root, Used}
use Rattle.run_schedules.specs.Given.SeizeWordsMem.{Mem, value_at}
use Rattle.run_schedules.specs.Given.SeizeWordsOp.{Store}
use Rattle.seize.specs.declared.rows.leave.Leave.{Leave}
use Rattle.seize.specs.declared.rows.reclaim_all.ReclaimAll.{ReclaimAll}
use Rattle.seize.specs.declared.rows.reclaim_all.Reclaiming.{Reclaiming}
use Rattle.seize.specs.declared.rows.reclaim_all.Reclaiming.TheVariants as at
use Rattle.seize.specs.declared.rows.settle.Settle.{Settle}
use Rattle.seize.specs.declared.rows.settle.Settled.{Settled}
use Rattle.seize.specs.Leave.{leave_plan}
use Rattle.seize.specs.ReclaimAll.{standing, within, next_head, next_batch, plan_at}
use Rattle.seize.specs.Sequence.{taken_in}
use Rattle.seize.specs.Settle.{settle_plan}
use Rattle.seize.specs.Law.{Dropped}
use Rattle.seize.specs.World.{World, Hand, NoBlock, Request, Register', Leave', Flush, Unregister', Event, Begin, Step, Begins, Steps', Runs, times, with_effect, with_hand}
use Rattle.run_executor.proofs.Given.SeizeRuleRows.Effects.{hand_kept}
use Rattle.run_executor.proofs.Given.SeizeRuleWorld.Values.{own_op_value, taken_value}
use Rattle.run_executor.proofs.Given.SeizeAloneSpared.Rows.{RowStepped}
use Rattle.run_executor.proofs.Given.SeizeAloneHistories.NotTaken.{did, nobodys, taken_gone}
use Rattle.run_executor.proofs.Given.SeizeAloneHistories.Reached.{Reached, happens_reached}
use Rattle.papaya_raw.specs.Given.TablesNodes.{deferred_word, was_left}
use Rattle.papaya_raw.specs.Given.TablesDeclared.node.Node.{Node}
use Rattle.run_executor.specs.Given.TellerTells.{StepsObserved}
use Rattle.run_executor.specs.Given.EffectsDeclared.changed.Changed.{Changed}
use Rattle.run_executor.specs.Given.EffectsDeclared.changed.Changed.TheVariants as changed
use Rattle.run_executor.proofs.Given.CallersTogether.At.{at_other, at_same}
use Rattle.run_executor.specs.Given.FinishesFactsEnds.{TakesLeft, WritesRoot, events_of}
use Rattle.run_executor.specs.Given.ReclaimsSlots.{IsForSlots, AreItsRows}
use Rattle.run_executor.specs.Given.ScenesDeclared.row.SlotRow.TheVariants as rows
use Rattle.run_executor.proofs.Given.OthersOutcomes.{told_in}
use Rattle.run_executor.proofs.Given.OthersRowPlans.{TellsRow, row_tells}
use Rattle.run_executor.proofs.Given.MomentsOnSlots.{none_some}
use Rattle.std.proofs.lemmas.Bool.{cases_eq}
use Rattle.run_executor.specs.Given.ScenesRows.{of_settling}
use Rattle.run_executor.proofs.Given.ScenesLeads.{happens}

-- a block that is there then is as it was, in the same hands
abbrev pub KeptThere : {K V : Type 0} → World (Node K V) → World (Node K V) → Type 0
KeptThere w w2 = (b : ℕ) → IsSome (value_at w2.memory b) → (value_at w2.memory b ≡ value_at w.memory b) × (w2.hand b ≡ w.hand b)

module _ {K V : Type 0} (size : ℕ) where
  -- so it is where such a row begins,
  pub begun_kept : (i : ℕ) (request : Request) (w v : World (Node K V)) → IsForSlots request → Begins deferred_word size i request w v → (v.memory ≡ w.memory) × (v.hand ≡ w.hand)
  begun_kept i (Register' enters) w v its is = (ap (λ (x : World (Node K V)). x.memory) is, ap (λ (x : World (Node K V)). x.hand) is)
  begun_kept i (Leave' s) w v its is = (ap (λ (x : World (Node K V)). x.memory) is.1, ap (λ (x : World (Node K V)). x.hand) is.1)
  begun_kept i (Flush s) w v its is = (ap (λ (x : World (Node K V)). x.memory) is.1, ap (λ (x : World (Node K V)). x.hand) is.1)
  begun_kept i (Unregister' s) w v its is = (ap (λ (x : World (Node K V)). x.memory) is.1, ap (λ (x : World (Node K V)). x.hand) is.1)
  begun_kept i _ w v its is = absurd its

  -- and after a step of it
  module _ (i : ℕ) (w v : World (Node K V)) (r : Reached deferred_word size w) (step : Steps' deferred_word i (w.row i) w v) where
    abbrev it : RowStepped deferred_word i w v
    it = did deferred_word size w r i v step

    pub step_kept : KeptThere w v
    step_kept b some = by (times b (taken_in it.effects)) refl
      where
        by : (n : ℕ) → times b (taken_in it.effects) ≡ n → (value_at v.memory b ≡ value_at w.memory b) × (v.hand b ≡ w.hand b)
        by zero e = (it.frames.values b e, ap (λ (h : ℕ → Hand). h b) it.hands ∙ hand_kept b it.effects w.hand e it.one)
        by (suc n) e = absurd (none_some (value_at v.memory b) some (taken_gone deferred_word size w r i v step b (λ z. omega (arith, e, z))))

  pub rows_kept : (i : ℕ) (events : List (Event (Node K V))) → AreItsRows i events → (w w2 : World (Node K V)) → Reached deferred_word size w → Runs deferred_word size events w w2 → KeptThere w w2
  rows_kept i [] its w w2 r runs b some = (ap (λ (x : World (Node K V)). value_at x.memory b) runs, ap (λ (x : World (Node K V)). x.hand b) runs)
  rows_kept i (Begin j request ∷ events) its w w2 r (v, happens, runs) b some =
      let later = rows_kept i events its.2 v w2 (happens_reached deferred_word size (Begin j request) w v r happens) runs b some in
      let first = begun_kept j request w v its.1 happens.1 in
      (later.0 ∙ ap (λ (x : Mem (Node K V)). value_at x b) first.0, later.1 ∙ ap (λ (h : ℕ → Hand). h b) first.1)
  rows_kept i (Step j ∷ events) its w w2 r (v, happens, runs) b some =
      let later = rows_kept i events its.1 v w2 (happens_reached deferred_word size (Step j) w v r happens) runs b some in
      let first = step_kept j w v r happens b (subst (λ (o : Option (Node K V)). IsSome o) later.0 some) in
      (later.0 ∙ first.0, later.1 ∙ first.1)
  rows_kept i (_ ∷ events) its w w2 r runs b some = absurd its

  -- what was left over is taken away
  pub left_kept : (i x : ℕ) (w w2 : World (Node K V)) → Reached deferred_word size w2 → Runs deferred_word size (events_of i (TakesLeft x)) w w2 → KeptThere w w2
  left_kept i x w w2 r (v, (out, m, left, may, took, is), runs) b some = elim (cases_eq b x) as (λ _. (value_at w2.memory b ≡ value_at w.memory b) × (w2.hand b ≡ w.hand b)) [
    | inl e ↦ absurd (none_some (value_at w2.memory b) some (nobodys deferred_word size w2 r b (ap (λ (u : World (Node K V)). u.hand b) then_it ∙ at_same w.hand x NoBlock b e)))
    | inr ne ↦ (
      ap (λ (u : World (Node K V)). value_at u.memory b) then_it ∙ taken_value deferred_word w.memory b x out m took ne,
      ap (λ (u : World (Node K V)). u.hand b) then_it ∙ at_other w.hand x NoBlock b ne,
    )
  ]
    where
      then_it : w2 ≡ with_effect (with_hand (record w { memory = m }) x NoBlock) (Dropped x)
      then_it = runs ∙ is

  -- a word of a root is written
  pub root_kept : (i : ℕ) (at : At) (word : ℕ) (w w2 : World (Node K V)) → Runs deferred_word size (events_of i (WritesRoot at word)) w w2 → KeptThere w w2
  root_kept i at word w w2 (v, (out, m, own, took, is), runs) b some =
      let then_it = runs ∙ is in (
        ap (λ (u : World (Node K V)). value_at u.memory b) then_it ∙ ap (λ (x : Mem (Node K V)). value_at x b) took.1 ∙ own_op_value deferred_word w.memory b (Store at word) out own,
        ap (λ (u : World (Node K V)). u.hand b) then_it,
      )

-- what a step tells: what one of a row does, or that a word of a root was emptied
abbrev pub EmptiesRoot : Changed → Type 0
EmptiesRoot (changed.Wrote (Root r) old new) = new ≡ 0
EmptiesRoot (changed.Wrote (Used r) old new) = Unit {0}
EmptiesRoot _ = ⊥

module _ {K V : Type 0} (m m2 : Mem (Node K V)) (told : Changed) where
  abbrev Told : ReclaimAll → Reclaiming → ReclaimAll × Settled (Node K V) → Type 0
  Told c p end = StepsObserved K V (ReclaimAll × Settled (Node K V)) m changed.Nothing (plan_at deferred_word was_left c p) m2 told end

  as_row : (x : Changed) → told ≡ x → TellsRow x → TellsRow told ⊎ EmptiesRoot told
  as_row x is so = inl (subst TellsRow (sym is) so)

  pub reclaiming_tells : (c : ReclaimAll) (p : Reclaiming) (end : ReclaimAll × Settled (Node K V)) → Told c p end → TellsRow told ⊎ EmptiesRoot told
  reclaiming_tells c (at.Heads slot) end s = as_row _ s.1.1 tt
  reclaiming_tells c (at.Retakes slot) end s = as_row _ s.1.1 tt
  reclaiming_tells c (at.Leaves slot leave) end s =
      let it = told_in m m2 told (within (λ (l : Leave). standing c (at.Leaves slot l)) (next_head c slot)) (leave_plan deferred_word leave) end s in
      inl (row_tells m m2 told (rows.Leaves it.0.0, of_settling it.0.1) (rows.Leaves leave) (it.0, it.2, refl))
  reclaiming_tells c (at.Batches slot) end s = as_row _ s.1.1 tt
  reclaiming_tells c (at.Flushes slot settle) end s =
      let it = told_in m m2 told (within (λ (l : Settle). standing c (at.Flushes slot l)) (next_batch (record c { again = true }) slot)) (settle_plan deferred_word settle) end s in
      inl (row_tells m m2 told (rows.Flushes it.0.0, of_settling it.0.1) (rows.Flushes settle) (it.0, it.2, refl))
  reclaiming_tells c (at.Frees slot) end s = as_row _ s.1.1 tt
  reclaiming_tells c (at.Roots root) end s = as_row _ s.1.1 tt
  reclaiming_tells c (at.Nexts root block) end s = as_row _ s.1.1 tt
  reclaiming_tells c (at.Takes root block next) end s = as_row _ s.1.1 tt
  reclaiming_tells c (at.Empties root) end s = inr (subst EmptiesRoot (sym s.1.1) refl)
  reclaiming_tells c (at.Unuses root) end s = inr (subst EmptiesRoot (sym s.1.1) tt)
  reclaiming_tells c at.Over end s = as_row changed.Nothing s.2 tt
