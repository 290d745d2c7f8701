-- What is left once all is reclaimed: nothing waits, no block is retired still, and every slot is vacant.
use Rattle.std.specs.Prelude.{Option, Some, None, map}
use Rattle.std.proofs.Common.{◌≡◌, ℕ, zero, suc, ◌+◌, ◌<◌, ◌≤◌, ◌^◌, Bool, true, false, List, [], inl, inr, refl, arith, subst, sym, ap, ◌∙◌}
use Rattle.std.proofs.lemmas.Bool.{cases_eq}
use Rattle.seize.specs.Given.SeizeWordsDeclared.at.At.TheVariants as name
use Rattle.seize.specs.Given.SeizeWordsMem.{word_at}
use Rattle.seize.specs.declared.states.TheConstants.{HEAD, BATCH, LAST_SLOT}
use Rattle.seize.specs.Law.{is_retired}
use Rattle.seize_model.specs.Sets.Reclaims.{FlushesAny, AllFlush, Rounds, AllGiveUp, NothingWaits, Reclaims}
use Rattle.seize.specs.WaitingSets.{Sets, all_reclaimed}
use Rattle.seize.specs.World.{World, Use, Vacant, IsOutside, SlotsTaken}
use Rattle.seize_rule.specs.Given.SeizeWaitingHeld.{count}
use Rattle.seize_rule.proofs.Given.SeizeWaitingCounts.{none_counted}
use Rattle.seize_rule.proofs.World.Bounded.{quiescent}
use Rattle.seize_model.proofs.Sets.Slots.Kept.{flush_vacant, given_up_vacant}
use Rattle.seize_rule.proofs.Given.SeizeMovesSets.Shown.{batch_shown}
use Rattle.seize_rule.proofs.Given.SeizeMovesSets.Quiescent.{IsQuiescent, all_wait, none_shut}
use Rattle.seize_model.proofs.Sets.Reclaims.Rounds.{reclaims_model, none_waits}
use Rattle.seize_model.proofs.Sets.Reclaims.NeverTaken.{NonePast, none_untaken}
use Rattle.seize_model.proofs.Sets.Reclaims.Sets.{Comes, slots_fit, settled_come}
use Rattle.seize_rule.proofs.World.Rested.{Rested}
use Rattle.seize_model.proofs.Sets.Turns.Heads.{head_word, vacant_by}
use Rattle.seize_model.proofs.Sets.Turns.Begins.{Shown}
use Rattle.seize_rule.proofs.Given.SeizeMemoryWords.Named.{words_of, word_found}

-- which slots are vacant

module _ {T : Type 0} (defers : T → Option ℕ) (size i : ℕ) where
  any_vacant : (s t : ℕ) (o : Option ℕ) (w v : World T) → FlushesAny defers size i s o w v → w.uses t ≡ Vacant → v.uses t ≡ Vacant
  any_vacant s t None w v h e = ap (λ (x : World T). x.uses t) h ∙ e
  any_vacant s t (Some zero) w v h e = ap (λ (x : World T). x.uses t) h ∙ e
  any_vacant s t (Some (suc a)) w v h e = flush_vacant defers i size s t w v h e

  pub flush_all_vacant : (s t : ℕ) (w v : World T) → AllFlush defers size i s w v → w.uses t ≡ Vacant → v.uses t ≡ Vacant
  flush_all_vacant zero t w v h e = ap (λ (x : World T). x.uses t) h ∙ e
  flush_all_vacant (suc s) t w v h e = any_vacant s t (word_at h.0.memory (name.Slot s BATCH)) h.0 v h.2 (flush_all_vacant s t w h.0 h.1 e)

  pub rounds_vacant : (slots rounds t : ℕ) (w v : World T) → Rounds defers size i slots rounds w v → w.uses t ≡ Vacant → v.uses t ≡ Vacant
  rounds_vacant slots zero t w v h e = ap (λ (x : World T). x.uses t) h ∙ e
  rounds_vacant slots (suc rounds) t w v h e = flush_all_vacant slots t h.0 v h.2 (rounds_vacant slots rounds t w h.0 h.1 e)

  -- the slots below s are given up, and all from there on are vacant
  give_up_vacant : (s t : ℕ) (w v : World T) → AllGiveUp defers size i s w v → (s ≤ t → w.uses t ≡ Vacant) → v.uses t ≡ Vacant
  give_up_vacant zero t w v h e = ap (λ (x : World T). x.uses t) h ∙ e (omega arith)
  give_up_vacant (suc s) t w v h e =
      let k = given_up_vacant defers i size s h.0 v h.2 in
      elim (cases_eq t s) as (λ _. v.uses t ≡ Vacant) [
        | inl same ↦ ap v.uses same ∙ k.0
        | inr other ↦ k.1 t other ∙ give_up_vacant s t w h.0 h.1 (λ le. e (omega (arith, le, other)))
      ]

  vacant_outside : (u : Use) → u ≡ Vacant → IsOutside u
  vacant_outside u e = subst (λ (x : Use). IsOutside x) (sym e) tt

module _ {T : Type 0} (defers : T → Option ℕ) (n size : ℕ) (last : n ≡ LAST_SLOT + 1) where
  -- a slot that was never taken
  pub untaken_vacant : (w : World T) → Rested defers n size w → (slots : ℕ) → SlotsTaken w.memory slots → (t : ℕ) → slots ≤ t → w.uses t ≡ Vacant
  untaken_vacant w r slots taken t le =
      vacant_by (w.uses t) (words_of w.memory (name.Slot t HEAD)) (head_word defers n size last w r t)
      (let z = zero_word (word_at w.memory (name.Slot t HEAD)) refl in omega (arith, z))
    where
      zero_word : (o : Option ℕ) → word_at w.memory (name.Slot t HEAD) ≡ o → words_of w.memory (name.Slot t HEAD) ≡ 0
      zero_word None e = grind (arith, e)
      zero_word (Some a) e = word_found w.memory (name.Slot t HEAD) a e ∙ taken.1 t a le e

  pub all_vacant : (word : size < 2 ^ 64) (i : ℕ) (w v : World T) (sets : Sets) → Shown defers n size w sets → (r : Reclaims defers size i w v) → (t : ℕ) → v.uses t ≡ Vacant
  all_vacant word i w v sets shown r t =
      let fit = slots_fit defers n size last word i w v sets shown r in
      let first = settled_come defers n size last word i w v sets shown r fit in
      give_up_vacant defers size i r.slots t r.flushed v r.all_give_up
      (λ le. rounds_vacant defers size i r.slots r.rounds t r.settled r.flushed r.all_flush (untaken_vacant r.settled first.shown.rested r.slots r.taken t le))

  -- with no slot in use, no batch is closed, and what is retired waits in open batches
  module _ (w : World T) (sets : Sets) (shown : Shown defers n size w sets) (vacant : (t : ℕ) → w.uses t ≡ Vacant) where
    quiet : IsQuiescent shown.rested.good.state
    quiet = quiescent defers n w shown.rested.good shown.rested.rests (λ s. vacant_outside defers size 0 (w.uses s) (vacant s))

    pub none_closed : sets.closed ≡ []
    none_closed =
        let m = shown.rested.good.state in
        let none : shown.order ≡ [] = none_counted shown.order (λ x. shown.models.ordered x ∙ none_shut n x m shown.rested.good.inv shown.rested.good.pending quiet) in
        sym shown.models.closed ∙ ap (λ (l : List ℕ). map (batch_shown n m.blocks m.debt) l) none

    pub none_retired : ((s : ℕ) → sets.open_batch s ≡ []) → (b : ℕ) → is_retired b w.log ≡ false
    none_retired none b = by (is_retired b w.log) refl
      where
        by : (y : Bool) → is_retired b w.log ≡ y → is_retired b w.log ≡ false
        by true e =
            let g = shown.rested.good in
            let q = all_wait n b g.state g.inv g.pending quiet (ap (is_retired b) g.logged ∙ e) in
            let z = ap (count b) (shown.models.opened q.0 q.1 ∙ none q.0) in
            let k = q.2 in
            absurd (omega (arith, z, k))
        by false e = e

  -- What is left once all is reclaimed.
  pub record Left (word : size < 2 ^ 64) (i : ℕ) (w v : World T) (sets : Sets) : Type 0 where
    pub came : Comes defers n size last word i w v sets (all_reclaimed size sets)
    pub waits : NothingWaits (all_reclaimed size sets).sets
    pub retired : (b : ℕ) → is_retired b v.log ≡ false
    pub vacant : (t : ℕ) → v.uses t ≡ Vacant

  pub all_left_so : (word : size < 2 ^ 64) (i : ℕ) (w v : World T) (sets : Sets) → Shown defers n size w sets → NonePast n size sets → Reclaims defers size i w v → Left word i w v sets
  all_left_so word i w v sets shown past r =
      let untaken = none_untaken defers n size last word i w v sets shown r past in
      let came = reclaims_model defers n size last word i w v sets shown r untaken in
      let none = none_waits defers n size last word i w v sets shown r untaken in
      let vacant = all_vacant word i w v sets shown r in
      record {
        came = came;
        waits = (none, none_closed v (all_reclaimed size sets).sets came.shown vacant);
        retired = none_retired v (all_reclaimed size sets).sets came.shown vacant none;
        vacant = vacant;
      }
