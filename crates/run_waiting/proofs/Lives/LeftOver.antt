-- What waits behind a block that is left over is left over with it; and what waits behind another one does so still, whatever is done as a map ends.
use Rattle.std.specs.Prelude.{◌≡◌, ◌⊎◌, ◌<◌, ◌+◌, ℕ, Bool, cond, List, [], ◌∷◌, Option, Some, if◌then◌else◌}
use Rattle.std.proofs.Common.{refl, ap, sym, subst, ◌∙◌, inl, inr, arith}
use Rattle.std.proofs.lemmas.Bool.{cases_eq, eq-eqb}
use Rattle.run_debts.specs.Given.SeizeWordsOp.{Store}
use Rattle.run_debts.specs.Given.SeizeWorld.{World, Hand, NoBlock, Making, InUse, Parting, Cutting, Handed, LeftTo, MayCut, Drops, Unlinks, Operates, LeavesOver, Relinks, Clears, Happens, Runs, times}
use Rattle.run_debts.specs.Given.SeizeDeclared.states.TheConstants.{LAST_SLOT}
use Rattle.run_debts.proofs.Given.SeizeMovesMoves.Takes.{first_doomed}
use Rattle.run_debts.proofs.Given.SeizeMovesSets.Unmoved.{is_in_wait}
use Rattle.run_debts.proofs.Given.SeizeMovesState.Ghost.{Life, IsUnlinked, IsDeferring, IsDeferred, IsLeft as IsLeftOver, State, can_carry, lies_with}
use Rattle.run_debts.proofs.Given.SeizeMovesState.Moves.{left_over, left_with}
use Rattle.run_debts.proofs.Given.SeizeRulePoints.Aside.{HandFits, is_handed}
use Rattle.run_debts.proofs.Given.SeizeRuleWorld.Events.{leaves_over_good}
use Rattle.run_debts.proofs.Given.SeizeRuleWorld.Good.{Good}
use Rattle.run_debts.specs.Given.FinishesFactsEnds.{Deed, Looks, TakesPair, LeavesTable, JoinsPair, TakesLeft, TakesCounter, WritesRoot, events_of, taken_by, left_by}
use Rattle.run_debts.proofs.Given.FinishesEnds.Frames.{that_one}
use Rattle.run_waiting.specs.Lives.Behind.{IsLeft}
use Rattle.run_waiting.specs.Lives.Waiting.{waits_behind}
use Rattle.run_waiting.proofs.Lives.Lives.{WaitsIn, OnWay, OnList, TakenOver, elsewhere, other_block}
use Rattle.run_waiting.proofs.Lives.Logs.{unless_other}
use Rattle.run_waiting.proofs.Lives.Worlds.{Kept, happens_kept, log_back}
use Rattle.run_debts.proofs.Given.FinishesEnds.CountedBlocks.{some_here as one_is}

-- what is left over by its life is so in the world
left_hand : (i : ℕ) (h : Hand) (l : Life) → l ≡ IsLeftOver i → HandFits h l → IsLeft h
left_hand i NoBlock l is fits = absurd (cc (is, fits))
left_hand i (Making j) l is fits = absurd (cc (is, fits))
left_hand i (InUse o) l is fits = absurd (cc (is, fits))
left_hand i (Parting j) l is fits = absurd (cc (is, fits))
left_hand i (Cutting j) l is fits = absurd (cc (is, fits))
left_hand i Handed l is fits = absurd (let none = ap is_handed is in cc (none, fits))
left_hand i (LeftTo j) l is fits = tt

module _ {T : Type 0} (defers : T → Option ℕ) (size : ℕ) (w : World T) (k : Kept defers size w) where
  -- where a block is left over, so is what waits behind it
  module _ (w2 : World T) (i c : ℕ) (further : List ℕ) (h : Happens defers size (LeavesOver i c further) w w2) where
    cut : k.good.state.life c ≡ IsUnlinked h.0.0
    cut = subst (λ (x : Hand). HandFits x (k.good.state.life c)) h.0.1 (k.good.hands c)

    -- another one waits as before
    pub over_elsewhere : (b t : ℕ) → waits_behind b w.log ≡ Some t → (t ≡ c → ⊥) → waits_behind b w2.log ≡ Some t
    over_elsewhere b t waits ne = ap (λ (z : World T). waits_behind b z.log) h.4 ∙ unless_other c (waits_behind b w.log) t waits ne

    pub over : (b : ℕ) → waits_behind b w.log ≡ Some c → IsLeft (w2.hand b)
    over b waits = by was
      where
        was : WaitsIn k.good.state b c
        was = k.waits b c waits

        apart : b ≡ c → ⊥
        apart = other_block k.good.state b c was c (ap is_in_wait cut)

        after : (g : Good defers (LAST_SLOT + 1) size w2) × (g.state ≡ left_over k.good.state i c) × (further ≡ k.good.state.deferred c)
        after = leaves_over_good defers (LAST_SLOT + 1) size w w2 k.good i c further h

        life_then : after.0.state.life b ≡ left_with i c (k.good.state.life b)
        life_then = ap (λ (m : State). m.life b) after.1 ∙ elsewhere (λ (x : ℕ). left_with i c (k.good.state.life x)) c (IsLeftOver i) b apart

        over_then : after.0.state.life c ≡ IsLeftOver i
        over_then = ap (λ (m : State). m.life c) after.1 ∙ ap (λ (q : Bool). cond q (IsLeftOver i) (left_with i c (k.good.state.life c))) (eq-eqb c c refl)

        by : WaitsIn k.good.state b c → IsLeft (w2.hand b)
        by (OnWay j s is) =
            let on : after.0.state.life b ≡ IsDeferring j s c = life_then ∙ ap (left_with i c) is in
            let yes = (after.0.inv.places.carries b c (ap (lies_with c) on ∙ eq-eqb c c refl)).2 in
            let no = ap can_carry over_then in
            absurd (cc (yes, no))
        by (OnList is) =
            left_hand i (w2.hand b) (after.0.state.life b) (life_then ∙ ap (left_with i c) is ∙ ap (λ (q : Bool). cond q (IsLeftOver i) (IsDeferred c)) (eq-eqb c c refl)) (after.0.hands b)
        by (TakenOver j bs is first) = (let doomed = first_doomed (LAST_SLOT + 1) j k.good.state c bs k.good.inv first in absurd (cc (doomed, cut)))

-- by what is done as a map ends
module _ {T : Type 0} (defers : T → Option ℕ) (size i : ℕ) (w w2 : World T) (k : Kept defers size w) where
  -- events that put nothing behind a block, and leave none over
  same_log : (v v2 : World T) (b t : ℕ) → (waits_behind b v.log ≡ waits_behind b v2.log) → waits_behind b v.log ≡ Some t → waits_behind b v2.log ≡ Some t
  same_log v v2 b t back waits = sym back ∙ waits

  pub deed_waits : (deed : Deed) → Runs defers size (events_of i deed) w w2 → ((x : ℕ) → 0 < times x (left_by deed) → w2.hand x ≡ LeftTo i)
      → (b t : ℕ) → waits_behind b w.log ≡ Some t → (0 < times t (taken_by deed) → ⊥)
      → (waits_behind b w2.log ≡ Some t) ⊎ (IsLeft (w2.hand b) × IsLeft (w2.hand t))
  deed_waits Looks runs left b t waits free = inl (ap (λ (z : World T). waits_behind b z.log) runs ∙ waits)
  deed_waits (TakesPair c) runs left b t waits free =
      let k1 = happens_kept defers size w runs.0 k (Unlinks i c) runs.1 in
      let waits1 = same_log w runs.0 b t (log_back defers size w runs.0 (Unlinks i c) tt runs.1 b) waits in
      let apart : t ≡ c → ⊥ = λ e. free (subst (λ (x : ℕ). 0 < times x (c ∷ [])) (sym e) (one_is c [])) in
      let waits2 = over_elsewhere defers size runs.0 k1 runs.2.0 i c [] runs.2.1 b t waits1 apart in
      let waits3 = same_log runs.2.0 runs.2.2.0 b t (log_back defers size runs.2.0 runs.2.2.0 (Clears i c) tt runs.2.2.1 b) waits2 in
      inl (ap (λ (z : World T). waits_behind b z.log) runs.2.2.2 ∙ waits3)
  deed_waits (LeavesTable c further) runs left b t waits free =
      let k1 = happens_kept defers size w runs.0 k (Unlinks i c) runs.1 in
      let waits1 = same_log w runs.0 b t (log_back defers size w runs.0 (Unlinks i c) tt runs.1 b) waits in
      elim (cases_eq t c) as (λ _. (waits_behind b w2.log ≡ Some t) ⊎ (IsLeft (w2.hand b) × IsLeft (w2.hand t))) [
        | inl e ↦
            let own_left = over defers size runs.0 k1 runs.2.0 i c further runs.2.1 b (waits1 ∙ ap (λ (x : ℕ). Some x) e) in
            let there : w2.hand t ≡ LeftTo i = left t (subst (λ (x : ℕ). 0 < times x (c ∷ further)) (sym e) (one_is c further)) in
            inr (subst (λ (z : World T). IsLeft (z.hand b)) (sym runs.2.2) own_left, subst IsLeft (sym there) tt)
        | inr ne ↦ inl (ap (λ (z : World T). waits_behind b z.log) runs.2.2 ∙ over_elsewhere defers size runs.0 k1 runs.2.0 i c further runs.2.1 b t waits1 ne)
      ]
  deed_waits (JoinsPair c word) runs left b t waits free =
      inl (ap (λ (z : World T). waits_behind b z.log) runs.2 ∙ same_log w runs.0 b t (log_back defers size w runs.0 (Relinks i c word) tt runs.1 b) waits)
  deed_waits (TakesLeft c) runs left b t waits free =
      inl (ap (λ (z : World T). waits_behind b z.log) runs.2 ∙ same_log w runs.0 b t (log_back defers size w runs.0 (Clears i c) tt runs.1 b) waits)
  deed_waits (TakesCounter c) runs left b t waits free =
      inl (ap (λ (z : World T). waits_behind b z.log) runs.2 ∙ same_log w runs.0 b t (log_back defers size w runs.0 (Drops i c) tt runs.1 b) waits)
  deed_waits (WritesRoot at word) runs left b t waits free =
      inl (ap (λ (z : World T). waits_behind b z.log) runs.2 ∙ same_log w runs.0 b t (log_back defers size w runs.0 (Operates (Store at word)) tt runs.1 b) waits)

  -- what the collector has it does not take
  pub handed_untaken : (deed : Deed) → Runs defers size (events_of i deed) w w2 → (b : ℕ) → w.hand b ≡ Handed → 0 < times b (taken_by deed) → ⊥
  handed_untaken Looks runs b handed some = omega (arith, some)
  handed_untaken (TakesPair c) runs b handed some = subst (MayCut i) (ap w.hand (sym (that_one b c some)) ∙ handed) runs.1.0
  handed_untaken (LeavesTable c further) runs b handed some = omega (arith, some)
  handed_untaken (JoinsPair c word) runs b handed some = omega (arith, some)
  handed_untaken (TakesLeft c) runs b handed some = (let left = runs.1.2.1 in let own = ap w.hand (sym (that_one b c some)) ∙ handed in cc (left, own))
  handed_untaken (TakesCounter c) runs b handed some = (let made = runs.1.2.1 in let own = ap w.hand (sym (that_one b c some)) ∙ handed in cc (made, own))
  handed_untaken (WritesRoot at word) runs b handed some = omega (arith, some)
