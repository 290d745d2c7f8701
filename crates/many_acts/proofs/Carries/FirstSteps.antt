-- What the first step of a row leaves of what it is to hand over: a retirement has its block still, and neither ends by it.
use Rattle.std.specs.Prelude.{◌==◌, Option}
use Rattle.std.proofs.Common.{◌≡◌, ℕ, refl, ap, sym, subst, ◌∙◌}
use Rattle.run_shows.specs.Given.SeizeWordsMem.{Mem, Took, value_at}
use Rattle.run_shows.specs.Given.SeizeWordsOp.{Out, Found, Stored, Exchanged, Made, Taken, Roomed}
use Rattle.run_shows.specs.Given.SeizeWordsPlan.{Steps}
use Rattle.run_shows.proofs.Given.SeizeWordsOneOwner.Operations.{loaded}
use Rattle.run_shows.specs.Given.SeizeDeclared.advance.Advance.{Advance}
use Rattle.run_shows.specs.Given.SeizeDeclared.advance.Advance.TheVariants as progress
use Rattle.run_shows.specs.Given.SeizeDeclared.rows.defer.Defer.{Defer}
use Rattle.run_shows.specs.Given.SeizeDeclared.rows.defer.Deferring.TheVariants as at
use Rattle.run_shows.specs.Given.SeizeDeclared.rows.settle.Settle.{Settle}
use Rattle.run_shows.specs.Given.SeizeDeclared.rows.settle.Settled.{Settled}
use Rattle.run_shows.specs.Given.SeizeDeclared.rows.settle.Settled.TheVariants as settled
use Rattle.run_shows.specs.Given.SeizeDeclared.states.TheConstants.{HELD}
use Rattle.run_shows.specs.Given.SeizeDefer.{deferring, head_read, standing}
use Rattle.run_shows.specs.Given.SeizeSettle.{retiring, seen, settle_plan}
use Rattle.run_shows.specs.Given.SeizeWorld.{World, Settles, Defers, Steps', settles_on, defers_on}
use Rattle.run_shows.specs.Given.SeizeWordsDeclared.at.At.{At}
use Rattle.seize_acts.proofs.Given.SeizeRuleRows.Others.{with_here}
use Rattle.run_shows.proofs.Given.RuleKeys.Always.{Always, always_if, always_steps}

module _ {T : Type 0} (defers : T → Option ℕ) where
  -- it is to retire this block still, and has not ended
  abbrev pub IsRetiring : ℕ → Settle × Settled T → Type 0
  IsRetiring n (d, settled.Done) = ⊥
  IsRetiring n (d, _) = d.pending ≡ n

  module _ (slot size block : ℕ) where
    on_seen : (out : Out T) → Always (IsRetiring block) (seen (retiring slot size block) out)
    on_seen (Found word) = always_if (IsRetiring block) (word == HELD) _ _ refl refl
    on_seen Stored = refl
    on_seen (Exchanged r) = refl
    on_seen (Made r) = refl
    on_seen (Taken value) = refl
    on_seen (Roomed r) = refl

    pub retires_first : (m m2 : Mem T) (end : Settle × Settled T) → Steps Took value_at m (settle_plan defers (retiring slot size block)) m2 end → IsRetiring block end
    retires_first m m2 end s = always_steps (IsRetiring block) m m2 (settle_plan defers (retiring slot size block)) end on_seen s

    -- the row of its caller
    settles_row : (w : World T) (i : ℕ) (m : Mem T) (end : Settle × Settled T) → IsRetiring block end → (e : Settle) × ((settles_on w i (retiring slot size block) m end).row i ≡ Settles e) × (e.pending ≡ block)
    settles_row w i m (d, settled.Goes) is = (d, with_here w.row i (Settles d), is)
    settles_row w i m (d, settled.Waits) is = (d, with_here w.row i (Settles d), is)
    settles_row w i m (d, settled.Gave value) is = (d, with_here w.row i (Settles d), is)
    settles_row w i m (d, settled.Done) is = absurd is

    pub row_retires : (w w2 : World T) (i : ℕ) → Steps' defers i (Settles (retiring slot size block)) w w2 → (e : Settle) × (w2.row i ≡ Settles e) × (e.pending ≡ block)
    row_retires w w2 i h =
        let k = settles_row w i h.0 h.1 (retires_first w.memory h.0 h.1 h.2) in
        (k.0, ap (λ (x : World T). x.row i) h.3 ∙ k.1, k.2)

  -- a row that puts a block behind another one is under way
  defers_row : (w : World T) (i s : ℕ) (m : Mem T) (end : Defer × Advance Unit) (d : Defer) → end ≡ (d, progress.Goes) → (defers_on w i s m end).row i ≡ Defers s d
  defers_row w i s m end d is = subst (λ (x : Defer × Advance Unit). (defers_on w i s m x).row i ≡ Defers s d) (sym is) (with_here w.row i (Defers s d))

  pub row_defers : (w w2 : World T) (i s block : ℕ) (word : At) → Steps' defers i (Defers s (deferring block word)) w w2 → (e : Defer) × (w2.row i ≡ Defers s e)
  row_defers w w2 i s block word h =
      let d = loaded w.memory (head_read (deferring block word)) word h.0 h.1 h.2 in (
        standing (deferring block word) (at.Links d.0),
        ap (λ (x : World T). x.row i) h.3 ∙ defers_row w i s h.0 h.1 (standing (deferring block word) (at.Links d.0)) d.3,
      )
