-- A row of the collector that is alone under way, in a world that came about from the start: no step of it waits, and each that goes on leaves less to do.
use Rattle.std.specs.Prelude.{◌≢◌, ◌==◌}
use Rattle.std.proofs.Common.{◌≡◌, ℕ, ◌+◌, ◌<◌, true, refl, ap, subst, inl, inr, arith}
use Rattle.seize_words.specs.OneMemory.Mem.{Mem, Took, value_at}
use Rattle.seize_words.specs.OneMemory.Plan.{Now, Steps}
use Rattle.seize_words.specs.declared.at.At.TheVariants.{Slot}
use Rattle.seize_words.proofs.OneMemory.Plans.{ends_if}
use Rattle.seize_words.proofs.OneMemory.OneOwner.Operations.{loaded}
use Rattle.seize.specs.declared.states.TheConstants.{LAST_SLOT, BATCH, HELD}
use Rattle.seize.specs.declared.advance.Advance.{Advance}
use Rattle.seize.specs.declared.rows.defer.Defer.{Defer}
use Rattle.seize.specs.declared.rows.settle.Settle.{Settle}
use Rattle.seize.specs.declared.rows.settle.Settling.{Settling}
use Rattle.seize.specs.declared.rows.settle.Settling.TheVariants as at
use Rattle.seize.specs.declared.rows.settle.Settled.{Settled}
use Rattle.seize.specs.declared.rows.settle.Settled.TheVariants as settled
use Rattle.seize.specs.Settle as plans
use Rattle.seize.specs.Defer.{defer_plan}
use Rattle.seize.specs.World.{World, Rests, Settles, Defers, at_start}
use Rattle.map_measures.proofs.Given.SeizeRuleWorld.Rested.{Lone}
use Rattle.map_measures.proofs.Given.SeizeRuleWorld.Start.{start_good}
use Rattle.map_measures.proofs.Given.SeizeAloneHistories.Reached.{Reached}
use Rattle.map_measures.proofs.Given.SeizeEndsBatches.Held.{waits_held}
use Rattle.map_measures.proofs.Given.SeizeEndsBatches.Rows.{HeldByRows, start_held, runs_held, settles_alone}
use Rattle.map_measures.proofs.Given.SeizeEndsRows.Defer.{Lower, defer_to_go, defer_ends}
use Rattle.map_measures.proofs.Given.SeizeEndsRows.Lone.{settles_lower}
use Rattle.map_measures.proofs.Given.SeizeEndsSettling.Most.{is_going, settle_to_go}
use Rattle.map_tables.specs.Nodes.{deferred_word}
use Rattle.map_tables.specs.declared.node.Node.{Node}
use Rattle.owner_facts.specs.Given.CallersTogether.{CameAbout}
use Rattle.owner_facts.proofs.Given.CallersTogether.Came.{came_reached}

module _ {K V : Type 0} (size : ℕ) (w : World (Node K V)) (came : CameAbout size w) where
  reached : Reached deferred_word size w
  reached = came_reached size w came

  -- who has a batch in hand is a row
  held : HeldByRows w
  held =
      runs_held (deferred_word {K = K} {V = V}) size came.1 (at_start deferred_word came.0) w (start_good (deferred_word {K = K} {V = V}) (LAST_SLOT + 1) size came.0) (λ i. tt) came.2
      (start_held (deferred_word {K = K} {V = V}) size came.0)

  module _ (i : ℕ) (others : (j : ℕ) → j ≢ i → w.row j ≡ Rests) where
    lone : Lone deferred_word (LAST_SLOT + 1) size i w
    lone = record { good = reached.good; sized = reached.sized; others = others }

    module _ (c : Settle) (is : w.row i ≡ Settles c) (m2 : Mem (Node K V)) where
      pub settling_lowers : (d : Settle) (o : Settled (Node K V)) → Steps Took value_at w.memory (plans.settle_plan deferred_word c) m2 (d, o) → is_going o ≡ true
          → settle_to_go deferred_word m2 d < settle_to_go deferred_word w.memory c
      settling_lowers d o st going = settles_lower deferred_word size i w lone c is (settles_alone w i others held deferred_word c is) m2 (d, o) st going

      -- who waits has changed nothing, so would have no less to do
      not_held : (d : Settle) → m2 ≡ w.memory → d ≡ c → Steps Took value_at w.memory (plans.settle_plan deferred_word c) m2 (d, settled.Waits) → ⊥
      not_held d still same st =
          let less = settling_lowers d settled.Waits st refl in
          let here = ap (λ (x : Mem (Node K V)). settle_to_go deferred_word x d) still in
          let now = ap (settle_to_go deferred_word w.memory) same in
          omega (arith, less, here, now)

      pub never_waits : (d : Settle) → Steps Took value_at w.memory (plans.settle_plan deferred_word c) m2 (d, settled.Waits) → ⊥
      never_waits d st =
          let sees : c.stands ≡ at.Sees = (waits_held deferred_word w.memory m2 c d c.stands st).1 in
          let l = loaded w.memory (plans.seen c) (Slot c.slot BATCH) m2 (d, settled.Waits)
          (subst (λ (x : Settling). Steps Took value_at w.memory (plans.plan_at deferred_word c x) m2 (d, settled.Waits)) sees st) in
          elim (ends_if (value_at w.memory) (l.0 == HELD) (Now (c, settled.Waits)) (Now (record c { last = l.0; stands = at.Holds }, settled.Goes)) (d, settled.Waits) l.3) as (λ _. ⊥) [
            | inl e ↦ not_held d l.2 (ap (λ (x : Settle × Settled (Node K V)). x.0) e.1) st
            | inr e ↦ (let goes = ap (λ (x : Settle × Settled (Node K V)). x.1) e.1 in cc goes)
          ]

    -- one that defers goes on with less to do, or ends
    pub deferring_lowers : (s : ℕ) (c : Defer) → w.row i ≡ Defers s c → (m2 : Mem (Node K V)) (end : Defer × Advance Unit) → Steps Took value_at w.memory (defer_plan c) m2 end
        → Lower (defer_to_go w.memory c) m2 end
    deferring_lowers s c is m2 end st = defer_ends deferred_word (LAST_SLOT + 1) w reached.good i s c is m2 end st
