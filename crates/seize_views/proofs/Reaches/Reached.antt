-- Words lead to whatever the collector has: by where the block is.
use Rattle.std.specs.Prelude.{Option}
use Rattle.std.proofs.Common.{◌≡◌, ℕ, ◌+◌, ◌⊎◌, inl, inr, refl, arith, subst}
use Rattle.seize.specs.declared.states.TheConstants.{LAST_SLOT}
use Rattle.seize.specs.World.{World, Hand, Handed, at_start}
use Rattle.seize_acts.proofs.Given.SeizeEndsBatches.Rows.{HeldByRows, runs_held, start_held}
use Rattle.seize_acts.proofs.Given.SeizeMovesState.Ghost.{Life, IsFree, IsOwned, IsLinked, IsUnlinked, IsDeferring, IsDeferred, IsPending, IsIn, IsDoomed, IsLeft}
use Rattle.seize_acts.proofs.Given.SeizeRulePoints.Aside.{HandFits}
use Rattle.seize_acts.proofs.Given.SeizeRuleWorld.Good.{Good}
use Rattle.seize_acts.proofs.Given.SeizeRuleWorld.Kept.{runs_good}
use Rattle.seize_acts.proofs.Given.SeizeRuleWorld.Start.{start_good}
use Rattle.seize_views.specs.Reaches.Reached.{IsOfASlot, IsOfARow, IsOfABlock, HandedAreReached}
use Rattle.seize_views.proofs.Reaches.Batches.{batch_leads}
use Rattle.seize_views.proofs.Reaches.Waiting.{is_to_be_retired, is_to_be_taken, is_on_its_way, is_on_a_list}

module _ {T : Type 0} {size : ℕ} (defers : T → Option ℕ) (w : World T) (good : Good defers (LAST_SLOT + 1) size w) (held : HeldByRows w) (b : ℕ) where
  abbrev IsReached : Type 0
  IsReached = IsOfASlot w.memory b ⊎ IsOfARow w b ⊎ IsOfABlock w.memory b

  by_life : (l : Life) → good.state.life b ≡ l → HandFits Handed l → IsReached
  by_life IsFree e fits = absurd (cc fits)
  by_life (IsOwned i) e fits = absurd (cc fits)
  by_life IsLinked e fits = absurd (cc fits)
  by_life (IsUnlinked i) e fits = absurd (cc fits)
  by_life (IsDeferring i s t) e fits = inr (inl (is_on_its_way defers w good b i s t e))
  by_life (IsDeferred t) e fits = inr (inr (is_on_a_list defers w good b t e))
  by_life (IsPending i) e fits = inr (inl (is_to_be_retired defers w good i b e))
  by_life (IsIn y) e fits = elim (batch_leads defers w good held b y e) as (λ _. IsReached) [
    | inl slot ↦ inl slot
    | inr row ↦ inr (inl row)
  ]
  by_life (IsDoomed i) e fits = inr (inl (is_to_be_taken defers w good i b e))
  by_life (IsLeft i) e fits = absurd (cc fits)

  pub reached : w.hand b ≡ Handed → IsReached
  reached handed = by_life (good.state.life b) refl (subst (λ (k : Hand). HandFits k (good.state.life b)) handed (good.hands b))

pub handed_are_reached : {T : Type 0} (defers : T → Option ℕ) → HandedAreReached defers
handed_are_reached defers size roots events w runs b handed =
    let start = start_good defers (LAST_SLOT + 1) size roots in
    reached defers w (runs_good defers (LAST_SLOT + 1) size refl events (at_start defers roots) w start (λ i. tt) runs)
    (runs_held defers size events (at_start defers roots) w start (λ i. tt) runs (start_held defers size roots)) b handed
