-- No bucket of slots is forgotten: so many are noted, as an event goes on, as were before.
use Rattle.std.specs.Prelude.{◌≡◌, ◌≤◌, ℕ, Bool}
use Rattle.std.proofs.Common.{ap, inl, inr, arith}
use Rattle.run_grows.proofs.Given.SeizeWordsPlaces.Words.{capacity_le_capacity}
use Rattle.run_grows.specs.Given.SchedulesTerms.{Terms}
use Rattle.run_grows.specs.Given.EffectsKnown.{Known}
use Rattle.run_grows.specs.Given.EffectsDeclared.acting.Acting.TheVariants as acts
use Rattle.run_legal.specs.AllEvents.{AllCome, AllSteps}
use Rattle.run_legal.specs.Chains.{Chain, Come, EndSteps, MakingSteps, RowSteps}
use Rattle.run_legal.proofs.Chains.{chains_keep}
use Rattle.run_grows.proofs.Given.RemainsSlots.{buckets_grow}
use Rattle.run_sweeps.specs.Needs.Needs.{AreReached}

-- where no fewer buckets are noted the slots that were ever taken have their words still
pub reached_still : (slots : ℕ) (known after : Known) → known.buckets ≤ after.buckets → AreReached slots known → AreReached slots after
reached_still slots known after more (inl none) = inl none
reached_still slots known after more (inr some) = inr (let most = capacity_le_capacity known.buckets after.buckets more in omega (arith, some, most))

notes_more : (first known after : Known) (n : ℕ) → after.buckets ≡ n → known.buckets ≤ n → first.buckets ≤ known.buckets → first.buckets ≤ after.buckets
notes_more first known after n is more so = omega (arith, is, more, so)

module _ {K V : Type 0} (same : K → K → Bool) (hash : ℕ → K → ℕ) (terms : Terms) (first : Known) where
  abbrev More : Come K V → Type 0
  More x = first.buckets ≤ x.notes.buckets

  pub rows_note_more : (i n : ℕ) (from to : Come K V) → Chain (RowSteps same hash terms i) n from to → first.buckets ≤ from.notes.buckets → first.buckets ≤ to.notes.buckets
  rows_note_more i n from to chain so =
      chains_keep More (RowSteps same hash terms i)
      (λ x y step its. notes_more first x.notes y.notes _ (ap (λ (z : Come K V). z.notes.buckets) step.comes) (buckets_grow acts.Row y.held.changed x.notes) its) n from to chain so

  pub makings_note_more : (i map n : ℕ) (from to : Come K V) → Chain (MakingSteps same hash terms i map) n from to → first.buckets ≤ from.notes.buckets → first.buckets ≤ to.notes.buckets
  makings_note_more i map n from to chain so =
      chains_keep More (MakingSteps same hash terms i map)
      (λ x y step its. notes_more first x.notes y.notes _ (ap (λ (z : Come K V). z.notes.buckets) step.comes) (buckets_grow (acts.Making step.making.map) y.held.changed x.notes) its) n from to chain so

  pub ends_note_more : (i map n : ℕ) (from to : Come K V) → Chain (EndSteps same hash terms i map) n from to → first.buckets ≤ from.notes.buckets → first.buckets ≤ to.notes.buckets
  ends_note_more i map n from to chain so =
      chains_keep More (EndSteps same hash terms i map)
      (λ x y step its. notes_more first x.notes y.notes _ (ap (λ (z : Come K V). z.notes.buckets) step.comes) (buckets_grow (acts.Ending map) y.held.changed x.notes) its) n from to chain so

  pub all_note_more : (i n : ℕ) (from to : AllCome K V) → Chain (AllSteps same hash terms i) n from to → first.buckets ≤ from.come.notes.buckets → first.buckets ≤ to.come.notes.buckets
  all_note_more i n from to chain so =
      chains_keep (λ (x : AllCome K V). More x.come) (AllSteps same hash terms i)
      (λ x y step its. notes_more first x.come.notes y.come.notes _ (ap (λ (z : AllCome K V). z.come.notes.buckets) step.comes)
      (buckets_grow acts.Row y.come.held.changed x.come.notes) its) n from to chain so
