-- A step in a memory that tells, which has forgotten what was told before.
use Rattle.std.specs.Prelude.{true, false}
use Rattle.std.proofs.Common.{◌≡◌, refl, sym, subst}
use Rattle.seize_words.specs.OneMemory.Mem.{Can, Took, value_at}
use Rattle.seize_words.specs.OneMemory.Plan.{Plan, May, Steps}
use Rattle.papaya_raw.specs.Given.TablesDeclared.node.Node.{Node}
use Rattle.run_places.specs.Given.TellerChanged.{is_made}
use Rattle.run_places.specs.Given.TellerTells.{Telling, CanTell, TookObserved, StepsObserved}
use Rattle.run_places.specs.Given.EffectsDeclared.changed.Changed.TheVariants.{Nothing}
use Rattle.run_places.proofs.Given.ReportingMemoryLaws.{may_with_teller, refuses_with_teller, steps_with_teller}

module _ (K V R : Type 0) (t f : Telling K V R) (is : f ≡ record t { changed = Nothing }) (plan : Plan (Node K V) R) where
  pub may_forgotten : May Can Took value_at t.memory plan → May (CanTell K V R) (TookObserved K V R) (λ t. value_at t.memory) f plan
  may_forgotten may = subst (λ (f : Telling K V R). May (CanTell K V R) (TookObserved K V R) (λ t. value_at t.memory) f plan) (sym is) (may_with_teller K V R (record t { changed = Nothing }) plan may)

  pub steps_forgotten : (n : Telling K V R) (end : R) → Steps (TookObserved K V R) (λ t. value_at t.memory) f plan n end → StepsObserved K V R t.memory Nothing plan n.memory n.changed end
  steps_forgotten n end st =
      steps_with_teller K V R (record t { changed = Nothing }) n plan end (subst (λ (f : Telling K V R). Steps (TookObserved K V R) (λ t. value_at t.memory) f plan n end) is st)

  -- where it refuses blocks, none was made
  pub none_made : t.refuses ≡ true → (n : Telling K V R) (end : R) → Steps (TookObserved K V R) (λ t. value_at t.memory) f plan n end → is_made n.changed ≡ false
  none_made refuses n end st =
      (refuses_with_teller K V R (record t { changed = Nothing }) n plan end (subst (λ (f : Telling K V R). Steps (TookObserved K V R) (λ t. value_at t.memory) f plan n end) is st)).1
      refuses refl
