-- A change that is refused is one whose own machine was, run on the memory once it was refreshed.
use Rattle.std.specs.Prelude.{◌≡◌, Result, Ok, Err, IfErr}
use Rattle.std.proofs.Common.{ap, sym, subst, ◌∙◌}
use Rattle.seize_words.specs.declared.fault.Fault.{Fault}
use Rattle.papaya_raw.specs.declared.machines.answer.KeyAnswer.{KeyAnswer}
use Rattle.owner_asks.specs.declared.computing.Computed.{Computed}
use Rattle.owner_asks.specs.declared.computing.Computed.TheVariants as computed
use Rattle.owner_calls.specs.Owned.Calling.{stop_by}
use Rattle.owner_calls.specs.declared.machines.Stop.{Stop}
use Rattle.owner_asks.specs.Asks.Closures.{computing_stop}
use Rattle.seize_words.specs.declared.refused.RefusedKey.{RefusedKey}
use Rattle.owner_rests.specs.Rests.Asking.{ended_by, computing_ended_by}
use Rattle.owner_rests.specs.declared.change.Change.{Change}
use Rattle.owner_rests.specs.declared.change.ComputedChange.{ComputedChange}

-- of a run that has come to this
module _ (Ran : Result Stop Fault → Type 0) where
  pub refused_because : {E : Type 0} (fault_of : E → Fault) (r : Result KeyAnswer E) → Ran (stop_by fault_of r) → (d : Result Change E) → d ≡ ended_by r → IfErr d (λ e. Ran (Err (fault_of e)))
  refused_because fault_of (Ok answer) ran d is = subst (λ x. IfErr x (λ e. Ran (Err (fault_of e)))) (sym is) tt
  refused_because fault_of (Err e) ran d is = subst (λ x. IfErr x (λ e. Ran (Err (fault_of e)))) (sym is) ran

  pub computing_because : {K T : Type 0} (r : Result (Computed T) (RefusedKey K)) → Ran (computing_stop r) → (d : Result (ComputedChange T) (RefusedKey K)) → d ≡ computing_ended_by r
      → IfErr d (λ (e : RefusedKey K). Ran (Err e.fault))
  computing_because {K} (Ok (computed.Changed answer)) ran d is = subst (λ x. IfErr x (λ (e : RefusedKey K). Ran (Err e.fault))) (sym is) tt
  computing_because {K} (Ok (computed.Aborted end answer)) ran d is = subst (λ x. IfErr x (λ (e : RefusedKey K). Ran (Err e.fault))) (sym is) tt
  computing_because {K} (Err e) ran d is = subst (λ x. IfErr x (λ (e : RefusedKey K). Ran (Err e.fault))) (sym is) ran

  pub storing_because : (end : Result Stop Fault) (fault told : Fault) → end ≡ Err fault → told ≡ fault → Ran end → Ran (Err told)
  storing_because end fault told is same ran = subst Ran (is ∙ ap (λ (f : Fault). Err f) (sym same)) ran
