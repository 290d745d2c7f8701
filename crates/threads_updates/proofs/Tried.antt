-- What calls that compute have come to, one after another.
use Rattle.std.specs.Prelude.{suc, Option, Some, None, Result, Ok, Err, IfNone, IfSome}
use Rattle.std.proofs.Common.{◌≡◌, ℕ, Bool, inl, inr, refl, subst}
use Rattle.seize_words.specs.declared.fault.Fault.{Fault}
use Rattle.seize_words.specs.declared.fault.Fault.TheVariants.{Memory}
use Rattle.seize_words.specs.declared.operation.Operation.{Operation}
use Rattle.seize_words.specs.declared.operation.Operation.TheVariants as operation
use Rattle.papaya_raw.specs.declared.machines.progress.Answer.{Answer}
use Rattle.threads_calls.specs.Given.ActsActs.{Compute}
use Rattle.threads_calls.specs.Given.ViewsDeclared.view.View.{View}
use Rattle.threads_calls.specs.Given.StepsAsking.{HasAnswered}
use Rattle.threads_updates.specs.Computing.{Once, SaidLast, Told}
use Rattle.threads_updates.specs.Deciding.{NewOldOr}
use Rattle.threads_updates.specs.Updated.{EndsSo, HasComputed, HasLeft, HasStopped, HasTold, HasTriedOnce, IsLeft, IsSo, SaysAborted}
use Rattle.threads_updates.specs.declared.changing.ComputedPair.{ComputedPair}
use Rattle.threads_updates.specs.declared.changing.ComputedPair.TheVariants as computed
use Rattle.threads_updates.specs.declared.computing.ComputedOnce.{ComputedOnce}

module _ {K V S T : Type 0} (same : K → K → Bool) (hash : S → K → ℕ) (Is : K → Type 0) (Gives : Option (K × V) → Operation V T → Type 0) (v : View K V S) where
  -- with what was said last that nothing is to change
  says_aborted : (end : Option T) → SaidLast Gives end → (done : ComputedPair T) → EndsSo end done → SaysAborted Gives done
  says_aborted end said (computed.Aborted with_it) is = subst (λ (o : Option T). SaidLast Gives o) is said
  says_aborted end said _ is = tt

  module _ (w : View K V S) (key : K) (is : Is key) (once : ComputedOnce T) (came : Once same hash Gives (Compute key) once v w) where
    has_told : (told : Result Answer Fault) → once.told ≡ told → HasTold same hash Is Gives told v w
    has_told told e = (key, is, subst (λ (r : Result Answer Fault). HasAnswered same hash (Told Gives) (Compute key) r v w) e came.answered)

    -- a call has ended
    pub tried_done : (answer : Answer) → once.told ≡ Ok answer → (done : Option (ComputedPair T)) → IfSome done (λ it. IsSo it answer × EndsSo once.end it) → IfNone done (IsLeft answer)
        → HasTriedOnce same hash Is Gives (Ok done) v w
    tried_done answer e (Some done) so left = (answer, has_told (Ok answer) e, so.0, says_aborted once.end came.said done so.1)
    tried_done answer e None so left = (answer, has_told (Ok answer) e, left)

    pub tried_refused : (fault : Fault) → once.told ≡ Err fault → HasTriedOnce same hash Is Gives (Err fault) v w
    tried_refused fault e = inl (has_told (Err fault) e)

  -- calls have gone on,
  module _ (n : ℕ) (u w : View K V S) (left : HasLeft same hash Is Gives n v u) where
    pub left_on : HasTriedOnce same hash Is Gives (Ok None) u w → HasLeft same hash Is Gives (suc n) v w
    left_on tried = (u, left, tried)

    -- and one has changed the map, or stopped
    pub computed_then : (done : ComputedPair T) → HasTriedOnce same hash Is Gives (Ok (Some done)) u w → HasComputed same hash Is Gives done v w
    computed_then done (answer, told, so, said) = record { tries = n; before = u; left = left; answer = answer; told = told; so = so; said = said }

    pub stopped_then : (fault : Fault) → HasTriedOnce same hash Is Gives (Err fault) u w → HasStopped same hash Is Gives fault v w
    stopped_then fault tried = (n, u, left, tried)

  stopped_aborted : (w : View K V S) (end : T) → HasComputed same hash Is Gives (computed.Aborted end) v w → HasStopped same hash Is Gives Memory v w
  stopped_aborted w end has = (suc has.tries, w, (has.before, has.left, (has.answer, has.told, has.so)), inr (refl, refl))

-- what one has come to, by what that is
module _ {K V S T : Type 0} (same : K → K → Bool) (hash : S → K → ℕ) (Is : K → Type 0) (Gives : Option (K × V) → Operation V T → Type 0) (v w : View K V S) (came : Result (Option (ComputedPair T)) Fault) where
  pub tried_ok : (one other : Option (ComputedPair T)) → came ≡ Ok one → one ≡ other → HasTriedOnce same hash Is Gives came v w → HasTriedOnce same hash Is Gives (Ok other) v w
  tried_ok one other is one_is tried =
      subst (λ (o : Option (ComputedPair T)). HasTriedOnce same hash Is Gives (Ok o) v w) one_is
      (subst (λ (r : Result (Option (ComputedPair T)) Fault). HasTriedOnce same hash Is Gives r v w) is tried)

  pub tried_err : (fault : Fault) → came ≡ Err fault → HasTriedOnce same hash Is Gives came v w → HasTriedOnce same hash Is Gives (Err fault) v w
  tried_err fault is tried = subst (λ (r : Result (Option (ComputedPair T)) Fault). HasTriedOnce same hash Is Gives r v w) is tried

-- where a value is stored wherever the key is missing, it is not said that nothing is to change
pub not_aborted : {K V S T : Type 0} (same : K → K → Bool) (hash : S → K → ℕ) (Is : K → Type 0) (Makes : V → V → Type 0) (IsNew : V → Type 0) (v w : View K V S) (done : ComputedPair T) (end : T)
    → HasComputed same hash Is (NewOldOr {K = K} {T = T} Makes IsNew) done v w → done ≡ computed.Aborted end → ⊥
not_aborted {K} {V} {S} {T} same hash Is Makes IsNew v w done end has e = none said.0 said.1
  where
    said : SaysAborted (NewOldOr {K = K} {T = T} Makes IsNew) (computed.Aborted end)
    said = subst (λ (d : ComputedPair T). SaysAborted (NewOldOr {K = K} {T = T} Makes IsNew) d) e has.said

    none : (about : Option (K × V)) → NewOldOr {K = K} {T = T} Makes IsNew about (operation.Abort end) → ⊥
    none None is = is
    none (Some x) is = is

-- who was to change nothing, as there was no memory, has stopped
pub stopped_so : {K V S : Type 0} (same : K → K → Bool) (hash : S → K → ℕ) (Is : K → Type 0) (Gives : Option (K × V) → Operation V Unit → Type 0) (v w : View K V S) (done : ComputedPair Unit)
    → done ≡ computed.Aborted tt → HasComputed same hash Is Gives done v w → HasStopped same hash Is Gives Memory v w
stopped_so same hash Is Gives v w done e has = stopped_aborted same hash Is Gives v w tt (subst (λ (d : ComputedPair Unit). HasComputed same hash Is Gives d v w) e has)
