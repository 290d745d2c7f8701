-- What a call on one key has told is so of what it has answered: which pairs are shown, and which one has come back.
use Rattle.std.specs.Prelude.{Option, Result, Ok, Some}
use Rattle.std.proofs.Common.{◌≡◌, Bool, ℕ, sym, subst, ◌∙◌}
use Rattle.seize_words.specs.declared.fault.Fault.{Fault}
use Rattle.seize_words.proofs.General.{same_some}
use Rattle.map_tables.specs.declared.node.Node.{Node}
use Rattle.map_tables.specs.declared.node.Node.TheVariants.{Pair}
use Rattle.papaya_raw.specs.declared.machines.progress.Answer.{Answer}
use Rattle.threads_errands.specs.Given.ActsActs.{Wanted}
use Rattle.threads_errands.specs.Given.CallKindsShows.{AnsweredAreVisible}
use Rattle.threads_errands.specs.Given.ErrandsCalling.{HasCalled, IsBack, is_put, outcome_of, pair_wanted}
use Rattle.threads_errands.specs.Given.ErrandsLooking.{HasRun}
use Rattle.threads_errands.specs.Given.ViewsDeclared.view.View.{View}
use Rattle.threads_errands.specs.Given.ViewsLooks.{shown_in}
use Rattle.threads_callers.specs.Answers.{CameBack, IsOutOf, has_stored}
use Rattle.threads_callers.specs.declared.answers.Attempt.{Attempt}
use Rattle.threads_callers.specs.declared.answers.Attempt.TheVariants.{Stored, Present}

-- what a call has come to is said of what it has answered,
pub ran_by : {K V S : Type 0} (same : K → K → Bool) (hash : S → K → ℕ) {wanted : Wanted K V} {answer told : Result Answer Fault} {unstored : Option (Node K V)} (v w : View K V S) → answer ≡ told
    → HasCalled same hash wanted answer unstored v w → HasRun same hash wanted (outcome_of told) v w
ran_by same hash {wanted} v w says called = subst (λ (r : Result Answer Fault). HasRun same hash wanted (outcome_of r) v w) says called.ran

-- and its pair has come back, unless it is in the map
pub back_by : {K V S : Type 0} (same : K → K → Bool) (hash : S → K → ℕ) {wanted : Wanted K V} {answer told : Result Answer Fault} {unstored : Option (Node K V)} (v w : View K V S) → answer ≡ told
    → HasCalled same hash wanted answer unstored v w → (pair : Node K V) → pair_wanted wanted ≡ Some pair → IsBack pair told unstored
back_by same hash {wanted} {answer} {told} {unstored} v w says called pair its = subst (λ (r : Result Answer Fault). IsBack pair r unstored) says (called.back pair its)

-- and the pairs with which it has answered are shown
pub shows_by : {K V S : Type 0} (same : K → K → Bool) (hash : S → K → ℕ) {wanted : Wanted K V} {answer told : Result Answer Fault} {unstored : Option (Node K V)} (v w : View K V S) → answer ≡ told
    → HasCalled same hash wanted answer unstored v w → AnsweredAreVisible (outcome_of {T = Node K V} told) (shown_in w.held)
shows_by {K} {V} same hash v w says called = subst (λ (r : Result Answer Fault). AnsweredAreVisible (outcome_of {T = Node K V} r) (shown_in w.held)) says called.shows

-- two pairs that both have come back are one
pub one_back : {K V : Type 0} (unstored : Option (Node K V)) (k key : K) (v value : V) → unstored ≡ Some (Pair k v) → unstored ≡ Some (Pair key value) → (k ≡ key) × (v ≡ value)
one_back unstored k key v value out back = let e = same_some (Pair k v) (Pair key value) (sym out ∙ back) in (cc e, cc e)

-- so it is handed back where it was not stored
pub came_back : {K V : Type 0} (key : K) (value : V) (attempt : Attempt K V) (answer : Answer) (unstored : Option (Node K V)) → has_stored attempt ≡ is_put answer → IsOutOf unstored attempt
    → IsBack (Pair key value) (Ok answer) unstored → CameBack key value attempt
came_back key value Stored answer unstored stored out back = tt
came_back key value (Present k v) answer unstored stored out back = one_back unstored k key v value out (back.0 (sym stored))
