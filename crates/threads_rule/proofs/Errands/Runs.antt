-- What the calls of a seat have told, from step to step.
use Rattle.std.specs.Prelude.{List, [], ◌∷◌, Option, Some, Result, Ok, Err}
use Rattle.std.proofs.Common.{◌≡◌, ℕ, Bool, refl, sym, subst, ap, ◌∙◌}
use Rattle.many_acts.specs.Acts.Acts.{Wanted, Get, Remove, Insert, TryToInsert, Compute, Update, UpdateOrInsert, TryToInsertWith, RemoveIf, GetKeyValue, ContainsKey, GetOrInsert, GetOrInsertWith, RemoveEntry, MakeRoom, Count, GoOver}
use Rattle.seize_words.specs.declared.fault.Fault.{Fault}
use Rattle.papaya_raw.specs.declared.machines.progress.Answer.{Answer}
use Rattle.papaya_raw.specs.declared.machines.machine.Machine.{Machine}
use Rattle.papaya_raw.specs.declared.machines.progress.Progress.{Progress}
use Rattle.papaya_raw.specs.declared.machines.progress.Progress.TheVariants as progress
use Rattle.map_tables.specs.declared.node.Node.{Node}
use Rattle.threads_rule.specs.Views.Told.{newest_progress, pair_in, untold}
use Rattle.threads_rule.specs.declared.view.BegunCall.{BegunCall}
use Rattle.threads_rule.specs.declared.view.View.{View}
use Rattle.threads_rule.specs.declared.view.SeatWork.TheVariants.{Nothing}
use Rattle.threads_rule.proofs.Views.Pairs.{newest_pair}
use Rattle.threads_kinds.specs.CallKinds.Shows.{AnsweredAreVisible}
use Rattle.threads_rule.specs.Views.Looks.{shown_in}
use Rattle.threads_rule.specs.Errands.Calling.{CalledSo, IsReturned, HasEnded, IsBack, IsCalling, IsGoing, IsNoQuestion, outcome_of, pair_wanted}
use Rattle.threads_rule.specs.Errands.Looking.{Begins, HasRun, HasProgressed, IsOfThem}

retold : {K V : Type 0} (told before : Progress (Node K V)) (runs : List (BegunCall K V)) → newest_progress told (newest_progress before runs) ≡ newest_progress told runs
retold told before [] = refl
retold told before (run ∷ runs) = refl

module _ {K V S : Type 0} where
  -- its calls are the same after a step,
  pub of_them : (u v w : View K V S) (told : Progress (Node K V)) → IsOfThem u v → HasProgressed told v w → IsOfThem u w
  of_them u v w told is has other = ap (newest_progress other) has ∙ retold other told v.calls ∙ is other

  -- the last of which says what it has told
  pub told_last : (u v w : View K V S) (told : Progress (Node K V)) → IsOfThem u v → HasProgressed told v w → HasProgressed told u w
  told_last u v w told is has = has ∙ is told

  -- whose call has begun, and has told this last, has run one call more
  pub has_run : (same : K → K → Bool) (hash : S → K → ℕ) (wanted : Wanted K V) (told : Progress (Node K V)) (u v w : View K V S) → Begins same hash wanted u v → HasProgressed told v w
      → HasRun same hash wanted told u w
  has_run same hash wanted told u v w begins has =
      (begins.0, begins.1, begins.2, begins.3, has ∙ ap (λ (x : View K V S). newest_progress told x.calls) begins.4)

  -- a call that was to store a pair began with it
  stores_it : (same : K → K → Bool) (hash : S → K → ℕ) (wanted : Wanted K V) (pair : Node K V) (u v : View K V S) → pair_wanted wanted ≡ Some pair → Begins same hash wanted u v
      → pair_in v.calls ≡ Some pair
  stores_it same hash (Insert key value) pair u v is begins = ap (λ (x : View K V S). pair_in x.calls) begins.4 ∙ is
  stores_it same hash (TryToInsert key value) pair u v is begins = ap (λ (x : View K V S). pair_in x.calls) begins.4 ∙ is
  stores_it same hash (Get key) pair u v is begins = absurd (cc is)
  stores_it same hash (Remove key) pair u v is begins = absurd (cc is)
  stores_it same hash (Compute key) pair u v is begins = absurd (cc is)
  stores_it same hash (Update key) pair u v is begins = absurd (cc is)
  stores_it same hash (UpdateOrInsert key value) pair u v is begins = absurd (cc is)
  stores_it same hash (TryToInsertWith key) pair u v is begins = absurd (cc is)
  stores_it same hash (RemoveIf key) pair u v is begins = absurd (cc is)
  stores_it same hash (GetKeyValue key) pair u v is begins = absurd (cc is)
  stores_it same hash (ContainsKey key) pair u v is begins = absurd (cc is)
  stores_it same hash (GetOrInsert key value) pair u v is begins = absurd (cc is)
  stores_it same hash (GetOrInsertWith key) pair u v is begins = absurd (cc is)
  stores_it same hash (RemoveEntry key) pair u v is begins = absurd (cc is)
  stores_it same hash (MakeRoom additional) pair u v is begins = absurd (cc is)
  stores_it same hash Count pair u v is begins = absurd (cc is)
  stores_it same hash (GoOver purpose) pair u v is begins = absurd (cc is)

  -- so that is what has come back
  pub comes_back : (same : K → K → Bool) (hash : S → K → ℕ) (wanted : Wanted K V) (told : Result Answer Fault) (back : Option (Node K V)) (u v : View K V S) → Begins same hash wanted u v
      → ((pair : Node K V) → pair_wanted wanted ≡ Some pair → pair_in v.calls ≡ Some pair → IsBack pair told back) → IsReturned wanted told back
  comes_back same hash wanted told back u v begins is = λ pair its. is pair its (stores_it same hash wanted pair u v its begins)

  -- the pair that the newest call began with is the same, whatever that has told
  pub same_pair : (u v : View K V S) → IsOfThem u v → pair_in v.calls ≡ pair_in u.calls
  same_pair u v is = sym (newest_pair untold v.calls) ∙ ap pair_in (is untold) ∙ newest_pair untold u.calls

  -- a call that has told its outcome has ended
  free_then : (hasher : S) (machine : Machine K V K) (answer : Result Answer Fault) (w : View K V S) → CalledSo hasher machine (outcome_of answer) w → w.work ≡ Nothing
  free_then hasher machine (Ok answer) w is = is.0
  free_then hasher machine (Err fault) w is = is

  pub ended_so : (hasher : S) (machine : Machine K V K) (told : Progress (Node K V)) (answer so : Result Answer Fault) (u v w : View K V S) → told ≡ outcome_of answer → so ≡ answer
      → CalledSo hasher machine told w → IsOfThem u v → HasProgressed told v w → AnsweredAreVisible told (shown_in w.held) → HasEnded so u w
  ended_so hasher machine told answer so u v w is same called them has shows =
      subst (λ (r : Result Answer Fault). HasEnded r u w) (sym same)
      (record {
        free = free_then hasher machine answer w (subst (λ (t : Progress (Node K V)). CalledSo hasher machine t w) is called);
        told = told_last u v w (outcome_of answer) them (subst (λ (t : Progress (Node K V)). HasProgressed t v w) is has);
        shows = subst (λ (t : Progress (Node K V)). AnsweredAreVisible t (shown_in w.held)) is shows;
      })

  -- a call that asks nothing tells no question,
  pub asks_none : (hasher : S) (machine : Machine K V K) (told : Progress (Node K V)) (w : View K V S) → CalledSo hasher machine told w → IsNoQuestion told
  asks_none hasher machine progress.Goes w called = tt
  asks_none hasher machine progress.Waits w called = tt
  asks_none hasher machine (progress.Gave value) w called = tt
  asks_none hasher machine (progress.Unstored value) w called = tt
  asks_none hasher machine (progress.Asks pair) w called = called
  asks_none hasher machine progress.Ready w called = called
  asks_none hasher machine (progress.Pair pair) w called = called
  asks_none hasher machine (progress.Done answer) w called = tt
  asks_none hasher machine (progress.Refused fault) w called = tt

  -- and goes on where it has not ended
  pub goes_on : (hasher : S) (machine : Machine K V K) (told : Progress (Node K V)) (w : View K V S) → CalledSo hasher machine told w → IsGoing told → IsCalling hasher machine w
  goes_on hasher machine progress.Goes w called on = called
  goes_on hasher machine progress.Waits w called on = called
  goes_on hasher machine (progress.Gave value) w called on = called
  goes_on hasher machine (progress.Unstored value) w called on = called
  goes_on hasher machine (progress.Asks pair) w called on = absurd called
  goes_on hasher machine progress.Ready w called on = absurd called
  goes_on hasher machine (progress.Pair pair) w called on = absurd called
  goes_on hasher machine (progress.Done answer) w called on = absurd on
  goes_on hasher machine (progress.Refused fault) w called on = absurd on
