-- What a seat knows once its call has taken a step: a call that asks nothing goes on, or has ended.
use Rattle.std.specs.Prelude.{Result, Ok, Err, IfOk}
use Rattle.std.proofs.Common.{◌≡◌, ℕ, Bool, subst, ◌∙◌}
use Rattle.seize_words.specs.declared.fault.Fault.{Fault}
use Rattle.map_tables.specs.declared.node.Node.{Node}
use Rattle.papaya_raw.specs.declared.machines.machine.Machine.{Machine}
use Rattle.papaya_raw.specs.declared.machines.progress.Answer.{Answer}
use Rattle.papaya_raw.specs.declared.machines.progress.Progress.{Progress}
use Rattle.papaya_raw.specs.declared.machines.progress.Progress.TheVariants as progress
use Rattle.threads_rule.specs.Views.Looks.{shown_in}
use Rattle.threads_rule.specs.Views.Told.{call_after}
use Rattle.threads_rule.specs.declared.view.View.{View}
use Rattle.threads_rule.specs.declared.view.SeatWork.TheVariants.{Calls}
use Rattle.threads_rule.specs.Errands.Calling.{CalledSo, IsAnswerBy, IsAnswerTo, IsCalling, MayStep, Sort, StepsTo, Works, outcome_of, sort_of}
use Rattle.threads_rule.specs.Errands.Looking.{StaysThere}
use Rattle.threads_rule.proofs.Errands.Machines.{GoesAs, TellsOn, none_steady, tells_on}

module _ {K V S : Type 0} (hasher : S) where
  -- it is under way still, as another machine
  pub works_so : (machine next : Machine K V K) (v w : View K V S) → Works hasher machine v → StaysThere v w → w.work ≡ Calls next → Works hasher next w
  works_so machine next v w is stays works = record { map = is.map; knows = stays.map ∙ is.knows; hashes = is.hashes; works = works }

  -- its next step may be taken
  pub may_call : (machine : Machine K V K) (v : View K V S) → IsCalling hasher machine v → MayStep hasher machine v
  may_call machine v is = record { at = is.at; steady = none_steady machine is.none }

  module _ (same : K → K → Bool) (hash : S → K → ℕ) (machine next : Machine K V K) (told : Progress (Node K V)) (v w : View K V S) (is : IsCalling hasher machine v)
      (stepped : StepsTo same hash hasher machine next told v w) where
    goes_as : GoesAs machine (next, told)
    goes_as = tells_on same (hash hasher) machine is.none (shown_in w.held) (next, told) stepped.leads

    -- what it has come to by the step, if that has told this
    by : (then_ : Progress (Node K V)) → TellsOn next then_ → w.work ≡ call_after next then_ → CalledSo hasher next then_ w
    by progress.Goes on work = record { at = works_so machine next v w is.at stepped.stays work; none = on }
    by progress.Waits on work = record { at = works_so machine next v w is.at stepped.stays work; none = on }
    by (progress.Gave value) on work = record { at = works_so machine next v w is.at stepped.stays work; none = on }
    by (progress.Unstored value) on work = record { at = works_so machine next v w is.at stepped.stays work; none = on }
    by (progress.Asks pair) on work = absurd on
    by progress.Ready on work = absurd on
    by (progress.Pair pair) on work = absurd on
    by (progress.Done answer) on work = (work, on)
    by (progress.Refused fault) on work = work

    pub called_so : CalledSo hasher next told w
    called_so = by told goes_as.0 stepped.work

    pub called_like : sort_of next ≡ sort_of machine
    called_like = goes_as.1

-- an answer to a call is one to the call as which that goes on
pub answers_so : {K V : Type 0} (machine next : Machine K V K) (answer : Answer) → sort_of next ≡ sort_of machine → IsAnswerBy next answer → IsAnswerBy machine answer
answers_so machine next answer like is = subst (λ (sort : Sort). IsAnswerTo sort answer) like is

-- where it ends with one
pub fits_then : {K V S : Type 0} (hasher : S) (machine next : Machine K V K) (answer : Result Answer Fault) (w : View K V S) → sort_of next ≡ sort_of machine
    → CalledSo hasher next (outcome_of answer) w → IfOk answer (IsAnswerBy machine)
fits_then hasher machine next (Ok answer) w like is = answers_so machine next answer like is.1
fits_then hasher machine next (Err fault) w like is = tt
