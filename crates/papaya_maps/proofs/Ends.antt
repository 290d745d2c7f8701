-- What the errands of calls come to: they end where they began, with nothing under way, and show the pairs that their answers name.
use Rattle.std.specs.Prelude.{Option, Some, None, Result, Ok, Err, IfSome}
use Rattle.std.proofs.Common.{ℕ, Bool, inl, inr, refl}
use Rattle.map_tables.specs.declared.node.Node.{Node}
use Rattle.papaya_raw.specs.declared.machines.answer.KeyAnswer.TheVariants as answers
use Rattle.papaya_raw.specs.declared.machines.progress.Answer.{Answer}
use Rattle.papaya_raw.specs.declared.machines.progress.Answer.TheVariants as said
use Rattle.seize_words.specs.declared.fault.Fault.{Fault}
use Rattle.threads_callers.specs.Given.ActsActs.{Wanted}
use Rattle.threads_callers.specs.Given.CallKindsKinds.{PairIsVisible}
use Rattle.threads_callers.specs.Given.CallKindsShows.{AnsweredAreVisible}
use Rattle.threads_callers.specs.Given.ErrandsCalling.{HasCalled, outcome_of, pair_there}
use Rattle.threads_callers.specs.Given.ErrandsCounting.{HasCounted}
use Rattle.threads_callers.specs.Given.ErrandsLooking.{HasFound, HasLookedAt}
use Rattle.threads_callers.specs.Given.ViewsDeclared.view.View.{View}
use Rattle.threads_callers.specs.Given.ViewsLooks.{shown_in}
use Rattle.threads_owners.specs.Loans.{AllEndThere, EndsThere, gone_by, names_of}

module _ {K V S : Type 0} (same : K → K → Bool) (hash : S → K → ℕ) where
  looked_at : (key : K) (found : Option ℕ) (w : View K V S) → IfSome found (HasLookedAt same key w) → IfSome found (PairIsVisible (shown_in w.held))
  looked_at key None w shows = tt
  looked_at key (Some word) w shows = (shows.0, shows.1, shows.3)

  pub finds_end : (key : K) → AllEndThere (λ (v : View K V S) (found : Option ℕ) (w : View K V S). HasFound same hash key found v w) (λ found. (None, found))
  finds_end key found v w has = record { free = has.looked.free; stays = has.stays; gone = tt; there = looked_at key found w has.looked.shows }

  pub counts_end : AllEndThere (λ (v : View K V S) (count : ℕ) (w : View K V S). HasCounted same hash count v w) (λ count. (None, None))
  counts_end count v w has = record { free = has.free; stays = has.stays; gone = tt; there = tt }

module _ {K V : Type 0} (shown : ℕ → Option (Node K V)) where
  -- what is gone by an answer, and what is there, is shown
  gone_shown : (answer : Answer) → AnsweredAreVisible (outcome_of {T = Node K V} (Ok answer)) shown → IfSome (gone_by answer) (PairIsVisible shown)
  gone_shown (said.Key (answers.Replaced old new)) shows = shows old (inl refl)
  gone_shown (said.Key (answers.Removed word)) shows = shows word refl
  gone_shown (said.Key answers.Absent) shows = tt
  gone_shown (said.Key (answers.Found word)) shows = tt
  gone_shown (said.Key (answers.Stored word)) shows = tt
  gone_shown said.Reserved shows = tt
  gone_shown said.Swept shows = tt
  gone_shown (said.Count n) shows = tt

  there_shown : (answer : Answer) → AnsweredAreVisible (outcome_of {T = Node K V} (Ok answer)) shown → IfSome (pair_there answer) (PairIsVisible shown)
  there_shown (said.Key (answers.Replaced old new)) shows = shows new (inr refl)
  there_shown (said.Key (answers.Found word)) shows = shows word refl
  there_shown (said.Key (answers.Stored word)) shows = shows word refl
  there_shown (said.Key answers.Absent) shows = tt
  there_shown (said.Key (answers.Removed word)) shows = tt
  there_shown said.Reserved shows = tt
  there_shown said.Swept shows = tt
  there_shown (said.Count n) shows = tt

module _ {K V S : Type 0} (same : K → K → Bool) (hash : S → K → ℕ) where
  pub call_ends : (wanted : Wanted K V) (answer : Result Answer Fault) (unstored : Option (Node K V)) (v w : View K V S) → HasCalled same hash wanted answer unstored v w → EndsThere (names_of answer) v w
  call_ends wanted (Ok answer) unstored v w has =
      record { free = has.free; stays = has.stays; gone = gone_shown (shown_in w.held) answer has.shows; there = there_shown (shown_in w.held) answer has.shows }
  call_ends wanted (Err fault) unstored v w has = record { free = has.free; stays = has.stays; gone = tt; there = tt }
