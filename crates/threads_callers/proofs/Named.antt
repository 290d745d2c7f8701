-- The pairs that the answers of calls on one key name: whether there is one, and that it is shown.
use Rattle.std.specs.Prelude.{Option, Some, None, IfSome, Ok, is_some, option_map}
use Rattle.std.proofs.Common.{◌≡◌, ℕ, inl, inr, refl, sym, ap, ◌∙◌}
use Rattle.seize_words.proofs.General.{same_some}
use Rattle.map_tables.specs.declared.node.Node.{Node}
use Rattle.papaya_raw.specs.declared.machines.answer.KeyAnswer.TheVariants as answers
use Rattle.papaya_raw.specs.declared.machines.progress.Answer.{Answer}
use Rattle.papaya_raw.specs.declared.machines.progress.Answer.TheVariants as said
use Rattle.threads_errands.specs.Given.CallKindsKinds.{PairIsVisible}
use Rattle.threads_errands.specs.Given.CallKindsShows.{AnsweredAreVisible}
use Rattle.threads_errands.specs.Given.ErrandsCalling.{outcome_of, pair_there}
use Rattle.threads_callers.specs.Answers.{is_removed, is_replaced, removed_by, replaced_by}

some_mapped : {A B : Type 0} (f : A → B) (o : Option A) → is_some o ≡ is_some (option_map f o)
some_mapped f None = refl
some_mapped f (Some x) = refl

pub replaced_is : (answer : Answer) → is_some (replaced_by answer) ≡ is_replaced answer
replaced_is (said.Key (answers.Replaced old new)) = refl
replaced_is _ = refl

pub removed_is : (answer : Answer) → is_some (removed_by answer) ≡ is_removed answer
removed_is (said.Key (answers.Removed word)) = refl
removed_is _ = refl

module _ {A : Type 0} (word : A → ℕ) (o : Option A) (answer : Answer) where
  -- there is one where one was replaced,
  pub was_replaced : replaced_by answer ≡ option_map word o → is_some o ≡ is_replaced answer
  was_replaced is = some_mapped word o ∙ ap (λ (x : Option ℕ). is_some x) (sym is) ∙ replaced_is answer

  -- or removed
  pub was_removed : removed_by answer ≡ option_map word o → is_some o ≡ is_removed answer
  was_removed is = some_mapped word o ∙ ap (λ (x : Option ℕ). is_some x) (sym is) ∙ removed_is answer

module _ {K V : Type 0} (shown : ℕ → Option (Node K V)) where
  replaced_shown : (answer : Answer) (word : ℕ) → replaced_by answer ≡ Some word → AnsweredAreVisible (outcome_of {T = Node K V} (Ok answer)) shown → PairIsVisible shown word
  replaced_shown (said.Key (answers.Replaced old new)) word is shows = shows word (inl (same_some old word is))
  replaced_shown _ word is shows = absurd (cc is)

  removed_shown : (answer : Answer) (word : ℕ) → removed_by answer ≡ Some word → AnsweredAreVisible (outcome_of {T = Node K V} (Ok answer)) shown → PairIsVisible shown word
  removed_shown (said.Key (answers.Removed old)) word is shows = shows word (same_some old word is)
  removed_shown _ word is shows = absurd (cc is)

  -- the pair that is in the map then is shown,
  pub there_shown : (answer : Answer) (word : ℕ) → pair_there answer ≡ Some word → AnsweredAreVisible (outcome_of {T = Node K V} (Ok answer)) shown → PairIsVisible shown word
  there_shown (said.Key (answers.Found found)) word is shows = shows word (same_some found word is)
  there_shown (said.Key (answers.Stored new)) word is shows = shows word (same_some new word is)
  there_shown (said.Key (answers.Replaced old new)) word is shows = shows word (inr (same_some new word is))
  there_shown _ word is shows = absurd (cc is)

  module _ {A : Type 0} (word : A → ℕ) (answer : Answer) (shows : AnsweredAreVisible (outcome_of {T = Node K V} (Ok answer)) shown) where
    -- and so is one that was replaced,
    pub replaced_there : (o : Option A) → replaced_by answer ≡ option_map word o → IfSome o (λ x. PairIsVisible shown (word x))
    replaced_there None is = tt
    replaced_there (Some x) is = replaced_shown answer (word x) is shows

    -- or removed
    pub removed_there : (o : Option A) → removed_by answer ≡ option_map word o → IfSome o (λ x. PairIsVisible shown (word x))
    removed_there None is = tt
    removed_there (Some x) is = removed_shown answer (word x) is shows
