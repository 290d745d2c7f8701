-- The pairs that are named are shown by the seat of the call that has told of them.
use Rattle.std.specs.Prelude.{Option, Some, None, IfSome, Ok, option_map}
use Rattle.std.proofs.Common.{◌≡◌, ℕ, Bool, inl, inr, subst}
use Rattle.seize_words.proofs.General.{same_some}
use Rattle.seize_words.specs.declared.operation.Operation.{Operation}
use Rattle.map_tables.specs.declared.node.Node.{Node}
use Rattle.papaya_raw.specs.declared.machines.answer.KeyAnswer.TheVariants as answers
use Rattle.papaya_raw.specs.declared.machines.progress.Answer.{Answer}
use Rattle.papaya_raw.specs.declared.machines.progress.Answer.TheVariants as said
use Rattle.threads_calls.specs.Given.CallersDeclared.caller.MapCaller.{MapCaller}
use Rattle.threads_calls.specs.Given.CallKindsShows.{AnsweredAreVisible}
use Rattle.threads_calls.specs.Given.ErrandsCalling.{outcome_of}
use Rattle.threads_calls.specs.Given.ViewsDeclared.view.View.{View}
use Rattle.threads_calls.specs.Given.ViewsLooks.{shown_in}
use Rattle.threads_calls.specs.Shown.{Shows}
use Rattle.threads_updates.specs.Updated.{HasComputed, IsSo, ShowsNamed, named_by}
use Rattle.threads_updates.specs.declared.changing.ComputedPair.{ComputedPair}
use Rattle.threads_updates.specs.declared.changing.ComputedPair.TheVariants as computed

module _ {K V S : Type 0} (c : MapCaller K V S) where
  module _ {T : Type 0} where
    shows_so : (done : ComputedPair T) (answer : Answer) → IsSo done answer → AnsweredAreVisible (outcome_of {T = Node K V} (Ok answer)) (shown_in c.seat.view.held) → ShowsNamed c done
    shows_so (computed.Inserted new) (said.Key (answers.Stored word)) is shows = shows new.word is
    shows_so (computed.Updated old new) (said.Key (answers.Replaced was is)) so shows = (shows old.word (inl so.0), shows new.word (inr so.1))
    shows_so (computed.Removed old) (said.Key (answers.Removed word)) is shows = shows old.word is
    shows_so (computed.Aborted end) answer is shows = tt
    shows_so _ _ is shows = absurd is

    -- those of what has become of a key,
    pub shows_computed : (same : K → K → Bool) (hash : S → K → ℕ) (Is : K → Type 0) (Gives : Option (K × V) → Operation V T → Type 0) (v : View K V S) (done : ComputedPair T)
        → HasComputed same hash Is Gives done v c.seat.view → ShowsNamed c done
    shows_computed same hash Is Gives v done has = shows_so done has.answer has.so has.told.2.shows

    -- and one that it is told by the word of that
    pub named_shown : (done : ComputedPair T) → ShowsNamed c done → (word : ℕ) → named_by done ≡ Some word → Shows c word
    named_shown (computed.Inserted new) shows word is = subst (Shows c) (same_some new.word word is) shows
    named_shown (computed.Updated old new) shows word is = subst (Shows c) (same_some new.word word is) shows.1
    named_shown (computed.Removed old) shows word is = subst (Shows c) (same_some old.word word is) shows
    named_shown (computed.Aborted end) shows word is = absurd (cc is)

    pub named_there : {A : Type 0} (word : A → ℕ) (done : ComputedPair T) → ShowsNamed c done → (o : Option A) → named_by done ≡ option_map word o → IfSome o (λ x. Shows c (word x))
    named_there word done shows None is = tt
    named_there word done shows (Some x) is = named_shown done shows (word x) is
