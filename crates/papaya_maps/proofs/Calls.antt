-- That what a call on a map has come to is so in one finite map: by the newest call of the pass, by what it knew as that had ended.
use Rattle.std.specs.Prelude.{◌<◌, ◌^◌, Option, Some, None, Result, Ok, Err, IfSome, IsSome, is_some, option_map}
use Rattle.std.proofs.Common.{◌≡◌, ◌∙◌, ℕ, Bool, true, refl, sym, subst, ap}
use Rattle.papaya_raw.specs.declared.machines.answer.KeyAnswer.TheVariants as answers
use Rattle.papaya_raw.specs.declared.machines.progress.Answer.{Answer}
use Rattle.papaya_raw.specs.declared.machines.progress.Answer.TheVariants as said
use Rattle.papaya_raw.specs.declared.machines.progress.Progress.{Progress}
use Rattle.map_tables.specs.declared.node.Node.{Node}
use Rattle.map_tables.specs.declared.node.Node.TheVariants.{Pair}
use Rattle.play_moves.proofs.OneHistory.Calls.{found_none, found_value, has_inserted, has_one, has_refused, has_removed, has_removed_pair, has_tried}
use Rattle.play_moves.proofs.OneHistory.Named.{has_replaced_pair}
use Rattle.play_moves.proofs.OneHistory.Whole.{has_counted}
use Rattle.play_moves.specs.OneHistory.Calls.{FoundNone, FoundValue, HasInserted, HasOne, HasRefused, HasRemoved, HasRemovedPair, HasReplacedPair, HasTried}
use Rattle.play_moves.specs.OneHistory.Whole.{HasCounted}
use Rattle.play_moves.specs.Given.ViewsListed.{plain}
use Rattle.seize_views.specs.declared.view.Fixed.{Fixed}
use Rattle.seize_views.specs.declared.view.SlotView.{SlotView}
use Rattle.seize_words.proofs.General.{same_some}
use Rattle.seize_words.specs.OneMemory.Word.{block_in}
use Rattle.seize_words.specs.declared.fault.Fault.{Fault}
use Rattle.threads_callers.proofs.Answered.{one_back}
use Rattle.threads_callers.proofs.Named.{removed_is, replaced_is}
use Rattle.threads_callers.specs.Answers.{is_removed, is_replaced, removed_by, replaced_by}
use Rattle.threads_callers.specs.Given.ActsActs.{Count, Get, Insert, Remove, TryToInsert, Wanted}
use Rattle.threads_callers.specs.Given.ErrandsCalling.{HasCalled, is_put, outcome_of, pair_there}
use Rattle.threads_callers.specs.Given.ErrandsCounting.{HasCounted as HasMeasured}
use Rattle.threads_callers.specs.Given.ErrandsLooking.{HasFound, HasRun, StaysThere, found_of}
use Rattle.threads_callers.specs.Given.ViewsBegun.{machine_for}
use Rattle.threads_callers.specs.Given.ViewsDeclared.view.BegunCall.{BegunCall}
use Rattle.threads_callers.specs.Given.ViewsDeclared.view.View.{View}
use Rattle.threads_callers.specs.Given.ViewsLooks.{shown_in}
use Rattle.threads_callers.specs.Given.ViewsRule.{section_of}
use Rattle.threads_owners.specs.Loans.{HasDoneOn, IsLentIf, gone_by, within}
use Rattle.threads_callers.specs.declared.caller.MapCaller.{MapCaller}
use Rattle.papaya_maps.specs.Calls.{IsIf, MapCameToHaveOn, MapCountedOn, MapGaveUpOn, MapHadOn, MapLackedOn, WasRefusedOn}

-- an answer that names a pair that was removed, or replaced, is one of those
removed_one : (answer : Answer) (word : ℕ) → removed_by answer ≡ Some word → answer ≡ said.Key (answers.Removed word)
removed_one (said.Key (answers.Removed one)) word is = ap (λ (x : ℕ). said.Key (answers.Removed x)) (same_some one word is)
removed_one _ word is = absurd (cc is)

replaced_one : (answer : Answer) (old : ℕ) → replaced_by answer ≡ Some old → (new : ℕ) × (answer ≡ said.Key (answers.Replaced old new))
replaced_one (said.Key (answers.Replaced one new)) old is = (new, ap (λ (x : ℕ). said.Key (answers.Replaced x new)) (same_some one old is))
replaced_one _ old is = absurd (cc is)

-- what is one of two, or none, is so of what is made of them
pub if_mapped : {A B : Type 0} (f : A → B) (o : Option ℕ) (it result : Option A) → IsIf o it result → IsIf o (option_map f it) (option_map f result)
if_mapped f None it result is = ap (option_map f) is
if_mapped f (Some word) it result is = ap (option_map f) is

-- what is looked at through a look is the value of that, if there is one
pub values : {A K V : Type 0} (now : A → K × V) (answer : Option A) → option_map (λ a. (now a).1) answer ≡ option_map (λ p. p.1) (option_map now answer)
values now None = refl
values now (Some a) = refl

module _ {K V S : Type 0} (same : K → K → Bool) (hash : S → K → ℕ) (guard owner : MapCaller K V S) (small : guard.blocks.now.words.fixed.batch_size < 2 ^ 64) (v w : View K V S) where
  abbrev fixed : Fixed
  fixed = guard.blocks.now.words.fixed

  -- the run that a call is which was to do this on a map, and has told that
  abbrev run_of : (x y : View K V S) (wanted : Wanted K V) (told : Progress (Node K V)) → HasRun same hash wanted told x y → BegunCall K V
  run_of x y wanted told run = record { map = run.0.number; began = machine_for same hash run.0 run.1 wanted; told = told }

  module _ (x knew : View K V S) (stays : StaysThere x knew) where
    -- it acts in the same section still
    section : (t : ℕ) → section_of x.under x.slot ≡ Some t → section_of knew.under knew.slot ≡ Some t
    section t it = ap (λ (p : (SlotView (Node K V) × Option (ℕ × ℕ)) × Option ℕ). section_of p.0.1 p.0.0) stays.slot ∙ it

    none_so : (key : K) → HasRun same hash (Get key) (found_of None) x knew → (id : ℕ) → FoundNone same hash fixed id knew key
    none_so key run id =
        found_none same hash fixed small id run.1 knew run.0 (run_of x knew (Get key) (found_of None) run) x.calls (stays.map ∙ run.2) (section run.1 run.3) run.4 refl key refl refl

    value_so : (key : K) (word : ℕ) (pair : K × V) → shown_in knew.held (block_in word) ≡ Some (Pair pair.0 pair.1) → HasRun same hash (Get key) (found_of (Some word)) x knew
        → (id : ℕ) → FoundValue same hash fixed id knew key pair.1
    value_so key word pair shown run id =
        found_value same hash fixed small id run.1 knew run.0 (run_of x knew (Get key) (found_of (Some word)) run) x.calls (stays.map ∙ run.2) (section run.1 run.3) run.4 refl key word pair.0 pair.1 refl refl shown

    inserted_so : (key : K) (value : V) (answer : Answer) → HasRun same hash (Insert key value) (outcome_of (Ok answer)) x knew
        → (id : ℕ) → HasInserted same hash fixed id knew key value (is_replaced answer)
    inserted_so key value answer run id =
        has_inserted same hash fixed small id run.1 knew run.0 (run_of x knew (Insert key value) (outcome_of (Ok answer)) run) x.calls (stays.map ∙ run.2) (section run.1 run.3) run.4 refl key value answer refl refl
        is_replaced (λ old new. refl) (λ new. refl)

    replaced_so : (key : K) (value : V) (answer : Answer) (word : ℕ) (pair : K × V) → replaced_by answer ≡ Some word → shown_in knew.held (block_in word) ≡ Some (Pair pair.0 pair.1)
        → HasRun same hash (Insert key value) (outcome_of (Ok answer)) x knew → (id : ℕ) → HasReplacedPair same hash fixed id knew key value pair
    replaced_so key value answer word pair names shown run id =
        let one = replaced_one answer word names in
        has_replaced_pair same hash fixed small id run.1 knew run.0 (run_of x knew (Insert key value) (outcome_of (Ok answer)) run) x.calls (stays.map ∙ run.2) (section run.1 run.3) run.4 refl key value word one.0
        pair.0 pair.1 refl (ap (λ (a : Answer). outcome_of {T = Node K V} (Ok a)) one.1) shown

    tried_so : (key : K) (value : V) (answer : Answer) → HasRun same hash (TryToInsert key value) (outcome_of (Ok answer)) x knew
        → (id : ℕ) → HasTried same hash fixed id knew key value (is_put answer)
    tried_so key value answer run id =
        has_tried same hash fixed small id run.1 knew run.0 (run_of x knew (TryToInsert key value) (outcome_of (Ok answer)) run) x.calls (stays.map ∙ run.2) (section run.1 run.3) run.4 refl key value answer refl refl
        is_put (λ new. refl) (λ word. refl)

    one_so : (key : K) (value : V) (answer : Answer) (word : ℕ) (pair : K × V) → pair_there answer ≡ Some word → shown_in knew.held (block_in word) ≡ Some (Pair pair.0 pair.1)
        → HasRun same hash (TryToInsert key value) (outcome_of (Ok answer)) x knew → (id : ℕ) → HasOne same hash fixed id knew key value pair.1
    one_so key value answer word pair names shown run id =
        has_one same hash fixed small id run.1 knew run.0 (run_of x knew (TryToInsert key value) (outcome_of (Ok answer)) run) x.calls (stays.map ∙ run.2) (section run.1 run.3) run.4 refl key value answer word
        pair.0 pair.1 refl refl names shown

    removed_so : (key : K) (answer : Answer) → HasRun same hash (Remove key) (outcome_of (Ok answer)) x knew → (id : ℕ) → HasRemoved same hash fixed id knew key (is_removed answer)
    removed_so key answer run id =
        has_removed same hash fixed small id run.1 knew run.0 (run_of x knew (Remove key) (outcome_of (Ok answer)) run) x.calls (stays.map ∙ run.2) (section run.1 run.3) run.4 refl key answer refl refl is_removed
        (λ word. refl) refl

    taken_so : (key : K) (answer : Answer) (word : ℕ) (pair : K × V) → removed_by answer ≡ Some word → shown_in knew.held (block_in word) ≡ Some (Pair pair.0 pair.1)
        → HasRun same hash (Remove key) (outcome_of (Ok answer)) x knew → (id : ℕ) → HasRemovedPair same hash fixed id knew key pair
    taken_so key answer word pair names shown run id =
        has_removed_pair same hash fixed small id run.1 knew run.0 (run_of x knew (Remove key) (outcome_of (Ok answer)) run) x.calls (stays.map ∙ run.2) (section run.1 run.3) run.4 refl key word pair.0 pair.1 refl
        (ap (λ (a : Answer). outcome_of {T = Node K V} (Ok a)) (removed_one answer word names)) shown

    refused_so : (wanted : Wanted K V) (fault : Fault) → plain wanted ≡ wanted → HasRun same hash wanted (outcome_of (Err fault)) x knew → (id : ℕ) → HasRefused same hash fixed id knew wanted fault
    refused_so wanted fault plainly run id =
        has_refused same hash fixed small id run.1 knew run.0 (run_of x knew wanted (outcome_of (Err fault)) run) x.calls (stays.map ∙ run.2) (section run.1 run.3) run.4 refl wanted plainly fault refl refl

    counted_so : (count : ℕ) → HasRun same hash Count (outcome_of (Ok (said.Count count))) x knew → (id : ℕ) → HasCounted same hash fixed id knew count
    counted_so count run id =
        has_counted same hash fixed small id run.1 knew run.0 (run_of x knew Count (outcome_of (Ok (said.Count count))) run) x.calls (stays.map ∙ run.2) (section run.1 run.3) run.4 refl count refl refl

  -- A lookup: there was none, or the one that is lent.
  pub had_on : (key : K) (found : Option ℕ) (pair : Option (K × V)) (on : HasDoneOn (HasFound same hash key found) guard owner v w) → IsLentIf same hash guard owner on.knew found pair
      → MapHadOn same hash guard owner key pair v w
  had_on key None None on lent = record { found = None; on = on; lent = lent; had = none_so _ on.knew on.done.stays key on.done.ran }
  had_on key None (Some pair) on lent = absurd lent
  had_on key (Some word) None on lent = absurd lent
  had_on key (Some word) (Some pair) on lent = record {
    found = Some word;
    on = on;
    lent = lent;
    had = (
      subst (λ (k : K). same key k ≡ true) (one_back (shown_in on.knew.held (block_in word)) on.done.looked.shows.0 pair.0 on.done.looked.shows.1 pair.1 on.done.looked.shows.3 lent.1.0).0
          on.done.looked.shows.2,
      value_so _ on.knew on.done.stays key word pair lent.1.0 on.done.ran,
    );
  }

  -- what a call that asks nothing was to do it has done as a run
  abbrev ran_on : {wanted : Wanted K V} {answer : Result Answer Fault} {unstored : Option (Node K V)} → HasDoneOn (HasCalled same hash wanted answer unstored) guard owner v w
      → HasDoneOn (HasRun same hash wanted (outcome_of answer)) guard owner v w
  ran_on on = record { map = on.map; slot = on.slot; owned = on.owned; inside = on.inside; knew = on.knew; done = on.done.ran; back = on.back }

  -- the same, as it has told this
  abbrev pub told_on : {wanted : Wanted K V} {told answer : Result Answer Fault} {unstored : Option (Node K V)} → told ≡ answer → HasDoneOn (HasCalled same hash wanted told unstored) guard owner v w
      → HasDoneOn (HasCalled same hash wanted answer unstored) guard owner v w
  told_on {wanted} {told} {answer} {unstored} is on = record {
    map = on.map;
    slot = on.slot;
    owned = on.owned;
    inside = on.inside;
    knew = on.knew;
    done = subst (λ (r : Result Answer Fault). HasCalled same hash wanted r unstored (within v guard.seat.id on.slot owner.seat.id on.map) on.knew) is on.done;
    back = on.back;
  }

  -- what is gone by an answer is the pair that it says to be replaced, or removed, if it says so
  pub replaced_gone : (knew : View K V S) (answer : Answer) (it old : Option (K × V)) → IsLentIf same hash guard owner knew (gone_by answer) it → IsIf (replaced_by answer) it old
      → IsLentIf same hash guard owner knew (replaced_by answer) old
  replaced_gone knew (said.Key (answers.Replaced was new)) it old lent is = subst (IsLentIf same hash guard owner knew (Some was)) (sym is) lent
  replaced_gone knew (said.Key answers.Absent) it old lent is = subst (IsLentIf same hash guard owner knew None) (sym is) tt
  replaced_gone knew (said.Key (answers.Found word)) it old lent is = subst (IsLentIf same hash guard owner knew None) (sym is) tt
  replaced_gone knew (said.Key (answers.Stored word)) it old lent is = subst (IsLentIf same hash guard owner knew None) (sym is) tt
  replaced_gone knew (said.Key (answers.Removed word)) it old lent is = subst (IsLentIf same hash guard owner knew None) (sym is) tt
  replaced_gone knew said.Reserved it old lent is = subst (IsLentIf same hash guard owner knew None) (sym is) tt
  replaced_gone knew said.Swept it old lent is = subst (IsLentIf same hash guard owner knew None) (sym is) tt
  replaced_gone knew (said.Count n) it old lent is = subst (IsLentIf same hash guard owner knew None) (sym is) tt

  pub removed_gone : (knew : View K V S) (answer : Answer) (it old : Option (K × V)) → IsLentIf same hash guard owner knew (gone_by answer) it → IsIf (removed_by answer) it old
      → IsLentIf same hash guard owner knew (removed_by answer) old
  removed_gone knew (said.Key (answers.Removed was)) it old lent is = subst (IsLentIf same hash guard owner knew (Some was)) (sym is) lent
  removed_gone knew (said.Key answers.Absent) it old lent is = subst (IsLentIf same hash guard owner knew None) (sym is) tt
  removed_gone knew (said.Key (answers.Found word)) it old lent is = subst (IsLentIf same hash guard owner knew None) (sym is) tt
  removed_gone knew (said.Key (answers.Stored word)) it old lent is = subst (IsLentIf same hash guard owner knew None) (sym is) tt
  removed_gone knew (said.Key (answers.Replaced word new)) it old lent is = subst (IsLentIf same hash guard owner knew None) (sym is) tt
  removed_gone knew said.Reserved it old lent is = subst (IsLentIf same hash guard owner knew None) (sym is) tt
  removed_gone knew said.Swept it old lent is = subst (IsLentIf same hash guard owner knew None) (sym is) tt
  removed_gone knew (said.Count n) it old lent is = subst (IsLentIf same hash guard owner knew None) (sym is) tt

  -- one is lent just where one is named,
  is_there : (knew : View K V S) (word : Option ℕ) (pair : Option (K × V)) → IsLentIf same hash guard owner knew word pair → is_some pair ≡ is_some word
  is_there knew None None lent = refl
  is_there knew None (Some pair) lent = absurd lent
  is_there knew (Some word) None lent = absurd lent
  is_there knew (Some word) (Some pair) lent = refl

  pub none_lent : (knew : View K V S) (word : Option ℕ) → IsSome word → IsLentIf same hash guard owner knew word None → ⊥
  none_lent knew (Some word) some lent = lent
  none_lent knew None some lent = absurd (cc some)

  -- and what is so of each that is shown by this word is so of that one
  by_pair : {So : K × V → Type 0} (knew : View K V S) (word : Option ℕ) (pair : Option (K × V)) → IsLentIf same hash guard owner knew word pair
      → ((one : ℕ) (it : K × V) → word ≡ Some one → shown_in knew.held (block_in one) ≡ Some (Pair it.0 it.1) → So it) → IfSome pair So
  by_pair knew None None lent each = tt
  by_pair knew None (Some pair) lent each = absurd lent
  by_pair knew (Some word) None lent each = absurd lent
  by_pair knew (Some word) (Some pair) lent each = each word pair refl lent.1.0

  module _ {unstored : Option (Node K V)} where
    -- A pair was stored, in the place of the one that is lent, or of none,
    pub came_to_have_on : (key : K) (value : V) (answer : Answer) (old : Option (K × V)) (on : HasDoneOn (HasCalled same hash (Insert key value) (Ok answer) unstored) guard owner v w)
        → IsLentIf same hash guard owner on.knew (replaced_by answer) old → MapCameToHaveOn same hash guard owner key value old v w
    came_to_have_on key value answer old on lent = record {
      answer = answer;
      on = ran_on on;
      lent = lent;
      has = λ id.
          subst (HasInserted same hash fixed id on.knew key value) (sym (is_there on.knew (replaced_by answer) old lent ∙ replaced_is answer))
          (inserted_so _ on.knew on.done.stays key value answer on.done.ran id);
      was = by_pair on.knew (replaced_by answer) old lent (λ word pair names shown. replaced_so _ on.knew on.done.stays key value answer word pair names shown on.done.ran);
    }

    -- or it was tried, and this one is there,
    pub lacked_on : (key : K) (value : V) (stored : Bool) (answer : Answer) (there : K × V) (on : HasDoneOn (HasCalled same hash (TryToInsert key value) (Ok answer) unstored) guard owner v w)
        → stored ≡ is_put answer → IsLentIf same hash guard owner on.knew (pair_there answer) (Some there) → MapLackedOn same hash guard owner key value stored there v w
    lacked_on key value stored answer there on put lent = record {
      answer = answer;
      on = ran_on on;
      lent = lent;
      put = put;
      tried = λ id. subst (HasTried same hash fixed id on.knew key value) (sym put) (tried_so _ on.knew on.done.stays key value answer on.done.ran id);
      one = by_pair on.knew (pair_there answer) (Some there) lent (λ word pair names shown. one_so _ on.knew on.done.stays key value answer word pair names shown on.done.ran);
    }

    -- or one was removed, which is lent, or there was none,
    pub gave_up_on : (key : K) (answer : Answer) (pair : Option (K × V)) (on : HasDoneOn (HasCalled same hash (Remove key) (Ok answer) unstored) guard owner v w)
        → IsLentIf same hash guard owner on.knew (removed_by answer) pair → MapGaveUpOn same hash guard owner key pair v w
    gave_up_on key answer pair on lent = record {
      answer = answer;
      on = ran_on on;
      lent = lent;
      gave = λ id.
          subst (HasRemoved same hash fixed id on.knew key) (sym (is_there on.knew (removed_by answer) pair lent ∙ removed_is answer))
          (removed_so _ on.knew on.done.stays key answer on.done.ran id);
      was = by_pair on.knew (removed_by answer) pair lent (λ word it names shown. taken_so _ on.knew on.done.stays key answer word it names shown on.done.ran);
    }

    -- or it was refused;
    pub refused_on : (wanted : Wanted K V) (fault : Fault) → plain wanted ≡ wanted → HasDoneOn (HasCalled same hash wanted (Err fault) unstored) guard owner v w
        → WasRefusedOn same hash guard owner wanted fault v w
    refused_on wanted fault plainly on = record { on = ran_on on; refused = refused_so _ on.knew on.done.stays wanted fault plainly on.done.ran }

  -- so many pairs were counted.
  pub counted_on : (count : ℕ) → HasDoneOn (HasMeasured same hash count) guard owner v w → MapCountedOn same hash guard owner count v w
  counted_on count on = record {
    on = record { map = on.map; slot = on.slot; owned = on.owned; inside = on.inside; knew = on.knew; done = on.done.ran; back = on.back };
    counted = counted_so _ on.knew on.done.stays count on.done.ran;
  }
