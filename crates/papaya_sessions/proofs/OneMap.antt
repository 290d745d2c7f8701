-- That what a session was told is so in one finite map: by its newest call, which began within its section, on the map that it knows still.
use Rattle.std.specs.Prelude.{◌<◌, ◌^◌, Option, Some, None, Result, Ok, Err, IfErr, IfOk, IfSome, is_some, option_map}
use Rattle.std.proofs.Common.{◌≡◌, ℕ, Bool, refl, sym, subst, ap, ◌∙◌}
use Rattle.std.proofs.lemmas.Bool.{ltb-true}
use Rattle.std.specs.declared.hash.Hash as hashing
use Rattle.map_tables.specs.declared.node.Node.{Node}
use Rattle.papaya_sessions.specs.Asked.{BecameSo, HasRemovedIf, HasTriedWith, MapComputed, MapGaveUpIf, MapHasNamedWith, MapNamed, MapTold}
use Rattle.papaya_sessions.specs.OneMap.{MapCameToHave, MapCounted, MapGaveUp, MapGaveUpNamed, MapHad, MapHadBefore, MapHadOne, MapHadRoom, MapHasNamed, MapLacked, MapLookedEmpty, MapWasCleared, MapWasShown, MapWasSifted, WasRefused}
use Rattle.papaya_sessions.specs.Sessions.{HasGot}
use Rattle.papaya_sessions.specs.declared.session.Session.{Session}
use Rattle.play_moves.proofs.OneHistory.Calls.{found_none, found_value, has_inserted, has_looked, has_missed, has_one, has_refused, has_removed, has_removed_pair, has_tried}
use Rattle.play_moves.proofs.OneHistory.Named.{TellsOf, has_aborted, has_computed_pair, has_kept, has_one_with, has_removed_if_pair, has_replaced_pair}
use Rattle.play_moves.proofs.OneHistory.Whole.{has_cleared, has_counted, has_made_room, has_retained, has_walked}
use Rattle.play_moves.specs.OneHistory.Calls.{Became, CameIn, GaveWay, TookItsPlace, WentOut, HasAborted, HasInserted, HasLooked, HasOne, HasOneWith, HasRemoved as HasGivenUp, HasRemovedPair, HasTried as HasLacked}
use Rattle.play_moves.specs.Given.ActsActs.{Compute, ContainsKey, Count, Get, GoOver, Insert, MakeRoom, Remove, RemoveIf, TryToInsert, TryToInsertWith, Wanted}
use Rattle.play_moves.specs.Given.ErrandsCalling.{is_put, outcome_of}
use Rattle.play_moves.specs.Given.ErrandsLooking.{HasRun, found_of}
use Rattle.play_moves.specs.Given.RawDeclared.machines.answer.KeyAnswer.TheVariants as says
use Rattle.play_moves.specs.Given.RawDeclared.machines.progress.Answer.{Answer}
use Rattle.play_moves.specs.Given.RawDeclared.machines.progress.Answer.TheVariants as said
use Rattle.play_moves.specs.Given.RawDeclared.machines.progress.Progress.{Progress}
use Rattle.papaya_raw.specs.Given.ReservesDeclared.sweep.Purpose.{Purpose}
use Rattle.play_moves.specs.Given.ViewsBegun.{machine_for}
use Rattle.play_moves.specs.Given.ViewsDeclared.view.BegunCall.{BegunCall}
use Rattle.play_moves.specs.Given.ViewsDeclared.view.View.{View}
use Rattle.play_moves.specs.Given.ViewsRule.{section_of}
use Rattle.seize_words.specs.declared.fault.Fault.{Fault}
use Rattle.seize_words.specs.declared.operation.Operation.{Operation}
use Rattle.seize_words.proofs.General.{same_some}
use Rattle.threads_updates.specs.Given.CallsAnswers.{HasFoundEmpty, HasMeasured, HasOneThere, HasRemoved, HasReplaced, HasReserved, HasStored, HasSweptAll, HasTakenOut, HasTried, clears, is_removed, is_replaced, removed_by, replaced_by}
use Rattle.threads_updates.specs.Given.CallersDeclared.caller.MapCaller.{MapCaller}
use Rattle.threads_updates.specs.Given.CallsShown.{IsPairLent}
use Rattle.threads_updates.specs.Given.SeizeViewsDeclared.view.Fixed.{Fixed}
use Rattle.threads_updates.specs.Given.SeizeViewsDeclared.view.Has.TheVariants.{Nothing}
use Rattle.threads_updates.specs.Given.SeizeViewsDeclared.view.SlotView.{SlotView}
use Rattle.threads_updates.specs.Given.SeizeViewsDeclared.view.SlotView.TheVariants.{Inside}
use Rattle.threads_updates.specs.Given.CallsDeclared.session.SessionBase.{SessionBase}
use Rattle.threads_updates.specs.Updated.{HasComputed, HasUpdated, IsLeft, IsSo}
use Rattle.threads_updates.specs.declared.changing.ComputedPair.{ComputedPair}
use Rattle.threads_updates.specs.declared.changing.ComputedPair.TheVariants as computed
use Rattle.threads_sweeps.specs.Swept.{HasGone, HasShown, HasSifted, retains, walks}

-- an answer that names a removed pair tells nothing else
removed_one : (answer : Answer) (word : ℕ) → removed_by answer ≡ Some word → answer ≡ said.Key (says.Removed word)
removed_one (said.Key (says.Removed one)) word is = ap (λ (x : ℕ). said.Key (says.Removed x)) (same_some one word is)
removed_one _ word is = absurd (cc is)

-- and so does one that names a pair that was replaced
replaced_one : (answer : Answer) (old : ℕ) → replaced_by answer ≡ Some old → (new : ℕ) × (answer ≡ said.Key (says.Replaced old new))
replaced_one (said.Key (says.Replaced one new)) old is = (new, ap (λ (x : ℕ). said.Key (says.Replaced x new)) (same_some one old is))
replaced_one _ old is = absurd (cc is)

-- what was told is so of what is told on, an answer or a fault
pub told_then : {A E : Type 0} (told : Result A E) (x y : A) (So : A → Type 0) → told ≡ Ok x → x ≡ y → IfOk told So → So y
told_then told x y So is same so = subst So same (subst (λ r. IfOk r So) is so)

pub refused_then : {A E : Type 0} (told : Result A E) (fault : E) (So : E → Type 0) → told ≡ Err fault → IfErr told So → So fault
refused_then told fault So is so = subst (λ r. IfErr r So) is so

-- a session that makes a call, and what it is then
module _ {K V S : Type 0} {h : hashing.Ghosts K} (same : K → K → Bool) (hash : S → K → ℕ) (x : Session K V S h) (y : SessionBase K V S) (inside : y.caller.seat.view.slot ≡ Inside y.slot Nothing)
    (stands : y.slot ≡ x.base.slot) (stays : y.caller.seat.view.map ≡ x.base.caller.seat.view.map) (memory : y.caller.blocks ≡ x.base.caller.blocks) where
  abbrev c : MapCaller K V S
  c = x.base.caller

  abbrev n : MapCaller K V S
  n = y.caller

  abbrev fixed : Fixed
  fixed = n.blocks.now.words.fixed

  abbrev v : View K V S
  v = c.seat.view

  abbrev w : View K V S
  w = n.seat.view

  small : fixed.batch_size < 2 ^ 64
  small = subst (λ (b : ℕ). b < 2 ^ 64) (ap (λ b. b.now.words.fixed.batch_size) (sym memory)) (ltb-true c.blocks.now.words.fixed.batch_size (2 ^ 64) x.small)

  was_within : section_of v.under v.slot ≡ Some x.base.slot
  was_within = ap (λ u. section_of u v.slot) c.lone ∙ ap (section_of None) x.inside

  is_within : section_of w.under w.slot ≡ Some x.base.slot
  is_within = ap (λ u. section_of u w.slot) n.lone ∙ ap (section_of None) inside ∙ ap Some stands

  -- the call that it has made, which was to do this, and was told that
  abbrev begun : (wanted : Wanted K V) (told : Progress (Node K V)) → HasRun same hash wanted told v w → BegunCall K V
  begun wanted told run = record { map = run.0.number; began = machine_for same hash run.0 run.1 wanted; told = told }

  section : (t : ℕ) → section_of v.under v.slot ≡ Some t → section_of w.under w.slot ≡ Some t
  section t it = is_within ∙ sym was_within ∙ it

  pub had_none : (key : K) → HasRun same hash (Get key) (found_of None) v w → MapHad same hash key None c n
  had_none key run = (run, found_none same hash fixed small n.seat.id run.1 w run.0 (begun (Get key) (found_of None) run) v.calls (stays ∙ run.2) (section run.1 run.3) run.4 refl key refl refl)

  pub had_value : (key : K) (value : V) → HasGot same hash key (Some value) c n → MapHad same hash key (Some value) c n
  had_value key value (word, run, shown, lent) = (
    (word, run, shown, lent),
    found_value same hash fixed small n.seat.id run.1 w run.0 (begun (Get key) (found_of (Some word)) run) v.calls (stays ∙ run.2) (section run.1 run.3) run.4 refl key word lent.0 value refl refl lent.1,
  )

  looked : (key : K) (found : Option ℕ) → HasRun same hash (ContainsKey key) (found_of found) v w → HasLooked same hash fixed n.seat.id w key (is_some found)
  looked key None run =
      has_missed same hash fixed small n.seat.id run.1 w run.0 (begun (ContainsKey key) (found_of None) run) v.calls (stays ∙ run.2) (section run.1 run.3) run.4 refl key refl refl
  looked key (Some word) run =
      has_looked same hash fixed small n.seat.id run.1 w run.0 (begun (ContainsKey key) (found_of (Some word)) run) v.calls (stays ∙ run.2) (section run.1 run.3) run.4 refl key word refl refl

  pub had_one : (key : K) (found : Option ℕ) (there : Bool) → HasRun same hash (ContainsKey key) (found_of found) v w → there ≡ is_some found → MapHadOne same hash key there c n
  had_one key found there run so = ((found, run, so), subst (HasLooked same hash fixed n.seat.id w key) (sym so) (looked key found run))

  pub came_to_have : (key : K) (value : V) (replaced : Bool) → HasStored same hash key value replaced v w → MapCameToHave same hash key value replaced c n
  came_to_have key value replaced (answer, run, so) = (
    (answer, run, so),
    subst (HasInserted same hash fixed n.seat.id w key value) (sym so)
        (has_inserted same hash fixed small n.seat.id run.1 w run.0 (begun (Insert key value) (outcome_of (Ok answer)) run) v.calls (stays ∙ run.2) (section run.1 run.3) run.4 refl key value answer refl refl
        is_replaced (λ old new. refl) (λ new. refl)),
  )

  -- the pair that is lent by the word of the one that it has replaced was that
  pub had_before : {A : Type 0} (word : A → ℕ) (key : K) (value : V) (old : Option A) → HasReplaced same hash key value (option_map word old) v w
      → IfSome old (λ x. MapHadBefore same hash key value (word x) c n)
  had_before word key value None replaced = tt
  had_before word key value (Some x) (answer, run, names) = (
    (answer, run, names),
    λ pair lent.
        let one = replaced_one answer (word x) names in
        has_replaced_pair same hash fixed small n.seat.id run.1 w run.0 (begun (Insert key value) (outcome_of (Ok answer)) run) v.calls (stays ∙ run.2) (section run.1 run.3) run.4 refl key value (word x) one.0
        pair.0 pair.1 refl (ap (λ (a : Answer). outcome_of {T = Node K V} (Ok a)) one.1) lent.0,
  )

  pub lacked : (key : K) (value : V) (stored : Bool) → HasTried same hash key value stored v w → MapLacked same hash key value stored c n
  lacked key value stored (answer, run, so) = (
    (answer, run, so),
    subst (HasLacked same hash fixed n.seat.id w key value) (sym so)
        (has_tried same hash fixed small n.seat.id run.1 w run.0 (begun (TryToInsert key value) (outcome_of (Ok answer)) run) v.calls (stays ∙ run.2) (section run.1 run.3) run.4 refl key value answer refl refl
        is_put (λ new. refl) (λ word. refl)),
  )

  pub gave_up : (key : K) (removed : Bool) → HasRemoved same hash key removed v w → MapGaveUp same hash key removed c n
  gave_up key removed (answer, run, so) = (
    (answer, run, so),
    subst (HasGivenUp same hash fixed n.seat.id w key) (sym so)
        (has_removed same hash fixed small n.seat.id run.1 w run.0 (begun (Remove key) (outcome_of (Ok answer)) run) v.calls (stays ∙ run.2) (section run.1 run.3) run.4 refl key answer refl refl is_removed
        (λ word. refl) refl),
  )

  -- it is just the pair that is lent that was removed, or that is there
  pub gave_up_pair : (key : K) (word : ℕ) (stored : K) (value : V) → HasTakenOut same hash key (Some word) v w → IsPairLent same hash n word (stored, value)
      → HasRemovedPair same hash fixed n.seat.id w key (stored, value)
  gave_up_pair key word stored value (answer, run, names) lent =
      has_removed_pair same hash fixed small n.seat.id run.1 w run.0 (begun (Remove key) (outcome_of (Ok answer)) run) v.calls (stays ∙ run.2) (section run.1 run.3) run.4 refl key word stored value refl
      (ap (λ (a : Answer). outcome_of {T = Node K V} (Ok a)) (removed_one answer word names)) lent.0

  pub one_there : (key : K) (value : V) (word : ℕ) (stored : K) (its : V) → HasOneThere same hash key value word v w → IsPairLent same hash n word (stored, its)
      → HasOne same hash fixed n.seat.id w key value its
  one_there key value word stored its (answer, run, names) lent =
      has_one same hash fixed small n.seat.id run.1 w run.0 (begun (TryToInsert key value) (outcome_of (Ok answer)) run) v.calls (stays ∙ run.2) (section run.1 run.3) run.4 refl key value answer word stored its
      refl refl names lent.0

  -- so it is of each that is lent by the word that the call names
  pub gave_up_named : {A : Type 0} (word : A → ℕ) (key : K) (taken : Option A) → HasTakenOut same hash key (option_map word taken) v w → IfSome taken (λ x. MapGaveUpNamed same hash key (word x) c n)
  gave_up_named word key None took = tt
  gave_up_named word key (Some x) took = (took, λ pair lent. gave_up_pair key (word x) pair.0 pair.1 took lent)

  pub has_named : (key : K) (value : V) (word : ℕ) → HasOneThere same hash key value word v w → MapHasNamed same hash key value word c n
  has_named key value word there = (there, λ pair lent. one_there key value word pair.0 pair.1 there lent)

  -- and so it is where a closure was asked: whether to remove the pair,
  pub gave_up_if : (key : K) (taken : Option ℕ) → HasRemovedIf same hash key taken c n → MapGaveUpIf same hash key taken c n
  gave_up_if key None (answer, run, names) = (
    (answer, run, names),
    has_kept same hash fixed small n.seat.id run.1 w run.0 (begun (RemoveIf key) (outcome_of (Ok answer)) run) v.calls (stays ∙ run.2) (section run.1 run.3) run.4 refl key answer refl refl
        (λ a. removed_by a ≡ None) (λ word is. absurd (cc is)) names,
  )
  gave_up_if key (Some word) (answer, run, names) = (
    (answer, run, names),
    λ pair lent.
        has_removed_if_pair same hash fixed small n.seat.id run.1 w run.0 (begun (RemoveIf key) (outcome_of (Ok answer)) run) v.calls (stays ∙ run.2) (section run.1 run.3) run.4 refl key word pair.0 pair.1 refl
        (ap (λ (a : Answer). outcome_of {T = Node K V} (Ok a)) (removed_one answer word names)) lent.0,
  )

  -- for a value where the key is missing,
  pub one_with : (key : K) (stored : Bool) (word : ℕ) (found : K) (its : V) → HasTriedWith same hash key stored word c n → IsPairLent same hash n word (found, its)
      → HasOneWith same hash fixed n.seat.id w key (found, its)
  one_with key stored word found its (answer, run, so, names) lent =
      has_one_with same hash fixed small n.seat.id run.1 w run.0 (begun (TryToInsertWith key) (outcome_of (Ok answer)) run) v.calls (stays ∙ run.2) (section run.1 run.3) run.4 refl key answer word found its refl
      refl names lent.0

  pub has_named_with : (key : K) (stored : Bool) (word : ℕ) → HasTriedWith same hash key stored word c n → MapHasNamedWith same hash key stored word c n
  has_named_with key stored word tried = (tried, λ pair lent. one_with key stored word pair.0 pair.1 tried lent)

  -- and what is to be done.
  module _ {T : Type 0} (Is : K → Type 0) (Gives : Option (K × V) → Operation V T → Type 0) where
    all_told : (key : K) (done : ComputedPair T) (answer : Answer) → IsSo done answer → ((became : Became) (word : ℕ) → TellsOf became word answer → BecameSo same hash key became word n)
        → (IsLeft answer → HasAborted same hash fixed n.seat.id w key) → MapTold same hash key done n
    all_told key (computed.Inserted new) (said.Key (says.Stored word)) is by none = by CameIn new.word is
    all_told key (computed.Updated old new) (said.Key (says.Replaced was put)) is by none = (by GaveWay old.word is.0, by TookItsPlace new.word is.1)
    all_told key (computed.Removed old) (said.Key (says.Removed word)) is by none = by WentOut old.word is
    all_told key (computed.Aborted end) answer is by none = none is
    all_told key _ _ is by none = absurd is

    pub has_computed : (done : ComputedPair T) → HasComputed same hash Is Gives done v w → MapComputed same hash Is Gives done c n
    has_computed done has =
        let key = has.told.0 in let u = has.before in let run = has.told.2.ran in let there = has.told.2.stays in
        let its : BegunCall K V = record { map = run.0.number; began = machine_for same hash run.0 run.1 (Compute key); told = outcome_of (Ok has.answer) } in
        let within = ap (λ (s : (SlotView (Node K V) × Option (ℕ × ℕ)) × Option ℕ). section_of s.0.1 s.0.0) there.slot ∙ run.3 in (
          has,
          all_told key done has.answer has.so
              (λ became word tells pair lent.
              has_computed_pair same hash fixed small n.seat.id run.1 w run.0 its u.calls (there.map ∙ run.2) within run.4 refl became key has.answer word pair.0 pair.1 refl refl tells lent.0)
              (has_aborted same hash fixed small n.seat.id run.1 w run.0 its u.calls (there.map ∙ run.2) within run.4 refl key has.answer refl refl IsLeft (λ new is. is) (λ old new is. is) (λ word is. is)),
        )

    pub has_told : (named : Option ℕ) → HasUpdated same hash Is Gives named v w → MapNamed same hash Is Gives named c n
    has_told named (done, has, is) = (done, has_computed done has, is)

  pub not_stored : (key : K) (value : V) (fault : Fault) → HasRun same hash (Insert key value) (outcome_of (Err fault)) v w → WasRefused same hash (Insert key value) fault c n
  not_stored key value fault run = (
    run,
    has_refused same hash fixed small n.seat.id run.1 w run.0 (begun (Insert key value) (outcome_of (Err fault)) run) v.calls (stays ∙ run.2) (section run.1 run.3) run.4 refl (Insert key value) refl fault refl refl,
  )

  pub not_tried : (key : K) (value : V) (fault : Fault) → HasRun same hash (TryToInsert key value) (outcome_of (Err fault)) v w → WasRefused same hash (TryToInsert key value) fault c n
  not_tried key value fault run = (
    run,
    has_refused same hash fixed small n.seat.id run.1 w run.0 (begun (TryToInsert key value) (outcome_of (Err fault)) run) v.calls (stays ∙ run.2) (section run.1 run.3) run.4 refl (TryToInsert key value) refl fault refl refl,
  )

  pub not_removed_if : (key : K) (fault : Fault) → HasRun same hash (RemoveIf key) (outcome_of (Err fault)) v w → WasRefused same hash (RemoveIf key) fault c n
  not_removed_if key fault run = (
    run,
    has_refused same hash fixed small n.seat.id run.1 w run.0 (begun (RemoveIf key) (outcome_of (Err fault)) run) v.calls (stays ∙ run.2) (section run.1 run.3) run.4 refl (RemoveIf key) refl fault refl refl,
  )

  pub not_made : (key : K) (fault : Fault) → HasRun same hash (TryToInsertWith key) (outcome_of (Err fault)) v w → WasRefused same hash (TryToInsertWith key) fault c n
  not_made key fault run = (
    run,
    has_refused same hash fixed small n.seat.id run.1 w run.0 (begun (TryToInsertWith key) (outcome_of (Err fault)) run) v.calls (stays ∙ run.2) (section run.1 run.3) run.4 refl (TryToInsertWith key) refl fault
        refl refl,
  )

  pub not_removed : (key : K) (fault : Fault) → HasRun same hash (Remove key) (outcome_of (Err fault)) v w → WasRefused same hash (Remove key) fault c n
  not_removed key fault run = (
    run,
    has_refused same hash fixed small n.seat.id run.1 w run.0 (begun (Remove key) (outcome_of (Err fault)) run) v.calls (stays ∙ run.2) (section run.1 run.3) run.4 refl (Remove key) refl fault refl refl,
  )

  pub counted : (count : ℕ) → HasMeasured same hash count v w → MapCounted same hash count c n
  counted count run = (
    run,
    has_counted same hash fixed small n.seat.id run.1 w run.0 (begun Count (outcome_of (Ok (said.Count count))) run) v.calls (stays ∙ run.2) (section run.1 run.3) run.4 refl count refl refl,
  )

  pub looked_empty : (empty : Bool) → HasFoundEmpty same hash empty v w → MapLookedEmpty same hash empty c n
  looked_empty empty (count, run, so) = (count, counted count run, so)

  pub had_room : (additional : ℕ) → HasReserved same hash additional v w → MapHadRoom same hash additional c n
  had_room additional run = (
    run,
    has_made_room same hash fixed small n.seat.id run.1 w run.0 (begun (MakeRoom additional) (outcome_of (Ok said.Reserved)) run) v.calls (stays ∙ run.2) (section run.1 run.3) run.4 refl additional refl refl,
  )

  pub was_cleared : HasSweptAll same hash v w → MapWasCleared same hash c n
  was_cleared run = (run, has_cleared same hash fixed small n.seat.id run.1 w run.0 (begun clears (outcome_of (Ok said.Swept)) run) v.calls (stays ∙ run.2) (section run.1 run.3) run.4 refl refl refl)

  pub no_room : (additional : ℕ) (fault : Fault) → HasRun same hash (MakeRoom additional) (outcome_of (Err fault)) v w → WasRefused same hash (MakeRoom additional) fault c n
  no_room additional fault run = (
    run,
    has_refused same hash fixed small n.seat.id run.1 w run.0 (begun (MakeRoom additional) (outcome_of (Err fault)) run) v.calls (stays ∙ run.2) (section run.1 run.3) run.4 refl (MakeRoom additional) refl fault refl refl,
  )

  pub was_shown : (end : Result Unit Fault) → HasShown same hash end v w → IfOk end (λ _. MapWasShown same hash c n)
  was_shown (Ok done) run = (run, has_walked same hash fixed small n.seat.id run.1 w run.0 (begun walks (outcome_of (Ok said.Swept)) run) v.calls (stays ∙ run.2) (section run.1 run.3) run.4 refl refl refl)
  was_shown (Err fault) run = tt

  pub was_sifted : (end : Result Unit Fault) → HasSifted same hash end v w → IfOk end (λ _. MapWasSifted same hash c n)
  was_sifted (Ok done) run = (run, has_retained same hash fixed small n.seat.id run.1 w run.0 (begun retains (outcome_of (Ok said.Swept)) run) v.calls (stays ∙ run.2) (section run.1 run.3) run.4 refl refl refl)
  was_sifted (Err fault) run = tt

  pub not_gone : (purpose : Purpose) (end : Result Unit Fault) → HasGone same hash purpose end v w → IfErr end (λ fault. WasRefused same hash (GoOver purpose) fault c n)
  not_gone purpose (Ok done) run = tt
  not_gone purpose (Err fault) run = (
    run,
    has_refused same hash fixed small n.seat.id run.1 w run.0 (begun (GoOver purpose) (outcome_of (Err fault)) run) v.calls (stays ∙ run.2) (section run.1 run.3) run.4 refl (GoOver purpose) refl fault refl
        refl,
  )
