-- That what a pass was told under a session that was lent is so in one finite map: by its newest call, by what it knew as that had ended.
use Rattle.std.specs.Prelude.{◌<◌, ◌^◌, Option, Some, None, Result, Ok, IfOk, IfSome, IfNone, is_some, nat_lt, option_map}
use Rattle.std.proofs.Common.{◌≡◌, ◌∙◌, ℕ, Bool, true, refl, subst}
use Rattle.std.proofs.lemmas.Bool.{ltb-true}
use Rattle.play_moves.proofs.OneHistory.Calls.{found_none, found_value}
use Rattle.play_moves.specs.Given.ActsActs.{Get}
use Rattle.play_moves.specs.Given.ErrandsLooking.{found_of}
use Rattle.play_moves.specs.Given.ViewsBegun.{machine_for}
use Rattle.play_moves.specs.Given.ViewsDeclared.view.View.{View}
use Rattle.papaya_sessions.specs.Under.{HasGotPairUnder, HasGotUnder, HasLentUnder, HasMissedUnder, HasSoughtUnder}
use Rattle.seize_words.specs.declared.fault.Fault.{Fault}
use Rattle.threads_updates.specs.Given.CallersPassing.{HasFoundUnder, HasRunUnder}
use Rattle.threads_updates.specs.Given.CallersDeclared.caller.MapCaller.{MapCaller}

-- what is looked at through a look is the value of that, if there is one
values : {A K V : Type 0} (now : A → K × V) (answer : Option A) → option_map (λ a. (now a).1) answer ≡ option_map (λ p. p.1) (option_map now answer)
values now None = refl
values now (Some a) = refl

some_still : {A B : Type 0} (now : A → B) (answer : Option A) → is_some answer ≡ is_some (option_map now answer)
some_still now None = refl
some_still now (Some a) = refl

module _ {K V S : Type 0} (same : K → K → Bool) (hash : S → K → ℕ) (key : K) (c : MapCaller K V S) (v w : View K V S) where
  module _ (short : nat_lt c.blocks.now.words.fixed.batch_size (2 ^ 64) ≡ true) where
    small : c.blocks.now.words.fixed.batch_size < 2 ^ 64
    small = ltb-true c.blocks.now.words.fixed.batch_size (2 ^ 64) short

    missed : HasRunUnder same hash (Get key) (found_of None) c.seat.view v w → HasMissedUnder same hash key c v w
    missed ran = record {
      ran = ran;
      had_none = λ id.
          found_none same hash c.blocks.now.words.fixed small id ran.slot ran.knew ran.map (record { map = ran.map.number; began = machine_for same hash ran.map ran.slot (Get key); told = found_of None }) v.calls ran.knew_map
          ran.knew_section (ran.knew_calls ∙ ran.calls) refl key refl refl;
    }

    lent : (pair : K × V) → HasFoundUnder same hash c.blocks.now.words.fixed key c.seat.id c.seat.view v w pair → HasLentUnder same hash key c v w pair
    lent pair found = let ran = found.ran in record {
      found = found;
      had =
          found_value same hash c.blocks.now.words.fixed small found.id ran.slot ran.knew ran.map (record { map = ran.map.number; began = machine_for same hash ran.map ran.slot (Get key); told = found_of (Some found.word) }) v.calls
          ran.knew_map ran.knew_section (ran.knew_calls ∙ ran.calls) refl key found.word pair.0 pair.1 refl refl found.lent.0;
    }

    -- what it was lent, or that it was lent nothing
    pub got : {A : Type 0} (now : A → K × V) (answer : Option A) → IfSome answer (λ a. HasFoundUnder same hash c.blocks.now.words.fixed key c.seat.id c.seat.view v w (now a))
        → IfNone answer (HasRunUnder same hash (Get key) (found_of None) c.seat.view v w) → HasGotPairUnder same hash key c (option_map now answer) v w
    got now None found absent = missed absent
    got now (Some a) found absent = lent (now a) found

  -- the value of what it got,
  pub value_got : {A : Type 0} (now : A → K × V) (answer : Option A) (value : Option V) → value ≡ option_map (λ a. (now a).1) answer → HasGotPairUnder same hash key c (option_map now answer) v w
      → HasGotUnder same hash key c value v w
  value_got now answer value so got = (option_map now answer, so ∙ values now answer, got)

  -- and whether it got one,
  pub sought : {A : Type 0} (now : A → K × V) (answer : Option A) (there : Bool) → there ≡ is_some answer → HasGotPairUnder same hash key c (option_map now answer) v w
      → HasSoughtUnder same hash key c there v w
  sought now answer there so got = (option_map now answer, so ∙ some_still now answer, got)

  -- where the pass is one of this map
  pub got_then : {A : Type 0} (now : A → K × V) (told : Result (Option A) Fault) (answer : Option A) → told ≡ Ok answer → IfOk told (λ a. HasGotPairUnder same hash key c (option_map now a) v w)
      → HasGotPairUnder same hash key c (option_map now answer) v w
  got_then {A} now told answer was got = subst (λ (t : Result (Option A) Fault). IfOk t (λ a. HasGotPairUnder same hash key c (option_map now a) v w)) was got
