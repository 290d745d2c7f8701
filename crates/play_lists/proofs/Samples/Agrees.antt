-- A list of acts in which a number comes again, once the making with it was refused, makes each map with a new number. One in which it comes again, once a map has come with it, does not.
use Rattle.std.specs.Prelude.{nat_eq, option_map}
use Rattle.std.proofs.Common.{◌≡◌, ℕ, true, false, List, [], ◌∷◌, refl, subst, Option, Some, None}
use Rattle.run_schedules.specs.Given.SeizeWordsDeclared.fault.Fault.TheVariants.{Memory}
use Rattle.map_tables.specs.declared.resize_mode.ResizeMode.TheVariants as mode
use Rattle.run_schedules.specs.declared.effect.Effect.TheVariants.{Asked}
use Rattle.run_schedules.specs.declared.effect.Growth.TheVariants.{ABlock}
use Rattle.run_schedules.specs.declared.outcome.Outcome.TheVariants.{Goes, Refused}
use Rattle.many_acts.specs.Acts.Acts.{BeginsMaking, StepsMaking}
use Rattle.many_acts.specs.Acts.Doings.{Doing, Does}
use Rattle.run_schedules.specs.Deeds.Deeds.{Entry, MapComes, MapFails, Makes}
use Rattle.play_lists.specs.Played.Play.{State, first_state, play, play_all}
use Rattle.play_lists.specs.Agrees.Fresh.{MakesNew, MakesOnce}
use Rattle.play_lists.proofs.Samples.Played.{given}
use Rattle.run_finds.proofs.Given.General.{same_some}

abbrev Acts : Type 0
Acts = Doing ℕ ℕ ℕ

-- maps with numbers as keys, which are their own hashes; batches of one block, and one root
abbrev plays : Acts → State ℕ ℕ ℕ → Option (State ℕ ℕ ℕ)
plays doing x = play nat_eq (λ hasher key. key) 1 1 (λ n. 0) doing x

abbrev History : List Acts → Option (List (Entry ℕ ℕ))
History doings = option_map (λ s. s.history) (play_all nat_eq (λ hasher key. key) 1 1 (λ n. 0) doings (first_state 1))

abbrev New : List Acts → State ℕ ℕ ℕ → Type 0
New doings x = MakesNew nat_eq (λ hasher key. key) 1 1 (λ n. 0) doings x

-- where it has come by an act
abbrev got : Option (State ℕ ℕ ℕ) → State ℕ ℕ ℕ
got None = first_state 1
got (Some x) = x

next : (doing : Acts) (doings : List Acts) (x z : State ℕ ℕ ℕ) → plays doing x ≡ Some z → New doings z → (y : State ℕ ℕ ℕ) → plays doing x ≡ Some y → New doings y
next doing doings x z is new y played = subst (New doings) (same_some z y (let both : Some z ≡ Some y = (cc (is, played)) in both)) new

-- Caller 0 begins to make map 0, and takes its root; it is refused the block for the count, and gives the root up.
abbrev begins : Acts
begins = Does (BeginsMaking 0 0 7 given 0)

abbrev steps : Acts
steps = Does (StepsMaking 0 None)

abbrev fails : List Acts
fails = begins ∷ steps ∷ steps ∷ steps ∷ []

abbrev failed : List (Entry ℕ ℕ)
failed =
    record { deed = MapFails 0; outcome = Refused Memory; effects = []; refused = false } ∷ record { deed = Makes 0; outcome = Goes; effects = Asked ABlock ∷ []; refused = true }
    ∷ record { deed = MapComes 0 0 (mode.Incremental 64) 0; outcome = Goes; effects = []; refused = false } ∷ []

failing_is : History fails ≡ Some failed
failing_is = refl

-- It begins to make a map with that number again.
abbrev begins_again : List Acts
begins_again = begins ∷ steps ∷ steps ∷ steps ∷ begins ∷ []

abbrev first : State ℕ ℕ ℕ
first = first_state 1

abbrev begun : State ℕ ℕ ℕ
begun = got (plays begins first)

abbrev rooted : State ℕ ℕ ℕ
rooted = got (plays steps begun)

abbrev refused : State ℕ ℕ ℕ
refused = got (plays steps rooted)

abbrev freed : State ℕ ℕ ℕ
freed = got (plays steps refused)

comes_again : New begins_again first
comes_again = (
  refl,
  next begins (steps ∷ steps ∷ steps ∷ begins ∷ []) first begun refl
      (tt, next steps (steps ∷ steps ∷ begins ∷ []) begun rooted refl (tt, next steps (steps ∷ begins ∷ []) rooted refused refl (tt, next steps (begins ∷ []) refused freed refl (refl, λ y played. tt)))),
)

-- though the list makes two maps with it
not_once : MakesOnce begins_again → ⊥
not_once once = cc once.0

-- Wrong: the count is made in the block 1, so the map stands, and another one begins to be made with its number.
abbrev makes : Acts
makes = Does (StepsMaking 0 (Some 1))

abbrev begins_twice : List Acts
begins_twice = begins ∷ steps ∷ makes ∷ begins ∷ []

abbrev stands : State ℕ ℕ ℕ
stands = got (plays makes rooted)

not_new : New begins_twice first → ⊥
not_new new = cc ((((new.1 begun refl).1 rooted refl).1 stands refl).0)
