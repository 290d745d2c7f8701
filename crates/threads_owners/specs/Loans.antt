-- A seat does something with the map of an owner, within the section of a guard: it leans on both for as long as that lasts, and is lent the pairs that its answer names by what it
-- knows then.
use Rattle.std.specs.Prelude.{◌≡◌, ℕ, Bool, Option, Some, None, Result, Ok, IfSome}
use Rattle.seize_seats.specs.Seats.Lendings.{IsValueBy}
use Rattle.seize_views.specs.declared.view.Has.TheVariants.{Nothing as NoBlock}
use Rattle.seize_views.specs.declared.view.SlotView.TheVariants.{Inside}
use Rattle.seize_words.specs.OneMemory.Word.{block_in}
use Rattle.map_tables.specs.declared.node.Node.TheVariants.{Pair}
use Rattle.papaya_raw.specs.declared.machines.answer.KeyAnswer.TheVariants as answers
use Rattle.papaya_raw.specs.declared.machines.progress.Answer.{Answer}
use Rattle.papaya_raw.specs.declared.machines.progress.Answer.TheVariants.{Key as OfKey}
use Rattle.seize_words.specs.declared.fault.Fault.{Fault}
use Rattle.threads_errands.specs.Given.CallKindsKinds.{PairIsVisible}
use Rattle.threads_errands.specs.Given.ErrandsCalling.{pair_there}
use Rattle.threads_errands.specs.Given.ErrandsLooking.{StaysThere}
use Rattle.threads_errands.specs.Given.ViewsBegun.{leaning, lent_map, returned_map}
use Rattle.threads_errands.specs.Given.ViewsLooks.{shown_in}
use Rattle.threads_errands.specs.Given.ViewsRule.{Holds}
use Rattle.threads_errands.specs.Given.ViewsDeclared.view.Map.{Map}
use Rattle.threads_errands.specs.Given.ViewsDeclared.view.View.{View}
use Rattle.threads_errands.specs.Given.ViewsDeclared.view.SeatWork.TheVariants.{Nothing}
use Rattle.threads_callers.specs.Passing.{IsBack}
use Rattle.threads_callers.specs.declared.caller.MapCaller.{MapCaller}

-- the word of a pair that the map has no longer, and of one that it has, as an answer names them
abbrev pub Names : Type 0
Names = Option ℕ × Option ℕ

-- the pair that was replaced or removed, if one was
abbrev pub gone_by : Answer → Option ℕ
gone_by (OfKey (answers.Replaced old new)) = Some old
gone_by (OfKey (answers.Removed word)) = Some word
gone_by answer = None

-- those that the answer of a call names
abbrev pub names_in : Answer → Names
names_in answer = (gone_by answer, pair_there answer)

-- what was refused names none
abbrev pub names_of : Result Answer Fault → Names
names_of (Ok answer) = names_in answer
names_of refused = (None, None)

module _ {K V S : Type 0} where
  -- it comes to lean on the seat of this number, which owns a map
  abbrev pub BorrowsMap : View K V S → ℕ → View K V S → View K V S → Type 0
  BorrowsMap v n u w = (map : Map S) × (u.own ≡ Some map) × (w ≡ lent_map v n map)

  -- and on it no longer
  abbrev pub RestoresMap : View K V S → View K V S → Type 0
  RestoresMap v w = w ≡ returned_map v

  -- it leans on the owner of this map, and on the guard of this number, which is within its section of this slot
  abbrev pub within : View K V S → ℕ → ℕ → ℕ → Map S → View K V S
  within v guard slot owner map = leaning (lent_map v owner map) (Some (guard, slot))

  -- and on neither any more
  abbrev pub back_from : View K V S → View K V S
  back_from v = returned_map (leaning v None)

  -- A seat may do something so: whatever is asked of what it knows by then.
  pub record MayDoOn (asks : View K V S → Type 0) (guard owner : MapCaller K V S) (v : View K V S) : Type 0 where
    pub map : Map S
    pub slot : ℕ
    pub owned : owner.seat.view.own ≡ Some map
    pub inside : guard.seat.view.slot ≡ Inside slot NoBlock
    pub asked : asks (within v guard.seat.id slot owner.seat.id map)

  -- It has done something so: what it knew as that had come to its end.
  pub record HasDoneOn (did : View K V S → View K V S → Type 0) (guard owner : MapCaller K V S) (v w : View K V S) : Type 0 where
    pub map : Map S
    pub slot : ℕ
    pub owned : owner.seat.view.own ≡ Some map
    pub inside : guard.seat.view.slot ≡ Inside slot NoBlock
    pub knew : View K V S
    pub done : did (within v guard.seat.id slot owner.seat.id map) knew
    pub back : w ≡ back_from knew

  -- what comes to its end where it stood, with nothing under way, and shows the pairs that its answer names
  pub record EndsThere (names : Names) (v w : View K V S) : Type 0 where
    pub free : w.work ≡ Nothing
    pub stays : StaysThere v w
    pub gone : IfSome names.0 (PairIsVisible (shown_in w.held))
    pub there : IfSome names.1 (PairIsVisible (shown_in w.held))

  module _ {A : Type 0} (did : View K V S → A → View K V S → Type 0) (names : A → Names) where
    -- so it does with any answer
    abbrev pub AllEndThere : Type 0
    AllEndThere = (answer : A) (v w : View K V S) → did v answer w → EndsThere (names answer) v w

    -- A pass that has come back may be sent so: guard and owner are of this memory, and have these numbers.
    pub record IsSentOn (asks : View K V S → Type 0) (guard owner : MapCaller K V S) (name first second : ℕ) (v : View K V S) : Type 0 where
      pub memory : guard.blocks.now.words.id.views_name ≡ name
      pub one : owner.seat.base ≡ name
      pub guards : guard.seat.id ≡ first
      pub owns : owner.seat.id ≡ second
      pub back : IsBack v
      pub may : MayDoOn asks guard owner v
      pub ends : AllEndThere

module _ {K V S : Type 0} (same : K → K → Bool) (hash : S → K → ℕ) (guard owner : MapCaller K V S) where
  -- it is the pair of this word at which the seat of this number has looked, as it is in the memory while that one knows this, and both others what they know
  abbrev pub IsLentOn : ℕ → View K V S → ℕ → K × V → Type 0
  IsLentOn i knew word pair =
      (shown_in knew.held (block_in word) ≡ Some (Pair pair.0 pair.1))
      × IsValueBy (Holds same hash guard.blocks.now.words.fixed) i knew guard.seat.id guard.seat.view owner.seat.id owner.seat.view (block_in word) (Pair pair.0 pair.1)

  -- the pair of this word is lent, where there is one
  abbrev pub IsLentIf : View K V S → Option ℕ → Option (K × V) → Type 0
  IsLentIf knew None None = Unit {0}
  IsLentIf knew (Some word) (Some pair) = (i : ℕ) × IsLentOn i knew word pair
  IsLentIf knew word pair = ⊥

  -- It has done something so, has answered this, and the pairs that the answer names are lent.
  pub record HasLent {A : Type 0} (did : View K V S → A → View K V S → Type 0) (names : A → Names) (answer : A) (lost kept : Option (K × V)) (v w : View K V S) : Type 0 where
    pub on : HasDoneOn (λ x y. did x answer y) guard owner v w
    pub gone : IsLentIf on.knew (names answer).0 lost
    pub there : IsLentIf on.knew (names answer).1 kept
