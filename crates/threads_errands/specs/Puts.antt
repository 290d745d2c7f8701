-- A call that is to store a pair, by straight code: what its seat knows once its block is made, and once that is stored.
use Rattle.std.specs.Prelude.{◌≡◌, ℕ, Bool, Some, None, Result, Ok, Err}
use Rattle.map_tables.specs.declared.node.Node.{Node}
use Rattle.map_tables.specs.declared.setting.Setting.{Setting}
use Rattle.papaya_raw.specs.CallPoints.{untried}
use Rattle.papaya_raw.specs.declared.machines.answer.KeyAnswer.{KeyAnswer}
use Rattle.papaya_raw.specs.declared.machines.answer.There.{There}
use Rattle.papaya_raw.specs.declared.machines.call.Calling.TheVariants as at
use Rattle.papaya_raw.specs.declared.machines.call.KeyCall.{KeyCall}
use Rattle.papaya_raw.specs.declared.machines.machine.Machine.TheVariants.{Key}
use Rattle.papaya_raw.specs.declared.machines.progress.Answer.TheVariants.{Key as OfKey}
use Rattle.threads_steps.specs.Given.ViewsDeclared.view.View.{View}
use Rattle.threads_steps.specs.Given.ViewsTold.{pair_in}
use Rattle.map_straight.specs.Straight.Storing.{call_at, storing}
use Rattle.map_straight.specs.declared.storing.Stored.{Stored}
use Rattle.map_straight.specs.declared.storing.Stored.TheVariants as stored
use Rattle.threads_steps.specs.Storing.{Since, making, refused}
use Rattle.threads_errands.specs.Ahead.{IsAhead, IsEnding}
use Rattle.threads_errands.specs.declared.ahead.storing.Put.{Put}
use Rattle.threads_errands.specs.declared.ahead.storing.Put.TheVariants as put
use Rattle.threads_steps.specs.Given.ErrandsCalling.{HasEnded, IsBack}
use Rattle.threads_steps.specs.Given.ErrandsLooking.{IsOfThem, StaysThere}

module _ {K V : Type 0} (same : K → K → Bool) (hashes : K → ℕ) (from : KeyCall K V K) where
  -- a call that was to store a pair, and has come to the one point, has it still at the other,
  abbrev pub KeepsIt : KeyCall K V K → Type 0
  KeepsIt x = (pair : Node K V) → Since same hashes pair (Key from) None → Since same hashes pair (Key x) None

  -- or is over,
  abbrev pub HasIt : KeyAnswer → Type 0
  HasIt answer = (pair : Node K V) → Since same hashes pair (Key from) None → IsBack pair (Ok (OfKey answer)) None

  -- or has handed it back
  abbrev pub HandsBackBy : {S : Type 0} → View K V S → KeyCall K V K → Node K V → Type 0
  HandsBackBy v x node = (pair : Node K V) → pair_in v.calls ≡ Some pair → Since same hashes pair (Key from) None → Since same hashes pair (Key x) (Some node)

module _ {K V S : Type 0} (same : K → K → Bool) (hash : S → K → ℕ) (hasher : S) (setting : Setting) (hashed : ℕ) (there : There) where
  -- the code stands at this point then, and of the seat and its calls nothing else has changed
  abbrev pub HasComeTo : KeyCall K V K → View K V S → View K V S → Type 0
  HasComeTo x v w = IsAhead same hash hasher x w × StaysThere v w × IsOfThem v w

  -- a call that is to store this pair has made its block, to which this word links, or has handed it back
  abbrev pub HasOwn : Node K V → Result ℕ (Node K V) → View K V S → View K V S → Type 0
  HasOwn pair (Ok own) v w =
      HasComeTo (storing setting hashed there own untried at.Roots) v w × KeepsIt same (hash hasher) (making setting hashed there pair) (storing setting hashed there own untried at.Roots)
  HasOwn pair (Err node) v w =
      HasComeTo (refused setting hashed there) v w × HandsBackBy same (hash hasher) (making setting hashed there pair) v (refused setting hashed there) node

  -- straight code from the root on has come to this: the code has ended the call, or stands there
  abbrev pub HasPut : ℕ → Stored → View K V S → View K V S → Type 0
  HasPut own (stored.Answered answer) v w =
      IsEnding same hash answer w × StaysThere v w × IsOfThem v w × HasIt {V = V} same (hash hasher) (storing setting hashed there own untried at.Roots) answer
  HasPut own (stored.Stands trial spot) v w =
      HasComeTo (call_at setting hashed there own trial spot) v w
      × KeepsIt {V = V} same (hash hasher) (storing setting hashed there own untried at.Roots) (call_at setting hashed there own trial spot)

  -- and from this point on: the call has ended, too, or its pair has come back
  abbrev pub HasStored : KeyCall K V K → Put K V → View K V S → View K V S → Type 0
  HasStored from (put.Answered answer) v w = HasEnded (Ok (OfKey answer)) v w × StaysThere v w × HasIt same (hash hasher) from answer
  HasStored from (put.Stands own trial spot) v w =
      HasComeTo (call_at setting hashed there own trial spot) v w × KeepsIt same (hash hasher) from (call_at setting hashed there own trial spot)
  HasStored from (put.Back node) v w = HasComeTo (refused setting hashed there) v w × HandsBackBy same (hash hasher) from v (refused setting hashed there) node
