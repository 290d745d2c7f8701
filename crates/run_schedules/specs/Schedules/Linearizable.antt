-- Linearizability: what calls on one key do to their map, answer and ask; and which pairs sweeps remove.
use Rattle.std.specs.Prelude.{◌≡◌, ℕ, ◌+◌, Bool, true, false, List, [], ◌∷◌, length, flat_map, Option, Some, None, ◌⊎◌}
use Rattle.seize_words.specs.declared.fault.Fault.TheVariants.{Busy, RemoveNothing}
use Rattle.run_schedules.specs.declared.call.Call.{Call}
use Rattle.run_schedules.specs.declared.call.Call.TheVariants.{On, Clear, Retain}
use Rattle.run_schedules.specs.declared.call.OneKey.{OneKey}
use Rattle.run_schedules.specs.declared.call.Response.{Response}
use Rattle.run_schedules.specs.declared.call.Reply.TheVariants.{Decides}
use Rattle.run_schedules.specs.declared.effect.Effect.{Effect}
use Rattle.run_schedules.specs.declared.effect.Effect.TheVariants.{Stored, Replaced, Removed}
use Rattle.run_schedules.specs.declared.outcome.Outcome.{Outcome}
use Rattle.run_schedules.specs.declared.outcome.Outcome.TheVariants.{Asks, Answered, Refused}
use Rattle.run_schedules.specs.Schedules.Lists.{OneOf, is_in}
use Rattle.run_schedules.specs.Schedules.Things.{same_question}
use Rattle.run_schedules.specs.Schedules.Sequential.{Meaning, Answers, Refuses, Wants, Deed, Leaves, Shift, ComesIn, GivesWay, GoesOut, means, key_of, asks_again, shifts}
use Rattle.run_schedules.specs.Schedules.Moment.{CallState, Asking, UnderWay, Moment}
use Rattle.run_schedules.specs.Schedules.Views.{finite_map, is_in_map, reply_to}
use Rattle.run_schedules.specs.Schedules.Entry.{Entry}
use Rattle.run_schedules.specs.Schedules.Transition.{Past, Transition, call_found, call_left, past, transition}

-- how an effect changes a finite map
abbrev pub shift_of : Effect → List Shift
shift_of (Stored n s) = ComesIn n ∷ []
shift_of (Replaced n) = GivesWay n ∷ []
shift_of (Removed n) = GoesOut n ∷ []
shift_of _ = []

module _ {K V : Type 0} (eq : K → K → Bool) where
  -- what the key's class has in the call's map at a moment
  abbrev pub there_for : OneKey K V → UnderWay K V → Moment K V → Option ℕ
  there_for one c m = finite_map eq c.map m (key_of one)

  -- what the call means at a moment, by the replies that it got
  abbrev pub meaning_at : OneKey K V → UnderWay K V → Moment K V → Meaning V
  meaning_at one c m = means one (reply_to (there_for one c m) c.replies) (there_for one c m) (length m.stored + 1)

  -- A call on one key changes its map once at most, in one step, by what it means just there.
  abbrev pub ChangesOnce : OneKey K V → UnderWay K V → Moment K V → List Shift → Type 0
  ChangesOnce one c m done =
      (done ≡ [])
      ⊎ ((c.due ≡ None) × (a : Response V) × (d : Deed V) × (meaning_at one c m ≡ Answers a d)
      × (done ≡ shifts (there_for one c m) (length m.stored + 1) d))

  -- `clear` removes pairs, and `retain` those about which the last reply was no
  abbrev pub MayRemove : Call K V → UnderWay K V → Shift → Type 0
  MayRemove Clear c (GoesOut n) = Unit {0}
  MayRemove Retain c (GoesOut n) = reply_to (Some n) c.replies ≡ Some (Decides false)
  MayRemove _ c _ = ⊥

  abbrev pub RemovesOnly : Call K V → UnderWay K V → List Shift → Type 0
  RemovesOnly call c [] = Unit {0}
  RemovesOnly call c (f ∷ done) = MayRemove call c f × RemovesOnly call c done

  abbrev pub Changes : Call K V → UnderWay K V → Moment K V → List Shift → Type 0
  Changes (On one) c m done = ChangesOnce one c m done
  Changes call c m done = RemovesOnly call c done

  -- It answers what it owes since it changed its map; and if it did not, what it means at a moment of the call, at which it would not change it.
  abbrev pub AnswersDue : OneKey K V → UnderWay K V → List (Moment K V) → Option (Response V) → Response V → Type 0
  AnswersDue one c moments None a = OneOf (λ m. meaning_at one c m ≡ Answers a Leaves) moments
  AnswersDue one c moments (Some b) a = a ≡ b

  -- One that is refused has not changed it; and there was nothing to remove where that is why.
  abbrev pub EndsOn : OneKey K V → UnderWay K V → List (Moment K V) → Outcome V → Type 0
  EndsOn one c moments (Answered a) = AnswersDue one c moments c.due a
  EndsOn one c moments (Refused Busy) = Unit {0}
  EndsOn one c moments (Refused RemoveNothing) = (c.due ≡ None) × OneOf (λ m. meaning_at one c m ≡ Refuses) moments
  EndsOn one c moments (Refused fault) = c.due ≡ None
  EndsOn one c moments _ = Unit {0}

  abbrev pub Ends : Call K V → UnderWay K V → List (Moment K V) → Outcome V → Type 0
  Ends (On one) c moments outcome = EndsOn one c moments outcome
  Ends _ c moments outcome = Unit {0}

  -- A call asks about what its key's class has at a moment of the call, where it wants a reply for that, while it has not changed its map; and about
  -- nothing twice, but for `remove_if`. `retain` asks about pairs that are in the map at a moment of the call.
  abbrev pub MayAsk : Call K V → UnderWay K V → List (Moment K V) → Option ℕ → Type 0
  MayAsk (On one) c moments question =
      (c.due ≡ None) × OneOf (λ m. (there_for one c m ≡ question) × (means one None question (length m.stored + 1) ≡ Wants)) moments
      × ((asks_again one ≡ true) ⊎ (is_in same_question question c.asked ≡ false))
  MayAsk Retain c moments (Some n) = OneOf (λ m. is_in_map c.map (m.place n) ≡ true) moments
  MayAsk _ c moments question = ⊥

  -- what was asked and has no reply is told again
  abbrev pub AsksRight : CallState → UnderWay K V → List (Moment K V) → Outcome V → Type 0
  AsksRight (Asking q) c moments outcome = Unit {0}
  AsksRight _ c moments (Asks question) = MayAsk c.call c moments question
  AsksRight _ c moments _ = Unit {0}

  -- the call before and after the effects of its entry
  pub record IsRight (log : Past K V) (t : Transition K V) (before c : UnderWay K V) : Type 0 where
    pub changes : Changes before.call before t.found (flat_map shift_of t.effects)
    pub ends : Ends c.call c (log.since c.begun) t.outcome
    pub asks : AsksRight c.stands c (log.since c.begun) t.outcome

  abbrev pub IsRightOf : Past K V → Transition K V → Option (UnderWay K V) → Option (UnderWay K V) → Type 0
  IsRightOf log t (Some before) (Some c) = IsRight log t before c
  IsRightOf log t _ _ = flat_map shift_of t.effects ≡ []

  -- it changes maps, answers and asks as the finite map says; where it is no step of a call it changes none
  abbrev pub Linearizes : Past K V → Transition K V → Type 0
  Linearizes log t = IsRightOf log t (call_found t) (call_left t)

  -- of an event
  abbrev pub ActsRight : List (Entry K V) → Entry K V → UnderWay K V → UnderWay K V → Type 0
  ActsRight log e before c = IsRight (past log) (transition log e) before c

  abbrev pub ActsOf : List (Entry K V) → Entry K V → Option (UnderWay K V) → Option (UnderWay K V) → Type 0
  ActsOf log e before c = IsRightOf (past log) (transition log e) before c

  abbrev pub IsLinearizable : List (Entry K V) → Entry K V → Type 0
  IsLinearizable log e = Linearizes (past log) (transition log e)
