-- A log of a run and the history of which it is the grouping, by hand. And wrong ones, each refused for its reason.
use Rattle.std.proofs.Common.{◌≡◌, ℕ, Bool, true, false, inl, inr, List, [], ◌∷◌, refl, Some, None}
use Rattle.std.specs.Prelude.{◌⊎◌, Option}
use Rattle.map_tables.specs.declared.resize_mode.ResizeMode.TheVariants.{Incremental}
use Rattle.run_schedules.specs.declared.call.Response.TheVariants.{Absent}
use Rattle.run_schedules.specs.declared.call.Call.TheVariants.{On}
use Rattle.run_schedules.specs.declared.call.OneKey.TheVariants.{Get}
use Rattle.run_schedules.specs.declared.effect.Effect.{Effect}
use Rattle.run_schedules.specs.declared.effect.Effect.TheVariants.{Asked, Reclaimed}
use Rattle.run_schedules.specs.declared.effect.Growth.TheVariants.{ABucket}
use Rattle.run_schedules.specs.declared.effect.Thing.TheVariants.{APair}
use Rattle.run_schedules.specs.declared.event.Event.{Event}
use Rattle.run_schedules.specs.declared.event.Event.TheVariants as event
use Rattle.run_schedules.specs.declared.outcome.Outcome.{Outcome}
use Rattle.run_schedules.specs.declared.outcome.Outcome.TheVariants.{Done, Slot, Goes, Answered}
use Rattle.run_schedules.specs.Schedules.After.{moment}
use Rattle.run_schedules.specs.Schedules.Entry.{Entry}
use Rattle.run_schedules.specs.Deeds.Deeds.{Begins, Steps, Registers, Opens, MapComes, Makes, Entry as Act}
use Rattle.play_lists.specs.Grouped.Grouping.{IsGroupingOf, IsPieceOf, Names, names_after}
use Rattle.play_lists.proofs.Samples.Played.{entry as act}

abbrev entry : Event ℕ ℕ → Outcome ℕ → ℕ → List Effect → Entry ℕ ℕ
entry e outcome steps effects = record { event = e; outcome = outcome; steps = steps; effects = effects }

-- names: a registration, a guard, a map, and two callers
abbrev r : List ℕ
r = 114 ∷ []

abbrev g : List ℕ
g = 103 ∷ []

abbrev m : List ℕ
m = 109 ∷ []

abbrev a : List ℕ
a = 97 ∷ []

abbrev b : List ℕ
b = 98 ∷ []

-- A slot is registered, which asks for a bucket of them, and entered; a map is made; and a caller looks for a key that is not there, by two steps.
abbrev begun : List (Entry ℕ ℕ)
begun =
    entry (event.Begin a g m (On (Get 1))) Goes 0 [] ∷ entry (event.MakeMap m (Incremental 64) 0) Done 0 [] ∷ entry (event.Enter g r) Done 0 []
    ∷ entry (event.Register r) (Slot 0) 0 (Asked ABucket ∷ []) ∷ []

abbrev log : List (Entry ℕ ℕ)
log = entry (event.Go a false) (Answered Absent) 2 [] ∷ begun

abbrev first_deeds : List (Act ℕ ℕ)
first_deeds =
    act (Begins 1 0 0 (On (Get 1))) Goes [] ∷ act (Makes 0) Done [] ∷ act (Makes 0) Goes [] ∷ act (MapComes 0 0 (Incremental 64) 0) Goes [] ∷ act (Opens 0) Done []
    ∷ act (Registers 0) (Slot 0) [] ∷ act (Registers 0) Goes [] ∷ act (Registers 0) Goes (Asked ABucket ∷ []) ∷ []

abbrev history : List (Act ℕ ℕ)
history = act (Steps 1) (Answered Absent) [] ∷ act (Steps 1) Goes [] ∷ first_deeds

abbrev names : Names
names = (a, 1) ∷ []

-- so the log is the grouping of the history, entry by entry
none_yet : IsGroupingOf {K = ℕ} {V = ℕ} [] [] []
none_yet = (refl, refl)

registered : IsGroupingOf (entry (event.Register r) (Slot 0) 0 (Asked ABucket ∷ []) ∷ []) (act (Registers 0) (Slot 0) [] ∷ act (Registers 0) Goes [] ∷ act (Registers 0) Goes (Asked ABucket ∷ []) ∷ []) []
registered = (
  act (Registers 0) (Slot 0) [] ∷ act (Registers 0) Goes [] ∷ act (Registers 0) Goes (Asked ABucket ∷ []) ∷ [],
  [],
  [],
  refl,
  refl,
  record { effects = refl; steps = refl; outcome = refl; deeds = (tt, (tt, (tt, tt))) },
  none_yet,
)

entered : IsGroupingOf (entry (event.Enter g r) Done 0 [] ∷ entry (event.Register r) (Slot 0) 0 (Asked ABucket ∷ []) ∷ [])
    (act (Opens 0) Done [] ∷ act (Registers 0) (Slot 0) [] ∷ act (Registers 0) Goes [] ∷ act (Registers 0) Goes (Asked ABucket ∷ []) ∷ []) []
entered = (act (Opens 0) Done [] ∷ [], _, [], refl, refl, record { effects = refl; steps = refl; outcome = refl; deeds = (refl, tt) }, registered)

called : IsGroupingOf begun first_deeds names
called = (
  act (Begins 1 0 0 (On (Get 1))) Goes [] ∷ [],
  _,
  [],
  refl,
  refl,
  record { effects = refl; steps = refl; outcome = refl; deeds = ((refl, refl, refl, refl), tt) },
  (
    act (Makes 0) Done [] ∷ act (Makes 0) Goes [] ∷ act (MapComes 0 0 (Incremental 64) 0) Goes [] ∷ [],
    _,
    [],
    refl,
    refl,
    record { effects = refl; steps = refl; outcome = refl; deeds = (refl, (refl, ((refl, refl, refl), tt))) },
    entered,
  ),
)

is_grouping : IsGroupingOf log history names
is_grouping = (
  act (Steps 1) (Answered Absent) [] ∷ act (Steps 1) Goes [] ∷ [],
  first_deeds,
  names,
  refl,
  refl,
  record { effects = refl; steps = refl; outcome = refl; deeds = (refl, (refl, tt)) },
  called,
)

-- An event whose effects no step has: pair 1 is reclaimed by nobody.
has_none : ◌≡◌ {A = List Effect} (Reclaimed (APair 1) ∷ []) (Asked ABucket ∷ []) → ⊥
has_none h = cc h

nobody_did : IsPieceOf names (moment begun) (entry (event.Go a false) (Answered Absent) 2 (Reclaimed (APair 1) ∷ [])) (act (Steps 1) (Answered Absent) [] ∷ act (Steps 1) Goes (Asked ABucket ∷ []) ∷ [])
    → ⊥
nobody_did piece = has_none piece.effects

-- Steps of two callers in one event: the second is another caller's.
another : ◌≡◌ {A = Option ℕ} (Some 1) (Some 2) → ⊥
another h = cc h

abbrev both : Names
both = (b, 2) ∷ names

two_callers : IsPieceOf both (moment begun) (entry (event.Go a false) (Answered Absent) 2 []) (act (Steps 1) (Answered Absent) [] ∷ act (Steps 2) Goes [] ∷ []) → ⊥
two_callers piece = another piece.deeds.1.0

-- An outcome that another step gave: the last one of the piece just went on.
goes_answers : ◌≡◌ {A = Outcome ℕ} (Answered Absent) Goes → ⊥
goes_answers h = cc h

another_came : IsPieceOf names (moment begun) (entry (event.Go a false) (Answered Absent) 2 []) (act (Steps 1) Goes [] ∷ act (Steps 1) (Answered Absent) [] ∷ []) → ⊥
another_came piece = goes_answers piece.outcome

-- A step left out: the event has one step, and the history two of its caller.
one_of_two : ◌≡◌ {A = ℕ} 1 2 → ⊥
one_of_two h = cc h

left_out : IsPieceOf names (moment begun) (entry (event.Go a false) (Answered Absent) 1 []) (act (Steps 1) (Answered Absent) [] ∷ act (Steps 1) Goes [] ∷ []) → ⊥
left_out piece = one_of_two piece.steps

-- The number of a caller whose call is over goes to another one: then nobody else goes by it, and a step of it is no event of whoever did.
abbrev passed_on : Names
passed_on = names_after (event.Begin b g m (On (Get 1))) (act (Begins 1 0 0 (On (Get 1))) Goes [] ∷ []) names

goes_by_none : ◌≡◌ {A = Option ℕ} None (Some 1) → ⊥
goes_by_none h = cc h

of_its_own : IsPieceOf passed_on (moment begun) (entry (event.Step b false) Goes 1 []) (act (Steps 1) Goes [] ∷ [])
of_its_own = record { effects = refl; steps = refl; outcome = refl; deeds = (refl, tt) }

of_an_older : IsPieceOf passed_on (moment begun) (entry (event.Step a false) Goes 1 []) (act (Steps 1) Goes [] ∷ []) → ⊥
of_an_older piece = goes_by_none piece.deeds.0

-- nor is anything left of a history that no entry is of
left_over : IsGroupingOf {K = ℕ} {V = ℕ} [] (act (Steps 1) Goes [] ∷ []) [] → ⊥
left_over (none, names) = no_act none
  where
    no_act : ◌≡◌ {A = List (Act ℕ ℕ)} (act (Steps 1) Goes [] ∷ []) [] → ⊥
    no_act h = cc h

-- Events that did nothing, and say that they did: a call that goes on and was not begun, a map that has ended by nobody's steps.
no_rest : (asks still : Bool) → asks ≡ false → (false ≡ true) ⊎ ((false ≡ true) ⊎ (((asks ≡ true) × (still ≡ true)) ⊎ ⊥)) → ⊥
no_rest asks still none (inl h) = cc h
no_rest asks still none (inr (inl h)) = cc h
no_rest asks still none (inr (inr (inl h))) = (let a = h.0 in cc (none, a))
no_rest asks still none (inr (inr (inr h))) = h

nobody_began : IsPieceOf names (moment begun) (entry (event.Begin b g m (On (Get 1))) Goes 0 []) [] → ⊥
nobody_began piece = no_rest false false refl piece.outcome

nobody_ended : IsPieceOf names (moment begun) (entry (event.EndMap m) Done 0 []) [] → ⊥
nobody_ended piece = no_rest false false refl piece.outcome
