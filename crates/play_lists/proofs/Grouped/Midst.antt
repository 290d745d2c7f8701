-- In the midst of an event: the piece of the history that is its own so far, behind which the log before is the grouping.
use Rattle.std.specs.Prelude.{◌+◌, ◌≤◌, ◌++◌, if◌then◌else◌}
use Rattle.std.specs.List.{AllByRecursion}
use Rattle.std.proofs.Common.{◌≡◌, ℕ, Bool, true, false, List, [], ◌∷◌, inl, refl, sym, ap, subst, arith, ◌∙◌}
use Rattle.run_schedules.specs.Given.SeizeWordsDeclared.fault.Fault.TheVariants.{Busy}
use Rattle.run_schedules.specs.declared.effect.Effect.{Effect}
use Rattle.run_schedules.specs.declared.event.Event.{Event}
use Rattle.run_schedules.specs.declared.event.Event.TheVariants as event
use Rattle.run_schedules.specs.declared.outcome.Outcome.{Outcome}
use Rattle.run_schedules.specs.declared.outcome.Outcome.TheVariants.{Refused}
use Rattle.run_schedules.specs.Schedules.After.{moment}
use Rattle.run_schedules.specs.Schedules.Entry.{Entry}
use Rattle.run_finds.specs.Given.ExecutorDeclared.caller.NamedCaller.{NamedCaller}
use Rattle.run_schedules.specs.Deeds.Deeds.{Deed, Begins, Steps, Replies, Stops, Registers, Opens, Shuts, Leaves, Tends, MapComes, Makes, MapFails, Ends, MapGoes, ReclaimsAll, Entry as Act}
use Rattle.play_lists.specs.Agrees.Fresh.{comes_with, gives_back, is_taken}
use Rattle.play_lists.specs.Played.Play.{State}
use Rattle.play_lists.specs.Grouped.Grouping.{HasOutcome, IsGroupingOf, MayHave, Names, effects_in, is_step, names_after, names_on, refuses, steps_in}
use Rattle.play_lists.specs.Grouped.Called.{CallersAre, PlaysSo}

-- what an event that has done nothing yet would come to
abbrev pub at_rest : {V : Type 0} → Outcome V
at_rest = Refused Busy

-- so many maps an event may make
abbrev pub maps_of : {K V : Type 0} → Event K V → ℕ
maps_of (event.MakeMap name mode capacity) = 1
maps_of _ = 0

-- The event has done this so far, by so many steps of a call, and the last one came to this; callers are as they were played.
pub record InEvent {K V S : Type 0} (log : List (Entry K V)) (event : Event K V) (did : List Effect) (steps : ℕ) (outcome : Outcome V) (calls : List (NamedCaller V)) (x : State K V S) : Type 0 where
  pub known : Names
  pub before : List (Act K V)
  pub grouping : IsGroupingOf log before known
  pub piece : List (Act K V)
  pub history : x.history ≡ piece ++ before
  pub effects : did ≡ effects_in piece
  pub counts : steps ≡ steps_in piece
  pub comes : HasOutcome (moment log) event piece outcome
  pub deeds : AllByRecursion (λ a. MayHave (names_after event piece known) (moment log) event a.deed) piece
  pub callers : CallersAre (names_after event piece known) calls x
  pub fresh : (n : ℕ) → (moment log).made + maps_of event ≤ n → is_taken n x.history ≡ false

-- no more numbers are taken by an entry with which no map comes
pub taken_on : {K V : Type 0} (n : ℕ) (x : Act K V) (history : List (Act K V)) → comes_with n x.deed ≡ false → is_taken n history ≡ false → is_taken n (x ∷ history) ≡ false
taken_on n x history none was =
    ap (λ (b : Bool). if b then true else (if gives_back true n x.deed then false else is_taken n history)) none ∙ by (gives_back true n x.deed)
  where
    by : (b : Bool) → (if b then false else is_taken n history) ≡ false
    by true = refl
    by false = was

step_comes : {K V : Type 0} (n : ℕ) (d : Deed K V) → is_step d ≡ true → comes_with n d ≡ false
step_comes n (Steps i) is = refl
step_comes n (MapComes map root mode capacity) is = absurd (cc is)
step_comes n (Begins i slot map call) is = refl
step_comes n (Replies i reply) is = refl
step_comes n (Stops i) is = refl
step_comes n (Registers s) is = refl
step_comes n (Opens s) is = refl
step_comes n (Shuts s) is = refl
step_comes n (Leaves s) is = refl
step_comes n (Tends s) is = refl
step_comes n (Makes map) is = refl
step_comes n (MapFails map) is = refl
step_comes n (Ends map) is = refl
step_comes n (MapGoes map) is = refl
step_comes n (ReclaimsAll last) is = refl

module _ {K V S : Type 0} (log : List (Entry K V)) (event : Event K V) where
  -- it begins with nothing done, as if it were to be refused
  abbrev pub event_begins : (outcome : Outcome V) → refuses outcome ≡ true → (calls : List (NamedCaller V)) (x : State K V S) → PlaysSo log calls x → InEvent log event [] 0 outcome calls x
  event_begins outcome refused calls x so =
      record { known = so.names; before = x.history; grouping = so.grouping; piece = []; history = refl; effects = refl; counts = refl; comes = inl refused; deeds = tt; callers = so.callers; fresh = λ n l. so.fresh n (omega (arith, l)) }

  -- and ends as an entry of the log, where the numbers that are to come then are not taken,
  pub event_ends_so : (did : List Effect) (steps : ℕ) (outcome : Outcome V) (calls : List (NamedCaller V)) (x : State K V S)
      → ((n : ℕ) → (moment (record { event = event; outcome = outcome; steps = steps; effects = did } ∷ log)).made ≤ n → is_taken n x.history ≡ false) → InEvent log event did steps outcome calls x
      → PlaysSo (record { event = event; outcome = outcome; steps = steps; effects = did } ∷ log) calls x
  event_ends_so did steps outcome calls x fresh so = record {
    names = names_after event so.piece so.known;
    grouping = (so.piece, so.before, so.known, so.history, refl, record { effects = so.effects; steps = so.counts; outcome = so.comes; deeds = so.deeds }, so.grouping);
    callers = so.callers;
    fresh = fresh;
  }

  -- as they are not where as many more maps have come as it may make
  pub event_ends : (did : List Effect) (steps : ℕ) (outcome : Outcome V) (calls : List (NamedCaller V)) (x : State K V S)
      → (moment log).made + maps_of event ≤ (moment (record { event = event; outcome = outcome; steps = steps; effects = did } ∷ log)).made → InEvent log event did steps outcome calls x
      → PlaysSo (record { event = event; outcome = outcome; steps = steps; effects = did } ∷ log) calls x
  event_ends did steps outcome calls x later so = event_ends_so did steps outcome calls x (λ n l. so.fresh n (omega (arith, l, later))) so

  module _ (did : List Effect) (steps : ℕ) (outcome : Outcome V) (calls calls2 : List (NamedCaller V)) (x y : State K V S) (so : InEvent log event did steps outcome calls x) (entry : Act K V)
      (history : y.history ≡ entry ∷ x.history) where
    abbrev names : Names
    names = names_after event so.piece so.known

    -- it goes on by a step of a call
    pub event_steps : is_step entry.deed ≡ true → names_on event entry.deed names ≡ names → MayHave names (moment log) event entry.deed → CallersAre names calls2 y
        → InEvent log event (did ++ entry.effects) (1 + steps) entry.outcome calls2 y
    event_steps is same_names may callers = record {
      known = so.known;
      before = so.before;
      grouping = so.grouping;
      piece = entry ∷ so.piece;
      history = history ∙ ap (λ (h : List (Act K V)). entry ∷ h) so.history;
      effects = ap (λ (l : List Effect). l ++ entry.effects) so.effects;
      counts = ap (λ (n : ℕ). 1 + n) so.counts ∙ sym (grind (arith, is));
      comes = refl;
      deeds = subst (λ (n : Names). AllByRecursion (λ a. MayHave n (moment log) event a.deed) (entry ∷ so.piece)) (sym same_names) (may, so.deeds);
      callers = subst (λ (n : Names). CallersAre n calls2 y) (sym same_names) callers;
      fresh = λ n l. ap (is_taken n) history ∙ taken_on n entry x.history (step_comes n entry.deed is) (so.fresh n l);
    }

    -- or by what is none
    pub event_goes_on : ((n : ℕ) → (moment log).made + maps_of event ≤ n → comes_with n entry.deed ≡ false) → is_step entry.deed ≡ false → names_on event entry.deed names ≡ names → MayHave names (moment log) event entry.deed → CallersAre names calls2 y
        → InEvent log event (did ++ entry.effects) steps entry.outcome calls2 y
    event_goes_on kept is same_names may callers = record {
      known = so.known;
      before = so.before;
      grouping = so.grouping;
      piece = entry ∷ so.piece;
      history = history ∙ ap (λ (h : List (Act K V)). entry ∷ h) so.history;
      effects = ap (λ (l : List Effect). l ++ entry.effects) so.effects;
      counts = so.counts ∙ sym (grind (arith, is));
      comes = refl;
      deeds = subst (λ (n : Names). AllByRecursion (λ a. MayHave n (moment log) event a.deed) (entry ∷ so.piece)) (sym same_names) (may, so.deeds);
      callers = subst (λ (n : Names). CallersAre n calls2 y) (sym same_names) callers;
      fresh = λ n l. ap (is_taken n) history ∙ taken_on n entry x.history (kept n l) (so.fresh n l);
    }
