-- The event by which a call without a name begins, and goes on.
use Rattle.std.specs.Prelude.{◌≡◌, ◌+◌, ◌&&◌, ℕ, Bool, true, false, List, [], ◌∷◌, is_none, is_some, map, position, slice_get, option_map, Option, Some, None, if◌then◌else◌}
use Rattle.std.proofs.Common.{refl, sym, ap, subst, ◌∙◌, arith}
use Rattle.seize_words.specs.declared.fault.Fault.TheVariants.{Busy}
use Rattle.run_schedules.specs.Runs.Same.{is_same}
use Rattle.run_schedules.specs.Runs.Stopped.{most_steps}
use Rattle.run_schedules.specs.declared.call.Call.{Call}
use Rattle.run_schedules.specs.declared.effect.Effect.{Effect}
use Rattle.run_schedules.specs.declared.event.Event.TheVariants.{OneCall}
use Rattle.run_schedules.specs.declared.outcome.Outcome.{Outcome}
use Rattle.run_schedules.specs.declared.outcome.Outcome.TheVariants.{Refused}
use Rattle.run_schedules.specs.Schedules.After.{is_alone_on, moment, moments_from, slots_on}
use Rattle.run_schedules.specs.Schedules.Beginning.{fresh_call, with_call}
use Rattle.run_schedules.specs.Schedules.Coming.{Progresses}
use Rattle.run_schedules.specs.Schedules.Effects.{with_effects}
use Rattle.run_schedules.specs.Schedules.Entry.{ByCall, Entry, IfCall, is_busy, nameless}
use Rattle.run_schedules.specs.Schedules.InTurn.{Continues}
use Rattle.run_schedules.specs.Schedules.InUse.{is_living}
use Rattle.run_schedules.specs.Schedules.Moment.{MapThere, Moment}
use Rattle.run_schedules.specs.Schedules.Steps.{state_or}
use Rattle.run_schedules.specs.Schedules.Terms.{Terms}
use Rattle.run_schedules.specs.Schedules.Views.{call_of, map_of, number_of}
use Rattle.run_schedules.specs.Schedules.Waiting.{WaitsRight}
use Rattle.play_scheduler.specs.Given.FollowsCalling.{come_to}
use Rattle.play_scheduler.proofs.Given.FollowsCalling.{is_same_refl}
use Rattle.play_scheduler.specs.Played.{BeginsSo, IsInTurn, RefinesFor, entry_of}
use Rattle.run_executor.specs.Named.Seen.{Seen, is_named, seen, seen_of}
use Rattle.play_stepping.specs.EventSteps.Stepping.{StepsHaveOutcome, GoesAt, IsInCase, PlaysOn, StepsCome, TakenAs, TakenBy, TakesUpTo, may_begin}
use Rattle.run_executor.specs.declared.caller.NamedCaller.{NamedCaller}
use Rattle.run_executor.specs.declared.caller.Stands.{Stands as HowFar}
use Rattle.run_executor.specs.declared.caller.Stands.TheVariants as far
use Rattle.play_scheduler.specs.declared.played.Played.{Played}
use Rattle.play_scheduler.specs.declared.scheduler.Scheduler.{Scheduler}
use Rattle.play_scheduler.proofs.Given.RowsElsewhere.{elsewhere}
use Rattle.play_scheduler.proofs.Here.{Here, here_at}
use Rattle.play_scheduler.proofs.Given.RowsLists.{first_position}
use Rattle.play_stepping.proofs.EventSteps.PlaysAgain.{busy_stands}
use Rattle.play_stepping.proofs.EventSteps.PlaysSteps.{few_steps, goes_right, never_busy, stands_elsewhere, stands_then, waits_so}
use Rattle.play_stepping.proofs.EventSteps.RightSteps.{makes_whole, never_quiet, waits_never}
use Rattle.play_scheduler.proofs.Rights.{entry, in_turn, out_of_turn, plays, quiet}
use Rattle.seize_words.proofs.General.{same_some as the}

plain : {V : Type 0} (o : Outcome V) → (o ≡ Refused Busy → ⊥) → is_busy o ≡ false
plain (Refused Busy) never = absurd (never refl)
plain _ never = refl

module _ {K V S : Type 0} (same : K → K → Bool) (hash : K → ℕ) (terms : Terms) (log : List (Entry K V)) (guard name : List ℕ) (call : Call K V) (old mid : Scheduler K V S)
    (due : IsInTurn same hash terms log (OneCall guard name call) old) where
  abbrev m : Moment K V
  m = moment log

  abbrev m1 : Moment K V
  m1 = with_call nameless guard call (number_of name m) m

  -- it does not begin
  pub whole_busy : BeginsSo same hash terms m nameless guard name call false old mid → PlaysOn same hash terms log (quiet (OneCall guard name call) (Refused Busy)) mid
  whole_busy begins =
      let e = quiet (OneCall guard name call) (Refused Busy) in
      subst (λ (x : Scheduler K V S). PlaysOn same hash terms log e x) (sym (begins.none refl)) (record {
        played = stands_elsewhere same hash terms (come_to nameless (Refused Busy) 0 m) old (busy_stands same hash terms log nameless false old due.played) (m.events + 1) m.is_mapped m.is_closed
            (m.is_alone && is_alone_on e m) m.there m.slots m.sheltered m.remains refl refl refl refl;
        plays = λ within. plays same hash terms log (OneCall guard name call) old due e refl (out_of_turn (λ o. Continues terms log e) (may_begin guard name m) (Refused Busy) (sym begins.so) refl)
            (stands_elsewhere same hash terms (come_to nameless (Refused Busy) 0 m) old (busy_stands same hash terms log nameless false old due.played) (m.events + 1) m.is_mapped m.is_closed
            (m.is_alone && is_alone_on e m) m.there m.slots m.sheltered m.remains refl refl refl refl);
        makes = refl;
        does = omega arith;
        waits = waits_never same m (Refused Busy) (λ e. cc e) (call_of nameless m);
        is_quiet = refl;
      })

  -- it begins, and takes steps
  module _ (begins : BeginsSo same hash terms m nameless guard name call true old mid) (steps : ℕ) (outcome : Outcome V) (effects : List Effect) (new : Scheduler K V S)
      (placed : Some 0 ≡ position (is_named nameless) mid.calls) (goes : (here_at same hash terms m1 mid (begins.stands refl) nameless 0 placed).caller.stands ≡ far.Goes)
      (comes : StepsHaveOutcome same hash terms nameless 0 m1 steps outcome [] effects new) (takes : TakesUpTo most_steps steps outcome) where
    never : outcome ≡ Refused Busy → ⊥
    never = never_busy same hash terms log m1 nameless mid (begins.stands refl) 0 placed goes steps outcome effects new comes

    abbrev b : Moment K V
    b = if is_busy outcome then m else m1

    b_is : m1 ≡ b
    b_is = ap (λ (q : Bool). if q then m else m1) (sym (plain outcome never))

    abbrev worked : Moment K V → Moment K V
    worked x = with_effects (Some nameless) (option_map (λ c. c.map) (call_of nameless x)) effects x

    abbrev e : Entry K V
    e = entry (OneCall guard name call) outcome steps effects

    abbrev InCase : Moment K V → Type 0
    InCase x = IfCall (λ c. IsInCase terms c (moments_from c.begun log) (worked x) outcome) (call_of nameless (worked x))

    abbrev Right : Moment K V → Type 0
    Right x = ByCall (λ c. Progresses terms c.stands c (moments_from c.begun log) (worked x) outcome) (call_of nameless (worked x))

    abbrev Waiting : Moment K V → Type 0
    Waiting x = IfCall (λ c. WaitsRight same outcome c (worked x)) (call_of nameless (worked x))

    mapped_with : (o : Option ℕ) → m.is_mapped ≡ (with_call nameless guard call o m).is_mapped
    mapped_with None = refl
    mapped_with (Some n) = refl

    remains_with : (o : Option ℕ) → m.remains ≡ (with_call nameless guard call o m).remains
    remains_with None = refl
    remains_with (Some n) = refl

    closed_with : (o : Option ℕ) → m.is_closed ≡ (with_call nameless guard call o m).is_closed
    closed_with None = refl
    closed_with (Some n) = refl

    abbrev After : Moment K V → Moment K V
    After x = elsewhere (m.events + 1) m.is_mapped m.is_closed (m.is_alone && is_alone_on e m) (worked x).there (slots_on outcome m.slots) (worked x).sheltered m.remains (come_to nameless outcome steps (worked x))

    pub plays_whole : PlaysOn same hash terms log e new
    plays_whole = record {
      played = subst (λ (x : Moment K V). RefinesFor same hash terms (After x) new) b_is
          (stands_then same hash terms log m1 nameless mid (begins.stands refl) 0 placed goes steps outcome effects new comes (m.events + 1) m.is_mapped m.is_closed (m.is_alone && is_alone_on e m)
          (slots_on outcome m.slots) m.remains (mapped_with (number_of name m)) (closed_with (number_of name m)) (remains_with (number_of name m)));
      plays = λ within.
          let at_m1 = subst InCase (sym b_is) within in
          plays same hash terms log (OneCall guard name call) new due e refl
          (in_turn (λ o. Continues terms log e) (may_begin guard name m) outcome (sym begins.so)
          (subst Right b_is (goes_right same hash terms log m1 nameless mid (begins.stands refl) 0 placed goes steps outcome effects new comes at_m1)))
          (subst (λ (x : Moment K V). RefinesFor same hash terms (After x) new) b_is
          (stands_then same hash terms log m1 nameless mid (begins.stands refl) 0 placed goes steps outcome effects new comes (m.events + 1) m.is_mapped m.is_closed (m.is_alone && is_alone_on e m)
          (slots_on outcome m.slots) m.remains (mapped_with (number_of name m)) (closed_with (number_of name m)) (remains_with (number_of name m))));
      makes = makes_whole guard name call (state_or (call_of nameless b)) steps outcome takes never;
      does = few_steps same hash terms log m1 nameless mid (begins.stands refl) 0 placed goes steps outcome effects new comes;
      waits = subst Waiting b_is (waits_so same hash terms log m1 nameless mid (begins.stands refl) 0 placed goes steps outcome effects new comes);
      is_quiet = never_quiet outcome effects never;
    }

-- the newest call is the first of the callers
module _ {K V S : Type 0} (same : K → K → Bool) (hash : K → ℕ) (terms : Terms) (m : Moment K V) (own guard : List ℕ) (call : Call K V) (number : ℕ) (p : Scheduler K V S)
    (stands : RefinesFor same hash terms (with_call own guard call (Some number) m) p) where
  first_of : (calls : List (NamedCaller V)) → seen (fresh_call own guard call number m.events) ∷ map seen m.calls ≡ map seen_of calls
      → (d : NamedCaller V) × (rest : List (NamedCaller V)) × (calls ≡ d ∷ rest) × (d.name ≡ own) × (d.stands ≡ far.Goes)
  first_of [] e = absurd (cc e)
  first_of (d ∷ rest) e =
      let head : seen (fresh_call own guard call number m.events) ≡ seen_of d = cc e in (d, rest, refl, ap (λ (z : Seen). z.name) (sym head), ap (λ (z : Seen). z.far) (sym head))

  pub first_there : (d : NamedCaller V) × (rest : List (NamedCaller V)) × (p.calls ≡ d ∷ rest) × (d.name ≡ own) × (d.stands ≡ far.Goes)
  first_there = first_of p.calls stands.calls.listed

-- so it goes on at the first place
module _ {K V S : Type 0} (same : K → K → Bool) (hash : K → ℕ) (terms : Terms) (m : Moment K V) (own guard : List ℕ) (call : Call K V) (there : Option ℕ) (some : is_some there ≡ true) (p : Scheduler K V S)
    (stands : RefinesFor same hash terms (with_call own guard call there m) p) where
  pub goes_first : GoesAt own 0 p
  goes_first = by there some stands
    where
      by : (o : Option ℕ) → is_some o ≡ true → RefinesFor same hash terms (with_call own guard call o m) p → GoesAt own 0 p
      by None e so = absurd (cc e)
      by (Some number) e so =
          let it = first_there same hash terms m own guard call number p so in
          let named_so : is_named own it.0 ≡ true = ap (λ (l : List ℕ). is_same l own) it.3 ∙ is_same_refl own in (
            subst (λ (l : List (NamedCaller V)). Some 0 ≡ position (is_named own) l) (sym it.2) (first_position (is_named own) it.0 it.1 named_so),
            it.0,
            ap (λ (l : List (NamedCaller V)). slice_get l 0) it.2,
            it.4,
          )

-- where it may begin, the map is there, and so has a number
pub map_there : {K V : Type 0} (m : Moment K V) (guard name : List ℕ) → true ≡ may_begin guard name m → is_some (number_of name m) ≡ true
map_there m guard name is = mapped (map_of name m) (third (is_none (call_of nameless m)) (is_living guard m.there) (is_some (map_of name m)) (sym is))
  where
    third : (a b c : Bool) → (a && b && c) ≡ true → c ≡ true
    third true true c e = e
    third true false c e = absurd (cc e)
    third false b c e = absurd (cc e)

    mapped : (o : Option MapThere) → is_some o ≡ true → is_some (option_map (λ f. f.number) o) ≡ true
    mapped None e = e
    mapped (Some f) e = refl

-- so it plays, where it has begun and taken its steps
module _ {K V S : Type 0} (same : K → K → Bool) (hash : K → ℕ) (terms : Terms) (log : List (Entry K V)) (guard name : List ℕ) (call : Call K V) (old mid : Scheduler K V S)
    (due : IsInTurn same hash terms log (OneCall guard name call) old) (begins : BeginsSo same hash terms (moment log) nameless guard name call true old mid) (played : Played V) (new : Scheduler K V S)
    (taken : TakenAs same hash 0 most_steps played mid new) where
  abbrev m2 : Moment K V
  m2 = with_call nameless guard call (number_of name (moment log)) (moment log)

  first : GoesAt nameless 0 mid
  first = goes_first same hash terms (moment log) nameless guard call (number_of name (moment log)) (map_there (moment log) guard name begins.so) mid (begins.stands refl)

  abbrev here : Here same hash terms m2 mid (begins.stands refl) nameless 0
  here = here_at same hash terms m2 mid (begins.stands refl) nameless 0 first.0

  goes_here : here.caller.stands ≡ far.Goes
  goes_here = ap (λ (x : NamedCaller V). x.stands) (the here.caller first.1 (sym here.at ∙ first.2)) ∙ first.3

  come : StepsCome same hash 0 most_steps played.steps played.outcome [] played.effects.items mid new
  come = subst (λ (h : HowFar). TakenBy same hash 0 most_steps h played mid new) first.3 (taken first.1 first.2)

  pub plays_begun : PlaysOn same hash terms log (entry_of (OneCall guard name call) played) new
  plays_begun = plays_whole same hash terms log guard name call old mid due begins played.steps played.outcome played.effects.items new first.0 goes_here (come.1 terms m2 nameless (begins.stands refl) first) come.0
