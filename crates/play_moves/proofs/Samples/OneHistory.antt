-- Histories worked by hand: a lookup that was answered stands in its history, and was so; and so do storings, and answers one for one. And wrong ones, each refused for its reason.
use Rattle.std.specs.Prelude.{nat_eq}
use Rattle.std.specs.Option.{is_none}
use Rattle.std.proofs.Common.{◌≡◌, ℕ, false, List, [], ◌∷◌, inl, refl, sym, subst, ap, ◌∙◌, arith, Option, Some, None}
use Rattle.run_legal.specs.Given.TablesDeclared.resize_mode.ResizeMode.TheVariants.{Incremental}
use Rattle.run_schedules.specs.declared.call.Response.{Response}
use Rattle.run_schedules.specs.declared.call.Response.TheVariants as answer
use Rattle.run_schedules.specs.declared.call.Call.TheVariants.{On}
use Rattle.run_schedules.specs.declared.call.OneKey.TheVariants.{Get, Insert, Remove}
use Rattle.run_schedules.specs.declared.effect.Effect.{Effect}
use Rattle.run_schedules.specs.declared.effect.Effect.TheVariants.{Stored, Removed}
use Rattle.run_schedules.specs.declared.outcome.Outcome.{Outcome}
use Rattle.run_schedules.specs.declared.outcome.Outcome.TheVariants.{Done, Goes, Answered}
use Rattle.run_schedules.specs.Schedules.Lists.{OneOf}
use Rattle.run_schedules.specs.Schedules.Moment.{UnderWay}
use Rattle.run_schedules.specs.Schedules.Sequential.{Meaning, Answers, Leaves, looked}
use Rattle.run_schedules.specs.Schedules.Views.{call_of, finite_map}
use Rattle.run_schedules.specs.Deeds.Deeds.{Deed, Begins, Steps, Opens, MapComes, Entry, moment, named}
use Rattle.run_schedules.specs.Deeds.History.{moments_from}
use Rattle.play_moves.specs.OneHistory.Answered.{ByNewest, IsAnswered, IsItsEnd}
use Rattle.threads_rule.specs.Given.ActsActs.{Get as GetsKey}
use Rattle.run_legal.specs.Given.EffectsKnown.{nothing_known}
use Rattle.run_schedules.specs.Runs.Log.{pair_at}
use Rattle.run_schedules.specs.Given.RawDeclared.machines.answer.KeyAnswer.TheVariants as says
use Rattle.run_schedules.specs.Given.RawDeclared.machines.progress.Answer.TheVariants.{Key}
use Rattle.run_schedules.specs.Given.RawDeclared.machines.progress.Progress.TheVariants as progress
use Rattle.threads_rule.specs.Views.Listed.{Called}
use Rattle.play_moves.specs.OneHistory.Calls.{WasNamed}
use Rattle.play_moves.specs.OneHistory.Lookups.{IsLookedUp, WasHad, WasSo}
use Rattle.play_moves.specs.OneHistory.Order.{HaveGot}
use Rattle.run_schedules.proofs.Given.General.{either, true_not_false as none_no, same_some}

abbrev entry : Deed ℕ ℕ → Outcome ℕ → List Effect → Entry ℕ ℕ
entry deed outcome effects = record { deed = deed; outcome = outcome; effects = effects; refused = false }

-- a map comes, and the section of slot 3 begins
abbrev first : List (Entry ℕ ℕ)
first = entry (Opens 3) Done [] ∷ entry (MapComes 0 0 (Incremental 64) 8) Goes [] ∷ []

-- caller 3 looks the key 1 up, and there is none
abbrev looking : List (Entry ℕ ℕ) → List (Entry ℕ ℕ)
looking log = entry (Begins 3 3 0 (On (Get 1))) Goes [] ∷ log

abbrev told : Response ℕ → List (Entry ℕ ℕ) → List (Entry ℕ ℕ)
told a log = entry (Steps 3) (Answered a) [] ∷ looking log

-- what is there
abbrev the : {X : Type 0} → (o : Option X) → is_none o ≡ false → (x : X) × (o ≡ Some x)
the None is = absurd (none_no is)
the (Some x) is = (x, refl)

abbrev there : (log : List (Entry ℕ ℕ)) → is_none (call_of (named 3) (moment log)) ≡ false → (c : UnderWay ℕ ℕ) × (call_of (named 3) (moment log) ≡ Some c)
there log is = the (call_of (named 3) (moment log)) is

stands : IsAnswered nat_eq (told answer.Absent first) 3 0 (On (Get 1)) (Answered answer.Absent)
stands =
    inl (record {
      deed = refl;
      comes = refl;
      there = (there (looking first) refl).0;
      here = (there (looking first) refl).1;
      on = refl;
      what = refl;
      right = record { changes = inl refl; ends = inl refl; asks = tt };
    })

was_so : IsLookedUp nat_eq (told answer.Absent first) 3 0 1 answer.Absent
was_so = inl (record { deed = refl; comes = refl; there = (there (looking first) refl).0; here = (there (looking first) refl).1; on = refl; what = refl; so = inl refl })

never : ⊥ → ⊥
never h = h

absent_found : (n : ℕ) → ◌≡◌ {A = Response ℕ} answer.Absent (answer.Found n) → ⊥
absent_found n h = cc

answered_found : (n : ℕ) → ◌≡◌ {A = Outcome ℕ} (Answered answer.Absent) (Answered (answer.Found n)) → ⊥
answered_found n h = cc

another_map : (c : UnderWay ℕ ℕ) → call_of (named 3) (moment (looking first)) ≡ Some c → c.map ≡ 1 → ⊥
another_map c is on =
    let two : 0 ≡ 1 = ap (λ (d : UnderWay ℕ ℕ). d.map) (same_some (there (looking first) refl).0 c (sym (there (looking first) refl).1 ∙ is)) ∙ on in omega (arith, two)

-- by no other entry of these
abbrev IsEnd : ℕ → ℕ → Response ℕ → List (Entry ℕ ℕ) → Entry ℕ ℕ → Type 0
IsEnd i map a log e = IsItsEnd nat_eq i map (On (Get 1)) (Answered a) log e

begins_no : (i map : ℕ) (a : Response ℕ) (log : List (Entry ℕ ℕ)) → IsEnd i map a log (entry (Begins 3 3 0 (On (Get 1))) Goes []) → ⊥
begins_no i map a log is = let deed = is.deed in absurd (cc deed)

opens_no : (i map : ℕ) (a : Response ℕ) (log : List (Entry ℕ ℕ)) → IsEnd i map a log (entry (Opens 3) Done []) → ⊥
opens_no i map a log is = let deed = is.deed in absurd (cc deed)

comes_no : (i map : ℕ) (a : Response ℕ) (log : List (Entry ℕ ℕ)) → IsEnd i map a log (entry (MapComes 0 0 (Incremental 64) 8) Goes []) → ⊥
comes_no i map a log is = let deed = is.deed in absurd (cc deed)

earlier_no : (i map : ℕ) (a : Response ℕ) → IsAnswered nat_eq (looking first) i map (On (Get 1)) (Answered a) → ⊥
earlier_no i map a = either (begins_no i map a _) (either (opens_no i map a _) (either (comes_no i map a _) never))

-- Wrong: the call was begun, and has not ended.
has_not_ended : IsAnswered nat_eq (looking first) 3 0 (On (Get 1)) (Answered answer.Absent) → ⊥
has_not_ended = earlier_no 3 0 answer.Absent

-- It has come to another answer;
other_answer : IsAnswered nat_eq (told answer.Absent first) 3 0 (On (Get 1)) (Answered (answer.Found 1)) → ⊥
other_answer = either (λ is. answered_found 1 is.comes) (earlier_no 3 0 (answer.Found 1))

-- it is another caller's;
threes_twos : ◌≡◌ {A = Deed ℕ ℕ} (Steps 3) (Steps 2) → ⊥
threes_twos h = cc

other_caller : IsAnswered nat_eq (told answer.Absent first) 2 0 (On (Get 1)) (Answered answer.Absent) → ⊥
other_caller = either (λ is. threes_twos is.deed) (earlier_no 2 0 answer.Absent)

-- it was on another map;
other_map : IsAnswered nat_eq (told answer.Absent first) 3 1 (On (Get 1)) (Answered answer.Absent) → ⊥
other_map = either (λ is. another_map is.there is.here is.on) (earlier_no 3 1 answer.Absent)

-- or the answer was so at no moment of the call.
no_meaning : ◌≡◌ {A = Meaning ℕ} (Answers answer.Absent Leaves) (Answers (answer.Found 1) Leaves) → ⊥
no_meaning h = cc

found_none : IsAnswered nat_eq (told (answer.Found 1) first) 3 0 (On (Get 1)) (Answered (answer.Found 1)) → ⊥
found_none = either (λ is. either no_meaning (either no_meaning never) is.right.ends) (earlier_no 3 0 (answer.Found 1))

-- Caller 1 stores pair 1, of the key 1, and caller 2 removes it.
abbrev stored : List (Entry ℕ ℕ)
stored =
    entry (Steps 1) (Answered answer.Absent) [] ∷ entry (Steps 1) Goes (Stored 1 (record { turn = 0; place = 1 }) ∷ []) ∷ entry (Begins 1 3 0 (On (Insert 1 10))) Goes [] ∷ first

abbrev removed : List (Entry ℕ ℕ)
removed = entry (Steps 2) Goes (Removed 1 ∷ []) ∷ entry (Begins 2 3 0 (On (Remove 1))) Goes [] ∷ stored

-- a lookup finds it while it is there,
found_there : IsLookedUp nat_eq (told (answer.Found 1) stored) 3 0 1 (answer.Found 1)
found_there = inl (record { deed = refl; comes = refl; there = (there (looking stored) refl).0; here = (there (looking stored) refl).1; on = refl; what = refl; so = inl refl })

-- Wrong: one that begins later has found it; or has found none while it was there.
abbrev WasSoThen : Response ℕ → List (Entry ℕ ℕ) → Type 0
WasSoThen a log = WasSo nat_eq 3 0 1 a (looking log) (entry (Steps 3) (Answered a) [])

begun_then : (log : List (Entry ℕ ℕ)) (n : ℕ) → (some : is_none (call_of (named 3) (moment (looking log))) ≡ false) → (there (looking log) some).0.begun ≡ n
    → (a : Response ℕ) (was : WasSoThen a log) → was.there.begun ≡ n
begun_then log n some is a was = ap (λ (c : UnderWay ℕ ℕ). c.begun) (same_some was.there (there (looking log) some).0 (sym was.here ∙ (there (looking log) some).1)) ∙ is

abbrev SoSince : ℕ → Response ℕ → List (Entry ℕ ℕ) → Type 0
SoSince begun a log = OneOf (λ m. looked (finite_map nat_eq 0 m 1) ≡ a) (moments_from begun (looking log))

found_late : WasSoThen (answer.Found 1) removed → ⊥
found_late was =
    either (absent_found 1) (either (absent_found 1) never)
    (subst (λ (b : ℕ). SoSince b (answer.Found 1) removed) (begun_then removed 7 refl refl (answer.Found 1) was) was.so)

found_absent : (n : ℕ) → ◌≡◌ {A = Response ℕ} (answer.Found n) answer.Absent → ⊥
found_absent n h = cc

missed : WasSoThen answer.Absent stored → ⊥
missed was =
    either (found_absent 1) (either (found_absent 1) never) (subst (λ (b : ℕ). SoSince b answer.Absent stored) (begun_then stored 5 refl refl answer.Absent was) was.so)

-- the value that the finite map had is the one that was stored,
found_stored : WasSo nat_eq 3 0 1 (answer.Found 1) (looking stored) (entry (Steps 3) (Answered (answer.Found 1)) [])
found_stored = record { deed = refl; comes = refl; there = (there (looking stored) refl).0; here = (there (looking stored) refl).1; on = refl; what = refl; so = inl refl }

had_stored : ByNewest 3 (WasHad nat_eq 3 0 1 10) (told (answer.Found 1) stored)
had_stored = record { number = 1; found = found_stored; stored = 1; pair = refl }

-- Wrong: an older lookup of the caller had it, and the newest one is still under way.
not_the_newest : ByNewest 3 (WasHad nat_eq 3 0 1 10) (entry (Steps 3) Goes [] ∷ looking (told (answer.Found 1) stored)) → ⊥
not_the_newest was = let goes = was.found.comes in absurd (cc goes)

-- Wrong: another value.
two_values : (key : ℕ) → ◌≡◌ {A = Option (ℕ × ℕ)} (Some (1, 10)) (Some (key, 11)) → ⊥
two_values key h = let both = same_some (1, 10) (key, 11) h in let values : 10 ≡ 11 = ap (λ (p : ℕ × ℕ). p.1) both in omega (arith, values)

had_other : WasHad nat_eq 3 0 1 11 (looking stored) (entry (Steps 3) (Answered (answer.Found 1)) []) → ⊥
had_other was =
    let found = was.found.comes in
    let one : was.number ≡ 1 = cc found in
    two_values was.stored (subst (λ (n : ℕ). pair_at (moment (told (answer.Found 1) stored)).stored n ≡ Some (was.stored, 11)) one was.pair)

-- A removal was answered with the pair that it has taken out,
abbrev taking : is_none (call_of (named 2) (moment removed)) ≡ false → (c : UnderWay ℕ ℕ) × (call_of (named 2) (moment removed) ≡ Some c)
taking is = the (call_of (named 2) (moment removed)) is

abbrev taken : Entry ℕ ℕ
taken = entry (Steps 2) (Answered (answer.Found 1)) []

was_taken : WasNamed nat_eq 2 0 (On (Remove 1)) answer.Found (1, 10) removed taken
was_taken = (
  1,
  record { deed = refl; comes = refl; there = (taking refl).0; here = (taking refl).1; on = refl; what = refl; right = record { changes = inl refl; ends = refl; asks = tt } },
  refl,
)

-- wrong: with another value.
took_other : WasNamed nat_eq 2 0 (On (Remove 1)) answer.Found (1, 11) removed taken → ⊥
took_other (number, is, pair) =
    let comes = is.comes in let one : number ≡ 1 = cc comes in two_values 1 (subst (λ (n : ℕ). pair_at (moment (taken ∷ removed)).stored n ≡ Some (1, 11)) one pair)

-- A storing that has found none to replace;
abbrev storing : List (Entry ℕ ℕ)
storing = entry (Steps 1) Goes (Stored 1 (record { turn = 0; place = 1 }) ∷ []) ∷ entry (Begins 1 3 0 (On (Insert 1 10))) Goes [] ∷ first

abbrev stores : (log : List (Entry ℕ ℕ)) → is_none (call_of (named 1) (moment log)) ≡ false → (c : UnderWay ℕ ℕ) × (call_of (named 1) (moment log) ≡ Some c)
stores log is = the (call_of (named 1) (moment log)) is

has_stored : IsAnswered nat_eq stored 1 0 (On (Insert 1 10)) (Answered answer.Absent)
has_stored =
    inl (record {
      deed = refl;
      comes = refl;
      there = (stores storing refl).0;
      here = (stores storing refl).1;
      on = refl;
      what = refl;
      right = record { changes = inl refl; ends = refl; asks = tt };
    })

-- wrong: it says that it has replaced a pair, which was not there.
has_not_replaced : IsItsEnd nat_eq 1 0 (On (Insert 1 10)) (Answered (answer.Found 5)) storing (entry (Steps 1) (Answered (answer.Found 5)) []) → ⊥
has_not_replaced is = found_absent 5 is.right.ends

-- A caller whose lookup was told that there was none has got that answer;
abbrev lookup : Called ℕ ℕ
lookup = record { caller = 3; map = 0; wanted = GetsKey 1; told = progress.Done (Key says.Absent) }

has_got : HaveGot 3 (lookup ∷ []) ((On (Get 1), answer.Absent) ∷ [])
has_got = (refl, (nothing_known, None, refl), refl)

-- wrong: two such lookups have got one answer between them;
one_for_two : HaveGot 3 (lookup ∷ lookup ∷ []) ((On (Get 1), answer.Absent) ∷ []) → ⊥
one_for_two got = got.2

-- or one has got an answer more than it was told.
one_too_many : HaveGot 3 (lookup ∷ []) ((On (Get 1), answer.Absent) ∷ (On (Get 1), answer.Absent) ∷ []) → ⊥
one_too_many got = let rest = got.2 in absurd (cc rest)
