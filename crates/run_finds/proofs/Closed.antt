-- Once the collector has ended nothing comes any more: each event is refused, and has done nothing but to ask for memory.
use Rattle.std.specs.Prelude.{◌≡◌, ℕ, Bool, true, false, not, ◌&&◌, List, [], ◌∷◌, Option, Some, None, MatchBool, MatchOption}
use Rattle.std.specs.List.{list_all}
use Rattle.std.proofs.Common.{refl, ap, sym, subst, ◌∙◌}
use Rattle.std.proofs.lemmas.Bool.{and_parts}
use Rattle.run_executor.specs.Given.SeizeWordsDeclared.fault.Fault.{Fault}
use Rattle.run_executor.specs.Given.SeizeWordsDeclared.fault.Fault.TheVariants.{Busy, Memory}
use Rattle.run_blocks.specs.Given.TablesDeclared.resize_mode.ResizeMode.{ResizeMode}
use Rattle.run_executor.specs.Given.RunsRuns.{map_fault}
use Rattle.run_executor.specs.Given.RunsDeclared.effect.Effect.{Effect}
use Rattle.run_executor.specs.Given.RunsDeclared.effect.Effect.TheVariants as effect
use Rattle.run_executor.specs.Given.RunsDeclared.event.Event.{Event}
use Rattle.run_executor.specs.Given.RunsDeclared.event.Event.TheVariants as event
use Rattle.run_executor.specs.Given.RunsDeclared.outcome.Outcome.{Outcome}
use Rattle.run_executor.specs.Given.RunsDeclared.outcome.Outcome.TheVariants.{Done, Refused}
use Rattle.run_executor.specs.Given.SchedulesAfter.{calls_on, closed_on, after, moment}
use Rattle.run_executor.specs.Given.SchedulesEffects.{maps_by, with_effect, with_effects, worked}
use Rattle.run_executor.specs.Given.SchedulesEntry.{Entry}
use Rattle.run_executor.specs.Given.SchedulesHanding.{IsWhole}
use Rattle.run_executor.specs.Given.SchedulesInTurn.{is_growth, IsKeptOut, HasOutcome}
use Rattle.run_executor.specs.Given.SchedulesInUse.{is_left}
use Rattle.run_executor.specs.Given.SchedulesLists.{is_empty}
use Rattle.run_executor.specs.Given.SchedulesMoment.{Place, TableThere, Moment}
use Rattle.run_executor.specs.Given.SchedulesTerms.{Terms}
use Rattle.run_executor.specs.Given.SchedulesReclaims.{is_handed}
use Rattle.run_executor.specs.Given.SchedulesViews.{number_of, is_retired}
use Rattle.run_finds.specs.Little.{AllIsBack, ReclaimsAll, OverStaysBack}
use Rattle.run_finds.specs.Orderly.{is_left_over}
use Rattle.run_finds.specs.Within.{GoesInOrder}
use Rattle.run_finds.proofs.Begun.{was_done, in_turn, not_kept_out}
use Rattle.run_finds.proofs.Endings.{entry}

pub none_there : {X : Type 0} (xs : List X) → is_empty xs ≡ true → xs ≡ []
none_there [] e = refl
none_there (x ∷ xs) e = absurd (cc e)

module _ {K V : Type 0} where
  -- what is back, and what maps are there, goes by places, tables, maps and calls
  record IsSame (m v : Moment K V) : Type 0 where
    pub place : v.place ≡ m.place
    pub tables : v.tables ≡ m.tables
    pub maps : v.maps ≡ m.maps

  back_still : (m v : Moment K V) → IsSame m v → v.calls ≡ [] → AllIsBack m × (m.maps ≡ []) → AllIsBack v × (v.maps ≡ [])
  back_still m v same none back = (
    record {
      calls = none;
      nothing = record {
        pairs = λ n. subst (λ (p : ℕ → Place). is_handed (p n) ≡ false) (sym same.place) (back.0.nothing.pairs n);
        tables = subst (λ (ts : List TableThere). list_all (λ u. not (is_retired u.stage)) ts ≡ true) (sym same.tables) back.0.nothing.tables;
        left = λ n. subst (λ (p : ℕ → Place). is_left_over (p n) ≡ false) (sym same.place) (back.0.nothing.left n);
      };
    },
    same.maps ∙ back.1,
  )

  -- to ask for memory changes none of that
  asks_leave : (acted : Option ℕ) (effects : List Effect) (m : Moment K V) → list_all is_growth effects ≡ true → IsSame m (with_effects None acted effects m) × ((with_effects None acted effects m).calls ≡ m.calls)
  asks_leave acted [] m all = (record { place = refl; tables = refl; maps = refl }, refl)
  asks_leave acted (effect.Asked growth ∷ effects) m all =
      let rest = asks_leave acted effects (with_effect None acted (effect.Asked growth) m) all in
      (record { place = rest.0.place; tables = rest.0.tables; maps = rest.0.maps }, rest.1)
  asks_leave acted (_ ∷ effects) m all = absurd (cc all)

  -- an event that is busy
  busy_same : (its : Event K V) (steps : ℕ) (m : Moment K V) → IsSame m (after (entry its (Refused Busy) steps []) m)
  busy_same (event.OneCall guard name its) steps m = record { place = refl; tables = refl; maps = refl }
  busy_same _ steps m = record { place = refl; tables = refl; maps = refl }

  busy_calls : (its : Event K V) (steps : ℕ) (m : Moment K V) → m.calls ≡ [] → (after (entry its (Refused Busy) steps []) m).calls ≡ []
  busy_calls its steps m none = ap (calls_on its (Refused Busy) steps) (before its) ∙ (ap (calls_on its (Refused Busy) steps) none ∙ left its)
    where
      before : (x : Event K V) → (worked (entry x (Refused Busy) steps []) m).calls ≡ m.calls
      before (event.OneCall guard name call) = refl
      before _ = refl

      left : (x : Event K V) → calls_on x (Refused Busy) steps [] ≡ []
      left (event.Stop caller) = refl
      left _ = refl

  busy_stays : (its : Event K V) (came : Outcome V) (steps : ℕ) (effects : List Effect) (m : Moment K V) → came ≡ Refused Busy → effects ≡ [] → AllIsBack m × (m.maps ≡ [])
      → AllIsBack (after (entry its came steps effects) m) × ((after (entry its came steps effects) m).maps ≡ [])
  busy_stays its came steps effects m busy none back =
      subst (λ (o : Outcome V). AllIsBack (after (entry its o steps effects) m) × ((after (entry its o steps effects) m).maps ≡ [])) (sym busy)
      (subst (λ (fs : List Effect). AllIsBack (after (entry its (Refused Busy) steps fs) m) × ((after (entry its (Refused Busy) steps fs) m).maps ≡ [])) (sym none)
      (back_still m (after (entry its (Refused Busy) steps []) m) (busy_same its steps m) (busy_calls its steps m back.0.calls) back))

  -- a map that cannot be made
  unmade_stays : (name : List ℕ) (mode : ResizeMode) (capacity : ℕ) (fault : Fault) (steps : ℕ) (effects : List Effect) (m w : Moment K V) → IsWhole (event.MakeMap name mode capacity) (Refused fault) effects m w
      → AllIsBack m × (m.maps ≡ [])
      → AllIsBack (after (entry (event.MakeMap name mode capacity) (Refused fault) steps effects) m) × ((after (entry (event.MakeMap name mode capacity) (Refused fault) steps effects) m).maps ≡ [])
  unmade_stays name mode capacity fault steps effects m w whole back =
      let leave = asks_leave (number_of name m) effects m (asks fault whole) in
      back_still m (after (entry (event.MakeMap name mode capacity) (Refused fault) steps effects) m) (record { place = leave.0.place; tables = leave.0.tables; maps = leave.0.maps }) (leave.1 ∙ back.0.calls) back
    where
      asks : (f : Fault) → IsWhole (event.MakeMap name mode capacity) (Refused f) effects m w → list_all is_growth effects ≡ true
      asks Memory its = its
      asks Busy its = ap (list_all is_growth) its
      asks _ its = ap (list_all is_growth) its

  -- no maps stay none
  none_stay : (acted : Option ℕ) (effects : List Effect) (m : Moment K V) → m.maps ≡ [] → (with_effects None acted effects m).maps ≡ []
  none_stay acted [] m none = none
  none_stay acted (f ∷ effects) m none = none_stay acted effects (with_effect None acted f m) (ap (maps_by f) none ∙ by f)
    where
      by : (g : Effect) → maps_by g [] ≡ []
      by (effect.Promoted t) = refl
      by _ = refl

  abbrev Back : Moment K V → Type 0
  Back v = AllIsBack v × (v.maps ≡ [])

  -- an event that is kept out leaves all back
  stays : (its : Event K V) (came : Outcome V) (steps : ℕ) (effects : List Effect) (m : Moment K V) → IsKeptOut its came → IsWhole its came effects m (worked (entry its came steps effects) m) → Back m
      → Back (after (entry its came steps effects) m)
  stays (event.MakeMap name mode capacity) came steps effects m out whole back = by (map_fault mode capacity) out
    where
      of : (fault : Fault) → came ≡ Refused fault → Back (after (entry (event.MakeMap name mode capacity) came steps effects) m)
      of fault is =
          subst (λ (o : Outcome V). Back (after (entry (event.MakeMap name mode capacity) o steps effects) m)) (sym is)
          (unmade_stays name mode capacity fault steps effects m (worked (entry (event.MakeMap name mode capacity) came steps effects) m)
          (subst (λ (o : Outcome V). IsWhole (event.MakeMap name mode capacity) o effects m (worked (entry (event.MakeMap name mode capacity) came steps effects) m)) is whole) back)

      by : (o : Option Fault) → MatchOption o (came ≡ Refused Busy) (λ fault. came ≡ Refused fault) → Back (after (entry (event.MakeMap name mode capacity) came steps effects) m)
      by None is = of Busy is
      by (Some fault) is = of fault is
  stays its came steps effects m out whole back =
      busy_stays its came steps effects m out (subst (λ (o : Outcome V). IsWhole its o effects m (worked (entry its came steps effects) m)) out whole) back

  module _ (terms : Terms) (log : List (Entry K V)) where
    abbrev m : Moment K V
    m = moment log

    closes : (steps : ℕ) (effects : List Effect) → MatchBool m.is_closed (was_done V ≡ Refused Busy) (HasOutcome terms log m (entry event.Close (was_done V) steps effects) event.Close (was_done V)) → m.maps ≡ []
    closes steps effects right =
        none_there m.maps (and_parts (is_left m) (is_empty m.maps) (in_turn terms log (entry event.Close (was_done V) steps effects) (is_left m && is_empty m.maps) (was_done V ≡ Done) (was_done V)
        (not_kept_out terms log (entry event.Close (was_done V) steps effects) m.is_closed (was_done V ≡ Refused Busy) _ (was_done V) (λ out. out) right refl) refl)).1

    over_back : (its : Event K V) (came : Outcome V) (steps : ℕ) (effects : List Effect) → GoesInOrder terms log (entry its came steps effects) → ReclaimsAll log (entry its came steps effects)
        → (q : Bool) → m.is_closed ≡ q → (q ≡ true → Back m) → closed_on its came q ≡ true → Back (after (entry its came steps effects) m)
    over_back its came steps effects goes reclaims true is before closed =
        stays its came steps effects m
        (subst (λ (q : Bool). MatchBool q (IsKeptOut its came) (HasOutcome terms log m (entry its came steps effects) its came)) is goes.right)
        goes.life.whole (before refl)
    over_back event.Close Done steps effects goes reclaims false is before closed = (reclaims.0, none_stay None effects m (closes steps effects goes.right))
    over_back _ _ steps effects goes reclaims false is before closed = absurd (cc closed)

pub over_stays_back : (K V : Type 0) → OverStaysBack K V
over_stays_back K V terms log e goes reclaims before closed =
    over_back terms log e.event e.outcome e.steps e.effects goes reclaims (moment log).is_closed refl before closed
