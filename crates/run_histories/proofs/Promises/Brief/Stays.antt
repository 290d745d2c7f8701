-- Lookups that are under way as they were have read what they had read.
use Rattle.std.specs.Prelude.{◌≡◌, ℕ, ◌+◌, ◌<◌, ◌≤◌, Bool, true, false, List}
use Rattle.std.proofs.Common.{refl, ap, sym, subst, arith, inr}
use Rattle.run_places.specs.Given.TablesChunks.{is_incremental}
use Rattle.run_places.specs.Given.TablesDeclared.setting.Setting.{Setting}
use Rattle.run_places.specs.Given.ResizeDeclared.lookup.Looking.{Looking}
use Rattle.run_places.specs.Given.ResizeDeclared.lookup.Looking.TheVariants as looking
use Rattle.run_places.specs.Given.RuleChart.{Chart}
use Rattle.run_places.specs.Given.SchedulesLists.{OneOf}
use Rattle.run_places.specs.Given.SchedulesLives.{IsFrom}
use Rattle.run_places.specs.Given.SchedulesMoment.{Moment}
use Rattle.run_places.specs.Given.CallersTogether.{UnderWay, OnKey, ForRoom, Counting, OverAll}
use Rattle.run_places.proofs.Changes.Logs.{grows, further_is_past}
use Rattle.run_histories.specs.Promises.Brief.{HasRead, TablesLast, WasRoot, ReadsSince}
use Rattle.run_histories.specs.Promises.Reading.{HasLooked, ReadingsStay, EventsPreserveReadings}
use Rattle.run_histories.proofs.Promises.Brief.Shown.{one_as, readings_last}
use Rattle.run_places.specs.Given.SchedulesTransition.{Past, further}

-- the first of the tables is one that the map has had
pub first_made : {K : Type 0} (incremental : Bool) (c : Chart K) (first turn steps most : ℕ) → HasRead incremental c first turn steps most → first < c.past
first_made incremental c first turn steps most h = by incremental h.from
  where
    by : (b : Bool) → IsFrom b first turn → first < c.past
    by true from = let made = h.made in omega (arith, from, made)
    by false from = let made = h.made in omega (arith, from, made)

pub same_tables : {K : Type 0} (c : Chart K) → TablesLast c c
same_tables c = record { past = omega arith; limits = λ t l. refl }

module _ {K V : Type 0} (incremental : Bool) (map : ℕ) (c c2 : Chart K) (last : TablesLast c c2) (moments moments2 : List (Moment K V))
    (more : (P : Moment K V → Type 0) → OneOf P moments → OneOf P moments2) (steps : ℕ) where
  -- the root's table is as long as it was
  was_last : (first : ℕ) → first < c.past → (v : Moment K V) → WasRoot incremental map c first v → WasRoot incremental map c2 first v
  was_last first made v was = (was.0, λ blocking. (let words = was.1 blocking in let same = last.limits first made in omega (arith, words, same)))

  were_last : (first : ℕ) → first < c.past → OneOf (WasRoot incremental map c first) moments → OneOf (WasRoot incremental map c2 first) moments2
  were_last first made one =
      more (WasRoot incremental map c2 first) (one_as (WasRoot incremental map c first) (WasRoot incremental map c2 first) (was_last first made) moments one)

  -- tables and moments have come
  pub since_on : (stands : Looking) → ReadsSince incremental map c moments steps stands → ReadsSince incremental map c2 moments2 steps stands
  since_on looking.Roots h = h
  since_on (looking.Probes trial) h = (
    h.0,
    readings_last K incremental c c2 last h.0 steps (looking.Probes trial) h.1,
    were_last h.0 (first_made incremental c h.0 trial.table.turn steps trial.probe.len h.1.0) h.2,
  )
  since_on (looking.Nexts table) h = (
    h.0,
    readings_last K incremental c c2 last h.0 steps (looking.Nexts table) h.1,
    were_last h.0 (first_made incremental c h.0 table.turn steps _ h.1) h.2,
  )
  since_on (looking.Over found) h = absurd h.1

  pub looked_on : (u : UnderWay K V K) → HasLooked incremental map c moments steps u → HasLooked incremental map c2 moments2 steps u
  looked_on (OnKey k) h = (h.0, h.1, since_on h.0.stands h.2)
  looked_on (ForRoom r) h = absurd h
  looked_on (Counting sum) h = absurd h
  looked_on (OverAll o) h = absurd h

-- in the same mode, by the same event, with as many steps
pub looked_as : {K V : Type 0} (incremental incremental2 : Bool) (map : ℕ) (c : Chart K) (log : Past K V) (begun begun2 steps steps2 : ℕ) (u : UnderWay K V K)
    → incremental2 ≡ incremental → begun2 ≡ begun → steps2 ≡ steps → HasLooked incremental map c (log.since begun) steps u → HasLooked incremental2 map c (log.since begun2) steps2 u
looked_as incremental incremental2 map c log begun begun2 steps steps2 u mode event count h =
    subst (λ (b : Bool). HasLooked b map c (log.since begun2) steps2 u) (sym mode)
    (subst (λ (n : ℕ). HasLooked incremental map c (log.since n) steps2 u) (sym event)
    (subst (λ (n : ℕ). HasLooked incremental map c (log.since begun) n u) (sym count) h))

module _ (K V : Type 0) (name : ℕ → List ℕ) where
  pub readings_stay : ReadingsStay K V name
  readings_stay log made made2 m m2 s s2 stay h = record {
    past = h.past;
    begun = λ map i u is d d_is looks_for.
        let it = stay.calls map i u is d d_is looks_for in
        subst (λ (n : ℕ). n ≤ log.entries) (sym it.4) (h.begun map i u it.0 it.1 it.2 it.3);
    reads = λ map i u is d d_is looks_for standing there.
        let it = stay.calls map i u is d d_is looks_for in
        let was = stay.maps map i u is standing there in
        let before = h.reads map i u it.0 it.1 it.2 it.3 was.0 was.1 in
        looked_as (is_incremental was.0.setting.mode) (is_incremental standing.setting.mode) map standing.chart log it.1.begun d.begun (it.1.steps + made i) (d.steps + made2 i) u
        (ap (λ (x : Setting). is_incremental x.mode) was.2) it.4 it.5
        (looked_on (is_incremental was.0.setting.mode) map was.0.chart standing.chart was.3 (log.since it.1.begun) (log.since it.1.begun) (λ P one. one) (it.1.steps + made i) u before);
  }

  pub events_keep_readings : EventsPreserveReadings K V name
  events_keep_readings log next made m s h counted = record {
    past = further_is_past next log counted;
    begun = λ map i u is c c_is looks_for. (let b = h.begun map i u is c c_is looks_for in omega (arith, b));
    reads = λ map i u is c c_is looks_for standing there.
        let b = h.begun map i u is c c_is looks_for in
        looked_on (is_incremental standing.setting.mode) map standing.chart standing.chart (same_tables standing.chart) (log.since c.begun) ((further next log).since c.begun)
        (λ P one. subst (OneOf P) (sym (grows next log c.begun (omega (arith, b)))) (inr one)) (c.steps + made i) u (h.reads map i u is c c_is looks_for standing there);
  }
