-- A map that has had no table has counted nothing: what is counted a call has gained or lost, and so it has found a table.
use Rattle.std.specs.Prelude.{◌≡◌, ◌≢◌, ℕ, ◌+◌, ◌<◌, Bool, true, false, not, List, [], ◌∷◌, map, Option, Some, None, if◌then◌else◌}
use Rattle.std.specs.List.{AllByRecursion}
use Rattle.std.proofs.Common.{refl, ap, sym, subst, ◌∙◌, arith}
use Rattle.run_finds.specs.Given.RunsSame.{is_same}
use Rattle.run_finds.specs.Given.RunsDeclared.call.Call.{Call}
use Rattle.run_finds.specs.Given.RunsDeclared.effect.Effect.{Effect}
use Rattle.run_finds.specs.Given.RunsDeclared.effect.Effect.TheVariants as effect
use Rattle.run_finds.specs.Given.RunsDeclared.event.Event.{Event}
use Rattle.run_finds.specs.Given.RunsDeclared.event.Event.TheVariants as event
use Rattle.run_finds.specs.Given.RunsDeclared.call.Reply.{Reply}
use Rattle.run_finds.specs.Given.RunsDeclared.outcome.Outcome.{Outcome}
use Rattle.run_finds.specs.Given.RunsDeclared.outcome.Outcome.TheVariants as outcome
use Rattle.run_finds.specs.Given.SchedulesAfter.{asks_on, calls_on, with_outcome, moment, replied, stepped, without_call}
use Rattle.run_finds.specs.Given.SchedulesBeginning.{begun, with_call}
use Rattle.run_finds.specs.Given.SchedulesEffects.{AtEachEffect, call_by, shards_by, with_effect, with_effects, worked, word_with}
use Rattle.run_finds.specs.Given.SchedulesEntry.{ByCall, acted_on, acting, caller_of, ends_call, is_busy, nameless}
use Rattle.run_finds.specs.Given.SchedulesGrowing.{only_looks}
use Rattle.run_finds.specs.Given.SchedulesHanding.{gives_all, moments_of}
use Rattle.run_finds.specs.Given.SchedulesLists.{put}
use Rattle.run_finds.specs.Given.SchedulesLives.{CallFinds, Finds}
use Rattle.run_finds.specs.Given.SchedulesMoment.{Asking, Going, IsReady, Moment, CallState, Told, UnderWay}
use Rattle.run_finds.specs.Given.SchedulesTerms.{Terms}
use Rattle.run_finds.specs.Given.SchedulesViews.{call_of, is_linked, number_of}
use Rattle.run_finds.proofs.Given.FollowsAlike.{put_elsewhere}
use Rattle.run_finds.proofs.Given.FollowsCalls.{changed, changed_same}
use Rattle.run_finds.specs.Life.{StoresOne}
use Rattle.run_finds.specs.Waiting.{is_unborn}
use Rattle.run_finds.specs.Within.{ActsOn, AllIsInOrder, many_of}
use Rattle.run_finds.proofs.Begun.{all_begun}
use Rattle.run_finds.proofs.Grown.{found_of, many_grow, only_one}
use Rattle.run_finds.proofs.Lists.{all_both, all_so}
use Rattle.run_finds.proofs.Over.{acts, both_at}
use Rattle.run_finds.proofs.Runs.{acts_still}
use Rattle.run_finds.proofs.Tables.{all_kept, all_under}
use Rattle.run_finds.proofs.Within.{in_order, place_below}
use Rattle.run_finds.specs.Purposes.Tableless.{EventsPreserveTableless, HasTable, TablelessAtFirst, TablelessUncounted}

pub tableless_at_first : (K V : Type 0) → TablelessAtFirst K V
tableless_at_first K V = record { maps = λ of none shard. refl; calls = tt }

-- One effect.

module _ {K V : Type 0} (terms : Terms) (everything : Bool) (moments : List (Moment K V)) (acted : Option ℕ) (m : Moment K V) (h : AllIsInOrder m) (has : TablelessUncounted m) where
  -- by an effect of no call
  by_none : (f : Effect) → TablelessUncounted (with_effect None acted f m)
  by_none f = record {
    maps = λ of none shard. (let grown = many_grow None acted m f of in has.maps of (omega (arith, none, grown)) shard);
    calls = all_so (HasTable m) (HasTable (with_effect None acted f m)) (λ c its some. (let grown = many_grow None acted m f c.map in let l = its some in omega (arith, l, grown))) m.calls has.calls;
  }

  -- by one of a call
  module _ (own : List ℕ) (on : ActsOn (Some own) acted m) (c : UnderWay K V) (found : call_of own m ≡ Some c) where
    its_table : HasTable m c
    its_table = (found_of (λ (d : UnderWay K V). is_same d.caller own) (HasTable m) m.calls c has.calls found).1

    -- it has found a table for what it has gained or lost
    gets_table : (f : Effect) → CallFinds terms moments m f c → 0 < (call_by m f c).gained + (call_by m f c).lost → 0 < many_of c.map m
    gets_table (effect.Stored n s) finds some = (let l = place_below terms everything moments (Some own) acted m h on is_linked c.map s finds.2 in omega (arith, l))
    gets_table (effect.Removed n) finds some =
        let its = h.within.maps n c.map finds in
        let l = subst (λ (of : ℕ). (m.spot n).turn < many_of of m) its.1 (h.within.spots n its.0 (h.waits.placed.stored n (ap is_unborn finds))) in omega (arith, l)
    gets_table (effect.Counted s) finds some = absurd (omega (arith, some))
    gets_table f finds some = its_table some

    module _ (f : Effect) (finds : CallFinds terms moments m f c) where
      abbrev then_at : Moment K V
      then_at = with_effect (Some own) acted f m

      still_none : (of : ℕ) → many_of of then_at ≡ 0 → many_of of m ≡ 0
      still_none of none = (let grown = many_grow (Some own) acted m f of in omega (arith, none, grown))

      later : (d : UnderWay K V) → HasTable m d → HasTable then_at d
      later d its some = (let grown = many_grow (Some own) acted m f d.map in let l = its some in omega (arith, l, grown))

      own_then : HasTable then_at (call_by m f c)
      own_then some =
          let grown = many_grow (Some own) acted m f c.map in
          let l = gets_table f finds some in
          subst (λ (of : ℕ). 0 < many_of of then_at) (sym (changed_same m f c).1) (omega (arith, l, grown))

      each_then : AllByRecursion (HasTable then_at) then_at.calls
      each_then =
          all_under (changed (call_by m f) (changed_same m f) own) (λ d. HasTable m d × (is_same d.caller own ≡ true → d ≡ c)) (HasTable then_at) one m.calls
          (all_both (HasTable m) (λ d. is_same d.caller own ≡ true → d ≡ c) m.calls has.calls (only_one own m.calls c h.waits.placed.apart found))
        where
          one : (d : UnderWay K V) → HasTable m d × (is_same d.caller own ≡ true → d ≡ c) → HasTable then_at (changed (call_by m f) (changed_same m f) own d)
          one d its = by (is_same d.caller own) refl
            where
              Goal : Bool → Type 0
              Goal q = HasTable then_at (if q then call_by m f d else d)

              by : (q : Bool) → is_same d.caller own ≡ q → Goal (is_same d.caller own)
              by true is = subst Goal (sym is) (subst (λ (x : UnderWay K V). HasTable then_at (call_by m f x)) (sym (its.1 is)) own_then)
              by false is = subst Goal (sym is) (later d its.0)

    -- what it counts it counts on a map that has a table
    shards_so : (f : Effect) → CallFinds terms moments m f c → (of : ℕ) → many_of of m ≡ 0 → (shard : ℕ) → shards_by (Some c) f m.shards of shard ≡ 0
    shards_so (effect.Counted s) finds of none shard =
        let other : of ≢ c.map = (λ e. (let some = subst (λ (q : ℕ). 0 < many_of q m) (sym e) (its_table finds.0) in absurd (omega (arith, some, none)))) in
        ap (λ (g : ℕ → ℕ). g shard) (put_elsewhere c.map (put s (word_with c (m.shards c.map s)) (m.shards c.map)) m.shards of other) ∙ has.maps of none shard
    shards_so f finds of none shard = has.maps of none shard

    by_call : (f : Effect) → CallFinds terms moments m f c → TablelessUncounted (with_effect (Some own) acted f m)
    by_call f finds = record {
      maps = λ of none shard. subst (λ (o : Option (UnderWay K V)). shards_by o f m.shards of shard ≡ 0) (sym found) (shards_so f finds of (still_none f finds of none) shard);
      calls = each_then f finds;
    }

  pub one_uncounted : (caller : Option (List ℕ)) → ActsOn caller acted m → (f : Effect) → Finds terms caller acted everything moments m f → TablelessUncounted (with_effect caller acted f m)
  one_uncounted None on f finds = by_none f
  one_uncounted (Some own) on f finds = by (call_of own m) refl finds
    where
      by : (d : Option (UnderWay K V)) → call_of own m ≡ d → ByCall (λ (c : UnderWay K V). (only_looks c.call ≡ false) × CallFinds terms moments m f c) d → TablelessUncounted (with_effect (Some own) acted f m)
      by None found none = absurd none
      by (Some c) found all = by_call own on c found f all.1

-- All effects of an event.

all_uncounted : {K V : Type 0} (terms : Terms) (caller : Option (List ℕ)) (acted : Option ℕ) (everything : Bool) (moments : List (Moment K V)) (effects : List Effect) (m : Moment K V)
    → AtEachEffect (λ v f. Finds terms caller acted everything moments v f × StoresOne caller v f) caller acted effects m → ActsOn caller acted m → AllIsInOrder m → TablelessUncounted m
    → TablelessUncounted (with_effects caller acted effects m)
all_uncounted terms caller acted everything moments [] m finds on h has = has
all_uncounted terms caller acted everything moments (f ∷ effects) m finds on h has =
    all_uncounted terms caller acted everything moments effects (with_effect caller acted f m) finds.1 (acts_still caller acted m f on) (in_order terms everything moments caller acted m h on f finds.0.0 finds.0.1)
    (one_uncounted terms everything moments acted m h has caller on f finds.0.0)

-- Where an event begins a call, or makes a map.

module _ {K V : Type 0} (m : Moment K V) (has : TablelessUncounted m) where
  call_begun : (own guard : List ℕ) (call : Call K V) (number : Option ℕ) → TablelessUncounted (with_call own guard call number m)
  call_begun own guard call None = has
  call_begun own guard call (Some number) = record { maps = has.maps; calls = (λ some. absurd (omega (arith, some)), has.calls) }

  begun_uncounted : (its : Event K V) (came : Outcome V) → TablelessUncounted (begun its came m)
  begun_uncounted (event.MakeMap name mode capacity) outcome.Done = record { maps = has.maps; calls = has.calls }
  begun_uncounted (event.Begin caller guard name call) outcome.Goes = call_begun caller guard call (number_of name m)
  begun_uncounted (event.OneCall guard name call) came = by (is_busy came)
    where
      by : (q : Bool) → TablelessUncounted (if q then m else with_call nameless guard call (number_of name m) m)
      by true = has
      by false = call_begun nameless guard call (number_of name m)
  begun_uncounted _ _ = has

-- Once an event is over.

module _ {K V : Type 0} (w : Moment K V) where
  changed_have : (own : List ℕ) (change : UnderWay K V → UnderWay K V) → ((c : UnderWay K V) → HasTable w c → HasTable w (change c)) → (calls : List (UnderWay K V)) → AllByRecursion (HasTable w) calls
      → AllByRecursion (HasTable w) (map (λ c. if is_same c.caller own then change c else c) calls)
  changed_have own change same calls all =
      all_under (λ (c : UnderWay K V). if is_same c.caller own then change c else c) (HasTable w) (HasTable w) (λ c its. by c its (is_same c.caller own)) calls all
    where
      by : (c : UnderWay K V) → HasTable w c → (q : Bool) → HasTable w (if q then change c else c)
      by c its true = same c its
      by c its false = its

  fewer_have : (own : List ℕ) (calls : List (UnderWay K V)) → AllByRecursion (HasTable w) calls → AllByRecursion (HasTable w) (without_call own calls)
  fewer_have own calls all =
      all_so (λ c. HasTable w c × (not (is_same c.caller own) ≡ true)) (HasTable w) (λ c its. its.0) (without_call own calls) (all_kept (HasTable w) (λ c. not (is_same c.caller own)) calls all)

  asks_have : (question : Option ℕ) (c : UnderWay K V) (stands : CallState) → HasTable w c → HasTable w (asks_on question c stands)
  asks_have question c (Asking q) its = its
  asks_have question c Going its = its
  asks_have question c Told its = its
  asks_have question c IsReady its = its

  comes_have : (came : Outcome V) (c : UnderWay K V) → HasTable w c → HasTable w (with_outcome came c)
  comes_have (outcome.Asks question) c its = asks_have question c c.stands its
  comes_have _ c its = its

  told_have : (reply : Reply V) (c : UnderWay K V) (stands : CallState) → HasTable w c → HasTable w (replied reply c stands)
  told_have reply c (Asking q) its = its
  told_have reply c _ its = its

  stepped_have : (caller : Option (List ℕ)) (came : Outcome V) (steps : ℕ) (calls : List (UnderWay K V)) → AllByRecursion (HasTable w) calls → AllByRecursion (HasTable w) (stepped caller came steps calls)
  stepped_have None came steps calls all = all
  stepped_have (Some own) came steps calls all = by (ends_call came)
    where
      by : (q : Bool) → AllByRecursion (HasTable w) (if q then without_call own calls else map (λ c. if is_same c.caller own then with_outcome came (record c { steps = c.steps + steps }) else c) calls)
      by true = fewer_have own calls all
      by false = changed_have own (λ c. with_outcome came (record c { steps = c.steps + steps })) (λ c its. comes_have came (record c { steps = c.steps + steps }) its) calls all

  over_have : (its : Event K V) (came : Outcome V) (steps : ℕ) (calls : List (UnderWay K V)) → AllByRecursion (HasTable w) calls → AllByRecursion (HasTable w) (calls_on its came steps calls)
  over_have (event.Replied caller reply) outcome.Goes steps calls all = changed_have caller (λ c. replied reply c c.stands) (λ c its. told_have reply c c.stands its) calls all
  over_have (event.Stop caller) outcome.Done steps calls all = fewer_have caller calls all
  over_have its came steps calls all = stepped_have (caller_of its) came steps calls all

pub events_keep_tableless : (K V : Type 0) → EventsPreserveTableless K V
events_keep_tableless K V terms log e goes h has = record { maps = then_worked.maps; calls = over_have (worked e m) e.event e.outcome e.steps (worked e m).calls then_worked.calls }
  where
    m : Moment K V
    m = moment log

    b : Moment K V
    b = begun e.event e.outcome m

    then_worked : TablelessUncounted (worked e m)
    then_worked =
        all_uncounted terms (caller_of e.event) (acted_on e.event b) (gives_all e.event) (moments_of terms log (acting (caller_of e.event) b)) e.effects b
        (both_at (Finds terms (caller_of e.event) (acted_on e.event b) (gives_all e.event) (moments_of terms log (acting (caller_of e.event) b))) (StoresOne (caller_of e.event)) (caller_of e.event) (acted_on e.event b) e.effects b
        goes.life.finds goes.stores) (acts e.event b) (all_begun terms log e e.event e.outcome goes.right h.0) (begun_uncounted m has e.event e.outcome)
