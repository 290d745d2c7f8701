-- What a moment shows of calls is so on between the steps of events, and where calls begin and go on.
use Rattle.std.specs.Prelude.{◌≡◌, ℕ, Bool, true, false, List, [], ◌∷◌, Option, Some, None}
use Rattle.std.proofs.Common.{refl, ap, sym, subst, ◌∙◌, inl, inr}
use Rattle.run_grows.specs.Given.SeizeWordsDeclared.fault.Fault.TheVariants.{Memory}
use Rattle.run_grows.specs.Given.SweepsSweepPoints.{after_next}
use Rattle.run_grows.specs.Given.ReservesDeclared.sweep.Sweeping.TheVariants as sweeping
use Rattle.run_grows.specs.Given.RawDeclared.machines.machine.Machine.{Machine}
use Rattle.run_grows.specs.Given.PointsFactsCalls.{Unchanged}
use Rattle.run_grows.specs.Given.RunsDeclared.effect.Thing.TheVariants.{APair}
use Rattle.run_grows.specs.Given.SchedulesBeginning.{with_call}
use Rattle.run_grows.specs.Given.RunsDeclared.outcome.Outcome.TheVariants.{Refused}
use Rattle.run_grows.specs.Given.SchedulesMoment.{UnderWay as CallThere, CallState, Asking, Moment}
use Rattle.run_grows.specs.Given.SchedulesViews.{call_of}
use Rattle.run_grows.specs.Given.CallersOverAll.{CallOverAll, gone_on}
use Rattle.run_grows.specs.Given.CallersRooms.{CallForRoom}
use Rattle.run_grows.specs.Given.CallersTogether.{UnderWay, CallOnKey, OnKey, ForRoom, Counting, OverAll}
use Rattle.run_grows.specs.Given.EffectsKnown.{Known}
use Rattle.run_grows.specs.Given.FinishesMachines.{machine_of}
use Rattle.run_grows.specs.Given.FinishesMaps.{Standing, with_call as with_call_of}
use Rattle.run_grows.specs.Given.FollowsCalling.{NoneNamed, told}
use Rattle.run_grows.specs.Given.FollowsShows.{Refines}
use Rattle.run_grows.specs.Given.FollowsCalls.{IsCalled, RefinesCalls as IsThere}
use Rattle.run_grows.specs.Given.HandsAsked.{reply_to_machine}
use Rattle.run_grows.specs.Given.OthersElsewhere.{HasSame}
use Rattle.run_grows.specs.Given.OthersWalks.{given_up}
use Rattle.run_grows.proofs.Given.HandsAsking.{which}
use Rattle.run_grows.specs.Given.MomentsNumbers.{NumbersMaps, PairsAreBelow}
use Rattle.run_grows.proofs.Given.MomentsCalls.{calls_begin_whole, calls_take_whole}
use Rattle.run_grows.proofs.Given.MomentsWalks.{walks_go_on_whole, walks_stop_whole}
use Rattle.run_grows.specs.Given.HistoriesAsCalled.{IsAsCalled, IsSweptAs, SweepAsks}
use Rattle.run_grows.specs.Given.HistoriesAsking.{IsQuestionAsked}
use Rattle.run_grows.specs.Given.ChangesHistories.{RefinesHistory, began_of}
use Rattle.run_grows.proofs.Given.HistoriesAnyCall.Whole.{all_stays_shown}
use Rattle.run_grows.proofs.Given.HistoriesAside.Stays.{as_called_stays, dues_stay}
use Rattle.run_grows.proofs.Given.HistoriesDueOn.{calls_begin_due, calls_take_due, events_keep_due}
use Rattle.run_grows.proofs.Given.HistoriesNoKey.AsCalledOn.{calls_begin_as_called, calls_take_as_called}
use Rattle.run_grows.proofs.Given.HistoriesQuestions.{calls_begin_questions, calls_come_to_questions, calls_take_questions}
use Rattle.run_grows.specs.Given.HistoriesQuestions.{AsksStill, AllHaveAskedJust}
use Rattle.run_grows.specs.Given.SettlesHand.{RefinesObligations, in_hand}
use Rattle.run_grows.proofs.Given.SettlesHand.Asked.{asked_stays, told_stays}
use Rattle.run_grows.proofs.Given.FindsGrows.Between.{calls_begin_growing, calls_take_growing, walks_go_on_growing}
use Rattle.run_grows.proofs.Waits.Between.{calls_begin_waits}
use Rattle.run_grows.specs.Given.KeptKept.{RefinesKept}
use Rattle.run_grows.proofs.Given.KeptBetween.{calls_begin_kept, calls_take_kept, uncounted_at_first, walks_go_on_kept, walks_stop_kept}
use Rattle.run_grows.proofs.Given.KeptRenamed.{asked, renamed, shows}
use Rattle.run_grows.proofs.Given.KeptStays.{renamed_kept, stays_kept}
use Rattle.run_sweeps.specs.Purposes.Kept.{AsksAboutIt}
use Rattle.run_sweeps.proofs.Purposes.Between.{calls_begin_purposes, events_keep_purposes}
use Rattle.run_sweeps.proofs.Purposes.Elsewhere.{purposes_stay}
use Rattle.run_sweeps.proofs.Purposes.Told.{calls_take_purposes}
use Rattle.run_grows.specs.Given.ShardsAdds.{adds_of}
use Rattle.run_grows.specs.Given.ShardsShardWords.{RefinesCounters}
use Rattle.run_grows.proofs.Given.ShardsShardBetween.{calls_begin_counters, calls_take_counters, counters_stay, fewer_add}
use Rattle.run_legal.specs.Between.{CallsBegin, CallsTake, LikesShow, LogsGrow, NamesChange, WalksContinue, WalksStop}
use Rattle.run_legal.specs.Carried.{NoneCounted, RefinesAllCalls}
use Rattle.run_grows.specs.Grows.Finding.{RefinesFinding}
use Rattle.run_grows.specs.Sources.Sources.{RefinesSources}
use Rattle.run_legal.proofs.Sourced.{sources_so}
use Rattle.run_grows.proofs.Grows.Finding.Alike.{finding_fewer, stood_as}
use Rattle.run_grows.proofs.Grows.Limits.Shows.{calls_begin_limits, calls_take_limits, limits_grow, walks_go_on_limits, walks_stop_limits}
use Rattle.run_grows.proofs.Grows.Tries.Shows.{calls_begin_tries, calls_take_tries, tries_grow, walks_go_on_tries, walks_stop_tries}
use Rattle.run_grows.proofs.Grows.Finding.Nexts.{calls_begin_nexts, calls_take_nexts, nexts_grow, walks_go_on_nexts, walks_stop_nexts}
use Rattle.run_grows.proofs.Grows.Finding.Making.Between.{calls_begin_further, calls_take_further, walks_go_on_further}
use Rattle.run_grows.proofs.Grows.Finding.Between.{asked_same, fewer_calls, none_at_first, puts_begun, puts_on, replied_same, waits_on}
use Rattle.run_grows.specs.Given.ScenesBeginning.{Begins}
use Rattle.run_grows.specs.Given.ScenesReplying.{scene_with, unless_stopped}
use Rattle.run_grows.specs.Given.ScenesScene.{HasCall, Scene}
use Rattle.run_grows.proofs.Given.General.{same_some as one_of}
use Rattle.run_sweeps.proofs.Quiet.Saying.{about_pair}
use Rattle.run_sweeps.proofs.Quiet.Sweeps.{adds_next}

pub likes_show : (K V : Type 0) (same : K → K → Bool) → LikesShow K V same
likes_show K V same name log m v known s all like = subst (λ (x : Moment K V). RefinesAllCalls same name log x known s) (sym like) (record {
  whole = all_stays_shown K V same name m known s all.whole v.events v.is_mapped v.is_closed v.is_alone v.there v.slots v.sheltered v.remains;
  numbers = (record { found = all.numbers.0.found; below = all.numbers.0.below; tables = all.numbers.0.tables }, all.numbers.1);
  kept = stays_kept K V name m other known s s all.kept refl refl refl refl refl refl refl refl refl;
  finding = record { growing = all.finding.growing; further = all.finding.further; capacities = all.finding.capacities; waits = all.finding.waits; puts = all.finding.puts };
  sources = sources_so K V same name m other known known s s all.sources (all_stays_shown K V same name m known s all.whole v.events v.is_mapped v.is_closed v.is_alone v.there v.slots v.sheltered v.remains).all.shown refl refl refl
      (λ n st is. is);
  nexts = all.nexts;
  limits = all.limits;
  tries = all.tries;
  counters = counters_stay K V name m other s s all.counters refl refl refl refl refl (λ of j x is removed adds. (x, is, adds));
  uncounted = all.uncounted;
  dues = (dues_stay K V same (λ n k. 0) name log).alike m other known s all.dues alike;
  as_called = (as_called_stays K V same (λ n k. 0) name).alike m other known s all.as_called alike;
  questions = all.questions;
  purposes = (purposes_stay K V same (λ n k. 0) name log).alike m other known s all.purposes alike;
})
  where
    other : Moment K V
    other = record m {
      events = v.events;
      is_mapped = v.is_mapped;
      is_closed = v.is_closed;
      is_alone = v.is_alone;
      there = v.there;
      slots = v.slots;
      sheltered = v.sheltered;
      remains = v.remains;
    }

    alike : HasSame m other
    alike = record { place = refl; born = refl; stored = refl; maps = refl; tables = refl; calls = refl }

pub logs_grow : (K V : Type 0) (same : K → K → Bool) → LogsGrow K V same
logs_grow K V same name log m known s all counted = record {
  whole = all.whole;
  numbers = all.numbers;
  kept = all.kept;
  finding = all.finding;
  sources = all.sources;
  nexts = nexts_grow name log m m s all.purposes.begun all.nexts;
  limits = limits_grow name log m m s all.purposes.begun all.limits;
  tries = tries_grow name log m m s all.purposes.begun all.tries;
  counters = all.counters;
  uncounted = all.uncounted;
  dues = events_keep_due K V same name log m known s all.dues counted;
  as_called = all.as_called;
  questions = all.questions;
  purposes = events_keep_purposes K V same name log m known s all.purposes counted;
}

-- a call by another name is that by its name
pub named_as : {K V : Type 0} (name name2 : ℕ → List ℕ) (m : Moment K V) (s : Scene K V) → ((i : ℕ) → HasCall s i → name2 i ≡ name i)
    → (map i : ℕ) (u : UnderWay K V K) → s.calls map i ≡ Some u → (c : CallThere K V) → call_of (name2 i) m ≡ Some c → call_of (name i) m ≡ Some c
named_as name name2 m s agree map i u is c c_is = ap (λ (own : List ℕ). call_of own m) (sym (agree i (map, u, is))) ∙ c_is

pub names_change : (K V : Type 0) (same : K → K → Bool) → NamesChange K V same
names_change K V same name name2 log m known s agree all = record {
  whole = renamed same name name2 m known s agree all.whole;
  numbers = all.numbers;
  kept = renamed_kept K V name name2 m known s agree all.kept;
  finding = record {
    growing = all.finding.growing;
    further = all.finding.further;
    capacities = all.finding.capacities;
    waits = λ map i u is word some c c_is k owed. all.finding.waits map i u is word some c (as_named map i u is c c_is) k owed;
    puts = all.finding.puts;
  };
  sources = record { shown = shows same name name2 m known s agree all.sources.shown; numbered = all.sources.numbered; came = all.sources.came; left = all.sources.left };
  nexts = λ map i u is c c_is. all.nexts map i u is c (as_named map i u is c c_is);
  limits = λ map i u is c c_is. all.limits map i u is c (as_named map i u is c c_is);
  tries = λ map i u is c c_is. all.tries map i u is c (as_named map i u is c c_is);
  counters = record {
    shards = all.counters.shards;
    makes = all.counters.makes;
    adds = λ of i u is removed adds c c_is. all.counters.adds of i u is removed adds c (as_named of i u is c c_is);
  };
  uncounted = all.uncounted;
  dues = record {
    history = history;
    owes = λ map i u is standing there c c_is. all.dues.owes map i u is standing there c (as_named map i (OnKey u) is c c_is);
    taken = λ map i u is c c_is. all.dues.taken map i u is c (as_named map i u is c c_is);
  };
  as_called = record {
    shown = shows same name name2 m known s agree all.as_called.shown;
    each = λ map i u is standing there c c_is. all.as_called.each map i u is standing there c (as_named map i u is c c_is);
  };
  questions = all.questions;
  purposes = record {
    past = all.purposes.past;
    lasts = all.purposes.lasts;
    shown = shows same name name2 m known s agree all.purposes.shown;
    begun = λ of i u is c c_is. all.purposes.begun of i u is c (as_named of i u is c c_is);
    is_for = λ of i u is c c_is. all.purposes.is_for of i u is c (as_named of i u is c c_is);
    come = λ of i u is standing there c c_is. all.purposes.come of i u is standing there c (as_named of i u is c c_is);
  };
}
  where
    as_named : (map i : ℕ) (u : UnderWay K V K) → s.calls map i ≡ Some u → (c : CallThere K V) → call_of (name2 i) m ≡ Some c → call_of (name i) m ≡ Some c
    as_named map i u is c c_is = named_as name name2 m s agree map i u is c c_is

    history : RefinesHistory same name2 log m known s
    history = record {
      past = all.dues.history.past;
      shown = shows same name name2 m known s agree all.dues.history.shown;
      asked = asked same name name2 m known s agree all.dues.history.shown.number all.dues.history.asked;
      begun = λ map i u is c c_is. all.dues.history.begun map i u is c (as_named map i u is c c_is);
      within = λ map i u is standing there c c_is. all.dues.history.within map i u is standing there c (as_named map i u is c c_is);
    }

-- A call begins now, and has changed nothing.

module _ {K V : Type 0} (same : K → K → Bool) (standing : Standing K) (i : ℕ) where
  began_now : (u : UnderWay K V K) → Begins same standing i u → (began : ℕ) → began_of u ≡ Some began → began ≡ standing.chart.now
  began_now (OnKey u) begins began is = let now : u.began ≡ standing.chart.now = ap (λ (x : CallOnKey K V K). x.began) begins.1 in let its : u.began ≡ began = cc is in sym its ∙ now
  began_now (ForRoom r) begins began is = let its : r.began ≡ began = cc is in sym its ∙ ap (λ (x : CallForRoom). x.began) begins.1
  began_now (Counting sum) begins began is = absurd (cc is)
  began_now (OverAll o) begins began is = let its : o.began ≡ began = cc is in sym its ∙ ap (λ (x : CallOverAll). x.began) begins.1

  unchanged : (u : UnderWay K V K) → Begins same standing i u → (x : CallOnKey K V K) → u ≡ OnKey x → x.change ≡ Unchanged
  unchanged (OnKey u) begins x is = let one : u ≡ x = cc is in ap (λ (y : CallOnKey K V K). y.change) (sym one) ∙ ap (λ (y : CallOnKey K V K). y.change) begins.1
  unchanged (ForRoom r) begins x is = absurd (cc is)
  unchanged (Counting sum) begins x is = absurd (cc is)
  unchanged (OverAll o) begins x is = absurd (cc is)

asks_about : {K V : Type 0} (known : Known) (u : UnderWay K V K) (question : Option ℕ) → ((o : CallOverAll) → u ≡ OverAll o → SweepAsks known o.sweep.stands question) → AsksAboutIt known u question
asks_about known u question asks o is word stands =
    let it = asks o is in
    let same_word : it.0 ≡ word = (let both : sweeping.Asks it.0 ≡ sweeping.Asks word = sym it.1 ∙ stands in cc both) in
    about_pair known word question (subst (λ (x : ℕ). IsQuestionAsked known (Some x) question) same_word it.2)

module _ {K V : Type 0} (name : ℕ → List ℕ) (m : Moment K V) (s : Scene K V) (map i : ℕ) (next : Option (UnderWay K V K)) where
  abbrev then_at : Scene K V
  then_at = record s { calls = with_call_of s.calls map i next }

  abbrev Had : ℕ → ℕ → ℕ → Type 0
  Had of j removed = (y : UnderWay K V K) × (s.calls of j ≡ Some y) × (adds_of (machine_of y) ≡ Some removed)

  on_counters : ((x : UnderWay K V K) → next ≡ Some x → (removed : ℕ) → adds_of (machine_of x) ≡ Some removed → Had map i removed) → RefinesCounters name m s → RefinesCounters name m then_at
  on_counters its counters = counters_stay K V name m m s then_at counters refl refl refl refl refl before
    where
      before : (of j : ℕ) (x : UnderWay K V K) → then_at.calls of j ≡ Some x → (removed : ℕ) → adds_of (machine_of x) ≡ Some removed → Had of j removed
      before of j x is removed adds = elim (which s.calls map i next of j x is) as (λ _. Had of j removed) [
        | inl own ↦ let had = its x own.2 removed adds in (had.0, ap (λ (k : ℕ). s.calls k j) own.0 ∙ ap (s.calls map) own.1 ∙ had.1, had.2)
        | inr was ↦ (x, was.1, adds)
      ]

-- where one is given up, all but its call is as it was
module _ {K V : Type 0} (own : List ℕ) (m : Moment K V) where
  given_numbers : (q : Bool) → NumbersMaps m × PairsAreBelow m → NumbersMaps (given_up own q m) × PairsAreBelow (given_up own q m)
  given_numbers true numbers = (record { found = numbers.0.found; below = numbers.0.below; tables = numbers.0.tables }, numbers.1)
  given_numbers false numbers = numbers

  given_uncounted : (q : Bool) → NoneCounted m → NoneCounted (given_up own q m)
  given_uncounted true none = none
  given_uncounted false none = none

  asks_still : (st : CallState) → AsksStill {V = V} st (Refused Memory)
  asks_still (Asking question) = λ goes. goes
  asks_still _ = tt

  given_questions : (q : Bool) → AllHaveAskedJust m → AllHaveAskedJust (given_up own q m)
  given_questions true questions = calls_come_to_questions K V own (Refused Memory) 0 m questions (λ c c_is. asks_still c.stands)
  given_questions false questions = questions

module _ (K V : Type 0) (same : K → K → Bool) (hash : ℕ → K → ℕ) where
  pub calls_begin : CallsBegin K V same hash
  calls_begin name log known s old new at all map i standing there u call guard begins right none rests at2 =
      let m = log.now in
      let v = with_call (name i) guard call (Some map) m in
      let then_at = scene_with map i u s in
      let whole = calls_begin_whole K V same name m known s all.whole map i u call guard none right.called right.given rests in
      record {
        whole = whole;
        numbers = (record { found = all.numbers.0.found; below = all.numbers.0.below; tables = all.numbers.0.tables }, all.numbers.1);
        kept = calls_begin_kept K V same hash name m known s old new at all.whole all.kept map i standing there u call guard begins right.called right.given none rests at2 whole.all.shown;
        finding = record {
          growing = calls_begin_growing K V same m s all.finding.growing standing map i u begins;
          further = calls_begin_further same m s all.finding.further standing map i u begins;
          capacities = all.finding.capacities;
          waits = calls_begin_waits K V name m s all.finding.waits map i u call guard none (none_at_first same standing i u begins).0;
          puts = puts_begun known s map i u (none_at_first same standing i u begins).1 all.finding.puts;
        };
        sources = sources_so K V same name m v known known s then_at all.sources whole.all.shown refl refl refl (λ n st is. is);
        nexts = calls_begin_nexts same name log m s all.nexts map i u guard call standing begins none;
        limits = calls_begin_limits same name log m s all.limits map i u guard call standing begins none;
        tries = calls_begin_tries same name log m s all.tries map i u guard call standing begins none;
        counters = calls_begin_counters K V name m s all.counters map i u call guard none (uncounted_at_first K V same standing i u begins);
        uncounted = all.uncounted;
        dues = calls_begin_due K V same hash name log m known s old at all.dues map i u call guard standing there (began_now same standing i u begins) (unchanged same standing i u begins) none right.called
            right.given all.purposes.past.counted;
        as_called = calls_begin_as_called K V same name m known s all.as_called map i u call guard none right.called right.swept;
        questions = calls_begin_questions K V (name i) guard call (Some map) m all.questions;
        purposes = calls_begin_purposes K V same hash name log m known s old at all.purposes map i u call guard standing there begins none right.called right.aim all.purposes.past.counted refl;
      }

  pub calls_take : CallsTake K V same hash
  calls_take name log m known s old new at all map i u here c c_is question asks standing there is_told next next_is takes told_kind taken at2 =
      let whole = calls_take_whole K V same hash name m known s old at all.whole map i u here c c_is question asks standing there is_told next next_is takes told_kind in
      let kept = calls_take_kept K V same hash name m known s old new at all.whole all.kept map i u here (reply_to_machine is_told) next next_is is_told at2 whole.all.shown in
      record {
        whole = whole;
        numbers = (record { found = all.numbers.0.found; below = all.numbers.0.below; tables = all.numbers.0.tables }, all.numbers.1);
        kept = kept;
        finding = record {
          growing = calls_take_growing K V m s all.finding.growing map i u here (reply_to_machine is_told) next next_is;
          further = calls_take_further m s all.finding.further map i u here next (reply_to_machine is_told) next_is;
          capacities = all.finding.capacities;
          waits = waits_on K V same name m (told (name i) is_told m) known s map i u here next all.whole.all.shown.calls all.kept.owed kept.owed stays goes (λ n j x is k waits held. held) all.finding.waits;
          puts = puts_on K V same name m (told (name i) is_told m) known s map i u here next all.whole.all.shown.calls all.kept.owed kept.owed stays goes all.finding.puts;
        };
        sources = sources_so K V same name m (told (name i) is_told m) known known s (scene_with map i next s) all.sources whole.all.shown refl refl refl (λ n st is. is);
        nexts = calls_take_nexts same name log m s all.nexts map i u here all.whole.all.shown.calls next is_told (reply_to_machine is_told) next_is;
        limits = calls_take_limits same name log m s all.limits map i u here all.whole.all.shown.calls next is_told (reply_to_machine is_told) next_is;
        tries = calls_take_tries same name log m s all.tries map i u here all.whole.all.shown.calls next is_told (reply_to_machine is_told) next_is;
        counters = calls_take_counters K V same name m known s all.whole all.counters map i u here (reply_to_machine is_told) next next_is is_told;
        uncounted = all.uncounted;
        dues = calls_take_due K V same hash name log m known s old at all.dues map i u here c c_is question asks standing there is_told next next_is takes told_kind taken;
        as_called = calls_take_as_called K V same hash name m known s old at all.whole all.as_called map i u here c c_is question asks standing there is_told next next_is takes told_kind;
        questions = calls_take_questions K V (name i) is_told m all.questions;
        purposes = calls_take_purposes K V same hash name log m known s old at all.whole all.purposes map i u here c c_is question asks (asks_about known u question about) standing there is_told next takes told_kind;
      }
    where
      stays : in_hand known (machine_of next) ≡ in_hand known (machine_of u)
      stays = ap (λ (z : Machine K V K). in_hand known z) next_is ∙ (told_stays known (machine_of u) (reply_to_machine is_told)).0

      goes : (n : ℕ) → in_hand known (machine_of u) ≡ APair n ∷ [] → machine_of next ≡ machine_of u
      goes n e = next_is ∙ replied_same known n (machine_of u) (reply_to_machine is_told) e

      about : (o : CallOverAll) → u ≡ OverAll o → SweepAsks known o.sweep.stands question
      about o is = (its o is).asks question asks
        where
          its : (o : CallOverAll) → u ≡ OverAll o → IsSweptAs (all.as_called.shown.number map) standing.chart.stored known o c
          its o is = subst (λ (x : UnderWay K V K). IsAsCalled (all.as_called.shown.number map) standing.chart.stored known x c) is (all.as_called.each map i u here standing there c c_is)

  pub walks_go_on : WalksContinue K V same hash
  walks_go_on name log m known s old new at all i leads map o here is = record {
    whole = walks_go_on_whole K V same hash name m known s old new all.whole i leads map (OverAll o) here;
    numbers = all.numbers;
    kept = kept;
    finding = record {
      growing = walks_go_on_growing K V m s all.finding.growing map i (OverAll o) here next (leads map (OverAll o) here).1;
      further = walks_go_on_further m s all.finding.further map i (OverAll o) here next (leads map (OverAll o) here).1;
      capacities = all.finding.capacities;
      waits = waits_on K V same name m m known s map i (OverAll o) here next all.whole.all.shown.calls all.kept.owed kept.owed stays goes (λ n j x there k waits held. held) all.finding.waits;
      puts = puts_on K V same name m m known s map i (OverAll o) here next all.whole.all.shown.calls all.kept.owed kept.owed stays goes all.finding.puts;
    };
    sources = sources_so K V same name m m known known s (scene_with map i next s) all.sources (walks_go_on_whole K V same hash name m known s old new all.whole i leads map (OverAll o) here).all.shown refl refl refl
        (λ n st is. is);
    nexts = walks_go_on_nexts same name log m s all.nexts map i (OverAll o) here all.whole.all.shown.calls next (leads map (OverAll o) here).1;
    limits = walks_go_on_limits same name log m s all.limits map i (OverAll o) here all.whole.all.shown.calls next (leads map (OverAll o) here).1;
    tries = walks_go_on_tries same name log m s all.tries map i (OverAll o) here all.whole.all.shown.calls next (leads map (OverAll o) here).1;
    counters = on_counters name m s map i (Some next) its all.counters;
    uncounted = all.uncounted;
    dues = (dues_stay K V same hash name log).walks m known s old new at all.whole all.dues i leads map o here is;
    as_called = (as_called_stays K V same hash name).walks m known s old new at all.whole all.as_called i leads map o here is;
    questions = all.questions;
    purposes = (purposes_stay K V same hash name log).walks m known s old new at all.whole all.purposes i leads map o here is;
  }
    where
      next : UnderWay K V K
      next = (leads map (OverAll o) here).0

      kept : RefinesKept name m known (scene_with map i next s)
      kept = walks_go_on_kept K V same hash name m known s old new all.whole all.kept i leads map (OverAll o) here

      stays : in_hand known (machine_of next) ≡ in_hand {K = K} {V = V} {Q = K} known (machine_of {K = K} {V = V} {Q = K} (OverAll o))
      stays = ap (λ (z : Machine K V K). in_hand known z) (leads map (OverAll o) here).1 ∙ (asked_stays known (machine_of {K = K} {V = V} {Q = K} (OverAll o))).0

      goes : (n : ℕ) → in_hand {K = K} {V = V} {Q = K} known (machine_of {K = K} {V = V} {Q = K} (OverAll o)) ≡ APair n ∷ [] → machine_of next ≡ machine_of (OverAll o)
      goes n e = (leads map (OverAll o) here).1 ∙ asked_same known n (machine_of {K = K} {V = V} {Q = K} (OverAll o)) e

      its : (x : UnderWay K V K) → ◌≡◌ {A = Option (UnderWay K V K)} (Some next) (Some x) → (removed : ℕ) → adds_of (machine_of x) ≡ Some removed → Had name m s map i (Some next) map i removed
      its x e removed adds =
          let x_is : x ≡ OverAll (gone_on o (after_next o.sweep)) = sym (one_of next x e) ∙ is in
          (OverAll o, here, adds_next o.sweep.stands o.sweep removed refl (ap (λ (y : UnderWay K V K). adds_of (machine_of y)) (sym x_is) ∙ adds))

  pub walks_stop : WalksStop K V same hash
  walks_stop name log m known s old new at all i stopped leads map u here none = record {
    whole = walks_stop_whole K V same hash name m known s old new all.whole i stopped leads map u here none;
    numbers = given_numbers (name i) m stopped all.numbers;
    kept = kept;
    finding = fewer_find stopped kept.owed;
    sources = given_sources stopped (walks_stop_whole K V same hash name m known s old new all.whole i stopped leads map u here none).all.shown;
    nexts = walks_stop_nexts same name log m s all.nexts map i u here all.whole.all.shown.calls u stopped none;
    limits = walks_stop_limits same name log m s all.limits map i u here all.whole.all.shown.calls u stopped none;
    tries = walks_stop_tries same name log m s all.tries map i u here all.whole.all.shown.calls u stopped none;
    counters = by stopped none;
    uncounted = given_uncounted (name i) m stopped all.uncounted;
    dues = (dues_stay K V same hash name log).walks_stop m known s old new at all.whole all.dues i stopped leads map u here none;
    as_called = (as_called_stays K V same hash name).walks_stop m known s old new at all.whole all.as_called i stopped leads map u here none;
    questions = given_questions (name i) m stopped all.questions;
    purposes = (purposes_stay K V same hash name log).walks_stop m known s old new at all.whole all.purposes i stopped leads map u here none;
  }
    where
      at_end : Bool → Scene K V
      at_end q = record s { calls = with_call_of s.calls map i (unless_stopped q u) }

      kept : RefinesKept name (given_up (name i) stopped m) known (at_end stopped)
      kept = walks_stop_kept K V same hash name m known s old new at all.whole all.kept i stopped leads map u here none

      fewer_find : (q : Bool) → RefinesObligations name (given_up (name i) q m) known (at_end q) → RefinesFinding name (given_up (name i) q m) known (at_end q)
      fewer_find true owed =
          finding_fewer K V same name m (given_up (name i) true m) known s (at_end true) all.whole.all.shown.calls all.kept.owed owed (fewer_calls s map i u here true) (stood_as s (at_end true) refl)
          refl refl refl refl refl refl all.finding
      fewer_find false owed =
          finding_fewer K V same name m (given_up (name i) false m) known s (at_end false) all.whole.all.shown.calls all.kept.owed owed (fewer_calls s map i u here false) (stood_as s (at_end false) refl)
          refl refl refl refl refl refl all.finding

      given_sources : (q : Bool) → Refines same name (given_up (name i) q m) known (at_end q) → RefinesSources same name (given_up (name i) q m) known (at_end q)
      given_sources true shown2 = sources_so K V same name m (given_up (name i) true m) known known s (at_end true) all.sources shown2 refl refl refl (λ n st is. is)
      given_sources false shown2 = sources_so K V same name m (given_up (name i) false m) known known s (at_end false) all.sources shown2 refl refl refl (λ n st is. is)

      fewer : IsThere same name m (at_end true).calls
      fewer n j x is = elim (which s.calls map i None n j x is) as (λ _. (c : CallThere K V) × (call_of (name j) m ≡ Some c) × (c.map ≡ n) × IsCalled same x c.call) [
        | inl own ↦ absurd (let gone = own.2 in cc gone)
        | inr was ↦ all.whole.all.shown.calls n j x was.1
      ]

      by : (q : Bool) → (q ≡ true → NoneNamed name (name i) (at_end q)) → RefinesCounters name (given_up (name i) q m) (at_end q)
      by true apart =
          let went = on_counters name m s map i None (λ x e removed adds. absurd (cc e)) all.counters in
          record { shards = went.shards; makes = went.makes; adds = fewer_add same name m (given_up (name i) true m) (at_end true) fewer went.adds (name i) (apart refl) refl }
      by false apart =
          on_counters name m s map i (Some u) (λ x e removed adds. (u, here, ap (λ (y : UnderWay K V K). adds_of (machine_of y)) (one_of u x e) ∙ adds)) all.counters
