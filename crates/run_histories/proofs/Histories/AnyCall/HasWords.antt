-- Whatever a call on one key comes to by a step has words; and so has what any call asks.
use Rattle.std.specs.Prelude.{◌≡◌, ℕ, ◌<◌, Bool, true, false, List, Option, Some, None, ◌⊎◌}
use Rattle.std.specs.Int.{IsPowerOfTwo}
use Rattle.std.proofs.Common.{refl, ap, sym, subst, ◌∙◌, inl, inr}
use Rattle.run_places.specs.Given.SeizeWordsMem.{Mem}
use Rattle.run_places.specs.Given.SeizeWorld.{World, with_at, IsInside}
use Rattle.run_places.specs.Given.TablesDeclared.node.Node.{Node}
use Rattle.run_places.specs.Given.ReservesDeclared.sweep.Sweeping.{Sweeping}
use Rattle.run_places.specs.Given.ReservesDeclared.sweep.Sweeping.TheVariants as sweeping
use Rattle.run_places.specs.Given.RawProgress.{of_called}
use Rattle.run_places.specs.Given.RawDeclared.machines.answer.Called.{Called}
use Rattle.run_places.specs.Given.RawDeclared.machines.answer.Called.TheVariants as called
use Rattle.run_places.specs.Given.RawDeclared.machines.answer.KeyAnswer.{KeyAnswer}
use Rattle.run_places.specs.Given.RawDeclared.machines.answer.KeyAnswer.TheVariants as answers
use Rattle.run_places.specs.Given.RawDeclared.machines.asking.Asking.TheVariants as asking
use Rattle.run_places.specs.Given.RawDeclared.machines.call.Calling.TheVariants as at
use Rattle.run_places.specs.Given.RawDeclared.machines.machine.Machine.{Machine}
use Rattle.run_places.specs.Given.RawDeclared.machines.machine.Machine.TheVariants as kinds
use Rattle.run_places.specs.Given.RawDeclared.machines.progress.Answer.TheVariants.{Key}
use Rattle.run_places.specs.Given.RawDeclared.machines.progress.Progress.{Progress}
use Rattle.run_places.specs.Given.RawDeclared.machines.progress.Progress.TheVariants as progress
use Rattle.run_places.specs.Given.RunsDeclared.call.Response.{Response}
use Rattle.run_places.specs.Given.RunsDeclared.call.Call.{Call}
use Rattle.run_places.specs.Given.RunsDeclared.call.Call.TheVariants.{On}
use Rattle.run_places.specs.Given.RunsDeclared.call.OneKey.{OneKey}
use Rattle.run_places.specs.Given.RunsDeclared.call.Reply.{Reply}
use Rattle.run_places.specs.Given.RunsDeclared.effect.Effect.{Effect}
use Rattle.run_places.specs.Given.RunsDeclared.outcome.Outcome.{Outcome}
use Rattle.run_places.specs.Given.RunsDeclared.outcome.Outcome.TheVariants as outcome
use Rattle.run_places.specs.Given.SchedulesMoment.{UnderWay as CallThere, Moment}
use Rattle.run_places.specs.Given.SchedulesSequential.{Answers, Puts, Takes, means}
use Rattle.run_places.specs.Given.SchedulesViews.{call_of, reply_to}
use Rattle.run_places.specs.Given.RuleChart.{Phase, Still, Holds, Chart}
use Rattle.run_places.specs.Given.RuleWords.{Blocks, place_word}
use Rattle.run_places.specs.Given.PointsFactsCalls.{Change, Stored, Replaced, Removed, AnswersChange}
use Rattle.run_places.specs.Given.PointsSteps.{AreLawful}
use Rattle.run_places.specs.Given.LateFactsSweeps.{SweepingFacts}
use Rattle.run_places.specs.Given.LateKinds.{Fits}
use Rattle.run_places.specs.Given.LateToldSweeps.{IsRowOfSweep}
use Rattle.run_places.specs.Given.CallersOverAll.{CallOverAll}
use Rattle.run_places.specs.Given.CallersPairs.{Given, Begun, IsTold, kind_of, LeavesGiven}
use Rattle.run_places.specs.Given.CallersSights.{seen_by}
use Rattle.run_places.specs.Given.CallersSince.{SoSince}
use Rattle.run_places.specs.Given.CallersTogether.{CallOnKey, UnderWay, OnKey, ForRoom, Counting, OverAll, Together, AsksAbout, AnswersOnce, change_observed, in_slot}
use Rattle.run_places.proofs.Given.CallersTogether.At.{at_same}
use Rattle.run_places.proofs.Given.CallersTogether.Replies.{replies_stand_together}
use Rattle.run_places.specs.Given.FinishesMachines.{machine_of}
use Rattle.run_places.specs.Given.FinishesMaps.{Standing}
use Rattle.run_places.specs.Given.EffectsEffects.{effects_of, known_after}
use Rattle.run_places.specs.Given.EffectsKnown.{Known}
use Rattle.run_places.specs.Given.EffectsDeclared.acting.Acting.TheVariants as acts
use Rattle.run_places.specs.Given.EffectsDeclared.role.Role.TheVariants as role
use Rattle.run_places.specs.Given.FollowsShows.{Refines}
use Rattle.run_places.proofs.Given.FollowsSteps.{WentTo, LeadsThere, DidSo}
use Rattle.run_places.specs.Hands.Asked.{given_by, IsAskedOn, IsAskedAs}
use Rattle.run_places.proofs.Hands.Replacing.{calls_after}
use Rattle.run_places.proofs.Hands.Steps.{numbers_apart}
use Rattle.run_places.specs.Moments.Whole.{RefinesWhole}
use Rattle.run_histories.specs.Histories.Answers.{NamesPair, IsAnsweredAs, IsAnsweredDone}
use Rattle.run_histories.specs.Histories.Asking.{IsQuestionAsked}
use Rattle.run_histories.specs.Histories.Due.{HasPendingAnswer, RefinesPendingAnswers}
use Rattle.run_histories.specs.Histories.Events.{HasOutcome}
use Rattle.run_histories.specs.Histories.Words.{QuestionsHaveWords, StepsHaveWords}
use Rattle.run_histories.proofs.Histories.Answers.{ended}
use Rattle.run_histories.proofs.Histories.Asking.{goes_there}
use Rattle.run_histories.proofs.Histories.Due.{change_by, owes_then_by, was_there}
use Rattle.run_histories.proofs.Histories.NoKey.OtherEvents.{room_asks_none, counting_asks_none}
use Rattle.run_histories.proofs.Histories.Roles.{named_by, roles_before, roles_after}
use Rattle.run_histories.proofs.Histories.Several.{stands}
use Rattle.run_histories.proofs.Histories.Says.{AsksAt}
use Rattle.run_places.proofs.Changes.Steps.{to, led_on, v, after}
use Rattle.run_histories.proofs.Histories.NoKey.Sweeps.{SweepsOn, sweeps_on}
use Rattle.run_histories.proofs.Histories.AnyCall.Words.{LeavesIt, LeavesMissing, finds_it, misses_it, takes_any}
use Rattle.run_places.specs.Given.ScenesHeld.{Held, IsAt}
use Rattle.run_places.specs.Given.ScenesScene.{Scene, slot_of}
use Rattle.run_places.specs.Given.ScenesStepping.{StepLeads, StepsFrom, scene_after}
use Rattle.run_places.specs.Given.SchedulesTransition.{Past}

-- In a scene, what a call asks about is a pair of the run.
module _ {K V : Type 0} (same : K → K → Bool) (hash : ℕ → K → ℕ) (name : ℕ → List ℕ) (m : Moment K V) (known : Known) (s : Scene K V) (e : Held K V) (at_e : IsAt same hash e s)
    (shown : Refines same name m known s) (map i : ℕ) (x : UnderWay K V K) (here : s.calls map i ≡ Some x) where
  abbrev there : Standing K
  there = (stands same hash s e at_e map i x here).0

  there_is : s.maps map ≡ Some there
  there_is = (stands same hash s e at_e map i x here).1

  each : Together V same there.hash same there.setting slot_of s.world there.chart there.blocks there.sights (s.calls map)
  each = at_e.together.makings.standing.each map there there_is

  lawful : AreLawful same there.hash × IsPowerOfTwo there.setting.initial × (there.setting.batch_size ≡ e.batch_size)
  lawful = at_e.together.makings.standing.fit map there there_is

  abbrev seen : Blocks
  seen = seen_by there.blocks (there.sights (slot_of i))

  abbrev Named : ℕ → Type 0
  Named word = (q : ℕ) × NamesPair known word q

  names : IsInside (s.world.uses (slot_of i)) → (word n : ℕ) (borrowed : Bool) → n < there.chart.stored → seen.pair_known n ≡ true → word ≡ place_word there.hash there.chart seen (Holds n Still borrowed) → Named word
  names inside word n borrowed l known_too is = (
    shown.number map n,
    ap known.roles (named_by same there.hash lawful.0 there.chart seen word n Still borrowed is)
        ∙ (shown.maps map there there_is).pairs.roles n l ((each.ground.sight (slot_of i) inside).0.pairs n l known_too),
  )

  pub key_names : (u : CallOnKey K V K) → x ≡ OnKey u → (word : ℕ) → u.call.stands ≡ at.Asks (asking.Present word) → Named word
  key_names u is word stands_at = by about.0 about.1
    where
      about : (q : Option ℕ) × AsksAbout V same there.hash same there.setting slot_of there.chart seen (asking.Present word) q
      about = (replies_stand_together same there.hash same there.setting slot_of lawful.0 lawful.1 s.world there.chart there.blocks there.sights (s.calls map) each i u (here ∙ ap Some is) (asking.Present word) stands_at).0

      by : (q : Option ℕ) → AsksAbout V same there.hash same there.setting slot_of there.chart seen (asking.Present word) q → Named word
      by None asks = absurd asks
      by (Some n) (l, known_too, borrowed, word_is) = names (each.inside i (OnKey u) (here ∙ ap Some is)) word n borrowed l known_too word_is

  pub sweep_names : (o : CallOverAll) → x ≡ OverAll o → (word : ℕ) → o.sweep.stands ≡ sweeping.Asks word → Named word
  sweep_names o is word stands_at = elim (each.stand i (OverAll o) (here ∙ ap Some is)) as (λ _. Named word) [
    | inl k ↦ by (subst (λ (z : Sweeping). SweepingFacts same there.hash s.world i (in_slot there.setting (slot_of i)) there.chart seen o.began o.sweep z) stands_at k.1.facts.point)
    | inr k ↦ absurd (subst IsRowOfSweep stands_at k.1)
  ]
    where
      by : SweepingFacts same there.hash s.world i (in_slot there.setting (slot_of i)) there.chart seen o.began o.sweep (sweeping.Asks word) → Named word
      by (retains, (n, borrowed, l, known_too, word_is), t, place) = names (each.inside i (OverAll o) (here ∙ ap Some is)) word n borrowed l known_too word_is

module _ {K V : Type 0} (same : K → K → Bool) (hash : ℕ → K → ℕ) (name : ℕ → List ℕ) (m : Moment K V) (known : Known) (s : Scene K V) (old new : Held K V) (at_old : IsAt same hash old s)
    (whole : RefinesWhole same name m known s) (shown : Refines same name m known s) (map i : ℕ) (u : UnderWay K V K) (here : s.calls map i ≡ Some u) (about : Option ℕ)
    (leads : StepLeads same hash i (progress.Asks about) s old new) where
  abbrev asks : Progress (Node K V)
  asks = progress.Asks about

  abbrev known_then : Known
  known_then = after same hash name m known s old new at_old whole shown map i u here asks leads

  abbrev s2 : Scene K V
  s2 = scene_after same s old new map i (leads map u here).0 u (leads map u here).1 asks (leads map u here).4

  abbrev Question : Type 0
  Question = (question : Option ℕ) × IsQuestionAsked known_then about question

  next : UnderWay K V K
  next = (leads map u here).4.goes_on.0

  next_here : s2.calls map i ≡ Some next
  unfolding next
  next_here = ap (λ (f : ℕ → Option (UnderWay K V K)). f i) (at_same s.calls map (with_at (s.calls map) i (leads map u here).4.next) map refl)
      ∙ at_same (s.calls map) i (leads map u here).4.next i refl ∙ (leads map u here).4.goes_on.1

  next_machine : machine_of next ≡ (leads map u here).1
  unfolding next
  next_machine = (leads map u here).4.goes_on.2

  abbrev on : LeadsThere same hash name m known s old new at_old shown map i u here asks leads
  on = led_on same hash name m known s old new at_old whole shown map i u here asks leads

  of_word : (word : ℕ) → about ≡ Some word → (q : ℕ) × NamesPair known_then word q → Question
  of_word word is named = (Some named.0, subst (λ (z : Option ℕ). IsQuestionAsked known_then z (Some named.0)) (sym is) named.1)

  by_key : (x : CallOnKey K V K) → StepsFrom same (leads map u here).0.hash (kinds.Key x.call) old new (leads map u here).1 asks → Question
  by_key x steps = by about refl
    where
      it : (y : CallOnKey K V K) × (next ≡ OnKey y) × AsksAt about y.call.stands
      it = goes_there same (leads map u here).0.hash old new x (leads map u here).1 asks steps about refl next next_machine

      by : (z : Option ℕ) → about ≡ z → Question
      by None is = (None, subst (λ (y : Option ℕ). IsQuestionAsked known_then y None) (sym is) tt)
      by (Some word) is = of_word word is
          (key_names same hash name (v same hash name m known s old new at_old whole shown map i u here asks leads) known_then s2 new (leads map u here).5 on.shows map i next next_here it.0 it.1 word
          (subst (λ (y : Option ℕ). AsksAt y it.0.call.stands) is it.2))

  by_sweep : (o : CallOverAll) → StepsFrom same (leads map u here).0.hash (kinds.Sweep o.sweep) old new (leads map u here).1 asks → Question
  by_sweep o steps = by next refl (subst (λ (z : Machine K V K). SweepsOn o.sweep.purpose (z, asks)) (sym next_machine) (sweeps_on same (leads map u here).0.hash old new o.sweep (leads map u here).1 asks steps))
    where
      by : (x : UnderWay K V K) → next ≡ x → SweepsOn o.sweep.purpose (machine_of x, asks) → Question
      by (OverAll q) is so = of_word so.1.0 so.1.1
          (sweep_names same hash name (v same hash name m known s old new at_old whole shown map i u here asks leads) known_then s2 new (leads map u here).5 on.shows map i next next_here q is so.1.0 so.1.2)
      by (OnKey x) is so = absurd so
      by (ForRoom r) is so = absurd so
      by (Counting sum) is so = absurd so

  has_question : (x : UnderWay K V K) → StepsFrom same (leads map u here).0.hash (machine_of x) old new (leads map u here).1 asks → DidSo same hash name m known s old new at_old shown map i u here asks leads x → Question
  has_question (OnKey x) steps did = by_key x steps
  has_question (ForRoom r) steps (p2, end, machine_is, told_is, did) = absurd (room_asks_none end about (sym told_is))
  has_question (Counting sum) steps (sum2, end, machine_is, told_is, still, stayed) = absurd (counting_asks_none end about (sym told_is))
  has_question (OverAll o) steps did = by_sweep o steps

  pub question_of : Question
  question_of = has_question u (leads map u here).3 (leads map u here).4.did

module _ {K V : Type 0} (same : K → K → Bool) (hash : ℕ → K → ℕ) (name : ℕ → List ℕ) (log : Past K V) (m : Moment K V) (known : Known) (s : Scene K V) (old new : Held K V)
    (at_old : IsAt same hash old s) (whole : RefinesWhole same name m known s) (dues : RefinesPendingAnswers same name log m known s) (map i : ℕ) (z : CallOnKey K V K) (here : s.calls map i ≡ Some (OnKey z))
    (c : CallThere K V) (c_is : call_of (name i) m ≡ Some c) (one : OneKey K V) (one_is : c.call ≡ On one) (answer : KeyAnswer) (leads : StepLeads same hash i (progress.Done (Key answer)) s old new) where
  abbrev said : Progress (Node K V)
  said = progress.Done (Key answer)

  abbrev its_shown : Refines same name m known s
  its_shown = dues.history.shown

  abbrev went : WentTo same hash name m known s old new at_old its_shown map i (OnKey z) here said leads
  went = to same hash name m known s old new at_old whole its_shown map i (OnKey z) here said leads

  abbrev st : Standing K
  st = went.0

  abbrev led : LeadsThere same hash name m known s old new at_old its_shown map i (OnKey z) here said leads
  led = led_on same hash name m known s old new at_old whole its_shown map i (OnKey z) here said leads

  abbrev number : ℕ → ℕ
  number = its_shown.number map

  abbrev number2 : ℕ → ℕ
  number2 = led.shows.number map

  abbrev noted : Known
  noted = after same hash name m known s old new at_old whole its_shown map i (OnKey z) here said leads

  abbrev st2 : Standing K
  st2 = record st { chart = went.4.its_map.0; blocks = went.4.its_map.1; sights = went.4.its_map.2 }

  abbrev v2 : Moment K V
  v2 = v same hash name m known s old new at_old whole its_shown map i (OnKey z) here said leads

  asked : IsAskedOn number st.chart.stored known z one c
  asked = subst (λ (y : Call K V). IsAskedAs number st.chart.stored known z y c) one_is (dues.history.asked.each map i (OnKey z) here st went.2 c c_is)

  apart : (n o : ℕ) → n < st.chart.stored → o < st.chart.stored → number n ≡ number o → n ≡ o
  apart = numbers_apart map number st m known (its_shown.maps map st went.2).pairs

  abbrev effects : List Effect
  effects = effects_of (acts.Call i map) known new.changed

  -- the call after the step
  abbrev d : CallThere K V
  d = (calls_after (name i) map (name i) effects m c c_is).0

  d_is : call_of (name i) v2 ≡ Some d
  d_is = (calls_after (name i) map (name i) effects m c c_is).1

  replies_are : d.replies ≡ c.replies
  replies_are = (was_there same hash name log m known s old new at_old whole dues map i (OnKey z) here said leads i c d c_is d_is).1

  abbrev Words : Type 0
  Words = (a : Response V) × (IsAnsweredAs noted one c.replies answer a ⊎ IsAnsweredDone noted one c.replies answer a)

  module _ (c2 : Chart K) (looks : Blocks) (roles : (n : ℕ) → n < c2.stored → looks.pair_known n ≡ true → noted.roles (looks.pair n) ≡ role.Pair (number2 n)) where
    name_it : (word n : ℕ) (phase : Phase) (borrowed : Bool) → n < c2.stored → looks.pair_known n ≡ true → word ≡ place_word st.hash c2 looks (Holds n phase borrowed) → NamesPair noted word (number2 n)
    name_it word n phase borrowed l known_too is = ap noted.roles (named_by same st.hash (at_old.together.makings.standing.fit map st went.2).0 c2 looks word n phase borrowed is) ∙ roles n l known_too

    -- where it tells a change it tells what it means by that
    done_by : (w : World (Node K V)) (change : Change) (an : KeyAnswer) → AnswersChange same st.hash same w i (in_slot st.setting (slot_of i)) c2 looks z.keys change change an → HasPendingAnswer number2 st2.chart.stored one d change
        → (a : Response V) × IsAnsweredDone noted one c.replies an a
    done_by w (Stored n) (answers.Stored word) (there, word_is) (l, a, value, meaning, due) = (
      a,
      (
        number2 n,
        name_it word n Still false there.0 there.1 word_is,
        value,
        subst (λ (r : List (Option ℕ × Reply V)). means one (reply_to None r) None (number2 n) ≡ Answers a (Puts value)) replies_are meaning,
      ),
    )
    done_by w (Replaced o n) (answers.Replaced before then_there) (old_there, new_there, borrowed, old_is, new_is) (l, l2, a, value, meaning, due) = (
      a,
      (
        number2 o,
        number2 n,
        name_it before o Still borrowed old_there.0 old_there.1 old_is,
        name_it then_there n Still false new_there.0 new_there.1 new_is,
        value,
        subst (λ (r : List (Option ℕ × Reply V)). means one (reply_to (Some (number2 o)) r) (Some (number2 o)) (number2 n) ≡ Answers a (Puts value)) replies_are meaning,
      ),
    )
    done_by w (Removed o) (answers.Removed word) (there, borrowed, word_is) (l, a, fresh, meaning, due) = (
      a,
      (
        number2 o,
        name_it word o Still borrowed there.0 there.1 word_is,
        λ next. takes_any (number2 o) fresh next a one (reply_to (Some (number2 o)) c.replies)
            (subst (λ (r : List (Option ℕ × Reply V)). means one (reply_to (Some (number2 o)) r) (Some (number2 o)) fresh ≡ Answers a Takes) replies_are meaning),
      ),
    )
    done_by w _ _ tells owes = absurd tells

    -- what it was told to leave so
    leaves_it : (memory : Mem (Node K V)) (word n : ℕ) (phase : Phase) (borrowed : Bool) → n < c2.stored → looks.pair_known n ≡ true → word ≡ place_word st.hash c2 looks (Holds n phase borrowed)
        → (given : Given K V) → LeavesGiven st.hash memory c2 looks given (answers.Found word) → LeavesIt n given
    leaves_it memory word n phase borrowed l known_too is (Begun kind pair) leaves = tt
    leaves_it memory word n phase borrowed l known_too is (IsTold kind its told) leaves = leaves n (l, known_too) phase borrowed is

    leaves_missing : (memory : Mem (Node K V)) (given : Given K V) → LeavesGiven st.hash memory c2 looks given answers.Absent → LeavesMissing given
    leaves_missing memory (Begun kind pair) leaves = tt
    leaves_missing memory (IsTold kind its told) leaves = leaves

    abbrev FitsIt : Given K V → KeyAnswer → Type 0
    FitsIt given an = Fits (kind_of given).present (kind_of given).absent (kind_of given).takes an

    told_by : (memory : Mem (Node K V)) (an : KeyAnswer) → SoSince st.hash c2 looks z.keys z.began an → FitsIt (given_by one asked.asked) an
        → LeavesGiven st.hash memory c2 looks (given_by one asked.asked) an → (a : Response V) × IsAnsweredAs noted one c.replies an a
    told_by memory (answers.Found word) (time, from, until, (n, had, known_too, phase, borrowed, word_is)) fits leaves =
        let it = finds_it number st.chart.stored apart asked.asked c.replies asked.replies n (number2 n) (λ l. sym (led.numbers map st went.2 n l)) one fits
        (leaves_it memory word n phase borrowed had.0 known_too word_is (given_by one asked.asked) leaves) in
        (it.0, (number2 n, name_it word n phase borrowed had.0 known_too word_is, it.1))
    told_by memory answers.Absent so fits leaves =
        let it = misses_it number st.chart.stored apart asked.asked c.replies asked.replies one fits (leaves_missing memory (given_by one asked.asked) leaves) in (it.0, it.1)
    told_by memory (answers.Stored word) (time, from, until, never) fits leaves = absurd never
    told_by memory (answers.Replaced before then_there) (time, from, until, never) fits leaves = absurd never
    told_by memory (answers.Removed word) (time, from, until, never) fits leaves = absurd never

    words_by : (w : World (Node K V)) (change : Change) → AnswersOnce V same st.hash same st.setting slot_of w c2 looks i z change answer → HasPendingAnswer number2 st2.chart.stored one d change → Words
    words_by w change (fits, inl (none, so, leaves)) owes =
        let it = told_by w.memory answer so (subst (λ (g : Given K V). FitsIt g answer) asked.given fits) (subst (λ (g : Given K V). LeavesGiven st.hash w.memory c2 looks g answer) asked.given leaves) in
        (it.0, inl it.1)
    words_by w change (fits, inr (changed, tells, stores)) owes = let it = done_by w change answer tells owes in (it.0, inr it.1)

  by : (did : DidSo same hash name m known s old new at_old its_shown map i (OnKey z) here said leads (OnKey z))
      → HasPendingAnswer number2 st2.chart.stored one d (change_by same hash name log m known s old new at_old whole dues map i z here said leads c c_is one one_is st2 went.4.its_map.4 d d_is did) → Words
  by (p2, end, machine_is, told_is, inl (step, moved)) owes =
      words_by step.step.went.c2 step.step.went.blocks2 (roles_after same hash name m known s old new at_old whole its_shown map i z here said leads p2 end step moved.1) step.step.went.w2
      (change_observed V same st.hash same st.setting slot_of step.step.went.told) (step.step.answers answer (ended end answer told_is)) owes
  by (p2, end, machine_is, told_is, inr (row, stayed)) owes =
      words_by st.chart (seen_by st.blocks (st.sights (slot_of i))) (roles_before same hash name m known s old new at_old whole its_shown map i z here said leads) row.step.w2
      z.change (row.step.answers answer (ended end answer told_is)) owes

  pub answer_words : Words
  answer_words = by went.4.did (owes_then_by same hash name log m known s old new at_old whole dues map i z here said leads c c_is one one_is st2 went.4.its_map.4 d d_is)

module _ {K V : Type 0} where
  -- it is what a call on one key may say
  abbrev IsOfKey : Progress (Node K V) → Type 0
  IsOfKey progress.Ready = ⊥
  IsOfKey (progress.Pair word) = ⊥
  IsOfKey (progress.Done (Key answer)) = Unit {0}
  IsOfKey (progress.Done _) = ⊥
  IsOfKey _ = Unit {0}

  of_key : (end : Called (Node K V)) → IsOfKey (of_called end)
  of_key called.Goes = tt
  of_key called.Waits = tt
  of_key (called.Gave value) = tt
  of_key (called.Unstored value) = tt
  of_key (called.Asks about) = tt
  of_key (called.Done answer) = tt
  of_key (called.Refused fault) = tt

module _ (K V : Type 0) (same : K → K → Bool) (hash : ℕ → K → ℕ) where
  pub questions_have_words : QuestionsHaveWords K V same hash
  questions_have_words name m known s old new at_old whole map i u here about leads = question_of same hash name m known s old new at_old whole whole.all.shown map i u here about leads

  pub steps_have_words : StepsHaveWords K V same hash
  steps_have_words name log m known s old new at_old whole dues map i u here said leads c c_is one one_is =
      by said leads (let did = (leads map (OnKey u) here).4.did in subst (λ (x : Progress (Node K V)). IsOfKey x) (sym did.3) (of_key did.1))
    where
      by : (x : Progress (Node K V)) → StepLeads same hash i x s old new → IsOfKey x → (o : Outcome V) × HasOutcome (known_after (acts.Call i map) new.changed known) one c.replies x o
      by progress.Goes to_it is = (outcome.Goes, tt)
      by progress.Waits to_it is = (outcome.Waits, tt)
      by (progress.Gave value) to_it is = (outcome.Goes, tt)
      by (progress.Unstored value) to_it is = (outcome.Goes, tt)
      by (progress.Refused fault) to_it is = (outcome.Refused fault, refl)
      by (progress.Asks about) to_it is =
          let it = question_of same hash name m known s old new at_old whole whole.all.shown map i (OnKey u) here about to_it in (outcome.Asks it.0, it.1)
      by (progress.Done (Key answer)) to_it is =
          let it = answer_words same hash name log m known s old new at_old whole dues map i u here c c_is one one_is answer to_it in (outcome.Answered it.0, it.1)
      by _ to_it is = absurd is
