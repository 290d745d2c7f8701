-- A walk shows pairs that were in the map at a moment of it, and none twice.
use Rattle.std.specs.Prelude.{◌≡◌, ℕ, ◌<◌, ◌≤◌, Bool, true, false, cond, eqb, List, ◌∷◌, map, Option, Some}
use Rattle.std.proofs.Common.{refl, ap, sym, subst, ◌∙◌, arith, inl, inr}
use Rattle.std.proofs.lemmas.Bool.{eq-eqb}
use Rattle.run_finds.specs.Given.SeizeWorld.{World, with_at}
use Rattle.run_finds.specs.Given.TablesDeclared.node.Node.{Node}
use Rattle.run_finds.specs.Given.ReservesDeclared.sweep.Sweep.{Sweep}
use Rattle.run_finds.specs.Given.ReservesDeclared.sweep.Sweeping.TheVariants as sweeping
use Rattle.run_finds.specs.Given.ReservesDeclared.sweep.Swept.{Swept}
use Rattle.run_finds.specs.Given.ReservesDeclared.sweep.Swept.TheVariants as swept
use Rattle.run_finds.specs.Given.RawDeclared.machines.progress.Answer.{Answer}
use Rattle.run_finds.specs.Given.RawDeclared.machines.progress.Answer.TheVariants as answers
use Rattle.run_finds.specs.Given.RawDeclared.machines.progress.Progress.TheVariants as progress
use Rattle.run_finds.specs.Given.RunsDeclared.call.Call.{Call}
use Rattle.run_finds.specs.Given.RunsDeclared.call.Call.TheVariants as call
use Rattle.run_finds.specs.Given.RunsDeclared.outcome.Outcome.TheVariants.{Shows as ShowsOne}
use Rattle.run_finds.specs.Given.SchedulesLists.{OneOf, is_among}
use Rattle.run_finds.specs.Given.SchedulesMoment.{UnderWay as CallThere, Moment}
use Rattle.run_finds.specs.Given.SchedulesSweeps.{MayShow}
use Rattle.run_finds.specs.Given.SchedulesViews.{call_of, is_in_map}
use Rattle.run_finds.specs.Given.RuleChart.{Chart}
use Rattle.run_finds.specs.Given.RuleWords.{Blocks}
use Rattle.run_finds.specs.Given.LateCovers.{times, AreShown, CoversAt}
use Rattle.run_finds.specs.Given.LateCoversSweeps.{Adds, DoneAt}
use Rattle.run_finds.specs.Given.LateToldSweeps.{IsRowOfSweep, OutcomeAgrees}
use Rattle.run_finds.specs.Given.CallersOverAll.{CallOverAll, come_to}
use Rattle.run_finds.specs.Given.CallersTogether.{UnderWay, OnKey, ForRoom, Counting, OverAll, IsAtPoint, next_over_all}
use Rattle.run_finds.proofs.Given.CallersTogether.At.{at_same}
use Rattle.run_finds.specs.Given.EffectsKnown.{Known}
use Rattle.run_finds.specs.Given.FinishesMaps.{Standing}
use Rattle.run_finds.specs.Given.FinishesSweeps.{SweepStepsWithEndings}
use Rattle.run_finds.specs.Given.HistoriesAnswers.{NamesPair}
use Rattle.run_finds.specs.Given.ChangesHistories.{since}
use Rattle.run_finds.proofs.Given.ChangesLogs.{each_of, now_there}
use Rattle.run_finds.specs.Given.MomentsWhole.{RefinesWhole}
use Rattle.run_sweeps.specs.Purposes.Kept.{NoneCame, PairsChangeFirst}
use Rattle.run_finds.specs.Purposes.Purposes.{IsFor, PairsWithin, ShowsDone, HasSwept, RefinesPurposes}
use Rattle.run_sweeps.specs.Purposes.Swept.{EndsWithOutcome, WalksShow}
use Rattle.run_sweeps.proofs.Purposes.Done.{maps_kept}
use Rattle.run_sweeps.proofs.Purposes.Lists.{all_on, none_among}
use Rattle.run_sweeps.proofs.Purposes.Named.{number_told, stands_then, stands_is}
use Rattle.run_sweeps.proofs.Purposes.Steps.{went, on, v2, known2, scene2, Did, before_then, its_before, had, own_within}
use Rattle.run_sweeps.proofs.Purposes.Swept.{then_call, then_is, still, on_map, swept_by}
use Rattle.run_sweeps.proofs.Purposes.Told.{numbers_apart}
use Rattle.run_sweeps.proofs.Purposes.Pairs.{pair_swept}
use Rattle.run_sweeps.proofs.Purposes.Walks.{adds_one}
use Rattle.run_finds.specs.Given.ScenesHeld.{Held, IsAt}
use Rattle.run_finds.specs.Given.ScenesScene.{Scene, slot_of}
use Rattle.run_finds.specs.Given.ScenesStepping.{StepLeads}
use Rattle.run_finds.specs.Given.SchedulesTransition.{Past}

-- a sweep that is ready has shown each pair that it has done once
module _ {K : Type 0} (hash : K → ℕ) (c : Chart K) (blocks : Blocks) (p : Sweep) (entered : ℕ) (done : List ℕ) where
  ready_shown : CoversAt hash c blocks p entered done sweeping.Ready → AreShown c entered done
  ready_shown (inl at_end) = at_end.1.shown
  ready_shown (inr goes) = goes.1.shown

module _ {K : Type 0} (V : Type 0) (same : K → K → Bool) (st : Standing K) (i : ℕ) (o : CallOverAll) (ready : o.sweep.stands ≡ sweeping.Ready) where
  stands_shown : {w : World (Node K V)} {seen : Blocks} → IsAtPoint V same st.hash same st.setting slot_of w st.chart seen i (OverAll o) → AreShown st.chart o.entered o.done
  stands_shown {w} {seen} (inl k) = ready_shown st.hash st.chart seen o.sweep o.entered o.done (subst (CoversAt st.hash st.chart seen o.sweep o.entered o.done) ready k.1.covers)
  stands_shown {w} {seen} (inr k) = absurd (subst IsRowOfSweep ready k.1)

module _ {K V : Type 0} (same : K → K → Bool) (hash : ℕ → K → ℕ) (name : ℕ → List ℕ) (log : Past K V) (m : Moment K V) (known : Known) (s : Scene K V) (old new : Held K V)
    (at : IsAt same hash old s) (whole : RefinesWhole same name m known s) (purposes : RefinesPurposes same name log m known s) (of i : ℕ) (u : UnderWay K V K) (here : s.calls of i ≡ Some u)
    (word : ℕ) (leads : StepLeads same hash i (progress.Pair word) s old new) (c : CallThere K V) (c_is : call_of (name i) m ≡ Some c)
    (changes : PairsChangeFirst log m of (v2 same hash name log m known s old new at whole purposes of i u here (progress.Pair word) leads))
    (came : NoneCame log (v2 same hash name log m known s old new at whole purposes of i u here (progress.Pair word) leads) of) (q : ℕ)
    (names : NamesPair (known2 same hash name log m known s old new at whole purposes of i u here (progress.Pair word) leads) word q) where
  abbrev v : Moment K V
  v = v2 same hash name log m known s old new at whole purposes of i u here (progress.Pair word) leads

  abbrev d : CallThere K V
  d = then_call same hash name log m known s old new at whole purposes of i u here (progress.Pair word) leads c c_is

  d_is : call_of (name i) v ≡ Some d
  d_is = then_is same hash name log m known s old new at whole purposes of i u here (progress.Pair word) leads c c_is

  d_map : d.map ≡ of
  d_map = on_map same hash name log m known s old new at whole purposes of i u here (progress.Pair word) leads c c_is

  abbrev number2 : ℕ → ℕ
  number2 = (on same hash name log m known s old new at whole purposes of i u here (progress.Pair word) leads).shows.number of

  module _ (o : CallOverAll) (o_is : s.calls of i ≡ Some (OverAll o)) (walks : IsFor {K = K} {V = V} (OverAll o) call.Walk) (is_walk : c.call ≡ call.Walk) (p2 : Sweep) (end : Swept (Node K V)) (is : end ≡ swept.Pair word)
      (step : SweepStepsWithEndings V same same old.batch_size old.roots slot_of s.world s.maps s.calls s.makers s.enders of
      (went same hash name log m known s old new at whole purposes of i u here (progress.Pair word) leads).0 i o new.memory p2 end)
      (moved : (went same hash name log m known s old new at whole purposes of i u here (progress.Pair word) leads).4.maps2 ≡ with_at s.maps of
      (Some (record (went same hash name log m known s old new at whole purposes of i u here (progress.Pair word) leads).0 { chart = step.step.went.c2; blocks = step.step.blocks2; sights = step.step.sights2 })))
      (next : (went same hash name log m known s old new at whole purposes of i u here (progress.Pair word) leads).4.next ≡ next_over_all (come_to o step.step.entered2 step.step.done2 p2) end) where
    abbrev its : Standing K
    its = (went same hash name log m known s old new at whole purposes of i u here (progress.Pair word) leads).0

    abbrev o2 : CallOverAll
    o2 = come_to o step.step.entered2 step.step.done2 p2

    abbrev st2 : Standing K
    st2 = stands_then same hash name log m known s old new at whole purposes of i u here (progress.Pair word) leads o p2 end step moved

    there2 : (scene2 same hash name log m known s old new at whole purposes of i u here (progress.Pair word) leads).maps of ≡ Some st2
    there2 = stands_is same hash name log m known s old new at whole purposes of i u here (progress.Pair word) leads o p2 end step moved

    tells : OutcomeAgrees {T = Node K V} o.sweep.stands p2.stands (swept.Pair word)
    tells = subst (OutcomeAgrees o.sweep.stands p2.stands) is step.step.went.told.stands.tells

    one : (step.step.entered2 ≡ o.entered) × Adds its.hash step.step.went.c2 step.step.went.blocks2 o.done step.step.done2 word
    one = adds_one its.hash step.step.went.c2 step.step.went.blocks2 o.done step.step.done2 o.entered step.step.entered2 word (Node K V) o.sweep.stands p2.stands tells
        (subst (λ (x : Swept (Node K V)). DoneAt its.hash step.step.went.c2 step.step.went.blocks2 o.done step.step.done2 o.entered step.step.entered2 x o.sweep.stands) is step.step.done)

    abbrev p : ℕ
    p = one.1.0

    goes_on : (went same hash name log m known s old new at whole purposes of i u here (progress.Pair word) leads).4.next ≡ Some (OverAll o2)
    goes_on = next ∙ ap (λ (x : Swept (Node K V)). next_over_all {K = K} {V = V} {Q = K} o2 x) is

    here2 : (scene2 same hash name log m known s old new at whole purposes of i u here (progress.Pair word) leads).calls of i ≡ Some (OverAll o2)
    here2 =
        ap (λ (f : ℕ → Option (UnderWay K V K)). f i)
        (at_same s.calls of (with_at (s.calls of) i (went same hash name log m known s old new at whole purposes of i u here (progress.Pair word) leads).4.next) of refl)
        ∙ at_same (s.calls of) i (went same hash name log m known s old new at whole purposes of i u here (progress.Pair word) leads).4.next i refl ∙ goes_on

    -- so each pair was shown once
    are_shown : AreShown st2.chart step.step.entered2 step.step.done2
    are_shown =
        stands_shown V same st2 i o2 tells.1
        (((went same hash name log m known s old new at whole purposes of i u here (progress.Pair word) leads).5.together.makings.standing.each of st2 there2).stand i (OverAll o2) here2)

    self : ◌≡◌ {A = ℕ} (cond (eqb p p) 1 0) 1
    self = ap (λ x. cond x 1 0) (eq-eqb p p refl)

    among : 0 < times p step.step.done2
    among = subst (λ (x : List ℕ). 0 < times p x) (sym one.1.2) (let e = self in omega (arith, e))

    fresh : times p o.done ≡ 0
    fresh = let few = subst (λ (x : List ℕ). times p x ≤ 1) one.1.2 (are_shown.1 p) in let e = self in omega (arith, few, e)

    q_is : q ≡ number2 p
    q_is = number_told same hash name log m known s old new at whole purposes of i u here (progress.Pair word) leads o p2 end step moved word p q one.1.1 names

    within : PairsWithin of st2 number2 (since log v d) o.began
    within = own_within same hash name log m known s old new at whole purposes of i u here (progress.Pair word) leads changes o o_is st2 there2 c d c_is d_is

    abbrev There : Moment K V → Type 0
    There x = is_in_map d.map (x.place q) ≡ true

    was_there : OneOf There (log.since d.begun)
    was_there = by was.3 (within.within was.0 p (let f = step.step.from in let a = was.1 in omega (arith, f, a)) was.2 one.1.1.0)
      where
        was : (time : ℕ) × (step.step.entered2 ≤ time) × (time ≤ st2.chart.now) × (st2.chart.was time p ≡ true)
        was = are_shown.0 p among

        so : (x : Moment K V) → is_in_map of (x.place (number2 p)) ≡ true → There x
        so x h = ap (λ (z : ℕ). is_in_map z (x.place q)) d_map ∙ ap (λ (z : ℕ). is_in_map of (x.place z)) q_is ∙ h

        begun : d.begun ≤ log.entries
        begun = subst (λ (z : ℕ). z ≤ log.entries) (sym (still same hash name log m known s old new at whole purposes of i u here (progress.Pair word) leads c c_is).begun)
            (purposes.begun of i (OverAll o) o_is c c_is)

        by : st2.chart.was was.0 p ≡ true → OneOf (λ (x : Moment K V). is_in_map of (x.place (number2 p)) ≡ st2.chart.was was.0 p) (v ∷ log.since d.begun) → OneOf There (log.since d.begun)
        by w (inl now) = now_there log purposes.past There d.begun begun (so log.now (came (number2 p) (now ∙ w)))
        by w (inr before) =
            each_of (λ (x : Moment K V). is_in_map of (x.place (number2 p)) ≡ st2.chart.was was.0 p) There (log.since d.begun) (λ x h. so x (h ∙ w)) before

    abbrev before : HasSwept same of (its_before same hash name log m known s old new at whole purposes of i u here (progress.Pair word) leads changes o o_is st2 there2 c d c_is d_is)
        (purposes.shown.number of) (since log m c) o c
    before = had same hash name log m known s old new at whole purposes of i u here (progress.Pair word) leads changes o o_is st2 there2 c d c_is d_is

    not_shown : is_among q d.shown ≡ false
    not_shown =
        let stays = still same hash name log m known s old new at whole purposes of i u here (progress.Pair word) leads c c_is in
        let b = before_then same hash name log m known s old new at whole purposes of i u here (progress.Pair word) leads of st2 there2 in
        let numbers = (on same hash name log m known s old new at whole purposes of i u here (progress.Pair word) leads).numbers of b.0 b.1 in
        let done_is : d.shown ≡ map number2 o.done =
        stays.shown ∙ subst (λ (x : Call K V). ShowsDone x (purposes.shown.number of) o.done c) is_walk before.tells ∙ sym (maps_kept (purposes.shown.number of) number2 b.0.chart.stored numbers c d stays o.done before.stored) in
        let pairs = ((on same hash name log m known s old new at whole purposes of i u here (progress.Pair word) leads).shows.maps of st2 there2).pairs in
        ap (λ (x : ℕ). is_among x d.shown) q_is ∙ ap (is_among (number2 p)) done_is
        ∙ none_among number2 p o.done
        (all_on (λ n. n < b.0.chart.stored) (λ n. number2 n ≡ number2 p → n ≡ p)
        (λ n l. numbers_apart number2 st2.chart.stored pairs.rising n p (let g = b.2.stored in omega (arith, l, g)) one.1.1.0) o.done before.stored) fresh

    pub may_show : MayShow d (log.since d.begun) q
    may_show = (was_there, not_shown)

  pub walk_shows : c.call ≡ call.Walk → (y : UnderWay K V K) → s.calls of i ≡ Some y → IsFor y call.Walk
      → Did same hash name log m known s old new at whole purposes of i u here (progress.Pair word) leads y → MayShow d (log.since d.begun) q
  walk_shows is_walk (OnKey z) y_is is did = absurd is
  walk_shows is_walk (ForRoom r) y_is is did = absurd is
  walk_shows is_walk (Counting sum) y_is is did = absurd is
  walk_shows is_walk (OverAll o) y_is is (p2, end, machine_is, told_is, inl (step, moved)) = may_show o y_is is is_walk p2 end (pair_swept word end (sym told_is)) step moved.1 moved.2
  walk_shows is_walk (OverAll o) y_is is (p2, end, machine_is, told_is, inr (row, stayed)) =
      absurd (let silent = row.step.silent in let pair = pair_swept word end (sym told_is) in cc (silent, pair))

-- no answer shows a pair
none_answered : (K V : Type 0) (known : Known) (n : ℕ) (answer : Answer) → EndsWithOutcome {K = K} {V = V} known (progress.Done answer) (ShowsOne n) → ⊥
none_answered K V known n (answers.Key answer) comes = comes
none_answered K V known n answers.Reserved comes = comes
none_answered K V known n answers.Swept comes = comes
none_answered K V known n (answers.Count count) comes = comes

pub walks_show : (K V : Type 0) (same : K → K → Bool) (hash : ℕ → K → ℕ) → WalksShow K V same hash
walks_show K V same hash n name log m known s old new at whole purposes of i u here (progress.Pair word) leads c c_is is_walk asks names terms mask t caller worked_is outcome =
    let stays = still same hash name log m known s old new at whole purposes of i u here (progress.Pair word) leads c c_is in
    swept_by same terms log t (name i) (v2 same hash name log m known s old new at whole purposes of i u here (progress.Pair word) leads)
    (then_call same hash name log m known s old new at whole purposes of i u here (progress.Pair word) leads c c_is) caller worked_is
    (then_is same hash name log m known s old new at whole purposes of i u here (progress.Pair word) leads c c_is) call.Walk (stays.call ∙ is_walk) (ShowsOne n) outcome
    (walk_shows same hash name log m known s old new at whole purposes of i u here word leads c c_is asks.0 asks.1 n names is_walk u here
    (subst (λ (x : Call K V). IsFor u x) is_walk (purposes.is_for of i u here c c_is)) (went same hash name log m known s old new at whole purposes of i u here (progress.Pair word) leads).4.did)
walks_show K V same hash n name log m known s old new at whole purposes of i u here (progress.Done answer) leads c c_is is_walk asks comes terms mask t caller worked_is outcome =
    absurd (none_answered K V (known2 same hash name log m known s old new at whole purposes of i u here (progress.Done answer) leads) n answer comes)
walks_show K V same hash n name log m known s old new at whole purposes of i u here _ leads c c_is is_walk asks comes terms mask t caller worked_is outcome = absurd comes
