-- A step that shows a pair of a walk, whose event has come to that.
use Rattle.std.specs.Prelude.{◌≡◌, ℕ, ◌<◌, ◌≤◌, Bool, true, false, List, ◌∷◌, map, Option, Some, if◌then◌else◌}
use Rattle.std.specs.List.{AllByRecursion}
use Rattle.std.proofs.Common.{refl, ap, sym, subst, ◌∙◌, inl, inr}
use Rattle.run_finds.specs.Given.SeizeWorld.{World}
use Rattle.run_finds.specs.Given.SeizeDeclared.advance.Advance.{Advance as Counted}
use Rattle.run_finds.specs.Given.SeizeDeclared.advance.Advance.TheVariants as counting
use Rattle.run_finds.specs.Given.TablesChunks.{is_incremental}
use Rattle.run_finds.specs.Given.TablesDeclared.node.Node.{Node}
use Rattle.run_finds.specs.Given.TablesDeclared.setting.Setting.{Setting}
use Rattle.run_finds.specs.Given.ResizeDeclared.yielding.Yielding.{Yielding}
use Rattle.run_finds.specs.Given.ResizeDeclared.yielding.Yielding.TheVariants as outcome
use Rattle.run_finds.specs.Given.ReservesDeclared.sweep.Purpose.TheVariants.{Walks}
use Rattle.run_finds.specs.Given.ReservesDeclared.sweep.Sweep.{Sweep}
use Rattle.run_finds.specs.Given.ReservesDeclared.sweep.Sweeping.{Sweeping}
use Rattle.run_finds.specs.Given.ReservesDeclared.sweep.Sweeping.TheVariants as sweeping
use Rattle.run_finds.specs.Given.ReservesDeclared.sweep.Swept.{Swept}
use Rattle.run_finds.specs.Given.ReservesDeclared.sweep.Swept.TheVariants as swept
use Rattle.run_finds.specs.Given.RawProgress.{of_outcome, of_counting}
use Rattle.run_finds.specs.Given.RawDeclared.machines.progress.Progress.TheVariants as progress
use Rattle.run_finds.specs.Given.RunsSame.{is_same}
use Rattle.run_finds.specs.Given.RunsDeclared.call.Call.{Call}
use Rattle.run_finds.specs.Given.RunsDeclared.call.Call.TheVariants as call
use Rattle.run_finds.specs.Given.RunsDeclared.outcome.Outcome.TheVariants.{Shows as ShowsOne}
use Rattle.run_finds.specs.Given.SchedulesMoment.{UnderWay as CallThere, Moment}
use Rattle.run_finds.specs.Given.SchedulesViews.{call_of}
use Rattle.run_finds.specs.Given.RuleChart.{Chart}
use Rattle.run_finds.specs.Given.RuleMaps.{spot_of}
use Rattle.run_finds.specs.Given.RuleWords.{Blocks}
use Rattle.run_finds.specs.Given.LateCovers.{NamesPair as LateNames}
use Rattle.run_finds.specs.Given.LateCoversSweeps.{Adds, DoneAt}
use Rattle.run_finds.specs.Given.LateFactsSweeps.{SweepingFacts}
use Rattle.run_finds.specs.Given.LateToldSweeps.{OutcomeAgrees, SweepAfter}
use Rattle.run_finds.proofs.Given.LateSwept.Covers.Kept.{names_on}
use Rattle.run_finds.proofs.Given.LateSwept.Covers.Shows.{names_one}
use Rattle.run_finds.specs.Given.CallersOverAll.{CallOverAll, come_to as came_to}
use Rattle.run_finds.specs.Given.CallersSights.{seen_by}
use Rattle.run_finds.specs.Given.CallersTogether.{UnderWay, OnKey, ForRoom, Counting, OverAll, in_slot}
use Rattle.run_finds.specs.Given.FinishesMachines.{machine_of}
use Rattle.run_finds.specs.Given.FinishesMaps.{Standing}
use Rattle.run_finds.specs.Given.EffectsKnown.{Known}
use Rattle.run_finds.specs.Given.FollowsCalling.{come_to}
use Rattle.run_finds.specs.Given.FollowsShows.{Refines}
use Rattle.run_finds.proofs.Given.FollowsCalled.{key_goes_on, sweep_goes_on}
use Rattle.run_finds.proofs.Given.FollowsCalling.{is_same_refl, come, come_of_same, come_with}
use Rattle.run_finds.proofs.Given.FollowsCalls.{found}
use Rattle.run_finds.proofs.Given.HandsCalling.{caller_is}
use Rattle.run_finds.specs.Given.HistoriesAnswers.{NamesPair}
use Rattle.run_finds.specs.Given.ChangesHistories.{since}
use Rattle.run_finds.specs.Given.ChangesKept.{ChangesFirst}
use Rattle.run_finds.proofs.Given.ChangesLater.{IsLater}
use Rattle.run_finds.specs.Given.MomentsWhole.{RefinesWhole}
use Rattle.run_finds.specs.Purposes.Keys.{KeysAt, AreKeyed}
use Rattle.run_sweeps.specs.Purposes.Kept.{PairsChangeFirst, WalksShowPurposes}
use Rattle.run_finds.specs.Purposes.Purposes.{IsFor, ShowsDone, KeysOf, HasSwept, HasCome, RefinesPurposes}
use Rattle.run_finds.specs.Given.NamedMachines.{IsBefore}
use Rattle.run_sweeps.proofs.Purposes.Done.{maps_kept}
use Rattle.run_sweeps.proofs.Purposes.Kept.{then_at, v, next, number2, Which, which_is, begun_then, for_then, other_come, lasts_then}
use Rattle.run_sweeps.proofs.Purposes.KeysMoved.{one_shown, carried, keyed_then, names_keyed}
use Rattle.run_sweeps.proofs.Purposes.KeysOn.{StandsLow}
use Rattle.run_sweeps.proofs.Purposes.Pairs.{pair_swept}
use Rattle.run_sweeps.proofs.Purposes.Named.{number_told, stands_then, stands_is}
use Rattle.run_sweeps.proofs.Purposes.Shown.{IsStill, same_still}
use Rattle.run_sweeps.proofs.Purposes.Steps.{went, on, known2, Did, same_call, before_then, its_before, had, own_within, below_then, classes_then}
use Rattle.run_sweeps.proofs.Purposes.Still.{within_still, classes_still, come_still}
use Rattle.run_finds.specs.Given.ScenesHeld.{Held, IsAt}
use Rattle.run_finds.specs.Given.ScenesScene.{Scene, slot_of}
use Rattle.run_finds.specs.Given.ScenesStepping.{StepLeads, StepsFrom}
use Rattle.run_finds.specs.Given.SchedulesTransition.{Past}
use Rattle.run_finds.proofs.Given.General.{cons_same as cons_both, same_some as one_of}

module _ {K : Type 0} (hash : K → ℕ) (c : Chart K) (blocks : Blocks) (done done2 : List ℕ) (entered entered2 word : ℕ) where
  -- one that shows a pair has read its word at a place of its table, and has done one pair more
  pub adds_one : (T : Type 0) (stands stands2 : Sweeping) → OutcomeAgrees {T = T} stands stands2 (swept.Pair word) → DoneAt hash c blocks done done2 {T = T} entered entered2 (swept.Pair word) stands
      → (entered2 ≡ entered) × Adds hash c blocks done done2 word
  adds_one T sweeping.Words stands2 tells is = is
  adds_one T (sweeping.Tries there) stands2 tells is = is
  adds_one T _ stands2 tells is = absurd tells.0

-- and is a walk, which is ready then
module _ {K V : Type 0} (same : K → K → Bool) (hash : K → ℕ) (caller : ℕ) (setting : Setting) (began : ℕ) (w : World (Node K V)) (c : Chart K) (blocks : Blocks) where
  pub walk_ready : (p : Sweep) (word : ℕ) → SweepAfter same hash caller setting began w c blocks (p, swept.Pair word) → p.stands ≡ sweeping.Ready → p.purpose ≡ Walks
  walk_ready p word facts ready = (subst (SweepingFacts same hash w caller setting c blocks began p) ready facts.point).0

-- no counting shows a pair
none_counted : (T : Type 0) (word : ℕ) (end : Counted ℕ) → of_counting {T = T} end ≡ progress.Pair word → ⊥
none_counted T word counting.Goes e = cc e
none_counted T word counting.Waits e = cc e
none_counted T word (counting.Done count) e = cc e
none_counted T word (counting.Refused fault) e = cc e

-- nor does a reservation
none_room : {T : Type 0} (word : ℕ) (end : Yielding T Unit) → of_outcome end ≡ progress.Pair word → ⊥
none_room word outcome.Goes e = cc e
none_room word outcome.Waits e = cc e
none_room word (outcome.Gave value) e = cc e
none_room word (outcome.Done end) e = cc e
none_room word (outcome.Refused fault) e = cc e

module _ {K V : Type 0} (same : K → K → Bool) (hash : ℕ → K → ℕ) (name : ℕ → List ℕ) (log : Past K V) (m : Moment K V) (known : Known) (s : Scene K V) (old new : Held K V)
    (at : IsAt same hash old s) (whole : RefinesWhole same name m known s) (purposes : RefinesPurposes same name log m known s) (of i : ℕ) (u : UnderWay K V K) (here : s.calls of i ≡ Some u)
    (word : ℕ) (leads : StepLeads same hash i (progress.Pair word) s old new)
    (changes : PairsChangeFirst log m of (v same hash name log m known s old new at whole purposes of i u here (progress.Pair word) leads))
    (class_first : ChangesFirst log m same of (v same hash name log m known s old new at whole purposes of i u here (progress.Pair word) leads)) (q steps : ℕ)
    (names : NamesPair (known2 same hash name log m known s old new at whole purposes of i u here (progress.Pair word) leads) word q) where
  abbrev then_there : Scene K V
  then_there = then_at same hash name log m known s old new at whole purposes of i u here (progress.Pair word) leads

  abbrev v1 : Moment K V
  v1 = v same hash name log m known s old new at whole purposes of i u here (progress.Pair word) leads

  abbrev v3 : Moment K V
  v3 = come_to (name i) (ShowsOne q) steps v1

  abbrev known_then : Known
  known_then = known2 same hash name log m known s old new at whole purposes of i u here (progress.Pair word) leads

  abbrev goes : Option (UnderWay K V K)
  goes = next same hash name log m known s old new at whole purposes of i u here (progress.Pair word) leads

  abbrev numbers2 : ℕ → ℕ → ℕ
  numbers2 = number2 same hash name log m known s old new at whole purposes of i u here (progress.Pair word) leads

  b : (after : Refines same name v3 known_then then_there) × (after.number ≡ numbers2)
  b = come_with same name v1 known_then then_there (on same hash name log m known s old new at whole purposes of i u here (progress.Pair word) leads).shows (name i) (ShowsOne q) steps (λ e. absurd (cc e))

  -- a call that is there then, by what it was before the outcome
  was_called : (n j : ℕ) (x : UnderWay K V K) → then_there.calls n j ≡ Some x → (e : CallThere K V) → call_of (name j) v3 ≡ Some e
      → (d : CallThere K V) × (call_of (name j) v1 ≡ Some d) × (e ≡ (if is_same d.caller (name i) then come (ShowsOne q) steps d else d))
  was_called n j x is e e_is =
      let d = (on same hash name log m known s old new at whole purposes of i u here (progress.Pair word) leads).shows.calls n j x is in
      (d.0, d.1, one_of e (if is_same d.0.caller (name i) then come (ShowsOne q) steps d.0 else d.0) (sym e_is ∙ found (come (ShowsOne q) steps) (come_of_same (ShowsOne q) steps) (name i) (name j) v1.calls d.0 d.1))

  -- each is what it was, but that this walk has shown a pair more
  other_same : (n j : ℕ) (x : UnderWay K V K) → (n ≡ of → j ≡ i → ⊥) → s.calls n j ≡ Some x → (d e : CallThere K V) → call_of (name j) v1 ≡ Some d
      → e ≡ (if is_same d.caller (name i) then come (ShowsOne q) steps d else d) → e ≡ d
  other_same n j x other x_is d e d_is is =
      is ∙ ap (λ z. if z then come (ShowsOne q) steps d else d) (ap (λ (l : List ℕ). is_same l (name i)) (caller_is (name j) v1 d d_is) ∙ by (is_same (name j) (name i)) refl)
    where
      by : (z : Bool) → is_same (name j) (name i) ≡ z → is_same (name j) (name i) ≡ false
      by false f = f
      by true f = absurd (let one = whole.all.asked.apart n j of i x u x_is here f in other one.0 one.1)

  own_then : (d e : CallThere K V) → call_of (name i) v1 ≡ Some d → e ≡ (if is_same d.caller (name i) then come (ShowsOne q) steps d else d) → e ≡ come (ShowsOne q) steps d
  own_then d e d_is is =
      is ∙ ap (λ z. if z then come (ShowsOne q) steps d else d) (ap (λ (l : List ℕ). is_same l (name i)) (caller_is (name i) v1 d d_is) ∙ is_same_refl (name i))

  -- the walk has shown just what it has done
  module _ (o : CallOverAll) (o_is : s.calls of i ≡ Some (OverAll o)) (st : Standing K) (there : then_there.maps of ≡ Some st) (c d : CallThere K V) (c_is : call_of (name i) m ≡ Some c)
      (d_is : call_of (name i) v1 ≡ Some d) (p2 : Sweep) (n entered2 : ℕ) (done2 : List ℕ) (done_is : done2 ≡ n ∷ o.done) (below : n < st.chart.stored) (told : q ≡ numbers2 of n)
      (purpose : p2.purpose ≡ o.sweep.purpose) (walks : p2.purpose ≡ Walks) (ready : p2.stands ≡ sweeping.Ready) (keys : KeysOf same st (came_to o entered2 done2 p2)) where
    abbrev before : HasSwept same of (its_before same hash name log m known s old new at whole purposes of i u here (progress.Pair word) leads changes o o_is st there c d c_is d_is)
        (purposes.shown.number of) (since log m c) o c
    before = had same hash name log m known s old new at whole purposes of i u here (progress.Pair word) leads changes o o_is st there c d c_is d_is

    still : IsStill c d
    still = same_call same hash name log m known s old new at whole purposes of i u here (progress.Pair word) leads i c d c_is d_is

    numbers_of : map (numbers2 of) o.done ≡ map (purposes.shown.number of) o.done
    numbers_of =
        let b4 = before_then same hash name log m known s old new at whole purposes of i u here (progress.Pair word) leads of st there in
        maps_kept (purposes.shown.number of) (numbers2 of) b4.0.chart.stored
        ((on same hash name log m known s old new at whole purposes of i u here (progress.Pair word) leads).numbers of b4.0 b4.1) c d still o.done before.stored

    tells : (its : Call K V) → IsFor (OverAll o) its → ShowsDone its (purposes.shown.number of) o.done c → ShowsDone its (numbers2 of) done2 (come (ShowsOne q) steps d)
    tells (call.On one) is has = tt
    tells (call.Reserve more) is has = tt
    tells call.Clear is has = tt
    tells call.Retain is has = absurd (cc (walks, purpose, is))
    tells call.Len is has = tt
    tells call.Walk is has =
        cons_both q (numbers2 of n) d.shown (map (numbers2 of) o.done) told (still.shown ∙ has ∙ sym numbers_of) ∙ ap (map (numbers2 of)) (sym done_is)

    pub own_shows : HasSwept same of st (numbers2 of) (since log v3 (come (ShowsOne q) steps d)) (came_to o entered2 done2 p2) (come (ShowsOne q) steps d)
    own_shows = record {
      within = within_still same of st (numbers2 of) log v1 v3 refl refl d (come (ShowsOne q) steps d) refl o.began
          (own_within same hash name log m known s old new at whole purposes of i u here (progress.Pair word) leads changes o o_is st there c d c_is d_is);
      stored = subst (AllByRecursion (λ k. k < st.chart.stored)) (sym done_is)
          (below, below_then same hash name log m known s old new at whole purposes of i u here (progress.Pair word) leads changes o o_is st there c d c_is d_is o.done before.stored);
      tells = subst (λ (x : Call K V). ShowsDone x (numbers2 of) done2 (come (ShowsOne q) steps d)) (sym still.call)
          (tells c.call (purposes.is_for of i (OverAll o) o_is c c_is) before.tells);
      none = λ is at_first. absurd (subst IsBefore ready at_first);
      keys = λ is. keys;
      classes = classes_still same of st (numbers2 of) log v1 v3 refl refl d (come (ShowsOne q) steps d) refl o.began
          (classes_then same hash name log m known s old new at whole purposes of i u here (progress.Pair word) leads changes of i (OverAll o) o_is st there c d c_is d_is class_first o.began before.classes);
    }

  abbrev DidIt : UnderWay K V K → Type 0
  DidIt y = Did same hash name log m known s old new at whole purposes of i u here (progress.Pair word) leads y

  own_come : (y : UnderWay K V K) → s.calls of i ≡ Some y
      → StepsFrom same (went same hash name log m known s old new at whole purposes of i u here (progress.Pair word) leads).0.hash (machine_of y) old new (went same hash name log m known s old new at whole purposes of i u here (progress.Pair word) leads).1 (progress.Pair word) → DidIt y → (x : UnderWay K V K) → goes ≡ Some x → (st : Standing K) → then_there.maps of ≡ Some st
      → (c d : CallThere K V) → call_of (name i) m ≡ Some c → call_of (name i) v1 ≡ Some d → HasCome same of st (numbers2 of) log v3 x (come (ShowsOne q) steps d)
  own_come (OnKey z) y_is steps_of (p2, end, machine_is, told_is, inl (step, moved)) x e st there c d c_is d_is =
      subst (λ (y : UnderWay K V K). HasCome same of st (numbers2 of) log v3 y (come (ShowsOne q) steps d)) (sym (key_goes_on _ end x (sym moved.2 ∙ e))) tt
  own_come (OnKey z) y_is steps_of (p2, end, machine_is, told_is, inr (row, stayed)) x e st there c d c_is d_is =
      subst (λ (y : UnderWay K V K). HasCome same of st (numbers2 of) log v3 y (come (ShowsOne q) steps d)) (sym (key_goes_on _ end x (sym stayed.2 ∙ e))) tt
  own_come (ForRoom r) y_is steps_of (p2, end, machine_is, told_is, did) x e st there c d c_is d_is = absurd (none_room word end (sym told_is))
  own_come (Counting sum) y_is steps_of (sum2, end, machine_is, told_is, still, stayed) x e st there c d c_is d_is = absurd (none_counted (Node K V) word end (sym told_is))
  own_come (OverAll o) y_is steps_of (p2, end, machine_is, told_is, inr (row, stayed)) x e st there c d c_is d_is =
      absurd (let silent = row.step.silent in let is = pair_swept word end (sym told_is) in cc (silent, is))
  own_come (OverAll o) y_is steps_of (p2, end, machine_is, told_is, inl (step, moved)) x e st there c d c_is d_is =
      subst (λ (y : UnderWay K V K). HasCome same of st (numbers2 of) log v3 y (come (ShowsOne q) steps d)) (sym (sweep_goes_on _ end x (sym moved.2 ∙ e))) so
    where
      is : end ≡ swept.Pair word
      is = pair_swept word end (sym told_is)

      its : Standing K
      its = (went same hash name log m known s old new at whole purposes of i u here (progress.Pair word) leads).0

      one : (step.step.entered2 ≡ o.entered) × Adds its.hash step.step.went.c2 step.step.went.blocks2 o.done step.step.done2 word
      one = adds_one its.hash step.step.went.c2 step.step.went.blocks2 o.done step.step.done2 o.entered step.step.entered2 word (Node K V) o.sweep.stands p2.stands
          (subst (OutcomeAgrees o.sweep.stands p2.stands) is step.step.went.told.stands.tells)
          (subst (λ (x : Swept (Node K V)). DoneAt its.hash step.step.went.c2 step.step.went.blocks2 o.done step.step.done2 o.entered step.step.entered2 x o.sweep.stands) is step.step.done)

      ready : p2.stands ≡ sweeping.Ready
      ready = (subst (OutcomeAgrees o.sweep.stands p2.stands) is step.step.went.told.stands.tells).1

      walks : p2.purpose ≡ Walks
      walks =
          walk_ready same its.hash i (in_slot its.setting (slot_of i)) o.began step.step.went.w2 step.step.went.c2 step.step.went.blocks2 p2 word
          (subst (λ (y : Swept (Node K V)). SweepAfter same its.hash i (in_slot its.setting (slot_of i)) o.began step.step.went.w2 step.step.went.c2 step.step.went.blocks2 (p2, y)) is
          step.step.went.told.facts) ready

      then_is : stands_then same hash name log m known s old new at whole purposes of i u here (progress.Pair word) leads o p2 end step moved.1 ≡ st
      then_is = one_of _ st (sym (stands_is same hash name log m known s old new at whole purposes of i u here (progress.Pair word) leads o p2 end step moved.1) ∙ there)

      walked : o.sweep.purpose ≡ Walks
      walked = sym step.step.went.told.stands.purpose ∙ walks

      was : HasSwept same of its (purposes.shown.number of) (since log m c) o c
      was = purposes.come of i (OverAll o) y_is its (went same hash name log m known s old new at whole purposes of i u here (progress.Pair word) leads).2 c c_is

      -- the pair that it shows is the one that stands at its place
      shows : (n : ℕ) × LateNames its.hash its.chart (seen_by its.blocks (its.sights (slot_of i))) word n
          × (KeysAt same (spot_of its.hash) (is_incremental its.setting.mode) its.chart o.began p2 (n ∷ o.done) p2.stands × StandsLow its.chart p2 p2.stands)
      shows = one_shown same hash name m known s old new at whole purposes.shown of i u here (progress.Pair word) leads o y_is walked steps_of (was.keys walked) (was.none walked) word refl p2 machine_is

      later : IsLater its.chart step.step.went.c2
      later =
          let b4 = before_then same hash name log m known s old new at whole purposes of i u here (progress.Pair word) leads of
          (stands_then same hash name log m known s old new at whole purposes of i u here (progress.Pair word) leads o p2 end step moved.1)
          (stands_is same hash name log m known s old new at whole purposes of i u here (progress.Pair word) leads o p2 end step moved.1) in
          subst (λ (z : Standing K). IsLater z.chart step.step.went.c2) (one_of b4.0 its (sym b4.1 ∙ (went same hash name log m known s old new at whole purposes of i u here (progress.Pair word) leads).2)) b4.2

      same_pair : shows.0 ≡ one.1.0
      same_pair =
          names_one its.hash (at.together.makings.standing.fit of its (went same hash name log m known s old new at whole purposes of i u here (progress.Pair word) leads).2).0.fits step.step.went.w2.memory
          step.step.went.c2 step.step.went.blocks2 _ step.step.went.map.map.shows word shows.0 one.1.0
          (names_on its.hash its.chart step.step.went.c2 (seen_by its.blocks (its.sights (slot_of i))) step.step.went.blocks2 later.stored later.keys step.step.went.blocks_same.pairs word shows.0 shows.1) one.1.1

      keys : KeysOf same st (came_to o step.step.entered2 step.step.done2 p2)
      keys =
          subst (λ (done : List ℕ). KeysAt same (spot_of st.hash) (is_incremental st.setting.mode) st.chart o.began p2 done p2.stands × AreKeyed st.chart done)
          (ap (λ (k : ℕ). k ∷ o.done) same_pair ∙ sym one.1.2) (
            carried same hash name m known s old new at whole purposes.shown of i u here (progress.Pair word) leads o y_is walked steps_of (was.keys walked) (was.none walked) was.within.stored st there p2
                (shows.0 ∷ o.done) (shows.1.0, was.stored) shows.2,
            keyed_then same hash name m known s old new at whole purposes.shown of i u here (progress.Pair word) leads o y_is walked steps_of (was.keys walked) (was.none walked) st there (shows.0 ∷ o.done)
                (shows.1.0, was.stored) (
                  names_keyed same hash name m known s old new at whole purposes.shown of i u here (progress.Pair word) leads o y_is walked steps_of (was.keys walked) (was.none walked) word shows.0 shows.1,
                  (was.keys walked).1,
                ),
          )

      so : HasSwept same of st (numbers2 of) (since log v3 (come (ShowsOne q) steps d)) (came_to o step.step.entered2 step.step.done2 p2) (come (ShowsOne q) steps d)
      so =
          own_shows o y_is st there c d c_is d_is p2 one.1.0 step.step.entered2 step.step.done2 one.1.2 (subst (λ (z : Standing K). one.1.0 < z.chart.stored) then_is one.1.1.0)
          (number_told same hash name log m known s old new at whole purposes of i u here (progress.Pair word) leads o p2 end step moved.1 word one.1.0 q one.1.1 names)
          step.step.went.told.stands.purpose walks ready keys

  for_come : (x : UnderWay K V K) (d e : CallThere K V) → e.call ≡ d.call → IsFor x d.call → IsFor x e.call
  for_come x d e same_call is = subst (λ (y : Call K V). IsFor x y) (sym same_call) is

  same_calls : (d e : CallThere K V) → e ≡ (if is_same d.caller (name i) then come (ShowsOne q) steps d else d) → (e.call ≡ d.call) × (e.begun ≡ d.begun)
  same_calls d e is = by (is_same d.caller (name i)) is
    where
      by : (z : Bool) → e ≡ (if z then come (ShowsOne q) steps d else d) → (e.call ≡ d.call) × (e.begun ≡ d.begun)
      by true is = (ap (λ (x : CallThere K V). x.call) is, ap (λ (x : CallThere K V). x.begun) is)
      by false is = (ap (λ (x : CallThere K V). x.call) is, ap (λ (x : CallThere K V). x.begun) is)

  abbrev ItsWhich : ℕ → ℕ → UnderWay K V K → Type 0
  ItsWhich n j x = Which same hash name log m known s old new at whole purposes of i u here (progress.Pair word) leads n j x

  which_then : (n j : ℕ) (x : UnderWay K V K) → then_there.calls n j ≡ Some x → ItsWhich n j x
  which_then n j x is = which_is same hash name log m known s old new at whole purposes of i u here (progress.Pair word) leads n j x is

  come_then : (n j : ℕ) (x : UnderWay K V K) → then_there.calls n j ≡ Some x → (st : Standing K) → then_there.maps n ≡ Some st → (e : CallThere K V) → call_of (name j) v3 ≡ Some e
      → ItsWhich n j x → HasCome same n st (numbers2 n) log v3 x e
  come_then n j x is st there e e_is (inl its) =
      let d = was_called n j x is e e_is in
      let d_is : call_of (name i) v1 ≡ Some d.0 = ap (λ (k : ℕ). call_of (name k) v1) (sym its.1) ∙ d.1 in
      let c = purposes.shown.calls of i u here in
      subst (λ (k : ℕ). HasCome same k st (numbers2 k) log v3 x e) (sym its.0)
      (subst (λ (f : CallThere K V). HasCome same of st (numbers2 of) log v3 x f) (sym (own_then d.0 e d_is d.2))
      (own_come u here (went same hash name log m known s old new at whole purposes of i u here (progress.Pair word) leads).3 (went same hash name log m known s old new at whole purposes of i u here (progress.Pair word) leads).4.did x its.2 st (ap then_there.maps (sym its.0) ∙ there)
      c.0 d.0 c.1 d_is))
  come_then n j x is st there e e_is (inr other) =
      let d = was_called n j x is e e_is in
      subst (λ (f : CallThere K V). HasCome same n st (numbers2 n) log v3 x f) (sym (other_same n j x other.0 other.1 d.0 e d.1 d.2))
      (come_still same n st (numbers2 n) log v1 v3 refl refl d.0 d.0 (same_still d.0) x
      (other_come same hash name log m known s old new at whole purposes of i u here (progress.Pair word) leads changes class_first n j x other.1 st there d.0 d.1))

  pub shows_purposes : RefinesPurposes same name log v3 known_then then_there
  shows_purposes = record {
    past = purposes.past;
    lasts = lasts_then same hash name log m known s old new at whole purposes of i u here (progress.Pair word) leads;
    shown = b.0;
    begun = λ n j x is e e_is.
        let d = was_called n j x is e e_is in
        subst (λ (z : ℕ). z ≤ log.entries) (sym (same_calls d.0 e d.2).1)
        (begun_then same hash name log m known s old new at whole purposes of i u here (progress.Pair word) leads n j x d.0 d.1 (which_then n j x is));
    is_for = λ n j x is e e_is.
        let d = was_called n j x is e e_is in
        for_come x d.0 e (same_calls d.0 e d.2).0 (for_then same hash name log m known s old new at whole purposes of i u here (progress.Pair word) leads n j x d.0 d.1 (which_then n j x is));
    come = λ n j x is st there e e_is.
        subst (λ (f : ℕ → ℕ → ℕ). HasCome same n st (f n) log v3 x e) (sym b.1) (come_then n j x is st there e e_is (which_then n j x is));
  }

pub walks_show_purposes : (K V : Type 0) (same : K → K → Bool) (hash : ℕ → K → ℕ) → WalksShowPurposes K V same hash
walks_show_purposes K V same hash name log m known s old new at whole purposes of i u here word leads changes class_first q steps names =
    shows_purposes same hash name log m known s old new at whole purposes of i u here word leads changes class_first q steps names
