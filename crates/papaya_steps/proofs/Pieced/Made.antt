-- An event by which a map is made: the list of acts goes on where the making begins, and by each of its steps.
use Rattle.std.specs.Prelude.{◌≢◌, ◌≤◌, ◌<◌, ◌+◌, ◌⊎◌, ◌^◌, ◌==◌, Option, Some, None, option_map, length, take, slice_index_or, if◌then◌else◌}
use Rattle.std.specs.Int.{IsPowerOfTwo}
use Rattle.std.proofs.Common.{◌≡◌, ℕ, Bool, true, false, List, [], ◌∷◌, inl, inr, refl, sym, ap, subst, arith, eqb-true, ◌∙◌}
use Rattle.std.proofs.lemmas.Bool.{cases_eq}
use Rattle.std.proofs.lemmas.List.{length-take-le}
use Rattle.play_events.specs.Given.SeizeActsAnswers.{Grant}
use Rattle.seize.specs.declared.advance.Advance.{Advance}
use Rattle.seize.specs.declared.advance.Advance.TheVariants as progress
use Rattle.map_tables.specs.declared.resize_mode.ResizeMode.{ResizeMode}
use Rattle.map_tables.specs.declared.setting.Setting.{Setting}
use Rattle.map_tables.specs.Powers.{next_power}
use Rattle.run_effects.specs.Given.ResizeDeclared.new_map.NewMap.{NewMap}
use Rattle.play_events.specs.Given.PointsSteps.{AreLawful}
use Rattle.play_events.specs.Given.FinishesMakings.{Beginning}
use Rattle.play_events.specs.Given.FinishesMaps.{Standing}
use Rattle.play_events.proofs.Given.CallersTogether.At.{at_other, at_same}
use Rattle.play_events.specs.Given.ScenesScene.{Scene, slot_of}
use Rattle.map_tables.proofs.Logarithms.{next-power-unique}
use Rattle.run_schedules.specs.declared.effect.Effect.{Effect}
use Rattle.run_schedules.specs.declared.event.Event.{Event}
use Rattle.run_schedules.specs.declared.event.Event.TheVariants as event
use Rattle.run_schedules.specs.declared.outcome.Outcome.{Outcome}
use Rattle.run_schedules.specs.declared.outcome.Outcome.TheVariants as outcome
use Rattle.run_schedules.specs.Schedules.After.{moment}
use Rattle.run_schedules.specs.Schedules.Entry.{Entry}
use Rattle.run_schedules.specs.Schedules.Terms.{Terms, shards_of}
use Rattle.seize_words.specs.declared.fault.Fault.{Fault}
use Rattle.run_effects.specs.Effects.Known.{Known, known}
use Rattle.play_events.specs.Given.ExecutorIsThere.{IsThere, StaysGiven, making_in, work_of}
use Rattle.play_events.specs.Given.ExecutorDeclared.executor.Executor.{Executor}
use Rattle.play_events.specs.Given.LoggedGoes.{Far, MakingGoes, MakingGone, MakingOn, far}
use Rattle.play_events.specs.Given.LoggedMakings.{given_back, is_over}
use Rattle.play_events.specs.Given.LoggedDeclared.logged.Logged.{Logged}
use Rattle.play_events.proofs.Given.ExecutorFresh.{no_work}
use Rattle.play_events.proofs.Given.LoggedGivenBack.{reads_same, with_maps}
use Rattle.play_events.specs.Given.SchedulerMapping.{numbers_made}
use Rattle.play_events.specs.Given.SchedulerPlayed.{entry_of}
use Rattle.play_events.specs.Given.SchedulerWorks.{DidNothing, MakingHasRun, WorksOnMap}
use Rattle.play_events.specs.Given.SchedulerDeclared.played.Played.{Played}
use Rattle.play_events.specs.Given.SchedulerDeclared.scheduler.Scheduler.{Scheduler}
use Rattle.play_events.specs.Given.NamedPlaces.{first_places}
use Rattle.play_events.specs.Given.ExecutorDeclared.caller.NamedCaller.{NamedCaller}
use Rattle.play_events.specs.Given.ActsActs.{OfMaking, StepsMaking}
use Rattle.play_events.specs.Given.ActsLeads.{Led}
use Rattle.play_events.specs.Given.ActsLeads as leads
use Rattle.play_events.specs.Given.ActsLists.{Course}
use Rattle.run_schedules.specs.Deeds.Deeds.{MapComes, MapFails, Makes}
use Rattle.play_events.specs.Given.AgreesFresh.{is_taken}
use Rattle.play_events.specs.Given.PlayedPlay.{State, has_root, making_deed, making_outcome, pairs_for}
use Rattle.play_events.specs.Given.GroupedCalled.{PlaysSo}
use Rattle.play_events.specs.Given.GroupedGrouping.{MayHave, Names, refuses}
use Rattle.play_events.specs.Given.GroupedReach.{Reach}
use Rattle.play_events.proofs.Given.GroupedMakingGoes.{MakesSo, MakesThen, is_on, making_begins, making_steps}
use Rattle.play_events.proofs.Given.GroupedMidst.{InEvent, event_ends_so, at_rest}
use Rattle.play_events.proofs.Given.GroupedReached.{goes_at, reach_so}
use Rattle.papaya_steps.specs.Pieced.SoFar.{ActsSoFar, ContinuesByActs}
use Rattle.papaya_steps.proofs.Pieced.Chains.{goes_to}
use Rattle.play_events.proofs.Given.AgreesFirstPlaces.{asked_places, first_back}
use Rattle.papaya_steps.proofs.Pieced.Quiet.{did_nothing}
use Rattle.seize_words.proofs.General.{same_some}

-- a making that is not over goes on
on_is : {T : Type 0} (said : Advance T) → is_over said ≡ false → is_on said ≡ true
on_is progress.Goes e = refl
on_is progress.Waits e = refl
on_is (progress.Done answer) e = absurd (cc e)
on_is (progress.Refused fault) e = absurd (cc e)

-- The number of a making that was refused is given back: the executor is there as it was.
module _ {K V S : Type 0} (same : K → K → Bool) (by_hasher : S → K → ℕ) (e e2 e3 : Executor K V S) (is : e3 ≡ record e2 { maps = e3.maps }) (i map : ℕ) (opening : NewMap) (has : making_in (work_of e i) ≡ Some (map, opening))
    (s n : Scene K V) (at : IsThere same (by_hasher e.hasher) e s) (there : IsThere same (by_hasher e.hasher) e2 n) where
  kept : e3.maps.items ≡ e2.maps.items → IsThere same (by_hasher e.hasher) e3 n
  kept items =
      with_maps same (by_hasher e.hasher) e2 e3 n there is (λ m. ap (λ (xs : List (Option Setting)). slice_index_or xs m None) items)
      (λ j d makes. subst (λ (k : ℕ). d.map < k) (sym (ap length items)) (there.numbers j d makes))

  module _ (b : Beginning K) (makes : s.makers i ≡ Some b) (maps_are : n.maps ≡ s.maps) (over : n.makers i ≡ None) (others : (k : ℕ) → k ≢ i → n.makers k ≡ s.makers k) where
    of_map : b.map ≡ map
    of_map = ap (λ (q : ℕ × NewMap). q.0) (same_some (b.map, b.machine) (map, opening) (sym (ap (option_map (λ (d : Beginning K). (d.map, d.machine))) makes) ∙ at.makers i ∙ has))

    none_there : slice_index_or e2.maps.items map None ≡ None
    none_there =
        sym (there.maps map) ∙ ap (λ (f : ℕ → Option (Standing K)). option_map (λ standing. standing.setting) (f map)) maps_are
        ∙ ap (λ (m : ℕ). option_map (λ standing. standing.setting) (s.maps m)) (sym of_map) ∙ ap (option_map (λ standing. standing.setting)) (at.held.together.makings.coming i b makes)

    other_number : (j : ℕ) (d : Beginning K) → n.makers j ≡ Some d → d.map ≢ map
    other_number j d its e = by (cases_eq j i)
      where
        by : (j ≡ i) ⊎ (j ≢ i) → ⊥
        by (inl same_one) = let none = ap n.makers same_one ∙ over in cc (none, its)
        by (inr ne) = at.held.together.makings.numbers i j b d (λ q. ne (sym q)) makes (sym (others j ne) ∙ its) (of_map ∙ sym e)

    dropped : (q : Bool) → (length e2.maps.items == map + 1) ≡ q → e3.maps.items ≡ (if q then take map e2.maps.items else e2.maps.items) → IsThere same (by_hasher e.hasher) e3 n
    dropped false f items = kept items
    dropped true f items =
        let long : length e2.maps.items ≡ map + 1 = eqb-true (length e2.maps.items) (map + 1) f in
        let few : length e3.maps.items ≡ map = ap length items ∙ short long in
        with_maps same (by_hasher e.hasher) e2 e3 n there is (λ m. ap (λ (xs : List (Option Setting)). slice_index_or xs m None) items ∙ reads_same e2.maps.items map long none_there m)
        (λ j d its. (let l = there.numbers j d its in let ne = other_number j d its in by_less (length e3.maps.items) (length e2.maps.items) d.map few long l ne))
      where
        short : length e2.maps.items ≡ map + 1 → length (take map e2.maps.items) ≡ map
        short long = length-take-le map e2.maps.items (omega (arith, long))

        by_less : (k l x : ℕ) → k ≡ map → l ≡ map + 1 → x < l → x ≢ map → x < k
        by_less k l x few long less ne = omega (arith, few, long, less, ne)

  back_there : (g : Grant) (said : Advance Setting) → e3.maps.items ≡ given_back map said e2.maps.items → Led same by_hasher e.batch_size e.roots slot_of (StepsMaking i g) s (OfMaking said) n → IsThere same (by_hasher e.hasher) e3 n
  back_there g progress.Goes items led = kept items
  back_there g progress.Waits items led = kept items
  back_there g (progress.Done setting) items led = kept items
  back_there g (progress.Refused fault) items (b, makes, m2, machine, end, computed, tells, did, came) =
      let said : end ≡ progress.Refused fault = cc (tells) in
      let is_n = subst (λ (x : Advance Setting). leads.MakingCame {V = V} same by_hasher e.batch_size e.roots slot_of s i b did.step.w2 machine n x) said came in
      dropped b makes (ap (λ (x : Scene K V). x.maps) is_n) (ap (λ (x : Scene K V). x.makers i) is_n ∙ at_same s.makers i None i refl)
      (λ k ne. ap (λ (x : Scene K V). x.makers k) is_n ∙ at_other s.makers i None k ne) (length e2.maps.items == map + 1) refl items

module _ {K V S : Type 0} (same : K → K → Bool) (by_hasher : S → K → ℕ) (shards : ℕ) (log : List (Entry K V)) (own : List ℕ) (mode : ResizeMode) (capacity : ℕ) (calls : List (NamedCaller V)) (b r : ℕ) (any : Course V same by_hasher b r slot_of)
    (i map : ℕ) (map_is : map ≡ (moment log).made) (places : ℕ) (back : first_places (pairs_for places) ≡ first_places capacity) where
  abbrev ev : Event K V
  ev = event.MakeMap own mode capacity

  abbrev At : (State K V S → Type 0) → Logged K V S → Type 0
  At P l = Reach same by_hasher l.executor.hasher b r shards P l.executor (known l.notes)

  -- the making is under way, and has done this so far
  abbrev Makes' : (did : List Effect) → Outcome V → State K V S → Type 0
  Makes' did o x = InEvent log ev did 0 o calls x × MakesSo i (moment log).made mode places x

  abbrev Then : Advance Setting → List Effect → State K V S → Type 0
  Then said did x = InEvent log ev did 0 (making_outcome said) calls x × MakesThen i (moment log).made mode places said x

  abbrev SoFar : Far K V S → Type 0
  SoFar x = (o : Outcome V) × At (λ s. Makes' x.effects o s) x.logged

  -- its deeds are those of such a map
  may_make : (before next : NewMap) → next.setting.mode ≡ mode → next.len ≡ places → (names : Names) → MayHave names (moment log) ev (making_deed map before next)
  may_make before next mode_is len names = by (has_root before.stands) (has_root next.stands)
    where
      by : (p q : Bool) → MayHave names (moment log) ev (if p then (if q then Makes map else MapFails map) else (if q then MapComes map next.setting.root next.setting.mode (pairs_for next.len) else Makes map))
      by true true = map_is
      by true false = map_is
      by false true = (map_is, mode_is, ap (λ (n : ℕ). first_places (pairs_for n)) len ∙ back)
      by false false = map_is

  step_so : (x y : Far K V S) → SoFar x → (step : MakingGoes i map x y) → (z : Logged K V S) → z.notes ≡ y.logged.notes → z.executor ≡ record y.logged.executor { maps = z.executor.maps }
      → z.executor.maps.items ≡ given_back map step.said y.logged.executor.maps.items → At (λ s. Then step.said y.effects s) z
  step_so x y (o, at) step z notes is items =
      let g = step.is_noted.given in
      let given3 : StaysGiven x.logged.executor z.executor = (ap (λ (e : Executor K V S). e.hasher) is ∙ g.0, ap (λ (e : Executor K V S). e.batch_size) is ∙ g.1, ap (λ (e : Executor K V S). e.roots) is ∙ g.2) in
      goes_at same by_hasher shards (λ s. Makes' x.effects o s) (λ s. Then step.said y.effects s) x.logged.executor z.executor (known x.logged.notes) (known z.notes)
      (λ course there. making_steps same by_hasher shards log ev refl calls x.logged.executor y.logged.executor (g.0, g.1, g.2) i mode places map map_is step.under.0 step.under.1 step.said
      (λ s is_there. step.leads same (by_hasher x.logged.executor.hasher) s is_there) z.executor given3
      (λ s n is_there grant led then_there. back_there same by_hasher x.logged.executor y.logged.executor z.executor is i map step.under.0 step.under.1 s n is_there then_there grant step.said items led) x.effects y.effects
      (known x.logged.notes) (known z.notes) step.is_noted.did (ap known notes ∙ step.is_noted.noted) o
      (λ before next mode_was places_were mode_is len names. may_make before next mode_is len names) course there) b r any at

  goes_on : (x y : Far K V S) → SoFar x → MakingOn i map x y → SoFar y
  goes_on x y at (step, on) = (
    making_outcome step.said,
    reach_so same by_hasher y.logged.executor.hasher b r shards (λ s. Then step.said y.effects s) (λ s. Makes' y.effects (making_outcome step.said) s) (λ s so. (so.0, so.1.0 (on_is step.said on))) y.logged.executor (known y.logged.notes)
        (step_so x y at step y.logged refl refl (stays_so step.said on)),
  )
    where
      stays_so : (said : Advance Setting) → is_over said ≡ false → y.logged.executor.maps.items ≡ given_back map said y.logged.executor.maps.items
      stays_so progress.Goes e = refl
      stays_so progress.Waits e = refl
      stays_so (progress.Done setting) e = refl
      stays_so (progress.Refused fault) e = absurd (cc e)

  -- from where it begins to where it is over
  pub made_by : (told : Advance Setting) (effects : List Effect) (began new : Logged K V S) → MakingGone i map told [] effects began new → (o : Outcome V) → At (λ s. Makes' [] o s) began → At (λ s. Then told effects s) new
  made_by told effects began new (prev, goes, mid, step, says, notes, is, items) o at =
      subst (λ (t : Advance Setting). At (λ s. Then t effects s) new) says
      (step_so prev (far effects mid) (goes_to (MakingOn i map) SoFar goes_on (far [] began) prev goes (o, at)) step new notes is
      (items ∙ ap (λ (t : Advance Setting). given_back map t mid.executor.maps.items) (sym says)))

module _ {K V S : Type 0} (same : K → K → Bool) (by_hasher : S → K → ℕ) (any : (batch_size roots : ℕ) → Course V same by_hasher batch_size roots slot_of) (own : List ℕ) (mode : ResizeMode) (capacity : ℕ) (played : Played V)
    (old new : Scheduler K V S) (idle : played.steps ≡ 0) (works : WorksOnMap played old new own mode capacity) (lawful : AreLawful same (by_hasher old.logged.executor.hasher)) (processors : old.setup.processors ≤ 2 ^ 63)
    (count : length new.logged.executor.maps.items ≡ numbers_made played.outcome (length old.logged.executor.maps.items)) where
  pub make_goes_on : ContinuesByActs same by_hasher (event.MakeMap own mode capacity) played old new
  make_goes_on terms log stands in_turn next next2 at = by works.1
    where
      ev : Event K V
      ev = event.MakeMap own mode capacity

      After : Type 0
      After = ActsSoFar same by_hasher terms (entry_of ev played ∷ log) new.logged new.calls

      l : Logged K V S
      l = old.logged

      -- what its making has come to
      run_so : (told : Advance Setting) (d : MakingHasRun played old new own mode capacity told)
          → Reach same by_hasher new.logged.executor.hasher terms.batch_size terms.roots (shards_of terms)
          (λ (x : State K V S). InEvent log ev played.effects.items 0 (making_outcome told) old.calls x × MakesThen d.caller (moment log).made mode d.places told x) new.logged.executor (known new.logged.notes)
      run_so told d =
          let many : d.given.mask + 1 ≡ shards_of terms =
          next-power-unique old.setup.processors (d.given.mask + 1) d.is_given.mask.0.0 processors d.is_given.mask.0.1 d.is_given.mask.1 d.is_given.mask.2
          ∙ ap (λ (t : Terms). next_power t.processors) stands.given in
          let least = d.is_given.mask.2 in
          let began = goes_at same by_hasher (shards_of terms) (λ (x : State K V S). PlaysSo log old.calls x) (λ x. InEvent log ev [] 0 at_rest old.calls x × MakesSo d.caller (moment log).made mode d.places x) l.executor
          d.began.executor (known l.notes) (known l.notes)
          (λ course there. making_begins same by_hasher (shards_of terms) log ev refl old.calls l.executor d.began.executor d.stays d.caller mode d.places course d.given d.is_given.mode_is
          (λ s is. d.begun same (by_hasher l.executor.hasher) s is) (ap (work_of l.executor) d.fresh ∙ no_work l.executor 0 (omega arith)) lawful (subst IsPowerOfTwo (sym d.is_given.initial) d.first.0) d.is_given.batches
          (omega (arith, least, processors)) many (asked_places d.given mode capacity d.places d.is_given.mode_is d.faultless d.first d.is_given.initial) d.some (λ few. d.first.1) next at_rest refl (known l.notes) there) terms.batch_size terms.roots (any terms.batch_size terms.roots) at in
          made_by same by_hasher (shards_of terms) log own mode capacity old.calls terms.batch_size terms.roots (any terms.batch_size terms.roots) d.caller (length l.executor.maps.items) next d.places
          (first_back d.places d.first ∙ d.places_are) told played.effects.items d.began new.logged d.gone at_rest
          (subst (λ (k : Known). Reach same by_hasher d.began.executor.hasher terms.batch_size terms.roots (shards_of terms)
          (λ x. InEvent log ev [] 0 at_rest old.calls x × MakesSo d.caller (moment log).made mode d.places x) d.began.executor k) (ap known (sym d.noted)) began)

      later : (moment (entry_of ev played ∷ log)).made ≡ numbers_made played.outcome (moment log).made
      later = sym next2 ∙ count ∙ ap (numbers_made played.outcome) next

      over : (told : Advance Setting) → played.outcome ≡ making_outcome told → (d : MakingHasRun played old new own mode capacity told)
          → ((x : State K V S) → InEvent log ev played.effects.items 0 (making_outcome told) old.calls x → MakesThen d.caller (moment log).made mode d.places told x
          → (n : ℕ) → (moment (entry_of ev played ∷ log)).made ≤ n → is_taken n x.history ≡ false) → After
      over told says d fresh =
          reach_so same by_hasher new.logged.executor.hasher terms.batch_size terms.roots (shards_of terms)
          (λ (x : State K V S). InEvent log ev played.effects.items 0 (making_outcome told) old.calls x × MakesThen d.caller (moment log).made mode d.places told x) (PlaysSo (entry_of ev played ∷ log) new.calls)
          (λ x so. event_ends_so log ev played.effects.items played.steps played.outcome new.calls x (fresh x so.0 so.1)
          (subst (λ (c : List (NamedCaller V)). InEvent log ev played.effects.items played.steps played.outcome c x) (sym works.0)
          (subst (λ (o : Outcome V). InEvent log ev played.effects.items played.steps o old.calls x) (sym says)
          (subst (λ (n : ℕ). InEvent log ev played.effects.items n (making_outcome told) old.calls x) (sym idle) so.0)))) new.logged.executor (known new.logged.notes) (run_so told d)

      by : ((fault : Fault) × (played.outcome ≡ outcome.Refused fault) × DidNothing played old new)
          ⊎ (((fault : Fault) × (played.outcome ≡ outcome.Refused fault) × MakingHasRun played old new own mode capacity (progress.Refused fault))
          ⊎ ((played.outcome ≡ outcome.Done) × (setting : Setting) × MakingHasRun played old new own mode capacity (progress.Done setting))) → After
      by (inl (fault, says, nothing)) = did_nothing ev played old new same by_hasher idle nothing.0 nothing.1 works.0 (λ m there. inl (ap refuses says)) terms log stands in_turn next next2 at
      by (inr (inl (fault, says, d))) =
          over (progress.Refused fault) says d (λ x so comes n few. (let made_is = later ∙ ap (λ (o : Outcome V). numbers_made o (moment log).made) says in
          let low : (moment log).made ≤ n = omega (arith, made_is, few) in by_number x so comes n low (cases_eq n (moment log).made)))
        where
          by_number : (x : State K V S) → InEvent log ev played.effects.items 0 (outcome.Refused fault) old.calls x → MakesThen d.caller (moment log).made mode d.places (progress.Refused fault) x → (n : ℕ)
              → (moment log).made ≤ n → (n ≡ (moment log).made) ⊎ (n ≢ (moment log).made) → is_taken n x.history ≡ false
          by_number x so comes n low (inl e) = ap (λ (k : ℕ). is_taken k x.history) e ∙ comes.1 refl
          by_number x so comes n low (inr ne) = so.fresh n (omega (arith, low, ne))
      by (inr (inr (done, setting, d))) =
          over (progress.Done setting) done d (λ x so comes n few. (let made_is = later ∙ ap (λ (o : Outcome V). numbers_made o (moment log).made) done in so.fresh n (omega (arith, made_is, few))))
