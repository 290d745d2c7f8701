-- Makings and ends of maps lead where a step of their kind does.
use Rattle.std.specs.Prelude.{◌≢◌, ◌++◌, Option, Some, None}
use Rattle.std.proofs.Common.{◌≡◌, ◌⊎◌, ℕ, Bool, [], ◌∷◌, inl, inr, refl, sym, ap, subst, ◌∙◌}
use Rattle.std.proofs.lemmas.Bool.{cases_eq}
use Rattle.run_shows.specs.Given.SeizeWordsMem.{Mem}
use Rattle.run_shows.specs.Given.SeizeWordsPlan.{Plan}
use Rattle.run_shows.specs.Given.SeizeLaw.{Ended}
use Rattle.run_shows.specs.Given.SeizeWorld.{Row, with_at, with_effect}
use Rattle.run_shows.specs.Given.SeizeDeclared.advance.Advance.{Advance}
use Rattle.run_shows.specs.Given.SeizeDeclared.advance.Advance.TheVariants as progress
use Rattle.run_shows.specs.Given.SeizeDeclared.rows.settle.Settled.{Settled}
use Rattle.run_shows.specs.Given.SeizeDeclared.rows.settle.Settled.TheVariants as settled
use Rattle.seize_acts.specs.Acts.Answers.{Grant}
use Rattle.run_shows.specs.Given.TablesChunks.{is_incremental}
use Rattle.run_shows.specs.Given.TablesNodes.{deferred_word}
use Rattle.run_shows.specs.Given.TablesDeclared.node.Node.{Node}
use Rattle.run_shows.specs.Given.TablesDeclared.setting.Setting.{Setting}
use Rattle.run_shows.specs.Given.ResizeNewMap.{new_map_plan}
use Rattle.run_shows.specs.Given.ResizeDeclared.new_map.NewMap.{NewMap}
use Rattle.run_shows.specs.Given.RawEndMap.{end_map_plan}
use Rattle.run_shows.specs.Given.RawDeclared.machines.end_map.EndMap.{EndMap}
use Rattle.run_shows.specs.Given.TellerTells.{StepsObserved}
use Rattle.run_shows.specs.Given.EffectsDeclared.changed.Changed.{Changed}
use Rattle.run_shows.specs.Given.EffectsDeclared.changed.Changed.TheVariants.{Nothing as NoChange}
use Rattle.owner_facts.specs.Given.CallersRows.{IsRowOn}
use Rattle.owner_facts.proofs.Given.CallersTogether.At.{at_same, at_other}
use Rattle.owner_facts.proofs.Given.CallersTogether.Slots.{all_between, between_rows}
use Rattle.owner_facts.specs.Given.FinishesEndings.{AllPairsOnce, Finishing, StepsOfEnding, MakingStepsWithEndings, waiting_by}
use Rattle.owner_facts.specs.Given.FinishesFactsEnds.{events_of}
use Rattle.owner_facts.specs.Given.FinishesMakings.{Beginning}
use Rattle.owner_facts.specs.Given.FinishesMaps.{Standing}
use Rattle.owner_facts.proofs.Given.FinishesAmong.Begins.{endings_begin}
use Rattle.many_acts.specs.Acts.Acts.{Act, Answer, OfMaking, OfEnding, BeginsMaking, StepsMaking, BeginsEnding, StepsEnding}
use Rattle.many_acts.specs.Acts.AsSteps.{EndedTo, LeadsAs, MadeTo, changed_by, changed_of, held_in}
use Rattle.many_acts.specs.Acts.Leads.{AllStand, Led, MakingCame, EndingCame, MayBe, making_steps, ending_steps}
use Rattle.many_acts.proofs.Acts.AsSteps.There.{OnSlots, Stand, held_as, one_made}
use Rattle.many_acts.proofs.Acts.AsSteps.Told.{of_some, was_told}
use Rattle.run_shows.proofs.Scenes.Between.{deed_between}
use Rattle.run_shows.proofs.Scenes.NoCall.{none_is}
use Rattle.run_shows.specs.Scenes.Ending.{EndingOutcomeHolds, ending_begun}
use Rattle.run_shows.specs.Scenes.Held.{Held, IsAt}
use Rattle.run_shows.specs.Scenes.Making.{MakingOutcomeHolds, making_begun, scene_making}
use Rattle.run_shows.specs.Scenes.Scene.{Scene, slot_of}
use Rattle.run_shows.proofs.Given.General.{same_some}

module _ {K V S : Type 0} (same : K → K → Bool) (by_hasher : S → K → ℕ) (hash : ℕ → K → ℕ) (batch_size roots : ℕ) (s n : Scene K V) (before : Changed)
    (at : IsAt same hash (held_in batch_size roots before s) s) (all : AllStand same by_hasher batch_size roots slot_of n) (i : ℕ) where
  abbrev old : Held K V
  old = held_in batch_size roots before s

  abbrev Stands : Scene K V → Type 0
  Stands x = Stand same hash batch_size roots s before at x

  abbrev Leads : Act K V S → Answer K V → Changed → Scene K V → Type 0
  Leads act told changed x =
      LeadsAs same by_hasher hash act s told x old (held_in batch_size roots changed x) × IsAt same hash (held_in batch_size roots changed x) x

  onto : (P : Scene K V → Type 0) (x : Scene K V) → n ≡ x → (Stands x → P x) → P n
  onto P x is so = subst P (sym is) (so (subst Stands is all))

  -- a making begins
  module _ (map places : ℕ) (hasher : S) (given : Setting) where
    abbrev first : Beginning K
    first = making_begun (by_hasher hasher) roots map given places

    begun_there : by_hasher hasher ≡ hash map → Stands (scene_making i first s) → IsAt same hash (held_in batch_size roots NoChange s) (scene_making i first s)
    begun_there own stand = record {
      memory = refl;
      together = stand;
      hashes = at.hashes;
      hashes_made = one_made same hash batch_size roots s before at i (Some first) (λ c is. subst (λ (d : Beginning K). d.hash ≡ hash d.map) (same_some first c is) own);
      on_slots = at.on_slots;
      small = at.small;
    }

    pub making_begins_as : by_hasher hasher ≡ hash map → (told : Answer K V)
        → Led same by_hasher batch_size roots slot_of (BeginsMaking i map hasher given places) s told n → Leads (BeginsMaking i map hasher given places) told NoChange n
    making_begins_as own told (none, is) =
        onto (Leads (BeginsMaking i map hasher given places) told NoChange) (scene_making i first s) is (λ stand. let there = begun_there own stand in ((refl, there, refl), there))

  -- it takes a step
  module _ (b : Beginning K) (makes : s.makers i ≡ Some b) (g : Grant) (m2 : Mem (Node K V)) (machine : NewMap) where
    abbrev making : Plan (Node K V) (NewMap × Advance Setting)
    making = new_map_plan b.machine

    abbrev new : Held K V
    new = record { memory = m2; changed = changed_of s.world.memory g making; batch_size = batch_size; roots = roots }

    module _ (told : Advance Setting) (did : MakingStepsWithEndings V same same batch_size roots slot_of s.world s.maps s.calls s.makers s.enders i b m2 (machine, told)) where
      on_slots : OnSlots same hash batch_size roots s before at did.step.w2
      on_slots j =
          subst (λ (f : ℕ → Row). IsRowOn (slot_of j) (f j))
          (sym (between_rows deferred_word batch_size did.step.events s.world did.step.w2 (all_between did.step.events did.step.users) did.step.runs)) (at.on_slots j)

      made_there : (maps2 : ℕ → Option (Standing K)) (next : Option (Beginning K)) → ((m : ℕ) (standing : Standing K) → maps2 m ≡ Some standing → standing.hash ≡ hash m)
          → ((c : Beginning K) → next ≡ Some c → c.hash ≡ hash c.map) → Stands (record s { world = did.step.w2; maps = maps2; makers = with_at s.makers i next })
          → IsAt same hash new (record s { world = did.step.w2; maps = maps2; makers = with_at s.makers i next })
      made_there maps2 next hashed its stand = record {
        memory = did.step.memory;
        together = stand;
        hashes = hashed;
        hashes_made = one_made same hash batch_size roots s before at i next its;
        on_slots = on_slots;
        small = at.small;
      }

    -- where it has come
    abbrev Made : (told : Advance Setting) → MakingStepsWithEndings V same same batch_size roots slot_of s.world s.maps s.calls s.makers s.enders i b m2 (machine, told) → Scene K V → Type 0
    Made told did x =
        (x.world.memory ≡ m2) × ((comes : MakingOutcomeHolds same (IsAt same hash new) s old i b machine did.step.w2 told) × MadeTo same hash s old new i b machine did.step.w2 told comes x)
        × IsAt same hash new x

    made : (told : Advance Setting) (did : MakingStepsWithEndings V same same batch_size roots slot_of s.world s.maps s.calls s.makers s.enders i b m2 (machine, told))
        → MakingCame same by_hasher batch_size roots slot_of s i b did.step.w2 machine n told → Made told did n
    made progress.Goes did is =
        onto (Made progress.Goes did) (record s { world = did.step.w2; makers = with_at s.makers i (Some (record b { machine = machine })) }) is
        (λ stand. let there = made_there progress.Goes did s.maps (Some (record b { machine = machine })) at.hashes (λ c is. subst (λ (d : Beginning K). d.hash ≡ hash d.map)
        (same_some (record b { machine = machine }) c is) (at.hashes_made i b makes)) stand in (did.step.memory, (there, refl), there))
    made progress.Waits did never = absurd never
    made (progress.Done setting) did (standing, is_made, is) =
        onto (Made (progress.Done setting) did) (record s { world = did.step.w2; maps = with_at s.maps b.map (Some standing); makers = with_at s.makers i None }) is
        (λ stand. let there = made_there (progress.Done setting) did (with_at s.maps b.map (Some standing)) None hashed (λ c is. absurd (cc is)) stand in
        (did.step.memory, ((standing, is_made, there), refl), there))
      where
        hashed : (m : ℕ) (it : Standing K) → with_at s.maps b.map (Some standing) m ≡ Some it → it.hash ≡ hash m
        hashed m it has = by (cases_eq m b.map)
          where
            by : (m ≡ b.map) ⊎ (m ≢ b.map) → it.hash ≡ hash m
            by (inl e) =
                ap (λ (x : Standing K). x.hash) (same_some it standing (sym has ∙ at_same s.maps b.map (Some standing) m e)) ∙ is_made.hash_is ∙ at.hashes_made i b makes ∙ ap hash (sym e)
            by (inr ne) = at.hashes m it (sym (at_other s.maps b.map (Some standing) m ne) ∙ has)
    made (progress.Refused fault) did is =
        onto (Made (progress.Refused fault) did) (record s { world = did.step.w2; makers = with_at s.makers i None }) is
        (λ stand. let there = made_there (progress.Refused fault) did s.maps None at.hashes (λ c is. absurd (cc is)) stand in (did.step.memory, (there, refl), there))

    module _ (told : Advance Setting) (computed : making_steps same by_hasher batch_size roots slot_of s g b ≡ Some (m2, (machine, told)))
        (did : MakingStepsWithEndings V same same batch_size roots slot_of s.world s.maps s.calls s.makers s.enders i b m2 (machine, told))
        (came : MakingCame same by_hasher batch_size roots slot_of s i b did.step.w2 machine n told) where
      abbrev Goes : Beginning K → Type 0
      Goes c =
          (opening : NewMap) × StepsObserved K V (NewMap × Advance Setting) s.world.memory NoChange (new_map_plan c.machine) m2 new.changed (opening, told)
          × (did : MakingStepsWithEndings V same same batch_size roots slot_of s.world s.maps s.calls s.makers s.enders i c m2 (opening, told))
          × MakingOutcomeHolds same (IsAt same hash new) s old i c opening did.step.w2 told

      abbrev GoesTo : Beginning K → Type 0
      GoesTo c = (so : Goes c) × MadeTo same hash s old new i c so.0 so.2.step.w2 told so.3 n

      pub making_steps_as : (answer : Answer K V) → answer ≡ OfMaking told → Leads (StepsMaking i g) answer (changed_by {S = S} same (StepsMaking i g) s) n
      making_steps_as answer told_is =
          let to = made told did came in
          let so = λ (c : Beginning K) (here : s.makers i ≡ Some c).
          subst GoesTo (same_some b c (sym makes ∙ here)) ((machine, was_told s.world.memory g making (m2, (machine, told)) computed, did, to.1.0), to.1.1) in
          subst (λ (h : Held K V). LeadsAs same by_hasher hash (StepsMaking i g) s answer n old h × IsAt same hash h n)
          (sym (held_as batch_size roots n.world.memory m2 (changed_by {S = S} same (StepsMaking i g) s) new.changed to.0
          (of_some (λ b. changed_of s.world.memory g (new_map_plan b.machine)) NoChange (s.makers i) b makes)))
          ((told, told_is, λ c here. (so c here).0, λ c here. (so c here).1), to.2)

  -- an end begins
  pub ending_begins_as : (m : ℕ) → MayBe same by_hasher batch_size roots slot_of (BeginsEnding i m) s → (told : Answer K V)
      → Led same by_hasher batch_size roots slot_of (BeginsEnding i m) s told n → Leads (BeginsEnding i m) told NoChange n
  ending_begins_as m (free, some, no_calls) told (standing, stands, none, is) =
      onto (Leads (BeginsEnding i m) told NoChange) (ending_begun m i standing s) is
      (λ stand. (((standing, stands, once, refl, there stand), refl), there stand))
    where
      once : AllPairsOnce (is_incremental standing.setting.mode) standing.chart
      once = (endings_begin {Q = K} V same same batch_size roots slot_of s.world s.maps s.calls s.makers s.enders at.together i (none_is (s.enders i) free.no_ending) (none_is (s.makers i) free.no_making)
          (λ k. none_is (s.calls k i) (free.no_call k)) m standing stands (λ j. none_is (s.calls m j) (no_calls j)) (with_effect s.world (Ended standing.setting.counter)) refl).1

      hashed : (k : ℕ) (it : Standing K) → with_at s.maps m None k ≡ Some it → it.hash ≡ hash k
      hashed k it has = by (cases_eq k m)
        where
          by : (k ≡ m) ⊎ (k ≢ m) → it.hash ≡ hash k
          by (inl e) = absurd (cc (at_same s.maps m None k e, has))
          by (inr ne) = at.hashes k it (sym (at_other s.maps m None k ne) ∙ has)

      there : Stands (ending_begun m i standing s) → IsAt same hash (held_in batch_size roots NoChange s) (ending_begun m i standing s)
      there stand = record { memory = refl; together = stand; hashes = hashed; hashes_made = at.hashes_made; on_slots = at.on_slots; small = at.small }

  -- it takes a step
  module _ (f : Finishing K V) (ends : s.enders i ≡ Some f) (g : Grant) (m2 : Mem (Node K V)) (machine : EndMap) where
    abbrev ending : Plan (Node K V) (EndMap × Settled (Node K V))
    ending = end_map_plan f.machine

    abbrev newer : Held K V
    newer = record { memory = m2; changed = changed_of s.world.memory g ending; batch_size = batch_size; roots = roots }

    module _ (told : Settled (Node K V)) (did : StepsOfEnding V same same batch_size roots slot_of s.world s.maps s.calls s.makers s.enders i f m2 (machine, told)) where
      ended_there : (next : Option (Finishing K V)) → Stands (record s { world = did.w2; enders = with_at s.enders i next }) → IsAt same hash newer (record s { world = did.w2; enders = with_at s.enders i next })
      ended_there next stand = record {
        memory = did.memory;
        together = stand;
        hashes = at.hashes;
        hashes_made = at.hashes_made;
        on_slots = λ j. subst (λ (h : ℕ → Row). IsRowOn (slot_of j) (h j))
            (sym (between_rows deferred_word batch_size (events_of i did.deed) s.world did.w2 (deed_between (Node K V) i did.deed) did.runs)) (at.on_slots j);
        small = at.small;
      }

    abbrev Gone : (told : Settled (Node K V)) → StepsOfEnding V same same batch_size roots slot_of s.world s.maps s.calls s.makers s.enders i f m2 (machine, told) → Scene K V → Type 0
    Gone told did x =
        (x.world.memory ≡ m2) × ((comes : EndingOutcomeHolds same (IsAt same hash newer) s i f machine did.w2 did.deed told) × EndedTo same hash s newer i f machine did.w2 did.deed told comes x)
        × IsAt same hash newer x

    gone : (told : Settled (Node K V)) (did : StepsOfEnding V same same batch_size roots slot_of s.world s.maps s.calls s.makers s.enders i f m2 (machine, told))
        → EndingCame same by_hasher batch_size roots slot_of s i f did.w2 did.deed machine n told → Gone told did n
    gone settled.Goes did (none, is) =
        onto (Gone settled.Goes did) (record s { world = did.w2; enders = with_at s.enders i (Some (record f { machine = machine; waits = f.waits ++ waiting_by did.deed })) }) is
        (λ stand. let there = ended_there settled.Goes did (Some (record f { machine = machine; waits = f.waits ++ waiting_by did.deed })) stand in (did.memory, ((none, there), refl), there))
    gone settled.Waits did never = absurd never
    gone (settled.Gave value) did (b, was, taken, is) =
        onto (Gone (settled.Gave value) did)
        (record s { world = did.w2; enders = with_at s.enders i (Some (record f { machine = machine; back = f.back ++ b ∷ []; waits = f.waits ++ waiting_by did.deed })) }) is
        (λ stand. let there = ended_there (settled.Gave value) did (Some (record f { machine = machine; back = f.back ++ b ∷ []; waits = f.waits ++ waiting_by did.deed })) stand in
        (did.memory, ((b, was, taken, there), refl), there))
    gone settled.Done did (none, finished, is) =
        onto (Gone settled.Done did) (record s { world = did.w2; enders = with_at s.enders i None }) is
        (λ stand. let there = ended_there settled.Done did None stand in (did.memory, ((none, finished, there), refl), there))

    module _ (told : Settled (Node K V)) (computed : ending_steps same by_hasher batch_size roots slot_of s g f ≡ Some (m2, (machine, told)))
        (did : StepsOfEnding V same same batch_size roots slot_of s.world s.maps s.calls s.makers s.enders i f m2 (machine, told))
        (came : EndingCame same by_hasher batch_size roots slot_of s i f did.w2 did.deed machine n told) where
      abbrev Ends : Finishing K V → Type 0
      Ends c =
          (ending : EndMap) × StepsObserved K V (EndMap × Settled (Node K V)) s.world.memory NoChange (end_map_plan c.machine) m2 newer.changed (ending, told)
          × (did : StepsOfEnding V same same batch_size roots slot_of s.world s.maps s.calls s.makers s.enders i c m2 (ending, told))
          × EndingOutcomeHolds same (IsAt same hash newer) s i c ending did.w2 did.deed told

      abbrev EndsTo : Finishing K V → Type 0
      EndsTo c = (so : Ends c) × EndedTo same hash s newer i c so.0 so.2.w2 so.2.deed told so.3 n

      pub ending_steps_as : (answer : Answer K V) → answer ≡ OfEnding told → Leads (StepsEnding i g) answer (changed_by {S = S} same (StepsEnding i g) s) n
      ending_steps_as answer told_is =
          let to = gone told did came in
          let so = λ (c : Finishing K V) (here : s.enders i ≡ Some c).
          subst EndsTo (same_some f c (sym ends ∙ here)) ((machine, was_told s.world.memory g ending (m2, (machine, told)) computed, did, to.1.0), to.1.1) in
          subst (λ (h : Held K V). LeadsAs same by_hasher hash (StepsEnding i g) s answer n old h × IsAt same hash h n)
          (sym (held_as batch_size roots n.world.memory m2 (changed_by {S = S} same (StepsEnding i g) s) newer.changed to.0
          (of_some (λ f. changed_of s.world.memory g (end_map_plan f.machine)) NoChange (s.enders i) f ends)))
          ((told, told_is, λ c here. (so c here).0, λ c here. (so c here).1), to.2)
