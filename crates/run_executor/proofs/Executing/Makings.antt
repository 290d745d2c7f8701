-- A step of the making of a map: it may be taken, and the executor is there again.
use Rattle.std.specs.Prelude.{◌≡◌, ◌≢◌, ◌<◌, ◌⊎◌, ℕ, Bool, List, length, Option, Some, None, option_map, slice_index_or, slice_set}
use Rattle.std.proofs.Common.{refl, sym, ap, subst, ◌∙◌, inl, inr, arith}
use Rattle.std.proofs.lemmas.Bool.{cases_eq}
use Rattle.std.proofs.lemmas.List.{get_or-set_other, get_or-set_same, length-set}
use Rattle.seize_words.specs.OneMemory.Mem.{Mem, Can, Took, value_at}
use Rattle.seize_words.specs.OneMemory.Plan.{May, Steps}
use Rattle.seize.specs.World.{Row, Rests, with_at}
use Rattle.seize.specs.declared.advance.Advance.{Advance}
use Rattle.seize.specs.declared.advance.Advance.TheVariants as progress
use Rattle.papaya_raw.specs.Given.TablesNodes.{deferred_word}
use Rattle.papaya_raw.specs.Given.TablesDeclared.node.Node.{Node}
use Rattle.papaya_raw.specs.Given.TablesDeclared.setting.Setting.{Setting}
use Rattle.run_places.specs.Given.ResizeNewMap.{new_map_plan}
use Rattle.run_places.specs.Given.ResizeDeclared.new_map.NewMap.{NewMap}
use Rattle.run_places.specs.Given.EffectsDeclared.changed.Changed.TheVariants.{Nothing}
use Rattle.run_places.proofs.Given.CallersTogether.At.{at_other, at_same}
use Rattle.run_places.proofs.Given.CallersTogether.Slots.{all_between, between_rows, between_slots}
use Rattle.run_places.specs.Given.CallersRows.{LeavesSlots}
use Rattle.run_places.specs.Given.FinishesEndings.{EndingsTogether, MakingStepsWithEndings, MakingOutcomeWithEndings}
use Rattle.run_places.specs.Given.FinishesMakings.{Beginning}
use Rattle.run_places.specs.Given.FinishesMaps.{Standing}
use Rattle.run_places.proofs.Given.FinishesAmong.Makings.{makings_stand_among}
use Rattle.run_executor.specs.declared.executor.Executor.{Executor}
use Rattle.run_executor.specs.declared.worker.Work.{Work}
use Rattle.run_executor.specs.declared.worker.Work.TheVariants as work
use Rattle.run_executor.specs.declared.worker.Worker.{Worker}
use Rattle.run_executor.proofs.Executing.Again.{own}
use Rattle.run_executor.proofs.Executing.Made.{made_at}
use Rattle.run_executor.proofs.Executing.Places.{making_found}
use Rattle.run_executor.specs.Executing.IsThere.{ChangesAt, HasRow, IsThere, call_in, ending_in, making_in, place_of, worker_at, worker_of, held_by}
use Rattle.run_executor.specs.Executing.Making.{making_on, maps_on}
use Rattle.run_places.proofs.Given.ScenesTold.{as_step}
use Rattle.run_places.specs.Given.ScenesMaking.{MakingOutcomeHolds, MakingStepsFrom}
use Rattle.run_places.specs.Given.ScenesScene.{IsMaking, Scene, slot_of}

-- the settings are as many as they were
pub same_count : (map : ℕ) (told : Advance Setting) (maps : List (Option Setting)) → length (maps_on map told maps) ≡ length maps
same_count map progress.Goes maps = refl
same_count map progress.Waits maps = refl
same_count map (progress.Done setting) maps = length-set maps map (Some setting)
same_count map (progress.Refused fault) maps = refl

module _ (K V : Type 0) where
  no_call : (map m : ℕ) (opening : NewMap) (told : Advance Setting) → call_in {K = K} {V = V} (making_on map opening told) m ≡ None
  no_call map m opening progress.Goes = refl
  no_call map m opening progress.Waits = refl
  no_call map m opening (progress.Done setting) = refl
  no_call map m opening (progress.Refused fault) = refl

  no_ending : (map : ℕ) (opening : NewMap) (told : Advance Setting) → ending_in {K = K} {V = V} (making_on map opening told) ≡ None
  no_ending map opening progress.Goes = refl
  no_ending map opening progress.Waits = refl
  no_ending map opening (progress.Done setting) = refl
  no_ending map opening (progress.Refused fault) = refl

  no_row : (map : ℕ) (opening : NewMap) (told : Advance Setting) (row : Row) → row ≡ Rests → HasRow {K = K} {V = V} (making_on map opening told) row
  no_row map opening progress.Goes row is = is
  no_row map opening progress.Waits row is = is
  no_row map opening (progress.Done setting) row is = is
  no_row map opening (progress.Refused fault) row is = is

  making_parts : (map map2 : ℕ) (opening opening2 : NewMap) → ◌≡◌ {A = Work K V} (work.Making map opening) (work.Making map2 opening2) → (map ≡ map2) × (opening ≡ opening2)
  making_parts map map2 opening opening2 is = (cc is, cc is)

-- somebody was taken out of a place, and another put there
module _ {K V S : Type 0} (e e2 : Executor K V S) (place : ℕ) (next : Option (Worker K V)) where
  pub set_there : place < length e.workers.items → e2.workers.items ≡ slice_set (slice_set e.workers.items place None) place next → e2.hasher ≡ e.hasher → e2.batch_size ≡ e.batch_size
      → e2.roots ≡ e.roots → e2.maps.items ≡ e.maps.items → e2.slots.items ≡ e.slots.items → ChangesAt place next e e2
  set_there within items hasher batch_size roots maps slots =
      let short : length (slice_set e.workers.items place None) ≡ length e.workers.items = length-set e.workers.items place None in
      let count : length e2.workers.items ≡ length e.workers.items = ap length items ∙ length-set (slice_set e.workers.items place None) place next ∙ short in
      record {
        here = ap (λ xs. slice_index_or xs place None) items
            ∙ get_or-set_same (slice_set e.workers.items place None) place next None (omega (arith, within, short));
        elsewhere = λ p ne. ap (λ xs. slice_index_or xs p None) items ∙ get_or-set_other (slice_set e.workers.items place None) place p next None ne
            ∙ get_or-set_other e.workers.items place p None None ne;
        there = omega (arith, within, count);
        grows = omega (arith, count);
        hasher = hasher;
        batch_size = batch_size;
        roots = roots;
        maps = maps;
        slots = slots;
      }

module _ {K V S : Type 0} (same : K → K → Bool) (hash : K → ℕ) (e : Executor K V S) (s : Scene K V) (at : IsThere same hash e s) (i : ℕ) (b : Beginning K) (here : s.makers i ≡ Some b) where
  -- the caller's making is at its place, and may take its next step
  pub making_is : worker_at e (place_of i) ≡ worker_of (slot_of i) (Some (work.Making b.map b.machine))
  making_is = making_found (slot_of i) b.map b.machine (worker_at e (place_of i)) (sym (at.makers i) ∙ ap (option_map (λ b. (b.map, b.machine))) here)

  pub may_make : May Can Took value_at e.memory.memory (new_map_plan {K = K} {V = V} b.machine)
  may_make =
      subst (λ (x : Mem (Node K V)). May Can Took value_at x (new_map_plan {K = K} {V = V} b.machine)) at.held.memory
      (makings_stand_among {Q = K} V same same e.batch_size e.roots slot_of s.world s.maps s.calls s.makers s.enders at.held.together i b here).0

  module _ (mid e2 : Executor K V S) (opening : NewMap) (told : Advance Setting) (steps : MakingStepsFrom b.machine (held_by e) (held_by e2) opening told)
      (changes : ChangesAt (place_of i) (worker_of (slot_of i) (making_on b.map opening told)) e mid)
      (workers : e2.workers.items ≡ mid.workers.items) (slots : e2.slots.items ≡ e.slots.items) (batch_size : e2.batch_size ≡ e.batch_size) (roots : e2.roots ≡ e.roots) (maps : e2.maps.items ≡ maps_on b.map told e.maps.items) where
    pub did : MakingStepsWithEndings V same same e.batch_size e.roots slot_of s.world s.maps s.calls s.makers s.enders i b e2.memory.memory (opening, told)
    did = (makings_stand_among {Q = K} V same same e.batch_size e.roots slot_of s.world s.maps s.calls s.makers s.enders at.held.together i b here).1 e2.memory.memory (opening, told)
        (subst (λ (x : Mem (Node K V)). Steps Took value_at x (new_map_plan {K = K} {V = V} b.machine) e2.memory.memory (opening, told)) (sym at.held.memory)
        (as_step e.memory.memory Nothing (new_map_plan b.machine) e2.memory.memory e2.memory.changed (opening, told) steps))

    rows : did.step.w2.row ≡ s.world.row
    rows = between_rows deferred_word e.batch_size did.step.events s.world did.step.w2 (all_between did.step.events did.step.users) did.step.runs

    leaves : LeavesSlots (slot_of i) i s.world did.step.w2
    leaves = between_slots deferred_word e.batch_size did.step.events s.world did.step.w2 (all_between did.step.events did.step.users) did.step.runs (slot_of i) i

    resting : did.step.w2.row i ≡ Rests
    resting = ap (λ (f : ℕ → Row). f i) rows ∙ subst (λ (x : Option (Work K V)). HasRow x (s.world.row i)) (own same hash e s at i (Some (work.Making b.map b.machine)) (making_on b.map opening told) making_is mid e2 changes workers) (at.rows i)

    count : length e2.maps.items ≡ length e.maps.items
    count = ap length maps ∙ same_count b.map told e.maps.items

    -- the maps after the step, and what is being made
    module _ (maps2 : ℕ → Option (Standing K)) (settings : (m : ℕ) → option_map (λ standing. standing.setting) (maps2 m) ≡ slice_index_or e2.maps.items m None)
        (hashes : (m : ℕ) (standing : Standing K) → maps2 m ≡ Some standing → standing.hash ≡ hash)
        (next : Option (Beginning K)) (next_is : option_map (λ b. (b.map, b.machine)) next ≡ making_in (making_on {K = K} {V = V} b.map opening told))
        (next_so : (c : Beginning K) → next ≡ Some c → (c.hash ≡ hash) × (c.map < length e.maps.items))
        (together : EndingsTogether V same same e.batch_size e.roots slot_of did.step.w2 maps2 s.calls (with_at s.makers i next) s.enders) where
      is_made : IsThere same hash e2 (record s { world = did.step.w2; maps = maps2; makers = with_at s.makers i next })
      is_made =
          made_at same hash e s at i (Some (work.Making b.map b.machine)) (making_on b.map opening told) making_is (λ m. refl) (λ m. no_call K V b.map m opening told)
          mid e2 changes workers batch_size roots slots (omega (arith, count)) did.step.w2 did.step.memory (λ j ne. ap (λ (f : ℕ → Row). f j) rows) leaves
          (no_row K V b.map opening told (did.step.w2.row i) resting) maps2 settings hashes refl (no_ending K V b.map opening told) next next_is (λ c is. let so = next_so c is in (so.0, subst (λ (x : ℕ). c.map < x) (sym count) so.1)) together

    pub comes : MakingOutcomeHolds same (IsThere same hash e2) s (held_by e) i b opening did.step.w2 told
    comes = by told refl maps did.told
      where
        -- the setting of a map that was made, and those of the others
        settings_with : (setting : Setting) (standing : Standing K) → standing.setting ≡ setting → e2.maps.items ≡ slice_set e.maps.items b.map (Some setting)
            → (m : ℕ) → option_map (λ standing. standing.setting) (with_at s.maps b.map (Some standing) m) ≡ slice_index_or e2.maps.items m None
        settings_with setting standing is set m = at_number (cases_eq m b.map)
          where
            at_number : (m ≡ b.map) ⊎ (m ≢ b.map) → option_map (λ standing. standing.setting) (with_at s.maps b.map (Some standing) m) ≡ slice_index_or e2.maps.items m None
            at_number (inl em) =
                ap (option_map (λ standing. standing.setting)) (at_same s.maps b.map (Some standing) m em) ∙ ap Some is
                ∙ sym (ap (λ xs. slice_index_or xs m None) set ∙ ap (λ (x : ℕ). slice_index_or (slice_set e.maps.items b.map (Some setting)) x None) em
                ∙ get_or-set_same e.maps.items b.map (Some setting) None (at.numbers i b here))
            at_number (inr nm) =
                ap (option_map (λ standing. standing.setting)) (at_other s.maps b.map (Some standing) m nm) ∙ at.maps m
                ∙ sym (ap (λ xs. slice_index_or xs m None) set ∙ get_or-set_other e.maps.items b.map m (Some setting) None nm)

        hashes_with : (standing : Standing K) → standing.hash ≡ b.hash → (m : ℕ) (other : Standing K) → with_at s.maps b.map (Some standing) m ≡ Some other → other.hash ≡ hash
        hashes_with standing is m other there = at_number (cases_eq m b.map)
          where
            at_number : (m ≡ b.map) ⊎ (m ≢ b.map) → other.hash ≡ hash
            at_number (inl em) =
                let it : standing ≡ other = cc (at_same s.maps b.map (Some standing) m em, there) in
                sym (ap (λ (x : Standing K). x.hash) it) ∙ is ∙ at.held.hashes_made i b here
            at_number (inr nm) = at.held.hashes m other (sym (at_other s.maps b.map (Some standing) m nm) ∙ there)

        as_it_is : (c : Beginning K) → Some (record b { machine = opening }) ≡ Some c → (c.hash ≡ hash) × (c.map < length e.maps.items)
        as_it_is c some =
            let it : record b { machine = opening } ≡ c = cc some in
            (sym (ap (λ (x : Beginning K). x.hash) it) ∙ at.held.hashes_made i b here, subst (λ (x : ℕ). x < length e.maps.items) (ap (λ (x : Beginning K). x.map) it) (at.numbers i b here))

        by : (told2 : Advance Setting) → told ≡ told2 → e2.maps.items ≡ maps_on b.map told2 e.maps.items
            → MakingOutcomeWithEndings V same same e.batch_size e.roots slot_of s.world s.maps s.calls s.makers s.enders i b did.step.w2 (opening, told2)
            → MakingOutcomeHolds same (IsThere same hash e2) s (held_by e) i b opening did.step.w2 told2
        by progress.Goes is set together =
            is_made s.maps (λ m. at.maps m ∙ ap (λ xs. slice_index_or xs m None) (sym set)) at.held.hashes (Some (record b { machine = opening }))
            (sym (ap (λ x. making_in (making_on {K = K} {V = V} b.map opening x)) is)) as_it_is together
        by progress.Waits is set none = none
        by (progress.Done setting) is set (standing, made, together) = (
          standing,
          made,
          is_made (with_at s.maps b.map (Some standing)) (settings_with setting standing made.setting_is set) (hashes_with standing made.hash_is) None
              (sym (ap (λ x. making_in (making_on {K = K} {V = V} b.map opening x)) is)) (λ c some. absurd (cc some)) together,
        )
        by (progress.Refused fault) is set together =
            is_made s.maps (λ m. at.maps m ∙ ap (λ xs. slice_index_or xs m None) (sym set)) at.held.hashes None
            (sym (ap (λ x. making_in (making_on {K = K} {V = V} b.map opening x)) is)) (λ c some. absurd (cc some)) together

  -- what was taken out of its place is that making
  pub taken_making : (slot map : ℕ) (opening : NewMap) → worker_at e (place_of i) ≡ worker_of slot (Some (work.Making map opening)) → (slot ≡ slot_of i) × (map ≡ b.map) × (opening ≡ b.machine)
  taken_making slot map opening there =
      let both : ◌≡◌ {A = Worker K V} (record { slot = slot; work = work.Making map opening }) (record { slot = slot_of i; work = work.Making b.map b.machine }) = cc (there, making_is) in
      let parts = making_parts K V map b.map opening b.machine (ap (λ (x : Worker K V). x.work) both) in
      (ap (λ (x : Worker K V). x.slot) both, parts.0, parts.1)

  -- and its step leads where one of the caller's does
  pub making_leads : (e2 : Executor K V S) (opening : NewMap) (told : Advance Setting) (slot map : ℕ) (before : NewMap) → (slot ≡ slot_of i) × (map ≡ b.map) × (before ≡ b.machine)
      → place_of i < length e.workers.items → MakingStepsFrom before (held_by e) (held_by e2) opening told
      → e2.workers.items ≡ slice_set (slice_set e.workers.items (place_of i) None) (place_of i) (worker_of slot (making_on map opening told))
      → e2.hasher ≡ e.hasher → (batch_size : e2.batch_size ≡ e.batch_size) (roots : e2.roots ≡ e.roots) → e2.slots.items ≡ e.slots.items → e2.maps.items ≡ maps_on map told e.maps.items
      → (opening : NewMap) × MakingStepsFrom b.machine (held_by e) (held_by e2) opening told
      × (did : MakingStepsWithEndings V same same e.batch_size e.roots slot_of s.world s.maps s.calls s.makers s.enders i b e2.memory.memory (opening, told))
      × MakingOutcomeHolds same (IsThere same hash e2) s (held_by e) i b opening did.step.w2 told
  making_leads e2 opening told slot map before is within steps items hasher batch_size roots slots maps =
      (opening, steps2, did mid e2 opening told steps2 changes refl slots batch_size roots maps2, comes mid e2 opening told steps2 changes refl slots batch_size roots maps2)
    where
      steps2 : MakingStepsFrom b.machine (held_by e) (held_by e2) opening told
      steps2 = subst (λ (x : NewMap). MakingStepsFrom x (held_by e) (held_by e2) opening told) is.2 steps

      maps2 : e2.maps.items ≡ maps_on b.map told e.maps.items
      maps2 = subst (λ (x : ℕ). e2.maps.items ≡ maps_on x told e.maps.items) is.1 maps

      mid : Executor K V S
      mid = record e2 { maps = e.maps }

      changes : ChangesAt (place_of i) (worker_of (slot_of i) (making_on b.map opening told)) e mid
      changes = subst (λ (x : ℕ). ChangesAt (place_of i) (worker_of x (making_on b.map opening told)) e mid) is.0
          (subst (λ (x : ℕ). ChangesAt (place_of i) (worker_of slot (making_on x opening told)) e mid) is.1
          (set_there e mid (place_of i) (worker_of slot (making_on map opening told)) within items hasher batch_size roots refl slots))

-- who makes a map has that at its place
module _ {K V S : Type 0} (same : K → K → Bool) (hash : K → ℕ) (e : Executor K V S) (s : Scene K V) (at : IsThere same hash e s) (i : ℕ) (making : IsMaking s i) where
  pub has_making : (slot map : ℕ) × (opening : NewMap) × (slice_index_or e.workers.items (place_of i) None ≡ worker_of slot (Some (work.Making map opening)))
  has_making = (slot_of i, making.0.map, making.0.machine, making_is same hash e s at i making.0 making.1)

  -- and its map has a number
  pub has_number : (slot map : ℕ) (opening : NewMap) → worker_at e (place_of i) ≡ worker_of slot (Some (work.Making map opening)) → map < length e.maps.items
  has_number slot map opening there =
      subst (λ (x : ℕ). x < length e.maps.items) (sym (taken_making same hash e s at i making.0 making.1 slot map opening there).1) (at.numbers i making.0 making.1)

  -- it may take its next step
  pub may_taken : (slot map : ℕ) (opening : NewMap) → worker_at e (place_of i) ≡ worker_of slot (Some (work.Making map opening))
      → May Can Took value_at e.memory.memory (new_map_plan {K = K} {V = V} opening)
  may_taken slot map opening there =
      subst (λ (x : NewMap). May Can Took value_at e.memory.memory (new_map_plan {K = K} {V = V} x)) (sym (taken_making same hash e s at i making.0 making.1 slot map opening there).2)
      (may_make same hash e s at i making.0 making.1)
