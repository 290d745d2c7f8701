-- The beginning of the end of a map: the executor is there again.
use Rattle.std.specs.Prelude.{◌≡◌, ◌≢◌, ◌<◌, ◌⊎◌, ℕ, Bool, false, [], ◌∷◌, ◌++◌, length, Option, Some, None, option_map, slice_index_or, slice_set}
use Rattle.std.proofs.Common.{refl, sym, ap, ◌∙◌, inl, inr, arith}
use Rattle.std.proofs.lemmas.Bool.{cases_eq}
use Rattle.std.proofs.lemmas.List.{get_or-set_other, get_or-set_same, length-set}
use Rattle.seize.specs.World.{with_at}
use Rattle.papaya_raw.specs.Given.TablesDeclared.setting.Setting.{Setting}
use Rattle.papaya_raw.specs.EndMap.{ending}
use Rattle.run_places.proofs.Given.CallersTogether.At.{at_other, at_same}
use Rattle.run_places.proofs.Given.CallersTogether.Slots.{alike_same}
use Rattle.run_places.specs.Given.FinishesEndings.{finishing_of}
use Rattle.run_places.specs.Given.FinishesMachines.{machine_of}
use Rattle.run_places.specs.Given.FinishesMaps.{Standing}
use Rattle.run_places.proofs.Given.FinishesAmong.Begins.{endings_begin}
use Rattle.run_executor.specs.declared.executor.Executor.{Executor}
use Rattle.run_places.specs.Given.ScenesDeclared.callers.TheConstants.{SLOTS}
use Rattle.run_executor.specs.declared.worker.Work.TheVariants as work
use Rattle.run_executor.proofs.Executing.Fresh.{caller_in, fresh_before, fresh_changes, no_calls_yet, no_ending_yet, no_making_yet, resting}
use Rattle.run_executor.proofs.Executing.Made.{finished_at}
use Rattle.run_executor.proofs.Executing.Places.{within}
use Rattle.run_executor.specs.Executing.Ending.{EndingBegins}
use Rattle.run_executor.specs.Executing.IsThere.{IsThere}
use Rattle.run_places.specs.Given.ScenesEnding.{ending_begun}
use Rattle.run_places.specs.Given.ScenesScene.{Scene, slot_of}
use Rattle.seize_words.proofs.General.{none_mapped as none_of}

-- a map whose setting is kept stands
standing_of : {K : Type 0} (setting : Setting) (it : Option (Standing K)) → option_map (λ standing. standing.setting) it ≡ Some setting → (standing : Standing K) × (it ≡ Some standing) × (standing.setting ≡ setting)
standing_of setting None is = absurd (cc is)
standing_of setting (Some standing) is = (standing, refl, cc is)

module _ {K V S : Type 0} (same : K → K → Bool) (hash : K → ℕ) (e : Executor K V S) (s : Scene K V) (at : IsThere same hash e s) (slot : ℕ) (fits : slot < SLOTS) (m : ℕ) (setting : Setting)
    (kept : slice_index_or e.maps.items m None ≡ Some setting) (e2 : Executor K V S) (memory : e2.memory ≡ e.memory)
    (items : e2.workers.items ≡ e.workers.items ++ Some (record { slot = slot; work = work.Ending (ending setting false) }) ∷ [])
    (hasher : e2.hasher ≡ e.hasher) (batch_size : e2.batch_size ≡ e.batch_size) (roots : e2.roots ≡ e.roots) (slots : e2.slots.items ≡ e.slots.items)
    (maps : e2.maps.items ≡ slice_set e.maps.items m None) where
  stands : (standing : Standing K) × (s.maps m ≡ Some standing) × (standing.setting ≡ setting)
  stands = standing_of setting (s.maps m) (at.maps m ∙ kept)

  number : m < length e.maps.items
  number = within e.maps.items m setting kept

  count : length e2.maps.items ≡ length e.maps.items
  count = ap length maps ∙ length-set e.maps.items m None

  settings : (n : ℕ) → (n ≡ m) ⊎ (n ≢ m) → option_map (λ standing. standing.setting) (with_at s.maps m None n) ≡ slice_index_or e2.maps.items n None
  settings n (inl en) =
      ap (option_map (λ standing. standing.setting)) (at_same s.maps m None n en)
      ∙ sym (ap (λ xs. slice_index_or xs n None) maps ∙ ap (λ (x : ℕ). slice_index_or (slice_set e.maps.items m None) x None) en ∙ get_or-set_same e.maps.items m None None number)
  settings n (inr nn) =
      ap (option_map (λ standing. standing.setting)) (at_other s.maps m None n nn) ∙ at.maps n
      ∙ sym (ap (λ xs. slice_index_or xs n None) maps ∙ get_or-set_other e.maps.items m n None None nn)

  hashes : (n : ℕ) (standing : Standing K) → with_at s.maps m None n ≡ Some standing → (n ≡ m) ⊎ (n ≢ m) → standing.hash ≡ hash
  hashes n standing some (inl en) = absurd (cc (at_same s.maps m None n en, some))
  hashes n standing some (inr nn) = at.held.hashes n standing (sym (at_other s.maps m None n nn) ∙ some)

  abbrev mid : Executor K V S
  mid = record e2 { maps = e.maps }

  pub ending_begins : EndingBegins same hash m (caller_in e slot) s e e2
  ending_begins no_call =
      let begins = endings_begin {Q = K} V same same e.batch_size e.roots slot_of s.world s.maps s.calls s.makers s.enders at.held.together (caller_in e slot)
      (no_ending_yet same hash e s at slot fits) (no_making_yet same hash e s at slot fits) (no_calls_yet same hash e s at slot fits) m stands.0 stands.1
      (λ j. none_of machine_of (s.calls m j) (at.calls m j ∙ no_call j)) (ending_begun m (caller_in e slot) stands.0 s).world refl in (
        memory,
        (
          stands.0,
          stands.1,
          begins.1,
          ap (λ t. t.memory) memory,
          finished_at same hash e s at (caller_in e slot) None (Some (work.Ending (ending setting false))) (fresh_before e slot fits) (λ m. refl) (λ m. refl) mid e2
              (fresh_changes e slot fits (work.Ending (ending setting false)) mid items hasher batch_size roots refl slots) refl batch_size roots slots (omega (arith, count))
              (ending_begun m (caller_in e slot) stands.0 s).world (at.held.memory ∙ ap (λ t. t.memory) (sym memory)) (λ j ne. refl)
              (record { uses = λ t. alike_same (s.world.uses t); on_slot = λ on. on }) (resting same hash e s at slot fits)
              (with_at s.maps m None) (λ n. settings n (cases_eq n m)) (λ n standing some. hashes n standing some (cases_eq n m)) refl refl
              (Some (finishing_of stands.0 s.world)) (ap (λ (x : Setting). Some (ending x false)) stands.2) begins.0,
        ),
      )
