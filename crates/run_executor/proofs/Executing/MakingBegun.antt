-- The beginning of the making of a map: the executor is there again.
use Rattle.std.specs.Prelude.{◌≡◌, ◌<◌, ◌+◌, ℕ, Bool, [], ◌∷◌, ◌++◌, length, Option, Some, None, option_map, slice_index_or}
use Rattle.std.proofs.Common.{refl, sym, ap, ◌∙◌, arith}
use Rattle.std.proofs.lemmas.List.{get_or_past, length-append}
use Rattle.papaya_raw.specs.Given.TablesDeclared.setting.Setting.{Setting}
use Rattle.run_places.proofs.Given.CallersTogether.Slots.{alike_same}
use Rattle.run_places.specs.Given.FinishesMakings.{Beginning}
use Rattle.run_places.proofs.Given.FinishesAmong.Makings.{makings_begin_among}
use Rattle.run_places.proofs.Given.FinishesBeside.Makings.Promised.{makings_begin}
use Rattle.run_executor.specs.declared.executor.Executor.{Executor}
use Rattle.run_places.specs.Given.ScenesDeclared.callers.TheConstants.{SLOTS}
use Rattle.run_executor.specs.declared.worker.Work.TheVariants as work
use Rattle.run_executor.proofs.Executing.Fresh.{caller_in, fresh_before, fresh_changes, no_calls_yet, no_ending_yet, no_making_yet, resting}
use Rattle.run_executor.proofs.Executing.Made.{made_at}
use Rattle.run_executor.proofs.Executing.Places.{one_number}
use Rattle.run_executor.specs.Executing.IsThere.{IsThere}
use Rattle.run_executor.specs.Executing.MakingBegins.{MakingBegins, next_making}
use Rattle.run_places.specs.Given.ScenesScene.{Scene, slot_of}
use Rattle.seize_words.proofs.General.{none_mapped as none_of}

module _ {K V S : Type 0} (same : K → K → Bool) (hash : K → ℕ) (e : Executor K V S) (s : Scene K V) (at : IsThere same hash e s) (slot : ℕ) (fits : slot < SLOTS) (given : Setting) (places : ℕ)
    (e2 : Executor K V S) (memory : e2.memory ≡ e.memory)
    (items : e2.workers.items ≡ e.workers.items ++ Some (record { slot = slot; work = work.Making (length e.maps.items) (next_making {V = V} {S = S} hash given places e).machine }) ∷ [])
    (hasher : e2.hasher ≡ e.hasher) (batch_size : e2.batch_size ≡ e.batch_size) (roots : e2.roots ≡ e.roots) (slots : e2.slots.items ≡ e.slots.items) (maps : e2.maps.items ≡ e.maps.items ++ None ∷ []) where
  abbrev b : Beginning K
  b = next_making {V = V} {S = S} hash given places e

  -- its number is no map's
  no_map : s.maps b.map ≡ None
  no_map = none_of (λ standing. standing.setting) (s.maps b.map) (at.maps b.map ∙ get_or_past e.maps.items (length e.maps.items) None (omega arith))

  count : length e2.maps.items ≡ length e.maps.items + 1
  count = ap length maps ∙ length-append e.maps.items _

  settings : (m : ℕ) → option_map (λ standing. standing.setting) (s.maps m) ≡ slice_index_or e2.maps.items m None
  settings m = at.maps m ∙ sym (ap (λ xs. slice_index_or xs m None) maps ∙ one_number e.maps.items m)

  abbrev mid : Executor K V S
  mid = record e2 { maps = e.maps }

  pub making_begins : MakingBegins same hash given places (caller_in e slot) s e e2
  making_begins lawful initial batches mask some sized = (
    memory,
    made_at same hash e s at (caller_in e slot) None (Some (work.Making b.map b.machine)) (fresh_before e slot fits) (λ m. refl) (λ m. refl) mid e2
        (fresh_changes e slot fits (work.Making b.map b.machine) mid items hasher batch_size roots refl slots) refl batch_size roots slots (omega (arith, count))
        s.world (at.held.memory ∙ ap (λ t. t.memory) (sym memory)) (λ j ne. refl) (record { uses = λ t. alike_same (s.world.uses t); on_slot = λ on. on }) (resting same hash e s at slot fits)
        s.maps settings at.held.hashes refl refl (Some b) refl (λ c is. so c is)
        (makings_begin_among {Q = K} V same same e.batch_size e.roots slot_of s.world s.maps s.calls s.makers s.enders at.held.together (caller_in e slot) (no_ending_yet same hash e s at slot fits) b
        (makings_begin {Q = K} V same same e.batch_size e.roots slot_of s.world s.maps s.calls s.makers at.held.together.makings (caller_in e slot) (no_making_yet same hash e s at slot fits)
        (no_calls_yet same hash e s at slot fits) b.map no_map (λ j d has is. absurd (omega (arith, at.numbers j d has, is))) given hash places lawful initial batches mask some sized) refl),
  )
    where
      so : (c : Beginning K) → ◌≡◌ {A = Option (Beginning K)} (Some b) (Some c) → (c.hash ≡ hash) × (c.map < length e2.maps.items)
      so c is =
          let it : b ≡ c = cc is in
          (sym (ap (λ (x : Beginning K). x.hash) it), omega (arith, count, ap (λ (x : Beginning K). x.map) it))
