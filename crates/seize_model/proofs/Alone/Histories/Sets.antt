-- What has happened to the memory of one owner says which slots are active, and what the heads of vacant ones are.
use Rattle.std.specs.Prelude.{Option}
use Rattle.std.proofs.Common.{◌≡◌, ℕ, ◌+◌, ◌<◌, ◌≤◌, ◌^◌, refl, ap}
use Rattle.seize.specs.Given.SeizeWordsMem.{Mem}
use Rattle.seize.specs.declared.states.TheConstants.{LAST_SLOT}
use Rattle.seize.specs.WaitingSets.{all_changed, at_start as sets_at_start}
use Rattle.seize.specs.World.{Vacant, at_start}
use Rattle.seize_model.specs.Alone.Alone.{History, IsHistory, at_rest}
use Rattle.seize_rule.proofs.Given.SeizeMovesSets.Shown.{ascending}
use Rattle.seize_model.proofs.Sets.Turns.All.{turns_shown, start_shown}
use Rattle.seize_model.proofs.Sets.Reclaims.Sets.{is_inside, active_is}

module _ {T : Type 0} (defers : T → Option ℕ) (batch_size roots : ℕ) (m : Mem T) (h : History) (had : IsHistory defers batch_size roots m h) where
  -- the active slots are those inside a section, ascending
  pub active_now : batch_size < 2 ^ 64 → (slots : ℕ) → slots ≤ LAST_SLOT + 1 → ((t : ℕ) → slots ≤ t → h.uses t ≡ Vacant)
      → ascending (λ t. is_inside (h.uses t)) slots ≡ (all_changed batch_size h.before sets_at_start).sets.active
  active_now word slots le none =
      active_is defers (LAST_SLOT + 1) batch_size refl word 0 (at_rest defers m h) (all_changed batch_size h.before sets_at_start).sets
      (turns_shown defers (LAST_SLOT + 1) batch_size refl word had.0 (at_start defers roots) (at_rest defers m h) h.before sets_at_start
      (start_shown defers (LAST_SLOT + 1) batch_size refl word roots) had.1)
      slots le (λ t l. ap is_inside (none t l))
