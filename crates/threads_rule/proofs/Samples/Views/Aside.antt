-- Who leans on another seat only looks keys up in blocking mode: one that stores is refused.
use Rattle.std.specs.Prelude.{ℕ, Bool, Option, Some}
use Rattle.std.proofs.Common.{◌≡◌, subst, ap}
use Rattle.map_tables.specs.Chunks.{is_incremental}
use Rattle.map_tables.specs.declared.resize_mode.ResizeMode.TheVariants.{Incremental, Blocking}
use Rattle.many_acts.specs.Acts.Acts.{Get, Insert}
use Rattle.many_acts.specs.Given.ScenesScene.{Scene}
use Rattle.threads_rule.specs.Views.Begun.{machine_for}
use Rattle.threads_rule.specs.Views.Rule.{LooksAside, MayWant, Fits}
use Rattle.threads_rule.specs.declared.view.Map.{Map}
use Rattle.threads_rule.specs.declared.view.SeatWork.{SeatWork}
use Rattle.threads_rule.specs.declared.view.SeatWork.TheVariants.{Calls}
use Rattle.threads_rule.specs.declared.view.View.{View}

module _ {K V S : Type 0} (same : K → K → Bool) (hash : S → K → ℕ) (n t : ℕ) (map : Map S) (key : K) (value : V) where
  abbrev stores : SeatWork K V S
  stores = Calls (machine_for same hash map t (Insert key value))

  -- in either mode it looks keys up
  may_look_up : MayWant {V = V} same hash (Some (n, t)) map (Get key)
  may_look_up slot blocks writes = writes

  -- in incremental mode it stores, too
  may_store : (chunk : ℕ) → map.setting.mode ≡ Incremental chunk → MayWant same hash (Some (n, t)) map (Insert key value)
  may_store chunk is slot blocks writes = let goes = ap is_incremental is in cc (goes, blocks)

  module _ (blocking : map.setting.mode ≡ Blocking) where
    -- in blocking mode it may not begin to,
    begins_to_store : MayWant same hash (Some (n, t)) map (Insert key value) → ⊥
    begins_to_store may = may t (ap is_incremental blocking) tt

    -- nor is it storing.
    is_storing : (s : Scene K V) (j : ℕ) (v : View K V S) → v.under ≡ Some (n, t) → v.map ≡ Some map → v.work ≡ stores → Fits same hash s j v → ⊥
    is_storing s j v under knows work fits = aside (ap is_incremental blocking) tt
      where
        aside : LooksAside (Some (n, t)) (Some map) stores
        aside = subst (λ (u : Option (ℕ × ℕ)). LooksAside u (Some map) stores) under
            (subst (λ (m : Option (Map S)). LooksAside v.under m stores) knows (subst (λ (w : SeatWork K V S). LooksAside v.under v.map w) work fits.only))
