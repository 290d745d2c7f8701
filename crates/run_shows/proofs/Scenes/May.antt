-- What a caller has under way may take its next step: all that the step looks at is there.
use Rattle.std.specs.Prelude.{◌≡◌, ℕ, Bool, List, Option, Some, None}
use Rattle.std.proofs.Common.{refl, subst}
use Rattle.seize_words.specs.OneMemory.Mem.{Mem, Can, Took, value_at}
use Rattle.seize_words.specs.OneMemory.Plan.{May}
use Rattle.seize.specs.declared.rows.reclaim_all.ReclaimAll.{ReclaimAll}
use Rattle.seize.specs.ReclaimAll.{reclaim_all_plan}
use Rattle.seize.specs.World.{Row, MayStep}
use Rattle.run_effects.specs.Given.TablesNodes.{deferred_word, was_left}
use Rattle.run_effects.specs.Given.TablesDeclared.node.Node.{Node}
use Rattle.run_effects.specs.Given.ResizeNewMap.{new_map_plan}
use Rattle.run_effects.specs.Given.RawEndMap.{end_map_plan}
use Rattle.run_effects.specs.Given.RawMachine.{machine_plan}
use Rattle.many_maps.specs.Given.CallersTogether.{UnderWay}
use Rattle.many_maps.specs.Endings.{Finishing}
use Rattle.many_maps.specs.Machines.{machine_of}
use Rattle.many_maps.specs.Makings.{Beginning}
use Rattle.many_maps.specs.Maps.{Standing}
use Rattle.many_maps.proofs.Among.Machines.{machines_stand_among}
use Rattle.many_maps.proofs.Among.Makings.{makings_stand_among}
use Rattle.many_maps.proofs.Among.Own.Steps.{endings_stand}
use Rattle.many_maps.proofs.Among.Rows.{guards_stand_among}
use Rattle.run_shows.proofs.Reclaims.Promised.{reclaiming_stands}
use Rattle.run_shows.proofs.Scenes.NoCall.{none_is}
use Rattle.run_shows.specs.Scenes.Held.{Held, IsAt}
use Rattle.run_shows.specs.Scenes.Reclaiming.{IsReclaiming}
use Rattle.run_shows.specs.Scenes.Scene.{Scene, IsOnSlot, slot_of, row_of}
use Rattle.run_shows.specs.declared.row.SlotRow.{SlotRow}

module _ {K V : Type 0} (same : K → K → Bool) (hash : ℕ → K → ℕ) (h : Held K V) (s : Scene K V) (at : IsAt same hash h s) where
  -- the map of a call stands
  pub standing_is : (m i : ℕ) (u : UnderWay K V K) → s.calls m i ≡ Some u → (standing : Standing K) × (s.maps m ≡ Some standing)
  standing_is m i u here = of (s.maps m) refl
    where
      of : (it : Option (Standing K)) → s.maps m ≡ it → (standing : Standing K) × (s.maps m ≡ Some standing)
      of None none = absurd (cc (here, at.together.makings.standing.only m i none))
      of (Some standing) is = (standing, is)

  -- a call
  pub may_step : (m : ℕ) (standing : Standing K) → s.maps m ≡ Some standing → (i : ℕ) (u : UnderWay K V K) → s.calls m i ≡ Some u
      → May Can Took value_at h.memory (machine_plan same same standing.hash (machine_of u))
  may_step m standing stands i u here =
      subst (λ (x : Mem (Node K V)). May Can Took value_at x (machine_plan same same standing.hash (machine_of u))) at.memory
      (machines_stand_among V same same h.batch_size h.roots slot_of s.world s.maps s.calls s.makers s.enders at.together m standing stands i u here).0

  -- the making of a map
  pub may_make : (i : ℕ) (b : Beginning K) → s.makers i ≡ Some b → May Can Took value_at h.memory (new_map_plan {K = K} {V = V} b.machine)
  may_make i b here =
      subst (λ (x : Mem (Node K V)). May Can Took value_at x (new_map_plan {K = K} {V = V} b.machine)) at.memory
      (makings_stand_among {Q = K} V same same h.batch_size h.roots slot_of s.world s.maps s.calls s.makers s.enders at.together i b here).0

  -- the end of a map
  pub may_end : (i : ℕ) (f : Finishing K V) → s.enders i ≡ Some f → May Can Took value_at h.memory (end_map_plan {K = K} {V = V} f.machine)
  may_end i f here =
      subst (λ (x : Mem (Node K V)). May Can Took value_at x (end_map_plan {K = K} {V = V} f.machine)) at.memory
      (endings_stand {Q = K} V same same h.batch_size h.roots slot_of s.world s.maps s.calls s.makers s.enders at.together i f here).0

  -- a row on a slot
  pub may_row : (i : ℕ) (row : SlotRow) → IsOnSlot s i row → MayStep deferred_word (row_of row) h.memory
  may_row i row here =
      subst (λ (r : Row). MayStep deferred_word r h.memory) here.1
      (subst (λ (m : Mem (Node K V)). MayStep deferred_word (s.world.row i) m) at.memory
      (guards_stand_among {Q = K} V same same h.batch_size h.roots slot_of s.world s.maps s.calls s.makers s.enders at.together i (λ m. none_is (s.calls m i) (here.0 m))).1)

-- and all that is being reclaimed may go on to be so
module _ {K V : Type 0} (same : K → K → Bool) (hash : ℕ → K → ℕ) (h : Held K V) (s : Scene K V) (i : ℕ) (lists : ℕ → List ℕ) (all : ReclaimAll) (at : IsReclaiming same hash h s i lists all) where
  pub may_reclaim : May Can Took value_at h.memory (reclaim_all_plan (deferred_word {K = K} {V = V}) was_left all)
  may_reclaim =
      subst (λ (m : Mem (Node K V)). May Can Took value_at m (reclaim_all_plan (deferred_word {K = K} {V = V}) was_left all)) at.memory
      (reclaiming_stands {Q = K} V same same h.batch_size h.roots slot_of s.maps s.calls s.makers s.enders s.world i lists all at.small at.under_way).0
