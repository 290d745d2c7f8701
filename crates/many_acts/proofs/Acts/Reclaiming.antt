-- The steps of a caller that reclaims all are those of acts.
use Rattle.std.specs.Prelude.{◌≡◌, ℕ, Bool, List, Some}
use Rattle.std.proofs.Common.{refl}
use Rattle.run_shows.specs.Given.SeizeWordsMem.{Mem}
use Rattle.run_shows.specs.Given.SeizeReclaimAll.{reclaim_all_plan}
use Rattle.run_shows.specs.Given.SeizeDeclared.rows.reclaim_all.ReclaimAll.{ReclaimAll}
use Rattle.run_shows.specs.Given.SeizeDeclared.rows.settle.Settled.{Settled}
use Rattle.seize_acts.specs.Acts.Answers.{Grant}
use Rattle.seize_acts.proofs.Acts.Answers.{was_stepped}
use Rattle.seize_acts.proofs.Acts.Steps.{steps_so}
use Rattle.run_shows.specs.Given.TablesNodes.{deferred_word, was_left}
use Rattle.run_shows.specs.Given.TablesDeclared.node.Node.{Node}
use Rattle.run_shows.specs.Reclaims.Reclaims.{StepsOfReclaiming}
use Rattle.run_shows.proofs.Reclaims.Promised.{reclaiming_stands}
use Rattle.many_acts.specs.Acts.Reclaiming.{reclaiming_steps, ReclaimedOn, IsReclaimingAll, ReclaimingIsByActs}
use Rattle.many_acts.proofs.Acts.Tests.{some_is}
use Rattle.run_shows.specs.Scenes.Scene.{Scene}

module _ {K : Type 0} (V : Type 0) (same : K → K → Bool) (batch_size roots : ℕ) (slot : ℕ → ℕ) where
  pub reclaiming_is_by_acts : ReclaimingIsByActs V same batch_size roots slot
  reclaiming_is_by_acts word s i lists c all = (
    (reclaiming_stands V same same batch_size roots slot s.maps s.calls s.makers s.enders s.world i lists c word all).0,
    λ m2 end st. steps_so s.world.memory (reclaim_all_plan deferred_word was_left c) m2 end
        (reclaiming_stands V same same batch_size roots slot s.maps s.calls s.makers s.enders s.world i lists c word all).0 st,
    λ g may. (let found = some_is (reclaiming_steps s g c) may in leads g found.0.0 found.0.1.0 found.0.1.1 found.1),
  )
    where
      leads : (g : Grant) (m2 : Mem (Node K V)) (c2 : ReclaimAll) (told : Settled (Node K V)) → reclaiming_steps s g c ≡ Some (m2, (c2, told))
          → (told : Settled (Node K V)) × (n : Scene K V) × (lists2 : ℕ → List ℕ) × (c2 : ReclaimAll) × ReclaimedOn V same batch_size roots slot s i lists c g told n lists2 c2
          × IsReclaimingAll V same batch_size roots slot n i lists2 c2
      leads g m2 c2 told computed =
          let did : StepsOfReclaiming V same same batch_size roots slot s.maps s.calls s.makers s.enders s.world i lists c.stands m2 c2 told =
          (reclaiming_stands V same same batch_size roots slot s.maps s.calls s.makers s.enders s.world i lists c word all).1 m2 c2 told
          (was_stepped s.world.memory g (reclaim_all_plan deferred_word was_left c) (m2, (c2, told)) computed) in
          (told, record s { world = did.w2; maps = did.maps2 }, did.lists2, c2, record { memory = m2; computed = computed; did = did; comes = refl; lists_are = refl }, did.next)
