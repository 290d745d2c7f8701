-- A caller reclaims all by acts: each of its steps is computed from the memory, and from what that was free to choose.
use Rattle.std.specs.Prelude.{◌≡◌, ℕ, ◌<◌, ◌^◌, Bool, false, List, Option, Some}
use Rattle.std.specs.Option.{is_none}
use Rattle.run_shows.specs.Given.SeizeWordsMem.{Mem, Can, Took, value_at}
use Rattle.run_shows.specs.Given.SeizeWordsPlan.{May, Steps}
use Rattle.run_shows.specs.Given.SeizeReclaimAll.{reclaim_all_plan}
use Rattle.run_shows.specs.Given.SeizeDeclared.rows.reclaim_all.ReclaimAll.{ReclaimAll}
use Rattle.run_shows.specs.Given.SeizeDeclared.rows.settle.Settled.{Settled}
use Rattle.seize_acts.specs.Acts.Answers.{Grant, stepped}
use Rattle.run_shows.specs.Given.TablesNodes.{deferred_word, was_left}
use Rattle.run_shows.specs.Given.TablesDeclared.node.Node.{Node}
use Rattle.run_shows.specs.Reclaims.Reclaims.{ReclaimingTogether, StepsOfReclaiming}
use Rattle.run_shows.specs.Scenes.Scene.{Scene}

-- what its next step comes to, if the memory may choose so
abbrev pub reclaiming_steps : {K V : Type 0} → Scene K V → Grant → ReclaimAll → Option (Mem (Node K V) × (ReclaimAll × Settled (Node K V)))
reclaiming_steps s g c = stepped s.world.memory g (reclaim_all_plan deferred_word was_left c)

module _ {K : Type 0} (V : Type 0) (same : K → K → Bool) (batch_size roots : ℕ) (slot : ℕ → ℕ) where
  -- in this scene nobody has anything under way but this caller, who reclaims all, and these lists are behind the roots still
  abbrev pub IsReclaimingAll : Scene K V → ℕ → (ℕ → List ℕ) → ReclaimAll → Type 0
  IsReclaimingAll s i lists c = ReclaimingTogether V same same batch_size roots slot s.maps s.calls s.makers s.enders s.world i lists c

  -- From this scene a step of it has led to that one, and told this: it is as its law says.
  pub record ReclaimedOn (s : Scene K V) (i : ℕ) (lists : ℕ → List ℕ) (c : ReclaimAll) (g : Grant) (told : Settled (Node K V)) (n : Scene K V) (lists2 : ℕ → List ℕ) (c2 : ReclaimAll) : Type 0 where
    pub memory : Mem (Node K V)
    pub computed : reclaiming_steps s g c ≡ Some (memory, (c2, told))
    pub did : StepsOfReclaiming V same same batch_size roots slot s.maps s.calls s.makers s.enders s.world i lists c.stands memory c2 told
    pub comes : n ≡ record s { world = did.w2; maps = did.maps2 }
    pub lists_are : lists2 ≡ did.lists2

  -- The promise: whichever step of it is taken, it may be taken, and is that of an act, with some choice of the memory. Each such act leads on, to where the
  -- caller reclaims all still, or has come to its end.
  abbrev pub ReclaimingIsByActs : Type 0
  ReclaimingIsByActs =
      batch_size < 2 ^ 64 → (s : Scene K V) (i : ℕ) (lists : ℕ → List ℕ) (c : ReclaimAll) → IsReclaimingAll s i lists c
      → May Can Took value_at s.world.memory (reclaim_all_plan deferred_word was_left c)
      × ((m2 : Mem (Node K V)) (end : ReclaimAll × Settled (Node K V)) → Steps Took value_at s.world.memory (reclaim_all_plan deferred_word was_left c) m2 end
      → (g : Grant) × (reclaiming_steps s g c ≡ Some (m2, end)))
      × ((g : Grant) → is_none (reclaiming_steps s g c) ≡ false
      → (told : Settled (Node K V)) × (n : Scene K V) × (lists2 : ℕ → List ℕ) × (c2 : ReclaimAll) × ReclaimedOn s i lists c g told n lists2 c2 × IsReclaimingAll n i lists2 c2)
