-- Wherever the steps of reclaiming all have come to their end, its work on slots has reclaimed what the waiting sets of blocks say, in the world of the scene.
use Rattle.std.specs.Prelude.{◌≡◌, ◌<◌, ◌^◌, ◌==◌, ℕ, Bool, true, false, List, if◌then◌else◌}
use Rattle.std.proofs.Common.{refl, sym, subst}
use Rattle.run_grows.specs.Given.SeizeWordsMem.{Mem, Took, value_at}
use Rattle.run_grows.specs.Given.SeizeWordsPlan.{Steps}
use Rattle.run_grows.specs.Given.SeizeReclaimAll.{clearing, reclaim_all_plan, reclaiming_all, standing}
use Rattle.run_grows.specs.Given.SeizeWaitingSets.{Change}
use Rattle.run_grows.specs.Given.SeizeWorld.{World}
use Rattle.run_grows.specs.Given.SeizeDeclared.rows.reclaim_all.ReclaimAll.{ReclaimAll}
use Rattle.run_grows.specs.Given.SeizeDeclared.rows.reclaim_all.Reclaiming.TheVariants as at
use Rattle.run_grows.specs.Given.SeizeDeclared.rows.settle.Settled.{Settled}
use Rattle.run_grows.specs.Given.SeizeDeclared.rows.settle.Settled.TheVariants as settled
use Rattle.run_grows.specs.Given.SeizeSetsReclaims.{is_on_slots}
use Rattle.run_grows.specs.Given.TablesNodes.{deferred_word, was_left}
use Rattle.run_grows.specs.Given.TablesDeclared.node.Node.{Node}
use Rattle.run_grows.specs.Given.EffectsDeclared.changed.Changed.TheVariants.{Nothing}
use Rattle.run_grows.specs.Given.CallersTogether.{CameAbout}
use Rattle.run_grows.specs.Given.ScenesReclaiming.{IsReclaiming, ReclaimingLeads}
use Rattle.run_grows.specs.Given.ModelsReclaims.{HasReclaimed}
use Rattle.run_grows.specs.Given.ModelsTurns.{CameByTurns}
use Rattle.run_legal.specs.AllEvents.{AllCome, AllReclaimBySets, AllSteps}
use Rattle.run_legal.proofs.Chains.{chains_keep}
use Rattle.run_legal.proofs.OfAll.Points.{quiet_there, stays_off}
use Rattle.run_legal.proofs.OfAll.Sets.{SoFarAt, off_so, quiet_so, starts_so, step_at}
use Rattle.run_grows.proofs.Given.ScenesTold.{as_step}
use Rattle.run_grows.specs.Given.ScenesHeld.{Held}
use Rattle.run_grows.specs.Given.ScenesScene.{Scene, slot_of}

-- where only roots are cleared, it has done with slots
clearing_off : (roots : ℕ) → is_on_slots (clearing roots).stands ≡ false
clearing_off roots = by (roots == 0)
  where
    by : (q : Bool) → is_on_slots (if q then standing (reclaiming_all 0 roots) at.Over else standing (reclaiming_all 0 roots) (at.Roots 0)).stands ≡ false
    by true = refl
    by false = refl

-- A step.
module _ {K V : Type 0} (same : K → K → Bool) (hash : ℕ → K → ℕ) (i : ℕ) (old new : Held K V) (s : Scene K V) (lists : ℕ → List ℕ) (before after : ReclaimAll) (said : Settled (Node K V))
    (under_way : IsReclaiming same hash old s i lists before) (leads : ReclaimingLeads same hash s i lists old new before after said) (began : World (Node K V)) (changes : List Change) where
  its_step : Steps Took value_at s.world.memory (reclaim_all_plan deferred_word was_left before) new.memory (after, said)
  its_step =
      subst (λ (m : Mem (Node K V)). Steps Took value_at m (reclaim_all_plan deferred_word was_left before) new.memory (after, said)) (sym under_way.memory)
      (as_step old.memory Nothing (reclaim_all_plan deferred_word was_left before) new.memory new.changed (after, said) leads.0)

  off_then : is_on_slots before.stands ≡ false → is_on_slots after.stands ≡ false
  off_then off = stays_off old.memory new.memory new.changed before (after, said) off before.stands off leads.0

  -- with this batch size and so many roots it goes on so
  abbrev pub GoesOn : ℕ → ℕ → Type 0
  GoesOn size roots =
      (small : size < 2 ^ 64) (came : CameByTurns deferred_word size roots began changes) → SoFarAt size roots i small began changes came before s.world before.stands
      → SoFarAt size roots i small began changes came after leads.1.w2 after.stands × (said ≡ settled.Done → HasReclaimed deferred_word size roots began changes leads.1.w2)

  goes_there : GoesOn old.batch_size old.roots
  goes_there small came so =
      step_at old.batch_size old.roots i small began changes came same same slot_of s.maps s.calls s.makers s.enders s.world lists under_way.under_way.stand.together.makings.standing.came
      new.memory after said before.batch_size before.slots before.roots before.again before.stands under_way.under_way.point leads.1 its_step off_then so

  pub goes_on : (size roots : ℕ) → old.batch_size ≡ size → old.roots ≡ roots → GoesOn size roots
  goes_on size roots size_is roots_are = subst (λ (b : ℕ). GoesOn b roots) size_is (subst (λ (r : ℕ). GoesOn old.batch_size r) roots_are goes_there)

module _ (K V : Type 0) (same : K → K → Bool) (hash : ℕ → K → ℕ) where
  pub all_reclaim_by_sets : AllReclaimBySets K V same hash
  all_reclaim_by_sets terms small i n from to over begins chain last done changes came =
      subst HasIn (sym last.comes) ((goes to over last (chains_keep SoFarIn (AllSteps same hash terms i) keeps n from to chain (first begins.taken begins.first))).1 done)
    where
      HasIn : AllCome K V → Type 0
      HasIn x = HasReclaimed deferred_word terms.batch_size terms.roots from.come.scene.world changes x.come.scene.world

      SoFarIn : AllCome K V → Type 0
      SoFarIn x = SoFarAt terms.batch_size terms.roots i small from.come.scene.world changes came x.all x.come.scene.world x.all.stands

      goes : (x y : AllCome K V) (step : AllSteps same hash terms i x y) → SoFarIn x
          → SoFarAt terms.batch_size terms.roots i small from.come.scene.world changes came y.all step.leads.1.w2 y.all.stands
          × (step.said ≡ settled.Done → HasReclaimed deferred_word terms.batch_size terms.roots from.come.scene.world changes step.leads.1.w2)
      goes x y step so =
          goes_on same hash i x.come.held y.come.held x.come.scene x.lists x.all y.all step.said step.under_way step.leads from.come.scene.world changes terms.batch_size terms.roots step.size
          step.roots_are small came so

      keeps : (x y : AllCome K V) → AllSteps same hash terms i x y → SoFarIn x → SoFarIn y
      keeps x y step so = subst SoFarIn (sym step.comes) (goes x y step so).0

      came_there : CameAbout terms.batch_size from.come.scene.world
      came_there = subst (λ (b : ℕ). CameAbout b from.come.scene.world) begins.size begins.under_way.under_way.stand.together.makings.standing.came

      first : (taken : Bool) → from.all ≡ (if taken then reclaiming_all terms.batch_size terms.roots else clearing terms.roots) → SoFarIn from
      first true is =
          subst (λ (c : ReclaimAll). SoFarAt terms.batch_size terms.roots i small from.come.scene.world changes came c from.come.scene.world c.stands) (sym is)
          (starts_so terms.batch_size terms.roots i small from.come.scene.world changes came from.come.scene.world refl)
      first false is =
          let off : is_on_slots from.all.stands ≡ false = subst (λ (c : ReclaimAll). is_on_slots c.stands ≡ false) (sym is) (clearing_off terms.roots) in
          let quiet =
          quiet_there from.come.held.batch_size from.come.held.roots i from.all from.come.scene.world from.come.scene.maps from.lists from.all.stands off begins.under_way.under_way.point in
          off_so terms.batch_size terms.roots i small from.come.scene.world changes came from.all from.come.scene.world from.all.stands off
          (quiet_so terms.batch_size terms.roots i small from.come.scene.world changes came came_there quiet)
