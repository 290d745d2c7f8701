-- What is known to be held for a seat that leans on another one that one keeps; and what seats keep is there.
use Rattle.std.specs.Prelude.{Option, Some, IsSome, true}
use Rattle.std.proofs.Common.{◌≡◌, ℕ, Bool, ◌⊎◌, inl, inr, sym, subst, ap, ◌∙◌}
use Rattle.seize_words.specs.OneMemory.Mem.{Mem, value_at}
use Rattle.seize.specs.Law.{holds}
use Rattle.map_tables.specs.Nodes.{deferred_word}
use Rattle.map_tables.specs.declared.node.Node.{Node}
use Rattle.many_acts.proofs.Given.CallersTogether.Came.{came_reached}
use Rattle.many_acts.specs.Given.ScenesScene.{Scene}
use Rattle.seize_model.proofs.Alone.Histories.NotTaken.{IsHeld as IsHeldBy, kept_there}
use Rattle.seize_views.specs.declared.view.Has.TheVariants.{Nothing as NoBlock}
use Rattle.seize_views.specs.declared.view.SlotView.TheVariants.{Inside}
use Rattle.threads_rule.specs.Views.Promises.{HeldAreKept, KeptAreThere}
use Rattle.threads_rule.specs.Views.Rule.{IsInSection, IsOfCall, IsOfMap, KeepsFor, section_of}
use Rattle.threads_rule.specs.declared.view.Map.{Map}
use Rattle.threads_rule.specs.declared.view.View.{View}
use Rattle.threads_rule.specs.declared.view.SeatWork.{SeatWork}
use Rattle.threads_rule.proofs.Views.Held.{held_of}
use Rattle.threads_rule.proofs.Views.Moved.{all_stand}
use Rattle.seize_words.proofs.General.{same_some}

module _ {K S : Type 0} (V : Type 0) (same : K → K → Bool) (hash : S → K → ℕ) where
  pub held_are_kept : HeldAreKept V same hash
  held_are_kept fixed i n t k b v u o x leans free same_map shown s h at_i at_n at_k =
      by (held_of same hash s.world.scene v.under v.slot v.map v.work b x v.held (h.so.seats i v at_i).held shown).1
    where
      inside : (a : ℕ) → section_of v.under v.slot ≡ Some a → t ≡ a
      inside a section = same_some t a (sym (ap (λ (p : Option (ℕ × ℕ)). section_of p v.slot) leans) ∙ section)

      of : IsOfMap v.map b s.world.scene.world → IsOfMap o.map b s.world.scene.world ⊎ IsOfMap o.own b s.world.scene.world
      of is = elim same_map as (λ _. IsOfMap o.map b s.world.scene.world ⊎ IsOfMap o.own b s.world.scene.world) [
        | inl its ↦ inl (subst (λ (m : Option (Map S)). IsOfMap m b s.world.scene.world) (sym its) is)
        | inr its ↦ inr (subst (λ (m : Option (Map S)). IsOfMap m b s.world.scene.world) (sym its) is)
      ]

      by : IsInSection same hash s.world.scene v.under v.slot v.map b ⊎ IsOfCall same hash v.work b → KeepsFor u o s.world b
      by (inl (a, section, held, is)) =
          let base = h.so.leant i n t v at_i leans in
          let one = same_some base.0 u (sym base.1 ∙ at_n) in
          (a, NoBlock, ap (λ (y : View K V S). y.slot) (sym one) ∙ base.2 ∙ ap (λ (c : ℕ). Inside c NoBlock) (inside a section), held, of is)
      by (inr its) = absurd (subst (λ (y : SeatWork K V S). IsOfCall same hash y b) free its)

  pub kept_are_there : KeptAreThere V same hash
  kept_are_there fixed s j u k o b h at_j at_k keeps =
      subst (λ (m : Mem (Node K V)). IsSome (value_at m b)) (sym h.so.memory)
      (subst (λ (y : Scene K V). IsSome (value_at y.world.memory b)) (sym h.scene)
      (kept_there deferred_word fixed.batch_size h.reached.0.0.world (came_reached fixed.batch_size h.reached.0.0.world (all_stand same hash fixed s h).makings.standing.came) b
      (IsHeldBy keeps.0 (subst (λ (y : Scene K V). holds keeps.0 b y.world.log ≡ true) h.scene keeps.3))))
