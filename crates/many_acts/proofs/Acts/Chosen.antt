-- A choice of a number comes: all stand together as they did, and what ended maps have left is where it was.
use Rattle.std.specs.Prelude.{◌≡◌, ◌⊎◌, ℕ, Bool, List, [], ◌∷◌}
use Rattle.std.proofs.Common.{inl, inr, refl}
use Rattle.run_shows.specs.Given.SeizeWorld.{World}
use Rattle.run_shows.specs.Given.TablesDeclared.node.Node.{Node}
use Rattle.owner_facts.proofs.Given.FinishesAmong.Choices.{choices_stand_among}
use Rattle.run_shows.specs.Reclaims.Left.{IsSomebodys}
use Rattle.run_shows.specs.Reclaims.Reclaims.{RootLeads}
use Rattle.run_shows.specs.Given.SeizeFurther.{ListFrom}
use Rattle.many_acts.specs.Acts.Doings.{IsLeft, scene_chosen}
use Rattle.many_acts.specs.Acts.Leads.{AllStand}
use Rattle.run_shows.specs.Scenes.Scene.{Scene}

module _ {K V : Type 0} (choice roots : ℕ) (s : Scene K V) where
  abbrev then_in : World (Node K V)
  then_in = (scene_chosen choice s).world

  -- what is behind roots is so still
  list_then : (word : ℕ) (l : List ℕ) → ListFrom s.world.memory word l → ListFrom then_in.memory word l
  list_then word [] is = is
  list_then word (b ∷ l) (next, some, is, entry, rest) = (next, some, is, entry, list_then next l rest)

  leads_then : (r : ℕ) (l : List ℕ) → RootLeads s.world r l → RootLeads then_in r l
  leads_then r [] leads = leads
  leads_then r (b ∷ l) (value, (word, there, list), used) = (value, (word, there, list_then word (b ∷ l) list), used)

  pub left_chosen : (lists : ℕ → List ℕ) → IsLeft roots s lists → IsLeft roots (scene_chosen choice s) lists
  left_chosen lists left = record {
    root = λ r lt. elim (left.root r lt) as (λ _. IsSomebodys s.maps s.makers s.enders r ⊎ RootLeads then_in r (lists r)) [
      | inl its ↦ inl its
      | inr leads ↦ inr (leads_then r (lists r) leads)
    ];
    none = left.none;
    left = left.left;
    once = left.once;
    apart = left.apart;
  }

module _ {K S : Type 0} (V : Type 0) (same : K → K → Bool) (hash : S → K → ℕ) (batch_size roots : ℕ) (slot : ℕ → ℕ) where
  pub chosen_stand : (s : Scene K V) → AllStand same hash batch_size roots slot s → (choice : ℕ) → AllStand same hash batch_size roots slot (scene_chosen choice s)
  chosen_stand s all choice = choices_stand_among V same same batch_size roots slot s.world s.maps s.calls s.makers s.enders all choice (scene_chosen choice s).world refl
