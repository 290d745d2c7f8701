-- The scene to which an act leads is that of what is held then.
use Rattle.std.specs.Prelude.{◌≢◌, Option, Some}
use Rattle.std.proofs.Common.{◌≡◌, ◌⊎◌, ℕ, Bool, inl, inr, refl, sym, ap, subst, ◌∙◌}
use Rattle.std.proofs.lemmas.Bool.{cases_eq}
use Rattle.run_shows.specs.Given.SeizeWordsMem.{Mem}
use Rattle.run_shows.specs.Given.SeizeWorld.{World, with_at}
use Rattle.run_shows.specs.Given.TablesDeclared.node.Node.{Node}
use Rattle.run_shows.specs.Given.EffectsDeclared.changed.Changed.{Changed}
use Rattle.owner_facts.specs.Given.CallersRows.{IsRowOn}
use Rattle.owner_facts.specs.Given.CallersTogether.{UnderWay}
use Rattle.owner_facts.proofs.Given.CallersTogether.At.{at_same, at_other}
use Rattle.owner_facts.specs.Given.FinishesEndings.{EndingsTogether}
use Rattle.owner_facts.specs.Given.FinishesMakings.{Beginning}
use Rattle.owner_facts.specs.Given.FinishesMaps.{Standing, IsSameMap}
use Rattle.run_shows.proofs.Scenes.Goes.{same_map_keeps}
use Rattle.run_shows.specs.Scenes.Held.{Held, IsAt}
use Rattle.run_shows.specs.Scenes.Scene.{Scene, slot_of}
use Rattle.many_acts.specs.Acts.AsSteps.{held_in}

module _ {K V : Type 0} (batch_size roots : ℕ) where
  -- what is held is that of its memory and of what was changed
  pub held_as : (m m2 : Mem (Node K V)) (c c2 : Changed) → m ≡ m2 → c ≡ c2
      → ◌≡◌ {A = Held K V} (record { memory = m; changed = c; batch_size = batch_size; roots = roots }) (record { memory = m2; changed = c2; batch_size = batch_size; roots = roots })
  held_as m m2 c c2 same_memory same_change =
      ap (λ (x : Mem (Node K V)). record { memory = x; changed = c; batch_size = batch_size; roots = roots }) same_memory
      ∙ ap (λ (x : Changed). record { memory = m2; changed = x; batch_size = batch_size; roots = roots }) same_change

module _ {K V : Type 0} (same : K → K → Bool) (hash : ℕ → K → ℕ) (batch_size roots : ℕ) (s : Scene K V) (before : Changed) (at : IsAt same hash (held_in batch_size roots before s) s) where
  abbrev pub Stand : Scene K V → Type 0
  Stand n = EndingsTogether V same same batch_size roots slot_of n.world n.maps n.calls n.makers n.enders

  -- each map has its hash
  abbrev pub Hashed : (ℕ → Option (Standing K)) → Type 0
  Hashed maps = (m : ℕ) (standing : Standing K) → maps m ≡ Some standing → standing.hash ≡ hash m

  -- each row works on the slot of its caller
  abbrev pub OnSlots : World (Node K V) → Type 0
  OnSlots w = (j : ℕ) → IsRowOn (slot_of j) (w.row j)

  -- all maps are as they were, but for what may be looked at
  pub same_hashed : (maps2 : ℕ → Option (Standing K)) → ((m : ℕ) → IsSameMap (s.maps m) (maps2 m)) → Hashed maps2
  same_hashed maps2 as_they_were m = (same_map_keeps (hash m) (s.maps m) (maps2 m) (at.hashes m) (as_they_were m)).hashes

  -- one caller's row has changed
  pub one_on_slot : (i : ℕ) (w2 : World (Node K V)) → IsRowOn (slot_of i) (w2.row i) → ((j : ℕ) → j ≢ i → w2.row j ≡ s.world.row j) → OnSlots w2
  one_on_slot i w2 its others j = by (cases_eq j i)
    where
      by : (j ≡ i) ⊎ (j ≢ i) → IsRowOn (slot_of j) (w2.row j)
      by (inl e) = subst (λ (x : ℕ). IsRowOn (slot_of x) (w2.row x)) (sym e) its
      by (inr ne) = subst (IsRowOn (slot_of j)) (sym (others j ne)) (at.on_slots j)

  -- one caller makes another map, or none
  pub one_made : (i : ℕ) (next : Option (Beginning K)) → ((b : Beginning K) → next ≡ Some b → b.hash ≡ hash b.map) → (j : ℕ) (b : Beginning K) → with_at s.makers i next j ≡ Some b
      → b.hash ≡ hash b.map
  one_made i next its j b makes = by (cases_eq j i)
    where
      by : (j ≡ i) ⊎ (j ≢ i) → b.hash ≡ hash b.map
      by (inl e) = its b (sym (at_same s.makers i next j e) ∙ makes)
      by (inr ne) = at.hashes_made j b (sym (at_other s.makers i next j ne) ∙ makes)

  -- what is so of calls alone, or of ends
  pub calls_there : (calls2 : ℕ → ℕ → Option (UnderWay K V K)) (changed : Changed) → Stand (record s { calls = calls2 }) → IsAt same hash (held_in batch_size roots changed s) (record s { calls = calls2 })
  calls_there calls2 changed together = record {
    memory = refl;
    together = together;
    hashes = at.hashes;
    hashes_made = at.hashes_made;
    on_slots = at.on_slots;
    small = at.small;
  }
