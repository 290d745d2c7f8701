-- What is held before and after a step, whoever takes it, and that a scene is that of it.
use Rattle.std.specs.Prelude.{◌≡◌, ◌<◌, ◌^◌, ℕ, Bool, Some}
use Rattle.seize_words.specs.OneMemory.Mem.{Mem}
use Rattle.run_effects.specs.Given.TablesDeclared.node.Node.{Node}
use Rattle.run_effects.specs.declared.changed.Changed.{Changed}
use Rattle.many_maps.specs.Given.CallersRows.{IsRowOn}
use Rattle.many_maps.specs.Endings.{EndingsTogether}
use Rattle.many_maps.specs.Makings.{Beginning}
use Rattle.many_maps.specs.Maps.{Standing}
use Rattle.run_shows.specs.Scenes.Scene.{Scene, slot_of}

-- the memory, and what its last operation has changed; from so many blocks on a batch is tried; and there are so many roots
pub record Held (K V : Type 0) : Type 0 where
  pub memory : Mem (Node K V)
  pub changed : Changed
  pub batch_size : ℕ
  pub roots : ℕ

-- Each map has a hash, by its number.
module _ {K V : Type 0} (same : K → K → Bool) (hash : ℕ → K → ℕ) where
  -- The scene is that of what is held: it has the memory, the invariant of all holds in it, the keys of a map have the map's hash, also while it is made, and a
  -- row works on the slot of its caller.
  pub record IsAt (h : Held K V) (s : Scene K V) : Type 0 where
    pub memory : s.world.memory ≡ h.memory
    pub together : EndingsTogether V same same h.batch_size h.roots slot_of s.world s.maps s.calls s.makers s.enders
    pub hashes : (m : ℕ) (standing : Standing K) → s.maps m ≡ Some standing → standing.hash ≡ hash m
    pub hashes_made : (i : ℕ) (b : Beginning K) → s.makers i ≡ Some b → b.hash ≡ hash b.map
    pub on_slots : (i : ℕ) → IsRowOn (slot_of i) (s.world.row i)
    pub small : h.batch_size < 2 ^ 64
