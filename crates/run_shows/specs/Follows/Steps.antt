-- Where a step of a call leads: the moment after its effects, and what is noted then, show the scene after it.
use Rattle.std.specs.Prelude.{◌≡◌, ℕ, ◌<◌, Bool, false, List, [], ◌∷◌, Option, Some, None, ◌⊎◌}
use Rattle.std.proofs.Common.{inl, inr}
use Rattle.seize_words.specs.OneMemory.Mem.{Mem, value_at}
use Rattle.seize_words.specs.OneMemory.Word.{block_in}
use Rattle.seize.specs.World.{World}
use Rattle.run_effects.specs.Given.TablesDeclared.node.Node.{Node}
use Rattle.run_effects.specs.Given.TablesDeclared.node.Node.TheVariants as node
use Rattle.run_effects.specs.Given.RawDeclared.machines.machine.Machine.{Machine}
use Rattle.run_effects.specs.Given.RawDeclared.machines.progress.Progress.{Progress}
use Rattle.run_effects.specs.Given.RunsDeclared.effect.Effect.{Effect}
use Rattle.run_effects.specs.Given.RunsDeclared.effect.Effect.TheVariants.{Stored, Deferred, Retired}
use Rattle.run_effects.specs.Given.RunsDeclared.effect.Thing.TheVariants.{APair, ATable}
use Rattle.run_effects.specs.Given.SchedulesEntry.{acting}
use Rattle.run_effects.specs.Given.SchedulesEffects.{new_pair, AtEachEffect}
use Rattle.run_effects.specs.Given.SchedulesMoment.{UnderWay as CallThere, MapThere, Moment}
use Rattle.run_effects.specs.Given.SchedulesViews.{is_in_a_map, map_at}
use Rattle.run_effects.specs.declared.changed.Changed.{Changed}
use Rattle.run_effects.specs.declared.changed.Changed.TheVariants as changed
use Rattle.many_maps.specs.Given.CallersTogether.{UnderWay, OnKey, ForRoom, Counting, OverAll}
use Rattle.many_maps.specs.Endings.{Finishing}
use Rattle.many_maps.specs.Machines.{DidOfKind}
use Rattle.many_maps.specs.Makings.{Beginning}
use Rattle.many_maps.specs.Maps.{Standing}
use Rattle.run_shows.specs.Scenes.Scene.{slot_of}

-- the block that a word names which was written
abbrev pub named_now : Changed → ℕ
named_now (changed.Wrote at old new) = block_in new
named_now _ = 0

module _ {K V : Type 0} where
  -- the pair that this block holds the call has to store, as the one of this number
  abbrev pub HasToStore : Mem (Node K V) → ℕ → Option (CallThere K V) → ℕ → Type 0
  HasToStore memory b (Some c) n = (k : K) × (v : V) × (new_pair c.call c n ≡ (k, v) ∷ []) × (value_at memory b ≡ Some (node.Pair k v))
  HasToStore memory b None n = ⊥

  -- what is stored the call has to store
  abbrev pub HasPair : Mem (Node K V) → ℕ → Option (CallThere K V) → Effect → Type 0
  HasPair memory b o (Stored n s) = HasToStore memory b o n
  HasPair memory b o _ = Unit {0}

  -- each pair that these effects of a call store is one that it has to store
  abbrev pub StoreTheirs : Mem (Node K V) → Changed → List ℕ → ℕ → List Effect → Moment K V → Type 0
  StoreTheirs memory told caller map effects m = AtEachEffect (λ v f. HasPair memory (named_now told) (acting (Some caller) v) f) (Some caller) (Some map) effects m

  -- what is handed over has left its map: a pair, or a table that the root has passed, if the map is there still
  abbrev pub HasLeft : Moment K V → Effect → Type 0
  HasLeft m (Deferred n t) = is_in_a_map (m.place n) ≡ false
  HasLeft m (Retired (APair n)) = is_in_a_map (m.place n) ≡ false
  HasLeft m (Retired (ATable t)) = (there : MapThere) → map_at t.map m ≡ Some there → t.turn < there.first
  HasLeft m _ = Unit {0}

  abbrev pub HandTheirs : List ℕ → ℕ → List Effect → Moment K V → Type 0
  HandTheirs caller map effects m = AtEachEffect HasLeft (Some caller) (Some map) effects m

-- no block was taken away
abbrev pub TakesNone : Changed → Type 0
TakesNone (changed.Took b) = ⊥
TakesNone _ = Unit {0}

-- the first of two
abbrev pub IsFirst : {A B : Type 0} → A ⊎ B → Type 0
IsFirst (inl a) = Unit {0}
IsFirst (inr b) = ⊥

module _ {K V : Type 0} (same : K → K → Bool) (batch_size roots : ℕ) (w : World (Node K V)) (maps : ℕ → Option (Standing K)) (calls : ℕ → ℕ → Option (UnderWay K V K))
    (makers : ℕ → Option (Beginning K)) (enders : ℕ → Option (Finishing K V)) (m : ℕ) (s : Standing K) (i : ℕ) (m2 : Mem (Node K V)) (w2 : World (Node K V))
    (maps2 : ℕ → Option (Standing K)) (next : Option (UnderWay K V K)) where
  abbrev pub Did : UnderWay K V K → Machine K V K → Progress (Node K V) → Type 0
  Did u machine told = DidOfKind V same same batch_size roots slot_of w maps calls makers enders m s i m2 w2 maps2 next u machine told

  -- the step was none of a row of the collector
  abbrev pub IsOfNoRow : (u : UnderWay K V K) (machine : Machine K V K) (told : Progress (Node K V)) → Did u machine told → Type 0
  IsOfNoRow (OnKey u) machine told did = IsFirst did.4
  IsOfNoRow (ForRoom r) machine told did = IsFirst did.4
  IsOfNoRow (Counting sum) machine told did = Unit {0}
  IsOfNoRow (OverAll o) machine told did = IsFirst did.4
