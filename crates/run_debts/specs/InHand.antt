-- Which pair a call on one key has in hand once it has taken it out of its map, until it is handed over: by where its machine stands.
use Rattle.std.specs.Prelude.{◌≡◌, ℕ, ◌==◌, Bool, List, [], ◌∷◌, Option, Some, None, ◌⊎◌, if◌then◌else◌}
use Rattle.run_places.specs.Given.SeizeWordsWord.{block_in}
use Rattle.run_places.specs.Given.TablesDeclared.node.Node.{Node}
use Rattle.run_places.specs.Given.ResizeDeclared.dispose.Dispose.{Dispose}
use Rattle.run_places.specs.Given.ResizeDeclared.dispose.Disposing.{Disposing}
use Rattle.run_places.specs.Given.ResizeDeclared.dispose.Disposing.TheVariants as disposing
use Rattle.run_places.specs.Given.ReservesDeclared.sweep.Sweep.{Sweep}
use Rattle.run_places.specs.Given.ReservesDeclared.sweep.Sweeping.{Sweeping}
use Rattle.run_places.specs.Given.ReservesDeclared.sweep.Sweeping.TheVariants as sweeping
use Rattle.run_places.specs.Given.RawDeclared.machines.call.Calling.{Calling}
use Rattle.run_places.specs.Given.RawDeclared.machines.call.Calling.TheVariants as calling
use Rattle.run_places.specs.Given.RawDeclared.machines.call.KeyCall.{KeyCall}
use Rattle.run_places.specs.Given.RawDeclared.machines.machine.Machine.TheVariants as kinds
use Rattle.run_places.specs.Given.RawDeclared.machines.progress.Progress.{Progress}
use Rattle.run_places.specs.Given.RunsDeclared.effect.Effect.{Effect}
use Rattle.run_places.specs.Given.RunsDeclared.effect.Effect.TheVariants.{Stored, Replaced, Removed}
use Rattle.run_places.specs.Given.RunsDeclared.effect.Spot.{Spot}
use Rattle.run_places.specs.Given.SchedulesMoment.{Moment}
use Rattle.owner_facts.specs.Given.CallersOverAll.{CallOverAll}
use Rattle.owner_facts.specs.Given.CallersTogether.{CallOnKey, OnKey, OverAll}
use Rattle.run_places.specs.Given.EffectsEffects.{effects_of}
use Rattle.run_places.specs.Given.EffectsKnown.{Known}
use Rattle.run_places.specs.Given.EffectsDeclared.acting.Acting.TheVariants.{Call}
use Rattle.run_places.specs.Given.EffectsDeclared.role.Role.TheVariants as role
use Rattle.run_places.specs.Given.FollowsShows.{Refines}
use Rattle.run_places.specs.Given.FollowsSteps.{IsOfNoRow}
use Rattle.run_debts.specs.Due.{due_in_disposing, word_due}
use Rattle.run_places.specs.Given.ScenesHeld.{Held, IsAt}
use Rattle.run_places.specs.Given.ScenesScene.{Scene}
use Rattle.run_places.specs.Given.ScenesStepping.{StepLeads}

-- the word of the pair that it disposes of
abbrev pub pair_in_disposing : Dispose → Disposing → Option ℕ
pair_in_disposing d disposing.Reads = Some d.pair
pair_in_disposing d (disposing.Walks table) = Some d.pair
pair_in_disposing d p = word_due (due_in_disposing p)

-- and of one that it counts first
abbrev pub pair_in_calling : Calling → Option ℕ
pair_in_calling (calling.Counts removed) = if removed == 0 then None else Some removed
pair_in_calling (calling.Disposes dispose answer) = pair_in_disposing dispose dispose.stands
pair_in_calling _ = None

-- so it is of a sweep
abbrev pub pair_in_sweeping : Sweeping → Option ℕ
pair_in_sweeping (sweeping.Counts removed) = Some removed
pair_in_sweeping (sweeping.Disposes dispose) = pair_in_disposing dispose dispose.stands
pair_in_sweeping _ = None

-- this pair comes out of its map by these effects
abbrev pub TakesPair : List Effect → ℕ → Type 0
TakesPair effects p = (effects ≡ Removed p ∷ []) ⊎ ((n : ℕ) × (s : Spot) × (effects ≡ Replaced p ∷ Stored n s ∷ []))

-- The promise, of a step of a call on one key that is none of a row: if it takes a pair out of its map, then the call had none in hand, and has that one after it.
abbrev pub CallsTakePending : (K V : Type 0) (same : K → K → Bool) (hash : ℕ → K → ℕ) → Type 0
CallsTakePending K V same hash =
    (name : ℕ → List ℕ) (m : Moment K V) (known : Known) (s : Scene K V) (old new : Held K V) → IsAt same hash old s → Refines same name m known s
    → (map i : ℕ) (x : CallOnKey K V K) (here : s.calls map i ≡ Some (OnKey x)) (said : Progress (Node K V)) (leads : StepLeads same hash i said s old new)
    → (let to = leads map (OnKey x) here in
    IsOfNoRow same old.batch_size old.roots s.world s.maps s.calls s.makers s.enders map to.0 i new.memory to.4.w2 to.4.maps2 to.4.next (OnKey x) to.1 said to.4.did
    → (p : ℕ) → TakesPair (effects_of (Call i map) known new.changed) p
    → (pair_in_calling x.call.stands ≡ None)
    × (p2 : KeyCall K V K) × (to.1 ≡ kinds.Key p2) × (word : ℕ) × (pair_in_calling p2.stands ≡ Some word) × (known.roles (block_in word) ≡ role.Pair p))

-- The promise, of a step that is none of a row, of a call that has a pair in hand: it has that one in hand still.
abbrev pub CallsHoldTheirs : (K V : Type 0) (same : K → K → Bool) (hash : ℕ → K → ℕ) → Type 0
CallsHoldTheirs K V same hash =
    (name : ℕ → List ℕ) (m : Moment K V) (known : Known) (s : Scene K V) (old new : Held K V) → IsAt same hash old s → Refines same name m known s
    → (map i : ℕ) (x : CallOnKey K V K) (here : s.calls map i ≡ Some (OnKey x)) (said : Progress (Node K V)) (leads : StepLeads same hash i said s old new)
    → (let to = leads map (OnKey x) here in
    IsOfNoRow same old.batch_size old.roots s.world s.maps s.calls s.makers s.enders map to.0 i new.memory to.4.w2 to.4.maps2 to.4.next (OnKey x) to.1 said to.4.did
    → (word : ℕ) → pair_in_calling x.call.stands ≡ Some word
    → (p2 : KeyCall K V K) × (to.1 ≡ kinds.Key p2) × (word2 : ℕ) × (pair_in_calling p2.stands ≡ Some word2) × (block_in word2 ≡ block_in word))

-- The promise, of a step of a sweep that is none of a row: if it removes a pair, then it is about to count that.
abbrev pub SweepsTakePending : (K V : Type 0) (same : K → K → Bool) (hash : ℕ → K → ℕ) → Type 0
SweepsTakePending K V same hash =
    (name : ℕ → List ℕ) (m : Moment K V) (known : Known) (s : Scene K V) (old new : Held K V) → IsAt same hash old s → Refines same name m known s
    → (map i : ℕ) (x : CallOverAll) (here : s.calls map i ≡ Some (OverAll x)) (said : Progress (Node K V)) (leads : StepLeads same hash i said s old new)
    → (let to = leads map (OverAll x) here in
    IsOfNoRow same old.batch_size old.roots s.world s.maps s.calls s.makers s.enders map to.0 i new.memory to.4.w2 to.4.maps2 to.4.next (OverAll x) to.1 said to.4.did
    → (p : ℕ) → effects_of (Call i map) known new.changed ≡ Removed p ∷ []
    → (p2 : Sweep) × (to.1 ≡ kinds.Sweep p2) × (word : ℕ) × (p2.stands ≡ sweeping.Counts word) × (known.roles (block_in word) ≡ role.Pair p))

-- And one that has a pair in hand has that one in hand still.
abbrev pub SweepsHoldTheirs : (K V : Type 0) (same : K → K → Bool) (hash : ℕ → K → ℕ) → Type 0
SweepsHoldTheirs K V same hash =
    (name : ℕ → List ℕ) (m : Moment K V) (known : Known) (s : Scene K V) (old new : Held K V) → IsAt same hash old s → Refines same name m known s
    → (map i : ℕ) (x : CallOverAll) (here : s.calls map i ≡ Some (OverAll x)) (said : Progress (Node K V)) (leads : StepLeads same hash i said s old new)
    → (let to = leads map (OverAll x) here in
    IsOfNoRow same old.batch_size old.roots s.world s.maps s.calls s.makers s.enders map to.0 i new.memory to.4.w2 to.4.maps2 to.4.next (OverAll x) to.1 said to.4.did
    → (word : ℕ) → pair_in_sweeping x.sweep.stands ≡ Some word
    → (p2 : Sweep) × (to.1 ≡ kinds.Sweep p2) × (word2 : ℕ) × (pair_in_sweeping p2.stands ≡ Some word2) × (block_in word2 ≡ block_in word))
