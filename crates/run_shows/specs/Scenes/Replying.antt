-- What a reply to the call of a caller leads to, and what it leads to that it is asked for a pair.
use Rattle.std.specs.Prelude.{◌≡◌, ℕ, Bool, true, false, Option, Some, None, Result}
use Rattle.run_effects.specs.Given.RawMachine.{machine_replied, machine_asked}
use Rattle.run_effects.specs.Given.RawDeclared.machines.asking.MachineReply.{MachineReply}
use Rattle.many_maps.specs.Given.CallersTogether.{UnderWay}
use Rattle.many_maps.specs.Machines.{machine_of, RepliedOfKind}
use Rattle.many_maps.specs.Maps.{Standing, with_call}
use Rattle.run_shows.specs.Scenes.Held.{Held, IsAt}
use Rattle.run_shows.specs.Scenes.Scene.{Scene, slot_of}

-- what is given up is under way no more
abbrev pub unless_stopped : {X : Type 0} → Bool → X → Option X
unless_stopped true it = None
unless_stopped false it = Some it

-- the scene, but for what a caller has under way on a map
abbrev pub scene_with : {K V : Type 0} → ℕ → ℕ → UnderWay K V K → Scene K V → Scene K V
scene_with m i next s = record s { calls = with_call s.calls m i (Some next) }

module _ {K V : Type 0} (same : K → K → Bool) where
  module _ (IsThere : Scene K V → Type 0) where
    -- The call goes on by the reply, if it takes it, and nothing else has changed: it has led to a scene of this kind.
    abbrev pub ReplyLeadsTo : ℕ → MachineReply V → Result Unit (MachineReply V) → Scene K V → Held K V → Held K V → Type 0
    ReplyLeadsTo i told result s old new =
        (m : ℕ) (u : UnderWay K V K) → s.calls m i ≡ Some u
        → (standing : Standing K) × (next : UnderWay K V K) × (s.maps m ≡ Some standing)
        × (machine_of next ≡ (machine_replied (machine_of u) told).0) × (result ≡ (machine_replied (machine_of u) told).1) × RepliedOfKind V same same old.batch_size old.roots slot_of standing i u told next
        × (new.memory ≡ old.memory) × IsThere (scene_with m i next s)

    -- A walk that was ready goes on to its next pair, and nothing else has changed.
    abbrev pub AskLeadsTo : ℕ → Bool → Scene K V → Held K V → Held K V → Type 0
    AskLeadsTo i ready s old new =
        (m : ℕ) (u : UnderWay K V K) → s.calls m i ≡ Some u
        → (next : UnderWay K V K) × (machine_of next ≡ (machine_asked (machine_of u)).0) × (ready ≡ (machine_asked (machine_of u)).1) × (new.memory ≡ old.memory) × IsThere (scene_with m i next s)

    -- A walk that was ready is under way no more, and any other call is as it was. Nothing else has changed.
    abbrev pub StopLeadsTo : ℕ → Bool → Scene K V → Held K V → Held K V → Type 0
    StopLeadsTo i stopped s old new =
        (m : ℕ) (u : UnderWay K V K) → s.calls m i ≡ Some u
        → (stopped ≡ (machine_asked (machine_of u)).1) × (new.memory ≡ old.memory) × IsThere (record s { calls = with_call s.calls m i (unless_stopped stopped u) })

  -- each to the scene of what is held then
  module _ (hash : ℕ → K → ℕ) where
    abbrev pub ReplyLeads : ℕ → MachineReply V → Result Unit (MachineReply V) → Scene K V → Held K V → Held K V → Type 0
    ReplyLeads i told result s old new = ReplyLeadsTo (IsAt same hash new) i told result s old new

    abbrev pub AskLeads : ℕ → Bool → Scene K V → Held K V → Held K V → Type 0
    AskLeads i ready s old new = AskLeadsTo (IsAt same hash new) i ready s old new

    abbrev pub StopLeads : ℕ → Bool → Scene K V → Held K V → Held K V → Type 0
    StopLeads i stopped s old new = StopLeadsTo (IsAt same hash new) i stopped s old new
