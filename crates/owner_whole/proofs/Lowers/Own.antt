-- A step of a call on one key, or of a reservation, that is none of a row of the collector: by all that can be looked at of its map, its numbers are lower.
use Rattle.std.specs.Prelude.{◌≡◌, ℕ, Bool, Option, Some}
use Rattle.std.proofs.Common.{inl, inr, sym, subst, ◌∙◌}
use Rattle.seize_words.specs.OneMemory.Mem.{Mem, Took, value_at}
use Rattle.seize_words.specs.OneMemory.Plan.{Steps}
use Rattle.seize.specs.World.{World, IsInside}
use Rattle.map_tables.specs.declared.node.Node.{Node}
use Rattle.map_tables.specs.declared.setting.Setting.{Setting}
use Rattle.map_measures.specs.Given.ResizeDeclared.yielding.Yielding.{Yielding}
use Rattle.papaya_raw.specs.Call.{call_plan}
use Rattle.papaya_raw.specs.declared.machines.answer.Called.{Called}
use Rattle.papaya_raw.specs.declared.machines.call.KeyCall.{KeyCall}
use Rattle.papaya_raw.specs.Given.ReservesReserve.{reserve_plan}
use Rattle.papaya_raw.specs.Given.ReservesDeclared.reserve.Reserve.{Reserve}
use Rattle.map_measures.specs.Given.RuleChart.{Chart}
use Rattle.map_measures.specs.Given.RuleInWorld.{IsMapIn, StepSpec}
use Rattle.map_measures.specs.Given.RuleMaps.{IsMap}
use Rattle.map_measures.specs.Given.RuleWords.{Blocks}
use Rattle.map_measures.specs.Given.PointsMeasures.{IsBelow}
use Rattle.map_measures.proofs.Given.PointsMovedLasts.{moved_lasts}
use Rattle.owner_facts.specs.Given.PointsSteps.{AreLawful}
use Rattle.owner_facts.specs.Given.PointsTold.{IsRowOfCall}
use Rattle.owner_facts.specs.Given.LateToldReserves.{IsRowOfReserve}
use Rattle.owner_facts.specs.Given.CallersRooms.{CallForRoom}
use Rattle.owner_facts.specs.Given.CallersSights.{Visible, seen_by, IsGrown, IsVisibility}
use Rattle.owner_facts.specs.Given.CallersTogether.{UnderWay, CallOnKey, OnKey, ForRoom, in_slot, IsAtPoint, Together, StepsTogether, RoomStepsTogether}
use Rattle.owner_facts.proofs.Given.CallersTogether.Fits.{map_in_slot}
use Rattle.map_measures.specs.Falls.Calls.{number_of_call}
use Rattle.map_measures.specs.Falls.Falls.{GoesFurther}
use Rattle.map_measures.specs.Falls.FallsWithin.{GoesFurther as RoomGoesFurther}
use Rattle.map_measures.specs.Falls.Reserves.{number_of_reserve}
use Rattle.map_measures.proofs.Falls.Calls.Facts.{call_stands}
use Rattle.map_measures.proofs.Falls.Calls.LateFacts.{late_call_stands}
use Rattle.map_measures.proofs.Falls.Calls.Points.{called_on}
use Rattle.map_measures.proofs.Falls.Onward.{Onward}
use Rattle.map_measures.proofs.Falls.Reserves.Points.{reserved_on}
use Rattle.map_measures.proofs.Falls.Reserves.Stands.{ReserveStands, reserve_stands, late_reserve_stands}
use Rattle.map_measures.proofs.Falls.Stands.{CallStands}
use Rattle.owner_whole.proofs.Lowers.Widened as wide

module _ {K V Q : Type 0} (same : K → K → Bool) (hash : K → ℕ) (asks : Q → K → Bool) (setting : Setting) (slot : ℕ → ℕ) (lawful : AreLawful same hash)
    (w : World (Node K V)) (c : Chart K) (blocks : Blocks) (sights : ℕ → Visible) (calls : ℕ → Option (UnderWay K V Q)) (s : Together V same hash asks setting slot w c blocks sights calls)
    (i : ℕ) (inside : IsInside (w.uses (slot i))) where
  abbrev pub here : Setting
  here = in_slot setting (slot i)

  abbrev pub seen : Blocks
  seen = seen_by blocks (sights (slot i))

  pub map : IsMapIn same hash here w c blocks
  map = map_in_slot same hash setting w c blocks (slot i) s.ground.map

  pub sight : IsVisibility c blocks (sights (slot i))
  sight = (s.ground.sight (slot i) inside).0

  -- the memory shows what can be looked at before a step and after it
  pub on : (m2 : Mem (Node K V)) (Told : World (Node K V) → Chart K → Blocks → Type 0) (went : StepSpec same hash here i w c seen m2 Told) (blocks2 : Blocks) → IsGrown c blocks went.blocks2 blocks2
      → (sights2 : ℕ → Visible) (calls2 : ℕ → Option (UnderWay K V Q)) → Together V same hash asks setting slot went.w2 went.c2 blocks2 sights2 calls2
      → Onward same hash here w.memory c blocks m2 went.c2 blocks2
  on m2 Told went blocks2 grown sights2 calls2 then = record {
    map = map.map;
    map2 = subst (λ (x : Mem (Node K V)). IsMap same hash here.mode here.root x went.c2 blocks2) went.memory (map_in_slot same hash setting went.w2 went.c2 blocks2 (slot i) then.ground.map).map;
    blocks_same = record {
      tables = λ t l known. ((grown.tables t l).0, (grown.tables t l).1 ∙ known);
      pairs = λ n l known. ((grown.pairs n l).0, (grown.pairs n l).1 ∙ known);
      tables_back = λ t l known. sym (grown.tables t l).1 ∙ known;
      pairs_back = λ n l known. sym (grown.pairs n l).1 ∙ known;
    };
    lasts = moved_lasts same hash here lawful.lawful w c went.c2 blocks map went.moved;
  }

  -- a call on one key
  pub key_stands : (u : CallOnKey K V Q) → calls i ≡ Some (OnKey u) → (IsRowOfCall u.call.stands → ⊥) → CallStands here w.memory c blocks u.call
  key_stands u has none = wide.call here w.memory c blocks (sights (slot i)) sight u.call (by (s.stand i (OnKey u) has))
    where
      by : IsAtPoint V same hash asks setting slot w c seen i (OnKey u) → CallStands here w.memory c seen u.call
      by (inl (rests, knows)) = elim knows.facts as (λ _. CallStands here w.memory c seen u.call) [
        | inl fresh ↦ call_stands same hash asks w i here c seen u.keys u.change u.call fresh
        | inr late ↦ late_call_stands same hash asks w i here c seen u.keys u.began u.call late.1
      ]
      by (inr (row, is_row, knows)) = absurd (none is_row)

  pub key_falls : (u : CallOnKey K V Q) → calls i ≡ Some (OnKey u) → (IsRowOfCall u.call.stands → ⊥) → (m2 : Mem (Node K V)) (p2 : KeyCall K V Q) (end : Called (Node K V))
      → Steps Took value_at w.memory (call_plan asks same hash u.call) m2 (p2, end) → GoesFurther end
      → (told : Called (Node K V)) (step : StepsTogether V same hash asks setting slot w c blocks sights calls i u m2 p2 told)
      → IsBelow (number_of_call hash step.went.c2 step.blocks2 p2) (number_of_call hash c blocks u.call)
  key_falls u has none m2 p2 end st goes told step =
      called_on same hash asks lawful.fits here w.memory c blocks m2 step.went.c2 step.blocks2 (on m2 _ step.went step.blocks2 step.grown step.sights2 _ step.together) u.call
      (key_stands u has none) none (p2, end) st goes

  -- a reservation
  pub room_stands : (r : CallForRoom) → calls i ≡ Some (ForRoom r) → (IsRowOfReserve r.reserve.stands → ⊥) → ReserveStands here w.memory c blocks r.reserve
  room_stands r has none = wide.reserve here w.memory c blocks (sights (slot i)) sight r.reserve (by (s.stand i (ForRoom r) has))
    where
      by : IsAtPoint V same hash asks setting slot w c seen i (ForRoom r) → ReserveStands here w.memory c seen r.reserve
      by (inl (rests, knows)) = elim knows.facts as (λ _. ReserveStands here w.memory c seen r.reserve) [
        | inl fresh ↦ reserve_stands same hash w i here c seen r.reserve fresh
        | inr late ↦ late_reserve_stands same hash w i here c seen r.began r.reserve late
      ]
      by (inr (row, is_row, knows)) = absurd (none is_row)

  pub room_falls : (r : CallForRoom) → calls i ≡ Some (ForRoom r) → (IsRowOfReserve r.reserve.stands → ⊥) → (m2 : Mem (Node K V)) (p2 : Reserve) (end : Yielding (Node K V) Unit)
      → Steps Took value_at w.memory (reserve_plan hash r.reserve) m2 (p2, end) → RoomGoesFurther end
      → (told : Yielding (Node K V) Unit) (step : RoomStepsTogether V same hash asks setting slot w c blocks sights calls i r m2 p2 told)
      → IsBelow (number_of_reserve step.went.c2 step.blocks2 p2) (number_of_reserve c blocks r.reserve)
  room_falls r has none m2 p2 end st goes told step =
      reserved_on same hash here w.memory c blocks m2 step.went.c2 step.blocks2 (on m2 _ step.went step.blocks2 step.grown step.sights2 _ step.together) r.reserve
      (room_stands r has none) none (p2, end) st goes
