-- Whole reservations for one owner: each begins alone, may take each of its steps, and comes to its end.
use Rattle.std.specs.Prelude.{◌≡◌, ℕ, ◌⊎◌, Bool, List, length, [], ◌∷◌, ◌+◌, Option, Some}
use Rattle.std.proofs.Common.{inl, inr, refl, ap, sym, subst, ◌∙◌, length-append}
use Rattle.std.specs.Int.{IsPowerOfTwo}
use Rattle.seize_words.specs.OneMemory.Mem.{Mem, Can, Took, value_at}
use Rattle.seize_words.specs.OneMemory.Plan.{May, Steps}
use Rattle.seize.specs.World.{World, with_at}
use Rattle.map_tables.specs.declared.node.Node.{Node}
use Rattle.map_tables.specs.declared.setting.Setting.{Setting}
use Rattle.map_measures.specs.Given.ResizeDeclared.yielding.Yielding.{Yielding}
use Rattle.map_measures.specs.Given.ResizeDeclared.yielding.Yielding.TheVariants as outcome
use Rattle.papaya_raw.specs.Given.ReservesReserve.{reserving, reserve_plan}
use Rattle.papaya_raw.specs.Given.ReservesDeclared.reserve.Reserve.{Reserve}
use Rattle.map_measures.specs.Given.RuleChart.{Chart}
use Rattle.map_measures.specs.Given.RuleWords.{Blocks}
use Rattle.map_measures.specs.Given.PointsMeasures.{IsBelow, EndsFrom, ends}
use Rattle.owner_facts.specs.Given.PointsSteps.{AreLawful}
use Rattle.map_measures.proofs.Given.PointsDescents.{descents_end}
use Rattle.owner_facts.specs.Alone.Endings.{runs_end}
use Rattle.owner_facts.specs.Given.LateFactsReserves.{ReserveFacts}
use Rattle.owner_facts.specs.Given.LateLateReserves.{SupersededReserveFacts}
use Rattle.owner_facts.specs.Given.LateToldReserves.{IsRowOfReserve}
use Rattle.owner_facts.specs.Maps.EndingsReserves.{HasMore, Terminates}
use Rattle.map_measures.specs.Falls.Reserves.{number_of_reserve}
use Rattle.owner_facts.specs.Given.CallersRooms.{CallForRoom, row_of_room}
use Rattle.owner_facts.specs.Given.CallersSights.{Visible, seen_by}
use Rattle.owner_facts.specs.Given.CallersTogether.{UnderWay, ForRoom, in_slot, IsAtPoint, Together}
use Rattle.owner_facts.proofs.Given.CallersTogether.At.{at_other, at_same}
use Rattle.owner_facts.proofs.Given.CallersTogether.Rooms.{rooms_begin_together}
use Rattle.owner_whole.specs.Whole.Owner.{IsFirst, IsOfRoot, IsQuiescent, IsAlone}
use Rattle.owner_whole.specs.Whole.WholeRooms.{room_so, RoomLeads, RoomStepLeads, RoomsBeginAlone, RoomsContinueAlone, RoomsComeToAnEnd}
use Rattle.owner_whole.proofs.Whole.Keys.Begins.{one_few}
use Rattle.owner_whole.proofs.Whole.Keys.Falls.{row_left}
use Rattle.owner_whole.proofs.Whole.Rooms.Own as own
use Rattle.owner_whole.proofs.Whole.Rooms.Rows.{room_numbers}
use Rattle.owner_whole.proofs.Whole.Rooms.Rows as rows
use Rattle.map_measures.proofs.Falls.Below.{below_followed as lower_more}
use Rattle.map_measures.proofs.Falls.Reserves.Lengths.{reserve_numbers_are_as_many}
use Rattle.owner_whole.proofs.Lowers.Waits.{room_decided}

module _ {K V Q : Type 0} (same : K → K → Bool) (hash : K → ℕ) (asks : Q → K → Bool) (setting : Setting) (slot : ℕ → ℕ) where
  module _ (w : World (Node K V)) (c : Chart K) (blocks : Blocks) (sights : ℕ → Visible) (a : IsQuiescent {Q = Q} same hash asks setting slot w c blocks sights) (additional : ℕ) where
    abbrev it : CallForRoom
    it = record { began = c.now; reserve = reserving (in_slot setting (slot 0)) additional }

    abbrev calls2 : ℕ → Option (UnderWay K V Q)
    calls2 = with_at a.calls 0 (Some (ForRoom it))

    abbrev seen : Blocks
    seen = seen_by blocks (sights (slot 0))

    has2 : calls2 0 ≡ Some (ForRoom it)
    has2 = at_same a.calls 0 (Some (ForRoom it)) 0 refl

    together2 : Together V same hash asks setting slot w c blocks sights calls2
    together2 = rooms_begin_together same hash asks setting slot w c blocks sights a.calls 0 a.together (a.none 0) (a.rows 0) a.inside additional (λ blocking. one_few a.calls a.none (ForRoom it))

    first : (x : ReserveFacts same hash w 0 (in_slot setting (slot 0)) c seen it.reserve ⊎ SupersededReserveFacts same hash w 0 (in_slot setting (slot 0)) c seen c.now it.reserve) → IsFirst x
    first (inl facts) = tt
    first (inr late) = absurd late.point

    of_root : (x : IsAtPoint V same hash asks setting slot w c seen 0 (ForRoom it)) → IsOfRoot same hash asks setting slot w c seen (ForRoom it) x
    of_root (inl (rests, knows)) = first knows.facts
    of_root (inr (row, at_row, knows)) = absurd at_row

    room_begun : IsAlone {Q = Q} same hash asks setting slot w c blocks sights (ForRoom it)
    room_begun = record {
      calls = calls2;
      has = has2;
      others = λ i other. at_other a.calls 0 (Some (ForRoom it)) i other ∙ a.none i;
      together = together2;
      rows = λ i other. a.rows i;
      lone = record { idle = a.alone.idle; point = a.alone.tables };
      inside = together2.inside 0 (ForRoom it) has2;
      of_root = of_root (together2.stand 0 (ForRoom it) has2);
    }

  pub rooms_begin_alone : RoomsBeginAlone V same hash asks setting slot
  rooms_begin_alone = room_begun

  pub rooms_go_on_alone : RoomsContinueAlone V same hash asks setting slot
  rooms_go_on_alone lawful initial w c blocks sights r a = elim (room_decided r.reserve.stands) as (λ _. May Can Took value_at w.memory (reserve_plan hash r.reserve)
      × ((m2 : Mem (Node K V)) (p2 : Reserve) (end : Yielding (Node K V) Unit) → Steps Took value_at w.memory (reserve_plan hash r.reserve) m2 (p2, end)
      → RoomStepLeads {Q = Q} same hash asks setting slot w c blocks r m2 p2 end)) [
        | inl is_row ↦ (rows.row_may same hash asks setting slot lawful w c blocks sights r a is_row, λ m2 p2 end st. rows.row_leads same hash asks setting slot lawful w c blocks sights r a is_row m2 p2 end st)
        | inr none ↦ (own.own_may same hash asks setting slot lawful w c blocks sights r a none initial, λ m2 p2 end st. own.own_leads same hash asks setting slot lawful w c blocks sights r a none initial m2 p2 end st)
      ]

  module _ (lawful : AreLawful same hash) (initial : IsPowerOfTwo setting.initial) where
    abbrev Alone : World (Node K V) → Chart K → Blocks → (ℕ → Visible) → CallForRoom → Type 0
    Alone w c blocks sights r = IsAlone {Q = Q} same hash asks setting slot w c blocks sights (ForRoom r)

    abbrev Ends : Reserve → Mem (Node K V) → Type 0
    Ends = Terminates {V = V} hash

    abbrev numbers : World (Node K V) → Chart K → Blocks → (ℕ → Visible) → CallForRoom → List ℕ
    numbers w c blocks sights r = room_numbers c (seen_by blocks (sights (slot 0))) r.reserve w.memory

    all_as_many : (c : Chart K) (b : Blocks) (p : Reserve) (m : Mem (Node K V)) → length (room_numbers c b p m) ≡ 12
    all_as_many c b p m = length-append (number_of_reserve c b p) (row_left (row_of_room p.stands) m ∷ []) ∙ ap (λ (x : ℕ). x + 1) (reserve_numbers_are_as_many c b p)

    abbrev OnBelow : World (Node K V) → Chart K → Blocks → (ℕ → Visible) → CallForRoom → Type 0
    OnBelow w0 c0 blocks0 sights0 r0 =
        (w : World (Node K V)) (c : Chart K) (blocks : Blocks) (sights : ℕ → Visible) (r : CallForRoom) → Alone w c blocks sights r
        → IsBelow (numbers w c blocks sights r) (numbers w0 c0 blocks0 sights0 r0) → Ends r.reserve w.memory

    module _ (w : World (Node K V)) (c : Chart K) (blocks : Blocks) (sights : ℕ → Visible) (r : CallForRoom) (a : Alone w c blocks sights r) (on : OnBelow w c blocks sights r)
        (m2 : Mem (Node K V)) (p2 : Reserve) where
      own_ends : (none : IsRowOfReserve r.reserve.stands → ⊥) (end : Yielding (Node K V) Unit) → HasMore end → Steps Took value_at w.memory (reserve_plan hash r.reserve) m2 (p2, end) → Ends p2 m2
      own_ends none outcome.Goes more st =
          let went = own.went same hash asks setting slot lawful w c blocks sights r a none initial m2 p2 outcome.Goes st in
          let seen_then = own.seen2 same hash asks setting slot lawful w c blocks sights r a none initial m2 p2 outcome.Goes st in
          let stepped = own.stepped same hash asks setting slot lawful w c blocks sights r a none initial m2 p2 outcome.Goes st in
          subst (Ends p2) went.memory
          (on went.w2 went.c2 stepped.blocks2 stepped.sights2 (room_so r p2)
          (own.still_alone same hash asks setting slot lawful w c blocks sights r a none initial m2 p2 outcome.Goes st went.told.2
          (own.leads_lone same hash asks setting slot lawful w c blocks sights r a none initial m2 p2 outcome.Goes st) refl)
          (lower_more (number_of_reserve went.c2 seen_then p2) (number_of_reserve c (seen_by blocks (sights (slot 0))) r.reserve) _ _
          (own.own_lower same hash asks setting slot lawful w c blocks sights r a none initial m2 p2 outcome.Goes st st)))
      own_ends none outcome.Waits more st = absurd (own.leads_lone same hash asks setting slot lawful w c blocks sights r a none initial m2 p2 outcome.Waits st)
      own_ends none (outcome.Gave value) more st = absurd (own.leads_lone same hash asks setting slot lawful w c blocks sights r a none initial m2 p2 (outcome.Gave value) st)
      own_ends none (outcome.Done x) more st = absurd more
      own_ends none (outcome.Refused fault) more st = absurd more

      row_ends : (is_row : IsRowOfReserve r.reserve.stands) (end : Yielding (Node K V) Unit) → HasMore end → Steps Took value_at w.memory (reserve_plan hash r.reserve) m2 (p2, end) → Ends p2 m2
      row_ends is_row end more st =
          let l = rows.row_leads same hash asks setting slot lawful w c blocks sights r a is_row m2 p2 end st in
          let lower = rows.row_lower same hash asks setting slot lawful w c blocks sights r a is_row m2 p2 end st more in
          subst (Ends p2) l.memory
          (on l.w2 c blocks sights (room_so r p2) (still l.w2 end more l.leads)
          (subst (λ (x : Mem (Node K V)). IsBelow (room_numbers c (seen_by blocks (sights (slot 0))) p2 x) (numbers w c blocks sights r)) (sym l.memory) lower))
        where
          still : (w2 : World (Node K V)) (x : Yielding (Node K V) Unit) → HasMore x → RoomLeads {Q = Q} same hash asks setting slot w w2 c blocks sights (room_so r p2) x → Alone w2 c blocks sights (room_so r p2)
          still w2 outcome.Goes more l = l
          still w2 outcome.Waits more l = absurd l
          still w2 (outcome.Gave value) more l = l.0
          still w2 (outcome.Done x) more l = absurd more
          still w2 (outcome.Refused fault) more l = absurd more

      step_ends : (end : Yielding (Node K V) Unit) → HasMore end → Steps Took value_at w.memory (reserve_plan hash r.reserve) m2 (p2, end) → Ends p2 m2
      step_ends end more st = elim (room_decided r.reserve.stands) as (λ _. Ends p2 m2) [
        | inl is_row ↦ row_ends is_row end more st
        | inr none ↦ own_ends none end more st
      ]

    -- by the descent of its numbers
    from : (w : World (Node K V)) (c : Chart K) (blocks : Blocks) (sights : ℕ → Visible) (r : CallForRoom) → Alone w c blocks sights r → (xs : List ℕ) → numbers w c blocks sights r ≡ xs → EndsFrom xs
        → Ends r.reserve w.memory
    from w c blocks sights r a xs is (ends _ below) =
        runs_end (r.reserve, w.memory) (λ y s.
        step_ends w c blocks sights r a (λ w2 c2 blocks2 sights2 r2 a2 lower.
        from w2 c2 blocks2 sights2 r2 a2 (numbers w2 c2 blocks2 sights2 r2) refl
        (below (numbers w2 c2 blocks2 sights2 r2) (all_as_many c2 (seen_by blocks2 (sights2 (slot 0))) r2.reserve w2.memory ∙ sym (all_as_many c (seen_by blocks (sights (slot 0))) r.reserve w.memory) ∙ ap (λ (z : List ℕ). length z) is)
        (subst (λ (z : List ℕ). IsBelow (numbers w2 c2 blocks2 sights2 r2) z) is lower)))
        y.1 y.0 s.0 s.1 s.2)

  pub rooms_come_to_an_end : RoomsComeToAnEnd V same hash asks setting slot
  rooms_come_to_an_end lawful initial w c blocks sights r a = from lawful initial w c blocks sights r a (numbers lawful initial w c blocks sights r) refl (descents_end (numbers lawful initial w c blocks sights r))
