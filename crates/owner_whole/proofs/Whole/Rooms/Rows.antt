-- A step of a row within a reservation that is alone: it does not wait, and the reservation is alone still, with less left to do.
use Rattle.std.specs.Prelude.{◌≡◌, ◌≢◌, ℕ, ◌⊎◌, Bool, true, false, List, [], ◌∷◌, ◌++◌, Option, Some}
use Rattle.std.proofs.Common.{inl, inr, refl, ap, sym, subst, ◌∙◌, arith}
use Rattle.seize_words.specs.OneMemory.Mem.{Mem, Can, Took, value_at}
use Rattle.seize_words.specs.OneMemory.Plan.{May, Steps}
use Rattle.seize.specs.declared.rows.settle.Settle.{Settle}
use Rattle.seize.specs.declared.rows.settle.Settled.{Settled}
use Rattle.seize.specs.declared.rows.settle.Settled.TheVariants as settled
use Rattle.seize.specs.Settle.{settle_plan}
use Rattle.seize.specs.World.{World, Row, Rests, Settles, IsInside, with_at}
use Rattle.map_measures.proofs.Given.SeizeEndsSettling.Most.{is_going}
use Rattle.map_measures.proofs.Given.SeizeRuleRows.Others.{steps_others}
use Rattle.map_tables.specs.Chunks.{is_incremental}
use Rattle.map_tables.specs.Nodes.{deferred_word}
use Rattle.map_tables.specs.declared.node.Node.{Node}
use Rattle.map_tables.specs.declared.setting.Setting.{Setting}
use Rattle.map_measures.specs.Given.ResizeDeclared.yielding.Yielding.{Yielding}
use Rattle.map_measures.specs.Given.ResizeDeclared.yielding.Yielding.TheVariants as outcome
use Rattle.papaya_raw.specs.Given.ReservesReserve.{reserve_plan}
use Rattle.papaya_raw.specs.Given.ReservesDeclared.reserve.Reserve.{Reserve}
use Rattle.map_measures.specs.Given.RuleChart.{Chart}
use Rattle.map_measures.specs.Given.RuleWords.{Blocks}
use Rattle.map_measures.specs.Given.PointsMeasures.{IsBelow}
use Rattle.owner_facts.specs.Given.PointsSteps.{AreLawful}
use Rattle.owner_facts.specs.Given.LateFactsReserves.{ReserveFacts}
use Rattle.owner_facts.specs.Given.LateLateReserves.{SupersededReserveFacts}
use Rattle.owner_facts.specs.Given.LateToldReserves.{IsRowOfReserve}
use Rattle.owner_facts.specs.Maps.AloneReserves.{LooksAtRoot, SumsUp, KeepsToRoot}
use Rattle.owner_facts.specs.Maps.EndingsReserves.{HasMore}
use Rattle.owner_facts.specs.Maps.FactsAloneReserves.{IsLoneReserve, ReservesAlone}
use Rattle.map_measures.specs.Falls.Reserves.{number_of_reserve}
use Rattle.owner_facts.specs.Given.CallersRooms.{CallForRoom, row_of_room, room_once_over}
use Rattle.owner_facts.specs.Given.CallersSights.{Visible, seen_by}
use Rattle.owner_facts.specs.Given.CallersTogether.{UnderWay, ForRoom, next_for_room, in_slot, IsReclaimed, IsAtPoint, Together, RoomRowsTogether}
use Rattle.owner_facts.proofs.Given.CallersTogether.At.{at_other, at_same}
use Rattle.owner_facts.proofs.Given.CallersTogether.Begun as begun
use Rattle.owner_facts.proofs.Given.CallersTogether.Few.{room_row_claims_none}
use Rattle.owner_facts.proofs.Given.CallersTogether.RoomRows.{begins_at, room_rows_stand_together}
use Rattle.owner_facts.specs.Given.PointsFactsCalls.{Unchanged}
use Rattle.owner_facts.specs.Alone.Counted.{HasAdded}
use Rattle.owner_whole.proofs.Whole.Rows.Shards.{row_shards}
use Rattle.owner_whole.specs.Whole.Contents.{KeepsPairs}
use Rattle.owner_whole.proofs.Whole.Contents.Runs.{row_keeps, run_on}
use Rattle.owner_whole.specs.Whole.Owner.{IsFirst, IsOfRoot, IsAlone}
use Rattle.owner_whole.specs.Whole.WholeRooms.{room_so, RoomLeads, RoomStepLeads}
use Rattle.owner_whole.proofs.Whole.Keys.Falls.{row_left, lower_last}
use Rattle.owner_whole.proofs.Whole.Limits.Rooms.{row_reserve_ends}
use Rattle.owner_whole.proofs.Whole.Rooms.Account.{room_told_by, RoomTargetIs, no_room_row_rests, still_looks, over_looks, row_sums, over_sums, StillRoom, RoomAccount, RoomSettling, RoomOver, room_account, room_target_at, room_target_past, room_never_late_at, room_never_late_past}
use Rattle.owner_whole.proofs.Whole.Rows.Settles.{never_waits, settling_lowers}
use Rattle.map_measures.proofs.Falls.Below.{below_followed as lower_more}
use Rattle.map_measures.proofs.Falls.Reserves.Rows.{reserve_rows_fall}

-- the numbers of a reservation, and then what its row has left
abbrev pub room_numbers : {K V : Type 0} → Chart K → Blocks → Reserve → Mem (Node K V) → List ℕ
room_numbers c blocks p m = number_of_reserve c blocks p ++ (row_left (row_of_room p.stands) m ∷ [])

module _ {K V Q : Type 0} (same : K → K → Bool) (hash : K → ℕ) (asks : Q → K → Bool) (setting : Setting) (slot : ℕ → ℕ) (lawful : AreLawful same hash)
    (w : World (Node K V)) (c : Chart K) (blocks : Blocks) (sights : ℕ → Visible) (r : CallForRoom) (a : IsAlone {Q = Q} same hash asks setting slot w c blocks sights (ForRoom r))
    (is_row : IsRowOfReserve r.reserve.stands) where
  abbrev here : Setting
  here = in_slot setting (slot 0)

  abbrev seen : Blocks
  seen = seen_by blocks (sights (slot 0))

  abbrev KnowsOf : World (Node K V) → Reserve → Type 0
  KnowsOf v p = ReserveFacts same hash v 0 here c seen p ⊎ SupersededReserveFacts same hash v 0 here c seen r.began p

  -- it is within the row, in a world with the same memory
  pub record IsWithinRow : Type 0 where
    pub v : World (Node K V)
    pub memory : v.memory ≡ w.memory
    pub row_is : v.row 0 ≡ row_of_room r.reserve.stands
    pub together : Together V same hash asks setting slot v c blocks sights a.calls
    pub rows : (i : ℕ) → i ≢ 0 → v.row i ≡ Rests
    pub target : is_incremental setting.mode ≡ false → RoomTargetIs c.first r.reserve.stands
    pub reclaims : (w2 : World (Node K V)) (value : Node K V) → IsReclaimed v w2 value → IsReclaimed w w2 value

  target_now : (x : KnowsOf w r.reserve) → IsFirst x → is_incremental setting.mode ≡ false → RoomTargetIs c.first r.reserve.stands
  target_now (inl facts) first blocking = room_target_at same hash here w 0 c seen blocking r.reserve.stands is_row facts.point
  target_now (inr late) first blocking = absurd first

  target_then : (x : KnowsOf w (room_once_over r.reserve)) → IsFirst x → is_incremental setting.mode ≡ false → RoomTargetIs c.first r.reserve.stands
  target_then (inl facts) first blocking = room_target_past same hash here w 0 c seen blocking r.reserve.stands is_row facts.point
  target_then (inr late) first blocking = absurd first

  inside : IsInside (w.uses (slot 0))
  inside = a.together.inside 0 (ForRoom r) a.has

  pub now : IsWithinRow
  now = by (a.together.stand 0 (ForRoom r) a.has) a.of_root
    where
      by : (x : IsAtPoint V same hash asks setting slot w c seen 0 (ForRoom r)) → IsOfRoot same hash asks setting slot w c seen (ForRoom r) x → IsWithinRow
      by (inr (row, at_row, knows)) first = record {
        v = w;
        memory = refl;
        row_is = row;
        together = a.together;
        rows = a.rows;
        target = target_then knows.facts first;
        reclaims = λ w2 value h. h;
      }
      by (inl (rests, knows)) first =
          let b = begins_at same hash asks setting slot lawful w c blocks sights a.calls a.together 0 r inside rests r.reserve.stands is_row knows in
          record {
            v = b.row.v;
            memory = b.row.memory;
            row_is = b.row.row_is;
            together = begun.begun_stands same hash asks setting slot lawful w c blocks sights a.calls a.together 0 inside rests (row_of_room r.reserve.stands) b.row (ForRoom r) a.has
                (inr (b.row.row_is, is_row, b.knows)) (room_row_claims_none r.reserve.stands is_row);
            rows = λ i other. b.row.rows i other ∙ a.rows i other;
            target = target_now knows.facts first;
            reclaims = begun.begun_gives same hash asks setting slot lawful w c blocks sights a.calls a.together 0 inside rests (row_of_room r.reserve.stands) b.row;
          }

  leads_on : May Can Took value_at now.v.memory (reserve_plan hash r.reserve)
      × ((m2 : Mem (Node K V)) (p2 : Reserve) (end : Yielding (Node K V) Unit) → Steps Took value_at now.v.memory (reserve_plan hash r.reserve) m2 (p2, end)
      → RoomRowsTogether V same hash asks setting slot now.v c blocks sights a.calls 0 r m2 p2 end)
  leads_on = room_rows_stand_together same hash asks setting slot lawful now.v c blocks sights a.calls now.together 0 r a.has is_row

  pub row_may : May Can Took value_at w.memory (reserve_plan hash r.reserve)
  row_may = subst (λ (m : Mem (Node K V)). May Can Took value_at m (reserve_plan hash r.reserve)) now.memory leads_on.0

  module _ (m2 : Mem (Node K V)) (p2 : Reserve) (end : Yielding (Node K V) Unit) (steps : Steps Took value_at w.memory (reserve_plan hash r.reserve) m2 (p2, end)) where
    pub steps_now : Steps Took value_at now.v.memory (reserve_plan hash r.reserve) m2 (p2, end)
    steps_now = subst (λ (m : Mem (Node K V)). Steps Took value_at m (reserve_plan hash r.reserve) m2 (p2, end)) (sym now.memory) steps

    pub led : RoomRowsTogether V same hash asks setting slot now.v c blocks sights a.calls 0 r m2 p2 end
    led = leads_on.1 m2 p2 end steps_now

    abbrev after : CallForRoom
    after = room_so r p2

    abbrev calls2 : ℕ → Option (UnderWay K V Q)
    calls2 = with_at a.calls 0 (next_for_room after end)

    row_other : (i : ℕ) → i ≢ 0 → led.w2.row i ≡ Rests
    row_other i other = elim led.happened as (λ _. led.w2.row i ≡ Rests) [
      | inl h ↦ steps_others deferred_word setting.batch_size now.v led.w2 0 i other (now.v.row 0) h ∙ now.rows i other
      | inr h ↦ absurd (no_room_row_rests r.reserve.stands is_row (sym h.3.0 ∙ now.row_is))
    ]

    goes_on : IsLoneReserve (is_incremental setting.mode) 0 c p2.stands
        → ((x : IsAtPoint V same hash asks setting slot led.w2 c seen 0 (ForRoom after)) → IsOfRoot same hash asks setting slot led.w2 c seen (ForRoom after) x)
        → next_for_room {Q = Q} after end ≡ Some (ForRoom after) → IsAlone {Q = Q} same hash asks setting slot led.w2 c blocks sights (ForRoom after)
    goes_on alone of_root goes =
        let has2 : calls2 0 ≡ Some (ForRoom after) = at_same a.calls 0 (next_for_room after end) 0 refl ∙ goes in
        record {
          calls = calls2;
          has = has2;
          others = λ i other. at_other a.calls 0 (next_for_room after end) i other ∙ a.others i other;
          together = led.together;
          rows = row_other;
          lone = alone;
          inside = led.together.inside 0 (ForRoom after) has2;
          of_root = of_root (led.together.stand 0 (ForRoom after) has2);
        }

    abbrev IsStill : Reserve → Type 0
    IsStill q = StillRoom hash r.reserve now.v.memory m2 q

    still_at : IsStill p2 → (x : KnowsOf led.w2 p2) → IsFirst x
    still_at s (inl facts) = tt
    still_at s (inr late) = room_never_late_at same hash here led.w2 0 c seen late.blocking r.began p2.stands s.is_row (s.target c.first (now.target late.blocking)) late.point

    still_past : IsStill p2 → (x : KnowsOf led.w2 (room_once_over p2)) → IsFirst x
    still_past s (inl facts) = tt
    still_past s (inr late) = room_never_late_past same hash here led.w2 0 c seen late.blocking r.began p2.stands s.is_row (s.target c.first (now.target late.blocking)) late.point

    still_of_root : IsStill p2 → (x : IsAtPoint V same hash asks setting slot led.w2 c seen 0 (ForRoom after)) → IsOfRoot same hash asks setting slot led.w2 c seen (ForRoom after) x
    still_of_root s (inl (rests, knows)) = still_at s knows.facts
    still_of_root s (inr (row, at_row, knows)) = still_past s knows.facts

    still_alone : IsStill p2 → next_for_room {Q = Q} after end ≡ Some (ForRoom after) → IsAlone {Q = Q} same hash asks setting slot led.w2 c blocks sights (ForRoom after)
    still_alone s goes = goes_on (record { idle = a.lone.idle; point = s.alone (is_incremental setting.mode) c a.lone.point }) (still_of_root s) goes

    over_first : p2 ≡ room_once_over r.reserve → (x : KnowsOf led.w2 p2) → IsFirst x
    over_first past (inl facts) = tt
    over_first past (inr late) =
        let now_late = subst (SupersededReserveFacts same hash led.w2 0 here c seen r.began) past late in
        room_never_late_past same hash here led.w2 0 c seen late.blocking r.began r.reserve.stands is_row (now.target late.blocking) now_late.point

    over_of_root : (IsRowOfReserve p2.stands → ⊥) → p2 ≡ room_once_over r.reserve
        → (x : IsAtPoint V same hash asks setting slot led.w2 c seen 0 (ForRoom after)) → IsOfRoot same hash asks setting slot led.w2 c seen (ForRoom after) x
    over_of_root none past (inl (rests, knows)) = over_first past knows.facts
    over_of_root none past (inr (row, at_row, knows)) = absurd (none at_row)

    abbrev LeadsSo : Yielding (Node K V) Unit → Type 0
    LeadsSo x = RoomLeads {Q = Q} same hash asks setting slot w led.w2 c blocks sights after x

    as_told : (x : Yielding (Node K V) Unit) → end ≡ x → LeadsSo x → LeadsSo end
    as_told x is h = subst LeadsSo (sym is) h

    settling_leads : (x y : Settle) (o : Settled (Node K V)) → now.v.row 0 ≡ Settles x → Steps Took value_at now.v.memory (settle_plan deferred_word x) m2 (y, o) → is_going o ≡ true → end ≡ room_told_by o
        → IsStill p2 → LeadsSo end
    settling_leads x y settled.Goes row st going is s = as_told outcome.Goes is (still_alone s (ap (next_for_room after) is))
    settling_leads x y settled.Waits row st going is s = absurd (never_waits setting.batch_size now.v now.together.ground.came 0 now.rows x row m2 y st)
    settling_leads x y (settled.Gave value) row st going is s =
        as_told (outcome.Gave value) is (still_alone s (ap (next_for_room after) is), now.reclaims led.w2 value (led.gives value is))
    settling_leads x y settled.Done row st going is s = absurd (cc going)

    pub by_account : (x : Reserve × Yielding (Node K V) Unit) → x ≡ (p2, end) → RoomAccount hash r.reserve now.v.memory m2 x → LeadsSo end
    by_account e is (RoomSettling x y o _ row st going tells row2 s) =
        settling_leads x y o (now.row_is ∙ row) st going (sym (ap (λ (z : Reserve × Yielding (Node K V) Unit). z.1) is) ∙ tells)
        (subst IsStill (ap (λ (z : Reserve × Yielding (Node K V) Unit). z.0) is) s)
    by_account e is (RoomOver _ tells none past alone) =
        let same_call = ap (λ (z : Reserve × Yielding (Node K V) Unit). z.0) is in
        let goes = sym (ap (λ (z : Reserve × Yielding (Node K V) Unit). z.1) is) ∙ tells in
        as_told outcome.Goes goes
        (goes_on (record { idle = a.lone.idle; point = subst (λ (q : Reserve). ReservesAlone (is_incremental setting.mode) c q.stands) same_call (alone (is_incremental setting.mode) c a.lone.point) })
        (over_of_root (subst (λ (q : Reserve). IsRowOfReserve q.stands → ⊥) same_call none) (sym same_call ∙ past)) (ap (next_for_room after) goes))

    -- a row keeps the pairs of the map
    pub row_kept : KeepsPairs w.memory c blocks led.w2.memory c blocks
    row_kept = elim led.happened as (λ _. KeepsPairs w.memory c blocks led.w2.memory c blocks) [
      | inl h ↦ subst (λ (m : Mem (Node K V)). KeepsPairs m c blocks led.w2.memory c blocks) now.memory
          (row_keeps same hash lawful setting now.v c blocks now.together.ground.map now.together.ground.came 0 led.w2 h)
      | inr h ↦ absurd (no_room_row_rests r.reserve.stands is_row (sym h.3.0 ∙ now.row_is))
    ]

    pub row_counts : (m0 : Mem (Node K V)) (more : ℕ) → HasAdded setting m0 more w.memory → HasAdded setting m0 more led.w2.memory
    row_counts m0 more had = elim led.happened as (λ _. HasAdded setting m0 more led.w2.memory) [
      | inl h ↦ row_shards same hash setting now.v c blocks now.together.ground.map now.together.ground.came now.together.ground.counter 0 led.w2 h m0 more
          (subst (HasAdded setting m0 more) (sym now.memory) had)
      | inr h ↦ absurd (no_room_row_rests r.reserve.stands is_row (sym h.3.0 ∙ now.row_is))
    ]

    -- and keeps to the root
    abbrev RootSo : Reserve × Yielding (Node K V) Unit → Type 0
    RootSo = KeepsToRoot setting led.w2.memory c

    told_so : (q : Reserve) → LooksAtRoot c q.stands → SumsUp setting led.w2.memory q.stands → (o : Settled (Node K V)) → RootSo (q, room_told_by o)
    told_so q root sums settled.Goes = (root, sums)
    told_so q root sums settled.Waits = (root, sums)
    told_so q root sums (settled.Gave value) = (root, sums)
    told_so q root sums settled.Done = (root, sums)

    pub root_by : LooksAtRoot c r.reserve.stands → (x : Reserve × Yielding (Node K V) Unit) → x ≡ (p2, end) → RoomAccount hash r.reserve now.v.memory m2 x → RootSo (p2, end)
    root_by root e is (RoomSettling x y o _ row st going tells row2 s) =
        subst RootSo is
        (subst (λ (t : Yielding (Node K V) Unit). RootSo (e.0, t)) (sym tells)
        (told_so e.0 (still_looks c r.reserve.stands e.0.stands is_row s.is_row s.target root) (row_sums setting led.w2.memory e.0.stands s.is_row) o))
    root_by root e is (RoomOver _ tells none past alone) =
        subst RootSo is
        (subst (λ (t : Yielding (Node K V) Unit). RootSo (e.0, t)) (sym tells)
        (subst (λ (q : Reserve). LooksAtRoot c q.stands × SumsUp setting led.w2.memory q.stands) (sym past)
        (over_looks c r.reserve.stands is_row root, over_sums setting led.w2.memory r.reserve.stands is_row)))

    abbrev pub row_leads : RoomStepLeads {Q = Q} same hash asks setting slot w c blocks r m2 p2 end
    row_leads = record {
      w2 = led.w2;
      c2 = c;
      blocks2 = blocks;
      sights2 = sights;
      memory = led.memory;
      same_pairs = refl;
      counts = row_counts;
      places = λ incremental root sums. root_by root (p2, end) refl (room_account hash r.reserve now.v.memory m2 is_row (p2, end) steps_now);
      ends = λ bits fits sums count said so. row_reserve_ends hash c r.reserve is_row count w.memory m2 (p2, end) steps so;
      runs = λ keys m0 c0 blocks0 rule0. run_on same hash setting keys m0 c0 blocks0 w.memory led.w2.memory c c blocks blocks Unchanged Unchanged (λ h. h) row_kept (λ h. h);
      leads = by_account (p2, end) refl (room_account hash r.reserve now.v.memory m2 is_row (p2, end) steps_now);
    }

    -- less is left to do
    abbrev Lower : Reserve → Type 0
    Lower q = IsBelow (room_numbers c seen q m2) (room_numbers c seen r.reserve w.memory)

    lower_account : (x : Reserve × Yielding (Node K V) Unit) → x ≡ (p2, end) → HasMore end → RoomAccount hash r.reserve now.v.memory m2 x → Lower x.0
    lower_account e is more (RoomSettling x y o _ row st going tells row2 s) =
        let less = settling_lowers setting.batch_size now.v now.together.ground.came 0 now.rows x (now.row_is ∙ row) m2 y o st going in
        let was : row_left (Settles x) now.v.memory ≡ row_left (row_of_room r.reserve.stands) w.memory = ap (row_left (Settles x)) now.memory ∙ ap (λ (z : Row). row_left z w.memory) (sym row) in
        let then = ap (λ (z : Row). row_left {K = K} {V = V} z m2) row2 in
        subst (λ (xs : List ℕ). IsBelow (xs ++ (row_left (row_of_room e.0.stands) m2 ∷ [])) (room_numbers c seen r.reserve w.memory)) (sym (s.number c seen))
        (lower_last (number_of_reserve c seen r.reserve) (row_left (row_of_room e.0.stands) m2) (row_left (row_of_room r.reserve.stands) w.memory) (omega (arith, less, was, then)))
    lower_account e is more (RoomOver _ tells none past alone) =
        let goes : (p2, end) ≡ (e.0, outcome.Goes) = sym is ∙ ap (λ (x : Yielding (Node K V) Unit). (e.0, x)) tells in
        elim (reserve_rows_fall {K = K} {V = V} hash r.reserve is_row w.memory m2 (e.0, outcome.Goes)
        (subst (λ (x : Reserve × Yielding (Node K V) Unit). Steps Took value_at w.memory (reserve_plan hash r.reserve) m2 x) goes steps) tt c seen)
        as (λ _. Lower e.0) [
          | inl same_row ↦ absurd (none same_row.0)
          | inr fallen ↦ lower_more (number_of_reserve c seen e.0) (number_of_reserve c seen r.reserve) _ _ fallen.1
        ]

    pub row_lower : HasMore end → Lower p2
    row_lower more = lower_account (p2, end) refl more (room_account hash r.reserve now.v.memory m2 is_row (p2, end) steps_now)
