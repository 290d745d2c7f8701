-- A step of a reservation that is alone, none of a row of the collector: it does not wait, and the reservation is alone still, or the owner rests.
use Rattle.std.specs.Prelude.{◌≡◌, ℕ, suc, ◌⊎◌, Bool, Option, Some, None}
use Rattle.std.specs.Int.{IsPowerOfTwo}
use Rattle.std.proofs.Common.{inl, inr, refl, ap, sym, subst, ◌∙◌}
use Rattle.std.proofs.lemmas.Bool.{cases_eq}
use Rattle.seize_words.specs.OneMemory.Mem.{Mem, Can, Took, value_at}
use Rattle.seize_words.specs.OneMemory.Plan.{May, Steps}
use Rattle.seize.specs.World.{World, Row, Rests, IsInside, with_at}
use Rattle.map_tables.specs.Chunks.{is_incremental}
use Rattle.map_tables.specs.declared.node.Node.{Node}
use Rattle.map_tables.specs.declared.setting.Setting.{Setting}
use Rattle.map_measures.specs.Given.ResizeDeclared.yielding.Yielding.{Yielding}
use Rattle.map_measures.specs.Given.ResizeDeclared.yielding.Yielding.TheVariants as outcome
use Rattle.papaya_raw.specs.Given.ReservesReserve.{reserve_plan}
use Rattle.papaya_raw.specs.Given.ReservesDeclared.reserve.Reserve.{Reserve}
use Rattle.papaya_raw.specs.Given.ReservesDeclared.reserve.Reserving.{Reserving}
use Rattle.papaya_raw.specs.Given.ReservesDeclared.reserve.Reserving.TheVariants as at
use Rattle.map_measures.specs.Given.RuleChart.{Chart}
use Rattle.map_measures.specs.Given.RuleWords.{Blocks}
use Rattle.map_measures.specs.Given.RuleInWorld.{IsMapIn, StepSpec}
use Rattle.map_measures.specs.Given.PointsMeasures.{IsBelow}
use Rattle.owner_facts.specs.Given.PointsSteps.{AreLawful}
use Rattle.owner_facts.specs.Given.PointsTold.{OnlyLinks}
use Rattle.owner_facts.specs.Given.LateFactsReserves.{CopiesPairs, ReserveFacts}
use Rattle.owner_facts.specs.Given.LateLateReserves.{SupersededReserveFacts}
use Rattle.owner_facts.specs.Given.LateToldReserves.{ReserveOutcome, ReserveAfter, IsRowOfReserve}
use Rattle.owner_facts.proofs.Given.LateRooms.Laws.{reserves_keep_the_map}
use Rattle.owner_facts.proofs.Given.LateRooms.Reserves.Moved.{ReserveMoves}
use Rattle.owner_facts.proofs.Given.LateRooms.Reserves.On.{ReserveWent}
use Rattle.owner_facts.proofs.Given.LateRooms.Reserves.Points.{went_reserve}
use Rattle.owner_facts.specs.Alone.FactsAloneCalls.{AloneBetweenCalls}
use Rattle.owner_facts.specs.Maps.FactsAloneReserves.{IsLoneReserve, LeadsReserve}
use Rattle.owner_facts.proofs.Maps.Reserves.AtRoot.{keeps_to_root}
use Rattle.owner_facts.proofs.Maps.Reserves.Beside.{reserve_leads}
use Rattle.map_measures.specs.Falls.Reserves.{number_of_reserve}
use Rattle.map_measures.proofs.Falls.Laws.{reserves_fall}
use Rattle.owner_facts.specs.Given.CallersRooms.{CallForRoom}
use Rattle.owner_facts.specs.Given.CallersSights.{Visible, seen_by}
use Rattle.owner_facts.specs.Given.CallersTogether.{UnderWay, ForRoom, next_for_room, in_slot, KnowsRoom, IsAtPoint, Together, RoomOutcome, FreshRoom, RoomStepsTogether}
use Rattle.owner_facts.proofs.Given.CallersSights.Seen.{map_seen}
use Rattle.owner_facts.proofs.Given.CallersSights.Sources.{below}
use Rattle.owner_facts.proofs.Given.CallersTogether.At.{at_other, at_same}
use Rattle.owner_facts.proofs.Given.CallersTogether.Came.{came_reached}
use Rattle.owner_facts.proofs.Given.CallersTogether.Fits.{map_in_slot}
use Rattle.owner_facts.proofs.Given.CallersTogether.Rooms.{room_leads}
use Rattle.owner_facts.proofs.Given.CallersTogether.Users.{events_rows, inside_on}
use Rattle.owner_facts.specs.Given.PointsFactsCalls.{Unchanged}
use Rattle.map_measures.proofs.Given.PointsMovedLasts.{moved_lasts}
use Rattle.owner_facts.proofs.Alone.Calls.Changes.{changed_on}
use Rattle.owner_whole.proofs.Whole.Contents.Runs.{went_keeps, run_on, still_on}
use Rattle.owner_facts.specs.Alone.Counting.{shards_sum}
use Rattle.owner_facts.proofs.Alone.Shards.Sums.{added_same}
use Rattle.owner_facts.proofs.Maps.Reserves.Counted.{reserve_counts_none}
use Rattle.owner_whole.specs.Whole.Owner.{IsFirst, IsOfRoot, IsQuiescent, IsAlone}
use Rattle.owner_whole.specs.Whole.WholeRooms.{room_so, RoomLeads, RoomStepLeads}
use Rattle.owner_whole.proofs.Whole.Joined.{same_joined, links_joined}
use Rattle.owner_whole.proofs.Whole.Fresh.Rooms.{never_both_rooms}
use Rattle.owner_whole.proofs.Whole.Limits.Rooms.{reserve_ends}
use Rattle.owner_whole.proofs.Whole.Rooms.Account.{no_room_row_rests}

module _ {K V Q : Type 0} (same : K → K → Bool) (hash : K → ℕ) (asks : Q → K → Bool) (setting : Setting) (slot : ℕ → ℕ) (lawful : AreLawful same hash)
    (w : World (Node K V)) (c : Chart K) (blocks : Blocks) (sights : ℕ → Visible) (r : CallForRoom) (a : IsAlone {Q = Q} same hash asks setting slot w c blocks sights (ForRoom r)) where
  abbrev pub here : Setting
  here = in_slot setting (slot 0)

  abbrev pub seen : Blocks
  seen = seen_by blocks (sights (slot 0))

  -- what it knows in the root's table, or in one that the root has left
  abbrev KnowsOf : World (Node K V) → Chart K → Blocks → Reserve → Type 0
  KnowsOf v d b p = ReserveFacts same hash v 0 here d b p ⊎ SupersededReserveFacts same hash v 0 here d b r.began p

  pub inside : IsInside (w.uses (slot 0))
  inside = a.together.inside 0 (ForRoom r) a.has

  pub map : IsMapIn same hash here w c seen
  map = map_seen same hash here w c blocks (sights (slot 0)) (map_in_slot same hash setting w c blocks (slot 0) a.together.ground.map) (a.together.ground.sight (slot 0) inside).0

  first_of : (p : Reserve) (x : KnowsOf w c seen p) → IsFirst x → ReserveFacts same hash w 0 here c seen p
  first_of p (inl facts) first = facts
  first_of p (inr late) first = absurd first

  -- at a point of its own it knows what the point says
  module _ (none : IsRowOfReserve r.reserve.stands → ⊥) where
    abbrev pub KnowsHere : Type 0
    KnowsHere = (w.row 0 ≡ Rests) × KnowsRoom V same hash asks setting slot w c seen 0 r.began r.reserve × ReserveFacts same hash w 0 here c seen r.reserve

    pub knows_here : KnowsHere
    knows_here = by (a.together.stand 0 (ForRoom r) a.has) a.of_root
      where
        by : (x : IsAtPoint V same hash asks setting slot w c seen 0 (ForRoom r)) → IsOfRoot same hash asks setting slot w c seen (ForRoom r) x → KnowsHere
        by (inl (rests, knows)) first = (rests, knows, first_of r.reserve knows.facts first)
        by (inr (row, is_row, knows)) first = absurd (none is_row)

    module _ (initial : IsPowerOfTwo setting.initial) where
      pub own_may : May Can Took value_at w.memory (reserve_plan hash r.reserve)
      own_may = (reserves_keep_the_map V same hash lawful here initial w 0 c seen r.reserve map knows_here.2 none).0

      module _ (m2 : Mem (Node K V)) (p2 : Reserve) (end : Yielding (Node K V) Unit) (steps : Steps Took value_at w.memory (reserve_plan hash r.reserve) m2 (p2, end)) where
        pub went : ReserveWent same hash 0 here w c seen m2 r.reserve.stands (p2, end)
        went = went_reserve same hash 0 here lawful.lawful lawful.fits initial w c seen map r.reserve knows_here.2 none m2 (p2, end) steps

        only_links : (stage : Reserving) → ReserveMoves same hash 0 here w c m2 stage (p2, end) went.w2 went.c2 went.blocks2 → (CopiesPairs stage → ⊥) → OnlyLinks hash setting.mode c went.c2
        only_links (at.Copies copier) moves other = absurd (other tt)
        only_links at.Reads moves other = moves.0
        only_links (at.Makes making) moves other = moves.0
        only_links (at.Sums table sum) moves other = moves.0
        only_links (at.Follows table need) moves other = moves.0
        only_links (at.Grows table making) moves other = moves.0
        only_links at.Over moves other = moves.0
        only_links (at.Refused fault) moves other = moves.0

        pub tells : ReserveOutcome same hash 0 here c r.reserve went.w2 went.c2 went.blocks2 p2 end
        tells = record { facts = went.told.2; same_pairs = went.told.1; beside = only_links r.reserve.stands went.told.3 }

        abbrev pub fresh : StepSpec same hash here 0 w c seen m2 (RoomOutcome V same hash asks setting slot c 0 r p2 end)
        fresh = record {
          w2 = went.w2;
          c2 = went.c2;
          blocks2 = went.blocks2;
          events = went.events;
          users = went.users;
          its = went.its;
          runs = went.runs;
          memory = went.memory;
          frame = went.frame;
          tables = went.tables;
          links = went.links;
          spares = went.spares;
          moved = went.moved;
          map = went.map;
          blocks_same = went.blocks_same;
          told = FreshRoom tells;
        }

        abbrev pub stepped : RoomStepsTogether V same hash asks setting slot w c blocks sights a.calls 0 r m2 p2 end
        stepped = room_leads same hash asks setting slot lawful w c blocks sights a.calls a.together 0 r a.has none knows_here.0 knows_here.1 m2 p2 end own_may steps fresh

        abbrev pub after : CallForRoom
        after = room_so r p2

        abbrev pub calls2 : ℕ → Option (UnderWay K V Q)
        calls2 = with_at a.calls 0 (next_for_room after end)

        pub together2 : Together V same hash asks setting slot went.w2 went.c2 stepped.blocks2 stepped.sights2 calls2
        together2 = stepped.together

        row_same : (i : ℕ) → went.w2.row i ≡ w.row i
        row_same i = ap (λ (f : ℕ → Row). f i) (events_rows setting.batch_size went.events w went.w2 went.users went.runs)

        pub inside2 : IsInside (went.w2.uses (slot 0))
        inside2 =
            inside_on setting.batch_size slot 0 went.events w went.w2 (came_reached setting.batch_size w a.together.ground.came) inside went.users went.runs (slot 0) inside

        abbrev pub seen2 : Blocks
        seen2 = seen_by stepped.blocks2 (stepped.sights2 (slot 0))

        pub map2 : IsMapIn same hash here went.w2 went.c2 seen2
        map2 =
            map_seen same hash here went.w2 went.c2 stepped.blocks2 (stepped.sights2 (slot 0)) (map_in_slot same hash setting went.w2 went.c2 stepped.blocks2 (slot 0) together2.ground.map)
            (together2.ground.sight (slot 0) inside2).0

        pub leads_lone : LeadsReserve (is_incremental setting.mode) 0 went.c2 (p2, end)
        leads_lone =
            reserve_leads same hash 0 here lawful.lawful lawful.fits initial w went.w2 c went.c2 seen went.blocks2 map went.map m2 r.reserve.stands knows_here.2.point none (p2, end) went.told.3 a.lone

        -- where it goes on, the root has left no table that it works in
        module _ (facts : ReserveFacts same hash went.w2 0 here went.c2 went.blocks2 p2) where
          first_then : (x : KnowsOf went.w2 went.c2 seen2 p2) → IsFirst x
          first_then (inl known) = tt
          first_then (inr late) = never_both_rooms same hash here went.w2 0 went.c2 went.blocks2 seen2 went.map map2 r.began p2 facts late

          of_root_then : (x : IsAtPoint V same hash asks setting slot went.w2 went.c2 seen2 0 (ForRoom after)) → IsOfRoot same hash asks setting slot went.w2 went.c2 seen2 (ForRoom after) x
          of_root_then (inl (rests, knows)) = first_then knows.facts
          of_root_then (inr (row, is_row, knows)) = absurd (no_room_row_rests p2.stands is_row (sym knows_here.0 ∙ sym (row_same 0) ∙ row))

          pub still_alone : IsLoneReserve (is_incremental setting.mode) 0 went.c2 p2.stands → next_for_room {Q = Q} after end ≡ Some (ForRoom after)
              → IsAlone {Q = Q} same hash asks setting slot went.w2 went.c2 stepped.blocks2 stepped.sights2 (ForRoom after)
          still_alone alone goes =
              let has2 : calls2 0 ≡ Some (ForRoom after) = at_same a.calls 0 (next_for_room after end) 0 refl ∙ goes in
              record {
                calls = calls2;
                has = has2;
                others = λ i other. at_other a.calls 0 (next_for_room after end) i other ∙ a.others i other;
                together = together2;
                rows = λ i other. row_same i ∙ a.rows i other;
                lone = alone;
                inside = together2.inside 0 (ForRoom after) has2;
                of_root = of_root_then (together2.stand 0 (ForRoom after) has2);
              }

        -- where it has ended, the owner rests
        at_rest : AloneBetweenCalls (is_incremental setting.mode) 0 went.c2 → next_for_room {Q = Q} after end ≡ None → IsQuiescent {Q = Q} same hash asks setting slot went.w2 went.c2 stepped.blocks2 stepped.sights2
        at_rest alone ends = record {
          calls = calls2;
          none = λ i. elim (cases_eq i 0) as (λ _. calls2 i ≡ None) [
            | inl e ↦ at_same a.calls 0 (next_for_room after end) i e ∙ ends
            | inr other ↦ at_other a.calls 0 (next_for_room after end) i other ∙ a.others i other
          ];
          together = together2;
          rows = λ i. elim (cases_eq i 0) as (λ _. went.w2.row i ≡ Rests) [
            | inl e ↦ row_same i ∙ ap w.row e ∙ knows_here.0
            | inr other ↦ row_same i ∙ a.rows i other
          ];
          inside = inside2;
          alone = alone;
        }

        had_shards : shards_sum went.w2.memory setting.counter (suc setting.mask) ≡ shards_sum w.memory setting.counter (suc setting.mask)
        had_shards =
            ap (λ (m : Mem (Node K V)). shards_sum m setting.counter (suc setting.mask)) went.memory
            ∙ reserve_counts_none same hash w here c seen map r.reserve knows_here.2 none own_may m2 (p2, end) steps

        pub own_leads : RoomStepLeads {Q = Q} same hash asks setting slot w c blocks r m2 p2 end
        own_leads = record {
          w2 = went.w2;
          c2 = went.c2;
          blocks2 = stepped.blocks2;
          sights2 = stepped.sights2;
          memory = went.memory;
          same_pairs = went.told.1;
          leads = by end refl went.told.2 leads_lone;
          counts = λ m0 more had. added_same w.memory went.w2.memory setting m0 more had had_shards;
          places = λ incremental root sums.
              keeps_to_root same hash here incremental w went.w2 c went.c2 seen went.blocks2 map went.map (moved_lasts same hash here lawful.lawful w c went.c2 seen map went.moved) went.blocks_same went.moved
              r.reserve knows_here.2 none (p2, end) went.told.2
              (subst (λ (m : Mem (Node K V)). Steps Took value_at w.memory (reserve_plan hash r.reserve) m (p2, end)) (sym went.memory) steps) root sums;
          ends = λ bits fits sums count said so.
              reserve_ends same hash here bits fits w went.w2 c went.c2 seen went.blocks2 map went.map (moved_lasts same hash here lawful.lawful w c went.c2 seen map went.moved) went.blocks_same
              r.reserve knows_here.2 own_may count said sums (p2, end)
              (subst (λ (m : Mem (Node K V)). Steps Took value_at w.memory (reserve_plan hash r.reserve) m (p2, end)) (sym went.memory) steps) so;
          runs = λ keys m0 c0 blocks0 rule0. run_on same hash setting keys m0 c0 blocks0 w.memory went.w2.memory c went.c2 blocks stepped.blocks2 Unchanged Unchanged
              (λ changed. changed_on same hash setting keys c0 c went.c2 rule0 map.map.rule went.map.map.rule went.moved
              (moved_lasts same hash here lawful.lawful w c went.c2 seen map went.moved) Unchanged Unchanged changed (inl (refl, went.told.1)))
              (went_keeps same hash lawful setting w c blocks a.together.ground.map here 0 seen m2 _ went stepped.blocks2 (λ o low. below o c.stored (blocks.pair o) (went.blocks2.pair o) low) map
              (λ o low e. sym (ap (λ (f : ℕ → Bool). f o) went.told.1) ∙ e))
              (still_on same hash setting.mode keys 0 c0 c went.c2 went.moved stepped.remembers together2.ground.moments Unchanged Unchanged (inl (refl, went.told.1)));
        }
          where
            by : (x : Yielding (Node K V) Unit) → end ≡ x → ReserveAfter went.w2 0 here went.c2 went.blocks2 same hash (p2, x) → LeadsReserve (is_incremental setting.mode) 0 went.c2 (p2, x)
                → RoomLeads same hash asks setting slot w went.w2 went.c2 stepped.blocks2 stepped.sights2 after x
            by outcome.Goes is facts alone = still_alone facts alone (ap (next_for_room after) is)
            by outcome.Waits is facts alone = alone
            by (outcome.Gave value) is facts alone = absurd facts
            by (outcome.Done x) is facts alone = at_rest alone (ap (next_for_room after) is)
            by (outcome.Refused fault) is facts alone = at_rest alone (ap (next_for_room after) is)

        -- the same step, by all that is seen then: where it goes on, its numbers are lower
        abbrev to : StepSpec same hash here 0 w c seen m2 (λ w2 c2 blocks2. Unit {0})
        to = record {
          w2 = went.w2;
          c2 = went.c2;
          blocks2 = seen2;
          events = went.events;
          users = went.users;
          its = went.its;
          runs = went.runs;
          memory = went.memory;
          frame = went.frame;
          tables = went.tables;
          links = links_joined c seen went.blocks2 went.blocks_same 0 w went.w2 went.c2 went.links;
          spares = went.spares;
          moved = went.moved;
          map = map2;
          blocks_same = same_joined c seen went.blocks2;
          told = tt;
        }

        pub own_lower : Steps Took value_at w.memory (reserve_plan hash r.reserve) m2 (p2, outcome.Goes) → IsBelow (number_of_reserve went.c2 seen2 p2) (number_of_reserve c seen r.reserve)
        own_lower st = reserves_fall V same hash lawful here w 0 c seen r.reserve map knows_here.2 none m2 (p2, outcome.Goes) st tt to
