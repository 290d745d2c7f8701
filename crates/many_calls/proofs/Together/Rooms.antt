-- A reservation among the calls on its map: it begins, and takes each step that is none of a row, and all stand together.
use Rattle.std.specs.Prelude.{◌≡◌, ◌⊎◌, ℕ, ◌≤◌, Bool, false, Option, Some}
use Rattle.std.proofs.Common.{◌∙◌, arith, subst, inl, inr}
use Rattle.seize_model.specs.Given.SeizeWordsMem.{Mem, Can, Took, value_at}
use Rattle.seize_model.specs.Given.SeizeWordsPlan.{May, Steps}
use Rattle.seize_model.specs.Given.SeizeWorld.{World, Rests, IsInside, with_at}
use Rattle.map_facts_late.specs.Given.TablesChunks.{is_incremental}
use Rattle.map_facts_late.specs.Given.TablesDeclared.node.Node.{Node}
use Rattle.map_facts_late.specs.Given.TablesDeclared.setting.Setting.{Setting}
use Rattle.map_facts_late.specs.Given.ResizeDeclared.yielding.Yielding.{Yielding}
use Rattle.map_facts_late.specs.Given.ResizeDeclared.yielding.Yielding.TheVariants as outcome
use Rattle.map_facts_late.specs.Given.ReservesReserve.{reserving, reserve_plan}
use Rattle.map_facts_late.specs.Given.ReservesDeclared.reserve.Reserve.{Reserve}
use Rattle.map_facts_late.specs.Given.RuleChart.{Chart}
use Rattle.map_facts_late.specs.Given.RuleWords.{Blocks}
use Rattle.map_facts_late.specs.Given.RuleInWorld.{IsMapIn, StepSpec}
use Rattle.map_facts_late.specs.Given.RuleMoments.{Remembers}
use Rattle.map_facts_late.proofs.Given.RuleWorld.WentTold.{went_as}
use Rattle.map_facts_late.specs.Given.PointsFactsIdle.{IsIdle}
use Rattle.map_facts_late.specs.Given.PointsSteps.{AreLawful}
use Rattle.map_facts_late.specs.Given.PointsTold.{OnlyLinks}
use Rattle.map_facts_late.specs.FactsReserves.{CopiesPairs, ReserveFacts}
use Rattle.map_facts_late.specs.LateReserves.{SupersededReserveFacts}
use Rattle.map_facts_late.specs.LateToldReserves.{SupersededReserveAfter}
use Rattle.map_facts_late.specs.ToldReserves.{ReserveAfter, IsRowOfReserve}
use Rattle.map_facts_late.proofs.Rooms.Laws.{reserves_begin, reserves_keep_the_map, late_reserves_keep_the_map}
use Rattle.many_calls.specs.Rooms.{CallForRoom, RoomClaims}
use Rattle.many_calls.specs.Sights.{Visible, seen_by}
use Rattle.many_calls.specs.Together.{UnderWay, ForRoom, ClaimsInto, next_for_room, in_slot, StayFew, KnowsRoom, IsAtPoint, Together, RoomsBeginTogether, RoomOutcome, FreshRoom, LateRoom, RoomStepsTogether, RoomsPreserveTheInvariant}
use Rattle.many_calls.proofs.Claims.Rooms.{room_claims_by}
use Rattle.many_calls.proofs.Sights.Seen.{map_seen}
use Rattle.many_calls.proofs.Together.Few.{few_begun, few_step, claim_few, room_next_is}
use Rattle.many_calls.proofs.Together.Fits.{map_in_slot, Fits, fits_some, fits_none, fits_of, stands_by, knows_room_on}
use Rattle.many_calls.proofs.Together.Moves as moves
use Rattle.many_calls.proofs.Together.Told.{idle_blocking}

module _ {K V Q : Type 0} (same : K → K → Bool) (hash : K → ℕ) (asks : Q → K → Bool) (setting : Setting) (slot : ℕ → ℕ) where
  abbrev Stand : World (Node K V) → Chart K → Blocks → (ℕ → Visible) → (ℕ → Option (UnderWay K V Q)) → Type 0
  Stand = Together V same hash asks setting slot

  pub rooms_begin_together : RoomsBeginTogether V same hash asks setting slot
  rooms_begin_together w c blocks sights calls i s none rests inside additional few =
      stands_by same hash asks setting slot w c blocks sights calls i (Some (ForRoom it)) s.ground
      (fits_some same hash asks setting slot w c blocks (sights (slot i)) i (ForRoom it) inside
      (inl (
        rests,
        record {
          facts = inl (reserves_begin V same hash (in_slot setting (slot i)) w i c (seen_by blocks (sights (slot i))) (s.idle i none) additional);
          began_before = (let e : c.now ≤ c.now = omega arith in e);
        },
      )))
      (λ j other. fits_of same hash asks setting slot w c blocks sights calls s j)
      (λ blocking. few_begun calls i (ForRoom it) c (s.few blocking) (λ t claims. claims) (few blocking)) s.onto (λ none. absurd (cc none))
    where
      it : CallForRoom
      it = record { began = c.now; reserve = reserving (in_slot setting (slot i)) additional }

  module _ (lawful : AreLawful same hash) (w : World (Node K V)) (c : Chart K) (blocks : Blocks) (sights : ℕ → Visible) (calls : ℕ → Option (UnderWay K V Q))
      (s : Stand w c blocks sights calls) (i : ℕ) (r : CallForRoom) (has : calls i ≡ Some (ForRoom r)) (none : IsRowOfReserve r.reserve.stands → ⊥) (rests : w.row i ≡ Rests)
      (knows : KnowsRoom V same hash asks setting slot w c (seen_by blocks (sights (slot i))) i r.began r.reserve)
      (m2 : Mem (Node K V)) (p2 : Reserve) (end : Yielding (Node K V) Unit) (may : May Can Took value_at w.memory (reserve_plan hash r.reserve))
      (steps : Steps Took value_at w.memory (reserve_plan hash r.reserve) m2 (p2, end)) where
    abbrev seen : Blocks
    seen = seen_by blocks (sights (slot i))

    abbrev its : Setting
    its = in_slot setting (slot i)

    abbrev Tells : World (Node K V) → Chart K → Blocks → Type 0
    Tells = RoomOutcome V same hash asks setting slot c i r p2 end

    pub inside : IsInside (w.uses (slot i))
    inside = s.inside i (ForRoom r) has

    map : IsMapIn same hash its w c seen
    map = moves.part same hash asks setting slot lawful w c blocks sights calls s i inside m2 Tells (slot i) i inside

    -- where it goes on, or has no part in a copying
    abbrev Knows2 : World (Node K V) → Chart K → Blocks → Yielding (Node K V) Unit → Type 0
    Knows2 w2 c2 blocks2 outcome.Goes = ReserveFacts same hash w2 i its c2 blocks2 p2 ⊎ SupersededReserveFacts same hash w2 i its c2 blocks2 r.began p2
    Knows2 w2 c2 blocks2 outcome.Waits = ReserveFacts same hash w2 i its c2 blocks2 p2 ⊎ SupersededReserveFacts same hash w2 i its c2 blocks2 r.began p2
    Knows2 w2 c2 blocks2 (outcome.Gave value) = ⊥
    Knows2 w2 c2 blocks2 (outcome.Done x) = IsIdle same hash w2 i its c2 blocks2
    Knows2 w2 c2 blocks2 (outcome.Refused fault) = IsIdle same hash w2 i its c2 blocks2

    fresh_then : (w2 : World (Node K V)) (c2 : Chart K) (blocks2 : Blocks) (x : Yielding (Node K V) Unit) → ReserveAfter w2 i its c2 blocks2 same hash (p2, x) → Knows2 w2 c2 blocks2 x
    fresh_then w2 c2 blocks2 outcome.Goes h = inl h
    fresh_then w2 c2 blocks2 outcome.Waits h = inl h
    fresh_then w2 c2 blocks2 (outcome.Gave value) h = h
    fresh_then w2 c2 blocks2 (outcome.Done x) h = h
    fresh_then w2 c2 blocks2 (outcome.Refused fault) h = h

    late_then : is_incremental setting.mode ≡ false → (w2 : World (Node K V)) (c2 : Chart K) (blocks2 : Blocks) (x : Yielding (Node K V) Unit) → SupersededReserveAfter same hash i its r.began w2 c2 blocks2 (p2, x) → Knows2 w2 c2 blocks2 x
    late_then blocking w2 c2 blocks2 outcome.Goes h = h
    late_then blocking w2 c2 blocks2 outcome.Waits h = inr h
    late_then blocking w2 c2 blocks2 (outcome.Gave value) h = h
    late_then blocking w2 c2 blocks2 (outcome.Done x) h = idle_blocking same hash asks setting slot w2 i c2 blocks2 (slot i) blocking h
    late_then blocking w2 c2 blocks2 (outcome.Refused fault) h = idle_blocking same hash asks setting slot w2 i c2 blocks2 (slot i) blocking h

    module _ (went : StepSpec same hash its i w c seen m2 Tells) where
      pub knows_then : Knows2 went.w2 went.c2 went.blocks2 end
      knows_then = by went.told
        where
          by : Tells went.w2 went.c2 went.blocks2 → Knows2 went.w2 went.c2 went.blocks2 end
          by (FreshRoom told) = fresh_then went.w2 went.c2 went.blocks2 end told.facts
          by (LateRoom blocking told) = late_then blocking went.w2 went.c2 went.blocks2 end told.facts

      pub pairs_same : went.c2.current ≡ c.current
      pairs_same = by went.told
        where
          by : Tells went.w2 went.c2 went.blocks2 → went.c2.current ≡ c.current
          by (FreshRoom told) = told.same_pairs
          by (LateRoom blocking told) = told.same_pairs

      beside : (CopiesPairs r.reserve.stands → ⊥) → OnlyLinks hash setting.mode c went.c2
      beside = by went.told
        where
          by : Tells went.w2 went.c2 went.blocks2 → (CopiesPairs r.reserve.stands → ⊥) → OnlyLinks hash setting.mode c went.c2
          by (FreshRoom told) = told.beside
          by (LateRoom blocking told) = told.beside

      abbrev pub after : CallForRoom
      after = record { began = r.began; reserve = p2 }

      -- after it calls are few as before
      pub few : is_incremental setting.mode ≡ false → StayFew (with_at calls i (next_for_room after end)) went.c2
      few blocking =
          few_step calls i (ForRoom r) has (next_for_room after end) c went.c2 (s.few blocking) (λ v is writes. tt) same hash setting.mode i s.ground.map.map.rule went.moved
          (λ t. RoomClaims t p2.stands) (λ v is t claims. subst (ClaimsInto t) (room_next_is after end v is) claims)
          (room_claims_by same hash w i its c seen blocking map r.began r.reserve knows.facts none m2 Tells went beside p2 end may steps)

      abbrev pub blocks_then : Blocks
      blocks_then = moves.blocks_then same hash asks setting slot lawful w c blocks sights calls s i inside m2 Tells rests went (next_for_room after end) few

      abbrev pub sights_then : ℕ → Visible
      sights_then = moves.sights_then same hash asks setting slot lawful w c blocks sights calls s i inside m2 Tells rests went (next_for_room after end) few

      pub remembers : Remembers (is_incremental setting.mode) c went.c2
      remembers = moves.remembers same hash asks setting slot lawful w c blocks sights calls s i inside m2 Tells rests went (next_for_room after end) few

      goes_on : ReserveFacts same hash went.w2 i its went.c2 went.blocks2 p2 ⊎ SupersededReserveFacts same hash went.w2 i its went.c2 went.blocks2 r.began p2
          → Fits same hash asks setting slot went.w2 went.c2 blocks_then (sights_then (slot i)) i (Some (ForRoom after))
      goes_on facts =
          fits_some same hash asks setting slot went.w2 went.c2 blocks_then (sights_then (slot i)) i (ForRoom after)
          (moves.inside_then same hash asks setting slot lawful w c blocks sights calls s i inside m2 Tells rests went (next_for_room after end) few (slot i) inside)
          (inl (
            moves.row_same same hash asks setting slot lawful w c blocks sights calls s i inside m2 Tells rests went (next_for_room after end) few i ∙ rests,
            knows_room_on same hash asks setting slot lawful i went.w2 went.w2 went.c2 went.c2 went.blocks2 (seen_by blocks_then (sights_then (slot i))) went.map
                (moves.part2 same hash asks setting slot lawful w c blocks sights calls s i inside m2 Tells rests went (next_for_room after end) few (slot i) i inside)
                (moves.moments2 same hash asks setting slot lawful w c blocks sights calls s i inside m2 Tells rests went (next_for_room after end) few)
                (moves.its_own same hash asks setting slot lawful w c blocks sights calls s i inside m2 Tells rests went (next_for_room after end) few)
                (moves.same_few same hash asks setting slot lawful w c blocks sights calls s i inside m2 Tells rests went (next_for_room after end) few) r.began p2
                (record { facts = facts; began_before = (let l = knows.began_before in let n = remembers.now in omega (arith, l, n)) }),
          ))

      pub mine : (x : Yielding (Node K V) Unit) → Knows2 went.w2 went.c2 went.blocks2 x → Fits same hash asks setting slot went.w2 went.c2 blocks_then (sights_then (slot i)) i (next_for_room after x)
      mine outcome.Goes h = goes_on h
      mine outcome.Waits h = goes_on h
      mine (outcome.Gave value) h = absurd h
      mine (outcome.Done x) h = fits_none same hash asks setting slot went.w2 went.c2 blocks_then (sights_then (slot i)) i h
      mine (outcome.Refused fault) h = fits_none same hash asks setting slot went.w2 went.c2 blocks_then (sights_then (slot i)) i h

      abbrev pub room_leads : RoomStepsTogether V same hash asks setting slot w c blocks sights calls i r m2 p2 end
      room_leads = record {
        went = went;
        inside = inside;
        remembers = remembers;
        same_pairs = pairs_same;
        blocks2 = blocks_then;
        grown = moves.grown_then same hash asks setting slot lawful w c blocks sights calls s i inside m2 Tells rests went (next_for_room after end) few;
        sights2 = sights_then;
        together = moves.moves_together same hash asks setting slot lawful w c blocks sights calls s i inside m2 Tells rests went (next_for_room after end) few (mine end knows_then);
      }

  pub rooms_stand_together : RoomsPreserveTheInvariant V same hash asks setting slot
  rooms_stand_together lawful initial w c blocks sights calls s i r has none = by (s.stand i (ForRoom r) has)
    where
      Comes : Type 0
      Comes =
          May Can Took value_at w.memory (reserve_plan hash r.reserve)
          × ((m2 : Mem (Node K V)) (p2 : Reserve) (end : Yielding (Node K V) Unit) → Steps Took value_at w.memory (reserve_plan hash r.reserve) m2 (p2, end)
          → RoomStepsTogether V same hash asks setting slot w c blocks sights calls i r m2 p2 end)

      its_map : IsMapIn same hash (in_slot setting (slot i)) w c (seen_by blocks (sights (slot i)))
      its_map = map_seen same hash (in_slot setting (slot i)) w c blocks (sights (slot i)) (map_in_slot same hash setting w c blocks (slot i) s.ground.map) (s.ground.sight (slot i) (s.inside i (ForRoom r) has)).0

      by_facts : w.row i ≡ Rests → (k : KnowsRoom V same hash asks setting slot w c (seen_by blocks (sights (slot i))) i r.began r.reserve)
          → ReserveFacts same hash w i (in_slot setting (slot i)) c (seen_by blocks (sights (slot i))) r.reserve ⊎ SupersededReserveFacts same hash w i (in_slot setting (slot i)) c (seen_by blocks (sights (slot i))) r.began r.reserve → Comes
      by_facts rests k (inl fresh) =
          let keeps = reserves_keep_the_map V same hash lawful (in_slot setting (slot i)) initial w i c (seen_by blocks (sights (slot i))) r.reserve its_map fresh none in (
            keeps.0,
            λ m2 p2 end steps. room_leads lawful w c blocks sights calls s i r has none rests k m2 p2 end keeps.0 steps
                (went_as same hash (in_slot setting (slot i)) i w c (seen_by blocks (sights (slot i))) m2 _ (RoomOutcome V same hash asks setting slot c i r p2 end)
                (λ w2 c2 blocks2 map moved blocks_same told. FreshRoom told.1) (keeps.1 m2 p2 end steps)),
          )
      by_facts rests k (inr late) =
          let keeps = late_reserves_keep_the_map V same hash lawful (in_slot setting (slot i)) initial w i c (seen_by blocks (sights (slot i))) r.began r.reserve its_map s.ground.moments
          (λ t made. claim_few calls c (s.few late.blocking) t made) late none in (
            keeps.0,
            λ m2 p2 end steps. room_leads lawful w c blocks sights calls s i r has none rests k m2 p2 end keeps.0 steps
                (went_as same hash (in_slot setting (slot i)) i w c (seen_by blocks (sights (slot i))) m2 _ (RoomOutcome V same hash asks setting slot c i r p2 end)
                (λ w2 c2 blocks2 map moved blocks_same told. LateRoom late.blocking told.1) (keeps.1 m2 p2 end steps)),
          )

      by : IsAtPoint V same hash asks setting slot w c (seen_by blocks (sights (slot i))) i (ForRoom r) → Comes
      by (inl (rests, k)) = by_facts rests k k.facts
      by (inr (row, is_row, k)) = absurd (none is_row)
