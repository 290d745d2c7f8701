-- A step of one caller which makes a move at most: all others stand together after it, and so the caller does, if it knows what it is to know.
use Rattle.std.specs.Prelude.{ltb, ◌≤◌, ◌≡◌, ◌≢◌, ℕ, Bool, true, false, cond, Option}
use Rattle.std.proofs.Common.{◌∙◌, refl, arith, ap, sym, subst, inl, inr, ◌<◌}
use Rattle.std.proofs.lemmas.Bool.{cases_lt}
use Rattle.seize_model.specs.Given.SeizeWordsMem.{Mem, value_at}
use Rattle.seize_model.specs.Given.SeizeLaw.{owner_of}
use Rattle.seize_model.specs.Given.SeizeWorld.{World, Row, Rests, IsInside, with_at}
use Rattle.seize_model.proofs.Alone.Histories.Reached.{Reached}
use Rattle.map_facts_late.specs.Given.TablesNodes.{deferred_word}
use Rattle.map_facts_late.specs.Given.RuleInWorld.{IsMapIn, KnownSince, StepSpec, IsOut}
use Rattle.many_calls.specs.Kept.{IsWithin, IsKeptBy, AllKeptBy, AllOwned}
use Rattle.many_calls.specs.Together.{UnderWay, in_slot, StayFew, Ground, Together}
use Rattle.many_calls.proofs.Rows.Keep.{used_kept}
use Rattle.many_calls.proofs.Rows.Known.{known_since}
use Rattle.many_calls.proofs.Rows.Owned.{IsOwnedIn, events_owned}
use Rattle.many_calls.proofs.Rows.Users.{users_within}
use Rattle.many_calls.proofs.Sights.Seen.{map_seen}
use Rattle.many_calls.proofs.Together.Came.{came_reached, came_on}
use Rattle.many_calls.proofs.Together.Users.{events_rows, inside_on, inside_back, kept_on}
use Rattle.map_facts_late.specs.Given.TablesChunks.{is_incremental}
use Rattle.map_facts_late.specs.Given.TablesDeclared.node.Node.{Node}
use Rattle.map_facts_late.specs.Given.TablesDeclared.setting.Setting.{Setting}
use Rattle.map_facts_late.specs.Given.RuleChart.{Chart}
use Rattle.map_facts_late.specs.Given.RuleWords.{Blocks}
use Rattle.map_facts_late.specs.Given.RuleMoments.{Moments, Remembers}
use Rattle.map_facts_late.specs.Given.PointsFactsIdle.{IsIdle}
use Rattle.map_facts_late.specs.Given.PointsSteps.{AreLawful}
use Rattle.map_facts_late.specs.Given.RuleLasts.{Lasts}
use Rattle.map_facts_late.proofs.Given.RuleWorld.CounterSpared.{spares_counter}
use Rattle.map_facts_late.proofs.Lasts.Copiers.{ClaimsStayFew}
use Rattle.map_facts_late.specs.Given.RuleMaps.{spot_of}
use Rattle.many_calls.specs.Sights.{Visible, seen_by, IsGrown, IsVisibility}
use Rattle.map_facts_late.specs.Given.PointsOthers.{OthersStep}
use Rattle.map_facts_late.proofs.Known.Steps.{moments_on, remembers_went, lasts_went, others_step}
use Rattle.map_facts_late.proofs.Given.RuleHistory.LeavingOn.{leaves_same}
use Rattle.map_facts_late.proofs.Given.RuleWorld.OthersSpared.{keeps_same}
use Rattle.many_calls.proofs.Sights.Sources.{below, above}
use Rattle.many_calls.proofs.Sights.Wider.{wider, is_wider, table_agrees, pair_agrees, stands_wider, sources_wider, closed_then}
use Rattle.many_calls.proofs.Together.Few.{claim_few}
use Rattle.many_calls.proofs.Together.Linked.{behind_went, puts_went}
use Rattle.many_calls.proofs.Together.FactsOn.{idle_on}
use Rattle.many_calls.proofs.Together.Fits.{unless_on, map_in_slot, map_of_slot, Fits, stands_by, stands_of, stands_on}

module _ {K V Q : Type 0} (same : K → K → Bool) (hash : K → ℕ) (asks : Q → K → Bool) (setting : Setting) (slot : ℕ → ℕ) where
  abbrev Stand : World (Node K V) → Chart K → Blocks → (ℕ → Visible) → (ℕ → Option (UnderWay K V Q)) → Type 0
  Stand = Together V same hash asks setting slot

  module _ (lawful : AreLawful same hash) (w : World (Node K V)) (c : Chart K) (blocks : Blocks) (sights : ℕ → Visible) (calls : ℕ → Option (UnderWay K V Q))
      (s : Stand w c blocks sights calls) (i : ℕ) (inside : IsInside (w.uses (slot i))) (m2 : Mem (Node K V)) (Tells : World (Node K V) → Chart K → Blocks → Type 0) where
    abbrev pub here : Setting
    here = in_slot setting (slot i)

    reached : Reached deferred_word setting.batch_size w
    reached = came_reached setting.batch_size w s.ground.came

    -- the map, as all may look at it, and as a caller does that is inside
    pub whole : (a : ℕ) → IsMapIn same hash (in_slot setting a) w c blocks
    whole a = map_in_slot same hash setting w c blocks a s.ground.map

    pub part : (a j : ℕ) → IsInside (w.uses (slot j)) → IsMapIn same hash (in_slot setting a) w c (seen_by blocks (sights (slot j)))
    part a j inside = map_seen same hash (in_slot setting a) w c blocks (sights (slot j)) (whole a) (s.ground.sight (slot j) inside).0

    pub mine_closed : IsVisibility c blocks (sights (slot i))
    mine_closed = (s.ground.sight (slot i) inside).0

    module _ (rests : w.row i ≡ Rests) (went : StepSpec same hash (in_slot setting (slot i)) i w c (seen_by blocks (sights (slot i))) m2 Tells) (it : Option (UnderWay K V Q))
        (few : is_incremental setting.mode ≡ false → StayFew (with_at calls i it) went.c2) where
      pub moments2 : Moments (is_incremental setting.mode) went.c2
      moments2 = moments_on same hash here lawful i w c (seen_by blocks (sights (slot i))) (part (slot i) i inside) s.ground.moments m2 Tells went

      pub remembers : Remembers (is_incremental setting.mode) c went.c2
      remembers = remembers_went same hash here lawful i w c (seen_by blocks (sights (slot i))) (part (slot i) i inside) s.ground.moments m2 Tells went

      pub lasts : Lasts same (spot_of hash) (is_incremental setting.mode) c went.c2
      lasts = lasts_went same hash here lawful i w c (seen_by blocks (sights (slot i))) (part (slot i) i inside) s.ground.moments m2 Tells went

      -- no claim comes near to the end of a word by it
      claims_few : is_incremental setting.mode ≡ false → ClaimsStayFew c went.c2
      claims_few blocking t made was =
          claim_few (with_at calls i it) went.c2 (few blocking) t
          (let more = lasts.past in omega (arith, made, more))

      -- what may be looked at then, and by whom
      abbrev pub blocks_then : Blocks
      blocks_then = wider same hash here i w c blocks (sights (slot i)) (whole (slot i)) mine_closed m2 Tells went lasts

      abbrev pub sights_then : ℕ → Visible
      sights_then r = record {
        tables = λ t. cond (ltb t c.past) ((sights r).tables t) (went.blocks2.table_known t);
        pairs = λ n. cond (ltb n c.stored) ((sights r).pairs n) (went.blocks2.pair_known n);
      }

      pub grown_then : IsGrown c blocks went.blocks2 blocks_then
      grown_then = is_wider same hash here i w c blocks (sights (slot i)) (whole (slot i)) mine_closed m2 Tells went lasts

      old_table : (t : ℕ) → t < c.past → blocks_then.table t ≡ blocks.table t
      old_table t l = below t c.past (blocks.table t) (went.blocks2.table t) l

      new_table : (t : ℕ) → c.past ≤ t → blocks_then.table t ≡ went.blocks2.table t
      new_table t l = above t c.past (blocks.table t) (went.blocks2.table t) l

      pub inside_before : (r : ℕ) → IsInside (went.w2.uses r) → IsInside (w.uses r)
      inside_before r h = inside_back setting.batch_size slot i went.events w went.w2 reached inside went.users went.runs r h

      pub inside_then : (r : ℕ) → IsInside (w.uses r) → IsInside (went.w2.uses r)
      inside_then r in_it = inside_on setting.batch_size slot i went.events w went.w2 reached inside went.users went.runs r in_it

      pub row_same : (j : ℕ) → went.w2.row j ≡ w.row j
      row_same j = ap (λ (f : ℕ → Row). f j) (events_rows setting.batch_size went.events w went.w2 went.users went.runs)

      closed2 : (r : ℕ) → IsInside (w.uses r) → IsVisibility went.c2 blocks_then (sights_then r)
      closed2 r inside = closed_then same hash here i w c blocks (sights (slot i)) (whole (slot i)) mine_closed m2 Tells went lasts s.ground.moments remembers (sights r) (s.ground.sight r inside).0

      map2 : IsMapIn same hash setting went.w2 went.c2 blocks_then
      map2 = map_of_slot same hash setting went.w2 went.c2 blocks_then (slot i) (stands_wider same hash here i w c blocks (sights (slot i)) (whole (slot i)) mine_closed m2 Tells went lasts)

      whole2 : (a : ℕ) → IsMapIn same hash (in_slot setting a) went.w2 went.c2 blocks_then
      whole2 a = map_in_slot same hash setting went.w2 went.c2 blocks_then a map2

      pub part2 : (a j : ℕ) → IsInside (w.uses (slot j)) → IsMapIn same hash (in_slot setting a) went.w2 went.c2 (seen_by blocks_then (sights_then (slot j)))
      part2 a j inside = map_seen same hash (in_slot setting a) went.w2 went.c2 blocks_then (sights_then (slot j)) (whole2 a) (closed2 (slot j) inside)

      since_known : (sight : Visible) → KnownSince c (seen_by blocks sight) went.c2 (seen_by blocks_then (record {
        tables = λ t. cond (ltb t c.past) (sight.tables t) (went.blocks2.table_known t);
        pairs = λ n. cond (ltb n c.stored) (sight.pairs n) (went.blocks2.pair_known n);
      }))
      since_known sight = known_since same hash setting.mode c went.c2 s.ground.map.map.rule {caller = i} went.moved _ _ (record {
        tables = λ t l known. (below t c.past (blocks.table t) (went.blocks2.table t) l, below t c.past (sight.tables t) (went.blocks2.table_known t) l ∙ known);
        pairs = λ n l known. (below n c.stored (blocks.pair n) (went.blocks2.pair n) l, below n c.stored (sight.pairs n) (went.blocks2.pair_known n) l ∙ known);
        tables_back = λ t l known. sym (below t c.past (sight.tables t) (went.blocks2.table_known t) l) ∙ known;
        pairs_back = λ n l known. sym (below n c.stored (sight.pairs n) (went.blocks2.pair_known n) l) ∙ known;
      })

      within2 : (r : ℕ) → IsInside (w.uses r) → IsWithin went.w2 r went.c2 (seen_by blocks_then (sights_then r)) setting
      within2 r in_it =
          let h = (s.ground.sight r in_it).1 in
          let sees = map_seen same hash (in_slot setting r) went.w2 went.c2 blocks_then (sights_then r) (whole2 r) (closed2 r in_it) in
          let is = users_within same hash (in_slot setting r) w c (seen_by blocks (sights r)) reached (record { inside = h.inside; tables = h.tables; pairs = h.pairs; counter = h.counter })
          went.events went.w2 went.users went.runs (spares_counter same hash here w c (seen_by blocks (sights (slot i))) (part (slot i) i inside) i m2 Tells went) went.c2 (seen_by blocks_then (sights_then r)) sees (since_known (sights r)) in
          record { inside = is.inside; tables = is.tables; pairs = is.pairs; counter = is.counter }

      kept2 : AllKeptBy went.w2 went.c2 blocks_then
      kept2 =
          let since = since_known (record { tables = blocks.table_known; pairs = blocks.pair_known }) in
          record {
            tables = λ t made known. elim (since.tables t made known) as (λ _. IsKeptBy went.w2 (blocks_then.table t)) [
              | inl old ↦ subst (IsKeptBy went.w2) (sym old.2)
                  (kept_on setting.batch_size slot i went.events w went.w2 reached inside went.users went.runs (blocks.table t) _
                  (ap (value_at went.w2.memory) (sym old.2) ∙ (map2.map.shows.tables t made known).value) (s.ground.kept.tables t old.0 old.1))
              | inr linked ↦ inl (used_kept went.w2 (blocks_then.table t) (map2.tables t linked made))
            ];
            pairs = λ n was known. elim (since.pairs n was known) as (λ _. IsKeptBy went.w2 (blocks_then.pair n)) [
              | inl old ↦ subst (IsKeptBy went.w2) (sym old.2)
                  (kept_on setting.batch_size slot i went.events w went.w2 reached inside went.users went.runs (blocks.pair n) _
                  (ap (value_at went.w2.memory) (sym old.2) ∙ (map2.map.shows.pairs n was known).2) (s.ground.kept.pairs n old.0 old.1))
              | inr current ↦ inl (used_kept went.w2 (blocks_then.pair n) (map2.pairs n current))
            ];
          }

      -- what it has linked is the map's, and what could be looked at is so still
      its_owned : (b : ℕ) → IsOwnedIn here i w c (seen_by blocks (sights (slot i))) b w → IsOut (went.w2.hand b) → owner_of b went.w2.log ≡ setting.counter
      its_owned b before = events_owned here i w c (seen_by blocks (sights (slot i))) b setting.batch_size went.events w went.w2 went.its went.runs before

      owned2 : AllOwned went.w2 went.c2 blocks_then setting.counter
      owned2 = record {
        tables = λ t made known. its_owned (blocks_then.table t) (owned_table t made known) (map2.tables_out t made known);
        pairs = λ n was known. its_owned (blocks_then.pair n) (owned_pair n was known) (map2.pairs_out n was known);
      }
        where
          owned_table : (t : ℕ) → t < went.c2.past → blocks_then.table_known t ≡ true → IsOwnedIn here i w c (seen_by blocks (sights (slot i))) (blocks_then.table t) w
          owned_table t made known = elim (cases_lt t c.past) [
            | inl l ↦ λ out. ap (λ (b : ℕ). owner_of b w.log) (below t c.past (blocks.table t) (went.blocks2.table t) l)
                ∙ s.ground.owned.tables t l (sym (below t c.past (blocks.table_known t) (went.blocks2.table_known t) l) ∙ known)
            | inr l ↦ λ out. absurd (subst IsOut (ap w.hand (above t c.past (blocks.table t) (went.blocks2.table t) l) ∙ went.links.tables t l made) out)
          ]

          owned_pair : (n : ℕ) → n < went.c2.stored → blocks_then.pair_known n ≡ true → IsOwnedIn here i w c (seen_by blocks (sights (slot i))) (blocks_then.pair n) w
          owned_pair n was known = elim (cases_lt n c.stored) [
            | inl l ↦ λ out. ap (λ (b : ℕ). owner_of b w.log) (below n c.stored (blocks.pair n) (went.blocks2.pair n) l)
                ∙ s.ground.owned.pairs n l (sym (below n c.stored (blocks.pair_known n) (went.blocks2.pair_known n) l) ∙ known)
            | inr l ↦ λ out. absurd (subst IsOut (ap w.hand (above n c.stored (blocks.pair n) (went.blocks2.pair n) l) ∙ went.links.pairs n l was) out)
          ]

      ground2 : Ground V same hash asks setting slot went.w2 went.c2 blocks_then sights_then
      ground2 = record {
        came = came_on setting.batch_size w went.w2 went.events s.ground.came went.runs;
        map = map2;
        moments = moments2;
        kept = kept2;
        owned = owned2;
        behind = behind_went same hash here i w c (seen_by blocks (sights (slot i))) m2 Tells went s.ground.came lasts.first lasts.past blocks blocks_then old_table new_table setting.counter s.ground.behind;
        sources = sources_wider same hash here i w c blocks (sights (slot i)) (whole (slot i)) mine_closed m2 Tells went lasts s.ground.moments remembers s.ground.sources;
        counter = (within2 (slot i) inside).counter;
        sight = λ r in_it. (closed2 r (inside_before r in_it), within2 r (inside_before r in_it));
      }

      -- what it looks at has the blocks that it has for all
      pub its_own : OthersStep same hash (in_slot setting (slot i)) i went.w2 went.c2 went.blocks2 went.w2 went.c2 (seen_by blocks_then (sights_then (slot i)))
      its_own = record {
        leaves = leaves_same same (spot_of hash) (is_incremental setting.mode) i went.c2;
        tables = λ t made known. ((table_agrees same hash here i w c blocks (sights (slot i)) (whole (slot i)) mine_closed m2 Tells went lasts t known).0, own_table t known);
        pairs = λ n was known. ((pair_agrees same hash here i w c blocks (sights (slot i)) (whole (slot i)) mine_closed m2 Tells went lasts n known).0, own_pair n known);
        values = λ n was known. refl;
        own = keeps_same i went.w2.memory went.w2.hand;
      }
        where
          own_table : (t : ℕ) → went.blocks2.table_known t ≡ true → (sights_then (slot i)).tables t ≡ true
          own_table t known = elim (cases_lt t c.past) [
            | inl l ↦ below t c.past ((sights (slot i)).tables t) (went.blocks2.table_known t) l ∙ went.blocks_same.tables_back t l known
            | inr l ↦ above t c.past ((sights (slot i)).tables t) (went.blocks2.table_known t) l ∙ known
          ]

          own_pair : (n : ℕ) → went.blocks2.pair_known n ≡ true → (sights_then (slot i)).pairs n ≡ true
          own_pair n known = elim (cases_lt n c.stored) [
            | inl l ↦ below n c.stored ((sights (slot i)).pairs n) (went.blocks2.pair_known n) l ∙ went.blocks_same.pairs_back n l known
            | inr l ↦ above n c.stored ((sights (slot i)).pairs n) (went.blocks2.pair_known n) l ∙ known
          ]

      -- its own step changes nothing more
      pub same_few : is_incremental setting.mode ≡ false → ClaimsStayFew went.c2 went.c2
      same_few blocking t made l = l

      -- all others
      -- the value of a pair stays
      value_kept : (n : ℕ) → n < c.stored → blocks.pair_known n ≡ true → value_at went.w2.memory (blocks.pair n) ≡ value_at w.memory (blocks.pair n)
      value_kept n was known =
          let is = (s.ground.map.map.shows.pairs n was known).2 in
          ap (λ (m : Mem (Node K V)). value_at m (blocks.pair n)) went.memory
          ∙ went.frame.values (blocks.pair n) _ is (λ making. subst IsOut making.0 (s.ground.map.pairs_out n was known)) ∙ sym is

      step : (j : ℕ) → j ≢ i → IsInside (w.uses (slot j)) → OthersStep same hash (in_slot setting (slot j)) j w c (seen_by blocks (sights (slot j))) went.w2 went.c2 (seen_by blocks_then (sights_then (slot j)))
      step j other in_it =
          let o = others_step same hash here lawful i w c (seen_by blocks (sights (slot i))) (part (slot i) i inside) s.ground.moments m2 Tells went j other in
          record {
            leaves = o.leaves;
            tables = λ t made known. (below t c.past (blocks.table t) (went.blocks2.table t) made, below t c.past ((sights (slot j)).tables t) (went.blocks2.table_known t) made ∙ known);
            pairs = λ n was known. (below n c.stored (blocks.pair n) (went.blocks2.pair n) was, below n c.stored ((sights (slot j)).pairs n) (went.blocks2.pair_known n) was ∙ known);
            values = λ n was known. value_kept n was ((s.ground.sight (slot j) in_it).0.pairs n was known);
            own = o.own;
          }

      -- for those that have no call it is enough what all may look at
      step_whole : (j : ℕ) → j ≢ i → OthersStep same hash (in_slot setting (slot j)) j w c blocks went.w2 went.c2 blocks_then
      step_whole j other =
          let o = others_step same hash here lawful i w c (seen_by blocks (sights (slot i))) (part (slot i) i inside) s.ground.moments m2 Tells went j other in
          record {
            leaves = o.leaves;
            tables = λ t made known. (below t c.past (blocks.table t) (went.blocks2.table t) made, below t c.past (blocks.table_known t) (went.blocks2.table_known t) made ∙ known);
            pairs = λ n was known. (below n c.stored (blocks.pair n) (went.blocks2.pair n) was, below n c.stored (blocks.pair_known n) (went.blocks2.pair_known n) was ∙ known);
            values = value_kept;
            own = o.own;
          }

      idle_then : (j : ℕ) → j ≢ i → IsIdle same hash w j (in_slot setting (slot j)) c blocks → IsIdle same hash went.w2 j (in_slot setting (slot j)) went.c2 blocks_then
      idle_then j other =
          idle_on same hash asks (in_slot setting (slot j)) j lawful w went.w2 c went.c2 blocks blocks_then (whole (slot j)) (whole2 (slot j)) s.ground.moments (step_whole j other) claims_few

      others : (j : ℕ) → j ≢ i → Fits same hash asks setting slot went.w2 went.c2 blocks_then (sights_then (slot j)) j (calls j)
      others j other = record {
        inside = λ v e. unless_on v (inside_then (slot j)) (s.inside j v e);
        stand = λ v e. stands_of same hash asks setting slot (w.uses (slot j)) j w went.w2 c went.c2 blocks blocks_then (sights (slot j)) (sights_then (slot j)) (row_same j) (idle_then j other) v (s.inside j v e)
            (λ in_it. stands_on same hash asks setting slot lawful j w went.w2 c went.c2 (seen_by blocks (sights (slot j))) (seen_by blocks_then (sights_then (slot j))) (part (slot j) j in_it)
            (part2 (slot j) j in_it) s.ground.moments (step j other in_it) claims_few i went.moved (row_same j) v) (s.stand j v e);
        idle = λ e. idle_then j other (s.idle j e);
      }

      -- and so all stand together, if the caller does
      pub moves_together : Fits same hash asks setting slot went.w2 went.c2 blocks_then (sights_then (slot i)) i it → Stand went.w2 went.c2 blocks_then sights_then (with_at calls i it)
      moves_together mine = stands_by same hash asks setting slot went.w2 went.c2 blocks_then sights_then calls i it ground2 mine others few
          (puts_went same hash here i w c (seen_by blocks (sights (slot i))) m2 Tells went s.ground.came lasts.first lasts.past blocks blocks_then old_table new_table calls s.onto)
          (λ none. row_same i ∙ rests)
