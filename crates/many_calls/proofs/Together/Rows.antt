-- A step of a row of the collector leaves the map, and what is looked at of it, to all callers as they were.
use Rattle.std.specs.Prelude.{◌≡◌, ◌≢◌, ℕ, Bool, true, Option}
use Rattle.std.proofs.Common.{refl, ap, sym, subst, ◌∙◌, inl, inr, ◌<◌}
use Rattle.seize_model.specs.Given.SeizeLaw.{owner_of}
use Rattle.seize_model.specs.Given.SeizeWorld.{World, Step, Steps', IsInside}
use Rattle.seize_model.proofs.Given.SeizeRuleRows.Effects.{owner_kept}
use Rattle.seize_model.proofs.Alone.Histories.NotTaken.{IsKept, IsHeld, did, still_held, kept_value}
use Rattle.seize_model.proofs.Alone.Histories.Onto.{steps_onto}
use Rattle.seize_model.proofs.Alone.Histories.Reached.{Reached}
use Rattle.seize_model.proofs.Alone.Histories.Uses.{inside_kept}
use Rattle.map_facts_late.specs.Given.TablesChunks.{is_incremental}
use Rattle.map_facts_late.specs.Given.TablesNodes.{deferred_word}
use Rattle.map_facts_late.specs.Given.TablesDeclared.node.Node.{Node}
use Rattle.map_facts_late.specs.Given.TablesDeclared.setting.Setting.{Setting}
use Rattle.map_facts_late.specs.Given.RawDeclared.machines.call.KeyCall.{KeyCall}
use Rattle.map_facts_late.specs.Given.RuleChart.{Chart}
use Rattle.map_facts_late.specs.Given.RuleWords.{Blocks}
use Rattle.map_facts_late.specs.Given.RuleMaps.{spot_of}
use Rattle.map_facts_late.specs.Given.RuleInWorld.{IsMapIn}
use Rattle.map_facts_late.specs.Given.PointsFactsIdle.{IsIdle}
use Rattle.map_facts_late.specs.Given.PointsSteps.{AreLawful}
use Rattle.map_facts_late.proofs.Given.RuleHistory.LeavingOn.{leaves_same}
use Rattle.map_facts_late.specs.Given.PointsOthers.{OthersStep}
use Rattle.many_calls.specs.Kept.{IsMaking, IsKeptBy, IsWithin, AllOwned, DeferredIsOwned}
use Rattle.many_calls.specs.Sights.{Visible, seen_by}
use Rattle.many_calls.specs.Together.{CallOnKey, Ground, UnderWay, PutsWithin, in_slot, Knows, Together}
use Rattle.many_calls.proofs.Rows.Behind.{row_back, pair_on}
use Rattle.many_calls.proofs.Rows.Beside.{making_own, users_hand, row_keeps_blocks}
use Rattle.many_calls.proofs.Rows.Keep.{kept_block, row_keeps_map, row_keeps_block}
use Rattle.many_calls.proofs.Rows.Within.{row_within}
use Rattle.many_calls.proofs.Sights.Seen.{map_seen}
use Rattle.many_calls.proofs.Together.Came.{came_reached, came_next}
use Rattle.many_calls.proofs.Together.FactsOn.{idle_on}
use Rattle.many_calls.proofs.Together.Fits.{unless_on, map_in_slot, Fits, stands_of, knows_on, stands_on}

module _ {K V Q : Type 0} (same : K → K → Bool) (hash : K → ℕ) (asks : Q → K → Bool) (setting : Setting) (slot : ℕ → ℕ) (lawful : AreLawful same hash)
    (w : World (Node K V)) (c : Chart K) (blocks : Blocks) (sights : ℕ → Visible) (calls : ℕ → Option (UnderWay K V Q)) (s : Together V same hash asks setting slot w c blocks sights calls)
    (i : ℕ) (w2 : World (Node K V)) (step : Steps' deferred_word i (w.row i) w w2) where
  r : Reached deferred_word setting.batch_size w
  r = came_reached setting.batch_size w s.ground.came

  pub inside_on : (t : ℕ) → IsInside (w.uses t) → IsInside (w2.uses t)
  inside_on t h = inside_kept deferred_word setting.batch_size w r i w2 step t h

  -- what is kept no row takes, and it stays kept
  not_taken : (b : ℕ) → IsKeptBy w b → IsKept b w
  not_taken b (inl kept) = kept_block w b kept
  not_taken b (inr (t, in_it, h)) = IsHeld t h

  pub kept_on : (b : ℕ) → IsKeptBy w b → IsKeptBy w2 b
  kept_on b (inl kept) = inl (row_keeps_block setting w r i w2 step b kept)
  kept_on b (inr (t, in_it, h)) = inr (t, inside_on t in_it, still_held deferred_word setting.batch_size w r i w2 step t b in_it h)

  pub map2 : IsMapIn same hash setting w2 c blocks
  map2 =
      row_keeps_map same hash setting w c blocks r s.ground.map (λ t made known. not_taken (blocks.table t) (s.ground.kept.tables t made known)) (λ n was known. not_taken (blocks.pair n) (s.ground.kept.pairs n was known))
      (kept_block w setting.counter (inl (making_own (w.hand setting.counter) s.ground.counter))) i w2 step

  pub counter2 : IsMaking (w2.hand setting.counter)
  counter2 = subst IsMaking (sym (users_hand setting.batch_size w r i w2 step setting.counter (making_own (w.hand setting.counter) s.ground.counter))) s.ground.counter

  -- whose a block is it leaves
  owners : (b : ℕ) → owner_of b w2.log ≡ owner_of b w.log
  owners b = let d = did deferred_word setting.batch_size w r i w2 step in ap (owner_of b) d.logged ∙ owner_kept b d.effects w.log d.one

  pub owned2 : AllOwned w2 c blocks setting.counter
  owned2 = record { tables = λ t made known. owners (blocks.table t) ∙ s.ground.owned.tables t made known; pairs = λ n was known. owners (blocks.pair n) ∙ s.ground.owned.pairs n was known }

  -- and behind what it lies
  pub behind2 : DeferredIsOwned w2 c blocks setting.counter
  behind2 t x l made at =
      let lay = row_back deferred_word setting.batch_size x (blocks.table t) w w2 r i step at in
      let k = s.ground.behind t x l made lay.0 in
      (pair_on setting.counter x w w2 lay.1 lay.2 k.0, k.1)

  -- no row comes onto a linked table by it
  pub puts2 : PutsWithin calls w2 c blocks
  puts2 t j l made on = s.onto t j l made (steps_onto deferred_word setting.batch_size w r w2 i step j (blocks.table t) on)

  pub within2 : (t : ℕ) → IsInside (w.uses t) → IsWithin w2 t c (seen_by blocks (sights t)) setting
  within2 t in_it =
      let h = (s.ground.sight t in_it).1 in
      let is = row_within (in_slot setting t) w c (seen_by blocks (sights t)) r i w2 step (record { inside = h.inside; tables = h.tables; pairs = h.pairs; counter = h.counter }) in
      record { inside = is.inside; tables = is.tables; pairs = is.pairs; counter = is.counter }

  -- nobody is inside who was not
  pub ground_row : ((t : ℕ) → IsInside (w2.uses t) → IsInside (w.uses t)) → Ground V same hash asks setting slot w2 c blocks sights
  ground_row back = record {
    came = came_next setting.batch_size w w2 (Step i) s.ground.came step;
    map = map2;
    moments = s.ground.moments;
    kept = record { tables = λ t made known. kept_on (blocks.table t) (s.ground.kept.tables t made known); pairs = λ n was known. kept_on (blocks.pair n) (s.ground.kept.pairs n was known) };
    owned = owned2;
    behind = behind2;
    sources = s.ground.sources;
    counter = counter2;
    sight = λ t in_it. ((s.ground.sight t (back t in_it)).0, within2 t (back t in_it));
  }

  -- no caller loses what it has by it
  pub others_step : (j : ℕ) (sight : Visible) → ((n : ℕ) → n < c.stored → sight.pairs n ≡ true → blocks.pair_known n ≡ true)
      → OthersStep same hash (in_slot setting (slot j)) j w c (seen_by blocks sight) w2 c (seen_by blocks sight)
  others_step j sight sees = record {
    leaves = leaves_same same (spot_of hash) (is_incremental setting.mode) j c;
    tables = λ t made known. (refl, known);
    pairs = λ n was known. (refl, known);
    values = λ n was known. kept_value deferred_word setting.batch_size w r i w2 step (blocks.pair n) (not_taken (blocks.pair n) (s.ground.kept.pairs n was (sees n was known)));
    own = row_keeps_blocks setting.batch_size w r i w2 step j;
  }

  part : (j : ℕ) → IsInside (w.uses (slot j)) → IsMapIn same hash (in_slot setting (slot j)) w c (seen_by blocks (sights (slot j)))
  part j in_it = map_seen same hash (in_slot setting (slot j)) w c blocks (sights (slot j)) (map_in_slot same hash setting w c blocks (slot j) s.ground.map) (s.ground.sight (slot j) in_it).0

  pub part2 : (j : ℕ) → IsInside (w.uses (slot j)) → IsMapIn same hash (in_slot setting (slot j)) w2 c (seen_by blocks (sights (slot j)))
  part2 j in_it = map_seen same hash (in_slot setting (slot j)) w2 c blocks (sights (slot j)) (map_in_slot same hash setting w2 c blocks (slot j) map2) (s.ground.sight (slot j) in_it).0

  pub knows_row : IsInside (w.uses (slot i)) → (u : CallOnKey K V Q) (p : KeyCall K V Q) → Knows V same hash asks setting slot w c (seen_by blocks (sights (slot i))) i u p → Knows V same hash asks setting slot w2 c (seen_by blocks (sights (slot i))) i u p
  knows_row inside u p k =
      knows_on same hash asks setting slot lawful i w w2 c c (seen_by blocks (sights (slot i))) (seen_by blocks (sights (slot i))) (part i inside) (part2 i inside) s.ground.moments
      (others_step i (sights (slot i)) (s.ground.sight (slot i) inside).0.pairs) (λ blocking t made l. l) u p k

  row_same : (j : ℕ) → j ≢ i → w2.row j ≡ w.row j
  row_same j other = (did deferred_word setting.batch_size w r i w2 step).rows j other

  idle_row : (j : ℕ) → IsIdle same hash w j (in_slot setting (slot j)) c blocks → IsIdle same hash w2 j (in_slot setting (slot j)) c blocks
  idle_row j =
      idle_on same hash asks (in_slot setting (slot j)) j lawful w w2 c c blocks blocks (map_in_slot same hash setting w c blocks (slot j) s.ground.map) (map_in_slot same hash setting w2 c blocks (slot j) map2)
      s.ground.moments (others_step j (record { tables = blocks.table_known; pairs = blocks.pair_known }) (λ n was known. known)) (λ blocking t made l. l)

  pub others_row : (j : ℕ) → j ≢ i → Fits same hash asks setting slot w2 c blocks (sights (slot j)) j (calls j)
  others_row j other = record {
    inside = λ v e. unless_on v (inside_on (slot j)) (s.inside j v e);
    stand = λ v e. stands_of same hash asks setting slot (w.uses (slot j)) j w w2 c c blocks blocks (sights (slot j)) (sights (slot j)) (row_same j other) (idle_row j) v (s.inside j v e)
        (λ in_it. stands_on same hash asks setting slot lawful j w w2 c c (seen_by blocks (sights (slot j))) (seen_by blocks (sights (slot j))) (part j in_it) (part2 j in_it)
        s.ground.moments (others_step j (sights (slot j)) (s.ground.sight (slot j) in_it).0.pairs) (λ blocking t made l. l) i (inl refl) (row_same j other) v) (s.stand j v e);
    idle = λ e. idle_row j (s.idle j e);
  }
