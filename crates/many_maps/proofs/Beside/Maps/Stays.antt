-- A map stands on, with the calls on it, where somebody else has taken a step that leaves it as it is.
use Rattle.std.specs.Prelude.{◌≡◌, ◌<◌, ◌≤◌, ℕ, Bool, true, Option, Some}
use Rattle.std.proofs.Common.{refl, inl, inr, ◌∙◌}
use Rattle.many_calls.specs.Given.SeizeWordsMem.{value_at}
use Rattle.many_calls.specs.Given.SeizeLaw.{holds, owner_of}
use Rattle.many_calls.specs.Given.SeizeWorld.{World, IsInside, IsOnto}
use Rattle.many_calls.specs.Given.TablesChunks.{is_incremental}
use Rattle.many_calls.specs.Given.TablesDeclared.node.Node.{Node}
use Rattle.many_calls.specs.Given.TablesDeclared.setting.Setting.{Setting}
use Rattle.many_calls.specs.Given.RuleChart.{Chart}
use Rattle.many_calls.specs.Given.RuleWords.{Blocks}
use Rattle.many_calls.specs.Given.RuleMaps.{spot_of}
use Rattle.many_calls.specs.Given.RuleInWorld.{PreservesBlocks, IsKnownBlock, IsMapIn}
use Rattle.many_calls.proofs.Given.RuleHistory.LeavingOn.{leaves_same}
use Rattle.many_calls.specs.Given.PointsFactsIdle.{IsIdle}
use Rattle.many_calls.specs.Given.PointsOthers.{OthersStep}
use Rattle.many_calls.specs.Given.PointsSteps.{AreLawful}
use Rattle.many_calls.specs.Kept.{IsMaking, IsKeptBy, IsWithin}
use Rattle.many_calls.specs.Sights.{Visible, seen_by}
use Rattle.many_calls.specs.Together.{UnderWay, in_slot, CameAbout, Ground, IsAtPoint, Together}
use Rattle.many_calls.proofs.Rows.Behind.{LaySo, pair_on}
use Rattle.many_calls.proofs.Sights.Seen.{map_seen}
use Rattle.many_calls.proofs.Together.FactsOn.{idle_on}
use Rattle.many_calls.proofs.Together.Fits.{unless_on, map_in_slot, stands_of, stands_on}

module _ {K V Q : Type 0} (setting : Setting) (w : World (Node K V)) (c : Chart K) (blocks : Blocks) (calls : ℕ → Option (UnderWay K V Q)) (same : K → K → Bool) (hash : K → ℕ) (w2 : World (Node K V)) where
  -- Such a step: the map stands as it stood, what may be looked at of it is kept and held as it was, nothing came behind a linked table, and no row onto
  -- one, and who has a call on it has what it had, and its row.
  pub record Spared : Type 0 where
    pub came : CameAbout setting.batch_size w2
    pub map : IsMapIn same hash setting w2 c blocks
    pub kept : (b : ℕ) → IsKnownBlock c blocks b → IsKeptBy w b → IsKeptBy w2 b
    pub owner : (b : ℕ) → IsKnownBlock c blocks b → owner_of b w2.log ≡ owner_of b w.log
    pub held : (b : ℕ) → IsKnownBlock c blocks b → (r : ℕ) → IsInside (w.uses r) → holds r b w.log ≡ true → holds r b w2.log ≡ true
    pub behind : (t x : ℕ) → c.first ≤ t → t < c.past → LaySo x (blocks.table t) w w2
    pub onto : (t j : ℕ) → c.first ≤ t → t < c.past → IsOnto (blocks.table t) (w2.row j) → IsOnto (blocks.table t) (w.row j)
    pub value : (n : ℕ) → n < c.stored → blocks.pair_known n ≡ true → value_at w2.memory (blocks.pair n) ≡ value_at w.memory (blocks.pair n)
    pub counter : IsMaking (w2.hand setting.counter)
    pub inside : (r : ℕ) → IsInside (w.uses r) → IsInside (w2.uses r)
    pub inside_before : (r : ℕ) → IsInside (w2.uses r) → IsInside (w.uses r)
    pub rows : (j : ℕ) (u : UnderWay K V Q) → calls j ≡ Some u → w2.row j ≡ w.row j
    pub own : (j : ℕ) (u : UnderWay K V Q) → calls j ≡ Some u → PreservesBlocks j w.memory w.hand w2.memory w2.hand

module _ {K V Q : Type 0} (same : K → K → Bool) (hash : K → ℕ) (asks : Q → K → Bool) (setting : Setting) (slot : ℕ → ℕ) (lawful : AreLawful same hash)
    (w : World (Node K V)) (c : Chart K) (blocks : Blocks) (sights : ℕ → Visible) (calls : ℕ → Option (UnderWay K V Q)) (s : Together V same hash asks setting slot w c blocks sights calls)
    (w2 : World (Node K V)) (spared : Spared setting w c blocks calls same hash w2) where
  table_known : (t : ℕ) → t < c.past → blocks.table_known t ≡ true → IsKnownBlock c blocks (blocks.table t)
  table_known t made known = inl (t, made, known, refl)

  pair_known : (n : ℕ) → n < c.stored → blocks.pair_known n ≡ true → IsKnownBlock c blocks (blocks.pair n)
  pair_known n was known = inr (n, was, known, refl)

  within : (r : ℕ) → IsInside (w.uses r) → IsWithin w2 r c (seen_by blocks (sights r)) setting
  within r in_it =
      let h = s.ground.sight r in_it in
      record {
        inside = spared.inside r in_it;
        tables = λ t made seen. spared.held (blocks.table t) (table_known t made (h.0.tables t made seen)) r in_it (h.1.tables t made seen);
        pairs = λ n was seen. spared.held (blocks.pair n) (pair_known n was (h.0.pairs n was seen)) r in_it (h.1.pairs n was seen);
        counter = spared.counter;
      }

  ground : Ground V same hash asks setting slot w2 c blocks sights
  ground = record {
    came = spared.came;
    map = spared.map;
    moments = s.ground.moments;
    kept = record {
      tables = λ t made known. spared.kept (blocks.table t) (table_known t made known) (s.ground.kept.tables t made known);
      pairs = λ n was known. spared.kept (blocks.pair n) (pair_known n was known) (s.ground.kept.pairs n was known);
    };
    owned = record {
      tables = λ t made known. spared.owner (blocks.table t) (table_known t made known) ∙ s.ground.owned.tables t made known;
      pairs = λ n was known. spared.owner (blocks.pair n) (pair_known n was known) ∙ s.ground.owned.pairs n was known;
    };
    behind = λ t x l made at. let lay = spared.behind t x l made at in let k = s.ground.behind t x l made lay.0 in (pair_on setting.counter x w w2 lay.1 lay.2 k.0, k.1);
    sources = s.ground.sources;
    counter = spared.counter;
    sight = λ r in_it. ((s.ground.sight r (spared.inside_before r in_it)).0, within r (spared.inside_before r in_it));
  }

  step : (j : ℕ) (u : UnderWay K V Q) → calls j ≡ Some u → (sight : Visible) → ((n : ℕ) → n < c.stored → sight.pairs n ≡ true → blocks.pair_known n ≡ true)
      → OthersStep same hash (in_slot setting (slot j)) j w c (seen_by blocks sight) w2 c (seen_by blocks sight)
  step j u has sight sees = record {
    leaves = leaves_same same (spot_of hash) (is_incremental setting.mode) j c;
    tables = λ t made known. (refl, known);
    pairs = λ n was known. (refl, known);
    values = λ n was known. spared.value n was (sees n was known);
    own = spared.own j u has;
  }

  part : (v : World (Node K V)) (j : ℕ) → IsMapIn same hash setting v c blocks → IsInside (w.uses (slot j)) → IsMapIn same hash (in_slot setting (slot j)) v c (seen_by blocks (sights (slot j)))
  part v j m in_it = map_seen same hash (in_slot setting (slot j)) v c blocks (sights (slot j)) (map_in_slot same hash setting v c blocks (slot j) m) (s.ground.sight (slot j) in_it).0

  idle : (j : ℕ) (u : UnderWay K V Q) → calls j ≡ Some u → IsIdle same hash w j (in_slot setting (slot j)) c blocks → IsIdle same hash w2 j (in_slot setting (slot j)) c blocks
  idle j u has =
      idle_on same hash asks (in_slot setting (slot j)) j lawful w w2 c c blocks blocks (map_in_slot same hash setting w c blocks (slot j) s.ground.map)
      (map_in_slot same hash setting w2 c blocks (slot j) spared.map) s.ground.moments (step j u has (record { tables = blocks.table_known; pairs = blocks.pair_known }) (λ n was known. known))
      (λ blocking t made l. l)

  stand : (j : ℕ) (u : UnderWay K V Q) → calls j ≡ Some u → IsAtPoint V same hash asks setting slot w2 c (seen_by blocks (sights (slot j))) j u
  stand j u has =
      stands_of same hash asks setting slot (w.uses (slot j)) j w w2 c c blocks blocks (sights (slot j)) (sights (slot j)) (spared.rows j u has) (idle j u has) u (s.inside j u has)
      (λ in_it. stands_on same hash asks setting slot lawful j w w2 c c (seen_by blocks (sights (slot j))) (seen_by blocks (sights (slot j))) (part w j s.ground.map in_it) (part w2 j spared.map in_it)
      s.ground.moments (step j u has (sights (slot j)) (s.ground.sight (slot j) in_it).0.pairs) (λ blocking t made l. l) j (inl refl) (spared.rows j u has) u) (s.stand j u has)

  -- it stands on
  pub stays : Together V same hash asks setting slot w2 c blocks sights calls
  stays = record {
    ground = ground;
    inside = λ j u has. unless_on u (spared.inside (slot j)) (s.inside j u has);
    stand = stand;
    idle = λ j none. s.idle j none;
    onto = λ t j l made on. s.onto t j l made (spared.onto t j l made on);
    few = s.few;
  }
