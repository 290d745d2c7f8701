-- A caller that has no call takes a step of a row: a section that begins sees what can be reached, and all stand together.
use Rattle.std.specs.Prelude.{◌≡◌, ◌≢◌, ℕ, ◌<◌, ◌≤◌, ltb, Bool, true, false, cond, Option, Some, None}
use Rattle.std.proofs.Common.{refl, ap, sym, subst, ◌∙◌, inl, inr, arith}
use Rattle.std.proofs.lemmas.Bool.Decides.{nat_tests}
use Rattle.seize_model.specs.Given.SeizeLaw.{is_somewhere, reachable, holds}
use Rattle.seize_model.specs.Given.SeizeWorld.{World, Step, Steps', InUse, IsInside}
use Rattle.seize_model.proofs.Given.SeizeMovesState.Logs.{reached_held}
use Rattle.seize_model.proofs.Alone.Histories.Reached.{Reached}
use Rattle.seize_model.proofs.Alone.Histories.Uses.{inside_open}
use Rattle.map_facts_late.specs.Given.TablesChunks.{is_incremental}
use Rattle.map_facts_late.specs.Given.TablesNodes.{deferred_word}
use Rattle.map_facts_late.specs.Given.TablesDeclared.node.Node.{Node}
use Rattle.map_facts_late.specs.Given.TablesDeclared.setting.Setting.{Setting}
use Rattle.map_facts_late.specs.Given.RuleChart.{Phase, Holds, Chart}
use Rattle.map_facts_late.specs.Given.RuleWords.{Blocks}
use Rattle.map_facts_late.specs.Given.RuleInWorld.{IsReached, IsMapIn}
use Rattle.map_facts_late.specs.Given.RuleMaps.{spot_of}
use Rattle.map_facts_late.specs.Given.RuleMoments.{Moments}
use Rattle.map_facts_late.specs.Given.PointsSteps.{AreLawful}
use Rattle.many_calls.proofs.Sights.Parts.{part_same}
use Rattle.many_calls.specs.Kept.{IsWithin}
use Rattle.many_calls.specs.Sights.{Visible, seen_by, IsVisibility}
use Rattle.many_calls.specs.Together.{UnderWay, CameAbout, IsAtPoint, Together, AllStand}
use Rattle.many_calls.proofs.Rows.Defers.{used_stands, standing_stands}
use Rattle.many_calls.proofs.Sights.Sources.{aborted_from}
use Rattle.many_calls.proofs.Together.Came.{came_reached, came_next}
use Rattle.many_calls.proofs.Together.Inside.{is_inside, inside_is, is_inside_so}
use Rattle.many_calls.proofs.Together.Fits.{stands_of}
use Rattle.many_calls.proofs.Together.Rows.{owned2, behind2, puts2, kept_on, map2, counter2, within2, others_row}

-- one of two sights
abbrev pub choose : Bool → Visible → Visible → Visible
choose z a b = record { tables = λ t. cond z (a.tables t) (b.tables t); pairs = λ n. cond z (a.pairs n) (b.pairs n) }

-- what can be reached of a map can be reached from its root
module _ {K V : Type 0} (same : K → K → Bool) (hash : K → ℕ) (setting : Setting) (w : World (Node K V)) (c : Chart K) (blocks : Blocks) (r : Reached deferred_word setting.batch_size w) (map : IsMapIn same hash setting w c blocks) where
  pub used_reached : (b : ℕ) → w.hand b ≡ InUse setting.counter → reachable b w.log ≡ true
  used_reached b e = ap is_somewhere (used_stands deferred_word setting.batch_size w r b e)

  pub named_reached : (t p n : ℕ) (phase : Phase) (borrowed : Bool) → c.first ≤ t → t < c.past → c.place t p ≡ Holds n phase borrowed → reachable (blocks.pair n) w.log ≡ true
  named_reached t p n phase borrowed l made e = by (map.named t p n phase borrowed l made e)
    where
      by : IsReached same hash setting w c blocks t n → reachable (blocks.pair n) w.log ≡ true
      by (inl stands) = ap is_somewhere (standing_stands deferred_word setting.batch_size w r (blocks.pair n) stands)
      by (inr at) = ap is_somewhere at.4

  -- the sight of a section that begins
  abbrev pub fresh : Visible
  fresh = record { tables = λ t. cond (ltb t c.first) false true; pairs = λ n. cond (reachable (blocks.pair n) w.log) (blocks.pair_known n) false }

  fresh_linked : (t : ℕ) → fresh.tables t ≡ true → c.first ≤ t
  fresh_linked t h = grind (arith, nat_tests, h)

  linked_fresh : (t : ℕ) → c.first ≤ t → fresh.tables t ≡ true
  linked_fresh t l = grind (arith, nat_tests, l)

  pub reached_known : (b k : Bool) → cond b k false ≡ true → (b ≡ true) × (k ≡ true)
  reached_known true k h = (refl, h)
  reached_known false k h = absurd (cc h)

  pub known_reached : (b k : Bool) → b ≡ true → k ≡ true → cond b k false ≡ true
  known_reached b k e f = ap (λ (x : Bool). cond x k false) e ∙ f

  pub fresh_closed : Moments (is_incremental setting.mode) c → IsVisibility c blocks fresh
  fresh_closed moments = record {
    tables = λ t made h. map.map.shows.linked t (fresh_linked t h) made;
    pairs = λ n was h. (reached_known (reachable (blocks.pair n) w.log) (blocks.pair_known n) h).1;
    linked = λ t l made. linked_fresh t l;
    named = λ t p n phase borrowed made h e.
        let l = fresh_linked t h in
        known_reached (reachable (blocks.pair n) w.log) (blocks.pair_known n) (named_reached t p n phase borrowed l made e)
        (map.map.shows.named t p n phase borrowed made (map.map.shows.linked t l made) e);
    later = λ t u l made h. linked_fresh u (let f = fresh_linked t h in omega (arith, f, l));
    sources = λ t made h aborted.
        let e = aborted_from same (spot_of hash) (is_incremental setting.mode) c map.map.rule moments t (fresh_linked t h) made aborted in linked_fresh (c.from t) (omega (arith, e));
  }

  -- a section that is open holds what can be reached
  held : (s b : ℕ) → IsInside (w.uses s) → reachable b w.log ≡ true → holds s b w.log ≡ true
  held s b inside h = reached_held s b w.log h (inside_open deferred_word setting.batch_size w r s inside)

module _ {K V Q : Type 0} (same : K → K → Bool) (hash : K → ℕ) (asks : Q → K → Bool) (setting : Setting) (slot : ℕ → ℕ) (lawful : AreLawful same hash)
    (w : World (Node K V)) (c : Chart K) (blocks : Blocks) (sights : ℕ → Visible) (calls : ℕ → Option (UnderWay K V Q)) (s : Together V same hash asks setting slot w c blocks sights calls)
    (i : ℕ) (none : calls i ≡ None) (w2 : World (Node K V)) (step : Steps' deferred_word i (w.row i) w w2) where
  came : CameAbout setting.batch_size w2
  came = came_next setting.batch_size w w2 (Step i) s.ground.came step

  r2 : Reached deferred_word setting.batch_size w2
  r2 = came_reached setting.batch_size w2 came

  map : IsMapIn same hash setting w2 c blocks
  map = map2 same hash asks setting slot lawful w c blocks sights calls s i w2 step

  abbrev new : Visible
  new = fresh same hash setting w2 c blocks r2 map

  -- who was inside sees what it saw, and who is inside anew what can be reached
  abbrev sights2 : ℕ → Visible
  sights2 t = choose (is_inside (w.uses t)) (sights t) new

  abbrev Seen : ℕ → Visible → Type 0
  Seen t sight = IsVisibility c blocks sight × IsWithin w2 t c (seen_by blocks sight) setting

  new_seen : (t : ℕ) → IsInside (w2.uses t) → Seen t (fresh same hash setting w2 c blocks r2 map)
  new_seen t inside = (
    fresh_closed same hash setting w2 c blocks r2 map s.ground.moments,
    record {
      inside = inside;
      tables = λ u made h. held same hash setting w2 c blocks r2 map t (blocks.table u) inside (used_reached same hash setting w2 c blocks r2 map (blocks.table u) (map.tables u (fresh_linked same hash setting w2 c blocks r2 map u h) made));
      pairs = λ n was h. held same hash setting w2 c blocks r2 map t (blocks.pair n) inside (reached_known same hash setting w2 c blocks r2 map (reachable (blocks.pair n) w2.log) (blocks.pair_known n) h).0;
      counter = counter2 same hash asks setting slot lawful w c blocks sights calls s i w2 step;
    },
  )

  seen : (t : ℕ) → IsInside (w2.uses t) → (z : Bool) → is_inside (w.uses t) ≡ z → Seen t (choose z (sights t) (fresh same hash setting w2 c blocks r2 map))
  seen t inside true e = let before = is_inside_so (w.uses t) e in ((s.ground.sight t before).0, within2 same hash asks setting slot lawful w c blocks sights calls s i w2 step t before)
  seen t inside false e = new_seen t inside

  other : (j : ℕ) (u : UnderWay K V Q) → calls j ≡ Some u → j ≢ i
  other j u has e = let at : calls j ≡ None = ap calls e ∙ none in cc (at, has)

  stand : (j : ℕ) (u : UnderWay K V Q) → calls j ≡ Some u → IsAtPoint V same hash asks setting slot w2 c (seen_by blocks (sights2 (slot j))) j u
  stand j u has =
      let fits = others_row same hash asks setting slot lawful w c blocks sights calls s i w2 step j (other j u has) in
      stands_of same hash asks setting slot (w.uses (slot j)) j w2 w2 c c blocks blocks (sights (slot j)) (sights2 (slot j)) refl (λ idle. idle) u (s.inside j u has)
      (λ in_it. subst (λ (z : Bool). IsAtPoint V same hash asks setting slot w2 c (seen_by blocks (choose z (sights (slot j)) (fresh same hash setting w2 c blocks r2 map))) j u)
      (sym (inside_is (w.uses (slot j)) in_it))) (fits.stand u has)

  pub opened : AllStand V same hash asks setting slot w2 c blocks calls
  opened = (
    blocks,
    sights2,
    record {
      ground = record {
        came = came;
        map = map;
        moments = s.ground.moments;
        kept = record {
          tables = λ t made known. kept_on same hash asks setting slot lawful w c blocks sights calls s i w2 step (blocks.table t) (s.ground.kept.tables t made known);
          pairs = λ n was known. kept_on same hash asks setting slot lawful w c blocks sights calls s i w2 step (blocks.pair n) (s.ground.kept.pairs n was known);
        };
        owned = owned2 same hash asks setting slot lawful w c blocks sights calls s i w2 step;
        behind = behind2 same hash asks setting slot lawful w c blocks sights calls s i w2 step;
        sources = s.ground.sources;
        counter = counter2 same hash asks setting slot lawful w c blocks sights calls s i w2 step;
        sight = λ t inside. seen t inside (is_inside (w.uses t)) refl;
      };
      inside = λ j u has. (others_row same hash asks setting slot lawful w c blocks sights calls s i w2 step j (other j u has)).inside u has;
      stand = stand;
      idle = λ j e. s.idle j e;
      onto = puts2 same hash asks setting slot lawful w c blocks sights calls s i w2 step;
      few = s.few;
    },
    part_same c blocks,
  )
