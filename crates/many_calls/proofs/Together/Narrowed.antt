-- A row begins that works on slots alone: what no section sees any more, and can't be reached, is looked at no more, and all stand together.
use Rattle.std.specs.Prelude.{◌≡◌, ℕ, ◌+◌, ◌<◌, ◌≤◌, ltb, Bool, true, false, cond, Option, Some, ◌⊎◌}
use Rattle.std.proofs.Common.{refl, ap, ◌∙◌, inl, inr, arith}
use Rattle.std.proofs.lemmas.Bool.Decides.{nat_tests}
use Rattle.seize_model.specs.Given.SeizeDeclared.states.TheConstants.{LAST_SLOT}
use Rattle.seize_model.specs.Given.SeizeLaw.{reachable}
use Rattle.seize_model.specs.Given.SeizeWorld.{World, Row, Use, IsInside, IsOnto}
use Rattle.seize_model.proofs.Alone.Histories.Reached.{Reached}
use Rattle.map_facts_late.specs.Given.TablesChunks.{is_incremental}
use Rattle.map_facts_late.specs.Given.TablesNodes.{deferred_word}
use Rattle.map_facts_late.specs.Given.TablesDeclared.node.Node.{Node}
use Rattle.map_facts_late.specs.Given.TablesDeclared.setting.Setting.{Setting}
use Rattle.map_facts_late.specs.Given.RuleChart.{Chart}
use Rattle.map_facts_late.specs.Given.RuleWords.{Blocks}
use Rattle.map_facts_late.specs.Given.RuleMaps.{spot_of}
use Rattle.map_facts_late.specs.Given.RuleInWorld.{IsMapIn}
use Rattle.map_facts_late.specs.Given.PointsSteps.{AreLawful}
use Rattle.map_facts_late.proofs.Given.RuleHistory.LeavingOn.{leaves_same}
use Rattle.map_facts_late.proofs.Given.RuleWorld.OthersSpared.{keeps_same}
use Rattle.map_facts_late.specs.Given.PointsOthers.{OthersStep}
use Rattle.many_calls.specs.Kept.{IsKeptBy, IsWithin}
use Rattle.many_calls.specs.Sights.{SourcesAreVisible, Visible, seen_by, IsVisibility}
use Rattle.many_calls.specs.Together.{UnderWay, UnlessCounts, in_slot, CameAbout, IsAtPoint, Together, AllStand}
use Rattle.many_calls.proofs.Rows.Begins.{beside_in}
use Rattle.many_calls.proofs.Rows.Behind.{pair_on}
use Rattle.many_calls.proofs.Rows.Forgets.{forgotten_in}
use Rattle.many_calls.proofs.Rows.Forgotten.{Forgets}
use Rattle.many_calls.proofs.Rows.Keep.{used_kept}
use Rattle.many_calls.proofs.Sights.Seen.{map_seen}
use Rattle.many_calls.proofs.Sights.Sources.{aborted_from}
use Rattle.many_calls.proofs.Together.Any.{any_below, any_in, any_out, either as reach_seen}
use Rattle.many_calls.proofs.Together.Came.{came_reached}
use Rattle.many_calls.proofs.Together.Inside.{is_inside, inside_is, is_inside_so, inside_below}
use Rattle.many_calls.proofs.Together.Opened.{named_reached, known_reached}
use Rattle.many_calls.proofs.Together.Fits.{map_in_slot, stands_of, stands_on}

module _ {K V Q : Type 0} (same : K → K → Bool) (hash : K → ℕ) (asks : Q → K → Bool) (setting : Setting) (slot : ℕ → ℕ) (lawful : AreLawful same hash)
    (w : World (Node K V)) (c : Chart K) (blocks : Blocks) (sights : ℕ → Visible) (calls : ℕ → Option (UnderWay K V Q)) (s : Together V same hash asks setting slot w c blocks sights calls)
    (row2 : ℕ → Row) (uses2 : ℕ → Use) where
  -- a row has begun that has no block
  abbrev pub begun : World (Node K V)
  begun = record { memory = w.memory; row = row2; uses = uses2; hand = w.hand; log = w.log }

  -- what a section sees that somebody is inside
  abbrev sees_table : ℕ → ℕ → Bool
  sees_table t r = cond (is_inside (uses2 r)) ((sights r).tables t) false

  abbrev sees_pair : ℕ → ℕ → Bool
  sees_pair n r = cond (is_inside (uses2 r)) ((sights r).pairs n) false

  -- what may be looked at then
  abbrev tables2 : ℕ → Bool
  tables2 t = cond (ltb t c.first) (any_below (LAST_SLOT + 1) (sees_table t)) true

  abbrev pairs2 : ℕ → Bool
  pairs2 n = cond (any_below (LAST_SLOT + 1) (sees_pair n)) true (cond (reachable (blocks.pair n) w.log) (blocks.pair_known n) false)

  abbrev fewer : Blocks
  fewer = record blocks { table_known = tables2; pair_known = pairs2 }

  sees : (u : Use) (b : Bool) → cond (is_inside u) b false ≡ true → IsInside u × (b ≡ true)
  sees u b h = by (is_inside u) refl h
    where
      by : (z : Bool) → is_inside u ≡ z → cond z b false ≡ true → IsInside u × (b ≡ true)
      by true e h = (is_inside_so u e, h)
      by false e h = absurd (cc h)

  seen_so : (u : Use) (b : Bool) → IsInside u → b ≡ true → cond (is_inside u) b false ≡ true
  seen_so u b inside h = ap (λ (z : Bool). cond z b false) (inside_is u inside) ∙ h

  abbrev SeesTable : ℕ → Type 0
  SeesTable t = (r : ℕ) × IsInside (uses2 r) × ((sights r).tables t ≡ true)

  abbrev SeesPair : ℕ → Type 0
  SeesPair n = (r : ℕ) × IsInside (uses2 r) × ((sights r).pairs n ≡ true)

  some_sees : (t : ℕ) → any_below (LAST_SLOT + 1) (sees_table t) ≡ true → SeesTable t
  some_sees t h = let a = any_out (LAST_SLOT + 1) (sees_table t) h in let is = sees (uses2 a.0) ((sights a.0).tables t) a.2 in (a.0, is.0, is.1)

  some_sees_pair : (n : ℕ) → any_below (LAST_SLOT + 1) (sees_pair n) ≡ true → SeesPair n
  some_sees_pair n h = let a = any_out (LAST_SLOT + 1) (sees_pair n) h in let is = sees (uses2 a.0) ((sights a.0).pairs n) a.2 in (a.0, is.0, is.1)

  table_cases : (t : ℕ) → tables2 t ≡ true → (c.first ≤ t) ⊎ SeesTable t
  table_cases t h = by (ltb t c.first) refl h
    where
      by : (z : Bool) → ltb t c.first ≡ z → cond z (any_below (LAST_SLOT + 1) (sees_table t)) true ≡ true → (c.first ≤ t) ⊎ SeesTable t
      by true e h = inr (some_sees t h)
      by false e h = inl (grind (arith, nat_tests, e))

  pair_cases : (n : ℕ) → pairs2 n ≡ true → SeesPair n ⊎ ((reachable (blocks.pair n) w.log ≡ true) × (blocks.pair_known n ≡ true))
  pair_cases n h = by (any_below (LAST_SLOT + 1) (sees_pair n)) refl h
    where
      by : (z : Bool) → any_below (LAST_SLOT + 1) (sees_pair n) ≡ z → cond z true (cond (reachable (blocks.pair n) w.log) (blocks.pair_known n) false) ≡ true
          → SeesPair n ⊎ ((reachable (blocks.pair n) w.log ≡ true) × (blocks.pair_known n ≡ true))
      by true e h = inl (some_sees_pair n e)
      by false e h = inr (both (reachable (blocks.pair n) w.log) (blocks.pair_known n) h)
        where
          both : (b k : Bool) → cond b k false ≡ true → (b ≡ true) × (k ≡ true)
          both true k h = (refl, h)
          both false k h = absurd (cc h)

  linked_seen : (t : ℕ) → c.first ≤ t → tables2 t ≡ true
  linked_seen t l = let e : ltb t c.first ≡ false = grind (arith, nat_tests, l) in ap (λ (z : Bool). cond z (any_below (LAST_SLOT + 1) (sees_table t)) true) e

  either : (z b : Bool) → b ≡ true → cond z b true ≡ true
  either true b h = h
  either false b h = refl

  module _ (back : (r : ℕ) → IsInside (uses2 r) → IsInside (w.uses r)) where
    reached : Reached deferred_word setting.batch_size w
    reached = came_reached setting.batch_size w s.ground.came

    table_seen : (t r : ℕ) → IsInside (uses2 r) → (sights r).tables t ≡ true → tables2 t ≡ true
    table_seen t r inside h =
        either (ltb t c.first) (any_below (LAST_SLOT + 1) (sees_table t))
        (any_in (LAST_SLOT + 1) (sees_table t) r (inside_below deferred_word setting.batch_size w reached r (back r inside)) (seen_so (uses2 r) ((sights r).tables t) inside h))

    pair_seen : (n r : ℕ) → IsInside (uses2 r) → (sights r).pairs n ≡ true → pairs2 n ≡ true
    pair_seen n r inside h =
        ap (λ (z : Bool). cond z true (cond (reachable (blocks.pair n) w.log) (blocks.pair_known n) false))
        (any_in (LAST_SLOT + 1) (sees_pair n) r (inside_below deferred_word setting.batch_size w reached r (back r inside)) (seen_so (uses2 r) ((sights r).pairs n) inside h))

    closed : (r : ℕ) → IsInside (uses2 r) → IsVisibility c blocks (sights r)
    closed r inside = (s.ground.sight r (back r inside)).0

    forgets : Forgets c blocks tables2 pairs2
    forgets = record {
      tables = λ t made h. elim (table_cases t h) as (λ _. blocks.table_known t ≡ true) [
        | inl l ↦ s.ground.map.map.shows.linked t l made
        | inr a ↦ (closed a.0 a.1).tables t made a.2
      ];
      pairs = λ n was h. elim (pair_cases n h) as (λ _. blocks.pair_known n ≡ true) [
        | inl a ↦ (closed a.0 a.1).pairs n was a.2
        | inr a ↦ a.1
      ];
      linked = λ t l made. linked_seen t l;
      named = λ t p n phase borrowed made h e. elim (table_cases t h) as (λ _. pairs2 n ≡ true) [
        | inl l ↦ reach_seen (any_below (LAST_SLOT + 1) (sees_pair n)) (cond (reachable (blocks.pair n) w.log) (blocks.pair_known n) false)
            (known_reached same hash setting w c blocks reached s.ground.map (reachable (blocks.pair n) w.log) (blocks.pair_known n) (named_reached same hash setting w c blocks reached s.ground.map t p n phase borrowed l made e)
            (s.ground.map.map.shows.named t p n phase borrowed made (s.ground.map.map.shows.linked t l made) e))
        | inr a ↦ pair_seen n a.0 a.1 ((closed a.0 a.1).named t p n phase borrowed made a.2 e)
      ];
    }

    later2 : (t u : ℕ) → t < u → u < c.past → tables2 t ≡ true → tables2 u ≡ true
    later2 t u l made h = elim (table_cases t h) as (λ _. tables2 u ≡ true) [
      | inl first ↦ linked_seen u (omega (arith, first, l))
      | inr a ↦ table_seen u a.0 a.1 ((closed a.0 a.1).later t u l made a.2)
    ]

    sources2 : SourcesAreVisible c tables2
    sources2 t made h aborted = elim (table_cases t h) as (λ _. tables2 (c.from t) ≡ true) [
      | inl first ↦ (let e = aborted_from same (spot_of hash) (is_incremental setting.mode) c s.ground.map.map.rule s.ground.moments t first made aborted in linked_seen (c.from t) (omega (arith, e)))
      | inr a ↦ table_seen (c.from t) a.0 a.1 ((closed a.0 a.1).sources t made a.2 aborted)
    ]

    map2 : IsMapIn same hash setting begun c fewer
    map2 = beside_in same hash setting w c fewer (forgotten_in same hash setting w c blocks s.ground.map tables2 pairs2 forgets later2) row2 uses2

    kept_table : (t : ℕ) → t < c.past → tables2 t ≡ true → IsKeptBy begun (blocks.table t)
    kept_table t made h = elim (table_cases t h) as (λ _. IsKeptBy begun (blocks.table t)) [
      | inl l ↦ inl (used_kept begun (blocks.table t) (s.ground.map.tables t l made))
      | inr a ↦ inr (a.0, a.1, (s.ground.sight a.0 (back a.0 a.1)).1.tables t made a.2)
    ]

    kept_pair : (n : ℕ) → n < c.stored → pairs2 n ≡ true → IsKeptBy begun (blocks.pair n)
    kept_pair n was h = elim (pair_cases n h) as (λ _. IsKeptBy begun (blocks.pair n)) [
      | inl a ↦ inr (a.0, a.1, (s.ground.sight a.0 (back a.0 a.1)).1.pairs n was a.2)
      | inr a ↦ inl (inr a.0)
    ]

    closed2 : (r : ℕ) → IsInside (uses2 r) → IsVisibility c fewer (sights r)
    closed2 r inside =
        let h = closed r inside in
        record { tables = λ t made seen. table_seen t r inside seen; pairs = λ n was seen. pair_seen n r inside seen; linked = h.linked; named = h.named; later = h.later; sources = h.sources }

    within2 : (r : ℕ) → IsInside (uses2 r) → IsWithin begun r c (seen_by fewer (sights r)) setting
    within2 r inside = let h = (s.ground.sight r (back r inside)).1 in record { inside = inside; tables = h.tables; pairs = h.pairs; counter = h.counter }

    -- who has a call is inside still, if it needs to be, and has the row that it had, and no row came onto a block
    module _ (came : CameAbout setting.batch_size begun) (calls_in : (j : ℕ) (u : UnderWay K V Q) → calls j ≡ Some u → UnlessCounts u (IsInside (uses2 (slot j))))
        (rows_same : (j : ℕ) (u : UnderWay K V Q) → calls j ≡ Some u → row2 j ≡ w.row j) (onto : (j b : ℕ) → IsOnto b (row2 j) → IsOnto b (w.row j)) where
      step : (j : ℕ) (seen : Blocks) → OthersStep same hash (in_slot setting (slot j)) j w c seen begun c seen
      step j seen = record {
        leaves = leaves_same same (spot_of hash) (is_incremental setting.mode) j c;
        tables = λ t made known. (refl, known);
        pairs = λ n was known. (refl, known);
        values = λ n was known. refl;
        own = keeps_same j w.memory w.hand;
      }

      stand : (j : ℕ) (u : UnderWay K V Q) → calls j ≡ Some u → IsAtPoint V same hash asks setting slot begun c (seen_by fewer (sights (slot j))) j u
      stand j u has =
          stands_of same hash asks setting slot (uses2 (slot j)) j w begun c c blocks fewer (sights (slot j)) (sights (slot j)) (rows_same j u has) (λ idle. idle) u (calls_in j u has)
          (λ inside. stands_on same hash asks setting slot lawful j w begun c c (seen_by blocks (sights (slot j))) (seen_by blocks (sights (slot j)))
          (map_seen same hash (in_slot setting (slot j)) w c blocks (sights (slot j)) (map_in_slot same hash setting w c blocks (slot j) s.ground.map) (closed (slot j) inside))
          (map_seen same hash (in_slot setting (slot j)) begun c fewer (sights (slot j)) (map_in_slot same hash setting begun c fewer (slot j) map2) (closed2 (slot j) inside))
          s.ground.moments (step j (seen_by blocks (sights (slot j)))) (λ blocking t made l. l) j (inl refl) (rows_same j u has) u) (s.stand j u has)

      pub narrowed : AllStand V same hash asks setting slot begun c blocks calls
      narrowed = (
        fewer,
        sights,
        record {
          ground = record {
            came = came;
            map = map2;
            moments = s.ground.moments;
            kept = record { tables = kept_table; pairs = kept_pair };
            owned = record { tables = λ t made h. s.ground.owned.tables t made (forgets.tables t made h); pairs = λ n was h. s.ground.owned.pairs n was (forgets.pairs n was h) };
            behind = λ t x l made at. let k = s.ground.behind t x l made at in (pair_on setting.counter x w begun refl refl k.0, k.1);
            sources = sources2;
            counter = s.ground.counter;
            sight = λ r inside. (closed2 r inside, within2 r inside);
          };
          inside = calls_in;
          stand = stand;
          idle = λ j e. s.idle j e;
          onto = λ t j l made on. s.onto t j l made (onto j (blocks.table t) on);
          few = s.few;
        },
        record { tables = λ t. refl; pairs = λ n. refl; tables_known = forgets.tables; pairs_known = forgets.pairs },
      )
