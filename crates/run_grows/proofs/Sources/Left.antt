-- Where a table has a tombstone a pair lay, after a step of a call that is none of a row: where one had one before, and where the step removes a pair.
use Rattle.std.specs.Prelude.{◌≡◌, ◌≢◌, ◌⊎◌, ℕ, ◌+◌, ◌<◌, ◌≤◌, Bool, true, false, cond, List, [], ◌∷◌, length, Option, Some}
use Rattle.std.proofs.Common.{refl, ap, sym, subst, ◌∙◌, arith, inl, inr}
use Rattle.run_finds.specs.Given.SeizeWordsMem.{Mem}
use Rattle.run_finds.specs.Given.SeizeWorld.{World}
use Rattle.run_finds.specs.Given.TablesChunks.{is_incremental}
use Rattle.run_finds.specs.Given.TablesDeclared.node.Node.{Node}
use Rattle.run_finds.specs.Given.RunsDeclared.effect.Effect.{Effect}
use Rattle.run_finds.specs.Given.RunsDeclared.effect.Effect.TheVariants.{Copied as CopiedTo, Stored, Replaced, Removed, Linked, Promoted}
use Rattle.run_finds.specs.Given.RunsDeclared.effect.Spot.{Spot}
use Rattle.run_finds.specs.Given.RunsDeclared.effect.TableId.{TableId}
use Rattle.run_finds.specs.Given.SchedulesEffects.{is_chunked, spot_by, with_effects}
use Rattle.run_finds.specs.Given.SchedulesLists.{put}
use Rattle.run_finds.specs.Given.SchedulesMoment.{Moment}
use Rattle.run_finds.specs.Given.SchedulesViews.{is_in_map}
use Rattle.run_finds.specs.Given.EffectsDeclared.changed.Changed.{Changed}
use Rattle.run_finds.specs.Given.RuleChart.{Phase, Still, Copying, Copied, Place, Empty, Tombstone, Holds, Chart, put_in}
use Rattle.run_finds.specs.Given.RuleInWorld.{IsMapIn, Moved, StepSpec}
use Rattle.run_finds.specs.Given.RuleMaps.{spot_of}
use Rattle.run_finds.specs.Given.RuleMoves.{Move, Links, Stores, Replaces, Removes, Marks, MarksBlocking, Skips, Unmarks, Puts, Covers, PutsLate, Claims, Reclaims, Counts, GivesUp, Aborts, Promotes, Announces, Allowed, MayChange, after, marked, still_place, copied_place, lent_place}
use Rattle.run_finds.specs.Given.RuleRule.{Rule}
use Rattle.run_finds.specs.Given.RuleWords.{Blocks}
use Rattle.run_finds.proofs.Given.RuleMoves.Writes.{put_in_cases}
use Rattle.run_finds.specs.Given.PointsSteps.{AreLawful}
use Rattle.run_finds.specs.Given.CallersSights.{Visible, seen_by, IsGrown, IsVisibility}
use Rattle.run_finds.specs.Given.CallersTogether.{in_slot}
use Rattle.run_finds.specs.Given.EffectsEffects.{effects_of}
use Rattle.run_finds.specs.Given.EffectsKnown.{Known}
use Rattle.run_finds.specs.Given.EffectsDeclared.acting.Acting.TheVariants.{Call}
use Rattle.run_finds.specs.Given.FinishesMaps.{Standing}
use Rattle.run_finds.specs.Given.FollowsBlocks.{RefinesBlocks}
use Rattle.run_finds.specs.Given.FollowsMaps.{table_of, RefinesMap}
use Rattle.run_finds.proofs.Given.FollowsAlike.{put_elsewhere}
use Rattle.run_finds.proofs.Given.FollowsFinds.{chunks_are}
use Rattle.run_finds.proofs.Given.FollowsOperations.{LeavesBy}
use Rattle.run_finds.proofs.Given.FollowsStored.{still_current}
use Rattle.run_finds.specs.Given.SpotsSpots.{ThePair, named_by, spot_in, LiesAt}
use Rattle.run_finds.proofs.Given.SpotsDone.{DidBy, DidMoved}
use Rattle.run_finds.proofs.Given.SpotsEffects.{AllAside, AreAside, aside_all, calm_aside, spot_copied_other, spot_promoted_other}
use Rattle.run_finds.proofs.Given.SpotsPlaced.{lies_named}
use Rattle.run_finds.proofs.Given.SpotsStills.{still_spot}
use Rattle.run_grows.specs.Sources.Sources.{AreNumbered, WereLeft}

-- what was a tombstone, marked or not
abbrev pub IsTombstone : Place → Type 0
IsTombstone p = (mark : Bool) × (p ≡ Tombstone mark)

-- A tombstone stood there before, or a pair that was removed.
module _ {K : Type 0} (spot : ℕ → K → ℕ → ℕ) (q : Bool) (c : Chart K) (t i : ℕ) where
  pair_none : (n : ℕ) (phase : Phase) (b : Bool) → IsTombstone (Holds n phase b) → ⊥
  pair_none n phase b is = cc is.1

  of_marked : (p : Place) → IsTombstone (marked p) → IsTombstone p
  of_marked (Empty x) is = absurd (cc is.1)
  of_marked (Tombstone x) is = (x, refl)
  of_marked (Holds n Still b) is = absurd (pair_none n _ b is)
  of_marked (Holds n Copying b) is = absurd (pair_none n _ b is)
  of_marked (Holds n Copied b) is = absurd (pair_none n _ b is)

  of_still : (p : Place) → IsTombstone (still_place spot q p) → IsTombstone p
  of_still (Empty x) is = is
  of_still (Tombstone x) is = is
  of_still (Holds n phase b) is = absurd (pair_none n _ b is)

  of_copied : (p : Place) → IsTombstone (copied_place spot q p) → IsTombstone p
  of_copied (Empty x) is = is
  of_copied (Tombstone x) is = is
  of_copied (Holds n phase b) is = absurd (pair_none n _ b is)

  -- one place was written
  written : (t2 i2 : ℕ) (v : Place) → (IsTombstone v → IsTombstone (c.place t2 i2)) → IsTombstone (put_in c.place t2 i2 v t i) → IsTombstone (c.place t i)
  written t2 i2 v back is = elim (put_in_cases c.place t2 i2 v t i) as (λ _. IsTombstone (c.place t i)) [
    | inl (same_turn, same_index, now) ↦
        subst (λ (u : ℕ). IsTombstone (c.place u i)) (sym same_turn) (subst (λ (j : ℕ). IsTombstone (c.place t2 j)) (sym same_index) (back (subst IsTombstone now is)))
    | inr was ↦ subst IsTombstone was is
  ]

module _ {K V : Type 0} (same : K → K → Bool) (slot caller map : ℕ) (name : Option (List ℕ)) (number : ℕ → ℕ) (s : Standing K) (lawful : AreLawful same s.hash)
    (w : World (Node K V)) (sight : Visible) (is_sight : IsVisibility s.chart s.blocks sight) (is_map : IsMapIn same s.hash (in_slot s.setting slot) w s.chart (seen_by s.blocks sight))
    (m2 : Mem (Node K V)) (Told : World (Node K V) → Chart K → Blocks → Type 0)
    (went : StepSpec same s.hash (in_slot s.setting slot) caller w s.chart (seen_by s.blocks sight) m2 Told) (blocks2 : Blocks) (grown : IsGrown s.chart s.blocks went.blocks2 blocks2) (sights2 : ℕ → Visible)
    (m : Moment K V) (known : Known) (shown : RefinesMap map number s m known) (shown_blocks : RefinesBlocks m known w)
    (told : Changed) (left : LeavesBy w.memory m2 told)
    (lies : (n : ℕ) → s.chart.current n ≡ true → LiesAt s.chart (is_incremental s.setting.mode) n (m.spot (number n)) (m.born (number n)).turn)
    (numbered : AreNumbered map number s m) (were : WereLeft s.chart map m)
    (more : length m.stored ≤ length (with_effects name (Some map) (effects_of (Call caller map) known told) m).stored) where
  abbrev c : Chart K
  c = s.chart

  abbrev q : Bool
  q = is_incremental s.setting.mode

  rule : Rule same (spot_of s.hash) q c
  rule = is_map.map.rule

  abbrev led : List Effect → Moment K V
  led e = with_effects name (Some map) e m

  abbrev effects : List Effect
  effects = effects_of (Call caller map) known told

  abbrev By : Move K → Type 0
  By = DidBy same slot caller map name number s lawful w sight is_sight is_map m2 Told went blocks2 grown sights2 m known shown shown_blocks told left

  -- the pair that lay at a tombstone is not in the map
  gone : (t i : ℕ) (mark : Bool) → c.place t i ≡ Tombstone mark → (n : ℕ) → m.spot (number n) ≡ spot_in t i → c.current n ≡ true → ⊥
  gone t i mark is n at current =
      let named = lies_named c q n (m.spot (number n)) (m.born (number n)).turn (lies n current) in
      let here : named_by (c.place t i) ≡ ThePair n named.1 = ap (λ (x : Spot). named_by (c.place x.turn x.place)) (sym at) ∙ named.2 in
      cc (is, here)

  out : (t i : ℕ) (mark : Bool) → c.place t i ≡ Tombstone mark → (k : ℕ) → 0 < k → k ≤ length m.stored → (m.born k).map ≡ map → m.spot k ≡ spot_in t i → is_in_map map (m.place k) ≡ false
  out t i mark is k some most born at =
      let it = numbered k some most born in
      let at_it : m.spot (number it.0) ≡ spot_in t i = ap m.spot it.2 ∙ at in
      ap (λ (x : ℕ). is_in_map map (m.place x)) (sym it.2) ∙ shown.pairs.here it.0 it.1 ∙ not_true (c.current it.0) (gone t i mark is it.0 at_it)
    where
      not_true : (b : Bool) → (b ≡ true → ⊥) → b ≡ false
      not_true true ne = absurd (ne refl)
      not_true false ne = refl

  -- Of the tombstones that were there, at this moment: the pair is the same one, and lies where it lay.
  abbrev Old : Chart K → Moment K V → Type 0
  Old d v = (t i : ℕ) (mark : Bool) → d.place t i ≡ Tombstone mark → (k : ℕ) × (0 < k) × (k ≤ length m.stored) × ((v.born k).map ≡ map) × (v.spot k ≡ spot_in t i)

  same_left : (d : Chart K) (v : Moment K V) → ((t i : ℕ) (mark : Bool) → d.place t i ≡ Tombstone mark → IsTombstone (c.place t i))
      → ((t i : ℕ) (mark : Bool) → c.place t i ≡ Tombstone mark → (k : ℕ) → 0 < k → k ≤ length m.stored → (m.born k).map ≡ map → m.spot k ≡ spot_in t i → ((v.born k).map ≡ map) × (v.spot k ≡ spot_in t i)) → Old d v
  same_left d v back still t i mark is =
      let was = back t i mark is in
      let it = were t i was.0 was.1 in
      let now = still t i was.0 was.1 it.0 it.1 it.2 it.3 it.4 in
      (it.0, it.1, it.2, now.0, now.1)

  aside_left : (d : Chart K) (v : Moment K V) → ((t i : ℕ) (mark : Bool) → d.place t i ≡ Tombstone mark → IsTombstone (c.place t i)) → AreAside m v → Old d v
  aside_left d v back aside =
      same_left d v back (λ t i mark is k some most born at. (ap (λ (f : ℕ → TableId). (f k).map) aside.born ∙ born, ap (λ (f : ℕ → Spot). f k) aside.spot ∙ at))

  -- a pair was stored, which is none of the old ones
  store_left : (d : Chart K) (v : Moment K V) (t i : ℕ) → ((x j : ℕ) (mark : Bool) → d.place x j ≡ Tombstone mark → IsTombstone (c.place x j)) → v.spot ≡ put (known.stored + 1) (spot_in t i) m.spot
      → v.born ≡ put (known.stored + 1) (table_of map t) m.born → Old d v
  store_left d v t i back spot_is born_is =
      same_left d v back (λ x j mark is k some most born at.
      let older : k ≢ known.stored + 1 = (λ e. (let many = shown_blocks.stored in omega (arith, e, many, most))) in (
        ap (λ (f : ℕ → TableId). (f k).map) born_is ∙ ap (λ (y : TableId). y.map) (put_elsewhere (known.stored + 1) (table_of map t) m.born k older) ∙ born,
        ap (λ (f : ℕ → Spot). f k) spot_is ∙ put_elsewhere (known.stored + 1) (spot_in t i) m.spot k older ∙ at,
      ))

  chunked : is_chunked (Some map) m ≡ q
  chunked = chunks_are map number s m known shown

  -- a pair was copied: in incremental mode one of the map
  copy_left : (d : Chart K) (n : ℕ) (sp : Spot) → ((x j : ℕ) (mark : Bool) → d.place x j ≡ Tombstone mark → IsTombstone (c.place x j)) → (q ≡ true → c.current n ≡ true) → Old d (led (CopiedTo (number n) sp ∷ []))
  copy_left d n sp back current =
      same_left d (led (CopiedTo (number n) sp ∷ [])) back (λ x j mark is k some most born at.
      (born, ap (λ (z : Bool). spot_by z m.place m.copy (CopiedTo (number n) sp) m.spot k) chunked ∙ by q refl x j mark is k at ∙ at))
    where
      by : (z : Bool) → q ≡ z → (x j : ℕ) (mark : Bool) → c.place x j ≡ Tombstone mark → (k : ℕ) → m.spot k ≡ spot_in x j → spot_by z m.place m.copy (CopiedTo (number n) sp) m.spot k ≡ m.spot k
      by true e x j mark is k at =
          spot_copied_other true m.place m.copy (number n) sp m.spot k (λ same_one. gone x j mark is n (ap m.spot (sym same_one) ∙ at) (current e))
      by false e x j mark is k at = refl

  promote_left : (t : ℕ) → Old (after (spot_of s.hash) q (Promotes t) c) (led (Promoted (table_of map t) ∷ []))
  promote_left t =
      same_left (after (spot_of s.hash) q (Promotes t) c) (led (Promoted (table_of map t) ∷ [])) (λ x j mark is. (mark, is)) (λ x j mark is k some most born at.
      (born, spot_promoted_other (is_chunked (Some map) m) m.place m.copy (table_of map t) m.spot k (out x j mark is k some most born at) ∙ at))

  -- a pair is removed: its place has a tombstone now, and there it lay
  module _ (t i n : ℕ) (borrowed : Bool) (k : K) (held : c.place t i ≡ Holds n Still borrowed) (may : MayChange same (spot_of s.hash) q c t k) where
    at_root : (x : Bool) → MayChange same (spot_of s.hash) x c t k → x ≡ false → t ≡ c.first
    at_root true h e = absurd (cc e)
    at_root false h e = h

    abbrev d3 : Chart K
    d3 = after (spot_of s.hash) q (Removes t i) c

    abbrev removing : Moment K V
    removing = led (Removed (number n) ∷ [])

    its_place : m.spot (number n) ≡ spot_in t i
    its_place =
        still_spot same s.hash lawful.lawful c t i n borrowed held q rule (at_root q may) (m.spot (number n)) (m.born (number n)).turn
        (lies n (still_current same (spot_of s.hash) c t i n borrowed k held q rule may))

    remove_left : n < c.stored → Old d3 removing
    remove_left old x j mark is = by (put_in_cases c.place t i (Tombstone false) x j)
      where
        by : ((x ≡ t) × (j ≡ i) × (put_in c.place t i (Tombstone false) x j ≡ Tombstone false)) ⊎ (put_in c.place t i (Tombstone false) x j ≡ c.place x j)
            → (y : ℕ) × (0 < y) × (y ≤ length m.stored) × ((removing.born y).map ≡ map) × (removing.spot y ≡ spot_in x j)
        by (inl (same_turn, same_index, now)) =
            let there = shown.pairs.numbered n old in
            (number n, there.0, there.1, shown.pairs.born n old, its_place ∙ ap (λ (y : ℕ). spot_in y i) (sym same_turn) ∙ ap (spot_in x) (sym same_index))
        by (inr was) = let it = were x j mark (sym was ∙ is) in it

  abbrev Goal : Type 0
  Goal = WereLeft went.c2 map (led effects)

  as_done : (e : List Effect) → effects ≡ e → (d : Chart K) → went.c2 ≡ d → Old d (led e) → Goal
  as_done e are d is h t i mark there =
      let it = h t i mark (ap (λ (x : Chart K). x.place t i) (sym is) ∙ there) in
      (it.0, it.1, (let most = it.2 in omega (arith, most, more)), ap (λ (x : List Effect). ((led x).born it.0).map) are ∙ it.3, ap (λ (x : List Effect). (led x).spot it.0) are ∙ it.4)

  calm_done : (d : Chart K) → went.c2 ≡ d → ((t i : ℕ) (mark : Bool) → d.place t i ≡ Tombstone mark → IsTombstone (c.place t i)) → AllAside effects → Goal
  calm_done d is back all = as_done effects refl d is (aside_left d (led effects) back (aside_all name (Some map) effects m all))

  abbrev then_by : Move K → Chart K
  then_by move = after (spot_of s.hash) q move c

  by_move : (move : Move K) (allowed : Allowed same (spot_of s.hash) q move c) → went.c2 ≡ after (spot_of s.hash) q move c → By move → Goal
  by_move (Links len limit) allowed is (b, own, done) =
      as_done _ done.0 (then_by (Links len limit)) is (aside_left (then_by (Links len limit)) (led (Linked (table_of map c.past) (record { len = len; limit = limit }) ∷ [])) (λ t i mark there. (mark, there)) (aside_all name (Some map) (Linked (table_of map c.past) (record { len = len; limit = limit }) ∷ []) m (refl, tt)))
  by_move (Stores t k j) allowed is (i, b, own, its_block, done) =
      as_done _ done.0 (then_by (Stores t k j)) is
      (store_left (then_by (Stores t k j)) (led (Stored (known.stored + 1) (spot_in t (spot_of s.hash (c.len t) k j)) ∷ [])) t (spot_of s.hash (c.len t) k j)
      (λ x y mark there. written (spot_of s.hash) q c x y t (spot_of s.hash (c.len t) k j) _ (λ none. absurd (cc none.1)) (mark, there)) refl refl)
  by_move (Replaces t i k) allowed is (n, borrowed, held, (j, b, own, its_block, done)) =
      as_done _ done.0 (then_by (Replaces t i k)) is
      (store_left (then_by (Replaces t i k)) (led (Replaced (number n) ∷ Stored (known.stored + 1) (spot_in t i) ∷ [])) t i (λ x y mark there. written (spot_of s.hash) q c x y t i _ (λ none. absurd (cc none.1)) (mark, there)) refl refl)
  by_move (Removes t i) (k, still, may) is (n, borrowed, held, done) =
      as_done _ done.0 (then_by (Removes t i)) is (remove_left t i n borrowed k held may (rule.common.keyed t i n Still borrowed held).0)
  by_move (Puts by i t k j) allowed is (n, borrowed, held, l, seen, done) =
      as_done _ done.0 (then_by (Puts by i t k j)) is
      (copy_left (then_by (Puts by i t k j)) n _ (λ x y mark there. written (spot_of s.hash) q c x y t (spot_of s.hash (c.len t) k j) _ (λ none. absurd (cc (none.1, ap (lent_place (spot_of s.hash) q) held))) (mark, there))
      (λ e. rule.common.is_current c.first i n Copying borrowed held (λ z. cc z) (root_home q)))
    where
      root_home : (z : Bool) → cond z (c.first ≤ c.first) (c.first ≡ c.first)
      root_home true = omega arith
      root_home false = refl
  by_move (PutsLate t i n) allowed is (l, seen, seen_table, done) =
      as_done _ done.0 (then_by (PutsLate t i n)) is (copy_left (then_by (PutsLate t i n)) n _ (λ x y mark there. written (spot_of s.hash) q c x y t i _ (λ none. absurd (cc none.1)) (mark, there)) (λ e. absurd (let alone = allowed.0 in cc (e, alone))))
  by_move (Promotes t) allowed is done = as_done _ done.0 (then_by (Promotes t)) is (promote_left t)
  by_move (Marks by i) allowed is calm =
      calm_done (then_by (Marks by i)) is (λ x y mark there. written (spot_of s.hash) q c x y c.first i _ (of_marked (spot_of s.hash) q c x y (c.place c.first i)) (mark, there)) (calm_aside effects calm.calm)
  by_move (MarksBlocking i) allowed is calm =
      calm_done (then_by (MarksBlocking i)) is (λ x y mark there. written (spot_of s.hash) q c x y c.first i _ (of_marked (spot_of s.hash) q c x y (c.place c.first i)) (mark, there)) (calm_aside effects calm.calm)
  by_move (Skips by t i) allowed is calm =
      calm_done (then_by (Skips by t i)) is (λ x y mark there. written (spot_of s.hash) q c x y c.first i _ (of_marked (spot_of s.hash) q c x y (c.place c.first i)) (mark, there)) (calm_aside effects calm.calm)
  by_move (Unmarks by i) allowed is calm =
      calm_done (then_by (Unmarks by i)) is (λ x y mark there. written (spot_of s.hash) q c x y c.first i _ (of_still (spot_of s.hash) q c x y (c.place c.first i)) (mark, there)) (calm_aside effects calm.calm)
  by_move (Covers by i) allowed is calm =
      calm_done (then_by (Covers by i)) is (λ x y mark there. written (spot_of s.hash) q c x y c.first i _ (of_copied (spot_of s.hash) q c x y (c.place c.first i)) (mark, there)) (calm_aside effects calm.calm)
  by_move (Claims by t chunk) allowed is calm = calm_done (then_by (Claims by t chunk)) is (λ x y mark there. (mark, there)) (calm_aside effects calm.calm)
  by_move (Reclaims t claim) allowed is calm = calm_done (then_by (Reclaims t claim)) is (λ x y mark there. (mark, there)) (calm_aside effects calm.calm)
  by_move (Counts by t many) allowed is calm = calm_done (then_by (Counts by t many)) is (λ x y mark there. (mark, there)) (calm_aside effects calm.calm)
  by_move (GivesUp by t) allowed is calm = calm_done (then_by (GivesUp by t)) is (λ x y mark there. (mark, there)) (calm_aside effects calm.calm)
  by_move (Aborts t) allowed is calm = calm_done (then_by (Aborts t)) is (λ x y mark there. (mark, there)) (calm_aside effects calm.calm)
  by_move (Announces t) allowed is calm = calm_done (then_by (Announces t)) is (λ x y mark there. (mark, there)) (calm_aside effects calm.calm)

  pub own_left : DidMoved same slot caller map name number s lawful w sight is_sight is_map m2 Told went blocks2 grown sights2 m known shown shown_blocks told left went.moved → Goal
  own_left did = by went.moved did
    where
      by : (moved : Moved same s.hash s.setting.mode caller c went.c2) → DidMoved same slot caller map name number s lawful w sight is_sight is_map m2 Told went blocks2 grown sights2 m known shown shown_blocks told left moved → Goal
      by (inl still) calm = calm_done c still (λ x y mark there. (mark, there)) (calm_aside effects calm.calm)
      by (inr made) did = by_move made.0 made.1 made.2 did
