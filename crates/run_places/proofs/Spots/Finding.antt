-- What the effects of a step of a call find where pairs lie.
use Rattle.std.specs.Prelude.{◌≡◌, ℕ, zero, suc, ◌+◌, ◌<◌, ◌≤◌, ◌==◌, nat_lt, Bool, true, false, ◌&&◌, ◌||◌, List, [], ◌∷◌, filter, Option, if◌then◌else◌, ◌⊎◌}
use Rattle.std.specs.List.{list_any}
use Rattle.std.proofs.Common.{refl, ap, sym, subst, ◌∙◌, arith, inl, inr}
use Rattle.std.proofs.lemmas.Bool.{eq-eqb, cases_eq}
use Rattle.run_shows.specs.Given.SeizeWordsMem.{Mem}
use Rattle.run_shows.specs.Given.SeizeWorld.{World}
use Rattle.run_shows.specs.Given.TablesChunks.{is_incremental}
use Rattle.run_shows.specs.Given.TablesDeclared.node.Node.{Node}
use Rattle.run_shows.specs.Given.TablesDeclared.table_words.TheConstants.{PLACES}
use Rattle.run_shows.specs.Given.RunsDeclared.effect.Effect.{Effect}
use Rattle.run_shows.specs.Given.RunsDeclared.effect.Effect.TheVariants.{Asked, Stored, Replaced, Copied}
use Rattle.run_shows.specs.Given.RunsDeclared.effect.Growth.TheVariants.{ABucket}
use Rattle.run_shows.specs.Given.RunsDeclared.effect.Spot.{Spot}
use Rattle.run_shows.specs.Given.SchedulesLives.{MayCopy}
use Rattle.run_shows.specs.Given.SchedulesTries.{has_pair_at}
use Rattle.run_shows.specs.Given.RunsDeclared.effect.TableId.{TableId}
use Rattle.run_shows.specs.Given.SchedulesMoment.{Place, GivenBack, Stage, TableThere, Moment}
use Rattle.run_shows.specs.Given.SchedulesThings.{same_table, same_spot}
use Rattle.run_shows.specs.Given.SchedulesViews.{is_there, is_linked, is_stage, is_place}
use Rattle.run_shows.specs.Given.EffectsDeclared.changed.Changed.{Changed}
use Rattle.run_shows.specs.Given.EffectsDeclared.changed.Changed.TheVariants as changed
use Rattle.run_shows.specs.Given.RuleChart.{Still, Copying, Empty, Holds, Chart}
use Rattle.run_shows.specs.Given.RuleMoments.{Moments}
use Rattle.run_shows.specs.Given.RuleRule.{Rule}
use Rattle.run_shows.specs.Given.RuleMoves.{Move, Links, Stores, Replaces, Removes, Marks, MarksBlocking, Skips, Unmarks, Puts, Covers, PutsLate, Claims, Reclaims, Counts, GivesUp, Aborts, Promotes, Announces, MayChange, Allowed}
use Rattle.run_shows.specs.Given.RuleWords.{Blocks}
use Rattle.run_shows.specs.Given.RuleMaps.{spot_of}
use Rattle.run_shows.specs.Given.RuleInWorld.{IsMapIn, Moved, StepSpec}
use Rattle.run_shows.specs.Given.PointsSteps.{AreLawful}
use Rattle.run_shows.specs.Given.CallersSights.{Visible, seen_by, IsGrown, IsVisibility}
use Rattle.run_shows.specs.Given.CallersTogether.{in_slot}
use Rattle.run_shows.specs.Given.FinishesMaps.{Standing}
use Rattle.run_shows.specs.Given.EffectsEffects.{spot_at, taken_by, effects_of, known_after}
use Rattle.run_shows.specs.Given.EffectsKnown.{Known}
use Rattle.run_shows.specs.Given.EffectsDeclared.acting.Acting.TheVariants.{Call}
use Rattle.run_shows.specs.Given.EffectsDeclared.role.Role.{Role}
use Rattle.run_shows.specs.Given.EffectsDeclared.role.Role.TheVariants as role
use Rattle.run_shows.specs.Follows.Blocks.{RefinesBlocks}
use Rattle.run_shows.specs.Follows.Maps.{table_of, shape_at, tables_to, RefinesMap}
use Rattle.run_shows.proofs.Follows.Alike.{AllCalm}
use Rattle.run_shows.proofs.Follows.Finds.{first_is, chunks_are, same_one, among, may_stand}
use Rattle.run_shows.proofs.Follows.Operations.{LeavesBy}
use Rattle.run_shows.proofs.Follows.Rows.{HandsOn, IsStill, Puts as PutsBehind, Retires, RowLeaves, row_written}
use Rattle.run_shows.proofs.Follows.Stored.{in_map_true, still_current}
use Rattle.run_places.specs.Spots.Placed.{FindPlaces}
use Rattle.run_places.specs.Spots.Spots.{ThePair, named_by, spot_in, LiesAt, RefinesSpots}
use Rattle.run_places.specs.Spots.Unreclaimed.{is_unreclaimed, RefinesUnreclaimed}
use Rattle.run_places.proofs.Spots.Born.{late_born}
use Rattle.run_places.proofs.Spots.Copies.{copied_from_root}
use Rattle.run_places.proofs.Spots.Done.{DidBy, DidMoved}
use Rattle.run_places.proofs.Spots.Stills.{still_spot}
use Rattle.run_places.proofs.Spots.Taken.{spot_same, no_pair_there}
use Rattle.run_places.proofs.Spots.Unreclaimed.{any_either, table_is}
use Rattle.run_shows.proofs.Given.General.{both_true as and_both, or_second as or_right, less_true as less_is}

-- such effects find nothing there
pub calm_finds : {K V : Type 0} (map : ℕ) (m : Moment K V) (effects : List Effect) → AllCalm effects → FindPlaces map m effects
calm_finds map m [] all = tt
calm_finds map m (Copied n s ∷ effects) all = absurd (let e = all.0 in cc e)
calm_finds map m (Stored n s ∷ effects) all = absurd (let e = all.0 in cc e)
calm_finds map m (Replaced n ∷ effects) all = absurd (let e = all.0 in cc e)
calm_finds map m (_ ∷ effects) all = tt

pub hands_find : {K V : Type 0} (map : ℕ) (m : Moment K V) (effects : List Effect) → HandsOn effects → FindPlaces map m effects
hands_find map m effects (IsStill still all) = calm_finds map m still all
hands_find map m effects (PutsBehind n t) = tt
hands_find map m effects (Retires x) = tt

pub taken_finds : {K V : Type 0} (caller map : ℕ) (m : Moment K V) (r : Role) → FindPlaces map m (taken_by (Call caller map) r)
taken_finds caller map m role.Free = tt
taken_finds caller map m (role.OwnPair i) = tt
taken_finds caller map m (role.OwnTable turn shape) = tt
taken_finds caller map m (role.Pair n) = tt
taken_finds caller map m (role.Table t len) = tt
taken_finds caller map m (role.Counter of) = tt

module _ {X : Type 0} (p : X → Bool) where
  any_kept : (f : X → Bool) → ((x : X) → p x ≡ true → f x ≡ true) → (xs : List X) → list_any p xs ≡ true → list_any p (filter f xs) ≡ true
  any_kept f passes [] e = e
  any_kept f passes (x ∷ xs) e = by (p x) refl (any_kept f passes xs)
    where
      Kept : Bool → Type 0
      Kept z = list_any p (if z then x ∷ filter f xs else filter f xs) ≡ true

      either : (z : Bool) → list_any p (filter f xs) ≡ true → Kept z
      either true rest = or_right (p x) (list_any p (filter f xs)) rest
      either false rest = rest

      by : (y : Bool) → p x ≡ y → (list_any p xs ≡ true → list_any p (filter f xs) ≡ true) → Kept (f x)
      by true is rest = subst Kept (sym (passes x is)) (ap (λ (q : Bool). q || list_any p (filter f xs)) is)
      by false is rest = either (f x) (rest (ap (λ (q : Bool). q || list_any p xs) (sym is) ∙ e))

-- the stage of a table of a map, where one that is at such a stage is there
module _ {K : Type 0} (map : ℕ) (c : Chart K) (stage : ℕ → Stage) (test : Stage → Bool) (t : ℕ) where
  abbrev pub AtStage : TableThere → Bool
  AtStage u = same_table u.table (table_of map t) && test u.stage

  stage_of : (n : ℕ) → list_any AtStage (tables_to map c stage n) ≡ true → test (stage t) ≡ true
  stage_of zero e = absurd (cc e)
  stage_of (suc n) e = by (any_either AtStage (tables_to map c stage n) (record { table = table_of map n; shape = shape_at map c n; stage = stage n }) e) (stage_of n)
    where
      by : (list_any AtStage (tables_to map c stage n) ≡ true) ⊎ ((same_table (table_of map n) (table_of map t) && test (stage n)) ≡ true) → (list_any AtStage (tables_to map c stage n) ≡ true → test (stage t) ≡ true) → test (stage t) ≡ true
      by (inl before) rest = rest before
      by (inr here) rest =
          let two = and_both (same_table (table_of map n) (table_of map t)) (test (stage n)) here in
          let turns = ap (λ (x : TableId). x.turn) (table_is (table_of map n) (table_of map t) two.0) in
          ap (λ (x : ℕ). test (stage x)) (sym turns) ∙ two.1

  pub turn_below : (n : ℕ) → list_any AtStage (tables_to map c stage n) ≡ true → t < n
  turn_below zero e = absurd (cc e)
  turn_below (suc n) e = by (any_either AtStage (tables_to map c stage n) (record { table = table_of map n; shape = shape_at map c n; stage = stage n }) e) (turn_below n)
    where
      by : (list_any AtStage (tables_to map c stage n) ≡ true) ⊎ ((same_table (table_of map n) (table_of map t) && test (stage n)) ≡ true) → (list_any AtStage (tables_to map c stage n) ≡ true → t < n) → t < suc n
      by (inl before) rest = let l = rest before in omega (arith, l)
      by (inr here) rest =
          let two = and_both (same_table (table_of map n) (table_of map t)) (test (stage n)) here in
          let turns = ap (λ (x : TableId). x.turn) (table_is (table_of map n) (table_of map t) two.0) in
          omega (arith, turns)

-- a table of a map that stands is among those that the map has had
pub listed_there : {K V : Type 0} (map : ℕ) (number : ℕ → ℕ) (s : Standing K) (m : Moment K V) (known : Known) (shown : RefinesMap map number s m known) (test : Stage → Bool) (t : ℕ)
    → is_stage test (table_of map t) m ≡ true → list_any (AtStage map s.chart shown.tables.stage test t) (tables_to map s.chart shown.tables.stage s.chart.past) ≡ true
listed_there map number s m known shown test t there =
    ap (list_any (AtStage map s.chart shown.tables.stage test t)) (sym shown.tables.listed)
    ∙ any_kept (AtStage map s.chart shown.tables.stage test t) (λ u. u.table.map == map)
    (λ u e. let two = and_both (same_table u.table (table_of map t)) (test u.stage) e in ap (λ (x : TableId). x.map == map) (table_is u.table (table_of map t) two.0) ∙ eq-eqb map map refl) m.tables there

module _ {K V : Type 0} (same : K → K → Bool) (slot caller map : ℕ) (name : Option (List ℕ)) (number : ℕ → ℕ) (s : Standing K) (lawful : AreLawful same s.hash)
    (w : World (Node K V)) (sight : Visible) (is_sight : IsVisibility s.chart s.blocks sight) (is_map : IsMapIn same s.hash (in_slot s.setting slot) w s.chart (seen_by s.blocks sight))
    (m2 : Mem (Node K V)) (Told : World (Node K V) → Chart K → Blocks → Type 0)
    (went : StepSpec same s.hash (in_slot s.setting slot) caller w s.chart (seen_by s.blocks sight) m2 Told) (blocks2 : Blocks) (grown : IsGrown s.chart s.blocks went.blocks2 blocks2) (sights2 : ℕ → Visible)
    (m : Moment K V) (known : Known) (shown : RefinesMap map number s m known) (shown_blocks : RefinesBlocks m known w)
    (moments : Moments (is_incremental s.setting.mode) s.chart) (lying : RefinesSpots s m known) (held : RefinesUnreclaimed m known)
    (there : (n : ℕ) → s.chart.current n ≡ true → (n < s.chart.stored) × (s.blocks.pair_known n ≡ true))
    (told : Changed) (left : LeavesBy w.memory m2 told) where
  abbrev c : Chart K
  c = s.chart

  abbrev q : Bool
  q = is_incremental s.setting.mode

  abbrev rule : Rule same (spot_of s.hash) q c
  rule = is_map.map.rule

  abbrev By : Move K → Type 0
  By = DidBy same slot caller map name number s lawful w sight is_sight is_map m2 Told went blocks2 grown sights2 m known shown shown_blocks told left

  abbrev effects : List Effect
  effects = effects_of (Call caller map) known told

  abbrev Finds : Type 0
  Finds = FindPlaces map m effects

  as_done : (e : List Effect) (k : Known) → (effects ≡ e) × (known_after (Call caller map) told known ≡ k) → FindPlaces map m e → Finds
  as_done e k done h = subst (FindPlaces map m) (sym done.0) h

  -- where a pair of the map lies
  where_it_lies : (n : ℕ) → c.current n ≡ true → LiesAt c q n (m.spot (number n)) (m.born (number n)).turn
  where_it_lies n current = let it = there n current in lying.lies n (number n) (it.0, it.1, shown.pairs.roles n it.0 it.1) current

  -- no pair of the map lies where none is named
  empty_free : (t i : ℕ) → c.place t i ≡ Empty false → has_pair_at map (spot_in t i) m ≡ false
  empty_free t i empty = no_pair_there map number s m known shown q where_it_lies t i (λ n b named. absurd (cc (empty, named)))

  -- a pair that may be changed lies where it is changed
  module _ (t i n : ℕ) (borrowed : Bool) (k : K) (has : c.place t i ≡ Holds n Still borrowed) where
    at_root : (x : Bool) → MayChange same (spot_of s.hash) x c t k → x ≡ false → t ≡ c.first
    at_root true may e = absurd (cc e)
    at_root false may e = may

    replaced_there : MayChange same (spot_of s.hash) q c t k → same_spot (m.spot (number n)) (spot_in t i) ≡ true
    replaced_there may = spot_same (m.spot (number n)) (spot_in t i)
        (still_spot same s.hash lawful.lawful c t i n borrowed has q rule (at_root q may) (m.spot (number n)) (m.born (number n)).turn (where_it_lies n (still_current same (spot_of s.hash) c t i n borrowed k has q rule may)))

  -- the place of a table that is there
  place_there : (t i : ℕ) → t < c.past → s.blocks.table_known t ≡ true → i < c.len t → is_place is_there map (spot_in t i) m ≡ true
  place_there t i made seen within =
      let there = held.tables (s.blocks.table t) (c.len t) (table_of map t) (shown.tables.roles t made seen) in
      let stage = stage_of map c shown.tables.stage is_there t c.past (listed_there map number s m known shown is_there t there) in
      among map number s m known shown (λ u. same_table u.table (table_of map t) && is_there u.stage && nat_lt i u.shape.len) t made
      (ap (λ (x : Bool). x && is_there (shown.tables.stage t) && nat_lt i (c.len t)) (same_one map number s m known shown t) ∙ ap (λ (x : Bool). x && nat_lt i (c.len t)) stage ∙ less_is i (c.len t) within)

  not_back : (p : Place) → is_unreclaimed p ≡ true → p ≡ GivenBack → ⊥
  not_back p e z = let gone : is_unreclaimed p ≡ false = ap is_unreclaimed z in cc (e, gone)

  -- in blocking mode a pair may be copied to a later table than that in which it was stored
  copies_blocking : (n t i : ℕ) → n < c.stored → sight.pairs n ≡ true → (m.born (number n)).turn < t → t < c.past → s.blocks.table_known t ≡ true → i < c.len t → MayCopy false map m (number n) (spot_in t i)
  copies_blocking n t i l seen born made seen_table within =
      let many = shown.pairs.numbered n l in (
        (let a = many.0 in omega (arith, a)),
        many.1,
        shown.pairs.born n l,
        not_back (m.place (number n)) (held.pairs (s.blocks.pair n) (number n) (shown.pairs.roles n l (is_sight.pairs n l seen))),
        born,
        place_there t i made seen_table within,
      )

  was_born : (n : ℕ) → n < c.stored → sight.pairs n ≡ true → (t i : ℕ) (b : Bool) → named_by (c.place t i) ≡ ThePair n b → (m.born (number n)).turn ≤ t
  was_born n l seen t i b e = lying.born n (number n) t i b (l, is_sight.pairs n l seen, shown.pairs.roles n l (is_sight.pairs n l seen)) e

  place_is : (t i : ℕ) → spot_at (table_of map t) (i + PLACES) ≡ spot_in t i
  place_is t i = ap (spot_in t) (omega arith)

  puts_find : (x : Bool) → q ≡ x → Rule same (spot_of s.hash) x c → (by i t : ℕ) (k : K) (j : ℕ) → Allowed same (spot_of s.hash) x (Puts by i t k j) c → (n : ℕ) (b : Bool) → c.place c.first i ≡ Holds n Copying b
      → n < c.stored → sight.pairs n ≡ true → MayCopy x map m (number n) (spot_in t (spot_of s.hash (c.len t) k j))
  puts_find true e r by i t k j allowed n b has l seen =
      let current = r.common.is_current c.first i n Copying b has (λ z. cc z) (omega arith) in
      let lies : LiesAt c true n (m.spot (number n)) (m.born (number n)).turn = subst (λ (x : Bool). LiesAt c x n (m.spot (number n)) (m.born (number n)).turn) e (where_it_lies n current) in
      let root = copied_from_root same (spot_of s.hash) lawful.lawful c r by i t k j n b allowed has (m.spot (number n)) (m.born (number n)).turn lies in (
        in_map_true map (m.place (number n)) (shown.pairs.here n l ∙ current),
        (let f = first_is map number s m known shown in omega (arith, f, root)),
        (let a = allowed.0 in omega (arith, a, root)),
        ap (λ (x : Spot). is_place is_linked map x m) (sym (place_is t (spot_of s.hash (c.len t) k j)))
            ∙ (may_stand map number s m known shown t (spot_of s.hash (c.len t) k j) (let a = allowed.0 in omega (arith, a)) allowed.1
            (lawful.lawful.within (c.len t) j k (r.common.lens t allowed.1).0) (λ z. absurd (cc (e, z)))).0,
      )
  puts_find false e r by i t k j allowed n b has l seen =
      copies_blocking n t (spot_of s.hash (c.len t) k j) l seen (let born = was_born n l seen c.first i b (ap named_by has) in let a = allowed.0 in omega (arith, born, a)) allowed.1
      (is_sight.tables t allowed.1 (is_sight.linked t (let a = allowed.0 in omega (arith, a)) allowed.1)) (lawful.lawful.within (c.len t) j k (r.common.lens t allowed.1).0)

  by_chunks : (n : ℕ) (sp : Spot) → MayCopy q map m (number n) sp → FindPlaces map m (Copied (number n) sp ∷ [])
  by_chunks n sp h = subst (λ (x : Bool). MayCopy x map m (number n) sp) (sym (chunks_are map number s m known shown)) h

  late_finds : (x : Bool) → Rule same (spot_of s.hash) x c → Moments x c → (t i n : ℕ) → Allowed same (spot_of s.hash) x (PutsLate t i n) c → n < c.stored → sight.pairs n ≡ true → sight.tables t ≡ true
      → MayCopy x map m (number n) (spot_in t i)
  late_finds true r mo t i n allowed l seen seen_table = absurd (let e = allowed.0 in cc e)
  late_finds false r mo t i n allowed l seen seen_table =
      copies_blocking n t i l seen (late_born same (spot_of s.hash) false c r mo lying.whole n l (m.born (number n)).turn (λ u y b e. was_born n l seen u y b e) t i allowed) made (is_sight.tables t made seen_table) allowed.2
    where
      made : t < c.past
      made = elim (cases_eq c.past 0) as (λ _. t < c.past) [
        | inl none ↦ absurd (let z = r.common.rootless none in let a = allowed.1 in omega (arith, z, a))
        | inr any ↦ (let z = r.common.rooted (omega (arith, any)) in let a = allowed.1 in omega (arith, z, a))
      ]

  by_move : (move : Move K) → Allowed same (spot_of s.hash) q move c → By move → Finds
  by_move (Links len limit) allowed (b, own, done) = as_done _ _ done tt
  by_move (Stores t k j) allowed (i, b, own, its_block, done) = as_done _ _ done (empty_free t (spot_of s.hash (c.len t) k j) allowed.3)
  by_move (Replaces t i k) allowed (n, borrowed, has, (j, b, own, its_block, done)) = as_done _ _ done (replaced_there t i n borrowed k has allowed.1)
  by_move (Removes t i) (k, still, may) (n, borrowed, has, done) = as_done _ _ done tt
  by_move (Puts by i t k j) allowed (n, borrowed, has, l, seen, done) =
      as_done _ _ done (by_chunks n (spot_in t (spot_of s.hash (c.len t) k j)) (puts_find q refl rule by i t k j allowed n borrowed has l seen))
  by_move (PutsLate t i n) allowed (l, seen, seen_table, done) = as_done _ _ done (by_chunks n (spot_in t i) (late_finds q rule moments t i n allowed l seen seen_table))
  by_move (Promotes t) allowed done = as_done _ _ done tt
  by_move (Marks by i) allowed calm = calm_finds map m effects calm.calm
  by_move (MarksBlocking i) allowed calm = calm_finds map m effects calm.calm
  by_move (Skips by t i) allowed calm = calm_finds map m effects calm.calm
  by_move (Unmarks by i) allowed calm = calm_finds map m effects calm.calm
  by_move (Covers by i) allowed calm = calm_finds map m effects calm.calm
  by_move (Claims by t chunk) allowed calm = calm_finds map m effects calm.calm
  by_move (Reclaims t claim) allowed calm = calm_finds map m effects calm.calm
  by_move (Counts by t many) allowed calm = calm_finds map m effects calm.calm
  by_move (GivesUp by t) allowed calm = calm_finds map m effects calm.calm
  by_move (Aborts t) allowed calm = calm_finds map m effects calm.calm
  by_move (Announces t) allowed calm = calm_finds map m effects calm.calm

  pub moved_finds : DidMoved same slot caller map name number s lawful w sight is_sight is_map m2 Told went blocks2 grown sights2 m known shown shown_blocks told left went.moved → Finds
  moved_finds did = by went.moved did
    where
      by : (moved : Moved same s.hash s.setting.mode caller c went.c2) → DidMoved same slot caller map name number s lawful w sight is_sight is_map m2 Told went blocks2 grown sights2 m known shown shown_blocks told left moved → Finds
      by (inl still) calm = calm_finds map m effects calm.calm
      by (inr made) did = by_move made.0 made.1 did

-- a row finds nothing there
module _ {K V : Type 0} (caller map : ℕ) (m : Moment K V) (known : Known) (w w2 : World (Node K V)) (shown : RefinesBlocks m known w) (leaves : RowLeaves w w2) where
  pub row_finds : (told : Changed) → LeavesBy w.memory w2.memory told → FindPlaces map m (effects_of (Call caller map) known told)
  row_finds changed.Nothing left = tt
  row_finds (changed.Wrote at old new) left =
      hands_find map m (effects_of (Call caller map) known (changed.Wrote at old new)) (row_written caller map m.stored known w w2 shown.roles leaves left.2 at old new left.0 left.1).0
  row_finds (changed.Made k b) left = absurd (let gone = leaves.none b left.0 in let there = left.3 in cc (gone, there))
  row_finds (changed.Unmade k) left = tt
  row_finds (changed.Took b) left = taken_finds caller map m (known.roles b)
  row_finds (changed.Roomed bucket had) left = roomed (had && nat_lt bucket known.buckets)
    where
      roomed : (q : Bool) → FindPlaces map m (if q then [] else Asked ABucket ∷ [])
      roomed true = tt
      roomed false = tt
