-- Which blocks are not reclaimed after a step of a call, by the change of its map's tables, or by what a row has handed over.
use Rattle.std.specs.Prelude.{◌≡◌, ℕ, ◌+◌, nat_lt, ◌&&◌, Bool, true, false, List, [], ◌∷◌, Option, Some, if◌then◌else◌}
use Rattle.std.specs.List.{list_any}
use Rattle.std.proofs.Common.{refl, ap, sym, subst, ◌∙◌, arith, inl, inr}
use Rattle.run_shows.specs.Given.SeizeWordsMem.{Mem}
use Rattle.run_shows.specs.Given.SeizeWorld.{World}
use Rattle.run_shows.specs.Given.TablesChunks.{is_incremental}
use Rattle.run_shows.specs.Given.TablesDeclared.node.Node.{Node}
use Rattle.run_shows.specs.Given.RunsDeclared.effect.Effect.{Effect}
use Rattle.run_shows.specs.Given.RunsDeclared.effect.Effect.TheVariants.{Asked, Copied, Stored, Replaced, Removed, Linked, Promoted, Deferred, Retired}
use Rattle.run_shows.specs.Given.RunsDeclared.effect.Growth.TheVariants.{ABucket}
use Rattle.run_shows.specs.Given.RunsDeclared.effect.Thing.TheVariants.{APair, ATable}
use Rattle.run_shows.specs.Given.SchedulesEffects.{with_effect, with_effects}
use Rattle.run_shows.specs.Given.SchedulesMoment.{Place, Unborn, InMap, Out, Handed, Behind, Left, GivenBack, Moment}
use Rattle.run_shows.specs.Given.SchedulesThings.{same_table}
use Rattle.run_shows.specs.Given.SchedulesViews.{is_in_map, is_there}
use Rattle.run_shows.specs.Given.EffectsDeclared.changed.Changed.{Changed}
use Rattle.run_shows.specs.Given.EffectsDeclared.changed.Changed.TheVariants as changed
use Rattle.run_shows.specs.Given.RuleChart.{Still, Holds, Chart}
use Rattle.run_shows.specs.Given.RuleMoves.{Move, Links, Stores, Replaces, Removes, Marks, MarksBlocking, Skips, Unmarks, Puts, Covers, PutsLate, Claims, Reclaims, Counts, GivesUp, Aborts, Promotes, Announces, MayChange, Allowed}
use Rattle.run_shows.specs.Given.RuleWords.{Blocks}
use Rattle.run_shows.specs.Given.RuleMaps.{spot_of}
use Rattle.run_shows.specs.Given.RuleInWorld.{IsMapIn, Moved, StepSpec}
use Rattle.run_shows.specs.Given.PointsSteps.{AreLawful}
use Rattle.run_shows.specs.Given.CallersSights.{Visible, seen_by, IsGrown, IsVisibility}
use Rattle.run_shows.specs.Given.CallersTogether.{in_slot}
use Rattle.run_shows.specs.Given.FinishesMaps.{Standing}
use Rattle.run_shows.specs.Given.EffectsEffects.{effects_of, known_after}
use Rattle.run_shows.specs.Given.EffectsKnown.{Known}
use Rattle.run_shows.specs.Given.EffectsDeclared.acting.Acting.{Acting}
use Rattle.run_shows.specs.Given.EffectsDeclared.acting.Acting.TheVariants.{Call}
use Rattle.run_shows.specs.Given.EffectsDeclared.role.Role.{Role}
use Rattle.run_shows.specs.Given.EffectsDeclared.role.Role.TheVariants as role
use Rattle.run_shows.specs.Follows.Blocks.{RefinesBlocks}
use Rattle.run_shows.specs.Follows.Maps.{table_of, RefinesMap}
use Rattle.run_shows.specs.Follows.Steps.{TakesNone}
use Rattle.run_shows.proofs.Follows.Alike.{AreSame, calm_still, still_all}
use Rattle.run_shows.proofs.Follows.Onward.{IsLasting}
use Rattle.run_shows.proofs.Follows.Operations.{LeavesBy}
use Rattle.run_shows.proofs.Follows.Rows.{HandsOn, IsStill, Puts as PutsBehind, Retires, RowLeaves}
use Rattle.run_shows.proofs.Follows.RowSteps.{row_done}
use Rattle.run_shows.proofs.Follows.Stored.{still_current}
use Rattle.run_places.specs.Spots.Spots.{spot_in}
use Rattle.run_places.specs.Spots.Unreclaimed.{is_unreclaimed, RefinesUnreclaimed}
use Rattle.run_places.proofs.Spots.Calm.{IsCalm}
use Rattle.run_places.proofs.Spots.Done.{DidBy, DidMoved}
use Rattle.run_places.proofs.Spots.Finding.{turn_below, listed_there}
use Rattle.run_places.proofs.Spots.Named.{HaveBlocks, written_named}
use Rattle.run_places.proofs.Spots.Unreclaimed.{AsUnreclaimed, stay_of_maps, unreclaimed_same, moved_unreclaimed, stored_unreclaimed, linked_unreclaimed, retired_unreclaimed}

-- what is in a map is not reclaimed
in_map_unreclaimed : (a : ℕ) (p : Place) → is_in_map a p ≡ true → is_unreclaimed p ≡ true
in_map_unreclaimed a (InMap b) e = refl
in_map_unreclaimed a Unborn e = absurd (cc e)
in_map_unreclaimed a Out e = absurd (cc e)
in_map_unreclaimed a Handed e = absurd (cc e)
in_map_unreclaimed a Behind e = absurd (cc e)
in_map_unreclaimed a Left e = absurd (cc e)
in_map_unreclaimed a GivenBack e = absurd (cc e)

as_same : {K V : Type 0} (m v : Moment K V) → AreSame m v → AsUnreclaimed m v
as_same m v same = record {
  place = λ k. ap (λ (f : ℕ → Place). is_unreclaimed (f k)) same.place;
  tables = λ t. ap (list_any (λ u. same_table u.table t && is_there u.stage)) same.tables;
}

module _ {K V : Type 0} (same : K → K → Bool) (slot caller map : ℕ) (name : Option (List ℕ)) (number : ℕ → ℕ) (s : Standing K) (lawful : AreLawful same s.hash)
    (w : World (Node K V)) (sight : Visible) (is_sight : IsVisibility s.chart s.blocks sight) (is_map : IsMapIn same s.hash (in_slot s.setting slot) w s.chart (seen_by s.blocks sight))
    (m2 : Mem (Node K V)) (Told : World (Node K V) → Chart K → Blocks → Type 0)
    (went : StepSpec same s.hash (in_slot s.setting slot) caller w s.chart (seen_by s.blocks sight) m2 Told) (blocks2 : Blocks) (grown : IsGrown s.chart s.blocks went.blocks2 blocks2) (sights2 : ℕ → Visible)
    (m : Moment K V) (known : Known) (shown : RefinesMap map number s m known) (shown_blocks : RefinesBlocks m known w)
    (told : Changed) (left : LeavesBy w.memory m2 told) (h : RefinesUnreclaimed m known) where
  abbrev c : Chart K
  c = s.chart

  abbrev q : Bool
  q = is_incremental s.setting.mode

  abbrev By : Move K → Type 0
  By = DidBy same slot caller map name number s lawful w sight is_sight is_map m2 Told went blocks2 grown sights2 m known shown shown_blocks told left

  abbrev effects : List Effect
  effects = effects_of (Call caller map) known told

  abbrev known2 : Known
  known2 = known_after (Call caller map) told known

  abbrev led : List Effect → Moment K V
  led e = with_effects name (Some map) e m

  abbrev Now : Type 0
  Now = RefinesUnreclaimed (led effects) known2

  as_done : (e : List Effect) (k : Known) → (effects ≡ e) × (known2 ≡ k) → RefinesUnreclaimed (led e) k → Now
  as_done e k done g = subst (λ (x : List Effect). RefinesUnreclaimed (led x) known2) (sym done.0) (subst (RefinesUnreclaimed (led e)) (sym done.1) g)

  calm_then : IsCalm known effects known2 → Now
  calm_then calm = unreclaimed_same m (led effects) known known2 (as_same m (led effects) (still_all name map effects m (calm_still effects calm.calm))) (stay_of_maps known known2 calm.keeps) calm.back h

  -- as much is known, and nothing is reclaimed
  known_then : (v : Moment K V) → AsUnreclaimed m v → RefinesUnreclaimed v known
  known_then v same_so = unreclaimed_same m v known known same_so (λ b of. refl) (λ b of. refl) h

  module _ (t i n : ℕ) (borrowed : Bool) (k : K) (held : c.place t i ≡ Holds n Still borrowed) (may : MayChange same (spot_of s.hash) q c t k) where
    was_there : is_unreclaimed (m.place (number n)) ≡ true
    was_there =
        let current = still_current same (spot_of s.hash) c t i n borrowed k held q is_map.map.rule may in
        let stored = (is_map.map.rule.common.keyed t i n Still borrowed held).0 in
        in_map_unreclaimed map (m.place (number n)) (shown.pairs.here n stored ∙ current)

  -- the table that is linked next has no block
  not_linked : (x n : ℕ) → known.roles x ≡ role.Table (table_of map c.past) n → ⊥
  not_linked x n has = (let l = turn_below map c shown.tables.stage is_there c.past c.past (listed_there map number s m known shown is_there c.past (h.tables x n (table_of map c.past) has)) in omega (arith, l))

  by_move : (move : Move K) → Allowed same (spot_of s.hash) q move c → By move → Now
  by_move (Links len limit) allowed (b, own, done) = as_done _ _ done (linked_unreclaimed m (led (Linked (table_of map c.past) (record { len = len; limit = limit }) ∷ [])) known b len (table_of map c.past)
      (record { len = len; limit = limit }) (λ lasting. subst IsLasting own lasting) (λ x n has. not_linked x n has) refl refl h)
  by_move (Stores t k j) allowed (i, b, own, its_block, done) =
      as_done _ _ done (stored_unreclaimed m (led (Stored (known.stored + 1) (spot_in t (spot_of s.hash (c.len t) k j)) ∷ [])) known b (InMap map) (λ lasting. subst IsLasting own lasting) refl refl refl h)
  by_move (Replaces t i k) allowed (n, borrowed, held, (j, b, own, its_block, done)) =
      let out = with_effect name (Some map) (Replaced (number n)) m in
      as_done _ _ done (stored_unreclaimed out (led (Replaced (number n) ∷ Stored (known.stored + 1) (spot_in t i) ∷ [])) known b (InMap map) (λ lasting. subst IsLasting own lasting) refl refl refl
      (known_then out (moved_unreclaimed m out (number n) Out refl refl (was_there t i n borrowed k held allowed.1) refl)))
  by_move (Removes t i) (k, still, may) (n, borrowed, held, done) =
      as_done _ _ done (known_then (led (Removed (number n) ∷ [])) (moved_unreclaimed m (led (Removed (number n) ∷ [])) (number n) Out refl refl (was_there t i n borrowed k held may) refl))
  by_move (Puts by i t k j) allowed (n, borrowed, held, l, seen, done) =
      as_done _ _ done (known_then (led (Copied (number n) (spot_in t (spot_of s.hash (c.len t) k j)) ∷ [])) (record { place = λ x. refl; tables = λ u. refl }))
  by_move (PutsLate t i n) allowed (l, seen, seen_table, done) = as_done _ _ done (known_then (led (Copied (number n) (spot_in t i) ∷ [])) (record { place = λ x. refl; tables = λ u. refl }))
  by_move (Promotes t) allowed done = as_done _ _ done (known_then (led (Promoted (table_of map t) ∷ [])) (record { place = λ x. refl; tables = λ u. refl }))
  by_move (Marks by i) allowed calm = calm_then calm
  by_move (MarksBlocking i) allowed calm = calm_then calm
  by_move (Skips by t i) allowed calm = calm_then calm
  by_move (Unmarks by i) allowed calm = calm_then calm
  by_move (Covers by i) allowed calm = calm_then calm
  by_move (Claims by t chunk) allowed calm = calm_then calm
  by_move (Reclaims t claim) allowed calm = calm_then calm
  by_move (Counts by t many) allowed calm = calm_then calm
  by_move (GivesUp by t) allowed calm = calm_then calm
  by_move (Aborts t) allowed calm = calm_then calm
  by_move (Announces t) allowed calm = calm_then calm

  pub moved_holds : DidMoved same slot caller map name number s lawful w sight is_sight is_map m2 Told went blocks2 grown sights2 m known shown shown_blocks told left went.moved → Now
  moved_holds did = by went.moved did
    where
      by : (moved : Moved same s.hash s.setting.mode caller c went.c2) → DidMoved same slot caller map name number s lawful w sight is_sight is_map m2 Told went blocks2 grown sights2 m known shown shown_blocks told left moved → Now
      by (inl still) calm = calm_then calm
      by (inr made) did = by_move made.0 made.1 did

module _ {K V : Type 0} (caller map : ℕ) (name : Option (List ℕ)) (m : Moment K V) (known : Known) (h : RefinesUnreclaimed m known) where
  -- so it is where nothing is done to pairs and tables
  pub calm_holds : (effects : List Effect) (known2 : Known) → IsCalm known effects known2 → RefinesUnreclaimed (with_effects name (Some map) effects m) known2
  calm_holds effects known2 calm =
      unreclaimed_same m (with_effects name (Some map) effects m) known known2 (as_same m (with_effects name (Some map) effects m) (still_all name map effects m (calm_still effects calm.calm))) (stay_of_maps known known2 calm.keeps) calm.back h

  -- and where they are handed over
  hands_hold : (effects : List Effect) → HandsOn effects → HaveBlocks known effects → AsUnreclaimed m (with_effects name (Some map) effects m)
  hands_hold _ (IsStill still all) blocks = as_same m (with_effects name (Some map) still m) (still_all name map still m (calm_still still all))
  hands_hold _ (PutsBehind n t) blocks = let it = blocks.0 in moved_unreclaimed m (with_effects name (Some map) (Deferred n t ∷ []) m) n Behind refl refl (h.pairs it.0 n it.1) refl
  hands_hold _ (Retires (APair n)) blocks = let it = blocks.0 in moved_unreclaimed m (with_effects name (Some map) (Retired (APair n) ∷ []) m) n Handed refl refl (h.pairs it.0 n it.1) refl
  hands_hold _ (Retires (ATable t)) blocks = let it = blocks.0 in retired_unreclaimed m (with_effects name (Some map) (Retired (ATable t) ∷ []) m) t refl refl (h.tables it.0 it.1 t it.2)

  module _ (w w2 : World (Node K V)) (shown : RefinesBlocks m known w) (leaves : RowLeaves w w2) where
    abbrev its : Acting
    its = Call caller map

    have_blocks : (told : Changed) → HandsOn (effects_of its known told) → LeavesBy w.memory w2.memory told → TakesNone told → AsUnreclaimed m (with_effects name (Some map) (effects_of its known told) m)
    have_blocks (changed.Wrote at old new) hands left none = hands_hold (effects_of its known (changed.Wrote at old new)) hands (written_named known caller map at old new)
    have_blocks changed.Nothing hands left none = record { place = λ k. refl; tables = λ t. refl }
    have_blocks (changed.Made k b) hands left none = absurd (let gone = leaves.none b left.0 in let there = left.3 in cc (gone, there))
    have_blocks (changed.Unmade k) hands left none = record { place = λ k. refl; tables = λ t. refl }
    have_blocks (changed.Took b) hands left none = absurd none
    have_blocks (changed.Roomed bucket had) hands left none = roomed (had && nat_lt bucket known.buckets)
      where
        roomed : (q : Bool) → AsUnreclaimed m (with_effects name (Some map) (if q then [] else Asked ABucket ∷ []) m)
        roomed true = record { place = λ k. refl; tables = λ t. refl }
        roomed false = record { place = λ k. refl; tables = λ t. refl }

    pub row_holds : (told : Changed) → LeavesBy w.memory w2.memory told → TakesNone told → RefinesUnreclaimed (with_effects name (Some map) (effects_of its known told) m) (known_after its told known)
    row_holds told left none =
        let done = row_done caller map m known w w2 shown leaves told left none in
        unreclaimed_same m (with_effects name (Some map) (effects_of its known told) m) known (known_after its told known) (have_blocks told done.hands left none)
        (λ b of. ap (λ (f : ℕ → Role). f b) done.roles) (λ b of. ap (λ (f : ℕ → Role). f b) done.roles) h
