-- The effects of a step of a call find numbers as they must: of the pair that is stored next, and of one that is put behind a table.
use Rattle.std.specs.Prelude.{◌&&◌, ◌≡◌, ℕ, ◌+◌, nat_lt, Bool, true, false, List, [], ◌∷◌, length, Option, Some, if◌then◌else◌}
use Rattle.std.proofs.Common.{refl, ap, sym, subst, arith, inl, inr}
use Rattle.run_shows.specs.Given.SeizeWordsMem.{Mem}
use Rattle.run_shows.specs.Given.SeizeWorld.{World}
use Rattle.run_shows.specs.Given.TablesDeclared.node.Node.{Node}
use Rattle.run_shows.specs.Given.RunsDeclared.effect.Effect.{Effect}
use Rattle.run_shows.specs.Given.RunsDeclared.effect.Effect.TheVariants.{Asked, Stored, Replaced, Deferred}
use Rattle.run_shows.specs.Given.RunsDeclared.effect.Growth.TheVariants.{ABucket}
use Rattle.run_shows.specs.Given.SchedulesEntry.{acting}
use Rattle.run_shows.specs.Given.SchedulesEffects.{with_effect, AtEachEffect}
use Rattle.run_shows.specs.Given.SchedulesMoment.{Moment}
use Rattle.run_shows.specs.Given.EffectsDeclared.changed.Changed.{Changed}
use Rattle.run_shows.specs.Given.EffectsDeclared.changed.Changed.TheVariants as changed
use Rattle.run_shows.specs.Given.RuleChart.{Chart}
use Rattle.run_shows.specs.Given.RuleMoves.{Move, Links, Stores, Replaces, Removes, Marks, MarksBlocking, Skips, Unmarks, Puts, Covers, PutsLate, Claims, Reclaims, Counts, GivesUp, Aborts, Promotes, Announces}
use Rattle.run_shows.specs.Given.RuleWords.{Blocks}
use Rattle.run_shows.specs.Given.RuleInWorld.{IsMapIn, Moved, StepSpec}
use Rattle.run_shows.specs.Given.PointsSteps.{AreLawful}
use Rattle.run_shows.specs.Given.CallersSights.{Visible, seen_by, IsGrown, IsVisibility}
use Rattle.run_shows.specs.Given.CallersTogether.{in_slot}
use Rattle.run_shows.specs.Given.FinishesMaps.{Standing}
use Rattle.run_shows.specs.Given.EffectsEffects.{taken_by, effects_of, known_after}
use Rattle.run_shows.specs.Given.EffectsKnown.{Known}
use Rattle.run_shows.specs.Given.EffectsDeclared.acting.Acting.TheVariants.{Call}
use Rattle.run_shows.specs.Given.EffectsDeclared.role.Role.{Role}
use Rattle.run_shows.specs.Given.EffectsDeclared.role.Role.TheVariants as role
use Rattle.run_shows.specs.Follows.Blocks.{HasRole, RefinesBlocks}
use Rattle.run_shows.specs.Follows.Maps.{RefinesMap}
use Rattle.run_shows.proofs.Follows.Alike.{is_calm, AllCalm}
use Rattle.run_shows.proofs.Follows.Contents.{pair_within}
use Rattle.run_shows.proofs.Follows.Operations.{LeavesBy}
use Rattle.run_shows.proofs.Follows.Rows.{HandsOn, IsStill, Puts as PutsBehind, Retires, RowLeaves, row_written}
use Rattle.run_shows.proofs.Follows.Stored.{stored_no_more}
use Rattle.run_places.specs.Spots.Deferred.{FindsNumbers}
use Rattle.run_places.proofs.Spots.Calm.{IsCalm}
use Rattle.run_places.proofs.Spots.Done.{DidBy, DidMoved}
use Rattle.run_places.proofs.Spots.Named.{HaveBlocks, written_named}

module _ {K V : Type 0} where
  calm_number : (f : Effect) (m : Moment K V) → is_calm f ≡ true → FindsNumbers m f
  calm_number (Stored n s) m e = absurd (cc e)
  calm_number (Deferred n t) m e = absurd (cc e)
  calm_number _ m e = tt

  pub calm_numbers : (name : Option (List ℕ)) (acted : Option ℕ) (effects : List Effect) (m : Moment K V) → AllCalm effects → AtEachEffect FindsNumbers name acted effects m
  calm_numbers name acted [] m all = tt
  calm_numbers name acted (f ∷ effects) m all = (calm_number f m all.0, calm_numbers name acted effects (with_effect name acted f m) all.1)

module _ {K V : Type 0} (same : K → K → Bool) (slot caller map : ℕ) (name : Option (List ℕ)) (number : ℕ → ℕ) (s : Standing K) (lawful : AreLawful same s.hash)
    (w : World (Node K V)) (sight : Visible) (is_sight : IsVisibility s.chart s.blocks sight) (is_map : IsMapIn same s.hash (in_slot s.setting slot) w s.chart (seen_by s.blocks sight))
    (m2 : Mem (Node K V)) (Told : World (Node K V) → Chart K → Blocks → Type 0)
    (went : StepSpec same s.hash (in_slot s.setting slot) caller w s.chart (seen_by s.blocks sight) m2 Told) (blocks2 : Blocks) (grown : IsGrown s.chart s.blocks went.blocks2 blocks2) (sights2 : ℕ → Visible)
    (m : Moment K V) (known : Known) (shown : RefinesMap map number s m known) (shown_blocks : RefinesBlocks m known w)
    (told : Changed) (left : LeavesBy w.memory m2 told) where
  abbrev By : Move K → Type 0
  By = DidBy same slot caller map name number s lawful w sight is_sight is_map m2 Told went blocks2 grown sights2 m known shown shown_blocks told left

  abbrev effects : List Effect
  effects = effects_of (Call caller map) known told

  abbrev Find : List Effect → Type 0
  Find e = AtEachEffect FindsNumbers name (Some map) e m

  as_done : (e : List Effect) (k : Known) → (effects ≡ e) × (known_after (Call caller map) told known ≡ k) → Find e → Find effects
  as_done e k done h = subst Find (sym done.0) h

  calm_then : IsCalm known effects (known_after (Call caller map) told known) → Find effects
  calm_then calm = calm_numbers name (Some map) effects m calm.calm

  next : (v : Moment K V) → length v.stored ≡ length m.stored → known.stored + 1 ≡ length v.stored + 1
  next v many = let known_many = shown_blocks.stored in omega (arith, known_many, many)

  by_move : (move : Move K) → By move → Find effects
  by_move (Links len limit) (b, own, done) = as_done _ _ done (tt, tt)
  by_move (Stores t k j) (i, b, own, its_block, done) = as_done _ _ done (next m refl, tt)
  by_move (Replaces t i k) (n, borrowed, held, (j, b, own, its_block, done)) =
      as_done _ _ done (tt, (next (with_effect name (Some map) (Replaced (number n)) m) (ap length (stored_no_more (acting name m) (number n) m.stored).0), tt))
  by_move (Removes t i) (n, borrowed, held, done) = as_done _ _ done (tt, tt)
  by_move (Puts by i t k j) (n, borrowed, held, l, seen, done) = as_done _ _ done (tt, tt)
  by_move (PutsLate t i n) (l, seen, seen_table, done) = as_done _ _ done (tt, tt)
  by_move (Promotes t) done = as_done _ _ done (tt, tt)
  by_move (Marks by i) calm = calm_then calm
  by_move (MarksBlocking i) calm = calm_then calm
  by_move (Skips by t i) calm = calm_then calm
  by_move (Unmarks by i) calm = calm_then calm
  by_move (Covers by i) calm = calm_then calm
  by_move (Claims by t chunk) calm = calm_then calm
  by_move (Reclaims t claim) calm = calm_then calm
  by_move (Counts by t many) calm = calm_then calm
  by_move (GivesUp by t) calm = calm_then calm
  by_move (Aborts t) calm = calm_then calm
  by_move (Announces t) calm = calm_then calm

  pub moved_numbers : DidMoved same slot caller map name number s lawful w sight is_sight is_map m2 Told went blocks2 grown sights2 m known shown shown_blocks told left went.moved → Find effects
  moved_numbers did = by went.moved did
    where
      by : (moved : Moved same s.hash s.setting.mode caller s.chart went.c2) → DidMoved same slot caller map name number s lawful w sight is_sight is_map m2 Told went blocks2 grown sights2 m known shown shown_blocks told left moved → Find effects
      by (inl still) calm = calm_then calm
      by (inr made) did = by_move made.0 did

-- and so do those of a row
module _ {K V : Type 0} (caller map : ℕ) (name : Option (List ℕ)) (m : Moment K V) (known : Known) (w w2 : World (Node K V)) (shown : RefinesBlocks m known w) (leaves : RowLeaves w w2) where
  abbrev RowFinds : List Effect → Type 0
  RowFinds e = AtEachEffect FindsNumbers name (Some map) e m

  hands_numbers : (effects : List Effect) → HandsOn effects → HaveBlocks known effects → RowFinds effects
  hands_numbers _ (IsStill still all) blocks = calm_numbers name (Some map) still m all
  hands_numbers _ (PutsBehind n t) blocks =
      let it = blocks.0 in let has = subst (HasRole w m.stored it.0) it.1 (shown.roles it.0) in (pair_within m.stored n (has.0, has.1) has.2, tt)
  hands_numbers _ (Retires x) blocks = (tt, tt)

  taken_numbers : (r : Role) → RowFinds (taken_by (Call caller map) r)
  taken_numbers role.Free = tt
  taken_numbers (role.OwnPair i) = (tt, tt)
  taken_numbers (role.OwnTable turn shape) = (tt, tt)
  taken_numbers (role.Pair n) = (tt, tt)
  taken_numbers (role.Table t len) = (tt, tt)
  taken_numbers (role.Counter of) = tt

  pub row_numbers : (told : Changed) → LeavesBy w.memory w2.memory told → RowFinds (effects_of (Call caller map) known told)
  row_numbers changed.Nothing left = tt
  row_numbers (changed.Wrote at old new) left =
      hands_numbers (effects_of (Call caller map) known (changed.Wrote at old new)) (row_written caller map m.stored known w w2 shown.roles leaves left.2 at old new left.0 left.1).0 (written_named known caller map at old new)
  row_numbers (changed.Made k b) left = absurd (let gone = leaves.none b left.0 in let there = left.3 in cc (gone, there))
  row_numbers (changed.Unmade k) left = (tt, tt)
  row_numbers (changed.Took b) left = taken_numbers (known.roles b)
  row_numbers (changed.Roomed bucket had) left = roomed (had && nat_lt bucket known.buckets)
    where
      roomed : (q : Bool) → RowFinds (if q then [] else Asked ABucket ∷ [])
      roomed true = tt
      roomed false = (tt, tt)
