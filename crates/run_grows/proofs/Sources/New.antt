-- The pair that a step of a call stores which is none of a row: one at most, in the call's map, and it lies in the table in which it was stored.
use Rattle.std.specs.Prelude.{◌≡◌, ℕ, ◌+◌, ◌<◌, ◌≤◌, Bool, true, List, [], ◌∷◌, length, Option, Some, None}
use Rattle.std.proofs.Common.{refl, ap, sym, ◌∙◌, arith, inl, inr}
use Rattle.run_finds.specs.Given.SeizeWordsMem.{Mem}
use Rattle.run_finds.specs.Given.SeizeWorld.{World}
use Rattle.run_finds.specs.Given.TablesChunks.{is_incremental}
use Rattle.run_finds.specs.Given.TablesDeclared.node.Node.{Node}
use Rattle.run_finds.specs.Given.RunsDeclared.effect.Effect.{Effect}
use Rattle.run_finds.specs.Given.RunsDeclared.effect.Effect.TheVariants as effect
use Rattle.run_finds.specs.Given.RunsDeclared.effect.Spot.{Spot}
use Rattle.run_finds.specs.Given.RunsDeclared.effect.TableId.{TableId}
use Rattle.run_finds.specs.Given.SchedulesEffects.{stored_by, with_effect, with_effects}
use Rattle.run_finds.specs.Given.SchedulesEntry.{acting}
use Rattle.run_finds.specs.Given.SchedulesLists.{put}
use Rattle.run_finds.specs.Given.SchedulesMoment.{UnderWay, Moment}
use Rattle.run_finds.specs.Given.EffectsDeclared.changed.Changed.{Changed}
use Rattle.run_finds.specs.Given.RuleChart.{Chart}
use Rattle.run_finds.specs.Given.RuleInWorld.{IsMapIn, Moved, StepSpec}
use Rattle.run_finds.specs.Given.RuleMaps.{spot_of}
use Rattle.run_finds.specs.Given.RuleMoves.{Move, Links, Stores, Replaces, Removes, Marks, MarksBlocking, Skips, Unmarks, Puts, Covers, PutsLate, Claims, Reclaims, Counts, GivesUp, Aborts, Promotes, Announces, after}
use Rattle.run_finds.specs.Given.RuleWords.{Blocks}
use Rattle.run_finds.specs.Given.PointsSteps.{AreLawful}
use Rattle.run_finds.specs.Given.CallersSights.{Visible, seen_by, IsGrown, IsVisibility}
use Rattle.run_finds.specs.Given.CallersTogether.{in_slot}
use Rattle.run_finds.specs.Given.EffectsEffects.{effects_of, known_after}
use Rattle.run_finds.specs.Given.EffectsKnown.{Known, with_pair}
use Rattle.run_finds.specs.Given.EffectsDeclared.acting.Acting.TheVariants.{Call}
use Rattle.run_finds.specs.Given.FinishesMaps.{Standing}
use Rattle.run_finds.specs.Given.FollowsBlocks.{RefinesBlocks}
use Rattle.run_finds.specs.Given.FollowsMaps.{table_of, RefinesMap}
use Rattle.run_finds.proofs.Given.FollowsAlike.{put_here}
use Rattle.run_finds.proofs.Given.FollowsOperations.{LeavesBy}
use Rattle.run_finds.specs.Given.SpotsSpots.{spot_in}
use Rattle.run_finds.proofs.Given.SpotsDone.{DidBy, DidMoved}
use Rattle.run_finds.proofs.Given.SpotsEffects.{is_aside, AllAside, calm_aside}

-- what neither stores, nor copies, nor brings a root on, stores nothing
module _ {K V : Type 0} (who : Option (List ℕ)) (acted : Option ℕ) where
  none_stored : (o : Option (UnderWay K V)) (f : Effect) (stored : List (K × V)) → is_aside f ≡ true → stored_by o f stored ≡ stored
  none_stored None f stored aside = refl
  none_stored (Some c) (effect.Stored n s) stored aside = absurd (cc aside)
  none_stored (Some c) _ stored aside = refl

  pub aside_stores_none : (effects : List Effect) (m : Moment K V) → AllAside effects → (with_effects who acted effects m).stored ≡ m.stored
  aside_stores_none [] m all = refl
  aside_stores_none (f ∷ fs) m all = aside_stores_none fs (with_effect who acted f m) all.1 ∙ none_stored (acting who m) f m.stored all.0

  copied_stores_none : (n : ℕ) (s : Spot) (m : Moment K V) → (with_effect who acted (effect.Copied n s) m).stored ≡ m.stored
  copied_stores_none n s m = by (acting who m)
    where
      by : (o : Option (UnderWay K V)) → stored_by o (effect.Copied n s) m.stored ≡ m.stored
      by None = refl
      by (Some c) = refl

  promoted_stores_none : (t : TableId) (m : Moment K V) → (with_effect who acted (effect.Promoted t) m).stored ≡ m.stored
  promoted_stores_none t m = by (acting who m)
    where
      by : (o : Option (UnderWay K V)) → stored_by o (effect.Promoted t) m.stored ≡ m.stored
      by None = refl
      by (Some c) = refl

module _ {K V : Type 0} (same : K → K → Bool) (slot caller map : ℕ) (name : Option (List ℕ)) (number : ℕ → ℕ) (s : Standing K) (lawful : AreLawful same s.hash)
    (w : World (Node K V)) (sight : Visible) (is_sight : IsVisibility s.chart s.blocks sight) (is_map : IsMapIn same s.hash (in_slot s.setting slot) w s.chart (seen_by s.blocks sight))
    (m2 : Mem (Node K V)) (Told : World (Node K V) → Chart K → Blocks → Type 0)
    (went : StepSpec same s.hash (in_slot s.setting slot) caller w s.chart (seen_by s.blocks sight) m2 Told) (blocks2 : Blocks) (grown : IsGrown s.chart s.blocks went.blocks2 blocks2) (sights2 : ℕ → Visible)
    (m : Moment K V) (known : Known) (shown : RefinesMap map number s m known) (shown_blocks : RefinesBlocks m known w)
    (told : Changed) (left : LeavesBy w.memory m2 told)
    (as_many : (known_after (Call caller map) told known).stored ≡ length (with_effects name (Some map) (effects_of (Call caller map) known told) m).stored) where
  abbrev c : Chart K
  c = s.chart

  abbrev led : List Effect → Moment K V
  led e = with_effects name (Some map) e m

  abbrev effects : List Effect
  effects = effects_of (Call caller map) known told

  abbrev known2 : Known
  known2 = known_after (Call caller map) told known

  abbrev By : Move K → Type 0
  By = DidBy same slot caller map name number s lawful w sight is_sight is_map m2 Told went blocks2 grown sights2 m known shown shown_blocks told left

  -- A new pair is one of the map, has a number there, and lies where it was stored.
  abbrev pub IsNewThere : Moment K V → ℕ → Type 0
  IsNewThere v k = ((v.born k).map ≡ map) × ((v.born k).turn ≡ (v.spot k).turn) × (c.stored < went.c2.stored) × (k ≡ length m.stored + 1)

  abbrev pub NewAreThere : Type 0
  NewAreThere = (k : ℕ) → length m.stored < k → k ≤ length (led effects).stored → IsNewThere (led effects) k

  none_new : (led effects).stored ≡ m.stored → NewAreThere
  none_new same k more most = absurd (let e = ap (λ (xs : List (K × V)). length xs) same in omega (arith, e, more, most))

  aside : AllAside effects → NewAreThere
  aside all = none_new (aside_stores_none name (Some map) effects m all)

  -- what was done stores none
  by_done : (e : List Effect) → effects ≡ e → (led e).stored ≡ m.stored → NewAreThere
  by_done e are same = none_new (ap (λ (x : List Effect). (led x).stored) are ∙ same)

  aside_done : (e : List Effect) → effects ≡ e → AllAside e → NewAreThere
  aside_done e are all = by_done e are (aside_stores_none name (Some map) e m all)

  stored_one : (e : List Effect) → effects ≡ e → (b : ℕ) → known2 ≡ with_pair b known → (t i : ℕ) → (led e).spot ≡ put (known.stored + 1) (spot_in t i) m.spot → (led e).born ≡ put (known.stored + 1) (table_of map t) m.born
      → went.c2.stored ≡ c.stored + 1 → NewAreThere
  stored_one e are b notes t i spot_is born_is one_more k more most =
      let is : k ≡ known.stored + 1 = (let many = shown_blocks.stored in let then_many = ap (λ (x : Known). x.stored) notes in omega (arith, more, most, many, as_many, then_many)) in
      let lies : (led effects).spot k ≡ spot_in t i = ap (λ (x : List Effect). (led x).spot k) are ∙ ap (λ (f : ℕ → Spot). f k) spot_is ∙ put_here (known.stored + 1) (spot_in t i) m.spot k is in
      let born : (led effects).born k ≡ table_of map t = ap (λ (x : List Effect). (led x).born k) are ∙ ap (λ (f : ℕ → TableId). f k) born_is ∙ put_here (known.stored + 1) (table_of map t) m.born k is in
      (ap (λ (x : TableId). x.map) born, ap (λ (x : TableId). x.turn) born ∙ sym (ap (λ (x : Spot). x.turn) lies), omega (arith, one_more), (let many = shown_blocks.stored in omega (arith, is, many)))

  by_move : (q : Bool) (move : Move K) → went.c2 ≡ after (spot_of s.hash) q move c → By move → NewAreThere
  by_move q (Links len limit) is (b, own, done) = aside_done _ done.0 (refl, tt)
  by_move q (Stores t k j) is (i, b, own, its_block, done) = stored_one _ done.0 b done.1 t (spot_of s.hash (c.len t) k j) refl refl (ap (λ (x : Chart K). x.stored) is ∙ omega arith)
  by_move q (Replaces t i k) is (n, borrowed, held, (j, b, own, its_block, done)) = stored_one _ done.0 b done.1 t i refl refl (ap (λ (x : Chart K). x.stored) is ∙ omega arith)
  by_move q (Removes t i) is (n, borrowed, held, done) = aside_done _ done.0 (refl, tt)
  by_move q (Puts by i t k j) is (n, borrowed, held, l, seen, done) = by_done _ done.0 (copied_stores_none name (Some map) _ _ m)
  by_move q (PutsLate t i n) is (l, seen, seen_table, done) = by_done _ done.0 (copied_stores_none name (Some map) _ _ m)
  by_move q (Promotes t) is done = by_done _ done.0 (promoted_stores_none name (Some map) _ m)
  by_move q (Marks by i) is calm = aside (calm_aside effects calm.calm)
  by_move q (MarksBlocking i) is calm = aside (calm_aside effects calm.calm)
  by_move q (Skips by t i) is calm = aside (calm_aside effects calm.calm)
  by_move q (Unmarks by i) is calm = aside (calm_aside effects calm.calm)
  by_move q (Covers by i) is calm = aside (calm_aside effects calm.calm)
  by_move q (Claims by t chunk) is calm = aside (calm_aside effects calm.calm)
  by_move q (Reclaims t claim) is calm = aside (calm_aside effects calm.calm)
  by_move q (Counts by t many) is calm = aside (calm_aside effects calm.calm)
  by_move q (GivesUp by t) is calm = aside (calm_aside effects calm.calm)
  by_move q (Aborts t) is calm = aside (calm_aside effects calm.calm)
  by_move q (Announces t) is calm = aside (calm_aside effects calm.calm)

  pub new_are_there : DidMoved same slot caller map name number s lawful w sight is_sight is_map m2 Told went blocks2 grown sights2 m known shown shown_blocks told left went.moved → NewAreThere
  new_are_there did = by went.moved did
    where
      by : (moved : Moved same s.hash s.setting.mode caller c went.c2) → DidMoved same slot caller map name number s lawful w sight is_sight is_map m2 Told went blocks2 grown sights2 m known shown shown_blocks told left moved → NewAreThere
      by (inl still) calm = aside (calm_aside effects calm.calm)
      by (inr made) did = by_move (is_incremental s.setting.mode) made.0 made.2 did
