-- Which pairs come to a map, and leave it, by a step of a call that is none of a row, and what its effects say of that.
use Rattle.std.specs.Prelude.{◌≡◌, ℕ, ◌+◌, Bool, true, false, List, [], ◌∷◌, ◌++◌, flat_map, Option}
use Rattle.std.proofs.Common.{refl, ap, ◌∙◌, inl, inr}
use Rattle.run_shows.specs.Given.SeizeWordsMem.{Mem}
use Rattle.run_shows.specs.Given.SeizeWorld.{World}
use Rattle.run_shows.specs.Given.TablesChunks.{is_incremental}
use Rattle.run_shows.specs.Given.TablesDeclared.node.Node.{Node}
use Rattle.run_shows.specs.Given.RunsDeclared.effect.Effect.{Effect}
use Rattle.run_shows.specs.Given.RunsDeclared.effect.Effect.TheVariants.{Stored, Replaced, Removed}
use Rattle.run_shows.specs.Given.RunsDeclared.effect.Spot.{Spot}
use Rattle.run_shows.specs.Given.SchedulesLinearizable.{shift_of}
use Rattle.run_shows.specs.Given.SchedulesMoment.{Moment}
use Rattle.run_shows.specs.Given.SchedulesSequential.{Shift}
use Rattle.run_shows.specs.Given.EffectsDeclared.changed.Changed.{Changed}
use Rattle.run_shows.specs.Given.RuleChart.{Place, Chart, put}
use Rattle.run_shows.specs.Given.RuleInWorld.{IsMapIn, Moved, StepSpec}
use Rattle.run_shows.specs.Given.RuleMaps.{spot_of}
use Rattle.run_shows.specs.Given.RuleMoves.{Move, Links, Stores, Replaces, Removes, Marks, MarksBlocking, Skips, Unmarks, Puts, Covers, PutsLate, Claims, Reclaims, Counts, GivesUp, Aborts, Promotes, Announces, Allowed, after, without}
use Rattle.run_shows.specs.Given.RuleWords.{Blocks}
use Rattle.run_shows.specs.Given.PointsSteps.{AreLawful}
use Rattle.run_shows.specs.Given.CallersSights.{Visible, seen_by, IsGrown, IsVisibility}
use Rattle.run_shows.specs.Given.CallersTogether.{in_slot}
use Rattle.run_shows.specs.Given.FinishesMaps.{Standing}
use Rattle.run_shows.specs.Given.EffectsEffects.{effects_of, known_after}
use Rattle.run_shows.specs.Given.EffectsKnown.{Known}
use Rattle.run_shows.specs.Given.EffectsDeclared.acting.Acting.TheVariants.{Call}
use Rattle.run_shows.specs.Follows.Blocks.{RefinesBlocks}
use Rattle.run_shows.specs.Follows.Maps.{RefinesMap}
use Rattle.run_shows.proofs.Follows.Alike.{is_calm, AllCalm}
use Rattle.run_shows.proofs.Follows.Operations.{LeavesBy}
use Rattle.run_shows.proofs.Follows.Stored.{still_current}
use Rattle.run_places.proofs.Spots.Calm.{IsCalm}
use Rattle.run_places.proofs.Spots.Done.{DidBy, DidMoved}

-- calm effects shift no pair
calm_shift : (f : Effect) → is_calm f ≡ true → shift_of f ≡ []
calm_shift (Stored n s) e = absurd (cc e)
calm_shift (Replaced n) e = absurd (cc e)
calm_shift (Removed n) e = absurd (cc e)
calm_shift _ e = refl

pub calm_shifts : (effects : List Effect) → AllCalm effects → flat_map shift_of effects ≡ []
calm_shifts [] all = refl
calm_shifts (f ∷ effects) all = ap (λ (l : List Shift). l ++ flat_map shift_of effects) (calm_shift f all.0) ∙ calm_shifts effects all.1

-- From one state of the tables to the next: no pair has come or gone, or one was stored, stored in the place of another one, or removed; and so say the effects.
pub data Shifts {K : Type 0} (c c2 : Chart K) (number : ℕ → ℕ) (stored : ℕ) (effects : List Effect) : Type 0 where
  KeepsAll : c2.current ≡ c.current → flat_map shift_of effects ≡ [] → Shifts c c2 number stored effects
  StoresOne : (s : Spot) → effects ≡ Stored (stored + 1) s ∷ [] → c2.current ≡ put c.current c.stored true → Shifts c c2 number stored effects
  ReplacesOne : (n : ℕ) (s : Spot) → effects ≡ Replaced (number n) ∷ Stored (stored + 1) s ∷ [] → c.current n ≡ true → c2.current ≡ put (put c.current n false) c.stored true → Shifts c c2 number stored effects
  RemovesOne : (n : ℕ) → effects ≡ Removed (number n) ∷ [] → c.current n ≡ true → c2.current ≡ put c.current n false → Shifts c c2 number stored effects

module _ {K V : Type 0} (same : K → K → Bool) (slot caller map : ℕ) (name : Option (List ℕ)) (number : ℕ → ℕ) (s : Standing K) (lawful : AreLawful same s.hash)
    (w : World (Node K V)) (sight : Visible) (is_sight : IsVisibility s.chart s.blocks sight) (is_map : IsMapIn same s.hash (in_slot s.setting slot) w s.chart (seen_by s.blocks sight))
    (m2 : Mem (Node K V)) (Told : World (Node K V) → Chart K → Blocks → Type 0)
    (went : StepSpec same s.hash (in_slot s.setting slot) caller w s.chart (seen_by s.blocks sight) m2 Told) (blocks2 : Blocks) (grown : IsGrown s.chart s.blocks went.blocks2 blocks2) (sights2 : ℕ → Visible)
    (m : Moment K V) (known : Known) (shown : RefinesMap map number s m known) (shown_blocks : RefinesBlocks m known w) (told : Changed) (left : LeavesBy w.memory m2 told) where
  abbrev c : Chart K
  c = s.chart

  abbrev incremental : Bool
  incremental = is_incremental s.setting.mode

  abbrev effects : List Effect
  effects = effects_of (Call caller map) known told

  abbrev ItShifts : Type 0
  ItShifts = Shifts c went.c2 number known.stored effects

  abbrev By : Move K → Type 0
  By = DidBy same slot caller map name number s lawful w sight is_sight is_map m2 Told went blocks2 grown sights2 m known shown shown_blocks told left

  -- where no pair has come or gone
  kept : (move : Move K) → went.c2 ≡ after (spot_of s.hash) incremental move c → (after (spot_of s.hash) incremental move c).current ≡ c.current → flat_map shift_of effects ≡ [] → ItShifts
  kept move is same_pairs none = KeepsAll (ap (λ (x : Chart K). x.current) is ∙ same_pairs) none

  calm : (move : Move K) → went.c2 ≡ after (spot_of s.hash) incremental move c → (after (spot_of s.hash) incremental move c).current ≡ c.current → IsCalm known effects (known_after (Call caller map) told known) → ItShifts
  calm move is same_pairs is_calm = kept move is same_pairs (calm_shifts effects is_calm.calm)

  no_shift : (f : Effect) → shift_of f ≡ [] → effects ≡ f ∷ [] → flat_map shift_of effects ≡ []
  no_shift f none is = ap (λ (l : List Effect). flat_map shift_of l) is ∙ ap (λ (l : List Shift). l ++ []) none

  by_move : (move : Move K) → Allowed same (spot_of s.hash) incremental move c → went.c2 ≡ after (spot_of s.hash) incremental move c → By move → ItShifts
  by_move (Links len limit) allowed is (b, own, did) = kept (Links len limit) is refl (no_shift _ refl did.0)
  by_move (Stores t k j) allowed is (j2, b, own, b_is, did) =
      StoresOne _ did.0 (ap (λ (x : Chart K). x.current) is ∙ ap (λ (p : Place). put (without (spot_of s.hash) incremental p c.current) c.stored true) allowed.3)
  by_move (Replaces t i k) allowed is (n, borrowed, held, (j, b, own, b_is, did)) =
      ReplacesOne n _ did.0 (still_current same (spot_of s.hash) c t i n borrowed k held incremental is_map.map.rule allowed.1)
      (ap (λ (x : Chart K). x.current) is ∙ ap (λ (p : Place). put (without (spot_of s.hash) incremental p c.current) c.stored true) held)
  by_move (Removes t i) (k, still, may) is (n, borrowed, held, did) =
      RemovesOne n did.0 (still_current same (spot_of s.hash) c t i n borrowed k held incremental is_map.map.rule may)
      (ap (λ (x : Chart K). x.current) is ∙ ap (λ (p : Place). without (spot_of s.hash) incremental p c.current) held)
  by_move (Puts i place t k j) allowed is (n, borrowed, held, l, seen, did) = kept (Puts i place t k j) is refl (no_shift _ refl did.0)
  by_move (PutsLate t i n) allowed is (l, seen, tables, did) = kept (PutsLate t i n) is refl (no_shift _ refl did.0)
  by_move (Promotes t) allowed is did = kept (Promotes t) is refl (no_shift _ refl did.0)
  by_move (Marks i place) allowed is did = calm (Marks i place) is refl did
  by_move (MarksBlocking place) allowed is did = calm (MarksBlocking place) is refl did
  by_move (Skips i t place) allowed is did = calm (Skips i t place) is refl did
  by_move (Unmarks i place) allowed is did = calm (Unmarks i place) is refl did
  by_move (Covers i place) allowed is did = calm (Covers i place) is refl did
  by_move (Claims i t chunk) allowed is did = calm (Claims i t chunk) is refl did
  by_move (Reclaims t claim) allowed is did = calm (Reclaims t claim) is refl did
  by_move (Counts i t many) allowed is did = calm (Counts i t many) is refl did
  by_move (GivesUp i t) allowed is did = calm (GivesUp i t) is refl did
  by_move (Aborts t) allowed is did = calm (Aborts t) is refl did
  by_move (Announces t) allowed is did = calm (Announces t) is refl did

  pub shifted : DidMoved same slot caller map name number s lawful w sight is_sight is_map m2 Told went blocks2 grown sights2 m known shown shown_blocks told left went.moved → ItShifts
  shifted did = by went.moved did
    where
      by : (moved : Moved same s.hash s.setting.mode caller c went.c2)
          → DidMoved same slot caller map name number s lawful w sight is_sight is_map m2 Told went blocks2 grown sights2 m known shown shown_blocks told left moved → ItShifts
      by (inl still) is_calm = KeepsAll (ap (λ (x : Chart K). x.current) still) (calm_shifts effects is_calm.calm)
      by (inr made) did = by_move made.0 made.1 made.2 did
