-- What hands nothing over, and reclaims nothing: a step of a call that is none of a row.
use Rattle.std.specs.Prelude.{◌≡◌, ℕ, Bool, true, List, [], ◌∷◌, Option}
use Rattle.std.proofs.Common.{sym, subst, inl, inr}
use Rattle.run_shows.specs.Given.SeizeWordsMem.{Mem}
use Rattle.run_shows.specs.Given.SeizeWorld.{World}
use Rattle.run_shows.specs.Given.TablesDeclared.node.Node.{Node}
use Rattle.run_shows.specs.Given.SchedulesMoment.{Moment}
use Rattle.run_shows.specs.Given.RunsDeclared.effect.Effect.{Effect}
use Rattle.run_shows.specs.Given.RunsDeclared.effect.Effect.TheVariants.{Retired, Deferred, Reclaimed, Ended, Taken}
use Rattle.run_shows.specs.Given.EffectsDeclared.changed.Changed.{Changed}
use Rattle.run_shows.specs.Given.RuleChart.{Chart}
use Rattle.run_shows.specs.Given.RuleInWorld.{IsMapIn, Moved, StepSpec}
use Rattle.run_shows.specs.Given.RuleMoves.{Move, Links, Stores, Replaces, Removes, Marks, MarksBlocking, Skips, Unmarks, Puts, Covers, PutsLate, Claims, Reclaims, Counts, GivesUp, Aborts, Promotes, Announces}
use Rattle.run_shows.specs.Given.RuleWords.{Blocks}
use Rattle.run_shows.specs.Given.PointsSteps.{AreLawful}
use Rattle.run_shows.specs.Given.CallersSights.{Visible, seen_by, IsGrown, IsVisibility}
use Rattle.run_shows.specs.Given.CallersTogether.{in_slot}
use Rattle.run_shows.specs.Given.FinishesMaps.{Standing}
use Rattle.run_shows.specs.Given.EffectsEffects.{effects_of, known_after}
use Rattle.run_shows.specs.Given.EffectsKnown.{Known}
use Rattle.run_shows.specs.Given.EffectsDeclared.acting.Acting.TheVariants.{Call}
use Rattle.run_shows.specs.Follows.Blocks.{RefinesBlocks}
use Rattle.run_shows.specs.Follows.Maps.{RefinesMap}
use Rattle.run_shows.proofs.Follows.Alike.{is_calm, AllCalm}
use Rattle.run_shows.proofs.Follows.Operations.{LeavesBy}
use Rattle.run_places.proofs.Spots.Calm.{IsCalm}
use Rattle.run_places.proofs.Spots.Done.{DidBy, DidMoved}

-- the effect hands nothing over, and ends no table
abbrev pub KeepsAll : Effect → Type 0
KeepsAll (Retired x) = ⊥
KeepsAll (Deferred n t) = ⊥
KeepsAll (Taken t) = ⊥
KeepsAll _ = Unit {0}

abbrev pub AllKeep : List Effect → Type 0
AllKeep [] = Unit {0}
AllKeep (e ∷ effects) = KeepsAll e × AllKeep effects

-- nor does it reclaim or end anything
abbrev pub HandsNothing : Effect → Type 0
HandsNothing (Reclaimed x) = ⊥
HandsNothing (Ended n) = ⊥
HandsNothing e = KeepsAll e

abbrev pub AllHandNothing : List Effect → Type 0
AllHandNothing [] = Unit {0}
AllHandNothing (e ∷ effects) = HandsNothing e × AllHandNothing effects

nothing_keeps : (e : Effect) → HandsNothing e → KeepsAll e
nothing_keeps (Reclaimed x) hands = tt
nothing_keeps (Ended n) hands = tt
nothing_keeps (Retired x) hands = hands
nothing_keeps (Deferred n t) hands = hands
nothing_keeps (Taken t) hands = hands
nothing_keeps _ hands = tt

pub nothing_keep : (effects : List Effect) → AllHandNothing effects → AllKeep effects
nothing_keep [] all = tt
nothing_keep (e ∷ effects) all = (nothing_keeps e all.0, nothing_keep effects all.1)

calm_hands_nothing : (e : Effect) → is_calm e ≡ true → HandsNothing e
calm_hands_nothing (Retired x) is = absurd (cc is)
calm_hands_nothing (Deferred n t) is = absurd (cc is)
calm_hands_nothing (Taken t) is = absurd (cc is)
calm_hands_nothing (Reclaimed x) is = absurd (cc is)
calm_hands_nothing (Ended n) is = absurd (cc is)
calm_hands_nothing _ is = tt

pub calm_hand : (effects : List Effect) → AllCalm effects → AllHandNothing effects
calm_hand [] all = tt
calm_hand (e ∷ effects) all = (calm_hands_nothing e all.0, calm_hand effects all.1)

pub calm_keep : (effects : List Effect) → AllCalm effects → AllKeep effects
calm_keep effects all = nothing_keep effects (calm_hand effects all)

module _ {K V : Type 0} (same : K → K → Bool) (slot caller map : ℕ) (name : Option (List ℕ)) (number : ℕ → ℕ) (s : Standing K) (lawful : AreLawful same s.hash)
    (w : World (Node K V)) (sight : Visible) (is_sight : IsVisibility s.chart s.blocks sight) (is_map : IsMapIn same s.hash (in_slot s.setting slot) w s.chart (seen_by s.blocks sight))
    (m2 : Mem (Node K V)) (Told : World (Node K V) → Chart K → Blocks → Type 0)
    (went : StepSpec same s.hash (in_slot s.setting slot) caller w s.chart (seen_by s.blocks sight) m2 Told) (blocks2 : Blocks) (grown : IsGrown s.chart s.blocks went.blocks2 blocks2) (sights2 : ℕ → Visible)
    (m : Moment K V) (known : Known) (shown : RefinesMap map number s m known) (shown_blocks : RefinesBlocks m known w) (told : Changed) (left : LeavesBy w.memory m2 told) where
  abbrev effects : List Effect
  effects = effects_of (Call caller map) known told

  abbrev By : Move K → Type 0
  By = DidBy same slot caller map name number s lawful w sight is_sight is_map m2 Told went blocks2 grown sights2 m known shown shown_blocks told left

  as_these : (these : List Effect) → effects ≡ these → AllHandNothing these → AllHandNothing effects
  as_these these is all = subst AllHandNothing (sym is) all

  calm : IsCalm known effects (known_after (Call caller map) told known) → AllHandNothing effects
  calm is = calm_hand effects is.calm

  by_move : (move : Move K) → By move → AllHandNothing effects
  by_move (Links len limit) (b, own, did) = as_these _ did.0 (tt, tt)
  by_move (Stores t k j) (j2, b, own, b_is, did) = as_these _ did.0 (tt, tt)
  by_move (Replaces t i k) (n, borrowed, held, (j, b, own, b_is, did)) = as_these _ did.0 (tt, (tt, tt))
  by_move (Removes t i) (n, borrowed, held, did) = as_these _ did.0 (tt, tt)
  by_move (Puts i place t k j) (n, borrowed, held, l, seen, did) = as_these _ did.0 (tt, tt)
  by_move (PutsLate t i n) (l, seen, tables, did) = as_these _ did.0 (tt, tt)
  by_move (Promotes t) did = as_these _ did.0 (tt, tt)
  by_move (Marks i place) did = calm did
  by_move (MarksBlocking place) did = calm did
  by_move (Skips i t place) did = calm did
  by_move (Unmarks i place) did = calm did
  by_move (Covers i place) did = calm did
  by_move (Claims i t chunk) did = calm did
  by_move (Reclaims t claim) did = calm did
  by_move (Counts i t many) did = calm did
  by_move (GivesUp i t) did = calm did
  by_move (Aborts t) did = calm did
  by_move (Announces t) did = calm did

  pub moved_hand : DidMoved same slot caller map name number s lawful w sight is_sight is_map m2 Told went blocks2 grown sights2 m known shown shown_blocks told left went.moved → AllHandNothing effects
  moved_hand did = by went.moved did
    where
      by : (moved : Moved same s.hash s.setting.mode caller s.chart went.c2)
          → DidMoved same slot caller map name number s lawful w sight is_sight is_map m2 Told went blocks2 grown sights2 m known shown shown_blocks told left moved → AllHandNothing effects
      by (inl still) is_calm = calm is_calm
      by (inr made) did = by_move made.0 did
