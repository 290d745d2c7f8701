-- Pairs lie where they lay, where effects leave them so and no map has changed.
use Rattle.std.specs.Prelude.{◌≡◌, ℕ, ◌≤◌, List, Option, Some, None}
use Rattle.std.proofs.Common.{refl, ap, sym, subst, ◌∙◌, arith}
use Rattle.run_shows.specs.Given.TablesChunks.{is_incremental}
use Rattle.run_shows.specs.Given.RunsDeclared.effect.Effect.{Effect}
use Rattle.run_shows.specs.Given.RunsDeclared.effect.Spot.{Spot}
use Rattle.run_shows.specs.Given.RunsDeclared.effect.TableId.{TableId}
use Rattle.run_shows.specs.Given.SchedulesEffects.{with_effects}
use Rattle.run_shows.specs.Given.SchedulesMoment.{Moment}
use Rattle.run_shows.specs.Given.RuleWords.{Blocks}
use Rattle.run_shows.specs.Given.CallersSights.{Visible, IsPartOf}
use Rattle.run_shows.specs.Given.FinishesMaps.{Standing, IsSameMap}
use Rattle.run_shows.specs.Given.EffectsKnown.{Known}
use Rattle.run_shows.specs.Given.EffectsDeclared.role.Role.TheVariants as role
use Rattle.run_places.specs.Spots.Spots.{LiesAt, IsCopiedTo, IsPairOf, RefinesSpots, RefinesPlaces}
use Rattle.run_places.proofs.Spots.Effects.{AllAside, AreAside, aside_all}
use Rattle.run_places.proofs.Spots.Elsewhere.{stored_grows}

-- what is a pair was it
abbrev pub WerePairs : Known → Known → Type 0
WerePairs known known2 = (b k : ℕ) → known2.roles b ≡ role.Pair k → known.roles b ≡ role.Pair k

module _ {K V : Type 0} (m v : Moment K V) (known known2 : Known) (aside : AreAside m v) (back : WerePairs known known2) where
  -- a map of which less may be looked at
  part_lies : (s : Standing K) (blocks : Blocks) (sights : ℕ → Visible) → IsPartOf s.chart blocks s.blocks → RefinesSpots s m known → RefinesSpots (record s { blocks = blocks; sights = sights }) v known2
  part_lies s blocks sights part h = record {
    born = λ n k t i b pair e. subst (λ (f : ℕ → TableId). (f k).turn ≤ t) (sym aside.born) (h.born n k t i b (was n k pair) e);
    whole = h.whole;
    lies = λ n k pair current.
        subst (λ (f : ℕ → TableId). LiesAt s.chart (is_incremental s.setting.mode) n (v.spot k) (f k).turn) (sym aside.born)
        (subst (λ (f : ℕ → Spot). LiesAt s.chart (is_incremental s.setting.mode) n (f k) (m.born k).turn) (sym aside.spot) (h.lies n k (was n k pair) current));
    copied = λ e n k pair current. subst (λ (f : ℕ → Spot). IsCopiedTo s.chart n (f k)) (sym aside.copy) (h.copied e n k (was n k pair) current);
  }
    where
      was : (n k : ℕ) → IsPairOf (record s { blocks = blocks; sights = sights }) known2 n k → IsPairOf s known n k
      was n k (l, seen, is) = (l, part.pairs_known n l seen, ap known.roles (sym (part.pairs n)) ∙ back (blocks.pair n) k is)

  same_lies : (o after : Option (Standing K)) → IsSameMap o after → (st : Standing K) → after ≡ Some st → ((before : Standing K) → o ≡ Some before → RefinesSpots before m known) → RefinesSpots st v known2
  same_lies None after none st is had = absurd (cc (none, is))
  same_lies (Some before) after (blocks, sights, here, part) st is had =
      let one : record before { blocks = blocks; sights = sights } ≡ st = some_is (record before { blocks = blocks; sights = sights }) st (sym here ∙ is) in
      subst (λ (x : Standing K). RefinesSpots x v known2) one (part_lies before blocks sights part (had before refl))
    where
      some_is : (x y : Standing K) → ◌≡◌ {A = Option (Standing K)} (Some x) (Some y) → x ≡ y
      some_is x y e = cc e

module _ {K V : Type 0} (caller : Option (List ℕ)) (acted : Option ℕ) (effects : List Effect) (m : Moment K V) (known known2 : Known) (maps maps2 : ℕ → Option (Standing K)) where
  pub places_stay : AllAside effects → WerePairs known known2 → ((n : ℕ) → IsSameMap (maps n) (maps2 n)) → RefinesPlaces m known maps → RefinesPlaces (with_effects caller acted effects m) known2 maps2
  places_stay all back same h =
      let aside = aside_all caller acted effects m all in
      let more = stored_grows caller acted effects m in
      record {
        each = λ map st is. same_lies m (with_effects caller acted effects m) known known2 aside back (maps map) (maps2 map) (same map) st is (λ before e. h.each map before e);
        fresh = λ k l. ap (λ (f : ℕ → Spot). f k) aside.copy ∙ h.fresh k (omega (arith, more, l));
      }
