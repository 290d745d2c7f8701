-- What effects find of places, by which of them an operation has together: a single one that stores finds a call that replaces nothing, and a single one that brings the root on, none left behind.
use Rattle.std.specs.Prelude.{◌≡◌, ℕ, true, List, [], ◌∷◌, Option, Some, None}
use Rattle.std.proofs.Common.{refl, ap, sym, subst, ◌∙◌}
use Rattle.run_executor.specs.Given.RunsDeclared.effect.Effect.{Effect}
use Rattle.run_executor.specs.Given.RunsDeclared.effect.Effect.TheVariants as effect
use Rattle.run_executor.specs.Given.RunsDeclared.effect.Growth.TheVariants.{ABlock}
use Rattle.run_executor.specs.Given.RunsDeclared.effect.Spot.{Spot}
use Rattle.run_executor.specs.Given.RunsDeclared.effect.TableId.{TableId}
use Rattle.run_executor.specs.Given.SchedulesEffects.{call_by, with_effect}
use Rattle.run_executor.specs.Given.SchedulesEntry.{ByCall}
use Rattle.run_executor.specs.Given.SchedulesGrowing.{none_before}
use Rattle.run_executor.specs.Given.SchedulesHanding.{is_made}
use Rattle.run_executor.specs.Given.SchedulesLives.{IsFreeFor}
use Rattle.run_executor.specs.Given.SchedulesMoment.{UnderWay as CallThere, Moment}
use Rattle.run_executor.specs.Given.SchedulesThings.{same_spot}
use Rattle.run_executor.specs.Given.SchedulesViews.{call_of}
use Rattle.run_executor.proofs.Given.FollowsAlike.{AllCalm}
use Rattle.run_executor.proofs.Given.FollowsRows.{HandsOn, IsStill, Puts, Retires}
use Rattle.run_blocks.proofs.Owes.Fields.{its_effect}
use Rattle.run_executor.specs.Given.SpotsPlaced.{FindPlaces}
use Rattle.run_executor.proofs.Given.SpotsEffects.{aside_all}
use Rattle.run_finds.specs.Parts.{FindsPlace, FindsAhead, FindPlacesOf, FindAhead}
use Rattle.run_blocks.proofs.Owes.Shapes.{Shaped, TellsNothing, TellsOne, TellsOver, TellsMade}

module _ {K V : Type 0} (own : List ℕ) (map : ℕ) (m : Moment K V) (c : CallThere K V) (c_is : call_of own m ≡ Some c) where
  -- what is made finds nothing of places
  made_placed : (f : Effect) → is_made f ≡ true → (v : Moment K V) (d : CallThere K V) → FindsPlace map v f d
  made_placed effect.PairMade e v d = tt
  made_placed (effect.TableMade t) e v d = tt
  made_placed _ e v d = absurd (cc e)

  made_ahead : (f : Effect) → is_made f ≡ true → (v : Moment K V) → FindsAhead map v f
  made_ahead effect.PairMade e v = tt
  made_ahead (effect.TableMade t) e v = tt
  made_ahead _ e v = absurd (cc e)

  one_placed : (f : Effect) → ((n : ℕ) (s : Spot) → f ≡ effect.Stored n s → c.replacing ≡ None) → FindPlaces map m (f ∷ []) → FindsPlace map m f c
  one_placed (effect.Copied n s) none finds = finds
  one_placed (effect.Stored n s) none finds = subst (λ (o : Option ℕ). IsFreeFor o map s m) (sym (none n s refl)) finds
  one_placed _ none finds = tt

  one_ahead : (f : Effect) → ((t : TableId) → f ≡ effect.Promoted t → none_before map t.turn m ≡ true) → FindsAhead map m f
  one_ahead (effect.Promoted t) none = none t refl
  one_ahead _ none = tt

  -- where the pair lies that is replaced, it lies as the other is stored
  over_placed : (p n : ℕ) (s : Spot) → same_spot (m.spot p) s ≡ true → FindsPlace map (with_effect (Some own) (Some map) (effect.Replaced p) m) (effect.Stored n s) (call_by m (effect.Replaced p) c)
  over_placed p n s is = ap (λ (spot : ℕ → Spot). same_spot (spot p) s) (aside_all (Some own) (Some map) (effect.Replaced p ∷ []) m (refl, tt)).spot ∙ is

  pub placed_all : (effects : List Effect) → Shaped effects → ((n : ℕ) (s : Spot) → effects ≡ effect.Stored n s ∷ [] → c.replacing ≡ None) → FindPlaces map m effects → FindPlacesOf own map effects m
  placed_all _ TellsNothing none finds = tt
  placed_all _ (TellsOne f of_call) none finds = (
    subst (ByCall (FindsPlace map m f)) (sym c_is) (one_placed f (λ n s e. none n s (ap (λ (x : Effect). x ∷ []) e)) finds),
    tt,
  )
  placed_all _ (TellsOver p n s) none finds = (
    subst (ByCall (FindsPlace map m (effect.Replaced p))) (sym c_is) tt,
    (
      subst (ByCall (FindsPlace map (with_effect (Some own) (Some map) (effect.Replaced p) m) (effect.Stored n s))) (sym (its_effect own map (effect.Replaced p) m c c_is)) (over_placed p n s finds),
      tt,
    ),
  )
  placed_all _ (TellsMade f made) none finds = (
    subst (ByCall (FindsPlace map m (effect.Asked ABlock))) (sym c_is) tt,
    (
      subst (ByCall (FindsPlace map (with_effect (Some own) (Some map) (effect.Asked ABlock) m) f)) (sym (its_effect own map (effect.Asked ABlock) m c c_is))
          (made_placed f made (with_effect (Some own) (Some map) (effect.Asked ABlock) m) (call_by m (effect.Asked ABlock) c)),
      tt,
    ),
  )

  pub ahead_all : (effects : List Effect) → Shaped effects → ((t : TableId) → effects ≡ effect.Promoted t ∷ [] → none_before map t.turn m ≡ true) → FindAhead own map effects m
  ahead_all _ TellsNothing none = tt
  ahead_all _ (TellsOne f of_call) none = (one_ahead f (λ t e. none t (ap (λ (x : Effect). x ∷ []) e)), tt)
  ahead_all _ (TellsOver p n s) none = (tt, (tt, tt))
  ahead_all _ (TellsMade f made) none = (tt, (made_ahead f made (with_effect (Some own) (Some map) (effect.Asked ABlock) m), tt))

-- a row stores no pair, and brings no root on
pub rows_store_none : (effects : List Effect) → HandsOn effects → (n : ℕ) (s : Spot) → effects ≡ effect.Stored n s ∷ [] → ⊥
rows_store_none _ (IsStill effects calm) n s e = let one = subst AllCalm e calm in cc (one.0)
rows_store_none _ (Puts k t) n s e = cc e
rows_store_none _ (Retires x) n s e = cc e

pub rows_promote_none : (effects : List Effect) → HandsOn effects → (t : TableId) → effects ≡ effect.Promoted t ∷ [] → ⊥
rows_promote_none _ (IsStill effects calm) t e = let one = subst AllCalm e calm in cc (one.0)
rows_promote_none _ (Puts k u) t e = cc e
rows_promote_none _ (Retires x) t e = cc e
