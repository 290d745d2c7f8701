-- What is left over is told as before, as long as effects are all that the moment has more. So it is before all events.
use Rattle.std.specs.Prelude.{◌==◌, ◌++◌, List, [], ◌∷◌, map, replicate, slice_get, Option, Some, None, if◌then◌else◌}
use Rattle.std.proofs.Common.{◌≡◌, ◌≤◌, ◌<◌, ℕ, Bool, true, false, inr, refl, ap, sym, subst, ◌∙◌, arith}
use Rattle.std.proofs.lemmas.List.{get_or-replicate, length-replicate}
use Rattle.std.proofs.lemmas.Option.{slice_get-get_or}
use Rattle.run_debts.specs.Given.SeizeWorld.{World}
use Rattle.run_debts.specs.Given.TablesDeclared.node.Node.{Node}
use Rattle.run_debts.specs.Given.RunsLifeCycle.{times}
use Rattle.run_debts.specs.Given.RunsDeclared.effect.Effect.{Effect}
use Rattle.run_debts.specs.Given.RunsDeclared.effect.Effect.TheVariants.{Promoted}
use Rattle.run_debts.specs.Given.RunsDeclared.effect.TableId.{TableId}
use Rattle.run_debts.specs.Given.SchedulesBeginning.{used_roots}
use Rattle.run_debts.specs.Given.SchedulesEffects.{maps_by, promoted, with_effect, with_effects}
use Rattle.run_debts.specs.Given.SchedulesLists.{is_among}
use Rattle.run_debts.specs.Given.SchedulesMoment.{MapThere, Remains, Moment}
use Rattle.run_debts.specs.Given.EffectsKnown.{Known}
use Rattle.run_debts.specs.Given.EffectsDeclared.role.Role.TheVariants as role
use Rattle.run_debts.specs.Given.FinishesEndings.{Finishing}
use Rattle.run_debts.specs.Given.FinishesMakings.{Beginning}
use Rattle.run_debts.specs.Given.FinishesMaps.{Standing}
use Rattle.run_debts.specs.Given.ReclaimsLeft.{LeftWithEndings}
use Rattle.run_debts.proofs.Given.ReclaimsBehind.Kept.{in_all}
use Rattle.run_debts.proofs.Given.ReclaimsLeft.Stays.{nothing_is_left}
use Rattle.run_waiting.specs.Remains.Remains.{AscendFrom, LeftNoted, RefinesRemains, left_at, map_roots}
use Rattle.run_waiting.specs.Remains.Steps.{BeginsRemain, StaysRemain}
use Rattle.run_waiting.proofs.Lives.Order.{noted_still}
use Rattle.run_debts.specs.Given.ScenesScene.{Scene, at_first}

-- a map whose root's table is another one has its root
root_same : (t : TableId) (f : MapThere) → (promoted t f).root ≡ f.root
root_same t f = by (f.number == t.map)
  where
    by : (q : Bool) → (if q then record f { first = t.turn } else f).root ≡ f.root
    by true = refl
    by false = refl

roots_promoted : (t : TableId) (fs : List MapThere) → map (λ f. f.root) (map (promoted t) fs) ≡ map (λ f. f.root) fs
roots_promoted t [] = refl
roots_promoted t (f ∷ fs) = ap (λ (r : ℕ). r ∷ map (λ g. g.root) (map (promoted t) fs)) (root_same t f) ∙ ap (λ (rs : List ℕ). f.root ∷ rs) (roots_promoted t fs)

one_roots : (f : Effect) (fs : List MapThere) → map (λ g. g.root) (maps_by f fs) ≡ map (λ g. g.root) fs
one_roots (Promoted t) fs = roots_promoted t fs
one_roots _ fs = refl

module _ {K V : Type 0} where
  pub roots_stay : (caller : Option (List ℕ)) (acted : Option ℕ) (effects : List Effect) (m : Moment K V) → map_roots (with_effects caller acted effects m) ≡ map_roots m
  roots_stay caller acted [] m = refl
  roots_stay caller acted (f ∷ effects) m = roots_stay caller acted effects (with_effect caller acted f m) ∙ one_roots f m.maps

  pub remains_stay : (caller : Option (List ℕ)) (acted : Option ℕ) (effects : List Effect) (m : Moment K V) → (with_effects caller acted effects m).remains ≡ m.remains
  remains_stay caller acted [] m = refl
  remains_stay caller acted (f ∷ effects) m = remains_stay caller acted effects (with_effect caller acted f m)

  pub used_then : (m v : Moment K V) → map_roots v ≡ map_roots m → v.remains ≡ m.remains → used_roots v ≡ used_roots m
  used_then m v maps remains = ap (λ (rs : List ℕ). rs ++ map (λ x. x.root) v.remains) maps ∙ ap (λ (xs : List Remains). map_roots m ++ map (λ x. x.root) xs) remains

  -- where the same lists are behind the roots still
  pub goes_on : (roots : ℕ) (m v : Moment K V) (known known2 : Known) (s t : Scene K V) (shows : RefinesRemains roots m known s) → LeftNoted known known2 s.world t.world → map_roots v ≡ map_roots m
      → v.remains ≡ m.remains → LeftWithEndings roots t.world t.maps t.makers t.enders shows.lists → ((j : ℕ) (f : Finishing K V) → t.enders j ≡ Some f → is_among f.setting.root (map_roots m) ≡ true)
      → RefinesRemains roots v known2 t
  goes_on roots m v known known2 s t shows noted maps remains left ending = record {
    lists = shows.lists;
    left = left;
    told = λ r l none. ap (λ (xs : List Remains). is_among r (map (λ x. x.root) xs)) remains ∙ shows.told r l (ap (is_among r) (sym maps) ∙ none);
    pairs = λ r l none.
        noted_still known known2 (shows.lists r) (left_at r v.remains)
        (shows.pairs r l (ap (is_among r) (sym maps) ∙ none) ∙ ap (λ (xs : List Remains). map role.Pair (left_at r xs)) (sym remains))
        (λ b n some is. (let in_them = in_all shows.lists r roots b l in noted b n is (shows.left.left b (omega (arith, some, in_them))) (left.left b (omega (arith, some, in_them)))));
    ascending = subst (AscendFrom 0) (sym remains) shows.ascending;
    once = λ r. subst (λ (xs : List ℕ). times r xs ≤ 1) (sym used) (shows.once r);
    below = λ r is. shows.below r (ap (is_among r) (sym used) ∙ is);
    ending = λ j f is. ap (is_among f.setting.root) maps ∙ ending j f is;
  }
    where
      used : used_roots v ≡ used_roots m
      used = used_then m v maps remains

zero_at : (n r : ℕ) → r < n → slice_get {X = ℕ} (replicate n 0) r ≡ Some 0
zero_at n r l = slice_get-get_or {X = ℕ} (replicate n 0) r 0 (omega (arith, l, length-replicate {A = ℕ} n 0)) ∙ ap (λ (x : ℕ). Some x) (get_or-replicate {A = ℕ} n r 0 0 l)

pub begins_remain : (K V : Type 0) → BeginsRemain K V
begins_remain K V roots = record {
  lists = λ r. [];
  left = nothing_is_left K V roots (at_first {K = K} {V = V} roots).world (λ m. None) (λ i. None) (λ i. None) (λ r l. inr (zero_at roots r l, zero_at roots r l));
  told = λ r l none. refl;
  pairs = λ r l none. refl;
  ascending = tt;
  once = λ r. omega arith;
  below = λ r is. absurd (cc is);
  ending = λ j f is. absurd (cc is);
}

pub stays_remain : (K V : Type 0) → StaysRemain K V
stays_remain K V roots m v known s t shows maps remains world standing makers enders =
    goes_on roots m v known known s t shows (λ b n is before after. is) maps remains
    (subst (λ (x : World (Node K V)). LeftWithEndings roots x t.maps t.makers t.enders shows.lists) (sym world)
    (subst (λ (x : ℕ → Option (Standing K)). LeftWithEndings roots s.world x t.makers t.enders shows.lists) (sym standing)
    (subst (λ (x : ℕ → Option (Beginning K)). LeftWithEndings roots s.world s.maps x t.enders shows.lists) (sym makers)
    (subst (λ (x : ℕ → Option (Finishing K V)). LeftWithEndings roots s.world s.maps s.makers x shows.lists) (sym enders) shows.left))))
    (λ j f is. shows.ending j f (ap (λ (g : ℕ → Option (Finishing K V)). g j) (sym enders) ∙ is))
