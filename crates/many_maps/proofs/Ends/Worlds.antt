-- The worlds that the end of a map leads to: a block is unlinked, left over with others, or taken away.
use Rattle.std.specs.Prelude.{◌≢◌, None, ◌==◌, ◌||◌, if◌then◌else◌}
use Rattle.std.proofs.Common.{◌≡◌, ℕ, ◌<◌, Bool, true, false, cond, eqb, List, [], ◌∷◌, refl, arith, ap, subst, ◌∙◌, eqb-true}
use Rattle.std.proofs.lemmas.Bool.{eq-eqb, ne_eqb, eqb-false}
use Rattle.many_calls.specs.Given.SeizeWordsMem.{with_block}
use Rattle.many_calls.specs.Given.SeizeLaw.{Nowhere, Standing, Unlinked, Dropped, LeftOver, Place, With, where_is, holds, without}
use Rattle.many_calls.specs.Given.SeizeWaitingSets.{is_one_of}
use Rattle.many_calls.specs.Given.SeizeWorld.{World, NoBlock, Cutting, LeftTo, times, with_at, all_left_to, with_hand, with_effect}
use Rattle.many_maps.proofs.Ends.CountedBlocks.{times_here, times_other}
use Rattle.many_calls.proofs.Together.At.{at_other as hand_other}

-- one of a list stands there
pub one_of : (x : ℕ) (l : List ℕ) → 0 < times x l → is_one_of x l ≡ true
one_of x [] some = absurd (omega (arith, some))
one_of x (y ∷ l) some = by (x == y) refl (one_of x l)
  where
    by : (t : Bool) → (x == y) ≡ t → (0 < times x l → is_one_of x l ≡ true) → (t || is_one_of x l) ≡ true
    by true e k = refl
    by false e k = k (let a = times_other x y l (eqb-false x y e) in omega (arith, a, some))

pub none_of : (x : ℕ) (l : List ℕ) → times x l ≡ 0 → is_one_of x l ≡ false
none_of x [] none = refl
none_of x (y ∷ l) none = by (x == y) refl (none_of x l)
  where
    by : (t : Bool) → (x == y) ≡ t → (times x l ≡ 0 → is_one_of x l ≡ false) → (t || is_one_of x l) ≡ false
    by true e k = absurd (let a = subst (λ (z : ℕ). times z (y ∷ l) ≡ 0) (eqb-true x y e) none in let b = times_here y l in omega (arith, a, b))
    by false e k = k (let a = times_other x y l (eqb-false x y e) in omega (arith, a, none))

without_other : (b : ℕ) (p : Place) → p ≢ With b → without b p ≡ p
without_other b p ne = by p ne
  where
    open_place : (p : Place) → p ≢ With b → without b p ≡ p
    open_place p ne = grind (arith, ne)

    by : (p : Place) → p ≢ With b → without b p ≡ p
    by p ne = open_place p ne

-- nothing comes behind a block by that
without_behind : (b d : ℕ) (p : Place) → without b p ≡ With d → p ≡ With d
without_behind b d Nowhere e = absurd (cc e)
without_behind b d Standing e = absurd (cc e)
without_behind b d (With t) e = by (eqb t b) e
  where
    by : (q : Bool) → cond q Nowhere (With t) ≡ With d → With t ≡ With d
    by true k = absurd (cc k)
    by false k = k

gone_behind : (q : Bool) (d : ℕ) (p : Place) → cond q Nowhere p ≡ With d → p ≡ With d
gone_behind true d p e = absurd (cc e)
gone_behind false d p e = e

module _ {T : Type 0} (w : World T) (caller b : ℕ) where
  -- the world in which it is unlinked
  abbrev pub cut : World T
  cut = with_effect (with_hand w b (Cutting caller)) (Unlinked b)

  -- and left over, with these
  abbrev pub over : List ℕ → World T
  over further = with_effect (record cut { hand = all_left_to caller (b ∷ further) cut.hand }) (LeftOver b further)

  -- one that was left over is taken away
  abbrev pub away : World T
  away = with_effect (with_hand (record w { memory = with_block w.memory b None }) b NoBlock) (Dropped b)

  -- what isn't among them
  module _ (further : List ℕ) (x : ℕ) (apart : times x (b ∷ further) ≡ 0) where
    apart_first : x ≢ b
    apart_first e = let a = subst (λ (z : ℕ). times z (b ∷ further) ≡ 0) e apart in let k = times_here b further in omega (arith, a, k)

    pub over_hand : (over further).hand x ≡ w.hand x
    over_hand = ap (λ (t : Bool). if t then LeftTo caller else with_at w.hand b (Cutting caller) x) (none_of x (b ∷ further) apart) ∙ hand_other w.hand b (Cutting caller) x apart_first

  pub over_place : (further : List ℕ) (x : ℕ) → x ≢ b → where_is x w.log ≢ With b → where_is x (over further).log ≡ where_is x w.log
  over_place further x other ne = ap (λ (t : Bool). cond t Nowhere (without b (where_is x w.log))) (ne_eqb x b other) ∙ without_other b (where_is x w.log) ne

  pub over_behind : (further : List ℕ) (x d : ℕ) → where_is x (over further).log ≡ With d → where_is x w.log ≡ With d
  over_behind further x d e = without_behind b d (where_is x w.log) (gone_behind (eqb x b) d (without b (where_is x w.log)) e)

  -- what is among them
  pub over_left : (further : List ℕ) (x : ℕ) → 0 < times x (b ∷ further) → (over further).hand x ≡ LeftTo caller
  over_left further x some = ap (λ (t : Bool). if t then LeftTo caller else with_at w.hand b (Cutting caller) x) (one_of x (b ∷ further) some)

  -- once it is taken away no section holds it
  pub away_free : (s : ℕ) → holds s b away.log ≡ false
  away_free s = ap (λ (t : Bool). cond t false (holds s b w.log)) (eq-eqb b b refl)

  pub away_place : (x : ℕ) → x ≢ b → where_is x away.log ≡ where_is x w.log
  away_place x ne = ap (λ (t : Bool). cond t Nowhere (where_is x w.log)) (ne_eqb x b ne)

  pub away_behind : (x d : ℕ) → where_is x away.log ≡ With d → where_is x w.log ≡ With d
  away_behind x d e = gone_behind (eqb x b) d (where_is x w.log) e

  pub away_held : (s x : ℕ) → x ≢ b → holds s x away.log ≡ holds s x w.log
  away_held s x ne = ap (λ (t : Bool). cond t false (holds s x w.log)) (ne_eqb x b ne)
