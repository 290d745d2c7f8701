-- What an open section holds it goes on holding, through all effects but its end and that of the owner.
use Rattle.std.specs.Prelude.{if◌then◌else◌}
use Rattle.std.proofs.Common.{◌≡◌, ℕ, ◌+◌, ◌≤◌, Bool, true, false, List, [], ◌∷◌, ◌++◌, ◌⊎◌, inl, inr, refl, arith, ap, sym, subst, ◌∙◌}
use Rattle.seize.specs.Law.{Effect, Entered, Left, Made, Linked, Unlinked, Deferred, Retired, Taken, Dropped, Ended, LeftOver, holds, is_over, owner_of, IsSound}
use Rattle.seize_model.proofs.Given.SeizeMovesState.Held.{held_on, held_beside}
use Rattle.seize_model.proofs.Given.SeizeRuleRows.Effects.{IsOneStep}
use Rattle.seize_acts.specs.Acts.Stays.{how_many, is_end_of, is_end_of_owner, is_making_of}

-- what stays of the log: the section holds the block, which is not over, and is the same
pub record Stays (s b : ℕ) (log log2 : List Effect) : Type 0 where
  pub held : holds s b log2 ≡ true
  pub not_over : is_over b log2 ≡ false
  pub owner : owner_of b log2 ≡ owner_of b log
  pub made : how_many (is_making_of b) log2 ≡ how_many (is_making_of b) log

-- what is linked is such a block
abbrev pub LinksOnly : (ℕ → Type 0) → Effect → Type 0
LinksOnly such (Linked c o) = such c
LinksOnly such _ = Unit {0}

-- what an event adds to the log: at most one effect
abbrev pub Adds : (ℕ → Type 0) → List Effect → List Effect → Type 0
Adds such log log2 = (log2 ≡ log) ⊎ ((e : Effect) × (log2 ≡ e ∷ log) × LinksOnly such e)

pub how_many_grows : (such : ℕ → Type 0) (is : Effect → Bool) (log log2 : List Effect) → Adds such log log2 → how_many is log ≤ how_many is log2
how_many_grows such is log log2 (inl same) = subst (λ (l : List Effect). how_many is log ≤ how_many is l) (sym same) (omega arith)
how_many_grows such is log log2 (inr one) = subst (λ (l : List Effect). how_many is log ≤ how_many is l) (sym one.1) (by (is one.0))
  where
    by : (y : Bool) → how_many is log ≤ (if y then 1 + how_many is log else how_many is log)
    by true = omega arith
    by false = omega arith

module _ (s b : ℕ) where
  abbrev Another : ℕ → Type 0
  Another c = b ≡ c → ⊥

  -- through one effect that ends neither the section nor the owner
  effect_stays : (e : Effect) (log : List Effect) → IsSound (e ∷ log) → LinksOnly Another e → holds s b log ≡ true → is_over b log ≡ false
      → is_end_of s e ≡ false → is_end_of_owner (owner_of b log) e ≡ false → Stays s b log (e ∷ log)
  effect_stays (Entered t) log sound other h over on owned = record { held = held_on s b (Entered t) log tt h; not_over = over; owner = refl; made = refl }
  effect_stays (Left t) log sound other h over on owned = record { held = held_on s b (Left t) log (λ e. grind (arith, on, e)) h; not_over = over; owner = refl; made = refl }
  effect_stays (Made c) log sound other h over on owned = record { held = held_on s b (Made c) log tt h; not_over = over; owner = refl; made = grind (arith, h, sound.0 s) }
  effect_stays (Linked c o) log sound other h over on owned =
      record { held = held_on s b (Linked c o) log tt h; not_over = grind (arith, other, over); owner = grind (arith, other); made = refl }
  effect_stays (Unlinked c) log sound other h over on owned = record { held = held_on s b (Unlinked c) log tt h; not_over = over; owner = refl; made = refl }
  effect_stays (Deferred c t) log sound other h over on owned = record { held = held_on s b (Deferred c t) log tt h; not_over = over; owner = refl; made = refl }
  effect_stays (Retired c) log sound other h over on owned = record { held = held_on s b (Retired c) log tt h; not_over = over; owner = refl; made = refl }
  effect_stays (Taken c) log sound other h over on owned = record { held = held_on s b (Taken c) log tt h; not_over = over; owner = refl; made = refl }
  effect_stays (Dropped c) log sound other h over on owned = record { held = held_beside s b c log another h; not_over = over; owner = refl; made = refl }
    where
      another : b ≡ c → ⊥
      another e = elim sound.1 as (λ _. ⊥) [
        | inl gone ↦ cc (subst (λ (d : ℕ). is_over d log ≡ true) (sym e) gone, over)
        | inr free ↦ cc (subst (λ (d : ℕ). holds s d log ≡ false) (sym e) (free s), h)
      ]
  effect_stays (Ended o) log sound other h over on owned = record { held = held_on s b (Ended o) log tt h; not_over = grind (arith, owned, over); owner = refl; made = refl }
  effect_stays (LeftOver c further) log sound other h over on owned = record { held = held_on s b (LeftOver c further) log tt h; not_over = over; owner = refl; made = refl }

  same_stays : (log log2 : List Effect) → log2 ≡ log → holds s b log ≡ true → is_over b log ≡ false → Stays s b log log2
  same_stays log log2 is h over = subst (λ (l : List Effect). Stays s b log l) (sym is) (record { held = h; not_over = over; owner = refl; made = refl })

  none_added : (such : Effect → Bool) (e : Effect) (log : List Effect) → how_many such (e ∷ log) ≡ how_many such log → such e ≡ false
  none_added such e log same = by (such e) same
    where
      by : (y : Bool) → (if y then 1 + how_many such log else how_many such log) ≡ how_many such log → y ≡ false
      by true k = absurd (omega (arith, k))
      by false k = refl

  pub adds_stays : (log log2 : List Effect) → IsSound log2 → Adds Another log log2 → holds s b log ≡ true → is_over b log ≡ false
      → how_many (is_end_of s) log2 ≡ how_many (is_end_of s) log
      → how_many (is_end_of_owner (owner_of b log)) log2 ≡ how_many (is_end_of_owner (owner_of b log)) log → Stays s b log log2
  adds_stays log log2 sound (inl same) h over on owned = same_stays log log2 same h over
  adds_stays log log2 sound (inr one) h over on owned =
      subst (λ (l : List Effect). Stays s b log l) (sym one.1)
      (effect_stays one.0 log (subst (λ (l : List Effect). IsSound l) one.1 sound) one.2 h over
      (none_added (is_end_of s) one.0 log (ap (how_many (is_end_of s)) (sym one.1) ∙ on))
      (none_added (is_end_of_owner (owner_of b log)) one.0 log (ap (how_many (is_end_of_owner (owner_of b log))) (sym one.1) ∙ owned)))

-- a step of a row adds at most one, and links nothing
pub row_adds : (such : ℕ → Type 0) (effects log log2 : List Effect) → IsOneStep effects → log2 ≡ effects ++ log → Adds such log log2
row_adds such [] log log2 one is = inl is
row_adds such (e ∷ f ∷ effects) log log2 one is = absurd one
row_adds such (Entered s ∷ []) log log2 one is = inr (Entered s, is, tt)
row_adds such (Left s ∷ []) log log2 one is = inr (Left s, is, tt)
row_adds such (Retired c ∷ []) log log2 one is = inr (Retired c, is, tt)
row_adds such (Taken c ∷ []) log log2 one is = inr (Taken c, is, tt)
row_adds such (Made c ∷ []) log log2 one is = absurd one
row_adds such (Linked c o ∷ []) log log2 one is = absurd one
row_adds such (Unlinked c ∷ []) log log2 one is = absurd one
row_adds such (Deferred c t ∷ []) log log2 one is = absurd one
row_adds such (Dropped c ∷ []) log log2 one is = absurd one
row_adds such (Ended o ∷ []) log log2 one is = absurd one
row_adds such (LeftOver c further ∷ []) log log2 one is = absurd one
