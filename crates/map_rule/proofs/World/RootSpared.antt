-- A step whose operation is none on a root, or an exchange where none was linked yet, leaves the root of a map that has one.
use Rattle.std.specs.Prelude.{Ok, Err, Some, slice_get, slice_set}
use Rattle.std.proofs.Common.{◌≡◌, ◌≢◌, ℕ, List, [], ◌∷◌, zero, suc, ◌⊎◌, inl, inr, refl, ap, sym, subst, ◌∙◌}
use Rattle.std.proofs.lemmas.Bool.{cases_eq}
use Rattle.map_machines.specs.Given.SeizeWordsDeclared.at.At.{At}
use Rattle.map_machines.specs.Given.SeizeWordsDeclared.at.At.TheVariants.{Root, Used, Slot, Entry, Word}
use Rattle.map_machines.specs.Given.SeizeWordsMem.{Mem, value_at, word_at, with_word, after, Took}
use Rattle.map_machines.specs.Given.SeizeWordsOp.{Op, Out, Load, Store, Swap, Add, Or, Exchange, Make, Take, Rewrite, Room, Found, Stored, Exchanged, Made, Taken, Roomed}
use Rattle.map_machines.specs.Given.SeizeWordsPlan.{Plan, Turn, Do, Steps, plan_as}

-- the name of no root
abbrev pub IsNoRoot : At → Type 0
IsNoRoot (Root r) = ⊥
IsNoRoot _ = Unit {0}

-- it writes no root that is linked
abbrev pub SparesRoot : {T : Type 0} → Op T → Type 0
SparesRoot (Load at) = Unit {0}
SparesRoot (Store at new) = IsNoRoot at
SparesRoot (Swap at new) = IsNoRoot at
SparesRoot (Add at by) = IsNoRoot at
SparesRoot (Or at bits) = IsNoRoot at
SparesRoot (Exchange at old new) = IsNoRoot at ⊎ (old ≡ 0)
SparesRoot (Make value words) = Unit {0}
SparesRoot (Take block) = Unit {0}
SparesRoot (Rewrite block new) = Unit {0}
SparesRoot (Room bucket) = Unit {0}

abbrev pub PlanSparesRoot : {T R : Type 0} → Plan T R → Type 0
PlanSparesRoot (Turn rest) = Unit {0}
PlanSparesRoot (Do op rest) = SparesRoot op

pub spares_as : {T A B : Type 0} (f : A → B) (plan : Plan T A) → PlanSparesRoot plan → PlanSparesRoot (plan_as f plan)
spares_as f (Turn rest) spares = tt
spares_as f (Do op rest) spares = spares

other_root : (l : List ℕ) (i j w : ℕ) → j ≢ i → slice_get (slice_set l i w) j ≡ slice_get l j
other_root [] i j w other = refl
other_root (x ∷ l) zero zero w other = absurd (other refl)
other_root (x ∷ l) zero (suc j) w other = refl
other_root (x ∷ l) (suc i) zero w other = refl
other_root (x ∷ l) (suc i) (suc j) w other = other_root l i j w (λ e. other (ap suc e))

module _ {T : Type 0} (r : ℕ) (m : Mem T) where
  -- the root is what it was, or there was none
  abbrev pub RootStays : Mem T → Type 0
  RootStays m2 = (word_at m2 (Root r) ≡ word_at m (Root r)) ⊎ (word_at m (Root r) ≡ Some 0)

  written : (at : At) (w : ℕ) → IsNoRoot at → RootStays (with_word m at w)
  written (Root x) w none = absurd none
  written (Used x) w none = inl refl
  written (Slot x i) w none = inl refl
  written (Entry x i) w none = inl refl
  written (Word x i) w none = inl refl

  exchanged : (at : At) (old new w : ℕ) → IsNoRoot at ⊎ (old ≡ 0) → word_at m at ≡ Some w → w ≡ old → RootStays (with_word m at new)
  exchanged at old new w (inl none) read is = written at new none
  exchanged (Root x) old new w (inr empty) read is =
      elim (cases_eq r x) as (λ _. RootStays (with_word m (Root x) new)) [
        | inl e ↦ inr (ap (λ (y : ℕ). slice_get m.roots y) e ∙ read ∙ ap Some (is ∙ empty))
        | inr ne ↦ inl (other_root m.roots x r new ne)
      ]
  exchanged (Used x) old new w (inr empty) read is = inl refl
  exchanged (Slot x i) old new w (inr empty) read is = inl refl
  exchanged (Entry x i) old new w (inr empty) read is = inl refl
  exchanged (Word x i) old new w (inr empty) read is = inl refl

  op_stays : (op : Op T) (out : Out T) (m2 : Mem T) → SparesRoot op → Took m op out m2 → RootStays m2
  op_stays op out m2 spares took = subst RootStays (sym took.1) (by op out spares took)
    where
      by : (op : Op T) (out : Out T) → SparesRoot op → Took m op out m2 → RootStays (after m op out)
      by (Load at) out spares took = inl refl
      by (Store at new) out spares took = written at new spares
      by (Swap at new) out spares took = written at new spares
      by (Add at more) (Found w) spares took = written at _ spares
      by (Add at more) Stored spares took = inl refl
      by (Add at more) (Exchanged r) spares took = inl refl
      by (Add at more) (Made r) spares took = inl refl
      by (Add at more) (Taken value) spares took = inl refl
      by (Add at more) (Roomed r) spares took = inl refl
      by (Or at bits) (Found w) spares took = written at _ spares
      by (Or at bits) Stored spares took = inl refl
      by (Or at bits) (Exchanged r) spares took = inl refl
      by (Or at bits) (Made r) spares took = inl refl
      by (Or at bits) (Taken value) spares took = inl refl
      by (Or at bits) (Roomed r) spares took = inl refl
      by (Exchange at old new) (Found w) spares took = inl refl
      by (Exchange at old new) Stored spares took = inl refl
      by (Exchange at old new) (Exchanged (Ok w)) spares took = exchanged at old new w spares took.0.0 took.0.1
      by (Exchange at old new) (Exchanged (Err w)) spares took = inl refl
      by (Exchange at old new) (Made r) spares took = inl refl
      by (Exchange at old new) (Taken value) spares took = inl refl
      by (Exchange at old new) (Roomed r) spares took = inl refl
      by (Make value words) (Found w) spares took = inl refl
      by (Make value words) Stored spares took = inl refl
      by (Make value words) (Exchanged r) spares took = inl refl
      by (Make value words) (Made (Ok b)) spares took = inl refl
      by (Make value words) (Made (Err back)) spares took = inl refl
      by (Make value words) (Taken value2) spares took = inl refl
      by (Make value words) (Roomed r) spares took = inl refl
      by (Take block) out spares took = inl refl
      by (Rewrite block new) out spares took = inl refl
      by (Room bucket) (Found w) spares took = inl refl
      by (Room bucket) Stored spares took = inl refl
      by (Room bucket) (Exchanged r) spares took = inl refl
      by (Room bucket) (Made r) spares took = inl refl
      by (Room bucket) (Taken value) spares took = inl refl
      by (Room bucket) (Roomed (Ok made)) spares took = inl refl
      by (Room bucket) (Roomed (Err fault)) spares took = inl refl

  pub step_stays : {R : Type 0} (plan : Plan T R) (m2 : Mem T) (end : R) → PlanSparesRoot plan → Steps Took value_at m plan m2 end → RootStays m2
  step_stays (Turn rest) m2 end spares s = inl (ap (λ (n : Mem T). word_at n (Root r)) s.0)
  step_stays (Do op rest) m2 end spares s = op_stays op s.0 m2 spares s.1
