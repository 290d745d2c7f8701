-- What operations write of an entry: a word of it that is 0 is so still, unless it is written.
use Rattle.std.specs.Prelude.{Some, None, IsSome, Ok, if◌then◌else◌, bit_or}
use Rattle.std.proofs.Common.{◌≡◌, ℕ, ◌+◌, ◌%◌, ◌^◌, Bool, true, false, cond, eqb, refl, arith, ap, ◌∙◌}
use Rattle.run_places.specs.Given.SeizeWordsDeclared.at.At.{At}
use Rattle.run_places.specs.Given.SeizeWordsDeclared.at.At.TheVariants as name
use Rattle.run_places.specs.Given.SeizeWordsOp.{Op, Out, Load, Store, Swap, Add, Or, Exchange, Make, Take, Rewrite, Room, Found, Exchanged, Made, Roomed}
use Rattle.run_places.specs.Given.SeizeWordsMem.{Mem, same_at, value_at, word_at, with_word, with_block, Can, Took, Gives, after}
use Rattle.run_places.specs.Given.SeizeWordsPlan.{Plan, Turn, Do, May, Steps, plan_as}
use Rattle.run_places.proofs.Given.SeizeWordsOneOwner.AfterWrites.{word_at-with_word, word_at-with_value}
use Rattle.owner_facts.proofs.Given.SeizeMemoryWords.Named.{or_zero, words_of, made_one, taken_one}

module _ (x f : ℕ) where
  -- a name of another word than this one of the entry
  abbrev pub IsApart : At → Type 0
  IsApart (name.Entry c i) = x ≡ c → i ≡ f → ⊥
  IsApart _ = Unit {0}

  module _ {T : Type 0} where
    abbrev pub IsOpApart : Op T → Type 0
    IsOpApart (Store at w) = IsApart at
    IsOpApart (Swap at w) = IsApart at
    IsOpApart (Add at w) = IsApart at
    IsOpApart (Or at w) = IsApart at
    IsOpApart (Exchange at old new) = IsApart at
    IsOpApart _ = Unit {0}

    abbrev pub IsPlanApart : {R : Type 0} → Plan T R → Type 0
    IsPlanApart (Turn rest) = Unit {0}
    IsPlanApart (Do op rest) = IsOpApart op

    pub apart_as : {A B : Type 0} (g : A → B) (plan : Plan T A) → IsPlanApart plan → IsPlanApart (plan_as g plan)
    apart_as g (Turn rest) q = tt
    apart_as g (Do op rest) q = q

    -- the word is 0, if there is one
    abbrev pub Zero : Mem T → Type 0
    Zero m = words_of m (name.Entry x f) ≡ 0

    pub written : (m : Mem T) (at : At) (w : ℕ) → IsSome (word_at m at) → IsApart at → Zero m → Zero (with_word m at w)
    written m (name.Root r) w some q zero = zero
    written m (name.Used r) w some q zero = zero
    written m (name.Slot s field) w some q zero = zero
    written m (name.Word c i) w some q zero = ap or_zero (word_at-with_word m (name.Word c i) w (name.Entry x f) some) ∙ zero
    written m (name.Entry c i) w some q zero = by (same_at (name.Entry x f) (name.Entry c i)) refl (word_at-with_word m (name.Entry c i) w (name.Entry x f) some)
      where
        by : (z : Bool) → same_at (name.Entry x f) (name.Entry c i) ≡ z
            → word_at (with_word m (name.Entry c i) w) (name.Entry x f) ≡ (if z then Some w else word_at m (name.Entry x f)) → Zero (with_word m (name.Entry c i) w)
        by true z k = absurd (q (grind (arith, z)) (grind (arith, z)))
        by false z k = ap or_zero k ∙ zero

    pub taken : (m : Mem T) (c : ℕ) → IsSome (value_at m c) → Zero m → Zero (with_block m c None)
    taken m c some zero = ap (λ (g : At → ℕ). g (name.Entry x f)) (taken_one m c some).words ∙ by (eqb x c)
      where
        by : (z : Bool) → cond z 0 (words_of m (name.Entry x f)) ≡ 0
        by true = refl
        by false = zero

    pub op_zero : (m : Mem T) (op : Op T) (out : Out T) → IsOpApart op → Can m op → Gives m op out → Zero m → Zero (after m op out)
    op_zero m (Load at) out q can g zero = zero
    op_zero m (Store at w) out q can g zero = written m at w can q zero
    op_zero m (Swap at w) out q can g zero = written m at w can q zero
    op_zero m (Add at w) (Found a) q can g zero = written m at ((a + w) % 2 ^ 64) can q zero
    op_zero m (Add at w) _ q can g zero = zero
    op_zero m (Or at w) (Found a) q can g zero = written m at (bit_or a w) can q zero
    op_zero m (Or at w) _ q can g zero = zero
    op_zero m (Exchange at old new) (Exchanged (Ok a)) q can g zero = written m at new can q zero
    op_zero m (Exchange at old new) _ q can g zero = zero
    op_zero m (Make value words) (Made (Ok b)) q can g zero = ap (λ (h : At → ℕ). h (name.Entry x f)) (made_one m value words b g.0).words ∙ zero
    op_zero m (Make value words) _ q can g zero = zero
    op_zero m (Take c) out q can g zero = taken m c can zero
    op_zero m (Rewrite c new) out q can g zero = ap or_zero (word_at-with_value m c new (name.Entry x f) can) ∙ zero
    op_zero m (Room bucket) (Roomed (Ok a)) q can g zero = zero
    op_zero m (Room bucket) _ q can g zero = zero

    pub plan_zero : {R : Type 0} (m : Mem T) (plan : Plan T R) (m2 : Mem T) (end : R) → IsPlanApart plan → May Can Took value_at m plan → Steps Took value_at m plan m2 end → Zero m → Zero m2
    plan_zero m (Turn rest) m2 end q may s zero = ap (λ (k : Mem T). words_of k (name.Entry x f)) s.0 ∙ zero
    plan_zero m (Do op rest) m2 end q may s zero = ap (λ (k : Mem T). words_of k (name.Entry x f)) s.1.1 ∙ op_zero m op s.0 q may.0 s.1.0 zero
