-- Steps that leave the heads of slots, or their batches, as they were, and what a step comes to.
use Rattle.std.specs.Prelude.{not, if◌then◌else◌, nat_lt, ◌==◌, ◌%◌, ◌^◌, ◌&&◌, Option, None, IsSome, is_some, Ok, Err, bit_or, slice_index_or}
use Rattle.std.proofs.Common.{◌≡◌, ℕ, ◌+◌, ◌-◌, ◌<◌, Bool, true, false, eqb, length, length-set, ltb-true, ltb-false, refl, arith, ap, sym, subst, eqb-true, ◌∙◌}
use Rattle.std.proofs.lemmas.List.{get_or_past}
use Rattle.seize.specs.Given.SeizeWordsDeclared.at.At.{At}
use Rattle.seize.specs.Given.SeizeWordsDeclared.at.At.TheVariants.{Root, Used, Slot, Entry, Word}
use Rattle.seize.specs.Given.SeizeWordsMem.{Mem, Can, Took, Gives, after, same_at, value_at, value_in, word_at, with_word, with_entry, with_word_in, block_of}
use Rattle.seize.specs.Given.SeizeWordsOp.{Op, Out, Load, Store, Swap, Add, Or, Exchange, Make, Take, Rewrite, Room, Found, Stored, Exchanged, Made, Taken, Roomed}
use Rattle.seize.specs.Given.SeizeWordsPlan.{Plan, Then, Turn, Do, Now, Seeing, Sure, May, Steps, Ends}
use Rattle.seize_rule.proofs.Given.SeizeMemoryWords.There.{live_pos}
use Rattle.seize_rule.proofs.Given.SeizeMemoryWords.Named.{words_of, wrote, write_apart}
use Rattle.seize_rule.proofs.Words.Kept.{IsQuiet, IsQuietPlan}

-- the word is this one of a slot's words
abbrev pub is_field : ℕ → At → Bool
is_field field (Slot s other) = eqb field other
is_field field _ = false

-- no such word is written
abbrev pub spares : {T : Type 0} → ℕ → Op T → Bool
spares field (Store name v) = not (is_field field name)
spares field (Swap name v) = not (is_field field name)
spares field (Add name v) = not (is_field field name)
spares field (Or name v) = not (is_field field name)
spares field (Exchange name old new) = not (is_field field name)
spares field _ = true

abbrev pub spares_plan : {T R : Type 0} → ℕ → Plan T R → Bool
spares_plan field (Turn rest) = true
spares_plan field (Do op rest) = spares field op

apart : (s field : ℕ) (name : At) → not (is_field field name) ≡ true → same_at (Slot s field) name ≡ false
apart s field (Root r) h = refl
apart s field (Used r) h = refl
apart s field (Slot t other) h = one (s == t) (field == other) h
  where
    one : (a b : Bool) → not b ≡ true → (a && b) ≡ false
    one a true e = absurd (cc e)
    one true false e = refl
    one false false e = refl
apart s field (Entry b i) h = refl
apart s field (Word b i) h = refl

module _ {T : Type 0} (mem : Mem T) (s field : ℕ) where
  abbrev Same : Mem T → Type 0
  Same mem2 = words_of mem2 (Slot s field) ≡ words_of mem (Slot s field)

  written_same : (name : At) (v : ℕ) → IsSome (word_at mem name) → not (is_field field name) ≡ true → Same (with_word mem name v)
  written_same name v some h = ap (λ w. w (Slot s field)) (wrote mem name v some).words ∙ write_apart (words_of mem) name v (Slot s field) (apart s field name h)

  op_same : (op : Op T) (out : Out T) → IsQuiet op → spares field op ≡ true → Can mem op → Gives mem op out → Same (after mem op out)
  op_same (Load name) out q h can g = refl
  op_same (Store name v) out q h can g = written_same name v can h
  op_same (Swap name v) out q h can g = written_same name v can h
  op_same (Add name v) (Found a) q h can g = written_same name ((a + v) % 2 ^ 64) can h
  op_same (Add name v) Stored q h can g = absurd g
  op_same (Add name v) (Exchanged (Ok a)) q h can g = absurd g
  op_same (Add name v) (Exchanged (Err a)) q h can g = absurd g
  op_same (Add name v) (Made (Ok a)) q h can g = absurd g
  op_same (Add name v) (Made (Err a)) q h can g = absurd g
  op_same (Add name v) (Taken a) q h can g = absurd g
  op_same (Add name v) (Roomed (Ok a)) q h can g = absurd g
  op_same (Add name v) (Roomed (Err a)) q h can g = absurd g
  op_same (Or name v) (Found a) q h can g = written_same name (bit_or a v) can h
  op_same (Or name v) Stored q h can g = absurd g
  op_same (Or name v) (Exchanged (Ok a)) q h can g = absurd g
  op_same (Or name v) (Exchanged (Err a)) q h can g = absurd g
  op_same (Or name v) (Made (Ok a)) q h can g = absurd g
  op_same (Or name v) (Made (Err a)) q h can g = absurd g
  op_same (Or name v) (Taken a) q h can g = absurd g
  op_same (Or name v) (Roomed (Ok a)) q h can g = absurd g
  op_same (Or name v) (Roomed (Err a)) q h can g = absurd g
  op_same (Exchange name old new) (Exchanged (Ok a)) q h can g = written_same name new can h
  op_same (Exchange name old new) (Exchanged (Err a)) q h can g = refl
  op_same (Exchange name old new) (Found a) q h can g = absurd g
  op_same (Exchange name old new) Stored q h can g = absurd g
  op_same (Exchange name old new) (Made (Ok a)) q h can g = absurd g
  op_same (Exchange name old new) (Made (Err a)) q h can g = absurd g
  op_same (Exchange name old new) (Taken a) q h can g = absurd g
  op_same (Exchange name old new) (Roomed (Ok a)) q h can g = absurd g
  op_same (Exchange name old new) (Roomed (Err a)) q h can g = absurd g
  op_same (Take b) out q h can g = refl
  op_same (Make value words) out q h can g = absurd q
  op_same (Rewrite b new) out q h can g = absurd q
  op_same (Room bucket) out q h can g = absurd q

  pub plan_same : {R : Type 0} (plan : Plan T R) (mem2 : Mem T) (end : R) → IsQuietPlan plan → spares_plan field plan ≡ true → May Can Took value_at mem plan → Steps Took value_at mem plan mem2 end → Same mem2
  plan_same (Turn rest) mem2 end q h may st = ap (λ (k : Mem T). words_of k (Slot s field)) st.0
  plan_same (Do op rest) mem2 end q h may st = ap (λ (k : Mem T). words_of k (Slot s field)) st.1.1 ∙ op_same op st.0 q h may.0 st.1.0

-- what holds of each outcome of a step
module _ {T R : Type 0} (P : R → Type 0) where
  abbrev pub Outcomes : Then T R → Type 0
  Outcomes (Now r) = P r
  Outcomes (Seeing block rest) = (value : T) → Outcomes (rest value)
  Outcomes (Sure fact rest) = Outcomes rest

  abbrev pub PlanOutcomes : Plan T R → Type 0
  PlanOutcomes (Turn rest) = Outcomes rest
  PlanOutcomes (Do op rest) = (out : Out T) → Outcomes (rest out)

  outcome : (shown : ℕ → Option T) (rest : Then T R) (end : R) → Outcomes rest → Ends shown rest end → P end
  outcome shown (Now r) end h e = subst P (sym e) h
  outcome shown (Seeing block rest) end h e = outcome shown (rest e.0) end (h e.0) e.2
  outcome shown (Sure fact rest) end h e = outcome shown rest end h e

  pub plan_outcome : (mem mem2 : Mem T) (plan : Plan T R) (end : R) → PlanOutcomes plan → Steps Took value_at mem plan mem2 end → P end
  plan_outcome mem mem2 (Turn rest) end h st = outcome (value_at mem2) rest end h st.1
  plan_outcome mem mem2 (Do op rest) end h st = outcome (value_at mem2) (rest st.0) end (h st.0) st.2

  pub if_outcome : (t : Bool) (a b : Then T R) → Outcomes a → Outcomes b → Outcomes (if t then a else b)
  if_outcome true a b h k = h
  if_outcome false a b h k = k

-- the table of blocks is as long as it was
module _ {T : Type 0} (mem : Mem T) where
  written_long : (name : At) (v : ℕ) → length (with_word mem name v).blocks ≡ length mem.blocks
  written_long (Root r) v = refl
  written_long (Used r) v = refl
  written_long (Slot s i) v = refl
  written_long (Entry b i) v = length-set mem.blocks (b - 1) (with_entry (block_of mem b) i v)
  written_long (Word b i) v = length-set mem.blocks (b - 1) (with_word_in (block_of mem b) i v)

  op_long : (op : Op T) (out : Out T) → IsQuiet op → length (after mem op out).blocks ≡ length mem.blocks
  op_long (Load name) out q = refl
  op_long (Store name v) out q = written_long name v
  op_long (Swap name v) out q = written_long name v
  op_long (Add name v) (Found a) q = written_long name ((a + v) % 2 ^ 64)
  op_long (Add name v) _ q = refl
  op_long (Or name v) (Found a) q = written_long name (bit_or a v)
  op_long (Or name v) _ q = refl
  op_long (Exchange name old new) (Exchanged (Ok a)) q = written_long name new
  op_long (Exchange name old new) _ q = refl
  op_long (Take b) out q = length-set mem.blocks (b - 1) None
  op_long (Make value words) out q = absurd q
  op_long (Rewrite b new) out q = absurd q
  op_long (Room bucket) out q = absurd q

  pub plan_long : {R : Type 0} (plan : Plan T R) (mem2 : Mem T) (end : R) → IsQuietPlan plan → Steps Took value_at mem plan mem2 end → length mem2.blocks ≡ length mem.blocks
  plan_long (Turn rest) mem2 end q st = ap (λ (k : Mem T). length k.blocks) st.0
  plan_long (Do op rest) mem2 end q st = ap (λ (k : Mem T). length k.blocks) st.1.1 ∙ op_long op st.0 q

  -- and the blocks that live are in it
  pub live_below : (b : ℕ) → is_some (value_at mem b) ≡ true → b < length mem.blocks + 1
  live_below b h = one (nat_lt (b - 1) (length mem.blocks)) refl
    where
      some : 0 < b
      some = live_pos mem b h

      not_zero : (t : Bool) → (t ≡ true → b ≡ 0) → t ≡ false
      not_zero true e = absurd (let a = e refl in omega (arith, a, some))
      not_zero false e = refl

      place : block_of mem b ≡ slice_index_or mem.blocks (b - 1) None
      place = ap (λ t. if t then None else slice_index_or mem.blocks (b - 1) None) (not_zero (b == 0) (eqb-true b 0))

      none : (o : Option T) → o ≡ None → is_some o ≡ true → ⊥
      none o e k = cc (ap is_some e, k)

      one : (t : Bool) → nat_lt (b - 1) (length mem.blocks) ≡ t → b < length mem.blocks + 1
      one true e = let a = ltb-true (b - 1) (length mem.blocks) e in omega (arith, a)
      one false e =
          let past = get_or_past mem.blocks (b - 1) None (ltb-false (b - 1) (length mem.blocks) e) in
          absurd (none (value_at mem b) (ap value_in (place ∙ past)) h)
