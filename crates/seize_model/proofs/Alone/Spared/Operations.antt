-- What the operations of rows leave of a memory: the roots, the values and the words of blocks that are not taken, and that a slot was ever taken.
use Rattle.std.specs.Prelude.{Option, Some, None, IsSome, Ok, Err, if◌then◌else◌, ◌==◌, slice_get, replicate}
use Rattle.std.proofs.Common.{◌≡◌, ℕ, ◌+◌, ◌%◌, ◌^◌, ◌<◌, Bool, true, false, List, [], ◌∷◌, ◌++◌, length, refl, arith, inl, inr, ap, sym, subst, ◌∙◌}
use Rattle.std.proofs.lemmas.Bool.{cases_eq}
use Rattle.std.proofs.lemmas.List.{get_or_append_left}
use Rattle.seize.specs.Given.SeizeWordsDeclared.at.At.{At}
use Rattle.seize.specs.Given.SeizeWordsDeclared.at.At.TheVariants as name
use Rattle.seize.specs.Given.SeizeWordsOp.{Op, Out, Load, Store, Swap, Add, Or, Exchange, Make, Take, Rewrite, Room, Found, Stored, Exchanged, Made, Taken, Roomed}
use Rattle.seize.specs.Given.SeizeWordsDeclared.slots.TheConstants.{SLOT_WORDS}
use Rattle.seize.specs.Given.SeizeWordsPlace.{capacity}
use Rattle.seize.specs.Given.SeizeWordsSlotWords.{slot_word, with_bucket}
use Rattle.seize.specs.Given.SeizeWordsMem.{Mem, same_at, value_at, value_in, word_in, word_at, block_of, with_word, with_block, with_room, Can, Took, Gives, after}
use Rattle.seize.specs.Given.SeizeWordsPlan.{Plan, Turn, Do, May, Steps, plan_as}
use Rattle.seize.proofs.Given.SeizeWordsOneOwner.AfterWrites.{word_at-with_word, value_at-with_word, block_of-with_block}
use Rattle.seize.proofs.Given.SeizeWordsPlaces.Words.{slot_lt, with_bucket_next, with_bucket_there}
use Rattle.seize.specs.declared.states.TheConstants.{HEAD}
use Rattle.seize.specs.World.{times}
use Rattle.seize_model.specs.Alone.Alone.{Spares}
use Rattle.seize_rule.proofs.Given.SeizeMemoryWords.Named.{block_there}

pub none_first : (b : ℕ) (a c : List ℕ) → times b (a ++ c) ≡ 0 → times b a ≡ 0
none_first b [] c e = refl
none_first b (x ∷ a) c e = let k = none_first b a c (omega (arith, e)) in omega (arith, e, k)

pub none_last : (b : ℕ) (a c : List ℕ) → times b (a ++ c) ≡ 0 → times b c ≡ 0
none_last b [] c e = e
none_last b (x ∷ a) c e = none_last b a c (omega (arith, e))

-- a word of the collector's, and a head that says that its slot was taken
abbrev pub MayWrite : At → ℕ → Type 0
MayWrite (name.Slot s field) w = field ≡ HEAD → 0 < w
MayWrite (name.Entry b i) w = Unit {0}
MayWrite (name.Root r) w = ⊥
MayWrite (name.Used r) w = ⊥
MayWrite (name.Word b i) w = ⊥

-- a slot that has words keeps them where there is room for more
room_word : (slots : List (List ℕ)) (bucket s field head : ℕ) → slot_word slots s field ≡ Some head → slot_word (with_bucket slots bucket) s field ≡ Some head
room_word slots bucket s field head e =
    let lt = slot_lt slots s field (subst (λ (o : Option ℕ). IsSome o) (sym e) refl) in
    elim (cases_eq (length slots + 32) (capacity bucket)) as (λ _. slot_word (with_bucket slots bucket) s field ≡ Some head) [
      | inl same ↦ ap (λ (l : List (List ℕ)). slot_word l s field) (with_bucket_next slots bucket same)
          ∙ ap (λ (l : List ℕ). slice_get l field) (get_or_append_left slots (replicate (capacity bucket) (replicate SLOT_WORDS 0)) [] s lt) ∙ e
      | inr other ↦ ap (λ (l : List (List ℕ)). slot_word l s field) (with_bucket_there slots bucket other) ∙ e
    ]

module _ {T : Type 0} where
  pub spares_same : (m : Mem T) → Spares m m []
  spares_same m = record { roots = refl; used = refl; values = λ b e. refl; words = λ b i e. refl; taken = λ s head e pos. (head, e, pos) }

  pub spares_twice : (m m2 m3 : Mem T) (a c : List ℕ) → Spares m m2 a → Spares m2 m3 c → Spares m m3 (a ++ c)
  spares_twice m m2 m3 a c h k = record {
    roots = k.roots ∙ h.roots;
    used = k.used ∙ h.used;
    values = λ b e. k.values b (none_last b a c e) ∙ h.values b (none_first b a c e);
    words = λ b i e. k.words b i (none_last b a c e) ∙ h.words b i (none_first b a c e);
    taken = λ s head e pos. (let t = h.taken s head e pos in k.taken s t.0 t.1 t.2);
  }

  pub spares_written : (m : Mem T) (at : At) (w : ℕ) → IsSome (word_at m at) → MayWrite at w → Spares m (with_word m at w) []
  spares_written m (name.Slot s field) w some may = record {
    roots = refl;
    used = refl;
    values = λ b e. refl;
    words = λ b i e. refl;
    taken = λ t head e pos. by t head e pos (same_at (name.Slot t HEAD) (name.Slot s field)) refl (word_at-with_word m (name.Slot s field) w (name.Slot t HEAD) some);
  }
    where
      by : (t head : ℕ) → word_at m (name.Slot t HEAD) ≡ Some head → 0 < head → (z : Bool) → same_at (name.Slot t HEAD) (name.Slot s field) ≡ z
          → word_at (with_word m (name.Slot s field) w) (name.Slot t HEAD) ≡ (if z then Some w else word_at m (name.Slot t HEAD))
          → (head2 : ℕ) × (word_at (with_word m (name.Slot s field) w) (name.Slot t HEAD) ≡ Some head2) × (0 < head2)
      by t head e pos true z k = (w, k, may (grind (arith, z)))
      by t head e pos false z k = (head, k ∙ e, pos)
  spares_written m (name.Entry c i) w some may = record {
    roots = refl;
    used = refl;
    values = λ b e. value_at-with_word m (name.Entry c i) w b some;
    words = λ b j e. word_at-with_word m (name.Entry c i) w (name.Word b j) some;
    taken = λ t head e pos. (head, e, pos);
  }
  spares_written m (name.Root r) w some may = absurd may
  spares_written m (name.Used r) w some may = absurd may
  spares_written m (name.Word b i) w some may = absurd may

  pub spares_taken : (m : Mem T) (c : ℕ) → IsSome (value_at m c) → Spares m (with_block m c None) (c ∷ [])
  spares_taken m c some = record {
    roots = refl;
    used = refl;
    values = λ b e. ap value_in (other b e);
    words = λ b i e. ap (λ o. word_in o i) (other b e);
    taken = λ t head e pos. (head, e, pos);
  }
    where
      by : (b : ℕ) (z : Bool) → (b == c) ≡ z → times b (c ∷ []) ≡ 0 → block_of (with_block m c None) b ≡ (if z then None else block_of m b) → block_of (with_block m c None) b ≡ block_of m b
      by b true z none k = absurd (grind (arith, z, none))
      by b false z none k = k

      other : (b : ℕ) → times b (c ∷ []) ≡ 0 → block_of (with_block m c None) b ≡ block_of m b
      other b e = let x = block_there m c some in by b (b == c) refl e (block_of-with_block m c b x.0 None x.1)

  pub spares_room : (m : Mem T) (bucket : ℕ) → Spares m (with_room m bucket) []
  spares_room m bucket = record {
    roots = refl;
    used = refl;
    values = λ b e. refl;
    words = λ b i e. refl;
    taken = λ t head e pos. (head, room_word m.slots bucket t HEAD head e, pos);
  }

  -- it makes no block, rewrites no value, and writes words of the collector alone
  abbrev pub IsSparing : Op T → Type 0
  IsSparing (Load at) = Unit {0}
  IsSparing (Store at w) = MayWrite at w
  IsSparing (Swap at w) = MayWrite at w
  IsSparing (Add at w) = (v : ℕ) → MayWrite at v
  IsSparing (Or at w) = ⊥
  IsSparing (Exchange at old new) = MayWrite at new
  IsSparing (Make value words) = ⊥
  IsSparing (Take b) = Unit {0}
  IsSparing (Rewrite b new) = ⊥
  IsSparing (Room bucket) = Unit {0}

  -- the block that it takes
  abbrev pub takes : Op T → List ℕ
  takes (Take b) = b ∷ []
  takes _ = []

  pub op_spares : (m : Mem T) (op : Op T) (out : Out T) → IsSparing op → Can m op → Gives m op out → Spares m (after m op out) (takes op)
  op_spares m (Load at) out q can g = spares_same m
  op_spares m (Store at w) out q can g = spares_written m at w can q
  op_spares m (Swap at w) out q can g = spares_written m at w can q
  op_spares m (Add at w) (Found a) q can g = spares_written m at ((a + w) % 2 ^ 64) can (q ((a + w) % 2 ^ 64))
  op_spares m (Add at w) Stored q can g = absurd g
  op_spares m (Add at w) (Exchanged (Ok a)) q can g = absurd g
  op_spares m (Add at w) (Exchanged (Err a)) q can g = absurd g
  op_spares m (Add at w) (Made (Ok a)) q can g = absurd g
  op_spares m (Add at w) (Made (Err a)) q can g = absurd g
  op_spares m (Add at w) (Taken a) q can g = absurd g
  op_spares m (Add at w) (Roomed (Ok a)) q can g = absurd g
  op_spares m (Add at w) (Roomed (Err a)) q can g = absurd g
  op_spares m (Or at w) out q can g = absurd q
  op_spares m (Exchange at old new) (Exchanged (Ok a)) q can g = spares_written m at new can q
  op_spares m (Exchange at old new) (Exchanged (Err a)) q can g = spares_same m
  op_spares m (Exchange at old new) (Found a) q can g = absurd g
  op_spares m (Exchange at old new) Stored q can g = absurd g
  op_spares m (Exchange at old new) (Made (Ok a)) q can g = absurd g
  op_spares m (Exchange at old new) (Made (Err a)) q can g = absurd g
  op_spares m (Exchange at old new) (Taken a) q can g = absurd g
  op_spares m (Exchange at old new) (Roomed (Ok a)) q can g = absurd g
  op_spares m (Exchange at old new) (Roomed (Err a)) q can g = absurd g
  op_spares m (Make value words) out q can g = absurd q
  op_spares m (Take b) out q can g = spares_taken m b can
  op_spares m (Rewrite b new) out q can g = absurd q
  op_spares m (Room bucket) (Roomed (Ok a)) q can g = spares_room m bucket
  op_spares m (Room bucket) (Roomed (Err a)) q can g = spares_same m
  op_spares m (Room bucket) (Found a) q can g = absurd g
  op_spares m (Room bucket) Stored q can g = absurd g
  op_spares m (Room bucket) (Exchanged (Ok a)) q can g = absurd g
  op_spares m (Room bucket) (Exchanged (Err a)) q can g = absurd g
  op_spares m (Room bucket) (Made (Ok a)) q can g = absurd g
  op_spares m (Room bucket) (Made (Err a)) q can g = absurd g
  op_spares m (Room bucket) (Taken a) q can g = absurd g

  abbrev pub IsSparingPlan : {R : Type 0} → Plan T R → Type 0
  IsSparingPlan (Turn rest) = Unit {0}
  IsSparingPlan (Do op rest) = IsSparing op

  abbrev pub plan_takes : {R : Type 0} → Plan T R → List ℕ
  plan_takes (Turn rest) = []
  plan_takes (Do op rest) = takes op

  pub sparing_as : {A B : Type 0} (f : A → B) (plan : Plan T A) → IsSparingPlan plan → IsSparingPlan (plan_as f plan)
  sparing_as f (Turn rest) q = tt
  sparing_as f (Do op rest) q = q

  pub takes_as : {A B : Type 0} (f : A → B) (plan : Plan T A) → plan_takes (plan_as f plan) ≡ plan_takes plan
  takes_as f (Turn rest) = refl
  takes_as f (Do op rest) = refl

  pub plan_spares : {R : Type 0} (m : Mem T) (plan : Plan T R) (m2 : Mem T) (end : R) → IsSparingPlan plan → May Can Took value_at m plan → Steps Took value_at m plan m2 end
      → Spares m m2 (plan_takes plan)
  plan_spares m (Turn rest) m2 end q may s = subst (λ (k : Mem T). Spares m k []) (sym s.0) (spares_same m)
  plan_spares m (Do op rest) m2 end q may s = subst (λ (k : Mem T). Spares m k (takes op)) (sym s.1.1) (op_spares m op s.0 q may.0 s.1.0)
