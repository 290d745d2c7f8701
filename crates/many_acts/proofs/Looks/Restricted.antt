-- A memory without some of its blocks. A step that may be taken there looks at none of those, in the whole memory either.
use Rattle.std.specs.Prelude.{◌≡◌, ℕ, zero, suc, ◌+◌, ◌-◌, ◌<◌, ◌%◌, ◌^◌, Bool, true, false, cond, bit_or, List, [], ◌∷◌, Option, Some, None, IsSome, Ok, Err, ◌⊎◌, slice_index_or, if◌then◌else◌}
use Rattle.std.proofs.Common.{inl, inr, refl, ap, sym, subst, ◌∙◌, arith}
use Rattle.std.proofs.lemmas.Bool.{cases_eq, eq-eqb, ne_eqb}
use Rattle.run_shows.specs.Given.SeizeWordsDeclared.at.At.{At}
use Rattle.run_shows.specs.Given.SeizeWordsDeclared.at.At.TheVariants.{Root, Used, Slot, Entry, Word}
use Rattle.run_shows.specs.Given.SeizeWordsDeclared.block.Block.{Block}
use Rattle.run_shows.specs.Given.SeizeWordsMem.{Mem, Can, Took, Gives, IsFreeNumber, fresh, after, block_of, value_in, entry_in, word_in, value_at, word_at, with_word}
use Rattle.run_shows.specs.Given.SeizeWordsOp.{Op, Out, Load, Store, Swap, Add, Or, Exchange, Make, Take, Rewrite, Room, Found, Stored, Exchanged, Made, Taken, Roomed}
use Rattle.run_shows.specs.Given.SeizeWordsPlan.{Plan, Then, Turn, Do, Now, Seeing, Sure, May, MaySee}
use Rattle.run_shows.proofs.Given.SeizeWordsOneOwner.AfterWrites.{block_of-with_block, block_of-made, value_at-with_word, value_at-with_value}
use Rattle.many_acts.specs.Looks.Blocks.{IsWordOf, IsDoneTo, MayLookAt, LooksAt, MayMake}
use Rattle.run_shows.proofs.Given.General.{same_some as same, some_is as is_there}

-- what is there is some
there : {X : Type 0} (o : Option X) → IsSome o → (x : X) × (o ≡ Some x)
there None some = absurd (cc some)
there (Some x) some = (x, refl)

module _ {T : Type 0} (keep : ℕ → Bool) where
  -- the blocks from this number on, without those that are not kept
  abbrev pub kept_from : ℕ → List (Option (Block T)) → List (Option (Block T))
  kept_from n [] = []
  kept_from n (x ∷ blocks) = cond (keep n) x None ∷ kept_from (suc n) blocks

  abbrev pub restricted : Mem T → Mem T
  restricted m = record { roots = m.roots; used = m.used; slots = m.slots; blocks = kept_from 1 m.blocks; choices = m.choices }

  none_kept : (b : Bool) → None ≡ cond {A = Option (Block T)} b None None
  none_kept true = refl
  none_kept false = refl

  at_place : (n k : ℕ) (blocks : List (Option (Block T))) → slice_index_or (kept_from n blocks) k None ≡ cond (keep (n + k)) (slice_index_or blocks k None) None
  at_place n k [] = none_kept (keep (n + k))
  at_place n zero (x ∷ blocks) = ap (λ (j : ℕ). cond (keep j) x None) (omega arith)
  at_place n (suc k) (x ∷ blocks) = at_place (suc n) k blocks ∙ ap (λ (j : ℕ). cond (keep j) (slice_index_or blocks k None) None) (omega arith)

  block_place : (m : Mem T) (b : ℕ) → 0 < b → block_of m b ≡ slice_index_or m.blocks (b - 1) None
  block_place m b some = ap (λ (t : Bool). if t then None else slice_index_or m.blocks (b - 1) None) (ne_eqb b 0 (omega (arith, some)))

  pub block_kept : (m : Mem T) (b : ℕ) → block_of (restricted m) b ≡ cond (keep b) (block_of m b) None
  block_kept m b = elim (cases_eq b 0) as (λ _. block_of (restricted m) b ≡ cond (keep b) (block_of m b) None) [
    | inl e ↦ ap (block_of (restricted m)) e ∙ none_kept (keep b) ∙ ap (λ (o : Option (Block T)). cond (keep b) o None) (sym (ap (block_of m) e))
    | inr other ↦
        let some : 0 < b = omega (arith, other) in
        block_place (restricted m) b some ∙ at_place 1 (b - 1) m.blocks ∙ ap (λ (j : ℕ). cond (keep j) (slice_index_or m.blocks (b - 1) None) None) (omega (arith, some))
        ∙ ap (λ (o : Option (Block T)). cond (keep b) o None) (sym (block_place m b some))
  ]

  module _ (m : Mem T) where
    abbrev less : Mem T
    less = restricted m

    -- A block that is kept has its value and its words.
    pub value_kept : (b : ℕ) → keep b ≡ true → value_at less b ≡ value_at m b
    value_kept b is = ap value_in (block_kept m b ∙ ap (λ (k : Bool). cond k (block_of m b) None) is)

    pub word_kept : (b field : ℕ) → keep b ≡ true → word_at less (Word b field) ≡ word_at m (Word b field)
    word_kept b field is = ap (λ (o : Option (Block T)). word_in o field) (block_kept m b ∙ ap (λ (k : Bool). cond k (block_of m b) None) is)

    -- and what is there was kept, and is what it was
    pub block_was : (b : ℕ) (x : Block T) → block_of less b ≡ Some x → (keep b ≡ true) × (block_of m b ≡ Some x)
    block_was b x is = by (keep b) refl
      where
        by : (k : Bool) → keep b ≡ k → (keep b ≡ true) × (block_of m b ≡ Some x)
        by true e = (e, sym (block_kept m b ∙ ap (λ (z : Bool). cond z (block_of m b) None) e) ∙ is)
        by false e = absurd (let none : ◌≡◌ {A = Option (Block T)} None (Some x) = sym (block_kept m b ∙ ap (λ (z : Bool). cond z (block_of m b) None) e) ∙ is in cc none)

    block_in : (o : Option (Block T)) (get : Option (Block T) → Option ℕ) → get None ≡ None → IsSome (get o) → (x : Block T) × (o ≡ Some x)
    block_in None get none some = absurd (let t = there {X = ℕ} None (subst (λ (y : Option ℕ). IsSome y) none some) in let e = t.1 in cc e)
    block_in (Some x) get none some = (x, refl)

    pub value_was : (b : ℕ) (v : T) → value_at less b ≡ Some v → (keep b ≡ true) × (value_at m b ≡ Some v)
    value_was b v is = by (block_of less b) refl is
      where
        by : (o : Option (Block T)) → block_of less b ≡ o → value_in o ≡ Some v → (keep b ≡ true) × (value_at m b ≡ Some v)
        by None e none = absurd (cc none)
        by (Some x) e some = let was = block_was b x e in (was.0, ap value_in was.1 ∙ some)

    word_was : (at : At) (word : ℕ) → word_at less at ≡ Some word → word_at m at ≡ Some word
    word_was (Root r) word is = is
    word_was (Used r) word is = is
    word_was (Slot s field) word is = is
    word_was (Entry b field) word is =
        let x = block_in (block_of less b) (λ o. entry_in o field) refl (is_there (word_at less (Entry b field)) word is) in
        ap (λ o. entry_in o field) ((block_was b x.0 x.1).1 ∙ sym x.1) ∙ is
    word_was (Word b field) word is =
        let x = block_in (block_of less b) (λ o. word_in o field) refl (is_there (word_at less (Word b field)) word is) in
        ap (λ o. word_in o field) ((block_was b x.0 x.1).1 ∙ sym x.1) ∙ is

    -- a word of a block that is there: so is the block
    has_value : (b : ℕ) (at : At) → IsWordOf b at → IsSome (word_at less at) → (v : T) × (value_at less b ≡ Some v)
    has_value b (Entry block field) is some =
        let x = block_in (block_of less block) (λ o. entry_in o field) refl some in (x.0.value, ap (value_at less) is ∙ ap value_in x.1)
    has_value b (Word block field) is some =
        let x = block_in (block_of less block) (λ o. word_in o field) refl some in (x.0.value, ap (value_at less) is ∙ ap value_in x.1)
    has_value b (Root r) is some = absurd is
    has_value b (Used r) is some = absurd is
    has_value b (Slot s field) is some = absurd is

    -- the word that an operation has found in the whole memory it finds there
    finds : (at : At) (word : ℕ) → IsSome (word_at less at) → word_at m at ≡ Some word → word_at less at ≡ Some word
    finds at word some is = let t = there (word_at less at) some in t.1 ∙ ap Some (same t.0 word (sym (word_was at t.0 t.1) ∙ is))

    finds_value : (b : ℕ) (v : T) → IsSome (value_at less b) → value_at m b ≡ Some v → value_at less b ≡ Some v
    finds_value b v some is = let t = there (value_at less b) some in t.1 ∙ ap Some (same t.0 v (sym (value_was b t.0 t.1).1 ∙ is))

    -- so an answer that may be given in the whole memory may be given there,
    gives : (op : Op T) (out : Out T) → Can less op → Gives m op out → Gives less op out
    gives (Load at) (Found w) can g = finds at w can g
    gives (Store at new) Stored can g = g
    gives (Swap at new) (Found w) can g = finds at w can g
    gives (Add at by) (Found w) can g = finds at w can g
    gives (Or at bits) (Found w) can g = finds at w can g
    gives (Exchange at old new) (Exchanged (Ok w)) can g = (finds at w can g.0, g.1)
    gives (Exchange at old new) (Exchanged (Err w)) can g = (finds at w can g.0, g.1)
    gives (Make value words) (Made (Ok b)) can g =
        ((block_kept m b ∙ ap (λ (o : Option (Block T)). cond (keep b) o None) g.0.0 ∙ sym (none_kept (keep b)), g.0.1), g.1)
    gives (Make value words) (Made (Err back)) can g = g
    gives (Take b) (Taken value) can g = finds_value b value can g
    gives (Rewrite b new) (Taken value) can g = finds_value b value can g
    gives (Room bucket) (Roomed (Ok made)) can g = g
    gives (Room bucket) (Roomed (Err fault)) can g = g
    gives _ _ can g = absurd g

    block_there : (b : ℕ) → IsSome (value_at less b) → (x : Block T) × (block_of less b ≡ Some x)
    block_there b some = by (block_of less b) refl some
      where
        by : (o : Option (Block T)) → block_of less b ≡ o → IsSome (value_in o) → (x : Block T) × (block_of less b ≡ Some x)
        by None e none = absurd (cc none)
        by (Some x) e it = (x, e)

    -- After it, a block that is there was so before, and is there in the whole memory with that value; or it was made.
    abbrev Left : Op T → Out T → ℕ → T → Type 0
    Left op out b v = (((keep b ≡ true) × IsSome (value_at m b)) ⊎ MayMake {R = Unit {0}} b m (Do op (λ out. Now tt))) × (value_at (after m op out) b ≡ Some v)

    -- where the memory is as it was
    kept_so : (b : ℕ) (v : T) → value_at less b ≡ Some v → (keep b ≡ true) × IsSome (value_at m b) × (value_at m b ≡ Some v)
    kept_so b v is = let was = value_was b v is in (was.0, is_there (value_at m b) v was.1, was.1)

    still : (op : Op T) (out : Out T) (b : ℕ) (v : T) → value_at (after m op out) b ≡ value_at m b → value_at less b ≡ Some v → Left op out b v
    still op out b v unchanged is = let k = kept_so b v is in (inl (k.0, k.1), unchanged ∙ k.2)

    wrote : (op : Op T) (out : Out T) (at : At) (new b : ℕ) (v : T) → IsSome (word_at less at) → after m op out ≡ with_word m at new → value_at (with_word less at new) b ≡ Some v → Left op out b v
    wrote op out at new b v some is there_then =
        let some_there = is_there (word_at m at) _ (word_was at (there (word_at less at) some).0 (there (word_at less at) some).1) in
        still op out b v (ap (λ (x : Mem T). value_at x b) is ∙ value_at-with_word m at new b some_there) (sym (value_at-with_word less at new b some) ∙ there_then)

    left : (op : Op T) (out : Out T) → Can less op → Gives m op out → (b : ℕ) (v : T) → value_at (after less op out) b ≡ Some v → Left op out b v
    left (Load at) (Found w) can g b v is = still (Load at) (Found w) b v refl is
    left (Store at new) Stored can g b v is = wrote (Store at new) Stored at new b v can refl is
    left (Swap at new) (Found w) can g b v is = wrote (Swap at new) (Found w) at new b v can refl is
    left (Add at by) (Found w) can g b v is = wrote (Add at by) (Found w) at ((w + by) % 2 ^ 64) b v can refl is
    left (Or at bits) (Found w) can g b v is = wrote (Or at bits) (Found w) at (bit_or w bits) b v can refl is
    left (Exchange at old new) (Exchanged (Ok w)) can g b v is = wrote (Exchange at old new) (Exchanged (Ok w)) at new b v can refl is
    left (Exchange at old new) (Exchanged (Err w)) can g b v is = still (Exchange at old new) (Exchanged (Err w)) b v refl is
    left (Make value words) (Made (Ok k)) can g b v is = elim (cases_eq b k) as (λ _. Left (Make value words) (Made (Ok k)) b v) [
      | inl e ↦ (
        inr (subst (IsFreeNumber m) (sym e) g.0),
        (let here = ap value_in (block_of-made m value words k b g.0) in let there_then = ap value_in (block_of-made less value words k b (gives (Make value words) (Made (Ok k)) can g).0) in
            let one = ap (λ (t : Bool). value_in (if t then Some (fresh value words) else block_of m b)) (eq-eqb b k e) in
            let other = ap (λ (t : Bool). value_in (if t then Some (fresh value words) else block_of less b)) (eq-eqb b k e) in
            here ∙ one ∙ sym (there_then ∙ other) ∙ is),
      )
      | inr ne ↦
          let here = ap value_in (block_of-made m value words k b g.0) ∙ ap (λ (t : Bool). value_in (if t then Some (fresh value words) else block_of m b)) (ne_eqb b k ne) in
          let there_then = ap value_in (block_of-made less value words k b (gives (Make value words) (Made (Ok k)) can g).0)
          ∙ ap (λ (t : Bool). value_in (if t then Some (fresh value words) else block_of less b)) (ne_eqb b k ne) in
          still (Make value words) (Made (Ok k)) b v here (sym there_then ∙ is)
    ]
    left (Make value words) (Made (Err back)) can g b v is = still (Make value words) (Made (Err back)) b v refl is
    left (Take k) (Taken value) can g b v is =
        let x = block_there k can in
        let was = block_was k x.0 x.1 in
        elim (cases_eq b k) as (λ _. Left (Take k) (Taken value) b v) [
          | inl e ↦ absurd (let gone = ap value_in (block_of-with_block less k b x.0 None x.1) ∙ ap (λ (t : Bool). value_in (if t then None else block_of less b)) (eq-eqb b k e) in
              let none : ◌≡◌ {A = Option T} None (Some v) = sym gone ∙ is in cc none)
          | inr ne ↦
              let here = ap value_in (block_of-with_block m k b x.0 None was.1) ∙ ap (λ (t : Bool). value_in (if t then None else block_of m b)) (ne_eqb b k ne) in
              let there_then = ap value_in (block_of-with_block less k b x.0 None x.1) ∙ ap (λ (t : Bool). value_in (if t then None else block_of less b)) (ne_eqb b k ne) in
              still (Take k) (Taken value) b v here (sym there_then ∙ is)
        ]
    left (Rewrite k new) (Taken value) can g b v is =
        let was = value_was k (there (value_at less k) can).0 (there (value_at less k) can).1 in
        let some = is_there (value_at m k) (there (value_at less k) can).0 was.1 in
        elim (cases_eq b k) as (λ _. Left (Rewrite k new) (Taken value) b v) [
          | inl e ↦
              let here = value_at-with_value m k new b some ∙ ap (λ (t : Bool). if t then Some new else value_at m b) (eq-eqb b k e) in
              let there_then = value_at-with_value less k new b can ∙ ap (λ (t : Bool). if t then Some new else value_at less b) (eq-eqb b k e) in
              (inl (ap keep e ∙ was.0, subst (λ (j : ℕ). IsSome (value_at m j)) (sym e) some), here ∙ sym there_then ∙ is)
          | inr ne ↦
              let here = value_at-with_value m k new b some ∙ ap (λ (t : Bool). if t then Some new else value_at m b) (ne_eqb b k ne) in
              let there_then = value_at-with_value less k new b can ∙ ap (λ (t : Bool). if t then Some new else value_at less b) (ne_eqb b k ne) in
              still (Rewrite k new) (Taken value) b v here (sym there_then ∙ is)
        ]
    left (Room bucket) (Roomed (Ok made)) can g b v is = still (Room bucket) (Roomed (Ok made)) b v refl is
    left (Room bucket) (Roomed (Err fault)) can g b v is = still (Room bucket) (Roomed (Err fault)) b v refl is
    left _ _ can g b v is = absurd g

    -- What is left of a step that may look there looks at no other block, in the whole memory either.
    sees_kept : {R : Type 0} (part whole : ℕ → Option T) → ((b : ℕ) (v : T) → part b ≡ Some v → whole b ≡ Some v) → (rest : Then T R) → MaySee part rest → (b : ℕ) → MayLookAt b whole rest
        → (v : T) × (part b ≡ Some v)
    sees_kept part whole below (Now end) may b sees = absurd sees
    sees_kept part whole below (Seeing block rest) may b (inl is) = let t = there (part block) may.0 in (t.0, ap part is ∙ t.1)
    sees_kept part whole below (Seeing block rest) may b (inr (value, found, sees)) =
        let t = there (part block) may.0 in
        let is : t.0 ≡ value = same t.0 value (sym (below block t.0 t.1) ∙ found) in
        sees_kept part whole below (rest value) (may.1 value (t.1 ∙ ap Some is)) b sees
    sees_kept part whole below (Sure fact rest) may b sees = sees_kept part whole below rest may.1 b sees

    abbrev Kept : {R : Type 0} → Plan T R → ℕ → Type 0
    Kept plan b = ((keep b ≡ true) × IsSome (value_at m b)) ⊎ MayMake b m plan

    -- a block that an operation is done to is there
    done_to : (op : Op T) (b : ℕ) → Can less op → IsDoneTo b op → (v : T) × (value_at less b ≡ Some v)
    done_to (Load at) b can is = has_value b at is can
    done_to (Store at word) b can is = has_value b at is can
    done_to (Swap at word) b can is = has_value b at is can
    done_to (Add at by) b can is = has_value b at is can
    done_to (Or at bits) b can is = has_value b at is can
    done_to (Exchange at old new) b can is = has_value b at is can
    done_to (Take block) b can is = let t = there (value_at less block) can in (t.0, ap (value_at less) is ∙ t.1)
    done_to (Rewrite block value) b can is = let t = there (value_at less block) can in (t.0, ap (value_at less) is ∙ t.1)
    done_to (Make value words) b can is = absurd is
    done_to (Room bucket) b can is = absurd is

    makes_so : {R S : Type 0} (op : Op T) (rest : Out T → Then T R) (other : Out T → Then T S) (b : ℕ) → MayMake b m (Do op rest) → MayMake b m (Do op other)
    makes_so (Make value words) rest other b free = free
    makes_so (Load at) rest other b free = absurd free
    makes_so (Store at word) rest other b free = absurd free
    makes_so (Swap at word) rest other b free = absurd free
    makes_so (Add at by) rest other b free = absurd free
    makes_so (Or at bits) rest other b free = absurd free
    makes_so (Exchange at old new) rest other b free = absurd free
    makes_so (Take block) rest other b free = absurd free
    makes_so (Rewrite block value) rest other b free = absurd free
    makes_so (Room bucket) rest other b free = absurd free

    pub looks_kept : {R : Type 0} (plan : Plan T R) → May Can Took value_at less plan → (b : ℕ) → LooksAt b m plan → Kept plan b
    looks_kept (Turn rest) may b sees =
        let t = sees_kept (value_at less) (value_at m) (λ k v is. (value_was k v is).1) rest may b sees in
        let k = kept_so b t.0 t.1 in inl (k.0, k.1)
    looks_kept (Do op rest) may b (inl done) = let t = done_to op b may.0 done in let k = kept_so b t.0 t.1 in inl (k.0, k.1)
    looks_kept (Do op rest) may b (inr (out, n, took, sees)) =
        let ok = gives op out may.0 took.0 in
        let t = sees_kept (value_at (after less op out)) (value_at n) (λ k v is. ap (λ (x : Mem T). value_at x k) took.1 ∙ (left op out may.0 took.0 k v is).1) (rest out)
        (may.1 out (after less op out) (ok, refl)) b sees in
        elim (left op out may.0 took.0 b t.0 t.1).0 as (λ _. Kept (Do op rest) b) [
          | inl kept ↦ inl kept
          | inr made ↦ inr (makes_so op (λ o. Now tt) rest b made)
        ]
