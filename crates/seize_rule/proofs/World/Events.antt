-- The events of users, one by one: the world stays good.
use Rattle.std.specs.Prelude.{Option, Some, None, IsSome, Ok, Err, ◌%◌, ◌^◌, bit_or, slice_get, slice_set, slice_index_or, if◌then◌else◌}
use Rattle.std.proofs.Common.{◌≡◌, ℕ, zero, suc, ◌+◌, ◌-◌, ◌<◌, false, List, [], ◌∷◌, length, inr, refl, arith, subst, sym, ap, ◌∙◌}
use Rattle.std.proofs.lemmas.Bool.{ne_eqb, eq-eqb}
use Rattle.seize_moves.specs.Given.SeizeWordsMem.{Mem, value_at, value_in, word_at, word_in, block_of, with_word, with_word_in, with_block, after, Took}
use Rattle.seize_moves.specs.Given.SeizeWordsDeclared.at.At.{At}
use Rattle.seize_moves.specs.Given.SeizeWordsDeclared.at.At.TheVariants.{Root, Used, Slot, Entry, Word}
use Rattle.seize_moves.specs.Given.SeizeWordsDeclared.block.Block.{Block}
use Rattle.seize_moves.specs.Given.SeizeWordsOp.{Op, Out, Load, Store, Swap, Add, Or, Exchange, Make, Take, Rewrite, Room, Found, Stored, Exchanged, Made, Taken, Roomed}
use Rattle.seize_moves.proofs.Given.SeizeWordsOneOwner.AfterWrites.{placed}
use Rattle.seize_moves.specs.Given.SeizeWorld.{World, Making, NoBlock, with_hand, with_effect, IsOwn, IsOwnOp, HasListWord, made_by, Happens, Makes, Drops, Links, Parts, Unlinks, Rewrites, Operates, Chooses, Ends, LeavesOver, Relinks, Clears}
use Rattle.seize_moves.specs.Given.SeizeLaw.{Dropped, Effect, holds}
use Rattle.seize_moves.specs.Given.SeizeLaw as law
use Rattle.seize_moves.proofs.Moves.Moves.Blocks.{never_held}
use Rattle.seize_moves.proofs.Moves.Sets.Unmoved.{unmoved_same}
use Rattle.seize_rule.proofs.World.Good.{Good, StillGood}
use Rattle.seize_rule.proofs.World.Users.{made_good, dropped_good, links_good, parts_good, ends_good, unlinks_good, fits_of}
use Rattle.seize_rule.proofs.World.Ended.{left_over_good, relinked_good, cleared_good}
use Rattle.seize_rule.proofs.World.Own.{rewritten_good, chosen_good, word_good}
use Rattle.seize_moves.proofs.Moves.State.Moves.{left_over}

slice_set-missing : {X : Type 0} (xs : List X) (i : ℕ) (x : X) → slice_get xs i ≡ None → slice_set xs i x ≡ xs
slice_set-missing [] i x h = refl
slice_set-missing (y ∷ ys) zero x h = absurd (cc h)
slice_set-missing (y ∷ ys) (suc i) x h = ap (λ l. y ∷ l) (slice_set-missing ys i x h)

slice_set-same : {X : Type 0} (xs : List X) (i : ℕ) (d x : X) → slice_index_or xs i d ≡ x → i < length xs → slice_set xs i x ≡ xs
slice_set-same [] i d x h l = absurd (omega arith)
slice_set-same (y ∷ ys) zero d x h l = ap (λ z. z ∷ ys) (sym h)
slice_set-same (y ∷ ys) (suc i) d x h l = ap (λ z. y ∷ z) (slice_set-same ys i d x h (omega arith))

module _ {T : Type 0} where
  -- the block that stands at a number is put there
  same_block : (m : Mem T) (b : ℕ) (x : Block T) → block_of m b ≡ Some x → with_block m b (Some x) ≡ m
  same_block m b x is =
      let p = placed m b x is in
      let place : slice_index_or m.blocks (b - 1) None ≡ block_of m b =
      sym (ap (λ t. if t then None else slice_index_or m.blocks (b - 1) None) (ne_eqb b 0 (omega (arith, p.0)))) in
      ap (λ (l : List (Option (Block T))). record m { blocks = l }) (slice_set-same m.blocks (b - 1) None (Some x) (place ∙ is) p.1)

  block_there : (m : Mem T) (b : ℕ) (value : T) → value_at m b ≡ Some value → (x : Block T) × (block_of m b ≡ Some x)
  block_there m b value h = go (block_of m b) h
    where
      go : (o : Option (Block T)) → value_in o ≡ Some value → (x : Block T) × (o ≡ Some x)
      go None e = absurd (cc e)
      go (Some x) e = (x, refl)

  module _ (defers : T → Option ℕ) where
    -- a word of users that isn't there is not written
    pub missing : (m : Mem T) (at : At) (v : ℕ) → IsOwn defers m at → word_at m at ≡ None → with_word m at v ≡ m
    missing m (Root r) v own none = ap (λ (l : List ℕ). record m { roots = l }) (slice_set-missing m.roots r v none)
    missing m (Used r) v own none = ap (λ (l : List ℕ). record m { used = l }) (slice_set-missing m.used r v none)
    missing m (Slot s i) v own none = absurd own
    missing m (Entry b i) v own none = absurd own
    missing m (Word b d) v own none =
        let x = block_there m b own.0 own.1 in
        let gone : slice_get x.0.words d ≡ None = subst (λ (o : Option (Block T)). word_in o d ≡ None) x.1 none in
        let same : with_word_in (block_of m b) d v ≡ Some x.0 = ap (λ (o : Option (Block T)). with_word_in o d v) x.1
        ∙ ap (λ (l : List ℕ). Some (record x.0 { words = l })) (slice_set-missing x.0.words d v gone) in
        ap (λ (o : Option (Block T)). with_block m b o) same ∙ same_block m b x.0 x.1

module _ {T : Type 0} (defers : T → Option ℕ) (n size : ℕ) (w w2 : World T) (good : Good defers n size w) where
  by_memory : (mem2 : Mem T) → mem2 ≡ w.memory → StillGood defers n size good.state (record w { memory = mem2 })
  by_memory mem2 e = subst (λ (k : Mem T). StillGood defers n size good.state (record w { memory = k })) (sym e) (good, unmoved_same n good.state)

  -- whether the word is there or not
  by_word : (at : At) (v : ℕ) → IsOwn defers w.memory at → (mem2 : Mem T) → mem2 ≡ with_word w.memory at v → StillGood defers n size good.state (record w { memory = mem2 })
  by_word at v own mem2 e = subst (λ (k : Mem T). StillGood defers n size good.state (record w { memory = k })) (sym e) (go (word_at w.memory at) refl)
    where
      go : (o : Option ℕ) → word_at w.memory at ≡ o → StillGood defers n size good.state (record w { memory = with_word w.memory at v })
      go None h = by_memory (with_word w.memory at v) (missing defers w.memory at v own h)
      go (Some x) h = word_good defers n w good at v own (rw h refl)

  added : (at : At) (by : ℕ) (out : Out T) (mem2 : Mem T) → IsOwn defers w.memory at → mem2 ≡ after w.memory (Add at by) out → StillGood defers n size good.state (record w { memory = mem2 })
  added at by (Found x) mem2 own e = by_word at ((x + by) % 2 ^ 64) own mem2 e
  added at by Stored mem2 own e = by_memory mem2 e
  added at by (Exchanged r) mem2 own e = by_memory mem2 e
  added at by (Made r) mem2 own e = by_memory mem2 e
  added at by (Taken x) mem2 own e = by_memory mem2 e
  added at by (Roomed r) mem2 own e = by_memory mem2 e

  ored : (at : At) (bits : ℕ) (out : Out T) (mem2 : Mem T) → IsOwn defers w.memory at → mem2 ≡ after w.memory (Or at bits) out → StillGood defers n size good.state (record w { memory = mem2 })
  ored at bits (Found x) mem2 own e = by_word at (bit_or x bits) own mem2 e
  ored at bits Stored mem2 own e = by_memory mem2 e
  ored at bits (Exchanged r) mem2 own e = by_memory mem2 e
  ored at bits (Made r) mem2 own e = by_memory mem2 e
  ored at bits (Taken x) mem2 own e = by_memory mem2 e
  ored at bits (Roomed r) mem2 own e = by_memory mem2 e

  exchanged : (at : At) (old new : ℕ) (out : Out T) (mem2 : Mem T) → IsOwn defers w.memory at → mem2 ≡ after w.memory (Exchange at old new) out
      → StillGood defers n size good.state (record w { memory = mem2 })
  exchanged at old new (Found x) mem2 own e = by_memory mem2 e
  exchanged at old new Stored mem2 own e = by_memory mem2 e
  exchanged at old new (Exchanged (Ok x)) mem2 own e = by_word at new own mem2 e
  exchanged at old new (Exchanged (Err x)) mem2 own e = by_memory mem2 e
  exchanged at old new (Made r) mem2 own e = by_memory mem2 e
  exchanged at old new (Taken x) mem2 own e = by_memory mem2 e
  exchanged at old new (Roomed r) mem2 own e = by_memory mem2 e

  operated : (op : Op T) (out : Out T) (mem2 : Mem T) → IsOwnOp defers w.memory op → mem2 ≡ after w.memory op out → StillGood defers n size good.state (record w { memory = mem2 })
  operated (Load at) out mem2 own e = by_memory mem2 e
  operated (Store at new) out mem2 own e = by_word at new own mem2 e
  operated (Swap at new) out mem2 own e = by_word at new own mem2 e
  operated (Add at by) out mem2 own e = added at by out mem2 own e
  operated (Or at bits) out mem2 own e = ored at bits out mem2 own e
  operated (Exchange at old new) out mem2 own e = exchanged at old new out mem2 own e
  operated (Make value words) out mem2 own e = absurd own
  operated (Take b) out mem2 own e = absurd own
  operated (Rewrite b new) out mem2 own e = absurd own
  operated (Room bucket) out mem2 own e = absurd own

  pub operates_good : (op : Op T) → Happens defers size (Operates op) w w2 → StillGood defers n size good.state w2
  operates_good op h = subst (StillGood defers n size good.state) (sym h.4) (operated op h.0 h.1 h.2 (h.3.1))

  list_word : (o : Option ℕ) (words : ℕ) → HasListWord defers o words → (d : ℕ) → o ≡ Some d → d < words
  list_word None words h d e = absurd (cc e)
  list_word (Some k) words h d e = grind arith

  makes : (i : ℕ) (value : T) (words : ℕ) (out : Out T) (mem2 : Mem T) → HasListWord defers (defers value) words → Took w.memory (Make value words) out mem2 → StillGood defers n size good.state (made_by defers w i mem2 out)
  makes i value words (Found x) mem2 has took = absurd took.0
  makes i value words Stored mem2 has took = absurd took.0
  makes i value words (Exchanged r) mem2 has took = absurd took.0
  makes i value words (Made (Ok b)) mem2 has took =
      subst (λ (k : Mem T). StillGood defers n size good.state (with_effect (with_hand (record w { memory = k }) b (Making i)) (law.Made b))) (sym took.1)
      (made_good defers n w good i b value words took.0.0 took.0.1 (list_word (defers value) words has))
  makes i value words (Made (Err back)) mem2 has took = by_memory mem2 took.1
  makes i value words (Taken x) mem2 has took = absurd took.0
  makes i value words (Roomed r) mem2 has took = absurd took.0

  pub makes_good : (i : ℕ) (value : T) (words : ℕ) → Happens defers size (Makes i value words) w w2 → StillGood defers n size good.state w2
  makes_good i value words h = subst (StillGood defers n size good.state) (sym h.4) (makes i value words h.0 h.1 h.2 h.3)

  drops : (b : ℕ) (out : Out T) (mem2 : Mem T) → Took w.memory (Take b) out mem2 → IsSome (value_at w.memory b) × (mem2 ≡ with_block w.memory b None)
  drops b (Found x) mem2 took = absurd took.0
  drops b Stored mem2 took = absurd took.0
  drops b (Exchanged r) mem2 took = absurd took.0
  drops b (Made r) mem2 took = absurd took.0
  drops b (Taken x) mem2 took = (rw took.0 refl, took.1)
  drops b (Roomed r) mem2 took = absurd took.0

  pub drops_good : (i b : ℕ) → Happens defers size (Drops i b) w w2 → StillGood defers n size good.state w2
  drops_good i b h =
      let k = drops b h.0 h.1 h.3 in
      subst (StillGood defers n size good.state) (sym h.4)
      (subst (λ (mem : Mem T). StillGood defers n size good.state (with_effect (with_hand (record w { memory = mem }) b NoBlock) (Dropped b))) (sym k.1) (dropped_good defers n w good h.2.0 b (rw (fits_of defers n w good b (Making h.2.0) h.2.1) (eq-eqb h.2.0 h.2.0 refl))
      (inr (λ t. subst (λ (l : List Effect). holds t b l ≡ false) good.logged (never_held n h.2.0 good.state b good.inv (fits_of defers n w good b (Making h.2.0) h.2.1) t))) k.0))

  pub link_good : (i b o : ℕ) → Happens defers size (Links i b o) w w2 → StillGood defers n size good.state w2
  link_good i b o h = subst (StillGood defers n size good.state) (sym h.1) (links_good defers n w good h.0.0 b o h.0.1)

  pub end_good : (i o : ℕ) → Happens defers size (Ends i o) w w2 → StillGood defers n size good.state w2
  end_good i o h = subst (StillGood defers n size good.state) (sym h) (ends_good defers n w good o)

  pub part_good : (i b : ℕ) → Happens defers size (Parts i b) w w2 → StillGood defers n size good.state w2
  part_good i b h = subst (StillGood defers n size good.state) (sym h.1) (parts_good defers n w good i b h.0.0 h.0.1)

  pub unlink_good : (i b : ℕ) → Happens defers size (Unlinks i b) w w2 → StillGood defers n size good.state w2
  unlink_good i b h = subst (StillGood defers n size good.state) (sym h.1) (unlinks_good defers n w good i b h.0)

  pub rewrites_good : (i b : ℕ) (value : T) → Happens defers size (Rewrites i b value) w w2 → StillGood defers n size good.state w2
  rewrites_good i b value h =
      subst (StillGood defers n size good.state) (sym h.5) (subst (λ (mem : Mem T). StillGood defers n size good.state (record w { memory = mem })) (sym h.3.1) (rewritten_good defers n w good b value h.0 h.3.0 h.4))

  pub chooses_good : (choice : ℕ) → Happens defers size (Chooses choice) w w2 → StillGood defers n size good.state w2
  chooses_good choice h = subst (StillGood defers n size good.state) (sym h) (chosen_good defers n w good choice)

  pub leaves_over_good : (i b : ℕ) (further : List ℕ) → Happens defers size (LeavesOver i b further) w w2
      → (g : Good defers n size w2) × (g.state ≡ left_over good.state i b) × (further ≡ good.state.deferred b)
  leaves_over_good i b further h =
      subst (λ (v : World T). (g : Good defers n size v) × (g.state ≡ left_over good.state i b) × (further ≡ good.state.deferred b)) (sym h.4)
      (left_over_good defers n w good i b further h.0.0 h.0.1 h.1 h.2 h.3)

  pub relinks_good : (i b word : ℕ) → Happens defers size (Relinks i b word) w w2 → StillGood defers n size good.state w2
  relinks_good i b word h =
      subst (StillGood defers n size good.state) (sym h.4)
      (subst (λ (mem : Mem T). StillGood defers n size good.state (record w { memory = mem })) (sym h.3.1) (relinked_good defers n w good h.2.0 b word h.2.1))

  pub clears_good : (i b : ℕ) → Happens defers size (Clears i b) w w2 → StillGood defers n size good.state w2
  clears_good i b h =
      let k = drops b h.0 h.1 h.4 in
      subst (StillGood defers n size good.state) (sym h.5)
      (subst (λ (mem : Mem T). StillGood defers n size good.state (with_effect (with_hand (record w { memory = mem }) b NoBlock) (Dropped b))) (sym k.1) (cleared_good defers n w good h.2.0 b h.2.1 h.3 k.0))
