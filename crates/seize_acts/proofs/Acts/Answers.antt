-- What is computed of an operation or a step is what the memory may answer, and what the step may come to; and the other way round.
use Rattle.std.specs.Prelude.{Option, Some, None, Ok, Err, ◌==◌, ◌&&◌, nat_lt, length}
use Rattle.std.proofs.Common.{◌≡◌, ℕ, ◌+◌, ◌^◌, ◌<◌, Bool, true, false, refl, sym, subst, arith}
use Rattle.std.specs.Option.{is_none}
use Rattle.seize_words.specs.declared.at.At.{At}
use Rattle.seize_words.specs.declared.block.Block.{Block}
use Rattle.seize_words.specs.declared.fault.Fault.TheVariants.{Memory}
use Rattle.seize_words.specs.OneMemory.Op.{Op, Out, Load, Store, Swap, Add, Or, Exchange, Make, Take, Rewrite, Room, Found, Stored, Made, Taken, Roomed}
use Rattle.seize_words.specs.OneMemory.Mem.{Mem, Gives, Took, after, value_at, word_at, block_of, IsFreeNumber}
use Rattle.seize_words.specs.OneMemory.Place.{capacity}
use Rattle.seize_words.specs.OneMemory.Plan.{Plan, Then, Turn, Do, Now, Seeing, Sure, Ends, Steps}
use Rattle.seize_acts.specs.Acts.Answers.{Grant, then_on, given, found, stored, compared, exchanged, taken, is_free, answer, ends, stepped}
use Rattle.seize_words.proofs.General.{same_some}

pub some : {X Y : Type 0} (o : Option X) (f : X → Option Y) (y : Y) → then_on o f ≡ Some y → (x : X) × (o ≡ Some x) × (f x ≡ Some y)
some None f y e = absurd (cc e)
some (Some x) f y e = (x, refl, e)

pub given_is : {X : Type 0} (y : Bool) (x z : X) → given y x ≡ Some z → (y ≡ true) × (z ≡ x)
given_is true x z e = (refl, sym (same_some x z e))
given_is false x z e = absurd (cc e)

module _ {T : Type 0} where
  was_free : (m : Mem T) (b : ℕ) → is_free m b ≡ true → IsFreeNumber m b × (b < 2 ^ 53)
  was_free m b = by (block_of m b)
    where
      by : (o : Option (Block T)) → (is_none o && nat_lt 0 b && nat_lt b (2 ^ 53)) ≡ true → ((o ≡ None) × (0 < b)) × (b < 2 ^ 53)
      by None e = ((refl, grind (arith, e)), grind (arith, e))
      by (Some x) e = absurd (cc e)

  exchanged_so : (m : Mem T) (at : At) (old new w : ℕ) (out : Out T) → word_at m at ≡ Some w → (y : Bool) → (w == old) ≡ y → compared w y ≡ out → Gives m (Exchange at old new) out
  exchanged_so m at old new w out e true q k = subst (λ (o : Out T). Gives m (Exchange at old new) o) k (e, grind (arith, q))
  exchanged_so m at old new w out e false q k = subst (λ (o : Out T). Gives m (Exchange at old new) o) k (e, λ same. absurd (grind (arith, q, same)))

  found_so : (m : Mem T) (op : Op T) (o : Option ℕ) (out : Out T) → ((w : ℕ) → o ≡ Some w → Gives m op (Found w)) → found o ≡ Some out → Gives m op out
  found_so m op None out h e = absurd (cc e)
  found_so m op (Some w) out h e = subst (λ (x : Out T). Gives m op x) (same_some (Found w) out e) (h w refl)

  taken_so : (m : Mem T) (op : Op T) (o : Option T) (out : Out T) → ((value : T) → o ≡ Some value → Gives m op (Taken value)) → taken o ≡ Some out → Gives m op out
  taken_so m op None out h e = absurd (cc e)
  taken_so m op (Some value) out h e = subst (λ (x : Out T). Gives m op x) (same_some (Taken value) out e) (h value refl)

  -- the answer is one that the operation gives
  pub answer_gives : (m : Mem T) (g : Grant) (op : Op T) (out : Out T) → answer m g op ≡ Some out → Gives m op out
  answer_gives m g (Load at) out e = found_so m (Load at) (word_at m at) out (λ w k. k) e
  answer_gives m g (Swap at w) out e = found_so m (Swap at w) (word_at m at) out (λ w k. k) e
  answer_gives m g (Add at w) out e = found_so m (Add at w) (word_at m at) out (λ w k. k) e
  answer_gives m g (Or at w) out e = found_so m (Or at w) (word_at m at) out (λ w k. k) e
  answer_gives m g (Store at w) out e = by (word_at m at) e
    where
      by : (o : Option ℕ) → stored o ≡ Some out → Gives m (Store at w) out
      by None k = absurd (cc k)
      by (Some v) k = subst (λ (x : Out T). Gives m (Store at w) x) (same_some Stored out k) tt
  answer_gives m g (Exchange at old new) out e = by (word_at m at) refl e
    where
      by : (o : Option ℕ) → word_at m at ≡ o → exchanged old o ≡ Some out → Gives m (Exchange at old new) out
      by None q k = absurd (cc k)
      by (Some w) q k = exchanged_so m at old new w out q (w == old) refl (same_some (compared w (w == old)) out k)
  answer_gives m None (Make value words) out e = subst (λ (x : Out T). Gives m (Make value words) x) (same_some (Made (Err value)) out e) refl
  answer_gives m (Some b) (Make value words) out e =
      let k = given_is (is_free m b) (Made (Ok b)) out e in
      subst (λ (x : Out T). Gives m (Make value words) x) (sym k.1) (was_free m b k.0)
  answer_gives m g (Take b) out e = taken_so m (Take b) (value_at m b) out (λ value k. k) e
  answer_gives m g (Rewrite b value) out e = taken_so m (Rewrite b value) (value_at m b) out (λ before k. k) e
  answer_gives m None (Room bucket) out e =
      let k = given_is (length m.slots + 32 == capacity bucket) (Roomed (Err Memory)) out e in
      subst (λ (x : Out T). Gives m (Room bucket) x) (sym k.1) (refl, grind (arith, k.0))
  answer_gives m (Some n) (Room bucket) out e = subst (λ (x : Out T). Gives m (Room bucket) x) (same_some (Roomed (Ok tt)) out e) tt

module _ {T R : Type 0} where
  pub ended : (shown : ℕ → Option T) (rest : Then T R) (end : R) → ends shown rest ≡ Some end → Ends shown rest end
  ended shown (Now x) end e = sym (cc e)
  ended shown (Seeing block rest) end e = let s = some (shown block) (λ value. ends shown (rest value)) end e in (s.0, s.1, ended shown (rest s.0) end s.2)
  ended shown (Sure fact rest) end e = ended shown rest end e

  -- a step that comes to something was taken
  pub was_stepped : (m : Mem T) (g : Grant) (plan : Plan T R) (p : Mem T × R) → stepped m g plan ≡ Some p → Steps Took value_at m plan p.0 p.1
  was_stepped m g (Turn rest) p e =
      let s = some (ends (value_at m) rest) (λ x. Some (m, x)) p e in
      subst (λ (q : Mem T × R). Steps Took value_at m (Turn rest) q.0 q.1) (same_some (m, s.0) p s.2) (refl, ended (value_at m) rest s.0 s.1)
  was_stepped m g (Do op rest) p e =
      let s = some (answer m g op) (λ out. then_on (ends (value_at (after m op out)) (rest out)) (λ x. Some (after m op out, x))) p e in
      let t = some (ends (value_at (after m op s.0)) (rest s.0)) (λ x. Some (after m op s.0, x)) p s.2 in
      subst (λ (q : Mem T × R). Steps Took value_at m (Do op rest) q.0 q.1) (same_some (after m op s.0, t.0) p t.2)
      (s.0, (answer_gives m g op s.0 s.1, refl), ended (value_at (after m op s.0)) (rest s.0) t.0 t.1)
