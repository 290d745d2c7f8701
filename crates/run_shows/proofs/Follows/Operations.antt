-- What one operation leaves of the values of blocks, by what is told of it.
use Rattle.std.specs.Prelude.{◌≡◌, ◌≢◌, ℕ, Option, Some, None, Ok, Err, IsSome, if◌then◌else◌, ◌⊎◌}
use Rattle.std.proofs.Common.{refl, ap, sym, subst, ◌∙◌, inl, inr}
use Rattle.std.proofs.lemmas.Bool.{ne_eqb, eq-eqb, cases_eq}
use Rattle.seize_words.specs.declared.at.At.{At}
use Rattle.seize_words.specs.OneMemory.Mem.{Mem, block_of, value_in, value_at, word_at, with_word, fresh, Can, Took}
use Rattle.seize_words.specs.OneMemory.Op.{Op, Out, Load, Store, Swap, Add, Or, Exchange, Make, Take, Rewrite, Room, Found, Stored, Exchanged, Made, Taken, Roomed}
use Rattle.seize_words.specs.OneMemory.Plan.{Plan, Turn, Do, May}
use Rattle.seize_words.proofs.OneMemory.OneOwner.AfterWrites.{value_at-with_word, value_at-with_value, block_of-with_block, block_of-made}
use Rattle.run_effects.proofs.Given.SeizeMemoryWords.Named.{block_there}
use Rattle.run_effects.specs.Given.TablesDeclared.node.Node.{Node}
use Rattle.run_effects.specs.Tells.Seen.{Seen, Unseen, Wrote, MadeOne, HadNoRoom, TookAway, NewValue, seen_of}
use Rattle.run_effects.proofs.Tells.Kept.{seen_kept}
use Rattle.run_effects.specs.ReportingMemory.Changed.{kind_of}
use Rattle.run_effects.specs.ReportingMemory.Tells.{observed_of, StepsObserved}
use Rattle.run_effects.specs.declared.changed.Changed.{Changed}
use Rattle.run_effects.specs.declared.changed.Changed.TheVariants as changed

module _ {K V : Type 0} (m m2 : Mem (Node K V)) where
  -- a block is there, or is not, as before
  pub record StaysThere (b : ℕ) : Type 0 where
    pub gone : value_at m b ≡ None → value_at m2 b ≡ None
    pub there : (value : Node K V) → value_at m b ≡ Some value → (after : Node K V) × (value_at m2 b ≡ Some after)

  -- which blocks are there, and what was written, by what is told
  abbrev pub LeavesBy : Changed → Type 0
  LeavesBy changed.Nothing = (b : ℕ) → StaysThere b
  LeavesBy (changed.Wrote at old new) = (word_at m at ≡ Some old) × (word_at m2 at ≡ Some new) × ((b : ℕ) → value_at m2 b ≡ value_at m b)
  LeavesBy (changed.Made kind b) = (value_at m b ≡ None) × (value : Node K V) × (kind_of value ≡ kind) × (value_at m2 b ≡ Some value) × ((x : ℕ) → x ≢ b → StaysThere x)
  LeavesBy (changed.Unmade kind) = (b : ℕ) → StaysThere b
  LeavesBy (changed.Took b) = IsSome (value_at m b) × (value_at m2 b ≡ None) × ((x : ℕ) → x ≢ b → StaysThere x)
  LeavesBy (changed.Roomed bucket had) = (b : ℕ) → StaysThere b

  stays_if : (b : ℕ) → value_at m2 b ≡ value_at m b → StaysThere b
  stays_if b e = record { gone = λ none. e ∙ none; there = λ value is. (value, e ∙ is) }

  pub stays_same : m2 ≡ m → (b : ℕ) → StaysThere b
  stays_same e b = stays_if b (ap (λ (n : Mem (Node K V)). value_at n b) e)

  wrote : (at : At) (old new : ℕ) → (word_at m at ≡ Some old) × (word_at m2 at ≡ Some new) → IsSome (word_at m at) → m2 ≡ with_word m at new → LeavesBy (changed.Wrote at old new)
  wrote at old new is some e = (is.0, is.1, λ b. ap (λ (n : Mem (Node K V)). value_at n b) e ∙ value_at-with_word m at new b some)

  pub leaves : (op : Op (Node K V)) (out : Out (Node K V)) → Can m op → Took m op out m2 → LeavesBy (observed_of op out (seen_of m op out))
  leaves (Load at) out can took = stays_same took.1
  leaves (Store at word) out can took = wrote at _ word (seen_kept m m2 at _ word (Store at word) out can took refl) can took.1
  leaves (Swap at word) (Found before) can took = wrote at before word (seen_kept m m2 at before word (Swap at word) (Found before) can took refl) can took.1
  leaves (Add at by) (Found before) can took = wrote at before _ (seen_kept m m2 at before _ (Add at by) (Found before) can took refl) can took.1
  leaves (Or at bits) (Found before) can took = wrote at before _ (seen_kept m m2 at before _ (Or at bits) (Found before) can took refl) can took.1
  leaves (Exchange at expected word) (Exchanged (Ok found)) can took =
      wrote at found word (seen_kept m m2 at found word (Exchange at expected word) (Exchanged (Ok found)) can took refl) can took.1
  leaves (Exchange at expected word) (Exchanged (Err found)) can took = stays_same took.1
  leaves (Make value words) (Made (Ok b)) can took = (
    ap value_in took.0.0.0,
    value,
    refl,
    ap (λ (n : Mem (Node K V)). value_at n b) took.1 ∙ ap value_in (block_of-made m value words b b took.0.0)
        ∙ ap (λ q. value_in (if q then Some (fresh value words) else block_of m b)) (eq-eqb b b refl),
    λ x ne. stays_if x (ap (λ (n : Mem (Node K V)). value_at n x) took.1 ∙ ap value_in (block_of-made m value words b x took.0.0)
        ∙ ap (λ q. value_in (if q then Some (fresh value words) else block_of m x)) (ne_eqb x b ne)),
  )
  leaves (Make value words) (Made (Err back)) can took = stays_same took.1
  leaves (Take b) out can took =
      let y = block_there m b can in (
        can,
        ap (λ (n : Mem (Node K V)). value_at n b) took.1 ∙ ap value_in (block_of-with_block m b b y.0 None y.1) ∙ ap (λ q. value_in (if q then None else block_of m b)) (eq-eqb b b refl),
        λ x ne. stays_if x (ap (λ (n : Mem (Node K V)). value_at n x) took.1 ∙ ap value_in (block_of-with_block m b x y.0 None y.1)
            ∙ ap (λ q. value_in (if q then None else block_of m x)) (ne_eqb x b ne)),
      )
  leaves (Rewrite b value) out can took = λ x. elim (cases_eq x b) as (λ _. StaysThere x) [
    | inl e ↦ record {
      gone = λ none. absurd (let some : IsSome (value_at m b) = can in let gone : value_at m b ≡ None = ap (value_at m) (sym e) ∙ none in none_not some gone);
      there = λ before is. (value, ap (λ (n : Mem (Node K V)). value_at n x) took.1 ∙ value_at-with_value m b value x can ∙ ap (λ q. if q then Some value else value_at m x) (eq-eqb x b e));
    }
    | inr ne ↦ stays_if x (ap (λ (n : Mem (Node K V)). value_at n x) took.1 ∙ value_at-with_value m b value x can ∙ ap (λ q. if q then Some value else value_at m x) (ne_eqb x b ne))
  ]
    where
      none_not : {o : Option (Node K V)} → IsSome o → o ≡ None → ⊥
      none_not some gone = absurd (let none : IsSome {T = Node K V} None = subst (λ (o : Option (Node K V)). IsSome o) gone some in cc none)
  leaves (Room bucket) (Roomed (Ok made)) can took = λ b. stays_if b (ap (λ (n : Mem (Node K V)). value_at n b) took.1)
  leaves (Room bucket) (Roomed (Err fault)) can took = stays_same took.1
  leaves (Swap at word) Stored can took = absurd took.0
  leaves (Swap at word) (Exchanged got) can took = absurd took.0
  leaves (Swap at word) (Made got) can took = absurd took.0
  leaves (Swap at word) (Taken got) can took = absurd took.0
  leaves (Swap at word) (Roomed got) can took = absurd took.0
  leaves (Add at by) Stored can took = absurd took.0
  leaves (Add at by) (Exchanged got) can took = absurd took.0
  leaves (Add at by) (Made got) can took = absurd took.0
  leaves (Add at by) (Taken got) can took = absurd took.0
  leaves (Add at by) (Roomed got) can took = absurd took.0
  leaves (Or at bits) Stored can took = absurd took.0
  leaves (Or at bits) (Exchanged got) can took = absurd took.0
  leaves (Or at bits) (Made got) can took = absurd took.0
  leaves (Or at bits) (Taken got) can took = absurd took.0
  leaves (Or at bits) (Roomed got) can took = absurd took.0
  leaves (Exchange at expected word) (Found word2) can took = absurd took.0
  leaves (Exchange at expected word) Stored can took = absurd took.0
  leaves (Exchange at expected word) (Made got) can took = absurd took.0
  leaves (Exchange at expected word) (Taken got) can took = absurd took.0
  leaves (Exchange at expected word) (Roomed got) can took = absurd took.0
  leaves (Make value words) (Found word2) can took = absurd took.0
  leaves (Make value words) Stored can took = absurd took.0
  leaves (Make value words) (Exchanged got) can took = absurd took.0
  leaves (Make value words) (Taken got) can took = absurd took.0
  leaves (Make value words) (Roomed got) can took = absurd took.0
  leaves (Room bucket) (Found word2) can took = absurd took.0
  leaves (Room bucket) Stored can took = absurd took.0
  leaves (Room bucket) (Exchanged got) can took = absurd took.0
  leaves (Room bucket) (Made got) can took = absurd took.0
  leaves (Room bucket) (Taken got) can took = absurd took.0

module _ {K V : Type 0} where
  unseen_no_write : (at : At) (old new : ℕ) (op : Op (Node K V)) (out : Out (Node K V)) → observed_of op out Unseen ≡ changed.Wrote at old new → ⊥
  unseen_no_write at old new (Load x) out e = cc e
  unseen_no_write at old new (Store x word) out e = cc e
  unseen_no_write at old new (Swap x word) out e = cc e
  unseen_no_write at old new (Add x by) out e = cc e
  unseen_no_write at old new (Or x bits) out e = cc e
  unseen_no_write at old new (Exchange x expected word) out e = cc e
  unseen_no_write at old new (Make value words) out e = cc e
  unseen_no_write at old new (Take b) out e = cc e
  unseen_no_write at old new (Rewrite b value) out e = cc e
  unseen_no_write at old new (Room bucket) (Found word) e = cc e
  unseen_no_write at old new (Room bucket) Stored e = cc e
  unseen_no_write at old new (Room bucket) (Exchanged got) e = cc e
  unseen_no_write at old new (Room bucket) (Made got) e = cc e
  unseen_no_write at old new (Room bucket) (Taken got) e = cc e
  unseen_no_write at old new (Room bucket) (Roomed got) e = cc e

  -- a word is told as written just where it is seen so
  pub seen_write : (at : At) (old new : ℕ) (op : Op (Node K V)) (out : Out (Node K V)) (seen : Seen (Node K V)) → observed_of op out seen ≡ changed.Wrote at old new → seen ≡ Wrote at old new
  seen_write at old new op out (Wrote x was is) e =
      let x_is : x ≡ at = cc e in let was_is : was ≡ old = cc e in let is_is : is ≡ new = cc e in rw (x_is, was_is, is_is) refl
  seen_write at old new op out (MadeOne value b) e = absurd (cc e)
  seen_write at old new op out (HadNoRoom value) e = absurd (cc e)
  seen_write at old new op out (TookAway b) e = absurd (cc e)
  seen_write at old new op out (NewValue b value) e = absurd (cc e)
  seen_write at old new op out Unseen e = absurd (unseen_no_write at old new op out e)

  pub told_write : (at : At) (old new : ℕ) (op : Op (Node K V)) (out : Out (Node K V)) (seen : Seen (Node K V)) → seen ≡ Wrote at old new → observed_of op out seen ≡ changed.Wrote at old new
  told_write at old new op out seen e = ap (observed_of op out) e

  -- a step was taken, of which this is told: it made one operation, or none
  pub record MadeOperation (m m2 : Mem (Node K V)) (told : Changed) : Type 0 where
    pub op : Op (Node K V)
    pub out : Out (Node K V)
    pub can : Can m op
    pub took : Took m op out m2
    pub is : told ≡ observed_of op out (seen_of m op out)

  abbrev pub Operated : Mem (Node K V) → Mem (Node K V) → Changed → Type 0
  Operated m m2 told = ((m2 ≡ m) × (told ≡ changed.Nothing)) ⊎ MadeOperation m m2 told

  pub operated : {R : Type 0} (m m2 : Mem (Node K V)) (told : Changed) (plan : Plan (Node K V) R) (end : R) → May Can Took value_at m plan
      → StepsObserved K V R m changed.Nothing plan m2 told end → Operated m m2 told
  operated m m2 told (Turn rest) end may steps = inl (steps.0, steps.2)
  operated m m2 told (Do op rest) end may steps = inr (record { op = op; out = steps.0; can = may.0; took = steps.1.0; is = steps.1.1 })

  -- by which the values are as is told
  pub operated_leaves : (m m2 : Mem (Node K V)) (told : Changed) → Operated m m2 told → LeavesBy m m2 told
  operated_leaves m m2 told (inl (same, is)) = subst (LeavesBy m m2) (sym is) (stays_same m m2 same)
  operated_leaves m m2 told (inr made) = subst (LeavesBy m m2) (sym made.is) (leaves m m2 made.op made.out made.can made.took)
