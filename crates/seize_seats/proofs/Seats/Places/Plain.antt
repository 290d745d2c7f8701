-- A memory as rules see it, which speak of values alone: an operation is the same there, and what lies under other numbers stays.
use Rattle.std.specs.Prelude.{◌≡◌, ◌≢◌, ℕ, zero, suc, ◌+◌, ◌-◌, ◌%◌, ◌^◌, ◌==◌, Bool, true, false, List, [], ◌∷◌, ◌++◌, length, drop, Option, Some, None, IsSome, Ok, Err, map, replicate, slice_set, slice_index_or, if◌then◌else◌, nat_lt, bit_or}
use Rattle.std.proofs.Common.{refl, sym, ap, ◌∙◌, subst}
use Rattle.std.proofs.Math.ListN.{get_or-map}
use Rattle.std.proofs.lemmas.Bool.{ne_eqb}
use Rattle.std.proofs.lemmas.List.{map-set, map-append, length-map}
use Rattle.seize_words.specs.OneMemory.Mem.{Mem, Can, Gives, after, block_of, value_in, value_at, entry_in, word_in, with_entry, with_word_in, with_value_in, word_at, with_word, with_block, with_value, with_made, fresh, IsFreeNumber}
use Rattle.seize_words.specs.OneMemory.Op.{Op, Out, Load, Store, Swap, Add, Or, Exchange, Make, Take, Rewrite, Room, Found, Stored, Exchanged, Made, Taken, Roomed}
use Rattle.seize_words.specs.declared.at.At.{At}
use Rattle.seize_words.specs.declared.at.At.TheVariants.{Root, Used, Slot, Entry, Word}
use Rattle.seize_words.specs.declared.block.Block.{Block}
use Rattle.seize_words.proofs.OneMemory.OneOwner.AfterWrites.{block_of-with_block, block_of-made, value_at-with_word, value_at-with_value}
use Rattle.seize_seats.specs.Seats.Visits.{plain_block, plain_memory, plain_op, plain_out}

-- ---- what a rule sees of an operation
module _ {D T : Type 0} (value : D → T) where
  abbrev block : Option (Block D) → Option (Block T)
  block = plain_block value

  abbrev memory : Mem D → Mem T
  memory = plain_memory value

  pub block_at : (m : Mem D) (b : ℕ) → block_of (memory m) b ≡ block (block_of m b)
  block_at m b = by (b == 0)
    where
      by : (y : Bool) → (if y then None else slice_index_or (map block m.blocks) (b - 1) None) ≡ block (if y then None else slice_index_or m.blocks (b - 1) None)
      by true = refl
      by false = get_or-map block m.blocks (b - 1) None

  entry_plain : (x : Option (Block D)) (i : ℕ) → entry_in (block x) i ≡ entry_in x i
  entry_plain None i = refl
  entry_plain (Some x) i = refl

  own_plain : (x : Option (Block D)) (i : ℕ) → word_in (block x) i ≡ word_in x i
  own_plain None i = refl
  own_plain (Some x) i = refl

  word_plain : (m : Mem D) (at : At) → word_at (memory m) at ≡ word_at m at
  word_plain m (Root r) = refl
  word_plain m (Used r) = refl
  word_plain m (Slot s field) = refl
  word_plain m (Entry b i) = ap (λ x. entry_in x i) (block_at m b) ∙ entry_plain (block_of m b) i
  word_plain m (Word b i) = ap (λ x. word_in x i) (block_at m b) ∙ own_plain (block_of m b) i

  pub value_plain : (x : Option (Block D)) (v : D) → value_in x ≡ Some v → value_in (block x) ≡ Some (value v)
  value_plain None v e = absurd (cc e)
  value_plain (Some x) v e = let same : x.value ≡ v = cc e in ap (λ u. Some (value u)) same

  value_there : (x : Option (Block D)) → IsSome (value_in (block x)) → IsSome (value_in x)
  value_there None some = absurd (cc some)
  value_there (Some x) some = refl

  -- it is as plain whichever block is set
  pub set_plain : (m : Mem D) (b : ℕ) (x : Option (Block D)) → memory (with_block m b x) ≡ with_block (memory m) b (block x)
  set_plain m b x = ap (λ (l : List (Option (Block T))). record { roots = m.roots; used = m.used; slots = m.slots; blocks = l; choices = m.choices }) (map-set block m.blocks (b - 1) x)

  entry_set : (x : Option (Block D)) (i w : ℕ) → block (with_entry x i w) ≡ with_entry (block x) i w
  entry_set None i w = refl
  entry_set (Some x) i w = refl

  own_set : (x : Option (Block D)) (i w : ℕ) → block (with_word_in x i w) ≡ with_word_in (block x) i w
  own_set None i w = refl
  own_set (Some x) i w = refl

  value_set : (x : Option (Block D)) (v : D) → block (with_value_in x v) ≡ with_value_in (block x) (value v)
  value_set None v = refl
  value_set (Some x) v = refl

  with_plain : (m : Mem D) (at : At) (w : ℕ) → memory (with_word m at w) ≡ with_word (memory m) at w
  with_plain m (Root r) w = refl
  with_plain m (Used r) w = refl
  with_plain m (Slot s field) w = refl
  with_plain m (Entry b i) w = set_plain m b (with_entry (block_of m b) i w)
      ∙ ap (with_block (memory m) b) (entry_set (block_of m b) i w ∙ ap (λ x. with_entry x i w) (sym (block_at m b)))
  with_plain m (Word b i) w = set_plain m b (with_word_in (block_of m b) i w)
      ∙ ap (with_block (memory m) b) (own_set (block_of m b) i w ∙ ap (λ x. with_word_in x i w) (sym (block_at m b)))

  value_with : (m : Mem D) (b : ℕ) (v : D) → memory (with_value m b v) ≡ with_value (memory m) b (value v)
  value_with m b v = set_plain m b (with_value_in (block_of m b) v)
      ∙ ap (with_block (memory m) b) (value_set (block_of m b) v ∙ ap (λ x. with_value_in x (value v)) (sym (block_at m b)))

  nones : (n : ℕ) → map block (replicate n None) ≡ replicate n None
  nones zero = refl
  nones (suc n) = ap (λ l. None ∷ l) (nones n)

  made_plain : (xs : List (Option (Block D))) (b : ℕ) (v : D) (k : ℕ) → map block (with_made xs b (fresh v k)) ≡ with_made (map block xs) b (fresh (value v) k)
  made_plain xs b v k = by (nat_lt (length xs) b) ∙ ap (λ (n : ℕ). made n) (sym (length-map xs block))
    where
      made : ℕ → List (Option (Block T))
      made n = if nat_lt n b then map block xs ++ (replicate (b - 1 - n) None ++ Some (fresh (value v) k) ∷ []) else slice_set (map block xs) (b - 1) (Some (fresh (value v) k))

      n : ℕ
      n = length xs

      by : (y : Bool) → map block (if y then xs ++ (replicate (b - 1 - n) None ++ Some (fresh v k) ∷ []) else slice_set xs (b - 1) (Some (fresh v k)))
          ≡ (if y then map block xs ++ (replicate (b - 1 - n) None ++ Some (fresh (value v) k) ∷ []) else slice_set (map block xs) (b - 1) (Some (fresh (value v) k)))
      by true = map-append block xs (replicate (b - 1 - n) None ++ Some (fresh v k) ∷ [])
          ∙ ap (λ l. map block xs ++ l) (map-append block (replicate (b - 1 - n) None) (Some (fresh v k) ∷ []) ∙ ap (λ l. l ++ Some (fresh (value v) k) ∷ []) (nones (b - 1 - n)))
      by false = map-set block xs (b - 1) (Some (fresh v k))

  pub after_plain : (m : Mem D) (op : Op D) (out : Out D) → memory (after m op out) ≡ after (memory m) (plain_op value op) (plain_out value out)
  after_plain m (Store at new) out = with_plain m at new
  after_plain m (Swap at new) out = with_plain m at new
  after_plain m (Add at by) (Found w) = with_plain m at ((w + by) % 2 ^ 64)
  after_plain m (Or at bits) (Found w) = with_plain m at (bit_or w bits)
  after_plain m (Exchange at old new) (Exchanged (Ok w)) = with_plain m at new
  after_plain m (Make v words) (Made (Ok b)) =
      ap (λ (l : List (Option (Block T))). record { roots = m.roots; used = m.used; slots = m.slots; blocks = l; choices = drop 1 m.choices }) (made_plain m.blocks b v words)
  after_plain m (Take b) out = set_plain m b None
  after_plain m (Rewrite b v) out = value_with m b v
  after_plain m (Room bucket) (Roomed (Ok made)) = refl
  after_plain m _ _ = refl

  pub gives_plain : (m : Mem D) (op : Op D) (out : Out D) → Gives m op out → Gives (memory m) (plain_op value op) (plain_out value out)
  gives_plain m (Load at) (Found w) g = word_plain m at ∙ g
  gives_plain m (Store at new) Stored g = tt
  gives_plain m (Swap at new) (Found w) g = word_plain m at ∙ g
  gives_plain m (Add at by) (Found w) g = word_plain m at ∙ g
  gives_plain m (Or at bits) (Found w) g = word_plain m at ∙ g
  gives_plain m (Exchange at old new) (Exchanged (Ok w)) g = (word_plain m at ∙ g.0, g.1)
  gives_plain m (Exchange at old new) (Exchanged (Err w)) g = (word_plain m at ∙ g.0, g.1)
  gives_plain m (Make v words) (Made (Ok b)) g = ((block_at m b ∙ ap block g.0.0, g.0.1), g.1)
  gives_plain m (Make v words) (Made (Err back)) g = ap value g
  gives_plain m (Take b) (Taken v) g = ap value_in (block_at m b) ∙ value_plain (block_of m b) v g
  gives_plain m (Rewrite b new) (Taken v) g = ap value_in (block_at m b) ∙ value_plain (block_of m b) v g
  gives_plain m (Room bucket) (Roomed (Ok made)) g = tt
  gives_plain m (Room bucket) (Roomed (Err fault)) g = g
  gives_plain m _ _ g = absurd g

  pub can_plain : (m : Mem D) (op : Op D) → Can (memory m) (plain_op value op) → Can m op
  can_plain m (Load at) can = subst IsSome (word_plain m at) can
  can_plain m (Store at w) can = subst IsSome (word_plain m at) can
  can_plain m (Swap at w) can = subst IsSome (word_plain m at) can
  can_plain m (Add at w) can = subst IsSome (word_plain m at) can
  can_plain m (Or at w) can = subst IsSome (word_plain m at) can
  can_plain m (Exchange at old new) can = subst IsSome (word_plain m at) can
  can_plain m (Make v words) can = tt
  can_plain m (Take b) can = value_there (block_of m b) (subst IsSome (ap value_in (block_at m b)) can)
  can_plain m (Rewrite b new) can = value_there (block_of m b) (subst IsSome (ap value_in (block_at m b)) can)
  can_plain m (Room bucket) can = can

  pub value_of_block : (m : Mem D) (b : ℕ) → IsSome (value_at (memory m) b) → IsSome (value_at m b)
  value_of_block m b some = value_there (block_of m b) (subst IsSome (ap value_in (block_at m b)) some)

-- ---- what lies under numbers
module _ {D : Type 0} where
  -- the operation is on a word, or asks for room
  abbrev pub IsOnWord : Op D → Type 0
  IsOnWord (Make x words) = ⊥
  IsOnWord (Take b) = ⊥
  IsOnWord (Rewrite b x) = ⊥
  IsOnWord _ = Unit {0}

  pub value_after : (m : Mem D) (op : Op D) (out : Out D) (b : ℕ) → IsOnWord op → Can m op → value_at (after m op out) b ≡ value_at m b
  value_after m (Make x words) out b on can = absurd on
  value_after m (Take k) out b on can = absurd on
  value_after m (Rewrite k x) out b on can = absurd on
  value_after m (Store at new) out b on can = value_at-with_word m at new b can
  value_after m (Swap at new) out b on can = value_at-with_word m at new b can
  value_after m (Add at by) (Found w) b on can = value_at-with_word m at ((w + by) % 2 ^ 64) b can
  value_after m (Or at bits) (Found w) b on can = value_at-with_word m at (bit_or w bits) b can
  value_after m (Exchange at old new) (Exchanged (Ok w)) b on can = value_at-with_word m at new b can
  value_after m (Room bucket) (Roomed (Ok made)) b on can = refl
  value_after m _ _ b on can = refl

  block_there : (o : Option (Block D)) → IsSome (value_in o) → (x : Block D) × (o ≡ Some x)
  block_there None some = absurd (cc some)
  block_there (Some x) some = (x, refl)

  -- of another number all is as it was
  pub made_apart : (m : Mem D) (v : D) (words b k : ℕ) → IsFreeNumber m b → k ≢ b → value_at (after m (Make v words) (Made (Ok b))) k ≡ value_at m k
  made_apart m v words b k free ne = ap value_in (block_of-made m v words b k free ∙ ap (λ y. if y then Some (fresh v words) else block_of m k) (ne_eqb k b ne))

  pub taken_apart : (m : Mem D) (b k : ℕ) → IsSome (value_at m b) → k ≢ b → value_at (with_block m b None) k ≡ value_at m k
  taken_apart m b k some ne = let x = block_there (block_of m b) some in
      ap value_in (block_of-with_block m b k x.0 None x.1 ∙ ap (λ y. if y then None else block_of m k) (ne_eqb k b ne))

  pub rewritten_apart : (m : Mem D) (b : ℕ) (v : D) (k : ℕ) → IsSome (value_at m b) → k ≢ b → value_at (with_value m b v) k ≡ value_at m k
  rewritten_apart m b v k some ne = value_at-with_value m b v k some ∙ ap (λ y. if y then Some v else value_at m k) (ne_eqb k b ne)
