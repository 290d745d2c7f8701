-- How the words of a memory show the state with its lists.
use Rattle.std.specs.Prelude.{Option, Some, None, is_some}
use Rattle.std.proofs.Common.{◌≡◌, ℕ, ◌+◌, ◌%◌, ◌^◌, ◌<◌, Bool, true, false, cond, eqb, List, [], ◌∷◌, length, refl, ap}
use Rattle.seize_moves.specs.Waiting.Held.{same, count}
use Rattle.seize_moves.proofs.Moves.State.Ghost.{Entry, Head, Never, Free, Idle, Active, Stage, Unused, Open, Closing, Closed, Dead, Life, IsFree, IsOwned, IsLinked, IsUnlinked, IsDeferring, IsDeferred, IsPending, IsIn, IsDoomed, IsLeft, State, list_of, of_row}
use Rattle.seize_moves.proofs.Moves.State.Rule.{IsOf}
use Rattle.seize_moves.proofs.Memory.Words.Named.{link}
use Rattle.seize_moves.proofs.Memory.Words.Chains.{Chain, first_or, last_of, blocks_of, waiting, Marks}
use Rattle.seize_moves.proofs.Memory.Words.View.{View}

-- where a block's retirement entry is
pub data Spot : Type 0 where
  Nowhere : Spot
  Unspent : ℕ → Spot  -- its batch has not used it yet
  On : ℕ → ℕ → Spot  -- on this slot's list, of this batch
  InHands : ℕ → ℕ → Spot  -- taken off by this row, of this batch

-- what the rows know beside the state: the words of their lists
pub record Extra : Type 0 where
  pub spot : ℕ → Spot  -- by block
  pub rest : ℕ → List ℕ  -- by batch: the blocks whose entry is not used yet
  pub aimed : ℕ → Bool  -- by batch: the mark of the first of them was read, and may be written over
  pub behind : ℕ → ℕ  -- by batch: the word behind its last block, while it is open
  pub hand : ℕ → ℕ  -- by row: the word of its loose list
  pub pends : ℕ → ℕ  -- by row: the word of its list of blocks to be retired
  pub popped : ℕ → Bool  -- by row: the first of them is on its way into the batch, and the word is of those behind it
  pub lefts : ℕ → ℕ  -- by row: the word of the blocks that it still has to take
  pub put_first : ℕ → ℕ  -- by row: the word of the blocks that were deferred until these
  pub drained : ℕ → Bool  -- by block: its list was taken over, and its word is what it was

-- heads

abbrev pub HeadIs : (ℕ → ℕ) → ℕ → Head → Type 0
HeadIs links w Never = w ≡ 0
HeadIs links w Free = w ≡ 1
HeadIs links w Idle = w ≡ 2
HeadIs links w (Active es) = Chain 3 links w (blocks_of es)

-- how many entries lie in block c and are of batch b
abbrev pub both : ℕ → ℕ → Entry → ℕ
both c b e = cond (eqb c e.block) (same b e.batch) 0

abbrev pub stands : ℕ → ℕ → List Entry → ℕ
stands c b [] = 0
stands c b (e ∷ es) = both c b e + stands c b es

abbrev pub is_on : ℕ → ℕ → Spot → ℕ
is_on t b Nowhere = 0
is_on t b (Unspent x) = 0
is_on t b (On u x) = cond (eqb t u) (same b x) 0
is_on t b (InHands u x) = 0

abbrev pub is_in_hands : ℕ → ℕ → Spot → ℕ
is_in_hands i b Nowhere = 0
is_in_hands i b (Unspent x) = 0
is_in_hands i b (On u x) = 0
is_in_hands i b (InHands j x) = cond (eqb i j) (same b x) 0

abbrev pub is_unspent : ℕ → Spot → ℕ
is_unspent b Nowhere = 0
is_unspent b (Unspent x) = same b x
is_unspent b (On u x) = 0
is_unspent b (InHands u x) = 0

abbrev pub SpotLife : Spot → Life → Type 0
SpotLife Nowhere l = Unit {0}
SpotLife (Unspent b) l = l ≡ IsIn b
SpotLife (On t b) l = l ≡ IsIn b
SpotLife (InHands i b) l = l ≡ IsIn b

-- batches

-- a slot's word of its open batch, by its holder and the batch's blocks
abbrev pub batch_word : ℕ → List ℕ → ℕ
batch_word h bs = cond (eqb h 0) (link (last_of bs)) 1

abbrev pub LinkedIs : (ℕ → ℕ) → ℕ → Stage → List ℕ → Type 0
LinkedIs nexts e Unused bs = e ≡ 0
LinkedIs nexts e (Open s) bs = Chain e nexts (first_or e bs) bs
LinkedIs nexts e (Closing i) bs = Chain 0 nexts (first_or 0 bs) bs
LinkedIs nexts e Closed bs = Chain 0 nexts (first_or 0 bs) bs
LinkedIs nexts e Dead bs = Unit {0}

-- a batch that no row holds is linked to its end
abbrev pub EndIs : (ℕ → ℕ) → ℕ → Stage → Type 0
EndIs holder e (Open s) = cond (eqb (holder s) 0) e 0 ≡ 0
EndIs holder e _ = Unit {0}

abbrev pub FirstIs : ℕ → (ℕ → List ℕ) → Life → Type 0
FirstIs w blocks (IsIn b) = w ≡ first_or 0 (blocks b)
FirstIs w blocks _ = Unit {0}

-- the count of a batch's first block: its length, and from its closing on its counter
abbrev pub CountIs : (ℕ → ℕ) → Stage → ℕ → List ℕ → Type 0
CountIs counts stage k [] = Unit {0}
CountIs counts Unused k (c ∷ l) = Unit {0}
CountIs counts (Open s) k (c ∷ l) = counts c ≡ length (c ∷ l) % 2 ^ 64
CountIs counts (Closing i) k (c ∷ l) = counts c ≡ k
CountIs counts Closed k (c ∷ l) = counts c ≡ k
CountIs counts Dead k (c ∷ l) = Unit {0}

-- a block that is in no batch and was in none has no count
abbrev pub ZeroIs : ℕ → Life → Type 0
ZeroIs w (IsIn b) = Unit {0}
ZeroIs w (IsDoomed i) = Unit {0}
ZeroIs w _ = w ≡ 0

abbrev pub RestIs : Stage → List ℕ → Bool → List ℕ → Type 0
RestIs Unused rs a bs = (rs ≡ []) × (bs ≡ []) × (a ≡ false)
RestIs (Open s) rs a bs = (rs ≡ bs) × (a ≡ false)
RestIs _ rs a bs = Unit {0}

-- deferred blocks

abbrev pub DeferredIs : (ℕ → ℕ) → (ℕ → ℕ) → Option ℕ → Bool → List ℕ → Type 0
DeferredIs nexts own None drained l = Unit {0}
DeferredIs nexts own (Some d) true l = Unit {0}
DeferredIs nexts own (Some d) false l = Chain 0 nexts (own d) l

-- a block that was in no list since it was made links to none
abbrev pub NextIs : ℕ → Life → Type 0
NextIs w IsFree = w ≡ 0
NextIs w (IsOwned i) = w ≡ 0
NextIs w IsLinked = w ≡ 0
NextIs w (IsUnlinked i) = w ≡ 0
NextIs w _ = Unit {0}

abbrev pub DrainedIs : Life → Bool → Type 0
DrainedIs (IsDoomed i) d = Unit {0}
DrainedIs (IsLeft i) d = Unit {0}
DrainedIs _ d = d ≡ false

-- a block lives from its making to its taking
abbrev pub lives : Life → Bool
lives IsFree = false
lives (IsOwned i) = true
lives IsLinked = true
lives (IsUnlinked i) = true
lives (IsDeferring i s t) = true
lives (IsDeferred t) = true
lives (IsPending i) = true
lives (IsIn x) = true
lives (IsDoomed i) = true
lives (IsLeft i) = true

-- and may have a list if its value says so
abbrev pub CarrierIs : Life → Bool → Option ℕ → Type 0
CarrierIs IsFree k d = Unit {0}
CarrierIs _ k d = k ≡ is_some d

-- slots' lists, what was taken off them, and the marks of the batches that are tried
pub record Entries (links heads : ℕ → ℕ) (head : ℕ → Head) (loose : ℕ → List Entry) (todo : ℕ → List ℕ) (stage : ℕ → Stage) (blocks : ℕ → List ℕ) (life : ℕ → Life)
    (spot : ℕ → Spot) (rest : ℕ → List ℕ) (aimed : ℕ → Bool) (hand : ℕ → ℕ) : Type 0 where
  pub headed : (t : ℕ) → HeadIs links (heads t) (head t)
  pub loosed : (i : ℕ) → Chain 3 links (hand i) (blocks_of (loose i))
  pub marks : (b : ℕ) → Marks links (waiting (aimed b) (rest b)) (waiting (aimed b) (todo b))
  pub rests : (b : ℕ) → RestIs (stage b) (rest b) (aimed b) (blocks b)
  pub on : (t b c : ℕ) → stands c b (list_of (head t)) ≡ is_on t b (spot c)
  pub hands : (i b c : ℕ) → stands c b (loose i) ≡ is_in_hands i b (spot c)
  pub unspent : (b c : ℕ) → count c (rest b) ≡ is_unspent b (spot c)
  pub spots : (c : ℕ) → SpotLife (spot c) (life c)

-- the batches that are not reclaimed
pub record Linkage (n : ℕ) (batches nexts firsts counts holder open_batch : ℕ → ℕ) (blocks : ℕ → List ℕ) (stage : ℕ → Stage) (counter : ℕ → ℕ) (life : ℕ → Life)
    (behind : ℕ → ℕ) : Type 0 where
  pub batched : (s : ℕ) → s < n → batches s ≡ batch_word (holder s) (blocks (open_batch s))
  pub linked : (b : ℕ) → LinkedIs nexts (behind b) (stage b) (blocks b)
  pub ended : (b : ℕ) → EndIs holder (behind b) (stage b)
  pub first : (c : ℕ) → FirstIs (firsts c) blocks (life c)
  pub counted : (b : ℕ) → CountIs counts (stage b) (counter b) (blocks b)
  pub zeros : (c : ℕ) → ZeroIs (counts c) (life c)

-- the rows' lists of blocks, and the blocks'
pub record Lists (nexts : ℕ → ℕ) (own : ℕ → ℕ → ℕ) (live : ℕ → Bool) (lists : ℕ → Option ℕ) (pending left puts deferred : ℕ → List ℕ) (carrier : ℕ → Bool) (life : ℕ → Life)
    (pends lefts put_first : ℕ → ℕ) (popped drained : ℕ → Bool) : Type 0 where
  pub pended : (i : ℕ) → Chain 0 nexts (pends i) (waiting (popped i) (pending i))
  pub lefted : (i : ℕ) → Chain 0 nexts (lefts i) (left i)
  pub putted : (i : ℕ) → Chain 0 nexts (put_first i) (puts i)
  pub deferring : (t : ℕ) → DeferredIs nexts (own t) (lists t) (drained t) (deferred t)
  pub nexted : (c : ℕ) → NextIs (nexts c) (life c)
  pub drains : (c : ℕ) → DrainedIs (life c) (drained c)
  pub lived : (c : ℕ) → live c ≡ lives (life c)
  pub carriers : (c : ℕ) → CarrierIs (life c) (carrier c) (lists c)

pub record Shows (n : ℕ) (f : View) (m : State) (x : Extra) : Type 0 where
  pub entries : Entries f.links f.heads m.head m.loose m.todo m.stage m.blocks m.life x.spot x.rest x.aimed x.hand
  pub linkage : Linkage n f.batches f.nexts f.firsts f.counts m.holder m.open_batch m.blocks m.stage m.counter m.life x.behind
  pub lists : Lists f.nexts f.own f.live f.lists m.pending m.left m.puts m.deferred m.carrier m.life x.pends x.lefts x.put_first x.popped x.drained

-- the row alone writes the link to the next block
abbrev pub has_next : ℕ → (ℕ → ℕ) → (ℕ → Stage) → Life → Bool
has_next j holder stage (IsIn b) = IsOf j holder (stage b)
has_next j holder stage l = of_row j l

-- the row alone writes the words of this block's entry on a slot's list
abbrev pub has_entry : ℕ → (ℕ → ℕ) → (ℕ → Stage) → Spot → Bool
has_entry j holder stage Nowhere = false
has_entry j holder stage (Unspent b) = IsOf j holder (stage b)
has_entry j holder stage (On t b) = false
has_entry j holder stage (InHands i b) = eqb j i

-- the row alone writes the link to the first block of the batch, or knows it
abbrev pub has_first : ℕ → Life → Spot → Bool
has_first j l Nowhere = of_row j l
has_first j l (Unspent b) = of_row j l
has_first j l (On t b) = of_row j l
has_first j l (InHands i b) = eqb j i

-- the row alone reads the list of the block, which it is to take
abbrev pub has_own : ℕ → Life → Bool
has_own j (IsDoomed i) = eqb j i
has_own j _ = false

pub record KeptRowWords (x y : Extra) (j : ℕ) : Type 0 where
  pub hand : y.hand j ≡ x.hand j
  pub pends : y.pends j ≡ x.pends j
  pub popped : y.popped j ≡ x.popped j
  pub lefts : y.lefts j ≡ x.lefts j
  pub put_first : y.put_first j ≡ x.put_first j

pub record KeptBatchWords (x y : Extra) (b : ℕ) : Type 0 where
  pub rest : y.rest b ≡ x.rest b
  pub aimed : y.aimed b ≡ x.aimed b
  pub behind : y.behind b ≡ x.behind b

pub record KeptOwn (f g : View) (x y : Extra) (c : ℕ) : Type 0 where
  pub own : (d : ℕ) → f.lists c ≡ Some d → g.own c d ≡ f.own c d  -- the word that its list begins with
  pub lists : g.lists c ≡ f.lists c
  pub drained : y.drained c ≡ x.drained c

-- what a step of row i leaves to the others
pub record KeepsWords (i : ℕ) (f : View) (m : State) (x : Extra) (g : View) (y : Extra) : Type 0 where
  pub rows : (j : ℕ) → (j ≡ i → ⊥) → KeptRowWords x y j
  pub batches : (j b : ℕ) → (j ≡ i → ⊥) → IsOf j m.holder (m.stage b) ≡ true → KeptBatchWords x y b
  pub nexts : (j c : ℕ) → (j ≡ i → ⊥) → has_next j m.holder m.stage (m.life c) ≡ true → g.nexts c ≡ f.nexts c
  pub firsts : (j c : ℕ) → (j ≡ i → ⊥) → has_first j (m.life c) (x.spot c) ≡ true → g.firsts c ≡ f.firsts c
  pub links : (j c : ℕ) → (j ≡ i → ⊥) → has_entry j m.holder m.stage (x.spot c) ≡ true → g.links c ≡ f.links c
  pub spots : (j c : ℕ) → (j ≡ i → ⊥) → has_entry j m.holder m.stage (x.spot c) ≡ true → y.spot c ≡ x.spot c
  pub owns : (j c : ℕ) → (j ≡ i → ⊥) → has_own j (m.life c) ≡ true → KeptOwn f g x y c

-- the words after a step of row i show the state after its move, and leave to the others what they know
pub record Written (n i : ℕ) (f : View) (m : State) (x : Extra) (g : View) (m2 : State) (y : Extra) : Type 0 where
  pub shows : Shows n g m2 y
  pub keeps : KeepsWords i f m x g y

-- nothing that another row knows is changed where these words are the same
pub keeps_like : (i : ℕ) (f : View) (m : State) (x : Extra) (g : View) → g.nexts ≡ f.nexts → g.firsts ≡ f.firsts → g.links ≡ f.links → g.own ≡ f.own
    → g.lists ≡ f.lists → KeepsWords i f m x g x
keeps_like i f m x g nexts firsts links own lists = record {
  rows = λ j ne. record { hand = refl; pends = refl; popped = refl; lefts = refl; put_first = refl };
  batches = λ j b ne k. record { rest = refl; aimed = refl; behind = refl };
  nexts = λ j c ne k. ap (λ a. a c) nexts;
  firsts = λ j c ne k. ap (λ a. a c) firsts;
  links = λ j c ne k. ap (λ a. a c) links;
  spots = λ j c ne k. refl;
  owns = λ j c ne k. record { own = λ d has. ap (λ a. a c d) own; lists = ap (λ a. a c) lists; drained = refl };
}
