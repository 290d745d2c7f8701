-- What a step of a settling row leaves as it was beside its move: the slots' heads, without their lists, and who has each block.
use Rattle.std.proofs.Common.{◌≡◌, ℕ, Bool, true, false, cond, eqb, List, [], ◌∷◌, refl, arith}
use Rattle.seize_moves.specs.Given.SeizeLaw.{Effect, Retired, Taken}
use Rattle.seize_moves.specs.Given.SeizeWorld.{Hand, NoBlock, Making, InUse, Parting, Cutting, Handed, handed_by, LeftTo, MayCut}
use Rattle.seize_moves.proofs.Moves.State.Ghost.{Entry, Active, Life, IsFree, IsOwned, IsLinked, IsUnlinked, IsDeferring, IsDeferred, IsPending, IsIn, IsDoomed, IsLeft, State, emptied}
use Rattle.seize_moves.proofs.Moves.State.Moves

-- the collector has it, or it is on its way to it
abbrev pub is_handed : Life → Bool
is_handed IsFree = false
is_handed (IsOwned i) = false
is_handed IsLinked = false
is_handed (IsUnlinked i) = false
is_handed (IsDeferring i s t) = true
is_handed (IsDeferred t) = true
is_handed (IsPending i) = true
is_handed (IsIn x) = true
is_handed (IsDoomed i) = true
is_handed (IsLeft i) = false

abbrev pub HandFits : Hand → Life → Type 0
HandFits NoBlock l = l ≡ IsFree
HandFits (Making i) l = l ≡ IsOwned i
HandFits (InUse o) l = l ≡ IsLinked
HandFits (Parting i) l = l ≡ IsLinked
HandFits (Cutting i) l = l ≡ IsUnlinked i
HandFits Handed l = is_handed l ≡ true
HandFits (LeftTo i) l = l ≡ IsLeft i

-- the block is linked
abbrev pub IsStanding : Hand → Type 0
IsStanding (InUse o) = Unit {0}
IsStanding (Parting h) = Unit {0}
IsStanding _ = ⊥

pub cut_stands : (i : ℕ) (hand : Hand) → MayCut i hand → IsStanding hand
cut_stands i NoBlock m = absurd m
cut_stands i (Making h) m = absurd m
cut_stands i (InUse o) m = tt
cut_stands i (Parting h) m = tt
cut_stands i (Cutting h) m = absurd m
cut_stands i Handed m = absurd m
cut_stands i (LeftTo h) m = absurd m

-- and so it is in the state
pub standing_life : (hand : Hand) (l : Life) → IsStanding hand → HandFits hand l → l ≡ IsLinked
standing_life NoBlock l s h = absurd s
standing_life (Making i) l s h = absurd s
standing_life (InUse o) l s h = h
standing_life (Parting i) l s h = h
standing_life (Cutting i) l s h = absurd s
standing_life Handed l s h = absurd s
standing_life (LeftTo i) l s h = absurd s

abbrev pub AllHands : (ℕ → Hand) → (ℕ → Life) → Type 0
AllHands hand life = (c : ℕ) → HandFits (hand c) (life c)

pub record Aside (m m2 : State) (effects : List Effect) : Type 0 where
  pub heads : (t : ℕ) → emptied (m2.head t) ≡ emptied (m.head t)
  pub hands : (hand : ℕ → Hand) → AllHands hand m.life → AllHands (handed_by effects hand) m2.life

-- a move that changes neither heads nor lives
pub aside_same : (m m2 : State) → m2.head ≡ m.head → m2.life ≡ m.life → Aside m m2 []
aside_same m m2 h l = record { heads = λ t. cc h; hands = λ hand a c. rw l (a c) }

-- one more move behind the one with the effects
pub aside_then : (m m2 m3 : State) (effects : List Effect) → Aside m m2 effects → Aside m2 m3 [] → Aside m m3 effects
aside_then m m2 m3 effects a b = record {
  heads = λ t. cc (a.heads t, b.heads t);
  hands = λ hand h. b.hands (handed_by effects hand) (a.hands hand h);
}

-- a block that the collector has goes on being had by it
still_handed : (hand : Hand) (l k : Life) → is_handed l ≡ true → is_handed k ≡ true → HandFits hand l → HandFits hand k
still_handed NoBlock l k a b h = absurd (grind arith)
still_handed (Making i) l k a b h = absurd (grind arith)
still_handed (InUse o) l k a b h = absurd (grind arith)
still_handed (Parting i) l k a b h = absurd (grind arith)
still_handed (Cutting i) l k a b h = absurd (grind arith)
still_handed (LeftTo i) l k a b h = absurd (grind arith)
still_handed Handed l k a b h = b

put_fits : (hand : Hand) (t : Bool) (l k : Life) → (t ≡ true → is_handed l ≡ true) → is_handed k ≡ true → HandFits hand l → HandFits hand (cond t k l)
put_fits hand true l k a b h = still_handed hand l k (a refl) b h
put_fits hand false l k a b h = h

pub aside_appended : (m : State) (i b : ℕ) (bs : List ℕ) (x : ℕ) → m.life b ≡ IsPending i → Aside m (Moves.appended m i b bs x) (Retired b ∷ [])
aside_appended m i b bs x h = record {
  heads = λ t. refl;
  hands = λ hand a c. put_fits (hand c) (eqb c b) (m.life c) (IsIn x) (λ e. grind (arith, h)) refl (a c);
}

pub aside_pushed : (m : State) (x t c : ℕ) (es : List Entry) (rest : List ℕ) → m.head t ≡ Active es → Aside m (Moves.pushed m x t c es rest) []
aside_pushed m x t c es rest h = record { heads = λ u. grind (arith, h); hands = λ hand a d. a d }

doomed_fits : (hand : Hand) (i x : ℕ) (l : Life) → HandFits hand l → HandFits hand (Moves.doomed i x l)
doomed_fits NoBlock i x l h = grind (arith, h)
doomed_fits (Making j) i x l h = grind (arith, h)
doomed_fits (InUse o) i x l h = grind (arith, h)
doomed_fits (Parting j) i x l h = grind (arith, h)
doomed_fits (Cutting j) i x l h = grind (arith, h)
doomed_fits (LeftTo j) i x l h = grind (arith, h)
doomed_fits Handed i x l h = grind (arith, h)

pub aside_gives_up : (m : State) (i x : ℕ) → Aside m (Moves.gives_up m i x) []
aside_gives_up m i x = record { heads = λ t. refl; hands = λ hand a c. doomed_fits (hand c) i x (m.life c) (a c) }

drained_fits : (hand : Hand) (i b : ℕ) (l : Life) → HandFits hand l → HandFits hand (Moves.undeferred i b l)
drained_fits NoBlock i b l h = grind (arith, h)
drained_fits (Making j) i b l h = grind (arith, h)
drained_fits (InUse o) i b l h = grind (arith, h)
drained_fits (Parting j) i b l h = grind (arith, h)
drained_fits (Cutting j) i b l h = grind (arith, h)
drained_fits (LeftTo j) i b l h = grind (arith, h)
drained_fits Handed i b l h = grind (arith, h)

pub aside_drained : (m : State) (i b : ℕ) → Aside m (Moves.drained m i b) []
aside_drained m i b = record { heads = λ t. refl; hands = λ hand a c. drained_fits (hand c) i b (m.life c) (a c) }

taken_fits : (hand : Hand) (t : Bool) (l : Life) → HandFits hand l → HandFits (cond t NoBlock hand) (cond t IsFree l)
taken_fits hand true l h = refl
taken_fits hand false l h = h

pub aside_taken : (m : State) (i b : ℕ) (bs : List ℕ) → Aside m (Moves.taken m i b bs) (Taken b ∷ [])
aside_taken m i b bs = record { heads = λ t. refl; hands = λ hand a c. taken_fits (hand c) (eqb c b) (m.life c) (a c) }
