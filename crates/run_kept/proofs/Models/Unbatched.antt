-- The word that says of which batch a block is names none while nobody has handed the block over.
use Rattle.std.specs.Prelude.{◌==◌, Option, Some, Ok, Err, IsSome, if◌then◌else◌}
use Rattle.std.proofs.Common.{◌≡◌, ℕ, Bool, true, false, List, [], ◌∷◌, refl, ap, sym, subst, arith, eqb-true, ◌∙◌}
use Rattle.std.proofs.lemmas.Bool.{eq-eqb}
use Rattle.run_schedules.specs.Given.SeizeWordsDeclared.at.At.{At}
use Rattle.run_schedules.specs.Given.SeizeWordsDeclared.at.At.TheVariants.{Root, Used, Slot, Entry, Word}
use Rattle.run_schedules.specs.Given.SeizeWordsDeclared.block.Block.{Block}
use Rattle.run_schedules.specs.Given.SeizeWordsMem.{Mem, block_of, entry_in, value_at, word_at, with_word, with_word_in, fresh, Gives, Took, after}
use Rattle.run_schedules.specs.Given.SeizeWordsOp.{Op, Out, Load, Store, Swap, Add, Or, Exchange, Make, Take, Rewrite, Room, Found, Stored, Exchanged, Made, Taken, Roomed}
use Rattle.run_schedules.proofs.Given.SeizeWordsOneOwner.AfterWrites.{block_of-with_block, block_of-made}
use Rattle.seize.specs.declared.states.TheConstants.{FIRST, NEXT}
use Rattle.seize.specs.Law.{Effect, Taken as TakenBlock}
use Rattle.seize.specs.WaitingSets.{is_one_of}
use Rattle.seize.specs.World.{World, Hand, NoBlock, Making, InUse, Parting, Cutting, Handed, LeftTo, MayCut, Request, Register', Enter', Leave', LeaveOwned, Refresh, Unregister', Retire, Flush, Defer', Event, Begin, Step, Makes, Drops, Links, Parts, Unlinks, Rewrites, Operates, Ends, LeavesOver, Relinks, Clears, Chooses, Begins, Steps', Happens, Runs, IsOwn, IsOwnOp, handed_by, with_at, made_by}
use Rattle.run_executor.proofs.Given.SeizeMovesState.Ghost.{Life, IsPending, IsDoomed}
use Rattle.run_executor.proofs.Given.SeizeRulePoints.Aside.{HandFits}
use Rattle.run_executor.proofs.Given.SeizeMemoryWords.Named.{block_there}
use Rattle.run_executor.proofs.Given.SeizeMemoryWords.Shows.{lives}
use Rattle.run_executor.proofs.Given.SeizeAloneHistories.NotTaken.{did}
use Rattle.run_executor.proofs.Given.SeizeAloneHistories.Reached.{Reached, runs_reached}
use Rattle.run_executor.proofs.Given.RuleWorld.Hands.{at_cases}
use Rattle.run_executor.proofs.Given.HandsFirsts.{SameFirst, op_apart, written, row_keeps_first}

-- nobody has handed the block over, nor is it left to anybody
abbrev pub IsKept : Hand → Type 0
IsKept (Making i) = Unit {0}
IsKept (InUse o) = Unit {0}
IsKept (Parting i) = Unit {0}
IsKept (Cutting i) = Unit {0}
IsKept _ = ⊥

-- the word of such a block names no batch
abbrev pub AreUnbatched : {T : Type 0} → World T → Type 0
AreUnbatched w = (b : ℕ) → IsKept (w.hand b) → word_at w.memory (Entry b FIRST) ≡ Some 0

-- it is about to be neither retired nor taken by a row
kept_life : (i : ℕ) (h : Hand) (l : Life) → IsKept h → HandFits h l → (l ≡ IsPending i → ⊥) × (l ≡ IsDoomed i → ⊥)
kept_life i NoBlock l is fits = absurd is
kept_life i (Making j) l is fits = (λ e. cc (fits, e), λ e. cc (fits, e))
kept_life i (InUse o) l is fits = (λ e. cc (fits, e), λ e. cc (fits, e))
kept_life i (Parting j) l is fits = (λ e. cc (fits, e), λ e. cc (fits, e))
kept_life i (Cutting j) l is fits = (λ e. cc (fits, e), λ e. cc (fits, e))
kept_life i Handed l is fits = absurd is
kept_life i (LeftTo j) l is fits = absurd is

cut_kept : (i : ℕ) (h : Hand) → MayCut i h → IsKept h
cut_kept i NoBlock may = absurd may
cut_kept i (Making j) may = absurd may
cut_kept i (InUse o) may = tt
cut_kept i (Parting j) may = tt
cut_kept i (Cutting j) may = absurd may
cut_kept i Handed may = absurd may
cut_kept i (LeftTo j) may = absurd may

-- a step of a row gives no block to anybody
handed_kept : (effects : List Effect) (hand : ℕ → Hand) (x : ℕ) → IsKept (handed_by effects hand x) → IsKept (hand x)
handed_kept [] hand x is = is
handed_kept (TakenBlock b ∷ effects) hand x is =
    at_cases (λ h. IsKept h → IsKept (hand x)) (handed_by effects hand) b NoBlock x (λ e kept. absurd kept) (λ ne kept. handed_kept effects hand x kept) is
handed_kept (_ ∷ effects) hand x is = handed_kept effects hand x is

module _ {T : Type 0} where
  -- users write words of blocks that may not be there
  own_word : (m : Mem T) (word b : ℕ) (value : T) (c field : ℕ) → value_at m c ≡ Some value → SameFirst b m (with_word m (Word c field) word)
  own_word m word b value c field is =
      ap (λ (o : Option (Block T)). entry_in o FIRST) (block_of-with_block m c b block.0 (with_word_in (block_of m c) field word) block.1) ∙ by (b == c) refl
    where
      block : (x : Block T) × (block_of m c ≡ Some x)
      block = block_there m c (subst (λ (o : Option T). IsSome o) (sym is) refl)

      by : (q : Bool) → (b == c) ≡ q → entry_in (if q then with_word_in (block_of m c) field word else block_of m b) FIRST ≡ entry_in (block_of m b) FIRST
      by false e = refl
      by true e =
          ap (λ (o : Option (Block T)). entry_in (with_word_in o field word) FIRST) block.1 ∙ sym (ap (λ (o : Option (Block T)). entry_in o FIRST) block.1)
          ∙ ap (λ (k : ℕ). entry_in (block_of m k) FIRST) (sym (eqb-true b c e))

module _ {T : Type 0} (defers : T → Option ℕ) (b : ℕ) where
  own_write : (m : Mem T) (at : At) (word : ℕ) → IsOwn defers m at → SameFirst b m (with_word m at word)
  own_write m (Root r) word own = refl
  own_write m (Used r) word own = refl
  own_write m (Slot s field) word own = absurd own
  own_write m (Entry c field) word own = absurd own
  own_write m (Word c field) word own = own_word m word b own.0 c field own.1

  own_op : (m n : Mem T) (op : Op T) (out : Out T) → IsOwnOp defers m op → Took m op out n → SameFirst b m n
  own_op m n op out own took = ap (λ (k : Mem T). word_at k (Entry b FIRST)) took.1 ∙ by op out own
    where
      by : (op : Op T) (out : Out T) → IsOwnOp defers m op → SameFirst b m (after m op out)
      by (Load at) out own = refl
      by (Store at word) out own = own_write m at word own
      by (Swap at word) out own = own_write m at word own
      by (Add at word) (Found a) own = own_write m at _ own
      by (Add at word) _ own = refl
      by (Or at word) (Found a) own = own_write m at _ own
      by (Or at word) _ own = refl
      by (Exchange at old word) (Exchanged (Ok a)) own = own_write m at word own
      by (Exchange at old word) _ own = refl
      by (Make value words) out own = absurd own
      by (Take c) out own = absurd own
      by (Rewrite c value) out own = absurd own
      by (Room bucket) out own = absurd own

module _ {T : Type 0} (b : ℕ) where
  -- a block is taken away, or has another value
  pub take_op : (m n : Mem T) (c : ℕ) (out : Out T) → Took m (Take c) out n → (b ≡ c → ⊥) → SameFirst b m n
  take_op m n c (Taken value) took other =
      ap (λ (k : Mem T). word_at k (Entry b FIRST)) took.1 ∙ op_apart b m (Take c) (Taken value) other (subst (λ (o : Option T). IsSome o) (sym took.0) refl)
  take_op m n c (Found word) took other = absurd took.0
  take_op m n c Stored took other = absurd took.0
  take_op m n c (Exchanged got) took other = absurd took.0
  take_op m n c (Made got) took other = absurd took.0
  take_op m n c (Roomed got) took other = absurd took.0

  pub rewrite_op : (m n : Mem T) (c : ℕ) (value before : T) → Took m (Rewrite c value) (Taken before) n → SameFirst b m n
  rewrite_op m n c value before took =
      ap (λ (k : Mem T). word_at k (Entry b FIRST)) took.1 ∙ op_apart b m (Rewrite c value) (Taken before) tt (subst (λ (o : Option T). IsSome o) (sym took.0) refl)

  -- a new block's word is 0
  pub made_op : (m : Mem T) (value : T) (words c : ℕ) → Gives m (Make value words) (Made (Ok c)) → (q : Bool) → (b == c) ≡ q
      → word_at (after m (Make value words) (Made (Ok c))) (Entry b FIRST) ≡ (if q then Some 0 else word_at m (Entry b FIRST))
  made_op m value words c gives q e =
      ap (λ (o : Option (Block T)). entry_in o FIRST) (block_of-made m value words c b gives.0) ∙ ap (λ (t : Bool). entry_in (if t then Some (fresh value words) else block_of m b) FIRST) e ∙ by q
    where
      by : (q : Bool) → entry_in (if q then Some (fresh value words) else block_of m b) FIRST ≡ (if q then Some 0 else word_at m (Entry b FIRST))
      by true = refl
      by false = refl

module _ {T : Type 0} (defers : T → Option ℕ) (size : ℕ) where
  -- a row begins
  begins_kept : (i : ℕ) (request : Request) (w n : World T) → Begins defers size i request w n → (n.memory ≡ w.memory) × ((x : ℕ) → IsKept (n.hand x) → IsKept (w.hand x))
  begins_kept i (Register' enters) w n h = (ap (λ (u : World T). u.memory) h, λ x is. subst (λ (u : World T). IsKept (u.hand x)) h is)
  begins_kept i (Enter' s) w n h = (ap (λ (u : World T). u.memory) h.1, λ x is. subst (λ (u : World T). IsKept (u.hand x)) h.1 is)
  begins_kept i (Leave' s) w n h = (ap (λ (u : World T). u.memory) h.1, λ x is. subst (λ (u : World T). IsKept (u.hand x)) h.1 is)
  begins_kept i (LeaveOwned s) w n h = (ap (λ (u : World T). u.memory) h.1, λ x is. subst (λ (u : World T). IsKept (u.hand x)) h.1 is)
  begins_kept i (Refresh s) w n h = (ap (λ (u : World T). u.memory) h.1, λ x is. subst (λ (u : World T). IsKept (u.hand x)) h.1 is)
  begins_kept i (Unregister' s) w n h = (ap (λ (u : World T). u.memory) h.1, λ x is. subst (λ (u : World T). IsKept (u.hand x)) h.1 is)
  begins_kept i (Flush s) w n h = (ap (λ (u : World T). u.memory) h.1, λ x is. subst (λ (u : World T). IsKept (u.hand x)) h.1 is)
  begins_kept i (Retire s b) w n h = (
    ap (λ (u : World T). u.memory) h.2,
    λ x is. at_cases (λ k. IsKept k → IsKept (w.hand x)) w.hand b Handed x (λ e kept. absurd kept) (λ ne kept. kept) (subst (λ (u : World T). IsKept (u.hand x)) h.2 is),
  )
  begins_kept i (Defer' s b t) w n h = (
    ap (λ (u : World T). u.memory) h.7,
    λ x is. at_cases (λ k. IsKept k → IsKept (w.hand x)) w.hand b Handed x (λ e kept. absurd kept) (λ ne kept. kept) (subst (λ (u : World T). IsKept (u.hand x)) h.7 is),
  )

  module _ (w n : World T) (r : Reached defers size w) (so : AreUnbatched w) where
    -- all memory words are as they were, and nobody has come to a block
    as_before : n.memory ≡ w.memory → ((x : ℕ) → IsKept (n.hand x) → IsKept (w.hand x)) → AreUnbatched n
    as_before memory hands b is = ap (λ (m : Mem T). word_at m (Entry b FIRST)) memory ∙ so b (hands b is)

    -- the word is as it was, in a world with these hands
    same_first : (m : Mem T) → n.memory ≡ m → (b : ℕ) → IsKept (w.hand b) → SameFirst b w.memory m → word_at n.memory (Entry b FIRST) ≡ Some 0
    same_first m memory b is same = ap (λ (k : Mem T). word_at k (Entry b FIRST)) memory ∙ same ∙ so b is

    -- a block of somebody's goes to another one
    moved : (b : ℕ) (to : Hand) (x : ℕ) → IsKept (w.hand b) → IsKept (with_at w.hand b to x) → IsKept (w.hand x)
    moved b to x was is =
        at_cases (λ k. IsKept k → IsKept (w.hand x)) w.hand b to x (λ e kept. subst (λ (y : ℕ). IsKept (w.hand y)) (sym e) was) (λ ne kept. kept) is

    gone : (b : ℕ) (x : ℕ) → IsKept (with_at w.hand b NoBlock x) → (x ≡ b → ⊥) × IsKept (w.hand x)
    gone b x is = at_cases (λ k. IsKept k → (x ≡ b → ⊥) × IsKept (w.hand x)) w.hand b NoBlock x (λ e kept. absurd kept) (λ ne kept. (ne, kept)) is

    on_step : (i : ℕ) → Steps' defers i (w.row i) w n → AreUnbatched n
    on_step i step b is =
        let it = did defers size w r i n step in
        let was : IsKept (w.hand b) = handed_kept it.effects w.hand b (subst (λ (hand : ℕ → Hand). IsKept (hand b)) it.hands is) in
        let life = kept_life i (w.hand b) (r.good.state.life b) was (r.good.hands b) in
        row_keeps_first defers w r i b life.0 life.1 n step ∙ so b was

    on_making : (i : ℕ) (value : T) (words : ℕ) (out : Out T) (m : Mem T) → Took w.memory (Make value words) out m → n ≡ made_by defers w i m out → AreUnbatched n
    on_making i value words (Made (Ok c)) m took e = λ b is. by b is (b == c) refl
      where
        by : (b : ℕ) → IsKept (n.hand b) → (q : Bool) → (b == c) ≡ q → word_at n.memory (Entry b FIRST) ≡ Some 0
        by b is true same = ap (λ (u : World T). word_at u.memory (Entry b FIRST)) e ∙ ap (λ (k : Mem T). word_at k (Entry b FIRST)) took.1 ∙ made_op b w.memory value words c took.0 true same
        by b is false other =
            ap (λ (u : World T). word_at u.memory (Entry b FIRST)) e ∙ ap (λ (k : Mem T). word_at k (Entry b FIRST)) took.1 ∙ made_op b w.memory value words c took.0 false other
            ∙ so b (at_cases (λ k. IsKept k → IsKept (w.hand b)) w.hand c (Making i) b (λ same kept. absurd (let yes = eq-eqb b c same in cc (yes, other))) (λ ne kept. kept)
            (subst (λ (u : World T). IsKept (u.hand b)) e is))
    on_making i value words (Made (Err back)) m took e =
        as_before (ap (λ (u : World T). u.memory) e ∙ took.1) (λ x is. subst (λ (u : World T). IsKept (u.hand x)) e is)
    on_making i value words (Found word) m took e = absurd took.0
    on_making i value words Stored m took e = absurd took.0
    on_making i value words (Exchanged got) m took e = absurd took.0
    on_making i value words (Taken got) m took e = absurd took.0
    on_making i value words (Roomed got) m took e = absurd took.0

    left_lives : (b h : ℕ) → w.hand b ≡ LeftTo h → lives (r.good.state.life b) ≡ true
    left_lives b h is = ap lives (subst (λ (k : Hand). HandFits k (r.good.state.life b)) is (r.good.hands b))

    on_relinks : (b word : ℕ) (out : Out T) (m : Mem T) → ((h : ℕ) × (w.hand b ≡ LeftTo h)) → Took w.memory (Store (Entry b NEXT) word) out m → (x : ℕ) → SameFirst x w.memory m
    on_relinks b word out m left took x =
        ap (λ (k : Mem T). word_at k (Entry x FIRST)) took.1
        ∙ written x w.memory (Entry b NEXT) word (r.good.stocked.entries b NEXT (r.good.shows.lists.lived b ∙ left_lives b left.0 left.1) (omega arith)) (λ e k. absurd (omega (arith, k)))

    pub happens_unbatched : (e : Event T) → Happens defers size e w n → AreUnbatched n
    happens_unbatched (Begin i request) h = let k = begins_kept i request w n h.1 in as_before k.0 k.1
    happens_unbatched (Step i) h = on_step i h
    happens_unbatched (Makes i value words) h = on_making i value words h.0 h.1 h.3 h.4
    happens_unbatched (Drops i c) h =
        λ b is. let k = gone c b (subst (λ (u : World T). IsKept (u.hand b)) h.4 is) in
        same_first h.1 (ap (λ (u : World T). u.memory) h.4) b k.1 (take_op b w.memory h.1 c h.0 h.3 k.0)
    happens_unbatched (Links i c o) h =
        as_before (ap (λ (u : World T). u.memory) h.1)
        (λ x is. moved c (InUse o) x (subst IsKept (sym h.0.1) tt) (subst (λ (u : World T). IsKept (u.hand x)) h.1 is))
    happens_unbatched (Parts i c) h =
        as_before (ap (λ (u : World T). u.memory) h.1)
        (λ x is. moved c (Parting i) x (subst IsKept (sym h.0.1) tt) (subst (λ (u : World T). IsKept (u.hand x)) h.1 is))
    happens_unbatched (Unlinks i c) h =
        as_before (ap (λ (u : World T). u.memory) h.1)
        (λ x is. moved c (Cutting i) x (cut_kept i (w.hand c) h.0) (subst (λ (u : World T). IsKept (u.hand x)) h.1 is))
    happens_unbatched (Rewrites i c value) h =
        λ b is. same_first h.1 (ap (λ (u : World T). u.memory) h.5) b (subst (λ (u : World T). IsKept (u.hand b)) h.5 is) (rewrite_op b w.memory h.1 c value h.0 h.3)
    happens_unbatched (Operates op) h =
        λ b is. same_first h.1 (ap (λ (u : World T). u.memory) h.4) b (subst (λ (u : World T). IsKept (u.hand b)) h.4 is) (own_op defers b w.memory h.1 op h.0 h.2 h.3)
    happens_unbatched (Ends i o) h = as_before (ap (λ (u : World T). u.memory) h) (λ x is. subst (λ (u : World T). IsKept (u.hand x)) h is)
    happens_unbatched (LeavesOver i c further) h =
        as_before (ap (λ (u : World T). u.memory) h.4) (λ x is. by x (is_one_of x (c ∷ further)) (subst (λ (u : World T). IsKept (u.hand x)) h.4 is))
      where
        by : (x : ℕ) (q : Bool) → IsKept (if q then LeftTo i else w.hand x) → IsKept (w.hand x)
        by x true is = absurd is
        by x false is = is
    happens_unbatched (Relinks i c word) h =
        λ b is. same_first h.1 (ap (λ (u : World T). u.memory) h.4) b (subst (λ (u : World T). IsKept (u.hand b)) h.4 is) (on_relinks c word h.0 h.1 h.2 h.3 b)
    happens_unbatched (Clears i c) h =
        λ b is. let k = gone c b (subst (λ (u : World T). IsKept (u.hand b)) h.5 is) in
        same_first h.1 (ap (λ (u : World T). u.memory) h.5) b k.1 (take_op b w.memory h.1 c h.0 h.4 k.0)
    happens_unbatched (Chooses choice) h = λ b is. ap (λ (u : World T). word_at u.memory (Entry b FIRST)) h ∙ so b (subst (λ (u : World T). IsKept (u.hand b)) h is)

  pub runs_unbatched : (events : List (Event T)) (w n : World T) → Reached defers size w → AreUnbatched w → Runs defers size events w n → AreUnbatched n
  runs_unbatched [] w n r so runs = subst AreUnbatched (sym runs) so
  runs_unbatched (e ∷ events) w n r so runs =
      runs_unbatched events runs.0 n (runs_reached defers size (e ∷ []) w runs.0 r (runs.0, runs.1, refl)) (happens_unbatched w runs.0 r so e runs.1) runs.2
