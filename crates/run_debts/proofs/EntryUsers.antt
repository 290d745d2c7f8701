-- What happens between the steps of rows leaves an entry as blank as it is, unless its block is left over; and what somebody has is blank still.
use Rattle.std.specs.Prelude.{Option, Some, None, IsSome, Ok, Err, if◌then◌else◌, ◌==◌, bit_or}
use Rattle.std.proofs.Common.{◌≡◌, ℕ, ◌+◌, ◌%◌, ◌^◌, Bool, true, false, List, ◌∷◌, refl, arith, ap, sym, subst, ◌∙◌, eqb-true}
use Rattle.run_places.specs.Given.SeizeWordsDeclared.at.At.{At}
use Rattle.run_places.specs.Given.SeizeWordsDeclared.at.At.TheVariants as name
use Rattle.run_places.specs.Given.SeizeWordsOp.{Op, Out, Load, Store, Swap, Add, Or, Exchange, Make, Take, Rewrite, Room, Found, Stored, Exchanged, Made, Taken, Roomed}
use Rattle.run_places.specs.Given.SeizeWordsMem.{Mem, block_of, entry_in, word_at, with_word, Took, after}
use Rattle.run_places.specs.Given.SeizeDeclared.states.TheConstants.{NEXT, FIRST}
use Rattle.run_places.specs.Given.SeizeSequence.{IsBetween}
use Rattle.run_places.specs.Given.SeizeWaitingSets.{is_one_of}
use Rattle.run_places.specs.Given.SeizeWorld.{World, Hand, NoBlock, Making, InUse, Parting, Cutting, Handed, LeftTo, MayCut, Event, Begin, Step, Makes, Drops, Links, Parts, Unlinks, Rewrites, Operates, Ends, LeavesOver, Relinks, Clears, Chooses, Happens, IsOwn, IsOwnOp, made_by, with_at, all_left_to}
use Rattle.owner_facts.proofs.Given.SeizeMovesState.Ghost.{IsLeft}
use Rattle.owner_facts.proofs.Given.SeizeRulePoints.Aside.{HandFits}
use Rattle.owner_facts.proofs.Given.SeizeMemoryWords.Named.{or_zero}
use Rattle.owner_facts.proofs.Given.SeizeMemoryWords.Shows.{lives}
use Rattle.owner_facts.proofs.Given.SeizeRuleWorld.Events.{missing}
use Rattle.owner_facts.proofs.Given.SeizeAloneHistories.Reached.{Reached}
use Rattle.run_debts.specs.Entries.{IsSomebodys}
use Rattle.run_debts.proofs.EntryOps.{IsApart, Zero, written, op_zero}

-- it is not left over
abbrev pub IsNotLeft : Hand → Type 0
IsNotLeft (LeftTo i) = ⊥
IsNotLeft _ = Unit {0}

pub somebodys_not_left : (h : Hand) → IsSomebodys h → IsNotLeft h
somebodys_not_left (Making i) its = tt
somebodys_not_left (InUse o) its = tt
somebodys_not_left (Parting i) its = tt
somebodys_not_left (Cutting i) its = tt
somebodys_not_left NoBlock its = absurd its
somebodys_not_left Handed its = absurd its
somebodys_not_left (LeftTo i) its = absurd its

cut_somebodys : (i : ℕ) (h : Hand) → MayCut i h → IsSomebodys h
cut_somebodys i (InUse o) may = tt
cut_somebodys i (Parting h) may = tt
cut_somebodys i NoBlock may = absurd may
cut_somebodys i (Making h) may = absurd may
cut_somebodys i (Cutting h) may = absurd may
cut_somebodys i Handed may = absurd may
cut_somebodys i (LeftTo h) may = absurd may

-- where one block has gone into other hands, somebody has a block who had it before, or it is that one
pub theirs_with : (hand : ℕ → Hand) (b x : ℕ) (h : Hand) → (IsSomebodys h → IsSomebodys (hand b)) → IsSomebodys (with_at hand b h x) → IsSomebodys (hand x)
theirs_with hand b x h before its = by (x == b) refl its
  where
    by : (z : Bool) → (x == b) ≡ z → IsSomebodys (if z then h else hand x) → IsSomebodys (hand x)
    by true e t = subst (λ (k : ℕ). IsSomebodys (hand k)) (sym (eqb-true x b e)) (before t)
    by false e t = t

theirs_left : (i : ℕ) (blocks : List ℕ) (hand : ℕ → Hand) (x : ℕ) → IsSomebodys (all_left_to i blocks hand x) → IsSomebodys (hand x)
theirs_left i blocks hand x its = by (is_one_of x blocks) its
  where
    by : (z : Bool) → IsSomebodys (if z then LeftTo i else hand x) → IsSomebodys (hand x)
    by true t = absurd t
    by false t = t

module _ {T : Type 0} where
  -- both words of the entry are 0
  abbrev pub IsZero : Mem T → ℕ → Type 0
  IsZero m b = Zero b NEXT m × Zero b FIRST m

  -- so it is of what somebody has
  abbrev pub AllZero : World T → Type 0
  AllZero w = (b : ℕ) → IsSomebodys (w.hand b) → IsZero w.memory b

module _ {T : Type 0} (defers : T → Option ℕ) where
  made_memory : (w : World T) (i : ℕ) (m : Mem T) (out : Out T) → (made_by defers w i m out).memory ≡ m
  made_memory w i m (Found word) = refl
  made_memory w i m Stored = refl
  made_memory w i m (Exchanged result) = refl
  made_memory w i m (Made (Ok b)) = refl
  made_memory w i m (Made (Err back)) = refl
  made_memory w i m (Taken block) = refl
  made_memory w i m (Roomed result) = refl

  made_rows : (w : World T) (i : ℕ) (m : Mem T) (out : Out T) → (made_by defers w i m out).row ≡ w.row
  made_rows w i m (Found word) = refl
  made_rows w i m Stored = refl
  made_rows w i m (Exchanged result) = refl
  made_rows w i m (Made (Ok b)) = refl
  made_rows w i m (Made (Err back)) = refl
  made_rows w i m (Taken block) = refl
  made_rows w i m (Roomed result) = refl

  module _ (x f : ℕ) where
    -- a word of users' own is none of an entry, whether it is there or not
    own_apart : (m : Mem T) (at : At) → IsOwn defers m at → IsApart x f at
    own_apart m (name.Root root) own = tt
    own_apart m (name.Used root) own = tt
    own_apart m (name.Slot s field) own = absurd own
    own_apart m (name.Entry b i) own = absurd own
    own_apart m (name.Word b i) own = tt

    own_zero : (m : Mem T) (at : At) (v : ℕ) → IsOwn defers m at → Zero x f m → Zero x f (with_word m at v)
    own_zero m at v own zero = by (word_at m at) refl
      where
        by : (o : Option ℕ) → word_at m at ≡ o → Zero x f (with_word m at v)
        by None is = subst (Zero x f) (sym (missing defers m at v own is)) zero
        by (Some u) is = written x f m at v (subst (λ (o : Option ℕ). IsSome o) (sym is) refl) (own_apart m at own) zero

    operated_zero : (m : Mem T) (op : Op T) (out : Out T) → IsOwnOp defers m op → Zero x f m → Zero x f (after m op out)
    operated_zero m (Load at) out own zero = zero
    operated_zero m (Store at w) out own zero = own_zero m at w own zero
    operated_zero m (Swap at w) out own zero = own_zero m at w own zero
    operated_zero m (Add at w) (Found a) own zero = own_zero m at ((a + w) % 2 ^ 64) own zero
    operated_zero m (Add at w) _ own zero = zero
    operated_zero m (Or at w) (Found a) own zero = own_zero m at (bit_or a w) own zero
    operated_zero m (Or at w) _ own zero = zero
    operated_zero m (Exchange at old new) (Exchanged (Ok a)) own zero = own_zero m at new own zero
    operated_zero m (Exchange at old new) _ own zero = zero
    operated_zero m (Make value words) out own zero = absurd own
    operated_zero m (Take b) out own zero = absurd own
    operated_zero m (Rewrite b new) out own zero = absurd own
    operated_zero m (Room bucket) out own zero = absurd own

    -- a block that is taken away was there
    taken_zero : (m m2 : Mem T) (b : ℕ) (out : Out T) → Took m (Take b) out m2 → Zero x f m → Zero x f m2
    taken_zero m m2 b (Taken value) took zero =
        subst (Zero x f) (sym took.1) (op_zero x f m (Take b) (Taken value) tt (subst (λ (o : Option T). IsSome o) (sym took.0) refl) took.0 zero)
    taken_zero m m2 b (Found word) took zero = absurd took.0
    taken_zero m m2 b Stored took zero = absurd took.0
    taken_zero m m2 b (Exchanged result) took zero = absurd took.0
    taken_zero m m2 b (Made result) took zero = absurd took.0
    taken_zero m m2 b (Roomed result) took zero = absurd took.0

    module _ {size : ℕ} (w v : World T) (r : Reached defers size w) where
      abbrev Then : World T → Type 0
      Then y = Zero x f y.memory

      -- the link of a block that is left over is another one's
      relinked : (c h word : ℕ) (m2 : Mem T) → w.hand c ≡ LeftTo h → IsNotLeft (w.hand x) → (out : Out T) → Took w.memory (Store (name.Entry c NEXT) word) out m2 → Zero x f w.memory → Zero x f m2
      relinked c h word m2 is not_left out took zero =
          subst (Zero x f) (sym took.1) (written x f w.memory (name.Entry c NEXT) word there (λ same k. subst IsNotLeft (ap w.hand same ∙ is) not_left) zero)
        where
          life : r.good.state.life c ≡ IsLeft h
          life = subst (λ (k : Hand). HandFits k (r.good.state.life c)) is (r.good.hands c)

          there : IsSome (word_at w.memory (name.Entry c NEXT))
          there = r.good.stocked.entries c NEXT (r.good.shows.lists.lived c ∙ ap lives life) (omega arith)

      pub event_zero : (e : Event T) → IsBetween e → IsNotLeft (w.hand x) → Happens defers size e w v → Zero x f w.memory → Zero x f v.memory
      event_zero (Begin i request) u not_left h zero = absurd u
      event_zero (Step i) u not_left h zero = absurd u
      event_zero (Makes i value words) u not_left h zero =
          subst Then (sym h.4) (subst (Zero x f) (sym (made_memory w i h.1 h.0 ∙ h.3.1)) (op_zero x f w.memory (Make value words) h.0 tt tt h.3.0 zero))
      event_zero (Drops i b) u not_left h zero = subst Then (sym h.4) (taken_zero w.memory h.1 b h.0 h.3 zero)
      event_zero (Links i b o) u not_left h zero = subst Then (sym h.1) zero
      event_zero (Parts i b) u not_left h zero = subst Then (sym h.1) zero
      event_zero (Unlinks i b) u not_left h zero = subst Then (sym h.1) zero
      event_zero (Rewrites i b value) u not_left h zero =
          subst Then (sym h.5) (subst (Zero x f) (sym h.3.1)
          (op_zero x f w.memory (Rewrite b value) (Taken h.0) tt (subst (λ (o : Option T). IsSome o) (sym h.3.0) refl) h.3.0 zero))
      event_zero (Operates op) u not_left h zero = subst Then (sym h.4) (subst (Zero x f) (sym h.3.1) (operated_zero w.memory op h.0 h.2 zero))
      event_zero (Ends i o) u not_left h zero = subst Then (sym h) zero
      event_zero (LeavesOver i b further) u not_left h zero = subst Then (sym h.4) zero
      event_zero (Relinks i b word) u not_left h zero = subst Then (sym h.4) (relinked b h.2.0 word h.1 h.2.1 not_left h.0 h.3 zero)
      event_zero (Clears i b) u not_left h zero = subst Then (sym h.5) (taken_zero w.memory h.1 b h.0 h.4 zero)
      event_zero (Chooses choice) u not_left h zero = subst Then (sym h) zero

  -- rows are as they were
  pub event_rows : (size : ℕ) (w v : World T) (e : Event T) → IsBetween e → Happens defers size e w v → v.row ≡ w.row
  event_rows size w v (Begin i request) u h = absurd u
  event_rows size w v (Step i) u h = absurd u
  event_rows size w v (Makes i value words) u h = ap (λ (y : World T). y.row) h.4 ∙ made_rows w i h.1 h.0
  event_rows size w v (Drops i b) u h = ap (λ (y : World T). y.row) h.4
  event_rows size w v (Links i b o) u h = ap (λ (y : World T). y.row) h.1
  event_rows size w v (Parts i b) u h = ap (λ (y : World T). y.row) h.1
  event_rows size w v (Unlinks i b) u h = ap (λ (y : World T). y.row) h.1
  event_rows size w v (Rewrites i b value) u h = ap (λ (y : World T). y.row) h.5
  event_rows size w v (Operates op) u h = ap (λ (y : World T). y.row) h.4
  event_rows size w v (Ends i o) u h = ap (λ (y : World T). y.row) h
  event_rows size w v (LeavesOver i b further) u h = ap (λ (y : World T). y.row) h.4
  event_rows size w v (Relinks i b word) u h = ap (λ (y : World T). y.row) h.4
  event_rows size w v (Clears i b) u h = ap (λ (y : World T). y.row) h.5
  event_rows size w v (Chooses choice) u h = ap (λ (y : World T). y.row) h

  -- so what somebody has is blank still
  module _ {size : ℕ} (w v : World T) (r : Reached defers size w) (zeros : AllZero w) where
    -- a block that was somebody's
    still_zero : (e : Event T) → IsBetween e → Happens defers size e w v → (x : ℕ) → IsSomebodys (w.hand x) → IsZero v.memory x
    still_zero e u h x its =
        let left = somebodys_not_left (w.hand x) its in
        let z = zeros x its in
        (event_zero x NEXT w v r e u left h z.0, event_zero x FIRST w v r e u left h z.1)

    -- or that was made just now
    made_zero : (i : ℕ) (value : T) (words : ℕ) → Happens defers size (Makes i value words) w v → (x : ℕ) → IsSomebodys (v.hand x) → IsZero v.memory x
    made_zero i value words h x its = subst (λ (y : World T). IsZero y.memory x) (sym h.4) (by h.0 h.1 h.3 (subst (λ (y : World T). IsSomebodys (y.hand x)) h.4 its))
      where
        old : (m2 : Mem T) (out : Out T) → Took w.memory (Make value words) out m2 → IsSomebodys (w.hand x) → IsZero m2 x
        old m2 out took was =
            let z = zeros x was in
            subst (λ (k : Mem T). IsZero k x) (sym took.1) (op_zero x NEXT w.memory (Make value words) out tt tt took.0 z.0, op_zero x FIRST w.memory (Make value words) out tt tt took.0 z.1)

        -- it had no words before
        new : (m2 : Mem T) (b : ℕ) → Took w.memory (Make value words) (Made (Ok b)) m2 → x ≡ b → IsZero m2 x
        new m2 b took same =
            let none = ap (block_of w.memory) same ∙ took.0.0.0 in
            subst (λ (k : Mem T). IsZero k x) (sym took.1) (
              op_zero x NEXT w.memory (Make value words) (Made (Ok b)) tt tt took.0 (ap (λ o. or_zero (entry_in o NEXT)) none),
              op_zero x FIRST w.memory (Make value words) (Made (Ok b)) tt tt took.0 (ap (λ o. or_zero (entry_in o FIRST)) none),
            )

        at_made : (m2 : Mem T) (b : ℕ) → Took w.memory (Make value words) (Made (Ok b)) m2 → (z : Bool) → (x == b) ≡ z → IsSomebodys (if z then Making i else w.hand x) → IsZero m2 x
        at_made m2 b took true e t = new m2 b took (eqb-true x b e)
        at_made m2 b took false e t = old m2 (Made (Ok b)) took t

        by : (out : Out T) (m2 : Mem T) → Took w.memory (Make value words) out m2 → IsSomebodys ((made_by defers w i m2 out).hand x) → IsZero (made_by defers w i m2 out).memory x
        by (Made (Ok b)) m2 took t = at_made m2 b took (x == b) refl t
        by (Made (Err back)) m2 took t = old m2 (Made (Err back)) took t
        by (Found word) m2 took t = absurd took.0
        by Stored m2 took t = absurd took.0
        by (Exchanged result) m2 took t = absurd took.0
        by (Taken block) m2 took t = absurd took.0
        by (Roomed result) m2 took t = absurd took.0

    abbrev Its : ℕ → World T → Type 0
    Its x y = IsSomebodys (y.hand x)

    pub event_zeros : (e : Event T) → IsBetween e → Happens defers size e w v → AllZero v
    event_zeros (Begin i request) u h x its = absurd u
    event_zeros (Step i) u h x its = absurd u
    event_zeros (Makes i value words) u h x its = made_zero i value words h x its
    event_zeros (Drops i b) u h x its = still_zero (Drops i b) tt h x (theirs_with w.hand b x NoBlock (λ t. absurd t) (subst (Its x) h.4 its))
    event_zeros (Links i b o) u h x its = still_zero (Links i b o) tt h x (theirs_with w.hand b x (InUse o) (λ t. subst IsSomebodys (sym h.0.1) tt) (subst (Its x) h.1 its))
    event_zeros (Parts i b) u h x its = still_zero (Parts i b) tt h x (theirs_with w.hand b x (Parting i) (λ t. subst IsSomebodys (sym h.0.1) tt) (subst (Its x) h.1 its))
    event_zeros (Unlinks i b) u h x its = still_zero (Unlinks i b) tt h x (theirs_with w.hand b x (Cutting i) (λ t. cut_somebodys i (w.hand b) h.0) (subst (Its x) h.1 its))
    event_zeros (Rewrites i b value) u h x its = still_zero (Rewrites i b value) tt h x (subst (Its x) h.5 its)
    event_zeros (Operates op) u h x its = still_zero (Operates op) tt h x (subst (Its x) h.4 its)
    event_zeros (Ends i o) u h x its = still_zero (Ends i o) tt h x (subst (Its x) h its)
    event_zeros (LeavesOver i b further) u h x its = still_zero (LeavesOver i b further) tt h x (theirs_left i (b ∷ further) w.hand x (subst (Its x) h.4 its))
    event_zeros (Relinks i b word) u h x its = still_zero (Relinks i b word) tt h x (subst (Its x) h.4 its)
    event_zeros (Clears i b) u h x its = still_zero (Clears i b) tt h x (theirs_with w.hand b x NoBlock (λ t. absurd t) (subst (Its x) h.5 its))
    event_zeros (Chooses choice) u h x its = still_zero (Chooses choice) tt h x (subst (Its x) h its)
