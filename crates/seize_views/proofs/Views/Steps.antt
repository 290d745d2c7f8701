-- A row that begins, and a step of one, as what a seat has done.
use Rattle.std.specs.Prelude.{◌≢◌, Option, Some, IsSome, length, slice_get, None}
use Rattle.std.proofs.Common.{◌≡◌, ℕ, ◌+◌, List, [], ◌∷◌, ◌⊎◌, inl, inr, refl, sym, subst, ap, ◌∙◌, arith}
use Rattle.std.proofs.lemmas.Bool.{cases_eq}
use Rattle.seize_words.specs.OneMemory.Mem.{Mem, value_at, word_at}
use Rattle.seize_words.specs.OneMemory.Word.{block_in}
use Rattle.seize_words.specs.declared.at.At.TheVariants.{Word}
use Rattle.seize.specs.declared.rows.register.Registering.{Registering}
use Rattle.seize.specs.declared.rows.register.Registering.TheVariants as at
use Rattle.seize.specs.Sequence.{taken_in}
use Rattle.seize.specs.Law.{holds, is_over}
use Rattle.seize.specs.World.{World, Row, Use, Hand, Vacant, Begin, Step, Request, Steps', Happens, times}
use Rattle.seize.specs.World as world
use Rattle.seize_acts.proofs.Given.SeizeRuleRows.Effects.{hand_kept, taken_hand}
use Rattle.seize_acts.proofs.Given.SeizeRuleRows.Known.{works_on, registering_on}
use Rattle.seize_acts.specs.Given.SeizeAloneAlone.{IsOfUsers}
use Rattle.seize_acts.proofs.Given.SeizeAloneSpared.Rows.{RowStepped}
use Rattle.seize_acts.proofs.Given.SeizeAloneSpared.Users.{own_is_no_list}
use Rattle.seize_acts.proofs.Given.SeizeAloneHistories.Reached.{Reached}
use Rattle.seize_acts.proofs.Given.SeizeAloneHistories.NotTaken.{IsHad, still_held, kept_hand, taken_gone, did}
use Rattle.seize_acts.proofs.Given.SeizeAloneHistories.Uses.{uses_kept}
use Rattle.seize_seats.specs.Seats.State.{State, view_of}
use Rattle.seize_views.specs.Views.Chains.{all_roots, IsChainRoot}
use Rattle.seize_views.specs.declared.view.TheConstants.{LINK}
use Rattle.seize_views.specs.Views.Rows.{row_of, use_of, hand_of, used_for, IsSeeking, IsShort, IsUsed, RootsNameLinked, IsFound, Fits, IsBounded, Holds}
use Rattle.seize_views.specs.declared.view.SlotView.{SlotView}
use Rattle.seize_views.specs.declared.view.SlotView.TheVariants.{Rests, Registers, Outside, Owes, Enters, Inside, Settles, Leaves, Left, Frees, Brings, Bears, Watches, Under, Joins, Defers, Busy}
use Rattle.seize_views.specs.declared.view.Deferral.TheVariants.{Takes, Parts, Puts}
use Rattle.seize_views.specs.declared.view.Why.TheVariants.{Retiring, Ending}
use Rattle.seize_views.specs.declared.view.Fixed.{Fixed}
use Rattle.seize_views.proofs.Views.Came.{of_users, reached, since_one}
use Rattle.seize_views.proofs.Views.Found.{HasNow, has_or_not, found_on}
use Rattle.seize_views.proofs.Views.Moved.{Moved, IsApart, LinksStay, chains_stay, hand_users, not_vacant, used_so, still_used}
use Rattle.seize_acts.proofs.Given.SeizeAloneHistories.LeftTo.{over_kept as not_over}

-- a row of a seat works on no slot but the seat's
pub works_on_own : {T : Type 0} (v : SlotView T) → IsShort v → (t : ℕ) → works_on (row_of v) ≡ t + 1 → (a : Use) × (use_of v ≡ Some (t, a))
works_on_own Rests short t e = absurd (omega (arith, e))
works_on_own (Registers c) short t e = absurd (by c.stands short.1 e)
  where
    by : (p : Registering) → IsSeeking p → registering_on c.slot p ≡ t + 1 → ⊥
    by at.Begin seeks f = omega (arith, f)
    by at.Look seeks f = omega (arith, f)
    by (at.Widen bucket seen) seeks f = omega (arith, f)
    by (at.Take seen) seeks f = omega (arith, f)
    by at.Enter seeks f = seeks
    by at.Registered seeks f = seeks
    by (at.Refused fault) seeks f = seeks
works_on_own (Outside s) short t e = absurd (omega (arith, e))
works_on_own (Owes s b) short t e = absurd (omega (arith, e))
works_on_own (Enters s) short t e = (world.Changing, ap (λ (k : ℕ). Some (k, world.Changing)) (omega (arith, e)))
works_on_own (Inside s has) short t e = absurd (omega (arith, e))
works_on_own (Settles c (Retiring way) seen left) short t e = (used_for (Retiring way), ap (λ (k : ℕ). Some (k, used_for (Retiring way))) (omega (arith, e)))
works_on_own (Settles c (Ending size way) seen left) short t e = (world.Changing, ap (λ (k : ℕ). Some (k, world.Changing)) (omega (arith, e)))
works_on_own (Leaves s size way) short t e = (world.Changing, ap (λ (k : ℕ). Some (k, world.Changing)) (omega (arith, e)))
works_on_own (Left s size way) short t e = (world.Changing, ap (λ (k : ℕ). Some (k, world.Changing)) (omega (arith, e)))
works_on_own (Frees s) short t e = (world.Changing, ap (λ (k : ℕ). Some (k, world.Changing)) (omega (arith, e)))
works_on_own (Brings b x) short t e = absurd (omega (arith, e))
works_on_own (Bears b) short t e = absurd (omega (arith, e))
works_on_own (Watches s b) short t e = absurd (omega (arith, e))
works_on_own (Under n s b) short t e = absurd (omega (arith, e))
works_on_own (Joins block) short t e = absurd (omega (arith, e))
works_on_own (Defers s (Takes a y made)) short t e = absurd (omega (arith, e))
works_on_own (Defers s (Parts a y b x)) short t e = absurd (omega (arith, e))
works_on_own (Defers s (Puts a c)) short t e = (world.Inside 1, ap (λ (k : ℕ). Some (k, world.Inside 1)) (omega (arith, e)))
works_on_own (Busy s) short t e = absurd (omega (arith, e))

-- who has a row under way has no block in its hand
no_hand : {T : Type 0} (defers : T → Option ℕ) (id : ℕ) (v : SlotView T) (w n : World T) → Steps' defers id (row_of v) w n → hand_of v ≡ None
no_hand defers id Rests w n step = absurd step
no_hand defers id (Registers c) w n step = refl
no_hand defers id (Outside t) w n step = absurd step
no_hand defers id (Owes t b) w n step = absurd step
no_hand defers id (Enters t) w n step = refl
no_hand defers id (Inside t has) w n step = absurd step
no_hand defers id (Settles c why seen left) w n step = refl
no_hand defers id (Leaves t size way) w n step = refl
no_hand defers id (Left t size way) w n step = refl
no_hand defers id (Frees t) w n step = refl
no_hand defers id (Brings b x) w n step = absurd step
no_hand defers id (Bears b) w n step = absurd step
no_hand defers id (Watches t b) w n step = absurd step
no_hand defers id (Under m t b) w n step = absurd step
no_hand defers id (Joins block) w n step = absurd step
no_hand defers id (Defers t (Takes a y made)) w n step = absurd step
no_hand defers id (Defers t (Parts a y b x)) w n step = absurd step
no_hand defers id (Defers t (Puts a c)) w n step = refl
no_hand defers id (Busy t) w n step = absurd step

module _ {T : Type 0} where
  -- the roots are as they were, and what was linked at them is
  pub roots_kept : (m m2 : Mem T) (hand hand2 : ℕ → Hand) → m2.roots ≡ m.roots → ((b r : ℕ) → hand b ≡ world.InUse r → hand2 b ≡ world.InUse r)
      → RootsNameLinked m hand → RootsNameLinked m2 hand2
  roots_kept m m2 hand hand2 same linked named r word e =
      elim (named r word (subst (λ (l : List ℕ). slice_get l r ≡ Some word) same e)) as (λ _. (block_in word ≡ 0) ⊎ (hand2 (block_in word) ≡ world.InUse r)) [
        | inl none ↦ inl none
        | inr is ↦ inr (linked (block_in word) r is)
      ]

-- a step of a row takes a block away, or leaves it with its value
pub step_keeps : {T : Type 0} (defers : T → Option ℕ) (size : ℕ) (w n : World T) (i : ℕ) → Reached defers size w → Steps' defers i (w.row i) w n → (b : ℕ) → IsSome (value_at n.memory b)
    → value_at n.memory b ≡ value_at w.memory b
step_keeps {T} defers size w n i r step b some = by (cases_eq (times b (taken_in d.effects)) 0)
  where
    d : RowStepped defers i w n
    d = did defers size w r i n step

    by : (times b (taken_in d.effects) ≡ 0) ⊎ (times b (taken_in d.effects) ≢ 0) → value_at n.memory b ≡ value_at w.memory b
    by (inl e) = d.frames.values b e
    by (inr ne) = let none = taken_gone defers size w r i n step b ne in absurd (cc (some, none))

module _ {T : Type 0} (defers : T → Option ℕ) (fixed : Fixed) (s : State T (SlotView T) (World T)) (id : ℕ) (v : SlotView T) (h : Holds defers fixed s)
    (at_id : view_of s id ≡ Some v) where
  abbrev w : World T
  w = s.world

  -- who has a block then, or had it
  abbrev Now : SlotView T → ℕ → Hand → Type 0
  Now u b k = HasNow s id h.life.began (hand_of u) b k

  -- the other seats have their slots as before
  pub others : (n : World T) → ((t : ℕ) → (w.uses t ≡ Vacant → ⊥) → ((a : Use) → use_of v ≡ Some (t, a) → ⊥) → n.uses t ≡ w.uses t)
      → (j : ℕ) (x : SlotView T) → j ≢ id → view_of s j ≡ Some x → IsUsed n (use_of x)
  others n same j x ne e =
      let f = h.seats j x e in
      still_used w n (use_of x) f.slot (λ t a k. same t (λ z. not_vacant x t a k (sym (used_so w (use_of x) t a f.slot k)
      ∙ z)) (λ b l. ne (h.apart j id t a b x v e at_id k l)))

  -- a slot that is the seat's already is nobody else's
  pub alone : (u : SlotView T) → ((t : ℕ) (b : Use) → use_of u ≡ Some (t, b) → (a : Use) × (use_of v ≡ Some (t, a)))
      → (j t : ℕ) (x : SlotView T) (a b : Use) → j ≢ id → view_of s j ≡ Some x → use_of x ≡ Some (t, a) → use_of u ≡ Some (t, b) → ⊥
  alone u stays j t x a b ne e p q = let k = stays t b q in ne (h.apart j id t a k.0 x v e at_id p k.1)

  -- the roots are in the world what they are in the memory
  pub world_roots : RootsNameLinked w.memory w.hand
  world_roots = subst (λ (m : Mem T). RootsNameLinked m w.hand) h.memory h.roots

  pub world_rooted : length w.memory.roots ≡ all_roots fixed
  world_rooted = subst (λ (m : Mem T). length m.roots ≡ all_roots fixed) h.memory h.rooted

  -- a step of its row
  pub step_of : (n : World T) → Steps' defers id (row_of v) w n → Steps' defers id (w.row id) w n
  step_of n taken = subst (λ (row : Row). Steps' defers id row w n) (sym (h.seats id v at_id).row) taken

  pub begun : (request : Request) (u : SlotView T) (n : World T) → Happens defers fixed.batch_size (Begin id request) w n → n.memory ≡ w.memory → n.log ≡ w.log
      → ((j b : ℕ) (x : SlotView T) → j ≢ id → view_of s j ≡ Some x → hand_of x ≡ Some b → n.hand b ≡ w.hand b) → hand_of u ≡ None
      → ((b r : ℕ) → w.hand b ≡ world.InUse r → n.hand b ≡ world.InUse r)
      → ((j : ℕ) → j ≢ id → n.row j ≡ w.row j) → ((t : ℕ) → ((a : Use) → use_of v ≡ Some (t, a) → ⊥) → n.uses t ≡ w.uses t) → Fits defers n id u
      → ((t : ℕ) (b : Use) → use_of u ≡ Some (t, b) → (a : Use) × (use_of v ≡ Some (t, a))) → IsBounded defers fixed n id u
      → ((b : ℕ) → (hand_of v ≡ Some b → ⊥) → n.hand b ≡ w.hand b) → ((b : ℕ) → hand_of v ≡ Some b → n.hand b ≡ world.Handed)
      → Moved defers fixed s id h.life.began u s.memory n
  begun request u n happens memory log hands none linked rows uses own stays bounded same handed = record {
    since = since_one defers fixed w n (Begin id request) happens;
    memory = h.memory ∙ sym memory;
    rows = rows;
    own = own;
    others = others n (λ t used. uses t);
    alone = alone u stays;
    hands = hands;
    sole = λ j b x ne e p q. cc (none, q);
    values = λ b its some some2. ap (λ (m : Mem T). value_at m b) memory;
    links = links;
    held = λ t b inside held. ap (holds t b) log ∙ held;
    over = λ t b held. ap (is_over b) log;
    roots = roots_kept s.memory s.memory w.hand n.hand refl linked h.roots;
    rooted = h.rooted;
    chains = chains_stay defers fixed s id h s.memory n (h.memory ∙ sym memory) (since_one defers fixed w n (Begin id request) happens) links (λ r is. refl)
        (λ b r is e. linked b r e) back;
    found = λ b. elim (has_or_not (hand_of v) b) as (λ _. IsFound fixed s.memory b (Now u b) (n.hand b)) [
      | inl mine ↦ subst (λ (k : Hand). IsFound fixed s.memory b (Now u b) k) (sym (handed b mine)) tt
      | inr not ↦ subst (λ (k : Hand). IsFound fixed s.memory b (Now u b) k) (sym (same b not))
          (found_on defers fixed s id v h at_id (hand_of u) s.memory refl b (λ mine. absurd (not mine)))
    ];
    passes = λ j ne was now. (Begin id request ∷ [], (n, (λ e. ne (sym e)), happens, now, refl));
    bounded = bounded;
  }
    where
      links : LinksStay defers fixed s id n
      links b apart some = (ap (λ (m : Mem T). value_at m b) memory, ap (λ (m : Mem T). word_at m (Word b LINK)) memory)

      -- what is retired is linked no more
      back : (b r : ℕ) → IsChainRoot fixed r → n.hand b ≡ world.InUse r → w.hand b ≡ world.InUse r
      back b r is e = elim (has_or_not (hand_of v) b) as (λ _. w.hand b ≡ world.InUse r) [
        | inl mine ↦ absurd (let gone = handed b mine in cc (gone, e))
        | inr not ↦ sym (same b not) ∙ e
      ]

  pub stepped : (u : SlotView T) (m : Mem T) (n : World T) → Steps' defers id (row_of v) w n → m ≡ n.memory → Fits defers n id u
      → ((j t : ℕ) (x : SlotView T) (a b : Use) → j ≢ id → view_of s j ≡ Some x → use_of x ≡ Some (t, a) → use_of u ≡ Some (t, b) → ⊥)
      → hand_of u ≡ None → IsBounded defers fixed n id u → Moved defers fixed s id h.life.began u m n
  stepped u m n taken memory own lone none bounded = record {
    since = since_one defers fixed w n (Step id) step;
    memory = memory;
    rows = d.rows;
    own = own;
    others = others n (λ t used apart. uses_kept defers fixed.batch_size w r id n step t used
        (λ on. let k = works_on_own v fit.short t (sym (ap works_on fit.row) ∙ on) in apart k.0 k.1));
    alone = lone;
    hands = λ j b x ne e q. kept_hand defers fixed.batch_size w r id n step b (IsHad (hand_users defers w x b (h.seats j x e).known q).0);
    sole = λ j b x ne e p q. cc (none, q);
    values = λ b its some some2. step_keeps defers fixed.batch_size w n id r step b some2;
    links = links;
    held = λ t b inside held. still_held defers fixed.batch_size w r id n step t b inside held;
    over = λ t b held. ap (is_over b) d.logged ∙ not_over b d.effects w.log d.one;
    roots = roots_kept w.memory m w.hand n.hand same_roots (λ b r is. kept b (world.InUse r) tt is) world_roots;
    rooted = ap length same_roots ∙ world_rooted;
    chains = chains_stay defers fixed s id h m n memory (since_one defers fixed w n (Step id) step) links
        (λ a is. ap (λ (l : List ℕ). slice_get l a) (same_roots ∙ sym (ap (λ (x : Mem T). x.roots) h.memory))) (λ b a is e. kept b (world.InUse a) tt e) back;
    found = found;
    passes = λ j ne was now. (Step id ∷ [], (n, (λ e. ne (sym e)), step, now, refl));
    bounded = bounded;
  }
    where
      fit : Fits defers w id v
      fit = h.seats id v at_id

      r : Reached defers fixed.batch_size w
      r = reached defers fixed w h.came

      step : Steps' defers id (w.row id) w n
      step = step_of n taken

      d : RowStepped defers id w n
      d = did defers fixed.batch_size w r id n step

      kept : (b : ℕ) (k : Hand) → IsOfUsers k → w.hand b ≡ k → n.hand b ≡ k
      kept b k is e = kept_hand defers fixed.batch_size w r id n step b (IsHad (of_users w.hand b k is e)) ∙ e

      same_roots : m.roots ≡ w.memory.roots
      same_roots = ap (λ (x : Mem T). x.roots) memory ∙ d.frames.roots

      hand_is : (b : ℕ) → n.hand b ≡ world.handed_by d.effects w.hand b
      hand_is b = ap (λ (f : ℕ → Hand). f b) d.hands

      -- no row writes a link
      links : LinksStay defers fixed s id n
      links b apart some = by (cases_eq (times b (taken_in d.effects)) 0) apart
        where
          by : (times b (taken_in d.effects) ≡ 0) ⊎ (times b (taken_in d.effects) ≢ 0) → IsApart defers fixed s id b
              → (value_at n.memory b ≡ value_at w.memory b) × (word_at n.memory (Word b LINK) ≡ word_at w.memory (Word b LINK))
          by (inl e) (inl has) = (d.frames.values b e, d.frames.words b LINK e (own_is_no_list defers w.memory b LINK has.0.0))
          by (inl e) (inr its) = (d.frames.values b e, d.made b its.1.0 LINK its.1.1 e)
          by (inr ne) is = let none = taken_gone defers fixed.batch_size w r id n step b ne in absurd (cc (some, none))

      back : (b a : ℕ) → IsChainRoot fixed a → n.hand b ≡ world.InUse a → w.hand b ≡ world.InUse a
      back b a is e = elim (cases_eq (times b (taken_in d.effects)) 0) as (λ _. w.hand b ≡ world.InUse a) [
        | inl none ↦ sym (hand_is b ∙ hand_kept b d.effects w.hand none d.one) ∙ e
        | inr ne ↦ absurd (let gone = hand_is b ∙ taken_hand b d.effects w.hand d.one ne in cc (gone, e))
      ]

      -- a block that is taken is nobody's then, and each other one is in the hand that it was in
      found : (b : ℕ) → IsFound fixed m b (Now u b) (n.hand b)
      found b = elim (cases_eq (times b (taken_in d.effects)) 0) as (λ _. IsFound fixed m b (Now u b) (n.hand b)) [
        | inl e ↦ subst (λ (k : Hand). IsFound fixed m b (Now u b) k) (sym (hand_is b ∙ hand_kept b d.effects w.hand e d.one))
            (found_on defers fixed s id v h at_id (hand_of u) m (same_roots ∙ sym (ap (λ (x : Mem T). x.roots) h.memory)) b
            (λ mine. absurd (let no = no_hand defers id v w n taken in cc (no, mine))))
        | inr ne ↦ subst (λ (k : Hand). IsFound fixed m b (Now u b) k) (sym (hand_is b ∙ taken_hand b d.effects w.hand d.one ne)) tt
      ]
