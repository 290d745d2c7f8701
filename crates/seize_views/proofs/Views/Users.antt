-- What a seat does within its section that is no step of a row, and that it goes on from there.
use Rattle.std.specs.Prelude.{◌++◌, Option, Some, None, IsSome, length}
use Rattle.std.proofs.Common.{◌≡◌, ℕ, ◌+◌, [], ◌∷◌, true, false, refl, sym, subst, ap, ◌∙◌}
use Rattle.seize_words.specs.OneMemory.Mem.{Mem, Took, value_at}
use Rattle.seize_words.specs.OneMemory.Op.{Op, Out}
use Rattle.seize.specs.Law.{holds, is_over}
use Rattle.seize.specs.Sequence.{IsBetween}
use Rattle.seize.specs.World.{World, Row, Use, Hand, Event, Happens, with_at}
use Rattle.seize.specs.World as world
use Rattle.seize_acts.proofs.Given.SeizeRuleRows.Others.{with_other, users_rows}
use Rattle.seize_seats.specs.Seats.State.{State, view_of}
use Rattle.seize_acts.specs.Bounds.Bounds.{IsOfOthers, IsAloneOnSlot}
use Rattle.seize_views.specs.Views.Chains.{all_roots, IsChainRoot, HasLink, Chain}
use Rattle.seize_views.specs.Views.Rows.{Leads, row_of, use_of, hand_of, had_in, IsShort, IsUsed, IsKnown, IsItsOwn, IsBounded, IsMade, IsInHand, RootsNameLinked, Fits, Since, Holds}
use Rattle.seize_views.specs.Views.Told.{alone_with}
use Rattle.seize_views.specs.declared.view.SlotView.{SlotView}
use Rattle.seize_views.specs.declared.view.SlotView.TheVariants.{Outside, Owes, Inside}
use Rattle.seize_views.specs.declared.view.Has.{Has}
use Rattle.seize_views.specs.declared.view.Has.TheVariants.{Nothing, Made, Seen, Both, Cut, Walks}
use Rattle.seize_views.specs.declared.view.Fixed.{Fixed}
use Rattle.seize_acts.proofs.Bounds.Bounds.Passing.{both}
use Rattle.seize_views.proofs.Views.Chains.{same_where, all_below_kept, link_seen_kept}
use Rattle.seize_views.proofs.Views.Found.{AreFound, found_on}
use Rattle.seize_views.proofs.Views.Moved.{StillHave, IsSole, Passes, IsOthers, LinksStay, moved, still_used}
use Rattle.seize_views.proofs.Views.Steps.{alone}

-- hands of different kinds, and of different holders

pub use_making : (r i : ℕ) → world.InUse r ≡ world.Making i → ⊥
use_making r i e = cc e

pub making_use : (j r : ℕ) → world.Making j ≡ world.InUse r → ⊥
making_use j r e = cc e

pub same_use : (a r : ℕ) → world.InUse a ≡ world.InUse r → a ≡ r
same_use a r e = cc e

module _ {T : Type 0} where
  -- another block's hand is as it was
  pub beside : (w : World T) (b c : ℕ) (k l : Hand) → (l ≡ w.hand b → ⊥) → w.hand c ≡ l → with_at w.hand b k c ≡ l
  beside w b c k l ne is = with_other w.hand b c k (λ e. ne (sym is ∙ ap w.hand e)) ∙ is

  -- an operation of the memory is one of the world's
  pub world_took : (s : State T (SlotView T) (World T)) → s.memory ≡ s.world.memory → (op : Op T) (out : Out T) (m : Mem T) → Took s.memory op out m
      → Took s.world.memory op out m
  world_took s is op out m took = subst (λ (x : Mem T). Took x op out m) is took

  same_made : (w n : World T) (b : ℕ) (x : T) → n.hand ≡ w.hand → n.memory ≡ w.memory → IsMade w b x → IsMade n b x
  same_made w n b x hand memory is = ((is.0.0, ap (λ (f : ℕ → Hand). f b) hand ∙ is.0.1), ap (λ (m : Mem T). value_at m b) memory ∙ is.1)

  -- what is known of a block stays known where hands and memory are as they were, and what the section holds is held
  pub same_hand : (defers : T → Option ℕ) (w n : World T) (t : ℕ) → n.hand ≡ w.hand → n.memory ≡ w.memory → ((b : ℕ) → holds t b w.log ≡ true → holds t b n.log ≡ true)
      → (has : Has T) → IsInHand defers w t has → IsInHand defers n t has
  same_hand defers w n t hand memory held Nothing is = tt
  same_hand defers w n t hand memory held (Made b x) is = same_made w n b x hand memory is
  same_hand defers w n t hand memory held (Seen b) is = held b is
  same_hand defers w n t hand memory held (Both b x a) is = (same_made w n b x hand memory is.0, held a is.1)
  same_hand defers w n t hand memory held (Cut b) is = (is.0, ap (λ (f : ℕ → Hand). f b) hand ∙ is.1)
  same_hand defers w n t hand memory held (Walks b next) is =
      let same = (λ (c : ℕ) (_ : holds t c w.log ≡ true) (_ : HasLink defers w.memory c). same_where w.memory n.memory c memory) in
      (all_below_kept defers w n t same held b is.0, link_seen_kept defers w n t same held b next is.0 is.1)

module _ {T : Type 0} (defers : T → Option ℕ) (fixed : Fixed) (s : State T (SlotView T) (World T)) (id t : ℕ) where
  abbrev w : World T
  w = s.world

  -- what events of a seat within a section have left that are no steps of rows
  pub record Users (m : Mem T) (n : World T) (has : Has T) : Type 0 where
    pub since : Since defers fixed w n
    pub memory : m ≡ n.memory
    pub row : n.row ≡ w.row
    pub uses : n.uses ≡ w.uses
    pub in_hand : IsInHand defers n t has
    pub hands : StillHave defers fixed s id n
    pub sole : IsSole defers fixed s id (had_in has)
    pub values : (b : ℕ) → IsOthers defers fixed s id b → IsSome (value_at w.memory b) → IsSome (value_at n.memory b) → value_at n.memory b ≡ value_at w.memory b
    pub links : LinksStay defers fixed s id n
    pub held : (a b : ℕ) → holds a b w.log ≡ true → holds a b n.log ≡ true
    pub over : (a b : ℕ) → holds a b w.log ≡ true → is_over b n.log ≡ is_over b w.log
    pub roots : RootsNameLinked m n.hand
    pub rooted : length m.roots ≡ all_roots fixed
    pub chains : (r : ℕ) → IsChainRoot fixed r → Chain defers m n.hand r
    pub passes : Passes defers fixed s id n

  -- one event of a user, and one more
  pub passes_one : (e : Event T) (n : World T) → ((j : ℕ) → IsOfOthers j e) → Happens defers fixed.batch_size e w n → Passes defers fixed s id n
  passes_one e n is happens j ne was now = (e ∷ [], (n, is j, happens, now, refl))

  pub passes_then : (n v : World T) (e : Event T) → IsBetween e → ((j : ℕ) → IsOfOthers j e) → Passes defers fixed s id n
      → Happens defers fixed.batch_size e n v → Passes defers fixed s id v
  passes_then n v e between is before happens j ne was now =
      let mid : IsAloneOnSlot j n =
      subst (λ (rows : ℕ → Row). IsAloneOnSlot j (record v { row = rows })) (users_rows defers fixed.batch_size n v e between happens) now in
      let p = before j ne was mid in
      (p.0 ++ e ∷ [], both defers (IsAloneOnSlot j) fixed.batch_size j p.0 (e ∷ []) w n v p.1 (v, is j, happens, now, refl))

module _ {T : Type 0} (defers : T → Option ℕ) (fixed : Fixed) (s : State T (SlotView T) (World T)) (id t : ℕ) (v x : SlotView T) (h : Holds defers fixed s)
    (at : view_of s id ≡ Some v) (rests : row_of v ≡ world.Rests) (still : row_of x ≡ world.Rests) (same : use_of x ≡ use_of v) (short : IsShort x) where
  fit : Fits defers s.world id v
  fit = h.seats id v at

  -- the seat goes on from one view to another, of the same slot
  pub users_on : (m : Mem T) (n : World T) (has : Has T) → Users defers fixed s id t m n has → AreFound s id h.life.began fixed (had_in has) m n.hand
      → hand_of x ≡ had_in has → IsKnown defers n x → IsItsOwn n id x → IsBounded defers fixed n id x
      → (so : SlotView T → Type 0) → so x → Leads defers fixed s m id so
  users_on m n has u found hand known own bounded so is =
      moved defers fixed s id v x m n so h at (record {
        since = u.since;
        memory = u.memory;
        rows = λ j ne. ap (λ f. f j) u.row;
        own = record {
          row = ap (λ f. f id) u.row ∙ fit.row ∙ rests ∙ sym still;
          slot = subst (λ (o : Option (ℕ × Use)). IsUsed n o) (sym same)
              (still_used s.world n (use_of v) fit.slot (λ a b q. ap (λ (f : ℕ → Use). f a) u.uses));
          short = short;
          known = known;
          its_own = own;
        };
        others = λ j y ne e. still_used s.world n (use_of y) (h.seats j y e).slot (λ a b q. ap (λ (f : ℕ → Use). f a) u.uses);
        alone = alone defers fixed s id v h at x (λ a b q. (b, sym same ∙ q));
        hands = u.hands;
        sole = λ j b y ne e p q. u.sole j b y ne e p (sym hand ∙ q);
        values = u.values;
        links = u.links;
        held = λ a b inside held. u.held a b held;
        over = u.over;
        roots = u.roots;
        rooted = u.rooted;
        chains = u.chains;
        found = subst (λ (o : Option ℕ). AreFound s id h.life.began fixed o m n.hand) (sym hand) found;
        passes = u.passes;
        bounded = bounded;
      }) is

  -- or the memory and the world stay as they are
  pub stands : (m : Mem T) → m ≡ s.memory → (has : Has T) → IsInHand defers s.world t has → hand_of v ≡ had_in has → hand_of x ≡ had_in has
      → IsKnown defers s.world x → IsItsOwn s.world id x → IsBounded defers fixed s.world id x → (so : SlotView T → Type 0) → so x → Leads defers fixed s m id so
  stands m same_memory has in_hand had hand known own bounded so is =
      users_on m s.world has (record {
        since = ([], refl);
        memory = same_memory ∙ h.memory;
        row = refl;
        uses = refl;
        in_hand = in_hand;
        hands = λ j c y ne e q. refl;
        sole = λ j c y ne e q p. ne (h.sole j id c y v e at q (had ∙ p));
        values = λ c its some some2. refl;
        links = λ c apart some. (refl, refl);
        held = λ a c held. held;
        over = λ a c held. refl;
        roots = subst (λ (y : Mem T). RootsNameLinked y s.world.hand) (sym same_memory) h.roots;
        rooted = ap (λ (y : Mem T). length y.roots) same_memory ∙ h.rooted;
        chains = λ r is. subst (λ (y : Mem T). Chain defers y s.world.hand r) (sym same_memory) (h.chains r is);
        passes = λ j ne was now. ([], refl);
      }) (λ c. found_on defers fixed s id v h at (had_in has) m (ap (λ (y : Mem T). y.roots) same_memory) c (λ mine. sym had ∙ mine)) hand known own bounded so is

module _ {T : Type 0} where
  -- a view for each thing that is known of a block, of a seat that stays where it is, and has no row under way
  pub record Carries (t : ℕ) (place : Has T → SlotView T) : Type 0 where
    pub rests : (has : Has T) → row_of (place has) ≡ world.Rests
    pub stays : (has other : Has T) → use_of (place has) ≡ use_of (place other)
    pub short : (has : Has T) → IsShort (place has)
    pub hand : (has : Has T) → hand_of (place has) ≡ had_in has
    pub known : (defers : T → Option ℕ) (w : World T) (has : Has T) → IsInHand defers w t has → IsKnown defers w (place has)
    pub own : (w : World T) (j : ℕ) (has : Has T) → IsItsOwn w j (place has)
    pub bounded : (defers : T → Option ℕ) (fixed : Fixed) (w : World T) (j : ℕ) (has : Has T) → IsBounded defers fixed w j (place has)

  -- as one within a section of this slot does, or one without a slot

  pub within : (t : ℕ) → Carries t (Inside t)
  within t = record {
    rests = λ has. refl;
    stays = λ has other. refl;
    short = λ has. tt;
    hand = λ has. refl;
    known = λ defers w has is. is;
    own = λ w j has. tt;
    bounded = λ defers fixed w j has. tt;
  }

  pub alone_carries : Carries 0 alone_with
  alone_carries = record { rests = rests; stays = λ has other. none has ∙ sym (none other); short = short; hand = hand; known = known; own = own; bounded = bounded }
    where
      rests : (has : Has T) → row_of (alone_with has) ≡ world.Rests
      rests Nothing = refl
      rests (Made b x) = refl
      rests (Seen b) = refl
      rests (Both b x a) = refl
      rests (Cut b) = refl
      rests (Walks b next) = refl

      none : (has : Has T) → use_of (alone_with has) ≡ None
      none Nothing = refl
      none (Made b x) = refl
      none (Seen b) = refl
      none (Both b x a) = refl
      none (Cut b) = refl
      none (Walks b next) = refl

      short : (has : Has T) → IsShort (alone_with has)
      short Nothing = tt
      short (Made b x) = tt
      short (Seen b) = tt
      short (Both b x a) = tt
      short (Cut b) = tt
      short (Walks b next) = tt

      hand : (has : Has T) → hand_of (alone_with has) ≡ had_in has
      hand Nothing = refl
      hand (Made b x) = refl
      hand (Seen b) = refl
      hand (Both b x a) = refl
      hand (Cut b) = refl
      hand (Walks b next) = refl

      known : (defers : T → Option ℕ) (w : World T) (has : Has T) → IsInHand defers w 0 has → IsKnown defers w (alone_with has)
      known defers w Nothing is = tt
      known defers w (Made b x) is = is
      known defers w (Seen b) is = tt
      known defers w (Both b x a) is = is.0
      known defers w (Cut b) is = is
      known defers w (Walks b next) is = tt

      own : (w : World T) (j : ℕ) (has : Has T) → IsItsOwn w j (alone_with has)
      own w j Nothing = tt
      own w j (Made b x) = tt
      own w j (Seen b) = tt
      own w j (Both b x a) = tt
      own w j (Cut b) = tt
      own w j (Walks b next) = tt

      bounded : (defers : T → Option ℕ) (fixed : Fixed) (w : World T) (j : ℕ) (has : Has T) → IsBounded defers fixed w j (alone_with has)
      bounded defers fixed w j Nothing = tt
      bounded defers fixed w j (Made b x) = tt
      bounded defers fixed w j (Seen b) = tt
      bounded defers fixed w j (Both b x a) = tt
      bounded defers fixed w j (Cut b) = tt
      bounded defers fixed w j (Walks b next) = tt

module _ {T : Type 0} (defers : T → Option ℕ) (fixed : Fixed) (s : State T (SlotView T) (World T)) (id t : ℕ) (h : Holds defers fixed s) where
  -- where it is, it knows something else of a block
  pub users : (place : Has T → SlotView T) → Carries t place → (had : Has T) → view_of s id ≡ Some (place had) → (m : Mem T) (n : World T) (has : Has T)
      → Users defers fixed s id t m n has → AreFound s id h.life.began fixed (had_in has) m n.hand → (so : SlotView T → Type 0) → so (place has)
      → Leads defers fixed s m id so
  users place c had at m n has u found so is =
      users_on defers fixed s id t (place had) (place has) h at (c.rests had) (c.rests has) (c.stays has had) (c.short has) m n has u found (c.hand has)
      (c.known defers n has u.in_hand) (c.own n id has) (c.bounded defers fixed n id has) so is

  -- or outside of one, where it knows of no block, or of one that it has unlinked
  pub users_outside : view_of s id ≡ Some (Outside t) → (m : Mem T) (n : World T) → Users defers fixed s id t m n Nothing
      → AreFound s id h.life.began fixed None m n.hand → (so : SlotView T → Type 0) → so (Outside t) → Leads defers fixed s m id so
  users_outside at m n u found so is = users_on defers fixed s id t (Outside t) (Outside t) h at refl refl refl tt m n Nothing u found refl tt tt tt so is

  pub users_owe : view_of s id ≡ Some (Outside t) → (m : Mem T) (n : World T) (b : ℕ) → Users defers fixed s id t m n (Cut b)
      → AreFound s id h.life.began fixed (Some b) m n.hand → (so : SlotView T → Type 0) → so (Owes t b) → Leads defers fixed s m id so
  users_owe at m n b u found so is =
      users_on defers fixed s id t (Outside t) (Owes t b) h at refl refl refl tt m n (Cut b) u found refl u.in_hand tt tt so is
