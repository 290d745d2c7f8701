-- What a seat has done makes the rule hold again, where it has left what the other seats know.
use Rattle.std.specs.Prelude.{◌≢◌, Option, Some, None, IsSome, length, slice_get, slice_set}
use Rattle.std.proofs.Common.{◌≡◌, ℕ, ◌+◌, List, ◌⊎◌, true, false, inl, inr, refl, sym, subst, ap, ◌∙◌}
use Rattle.std.proofs.lemmas.Bool.{cases_eq}
use Rattle.seize_words.specs.OneMemory.Mem.{Mem, value_at, word_at}
use Rattle.seize_words.specs.declared.at.At.TheVariants.{Root}
use Rattle.seize.specs.Law.{Effect, holds, is_over}
use Rattle.seize.specs.World.{World, Row, Use, Hand, Vacant, Event, MayStep, IsInside, at_start}
use Rattle.seize.specs.World as world
use Rattle.seize.specs.declared.states.TheConstants.{LAST_SLOT}
use Rattle.seize_acts.proofs.Given.SeizeMovesState.Ghost.{IsOwned}
use Rattle.seize_acts.proofs.Given.SeizeMovesMoves.Blocks.{never_held}
use Rattle.seize_acts.proofs.Given.SeizeRulePoints.Aside.{HandFits}
use Rattle.seize_acts.proofs.Given.SeizeAloneHistories.Reached.{Reached}
use Rattle.seize_acts.proofs.Given.SeizeRuleWorld.Kept.{rows_may}
use Rattle.seize_acts.specs.Given.SeizeAloneAlone.{IsOfUsers}
use Rattle.seize_acts.proofs.Given.SeizeAloneHistories.NotTaken.{IsHad, IsHeld, kept_there}
use Rattle.seize_seats.specs.Seats.State.{State, view_of, after}
use Rattle.seize_acts.specs.Bounds.Bounds.{HasCounted, HasTried, IsAloneOnSlot, Meanwhile}
use Rattle.seize_views.specs.Views.Chains.{all_roots, IsChainRoot, HasLink, Chain}
use Rattle.seize_views.specs.Views.Rows.{Leads, use_of, row_of, hand_of, had_in, settles_for, IsUsed, IsMade, IsInHand, IsHeldSo, IsItsOwn, IsKnown, RootsNameLinked, IsInSomeHand, Fits, Since, Came, IsBounded, Holds, Keeps}
use Rattle.seize_views.specs.declared.view.SlotView.{SlotView}
use Rattle.seize_views.specs.declared.view.SlotView.TheVariants.{Rests, Registers, Outside, Owes, Enters, Inside, Settles, Leaves, Left, Frees, Brings, Bears, Watches, Under, Joins, Defers, Busy}
use Rattle.seize_views.specs.declared.view.Has.{Has}
use Rattle.seize_views.specs.declared.view.Has.TheVariants.{Nothing, Made, Seen, Both, Cut, Walks}
use Rattle.seize_views.specs.declared.view.Deferral.{Deferral}
use Rattle.seize_views.specs.declared.view.Deferral.TheVariants.{Takes, Parts, Puts}
use Rattle.seize_views.specs.declared.view.Why.TheVariants.{Retiring, Ending}
use Rattle.seize_views.specs.declared.view.Becomes.TheVariants.{Idle, Active}
use Rattle.seize_views.specs.declared.view.Fixed.{Fixed}
use Rattle.seize_views.proofs.Views.Aside.{alone_on_slot}
use Rattle.seize_views.proofs.Views.Came.{of_users, reached, since_both}
use Rattle.seize_views.proofs.Views.Chains.{SameLink, chain_kept, all_below_kept, link_seen_kept, links_kept}
use Rattle.seize_views.proofs.Views.Found.{HasNow, AreFound, found_at, some_has}
use Rattle.seize_acts.proofs.Bounds.Bounds.Passing.{still_within}
use Rattle.seize_views.proofs.Views.Lists.{there, elsewhere}
use Rattle.seize_views.proofs.Views.Reclaims.{reclaiming_there, reclaiming_handed}
use Rattle.seize_words.proofs.General.{same_some}

-- a slot that a seat has is not vacant
pub not_vacant : {T : Type 0} (x : SlotView T) (t : ℕ) (a : Use) → use_of x ≡ Some (t, a) → a ≡ Vacant → ⊥
not_vacant {T} x t a e v = by x e
  where
    so : (p q : ℕ × Use) → Some p ≡ Some q → p.1 ≡ q.1
    so p q f = ap (λ (r : ℕ × Use). r.1) (same_some p q f)

    by : (y : SlotView T) → use_of y ≡ Some (t, a) → ⊥
    by Rests f = cc f
    by (Registers c) f = cc f
    by (Outside s) f = let k = so (s, world.Outside 0) (t, a) f in cc (k, v)
    by (Owes s b) f = let k = so (s, world.Outside 0) (t, a) f in cc (k, v)
    by (Enters s) f = let k = so (s, world.Changing) (t, a) f in cc (k, v)
    by (Inside s has) f = let k = so (s, world.Inside 0) (t, a) f in cc (k, v)
    by (Settles c (Retiring Idle) seen left) f = let k = so (c.slot, world.Outside 1) (t, a) f in cc (k, v)
    by (Settles c (Retiring Active) seen left) f = let k = so (c.slot, world.Inside 1) (t, a) f in cc (k, v)
    by (Settles c (Ending size way) seen left) f = let k = so (c.slot, world.Changing) (t, a) f in cc (k, v)
    by (Leaves s size way) f = let k = so (s, world.Changing) (t, a) f in cc (k, v)
    by (Left s size way) f = let k = so (s, world.Changing) (t, a) f in cc (k, v)
    by (Frees s) f = let k = so (s, world.Changing) (t, a) f in cc (k, v)
    by (Brings b y) f = cc f
    by (Bears b) f = cc f
    by (Watches s b) f = cc f
    by (Joins block) f = cc f
    by (Under n s b) f = cc f
    by (Defers s (Takes b c made)) f = let k = so (s, world.Inside 0) (t, a) f in cc (k, v)
    by (Defers s (Parts b y c d)) f = let k = so (s, world.Inside 0) (t, a) f in cc (k, v)
    by (Defers s (Puts b c)) f = let k = so (s, world.Inside 1) (t, a) f in cc (k, v)
    by (Busy None) f = cc f
    by (Busy (Some s)) f = let k = so (s, world.Inside 0) (t, a) f in cc (k, v)

-- a block is some caller's, and is not linked
abbrev pub IsAside : Hand → Type 0
IsAside k = IsOfUsers k × ((r : ℕ) → k ≡ world.InUse r → ⊥)

module _ {T : Type 0} where
  pub used_so : (w : World T) (o : Option (ℕ × Use)) (t : ℕ) (a : Use) → IsUsed w o → o ≡ Some (t, a) → w.uses t ≡ a
  used_so w o t a is e = subst (λ (p : Option (ℕ × Use)). IsUsed w p) e is

  pub still_used : (w n : World T) (o : Option (ℕ × Use)) → IsUsed w o → ((t : ℕ) (a : Use) → o ≡ Some (t, a) → n.uses t ≡ w.uses t) → IsUsed n o
  still_used w n None is same = tt
  still_used w n (Some slot) is same = same slot.0 slot.1 refl ∙ is

module _ {T : Type 0} (defers : T → Option ℕ) where
  -- what is in a seat's hand is such a one

  had_users : (w : World T) (t : ℕ) (has : Has T) (b : ℕ) → IsInHand defers w t has → had_in has ≡ Some b → IsAside (w.hand b)
  had_users w t (Made c x) b is e = subst IsAside (sym (ap w.hand (sym (same_some c b e)) ∙ is.0.1)) (tt, λ r q. cc q)
  had_users w t (Both c x a) b is e = subst IsAside (sym (ap w.hand (sym (same_some c b e)) ∙ is.0.0.1)) (tt, λ r q. cc q)
  had_users w t (Cut c) b is e = subst IsAside (sym (ap w.hand (sym (same_some c b e)) ∙ is.1)) (tt, λ r q. cc q)
  had_users w t Nothing b is e = absurd (cc e)
  had_users w t (Seen a) b is e = absurd (cc e)
  had_users w t (Walks a next) b is e = absurd (cc e)

  pub hand_users : (w : World T) (v : SlotView T) (b : ℕ) → IsKnown defers w v → hand_of v ≡ Some b → IsAside (w.hand b)
  hand_users w (Owes t c) b is e = had_users w t (Cut c) b is e
  hand_users w (Inside t has) b is e = had_users w t has b is e
  hand_users w (Brings c x) b is e = had_users w 0 (Made c x) b is e
  hand_users w (Bears c) b is e = had_users w 0 (Cut c) b is e
  hand_users w Rests b is e = absurd (cc e)
  hand_users w (Registers c) b is e = absurd (cc e)
  hand_users w (Outside t) b is e = absurd (cc e)
  hand_users w (Enters t) b is e = absurd (cc e)
  hand_users w (Settles c why seen left) b is e = absurd (cc e)
  hand_users w (Leaves t size way) b is e = absurd (cc e)
  hand_users w (Left t size way) b is e = absurd (cc e)
  hand_users w (Frees t) b is e = absurd (cc e)
  hand_users w (Watches t c) b is e = absurd (cc e)
  hand_users w (Under n t c) b is e = absurd (cc e)
  hand_users w (Joins None) b is e = absurd (cc e)
  hand_users w (Joins (Some made)) b is e = had_users w 0 (Made made.0 made.1) b is.0 e
  hand_users w (Defers t (Takes a y None)) b is e = absurd (cc e)
  hand_users w (Defers t (Takes a y (Some made))) b is e = had_users w t (Made made.0 made.1) b is.1 e
  hand_users w (Defers t (Parts a y c x)) b is e = subst IsAside (sym (ap w.hand (sym (same_some c b e)) ∙ is.1.0.1)) (tt, λ r q. cc q)
  hand_users w (Defers t (Puts a c)) b is e = absurd (cc e)
  hand_users w (Busy t) b is e = absurd is

module _ {T : Type 0} where
  -- a seat is within the section of its slot
  pub inside_of : (w : World T) (t : ℕ) (has : Has T) → IsUsed w (use_of {T = T} (Inside t has)) → IsInside (w.uses t)
  inside_of w t has is = subst (λ (a : Use). IsInside a) (sym is) tt

  -- as one is that defers a block
  pub inside_so : (defers : T → Option ℕ) (w : World T) (j t : ℕ) (c : Deferral T) → Fits defers w j (Defers t c) → IsInside (w.uses t)
  inside_so defers w j t (Takes a y made) f = subst (λ (a : Use). IsInside a) (sym f.slot) tt
  inside_so defers w j t (Parts a y b x) f = subst (λ (a : Use). IsInside a) (sym f.slot) tt
  inside_so defers w j t (Puts a c) f = subst (λ (a : Use). IsInside a) (sym f.slot) tt

module _ {T : Type 0} where
  -- a block that its maker has no section holds
  pub making_not_held : (defers : T → Option ℕ) (size : ℕ) (w : World T) (r : Reached defers size w) (id a b c : ℕ) → holds a c w.log ≡ true
      → w.hand b ≡ world.Making id → c ≡ b → ⊥
  making_not_held defers size w r id a b c held mine e =
      let life : r.good.state.life b ≡ IsOwned id = subst (λ (k : Hand). HandFits k (r.good.state.life b)) mine (r.good.hands b) in
      let none = never_held (LAST_SLOT + 1) id r.good.state b r.good.inv life a in
      cc (subst (λ (l : List Effect). holds a b l ≡ false) r.good.logged none, subst (λ (k : ℕ). holds a k w.log ≡ true) e held)

module _ {T : Type 0} (defers : T → Option ℕ) (fixed : Fixed) (s : State T (SlotView T) (World T)) (id : ℕ) where
  -- what the others have in their hands they have still
  abbrev pub StillHave : World T → Type 0
  StillHave n = (j b : ℕ) (x : SlotView T) → j ≢ id → view_of s j ≡ Some x → hand_of x ≡ Some b → n.hand b ≡ s.world.hand b

  -- and none of them has this block
  abbrev pub IsSole : Option ℕ → Type 0
  IsSole o = (j b : ℕ) (x : SlotView T) → j ≢ id → view_of s j ≡ Some x → hand_of x ≡ Some b → o ≡ Some b → ⊥

  -- for each other seat it has passed meanwhile, and nobody settles on that one's slot
  abbrev pub Passes : World T → Type 0
  Passes n =
      (j : ℕ) → j ≢ id → IsAloneOnSlot j s.world → IsAloneOnSlot j n
      → (events : List (Event T)) × Meanwhile defers (IsAloneOnSlot j) fixed.batch_size j events s.world n

  -- another seat has the block in its hand, or the collector has it, or a section holds it that is open
  abbrev pub IsOthers : ℕ → Type 0
  IsOthers b =
      ((j : ℕ) × (x : SlotView T) × (j ≢ id) × (view_of s j ≡ Some x) × (hand_of x ≡ Some b)) ⊎ (s.world.hand b ≡ world.Handed)
      ⊎ ((t : ℕ) × IsInside (s.world.uses t) × (holds t b s.world.log ≡ true))

  -- it is a block with a link that is not aside, or another seat has made it
  abbrev pub IsApart : ℕ → Type 0
  IsApart b =
      (HasLink defers s.world.memory b × ((h : ℕ) → s.world.hand b ≡ world.Making h → ⊥))
      ⊎ (((j : ℕ) × (x : SlotView T) × (j ≢ id) × (view_of s j ≡ Some x) × (hand_of x ≡ Some b)) × ((h : ℕ) × (s.world.hand b ≡ world.Making h)))

  -- such a one has the link that it had
  abbrev pub LinksStay : World T → Type 0
  LinksStay n = (b : ℕ) → IsApart b → IsSome (value_at n.memory b) → SameLink s.world.memory n.memory b

  -- The seat has come to this view, this memory and this world, and the others know what they knew. The present lifetime began with that world.
  pub record Moved (began : World T) (u : SlotView T) (m : Mem T) (n : World T) : Type 0 where
    pub since : Since defers fixed s.world n
    pub memory : m ≡ n.memory
    pub rows : (j : ℕ) → j ≢ id → n.row j ≡ s.world.row j
    pub own : Fits defers n id u
    pub others : (j : ℕ) (x : SlotView T) → j ≢ id → view_of s j ≡ Some x → IsUsed n (use_of x)
    pub alone : (j t : ℕ) (x : SlotView T) (a b : Use) → j ≢ id → view_of s j ≡ Some x → use_of x ≡ Some (t, a) → use_of u ≡ Some (t, b) → ⊥
    pub hands : StillHave n
    pub sole : IsSole (hand_of u)
    pub values : (b : ℕ) → IsOthers b → IsSome (value_at s.world.memory b) → IsSome (value_at n.memory b) → value_at n.memory b ≡ value_at s.world.memory b
    pub links : LinksStay n
    pub held : (t b : ℕ) → IsInside (s.world.uses t) → holds t b s.world.log ≡ true → holds t b n.log ≡ true
    pub over : (t b : ℕ) → holds t b s.world.log ≡ true → is_over b n.log ≡ is_over b s.world.log
    pub roots : RootsNameLinked m n.hand
    pub rooted : length m.roots ≡ all_roots fixed
    pub chains : (r : ℕ) → IsChainRoot fixed r → Chain defers m n.hand r
    pub found : AreFound s id began fixed (hand_of u) m n.hand
    pub passes : Passes n
    pub bounded : IsBounded defers fixed n id u

  -- each chain stays where links do, its root names what it named, and who is linked there is linked there
  pub chains_stay : Holds defers fixed s → (m : Mem T) (n : World T) → m ≡ n.memory → Since defers fixed s.world n → LinksStay n
      → ((r : ℕ) → IsChainRoot fixed r → word_at m (Root r) ≡ word_at s.memory (Root r))
      → ((b r : ℕ) → IsChainRoot fixed r → s.world.hand b ≡ world.InUse r → n.hand b ≡ world.InUse r)
      → ((b r : ℕ) → IsChainRoot fixed r → n.hand b ≡ world.InUse r → s.world.hand b ≡ world.InUse r) → (r : ℕ) → IsChainRoot fixed r → Chain defers m n.hand r
  chains_stay h m n memory since links root on back r is =
      let came = since_both defers fixed (at_start defers (all_roots fixed)) s.world n h.came since in
      let same : (b : ℕ) → s.world.hand b ≡ world.InUse r → HasLink defers s.memory b → SameLink s.memory m b =
      (λ b linked has.
      let there = kept_there defers fixed.batch_size n (reached defers fixed n came) b (IsHad (of_users n.hand b (world.InUse r) tt (on b r is linked))) in
      let k = links b (inl (subst (λ (x : Mem T). HasLink defers x b) h.memory has, λ i making. let e = sym linked ∙ making in cc e)) there in
      subst (λ (x : Mem T). SameLink x m b) (sym h.memory) (subst (λ (x : Mem T). SameLink s.world.memory x b) (sym memory) k)) in
      chain_kept defers s.memory m s.world.hand n.hand r (root r is) (λ b e. on b r is e) (λ b e. back b r is e) same (h.chains r is)

  module _ (v u : SlotView T) (m : Mem T) (n : World T) (so : SlotView T → Type 0) (h : Holds defers fixed s) (at : view_of s id ≡ Some v) (mo : Moved h.life.began u m n) where
    came_now : Came defers fixed n
    came_now = since_both defers fixed (at_start defers (all_roots fixed)) s.world n h.came mo.since

    -- a block that another one has made is there, with its value
    made_on : (b : ℕ) (x : T) → IsOthers b → n.hand b ≡ s.world.hand b → IsMade s.world b x → IsMade n b x
    made_on b x its same is =
        let mine : n.hand b ≡ world.Making is.0.0 = same ∙ is.0.1 in
        let there = kept_there defers fixed.batch_size n (reached defers fixed n came_now) b (IsHad (of_users n.hand b (world.Making is.0.0) tt mine)) in
        ((is.0.0, mine), mo.values b its (subst IsSome (sym is.1) refl) there ∙ is.1)

    -- as is one that an open section holds
    held_so : (t a : ℕ) (y : T) → IsInside (s.world.uses t) → IsHeldSo s.world t a y → IsHeldSo n t a y
    held_so t a y inside is =
        let now = mo.held t a inside is.0 in
        let there = kept_there defers fixed.batch_size n (reached defers fixed n came_now) a (IsHeld t now) in
        (now, mo.values a (inr (inr (t, inside, is.0))) (subst IsSome (sym is.1) refl) there ∙ is.1)

    known : (j : ℕ) (x : SlotView T) → j ≢ id → view_of s j ≡ Some x → n.row j ≡ row_of x → Fits defers s.world j x → IsKnown defers n x
    known j (Inside t Nothing) ne e row f = tt
    known j (Inside t (Made b x)) ne e row f =
        made_on b x (inl (j, Inside t (Made b x), ne, e, refl)) (mo.hands j b (Inside t (Made b x)) ne e refl) f.known
    known j (Inside t (Seen b)) ne e row f = mo.held t b (inside_of s.world t (Seen b) f.slot) f.known
    known j (Inside t (Both b x a)) ne e row f = (
      made_on b x (inl (j, Inside t (Both b x a), ne, e, refl)) (mo.hands j b (Inside t (Both b x a)) ne e refl) f.known.0,
      mo.held t a (inside_of s.world t (Both b x a) f.slot) f.known.1,
    )
    known j (Inside t (Cut b)) ne e row f = (f.known.0, mo.hands j b (Inside t (Cut b)) ne e refl ∙ f.known.1)
    known j (Inside t (Walks b next)) ne e row f =
        let inside = inside_of s.world t (Walks b next) f.slot in
        let held : (c : ℕ) → holds t c s.world.log ≡ true → holds t c n.log ≡ true = (λ c is. mo.held t c inside is) in
        let r = reached defers fixed s.world h.came in
        let same : (c : ℕ) → holds t c s.world.log ≡ true → HasLink defers s.world.memory c → SameLink s.world.memory n.memory c =
        (λ c is has. mo.links c (inl (has, λ i making. making_not_held defers fixed.batch_size s.world r i t c c is making refl))
        (kept_there defers fixed.batch_size n (reached defers fixed n came_now) c (IsHeld t (held c is)))) in
        (all_below_kept defers s.world n t same held b f.known.0, link_seen_kept defers s.world n t same held b next f.known.0 f.known.1)
    known j (Settles c why None left) ne e row f = tt
    known j (Settles c why (Some seen) left) ne e row f =
        let may : MayStep defers (settles_for why c) n.memory =
        subst (λ (r : Row). MayStep defers r n.memory) row (rows_may defers fixed.batch_size (all_roots fixed) came_now.0 n came_now.1 j) in
        let some : IsSome (value_at n.memory seen.0) =
        subst (λ (b : ℕ). IsSome (value_at n.memory b)) (sym f.known.1) (reclaiming_there defers c why n.memory may f.known.0) in
        let handed : s.world.hand seen.0 ≡ world.Handed =
        ap s.world.hand f.known.1 ∙ reclaiming_handed defers fixed.batch_size s.world (reached defers fixed s.world h.came) j c why f.row f.known.0 in
        (f.known.0, f.known.1, mo.values seen.0 (inr (inl handed)) (subst IsSome (sym f.known.2) refl) some ∙ f.known.2)
    known j Rests ne e row f = tt
    known j (Registers c) ne e row f = tt
    known j (Outside t) ne e row f = tt
    known j (Owes t b) ne e row f = (f.known.0, mo.hands j b (Owes t b) ne e refl ∙ f.known.1)
    known j (Enters t) ne e row f = tt
    known j (Leaves t size way) ne e row f = tt
    known j (Left t size way) ne e row f = tt
    known j (Frees t) ne e row f = tt
    known j (Brings b x) ne e row f = made_on b x (inl (j, Brings b x, ne, e, refl)) (mo.hands j b (Brings b x) ne e refl) f.known
    known j (Bears b) ne e row f = (f.known.0, mo.hands j b (Bears b) ne e refl ∙ f.known.1)
    known j (Watches t b) ne e row f = tt
    known j (Under n t b) ne e row f = tt
    known j (Joins None) ne e row f = tt
    known j (Joins (Some (b, x, a))) ne e row f =
        let its : (k : ℕ) × (y : SlotView T) × (k ≢ id) × (view_of s k ≡ Some y) × (hand_of y ≡ Some b) = (j, Joins (Some (b, x, a)), ne, e, refl) in
        let is = made_on b x (inl its) (mo.hands j b (Joins (Some (b, x, a))) ne e refl) f.known.0 in
        (is, links_kept s.world.memory n.memory b a (mo.links b (inr (its, f.known.0.0)) (subst IsSome (sym is.1) refl)) f.known.1, f.known.2)
    known j (Defers t (Takes a y None)) ne e row f = (held_so t a y (inside_so defers s.world j t (Takes a y None) f) f.known.0, tt)
    known j (Defers t (Takes a y (Some made))) ne e row f =
        let v : SlotView T = Defers t (Takes a y (Some made)) in (
          held_so t a y (inside_so defers s.world j t (Takes a y (Some made)) f) f.known.0,
          made_on made.0 made.1 (inl (j, v, ne, e, refl)) (mo.hands j made.0 v ne e refl) f.known.1,
        )
    known j (Defers t (Parts a y b x)) ne e row f =
        let v : SlotView T = Defers t (Parts a y b x) in let now = mo.hands j b v ne e refl ∙ f.known.1.0.1 in
        let there = kept_there defers fixed.batch_size n (reached defers fixed n came_now) b (IsHad (of_users n.hand b (world.Parting f.known.1.0.0) tt now)) in (
          held_so t a y (inside_so defers s.world j t (Parts a y b x) f) f.known.0,
          ((f.known.1.0.0, now), mo.values b (inl (j, v, ne, e, refl)) (subst IsSome (sym f.known.1.1) refl) there ∙ f.known.1.1),
        )
    known j (Defers t (Puts a c)) ne e row f = mo.held t a (inside_so defers s.world j t (Puts a c) f) f.known
    known j (Busy t) ne e row f = f.known

    -- what it has taken out is its own
    own_on : (j : ℕ) (x : SlotView T) → j ≢ id → view_of s j ≡ Some x → IsItsOwn s.world j x → IsItsOwn n j x
    own_on j (Defers t (Parts a y b x)) ne e own = mo.hands j b (Defers t (Parts a y b x)) ne e refl ∙ own
    own_on j (Defers t (Takes a y made)) ne e own = tt
    own_on j (Defers t (Puts a c)) ne e own = tt
    own_on j Rests ne e own = tt
    own_on j (Registers c) ne e own = tt
    own_on j (Outside t) ne e own = tt
    own_on j (Owes t b) ne e own = tt
    own_on j (Enters t) ne e own = tt
    own_on j (Inside t has) ne e own = tt
    own_on j (Settles c why seen left) ne e own = tt
    own_on j (Leaves t size way) ne e own = tt
    own_on j (Left t size way) ne e own = tt
    own_on j (Frees t) ne e own = tt
    own_on j (Brings b x) ne e own = tt
    own_on j (Bears b) ne e own = tt
    own_on j (Watches t b) ne e own = tt
    own_on j (Under m t b) ne e own = tt
    own_on j (Joins block) ne e own = tt
    own_on j (Busy t) ne e own = tt

    bound : (j : ℕ) (x : SlotView T) → j ≢ id → IsAloneOnSlot j n → IsBounded defers fixed s.world j x → IsBounded defers fixed n j x
    bound j (Settles c (Retiring way) seen left) ne after b =
        let p = mo.passes j ne (alone_on_slot s.world (view_of s) (λ i y e. (h.seats i y e).row) h.unborn h.apart j) after in
        still_within defers (IsAloneOnSlot j) HasTried fixed.batch_size j left s.world n p.0 p.1 b
    bound j (Settles c (Ending size way) seen left) ne after b =
        let p = mo.passes j ne (alone_on_slot s.world (view_of s) (λ i y e. (h.seats i y e).row) h.unborn h.apart j) after in
        still_within defers (IsAloneOnSlot j) HasCounted fixed.batch_size j left s.world n p.0 p.1 b
    bound j Rests ne after b = tt
    bound j (Registers c) ne after b = tt
    bound j (Outside t) ne after b = tt
    bound j (Owes t d) ne after b = tt
    bound j (Enters t) ne after b = tt
    bound j (Inside t has) ne after b = tt
    bound j (Leaves t size way) ne after b = tt
    bound j (Left t size way) ne after b = tt
    bound j (Frees t) ne after b = tt
    bound j (Brings d x) ne after b = tt
    bound j (Bears d) ne after b = tt
    bound j (Watches t d) ne after b = tt
    bound j (Under n t d) ne after b = tt
    bound j (Joins block) ne after b = tt
    bound j (Defers t c) ne after b = tt
    bound j (Busy t) ne after b = tt

    pub moved : so u → Leads defers fixed s m id so
    moved is = (
      u,
      n,
      record {
        came = came_now;
        memory = mo.memory;
        seats = λ j x e. fit j x e (cases_eq j id);
        unborn = λ j e. none j e (cases_eq j id);
        apart = λ j k t a b x y e f p q. two j k t a b x y e f p q (cases_eq j id) (cases_eq k id);
        sole = λ j k b x y e f p q. one j k b x y e f p q (cases_eq j id) (cases_eq k id);
        roots = mo.roots;
        rooted = mo.rooted;
        chains = mo.chains;
        life = record {
          began = h.life.began;
          past = h.life.past;
          idle = h.life.idle;
          since = since_both defers fixed h.life.began s.world n h.life.since mo.since;
        };
        found = λ b. found_at fixed m m b (HasNow s id h.life.began (hand_of u) b) (IsInSomeHand (after s m id u n) h.life.began b) refl
            (some_has s id h.life.began v u at m n b) (n.hand b) (mo.found b);
        bounded = λ j x e. bound_at j x e (cases_eq j id);
      },
      (λ j k b x o ne ne2 e f keeps. still j b x o ne e keeps),
      mo.held,
      is,
    )
      where
        here : (j : ℕ) → j ≡ id → slice_get (slice_set s.views id u) j ≡ Some u
        here j e = subst (λ (k : ℕ). slice_get (slice_set s.views id u) k ≡ Some u) (sym e) (there s.views id u v at)

        own : (j : ℕ) (x : SlotView T) → j ≡ id → slice_get (slice_set s.views id u) j ≡ Some x → u ≡ x
        own j x e f = same_some u x (sym (here j e) ∙ f)

        before : (j : ℕ) (x : SlotView T) → j ≢ id → slice_get (slice_set s.views id u) j ≡ Some x → view_of s j ≡ Some x
        before j x ne e = sym (elsewhere s.views id j u ne) ∙ e

        fit : (j : ℕ) (x : SlotView T) → slice_get (slice_set s.views id u) j ≡ Some x → (j ≡ id) ⊎ (j ≢ id) → Fits defers n j x
        fit j x e (inl same) =
            subst (λ (y : SlotView T). Fits defers n j y) (own j x same e) (subst (λ (k : ℕ). Fits defers n k u) (sym same) mo.own)
        fit j x e (inr ne) =
            let f = h.seats j x (before j x ne e) in
            let row = mo.rows j ne ∙ f.row in
            record { row = row; slot = mo.others j x ne (before j x ne e); short = f.short; known = known j x ne (before j x ne e) row f; its_own = own_on j x ne (before j x ne e) f.its_own }

        none : (j : ℕ) → slice_get (slice_set s.views id u) j ≡ None → (j ≡ id) ⊎ (j ≢ id) → n.row j ≡ world.Rests
        none j e (inl same) = let f = here j same in absurd (cc (e, f))
        none j e (inr ne) = mo.rows j ne ∙ h.unborn j (sym (elsewhere s.views id j u ne) ∙ e)

        two : (j k t : ℕ) (a b : Use) (x y : SlotView T) → slice_get (slice_set s.views id u) j ≡ Some x → slice_get (slice_set s.views id u) k ≡ Some y
            → use_of x ≡ Some (t, a) → use_of y ≡ Some (t, b) → (j ≡ id) ⊎ (j ≢ id) → (k ≡ id) ⊎ (k ≢ id) → j ≡ k
        two j k t a b x y e f p q (inl i) (inl l) = i ∙ sym l
        two j k t a b x y e f p q (inl i) (inr ne) = absurd (mo.alone k t y b a ne (before k y ne f) q (ap use_of (own j x i e) ∙ p))
        two j k t a b x y e f p q (inr ne) (inl l) = absurd (mo.alone j t x a b ne (before j x ne e) p (ap use_of (own k y l f) ∙ q))
        two j k t a b x y e f p q (inr ne) (inr ne2) = h.apart j k t a b x y (before j x ne e) (before k y ne2 f) p q

        one : (j k b : ℕ) (x y : SlotView T) → slice_get (slice_set s.views id u) j ≡ Some x → slice_get (slice_set s.views id u) k ≡ Some y
            → hand_of x ≡ Some b → hand_of y ≡ Some b → (j ≡ id) ⊎ (j ≢ id) → (k ≡ id) ⊎ (k ≢ id) → j ≡ k
        one j k b x y e f p q (inl i) (inl l) = i ∙ sym l
        one j k b x y e f p q (inl i) (inr ne) = absurd (mo.sole k b y ne (before k y ne f) q (ap hand_of (own j x i e) ∙ p))
        one j k b x y e f p q (inr ne) (inl l) = absurd (mo.sole j b x ne (before j x ne e) p (ap hand_of (own k y l f) ∙ q))
        one j k b x y e f p q (inr ne) (inr ne2) = h.sole j k b x y (before j x ne e) (before k y ne2 f) p q

        -- nobody settles on another one's slot then, either
        alone_then : (j : ℕ) → IsAloneOnSlot j n
        alone_then j = alone_on_slot n (slice_get (slice_set s.views id u)) (λ i x e. (fit i x e (cases_eq i id)).row) (λ i e. none i e (cases_eq i id))
            (λ i k t a b x y e f p q. two i k t a b x y e f p q (cases_eq i id) (cases_eq k id)) j

        bound_at : (j : ℕ) (x : SlotView T) → slice_get (slice_set s.views id u) j ≡ Some x → (j ≡ id) ⊎ (j ≢ id) → IsBounded defers fixed n j x
        bound_at j x e (inl same) =
            subst (λ (y : SlotView T). IsBounded defers fixed n j y) (own j x same e) (subst (λ (k : ℕ). IsBounded defers fixed n k u) (sym same) mo.bounded)
        bound_at j x e (inr ne) = bound j x ne (alone_then j) (h.bounded j x (before j x ne e))

        still : (j b : ℕ) (x o : SlotView T) → j ≢ id → view_of s j ≡ Some x → Keeps x o s.world b → Keeps x o n b
        still j b x o ne e keeps =
            let slot = subst (λ (y : SlotView T). IsUsed s.world (use_of y)) keeps.2 (h.seats j x e).slot in
            (keeps.0, keeps.1, keeps.2, mo.held keeps.0 b (inside_of s.world keeps.0 keeps.1 slot) keeps.3, mo.over keeps.0 b keeps.3 ∙ keeps.4)
