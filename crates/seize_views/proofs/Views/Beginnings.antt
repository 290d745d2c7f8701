-- Rows begin and end, the rule starts, and seats come.
use Rattle.std.specs.Prelude.{◌<◌, Option, Some, None, replicate, slice_get}
use Rattle.std.proofs.Common.{◌≡◌, ℕ, zero, suc, [], ◌⊎◌, inl, inr, refl, sym, subst, ap, arith}
use Rattle.std.proofs.lemmas.List.{length-replicate}
use Rattle.seize_words.specs.OneMemory.Word.{block_in, link_to}
use Rattle.seize.specs.declared.rows.settle.Settle.{Settle}
use Rattle.seize.specs.Settle.{retiring, flushing}
use Rattle.seize.specs.World.{World, Use, Hand, at_start}
use Rattle.seize.specs.World as world
use Rattle.seize_seats.specs.Seats.State.{State, view_of, joined, Comes, Starts}
use Rattle.seize_views.specs.Views.Chains.{all_roots}
use Rattle.seize_views.specs.Views.Rows.{TurnsTo, row_of, use_of, hand_of, IsCut, IsKnown, IsInSomeHand, Fits, IsBounded, Holds, Keeps}
use Rattle.seize_views.specs.Views.Begun.{IsBegun}
use Rattle.seize_views.specs.Views.Promises.{IsNext, RulesStart, SeatsCome, RowsTurn, SettlingsBegin}
use Rattle.seize_views.specs.declared.view.SlotView.{SlotView}
use Rattle.seize_views.specs.declared.view.Becomes.{Becomes}
use Rattle.seize_views.specs.declared.view.Becomes.TheVariants.{Idle, Active}
use Rattle.seize_views.specs.declared.view.SlotView.TheVariants.{Rests, Registers, Outside, Owes, Enters, Inside, Settles, Leaves, Left, Frees, Brings, Bears, Watches, Under, Joins, Defers, Busy}
use Rattle.seize_views.specs.declared.view.Has.TheVariants.{Nothing, Made, Seen, Both, Cut, Walks}
use Rattle.seize_views.specs.declared.view.Fixed.{Fixed}
use Rattle.seize_views.proofs.Views.Found.{found_at}
use Rattle.seize_views.proofs.Views.Lists.{with_last, none_before, with_more}
use Rattle.seize_views.proofs.Views.InWorld.{IsJustSo, just_so, used_as}
use Rattle.seize_views.proofs.Views.Begins as begins
use Rattle.seize_views.proofs.Views.Begins.{resting}
use Rattle.seize_views.proofs.Views.Lifted as lifted
use Rattle.seize_views.proofs.Views.Roots.{forgets}
use Rattle.seize_views.proofs.Views.Turning.{Turning, turning}
use Rattle.seize_words.proofs.General.{same_some}

-- each root is 0 at the start
zeros : (n r word : ℕ) → slice_get (replicate n 0) r ≡ Some word → 0 ≡ word
zeros zero r word e = absurd (cc e)
zeros (suc n) zero word e = same_some 0 word e
zeros (suc n) (suc r) word e = zeros n r word e

zero_at : (n r : ℕ) → r < n → slice_get {X = ℕ} (replicate n 0) r ≡ Some 0
zero_at zero r lt = absurd (omega (arith, lt))
zero_at (suc n) zero lt = refl
zero_at (suc n) (suc r) lt = zero_at n r (omega (arith, lt))

module _ {T : Type 0} (defers : T → Option ℕ) (fixed : Fixed) where
  abbrev H : State T (SlotView T) (World T) → Type 0
  H = Holds defers fixed

  -- it lets go of what it has seen, or a row begins, or ends
  turned : (id : ℕ) (v u : SlotView T) → Turning defers fixed IsJustSo just_so id v u → TurnsTo defers fixed id v (λ x. x ≡ u)
  turned id v u (inl is) =
      subst (λ (y : SlotView T). TurnsTo defers fixed id y (λ x. x ≡ u)) (sym is.from)
      (subst (λ (y : SlotView T). TurnsTo defers fixed id (Inside is.slot is.has) (λ x. x ≡ y)) (sym is.to) (forgets defers fixed id is.slot is.has is.none))
  turned id v u (inr (inl begins)) =
      λ s h at_id. lifted.begins defers fixed s id v h at_id (λ x. x ≡ u) (begins.1 s.world (lifted.has_row defers fixed s id v h at_id))
  turned id v u (inr (inr ends)) =
      λ s h at_id. lifted.ends defers fixed s id v h at_id (λ x. x ≡ u) (ends s.world (lifted.has_row defers fixed s id v h at_id))

  turns : (id : ℕ) (v u : SlotView T) → IsNext fixed v u → TurnsTo defers fixed id v (λ x. x ≡ u)
  turns id v u is = turned id v u (turning defers fixed IsJustSo just_so id v u is)

  -- a block is retired that the seat has unlinked
  retires : (id t b : ℕ) (way : Becomes) (v : SlotView T) → use_of v ≡ used_as t (resting way) → row_of v ≡ world.Rests
      → hand_of v ≡ Some b → ((w : World T) → IsKnown defers w v → IsCut w b) → TurnsTo defers fixed id v (IsBegun way (retiring t fixed.batch_size (link_to b)))
  retires id t b way v mine rests has cuts s h at_id =
      lifted.begins defers fixed s id v h at_id (IsBegun way (retiring t fixed.batch_size (link_to b)))
      (begins.retires defers fixed s.world id t way v (lifted.has_row defers fixed s id v h at_id) (lifted.lone_on defers fixed s id v h at_id t (resting way) mine)
      mine rests b has (cuts s.world (h.seats id v at_id).known))

  -- the batch is tried
  flushes : (id t : ℕ) (way : Becomes) (v : SlotView T) → use_of v ≡ used_as t (resting way) → row_of v ≡ world.Rests
      → hand_of v ≡ None → TurnsTo defers fixed id v (IsBegun way (flushing t fixed.batch_size))
  flushes id t way v mine rests empty s h at_id =
      lifted.begins defers fixed s id v h at_id (IsBegun way (flushing t fixed.batch_size))
      (begins.flushes defers fixed s.world id t way v (lifted.has_row defers fixed s id v h at_id) (lifted.lone_on defers fixed s id v h at_id t (resting way) mine)
      mine rests empty)

  -- a seat comes, and knows nothing
  joins : (s : State T (SlotView T) (World T)) → H s → H (joined s Rests s.world)
  joins s h = record {
    came = h.came;
    memory = h.memory;
    seats = λ j x e. fit j x (with_last s.views j Rests x e);
    unborn = λ j e. h.unborn j (none_before s.views j Rests e);
    apart = λ j k t a b x y e f p q. two j k t a b x y p q (with_last s.views j Rests x e) (with_last s.views k Rests y f);
    sole = λ j k b x y e f p q. one j k b x y p q (with_last s.views j Rests x e) (with_last s.views k Rests y f);
    roots = h.roots;
    rooted = h.rooted;
    chains = h.chains;
    life = h.life;
    found = λ b. found_at fixed s.memory s.memory b (IsInSomeHand s h.life.began b) (IsInSomeHand (joined s Rests s.world) h.life.began b) refl (still b)
        (s.world.hand b) (h.found b);
    bounded = λ j x e. bound j x (with_last s.views j Rests x e);
  }
    where
      fit : (j : ℕ) (x : SlotView T) → (view_of s j ≡ Some x) ⊎ ((view_of s j ≡ None) × (Rests ≡ x)) → Fits defers s.world j x
      fit j x (inl e) = h.seats j x e
      fit j x (inr e) = subst (λ (y : SlotView T). Fits defers s.world j y) e.1 (record { row = h.unborn j e.0; slot = tt; short = tt; known = tt; its_own = tt })

      bound : (j : ℕ) (x : SlotView T) → (view_of s j ≡ Some x) ⊎ ((view_of s j ≡ None) × (Rests ≡ x)) → IsBounded defers fixed s.world j x
      bound j x (inl e) = h.bounded j x e
      bound j x (inr e) = subst (λ (y : SlotView T). IsBounded defers fixed s.world j y) e.1 tt

      still : (b : ℕ) (k : Hand) → IsInSomeHand s h.life.began b k → IsInSomeHand (joined s Rests s.world) h.life.began b k
      still b k (inl (j, x, e, has)) = inl (j, x, with_more s.views j Rests x e, has)
      still b k (inr was) = inr was

      no_slot : (x : SlotView T) (t : ℕ) (a : Use) → Rests ≡ x → use_of x ≡ used_as t a → ⊥
      no_slot x t a e p = cc (ap use_of e, p)

      two : (j k t : ℕ) (a b : Use) (x y : SlotView T) → use_of x ≡ used_as t a → use_of y ≡ used_as t b
          → (view_of s j ≡ Some x) ⊎ ((view_of s j ≡ None) × (Rests ≡ x))
          → (view_of s k ≡ Some y) ⊎ ((view_of s k ≡ None) × (Rests ≡ y)) → j ≡ k
      two j k t a b x y p q (inl e) (inl f) = h.apart j k t a b x y e f p q
      two j k t a b x y p q (inl e) (inr f) = absurd (no_slot y t b f.1 q)
      two j k t a b x y p q (inr e) f = absurd (no_slot x t a e.1 p)

      no_hand : (x : SlotView T) (b : ℕ) → Rests ≡ x → hand_of x ≡ Some b → ⊥
      no_hand x b e p = cc (ap hand_of e, p)

      one : (j k b : ℕ) (x y : SlotView T) → hand_of x ≡ Some b → hand_of y ≡ Some b
          → (view_of s j ≡ Some x) ⊎ ((view_of s j ≡ None) × (Rests ≡ x))
          → (view_of s k ≡ Some y) ⊎ ((view_of s k ≡ None) × (Rests ≡ y)) → j ≡ k
      one j k b x y p q (inl e) (inl f) = h.sole j k b x y e f p q
      one j k b x y p q (inl e) (inr f) = absurd (no_hand y b f.1 q)
      one j k b x y p q (inr e) f = absurd (no_hand x b e.1 p)

  starts : Starts H (all_roots fixed)
  starts = (
    at_start defers (all_roots fixed),
    record {
      came = ([], refl);
      memory = refl;
      seats = λ j v e. absurd (cc e);
      unborn = λ j e. refl;
      apart = λ j k t a b v u e f p q. absurd (cc e);
      sole = λ j k b v u e f p q. absurd (cc e);
      roots = λ r word e. inl (ap block_in (sym (zeros (all_roots fixed) r word e)));
      rooted = length-replicate (all_roots fixed) 0;
      chains = λ r is. record {
        word = 0;
        at = zero_at (all_roots fixed) r is.1;
        blocks = [];
        stand = refl;
        once = λ b e. absurd (cc e);
        linked = λ b some. absurd (omega (arith, some));
      };
      life = record { began = at_start defers (all_roots fixed); past = ([], refl); idle = λ j. refl; since = ([], refl) };
      found = λ b. tt;
      bounded = λ j v e. absurd (cc e);
    },
  )

  comes : Comes H Keeps Rests
  comes s h = (s.world, joins s h, λ b u o keeps. keeps)

module _ (T : Type 0) (defers : T → Option ℕ) where
  pub rules_start : RulesStart T defers
  rules_start fixed = starts defers fixed

  pub seats_come : SeatsCome T defers
  seats_come fixed = comes defers fixed

  -- with the world as it is
  pub seats_join : (fixed : Fixed) (s : State T (SlotView T) (World T)) → Holds defers fixed s → Holds defers fixed (joined s Rests s.world)
  seats_join fixed = joins defers fixed

  pub rows_turn : RowsTurn T defers
  rows_turn fixed id v u is = turns defers fixed id v u is

  pub settlings_begin : SettlingsBegin T defers
  settlings_begin fixed id (Inside t (Cut b)) Active c is =
      subst (λ (d : Settle). TurnsTo defers fixed id (Inside t (Cut b)) (IsBegun Active d)) (sym is)
      (retires defers fixed id t b Active (Inside t (Cut b)) refl refl refl (λ w known. known))
  settlings_begin fixed id (Inside t Nothing) Active c is =
      subst (λ (d : Settle). TurnsTo defers fixed id (Inside t Nothing) (IsBegun Active d)) (sym is)
      (flushes defers fixed id t Active (Inside t Nothing) refl refl refl)
  settlings_begin fixed id (Inside t (Seen b)) Active c is =
      subst (λ (d : Settle). TurnsTo defers fixed id (Inside t (Seen b)) (IsBegun Active d)) (sym is)
      (flushes defers fixed id t Active (Inside t (Seen b)) refl refl refl)
  settlings_begin fixed id (Owes t b) Idle c is =
      subst (λ (d : Settle). TurnsTo defers fixed id (Owes t b) (IsBegun Idle d)) (sym is)
      (retires defers fixed id t b Idle (Owes t b) refl refl refl (λ w known. known))
  settlings_begin fixed id (Outside t) Idle c is =
      subst (λ (d : Settle). TurnsTo defers fixed id (Outside t) (IsBegun Idle d)) (sym is)
      (flushes defers fixed id t Idle (Outside t) refl refl refl)
  settlings_begin fixed id (Inside t (Cut b)) Idle c is = absurd is
  settlings_begin fixed id (Inside t Nothing) Idle c is = absurd is
  settlings_begin fixed id (Inside t (Seen b)) Idle c is = absurd is
  settlings_begin fixed id (Inside t (Made b x)) way c is = absurd is
  settlings_begin fixed id (Inside t (Both b x a)) way c is = absurd is
  settlings_begin fixed id (Inside t (Walks b next)) way c is = absurd is
  settlings_begin fixed id (Owes t b) Active c is = absurd is
  settlings_begin fixed id (Outside t) Active c is = absurd is
  settlings_begin fixed id Rests way c is = absurd is
  settlings_begin fixed id (Registers d) way c is = absurd is
  settlings_begin fixed id (Enters t) way c is = absurd is
  settlings_begin fixed id (Settles d why seen left) way c is = absurd is
  settlings_begin fixed id (Leaves t size x) way c is = absurd is
  settlings_begin fixed id (Left t size x) way c is = absurd is
  settlings_begin fixed id (Frees t) way c is = absurd is
  settlings_begin fixed id (Brings b x) way c is = absurd is
  settlings_begin fixed id (Bears b) way c is = absurd is
  settlings_begin fixed id (Watches t b) way c is = absurd is
  settlings_begin fixed id (Under n t b) way c is = absurd is
  settlings_begin fixed id (Joins block) way c is = absurd is
  settlings_begin fixed id (Defers t d) way c is = absurd is
  settlings_begin fixed id (Busy t) way c is = absurd is
