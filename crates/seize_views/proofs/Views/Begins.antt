-- Rows begin: each leads on, whatever else is so of the world.
use Rattle.std.specs.Prelude.{◌≢◌, Option, Some, None, ◌&&◌}
use Rattle.std.proofs.Common.{◌≡◌, ℕ, Bool, true, false, inl, inr, refl, sym, subst, ap, ◌∙◌}
use Rattle.seize_words.specs.OneMemory.Word.{link_to}
use Rattle.seize.specs.declared.rows.register.Register.{Register}
use Rattle.seize.specs.declared.rows.register.Registering.TheVariants as at
use Rattle.seize.specs.declared.rows.leave.Leave.{Leave}
use Rattle.seize.specs.declared.rows.settle.Settle.{Settle}
use Rattle.seize.specs.Settle.{retiring, flushing}
use Rattle.seize.specs.World.{World, Row, Use, Hand, Begin, Happens, Request, Register', Enter', Leave', Refresh, Unregister', Retire, Flush, IsTaken, one_more, with_at, with_row, with_use, with_hand}
use Rattle.seize.specs.World as world
use Rattle.seize_acts.proofs.Given.SeizeRuleRows.Others.{with_here, with_other}
use Rattle.seize_acts.specs.Acts.Acts.{is_inside, is_outside, is_taken, is_cutting}
use Rattle.seize_acts.specs.Acts.Acts as acts
use Rattle.seize_acts.specs.Acts.Answers.{given}
use Rattle.seize_acts.specs.Acts.Waits.{SettlesOn}
use Rattle.seize_acts.specs.Bounds.Bounds.{IsToTry, IsAloneOnSlot, TriesWithin}
use Rattle.seize_acts.proofs.Bounds.Settles.Within.{batches_are_tried}
use Rattle.seize_views.specs.Views.Begun.{IsBegun}
use Rattle.seize_views.specs.Views.Rows.{row_of, use_of, used_for, hand_of, had_in, leave_of, IsCut, IsPlain, IsShort, IsKnown, IsBounded}
use Rattle.seize_views.specs.declared.view.SlotView.{SlotView}
use Rattle.seize_views.specs.declared.view.Becomes.{Becomes}
use Rattle.seize_views.specs.declared.view.Becomes.TheVariants.{Idle, Active}
use Rattle.seize_views.specs.declared.view.SlotView.TheVariants.{Rests, Registers, Outside, Enters, Inside, Settles, Leaves, Frees}
use Rattle.seize_views.specs.declared.view.Has.{Has}
use Rattle.seize_views.specs.declared.view.Why.TheVariants.{Retiring}
use Rattle.seize_views.specs.declared.view.Fixed.{Fixed}
use Rattle.seize_views.proofs.Views.InWorld.{slot_held, IsJustSo, IsUsedLike, HasRow, BeginsTo, came_on, slot_in, HasNoBlock, used_as, slot_of}

not_use_cutting : (r i : ℕ) → world.InUse r ≡ world.Cutting i → ⊥
not_use_cutting r i e = cc e

-- another block is in the hand that it was in
beside : (hand : ℕ → Hand) (b c : ℕ) (k : Hand) → c ≢ b → hand c ≡ k → with_at hand b world.Handed c ≡ k
beside hand b c k ne is = with_other hand b c world.Handed ne ∙ is

-- how a slot is used on which no row works
abbrev pub resting : Becomes → Use
resting Idle = world.Outside 0
resting Active = world.Inside 0

resting_taken : (way : Becomes) → IsTaken (resting way)
resting_taken Idle = tt
resting_taken Active = tt

is_resting_taken : (way : Becomes) → is_taken (resting way) ≡ true
is_resting_taken Idle = refl
is_resting_taken Active = refl

one_works : (way : Becomes) → one_more (resting way) ≡ used_for (Retiring way)
one_works Idle = refl
one_works Active = refl

-- a slot is looked for
abbrev pub First : Register
First = record { slot = 0; enters = false; stands = at.Begin }

module _ {T : Type 0} (defers : T → Option ℕ) (fixed : Fixed) (w : World T) (i : ℕ) where
  abbrev Row' : SlotView T → Type 0
  Row' v = HasRow defers fixed IsJustSo w i v

  abbrev To : SlotView T → (SlotView T → Type 0) → Type 0
  To v so = BeginsTo defers fixed w i v so

  -- how its slot is used
  used_so : (o : Option (ℕ × Use)) (t : ℕ) (a : Use) → IsUsedLike IsJustSo w o → o ≡ used_as t a → w.uses t ≡ a
  used_so o t a is e = subst (λ (p : Option (ℕ × Use)). IsUsedLike IsJustSo w p) e is

  -- a row begins on the slot of a caller that has one, outside of a section or inside
  begins_on : (t : ℕ) (v u : SlotView T) (a : Use) (row : Row) (request : Request) → Row' v → use_of v ≡ used_as t a → use_of u ≡ used_as t world.Changing
      → row_of v ≡ world.Rests → row_of u ≡ row → slot_in request ≡ Some t → HasNoBlock request
      → (w.uses t ≡ a → world.Begins defers fixed.batch_size i request w (with_use (with_row w i row) t world.Changing))
      → (w.uses t ≡ a → acts.begun defers fixed.batch_size i request w ≡ Some (with_use (with_row w i row) t world.Changing))
      → IsPlain u → IsShort u → ((n : World T) → IsKnown defers n u) → ((n : World T) → IsBounded defers fixed n i u) → hand_of u ≡ None → hand_of v ≡ None
      → To v (λ x. x ≡ u)
  begins_on t v u a row request h mine its rests is on no_block happens computed plain short known bounded none empty = (
    u,
    n,
    request,
    record {
      happens = (h.row ∙ rests, happens used);
      computed = computed used;
      about = λ s e. (a, mine ∙ ap (λ (k : ℕ). used_as k a) (same_number t s (sym on ∙ e)));
      no_block = λ e. no_block;
      memory = refl;
      log = refl;
      hand = λ b apart. refl;
      handed = λ b e. absurd (cc (empty, e));
      linked = λ b r linked. linked;
      rows = λ j ne. with_other w.row i j row ne;
      uses = λ x apart. with_other w.uses t x world.Changing (λ e. apart a (mine ∙ ap (λ (k : ℕ). used_as k a) (sym e)));
      row = with_here w.row i row ∙ sym is;
      used = subst (λ (o : Option (ℕ × Use)). IsUsedLike IsJustSo n o) (sym its) (with_here w.uses t world.Changing);
      plain = plain;
      short = short;
      known = known n;
      bounded = bounded n;
      none = none;
      slot = λ x b e. (a, mine ∙ ap (λ (k : ℕ). used_as k a) (slot_of (t, world.Changing) (x, b) (sym its ∙ e)));
      place = ap slot_held its ∙ sym (ap slot_held mine);
    },
    refl,
  )
    where
      n : World T
      n = with_use (with_row w i row) t world.Changing

      used : w.uses t ≡ a
      used = used_so (use_of v) t a h.used mine

      same_number : (x y : ℕ) → Some x ≡ Some y → x ≡ y
      same_number x y e = cc e

  pub enters : (t : ℕ) → Row' (Outside t) → To (Outside t) (λ x. x ≡ Enters t)
  enters t h =
      let n : World T = with_use (with_row w i (world.Enters record { slot = t })) t world.Changing in
      begins_on t (Outside t) (Enters t) (world.Outside 0) (world.Enters record { slot = t }) (Enter' t) h refl refl refl refl refl tt (λ e. (e, refl))
      (λ e. ap (λ (a : Use). given (is_outside a) n) e) tt tt (λ x. tt) (λ x. tt) refl refl

  pub frees : (t : ℕ) → Row' (Outside t) → To (Outside t) (λ x. x ≡ Frees t)
  frees t h =
      let n : World T = with_use (with_row w i (world.Frees record { slot = t })) t world.Changing in
      begins_on t (Outside t) (Frees t) (world.Outside 0) (world.Frees record { slot = t }) (Unregister' t) h refl refl refl refl refl tt (λ e. (e, refl))
      (λ e. ap (λ (a : Use). given (is_outside a) n) e) tt tt (λ x. tt) (λ x. tt) refl refl

  -- the section ends, or the next one begins at once
  pub leaves : (t : ℕ) (has : Has T) (way : Becomes) → had_in has ≡ None → Row' (Inside t has) → To (Inside t has) (λ x. x ≡ Leaves t fixed.batch_size way)
  leaves t has Idle empty h =
      let c : Leave = leave_of t fixed.batch_size Idle in let n : World T = with_use (with_row w i (world.Leaves c)) t world.Changing in
      begins_on t (Inside t has) (Leaves t fixed.batch_size Idle) (world.Inside 0) (world.Leaves c) (Leave' t) h refl refl refl refl refl tt (λ e. (e, refl))
      (λ e. ap (λ (a : Use). given (is_inside a) n) e) tt tt (λ x. tt) (λ x. tt) refl empty
  leaves t has Active empty h =
      let c : Leave = leave_of t fixed.batch_size Active in let n : World T = with_use (with_row w i (world.Leaves c)) t world.Changing in
      begins_on t (Inside t has) (Leaves t fixed.batch_size Active) (world.Inside 0) (world.Leaves c) (Refresh t) h refl refl refl refl refl tt (λ e. (e, refl))
      (λ e. ap (λ (a : Use). given (is_inside a) n) e) tt tt (λ x. tt) (λ x. tt) refl empty

  pub registers : Row' Rests → To Rests (λ x. x ≡ Registers First)
  registers h = (
    Registers First,
    with_row w i (world.Registers First),
    Register' false,
    record {
      happens = (h.row, refl);
      computed = refl;
      about = λ s e. absurd (cc e);
      no_block = λ e. tt;
      memory = refl;
      log = refl;
      hand = λ b apart. refl;
      handed = λ b e. absurd (cc e);
      linked = λ b r linked. linked;
      rows = λ j ne. with_other w.row i j (world.Registers First) ne;
      uses = λ x apart. refl;
      row = with_here w.row i (world.Registers First);
      used = tt;
      plain = tt;
      short = (refl, tt);
      known = tt;
      bounded = tt;
      none = refl;
      slot = λ x b e. absurd (cc e);
      place = refl;
    },
    refl,
  )

  -- a settling that begins on the slot of a caller takes so many steps
  module _ (t : ℕ) (way : Becomes) (v : SlotView T) (h : Row' v) (lone : (j : ℕ) → (j ≡ i → ⊥) → SettlesOn t (w.row j) → ⊥)
      (mine : use_of v ≡ used_as t (resting way)) (rests : row_of v ≡ world.Rests) where
    used : w.uses t ≡ resting way
    used = used_so (use_of v) t (resting way) h.used mine

    within : (c : Settle) (n : World T) (e : Request) → Happens defers fixed.batch_size (Begin i e) w n → c.slot ≡ t → IsToTry fixed.batch_size c → n.row i ≡ world.Settles c
        → ((j : ℕ) → j ≢ i → n.row j ≡ w.row j) → (k : ℕ) × TriesWithin defers fixed.batch_size i k n
    within c n e happens on to row rows =
        let came = came_on defers fixed w n (Begin i e) h.came happens in
        batches_are_tried defers fixed.batch_size came.0 came.1 n came.2 i c alone to row
      where
        alone : IsAloneOnSlot i n
        alone j s ne its other =
            let here : s ≡ t = sym (subst (λ (r : Row). SettlesOn s r) row its) ∙ on in
            lone j ne (subst (λ (x : ℕ). SettlesOn x (w.row j)) here (subst (λ (r : Row). SettlesOn s r) (rows j ne) other))

    -- the slot is used by one row more
    own : (c : Settle) (n : World T) → c.slot ≡ t → n.uses t ≡ one_more (w.uses t) → n.uses c.slot ≡ used_for (Retiring way)
    own c n on is = ap n.uses on ∙ is ∙ ap one_more used ∙ one_works way

    elsewhere : (x : ℕ) → ((a : Use) → use_of v ≡ Some (x, a) → ⊥) → with_at w.uses t (one_more (w.uses t)) x ≡ w.uses x
    elsewhere x apart = with_other w.uses t x (one_more (w.uses t)) (λ e. apart (resting way) (mine ∙ ap (λ (k : ℕ). used_as k (resting way)) (sym e)))

    its_slot : (s : ℕ) → t ≡ s → (a : Use) × (use_of v ≡ Some (s, a))
    its_slot s e = (resting way, mine ∙ ap (λ (k : ℕ). used_as k (resting way)) e)

    same_number : (x y : ℕ) → Some x ≡ Some y → x ≡ y
    same_number x y e = cc e

    -- the batch is tried
    pub flushes : hand_of v ≡ None → To v (IsBegun way (flushing t fixed.batch_size))
    flushes empty =
        let c : Settle = flushing t fixed.batch_size in
        let n : World T = with_use (with_row w i (world.Settles c)) t (one_more (w.uses t)) in
        let happens : Happens defers fixed.batch_size (Begin i (Flush t)) w n =
        (h.row ∙ rests, (subst (λ (a : Use). IsTaken a) (sym used) (resting_taken way), refl)) in
        let k = within c n (Flush t) happens refl (inr (t, refl)) (with_here w.row i (world.Settles c)) (λ j ne. with_other w.row i j (world.Settles c) ne) in (
          Settles c (Retiring way) None k.0,
          n,
          Flush t,
          record {
            happens = happens;
            computed = ap (λ (b : Bool). given b n) (ap is_taken used ∙ is_resting_taken way);
            about = λ s e. its_slot s (same_number t s e);
            no_block = λ e. tt;
            memory = refl;
            log = refl;
            hand = λ b apart. refl;
            handed = λ b e. absurd (cc (empty, e));
            linked = λ b r linked. linked;
            rows = λ j ne. with_other w.row i j (world.Settles c) ne;
            uses = elsewhere;
            row = with_here w.row i (world.Settles c);
            used = own c n refl (with_here w.uses t (one_more (w.uses t)));
            plain = tt;
            short = tt;
            known = tt;
            bounded = k.1;
            none = refl;
            slot = λ x a e. its_slot x (slot_of (t, used_for (Retiring way)) (x, a) e);
            place = sym (ap slot_held mine);
          },
          (k.0, refl),
        )

    -- a block is retired that the caller has unlinked
    pub retires : (b : ℕ) → hand_of v ≡ Some b → IsCut w b → To v (IsBegun way (retiring t fixed.batch_size (link_to b)))
    retires b has cut =
        let c : Settle = retiring t fixed.batch_size (link_to b) in
        let n : World T = with_hand (with_use (with_row w i (world.Settles c)) t (one_more (w.uses t))) b world.Handed in
        let happens : Happens defers fixed.batch_size (Begin i (Retire t b)) w n =
        (h.row ∙ rests, (subst (λ (a : Use). IsTaken a) (sym used) (resting_taken way), cut, refl)) in
        let k = within c n (Retire t b) happens refl (inl (t, link_to b, refl)) (with_here w.row i (world.Settles c)) (λ j ne. with_other w.row i j (world.Settles c) ne) in (
          Settles c (Retiring way) None k.0,
          n,
          Retire t b,
          record {
            happens = happens;
            computed = ap (λ (a : Use). given (is_taken a && is_cutting (w.hand b)) n) used ∙ taken_here n way ∙ ap (λ (a : Hand). given (is_cutting a) n) cut.1;
            about = λ s e. its_slot s (same_number t s e);
            no_block = λ e. cc (e, has);
            memory = refl;
            log = refl;
            hand = λ x apart. with_other w.hand b x world.Handed (λ e. apart (has ∙ ap Some (sym e)));
            handed = λ x e. ap n.hand (same_number x b (sym e ∙ has)) ∙ with_here w.hand b world.Handed;
            linked = λ x r is. beside w.hand b x (world.InUse r) (λ e. not_use_cutting r cut.0 (sym is ∙ ap w.hand e ∙ cut.1)) is;
            rows = λ j ne. with_other w.row i j (world.Settles c) ne;
            uses = elsewhere;
            row = with_here w.row i (world.Settles c);
            used = own c n refl (with_here w.uses t (one_more (w.uses t)));
            plain = tt;
            short = tt;
            known = tt;
            bounded = k.1;
            none = refl;
            slot = λ x a e. its_slot x (slot_of (t, used_for (Retiring way)) (x, a) e);
            place = sym (ap slot_held mine);
          },
          (k.0, refl),
        )
      where
        taken_here : (n : World T) (y : Becomes) → given (is_taken (resting y) && is_cutting (w.hand b)) n ≡ given (is_cutting (w.hand b)) n
        taken_here n Idle = refl
        taken_here n Active = refl
