-- No operation ends a section, and none begins or ends a watch.
use Rattle.std.specs.Prelude.{Option, Some, None, ◌==◌, if◌then◌else◌, nat_lt}
use Rattle.std.proofs.Common.{◌≡◌, ℕ, Bool, true, false, ◌⊎◌, inl, inr, refl, sym, subst, ap, ◌∙◌}
use Rattle.seize_words.specs.OneMemory.Op.{Op, Out, Load, Store, Swap, Add, Or, Exchange, Make, Take, Rewrite, Room, Found, Stored, Exchanged, Made as OutMade, Taken, Roomed}
use Rattle.seize_words.specs.OneMemory.Word.{block_in}
use Rattle.seize_words.specs.declared.at.At.TheVariants.{Root, Used, Slot, Entry, Word}
use Rattle.seize.specs.declared.states.TheConstants.{ACTIVE}
use Rattle.seize.specs.declared.advance.Advance.TheVariants as progress
use Rattle.seize.specs.declared.advance.Advance.{Advance}
use Rattle.seize.specs.declared.rows.register.Register.{Register}
use Rattle.seize_views.specs.Views.Told.{told, left_by, alone_with, joined_as, owes_in, parted_in, list_taken}
use Rattle.seize_views.specs.Views.Watched.{open_at, IsOwn}
use Rattle.seize_views.specs.declared.view.SlotView.{SlotView}
use Rattle.seize_views.specs.declared.view.SlotView.TheVariants.{Rests, Registers, Outside, Owes, Enters, Inside, Settles, Leaves, Left, Frees, Brings, Bears, Watches, Under, Joins, Defers, Busy}
use Rattle.seize_views.specs.declared.view.Deferral.TheVariants.{Takes, Parts, Puts}
use Rattle.seize_views.specs.declared.view.Has.{Has}
use Rattle.seize_views.specs.declared.view.Has.TheVariants.{Nothing, Made, Seen, Both, Cut, Walks}
use Rattle.seize_views.specs.declared.view.Why.TheVariants.{Retiring, Ending}
use Rattle.seize_views.specs.declared.view.Becomes.{Becomes}
use Rattle.seize_views.specs.declared.view.Becomes.TheVariants.{Idle, Active}

module _ (T : Type 0) where
  left_own : (end : Register × Advance ℕ) → IsOwn {T = T} (left_by end)
  left_own (c, progress.Done t) = tt
  left_own (c, progress.Refused fault) = tt
  left_own (c, progress.Goes) = tt
  left_own (c, progress.Waits) = tt

  owes_own : (t word : ℕ) (b : Bool) → IsOwn {T = T} (if b then Outside t else Owes t (block_in word))
  owes_own t word true = tt
  owes_own t word false = tt

  parted_own : (t a : ℕ) (y x : T) (word : ℕ) (b : Bool) → IsOwn {T = T} (if b then Inside t (Seen a) else Defers t (Parts a y (block_in word) x))
  parted_own t a y x word true = tt
  parted_own t a y x word false = tt

  parted_open : (t a : ℕ) (y x : T) (word : ℕ) (b : Bool) → open_at {T = T} (if b then Inside t (Seen a) else Defers t (Parts a y (block_in word) x)) ≡ Some t
  parted_open t a y x word true = refl
  parted_open t a y x word false = refl

  list_own : (t size : ℕ) (way : Becomes) (head left : ℕ) (b : Bool) → nat_lt ACTIVE head ≡ b → IsOwn {T = T} (list_taken t size way head left)
  list_own t size way head left true e = rw e tt
  list_own t size way head left false e = rw e tt

module _ {T : Type 0} where
  -- it watches none, and its section, if it has one open, is open still
  pub record Still (v w : SlotView T) : Type 0 where
    pub own : IsOwn w
    pub section : (open_at w ≡ open_at v) ⊎ (open_at v ≡ None)

  at_own : (v w x : SlotView T) → w ≡ x → IsOwn x → (open_at x ≡ open_at v) ⊎ (open_at v ≡ None) → Still v w
  at_own v w x e own (inl is) = record { own = subst IsOwn (sym e) own; section = inl (ap open_at e ∙ is) }
  at_own v w x e own (inr none) = record { own = subst IsOwn (sym e) own; section = inr none }

  alone_own : (has : Has T) → IsOwn (alone_with has)
  alone_own Nothing = tt
  alone_own (Made b x) = tt
  alone_own (Seen b) = tt
  alone_own (Both b x a) = tt
  alone_own (Cut b) = tt
  alone_own (Walks b next) = tt

  joined_own : (block : Option (ℕ × T × ℕ)) → IsOwn (joined_as block)
  joined_own None = tt
  joined_own (Some made) = tt

  module _ (defers : T → Option ℕ) where
    withdrawn : (t : ℕ) (op : Op T) (out : Out T) (w : SlotView T) → told defers (Outside t) op out w → Still (Outside t) w
    withdrawn t (Swap (Root r) word) (Found old) w is = at_own (Outside t) w (owes_in t old) is (owes_own T t old (block_in old == 0)) (inr refl)
    withdrawn t (Swap (Root r) word) Stored w is = absurd is
    withdrawn t (Swap (Root r) word) (Exchanged x) w is = absurd is
    withdrawn t (Swap (Root r) word) (OutMade x) w is = absurd is
    withdrawn t (Swap (Root r) word) (Taken x) w is = absurd is
    withdrawn t (Swap (Root r) word) (Roomed x) w is = absurd is
    withdrawn t (Swap (Used r) word) out w is = absurd is
    withdrawn t (Swap (Slot a b) word) out w is = absurd is
    withdrawn t (Swap (Entry a b) word) out w is = absurd is
    withdrawn t (Swap (Word a b) word) out w is = absurd is
    withdrawn t (Load at) out w is = absurd is
    withdrawn t (Store at word) out w is = absurd is
    withdrawn t (Add at word) out w is = absurd is
    withdrawn t (Or at word) out w is = absurd is
    withdrawn t (Exchange at old word) out w is = absurd is
    withdrawn t (Make x words) out w is = absurd is
    withdrawn t (Take b) out w is = absurd is
    withdrawn t (Rewrite b x) out w is = absurd is
    withdrawn t (Room b) out w is = absurd is

    swapped : (t size : ℕ) (way : Becomes) (op : Op T) (out : Out T) (w : SlotView T) → told defers (Leaves t size way) op out w → Still (Leaves t size way) w
    swapped t size way op (Found head) w is =
        at_own (Leaves t size way) w (list_taken t size way head is.0) is.1 (list_own T t size way head is.0 (nat_lt ACTIVE head) refl) (inr refl)
    swapped t size way op Stored w is = absurd is
    swapped t size way op (Exchanged x) w is = absurd is
    swapped t size way op (OutMade x) w is = absurd is
    swapped t size way op (Taken x) w is = absurd is
    swapped t size way op (Roomed x) w is = absurd is

    parted : (t a : ℕ) (y : T) (made : Option (ℕ × T)) (op : Op T) (out : Out T) (w : SlotView T) → told defers (Defers t (Takes a y made)) op out w
        → Still (Defers t (Takes a y made)) w
    parted t a y made (Swap (Root r) word) (Found old) w is =
        at_own (Defers t (Takes a y made)) w (parted_in t a y is.0 old) is.1 (parted_own T t a y is.0 old (block_in old == 0))
        (inl (parted_open T t a y is.0 old (block_in old == 0)))
    parted t a y made (Swap (Root r) word) Stored w is = absurd is
    parted t a y made (Swap (Root r) word) (Exchanged x) w is = absurd is
    parted t a y made (Swap (Root r) word) (OutMade x) w is = absurd is
    parted t a y made (Swap (Root r) word) (Taken x) w is = absurd is
    parted t a y made (Swap (Root r) word) (Roomed x) w is = absurd is
    parted t a y made (Swap (Used r) word) out w is = absurd is
    parted t a y made (Swap (Slot c b) word) out w is = absurd is
    parted t a y made (Swap (Entry c b) word) out w is = absurd is
    parted t a y made (Swap (Word c b) word) out w is = absurd is
    parted t a y made (Load at) out w is = absurd is
    parted t a y made (Store at word) out w is = absurd is
    parted t a y made (Add at word) out w is = absurd is
    parted t a y made (Or at word) out w is = absurd is
    parted t a y made (Exchange at old word) out w is = absurd is
    parted t a y made (Make x words) out w is = absurd is
    parted t a y made (Take b) out w is = absurd is
    parted t a y made (Rewrite b x) out w is = absurd is
    parted t a y made (Room b) out w is = absurd is

    pub observed_still : (v : SlotView T) (op : Op T) (out : Out T) (w : SlotView T) → IsOwn v → told defers v op out w → Still v w
    observed_still Rests op out w own is = at_own Rests w (alone_with is.0) is.2 (alone_own is.0) (inr refl)
    observed_still (Registers c) op out w own is = at_own (Registers c) w (left_by is.0) is.2 (left_own T is.0) (inr refl)
    observed_still (Outside t) op out w own is = withdrawn t op out w is
    observed_still (Owes t b) op out w own is = absurd is
    observed_still (Enters t) op out w own is = at_own (Enters t) w (Inside t Nothing) is tt (inr refl)
    observed_still (Inside t has) op out w own is = at_own (Inside t has) w (Inside t is.0) is.2 tt (inl refl)
    observed_still (Settles c (Retiring Active) seen left) op out w own is =
        at_own (Settles c (Retiring Active) seen left) w (Settles is.end.0 (Retiring Active) is.seen is.now) is.view tt (inl (ap Some is.slot))
    observed_still (Settles c (Retiring Idle) seen left) op out w own is =
        at_own (Settles c (Retiring Idle) seen left) w (Settles is.end.0 (Retiring Idle) is.seen is.now) is.view tt (inr refl)
    observed_still (Settles c (Ending size way) seen left) op out w own is =
        at_own (Settles c (Ending size way) seen left) w (Settles is.end.0 (Ending size way) is.seen is.now) is.view tt (inr refl)
    observed_still (Leaves t size way) op out w own is = swapped t size way op out w is
    observed_still (Left t size way) op out w own is = absurd is
    observed_still (Frees t) op out w own is = at_own (Frees t) w Rests is tt (inr refl)
    observed_still (Brings b x) op out w own is = at_own (Brings b x) w (alone_with is.0) is.2 (alone_own is.0) (inr refl)
    observed_still (Bears b) op out w own is = absurd is
    observed_still (Watches t b) op out w own is = absurd own
    observed_still (Under n t b) op out w own is = absurd own
    observed_still (Joins block) op out w own is = at_own (Joins block) w (joined_as is.0) is.2 (joined_own is.0) (inr refl)
    observed_still (Defers t (Takes a y made)) op out w own is = parted t a y made op out w is
    observed_still (Defers t (Parts a y b x)) op out w own is = absurd is
    observed_still (Defers t (Puts a c)) op out w own is = at_own (Defers t (Puts a c)) w (Defers t (Puts a is.0.0)) is.2 tt (inl refl)
    observed_still (Busy t) op out w own is = absurd is
