-- What is promised of blocks that wait behind other ones: within a section that holds a block, a seat may take another one out of a root, and put that in
-- front of the list of the first one, or unlink it.
use Rattle.std.specs.Prelude.{◌≡◌, ◌<◌, ℕ, Option, Some, None}
use Rattle.seize_words.specs.OneMemory.Word.{block_in, link_to}
use Rattle.seize_words.specs.OneMemory.Op.{Op, Swap}
use Rattle.seize_words.specs.declared.at.At.TheVariants.{Root, Word}
use Rattle.seize.specs.Defer.{deferring, defer_plan}
use Rattle.seize.specs.declared.rows.defer.Defer.{Defer}
use Rattle.seize.specs.declared.rows.defer.Deferring.TheVariants.{Over}
use Rattle.seize_seats.specs.Seats.Lendings.{VisibleTo, IsValueOf}
use Rattle.seize_views.specs.Views.Notes.{SameNotes}
use Rattle.seize_views.specs.Views.Promises.{op_in}
use Rattle.seize_views.specs.Views.Rows.{TurnsTo, Holds}
use Rattle.seize_views.specs.Views.Stacking.{MayDo}
use Rattle.seize_views.specs.declared.view.Began.TheVariants as began
use Rattle.seize_views.specs.declared.view.Deferral.TheVariants.{Takes, Parts, Puts}
use Rattle.seize_views.specs.declared.view.Fixed.{Fixed}
use Rattle.seize_views.specs.declared.view.Has.TheVariants.{Seen, Both, Cut}
use Rattle.seize_views.specs.declared.view.Noted.{Noted}
use Rattle.seize_views.specs.declared.view.SlotView.{SlotView}
use Rattle.seize_views.specs.declared.view.SlotView.TheVariants.{Inside, Defers}

module _ {T : Type 0} where
  -- who has seen a block, and made another one or not, turns to take a block out; it learns the value of the one that it has seen
  abbrev pub IsTaking : SlotView T → SlotView T → Type 0
  IsTaking (Inside t (Seen a)) u = (y : T) × (u ≡ Defers t (Takes a y None))
  IsTaking (Inside t (Both b x a)) u = (y : T) × (u ≡ Defers t (Takes a y (Some (b, x))))
  IsTaking v u = ⊥

  abbrev pub HasSeen : SlotView T → Type 0
  HasSeen (Inside t (Seen a)) = Unit {0}
  HasSeen (Inside t (Both b x a)) = Unit {0}
  HasSeen v = ⊥

  -- the word links to the block that was made, or to none
  abbrev pub LinksSo : Option (ℕ × T) → ℕ → Type 0
  LinksSo None word = word ≡ 0
  LinksSo (Some made) word = block_in word ≡ made.0

  -- what was taken out is unlinked; and where it was put behind the other one, that one is seen still
  abbrev pub cutting : SlotView T → SlotView T
  cutting (Defers t (Parts a y b x)) = Inside t (Cut b)
  cutting v = v

  abbrev pub returning : SlotView T → SlotView T
  returning (Defers t (Puts a c)) = Inside t (Seen a)
  returning v = v

  -- with what is noted
  abbrev pub NotedTaking : Noted T → Noted T → Type 0
  NotedTaking v w = IsTaking v.knows w.knows × SameNotes v w

  -- the row begins that puts it behind the other one
  abbrev pub IsPutting : (T → Option ℕ) → SlotView T → SlotView T → Type 0
  IsPutting defers (Defers t (Parts a y b x)) u = (field : ℕ) × (defers y ≡ Some field) × (u ≡ Defers t (Puts a (deferring (link_to b) (Word a field))))
  IsPutting defers v u = ⊥

  abbrev pub NotedPutting : (T → Option ℕ) → Noted T → Noted T → Type 0
  NotedPutting defers v w = IsPutting defers v.knows w.knows × (w.did ≡ v.did) × (w.began ≡ began.Deferral) × (w.guards ≡ v.guards)

module _ (T : Type 0) (defers : T → Option ℕ) where
  -- The promise: whoever has seen a block may turn to take one out of a root,
  abbrev pub TakingsBegin : Type 0
  TakingsBegin = (fixed : Fixed) (id : ℕ) (v : SlotView T) → HasSeen v → TurnsTo defers fixed id v (IsTaking v)

  -- and take out what is there, by a word that links to the block that it has made, or to none;
  abbrev pub BlocksAreTakenOut : Type 0
  BlocksAreTakenOut =
      (fixed : Fixed) (t a : ℕ) (y : T) (made : Option (ℕ × T)) (r word : ℕ) → LinksSo made word → r < fixed.roots
      → MayDo T defers fixed (Defers t (Takes a y made)) (Swap (Root r) word)

  -- both blocks are there, with the values that were told;
  abbrev pub PartedAreShown : Type 0
  PartedAreShown =
      (fixed : Fixed) (id t a b : ℕ) (y x : T)
      → (VisibleTo (Holds defers fixed) id (Defers t (Parts a y b x)) a × ((z : T) → IsValueOf (Holds defers fixed) id (Defers t (Parts a y b x)) a z → z ≡ y))
      × (VisibleTo (Holds defers fixed) id (Defers t (Parts a y b x)) b × ((z : T) → IsValueOf (Holds defers fixed) id (Defers t (Parts a y b x)) b z → z ≡ x))

  -- it may unlink what it has taken out,
  abbrev pub PartedAreCut : Type 0
  PartedAreCut =
      (fixed : Fixed) (id t a b : ℕ) (y x : T) → TurnsTo defers fixed id (Defers t (Parts a y b x)) (λ u. u ≡ Inside t (Cut b))

  -- or put it in front of the list of the other one, if that has a list, and it has none itself:
  abbrev pub PartedAreDeferred : Type 0
  PartedAreDeferred =
      (fixed : Fixed) (id t a b field : ℕ) (y x : T) → defers y ≡ Some field → defers x ≡ None
      → TurnsTo defers fixed id (Defers t (Parts a y b x)) (λ u. u ≡ Defers t (Puts a (deferring (link_to b) (Word a field))))

  -- the row that does so may go on at any moment, and ends
  abbrev pub DeferralsGoOn : Type 0
  DeferralsGoOn = (fixed : Fixed) (t a : ℕ) (c : Defer) (op : Op T) → op_in (defer_plan {T = T} c) ≡ Some op → MayDo T defers fixed (Defers t (Puts a c)) op

  abbrev pub DeferralsEnd : Type 0
  DeferralsEnd = (fixed : Fixed) (id t a : ℕ) (c : Defer) → c.stands ≡ Over → TurnsTo defers fixed id (Defers t (Puts a c)) (λ u. u ≡ Inside t (Seen a))
