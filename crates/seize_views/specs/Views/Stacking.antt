-- What is promised of chains: without a slot a seat may make a block that has a link, and put it at the root of a chain, above the block that its link names;
-- within a section it may go down a chain, and put the block that stands below the first one at the root, in place of that, which is unlinked.
use Rattle.std.specs.Prelude.{◌≡◌, ◌≢◌, ◌<◌, ◌⊎◌, ℕ, Option, Some, None}
use Rattle.seize_words.specs.OneMemory.Word.{block_in}
use Rattle.seize_words.specs.OneMemory.Op.{Op, Load, Store, Exchange, Make, Take}
use Rattle.seize_words.specs.declared.at.At.TheVariants.{Root, Word}
use Rattle.seize.specs.World.{HasListWord}
use Rattle.seize_seats.specs.Seats.Lendings.{VisibleTo, IsValueOf}
use Rattle.seize_views.specs.Views.Chains.{IsChainRoot}
use Rattle.seize_views.specs.Views.Notes.{SameNotes}
use Rattle.seize_views.specs.Views.Promises.{IsLooking}
use Rattle.seize_views.specs.Views.Rows.{TurnsTo, Permits, Holds}
use Rattle.seize_views.specs.Views.Told.{told}
use Rattle.seize_views.specs.declared.view.TheConstants.{LINK}
use Rattle.seize_views.specs.declared.view.Noted.{Noted}
use Rattle.seize_views.specs.declared.view.SlotView.{SlotView}
use Rattle.seize_views.specs.declared.view.SlotView.TheVariants.{Rests, Inside, Joins}
use Rattle.seize_views.specs.declared.view.Has.TheVariants.{Nothing, Walks}
use Rattle.seize_views.specs.declared.view.Fixed.{Fixed}

-- What a seat may come to know of chains without an operation: that it is to make a block for one; that it has come to no block of one, or to the one that a link
-- names; and nothing any more.
abbrev pub IsOnItsWay : {T : Type 0} → SlotView T → SlotView T → Type 0
IsOnItsWay Rests u = u ≡ Joins None
IsOnItsWay (Inside t (Walks b None)) u = u ≡ Inside t Nothing
IsOnItsWay (Inside t (Walks b (Some c))) u = (u ≡ Inside t (Walks c None)) ⊎ (u ≡ Inside t Nothing)
IsOnItsWay (Inside t has) u = IsLooking has × (u ≡ Inside t (Walks 0 None))
IsOnItsWay v u = ⊥

-- what makes so of a view

abbrev pub joining : {T : Type 0} → SlotView T → SlotView T
joining Rests = Joins None
joining v = v

abbrev pub walking : {T : Type 0} → SlotView T → SlotView T
walking (Inside t has) = Inside t (Walks 0 None)
walking v = v

abbrev pub going : {T : Type 0} → SlotView T → SlotView T
going (Inside t (Walks b (Some c))) = Inside t (Walks c None)
going v = v

abbrev pub stopping : {T : Type 0} → SlotView T → SlotView T
stopping (Inside t has) = Inside t Nothing
stopping v = v

-- which is all that changes
abbrev pub GoesItsWay : {T : Type 0} → (SlotView T → SlotView T) → Noted T → Noted T → Type 0
GoesItsWay f v w = (w.knows ≡ f v.knows) × SameNotes v w

module _ (T : Type 0) (defers : T → Option ℕ) where
  -- the seat may make the operation, as told
  abbrev pub MayDo : Fixed → SlotView T → Op T → Type 0
  MayDo fixed v op = (id : ℕ) → Permits defers fixed id v op (told defers v op)

  -- The promise: a seat turns to chains, and goes down one.
  abbrev pub WaysBegin : Type 0
  WaysBegin = (fixed : Fixed) (id : ℕ) (v u : SlotView T) → IsOnItsWay v u → TurnsTo defers fixed id v (λ x. x ≡ u)

  -- without a slot it may make a block that has a link, at which no list of further values begins; write that; take the block away again
  abbrev pub JoiningAreMade : Type 0
  JoiningAreMade =
      (fixed : Fixed) (value : T) (words : ℕ) → HasListWord defers (defers value) words → LINK < words → defers value ≢ Some LINK
      → MayDo fixed (Joins None) (Make value words)

  abbrev pub LinksAreWritten : Type 0
  LinksAreWritten = (fixed : Fixed) (b : ℕ) (x : T) (a word : ℕ) → MayDo fixed (Joins (Some (b, x, a))) (Store (Word b LINK) word)

  abbrev pub JoiningAreTaken : Type 0
  JoiningAreTaken = (fixed : Fixed) (b : ℕ) (x : T) (a : ℕ) → MayDo fixed (Joins (Some (b, x, a))) (Take b)

  -- and put it at the root of a chain, in place of a word that names just the block that its link names: that stands below it then
  abbrev pub JoiningArePut : Type 0
  JoiningArePut =
      (fixed : Fixed) (b : ℕ) (x : T) (a r old word : ℕ) → block_in word ≡ b → block_in old ≡ a → IsChainRoot fixed r
      → MayDo fixed (Joins (Some (b, x, a))) (Exchange (Root r) old word)

  abbrev pub JoiningAreShown : Type 0
  JoiningAreShown =
      (fixed : Fixed) (id b : ℕ) (x : T) (a : ℕ) → VisibleTo (Holds defers fixed) id (Joins (Some (b, x, a))) b
      × ((y : T) → IsValueOf (Holds defers fixed) id (Joins (Some (b, x, a))) b y → y ≡ x)

  -- within a section it may see which block a chain begins with, and which one a link names,
  abbrev pub ChainsAreSeen : Type 0
  ChainsAreSeen = (fixed : Fixed) (t b r : ℕ) (next : Option ℕ) → IsChainRoot fixed r → MayDo fixed (Inside t (Walks b next)) (Load (Root r))

  abbrev pub LinksAreSeen : Type 0
  LinksAreSeen = (fixed : Fixed) (t b : ℕ) (next : Option ℕ) → b ≢ 0 → MayDo fixed (Inside t (Walks b next)) (Load (Word b LINK))

  -- and copy the link of the first block to the root, in place of a word that names that one, which is unlinked then
  abbrev pub LinksAreCopied : Type 0
  LinksAreCopied =
      (fixed : Fixed) (t b c r old word : ℕ) → b ≢ 0 → block_in old ≡ b → block_in word ≡ c → IsChainRoot fixed r
      → MayDo fixed (Inside t (Walks b (Some c))) (Exchange (Root r) old word)
