-- What a seat without a slot may do with the block that it has, and what it knows then.
use Rattle.std.specs.Prelude.{◌<◌, Option, Some}
use Rattle.std.proofs.Common.{◌≡◌, ℕ, sym, subst, ap, ◌∙◌}
use Rattle.seize_words.specs.OneMemory.Op.{Op, Swap, Exchange, Make, Take, Rewrite, Found, Taken}
use Rattle.seize_words.specs.OneMemory.Word.{block_in}
use Rattle.seize_words.specs.declared.at.At.TheVariants.{Root}
use Rattle.seize.specs.World.{HasListWord}
use Rattle.seize_seats.specs.Seats.Lendings.{VisibleTo, IsValueOf}
use Rattle.seize_seats.specs.Seats.State.{Allows, Owns, Meets}
use Rattle.seize_views.specs.Views.Begun.{Hands}
use Rattle.seize_views.specs.Views.Promises.{IsLooking, IsTaker}
use Rattle.seize_views.specs.Views.Rows.{Holds}
use Rattle.seize_views.specs.Views.Notes.{deed, NotedHolds, NotedKeeps, NotedHands, noted_observed}
use Rattle.seize_callers.specs.Owning.{brought_by, borne_by}
use Rattle.seize_views.specs.Views.Told.{alone_with, cut_in, told}
use Rattle.seize_views.specs.declared.view.Noted.{Noted}
use Rattle.seize_views.specs.declared.view.Deed.{Deed}
use Rattle.seize_views.specs.declared.view.SlotView.{SlotView}
use Rattle.seize_views.specs.declared.view.SlotView.TheVariants.{Rests, Outside, Owes, Inside, Brings, Bears}
use Rattle.seize_views.specs.declared.view.Has.{Has}
use Rattle.seize_views.specs.declared.view.Has.TheVariants.{Nothing, Seen, Cut}
use Rattle.seize_views.specs.declared.view.Fixed.{Fixed}
use Rattle.seize_views.proofs.Views.Blocks.{own_are_made, own_are_taken, own_are_rewritten, own_are_shown, borne_are_shown}
use Rattle.seize_callers.proofs.Calls.{by_view}
use Rattle.seize_views.proofs.Views.Notes.{looks_are_noted, meetings_are_noted}
use Rattle.seize_views.proofs.Views.Handing.{borne_are_handed_on}
use Rattle.seize_views.proofs.Views.Roots.{own_are_linked, own_are_exchanged}
use Rattle.seize_words.proofs.General.{same_some}

module _ {T : Type 0} where
  -- which view it has
  pub brings : (b : ℕ) (v : SlotView T) → brought_by v ≡ Some b → (x : T) × (v ≡ Brings b x)
  brings b (Brings c x) e = (x, ap (λ (k : ℕ). Brings k x) (same_some c b e))
  brings b _ e = absurd (cc e)

  pub bears : (b : ℕ) (v : SlotView T) → borne_by v ≡ Some b → v ≡ Bears b
  bears b (Bears c) e = ap Bears (same_some c b e)
  bears b _ e = absurd (cc e)

module _ {T : Type 0} (defers : T → Option ℕ) (fixed : Fixed) (id : ℕ) (v : Noted T) where
  abbrev MayMake : Op T → Type 0
  MayMake op = Allows (NotedHolds defers fixed) NotedKeeps id v op (noted_observed defers v op)

  pub may_make_own : v.knows ≡ Rests → (value : T) (words : ℕ) → HasListWord defers (defers value) words → MayMake (Make value words)
  may_make_own is value words list = by_view defers fixed id v Rests (Make value words) is tt (own_are_made T defers value words list fixed id)

  pub may_take_own : (b : ℕ) → brought_by v.knows ≡ Some b → MayMake (Take b)
  may_take_own b e = let k = brings b v.knows e in by_view defers fixed id v (Brings b k.0) (Take b) k.1 tt (own_are_taken T defers b k.0 fixed id)

  -- it has the block to itself, so it may give it another value

  pub owns_own : (b : ℕ) → brought_by v.knows ≡ Some b → Owns (NotedHolds defers fixed) NotedKeeps id v b
  owns_own b e s h at = let k = may_take_own b e s h at in (k.0, λ out m took. (let g = k.1 out m took in (g.0, g.1, g.2, g.3, tt)))

  pub may_rewrite_own : (b : ℕ) (y : T) → brought_by v.knows ≡ Some b → ((x : T) → v.knows ≡ Brings b x → defers y ≡ defers x) → MayMake (Rewrite b y)
  may_rewrite_own b y e list =
      let k = brings b v.knows e in
      by_view defers fixed id v (Brings b k.0) (Rewrite b y) k.1 tt (own_are_rewritten T defers b k.0 y (list k.0 k.1) fixed id)

  pub may_link_own : (b r word : ℕ) → brought_by v.knows ≡ Some b → r < fixed.roots → block_in word ≡ b → MayMake (Swap (Root r) word)
  may_link_own b r word e lt names =
      let k = brings b v.knows e in by_view defers fixed id v (Brings b k.0) (Swap (Root r) word) k.1 tt (own_are_linked T defers b k.0 r word fixed id names lt)

  pub may_exchange_own : (b r old word : ℕ) → brought_by v.knows ≡ Some b → r < fixed.roots → block_in word ≡ b → MayMake (Exchange (Root r) old word)
  may_exchange_own b r old word e lt names =
      let k = brings b v.knows e in
      by_view defers fixed id v (Brings b k.0) (Exchange (Root r) old word) k.1 tt (own_are_exchanged T defers b k.0 r old word fixed id names lt)

  pub is_brought : (b : ℕ) → brought_by v.knows ≡ Some b → VisibleTo (NotedHolds defers fixed) id v b
  is_brought b e =
      let k = brings b v.knows e in
      (looks_are_noted T defers fixed id v b).0
      (subst (λ (x : SlotView T). VisibleTo (Holds defers fixed) id x b) (sym k.1) (own_are_shown T defers fixed id b k.0).0)

  pub brought_value : (b : ℕ) (x y : T) → v.knows ≡ Brings b x → IsValueOf (NotedHolds defers fixed) id v b y → y ≡ x
  brought_value b x y is of =
      (own_are_shown T defers fixed id b x).1 y
      (subst (λ (u : SlotView T). IsValueOf (Holds defers fixed) id u b y) is ((looks_are_noted T defers fixed id v b).1 y of))

  pub is_borne : (b : ℕ) → borne_by v.knows ≡ Some b → VisibleTo (NotedHolds defers fixed) id v b
  is_borne b e =
      (looks_are_noted T defers fixed id v b).0
      (subst (λ (x : SlotView T). VisibleTo (Holds defers fixed) id x b) (sym (bears b v.knows e)) (borne_are_shown T defers fixed id b))

  pub may_hand_on : (j b : ℕ) (u : Noted T) → v.knows ≡ Bears b → IsTaker u.knows → Meets (NotedHolds defers fixed) id v j u (NotedHands fixed v u)
  may_hand_on j b u is takes =
      meetings_are_noted T defers fixed id j b v u is takes
      (subst (λ (x : SlotView T). Meets (Holds defers fixed) id x j u.knows (Hands fixed x u.knows)) (sym is)
      (borne_are_handed_on T defers fixed id j b u.knows takes))

module _ {T : Type 0} (defers : T → Option ℕ) (v w : SlotView T) where
  -- what was taken back leaves a seat that rests; and what was put one that is to hand on what was there

  pub own_rests_told : (b : ℕ) (value : T) → brought_by v ≡ Some b → told defers v (Take b) (Taken value) w → w ≡ Rests
  own_rests_told b value e so =
      let k = brings b v e in let t = subst (λ (x : SlotView T). told defers x (Take b) (Taken value) w) k.1 so in t.2 ∙ ap alone_with t.1.1

  -- what was given another value has that one

  pub own_rewritten_told : (b : ℕ) (y value : T) → brought_by v ≡ Some b → told defers v (Rewrite b y) (Taken value) w → w ≡ Brings b y
  own_rewritten_told b y value e so =
      let k = brings b v e in let t = subst (λ (x : SlotView T). told defers x (Rewrite b y) (Taken value) w) k.1 so in t.2 ∙ ap alone_with t.1.1

  pub own_was_told : (b : ℕ) (x y value : T) → v ≡ Brings b x → told defers v (Rewrite b y) (Taken value) w → value ≡ x
  own_was_told b x y value is so = (subst (λ (u : SlotView T). told defers u (Rewrite b y) (Taken value) w) is so).1.0

  pub own_linked_told : (b r word old : ℕ) → brought_by v ≡ Some b → told defers v (Swap (Root r) word) (Found old) w → w ≡ alone_with (cut_in old)
  own_linked_told b r word old e so =
      let k = brings b v e in let t = subst (λ (x : SlotView T). told defers x (Swap (Root r) word) (Found old) w) k.1 so in t.2 ∙ ap alone_with t.1

-- and nothing is done at a root
pub own_did : {T : Type 0} (v : SlotView T) (b : ℕ) (did d : Deed T) (y value : T) → brought_by v ≡ Some b → d ≡ deed v did (Rewrite b y) (Taken value) → d ≡ did
own_did {T} v b did d y value e so = let k = brings b v e in so ∙ ap (λ (u : SlotView T). deed u did (Rewrite b y) (Taken value)) k.1

module _ {T : Type 0} (fixed : Fixed) (v u v2 u2 : SlotView T) (slot b : ℕ) where
  -- who took it over owes it, or has it in its hand

  pub owes_told : v ≡ Bears b → u ≡ Outside slot → Hands fixed v u v2 u2 → u2 ≡ Owes slot b
  owes_told is on so =
      (subst (λ (x : SlotView T). Hands fixed (Bears b) x v2 u2) on (subst (λ (x : SlotView T). Hands fixed x u v2 u2) is so)).1

  cut_so : (has : Has T) → IsLooking has → Hands fixed (Bears b) (Inside slot has) v2 u2 → u2 ≡ Inside slot (Cut b)
  cut_so Nothing looks so = so.1
  cut_so (Seen a) looks so = so.1
  cut_so _ looks so = absurd looks

  pub cuts_told : (has : Has T) → IsLooking has → v ≡ Bears b → u ≡ Inside slot has → Hands fixed v u v2 u2 → u2 ≡ Inside slot (Cut b)
  cuts_told has looks is on so =
      cut_so has looks (subst (λ (x : SlotView T). Hands fixed (Bears b) x v2 u2) on (subst (λ (x : SlotView T). Hands fixed x u v2 u2) is so))

  -- and who handed it on rests

  rests_so : (x : SlotView T) → IsTaker x → Hands fixed (Bears b) x v2 u2 → v2 ≡ Rests
  rests_so (Outside t) takes so = so.0
  rests_so (Inside t Nothing) takes so = so.0
  rests_so (Inside t (Seen a)) takes so = so.0
  rests_so _ takes so = absurd takes

  pub rests_told : IsTaker u → v ≡ Bears b → Hands fixed v u v2 u2 → v2 ≡ Rests
  rests_told takes is so = rests_so u takes (subst (λ (x : SlotView T). Hands fixed x u v2 u2) is so)
