-- What a seat may come to know without an operation is that it lets go of what it has seen, or that a row has begun, or has ended.
use Rattle.std.specs.Prelude.{Option, None}
use Rattle.std.proofs.Common.{◌≡◌, ℕ, ◌⊎◌, inl, inr, refl, sym, subst}
use Rattle.seize.specs.World as world
use Rattle.seize.specs.World.{World, Use}
use Rattle.seize_views.specs.Views.Rows.{row_of, had_in}
use Rattle.seize_views.specs.Views.Promises.{IsNext, IsFree}
use Rattle.seize_views.specs.declared.view.SlotView.{SlotView}
use Rattle.seize_views.specs.declared.view.SlotView.TheVariants.{Rests, Registers, Outside, Owes, Enters, Inside, Settles, Leaves, Left, Frees, Brings, Bears, Watches, Under, Joins, Defers, Busy}
use Rattle.seize_views.specs.declared.view.Has.{Has}
use Rattle.seize_views.specs.declared.view.Has.TheVariants.{Nothing, Made, Seen, Both, Cut, Walks}
use Rattle.seize_views.specs.declared.view.Why.TheVariants.{Retiring, Ending}
use Rattle.seize_views.specs.declared.view.Fixed.{Fixed}
use Rattle.seize_views.proofs.Views.InWorld.{IsJustSo, IsLikeness, HasRow, GoesTo, BeginsTo}
use Rattle.seize_views.proofs.Views.Begins.{enters, frees, leaves, registers}
use Rattle.seize_views.proofs.Views.Ends.{settled_ends, counted_ends, left_ends}

-- it lets go of what it has seen
pub record Forgets {T : Type 0} (v u : SlotView T) : Type 0 where
  pub slot : ℕ
  pub has : Has T
  pub from : v ≡ Inside slot has
  pub none : had_in has ≡ None
  pub to : u ≡ Inside slot Nothing

module _ {T : Type 0} (defers : T → Option ℕ) (fixed : Fixed) (Is : Use → Use → Type 0) (like : IsLikeness Is) (i : ℕ) where
  -- where none is under way a row begins, whatever the world is; or it ends
  abbrev pub AlwaysBegins : SlotView T → (SlotView T → Type 0) → Type 0
  AlwaysBegins v so = (row_of v ≡ world.Rests) × ((w : World T) → HasRow defers fixed IsJustSo w i v → BeginsTo defers fixed w i v so)

  abbrev pub AlwaysEnds : SlotView T → (SlotView T → Type 0) → Type 0
  AlwaysEnds v so = (w : World T) → HasRow defers fixed Is w i v → GoesTo defers fixed Is w i v w.memory so

  abbrev pub Turning : SlotView T → SlotView T → Type 0
  Turning v u = Forgets v u ⊎ AlwaysBegins v (λ x. x ≡ u) ⊎ AlwaysEnds v (λ x. x ≡ u)

  -- to the view that it is
  to_is : (v x u : SlotView T) → u ≡ x → Turning v x → Turning v u
  to_is v x u is t = subst (λ (y : SlotView T). Turning v y) (sym is) t

  goes_free : (t : ℕ) (has : Has T) (u : SlotView T) → had_in has ≡ None → IsFree fixed t u → Turning (Inside t has) u
  goes_free t has u none (inl is) = to_is (Inside t has) (Leaves t fixed.batch_size is.0) u is.1 (inr (inl (refl, λ w h. leaves defers fixed w i t has is.0 none h)))
  goes_free t has u none (inr is) = inl (record { slot = t; has = has; from = refl; none = none; to = is })

  pub turning : (v u : SlotView T) → IsNext fixed v u → Turning v u
  turning Rests u is = to_is Rests _ u is (inr (inl (refl, λ w h. registers defers fixed w i h)))
  turning (Registers c) u is = absurd is
  turning (Outside t) u (inl is) = to_is (Outside t) (Enters t) u is (inr (inl (refl, λ w h. enters defers fixed w i t h)))
  turning (Outside t) u (inr is) = to_is (Outside t) (Frees t) u is (inr (inl (refl, λ w h. frees defers fixed w i t h)))
  turning (Enters t) u is = absurd is
  turning (Inside t Nothing) u is = goes_free t Nothing u refl is
  turning (Inside t (Seen b)) u is = goes_free t (Seen b) u refl is
  turning (Inside t (Walks b next)) u is = absurd is
  turning (Inside t (Cut b)) u is = absurd is
  turning (Inside t (Made b x)) u is = absurd is
  turning (Inside t (Both b x a)) u is = absurd is
  turning (Owes t b) u is = absurd is
  turning (Settles c (Retiring way) seen left) u is =
      to_is (Settles c (Retiring way) seen left) _ u is.1 (inr (inr (λ w h. settled_ends defers fixed Is like w i c way seen left is.0 h)))
  turning (Settles c (Ending size way) seen left) u is =
      to_is (Settles c (Ending size way) seen left) (Left c.slot size way) u is.1 (inr (inr (λ w h. counted_ends defers fixed Is like w i c size way seen left is.0 h)))
  turning (Leaves t size way) u is = absurd is
  turning (Left t size way) u is = to_is (Left t size way) _ u is (inr (inr (λ w h. left_ends defers fixed Is like w i t size way h)))
  turning (Frees t) u is = absurd is
  turning (Brings b x) u is = absurd is
  turning (Bears b) u is = absurd is
  turning (Watches t b) u is = absurd is
  turning (Under n t b) u is = absurd is
  turning (Joins block) u is = absurd is
  turning (Defers t c) u is = absurd is
  turning (Busy t) u is = absurd is
