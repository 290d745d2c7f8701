-- The rule of rows is a content: whatever a seat may do by what it knows it may do, and notes it.
use Rattle.std.specs.Prelude.{Option, Some}
use Rattle.std.proofs.Common.{◌≡◌, ℕ, inl, inr, refl, sym, subst, ap, ◌∙◌}
use Rattle.seize_words.specs.OneMemory.Op.{Op}
use Rattle.seize_seats.specs.Seats.Lendings.{VisibleTo, IsValueOf}
use Rattle.seize_views.specs.Views.Begun.{left_with}
use Rattle.seize_views.specs.Views.Content.{SeatsComeIn, RowsContinueIn, RowsTurnIn, SettlingsBeginIn, LookedAreShownIn, RowsAreObserved}
use Rattle.seize_views.specs.Views.Notes.{noted, newcomer, NotedHolds, NotedKeeps, noted_observed}
use Rattle.seize_views.specs.Views.Promises.{op_of, IsNext, IsFree}
use Rattle.seize_views.specs.Views.Rows.{Holds}
use Rattle.seize_views.specs.Views.Watched.{Leans, IsOwn}
use Rattle.seize_views.specs.declared.view.Becomes.{Becomes}
use Rattle.seize_views.specs.declared.view.Becomes.TheVariants.{Idle, Active}
use Rattle.seize_views.specs.declared.view.Began.{Began}
use Rattle.seize_views.specs.declared.view.Deed.{Deed}
use Rattle.seize_views.specs.declared.view.Fixed.{Fixed}
use Rattle.seize_views.specs.declared.view.Has.TheVariants.{Nothing, Made, Seen, Both, Cut, Walks}
use Rattle.seize_views.specs.declared.view.Noted.{Noted}
use Rattle.seize_views.specs.declared.view.SlotView.{SlotView}
use Rattle.seize_views.specs.declared.view.SlotView.TheVariants.{Rests, Registers, Outside, Owes, Enters, Inside, Settles, Leaves, Left, Frees, Brings, Bears, Watches, Under, Joins, Defers, Busy}
use Rattle.seize_views.specs.declared.view.Why.TheVariants.{Retiring, Ending}
use Rattle.seize_views.proofs.Views.Beginnings.{rows_turn, settlings_begin}
use Rattle.seize_views.proofs.Views.GoesOn.{rows_go_on}
use Rattle.seize_views.proofs.Views.Looks.{looked_are_shown}
use Rattle.seize_views.proofs.Views.Notes.{comings_are_noted, steps_are_noted, turns_are_noted, settlings_are_noted, looks_are_noted}

-- who watches has no row
own_by_op : {T : Type 0} (defers : T → Option ℕ) (w : SlotView T) (op : Op T) → op_of defers w ≡ Some op → IsOwn w
own_by_op defers (Watches t b) op e = absurd (cc e)
own_by_op defers (Under n t b) op e = absurd (cc e)
own_by_op defers _ op e = tt

left_own : (T : Type 0) (way : Becomes) (t : ℕ) → IsOwn {T = T} (left_with way t)
left_own T Idle t = tt
left_own T Active t = tt

-- and begins none
module _ {T : Type 0} (fixed : Fixed) where
  free_own : (t : ℕ) (u : SlotView T) → IsFree fixed t u → IsOwn u
  free_own t u (inl is) = subst IsOwn (sym is.1) tt
  free_own t u (inr is) = subst IsOwn (sym is) tt

  next_own : (v u : SlotView T) → IsNext fixed v u → IsOwn v × IsOwn u
  next_own Rests u is = (tt, subst IsOwn (sym is) tt)
  next_own (Outside t) u (inl is) = (tt, subst IsOwn (sym is) tt)
  next_own (Outside t) u (inr is) = (tt, subst IsOwn (sym is) tt)
  next_own (Inside t Nothing) u is = (tt, free_own t u is)
  next_own (Inside t (Seen b)) u is = (tt, free_own t u is)
  next_own (Inside t (Walks b next)) u is = absurd is
  next_own (Inside t (Made b x)) u is = absurd is
  next_own (Inside t (Both b x a)) u is = absurd is
  next_own (Inside t (Cut b)) u is = absurd is
  next_own (Settles c (Retiring way) seen left) u is = (tt, subst IsOwn (sym is.1) (left_own T way c.slot))
  next_own (Settles c (Ending size way) seen left) u is = (tt, subst IsOwn (sym is.1) tt)
  next_own (Left t size way) u is = (tt, subst IsOwn (sym is) (left_own T way t))
  next_own (Registers c) u is = absurd is
  next_own (Owes t b) u is = absurd is
  next_own (Enters t) u is = absurd is
  next_own (Leaves t size way) u is = absurd is
  next_own (Frees t) u is = absurd is
  next_own (Brings b x) u is = absurd is
  next_own (Bears b) u is = absurd is
  next_own (Watches t b) u is = absurd is
  next_own (Under n t b) u is = absurd is
  next_own (Joins block) u is = absurd is
  next_own (Defers t c) u is = absurd is
  next_own (Busy t) u is = absurd is

-- notes are the same where each of them is
same_notes : {T : Type 0} (v u : Noted T) → (v.knows ≡ u.knows) × (v.did ≡ u.did) × (v.began ≡ u.began) × (v.guards ≡ u.guards) → v ≡ u
same_notes v u is =
    ap (λ (k : SlotView _). noted k v.did v.began v.guards) is.0 ∙ ap (λ (d : Deed _). noted u.knows d v.began v.guards) is.1
    ∙ ap (λ (b : Began). noted u.knows u.did b v.guards) is.2 ∙ ap (λ (n : ℕ). noted u.knows u.did u.began n) is.3

module _ (T : Type 0) (defers : T → Option ℕ) where
  abbrev whole : Noted T → Noted T
  whole v = v

  abbrev none : Noted T → Unit {0}
  none v = tt

  pub seats_come_in : SeatsComeIn (NotedHolds defers) NotedKeeps whole none (λ _. newcomer)
  seats_come_in fixed = (comings_are_noted T defers fixed, refl)

  pub rows_go_on_in : RowsContinueIn (NotedHolds defers) NotedKeeps whole none defers (noted_observed defers)
  rows_go_on_in fixed id v op is = steps_are_noted T defers fixed id v op (own_by_op defers v.knows op is) (rows_go_on T defers fixed id v.knows op is)

  pub rows_are_told : RowsAreObserved whole none defers (noted_observed defers)
  rows_are_told v w op out is told = (told, refl)

  pub rows_turn_in : RowsTurnIn (NotedHolds defers) NotedKeeps whole none Leans
  rows_turn_in fixed id v u may s h at unlent =
      let own = next_own fixed v.knows u.knows may.0 in
      let g = turns_are_noted T defers fixed id v u.knows u.did u.began own.0 own.1 may.1 (rows_turn T defers fixed id v.knows u.knows may.0) s h at unlent in
      (g.0, g.1, g.2, g.3, (same_notes g.0 u (g.4.0, g.4.1, g.4.2, g.4.3 ∙ sym may.3), refl))

  pub settlings_begin_in : SettlingsBeginIn (NotedHolds defers) NotedKeeps whole none Leans
  settlings_begin_in fixed id v way c began is s h at unlent =
      let g = settlings_are_noted T defers fixed id v way c v.did began is (settlings_begin T defers fixed id v.knows way c is) s h at unlent in
      (g.0, g.1, g.2, g.3, (g.4.0, g.4.1, g.4.2, g.4.3, refl))

  pub looked_are_shown_in : LookedAreShownIn (NotedHolds defers) NotedKeeps whole none
  looked_are_shown_in fixed id v c why b left x is =
      let k = looked_are_shown T defers fixed id c why b left x in let n = looks_are_noted T defers fixed id v b in (
        n.0 (subst (λ (y : SlotView T). VisibleTo (Holds defers fixed) id y b) (sym is) k.0),
        λ y of. k.1 y (subst (λ (z : SlotView T). IsValueOf (Holds defers fixed) id z b y) is (n.1 y of)),
      )
