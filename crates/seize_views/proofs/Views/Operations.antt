-- Entering, leaving and giving up: the one operation of each may be made, and leads on.
use Rattle.std.specs.Prelude.{Option, None, nat_lt}
use Rattle.std.proofs.Common.{◌≡◌, ℕ, Bool, true, false, [], ◌∷◌, inl, inr, refl, sym, subst, ◌∙◌}
use Rattle.seize_words.specs.OneMemory.Mem.{Mem, Took}
use Rattle.seize_words.specs.OneMemory.Op.{Out, Store, Swap, Found, Stored, Exchanged, Made, Taken, Roomed}
use Rattle.seize_words.specs.declared.at.At.TheVariants.{Slot}
use Rattle.seize.specs.declared.states.TheConstants.{HEAD, FREE, ACTIVE}
use Rattle.seize.specs.declared.advance.Advance.TheVariants.{Done}
use Rattle.seize.specs.declared.rows.leave.Leave.{Leave}
use Rattle.seize.specs.declared.rows.leave.Leaving.TheVariants as leaving_at
use Rattle.seize.specs.declared.rows.settle.Settled.TheVariants as settled
use Rattle.seize.specs.Settle.{counting_down}
use Rattle.seize.specs.Leave.{standing}
use Rattle.seize.specs.Law.{Entered}
use Rattle.seize.specs.World.{World, Row, Use, Step, Steps', after_step, with_use, leaves_on}
use Rattle.seize.specs.World as world
use Rattle.seize_acts.proofs.Given.SeizeRuleRows.Others.{with_here, with_other}
use Rattle.seize_views.specs.Views.Rows.{row_of, leave_of, head_of}
use Rattle.seize_views.specs.Views.Told.{list_taken, told}
use Rattle.seize_views.specs.declared.view.Becomes.{Becomes}
use Rattle.seize_views.specs.declared.view.SlotView.TheVariants.{Rests, Enters, Inside, Settles, Leaves, Left, Frees}
use Rattle.seize_views.specs.declared.view.Has.TheVariants.{Nothing}
use Rattle.seize_views.specs.declared.view.Why.TheVariants.{Ending}
use Rattle.seize_views.specs.declared.view.Fixed.{Fixed}
use Rattle.seize_acts.specs.Acts.Waits.{SettlesOn}
use Rattle.seize_acts.specs.Bounds.Bounds.{IsAloneOnSlot}
use Rattle.seize_acts.proofs.Bounds.Settles.Within.{lists_are_settled}
use Rattle.seize_views.proofs.Views.InWorld.{IsLikeness, HasRow, GoesTo, MayMake, came_on, may, same_slot, stays_on}

module _ {T : Type 0} (defers : T → Option ℕ) (fixed : Fixed) (Is : Use → Use → Type 0) (like : IsLikeness Is) (w : World T) (i : ℕ) where
  -- a slot that is used so just now is used like that
  just : (t : ℕ) (a : Use) (n : World T) → n.uses t ≡ a → Is a (n.uses t)
  just t a n is = subst (λ (u : Use). Is a u) (sym is) (like.same a)

  pub enters : (t : ℕ) → HasRow defers fixed Is w i (Enters t)
      → MayMake defers fixed Is w i (Enters t) (Store (Slot t HEAD) ACTIVE) (told defers (Enters t) (Store (Slot t HEAD) ACTIVE))
  enters t h = ((may defers fixed Is w i (Enters t) h).0, λ out m took. goes out m took)
    where
      goes : (out : Out T) (m : Mem T) → Took w.memory (Store (Slot t HEAD) ACTIVE) out m
          → GoesTo defers fixed Is w i (Enters t) m (told defers (Enters t) (Store (Slot t HEAD) ACTIVE) out)
      goes out m took =
          let n : World T = with_use (after_step w i m world.Rests (Entered t ∷ [])) t (world.Inside 0) in (
            Inside t Nothing,
            n,
            record {
              step = (m, (record { slot = t }, Done tt), (out, took, refl), refl);
              memory = refl;
              row = with_here w.row i world.Rests;
              used = just t (world.Inside 0) n (with_here w.uses t (world.Inside 0));
              plain = tt;
              short = tt;
              known = tt;
              bounded = tt;
              none = refl;
              slot = λ x b e. inl (same_slot t x (world.Inside 0) b world.Changing e);
              place = inl refl;
            },
            refl,
          )

  pub frees : (t : ℕ) → HasRow defers fixed Is w i (Frees t)
      → MayMake defers fixed Is w i (Frees t) (Store (Slot t HEAD) FREE) (told defers (Frees t) (Store (Slot t HEAD) FREE))
  frees t h = ((may defers fixed Is w i (Frees t) h).0, λ out m took. goes out m took)
    where
      goes : (out : Out T) (m : Mem T) → Took w.memory (Store (Slot t HEAD) FREE) out m
          → GoesTo defers fixed Is w i (Frees t) m (told defers (Frees t) (Store (Slot t HEAD) FREE) out)
      goes out m took =
          let n : World T = with_use (after_step w i m world.Rests []) t world.Vacant in (
            Rests,
            n,
            record {
              step = (m, (record { slot = t }, Done tt), (out, took, refl), refl);
              memory = refl;
              row = with_here w.row i world.Rests;
              used = tt;
              plain = tt;
              short = tt;
              known = tt;
              bounded = tt;
              none = refl;
              slot = λ x b e. absurd (cc e);
              place = inl refl;
            },
            refl,
          )

  pub leaves : (t size : ℕ) (way : Becomes) → HasRow defers fixed Is w i (Leaves t size way)
      → MayMake defers fixed Is w i (Leaves t size way) (Swap (Slot t HEAD) (head_of way)) (told defers (Leaves t size way) (Swap (Slot t HEAD) (head_of way)))
  leaves t size way h = ((may defers fixed Is w i (Leaves t size way) h).0, λ out m took. by out m took)
    where
      used : (d : Leave) (m : Mem T) → Is world.Changing ((leaves_on w i (leave_of t size way) m (d, settled.Goes)).uses t)
      used d m = subst (λ (u : Use). Is world.Changing u) (sym (with_here w.uses t (w.uses t))) h.used

      -- nobody else settles on its slot
      lone : (d : Leave) (m : Mem T) → d.slot ≡ t → IsAloneOnSlot i (leaves_on w i (leave_of t size way) m (d, settled.Goes))
      lone d m same =
          stays_on w (leaves_on w i (leave_of t size way) m (d, settled.Goes)) i h.alone
          (λ j ne. with_other w.row i j (world.Leaves d) ne)
          (λ slot its. subst (λ (r : Row). SettlesOn slot r) (sym h.row) (sym same ∙ subst (λ (r : Row). SettlesOn slot r) (with_here w.row i (world.Leaves d)) its))

      goes : (head : ℕ) (m : Mem T) → Took w.memory (Swap (Slot t HEAD) (head_of way)) (Found head) m → (b : Bool) → nat_lt ACTIVE head ≡ b
          → GoesTo defers fixed Is w i (Leaves t size way) m (λ u. (left : ℕ) × (u ≡ list_taken t size way head left))
      goes head m took true e =
          let d : Leave = standing (leave_of t size way) (leaving_at.Settles (counting_down t size head)) in
          let n : World T = leaves_on w i (leave_of t size way) m (d, settled.Goes) in
          let taken : Steps' defers i (row_of {T = T} (Leaves t size way)) w n = (m, (d, settled.Goes), (Found head, took, rw e refl), refl) in
          let row : n.row i ≡ world.Leaves d = with_here w.row i (world.Leaves d) in
          let came = came_on defers fixed w n (Step i) h.came (subst (λ (r : Row). Steps' defers i r w n) (sym h.row) taken) in
          let k = lists_are_settled defers fixed.batch_size came.0 came.1 n came.2 i head (leave_of t size way) (lone d m refl) row in (
            Settles (counting_down t size head) (Ending size way) None k.0,
            n,
            record {
              step = taken;
              memory = refl;
              row = row;
              used = used d m;
              plain = tt;
              short = tt;
              known = tt;
              bounded = k.1;
              none = refl;
              slot = λ x b q. inl (same_slot t x world.Changing b world.Changing q);
              place = inr refl;
            },
            (k.0, rw e refl),
          )
      goes head m took false e =
          let d : Leave = standing (leave_of t size way) leaving_at.Over in (
            Left t size way,
            leaves_on w i (leave_of t size way) m (d, settled.Goes),
            record {
              step = (m, (d, settled.Goes), (Found head, took, rw e refl), refl);
              memory = refl;
              row = with_here w.row i (world.Leaves d);
              used = used d m;
              plain = tt;
              short = tt;
              known = tt;
              bounded = tt;
              none = refl;
              slot = λ x b q. inl (same_slot t x world.Changing b world.Changing q);
              place = inr refl;
            },
            (0, rw e refl),
          )

      by : (out : Out T) (m : Mem T) → Took w.memory (Swap (Slot t HEAD) (head_of way)) out m
          → GoesTo defers fixed Is w i (Leaves t size way) m (told defers (Leaves t size way) (Swap (Slot t HEAD) (head_of way)) out)
      by (Found head) m took = goes head m took (nat_lt ACTIVE head) refl
      by Stored m took = absurd took.0
      by (Exchanged r) m took = absurd took.0
      by (Made r) m took = absurd took.0
      by (Taken r) m took = absurd took.0
      by (Roomed r) m took = absurd took.0
