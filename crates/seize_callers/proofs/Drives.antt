-- A settling as the row that somebody has under way: it may take its next step, and is the one that he knows again.
use Rattle.std.specs.Prelude.{◌==◌, Option, Some, None, IsSome, if◌then◌else◌}
use Rattle.std.proofs.Common.{◌≡◌, ℕ, ◌<◌, Bool, true, false, refl, sym, subst, ap, ◌∙◌, eqb-true, inl, arith}
use Rattle.seize_words.specs.OneMemory.Op.{Op, Out, Rewrite}
use Rattle.seize_words.specs.OneMemory.Plan.{May, Steps}
use Rattle.seize.specs.declared.rows.register.Registering.{Registering}
use Rattle.seize.specs.declared.rows.register.Registering.TheVariants as registering_at
use Rattle.seize.specs.declared.rows.register.Register.{Register}
use Rattle.seize.specs.declared.rows.settle.Settle.{Settle}
use Rattle.seize.specs.declared.rows.settle.Settling.{Settling}
use Rattle.seize.specs.declared.rows.settle.Settling.TheVariants as at
use Rattle.seize.specs.declared.rows.settle.Settled.{Settled}
use Rattle.seize.specs.Register as register
use Rattle.seize.specs.Settle.{settle_plan, plan_at}
use Rattle.seize_straight.specs.Going.{DropGoes}
use Rattle.seize_seats.specs.Seats.Lendings.{VisibleTo, IsValueOf}
use Rattle.seize_views.specs.Views.Told.{shown_by, FollowsBy, Continues, told}
use Rattle.seize_views.specs.Views.Promises.{op_in, op_of}
use Rattle.seize_callers.specs.Made.{shown_in, shown_of, left_of, left_in, CanMake, HasMade, IsSettling, Task}
use Rattle.seize_seats.specs.Seats.State.{State}
use Rattle.seize_views.specs.Views.Content.{LookedAreShownIn}
use Rattle.seize_views.specs.Views.Notes.{noted, deed}
use Rattle.seize_views.specs.Views.Watched.{known_by}
use Rattle.seize_views.specs.declared.view.Began.{Began}
use Rattle.seize_views.specs.declared.view.Noted.{Noted}
use Rattle.seize_views.specs.declared.view.Deed.{Deed}
use Rattle.seize_views.specs.declared.view.SlotView.{SlotView}
use Rattle.seize_views.specs.declared.view.SlotView.TheVariants.{Rests, Registers, Outside, Owes, Enters, Inside, Settles, Leaves, Left, Frees, Brings, Bears, Watches, Under, Joins, Defers, Busy}
use Rattle.seize_views.specs.declared.view.Fixed.{Fixed}
use Rattle.seize_views.proofs.Views.Looks.{once}
use Rattle.seize_views.proofs.Views.Makes.{IsDo, IsNoRewrite, may_by, was_made}

module _ {T : Type 0} (defers : T → Option ℕ) where
  is_do : (c : Settle) (p : Settling) → (p ≡ at.Over → ⊥) → IsDo (plan_at defers c p)
  is_do c at.Over ne = absurd (ne refl)
  is_do c _ ne = tt

  -- it replaces no value
  settling_none : (c : Settle) (p : Settling) → IsNoRewrite (op_in (plan_at defers c p))
  settling_none c at.Over = tt
  settling_none c _ = tt

  registering_none : (c : Register) (p : Registering) → IsNoRewrite (op_in (register.plan_at {T = T} c p))
  registering_none c registering_at.Begin = tt
  registering_none c _ = tt

  none_rewrites : (v : SlotView T) → IsNoRewrite (op_of defers v)
  none_rewrites (Registers c) = registering_none c c.stands
  none_rewrites (Settles c why seen left) = settling_none c c.stands
  none_rewrites _ = tt

  pub not_rewrite : (v : SlotView T) (b : ℕ) (x : T) → op_of defers v ≡ Some (Rewrite b x) → ⊥
  not_rewrite v b x e = subst IsNoRewrite e (none_rewrites v)

module _ {T M X Y : Type 0} (defers : T → Option ℕ) (notes : M → Noted T) (beside : M → X) (blocks : M → Y) (else_may : M → Op T → Type 0) where
  abbrev pub Can : M → Op T → Type 0
  Can = CanMake notes else_may defers

  abbrev pub Has : M → Op T → Out T → M → Type 0
  Has = HasMade notes defers beside blocks

  abbrev pub shown : M → ℕ → Option T
  shown = shown_of notes

  module _ (m : M) (c : Settle) (task : Task T) (is : IsSettling task c (notes m)) (ne : c.stands ≡ at.Over → ⊥) where
    -- what is told of a settling's operation
    goes_on : (op : Op T) (out : Out T) (n : M) → Has m op out n → Continues defers c task.why is.1 out (notes n).knows
    goes_on op out n made = subst (λ (v : SlotView T). told defers v op out (notes n).knows) (ap known_by is.2) made.2.0

    -- and what was noted stays
    stays_noted : (op : Op T) (out : Out T) (n : M) (v : SlotView T) → Has m op out n → (notes n).knows ≡ v → notes n ≡ noted v task.did task.began task.guards
    stays_noted op out n v made e =
        ap (λ (x : SlotView T). noted x (notes n).did (notes n).began (notes n).guards) e
        ∙ ap (λ (x : Deed T). noted v x (notes n).began (notes n).guards) (made.2.1 ∙ ap (λ (x : Noted T). deed x.knows x.did op out) is.2)
        ∙ ap (λ (x : Began). noted v task.did x (notes n).guards) (made.2.2 ∙ ap (λ (x : Noted T). x.began) is.2)
        ∙ ap (noted v task.did task.began) (made.2.3 ∙ ap (λ (x : Noted T). x.guards) is.2)

    shows : (n : M) (d : Settle) (seen : Option (ℕ × T)) (left : ℕ) → (notes n).knows ≡ Settles d task.why seen left → shown n ≡ shown_by seen
    shows n d seen left e = ap (λ (v : SlotView T). shown_in v) e

    pub may_step : May Can Has shown m (settle_plan defers c)
    may_step =
        may_by Can Has shown m (settle_plan defers c) (is_do defers c c.stands ne) (λ op e. inl (ap (op_of defers) (ap known_by is.2) ∙ e))
        (λ op out n e made.
        let g = goes_on op out n made in
        (g.end, subst (λ (f : ℕ → Option T). FollowsBy f (settle_plan defers c) out g.end) (sym (shows n g.end.0 g.seen g.now g.view)) g.follows))
        (λ out. once defers c c.stands out)

    pub has_stepped : (n : M) (end : Settle × Settled T) → Steps Has shown m (settle_plan defers c) n end
        → IsSettling task end.0 (notes n) × (end.0.slot ≡ c.slot) × (blocks n ≡ blocks m) × (left_in (notes n) < left_in (notes m)) × DropGoes end.1
        × (beside n ≡ beside m)
    has_stepped n end st =
        let k = was_made Can Has shown m (settle_plan defers c) n end (is_do defers c c.stands ne) st in let g = goes_on k.0 k.1 n k.2 in
        let same : end ≡ g.end = k.3 g.end
        (subst (λ (f : ℕ → Option T). FollowsBy f (settle_plan defers c) k.1 g.end) (sym (shows n g.end.0 g.seen g.now g.view)) g.follows) in (
          (
            g.seen,
            g.now,
            stays_noted k.0 k.1 n (Settles end.0 task.why g.seen g.now) k.2
                (g.view ∙ ap (λ (x : Settle × Settled T). Settles x.0 task.why g.seen g.now) (sym same)),
          ),
          ap (λ (x : Settle × Settled T). x.0.slot) same ∙ g.slot,
          k.2.0,
          (let before = ap left_in is.2 in let after = ap left_of g.view in let falls = g.falls in omega (arith, before, after, falls)),
          subst (λ (x : Settle × Settled T). DropGoes x.1) (sym same) g.further,
          k.2.1,
        )

module _ {T V W B : Type 0} (holds : Fixed → State T V W → Type 0) (keeps : V → V → W → ℕ → Type 0) (notes : V → Noted T) (beside : V → B)
    (law : LookedAreShownIn holds keeps notes beside) (fixed : Fixed) (id : ℕ) (v : V) where
  some_same : (y : Bool) (o : Option T) → IsSome (if y then o else None) → y ≡ true
  some_same true o is = refl
  some_same false o is = absurd (cc is)

  abbrev IsShownIn : SlotView T → ℕ → Type 0
  IsShownIn w b = VisibleTo (holds fixed) id v b × ((y : T) → IsValueOf (holds fixed) id v b y → shown_in w b ≡ Some y)

  known_looked : (w : SlotView T) (b : ℕ) → (notes v).knows ≡ w → IsSome (shown_in w b) → IsShownIn w b
  known_looked (Settles c why (Some (a, x)) left) b at is =
      let e : a ≡ b = sym (eqb-true b a (some_same (b == a) (Some x) is)) in let k = law fixed id v c why a left x at in (
        subst (λ (n : ℕ). VisibleTo (holds fixed) id v n) e k.0,
        λ y of. ap (λ (z : Bool). if z then Some x else None) (some_same (b == a) (Some x) is)
            ∙ ap Some (sym (k.1 y (subst (λ (n : ℕ). IsValueOf (holds fixed) id v n y) (sym e) of))),
      )
  known_looked (Settles c why None left) b at is = absurd (cc is)
  known_looked Rests b at is = absurd (cc is)
  known_looked (Registers c) b at is = absurd (cc is)
  known_looked (Outside t) b at is = absurd (cc is)
  known_looked (Owes t d) b at is = absurd (cc is)
  known_looked (Enters t) b at is = absurd (cc is)
  known_looked (Inside t has) b at is = absurd (cc is)
  known_looked (Leaves t size way) b at is = absurd (cc is)
  known_looked (Left t size way) b at is = absurd (cc is)
  known_looked (Frees t) b at is = absurd (cc is)
  known_looked (Brings c x) b at is = absurd (cc is)
  known_looked (Bears c) b at is = absurd (cc is)
  known_looked (Watches t c) b at is = absurd (cc is)
  known_looked (Under n t c) b at is = absurd (cc is)
  known_looked (Joins block) b at is = absurd (cc is)
  known_looked (Defers t c) b at is = absurd (cc is)
  known_looked (Busy t) b at is = absurd (cc is)

  pub is_looked : (b : ℕ) → IsSome (shown_in (notes v).knows b) → IsShownIn (notes v).knows b
  is_looked b is = known_looked (notes v).knows b refl is
