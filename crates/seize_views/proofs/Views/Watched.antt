-- Steps and meetings leave those who watch a section counted by who has it open, and what they have seen held.
use Rattle.std.specs.Prelude.{◌≢◌, Option, Some, None, ◌++◌, slice_get, slice_set}
use Rattle.std.proofs.Common.{◌≡◌, ℕ, zero, suc, ◌+◌, true, false, List, [], ◌∷◌, ◌⊎◌, inl, inr, refl, sym, subst, ap, ◌∙◌, arith}
use Rattle.std.proofs.lemmas.Bool.{cases_eq, eq-eqb}
use Rattle.seize.specs.Law.{Effect, holds}
use Rattle.seize.specs.World.{World, Use, IsInside}
use Rattle.seize.specs.World as world
use Rattle.seize_seats.specs.Seats.State.{State, view_of}
use Rattle.seize_views.specs.Views.Rows.{Holds, HeldStay, IsUsed, use_of, used_by}
use Rattle.seize_views.specs.Views.Watched.{one, open_at, is_watching, LeansOn, IsOwn, watchers, watching, Stays, IsBase, Upholds, AreLeaned, AreWatched}
use Rattle.seize_views.specs.declared.view.Noted.{Noted}
use Rattle.seize_views.specs.declared.view.SlotView.{SlotView}
use Rattle.seize_views.specs.declared.view.SlotView.TheVariants.{Rests, Registers, Outside, Owes, Enters, Inside, Settles, Leaves, Left, Frees, Brings, Bears, Watches, Under, Joins, Defers, Busy}
use Rattle.seize_views.specs.declared.view.Deferral.{Deferral}
use Rattle.seize_views.specs.declared.view.Deferral.TheVariants.{Takes, Parts, Puts}
use Rattle.seize_views.specs.declared.view.Why.TheVariants.{Retiring, Ending}
use Rattle.seize_views.specs.declared.view.Becomes.TheVariants.{Idle, Active}
use Rattle.seize_views.specs.declared.view.Fixed.{Fixed}
use Rattle.seize_views.proofs.Views.Lists.{there, elsewhere, with_last, with_more}
use Rattle.seize_views.proofs.Views.Leaned.{steps_leaned, joins_leaned}
use Rattle.seize_words.proofs.General.{same_some}

-- ---- how many there are
module _ {T : Type 0} (t : ℕ) where
  pub set_watchers : (l : List (SlotView T)) (i : ℕ) (x y : SlotView T) → slice_get l i ≡ Some x
      → watchers t (slice_set l i y) + one (is_watching t x) ≡ watchers t l + one (is_watching t y)
  set_watchers [] i x y e = absurd (cc e)
  set_watchers (a ∷ l) zero x y e = let k = ap (λ (v : SlotView T). one (is_watching t v)) (same_some a x e) in omega (arith, k)
  set_watchers (a ∷ l) (suc i) x y e = let k = set_watchers l i x y e in omega (arith, k)

  pub as_many : (l : List (SlotView T)) (i : ℕ) (x y : SlotView T) → slice_get l i ≡ Some x → is_watching t y ≡ is_watching t x
      → watchers t (slice_set l i y) ≡ watchers t l
  as_many l i x y e same = let k = set_watchers l i x y e in let m = ap one same in omega (arith, k, m)

  pub some_watch : (l : List (SlotView T)) (i : ℕ) (x : SlotView T) → slice_get l i ≡ Some x → is_watching t x ≡ true → watchers t l ≢ 0
  some_watch [] i x e is none = cc e
  some_watch (a ∷ l) zero x e is none =
      let k : one (is_watching t a) ≡ 1 = ap (λ (v : SlotView T). one (is_watching t v)) (same_some a x e) ∙ ap one is in omega (arith, k, none)
  some_watch (a ∷ l) (suc i) x e is none = some_watch l i x e is (omega (arith, none))

-- ---- an open section
module _ {T : Type 0} where
  -- its slot is the seat's
  pub open_used : (x : SlotView T) (t : ℕ) → open_at x ≡ Some t → (a : Use) × (use_of x ≡ Some (t, a))
  open_used (Inside u has) t e = (world.Inside 0, ap (λ (k : ℕ). Some (k, world.Inside 0)) (same_some u t e))
  open_used (Settles c (Retiring Active) seen left) t e = (world.Inside 1, ap (λ (k : ℕ). Some (k, world.Inside 1)) (same_some c.slot t e))
  open_used (Settles c (Retiring Idle) seen left) t e = absurd (cc e)
  open_used (Settles c (Ending size way) seen left) t e = absurd (cc e)
  open_used Rests t e = absurd (cc e)
  open_used (Registers c) t e = absurd (cc e)
  open_used (Outside u) t e = absurd (cc e)
  open_used (Owes u b) t e = absurd (cc e)
  open_used (Enters u) t e = absurd (cc e)
  open_used (Leaves u size way) t e = absurd (cc e)
  open_used (Left u size way) t e = absurd (cc e)
  open_used (Frees u) t e = absurd (cc e)
  open_used (Brings b x) t e = absurd (cc e)
  open_used (Joins block) t e = absurd (cc e)
  open_used (Bears b) t e = absurd (cc e)
  open_used (Watches u b) t e = absurd (cc e)
  open_used (Under n u b) t e = absurd (cc e)
  open_used (Defers u c) t e = (used_by c, ap (λ (k : ℕ). Some (k, used_by c)) (same_some u t e))
  open_used (Busy None) t e = absurd (cc e)
  open_used (Busy (Some u)) t e = (world.Inside 0, ap (λ (k : ℕ). Some (k, world.Inside 0)) (same_some u t e))

  inside_so : (c : Deferral T) → IsInside (used_by c)
  inside_so (Takes a y made) = tt
  inside_so (Parts a y b x) = tt
  inside_so (Puts a c) = tt

  -- and is open in the world
  pub open_inside : (w : World T) (x : SlotView T) (t : ℕ) → open_at x ≡ Some t → IsUsed w (use_of x) → IsInside (w.uses t)
  open_inside w (Inside u has) t e is = subst (λ (k : ℕ). IsInside (w.uses k)) (same_some u t e) (subst (λ (a : Use). IsInside a) (sym is) tt)
  open_inside w (Settles c (Retiring Active) seen left) t e is =
      subst (λ (k : ℕ). IsInside (w.uses k)) (same_some c.slot t e) (subst (λ (a : Use). IsInside a) (sym is) tt)
  open_inside w (Settles c (Retiring Idle) seen left) t e is = absurd (cc e)
  open_inside w (Settles c (Ending size way) seen left) t e is = absurd (cc e)
  open_inside w Rests t e is = absurd (cc e)
  open_inside w (Registers c) t e is = absurd (cc e)
  open_inside w (Outside u) t e is = absurd (cc e)
  open_inside w (Owes u b) t e is = absurd (cc e)
  open_inside w (Enters u) t e is = absurd (cc e)
  open_inside w (Leaves u size way) t e is = absurd (cc e)
  open_inside w (Left u size way) t e is = absurd (cc e)
  open_inside w (Frees u) t e is = absurd (cc e)
  open_inside w (Brings b x) t e is = absurd (cc e)
  open_inside w (Joins block) t e is = absurd (cc e)
  open_inside w (Bears b) t e is = absurd (cc e)
  open_inside w (Watches u b) t e is = absurd (cc e)
  open_inside w (Under n u b) t e is = absurd (cc e)
  open_inside w (Defers u c) t e is = subst (λ (k : ℕ). IsInside (w.uses k)) (same_some u t e) (subst (λ (a : Use). IsInside a) (sym is) (inside_so c))
  open_inside w (Busy None) t e is = absurd (cc e)
  open_inside w (Busy (Some u)) t e is = subst (λ (k : ℕ). IsInside (w.uses k)) (same_some u t e) (subst (λ (a : Use). IsInside a) (sym is) tt)

-- a seat that watches none
pub own_watches : {T : Type 0} (x : SlotView T) (t : ℕ) → IsOwn x → is_watching t x ≡ false
own_watches Rests t own = refl
own_watches (Registers c) t own = refl
own_watches (Outside u) t own = refl
own_watches (Owes u b) t own = refl
own_watches (Enters u) t own = refl
own_watches (Inside u has) t own = refl
own_watches (Settles c why seen left) t own = refl
own_watches (Leaves u size way) t own = refl
own_watches (Left u size way) t own = refl
own_watches (Frees u) t own = refl
own_watches (Brings b x) t own = refl
own_watches (Joins block) t own = refl
own_watches (Bears b) t own = refl
own_watches (Watches u b) t own = absurd own
own_watches (Under n u b) t own = absurd own
own_watches (Defers u c) t own = refl
own_watches (Busy u) t own = refl

pub own_not : {T : Type 0} (x : SlotView T) (t b : ℕ) → IsOwn x → x ≡ Watches t b → ⊥
own_not x t b own e = subst IsOwn e own

module _ {T : Type 0} (defers : T → Option ℕ) (fixed : Fixed) (seats : List (Noted T)) (s : State T (SlotView T) (World T)) (h : Holds defers fixed s)
    (aw : AreWatched seats s.views s.world.log) where
  -- a section that somebody watches is open
  pub watched_open : (t : ℕ) → watchers t s.views ≢ 0 → IsInside (s.world.uses t)
  watched_open t some = let k = aw.opened t some in open_inside s.world k.1 t k.3 (h.seats k.0 k.1 k.2).slot

  pub watches_open : (j t b : ℕ) → view_of s j ≡ Some (Watches t b) → IsInside (s.world.uses t)
  watches_open j t b e = watched_open t (some_watch t s.views j (Watches t b) e (eq-eqb t t refl))

  -- ---- a step
  module _ (id : ℕ) (v u : Noted T) (n : World T) (at : slice_get seats id ≡ Some v) (at_view : view_of s id ≡ Some v.knows) (stay : HeldStay s.world n)
      (apart : (j k t : ℕ) (a b : Use) (x y : SlotView T) → slice_get (slice_set s.views id u.knows) j ≡ Some x → slice_get (slice_set s.views id u.knows) k ≡ Some y
      → use_of x ≡ Some (t, a) → use_of y ≡ Some (t, b) → j ≡ k)
      (known : (k : ℕ) (x : Noted T) → slice_get seats k ≡ Some x → view_of s k ≡ Some x.knows)
      (guards : u.guards ≡ v.guards) (same : (t : ℕ) → is_watching t u.knows ≡ is_watching t v.knows)
      (mine : (t b : ℕ) → u.knows ≡ Watches t b → b ≢ 0 → holds t b n.log ≡ true) (stays : Stays v.guards v.knows u.knows)
      (under : (m t b : ℕ) → u.knows ≡ Under m t b → (m ≢ id) × IsBase seats m t × (b ≢ 0 → holds t b n.log ≡ true))
      (upholds : Upholds seats id v.knows u.knows) where
    abbrev seats2 : List (Noted T)
    seats2 = slice_set seats id u

    abbrev views2 : List (SlotView T)
    views2 = slice_set s.views id u.knows

    many : (o : Option ℕ) → watching views2 o ≡ watching s.views o
    many None = refl
    many (Some t) = as_many t s.views id v.knows u.knows at_view (same t)

    own_counted : v.guards ≡ watching s.views (open_at v.knows)
    own_counted = aw.counted id v at

    here : slice_get views2 id ≡ Some u.knows
    here = there s.views id u.knows v.knows at_view

    -- where no section was open nobody watched the one that is
    none_yet : open_at v.knows ≡ None → (t : ℕ) → open_at u.knows ≡ Some t → watchers t views2 ≡ 0
    none_yet none t is = by (cases_eq (watchers t views2) 0)
      where
        by : (watchers t views2 ≡ 0) ⊎ (watchers t views2 ≢ 0) → watchers t views2 ≡ 0
        by (inl e) = e
        by (inr some) =
            let k = aw.opened t (λ z. some (many (Some t) ∙ z)) in
            let ne : k.0 ≢ id = λ e. let f = same_some k.1 v.knows (sym k.2 ∙ ap (λ (j : ℕ). view_of s j) e ∙ at_view) in
            let g = ap open_at f in let kk = k.3 in cc (g, kk, none) in
            let p = open_used k.1 t k.3 in let q = open_used u.knows t is in
            absurd (ne (apart k.0 id t p.0 q.0 k.1 u.knows (elsewhere s.views id k.0 u.knows ne ∙ k.2) here p.1 q.1))

    counted_here : u.guards ≡ watching views2 (open_at u.knows)
    counted_here = by stays
      where
        starts : open_at v.knows ≡ None → (o : Option ℕ) → open_at u.knows ≡ o → watching views2 o ≡ 0
        starts none None e = refl
        starts none (Some t) e = none_yet none t e

        by : Stays v.guards v.knows u.knows → u.guards ≡ watching views2 (open_at u.knows)
        by (inl e) = guards ∙ own_counted ∙ sym (many (open_at v.knows)) ∙ ap (watching views2) (sym e)
        by (inr (inl none)) = guards ∙ own_counted ∙ ap (watching s.views) none ∙ sym (starts none (open_at u.knows) refl)
        by (inr (inr e)) = guards ∙ e.0 ∙ ap (watching views2) (sym e.1)

    pub steps_watched : AreWatched seats2 views2 n.log
    steps_watched = record {
      held = λ j t b e some. held j t b e some (cases_eq j id);
      counted = λ k x e. counted k x e (cases_eq k id);
      opened = λ t some. opened t (aw.opened t (λ z. some (many (Some t) ∙ z))) some;
      leaned = steps_leaned seats s.world.log n.log aw.leaned (λ m t b base held. stay t b (open_inside s.world base.0.knows t base.2 (h.seats m base.0.knows (known m base.0 base.1)).slot) held)
          id v u at under upholds;
    }
      where
        held : (j t b : ℕ) → slice_get views2 j ≡ Some (Watches t b) → b ≢ 0 → (j ≡ id) ⊎ (j ≢ id) → holds t b n.log ≡ true
        held j t b e some (inl is) = mine t b (same_some u.knows (Watches t b) (sym here ∙ ap (slice_get views2) (sym is) ∙ e)) some
        held j t b e some (inr ne) =
            let f = sym (elsewhere s.views id j u.knows ne) ∙ e in stay t b (watches_open j t b f) (aw.held j t b f some)

        counted : (k : ℕ) (x : Noted T) → slice_get seats2 k ≡ Some x → (k ≡ id) ⊎ (k ≢ id) → x.guards ≡ watching views2 (open_at x.knows)
        counted k x e (inl is) =
            subst (λ (y : Noted T). y.guards ≡ watching views2 (open_at y.knows))
            (same_some u x (sym (there seats id u v at) ∙ ap (slice_get seats2) (sym is) ∙ e)) counted_here
        counted k x e (inr ne) = aw.counted k x (sym (elsewhere seats id k u ne) ∙ e) ∙ sym (many (open_at x.knows))

        opened : (t : ℕ) → (k : ℕ) × (y : SlotView T) × (view_of s k ≡ Some y) × (open_at y ≡ Some t) → watchers t views2 ≢ 0
            → (k : ℕ) × (y : SlotView T) × (slice_get views2 k ≡ Some y) × (open_at y ≡ Some t)
        opened t k some = by (cases_eq k.0 id)
          where
            mine_then : open_at v.knows ≡ Some t → Stays v.guards v.knows u.knows → open_at u.knows ≡ Some t
            mine_then e (inl is) = is ∙ e
            mine_then e (inr (inl none)) = absurd (cc (e, none))
            mine_then e (inr (inr none)) =
                absurd (some (many (Some t) ∙ ap (watching s.views) (sym e) ∙ sym own_counted ∙ none.0))

            by : (k.0 ≡ id) ⊎ (k.0 ≢ id) → (k : ℕ) × (y : SlotView T) × (slice_get views2 k ≡ Some y) × (open_at y ≡ Some t)
            by (inl is) =
                let e : v.knows ≡ k.1 = same_some v.knows k.1 (sym at_view ∙ ap (λ (j : ℕ). view_of s j) (sym is) ∙ k.2) in
                (id, u.knows, here, mine_then (ap open_at e ∙ k.3) stays)
            by (inr ne) = (k.0, k.1, elsewhere s.views id k.0 u.knows ne ∙ k.2, k.3)

  -- ---- one seat more, who watches none, and has no section open
  many_more : (t : ℕ) (l : List (SlotView T)) (x : SlotView T) → is_watching t x ≡ false → watchers t (l ++ x ∷ []) ≡ watchers t l
  many_more t [] x is = let k = ap one is in omega (arith, k)
  many_more t (a ∷ l) x is = let k = many_more t l x is in omega (arith, k)

  pub joins_watched : (x : Noted T) (log : List Effect) → IsOwn x.knows → open_at x.knows ≡ None → x.guards ≡ 0
      → ((t b : ℕ) → holds t b s.world.log ≡ true → holds t b log ≡ true) → AreWatched (seats ++ x ∷ []) (s.views ++ x.knows ∷ []) log
  joins_watched x log own none no_guards stay = record {
    held = λ j t b e some. held j t b some (with_last s.views j x.knows (Watches t b) e);
    counted = λ k y e. counted k y (with_last seats k x y e);
    opened = λ t some. let k = aw.opened t (λ z. some (more (Some t) ∙ z)) in (k.0, k.1, with_more s.views k.0 x.knows k.1 k.2, k.3);
    leaned = joins_leaned seats s.world.log log aw.leaned (λ m t b base held. stay t b held) x own;
  }
    where
      more : (o : Option ℕ) → watching (s.views ++ x.knows ∷ []) o ≡ watching s.views o
      more None = refl
      more (Some t) = many_more t s.views x.knows (own_watches x.knows t own)

      held : (j t b : ℕ) → b ≢ 0 → (slice_get s.views j ≡ Some (Watches t b)) ⊎ ((slice_get s.views j ≡ None) × (x.knows ≡ Watches t b)) → holds t b log ≡ true
      held j t b some (inl e) = stay t b (aw.held j t b e some)
      held j t b some (inr e) = absurd (own_not x.knows t b own e.1)

      counted : (k : ℕ) (y : Noted T) → (slice_get seats k ≡ Some y) ⊎ ((slice_get seats k ≡ None) × (x ≡ y))
          → y.guards ≡ watching (s.views ++ x.knows ∷ []) (open_at y.knows)
      counted k y (inl e) = aw.counted k y e ∙ sym (more (open_at y.knows))
      counted k y (inr e) =
          subst (λ (z : Noted T). z.guards ≡ watching (s.views ++ x.knows ∷ []) (open_at z.knows)) e.1
          (no_guards ∙ ap (watching (s.views ++ x.knows ∷ [])) (sym none))

  -- ---- a meeting
  module _ (i j : ℕ) (v u p q : Noted T) (apart : i ≢ j) (at_i : slice_get seats i ≡ Some v) (at_j : slice_get seats j ≡ Some u)
      (view_i : view_of s i ≡ Some v.knows) (view_j : view_of s j ≡ Some u.knows)
      (known : (k : ℕ) (x : Noted T) → slice_get seats k ≡ Some x → view_of s k ≡ Some x.knows) where
    -- The one may begin to watch the section that the other one has open, or end, who counts one more then, or less; else both stay as they are.
    pub record Counted : Type 0 where
      pub one_guards : p.guards ≡ v.guards
      pub one_open : open_at p.knows ≡ open_at v.knows
      pub other_open : open_at q.knows ≡ open_at u.knows
      pub other_watch : (x : ℕ) → is_watching x q.knows ≡ is_watching x u.knows
      pub beside : (x : ℕ) → open_at u.knows ≢ Some x → is_watching x p.knows ≡ is_watching x v.knows
      pub balance : (t : ℕ) → open_at u.knows ≡ Some t → q.guards + one (is_watching t v.knows) ≡ u.guards + one (is_watching t p.knows)
      pub none : open_at u.knows ≡ None → q.guards ≡ u.guards
      pub one_seen : (x b : ℕ) → p.knows ≡ Watches x b → b ≢ 0 → v.knows ≡ Watches x b
      pub other_seen : (x b : ℕ) → q.knows ≡ Watches x b → b ≢ 0 → u.knows ≡ Watches x b
      pub one_upright : (m : ℕ) → LeansOn p.knows m → ⊥
      pub other_upright : (m : ℕ) → LeansOn q.knows m → ⊥

    module _ (c : Counted) where
      abbrev mid : List (SlotView T)
      mid = slice_set s.views i p.knows

      abbrev views3 : List (SlotView T)
      views3 = slice_set mid j q.knows

      abbrev seats3 : List (Noted T)
      seats3 = slice_set (slice_set seats i p) j q

      mid_j : slice_get mid j ≡ Some u.knows
      mid_j = elsewhere s.views i j p.knows (λ e. apart (sym e)) ∙ view_j

      second : (x : ℕ) → watchers x views3 ≡ watchers x mid
      second x = as_many x mid j u.knows q.knows mid_j (c.other_watch x)

      first : (x : ℕ) → watchers x views3 + one (is_watching x v.knows) ≡ watchers x s.views + one (is_watching x p.knows)
      first x = let k = second x in let m = set_watchers x s.views i v.knows p.knows view_i in omega (arith, k, m)

      -- that of another slot is watched by as many
      others : (x : ℕ) → open_at u.knows ≢ Some x → watchers x views3 ≡ watchers x s.views
      others x ne = let k = first x in let m = ap one (c.beside x ne) in omega (arith, k, m)

      -- a seat that has a section open, and isn't the other one, has another slot
      not_his : (k : ℕ) (y : SlotView T) → k ≢ j → view_of s k ≡ Some y → (t : ℕ) → open_at y ≡ Some t → open_at u.knows ≢ Some t
      not_his k y ne e t is his =
          let a = open_used y t is in let b = open_used u.knows t his in ne (h.apart k j t a.0 b.0 y u.knows e view_j a.1 b.1)

      many3 : (k : ℕ) (y : SlotView T) → k ≢ j → view_of s k ≡ Some y → (o : Option ℕ) → open_at y ≡ o → watching views3 o ≡ watching s.views o
      many3 k y ne e None is = refl
      many3 k y ne e (Some t) is = others t (not_his k y ne e t is)

      counted_i : p.guards ≡ watching views3 (open_at p.knows)
      counted_i =
          c.one_guards ∙ aw.counted i v at_i ∙ sym (many3 i v.knows apart view_i (open_at v.knows) refl) ∙ ap (watching views3) (sym c.one_open)

      counted_j : q.guards ≡ watching views3 (open_at q.knows)
      counted_j = by (open_at u.knows) refl ∙ ap (watching views3) (sym c.other_open)
        where
          by : (o : Option ℕ) → open_at u.knows ≡ o → q.guards ≡ watching views3 (open_at u.knows)
          by None is = c.none is ∙ aw.counted j u at_j ∙ ap (watching s.views) is ∙ ap (watching views3) (sym is)
          by (Some t) is =
              let k = first t in let m = c.balance t is in
              let g : u.guards ≡ watchers t s.views = aw.counted j u at_j ∙ ap (watching s.views) is in
              let z : q.guards ≡ watchers t views3 = omega (arith, k, m, g) in z ∙ ap (watching views3) (sym is)

      -- whose view it is then
      data Then (k : ℕ) (x : SlotView T) : Type 0 where
        AtOne : k ≡ i → p.knows ≡ x → Then k x
        AtOther : k ≡ j → q.knows ≡ x → Then k x
        AtThird : k ≢ i → k ≢ j → view_of s k ≡ Some x → Then k x

      here_j : slice_get views3 j ≡ Some q.knows
      here_j = there mid j q.knows u.knows mid_j

      here_i : slice_get views3 i ≡ Some p.knows
      here_i = elsewhere mid j i q.knows apart ∙ there s.views i p.knows v.knows view_i

      then_at : (k : ℕ) (x : SlotView T) → slice_get views3 k ≡ Some x → Then k x
      then_at k x e = by (cases_eq k j) (cases_eq k i)
        where
          by : (k ≡ j) ⊎ (k ≢ j) → (k ≡ i) ⊎ (k ≢ i) → Then k x
          by (inl is) either = AtOther is (same_some q.knows x (sym here_j ∙ ap (slice_get views3) (sym is) ∙ e))
          by (inr ne) (inl is) = AtOne is (same_some p.knows x (sym here_i ∙ ap (slice_get views3) (sym is) ∙ e))
          by (inr ne) (inr ne2) = AtThird ne2 ne (sym (elsewhere s.views i k p.knows ne2) ∙ sym (elsewhere mid j k q.knows ne) ∙ e)

      pub meets_watched : AreWatched seats3 views3 s.world.log
      meets_watched = record { held = λ k t b e some. held k t b some (then_at k (Watches t b) e); counted = counted; opened = opened; leaned = leaned }
        where
          upright : (x : SlotView T) → ((m : ℕ) → LeansOn x m → ⊥) → (m t b : ℕ) → x ≡ Under m t b → ⊥
          upright x none m t b e = none m (subst (λ (y : SlotView T). LeansOn y m) (sym e) (λ k. m))

          leaned : AreLeaned seats3 s.world.log
          leaned =
              let first = steps_leaned seats s.world.log s.world.log aw.leaned (λ m t b base held. held) i v p at_i
              (λ m t b e. absurd (upright p.knows c.one_upright m t b e)) (inl c.one_open) in
              steps_leaned (slice_set seats i p) s.world.log s.world.log first (λ m t b base held. held) j u q (elsewhere seats i j p (λ z. apart (sym z)) ∙ at_j)
              (λ m t b e. absurd (upright q.knows c.other_upright m t b e)) (inl c.other_open)

          held : (k t b : ℕ) → b ≢ 0 → Then k (Watches t b) → holds t b s.world.log ≡ true
          held k t b some (AtOne is e) = aw.held i t b (view_i ∙ ap Some (c.one_seen t b e some)) some
          held k t b some (AtOther is e) = aw.held j t b (view_j ∙ ap Some (c.other_seen t b e some)) some
          held k t b some (AtThird ne ne2 e) = aw.held k t b e some

          counted : (k : ℕ) (x : Noted T) → slice_get seats3 k ≡ Some x → x.guards ≡ watching views3 (open_at x.knows)
          counted k x e = by (cases_eq k j) (cases_eq k i)
            where
              so : Noted T → Type 0
              so y = y.guards ≡ watching views3 (open_at y.knows)

              seat_j : slice_get (slice_set seats i p) j ≡ Some u
              seat_j = elsewhere seats i j p (λ z. apart (sym z)) ∙ at_j

              by : (k ≡ j) ⊎ (k ≢ j) → (k ≡ i) ⊎ (k ≢ i) → so x
              by (inl is) either =
                  subst so (same_some q x (sym (there (slice_set seats i p) j q u seat_j) ∙ ap (slice_get seats3) (sym is) ∙ e)) counted_j
              by (inr ne) (inl is) =
                  subst so (same_some p x (sym (elsewhere (slice_set seats i p) j i q apart ∙ there seats i p v at_i) ∙ ap (slice_get seats3) (sym is) ∙ e)) counted_i
              by (inr ne) (inr ne2) =
                  let f = sym (elsewhere seats i k p ne2) ∙ sym (elsewhere (slice_set seats i p) j k q ne) ∙ e in
                  aw.counted k x f ∙ sym (many3 k x.knows ne (known k x f) (open_at x.knows) refl)

          opened : (t : ℕ) → watchers t views3 ≢ 0 → (k : ℕ) × (y : SlotView T) × (slice_get views3 k ≡ Some y) × (open_at y ≡ Some t)
          opened t some = by (open_cases (open_at u.knows) t)
            where
              open_cases : (o : Option ℕ) (t : ℕ) → (o ≡ Some t) ⊎ (o ≢ Some t)
              open_cases None t = inr (λ e. cc e)
              open_cases (Some a) t = elim (cases_eq a t) as (λ _. (Some a ≡ Some t) ⊎ (Some a ≢ Some t)) [
                | inl e ↦ inl (ap Some e)
                | inr ne ↦ inr (λ e. ne (same_some a t e))
              ]

              at_place : (k : ℕ) (y : SlotView T) → view_of s k ≡ Some y → open_at y ≡ Some t → (k ≡ j) ⊎ (k ≢ j) → (k ≡ i) ⊎ (k ≢ i)
                  → (k : ℕ) × (y : SlotView T) × (slice_get views3 k ≡ Some y) × (open_at y ≡ Some t)
              at_place k y e is (inl here) either =
                  let f : u.knows ≡ y = same_some u.knows y (sym view_j ∙ ap (λ (n : ℕ). view_of s n) (sym here) ∙ e) in
                  (j, q.knows, here_j, c.other_open ∙ ap open_at f ∙ is)
              at_place k y e is (inr ne) (inl here) =
                  let f : v.knows ≡ y = same_some v.knows y (sym view_i ∙ ap (λ (n : ℕ). view_of s n) (sym here) ∙ e) in
                  (i, p.knows, here_i, c.one_open ∙ ap open_at f ∙ is)
              at_place k y e is (inr ne) (inr ne2) =
                  (k, y, elsewhere mid j k q.knows ne ∙ elsewhere s.views i k p.knows ne2 ∙ e, is)

              by : (open_at u.knows ≡ Some t) ⊎ (open_at u.knows ≢ Some t)
                  → (k : ℕ) × (y : SlotView T) × (slice_get views3 k ≡ Some y) × (open_at y ≡ Some t)
              by (inl is) = (j, q.knows, here_j, c.other_open ∙ is)
              by (inr ne) =
                  let k = aw.opened t (λ z. some (others t ne ∙ z)) in at_place k.0 k.1 k.2 k.3 (cases_eq k.0 j) (cases_eq k.0 i)
