-- What a seat may do that takes a block out of a root, and puts it behind another one; and what it knows then.
use Rattle.std.specs.Prelude.{◌≢◌, ◌<◌, ◌^◌, ◌%◌, ◌==◌, Option, Some, None, Result, Ok, Err, IfSome, if◌then◌else◌}
use Rattle.std.proofs.Common.{◌≡◌, ℕ, Bool, true, false, ◌⊎◌, inl, inr, refl, sym, subst, ap, ◌∙◌, arith}
use Rattle.std.proofs.lemmas.Bool.{cases_eq, eq-eqb, ne_eqb}
use Rattle.seize_words.specs.OneMemory.Op.{Op, Load, Store, Swap, Exchange, Found, Stored, Exchanged}
use Rattle.seize_words.specs.OneMemory.Word.{block_in, link_to}
use Rattle.seize_words.specs.declared.at.At.TheVariants.{Root, Entry, Word}
use Rattle.seize.specs.Defer.{deferring, standing}
use Rattle.seize.specs.declared.rows.defer.Defer.{Defer}
use Rattle.seize.specs.declared.rows.defer.Deferring.TheVariants.{Links, Pushes, Over}
use Rattle.seize.specs.declared.states.TheConstants.{NEXT}
use Rattle.seize_seats.specs.Seats.Errands.{TurnsUnlent}
use Rattle.seize_seats.specs.Seats.Lendings.{VisibleTo, IsValueOf}
use Rattle.seize_seats.specs.Seats.State.{Allows}
use Rattle.seize_shared.specs.Guards.Deeds.{has_taken}
use Rattle.seize_shared.specs.OnThreads.Standing.{standing as stands_so}
use Rattle.seize_shared.proofs.OnThreads.Standing.{is_inside}
use Rattle.seize_views.specs.Views.Deferring.{IsTaking, IsPutting, LinksSo, NotedTaking, NotedPutting, cutting, returning}
use Rattle.seize_views.specs.Views.Notes.{NotedHolds, NotedKeeps, noted_observed, SameNotes, deed, written_at}
use Rattle.seize_views.specs.Views.Promises.{IsLooking}
use Rattle.seize_views.specs.Views.Rows.{IsQuiescent, TurnsTo, Holds}
use Rattle.seize_views.specs.Views.Stacking.{GoesItsWay}
use Rattle.seize_views.specs.Views.Told.{made_beside, parted_in, seen_as, told}
use Rattle.seize_views.specs.Views.Watched.{Leans, IsOwn, open_at}
use Rattle.seize_views.specs.declared.view.Began.TheVariants as began
use Rattle.seize_views.specs.declared.view.Deed.{Deed}
use Rattle.seize_views.specs.declared.view.Deed.TheVariants.{Wrote}
use Rattle.seize_views.specs.declared.view.Deferral.TheVariants.{Takes, Parts, Puts}
use Rattle.seize_views.specs.declared.view.Fixed.{Fixed}
use Rattle.seize_views.specs.declared.view.Has.{Has}
use Rattle.seize_views.specs.declared.view.Has.TheVariants.{Nothing, Seen, Both, Cut}
use Rattle.seize_views.specs.declared.view.Noted.{Noted}
use Rattle.seize_views.specs.declared.view.SlotView.{SlotView}
use Rattle.seize_views.specs.declared.view.SlotView.TheVariants.{Inside, Defers}
use Rattle.seize_views.proofs.Views.Deferring.{takings_begin, blocks_are_taken_out, parted_are_shown, parted_are_cut, parted_are_deferred, deferrals_go_on, deferrals_end}
use Rattle.seize_views.proofs.Views.Notes.{looks_are_noted, turns, turns_are_noted}
use Rattle.seize_views.proofs.Views.Written.{block_of_link}
use Rattle.seize_callers.proofs.Calls.{by_view, whole_link}
use Rattle.seize_guards.specs.Behind.{beside, value_made, putting, IsCome}
use Rattle.seize_guards.specs.declared.deferring.Came.{Came}
use Rattle.seize_guards.specs.declared.deferring.Came.TheVariants.{Nobody, Waits, Unlinks}
use Rattle.seize_words.proofs.General.{same_some}

-- ---- what it knows
module _ {T : Type 0} (slot a : ℕ) where
  -- that it turned to take one out, by the block that it has made, if any
  taking : (made : Option (ℕ × T)) (u : SlotView T) → IsTaking (Inside slot (beside made a)) u → (y : T) × (u ≡ Defers slot (Takes a y made))
  taking None u is = is
  taking (Some made) u is = is

  pub taking_of : (made : Option (ℕ × T)) (v u : SlotView T) → v ≡ Inside slot (beside made a) → IsTaking v u → (y : T) × (u ≡ Defers slot (Takes a y made))
  taking_of made v u is so = taking made u (subst (λ (x : SlotView T). IsTaking x u) is so)

  taking_own : (made : Option (ℕ × T)) (u : SlotView T) → IsTaking (Inside slot (beside made a)) u → IsOwn u × (open_at u ≡ Some slot)
  taking_own made u is = let k = taking made u is in (subst IsOwn (sym k.1) tt, ap open_at k.1)

module _ {T : Type 0} (defers : T → Option ℕ) (fixed : Fixed) (id : ℕ) (v : Noted T) where
  abbrev MayMake : Op T → Type 0
  MayMake op = Allows (NotedHolds defers fixed) NotedKeeps id v op (noted_observed defers v op)

  abbrev MayTurn : (Noted T → Type 0) → Type 0
  MayTurn so = TurnsUnlent (NotedHolds defers fixed) NotedKeeps Leans id v so

  -- a turn to just this view
  turns_to : (x u : SlotView T) (f : SlotView T → SlotView T) → v.knows ≡ x → f x ≡ u → IsOwn x → IsOwn u → open_at u ≡ open_at x → TurnsTo defers fixed id x (λ y. y ≡ u)
      → MayTurn (GoesItsWay f v)
  turns_to x u f is to own own2 stays may s h at unlent =
      let g = turns_are_noted T defers fixed id v u v.did v.began (subst IsOwn (sym is) own) own2 (inl (stays ∙ ap open_at (sym is)))
      (subst (λ (y : SlotView T). TurnsTo defers fixed id y (λ z. z ≡ u)) (sym is) may) s h at unlent in
      (g.0, g.1, g.2, g.3, (g.4.0 ∙ sym (ap f is ∙ to), (g.4.1, g.4.2, g.4.3)))

  module _ (slot a : ℕ) where
    has_seen : (made : Option (ℕ × T)) → TurnsTo defers fixed id (Inside slot (beside made a)) (IsTaking (Inside slot (beside made a)))
    has_seen None = takings_begin T defers fixed id (Inside slot (Seen a)) tt
    has_seen (Some made) = takings_begin T defers fixed id (Inside slot (Both made.0 made.1 a)) tt

    pub may_turn_to_take : (made : Option (ℕ × T)) → v.knows ≡ Inside slot (beside made a) → MayTurn (NotedTaking v)
    may_turn_to_take made is s h at unlent =
        let so : SlotView T → Type 0 = IsTaking (Inside slot (beside made a)) in
        let g = turns defers fixed id v so v.did v.began (subst IsOwn (sym is) tt) (λ u k. (taking_own slot a made u k).0)
        (λ u k. inl ((taking_own slot a made u k).1 ∙ sym (ap open_at is))) (subst (λ (x : SlotView T). TurnsTo defers fixed id x so) (sym is) (has_seen made)) s h at unlent in
        (g.0, g.1, g.2, g.3, (subst (λ (x : SlotView T). IsTaking x g.0.knows) (sym is) g.4.0, (g.4.1, g.4.2, g.4.3)))

    pub may_take_out : (y : T) (made : Option (ℕ × T)) (root word : ℕ) → v.knows ≡ Defers slot (Takes a y made) → LinksSo made word → root < fixed.roots
        → MayMake (Swap (Root root) word)
    may_take_out y made root word is links lt =
        by_view defers fixed id v (Defers slot (Takes a y made)) (Swap (Root root) word) is tt (blocks_are_taken_out T defers fixed slot a y made root word links lt id)

    module _ (b : ℕ) where
      abbrev HasParted : T → T → Type 0
      HasParted y x = v.knows ≡ Defers slot (Parts a y b x)

      pub first_shown : (y x : T) → HasParted y x → VisibleTo (NotedHolds defers fixed) id v a
      first_shown y x is =
          (looks_are_noted T defers fixed id v a).0
          (subst (λ (u : SlotView T). VisibleTo (Holds defers fixed) id u a) (sym is) (parted_are_shown T defers fixed id slot a b y x).0.0)

      pub second_shown : (y x : T) → HasParted y x → VisibleTo (NotedHolds defers fixed) id v b
      second_shown y x is =
          (looks_are_noted T defers fixed id v b).0
          (subst (λ (u : SlotView T). VisibleTo (Holds defers fixed) id u b) (sym is) (parted_are_shown T defers fixed id slot a b y x).1.0)

      pub first_value : (y x z : T) → HasParted y x → IsValueOf (NotedHolds defers fixed) id v a z → z ≡ y
      first_value y x z is of =
          (parted_are_shown T defers fixed id slot a b y x).0.1 z
          (subst (λ (u : SlotView T). IsValueOf (Holds defers fixed) id u a z) is ((looks_are_noted T defers fixed id v a).1 z of))

      pub second_value : (y x z : T) → HasParted y x → IsValueOf (NotedHolds defers fixed) id v b z → z ≡ x
      second_value y x z is of =
          (parted_are_shown T defers fixed id slot a b y x).1.1 z
          (subst (λ (u : SlotView T). IsValueOf (Holds defers fixed) id u b z) is ((looks_are_noted T defers fixed id v b).1 z of))

      -- where its list begins, if it keeps one, and the other one keeps none
      pub keeps_if : (o : Option ℕ) (z u : T) → o ≡ defers z → defers u ≡ None → IsValueOf (NotedHolds defers fixed) id v a z → IsValueOf (NotedHolds defers fixed) id v b u
          → IfSome o (λ field. (y x : T) → HasParted y x → (defers y ≡ Some field) × (defers x ≡ None))
      keeps_if None z u keeps none first second = tt
      keeps_if (Some field) z u keeps none first second = λ y x is.
          (ap defers (sym (first_value y x z is first)) ∙ sym keeps, ap defers (sym (second_value y x u is second)) ∙ none)

      pub may_unlink : (y x : T) → HasParted y x → MayTurn (GoesItsWay cutting v)
      may_unlink y x is = turns_to (Defers slot (Parts a y b x)) (Inside slot (Cut b)) cutting is refl tt tt refl (parted_are_cut T defers fixed id slot a b y x)

      pub may_begin : (field : ℕ) (y x : T) → HasParted y x → defers y ≡ Some field → defers x ≡ None → MayTurn (NotedPutting defers v)
      may_begin field y x is keeps none s h at unlent =
          let u : SlotView T = Defers slot (Puts a (deferring (link_to b) (Word a field))) in
          let may = subst (λ (z : SlotView T). TurnsTo defers fixed id z (λ k. k ≡ u)) (sym is) (parted_are_deferred T defers fixed id slot a b field y x keeps none) in
          let g = turns_are_noted T defers fixed id v u v.did began.Deferral (subst IsOwn (sym is) tt) tt (inl (ap open_at (sym is))) may s h at unlent in
          (g.0, g.1, g.2, g.3, (subst (λ (z : SlotView T). IsPutting defers z g.0.knows) (sym is) (field, keeps, g.4.0), g.4.1, g.4.2, g.4.3))

      module _ (field : ℕ) where
        abbrev c : Defer
        c = deferring (link_to b) (Word a field)

        pub may_read : v.knows ≡ Defers slot (Puts a c) → MayMake (Load (Word a field))
        may_read is = by_view defers fixed id v (Defers slot (Puts a c)) (Load (Word a field)) is tt (deferrals_go_on T defers fixed slot a c (Load (Word a field)) refl id)

        pub may_link : (head : ℕ) → v.knows ≡ putting slot a field b (Links head) → MayMake (Store (Entry b NEXT) head)
        may_link head is =
            subst (λ (k : ℕ). MayMake (Store (Entry k NEXT) head)) (block_of_link b)
            (by_view defers fixed id v (putting slot a field b (Links head)) (Store (Entry (block_in (link_to b)) NEXT) head) is tt
            (deferrals_go_on T defers fixed slot a (standing c (Links head)) (Store (Entry (block_in (link_to b)) NEXT) head) refl id))

        pub may_push : (head word : ℕ) → v.knows ≡ putting slot a field b (Pushes head) → word ≡ link_to b % 2 ^ 64 → b < 2 ^ 53 → MayMake (Exchange (Word a field) head word)
        may_push head word is link lt =
            subst (λ (k : ℕ). MayMake (Exchange (Word a field) head k)) (sym (link ∙ whole_link b lt))
            (by_view defers fixed id v (putting slot a field b (Pushes head)) (Exchange (Word a field) head (link_to b)) is tt
            (deferrals_go_on T defers fixed slot a (standing c (Pushes head)) (Exchange (Word a field) head (link_to b)) refl id))

        pub may_end : v.knows ≡ putting slot a field b Over → MayTurn (GoesItsWay returning v)
        may_end is = turns_to (putting slot a field b Over) (Inside slot (Seen a)) returning is refl tt tt refl (deferrals_end T defers fixed id slot a (standing c Over) refl)

-- the row has begun then
pub putting_of : {T : Type 0} (defers : T → Option ℕ) (v u : SlotView T) (slot a b field : ℕ) (y x : T) → v ≡ Defers slot (Parts a y b x) → defers y ≡ Some field → IsPutting defers v u
    → u ≡ Defers slot (Puts a (deferring (link_to b) (Word a field)))
putting_of {T} defers v u slot a b field y x is keeps so =
    let k = subst (λ (z : SlotView T). IsPutting defers z u) is so in
    k.2 ∙ ap (λ (f : ℕ). Defers slot (Puts a (deferring (link_to b) (Word a f)))) (same_some k.0 field (sym k.1 ∙ keeps))

-- ---- what an operation tells it
module _ {T : Type 0} (defers : T → Option ℕ) (v w : SlotView T) (slot a : ℕ) where
  pub taken_out : (y : T) (made : Option (ℕ × T)) (root word old : ℕ) → v ≡ Defers slot (Takes a y made) → told defers v (Swap (Root root) word) (Found old) w
      → (x : T) × (w ≡ parted_in slot a y x old)
  taken_out y made root word old is so = subst (λ (z : SlotView T). told defers z (Swap (Root root) word) (Found old) w) is so

  module _ (b field : ℕ) where
    abbrev row : Defer
    row = deferring (link_to b) (Word a field)

    pub head_told : (head : ℕ) → v ≡ Defers slot (Puts a row) → told defers v (Load (Word a field)) (Found head) w → w ≡ putting slot a field b (Links head)
    head_told head is so =
        let k = subst (λ (z : SlotView T). told defers z (Load (Word a field)) (Found head) w) is so in k.2 ∙ ap (λ (e : Defer × _). Defers slot (Puts a e.0)) k.1.3

    pub linked_told : (head : ℕ) → v ≡ putting slot a field b (Links head) → told defers v (Store (Entry b NEXT) head) Stored w → w ≡ putting slot a field b (Pushes head)
    linked_told head is so =
        let k = subst (λ (z : SlotView T). told defers z (Store (Entry b NEXT) head) Stored w) is so in k.2 ∙ ap (λ (e : Defer × _). Defers slot (Puts a e.0)) k.1.3

    pub pushed_told : (head word : ℕ) (r : Result ℕ ℕ) (was : ℕ) → r ≡ Ok was → v ≡ putting slot a field b (Pushes head) → told defers v (Exchange (Word a field) head word) (Exchanged r) w
        → w ≡ putting slot a field b Over
    pushed_told head word r was came is so =
        let k = subst (λ (q : Result ℕ ℕ). told defers (putting slot a field b (Pushes head)) (Exchange (Word a field) head word) (Exchanged q) w) came
        (subst (λ (z : SlotView T). told defers z (Exchange (Word a field) head word) (Exchanged r) w) is so) in k.2 ∙ ap (λ (e : Defer × _). Defers slot (Puts a e.0)) k.1.3

    pub changed_told : (head word : ℕ) (r : Result ℕ ℕ) (now : ℕ) → r ≡ Err now → v ≡ putting slot a field b (Pushes head)
        → told defers v (Exchange (Word a field) head word) (Exchanged r) w → w ≡ putting slot a field b (Links now)
    changed_told head word r now came is so =
        let k = subst (λ (q : Result ℕ ℕ). told defers (putting slot a field b (Pushes head)) (Exchange (Word a field) head word) (Exchanged q) w) came
        (subst (λ (z : SlotView T). told defers z (Exchange (Word a field) head word) (Exchanged r) w) is so) in k.2 ∙ ap (λ (e : Defer × _). Defers slot (Puts a e.0)) k.1.3

-- what it has done at the root
module _ {T : Type 0} (v : SlotView T) (did d : Deed T) (slot a root word old : ℕ) where
  pub taken_noted : (y : T) (made : Option (ℕ × T)) → v ≡ Defers slot (Takes a y made) → d ≡ deed v did (Swap (Root root) word) (Found old) → d ≡ Wrote root word (value_made made) old
  taken_noted y made is so = so ∙ ap (λ (u : SlotView T). deed u did (Swap (Root root) word) (Found old)) is

-- which is nothing while the row is under way
module _ {T : Type 0} (v u w : Noted T) (slot a field b head word : ℕ) (r : Result ℕ ℕ) where
  pub noted_still : v.knows ≡ putting slot a field b (Links head) → u.knows ≡ putting slot a field b (Pushes head)
      → (u.did ≡ deed v.knows v.did (Store (Entry b NEXT) head) Stored) × (u.began ≡ v.began) × (u.guards ≡ v.guards)
      → (w.did ≡ deed u.knows u.did (Exchange (Word a field) head word) (Exchanged r)) × (w.began ≡ u.began) × (w.guards ≡ u.guards) → SameNotes v w
  noted_still is now one two = (
    two.0 ∙ ap (λ (k : SlotView T). deed k u.did (Exchange (Word a field) head word) (Exchanged r)) now ∙ one.0 ∙ ap (λ (k : SlotView T). deed k v.did (Store (Entry b NEXT) head) Stored) is,
    two.1 ∙ one.1,
    two.2 ∙ one.2,
  )

-- ---- where it was none, and where it was one
module _ {T : Type 0} (slot a : ℕ) (y x : T) (old : ℕ) where
  pub parted_none : block_in old ≡ 0 → parted_in {T = T} slot a y x old ≡ Inside slot (Seen a)
  parted_none none = rw (eq-eqb (block_in old) 0 none) refl

  pub parted_one : (b : ℕ) → b ≡ block_in old → b ≢ 0 → parted_in slot a y x old ≡ Defers slot (Parts a y b x)
  parted_one b is some =
      rw (ne_eqb (block_in old) 0 (λ e. some (is ∙ e))) (ap (λ (k : ℕ). Defers slot (Parts a y k x)) (sym is))

module _ {T : Type 0} (slot a b : ℕ) (w : Noted T) where
  -- it rests
  pub come_rests : (came : Came) → IsCome slot a b w came → IsQuiescent w.knows
  come_rests Nobody is = subst IsQuiescent (sym is.0) tt
  come_rests Waits is = subst IsQuiescent (sym is.0) tt
  come_rests (Unlinks c) is = subst IsQuiescent (sym is.0) tt

third : (p q : ℕ × Bool × ℕ) → Some p ≡ Some q → p.2 ≡ q.2
third p q e = ap (λ (x : ℕ × Bool × ℕ). x.2) (same_some p q e)

-- ---- who stands so
abbrev stood : ℕ → ℕ → Option (ℕ × Bool × ℕ)
stood t n = Some (t, true, n)

module _ {T : Type 0} (t k : ℕ) where
  seen_of : (has : Has T) → IsLooking has → stands_so (Inside t has) ≡ Some (t, true, k) → k ≢ 0 → Inside t has ≡ Inside t (Seen k)
  seen_of Nothing looks e some = absurd (some (sym (third (t, true, 0) (t, true, k) e)))
  seen_of (Seen b) looks e some = by (b == 0) e
    where
      by : (y : Bool) → (if y then None else stood t b) ≡ stood t k → ◌≡◌ {A = SlotView T} (Inside t (Seen b)) (Inside t (Seen k))
      by true f = absurd (cc f)
      by false f = ap (λ (n : ℕ). Inside t (Seen n)) (third (t, true, b) (t, true, k) f)
  seen_of _ looks e some = absurd looks

  pub stands_seen : (v : SlotView T) → stands_so v ≡ Some (t, true, k) → k ≢ 0 → v ≡ Inside t (Seen k)
  stands_seen v e some = let i = is_inside t k v e in i.2 ∙ seen_of i.0 i.1 (ap stands_so (sym i.2) ∙ e) some

-- what was made beside a block that was seen
pub made_seen : {T : Type 0} (b : ℕ) (x : T) (a : ℕ) → a ≢ 0 → made_beside b x a ≡ Both b x a
made_seen b x a some = rw (ne_eqb a 0 some) refl

pub seen_some : (T : Type 0) (a : ℕ) → a ≢ 0 → ◌≡◌ {A = Has T} (Seen a) (seen_as a)
seen_some T a some = rw (ne_eqb a 0 some) refl

-- ---- what was done at a root, if a block was there
module _ {T : Type 0} (d : Deed T) (root old : ℕ) where
  pub took : d ≡ Wrote root 0 None old → block_in old ≢ 0 → has_taken d ≡ Some root
  took is some = ap has_taken is ∙ rw (ne_eqb (block_in old) 0 some) refl

  pub took_or_none : d ≡ Wrote root 0 None old → (has_taken d ≡ Some root) ⊎ (written_at d ≡ Some (root, None, 0))
  took_or_none is = elim (cases_eq (block_in old) 0) as (λ _. (has_taken d ≡ Some root) ⊎ (written_at d ≡ Some (root, None, 0))) [
    | inl none ↦ inr (ap written_at is ∙ ap (λ (k : ℕ). Some (root, None, k)) none)
    | inr some ↦ inl (took is some)
  ]
