-- What a turn of a row asks for: by what the seat knows, it is next; and what the row is then.
use Rattle.std.specs.Prelude.{◌<◌, Option, Some, None, nat_lt}
use Rattle.std.proofs.Common.{◌≡◌, ℕ, true, ◌⊎◌, inl, inr, refl, sym, subst, ap, ◌∙◌, arith}
use Rattle.seize_words.specs.OneMemory.Op.{Swap, Found}
use Rattle.seize_words.specs.OneMemory.Word.{link_to}
use Rattle.seize_words.specs.declared.at.At.TheVariants.{Slot}
use Rattle.seize.specs.declared.states.TheConstants.{HEAD, ACTIVE}
use Rattle.seize.specs.declared.rows.settle.Settle.{Settle}
use Rattle.seize.specs.Settle.{retiring, flushing, counting_down}
use Rattle.seize_seats.specs.Seats.State.{State}
use Rattle.seize_seats.specs.Seats.Errands.{Away, MayLean, TurnsUnlent}
use Rattle.seize_views.specs.Views.Begun.{leaving, refreshes, forgetting, left_with, IsBegun, Retires, Flushes, Makes}
use Rattle.seize_views.specs.Views.Content.{RowsTurnIn, SettlingsBeginIn, LeansByTheRest, Turned}
use Rattle.seize_views.specs.Views.Notes.{noted}
use Rattle.seize_views.specs.Views.Promises.{IsLooking, IsNext, IsFree, IsToSettle}
use Rattle.seize_views.specs.Views.Told.{list_taken, told}
use Rattle.seize_views.specs.Views.Watched.{open_at, IsOfRows, Stays}
use Rattle.seize_views.specs.declared.view.Noted.{Noted}
use Rattle.seize_views.specs.declared.view.Began.{Began}
use Rattle.seize_views.specs.declared.view.SlotView.{SlotView}
use Rattle.seize_views.specs.declared.view.Becomes.{Becomes}
use Rattle.seize_views.specs.declared.view.Becomes.TheVariants.{Idle, Active}
use Rattle.seize_views.specs.declared.view.SlotView.TheVariants.{Rests, Registers, Outside, Owes, Enters, Inside, Settles, Leaves, Left, Frees}
use Rattle.seize_views.specs.declared.view.Has.{Has}
use Rattle.seize_views.specs.declared.view.Has.TheVariants.{Nothing, Seen, Cut}
use Rattle.seize_views.specs.declared.view.Why.TheVariants.{Retiring, Ending}
use Rattle.seize_views.specs.declared.view.Fixed.{Fixed}
use Rattle.seize_callers.specs.Made.{IsSettling, Task, task_of}

-- where a section ends nobody watches it
abbrev pub MayEnd : {T : Type 0} → ℕ → SlotView T → SlotView T → Type 0
MayEnd guards (Inside t has) u = (guards ≡ 0) ⊎ (open_at u ≡ Some t)
MayEnd guards w u = Unit {0}

left_rows : (T : Type 0) (way : Becomes) (t : ℕ) → IsOfRows {T = T} (left_with way t)
left_rows T Idle t = tt
left_rows T Active t = tt

module _ {T : Type 0} (fixed : Fixed) (guards : ℕ) where
  -- a turn ends no section that is watched
  free_stays : (t : ℕ) (has : Has T) (u : SlotView T) → IsFree fixed t u → MayEnd guards (Inside t has) u → Stays guards (Inside t has) u
  free_stays t has u (inl (way, e)) (inl none) = inr (inr (none, ap open_at e))
  free_stays t has u (inl (way, e)) (inr o) = inl o
  free_stays t has u (inr e) may = inl (ap open_at e)

  next_stays : (w u : SlotView T) → IsNext fixed w u → MayEnd guards w u → Stays guards w u
  next_stays Rests u e may = inr (inl refl)
  next_stays (Outside t) u e may = inr (inl refl)
  next_stays (Inside t Nothing) u e may = free_stays t Nothing u e may
  next_stays (Inside t (Seen b)) u e may = free_stays t (Seen b) u e may
  next_stays (Settles c (Retiring Active) seen left) u e may = inl (ap open_at e.1)
  next_stays (Settles c (Retiring Idle) seen left) u e may = inr (inl refl)
  next_stays (Settles c (Ending size way) seen left) u e may = inr (inl refl)
  next_stays (Left t size way) u e may = inr (inl refl)
  next_stays _ u e may = absurd e

  -- then it has a row under way, or nothing
  rows_as : (u x : SlotView T) → u ≡ x → IsOfRows x → IsOfRows u
  rows_as u x e rows = subst IsOfRows (sym e) rows

  free_rows : (t : ℕ) (u : SlotView T) → IsFree fixed t u → IsOfRows u
  free_rows t u (inl (way, e)) = rows_as u (Leaves t fixed.batch_size way) e tt
  free_rows t u (inr e) = rows_as u (Inside t Nothing) e tt

  next_rows : (w u : SlotView T) → IsNext fixed w u → IsOfRows u
  next_rows Rests u e = rows_as u (Registers _) e tt
  next_rows (Outside t) u (inl e) = rows_as u (Enters t) e tt
  next_rows (Outside t) u (inr e) = rows_as u (Frees t) e tt
  next_rows (Inside t Nothing) u e = free_rows t u e
  next_rows (Inside t (Seen b)) u e = free_rows t u e
  next_rows (Settles c (Retiring way) seen left) u e = rows_as u (left_with way c.slot) e.1 (left_rows T way c.slot)
  next_rows (Settles c (Ending size way) seen left) u e = rows_as u (Left c.slot size way) e.1 tt
  next_rows (Left t size way) u e = rows_as u (left_with way t) e (left_rows T way t)
  next_rows _ u e = absurd e

module _ {T V W B : Type 0} (holds : Fixed → State T V W → Type 0) (keeps : V → V → W → ℕ → Type 0) (notes : V → Noted T) (beside : V → B)
    (leans : V → ℕ → Type 0) where
  abbrev MayTake : Fixed → ℕ → V → (V → Type 0) → Type 0
  MayTake fixed id v so = TurnsUnlent (holds fixed) keeps leans id v so

  -- what a content promises a caller of it may do
  pub may_turn : RowsTurnIn holds keeps notes beside leans → (fixed : Fixed) (id : ℕ) (v : V) (w : SlotView T) → (notes v).knows ≡ w
      → (f : Fixed → SlotView T → SlotView T) (began : Began → Began) → IsNext fixed w (f fixed w) → MayEnd (notes v).guards w (f fixed w)
      → MayTake fixed id v (Turned notes beside (Makes f) began fixed v)
  may_turn law fixed id v w is f began next ends s h at unlent =
      let n = notes v in let u : Noted T = noted (f fixed n.knows) n.did (began n.began) n.guards in
      let so : (x : SlotView T) → Type 0 = λ x. IsNext fixed x (f fixed x) × Stays n.guards x (f fixed x) in
      let k = subst so (sym is) (next, next_stays fixed n.guards w (f fixed w) next ends) in
      let g = law fixed id v u (k.0, k.1, refl, refl) s h at unlent in (
        g.0,
        g.1,
        g.2,
        g.3,
        (
          ap (λ (x : Noted T). x.knows) g.4.0,
          ap (λ (x : Noted T). x.did) g.4.0,
          ap (λ (x : Noted T). x.began) g.4.0,
          ap (λ (x : Noted T). x.guards) g.4.0,
          g.4.1,
        ),
      )

  -- and whom it leans on then it did before
  pub leans_turn : LeansByTheRest leans notes beside → (fixed : Fixed) (e : Away) (v : V) (w : SlotView T) → (notes v).knows ≡ w
      → (f : Fixed → SlotView T → SlotView T) (began : Began → Began) → IsNext fixed w (f fixed w) → MayEnd (notes v).guards w (f fixed w)
      → MayLean leans e v (Turned notes beside (Makes f) began fixed v)
  leans_turn law fixed e v w is f began next ends x so n leaning =
      inl (law v x n (rows_as fixed (notes v).guards (notes x).knows (f fixed w) (so.0 ∙ ap (f fixed) is) (next_rows fixed (notes v).guards w (f fixed w) next)) so.4 leaning)

  module _ (law : SettlingsBeginIn holds keeps notes beside leans) (fixed : Fixed) (id : ℕ) (v : V) (began : Began) where
    may_settle : (w : SlotView T) → (notes v).knows ≡ w → (so : Fixed → SlotView T → SlotView T → Type 0) (way : Becomes) (c : Settle) → IsToSettle fixed w way c
        → ((u : SlotView T) → IsBegun way c u → so fixed w u)
        → MayTake fixed id v (Turned notes beside so (λ _. began) fixed v)
    may_settle w is so way c to tells s h at unlent =
        let g = law fixed id v way c began (subst (λ (x : SlotView T). IsToSettle fixed x way c) (sym is) to) s h at unlent in
        (g.0, g.1, g.2, g.3, (subst (λ (x : SlotView T). so fixed x (notes g.0).knows) (sym is) (tells (notes g.0).knows g.4.0), g.4.1, g.4.2, g.4.3, g.4.4))

    module _ (slot : ℕ) where
      abbrev batch : ℕ
      batch = fixed.batch_size

      pub may_retire : (b : ℕ) → (notes v).knows ≡ Inside slot (Cut b) → MayTake fixed id v (Turned notes beside Retires (λ _. began) fixed v)
      may_retire b is = may_settle (Inside slot (Cut b)) is Retires Active (retiring slot batch (link_to b)) refl (λ u e. e)

      pub may_retire_idle : (b : ℕ) → (notes v).knows ≡ Owes slot b → MayTake fixed id v (Turned notes beside Retires (λ _. began) fixed v)
      may_retire_idle b is = may_settle (Owes slot b) is Retires Idle (retiring slot batch (link_to b)) refl (λ u e. e)

      pub may_flush : (has : Has T) → IsLooking has → (notes v).knows ≡ Inside slot has → MayTake fixed id v (Turned notes beside Flushes (λ _. began) fixed v)
      may_flush Nothing looks is = may_settle (Inside slot Nothing) is Flushes Active (flushing slot batch) refl (λ u e. e)
      may_flush (Seen b) looks is = may_settle (Inside slot (Seen b)) is Flushes Active (flushing slot batch) refl (λ u e. e)
      may_flush _ looks is = absurd looks

      pub may_flush_idle : (notes v).knows ≡ Outside slot → MayTake fixed id v (Turned notes beside Flushes (λ _. began) fixed v)
      may_flush_idle is = may_settle (Outside slot) is Flushes Idle (flushing slot batch) refl (λ u e. e)

  -- as a settling begins, too
  module _ (law : LeansByTheRest leans notes beside) (fixed : Fixed) (e : Away) (v : V) (began : Began) where
    leans_settle : (w : SlotView T) → (notes v).knows ≡ w → (so : Fixed → SlotView T → SlotView T → Type 0) (way : Becomes) (c : Settle)
        → ((u : SlotView T) → so fixed w u → IsBegun way c u) → MayLean leans e v (Turned notes beside so (λ _. began) fixed v)
    leans_settle w is so way c tells x told n leaning =
        let k = tells (notes x).knows (subst (λ (y : SlotView T). so fixed y (notes x).knows) is told.0) in
        inl (law v x n (subst IsOfRows (sym k.1) tt) told.4 leaning)

    module _ (slot : ℕ) where
      pub leans_retire : (b : ℕ) → (notes v).knows ≡ Inside slot (Cut b) → MayLean leans e v (Turned notes beside Retires (λ _. began) fixed v)
      leans_retire b is = leans_settle (Inside slot (Cut b)) is Retires Active (retiring slot fixed.batch_size (link_to b)) (λ u k. k)

      pub leans_retire_idle : (b : ℕ) → (notes v).knows ≡ Owes slot b → MayLean leans e v (Turned notes beside Retires (λ _. began) fixed v)
      leans_retire_idle b is = leans_settle (Owes slot b) is Retires Idle (retiring slot fixed.batch_size (link_to b)) (λ u k. k)

      pub leans_flush : (has : Has T) → IsLooking has → (notes v).knows ≡ Inside slot has → MayLean leans e v (Turned notes beside Flushes (λ _. began) fixed v)
      leans_flush Nothing looks is = leans_settle (Inside slot Nothing) is Flushes Active (flushing slot fixed.batch_size) (λ u k. k)
      leans_flush (Seen b) looks is = leans_settle (Inside slot (Seen b)) is Flushes Active (flushing slot fixed.batch_size) (λ u k. k)
      leans_flush _ looks is = absurd looks

      pub leans_flush_idle : (notes v).knows ≡ Outside slot → MayLean leans e v (Turned notes beside Flushes (λ _. began) fixed v)
      leans_flush_idle is = leans_settle (Outside slot) is Flushes Idle (flushing slot fixed.batch_size) (λ u k. k)

module _ {T : Type 0} (fixed : Fixed) (v u : SlotView T) (slot : ℕ) where
  -- and the row that was made for it has begun then

  begun_by : (way : Becomes) (c row : Settle) → IsBegun way c u → row ≡ c → IsBegun way row u
  begun_by way c row is same = subst (λ (r : Settle). IsBegun way r u) (sym same) is

  pub retires_told : (b : ℕ) (row : Settle) → v ≡ Inside slot (Cut b) → Retires fixed v u → row ≡ retiring slot fixed.batch_size (link_to b)
      → IsBegun Active row u
  retires_told b row is so same =
      begun_by Active (retiring slot fixed.batch_size (link_to b)) row (subst (λ (x : SlotView T). Retires fixed x u) is so) same

  pub retires_idle_told : (b : ℕ) (row : Settle) → v ≡ Owes slot b → Retires fixed v u → row ≡ retiring slot fixed.batch_size (link_to b) → IsBegun Idle row u
  retires_idle_told b row is so same =
      begun_by Idle (retiring slot fixed.batch_size (link_to b)) row (subst (λ (x : SlotView T). Retires fixed x u) is so) same

  flushes_so : (has : Has T) → IsLooking has → Flushes fixed (Inside slot has) u → IsBegun Active (flushing slot fixed.batch_size) u
  flushes_so Nothing looks so = so
  flushes_so (Seen b) looks so = so
  flushes_so _ looks so = absurd looks

  pub flushes_told : (has : Has T) (row : Settle) → IsLooking has → v ≡ Inside slot has → Flushes fixed v u → row ≡ flushing slot fixed.batch_size
      → IsBegun Active row u
  flushes_told has row looks is so same =
      begun_by Active (flushing slot fixed.batch_size) row (flushes_so has looks (subst (λ (x : SlotView T). Flushes fixed x u) is so)) same

  pub flushes_idle_told : (row : Settle) → v ≡ Outside slot → Flushes fixed v u → row ≡ flushing slot fixed.batch_size → IsBegun Idle row u
  flushes_idle_told row is so same = begun_by Idle (flushing slot fixed.batch_size) row (subst (λ (x : SlotView T). Flushes fixed x u) is so) same

-- a settling that has begun is under way
pub settling_row : {T : Type 0} (way : Becomes) (row : Settle) (u : Noted T) → IsBegun way row u.knows → IsSettling (task_of (Retiring way) u) row u
settling_row way row u is = (None, is.0, ap (λ (x : SlotView _). noted x u.did u.began u.guards) is.1)

-- whatever a seat has noted, it has noted what it has
pub own_task : {T : Type 0} (task : Task T) (c : Settle) (v : Noted T) → IsSettling task c v → IsSettling (task_of task.why v) c v
own_task task c v is = (is.0, is.1, ap (λ (u : Noted _). noted u.knows v.did v.began v.guards) is.2)

module _ (T : Type 0) (fixed : Fixed) (slot : ℕ) where
  -- leaving is next where a block was seen, or none is known
  pub leaves_next : (has : Has T) → IsLooking has → IsNext {T = T} fixed (Inside slot has) (leaving fixed (Inside slot has))
  leaves_next Nothing looks = inl (Idle, refl)
  leaves_next (Seen b) looks = inl (Idle, refl)
  leaves_next _ looks = absurd looks

  pub leaves_so : (has : Has T) → IsLooking has → leaving {T = T} fixed (Inside slot has) ≡ Leaves slot fixed.batch_size Idle
  leaves_so Nothing looks = refl
  leaves_so (Seen b) looks = refl
  leaves_so _ looks = absurd looks

  -- and so is refreshing
  pub refreshes_next : (has : Has T) → IsLooking has → IsNext {T = T} fixed (Inside slot has) (refreshes fixed (Inside slot has))
  refreshes_next Nothing looks = inl (Active, refl)
  refreshes_next (Seen b) looks = inl (Active, refl)
  refreshes_next _ looks = absurd looks

  pub refreshes_so : (has : Has T) → IsLooking has → refreshes {T = T} fixed (Inside slot has) ≡ Leaves slot fixed.batch_size Active
  refreshes_so Nothing looks = refl
  refreshes_so (Seen b) looks = refl
  refreshes_so _ looks = absurd looks

  -- and what was seen is let go
  pub forgets_next : (has : Has T) → IsLooking has → IsNext {T = T} fixed (Inside slot has) (forgetting fixed (Inside slot has))
  forgets_next Nothing looks = inr refl
  forgets_next (Seen b) looks = inr refl
  forgets_next _ looks = absurd looks

  pub forgets_so : (has : Has T) → IsLooking has → forgetting {T = T} fixed (Inside slot has) ≡ Inside slot Nothing
  forgets_so Nothing looks = refl
  forgets_so (Seen b) looks = refl
  forgets_so _ looks = absurd looks

-- a list with entries is counted down, and an empty one is settled
is_above : (head : ℕ) → ACTIVE < head → nat_lt ACTIVE head ≡ true
is_above head lt = grind (arith, lt)

pub list_settles : (T : Type 0) (slot size : ℕ) (way : Becomes) (head left : ℕ) → ACTIVE < head
    → list_taken {T = T} slot size way head left ≡ Settles (counting_down slot size head) (Ending size way) None left
list_settles T slot size way head left lt = rw (is_above head lt) refl

module _ {T : Type 0} (defers : T → Option ℕ) (v w : SlotView T) (slot : ℕ) where
  -- what the taking of a list tells
  pub list_told : (size : ℕ) (way : Becomes) (word head : ℕ) → v ≡ Leaves slot size way → told defers v (Swap (Slot slot HEAD) word) (Found head) w
      → (left : ℕ) × (w ≡ list_taken slot size way head left)
  list_told size way word head is so = subst (λ (x : SlotView T). told defers x (Swap (Slot slot HEAD) word) (Found head) w) is so

  -- a list with entries is settled by the row that counts it down
  pub row_told : (size : ℕ) (way : Becomes) (head left : ℕ) (row : Settle) → w ≡ list_taken slot size way head left → ACTIVE < head
      → row ≡ counting_down slot size head → w ≡ Settles row (Ending size way) None left
  row_told size way head left row is lt row_is =
      is ∙ list_settles T slot size way head left lt ∙ ap (λ (c : Settle). Settles c (Ending size way) None left) (sym row_is)
