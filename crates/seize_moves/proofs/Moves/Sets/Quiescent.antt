-- Where no call is under way and no slot is active, what is retired and not reclaimed waits in the open batches of slots.
use Rattle.std.proofs.Common.{◌≡◌, ℕ, ◌<◌, true, false, [], refl, arith}
use Rattle.seize.specs.Law.{is_retired}
use Rattle.seize_moves.specs.Waiting.Held.{count}
use Rattle.seize_moves.proofs.Moves.State.Ghost.{State, Debt, Unscanned, Marked, Gone, Skipped, Owing, Loose, Counted, Stage, Unused, Open, Closing, Closed, Dead, Life, IsFree, IsOwned, IsLinked, IsUnlinked, IsDeferring, IsDeferred, IsPending, IsIn, IsDoomed, IsLeft, is_active, owes}
use Rattle.seize_moves.proofs.Moves.Sets.Shown.{is_shut}
use Rattle.seize_moves.proofs.Moves.State.Rule.{Inv, Pending}
use Rattle.seize_moves.proofs.Moves.State.Sums.{total_some}

-- a row with nothing in its hands
pub record IsIdle (m : State) (i : ℕ) : Type 0 where
  pub loose : m.loose i ≡ []
  pub left : m.left i ≡ []
  pub pending : m.pending i ≡ []
  pub puts : m.puts i ≡ []
  pub closing : m.closing i ≡ 0

pub record IsQuiescent (m : State) : Type 0 where
  pub rows : (i : ℕ) → IsIdle m i
  pub slots : (t : ℕ) → is_active (m.head t) ≡ false

abbrev pub WaitsInOpen : ℕ → State → ℕ → Type 0
WaitsInOpen n m b = (s : ℕ) × (s < n) × (0 < count b (m.blocks (m.open_batch s)))

-- nobody owes a batch anything
none_owes : (n x t : ℕ) (m : State) → Inv n m → IsQuiescent m → owes (m.debt x t) ≡ 0
none_owes n x t m inv q = one (m.debt x t) refl
  where
    one : (d : Debt) → m.debt x t ≡ d → owes d ≡ 0
    one Unscanned e = refl
    one Marked e = refl
    one Gone e = refl
    one Skipped e = refl
    one Owing e = absurd (grind (arith, inv.debts.listed x t, q.slots t))
    one (Loose i) e = absurd (grind (arith, inv.debts.loosed x t i, (q.rows i).loose))
    one Counted e = refl

in_batch : (n b x : ℕ) (m : State) → Inv n m → Pending m.stage m.counter → IsQuiescent m → m.life b ≡ IsIn x → (y : Stage) → m.stage x ≡ y → WaitsInOpen n m b
in_batch n b x m inv p q e Unused h = absurd (grind (arith, inv.places.housed b x e))
in_batch n b x m inv p q e Dead h = absurd (grind (arith, inv.places.housed b x e))
in_batch n b x m inv p q e (Open s) h = (s, inv.batches.below s x h, grind (arith, inv.batches.sole s x h, inv.places.boxed x b))
in_batch n b x m inv p q e (Closing i) h = absurd (grind (arith, inv.batches.shut i x h, (q.rows i).closing))
in_batch n b x m inv p q e Closed h = absurd (owed (total_some owes (m.debt x) n (grind (arith, inv.batches.tally x, p x h))))
  where
    owed : ((t : ℕ) × (t < n) × (0 < owes (m.debt x t))) → ⊥
    owed (t, l, o) = grind (arith, none_owes n x t m inv q)

-- and no batch is closed
pub none_shut : (n x : ℕ) (m : State) → Inv n m → Pending m.stage m.counter → IsQuiescent m → is_shut (m.stage x) ≡ 0
none_shut n x m inv p q = one (m.stage x) refl
  where
    owed : ((t : ℕ) × (t < n) × (0 < owes (m.debt x t))) → ⊥
    owed (t, l, o) = grind (arith, none_owes n x t m inv q)

    one : (y : Stage) → m.stage x ≡ y → is_shut y ≡ 0
    one Unused h = refl
    one (Open s) h = refl
    one (Closing i) h = absurd (grind (arith, inv.batches.shut i x h, (q.rows i).closing))
    one Closed h = absurd (owed (total_some owes (m.debt x) n (grind (arith, inv.batches.tally x, p x h))))
    one Dead h = refl

pub all_wait : (n b : ℕ) (m : State) → Inv n m → Pending m.stage m.counter → IsQuiescent m → is_retired b m.log ≡ true → WaitsInOpen n m b
all_wait n b m inv p q k = one (m.life b) refl
  where
    one : (y : Life) → m.life b ≡ y → WaitsInOpen n m b
    one (IsIn x) e = in_batch n b x m inv p q e _ refl
    one (IsDoomed i) e = absurd (grind (arith, inv.places.to_take i b, (q.rows i).left))
    one IsFree e = absurd (grind (arith, inv.logged.given b))
    one (IsOwned i) e = absurd (grind (arith, inv.logged.given b))
    one IsLinked e = absurd (grind (arith, inv.logged.given b))
    one (IsUnlinked i) e = absurd (grind (arith, inv.logged.given b))
    one (IsDeferring i s t) e = absurd (grind (arith, inv.logged.given b))
    one (IsDeferred t) e = absurd (grind (arith, inv.logged.given b))
    one (IsPending i) e = absurd (grind (arith, inv.logged.given b))
    one (IsLeft i) e = absurd (grind (arith, inv.logged.given b))
