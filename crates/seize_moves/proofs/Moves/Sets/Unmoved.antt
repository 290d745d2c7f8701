-- Moves that leave the waiting sets which a state shows as they are, reclaim nothing, and leave what waits where it waits.
use Rattle.std.proofs.Common.{◌≡◌, ℕ, Bool, true, false, cond, eqb, List, [], refl, arith, ap, eqb-true}
use Rattle.seize.specs.Sequence.{taken_in}
use Rattle.seize.specs.WaitingSets.{Sets}
use Rattle.seize_moves.proofs.Moves.State.Ghost.{put, Head, Free, Idle, Life, IsDeferring, IsDeferred, IsPending, State, list_of, is_active}
use Rattle.seize_moves.proofs.Moves.Sets.Shown.{Models, Alike, models_alike}
use Rattle.seize_moves.proofs.Moves.State.Moves

-- it waits behind another block, or for the row that is to retire it
abbrev pub is_in_wait : Life → Bool
is_in_wait (IsDeferring i s t) = true
is_in_wait (IsDeferred t) = true
is_in_wait (IsPending i) = true
is_in_wait _ = false

-- what waits does so as before
abbrev pub WaitAsBefore : State → State → Type 0
WaitAsBefore m m2 = (c : ℕ) → is_in_wait (m.life c) ≡ true → m2.life c ≡ m.life c

-- where another block has another life, which did not wait
pub put_waits : (life : ℕ → Life) (b : ℕ) (l : Life) → is_in_wait (life b) ≡ false → (c : ℕ) → is_in_wait (life c) ≡ true → put life b l c ≡ life c
put_waits life b l none c some = at (eqb c b) (eqb-true c b)
  where
    at : (t : Bool) → (t ≡ true → c ≡ b) → cond t l (life c) ≡ life c
    at false e = refl
    at true e = absurd (let same : is_in_wait (life c) ≡ is_in_wait (life b) = ap (λ (x : ℕ). is_in_wait (life x)) (e refl) in cc (same, none, some))

pub record Unmoved (n : ℕ) (m m2 : State) : Type 0 where
  pub alike : Alike n m m2
  pub taken : taken_in m2.log ≡ taken_in m.log
  pub waits : WaitAsBefore m m2
  pub left : m2.left ≡ m.left

-- what the sets don't show may change
pub alike_kept : (n : ℕ) (m m2 : State) → m2.head ≡ m.head → m2.open_batch ≡ m.open_batch → m2.blocks ≡ m.blocks → m2.stage ≡ m.stage → m2.debt ≡ m.debt → m2.deferred ≡ m.deferred
    → Alike n m m2
alike_kept n m m2 head opened blocks stage debt deferred = record {
  opened = λ s l. cc (opened, blocks);
  stages = λ x. cc stage;
  blocks = λ x k. cc blocks;
  debts = λ x t k. (cc debt, cc debt);
  lists = λ t. cc head;
  active = λ t l. cc head;
  put = λ t. cc deferred;
}

pub unmoved_kept : (n : ℕ) (m m2 : State) → m2.head ≡ m.head → m2.open_batch ≡ m.open_batch → m2.blocks ≡ m.blocks → m2.stage ≡ m.stage → m2.debt ≡ m.debt → m2.deferred ≡ m.deferred
    → taken_in m2.log ≡ taken_in m.log → WaitAsBefore m m2 → m2.left ≡ m.left → Unmoved n m m2
unmoved_kept n m m2 head opened blocks stage debt deferred log waits left =
    record { alike = alike_kept n m m2 head opened blocks stage debt deferred; taken = log; waits = waits; left = left }

pub unmoved_same : (n : ℕ) (m : State) → Unmoved n m m
unmoved_same n m = unmoved_kept n m m refl refl refl refl refl refl refl (λ c e. refl) refl

-- a slot that isn't active has no list, whatever else its head says
pub inactive_list : (h : Head) → is_active h ≡ false → list_of h ≡ []
inactive_list h e = grind (arith, e)

inactive_unmoved : (n s : ℕ) (m : State) (top : Head) → is_active (m.head s) ≡ false → is_active top ≡ false → Unmoved n m (record m { head = put m.head s top })
inactive_unmoved n s m top a b = record {
  alike = record {
    opened = λ t l. refl;
    stages = λ x. refl;
    blocks = λ x k. refl;
    debts = λ x t k. (refl, refl);
    lists = λ t. let c = inactive_list (m.head s) a in let d = inactive_list top b in grind (arith, c, d);
    active = λ t l. grind (arith, a, b);
    put = λ t. refl;
  };
  taken = refl;
  waits = λ c e. refl;
  left = refl;
}

pub registered_unmoved : (n s : ℕ) (m : State) → is_active (m.head s) ≡ false → Unmoved n m (Moves.registered m s)
registered_unmoved n s m e = inactive_unmoved n s m Idle e refl

pub freed_unmoved : (n s : ℕ) (m : State) → is_active (m.head s) ≡ false → Unmoved n m (Moves.freed m s)
freed_unmoved n s m e = inactive_unmoved n s m Free e refl

pub unmoved_models : (n : ℕ) (m m2 : State) (order : List ℕ) (w : Sets) → Unmoved n m m2 → Models n m order w → Models n m2 order w
unmoved_models n m m2 order w u h = models_alike n m m2 order w h u.alike
