-- What a row that runs alone keeps of the waiting sets where only its own batch changes, and where nothing does that they show.
use Rattle.std.proofs.Common.{◌≡◌, ℕ, ◌≤◌, List, [], ◌++◌, arith, ap, append_assoc, subst, sym}
use Rattle.std.proofs.lemmas.List.{append-nil}
use Rattle.seize.specs.Sequence.{taken_in}
use Rattle.seize.specs.WaitingSets.{Batch, Further, Sets, After, with_closed, further_of_all, retired_all}
use Rattle.seize_rule.specs.Given.SeizeWaitingHeld.{count}
use Rattle.seize_rule.specs.Given.SeizeWaitingChanges.{kept}
use Rattle.seize_rule.proofs.Given.SeizeWaitingBound.{rounds}
use Rattle.seize_rule.proofs.Given.SeizeWaitingCounts.{count-append}
use Rattle.seize_rule.proofs.Given.SeizeWaitingWork.{rest_given, all_given}
use Rattle.seize_rule.proofs.Given.SeizeMovesState.Ghost.{Open, State}
use Rattle.seize_rule.proofs.Given.SeizeMovesSets.Shown.{Models, shut_in}
use Rattle.seize_rule.proofs.Points.Told.{NoneLeft}
use Rattle.seize_model.proofs.Sets.Follows.Work.{Lined, Base, Plainly, base_kept}
use Rattle.seize_rule.proofs.Given.SeizeWaitingBehind.{kept_nil}

-- Only the open batch changes among the batches, and the row's entries stay; nothing is reclaimed.
pub record OpenOnly (i x : ℕ) (m m2 : State) : Type 0 where
  pub same_loose : m2.loose i ≡ m.loose i
  pub same_from : m2.from i ≡ m.from i
  pub blocks : (y : ℕ) → (y ≡ x → ⊥) → m2.blocks y ≡ m.blocks y
  pub debts : (y : ℕ) → (y ≡ x → ⊥) → m2.debt y ≡ m.debt y
  pub logged : taken_in m2.log ≡ taken_in m.log

-- a batch of the order isn't open
pub not_open : (n s x y : ℕ) (m : State) (order : List ℕ) (w : Sets) → Models n m order w → m.stage x ≡ Open s → (count y order ≡ 0 → ⊥) → y ≡ x → ⊥
not_open n s x y m order w h e ne same = let a = shut_in n m order w h y ne in grind (arith, a, e, same)

pub behind_in : (n i s y : ℕ) (m : State) (order : List ℕ) (to_come : List Batch) (h : Lined n i s m order to_come) → (count y h.behind ≡ 0 → ⊥) → count y order ≡ 0 → ⊥
behind_in n i s y m order to_come h ne e =
    let a = count-append y h.ahead h.behind in let b = ap (count y) h.order_is in ne (omega (arith, a, b, e))

pub not_behind : (n i s x : ℕ) (m : State) (order : List ℕ) (to_come : List Batch) (w : Sets) (h : Lined n i s m order to_come) → Models n m order w → m.stage x ≡ Open s → count x h.behind ≡ 0
not_behind n i s x m order to_come w h models e =
    let a = models.ordered x in
    let b = ap (count x) h.order_is in
    let c = count-append x h.ahead h.behind in
    let z : count x order ≡ 0 = grind (arith, a, e) in
    omega (arith, b, c, z)

-- Such a move, by which batches may be put before the others in the order: the sets go from these to those, and the batches to come are those that were.
pub open_kept : (batch_size n i s x : ℕ) (m m2 : State) (before : List ℕ) (target : After) (order newer : List ℕ) (sets sets2 : Sets) (rest rest2 : After)
    → (h : Base batch_size n i s m before target order sets rest []) → m.stage x ≡ Open s → OpenOnly i x m m2
    → ((aside : List Batch) → Models n m order (with_closed sets (sets.closed ++ aside)) → Models n m2 (newer ++ order) (with_closed sets2 (sets2.closed ++ aside)))
    → rest ≡ rest2
    → (b : Base batch_size n i s m2 before target (newer ++ order) sets2 rest2 []) × (b.lined.behind ≡ h.lined.behind)
open_kept batch_size n i s x m m2 before target order newer sets sets2 rest rest2 h e k models same =
    base_kept batch_size n i s m m2 before target order (newer ++ order) sets sets2 rest rest2 [] [] [] h models same logged (newer ++ h.lined.ahead)
    (cc (ap (λ (o : List ℕ). newer ++ o) h.lined.order_is, append_assoc newer h.lined.ahead h.lined.behind))
    (record { same_loose = k.same_loose; same_from = k.same_from; blocks = λ y ne. k.blocks y (other y ne); debts = λ y ne. k.debts y (other y ne) })
  where
    logged : taken_in m2.log ++ [] ≡ (taken_in m.log ++ []) ++ []
    logged = cc (k.logged, append-nil (taken_in m2.log), append-nil (taken_in m.log), append-nil (taken_in m.log ++ []))

    other : (y : ℕ) → (count y h.lined.behind ≡ 0 → ⊥) → y ≡ x → ⊥
    other y ne = not_open n s x y m order _ h.working.models e (behind_in n i s y m order h.working.to_come h.lined ne)

pub open_on : (batch_size n i s x : ℕ) (m m2 : State) (before : List ℕ) (target : After) (order newer : List ℕ) (sets sets2 : Sets) (rest rest2 : After)
    → (h : Base batch_size n i s m before target order sets rest []) → m.stage x ≡ Open s → OpenOnly i x m m2
    → ((aside : List Batch) → Models n m order (with_closed sets (sets.closed ++ aside)) → Models n m2 (newer ++ order) (with_closed sets2 (sets2.closed ++ aside)))
    → rest ≡ rest2
    → Base batch_size n i s m2 before target (newer ++ order) sets2 rest2 []
open_on batch_size n i s x m m2 before target order newer sets sets2 rest rest2 h e k models same =
    (open_kept batch_size n i s x m m2 before target order newer sets sets2 rest rest2 h e k models same).0

-- the rest of the work, said otherwise
pub rest_on : (batch_size n i s : ℕ) (m : State) (before : List ℕ) (target : After) (order : List ℕ) (sets : Sets) (rest rest2 : After) (given : List ℕ) → rest ≡ rest2
    → Base batch_size n i s m before target order sets rest given → Base batch_size n i s m before target order sets rest2 given
rest_on batch_size n i s m before target order sets rest rest2 given e h = subst (λ (a : After). Base batch_size n i s m before target order sets a given) e h

-- with nothing left of a batch: these are to be retired
pub record Retires (batch_size n i s : ℕ) (m : State) (before : List ℕ) (target : After) (numbers : List ℕ) : Type 0 where
  pub order : List ℕ
  pub sets : Sets
  pub bound : ℕ
  pub base : Base batch_size n i s m before target order sets (retired_all batch_size bound s numbers sets) []
  pub enough : rounds (sets.open_batch s) numbers sets.further ≤ bound

given_is : (batch_size bound s : ℕ) (left puts pending : List ℕ) (sets : Sets) → left ≡ [] → puts ≡ []
    → rest_given batch_size bound s left puts pending sets ≡ retired_all batch_size bound s pending sets
given_is batch_size bound s left puts pending sets e f =
    subst (λ (l : List ℕ). rest_given batch_size bound s l puts pending sets ≡ retired_all batch_size bound s pending sets) (sym e)
    (subst (λ (l : List ℕ). rest_given batch_size bound s [] l pending sets ≡ retired_all batch_size bound s pending sets) (sym f) (all_given batch_size bound s [] pending sets))

rounds_are : (opened left puts pending : List ℕ) (further : List Further) → left ≡ [] → puts ≡ []
    → rounds opened ((puts ++ further_of_all left further) ++ pending) (kept left further) ≡ rounds opened pending further
rounds_are opened left puts pending further e f =
    subst (λ (l : List ℕ). rounds opened ((puts ++ further_of_all l further) ++ pending) (kept l further) ≡ rounds opened pending further) (sym e)
    (subst (λ (l : List ℕ). rounds opened ((l ++ []) ++ pending) (kept [] further) ≡ rounds opened pending further) (sym f) (ap (λ (l : List Further). rounds opened pending l) (kept_nil further)))

pub plainly_retires : (batch_size n i s : ℕ) (m : State) (before : List ℕ) (target : After) (numbers : List ℕ) → NoneLeft i m → m.pending i ≡ numbers
    → Plainly batch_size n i s m before target → Retires batch_size n i s m before target numbers
plainly_retires batch_size n i s m before target numbers none e h =
    subst (λ (l : List ℕ). Retires batch_size n i s m before target l) e
    (record {
      order = h.order;
      sets = h.sets;
      bound = h.bound;
      base = rest_on batch_size n i s m before target h.order h.sets _ _ [] (given_is batch_size h.bound s (m.left i) (m.puts i) (m.pending i) h.sets none.left none.puts) h.base;
      enough = subst (λ (k : ℕ). k ≤ h.bound) (rounds_are (h.sets.open_batch s) (m.left i) (m.puts i) (m.pending i) h.sets.further none.left none.puts) h.enough;
    })

pub retires_plainly : (batch_size n i s : ℕ) (m : State) (before : List ℕ) (target : After) (numbers : List ℕ) → NoneLeft i m → m.pending i ≡ numbers
    → Retires batch_size n i s m before target numbers → Plainly batch_size n i s m before target
retires_plainly batch_size n i s m before target numbers none e h =
    let r = subst (λ (l : List ℕ). Retires batch_size n i s m before target l) (sym e) h in
    record {
      order = r.order;
      sets = r.sets;
      bound = r.bound;
      base = rest_on batch_size n i s m before target r.order r.sets _ _ [] (sym (given_is batch_size r.bound s (m.left i) (m.puts i) (m.pending i) r.sets none.left none.puts)) r.base;
      enough = subst (λ (k : ℕ). k ≤ r.bound) (sym (rounds_are (r.sets.open_batch s) (m.left i) (m.puts i) (m.pending i) r.sets.further none.left none.puts)) r.enough;
    }
