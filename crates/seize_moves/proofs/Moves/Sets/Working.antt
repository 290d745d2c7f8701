-- A row that runs alone, in the middle of its work: what it has reclaimed so far, and what the rest of its work comes to, is what the waiting sets
-- say of its change.
use Rattle.std.proofs.Common.{◌≡◌, ℕ, true, false, List, [], ◌∷◌, ◌++◌, ap, append_assoc, sym, ◌∙◌}
use Rattle.std.proofs.lemmas.List.{append-nil}
use Rattle.seize.specs.WaitingSets.{Batch, Sets, After, with_closed, then_also, without, is_done, given}
use Rattle.seize_moves.proofs.Waiting.Work.{rest_counted, still_passed, done_given}
use Rattle.seize_moves.proofs.Moves.State.Ghost.{State}
use Rattle.seize_moves.proofs.Moves.Sets.Shown.{Models}

abbrev pub as_after : Sets → List Batch → List ℕ → After
as_after w closed numbers = record { sets = with_closed w closed; reclaimed = numbers }

abbrev pub after_these : List ℕ → After → After
after_these numbers a = record { sets = a.sets; reclaimed = numbers ++ a.reclaimed }

-- Batches that were closed before stand aside: those whose entries are passed, and those to come. What is left to do before the next entry comes to
-- `rest`, on the sets without them.
pub record Working (batch_size n s : ℕ) (m : State) (order : List ℕ) (target : After) (sets : Sets) (rest : After) : Type 0 where
  pub so_far : List ℕ
  pub passed : List Batch
  pub to_come : List Batch
  pub models : Models n m order (with_closed sets (sets.closed ++ (passed ++ to_come)))
  pub comes : target ≡ after_these so_far (then_also rest (rest_counted batch_size s passed to_come))

-- a row that retires or flushes begins: no batch stands aside
pub retiring_comes : (batch_size s : ℕ) (target : After) → target ≡ after_these [] (then_also target (rest_counted batch_size s [] []))
retiring_comes batch_size s target = same_closed (append-nil (target.sets.closed ++ [])) (append-nil target.sets.closed) (append-nil target.reclaimed)
  where
    both : (k l : List Batch) (p q : List ℕ) → k ≡ l → p ≡ q → as_after target.sets l q ≡ as_after target.sets k p
    both k l p q e f = cc

    same_closed : (target.sets.closed ++ []) ++ [] ≡ target.sets.closed ++ [] → target.sets.closed ++ [] ≡ target.sets.closed → target.reclaimed ++ [] ≡ target.reclaimed
        → target ≡ after_these [] (then_also target (rest_counted batch_size s [] []))
    same_closed a b c = both _ _ _ _ (a ∙ b) c

-- these numbers more are reclaimed
pub on_comes : (batch_size s : ℕ) (target rest rest2 : After) (so_far numbers : List ℕ) (passed to_come : List Batch)
    → target ≡ after_these so_far (then_also rest (rest_counted batch_size s passed to_come)) → rest ≡ after_these numbers rest2
    → target ≡ after_these (so_far ++ numbers) (then_also rest2 (rest_counted batch_size s passed to_come))
on_comes batch_size s target rest rest2 so_far numbers passed to_come h e =
    cc (h, ap (λ (a : After). after_these so_far (then_also a (rest_counted batch_size s passed to_come))) e, joined so_far numbers (then_also rest2 (rest_counted batch_size s passed to_come)), inner)
  where
    joined : (l r : List ℕ) (a : After) → after_these l (after_these r a) ≡ after_these (l ++ r) a
    joined l r a = ap (λ (p : List ℕ). record { sets = a.sets; reclaimed = p }) (sym (append_assoc l r a.reclaimed))

    inner : then_also (after_these numbers rest2) (rest_counted batch_size s passed to_come) ≡ after_these numbers (then_also rest2 (rest_counted batch_size s passed to_come))
    inner = ap (λ (p : List ℕ). record { sets = (then_also rest2 (rest_counted batch_size s passed to_come)).sets; reclaimed = p })
        (append_assoc numbers rest2.reclaimed (rest_counted batch_size s passed to_come rest2.sets).reclaimed)

-- batches that wait for others than the slot, and go on waiting

abbrev pub AllWait : ℕ → List Batch → Type 0
AllWait slot [] = Unit {0}
AllWait slot (b ∷ batches) = (is_done slot b ≡ false) × (without slot b.waits_for ≡ b.waits_for) × AllWait slot batches

pub all_passed : (batch_size slot : ℕ) (passed newer to_come : List Batch) (w : Sets) → AllWait slot newer
    → rest_counted batch_size slot passed (newer ++ to_come) w ≡ rest_counted batch_size slot (passed ++ newer) to_come w
all_passed batch_size slot passed [] to_come w h = ap (λ (l : List Batch). rest_counted batch_size slot l to_come w) (sym (append-nil passed))
all_passed batch_size slot passed (b ∷ newer) to_come w h =
    let a = still_passed batch_size slot passed (newer ++ to_come) b w h.0 in
    let c = ap (λ (l : List ℕ). rest_counted batch_size slot (passed ++ record { retired = b.retired; waits_for = l } ∷ []) (newer ++ to_come) w) h.1 in
    let d = all_passed batch_size slot (passed ++ b ∷ []) newer to_come w h.2 in
    let e = ap (λ (l : List Batch). rest_counted batch_size slot l to_come w) (append_assoc passed (b ∷ []) newer) in
    cc

-- the last entry of a batch is counted: it is reclaimed before the next entry is counted
pub last_counted : (batch_size slot : ℕ) (passed newer older : List Batch) (b : Batch) (w : Sets) → AllWait slot newer → is_done slot b ≡ true
    → rest_counted batch_size slot passed (newer ++ b ∷ older) w ≡ then_also (given batch_size slot b.retired w) (rest_counted batch_size slot (passed ++ newer) older)
last_counted batch_size slot passed newer older b w h e =
    let a = all_passed batch_size slot passed newer (b ∷ older) w h in
    let c = done_given batch_size slot (passed ++ newer) older b w e in cc

-- another one is counted: the batch waits for one slot less
pub other_counted : (batch_size slot : ℕ) (passed newer older : List Batch) (b : Batch) (w : Sets) → AllWait slot newer → is_done slot b ≡ false
    → rest_counted batch_size slot passed (newer ++ b ∷ older) w
    ≡ rest_counted batch_size slot ((passed ++ newer) ++ record { retired = b.retired; waits_for = without slot b.waits_for } ∷ []) older w
other_counted batch_size slot passed newer older b w h e =
    let a = all_passed batch_size slot passed newer (b ∷ older) w h in
    let c = still_passed batch_size slot (passed ++ newer) older b w e in cc
