-- A batch reclaimed at once, and entries counted down, by a row that runs alone.
use Rattle.std.proofs.Common.{◌≡◌, ℕ, true, false, List, [], ◌∷◌, ◌++◌, ap, subst, sym, ◌∙◌}
use Rattle.std.proofs.lemmas.List.{append-nil}
use Rattle.seize.specs.WaitingSets.{Batch, Sets, After, with_closed, then_also, quietly, without, is_done, given}
use Rattle.seize_moves.proofs.Waiting.Work.{rest_counted, all_counted}
use Rattle.seize_moves.proofs.Moves.State.Ghost.{State}
use Rattle.seize_moves.proofs.Moves.Sets.Shown.{Models}
use Rattle.seize_moves.proofs.Moves.Sets.Tries.{batch}
use Rattle.seize_moves.proofs.Moves.Sets.Working.{after_these, Working, AllWait, all_passed, last_counted, other_counted}

pub tail_of : {X : Type 0} (a b : X) (l r : List X) → (a ∷ l) ≡ (b ∷ r) → l ≡ r
tail_of a b l r e = cc e

-- the last entry of a batch is counted, and the batch is to be reclaimed before the next entry
pub last_comes : (batch_size s : ℕ) (target : After) (sets : Sets) (so_far : List ℕ) (passed to_come newer older : List Batch) (b : Batch)
    → target ≡ after_these so_far (then_also (quietly sets) (rest_counted batch_size s passed to_come)) → to_come ≡ newer ++ b ∷ older → AllWait s newer → is_done s b ≡ true
    → target ≡ after_these so_far (then_also (given batch_size s b.retired sets) (rest_counted batch_size s (passed ++ newer) older))
last_comes batch_size s target sets so_far passed to_come newer older b h e a d =
    let f = ap (λ (l : List Batch). rest_counted batch_size s passed l sets) e in
    let g = last_counted batch_size s passed newer older b sets a d in
    let c : rest_counted batch_size s passed to_come sets ≡ then_also (given batch_size s b.retired sets) (rest_counted batch_size s (passed ++ newer) older) = cc (f, g) in
    h ∙ ap (after_these so_far) c

-- another one is counted
pub other_comes : (batch_size s : ℕ) (target : After) (sets : Sets) (so_far : List ℕ) (passed to_come newer older : List Batch) (b : Batch)
    → target ≡ after_these so_far (then_also (quietly sets) (rest_counted batch_size s passed to_come)) → to_come ≡ newer ++ b ∷ older → AllWait s newer → is_done s b ≡ false
    → target ≡ after_these so_far (then_also (quietly sets) (rest_counted batch_size s ((passed ++ newer) ++ batch b.retired (without s b.waits_for) ∷ []) older))
other_comes batch_size s target sets so_far passed to_come newer older b h e a d =
    let f = ap (λ (l : List Batch). rest_counted batch_size s passed l sets) e in
    let g = other_counted batch_size s passed newer older b sets a d in
    let c : rest_counted batch_size s passed to_come sets ≡ rest_counted batch_size s ((passed ++ newer) ++ batch b.retired (without s b.waits_for) ∷ []) older sets = cc (f, g) in
    h ∙ ap (after_these so_far) c

-- nothing is left to do, and no batch waits for the slot: what was reclaimed, in order, and the sets are those of the change
pub all_done : (batch_size n s : ℕ) (m : State) (order : List ℕ) (target : After) (sets : Sets) (k : Working batch_size n s m order target sets (quietly sets))
    → AllWait s k.to_come → (target.reclaimed ≡ k.so_far) × Models n m order target.sets
all_done batch_size n s m order target sets k e =
    let l = append-nil k.to_come in
    let f = ap (λ (a : List Batch). rest_counted batch_size s k.passed a sets) l in
    let p = all_passed batch_size s k.passed k.to_come [] sets e in
    let t = all_counted batch_size s (k.passed ++ k.to_come) sets in
    let g : rest_counted batch_size s k.passed k.to_come sets ≡ quietly (with_closed sets (sets.closed ++ (k.passed ++ k.to_come))) = cc (f, p, t) in
    let c : target ≡ after_these k.so_far (quietly (with_closed sets (sets.closed ++ (k.passed ++ k.to_come)))) = k.comes ∙ ap (after_these k.so_far) g in
    let r = ap (λ (a : After). a.reclaimed) c in
    let w : target.sets ≡ with_closed sets (sets.closed ++ (k.passed ++ k.to_come)) = ap (λ (a : After). a.sets) c in
    (cc (r, append-nil k.so_far), subst (λ (a : Sets). Models n m order a) (sym w) k.models)
