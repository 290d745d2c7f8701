-- Waiting sets that are alike are so, too, by other numbers, where each number that stands in them has the same one still.
use Rattle.std.proofs.Common.{◌≡◌, ◌≤◌, ℕ, List, [], ◌∷◌, refl, arith}
use Rattle.seize.specs.WaitingSets.{Batch, Further, Sets}
use Rattle.run_executor.specs.Given.SeizeWaitingHeld.{same, count, weight_put, held_closed, all_held, Every, Tidy}
use Rattle.run_executor.proofs.Given.SeizeWaitingTidy.{open_counts, opened_alike}
use Rattle.run_kept.specs.Models.Alike.{AreAlike, BatchesAlike, FurtherAlike, SetsAlike, EachIs, EachBatchIs, AllAre}

module _ (R Q : ℕ → ℕ → Type 0) (P : ℕ → Type 0) (still : (x y : ℕ) → P x → R x y → Q x y) where
  again : (xs ys : List ℕ) → EachIs P xs → AreAlike R xs ys → AreAlike Q xs ys
  again [] [] p h = tt
  again [] (y ∷ ys) p h = absurd h
  again (x ∷ xs) [] p h = absurd h
  again (x ∷ xs) (y ∷ ys) p h = (still x y p.0 h.0, again xs ys p.1 h.1)

  batches_again : (bs cs : List Batch) → EachBatchIs P bs → BatchesAlike R bs cs → BatchesAlike Q bs cs
  batches_again [] [] p h = tt
  batches_again [] (c ∷ cs) p h = absurd h
  batches_again (b ∷ bs) [] p h = absurd h
  batches_again (b ∷ bs) (c ∷ cs) p h = (again b.retired c.retired p.0 h.0, h.1, batches_again bs cs p.1 h.2)

  further_again : (fs gs : List Further) → Every (λ f. P f.number × P f.behind) fs → FurtherAlike R fs gs → FurtherAlike Q fs gs
  further_again [] [] p h = tt
  further_again [] (g ∷ gs) p h = absurd h
  further_again (f ∷ fs) [] p h = absurd h
  further_again (f ∷ fs) (g ∷ gs) p h = (still f.number g.number p.0.0 h.0, still f.behind g.behind p.0.1 h.1, further_again fs gs p.1 h.2)

  pub alike_again : (w v : Sets) → AllAre P w → SetsAlike R w v → SetsAlike Q w v
  alike_again w v all h = record {
    opens = λ s. again (w.open_batch s) (v.open_batch s) (all.opens s) (h.opens s);
    closes = batches_again w.closed v.closed all.closes h.closes;
    actives = h.actives;
    used = h.used;
    puts = further_again w.further v.further all.puts h.puts;
  }

-- where each number has the same one still, whatever stands in the sets
module _ (R Q : ℕ → ℕ → Type 0) (still : (x y : ℕ) → R x y → Q x y) where
  abbrev Any : ℕ → Type 0
  Any x = Unit {0}

  any : (xs : List ℕ) → EachIs Any xs
  any [] = tt
  any (x ∷ xs) = (tt, any xs)

  any_batch : (bs : List Batch) → EachBatchIs Any bs
  any_batch [] = tt
  any_batch (b ∷ bs) = (any b.retired, any_batch bs)

  any_further : (fs : List Further) → Every (λ f. Any f.number × Any f.behind) fs
  any_further [] = tt
  any_further (f ∷ fs) = ((tt, tt), any_further fs)

  pub alike_more : (w v : Sets) → SetsAlike R w v → SetsAlike Q w v
  alike_more w v h =
      alike_again R Q Any (λ x y is r. still x y r) w v (record { opens = λ s. any (w.open_batch s); closes = any_batch w.closed; puts = any_further w.further }) h

-- what holds of each number that is held holds of all that stand in the sets
module _ (P : ℕ → Type 0) where
  same_itself : (n : ℕ) → same n n ≡ 1
  same_itself n = grind arith

  pub each_counted : (xs : List ℕ) → ((n : ℕ) → (count n xs ≡ 0 → ⊥) → P n) → EachIs P xs
  each_counted [] h = tt
  each_counted (x ∷ xs) h = (
    h x (λ z. absurd (let one = same_itself x in omega (arith, z, one))),
    each_counted xs (λ n ne. h n (λ z. ne (omega (arith, z)))),
  )

  each_batch : (bs : List Batch) → ((n : ℕ) → (held_closed n bs ≡ 0 → ⊥) → P n) → EachBatchIs P bs
  each_batch [] h = tt
  each_batch (b ∷ bs) h = (
    each_counted b.retired (λ n ne. h n (λ z. ne (omega (arith, z)))),
    each_batch bs (λ n ne. h n (λ z. ne (omega (arith, z)))),
  )

  each_put : (fs : List Further) → ((n : ℕ) → (weight_put (same n) fs ≡ 0 → ⊥) → P n) → Every (λ f. P f.behind) fs → Every (λ f. P f.number × P f.behind) fs
  each_put [] h e = tt
  each_put (f ∷ fs) h e = (
    (h f.number (λ z. absurd (let one = same_itself f.number in omega (arith, z, one))), e.0),
    each_put fs (λ n ne. h n (λ z. ne (omega (arith, z)))) e.1,
  )

  -- the open batches alone, where a slot that was never used has none
  only_open : (w : Sets) → ((s : ℕ) → w.slots ≤ s → w.open_batch s ≡ []) → Tidy (record w { closed = []; active = []; further = [] })
  only_open w unused = record { none_further = refl; unused = unused; waiting = tt; ascends = tt }

  pub all_are : (w : Sets) → ((s : ℕ) → w.slots ≤ s → w.open_batch s ≡ []) → ((n : ℕ) → (all_held n w ≡ 0 → ⊥) → P n) → Every (λ f. P f.behind) w.further → AllAre P w
  all_are w unused h e = record {
    opens = λ s. each_counted (w.open_batch s) (λ n ne.
        h n (λ z. ne (let o = record w { closed = []; active = []; further = [] } in let a = open_counts n s o (only_open w unused) in let b = opened_alike n w.slots o w refl in omega (arith, a, b, z))));
    closes = each_batch w.closed (λ n ne. h n (λ z. ne (omega (arith, z))));
    puts = each_put w.further (λ n ne. h n (λ z. ne (omega (arith, z)))) e;
  }
