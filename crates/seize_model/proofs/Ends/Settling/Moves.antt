-- What is left behind a row's work, after the move of a step: never more, and less where a block is retired, reclaimed or taken over.
use Rattle.std.proofs.Common.{◌≡◌, ℕ, ◌+◌, ◌*◌, ◌<◌, ◌≤◌, Bool, true, false, cond, eqb, List, [], ◌∷◌, length, refl, arith, ap, sym, subst, eqb-true, ◌∙◌}
use Rattle.seize.specs.Law.{Effect, Retired, Taken}
use Rattle.seize.specs.declared.rows.settle.Settle.{Settle}
use Rattle.seize_rule.specs.Given.SeizeWaitingHeld.{count}
use Rattle.seize_rule.proofs.Given.SeizeMovesState.Ghost.{State, Life, IsFree, IsIn, Entry, put, is_deferred}
use Rattle.seize_rule.proofs.Given.SeizeMovesState.Rule.{Inv}
use Rattle.seize_rule.proofs.Given.SeizeMovesState.Moves
use Rattle.seize_rule.proofs.Given.SeizeMovesState.Moves.{doomed, undeferred}
use Rattle.seize_rule.proofs.Given.SeizeMovesMoves.Tries.{first_pending}
use Rattle.seize_rule.proofs.Given.SeizeMovesMoves.Takes.{first_doomed}
use Rattle.seize_rule.proofs.Points.Passed.{passed_rest}
use Rattle.seize_rule.proofs.Given.SeizeMemoryWords.Shows.{lives}
use Rattle.seize_rule.proofs.Points.Told.{Part, Plain, Draining, part, batch_now, Told, Stays, Holds, HoldsNone, Gives, Begins, Appends, Fills, Skips, Passes, Finds, Marks, GivesUp, Closes, Pushes, Misses, Sums, SumsLast, Drains, DrainsNone, Takes, TakesLast, Joins, Counts, CountsLast}
use Rattle.seize_model.proofs.Ends.Settling.Measure.{weight, weighs}
use Rattle.seize_rule.proofs.Given.SeizeMemoryWords.Sums.{sum_le, sum_falls}
use Rattle.seize_rule.proofs.Given.SeizeMemoryWords.Apart.{put_here}

-- every block that lives is below this number
abbrev pub Below : ℕ → (ℕ → Life) → Type 0
Below bound life = (b : ℕ) → lives (life b) ≡ true → b < bound

-- by block

lighter : (n : ℕ) (life : ℕ → Life) (b : ℕ) (l : Life) → weight n l ≤ weight n (life b) → (c : ℕ) → weight n (put life b l c) ≤ weight n (life c)
lighter n life b l h c = one (eqb c b) (eqb-true c b)
  where
    one : (t : Bool) → (t ≡ true → c ≡ b) → weight n (cond t l (life c)) ≤ weight n (life c)
    one true e = rw (e refl) (h)
    one false e = omega arith

lighter_by : (n : ℕ) (life : ℕ → Life) (b j : ℕ) (l : Life) → weight n l + j ≤ weight n (life b) → (c : ℕ) → weight n (put life b l c) + j * count c (b ∷ []) ≤ weight n (life c)
lighter_by n life b j l h c = one (eqb c b) (eqb-true c b)
  where
    one : (t : Bool) → (t ≡ true → c ≡ b) → weight n (cond t l (life c)) + j * (cond t 1 0 + 0) ≤ weight n (life c)
    one true e = rw (e refl) (omega (arith, h))
    one false e = omega arith

doomed_weight : (n i x : ℕ) (l : Life) → weight n (doomed i x l) ≤ weight n l
doomed_weight n i x l = grind arith

undeferred_weight : (n i b : ℕ) (l : Life) → weight n (undeferred i b l) + is_deferred b l ≤ weight n l
undeferred_weight n i b l = grind arith

first_same : (d b : ℕ) (ds bs : List ℕ) → d ∷ ds ≡ b ∷ bs → d ≡ b
first_same d b ds bs h = cc h

module _ (n bound i : ℕ) (m : State) (inv : Inv n m) where
  -- the moves of lives and of loose entries

  appended_weighs : (b : ℕ) (bs : List ℕ) (x : ℕ) → m.pending i ≡ b ∷ bs → weighs n bound i (Moves.appended m i b bs x) ≤ weighs n bound i m
  appended_weighs b bs x e =
      let w = ap (weight n) (first_pending n i m b bs inv e) in
      let k = sum_le (λ c. weight n (m.life c)) (λ c. weight n (put m.life b (IsIn x) c)) bound (lighter n m.life b (IsIn x) (omega (arith, w))) in
      omega (arith, k)

  appended_falls : (b : ℕ) (bs : List ℕ) (x : ℕ) → Below bound m.life → m.pending i ≡ b ∷ bs → weighs n bound i (Moves.appended m i b bs x) + (10 * n + 9) ≤ weighs n bound i m
  appended_falls b bs x below e =
      let l = first_pending n i m b bs inv e in
      let w = ap (weight n) l in
      let k = sum_falls (λ c. weight n (m.life c)) (λ c. weight n (put m.life b (IsIn x) c)) (10 * n + 9) (b ∷ []) bound (lighter_by n m.life b (10 * n + 9) (IsIn x) (omega (arith, w)))
      (λ c p. only b c bound p (below b (ap lives l))) in
      omega (arith, k)
    where
      only : (b c k : ℕ) → 0 < count c (b ∷ []) → b < k → c < k
      only b c k p h = grind arith

  taken_weighs : (b : ℕ) (bs : List ℕ) → weighs n bound i (Moves.taken m i b bs) ≤ weighs n bound i m
  taken_weighs b bs = let k = sum_le (λ c. weight n (m.life c)) (λ c. weight n (put m.life b IsFree c)) bound (lighter n m.life b IsFree (omega arith)) in omega (arith, k)

  taken_falls : (b : ℕ) (bs : List ℕ) → Below bound m.life → m.left i ≡ b ∷ bs → weighs n bound i (Moves.taken m i b bs) + 6 ≤ weighs n bound i m
  taken_falls b bs below e =
      let l = first_doomed n i m b bs inv e in
      let w = ap (weight n) l in
      let k = sum_falls (λ c. weight n (m.life c)) (λ c. weight n (put m.life b IsFree c)) 6 (b ∷ []) bound (lighter_by n m.life b 6 IsFree (omega (arith, w)))
      (λ c p. only b c bound p (below b (ap lives l))) in
      omega (arith, k)
    where
      only : (b c k : ℕ) → 0 < count c (b ∷ []) → b < k → c < k
      only b c k p h = grind arith

  pub drained_falls : (b : ℕ) → Below bound m.life → weighs n bound i (Moves.drained m i b) + length (m.deferred b) ≤ weighs n bound i m
  drained_falls b below =
      let k = sum_falls (λ c. weight n (m.life c)) (λ c. weight n (undeferred i b (m.life c))) 1 (m.deferred b) bound
      (λ c. let a = undeferred_weight n i b (m.life c) in let d = inv.places.all_deferred b c in omega (arith, a, d))
      (λ c p. below c (some c (m.life c) (inv.places.all_deferred b c) p)) in
      omega (arith, k)
    where
      some : (c : ℕ) (l : Life) → count c (m.deferred b) ≡ is_deferred b l → 0 < count c (m.deferred b) → lives l ≡ true
      some c l e p = grind arith

  drained_weighs : (b : ℕ) → weighs n bound i (Moves.drained m i b) ≤ weighs n bound i m
  drained_weighs b =
      let k = sum_le (λ c. weight n (m.life c)) (λ c. weight n (undeferred i b (m.life c))) bound (λ c. let a = undeferred_weight n i b (m.life c) in omega (arith, a)) in
      omega (arith, k)

  counted_weighs : (e : Entry) (es : List Entry) → m.loose i ≡ e ∷ es → weighs n bound i (Moves.counted m i e es) ≤ weighs n bound i m
  counted_weighs e es is = let a = ap (length) is in let b = ap (length) (put_here m.loose i es) in omega (arith, a, b)

  gives_up_weighs : (q : State) (x : ℕ) → weighs n bound i (Moves.gives_up q i x) ≤ weighs n bound i q
  gives_up_weighs q x = let k = sum_le (λ c. weight n (q.life c)) (λ c. weight n (doomed i x (q.life c))) bound (λ c. doomed_weight n i x (q.life c)) in omega (arith, k)

  module _ (c : Settle) (p : Part) (c2 : Settle) (m2 : State) where
    by : (q : State) → m2 ≡ q → weighs n bound i q ≤ weighs n bound i m → weighs n bound i m2 ≤ weighs n bound i m
    by q e h = subst (λ (s : State). weighs n bound i s ≤ weighs n bound i m) (sym e) h

    same : (q : State) → m2 ≡ q → weighs n bound i q ≡ weighs n bound i m → weighs n bound i m2 ≤ weighs n bound i m
    same q e h = by q e (omega (arith, h))

    pub not_more : Told n i c p m c2 m2 → weighs n bound i m2 ≤ weighs n bound i m
    not_more (Stays e q) = same m e refl
    not_more (Holds e q) = same (Moves.held m i c.slot) e refl
    not_more (HoldsNone e q r s t u) = same (Moves.held m i c.slot) e refl
    not_more (Gives e q r) = same (Moves.gave m c.slot) e refl
    not_more (Begins e q r s t u v) = same m e refl
    not_more (Appends b bs pd e q r s t) = by (Moves.appended m i b bs (batch_now c m)) e (appended_weighs b bs (batch_now c m) pd)
    not_more (Fills b bs pd e q r s t u) = by (Moves.appended m i b bs (batch_now c m)) e (appended_weighs b bs (batch_now c m) pd)
    not_more (Skips t l s a e q r) = same (Moves.skipped m (batch_now c m) t) e refl
    not_more (Passes a e q r) = same (passed_rest n m (batch_now c m)) e refl
    not_more (Finds t l s a e q r) = same m e refl
    not_more (Marks t l s e q r) = same (Moves.marked m (batch_now c m) t) e refl
    not_more (GivesUp t l s a k e q r u) = same (Moves.given_up m (batch_now c m)) e refl
    not_more (Closes s k b e q r u) = same (Moves.closed n m i c.slot (batch_now c m)) e refl
    not_more (Pushes y t d es rest a b h e q r) = same (Moves.pushed m y t d es rest) e refl
    not_more (Misses y t rest a b h e q r) = same (Moves.missed m y t rest) e refl
    not_more (Sums y a b h e q r u) = same (Moves.summed n m i y) e refl
    not_more (SumsLast y a b h e q r u) = by (Moves.gives_up (Moves.summed n m i y) i y) e (gives_up_weighs (Moves.summed n m i y) y)
    not_more (Drains b bs l e q r) = by (Moves.drained m i b) e (drained_weighs b)
    not_more (DrainsNone b bs l d e q r) = same m e refl
    not_more (Takes b bs l d e q r) = by (Moves.taken m i b bs) e (taken_weighs b bs)
    not_more (TakesLast b l d e q r) = by (Moves.joined (Moves.taken m i b []) i) e (taken_weighs b [])
    not_more (Joins l e q r) = same (Moves.joined m i) e refl
    not_more (Counts x xs l d k e q r u v w) = by (Moves.counted m i x xs) e (counted_weighs x xs l)
    not_more (CountsLast x xs l d k e q r u v w) =
        by (Moves.gives_up (Moves.counted m i x xs) i x.batch) e (let a = gives_up_weighs (Moves.counted m i x xs) x.batch in let b = counted_weighs x xs l in omega (arith, a, b))

    -- by what is written into the log

    more_log : (e : Effect) (q : State) → m2 ≡ q → q.log ≡ m.log → m2.log ≡ e ∷ m.log → ⊥
    more_log e q is same_log h = let a = ap (length) (sym same_log ∙ sym (ap (λ (s : State). s.log) is) ∙ h) in omega (arith, a)

    retired_not_taken : (b d : ℕ) (q : State) → m2 ≡ q → q.log ≡ Taken b ∷ m.log → m2.log ≡ Retired d ∷ m.log → ⊥
    retired_not_taken b d q is l h = cc (sym l ∙ sym (ap (λ (s : State). s.log) is) ∙ h)

    taken_not_retired : (b d : ℕ) (q : State) → m2 ≡ q → q.log ≡ Retired b ∷ m.log → m2.log ≡ Taken d ∷ m.log → ⊥
    taken_not_retired b d q is l h = cc (sym l ∙ sym (ap (λ (s : State). s.log) is) ∙ h)

    by_less : (j : ℕ) (q : State) → m2 ≡ q → weighs n bound i q + j ≤ weighs n bound i m → weighs n bound i m2 + j ≤ weighs n bound i m
    by_less j q e h = subst (λ (s : State). weighs n bound i s + j ≤ weighs n bound i m) (sym e) h

    -- a block was retired
    pub retired_less : (d : ℕ) → Below bound m.life → m2.log ≡ Retired d ∷ m.log → Told n i c p m c2 m2 → weighs n bound i m2 + (10 * n + 9) ≤ weighs n bound i m
    retired_less d below h (Stays e q) = absurd (more_log (Retired d) m e refl h)
    retired_less d below h (Holds e q) = absurd (more_log (Retired d) (Moves.held m i c.slot) e refl h)
    retired_less d below h (HoldsNone e q r s t u) = absurd (more_log (Retired d) (Moves.held m i c.slot) e refl h)
    retired_less d below h (Gives e q r) = absurd (more_log (Retired d) (Moves.gave m c.slot) e refl h)
    retired_less d below h (Begins e q r s t u v) = absurd (more_log (Retired d) m e refl h)
    retired_less d below h (Appends b bs pd e q r s t) = by_less (10 * n + 9) (Moves.appended m i b bs (batch_now c m)) e (appended_falls b bs (batch_now c m) below pd)
    retired_less d below h (Fills b bs pd e q r s t u) = by_less (10 * n + 9) (Moves.appended m i b bs (batch_now c m)) e (appended_falls b bs (batch_now c m) below pd)
    retired_less d below h (Skips t l s a e q r) = absurd (more_log (Retired d) (Moves.skipped m (batch_now c m) t) e refl h)
    retired_less d below h (Passes a e q r) = absurd (more_log (Retired d) (passed_rest n m (batch_now c m)) e refl h)
    retired_less d below h (Finds t l s a e q r) = absurd (more_log (Retired d) m e refl h)
    retired_less d below h (Marks t l s e q r) = absurd (more_log (Retired d) (Moves.marked m (batch_now c m) t) e refl h)
    retired_less d below h (GivesUp t l s a k e q r u) = absurd (more_log (Retired d) (Moves.given_up m (batch_now c m)) e refl h)
    retired_less d below h (Closes s k b e q r u) = absurd (more_log (Retired d) (Moves.closed n m i c.slot (batch_now c m)) e refl h)
    retired_less d below h (Pushes y t f es rest a b k e q r) = absurd (more_log (Retired d) (Moves.pushed m y t f es rest) e refl h)
    retired_less d below h (Misses y t rest a b k e q r) = absurd (more_log (Retired d) (Moves.missed m y t rest) e refl h)
    retired_less d below h (Sums y a b k e q r u) = absurd (more_log (Retired d) (Moves.summed n m i y) e refl h)
    retired_less d below h (SumsLast y a b k e q r u) = absurd (more_log (Retired d) (Moves.gives_up (Moves.summed n m i y) i y) e refl h)
    retired_less d below h (Drains b bs l e q r) = absurd (more_log (Retired d) (Moves.drained m i b) e refl h)
    retired_less d below h (DrainsNone b bs l f e q r) = absurd (more_log (Retired d) m e refl h)
    retired_less d below h (Takes b bs l f e q r) = absurd (retired_not_taken b d (Moves.taken m i b bs) e refl h)
    retired_less d below h (TakesLast b l f e q r) = absurd (retired_not_taken b d (Moves.joined (Moves.taken m i b []) i) e refl h)
    retired_less d below h (Joins l e q r) = absurd (more_log (Retired d) (Moves.joined m i) e refl h)
    retired_less d below h (Counts x xs l f k e q r u v w) = absurd (more_log (Retired d) (Moves.counted m i x xs) e refl h)
    retired_less d below h (CountsLast x xs l f k e q r u v w) = absurd (more_log (Retired d) (Moves.gives_up (Moves.counted m i x xs) i x.batch) e refl h)

    -- a block was reclaimed
    pub taken_less : (d : ℕ) → Below bound m.life → m2.log ≡ Taken d ∷ m.log → Told n i c p m c2 m2 → weighs n bound i m2 + 6 ≤ weighs n bound i m
    taken_less d below h (Stays e q) = absurd (more_log (Taken d) m e refl h)
    taken_less d below h (Holds e q) = absurd (more_log (Taken d) (Moves.held m i c.slot) e refl h)
    taken_less d below h (HoldsNone e q r s t u) = absurd (more_log (Taken d) (Moves.held m i c.slot) e refl h)
    taken_less d below h (Gives e q r) = absurd (more_log (Taken d) (Moves.gave m c.slot) e refl h)
    taken_less d below h (Begins e q r s t u v) = absurd (more_log (Taken d) m e refl h)
    taken_less d below h (Appends b bs pd e q r s t) = absurd (taken_not_retired b d (Moves.appended m i b bs (batch_now c m)) e refl h)
    taken_less d below h (Fills b bs pd e q r s t u) = absurd (taken_not_retired b d (Moves.appended m i b bs (batch_now c m)) e refl h)
    taken_less d below h (Skips t l s a e q r) = absurd (more_log (Taken d) (Moves.skipped m (batch_now c m) t) e refl h)
    taken_less d below h (Passes a e q r) = absurd (more_log (Taken d) (passed_rest n m (batch_now c m)) e refl h)
    taken_less d below h (Finds t l s a e q r) = absurd (more_log (Taken d) m e refl h)
    taken_less d below h (Marks t l s e q r) = absurd (more_log (Taken d) (Moves.marked m (batch_now c m) t) e refl h)
    taken_less d below h (GivesUp t l s a k e q r u) = absurd (more_log (Taken d) (Moves.given_up m (batch_now c m)) e refl h)
    taken_less d below h (Closes s k b e q r u) = absurd (more_log (Taken d) (Moves.closed n m i c.slot (batch_now c m)) e refl h)
    taken_less d below h (Pushes y t f es rest a b k e q r) = absurd (more_log (Taken d) (Moves.pushed m y t f es rest) e refl h)
    taken_less d below h (Misses y t rest a b k e q r) = absurd (more_log (Taken d) (Moves.missed m y t rest) e refl h)
    taken_less d below h (Sums y a b k e q r u) = absurd (more_log (Taken d) (Moves.summed n m i y) e refl h)
    taken_less d below h (SumsLast y a b k e q r u) = absurd (more_log (Taken d) (Moves.gives_up (Moves.summed n m i y) i y) e refl h)
    taken_less d below h (Drains b bs l e q r) = absurd (more_log (Taken d) (Moves.drained m i b) e refl h)
    taken_less d below h (DrainsNone b bs l f e q r) = absurd (more_log (Taken d) m e refl h)
    taken_less d below h (Takes b bs l f e q r) = by_less 6 (Moves.taken m i b bs) e (taken_falls b bs below l)
    taken_less d below h (TakesLast b l f e q r) = by_less 6 (Moves.joined (Moves.taken m i b []) i) e (taken_falls b [] below l)
    taken_less d below h (Joins l e q r) = absurd (more_log (Taken d) (Moves.joined m i) e refl h)
    taken_less d below h (Counts x xs l f k e q r u v w) = absurd (more_log (Taken d) (Moves.counted m i x xs) e refl h)
    taken_less d below h (CountsLast x xs l f k e q r u v w) = absurd (more_log (Taken d) (Moves.gives_up (Moves.counted m i x xs) i x.batch) e refl h)

    -- by the part of the work

    -- what a block put was taken over
    pub drained_so : (b : ℕ) (bs : List ℕ) → m.left i ≡ b ∷ bs → (m.deferred b ≡ [] → ⊥) → p ≡ Plain → part c2 ≡ Draining → Told n i c p m c2 m2 → m2 ≡ Moves.drained m i b
    drained_so b bs is some pl dr (Stays e q) = absurd (cc (q, pl, dr))
    drained_so b bs is some pl dr (Holds e q) = absurd (cc (q, pl, dr))
    drained_so b bs is some pl dr (HoldsNone e q r s t u) = absurd (cc (r, dr))
    drained_so b bs is some pl dr (Gives e q r) = absurd (cc (r, dr))
    drained_so b bs is some pl dr (Begins e q r s t u v) = absurd (cc (r, dr))
    drained_so b bs is some pl dr (Appends d ds pd e q r s t) = absurd (cc (r, dr))
    drained_so b bs is some pl dr (Fills d ds pd e q r s t u) = absurd (cc (r, dr))
    drained_so b bs is some pl dr (Skips t l s a e q r) = absurd (cc (r, dr))
    drained_so b bs is some pl dr (Passes a e q r) = absurd (cc (r, dr))
    drained_so b bs is some pl dr (Finds t l s a e q r) = absurd (cc (r, dr))
    drained_so b bs is some pl dr (Marks t l s e q r) = absurd (cc (r, dr))
    drained_so b bs is some pl dr (GivesUp t l s a k e q r u) = absurd (cc (r, dr))
    drained_so b bs is some pl dr (Closes s k d e q r u) = absurd (cc (r, dr))
    drained_so b bs is some pl dr (Pushes y t f es rest a d k e q r) = absurd (cc (r, dr))
    drained_so b bs is some pl dr (Misses y t rest a d k e q r) = absurd (cc (r, dr))
    drained_so b bs is some pl dr (Sums y a d k e q r u) = absurd (cc (r, dr))
    drained_so b bs is some pl dr (SumsLast y a d k e q r u) = absurd (cc (r, dr))
    drained_so b bs is some pl dr (Drains d ds l e q r) = e ∙ ap (λ k. Moves.drained m i k) (first_same d b ds bs (sym l ∙ is))
    drained_so b bs is some pl dr (DrainsNone d ds l f e q r) = absurd (some (ap m.deferred (sym (first_same d b ds bs (sym l ∙ is))) ∙ f))
    drained_so b bs is some pl dr (Takes d ds l f e q r) = absurd (cc (r, dr))
    drained_so b bs is some pl dr (TakesLast d l f e q r) = absurd (cc (r, dr))
    drained_so b bs is some pl dr (Joins l e q r) = absurd (cc (r, dr))
    drained_so b bs is some pl dr (Counts x xs l f k e q r u v w) = absurd (cc (r, dr))
    drained_so b bs is some pl dr (CountsLast x xs l f k e q r u v w) = absurd (cc (r, dr))

    -- and while the row goes along it, it stays
    pub puts_same : p ≡ Draining → part c2 ≡ Draining → Told n i c p m c2 m2 → m2.puts i ≡ m.puts i
    puts_same pl dr (Stays e q) = ap (λ (s : State). s.puts i) e
    puts_same pl dr (Holds e q) = ap (λ (s : State). s.puts i) e
    puts_same pl dr (HoldsNone e q r s t u) = absurd (cc (r, dr))
    puts_same pl dr (Gives e q r) = absurd (cc (r, dr))
    puts_same pl dr (Begins e q r s t u v) = absurd (cc (r, dr))
    puts_same pl dr (Appends d ds pd e q r s t) = absurd (cc (r, dr))
    puts_same pl dr (Fills d ds pd e q r s t u) = absurd (cc (r, dr))
    puts_same pl dr (Skips t l s a e q r) = absurd (cc (r, dr))
    puts_same pl dr (Passes a e q r) = absurd (cc (r, dr))
    puts_same pl dr (Finds t l s a e q r) = absurd (cc (r, dr))
    puts_same pl dr (Marks t l s e q r) = absurd (cc (r, dr))
    puts_same pl dr (GivesUp t l s a k e q r u) = absurd (cc (r, dr))
    puts_same pl dr (Closes s k d e q r u) = absurd (cc (r, dr))
    puts_same pl dr (Pushes y t f es rest a d k e q r) = absurd (cc (r, dr))
    puts_same pl dr (Misses y t rest a d k e q r) = absurd (cc (r, dr))
    puts_same pl dr (Sums y a d k e q r u) = absurd (cc (r, dr))
    puts_same pl dr (SumsLast y a d k e q r u) = absurd (cc (r, dr))
    puts_same pl dr (Drains d ds l e q r) = absurd (cc (q, pl))
    puts_same pl dr (DrainsNone d ds l f e q r) = absurd (cc (q, pl))
    puts_same pl dr (Takes d ds l f e q r) = absurd (cc (r, dr))
    puts_same pl dr (TakesLast d l f e q r) = absurd (cc (r, dr))
    puts_same pl dr (Joins l e q r) = absurd (cc (r, dr))
    puts_same pl dr (Counts x xs l f k e q r u v w) = absurd (cc (r, dr))
    puts_same pl dr (CountsLast x xs l f k e q r u v w) = absurd (cc (r, dr))

    -- by what is left to be counted

    fewer_loose : (q : State) → m2 ≡ q → q.loose i ≡ m.loose i → length (m2.loose i) + 1 ≡ length (m.loose i) → ⊥
    fewer_loose q e same_loose h = let a = ap (length) (ap (λ (s : State). s.loose i) e ∙ same_loose) in omega (arith, a, h)

    counted_falls : (x : Entry) (xs : List Entry) → m.loose i ≡ x ∷ xs → weighs n bound i (Moves.counted m i x xs) + 6 ≤ weighs n bound i m
    counted_falls x xs is = let a = ap (length) is in let b = ap (length) (put_here m.loose i xs) in omega (arith, a, b)

    -- an entry was counted
    pub counted_less : length (m2.loose i) + 1 ≡ length (m.loose i) → Told n i c p m c2 m2 → weighs n bound i m2 + 6 ≤ weighs n bound i m
    counted_less h (Stays e q) = absurd (fewer_loose m e refl h)
    counted_less h (Holds e q) = absurd (fewer_loose (Moves.held m i c.slot) e refl h)
    counted_less h (HoldsNone e q r s t u) = absurd (fewer_loose (Moves.held m i c.slot) e refl h)
    counted_less h (Gives e q r) = absurd (fewer_loose (Moves.gave m c.slot) e refl h)
    counted_less h (Begins e q r s t u v) = absurd (fewer_loose m e refl h)
    counted_less h (Appends b bs pd e q r s t) = absurd (fewer_loose (Moves.appended m i b bs (batch_now c m)) e refl h)
    counted_less h (Fills b bs pd e q r s t u) = absurd (fewer_loose (Moves.appended m i b bs (batch_now c m)) e refl h)
    counted_less h (Skips t l s a e q r) = absurd (fewer_loose (Moves.skipped m (batch_now c m) t) e refl h)
    counted_less h (Passes a e q r) = absurd (fewer_loose (passed_rest n m (batch_now c m)) e refl h)
    counted_less h (Finds t l s a e q r) = absurd (fewer_loose m e refl h)
    counted_less h (Marks t l s e q r) = absurd (fewer_loose (Moves.marked m (batch_now c m) t) e refl h)
    counted_less h (GivesUp t l s a k e q r u) = absurd (fewer_loose (Moves.given_up m (batch_now c m)) e refl h)
    counted_less h (Closes s k b e q r u) = absurd (fewer_loose (Moves.closed n m i c.slot (batch_now c m)) e refl h)
    counted_less h (Pushes y t f es rest a b k e q r) = absurd (fewer_loose (Moves.pushed m y t f es rest) e refl h)
    counted_less h (Misses y t rest a b k e q r) = absurd (fewer_loose (Moves.missed m y t rest) e refl h)
    counted_less h (Sums y a b k e q r u) = absurd (fewer_loose (Moves.summed n m i y) e refl h)
    counted_less h (SumsLast y a b k e q r u) = absurd (fewer_loose (Moves.gives_up (Moves.summed n m i y) i y) e refl h)
    counted_less h (Drains b bs l e q r) = absurd (fewer_loose (Moves.drained m i b) e refl h)
    counted_less h (DrainsNone b bs l f e q r) = absurd (fewer_loose m e refl h)
    counted_less h (Takes b bs l f e q r) = absurd (fewer_loose (Moves.taken m i b bs) e refl h)
    counted_less h (TakesLast b l f e q r) = absurd (fewer_loose (Moves.joined (Moves.taken m i b []) i) e refl h)
    counted_less h (Joins l e q r) = absurd (fewer_loose (Moves.joined m i) e refl h)
    counted_less h (Counts x xs l f k e q r u v w) = by_less 6 (Moves.counted m i x xs) e (counted_falls x xs l)
    counted_less h (CountsLast x xs l f k e q r u v w) =
        by_less 6 (Moves.gives_up (Moves.counted m i x xs) i x.batch) e (let a = gives_up_weighs (Moves.counted m i x xs) x.batch in let b = counted_falls x xs l in omega (arith, a, b))
