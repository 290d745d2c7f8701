-- A settling that counts a list down, and reclaims what comes to nothing, and has no batch in hand: how much it has left to do.
use Rattle.std.specs.Prelude.{◌==◌, nat_lt, if◌then◌else◌}
use Rattle.std.proofs.Common.{◌≡◌, ℕ, zero, suc, ◌+◌, ◌*◌, ◌^◌, ◌≤◌, Bool, true, false, List, [], ◌∷◌, length, refl, arith, ap, ◌∙◌}
use Rattle.seize.specs.declared.states.TheConstants.{ACTIVE}
use Rattle.seize.specs.declared.rows.settle.Settle.{Settle}
use Rattle.seize.specs.declared.rows.settle.Settling.{Settling}
use Rattle.seize.specs.declared.rows.settle.Settling.TheVariants as at
use Rattle.seize.specs.Settle.{onward, with_batch, with_put, without_block, standing}
use Rattle.seize_model.proofs.Given.SeizeMovesState.Ghost.{State, Entry, put}
use Rattle.seize_model.proofs.Given.SeizeMovesState.Moves
use Rattle.seize_model.proofs.Given.SeizeRulePoints.Passed.{passed_rest}
use Rattle.seize_model.proofs.Given.SeizeRulePoints.Told.{Part, Plain, Pushing, Draining, part, batch_now, Told, Stays, Holds, HoldsNone, Gives, Begins, Appends, Fills, Skips, Passes, Finds, Marks, GivesUp, Closes, Pushes, Misses, Sums, SumsLast, Drains, DrainsNone, Takes, TakesLast, Joins, Counts, CountsLast}
use Rattle.seize_acts.proofs.Bounds.Bounds.Moves.{taken_off}
use Rattle.seize_model.proofs.Given.SeizeMemoryWords.Apart.{put_here}

-- it counts its list, or reclaims, or is over
abbrev pub IsCounting : Settling → Type 0
IsCounting at.Lists = Unit {0}
IsCounting (at.Owns next) = Unit {0}
IsCounting (at.Downs next batch) = Unit {0}
IsCounting at.Nexts = Unit {0}
IsCounting (at.Takes next) = Unit {0}
IsCounting at.Over = Unit {0}
IsCounting _ = ⊥

-- it retires nothing
pub record OnlyCounts (c : Settle) : Type 0 where
  pub counting : IsCounting c.stands
  pub pending : c.pending ≡ 0
  pub flushing : c.flushing ≡ false
  pub held : c.held ≡ false
  pub put : c.put_first ≡ 0

-- no more blocks than there are numbers
abbrev pub MOST : ℕ
MOST = 2 ^ 53

-- how far a point is from the end of the work that it belongs to
abbrev pub point : Settling → ℕ
point at.Lists = 3
point (at.Owns next) = 2
point (at.Downs next batch) = 1
point at.Nexts = 2
point (at.Takes next) = 1
point _ = 0

-- so much for each of so many
abbrev pub each : ℕ → ℕ → ℕ
each a zero = 0
each a (suc k) = a + each a k

-- What is left behind it: a block is reclaimed by few steps, and an entry may be the last of a batch of the most blocks.
abbrev pub weight : ℕ → ℕ → State → ℕ
weight most j m = each (3 * most + 4) (length (m.loose j)) + 3 * length (m.left j)

-- where it goes on it still only counts
pub record Onward (d c : Settle) : Type 0 where
  pub counts : OnlyCounts d
  pub near : point d.stands ≤ 3
  pub list : d.list ≡ c.list
  pub plain : part d ≡ Plain

pub onward_counts : (c : Settle) → c.pending ≡ 0 → c.flushing ≡ false → c.held ≡ false → c.put_first ≡ 0 → Onward (onward c) c
onward_counts c p f h q = one (c.reclaiming == 0) (c.pending == 0) (ap (λ (k : ℕ). k == 0) p) (nat_lt ACTIVE c.list) c.flushing f c.held h
  where
    so : (s : Settling) → IsCounting s → point s ≤ 3 → part (standing c s) ≡ Plain → Onward (standing c s) c
    so s is near plain = record { counts = record { counting = is; pending = p; flushing = f; held = h; put = q }; near = near; list = refl; plain = plain }

    one : (a b : Bool) → b ≡ true → (l g : Bool) → g ≡ false → (k : Bool) → k ≡ false
        → Onward (if a then (if b then
        (if g then with_batch c else
        (if l then standing c at.Lists else (if k then standing c at.Gives else standing c at.Over))) else with_batch c) else standing c at.Nexts) c
    one false b e l g i k j = so at.Nexts tt (omega arith) refl
    one true false e l g i k j = absurd (cc e)
    one true true e l true i k j = absurd (cc i)
    one true true e true false i k j = so at.Lists tt (omega arith) refl
    one true true e false false i true j = absurd (cc j)
    one true true e false false i false j = so at.Over tt (omega arith) refl

-- and so where a block was reclaimed
pub without_counts : (c : Settle) (next : ℕ) → OnlyCounts c → Onward (without_block c next) c
without_counts c next k = one (next == 0) (c.put_first == 0) (ap (λ (z : ℕ). z == 0) k.put) (c.pending == 0)
  where
    past : Onward (onward (record c { reclaiming = next })) c
    past = let o = onward_counts (record c { reclaiming = next }) k.pending k.flushing k.held k.put in
        record { counts = o.counts; near = o.near; list = o.list; plain = o.plain }

    one : (t u : Bool) → u ≡ true → (z : Bool)
        → Onward (if t then (if u then onward (record c { reclaiming = next }) else
        (if z then with_put (record c { reclaiming = next }) else record c { reclaiming = next; stands = at.Puts })) else onward
        (record c { reclaiming = next })) c
    one true true e z = past
    one true false e z = absurd (cc e)
    one false u e z = past

-- what its moves leave

module _ (n most j : ℕ) (m m2 : State) (few : length (m2.left j) ≤ most) where
  -- an entry was counted
  pub less_loose : length (m2.loose j) + 1 ≡ length (m.loose j) → weight most j m2 + 4 ≤ weight most j m
  less_loose h =
      let e : length (m.loose j) ≡ suc (length (m2.loose j)) = omega (arith, h) in
      let k = ap (each (3 * most + 4)) e in
      omega (arith, k, few)

  module _ (c : Settle) (p : Part) (c2 : Settle) where
    same : (q : State) → m2 ≡ q → weight most j q ≡ weight most j m → weight most j m2 ≤ weight most j m
    same q e h = let a = ap (weight most j) e in omega (arith, a, h)

    fewer_left : (q : State) (b : ℕ) (bs : List ℕ) → m.left j ≡ b ∷ bs → m2 ≡ q → q.loose ≡ m.loose → q.left ≡ put m.left j bs
        → weight most j m2 + 3 ≤ weight most j m
    fewer_left q b bs is e loose left =
        let a = ap (λ (s : State). length (s.left j)) e ∙ ap (λ (f : ℕ → List ℕ). length (f j)) left ∙ ap (length) (put_here m.left j bs) in
        let k = ap (λ (s : State). each (3 * most + 4) (length (s.loose j))) e ∙ ap (λ (f : ℕ → List Entry). each (3 * most + 4) (length (f j))) loose in
        let l = ap (length) is in
        omega (arith, a, k, l)

    counted : (q : State) (x : Entry) (xs : List Entry) → m.loose j ≡ x ∷ xs → m2 ≡ q → q.loose ≡ put m.loose j xs → weight most j m2 ≤ weight most j m
    counted q x xs is e loose =
        let a = ap (λ (s : State). length (s.loose j)) e ∙ ap (λ (f : ℕ → List Entry). length (f j)) loose ∙ ap (length) (put_here m.loose j xs) in
        let l = ap (length) is in
        let k = less_loose (omega (arith, a, l)) in
        omega (arith, k)

    pub no_more : (p ≡ Pushing → ⊥) → Told n j c p m c2 m2 → weight most j m2 ≤ weight most j m
    no_more np (Stays e q) = same m e refl
    no_more np (Holds e q) = same (Moves.held m j c.slot) e refl
    no_more np (HoldsNone e q r s t u) = same (Moves.held m j c.slot) e refl
    no_more np (Gives e q r) = same (Moves.gave m c.slot) e refl
    no_more np (Begins e q r s t u v) = same m e refl
    no_more np (Appends b bs pd e q r s t) = same (Moves.appended m j b bs (batch_now c m)) e refl
    no_more np (Fills b bs pd e q r s t u) = same (Moves.appended m j b bs (batch_now c m)) e refl
    no_more np (Skips t l s a e q r) = same (Moves.skipped m (batch_now c m) t) e refl
    no_more np (Passes a e q r) = same (passed_rest n m (batch_now c m)) e refl
    no_more np (Finds t l s a e q r) = same m e refl
    no_more np (Marks t l s e q r) = same (Moves.marked m (batch_now c m) t) e refl
    no_more np (GivesUp t l s a k e q r u) = same (Moves.given_up m (batch_now c m)) e refl
    no_more np (Closes s k b e q r u) = same (Moves.closed n m j c.slot (batch_now c m)) e refl
    no_more np (Pushes y t f es rest a b k e q r) = same (Moves.pushed m y t f es rest) e refl
    no_more np (Misses y t rest a b k e q r) = same (Moves.missed m y t rest) e refl
    no_more np (Sums y a b k e q r u) = same (Moves.summed n m j y) e refl
    no_more np (SumsLast y a b k e q r u) = absurd (np q)
    no_more np (Drains b bs l e q r) = same (Moves.drained m j b) e refl
    no_more np (DrainsNone b bs l d e q r) = same m e refl
    no_more np (Takes b bs l d e q r) = let k = fewer_left (Moves.taken m j b bs) b bs l e refl refl in omega (arith, k)
    no_more np (TakesLast b l d e q r) = let k = fewer_left (Moves.joined (Moves.taken m j b []) j) b [] l e refl refl in omega (arith, k)
    no_more np (Joins l e q r) = same (Moves.joined m j) e refl
    no_more np (Counts x xs l d k e q r u v w) = counted (Moves.counted m j x xs) x xs l e refl
    no_more np (CountsLast x xs l d k e q r u v w) = counted (Moves.gives_up (Moves.counted m j x xs) j x.batch) x xs l e refl

    -- a block was reclaimed
    pub taken_less : p ≡ Draining → part c2 ≡ Plain → Told n j c p m c2 m2 → weight most j m2 + 3 ≤ weight most j m
    taken_less pl dr told =
        let k = taken_off n j m m2 c p c2 pl dr told in
        let l = ap (λ (es : List Entry). each (3 * most + 4) (length es)) k.loose in
        let b = k.left in
        omega (arith, l, b)
