-- Who makes a move gives no share of the copying to anybody else.
use Rattle.std.proofs.Common.{◌≡◌, ℕ, ◌+◌, Bool, true, false, cond, eqb, leb, ltb, ◌&&◌, refl, eqb-true}
use Rattle.map_rule.specs.Chart.{Place, Empty, Tombstone, Holds, Share, Free, Claimed, Done, Counted, Lost, put_in}
use Rattle.map_rule.specs.Moves.{Links, Stores, Replaces, Removes, Marks, MarksBlocking, Skips, Unmarks, Puts, Covers, PutsLate, Claims, Reclaims, Counts, GivesUp, Aborts, Promotes, Announces, is_of_caller, share_of, with_counted, with_lost}
use Rattle.map_rule.specs.Lasts.{MovesGiveNoShares}

not_same : (caller i : ℕ) → (caller ≡ i → ⊥) → eqb caller i ≡ true → ⊥
not_same caller i ne e = ne (eqb-true caller i e)

-- one share that is another caller's now
one_given : (share : ℕ → ℕ → Share) (u k i t j : ℕ) (s : Share) → (is_of_caller i s ≡ true → ⊥) → is_of_caller i (put_in share u k s t j) ≡ true → share t j ≡ put_in share u k s t j
one_given share u k i t j s none e = at (eqb t u) (eqb j k) e
  where
    at : (a b : Bool) → is_of_caller i (cond a (cond b s (share t j)) (share t j)) ≡ true → share t j ≡ cond a (cond b s (share t j)) (share t j)
    at true true h = absurd (none h)
    at true false h = refl
    at false b h = refl

not_marked : (caller i : ℕ) (place : Place) → (caller ≡ i → ⊥) → is_of_caller i (share_of caller place) ≡ true → ⊥
not_marked caller i (Empty mark) ne e = not_same caller i ne e
not_marked caller i (Tombstone mark) ne e = not_same caller i ne e
not_marked caller i (Holds n phase borrowed) ne e = not_same caller i ne e

counted_given : (caller i : ℕ) (s : Share) → is_of_caller i (with_counted caller s) ≡ true → s ≡ with_counted caller s
counted_given caller i Free e = refl
counted_given caller i (Claimed other) e = refl
counted_given caller i (Done other) e = at (eqb other caller) e
  where
    at : (a : Bool) → is_of_caller i (cond a Counted (Done other)) ≡ true → Done other ≡ cond a Counted (Done other)
    at true h = absurd (cc h)
    at false h = refl
counted_given caller i Counted e = refl
counted_given caller i Lost e = refl

lost_given : (caller i : ℕ) (s : Share) → is_of_caller i (with_lost caller s) ≡ true → s ≡ with_lost caller s
lost_given caller i s e = at (is_of_caller caller s) e
  where
    at : (a : Bool) → is_of_caller i (cond a Lost s) ≡ true → s ≡ cond a Lost s
    at true h = absurd (cc h)
    at false h = refl

in_table : (a : Bool) (i : ℕ) (s s2 : Share) → (is_of_caller i s2 ≡ true → s ≡ s2) → is_of_caller i (cond a s2 s) ≡ true → s ≡ cond a s2 s
in_table true i s s2 given e = given e
in_table false i s s2 given e = refl

module _ {K : Type 0} (same : K → K → Bool) (spot : ℕ → K → ℕ → ℕ) where
  pub none_given : (incremental : Bool) → MovesGiveNoShares same spot incremental
  none_given b (Links len limit) c i t j ne e = refl
  none_given b (Stores u k try) c i t j ne e = refl
  none_given b (Replaces u p k) c i t j ne e = refl
  none_given b (Removes u p) c i t j ne e = refl
  none_given b (Marks caller p) c i t j ne e = one_given c.share _ p i t j _ (not_marked caller i (c.place c.first p) ne) e
  none_given b (MarksBlocking p) c i t j ne e = refl
  none_given b (Skips caller u p) c i t j ne e = one_given c.share u p i t j _ (not_same caller i ne) e
  none_given b (Unmarks caller p) c i t j ne e = one_given c.share _ p i t j Free (λ h. cc h) e
  none_given true (Puts caller p u k try) c i t j ne e = refl
  none_given false (Puts caller p u k try) c i t j ne e = one_given c.share u p i t j _ (not_same caller i ne) e
  none_given b (Covers caller p) c i t j ne e = one_given c.share _ p i t j _ (not_same caller i ne) e
  none_given b (PutsLate u p n) c i t j ne e = refl
  none_given b (Claims caller u chunk) c i t j ne e =
      in_table (eqb t u && ltb c.first u) i (c.share t j) _ (λ h. in_table (leb (c.claim u) j && ltb j (c.claim u + chunk) && ltb j (c.len c.first)) i (c.share t j) (Claimed caller) (λ g. absurd (not_same caller i ne g)) h) e
  none_given b (Reclaims u claim) c i t j ne e = refl
  none_given b (Counts caller u number) c i t j ne e = in_table (eqb t u) i (c.share t j) _ (counted_given caller i (c.share t j)) e
  none_given b (GivesUp caller u) c i t j ne e = in_table (eqb t u) i (c.share t j) _ (lost_given caller i (c.share t j)) e
  none_given b (Aborts u) c i t j ne e = refl
  none_given b (Promotes u) c i t j ne e = refl
  none_given b (Announces u) c i t j ne e = refl
