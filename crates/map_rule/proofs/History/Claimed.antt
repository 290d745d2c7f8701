-- Tables that the root has passed, or comes to, in blocking mode: they were aborted, or all places were claimed for them.
use Rattle.std.specs.Prelude.{leb}
use Rattle.std.proofs.Common.{◌≡◌, ◌≢◌, ℕ, zero, suc, ◌+◌, ◌<◌, ◌≤◌, Bool, false, cond, eqb, ◌⊎◌, inl, inr, refl, arith, ap, sym, subst, ◌∙◌}
use Rattle.std.proofs.lemmas.Bool.{cases_lt, cases_eq}
use Rattle.std.proofs.lemmas.Bool.Decides.{nat_tests}
use Rattle.map_machines.specs.Given.TablesDeclared.status.TheConstants.Status.{PENDING, ABORTED, PROMOTED}
use Rattle.map_rule.specs.Chart.{Chart, Lost, put}
use Rattle.map_rule.specs.Rule.{Rule, Common, is_free}
use Rattle.map_rule.specs.Moves.{Move, Links, Stores, Replaces, Removes, Marks, MarksBlocking, Skips, Unmarks, Puts, Covers, PutsLate, Claims, Reclaims, Counts, GivesUp, Aborts, Promotes, Announces, after, Allowed}
use Rattle.map_rule.specs.Moments.{Moments}
use Rattle.map_rule.proofs.Moves.Writes.{put_here, put_elsewhere}

module _ {K : Type 0} (same : K → K → Bool) (spot : ℕ → K → ℕ → ℕ) where
  pub first_below : (c : Chart K) → Rule same spot false c → (t : ℕ) → t < c.first → t ≢ c.past
  first_below c rule t l e = elim (cases_lt 0 c.past) [
    | inl some ↦ (let k = rule.common.rooted some in omega (arith, k, l, e))
    | inr none ↦ (let k = rule.common.rootless (omega (arith, none)) in omega (arith, k, l))
  ]

  -- a table that the root has left stays aborted
  pub aborted_on : (move : Move K) (c : Chart K) → Rule same spot false c → Allowed same spot false move c → (t : ℕ) → t < c.first → c.status t ≡ ABORTED → (after spot false move c).status t ≡ ABORTED
  aborted_on (Links len limit) c rule a t l s = put_elsewhere c.status c.past (cond (eqb c.past 0) PROMOTED PENDING) t (first_below c rule t l) ∙ s
  aborted_on (Stores u k j) c rule a t l s = s
  aborted_on (Replaces u i k) c rule a t l s = s
  aborted_on (Removes u i) c rule a t l s = s
  aborted_on (Marks caller i) c rule a t l s = s
  aborted_on (MarksBlocking i) c rule a t l s = s
  aborted_on (Skips caller u i) c rule a t l s = s
  aborted_on (Unmarks caller i) c rule a t l s = s
  aborted_on (Puts caller i u k j) c rule a t l s = s
  aborted_on (Covers caller i) c rule a t l s = s
  aborted_on (PutsLate u i n) c rule a t l s = s
  aborted_on (Claims caller u chunk) c rule a t l s = s
  aborted_on (Reclaims u claim) c rule a t l s = s
  aborted_on (Counts caller u number) c rule a t l s = s
  aborted_on (GivesUp caller u) c rule a t l s = s
  aborted_on (Aborts u) c rule a t l s = put_elsewhere c.status u ABORTED t (λ e. let f = a.1 in omega (arith, e, l, f)) ∙ s
  aborted_on (Promotes u) c rule a t l s = s
  aborted_on (Announces u) c rule a t l s = put_elsewhere c.status u PROMOTED t (λ e. a.2 (ap c.status (sym e) ∙ s)) ∙ s

  -- only the last table is promoted
  pub none_behind : (t : ℕ) (c : Chart K) → Rule same spot false c → Allowed same spot false (Promotes t) c → (u : ℕ) → t < u → u < c.past → ⊥
  none_behind t c rule a u l m =
      let aborted = rule.in_mode.aborted t a.0 (omega (arith, l, m)) in
      let lost = rule.in_mode.given_up t a.0 aborted in
      let counted = a.2 lost.0 lost.1 in
      let it = lost.2 in
      cc (counted, it)

  -- a table all of whose shares are counted is all claimed
  all_claimed : (c : Chart K) (u : ℕ) → Rule same spot false c → Allowed same spot false (Promotes u) c → c.len c.first ≤ c.claim u
  all_claimed c u rule a = by (c.len c.first) refl
    where
      by : (n : ℕ) → c.len c.first ≡ n → c.len c.first ≤ c.claim u
      by zero e = omega (arith, e)
      by (suc n) e =
          let l : n < c.len c.first = omega (arith, e) in
          let counted = a.2 n l in
          let claimed = rule.in_mode.claims u n a.0 a.1 l in
          let not_from : leb (c.claim u) n ≡ false = sym claimed ∙ ap is_free counted in
          let below : n < c.claim u = grind (arith, nat_tests, not_from) in
          omega (arith, e, below)

  pub left_behind : (c : Chart K) (u : ℕ) → Rule same spot false c → Allowed same spot false (Promotes u) c → (t : ℕ) → c.first < t → t < c.past
      → (t ≤ u) × ((c.status t ≡ ABORTED) ⊎ (c.len c.first ≤ c.claim t))
  left_behind c u rule a t l m = elim (cases_lt t u) [
    | inl before ↦ (omega (arith, before), inl (rule.in_mode.aborted t l (let p = a.1 in omega (arith, before, p))))
    | inr on ↦ (elim (cases_eq t u) [
      | inl here ↦ (omega (arith, here), inr (subst (λ (v : ℕ). c.len c.first ≤ c.claim v) (sym here) (all_claimed c u rule a)))
      | inr other ↦ absurd (none_behind u c rule a t (omega (arith, on, other)) m)
    ])
  ]

  -- a table that lost a share is not the one that is promoted
  pub lost_behind : (c : Chart K) (u : ℕ) → Rule same spot false c → Allowed same spot false (Promotes u) c → (t j : ℕ) → c.first < t → t < c.past → j < c.len c.first → c.share t j ≡ Lost → c.status t ≡ ABORTED
  lost_behind c u rule a t j l m k lost = elim (cases_lt t u) [
    | inl before ↦ rule.in_mode.aborted t l (let p = a.1 in omega (arith, before, p))
    | inr on ↦ (elim (cases_eq t u) [
      | inl here ↦ absurd (let counted = a.2 j k in let it = ap (λ (v : ℕ). c.share v j) here in cc (counted, it, lost))
      | inr other ↦ absurd (none_behind u c rule a t (omega (arith, on, other)) m)
    ])
  ]

  -- the table behind one that is aborted was linked while the same one was the root
  pub follows_on : (move : Move K) (c : Chart K) → Rule same spot false c → Moments false c → Allowed same spot false move c → (t : ℕ) → suc t < (after spot false move c).past → (after spot false move c).status t ≡ ABORTED
      → (after spot false move c).from (suc t) ≡ (after spot false move c).from t
  follows_on (Links len limit) c rule m a t l s = by (cases_lt (suc t) c.past)
    where
      was : c.status t ≡ ABORTED
      was = sym (put_elsewhere c.status c.past (cond (eqb c.past 0) PROMOTED PENDING) t (λ e. omega (arith, e, l))) ∙ s

      same_from : put c.from c.past c.first t ≡ c.from t
      same_from = put_elsewhere c.from c.past c.first t (λ e. omega (arith, e, l))

      behind : t < c.past → c.past ≤ suc t → c.first < t
      behind there last = elim (cases_lt c.first t) [
        | inl k ↦ k
        | inr k ↦ absurd (rule.common.live (let root = rule.common.rooted (omega (arith, there)) in let is : c.first ≡ t = omega (arith, k, root, last) in ap c.status is ∙ was))
      ]

      by : (suc t < c.past) ⊎ (c.past ≤ suc t) → put c.from c.past c.first (suc t) ≡ put c.from c.past c.first t
      by (inl before) = put_elsewhere c.from c.past c.first (suc t) (λ e. omega (arith, e, before)) ∙ m.follows refl t before was ∙ sym same_from
      by (inr last) =
          let is : suc t ≡ c.past = omega (arith, last, l) in
          let there : t < c.past = omega (arith, is) in
          ap (put c.from c.past c.first) is ∙ put_here c.from c.past c.first ∙ sym (m.froms refl t (behind there last) there) ∙ sym same_from
  follows_on (Stores u o g) c rule m a t l s = m.follows refl t l s
  follows_on (Replaces u i o) c rule m a t l s = m.follows refl t l s
  follows_on (Removes u i) c rule m a t l s = m.follows refl t l s
  follows_on (Marks caller i) c rule m a t l s = m.follows refl t l s
  follows_on (MarksBlocking i) c rule m a t l s = m.follows refl t l s
  follows_on (Skips caller u i) c rule m a t l s = m.follows refl t l s
  follows_on (Unmarks caller i) c rule m a t l s = m.follows refl t l s
  follows_on (Puts caller i u o g) c rule m a t l s = m.follows refl t l s
  follows_on (Covers caller i) c rule m a t l s = m.follows refl t l s
  follows_on (PutsLate u i n) c rule m a t l s = m.follows refl t l s
  follows_on (Claims caller u chunk) c rule m a t l s = m.follows refl t l s
  follows_on (Reclaims u claim) c rule m a t l s = m.follows refl t l s
  follows_on (Counts caller u number) c rule m a t l s = m.follows refl t l s
  follows_on (GivesUp caller u) c rule m a t l s = m.follows refl t l s
  follows_on (Aborts u) c rule m a t l s = elim (cases_eq t u) [
    | inl here ↦ m.follows refl t l (rule.in_mode.aborted t (let f = a.1 in omega (arith, f, here)) l)
    | inr other ↦ m.follows refl t l (sym (put_elsewhere c.status u ABORTED t other) ∙ s)
  ]
  follows_on (Promotes u) c rule m a t l s = m.follows refl t l s
  follows_on (Announces u) c rule m a t l s = elim (cases_eq t u) [
    | inl here ↦ absurd (let e = sym (put_here c.status u PROMOTED) ∙ ap (put c.status u PROMOTED) (sym here) ∙ s in cc e)
    | inr other ↦ m.follows refl t l (sym (put_elsewhere c.status u PROMOTED t other) ∙ s)
  ]

  -- the table behind one that is not aborted was linked while that one was the root
  pub next_from_on : (move : Move K) (c : Chart K) → Rule same spot false c → Moments false c → Allowed same spot false move c → (t : ℕ) → suc t < (after spot false move c).past
      → (after spot false move c).status t ≢ ABORTED → (after spot false move c).from (suc t) ≡ t
  next_from_on (Links len limit) c rule m a t l s = by (cases_lt (suc t) c.past)
    where
      live : c.status t ≢ ABORTED
      live e = s (put_elsewhere c.status c.past (cond (eqb c.past 0) PROMOTED PENDING) t (λ is. omega (arith, is, l)) ∙ e)

      at_root : c.past ≤ suc t → c.first ≡ t
      at_root last = elim (cases_lt c.first t) [
        | inl behind ↦ absurd (live (a.2 t behind (omega (arith, l, last))))
        | inr k ↦ (let root = rule.common.rooted (omega (arith, l, last)) in omega (arith, k, root, last))
      ]

      by : (suc t < c.past) ⊎ (c.past ≤ suc t) → put c.from c.past c.first (suc t) ≡ t
      by (inl before) = put_elsewhere c.from c.past c.first (suc t) (λ e. omega (arith, e, before)) ∙ m.next_from refl t before live
      by (inr last) = let is : suc t ≡ c.past = omega (arith, last, l) in ap (put c.from c.past c.first) is ∙ put_here c.from c.past c.first ∙ at_root last
  next_from_on (Stores u o g) c rule m a t l s = m.next_from refl t l s
  next_from_on (Replaces u i o) c rule m a t l s = m.next_from refl t l s
  next_from_on (Removes u i) c rule m a t l s = m.next_from refl t l s
  next_from_on (Marks caller i) c rule m a t l s = m.next_from refl t l s
  next_from_on (MarksBlocking i) c rule m a t l s = m.next_from refl t l s
  next_from_on (Skips caller u i) c rule m a t l s = m.next_from refl t l s
  next_from_on (Unmarks caller i) c rule m a t l s = m.next_from refl t l s
  next_from_on (Puts caller i u o g) c rule m a t l s = m.next_from refl t l s
  next_from_on (Covers caller i) c rule m a t l s = m.next_from refl t l s
  next_from_on (PutsLate u i n) c rule m a t l s = m.next_from refl t l s
  next_from_on (Claims caller u chunk) c rule m a t l s = m.next_from refl t l s
  next_from_on (Reclaims u claim) c rule m a t l s = m.next_from refl t l s
  next_from_on (Counts caller u number) c rule m a t l s = m.next_from refl t l s
  next_from_on (GivesUp caller u) c rule m a t l s = m.next_from refl t l s
  next_from_on (Aborts u) c rule m a t l s = elim (cases_eq t u) [
    | inl here ↦ absurd (s (ap (put c.status u ABORTED) here ∙ put_here c.status u ABORTED))
    | inr other ↦ m.next_from refl t l (λ e. s (put_elsewhere c.status u ABORTED t other ∙ e))
  ]
  next_from_on (Promotes u) c rule m a t l s = m.next_from refl t l s
  next_from_on (Announces u) c rule m a t l s = elim (cases_eq t u) [
    | inl here ↦ m.next_from refl t l (λ e. a.2 (ap c.status (sym here) ∙ e))
    | inr other ↦ m.next_from refl t l (λ e. s (put_elsewhere c.status u PROMOTED t other ∙ e))
  ]

  pub earlier_on : (incremental : Bool) (move : Move K) (c : Chart K) → Common same spot incremental c → Moments incremental c → Allowed same spot incremental move c
      → (t : ℕ) → 0 < t → t < (after spot incremental move c).past → (after spot incremental move c).from t < t
  earlier_on b (Links len limit) c common m a t l k = by (cases_lt t c.past)
    where
      by : (t < c.past) ⊎ (c.past ≤ t) → put c.from c.past c.first t < t
      by (inl before) = subst (λ (n : ℕ). n < t) (sym (put_elsewhere c.from c.past c.first t (λ e. omega (arith, e, before)))) (m.earlier t l before)
      by (inr here) =
          let is : t ≡ c.past = omega (arith, here, k) in
          subst (λ (n : ℕ). n < t) (sym (ap (put c.from c.past c.first) is ∙ put_here c.from c.past c.first)) (let root = common.rooted (omega (arith, l, is)) in omega (arith, root, is))
  earlier_on b (Stores u o g) c common m a t l k = m.earlier t l k
  earlier_on b (Replaces u i o) c common m a t l k = m.earlier t l k
  earlier_on b (Removes u i) c common m a t l k = m.earlier t l k
  earlier_on b (Marks caller i) c common m a t l k = m.earlier t l k
  earlier_on b (MarksBlocking i) c common m a t l k = m.earlier t l k
  earlier_on b (Skips caller u i) c common m a t l k = m.earlier t l k
  earlier_on b (Unmarks caller i) c common m a t l k = m.earlier t l k
  earlier_on b (Puts caller i u o g) c common m a t l k = m.earlier t l k
  earlier_on b (Covers caller i) c common m a t l k = m.earlier t l k
  earlier_on b (PutsLate u i n) c common m a t l k = m.earlier t l k
  earlier_on b (Claims caller u chunk) c common m a t l k = m.earlier t l k
  earlier_on b (Reclaims u claim) c common m a t l k = m.earlier t l k
  earlier_on b (Counts caller u number) c common m a t l k = m.earlier t l k
  earlier_on b (GivesUp caller u) c common m a t l k = m.earlier t l k
  earlier_on b (Aborts u) c common m a t l k = m.earlier t l k
  earlier_on b (Promotes u) c common m a t l k = m.earlier t l k
  earlier_on b (Announces u) c common m a t l k = m.earlier t l k

  -- tables that the root has come to were claimed, where they were not aborted
  module _ (c : Chart K) (rule : Rule same spot false c) (m : Moments false c) where
    -- where the root stays
    standing_claimed : (c2 : Chart K) → ((t : ℕ) → t < c.first → c.status t ≡ ABORTED → c2.status t ≡ ABORTED) → ((t : ℕ) → t < c.past → c2.from t ≡ c.from t)
        → ((t : ℕ) → t < c.past → c2.len t ≡ c.len t) → ((t : ℕ) → c.claim t ≤ c2.claim t)
        → (t : ℕ) → 0 < t → t ≤ c.first → (c2.status t ≡ ABORTED) ⊎ (c2.len (c2.from t) ≤ c2.claim t)
    standing_claimed c2 aborted from len claim t l k = by (cases_lt t c.first) (m.claimed refl t l k)
      where
        there : t < c.past
        there = elim (cases_lt 0 c.past) [
          | inl some ↦ (let f = rule.common.rooted some in omega (arith, k, f))
          | inr none ↦ absurd (let f = rule.common.rootless (omega (arith, none)) in omega (arith, k, f, l))
        ]

        full : c.len (c.from t) ≤ c.claim t → c2.len (c2.from t) ≤ c2.claim t
        full h =
            let before = m.earlier t l there in
            let is : c2.len (c2.from t) ≡ c.len (c.from t) = ap c2.len (from t there) ∙ len (c.from t) (omega (arith, before, there)) in
            let more = claim t in omega (arith, is, h, more)

        by : (t < c.first) ⊎ (c.first ≤ t) → (c.status t ≡ ABORTED) ⊎ (c.len (c.from t) ≤ c.claim t) → (c2.status t ≡ ABORTED) ⊎ (c2.len (c2.from t) ≤ c2.claim t)
        by (inl before) (inl gone) = inl (aborted t before gone)
        by (inr root) (inl gone) = absurd (rule.common.live (let is : c.first ≡ t = omega (arith, root, k) in ap c.status is ∙ gone))
        by before (inr h) = inr (full h)

    -- where it goes on
    passing_claimed : (u : ℕ) → Allowed same spot false (Promotes u) c → (t : ℕ) → 0 < t → t ≤ u → (c.status t ≡ ABORTED) ⊎ (c.len (c.from t) ≤ c.claim t)
    passing_claimed u a t l k = elim (cases_lt c.first t) [
      | inl behind ↦ (let there : t < c.past = (let p = a.1 in omega (arith, k, p)) in
          elim ((left_behind c u rule a t behind there).1) as (λ _. (c.status t ≡ ABORTED) ⊎ (c.len (c.from t) ≤ c.claim t)) [
            | inl gone ↦ inl gone
            | inr h ↦ inr (subst (λ (n : ℕ). c.len n ≤ c.claim t) (sym (m.froms refl t behind there)) h)
          ])
      | inr before ↦ m.claimed refl t l before
    ]

    claims_more : (u chunk t : ℕ) → c.claim t ≤ put c.claim u (c.claim u + chunk) t
    claims_more u chunk t = elim (cases_eq t u) as (λ _. c.claim t ≤ put c.claim u (c.claim u + chunk) t) [
      | inl here ↦ (let is = ap (put c.claim u (c.claim u + chunk)) here ∙ put_here c.claim u (c.claim u + chunk) in let e = ap c.claim here in omega (arith, is, e))
      | inr other ↦ (let is = put_elsewhere c.claim u (c.claim u + chunk) t other in omega (arith, is))
    ]

  pub claimed_on : (move : Move K) (c : Chart K) → Rule same spot false c → Moments false c → Allowed same spot false move c → (t : ℕ) → 0 < t → t ≤ (after spot false move c).first
      → ((after spot false move c).status t ≡ ABORTED) ⊎ ((after spot false move c).len ((after spot false move c).from t) ≤ (after spot false move c).claim t)
  claimed_on (Links len limit) c rule m a = standing_claimed c rule m (after spot false (Links len limit) c) (aborted_on (Links len limit) c rule a) (λ t l. put_elsewhere c.from c.past c.first t (λ e. omega (arith, e, l))) (λ t l. put_elsewhere c.len c.past len t (λ e. omega (arith, e, l))) (λ t. omega arith)
  claimed_on (Stores u o g) c rule m a = standing_claimed c rule m (after spot false (Stores u o g) c) (aborted_on (Stores u o g) c rule a) (λ t l. refl) (λ t l. refl) (λ t. omega arith)
  claimed_on (Replaces u i o) c rule m a = standing_claimed c rule m (after spot false (Replaces u i o) c) (aborted_on (Replaces u i o) c rule a) (λ t l. refl) (λ t l. refl) (λ t. omega arith)
  claimed_on (Removes u i) c rule m a = standing_claimed c rule m (after spot false (Removes u i) c) (aborted_on (Removes u i) c rule a) (λ t l. refl) (λ t l. refl) (λ t. omega arith)
  claimed_on (Marks caller i) c rule m a = standing_claimed c rule m (after spot false (Marks caller i) c) (aborted_on (Marks caller i) c rule a) (λ t l. refl) (λ t l. refl) (λ t. omega arith)
  claimed_on (MarksBlocking i) c rule m a = standing_claimed c rule m (after spot false (MarksBlocking i) c) (aborted_on (MarksBlocking i) c rule a) (λ t l. refl) (λ t l. refl) (λ t. omega arith)
  claimed_on (Skips caller u i) c rule m a = standing_claimed c rule m (after spot false (Skips caller u i) c) (aborted_on (Skips caller u i) c rule a) (λ t l. refl) (λ t l. refl) (λ t. omega arith)
  claimed_on (Unmarks caller i) c rule m a = standing_claimed c rule m (after spot false (Unmarks caller i) c) (aborted_on (Unmarks caller i) c rule a) (λ t l. refl) (λ t l. refl) (λ t. omega arith)
  claimed_on (Puts caller i u o g) c rule m a = standing_claimed c rule m (after spot false (Puts caller i u o g) c) (aborted_on (Puts caller i u o g) c rule a) (λ t l. refl) (λ t l. refl) (λ t. omega arith)
  claimed_on (Covers caller i) c rule m a = standing_claimed c rule m (after spot false (Covers caller i) c) (aborted_on (Covers caller i) c rule a) (λ t l. refl) (λ t l. refl) (λ t. omega arith)
  claimed_on (PutsLate u i n) c rule m a = standing_claimed c rule m (after spot false (PutsLate u i n) c) (aborted_on (PutsLate u i n) c rule a) (λ t l. refl) (λ t l. refl) (λ t. omega arith)
  claimed_on (Claims caller u chunk) c rule m a = standing_claimed c rule m (after spot false (Claims caller u chunk) c) (aborted_on (Claims caller u chunk) c rule a) (λ t l. refl) (λ t l. refl) (claims_more c rule m u chunk)
  claimed_on (Reclaims u claim) c rule m a = standing_claimed c rule m (after spot false (Reclaims u claim) c) (aborted_on (Reclaims u claim) c rule a) (λ t l. refl) (λ t l. refl) (absurd (let e = a.0 in cc e))
  claimed_on (Counts caller u number) c rule m a = standing_claimed c rule m (after spot false (Counts caller u number) c) (aborted_on (Counts caller u number) c rule a) (λ t l. refl) (λ t l. refl) (λ t. omega arith)
  claimed_on (GivesUp caller u) c rule m a = standing_claimed c rule m (after spot false (GivesUp caller u) c) (aborted_on (GivesUp caller u) c rule a) (λ t l. refl) (λ t l. refl) (λ t. omega arith)
  claimed_on (Aborts u) c rule m a = standing_claimed c rule m (after spot false (Aborts u) c) (aborted_on (Aborts u) c rule a) (λ t l. refl) (λ t l. refl) (λ t. omega arith)
  claimed_on (Promotes u) c rule m a = passing_claimed c rule m u a
  claimed_on (Announces u) c rule m a = standing_claimed c rule m (after spot false (Announces u) c) (aborted_on (Announces u) c rule a) (λ t l. refl) (λ t l. refl) (λ t. omega arith)
