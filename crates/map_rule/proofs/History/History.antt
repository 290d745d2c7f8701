-- Each move keeps the history of its map, and adds to it.
use Rattle.std.specs.Prelude.{leb, ltb, ◌&&◌}
use Rattle.std.proofs.Common.{◌≡◌, ◌≢◌, ℕ, suc, ◌<◌, ◌≤◌, Bool, true, false, cond, ◌⊎◌, inl, inr, refl, arith, ap, sym, subst, ◌∙◌}
use Rattle.std.proofs.lemmas.Bool.{cases_lt}
use Rattle.map_machines.specs.Given.TablesDeclared.status.TheConstants.Status.{ABORTED}
use Rattle.map_rule.specs.Chart.{Holds, Chart, put}
use Rattle.map_rule.specs.Rule.{Rule}
use Rattle.map_rule.specs.Moves.{Move, Links, Stores, Replaces, Removes, Marks, MarksBlocking, Skips, Unmarks, Puts, Covers, PutsLate, Claims, Reclaims, Counts, GivesUp, Aborts, Promotes, Announces, passing, after, Allowed}
use Rattle.map_rule.specs.Lasts.{Lasts}
use Rattle.map_rule.specs.Moments.{Names, Moments, Remembers, MovesPreserveTheHistory, HistoryBegins}
use Rattle.map_rule.proofs.Moves.Writes.{put_here, put_elsewhere}
use Rattle.map_rule.proofs.History.Claimed.{aborted_on, claimed_on, earlier_on, follows_on, next_from_on, none_behind}
use Rattle.map_rule.proofs.Moves.Promised.{moves_keep}

module _ {K : Type 0} (same : K → K → Bool) (spot : ℕ → K → ℕ → ℕ) (incremental : Bool) where
  -- What is remembered.

  -- where tables came from that are there
  abbrev SameFroms : Chart K → Chart K → Type 0
  SameFroms c c2 = (t : ℕ) → t < c.past → c2.from t ≡ c.from t

  -- the history is as it was
  still : (c c2 : Chart K) → c2.now ≡ c.now → c2.was ≡ c.was → c2.passed ≡ c.passed → c2.first ≡ c.first → SameFroms c c2 → Remembers incremental c c2
  still c c2 now was passed first froms = record {
    now = omega (arith, now);
    was = λ m l. ap (λ (f : ℕ → ℕ → Bool). f m) was;
    passed = λ t l. ap (λ (f : ℕ → ℕ). f t) passed;
    leaves = λ t l m. absurd (omega (arith, first, l, m));
    from = froms;
  }

  -- a moment comes to it
  on : (c c2 : Chart K) (current : ℕ → Bool) → c2.now ≡ suc c.now → c2.was ≡ put c.was (suc c.now) current → c2.passed ≡ c.passed → c2.first ≡ c.first → SameFroms c c2
      → Remembers incremental c c2
  on c c2 current now was passed first froms = record {
    now = omega (arith, now);
    was = λ m l. ap (λ (f : ℕ → ℕ → Bool). f m) was ∙ put_elsewhere c.was (suc c.now) current m (λ e. omega (arith, e, l));
    passed = λ t l. ap (λ (f : ℕ → ℕ). f t) passed;
    leaves = λ t l m. absurd (omega (arith, first, l, m));
    from = froms;
  }

  promoted : (c : Chart K) (t : ℕ) → c.first < t → Remembers incremental c (after spot incremental (Promotes t) c)
  promoted c t l = record {
    now = omega arith;
    was = λ m k. refl;
    passed = λ u k. not_left u (leb c.first u) (ltb u t) refl k;
    leaves = λ u k m. left u (leb c.first u) refl (ltb u t) refl k m;
    from = λ u k. refl;
  }
    where
      not_left : (u : ℕ) (a b : Bool) → leb c.first u ≡ a → u < c.first → cond (a && b) c.now (c.passed u) ≡ c.passed u
      not_left u true b e k = absurd (grind (arith, e, k))
      not_left u false b e k = refl

      left : (u : ℕ) (a : Bool) → leb c.first u ≡ a → (b : Bool) → ltb u t ≡ b → c.first ≤ u → u < t → c.now ≤ cond (a && b) c.now (c.passed u)
      left u true e true f k m = omega arith
      left u true e false f k m = absurd (grind (arith, f, m))
      left u false e b f k m = absurd (grind (arith, e, k))

  -- What a move does to it: nothing, one moment comes to it, or the root goes on.

  record IsStill (c c2 : Chart K) : Type 0 where
    now : c2.now ≡ c.now
    was : c2.was ≡ c.was
    current : c2.current ≡ c.current
    passed : c2.passed ≡ c.passed
    first : c2.first ≡ c.first
    froms : SameFroms c c2

  record GoesOn (c c2 : Chart K) : Type 0 where
    now : c2.now ≡ suc c.now
    was : c2.was ≡ put c.was (suc c.now) c2.current
    passed : c2.passed ≡ c.passed
    first : c2.first ≡ c.first
    froms : SameFroms c c2

  data Shape (c : Chart K) (c2 : Chart K) : Type 0 where
    Stands : IsStill c c2 → Shape c c2
    Changes : GoesOn c c2 → Shape c c2
    Leaves : (t : ℕ) → c.first < t → Allowed same spot incremental (Promotes t) c → c2 ≡ after spot incremental (Promotes t) c → Shape c c2

  nothing : (c c2 : Chart K) → c2.now ≡ c.now → c2.was ≡ c.was → c2.current ≡ c.current → c2.passed ≡ c.passed → c2.first ≡ c.first → SameFroms c c2 → Shape c c2
  nothing c c2 a b d e f g = Stands (record { now = a; was = b; current = d; passed = e; first = f; froms = g })

  one_moment : (c c2 : Chart K) → c2.now ≡ suc c.now → c2.was ≡ put c.was (suc c.now) c2.current → c2.passed ≡ c.passed → c2.first ≡ c.first → SameFroms c c2 → Shape c c2
  one_moment c c2 a b e f g = Changes (record { now = a; was = b; passed = e; first = f; froms = g })

  shape : (move : Move K) (c : Chart K) → Allowed same spot incremental move c → Shape c (after spot incremental move c)
  shape (Links len limit) c a = nothing c (after spot incremental (Links len limit) c) refl refl refl refl refl (λ t l. put_elsewhere c.from c.past c.first t (λ e. omega (arith, e, l)))
  shape (Stores t k j) c a = one_moment c (after spot incremental (Stores t k j) c) refl refl refl refl (λ t l. refl)
  shape (Replaces t i k) c a = one_moment c (after spot incremental (Replaces t i k) c) refl refl refl refl (λ t l. refl)
  shape (Removes t i) c a = one_moment c (after spot incremental (Removes t i) c) refl refl refl refl (λ t l. refl)
  shape (Marks caller i) c a = nothing c (after spot incremental (Marks caller i) c) refl refl refl refl refl (λ t l. refl)
  shape (MarksBlocking i) c a = nothing c (after spot incremental (MarksBlocking i) c) refl refl refl refl refl (λ t l. refl)
  shape (Skips caller t i) c a = nothing c (after spot incremental (Skips caller t i) c) refl refl refl refl refl (λ t l. refl)
  shape (Unmarks caller i) c a = nothing c (after spot incremental (Unmarks caller i) c) refl refl refl refl refl (λ t l. refl)
  shape (Puts caller i t k j) c a = nothing c (after spot incremental (Puts caller i t k j) c) refl refl refl refl refl (λ t l. refl)
  shape (Covers caller i) c a = nothing c (after spot incremental (Covers caller i) c) refl refl refl refl refl (λ t l. refl)
  shape (PutsLate t i n) c a = nothing c (after spot incremental (PutsLate t i n) c) refl refl refl refl refl (λ t l. refl)
  shape (Claims caller t chunk) c a = nothing c (after spot incremental (Claims caller t chunk) c) refl refl refl refl refl (λ t l. refl)
  shape (Reclaims t claim) c a = nothing c (after spot incremental (Reclaims t claim) c) refl refl refl refl refl (λ t l. refl)
  shape (Counts caller t number) c a = nothing c (after spot incremental (Counts caller t number) c) refl refl refl refl refl (λ t l. refl)
  shape (GivesUp caller t) c a = nothing c (after spot incremental (GivesUp caller t) c) refl refl refl refl refl (λ t l. refl)
  shape (Aborts t) c a = nothing c (after spot incremental (Aborts t) c) refl refl refl refl refl (λ t l. refl)
  shape (Promotes t) c a = Leaves t a.0 a refl
  shape (Announces t) c a = nothing c (after spot incremental (Announces t) c) refl refl refl refl refl (λ t l. refl)

  remembers : (c c2 : Chart K) → Shape c c2 → Remembers incremental c c2
  remembers c c2 (Stands s) = still c c2 s.now s.was s.passed s.first s.froms
  remembers c c2 (Changes s) = on c c2 c2.current s.now s.was s.passed s.first s.froms
  remembers c c2 (Leaves t l may is) = subst (λ (d : Chart K). Remembers incremental c d) (sym is) (promoted c t l)

  now_is : (c c2 : Chart K) → Shape c c2 → Moments incremental c → (n : ℕ) → c2.was c2.now n ≡ c2.current n
  now_is c c2 (Stands s) m n = ap (λ (f : ℕ → ℕ → Bool). f c2.now n) s.was ∙ ap (λ (k : ℕ). c.was k n) s.now ∙ m.now_is n ∙ sym (ap (λ (f : ℕ → Bool). f n) s.current)
  now_is c c2 (Changes s) m n =
      ap (λ (f : ℕ → ℕ → Bool). f c2.now n) s.was ∙ ap (λ (k : ℕ). put c.was (suc c.now) c2.current k n) s.now ∙ ap (λ (f : ℕ → Bool). f n) (put_here c.was (suc c.now) c2.current)
  now_is c c2 (Leaves t l may is) m n = subst (λ (d : Chart K). d.was d.now n ≡ d.current n) (sym is) (m.now_is n)

  -- no table was left later than now
  passed_most : (c : Chart K) (t u : ℕ) → Moments incremental c → u < t → passing c t u ≤ c.now
  passed_most c t u m l = by (leb c.first u) refl (ltb u t) refl
    where
      by : (a : Bool) → leb c.first u ≡ a → (b : Bool) → ltb u t ≡ b → cond (a && b) c.now (c.passed u) ≤ c.now
      by true e true f = omega arith
      by true e false f = absurd (grind (arith, f, l))
      by false e b f = m.passed_before u (grind (arith, e))

  passed_before : (c c2 : Chart K) → Shape c c2 → Moments incremental c → (t : ℕ) → t < c2.first → c2.passed t ≤ c2.now
  passed_before c c2 (Stands s) m t l =
      let k = m.passed_before t (omega (arith, l, s.first)) in let p = ap (λ (f : ℕ → ℕ). f t) s.passed in let n = s.now in omega (arith, k, p, n)
  passed_before c c2 (Changes s) m t l =
      let k = m.passed_before t (omega (arith, l, s.first)) in let p = ap (λ (f : ℕ → ℕ). f t) s.passed in let n = s.now in omega (arith, k, p, n)
  passed_before c c2 (Leaves u k may is) m t l =
      subst (λ (d : Chart K). d.passed t ≤ d.now) (sym is) (passed_most c u t m (subst (λ (d : Chart K). t < d.first) is l))

  passed_rise : (c c2 : Chart K) → Shape c c2 → Moments incremental c → (t u : ℕ) → t < u → u < c2.first → c2.passed t ≤ c2.passed u
  passed_rise c c2 (Stands s) m t u b l =
      let k = m.passed_rise t u b (omega (arith, l, s.first)) in let p = ap (λ (f : ℕ → ℕ). f t) s.passed in let q = ap (λ (f : ℕ → ℕ). f u) s.passed in omega (arith, k, p, q)
  passed_rise c c2 (Changes s) m t u b l =
      let k = m.passed_rise t u b (omega (arith, l, s.first)) in let p = ap (λ (f : ℕ → ℕ). f t) s.passed in let q = ap (λ (f : ℕ → ℕ). f u) s.passed in omega (arith, k, p, q)
  passed_rise c c2 (Leaves v k may is) m t u b l =
      subst (λ (d : Chart K). d.passed t ≤ d.passed u) (sym is) (by (cases_lt u c.first))
    where
      low : u < v
      low = subst (λ (d : Chart K). u < d.first) is l

      rem : Remembers incremental c (after spot incremental (Promotes v) c)
      rem = promoted c v k

      by : (u < c.first) ⊎ (c.first ≤ u) → passing c v t ≤ passing c v u
      by (inl before) =
          let p = rem.passed t (omega (arith, b, before)) in let q = rem.passed u before in let r = m.passed_rise t u b before in omega (arith, p, q, r)
      by (inr behind) =
          let p = passed_most c v t m (omega (arith, b, low)) in let q = rem.leaves u behind low in omega (arith, p, q)

-- In blocking mode, a table that the root has left names what the map had then.
module _ {K : Type 0} (same : K → K → Bool) (spot : ℕ → K → ℕ → ℕ) where
  module _ (c c2 : Chart K) (rule : Rule same spot false c) (rule2 : Rule same spot false c2) (lasts : Lasts same spot false c c2) (m : Moments false c) (rem : Remembers false c c2) where
    is_there : (t : ℕ) → t < c.first → t < c.past
    is_there t l = elim (cases_lt 0 c.past) [
      | inl some ↦ (let k = rule.common.rooted some in omega (arith, k, l))
      | inr none ↦ absurd (let k = rule.common.rootless (omega (arith, none)) in omega (arith, k, l))
    ]

    place_same : (t i : ℕ) → t < c.first → c.status t ≢ ABORTED → c2.place t i ≡ c.place t i
    place_same t i l s = elim (cases_lt i (c.len t)) [
      | inl within ↦ lasts.frozen t i refl (rule.in_mode.left t i l s within)
      | inr out ↦ (let there = is_there t l in let more = lasts.past in let len = (lasts.lens t there).0 in
          rule2.common.outside t i (omega (arith, there, more)) (omega (arith, len, out)) ∙ sym (rule.common.outside t i there out))
    ]

    was_same : (t n : ℕ) → t < c.first → c2.was (c2.passed t) n ≡ c.was (c.passed t) n
    was_same t n l = ap (λ (k : ℕ). c2.was k n) (rem.passed t l) ∙ ap (λ (f : ℕ → Bool). f n) (rem.was (c.passed t) (m.passed_before t l))

    frozen_on : (t n : ℕ) → t < c.first → c.status t ≢ ABORTED → (c2.was (c2.passed t) n ≡ true → Names c2 t n) × (Names c2 t n → c2.was (c2.passed t) n ≡ true)
    frozen_on t n l s = (
      (λ e. let k = (m.frozen refl t n l s).0 (sym (was_same t n l) ∙ e) in (k.0, k.1, k.2, place_same t k.0 l s ∙ k.3)),
      (λ k. was_same t n l ∙ (m.frozen refl t n l s).1 (k.0, k.1, k.2, sym (place_same t k.0 l s) ∙ k.3)),
    )

  -- the root names what the map has
  pub root_names : (c : Chart K) → Rule same spot false c → (n : ℕ) → (c.current n ≡ true → Names c c.first n) × (Names c c.first n → c.current n ≡ true)
  root_names c rule n = (
    (λ e. let r = rule.common.stands n e in (r.1, r.2, r.3, subst (λ (t : ℕ). c.place t r.1 ≡ Holds n r.2 r.3) r.6 r.4)),
    (λ k. rule.common.is_current c.first k.0 n k.1 k.2 k.3 ((rule.in_mode.plain c.first k.0 n k.1 k.2 k.3).0) refl),
  )

  froms : (move : Move K) (c : Chart K) → Rule same spot false c → Moments false c → Allowed same spot false move c → (t : ℕ) → (after spot false move c).first < t → t < (after spot false move c).past
      → (after spot false move c).from t ≡ (after spot false move c).first
  froms (Links len limit) c rule m a t l k = by (cases_lt t c.past)
    where
      by : (t < c.past) ⊎ (c.past ≤ t) → put c.from c.past c.first t ≡ c.first
      by (inl before) = put_elsewhere c.from c.past c.first t (λ e. omega (arith, e, before)) ∙ m.froms refl t l before
      by (inr here) = ap (put c.from c.past c.first) (omega (arith, here, k)) ∙ put_here c.from c.past c.first
  froms (Stores u o j) c rule m a t l k = m.froms refl t l k
  froms (Replaces u i o) c rule m a t l k = m.froms refl t l k
  froms (Removes u i) c rule m a t l k = m.froms refl t l k
  froms (Marks caller i) c rule m a t l k = m.froms refl t l k
  froms (MarksBlocking i) c rule m a t l k = m.froms refl t l k
  froms (Skips caller u i) c rule m a t l k = m.froms refl t l k
  froms (Unmarks caller i) c rule m a t l k = m.froms refl t l k
  froms (Puts caller i u o j) c rule m a t l k = m.froms refl t l k
  froms (Covers caller i) c rule m a t l k = m.froms refl t l k
  froms (PutsLate u i n) c rule m a t l k = m.froms refl t l k
  froms (Claims caller u chunk) c rule m a t l k = m.froms refl t l k
  froms (Reclaims u claim) c rule m a t l k = m.froms refl t l k
  froms (Counts caller u number) c rule m a t l k = m.froms refl t l k
  froms (GivesUp caller u) c rule m a t l k = m.froms refl t l k
  froms (Aborts u) c rule m a t l k = m.froms refl t l k
  froms (Promotes u) c rule m a t l k = absurd (none_behind same spot u c rule a t l k)
  froms (Announces u) c rule m a t l k = m.froms refl t l k

  -- what the root leaves names what the map has now
  left_names : (c : Chart K) (u : ℕ) → Rule same spot false c → Moments false c → Allowed same spot false (Promotes u) c → (t n : ℕ) → c.first ≤ t → t < u → c.status t ≢ ABORTED
      → (c.was (passing c u t) n ≡ true → Names c t n) × (Names c t n → c.was (passing c u t) n ≡ true)
  left_names c u rule m a t n l k s = elim (cases_lt c.first t) [
    | inl behind ↦ absurd (s (rule.in_mode.aborted t behind (let p = a.1 in omega (arith, k, p))))
    | inr root ↦ (let here : t ≡ c.first = omega (arith, l, root) in
        let at : passing c u t ≡ c.now = by (leb c.first t) refl (ltb t u) refl in
        let was : c.was (passing c u t) n ≡ c.current n = ap (λ (o : ℕ). c.was o n) at ∙ m.now_is n in
        let names = root_names c rule n in (
          (λ e. subst (λ (o : ℕ). Names c o n) (sym here) (names.0 (sym was ∙ e))),
          (λ e. was ∙ names.1 (subst (λ (o : ℕ). Names c o n) here e)),
        ))
  ]
    where
      by : (x : Bool) → leb c.first t ≡ x → (y : Bool) → ltb t u ≡ y → cond (x && y) c.now (c.passed t) ≡ c.now
      by true e true f = refl
      by true e false f = absurd (grind (arith, f, k))
      by false e y f = absurd (grind (arith, e, l))

  frozen : (move : Move K) (c c2 : Chart K) → c2 ≡ after spot false move c → Rule same spot false c → Rule same spot false c2 → Lasts same spot false c c2 → Moments false c → Allowed same spot false move c
      → Shape same spot false c c2 → (t n : ℕ) → t < c2.first → c2.status t ≢ ABORTED → (c2.was (c2.passed t) n ≡ true → Names c2 t n) × (Names c2 t n → c2.was (c2.passed t) n ≡ true)
  frozen move c c2 is rule rule2 lasts m a sh t n l s = by (cases_lt t c.first)
    where
      before : t < c.first → c.status t ≢ ABORTED
      before lt e = s (ap (λ (d : Chart K). d.status t) is ∙ aborted_on same spot move c rule a t lt e)

      at_root : Shape same spot false c c2 → c.first ≤ t → (c2.was (c2.passed t) n ≡ true → Names c2 t n) × (Names c2 t n → c2.was (c2.passed t) n ≡ true)
      at_root (Stands k) ge = absurd (let f = k.first in omega (arith, f, l, ge))
      at_root (Changes k) ge = absurd (let f = k.first in omega (arith, f, l, ge))
      at_root (Leaves u k may same) ge =
          subst (λ (d : Chart K). (d.was (d.passed t) n ≡ true → Names d t n) × (Names d t n → d.was (d.passed t) n ≡ true)) (sym same)
          (left_names c u rule m may t n ge (subst (λ (d : Chart K). t < d.first) same l) (subst (λ (d : Chart K). d.status t ≢ ABORTED) same s))

      by : (t < c.first) ⊎ (c.first ≤ t) → (c2.was (c2.passed t) n ≡ true → Names c2 t n) × (Names c2 t n → c2.was (c2.passed t) n ≡ true)
      by (inl lt) = frozen_on c c2 rule rule2 lasts m (remembers same spot false c c2 sh) t n lt (before lt)
      by (inr ge) = at_root sh ge

  kept_blocking : MovesPreserveTheHistory same spot false
  kept_blocking lawful move c rule m a =
      let kept = moves_keep same spot false lawful move c rule a in
      let c2 = after spot false move c in
      let sh = shape same spot false move c a in (
        record {
          now_is = now_is same spot false c c2 sh m;
          passed_rise = passed_rise same spot false c c2 sh m;
          passed_before = passed_before same spot false c c2 sh m;
          frozen = λ e. frozen move c c2 refl rule kept.0 kept.1 m a sh;
          froms = λ e. froms move c rule m a;
          follows = λ e. follows_on same spot move c rule m a;
          next_from = λ e. next_from_on same spot move c rule m a;
          earlier = earlier_on same spot false move c rule.common m a;
          claimed = λ e. claimed_on same spot move c rule m a;
        },
        remembers same spot false c c2 sh,
      )

  kept_incremental : MovesPreserveTheHistory same spot true
  kept_incremental lawful move c rule m a =
      let c2 = after spot true move c in
      let sh = shape same spot true move c a in (
        record {
          now_is = now_is same spot true c c2 sh m;
          passed_rise = passed_rise same spot true c c2 sh m;
          passed_before = passed_before same spot true c c2 sh m;
          frozen = λ e. absurd (cc e);
          froms = λ e. absurd (cc e);
          follows = λ e. absurd (cc e);
          next_from = λ e. absurd (cc e);
          earlier = earlier_on same spot true move c rule.common m a;
          claimed = λ e. absurd (cc e);
        },
        remembers same spot true c c2 sh,
      )

  pub history_kept : (incremental : Bool) → MovesPreserveTheHistory same spot incremental
  history_kept true = kept_incremental
  history_kept false = kept_blocking

pub history_begins : (K : Type 0) (incremental : Bool) → HistoryBegins K incremental
history_begins K incremental = record {
  now_is = λ n. refl;
  passed_rise = λ t u l m. absurd (omega (arith, m));
  passed_before = λ t l. absurd (omega (arith, l));
  frozen = λ e t n l. absurd (omega (arith, l));
  froms = λ e t l m. absurd (omega (arith, m));
  follows = λ e t l. absurd (omega (arith, l));
  next_from = λ e t l. absurd (omega (arith, l));
  earlier = λ t l m. absurd (omega (arith, m));
  claimed = λ e t l m. absurd (omega (arith, l, m));
}
