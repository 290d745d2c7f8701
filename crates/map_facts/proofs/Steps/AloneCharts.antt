-- In blocking mode, what a caller that is alone knows of the tables stays as it makes its moves.
use Rattle.std.proofs.Common.{◌≡◌, ◌≢◌, ℕ, zero, suc, ◌+◌, ◌<◌, ◌≤◌, Bool, true, false, cond, eqb, leb, ltb, ◌&&◌, ◌⊎◌, inl, inr, refl, ap, sym, subst, ◌∙◌, arith}
use Rattle.std.proofs.lemmas.Bool.{cases_eq, cases_lt, eq-eqb, ne_eqb, lt-leb}
use Rattle.std.proofs.lemmas.Bool.Decides.{eqb_tells}
use Rattle.papaya_raw.specs.Given.TablesDeclared.status.TheConstants.Status.{PROMOTED, ABORTED}
use Rattle.map_rule.specs.Chart.{Share, Free, Claimed, Done, Counted, Lost, Chart, put, put_in, is_counted}
use Rattle.map_rule.specs.Rule.{Rule, no_table, total, is_free}
use Rattle.map_rule.proofs.Moves.Counts.{counted_behind}
use Rattle.map_rule.specs.Moves.{counted_to, Move, Links, Claims, Counts, GivesUp, is_of_caller, with_counted, with_lost, after}
use Rattle.map_rule.specs.Lasts.{IsBy}
use Rattle.map_facts.specs.Measures.{OthersIdle}
use Rattle.map_facts.specs.FactsAloneBlocking.{AllAborted, AllAbortedBut, AllUncounted}
use Rattle.map_rule.proofs.Moves.SharesGiven.{none_given}
use Rattle.map_rule.proofs.Moves.Writes.{put_elsewhere, put_in_cases}

-- the others stay idle
pub idle_after : {K : Type 0} (same : K → K → Bool) (spot : ℕ → K → ℕ → ℕ) (caller : ℕ) (move : Move K) (c : Chart K) → ((i : ℕ) → (i ≡ caller → ⊥) → IsBy i move → ⊥)
    → OthersIdle caller c → OthersIdle caller (after spot false move c)
idle_after same spot caller move c by idle i t j other = at (is_of_caller i ((after spot false move c).share t j)) refl
  where
    at : (b : Bool) → is_of_caller i ((after spot false move c).share t j) ≡ b → is_of_caller i ((after spot false move c).share t j) ≡ false
    at false e = e
    at true e =
        let before = none_given same spot false move c i t j (by i other) e in
        absurd (let mine : is_of_caller i (c.share t j) ≡ true = ap (is_of_caller i) before ∙ e in cc (mine, idle i t j other))

-- what is lost after a share was claimed, counted, done or given up was lost before
not_claimed : (b : Bool) (caller : ℕ) (s : Share) → cond b (Claimed caller) s ≡ Lost → s ≡ Lost
not_claimed true caller s e = absurd (cc e)
not_claimed false caller s e = e

pub not_counted : (caller : ℕ) (s : Share) → with_counted caller s ≡ Lost → s ≡ Lost
not_counted caller Free e = e
not_counted caller (Claimed other) e = e
not_counted caller (Done other) e = at (eqb other caller) e
  where
    at : (b : Bool) → cond b Counted (Done other) ≡ Lost → Done other ≡ Lost
    at true e = absurd (cc e)
    at false e = e
not_counted caller Counted e = e
not_counted caller Lost e = e

in_table : (b : Bool) (s s2 : Share) → (s2 ≡ Lost → s ≡ Lost) → cond b s2 s ≡ Lost → s ≡ Lost
in_table true s s2 was e = was e
in_table false s s2 was e = e

-- where each place is counted, as many are as there are
total_each : (d : ℕ → Share) (n : ℕ) → ((j : ℕ) → j < n → d j ≡ Counted) → total is_counted d n ≡ n
total_each d zero each = refl
total_each d (suc n) each = let below = total_each d n (λ j l. each j (omega (arith, l))) in let one = ap is_counted (each n (omega arith)) in omega (arith, below, one)

module _ {K : Type 0} (c : Chart K) where
  pub aborted_done : (t i caller : ℕ) → AllAborted c → (u j : ℕ) → c.first < u → put_in c.share t i (Done caller) u j ≡ Lost → c.status u ≡ ABORTED
  aborted_done t i caller all u j l e =
      elim (put_in_cases c.share t i (Done caller) u j) as (λ _. c.status u ≡ ABORTED) [
        | inl new ↦ absurd (let is = sym new.2 ∙ e in cc is)
        | inr old ↦ all u j l (sym old ∙ e)
      ]

  pub aborted_claimed : (spot : ℕ → K → ℕ → ℕ) (caller t chunk : ℕ) → AllAborted c → AllAborted (after spot false (Claims caller t chunk) c)
  aborted_claimed spot caller t chunk all u j l e =
      all u j l (in_table (eqb u t && ltb c.first t) (c.share u j) _ (not_claimed (leb (c.claim t) j && ltb j (c.claim t + chunk) && ltb j (c.len c.first)) caller (c.share u j)) e)

  pub aborted_given_up : (spot : ℕ → K → ℕ → ℕ) (caller t : ℕ) → AllAborted c → AllAbortedBut (after spot false (GivesUp caller t) c) t
  aborted_given_up spot caller t all u j l other e = all u j l (let there : cond (eqb u t) (with_lost caller (c.share u j)) (c.share u j) ≡ c.share u j = rw (ne_eqb u t other) refl in sym there ∙ e)

  pub aborted_counted : (spot : ℕ → K → ℕ → ℕ) (caller t number : ℕ) → AllAborted c → AllAborted (after spot false (Counts caller t number) c)
  aborted_counted spot caller t number all u j l e = all u j l (in_table (eqb u t) (c.share u j) _ (not_counted caller (c.share u j)) e)

  pub uncounted_counted : (t number : ℕ) → AllUncounted c → c.copied t + number < c.len c.first → (u : ℕ) → c.first < u → u < c.past → put c.copied t (counted_to c t number) u < c.len c.first
  uncounted_counted t number all few u l m =
      elim (cases_eq u t) as (λ _. put c.copied t (counted_to c t number) u < c.len c.first) [
        | inl e ↦ rw (eq-eqb u t e) (let is = counted_behind c t number (omega (arith, l, e)) in omega (arith, few, is))
        | inr ne ↦ rw (ne_eqb u t ne) (all u l m)
      ]

  pub aborted_told : (t : ℕ) → AllAbortedBut c t → (u j : ℕ) → c.first < u → c.share u j ≡ Lost → put c.status t ABORTED u ≡ ABORTED
  aborted_told t all u j l e =
      elim (cases_eq u t) as (λ _. put c.status t ABORTED u ≡ ABORTED) [
        | inl same ↦ rw (eq-eqb u t same) refl
        | inr ne ↦ rw (ne_eqb u t ne) (all u j l ne e)
      ]

  pub aborted_announced : AllAborted c → (u j : ℕ) → c.first < u → c.share u j ≡ Lost → put c.status c.first PROMOTED u ≡ ABORTED
  aborted_announced all u j l e = rw (ne_eqb u c.first (omega (arith, l))) (all u j l e)

  module _ (same : K → K → Bool) (spot : ℕ → K → ℕ → ℕ) (rule : Rule same spot false c) where
    -- a table is linked behind the last one
    pub aborted_linked : (status : ℕ) → AllAborted c → (u j : ℕ) → c.first < u → c.share u j ≡ Lost → put c.status c.past status u ≡ ABORTED
    aborted_linked status all u j l e =
        elim (cases_eq u c.past) as (λ _. put c.status c.past status u ≡ ABORTED) [
          | inl new ↦ absurd (let none = rule.common.unshared u j (omega (arith, new)) in cc (none, e))
          | inr ne ↦ rw (ne_eqb u c.past ne) (all u j l e)
        ]

    pub uncounted_linked : (len : ℕ) → c.first < c.past → AllUncounted c → (u : ℕ) → c.first < u → u < suc c.past → c.copied u < put c.len c.past len c.first
    uncounted_linked len inside all u l m =
        subst (λ (x : ℕ). c.copied u < x) (sym (put_elsewhere c.len c.past len c.first (omega (arith, inside)))) (elim (cases_eq u c.past) as (λ _. c.copied u < c.len c.first) [
          | inl new ↦ (let none = (rule.common.uncounted u (omega (arith, new))).1 in let some = (rule.common.lens c.first inside).0 in omega (arith, none, some))
          | inr ne ↦ all u l (omega (arith, m, ne))
        ])

    -- a table that is full, and so the last one, becomes the root
    module _ (t : ℕ) (behind : c.first < t) (made : t < c.past) (full : (j : ℕ) → j < c.len c.first → c.share t j ≡ Counted) where
      none_behind : (u : ℕ) → t < u → c.past ≤ u
      none_behind u l =
          elim (cases_lt u c.past) as (λ _. c.past ≤ u) [
            | inl m ↦ (let given = rule.in_mode.given_up t behind (rule.in_mode.aborted t behind (omega (arith, l, m))) in absurd (let counted = full given.0 given.1 in cc (counted, given.2)))
            | inr h ↦ h
          ]

      pub aborted_promoted : (u j : ℕ) → t < u → c.share u j ≡ Lost → c.status u ≡ ABORTED
      aborted_promoted u j l e = absurd (let none = rule.common.unshared u j (none_behind u l) in cc (none, e))

      pub uncounted_promoted : (u : ℕ) → t < u → u < c.past → c.copied u < c.len t
      uncounted_promoted u l m = absurd (let none = none_behind u l in omega (arith, none, m))

    -- Where the caller has no share, and all places are claimed, a table that is not aborted is full.
    pub never_waits : (caller t : ℕ) → c.first < t → t < c.past → OthersIdle caller c → ((j : ℕ) → is_of_caller caller (c.share t j) ≡ false) → c.len c.first ≤ c.claim t
        → AllAborted c → AllUncounted c → c.status t ≡ ABORTED
    never_waits caller t behind made idle none spent aborted uncounted =
        elim (eqb_tells (c.status t) ABORTED) as (λ _. c.status t ≡ ABORTED) [
          | inl is ↦ is.1
          | inr live ↦ absurd (let sum = rule.common.counts t behind made in let all = total_each (c.share t) (c.len c.first) (λ j l. counted j l live.1) in let few = uncounted t behind made in
              omega (arith, sum, all, few))
        ]
      where
        counted : (j : ℕ) → j < c.len c.first → c.status t ≢ ABORTED → c.share t j ≡ Counted
        counted j l live = at (c.share t j) refl
          where
            claimed : is_free (c.share t j) ≡ false
            claimed = rule.in_mode.claims t j behind made l ∙ lt-leb (c.claim t) j (omega (arith, l, spent))

            own : (other : ℕ) (s : Share) → c.share t j ≡ s → is_of_caller other s ≡ true → ⊥
            own other s e is =
                elim (cases_eq other caller) as (λ _. ⊥) [
                  | inl same ↦ (let one : is_of_caller caller (c.share t j) ≡ true = rw (e, sym same) is in cc (one, none j))
                  | inr ne ↦ (let one : is_of_caller other (c.share t j) ≡ true = rw e is in cc (one, idle other t j ne))
                ]

            at : (s : Share) → c.share t j ≡ s → c.share t j ≡ Counted
            at Free e = absurd (let free : is_free (c.share t j) ≡ true = rw e refl in cc (free, claimed))
            at (Claimed other) e = absurd (own other (Claimed other) e (eq-eqb other other refl))
            at (Done other) e = absurd (own other (Done other) e (eq-eqb other other refl))
            at Counted e = e
            at Lost e = absurd (live (aborted t j behind e))

-- before a map has a table
pub aborted_begins : (K : Type 0) → AllAborted {K = K} no_table
aborted_begins K u j l e = absurd (cc e)

pub uncounted_begins : (K : Type 0) → AllUncounted {K = K} no_table
uncounted_begins K u l m = absurd (omega (arith, m))

-- The moves that a call makes beside its copying leave it so.
module _ {K : Type 0} (same : K → K → Bool) (spot : ℕ → K → ℕ → ℕ) (c : Chart K) (rule : Rule same spot false c) (aborted : AllAborted c) (uncounted : AllUncounted c) where
  pub links_alone : (len limit : ℕ) → AllAborted (after spot false (Links len limit) c) × AllUncounted (after spot false (Links len limit) c)
  links_alone len limit = (aborted_linked c same spot rule _ aborted, by (cases_lt c.first c.past))
    where
      by : (c.first < c.past) ⊎ (c.past ≤ c.first) → AllUncounted (after spot false (Links len limit) c)
      by (inl inside) = uncounted_linked c same spot rule len inside uncounted
      by (inr none) = λ u l m. absurd (omega (arith, none, l, m))
