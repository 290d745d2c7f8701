-- What a move leaves to those who have not made it.
use Rattle.std.specs.Prelude.{leb, ltb, ◌&&◌}
use Rattle.std.proofs.Common.{◌≡◌, ◌≢◌, ℕ, suc, ◌+◌, ◌<◌, ◌≤◌, Bool, true, false, cond, eqb, ◌⊎◌, inl, inr, refl, arith, ap, sym, ◌∙◌}
use Rattle.std.proofs.lemmas.Bool.{cases_lt, cases_eq}
use Rattle.std.proofs.lemmas.Bool.Decides.{nat_tests}
use Rattle.map_machines.specs.Given.TablesDeclared.status.TheConstants.Status.{PENDING, ABORTED, PROMOTED}
use Rattle.map_rule.specs.Chart.{Place, Empty, Tombstone, Holds, Share, Free, Claimed, Done, Counted, Lost, Chart, put, put_in}
use Rattle.map_rule.specs.Rule.{Common, Rule}
use Rattle.map_rule.specs.Moves.{Move, Links, Stores, Replaces, Removes, Marks, MarksBlocking, Skips, Unmarks, Puts, Covers, PutsLate, Claims, Reclaims, Counts, GivesUp, Aborts, Promotes, Announces, is_of_caller, with_counted, with_lost, claimed, without, after, Allowed}
use Rattle.map_rule.specs.Leaves.{MovesLeaveToOthers}
use Rattle.map_rule.proofs.Moves.Writes.{put_cases, put_elsewhere, put_in_cases}
use Rattle.map_rule.proofs.Moves.MarksIncremental.{was_free}
use Rattle.map_rule.proofs.Moves.Claims.{free}
use Rattle.map_rule.proofs.History.Claimed.{left_behind, lost_behind, none_behind}
use Rattle.map_rule.proofs.History.History.{history_kept}
use Rattle.map_rule.proofs.History.LeavingNames.{unnamed}
use Rattle.map_rule.proofs.History.LeavingPlaces.{place_stays}
use Rattle.map_rule.proofs.Moves.Promised.{moves_keep}
use Rattle.map_rule.proofs.Moves.SharesGiven.{none_given}

-- it is counted, or lost
abbrev is_kept : Share → Bool
is_kept Counted = true
is_kept Lost = true
is_kept _ = false

put_in_kept : (f : ℕ → ℕ → Share) (u i : ℕ) (x : Share) (t j : ℕ) → is_kept (f u i) ≡ false → is_kept (f t j) ≡ true → put_in f u i x t j ≡ f t j
put_in_kept f u i x t j other kept = by (put_in_cases f u i x t j)
  where
    by : ((t ≡ u) × (j ≡ i) × (put_in f u i x t j ≡ x)) ⊎ (put_in f u i x t j ≡ f t j) → put_in f u i x t j ≡ f t j
    by (inl here) = absurd (let a = here.0 in let b = here.1 in cc (other, kept, a, b))
    by (inr e) = e

claimed_other : (s : Share) (caller : ℕ) → s ≡ Claimed caller → is_kept s ≡ false
claimed_other s caller e = ap is_kept e

counted_on : (caller : ℕ) (s : Share) → is_kept s ≡ true → with_counted caller s ≡ s
counted_on caller Free k = refl
counted_on caller (Claimed other) k = refl
counted_on caller (Done other) k = absurd (cc k)
counted_on caller Counted k = refl
counted_on caller Lost k = refl

lost_on : (caller : ℕ) (s : Share) → is_kept s ≡ true → with_lost caller s ≡ s
lost_on caller Free k = refl
lost_on caller (Claimed other) k = absurd (cc k)
lost_on caller (Done other) k = absurd (cc k)
lost_on caller Counted k = refl
lost_on caller Lost k = refl

in_table : (a : Bool) (s s2 : Share) → s2 ≡ s → cond a s2 s ≡ s
in_table true s s2 e = e
in_table false s s2 e = refl

not_counted : (i : ℕ) (s : Share) → s ≡ Counted → is_of_caller i s ≡ true → ⊥
not_counted i s e mine = cc (ap (is_of_caller i) e, mine)

not_free : (i : ℕ) (s : Share) → s ≡ Free → is_of_caller i s ≡ true → ⊥
not_free i s e mine = cc (ap (is_of_caller i) e, mine)

module _ {K : Type 0} (same : K → K → Bool) (spot : ℕ → K → ℕ → ℕ) where
  module _ (incremental : Bool) where
    -- pairs

    gone_without : (p : Place) (current : ℕ → Bool) (n : ℕ) → current n ≡ false → without spot incremental p current n ≡ false
    gone_without (Empty m) current n e = e
    gone_without (Tombstone m) current n e = e
    gone_without (Holds o phase borrowed) current n e = by (put_cases current o false n)
      where
        by : ((n ≡ o) × (put current o false n ≡ false)) ⊎ ((n ≢ o) × (put current o false n ≡ current n)) → put current o false n ≡ false
        by (inl here) = here.1
        by (inr there) = there.1 ∙ e

    gone_beside : (p : Place) (c : Chart K) (n : ℕ) → n < c.stored → c.current n ≡ false → put (without spot incremental p c.current) c.stored true n ≡ false
    gone_beside p c n l e = put_elsewhere (without spot incremental p c.current) c.stored true n (λ q. omega (arith, q, l)) ∙ gone_without p c.current n e

    gone : (move : Move K) (c : Chart K) (n : ℕ) → n < c.stored → c.current n ≡ false → (after spot incremental move c).current n ≡ false
    gone (Links len limit) c n l e = e
    gone (Stores t k j) c n l e = gone_beside (c.place t (spot (c.len t) k j)) c n l e
    gone (Replaces t i k) c n l e = gone_beside (c.place t i) c n l e
    gone (Removes t i) c n l e = gone_without (c.place t i) c.current n e
    gone (Marks caller i) c n l e = e
    gone (MarksBlocking i) c n l e = e
    gone (Skips caller t i) c n l e = e
    gone (Unmarks caller i) c n l e = e
    gone (Puts caller i t k j) c n l e = e
    gone (Covers caller i) c n l e = e
    gone (PutsLate t i m) c n l e = e
    gone (Claims caller t chunk) c n l e = e
    gone (Reclaims t claim) c n l e = e
    gone (Counts caller t number) c n l e = e
    gone (GivesUp caller t) c n l e = e
    gone (Aborts t) c n l e = e
    gone (Promotes t) c n l e = e
    gone (Announces t) c n l e = e

    -- words

    module _ (c : Chart K) (inv : Common same spot incremental c) where
      linked_status : (t : ℕ) → (put c.status c.past (cond (eqb c.past 0) PROMOTED PENDING) t ≡ c.status t) ⊎ ((c.status t ≡ PENDING) × (put c.status c.past (cond (eqb c.past 0) PROMOTED PENDING) t ≢ ABORTED))
      linked_status t = by (put_cases c.status c.past (cond (eqb c.past 0) PROMOTED PENDING) t)
        where
          either : (b : Bool) → cond b PROMOTED PENDING ≢ ABORTED
          either true e = cc e
          either false e = cc e

          by : ((t ≡ c.past) × (put c.status c.past (cond (eqb c.past 0) PROMOTED PENDING) t ≡ cond (eqb c.past 0) PROMOTED PENDING))
              ⊎ ((t ≢ c.past) × (put c.status c.past (cond (eqb c.past 0) PROMOTED PENDING) t ≡ c.status t))
              → (put c.status c.past (cond (eqb c.past 0) PROMOTED PENDING) t ≡ c.status t) ⊎ ((c.status t ≡ PENDING) × (put c.status c.past (cond (eqb c.past 0) PROMOTED PENDING) t ≢ ABORTED))
          by (inl here) = inr ((inv.uncounted t (omega (arith, here.0))).2, λ e. either (eqb c.past 0) (sym here.1 ∙ e))
          by (inr there) = inl there.1

      aborted : (move : Move K) → Allowed same spot incremental move c → (t : ℕ) → c.status t ≡ ABORTED → (after spot incremental move c).status t ≡ ABORTED
      aborted (Links len limit) a t e = elim (linked_status t) [
        | inl kept ↦ kept ∙ e
        | inr new ↦ absurd (let p = new.0 in cc (p, e))
      ]
      aborted (Stores u k j) a t e = e
      aborted (Replaces u i k) a t e = e
      aborted (Removes u i) a t e = e
      aborted (Marks caller i) a t e = e
      aborted (MarksBlocking i) a t e = e
      aborted (Skips caller u i) a t e = e
      aborted (Unmarks caller i) a t e = e
      aborted (Puts caller i u k j) a t e = e
      aborted (Covers caller i) a t e = e
      aborted (PutsLate u i m) a t e = e
      aborted (Claims caller u chunk) a t e = e
      aborted (Reclaims u claim) a t e = e
      aborted (Counts caller u number) a t e = e
      aborted (GivesUp caller u) a t e = e
      aborted (Aborts u) a t e = elim (put_cases c.status u ABORTED t) [
        | inl here ↦ here.1
        | inr there ↦ there.1 ∙ e
      ]
      aborted (Promotes u) a t e = e
      aborted (Announces u) a t e = put_elsewhere c.status u PROMOTED t (λ q. a.2 (ap c.status (sym q) ∙ e)) ∙ e

      promoted : (move : Move K) → Allowed same spot incremental move c → (t : ℕ) → c.status t ≡ PROMOTED → (after spot incremental move c).status t ≡ PROMOTED
      promoted (Links len limit) a t e = elim (linked_status t) [
        | inl kept ↦ kept ∙ e
        | inr new ↦ absurd (let p = new.0 in cc (p, e))
      ]
      promoted (Stores u k j) a t e = e
      promoted (Replaces u i k) a t e = e
      promoted (Removes u i) a t e = e
      promoted (Marks caller i) a t e = e
      promoted (MarksBlocking i) a t e = e
      promoted (Skips caller u i) a t e = e
      promoted (Unmarks caller i) a t e = e
      promoted (Puts caller i u k j) a t e = e
      promoted (Covers caller i) a t e = e
      promoted (PutsLate u i m) a t e = e
      promoted (Claims caller u chunk) a t e = e
      promoted (Reclaims u claim) a t e = e
      promoted (Counts caller u number) a t e = e
      promoted (GivesUp caller u) a t e = e
      promoted (Aborts u) a t e = put_elsewhere c.status u ABORTED t (λ q. inv.pending u a.1 (ap c.status (sym q) ∙ e)) ∙ e
      promoted (Promotes u) a t e = e
      promoted (Announces u) a t e = elim (put_cases c.status u PROMOTED t) [
        | inl here ↦ here.1
        | inr there ↦ there.1 ∙ e
      ]

      spared : (move : Move K) → Allowed same spot incremental move c → (t : ℕ) → t ≤ c.first → c.status t ≢ ABORTED → (after spot incremental move c).status t ≢ ABORTED
      spared (Links len limit) a t l live e = elim (linked_status t) [
        | inl kept ↦ live (sym kept ∙ e)
        | inr new ↦ new.1 e
      ]
      spared (Stores u k j) a t l live e = live e
      spared (Replaces u i k) a t l live e = live e
      spared (Removes u i) a t l live e = live e
      spared (Marks caller i) a t l live e = live e
      spared (MarksBlocking i) a t l live e = live e
      spared (Skips caller u i) a t l live e = live e
      spared (Unmarks caller i) a t l live e = live e
      spared (Puts caller i u k j) a t l live e = live e
      spared (Covers caller i) a t l live e = live e
      spared (PutsLate u i m) a t l live e = live e
      spared (Claims caller u chunk) a t l live e = live e
      spared (Reclaims u claim) a t l live e = live e
      spared (Counts caller u number) a t l live e = live e
      spared (GivesUp caller u) a t l live e = live e
      spared (Aborts u) a t l live e = live (sym (put_elsewhere c.status u ABORTED t (λ q. let f = a.1 in omega (arith, q, l, f))) ∙ e)
      spared (Promotes u) a t l live e = live e
      spared (Announces u) a t l live e = elim (put_cases c.status u PROMOTED t) [
        | inl here ↦ (let p = here.1 in cc (p, e))
        | inr there ↦ live (sym there.1 ∙ e)
      ]

  -- shares that are counted or lost, in incremental mode

  kept_incremental : (move : Move K) (c : Chart K) → Rule same spot true c → Allowed same spot true move c → (t j : ℕ) → is_kept (c.share t j) ≡ true → (after spot true move c).share t j ≡ c.share t j
  kept_incremental (Links len limit) c rule a t j k = refl
  kept_incremental (Stores u o g) c rule a t j k = refl
  kept_incremental (Replaces u i o) c rule a t j k = refl
  kept_incremental (Removes u i) c rule a t j k = refl
  kept_incremental (Marks caller i) c rule a t j k = put_in_kept c.share (suc c.first) i _ t j (ap is_kept (was_free same spot caller i c rule a)) k
  kept_incremental (MarksBlocking i) c rule a t j k = refl
  kept_incremental (Skips caller u i) c rule a t j k = absurd (cc a.0)
  kept_incremental (Unmarks caller i) c rule a t j k = put_in_kept c.share (suc c.first) i Free t j (claimed_other _ caller a.2) k
  kept_incremental (Puts caller i u o g) c rule a t j k = refl
  kept_incremental (Covers caller i) c rule a t j k = put_in_kept c.share (suc c.first) i (Done caller) t j (claimed_other _ caller a.2) k
  kept_incremental (PutsLate u i n) c rule a t j k = refl
  kept_incremental (Claims caller u chunk) c rule a t j k = absurd (cc a.0)
  kept_incremental (Reclaims u claim) c rule a t j k = refl
  kept_incremental (Counts caller u number) c rule a t j k = in_table (eqb t u) (c.share t j) (with_counted caller (c.share t j)) (counted_on caller (c.share t j) k)
  kept_incremental (GivesUp caller u) c rule a t j k = in_table (eqb t u) (c.share t j) (with_lost caller (c.share t j)) (lost_on caller (c.share t j) k)
  kept_incremental (Aborts u) c rule a t j k = refl
  kept_incremental (Promotes u) c rule a t j k = refl
  kept_incremental (Announces u) c rule a t j k = refl

  -- and in blocking mode

  claimed_kept : (caller u chunk : ℕ) (c : Chart K) → Rule same spot false c → Allowed same spot false (Claims caller u chunk) c → (t j : ℕ) → is_kept (c.share t j) ≡ true
      → claimed spot false c caller u chunk t j ≡ c.share t j
  claimed_kept caller u chunk c rule a t j k = by (eqb t u && ltb c.first u) refl (leb (c.claim u) j && ltb j (c.claim u + chunk) && ltb j (c.len c.first)) refl
    where
      by : (x : Bool) → (eqb t u && ltb c.first u) ≡ x → (y : Bool) → (leb (c.claim u) j && ltb j (c.claim u + chunk) && ltb j (c.len c.first)) ≡ y
          → cond x (cond y (Claimed caller) (c.share t j)) (c.share t j) ≡ c.share t j
      by true e true f =
          let none = free same spot caller u chunk c rule a t j (grind (arith, nat_tests, e)) (grind (arith, nat_tests, e)) f in
          absurd (let q = ap is_kept none in cc (q, k))
      by true e false f = refl
      by false e y f = refl

  kept_blocking : (move : Move K) (c : Chart K) → Rule same spot false c → Allowed same spot false move c → (t j : ℕ) → is_kept (c.share t j) ≡ true → (after spot false move c).share t j ≡ c.share t j
  kept_blocking (Links len limit) c rule a t j k = refl
  kept_blocking (Stores u o g) c rule a t j k = refl
  kept_blocking (Replaces u i o) c rule a t j k = refl
  kept_blocking (Removes u i) c rule a t j k = refl
  kept_blocking (Marks caller i) c rule a t j k = absurd (cc a.0)
  kept_blocking (MarksBlocking i) c rule a t j k = refl
  kept_blocking (Skips caller u i) c rule a t j k = put_in_kept c.share u i (Done caller) t j (claimed_other _ caller a.4) k
  kept_blocking (Unmarks caller i) c rule a t j k = absurd (cc a.0)
  kept_blocking (Puts caller i u o g) c rule a t j k = put_in_kept c.share u i (Done caller) t j (claimed_other _ caller a.7) k
  kept_blocking (Covers caller i) c rule a t j k = absurd (cc a.0)
  kept_blocking (PutsLate u i n) c rule a t j k = refl
  kept_blocking (Claims caller u chunk) c rule a t j k = claimed_kept caller u chunk c rule a t j k
  kept_blocking (Reclaims u claim) c rule a t j k = refl
  kept_blocking (Counts caller u number) c rule a t j k = in_table (eqb t u) (c.share t j) (with_counted caller (c.share t j)) (counted_on caller (c.share t j) k)
  kept_blocking (GivesUp caller u) c rule a t j k = in_table (eqb t u) (c.share t j) (with_lost caller (c.share t j)) (lost_on caller (c.share t j) k)
  kept_blocking (Aborts u) c rule a t j k = refl
  kept_blocking (Promotes u) c rule a t j k = refl
  kept_blocking (Announces u) c rule a t j k = refl

  -- claims, in blocking mode
  claims : (move : Move K) (c : Chart K) → Allowed same spot false move c → (t : ℕ) → c.claim t ≤ (after spot false move c).claim t
  claims (Links len limit) c a t = omega arith
  claims (Stores u o g) c a t = omega arith
  claims (Replaces u i o) c a t = omega arith
  claims (Removes u i) c a t = omega arith
  claims (Marks caller i) c a t = omega arith
  claims (MarksBlocking i) c a t = omega arith
  claims (Skips caller u i) c a t = omega arith
  claims (Unmarks caller i) c a t = omega arith
  claims (Puts caller i u o g) c a t = omega arith
  claims (Covers caller i) c a t = omega arith
  claims (PutsLate u i n) c a t = omega arith
  claims (Claims caller u chunk) c a t = elim (put_cases c.claim u (c.claim u + chunk) t) [
    | inl here ↦ (let e = ap c.claim here.0 in let v = here.1 in omega (arith, e, v))
    | inr there ↦ (let v = there.1 in omega (arith, v))
  ]
  claims (Reclaims u claim) c a t = absurd (cc a.0)
  claims (Counts caller u number) c a t = omega arith
  claims (GivesUp caller u) c a t = omega arith
  claims (Aborts u) c a t = omega arith
  claims (Promotes u) c a t = omega arith
  claims (Announces u) c a t = omega arith

  -- where the root goes on

  goes_on : (move : Move K) (c : Chart K) → Rule same spot false c → Allowed same spot false move c → c.first < (after spot false move c).first → (t : ℕ) → c.first < t → t < c.past
      → (t ≤ (after spot false move c).first) × (((after spot false move c).status t ≡ ABORTED) ⊎ (c.len c.first ≤ (after spot false move c).claim t))
  goes_on (Links len limit) c rule a on t l m = absurd (omega (arith, on))
  goes_on (Stores u o g) c rule a on t l m = absurd (omega (arith, on))
  goes_on (Replaces u i o) c rule a on t l m = absurd (omega (arith, on))
  goes_on (Removes u i) c rule a on t l m = absurd (omega (arith, on))
  goes_on (Marks caller i) c rule a on t l m = absurd (omega (arith, on))
  goes_on (MarksBlocking i) c rule a on t l m = absurd (omega (arith, on))
  goes_on (Skips caller u i) c rule a on t l m = absurd (omega (arith, on))
  goes_on (Unmarks caller i) c rule a on t l m = absurd (omega (arith, on))
  goes_on (Puts caller i u o g) c rule a on t l m = absurd (omega (arith, on))
  goes_on (Covers caller i) c rule a on t l m = absurd (omega (arith, on))
  goes_on (PutsLate u i n) c rule a on t l m = absurd (omega (arith, on))
  goes_on (Claims caller u chunk) c rule a on t l m = absurd (omega (arith, on))
  goes_on (Reclaims u claim) c rule a on t l m = absurd (omega (arith, on))
  goes_on (Counts caller u number) c rule a on t l m = absurd (omega (arith, on))
  goes_on (GivesUp caller u) c rule a on t l m = absurd (omega (arith, on))
  goes_on (Aborts u) c rule a on t l m = absurd (omega (arith, on))
  goes_on (Promotes u) c rule a on t l m = left_behind same spot c u rule a t l m
  goes_on (Announces u) c rule a on t l m = absurd (omega (arith, on))

  gave_up : (move : Move K) (c : Chart K) → Rule same spot false c → Allowed same spot false move c → c.first < (after spot false move c).first → (t j : ℕ) → c.first < t → t < c.past → j < c.len c.first
      → c.share t j ≡ Lost → (after spot false move c).status t ≡ ABORTED
  gave_up (Links len limit) c rule a on t j l m k lost = absurd (omega (arith, on))
  gave_up (Stores u o g) c rule a on t j l m k lost = absurd (omega (arith, on))
  gave_up (Replaces u i o) c rule a on t j l m k lost = absurd (omega (arith, on))
  gave_up (Removes u i) c rule a on t j l m k lost = absurd (omega (arith, on))
  gave_up (Marks caller i) c rule a on t j l m k lost = absurd (omega (arith, on))
  gave_up (MarksBlocking i) c rule a on t j l m k lost = absurd (omega (arith, on))
  gave_up (Skips caller u i) c rule a on t j l m k lost = absurd (omega (arith, on))
  gave_up (Unmarks caller i) c rule a on t j l m k lost = absurd (omega (arith, on))
  gave_up (Puts caller i u o g) c rule a on t j l m k lost = absurd (omega (arith, on))
  gave_up (Covers caller i) c rule a on t j l m k lost = absurd (omega (arith, on))
  gave_up (PutsLate u i n) c rule a on t j l m k lost = absurd (omega (arith, on))
  gave_up (Claims caller u chunk) c rule a on t j l m k lost = absurd (omega (arith, on))
  gave_up (Reclaims u claim) c rule a on t j l m k lost = absurd (omega (arith, on))
  gave_up (Counts caller u number) c rule a on t j l m k lost = absurd (omega (arith, on))
  gave_up (GivesUp caller u) c rule a on t j l m k lost = absurd (omega (arith, on))
  gave_up (Aborts u) c rule a on t j l m k lost = absurd (omega (arith, on))
  gave_up (Promotes u) c rule a on t j l m k lost = lost_behind same spot c u rule a t j l m k lost
  gave_up (Announces u) c rule a on t j l m k lost = absurd (omega (arith, on))

  -- while a caller has a share

  no_promotion : (c : Chart K) (i u : ℕ) → Rule same spot true c → Allowed same spot true (Promotes u) c → (t j : ℕ) → c.first < t → j < c.len c.first → is_of_caller i (c.share t j) ≡ true → ⊥
  no_promotion c i u rule a t j l b mine = elim (cases_eq t (suc c.first)) [
    | inl next ↦ not_counted i (c.share t j) (ap (λ (v : ℕ). c.share v j) (next ∙ sym a.3) ∙ a.2 j b) mine
    | inr other ↦ not_free i (c.share t j) (rule.in_mode.only_next t j (omega (arith, l, other))) mine
  ]

  given_up : (c : Chart K) (i u : ℕ) → Rule same spot false c → Allowed same spot false (Promotes u) c → (t j : ℕ) → c.first < t → j < c.len c.first → is_of_caller i (c.share t j) ≡ true → c.status t ≡ ABORTED
  given_up c i u rule a t j l b mine = elim (cases_lt t u) [
    | inl before ↦ rule.in_mode.aborted t l (let p = a.1 in omega (arith, before, p))
    | inr on ↦ (elim (cases_eq t u) [
      | inl here ↦ absurd (not_counted i (c.share t j) (ap (λ (v : ℕ). c.share v j) here ∙ a.2 j b) mine)
      | inr other ↦ absurd (elim (cases_lt t c.past) [
        | inl there ↦ none_behind same spot u c rule a t (omega (arith, on, other)) there
        | inr none ↦ not_free i (c.share t j) (rule.common.unshared t j none) mine
      ])
    ])
  ]

  root_stays_incremental : (move : Move K) (c : Chart K) (i : ℕ) → Rule same spot true c → Allowed same spot true move c → (t j : ℕ) → c.first < t → j < c.len c.first → is_of_caller i (c.share t j) ≡ true
      → (after spot true move c).first ≡ c.first
  root_stays_incremental (Links len limit) c i rule a t j l b mine = refl
  root_stays_incremental (Stores u o g) c i rule a t j l b mine = refl
  root_stays_incremental (Replaces u p o) c i rule a t j l b mine = refl
  root_stays_incremental (Removes u p) c i rule a t j l b mine = refl
  root_stays_incremental (Marks caller p) c i rule a t j l b mine = refl
  root_stays_incremental (MarksBlocking p) c i rule a t j l b mine = refl
  root_stays_incremental (Skips caller u p) c i rule a t j l b mine = refl
  root_stays_incremental (Unmarks caller p) c i rule a t j l b mine = refl
  root_stays_incremental (Puts caller p u o g) c i rule a t j l b mine = refl
  root_stays_incremental (Covers caller p) c i rule a t j l b mine = refl
  root_stays_incremental (PutsLate u p n) c i rule a t j l b mine = refl
  root_stays_incremental (Claims caller u chunk) c i rule a t j l b mine = refl
  root_stays_incremental (Reclaims u claim) c i rule a t j l b mine = refl
  root_stays_incremental (Counts caller u number) c i rule a t j l b mine = refl
  root_stays_incremental (GivesUp caller u) c i rule a t j l b mine = refl
  root_stays_incremental (Aborts u) c i rule a t j l b mine = refl
  root_stays_incremental (Promotes u) c i rule a t j l b mine = absurd (no_promotion c i u rule a t j l b mine)
  root_stays_incremental (Announces u) c i rule a t j l b mine = refl

  root_stays_blocking : (move : Move K) (c : Chart K) (i : ℕ) → Rule same spot false c → Allowed same spot false move c → (t j : ℕ) → c.first < t → j < c.len c.first → is_of_caller i (c.share t j) ≡ true
      → ((after spot false move c).first ≡ c.first) ⊎ ((after spot false move c).status t ≡ ABORTED)
  root_stays_blocking (Links len limit) c i rule a t j l b mine = inl refl
  root_stays_blocking (Stores u o g) c i rule a t j l b mine = inl refl
  root_stays_blocking (Replaces u p o) c i rule a t j l b mine = inl refl
  root_stays_blocking (Removes u p) c i rule a t j l b mine = inl refl
  root_stays_blocking (Marks caller p) c i rule a t j l b mine = inl refl
  root_stays_blocking (MarksBlocking p) c i rule a t j l b mine = inl refl
  root_stays_blocking (Skips caller u p) c i rule a t j l b mine = inl refl
  root_stays_blocking (Unmarks caller p) c i rule a t j l b mine = inl refl
  root_stays_blocking (Puts caller p u o g) c i rule a t j l b mine = inl refl
  root_stays_blocking (Covers caller p) c i rule a t j l b mine = inl refl
  root_stays_blocking (PutsLate u p n) c i rule a t j l b mine = inl refl
  root_stays_blocking (Claims caller u chunk) c i rule a t j l b mine = inl refl
  root_stays_blocking (Reclaims u claim) c i rule a t j l b mine = inl refl
  root_stays_blocking (Counts caller u number) c i rule a t j l b mine = inl refl
  root_stays_blocking (GivesUp caller u) c i rule a t j l b mine = inl refl
  root_stays_blocking (Aborts u) c i rule a t j l b mine = inl refl
  root_stays_blocking (Promotes u) c i rule a t j l b mine = inr (given_up c i u rule a t j l b mine)
  root_stays_blocking (Announces u) c i rule a t j l b mine = inl refl

  leaves_incremental : MovesLeaveToOthers same spot true
  leaves_incremental lawful i move c ne rule m a =
      let kept = moves_keep same spot true lawful move c rule a in
      let history = history_kept same spot true lawful move c rule m a in
      record {
        lasts = kept.1;
        remembers = history.1;
        gone = gone true move c;
        unnamed = λ e n was left. unnamed same spot c rule n was left move a;
        aborted = aborted true c rule.common move a;
        promoted = promoted true c rule.common move a;
        spared = spared true c rule.common move a;
        claims = λ e. absurd (cc e);
        goes_on = λ e. absurd (cc e);
        gave_up = λ e. absurd (cc e);
        mine = λ t j own. kept.2 i t j ne own;
        mine_before = λ t j own. none_given same spot true move c i t j ne own;
        root_stays = λ t j l m b own. inl (root_stays_incremental move c i rule a t j l b own);
        my_place = λ e j n borrowed next within own here. place_stays same spot lawful i c rule j n borrowed next within own here move ne a;
        counted = λ t j e. kept_incremental move c rule a t j (ap is_kept e) ∙ e;
        lost = λ t j e. kept_incremental move c rule a t j (ap is_kept e) ∙ e;
      }

  leaves_blocking : MovesLeaveToOthers same spot false
  leaves_blocking lawful i move c ne rule m a =
      let kept = moves_keep same spot false lawful move c rule a in
      let history = history_kept same spot false lawful move c rule m a in
      record {
        lasts = kept.1;
        remembers = history.1;
        gone = gone false move c;
        unnamed = λ e. absurd (cc e);
        aborted = aborted false c rule.common move a;
        promoted = promoted false c rule.common move a;
        spared = spared false c rule.common move a;
        claims = λ e. claims move c a;
        goes_on = λ e. goes_on move c rule a;
        gave_up = λ e. gave_up move c rule a;
        mine = λ t j own. kept.2 i t j ne own;
        mine_before = λ t j own. none_given same spot false move c i t j ne own;
        root_stays = λ t j l m b own. elim (root_stays_blocking move c i rule a t j l b own) [
          | inl same_root ↦ inl same_root
          | inr aborted ↦ inr (refl, aborted)
        ];
        my_place = λ e. absurd (cc e);
        counted = λ t j e. kept_blocking move c rule a t j (ap is_kept e) ∙ e;
        lost = λ t j e. kept_blocking move c rule a t j (ap is_kept e) ∙ e;
      }

  pub moves_leave : (incremental : Bool) → MovesLeaveToOthers same spot incremental
  moves_leave true = leaves_incremental
  moves_leave false = leaves_blocking
