-- In incremental mode, the next table becomes the root once each place of the root is copied into it and counted.
use Rattle.std.proofs.Common.{◌≡◌, ◌≢◌, ℕ, suc, ◌<◌, ◌≤◌, Bool, true, false, Some, ◌⊎◌, inl, inr, refl, arith, sym, subst}
use Rattle.std.proofs.lemmas.Bool.{cases_order}
use Rattle.map_rule.specs.Chart.{Phase, Copied, Place, Holds, Share, Free, Claimed, Done, Counted, Lost, Chart, is_marked, is_settled, is_counted}
use Rattle.map_rule.specs.Rule.{total, Agrees, Common, Incremental, Rule, IsLawful, Shut, IsMoving}
use Rattle.map_rule.specs.Moves.{Promotes, after, Allowed}
use Rattle.map_rule.specs.Lasts.{MoveKeeps}
use Rattle.map_rule.proofs.Moves.Totals.{total_none}
use Rattle.map_rule.proofs.Moves.Shuts.{settled_copied}

-- a place whose share was counted
counted_settled : (share : Share) (place : Place) → share ≡ Counted → Agrees share place → is_settled place ≡ true
counted_settled Free place e a = absurd (cc)
counted_settled (Claimed caller) place e a = absurd (cc)
counted_settled (Done caller) place e a = a
counted_settled Counted place e a = a
counted_settled Lost place e a = absurd a

free_agrees : (share : Share) (place : Place) → share ≡ Free → is_marked place ≡ false → Agrees share place
free_agrees share place e m = subst (λ (s : Share). Agrees s place) (sym e) m

module _ {K : Type 0} (same : K → K → Bool) (spot : ℕ → K → ℕ → ℕ) where
  -- each place of the root is settled
  root_settled : (t : ℕ) (c : Chart K) → Rule same spot true c → Allowed same spot true (Promotes t) c → (i : ℕ) → i < c.len c.first → is_settled (c.place c.first i) ≡ true
  root_settled t c rule allowed i l = counted_settled (c.share t i) (c.place c.first i) (allowed.2 i l)
      (subst (λ (u : ℕ). Agrees (c.share u i) (c.place c.first i)) (sym allowed.3) (rule.in_mode.shares i l))

  -- so no pair stands in it uncopied
  root_copied : (t : ℕ) (c : Chart K) → Rule same spot true c → Allowed same spot true (Promotes t) c
      → (i n : ℕ) (phase : Phase) (borrowed : Bool) → c.place c.first i ≡ Holds n phase borrowed → phase ≡ Copied
  root_copied t c rule allowed i n phase borrowed e = settled_copied (c.place c.first i) n phase borrowed (root_settled t c rule allowed i (grind (arith, rule.common.outside c.first i))) e

  -- nothing is copied into a table behind the next one
  uncounted : (t : ℕ) (c : Chart K) → Rule same spot true c → Allowed same spot true (Promotes t) c
      → (u : ℕ) → t < u → u < c.past → c.copied u ≡ total is_counted (c.share u) (c.len t)
  uncounted t c rule allowed u l m =
      let behind : suc c.first < u = omega (arith, allowed.3) in
      let free : (n j : ℕ) → j < n → is_counted (c.share u j) ≡ 0 = λ n j b. grind (arith, rule.in_mode.only_next u j behind) in
      let none = total_none is_counted (c.share u) (c.len t) (free (c.len t)) in
      let old = total_none is_counted (c.share u) (c.len c.first) (free (c.len c.first)) in
      let copied = rule.common.counts u (omega arith) m in
      cc

  stands : (t : ℕ) (c : Chart K) → Rule same spot true c → Allowed same spot true (Promotes t) c
      → (n : ℕ) → c.current n ≡ true
      → (u : ℕ) × (i : ℕ) × (phase : Phase) × (borrowed : Bool) × (c.place u i ≡ Holds n phase borrowed) × (phase ≢ Copied) × (t ≤ u)
  stands t c rule allowed n e =
      let r = rule.common.stands n e in (
        r.0,
        r.1,
        r.2,
        r.3,
        r.4,
        r.5,
        elim (cases_order c.first r.0) [
          | inl same_table ↦ absurd (r.5 (root_copied t c rule allowed r.1 n r.2 r.3 (subst (λ (u : ℕ). c.place u r.1 ≡ Holds n r.2 r.3) (sym same_table) r.4)))
          | inr apart ↦ omega (arith, r.6, allowed.3)
        ],
      )

  settled : (t : ℕ) (c : Chart K) → Rule same spot true c → Allowed same spot true (Promotes t) c
      → (u i : ℕ) → u < t → i < c.len u → is_settled (c.place u i) ≡ true
  settled t c rule allowed u i l m = elim (cases_order u c.first) [
    | inl e ↦ subst (λ (v : ℕ). is_settled (c.place v i) ≡ true) (sym e) (root_settled t c rule allowed i (subst (λ (v : ℕ). i < c.len v) e m))
    | inr apart ↦ rule.in_mode.settled u i (omega (arith, allowed.3)) m
  ]

  chained : (t : ℕ) (c : Chart K) → Rule same spot true c → Allowed same spot true (Promotes t) c
      → (u v i n : ℕ) (phase : Phase) (borrowed : Bool) (k : K) → c.place v i ≡ Holds n phase borrowed → c.key n ≡ Some k → u < v → t ≤ u
      → Shut same spot true c u k ⊎ ((u ≡ t) × (borrowed ≡ true) × IsMoving same spot true (after spot true (Promotes t) c) n)
  chained t c rule allowed u v i n phase borrowed k e f l m = elim (rule.in_mode.chain u v i n phase borrowed k e f l (omega (arith, allowed.0))) [
    | inl shut ↦ inl shut
    | inr moving ↦ absurd (omega (arith, allowed.0, moving.0))
  ]

  kept_common : (t : ℕ) (c : Chart K) → Rule same spot true c → Allowed same spot true (Promotes t) c → Common same spot true (after spot true (Promotes t) c)
  kept_common t c rule allowed = record {
    rooted = λ l. allowed.1;
    rootless = λ e. absurd (omega (arith, allowed.1));
    lens = rule.common.lens;
    unmade = rule.common.unmade;
    unshared = rule.common.unshared;
    uncounted = rule.common.uncounted;
    outside = rule.common.outside;
    keyed = rule.common.keyed;
    unstored = rule.common.unstored;
    on_path = rule.common.on_path;
    once = rule.common.once;
    unmarked = λ u i l. rule.common.unmarked u i (omega (arith, allowed.0));
    pending = λ u l. rule.common.pending u (omega (arith, allowed.0));
    live = rule.in_mode.never_aborted t;
    counts = λ u l m. uncounted t c rule allowed u l m;
    stands = λ n e. stands t c rule allowed n e;
    is_current = λ u i n phase borrowed e p l. rule.common.is_current u i n phase borrowed e p (omega (arith, allowed.0));
  }

  kept_mode : (t : ℕ) (c : Chart K) → Rule same spot true c → Allowed same spot true (Promotes t) c → Incremental same spot true (after spot true (Promotes t) c)
  kept_mode t c rule allowed = record {
    settled = λ u i l m. settled t c rule allowed u i l m;
    chain = λ u v i n phase borrowed k e f l m. chained t c rule allowed u v i n phase borrowed k e f l m;
    shares = λ i l. free_agrees (c.share (suc t) i) (c.place t i) (rule.in_mode.only_next (suc t) i (omega (arith, allowed.0))) (rule.common.unmarked t i allowed.0);
    only_next = λ u i l. rule.in_mode.only_next u i (omega (arith, allowed.0));
    lent = rule.in_mode.lent;
    never_aborted = rule.in_mode.never_aborted;
  }

  pub kept_promotes_incremental : (t : ℕ) (c : Chart K) → IsLawful same spot → Rule same spot true c → Allowed same spot true (Promotes t) c → MoveKeeps same spot true (Promotes t) c
  kept_promotes_incremental t c lawful rule allowed = (
    record { common = kept_common t c rule allowed; in_mode = kept_mode t c rule allowed },
    record {
      past = omega arith;
      first = omega (arith, allowed.0);
      lens = λ u l. (refl, refl);
      stored = omega arith;
      keys = λ n l. refl;
      taken = λ u i e. e;
      others = λ u i k e f. f;
      copied = λ u i n borrowed e. e;
      settled = λ u i e. e;
      shut = λ u k e l s. s;
      frozen = λ u i e m. refl;
    },
    λ i u j f e. refl,
  )
