-- In blocking mode, the last table becomes the root once each place of the root is copied into it and counted.
use Rattle.std.proofs.Common.{◌≡◌, ◌≢◌, ℕ, suc, ◌<◌, ◌≤◌, Bool, true, false, inl, inr, refl, arith, subst, sym, ap}
use Rattle.std.proofs.lemmas.Bool.{cases_lt}
use Rattle.map_machines.specs.Given.TablesDeclared.status.TheConstants.Status.{ABORTED}
use Rattle.map_rule.specs.Chart.{Phase, Still, Copying, Copied, Holds, Chart, is_marked}
use Rattle.map_rule.specs.Rule.{Common, Blocking, Rule, IsLawful, is_past}
use Rattle.map_rule.specs.Moves.{Promotes, after, Allowed}
use Rattle.map_rule.specs.Lasts.{MoveKeeps}

module _ {K : Type 0} (same : K → K → Bool) (spot : ℕ → K → ℕ → ℕ) where
  -- a share of it was lost if the table was aborted
  not_aborted : (t : ℕ) (c : Chart K) → Rule same spot false c → Allowed same spot false (Promotes t) c → c.status t ≢ ABORTED
  not_aborted t c rule allowed e =
      let r = rule.in_mode.given_up t allowed.0 e in
      let counted = allowed.2 r.0 r.1 in
      let lost = r.2 in
      cc

  -- so it is the last one
  last : (t : ℕ) (c : Chart K) → Rule same spot false c → Allowed same spot false (Promotes t) c → c.past ≡ suc t
  last t c rule allowed = elim (cases_lt (suc t) c.past) [
    | inl more ↦ absurd (not_aborted t c rule allowed (rule.in_mode.aborted t allowed.0 more))
    | inr no_more ↦ omega (arith, allowed.1)
  ]

  none_behind : (t : ℕ) (c : Chart K) → Rule same spot false c → Allowed same spot false (Promotes t) c → (u : ℕ) → t < u → c.past ≤ u
  none_behind t c rule allowed u l = let e = last t c rule allowed in omega arith

  -- each pair of the root stands in it
  pair_copied : (t : ℕ) (c : Chart K) → Rule same spot false c → Allowed same spot false (Promotes t) c
      → (j n : ℕ) (phase : Phase) (borrowed : Bool) → c.place c.first j ≡ Holds n phase borrowed → (i : ℕ) × (c.place t i ≡ Holds n Still false)
  pair_copied t c rule allowed j n phase borrowed e =
      let within : j < c.len c.first = grind (arith, rule.common.outside c.first j, rule.common.rooted, allowed.1) in
      let counted = allowed.2 j within in
      let copies = rule.in_mode.copies t j allowed.0 (not_aborted t c rule allowed) (grind arith) in
      copies.1 n phase borrowed e

  stands : (t : ℕ) (c : Chart K) → Rule same spot false c → Allowed same spot false (Promotes t) c
      → (n : ℕ) → c.current n ≡ true
      → (u : ℕ) × (i : ℕ) × (phase : Phase) × (borrowed : Bool) × (c.place u i ≡ Holds n phase borrowed) × (phase ≢ Copied) × (u ≡ t)
  stands t c rule allowed n e =
      let r = rule.common.stands n e in
      let s = pair_copied t c rule allowed r.1 n r.2 r.3 (subst (λ (u : ℕ). c.place u r.1 ≡ Holds n r.2 r.3) r.6 r.4) in
      (t, s.0, Still, false, s.1, (λ q. cc), refl)

  is_current : (t : ℕ) (c : Chart K) → Rule same spot false c → Allowed same spot false (Promotes t) c
      → (u i n : ℕ) (phase : Phase) (borrowed : Bool) → c.place u i ≡ Holds n phase borrowed → u ≡ t → c.current n ≡ true
  is_current t c rule allowed u i n phase borrowed e here =
      let r = rule.in_mode.targets t i n phase borrowed allowed.0 (not_aborted t c rule allowed) (subst (λ (u : ℕ). c.place u i ≡ Holds n phase borrowed) here e) in
      rule.common.is_current c.first r.0 n Copying false r.2 (λ q. cc) refl

  kept_common : (t : ℕ) (c : Chart K) → Rule same spot false c → Allowed same spot false (Promotes t) c → Common same spot false (after spot false (Promotes t) c)
  kept_common t c rule allowed = record {
    rooted = λ l. allowed.1;
    rootless = λ e. absurd (omega (arith, allowed.1));
    lens = rule.common.lens;
    unmade = rule.common.unmade;
    unshared = rule.common.unshared;
    uncounted = rule.common.uncounted;
    outside = rule.common.outside;
    keyed = rule.common.keyed;
    unstored = rule.common.unstored;
    on_path = rule.common.on_path;
    once = rule.common.once;
    unmarked = λ u i l. rule.common.unmarked u i (omega (arith, allowed.0));
    pending = λ u l. rule.common.pending u (omega (arith, allowed.0));
    live = not_aborted t c rule allowed;
    counts = λ u l m. absurd (omega (arith, none_behind t c rule allowed u l));
    stands = λ n e. stands t c rule allowed n e;
    is_current = λ u i n phase borrowed e p l. is_current t c rule allowed u i n phase borrowed e l;
  }

  -- each place of the table that was the root is marked
  pub left_root : (t : ℕ) (c : Chart K) → Rule same spot false c → Allowed same spot false (Promotes t) c → (i : ℕ) → i < c.len c.first → is_marked (c.place c.first i) ≡ true
  left_root t c rule allowed i n = (rule.in_mode.copies t i allowed.0 (not_aborted t c rule allowed) (ap is_past (allowed.2 i n))).0

  left : (t : ℕ) (c : Chart K) → Rule same spot false c → Allowed same spot false (Promotes t) c
      → (u i : ℕ) → u < t → c.status u ≢ ABORTED → i < c.len u → is_marked (c.place u i) ≡ true
  left t c rule allowed u i l e n = elim (cases_lt u c.first) [
    | inl before ↦ rule.in_mode.left u i before e n
    | inr on ↦ (elim (cases_lt c.first u) [
      | inl behind ↦ absurd (e (rule.in_mode.aborted u behind (omega (arith, allowed.1))))
      | inr there ↦ (let same_table : u ≡ c.first = omega arith in
          subst (λ (o : ℕ). is_marked (c.place o i) ≡ true) (sym same_table)
          (left_root t c rule allowed i (subst (λ (o : ℕ). i < c.len o) same_table n)))
    ])
  ]

  kept_mode : (t : ℕ) (c : Chart K) → Rule same spot false c → Allowed same spot false (Promotes t) c → Blocking same spot false (after spot false (Promotes t) c)
  kept_mode t c rule allowed = record {
    marked_has_next = λ i e. absurd (grind (arith, rule.common.unmarked t i allowed.0));
    plain = rule.in_mode.plain;
    targets = λ u i n phase borrowed l a e. absurd (grind (arith, rule.common.unmade u i (none_behind t c rule allowed u l)));
    copies = λ u j l a e. absurd (grind (arith, rule.common.unshared u j (none_behind t c rule allowed u l)));
    claims = λ u j l m b. absurd (omega (arith, none_behind t c rule allowed u l));
    sources = λ u i n phase borrowed l e. absurd (grind (arith, rule.common.unmade u i (none_behind t c rule allowed u l)));
    left = λ u i l e n. left t c rule allowed u i l e n;
    no_tombstone = λ u i mark l e. rule.in_mode.no_tombstone u i mark (omega (arith, l, allowed.0)) e;
    aborted = λ u l m. absurd (omega (arith, none_behind t c rule allowed u l));
    given_up = λ u l e. absurd (grind (arith, rule.common.uncounted u (none_behind t c rule allowed u l)));
  }

  pub kept_promotes_blocking : (t : ℕ) (c : Chart K) → IsLawful same spot → Rule same spot false c → Allowed same spot false (Promotes t) c → MoveKeeps same spot false (Promotes t) c
  kept_promotes_blocking t c lawful rule allowed = (
    record { common = kept_common t c rule allowed; in_mode = kept_mode t c rule allowed },
    record {
      past = omega arith;
      first = omega (arith, allowed.0);
      lens = λ u l. (refl, refl);
      stored = omega arith;
      keys = λ n l. refl;
      taken = λ u i e. e;
      others = λ u i k e f. f;
      copied = λ u i n borrowed e. e;
      settled = λ u i e. e;
      shut = λ u k e l s. absurd (cc);
      frozen = λ u i e m. refl;
    },
    λ i u j f e. refl,
  )
