-- A place of the root is marked, and shares change, where pairs move in blocking mode: the rule stays.
use Rattle.std.proofs.Common.{◌≡◌, ◌≢◌, ℕ, suc, ◌<◌, ◌≤◌, Bool, true, false, ◌⊎◌, inl, inr, refl, arith, ap, sym, ◌∙◌, subst}
use Rattle.map_machines.specs.Given.TablesDeclared.status.TheConstants.Status.{ABORTED}
use Rattle.map_rule.specs.Chart.{Phase, Still, Copying, Copied, Holds, Share, Free, Lost, Chart, is_marked, is_counted}
use Rattle.map_rule.specs.Rule.{is_past, is_over, is_free, OnPath, Common, Blocking, Rule}
use Rattle.map_rule.specs.Lasts.{Lasts}
use Rattle.map_rule.proofs.Moves.Totals.{total_same}
use Rattle.map_rule.proofs.Moves.SamePairs.{names_kept}
use Rattle.map_rule.proofs.Moves.MarkedPlaces.{Marking, with_mark, one_marked, pairs_stay, was_held, still_held, elsewhere, marked_there, still_marked, marked_marked}

module _ {K : Type 0} (same : K → K → Bool) (spot : ℕ → K → ℕ → ℕ) where
  -- this place of the root is marked, and these are the shares
  abbrev pub marked_root : Chart K → ℕ → (ℕ → ℕ → Share) → Chart K
  marked_root c i share = record c { place = with_mark c.place c.first i; share = share }

  -- The place and the shares are such that the rule allows it.
  pub record MayMark (c : Chart K) (i : ℕ) (share : ℕ → ℕ → Share) : Type 0 where
    pub within : i < c.len c.first
    pub has_next : suc c.first < c.past
    pub unshared : (t j : ℕ) → c.past ≤ t → share t j ≡ Free
    pub counted : (t j : ℕ) → is_counted (share t j) ≡ is_counted (c.share t j)
    pub free : (t j : ℕ) → is_free (share t j) ≡ is_free (c.share t j)
    pub over : (t j : ℕ) → is_over (c.share t j) ≡ true → is_over (share t j) ≡ true
    pub lost : (t j : ℕ) → c.share t j ≡ Lost → share t j ≡ Lost
    -- what is done now was done before, or is a place that is marked and holds no pair
    pub done : (t j : ℕ) → is_past (share t j) ≡ true
        → (is_past (c.share t j) ≡ true) ⊎ ((j ≡ i) × ((n : ℕ) (phase : Phase) (borrowed : Bool) → c.place c.first i ≢ Holds n phase borrowed))

  -- before and after
  at_place : (c : Chart K) (i t j : ℕ) → Marking (c.place t j) (with_mark c.place c.first i t j)
  at_place c i t j = one_marked c.place c.first i t j

  stands : (c : Chart K) (i : ℕ) → Common same spot false c → (n : ℕ) → c.current n ≡ true
      → (t : ℕ) × (j : ℕ) × (phase : Phase) × (borrowed : Bool) × (with_mark c.place c.first i t j ≡ Holds n phase borrowed) × (phase ≢ Copied) × (t ≡ c.first)
  stands c i inv n e =
      let r = inv.stands n e in
      let s = still_held c.place c.first i r.0 r.1 n r.2 r.3 r.4 in
      (r.0, r.1, s.0, r.3, s.1, (λ d. r.5 (s.2 d)), r.6)

  on_path : (c : Chart K) (i : ℕ) (share : ℕ → ℕ → Share) (t j : ℕ) (k : K) → OnPath same spot false c t j k → OnPath same spot false (marked_root c i share) t j k
  on_path c i share t j k w = (w.0, w.1, w.2, λ g l. (at_place c i t (spot (c.len t) k g)).taken ∙ w.3 g l)

  common_kept : (c : Chart K) (i : ℕ) (share : ℕ → ℕ → Share) → Common same spot false c → MayMark c i share → Common same spot false (marked_root c i share)
  common_kept c i share inv m = record {
    rooted = inv.rooted;
    rootless = inv.rootless;
    lens = inv.lens;
    unmade = λ t j l. elsewhere c.place c.first i t j (omega (arith, m.has_next)) ∙ inv.unmade t j l;
    unshared = m.unshared;
    uncounted = inv.uncounted;
    outside = λ t j l e. grind (arith, inv.outside t j l e, m.within);
    keyed = λ t j n phase borrowed e. let w = was_held c.place c.first i t j n phase borrowed e in inv.keyed t j n w.0 borrowed w.1;
    unstored = inv.unstored;
    on_path = λ t j n phase borrowed k live e o.
        let w = was_held c.place c.first i t j n phase borrowed e in on_path c i share t j k (inv.on_path t j n w.0 borrowed k live w.1 o);
    once = λ t j j2 n o phase phase2 borrowed borrowed2 k live e e2.
        let w = was_held c.place c.first i t j n phase borrowed e in
        let w2 = was_held c.place c.first i t j2 o phase2 borrowed2 e2 in
        inv.once t j j2 n o w.0 w2.0 borrowed borrowed2 k live w.1 w2.1;
    unmarked = λ t j l. ap is_marked (elsewhere c.place c.first i t j l) ∙ inv.unmarked t j l;
    pending = inv.pending;
    live = inv.live;
    counts = λ t l r. inv.counts t l r ∙ sym (total_same is_counted (c.share t) (share t) (c.len c.first) (λ j b. m.counted t j));
    stands = stands c i inv;
    is_current = λ t j n phase borrowed e not_copied home.
        let w = was_held c.place c.first i t j n phase borrowed e in inv.is_current t j n w.0 borrowed w.1 (λ d. not_copied (w.2 d)) home;
  }

  -- a pair of a later table is a pair of the root, which is marked there
  targets : (c : Chart K) (i : ℕ) (share : ℕ → ℕ → Share) → Blocking same spot false c → MayMark c i share
      → (t j n : ℕ) (phase : Phase) (borrowed : Bool) → c.first < t → c.status t ≢ ABORTED → with_mark c.place c.first i t j ≡ Holds n phase borrowed
      → (o : ℕ) × (o < c.len c.first) × (with_mark c.place c.first i c.first o ≡ Holds n Copying false) × (is_over (share t o) ≡ true)
  targets c i share inv m t j n phase borrowed l live e =
      let r = inv.targets t j n phase borrowed l live (sym (elsewhere c.place c.first i t j l) ∙ e) in
      (r.0, r.1, (at_place c i c.first r.0).frozen (ap is_marked r.2) ∙ r.2, m.over t r.0 r.3)

  copies : (c : Chart K) (i : ℕ) (share : ℕ → ℕ → Share) → Blocking same spot false c → MayMark c i share
      → (t j : ℕ) → c.first < t → c.status t ≢ ABORTED → is_past (share t j) ≡ true
      → (is_marked (with_mark c.place c.first i c.first j) ≡ true)
      × ((n : ℕ) (phase : Phase) (borrowed : Bool) → with_mark c.place c.first i c.first j ≡ Holds n phase borrowed → (o : ℕ) × (with_mark c.place c.first i t o ≡ Holds n Still false))
  copies c i share inv m t j l live e = at (m.done t j e)
    where
      at : (is_past (c.share t j) ≡ true) ⊎ ((j ≡ i) × ((n : ℕ) (phase : Phase) (borrowed : Bool) → c.place c.first i ≢ Holds n phase borrowed))
          → (is_marked (with_mark c.place c.first i c.first j) ≡ true)
          × ((n : ℕ) (phase : Phase) (borrowed : Bool) → with_mark c.place c.first i c.first j ≡ Holds n phase borrowed → (o : ℕ) × (with_mark c.place c.first i t o ≡ Holds n Still false))
      at (inl before) =
          let r = inv.copies t j l live before in (
            still_marked _ _ (at_place c i c.first j) r.0,
            λ n phase borrowed h.
                let w = was_held c.place c.first i c.first j n phase borrowed h in
                let s = r.1 n w.0 borrowed w.1 in
                (s.0, elsewhere c.place c.first i t s.0 l ∙ s.1),
          )
      at (inr now) = (
        subst (λ (o : ℕ). is_marked (with_mark c.place c.first i c.first o) ≡ true) (sym now.0) (ap is_marked (marked_there c.place c.first i) ∙ marked_marked (c.place c.first i)),
        λ n phase borrowed h.
            let w = was_held c.place c.first i c.first j n phase borrowed h in
            absurd (now.1 n w.0 borrowed (subst (λ (o : ℕ). c.place c.first o ≡ Holds n w.0 borrowed) now.0 w.1)),
      )

  blocking_kept : (c : Chart K) (i : ℕ) (share : ℕ → ℕ → Share) → Blocking same spot false c → MayMark c i share → Blocking same spot false (marked_root c i share)
  blocking_kept c i share inv m = record {
    marked_has_next = λ j e. m.has_next;
    plain = λ t j n phase borrowed e.
        let w = was_held c.place c.first i t j n phase borrowed e in
        let r = inv.plain t j n w.0 borrowed w.1 in
        ((λ d. r.0 (w.3 d)), r.1);
    targets = targets c i share inv m;
    copies = copies c i share inv m;
    claims = λ t j l r b. m.free t j ∙ inv.claims t j l r b;
    sources = λ t j n phase borrowed l e. let w = inv.sources t j n phase borrowed l (grind (arith, e)) in (w.0, grind (arith, w.1));
    left = λ t j l e n. grind (arith, inv.left t j l e n);
    no_tombstone = λ t j mark l e. inv.no_tombstone t j mark l (grind (arith, e));
    aborted = inv.aborted;
    given_up = λ t l e. let r = inv.given_up t l e in (r.0, r.1, m.lost t r.0 r.2);
  }

  pub marked_root_kept : (c : Chart K) (i : ℕ) (share : ℕ → ℕ → Share) → Rule same spot false c → MayMark c i share → Rule same spot false (marked_root c i share)
  marked_root_kept c i share rule m = record { common = common_kept c i share rule.common m; in_mode = blocking_kept c i share rule.in_mode m }

  pub marked_root_lasts : (c : Chart K) (i : ℕ) (share : ℕ → ℕ → Share) → Blocking same spot false c → Lasts same spot false c (marked_root c i share)
  marked_root_lasts c i share inv = record {
    past = omega arith;
    first = omega arith;
    lens = λ t l. (refl, refl);
    stored = omega arith;
    keys = λ n l. refl;
    taken = λ t j e. (at_place c i t j).taken ∙ e;
    others = λ t j k e o. names_kept same spot c.key k c.place (with_mark c.place c.first i) (pairs_stay c.place c.first i) t j ∙ o;
    copied = λ t j n borrowed e. absurd ((inv.plain t j n Copied borrowed e).0 refl);
    settled = λ t j e. (pairs_stay c.place c.first i t j).settled e;
    shut = λ t k e l s. absurd (cc);
    frozen = λ t j e marked. (at_place c i t j).frozen marked;
  }
