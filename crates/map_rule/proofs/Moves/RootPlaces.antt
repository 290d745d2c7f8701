-- One place of the root and its share change, where pairs move in incremental mode, and the place keeps its pair: the rule stays.
use Rattle.std.proofs.Common.{◌≡◌, ◌≢◌, ℕ, suc, ◌<◌, ◌≤◌, Bool, true, false, cond, eqb, Some, ◌⊎◌, inl, inr, refl, sym, subst, ◌∙◌, arith}
use Rattle.map_rule.specs.Chart.{Phase, Still, Copying, Copied, Place, Holds, Share, Chart, put_in, is_counted}
use Rattle.map_rule.specs.Rule.{IsLawful, Common, Incremental, Rule, Agrees, Shut, IsMoving, is_of}
use Rattle.map_rule.specs.Moves.{WasPut}
use Rattle.map_rule.specs.Lasts.{Lasts}
use Rattle.map_rule.proofs.Moves.Totals.{total_put_in}
use Rattle.map_rule.proofs.Moves.SamePairs.{SamePair, SamePairs, same_pairs, names_kept, with_places, path_kept, shut_kept}

-- in the table that is changed
put_in_table : {X : Type 0} (f : ℕ → ℕ → X) (t i : ℕ) (v : X) (j : ℕ) → put_in f t i v t j ≡ cond (eqb j i) v (f t j)
put_in_table f t i v j = grind arith

module _ {K : Type 0} (same : K → K → Bool) (spot : ℕ → K → ℕ → ℕ) where
  -- this place of the root says p, and its share is s
  abbrev pub changed : Chart K → ℕ → Place → Share → Chart K
  changed c i p s = with_places same spot c (put_in c.place c.first i p) (put_in c.share (suc c.first) i s)

  -- The change is one that the rule allows.
  pub record MayChangeTo (c : Chart K) (i : ℕ) (p : Place) (s : Share) : Type 0 where
    pub within : i < c.len c.first
    pub has_next : suc c.first < c.past
    pub keeps : SamePair (c.place c.first i) p
    pub counted : is_counted s ≡ is_counted (c.share (suc c.first) i)
    pub agrees : Agrees s p
    -- a pair that was copied is in a later table
    pub was_put : (n : ℕ) (borrowed : Bool) → p ≡ Holds n Copied borrowed → WasPut same spot true c n
    -- a pair that was being copied is copied now, or no later table has it
    pub goes_on : (n : ℕ) (borrowed : Bool) → c.place c.first i ≡ Holds n Copying borrowed
        → (p ≡ Holds n Copied borrowed) ⊎ ((t j : ℕ) (phase : Phase) (borrowed2 : Bool) → c.first < t → c.place t j ≢ Holds n phase borrowed2)

  pairs_stay : (c : Chart K) (i : ℕ) (p : Place) (s : Share) → MayChangeTo c i p s → SamePairs c.place (put_in c.place c.first i p)
  pairs_stay c i p s m = same_pairs c.place c.first i p m.keeps

  -- a later table is as it was
  later_stays : (c : Chart K) (i : ℕ) (p : Place) (t j : ℕ) → c.first < t → put_in c.place c.first i p t j ≡ c.place t j
  later_stays c i p t j l = grind arith

  copied_now : (c : Chart K) (i : ℕ) (p : Place) (t j n : ℕ) (phase : Phase) (borrowed : Bool) → c.place t j ≡ Holds n phase borrowed → phase ≢ Copied
      → put_in c.place c.first i p t j ≡ Holds n Copied borrowed → p ≡ Holds n Copied borrowed
  copied_now c i p t j n phase borrowed e ne h = grind arith

  -- a pair of the map stands where it did, or where it was put
  home_kept : (c : Chart K) (i : ℕ) (p : Place) (s : Share) → Common same spot true c → MayChangeTo c i p s → (n : ℕ) → c.current n ≡ true
      → (t : ℕ) × (j : ℕ) × (phase : Phase) × (borrowed : Bool) × (put_in c.place c.first i p t j ≡ Holds n phase borrowed) × (phase ≢ Copied) × (c.first ≤ t)
  home_kept c i p s inv m n current =
      let w = inv.stands n current in
      let v = (pairs_stay c i p s m w.0 w.1).later n w.2 w.3 w.4 in
      at w.0 w.1 w.2 w.3 w.4 w.5 w.6 v.0 v.1
    where
      at : (t j : ℕ) (phase : Phase) (borrowed : Bool) → c.place t j ≡ Holds n phase borrowed → phase ≢ Copied → c.first ≤ t
          → (phase2 : Phase) → put_in c.place c.first i p t j ≡ Holds n phase2 borrowed
          → (t : ℕ) × (j : ℕ) × (phase : Phase) × (borrowed : Bool) × (put_in c.place c.first i p t j ≡ Holds n phase borrowed) × (phase ≢ Copied) × (c.first ≤ t)
      at t j phase borrowed e ne l Still h = (t, j, Still, borrowed, h, λ o. absurd (cc o), l)
      at t j phase borrowed e ne l Copying h = (t, j, Copying, borrowed, h, λ o. absurd (cc o), l)
      at t j phase borrowed e ne l Copied h =
          let w = m.was_put n borrowed (copied_now c i p t j n phase borrowed e ne h) in
          (w.0, w.1, Still, true, later_stays c i p w.0 w.1 w.2 ∙ w.3, λ o. absurd (cc o), omega (arith, w.2))

  common_kept : (c : Chart K) (i : ℕ) (p : Place) (s : Share) → Common same spot true c → MayChangeTo c i p s → Common same spot true (changed c i p s)
  common_kept c i p s inv m = record {
    rooted = inv.rooted;
    rootless = inv.rootless;
    lens = inv.lens;
    unmade = λ t j l. grind (arith, inv.unmade t j);
    unshared = λ t j l. grind (arith, inv.unshared t j);
    uncounted = inv.uncounted;
    outside = λ t j l e. grind (arith, inv.outside t j);
    keyed = λ t j n phase borrowed e. let w = (pairs_stay c i p s m t j).earlier n phase borrowed e in inv.keyed t j n w.0 borrowed w.1;
    unstored = inv.unstored;
    on_path = λ t j n phase borrowed k live e o.
        let w = (pairs_stay c i p s m t j).earlier n phase borrowed e in
        path_kept same spot c (put_in c.place c.first i p) (put_in c.share (suc c.first) i s) (pairs_stay c i p s m) t j k
        (inv.on_path t j n w.0 borrowed k live w.1 o);
    once = λ t j j2 n o phase phase2 borrowed borrowed2 k live e e2.
        let w = (pairs_stay c i p s m t j).earlier n phase borrowed e in
        let w2 = (pairs_stay c i p s m t j2).earlier o phase2 borrowed2 e2 in
        inv.once t j j2 n o w.0 w2.0 borrowed borrowed2 k live w.1 w2.1;
    unmarked = λ t j l. rw (later_stays c i p t j l) (inv.unmarked t j l);
    pending = inv.pending;
    live = inv.live;
    counts = λ t l r. inv.counts t l r ∙ sym (total_put_in is_counted c.share (suc c.first) i s t (c.len c.first) m.counted);
    stands = home_kept c i p s inv m;
    is_current = λ t j n phase borrowed e ne home.
        let w = (pairs_stay c i p s m t j).earlier n phase borrowed e in inv.is_current t j n w.0 borrowed w.1 (λ o. ne (w.2 o)) home;
  }

  -- the class of a pair that was copied now is shut in the root
  shut_now : (c : Chart K) (i : ℕ) (p : Place) (s : Share) → IsLawful same spot → Common same spot true c → MayChangeTo c i p s
      → (n : ℕ) (borrowed : Bool) (k : K) → c.place c.first i ≡ Holds n Copying borrowed → p ≡ Holds n Copied borrowed → c.key n ≡ Some k
      → Shut same spot true (changed c i p s) c.first k
  shut_now c i p s lawful inv m n borrowed k e now key = (all, inl (i, n, borrowed, here, is_its))
    where
      here : put_in c.place c.first i p c.first i ≡ Holds n Copied borrowed
      here = grind (arith, now)

      is_its : is_of same spot true k (c.key n) ≡ true
      is_its = rw key (lawful.classes.refl k)

      all : (j o : ℕ) (phase : Phase) (borrowed2 : Bool) → put_in c.place c.first i p c.first j ≡ Holds o phase borrowed2
          → is_of same spot true k (c.key o) ≡ true → phase ≡ Copied
      all j o phase borrowed2 h its =
          let w = (pairs_stay c i p s m c.first j).earlier o phase borrowed2 h in
          let one : i ≡ j = inv.once c.first i j n o Copying w.0 borrowed borrowed2 k inv.live e w.1 is_its its in
          let same_place : put_in c.place c.first i p c.first j ≡ Holds n Copied borrowed = rw (← one) here in
          cc

  moved_here : (c : Chart K) (i : ℕ) (p : Place) (j n : ℕ) (phase : Phase) (borrowed : Bool) → c.place c.first j ≡ Holds n Copying borrowed → phase ≢ Copying
      → put_in c.place c.first i p c.first j ≡ Holds n phase borrowed → c.place c.first i ≡ Holds n Copying borrowed
  moved_here c i p j n phase borrowed e ne h = grind arith

  -- a class that stands in a later table is shut now, or still being copied
  chain_kept : (c : Chart K) (i : ℕ) (p : Place) (s : Share) → IsLawful same spot → Common same spot true c → Incremental same spot true c → MayChangeTo c i p s
      → (t u j n : ℕ) (phase : Phase) (borrowed : Bool) (k : K) → put_in c.place c.first i p u j ≡ Holds n phase borrowed → c.key n ≡ Some k → t < u → c.first ≤ t
      → Shut same spot true (changed c i p s) t k ⊎ ((t ≡ c.first) × (borrowed ≡ true) × IsMoving same spot true (changed c i p s) n)
  chain_kept c i p s lawful inv bits m t u j n phase borrowed k e key l f =
      let w = (pairs_stay c i p s m u j).earlier n phase borrowed e in
      at (bits.chain t u j n w.0 borrowed k w.1 key l f) w.0 w.1
    where
      ended : (phase0 : Phase) → c.place u j ≡ Holds n phase0 borrowed → t ≡ c.first → (borrowed2 : Bool) → c.place c.first i ≡ Holds n Copying borrowed2
          → Shut same spot true (changed c i p s) t k ⊎ ((t ≡ c.first) × (borrowed ≡ true) × IsMoving same spot true (changed c i p s) n)
      ended phase0 e0 first borrowed2 e2 = elim (m.goes_on n borrowed2 e2) as (λ x. Shut same spot true (changed c i p s) t k ⊎ ((t ≡ c.first) × (borrowed ≡ true) × IsMoving same spot true (changed c i p s) n)) [
        | inl now ↦ inl (subst (λ (x : ℕ). Shut same spot true (changed c i p s) x k) (sym first) (shut_now c i p s lawful inv m n borrowed2 k e2 now key))
        | inr none ↦ absurd (none u j phase0 borrowed (omega (arith, first, l)) e0)
      ]

      moved : (phase0 : Phase) → c.place u j ≡ Holds n phase0 borrowed → t ≡ c.first → borrowed ≡ true
          → (j2 : ℕ) (borrowed2 : Bool) → c.place c.first j2 ≡ Holds n Copying borrowed2
          → (phase2 : Phase) → put_in c.place c.first i p c.first j2 ≡ Holds n phase2 borrowed2
          → Shut same spot true (changed c i p s) t k ⊎ ((t ≡ c.first) × (borrowed ≡ true) × IsMoving same spot true (changed c i p s) n)
      moved phase0 e0 first lent j2 borrowed2 e2 Copying h = inr (first, lent, (j2, borrowed2, h))
      moved phase0 e0 first lent j2 borrowed2 e2 Still h =
          ended phase0 e0 first borrowed2 (moved_here c i p j2 n Still borrowed2 e2 (λ o. absurd (cc o)) h)
      moved phase0 e0 first lent j2 borrowed2 e2 Copied h =
          ended phase0 e0 first borrowed2 (moved_here c i p j2 n Copied borrowed2 e2 (λ o. absurd (cc o)) h)

      at : Shut same spot true c t k ⊎ ((t ≡ c.first) × (borrowed ≡ true) × IsMoving same spot true c n) → (phase0 : Phase) → c.place u j ≡ Holds n phase0 borrowed
          → Shut same spot true (changed c i p s) t k ⊎ ((t ≡ c.first) × (borrowed ≡ true) × IsMoving same spot true (changed c i p s) n)
      at (inl shut) phase0 e0 = inl (shut_kept same spot c (put_in c.place c.first i p) (put_in c.share (suc c.first) i s) (pairs_stay c i p s m) t k shut)
      at (inr w) phase0 e0 =
          let v = (pairs_stay c i p s m c.first w.2.0).later n Copying w.2.1 w.2.2 in
          moved phase0 e0 w.0 w.1 w.2.0 w.2.1 w.2.2 v.0 v.1

  shares_kept : (c : Chart K) (i : ℕ) (p : Place) (s : Share) → Agrees s p
      → (j : ℕ) → Agrees (c.share (suc c.first) j) (c.place c.first j)
      → Agrees (put_in c.share (suc c.first) i s (suc c.first) j) (put_in c.place c.first i p c.first j)
  shares_kept c i p s h j e = rw (put_in_table c.share (suc c.first) i s j, put_in_table c.place c.first i p j) (at (eqb j i))
    where
      at : (b : Bool) → Agrees (cond b s (c.share (suc c.first) j)) (cond b p (c.place c.first j))
      at true = h
      at false = e

  bits_kept : (c : Chart K) (i : ℕ) (p : Place) (s : Share) → IsLawful same spot → Common same spot true c → Incremental same spot true c → MayChangeTo c i p s
      → Incremental same spot true (changed c i p s)
  bits_kept c i p s lawful inv bits m = record {
    settled = λ t j l r. (pairs_stay c i p s m t j).settled (bits.settled t j l r);
    chain = chain_kept c i p s lawful inv bits m;
    shares = λ j l. shares_kept c i p s m.agrees j (bits.shares j l);
    only_next = λ t j l. grind (arith, bits.only_next t j);
    lent = λ t u j j2 n phase phase2 borrowed e e2.
        let w = (pairs_stay c i p s m t j).earlier n phase false e in
        let w2 = (pairs_stay c i p s m u j2).earlier n phase2 borrowed e2 in
        bits.lent t u j j2 n w.0 w2.0 borrowed w.1 w2.1;
    never_aborted = bits.never_aborted;
  }

  pub change_kept : (c : Chart K) (i : ℕ) (p : Place) (s : Share) → IsLawful same spot → Rule same spot true c → MayChangeTo c i p s → Rule same spot true (changed c i p s)
  change_kept c i p s lawful inv m = record {
    common = common_kept c i p s inv.common m;
    in_mode = bits_kept c i p s lawful inv.common inv.in_mode m;
  }

  pub change_lasts : (c : Chart K) (i : ℕ) (p : Place) (s : Share) → MayChangeTo c i p s → Lasts same spot true c (changed c i p s)
  change_lasts c i p s m = record {
    past = omega arith;
    first = omega arith;
    lens = λ t l. (refl, refl);
    stored = omega arith;
    keys = λ n l. refl;
    taken = λ t j e. (pairs_stay c i p s m t j).taken e;
    others = λ t j k e o. names_kept same spot c.key k c.place (put_in c.place c.first i p) (pairs_stay c i p s m) t j ∙ o;
    copied = λ t j n borrowed e. (pairs_stay c i p s m t j).copied n borrowed e;
    settled = λ t j e. (pairs_stay c i p s m t j).settled e;
    shut = λ t k e l h. shut_kept same spot c (put_in c.place c.first i p) (put_in c.share (suc c.first) i s) (pairs_stay c i p s m) t k h;
    frozen = λ t j e. absurd (cc e);
  }
