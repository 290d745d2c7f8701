-- In incremental mode: that each copying that is not over has a place that is not counted, or a copier that is to end it, whatever change of the tables a copier makes.
use Rattle.std.specs.Prelude.{cond, eqb}
use Rattle.std.proofs.Common.{◌≡◌, ◌≢◌, ℕ, zero, suc, ◌<◌, ◌≤◌, ◌⊎◌, inl, inr, Bool, true, false, refl, ap, sym, subst, ◌∙◌, arith, eqb-true}
use Rattle.std.proofs.lemmas.Bool.{cases_lt, eq-eqb, ne_eqb}
use Rattle.map_tables.specs.declared.status.TheConstants.Status.{PENDING, ABORTED, PROMOTED}
use Rattle.map_machines.specs.CopierStates.{standing}
use Rattle.map_machines.specs.declared.copier.Copier.{Copier}
use Rattle.map_machines.specs.declared.copier.Copying.{Copying as Point}
use Rattle.map_machines.specs.declared.copier.Copying.TheVariants as at
use Rattle.many_calls.specs.Given.RuleChart.{Place, Empty, Tombstone, Holds, Share, Free, Claimed, Done, Counted, Lost, Chart, put_in, is_counted}
use Rattle.many_calls.specs.Given.RuleMaps.{spot_of}
use Rattle.many_calls.specs.Given.RuleMoves.{Move, Links, Stores, Replaces, Removes, Marks, Unmarks, Puts, Covers, Reclaims, Counts, Promotes, Announces, after, share_of, with_counted}
use Rattle.many_calls.specs.Given.RuleRule.{Agrees, Rule, total}
use Rattle.many_calls.specs.Given.PointsTold.{IsBesideCopying}
use Rattle.many_calls.specs.Given.PointsToldMoves.{IsPlain, MovedPlain}
use Rattle.map_measures.specs.Waits.Others.{IsToCount, IsOpen, EndsAt}
use Rattle.map_measures.specs.Waits.Waits.{IsUnfinished}

-- a share that is put among others
put_open : (f : ℕ → ℕ → Share) (t k : ℕ) (share : Share) → IsToCount share → (u j : ℕ) → IsToCount (f u j) → IsToCount (put_in f t k share u j)
put_open f t k share kept u j old = by (eqb u t) (eqb j k)
  where
    by : (a b : Bool) → IsToCount (cond a (cond b share (f u j)) (f u j))
    by true true = kept
    by true false = old
    by false b = old

share_open : (i : ℕ) (place : Place) → IsToCount (share_of i place)
share_open i (Empty mark) = tt
share_open i (Tombstone mark) = tt
share_open i (Holds n phase borrowed) = tt

-- where not all shares are counted, and none is lost, one is to be counted
pub some_left : (d : ℕ → Share) (n : ℕ) → ((j : ℕ) → j < n → d j ≢ Lost) → total is_counted d n ≢ n → (j : ℕ) × (j < n) × IsToCount (d j)
some_left d zero lost few = absurd (few refl)
some_left d (suc n) lost few = by (d n) refl (λ one. some_left d n (λ j l. lost j (omega (arith, l))) (λ e. few (omega (arith, e, one))))
  where
    here : (share : Share) → d n ≡ share → IsToCount share → (j : ℕ) × (j < suc n) × IsToCount (d j)
    here share is uncounted = (n, omega arith, subst (λ (x : Share). IsToCount x) (sym is) uncounted)

    by : (share : Share) → d n ≡ share → (is_counted (d n) ≡ 1 → (j : ℕ) × (j < n) × IsToCount (d j)) → (j : ℕ) × (j < suc n) × IsToCount (d j)
    by Counted is rest = let before = rest (ap is_counted is) in (before.0, (let l = before.1 in omega (arith, l)), before.2)
    by Lost is rest = absurd (lost n (omega arith) is)
    by Free is rest = here Free is tt
    by (Claimed k) is rest = here (Claimed k) is tt
    by (Done k) is rest = here (Done k) is tt

-- in incremental mode no share is lost, counted or not
not_lost : (i : ℕ) (share : Share) (place : Place) → Agrees share place → with_counted i share ≢ Lost
not_lost i Free place agrees e = cc e
not_lost i (Claimed k) place agrees e = cc e
not_lost i Counted place agrees e = cc e
not_lost i Lost place agrees e = agrees
not_lost i (Done k) place agrees e = by (eqb k i) e
  where
    by : (b : Bool) → cond b Counted (Done k) ≡ Lost → ⊥
    by true is = cc is
    by false is = cc is

-- a place of the root is left where not all are counted
pub left_over : {K : Type 0} (same : K → K → Bool) (hash : K → ℕ) (c : Chart K) → Rule same (spot_of hash) true c → (i : ℕ)
    → total is_counted (λ j. with_counted i (c.share (suc c.first) j)) (c.len c.first) ≢ c.len c.first
    → (j : ℕ) × (j < c.len c.first) × IsToCount (with_counted i (c.share (suc c.first) j))
left_over same hash c rule i few =
    some_left (λ j. with_counted i (c.share (suc c.first) j)) (c.len c.first)
    (λ j l. not_lost i (c.share (suc c.first) j) (c.place c.first j) (rule.in_mode.shares j l)) few

-- Others are to make a table the root, or to say that they have.
module _ {K : Type 0} (P A : ℕ → Type 0) where
  abbrev pub OthersEnd : Chart K → ℕ → Type 0
  OthersEnd c t = ((c.first < t) × P t) ⊎ ((t ≤ c.first) × A t)

  -- each copying that is not over has a place that is not counted, or others that end it, or this
  abbrev pub AllOr : Chart K → (ℕ → Type 0) → Type 0
  AllOr c Own = (t : ℕ) → 0 < t → t < c.past → IsUnfinished c t → IsOpen c t ⊎ (OthersEnd c t ⊎ Own t)

  pub weaker : (c : Chart K) (Own : ℕ → Type 0) → AllOr c (λ t. ⊥) → AllOr c Own
  weaker c Own all t some made unfinished = by (all t some made unfinished)
    where
      by : IsOpen c t ⊎ (OthersEnd c t ⊎ ⊥) → IsOpen c t ⊎ (OthersEnd c t ⊎ Own t)
      by (inl uncounted) = inl uncounted
      by (inr (inl others)) = inr (inl others)
      by (inr (inr none)) = absurd none

  -- or this copier
  abbrev pub AllEnd : Chart K → Copier → Point → Type 0
  AllEnd c p stands = AllOr c (λ t. EndsAt c p stands t)

  module _ (same : K → K → Bool) (hash : K → ℕ) (c : Chart K) (rule : Rule same (spot_of hash) true c) where
    -- where shares that are to be counted are so on, and all else is as it was
    still : (d : Chart K) → d.first ≡ c.first → d.past ≡ c.past → d.status ≡ c.status → d.len ≡ c.len → ((t j : ℕ) → IsToCount (c.share t j) → IsToCount (d.share t j))
        → AllOr c (λ t. ⊥) → AllOr d (λ t. ⊥)
    still d first past status len uncounted all t some made unfinished =
        on (all t some (subst (λ (n : ℕ). t < n) past made) (subst (λ (s : ℕ → ℕ). (s t ≢ PROMOTED) × (s t ≢ ABORTED)) status unfinished))
      where
        on : IsOpen c t ⊎ (OthersEnd c t ⊎ ⊥) → IsOpen d t ⊎ (OthersEnd d t ⊎ ⊥)
        on (inl (behind, j, l, is)) = inl (
          subst (λ (n : ℕ). n < t) (sym first) behind,
          j,
          subst (λ (n : ℕ). j < d.len n) (sym first) (subst (λ (g : ℕ → ℕ). j < g c.first) (sym len) l),
          uncounted t j is,
        )
        on (inr (inl (inl (behind, who)))) = inr (inl (inl (subst (λ (n : ℕ). n < t) (sym first) behind, who)))
        on (inr (inl (inr (upto, who)))) = inr (inl (inr (subst (λ (n : ℕ). t ≤ n) (sym first) upto, who)))
        on (inr (inr none)) = absurd none

    -- a table that is linked has no place counted
    linked : (len limit : ℕ) → AllOr c (λ t. ⊥) → AllOr (after (spot_of hash) true (Links len limit) c) (λ t. ⊥)
    linked len limit all t some made unfinished = by (cases_lt t c.past)
      where
        linked_chart : Chart K
        linked_chart = after (spot_of hash) true (Links len limit) c

        rooted : 0 < c.past → c.first < c.past
        rooted = rule.common.rooted

        len_on : 0 < c.past → linked_chart.len c.first ≡ c.len c.first
        len_on there = ap (λ (b : Bool). cond b len (c.len c.first)) (ne_eqb c.first c.past (λ e. (let l = rooted there in omega (arith, e, l))))

        status_on : t < c.past → linked_chart.status t ≡ c.status t
        status_on l = ap (λ (b : Bool). cond b (cond (eqb c.past 0) PROMOTED PENDING) (c.status t)) (ne_eqb t c.past (λ e. omega (arith, e, l)))

        on : 0 < c.past → IsOpen c t ⊎ (OthersEnd c t ⊎ ⊥) → IsOpen linked_chart t ⊎ (OthersEnd linked_chart t ⊎ ⊥)
        on there (inl (behind, j, l, is)) = inl (behind, j, subst (λ (n : ℕ). j < n) (sym (len_on there)) l, is)
        on there (inr (inl others)) = inr (inl others)
        on there (inr (inr none)) = absurd none

        by : (t < c.past) ⊎ (c.past ≤ t) → IsOpen linked_chart t ⊎ (OthersEnd linked_chart t ⊎ ⊥)
        by (inl l) = on (omega (arith, l)) (all t some l ((λ e. unfinished.0 (status_on l ∙ e)), (λ e. unfinished.1 (status_on l ∙ e))))
        by (inr ge) =
            let there : 0 < c.past = omega (arith, some, made, ge) in
            let root = rooted there in
            inl (
              omega (arith, root, ge),
              0,
              subst (λ (n : ℕ). 0 < n) (sym (len_on there)) (rule.common.lens c.first root).0,
              subst (λ (x : Share). IsToCount x) (sym (rule.common.unshared t 0 ge)) tt,
            )

    -- no change, or one that counts nothing
    pub plain : (i : ℕ) (d : Chart K) → MovedPlain hash i c d → AllOr c (λ t. ⊥) → AllOr d (λ t. ⊥)
    plain i d (inl is) all =
        still d (ap (λ (x : Chart K). x.first) is) (ap (λ (x : Chart K). x.past) is) (ap (λ (x : Chart K). x.status) is) (ap (λ (x : Chart K). x.len) is)
        (λ t j. subst (λ (x : Chart K). IsToCount (c.share t j) → IsToCount (x.share t j)) (sym is) (λ uncounted. uncounted)) all
    plain i d (inr (move, fits, is)) all = subst (λ (x : Chart K). AllOr x (λ t. ⊥)) (sym is) (by move fits)
      where
        by : (move : Move K) → IsPlain hash i c move → AllOr (after (spot_of hash) true move c) (λ t. ⊥)
        by (Links len limit) fits = linked len limit all
        by (Marks k j) fits = still (after (spot_of hash) true (Marks k j) c) refl refl refl refl
            (put_open c.share (suc c.first) j (share_of k (c.place c.first j)) (share_open k (c.place c.first j))) all
        by (Unmarks k j) fits = still (after (spot_of hash) true (Unmarks k j) c) refl refl refl refl (put_open c.share (suc c.first) j Free tt) all
        by (Puts k j t key try) fits = still (after (spot_of hash) true (Puts k j t key try) c) refl refl refl refl (λ u n uncounted. uncounted) all
        by (Covers k j) fits = still (after (spot_of hash) true (Covers k j) c) refl refl refl refl (put_open c.share (suc c.first) j (Done k) tt) all
        by (Reclaims t claim) fits = still (after (spot_of hash) true (Reclaims t claim) c) refl refl refl refl (λ u n uncounted. uncounted) all
        by _ fits = absurd fits

    -- what a call does beside its copying
    pub beside : (d : Chart K) → (d ≡ c) ⊎ ((move : Move K) × IsBesideCopying move × (d ≡ after (spot_of hash) true move c)) → AllOr c (λ t. ⊥) → AllOr d (λ t. ⊥)
    beside d (inl is) all = plain 0 d (inl is) all
    beside d (inr (move, fits, is)) all = subst (λ (x : Chart K). AllOr x (λ t. ⊥)) (sym is) (by move fits)
      where
        by : (move : Move K) → IsBesideCopying move → AllOr (after (spot_of hash) true move c) (λ t. ⊥)
        by (Links len limit) fits = linked len limit all
        by (Stores t key try) fits = still (after (spot_of hash) true (Stores t key try) c) refl refl refl refl (λ u n uncounted. uncounted) all
        by (Replaces t place key) fits = still (after (spot_of hash) true (Replaces t place key) c) refl refl refl refl (λ u n uncounted. uncounted) all
        by (Removes t place) fits = still (after (spot_of hash) true (Removes t place) c) refl refl refl refl (λ u n uncounted. uncounted) all
        by _ fits = absurd fits

    -- what a caller has done is counted: a place is left, or this ends the copying
    pub counted : (i done : ℕ) (Own : ℕ → Type 0) → Own (suc c.first) ⊎ ((j : ℕ) × (j < c.len c.first) × IsToCount (with_counted i (c.share (suc c.first) j)))
        → AllOr c (λ t. ⊥) → AllOr (after (spot_of hash) true (Counts i (suc c.first) done) c) Own
    counted i done Own how all t some made unfinished = by (eqb t (suc c.first)) refl
      where
        counted_chart : Chart K
        counted_chart = after (spot_of hash) true (Counts i (suc c.first) done) c

        EndsIn : ℕ → Type 0
        EndsIn t = IsOpen counted_chart t ⊎ (OthersEnd counted_chart t ⊎ Own t)

        next : Own (suc c.first) ⊎ ((j : ℕ) × (j < c.len c.first) × IsToCount (with_counted i (c.share (suc c.first) j))) → EndsIn (suc c.first)
        next (inl own) = inr (inr own)
        next (inr (j, l, uncounted)) = inl (
          omega arith,
          j,
          l,
          subst (λ (b : Bool). IsToCount (cond b (with_counted i (c.share (suc c.first) j)) (c.share (suc c.first) j))) (sym (eq-eqb (suc c.first) (suc c.first) refl)) uncounted,
        )

        on : eqb t (suc c.first) ≡ false → IsOpen c t ⊎ (OthersEnd c t ⊎ ⊥) → EndsIn t
        on other (inl (behind, j, l, uncounted)) =
            inl (behind, j, l, subst (λ (b : Bool). IsToCount (cond b (with_counted i (c.share t j)) (c.share t j))) (sym other) uncounted)
        on other (inr (inl others)) = inr (inl others)
        on other (inr (inr none)) = absurd none

        by : (b : Bool) → eqb t (suc c.first) ≡ b → EndsIn t
        by true is = subst (λ (x : ℕ). EndsIn x) (sym (eqb-true t (suc c.first) is)) (next how)
        by false other = on other (all t some made unfinished)

    -- the next table is made the root
    pub promoted : (p : Copier) → p.target.turn ≡ suc c.first → AllEnd c p at.Promotes
        → AllEnd (after (spot_of hash) true (Promotes (suc c.first)) c) (standing p at.Announces) at.Announces
    promoted p target all t some made unfinished = by (cases_lt t (suc c.first)) (cases_lt (suc c.first) t)
      where
        promoted_chart : Chart K
        promoted_chart = after (spot_of hash) true (Promotes (suc c.first)) c

        EndsIn : Type 0
        EndsIn = IsOpen promoted_chart t ⊎ (OthersEnd promoted_chart t ⊎ EndsAt promoted_chart (standing p at.Announces) at.Announces t)

        -- those that the root had come to, or had left
        before : t < suc c.first → IsOpen c t ⊎ (OthersEnd c t ⊎ EndsAt c p at.Promotes t) → EndsIn
        before l (inl uncounted) = absurd (let behind = uncounted.0 in omega (arith, l, behind))
        before l (inr (inl (inl (behind, who)))) = absurd (omega (arith, l, behind))
        before l (inr (inl (inr (upto, who)))) = inr (inl (inr (omega (arith, upto), who)))
        before l (inr (inr (turn, behind))) = absurd (omega (arith, l, behind))

        by : (t < suc c.first) ⊎ (suc c.first ≤ t) → (suc c.first < t) ⊎ (t ≤ suc c.first) → EndsIn
        by (inl l) other = before l (all t some made unfinished)
        by (inr ge) (inl l) = inl (
          l,
          0,
          (rule.common.lens (suc c.first) (omega (arith, l, made))).0,
          subst (λ (x : Share). IsToCount x) (sym (rule.in_mode.only_next t 0 l)) tt,
        )
        by (inr ge) (inr le) = inr (inr (omega (arith, target, ge, le), le))

    -- its status says so
    pub announced : (p : Copier) → AllEnd c p at.Announces → AllOr (after (spot_of hash) true (Announces p.target.turn) c) (λ t. ⊥)
    announced p all t some made unfinished = by (eqb t p.target.turn) refl
      where
        announced_chart : Chart K
        announced_chart = after (spot_of hash) true (Announces p.target.turn) c

        on : eqb t p.target.turn ≡ false → IsOpen c t ⊎ (OthersEnd c t ⊎ EndsAt c p at.Announces t)
            → IsOpen announced_chart t ⊎ (OthersEnd announced_chart t ⊎ ⊥)
        on other (inl uncounted) = inl uncounted
        on other (inr (inl others)) = inr (inl others)
        on other (inr (inr own)) = absurd (let it = eq-eqb t p.target.turn (sym own.0) in cc (it, other))

        by : (b : Bool) → eqb t p.target.turn ≡ b → IsOpen announced_chart t ⊎ (OthersEnd announced_chart t ⊎ ⊥)
        by true is = absurd (unfinished.0 (ap (λ (b : Bool). cond b PROMOTED (c.status t)) is))
        by false other =
            let status : announced_chart.status t ≡ c.status t = ap (λ (b : Bool). cond b PROMOTED (c.status t)) other in
            on other (all t some made ((λ e. unfinished.0 (status ∙ e)), (λ e. unfinished.1 (status ∙ e))))
