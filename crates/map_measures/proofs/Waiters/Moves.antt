-- In blocking mode: which changes of the tables leave each copying that is not over with who goes on with it, who ends it, or who gives it up.
use Rattle.std.specs.Prelude.{cond, eqb, leb, ltb, ◌&&◌, ◌+◌}
use Rattle.std.proofs.Common.{◌≡◌, ◌≢◌, ℕ, ◌<◌, ◌≤◌, ◌⊎◌, inl, inr, Bool, true, false, refl, ap, sym, subst, ◌∙◌, arith, eqb-true}
use Rattle.std.proofs.lemmas.Bool.{cases_lt, eq-eqb, ne_eqb}
use Rattle.map_tables.specs.declared.status.TheConstants.Status.{PENDING, PROMOTED, ABORTED}
use Rattle.many_calls.specs.Given.RuleChart.{Chart, Share, Claimed, Done, Counted, Lost, put, put_in}
use Rattle.many_calls.specs.Given.RuleMaps.{spot_of}
use Rattle.many_calls.specs.Given.RuleMoves.{Move, Links, Stores, Replaces, Removes, Marks, MarksBlocking, Skips, Unmarks, Puts, Covers, PutsLate, Claims, Reclaims, Counts, GivesUp, Aborts, Promotes, Announces, Allowed, after, with_counted, with_lost, is_of_caller}
use Rattle.many_calls.specs.Given.RuleLasts.{IsBy}
use Rattle.many_calls.specs.Given.RuleRule.{Rule}
use Rattle.map_measures.specs.Waits.Waits.{IsUnfinished}
use Rattle.map_measures.proofs.Waits.Endings.{OthersEnd}
use Rattle.map_measures.specs.Waiters.Blocking.{IsUncounted}
use Rattle.many_calls.proofs.Given.PointsSteps.AloneCharts.{not_counted as counted_lost}

-- a share that is put among others
put_uncounted : (f : ℕ → ℕ → Share) (t k : ℕ) (share : Share) → share ≢ Counted → (u j : ℕ) → f u j ≢ Counted → put_in f t k share u j ≢ Counted
put_uncounted f t k share new u j old = by (eqb u t) (eqb j k)
  where
    by : (a b : Bool) → cond a (cond b share (f u j)) (f u j) ≢ Counted
    by true true = new
    by true false = old
    by false b = old

put_lost : (f : ℕ → ℕ → Share) (t k : ℕ) (share : Share) → share ≢ Lost → (u j : ℕ) → put_in f t k share u j ≡ Lost → f u j ≡ Lost
put_lost f t k share new u j = by (eqb u t) (eqb j k)
  where
    by : (a b : Bool) → cond a (cond b share (f u j)) (f u j) ≡ Lost → f u j ≡ Lost
    by true true e = absurd (new e)
    by true false e = e
    by false b e = e

pub lost_uncounted : (i : ℕ) (share : Share) → share ≢ Counted → with_lost i share ≢ Counted
lost_uncounted i share old = by (is_of_caller i share)
  where
    by : (b : Bool) → cond b Lost share ≢ Counted
    by true e = cc e
    by false e = old e

-- by a caller that has none, no share is counted, or given up
pub uncounted_after : (i : ℕ) (share : Share) → is_of_caller i share ≡ false → share ≢ Counted → with_counted i share ≢ Counted
uncounted_after i (Done k) none old = subst (λ (b : Bool). cond b Counted (Done k) ≢ Counted) (sym none) old
uncounted_after i _ none old = old

pub lost_before : (i : ℕ) (share : Share) → is_of_caller i share ≡ false → with_lost i share ≡ Lost → share ≡ Lost
lost_before i share none e = sym (ap (λ (b : Bool). cond b Lost share) none) ∙ e

-- Others are to make a table the root, to say that they have, or that it is given up.
module _ {K : Type 0} (P A G : ℕ → Type 0) where
  -- each copying that is not over has a place that is not counted, or others that end it, or this
  abbrev pub AllEnd : Chart K → (ℕ → Type 0) → Type 0
  AllEnd c Own = (t : ℕ) → 0 < t → t < c.past → IsUnfinished c t → IsUncounted c t ⊎ (OthersEnd P A c t ⊎ Own t)

  -- and each of which a place was given up has others that say so, or this
  abbrev pub AllGivenUp : Chart K → (ℕ → Type 0) → Type 0
  AllGivenUp c Own = (t j : ℕ) → c.first < t → t < c.past → IsUnfinished c t → j < c.len c.first → c.share t j ≡ Lost → G t ⊎ Own t

  abbrev pub AllKept : Chart K → (End Lose : ℕ → Type 0) → Type 0
  AllKept c End Lose = AllEnd c End × AllGivenUp c Lose

  -- who is to do nothing may be left out; and who else is to do something may be named
  pub none_either : (c : Chart K) (End Lose : ℕ → Type 0) → ((t : ℕ) → End t → ⊥) → ((t : ℕ) → Lose t → ⊥) → AllKept c End Lose → AllKept c (λ t. ⊥) (λ t. ⊥)
  none_either c End Lose no_end no_lose (ends, given) = (λ t some made unfinished. by t (ends t some made unfinished), λ t j behind made unfinished l is. given_so t (given t j behind made unfinished l is))
    where
      by : (t : ℕ) → IsUncounted c t ⊎ (OthersEnd P A c t ⊎ End t) → IsUncounted c t ⊎ (OthersEnd P A c t ⊎ ⊥)
      by t (inl uncounted) = inl uncounted
      by t (inr (inl others)) = inr (inl others)
      by t (inr (inr own)) = absurd (no_end t own)

      given_so : (t : ℕ) → G t ⊎ Lose t → G t ⊎ ⊥
      given_so t (inl others) = inl others
      given_so t (inr own) = absurd (no_lose t own)

  pub or_own : (c : Chart K) (End Lose : ℕ → Type 0) → AllKept c (λ t. ⊥) (λ t. ⊥) → AllKept c End Lose
  or_own c End Lose (ends, given) = (λ t some made unfinished. by t (ends t some made unfinished), λ t j behind made unfinished l is. given_so t (given t j behind made unfinished l is))
    where
      by : (t : ℕ) → IsUncounted c t ⊎ (OthersEnd P A c t ⊎ ⊥) → IsUncounted c t ⊎ (OthersEnd P A c t ⊎ End t)
      by t (inl uncounted) = inl uncounted
      by t (inr (inl others)) = inr (inl others)
      by t (inr (inr none)) = absurd none

      given_so : (t : ℕ) → G t ⊎ ⊥ → G t ⊎ Lose t
      given_so t (inl others) = inl others
      given_so t (inr none) = absurd none

  module _ (same : K → K → Bool) (hash : K → ℕ) (c : Chart K) (rule : Rule same (spot_of hash) false c) where
    abbrev next : Move K → Chart K
    next move = after (spot_of hash) false move c

    module _ (End Lose : ℕ → Type 0) where
      -- where shares behind the root that are not counted are so on, and none is given up, and all else is as it was
      pub still : (d : Chart K) → d.first ≡ c.first → d.past ≡ c.past → d.status ≡ c.status → d.len ≡ c.len
          → ((t j : ℕ) → c.first < t → j < c.len c.first → c.share t j ≢ Counted → d.share t j ≢ Counted)
          → ((t j : ℕ) → c.first < t → j < c.len c.first → d.share t j ≡ Lost → c.share t j ≡ Lost) → AllKept c End Lose → AllKept d End Lose
      still d first past status len uncounted lost (ends, given) = (
        λ t some made unfinished. on t (ends t some (made_before t made) (open_before t unfinished)),
        λ t j behind made unfinished l is.
            given t j (subst (λ (n : ℕ). n < t) first behind) (made_before t made) (open_before t unfinished) (inside j l)
            (lost t j (subst (λ (n : ℕ). n < t) first behind) (inside j l) is),
      )
        where
          made_before : (t : ℕ) → t < d.past → t < c.past
          made_before t = subst (λ (n : ℕ). t < n) past

          open_before : (t : ℕ) → IsUnfinished d t → IsUnfinished c t
          open_before t = subst (λ (s : ℕ → ℕ). (s t ≢ PROMOTED) × (s t ≢ ABORTED)) status

          inside : (j : ℕ) → j < d.len d.first → j < c.len c.first
          inside j l = subst (λ (g : ℕ → ℕ). j < g c.first) len (subst (λ (n : ℕ). j < d.len n) first l)

          on : (t : ℕ) → IsUncounted c t ⊎ (OthersEnd P A c t ⊎ End t) → IsUncounted d t ⊎ (OthersEnd P A d t ⊎ End t)
          on t (inl (behind, j, l, is)) = inl (
            subst (λ (n : ℕ). n < t) (sym first) behind,
            j,
            subst (λ (n : ℕ). j < d.len n) (sym first) (subst (λ (g : ℕ → ℕ). j < g c.first) (sym len) l),
            uncounted t j behind l is,
          )
          on t (inr (inl (inl (behind, who)))) = inr (inl (inl (subst (λ (n : ℕ). n < t) (sym first) behind, who)))
          on t (inr (inl (inr (upto, who)))) = inr (inl (inr (subst (λ (n : ℕ). t ≤ n) (sym first) upto, who)))
          on t (inr (inr own)) = inr (inr own)

      -- a table that is linked has no place counted, or given up
      linked : (len limit : ℕ) → AllKept c End Lose → AllKept (next (Links len limit)) End Lose
      linked len limit (ends, given) = (
        λ t some made unfinished. end_at t some made unfinished (cases_lt t c.past),
        λ t j behind made unfinished l is. lost_at t j behind made unfinished l is (cases_lt t c.past),
      )
        where
          d : Chart K
          d = next (Links len limit)

          len_on : 0 < c.past → d.len c.first ≡ c.len c.first
          len_on there = ap (λ (b : Bool). cond b len (c.len c.first)) (ne_eqb c.first c.past (λ e. (let l = rule.common.rooted there in omega (arith, e, l))))

          open_on : (t : ℕ) → t < c.past → IsUnfinished d t → IsUnfinished c t
          open_on t l unfinished =
              let status : d.status t ≡ c.status t = ap (λ (b : Bool). cond b (cond (eqb c.past 0) PROMOTED PENDING) (c.status t)) (ne_eqb t c.past (λ e. omega (arith, e, l))) in
              ((λ e. unfinished.0 (status ∙ e)), (λ e. unfinished.1 (status ∙ e)))

          on : (t : ℕ) → 0 < c.past → IsUncounted c t ⊎ (OthersEnd P A c t ⊎ End t) → IsUncounted d t ⊎ (OthersEnd P A d t ⊎ End t)
          on t there (inl (behind, j, l, is)) = inl (behind, j, subst (λ (n : ℕ). j < n) (sym (len_on there)) l, is)
          on t there (inr others) = inr others

          end_at : (t : ℕ) → 0 < t → t < d.past → IsUnfinished d t → (t < c.past) ⊎ (c.past ≤ t) → IsUncounted d t ⊎ (OthersEnd P A d t ⊎ End t)
          end_at t some made unfinished (inl l) = on t (omega (arith, l)) (ends t some l (open_on t l unfinished))
          end_at t some made unfinished (inr ge) =
              let there : 0 < c.past = omega (arith, some, made, ge) in
              let root = rule.common.rooted there in
              inl (
                omega (arith, root, ge),
                0,
                subst (λ (n : ℕ). 0 < n) (sym (len_on there)) (rule.common.lens c.first root).0,
                λ e. (let free = sym (rule.common.unshared t 0 ge) ∙ e in cc free),
              )

          lost_at : (t j : ℕ) → d.first < t → t < d.past → IsUnfinished d t → j < d.len d.first → d.share t j ≡ Lost → (t < c.past) ⊎ (c.past ≤ t) → G t ⊎ Lose t
          lost_at t j behind made unfinished l is (inl before) =
              given t j behind before (open_on t before unfinished) (subst (λ (n : ℕ). j < n) (len_on (omega (arith, before))) l) is
          lost_at t j behind made unfinished l is (inr ge) = absurd (let free = sym (rule.common.unshared t j ge) ∙ is in cc free)

      -- a change that neither counts, nor gives up, nor ends a copying
      abbrev pub IsPlain : Move K → Type 0
      IsPlain (Counts caller t number) = ⊥
      IsPlain (GivesUp caller t) = ⊥
      IsPlain (Aborts t) = ⊥
      IsPlain (Promotes t) = ⊥
      IsPlain (Announces t) = ⊥
      IsPlain _ = Unit {0}

      pub plain : (move : Move K) → Allowed same (spot_of hash) false move c → IsPlain move → AllKept c End Lose → AllKept (next move) End Lose
      plain (Links len limit) allowed its all = linked len limit all
      plain (Stores t k j) allowed its all = still (next (Stores t k j)) refl refl refl refl (λ u n behind l is. is) (λ u n behind l is. is) all
      plain (Replaces t place k) allowed its all = still (next (Replaces t place k)) refl refl refl refl (λ u n behind l is. is) (λ u n behind l is. is) all
      plain (Removes t place) allowed its all = still (next (Removes t place)) refl refl refl refl (λ u n behind l is. is) (λ u n behind l is. is) all
      plain (MarksBlocking place) allowed its all = still (next (MarksBlocking place)) refl refl refl refl (λ u n behind l is. is) (λ u n behind l is. is) all
      plain (Skips i t place) allowed its all =
          still (next (Skips i t place)) refl refl refl refl (λ u j behind l. put_uncounted c.share t place (Done i) (λ e. cc e) u j) (λ u j behind l. put_lost c.share t place (Done i) (λ e. cc e) u j) all
      plain (Puts i place t k j) allowed its all =
          still (next (Puts i place t k j)) refl refl refl refl (λ u j behind l. put_uncounted c.share t place (Done i) (λ e. cc e) u j) (λ u j behind l. put_lost c.share t place (Done i) (λ e. cc e) u j) all
      plain (PutsLate t place n) allowed its all = still (next (PutsLate t place n)) refl refl refl refl (λ u j behind l is. is) (λ u j behind l is. is) all
      plain (Claims i t chunk) allowed its all = still (next (Claims i t chunk)) refl refl refl refl (λ u j behind l. uncounted u j) (λ u j behind l. lost u j) all
        where
          uncounted : (u j : ℕ) → c.share u j ≢ Counted → (next (Claims i t chunk)).share u j ≢ Counted
          uncounted u j old = by (eqb u t && ltb c.first t) (leb (c.claim t) j && ltb j (c.claim t + chunk) && ltb j (c.len c.first))
            where
              by : (a b : Bool) → cond a (cond b (Claimed i) (c.share u j)) (c.share u j) ≢ Counted
              by true true = λ e. cc e
              by true false = old
              by false b = old

          lost : (u j : ℕ) → (next (Claims i t chunk)).share u j ≡ Lost → c.share u j ≡ Lost
          lost u j = by (eqb u t && ltb c.first t) (leb (c.claim t) j && ltb j (c.claim t + chunk) && ltb j (c.len c.first))
            where
              by : (a b : Bool) → cond a (cond b (Claimed i) (c.share u j)) (c.share u j) ≡ Lost → c.share u j ≡ Lost
              by true true e = absurd (cc e)
              by true false e = e
              by false b e = e
      plain (Marks i place) allowed its all = absurd (let mode = allowed.0 in cc mode)
      plain (Unmarks i place) allowed its all = absurd (let mode = allowed.0 in cc mode)
      plain (Covers i place) allowed its all = absurd (let mode = allowed.0 in cc mode)
      plain (Reclaims t claim) allowed its all = absurd (let mode = allowed.0 in cc mode)
      plain (Counts i t number) allowed its all = absurd its
      plain (GivesUp i t) allowed its all = absurd its
      plain (Aborts t) allowed its all = absurd its
      plain (Promotes t) allowed its all = absurd its
      plain (Announces t) allowed its all = absurd its

      -- what a caller has done is counted: a place is left, or this ends the copying
      pub counted : (i t number : ℕ) → (c.first < t → End t ⊎ ((j : ℕ) × (j < c.len c.first) × (with_counted i (c.share t j) ≢ Counted)))
          → AllKept c (λ u. ⊥) Lose → AllKept (next (Counts i t number)) End Lose
      counted i t number how (ends, given) = (
        λ u some made unfinished. end_at u (eqb u t) refl (ends u some made unfinished),
        λ u j behind made unfinished l is. given u j behind made unfinished l (lost u j (eqb u t) is),
      )
        where
          d : Chart K
          d = next (Counts i t number)

          lost : (u j : ℕ) (b : Bool) → cond b (with_counted i (c.share u j)) (c.share u j) ≡ Lost → c.share u j ≡ Lost
          lost u j true e = counted_lost i (c.share u j) e
          lost u j false e = e

          here : (u : ℕ) → u ≡ t → IsUncounted c u → End u ⊎ ((j : ℕ) × (j < c.len c.first) × (with_counted i (c.share t j) ≢ Counted)) → IsUncounted d u ⊎ (OthersEnd P A d u ⊎ End u)
          here u same_turn old (inl own) = inr (inr own)
          here u same_turn old (inr (j, l, open_still)) = inl (
            old.0,
            j,
            l,
            subst (λ (x : ℕ). cond (eqb x t) (with_counted i (c.share x j)) (c.share x j) ≢ Counted) (sym same_turn)
                (subst (λ (b : Bool). cond b (with_counted i (c.share t j)) (c.share t j) ≢ Counted) (sym (eq-eqb t t refl)) open_still),
          )

          end_at : (u : ℕ) (b : Bool) → eqb u t ≡ b → IsUncounted c u ⊎ (OthersEnd P A c u ⊎ ⊥) → IsUncounted d u ⊎ (OthersEnd P A d u ⊎ End u)
          end_at u true e (inl old) =
              let one : u ≡ t = eqb-true u t e in
              here u one old (subst (λ (x : ℕ). End x ⊎ ((j : ℕ) × (j < c.len c.first) × (with_counted i (c.share t j) ≢ Counted))) (sym one)
              (how (subst (λ (x : ℕ). c.first < x) one old.0)))
          end_at u false e (inl (behind, j, l, old)) =
              inl (behind, j, l, subst (λ (b : Bool). cond b (with_counted i (c.share u j)) (c.share u j) ≢ Counted) (sym e) old)
          end_at u b e (inr (inl others)) = inr (inl others)
          end_at u b e (inr (inr none)) = absurd none

      -- a caller gives its shares up: it is to say so
      pub given_up : (i t : ℕ) → Lose t → AllKept c End (λ u. ⊥) → AllKept (next (GivesUp i t)) End Lose
      given_up i t own (ends, given) = (
        λ u some made unfinished. on u (ends u some made unfinished),
        λ u j behind made unfinished l is. lost u j behind made unfinished l (eqb u t) refl is,
      )
        where
          d : Chart K
          d = next (GivesUp i t)

          open_on : (u j : ℕ) (b : Bool) → c.share u j ≢ Counted → cond b (with_lost i (c.share u j)) (c.share u j) ≢ Counted
          open_on u j true old = lost_uncounted i (c.share u j) old
          open_on u j false old = old

          on : (u : ℕ) → IsUncounted c u ⊎ (OthersEnd P A c u ⊎ End u) → IsUncounted d u ⊎ (OthersEnd P A d u ⊎ End u)
          on u (inl (behind, j, l, old)) = inl (behind, j, l, open_on u j (eqb u t) old)
          on u (inr others) = inr others

          lost : (u j : ℕ) → c.first < u → u < c.past → IsUnfinished c u → j < c.len c.first → (b : Bool) → eqb u t ≡ b
              → cond b (with_lost i (c.share u j)) (c.share u j) ≡ Lost → G u ⊎ Lose u
          lost u j behind made unfinished l true e is = inr (subst Lose (sym (eqb-true u t e)) own)
          lost u j behind made unfinished l false e is = by (given u j behind made unfinished l is)
            where
              by : G u ⊎ ⊥ → G u ⊎ Lose u
              by (inl others) = inl others
              by (inr none) = absurd none

    -- One caller's step: the root is the table that it was. What it counts, and what it gives up, is told by others.
    module _ (i : ℕ) (d : Chart K) (first : d.first ≡ c.first) (End Lose : ℕ → Type 0) (all : AllKept c End Lose) (R : Type 0) (on : AllKept d End Lose → R)
        (counts : (t number : ℕ) → Allowed same (spot_of hash) false (Counts i t number) c → d ≡ next (Counts i t number) → R) (gives : (t : ℕ) → d ≡ next (GivesUp i t) → R) where
      -- what is not over then was not over
      still_open : (t : ℕ) (said : ℕ) → ((said ≡ PROMOTED) ⊎ (said ≡ ABORTED)) → (u : ℕ) → (b : Bool) → eqb u t ≡ b → (cond b said (c.status u) ≢ PROMOTED) × (cond b said (c.status u) ≢ ABORTED) → IsUnfinished c u
      still_open t said over u false e unfinished = unfinished
      still_open t said (inl is) u true e unfinished = absurd (unfinished.0 is)
      still_open t said (inr is) u true e unfinished = absurd (unfinished.1 is)

      told_over : (t : ℕ) (said : ℕ) → ((said ≡ PROMOTED) ⊎ (said ≡ ABORTED)) → (x : Chart K) → x ≡ record c { status = put c.status t said } → AllKept x End Lose
      told_over t said over x is = subst (λ (y : Chart K). AllKept y End Lose) (sym is) (
        λ u some made unfinished. all.0 u some made (still_open t said over u (eqb u t) refl unfinished),
        λ u j behind made unfinished l lost. all.1 u j behind made (still_open t said over u (eqb u t) refl unfinished) l lost,
      )

      plainly : (move : Move K) → Allowed same (spot_of hash) false move c → IsPlain End Lose move → d ≡ next move → R
      plainly move allowed its is = on (subst (λ (x : Chart K). AllKept x End Lose) (sym is) (plain End Lose move allowed its all))

      by_move : (move : Move K) → Allowed same (spot_of hash) false move c → d ≡ next move → ((k : ℕ) → IsBy k move → k ≡ i) → R
      by_move (Counts k t number) allowed is own =
          let mine : k ≡ i = own k refl in
          counts t number (subst (λ (x : ℕ). Allowed same (spot_of hash) false (Counts x t number) c) mine allowed) (is ∙ ap (λ (x : ℕ). next (Counts x t number)) mine)
      by_move (GivesUp k t) allowed is own = let mine : k ≡ i = own k refl in gives t (is ∙ ap (λ (x : ℕ). next (GivesUp x t)) mine)
      by_move (Aborts t) allowed is own = on (told_over t ABORTED (inr refl) d is)
      by_move (Announces t) allowed is own = on (told_over t PROMOTED (inl refl) d is)
      by_move (Promotes t) allowed is own =
          absurd (let there : d.first ≡ t = ap (λ (x : Chart K). x.first) is in let behind = allowed.0 in omega (arith, first, there, behind))
      by_move (Links len limit) allowed is own = plainly (Links len limit) allowed tt is
      by_move (Stores t k j) allowed is own = plainly (Stores t k j) allowed tt is
      by_move (Replaces t place k) allowed is own = plainly (Replaces t place k) allowed tt is
      by_move (Removes t place) allowed is own = plainly (Removes t place) allowed tt is
      by_move (Marks k place) allowed is own = plainly (Marks k place) allowed tt is
      by_move (MarksBlocking place) allowed is own = plainly (MarksBlocking place) allowed tt is
      by_move (Skips k t place) allowed is own = plainly (Skips k t place) allowed tt is
      by_move (Unmarks k place) allowed is own = plainly (Unmarks k place) allowed tt is
      by_move (Puts k place t key try) allowed is own = plainly (Puts k place t key try) allowed tt is
      by_move (Covers k place) allowed is own = plainly (Covers k place) allowed tt is
      by_move (PutsLate t place n) allowed is own = plainly (PutsLate t place n) allowed tt is
      by_move (Claims k t chunk) allowed is own = plainly (Claims k t chunk) allowed tt is
      by_move (Reclaims t claim) allowed is own = plainly (Reclaims t claim) allowed tt is

      pub any_move : (d ≡ c) ⊎ ((move : Move K) × Allowed same (spot_of hash) false move c × (d ≡ next move) × ((k : ℕ) → IsBy k move → k ≡ i)) → R
      any_move (inl is) = on (subst (λ (x : Chart K). AllKept x End Lose) (sym is) all)
      any_move (inr (move, allowed, is, own)) = by_move move allowed is own

    -- a caller has no part in the copying into any table behind the root
    module _ (i : ℕ) (d : Chart K) (first : d.first ≡ c.first) (none : (u j : ℕ) → c.first < u → is_of_caller i (c.share u j) ≡ false) (End Lose : ℕ → Type 0) (all : AllKept c End Lose) where
      counts_none : (t number : ℕ) → d ≡ next (Counts i t number) → AllKept d End Lose
      counts_none t number is =
          subst (λ (x : Chart K). AllKept x End Lose) (sym is)
          (still End Lose (next (Counts i t number)) refl refl refl refl (λ u j behind l old. uncounted u j behind (eqb u t) old) (λ u j behind l lost. before u j (eqb u t) lost) all)
        where
          uncounted : (u j : ℕ) → c.first < u → (b : Bool) → c.share u j ≢ Counted → cond b (with_counted i (c.share u j)) (c.share u j) ≢ Counted
          uncounted u j behind true old = uncounted_after i (c.share u j) (none u j behind) old
          uncounted u j behind false old = old

          before : (u j : ℕ) (b : Bool) → cond b (with_counted i (c.share u j)) (c.share u j) ≡ Lost → c.share u j ≡ Lost
          before u j true lost = counted_lost i (c.share u j) lost
          before u j false lost = lost

      gives_none : (t : ℕ) → d ≡ next (GivesUp i t) → AllKept d End Lose
      gives_none t is =
          subst (λ (x : Chart K). AllKept x End Lose) (sym is)
          (still End Lose (next (GivesUp i t)) refl refl refl refl (λ u j behind l old. uncounted u j (eqb u t) old) (λ u j behind l lost. before u j behind (eqb u t) lost) all)
        where
          uncounted : (u j : ℕ) → (b : Bool) → c.share u j ≢ Counted → cond b (with_lost i (c.share u j)) (c.share u j) ≢ Counted
          uncounted u j true old = lost_uncounted i (c.share u j) old
          uncounted u j false old = old

          before : (u j : ℕ) → c.first < u → (b : Bool) → cond b (with_lost i (c.share u j)) (c.share u j) ≡ Lost → c.share u j ≡ Lost
          before u j behind true lost = lost_before i (c.share u j) (none u j behind) lost
          before u j behind false lost = lost

      pub aside : (d ≡ c) ⊎ ((move : Move K) × Allowed same (spot_of hash) false move c × (d ≡ next move) × ((k : ℕ) → IsBy k move → k ≡ i)) → AllKept d End Lose
      aside = any_move i d first End Lose all (AllKept d End Lose) (λ kept. kept) (λ t number allowed is. counts_none t number is) gives_none

    -- who was to end a copying, or to give it up, is so no more where that is over
    pub discharged : (d : Chart K) (End Lose : ℕ → Type 0) → ((u : ℕ) → End u → IsUnfinished d u → ⊥) → ((u : ℕ) → Lose u → IsUnfinished d u → ⊥) → AllKept d End Lose → AllKept d (λ u. ⊥) (λ u. ⊥)
    discharged d End Lose no_end no_lose (ends, given) = (
      λ u some made unfinished. by u unfinished (ends u some made unfinished),
      λ u j behind made unfinished l is. given_so u unfinished (given u j behind made unfinished l is),
    )
      where
        by : (u : ℕ) → IsUnfinished d u → IsUncounted d u ⊎ (OthersEnd P A d u ⊎ End u) → IsUncounted d u ⊎ (OthersEnd P A d u ⊎ ⊥)
        by u unfinished (inl uncounted) = inl uncounted
        by u unfinished (inr (inl others)) = inr (inl others)
        by u unfinished (inr (inr own)) = absurd (no_end u own unfinished)

        given_so : (u : ℕ) → IsUnfinished d u → G u ⊎ Lose u → G u ⊎ ⊥
        given_so u unfinished (inl others) = inl others
        given_so u unfinished (inr own) = absurd (no_lose u own unfinished)

    -- a table is made the root: each one between was given up, none stands behind, and who has made it is to say so
    pub promoted : (t : ℕ) → Allowed same (spot_of hash) false (Promotes t) c → (End Lose Own : ℕ → Type 0) → ((u : ℕ) → u ≤ c.first → End u → Own u) → Own t → AllKept c End Lose
        → AllKept (next (Promotes t)) Own (λ u. ⊥)
    promoted t allowed End Lose Own before own (ends, given) = (
      λ u some made unfinished. end_at u some made unfinished (cases_lt c.first u) (cases_lt u t) (cases_lt t u),
      λ u j behind made unfinished l is. absurd (last u behind made),
    )
      where
        last : (u : ℕ) → t < u → u < c.past → ⊥
        last u behind made =
            let gave = rule.in_mode.given_up t allowed.0 (rule.in_mode.aborted t allowed.0 (omega (arith, behind, made))) in
            (let counted_there = allowed.2 gave.0 gave.1 in let lost_there = gave.2 in let both = sym counted_there ∙ lost_there in cc both)

        old : (u : ℕ) → u ≤ c.first → IsUncounted c u ⊎ (OthersEnd P A c u ⊎ End u) → IsUncounted (next (Promotes t)) u ⊎ (OthersEnd P A (next (Promotes t)) u ⊎ Own u)
        old u upto (inl uncounted) = absurd (let behind = uncounted.0 in omega (arith, upto, behind))
        old u upto (inr (inl (inl (behind, who)))) = absurd (omega (arith, upto, behind))
        old u upto (inr (inl (inr (early, who)))) = inr (inl (inr ((let more = allowed.0 in omega (arith, upto, more)), who)))
        old u upto (inr (inr own_end)) = inr (inr (before u upto own_end))

        end_at : (u : ℕ) → 0 < u → u < c.past → IsUnfinished c u → (c.first < u) ⊎ (u ≤ c.first) → (u < t) ⊎ (t ≤ u) → (t < u) ⊎ (u ≤ t)
            → IsUncounted (next (Promotes t)) u ⊎ (OthersEnd P A (next (Promotes t)) u ⊎ Own u)
        end_at u some made unfinished (inr upto) low high = old u upto (ends u some made unfinished)
        end_at u some made unfinished (inl behind) (inl low) high = absurd (unfinished.1 (rule.in_mode.aborted u behind (let most = allowed.1 in omega (arith, low, most))))
        end_at u some made unfinished (inl behind) (inr ge) (inl high) = absurd (last u high made)
        end_at u some made unfinished (inl behind) (inr ge) (inr le) = inr (inr (subst Own (let one : t ≡ u = omega (arith, ge, le) in one) own))
