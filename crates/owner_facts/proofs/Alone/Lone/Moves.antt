-- In incremental mode, what a caller that is alone knows of the tables is so after its own changes of them.
use Rattle.std.proofs.Common.{◌≡◌, ◌≢◌, ℕ, suc, ◌<◌, ◌≤◌, Bool, true, false, cond, eqb, ◌⊎◌, inl, inr, eq-or-lt_of_le, refl, ap, sym, ◌∙◌, arith}
use Rattle.std.proofs.lemmas.Bool.{eq-eqb, eqb-false}
use Rattle.many_maps.specs.Given.TablesDeclared.status.TheConstants.Status.{PENDING, PROMOTED}
use Rattle.many_maps.specs.Given.RuleChart.{Counted, Chart, put, is_counted}
use Rattle.many_maps.specs.Given.RuleRule.{Rule, no_table, total}
use Rattle.many_maps.specs.Given.RuleMoves.{Move, Links, Stores, Replaces, Removes, Marks, MarksBlocking, Skips, Unmarks, Puts, Covers, PutsLate, Claims, Reclaims, Counts, GivesUp, Aborts, Promotes, Announces, is_of_caller, after}
use Rattle.many_maps.specs.Given.RuleLasts.{IsBy}
use Rattle.many_maps.specs.Given.RuleMaps.{spot_of}
use Rattle.many_maps.specs.Given.PointsMeasures.{OthersIdle}
use Rattle.many_maps.specs.Given.PointsToldMoves.{IsPlain}
use Rattle.many_maps.proofs.Given.RuleMoves.SharesGiven.{none_given}
use Rattle.many_maps.proofs.Given.RuleMoves.Totals.{total_counted_le, total_full, total_none}
use Rattle.many_maps.proofs.Given.RuleMoves.Writes.{put_here, put_elsewhere}
use Rattle.owner_facts.specs.Alone.FactsAlone.{AllAnnounced, AllAnnouncedBut, IsUncounted}

module _ {K : Type 0} (same : K → K → Bool) (hash : K → ℕ) (caller : ℕ) (c : Chart K) where
  -- the others stay idle
  pub idle_kept : (move : Move K) → ((i : ℕ) → i ≢ caller → IsBy i move → ⊥) → OthersIdle caller c → OthersIdle caller (after (spot_of hash) true move c)
  idle_kept move own idle i t j other = by (is_of_caller i ((after (spot_of hash) true move c).share t j)) refl
    where
      by : (b : Bool) → is_of_caller i ((after (spot_of hash) true move c).share t j) ≡ b → is_of_caller i ((after (spot_of hash) true move c).share t j) ≡ false
      by true e =
          let given = none_given same (spot_of hash) true move c i t j (own i other) e in
          let none = idle i t j other in
          let had = ap (is_of_caller i) given in
          absurd (cc (had, none, e))
      by false e = e

  pub plain_own : (move : Move K) → IsPlain hash caller c move → (i : ℕ) → i ≢ caller → IsBy i move → ⊥
  plain_own (Links len limit) plain i other by = by
  plain_own (Stores t k j) plain i other by = by
  plain_own (Replaces t u k) plain i other by = by
  plain_own (Removes t u) plain i other by = by
  plain_own (Marks o place) plain i other by = other (sym by ∙ plain)
  plain_own (MarksBlocking place) plain i other by = by
  plain_own (Skips o t place) plain i other by = plain
  plain_own (Unmarks o place) plain i other by = other (sym by ∙ plain)
  plain_own (Puts o place t k j) plain i other by = other (sym by ∙ plain)
  plain_own (Covers o place) plain i other by = other (sym by ∙ plain)
  plain_own (PutsLate t place n) plain i other by = by
  plain_own (Claims o t chunk) plain i other by = plain
  plain_own (Reclaims t claim) plain i other by = by
  plain_own (Counts o t number) plain i other by = plain
  plain_own (GivesUp o t) plain i other by = plain
  plain_own (Aborts t) plain i other by = by
  plain_own (Promotes t) plain i other by = by
  plain_own (Announces t) plain i other by = by

  -- each table is said to be promoted that was, and what was to be counted is
  pub plain_kept : (move : Move K) → IsPlain hash caller c move → c.first < c.past → AllAnnounced c × IsUncounted c
      → AllAnnounced (after (spot_of hash) true move c) × IsUncounted (after (spot_of hash) true move c)
  plain_kept (Links len limit) plain made alone = (
    λ t upto l. put_elsewhere c.status c.past _ t (omega arith) ∙ alone.0 t upto (omega arith),
    λ l. (let few = alone.1 made in let len_is = put_elsewhere c.len c.past len c.first (omega arith) in omega (arith, few, len_is)),
  )
  plain_kept (Marks o place) plain made alone = alone
  plain_kept (Unmarks o place) plain made alone = alone
  plain_kept (Puts o place t k j) plain made alone = alone
  plain_kept (Covers o place) plain made alone = alone
  plain_kept (Reclaims t claim) plain made alone = alone
  plain_kept (Stores t k j) plain made alone = absurd plain
  plain_kept (Replaces t u k) plain made alone = absurd plain
  plain_kept (Removes t u) plain made alone = absurd plain
  plain_kept (MarksBlocking place) plain made alone = absurd plain
  plain_kept (Skips o t place) plain made alone = absurd plain
  plain_kept (PutsLate t place n) plain made alone = absurd plain
  plain_kept (Claims o t chunk) plain made alone = absurd plain
  plain_kept (Counts o t number) plain made alone = absurd plain
  plain_kept (GivesUp o t) plain made alone = absurd plain
  plain_kept (Aborts t) plain made alone = absurd plain
  plain_kept (Promotes t) plain made alone = absurd plain
  plain_kept (Announces t) plain made alone = absurd plain

  -- the next table is the root: it is still to be said so, and none of its places is counted
  pub promoted_kept : Rule same (spot_of hash) true c → suc c.first < c.past → AllAnnounced c
      → AllAnnouncedBut (record c { first = suc c.first }) (suc c.first) × IsUncounted (record c { first = suc c.first })
  promoted_kept rule made announced = (
    λ t upto l other. announced t (omega (arith, upto, other)) l,
    λ l. (let some = (rule.common.lens (suc c.first) made).0 in let none = by (eq-or-lt_of_le (let h : suc (suc c.first) ≤ c.past = omega arith in h)) in omega (arith, some, none)),
  )
    where
      by : (suc (suc c.first) ≡ c.past) ⊎ (suc (suc c.first) < c.past) → c.copied (suc (suc c.first)) ≡ 0
      by (inl e) = (rule.common.uncounted (suc (suc c.first)) (omega (arith, e))).1
      by (inr l) =
          rule.common.counts (suc (suc c.first)) (omega arith) l
          ∙ total_none is_counted (c.share (suc (suc c.first))) (c.len c.first) (λ j h. ap is_counted (rule.in_mode.only_next (suc (suc c.first)) j (omega arith)))

  -- it is said of the last one
  pub announced_kept : (u : ℕ) → AllAnnouncedBut c u × IsUncounted c
      → AllAnnounced (record c { status = put c.status u PROMOTED }) × IsUncounted (record c { status = put c.status u PROMOTED })
  announced_kept u alone = (λ t upto l. by t upto l (eqb t u) refl, alone.1)
    where
      by : (t : ℕ) → t ≤ c.first → t < c.past → (b : Bool) → eqb t u ≡ b → cond b PROMOTED (c.status t) ≡ PROMOTED
      by t upto l true e = refl
      by t upto l false e = alone.0 t upto l (eqb-false t u e)

  -- a place of the root that is not counted
  pub uncounted_of : Rule same (spot_of hash) true c → suc c.first < c.past → (j : ℕ) → j < c.len c.first → c.share (suc c.first) j ≢ Counted → IsUncounted c
  uncounted_of rule made j l other rooted = by (eq-or-lt_of_le (total_counted_le (c.share (suc c.first)) (c.len c.first)))
    where
      by : (total is_counted (c.share (suc c.first)) (c.len c.first) ≡ c.len c.first) ⊎ (total is_counted (c.share (suc c.first)) (c.len c.first) < c.len c.first)
          → c.copied (suc c.first) < c.len c.first
      by (inl full) = absurd (other (total_full (c.share (suc c.first)) (c.len c.first) full j l))
      by (inr few) = let counts = rule.common.counts (suc c.first) (omega arith) made in omega (arith, counts, few)

  -- so is the first table, and a call's own changes leave it so
  pub first_kept : Rule same (spot_of hash) true c → (len limit : ℕ) → 0 < len → c.past ≡ 0
      → AllAnnounced (after (spot_of hash) true (Links len limit) c) × IsUncounted (after (spot_of hash) true (Links len limit) c)
  first_kept rule len limit some none = (announced, λ l. (let counted = (rule.common.uncounted (suc c.first) (omega (arith, none))).1 in omega (arith, counted, some, len_is)))
    where
      first : c.first ≡ 0
      first = rule.common.rootless none

      len_is : put c.len c.past len c.first ≡ len
      len_is = ap (put c.len c.past len) (first ∙ sym none) ∙ put_here c.len c.past len

      announced : (t : ℕ) → t ≤ c.first → t < suc c.past → put c.status c.past (cond (eqb c.past 0) PROMOTED PENDING) t ≡ PROMOTED
      announced t upto l =
          let is : t ≡ c.past = omega (arith, upto, first, none) in
          ap (put c.status c.past (cond (eqb c.past 0) PROMOTED PENDING)) is ∙ put_here c.status c.past (cond (eqb c.past 0) PROMOTED PENDING)
          ∙ ap (λ (b : Bool). cond b PROMOTED PENDING) (eq-eqb c.past 0 none)

-- before a map has a table
pub alone_before : (K : Type 0) → AllAnnounced {K = K} no_table × IsUncounted {K = K} no_table
alone_before K = (λ t upto l. absurd (omega (arith, l)), λ l. absurd (omega (arith, l)))
