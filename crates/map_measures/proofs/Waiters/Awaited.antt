-- In blocking mode, where each copying that is not over has who ends it: a call that waits for one has another caller's call by it, which goes on with it, or is to end it.
use Rattle.std.specs.Prelude.{Option, Some, None}
use Rattle.std.proofs.Common.{◌≡◌, ◌≢◌, ℕ, suc, ◌<◌, ◌⊎◌, inl, inr, Bool, true, false, refl, ap, sym, subst, ◌∙◌, arith}
use Rattle.seize.specs.World.{World}
use Rattle.map_tables.specs.Chunks.{is_incremental}
use Rattle.map_tables.specs.declared.node.Node.{Node}
use Rattle.map_tables.specs.declared.setting.Setting.{Setting}
use Rattle.map_tables.specs.declared.table.Table.{Table}
use Rattle.map_machines.specs.declared.copier.Copier.{Copier}
use Rattle.map_machines.specs.declared.copier.Copying.{Copying as Point}
use Rattle.map_machines.specs.declared.copier.Copying.TheVariants as copies
use Rattle.many_calls.specs.Given.RawDeclared.machines.call.Calling.{Calling}
use Rattle.many_calls.specs.Given.RawDeclared.machines.call.Calling.TheVariants as at
use Rattle.many_calls.specs.Given.RuleChart.{Chart}
use Rattle.many_calls.specs.Given.RuleMaps.{IsTable}
use Rattle.many_calls.specs.Given.RuleMoves.{is_of_caller}
use Rattle.many_calls.specs.Given.RuleWords.{Blocks}
use Rattle.many_calls.specs.Given.PointsFactsCopiesBlocking.{CopierFactsBlocking, CopyingFactsBlocking, HasNoShares}
use Rattle.many_calls.specs.Given.PointsTold.{IsRowOfCopier}
use Rattle.many_calls.specs.Given.LateKinds.{LooksAt}
use Rattle.many_calls.specs.Given.LateLateCopies.{SupersededCopierFacts, SupersededCopying}
use Rattle.many_calls.specs.Sights.{Visible, seen_by}
use Rattle.many_calls.specs.Together.{UnderWay, OnKey, ForRoom, Counting, OverAll, Together, in_slot}
use Rattle.map_measures.specs.Waits.Others.{EndsAt, copier_in, copier_of}
use Rattle.map_measures.specs.Waits.Waits.{IsUnfinished}
use Rattle.map_measures.proofs.Waits.Awaited.{HasOther}
use Rattle.map_measures.proofs.Waits.Works.{OnlyLooks, no_row as looks_no_row}
use Rattle.map_measures.specs.Waiters.Blocking.{AbortsAt, HaveEndsBlocking}
use Rattle.map_measures.proofs.Waiters.Stands.{IsAtRow, beside_none, copier_knows}
use Rattle.map_measures.proofs.Waiters.Askers.{askers_have_others_blocking}

pub looks_within : (q : Calling) → LooksAt q → copier_in q ≡ None
looks_within (at.Looks lookup) looks = refl
looks_within (at.Over end) looks = refl
looks_within _ looks = absurd looks

only_within : {K V Q : Type 0} (u : UnderWay K V Q) → OnlyLooks u → copier_of u ≡ None
only_within (OnKey u) looks = looks_within u.call.stands looks
only_within (Counting sum) looks = refl
only_within (ForRoom r) looks = absurd looks
only_within (OverAll o) looks = absurd looks

only_no_row : {K V Q : Type 0} (u : UnderWay K V Q) → OnlyLooks u → IsAtRow u → ⊥
only_no_row (OnKey u) looks = looks_no_row u.call.stands looks
only_no_row (Counting sum) looks = λ row. row
only_no_row (ForRoom r) looks = absurd looks
only_no_row (OverAll o) looks = absurd looks

module _ {K Q : Type 0} (V : Type 0) (same : K → K → Bool) (hash : K → ℕ) (asks : Q → K → Bool) (setting : Setting) (slot : ℕ → ℕ)
    (w : World (Node K V)) (c : Chart K) (blocks : Blocks) (sights : ℕ → Visible) (calls : ℕ → Option (UnderWay K V Q))
    (s : Together V same hash asks setting slot w c blocks sights calls) (mode : is_incremental setting.mode ≡ false) where
  -- of one caller
  module _ (k : ℕ) where
    abbrev seen : Blocks
    seen = seen_by blocks (sights (slot k))

    abbrev its_setting : Setting
    its_setting = in_slot setting (slot k)

    -- who has a share does not only look
    works : (t j : ℕ) → c.first < t → is_of_caller k (c.share t j) ≡ true → (u : UnderWay K V Q) → calls k ≡ Some u → OnlyLooks u → ⊥
    works t j behind own u has looks =
        let no = beside_none V same hash asks setting slot w c blocks sights calls s mode k u has (only_within u looks) (only_no_row u looks) t j behind in cc (own, no)

    -- What a copier knows that asks: its target, a table behind its source; and it has no part in a copying.
    abbrev pub Asked : Copier → Type 0
    Asked p = (source : ℕ) × (t : ℕ) × (source < t) × IsTable c seen p.target t × HasNoShares same hash w k its_setting c seen

    fresh_asks : (p : Copier) → p.stands ≡ copies.Asks → CopierFactsBlocking same hash w k its_setting c seen p → Asked p
    fresh_asks p here facts = by (subst (λ (q : Point). CopyingFactsBlocking same hash w k its_setting c seen p q) here facts.point)
      where
        by : CopyingFactsBlocking same hash w k its_setting c seen p copies.Asks → Asked p
        by (t, rests) = (c.first, t, rests.0.1, rests.0.2, rests.2)

    late_asks : (began : ℕ) (p : Copier) → p.stands ≡ copies.Asks → SupersededCopierFacts same hash w k its_setting c seen began p → Asked p
    late_asks began p here facts = by (subst (λ (q : Point). SupersededCopying same hash w k its_setting c seen began p q) here facts.point)
      where
        by : SupersededCopying same hash w k its_setting c seen began p copies.Asks → Asked p
        by (u, t, late) = (u, t, late.order, late.target, late.idle)

    pub asks_so : (p : Copier) → p.stands ≡ copies.Asks → (x : UnderWay K V Q) → calls k ≡ Some x → copier_of x ≡ Some p → Asked p
    asks_so p here x has within =
        elim (copier_knows V same hash asks setting slot w c blocks sights calls s mode k p x has within (λ row. subst (λ (q : Point). IsRowOfCopier q) here row)) as (λ _. Asked p) [
          | inl fresh ↦ fresh_asks p here fresh
          | inr late ↦ late_asks late.0 p here late.1
        ]

  -- so who waits for a copying has another
  pub asked_at_once : HaveEndsBlocking c calls → (i : ℕ) (x : UnderWay K V Q) → calls i ≡ Some x → (p : Copier) → copier_of x ≡ Some p → p.stands ≡ copies.Asks → p.spent ≡ true
      → IsUnfinished c p.target.turn → HasOther c calls i
  asked_at_once ends i x call p within here spent unfinished = by (asks_so i p here x call within)
    where
      by : Asked i p → HasOther c calls i
      by (source, t, order, target, idle) = found (askers_have_others_blocking V same hash asks setting slot w c blocks sights calls s mode ends i x call p within here spent (seen i) source t order target
          idle (subst (λ (n : ℕ). IsUnfinished c n) (ap (λ (y : Table). y.turn) target.is) unfinished))
        where
          linked : c.first < t → suc c.first < c.past
          linked behind = let made = target.made in omega (arith, behind, made)

          aborts : (q : Copier) (stage : Point) → AbortsAt c q stage t → c.first < t
          aborts q copies.Aborts it = it.1
          aborts q _ it = absurd it

          found : (k : ℕ) × (u : UnderWay K V Q) × (calls k ≡ Some u) × (k ≢ i)
              × (((c.first < t) × (j : ℕ) × (is_of_caller k (c.share t j) ≡ true))
              ⊎ ((q : Copier) × (copier_of u ≡ Some q) × (EndsAt c q q.stands t ⊎ AbortsAt c q q.stands t))) → HasOther c calls i
          found (k, u, has, other, inl (behind, j, own)) = (k, u, has, other, inl (linked behind, works k t j behind own u has))
          found (k, u, has, other, inr (q, of, inl it)) = (k, u, has, other, inr (t, target.made, q, of, it))
          found (k, u, has, other, inr (q, of, inr it)) =
              (k, u, has, other, inl (linked (aborts q q.stands it), λ looks. (let both = sym (only_within u looks) ∙ of in cc both)))
