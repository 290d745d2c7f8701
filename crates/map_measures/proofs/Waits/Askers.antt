-- In incremental mode, a caller whose copier asks how a copying stands that is not over has another caller by it, where each such copying has who ends it.
use Rattle.std.specs.Prelude.{◌≢◌, cond, Option, Some, None}
use Rattle.std.proofs.Common.{◌≡◌, ℕ, suc, ◌<◌, ◌⊎◌, inl, inr, Bool, true, false, refl, ap, sym, subst, ◌∙◌, arith}
use Rattle.std.proofs.lemmas.Bool.{eq-eqb}
use Rattle.seize.specs.World.{World}
use Rattle.map_tables.specs.Chunks.{is_incremental}
use Rattle.map_tables.specs.declared.node.Node.{Node}
use Rattle.map_tables.specs.declared.setting.Setting.{Setting}
use Rattle.map_tables.specs.declared.table.Table.{Table}
use Rattle.map_machines.specs.declared.copier.Copier.{Copier}
use Rattle.map_machines.specs.declared.copier.Copying.{Copying as Point}
use Rattle.map_machines.specs.declared.copier.Copying.TheVariants as copies
use Rattle.many_calls.specs.Given.RuleChart.{Share, Free, Claimed, Done, Counted, Lost, Chart, is_settled}
use Rattle.many_calls.specs.Given.RuleMaps.{spot_of}
use Rattle.many_calls.specs.Given.RuleMoves.{is_done_by}
use Rattle.many_calls.specs.Given.RuleRule.{Agrees, Rule}
use Rattle.many_calls.specs.Given.RuleWords.{Blocks}
use Rattle.many_calls.proofs.Given.RuleShares.LastsShares.{total_zero}
use Rattle.many_calls.specs.Given.PointsFactsCopies.{CopyingFacts, ClaimsNone, HasDone}
use Rattle.many_calls.specs.Given.PointsFactsCopiesBlocking.{HasNoShares}
use Rattle.many_calls.specs.Sights.{Visible}
use Rattle.many_calls.specs.Together.{UnderWay, Together, in_slot}
use Rattle.map_measures.specs.Waits.Others.{IsToCount, IsOpen, EndsAt, HaveEnds, AskersHaveOthers, copier_of}
use Rattle.map_measures.specs.Waits.Waits.{IsUnfinished}
use Rattle.map_measures.proofs.Waits.Claimed.{chosen}
use Rattle.many_calls.proofs.Given.PointsCopiers.Marks.{settled_marked}

-- what this caller has done counts for it
pub done_one : (k i : ℕ) (share : Share) → share ≡ Done k → k ≡ i → is_done_by i share ≡ 1
done_one k i share is e = ap (is_done_by i) is ∙ ap {B = ℕ} (λ (q : Bool). cond q 1 0) (eq-eqb k i e)

-- by the rule of the map, a place of the root that is settled, and not counted, was done by a caller
is_done : {K : Type 0} (same : K → K → Bool) (hash : K → ℕ) (c : Chart K) → Rule same (spot_of hash) true c
    → (j : ℕ) → j < c.len c.first → is_settled (c.place c.first j) ≡ true → IsToCount (c.share (suc c.first) j) → (k : ℕ) × (c.share (suc c.first) j ≡ Done k)
is_done same hash c rule j l settled uncounted = by (c.share (suc c.first) j) refl (rule.in_mode.shares j l)
  where
    by : (share : Share) → c.share (suc c.first) j ≡ share → Agrees share (c.place c.first j) → (k : ℕ) × (c.share (suc c.first) j ≡ Done k)
    by (Done k) is agrees = (k, is)
    by Free is agrees = absurd (let marked = settled_marked (c.place c.first j) settled in cc (agrees, marked))
    by (Claimed k) is agrees = absurd (let no : is_settled (c.place c.first j) ≡ false = ap is_settled agrees.2 in cc (settled, no))
    by Counted is agrees = absurd (subst (λ (x : Share). IsToCount x) is uncounted)
    by Lost is agrees = absurd agrees

module _ {K Q : Type 0} (V : Type 0) (same : K → K → Bool) (hash : K → ℕ) (asks : Q → K → Bool) (setting : Setting) (slot : ℕ → ℕ) where
  module _ (w : World (Node K V)) (c : Chart K) (blocks : Blocks) (sights : ℕ → Visible) (calls : ℕ → Option (UnderWay K V Q))
      (s : Together V same hash asks setting slot w c blocks sights calls) (mode : is_incremental setting.mode ≡ true) where
    -- who has done a place that is not counted has a call
    has_call : (k j : ℕ) → j < c.len c.first → c.share (suc c.first) j ≡ Done k → (u : UnderWay K V Q) × (calls k ≡ Some u)
    has_call k j l done = by (calls k) refl
      where
        by : (o : Option (UnderWay K V Q)) → calls k ≡ o → (u : UnderWay K V Q) × (calls k ≡ Some u)
        by (Some u) is = (u, is)
        by None is =
            let idle = chosen (HasDone same hash w k (in_slot setting (slot k)) c blocks 0 × ClaimsNone same hash w k (in_slot setting (slot k)) c blocks)
            (HasNoShares same hash w k (in_slot setting (slot k)) c blocks) (is_incremental setting.mode) mode (s.idle k is) in
            let none = total_zero (is_done_by k) (c.share (suc c.first)) (c.len c.first) (sym idle.0) j l in
            let one = done_one k k (c.share (suc c.first) j) done refl in
            absurd (omega (arith, none, one))

    module _ (i : ℕ) (x : UnderWay K V Q) (call : calls i ≡ Some x) (p : Copier) (within : copier_of x ≡ Some p) (stands : p.stands ≡ copies.Asks)
        (seen : Blocks) (f : CopyingFacts same hash w i (in_slot setting (slot i)) c seen p copies.Asks) where
      abbrev Another : Type 0
      Another =
          (k : ℕ) × (u : UnderWay K V Q) × (calls k ≡ Some u) × (k ≢ i)
          × (((suc c.first < c.past) × (j : ℕ) × (j < c.len c.first) × (c.share (suc c.first) j ≡ Done k))
          ⊎ ((q : Copier) × (copier_of u ≡ Some q) × EndsAt c q q.stands p.target.turn))

      target : p.target.turn ≡ suc f.0
      target = ap (λ (x : Table). x.turn) f.1.1.is

      -- one that is to end it stands elsewhere than this one
      elsewhere : (k : ℕ) (u : UnderWay K V Q) (q : Copier) → calls k ≡ Some u → copier_of u ≡ Some q → EndsAt c q q.stands (suc f.0) → k ≢ i
      elsewhere k u q is of ends e = subst (λ (stage : Point). EndsAt c q stage (suc f.0)) same_point ends
        where
          same_call : u ≡ x
          same_call = let there : calls i ≡ Some u = subst (λ (n : ℕ). calls n ≡ Some u) e is in cc (there, call)

          same_copier : q ≡ p
          same_copier = let there : copier_of x ≡ Some q = subst (λ (y : UnderWay K V Q). copier_of y ≡ Some q) same_call of in cc (there, within)

          same_point : q.stands ≡ copies.Asks
          same_point = ap (λ (y : Copier). y.stands) same_copier ∙ stands

      by_end : (k : ℕ) (u : UnderWay K V Q) (q : Copier) → calls k ≡ Some u → copier_of u ≡ Some q → EndsAt c q q.stands (suc f.0) → Another
      by_end k u q is of ends = (k, u, is, elsewhere k u q is of ends, inr (q, of, subst (λ (t : ℕ). EndsAt c q q.stands t) (sym target) ends))

      -- one that has done a place that is not counted is another, as this one has none
      by_place : f.0 ≡ c.first → (j : ℕ) → j < c.len c.first → IsToCount (c.share (suc f.0) j) → Another
      by_place root j l uncounted =
          let inside : j < c.len f.0 = subst (λ (t : ℕ). j < c.len t) (sym root) l in
          let settled : is_settled (c.place c.first j) ≡ true = subst (λ (t : ℕ). is_settled (c.place t j) ≡ true) root (f.7 f.6 j inside) in
          let rule : Rule same (spot_of hash) true c = subst (λ (b : Bool). Rule same (spot_of hash) b c) mode s.ground.map.map.rule in
          let done = is_done same hash c rule j l settled (subst (λ (t : ℕ). IsToCount (c.share (suc t) j)) root uncounted) in
          let other = has_call done.0 j l done.1 in
          let none = total_zero (is_done_by i) (c.share (suc c.first)) (c.len c.first) (sym f.3) j l in (
            done.0,
            other.0,
            other.1,
            (λ e. (let one = done_one done.0 i (c.share (suc c.first) j) done.1 e in omega (arith, none, one))),
            inl (subst (λ (t : ℕ). suc t < c.past) root f.1.1.made, j, l, done.1),
          )

      another : HaveEnds c calls → IsUnfinished c p.target.turn → Another
      another ends unfinished = by (ends (suc f.0) (omega arith) f.1.1.made (subst (λ (t : ℕ). IsUnfinished c t) target unfinished))
        where
          by : IsOpen c (suc f.0) ⊎ ((k : ℕ) × (u : UnderWay K V Q) × (q : Copier) × (calls k ≡ Some u) × (copier_of u ≡ Some q) × EndsAt c q q.stands (suc f.0)) → Another
          by (inl (behind, j, l, uncounted)) = by_place (let upto = f.1.2 in omega (arith, behind, upto)) j l uncounted
          by (inr (k, u, q, is, of, ends)) = by_end k u q is of ends

  pub askers_have_others : AskersHaveOthers V same hash asks setting slot
  askers_have_others w c blocks sights calls s mode ends i x call p within stands seen f unfinished = another w c blocks sights calls s mode i x call p within stands seen f ends unfinished
