-- In blocking mode, a caller whose copier asks how a copying stands that is not over, having found each place claimed, has another caller by it, where each such copying has who ends it.
use Rattle.std.specs.Prelude.{cond, Option, Some, None}
use Rattle.std.proofs.Common.{◌≡◌, ◌≢◌, ℕ, ◌≤◌, ◌<◌, ◌⊎◌, inl, inr, Bool, true, false, refl, ap, sym, subst, ◌∙◌, arith}
use Rattle.std.proofs.lemmas.Bool.{eq-eqb, lt-leb}
use Rattle.seize.specs.World.{World}
use Rattle.map_tables.specs.Chunks.{is_incremental}
use Rattle.map_tables.specs.declared.node.Node.{Node}
use Rattle.map_tables.specs.declared.setting.Setting.{Setting}
use Rattle.map_tables.specs.declared.table.Table.{Table}
use Rattle.map_machines.specs.declared.copier.Copier.{Copier}
use Rattle.map_machines.specs.declared.copier.Copying.{Copying as Point}
use Rattle.map_machines.specs.declared.copier.Copying.TheVariants as copies
use Rattle.many_calls.specs.Given.RuleChart.{Chart, Share, Free, Claimed, Done, Counted, Lost}
use Rattle.many_calls.specs.Given.RuleMaps.{IsTable, spot_of}
use Rattle.many_calls.specs.Given.RuleMoves.{is_of_caller}
use Rattle.many_calls.specs.Given.RuleRule.{Rule, is_free}
use Rattle.many_calls.specs.Given.RuleWords.{Blocks}
use Rattle.many_calls.specs.Given.PointsFactsCopies.{ClaimsNone, HasDone}
use Rattle.many_calls.specs.Given.PointsFactsCopiesBlocking.{HasNoShares}
use Rattle.many_calls.specs.Sights.{Visible}
use Rattle.many_calls.specs.Together.{UnderWay, Together, in_slot}
use Rattle.map_measures.specs.Waits.Others.{EndsAt, copier_of}
use Rattle.map_measures.specs.Waits.Waits.{IsUnfinished}
use Rattle.map_measures.specs.Waiters.Blocking.{AbortsAt, AskersHaveOthersBlocking, HaveEndsBlocking, IsUncounted, SomeCopier, SpentAt}

-- one of two, where the choice is the second
pub chosen : (X Y : Type 0) (b : Bool) → b ≡ false → cond b X Y → Y
chosen X Y false e y = y
chosen X Y true e x = absurd (cc e)

-- what a caller has claimed, or done, is its own
claimed_own : (k : ℕ) (share : Share) → share ≡ Claimed k → is_of_caller k share ≡ true
claimed_own k share is = ap (is_of_caller k) is ∙ eq-eqb k k refl

done_own : (k : ℕ) (share : Share) → share ≡ Done k → is_of_caller k share ≡ true
done_own k share is = ap (is_of_caller k) is ∙ eq-eqb k k refl

module _ {K Q : Type 0} (V : Type 0) (same : K → K → Bool) (hash : K → ℕ) (asks : Q → K → Bool) (setting : Setting) (slot : ℕ → ℕ)
    (w : World (Node K V)) (c : Chart K) (blocks : Blocks) (sights : ℕ → Visible) (calls : ℕ → Option (UnderWay K V Q))
    (s : Together V same hash asks setting slot w c blocks sights calls) (mode : is_incremental setting.mode ≡ false) (ends : HaveEndsBlocking c calls) where
  -- who has a share has a call
  pub has_call : (t k j : ℕ) → c.first < t → is_of_caller k (c.share t j) ≡ true → (u : UnderWay K V Q) × (calls k ≡ Some u)
  has_call t k j behind own = by (calls k) refl
    where
      by : (o : Option (UnderWay K V Q)) → calls k ≡ o → (u : UnderWay K V Q) × (calls k ≡ Some u)
      by (Some u) is = (u, is)
      by None is =
          let none = chosen (HasDone same hash w k (in_slot setting (slot k)) c blocks 0 × ClaimsNone same hash w k (in_slot setting (slot k)) c blocks)
          (HasNoShares same hash w k (in_slot setting (slot k)) c blocks) (is_incremental setting.mode) mode (s.idle k is) in
          absurd (let no = none t j behind in cc (own, no))

  module _ (i : ℕ) (x : UnderWay K V Q) (call : calls i ≡ Some x) (p : Copier) (within : copier_of x ≡ Some p) (stands : p.stands ≡ copies.Asks) (spent : p.spent ≡ true)
      (seen : Blocks) (source t : ℕ) (order : source < t) (target : IsTable c seen p.target t) (idle : HasNoShares same hash w i (in_slot setting (slot i)) c seen)
      (unfinished : IsUnfinished c t) where
    abbrev Another : Type 0
    Another =
        (k : ℕ) × (u : UnderWay K V Q) × (calls k ≡ Some u) × (k ≢ i)
        × (((c.first < t) × (j : ℕ) × (is_of_caller k (c.share t j) ≡ true))
        ⊎ ((q : Copier) × (copier_of u ≡ Some q) × (EndsAt c q q.stands t ⊎ AbortsAt c q q.stands t)))

    turn : p.target.turn ≡ t
    turn = ap (λ (y : Table). y.turn) target.is

    -- one that stands elsewhere is another
    elsewhere : (At : Copier → Point → Type 0) → ((q : Copier) → At q copies.Asks → ⊥) → (k : ℕ) (u : UnderWay K V Q) (q : Copier) → calls k ≡ Some u → copier_of u ≡ Some q → At q q.stands → k ≢ i
    elsewhere At never k u q is of it e = never q (subst (λ (stage : Point). At q stage) same_point it)
      where
        same_call : u ≡ x
        same_call = let there : calls i ≡ Some u = subst (λ (n : ℕ). calls n ≡ Some u) e is in cc (there, call)

        same_copier : q ≡ p
        same_copier = let there : copier_of x ≡ Some q = subst (λ (y : UnderWay K V Q). copier_of y ≡ Some q) same_call of in cc (there, within)

        same_point : q.stands ≡ copies.Asks
        same_point = ap (λ (y : Copier). y.stands) same_copier ∙ stands

    by_end : SomeCopier c calls (λ q. EndsAt c q q.stands t) → Another
    by_end (k, u, q, is, of, it) = (k, u, is, elsewhere (λ y stage. EndsAt c y stage t) (λ y none. none) k u q is of it, inr (q, of, inl it))

    by_abort : SomeCopier c calls (λ q. AbortsAt c q q.stands t) → Another
    by_abort (k, u, q, is, of, it) = (k, u, is, elsewhere (λ y stage. AbortsAt c y stage t) (λ y none. none) k u q is of it, inr (q, of, inr it))

    -- this one has no share
    by_share : c.first < t → (k j : ℕ) → is_of_caller k (c.share t j) ≡ true → Another
    by_share behind k j own =
        let other = has_call t k j behind own in
        (k, other.0, other.1, (λ e. (let no = idle t j behind in let yes = subst (λ (n : ℕ). is_of_caller n (c.share t j) ≡ true) e own in cc (yes, no))), inl (behind, j, own))

    rule : Rule same (spot_of hash) false c
    rule = subst (λ (b : Bool). Rule same (spot_of hash) b c) mode s.ground.map.map.rule

    -- each place is claimed
    claimed : c.first < t → (j : ℕ) → j < c.len c.first → is_free (c.share t j) ≡ false
    claimed behind j l =
        let all = subst (λ (stage : Point). SpentAt c p stage) stands (ends.spent i x call p within) spent (subst (λ (n : ℕ). c.first < n) (sym turn) behind) (subst (λ (n : ℕ). n < c.past) (sym turn) target.made) in
        let full = subst (λ (n : ℕ). c.len c.first ≤ c.claim n) turn all in
        rule.in_mode.claims t j behind target.made l ∙ lt-leb (c.claim t) j (omega (arith, l, full))

    by_place : c.first < t → (j : ℕ) → j < c.len c.first → c.share t j ≢ Counted → Another
    by_place behind j l uncounted = by (c.share t j) refl
      where
        by : (share : Share) → c.share t j ≡ share → Another
        by (Claimed k) is = by_share behind k j (claimed_own k (c.share t j) is)
        by (Done k) is = by_share behind k j (done_own k (c.share t j) is)
        by Counted is = absurd (uncounted is)
        by Lost is = by_abort (ends.lost t j behind target.made unfinished l is)
        by Free is = absurd (let no : true ≡ false = sym (ap is_free is) ∙ claimed behind j l in cc no)

    another : Another
    another = by (ends.ends t (omega (arith, order)) target.made unfinished)
      where
        by : IsUncounted c t ⊎ SomeCopier c calls (λ q. EndsAt c q q.stands t) → Another
        by (inl (behind, j, l, uncounted)) = by_place behind j l uncounted
        by (inr others) = by_end others

module _ {K Q : Type 0} (V : Type 0) (same : K → K → Bool) (hash : K → ℕ) (asks : Q → K → Bool) (setting : Setting) (slot : ℕ → ℕ) where
  pub askers_have_others_blocking : AskersHaveOthersBlocking V same hash asks setting slot
  askers_have_others_blocking w c blocks sights calls s mode ends i x call p within stands spent seen source t order target idle unfinished =
      another V same hash asks setting slot w c blocks sights calls s mode ends i x call p within stands spent seen source t order target idle unfinished
