-- In incremental mode the pair at a place that is being copied stands in the root, and a caller that has a call has claimed that place.
use Rattle.std.specs.Prelude.{cond, Option, Some, None}
use Rattle.std.proofs.Common.{◌≡◌, ℕ, suc, ◌<◌, ◌≤◌, ◌⊎◌, inl, inr, Bool, true, false, refl, ap, subst, arith}
use Rattle.std.proofs.lemmas.Bool.{cases_lt}
use Rattle.map_tables.specs.Chunks.{is_incremental}
use Rattle.map_tables.specs.declared.setting.Setting.{Setting}
use Rattle.many_calls.specs.Given.RuleChart.{Copying, Holds, Share, Free, Claimed, Done, Counted, Lost, Chart, is_marked, is_settled}
use Rattle.many_calls.specs.Given.RuleMaps.{spot_of}
use Rattle.many_calls.specs.Given.RuleRule.{Agrees, Rule}
use Rattle.many_calls.specs.Given.PointsFactsCopies.{ClaimsNone, HasDone}
use Rattle.many_calls.specs.Given.PointsFactsCopiesBlocking.{HasNoShares}
use Rattle.many_calls.specs.Together.{UnderWay, in_slot}
use Rattle.map_measures.specs.Waits.Others.{PairsAreCopiedByCalls}

-- one of two, where the choice is made
pub chosen : (X Y : Type 0) (b : Bool) → b ≡ true → cond b X Y → X
chosen X Y true e x = x
chosen X Y false e y = absurd (cc e)

-- by the rule of the map
module _ {K : Type 0} (same : K → K → Bool) (hash : K → ℕ) (c : Chart K) (rule : Rule same (spot_of hash) true c) (t place n : ℕ) (borrowed : Bool) (here : c.place t place ≡ Holds n Copying borrowed) where
  there : t < c.past
  there = by (cases_lt t c.past)
    where
      by : (t < c.past) ⊎ (c.past ≤ t) → t < c.past
      by (inl l) = l
      by (inr le) = absurd (let empty = rule.common.unmade t place le in cc (here, empty))

  inside : place < c.len t
  inside = by (cases_lt place (c.len t))
    where
      by : (place < c.len t) ⊎ (c.len t ≤ place) → place < c.len t
      by (inl l) = l
      by (inr le) = absurd (let empty = rule.common.outside t place there le in cc (here, empty))

  -- it is marked, and not settled
  is_copying : (is_marked (c.place t place) ≡ true) × (is_settled (c.place t place) ≡ false)
  is_copying = (ap is_marked here, ap is_settled here)

  pub in_root : t ≡ c.first
  in_root = by (cases_lt t c.first) (cases_lt c.first t)
    where
      by : (t < c.first) ⊎ (c.first ≤ t) → (c.first < t) ⊎ (t ≤ c.first) → t ≡ c.first
      by (inl l) other = absurd (let yes = rule.in_mode.settled t place l inside in let no = is_copying.1 in cc (yes, no))
      by (inr le) (inl l) = absurd (let no = rule.common.unmarked t place l in let yes = is_copying.0 in cc (yes, no))
      by (inr le) (inr ge) = omega (arith, le, ge)

  -- its place has a caller, for the table behind the root
  pub has_claimed : (k : ℕ) × (c.share (suc c.first) place ≡ Claimed k)
  has_claimed = by (c.share (suc c.first) place) refl (rule.in_mode.shares place (subst (λ (x : ℕ). place < c.len x) in_root inside))
    where
      root : (is_marked (c.place c.first place) ≡ true) × (is_settled (c.place c.first place) ≡ false)
      root = subst (λ (x : ℕ). (is_marked (c.place x place) ≡ true) × (is_settled (c.place x place) ≡ false)) in_root is_copying

      by : (share : Share) → c.share (suc c.first) place ≡ share → Agrees share (c.place c.first place) → (k : ℕ) × (c.share (suc c.first) place ≡ Claimed k)
      by (Claimed k) is agrees = (k, is)
      by Free is agrees = absurd (let yes = root.0 in cc (agrees, yes))
      by (Done k) is agrees = absurd (let no = root.1 in cc (agrees, no))
      by Counted is agrees = absurd (let no = root.1 in cc (agrees, no))
      by Lost is agrees = absurd agrees

  -- so that table is linked
  pub is_linked : suc c.first < c.past
  is_linked = by (cases_lt (suc c.first) c.past)
    where
      by : (suc c.first < c.past) ⊎ (c.past ≤ suc c.first) → suc c.first < c.past
      by (inl l) = l
      by (inr le) = absurd (let free = rule.common.unshared (suc c.first) place le in let claimed = has_claimed.1 in cc (free, claimed))

module _ {K Q : Type 0} (V : Type 0) (same : K → K → Bool) (hash : K → ℕ) (asks : Q → K → Bool) (setting : Setting) (slot : ℕ → ℕ) where
  pub pairs_are_copied_by_calls : PairsAreCopiedByCalls V same hash asks setting slot
  pairs_are_copied_by_calls w c blocks sights calls s mode t place (n, borrowed, here) =
      (in_root same hash c rule t place n borrowed here, is_linked same hash c rule t place n borrowed here, claimed.0, call.0, call.1, claimed.1)
    where
      rule : Rule same (spot_of hash) true c
      rule = subst (λ (b : Bool). Rule same (spot_of hash) b c) mode s.ground.map.map.rule

      claimed : (k : ℕ) × (c.share (suc c.first) place ≡ Claimed k)
      claimed = has_claimed same hash c rule t place n borrowed here

      -- who has claimed it has a call
      by : (o : Option (UnderWay K V Q)) → calls claimed.0 ≡ o → (u : UnderWay K V Q) × (calls claimed.0 ≡ Some u)
      by (Some u) is = (u, is)
      by None is =
          let idle = chosen (HasDone same hash w claimed.0 (in_slot setting (slot claimed.0)) c blocks 0 × ClaimsNone same hash w claimed.0 (in_slot setting (slot claimed.0)) c blocks)
          (HasNoShares same hash w claimed.0 (in_slot setting (slot claimed.0)) c blocks) (is_incremental setting.mode) mode (s.idle claimed.0 is) in
          absurd (idle.1 place claimed.1)

      call : (u : UnderWay K V Q) × (calls claimed.0 ≡ Some u)
      call = by (calls claimed.0) refl
