-- What a call has changed since it was begun, and what it has answered, after one step more.
use Rattle.std.proofs.Common.{◌≡◌, ◌≢◌, ℕ, suc, ◌+◌, ◌≤◌, ◌<◌, Bool, true, false, cond, eqb, ◌⊎◌, inl, inr, refl, arith, ap, sym, subst, ◌∙◌}
use Rattle.std.proofs.lemmas.Bool.{cases_lt, eq-eqb, ne_eqb}
use Rattle.many_maps.specs.Given.TablesChunks.{is_incremental}
use Rattle.many_maps.specs.Given.TablesDeclared.setting.Setting.{Setting}
use Rattle.many_maps.specs.Given.RuleChart.{Chart, put}
use Rattle.many_maps.specs.Given.RuleRule.{Rule}
use Rattle.many_maps.specs.Given.RuleLasts.{Lasts}
use Rattle.many_maps.specs.Given.RuleMaps.{spot_of, IsAbsent, IsPair}
use Rattle.many_maps.specs.Given.RuleInWorld.{Moved}
use Rattle.many_maps.specs.Given.PointsFactsCalls.{Change, Unchanged, Stored, Replaced, Removed, Changes}
use Rattle.owner_facts.specs.Alone.Alone.{HasChanged, pairs_stored}
use Rattle.many_maps.proofs.Given.CallersRows.Known.{moved_makes}
use Rattle.owner_facts.proofs.Alone.Calls.LastsOn.{lasts_on}

-- a pair of the map was stored
pub current_stored : {K : Type 0} (same : K → K → Bool) (spot : ℕ → K → ℕ → ℕ) (incremental : Bool) (c : Chart K) → Rule same spot incremental c → (n : ℕ) → c.current n ≡ true → n < c.stored
current_stored same spot incremental c rule n e = let s = rule.common.stands n e in (rule.common.keyed s.0 s.1 n s.2 s.3 s.4).0

module _ {K : Type 0} (same : K → K → Bool) (hash : K → ℕ) (setting : Setting) (keys : K → Bool) (c0 c c2 : Chart K)
    (rule0 : Rule same (spot_of hash) (is_incremental setting.mode) c0) (past : HasChanged same hash setting keys c0 c Unchanged) where
  same_current : c.current ≡ c0.current
  same_current = past.changes

  was : (n : ℕ) → c0.current n ≡ true → n < c0.stored
  was n e = current_stored same (spot_of hash) (is_incremental setting.mode) c0 rule0 n e

  is_current : (n : ℕ) → c.current n ≡ c0.current n
  is_current n = ap (λ (f : ℕ → Bool). f n) same_current

  absent_first : IsAbsent same hash (is_incremental setting.mode) c keys → IsAbsent same hash (is_incremental setting.mode) c0 keys
  absent_first absent n k e key = absent n k (is_current n ∙ e) (past.lasts.keys n (was n e) ∙ key)

  pair_first : (n : ℕ) → IsPair same hash (is_incremental setting.mode) c keys n → IsPair same hash (is_incremental setting.mode) c0 keys n
  pair_first n is = let e : c0.current n ≡ true = sym (is_current n) ∙ is.0 in (e, is.1, sym (past.lasts.keys n (was n e)) ∙ is.2, is.3)

  stored_same : c.stored ≡ c0.stored
  stored_same = let s = past.stored in omega (arith, s)

  changes_first : (change : Change) → Changes same hash (is_incremental setting.mode) keys c c2 change → Changes same hash (is_incremental setting.mode) keys c0 c2 change
  changes_first Unchanged h = h ∙ same_current
  changes_first (Stored n) h = (h.0 ∙ stored_same, absent_first h.1, h.2 ∙ ap (λ (f : ℕ → Bool). put f n true) same_current)
  changes_first (Replaced o n) h = (h.0 ∙ stored_same, pair_first o h.1, h.2 ∙ ap (λ (f : ℕ → Bool). put (put f o false) n true) same_current)
  changes_first (Removed o) h = (pair_first o h.0, h.1 ∙ ap (λ (f : ℕ → Bool). put f o false) same_current)

-- how many pairs a step stores that changes the map
module _ {K : Type 0} (same : K → K → Bool) (hash : K → ℕ) (setting : Setting) (keys : K → Bool) (c c2 : Chart K)
    (rule : Rule same (spot_of hash) (is_incremental setting.mode) c) (rule2 : Rule same (spot_of hash) (is_incremental setting.mode) c2)
    {caller : ℕ} (moved : Moved same hash setting.mode caller c c2) (lasts : Lasts same (spot_of hash) (is_incremental setting.mode) c c2) where
  -- a pair that is new in the map
  is_new : (n : ℕ) → c.stored ≤ n → n < c2.stored → (c2.current n ≡ true) × (c.current n ≡ false)
  is_new n l below = ((moved_makes same hash setting.mode c c2 rule moved).current n l below, by (c.current n) refl)
    where
      by : (b : Bool) → c.current n ≡ b → c.current n ≡ false
      by false e = e
      by true e = let low = current_stored same (spot_of hash) (is_incremental setting.mode) c rule n e in absurd (omega (arith, low, l))

  -- where each new pair of the map is this one, it is the only one that was stored
  one_stored : (n : ℕ) → n ≡ c.stored → c2.current n ≡ true → ((o : ℕ) → o ≢ n → c2.current o ≡ true → c.current o ≡ true) → c2.stored ≡ c.stored + 1
  one_stored n is new others = by (cases_lt (suc n) c2.stored)
    where
      low : n < c2.stored
      low = current_stored same (spot_of hash) (is_incremental setting.mode) c2 rule2 n new

      by : (suc n < c2.stored) ⊎ (c2.stored ≤ suc n) → c2.stored ≡ c.stored + 1
      by (inl l) =
          let k = is_new (suc n) (omega (arith, is)) l in
          let old = others (suc n) (λ e. omega (arith, e)) k.0 in
          let none = k.1 in
          absurd (cc)
      by (inr l) = let k = low in omega (arith, is, l, k)

  -- and where no pair is new, none was
  pub none_stored : ((o : ℕ) → c2.current o ≡ true → c.current o ≡ true) → c2.stored ≡ c.stored
  none_stored all = by (cases_lt c.stored c2.stored)
    where
      by : (c.stored < c2.stored) ⊎ (c2.stored ≤ c.stored) → c2.stored ≡ c.stored
      by (inl l) =
          let k = is_new c.stored (omega arith) l in
          let old = all c.stored k.0 in
          let none = k.1 in
          absurd (cc)
      by (inr l) = let k = lasts.stored in omega (arith, l, k)

  put_new : (f : ℕ → Bool) (n : ℕ) → put f n true n ≡ true
  put_new f n = ap (λ (b : Bool). cond b true (f n)) (eq-eqb n n refl)

  put_other : (f : ℕ → Bool) (n o : ℕ) (v : Bool) → o ≢ n → put f n v o ≡ f o
  put_other f n o v ne = ap (λ (b : Bool). cond b v (f o)) (ne_eqb o n ne)

  put_out : (f : ℕ → Bool) (n o : ℕ) → put f n false o ≡ true → f o ≡ true
  put_out f n o = by (eqb o n)
    where
      by : (b : Bool) → cond b false (f o) ≡ true → f o ≡ true
      by true e = absurd (cc)
      by false e = e

  pub stored_on : (change : Change) → Changes same hash (is_incremental setting.mode) keys c c2 change → c2.stored ≡ c.stored + pairs_stored change
  stored_on Unchanged h = let k = (moved_makes same hash setting.mode c c2 rule moved).stored h in omega (arith, k)
  stored_on (Stored n) h =
      one_stored n h.0 (ap (λ (f : ℕ → Bool). f n) h.2 ∙ put_new c.current n)
      (λ o ne e. sym (put_other c.current n o true ne) ∙ sym (ap (λ (f : ℕ → Bool). f o) h.2) ∙ e)
  stored_on (Replaced o n) h =
      one_stored n h.0 (ap (λ (f : ℕ → Bool). f n) h.2 ∙ put_new (put c.current o false) n)
      (λ x ne e. put_out c.current o x (sym (put_other (put c.current o false) n x true ne) ∙ sym (ap (λ (f : ℕ → Bool). f x) h.2) ∙ e))
  stored_on (Removed o) h =
      let k = none_stored (λ x e. put_out c.current o x (sym (ap (λ (f : ℕ → Bool). f x) h.1) ∙ e)) in omega (arith, k)

module _ {K : Type 0} (same : K → K → Bool) (hash : K → ℕ) (setting : Setting) (keys : K → Bool) (c0 c c2 : Chart K) where
  -- where the pairs of the map are the same
  changes_still : (change : Change) → c2.current ≡ c.current → Changes same hash (is_incremental setting.mode) keys c0 c change → Changes same hash (is_incremental setting.mode) keys c0 c2 change
  changes_still Unchanged e h = e ∙ h
  changes_still (Stored n) e h = (h.0, h.1, e ∙ h.2)
  changes_still (Replaced o n) e h = (h.0, h.1, e ∙ h.2)
  changes_still (Removed o) e h = (h.0, e ∙ h.1)

  module _ (rule0 : Rule same (spot_of hash) (is_incremental setting.mode) c0) (rule : Rule same (spot_of hash) (is_incremental setting.mode) c)
      (rule2 : Rule same (spot_of hash) (is_incremental setting.mode) c2) {caller : ℕ} (moved : Moved same hash setting.mode caller c c2) (lasts : Lasts same (spot_of hash) (is_incremental setting.mode) c c2)
      (change change2 : Change) where
    pub changed_on : HasChanged same hash setting keys c0 c change
        → ((change2 ≡ change) × (c2.current ≡ c.current)) ⊎ ((change ≡ Unchanged) × Changes same hash (is_incremental setting.mode) keys c c2 change2)
        → HasChanged same hash setting keys c0 c2 change2
    changed_on past (inl told) = record {
      changes = subst (λ (x : Change). Changes same hash (is_incremental setting.mode) keys c0 c2 x) (sym told.0) (changes_still change told.1 past.changes);
      lasts = lasts_on same (spot_of hash) (is_incremental setting.mode) c0 c c2 past.lasts lasts;
      stored = (moved_makes same hash setting.mode c c2 rule moved).stored told.1 ∙ past.stored ∙ ap (λ (x : Change). c0.stored + pairs_stored x) (sym told.0);
    }
    changed_on past (inr told) =
        let before : HasChanged same hash setting keys c0 c Unchanged = subst (λ (x : Change). HasChanged same hash setting keys c0 c x) told.0 past in
        record {
          changes = changes_first same hash setting keys c0 c c2 rule0 before change2 told.1;
          lasts = lasts_on same (spot_of hash) (is_incremental setting.mode) c0 c c2 past.lasts lasts;
          stored = (let one = stored_on same hash setting keys c c2 rule rule2 moved lasts change2 told.1 in let none = before.stored in omega (arith, one, none));
        }
