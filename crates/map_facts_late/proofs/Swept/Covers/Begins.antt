-- A sweep begins to go over a table: in blocking mode from the moment at which that was the root last, in incremental mode from now on, where no table follows.
use Rattle.std.specs.Prelude.{◌≡◌, ◌≢◌, ℕ, suc, ◌<◌, ◌≤◌, Bool, true, false, [], ◌⊎◌}
use Rattle.std.proofs.Common.{refl, ap, inl, inr, sym, subst, ◌∙◌, arith}
use Rattle.std.proofs.lemmas.Bool.{cases_lt}
use Rattle.map_facts.specs.Given.ReservesDeclared.sweep.Purpose.{Purpose}
use Rattle.map_facts.specs.Given.RuleChart.{Phase, Copied, Free, Share, Holds, Chart}
use Rattle.map_facts.specs.Given.RuleRule.{Rule, Agrees}
use Rattle.map_facts.specs.Given.RuleMoments.{Names, Moments}
use Rattle.map_facts.specs.Given.RuleMaps.{spot_of}
use Rattle.map_facts.proofs.Given.RuleHistory.History.{root_names}
use Rattle.map_facts_late.specs.Covers.{Came, Covers}
use Rattle.map_facts_late.proofs.Swept.Sweeps.Tables.{WasRootIn}

module _ {K : Type 0} (c : Chart K) where
  -- where table t names just the pairs that the map had at a moment
  pub covers_from : (entered t : ℕ) → entered ≤ c.now → ((n : ℕ) → Names c t n → c.was entered n ≡ true) → ((n : ℕ) → c.was entered n ≡ true → Names c t n)
      → (purpose : Purpose) (met : Bool) → Covers c entered t 0 purpose met []
  covers_from entered t since named stands purpose met = record {
    since = since;
    named = λ i n phase borrowed e. (entered, omega arith, since, named n (i, phase, borrowed, e));
    stands = λ n always. stands n (always entered (omega arith) since);
    behind = λ unmet i n phase borrowed l e always. absurd (omega (arith, l));
    shown = (λ n there. absurd (omega (arith, there)), λ n. omega arith);
    before = λ n there. absurd (omega (arith, there));
  }

module _ {K : Type 0} (same : K → K → Bool) (hash : K → ℕ) (c : Chart K) where
  -- what stands in a last root is not marked, in incremental mode
  still_in_root : Rule same (spot_of hash) true c → c.past ≤ suc c.first → (i n : ℕ) (phase : Phase) (borrowed : Bool) → c.place c.first i ≡ Holds n phase borrowed → phase ≢ Copied
  still_in_root rule last i n phase borrowed e copied = at (cases_lt i (c.len c.first))
    where
      at : (i < c.len c.first) ⊎ (c.len c.first ≤ i) → ⊥
      at (inl inside) =
          let agrees : Agrees Free (c.place c.first i) = subst (λ (s : Share). Agrees s (c.place c.first i)) (rule.common.unshared (suc c.first) i last) (rule.in_mode.shares i inside) in
          let held : c.place c.first i ≡ Holds n Copied borrowed = e ∙ ap (λ (x : Phase). Holds n x borrowed) copied in
          cc (agrees, held)
      at (inr outside) = by (cases_lt c.first c.past)
        where
          by : (c.first < c.past) ⊎ (c.past ≤ c.first) → ⊥
          by (inl made) = let none = rule.common.outside c.first i made outside in cc (none, e)
          by (inr bare) = let none = rule.common.unmade c.first i bare in cc (none, e)

  -- in either mode, the root names just the pairs of the map, where no table follows in incremental mode
  pub names_current : (b : Bool) → Rule same (spot_of hash) b c → (b ≡ true → c.past ≤ suc c.first) → (n : ℕ) → (c.current n ≡ true → Names c c.first n) × (Names c c.first n → c.current n ≡ true)
  names_current false rule last n = root_names same (spot_of hash) c rule n
  names_current true rule last n = (
    λ current. (let s = rule.common.stands n current in by s.0 s.1 s.2 s.3 s.4 s.6 (cases_lt s.0 c.past)),
    λ named. rule.common.is_current c.first named.0 n named.1 named.2 named.3 (still_in_root rule (last refl) named.0 n named.1 named.2 named.3) (omega arith),
  )
    where
      by : (t i : ℕ) (phase : Phase) (borrowed : Bool) → c.place t i ≡ Holds n phase borrowed → c.first ≤ t → (t < c.past) ⊎ (c.past ≤ t) → Names c c.first n
      by t i phase borrowed e home (inl made) =
          let root : t ≡ c.first = (let l = last refl in omega (arith, home, made, l)) in (i, phase, borrowed, ap (λ (x : ℕ). c.place x i) (sym root) ∙ e)
      by t i phase borrowed e home (inr none) = absurd (let empty = rule.common.unmade t i none in cc (empty, e))

  module _ (b : Bool) (rule : Rule same (spot_of hash) b c) (moments : Moments b c) (began : ℕ) (since : began ≤ c.now) where
    -- where it has come to a table
    pub begins : (t : ℕ) → t < c.past → WasRootIn same hash c began t b → (b ≡ true → c.past ≤ suc t) → (entered : ℕ) × (began ≤ entered) × ((purpose : Purpose) (met : Bool) → Covers c entered t 0 purpose met [])
    begins t made root last = by b refl rule moments root last
      where
        at_root : (x : Bool) → Rule same (spot_of hash) x c → Moments x c → t ≡ c.first → (x ≡ true → c.past ≤ suc t) → (entered : ℕ) × (began ≤ entered) × ((purpose : Purpose) (met : Bool) → Covers c entered t 0 purpose met [])
        at_root x r m is last = (
          c.now,
          since,
          subst (λ (u : ℕ). (purpose : Purpose) (met : Bool) → Covers c c.now u 0 purpose met []) (sym is)
              (covers_from c c.now c.first (omega arith)
              (λ n named. m.now_is n ∙ (names_current x r (λ e. subst (λ (u : ℕ). c.past ≤ suc u) is (last e)) n).1 named)
              (λ n was. (names_current x r (λ e. subst (λ (u : ℕ). c.past ≤ suc u) is (last e)) n).0 (sym (m.now_is n) ∙ was))),
        )

        by : (x : Bool) → b ≡ x → Rule same (spot_of hash) x c → Moments x c → WasRootIn same hash c began t x → (x ≡ true → c.past ≤ suc t)
            → (entered : ℕ) × (began ≤ entered) × ((purpose : Purpose) (met : Bool) → Covers c entered t 0 purpose met [])
        by true e r m upto last = at_root true r m (let l = last refl in let first = r.common.rooted (omega (arith, made)) in omega (arith, upto, l, first)) last
        by false e r m (inl is) last = at_root false r m is last
        by false e r m (inr left) last = (
          c.passed t,
          left.since,
          covers_from c (c.passed t) t (m.passed_before t left.behind)
              (λ n named. (m.frozen refl t n left.behind left.was_root).1 named) (λ n was. (m.frozen refl t n left.behind left.was_root).0 was),
        )

    -- a map without a table has no pair
    pub bare_came : c.past ≤ c.first → (purpose : Purpose) → Came c c.now purpose []
    bare_came bare purpose = record {
      since = omega arith;
      all = λ n always. absurd (none n (sym (moments.now_is n) ∙ always c.now (omega arith) (omega arith)));
      shown = (λ n there. absurd (omega (arith, there)), λ n. omega arith);
    }
      where
        none : (n : ℕ) → c.current n ≡ true → ⊥
        none n current =
            let s = rule.common.stands n current in
            let empty = rule.common.unmade s.0 s.1 (past_none (cases_lt 0 c.past) s.0) in
            let held = s.4 in cc (empty, held)
          where
            past_none : (0 < c.past) ⊎ (c.past ≤ 0) → (t : ℕ) → c.past ≤ t
            past_none (inl some) t = absurd (let l = rule.common.rooted some in omega (arith, l, bare))
            past_none (inr zero) t = omega (arith, zero)
