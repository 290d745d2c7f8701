-- What a sweep comes to as a place is behind it: it is passed, or its pair is shown, or told to be kept.
use Rattle.std.specs.Prelude.{◌≡◌, ◌≢◌, ℕ, zero, suc, ◌+◌, ◌<◌, ◌≤◌, Bool, true, false, cond, ◌&&◌, List, ◌∷◌}
use Rattle.std.proofs.Common.{refl, ap, inl, inr, sym, subst, ◌∙◌, arith}
use Rattle.std.proofs.lemmas.Bool.{cases_lt, cases_eq, eq-eqb, ne_eqb}
use Rattle.map_facts.specs.Given.TablesDeclared.status.TheConstants.Status.{ABORTED}
use Rattle.map_facts.specs.Given.SweepsSweepPoints.{removes}
use Rattle.map_facts.specs.Given.ReservesDeclared.sweep.Purpose.{Purpose}
use Rattle.map_facts.specs.Given.ReservesDeclared.sweep.Purpose.TheVariants.{Walks, Clears, Retains}
use Rattle.map_facts.specs.Given.RuleChart.{Phase, Holds, Chart}
use Rattle.map_facts.specs.Given.RuleRule.{Common, IsLawful, is_of}
use Rattle.map_facts_late.specs.Covers.{times, IsKept, WasSince, WasAlways, Covers, Asked}

-- what is done stays done
kept_on : (purpose : Purpose) (o n : ℕ) (done : List ℕ) → IsKept purpose o done → IsKept purpose o (n ∷ done)
kept_on Walks o n done h = omega (arith, h)
kept_on Clears o n done h = h
kept_on Retains o n done h = omega (arith, h)

-- a list with one pair more
pub times_new : (o n : ℕ) (done : List ℕ) → o ≡ n → times o (n ∷ done) ≡ suc (times o done)
times_new o n done e = let added = ap (λ (b : Bool). cond b 1 0 + times o done) (eq-eqb o n e) in omega (arith, added)

times_old : (o n : ℕ) (done : List ℕ) → o ≢ n → times o (n ∷ done) ≡ times o done
times_old o n done e = let added = ap (λ (b : Bool). cond b 1 0 + times o done) (ne_eqb o n e) in omega (arith, added)

module _ {K : Type 0} (c : Chart K) (entered t place : ℕ) (purpose : Purpose) (done : List ℕ) where
  -- the place is passed: nothing there is to be done, or a mark is met
  pub passes : (met met2 : Bool) → Covers c entered t place purpose met done
      → ((removes purpose && met2) ≡ false
      → ((removes purpose && met) ≡ false) × ((n : ℕ) (phase : Phase) (borrowed : Bool) → c.place t place ≡ Holds n phase borrowed → WasAlways c entered n → IsKept purpose n done))
      → Covers c entered t (suc place) purpose met2 done
  passes met met2 h here = record {
    since = h.since;
    named = h.named;
    stands = h.stands;
    behind = behind;
    shown = h.shown;
    before = λ n there. ((h.before n there).0, λ i phase borrowed far. (h.before n there).1 i phase borrowed (omega (arith, far)));
  }
    where
      behind : (removes purpose && met2) ≡ false → (i n : ℕ) (phase : Phase) (borrowed : Bool) → i < suc place → c.place t i ≡ Holds n phase borrowed → WasAlways c entered n → IsKept purpose n done
      behind unmet i n phase borrowed l e always = elim (cases_lt i place) as (λ _. IsKept purpose n done) [
        | inl before ↦ h.behind (here unmet).0 i n phase borrowed before e always
        | inr there ↦ (let is : i ≡ place = omega (arith, l, there) in (here unmet).1 n phase borrowed (ap (c.place t) (sym is) ∙ e) always)
      ]

  -- the pair is done that it has asked about, or shows
  pub adds : (met : Bool) → Covers c entered t place purpose met done → (n : ℕ) → Asked c entered t place done n → IsKept purpose n (n ∷ done) → Covers c entered t (suc place) purpose met (n ∷ done)
  adds met h n asked keeps = record {
    since = h.since;
    named = h.named;
    stands = h.stands;
    behind = behind;
    shown = (was, once);
    before = before;
  }
    where
      behind : (removes purpose && met) ≡ false → (i o : ℕ) (phase : Phase) (borrowed : Bool) → i < suc place → c.place t i ≡ Holds o phase borrowed → WasAlways c entered o → IsKept purpose o (n ∷ done)
      behind unmet i o phase borrowed l e always = elim (cases_lt i place) as (λ _. IsKept purpose o (n ∷ done)) [
        | inl before ↦ kept_on purpose o n done (h.behind unmet i o phase borrowed before e always)
        | inr there ↦ (let is : i ≡ place = omega (arith, l, there) in
            subst (λ (x : ℕ). IsKept purpose x (n ∷ done)) (sym (asked.here o phase borrowed (ap (c.place t) (sym is) ∙ e) always)) keeps)
      ]

      was : (o : ℕ) → 0 < times o (n ∷ done) → WasSince c entered o
      was o there = elim (cases_eq o n) as (λ _. WasSince c entered o) [
        | inl e ↦ subst (WasSince c entered) (sym e) asked.was
        | inr ne ↦ h.shown.0 o (let old = times_old o n done ne in omega (arith, there, old))
      ]

      once : (o : ℕ) → times o (n ∷ done) ≤ 1
      once o = elim (cases_eq o n) as (λ _. times o (n ∷ done) ≤ 1) [
        | inl e ↦ (let new = times_new o n done e in let fresh : times o done ≡ 0 = ap (λ (x : ℕ). times x done) e ∙ asked.fresh in omega (arith, new, fresh))
        | inr ne ↦ (let old = times_old o n done ne in let l = h.shown.1 o in omega (arith, old, l))
      ]

      before : (o : ℕ) → 0 < times o (n ∷ done) → (o < c.stored) × ((i : ℕ) (phase : Phase) (borrowed : Bool) → suc place ≤ i → c.place t i ≢ Holds o phase borrowed)
      before o there = elim (cases_eq o n) as (λ _. (o < c.stored) × ((i : ℕ) (phase : Phase) (borrowed : Bool) → suc place ≤ i → c.place t i ≢ Holds o phase borrowed)) [
        | inl e ↦ (
          subst (λ (x : ℕ). x < c.stored) (sym e) asked.stored,
          λ i phase borrowed far stands. asked.nowhere_else i phase borrowed (omega (arith, far)) (stands ∙ ap (λ (x : ℕ). Holds x phase borrowed) e),
        )
        | inr ne ↦ (let old = times_old o n done ne in let b = h.before o (omega (arith, there, old)) in (b.0, λ i phase borrowed far. b.1 i phase borrowed (omega (arith, far))))
      ]

  -- the pair that stands at its place may be asked about
  pub asked_of : (same : K → K → Bool) (spot : ℕ → K → ℕ → ℕ) (incremental : Bool) → IsLawful same spot → Common same spot incremental c → c.status t ≢ ABORTED
      → (met : Bool) → Covers c entered t place purpose met done → (n : ℕ) (phase : Phase) (borrowed : Bool) → c.place t place ≡ Holds n phase borrowed → Asked c entered t place done n
  asked_of same spot incremental lawful common live met h n phase borrowed stands = record {
    was = h.named place n phase borrowed stands;
    stored = (common.keyed t place n phase borrowed stands).0;
    fresh = by (times n done) refl;
    here = λ o phase2 borrowed2 e always. (let held : Holds o phase2 borrowed2 ≡ Holds n phase borrowed = sym e ∙ stands in cc held);
    nowhere_else = λ i phase2 borrowed2 far e.
        (let key = common.keyed t place n phase borrowed stands in
        let of : is_of same spot incremental key.1 (c.key n) ≡ true = ap (is_of same spot incremental key.1) key.2 ∙ lawful.classes.refl key.1 in
        let one = common.once t i place n n phase2 phase borrowed2 borrowed key.1 live e stands of of in
        omega (arith, far, one));
  }
    where
      by : (k : ℕ) → times n done ≡ k → k ≡ 0
      by zero e = refl
      by (suc k) e = absurd ((h.before n (omega (arith, e))).1 place phase borrowed (omega arith) stands)
