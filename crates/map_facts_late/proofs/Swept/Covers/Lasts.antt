-- What a sweep has come to lasts over each allowed move, whoever makes it.
use Rattle.std.specs.Prelude.{◌≡◌, ℕ, ◌<◌, ◌≤◌, Bool, true, false, ◌&&◌, List}
use Rattle.std.proofs.Common.{ap, inl, inr, sym, ◌∙◌, arith}
use Rattle.map_facts.specs.Given.SweepsSweepPoints.{removes}
use Rattle.map_facts.specs.Given.ReservesDeclared.sweep.Purpose.{Purpose}
use Rattle.map_facts.specs.Given.RuleChart.{Phase, Holds, Chart}
use Rattle.map_facts.specs.Given.RuleRule.{Rule}
use Rattle.map_facts.specs.Given.RuleMoments.{Names, Moments, Remembers}
use Rattle.map_facts_late.specs.Covers.{IsKept, WasSince, WasAlways, AreShown, Came, Covers, Asked}
use Rattle.map_facts_late.proofs.Swept.Covers.Places.{Follows}

module _ {K : Type 0} (same : K → K → Bool) (spot : ℕ → K → ℕ → ℕ) (incremental : Bool) (c c2 : Chart K) (common : Rule same spot incremental c) (moments : Moments incremental c) (moments2 : Moments incremental c2)
    (remembers : Remembers incremental c c2) (stored : c.stored ≤ c2.stored) (entered : ℕ) (since : entered ≤ c.now) where
  was_on : (n : ℕ) → WasSince c entered n → WasSince c2 entered n
  was_on n (m, from, upto, is) = (m, from, (let now = remembers.now in omega (arith, upto, now)), ap (λ (f : ℕ → Bool). f n) (remembers.was m upto) ∙ is)

  always_back : (n : ℕ) → WasAlways c2 entered n → WasAlways c entered n
  always_back n h m from upto = sym (ap (λ (f : ℕ → Bool). f n) (remembers.was m upto)) ∙ h m from (let now = remembers.now in omega (arith, upto, now))

  shown_on : (done : List ℕ) → AreShown c entered done → AreShown c2 entered done
  shown_on done (was, once) = (λ n there. was_on n (was n there), once)

  -- a pair that came since was not there always
  not_new : (n : ℕ) → c.stored ≤ n → WasAlways c2 entered n → ⊥
  not_new n new h =
      let current : c.current n ≡ true = sym (moments.now_is n) ∙ always_back n h c.now since (omega arith) in
      let stands = common.common.stands n current in
      let was = (common.common.keyed stands.0 stands.1 n stands.2 stands.3 stands.4).0 in
      omega (arith, new, was)

  pub came_on : (purpose : Purpose) (done : List ℕ) → Came c entered purpose done → Came c2 entered purpose done
  came_on purpose done h = record {
    since = (let now = remembers.now in omega (arith, since, now));
    all = λ n always. h.all n (always_back n always);
    shown = shown_on done h.shown;
  }

  module _ (t : ℕ) (follows : (i : ℕ) → Follows c c2 (c.place t i) (c2.place t i)) (place : ℕ) (done : List ℕ) where
    pub covers_on : (purpose : Purpose) (met : Bool) → Covers c entered t place purpose met done → Covers c2 entered t place purpose met done
    covers_on purpose met h = record {
      since = (let now = remembers.now in omega (arith, since, now));
      named = named;
      stands = stands;
      behind = behind;
      shown = shown_on done h.shown;
      before = λ n there. (
        (let l = (h.before n there).0 in omega (arith, l, stored)),
        λ i phase borrowed far e. (elim (((follows i).back n phase borrowed e)) as (λ _. ⊥) [
          | inl old ↦ (h.before n there).1 i old.0 old.1 far old.2
          | inr new ↦ (let l = (h.before n there).0 in let m = new.0 in omega (arith, l, m))
        ]),
      );
    }
      where
        named : (i n : ℕ) (phase : Phase) (borrowed : Bool) → c2.place t i ≡ Holds n phase borrowed → WasSince c2 entered n
        named i n phase borrowed e = elim ((follows i).back n phase borrowed e) as (λ _. WasSince c2 entered n) [
          | inl old ↦ was_on n (h.named i n old.0 old.1 old.2)
          | inr new ↦ (c2.now, (let now = new.1 in omega (arith, since, now)), omega arith, new.2)
        ]

        stands : (n : ℕ) → WasAlways c2 entered n → Names c2 t n
        stands n always = let was = h.stands n (always_back n always) in elim ((follows was.0).on n was.1 was.2 was.3) as (λ _. Names c2 t n) [
          | inl on ↦ (was.0, on.0, on.1, on.2)
          | inr gone ↦ absurd (let now = remembers.now in let is = always c2.now (omega (arith, since, now)) (omega arith) in let cur = moments2.now_is n in cc (gone, is, cur))
        ]

        behind : (removes purpose && met) ≡ false → (i n : ℕ) (phase : Phase) (borrowed : Bool) → i < place → c2.place t i ≡ Holds n phase borrowed → WasAlways c2 entered n → IsKept purpose n done
        behind unmet i n phase borrowed l e always = elim ((follows i).back n phase borrowed e) as (λ _. IsKept purpose n done) [
          | inl old ↦ h.behind unmet i n old.0 old.1 l old.2 (always_back n always)
          | inr new ↦ absurd (not_new n new.0 always)
        ]

    pub asked_on : (n : ℕ) → Asked c entered t place done n → Asked c2 entered t place done n
    asked_on n h = record {
      was = was_on n h.was;
      stored = (let l = h.stored in omega (arith, l, stored));
      fresh = h.fresh;
      here = λ o phase borrowed e always. (elim ((follows place).back o phase borrowed e) as (λ _. o ≡ n) [
        | inl old ↦ h.here o old.0 old.1 old.2 (always_back o always)
        | inr new ↦ absurd (not_new o new.0 always)
      ]);
      nowhere_else = λ i phase borrowed far e. (elim ((follows i).back n phase borrowed e) as (λ _. ⊥) [
        | inl old ↦ h.nowhere_else i old.0 old.1 far old.2
        | inr new ↦ (let l = h.stored in let m = new.0 in omega (arith, l, m))
      ]);
    }
