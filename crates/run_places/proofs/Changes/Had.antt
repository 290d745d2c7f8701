-- What a class had at a moment of its map it had then, whatever comes later; and it had one thing.
use Rattle.std.specs.Prelude.{◌≡◌, ℕ, ◌<◌, ◌≤◌, Bool, true, Option, Some, None}
use Rattle.std.proofs.Common.{refl, ap, sym, ◌∙◌, arith}
use Rattle.run_shows.specs.Given.FinishesMaps.{Standing}
use Rattle.run_places.specs.Changes.Had.{Had, HadJust, HadThen}
use Rattle.run_places.proofs.Changes.Later.{IsLater}

module _ {K : Type 0} (same : K → K → Bool) (s s2 : Standing K) (number number2 : ℕ → ℕ) (later : IsLater s.chart s2.chart) (numbers : (n : ℕ) → n < s.chart.stored → number2 n ≡ number n)
    (time : ℕ) (l : time ≤ s.chart.now) (k : K) where
  was_then : (n : ℕ) → s2.chart.was time n ≡ s.chart.was time n
  was_then n = ap (λ (f : ℕ → Bool). f n) (later.was time l)

  forth : (n : ℕ) → Had same s number time k n → Had same s2 number2 time k n
  forth n h = ((let b = h.0 in let g = later.stored in omega (arith, b, g)), was_then n ∙ h.1, h.2, later.keys n h.0 ∙ h.3, h.4)

  back : ((n : ℕ) → s.chart.was time n ≡ true → n < s.chart.stored) → (n : ℕ) → Had same s2 number2 time k n → Had same s number time k n
  back stored n h = let was = sym (was_then n) ∙ h.1 in let b = stored n was in (b, was, h.2, sym (later.keys n b) ∙ h.3, h.4)

  just_on : ((n : ℕ) → s.chart.was time n ≡ true → n < s.chart.stored) → (o : Option ℕ) → HadJust same s number time k o → HadJust same s2 number2 time k o
  just_on stored None h = λ n had. h n (back stored n had)
  just_on stored (Some q) h = (h.0, forth h.0 h.1, numbers h.0 h.1.0 ∙ h.2, λ o had. h.3 o (back stored o had))

  pub had_on : (o : Option ℕ) → HadThen same s number time k o → HadThen same s2 number2 time k o
  had_on o h = record {
    stored = λ n was. (let b = h.stored n (sym (was_then n) ∙ was) in let g = later.stored in omega (arith, b, g));
    just = just_on h.stored o h.just;
  }

module _ {K : Type 0} (same : K → K → Bool) (s : Standing K) (number : ℕ → ℕ) (time : ℕ) (k : K) where
  just_one : (o p : Option ℕ) → HadJust same s number time k o → HadJust same s number time k p → o ≡ p
  just_one None None h j = refl
  just_one None (Some q) h j = absurd (h j.0 j.1)
  just_one (Some q) None h j = absurd (j h.0 h.1)
  just_one (Some q) (Some r) h j = ap Some (sym h.2 ∙ ap number (sym (h.3 j.0 j.1)) ∙ j.2)

  pub had_one : (o p : Option ℕ) → HadThen same s number time k o → HadThen same s number time k p → o ≡ p
  had_one o p h j = just_one o p h.just j.just

  -- at a moment at which the map had the same pairs, too
  pub had_at : (later : ℕ) → ((n : ℕ) → s.chart.was later n ≡ s.chart.was time n) → (o : Option ℕ) → HadThen same s number time k o → HadThen same s number later k o
  had_at later alike o h = record { stored = λ n was. h.stored n (sym (alike n) ∙ was); just = by o h.just }
    where
      forth : (n : ℕ) → Had same s number time k n → Had same s number later k n
      forth n had = (had.0, alike n ∙ had.1, had.2, had.3, had.4)

      back : (n : ℕ) → Had same s number later k n → Had same s number time k n
      back n had = (had.0, sym (alike n) ∙ had.1, had.2, had.3, had.4)

      by : (x : Option ℕ) → HadJust same s number time k x → HadJust same s number later k x
      by None none = λ n had. none n (back n had)
      by (Some q) it = (it.0, forth it.0 it.1, it.2, λ n had. it.3 n (back n had))

  -- what it had then is all that it had
  pub had_none : (o : Option ℕ) → HadThen same s number time k o → ((n : ℕ) → Had same s number time k n → ⊥) → o ≡ None
  had_none None h none = refl
  had_none (Some q) h none = absurd (none h.just.0 h.just.1)

  pub had_pair : (o : Option ℕ) → HadThen same s number time k o → (n : ℕ) → Had same s number time k n → o ≡ Some (number n)
  had_pair None h n had = absurd (h.just n had)
  had_pair (Some q) h n had = ap Some (sym h.just.2 ∙ ap number (sym (h.just.3 n had)))
