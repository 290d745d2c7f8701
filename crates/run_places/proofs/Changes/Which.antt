-- Which change a step of a call on one key has made, by which pairs have come to the map or left it, and what its effects say of that.
use Rattle.std.specs.Prelude.{◌≡◌, ◌≢◌, ℕ, ◌+◌, ◌<◌, ◌≤◌, Bool, true, false, List, [], ◌∷◌, flat_map}
use Rattle.std.proofs.Common.{refl, ap, sym, subst, ◌∙◌, arith, inl, inr}
use Rattle.std.proofs.lemmas.Bool.{cases_eq}
use Rattle.run_shows.specs.Given.RunsDeclared.effect.Effect.{Effect}
use Rattle.run_shows.specs.Given.RunsDeclared.effect.Effect.TheVariants as effect
use Rattle.run_shows.specs.Given.RunsDeclared.effect.Spot.{Spot}
use Rattle.run_shows.specs.Given.SchedulesLinearizable.{shift_of}
use Rattle.run_shows.specs.Given.RuleChart.{Chart, put}
use Rattle.run_shows.specs.Given.RuleMaps.{IsAbsent, IsPair}
use Rattle.run_shows.proofs.Given.RuleMoves.Writes.{put_here, put_elsewhere}
use Rattle.run_shows.specs.Given.PointsFactsCalls.{Change, Unchanged, Stored, Replaced, Removed, Changes}
use Rattle.run_places.proofs.Spots.Shifts.{Shifts, KeepsAll, StoresOne, ReplacesOne, RemovesOne}

module _ {K : Type 0} (same : K → K → Bool) (hash : K → ℕ) (incremental : Bool) (keys : K → Bool) (c c2 : Chart K) (number : ℕ → ℕ) (stored : ℕ) (effects : List Effect) where
  -- the new pair alone has come
  abbrev pub Comes : Type 0
  Comes = (n : ℕ) → c2.current n ≡ true → c.stored ≤ n → n ≡ c.stored

  -- it has changed nothing, or stored a pair, stored one in the place of another, or removed one; and so say the effects
  pub data DidOnce (change : Change) : Type 0 where
    DidNone : change ≡ Unchanged → flat_map shift_of effects ≡ [] → DidOnce change
    DidStore : (s : Spot) → effects ≡ effect.Stored (stored + 1) s ∷ [] → change ≡ Stored c.stored → IsAbsent same hash incremental c keys → Comes → DidOnce change
    DidReplace : (n : ℕ) (s : Spot) → effects ≡ effect.Replaced (number n) ∷ effect.Stored (stored + 1) s ∷ [] → change ≡ Replaced n c.stored → IsPair same hash incremental c keys n → Comes → DidOnce change
    DidRemove : (n : ℕ) → effects ≡ effect.Removed (number n) ∷ [] → change ≡ Removed n → IsPair same hash incremental c keys n → DidOnce change

  module _ (there : (n : ℕ) → c.current n ≡ true → n < c.stored) where
    value : (f : ℕ → Bool) → c2.current ≡ f → (n : ℕ) → c2.current n ≡ f n
    value f e n = ap (λ (h : ℕ → Bool). h n) e

    -- a pair of the map is none that comes
    not_new : c.current c.stored ≡ true → ⊥
    not_new is = let l = there c.stored is in omega (arith, l)

    apart : (o : ℕ) → c.current o ≡ true → o ≢ c.stored
    apart o is e = let l = there o is in omega (arith, l, e)

    -- the new pair was not in the map
    new_came : c2.current c.stored ≡ true → c2.current c.stored ≡ c.current c.stored → ⊥
    new_came there_now kept = not_new (sym kept ∙ there_now)

    comes : (f : ℕ → Bool) → ((n : ℕ) → f n ≡ true → c.current n ≡ true) → c2.current ≡ put f c.stored true → Comes
    comes f less cur n now from = elim (cases_eq n c.stored) as (λ _. n ≡ c.stored) [
      | inl e ↦ e
      | inr ne ↦ absurd (let l = there n (less n (sym (value (put f c.stored true) cur n ∙ put_elsewhere f c.stored true n ne) ∙ now)) in omega (arith, l, from))
    ]

    by_kept : c2.current ≡ c.current → flat_map shift_of effects ≡ [] → (change : Change) → Changes same hash incremental keys c c2 change → DidOnce change
    by_kept kept none Unchanged e = DidNone refl none
    by_kept kept none (Stored n) (n_is, absent, cur) = absurd (new_came (ap c2.current (sym n_is) ∙ value (put c.current n true) cur n ∙ put_here c.current n true) (value c.current kept c.stored))
    by_kept kept none (Replaced o n) (n_is, pair, cur) =
        absurd (new_came (ap c2.current (sym n_is) ∙ value (put (put c.current o false) n true) cur n ∙ put_here (put c.current o false) n true) (value c.current kept c.stored))
    by_kept kept none (Removed o) (pair, cur) =
        absurd (let no : c2.current o ≡ false = value (put c.current o false) cur o ∙ put_here c.current o false in let yes : c2.current o ≡ true = value c.current kept o ∙ pair.0 in cc (yes, no))

    by_stored : (s : Spot) → effects ≡ effect.Stored (stored + 1) s ∷ [] → c2.current ≡ put c.current c.stored true → (change : Change) → Changes same hash incremental keys c c2 change → DidOnce change
    by_stored s is cur Unchanged e = absurd (new_came (value (put c.current c.stored true) cur c.stored ∙ put_here c.current c.stored true) (value c.current e c.stored))
    by_stored s is cur (Stored n) (n_is, absent, cur2) = DidStore s is (ap Stored n_is) absent (comes c.current (λ n e. e) cur)
    by_stored s is cur (Replaced o n) (n_is, pair, cur2) =
        absurd (let ne = apart o pair.0 in
        let yes : c2.current o ≡ true = value (put c.current c.stored true) cur o ∙ put_elsewhere c.current c.stored true o ne ∙ pair.0 in
        let no : c2.current o ≡ false = value (put (put c.current o false) n true) cur2 o ∙ put_elsewhere (put c.current o false) n true o (λ e. ne (e ∙ n_is)) ∙ put_here c.current o false in cc (yes, no))
    by_stored s is cur (Removed o) (pair, cur2) =
        absurd (new_came (value (put c.current c.stored true) cur c.stored ∙ put_here c.current c.stored true)
        (value (put c.current o false) cur2 c.stored ∙ put_elsewhere c.current o false c.stored (λ e. apart o pair.0 (sym e))))

    by_replaced : (n : ℕ) (s : Spot) → effects ≡ effect.Replaced (number n) ∷ effect.Stored (stored + 1) s ∷ [] → c.current n ≡ true → c2.current ≡ put (put c.current n false) c.stored true
        → (change : Change) → Changes same hash incremental keys c c2 change → DidOnce change
    by_replaced n s is was cur Unchanged e =
        absurd (new_came (value (put (put c.current n false) c.stored true) cur c.stored ∙ put_here (put c.current n false) c.stored true) (value c.current e c.stored))
    by_replaced n s is was cur (Stored o) (o_is, absent, cur2) =
        absurd (let ne = apart n was in
        let no : c2.current n ≡ false = value (put (put c.current n false) c.stored true) cur n ∙ put_elsewhere (put c.current n false) c.stored true n ne ∙ put_here c.current n false in
        let yes : c2.current n ≡ true = value (put c.current o true) cur2 n ∙ put_elsewhere c.current o true n (λ e. ne (e ∙ o_is)) ∙ was in cc (yes, no))
    by_replaced n s is was cur (Replaced o p) (p_is, pair, cur2) = elim (cases_eq o n) as (λ _. DidOnce (Replaced o p)) [
      | inl e ↦ DidReplace n s is (ap (λ (z : ℕ). Replaced z p) e ∙ ap (Replaced n) p_is) (subst (λ (z : ℕ). IsPair same hash incremental c keys z) e pair) (comes (put c.current n false) less cur)
      | inr ne ↦
          absurd (let far = apart o pair.0 in
          let yes : c2.current o ≡ true =
          value (put (put c.current n false) c.stored true) cur o ∙ put_elsewhere (put c.current n false) c.stored true o far ∙ put_elsewhere c.current n false o ne ∙ pair.0 in
          let no : c2.current o ≡ false = value (put (put c.current o false) p true) cur2 o ∙ put_elsewhere (put c.current o false) p true o (λ e. far (e ∙ p_is)) ∙ put_here c.current o false in cc (yes, no))
    ]
      where
        less : (z : ℕ) → put c.current n false z ≡ true → c.current z ≡ true
        less z e = elim (cases_eq z n) as (λ _. c.current z ≡ true) [
          | inl same_one ↦ absurd (let no : put c.current n false z ≡ false = ap (put c.current n false) same_one ∙ put_here c.current n false in cc (e, no))
          | inr ne ↦ sym (put_elsewhere c.current n false z ne) ∙ e
        ]
    by_replaced n s is was cur (Removed o) (pair, cur2) =
        absurd (new_came (value (put (put c.current n false) c.stored true) cur c.stored ∙ put_here (put c.current n false) c.stored true)
        (value (put c.current o false) cur2 c.stored ∙ put_elsewhere c.current o false c.stored (λ e. apart o pair.0 (sym e))))

    by_removed : (n : ℕ) → effects ≡ effect.Removed (number n) ∷ [] → c.current n ≡ true → c2.current ≡ put c.current n false → (change : Change) → Changes same hash incremental keys c c2 change → DidOnce change
    by_removed n is was cur Unchanged e =
        absurd (let no : c2.current n ≡ false = value (put c.current n false) cur n ∙ put_here c.current n false in let yes : c2.current n ≡ true = value c.current e n ∙ was in cc (yes, no))
    by_removed n is was cur (Stored o) (o_is, absent, cur2) =
        absurd (new_came (ap c2.current (sym o_is) ∙ value (put c.current o true) cur2 o ∙ put_here c.current o true)
        (value (put c.current n false) cur c.stored ∙ put_elsewhere c.current n false c.stored (λ e. apart n was (sym e))))
    by_removed n is was cur (Replaced o p) (p_is, pair, cur2) =
        absurd (new_came (ap c2.current (sym p_is) ∙ value (put (put c.current o false) p true) cur2 p ∙ put_here (put c.current o false) p true)
        (value (put c.current n false) cur c.stored ∙ put_elsewhere c.current n false c.stored (λ e. apart n was (sym e))))
    by_removed n is was cur (Removed o) (pair, cur2) = elim (cases_eq o n) as (λ _. DidOnce (Removed o)) [
      | inl e ↦ DidRemove n is (ap Removed e) (subst (λ (z : ℕ). IsPair same hash incremental c keys z) e pair)
      | inr ne ↦
          absurd (let yes : c2.current o ≡ true = value (put c.current n false) cur o ∙ put_elsewhere c.current n false o ne ∙ pair.0 in
          let no : c2.current o ≡ false = value (put c.current o false) cur2 o ∙ put_here c.current o false in cc (yes, no))
    ]

    pub did_once : Shifts c c2 number stored effects → (change : Change) → Changes same hash incremental keys c c2 change → DidOnce change
    did_once (KeepsAll kept none) change changes = by_kept kept none change changes
    did_once (StoresOne s is cur) change changes = by_stored s is cur change changes
    did_once (ReplacesOne n s is was cur) change changes = by_replaced n s is was cur change changes
    did_once (RemovesOne n is was cur) change changes = by_removed n is was cur change changes

  -- where no pair has come or gone, no effect says so
  pub none_shifted : (change : Change) → change ≡ Unchanged → DidOnce change → flat_map shift_of effects ≡ []
  none_shifted change e (DidNone is none) = none
  none_shifted change e (DidStore s is change_is absent comes) = absurd (cc (e, change_is))
  none_shifted change e (DidReplace n s is change_is pair comes) = absurd (cc (e, change_is))
  none_shifted change e (DidRemove n is change_is pair) = absurd (cc (e, change_is))
