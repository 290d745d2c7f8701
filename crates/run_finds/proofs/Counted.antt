-- A pair that is put elsewhere: how often pairs stand in a list, by where they are, once one has come to it, or has gone.
use Rattle.std.specs.Prelude.{◌≡◌, ℕ, ◌+◌, ◌==◌, Bool, true, false, not, cond, ◌||◌, List, [], ◌∷◌, filter, map, if◌then◌else◌}
use Rattle.std.proofs.Common.{refl, ap, sym, subst, ◌∙◌, arith, inl, inr}
use Rattle.std.proofs.lemmas.Bool.{cases_eq, eq-eqb, ne_eqb}
use Rattle.run_executor.specs.Given.RunsDeclared.effect.TableId.{TableId}
use Rattle.run_executor.specs.Given.SchedulesEffects.{all_at}
use Rattle.run_executor.specs.Given.SchedulesLists.{is_among, put}
use Rattle.run_executor.specs.Given.SchedulesMoment.{Place, Behind, Deferral}
use Rattle.run_executor.specs.Given.SchedulesThings.{same_table}
use Rattle.run_executor.specs.Given.SchedulesViews.{behind}
use Rattle.run_executor.proofs.Given.FollowsAlike.{put_here, put_elsewhere}
use Rattle.run_finds.specs.Waiting.{once_if, put_in, is_behind_one}

-- the list has each pair once that is at such a place, and no other one
abbrev pub Counts : (Place → Bool) → (ℕ → Place) → (ℕ → ℕ) → Type 0
Counts test place count = (k : ℕ) → count k ≡ once_if (test (place k))

module _ (test : Place → Bool) (place : ℕ → Place) (n : ℕ) (to : Place) (count count2 : ℕ → ℕ) (counts : Counts test place count) where
  -- a pair has come to it
  pub gains : test to ≡ true → test (place n) ≡ false → ((k : ℕ) → count2 k ≡ count k + once_if (k == n)) → Counts test (put n to place) count2
  gains is_so is_not more k = elim (cases_eq k n) as (λ _. count2 k ≡ once_if (test (put n to place k))) [
    | inl e ↦
        let now : once_if (test (put n to place k)) ≡ 1 = ap once_if (ap test (put_here n to place k e) ∙ is_so) in
        let was : count k ≡ 0 = counts k ∙ ap once_if (ap (λ (q : ℕ). test (place q)) e ∙ is_not) in
        let one : once_if (k == n) ≡ 1 = ap once_if (eq-eqb k n e) in
        let all = more k in
        omega (arith, now, was, one, all)
    | inr ne ↦
        let now : once_if (test (put n to place k)) ≡ once_if (test (place k)) = ap (λ (p : Place). once_if (test p)) (put_elsewhere n to place k ne) in
        let was = counts k in
        let none : once_if (k == n) ≡ 0 = ap once_if (ne_eqb k n ne) in
        let all = more k in
        omega (arith, now, was, none, all)
  ]

  -- one has gone from it
  pub loses : test to ≡ false → test (place n) ≡ true → ((k : ℕ) → count2 k + once_if (k == n) ≡ count k) → Counts test (put n to place) count2
  loses is_not is_so fewer k = elim (cases_eq k n) as (λ _. count2 k ≡ once_if (test (put n to place k))) [
    | inl e ↦
        let now : once_if (test (put n to place k)) ≡ 0 = ap once_if (ap test (put_here n to place k e) ∙ is_not) in
        let was : count k ≡ 1 = counts k ∙ ap once_if (ap (λ (q : ℕ). test (place q)) e ∙ is_so) in
        let one : once_if (k == n) ≡ 1 = ap once_if (eq-eqb k n e) in
        let all = fewer k in
        omega (arith, now, was, one, all)
    | inr ne ↦
        let now : once_if (test (put n to place k)) ≡ once_if (test (place k)) = ap (λ (p : Place). once_if (test p)) (put_elsewhere n to place k ne) in
        let was = counts k in
        let none : once_if (k == n) ≡ 0 = ap once_if (ne_eqb k n ne) in
        let all = fewer k in
        omega (arith, now, was, none, all)
  ]

  -- the pair was not there, and is not
  pub stays : test to ≡ false → test (place n) ≡ false → ((k : ℕ) → count2 k ≡ count k) → Counts test (put n to place) count2
  stays is_not was_no same k = elim (cases_eq k n) as (λ _. count2 k ≡ once_if (test (put n to place k))) [
    | inl e ↦ same k ∙ (counts k ∙ (ap once_if (ap (λ (q : ℕ). test (place q)) e ∙ was_no) ∙ sym (ap once_if (ap test (put_here n to place k e) ∙ is_not))))
    | inr ne ↦ same k ∙ (counts k ∙ sym (ap (λ (p : Place). once_if (test p)) (put_elsewhere n to place k ne)))
  ]

-- a table lets go what is behind it

module _ (t : TableId) where
  abbrev pub stays_put : Deferral → Bool
  stays_put d = not (same_table d.behind t)

  -- what is behind it is on its list, and else it is behind another one as often as before
  let_go : (n : ℕ) (deferred : List Deferral) → is_among n (behind t deferred) ≡ false → put_in n (filter stays_put deferred) ≡ put_in n deferred
  let_go n [] none = refl
  let_go n (d ∷ deferred) none = by (same_table d.behind t) refl (let_go n deferred)
    where
      Among : Bool → Type 0
      Among q = is_among n (map (λ x. x.pair) (cond q (d ∷ filter (λ x. same_table x.behind t) deferred) (filter (λ x. same_table x.behind t) deferred))) ≡ false

      Goal : Bool → Type 0
      Goal q = put_in n (cond (not q) (d ∷ filter stays_put deferred) (filter stays_put deferred)) ≡ put_in n (d ∷ deferred)

      first_is : (a b : Bool) → (a || b) ≡ false → (a ≡ false) × (b ≡ false)
      first_is true b e = absurd (cc e)
      first_is false b e = (refl, e)

      by : (q : Bool) → same_table d.behind t ≡ q → (is_among n (behind t deferred) ≡ false → put_in n (filter stays_put deferred) ≡ put_in n deferred) → Goal (same_table d.behind t)
      by true is rest = subst Goal (sym is) (
          let two = first_is (n == d.pair) (is_among n (behind t deferred)) (subst Among is none) in
          let here : once_if (n == d.pair) ≡ 0 = ap once_if two.0 in
          let others = rest two.1 in
          omega (arith, here, others)
          )
      by false is rest = subst Goal (sym is) (let others = rest (subst Among is none) in omega (arith, others))

  -- one that is behind it, and stands there once, is behind none then
  all_gone : (n : ℕ) (deferred : List Deferral) → is_among n (behind t deferred) ≡ true → (m : ℕ) × (put_in n (filter stays_put deferred) + 1 + m ≡ put_in n deferred)
  all_gone n [] there = absurd (cc there)
  all_gone n (d ∷ deferred) there = by (same_table d.behind t) refl (all_gone n deferred)
    where
      Among : Bool → Type 0
      Among q = is_among n (map (λ x. x.pair) (cond q (d ∷ filter (λ x. same_table x.behind t) deferred) (filter (λ x. same_table x.behind t) deferred))) ≡ true

      Goal : Bool → Type 0
      Goal q = (m : ℕ) × (put_in n (cond (not q) (d ∷ filter stays_put deferred) (filter stays_put deferred)) + 1 + m ≡ put_in n (d ∷ deferred))

      Rest : Type 0
      Rest = is_among n (behind t deferred) ≡ true → (m : ℕ) × (put_in n (filter stays_put deferred) + 1 + m ≡ put_in n deferred)

      fewer : (m : ℕ) × (put_in n (filter stays_put deferred) + m ≡ put_in n deferred)
      fewer = fewer_put deferred
        where
          fewer_put : (ds : List Deferral) → (m : ℕ) × (put_in n (filter stays_put ds) + m ≡ put_in n ds)
          fewer_put [] = (0, omega arith)
          fewer_put (x ∷ ds) = one (not (same_table x.behind t)) (fewer_put ds)
            where
              one : (q : Bool) → (m : ℕ) × (put_in n (filter stays_put ds) + m ≡ put_in n ds) → (m : ℕ) × (put_in n (cond q (x ∷ filter stays_put ds) (filter stays_put ds)) + m ≡ put_in n (x ∷ ds))
              one true more = let e = more.1 in (more.0, omega (arith, e))
              one false more = let e = more.1 in (once_if (n == x.pair) + more.0, omega (arith, e))

      its : (q : Bool) → (n == d.pair) ≡ q → (q || is_among n (behind t deferred)) ≡ true → Rest → Goal true
      its true same e rest = let here : once_if (n == d.pair) ≡ 1 = ap once_if same in let more = fewer.1 in (fewer.0, omega (arith, here, more))
      its false same e rest = let more = rest e in let same_more = more.1 in (once_if (n == d.pair) + more.0, omega (arith, same_more))

      by : (q : Bool) → same_table d.behind t ≡ q → Rest → Goal (same_table d.behind t)
      by true is rest = subst Goal (sym is) (its (n == d.pair) refl (subst Among is there) rest)
      by false is rest = subst Goal (sym is) (let more = rest (subst Among is there) in let same_more = more.1 in (more.0, omega (arith, same_more)))

  module _ (to : Place) (place : ℕ → Place) (deferred : List Deferral) (counts : Counts is_behind_one place (λ k. put_in k deferred)) where
    abbrev pub after : ℕ → Place
    after = all_at to (behind t deferred) place

    -- what is behind it was at a place for that
    pub was_behind : (k : ℕ) → is_among k (behind t deferred) ≡ true → is_behind_one (place k) ≡ true
    was_behind k there = by (is_behind_one (place k)) refl
      where
        by : (q : Bool) → is_behind_one (place k) ≡ q → is_behind_one (place k) ≡ true
        by true is = is
        by false is = absurd (
            let some = all_gone k deferred there in let e = some.1 in
            let none : put_in k deferred ≡ 0 = counts k ∙ ap once_if is in
            omega (arith, e, none)
            )

    here : (k : ℕ) → is_among k (behind t deferred) ≡ true → after k ≡ to
    here k e = ap (λ (q : Bool). if q then to else place k) e

    elsewhere : (k : ℕ) → is_among k (behind t deferred) ≡ false → after k ≡ place k
    elsewhere k e = ap (λ (q : Bool). if q then to else place k) e

    -- the others are behind tables still
    pub lets_go : is_behind_one to ≡ false → Counts is_behind_one after (λ k. put_in k (filter stays_put deferred))
    lets_go is_not k = by (is_among k (behind t deferred)) refl
      where
        by : (q : Bool) → is_among k (behind t deferred) ≡ q → put_in k (filter stays_put deferred) ≡ once_if (is_behind_one (after k))
        by true e =
            let some = all_gone k deferred e in let its = some.1 in
            let one : put_in k deferred ≡ 1 = counts k ∙ ap once_if (was_behind k e) in
            let none : once_if (is_behind_one (after k)) ≡ 0 = ap once_if (ap is_behind_one (here k e) ∙ is_not) in
            omega (arith, its, one, none)
        by false e = let_go k deferred e ∙ (counts k ∙ sym (ap (λ (p : Place). once_if (is_behind_one p)) (elsewhere k e)))

    -- and of no other kind of place is there one more, or less
    pub others_stay : (test : Place → Bool) → test to ≡ false → test Behind ≡ false → ((p : Place) → is_behind_one p ≡ true → p ≡ Behind) → (count : ℕ → ℕ) → Counts test place count
        → Counts test after count
    others_stay test is_not not_it is_it count counted k = by (is_among k (behind t deferred)) refl
      where
        by : (q : Bool) → is_among k (behind t deferred) ≡ q → count k ≡ once_if (test (after k))
        by true e = counted k ∙ (ap once_if (ap test (is_it (place k) (was_behind k e)) ∙ not_it) ∙ sym (ap once_if (ap test (here k e) ∙ is_not)))
        by false e = counted k ∙ sym (ap (λ (p : Place). once_if (test p)) (elsewhere k e))

    -- none of them comes to be unborn
    pub born_stay : (test : Place → Bool) (k : ℕ) → test (after k) ≡ false → test Behind ≡ false → ((p : Place) → is_behind_one p ≡ true → p ≡ Behind) → test (place k) ≡ false
    born_stay test k now not_it is_it = by (is_among k (behind t deferred)) refl
      where
        by : (q : Bool) → is_among k (behind t deferred) ≡ q → test (place k) ≡ false
        by true e = ap test (is_it (place k) (was_behind k e)) ∙ not_it
        by false e = sym (ap test (elsewhere k e)) ∙ now
