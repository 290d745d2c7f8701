-- Each pair of a run stands once among those that it gave back and those that it has kept.
use Rattle.std.specs.Prelude.{◌≡◌, ℕ, zero, suc, ◌+◌, ◌≤◌, ◌==◌, ◌&&◌, ◌||◌, nat_le, Bool, true, false, cond, List, [], ◌∷◌, ◌++◌, find, length, map, Option, Some, None, option_map, slice_get, if◌then◌else◌}
use Rattle.std.proofs.Common.{refl, ap, sym, subst, ◌∙◌, arith}
use Rattle.std.proofs.lemmas.Bool.{eq-eqb, le-leb, leb-false, leb-true}
use Rattle.std.proofs.lemmas.List.{map-append}
use Rattle.run_finds.specs.Given.RunsDeclared.ended.Pair.{Pair}
use Rattle.run_finds.specs.Given.RunsLifeCycle.{times}
use Rattle.run_finds.specs.Given.RunsLog.{pair_at}
use Rattle.run_finds.specs.Given.RunsPairs.{numbers}
use Rattle.run_finds.specs.Given.RunsDeclared.event.Event.{Event}
use Rattle.run_finds.specs.Given.RunsDeclared.record.Run.{Run}
use Rattle.run_finds.specs.Given.SchedulesAfter.{moment}
use Rattle.run_finds.specs.Given.SchedulesMoment.{Place, Unborn, InMap, Out, Handed, Behind, Left, GivenBack, Moment}
use Rattle.run_finds.specs.Given.SchedulesRuns.{IsRunOf, log_of, pair_of}
use Rattle.run_finds.specs.Given.SchedulesTerms.{Terms}
use Rattle.run_finds.specs.Given.SchedulesViews.{is_in_a_map, is_waiting}
use Rattle.run_finds.specs.Waiting.{is_back, is_unborn, once_if}
use Rattle.run_finds.specs.Within.{AllIsInOrder}
use Rattle.run_sweeps.specs.Sizes.Once.{RunsHaveEachOnce}
use Rattle.run_sweeps.proofs.Sizes.Sizes.{all_so_far}
use Rattle.run_finds.proofs.Given.General.{equal_so as number_is}
use Rattle.run_finds.proofs.Lists.{times_both}

-- lists

-- where a pair was stored it is given back, in a map, or waits
somewhere : (p : Place) → is_unborn p ≡ false → once_if (is_back p) + once_if (is_in_a_map p || is_waiting p) ≡ 1
somewhere (InMap map) e = refl
somewhere Out e = refl
somewhere Handed e = refl
somewhere Behind e = refl
somewhere Left e = refl
somewhere GivenBack e = refl
somewhere Unborn e = absurd (cc e)

module _ {K V : Type 0} where
  -- a number of which no pair is found stands nowhere
  none_of : (n : ℕ) (pairs : List (Pair K V)) → find (λ p. p.number == n) pairs ≡ None → times n (numbers pairs) ≡ 0
  none_of n [] none = refl
  none_of n (p ∷ pairs) none = by (p.number == n) refl (none_of n pairs)
    where
      by : (q : Bool) → (p.number == n) ≡ q → (find (λ x. x.number == n) pairs ≡ None → times n (numbers pairs) ≡ 0) → once_if (n == p.number) + times n (numbers pairs) ≡ 0
      by true e rest = absurd (let found : find (λ x. x.number == n) (p ∷ pairs) ≡ Some p = ap (λ (q : Bool). cond q (Some p) (find (λ x. x.number == n) pairs)) e in let two : None ≡ Some p = sym none ∙ found in cc two)
      by false e rest =
          let later : find (λ x. x.number == n) pairs ≡ None = sym (ap (λ (q : Bool). cond q (Some p) (find (λ x. x.number == n) pairs)) e) ∙ none in
          let other : once_if (n == p.number) ≡ 0 = ap once_if (apart (n == p.number) refl) in
          let others = rest later in
          omega (arith, other, others)
        where
          apart : (q : Bool) → (n == p.number) ≡ q → (n == p.number) ≡ false
          apart false is = is
          apart true is = absurd (let same : (p.number == n) ≡ true = eq-eqb p.number n (sym (number_is n p.number is)) in cc (sym e ∙ same))

  no_pair : {X : Type 0} (f : Pair K V → X) (o : Option (Pair K V)) → option_map f o ≡ None → o ≡ None
  no_pair f None e = refl
  no_pair f (Some p) e = absurd (cc e)

  -- a number past the last one is that of none
  past_last : (xs : List (K × V)) (n : ℕ) → length xs ≤ n → slice_get xs n ≡ None
  past_last [] n l = refl
  past_last (x ∷ xs) zero l = absurd (omega (arith, l))
  past_last (x ∷ xs) (suc n) l = past_last xs n (omega (arith, l))

  module _ (eq : K → K → Bool) (terms : Terms) (schedule : List (Event K V)) (run : Run K V) (is : IsRunOf eq terms schedule run) where
    abbrev m : Moment K V
    m = moment (log_of schedule run)

    order : AllIsInOrder m
    order = (all_so_far eq terms (log_of schedule run) is.legal).order

    abbrev Once : (low high : Bool) (n : ℕ) → Type 0
    Once low high n = times n (numbers (run.given_back ++ run.kept)) ≡ (if low && high then 1 else 0)

    inside : (n : ℕ) → 1 ≤ n → n ≤ length m.stored → Once true true n
    inside n low high =
        let both : times n (numbers (run.given_back ++ run.kept)) ≡ times n (numbers run.given_back) + times n (numbers run.kept) =
        ap (times n) (map-append (λ p. p.number) run.given_back run.kept) ∙ times_both n (numbers run.given_back) (numbers run.kept) in
        let back : times n (numbers run.given_back) ≡ once_if (is_back (m.place n)) = ap (times n) is.tells.given_back ∙ order.waits.placed.back n in
        let kept : times n (numbers run.kept) ≡ once_if (is_in_a_map (m.place n) || is_waiting (m.place n)) = is.tells.kept n in
        let one = somewhere (m.place n) (order.somewhere.born n low high) in
        omega (arith, both, back, kept, one)

    outside : (n : ℕ) → pair_at m.stored n ≡ None → times n (numbers (run.given_back ++ run.kept)) ≡ 0
    outside n none = none_of n (run.given_back ++ run.kept) (no_pair (λ p. (p.key, p.value)) (pair_of run n) (is.tells.pairs n ∙ none))

    pub has_each_once : (n : ℕ) → Once (nat_le 1 n) (nat_le n run.stored) n
    has_each_once zero = outside zero refl
    has_each_once (suc n) = subst (λ (low : Bool). Once low (nat_le (suc n) run.stored) (suc n)) (sym (le-leb 1 (suc n) (omega arith))) (by (nat_le (suc n) run.stored) refl)
      where
        stored : run.stored ≡ length m.stored
        stored = is.tells.stored

        by : (q : Bool) → nat_le (suc n) run.stored ≡ q → Once true q (suc n)
        by true e = inside (suc n) (omega arith) (let l = leb-true (suc n) run.stored e in omega (arith, l, stored))
        by false e = outside (suc n) (past_last m.stored n (let l = leb-false (suc n) run.stored e in omega (arith, l, stored)))

pub runs_have_each_once : (K V : Type 0) → RunsHaveEachOnce K V
runs_have_each_once K V eq terms schedule run is n = has_each_once eq terms schedule run is n
