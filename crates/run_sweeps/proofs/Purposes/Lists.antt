-- Lists of pairs, by what is so of each; and the last replies about them.
use Rattle.std.specs.Prelude.{◌≡◌, ◌≢◌, ℕ, ◌+◌, ◌<◌, ◌==◌, ◌&&◌, ◌||◌, Bool, true, false, cond, List, [], ◌∷◌, map, Option, Some, if◌then◌else◌}
use Rattle.std.specs.List.{AllByRecursion, list_all}
use Rattle.std.proofs.Common.{refl, ap, sym, subst, ◌∙◌, arith, inl, inr}
use Rattle.std.proofs.lemmas.Bool.{cases_eq, ne_eqb, eq-eqb}
use Rattle.run_finds.specs.Given.RunsDeclared.call.Reply.{Reply}
use Rattle.run_finds.specs.Given.RunsDeclared.call.Reply.TheVariants.{Decides}
use Rattle.run_finds.specs.Given.SchedulesLists.{OneOf, is_among}
use Rattle.run_finds.specs.Given.SchedulesSweeps.{is_yes}
use Rattle.run_finds.specs.Given.SchedulesViews.{reply_to}
use Rattle.run_finds.specs.Given.LateCovers.{times}
use Rattle.run_finds.proofs.Given.General.{both_true as parts, equal_itself as is_self, cons_same as cons_alike}

module _ {X : Type 0} (P Q : X → Type 0) where
  pub all_on : ((n : X) → P n → Q n) → (xs : List X) → AllByRecursion P xs → AllByRecursion Q xs
  all_on on [] all = tt
  all_on on (x ∷ xs) all = (on x all.0, all_on on xs all.1)

  pub all_both : (xs : List X) → AllByRecursion P xs → AllByRecursion Q xs → AllByRecursion (λ n. P n × Q n) xs
  all_both [] all both = tt
  all_both (x ∷ xs) all both = ((all.0, both.0), all_both xs all.1 both.1)

  -- what is so of one of them, beside what is so of all
  pub one_with : (xs : List X) → AllByRecursion Q xs → OneOf P xs → (x : X) × P x × Q x
  one_with [] all one = absurd one
  one_with (x ∷ xs) all (inl here) = (x, here, all.0)
  one_with (x ∷ xs) all (inr there) = one_with xs all.1 there

module _ (P : ℕ → Type 0) where
  among_step : (p x : ℕ) (xs : List ℕ) → P x → 0 < times p (x ∷ xs) → (0 < times p xs → P p) → P p
  among_step p x xs here l rest = elim (cases_eq p x) as (λ _. P p) [
    | inl e ↦ subst P (sym e) here
    | inr ne ↦ rest (let b = subst (λ q. 0 < cond q 1 0 + times p xs) (ne_eqb p x ne) l in omega (arith, b))
  ]

  -- what is so of each is so of one that is among them
  pub all_among : (p : ℕ) (xs : List ℕ) → AllByRecursion P xs → 0 < times p xs → P p
  all_among p [] all l = absurd (omega (arith, l))
  all_among p (x ∷ xs) all l = among_step p x xs all.0 l (λ r. all_among p xs all.1 r)

-- what is so of each that is among them is so of all
pub each_among : (P : ℕ → Type 0) (xs : List ℕ) → ((p : ℕ) → 0 < times p xs → P p) → AllByRecursion P xs
each_among P [] so = tt
each_among P (x ∷ xs) so = (
  so x (let one = ap (λ q. cond q 1 0 + times x xs) (eq-eqb x x refl) in omega (arith, one)),
  each_among P xs (λ p l. so p (more p l)),
)
  where
    more : (p : ℕ) → 0 < times p xs → 0 < times p (x ∷ xs)
    more p l = omega (arith, l)

-- what has the same numbers is the same list of numbers
pub maps_alike : (f g : ℕ → ℕ) (xs : List ℕ) → AllByRecursion (λ n. f n ≡ g n) xs → map f xs ≡ map g xs
maps_alike f g [] all = refl
maps_alike f g (x ∷ xs) all = cons_alike (f x) (g x) (map f xs) (map g xs) all.0 (maps_alike f g xs all.1)

is_other : (a b : ℕ) → a ≢ b → (a == b) ≡ false
is_other a b ne = grind (arith, ne)

none_step : (number : ℕ → ℕ) (p x : ℕ) (xs : List ℕ) → (number x ≡ number p → x ≡ p) → times p (x ∷ xs) ≡ 0 → (times p xs ≡ 0 → is_among (number p) (map number xs) ≡ false)
    → is_among (number p) (map number (x ∷ xs)) ≡ false
none_step number p x xs apart none rest = elim (cases_eq (number p) (number x)) as (λ _. is_among (number p) (map number (x ∷ xs)) ≡ false) [
  | inl e ↦ absurd (let one = subst (λ q. cond q 1 0 + times p xs ≡ 0) (eq-eqb p x (sym (apart (sym e)))) none in omega (arith, one))
  | inr ne ↦
      ap (λ q. q || is_among (number p) (map number xs)) (is_other (number p) (number x) ne)
      ∙ rest (omega (arith, none))
]

-- a pair that is not among them has a number that is not among theirs
pub none_among : (number : ℕ → ℕ) (p : ℕ) (xs : List ℕ) → AllByRecursion (λ x. number x ≡ number p → x ≡ p) xs → times p xs ≡ 0 → is_among (number p) (map number xs) ≡ false
none_among number p [] apart none = refl
none_among number p (x ∷ xs) apart none = none_step number p x xs apart.0 none (λ r. none_among number p xs apart.1 r)

-- each passes
pub all_pass : (test : ℕ → Bool) → ((n : ℕ) → test n ≡ true) → (xs : List ℕ) → list_all test xs ≡ true
all_pass test passes [] = refl
all_pass test passes (x ∷ xs) = both_pass (test x) (list_all test xs) (passes x) (all_pass test passes xs)
  where
    both_pass : (a b : Bool) → a ≡ true → b ≡ true → (a && b) ≡ true
    both_pass true b e f = f
    both_pass false b e f = e

module _ {X : Type 0} (test : X → Bool) (P : X → Type 0) where
  -- one of them has it, and passes, as all do
  pub one_passes : (xs : List X) → list_all test xs ≡ true → OneOf P xs → (x : X) × P x × (test x ≡ true)
  one_passes [] all one = absurd one
  one_passes (x ∷ xs) all (inl here) = (x, here, (parts (test x) (list_all test xs) all).0)
  one_passes (x ∷ xs) all (inr there) = one_passes xs (parts (test x) (list_all test xs) all).1 there

-- the last reply about a pair, once there is one about a pair
module _ {V : Type 0} (n k : ℕ) (replies : List (Option ℕ × Reply V)) where
  pub yes_now : n ≡ k → is_yes (reply_to (Some n) ((Some k, Decides true) ∷ replies)) ≡ true
  yes_now e = ap (λ q. is_yes (if q then Some (Decides true) else reply_to (Some n) replies)) (subst (λ (x : ℕ). (n == x) ≡ true) e (is_self n))

  pub yes_still : (reply : Reply V) → n ≢ k → is_yes (reply_to (Some n) replies) ≡ true → is_yes (reply_to (Some n) ((Some k, reply) ∷ replies)) ≡ true
  yes_still reply ne said_yes = ap (λ q. is_yes (if q then Some reply else reply_to (Some n) replies)) (is_other n k ne) ∙ said_yes
