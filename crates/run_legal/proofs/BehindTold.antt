-- Where the blocks behind all roots are noted as the pairs that a moment tells to be left over, those that are left over are behind the roots, in that order.
use Rattle.std.specs.Prelude.{◌≡◌, ◌⊎◌, ◌<◌, ◌==◌, ◌||◌, ℕ, Bool, true, false, List, [], ◌∷◌, ◌++◌, flat_map, map}
use Rattle.std.proofs.Common.{refl, ap, sym, ◌∙◌, inl, inr, arith}
use Rattle.std.proofs.lemmas.Bool.{eq-eqb, eqb-true}
use Rattle.run_grows.specs.Given.SeizeWorld.{times}
use Rattle.run_grows.specs.Given.RunsDeclared.effect.Thing.{Thing}
use Rattle.run_grows.specs.Given.RunsDeclared.effect.Thing.TheVariants.{APair}
use Rattle.run_grows.specs.Given.SchedulesLists.{is_among}
use Rattle.run_grows.specs.Given.SchedulesMoment.{Place, Left, Remains}
use Rattle.run_grows.specs.Given.EffectsDeclared.role.Role.{Role}
use Rattle.run_grows.specs.Given.EffectsDeclared.role.Role.TheVariants as role
use Rattle.run_grows.proofs.Given.FinishesEnds.CountedBlocks.{some_here, some_last, some_of_first}
use Rattle.run_grows.specs.Given.SeizeReclaimsRoots.{all_lists}
use Rattle.run_grows.specs.Given.ModelsNumbers.{things_of}
use Rattle.run_grows.specs.Given.FindsOrderly.{is_left_over}
use Rattle.run_legal.specs.AllEvents.{BehindRootsIsNoted}
use Rattle.run_grows.proofs.Given.General.{map_append as each_two}

-- blocks that are noted as these pairs
module _ (roles : ℕ → Role) where
  abbrev AreNoted : List ℕ → List ℕ → Type 0
  AreNoted bs ns = map roles bs ≡ map role.Pair ns

  found_noted : (n : ℕ) (bs ns : List ℕ) → AreNoted bs ns → is_among n ns ≡ true → (b : ℕ) × (roles b ≡ role.Pair n) × (0 < times b bs)
  found_noted n bs [] noted among = absurd (cc among)
  found_noted n [] (k ∷ ns) noted among = absurd (cc noted)
  found_noted n (b ∷ bs) (k ∷ ns) noted among = by (n == k) refl among (found_noted n bs ns (let others : AreNoted bs ns = cc noted in others))
    where
      first : roles b ≡ role.Pair k
      first = cc noted

      by : (q : Bool) → (n == k) ≡ q → (q || is_among n ns) ≡ true → (is_among n ns ≡ true → (x : ℕ) × (roles x ≡ role.Pair n) × (0 < times x bs))
          → (x : ℕ) × (roles x ≡ role.Pair n) × (0 < times x (b ∷ bs))
      by true e is ih = (b, first ∙ ap role.Pair (sym (eqb-true n k e)), some_here b bs)
      by false e is ih = (let it = ih is in (it.0, it.1, some_last it.0 (b ∷ []) bs it.2))

  things_noted : (bs ns : List ℕ) → AreNoted bs ns → flat_map (λ (b : ℕ). things_of (roles b)) bs ≡ map APair ns
  things_noted [] [] noted = refl
  things_noted (b ∷ bs) [] noted = absurd (cc noted)
  things_noted [] (n ∷ ns) noted = absurd (cc noted)
  things_noted (b ∷ bs) (n ∷ ns) noted =
      let first : roles b ≡ role.Pair n = cc noted in
      let others : AreNoted bs ns = cc noted in
      ap (λ (r : Role). things_of r ++ flat_map (λ (x : ℕ). things_of (roles x)) bs) first ∙ ap (λ (l : List Thing). APair n ∷ l) (things_noted bs ns others)

  among_noted : (b n : ℕ) (bs ns : List ℕ) → AreNoted bs ns → 0 < times b bs → roles b ≡ role.Pair n → is_among n ns ≡ true
  among_noted b n [] ns noted some is = absurd (omega (arith, some))
  among_noted b n (x ∷ bs) [] noted some is = absurd (cc noted)
  among_noted b n (x ∷ bs) (k ∷ ns) noted some is =
      by (some_of_first b x bs some) (λ more. among_noted b n bs ns (let others : AreNoted bs ns = cc noted in others) more is)
    where
      first : roles x ≡ role.Pair k
      first = cc noted

      later : (q : Bool) → is_among n ns ≡ true → (q || is_among n ns) ≡ true
      later true e = refl
      later false e = e

      by : (b ≡ x) ⊎ (0 < times b bs) → (0 < times b bs → is_among n ns ≡ true) → is_among n (k ∷ ns) ≡ true
      by (inl e) ih =
          let both : role.Pair n ≡ role.Pair k = sym is ∙ ap roles e ∙ first in
          let one : n ≡ k = cc both in ap (λ (q : Bool). q || is_among n ns) (eq-eqb n k one)
      by (inr more) ih = later (n == k) (ih more)

all_things : (rs : List Remains) → map APair (flat_map (λ r. r.pairs) rs) ≡ flat_map (λ r. map APair r.pairs) rs
all_things [] = refl
all_things (r ∷ rs) = each_two APair r.pairs (flat_map (λ x. x.pairs) rs) ∙ ap (λ (l : List Thing). map APair r.pairs ++ l) (all_things rs)

left_place : (p : Place) → is_left_over p ≡ true → p ≡ Left
left_place Left e = refl
left_place _ e = absurd (cc e)

pub behind_is_told : (K V : Type 0) → BehindRootsIsNoted K V
behind_is_told K V roots m known lists noted told = (
  λ n left. found_noted known.roles n (all_lists lists roots) (flat_map (λ r. r.pairs) m.remains) noted (sym (told n) ∙ left),
  things_noted known.roles (all_lists lists roots) (flat_map (λ r. r.pairs) m.remains) noted ∙ all_things m.remains,
  λ b n some is. left_place (m.place n) (told n ∙ among_noted known.roles b n (all_lists lists roots) (flat_map (λ r. r.pairs) m.remains) noted some is),
)
