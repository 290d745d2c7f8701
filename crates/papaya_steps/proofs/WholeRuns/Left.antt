-- The pairs that are in the memory still are those that are not reclaimed, each once, as they were stored.
use Rattle.std.specs.Prelude.{◌≡◌, ◌≢◌, ◌<◌, ◌≤◌, ◌+◌, ◌==◌, ◌||◌, ℕ, zero, suc, Bool, true, false, Option, Some, ◌⊎◌, if◌then◌else◌}
use Rattle.std.specs.List.{AllByRecursion}
use Rattle.std.proofs.Common.{refl, sym, ap, subst, ◌∙◌, arith, eqb-true, inl, inr}
use Rattle.std.proofs.lemmas.Bool.{cases_eq, cases_lt, eq-eqb}
use Rattle.map_tables.specs.declared.node.Node.{Node}
use Rattle.map_tables.specs.declared.node.Node.TheVariants as node
use Rattle.run_schedules.specs.declared.ended.Pair.{Pair}
use Rattle.run_schedules.specs.Runs.LifeCycle.{times}
use Rattle.run_schedules.specs.Runs.Log.{pair_at}
use Rattle.run_schedules.specs.Runs.Pairs.{numbers}
use Rattle.run_schedules.specs.Runs.Runs.{IsStored}
use Rattle.run_schedules.proofs.Runs.Pairs.Held.{numbers-append, times-append}
use Rattle.run_schedules.specs.Schedules.Moment.{Place, Moment}
use Rattle.run_schedules.specs.Schedules.Moment as at
use Rattle.run_schedules.specs.Schedules.Runs.{Lists}
use Rattle.run_schedules.specs.Schedules.Views.{is_in_a_map, is_waiting}
use Rattle.run_effects.specs.Effects.Known.{Known}
use Rattle.run_effects.specs.declared.role.Role.{Role}
use Rattle.run_effects.specs.declared.role.Role.TheVariants as role
use Rattle.play_events.specs.Given.FollowsBlocks.{HasRole, RefinesBlocks}
use Rattle.play_events.specs.Given.SpotsUnreclaimed.{RefinesUnreclaimed, is_unreclaimed}
use Rattle.seize.specs.World.{World}
use Rattle.seize_words.specs.OneMemory.Mem.{value_at}
use Rattle.run_effects.specs.Tallies.Left.{HoldPairs, noted, noted_below}
use Rattle.run_effects.proofs.Tallies.Numbers.{once as bit}
use Rattle.seize_words.proofs.General.{all_append as joined}

-- whether a block is the pair of this number
abbrev is_pair : ℕ → Role → Bool
is_pair n (role.Pair k) = n == k
is_pair n _ = false

pair_is : (n : ℕ) (r : Role) → is_pair n r ≡ true → r ≡ role.Pair n
pair_is n (role.Pair k) is = ap (λ (x : ℕ). role.Pair x) (sym (eqb-true n k is))
pair_is n role.Free is = absurd (cc is)
pair_is n (role.OwnPair caller) is = absurd (cc is)
pair_is n (role.OwnTable turn shape) is = absurd (cc is)
pair_is n (role.Table t len) is = absurd (cc is)
pair_is n (role.Counter map) is = absurd (cc is)

is_pair_of : (n : ℕ) (r : Role) → r ≡ role.Pair n → is_pair n r ≡ true
is_pair_of n r is = ap (is_pair n) is ∙ eq-eqb n n refl

module _ {K V : Type 0} (roles : ℕ → Role) (value : ℕ → Option (Node K V)) (hold : HoldPairs roles value) where
  one_here : (n b : ℕ) (r : Role) → roles b ≡ r → times n (numbers (noted r (value b))) ≡ bit (is_pair n r)
  one_here n b (role.Pair k) is =
      let h = hold b k is in
      ap (λ (o : Option (Node K V)). times n (numbers (noted (role.Pair k) o))) h.2 ∙ by (n == k)
    where
      by : (q : Bool) → (if q then 1 else 0) + 0 ≡ bit q
      by true = refl
      by false = refl
  one_here n b role.Free is = refl
  one_here n b (role.OwnPair caller) is = refl
  one_here n b (role.OwnTable turn shape) is = refl
  one_here n b (role.Table t len) is = refl
  one_here n b (role.Counter map) is = refl

  one_more : (n b : ℕ) → times n (numbers (noted_below roles value (suc b))) ≡ times n (numbers (noted_below roles value b)) + bit (is_pair n (roles b))
  one_more n b =
      ap (times n) (numbers-append (noted_below roles value b) (noted (roles b) (value b))) ∙ times-append n (numbers (noted_below roles value b)) (numbers (noted (roles b) (value b)))
      ∙ ap (λ (x : ℕ). times n (numbers (noted_below roles value b)) + x) (one_here n b (roles b) refl)

  none_of : (n count : ℕ) → ((b : ℕ) → b < count → is_pair n (roles b) ≡ false) → times n (numbers (noted_below roles value count)) ≡ 0
  none_of n zero none = refl
  none_of n (suc b) none =
      let rest = none_of n b (λ c less. none c (omega (arith, less))) in
      let here : bit (is_pair n (roles b)) ≡ 0 = ap bit (none b (omega arith)) in
      let all = one_more n b in omega (arith, rest, here, all)

  one_of : (n count d : ℕ) → d < count → is_pair n (roles d) ≡ true → ((c : ℕ) → is_pair n (roles c) ≡ true → c ≡ d) → times n (numbers (noted_below roles value count)) ≡ 1
  one_of n zero d less is only = absurd (omega (arith, less))
  one_of n (suc b) d less is only = by (cases_eq d b) (λ before. one_of n b d before is only)
    where
      not_here : d ≢ b → (q : Bool) → is_pair n (roles b) ≡ q → bit (is_pair n (roles b)) ≡ 0
      not_here other true e = absurd (other (sym (only b e)))
      not_here other false e = ap bit e

      not_before : d ≡ b → (c : ℕ) → c < b → (q : Bool) → is_pair n (roles c) ≡ q → is_pair n (roles c) ≡ false
      not_before same c before true e = absurd (let one = only c e in omega (arith, one, same, before))
      not_before same c before false e = e

      by : (d ≡ b) ⊎ (d ≢ b) → (d < b → times n (numbers (noted_below roles value b)) ≡ 1) → times n (numbers (noted_below roles value (suc b))) ≡ 1
      by (inl same) again =
          let rest = none_of n b (λ c before. not_before same c before (is_pair n (roles c)) refl) in
          let here : bit (is_pair n (roles b)) ≡ 1 = ap (λ (c : ℕ). bit (is_pair n (roles c))) (sym same) ∙ ap bit is in
          let all = one_more n b in omega (arith, rest, here, all)
      by (inr other) again =
          let rest = again (omega (arith, less, other)) in
          let here = not_here other (is_pair n (roles b)) refl in
          let all = one_more n b in omega (arith, rest, here, all)

  -- what is so of each is so of all
  each_noted : (P : Pair K V → Type 0) → ((b n : ℕ) (k : K) (v : V) → roles b ≡ role.Pair n → value b ≡ Some (node.Pair k v) → P (record { number = n; key = k; value = v }))
      → (count : ℕ) → AllByRecursion P (noted_below roles value count)
  each_noted P each zero = tt
  each_noted P each (suc b) = joined P (noted_below roles value b) (noted (roles b) (value b)) (each_noted P each b) (here (roles b) refl)
    where
      here : (r : Role) → roles b ≡ r → AllByRecursion P (noted r (value b))
      here (role.Pair n) is = let h = hold b n is in subst (λ (o : Option (Node K V)). AllByRecursion P (noted (role.Pair n) o)) (sym h.2) (each b n h.0 h.1 is h.2, tt)
      here role.Free is = tt
      here (role.OwnPair caller) is = tt
      here (role.OwnTable turn shape) is = tt
      here (role.Table t len) is = tt
      here (role.Counter map) is = tt

unreclaimed_is : (place : Place) → is_unreclaimed place ≡ (is_in_a_map place || is_waiting place)
unreclaimed_is at.Unborn = refl
unreclaimed_is (at.InMap map) = refl
unreclaimed_is at.Out = refl
unreclaimed_is at.Handed = refl
unreclaimed_is at.Behind = refl
unreclaimed_is at.Left = refl
unreclaimed_is at.GivenBack = refl

module _ {K V : Type 0} (m : Moment K V) (known : Known) (w : World (Node K V)) (blocks : RefinesBlocks m known w) where
  pub hold_pairs : HoldPairs known.roles (value_at w.memory)
  hold_pairs b n is = let h = subst (HasRole w m.stored b) is (blocks.roles b) in (h.0, h.1, h.3)

  module _ (unreclaimed : RefinesUnreclaimed m known) (count : ℕ) (past : (b : ℕ) → count ≤ b → known.roles b ≡ role.Free) where
    within : (b n : ℕ) → known.roles b ≡ role.Pair n → (b < count) ⊎ (count ≤ b) → b < count
    within b n is (inl less) = less
    within b n is (inr more) = absurd (let free = past b more in cc (free, is))

    times_left : (n : ℕ) (q : Bool) → is_unreclaimed (m.place n) ≡ q → times n (numbers (noted_below known.roles (value_at w.memory) count)) ≡ bit q
    times_left n true is =
        let there = unreclaimed.pairs_there n is in
        one_of known.roles (value_at w.memory) hold_pairs n count there.0 (within there.0 n there.1 (cases_lt there.0 count)) (is_pair_of n (known.roles there.0) there.1)
        (λ c one. blocks.once c there.0 n (pair_is n (known.roles c) one) there.1)
    times_left n false is = none_of known.roles (value_at w.memory) hold_pairs n count (λ b less. never b (is_pair n (known.roles b)) refl)
      where
        never : (b : ℕ) (q : Bool) → is_pair n (known.roles b) ≡ q → is_pair n (known.roles b) ≡ false
        never b true e = absurd (let some = unreclaimed.pairs b n (pair_is n (known.roles b) e) in cc (some, is))
        never b false e = e

    bit_is : (q : Bool) → bit q ≡ (if q then 1 else 0)
    bit_is true = refl
    bit_is false = refl

    pub lists_left : Lists (numbers (noted_below known.roles (value_at w.memory) count)) (λ place. is_in_a_map place || is_waiting place) m
    lists_left n =
        times_left n (is_unreclaimed (m.place n)) refl ∙ bit_is (is_unreclaimed (m.place n)) ∙ ap (λ (q : Bool). if q then 1 else 0) (unreclaimed_is (m.place n))

    pub stored_left : AllByRecursion (IsStored m.stored) (noted_below known.roles (value_at w.memory) count)
    stored_left =
        each_noted known.roles (value_at w.memory) hold_pairs (IsStored m.stored)
        (λ b n k v is value. (let h = subst (HasRole w m.stored b) is (blocks.roles b) in let one = h.2 in let two = h.3 in
        subst (λ (x : K × V). pair_at m.stored n ≡ Some x) (same_pair h.0 h.1 k v (sym two ∙ value)) one)) count
      where
        same_pair : (k1 : K) (v1 : V) (k2 : K) (v2 : V) → ◌≡◌ {A = Option (Node K V)} (Some (node.Pair k1 v1)) (Some (node.Pair k2 v2)) → ◌≡◌ {A = K × V} (k1, v1) (k2, v2)
        same_pair k1 v1 k2 v2 e = let a : k1 ≡ k2 = cc e in let b : v1 ≡ v2 = cc e in λ i. (a i, b i)
