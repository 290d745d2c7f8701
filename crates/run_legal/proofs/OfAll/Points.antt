-- Where reclaiming all stands: once it is on roots it stays there, where nothing is retired; it takes the first block behind them; and where it is over nothing is behind them.
use Rattle.std.specs.Prelude.{◌≡◌, ◌⊎◌, ◌<◌, ◌+◌, ◌-◌, ◌==◌, ℕ, zero, suc, nat_lt, Bool, true, false, List, [], ◌∷◌, ◌++◌, Option, Some, if◌then◌else◌}
use Rattle.std.proofs.Common.{refl, ap, sym, subst, ◌∙◌, arith, inl, inr}
use Rattle.std.proofs.lemmas.Bool.{cases_eq, cases_lt}
use Rattle.run_grows.specs.Given.SeizeWordsMem.{Mem, value_at, word_at}
use Rattle.run_grows.specs.Given.SeizeWordsOp.{Out, Found, Taken}
use Rattle.run_grows.specs.Given.SeizeWordsPlan.{Now, Seeing, Ends}
use Rattle.run_grows.specs.Given.SeizeWordsWord.{block_in}
use Rattle.run_grows.specs.Given.SeizeWordsDeclared.at.At.TheVariants.{Used}
use Rattle.run_grows.specs.Given.SeizeReclaimAll as all
use Rattle.run_grows.specs.Given.SeizeWorld.{World, with_at}
use Rattle.run_grows.specs.Given.SeizeDeclared.rows.reclaim_all.ReclaimAll.{ReclaimAll}
use Rattle.run_grows.specs.Given.SeizeDeclared.rows.reclaim_all.Reclaiming.{Reclaiming}
use Rattle.run_grows.specs.Given.SeizeDeclared.rows.reclaim_all.Reclaiming.TheVariants as at
use Rattle.run_grows.specs.Given.SeizeDeclared.rows.settle.Settled.{Settled}
use Rattle.run_grows.specs.Given.SeizeDeclared.rows.settle.Settled.TheVariants as settled
use Rattle.run_grows.specs.Given.SeizeSetsReclaims.{is_on_slots}
use Rattle.run_grows.specs.Given.TablesNodes.{deferred_word, was_left}
use Rattle.run_grows.specs.Given.TablesDeclared.node.Node.{Node}
use Rattle.run_grows.specs.Given.TablesDeclared.setting.Setting.{Setting}
use Rattle.run_grows.specs.Given.TellerTells.{StepsObserved}
use Rattle.run_grows.specs.Given.EffectsDeclared.changed.Changed.{Changed}
use Rattle.run_grows.specs.Given.EffectsDeclared.changed.Changed.TheVariants as changed
use Rattle.run_grows.proofs.Given.CallersTogether.At.{at_other, at_same}
use Rattle.run_grows.specs.Given.FinishesMakings.{IsFreeRoot}
use Rattle.run_grows.specs.Given.FinishesMaps.{IsSameMap, Standing}
use Rattle.run_grows.specs.Given.FollowsSteps.{TakesNone}
use Rattle.run_grows.specs.Given.SeizeReclaimsRoots.{all_lists}
use Rattle.run_grows.specs.Given.ReclaimsReclaims.{IsRootOf, LeftBehind, Opened, ReclaimingAt, RootLeads}
use Rattle.run_grows.specs.Given.ReclaimsSlots.{IsQuiescent}
use Rattle.run_grows.proofs.Given.ShardsShardKept.{same_setting}

-- it stands where a block behind a root is taken away
abbrev pub IsAtTakes : Reclaiming → Type 0
IsAtTakes p = (root : ℕ) × (block : ℕ) × (next : ℕ) × (p ≡ at.Takes root block next)

-- By a step.

module _ {K V : Type 0} (m m2 : Mem (Node K V)) (told : Changed) (c : ReclaimAll) (end : ReclaimAll × Settled (Node K V)) where
  abbrev Told : Reclaiming → Type 0
  Told p = StepsObserved K V (ReclaimAll × Settled (Node K V)) m changed.Nothing (all.plan_at deferred_word was_left c p) m2 told end

  abbrev IsOff : ReclaimAll → Type 0
  IsOff d = is_on_slots d.stands ≡ false

  went : (d : ReclaimAll) (t : Settled (Node K V)) → end ≡ (d, t) → IsOff d → IsOff end.0
  went d t is off = subst (λ (x : ReclaimAll × Settled (Node K V)). IsOff x.0) (sym is) off

  next_off : (root : ℕ) → IsOff (all.next_root c root)
  next_off root = by (nat_lt root (c.roots - 1))
    where
      by : (q : Bool) → IsOff (if q then all.standing c (at.Roots (root + 1)) else all.standing c at.Over)
      by true = refl
      by false = refl

  module _ (off : IsOff c) where
    root_off : (root : ℕ) (out : Out (Node K V)) → Ends (value_at m2) (all.root_read was_left c root out) end → IsOff end.0
    root_off root (Found block) e = by (block == 0) e
      where
        seen : (q : Bool) → Ends (value_at m2) (all.left_there c root block q) end → IsOff end.0
        seen true is = went (all.standing c (at.Nexts root block)) settled.Goes is refl
        seen false is = went (all.next_root c root) settled.Goes is (next_off root)

        by : (q : Bool) → Ends (value_at m2) (if q then all.to (all.next_root c root) else Seeing (block_in block) (λ value. all.left_there c root block (was_left value))) end → IsOff end.0
        by true is = went (all.next_root c root) settled.Goes is (next_off root)
        by false (value, there, is) = seen (was_left value) is
    root_off root _ e = went c settled.Goes e off

    next_read_off : (root block : ℕ) (out : Out (Node K V)) → Ends (value_at m2) (all.next_read c root block out) end → IsOff end.0
    next_read_off root block (Found next) e = went (all.standing c (at.Takes root block next)) settled.Goes e refl
    next_read_off root block _ e = went c settled.Goes e off

    given_off : (root next : ℕ) (out : Out (Node K V)) → Ends (value_at m2) (all.given_back c root next out) end → IsOff end.0
    given_off root next (Taken value) e = by (next == 0) e
      where
        by : (q : Bool) → Ends (value_at m2) (if q then Now (all.standing c (at.Empties root), settled.Gave value) else Now (all.standing c (at.Nexts root next), settled.Gave value)) end → IsOff end.0
        by true is = went (all.standing c (at.Empties root)) (settled.Gave value) is refl
        by false is = went (all.standing c (at.Nexts root next)) (settled.Gave value) is refl
    given_off root next _ e = went c settled.Goes e off

    -- once it is on roots it stays there
    pub stays_off : (p : Reclaiming) → is_on_slots p ≡ false → Told p → IsOff end.0
    stays_off (at.Roots root) on s = root_off root s.0 s.2
    stays_off (at.Nexts root block) on s = next_read_off root block s.0 s.2
    stays_off (at.Takes root block next) on s = given_off root next s.0 s.2
    stays_off (at.Empties root) on s = went (all.standing c (at.Unuses root)) settled.Goes s.2 refl
    stays_off (at.Unuses root) on s = went (all.next_root c root) settled.Goes s.2 (next_off root)
    stays_off at.Over on s = went c settled.Done s.1 off
    stays_off (at.Heads slot) on s = absurd (cc on)
    stays_off (at.Retakes slot) on s = absurd (cc on)
    stays_off (at.Leaves slot it) on s = absurd (cc on)
    stays_off (at.Batches slot) on s = absurd (cc on)
    stays_off (at.Flushes slot it) on s = absurd (cc on)
    stays_off (at.Frees slot) on s = absurd (cc on)

  quiet_took : (b : ℕ) → told ≡ changed.Took b → TakesNone told → ⊥
  quiet_took b took none = subst TakesNone took none

  -- a block that it takes away there is behind a root
  pub takes_there : (p : Reclaiming) → is_on_slots p ≡ false → Told p → (b : ℕ) → told ≡ changed.Took b → IsAtTakes p
  takes_there (at.Takes root block next) on s b took = (root, block, next, refl)
  takes_there (at.Roots root) on s b took = absurd (quiet_took b took (subst TakesNone (sym s.1.1) tt))
  takes_there (at.Nexts root block) on s b took = absurd (quiet_took b took (subst TakesNone (sym s.1.1) tt))
  takes_there (at.Empties root) on s b took = absurd (quiet_took b took (subst TakesNone (sym s.1.1) tt))
  takes_there (at.Unuses root) on s b took = absurd (quiet_took b took (subst TakesNone (sym s.1.1) tt))
  takes_there at.Over on s b took = absurd (quiet_took b took (subst TakesNone (sym s.2) tt))
  takes_there (at.Heads slot) on s b took = absurd (cc on)
  takes_there (at.Retakes slot) on s b took = absurd (cc on)
  takes_there (at.Leaves slot it) on s b took = absurd (cc on)
  takes_there (at.Batches slot) on s b took = absurd (cc on)
  takes_there (at.Flushes slot it) on s b took = absurd (cc on)
  takes_there (at.Frees slot) on s b took = absurd (cc on)

-- At a point.

module _ {K V : Type 0} (batch_size roots i : ℕ) (c : ReclaimAll) (w : World (Node K V)) (maps : ℕ → Option (Standing K)) (lists : ℕ → List ℕ) where
  abbrev At : Reclaiming → Type 0
  At p = ReclaimingAt batch_size roots i c w maps lists p

  pub quiet_there : (p : Reclaiming) → is_on_slots p ≡ false → At p → IsQuiescent w
  quiet_there (at.Roots root) off point = point.0
  quiet_there (at.Nexts root block) off point = point.0
  quiet_there (at.Takes root block next) off point = point.0
  quiet_there (at.Empties root) off point = point.0
  quiet_there (at.Unuses root) off point = point.0
  quiet_there at.Over off point = point.0
  quiet_there (at.Heads slot) off point = absurd (cc off)
  quiet_there (at.Retakes slot) off point = absurd (cc off)
  quiet_there (at.Leaves slot it) off point = absurd (cc off)
  quiet_there (at.Batches slot) off point = absurd (cc off)
  quiet_there (at.Flushes slot it) off point = absurd (cc off)
  quiet_there (at.Frees slot) off point = absurd (cc off)

  -- the first root with something behind it is that at which a block is taken away
  pub root_there : (p : Reclaiming) → IsAtTakes p → At p → (root b : ℕ) (rest : List ℕ) → ((r : ℕ) → r < root → lists r ≡ []) → lists root ≡ b ∷ rest → root < roots
  root_there p (root0, block, next, is) point root b rest first here = by (subst At is point)
    where
      by : At (at.Takes root0 block next) → root < roots
      by (quiet, opened, (b0, rest0, is0, named, there, from)) = elim (cases_lt root0 root) as (λ _. root < roots) [
        | inl l ↦ absurd (let none = first root0 l in cc (none, is0))
        | inr l ↦ (let below = opened.below in omega (arith, below, l))
      ]

  left_there : (p : Reclaiming) → At p → LeftBehind roots w maps lists ⊎ ((root : ℕ) × Opened roots w maps lists root)
  left_there (at.Roots root) point = inl point.1
  left_there (at.Nexts root block) point = inr (root, point.1)
  left_there (at.Takes root block next) point = inr (root, point.1)
  left_there (at.Empties root) point = inr (root, point.1)
  left_there (at.Unuses root) point = inr (root, point.1)
  left_there at.Over point = inl point.1
  left_there (at.Heads slot) point = inl point.1
  left_there (at.Retakes slot) point = inl point.1
  left_there (at.Leaves slot it) point = inl point.1
  left_there (at.Batches slot) point = inl point.1
  left_there (at.Flushes slot it) point = inl point.1
  left_there (at.Frees slot) point = inl point.1

  -- where each root is that of a map that stands as it stood, or is free, nothing is behind any
  module _ (maps2 : ℕ → Option (Standing K)) (as_they_were : (n : ℕ) → IsSameMap (maps n) (maps2 n)) (free : (r : ℕ) → r < roots → IsRootOf maps2 r ⊎ IsFreeRoot w r) where
    was_root : (r : ℕ) → IsRootOf maps2 r → IsRootOf maps r
    was_root r (n, st, is, root) = let was = same_setting (maps n) (maps2 n) (as_they_were n) st is in (n, was.0, was.1, sym (ap (λ (x : Setting). x.root) was.2) ∙ root)

    unused : (r : ℕ) → word_at w.memory (Used r) ≡ Some 1 → IsFreeRoot w r → ⊥
    unused r used none = (let zero_there = none.0 in cc (used, zero_there))

    none_leads : (r : ℕ) (blocks : List ℕ) → RootLeads w r blocks → IsFreeRoot w r → blocks ≡ []
    none_leads r [] leads none = refl
    none_leads r (b ∷ blocks) leads none = absurd (unused r leads.2 none)

    pub nothing_behind : (p : Reclaiming) → At p → (r : ℕ) → r < roots → lists r ≡ []
    nothing_behind p point r l = by (left_there p point)
      where
        by : LeftBehind roots w maps lists ⊎ ((root : ℕ) × Opened roots w maps lists root) → lists r ≡ []
        by (inr (root, opened)) = elim (free root opened.below) as (λ _. lists r ≡ []) [
          | inl its ↦ absurd (opened.apart (was_root root its))
          | inr none ↦ absurd (unused root opened.used none)
        ]
        by (inl left) = elim (free r l) as (λ _. lists r ≡ []) [
          | inl its ↦ left.none r l (was_root r its)
          | inr none ↦ elim (left.others r l (λ e. omega (arith, l, e))) as (λ _. lists r ≡ []) [
            | inl its ↦ left.none r l its
            | inr leads ↦ none_leads r (lists r) leads none
          ]
        ]

-- Lists behind roots, one after another.

pub none_listed : (lists : ℕ → List ℕ) (n : ℕ) → ((r : ℕ) → r < n → lists r ≡ []) → all_lists lists n ≡ []
none_listed lists zero none = refl
none_listed lists (suc n) none = ap (λ (xs : List ℕ). xs ++ lists n) (none_listed lists n (λ r l. none r (omega (arith, l)))) ∙ none n (omega arith)

module _ (lists : ℕ → List ℕ) (root b : ℕ) (rest : List ℕ) (first : (r : ℕ) → r < root → lists r ≡ []) (here : lists root ≡ b ∷ rest) where
  abbrev lists2 : ℕ → List ℕ
  lists2 = with_at lists root rest

  elsewhere : (r : ℕ) → r < root → lists2 r ≡ []
  elsewhere r l = at_other lists root rest r (λ e. omega (arith, l, e)) ∙ first r l

  -- the first of them is taken away
  one_more : (n : ℕ) → root < suc n → (root < n → all_lists lists n ≡ b ∷ all_lists lists2 n) → all_lists lists (suc n) ≡ b ∷ all_lists lists2 (suc n)
  one_more n l before = elim (cases_eq n root) as (λ _. all_lists lists (suc n) ≡ b ∷ all_lists lists2 (suc n)) [
    | inl e ↦
        ap (λ (xs : List ℕ). xs ++ lists n) (none_listed lists n (λ r k. first r (omega (arith, k, e)))) ∙ (ap lists e ∙ here)
        ∙ sym (ap (λ (xs : List ℕ). b ∷ (xs ++ lists2 n)) (none_listed lists2 n (λ r k. elsewhere r (omega (arith, k, e)))) ∙ ap (λ (xs : List ℕ). b ∷ xs) (at_same lists root rest n e))
    | inr ne ↦
        ap (λ (xs : List ℕ). xs ++ lists n) (before (omega (arith, l, ne))) ∙ ap (λ (xs : List ℕ). b ∷ (all_lists lists2 n ++ xs)) (sym (at_other lists root rest n ne))
  ]

  pub first_taken : (n : ℕ) → root < n → all_lists lists n ≡ b ∷ all_lists lists2 n
  first_taken zero l = absurd (omega (arith, l))
  first_taken (suc n) l = one_more n l (λ k. first_taken n k)
