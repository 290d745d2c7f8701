-- What is retired at a moment of a run is in as many blocks, each of which is retired in the memory: so it is bounded as these are.
use Rattle.std.specs.Prelude.{◌≡◌, ℕ, zero, suc, ◌+◌, ◌-◌, ◌*◌, ◌<◌, ◌≤◌, ◌==◌, ◌⊎◌, max, Bool, true, false, cond, ◌||◌, List, [], ◌∷◌, length, filter}
use Rattle.std.specs.List.{AllByRecursion, list_any}
use Rattle.std.proofs.Common.{refl, ap, sym, subst, ◌∙◌, arith, inl, inr}
use Rattle.std.proofs.lemmas.Bool.{cases_eq, eq-eqb, ne_eqb}
use Rattle.run_executor.specs.Given.SeizeLaw.{is_retired as is_retired_in}
use Rattle.run_executor.specs.Given.SeizeWorld.{World, times}
use Rattle.run_executor.proofs.Given.SeizeRuleWorld.Bounded.{garbage_bounded}
use Rattle.run_blocks.specs.Given.TablesNodes.{deferred_word}
use Rattle.run_blocks.specs.Given.TablesDeclared.node.Node.{Node}
use Rattle.run_executor.specs.Given.RunsDeclared.effect.TableId.{TableId}
use Rattle.run_executor.specs.Given.SchedulesMoment.{TableThere, Moment}
use Rattle.run_executor.specs.Given.SchedulesReclaims.{is_handed, waiting_things}
use Rattle.run_executor.specs.Given.SchedulesThings.{same_table}
use Rattle.run_executor.specs.Given.SchedulesViews.{is_retired, places_below}
use Rattle.run_executor.proofs.Given.SpotsUnreclaimed.{same_itself}
use Rattle.run_executor.specs.Given.EffectsKnown.{Known}
use Rattle.run_executor.specs.Given.EffectsDeclared.role.Role.TheVariants as role
use Rattle.run_finds.specs.Waiting.{once_if}
use Rattle.run_finds.specs.Bounded.{TablesApart, HasRetiredTable, RefinesRetired, LittleWaits}

-- so many blocks, none of them twice, of each of which this is so
record Blocks (Q : ℕ → Type 0) (many : ℕ) : Type 0 where
  pub blocks : List ℕ
  pub counted : length blocks ≡ many
  pub once : (b : ℕ) → times b blocks ≤ 1
  pub each : (b : ℕ) → 0 < times b blocks → Q b

-- none
no_blocks : (Q : ℕ → Type 0) → Blocks Q 0
no_blocks Q = record { blocks = []; counted = refl; once = λ b. omega arith; each = λ b some. absurd (omega (arith, some)) }

module _ (Q R : ℕ → Type 0) (so : (b : ℕ) → Q b → R b) (many : ℕ) (before : Blocks Q many) where
  -- the same ones, of which more is so
  as_many : (more : ℕ) → more ≡ many → Blocks R more
  as_many more e = record { blocks = before.blocks; counted = before.counted ∙ sym e; once = before.once; each = λ b some. so b (before.each b some) }

  -- and one more, of which the first is not so
  one_more : (b : ℕ) → (Q b → ⊥) → R b → (more : ℕ) → more ≡ 1 + many → Blocks R more
  one_more b new its more e = record {
    blocks = b ∷ before.blocks;
    counted = (let was = before.counted in omega (arith, was, e));
    once = λ x. elim (cases_eq x b) as (λ _. times x (b ∷ before.blocks) ≤ 1) [
      | inl same ↦ (let here : once_if (x == b) ≡ 1 = ap once_if (eq-eqb x b same) in let rest = none x same in omega (arith, here, rest))
      | inr ne ↦ (let here : once_if (x == b) ≡ 0 = ap once_if (ne_eqb x b ne) in let rest = before.once x in omega (arith, here, rest))
    ];
    each = λ x some. elim (cases_eq x b) as (λ _. R x) [
      | inl same ↦ subst R (sym same) its
      | inr ne ↦ so x (before.each x (let here : once_if (x == b) ≡ 0 = ap once_if (ne_eqb x b ne) in omega (arith, here, some)))
    ];
  }
    where
      none : (x : ℕ) → x ≡ b → times x before.blocks ≡ 0
      none x same = by (times x before.blocks) refl
        where
          by : (t : ℕ) → times x before.blocks ≡ t → times x before.blocks ≡ 0
          by zero is = is
          by (suc t) is = absurd (new (subst Q same (before.each x (omega (arith, is)))))

module _ {K V : Type 0} (m : Moment K V) (known : Known) (w : World (Node K V)) (h : RefinesRetired m known w) where
  -- the block is that of a pair with a number up to this one
  abbrev IsPairUpTo : ℕ → ℕ → Type 0
  IsPairUpTo k b = (n : ℕ) × (n ≤ k) × (known.roles b ≡ role.Pair n) × (is_retired_in b w.log ≡ true)

  pairs_retired : (k : ℕ) → Blocks (IsPairUpTo k) (places_below is_handed m.place k)
  pairs_retired zero = no_blocks (IsPairUpTo zero)
  pairs_retired (suc k) = by (is_handed (m.place (suc k))) refl (pairs_retired k)
    where
      further : (b : ℕ) → IsPairUpTo k b → IsPairUpTo (suc k) b
      further b its = let l = its.1 in (its.0, omega (arith, l), its.2, its.3)

      by : (q : Bool) → is_handed (m.place (suc k)) ≡ q → Blocks (IsPairUpTo k) (places_below is_handed m.place k) → Blocks (IsPairUpTo (suc k)) (places_below is_handed m.place (suc k))
      by true is before =
          let new = h.pairs (suc k) is in
          let one : once_if (is_handed (m.place (suc k))) ≡ 1 = ap once_if is in
          one_more (IsPairUpTo k) (IsPairUpTo (suc k)) further (places_below is_handed m.place k) before new.0 (λ its. not_new new.0 new.1 its) (suc k, omega arith, new.1, new.2)
          (places_below is_handed m.place (suc k)) (omega (arith, one))
        where
          not_new : (b : ℕ) → known.roles b ≡ role.Pair (suc k) → IsPairUpTo k b → ⊥
          not_new b is its =
              let two : role.Pair (suc k) ≡ role.Pair its.0 = sym is ∙ its.2 in
              let same : suc k ≡ its.0 = cc two in
              let l = its.1 in
              omega (arith, same, l)
      by false is before =
          let none : once_if (is_handed (m.place (suc k))) ≡ 0 = ap once_if is in
          as_many (IsPairUpTo k) (IsPairUpTo (suc k)) further (places_below is_handed m.place k) before (places_below is_handed m.place (suc k)) (omega (arith, none))

  module _ (pairs : ℕ) (all_pairs : Blocks (IsPairUpTo pairs) (places_below is_handed m.place pairs)) where
    -- or it is that of one of these tables
    abbrev IsTableOf : List TableThere → ℕ → Type 0
    IsTableOf tables b = (t : TableId) × (len : ℕ) × (list_any (λ v. same_table v.table t) tables ≡ true) × (known.roles b ≡ role.Table t len) × (is_retired_in b w.log ≡ true)

    abbrev IsEither : List TableThere → ℕ → Type 0
    IsEither tables b = IsPairUpTo pairs b ⊎ IsTableOf tables b

    abbrev how_many : List TableThere → ℕ
    how_many tables = places_below is_handed m.place pairs + length (filter (λ u. is_retired u.stage) tables)

    with_tables : (tables : List TableThere) → TablesApart tables → AllByRecursion (λ u. is_retired u.stage ≡ true → HasRetiredTable m known w u) tables → Blocks (IsEither tables) (how_many tables)
    with_tables [] apart all =
        as_many (IsPairUpTo pairs) (IsEither []) (λ b its. inl its) (places_below is_handed m.place pairs) all_pairs (how_many []) (omega arith)
    with_tables (u ∷ tables) apart all = by (is_retired u.stage) refl (with_tables tables apart.1 all.1)
      where
        either : (a b : Bool) → b ≡ true → (a || b) ≡ true
        either true b e = refl
        either false b e = e

        further : (b : ℕ) → IsEither tables b → IsEither (u ∷ tables) b
        further b (inl its) = inl its
        further b (inr its) = inr (its.0, its.1, either (same_table u.table its.0) (list_any (λ v. same_table v.table its.0) tables) its.2, its.3, its.4)

        length_is : (q : Bool) → is_retired u.stage ≡ q → length (filter (λ v. is_retired v.stage) (u ∷ tables)) ≡ length (cond q (u ∷ filter (λ v. is_retired v.stage) tables) (filter (λ v. is_retired v.stage) tables))
        length_is q is = ap (λ (z : Bool). length (cond z (u ∷ filter (λ v. is_retired v.stage) tables) (filter (λ v. is_retired v.stage) tables))) is

        not_new : (b len : ℕ) → known.roles b ≡ role.Table u.table len → IsEither tables b → ⊥
        not_new b len is (inl its) = let two : role.Table u.table len ≡ role.Pair its.0 = sym is ∙ its.2 in cc two
        not_new b len is (inr its) =
            let two : role.Table u.table len ≡ role.Table its.0 its.1 = sym is ∙ its.3 in
            let same : u.table ≡ its.0 = cc two in
            let there : list_any (λ v. same_table v.table u.table) tables ≡ true = subst (λ (t : TableId). list_any (λ v. same_table v.table t) tables ≡ true) (sym same) its.2 in
            let none = apart.0 in
            cc (there, none)

        itself : (same_table u.table u.table || list_any (λ v. same_table v.table u.table) tables) ≡ true
        itself = ap (λ (q : Bool). q || list_any (λ v. same_table v.table u.table) tables) (same_itself u.table)

        by : (q : Bool) → is_retired u.stage ≡ q → Blocks (IsEither tables) (how_many tables) → Blocks (IsEither (u ∷ tables)) (how_many (u ∷ tables))
        by true is before =
            let new = all.0 is in
            let more : length (filter (λ v. is_retired v.stage) (u ∷ tables)) ≡ 1 + length (filter (λ v. is_retired v.stage) tables) = length_is true is ∙ (omega arith) in
            one_more (IsEither tables) (IsEither (u ∷ tables)) further (how_many tables) before new.0 (not_new new.0 new.1 new.2) (inr (u.table, new.1, itself, new.2, new.3)) (how_many (u ∷ tables)) (omega (arith, more))
        by false is before = as_many (IsEither tables) (IsEither (u ∷ tables)) further (how_many tables) before (how_many (u ∷ tables)) (ap (λ (l : ℕ). places_below is_handed m.place pairs + l) (length_is false is))

    -- each of them is retired
    retired : (tables : List TableThere) (b : ℕ) → IsEither tables b → is_retired_in b w.log ≡ true
    retired tables b (inl its) = its.3
    retired tables b (inr its) = its.4

pub little_waits : (K V : Type 0) → LittleWaits K V
little_waits K V batch_size m known w word came nobody shows =
    let pairs = pairs_retired m known w shows (length m.stored) in
    let all = with_tables m known w shows (length m.stored) pairs m.tables shows.apart shows.tables in
    let most = garbage_bounded deferred_word batch_size came.0 came.1 w word came.2 nobody.rests nobody.outside m.slots shows.slots all.blocks all.once
    (λ b some. retired m known w shows (length m.stored) pairs m.tables b (all.each b some)) in
    let same : max (max batch_size m.slots) 1 ≡ max batch_size (max m.slots 1) = omega arith in
    subst (λ (q : ℕ). waiting_things m ≤ m.slots * (q - 1)) same (subst (λ (q : ℕ). q ≤ m.slots * (max (max batch_size m.slots) 1 - 1)) all.counted most)
