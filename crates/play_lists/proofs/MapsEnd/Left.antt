-- The tables that a map has from its root on, as another one ends, comes to another stage, or is linked elsewhere.
use Rattle.std.specs.Prelude.{◌≡◌, ℕ, ◌==◌, ◌&&◌, nat_le, Bool, true, false, not, List, [], ◌∷◌, ◌++◌, filter, map, cond, if◌then◌else◌}
use Rattle.std.specs.List.{AllByRecursion}
use Rattle.std.proofs.Common.{refl, ap, sym, ◌∙◌}
use Rattle.std.proofs.lemmas.List.{append-nil}
use Rattle.std.proofs.lemmas.List.Elements.{filter-append}
use Rattle.run_schedules.specs.declared.effect.TableId.{TableId}
use Rattle.run_schedules.specs.Schedules.Effects.{at_stage}
use Rattle.run_schedules.specs.Schedules.Moment.{Stage, TableThere}
use Rattle.run_schedules.specs.Schedules.Things.{same_table}
use Rattle.run_schedules.specs.Schedules.Views.{is_linked}

module _ {X : Type 0} (p q : X → Bool) where
  -- one after another, two tests are one
  both_kept : (xs : List X) → filter p (filter q xs) ≡ filter (λ x. q x && p x) xs
  both_kept [] = refl
  both_kept (x ∷ xs) = by (q x) (both_kept xs)
    where
      rest : List X
      rest = filter (λ y. q y && p y) xs

      by : (a : Bool) → filter p (filter q xs) ≡ rest → filter p (cond a (x ∷ filter q xs) (filter q xs)) ≡ cond (a && p x) (x ∷ rest) rest
      by true later = ap (λ (l : List X). cond (p x) (x ∷ l) l) later
      by false later = later

-- Of these tests those pass that are of a map, from its root on, and linked.
module _ (of first : ℕ) where
  abbrev pub stands : TableThere → Bool
  stands u = (u.table.map == of) && (nat_le first u.table.turn && is_linked u.stage)

  -- the tables of a map that it has from this one on
  abbrev pub standing : List TableThere → List TableThere
  standing us = filter (λ u. is_linked u.stage) (filter (λ u. nat_le first u.table.turn) (filter (λ u. u.table.map == of) us))

  pub by_one : (us : List TableThere) → standing us ≡ filter stands us
  by_one us =
      both_kept (λ u. is_linked u.stage) (λ u. nat_le first u.table.turn) (filter (λ u. u.table.map == of) us)
      ∙ both_kept (λ u. nat_le first u.table.turn && is_linked u.stage) (λ u. u.table.map == of) us

  -- of a table that comes to a stage at which it is not linked
  module _ (t : TableId) (stage : Stage) (gone : is_linked stage ≡ false) where
    abbrev staged : TableThere → TableThere
    staged = at_stage t stage

    none_of : (u : TableThere) → stands (record u { stage = stage }) ≡ false
    none_of u = by (u.table.map == of) (nat_le first u.table.turn)
      where
        by : (a b : Bool) → (a && (b && is_linked stage)) ≡ false
        by false b = refl
        by true false = refl
        by true true = gone

    -- it is there no more, and the others are
    one_less : (us : List TableThere) → filter stands (map staged us) ≡ filter (λ u. not (same_table u.table t)) (filter stands us)
    one_less [] = refl
    one_less (u ∷ us) = by (same_table u.table t) refl (one_less us)
      where
        rest : List TableThere
        rest = filter stands us

        apart : TableThere → Bool
        apart x = not (same_table x.table t)

        by : (q : Bool) → same_table u.table t ≡ q → filter stands (map staged us) ≡ filter apart rest
            → cond (stands (if q then record u { stage = stage } else u)) ((if q then record u { stage = stage } else u) ∷ filter stands (map staged us)) (filter stands (map staged us))
            ≡ filter apart (cond (stands u) (u ∷ rest) rest)
        by true e later =
            ap (λ (b : Bool). cond b (record u { stage = stage } ∷ filter stands (map staged us)) (filter stands (map staged us))) (none_of u) ∙ later ∙ at (stands u)
          where
            at : (b : Bool) → filter apart rest ≡ filter apart (cond b (u ∷ rest) rest)
            at true = sym (ap (λ (x : Bool). cond (not x) (u ∷ filter apart rest) (filter apart rest)) e)
            at false = refl
        by false e later = at (stands u)
          where
            at : (b : Bool) → cond b (u ∷ filter stands (map staged us)) (filter stands (map staged us)) ≡ filter apart (cond b (u ∷ rest) rest)
            at true = ap (λ (l : List TableThere). u ∷ l) later ∙ sym (ap (λ (x : Bool). cond (not x) (u ∷ filter apart rest) (filter apart rest)) e)
            at false = later

    pub left_by : (us : List TableThere) → standing (map staged us) ≡ filter (λ u. not (same_table u.table t)) (standing us)
    left_by us = by_one (map staged us) ∙ one_less us ∙ sym (ap (filter (λ u. not (same_table u.table t))) (by_one us))

    -- it was not among them
    none_less : (us : List TableThere) → AllByRecursion (λ u. same_table u.table t ≡ false) us → filter (λ u. not (same_table u.table t)) us ≡ us
    none_less [] none = refl
    none_less (u ∷ us) none =
        ap (λ (x : Bool). cond (not x) (u ∷ filter (λ u. not (same_table u.table t)) us) (filter (λ u. not (same_table u.table t)) us)) none.0 ∙ ap (λ (l : List TableThere). u ∷ l) (none_less us none.1)

    pub left_beside : (us : List TableThere) → AllByRecursion (λ u. same_table u.table t ≡ false) (standing us) → standing (map staged us) ≡ standing us
    left_beside us none = left_by us ∙ none_less (standing us) none

  -- one that is linked in another map
  pub linked_beside : (us : List TableThere) (u : TableThere) → (u.table.map == of) ≡ false → standing (us ++ u ∷ []) ≡ standing us
  linked_beside us u other =
      ap (λ (l : List TableThere). filter (λ u. is_linked u.stage) (filter (λ u. nat_le first u.table.turn) l)) (filter-append (λ (x : TableThere). x.table.map == of) us (u ∷ [])
      ∙ ap (λ (q : Bool). filter (λ x. x.table.map == of) us ++ cond q (u ∷ []) []) other ∙ append-nil (filter (λ x. x.table.map == of) us))
