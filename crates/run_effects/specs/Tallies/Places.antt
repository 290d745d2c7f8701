-- Where tables stand in a list, and that each is found there.
use Rattle.std.specs.Prelude.{◌≡◌, ℕ, suc, ◌&&◌, true, false, nat_eq, List, [], ◌∷◌, Option, Some, None, is_none, if◌then◌else◌}
use Rattle.std.specs.HashMap.{get_by}
use Rattle.run_schedules.specs.declared.effect.TableId.{TableId}
use Rattle.run_schedules.specs.Schedules.Things.{same_table}
use Rattle.run_effects.specs.declared.table_index.TableIndex.{TableIndex}
use Rattle.run_effects.specs.declared.tally.Flagged.{Flagged}

-- the place at which a table came last
abbrev pub put_at : TableId → TableIndex → Option ℕ
put_at t places = get_by (λ k. nat_eq t.map k.0 && nat_eq t.turn k.1) places.by_turn

-- it is the table's place where no table came twice
abbrev pub place_of : TableId → TableIndex → Option ℕ
place_of t places = if places.is_whole then put_at t places else None

-- the tables of a list, which begins at this place, stand where they are found
abbrev pub AreFound : TableIndex → ℕ → List Flagged → Type 0
AreFound places n [] = Unit {0}
AreFound places n (u ∷ tables) = (put_at u.table places ≡ Some n) × AreFound places (suc n) tables

-- so it is of a whole list, where no table came twice
abbrev pub Leads : TableIndex → List Flagged → Type 0
Leads places tables = places.is_whole ≡ true → AreFound places 0 tables

-- a table comes, to stand at this place; no table came twice if none had, and this one had not come
pub record Comes (t : TableId) (place : ℕ) (old new : TableIndex) : Type 0 where
  pub whole : new.is_whole ≡ (old.is_whole && is_none (put_at t old))
  pub here : put_at t new ≡ Some place
  pub others : (u : TableId) → same_table t u ≡ false → put_at u new ≡ put_at u old
