-- By no history had a map more tables at an earlier moment than it has at the last one.
use Rattle.std.specs.Prelude.{◌≤◌, ◌==◌, nat_lt, ℕ, Bool, true, false, List, [], ◌∷◌, length, if◌then◌else◌}
use Rattle.std.specs.List.{AllByRecursion}
use Rattle.std.proofs.Common.{◌≡◌, refl, arith}
use Rattle.run_schedules.specs.Schedules.Moment.{Moment, start}
use Rattle.run_legal.specs.Given.FindsWithin.{many_of}
use Rattle.run_legal.specs.Given.GrowsTries.{TablesLast}
use Rattle.run_legal.proofs.Given.FindsGrows.Steps.{tables_have_been}
use Rattle.run_legal.proofs.Given.GrowsFinding.Alike.{many_same}
use Rattle.run_schedules.specs.Deeds.Deeds.{Begins, Deed, Entry, MapComes, acted_on, after, at_work, begun, caller_of, moment}
use Rattle.run_schedules.specs.Deeds.History.{moments_from, past}

module _ {K V : Type 0} where
  -- what an entry begins links no table
  begun_tables : (d : Deed K V) (m : Moment K V) → (begun d m).tables ≡ m.tables
  begun_tables (Begins i s map call) m = refl
  begun_tables (MapComes map root mode capacity) m = refl
  begun_tables _ m = refl

  many_grows : (map : ℕ) (e : Entry K V) (m : Moment K V) → many_of map m ≤ many_of map (after e m)
  many_grows map e m =
      let begins = many_same m (at_work e m) (begun_tables e.deed m) map in
      let works = tables_have_been K V (caller_of e.deed) (acted_on e.deed (at_work e m)) e.effects (at_work e m) map in
      omega (arith, begins, works)

  more_last : (e : Entry K V) (m : Moment K V) (moments : List (Moment K V)) → AllByRecursion (λ v. (map : ℕ) → many_of map v ≤ many_of map m) moments
      → AllByRecursion (λ v. (map : ℕ) → many_of map v ≤ many_of map (after e m)) moments
  more_last e m [] last = tt
  more_last e m (x ∷ moments) last = (λ map. (let few = last.0 map in let more = many_grows map e m in omega (arith, few, more)), more_last e m moments last.1)

  pub tables_last : (log : List (Entry K V)) → TablesLast (past log)
  tables_last [] begun = by (begun == 0)
    where
      by : (q : Bool) → AllByRecursion (λ (v : Moment K V). (map : ℕ) → many_of map v ≤ many_of map (start {K = K} {V = V})) (if q then start ∷ [] else [])
      by true = (λ map. omega arith, tt)
      by false = tt
  tables_last (e ∷ log) begun = by (nat_lt (length (e ∷ log)) begun) (tables_last log begun)
    where
      by : (q : Bool) → AllByRecursion (λ (v : Moment K V). (map : ℕ) → many_of map v ≤ many_of map (moment log)) (moments_from begun log)
          → AllByRecursion (λ (v : Moment K V). (map : ℕ) → many_of map v ≤ many_of map (moment (e ∷ log))) (if q then [] else moment (e ∷ log) ∷ moments_from begun log)
      by true before = tt
      by false before = (λ map. omega arith, more_last e (moment log) (moments_from begun log) before)
