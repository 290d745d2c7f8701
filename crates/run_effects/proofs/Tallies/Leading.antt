-- Tables that are found at their places: another flag goes to one place, and a table that comes stands behind the others.
use Rattle.std.specs.Prelude.{◌≡◌, ℕ, zero, suc, ◌+◌, ◌<◌, ◌&&◌, Bool, true, false, List, [], ◌∷◌, ◌++◌, length, map, Option, Some, None, is_none, slice_index_or, slice_set, if◌then◌else◌}
use Rattle.std.proofs.Common.{refl, sym, ap, subst, ◌∙◌, arith}
use Rattle.run_schedules.specs.declared.effect.TableId.{TableId}
use Rattle.run_schedules.specs.Schedules.Things.{same_table}
use Rattle.run_effects.specs.Tallies.Places.{AreFound, Comes, Leads, place_of, put_at}
use Rattle.run_effects.specs.Tallies.Tally.{flagged}
use Rattle.run_effects.specs.declared.table_index.TableIndex.{TableIndex}
use Rattle.run_effects.specs.declared.tally.Flagged.{Flagged}

-- a table that is the same stands at the same place
same_place : (t u : TableId) (places : TableIndex) → same_table t u ≡ true → put_at t places ≡ put_at u places
same_place t u places same =
    let maps : t.map ≡ u.map = grind (arith, same) in let turns : t.turn ≡ u.turn = grind (arith, same) in λ i. put_at (record { map = maps i; turn = turns i }) places

-- what has a place has it where no table came twice
found_whole : (places : TableIndex) (t : TableId) (n : ℕ) → place_of t places ≡ Some n → (places.is_whole ≡ true) × (put_at t places ≡ Some n)
found_whole places t n = by places.is_whole
  where
    by : (b : Bool) → (if b then put_at t places else None) ≡ Some n → (b ≡ true) × (put_at t places ≡ Some n)
    by true is = (refl, is)
    by false is = absurd (cc is)

-- the places and their list are the same
pub same_leads : (old new : TableIndex) (before after : List Flagged) → new ≡ old → after ≡ before → Leads old before → Leads new after
same_leads old new before after places tables leads = subst (λ (p : TableIndex). Leads p after) (sym places) (subst (Leads old) (sym tables) leads)

-- A table that is found gets another flag.
module _ (places : TableIndex) (t : TableId) (flag : Bool) where
  -- one that stands elsewhere is another one
  other : (u : Flagged) (k n : ℕ) → put_at t places ≡ Some k → put_at u.table places ≡ Some n → (k ≡ n → ⊥) → flagged t flag u ≡ u
  other u k n its found apart = by (same_table u.table t) refl
    where
      by : (b : Bool) → same_table u.table t ≡ b → (if b then record u { is_retired = flag } else u) ≡ u
      by true same = let one = same_place u.table t places same in absurd (apart (cc (its, found, one)))
      by false same = refl

  all_others : (tables : List Flagged) (k n : ℕ) → put_at t places ≡ Some k → k < n → AreFound places n tables → map (flagged t flag) tables ≡ tables
  all_others [] k n its before found = refl
  all_others (u ∷ tables) k n its before found =
      λ i. other u k n its found.0 (λ e. omega (arith, before, e)) i ∷ all_others tables k (suc n) its (omega (arith, before)) found.1 i

  one_flag : (tables : List Flagged) (k n : ℕ) (d : Flagged) → put_at t places ≡ Some (n + k) → AreFound places n tables
      → map (flagged t flag) tables ≡ slice_set tables k (flagged t flag (slice_index_or tables k d))
  one_flag [] k n d its found = refl
  one_flag (u ∷ tables) zero n d its found = ap (λ (l : List Flagged). flagged t flag u ∷ l) (all_others tables (n + 0) (suc n) its (omega arith) found.1)
  one_flag (u ∷ tables) (suc k) n d its found =
      λ i. other u (n + suc k) n its found.0 (λ e. omega (arith, e)) i ∷ one_flag tables k (suc n) d (its ∙ ap Some (omega arith)) found.1 i

  -- it goes to the place alone where the table is found
  pub flag_there : (tables : List Flagged) (k : ℕ) (d : Flagged) → place_of t places ≡ Some k → Leads places tables
      → map (flagged t flag) tables ≡ slice_set tables k (flagged t flag (slice_index_or tables k d))
  flag_there tables k d its leads = let found = found_whole places t k its in one_flag tables k 0 d (found.1 ∙ ap Some (omega arith)) (leads found.0)

  still_found : (tables : List Flagged) (n : ℕ) → AreFound places n tables → AreFound places n (map (flagged t flag) tables)
  still_found [] n found = tt
  still_found (u ∷ tables) n found = (by (same_table u.table t), still_found tables (suc n) found.1)
    where
      by : (b : Bool) → put_at (if b then record u { is_retired = flag } else u).table places ≡ Some n
      by true = found.0
      by false = found.0

  pub still_leads : (tables : List Flagged) → Leads places tables → Leads places (map (flagged t flag) tables)
  still_leads tables leads whole = still_found tables 0 (leads whole)

-- A table comes, to stand behind the others.
module _ (t : TableId) (place : ℕ) (old new : TableIndex) (comes : Comes t place old new) where
  found_then : (tables : List Flagged) (n : ℕ) → put_at t old ≡ None → place ≡ n + length tables → AreFound old n tables → AreFound new n (tables ++ record { table = t; is_retired = false } ∷ [])
  found_then [] n none is found = (comes.here ∙ ap Some (omega (arith, is)), tt)
  found_then (u ∷ tables) n none is found = (by (same_table t u.table) refl, found_then tables (suc n) none (omega (arith, is)) found.1)
    where
      by : (b : Bool) → same_table t u.table ≡ b → put_at u.table new ≡ Some n
      by true same = let one = same_place t u.table old same in let its = found.0 in absurd (cc (none, its, one))
      by false same = comes.others u.table same ∙ found.0

  pub leads_then : (tables : List Flagged) → place ≡ length tables → Leads old tables → Leads new (tables ++ record { table = t; is_retired = false } ∷ [])
  leads_then tables is leads whole = let first = both old.is_whole (put_at t old) (sym comes.whole ∙ whole) in found_then tables 0 first.1 (omega (arith, is)) (leads first.0)
    where
      both : (b : Bool) (o : Option ℕ) → (b && is_none o) ≡ true → (b ≡ true) × (o ≡ None)
      both true None e = (refl, refl)
      both true (Some n) e = absurd (cc e)
      both false o e = absurd (cc e)
