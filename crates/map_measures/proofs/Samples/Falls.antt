-- What the law of the numbers forbids: wrong steps that would go on for ever.
use Rattle.std.specs.Prelude.{◌-◌, ◌+◌, List, [], ◌∷◌}
use Rattle.std.proofs.Common.{◌≡◌, ℕ, suc, ◌<◌, ◌⊎◌, false, inl, inr, refl, ap, subst, arith}
use Rattle.map_tables.specs.declared.table.Table.{Table}
use Rattle.many_calls.specs.Given.RawDeclared.machines.asking.Asking.TheVariants as asking
use Rattle.many_calls.specs.Given.RawDeclared.machines.call.KeyCall.{KeyCall}
use Rattle.many_calls.specs.Given.RawDeclared.machines.call.Calling.TheVariants as at
use Rattle.map_tables.specs.Chunks.{is_incremental}
use Rattle.map_machines.specs.CopierStates.{helping}
use Rattle.map_machines.specs.declared.copier.Copier.{Copier}
use Rattle.map_machines.specs.declared.copier.Copying.TheVariants as copies
use Rattle.map_machines.specs.declared.new_table.Making.TheVariants as makes
use Rattle.map_machines.specs.declared.sum.Sum.{Sum}
use Rattle.map_sweeps.specs.declared.reserve.Reserve.{Reserve}
use Rattle.map_sweeps.specs.declared.reserve.Reserving.TheVariants as reserves
use Rattle.many_calls.specs.Given.RuleChart.{Chart}
use Rattle.many_calls.specs.Given.RuleWords.{Blocks}
use Rattle.many_calls.specs.Given.PointsMeasures.{IsBelow}
use Rattle.many_calls.specs.Given.PointsMeasuresTables.{number_of_sum}
use Rattle.map_measures.specs.Falls.Room.{last_turn, planned, planned_in_copying, tables_to_come}
use Rattle.map_measures.specs.Falls.CopiesBlocking.{number_of_copier_blocking}
use Rattle.map_measures.specs.Falls.Reserves.{number_here, number_of_reserve}
use Rattle.map_measures.specs.Falls.Calls.{nothing_within, one_of_eight, to_empty, stale, number_of_call}
use Rattle.map_measures.proofs.Falls.Calls.Tries.{one_most}

-- no numbers are below themselves
pub not_below : (xs : List ℕ) → IsBelow xs xs → ⊥
not_below [] below = absurd below
not_below (x ∷ xs) (inl l) = absurd (omega (arith, l))
not_below (x ∷ xs) (inr h) = not_below xs h.1

-- numbers with one beginning are compared by what follows
pub by_rest : {A : Type 0} (x : ℕ) → (x < x) ⊎ ((x ≡ x) × A) → A
by_rest x (inl l) = absurd (omega (arith, l))
by_rest x (inr h) = h.1

module _ {K V Q : Type 0} (hash : K → ℕ) (c : Chart K) (blocks : Blocks) (p : KeyCall K V Q) where
  -- a call that has lost an exchange may not try again for the word that it expected
  tries_again : (word new : ℕ) → IsBelow (number_of_call hash c blocks (record p { stands = at.Tries word new })) (number_of_call hash c blocks (record p { stands = at.Tries word new })) → ⊥
  tries_again word new = not_below (number_of_call hash c blocks (record p { stands = at.Tries word new }))

  -- one that has a value to store where the word is there that it expects may not read that word again before it has tried to replace it
  reads_again : (word : ℕ) → stale hash c blocks p word ≡ 0
      → IsBelow (number_of_call hash c blocks (record p { stands = at.Probes })) (number_of_call hash c blocks (record p { stands = at.Asks (asking.Fills word) })) → ⊥
  reads_again word fresh below =
      none (by_rest (suc (p.trial.table.limit - p.trial.probe.len)) (by_rest 0 (by_rest (c.past - p.trial.table.turn) (by_rest (tables_to_come c.past 0) (by_rest 5 below)))))
    where
      none : IsBelow (3 ∷ nothing_within) (suc (to_empty p.replies.key + stale hash c blocks p word) ∷ nothing_within) → ⊥
      none (inl l) = absurd (let few = one_most p.replies.key in omega (arith, l, few, fresh))
      none (inr h) = absurd (let few = one_most p.replies.key in let e = h.0 in omega (arith, e, few, fresh))

  -- nor come to fill its own block again with as much in it
  empties_again : (word : ℕ) → IsBelow (number_of_call hash c blocks (record p { stands = at.Asks (asking.Fills word) })) (number_of_call hash c blocks (record p { stands = at.Asks (asking.Fills word) })) → ⊥
  empties_again word = not_below (number_of_call hash c blocks (record p { stands = at.Asks (asking.Fills word) }))

  -- one that has helped may not help again before it enters the next table
  helps_again : (copier : Copier) (goal : Table)
      → IsBelow (number_of_call hash c blocks (record p { stands = at.Helps (helping p.setting) goal })) (number_of_call hash c blocks (record p { stands = at.Helps (record copier { stands = copies.Over }) goal })) → ⊥
  helps_again copier goal below =
      none (by_rest 0 (by_rest 0 (by_rest 1 (by_rest (c.past - goal.turn) (by_rest (tables_to_come c.past 0) (by_rest 5 below))))))
    where
      none : IsBelow (12 ∷ 0 ∷ 0 ∷ 0 ∷ 0 ∷ 0 ∷ 0 ∷ 0 ∷ []) (0 ∷ 0 ∷ 0 ∷ 0 ∷ 0 ∷ 0 ∷ 0 ∷ 0 ∷ []) → ⊥
      none (inl l) = absurd (omega (arith, l))
      none (inr h) = absurd (let e = h.0 in omega (arith, e))

module _ {K : Type 0} (c : Chart K) (blocks : Blocks) (p : Copier) where
  -- a copier that has found all places claimed may not forget it, and ask for the status as if it had not
  asks_again : IsBelow (number_of_copier_blocking c blocks (record p { spent = false; stands = copies.Asks })) (number_of_copier_blocking c blocks (record p { stands = copies.Sees })) → ⊥
  asks_again below =
      none (by_rest 0 (by_rest 0 (by_rest (p.source.len - c.claim p.target.turn) (by_rest 1 (by_rest 6 (by_rest (c.past - p.target.turn) below))))))
    where
      none : IsBelow (3 ∷ 0 ∷ []) (2 ∷ 0 ∷ []) → ⊥
      none (inl l) = absurd (omega (arith, l))
      none (inr h) = absurd (let e = h.0 in omega (arith, e))

module _ {K : Type 0} (c : Chart K) (blocks : Blocks) (p : Reserve) (table : Table) (sum : Sum) where
  abbrev counts : List ℕ
  counts = number_of_reserve c blocks (record p { stands = reserves.Sums table sum })

  -- a reservation that has found its table too short may not count the pairs there again
  counts_again : (need : ℕ) → IsBelow counts (number_of_reserve c blocks (record p { stands = reserves.Follows table need })) → ⊥
  counts_again need below = none (by_rest (c.past - table.turn) (by_rest (tables_to_come c.past 0) below))
    where
      none : IsBelow (3 ∷ one_of_eight (number_of_sum sum)) (2 ∷ nothing_within) → ⊥
      none (inl l) = absurd (omega (arith, l))
      none (inr h) = absurd (let e = h.0 in omega (arith, e))

  -- nor, where it has copied that table into a later one, before it counts there
  counts_back : (copier : Copier) → table.turn < copier.target.turn → copier.target.turn < c.past → copier.stands ≡ copies.Over → IsBelow counts (number_of_reserve c blocks (record p { stands = reserves.Copies copier })) → ⊥
  counts_back copier later made over below = none (by_rest (tables_to_come c.past 0) (subst (λ (n : ℕ). IsBelow counts (tables_to_come c.past n ∷ left)) planned_none below))
    where
      left : List ℕ
      left = number_here (is_incremental p.setting.mode) c blocks (reserves.Copies copier)

      planned_none : planned_in_copying copier.stands ≡ 0
      planned_none = ap planned_in_copying over

      none : IsBelow ((c.past - table.turn) ∷ 3 ∷ one_of_eight (number_of_sum sum)) left → ⊥
      none (inl l) = absurd (omega (arith, l, later, made))
      none (inr h) = absurd (let e = h.0 in omega (arith, e, later, made))

-- each table that is linked leaves fewer to come, also one with a turn behind the last
few_come : tables_to_come 3 3 ≡ suc (tables_to_come 4 0)
few_come = refl

none_come : (tables_to_come (last_turn + 2) (last_turn + 2) ≡ 1) × (tables_to_come (last_turn + 3) 0 ≡ 0)
none_come = (refl, refl)

-- one that is planned comes to be linked
abbrev table : Table
table = record { link = 4096; len = 8; limit = 7; turn = 3 }

is_planned : (planned (makes.Makes table) ≡ 3) × (planned (makes.Drops table 2048) ≡ 0)
is_planned = (refl, refl)
