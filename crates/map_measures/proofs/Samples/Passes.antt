-- What the law of the numbers forbids: wrong steps of a sweep that would go on for ever.
use Rattle.std.specs.Prelude.{◌-◌, nat_lt, List, [], ◌∷◌}
use Rattle.std.proofs.Common.{◌≡◌, ℕ, suc, ◌<◌, Bool, false, cond, ◌⊎◌, inl, inr, ap, subst, arith}
use Rattle.std.proofs.lemmas.Bool.{lt-ltb}
use Rattle.map_tables.specs.Chunks.{is_incremental}
use Rattle.map_machines.specs.declared.copier.Copier.{Copier}
use Rattle.map_machines.specs.declared.copier.Copying.TheVariants as copies
use Rattle.map_machines.specs.declared.dispose.Dispose.{Dispose}
use Rattle.map_sweeps.specs.declared.sweep.Sweep.{Sweep}
use Rattle.map_sweeps.specs.declared.sweep.Sweeping.TheVariants as at
use Rattle.many_calls.specs.Given.RuleChart.{Chart}
use Rattle.many_calls.specs.Given.RuleWords.{Blocks}
use Rattle.many_calls.specs.Given.PointsMeasures.{IsBelow}
use Rattle.map_measures.specs.Falls.Reserves.{number_within}
use Rattle.map_measures.specs.Falls.Room.{planned_in_copying, tables_to_come}
use Rattle.map_measures.specs.Passes.Sweeps.{stale, number_of_sweep}
use Rattle.map_measures.proofs.Samples.Falls.{not_below, by_rest as behind}

-- a higher number is not below, whatever follows
higher : {A : Type 0} (x y : ℕ) → y < x → (x < y) ⊎ ((x ≡ y) × A) → ⊥
higher x y more (inl l) = absurd (omega (arith, more, l))
higher x y more (inr h) = absurd (let e = h.0 in omega (arith, more, e))

module _ {K : Type 0} (hash : K → ℕ) (c : Chart K) (blocks : Blocks) (p : Sweep) where
  abbrev number : Sweep → List ℕ
  number = number_of_sweep hash c blocks

  -- one that has lost an exchange may not try again for the word that it expected
  tries_again : (word : ℕ) → IsBelow (number (record p { stands = at.Tries word })) (number (record p { stands = at.Tries word })) → ⊥
  tries_again word = not_below (number (record p { stands = at.Tries word }))

  -- at a place of its table, points are compared
  by_points : {A : Type 0} (x y : ℕ) → y < x
      → (tables_to_come c.past 0 < tables_to_come c.past 0)
      ⊎ ((tables_to_come c.past 0 ≡ tables_to_come c.past 0)
      × ((c.past - p.table.turn < c.past - p.table.turn)
      ⊎ ((c.past - p.table.turn ≡ c.past - p.table.turn)
      × ((2 < 2) ⊎ ((◌≡◌ {A = ℕ} 2 2) × ((p.table.len - p.place < p.table.len - p.place) ⊎ ((p.table.len - p.place ≡ p.table.len - p.place) × ((x < y) ⊎ ((x ≡ y) × A)))))))))
      → ⊥
  by_points x y more below =
      higher x y more (behind (p.table.len - p.place) (behind 2 (behind (c.past - p.table.turn) (behind (tables_to_come c.past 0) below))))

  -- nor may one that is told to remove the pair that is there read its word again before it tries
  reads_again : (word : ℕ) → stale hash c blocks p word ≡ 0 → IsBelow (number (record p { stands = at.Words })) (number (record p { stands = at.Asks word }))
      → ⊥
  reads_again word fresh below = by_points 4 (suc (suc (suc (stale hash c blocks p word)))) (omega (arith, fresh)) below

  -- one that has shown a pair may not be ready at its place again
  shows_again : IsBelow (number (record p { stands = at.Ready })) (number (record p { stands = at.Words })) → ⊥
  shows_again below = by_points 5 4 (omega arith) below

  -- one that has removed the pair of a place goes on with the next place
  stays_there : (dispose : Dispose) → IsBelow (number (record p { stands = at.Words })) (number (record p { stands = at.Disposes dispose })) → ⊥
  stays_there dispose below = by_points 4 0 (omega arith) below

  -- one that is to copy its table into the one behind, as it has met a mark, may not go over it again first
  begins_again : suc p.table.turn < c.past
      → IsBelow (number (record p { place = 0; met = false; stands = at.Words })) (number (record p { stands = at.Follows })) → ⊥
  begins_again more below =
      higher 2 (cond (nat_lt (suc p.table.turn) c.past) 1 3)
      (let one = ap {B = ℕ} (λ (b : Bool). cond b 1 3) (lt-ltb (suc p.table.turn) c.past more) in omega (arith, one))
      (behind (c.past - p.table.turn) (behind (tables_to_come c.past 0) below))

  -- nor, where it has copied it, come back to it
  comes_back : (copier : Copier) → p.table.turn < copier.target.turn → copier.target.turn < c.past → copier.stands ≡ copies.Over
      → IsBelow (number (record p { place = 0; met = false; stands = at.Words })) (number (record p { stands = at.Copies copier })) → ⊥
  comes_back copier later made over below =
      higher (c.past - p.table.turn) (c.past - copier.target.turn) (omega (arith, later, made))
      (behind (tables_to_come c.past 0)
      (subst (λ (n : ℕ). IsBelow (number (record p { place = 0; met = false; stands = at.Words }))
      (tables_to_come c.past n ∷ (c.past - copier.target.turn) ∷ 4 ∷ number_within (is_incremental p.setting.mode) c blocks copier))
      (ap planned_in_copying over) below))
