-- The numbers of a sweep where no table is linked by its step: at the places of its table, and as it comes to a table.
use Rattle.std.specs.Prelude.{◌==◌, ◌&&◌, nat_lt, if◌then◌else◌}
use Rattle.std.proofs.Common.{◌≡◌, ℕ, suc, ◌+◌, ◌-◌, ◌%◌, ◌^◌, ◌<◌, ◌≤◌, Bool, true, false, cond, List, [], ◌∷◌, inl, inr, refl, ap, subst, sym, arith}
use Rattle.std.proofs.lemmas.Bool.{lt-ltb, eq-eqb}
use Rattle.seize_words.specs.OneMemory.Word.{block_in}
use Rattle.map_tables.specs.Marks.{has_mark}
use Rattle.map_tables.specs.declared.marks.TheConstants.{COPYING}
use Rattle.map_tables.specs.Chunks.{is_incremental}
use Rattle.map_tables.specs.declared.table.Table.{Table}
use Rattle.map_machines.specs.CopierStates.{resting}
use Rattle.map_machines.specs.declared.copier.Copying.TheVariants as copies
use Rattle.map_sweeps.specs.Sweeps.SweepPoints.{removes, beginning, entering, further, telling, at_pair, seen}
use Rattle.map_sweeps.specs.declared.sweep.Purpose.{Purpose}
use Rattle.map_sweeps.specs.declared.sweep.Purpose.TheVariants.{Walks, Clears, Retains}
use Rattle.map_sweeps.specs.declared.sweep.Sweep.{Sweep}
use Rattle.map_sweeps.specs.declared.sweep.Sweeping.TheVariants as at
use Rattle.many_calls.specs.Given.RuleChart.{Chart}
use Rattle.many_calls.specs.Given.RuleWords.{Blocks, place_word}
use Rattle.many_calls.specs.Given.PointsMeasures.{IsBelow}
use Rattle.map_measures.specs.Falls.Calls.{nothing_within}
use Rattle.map_measures.specs.Falls.Room.{tables_to_come}
use Rattle.map_measures.specs.Passes.Sweeps.{stale, numbers_at, number_of_sweep}

-- no disposal is under way within it
abbrev pub none_within : List ℕ
none_within = 0 ∷ 0 ∷ 0 ∷ 0 ∷ 0 ∷ 0 ∷ []

-- both are so
pub second : (x y : Bool) → (x && y) ≡ true → y ≡ true
second true y e = e
second false y e = absurd (cc e)

-- of the two stages of one that follows
following_few : (b : Bool) → cond b 1 3 < 4
following_few true = omega arith
following_few false = omega arith

module _ {K : Type 0} (hash : K → ℕ) (c : Chart K) (blocks : Blocks) (p : Sweep) where
  -- where it comes to a table, that one is next: it is copied, or gone over
  pub entering_is : (table : Table)
      → (stage : ℕ) × (rest : List ℕ) × (stage < 4)
      × (number_of_sweep hash c blocks (entering p table) ≡ tables_to_come c.past 0 ∷ (c.past - table.turn) ∷ stage ∷ rest)
  entering_is table = by (is_incremental p.setting.mode) (removes p.purpose)
    where
      by : (b r : Bool)
          → (stage : ℕ) × (rest : List ℕ) × (stage < 4)
          × (number_of_sweep hash c blocks (if b then record p { table = table; stands = at.Follows } else record p { table = table; place = 0; met = false; stands = if r then at.Words else at.Ready })
          ≡ tables_to_come c.past 0 ∷ (c.past - table.turn) ∷ stage ∷ rest)
      by true r = (cond (nat_lt (suc table.turn) c.past) 1 3, nothing_within, following_few (nat_lt (suc table.turn) c.past), refl)
      by false true = (2, (table.len - 0) ∷ 4 ∷ none_within, omega arith, refl)
      by false false = (2, (table.len - 0) ∷ 5 ∷ none_within, omega arith, refl)

module _ {K : Type 0} (hash : K → ℕ) (c : Chart K) (blocks : Blocks) (c2 : Chart K) (blocks2 : Blocks) (past : c2.past ≡ c.past) (p : Sweep) where
  abbrev number_after : Sweep → List ℕ
  number_after = number_of_sweep hash c2 blocks2

  pub to_come : tables_to_come c2.past 0 ≡ tables_to_come c.past 0
  to_come = ap (λ x. tables_to_come x 0) past

  left : (table : Table) → c2.past - table.turn ≡ c.past - table.turn
  left table = ap (λ x. x - table.turn) past

  -- it comes to a table
  pub entering_below : (table : Table) (tables : ℕ) → c2.past - table.turn < tables → (xs : List ℕ)
      → IsBelow (number_after (entering p table)) (tables_to_come c.past 0 ∷ tables ∷ xs)
  entering_below table tables less xs =
      let h = entering_is hash c2 blocks2 p table in
      subst (λ (ys : List ℕ). IsBelow ys (tables_to_come c.past 0 ∷ tables ∷ xs)) (sym h.3) (inr (to_come, inl less))

  -- it begins to go over its own
  pub beginning_below : (stage : ℕ) → 2 < stage → (xs : List ℕ)
      → IsBelow (number_after (beginning p)) (tables_to_come c.past 0 ∷ (c.past - p.table.turn) ∷ stage ∷ xs)
  beginning_below stage less xs = by (removes p.purpose)
    where
      by : (r : Bool)
          → IsBelow (number_after (record p { place = 0; met = false; stands = if r then at.Words else at.Ready })) (tables_to_come c.past 0 ∷ (c.past - p.table.turn) ∷ stage ∷ xs)
      by true = inr (to_come, inr (left p.table, inl less))
      by false = inr (to_come, inr (left p.table, inl less))

  -- it begins to copy it into the one behind
  pub copying_below : (next : Table) → c2.past - next.turn < c.past - p.table.turn → (xs : List ℕ) → (b : Bool)
      → IsBelow
      (numbers_at hash c2 blocks2 p
      (at.Copies (if b then record (resting p.setting true p.table next copies.Marks) { end = p.table.len } else resting p.setting true p.table next copies.Asks)))
      (tables_to_come c.past 0 ∷ (c.past - p.table.turn) ∷ xs)
  copying_below next less xs true = inr (to_come, inl less)
  copying_below next less xs false = inr (to_come, inl less)

  -- at a place of its table
  module _ (made : p.table.turn < c.past) (inside : p.place < p.table.len) (few : p.table.len ≤ 2 ^ 48) where
    next_is : (p.place + 1) % 2 ^ 64 ≡ suc p.place
    next_is = omega (arith, inside, few)

    fewer_left : p.table.len - (p.place + 1) % 2 ^ 64 < p.table.len - p.place
    fewer_left = let next = next_is in omega (arith, inside, next)

    abbrev from : List ℕ → List ℕ
    from xs = tables_to_come c.past 0 ∷ (c.past - p.table.turn) ∷ 2 ∷ (p.table.len - p.place) ∷ xs

    -- the place is behind it
    pub further_below : (marked : Bool) → (marked ≡ true → suc p.table.turn < c.past) → (xs : List ℕ)
        → IsBelow (number_after (further (record p { met = marked }))) (from xs)
    further_below marked marks xs =
        by (nat_lt ((p.place + 1) % 2 ^ 64) p.table.len) (removes p.purpose && marked) (λ e. marks (second (removes p.purpose) marked e))
      where
        copied_next : suc p.table.turn < c.past → cond (nat_lt (suc p.table.turn) c2.past) 1 3 < 2
        copied_next l = let one = ap {B = ℕ} (λ (b : Bool). cond b 1 3) (lt-ltb (suc p.table.turn) c2.past (omega (arith, l, past))) in omega (arith, one)

        by : (more again : Bool) → (again ≡ true → suc p.table.turn < c.past)
            → IsBelow (number_after (record p { place = (p.place + 1) % 2 ^ 64; met = marked; stands = if more then at.Words else (if again then at.Follows else at.Over) })) (from xs)
        by true again f = inr (to_come, inr (left p.table, inr (refl, inl fewer_left)))
        by false true f = inr (to_come, inr (left p.table, inl (copied_next (f refl))))
        by false false f = inr (to_come, inl (omega (arith, made)))

    -- its word is read, and is there
    pub seen_below : (T : Type 0) → (p.met ≡ true → suc p.table.turn < c.past) → (word : ℕ) → word ≡ place_word hash c2 blocks2 (c2.place p.table.turn p.place)
        → (has_mark word COPYING ≡ true → suc p.table.turn < c.past) → (point : ℕ) → 3 < point → (xs : List ℕ)
        → IsBelow (number_after (seen {T = T} p word).0) (from (point ∷ xs))
    seen_below T marks word here marked point more xs = by (removes p.purpose) (has_mark word COPYING) (block_in word == 0) refl
      where
        fresh : stale hash c2 blocks2 p word ≡ 0
        fresh = ap {B = ℕ} (λ (b : Bool). cond b 0 3) (eq-eqb word (place_word hash c2 blocks2 (c2.place p.table.turn p.place)) here)

        pair : (purpose : Purpose) → IsBelow (number_after (at_pair {T = T} purpose p word).0) (from (point ∷ xs))
        pair Walks = inr (to_come, inr (left p.table, inr (refl, inl fewer_left)))
        pair Clears = inr (to_come, inr (left p.table, inr (refl, inr (refl, inl (let none = fresh in omega (arith, none, more))))))
        pair Retains = inr (to_come, inr (left p.table, inr (refl, inr (refl, inl (let none = fresh in omega (arith, none, more))))))

        by : (r m z : Bool) → has_mark word COPYING ≡ m
            → IsBelow (number_after (if r && m then telling {T = T} (further (record p { met = true })) else (if z then telling (further p) else at_pair p.purpose p word)).0) (from (point ∷ xs))
        by true true z e = further_below true (λ t. marked e) (point ∷ xs)
        by true false true e = further_below p.met marks (point ∷ xs)
        by true false false e = pair p.purpose
        by false m true e = further_below p.met marks (point ∷ xs)
        by false m false e = pair p.purpose
