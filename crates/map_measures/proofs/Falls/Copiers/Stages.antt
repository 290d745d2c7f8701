-- In incremental mode, how a copier goes on after a piece of work: it comes to a later stage, to a later place, or to a later try.
use Rattle.std.specs.Prelude.{◌+◌, ◌==◌, ◌%◌, nat_lt, if◌then◌else◌, List, ◌∷◌}
use Rattle.std.proofs.Common.{◌≡◌, ℕ, suc, ◌-◌, ◌^◌, ◌<◌, Bool, true, false, inl, inr, refl, arith}
use Rattle.std.proofs.lemmas.Bool.{ltb-true}
use Rattle.seize_words.specs.declared.fault.Fault.{Fault}
use Rattle.map_tables.specs.Chunks.{is_incremental}
use Rattle.map_tables.specs.Probes.{probe_after}
use Rattle.map_tables.specs.declared.probe.Probe.{Probe}
use Rattle.map_tables.specs.declared.table.Table.{Table}
use Rattle.map_machines.specs.CopierStates.{standing, behind, none_left, next_place}
use Rattle.map_machines.specs.CopierCounts.{refusing}
use Rattle.map_machines.specs.CopierPlaces.{next_try}
use Rattle.map_machines.specs.declared.copier.Copier.{Copier}
use Rattle.map_machines.specs.declared.copier.Copying.TheVariants as at
use Rattle.many_calls.specs.Given.RuleChart.{Chart}
use Rattle.many_calls.specs.Given.RuleWords.{Blocks}
use Rattle.many_calls.specs.Given.PointsMeasures.{IsBelow}
use Rattle.map_measures.specs.Falls.Room.{planned_in_copying}
use Rattle.map_measures.specs.Falls.Copies.{number_of_copier}

module _ {K : Type 0} (c : Chart K) (blocks : Blocks) where
  -- no table is made within it, and its number is lower
  abbrev pub IsLower : List ℕ → Copier → Type 0
  IsLower xs q = (planned_in_copying q.stands ≡ 0) × IsBelow (number_of_copier c blocks q) xs

  module _ (p : Copier) where
    pub behind_below : (n : ℕ) (xs : List ℕ) → 2 < n → IsLower (n ∷ xs) (behind p)
    behind_below n xs early = by p.whole
      where
        by : (b : Bool) → IsLower (n ∷ xs) (if b then record p { place = 0; end = 0; spent = is_incremental p.setting.mode; stands = at.Asks } else standing p at.Over)
        by true = (refl, inl early)
        by false = (refl, inl (omega arith))

    pub none_left_below : (n : ℕ) (xs : List ℕ) → 2 < n → IsLower (n ∷ xs) (none_left p)
    none_left_below n xs early = by p.whole
      where
        by : (b : Bool) → IsLower (n ∷ xs) (if b then record p { spent = true; stands = at.Asks } else standing p at.Over)
        by true = (refl, inl early)
        by false = (refl, inl (omega arith))

    pub next_below : (places : ℕ) (xs : List ℕ) → p.end - p.place ≡ places → IsLower (8 ∷ places ∷ xs) (next_place p)
    next_below places xs is = by (nat_lt p.place (p.end - 1)) refl
      where
        ends : (b : Bool) → IsLower (8 ∷ places ∷ xs) (if b then behind p else standing p at.Counts)
        ends true = behind_below 8 (places ∷ xs) (omega arith)
        ends false = (refl, inl (omega arith))

        by : (b : Bool) → nat_lt p.place (p.end - 1) ≡ b
            → IsLower (8 ∷ places ∷ xs) (if b then record p { place = p.place + 1; stands = at.Marks } else (if p.done == 0 then behind p else standing p at.Counts))
        by true e = (refl, inr (refl, inl (let l = ltb-true p.place (p.end - 1) e in omega (arith, l, is))))
        by false e = ends (p.done == 0)

    -- the place of a try is taken: the next try is made, or the table is left
    pub next_try_below : (word code : ℕ) (table : Table) (probe : Probe) → is_incremental p.setting.mode ≡ true → table.limit < 2 ^ 64 → (past : ℕ) → c.past ≡ past → (xs : List ℕ)
        → IsLower (8 ∷ (p.end - p.place) ∷ 1 ∷ (past - table.turn) ∷ suc (table.limit - probe.len) ∷ xs) (next_try p word code table probe)
    next_try_below word code table probe mode low past past_is xs = by (nat_lt probe.len table.limit) refl (is_incremental p.setting.mode) mode
      where
        by : (b : Bool) → nat_lt probe.len table.limit ≡ b → (incremental : Bool) → incremental ≡ true
            → IsLower (8 ∷ (p.end - p.place) ∷ 1 ∷ (past - table.turn) ∷ suc (table.limit - probe.len) ∷ xs)
            (if b then standing p (at.Probes word code table (probe_after probe (table.len - 1))) else
            (if incremental then standing p (at.Passes word code table) else record p { place = 0; end = 0; done = 0; stands = at.Aborts }))
        by true e incremental is =
            let l = ltb-true probe.len table.limit e in
            let next : (probe.len + 1) % 2 ^ 64 ≡ probe.len + 1 = omega (arith, l, low) in
            (refl, inr (refl, inr (refl, inr (refl, inr (omega (arith, past_is), inl (omega (arith, next, l)))))))
        by false e true is = (refl, inr (refl, inr (refl, inr (refl, inr (omega (arith, past_is), inl (omega arith))))))
        by false e false is = absurd (cc is)

    -- the pair can have no place
    pub refusing_below : (word places : ℕ) (xs : List ℕ) (fault : Fault) → IsLower (8 ∷ places ∷ xs) (refusing p word fault)
    refusing_below word places xs fault = by (p.done == 0)
      where
        by : (b : Bool) → IsLower (8 ∷ places ∷ xs) (if b then standing p (at.Unmarks word fault) else standing p (at.Tallies word fault))
        by true = (refl, inl (omega arith))
        by false = (refl, inl (omega arith))
