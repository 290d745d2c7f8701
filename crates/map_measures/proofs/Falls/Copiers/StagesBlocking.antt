-- In blocking mode, how a copier goes on after a piece of work: it comes to a later place, to a later try, or to less to be claimed.
use Rattle.std.specs.Prelude.{◌+◌, ◌==◌, ◌%◌, nat_lt, if◌then◌else◌, List, [], ◌∷◌}
use Rattle.std.proofs.Common.{◌≡◌, ℕ, zero, suc, ◌-◌, ◌^◌, ◌<◌, Bool, true, false, cond, ◌⊎◌, inl, inr, refl, sym, arith}
use Rattle.std.proofs.lemmas.Bool.{ltb-true}
use Rattle.map_tables.specs.Chunks.{is_incremental}
use Rattle.map_tables.specs.Probes.{probe_after}
use Rattle.map_tables.specs.declared.probe.Probe.{Probe}
use Rattle.map_tables.specs.declared.table.Table.{Table}
use Rattle.map_machines.specs.CopierStates.{standing, behind, none_left, next_place}
use Rattle.map_machines.specs.CopierPlaces.{next_try}
use Rattle.map_machines.specs.declared.copier.Copier.{Copier}
use Rattle.map_machines.specs.declared.copier.Copying.TheVariants as at
use Rattle.many_calls.specs.Given.RuleChart.{Chart}
use Rattle.many_calls.specs.Given.RuleWords.{Blocks}
use Rattle.many_calls.specs.Given.PointsMeasures.{IsBelow}
use Rattle.map_measures.specs.Falls.Room.{planned_in_copying}
use Rattle.map_measures.specs.Falls.CopiesBlocking.{number_of_copier_blocking, targets}

module _ {K : Type 0} (c : Chart K) (blocks : Blocks) where
  -- no table is made within it, and its number is lower
  abbrev pub IsLower : List ℕ → Copier → Type 0
  IsLower xs q = (planned_in_copying q.stands ≡ 0) × IsBelow (number_of_copier_blocking c blocks q) xs

  -- so many tables from its target on, and so much of its source that is not claimed
  module _ (p : Copier) (tables left : ℕ) (tables_is : targets c blocks p ≡ tables) (left_is : p.source.len - c.claim p.target.turn ≡ left) where
    pub behind_below : (places tries point : ℕ) (xs : List ℕ) → (0 < places) ⊎ ((places ≡ 0) × (tries ≡ 0) × (3 < point)) → IsLower (tables ∷ 6 ∷ 1 ∷ left ∷ places ∷ tries ∷ point ∷ xs) (behind p)
    behind_below places tries point xs some = by p.whole
      where
        later : (0 < places) ⊎ ((places ≡ 0) × (tries ≡ 0) × (3 < point)) → (ys : List ℕ) → IsBelow (0 ∷ 0 ∷ 3 ∷ ys) (places ∷ tries ∷ point ∷ xs)
        later (inl l) ys = inl l
        later (inr h) ys = inr (sym h.0, inr (sym h.1, inl h.2))

        asks : (b : Bool) → IsBelow (targets c blocks p ∷ 6 ∷ cond b 0 1 ∷ (p.source.len - c.claim p.target.turn) ∷ 0 ∷ 0 ∷ 3 ∷ 0 ∷ []) (tables ∷ 6 ∷ 1 ∷ left ∷ places ∷ tries ∷ point ∷ xs)
        asks true = inr (tables_is, inr (refl, inl (omega arith)))
        asks false = inr (tables_is, inr (refl, inr (refl, inr (left_is, later some (0 ∷ [])))))

        by : (b : Bool) → IsLower (tables ∷ 6 ∷ 1 ∷ left ∷ places ∷ tries ∷ point ∷ xs)
            (if b then record p { place = 0; end = 0; spent = is_incremental p.setting.mode; stands = at.Asks } else standing p at.Over)
        by true = (refl, asks (is_incremental p.setting.mode))
        by false = (refl, inr (tables_is, inl (omega arith)))

    pub none_left_below : (xs : List ℕ) → IsLower (tables ∷ 6 ∷ 1 ∷ xs) (none_left p)
    none_left_below xs = by p.whole
      where
        by : (b : Bool) → IsLower (tables ∷ 6 ∷ 1 ∷ xs) (if b then record p { spent = true; stands = at.Asks } else standing p at.Over)
        by true = (refl, inr (tables_is, inr (refl, inl (omega arith))))
        by false = (refl, inr (tables_is, inl (omega arith)))

    pub next_below : (tries point : ℕ) (xs : List ℕ) → IsLower (tables ∷ 6 ∷ 1 ∷ left ∷ suc (p.end - p.place) ∷ suc tries ∷ point ∷ xs) (next_place p)
    next_below tries point xs = by (nat_lt p.place (p.end - 1)) refl
      where
        Goal : Copier → Type 0
        Goal = IsLower (tables ∷ 6 ∷ 1 ∷ left ∷ suc (p.end - p.place) ∷ suc tries ∷ point ∷ xs)

        counts : (n : ℕ) (ys : List ℕ) → IsBelow (1 ∷ 0 ∷ ys) (suc n ∷ suc tries ∷ point ∷ xs)
        counts zero ys = inr (refl, inl (omega arith))
        counts (suc n) ys = inl (omega arith)

        asks : (b : Bool) → IsBelow (targets c blocks p ∷ 6 ∷ cond b 0 1 ∷ (p.source.len - c.claim p.target.turn) ∷ 0 ∷ 0 ∷ 3 ∷ 0 ∷ []) (tables ∷ 6 ∷ 1 ∷ left ∷ suc (p.end - p.place) ∷ suc tries ∷ point ∷ xs)
        asks true = inr (tables_is, inr (refl, inl (omega arith)))
        asks false = inr (tables_is, inr (refl, inr (refl, inr (left_is, inl (omega arith)))))

        ended : (b : Bool) → Goal (if b then record p { place = 0; end = 0; spent = is_incremental p.setting.mode; stands = at.Asks } else standing p at.Over)
        ended true = (refl, asks (is_incremental p.setting.mode))
        ended false = (refl, inr (tables_is, inl (omega arith)))

        ends : (b : Bool) → Goal (if b then behind p else standing p at.Counts)
        ends true = ended p.whole
        ends false = (refl, inr (tables_is, inr (refl, inr (refl, inr (left_is, counts (p.end - p.place) (0 ∷ 0 ∷ []))))))

        by : (b : Bool) → nat_lt p.place (p.end - 1) ≡ b → Goal (if b then record p { place = p.place + 1; stands = at.Marks } else (if p.done == 0 then behind p else standing p at.Counts))
        by true e = (refl, inr (tables_is, inr (refl, inr (refl, inr (left_is, inl (let l = ltb-true p.place (p.end - 1) e in omega (arith, l)))))))
        by false e = ends (p.done == 0)

    -- the place of a try is taken: the next try is made, or the target is given up
    pub next_try_below : (word code : ℕ) (table : Table) (probe : Probe) → is_incremental p.setting.mode ≡ false → table.limit < 2 ^ 64 → (xs : List ℕ)
        → IsLower (tables ∷ 6 ∷ 1 ∷ left ∷ suc (p.end - p.place) ∷ suc (table.limit - probe.len) ∷ xs) (next_try p word code table probe)
    next_try_below word code table probe mode low xs = by (nat_lt probe.len table.limit) refl (is_incremental p.setting.mode) mode
      where
        by : (b : Bool) → nat_lt probe.len table.limit ≡ b → (incremental : Bool) → incremental ≡ false
            → IsLower (tables ∷ 6 ∷ 1 ∷ left ∷ suc (p.end - p.place) ∷ suc (table.limit - probe.len) ∷ xs)
            (if b then standing p (at.Probes word code table (probe_after probe (table.len - 1))) else
            (if incremental then standing p (at.Passes word code table) else record p { place = 0; end = 0; done = 0; stands = at.Aborts }))
        by true e incremental is =
            let l = ltb-true probe.len table.limit e in
            let next : (probe.len + 1) % 2 ^ 64 ≡ probe.len + 1 = omega (arith, l, low) in
            (refl, inr (tables_is, inr (refl, inr (refl, inr (left_is, inr (refl, inl (omega (arith, next, l))))))))
        by false e true is = absurd (cc is)
        by false e false is = (refl, inr (tables_is, inl (omega arith)))
