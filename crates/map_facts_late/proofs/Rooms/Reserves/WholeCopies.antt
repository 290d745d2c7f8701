-- In incremental mode, a copier of a whole table ends with one that is the root, or was.
use Rattle.std.specs.Prelude.{◌≡◌, ℕ, suc, ◌+◌, ◌-◌, ◌/◌, ◌%◌, ◌^◌, ◌<◌, ◌≤◌, ◌==◌, Bool, true, false, nat_lt, Some, ◌⊎◌, if◌then◌else◌}
use Rattle.std.proofs.Common.{sym, subst, inl, inr, arith, eqb-true}
use Rattle.std.proofs.lemmas.Bool.{cases_lt}
use Rattle.map_facts.specs.Given.SeizeWordsDeclared.at.At.TheVariants.{Root, Word}
use Rattle.map_facts.specs.Given.SeizeWordsMem.{Mem, value_at, word_at, Took}
use Rattle.map_facts.specs.Given.SeizeWordsOp.{Found}
use Rattle.map_facts.specs.Given.SeizeWordsPlan.{Then, Now, Seeing, Steps, Ends}
use Rattle.map_facts.proofs.Given.SeizeWordsPlans.{ends_if}
use Rattle.map_facts.proofs.Given.SeizeWordsOneOwner.Operations.{loaded, ored, added, exchanged}
use Rattle.map_facts.proofs.Given.SeizeRuleRows.Leaving.{steps_back}
use Rattle.map_facts.specs.Given.SeizeWorld.{World}
use Rattle.map_facts.specs.Given.SeizeDeclared.advance.Advance.{Advance}
use Rattle.map_facts.specs.Given.SeizeDeclared.advance.Advance.TheVariants as progress
use Rattle.map_facts.specs.Given.SeizeDeclared.rows.settle.Settle.{Settle}
use Rattle.map_facts.specs.Given.SeizeDeclared.rows.settle.Settled.{Settled}
use Rattle.map_facts.specs.Given.SeizeDeclared.rows.settle.Settled.TheVariants as settled
use Rattle.map_facts.specs.Given.SeizeSettle.{settle_plan}
use Rattle.map_facts.specs.Given.TablesChunks.{is_incremental}
use Rattle.map_facts.specs.Given.ResizeCopier.{plan_at}
use Rattle.map_facts.specs.Given.ResizeCopierClaims.{status_read}
use Rattle.map_facts.specs.Given.ResizeCopierCounts.{counted}
use Rattle.map_facts.specs.Given.ResizeCopierFurther.{further_read, grown}
use Rattle.map_facts.specs.Given.ResizeCopierMarks.{is_mine, is_awaited, without_copying, probing, key_hash, mine_marked, marked}
use Rattle.map_facts.specs.Given.TablesNodes.{deferred_word, table_seen}
use Rattle.map_facts.specs.Given.ResizeCopierPlaces.{copied_word, place_read, after_put, next_try, pair_put}
use Rattle.map_facts.specs.Given.ResizeCopierPromotes.{promoted, successor_read, retired}
use Rattle.map_facts.specs.Given.ResizeCopierStates.{standing, behind, next_place, place_done}
use Rattle.map_facts.specs.Given.ResizeNewTable.{table_after, new_table_plan}
use Rattle.map_facts.specs.Given.TablesDeclared.lengths.Reason.TheVariants.{NoPlace}
use Rattle.map_facts.specs.Given.TablesTablePlaces.{at_word, at_place}
use Rattle.map_facts.specs.Given.TablesDeclared.node.Node.{Node}
use Rattle.map_facts.specs.Given.ResizeDeclared.yielding.Yielding.{Yielding}
use Rattle.map_facts.specs.Given.ResizeDeclared.yielding.Yielding.TheVariants as outcome
use Rattle.map_facts.specs.Given.TablesDeclared.setting.Setting.{Setting}
use Rattle.map_facts.specs.Given.TablesDeclared.marks.TheConstants.{COPYING}
use Rattle.map_facts.specs.Given.TablesDeclared.probe.Probe.{Probe}
use Rattle.map_facts.specs.Given.TablesDeclared.status.TheConstants.Status.{ABORTED, PROMOTED}
use Rattle.map_facts.specs.Given.TablesDeclared.table.Table.{Table}
use Rattle.map_facts.specs.Given.TablesDeclared.table_words.TheConstants.{NEXT, COPIED, STATUS}
use Rattle.map_facts.specs.Given.ResizeDeclared.new_table.NewTable.{NewTable}
use Rattle.map_facts.specs.Given.ResizeDeclared.copier.Copier.{Copier}
use Rattle.map_facts.specs.Given.ResizeDeclared.copier.Copying.{Copying as Point}
use Rattle.map_facts.specs.Given.ResizeDeclared.copier.Copying.TheVariants as at
use Rattle.map_facts.specs.Given.RuleChart.{Chart}
use Rattle.map_facts.specs.Given.RuleWords.{Blocks}
use Rattle.map_facts.specs.Given.RuleMaps.{IsTable}
use Rattle.map_facts.specs.Given.RuleInWorld.{IsMapIn}
use Rattle.map_facts.specs.FactsCopies.{CopyingFacts}
use Rattle.map_facts.proofs.Given.RuleKeys.Always.{Always, always_if, always_ends}
use Rattle.map_facts.proofs.Given.RuleWords.TablesSeen.{status_there}
use Rattle.map_facts_late.specs.FactsReserves.{IsEnding}
use Rattle.map_facts_late.specs.ToldReserves.{EndsAtRoot}

module _ {K V : Type 0} (same : K → K → Bool) (hash : K → ℕ) (caller : ℕ) (setting : Setting) (w w2 : World (Node K V)) (c c2 : Chart K) (blocks blocks2 : Blocks)
    (map : IsMapIn same hash setting w c blocks) (lasts : (table : Table) (t : ℕ) → IsTable c blocks table t → IsTable c2 blocks2 table t) (first : c.first ≤ c2.first) where
  -- where a step has come to
  abbrev pub ComesToRoot : Copier × Yielding (Node K V) Table → Type 0
  ComesToRoot end = EndsAtRoot w2 caller setting c2 blocks2 same hash end

  abbrev Goes : Copier → Type 0
  Goes p = ComesToRoot (p, outcome.Goes)

  goes_if : (b : Bool) (x y : Copier) → Goes x → Goes y → Goes (if b then x else y)
  goes_if true x y f g = f
  goes_if false x y f g = g

  goes_behind : (q : Copier) → q.whole ≡ true → Goes (behind q)
  goes_behind q whole = by q.whole whole
    where
      by : (b : Bool) → b ≡ true → Goes (if b then record q { place = 0; end = 0; spent = is_incremental q.setting.mode; stands = at.Asks } else standing q at.Over)
      by true e = tt
      by false e = absurd (cc e)

  goes_next : (q : Copier) → q.whole ≡ true → Goes (next_place q)
  goes_next q whole =
      goes_if (nat_lt q.place (q.end - 1)) (record q { place = q.place + 1; stands = at.Marks }) (if q.done == 0 then behind q else standing q at.Counts) tt
      (goes_if (q.done == 0) (behind q) (standing q at.Counts) (goes_behind q whole) tt)

  module _ (p : Copier) (whole : p.whole ≡ true) where
    goes_done : Goes (place_done p)
    goes_done = goes_next (record p { done = (p.done + 1) % 2 ^ 64 }) whole

    goes_try : (word code : ℕ) (table : Table) (probe : Probe) → Goes (next_try p word code table probe)
    goes_try word code table probe =
        goes_if (nat_lt probe.len table.limit) _ _ tt (goes_if (is_incremental p.setting.mode) (standing p (at.Passes word code table)) (record p { place = 0; end = 0; done = 0; stands = at.Aborts }) tt tt)

    goes_put : (word : ℕ) → Goes (pair_put p word)
    goes_put word = goes_if (is_incremental p.setting.mode) (standing p (at.Covers word)) (place_done p) tt goes_done

    -- the status of its target is read: where that one was promoted it is the root, or was
    promoted_target : (t : ℕ) → IsTable c blocks p.target (suc t) → (status : ℕ) → word_at w.memory (at_word p.target STATUS) ≡ Some status → (status == PROMOTED) ≡ true
        → (t : ℕ) × IsTable c2 blocks2 p.target t × (t ≤ c2.first)
    promoted_target t entered status read is = (suc t, lasts p.target (suc t) entered, by (cases_lt c.first (suc t)))
      where
        is_promoted : c.status (suc t) ≡ PROMOTED
        is_promoted = let there = status_there hash w.memory c blocks setting.root map.map.shows p.target (suc t) entered in let e = eqb-true status PROMOTED is in cc

        by : (c.first < suc t) ⊎ (suc t ≤ c.first) → suc t ≤ c2.first
        by (inl l) = absurd (map.map.rule.common.pending (suc t) l is_promoted)
        by (inr l) = omega (arith, l, first)

    module _ (m2 : Mem (Node K V)) (end : Copier × Yielding (Node K V) Table) where
      -- it waits where it stands
      waits_at : (stands : Point) → p.stands ≡ stands → IsEnding same hash w2 caller setting c2 blocks2 p stands → ComesToRoot (p, outcome.Waits)
      waits_at stands here ending = subst (λ (x : Point). IsEnding same hash w2 caller setting c2 blocks2 p x) (sym here) ending

      at_asks : p.stands ≡ at.Asks → CopyingFacts same hash w caller setting c blocks p at.Asks → Steps Took value_at w.memory (plan_at hash p at.Asks) m2 end → ComesToRoot end
      at_asks here f s =
          let d = loaded w.memory (status_read p) (at_word p.target STATUS) m2 end s in
          elim (ends_if (value_at w.memory) (d.0 == PROMOTED) (Now (standing p at.Over, outcome.Goes)) (others d.0) end d.3) as (λ _. ComesToRoot end) [
            | inl h ↦ subst ComesToRoot (sym h.1) (promoted_target f.0 f.1.1 d.0 d.1 h.0)
            | inr h ↦ always_ends ComesToRoot (value_at w.memory) (others d.0) end (so_others d.0) h.1
          ]
        where
          others : ℕ → Then (Node K V) (Copier × Yielding (Node K V) Table)
          others status =
              if status == ABORTED then Now (record p { spent = false; stands = at.Replaces }, outcome.Goes) else
              (if p.spent then Now (p, outcome.Waits) else Now (standing p at.Sees, outcome.Goes))

          so_others : (status : ℕ) → Always ComesToRoot (others status)
          so_others status =
              always_if ComesToRoot (status == ABORTED) (Now (record p { spent = false; stands = at.Replaces }, outcome.Goes))
              (if p.spent then Now (p, outcome.Waits) else Now (standing p at.Sees, outcome.Goes)) tt
              (always_if ComesToRoot p.spent (Now (p, outcome.Waits)) (Now (standing p at.Sees, outcome.Goes)) (waits_at at.Asks here tt) tt)

      at_marks : p.stands ≡ at.Marks → Steps Took value_at w.memory (plan_at hash p at.Marks) m2 end → ComesToRoot end
      at_marks here s =
          let d = ored w.memory (marked hash p) (at_place p.source p.place) COPYING m2 end s in
          always_ends ComesToRoot (value_at m2) (marked hash p (Found d.0)) end (all d.0) (subst (λ (x : Mem (Node K V)). Ends (value_at x) (marked hash p (Found d.0)) end) (sym d.2) d.3)
        where
          all : (word : ℕ) → Always ComesToRoot (marked hash p (Found word))
          all word =
              always_if ComesToRoot (is_mine p word) (mine_marked hash p word) (if is_awaited p word then Now (p, outcome.Waits) else Now (next_place p, outcome.Goes))
              (always_if ComesToRoot (word / 2048 == 0) (Now (place_done p, outcome.Goes))
              (Seeing (word / 2048) (λ value. Now (probing p (without_copying word) (key_hash hash value) p.target, outcome.Goes))) goes_done (λ value. tt))
              (always_if ComesToRoot (is_awaited p word) (Now (p, outcome.Waits)) (Now (next_place p, outcome.Goes)) (waits_at at.Marks here tt) (goes_next p whole))

      at_probes : (word code : ℕ) (table : Table) (probe : Probe) → Steps Took value_at w.memory (plan_at hash p (at.Probes word code table probe)) m2 end → ComesToRoot end
      at_probes word code table probe s =
          let d = loaded w.memory (place_read p word code table probe) (at_place table probe.i) m2 end s in
          always_ends ComesToRoot (value_at w.memory) (place_read p word code table probe (Found d.0)) end
          (always_if ComesToRoot (d.0 == 0) (Now (standing p (at.Puts word code table probe), outcome.Goes)) (Now (next_try p word code table probe, outcome.Goes))
          tt (goes_try word code table probe)) d.3

      at_puts : (word code : ℕ) (table : Table) (probe : Probe) → Steps Took value_at w.memory (plan_at hash p (at.Puts word code table probe)) m2 end → ComesToRoot end
      at_puts word code table probe s =
          elim (exchanged w.memory (after_put p word code table probe) (at_place table probe.i) 0 (copied_word p word) m2 end s) as (λ _. ComesToRoot end) [
            | inl d ↦ subst ComesToRoot (sym d.3) (goes_put word)
            | inr d ↦ subst ComesToRoot (sym d.3) (goes_try word code table probe)
          ]

      at_passes : (word code : ℕ) (table : Table) → Steps Took value_at w.memory (plan_at hash p (at.Passes word code table)) m2 end → ComesToRoot end
      at_passes word code table s =
          let d = loaded w.memory (further_read p word code table) (at_word table NEXT) m2 end s in
          always_ends ComesToRoot (value_at w.memory) (further_read p word code table (Found d.0)) end
          (always_if ComesToRoot (d.0 == 0) (Now (standing p (at.Grows word code (table_after p.setting table NoPlace)), outcome.Goes))
          (Seeing (d.0 / 2048) (λ value. Now (probing p word code (table_seen d.0 value), outcome.Goes))) tt (λ value. tt)) d.3

      at_grows : (word code : ℕ) (making : NewTable) → Steps Took value_at w.memory (plan_at hash p (at.Grows word code making)) m2 end → ComesToRoot end
      at_grows word code making s = let b = steps_back (grown p word code) w.memory m2 (new_table_plan making) end s in subst ComesToRoot (sym b.2) (by b.0)
        where
          by : (e : NewTable × Advance Table) → ComesToRoot (grown p word code e)
          by (next, progress.Goes) = tt
          by (next, progress.Waits) = tt
          by (next, progress.Done table) = tt
          by (next, progress.Refused fault) = goes_if (p.done == 0) (standing p (at.Unmarks word fault)) (standing p (at.Tallies word fault)) tt tt

      at_counts : Steps Took value_at w.memory (plan_at hash p at.Counts) m2 end → ComesToRoot end
      at_counts s =
          let d = added w.memory (counted p) (at_word p.target COPIED) p.done m2 end s in
          always_ends ComesToRoot (value_at m2) (counted p (Found d.0)) end
          (always_if ComesToRoot ((d.0 + p.done) % 2 ^ 64 == p.source.len) (Now (record p { place = 0; end = 0; done = 0; stands = at.Promotes }, outcome.Goes)) (Now (behind (record p { done = 0 }), outcome.Goes))
          tt (goes_behind (record p { done = 0 }) whole))
          (subst (λ (x : Mem (Node K V)). Ends (value_at x) (counted p (Found d.0)) end) (sym d.2) d.3)

      at_promotes : Steps Took value_at w.memory (plan_at hash p at.Promotes) m2 end → ComesToRoot end
      at_promotes s =
          elim (exchanged w.memory (promoted p) (Root p.setting.root) p.source.link p.target.link m2 end s) as (λ _. ComesToRoot end) [
            | inl d ↦ subst ComesToRoot (sym d.3) tt
            | inr d ↦ subst ComesToRoot (sym d.3) (goes_behind p whole)
          ]

      at_succeeds : (table : ℕ) → CopyingFacts same hash w caller setting c blocks p (at.Succeeds table) → Steps Took value_at w.memory (plan_at hash p (at.Succeeds table)) m2 end → ComesToRoot end
      at_succeeds table f s =
          let d = loaded w.memory (successor_read p table) (Word (table / 2048) NEXT) m2 end s in
          let behind = f.0.1 in
          subst ComesToRoot (sym d.3) (suc f.0.0, lasts p.target (suc f.0.0) f.0.3, omega (arith, behind, first))

      -- also where it is a row of the collector's
      at_retires : (settle : Settle) (rest : ℕ) → IsEnding same hash w caller setting c blocks p (at.Retires settle rest)
          → Steps Took value_at w.memory (plan_at hash p (at.Retires settle rest)) m2 end → ComesToRoot end
      at_retires settle rest ending s = let b = steps_back (retired p rest) w.memory m2 (settle_plan deferred_word settle) end s in subst ComesToRoot (sym b.2) (by b.0)
        where
          target : (t : ℕ) × IsTable c2 blocks2 p.target t × (t ≤ c2.first)
          target = (ending.0, lasts p.target ending.0 ending.1, (let l = ending.2 in omega (arith, l, first)))

          by : (e : Settle × Settled (Node K V)) → ComesToRoot (retired p rest e)
          by (next, settled.Goes) = target
          by (next, settled.Waits) = target
          by (next, settled.Gave value) = target
          by (next, settled.Done) = goes_if (rest == 0) (standing p at.Over) (standing p (at.Succeeds rest)) target tt

      pub comes_to_root : (stands : Point) → p.stands ≡ stands → CopyingFacts same hash w caller setting c blocks p stands → IsEnding same hash w caller setting c blocks p stands
          → Steps Took value_at w.memory (plan_at hash p stands) m2 end → ComesToRoot end
      comes_to_root at.Begins here f ending s = absurd (let part = f.4 in cc (whole, part))
      comes_to_root at.Follows here f ending s = absurd (let part = f.3 in cc (whole, part))
      comes_to_root at.Asks here f ending s = at_asks here f s
      comes_to_root at.Sees here f ending s = absurd (let part = f.5 in cc (whole, part))
      comes_to_root at.Claims here f ending s = absurd (let part = f.5 in cc (whole, part))
      comes_to_root at.Marks here f ending s = at_marks here s
      comes_to_root (at.Probes word code table probe) here f ending s = at_probes word code table probe s
      comes_to_root (at.Puts word code table probe) here f ending s = at_puts word code table probe s
      comes_to_root (at.Covers word) here f ending s = subst ComesToRoot (sym s.2) goes_done
      comes_to_root (at.Passes word code table) here f ending s = at_passes word code table s
      comes_to_root (at.Grows word code making) here f ending s = at_grows word code making s
      comes_to_root at.Aborts here f ending s = absurd f
      comes_to_root at.Replaces here f ending s = absurd f
      comes_to_root (at.Remakes making) here f ending s = absurd f
      comes_to_root at.Counts here f ending s = at_counts s
      comes_to_root (at.Tallies word fault) here f ending s = subst ComesToRoot (sym s.2) tt
      comes_to_root (at.Unmarks word fault) here f ending s = subst ComesToRoot (sym s.2) tt
      comes_to_root (at.Unclaims fault) here f ending s = subst ComesToRoot (sym s.2) tt
      comes_to_root at.Promotes here f ending s = at_promotes s
      comes_to_root at.Announces here f ending s = subst ComesToRoot (sym s.2) tt
      comes_to_root (at.Succeeds table) here f ending s = at_succeeds table f s
      comes_to_root (at.Retires settle rest) here f ending s = at_retires settle rest ending s
      comes_to_root at.Over here f ending s = subst ComesToRoot (sym s.1) (ending.0, lasts p.target ending.0 ending.1, (let l = ending.2 in omega (arith, l, first)))
      comes_to_root (at.Refused fault) here f ending s = subst ComesToRoot (sym s.1) tt
