-- What a walk has come to by key is carried from one state of its map to the next, and on by its own steps.
use Rattle.std.specs.Prelude.{◌≡◌, ◌≢◌, ℕ, ◌<◌, ◌≤◌, Bool, true, List, [], Option, Some, None, ◌⊎◌}
use Rattle.std.specs.Int.{IsPowerOfTwo}
use Rattle.std.specs.List.{AllByRecursion}
use Rattle.std.proofs.Common.{refl, ap, sym, subst, ◌∙◌, arith, inl, inr}
use Rattle.run_finds.specs.Given.SeizeWordsMem.{Mem, Took, value_at}
use Rattle.run_finds.specs.Given.SeizeWordsPlan.{Steps}
use Rattle.run_finds.specs.Given.SeizeWordsDeclared.fault.Fault.{Fault}
use Rattle.run_finds.proofs.Given.SeizeRuleRows.Leaving.{steps_back}
use Rattle.run_finds.specs.Given.SeizeWorld.{World}
use Rattle.run_finds.specs.Given.TablesChunks.{is_incremental}
use Rattle.run_finds.specs.Given.TablesDeclared.node.Node.{Node}
use Rattle.run_finds.specs.Given.TablesDeclared.setting.Setting.{Setting}
use Rattle.run_finds.specs.Given.TablesDeclared.status.TheConstants.Status.{ABORTED}
use Rattle.run_finds.specs.Given.TablesDeclared.table.Table.{Table}
use Rattle.run_finds.specs.Given.ResizeCopier.{copier_plan}
use Rattle.run_finds.specs.Given.ResizeDeclared.copier.Copier.{Copier}
use Rattle.run_finds.specs.Given.ResizeDeclared.yielding.Yielding.{Yielding}
use Rattle.run_finds.specs.Given.ResizeDeclared.yielding.Yielding.TheVariants as outcome
use Rattle.run_finds.specs.Given.SweepsSweep.{copied, plan_at, sweep_plan}
use Rattle.run_finds.specs.Given.SweepsSweepPoints.{entering, told}
use Rattle.run_finds.specs.Given.ReservesDeclared.sweep.Purpose.TheVariants.{Walks}
use Rattle.run_finds.specs.Given.ReservesDeclared.sweep.Sweep.{Sweep}
use Rattle.run_finds.specs.Given.ReservesDeclared.sweep.Sweeping.{Sweeping}
use Rattle.run_finds.specs.Given.ReservesDeclared.sweep.Sweeping.TheVariants as at
use Rattle.run_finds.specs.Given.ReservesDeclared.sweep.Swept.{Swept}
use Rattle.run_finds.specs.Given.ReservesDeclared.sweep.Swept.TheVariants as swept
use Rattle.run_finds.specs.Given.RuleChart.{Chart}
use Rattle.run_finds.specs.Given.RuleInWorld.{IsMapIn, Moved}
use Rattle.run_finds.specs.Given.RuleMaps.{spot_of}
use Rattle.run_finds.specs.Given.RuleMoments.{Moments}
use Rattle.run_finds.specs.Given.RuleRule.{IsLawful, Rule}
use Rattle.run_finds.specs.Given.RuleWords.{Blocks}
use Rattle.run_finds.proofs.Given.RuleMoves.Promised.{moves_keep}
use Rattle.run_finds.specs.Given.PointsSteps.{AreLawful}
use Rattle.run_finds.specs.Given.LateCovers.{times, WasSince, CoversAt}
use Rattle.run_finds.specs.Given.LateFactsSweeps.{GoesOver, SweepingFacts}
use Rattle.run_finds.specs.Given.LateToldSweeps.{IsRowOfSweep}
use Rattle.run_finds.proofs.Given.LateSwept.Sweeps.Points.{went_sweep}
use Rattle.run_finds.proofs.Given.LateSwept.Sweeps.Tables.{upto_in, live_in}
use Rattle.run_finds.specs.Given.CallersOverAll.{CallOverAll, sweep_once_over, past_sweeping}
use Rattle.run_finds.specs.Given.CallersSights.{Visible, seen_by}
use Rattle.run_finds.specs.Given.CallersTogether.{UnderWay, OverAll, IsAtPoint, Together, in_slot}
use Rattle.run_finds.proofs.Given.CallersSights.Seen.{map_seen}
use Rattle.run_finds.proofs.Given.CallersTogether.Few.{claim_few}
use Rattle.run_finds.proofs.Given.CallersTogether.Fits.{map_in_slot}
use Rattle.run_finds.specs.Given.FinishesMaps.{Standing, IsSameMap}
use Rattle.run_finds.specs.Purposes.Keys.{KeysAt, AreKeyed}
use Rattle.run_finds.specs.Purposes.Purposes.{KeysOf}
use Rattle.run_finds.specs.Given.NamedMachines.{IsBefore}
use Rattle.run_sweeps.proofs.Purposes.KeysOn.{IsLow, StandsLow, keys_at_on}
use Rattle.run_sweeps.proofs.Purposes.KeysSteps.{Leads, copies_lead, walk_leads}
use Rattle.run_sweeps.proofs.Purposes.Lists.{all_on, all_both}
use Rattle.run_sweeps.proofs.Purposes.Onward.{not_walking, not_retaining}
use Rattle.run_finds.proofs.Given.General.{same_some as one_of}

-- a map stands on with its setting, by one move at most, of this caller
pub record StandsMoved {K : Type 0} (same : K → K → Bool) (caller : ℕ) (before st : Standing K) : Type 0 where
  pub hash : st.hash ≡ before.hash
  pub mode : is_incremental st.setting.mode ≡ is_incremental before.setting.mode
  pub moved : Moved same before.hash before.setting.mode caller before.chart st.chart

pub stood_moved : {K : Type 0} (same : K → K → Bool) (caller : ℕ) (o o2 : Option (Standing K)) → IsSameMap o o2 → (before st : Standing K) → o ≡ Some before → o2 ≡ Some st
    → StandsMoved same caller before st
stood_moved same caller None o2 none before st was is = absurd (cc was)
stood_moved same caller (Some there) o2 (blocks, sights, here, part) before st was is =
    let one = one_of st (record there { blocks = blocks; sights = sights }) (sym is ∙ here) in
    subst (λ (x : Standing _). StandsMoved same caller x st) (one_of there before was)
    (record { hash = ap (λ (x : Standing _). x.hash) one; mode = ap (λ (x : Standing _). is_incremental x.setting.mode) one; moved = inl (ap (λ (x : Standing _). x.chart) one) })

module _ {K : Type 0} (same : K → K → Bool) (caller : ℕ) (before st : Standing K) (how : StandsMoved same caller before st) (lawful : IsLawful same (spot_of before.hash))
    (rule : Rule same (spot_of before.hash) (is_incremental before.setting.mode) before.chart) (moments : Moments (is_incremental before.setting.mode) before.chart) (began : ℕ)
    (since : began ≤ before.chart.now) (stored : (time n : ℕ) → began ≤ time → time ≤ before.chart.now → before.chart.was time n ≡ true → n < before.chart.stored)
    (done : List ℕ) (below : AllByRecursion (λ n. n < before.chart.stored) done) (p : Sweep) (stage : Sweeping) (low : StandsLow before.chart p stage) where
  pub keys_carried : KeysAt same (spot_of before.hash) (is_incremental before.setting.mode) before.chart began p done stage
      → KeysAt same (spot_of st.hash) (is_incremental st.setting.mode) st.chart began p done stage
  keys_carried h =
      subst (λ (x : K → ℕ). KeysAt same (spot_of x) (is_incremental st.setting.mode) st.chart began p done stage) (sym how.hash)
      (subst (λ (x : Bool). KeysAt same (spot_of before.hash) x st.chart began p done stage) (sym how.mode) (by how.moved))
    where
      by : Moved same before.hash before.setting.mode caller before.chart st.chart → KeysAt same (spot_of before.hash) (is_incremental before.setting.mode) st.chart began p done stage
      by (inl kept) = subst (λ (x : Chart K). KeysAt same (spot_of before.hash) (is_incremental before.setting.mode) x began p done stage) (sym kept) h
      by (inr (move, allowed, is, own)) =
          subst (λ (x : Chart K). KeysAt same (spot_of before.hash) (is_incremental before.setting.mode) x began p done stage) (sym is)
          (keys_at_on same before.hash (is_incremental before.setting.mode) lawful before.chart rule moments move allowed began since stored done below p stage low h)

-- its pairs have the keys that they had
pub keyed_carried : {K : Type 0} (same : K → K → Bool) (caller : ℕ) (before st : Standing K) → StandsMoved same caller before st → IsLawful same (spot_of before.hash)
    → Rule same (spot_of before.hash) (is_incremental before.setting.mode) before.chart → (done : List ℕ) → AllByRecursion (λ n. n < before.chart.stored) done
    → AreKeyed before.chart done → AreKeyed st.chart done
keyed_carried {K} same caller before st how lawful rule done below keyed =
    all_on (λ n. (n < before.chart.stored) × ((k : K) × (before.chart.key n ≡ Some k))) (λ n. (k : K) × (st.chart.key n ≡ Some k)) (λ n h. (h.1.0, on n h.0 ∙ h.1.1)) done
    (all_both (λ n. n < before.chart.stored) (λ n. (k : K) × (before.chart.key n ≡ Some k)) done below keyed)
  where
    on : (n : ℕ) → n < before.chart.stored → st.chart.key n ≡ before.chart.key n
    on n l = by how.moved
      where
        by : Moved same before.hash before.setting.mode caller before.chart st.chart → st.chart.key n ≡ before.chart.key n
        by (inl kept) = ap (λ (x : Chart K). x.key n) kept
        by (inr (move, allowed, is, own)) =
            ap (λ (x : Chart K). x.key n) is ∙ (moves_keep same (spot_of before.hash) (is_incremental before.setting.mode) lawful move before.chart rule allowed).1.keys n l

module _ {K V : Type 0} (same : K → K → Bool) (hash : K → ℕ) (setting : Setting) (w : World (Node K V)) (c : Chart K) (rule : Rule same (spot_of hash) (is_incremental setting.mode) c) where
  -- it stands in a table that is the root, or was
  low_table : (caller began : ℕ) (blocks : Blocks) (p : Sweep) (t : ℕ) → GoesOver same hash w caller setting c blocks began p t → IsLow c p.table
  low_table caller began blocks p t over =
      let turn : p.table.turn ≡ t = ap (λ (x : Table). x.turn) over.table.is in
      let upto = upto_in same hash c began t (is_incremental setting.mode) over.root in (
        omega (arith, turn, upto),
        subst (λ (x : ℕ). c.status x ≢ ABORTED) (sym turn) (live_in same hash c began t (is_incremental setting.mode) rule over.root),
      )

  low_at : (caller began : ℕ) (blocks : Blocks) (p : Sweep) (stage : Sweeping) → SweepingFacts same hash w caller setting c blocks began p stage → StandsLow c p stage
  low_at caller began blocks p at.Ready (walks, inl none) = λ some. absurd (let zero : p.table.len ≡ 0 = ap (λ (x : Table). x.len) none.0 in omega (arith, some, zero))
  low_at caller began blocks p at.Ready (walks, inr (t, over, most)) = λ some. low_table caller began blocks p t over
  low_at caller began blocks p at.Words (t, (over, inside)) = low_table caller began blocks p t over
  low_at caller began blocks p at.Reads facts = tt
  low_at caller began blocks p at.Follows facts = tt
  low_at caller began blocks p (at.Copies copier) facts = tt
  low_at caller began blocks p (at.Asks word) facts = tt
  low_at caller began blocks p (at.Tries word) facts = tt
  low_at caller began blocks p (at.Counts removed) facts = tt
  low_at caller began blocks p (at.Disposes dispose) facts = tt
  low_at caller began blocks p at.Over facts = tt
  low_at caller began blocks p (at.Refused fault) facts = tt

row_low : {K : Type 0} (c : Chart K) (p : Sweep) (stage : Sweeping) → IsRowOfSweep stage → StandsLow c p stage
row_low c p (at.Copies copier) row = tt
row_low c p (at.Disposes dispose) row = tt
row_low c p _ row = absurd row

-- where it copies pairs, or not
copying_or : (stage : Sweeping) → ((copier : Copier) × (stage ≡ at.Copies copier)) ⊎ ((copier : Copier) → stage ≢ at.Copies copier)
copying_or (at.Copies copier) = inl (copier, refl)
copying_or at.Reads = inr (λ copier e. cc e)
copying_or at.Follows = inr (λ copier e. cc e)
copying_or at.Ready = inr (λ copier e. cc e)
copying_or at.Words = inr (λ copier e. cc e)
copying_or (at.Asks word) = inr (λ copier e. cc e)
copying_or (at.Tries word) = inr (λ copier e. cc e)
copying_or (at.Counts removed) = inr (λ copier e. cc e)
copying_or (at.Disposes dispose) = inr (λ copier e. cc e)
copying_or at.Over = inr (λ copier e. cc e)
copying_or (at.Refused fault) = inr (λ copier e. cc e)

told_over : {T : Type 0} (stage : Sweeping) → told {T = T} stage ≡ swept.Done → stage ≡ at.Over
told_over at.Over e = refl
told_over at.Ready e = absurd (cc e)
told_over (at.Asks word) e = absurd (cc e)
told_over (at.Refused fault) e = absurd (cc e)
told_over _ e = absurd (cc e)

copied_over : {K V : Type 0} (p : Sweep) (b : Copier × Yielding (Node K V) Table) (end : Sweep × Swept (Node K V)) → end ≡ copied p b → end.1 ≡ swept.Done → end.0.stands ≡ at.Over
copied_over {K} {V} p b end is done = subst (λ (x : Sweep × Swept (Node K V)). x.1 ≡ swept.Done → x.0.stands ≡ at.Over) (sym is) (by b) done
  where
    by : (b : Copier × Yielding (Node K V) Table) → (copied p b).1 ≡ swept.Done → (copied p b).0.stands ≡ at.Over
    by (next, outcome.Goes) e = absurd (cc e)
    by (next, outcome.Waits) e = absurd (cc e)
    by (next, outcome.Gave value) e = absurd (cc e)
    by (next, outcome.Done root) e = told_over {T = Node K V} (entering p root).stands e
    by (next, outcome.Refused fault) e = absurd (cc e)

module _ {K V : Type 0} (same : K → K → Bool) (hash : K → ℕ) (are : AreLawful same hash) (setting : Setting) (initial : IsPowerOfTwo setting.initial) (slot : ℕ → ℕ) (w : World (Node K V))
    (c : Chart K) (blocks : Blocks) (sights : ℕ → Visible) (calls : ℕ → Option (UnderWay K V K)) (each : Together V same hash same setting slot w c blocks sights calls) (i : ℕ) (o : CallOverAll)
    (has : calls i ≡ Some (OverAll o)) where
  abbrev pub seen : Blocks
  seen = seen_by blocks (sights (slot i))

  abbrev pub its_setting : Setting
  its_setting = in_slot setting (slot i)

  pub its_map : IsMapIn same hash its_setting w c seen
  its_map = map_seen same hash its_setting w c blocks (sights (slot i)) (map_in_slot same hash setting w c blocks (slot i) each.ground.map) (each.ground.sight (slot i) (each.inside i (OverAll o) has)).0

  -- a sweep that is under way stands in a table that is the root, or was
  pub low_stands : StandsLow c o.sweep o.sweep.stands
  low_stands = elim (each.stand i (OverAll o) has) as (λ _. StandsLow c o.sweep o.sweep.stands) [
    | inl k ↦ low_at same hash its_setting w c its_map.map.rule i o.began seen o.sweep o.sweep.stands k.1.facts.point
    | inr k ↦ row_low c o.sweep o.sweep.stands k.1
  ]

  pub since : o.began ≤ c.now
  since = elim (each.stand i (OverAll o) has) as (λ _. o.began ≤ c.now) [
    | inl k ↦ k.1.began_before
    | inr k ↦ k.2.began_before
  ]

  pub setting_is : o.sweep.setting ≡ its_setting
  setting_is = elim (each.stand i (OverAll o) has) as (λ _. o.sweep.setting ≡ its_setting) [
    | inl k ↦ k.1.facts.setting_is
    | inr k ↦ k.2.facts.setting_is
  ]

  module _ (walks : o.sweep.purpose ≡ Walks) where
    -- no walk disposes of a pair
    none_row : (p : Sweep) → p.purpose ≡ Walks → (stage : Sweeping) → ((copier : Copier) → stage ≢ at.Copies copier) → SweepingFacts same hash w i its_setting c seen o.began p stage → IsRowOfSweep stage → ⊥
    none_row p is (at.Copies copier) other facts row = other copier refl
    none_row p is (at.Disposes dispose) other facts row = not_walking p.purpose is facts.0
    none_row p is _ other facts row = row

    none_within : (p : Sweep) → p.purpose ≡ Walks → (stage : Sweeping) → ((copier : Copier) → stage ≢ at.Copies copier) → SweepingFacts same hash w i its_setting c seen o.began p (past_sweeping stage)
        → IsRowOfSweep stage → ⊥
    none_within p is (at.Copies copier) other facts row = other copier refl
    none_within p is (at.Disposes dispose) other facts row = not_walking p.purpose is facts.0
    none_within p is _ other facts row = row

    module _ (h : KeysAt same (spot_of hash) (is_incremental setting.mode) c o.began o.sweep o.done o.sweep.stands) (at_first : IsBefore o.sweep.stands → o.done ≡ []) (m2 : Mem (Node K V))
        (end : Sweep × Swept (Node K V)) (steps : Steps Took value_at w.memory (sweep_plan hash o.sweep) m2 end) where
      abbrev pub LeadsOn : Type 0
      LeadsOn = Leads same hash are its_setting i o.began w c seen o.sweep setting_is walks o.done end

      copies_on : (copier : Copier) → o.sweep.stands ≡ at.Copies copier → LeadsOn
      copies_on copier is =
          let d = steps_back (copied o.sweep) w.memory m2 (copier_plan hash copier) end (subst (λ (x : Sweeping). Steps Took value_at w.memory (plan_at hash o.sweep x) m2 end) is steps) in
          copies_lead same hash are its_setting i o.began w c seen o.sweep setting_is walks o.done
          (subst (KeysAt same (spot_of hash) (is_incremental setting.mode) c o.began o.sweep o.done) is h) end d.0 d.2

      others_on : ((copier : Copier) → o.sweep.stands ≢ at.Copies copier) → IsAtPoint V same hash same setting slot w c seen i (OverAll o) → LeadsOn
      others_on other (inl (rests, k)) =
          let went = went_sweep same hash are i its_setting initial o.began w c seen its_map each.ground.moments (λ blocking t made. claim_few calls c (each.few blocking) t made) o.sweep k.facts m2 end
          (none_row o.sweep walks o.sweep.stands other k.facts.point) steps in
          walk_leads same hash are its_setting i o.began w c seen o.sweep setting_is walks o.done its_map each.ground.moments since o.sweep.stands refl k.facts.point h at_first low_stands end
          went.w2 went.c2 went.blocks2 went.told.1
      others_on other (inr (row, is_row, k)) = absurd (none_within (sweep_once_over o.sweep) walks o.sweep.stands other k.facts.point is_row)

      -- within a row it ends where it is over, and it does not end once it was refused
      pub row_over : IsRowOfSweep o.sweep.stands → end.1 ≡ swept.Done → end.0.stands ≡ at.Over
      row_over row done = elim (copying_or o.sweep.stands) as (λ _. end.0.stands ≡ at.Over) [
        | inl a ↦
            (let d = steps_back (copied o.sweep) w.memory m2 (copier_plan hash a.0) end (subst (λ (x : Sweeping). Steps Took value_at w.memory (plan_at hash o.sweep x) m2 end) a.1 steps) in
            copied_over o.sweep d.0 end d.2 done)
        | inr other ↦
            absurd (elim (each.stand i (OverAll o) has) as (λ _. ⊥) [
              | inl k ↦ none_row o.sweep walks o.sweep.stands other k.1.facts.point row
              | inr k ↦ none_within (sweep_once_over o.sweep) walks o.sweep.stands other k.2.facts.point row
            ])
      ]

      pub not_refused : (fault : Fault) → o.sweep.stands ≡ at.Refused fault → end.1 ≡ swept.Done → ⊥
      not_refused fault is done =
          let s : end ≡ (o.sweep, swept.Refused fault) = (subst (λ (x : Sweeping). Steps Took value_at w.memory (plan_at hash o.sweep x) m2 end) is steps).1 in
          let told = ap (λ z. z.1) s in cc (told, done)

      -- where it ends, what it has done was in the map since it began
      module _ (ends : end.1 ≡ swept.Done) (p : ℕ) (l : 0 < times p o.done) where
        none_before : IsBefore o.sweep.stands → ⊥
        none_before first = let none = subst (λ (x : List ℕ). 0 < times p x) (at_first first) l in omega (arith, none)

        from_entered : o.began ≤ o.entered → WasSince c o.entered p → WasSince c o.began p
        from_entered from (time, late, to, was) = (time, omega (arith, from, late), to, was)

        was_at : o.began ≤ o.entered → (stage : Sweeping) → o.sweep.stands ≡ stage → SweepingFacts same hash w i its_setting c seen o.began o.sweep stage
            → CoversAt hash c seen o.sweep o.entered o.done stage → WasSince c o.began p
        was_at from at.Reads is facts covers = absurd (none_before (subst IsBefore (sym is) tt))
        was_at from at.Follows is facts covers = absurd (none_before (subst IsBefore (sym is) tt))
        was_at from (at.Copies copier) is facts covers = absurd (none_before (subst IsBefore (sym is) tt))
        was_at from at.Ready is facts (inl at_end) = from_entered from (at_end.1.shown.0 p l)
        was_at from at.Ready is facts (inr goes) = from_entered from (goes.1.shown.0 p l)
        was_at from at.Words is facts covers = from_entered from (covers.shown.0 p l)
        was_at from (at.Asks word) is facts covers = absurd (not_retaining o.sweep.purpose walks facts.0)
        was_at from (at.Tries word) is facts covers = absurd (not_walking o.sweep.purpose walks facts.0)
        was_at from (at.Counts removed) is facts covers = absurd (not_walking o.sweep.purpose walks facts.0)
        was_at from (at.Disposes dispose) is facts covers = absurd (not_walking o.sweep.purpose walks facts.0)
        was_at from at.Over is facts covers = from_entered from (covers.shown.0 p l)
        was_at from (at.Refused fault) is facts covers = absurd (not_refused fault is ends)

        row_before : (stage : Sweeping) → IsRowOfSweep stage → o.sweep.stands ≡ stage → SweepingFacts same hash w i its_setting c seen o.began (sweep_once_over o.sweep) (past_sweeping stage) → ⊥
        row_before (at.Copies copier) row is facts = none_before (subst IsBefore (sym is) tt)
        row_before (at.Disposes dispose) row is facts = not_walking o.sweep.purpose walks facts.0
        row_before _ row is facts = row

        pub done_was : WasSince c o.began p
        done_was = elim (each.stand i (OverAll o) has) as (λ _. WasSince c o.began p) [
          | inl k ↦ was_at k.1.from o.sweep.stands refl k.1.facts.point k.1.covers
          | inr k ↦ absurd (row_before o.sweep.stands k.1 refl k.2.facts.point)
        ]

      -- so it is by each of its own steps
      pub leads_on : LeadsOn
      leads_on = elim (copying_or o.sweep.stands) as (λ _. LeadsOn) [
        | inl a ↦ copies_on a.0 a.1
        | inr other ↦ others_on other (each.stand i (OverAll o) has)
      ]

-- a walk that is under way on the map stays at what it has come to
pub keys_kept : {K V : Type 0} (same : K → K → Bool) (caller : ℕ) (before st : Standing K) → StandsMoved same caller before st → (are : AreLawful same before.hash)
    → (initial : IsPowerOfTwo before.setting.initial) (slot : ℕ → ℕ) (w : World (Node K V)) (calls : ℕ → Option (UnderWay K V K))
    → (each : Together V same before.hash same before.setting slot w before.chart before.blocks before.sights calls) (i : ℕ) (o : CallOverAll) → calls i ≡ Some (OverAll o)
    → ((time n : ℕ) → o.began ≤ time → time ≤ before.chart.now → before.chart.was time n ≡ true → n < before.chart.stored) → AllByRecursion (λ n. n < before.chart.stored) o.done
    → KeysOf same before o → KeysOf same st o
keys_kept same caller before st how are initial slot w calls each i o has stored below h = (
  keys_carried same caller before st how are.lawful each.ground.map.map.rule each.ground.moments o.began
      (since same before.hash are before.setting initial slot w before.chart before.blocks before.sights calls each i o has) stored o.done below o.sweep o.sweep.stands
      (low_stands same before.hash are before.setting initial slot w before.chart before.blocks before.sights calls each i o has) h.0,
  keyed_carried same caller before st how are.lawful each.ground.map.map.rule o.done below h.1,
)
