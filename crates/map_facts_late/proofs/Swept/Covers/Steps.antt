-- What a sweep comes to by each of its own steps.
use Rattle.std.specs.Prelude.{◌≡◌, ◌≢◌, ℕ, suc, ◌<◌, ◌≤◌, Bool, true, false, List, [], if◌then◌else◌}
use Rattle.std.proofs.Common.{refl, ap, inl, inr, sym, subst, ◌∙◌, arith}
use Rattle.map_facts.specs.Given.SeizeWorld.{World}
use Rattle.map_facts.specs.Given.SeizeDeclared.rows.settle.Settled.{Settled}
use Rattle.map_facts.specs.Given.SeizeDeclared.rows.settle.Settled.TheVariants as settled
use Rattle.map_facts.specs.Given.TablesChunks.{is_incremental}
use Rattle.map_facts.specs.Given.TablesDeclared.node.Node.{Node}
use Rattle.map_facts.specs.Given.TablesDeclared.setting.Setting.{Setting}
use Rattle.map_facts.specs.Given.TablesDeclared.table.Table.{Table}
use Rattle.map_facts.specs.Given.ResizeDeclared.copier.Copier.{Copier}
use Rattle.map_facts.specs.Given.ResizeDeclared.dispose.Dispose.{Dispose}
use Rattle.map_facts.specs.Given.ResizeDeclared.yielding.Yielding.{Yielding}
use Rattle.map_facts.specs.Given.ResizeDeclared.yielding.Yielding.TheVariants as outcome
use Rattle.map_facts.specs.Given.SweepsSweep.{copied, disposed}
use Rattle.map_facts.specs.Given.SweepsSweepPoints.{removes, tableless, beginning, entering, further, seen}
use Rattle.map_facts.specs.Given.ReservesDeclared.sweep.Sweep.{Sweep}
use Rattle.map_facts.specs.Given.ReservesDeclared.sweep.Sweeping.{Sweeping}
use Rattle.map_facts.specs.Given.ReservesDeclared.sweep.Sweeping.TheVariants as at
use Rattle.map_facts.specs.Given.ReservesDeclared.sweep.Swept.{Swept}
use Rattle.map_facts.specs.Given.RuleChart.{Phase, Tombstone, Holds, Chart}
use Rattle.map_facts.specs.Given.RuleMoves.{Removes, after}
use Rattle.map_facts.specs.Given.RuleWords.{Blocks, place_word}
use Rattle.map_facts.specs.Given.RuleMaps.{spot_of, IsTable}
use Rattle.map_facts.specs.Given.RuleMoments.{Moments}
use Rattle.map_facts.specs.Given.RuleInWorld.{IsMapIn, Moved, SameBlocks}
use Rattle.map_facts.proofs.Given.RuleHistory.History.{history_kept}
use Rattle.map_facts.proofs.Given.RuleMoves.Writes.{put_in_here}
use Rattle.map_facts.specs.Steps.{AreLawful}
use Rattle.map_facts_late.specs.Covers.{Came, Covers, CoversAt}
use Rattle.map_facts_late.specs.CoversSweeps.{DoneBy, DoneAt, CoversOn}
use Rattle.map_facts_late.specs.FactsSweeps.{WasRoot, GoesOver, HasNoTable, SweepingFacts, SweepFacts}
use Rattle.map_facts_late.proofs.Swept.Covers.Begins.{begins, bare_came}
use Rattle.map_facts_late.proofs.Swept.Covers.Kept.{turn_is, alive, kept_moved}
use Rattle.map_facts_late.proofs.Swept.Covers.On.{done_told, further_covers, seen_covers}
use Rattle.map_facts_late.proofs.Swept.Covers.Passes.{passes}
use Rattle.map_facts_late.proofs.Swept.Covers.Told.{within, next_is}
use Rattle.map_facts_late.proofs.Swept.Sweeps.Moved.{EndsWith, SweepMoves}
use Rattle.map_facts_late.proofs.Swept.Sweeps.Tables.{first_was, pair_some}

module _ {K V : Type 0} (same : K → K → Bool) (hash : K → ℕ) (are : AreLawful same hash) (setting : Setting) (caller : ℕ) (began : ℕ) where
  -- it has begun to go over a table
  module _ (w : World (Node K V)) (c : Chart K) (blocks : Blocks) (map : IsMapIn same hash setting w c blocks) (moments : Moments (is_incremental setting.mode) c) (since : began ≤ c.now) (p : Sweep) where
    abbrev From : Sweep → Type 0
    From q = (entered : ℕ) × (began ≤ entered) × CoversAt hash c blocks q entered [] q.stands

    over_from : (table : Table) (t : ℕ) → IsTable c blocks table t → WasRoot same hash w caller setting c blocks began t → (is_incremental setting.mode ≡ true → c.past ≤ suc t)
        → From (beginning (record p { table = table }))
    over_from table t entered root last =
        let start = begins same hash c (is_incremental setting.mode) map.map.rule moments began since t entered.made root last in
        let turn : table.turn ≡ t = ap (λ (x : Table). x.turn) entered.is in
        let some : 0 < table.len = (let l = (map.map.rule.common.lens t entered.made).0 in let len : table.len ≡ c.len t = ap (λ (x : Table). x.len) entered.is in omega (arith, l, len)) in
        (start.0, start.1, by (removes p.purpose) some (subst (λ (x : ℕ). Covers c start.0 x 0 p.purpose false []) (sym turn) (start.2 p.purpose false)))
      where
        by : (r : Bool) → {entered : ℕ} → 0 < table.len → Covers c entered table.turn 0 p.purpose false []
            → CoversAt hash c blocks (record p { table = table; place = 0; met = false; stands = if r then at.Words else at.Ready }) entered [] (if r then at.Words else at.Ready)
        by true some h = h
        by false some h = inr (some, h)

    enters_from : (table : Table) (t : ℕ) → IsTable c blocks table t → WasRoot same hash w caller setting c blocks began t → p.setting ≡ setting → From (entering p table)
    enters_from table t entered root setting_is = by (is_incremental p.setting.mode) (ap (λ (s : Setting). is_incremental s.mode) setting_is)
      where
        by : (b : Bool) → b ≡ is_incremental setting.mode → From (if b then record p { table = table; stands = at.Follows } else beginning (record p { table = table }))
        by true e = (began, omega arith, tt)
        by false e = over_from table t entered root (λ bits. absurd (cc (bits, e)))

    bare_from : c.past ≤ c.first → HasNoTable same hash w caller setting c blocks began p → From (tableless p)
    bare_from bare none = (c.now, since, by (removes p.purpose))
      where
        came : Came c c.now p.purpose []
        came = bare_came same hash c (is_incremental setting.mode) map.map.rule moments began since bare p.purpose

        by : (r : Bool) → CoversAt hash c blocks (record p { stands = if r then at.Over else at.Ready }) c.now [] (if r then at.Over else at.Ready)
        by true = came
        by false = inl (ap (λ (x : Table). x.len) none.0, came)

  module _ (w : World (Node K V)) (c : Chart K) (blocks : Blocks) (map : IsMapIn same hash setting w c blocks) (moments : Moments (is_incremental setting.mode) c) (since : began ≤ c.now) (p : Sweep)
      (f : SweepFacts same hash w caller setting c blocks began p)
      (w2 : World (Node K V)) (c2 : Chart K) (blocks2 : Blocks) (map2 : IsMapIn same hash setting w2 c2 blocks2) (moved : Moved same hash setting.mode caller c c2) (same_blocks : SameBlocks c blocks blocks2)
      (entered : ℕ) (done : List ℕ) (late : began ≤ entered) where
    -- where it leads
    abbrev Leads : Sweeping → Sweep × Swept (Node K V) → Type 0
    Leads stage end =
        (entered2 : ℕ) × (done2 : List ℕ) × (began ≤ entered2) × DoneAt hash c2 blocks2 done done2 entered entered2 end.1 stage × CoversAt hash c2 blocks2 end.0 entered2 done2 end.0.stands

    moments2 : Moments (is_incremental setting.mode) c2
    moments2 = by moved
      where
        by : Moved same hash setting.mode caller c c2 → Moments (is_incremental setting.mode) c2
        by (inl e) = subst (λ (x : Chart K). Moments (is_incremental setting.mode) x) (sym e) moments
        by (inr (move, allowed, e, own)) =
            subst (λ (x : Chart K). Moments (is_incremental setting.mode) x) (sym e) (history_kept same (spot_of hash) (is_incremental setting.mode) are.lawful move c map.map.rule moments allowed).0

    since2 : began ≤ c2.now
    since2 = by moved
      where
        by : Moved same hash setting.mode caller c c2 → began ≤ c2.now
        by (inl e) = subst (λ (x : Chart K). began ≤ x.now) (sym e) since
        by (inr (move, allowed, e, own)) =
            let now = (history_kept same (spot_of hash) (is_incremental setting.mode) are.lawful move c map.map.rule moments allowed).1.now in
            subst (λ (x : Chart K). began ≤ x.now) (sym e) (omega (arith, since, now))

    -- it goes on in its table, where no pair is shown
    module _ (t : ℕ) (over : GoesOver same hash w caller setting c blocks began p t) (inside : p.place < c.len t) where
      held : (n : ℕ) (phase : Phase) (borrowed : Bool) → c.place p.table.turn p.place ≡ Holds n phase borrowed → c.place t p.place ≡ Holds n phase borrowed
      held n phase borrowed e = ap (λ (x : ℕ). c.place x p.place) (sym (turn_is same hash are.lawful setting w caller c blocks began p map moments entered done t over.table)) ∙ e

      sees : c2 ≡ c → blocks2 ≡ blocks → (x : ℕ) (end : Sweep × Swept (Node K V)) → IsTable c blocks p.table x → end ≡ seen p (place_word hash c blocks (c.place x p.place)) → Covers c entered p.table.turn p.place p.purpose p.met done
          → (done2 : List ℕ) × DoneBy hash c2 blocks2 done done2 end.1 × CoversAt hash c2 blocks2 end.0 entered done2 end.0.stands
      sees e g x end there is h =
          let turn : p.table.turn ≡ x = ap (λ (y : Table). y.turn) there.is in
          let is2 : end ≡ seen p (place_word hash c blocks (c.place p.table.turn p.place)) = is ∙ ap (λ (y : ℕ). seen {T = Node K V} p (place_word hash c blocks (c.place y p.place))) (sym turn) in
          subst (λ (y : Chart K). (done2 : List ℕ) × DoneBy hash y blocks2 done done2 end.1 × CoversAt hash y blocks2 end.0 entered done2 end.0.stands) (sym e)
          (subst (λ (y : Blocks). (done2 : List ℕ) × DoneBy hash c y done done2 end.1 × CoversAt hash c y end.0 entered done2 end.0.stands) (sym g)
          (subst (λ (y : Sweep × Swept (Node K V)). (done2 : List ℕ) × DoneBy hash c blocks done done2 y.1 × CoversAt hash c blocks y.0 entered done2 y.0.stands) (sym is2)
          (seen_covers hash c blocks p entered same (is_incremental setting.mode) are.lawful map.map.rule.common (alive same hash are.lawful setting w caller c blocks began p map moments entered done t over)
          (λ n phase borrowed e. map.map.shows.named t p.place n phase borrowed over.table.made over.table.known (held n phase borrowed e))
          (λ n phase borrowed e. pair_some same hash are.fits setting w c blocks map t p.place over.table.made over.table.known n phase borrowed (held n phase borrowed e)
          (ap (place_word hash c blocks) (e ∙ sym (held n phase borrowed e))))
          (let len : p.table.len ≡ c.len t = ap (λ (y : Table). y.len) over.table.is in omega (arith, inside, len))
          (next_is same hash setting w caller c blocks began p map t over inside) (within same hash setting w caller c blocks began p map t over) (Node K V) done h)))

      -- its pair is taken out
      taken_out : c2 ≡ after (spot_of hash) (is_incremental setting.mode) (Removes t p.place) c → Covers c2 entered p.table.turn p.place p.purpose p.met done
          → Covers c2 entered p.table.turn (suc p.place) p.purpose p.met done
      taken_out e h = passes c2 entered p.table.turn p.place p.purpose done p.met p.met h (λ unmet. (unmet, λ n phase borrowed there always. absurd (none n phase borrowed there)))
        where
          none : (n : ℕ) (phase : Phase) (borrowed : Bool) → c2.place p.table.turn p.place ≢ Holds n phase borrowed
          none n phase borrowed there =
              let stone : c2.place t p.place ≡ Tombstone false = ap (λ (x : Chart K). x.place t p.place) e ∙ put_in_here c.place t p.place (Tombstone false) in
              let at_turn : c2.place t p.place ≡ Holds n phase borrowed =
              ap (λ (x : ℕ). c2.place x p.place) (sym (turn_is same hash are.lawful setting w caller c blocks began p map moments entered done t over.table)) ∙ there in
              cc (stone, at_turn)

      went_on : c2 ≡ c → Covers c entered p.table.turn (suc p.place) p.purpose p.met done → CoversAt hash c2 blocks2 (further p) entered done (further p).stands
      went_on e h =
          subst (λ (x : Chart K). CoversAt hash x blocks2 (further p) entered done (further p).stands) (sym e)
          (further_covers hash c blocks2 p entered (within same hash setting w caller c blocks began p map t over) p.met done (next_is same hash setting w caller c blocks began p map t over inside) h)

    same_chart : c2 ≡ c → (place : ℕ) → Covers c entered p.table.turn place p.purpose p.met done → Covers c2 entered p.table.turn place p.purpose p.met done
    same_chart e place h = subst (λ (x : Chart K). Covers x entered p.table.turn place p.purpose p.met done) (sym e) h

    -- it stays where it stands
    stays : CoversAt hash c blocks p entered done p.stands → CoversAt hash c2 blocks2 p entered done p.stands
    stays h = kept_moved same hash are.lawful setting w caller c blocks began p map moments entered done c2 blocks2 moved same_blocks.pairs f h

    copies_lead : (b : Copier × Yielding (Node K V) Table) (copier : Copier) → EndsWith same hash caller setting began w2 c2 blocks2 b → Leads (at.Copies copier) (copied p b)
    copies_lead (next, outcome.Goes) copier ends = (began, [], omega arith, refl, tt)
    copies_lead (next, outcome.Waits) copier ends = (began, [], omega arith, refl, tt)
    copies_lead (next, outcome.Gave value) copier ends = (began, [], omega arith, refl, tt)
    copies_lead (next, outcome.Done table) copier (t, there, root) =
        let h = enters_from w2 c2 blocks2 map2 moments2 since2 p table t there root f.setting_is in (h.0, [], h.1, refl, h.2)
    copies_lead (next, outcome.Refused fault) copier ends = (began, [], omega arith, refl, tt)

    leads_at : (stage : Sweeping) → p.stands ≡ stage → SweepingFacts same hash w caller setting c blocks began p stage → CoversAt hash c blocks p entered done stage → (end : Sweep × Swept (Node K V))
        → SweepMoves same hash caller setting began w c blocks p stage end w2 c2 blocks2 → Leads stage end
    leads_at at.Reads here none h end (e, g, inl (bare, is)) =
        subst (Leads at.Reads) (sym is)
        (let b = bare_from w2 c2 blocks2 map2 moments2 since2 p (subst (λ (x : Chart K). x.past ≤ x.first) (sym e) bare) none in (b.0, [], b.1, refl, b.2))
    leads_at at.Reads here none h end (e, g, inr (table, there, is)) =
        subst (Leads at.Reads) (sym is)
        (let b = enters_from w2 c2 blocks2 map2 moments2 since2 p table c2.first
        (subst (λ (x : Chart K). IsTable x blocks2 table x.first) (sym e) (subst (λ (y : Blocks). IsTable c y table c.first) (sym g) there)) (first_was same hash caller setting w2 c2 blocks2 began map2) f.setting_is in
        (b.0, [], b.1, refl, b.2))
    leads_at at.Follows here (t, there, root) h end (e, g, x, at_x, inl (last, is)) =
        subst (Leads at.Follows) (sym is)
        (let same_turn : x ≡ t = sym (ap (λ (y : Table). y.turn) at_x.is) ∙ ap (λ (y : Table). y.turn) there.is in
        let b = over_from w2 c2 blocks2 map2 moments2 since2 p p.table t (subst (λ (y : Chart K). IsTable y blocks2 p.table t) (sym e) (subst (λ (y : Blocks). IsTable c y p.table t) (sym g) there))
        (subst (λ (y : Chart K). WasRoot same hash w2 caller setting y blocks2 began t) (sym e) root) (λ bits. subst (λ (y : Chart K). y.past ≤ suc t) (sym e) (omega (arith, last, same_turn))) in
        (b.0, [], b.1, refl, b.2))
    leads_at at.Follows here (t, there, root) h end (e, g, x, at_x, inr (next, is)) = subst (Leads at.Follows) (sym is) (began, [], omega arith, refl, tt)
    leads_at (at.Copies copier) here point h end (current, b, is, ends) = subst (Leads (at.Copies copier)) (sym is) (copies_lead b copier ends)
    leads_at at.Words here (t, (over, inside)) h end (e, g, (x, there, is)) = let s = sees t over inside e g x end there is h in (entered, s.0, late, (refl, s.1), s.2)
    leads_at (at.Tries word) here (taking, names, t, (over, inside)) h end (g, inl (e, (x, there, is))) = let s = sees t over inside e g x end there is h in (entered, s.0, late, (refl, s.1), s.2)
    leads_at (at.Tries word) here (taking, names, t, (over, inside)) h end (g, inr (n, there, current, e, is)) =
        subst (Leads (at.Tries word)) (sym is) (
          entered,
          done,
          late,
          (refl, refl),
          taken_out t over inside (e ∙ ap (λ (x : ℕ). after (spot_of hash) (is_incremental setting.mode) (Removes x p.place) c) (sym (ap (λ (y : Table). y.turn) there.2.is) ∙ ap (λ (y : Table). y.turn) over.table.is))
              (tries_stay word here h),
        )
      where
        tries_stay : (word : ℕ) → p.stands ≡ at.Tries word → Covers c entered p.table.turn p.place p.purpose p.met done → Covers c2 entered p.table.turn p.place p.purpose p.met done
        tries_stay word here h = subst (CoversAt hash c2 blocks2 p entered done) here (stays (subst (CoversAt hash c blocks p entered done) (sym here) h))
    leads_at (at.Counts removed) here point h end (e, is) = subst (Leads (at.Counts removed)) (sym is) (entered, done, late, (refl, refl), same_chart e (suc p.place) h)
    leads_at (at.Disposes dispose) here (taking, t, (over, inside), facts) h end (e, b, is) = subst (Leads (at.Disposes dispose)) (sym is) (by b)
      where
        by : (b : Dispose × Settled (Node K V)) → Leads (at.Disposes dispose) (disposed p b)
        by (next, settled.Goes) = (entered, done, late, (refl, refl), same_chart e (suc p.place) h)
        by (next, settled.Waits) = (entered, done, late, (refl, refl), same_chart e (suc p.place) h)
        by (next, settled.Gave value) = (entered, done, late, (refl, refl), same_chart e (suc p.place) h)
        by (next, settled.Done) = (entered, done, late, (refl, done_told (Node K V) hash c2 blocks2 done (further p).stands), went_on t over inside e h)
    leads_at at.Ready here point h end (e, is) = subst (Leads at.Ready) (sym is) (entered, done, late, (refl, refl), stays (subst (CoversAt hash c blocks p entered done) (sym here) h))
    leads_at (at.Asks word) here point h end (e, is) = subst (Leads (at.Asks word)) (sym is) (entered, done, late, (refl, refl), stays (subst (CoversAt hash c blocks p entered done) (sym here) h))
    leads_at at.Over here point h end (e, is) = subst (Leads at.Over) (sym is) (entered, done, late, (refl, refl), stays (subst (CoversAt hash c blocks p entered done) (sym here) h))
    leads_at (at.Refused fault) here point h end (e, is) = subst (Leads (at.Refused fault)) (sym is) (entered, done, late, (refl, refl), stays (subst (CoversAt hash c blocks p entered done) (sym here) h))

  pub covers_by : (w : World (Node K V)) (c : Chart K) (blocks : Blocks) → IsMapIn same hash setting w c blocks → Moments (is_incremental setting.mode) c → began ≤ c.now → (p : Sweep)
      → SweepFacts same hash w caller setting c blocks began p → (w2 : World (Node K V)) (c2 : Chart K) (blocks2 : Blocks) → IsMapIn same hash setting w2 c2 blocks2 → Moved same hash setting.mode caller c c2
      → SameBlocks c blocks blocks2 → (p2 : Sweep) (end : Swept (Node K V)) → SweepMoves same hash caller setting began w c blocks p p.stands (p2, end) w2 c2 blocks2
      → CoversOn hash began c blocks p c2 blocks2 p2 end
  covers_by w c blocks map moments since p f w2 c2 blocks2 map2 moved same_blocks p2 end moves entered done late h =
      leads_at w c blocks map moments since p f w2 c2 blocks2 map2 moved same_blocks entered done late p.stands refl f.point h (p2, end) moves
