-- A step of a row within a sweep that is alone: it does not wait, and the sweep is alone still, or the owner rests.
use Rattle.std.specs.Prelude.{◌≡◌, ◌≢◌, ℕ, Bool, true, false, Option, Some, None}
use Rattle.std.proofs.Common.{inl, inr, refl, ap, sym, subst, ◌∙◌}
use Rattle.std.proofs.lemmas.Bool.{cases_eq}
use Rattle.seize_words.specs.OneMemory.Mem.{Mem, Can, Took, value_at}
use Rattle.seize_words.specs.OneMemory.Plan.{May, Steps}
use Rattle.seize.specs.declared.advance.Advance.{Advance}
use Rattle.seize.specs.declared.advance.Advance.TheVariants as deferred
use Rattle.seize.specs.declared.rows.defer.Defer.{Defer}
use Rattle.seize.specs.declared.rows.settle.Settle.{Settle}
use Rattle.seize.specs.declared.rows.settle.Settled.{Settled}
use Rattle.seize.specs.declared.rows.settle.Settled.TheVariants as settled
use Rattle.seize.specs.Defer.{defer_plan}
use Rattle.seize.specs.Settle.{settle_plan}
use Rattle.seize.specs.World.{World, Rests, Settles, Defers, IsInside, with_at}
use Rattle.map_measures.proofs.Given.SeizeEndsSettling.Most.{is_going}
use Rattle.map_measures.proofs.Given.SeizeRuleRows.Others.{steps_others}
use Rattle.map_tables.specs.Chunks.{is_incremental}
use Rattle.map_tables.specs.Nodes.{deferred_word}
use Rattle.map_tables.specs.declared.node.Node.{Node}
use Rattle.map_tables.specs.declared.setting.Setting.{Setting}
use Rattle.map_measures.specs.Given.ResizeDeclared.dispose.Dispose.{Dispose}
use Rattle.papaya_raw.specs.Given.SweepsSweep.{sweep_plan}
use Rattle.papaya_raw.specs.Given.SweepsSweepPoints.{told, telling, further}
use Rattle.papaya_raw.specs.Given.ReservesDeclared.sweep.Sweep.{Sweep}
use Rattle.papaya_raw.specs.Given.ReservesDeclared.sweep.Sweeping.{Sweeping}
use Rattle.papaya_raw.specs.Given.ReservesDeclared.sweep.Sweeping.TheVariants as at
use Rattle.papaya_raw.specs.Given.ReservesDeclared.sweep.Swept.{Swept}
use Rattle.papaya_raw.specs.Given.ReservesDeclared.sweep.Swept.TheVariants as swept
use Rattle.map_measures.specs.Given.RuleChart.{Chart}
use Rattle.map_measures.specs.Given.RuleWords.{Blocks}
use Rattle.map_measures.specs.Given.RuleInWorld.{IsMapIn}
use Rattle.owner_facts.specs.Given.PointsSteps.{AreLawful}
use Rattle.owner_facts.specs.Alone.FactsAloneCalls.{TablesAlone}
use Rattle.owner_facts.specs.Given.LateFactsSweeps.{CopiesPairs, SweepingFacts}
use Rattle.owner_facts.specs.Given.LateToldSweeps.{IsRowOfSweep}
use Rattle.owner_facts.proofs.Given.LateSwept.Sweeps.Stands.{quiet_further}
use Rattle.owner_facts.specs.Given.CallersOverAll.{CallOverAll, gone_on, row_of_sweep, past_sweeping, sweep_once_over}
use Rattle.owner_facts.specs.Given.CallersSights.{Visible, seen_by}
use Rattle.owner_facts.specs.Given.CallersTogether.{UnderWay, OverAll, IsWriter, next_over_all, in_slot, IsReclaimed, KnowsSweep, IsAtPoint, Together}
use Rattle.owner_facts.proofs.Given.CallersSights.Seen.{map_seen}
use Rattle.owner_facts.proofs.Given.CallersTogether.At.{at_other, at_same}
use Rattle.owner_facts.proofs.Given.CallersTogether.Begun as begun
use Rattle.owner_facts.proofs.Given.CallersTogether.Came.{came_reached}
use Rattle.owner_facts.proofs.Given.CallersTogether.Few.{sweep_row_claims_none}
use Rattle.owner_facts.proofs.Given.CallersTogether.Fits.{map_in_slot}
use Rattle.owner_facts.proofs.Given.CallersTogether.SweepRows.{Led, within_row}
use Rattle.owner_facts.proofs.Given.CallersTogether.SweepStepped.{begins_at}
use Rattle.map_measures.proofs.Given.SeizeAloneHistories.Uses.{inside_kept}
use Rattle.owner_whole.specs.Whole.LoneSweeps.{IsBefore, goes_once, IsLoneSweep, GoesOverRoot, OverRoot, IsOverRoot}
use Rattle.owner_whole.specs.Whole.Owner.{CopiesOfRoot, IsOfRoot, IsQuiescent, IsAlone}
use Rattle.owner_whole.specs.Whole.WholeSweeps.{uncounted, SweepLeads}
use Rattle.owner_whole.proofs.Whole.Fresh.Sweeps.{whole_of}
use Rattle.owner_whole.proofs.Whole.Rows.Settles.{never_waits, deferring_lowers}
use Rattle.owner_whole.proofs.Whole.Sweeps.Account.{sweep_told_by, SweepTargetIs, StillSweep, TableRetired, SweepAccount, SweepSettling, SweepDeferring, TableOver, PairOver, sweep_account}
use Rattle.owner_whole.proofs.Whole.Sweeps.Lone.{quiet_copies, alone_at, tables_at}
use Rattle.owner_whole.proofs.Whole.Sweeps.Over.{further_by, further_over, further_then}
use Rattle.owner_whole.proofs.Whole.Sweeps.Targets.{sweep_target_at, sweep_target_past, of_root_at, of_root_past, of_root_none}

module _ {K V Q : Type 0} (same : K → K → Bool) (hash : K → ℕ) (asks : Q → K → Bool) (setting : Setting) (slot : ℕ → ℕ) (lawful : AreLawful same hash)
    (w : World (Node K V)) (c : Chart K) (blocks : Blocks) (sights : ℕ → Visible) (o : CallOverAll) (a : IsAlone {Q = Q} same hash asks setting slot w c blocks sights (OverAll o))
    (is_row : IsRowOfSweep o.sweep.stands) where
  abbrev pub here : Setting
  here = in_slot setting (slot 0)

  abbrev pub b : Bool
  b = is_incremental setting.mode

  abbrev pub seen : Blocks
  seen = seen_by blocks (sights (slot 0))

  -- it is within the row, in a world with the same memory
  pub record IsWithinRow : Type 0 where
    pub v : World (Node K V)
    pub memory : v.memory ≡ w.memory
    pub row_is : v.row 0 ≡ row_of_sweep (slot 0) o.sweep.stands
    pub together : Together V same hash asks setting slot v c blocks sights a.calls
    pub rows : (i : ℕ) → i ≢ 0 → v.row i ≡ Rests
    pub knows : KnowsSweep V same hash asks setting slot v c seen 0 o (sweep_once_over o.sweep)
    pub target : b ≡ false → SweepTargetIs c.first o.sweep.stands
    pub over : IsOverRoot hash b c seen o.sweep o.done
    pub reclaims : (w2 : World (Node K V)) (value : Node K V) → IsReclaimed v w2 value → IsReclaimed w w2 value

  inside : IsInside (w.uses (slot 0))
  inside = a.together.inside 0 (OverAll o) a.has

  pub now : IsWithinRow
  now = by (a.together.stand 0 (OverAll o) a.has) a.of_root
    where
      by : (x : IsAtPoint V same hash asks setting slot w c seen 0 (OverAll o)) → IsOfRoot same hash asks setting slot w c seen (OverAll o) x → IsWithinRow
      by (inr (row, at_row, knows)) (first, over) = record {
        v = w;
        memory = refl;
        row_is = row;
        together = a.together;
        rows = a.rows;
        knows = knows;
        target = λ blocking. sweep_target_past same hash asks setting slot w c seen o.began blocking o.sweep.stands is_row
            (whole_of same hash asks setting slot w c seen o.began (sweep_once_over o.sweep) (past_sweeping o.sweep.stands) knows.facts.point first);
        over = over;
        reclaims = λ w2 value h. h;
      }
      by (inl (rests, knows)) (first, over) =
          let d = begins_at same hash asks setting slot lawful w c blocks sights a.calls a.together 0 o inside rests o.sweep.stands is_row knows in
          record {
            v = d.row.v;
            memory = d.row.memory;
            row_is = d.row.row_is;
            together = begun.begun_stands same hash asks setting slot lawful w c blocks sights a.calls a.together 0 inside rests (row_of_sweep (slot 0) o.sweep.stands) d.row (OverAll o) a.has
                (inr (d.row.row_is, is_row, d.knows)) (sweep_row_claims_none o.sweep.stands is_row);
            rows = λ i other. d.row.rows i other ∙ a.rows i other;
            knows = d.knows;
            target = λ blocking. sweep_target_at same hash asks setting slot w c seen o.began blocking o.sweep.stands is_row
                (whole_of same hash asks setting slot w c seen o.began o.sweep o.sweep.stands knows.facts.point first);
            over = over;
            reclaims = begun.begun_gives same hash asks setting slot lawful w c blocks sights a.calls a.together 0 inside rests (row_of_sweep (slot 0) o.sweep.stands) d.row;
          }

  its : IsWriter a.calls 0
  its = (OverAll o, a.has, tt)

  pub inside_now : IsInside (now.v.uses (slot 0))
  inside_now = now.together.inside 0 (OverAll o) a.has

  pub map_now : IsMapIn same hash here now.v c seen
  map_now = map_seen same hash here now.v c blocks (sights (slot 0)) (map_in_slot same hash setting now.v c blocks (slot 0) now.together.ground.map) (now.together.ground.sight (slot 0) inside_now).0

  leads_on : May Can Took value_at now.v.memory (sweep_plan hash o.sweep)
      × ((m2 : Mem (Node K V)) (end : Sweep × Swept (Node K V)) → Steps Took value_at now.v.memory (sweep_plan hash o.sweep) m2 end
      → Led same hash asks setting slot lawful now.v c blocks sights a.calls now.together 0 o inside_now m2 end)
  leads_on = within_row same hash asks setting slot lawful now.v c blocks sights a.calls now.together 0 o inside_now its o.sweep.stands is_row now.row_is now.knows

  pub row_may : May Can Took value_at w.memory (sweep_plan hash o.sweep)
  row_may = subst (λ (m : Mem (Node K V)). May Can Took value_at m (sweep_plan hash o.sweep)) now.memory leads_on.0

  module _ (m2 : Mem (Node K V)) (p2 : Sweep) (end : Swept (Node K V)) (steps : Steps Took value_at w.memory (sweep_plan hash o.sweep) m2 (p2, end)) where
    pub steps_now : Steps Took value_at now.v.memory (sweep_plan hash o.sweep) m2 (p2, end)
    steps_now = subst (λ (m : Mem (Node K V)). Steps Took value_at m (sweep_plan hash o.sweep) m2 (p2, end)) (sym now.memory) steps

    pub led : Led same hash asks setting slot lawful now.v c blocks sights a.calls now.together 0 o inside_now m2 (p2, end)
    led = leads_on.1 m2 (p2, end) steps_now

    abbrev pub after : CallOverAll
    after = gone_on o p2

    abbrev calls2 : ℕ → Option (UnderWay K V Q)
    calls2 = with_at a.calls 0 (next_over_all after end)

    row_other : (i : ℕ) → i ≢ 0 → led.w2.row i ≡ Rests
    row_other i other = steps_others deferred_word setting.batch_size now.v led.w2 0 i other (now.v.row 0) led.happened ∙ now.rows i other

    -- where it goes on
    goes_on : IsLoneSweep b 0 c p2.stands
        → ((x : IsAtPoint V same hash asks setting slot led.w2 c seen 0 (OverAll after)) → IsOfRoot same hash asks setting slot led.w2 c seen (OverAll after) x)
        → next_over_all {Q = Q} after end ≡ Some (OverAll after) → IsAlone {Q = Q} same hash asks setting slot led.w2 c blocks sights (OverAll after)
    goes_on alone of_root goes =
        let has2 : calls2 0 ≡ Some (OverAll after) = at_same a.calls 0 (next_over_all after end) 0 refl ∙ goes in
        record {
          calls = calls2;
          has = has2;
          others = λ i other. at_other a.calls 0 (next_over_all after end) i other ∙ a.others i other;
          together = led.together;
          rows = row_other;
          lone = alone;
          inside = led.together.inside 0 (OverAll after) has2;
          of_root = of_root (led.together.stand 0 (OverAll after) has2);
        }

    inside_then : IsInside (led.w2.uses (slot 0))
    inside_then = inside_kept deferred_word setting.batch_size now.v (came_reached setting.batch_size now.v now.together.ground.came) 0 led.w2 led.happened (slot 0) inside_now

    -- where it has ended
    ended : next_over_all {Q = Q} after end ≡ None → (IsRowOfSweep p2.stands → ⊥) → TablesAlone b c → IsQuiescent {Q = Q} same hash asks setting slot led.w2 c blocks sights
    ended is none tables = record {
      calls = calls2;
      none = λ i. elim (cases_eq i 0) as (λ _. calls2 i ≡ None) [
        | inl e ↦ at_same a.calls 0 (next_over_all after end) i e ∙ is
        | inr other ↦ at_other a.calls 0 (next_over_all after end) i other ∙ a.others i other
      ];
      together = led.together;
      rows = λ i. elim (cases_eq i 0) as (λ _. led.w2.row i ≡ Rests) [
        | inl e ↦ ap led.w2.row e ∙ led.over none
        | inr other ↦ row_other i other
      ];
      inside = inside_then;
      alone = record { idle = a.lone.idle; tables = tables };
    }

    abbrev LeadsSo : Swept (Node K V) → Type 0
    LeadsSo x = SweepLeads {Q = Q} same hash asks setting slot w led.w2 c blocks sights after x

    as_told : (x : Swept (Node K V)) → end ≡ x → LeadsSo x → LeadsSo end
    as_told x is h = subst LeadsSo (sym is) h

    -- it is within the row still
    abbrev IsStill : Sweep → Type 0
    IsStill q = StillSweep hash (slot 0) o.sweep now.v.memory m2 q

    still_over : IsStill p2 → IsOverRoot hash b c seen p2 o.done
    still_over s = record { table = s.over b c seen now.over.table; before = λ once before. now.over.before (sym (ap (goes_once b) s.purpose) ∙ once) (s.before before) }

    still_of_root : IsStill p2 → (x : IsAtPoint V same hash asks setting slot led.w2 c seen 0 (OverAll after)) → IsOfRoot same hash asks setting slot led.w2 c seen (OverAll after) x
    still_of_root s (inl (rests, knows)) =
        (of_root_at same hash asks setting slot led.w2 c seen o.began p2 p2.stands s.is_row (λ blocking. s.target c.first (now.target blocking)) knows.facts.point, still_over s)
    still_of_root s (inr (row, at_row, knows)) =
        (of_root_past same hash asks setting slot led.w2 c seen o.began (sweep_once_over p2) p2.stands s.is_row (λ blocking. s.target c.first (now.target blocking)) knows.facts.point, still_over s)

    still_alone : IsStill p2 → next_over_all {Q = Q} after end ≡ Some (OverAll after) → IsAlone {Q = Q} same hash asks setting slot led.w2 c blocks sights (OverAll after)
    still_alone s goes = goes_on (record { idle = a.lone.idle; point = s.alone b c a.lone.point }) (still_of_root s) goes

    settling_leads : (x y : Settle) (e : Settled (Node K V)) → now.v.row 0 ≡ Settles x → Steps Took value_at now.v.memory (settle_plan deferred_word x) m2 (y, e) → is_going e ≡ true → end ≡ sweep_told_by e
        → IsStill p2 → LeadsSo end
    settling_leads x y settled.Goes row st going is s = as_told swept.Goes is (still_alone s (ap (next_over_all after) is))
    settling_leads x y settled.Waits row st going is s = absurd (never_waits setting.batch_size now.v now.together.ground.came 0 now.rows x row m2 y st)
    settling_leads x y (settled.Gave value) row st going is s =
        as_told (swept.Gave value) is (still_alone s (ap (next_over_all after) is), now.reclaims led.w2 value (led.gives value is))
    settling_leads x y settled.Done row st going is s = absurd (cc going)

    deferring_leads : (x y : Defer) (e : Advance Unit) → now.v.row 0 ≡ Defers (slot 0) x → Steps Took value_at now.v.memory (defer_plan x) m2 (y, e) → e ≢ deferred.Done tt
        → (e ≡ deferred.Goes → end ≡ swept.Goes) → IsStill p2 → LeadsSo end
    deferring_leads x y e row st more goes s = elim (deferring_lowers setting.batch_size now.v now.together.ground.came 0 now.rows (slot 0) x row m2 (y, e) st) as (λ _. LeadsSo end) [
      | inl on ↦ as_told swept.Goes (goes on.0) (still_alone s (ap (next_over_all after) (goes on.0)))
      | inr done ↦ absurd (more done)
    ]

    -- a table was retired
    abbrev IsRetired : Sweep → Type 0
    IsRetired q = TableRetired hash (slot 0) o.sweep now.v.memory m2 q

    retired_over : IsRetired p2 → IsOverRoot hash b c seen p2 o.done
    retired_over r = subst (λ (q : Sweep). IsOverRoot hash b c seen q o.done) (sym r.is) (record { table = tt; before = λ once before. now.over.before once (subst IsBefore (sym r.was) tt) })

    retired_of_root : IsRetired p2 → (x : IsAtPoint V same hash asks setting slot led.w2 c seen 0 (OverAll after)) → IsOfRoot same hash asks setting slot led.w2 c seen (OverAll after) x
    retired_of_root r (inl (rests, knows)) = (by p2 r.past knows.facts.point, retired_over r)
      where
        by : (q : Sweep) → q ≡ sweep_once_over o.sweep → (point : SweepingFacts same hash led.w2 0 here c seen o.began q q.stands) → CopiesOfRoot same hash asks setting slot led.w2 c seen o.began q q.stands point
        by q is = subst (λ (x : Sweep). (point : SweepingFacts same hash led.w2 0 here c seen o.began x x.stands) → CopiesOfRoot same hash asks setting slot led.w2 c seen o.began x x.stands point) (sym is)
            (of_root_past same hash asks setting slot led.w2 c seen o.began (sweep_once_over o.sweep) o.sweep.stands is_row now.target)
    retired_of_root r (inr (row, at_row, knows)) = absurd (r.none at_row)

    -- the pair was disposed of
    module _ (d : Dispose) (is : o.sweep.stands ≡ at.Disposes d) (end_is : (p2, end) ≡ telling (further o.sweep)) where
      tables : TablesAlone b c
      tables = tables_at b c o.sweep.stands (λ copies. subst CopiesPairs is copies) a.lone.point

      p2_is : p2 ≡ further o.sweep
      p2_is = ap (λ (x : Sweep × Swept (Node K V)). x.0) end_is

      told_is : end ≡ told p2.stands
      told_is = ap (λ (x : Sweep × Swept (Node K V)). x.1) end_is ∙ ap (λ (x : Sweep). told x.stands) (sym p2_is)

      copies_none : CopiesPairs p2.stands → ⊥
      copies_none copies = quiet_copies (further o.sweep).stands (quiet_further o.sweep) (subst (λ (x : Sweep). CopiesPairs x.stands) p2_is copies)

      root : GoesOverRoot hash b c seen o.sweep
      root = subst (OverRoot hash b c seen o.sweep) is now.over.table

      no_row : IsRowOfSweep p2.stands → ⊥
      no_row row = further_by (λ x. IsRowOfSweep x → ⊥) o.sweep (λ h. h) (λ h. h) (λ h. h) (subst (λ (x : Sweep). IsRowOfSweep x.stands) p2_is row)

      -- what it knew of its place
      point : SweepingFacts same hash now.v 0 here c seen o.began (sweep_once_over o.sweep) (past_sweeping (at.Disposes d))
      point = subst (λ (x : Sweeping). SweepingFacts same hash now.v 0 here c seen o.began (sweep_once_over o.sweep) (past_sweeping x)) is now.knows.facts.point

      further_none : goes_once b o.sweep.purpose ≡ true → IsBefore (further o.sweep).stands → ⊥
      further_none =
          (further_then same hash 0 here o.began now.v c seen map_now (sweep_once_over o.sweep) now.knows.facts.setting_is (now.knows.facts.idle (λ copies. subst (λ (x : Sweeping). CopiesPairs (past_sweeping x)) is copies))
          point.1 point.2.0 point.2.1 (record { root = root.root; last = root.last })).none

      pair_over : IsOverRoot hash b c seen p2 o.done
      pair_over = subst (λ (q : Sweep). IsOverRoot hash b c seen q o.done) (sym p2_is)
          (record { table = further_over hash b c seen o.sweep root; before = λ once before. absurd (further_none once before) })

      pair_of_root : (x : IsAtPoint V same hash asks setting slot led.w2 c seen 0 (OverAll after)) → IsOfRoot same hash asks setting slot led.w2 c seen (OverAll after) x
      pair_of_root (inl (rests, knows)) = (of_root_none same hash asks setting slot led.w2 c seen o.began p2 p2.stands copies_none knows.facts.point, pair_over)
      pair_of_root (inr (row, at_row, knows)) = absurd (no_row at_row)

      lone2 : IsLoneSweep b 0 c p2.stands
      lone2 = record { idle = a.lone.idle; point = alone_at b c tables p2.stands copies_none }

      pair_leads : LeadsSo end
      pair_leads = further_by (λ x. p2.stands ≡ x → LeadsSo end) o.sweep (λ e. on at.Words refl (told_is ∙ ap told e)) (λ e. on at.Follows refl (told_is ∙ ap told e))
          (λ e. (let done : end ≡ swept.Done = told_is ∙ ap told e in as_told swept.Done done (ended (ap (next_over_all after) done) no_row tables, e))) (ap (λ (x : Sweep). x.stands) p2_is)
        where
          on : (x : Sweeping) → told {T = Node K V} x ≡ swept.Goes → end ≡ told x → LeadsSo end
          on x goes e = let is_goes : end ≡ swept.Goes = e ∙ goes in as_told swept.Goes is_goes (goes_on lone2 pair_of_root (ap (next_over_all after) is_goes))

    pub by_account : (x : Sweep × Swept (Node K V)) → x ≡ (p2, end) → SweepAccount hash (slot 0) o.sweep now.v.memory m2 x → LeadsSo end
    by_account x is (SweepSettling y z e _ row st going tells row2 s) =
        settling_leads y z e (now.row_is ∙ row) st going (sym (ap (λ (q : Sweep × Swept (Node K V)). q.1) is) ∙ tells) (subst IsStill (ap (λ (q : Sweep × Swept (Node K V)). q.0) is) s)
    by_account x is (SweepDeferring y z e _ row st more goes row2 s) =
        deferring_leads y z e (now.row_is ∙ row) st more (λ g. sym (ap (λ (q : Sweep × Swept (Node K V)). q.1) is) ∙ goes g) (subst IsStill (ap (λ (q : Sweep × Swept (Node K V)). q.0) is) s)
    by_account x is (TableOver _ tells r) =
        let r2 = subst IsRetired (ap (λ (q : Sweep × Swept (Node K V)). q.0) is) r in
        let goes = sym (ap (λ (q : Sweep × Swept (Node K V)). q.1) is) ∙ tells in
        as_told swept.Goes goes (goes_on (record { idle = a.lone.idle; point = r2.alone b c a.lone.point }) (retired_of_root r2) (ap (next_over_all after) goes))
    by_account x is (PairOver _ d disposes e) = pair_leads d disposes (sym is ∙ e)

    pub its_account : SweepAccount hash (slot 0) o.sweep now.v.memory m2 (p2, end)
    its_account = sweep_account hash (slot 0) o.sweep now.v.memory m2 is_row (p2, end) steps_now

    pub row_leads : SweepLeads {Q = Q} same hash asks setting slot w led.w2 c blocks sights after end
    row_leads = by_account (p2, end) refl its_account

    -- how the sweep goes on, whatever the step of the row was
    pub record GoesOn : Type 0 where
      pub purpose : p2.purpose ≡ o.sweep.purpose
      pub before : goes_once b o.sweep.purpose ≡ true → IsBefore p2.stands → IsBefore o.sweep.stands
      pub tries : (word : ℕ) → p2.stands ≢ at.Tries word
      pub counted : uncounted p2.stands ≡ uncounted o.sweep.stands

    row_tries : (x : Sweeping) → IsRowOfSweep x → (word : ℕ) → x ≢ at.Tries word
    row_tries x row word e = subst IsRowOfSweep e row

    still_goes : IsStill p2 → GoesOn
    still_goes s = record { purpose = s.purpose; before = λ once early. s.before early; tries = row_tries p2.stands s.is_row; counted = s.counted }

    pub goes_by : (x : Sweep × Swept (Node K V)) → x ≡ (p2, end) → SweepAccount hash (slot 0) o.sweep now.v.memory m2 x → GoesOn
    goes_by x is (SweepSettling y z e _ row st going tells row2 s) = still_goes (subst IsStill (ap (λ (q : Sweep × Swept (Node K V)). q.0) is) s)
    goes_by x is (SweepDeferring y z e _ row st more goes row2 s) = still_goes (subst IsStill (ap (λ (q : Sweep × Swept (Node K V)). q.0) is) s)
    goes_by x is (TableOver _ tells r) =
        let r2 = subst IsRetired (ap (λ (q : Sweep × Swept (Node K V)). q.0) is) r in
        let at_table : p2.stands ≡ at.Copies r2.next = ap (λ (q : Sweep). q.stands) r2.is in record {
          purpose = ap (λ (q : Sweep). q.purpose) r2.is;
          before = λ once early. subst IsBefore (sym r2.was) tt;
          tries = λ word e. cc (at_table, e);
          counted = ap uncounted at_table ∙ sym (ap uncounted r2.was);
        }
    goes_by x is (PairOver _ d disposes e) =
        let end_is = sym is ∙ e in
        let p2_is : p2 ≡ further o.sweep = ap (λ (q : Sweep × Swept (Node K V)). q.0) end_is in record {
          purpose = ap (λ (q : Sweep). q.purpose) p2_is;
          before = λ once early. absurd (further_none d disposes end_is once (subst (λ (q : Sweep). IsBefore q.stands) p2_is early));
          tries = subst (λ (q : Sweep). (word : ℕ) → q.stands ≢ at.Tries word) (sym p2_is) (λ word. further_by (λ y. y ≢ at.Tries word) o.sweep (λ g. cc g) (λ g. cc g) (λ g. cc g));
          counted = ap (λ (q : Sweep). uncounted q.stands) p2_is ∙ further_by (λ y. uncounted y ≡ 0) o.sweep refl refl refl ∙ sym (ap uncounted disposes);
        }

    pub goes : GoesOn
    goes = goes_by (p2, end) refl its_account
