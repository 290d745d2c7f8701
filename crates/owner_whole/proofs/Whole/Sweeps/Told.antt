-- A sweep that is alone is asked for the next pair, or told whether to keep one: it is alone again.
use Rattle.std.specs.Prelude.{◌≡◌, ℕ, ◌<◌, Bool, true, false, nat_lt, cond, ◌∷◌, Some, if◌then◌else◌}
use Rattle.std.proofs.Common.{inl, inr, refl, ap, sym, subst, ◌∙◌, arith}
use Rattle.std.proofs.lemmas.Bool.{ltb-true}
use Rattle.seize.specs.World.{World, with_at}
use Rattle.map_tables.specs.Chunks.{is_incremental}
use Rattle.map_tables.specs.declared.node.Node.{Node}
use Rattle.map_tables.specs.declared.setting.Setting.{Setting}
use Rattle.papaya_raw.specs.Given.SweepsSweepPoints.{standing, further, next_at, after_next, reply_at}
use Rattle.papaya_raw.specs.Given.ReservesDeclared.sweep.Sweeping.{Sweeping}
use Rattle.papaya_raw.specs.Given.ReservesDeclared.sweep.Sweeping.TheVariants as at
use Rattle.map_measures.specs.Given.RuleChart.{Still, Chart}
use Rattle.map_measures.specs.Given.RuleWords.{Blocks}
use Rattle.map_measures.specs.Given.RuleInWorld.{IsMapIn}
use Rattle.owner_facts.specs.Given.PointsSteps.{AreLawful}
use Rattle.owner_facts.specs.Alone.FactsAloneCalls.{TablesAlone}
use Rattle.map_measures.specs.Given.LateCovers.{times, NamesPair, CoversAt}
use Rattle.owner_facts.specs.Given.LateFactsSweeps.{CopiesPairs, SweepingFacts}
use Rattle.owner_facts.specs.Given.LateToldSweeps.{IsRowOfSweep}
use Rattle.owner_facts.proofs.Given.LateSwept.Sweeps.Stands.{quiet_further}
use Rattle.owner_facts.proofs.Given.LateSwept.Sweeps.Tables.{still_current}
use Rattle.owner_facts.specs.Given.CallersOverAll.{verdict, CallOverAll, gone_on, with_verdict}
use Rattle.owner_facts.specs.Given.CallersSights.{Visible, seen_by}
use Rattle.map_measures.specs.Given.CallersSweeps.{TakesReply}
use Rattle.owner_facts.specs.Given.CallersTogether.{OverAll, in_slot, IsAtPoint, Together}
use Rattle.owner_facts.proofs.Given.CallersTogether.At.{at_other, at_same}
use Rattle.owner_facts.proofs.Given.CallersTogether.SweepsTold.{sweeps_told_together}
use Rattle.owner_whole.specs.Whole.LoneSweeps.{IsBefore, goes_once, GoesOverRoot, LiesThere, OverRoot, IsOverRoot}
use Rattle.owner_whole.specs.Whole.Owner.{IsOfRoot, IsAlone}
use Rattle.owner_whole.specs.Whole.WholeSweeps.{NamesPairOf, NamesNew}
use Rattle.owner_whole.proofs.Whole.Sweeps.Lone.{quiet_copies, alone_at, tables_at}
use Rattle.owner_whole.proofs.Whole.Sweeps.Names.{named, names_pair, one_named}
use Rattle.owner_whole.proofs.Whole.Sweeps.Over.{further_by, further_over, further_then}
use Rattle.owner_whole.proofs.Whole.Sweeps.Own as own
use Rattle.owner_whole.proofs.Whole.Sweeps.Targets.{of_root_none}

module _ {K V Q : Type 0} (same : K → K → Bool) (hash : K → ℕ) (asks : Q → K → Bool) (setting : Setting) (slot : ℕ → ℕ) (lawful : AreLawful same hash)
    (w : World (Node K V)) (c : Chart K) (blocks : Blocks) (sights : ℕ → Visible) (o : CallOverAll) (a : IsAlone {Q = Q} same hash asks setting slot w c blocks sights (OverAll o)) where
  abbrev here : Setting
  here = in_slot setting (slot 0)

  abbrev b : Bool
  b = is_incremental setting.mode

  abbrev seen : Blocks
  seen = seen_by blocks (sights (slot 0))

  map : IsMapIn same hash here w c seen
  map = own.map same hash asks setting slot lawful w c blocks sights o a

  law : TakesReply hash c seen o (λ told. Together V same hash asks setting slot w c blocks sights (with_at a.calls 0 (Some (OverAll told))))
  law = sweeps_told_together same hash asks setting slot lawful w c blocks sights a.calls a.together 0 o a.has

  -- it goes on where it neither copies, nor stands at a row
  alone_again : (x : CallOverAll) → Together V same hash asks setting slot w c blocks sights (with_at a.calls 0 (Some (OverAll x))) → TablesAlone b c → (CopiesPairs x.sweep.stands → ⊥)
      → (IsRowOfSweep x.sweep.stands → ⊥) → IsOverRoot hash b c seen x.sweep x.done → IsAlone {Q = Q} same hash asks setting slot w c blocks sights (OverAll x)
  alone_again x together2 tables copies none over =
      let has2 : with_at a.calls 0 (Some (OverAll x)) 0 ≡ Some (OverAll x) = at_same a.calls 0 (Some (OverAll x)) 0 refl in
      record {
        calls = with_at a.calls 0 (Some (OverAll x));
        has = has2;
        others = λ i other. at_other a.calls 0 (Some (OverAll x)) i other ∙ a.others i other;
        together = together2;
        rows = a.rows;
        lone = record { idle = a.lone.idle; point = alone_at b c tables x.sweep.stands copies };
        inside = together2.inside 0 (OverAll x) has2;
        of_root = of_root (together2.stand 0 (OverAll x) has2);
      }
    where
      of_root : (y : IsAtPoint V same hash asks setting slot w c seen 0 (OverAll x)) → IsOfRoot same hash asks setting slot w c seen (OverAll x) y
      of_root (inl (rests, knows)) = (of_root_none same hash asks setting slot w c seen x.began x.sweep x.sweep.stands copies knows.facts.point, over)
      of_root (inr (row, at_row, knows)) = absurd (none at_row)

  -- it is ready
  module _ (is : o.sweep.stands ≡ at.Ready) where
    ready_none : IsRowOfSweep o.sweep.stands → ⊥
    ready_none row = subst IsRowOfSweep is row

    ready_here : own.KnowsHere same hash asks setting slot lawful w c blocks sights o a ready_none
    ready_here = own.knows_here same hash asks setting slot lawful w c blocks sights o a ready_none

    ready_tables : TablesAlone b c
    ready_tables = tables_at b c o.sweep.stands (λ copies. subst CopiesPairs is copies) a.lone.point

    ready_over : 0 < o.sweep.table.len → GoesOverRoot hash b c seen o.sweep
    ready_over = subst (OverRoot hash b c seen o.sweep) is ready_here.over.table

    next_alone : IsAlone {Q = Q} same hash asks setting slot w c blocks sights (OverAll (gone_on o (next_at at.Ready o.sweep)))
    next_alone = by (nat_lt o.sweep.place o.sweep.table.len) refl (subst (λ (x : Sweeping). With (gone_on o (next_at x o.sweep))) is law.next)
      where
        With : CallOverAll → Type 0
        With x = Together V same hash asks setting slot w c blocks sights (with_at a.calls 0 (Some (OverAll x)))

        by : (more : Bool) → nat_lt o.sweep.place o.sweep.table.len ≡ more → With (gone_on o (standing o.sweep (if more then at.Words else at.Over)))
            → IsAlone {Q = Q} same hash asks setting slot w c blocks sights (OverAll (gone_on o (standing o.sweep (if more then at.Words else at.Over))))
        by true more together2 =
            let over = ready_over (let l = ltb-true o.sweep.place o.sweep.table.len more in omega (arith, l)) in
            alone_again (gone_on o (standing o.sweep at.Words)) together2 ready_tables (λ h. h) (λ h. h) (record { table = record { root = over.root; last = over.last }; before = λ once h. absurd h })
        by false more together2 = alone_again (gone_on o (standing o.sweep at.Over)) together2 ready_tables (λ h. h) (λ h. h) (record { table = tt; before = λ once h. absurd h })

    pub next_on : IsAlone {Q = Q} same hash asks setting slot w c blocks sights (OverAll (gone_on o (after_next o.sweep)))
    next_on = subst (λ (x : Sweeping). IsAlone {Q = Q} same hash asks setting slot w c blocks sights (OverAll (gone_on o (next_at x o.sweep)))) (sym is) next_alone

  -- it asks about the pair of a word
  module _ (word : ℕ) (is : o.sweep.stands ≡ at.Asks word) where
    asks_none : IsRowOfSweep o.sweep.stands → ⊥
    asks_none row = subst IsRowOfSweep is row

    asks_here : own.KnowsHere same hash asks setting slot lawful w c blocks sights o a asks_none
    asks_here = own.knows_here same hash asks setting slot lawful w c blocks sights o a asks_none

    asks_copies : CopiesPairs o.sweep.stands → ⊥
    asks_copies copies = subst CopiesPairs is copies

    asks_tables : TablesAlone b c
    asks_tables = tables_at b c o.sweep.stands asks_copies a.lone.point

    asks_over : GoesOverRoot hash b c seen o.sweep × LiesThere hash b c seen o.sweep word
    asks_over = subst (OverRoot hash b c seen o.sweep) is asks_here.over.table

    asks_covers : CoversAt hash c seen o.sweep o.entered o.done (at.Asks word)
    asks_covers = subst (CoversAt hash c seen o.sweep o.entered o.done) is asks_here.knows.covers

    asks_point : SweepingFacts same hash w 0 here c seen o.began o.sweep (at.Asks word)
    asks_point = subst (SweepingFacts same hash w 0 here c seen o.began o.sweep) is asks_here.knows.facts.point

    asks_current : c.current asks_over.1.0 ≡ true
    asks_current = still_current same hash c o.began b map.map.rule o.sweep.place asks_over.1.0 asks_over.1.1 (ap (λ (x : ℕ). c.place x o.sweep.place) (sym asks_over.0.root) ∙ asks_over.1.2)

    -- about one that the map has, and that is not done
    pub asks_new : (n : ℕ) × (k : K) × (v : V) × NamesNew hash w.memory c blocks o.done word n k v
    asks_new =
        let n = asks_over.1.0 in
        let p = named same hash lawful setting w c blocks a.together.ground.map word n Still asks_over.1.1 asks_current asks_over.1.3 in
        let one = one_named same hash lawful here w c seen map word asks_covers.1 n asks_covers.2 (names_pair same hash lawful here w c seen map word n Still asks_over.1.1 asks_current asks_over.1.3) in
        (n, p.0, p.1, (p.2, ap (λ (x : ℕ). times x o.done) (sym one) ∙ asks_covers.3.fresh))

    module _ (n : ℕ) (k : K) (v : V) (it : NamesPairOf hash w.memory c blocks word n k v) where
      pub names : NamesPair hash c seen word n
      names = names_pair same hash lawful here w c seen map word n it.phase it.borrowed it.is_there it.word_is

      pub further_none : goes_once b o.sweep.purpose ≡ true → IsBefore (further o.sweep).stands → ⊥
      further_none =
          (further_then same hash 0 here o.began w c seen map o.sweep asks_here.knows.facts.setting_is (asks_here.knows.facts.idle asks_copies) asks_point.2 asks_point.3.0 asks_point.3.1 asks_over.0).none

      abbrev Told : Bool → CallOverAll
      Told keeps = record { began = o.began; entered = o.entered; done = cond keeps (n ∷ o.done) o.done; told = verdict n keeps; sweep = reply_at (at.Asks word) o.sweep keeps }

      told_alone : (keeps : Bool) → Together V same hash asks setting slot w c blocks sights (with_at a.calls 0 (Some (OverAll (Told keeps))))
          → IsAlone {Q = Q} same hash asks setting slot w c blocks sights (OverAll (Told keeps))
      told_alone true together2 =
          alone_again (Told true) together2 asks_tables (quiet_copies (further o.sweep).stands (quiet_further o.sweep))
          (λ row. further_by (λ x. IsRowOfSweep x → ⊥) o.sweep (λ h. h) (λ h. h) (λ h. h) row)
          (record { table = further_over hash b c seen o.sweep asks_over.0; before = λ once before. absurd (further_none once before) })
      told_alone false together2 =
          alone_again (Told false) together2 asks_tables (λ h. h) (λ h. h)
          (record { table = (record { root = asks_over.0.root; last = asks_over.0.last }, λ retains. asks_over.1); before = λ once before. absurd before })

      pub replied_on : (keeps : Bool) → IsAlone {Q = Q} same hash asks setting slot w c blocks sights (OverAll (with_verdict o n keeps))
      replied_on keeps =
          subst (λ (x : Sweeping). IsAlone {Q = Q} same hash asks setting slot w c blocks sights (OverAll (record { began = o.began; entered = o.entered; done = cond keeps (n ∷ o.done) o.done; told = verdict n keeps; sweep = reply_at x o.sweep keeps })))
          (sym is)
          (told_alone keeps
          (subst (λ (x : Sweeping). Together V same hash asks setting slot w c blocks sights (with_at a.calls 0
          (Some (OverAll (record { began = o.began; entered = o.entered; done = cond keeps (n ∷ o.done) o.done; told = verdict n keeps; sweep = reply_at x o.sweep keeps }))))) is (law.replied word n is names keeps)))
