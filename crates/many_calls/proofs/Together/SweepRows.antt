-- A walk, a clearing or a retaining that is within a row of the collector, or stands at one, takes the row's next step: all stand together.
use Rattle.std.specs.Prelude.{◌≡◌, ◌+◌, ◌%◌, ◌^◌, ◌&&◌, ℕ, Bool, true, false, nat_lt, Option, None, Some, if◌then◌else◌}
use Rattle.std.proofs.Common.{sym, subst, inl, inr, refl}
use Rattle.seize_model.specs.Given.SeizeWordsMem.{Mem, Can, Took, value_at}
use Rattle.seize_model.specs.Given.SeizeWordsPlan.{May, Steps, plan_as}
use Rattle.seize_model.proofs.Given.SeizeWordsPlans.{as_may}
use Rattle.seize_model.specs.Given.SeizeDeclared.advance.Advance.{Advance}
use Rattle.seize_model.specs.Given.SeizeDeclared.advance.Advance.TheVariants as progress
use Rattle.seize_model.specs.Given.SeizeDeclared.rows.defer.Defer.{Defer}
use Rattle.seize_model.specs.Given.SeizeDeclared.rows.settle.Settle.{Settle}
use Rattle.seize_model.specs.Given.SeizeDeclared.rows.settle.Settled.{Settled}
use Rattle.seize_model.specs.Given.SeizeDeclared.rows.settle.Settled.TheVariants as settled
use Rattle.seize_model.specs.Given.SeizeDefer.{defer_plan}
use Rattle.seize_model.specs.Given.SeizeSettle.{settle_plan}
use Rattle.seize_model.specs.Given.SeizeWorld.{World, Row, Rests, Settles, Defers, Step, Happens, IsInside, with_at}
use Rattle.seize_model.proofs.Given.SeizeRuleRows.Leaving.{steps_back}
use Rattle.map_facts_late.specs.Given.TablesNodes.{deferred_word}
use Rattle.map_facts_late.specs.Given.TablesDeclared.node.Node.{Node}
use Rattle.map_facts_late.specs.Given.TablesDeclared.setting.Setting.{Setting}
use Rattle.map_facts_late.specs.Given.TablesDeclared.table.Table.{Table}
use Rattle.map_facts_late.specs.Given.ResizeDispose as dispose
use Rattle.map_facts_late.specs.Given.ResizeCopierPromotes as retiring
use Rattle.map_facts_late.specs.Given.ResizeCopier as copier
use Rattle.map_facts_late.specs.Given.ResizeCopierStates as copiers
use Rattle.map_facts_late.specs.Given.ResizeDeclared.copier.Copier.{Copier}
use Rattle.map_facts_late.specs.Given.ResizeDeclared.copier.Copying.{Copying}
use Rattle.map_facts_late.specs.Given.ResizeDeclared.copier.Copying.TheVariants as copies
use Rattle.map_facts_late.specs.Given.ResizeDeclared.dispose.Dispose.{Dispose}
use Rattle.map_facts_late.specs.Given.ResizeDeclared.dispose.Disposing.{Disposing}
use Rattle.map_facts_late.specs.Given.ResizeDeclared.dispose.Disposing.TheVariants as disposes
use Rattle.map_facts_late.specs.Given.ResizeDeclared.yielding.Yielding.{Yielding}
use Rattle.map_facts_late.specs.Given.SweepsSweep as sweeps
use Rattle.map_facts_late.specs.Given.SweepsSweepPoints.{removes, standing, past, further, telling}
use Rattle.map_facts_late.specs.Given.ReservesDeclared.sweep.Sweep.{Sweep}
use Rattle.map_facts_late.specs.Given.ReservesDeclared.sweep.Sweeping.{Sweeping}
use Rattle.map_facts_late.specs.Given.ReservesDeclared.sweep.Sweeping.TheVariants as at
use Rattle.map_facts_late.specs.Given.ReservesDeclared.sweep.Swept.{Swept}
use Rattle.map_facts_late.specs.Given.ReservesDeclared.sweep.Swept.TheVariants as swept
use Rattle.map_facts_late.specs.Given.RuleChart.{Chart}
use Rattle.map_facts_late.specs.Given.RuleWords.{Blocks}
use Rattle.map_facts_late.specs.Given.RuleInWorld.{IsMapIn}
use Rattle.map_facts_late.specs.Given.PointsTold.{IsRowOf, IsRowOfCopier}
use Rattle.map_facts_late.specs.Given.PointsSteps.{AreLawful}
use Rattle.map_facts_late.specs.Covers.{Came}
use Rattle.map_facts_late.specs.FactsSweeps.{CopiesPairs}
use Rattle.map_facts_late.specs.ToldSweeps.{word_shown, IsRowOfSweep}
use Rattle.map_facts_late.proofs.Swept.Laws.{sweeps_go_on}
use Rattle.map_facts_late.proofs.Swept.Sweeps.Stands.{quiet_further}
use Rattle.many_calls.specs.OverAll.{CallOverAll, gone_on, row_of_sweep, past_sweeping, sweep_once_over, SweepClaims}
use Rattle.many_calls.specs.Rows.{row_of_disposal, row_of_copier, past_copying}
use Rattle.many_calls.specs.Sights.{Visible, seen_by}
use Rattle.many_calls.specs.Together.{UnderWay, OverAll, IsWriter, next_over_all, in_slot, IsReclaimed, KnowsSweep, Together}
use Rattle.many_calls.proofs.Sights.Seen.{map_seen}
use Rattle.many_calls.proofs.Together.Few.{few_with, few_without, sweep_row_claims_none, retired_claims_none}
use Rattle.many_calls.proofs.Together.Fits.{map_in_slot, knows_sweep_on, fits_some, fits_none, stands_by}
use Rattle.many_calls.proofs.Together.RowSteps.{RowCame, never_refused, settle_may, settle_came, settle_gives, defer_may, defer_came}
use Rattle.many_calls.proofs.Together.RowsOfCopiers.{at_retirement}
use Rattle.many_calls.proofs.Together.SweepsTold.{quiet_tries}

-- the row of a copying, or of a disposal
pub at_row : (P : Sweeping → Type 0) → ((p : Copier) → IsRowOfCopier p.stands → P (at.Copies p)) → ((d : Dispose) → IsRowOf d.stands → P (at.Disposes d)) → (x : Sweeping) → IsRowOfSweep x → P x
at_row P copying disposing (at.Copies p) row = copying p row
at_row P copying disposing (at.Disposes d) row = disposing d row
at_row P copying disposing at.Reads row = absurd row
at_row P copying disposing at.Follows row = absurd row
at_row P copying disposing at.Ready row = absurd row
at_row P copying disposing at.Words row = absurd row
at_row P copying disposing (at.Asks word) row = absurd row
at_row P copying disposing (at.Tries word) row = absurd row
at_row P copying disposing (at.Counts removed) row = absurd row
at_row P copying disposing at.Over row = absurd row
at_row P copying disposing (at.Refused fault) row = absurd row

module _ {K V Q : Type 0} (same : K → K → Bool) (hash : K → ℕ) (asks : Q → K → Bool) (setting : Setting) (slot : ℕ → ℕ) (lawful : AreLawful same hash)
    (w : World (Node K V)) (c : Chart K) (blocks : Blocks) (sights : ℕ → Visible) (calls : ℕ → Option (UnderWay K V Q)) (s : Together V same hash asks setting slot w c blocks sights calls)
    (i : ℕ) (o : CallOverAll) (inside : IsInside (w.uses (slot i))) where
  abbrev pub KnowsOf : World (Node K V) → Sweep → Type 0
  KnowsOf v p = KnowsSweep V same hash asks setting slot v c (seen_by blocks (sights (slot i))) i o p

  -- what the step came to
  pub record Led (m2 : Mem (Node K V)) (end : Sweep × Swept (Node K V)) : Type 0 where
    pub w2 : World (Node K V)
    pub memory : w2.memory ≡ m2
    pub happened : Happens deferred_word setting.batch_size (Step i) w w2
    pub together : Together V same hash asks setting slot w2 c blocks sights (with_at calls i (next_over_all (gone_on o end.0) end.1))
    pub over : (IsRowOfSweep end.0.stands → ⊥) → w2.row i ≡ Rests
    pub rests : next_over_all {K = K} {V = V} {Q = Q} (gone_on o end.0) end.1 ≡ None → w2.row i ≡ Rests
    pub silent : word_shown end.1 ≡ None
    pub comes : end.1 ≡ swept.Done → Came c o.entered o.sweep.purpose o.done
    pub gives : (value : Node K V) → end.1 ≡ swept.Gave value → IsReclaimed w w2 value

  pub seen_map : IsMapIn same hash (in_slot setting (slot i)) w c (seen_by blocks (sights (slot i)))
  seen_map = map_seen same hash (in_slot setting (slot i)) w c blocks (sights (slot i)) (map_in_slot same hash setting w c blocks (slot i) s.ground.map) (s.ground.sight (slot i) inside).0

  knows_came : (m2 : Mem (Node K V)) (row : Row) (came : RowCame same hash asks setting slot lawful w c blocks sights calls s i inside m2 row) (p : Sweep) → KnowsOf w p → KnowsOf came.w2 p
  knows_came m2 row came p k =
      knows_sweep_on same hash asks setting slot lawful i w came.w2 c c (seen_by blocks (sights (slot i))) (seen_by blocks (sights (slot i))) seen_map
      came.sees s.ground.moments came.stays (λ blocking t made l. l) i (inl refl) o p k

  module _ (its : IsWriter calls i) where
    -- it goes on, still within the row
    module _ (m2 : Mem (Node K V)) (p2 : Sweep) (came : RowCame same hash asks setting slot lawful w c blocks sights calls s i inside m2 (row_of_sweep (slot i) p2.stands))
        (is_row : IsRowOfSweep p2.stands) (k : KnowsOf w (sweep_once_over p2)) where
      still : Together V same hash asks setting slot came.w2 c blocks sights (with_at calls i (Some (OverAll (gone_on o p2))))
      still =
          stands_by same hash asks setting slot came.w2 c blocks sights calls i (Some (OverAll (gone_on o p2))) came.ground
          (fits_some same hash asks setting slot came.w2 c blocks (sights (slot i)) i (OverAll (gone_on o p2)) came.still_inside
          (inr (
            came.row_is,
            is_row,
            (let h = knows_came m2 (row_of_sweep (slot i) p2.stands) came (sweep_once_over p2) k in
                record { facts = h.facts; began_before = h.began_before; from = h.from; covers = h.covers; tries = h.tries }),
          ))) came.others
          (λ blocking. few_with calls i c (s.few blocking) (OverAll (gone_on o p2)) (λ writes. its) (sweep_row_claims_none p2.stands is_row)) came.puts (λ none. absurd (cc none))

      goes : Led m2 (p2, swept.Goes)
      goes = record { w2 = came.w2; memory = came.memory; happened = came.happened; together = still; over = λ none. absurd (none is_row); rests = λ none. absurd (cc none); silent = refl; comes = λ e. absurd (cc e); gives = λ value e. absurd (cc e) }

      waits : Led m2 (p2, swept.Waits)
      waits = record { w2 = came.w2; memory = came.memory; happened = came.happened; together = still; over = λ none. absurd (none is_row); rests = λ none. absurd (cc none); silent = refl; comes = λ e. absurd (cc e); gives = λ value e. absurd (cc e) }

      gave : (value : Node K V) → IsReclaimed w came.w2 value → Led m2 (p2, swept.Gave value)
      gave value taken = record {
        w2 = came.w2;
        memory = came.memory;
        happened = came.happened;
        together = still;
        over = λ none. absurd (none is_row);
        rests = λ none. absurd (cc none);
        silent = refl;
        comes = λ e. absurd (cc e);
        gives = λ it e. subst (IsReclaimed w came.w2) (same_value it e) taken;
      }
        where
          same_value : (it : Node K V) → ◌≡◌ {A = Swept (Node K V)} (swept.Gave value) (swept.Gave it) → value ≡ it
          same_value it e = cc e

    -- the row is over
    module _ (m2 : Mem (Node K V)) (p2 : Sweep) (came : RowCame same hash asks setting slot lawful w c blocks sights calls s i inside m2 Rests) (k : KnowsOf w p2) where
      -- and it goes on
      over_goes : ((t : ℕ) → SweepClaims t p2.stands → ⊥) → Led m2 (p2, swept.Goes)
      over_goes claims = record {
        w2 = came.w2;
        memory = came.memory;
        happened = came.happened;
        together = stands_by same hash asks setting slot came.w2 c blocks sights calls i (Some (OverAll (gone_on o p2))) came.ground
            (fits_some same hash asks setting slot came.w2 c blocks (sights (slot i)) i (OverAll (gone_on o p2)) came.still_inside
            (inl (came.row_is, (let h = knows_came m2 Rests came p2 k in record { facts = h.facts; began_before = h.began_before; from = h.from; covers = h.covers; tries = h.tries })))) came.others
            (λ blocking. few_with calls i c (s.few blocking) (OverAll (gone_on o p2)) (λ writes. its) claims) came.puts (λ none. absurd (cc none));
        over = λ none. came.row_is;
        rests = λ none. came.row_is;
        silent = refl;
        comes = λ e. absurd (cc e);
        gives = λ value e. absurd (cc e);
      }

      -- or ends
      over_ends : p2.stands ≡ at.Over → Came c o.entered o.sweep.purpose o.done → Led m2 (p2, swept.Done)
      over_ends is came_to = record {
        w2 = came.w2;
        memory = came.memory;
        happened = came.happened;
        together = stands_by same hash asks setting slot came.w2 c blocks sights calls i None came.ground
            (fits_none same hash asks setting slot came.w2 c blocks (sights (slot i)) i ((knows_came m2 Rests came p2 k).facts.idle (λ copies. by p2.stands is copies))) came.others
            (λ blocking. few_without calls i c (s.few blocking)) came.puts (λ none. came.row_is);
        over = λ none. came.row_is;
        rests = λ none. came.row_is;
        silent = refl;
        comes = λ e. came_to;
        gives = λ value e. absurd (cc e);
      }
        where
          by : (stage : Sweeping) → stage ≡ at.Over → CopiesPairs stage → ⊥
          by stage is copies = subst CopiesPairs is copies

    -- the disposal of the pair that it has removed
    module _ (d : Dispose) (k : KnowsOf w (standing o.sweep (at.Disposes (dispose.standing d disposes.Over)))) where
      abbrev within : Disposing → Sweep
      within x = standing o.sweep (at.Disposes (dispose.standing d x))

      -- what it knows and has come to behind its place
      further_knows : KnowsOf w (further o.sweep)
      further_knows =
          let on = sweeps_go_on V same hash (in_slot setting (slot i)) w i c (seen_by blocks (sights (slot i))) o.began (within disposes.Over) seen_map
          (record { setting_is = k.facts.setting_is; taking = k.facts.point.0; idle = k.facts.idle (λ copies. copies); turn = k.facts.point.1; place = k.facts.point.2 }) in
          record {
            facts = on.0;
            began_before = k.began_before;
            from = k.from;
            covers = on.1 o.entered o.done k.covers;
            tries = quiet_tries hash c (seen_by blocks (sights (slot i))) o.told (further o.sweep).purpose (further o.sweep).stands (quiet_further o.sweep);
          }

      disposed_of : (m2 : Mem (Node K V)) → RowCame same hash asks setting slot lawful w c blocks sights calls s i inside m2 Rests → Led m2 (telling (further o.sweep))
      disposed_of m2 came = by (nat_lt ((o.sweep.place + 1) % 2 ^ 64) o.sweep.table.len) (removes o.sweep.purpose && o.sweep.met) further_knows
        where
          by : (more again : Bool) → KnowsOf w (standing (past o.sweep) (if more then at.Words else (if again then at.Follows else at.Over)))
              → Led m2 (telling (standing (past o.sweep) (if more then at.Words else (if again then at.Follows else at.Over))))
          by true again k = over_goes m2 _ came k (λ t claims. claims)
          by false true k = over_goes m2 _ came k (λ t claims. claims)
          by false false k = over_ends m2 _ came k refl k.covers

      settles : (x : Settle) → w.row i ≡ Settles x → (m2 : Mem (Node K V)) (e : Settle × Settled (Node K V)) → Steps Took value_at w.memory (settle_plan deferred_word x) m2 e
          → Led m2 (sweeps.disposed o.sweep (dispose.settled d e))
      settles x is m2 (y, settled.Goes) st = goes m2 (within (disposes.Settles y)) (settle_came same hash asks setting slot lawful w c blocks sights calls s i inside m2 x is y settled.Goes st) tt k
      settles x is m2 (y, settled.Waits) st = waits m2 (within (disposes.Settles y)) (settle_came same hash asks setting slot lawful w c blocks sights calls s i inside m2 x is y settled.Waits st) tt k
      settles x is m2 (y, settled.Gave value) st =
          gave m2 (within (disposes.Settles y)) (settle_came same hash asks setting slot lawful w c blocks sights calls s i inside m2 x is y (settled.Gave value) st) tt k value
          (settle_gives same hash asks setting slot lawful w c blocks sights calls s i inside m2 x is y value st)
      settles x is m2 (y, settled.Done) st = disposed_of m2 (settle_came same hash asks setting slot lawful w c blocks sights calls s i inside m2 x is y settled.Done st)

      defers : (x : Defer) → w.row i ≡ Defers (slot i) x → (m2 : Mem (Node K V)) (e : Defer × Advance Unit) → Steps Took value_at w.memory (defer_plan x) m2 e
          → Led m2 (sweeps.disposed o.sweep (dispose.deferred d e))
      defers x is m2 (y, progress.Goes) st = goes m2 (within (disposes.Defers y)) (defer_came same hash asks setting slot lawful w c blocks sights calls s i inside m2 x is y progress.Goes st) tt k
      defers x is m2 (y, progress.Waits) st = waits m2 (within (disposes.Defers y)) (defer_came same hash asks setting slot lawful w c blocks sights calls s i inside m2 x is y progress.Waits st) tt k
      defers x is m2 (y, progress.Done end) st = disposed_of m2 (defer_came same hash asks setting slot lawful w c blocks sights calls s i inside m2 x is y (progress.Done end) st)
      defers x is m2 (y, progress.Refused fault) st = absurd (never_refused w.memory m2 x y fault st)

      -- the step as one of the sweep
      led : (r e : Dispose × Settled (Node K V)) → e ≡ r → (m2 : Mem (Node K V)) (end : Sweep × Swept (Node K V)) → end ≡ sweeps.disposed o.sweep e → Led m2 (sweeps.disposed o.sweep r) → Led m2 end
      led r e inner m2 end outer l = subst (Led m2) (sym outer) (subst (λ (x : Dispose × Settled (Node K V)). Led m2 (sweeps.disposed o.sweep x)) (sym inner) l)

      by_disposal : (x : Disposing) → IsRowOf x → w.row i ≡ row_of_disposal (slot i) x
          → May Can Took value_at w.memory (plan_as (sweeps.disposed o.sweep) (dispose.plan_at d x))
          × ((m2 : Mem (Node K V)) (end : Sweep × Swept (Node K V)) → Steps Took value_at w.memory (plan_as (sweeps.disposed o.sweep) (dispose.plan_at d x)) m2 end → Led m2 end)
      by_disposal (disposes.Settles x) row is = (
        as_may (sweeps.disposed o.sweep) Can Took value_at w.memory (plan_as (dispose.settled d) (settle_plan deferred_word x))
            (as_may (dispose.settled d) Can Took value_at w.memory (settle_plan deferred_word x) (settle_may same hash asks setting slot lawful w c blocks sights calls s i inside w.memory x is)),
        λ m2 end st.
            let one = steps_back (sweeps.disposed o.sweep) w.memory m2 (plan_as (dispose.settled d) (settle_plan deferred_word x)) end st in
            let two = steps_back (dispose.settled d) w.memory m2 (settle_plan deferred_word x) one.0 one.1 in
            led (dispose.settled d two.0) one.0 two.2 m2 end one.2 (settles x is m2 two.0 two.1),
      )
      by_disposal (disposes.Defers x) row is = (
        as_may (sweeps.disposed o.sweep) Can Took value_at w.memory (plan_as (dispose.deferred d) (defer_plan x))
            (as_may (dispose.deferred d) Can Took value_at w.memory (defer_plan x) (defer_may same hash asks setting slot lawful w c blocks sights calls s i inside w.memory x is)),
        λ m2 end st.
            let one = steps_back (sweeps.disposed o.sweep) w.memory m2 (plan_as (dispose.deferred d) (defer_plan x)) end st in
            let two = steps_back (dispose.deferred d) w.memory m2 (defer_plan x) one.0 one.1 in
            led (dispose.deferred d two.0) one.0 two.2 m2 end one.2 (defers x is m2 two.0 two.1),
      )
      by_disposal disposes.Reads row is = absurd row
      by_disposal (disposes.Walks table) row is = absurd row
      by_disposal disposes.Over row is = absurd row

    -- the retirement of a table
    by_told : (a e : Copier × Yielding (Node K V) Table) → e ≡ a → (m2 : Mem (Node K V)) (end : Sweep × Swept (Node K V)) → end ≡ sweeps.copied o.sweep e → Led m2 (sweeps.copied o.sweep a) → Led m2 end
    by_told a e inner m2 end outer l = subst (Led m2) (sym outer) (subst (λ (x : Copier × Yielding (Node K V) Table). Led m2 (sweeps.copied o.sweep x)) (sym inner) l)

    module _ (p : Copier) where
      abbrev copying : Copier → Sweep
      copying q = standing o.sweep (at.Copies q)

      retires : (x : Settle) (rest : ℕ) → KnowsOf w (copying (retiring.table_retired p rest)) → w.row i ≡ Settles x
          → (m2 : Mem (Node K V)) (e : Settle × Settled (Node K V)) → Steps Took value_at w.memory (settle_plan deferred_word x) m2 e → Led m2 (sweeps.copied o.sweep (retiring.retired p rest e))
      retires x rest k is m2 (y, settled.Goes) st =
          goes m2 (copying (copiers.standing p (copies.Retires y rest))) (settle_came same hash asks setting slot lawful w c blocks sights calls s i inside m2 x is y settled.Goes st) tt k
      retires x rest k is m2 (y, settled.Waits) st =
          waits m2 (copying (copiers.standing p (copies.Retires y rest))) (settle_came same hash asks setting slot lawful w c blocks sights calls s i inside m2 x is y settled.Waits st) tt k
      retires x rest k is m2 (y, settled.Gave value) st =
          gave m2 (copying (copiers.standing p (copies.Retires y rest))) (settle_came same hash asks setting slot lawful w c blocks sights calls s i inside m2 x is y (settled.Gave value) st) tt k value
          (settle_gives same hash asks setting slot lawful w c blocks sights calls s i inside m2 x is y value st)
      retires x rest k is m2 (y, settled.Done) st =
          over_goes m2 (copying (retiring.table_retired p rest)) (settle_came same hash asks setting slot lawful w c blocks sights calls s i inside m2 x is y settled.Done st) k (retired_claims_none p rest)

      abbrev CopyLeads : Copying → Type 0
      CopyLeads x =
          KnowsOf w (copying (past_copying p x)) → w.row i ≡ row_of_copier x
          → May Can Took value_at w.memory (plan_as (sweeps.copied o.sweep) (copier.plan_at hash p x))
          × ((m2 : Mem (Node K V)) (end : Sweep × Swept (Node K V)) → Steps Took value_at w.memory (plan_as (sweeps.copied o.sweep) (copier.plan_at hash p x)) m2 end → Led m2 end)

      by_copier : (x : Copying) → IsRowOfCopier x → CopyLeads x
      by_copier = at_retirement CopyLeads (λ x rest k is. (
        as_may (sweeps.copied o.sweep) Can Took value_at w.memory (plan_as (retiring.retired p rest) (settle_plan deferred_word x))
            (as_may (retiring.retired p rest) Can Took value_at w.memory (settle_plan deferred_word x) (settle_may same hash asks setting slot lawful w c blocks sights calls s i inside w.memory x is)),
        λ m2 end st.
            let one = steps_back (sweeps.copied o.sweep) w.memory m2 (plan_as (retiring.retired p rest) (settle_plan deferred_word x)) end st in
            let two = steps_back (retiring.retired p rest) w.memory m2 (settle_plan deferred_word x) one.0 one.1 in
            by_told (retiring.retired p rest two.0) one.0 two.2 m2 end one.2 (retires x rest k is m2 two.0 two.1),
      ))

    abbrev pub Leads : Sweeping → Type 0
    Leads x =
        w.row i ≡ row_of_sweep (slot i) x → KnowsOf w (standing o.sweep (past_sweeping x))
        → May Can Took value_at w.memory (sweeps.plan_at hash o.sweep x)
        × ((m2 : Mem (Node K V)) (end : Sweep × Swept (Node K V)) → Steps Took value_at w.memory (sweeps.plan_at hash o.sweep x) m2 end → Led m2 end)

    pub within_row : (x : Sweeping) → IsRowOfSweep x → Leads x
    within_row = at_row Leads (λ p row is k. by_copier p p.stands row k is) (λ d row is k. by_disposal d k d.stands row is)
