-- What a reservation does beside its copying leaves all to a caller that is alone, and it does not wait; then it may begin to copy. And where its
-- copying leads.
use Rattle.std.specs.Prelude.{◌^◌, ◌<◌, cond}
use Rattle.std.specs.Int.{IsPowerOfTwo}
use Rattle.std.proofs.Common.{◌≡◌, ◌≢◌, ℕ, Bool, true, false, refl, sym, subst}
use Rattle.many_maps.specs.Given.SeizeWordsMem.{Mem, value_at, Took}
use Rattle.many_maps.specs.Given.SeizeWordsPlan.{Steps}
use Rattle.many_maps.specs.Given.SeizeWorld.{World}
use Rattle.many_maps.specs.Given.TablesChunks.{is_incremental}
use Rattle.many_maps.specs.Given.ResizeCopier.{copier_plan}
use Rattle.many_maps.specs.Given.ResizeCopierStates.{copying_all}
use Rattle.many_maps.specs.Given.ReservesReserve.{copied}
use Rattle.many_maps.specs.Given.TablesDeclared.node.Node.{Node}
use Rattle.many_maps.specs.Given.ResizeDeclared.yielding.Yielding.{Yielding}
use Rattle.many_maps.specs.Given.ResizeDeclared.yielding.Yielding.TheVariants as outcome
use Rattle.many_maps.specs.Given.TablesDeclared.setting.Setting.{Setting}
use Rattle.many_maps.specs.Given.TablesDeclared.table.Table.{Table}
use Rattle.many_maps.specs.Given.ResizeDeclared.copier.Copier.{Copier}
use Rattle.many_maps.specs.Given.ReservesDeclared.reserve.Reserve.{Reserve}
use Rattle.many_maps.specs.Given.ReservesDeclared.reserve.Reserving.{Reserving}
use Rattle.many_maps.specs.Given.ReservesDeclared.reserve.Reserving.TheVariants as at
use Rattle.many_maps.specs.Given.RuleChart.{Chart}
use Rattle.many_maps.specs.Given.RuleRule.{Rule, IsLawful}
use Rattle.many_maps.specs.Given.RuleWords.{Blocks}
use Rattle.many_maps.specs.Given.RuleMaps.{spot_of}
use Rattle.many_maps.specs.Given.RuleInWorld.{IsMapIn}
use Rattle.many_maps.specs.Given.PointsFactsCopies.{CopierFacts}
use Rattle.many_maps.specs.Given.PointsFactsCopiesBlocking.{CopierFactsBlocking}
use Rattle.many_maps.specs.Given.PointsMeasures.{OthersIdle}
use Rattle.many_maps.specs.Given.PointsFactsAloneBlocking.{AloneBlocking, LeadsAlone}
use Rattle.many_maps.specs.Given.PointsTold.{IsRowOfCopier, CopierOutcome, CopierOutcomeBlocking, OnlyLinks}
use Rattle.many_maps.specs.Given.PointsToldMoves.{MovedAt}
use Rattle.many_maps.proofs.Given.PointsCalls.Making.{links_beside}
use Rattle.many_maps.specs.Given.LateFactsReserves.{CopiesPairs, IsEnding, CopiesWhole, ReservingFacts}
use Rattle.many_maps.specs.Given.LateToldReserves.{EndsAtRoot, WholeCopyOutcome, IsRowOfReserve}
use Rattle.many_maps.proofs.Given.LateRooms.Reserves.Moved.{IsFresh, Proceeds, CopierMoves, ReserveMoves}
use Rattle.owner_facts.specs.Alone.FactsAlone.{FactsAlone}
use Rattle.owner_facts.specs.Alone.FactsAloneCalls.{TablesAlone, AloneBetweenCalls}
use Rattle.owner_facts.proofs.Alone.Lone.Beside.{alone_begins, beside_idle, beside_tables}
use Rattle.owner_facts.proofs.Alone.Lone.Copier.{alone_goes}
use Rattle.owner_facts.proofs.Alone.Lone.Keeps.{kept_at}
use Rattle.owner_facts.proofs.Alone.Lone.QuietPoints.{IsQuiet, quiet_alone}
use Rattle.owner_facts.specs.Maps.FactsAloneReserves.{CopierAlone, ReservesAlone, IsLoneReserve, LeadsReserve}

-- where a step of its copier leads: it never waits
abbrev pub CopierLeads : {K T : Type 0} → Bool → ℕ → Chart K → Copier × Yielding T Table → Type 0
CopierLeads b caller c (p, outcome.Goes) = OthersIdle caller c × CopierAlone b c p
CopierLeads b caller c (p, outcome.Waits) = ⊥
CopierLeads b caller c (p, outcome.Gave value) = ⊥
CopierLeads b caller c (p, outcome.Done table) = AloneBetweenCalls b caller c
CopierLeads b caller c (p, outcome.Refused fault) = AloneBetweenCalls b caller c

module _ {K : Type 0} (b : Bool) (c : Chart K) where
  beside_is : (stands : Reserving) → (CopiesPairs stands → ⊥) → ReservesAlone b c stands ≡ TablesAlone b c
  beside_is at.Reads other = refl
  beside_is (at.Makes making) other = refl
  beside_is (at.Sums table sum) other = refl
  beside_is (at.Follows table need) other = refl
  beside_is (at.Grows table making) other = refl
  beside_is (at.Copies copier) other = absurd (other tt)
  beside_is at.Over other = refl
  beside_is (at.Refused fault) other = refl

  tables_of : (stands : Reserving) → (CopiesPairs stands → ⊥) → ReservesAlone b c stands → TablesAlone b c
  tables_of stands other alone = subst (λ (X : Type 0). X) (beside_is stands other) alone

-- one that begins to copy
module _ {K : Type 0} (c : Chart K) (setting : Setting) (tables : TablesAlone (is_incremental setting.mode) c) where
  pub begins_copying : (source target : Table) → CopierAlone (is_incremental setting.mode) c (copying_all setting source target)
  begins_copying source target = by (is_incremental setting.mode) refl tables
    where
      by : (b : Bool) → is_incremental setting.mode ≡ b → TablesAlone b c → CopierAlone b c (copying_all setting source target)
      by true bits known = rw bits (known.0, known.1)
      by false blocking known = alone_begins c setting source target blocking known.0 known.1

  fresh_alone : (stands : Reserving) → IsFresh setting stands → ReservesAlone (is_incremental setting.mode) c stands
  fresh_alone (at.Copies copier) (source, target, is) = subst (CopierAlone (is_incremental setting.mode) c) (sym is) (begins_copying source target)
  fresh_alone at.Reads fresh = tables
  fresh_alone (at.Makes making) fresh = tables
  fresh_alone (at.Sums table sum) fresh = tables
  fresh_alone (at.Follows table need) fresh = tables
  fresh_alone (at.Grows table making) fresh = tables
  fresh_alone at.Over fresh = tables
  fresh_alone (at.Refused fault) fresh = tables

  proceeds_alone : {T : Type 0} (caller : ℕ) → OthersIdle caller c → (end : Reserve × Yielding T Unit) → Proceeds setting end → LeadsReserve (is_incremental setting.mode) caller c end
  proceeds_alone caller idle (p, outcome.Goes) fresh = record { idle = idle; point = fresh_alone p.stands fresh }
  proceeds_alone caller idle (p, outcome.Waits) none = absurd none
  proceeds_alone caller idle (p, outcome.Gave value) none = absurd none
  proceeds_alone caller idle (p, outcome.Done end) on = record { idle = idle; tables = tables }
  proceeds_alone caller idle (p, outcome.Refused fault) on = record { idle = idle; tables = tables }

module _ {K T : Type 0} (same : K → K → Bool) (hash : K → ℕ) (caller : ℕ) (setting : Setting) (c : Chart K) (stands : Reserving) (other : CopiesPairs stands → ⊥)
    (end : Reserve × Yielding T Unit) (proceeds : Proceeds setting end) where
  -- a table was linked, if anything was changed
  linked_alone : (c2 : Chart K) → Rule same (spot_of hash) (is_incremental setting.mode) c → Rule same (spot_of hash) (is_incremental setting.mode) c2
      → OnlyLinks hash setting.mode c c2 → IsLoneReserve (is_incremental setting.mode) caller c stands → LeadsReserve (is_incremental setting.mode) caller c2 end
  linked_alone c2 rule rule2 links lone =
      let beside = links_beside hash setting.mode c c2 links in
      proceeds_alone c2 setting
      (beside_tables same hash caller c setting.mode c2 rule rule2 beside (tables_of (is_incremental setting.mode) c stands other lone.point)) caller
      (beside_idle same hash caller c setting.mode c2 beside lone.idle) end proceeds

module _ {K V : Type 0} (b : Bool) (caller : ℕ) (c : Chart K) where
  -- in incremental mode its copier is alone still, and has nothing to say of any table where it ends
  led_incremental : b ≡ true → (end : Copier × Yielding (Node K V) Table) → end.1 ≢ outcome.Waits → ((value : Node K V) → end.1 ≢ outcome.Gave value)
      → FactsAlone c caller end.0 × (end.1 ≢ outcome.Goes → IsQuiet end.0.stands) → CopierLeads b caller c end
  led_incremental bits end goes none kept = subst (λ (x : Bool). CopierLeads x caller c end) (sym bits) (by end goes none kept)
    where
      rests : (p : Copier) → IsQuiet p.stands → FactsAlone c caller p → AloneBetweenCalls true caller c
      rests p quiet alone = record { idle = alone.idle; tables = quiet_alone c p p.stands quiet alone.point }

      by : (end : Copier × Yielding (Node K V) Table) → end.1 ≢ outcome.Waits → ((value : Node K V) → end.1 ≢ outcome.Gave value)
          → FactsAlone c caller end.0 × (end.1 ≢ outcome.Goes → IsQuiet end.0.stands) → CopierLeads true caller c end
      by (p, outcome.Goes) goes none kept = (kept.0.idle, kept.0.point)
      by (p, outcome.Waits) goes none kept = absurd (goes refl)
      by (p, outcome.Gave value) goes none kept = absurd (none value refl)
      by (p, outcome.Done table) goes none kept = rests p (kept.1 (λ e. cc e)) kept.0
      by (p, outcome.Refused fault) goes none kept = rests p (kept.1 (λ e. cc e)) kept.0

  led_blocking : b ≡ false → (end : Copier × Yielding (Node K V) Table) → LeadsAlone c caller end → CopierLeads b caller c end
  led_blocking blocking end leads = subst (λ (x : Bool). CopierLeads x caller c end) (sym blocking) (by end leads)
    where
      by : (end : Copier × Yielding (Node K V) Table) → LeadsAlone c caller end → CopierLeads false caller c end
      by (p, outcome.Goes) alone = (alone.0, alone.1)
      by (p, outcome.Waits) alone = alone
      by (p, outcome.Gave value) alone = alone
      by (p, outcome.Done table) alone = record { idle = alone.0; tables = (alone.1, alone.2) }
      by (p, outcome.Refused fault) alone = record { idle = alone.0; tables = (alone.1, alone.2) }

  -- and so the reservation
  copied_alone : (p : Reserve) (end : Copier × Yielding (Node K V) Table) → CopierLeads b caller c end → LeadsReserve b caller c (copied p end)
  copied_alone p (next, outcome.Goes) alone = record { idle = alone.0; point = alone.1 }
  copied_alone p (next, outcome.Waits) alone = alone
  copied_alone p (next, outcome.Gave value) alone = alone
  copied_alone p (next, outcome.Done table) alone = record { idle = alone.idle; point = alone.tables }
  copied_alone p (next, outcome.Refused fault) alone = alone

module _ {K V : Type 0} (same : K → K → Bool) (hash : K → ℕ) (caller : ℕ) (setting : Setting) (lawful : IsLawful same (spot_of hash)) (fits : (k : K) → hash k < 2 ^ 64)
    (initial_is : IsPowerOfTwo setting.initial) (w w2 : World (Node K V)) (c c2 : Chart K) (blocks blocks2 : Blocks) (map : IsMapIn same hash setting w c blocks)
    (map2 : IsMapIn same hash setting w2 c2 blocks2) (m2 : Mem (Node K V)) where
  gives_none : (end : Copier × Yielding (Node K V) Table) → CopierOutcome w2 caller setting c2 blocks2 same hash end → (value : Node K V) → end.1 ≢ outcome.Gave value
  gives_none (p, outcome.Goes) told value e = absurd (cc e)
  gives_none (p, outcome.Waits) told value e = absurd (cc e)
  gives_none (p, outcome.Gave other) told value e = told
  gives_none (p, outcome.Done table) told value e = absurd (cc e)
  gives_none (p, outcome.Refused fault) told value e = absurd (cc e)

  abbrev KnowsIn : Copier → Bool → Type 0
  KnowsIn copier b =
      cond b ((copier.whole ≡ true) × CopierFacts same hash w caller setting c blocks copier × IsEnding same hash w caller setting c blocks copier copier.stands)
      (CopierFactsBlocking same hash w caller setting c blocks copier)

  abbrev ToldIn : Copier × Yielding (Node K V) Table → Bool → Type 0
  ToldIn end b =
      cond b (CopierOutcome w2 caller setting c2 blocks2 same hash end × (end.0.whole ≡ true) × EndsAtRoot w2 caller setting c2 blocks2 same hash end)
      (CopierOutcomeBlocking w2 caller setting c2 blocks2 same hash end)

  abbrev MovedIn : Copier → Copier × Yielding (Node K V) Table → Bool → Type 0
  MovedIn copier end b =
      cond b (MovedAt hash caller c copier copier.stands end c2) (OthersIdle caller c × AloneBlocking c copier copier.stands → LeadsAlone c2 caller end)

  -- a step of its copier, by the mode of the map
  pub copier_leads : (b : Bool) → is_incremental setting.mode ≡ b → (copier : Copier) → (IsRowOfCopier copier.stands → ⊥) → CopiesWhole same hash w caller setting c blocks copier
      → (end : Copier × Yielding (Node K V) Table) → Steps Took value_at w.memory (copier_plan hash copier) m2 end → WholeCopyOutcome w2 caller setting c2 blocks2 same hash end
      → CopierMoves same hash caller setting w c copier end c2 → OthersIdle caller c → CopierAlone b c copier → CopierLeads b caller c2 end
  copier_leads true bits copier none facts end s told moves idle alone =
      let f = subst (KnowsIn copier) bits facts in
      let t = subst (ToldIn end) bits told in
      led_incremental true caller c2 refl end
      (alone_goes same hash setting bits initial_is lawful fits w caller c blocks map copier m2 end f.1 none s (record { idle = idle; point = alone }))
      (gives_none end t.0)
      (kept_at same hash setting bits initial_is w caller c blocks map copier f.1.setting_is idle m2 end w2 c2 blocks2 map2 copier.stands refl f.1.point none s alone t.0
      (subst (MovedIn copier end) bits moves))
  copier_leads false blocking copier none facts end s told moves idle alone = led_blocking false caller c2 refl end (subst (MovedIn copier end) blocking moves (idle, alone))

  -- each step of a reservation that is alone
  pub reserve_leads : (stage : Reserving) → ReservingFacts same hash w caller setting c blocks stage → (IsRowOfReserve stage → ⊥) → (end : Reserve × Yielding (Node K V) Unit)
      → ReserveMoves same hash caller setting w c m2 stage end w2 c2 blocks2 → IsLoneReserve (is_incremental setting.mode) caller c stage → LeadsReserve (is_incremental setting.mode) caller c2 end
  reserve_leads (at.Copies copier) facts none end (b, s, from, told, moves) lone =
      subst (LeadsReserve (is_incremental setting.mode) caller c2) (sym from.1)
      (copied_alone (is_incremental setting.mode) caller c2 from.0 b (copier_leads (is_incremental setting.mode) refl copier none facts b s told moves lone.idle lone.point))
  reserve_leads at.Reads facts none end moves lone = linked_alone same hash caller setting c at.Reads (λ h. h) end moves.1 c2 map.map.rule map2.map.rule moves.0 lone
  reserve_leads (at.Makes making) facts none end moves lone = linked_alone same hash caller setting c (at.Makes making) (λ h. h) end moves.1 c2 map.map.rule map2.map.rule moves.0 lone
  reserve_leads (at.Sums table sum) facts none end moves lone = linked_alone same hash caller setting c (at.Sums table sum) (λ h. h) end moves.1 c2 map.map.rule map2.map.rule moves.0 lone
  reserve_leads (at.Follows table need) facts none end moves lone = linked_alone same hash caller setting c (at.Follows table need) (λ h. h) end moves.1 c2 map.map.rule map2.map.rule moves.0 lone
  reserve_leads (at.Grows table making) facts none end moves lone = linked_alone same hash caller setting c (at.Grows table making) (λ h. h) end moves.1 c2 map.map.rule map2.map.rule moves.0 lone
  reserve_leads at.Over facts none end moves lone = linked_alone same hash caller setting c at.Over (λ h. h) end moves.1 c2 map.map.rule map2.map.rule moves.0 lone
  reserve_leads (at.Refused fault) facts none end moves lone = linked_alone same hash caller setting c (at.Refused fault) (λ h. h) end moves.1 c2 map.map.rule map2.map.rule moves.0 lone
