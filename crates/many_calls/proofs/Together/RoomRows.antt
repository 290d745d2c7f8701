-- A reservation that is within a row of the collector, or stands at one, takes the row's next step: all stand together.
use Rattle.std.specs.Prelude.{◌≡◌, ℕ, Bool, Option, Some, None, ◌⊎◌}
use Rattle.std.proofs.Common.{ap, sym, subst, ◌∙◌, inl, inr, refl}
use Rattle.seize_model.specs.Given.SeizeWordsMem.{Mem, Can, Took, value_at}
use Rattle.seize_model.specs.Given.SeizeWordsPlan.{May, Steps, plan_as}
use Rattle.seize_model.proofs.Given.SeizeWordsPlans.{as_may}
use Rattle.seize_model.specs.Given.SeizeDeclared.rows.settle.Settle.{Settle}
use Rattle.seize_model.specs.Given.SeizeDeclared.rows.settle.Settled.{Settled}
use Rattle.seize_model.specs.Given.SeizeDeclared.rows.settle.Settled.TheVariants as settled
use Rattle.seize_model.specs.Given.SeizeSettle.{settle_plan}
use Rattle.seize_model.specs.Given.SeizeWorld.{World, Rests, Settles, Step, Happens, IsInside, with_at, Row}
use Rattle.seize_model.proofs.Given.SeizeRuleRows.Leaving.{steps_back}
use Rattle.seize_model.proofs.Given.SeizeRuleRows.Teams.{shares}
use Rattle.map_facts_late.specs.Given.TablesNodes.{deferred_word}
use Rattle.map_facts_late.specs.Given.TablesDeclared.node.Node.{Node}
use Rattle.map_facts_late.specs.Given.TablesDeclared.setting.Setting.{Setting}
use Rattle.map_facts_late.specs.Given.TablesDeclared.table.Table.{Table}
use Rattle.map_facts_late.specs.Given.ResizeCopierPromotes as retiring
use Rattle.map_facts_late.specs.Given.ResizeCopier as copier
use Rattle.map_facts_late.specs.Given.ResizeCopierStates as copiers
use Rattle.map_facts_late.specs.Given.ResizeDeclared.copier.Copier.{Copier}
use Rattle.map_facts_late.specs.Given.ResizeDeclared.copier.Copying.{Copying}
use Rattle.map_facts_late.specs.Given.ResizeDeclared.copier.Copying.TheVariants as copies
use Rattle.map_facts_late.specs.Given.ResizeDeclared.yielding.Yielding.{Yielding}
use Rattle.map_facts_late.specs.Given.ResizeDeclared.yielding.Yielding.TheVariants as outcome
use Rattle.map_facts_late.specs.Given.RuleChart.{Chart}
use Rattle.map_facts_late.specs.Given.RuleWords.{Blocks}
use Rattle.map_facts_late.specs.Given.PointsTold.{IsRowOfCopier}
use Rattle.map_facts_late.specs.Given.PointsSteps.{AreLawful}
use Rattle.many_calls.specs.Rows.{row_of_copier, past_copying}
use Rattle.many_calls.specs.Sights.{Visible, seen_by}
use Rattle.many_calls.proofs.Together.Few.{room_row_claims_none, few_with, retired_claims_none}
use Rattle.many_calls.specs.Together.{UnderWay, ForRoom, IsWriter, next_for_room, in_slot, IsReclaimed, KnowsRoom, IsAtPoint, Together, RoomRowsTogether, RoomRowsPreserveTheInvariant}
use Rattle.many_calls.proofs.Together.RowsOfCopiers.{at_retirement}
use Rattle.many_calls.proofs.Together.RowSteps.{RowCame, settle_may, settle_came, settle_gives}
use Rattle.many_calls.proofs.Together.Fits.{map_in_slot, knows_room_on, fits_some, stands_by}
use Rattle.map_facts_late.specs.Given.ReservesReserve as reserves
use Rattle.map_facts_late.specs.Given.ReservesReserve.{reserve_plan}
use Rattle.map_facts_late.specs.Given.ReservesDeclared.reserve.Reserve.{Reserve}
use Rattle.map_facts_late.specs.Given.ReservesDeclared.reserve.Reserving.{Reserving}
use Rattle.map_facts_late.specs.Given.ReservesDeclared.reserve.Reserving.TheVariants as at
use Rattle.map_facts_late.specs.FactsReserves.{ReserveFacts}
use Rattle.map_facts_late.specs.LateReserves.{SupersededReserveFacts}
use Rattle.map_facts_late.specs.ToldReserves.{IsRowOfReserve}
use Rattle.map_facts_late.specs.Given.RuleInWorld.{IsMapIn}
use Rattle.many_calls.specs.Rooms.{CallForRoom, row_of_room, past_room, room_once_over, RoomClaims}
use Rattle.many_calls.proofs.Sights.Seen.{map_seen}
use Rattle.many_calls.proofs.Together.Came.{came_reached}
use Rattle.many_calls.proofs.Together.Slots.{step_leaves, begun_leaves, room_shares}
use Rattle.many_calls.proofs.Together.Begun as begun
use Rattle.many_calls.proofs.Together.Begun.{RowBegun}
use Rattle.many_calls.proofs.Together.RetiresWhole as whole

-- what a reservation knows once the first of the tables that its copier has unlinked is handed over
module _ {K V : Type 0} (same : K → K → Bool) (hash : K → ℕ) (setting : Setting) (w : World (Node K V)) (c : Chart K) (blocks : Blocks) (map : IsMapIn same hash setting w c blocks)
    (caller began : ℕ) (reserve : Reserve) (p : Copier) (settle : Settle) (rest : ℕ) where
  abbrev KnowsIn : Copier → World (Node K V) → Type 0
  KnowsIn q v =
      ReserveFacts same hash v caller setting c blocks (reserves.standing reserve (at.Copies q)) ⊎ SupersededReserveFacts same hash v caller setting c blocks began (reserves.standing reserve (at.Copies q))

  abbrev RetiresTable : Type 0
  RetiresTable = whole.RetiresTable same hash setting w c blocks map caller began p settle rest (KnowsIn (retiring.table_retired p rest))

  retires_table : KnowsIn (copiers.standing p (copies.Retires settle rest)) w → RetiresTable
  retires_table (inl h) =
      whole.retires_as same hash setting w c blocks map caller began p settle rest _ (KnowsIn (retiring.table_retired p rest))
      (λ v point. inl (record { setting_is = h.setting_is; idle = λ none. absurd (none tt); point = point }))
      (whole.retires_whole same hash setting w c blocks map caller began p settle rest h.point)
  retires_table (inr h) =
      whole.retires_as same hash setting w c blocks map caller began p settle rest _ (KnowsIn (retiring.table_retired p rest))
      (λ v point. inr (record { blocking = h.blocking; setting_is = h.setting_is; idle = h.idle; point = point }))
      (whole.retires_late same hash setting w c blocks map caller began p settle rest h.point)

-- the row of a copying
pub at_copying : (P : Reserving → Type 0) → ((p : Copier) → IsRowOfCopier p.stands → P (at.Copies p)) → (x : Reserving) → IsRowOfReserve x → P x
at_copying P by (at.Copies p) row = by p row
at_copying P by at.Reads row = absurd row
at_copying P by (at.Makes making) row = absurd row
at_copying P by (at.Sums table sum) row = absurd row
at_copying P by (at.Follows table need) row = absurd row
at_copying P by (at.Grows table making) row = absurd row
at_copying P by at.Over row = absurd row
at_copying P by (at.Refused fault) row = absurd row

module _ {K V Q : Type 0} (same : K → K → Bool) (hash : K → ℕ) (asks : Q → K → Bool) (setting : Setting) (slot : ℕ → ℕ) (lawful : AreLawful same hash)
    (w : World (Node K V)) (c : Chart K) (blocks : Blocks) (sights : ℕ → Visible) (calls : ℕ → Option (UnderWay K V Q)) (s : Together V same hash asks setting slot w c blocks sights calls)
    (i : ℕ) (r : CallForRoom) (inside : IsInside (w.uses (slot i))) where
  abbrev KnowsOf : World (Node K V) → Reserve → Type 0
  KnowsOf v p = KnowsRoom V same hash asks setting slot v c (seen_by blocks (sights (slot i))) i r.began p

  abbrev then_at : Reserve → CallForRoom
  then_at p = record { began = r.began; reserve = p }

  -- what the step came to
  record Led (m2 : Mem (Node K V)) (end : Reserve × Yielding (Node K V) Unit) : Type 0 where
    pub w2 : World (Node K V)
    pub memory : w2.memory ≡ m2
    pub happened : Happens deferred_word setting.batch_size (Step i) w w2
    pub together : Together V same hash asks setting slot w2 c blocks sights (with_at calls i (next_for_room (then_at end.0) end.1))
    pub gives : (value : Node K V) → end.1 ≡ outcome.Gave value → IsReclaimed w w2 value
    pub rests : next_for_room {K = K} {V = V} {Q = Q} (then_at end.0) end.1 ≡ None → w2.row i ≡ Rests

  knows_came : (m2 : Mem (Node K V)) (row : Row) (came : RowCame same hash asks setting slot lawful w c blocks sights calls s i inside m2 row) (p : Reserve) → KnowsOf w p → KnowsOf came.w2 p
  knows_came m2 row came p k =
      knows_room_on same hash asks setting slot lawful i w came.w2 c c (seen_by blocks (sights (slot i))) (seen_by blocks (sights (slot i)))
      (map_seen same hash (in_slot setting (slot i)) w c blocks (sights (slot i)) (map_in_slot same hash setting w c blocks (slot i) s.ground.map) (s.ground.sight (slot i) inside).0)
      came.sees s.ground.moments came.stays (λ blocking t made l. l) r.began p k

  module _ (its : IsWriter calls i) where
    -- it goes on, still within the row
    module _ (m2 : Mem (Node K V)) (p2 : Reserve) (came : RowCame same hash asks setting slot lawful w c blocks sights calls s i inside m2 (row_of_room p2.stands))
        (is_row : IsRowOfReserve p2.stands) (k : KnowsOf w (room_once_over p2)) where
      still : Together V same hash asks setting slot came.w2 c blocks sights (with_at calls i (Some (ForRoom (then_at p2))))
      still =
          stands_by same hash asks setting slot came.w2 c blocks sights calls i (Some (ForRoom (then_at p2))) came.ground
          (fits_some same hash asks setting slot came.w2 c blocks (sights (slot i)) i (ForRoom (then_at p2)) came.still_inside (inr (came.row_is, is_row, knows_came m2 (row_of_room p2.stands) came (room_once_over p2) k))) came.others
          (λ blocking. few_with calls i c (s.few blocking) (ForRoom (then_at p2)) (λ writes. its) (room_row_claims_none p2.stands is_row)) came.puts (λ none. absurd (cc none))

      goes : Led m2 (p2, outcome.Goes)
      goes = record { w2 = came.w2; memory = came.memory; happened = came.happened; together = still; gives = λ value e. absurd (cc e); rests = λ none. absurd (cc none) }

      waits : Led m2 (p2, outcome.Waits)
      waits = record { w2 = came.w2; memory = came.memory; happened = came.happened; together = still; gives = λ value e. absurd (cc e); rests = λ none. absurd (cc none) }

      gave : (value : Node K V) → IsReclaimed w came.w2 value → Led m2 (p2, outcome.Gave value)
      gave value taken = record { w2 = came.w2; memory = came.memory; happened = came.happened; together = still; gives = λ it e. subst (IsReclaimed w came.w2) (same_value it e) taken; rests = λ none. absurd (cc none) }
        where
          same_value : (it : Node K V) → ◌≡◌ {A = Yielding (Node K V) Unit} (outcome.Gave value) (outcome.Gave it) → value ≡ it
          same_value it e = cc e

    -- it goes on, and the row is over
    over_goes : (m2 : Mem (Node K V)) (p2 : Reserve) → RowCame same hash asks setting slot lawful w c blocks sights calls s i inside m2 Rests
        → KnowsOf w p2 → ((t : ℕ) → RoomClaims t p2.stands → ⊥) → Led m2 (p2, outcome.Goes)
    over_goes m2 p2 came k claims = record {
      w2 = came.w2;
      memory = came.memory;
      happened = came.happened;
      together = stands_by same hash asks setting slot came.w2 c blocks sights calls i (Some (ForRoom (then_at p2))) came.ground
          (fits_some same hash asks setting slot came.w2 c blocks (sights (slot i)) i (ForRoom (then_at p2)) came.still_inside (inl (came.row_is, knows_came m2 Rests came p2 k))) came.others
          (λ blocking. few_with calls i c (s.few blocking) (ForRoom (then_at p2)) (λ writes. its) claims) came.puts (λ none. absurd (cc none));
      gives = λ value e. absurd (cc e);
      rests = λ none. absurd (cc none);
    }

    by_told : (p a e : Copier × Yielding (Node K V) Table) → e ≡ a → (m2 : Mem (Node K V)) (end : Reserve × Yielding (Node K V) Unit) → end ≡ reserves.copied r.reserve e
        → Led m2 (reserves.copied r.reserve a) → Led m2 end
    by_told p a e inner m2 end outer l = subst (Led m2) (sym outer) (subst (λ (x : Copier × Yielding (Node K V) Table). Led m2 (reserves.copied r.reserve x)) (sym inner) l)

    -- the retirement of a table
    module _ (p : Copier) where
      abbrev copying : Copier → Reserve
      copying q = reserves.standing r.reserve (at.Copies q)

      retires : (x : Settle) (rest : ℕ) → KnowsOf w (copying (retiring.table_retired p rest)) → w.row i ≡ Settles x
          → (m2 : Mem (Node K V)) (e : Settle × Settled (Node K V)) → Steps Took value_at w.memory (settle_plan deferred_word x) m2 e → Led m2 (reserves.copied r.reserve (retiring.retired p rest e))
      retires x rest k is m2 (y, settled.Goes) st =
          goes m2 (copying (copiers.standing p (copies.Retires y rest))) (settle_came same hash asks setting slot lawful w c blocks sights calls s i inside m2 x is y settled.Goes st) tt k
      retires x rest k is m2 (y, settled.Waits) st =
          waits m2 (copying (copiers.standing p (copies.Retires y rest))) (settle_came same hash asks setting slot lawful w c blocks sights calls s i inside m2 x is y settled.Waits st) tt k
      retires x rest k is m2 (y, settled.Gave value) st =
          gave m2 (copying (copiers.standing p (copies.Retires y rest))) (settle_came same hash asks setting slot lawful w c blocks sights calls s i inside m2 x is y (settled.Gave value) st) tt k value
          (settle_gives same hash asks setting slot lawful w c blocks sights calls s i inside m2 x is y value st)
      retires x rest k is m2 (y, settled.Done) st =
          over_goes m2 (copying (retiring.table_retired p rest)) (settle_came same hash asks setting slot lawful w c blocks sights calls s i inside m2 x is y settled.Done st) k (retired_claims_none p rest)

      abbrev CopyLeads : Copying → Type 0
      CopyLeads x =
          KnowsOf w (copying (past_copying p x)) → w.row i ≡ row_of_copier x
          → May Can Took value_at w.memory (plan_as (reserves.copied r.reserve) (copier.plan_at hash p x))
          × ((m2 : Mem (Node K V)) (end : Reserve × Yielding (Node K V) Unit) → Steps Took value_at w.memory (plan_as (reserves.copied r.reserve) (copier.plan_at hash p x)) m2 end → Led m2 end)

      by_copier : (x : Copying) → IsRowOfCopier x → CopyLeads x
      by_copier = at_retirement CopyLeads (λ x rest k is. (
        as_may (reserves.copied r.reserve) Can Took value_at w.memory (plan_as (retiring.retired p rest) (settle_plan deferred_word x))
            (as_may (retiring.retired p rest) Can Took value_at w.memory (settle_plan deferred_word x) (settle_may same hash asks setting slot lawful w c blocks sights calls s i inside w.memory x is)),
        λ m2 end st.
            let one = steps_back (reserves.copied r.reserve) w.memory m2 (plan_as (retiring.retired p rest) (settle_plan deferred_word x)) end st in
            let two = steps_back (retiring.retired p rest) w.memory m2 (settle_plan deferred_word x) one.0 one.1 in
            by_told (retiring.retired p rest two.0) (retiring.retired p rest two.0) one.0 two.2 m2 end one.2 (retires x rest k is m2 two.0 two.1),
      ))

    abbrev Leads : Reserving → Type 0
    Leads x =
        w.row i ≡ row_of_room x → KnowsOf w (reserves.standing r.reserve (past_room x))
        → May Can Took value_at w.memory (reserves.plan_at hash r.reserve x)
        × ((m2 : Mem (Node K V)) (end : Reserve × Yielding (Node K V) Unit) → Steps Took value_at w.memory (reserves.plan_at hash r.reserve x) m2 end → Led m2 end)

    within_row : (x : Reserving) → IsRowOfReserve x → Leads x
    within_row = at_copying Leads (λ p row is k. by_copier p p.stands row k is)

  -- it stands at the row, and begins it
  module _ (rests : w.row i ≡ Rests) where
    pub record Begun (x : Reserving) : Type 0 where
      pub row : RowBegun same hash asks setting slot lawful w c blocks sights calls s i inside rests (row_of_room x)
      pub knows : KnowsOf row.v (reserves.standing r.reserve (past_room x))

    seen_map : IsMapIn same hash (in_slot setting (slot i)) w c (seen_by blocks (sights (slot i)))
    seen_map = map_seen same hash (in_slot setting (slot i)) w c blocks (sights (slot i)) (map_in_slot same hash setting w c blocks (slot i) s.ground.map) (s.ground.sight (slot i) inside).0

    abbrev BeginsAt : Copier → Copying → Type 0
    BeginsAt p x = KnowsOf w (reserves.standing r.reserve (at.Copies (copiers.standing p x))) → Begun (at.Copies (copiers.standing p x))

    by_retirement : (p : Copier) (x : Copying) → IsRowOfCopier x → BeginsAt p x
    by_retirement p = at_retirement (BeginsAt p) (λ settle rest k.
        let t = retires_table same hash (in_slot setting (slot i)) w c (seen_by blocks (sights (slot i))) seen_map i r.began r.reserve p settle rest k.facts in
        record {
          row = begun.table_retires same hash asks setting slot lawful w c blocks sights calls s i inside rests t.t t.made t.known settle t.its (Settles settle) refl;
          knows = record {
            facts = t.knows (begun.row_then same hash asks setting slot lawful w c blocks sights calls s i inside rests (blocks.table t.t)) (begun.uses_then same hash asks setting slot lawful w c blocks sights calls s i inside rests);
            began_before = k.began_before;
          };
        })

    pub begins_at : (x : Reserving) → IsRowOfReserve x → KnowsOf w (reserves.standing r.reserve x) → Begun x
    begins_at = at_copying (λ x. KnowsOf w (reserves.standing r.reserve x) → Begun x) (λ p row k. by_retirement p p.stands row k)

module _ {K V Q : Type 0} (same : K → K → Bool) (hash : K → ℕ) (asks : Q → K → Bool) (setting : Setting) (slot : ℕ → ℕ) where
  pub room_rows_stand_together : RoomRowsPreserveTheInvariant V same hash asks setting slot
  room_rows_stand_together lawful w c blocks sights calls s i r has is_row = by (s.stand i (ForRoom r) has)
    where
      its : IsWriter calls i
      its = (ForRoom r, has, tt)

      by : IsAtPoint V same hash asks setting slot w c (seen_by blocks (sights (slot i))) i (ForRoom r)
          → May Can Took value_at w.memory (reserve_plan hash r.reserve)
          × ((m2 : Mem (Node K V)) (p2 : Reserve) (end : Yielding (Node K V) Unit) → Steps Took value_at w.memory (reserve_plan hash r.reserve) m2 (p2, end)
          → RoomRowsTogether V same hash asks setting slot w c blocks sights calls i r m2 p2 end)
      by (inr (here, row, k)) =
          let leads = within_row same hash asks setting slot lawful w c blocks sights calls s i r (s.inside i (ForRoom r) has) its r.reserve.stands row here k in (
            leads.0,
            λ m2 p2 end st. let l = leads.1 m2 (p2, end) st in record { w2 = l.w2; memory = l.memory; happened = inl l.happened; together = l.together; gives = l.gives; rests = l.rests; slots = step_leaves deferred_word setting.batch_size w (came_reached setting.batch_size w s.ground.came) i l.w2 (slot i) (ap shares here ∙ room_shares r.reserve.stands row) l.happened },
          )
      by (inl (rests, k)) =
          let b = begins_at same hash asks setting slot lawful w c blocks sights calls s i r (s.inside i (ForRoom r) has) rests r.reserve.stands is_row k in
          let then = begun.begun_stands same hash asks setting slot lawful w c blocks sights calls s i (s.inside i (ForRoom r) has) rests (row_of_room r.reserve.stands) b.row (ForRoom r) has
          (inr (b.row.row_is, is_row, b.knows)) (room_row_claims_none r.reserve.stands is_row) in
          let leads = within_row same hash asks setting slot lawful b.row.v c blocks sights calls then i r b.row.now_inside its r.reserve.stands is_row b.row.row_is b.knows in (
            subst (λ (m : Mem (Node K V)). May Can Took value_at m (reserve_plan hash r.reserve)) b.row.memory leads.0,
            λ m2 p2 end st.
                let l = leads.1 m2 (p2, end) (subst (λ (m : Mem (Node K V)). Steps Took value_at m (reserve_plan hash r.reserve) m2 (p2, end)) (sym b.row.memory) st) in
                record {
                  w2 = l.w2;
                  memory = l.memory;
                  happened = inr (b.row.request, b.row.v, b.row.hands, b.row.happened, l.happened);
                  together = l.together;
                  gives = λ value e. begun.begun_gives same hash asks setting slot lawful w c blocks sights calls s i (s.inside i (ForRoom r) has) rests (row_of_room r.reserve.stands) b.row l.w2 value (l.gives value e);
                  rests = l.rests;
                  slots = begun_leaves (slot i) i w b.row.v l.w2 b.row.alike b.row.on_slot
                      (step_leaves deferred_word setting.batch_size b.row.v (came_reached setting.batch_size b.row.v b.row.ground.came) i l.w2 (slot i) (ap shares b.row.row_is ∙ room_shares r.reserve.stands is_row) l.happened);
                },
          )
