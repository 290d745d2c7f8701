-- What a step of a row is to the reservation that it is within, and that it is of the root's table once the row is over.
use Rattle.std.specs.Prelude.{◌==◌, if◌then◌else◌}
use Rattle.std.proofs.Common.{◌≡◌, ℕ, ◌≤◌, Bool, true, false, refl, arith, ap, sym, subst, ◌∙◌}
use Rattle.seize_words.specs.OneMemory.Mem.{Mem, Took, value_at}
use Rattle.seize_words.specs.OneMemory.Plan.{Steps, plan_as}
use Rattle.seize.specs.declared.rows.settle.Settle.{Settle}
use Rattle.seize.specs.declared.rows.settle.Settled.{Settled}
use Rattle.seize.specs.declared.rows.settle.Settled.TheVariants as settled
use Rattle.seize.specs.Settle.{settle_plan}
use Rattle.seize.specs.World.{World, Rests, Settles}
use Rattle.map_measures.proofs.Given.SeizeEndsSettling.Most.{is_going}
use Rattle.map_measures.proofs.Given.SeizeRuleRows.Leaving.{steps_back}
use Rattle.map_tables.specs.Chunks.{is_incremental}
use Rattle.map_tables.specs.Nodes.{deferred_word}
use Rattle.map_tables.specs.declared.node.Node.{Node}
use Rattle.map_tables.specs.declared.setting.Setting.{Setting}
use Rattle.map_measures.specs.Given.ResizeCopierPromotes as retiring
use Rattle.map_measures.specs.Given.ResizeCopier as copier
use Rattle.map_measures.specs.Given.ResizeCopierStates as copiers
use Rattle.map_measures.specs.Given.ResizeDeclared.copier.Copier.{Copier}
use Rattle.map_measures.specs.Given.ResizeDeclared.copier.Copying.{Copying}
use Rattle.map_measures.specs.Given.ResizeDeclared.copier.Copying.TheVariants as copies
use Rattle.map_measures.specs.Given.ResizeDeclared.yielding.Yielding.{Yielding}
use Rattle.map_measures.specs.Given.ResizeDeclared.yielding.Yielding.TheVariants as outcome
use Rattle.papaya_raw.specs.Given.ReservesReserve.{standing, copied, reserve_plan, plan_at}
use Rattle.papaya_raw.specs.Given.ReservesDeclared.reserve.Reserve.{Reserve}
use Rattle.papaya_raw.specs.Given.ReservesDeclared.reserve.Reserving.{Reserving}
use Rattle.papaya_raw.specs.Given.ReservesDeclared.reserve.Reserving.TheVariants as at
use Rattle.map_measures.specs.Given.RuleChart.{Chart}
use Rattle.map_measures.specs.Given.RuleWords.{Blocks}
use Rattle.owner_facts.specs.Given.PointsTold.{IsRowOfCopier}
use Rattle.owner_facts.specs.Given.LateFactsReserves.{ReservingFacts}
use Rattle.owner_facts.specs.Given.LateLateReserves.{SupersededReserving}
use Rattle.owner_facts.specs.Given.LateToldReserves.{IsRowOfReserve}
use Rattle.owner_facts.specs.Maps.AloneReserves.{LooksAtRoot, SumsUp}
use Rattle.owner_facts.specs.Maps.FactsAloneReserves.{CopierAlone, ReservesAlone}
use Rattle.map_measures.specs.Given.CallersRows.{row_of_copier, past_copying}
use Rattle.owner_facts.specs.Given.CallersRooms.{row_of_room, past_room, room_once_over}
use Rattle.owner_facts.proofs.Given.CallersTogether.RowsOfCopiers.{at_retirement}
use Rattle.map_measures.specs.Falls.Reserves.{number_of_reserve}
use Rattle.owner_whole.proofs.Whole.Fresh.Rooms.{whole_blocking}
use Rattle.owner_whole.proofs.Whole.Rows.Standing.{copier_row, target_here, target_over, late_now, late_over}
use Rattle.owner_facts.proofs.Given.CallersTogether.RoomRows.{at_copying as at_room_row}

-- what a reservation tells by a step of a retirement within it
abbrev pub room_told_by : {T : Type 0} → Settled T → Yielding T Unit
room_told_by settled.Goes = outcome.Goes
room_told_by settled.Waits = outcome.Waits
room_told_by (settled.Gave value) = outcome.Gave value
room_told_by settled.Done = outcome.Goes

-- a copier of it that retires a table has the table with this turn as its target
abbrev pub RoomTargetIs : ℕ → Reserving → Type 0
RoomTargetIs first (at.Copies copier) = copier.target.turn ≡ first
RoomTargetIs first _ = Unit {0}

pub no_room_row_rests : (x : Reserving) → IsRowOfReserve x → Rests ≡ row_of_room x → ⊥
no_room_row_rests = at_room_row (λ x. Rests ≡ row_of_room x → ⊥) (λ p row. copier_row p.stands row)

-- A row leaves the table that is copied into as it is, and counts nothing.
module _ {K : Type 0} (c : Chart K) where
  pub still_looks : (x y : Reserving) → IsRowOfReserve x → IsRowOfReserve y → ((first : ℕ) → RoomTargetIs first x → RoomTargetIs first y) → LooksAtRoot c x → LooksAtRoot c y
  still_looks x y row after = at_room_row (λ z. ((first : ℕ) → RoomTargetIs first z → RoomTargetIs first y) → LooksAtRoot c z → LooksAtRoot c y)
      (λ p at_row. at_room_row (λ z. ((first : ℕ) → p.target.turn ≡ first → RoomTargetIs first z) → c.first ≤ p.target.turn → LooksAtRoot c z)
      (λ q at_row2 target near. let e = target p.target.turn refl in omega (arith, near, e)) y after) x row

  past_near : (p : Copier) (stands : Copying) → IsRowOfCopier stands → c.first ≤ p.target.turn → c.first ≤ (past_copying p stands).target.turn
  past_near p = at_retirement (λ z. c.first ≤ p.target.turn → c.first ≤ (past_copying p z).target.turn) (λ settle rest. by rest (rest == 0))
    where
      by : (rest : ℕ) (b : Bool) → c.first ≤ p.target.turn → c.first ≤ (if b then copiers.standing p copies.Over else copiers.standing p (copies.Succeeds rest)).target.turn
      by rest true near = near
      by rest false near = near

  pub over_looks : (x : Reserving) → IsRowOfReserve x → LooksAtRoot c x → LooksAtRoot c (past_room x)
  over_looks = at_room_row (λ z. LooksAtRoot c z → LooksAtRoot c (past_room z)) (λ p row near. past_near p p.stands row near)

module _ {T : Type 0} (setting : Setting) (m : Mem T) where
  pub row_sums : (x : Reserving) → IsRowOfReserve x → SumsUp setting m x
  row_sums = at_room_row (λ z. SumsUp setting m z) (λ p row. tt)

  pub over_sums : (x : Reserving) → IsRowOfReserve x → SumsUp setting m (past_room x)
  over_sums = at_room_row (λ z. SumsUp setting m (past_room z)) (λ p row. tt)

module _ {K V : Type 0} (hash : K → ℕ) (p : Reserve) (m m2 : Mem (Node K V)) where
  -- it is within the row still
  pub record StillRoom (q : Reserve) : Type 0 where
    pub is_row : IsRowOfReserve q.stands
    pub number : (c : Chart K) (blocks : Blocks) → number_of_reserve c blocks q ≡ number_of_reserve c blocks p
    pub alone : (incremental : Bool) (c : Chart K) → ReservesAlone incremental c p.stands → ReservesAlone incremental c q.stands
    pub target : (first : ℕ) → RoomTargetIs first p.stands → RoomTargetIs first q.stands

  pub data RoomAccount : Reserve × Yielding (Node K V) Unit → Type 0 where
    RoomSettling : (x y : Settle) (o : Settled (Node K V)) (end : Reserve × Yielding (Node K V) Unit) → row_of_room p.stands ≡ Settles x → Steps Took value_at m (settle_plan deferred_word x) m2 (y, o)
        → is_going o ≡ true → end.1 ≡ room_told_by o → row_of_room end.0.stands ≡ Settles y → StillRoom end.0 → RoomAccount end
    RoomOver : (end : Reserve × Yielding (Node K V) Unit) → end.1 ≡ outcome.Goes → (IsRowOfReserve end.0.stands → ⊥) → end.0 ≡ room_once_over p
        → ((incremental : Bool) (c : Chart K) → ReservesAlone incremental c p.stands → ReservesAlone incremental c end.0.stands) → RoomAccount end

  room_account_of : (q end : Reserve × Yielding (Node K V) Unit) → end ≡ q → RoomAccount q → RoomAccount end
  room_account_of q end is a = subst RoomAccount (sym is) a

  retired_no_row : (c : Copier) (rest : ℕ) → IsRowOfCopier (retiring.table_retired c rest).stands → ⊥
  retired_no_row c rest = by (rest == 0)
    where
      by : (b : Bool) → IsRowOfCopier (if b then copiers.standing c copies.Over else copiers.standing c (copies.Succeeds rest)).stands → ⊥
      by true h = h
      by false h = h

  module _ (copy : Copier) (is : p.stands ≡ at.Copies copy) where
    abbrev copying : Copier → Reserve
    copying q = standing p (at.Copies q)

    copying_past : (x : Settle) (rest : ℕ) → copy.stands ≡ copies.Retires x rest → copying (retiring.table_retired copy rest) ≡ room_once_over p
    copying_past x rest e = sym (ap (λ (z : Reserving). standing p (past_room z)) is ∙ ap (λ (v : Copying). copying (past_copying copy v)) e)

    retiring_alone : (x y : Settle) (rest : ℕ) → (incremental : Bool) (c : Chart K) → CopierAlone incremental c (copiers.standing copy (copies.Retires x rest))
        → CopierAlone incremental c (copiers.standing copy (copies.Retires y rest))
    retiring_alone x y rest true c h = h
    retiring_alone x y rest false c h = h

    copying_alone : (x : Settle) (rest : ℕ) → copy.stands ≡ copies.Retires x rest → (incremental : Bool) (c : Chart K) → ReservesAlone incremental c p.stands
        → CopierAlone incremental c (copiers.standing copy (copies.Retires x rest))
    copying_alone x rest e incremental c h = subst (λ (z : Copying). CopierAlone incremental c (copiers.standing copy z)) e (subst (ReservesAlone incremental c) is h)

    copying_still : (x y : Settle) (rest : ℕ) → copy.stands ≡ copies.Retires x rest → StillRoom (copying (copiers.standing copy (copies.Retires y rest)))
    copying_still x y rest e = record {
      is_row = tt;
      number = λ c blocks. retiring_number c blocks (is_incremental p.setting.mode) ∙ ap (λ (z : Copying). number_of_reserve c blocks (copying (copiers.standing copy z))) (sym e)
          ∙ ap (λ (z : Reserving). number_of_reserve c blocks (standing p z)) (sym is);
      alone = λ incremental c h. retiring_alone x y rest incremental c (copying_alone x rest e incremental c h);
      target = λ first h. subst (RoomTargetIs first) is h;
    }
      where
        retiring_number : (c : Chart K) (blocks : Blocks) (b : Bool) → number_of_reserve c blocks (copying (copiers.standing copy (copies.Retires y rest))) ≡ number_of_reserve c blocks (copying (copiers.standing copy (copies.Retires x rest)))
        retiring_number c blocks b = refl

    copying_over : (x : Settle) (rest : ℕ) → copy.stands ≡ copies.Retires x rest → (incremental : Bool) (c : Chart K) → ReservesAlone incremental c p.stands
        → ReservesAlone incremental c (at.Copies (retiring.table_retired copy rest))
    copying_over x rest e incremental c h = by incremental (rest == 0) (copying_alone x rest e incremental c h)
      where
        by : (i b : Bool) → CopierAlone i c (copiers.standing copy (copies.Retires x rest))
            → CopierAlone i c (if b then copiers.standing copy copies.Over else copiers.standing copy (copies.Succeeds rest))
        by true true f = f
        by true false f = f
        by false true f = f
        by false false f = f

    copying_told : (x : Settle) (rest : ℕ) → copy.stands ≡ copies.Retires x rest → (y : Settle) (o : Settled (Node K V)) → Steps Took value_at m (settle_plan deferred_word x) m2 (y, o)
        → RoomAccount (copied p (retiring.retired copy rest (y, o)))
    copying_told x rest e y settled.Goes st =
        RoomSettling x y settled.Goes (copying (copiers.standing copy (copies.Retires y rest)), outcome.Goes) (ap row_of_room is ∙ ap row_of_copier e) st refl refl refl (copying_still x y rest e)
    copying_told x rest e y settled.Waits st =
        RoomSettling x y settled.Waits (copying (copiers.standing copy (copies.Retires y rest)), outcome.Waits) (ap row_of_room is ∙ ap row_of_copier e) st refl refl refl (copying_still x y rest e)
    copying_told x rest e y (settled.Gave value) st =
        RoomSettling x y (settled.Gave value) (copying (copiers.standing copy (copies.Retires y rest)), outcome.Gave value) (ap row_of_room is ∙ ap row_of_copier e) st refl refl refl (copying_still x y rest e)
    copying_told x rest e y settled.Done st =
        RoomOver (copying (retiring.table_retired copy rest), outcome.Goes) refl (retired_no_row copy rest) (copying_past x rest e) (copying_over x rest e)

    copying_at : (x : Copying) → copy.stands ≡ x → IsRowOfCopier x → (end : Reserve × Yielding (Node K V) Unit) → Steps Took value_at m (plan_as (copied p) (copier.plan_at hash copy x)) m2 end → RoomAccount end
    copying_at x e row = at_retirement (λ z. copy.stands ≡ z → (end : Reserve × Yielding (Node K V) Unit) → Steps Took value_at m (plan_as (copied p) (copier.plan_at hash copy z)) m2 end → RoomAccount end)
        (λ settle rest is_it end st.
        let one = steps_back (copied p) m m2 (plan_as (retiring.retired copy rest) (settle_plan deferred_word settle)) end st in
        let two = steps_back (retiring.retired copy rest) m m2 (settle_plan deferred_word settle) one.0 one.1 in
        room_account_of (copied p (retiring.retired copy rest two.0)) end (one.2 ∙ ap (copied p) two.2) (copying_told settle rest is_it two.0.0 two.0.1 two.1)) x row e

  -- what a step of a row is that a reservation stands at
  pub room_account : IsRowOfReserve p.stands → (end : Reserve × Yielding (Node K V) Unit) → Steps Took value_at m (reserve_plan hash p) m2 end → RoomAccount end
  room_account row = at_room_row (λ x. p.stands ≡ x → (end : Reserve × Yielding (Node K V) Unit) → Steps Took value_at m (plan_at hash p x) m2 end → RoomAccount end)
      (λ copy at_row is end st. copying_at copy is copy.stands refl at_row end st) p.stands row refl

module _ {K V : Type 0} (same : K → K → Bool) (hash : K → ℕ) (setting : Setting) (w : World (Node K V)) (caller : ℕ) (c : Chart K) (seen : Blocks) (blocking : is_incremental setting.mode ≡ false) where
  abbrev Knowing : Reserving → Type 0
  Knowing x = ReservingFacts same hash w caller setting c seen x

  -- by what it knows, at the row or once that is over
  pub room_target_at : (x : Reserving) → IsRowOfReserve x → Knowing x → RoomTargetIs c.first x
  room_target_at = at_room_row (λ x. Knowing x → RoomTargetIs c.first x)
      (λ p row f. target_here same hash setting w caller c seen p p.stands row (whole_blocking same hash setting w caller c seen blocking p f).point)

  pub room_target_past : (x : Reserving) → IsRowOfReserve x → Knowing (past_room x) → RoomTargetIs c.first x
  room_target_past = at_room_row (λ x. Knowing (past_room x) → RoomTargetIs c.first x)
      (λ p row f. target_over same hash setting w caller c seen p p.stands row (whole_blocking same hash setting w caller c seen blocking (past_copying p p.stands) f).point)

  -- it is not late then
  module _ (began : ℕ) where
    abbrev Lately : Reserving → Type 0
    Lately x = SupersededReserving same hash w caller setting c seen began x

    pub room_never_late_at : (x : Reserving) → IsRowOfReserve x → RoomTargetIs c.first x → Lately x → ⊥
    room_never_late_at = at_room_row (λ x. RoomTargetIs c.first x → Lately x → ⊥) (λ p row root late. late_now same hash setting w caller c seen p began root p.stands row late.point)

    pub room_never_late_past : (x : Reserving) → IsRowOfReserve x → RoomTargetIs c.first x → Lately (past_room x) → ⊥
    room_never_late_past = at_room_row (λ x. RoomTargetIs c.first x → Lately (past_room x) → ⊥) (λ p row root late. late_over same hash setting w caller c seen p began root p.stands row late.point)
