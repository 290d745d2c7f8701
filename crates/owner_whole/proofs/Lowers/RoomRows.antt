-- A step of a row of the collector within a reservation: by all that can be looked at then, the numbers of the reservation and its row are lower.
use Rattle.std.specs.Prelude.{◌≡◌, ℕ, ◌<◌, Bool, true, Option, Some}
use Rattle.std.proofs.Common.{List, inl, inr, refl, ap, sym, subst, ◌∙◌}
use Rattle.seize_words.specs.OneMemory.Mem.{Mem, Took, value_at}
use Rattle.seize_words.specs.OneMemory.Plan.{Steps}
use Rattle.seize.specs.World.{World, Row, Settles, IsInside}
use Rattle.seize.specs.declared.rows.settle.Settled.{Settled}
use Rattle.seize.specs.declared.rows.settle.Settled.TheVariants as settled
use Rattle.map_measures.proofs.Given.SeizeEndsSettling.Most.{is_going, goes_further}
use Rattle.map_tables.specs.Chunks.{is_incremental}
use Rattle.map_tables.specs.declared.node.Node.{Node}
use Rattle.map_tables.specs.declared.setting.Setting.{Setting}
use Rattle.map_measures.specs.Given.ResizeDeclared.yielding.Yielding.{Yielding}
use Rattle.papaya_raw.specs.Given.ReservesReserve.{reserve_plan}
use Rattle.papaya_raw.specs.Given.ReservesDeclared.reserve.Reserve.{Reserve}
use Rattle.map_measures.specs.Given.RuleChart.{Chart}
use Rattle.map_measures.specs.Given.RuleWords.{Blocks}
use Rattle.map_measures.specs.Given.PointsMeasures.{IsBelow}
use Rattle.owner_facts.specs.Given.PointsSteps.{AreLawful}
use Rattle.owner_facts.specs.Given.LateToldReserves.{IsRowOfReserve}
use Rattle.owner_facts.specs.Given.CallersRooms.{CallForRoom, row_of_room, room_once_over}
use Rattle.owner_facts.specs.Given.CallersSights.{Visible, IsPartOf}
use Rattle.owner_facts.specs.Given.CallersTogether.{UnderWay, ForRoom, Together}
use Rattle.map_measures.specs.Falls.FallsWithin.{GoesFurther}
use Rattle.map_measures.specs.Falls.Reserves.{number_of_reserve}
use Rattle.map_measures.proofs.Falls.Below.{below_followed}
use Rattle.owner_whole.proofs.Whole.Rooms.Account.{room_told_by, RoomAccount, RoomSettling, RoomOver, room_account}
use Rattle.owner_whole.proofs.Lowers.Kept.{RoomLinks, room_kept}
use Rattle.owner_whole.proofs.Lowers.Rows.{left, with_left, settling_less, row_lowers}
use Rattle.owner_whole.proofs.Lowers.Within.{RoomWithin, room_within, room_at_row, room_behind}
use Rattle.map_measures.proofs.Falls.Reserves.Rows.{reserve_rows_fall}

-- a retirement that goes on does not wait
settles_on : {T : Type 0} (o : Settled T) → is_going o ≡ true → GoesFurther (room_told_by o) → goes_further o ≡ true
settles_on settled.Goes going goes = refl
settles_on settled.Waits going goes = absurd goes
settles_on (settled.Gave value) going goes = refl
settles_on settled.Done going goes = absurd (cc going)

module _ {K V Q : Type 0} (same : K → K → Bool) (hash : K → ℕ) (asks : Q → K → Bool) (setting : Setting) (slot : ℕ → ℕ) (lawful : AreLawful same hash)
    (w : World (Node K V)) (c : Chart K) (blocks : Blocks) (sights : ℕ → Visible) (calls : ℕ → Option (UnderWay K V Q)) (s : Together V same hash asks setting slot w c blocks sights calls)
    (i : ℕ) (inside : IsInside (w.uses (slot i))) (r : CallForRoom) (has : calls i ≡ Some (ForRoom r)) (is_row : IsRowOfReserve r.reserve.stands)
    (w2 : World (Node K V)) (blocks2 : Blocks) (part : IsPartOf c blocks2 blocks) (sights2 : ℕ → Visible) (calls2 : ℕ → Option (UnderWay K V Q))
    (then : Together V same hash asks setting slot w2 c blocks2 sights2 calls2) (inside2 : IsInside (w2.uses (slot i))) (r2 : CallForRoom) (has2 : calls2 i ≡ Some (ForRoom r2))
    (m2 : Mem (Node K V)) (end : Yielding (Node K V) Unit) (st : Steps Took value_at w.memory (reserve_plan hash r.reserve) m2 (r2.reserve, end)) (goes : GoesFurther end) where
  in_row : RoomWithin same hash asks setting slot lawful w c blocks sights calls s i inside r
  in_row = room_within same hash asks setting slot lawful w c blocks sights calls s i inside r has is_row

  -- where it stands then its number is what it was by what could be looked at before
  kept : RoomLinks c blocks2 r2.reserve.stands → number_of_reserve c blocks2 r2.reserve ≡ number_of_reserve c blocks r2.reserve
  kept links = room_kept c blocks blocks2 part.tables part.tables_known then.ground.map.map.later (is_incremental r2.reserve.setting.mode) r2.reserve.stands links

  abbrev Lower : Reserve → Type 0
  Lower q = IsBelow (with_left (number_of_reserve c blocks2 q) m2 (row_of_room q.stands)) (with_left (number_of_reserve c blocks r.reserve) w.memory (row_of_room r.reserve.stands))

  still : (q : Reserve) → q ≡ r2.reserve → IsRowOfReserve q.stands → number_of_reserve c blocks q ≡ number_of_reserve c blocks r.reserve
      → (x y : Row) → row_of_room r.reserve.stands ≡ x → row_of_room q.stands ≡ y → left m2 y < left in_row.v.memory x → Lower q
  still q is row number x y row1 row2 less =
      row_lowers w.memory m2 (number_of_reserve c blocks r.reserve) (number_of_reserve c blocks2 q) (row_of_room r.reserve.stands) (row_of_room q.stands) x y
      (subst (λ (p : Reserve). number_of_reserve c blocks2 p ≡ number_of_reserve c blocks p) (sym is)
      (kept (room_at_row same hash asks setting slot lawful w2 c blocks2 sights2 calls2 then i inside2 r2 has2 (subst (λ (p : Reserve). IsRowOfReserve p.stands) is row))) ∙ number) row1 row2
      (subst (λ (m : Mem (Node K V)). left m2 y < left m x) in_row.memory less)

  over : (q : Reserve) → q ≡ r2.reserve → (IsRowOfReserve q.stands → ⊥) → q ≡ room_once_over r.reserve → Lower q
  over q is none past =
      elim (reserve_rows_fall hash r.reserve is_row w.memory m2 (r2.reserve, end) st goes c blocks) as (λ _. Lower q) [
        | inl same_row ↦ absurd (none (subst (λ (p : Reserve). IsRowOfReserve p.stands) (sym is) same_row.0))
        | inr fallen ↦ subst Lower (sym is) (below_followed (number_of_reserve c blocks2 r2.reserve) (number_of_reserve c blocks r.reserve) _ _
            (subst (λ (xs : List ℕ). IsBelow xs (number_of_reserve c blocks r.reserve)) (sym (kept (room_behind same hash asks setting slot lawful w2 c blocks2 sights2 calls2 then i inside2 r2 has2 fallen.0
            r.reserve.stands is_row (ap (λ (p : Reserve). p.stands) (sym is ∙ past))))) fallen.1))
      ]

  by_account : (e : Reserve × Yielding (Node K V) Unit) → e ≡ (r2.reserve, end) → RoomAccount hash r.reserve in_row.v.memory m2 e → Lower e.0
  by_account e is (RoomSettling x y o _ row settles going tells row2 on) =
      still e.0 (ap (λ (z : Reserve × Yielding (Node K V) Unit). z.0) is) on.is_row (on.number c blocks) (Settles x) (Settles y) row row2
      (settling_less setting.batch_size in_row.v in_row.came i m2 x y o (in_row.row_is ∙ row) settles
      (settles_on o going (subst GoesFurther (sym (ap (λ (z : Reserve × Yielding (Node K V) Unit). z.1) is) ∙ tells) goes)))
  by_account e is (RoomOver _ tells none past alone) = over e.0 (ap (λ (z : Reserve × Yielding (Node K V) Unit). z.0) is) none past

  pub room_row_falls : Lower r2.reserve
  room_row_falls = by_account (r2.reserve, end) refl (room_account hash r.reserve in_row.v.memory m2 is_row (r2.reserve, end)
      (subst (λ (m : Mem (Node K V)). Steps Took value_at m (reserve_plan hash r.reserve) m2 (r2.reserve, end)) (sym in_row.memory) st))
