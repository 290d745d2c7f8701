-- Reservations among calls, makings and ends of maps.
use Rattle.std.proofs.Common.{ℕ, Bool, ap, sym, ◌∙◌}
use Rattle.many_calls.specs.Together.{ForRoom, next_for_room}
use Rattle.many_maps.proofs.Beside.Makings.Beside.{makings_on}
use Rattle.many_maps.proofs.Beside.Makings.CallSteps.{call_leaves, makings_with_call, no_maker, nones, settings, still_alone}
use Rattle.many_maps.proofs.Beside.Makings.RowSteps as makings
use Rattle.many_maps.proofs.Beside.Maps.All.{maps_with_call}
use Rattle.many_maps.proofs.Beside.Maps.Rows.{row_all_together}
use Rattle.many_maps.proofs.Beside.Maps.Steps.{all_together, others_stand}
use Rattle.many_calls.proofs.Together.RoomRows.{room_rows_stand_together}
use Rattle.many_calls.proofs.Together.Rooms.{rooms_begin_together, rooms_stand_together}
use Rattle.many_maps.specs.Rooms.{RoomsBeginWithEndings, RoomsPreserveWithEndings, RoomRowsPreserveWithEndings}
use Rattle.many_maps.proofs.Among.Beside.{endings_same}
use Rattle.many_maps.proofs.Among.Calls.{no_ender, ender_alone, endings_with_call, call_spares}
use Rattle.many_maps.proofs.Among.Rows as rows

module _ {K Q : Type 0} (V : Type 0) (same : K → K → Bool) (asks : Q → K → Bool) (batch_size roots : ℕ) (slot : ℕ → ℕ) where
  pub rooms_begin_among : RoomsBeginWithEndings V same asks batch_size roots slot
  rooms_begin_among w maps calls makers enders all i free unending alone rests inside m s here additional few =
      let standing = all.makings.standing in
      endings_with_call V same asks batch_size roots slot w maps calls makers enders all m i _ (λ j f ends e. (let none = ap enders (sym e) ∙ ends in cc (none, unending)))
      (makings_with_call V same asks batch_size roots slot w maps calls makers all.makings m i _ (λ j b makes e. (let none = ap makers (sym e) ∙ makes in cc (none, free)))
      (maps_with_call V same asks batch_size slot w maps calls standing m s here i _ (λ n ne. alone n)
      (rooms_begin_together same s.hash asks s.setting slot w s.chart s.blocks s.sights (calls m) i (standing.each m s here) (alone m) rests inside additional few)))

  pub rooms_stand_among : RoomsPreserveWithEndings V same asks batch_size roots slot
  rooms_stand_among w maps calls makers enders all m s here i r has none =
      let standing = all.makings.standing in
      let fit = standing.fit m s here in
      let leads = rooms_stand_together same s.hash asks s.setting slot fit.0 fit.1 w s.chart s.blocks s.sights (calls m) (standing.each m s here) i r has none in (
        leads.0,
        λ m2 p2 end st.
            let step = leads.1 m2 p2 end st in
            record {
              no_row = none;
              step = step;
              together = endings_same V same asks batch_size roots slot w maps calls makers enders all step.went.w2
                  (call_spares V same asks batch_size roots slot w maps calls makers enders all m s here i (ForRoom r) has ((standing.each m s here).inside i (ForRoom r) has) m2 _ step.went) _ _
                  (makings_on V same asks batch_size roots slot w maps calls makers all.makings step.went.w2
                  (call_leaves V same asks batch_size roots slot w maps calls makers all.makings m s here i (ForRoom r) has ((standing.each m s here).inside i (ForRoom r) has) m2 _ step.went) _ _
                  (all_together V same asks batch_size slot w maps calls standing m s here i (ForRoom r) has step.went.w2 step.went.c2 step.blocks2 step.sights2
                  (next_for_room (record { began = r.began; reserve = p2 }) end) step.together
                  (others_stand V same asks batch_size slot w maps calls standing m s here i (ForRoom r) has ((standing.each m s here).inside i (ForRoom r) has) m2 _ step.went))
                  (settings V same asks batch_size roots slot w maps calls makers all.makings m s here i (ForRoom r) has step.went.c2 step.blocks2 step.sights2)
                  (nones V same asks batch_size roots slot w maps calls makers all.makings m s here i (ForRoom r) has step.went.c2 step.blocks2 step.sights2)
                  (still_alone V same asks batch_size roots slot w maps calls makers all.makings m i _ (no_maker V same asks batch_size roots slot w maps calls makers all.makings m i (ForRoom r) has)))
                  (ender_alone V same asks batch_size roots slot w maps calls makers enders all m i _ (no_ender V same asks batch_size roots slot w maps calls makers enders all m i (ForRoom r) has))
                  (settings V same asks batch_size roots slot w maps calls makers all.makings m s here i (ForRoom r) has step.went.c2 step.blocks2 step.sights2);
            },
      )

  pub room_rows_stand_among : RoomRowsPreserveWithEndings V same asks batch_size roots slot
  room_rows_stand_among w maps calls makers enders all m s here i r has is_row =
      let standing = all.makings.standing in
      let leads = room_rows_stand_together same s.hash asks s.setting slot (standing.fit m s here).0 w s.chart s.blocks s.sights (calls m) (standing.each m s here) i r has is_row in (
        leads.0,
        λ m2 p2 end st.
            let step = leads.1 m2 p2 end st in
            let other = no_maker V same asks batch_size roots slot w maps calls makers all.makings m i (ForRoom r) has in
            record {
              is_row = is_row;
              step = step;
              together = rows.all_on V same asks batch_size roots slot w maps calls makers enders all step.w2
                  (rows.within_spares V same asks batch_size roots slot w maps calls makers enders all m s here i step.w2 step.happened) _
                  (ender_alone V same asks batch_size roots slot w maps calls makers enders all m i _ (no_ender V same asks batch_size roots slot w maps calls makers enders all m i (ForRoom r) has))
                  (makings.all_on V same asks batch_size roots slot w maps calls makers all.makings step.w2
                  (makings.one_step_leaves V same asks batch_size roots slot maps makers s.setting (standing.fit m s here).2 w standing.came i step.w2 step.happened other) _
                  (still_alone V same asks batch_size roots slot w maps calls makers all.makings m i _ other)
                  (row_all_together V same asks batch_size slot w maps calls standing m s here i (ForRoom r) has step.w2 _ step.happened step.together));
            },
      )
