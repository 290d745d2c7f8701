-- By each kind of step all stays in order from entry to entry of a history.
use Rattle.std.specs.Prelude.{◌≡◌, ◌≢◌, ◌==◌, ◌+◌, ℕ, Bool, true, false, List, [], Option, Some, None}
use Rattle.std.specs.List.{AllByRecursion}
use Rattle.std.proofs.Common.{refl, ap, sym, subst, ◌∙◌}
use Rattle.run_legal.proofs.Given.LateKindsKept.Laws.{told_sweeps_refuse_room}
use Rattle.seize_acts.specs.Given.SeizeWorld.{Step}
use Rattle.seize_acts.specs.Given.SeizeDeclared.advance.Advance.{Advance as Making}
use Rattle.seize_acts.specs.Given.SeizeDeclared.advance.Advance.TheVariants as making
use Rattle.run_legal.specs.Given.TablesDeclared.setting.Setting.{Setting}
use Rattle.run_schedules.specs.declared.outcome.Outcome.{Outcome}
use Rattle.run_schedules.specs.declared.outcome.Outcome.TheVariants as outcome
use Rattle.run_schedules.specs.Given.RawMachine.{machine_asked}
use Rattle.run_schedules.specs.declared.effect.Effect.{Effect}
use Rattle.run_schedules.specs.Schedules.Beginning.{fresh_call}
use Rattle.run_schedules.specs.Schedules.After.{replied}
use Rattle.run_schedules.specs.Schedules.Effects.{with_effects}
use Rattle.run_schedules.specs.Schedules.Entry.{IfCall, ends_call}
use Rattle.run_schedules.specs.Schedules.Moment.{MapThere, Moment, UnderWay as CallThere}
use Rattle.run_schedules.specs.Schedules.Terms.{Terms}
use Rattle.run_schedules.specs.Schedules.Views.{call_of}
use Rattle.run_legal.specs.Given.CallersTogether.{OverAll, UnderWay}
use Rattle.run_legal.specs.Given.EffectsEffects.{effects_of, known_after}
use Rattle.run_legal.specs.Given.EffectsKnown.{Known}
use Rattle.run_legal.specs.Given.EffectsDeclared.acting.Acting.TheVariants as acts
use Rattle.run_legal.specs.Given.FinishesMachines.{machine_of}
use Rattle.run_legal.specs.Given.FinishesMakings.{Beginning}
use Rattle.run_legal.specs.Given.FinishesMaps.{with_call}
use Rattle.run_legal.specs.Given.HandsAsked.{reply_to_machine}
use Rattle.run_legal.specs.Given.SettlesHand.{RefinesObligations}
use Rattle.run_legal.specs.Given.NamedMachines.{RefusedForRoom}
use Rattle.run_legal.specs.Given.NamedSeen.{kind_of}
use Rattle.run_legal.specs.Given.OthersEndings.{ending_after}
use Rattle.run_legal.specs.Given.OthersMakings.{making_after}
use Rattle.run_legal.specs.Given.OthersRows.{scene_then}
use Rattle.run_legal.specs.Given.ScenesHeld.{Held, IsAt}
use Rattle.run_legal.specs.Given.ScenesMaking.{MakingLeads}
use Rattle.run_legal.specs.Given.ScenesReplying.{scene_with, unless_stopped}
use Rattle.run_legal.specs.Given.ScenesScene.{Scene, slot_of}
use Rattle.run_legal.specs.Given.ScenesStepping.{has_ended, scene_after}
use Rattle.play_linear.proofs.Given.FindsEvents.{comes_same, told_same}
use Rattle.run_legal.proofs.Given.FindsGrown.{found_any}
use Rattle.run_legal.proofs.Given.FindsLists.{all_so}
use Rattle.run_legal.proofs.Given.FindsOver.{calls_stay}
use Rattle.run_legal.proofs.Given.GrowsFinding.Others.{ended_calls}
use Rattle.run_legal.proofs.Given.NamedCalled.{begins_for_room}
use Rattle.threads_rule.specs.Given.ActsActs.{begun}
use Rattle.run_schedules.specs.Deeds.Deeds.{Entry, ReclaimsAll, Steps, acted_on, after, come, moment, named}
use Rattle.play_linear.specs.Given.PlayedPlay.{call_for, is_over, is_refusal, making_outcome, outcome_of, pairs_for, row_deed, settled_outcome}
use Rattle.play_linear.specs.Linear.Coming.{ComesBy, IsUnknown}
use Rattle.play_linear.proofs.Linear.Begun.{begun_is}
use Rattle.play_linear.proofs.Linear.Like.{IsLike}
use Rattle.play_linear.proofs.Linear.RowsPlayed.{is_of_row, rows_like}
use Rattle.play_linear.proofs.Swept.Kept.{IsKept, coming}
use Rattle.play_moves.specs.Moves.Order.{AreUnderWay, IsUnderWay, KeepsOrder, MapsComeNew}
use Rattle.play_moves.proofs.Moves.Order.Own.{its_call, rows_own}
use Rattle.play_moves.proofs.EachMoves.Order.NotBusy.{ends_so, not_busy, room_then}
use Rattle.play_moves.proofs.Moves.Order.Stays.{begins_stay, comes_stay, ends_stay, fails_stay, goes_stay, makes_stay, replies_stay, rows_stay, steps_stay, stops_stay}
use Rattle.play_moves.proofs.Moves.Order.RoomKept.{goes_on, one_call, ready_has_none, room_on, room_still, told_room}
use Rattle.play_moves.proofs.Moves.Order.UnderWay.{begins_under, effects_under, ends_under, goes_under, none_named, stays_under, stepped_under, still_under}
use Rattle.run_legal.proofs.Given.SettlesCalls.{goes_as_one}
use Rattle.run_schedules.proofs.Given.General.{same_some}

not_over : (q : Bool) → (q ≡ true → ⊥) → q ≡ false
not_over false never = refl
not_over true never = absurd (never refl)

module _ {K V : Type 0} where
  -- the step of a making leaves calls as they are
  made_calls : (same : K → K → Bool) (hash : ℕ → K → ℕ) (s : Scene K V) (old new : Held K V) (i : ℕ) (said : Making Setting) (leads : MakingLeads same hash i said s old new) (b : Beginning K) (here : s.makers i ≡ Some b)
      → (let to = leads b here in (making_after same hash s old new i b to.0 to.2.step.w2 said to.3).calls ≡ s.calls)
  made_calls same hash s old new i making.Goes leads b here = refl
  made_calls same hash s old new i making.Waits leads b here = refl
  made_calls same hash s old new i (making.Done setting) leads b here = refl
  made_calls same hash s old new i (making.Refused fault) leads b here = refl

  -- no call of the moment is on a map that does not stand
  none_on : (same : K → K → Bool) (hash : ℕ → K → ℕ) (m : Moment K V) (s : Scene K V) (old : Held K V) → IsAt same hash old s → AreUnderWay m s → (map : ℕ) → s.maps map ≡ None
      → AllByRecursion (λ (c : CallThere K V). c.map ≢ map) m.calls
  none_on same hash m s old at under map not_there =
      all_so (IsUnderWay s) (λ c. c.map ≢ map)
      (λ c it on.
      let none : s.calls c.map it.0 ≡ None = at.together.makings.standing.only c.map it.0 (ap s.maps on ∙ not_there) in let some = it.2.1 in absurd (cc (none, some))) m.calls under

  -- where effects of no call come, and calls of the scene are as they were
  still_map : (m : Moment K V) (s t : Scene K V) (acted : Option ℕ) (effects : List Effect) → t.calls ≡ s.calls → AreUnderWay m s → AreUnderWay (with_effects None acted effects m) t
  still_map m s t acted effects calls under =
      subst (AllByRecursion (IsUnderWay t)) (sym (calls_stay acted effects m)) (still_under m s t calls m.calls under)

  still_row : (m : Moment K V) (s t : Scene K V) (v : Moment K V) (effects : List Effect) → IsLike (with_effects None None effects m) v → t.calls ≡ s.calls → AreUnderWay m s → AreUnderWay v t
  still_row m s t v effects like calls under = subst (AllByRecursion (IsUnderWay t)) (sym (ap (λ (x : Moment K V). x.calls) like)) (still_map m s t None effects calls under)

  -- a walk that is given up, as it is ready, owes nothing
  owes_none : (known : Known) (m : Moment K V) (s : Scene K V) → RefinesObligations named m known s → (map i : ℕ) (u : UnderWay K V K) → s.calls map i ≡ Some u → true ≡ (machine_asked (machine_of u)).1
      → IfCall (λ (c : CallThere K V). c.owes ≡ []) (call_of (named i) m)
  owes_none known m s owed map i u here ready = by (call_of (named i) m) refl
    where
      by : (o : Option (CallThere K V)) → call_of (named i) m ≡ o → IfCall (λ (c : CallThere K V). c.owes ≡ []) o
      by None is = tt
      by (Some c) is = owed.owed map i u here c is ∙ ready_has_none known (machine_of u) ready

module _ {K V : Type 0} (same : K → K → Bool) (hash : ℕ → K → ℕ) (terms : Terms) where
  abbrev pub New : List (Entry K V) → Known → Scene K V → Type 0
  New history known s = MapsComeNew history s

  abbrev pub Orderly : List (Entry K V) → Known → Scene K V → Type 0
  Orderly history known s = KeepsOrder terms history s

  pub order_is_kept : IsKept same hash New Orderly
  order_is_kept = record {
    calls_begin = λ history known s old new at all fresh has map i standing there wanted begins none rests at2 shows.
        (let m : Moment K V = moment history in
        let u : UnderWay K V K = begun same slot_of standing i wanted in
        let shown = all.whole.all.shown.maps map standing there in
        record {
          under_way = begins_under s (scene_with map i u s) map i u refl none (fresh_call (named i) (named (slot_of i)) (call_for wanted) map m.events) refl refl m.calls has.under_way;
          room = room_on s (scene_with map i u s) map i (Some u) refl
              (λ x is. subst (λ (y : UnderWay K V K). RefusedForRoom (machine_of y)) (sym (begun_is same standing i wanted) ∙ same_some u x is) (begins_for_room same standing i (call_for wanted))) has.room;
          each = (
            begins_stay terms history i (slot_of i) map (call_for wanted) (none_named m s has.under_way i none) (found_any (λ (f : MapThere). f.number == map) m.maps shown.there.there shown.there.is) outcome.Goes false,
            has.each,
          );
          own = (none_named m s has.under_way i none, has.own);
        });
    calls_step = λ history known s old new at all fresh has map i u here said leads d d_is called called_is value keeps ended shows.
        (let m : Moment K V = moment history in
        let known2 = known_after (acts.Call i map) new.changed known in
        let effects : List Effect = effects_of (acts.Call i map) known new.changed in
        let to = leads map u here in
        let t : Scene K V = scene_after same s old new map i to.0 u to.1 said to.4 in
        let o : Outcome V = outcome_of known2 (kind_of called) value said in
        let room = has.room map i u here in
        let goes : ends_call o ≡ false → (x : UnderWay K V K) × (to.4.next ≡ Some x) =
        λ on. goes_on to.1 said to.4.next (not_over (has_ended said) (λ over. let yes = ends_so known2 (kind_of called) value said (not_busy same hash s old new map i u here room said leads) over in cc (on, yes))) to.4.goes_on in
        record {
          under_way = stepped_under s t map i to.4.next refl (one_call same history known s all map i u here) o goes (λ c. (comes_same o (record c { steps = c.steps + 1 })).0) _
              (effects_under s (Some (named i)) (acted_on {K = K} {V = V} (Steps i) m) effects m has.under_way);
          room = room_on s t map i to.4.next refl (λ x is. subst RefusedForRoom (sym (goes_as_one to.1 said to.4.next to.4.goes_on x is)) (room_then same hash s old new map i u here room said leads)) has.room;
          each = (steps_stay terms history i o effects (is_refusal new.changed), has.each);
          own = (its_call history i d d_is, has.own);
        });
    calls_take = λ history known s old new at all fresh has map i u here d d_is question asks standing there reply next next_is takes kind at2 shows. record {
      under_way = goes_under s (scene_with map i next s) map i next refl (one_call same history known s all map i u here) (λ c. replied reply c c.stands) (λ c. (told_same reply c c.stands).0) (moment history).calls has.under_way;
      room = room_on s (scene_with map i next s) map i (Some next) refl
          (λ x is. subst (λ (y : UnderWay K V K). RefusedForRoom (machine_of y)) (same_some next x is) (subst RefusedForRoom (sym next_is) (told_room (machine_of u) (reply_to_machine reply) (has.room map i u here)))) has.room;
      each = (replies_stay terms history i reply false, has.each);
      own = (its_call history i d d_is, has.own);
    };
    walks_go_on = λ history known s old new at all fresh has map i leads o here is shows.
        (let next : UnderWay K V K = (leads map (OverAll o) here).0 in
        let t : Scene K V = scene_with map i next s in
        record {
          under_way = all_so (IsUnderWay s) (IsUnderWay t) (λ c it. stays_under s t map i next refl (one_call same history known s all map i (OverAll o) here) c it) (moment history).calls has.under_way;
          room = room_on s t map i (Some next) refl
              (λ x e. subst (λ (y : UnderWay K V K). RefusedForRoom (machine_of y)) (sym is ∙ same_some next x e) ((told_sweeps_refuse_room o.sweep (has.room map i (OverAll o) here)).0)) has.room;
          each = has.each;
          own = has.own;
        });
    walks_stop = λ history known s old new at all fresh has map i leads u here none shows.
        (let m : Moment K V = moment history in
        let t : Scene K V = record s { calls = with_call s.calls map i (unless_stopped true u) } in
        record {
          under_way = ends_under s t map i (unless_stopped true u) refl m.calls has.under_way;
          room = room_on s t map i (unless_stopped true u) refl (λ x is. absurd (cc is)) has.room;
          each = (stops_stay terms history i (owes_none known m s all.kept.owed map i u here (leads map u here).0) false, has.each);
          own = ((let shown = all.whole.all.shown.calls map i u here in its_call history i shown.0 shown.1), has.own);
        });
    rows_begin = λ history known s old new at all fresh has called i leads shows. record { under_way = has.under_way; room = has.room; each = has.each; own = has.own };
    rows_step = λ history known s old new at all fresh has i said leads row here o shows.
        (let m : Moment K V = moment history in
        let effects : List Effect = effects_of acts.Row known new.changed in
        let t : Scene K V = scene_then same hash (Step i) s old new (leads row here).2 in
        let e : Entry K V = record { deed = row_deed row; outcome = o; effects = effects; refused = is_refusal new.changed } in
        record {
          under_way = still_row m s t (after e m) effects (rows_like (row_deed row) (is_of_row K V row) o effects (is_refusal new.changed) m) refl has.under_way;
          room = has.room;
          each = (rows_stay terms history (row_deed row) (is_of_row K V row) o effects (is_refusal new.changed), has.each);
          own = (rows_own history (row_deed row) (is_of_row K V row), has.own);
        });
    all_step = λ history known s old new all has i lists before next told at leads shows.
        (let m : Moment K V = moment history in
        let effects : List Effect = effects_of acts.Row known new.changed in
        let t : Scene K V = record s { world = leads.1.w2; maps = leads.1.maps2 } in
        let e : Entry K V = record { deed = ReclaimsAll (is_over told); outcome = settled_outcome told; effects = effects; refused = is_refusal new.changed } in
        record {
          under_way = still_row m s t (after e m) effects (rows_like (ReclaimsAll (is_over told)) tt (settled_outcome told) effects (is_refusal new.changed) m) refl has.under_way;
          room = has.room;
          each = (rows_stay terms history (ReclaimsAll (is_over told)) tt (settled_outcome told) effects (is_refusal new.changed), has.each);
          own = (tt, has.own);
        });
    makings_begin = λ history known s old new at all fresh has i b none not_made number at2 shows. record { under_way = has.under_way; room = has.room; each = has.each; own = has.own };
    makings_step = λ history known s old new at all fresh has i said leads b here was_new at2 shows.
        (let m : Moment K V = moment history in
        let effects : List Effect = effects_of (acts.Making b.map) known new.changed in
        let t : Scene K V = (let to = leads b here in making_after same hash s old new i b to.0 to.2.step.w2 said to.3) in
        record {
          under_way = still_map m s t (Some b.map) effects (made_calls same hash s old new i said leads b here) has.under_way;
          room = room_still s t (made_calls same hash s old new i said leads b here) has.room;
          each = (makes_stay terms history b.map (making_outcome said) effects (is_refusal new.changed), has.each);
          own = (tt, has.own);
        });
    maps_come = λ history known s old new at all fresh has i said leads b here next had on no_tables was_new at2 shows.
        (let m : Moment K V = moment history in
        let effects : List Effect = effects_of (acts.Making b.map) known new.changed in
        let t : Scene K V = (let to = leads b here in making_after same hash s old new i b to.0 to.2.step.w2 said to.3) in
        let unknown : IsUnknown b.map m = subst (λ (q : Bool). ComesBy q b m) had (fresh.coming i b here) in
        record {
          under_way = still_map (come (coming b next) m) s t (Some b.map) effects (made_calls same hash s old new i said leads b here) has.under_way;
          room = room_still s t (made_calls same hash s old new i said leads b here) has.room;
          each = (comes_stay terms history b.map next.setting.root next.setting.mode (pairs_for next.len) fresh.names unknown.none (making_outcome said) effects (is_refusal new.changed), has.each);
          own = (tt, has.own);
        });
    maps_fail = λ history known s old new at all fresh has i said leads b here was_new found apart at2 shows.
        (let m : Moment K V = moment history in
        let effects : List Effect = effects_of (acts.Making b.map) known new.changed in
        let t : Scene K V = (let to = leads b here in making_after same hash s old new i b to.0 to.2.step.w2 said to.3) in
        record {
          under_way = still_map m s t (Some b.map) effects (made_calls same hash s old new i said leads b here) has.under_way;
          room = room_still s t (made_calls same hash s old new i said leads b here) has.room;
          each = (
            fails_stay terms history b.map fresh.names (none_on same hash m s old at has.under_way b.map (at.together.makings.coming i b here)) (making_outcome said) effects (is_refusal new.changed),
            has.each,
          );
          own = (tt, has.own);
        });
    ends_begin = λ history known s old new at all fresh has map i standing there none at2 shows. record { under_way = has.under_way; room = has.room; each = has.each; own = has.own };
    ends_step = λ history known s old new at all fresh has i said leads f here map not_there its at2 shows.
        (let m : Moment K V = moment history in
        let effects : List Effect = effects_of (acts.Ending map) known new.changed in
        let t : Scene K V = (let to = leads f here in ending_after same hash s new i f to.0 to.2.w2 to.2.deed said to.3) in
        record {
          under_way = still_map m s t (Some map) effects (ended_calls same hash s old new i f here said leads) has.under_way;
          room = room_still s t (ended_calls same hash s old new i f here said leads) has.room;
          each = (ends_stay terms history map (settled_outcome said) effects (is_refusal new.changed), has.each);
          own = (tt, has.own);
        });
    maps_go = λ history known s old new at all fresh has i said leads f here map not_there its found apart at2 shows.
        (let m : Moment K V = moment history in
        let effects : List Effect = effects_of (acts.Ending map) known new.changed in
        let t : Scene K V = (let to = leads f here in ending_after same hash s new i f to.0 to.2.w2 to.2.deed said to.3) in
        record {
          under_way = still_map m s t (Some map) effects (ended_calls same hash s old new i f here said leads) has.under_way;
          room = room_still s t (ended_calls same hash s old new i f here said leads) has.room;
          each = (goes_stay terms history map fresh.names (none_on same hash m s old at has.under_way map not_there) (settled_outcome said) effects (is_refusal new.changed), has.each);
          own = (tt, has.own);
        });
    choices_come = λ history known s all has choice shows. record { under_way = has.under_way; room = has.room; each = has.each; own = has.own };
  }
