-- An event is kept out, or happens by its kind.
use Rattle.std.specs.Prelude.{IfOk}
use Rattle.std.proofs.Common.{length, refl, sym, ap, subst, ◌∙◌}
use Rattle.play_events.specs.Events.Asked.{HappensAt, HoldsThen}
use Rattle.play_events.specs.Events.OfAll.{PreservesAll}
use Rattle.play_events.specs.Events.OfCalls.{PreservesAt}
use Rattle.play_events.specs.Events.OfRows.{PreservesRunAt}
use Rattle.play_events.specs.Events.OfSetups.{PreservesSetup}
use Rattle.papaya_steps.specs.WholeRuns.Back.{GivesAt}
use Rattle.papaya_steps.specs.WholeRuns.GoingOn.{ContinuesAt}
use Rattle.papaya_steps.specs.WholeRuns.Kinds.{event_of, event_of_call, event_of_maps, event_of_slots}
use Rattle.papaya_steps.proofs.WholeRuns.GoingOn.{in_turn_acts, out_acts}
use Rattle.papaya_steps.proofs.WholeRuns.Counts.{calls_make_none, counts_still, out_counts, slots_make_none}
use Rattle.papaya_steps.proofs.WholeRuns.Gives.{calls_reclaim_none, gave_in_turn, gave_none_if, gave_out}
use Rattle.papaya_steps.proofs.WholeRuns.Happened.{in_turn_if, stays_out}
use Rattle.papaya_steps.proofs.WholeRuns.Held.{holds_if, holds_so}
use Rattle.play_events.proofs.Events.OfAll.{all_out, calls_give_none, none_keep, slots_give_none}
use Rattle.play_events.proofs.Events.OfCalls.Happens.{other_keeps, out_keeps, turn_keeps}
use Rattle.play_events.proofs.Events.OfRows.Kept.{calls_keep, kept_in_turn, kept_out}
use Rattle.play_events.proofs.Events.OfSetups.{calls_set_none, none_set, setup_out}
use Rattle.papaya_steps.proofs.WholeRuns.OfKinds.{a_call, maps_no_call, no_maps, slots_no_call}
use Rattle.papaya_steps.proofs.happening.happen.Goals as goal
use Rattle.play_events.specs.Given.ExecutorIsThere.{StaysGiven}

pub returns-then-scheduler : goal.returns-then-scheduler
returns-then-scheduler g c =
    let given : StaysGiven c.args.scheduler.now.logged.executor c.refuse.new.self.logged.executor =
    (ap (λ p. p.logged.executor.hasher) c.refuse.ensures.mapped, ap (λ p. p.logged.executor.batch_size) c.refuse.ensures.mapped, ap (λ p. p.logged.executor.roots) c.refuse.ensures.mapped) in
    let happens : HappensAt g.K.PartialEq.eq (g.S.Hashes.hash c.args.scheduler.now.logged.executor.hasher) c.args.is_first c.args.event c.refuse.result c.args.scheduler.now c.refuse.new.self =
    stays_out g.K.PartialEq.eq (g.S.Hashes.hash c.args.scheduler.now.logged.executor.hasher) c.args.event c.args.scheduler.now c.args.is_first c.refuse.new.self c.refuse.result
    c.refuse.ensures.outcome c.refuse.ensures.steps c.refuse.ensures.effects
    (c.refuse.ensures.plays g.K.PartialEq.eq (g.S.Hashes.hash c.args.scheduler.now.logged.executor.hasher)) c.if-scheduler.true in
    record {
      happens = happens;
      holds =
          holds_so g.K.PartialEq.eq (g.S.Hashes.hash c.args.scheduler.now.logged.executor.hasher) c.args.event c.args.is_first c.args.scheduler.now c.refuse.new.self given c.refuse.result happens
          (ap (λ p. length p.logged.executor.maps.items) c.refuse.ensures.mapped
          ∙ sym (out_counts c.args.event c.refuse.result.outcome (length c.args.scheduler.now.logged.executor.maps.items) c.refuse.ensures.outcome));
      back = gave_out g.K.PartialEq.eq (g.S.Hashes.hash c.args.scheduler.now.logged.executor.hasher) c.args.event c.args.scheduler.now c.refuse.result c.args.back.now.items c.refuse.ensures.effects;
      keeps =
          out_keeps g.K.PartialEq.eq (g.S.Hashes.hash c.args.scheduler.now.logged.executor.hasher) c.args.event c.args.scheduler.now c.refuse.new.self _ c.refuse.ensures.mapped c.refuse.result c.refuse.ensures.outcome c.refuse.ensures.steps
          c.refuse.ensures.effects (c.refuse.ensures.plays g.K.PartialEq.eq (g.S.Hashes.hash c.args.scheduler.now.logged.executor.hasher)) c.if-scheduler.true;
      given = given;
      rows =
          kept_out g.K.PartialEq.eq (g.S.Hashes.hash c.args.scheduler.now.logged.executor.hasher) c.args.event c.args.scheduler.now c.refuse.new.self c.refuse.result c.refuse.ensures.outcome c.refuse.ensures.effects c.refuse.ensures.mapped;
      setups = setup_out g.K.PartialEq.eq (g.S.Hashes.hash c.args.scheduler.now.logged.executor.hasher) c.args.event c.args.scheduler.now c.refuse.new.self _ c.refuse.ensures.mapped c.refuse.result c.refuse.ensures.effects;
      all = all_out g.K.PartialEq.eq (g.S.Hashes.hash c.args.scheduler.now.logged.executor.hasher) c.args.event c.args.scheduler.now c.refuse.new.self _ c.refuse.ensures.mapped c.refuse.result c.refuse.ensures.outcome c.refuse.ensures.effects;
      acts = out_acts g.K.PartialEq.eq g.S.Hashes.hash c.args.event c.args.scheduler.now c.refuse.new.self c.refuse.result _ c.refuse.ensures.outcome c.refuse.ensures.steps c.refuse.ensures.effects c.refuse.ensures.mapped;
    }

pub of_calls-requires : goal.of_calls-requires
of_calls-requires g c = let r = c.requires in (r.0, r.1, r.2, r.2.stands.closed ∙ c.if-scheduler.false)

pub returns-in-OfCall : goal.returns-in-OfCall
returns-in-OfCall g c =
    let is = sym (ap event_of c.in-OfCall.is) ∙ c.kind_of.ensures in record {
      rows = subst (λ event. IfOk c.of_calls.result (λ played. PreservesRunAt g.K.PartialEq.eq (g.S.Hashes.hash c.args.scheduler.now.logged.executor.hasher) event played c.args.scheduler.now c.of_calls.new.scheduler)) is
          (kept_in_turn g.K.PartialEq.eq (g.S.Hashes.hash c.args.scheduler.now.logged.executor.hasher) (event_of_call c.in-OfCall.event) c.args.scheduler.now c.of_calls.new.scheduler c.of_calls.result (calls_keep g.K.PartialEq.eq (g.S.Hashes.hash c.args.scheduler.now.logged.executor.hasher) (event_of_call c.in-OfCall.event) (a_call c.in-OfCall.event) c.args.scheduler.now c.of_calls.new.scheduler c.of_calls.result) c.if-scheduler.false);
      happens = subst (λ event. IfOk c.of_calls.result (λ played. HappensAt g.K.PartialEq.eq (g.S.Hashes.hash c.args.scheduler.now.logged.executor.hasher) c.args.is_first event played c.args.scheduler.now c.of_calls.new.scheduler)) is
          (in_turn_if g.K.PartialEq.eq (g.S.Hashes.hash c.args.scheduler.now.logged.executor.hasher) (event_of_call c.in-OfCall.event) c.args.scheduler.now c.args.is_first c.of_calls.new.scheduler c.of_calls.result c.of_calls.ensures.happens c.if-scheduler.false);
      holds = subst (λ event. IfOk c.of_calls.result (λ played. HoldsThen g.K.PartialEq.eq (g.S.Hashes.hash c.args.scheduler.now.logged.executor.hasher) c.args.is_first event played c.args.scheduler.now c.of_calls.new.scheduler)) is
          (holds_if g.K.PartialEq.eq (g.S.Hashes.hash c.args.scheduler.now.logged.executor.hasher) (event_of_call c.in-OfCall.event) c.args.is_first c.args.scheduler.now c.of_calls.new.scheduler (c.of_calls.ensures.given.0, c.of_calls.ensures.given.1, c.of_calls.ensures.given.2) c.of_calls.result (in_turn_if g.K.PartialEq.eq (g.S.Hashes.hash c.args.scheduler.now.logged.executor.hasher) (event_of_call c.in-OfCall.event) c.args.scheduler.now c.args.is_first c.of_calls.new.scheduler c.of_calls.result c.of_calls.ensures.happens c.if-scheduler.false) (counts_still (event_of_call c.in-OfCall.event) c.of_calls.result (length c.args.scheduler.now.logged.executor.maps.items) (length c.of_calls.new.scheduler.logged.executor.maps.items) (calls_make_none (event_of_call c.in-OfCall.event) (a_call c.in-OfCall.event)) c.of_calls.ensures.given.3));
      back = subst (λ event. IfOk c.of_calls.result (λ played. GivesAt g.K.PartialEq.eq (g.S.Hashes.hash c.args.scheduler.now.logged.executor.hasher) event played c.args.scheduler.now c.args.back.now.items c.args.back.now.items)) is
          (gave_in_turn g.K.PartialEq.eq (g.S.Hashes.hash c.args.scheduler.now.logged.executor.hasher) (event_of_call c.in-OfCall.event) c.args.scheduler.now c.of_calls.result c.args.back.now.items c.args.back.now.items (gave_none_if g.K.PartialEq.eq (g.S.Hashes.hash c.args.scheduler.now.logged.executor.hasher) (event_of_call c.in-OfCall.event) (event_of_call c.in-OfCall.event) refl c.args.scheduler.now (calls_reclaim_none (event_of_call c.in-OfCall.event) (a_call c.in-OfCall.event)) c.of_calls.result c.args.back.now.items) c.if-scheduler.false);
      keeps = subst (λ event. IfOk c.of_calls.result (λ played. PreservesAt g.K.PartialEq.eq (g.S.Hashes.hash c.args.scheduler.now.logged.executor.hasher) event played c.args.scheduler.now c.of_calls.new.scheduler)) is
          (turn_keeps g.K.PartialEq.eq (g.S.Hashes.hash c.args.scheduler.now.logged.executor.hasher) (event_of_call c.in-OfCall.event) c.args.scheduler.now c.of_calls.new.scheduler c.of_calls.result c.of_calls.ensures.keeps c.if-scheduler.false);
      setups = subst (λ event. IfOk c.of_calls.result (λ played. PreservesSetup g.K.PartialEq.eq (g.S.Hashes.hash c.args.scheduler.now.logged.executor.hasher) event played c.args.scheduler.now c.of_calls.new.scheduler)) is
          (none_set g.K.PartialEq.eq (g.S.Hashes.hash c.args.scheduler.now.logged.executor.hasher) (event_of_call c.in-OfCall.event) c.args.scheduler.now c.of_calls.new.scheduler (calls_set_none (event_of_call c.in-OfCall.event) (a_call c.in-OfCall.event)) c.of_calls.result);
      all = subst (λ event. IfOk c.of_calls.result (λ played. PreservesAll g.K.PartialEq.eq (g.S.Hashes.hash c.args.scheduler.now.logged.executor.hasher) event played c.args.scheduler.now c.of_calls.new.scheduler)) is
          (none_keep g.K.PartialEq.eq (g.S.Hashes.hash c.args.scheduler.now.logged.executor.hasher) (event_of_call c.in-OfCall.event) c.args.scheduler.now c.of_calls.new.scheduler (calls_give_none (event_of_call c.in-OfCall.event) (a_call c.in-OfCall.event)) c.of_calls.result);
      acts = subst (λ event. IfOk c.of_calls.result (λ played. ContinuesAt g.K.PartialEq.eq g.S.Hashes.hash event played c.args.scheduler.now c.of_calls.new.scheduler)) is
          (in_turn_acts g.K.PartialEq.eq g.S.Hashes.hash (event_of_call c.in-OfCall.event) c.args.scheduler.now c.of_calls.new.scheduler c.of_calls.result c.if-scheduler.false c.of_calls.ensures.acts);
      given = (c.of_calls.ensures.given.0, c.of_calls.ensures.given.1, c.of_calls.ensures.given.2);
    }

pub of_maps-requires : goal.of_maps-requires
of_maps-requires g c = let r = c.requires in (r.0, r.1, r.2, r.2.stands.closed ∙ c.if-scheduler.false)

pub returns-in-OfMaps : goal.returns-in-OfMaps
returns-in-OfMaps g c =
    let is = sym (ap event_of c.in-OfMaps.is) ∙ c.kind_of.ensures in record {
      rows = subst (λ event. IfOk c.of_maps.result (λ played. PreservesRunAt g.K.PartialEq.eq (g.S.Hashes.hash c.args.scheduler.now.logged.executor.hasher) event played c.args.scheduler.now c.of_maps.new.scheduler)) is
          (kept_in_turn g.K.PartialEq.eq (g.S.Hashes.hash c.args.scheduler.now.logged.executor.hasher) (event_of_maps c.in-OfMaps.event) c.args.scheduler.now c.of_maps.new.scheduler c.of_maps.result c.of_maps.ensures.rows c.if-scheduler.false);
      happens = subst (λ event. IfOk c.of_maps.result (λ played. HappensAt g.K.PartialEq.eq (g.S.Hashes.hash c.args.scheduler.now.logged.executor.hasher) c.args.is_first event played c.args.scheduler.now c.of_maps.new.scheduler)) is
          (in_turn_if g.K.PartialEq.eq (g.S.Hashes.hash c.args.scheduler.now.logged.executor.hasher) (event_of_maps c.in-OfMaps.event) c.args.scheduler.now c.args.is_first c.of_maps.new.scheduler c.of_maps.result c.of_maps.ensures.happens c.if-scheduler.false);
      holds = subst (λ event. IfOk c.of_maps.result (λ played. HoldsThen g.K.PartialEq.eq (g.S.Hashes.hash c.args.scheduler.now.logged.executor.hasher) c.args.is_first event played c.args.scheduler.now c.of_maps.new.scheduler)) is
          (holds_if g.K.PartialEq.eq (g.S.Hashes.hash c.args.scheduler.now.logged.executor.hasher) (event_of_maps c.in-OfMaps.event) c.args.is_first c.args.scheduler.now c.of_maps.new.scheduler c.of_maps.ensures.given c.of_maps.result (in_turn_if g.K.PartialEq.eq (g.S.Hashes.hash c.args.scheduler.now.logged.executor.hasher) (event_of_maps c.in-OfMaps.event) c.args.scheduler.now c.args.is_first c.of_maps.new.scheduler c.of_maps.result c.of_maps.ensures.happens c.if-scheduler.false) c.of_maps.ensures.count);
      back = subst (λ event. IfOk c.of_maps.result (λ played. GivesAt g.K.PartialEq.eq (g.S.Hashes.hash c.args.scheduler.now.logged.executor.hasher) event played c.args.scheduler.now c.args.back.now.items c.of_maps.new.back.items)) is
          (gave_in_turn g.K.PartialEq.eq (g.S.Hashes.hash c.args.scheduler.now.logged.executor.hasher) (event_of_maps c.in-OfMaps.event) c.args.scheduler.now c.of_maps.result c.args.back.now.items c.of_maps.new.back.items c.of_maps.ensures.back c.if-scheduler.false);
      keeps = subst (λ event. IfOk c.of_maps.result (λ played. PreservesAt g.K.PartialEq.eq (g.S.Hashes.hash c.args.scheduler.now.logged.executor.hasher) event played c.args.scheduler.now c.of_maps.new.scheduler)) is
          (other_keeps g.K.PartialEq.eq (g.S.Hashes.hash c.args.scheduler.now.logged.executor.hasher) (event_of_maps c.in-OfMaps.event) c.args.scheduler.now c.of_maps.new.scheduler (maps_no_call _ _ c.in-OfMaps.event) c.of_maps.result);
      setups = subst (λ event. IfOk c.of_maps.result (λ played. PreservesSetup g.K.PartialEq.eq (g.S.Hashes.hash c.args.scheduler.now.logged.executor.hasher) event played c.args.scheduler.now c.of_maps.new.scheduler)) is
          (c.of_maps.ensures.setups);
      all = subst (λ event. IfOk c.of_maps.result (λ played. PreservesAll g.K.PartialEq.eq (g.S.Hashes.hash c.args.scheduler.now.logged.executor.hasher) event played c.args.scheduler.now c.of_maps.new.scheduler)) is
          (c.of_maps.ensures.all);
      acts = subst (λ event. IfOk c.of_maps.result (λ played. ContinuesAt g.K.PartialEq.eq g.S.Hashes.hash event played c.args.scheduler.now c.of_maps.new.scheduler)) is
          (in_turn_acts g.K.PartialEq.eq g.S.Hashes.hash (event_of_maps c.in-OfMaps.event) c.args.scheduler.now c.of_maps.new.scheduler c.of_maps.result c.if-scheduler.false c.of_maps.ensures.acts);
      given = c.of_maps.ensures.given;
    }

pub of_slots-requires : goal.of_slots-requires
of_slots-requires g c = let r = c.requires in (r.0, r.1, r.2, r.2.stands.closed ∙ c.if-scheduler.false)

pub returns-in-OfSlots : goal.returns-in-OfSlots
returns-in-OfSlots g c =
    let is = sym (ap event_of c.in-OfSlots.is) ∙ c.kind_of.ensures in record {
      rows = subst (λ event. IfOk c.of_slots.result (λ played. PreservesRunAt g.K.PartialEq.eq (g.S.Hashes.hash c.args.scheduler.now.logged.executor.hasher) event played c.args.scheduler.now c.of_slots.new.scheduler)) is
          (kept_in_turn g.K.PartialEq.eq (g.S.Hashes.hash c.args.scheduler.now.logged.executor.hasher) (event_of_slots c.in-OfSlots.event) c.args.scheduler.now c.of_slots.new.scheduler c.of_slots.result c.of_slots.ensures.rows c.if-scheduler.false);
      happens = subst (λ event. IfOk c.of_slots.result (λ played. HappensAt g.K.PartialEq.eq (g.S.Hashes.hash c.args.scheduler.now.logged.executor.hasher) c.args.is_first event played c.args.scheduler.now c.of_slots.new.scheduler)) is
          (in_turn_if g.K.PartialEq.eq (g.S.Hashes.hash c.args.scheduler.now.logged.executor.hasher) (event_of_slots c.in-OfSlots.event) c.args.scheduler.now c.args.is_first c.of_slots.new.scheduler c.of_slots.result c.of_slots.ensures.happens c.if-scheduler.false);
      holds = subst (λ event. IfOk c.of_slots.result (λ played. HoldsThen g.K.PartialEq.eq (g.S.Hashes.hash c.args.scheduler.now.logged.executor.hasher) c.args.is_first event played c.args.scheduler.now c.of_slots.new.scheduler)) is
          (holds_if g.K.PartialEq.eq (g.S.Hashes.hash c.args.scheduler.now.logged.executor.hasher) (event_of_slots c.in-OfSlots.event) c.args.is_first c.args.scheduler.now c.of_slots.new.scheduler (c.of_slots.ensures.given.0, c.of_slots.ensures.given.1, c.of_slots.ensures.given.2) c.of_slots.result (in_turn_if g.K.PartialEq.eq (g.S.Hashes.hash c.args.scheduler.now.logged.executor.hasher) (event_of_slots c.in-OfSlots.event) c.args.scheduler.now c.args.is_first c.of_slots.new.scheduler c.of_slots.result c.of_slots.ensures.happens c.if-scheduler.false) (counts_still (event_of_slots c.in-OfSlots.event) c.of_slots.result (length c.args.scheduler.now.logged.executor.maps.items) (length c.of_slots.new.scheduler.logged.executor.maps.items) (slots_make_none (event_of_slots c.in-OfSlots.event) (no_maps _ _ c.in-OfSlots.event)) c.of_slots.ensures.given.3));
      back = subst (λ event. IfOk c.of_slots.result (λ played. GivesAt g.K.PartialEq.eq (g.S.Hashes.hash c.args.scheduler.now.logged.executor.hasher) event played c.args.scheduler.now c.args.back.now.items c.of_slots.new.back.items)) is
          (gave_in_turn g.K.PartialEq.eq (g.S.Hashes.hash c.args.scheduler.now.logged.executor.hasher) (event_of_slots c.in-OfSlots.event) c.args.scheduler.now c.of_slots.result c.args.back.now.items c.of_slots.new.back.items c.of_slots.ensures.back c.if-scheduler.false);
      keeps = subst (λ event. IfOk c.of_slots.result (λ played. PreservesAt g.K.PartialEq.eq (g.S.Hashes.hash c.args.scheduler.now.logged.executor.hasher) event played c.args.scheduler.now c.of_slots.new.scheduler)) is
          (other_keeps g.K.PartialEq.eq (g.S.Hashes.hash c.args.scheduler.now.logged.executor.hasher) (event_of_slots c.in-OfSlots.event) c.args.scheduler.now c.of_slots.new.scheduler (slots_no_call _ _ c.in-OfSlots.event) c.of_slots.result);
      setups = subst (λ event. IfOk c.of_slots.result (λ played. PreservesSetup g.K.PartialEq.eq (g.S.Hashes.hash c.args.scheduler.now.logged.executor.hasher) event played c.args.scheduler.now c.of_slots.new.scheduler)) is
          (c.of_slots.ensures.setups);
      all = subst (λ event. IfOk c.of_slots.result (λ played. PreservesAll g.K.PartialEq.eq (g.S.Hashes.hash c.args.scheduler.now.logged.executor.hasher) event played c.args.scheduler.now c.of_slots.new.scheduler)) is
          (none_keep g.K.PartialEq.eq (g.S.Hashes.hash c.args.scheduler.now.logged.executor.hasher) (event_of_slots c.in-OfSlots.event) c.args.scheduler.now c.of_slots.new.scheduler (slots_give_none (event_of_slots c.in-OfSlots.event) (no_maps _ _ c.in-OfSlots.event)) c.of_slots.result);
      acts = subst (λ event. IfOk c.of_slots.result (λ played. ContinuesAt g.K.PartialEq.eq g.S.Hashes.hash event played c.args.scheduler.now c.of_slots.new.scheduler)) is
          (in_turn_acts g.K.PartialEq.eq g.S.Hashes.hash (event_of_slots c.in-OfSlots.event) c.args.scheduler.now c.of_slots.new.scheduler c.of_slots.result c.if-scheduler.false c.of_slots.ensures.acts);
      given = (c.of_slots.ensures.given.0, c.of_slots.ensures.given.1, c.of_slots.ensures.given.2);
    }
