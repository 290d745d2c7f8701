-- A schedule runs.
use Rattle.std.specs.Prelude.{◌≡◌, ◌++◌, ◌∷◌, ◌%◌, ◌^◌, ℕ, List, [], fold}
use Rattle.std.proofs.Common.{rules, arith, ap, subst, sym, ◌∙◌, append_assoc}
use Rattle.std.proofs.lemmas.List.{append-nil, nil_from_length}
use Rattle.std.proofs.lemmas.Result.{err_from_is_err_and}
use Rattle.run_schedules.specs.declared.event.Event.{Event}
use Rattle.run_schedules.specs.Schedules.After.{AtEachEvent}
use Rattle.run_schedules.specs.Schedules.Runs.{IsRunOf, log_of}
use Rattle.play_events.specs.Given.SchedulerPlayed.{terms_given}
use Rattle.play_events.specs.Given.GroupedByActs.{IsByActs}
use Rattle.papaya_steps.specs.WholeRuns.Run.{HandsOn, HasCome, HoldsBlocks, IsRightRun, bounded}
use Rattle.papaya_steps.specs.declared.running.Running.{Running}
use Rattle.papaya_steps.proofs.running.run_refusing.Goals as goal

pub loop-event-init : goal.loop-event-init
loop-event-init g c =
    let given : c.into_iter-event-iterator.result.rest.items ≡ c.args.schedule.items = let i = c.into_iter-event-iterator.ensures.into_iter_gives in search rules in
    ([], given, c.in_ok-running.ensures.come, c.in_ok-running.ensures.hasher)

pub take_turn-requires : goal.take_turn-requires
take_turn-requires g c = (
  terms_given (bounded c.args.setup),
  c.loop-event.invariant.0,
  subst (λ (r : Running g.row.K.Denot g.row.V.Denot g.row.S.Denot).
      HasCome g.K.PartialEq.eq (λ hasher key. g.S.Hasher.Hasher.finish (fold g.S.Hasher.Hasher.write (g.S.BuildHasher.build_hasher hasher) (g.K.Hash.hash_input key)) % 2 ^ 64)
      (terms_given (bounded c.args.setup)) c.loop-event.invariant.0 r)
      (sym c.refuse_as_told.ensures) c.loop-event.invariant.2,
)

pub loop-event-preserved : goal.loop-event-preserved
loop-event-preserved g c =
    let events = c.loop-event.invariant.0 in
    let event = c.in-Some.event in
    let come =
    subst (λ (r : Running g.row.K.Denot g.row.V.Denot g.row.S.Denot).
    HasCome g.K.PartialEq.eq (λ hasher key. g.S.Hasher.Hasher.finish (fold g.S.Hasher.Hasher.write (g.S.BuildHasher.build_hasher hasher) (g.K.Hash.hash_input key)) % 2 ^ 64)
    (terms_given (bounded c.args.setup)) c.loop-event.invariant.0 r)
    (sym c.refuse_as_told.ensures) c.loop-event.invariant.2 in
    let next : c.loop-event.event-iterator.rest.items ≡ event ∷ c.next.new.self.rest.items = let s = c.in-Some.ensures.steps in search rules in (
      events ++ event ∷ [],
      append_assoc events (event ∷ []) c.next.new.self.rest.items ∙ ap (λ (l : List (Event g.row.K.Denot g.row.V.Denot)). events ++ l) (sym next) ∙ c.loop-event.invariant.1,
      c.in_ok-take_turn.ensures.come (terms_given (bounded c.args.setup)) events come,
      c.in_ok-take_turn.ensures.hasher ∙ (ap (λ (r : Running g.row.K.Denot g.row.V.Denot g.row.S.Denot). r.scheduler.logged.executor.hasher) c.refuse_as_told.ensures ∙ c.loop-event.invariant.3),
    )

pub end-requires : goal.end-requires
end-requires g c = (
  g.K.PartialEq.eq,
  (λ hasher key. g.S.Hasher.Hasher.finish (fold g.S.Hasher.Hasher.write (g.S.BuildHasher.build_hasher hasher) (g.K.Hash.hash_input key)) % 2 ^ 64),
  terms_given (bounded c.args.setup),
  c.loop-event.invariant.0,
  c.loop-event.invariant.2,
)

pub returns-clause-run : goal.returns-clause-run
returns-clause-run g c =
    let events = c.loop-event.invariant.0 in
    let empty : c.loop-event.event-iterator.rest.items ≡ [] =
    nil_from_length c.loop-event.event-iterator.rest.items (let a = c.loop-event.event-iterator.rest.ok in let s = c.in-None.ensures.steps in omega (arith, a, s.0)) in
    let all : events ≡ c.args.schedule.items = sym (append-nil events) ∙ ap (λ (l : List (Event g.row.K.Denot g.row.V.Denot)). events ++ l) (sym empty) ∙ c.loop-event.invariant.1 in
    subst (λ (l : List (Event g.row.K.Denot g.row.V.Denot)). IsRightRun (terms_given (bounded c.args.setup)) l c.in_ok-end.field-0) all
    (c.in_ok-end.ensures.right g.K.PartialEq.eq (λ hasher key. g.S.Hasher.Hasher.finish (fold g.S.Hasher.Hasher.write (g.S.BuildHasher.build_hasher hasher) (g.K.Hash.hash_input key)) % 2 ^ 64)
    (terms_given (bounded c.args.setup)) events c.loop-event.invariant.2)

pub returns-clause-whole : goal.returns-clause-whole
returns-clause-whole g c =
    let events = c.loop-event.invariant.0 in
    let empty : c.loop-event.event-iterator.rest.items ≡ [] =
    nil_from_length c.loop-event.event-iterator.rest.items (let a = c.loop-event.event-iterator.rest.ok in let s = c.in-None.ensures.steps in omega (arith, a, s.0)) in
    let all : events ≡ c.args.schedule.items = sym (append-nil events) ∙ ap (λ (l : List (Event g.row.K.Denot g.row.V.Denot)). events ++ l) (sym empty) ∙ c.loop-event.invariant.1 in
    subst (λ (l : List (Event g.row.K.Denot g.row.V.Denot)). IsRunOf g.K.PartialEq.eq (terms_given (bounded c.args.setup)) l c.in_ok-end.field-0) all
    (c.in_ok-end.ensures.whole g.K.PartialEq.eq (λ hasher key. g.S.Hasher.Hasher.finish (fold g.S.Hasher.Hasher.write (g.S.BuildHasher.build_hasher hasher) (g.K.Hash.hash_input key)) % 2 ^ 64)
    (terms_given (bounded c.args.setup)) events c.loop-event.invariant.2)

pub returns-clause-hands : goal.returns-clause-hands
returns-clause-hands g c =
    let events = c.loop-event.invariant.0 in
    let empty : c.loop-event.event-iterator.rest.items ≡ [] =
    nil_from_length c.loop-event.event-iterator.rest.items (let a = c.loop-event.event-iterator.rest.ok in let s = c.in-None.ensures.steps in omega (arith, a, s.0)) in
    let all : events ≡ c.args.schedule.items = sym (append-nil events) ∙ ap (λ (l : List (Event g.row.K.Denot g.row.V.Denot)). events ++ l) (sym empty) ∙ c.loop-event.invariant.1 in
    subst (λ (l : List (Event g.row.K.Denot g.row.V.Denot)). AtEachEvent HandsOn (log_of l c.in_ok-end.field-0)) all
    (c.in_ok-end.ensures.hands g.K.PartialEq.eq (λ hasher key. g.S.Hasher.Hasher.finish (fold g.S.Hasher.Hasher.write (g.S.BuildHasher.build_hasher hasher) (g.K.Hash.hash_input key)) % 2 ^ 64)
    (terms_given (bounded c.args.setup)) events c.loop-event.invariant.2)

pub returns-clause-live : goal.returns-clause-live
returns-clause-live g c =
    let events = c.loop-event.invariant.0 in
    let empty : c.loop-event.event-iterator.rest.items ≡ [] =
    nil_from_length c.loop-event.event-iterator.rest.items (let a = c.loop-event.event-iterator.rest.ok in let s = c.in-None.ensures.steps in omega (arith, a, s.0)) in
    let all : events ≡ c.args.schedule.items = sym (append-nil events) ∙ ap (λ (l : List (Event g.row.K.Denot g.row.V.Denot)). events ++ l) (sym empty) ∙ c.loop-event.invariant.1 in
    subst (λ (l : List (Event g.row.K.Denot g.row.V.Denot)). HoldsBlocks {S = g.row.S.Denot} g.K.PartialEq.eq
    (λ hasher key. g.S.Hasher.Hasher.finish (fold g.S.Hasher.Hasher.write (g.S.BuildHasher.build_hasher hasher) (g.K.Hash.hash_input key)) % 2 ^ 64)
    (terms_given (bounded c.args.setup)) l c.in_ok-end.field-0) all
    (c.in_ok-end.ensures.live g.K.PartialEq.eq (λ hasher key. g.S.Hasher.Hasher.finish (fold g.S.Hasher.Hasher.write (g.S.BuildHasher.build_hasher hasher) (g.K.Hash.hash_input key)) % 2 ^ 64)
    (terms_given (bounded c.args.setup)) events c.loop-event.invariant.2)

pub returns-clause-acts : goal.returns-clause-acts
returns-clause-acts g c =
    let events = c.loop-event.invariant.0 in
    let hashes : g.row.S.Denot → g.row.K.Denot → ℕ =
    λ hasher key. g.S.Hasher.Hasher.finish (fold g.S.Hasher.Hasher.write (g.S.BuildHasher.build_hasher hasher) (g.K.Hash.hash_input key)) % 2 ^ 64 in
    let by = c.loop-event.running.scheduler.logged.executor.hasher in
    let empty : c.loop-event.event-iterator.rest.items ≡ [] =
    nil_from_length c.loop-event.event-iterator.rest.items (let a = c.loop-event.event-iterator.rest.ok in let s = c.in-None.ensures.steps in omega (arith, a, s.0)) in
    let all : events ≡ c.args.schedule.items = sym (append-nil events) ∙ ap (λ (l : List (Event g.row.K.Denot g.row.V.Denot)). events ++ l) (sym empty) ∙ c.loop-event.invariant.1 in
    subst (λ (h : g.row.S.Denot). IsByActs g.K.PartialEq.eq hashes h (terms_given (bounded c.args.setup)) (log_of c.args.schedule.items c.in_ok-end.field-0)) c.loop-event.invariant.3
    (subst (λ (l : List (Event g.row.K.Denot g.row.V.Denot)). IsByActs g.K.PartialEq.eq hashes by (terms_given (bounded c.args.setup)) (log_of l c.in_ok-end.field-0)) all
    (c.in_ok-end.ensures.acts g.K.PartialEq.eq hashes (terms_given (bounded c.args.setup)) events c.loop-event.invariant.2))

pub returns-in_err-take_turn-clause-memory : goal.returns-in_err-take_turn-clause-memory
returns-in_err-take_turn-clause-memory g c =
    let p = err_from_is_err_and c.from_residual-in_err-take_turn.result c.from_residual-in_err-take_turn.ensures.1 in rw (p.1) p.2
