use Rattle.std.specs.Prelude.{◌≡◌, ℕ, Some, None, IfSome, option_map}
use Rattle.std.proofs.Common.{subst, sym, ap, ◌∙◌}
use Rattle.seize_seats.specs.Seats.Errands.{Away, Lends}
use Rattle.threads_errands.specs.Given.CallKindsKinds.{PairIsVisible}
use Rattle.threads_errands.specs.Given.ViewsDeclared.view.View.{View}
use Rattle.threads_errands.specs.Given.ViewsLooks.{shown_in}
use Rattle.threads_owners.proofs.OnBoth.{back_so, borrowed_leans, comes_home, ends_at, ends_on, ends_under, leans_on_both, may_borrow, may_lean_on, restored_leans}
use Rattle.threads_callers.proofs.Passing.{leans_so}
use Rattle.threads_owners.specs.Loans.{IsLentIf, Names}
use Rattle.threads_owners.proofs.lending.OnLoanErrandWithTwoNodeOfMaps.run.Goals as goal

-- the seat begins to lean on the owner,
pub learn-requires-clause-own : goal.learn-requires-clause-own
learn-requires-clause-own g c = (c.requires.0, c.requires.1.6.one ∙ c.requires.0)

pub learn-requires-clause-may : goal.learn-requires-clause-may
learn-requires-clause-may g c =
    let a = c.requires.1.6 in let o = c.args.self.owner.now.seat in let s = c.args.seat.now in
    may_borrow g.K.PartialEq.eq g.S.Hashes.hash c.args.blocks.now.words.fixed (c.endings_go_on.ensures.lent g.K.PartialEq.eq g.S.Hashes.hash) s.id o.id s.view o.view a.may.map a.back.free a.may.owned

pub learn-requires-clause-errand : goal.learn-requires-clause-errand
learn-requires-clause-errand g c = λ home rests w told. absurd (subst (λ (e : Away). Lends e c.requires.1.0) home c.requires.1.4)

pub learn-requires-clause-leans : goal.learn-requires-clause-leans
learn-requires-clause-leans g c = λ w told n leans.
    borrowed_leans c.args.seat.now.view w n c.args.self.owner.now.seat.id told.0 told.2
    (λ (here : c.args.self.owner.now.seat.id ≡ n). subst (λ (k : ℕ). Lends c.args.seat.now.away k) (sym c.requires.1.6.owns ∙ here) c.requires.1.5) leans

-- and on the guard
pub learn-requires-2-clause-own : goal.learn-requires-2-clause-own
learn-requires-2-clause-own g c = (c.learn.ensures.same.0 ∙ c.requires.0, c.args.self.guard.now.own ∙ c.requires.1.6.memory ∙ c.requires.0)

pub learn-requires-2-clause-may : goal.learn-requires-2-clause-may
learn-requires-2-clause-may g c =
    let a = c.requires.1.6 in let k = c.args.self.guard.now.seat in let m = c.learn.new.seat in
    may_lean_on g.K.PartialEq.eq g.S.Hashes.hash c.args.blocks.now.words.fixed (c.leanings_begin.ensures.begin g.K.PartialEq.eq g.S.Hashes.hash) m.id k.id a.may.slot c.args.self.owner.now.seat.id
    c.args.seat.now.view m.view k.view c.learn.ensures.goes.0 a.back c.learn.ensures.goes.2 a.may.inside

pub learn-requires-2-clause-errand : goal.learn-requires-2-clause-errand
learn-requires-2-clause-errand g c = λ home rests w told. absurd (subst (λ (e : Away). Lends e c.requires.1.0) (sym c.learn.ensures.errand ∙ home) c.requires.1.4)

pub learn-requires-2-clause-leans : goal.learn-requires-2-clause-leans
learn-requires-2-clause-leans g c = λ w told n leans.
    leans_so c.learn.new.seat.view w (Some (c.args.self.guard.now.seat.id, told.0)) n told.2
    (λ (here : c.args.self.guard.now.seat.id ≡ n). subst (λ (k : ℕ). Lends c.learn.new.seat.away k) (sym c.requires.1.6.guards ∙ here)
    (subst (λ (e : Away). Lends e c.requires.1.0) (sym c.learn.ensures.errand) c.requires.1.4)) leans

-- on the way
pub run-answer-requires : goal.run-answer-requires
run-answer-requires g c =
    let a = c.requires.1.6 in let k = c.args.self.guard.now.seat in let o = c.args.self.owner.now.seat in
    let both = leans_on_both c.args.seat.now.view o.view k.view k.id a.may.slot o.id a.may.map a.may.owned a.may.inside c.learn.new.seat.view c.learn-2.new.seat.view c.learn.ensures.goes c.learn-2.ensures.goes in (
      c.learn-2.ensures.same.0 ∙ c.learn.ensures.same.0 ∙ c.requires.0,
      (λ home. subst (λ (e : Away). Lends e c.requires.1.0) (sym c.learn.ensures.errand ∙ sym c.learn-2.ensures.errand ∙ home) c.requires.1.4),
      subst (λ (x : View g.row.K.Denot g.row.V.Denot g.row.S.Denot). g.E.Errand.asks c.args.self.errand c.args.blocks.now.words.fixed x) (sym both) a.may.asked,
    )

pub pair_if-gone-requires : goal.pair_if-gone-requires
pair_if-gone-requires g c =
    let a = c.requires.1.6 in let k = c.args.self.guard.now.seat in let o = c.args.self.owner.now.seat in let f = c.run-answer.new.seat.view in let l = c.learn-2.new.seat.view in let v = c.args.seat.now.view in
    let names = g.A.Naming.names c.run-answer.result in
    let both = leans_on_both v o.view k.view k.id a.may.slot o.id a.may.map a.may.owned a.may.inside c.learn.new.seat.view l c.learn.ensures.goes c.learn-2.ensures.goes in
    let ends = a.ends c.run-answer.result l f c.run-answer.ensures.3 in record {
      own = c.run-answer.ensures.0 ∙ c.learn-2.ensures.same.0 ∙ c.learn.ensures.same.0 ∙ sym a.memory;
      one = a.one ∙ sym a.memory;
      under = (a.may.slot, ends_under v o.view k.view k.id a.may.slot o.id a.may.map a.may.owned a.may.inside l f both names ends);
      map = ends_on v o.view k.view k.id a.may.slot o.id a.may.map a.may.owned a.may.inside l f both names ends;
      free = ends.free;
      shown = subst (λ (p : Names). IfSome p.0 (PairIsVisible (shown_in f.held))) (sym c.named-left.ensures) ends.gone;
    }

pub pair_if-there-requires : goal.pair_if-there-requires
pair_if-there-requires g c =
    let a = c.requires.1.6 in let k = c.args.self.guard.now.seat in let o = c.args.self.owner.now.seat in let f = c.run-answer.new.seat.view in let l = c.learn-2.new.seat.view in let v = c.args.seat.now.view in
    let names = g.A.Naming.names c.run-answer.result in
    let both = leans_on_both v o.view k.view k.id a.may.slot o.id a.may.map a.may.owned a.may.inside c.learn.new.seat.view l c.learn.ensures.goes c.learn-2.ensures.goes in
    let ends = a.ends c.run-answer.result l f c.run-answer.ensures.3 in record {
      own = c.run-answer.ensures.0 ∙ c.learn-2.ensures.same.0 ∙ c.learn.ensures.same.0 ∙ sym a.memory;
      one = a.one ∙ sym a.memory;
      under = (a.may.slot, ends_under v o.view k.view k.id a.may.slot o.id a.may.map a.may.owned a.may.inside l f both names ends);
      map = ends_on v o.view k.view k.id a.may.slot o.id a.may.map a.may.owned a.may.inside l f both names ends;
      free = ends.free;
      shown = subst (λ (p : Names). IfSome p.1 (PairIsVisible (shown_in f.held))) (sym c.named-left.ensures) ends.there;
    }

-- it leans on the guard no longer,
pub turn-requires-clause-own : goal.turn-requires-clause-own
turn-requires-clause-own g c = c.run-answer.ensures.0 ∙ c.learn-2.ensures.same.0 ∙ c.learn.ensures.same.0 ∙ c.requires.0

pub turn-requires-clause-may : goal.turn-requires-clause-may
turn-requires-clause-may g c =
    let a = c.requires.1.6 in let k = c.args.self.guard.now.seat in let o = c.args.self.owner.now.seat in let n = c.run-answer.new.seat in let l = c.learn-2.new.seat.view in let v = c.args.seat.now.view in
    let both = leans_on_both v o.view k.view k.id a.may.slot o.id a.may.map a.may.owned a.may.inside c.learn.new.seat.view l c.learn.ensures.goes c.learn-2.ensures.goes in
    let ends = a.ends c.run-answer.result l n.view c.run-answer.ensures.3 in
    c.leanings_begin.ensures.end g.K.PartialEq.eq g.S.Hashes.hash c.args.blocks.now.words.fixed n.id n.view
    (ends_at v o.view k.view k.id a.may.slot o.id a.may.map a.may.owned a.may.inside l n.view both (g.A.Naming.names c.run-answer.result) ends ∙ a.back.rests) ends.free

pub turn-requires-clause-errand : goal.turn-requires-clause-errand
turn-requires-clause-errand g c = λ home rests w so.
    absurd (subst (λ (e : Away). Lends e c.requires.1.0) (sym c.learn.ensures.errand ∙ sym c.learn-2.ensures.errand ∙ sym c.run-answer.ensures.2 ∙ home) c.requires.1.4)

pub turn-requires-clause-leans : goal.turn-requires-clause-leans
turn-requires-clause-leans g c = λ w so n leans. leans_so c.run-answer.new.seat.view w None n so (λ none. absurd none) leans

-- and on the owner
pub turn-requires-2-clause-own : goal.turn-requires-2-clause-own
turn-requires-2-clause-own g c = c.turn.ensures.same.0 ∙ c.run-answer.ensures.0 ∙ c.learn-2.ensures.same.0 ∙ c.learn.ensures.same.0 ∙ c.requires.0

pub turn-requires-2-clause-may : goal.turn-requires-2-clause-may
turn-requires-2-clause-may g c =
    let n = c.turn.new.seat in
    c.endings_go_on.ensures.back g.K.PartialEq.eq g.S.Hashes.hash c.args.blocks.now.words.fixed n.id n.view
    (ap (λ (x : View g.row.K.Denot g.row.V.Denot g.row.S.Denot). x.work) c.turn.ensures.goes
    ∙ (c.requires.1.6.ends c.run-answer.result c.learn-2.new.seat.view c.run-answer.new.seat.view c.run-answer.ensures.3).free)

pub turn-requires-2-clause-errand : goal.turn-requires-2-clause-errand
turn-requires-2-clause-errand g c = λ home rests w so.
    absurd (subst (λ (e : Away). Lends e c.requires.1.0) (sym c.learn.ensures.errand ∙ sym c.learn-2.ensures.errand ∙ sym c.run-answer.ensures.2 ∙ sym c.turn.ensures.errand ∙ home) c.requires.1.4)

pub turn-requires-2-clause-leans : goal.turn-requires-2-clause-leans
turn-requires-2-clause-leans g c = λ w so n leans. restored_leans c.turn.new.seat.view w n so leans

pub returns : goal.returns
returns g c =
    let a = c.requires.1.6 in let k = c.args.self.guard.now.seat in let o = c.args.self.owner.now.seat in let f = c.run-answer.new.seat.view in let l = c.learn-2.new.seat.view in let v = c.args.seat.now.view in
    let names = g.A.Naming.names c.run-answer.result in let w = c.turn-2.new.seat.view in
    let both = leans_on_both v o.view k.view k.id a.may.slot o.id a.may.map a.may.owned a.may.inside c.learn.new.seat.view l c.learn.ensures.goes c.learn-2.ensures.goes in
    let ends = a.ends c.run-answer.result l f c.run-answer.ensures.3 in (
      c.turn-2.ensures.same.0 ∙ c.turn.ensures.same.0 ∙ c.run-answer.ensures.0 ∙ c.learn-2.ensures.same.0 ∙ c.learn.ensures.same.0,
      c.turn-2.ensures.same.1 ∙ c.turn.ensures.same.1 ∙ c.run-answer.ensures.1 ∙ c.learn-2.ensures.same.1 ∙ c.learn.ensures.same.1,
      c.turn-2.ensures.errand ∙ c.turn.ensures.errand ∙ c.run-answer.ensures.2 ∙ c.learn-2.ensures.errand ∙ c.learn.ensures.errand,
      (
        comes_home v o.view k.view k.id a.may.slot o.id a.may.map a.may.owned a.may.inside l f both names ends c.turn.new.seat.view w a.back c.turn.ensures.goes c.turn-2.ensures.goes,
        record {
          on = record {
            map = a.may.map;
            slot = a.may.slot;
            owned = a.may.owned;
            inside = a.may.inside;
            knew = f;
            done = subst (λ (x : View g.row.K.Denot g.row.V.Denot g.row.S.Denot). g.E.Errand.did c.args.self.errand c.args.blocks.now.words.fixed x c.run-answer.result f) both c.run-answer.ensures.3;
            back = back_so f c.turn.new.seat.view w c.turn.ensures.goes c.turn-2.ensures.goes;
          };
          gone = subst (λ (p : Names). IsLentIf g.K.PartialEq.eq g.S.Hashes.hash c.args.self.guard.now c.args.self.owner.now f p.0 (option_map (λ pair. (pair.0.now, pair.1.now)) c.pair_if-gone.result))
              c.named-left.ensures c.pair_if-gone.ensures;
          there = subst (λ (p : Names). IsLentIf g.K.PartialEq.eq g.S.Hashes.hash c.args.self.guard.now c.args.self.owner.now f p.1 (option_map (λ pair. (pair.0.now, pair.1.now)) c.pair_if-there.result))
              c.named-left.ensures c.pair_if-there.ensures;
        },
      ),
    )
