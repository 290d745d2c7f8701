use Rattle.std.proofs.Common.{◌≡◌, sym, subst, ◌∙◌}
use Rattle.papaya_raw.specs.CallPoints.{removing}
use Rattle.papaya_raw.specs.declared.machines.machine.Machine.TheVariants.{Key}
use Rattle.threads_steps.specs.Given.ActsActs.{Remove}
use Rattle.threads_steps.specs.Given.ViewsDeclared.view.View.{View}
use Rattle.threads_steps.specs.Given.ErrandsCalling.{IsCalling, MayCall}
use Rattle.threads_steps.specs.Given.ErrandsLooking.{Begins}
use Rattle.threads_steps.proofs.Given.Keeping.{kept_same}
use Rattle.threads_errands.proofs.removing.begins.Goals as goal

pub begins_to_remove-requires : goal.begins_to_remove-requires
begins_to_remove-requires g c =
    let x = c.args in let was = c.new-within.ensures.seat in
    let before : x.seat.now.view ≡ c.new-within.result.seat.now.view = cc was in record {
      may = subst (λ (v : View g.row.K.Denot g.row.V.Denot g.row.S.Denot). MayCall g.K.PartialEq.eq g.S.Hashes.hash x.hasher.now (Key (removing x.setting x.hash (g.Q.Equivalent.stands_for x.key.now))) v) before c.requires.may;
    }

-- the seat is the one that was lent
pub returns-clause-same : goal.returns-clause-same
returns-clause-same g c =
    let s = kept_same _ _ _ _ _ _ _ _ c.begins_to_remove.ensures.same in
    let blocks = s.0 in let name = s.1 in let id = s.2 in let away = s.3 in
    let is = c.seat-1.given.1 (sym (name ∙ c.new-within.ensures.name)) in
    let was = c.new-within.ensures.seat in let own = c.begins_to_remove.new.self.own in let first = c.new-within.result.own in
    (cc (is, own, blocks, first, was), cc (is, id, was), cc (is, away, was))

pub returns-clause-begun : goal.returns-clause-begun
returns-clause-begun g c =
    let s = kept_same _ _ _ _ _ _ _ _ c.begins_to_remove.ensures.same in
    let is = c.seat-1.given.1 (sym (s.1 ∙ c.new-within.ensures.name)) in
    let was = c.new-within.ensures.seat in
    let before : c.new-within.result.seat.now.view ≡ c.args.seat.now.view = cc was in
    let after : c.begins_to_remove.new.self.seat.now.view ≡ c.seat-1.given.0.view = cc is in
    subst (λ (v : View g.row.K.Denot g.row.V.Denot g.row.S.Denot). Begins g.K.PartialEq.eq g.S.Hashes.hash (Remove (g.Q.Equivalent.stands_for c.args.key.now)) v c.seat-1.given.0.view) before
    (subst (λ (w : View g.row.K.Denot g.row.V.Denot g.row.S.Denot). Begins g.K.PartialEq.eq g.S.Hashes.hash (Remove (g.Q.Equivalent.stands_for c.args.key.now)) c.new-within.result.seat.now.view w) after c.begins_to_remove.ensures.begun)

pub returns-clause-calls : goal.returns-clause-calls
returns-clause-calls g c =
    let s = kept_same _ _ _ _ _ _ _ _ c.begins_to_remove.ensures.same in
    let is = c.seat-1.given.1 (sym (s.1 ∙ c.new-within.ensures.name)) in
    let after : c.begins_to_remove.new.self.seat.now.view ≡ c.seat-1.given.0.view = cc is in
    let x = c.args in subst (λ (w : View g.row.K.Denot g.row.V.Denot g.row.S.Denot). IsCalling x.hasher.now (Key (removing x.setting x.hash (g.Q.Equivalent.stands_for x.key.now))) w) after c.begins_to_remove.ensures.calls
