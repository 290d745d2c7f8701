use Rattle.std.proofs.Common.{inl, refl, subst, sym}
use Rattle.std.proofs.lemmas.Result.{IfOk-weaker}
use Rattle.papaya_map.proofs.map.HashMap.clone.Goals as goal

pub returns-in-Ok-clause-cloned : goal.returns-in-Ok-clause-cloned
returns-in-Ok-clause-cloned g c =
    IfOk-weaker c.cloned_with.result _ _
    (λ map it. (c.in-Ok.session.base.caller, c.cloned_with.new.session.base.caller, (c.in-Ok.ensures.memory, c.in-Ok.ensures.map), c.in-Ok.ensures.none, it)) c.cloned_with.ensures.cloned

pub returns-in-Ok-clause-hasher : goal.returns-in-Ok-clause-hasher
returns-in-Ok-clause-hasher g c =
    IfOk-weaker c.cloned_with.result _ _ (λ map is. subst (g.S.Clone.is_clone c.args.self.now.hasher) (sym is) c.in_ok-hasher.ensures.cases) c.cloned_with.ensures.hasher

pub returns-in-Err-clause-ids : goal.returns-in-Err-clause-ids
returns-in-Err-clause-ids g c = inl refl
