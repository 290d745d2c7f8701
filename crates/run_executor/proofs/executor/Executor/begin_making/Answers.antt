-- The beginning of the making of a map.
use Rattle.std.proofs.Common.{rules, ◌≡◌, ◌+◌, ◌*◌, ◌++◌, ◌∷◌, [], ℕ, length, refl, sym, ap, subst, ◌∙◌}
use Rattle.std.specs.Prelude.{Some}
use Rattle.std.proofs.lemmas.List.{length-append}
use Rattle.run_places.specs.Given.ScenesDeclared.callers.TheConstants.{SLOTS}
use Rattle.run_executor.specs.declared.worker.Work.TheVariants as work
use Rattle.run_executor.proofs.executor.Executor.begin_making.Goals as goal
use Rattle.run_executor.proofs.Executing.Kept.{if_refused, refused_so, refused_with}
use Rattle.run_executor.proofs.Executing.MakingBegun.{making_begins}
use Rattle.run_executor.specs.Executing.MakingBegins.{MakingBegins}

pub returns-clause-leads : goal.returns-clause-leads
returns-clause-leads g c = λ same hash s at.
    let count : c.len-place.result ≡ length c.args.self.now.workers.items = search (rules, c.len-place.ensures) in
    let number : c.len-map.result ≡ length c.args.self.now.maps.items = search (rules, c.len-map.ensures) in
    let new = record c.args.self.now { maps = c.push.new.self; workers = c.push-2.new.self } in
    let items = c.in_ok-push-2.ensures.items
    ∙ ap (λ x. c.args.self.now.workers.items ++ Some (record { slot = c.args.slot; work = work.Making x c.new-opening.result }) ∷ []) number
    ∙ ap (λ x. c.args.self.now.workers.items ++ Some (record { slot = c.args.slot; work = work.Making (length c.args.self.now.maps.items) x }) ∷ []) c.new-opening.ensures in
    subst (λ (n : ℕ). MakingBegins same hash c.args.given c.args.places (n * SLOTS + c.args.slot) s c.args.self.now new) (sym count)
    (making_begins same hash c.args.self.now s at c.args.slot c.requires c.args.given c.args.places new refl items refl refl refl refl c.in_ok-push.ensures.items)

pub returns-in_err-push-clause-refused : goal.returns-in_err-push-clause-refused
returns-in_err-push-clause-refused g c =
    if_refused c.from_residual.result (λ error. refused_so c.args.self.now (record c.args.self.now { maps = c.push.new.self }) refl refl refl refl refl c.in_err-push.ensures.items)

-- the number that was kept for it is no map's
pub returns-in_err-push-2-clause-refused : goal.returns-in_err-push-2-clause-refused
returns-in_err-push-2-clause-refused g c =
    if_refused c.from_residual-in_err-push-2.result
    (λ error. refused_with c.args.self.now (record c.args.self.now { maps = c.push.new.self; workers = c.push-2.new.self }) refl c.in_err-push-2.ensures.items refl refl refl c.in_ok-push.ensures.items)

pub returns-clause-numbers : goal.returns-clause-numbers
returns-clause-numbers g c = ap length c.in_ok-push.ensures.items ∙ length-append c.args.self.now.maps.items _
