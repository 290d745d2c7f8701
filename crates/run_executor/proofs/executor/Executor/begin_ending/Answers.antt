-- The beginning of the end of a map.
use Rattle.std.proofs.Common.{rules, ◌≡◌, ◌+◌, ◌*◌, ◌++◌, ◌∷◌, [], ℕ, length, refl, sym, ap, subst, ◌∙◌}
use Rattle.std.specs.Prelude.{Some, None}
use Rattle.std.proofs.lemmas.List.{length-set}
use Rattle.papaya_raw.specs.declared.machines.end_map.EndMap.{EndMap}
use Rattle.run_places.specs.Given.ScenesDeclared.callers.TheConstants.{SLOTS}
use Rattle.run_executor.specs.declared.worker.Work.TheVariants as work
use Rattle.run_executor.proofs.executor.Executor.begin_ending.Goals as goal
use Rattle.run_executor.proofs.Executing.EndingBegun.{ending_begins}
use Rattle.run_executor.proofs.Executing.Places.{within}
use Rattle.run_executor.specs.Executing.Ending.{EndingBegins}

pub forget-requires : goal.forget-requires
forget-requires g c = within c.args.self.now.maps.items c.args.map c.requires.stands.0 c.requires.stands.1

pub returns-clause-leads : goal.returns-clause-leads
returns-clause-leads g c = λ same hash s at.
    let count : c.len-place.result ≡ length c.args.self.now.workers.items = search (rules, c.len-place.ensures) in
    let new = record c.args.self.now { workers = c.push.new.self; maps = c.forget.new.maps } in
    let items = c.in_ok-push.ensures.items
    ∙ ap (λ (x : EndMap). c.args.self.now.workers.items ++ Some (record { slot = c.args.slot; work = work.Ending x }) ∷ []) c.new-ending.ensures in
    subst (λ (n : ℕ). EndingBegins same hash c.args.map (n * SLOTS + c.args.slot) s c.args.self.now new) (sym count)
    (ending_begins same hash c.args.self.now s at c.args.slot c.requires.slot c.args.map c.setting_of-setting.result c.setting_of-setting.ensures new refl items refl refl refl refl c.forget.ensures)

pub returns-clause-given : goal.returns-clause-given
returns-clause-given g c = (refl, refl, refl, ap length c.forget.ensures ∙ length-set c.args.self.now.maps.items c.args.map None)
