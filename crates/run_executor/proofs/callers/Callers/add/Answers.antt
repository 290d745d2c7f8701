use Rattle.std.specs.Prelude.{◌==◌, slice_set, Some, None, if◌then◌else◌}
use Rattle.std.proofs.Common.{◌≡◌, ◌+◌, ◌++◌, ◌∷◌, [], length, refl, sym, ap, subst, arith, ◌∙◌}
use Rattle.run_names.specs.Presence.Crowd.{IsAbsent}
use Rattle.run_names.proofs.Presence.Crowds.Homes.{none_told}
use Rattle.run_names.proofs.Presence.Crowds.Kept.{kept_few}
use Rattle.run_executor.specs.Named.Roll.{AreKept, name_of, newest}
use Rattle.run_executor.proofs.Named.Roll.Comes.{come_kept, few_on, few_under, filled, place_kept}
use Rattle.run_executor.proofs.Named.Roll.Newest.{newest_more}
use Rattle.run_executor.proofs.callers.Callers.add.Goals as goal

pub invariant_of-self-in_err-put : goal.invariant_of-self-in_err-put
invariant_of-self-in_err-put g c =
    let comers = c.self.inside.comers.items in
    let shown = none_told _ c.place_of.result (sym c.is_some.ensures ∙ c.if-is_some.false) c.place_of.ensures in
    let absent = subst (λ l. IsAbsent name_of c.args.caller.name l) c.deref.ensures.value shown in
    subst (λ l. AreKept l c.put.new.self c.self.inside.under c.self.inside.on c.self.inside.count) (sym c.in_ok-push.ensures.items)
    (place_kept comers c.self.inside.places c.put.new.self c.self.inside.under c.self.inside.under c.self.inside.on c.self.inside.on c.self.inside.count c.args.caller.name c.self.invariant absent c.put.ensures.others (λ guard. refl) (λ map. refl))

pub invariant_of-self-in_err-reach : goal.invariant_of-self-in_err-reach
invariant_of-self-in_err-reach g c =
    let comers = c.self.inside.comers.items in
    let shown = none_told _ c.place_of.result (sym c.is_some.ensures ∙ c.if-is_some.false) c.place_of.ensures in
    let absent = subst (λ l. IsAbsent name_of c.args.caller.name l) c.deref.ensures.value shown in
    subst (λ l. AreKept l c.put.new.self c.self.inside.under c.reach.new.self c.self.inside.count) (sym c.in_ok-push.ensures.items)
    (place_kept comers c.self.inside.places c.put.new.self c.self.inside.under c.self.inside.under c.self.inside.on c.reach.new.self c.self.inside.count c.args.caller.name c.self.invariant absent c.put.ensures.others (λ guard. refl) c.reach.ensures.same)

pub add-requires : goal.add-requires
add-requires g c =
    let comers = c.self.inside.comers.items in
    let so = c.self.invariant.under_so c.args.caller.guard in
    let few = few_under comers c.args.caller.guard in
    omega (arith, so, few, ap length c.deref.ensures.value, c.deref.ensures.len, c.in_ok-push.ensures.len, c.push.new.self.small)

pub invariant_of-self-in_err-add : goal.invariant_of-self-in_err-add
invariant_of-self-in_err-add g c =
    let comers = c.self.inside.comers.items in
    let shown = none_told _ c.place_of.result (sym c.is_some.ensures ∙ c.if-is_some.false) c.place_of.ensures in
    let absent = subst (λ l. IsAbsent name_of c.args.caller.name l) c.deref.ensures.value shown in
    subst (λ l. AreKept l c.put.new.self c.add.new.self c.reach.new.self c.self.inside.count) (sym c.in_ok-push.ensures.items)
    (place_kept comers c.self.inside.places c.put.new.self c.self.inside.under c.add.new.self c.self.inside.on c.reach.new.self c.self.inside.count c.args.caller.name c.self.invariant absent c.put.ensures.others c.in_err-add.ensures.err c.reach.ensures.same)

pub add-requires-2-clause-few : goal.add-requires-2-clause-few
add-requires-2-clause-few g c =
    let comers = c.self.inside.comers.items in
    let so = c.reach.ensures.same c.args.caller.map ∙ c.self.invariant.on_so c.args.caller.map in
    let few = few_on comers c.args.caller.map in
    omega (arith, so, few, ap length c.deref.ensures.value, c.deref.ensures.len, c.in_ok-push.ensures.len, c.push.new.self.small)

pub overflow_add-self : goal.overflow_add-self
overflow_add-self g c =
    let few = kept_few c.self.inside.comers.items in
    omega (arith, few, c.self.invariant.count_so, ap length c.deref.ensures.value, c.deref.ensures.len, c.in_ok-push.ensures.len, c.push.new.self.small)

pub invariant_of-self-2 : goal.invariant_of-self-2
invariant_of-self-2 g c =
    let comers = c.self.inside.comers.items in
    let d = c.args.caller in
    let shown = none_told _ c.place_of.result (sym c.is_some.ensures ∙ c.if-is_some.false) c.place_of.ensures in
    let absent = subst (λ l. IsAbsent name_of d.name l) c.deref.ensures.value shown in
    let at : length comers ≡ c.len-place.result = omega (arith, ap length c.deref.ensures.value, c.deref.ensures.len, c.len-place.ensures) in
    let led = c.in_ok-put.ensures.here ∙ ap (λ k. Some k) (sym at) in
    let items = ap (λ l. slice_set l c.len-place.result (Some d)) c.in_ok-push.ensures.items ∙ ap (λ k. slice_set (comers ++ (None ∷ [])) k (Some d)) (sym at) ∙ filled comers d in
    subst (λ l. AreKept l c.put.new.self c.add.new.self c.add-2.new.self (c.self.inside.count + 1)) (sym items)
    (come_kept comers c.self.inside.places c.put.new.self c.self.inside.under c.add.new.self c.self.inside.on c.add-2.new.self c.self.inside.count d c.self.invariant absent c.put.ensures.others led
    c.in_ok-add.ensures.here c.in_ok-add.ensures.others (λ map. c.add-2.ensures.more map ∙ ap (λ n. (if d.map == map then 1 else 0) + n) (c.reach.ensures.same map)))

pub returns : goal.returns
returns g c =
    let comers = c.self.inside.comers.items in
    let d = c.args.caller in
    let at : length comers ≡ c.len-place.result = omega (arith, ap length c.deref.ensures.value, c.deref.ensures.len, c.len-place.ensures) in
    let items = ap (λ l. slice_set l c.len-place.result (Some d)) c.in_ok-push.ensures.items ∙ ap (λ k. slice_set (comers ++ (None ∷ [])) k (Some d)) (sym at) ∙ filled comers d in
    ap (λ l. newest l) items ∙ newest_more comers d ∙ ap (λ l. d ∷ l) c.self.view_is
