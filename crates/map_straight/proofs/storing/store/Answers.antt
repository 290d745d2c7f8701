-- The root is read, tries are made, and the place found is taken.
use Rattle.std.specs.Prelude.{◌≡◌, IsSome, Some}
use Rattle.std.proofs.Common.{sym, ◌∙◌, ap, subst}
use Rattle.map_tables.specs.Trials.{first_trial}
use Rattle.map_tables.specs.declared.trial.Trial.{Trial}
use Rattle.papaya_raw.specs.CallPoints.{untried}
use Rattle.papaya_raw.specs.declared.machines.call.Calling.TheVariants as at
use Rattle.map_straight.specs.Straight.Going.{CallLeads}
use Rattle.seize_straight.specs.Runs.{none_taken}
use Rattle.map_straight.specs.Straight.Storing.{call_at, storing}
use Rattle.map_straight.specs.declared.storing.StoringPoint.{StoringPoint}
use Rattle.map_straight.specs.declared.storing.StoringPoint.TheVariants as spot
use Rattle.seize_straight.proofs.Running.{begins, led_to, next, on_from, reaches_to}
use Rattle.map_straight.proofs.Straight.Stores as by
use Rattle.map_straight.proofs.storing.store.Given as given
use Rattle.map_straight.proofs.storing.store.Goals as goal
use Rattle.map_straight.proofs.storing.store.Goals.{After-first-first, After-no_trial-none, In-Stands-default-Tries}

-- nothing is done
stays : (g : given.Over) (c : goal.After-no_trial-none g) → CallLeads g.Q.Equivalent.equivalent g.K.PartialEq.eq (g.S.Hashes.hash c.args.hasher.now) g.M.Look.took g.M.Look.shown
    (storing c.args.setting c.args.hash c.args.there c.args.own untried at.Roots) c.args.memory.now (call_at c.args.setting c.args.hash c.args.there c.args.own c.no_trial-none.result spot.Roots) c.args.memory.now
stays g c =
    subst (λ (t : Trial). CallLeads g.Q.Equivalent.equivalent g.K.PartialEq.eq (g.S.Hashes.hash c.args.hasher.now) g.M.Look.took g.M.Look.shown
    (storing c.args.setting c.args.hash c.args.there c.args.own untried at.Roots) c.args.memory.now (call_at c.args.setting c.args.hash c.args.there c.args.own t spot.Roots) c.args.memory.now) (sym c.no_trial-none.ensures) (none_taken _ _)

rooted : (g : given.Over) (c : goal.After-first-first g) → by.HasRoot g.Q.Equivalent.equivalent g.K.PartialEq.eq (g.S.Hashes.hash c.args.hasher.now) g.M.Look.can g.M.Look.took g.M.Look.shown c.args.setting c.args.hash c.args.there c.args.own c.args.memory.now c.load-link.new.self c.load-link.result c.value.result.now c.first-first.result
rooted g c = record {
  run = c.requires;
  loads = c.load-link.ensures;
  some = c.if-link-eq0.false;
  shows = subst (λ b. g.M.Look.shown c.load-link.new.self b ≡ Some c.value.result.now) c.block_of.ensures c.value.ensures;
  first_is = c.first-first.ensures ∙ ap (λ t. first_trial t c.args.hash) c.seen-table.ensures;
}

-- the tries have led to the place of a word
tried : (g : given.Over) (c : goal.In-Stands-default-Tries g)
    → by.Comes g.Q.Equivalent.equivalent g.K.PartialEq.eq (g.S.Hashes.hash c.args.hasher.now) g.M.Look.can g.M.Look.took g.M.Look.shown c.args.setting c.args.hash c.args.there c.args.own untried at.Roots c.args.memory.now c.first-first.result at.Probes c.load-link.new.self
    → by.Comes g.Q.Equivalent.equivalent g.K.PartialEq.eq (g.S.Hashes.hash c.args.hasher.now) g.M.Look.can g.M.Look.took g.M.Look.shown c.args.setting c.args.hash c.args.there c.args.own untried at.Roots c.args.memory.now c.in-Stands-default-Tries.trial (at.Tries c.in-Stands-default-Tries.word c.args.own) c.try_places.new.memory
tried g c l =
    led_to l _ c.try_places.new.memory
    (subst (λ (s : StoringPoint). CallLeads g.Q.Equivalent.equivalent g.K.PartialEq.eq (g.S.Hashes.hash c.args.hasher.now) g.M.Look.took g.M.Look.shown
    (storing c.args.setting c.args.hash c.args.there c.args.own c.first-first.result at.Probes) c.load-link.new.self (call_at c.args.setting c.args.hash c.args.there c.args.own c.in-Stands-default-Tries.trial s) c.try_places.new.memory)
    c.in-Stands-default-Tries.field-1-is c.in-Stands-default-Tries.ensures)

pub returns-then-not-is_plain : goal.returns-then-not-is_plain
returns-then-not-is_plain g c =
    stays g (goal.at.returns-then-not-is_plain g c).After-no_trial-none

pub returns-then-own-eq0 : goal.returns-then-own-eq0
returns-then-own-eq0 g c =
    stays g (goal.at.returns-then-own-eq0 g c).After-no_trial-none

pub returns-then-own-eq-TOMBSTONE : goal.returns-then-own-eq-TOMBSTONE
returns-then-own-eq-TOMBSTONE g c =
    stays g (goal.at.returns-then-own-eq-TOMBSTONE g c).After-no_trial-none

pub load-link-requires : goal.load-link-requires
load-link-requires g c =
    (next (begins c.requires)).0

pub returns-then-link-eq0 : goal.returns-then-link-eq0
returns-then-link-eq0 g c =
    by.has_none g.Q.Equivalent.equivalent g.K.PartialEq.eq (g.S.Hashes.hash c.args.hasher.now) c.requires c.load-link.ensures c.no_trial-none.result c.no_trial-none.ensures c.if-link-eq0.true

pub value-requires : goal.value-requires
value-requires g c =
    subst (λ b. IsSome (g.M.Look.shown c.load-link.new.self b)) (sym c.block_of.ensures) (by.sees_table g.Q.Equivalent.equivalent g.K.PartialEq.eq (g.S.Hashes.hash c.args.hasher.now) c.requires c.load-link.ensures c.if-link-eq0.false)

pub try_places-requires-clause-may : goal.try_places-requires-clause-may
try_places-requires-clause-may g c =
    on_from (by.enters (rooted g (goal.at.try_places-requires-clause-may g c).After-first-first))

pub put-requires-clause-may : goal.put-requires-clause-may
put-requires-clause-may g c =
    let x = goal.at.put-requires-clause-may g c in
    on_from (tried g x.In-Stands-default-Tries (by.enters (rooted g x.After-first-first)))

pub returns-in-Stands-default-Tries : goal.returns-in-Stands-default-Tries
returns-in-Stands-default-Tries g c =
    let x = goal.at.returns-in-Stands-default-Tries g c in
    reaches_to (tried g x.In-Stands-default-Tries (by.enters (rooted g x.After-first-first))) c.put.new.memory _ c.put.ensures

pub returns-in-Stands : goal.returns-in-Stands
returns-in-Stands g c =
    (led_to (by.enters (rooted g (goal.at.returns-in-Stands g c).After-first-first)) _ c.try_places.new.memory c.in-Stands.ensures).leads

pub returns-in-Next : goal.returns-in-Next
returns-in-Next g c =
    (led_to (by.enters (rooted g (goal.at.returns-in-Next g c).After-first-first)) _ c.try_places.new.memory c.in-Next.ensures).leads
