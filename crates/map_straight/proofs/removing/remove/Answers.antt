-- The root is read, tries are made, and the pair found is removed.
use Rattle.std.specs.Prelude.{◌≡◌, IsSome, Some}
use Rattle.std.proofs.Common.{sym, ◌∙◌, ap, subst}
use Rattle.map_tables.specs.Trials.{first_trial}
use Rattle.map_tables.specs.declared.marks.TheConstants.{TOMBSTONE}
use Rattle.papaya_raw.specs.CallPoints.{untried}
use Rattle.papaya_raw.specs.declared.machines.call.Calling.TheVariants as at
use Rattle.map_straight.specs.Straight.Going.{CallReaches}
use Rattle.map_straight.specs.Straight.Removing.{removed_at, seeking}
use Rattle.map_straight.specs.declared.removing.Removal.{Removal}
use Rattle.map_straight.specs.declared.removing.RemovalAt.TheVariants as removed
use Rattle.map_straight.proofs.Straight.Removals as by
use Rattle.seize_straight.proofs.Running.{begins, led_to, next, on_from, reaches_to}
use Rattle.map_straight.proofs.removing.remove.Given as given
use Rattle.map_straight.proofs.removing.remove.Goals as goal
use Rattle.map_straight.proofs.removing.remove.Goals.{After-first-first, In-Stands-default-Tries}

rooted : (g : given.Over) (c : goal.After-first-first g) → by.HasRoot g.Q.Equivalent.equivalent g.K.PartialEq.eq (g.S.Hashes.hash c.args.hasher.now) g.M.Look.can g.M.Look.took g.M.Look.shown c.args.setting c.args.hash c.args.asked.now c.args.memory.now c.load-link.new.self c.load-link.result c.value.result.now c.first-first.result
rooted g c = record {
  run = c.requires;
  loads = c.load-link.ensures;
  some = c.if-link-eq0.false;
  shows = subst (λ b. g.M.Look.shown c.load-link.new.self b ≡ Some c.value.result.now) c.block_of.ensures c.value.ensures;
  first_is = c.first-first.ensures ∙ ap (λ t. first_trial t c.args.hash) c.seen-table.ensures;
}

-- the tries have led to the place of a pair
sought : (g : given.Over) (c : goal.In-Stands-default-Tries g)
    → by.Comes g.Q.Equivalent.equivalent g.K.PartialEq.eq (g.S.Hashes.hash c.args.hasher.now) g.M.Look.can g.M.Look.took g.M.Look.shown c.args.setting c.args.hash c.args.asked.now untried at.Roots c.args.memory.now c.first-first.result at.Probes c.load-link.new.self
    → by.Comes g.Q.Equivalent.equivalent g.K.PartialEq.eq (g.S.Hashes.hash c.args.hasher.now) g.M.Look.can g.M.Look.took g.M.Look.shown c.args.setting c.args.hash c.args.asked.now untried at.Roots c.args.memory.now c.in-Stands-default-Tries.trial (at.Tries c.in-Stands-default-Tries.word TOMBSTONE) c.seek_on.new.memory
sought g c l =
    led_to l _ c.seek_on.new.memory
    (subst (λ (s : Removal). CallReaches g.Q.Equivalent.equivalent g.K.PartialEq.eq (g.S.Hashes.hash c.args.hasher.now) g.M.Look.took g.M.Look.shown
    (seeking c.args.setting c.args.hash c.args.asked.now c.first-first.result at.Probes) c.load-link.new.self c.seek_on.new.memory (removed_at c.args.setting c.args.hash c.args.asked.now (removed.Stands c.in-Stands-default-Tries.trial s)))
    c.in-Stands-default-Tries.field-1-is c.in-Stands-default-Tries.ensures)

pub load-link-requires : goal.load-link-requires
load-link-requires g c =
    (next (begins c.requires)).0

pub returns-then-link-eq0 : goal.returns-then-link-eq0
returns-then-link-eq0 g c =
    by.has_none g.Q.Equivalent.equivalent g.K.PartialEq.eq (g.S.Hashes.hash c.args.hasher.now) c.requires c.load-link.ensures c.if-link-eq0.true

pub value-requires : goal.value-requires
value-requires g c =
    subst (λ b. IsSome (g.M.Look.shown c.load-link.new.self b)) (sym c.block_of.ensures) (by.sees_table g.Q.Equivalent.equivalent g.K.PartialEq.eq (g.S.Hashes.hash c.args.hasher.now) c.requires c.load-link.ensures c.if-link-eq0.false)

pub seek_on-requires : goal.seek_on-requires
seek_on-requires g c =
    on_from (by.enters (rooted g (goal.at.seek_on-requires g c).After-first-first))

pub bury-requires : goal.bury-requires
bury-requires g c =
    let x = goal.at.bury-requires g c in
    on_from (sought g x.In-Stands-default-Tries (by.enters (rooted g x.After-first-first)))

pub returns-in-Stands-default-Tries : goal.returns-in-Stands-default-Tries
returns-in-Stands-default-Tries g c =
    let x = goal.at.returns-in-Stands-default-Tries g c in
    reaches_to (sought g x.In-Stands-default-Tries (by.enters (rooted g x.After-first-first))) c.bury.new.memory _ c.bury.ensures

pub returns-in-Stands : goal.returns-in-Stands
returns-in-Stands g c =
    reaches_to (by.enters (rooted g (goal.at.returns-in-Stands g c).After-first-first)) c.seek_on.new.memory (removed_at c.args.setting c.args.hash c.args.asked.now (removed.Stands c.in-Stands.trial c.in-Stands.removal)) c.in-Stands.ensures

pub returns-in-Answered : goal.returns-in-Answered
returns-in-Answered g c =
    reaches_to (by.enters (rooted g (goal.at.returns-in-Answered g c).After-first-first)) c.seek_on.new.memory (removed_at c.args.setting c.args.hash c.args.asked.now (removed.Answered c.in-Answered.answer)) c.in-Answered.ensures
