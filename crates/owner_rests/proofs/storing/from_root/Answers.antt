-- It goes on from where the straight code has stopped, or has ended there.
use Rattle.papaya_raw.specs.CallPoints.{untried}
use Rattle.papaya_raw.specs.declared.machines.call.Calling.TheVariants as at
use Rattle.map_straight.specs.Straight.Storing.{call_at, storing}
use Rattle.owner_calls.proofs.Owned.Straight.{ends_there, may_run}
use Rattle.owner_rests.proofs.Rests.Straight.{answered, led_on}
use Rattle.owner_rests.proofs.storing.from_root.Goals as goal

pub store-requires : goal.store-requires
store-requires g c =
    may_run g.K.PartialEq.eq g.K.PartialEq.eq g.S.Hashes.hash c.args.hasher (storing c.args.setting c.args.hash c.args.there c.args.own untried at.Roots) c.args.memory.now c.requires

pub returns-in-Answered : goal.returns-in-Answered
returns-in-Answered g c =
    answered g.K.PartialEq.eq g.S.Hashes.hash c.args.setting c.args.hasher c.args.hash c.args.there (storing c.args.setting c.args.hash c.args.there c.args.own untried at.Roots)
    c.args.memory.now c.store.new.memory c.in-Answered.answer c.in-Answered.ensures

pub go_on-requires : goal.go_on-requires
go_on-requires g c =
    ends_there g.K.PartialEq.eq g.K.PartialEq.eq g.S.Hashes.hash c.args.hasher (storing c.args.setting c.args.hash c.args.there c.args.own untried at.Roots)
    (call_at c.args.setting c.args.hash c.args.there c.args.own c.in-Stands.trial c.in-Stands.spot) c.args.memory.now c.store.new.memory c.in-Stands.ensures c.requires

pub returns-in-Stands : goal.returns-in-Stands
returns-in-Stands g c =
    led_on g.K.PartialEq.eq g.S.Hashes.hash c.args.setting c.args.hasher c.args.hash c.args.there (storing c.args.setting c.args.hash c.args.there c.args.own untried at.Roots)
    (call_at c.args.setting c.args.hash c.args.there c.args.own c.in-Stands.trial c.in-Stands.spot) c.args.memory.now c.store.new.memory c.go_on.new.memory c.go_on.result c.in-Stands.ensures c.go_on.ensures
