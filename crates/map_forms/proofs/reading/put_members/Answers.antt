-- Each member is read, and its pair put.
use Rattle.std.proofs.Common.{◌∙◌}
use Rattle.serde_json.proofs.Views.{Entry}
use Rattle.map_forms.proofs.Read.{all_read, fault_at, goes_on, none_yet}
use Rattle.map_forms.proofs.reading.put_members.Goals as goal

pub loop-name-init : goal.loop-name-init
loop-name-init g c =
    none_yet g.K.JsonForm.in_range g.K.JsonKey.key_text g.V.JsonForm.in_range g.V.JsonForm.json_value g.C.Puts.has_put _ _ _
    (c.into_iter-name-iterator.ensures.into_iter_gives ∙ c.iter-name-items.ensures.rest)

pub loop-name-preserved : goal.loop-name-preserved
loop-name-preserved g c =
    let e : Entry = (c.in-Some.name.now, c.in-Some.value.now) in
    goes_on g.K.JsonForm.in_range g.K.JsonKey.key_text g.V.JsonForm.in_range g.V.JsonForm.json_value g.C.Puts.has_put c.args.members.now.entries c.loop-name.name-iterator c.next.new.self
    c.args.into.now c.loop-name.into c.put_member.new.into e _ c.loop-name.invariant c.in-Some.ensures.steps c.as_str.ensures.value c.in-Ok.ensures.put

pub returns-in-Err-clause-fault : goal.returns-in-Err-clause-fault
returns-in-Err-clause-fault g c =
    let e : Entry = (c.in-Some.name.now, c.in-Some.value.now) in
    fault_at g.K.JsonForm.in_range g.K.JsonKey.key_text g.V.JsonForm.in_range g.V.JsonForm.json_value g.C.Puts.has_put c.in-Err.why c.args.members.now.entries c.loop-name.name-iterator
    c.next.new.self c.args.into.now c.loop-name.into e _ c.loop-name.invariant c.in-Some.ensures.steps c.as_str.ensures.value c.in-Err.ensures.fault

pub returns-clause-put : goal.returns-clause-put
returns-clause-put g c =
    all_read g.K.JsonForm.in_range g.K.JsonKey.key_text g.V.JsonForm.in_range g.V.JsonForm.json_value g.C.Puts.has_put c.args.members.now.entries c.loop-name.name-iterator c.args.into.now
    c.loop-name.into c.loop-name.invariant c.in-None.ensures.steps.0
