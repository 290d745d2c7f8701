-- Each member is read, and its pair stored, which finds none of its key.
use Rattle.std.proofs.Common.{◌++◌, ap, subst, sym, ◌∙◌}
use Rattle.std.proofs.lemmas.Result.{err_from_is_err_and}
use Rattle.serde_json.proofs.Views.{Entry}
use Rattle.papaya_seq.proofs.Members.{all_in_range, all_object, fault_at, goes_on, held_so, last_so, none_yet}
use Rattle.papaya_seq.proofs.map.json.map_of.Goals as goal

pub loop-name-init : goal.loop-name-init
loop-name-init g c = (
  none_yet g.K.JsonForm.in_range g.K.JsonKey.key_text g.V.JsonForm.in_range g.V.JsonForm.json_value g.K.PartialEq.eq g.met.K.JsonKey.key_text_tells _ _ _
      (c.into_iter-name-iterator.ensures.into_iter_gives ∙ c.iter-name-items.ensures.rest) c.in-Ok.ensures.pairs c.in-Ok.ensures.held c.in-Ok.ensures.last,
  c.in-Ok.ensures.hasher,
)

pub loop-name-preserved : goal.loop-name-preserved
loop-name-preserved g c =
    let l = c.loop-name in
    let e : Entry = (c.in-Some.name.now, c.in-Some.value.now) in (
      goes_on g.K.JsonForm.in_range g.K.JsonKey.key_text g.V.JsonForm.in_range g.V.JsonForm.json_value g.K.PartialEq.eq g.met.K.JsonKey.key_text_tells
          c.args.members.now.entries l.name-iterator c.next.new.self l.map _ e _ l.invariant.0 c.in-Some.ensures.steps c.iter-name-items.ensures.ordered c.as_str.ensures.value c.in_ok-store_member.ensures.stored,
      subst g.S.Default.is_default (sym c.in_ok-store_member.ensures.hasher) l.invariant.1,
    )

pub returns-in_err-store_member-clause-fault : goal.returns-in_err-store_member-clause-fault
returns-in_err-store_member-clause-fault g c =
    let l = c.loop-name in
    let e : Entry = (c.in-Some.name.now, c.in-Some.value.now) in
    let so = l.invariant.0 in
    let p = err_from_is_err_and c.from_residual.result c.from_residual.ensures.1 in
    rw (p.1, p.2)
    (fault_at g.K.JsonForm.in_range g.K.JsonKey.key_text g.V.JsonForm.in_range g.V.JsonForm.json_value _ so.read so.done e c.next.new.self c.args.members.now.entries _ so.each
    (so.all ∙ ap (λ es. so.done ++ es) c.in-Some.ensures.steps) c.as_str.ensures.value c.in_err-store_member.ensures.fault)

pub returns-clause-pairs : goal.returns-clause-pairs
returns-clause-pairs g c =
    let so = c.loop-name.invariant.0 in
    all_object g.K.JsonForm.in_range g.K.JsonKey.key_text g.V.JsonForm.in_range g.V.JsonForm.json_value c.loop-name.map.pairs so.read so.done c.loop-name.name-iterator c.args.members.now.entries so.each so.all
    c.in-None.ensures.steps.0 so.order c.iter-name-items.ensures.ordered

pub returns-clause-in_range : goal.returns-clause-in_range
returns-clause-in_range g c =
    let so = c.loop-name.invariant.0 in
    all_in_range g.K.JsonForm.in_range g.K.JsonKey.key_text g.V.JsonForm.in_range g.V.JsonForm.json_value c.loop-name.map.pairs so.read so.done c.loop-name.name-iterator c.args.members.now.entries so.each so.all
    c.in-None.ensures.steps.0 so.order

pub returns-clause-held : goal.returns-clause-held
returns-clause-held g c =
    held_so g.K.JsonForm.in_range g.K.JsonKey.key_text g.V.JsonForm.in_range g.V.JsonForm.json_value g.K.PartialEq.eq g.met.K.JsonKey.key_text_tells
    c.args.members.now.entries c.loop-name.name-iterator c.loop-name.map c.loop-name.invariant.0

pub returns-clause-last : goal.returns-clause-last
returns-clause-last g c =
    last_so g.K.JsonForm.in_range g.K.JsonKey.key_text g.V.JsonForm.in_range g.V.JsonForm.json_value g.K.PartialEq.eq g.met.K.JsonKey.key_text_tells
    c.args.members.now.entries c.loop-name.name-iterator c.loop-name.map c.loop-name.invariant.0 c.in-None.ensures.steps.0

pub returns-clause-hasher : goal.returns-clause-hasher
returns-clause-hasher g c = c.loop-name.invariant.1
