use Rattle.papaya_json.proofs.Written.{written, not_written, refused_so}
use Rattle.serde_json.specs.View.{members_view}
use Rattle.papaya_json.proofs.maps.SessionToJson.to_value.Goals as goal

pub returns-in-Ok-clause-written : goal.returns-in-Ok-clause-written
returns-in-Ok-clause-written g c =
    let told = c.shows_to-end in
    written g.K.PartialEq.eq g.S.Hashes.hash c.args.self.now.base.caller told.new.self.base.caller _ told.ensures.keeps g.K.JsonForm.in_range g.K.JsonKey.key_text g.V.JsonForm.in_range g.V.JsonForm.json_value (λ w. w.members.refused) (λ w. members_view w.members.members.entries) _ told.result.1 c.new-members.ensures.members told.ensures.told told.result.0 tt c.in-Ok.is told.ensures.shown
    c.into_value.result c.into_value.ensures.all c.into_value.ensures.value

pub returns-in-Ok-clause-refused : goal.returns-in-Ok-clause-refused
returns-in-Ok-clause-refused g c =
    let told = c.shows_to-end in
    not_written g.K.PartialEq.eq g.S.Hashes.hash c.args.self.now.base.caller told.new.self.base.caller _ told.ensures.keeps told.result.0 tt c.in-Ok.is told.ensures.shown c.into_value.result c.into_value.ensures.fault

pub returns-in-Err-clause-refused : goal.returns-in-Err-clause-refused
returns-in-Err-clause-refused g c =
    let told = c.shows_to-end in
    refused_so g.K.PartialEq.eq g.S.Hashes.hash c.args.self.now.base.caller told.new.self.base.caller _ told.ensures.keeps told.result.0 c.in-Err.fault c.in-Err.is told.ensures.refused
