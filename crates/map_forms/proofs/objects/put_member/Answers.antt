use Rattle.std.proofs.Common.{◌∙◌, ap}
use Rattle.serde_json.specs.Data.{put}
use Rattle.serde_json.specs.View.{view, members_view}
use Rattle.serde_json.proofs.Views.{members_view-insert_entry}
use Rattle.map_forms.proofs.objects.put_member.Goals as goal

pub returns-clause-members : goal.returns-clause-members
returns-clause-members g c =
    ap members_view c.in_ok-insert.ensures.entries ∙ members_view-insert_entry c.args.members.now.entries c.in_ok-name.name c.in_ok-value.value
    ∙ ap (λ t. put t (view c.in_ok-value.value) (members_view c.args.members.now.entries)) c.in_ok-name.ensures.text
    ∙ ap (λ d. put (g.K.JsonKey.key_text c.args.key.now) d (members_view c.args.members.now.entries)) c.in_ok-value.ensures.value
