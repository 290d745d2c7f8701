use Rattle.std.specs.Prelude.{◌≡◌, map}
use Rattle.std.specs.List.{All}
use Rattle.serde_json.specs.Data.{no_members}
use Rattle.serde_json.specs.View.{members_view}
use Rattle.map_forms.specs.Objects.{members_with}
use Rattle.map_forms.proofs.objects.object_of.Given as goal

-- the pairs so far are in range, and its members
abbrev pub invariant-loop-key : goal.invariant-loop-key
invariant-loop-key g l =
    All (λ x. g.K.JsonForm.in_range x.0.now × g.V.JsonForm.in_range x.1.now) l.yielded
    × (members_view l.members.entries ≡ members_with g.K.JsonKey.key_text g.V.JsonForm.json_value no_members (map (λ x. (x.0.now, x.1.now)) l.yielded))
