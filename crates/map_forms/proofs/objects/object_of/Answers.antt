use Rattle.std.proofs.Common.{◌∙◌, ap, sym}
use Rattle.std.proofs.lemmas.List.Elements.{All-push}
use Rattle.serde_json.specs.Data.{put, no_members}
use Rattle.map_forms.proofs.PairByPair.{one_more}
use Rattle.map_forms.proofs.objects.object_of.Goals as goal

pub loop-key-preserved : goal.loop-key-preserved
loop-key-preserved g c = (
  All-push (λ x. g.K.JsonForm.in_range x.0.now × g.V.JsonForm.in_range x.1.now) c.loop-key.yielded (c.in-Some.key, c.in-Some.value) c.loop-key.invariant.0 c.in_ok-put_member.ensures.in_range,
  c.in_ok-put_member.ensures.members ∙ ap (put (g.K.JsonKey.key_text c.in-Some.key.now) (g.V.JsonForm.json_value c.in-Some.value.now)) c.loop-key.invariant.1
      ∙ sym (one_more g.K.JsonKey.key_text g.V.JsonForm.json_value (λ x. (x.0.now, x.1.now)) no_members c.loop-key.yielded (c.in-Some.key, c.in-Some.value)),
)
