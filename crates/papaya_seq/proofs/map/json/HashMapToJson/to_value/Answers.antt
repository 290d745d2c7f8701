-- The pairs that its walk shows are those of the map, all in range, and each has a text of its own.
use Rattle.std.proofs.lemmas.Result.{IfOk-weaker}
use Rattle.serde_json.specs.View.{view}
use Rattle.map_straight.specs.Shown.Coming.{pairs_to_come}
use Rattle.papaya_seq.proofs.Members.{written_in_range, written_object}
use Rattle.papaya_seq.proofs.map.json.HashMapToJson.to_value.Goals as goal

pub returns : goal.returns
returns g c =
    IfOk-weaker c.object_of.result _ _
    (λ written w. record {
      object = written_object g.K.JsonForm.in_range g.K.JsonKey.key_text g.V.JsonForm.in_range g.V.JsonForm.json_value g.K.PartialEq.eq g.met.K.JsonKey.key_text_tells pairs_to_come c.iter.result c.args.self.now.pairs
          c.iter.ensures.pairs c.iter.ensures.apart w.0 w.1 w.2 (view written) w.3;
      in_range = written_in_range g.K.JsonForm.in_range g.K.JsonKey.key_text g.V.JsonForm.in_range g.V.JsonForm.json_value g.K.PartialEq.eq g.met.K.JsonKey.key_text_tells pairs_to_come c.iter.result c.args.self.now.pairs
          c.iter.ensures.pairs c.iter.ensures.apart w.0 w.1 w.2;
    }) c.object_of.ensures
