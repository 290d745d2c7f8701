use Rattle.papaya_seq.proofs.Members.{IsSoFar}
use Rattle.papaya_seq.proofs.map.json.map_of.Given as goal

-- The members so far stand for the map's pairs, and its hasher is one by default.
abbrev pub invariant-loop-name : goal.invariant-loop-name
invariant-loop-name g l =
    IsSoFar g.K.JsonForm.in_range g.K.JsonKey.key_text g.V.JsonForm.in_range g.V.JsonForm.json_value g.K.PartialEq.eq g.met.K.JsonKey.key_text_tells l.members.entries l.name-iterator l.map
    × g.S.Default.is_default l.map.hasher
