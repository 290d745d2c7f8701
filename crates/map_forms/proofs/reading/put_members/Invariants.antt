use Rattle.map_forms.proofs.Read.{IsSoFar}
use Rattle.map_forms.proofs.reading.put_members.Given as goal

-- the members so far stand for pairs that were put there
abbrev pub invariant-loop-name : goal.invariant-loop-name
invariant-loop-name g l =
    IsSoFar g.K.JsonForm.in_range g.K.JsonKey.key_text g.V.JsonForm.in_range g.V.JsonForm.json_value g.C.Puts.has_put l.members.entries l.name-iterator l.fn.into l.into
