-- The list of a map gets a pair.
use Rattle.std.specs.Prelude.{◌==◌, ◌++◌, ◌∷◌, [], if◌then◌else◌}
use Rattle.std.proofs.Common.{ap, ◌∙◌, arith}
use Rattle.run_effects.proofs.Tallies.MapLists.{list_pushed}
use Rattle.run_effects.proofs.by_map.ByMap.add.Goals as goal

pub index_mut-requires : goal.index_mut-requires
index_mut-requires c = let room = c.in_ok-reach.ensures.room in let long = c.reach.new.self.lists.ok.0 in omega (arith, room, long)

pub returns : goal.returns
returns c = λ other.
    list_pushed c.reach.new.self.lists.items c.args.map c.args.pair c.index_mut.result.now c.push.new.self c.index_mut.ensures.value c.in_ok-reach.ensures.room c.in_ok-push.ensures.items other
    ∙ ap (λ l. if other == c.args.map then l ++ c.args.pair ∷ [] else l) (c.reach.ensures.same other)
