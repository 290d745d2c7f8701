use Rattle.std.proofs.Common.{◌≡◌, [], ◌∷◌, ◌++◌}
use Rattle.seize_words.proofs.OneMemory.FreeGrown.{pushed-numbers}
use Rattle.seize_words.proofs.free_numbers.add_word.Goals as goal

pub returns-clause-same : goal.returns-clause-same
returns-clause-same c =
    let pushed : c.push.new.self.items ≡ c.args.nodes.now.items ++ 0 ∷ [] =
    c.in_ok-push.ensures.items in
    rw pushed (pushed-numbers c.args.first.now c.args.nodes.now.items)
