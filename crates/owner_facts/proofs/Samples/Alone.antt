-- What a call counts, and which tables were linked since it began, on cases worked by hand.
use Rattle.std.specs.Prelude.{◌-◌, ◌^◌}
use Rattle.std.proofs.Common.{◌≡◌, ◌<◌, true, refl, arith}
use Rattle.many_maps.specs.Given.RawDeclared.machines.answer.KeyAnswer.TheVariants.{Stored as StoredWord, Replaced as ReplacedWord, Removed as RemovedWord}
use Rattle.many_maps.specs.Given.RuleChart.{Chart}
use Rattle.many_maps.specs.Given.RuleWords.{Blocks}
use Rattle.owner_facts.specs.Alone.Counted.{counted_for}
use Rattle.owner_facts.specs.Alone.Values.{IsLinkedSince}

-- a stored pair counts one more, a removed one one less, and a replaced one nothing
one_more : counted_for (StoredWord 2048) ≡ 1
one_more = refl

one_less : counted_for (RemovedWord 2048) ≡ 2 ^ 64 - 1
one_less = refl

no_more : counted_for (ReplacedWord 2048 4096) ≡ 0
no_more = refl

-- the first table that is linked is among those that are
first_linked :
    {K : Type 0} (c0 c : Chart K) (blocks : Blocks) → c0.past < c.past → blocks.table_known c0.past ≡ true
    → IsLinkedSince c0 c blocks (blocks.table c0.past)
first_linked c0 c blocks more known = (c0.past, omega arith, more, known, refl)
