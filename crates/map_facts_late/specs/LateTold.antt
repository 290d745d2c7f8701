-- What a step tells that is taken in a table that the root has left, in blocking mode.
use Rattle.std.specs.Prelude.{◌≡◌, ℕ, Bool, Option, Some, None, ◌⊎◌}
use Rattle.map_facts.specs.Given.SeizeWorld.{World}
use Rattle.map_facts.specs.Given.SeizeDeclared.advance.Advance.{Advance}
use Rattle.map_facts.specs.Given.SeizeDeclared.advance.Advance.TheVariants as progress
use Rattle.map_facts.specs.Given.TablesDeclared.node.Node.{Node}
use Rattle.map_facts.specs.Given.TablesDeclared.resize_mode.ResizeMode.{ResizeMode}
use Rattle.map_facts.specs.Given.TablesDeclared.setting.Setting.{Setting}
use Rattle.map_facts.specs.Given.TablesDeclared.table.Table.{Table}
use Rattle.map_facts.specs.Given.ResizeDeclared.copier.Copier.{Copier}
use Rattle.map_facts.specs.Given.ResizeDeclared.lookup.Lookup.{Lookup}
use Rattle.map_facts.specs.Given.ResizeDeclared.yielding.Yielding.{Yielding}
use Rattle.map_facts.specs.Given.ResizeDeclared.yielding.Yielding.TheVariants as outcome
use Rattle.map_facts.specs.Given.RawDeclared.machines.answer.Called.{Called}
use Rattle.map_facts.specs.Given.RawDeclared.machines.answer.Called.TheVariants as called
use Rattle.map_facts.specs.Given.RawDeclared.machines.answer.KeyAnswer.{KeyAnswer}
use Rattle.map_facts.specs.Given.RawDeclared.machines.answer.KeyAnswer.TheVariants as answers
use Rattle.map_facts.specs.Given.RawDeclared.machines.call.KeyCall.{KeyCall}
use Rattle.map_facts.specs.Given.RuleChart.{Chart}
use Rattle.map_facts.specs.Given.RuleWords.{Blocks}
use Rattle.map_facts.specs.Given.RuleMaps.{IsTable}
use Rattle.map_facts.specs.FactsCalls.{IsCopying, Unchanged, CallFacts}
use Rattle.map_facts.specs.FactsCopiesBlocking.{HasNoShares, CopierFactsBlocking}
use Rattle.map_facts.specs.Told.{HasAnswered, MovedBesideCopying}
use Rattle.map_facts_late.specs.Was.{SoSince}
use Rattle.map_facts_late.specs.Left.{Entered}
use Rattle.map_facts_late.specs.LateLooks.{SupersededLookupFacts}
use Rattle.map_facts_late.specs.LateCopies.{SupersededCopierFacts}
use Rattle.map_facts_late.specs.LateCalls.{SupersededCallFacts}

-- the answer of a lookup, as that of a call
abbrev pub answer_of : Option ℕ → KeyAnswer
answer_of (Some word) = answers.Found word
answer_of None = answers.Absent

module _ {K : Type 0} (same : K → K → Bool) (hash : K → ℕ) (mode : ResizeMode) (root : ℕ) (keys : K → Bool) (code : ℕ) (c : Chart K) (blocks : Blocks) (began : ℕ) where
  -- a lookup stays in its table, and ends with what was so as the root left it
  abbrev pub SupersededLookupOutcome : Lookup × Advance (Option ℕ) → Type 0
  SupersededLookupOutcome (l, progress.Goes) = SupersededLookupFacts same hash keys code c blocks began mode root l
  SupersededLookupOutcome (l, progress.Waits) = ⊥
  SupersededLookupOutcome (l, progress.Done found) = SoSince hash c blocks keys began (answer_of found)
  SupersededLookupOutcome (l, progress.Refused fault) = ⊥

module _ {K V : Type 0} (same : K → K → Bool) (hash : K → ℕ) (caller : ℕ) (setting : Setting) (began : ℕ) (w : World (Node K V)) (c : Chart K) (blocks : Blocks) where
  -- a copier ends with a table that is the root's, or was since its call began, and has no part in a copying then
  abbrev pub SupersededCopierAfter : Copier × Yielding (Node K V) Table → Type 0
  SupersededCopierAfter (p, outcome.Goes) = CopierFactsBlocking same hash w caller setting c blocks p ⊎ SupersededCopierFacts same hash w caller setting c blocks began p
  SupersededCopierAfter (p, outcome.Waits) = SupersededCopierFacts same hash w caller setting c blocks began p
  SupersededCopierAfter (p, outcome.Gave value) = ⊥
  SupersededCopierAfter (p, outcome.Done table) = ((t : ℕ) × IsTable c blocks table t × Entered c began t) × HasNoShares same hash w caller setting c blocks
  SupersededCopierAfter (p, outcome.Refused fault) = HasNoShares same hash w caller setting c blocks

  -- it changes none of the pairs that the map has
  abbrev pub SupersededCopierOutcome : Chart K → Copier × Yielding (Node K V) Table → Type 0
  SupersededCopierOutcome before end = SupersededCopierAfter end × (c.current ≡ before.current)

module _ {K V Q : Type 0} (same : K → K → Bool) (hash : K → ℕ) (asks : Q → K → Bool) (caller : ℕ) (setting : Setting) (keys : K → Bool) (began : ℕ) where
  -- it goes on there, or in the root's table; at its end it has no part in a copying
  abbrev pub SupersededCallAfter : World (Node K V) → Chart K → Blocks → KeyCall K V Q → Called (Node K V) → Type 0
  SupersededCallAfter w c blocks p (called.Done answer) = HasAnswered answer p.stands × HasNoShares same hash w caller setting c blocks
  SupersededCallAfter w c blocks p (called.Gave value) = ⊥
  SupersededCallAfter w c blocks p (called.Refused fault) = HasNoShares same hash w caller setting c blocks
  SupersededCallAfter w c blocks p progress =
      CallFacts same hash asks w caller setting c blocks keys Unchanged p ⊎ SupersededCallFacts same hash asks w caller setting c blocks keys began p

  -- A call changes no pair of the map there. What it answers or asks was so at a moment since it began.
  pub record SupersededCallOutcome (c : Chart K) (p : KeyCall K V Q) (w2 : World (Node K V)) (c2 : Chart K) (blocks2 : Blocks) (p2 : KeyCall K V Q) (progress : Called (Node K V)) : Type 0 where
    pub facts : SupersededCallAfter w2 c2 blocks2 p2 progress
    pub same_pairs : c2.current ≡ c.current
    pub beside : (IsCopying p.stands → ⊥) → MovedBesideCopying hash setting.mode c c2
    pub answers : (answer : KeyAnswer) → HasAnswered answer p2.stands → (HasAnswered answer p.stands → ⊥) → SoSince hash c2 blocks2 keys began answer
