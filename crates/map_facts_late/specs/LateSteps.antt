-- What is promised of each step of a call in a table that the root has left, in blocking mode.
use Rattle.std.specs.Prelude.{◌≡◌, ℕ, Bool, false, Option, ◌⊎◌}
use Rattle.std.specs.Int.{IsPowerOfTwo}
use Rattle.map_facts.specs.Given.SeizeWordsMem.{Mem, Can, Took, value_at}
use Rattle.map_facts.specs.Given.SeizeWordsPlan.{May, Steps}
use Rattle.map_facts.specs.Given.SeizeWorld.{World}
use Rattle.map_facts.specs.Given.SeizeDeclared.advance.Advance.{Advance}
use Rattle.map_facts.specs.Given.TablesChunks.{is_incremental}
use Rattle.map_facts.specs.Given.TablesDeclared.node.Node.{Node}
use Rattle.map_facts.specs.Given.TablesDeclared.resize_mode.ResizeMode.{ResizeMode}
use Rattle.map_facts.specs.Given.TablesDeclared.setting.Setting.{Setting}
use Rattle.map_facts.specs.Given.TablesDeclared.table.Table.{Table}
use Rattle.map_facts.specs.Given.ResizeCopier.{copier_plan}
use Rattle.map_facts.specs.Given.ResizeLookup.{lookup_plan}
use Rattle.map_facts.specs.Given.ResizeDeclared.copier.Copier.{Copier}
use Rattle.map_facts.specs.Given.ResizeDeclared.lookup.Lookup.{Lookup}
use Rattle.map_facts.specs.Given.ResizeDeclared.yielding.Yielding.{Yielding}
use Rattle.map_facts.specs.Given.RawCall.{call_plan}
use Rattle.map_facts.specs.Given.RawDeclared.machines.answer.Called.{Called}
use Rattle.map_facts.specs.Given.RawDeclared.machines.call.KeyCall.{KeyCall}
use Rattle.map_facts.specs.Given.RuleChart.{Chart}
use Rattle.map_facts.specs.Given.RuleWords.{Blocks}
use Rattle.map_facts.specs.Given.RuleMaps.{IsClass, IsMap}
use Rattle.map_facts.specs.Given.RuleMoments.{Moments}
use Rattle.map_facts.specs.Given.RuleInWorld.{IsMapIn, StepSpec, SparesPairs}
use Rattle.map_facts.specs.Steps.{AreLawful}
use Rattle.map_facts.specs.FactsCalls.{Unchanged, CallFacts}
use Rattle.map_facts.specs.Told.{IsRowOfCall, IsRowOfCopier, HasAnswered}
use Rattle.map_facts.specs.Given.RawCallAsks.{replied}
use Rattle.map_facts.specs.Given.RawDeclared.machines.answer.KeyAnswer.{KeyAnswer}
use Rattle.map_facts.specs.Given.RawDeclared.machines.asking.MachineReply.{MachineReply}
use Rattle.map_facts_late.specs.Left.{ClaimsAreFew}
use Rattle.map_facts_late.specs.LateLooks.{SupersededLookupFacts}
use Rattle.map_facts_late.specs.LateCopies.{SupersededCopierFacts}
use Rattle.map_facts_late.specs.LateCalls.{SupersededCallFacts}
use Rattle.map_facts_late.specs.LateTold.{SupersededLookupOutcome, SupersededCopierOutcome, SupersededCallOutcome}

module _ {K : Type 0} (V : Type 0) (same : K → K → Bool) (hash : K → ℕ) where
  -- A lookup in a table that the root has left may take its step. It changes nothing, and ends with what was so since it began.
  abbrev pub SupersededLookupsAnswer : Type 0
  SupersededLookupsAnswer =
      AreLawful same hash → (mode : ResizeMode) → is_incremental mode ≡ false
      → (root : ℕ) (keys : K → Bool) (code began : ℕ) (m : Mem (Node K V)) (c : Chart K) (blocks : Blocks) (l : Lookup)
      → IsClass same hash keys code → IsMap same hash mode root m c blocks → Moments false c → SupersededLookupFacts same hash keys code c blocks began mode root l
      → May Can Took value_at m (lookup_plan keys l)
      × ((m2 : Mem (Node K V)) (end : Lookup × Advance (Option ℕ)) → Steps Took value_at m (lookup_plan keys l) m2 end
      → (m2 ≡ m) × SupersededLookupOutcome same hash mode root keys code c blocks began end)

  -- A copier of such a table may take its step, if that is none of a row of the collector, while claims are few. It makes one move at most, and the
  -- map stands where it leads. Pairs that callers made and have not linked are as they were.
  abbrev pub SupersededCopiersPreserveTheMap : Type 0
  SupersededCopiersPreserveTheMap =
      AreLawful same hash → (setting : Setting) → IsPowerOfTwo setting.initial → is_incremental setting.mode ≡ false
      → (w : World (Node K V)) (caller : ℕ) (c : Chart K) (blocks : Blocks) (began : ℕ) (p : Copier)
      → IsMapIn same hash setting w c blocks → Moments false c → ClaimsAreFew c → SupersededCopierFacts same hash w caller setting c blocks began p → (IsRowOfCopier p.stands → ⊥)
      → May Can Took value_at w.memory (copier_plan hash p)
      × ((m2 : Mem (Node K V)) (end : Copier × Yielding (Node K V) Table) → Steps Took value_at w.memory (copier_plan hash p) m2 end
      → StepSpec same hash setting caller w c blocks m2 (λ w2 c2 blocks2. SparesPairs w w2 × SupersededCopierOutcome same hash caller setting began w2 c2 blocks2 c end))

module _ {K Q : Type 0} (V : Type 0) (same : K → K → Bool) (hash : K → ℕ) (asks : Q → K → Bool) where
  -- So may a call that knows what it knows there. It changes no pair of the map, and answers what was so at a moment since it began.
  abbrev pub SupersededCallsPreserveTheMap : Type 0
  SupersededCallsPreserveTheMap =
      AreLawful same hash → (setting : Setting) → IsPowerOfTwo setting.initial
      → (w : World (Node K V)) (caller : ℕ) (c : Chart K) (blocks : Blocks) (keys : K → Bool) (began : ℕ) (p : KeyCall K V Q)
      → IsMapIn same hash setting w c blocks → Moments (is_incremental setting.mode) c → ClaimsAreFew c
      → SupersededCallFacts same hash asks w caller setting c blocks keys began p → (IsRowOfCall p.stands → ⊥)
      → May Can Took value_at w.memory (call_plan asks same hash p)
      × ((m2 : Mem (Node K V)) (p2 : KeyCall K V Q) (progress : Called (Node K V)) → Steps Took value_at w.memory (call_plan asks same hash p) m2 (p2, progress)
      → StepSpec same hash setting caller w c blocks m2 (λ w2 c2 blocks2. SupersededCallOutcome same hash asks caller setting keys began c p w2 c2 blocks2 p2 progress))

  -- A call that is told what it has asked there, or anything else, knows what its next point knows. What it is to answer then is what it has asked.
  abbrev pub SupersededRepliesAreTaken : Type 0
  SupersededRepliesAreTaken =
      AreLawful same hash
      → (setting : Setting) (w : World (Node K V)) (caller : ℕ) (c : Chart K) (blocks : Blocks) (keys : K → Bool) (began : ℕ) (p : KeyCall K V Q)
      → IsMapIn same hash setting w c blocks → SupersededCallFacts same hash asks w caller setting c blocks keys began p → (reply : MachineReply V)
      → (CallFacts same hash asks w caller setting c blocks keys Unchanged (replied p reply).0 ⊎ SupersededCallFacts same hash asks w caller setting c blocks keys began (replied p reply).0)
      × ((answer : KeyAnswer) → HasAnswered answer (replied p reply).0.stands → HasAnswered answer p.stands)
