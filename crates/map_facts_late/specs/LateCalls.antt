-- What a call on one key knows in a table that the root has left, in blocking mode. It has changed nothing, and will not do so there.
use Rattle.std.specs.Prelude.{◌≡◌, ◌≢◌, ℕ, suc, ◌*◌, ◌<◌, ◌^◌, Bool, true, false, Some}
use Rattle.map_facts.specs.Given.SeizeWordsDeclared.at.At.TheVariants.{Root, Word}
use Rattle.map_facts.specs.Given.SeizeWorld.{World}
use Rattle.map_facts.specs.Given.TablesChunks.{is_incremental}
use Rattle.map_facts.specs.Given.TablesDeclared.node.Node.{Node}
use Rattle.map_facts.specs.Given.TablesDeclared.setting.Setting.{Setting}
use Rattle.map_facts.specs.Given.TablesDeclared.table_words.TheConstants.{NEXT}
use Rattle.map_facts.specs.Given.ResizeDeclared.new_table.NewTable.{NewTable}
use Rattle.map_facts.specs.Given.ResizeDeclared.new_table.Making.{Making as Point}
use Rattle.map_facts.specs.Given.ResizeDeclared.new_table.Making.TheVariants as makes
use Rattle.map_facts.specs.Given.RawDeclared.machines.answer.There.TheVariants as there
use Rattle.map_facts.specs.Given.RawDeclared.machines.answer.Missing.TheVariants as missing
use Rattle.map_facts.specs.Given.RawReplies.{value_for}
use Rattle.map_facts.specs.Given.RawDeclared.machines.asking.Asking.{Asking}
use Rattle.map_facts.specs.Given.RawDeclared.machines.asking.Asking.TheVariants as asking
use Rattle.map_facts.specs.Given.RawDeclared.machines.asking.Gap.{Gap}
use Rattle.map_facts.specs.Given.RawDeclared.machines.asking.Gap.TheVariants as gaps
use Rattle.map_facts.specs.Given.RawDeclared.machines.call.KeyCall.{KeyCall}
use Rattle.map_facts.specs.Given.RawDeclared.machines.call.Calling.{Calling}
use Rattle.map_facts.specs.Given.RawDeclared.machines.call.Calling.TheVariants as at
use Rattle.map_facts.specs.Given.RuleChart.{Chart}
use Rattle.map_facts.specs.Given.RuleWords.{Blocks}
use Rattle.map_facts.specs.Given.RuleMaps.{IsTable, IsClass}
use Rattle.map_facts.specs.FactsCalls.{MayAsk, Unchanged, ByReply, holding, HasIts, NamesPair, MayReplace, MayTry, IsToFill}
use Rattle.map_facts.specs.FactsCopiesBlocking.{HasNoShares}
use Rattle.map_facts.specs.FactsTables.{IsOwnTable, IsPlanned, NewTableFacts, first_status}
use Rattle.map_facts_late.specs.Left.{Left}
use Rattle.map_facts_late.specs.LateLooks.{IsSupersededTrial, SupersededLookupFacts}
use Rattle.map_facts_late.specs.LateCopies.{SupersededCopierFacts}

module _ {K V : Type 0} (w : World (Node K V)) (caller : ℕ) (setting : Setting) (c : Chart K) (blocks : Blocks) (began : ℕ) where
  -- A making of the first table that came too late: it has found another one there, which the root has left since.
  abbrev pub SupersededFirst : Point → Type 0
  SupersededFirst (makes.Drops table found) =
      IsOwnTable w caller table (first_status (Root setting.root)) × IsPlanned table 0
      × (u : ℕ) × Left c began u × (u < c.past) × (blocks.table_known u ≡ true) × (found ≡ blocks.table u * 2048)
  SupersededFirst (makes.Over table) = (u : ℕ) × IsTable c blocks table u × Left c began u
  SupersededFirst _ = ⊥

  pub record SupersededFirstFacts (n : NewTable) : Type 0 where
    pub setting_is : n.setting ≡ setting
    pub link_is : n.link ≡ Root setting.root
    pub point : SupersededFirst n.stands

module _ {K V Q : Type 0} (same : K → K → Bool) (hash : K → ℕ) (asks : Q → K → Bool) (w : World (Node K V)) (caller : ℕ) (setting : Setting) (c : Chart K) (blocks : Blocks)
    (keys : K → Bool) (began : ℕ) where
  -- what a call has of its own, or is asked with
  abbrev pub Its : KeyCall K V Q → Type 0
  Its p = HasIts same hash asks w caller setting c blocks keys Unchanged p

  -- where the key is missing
  abbrev pub SupersededGap : KeyCall K V Q → Gap → Type 0
  SupersededGap p gaps.Free = IsSupersededTrial same hash keys p.hash c blocks began p.trial
  SupersededGap p gaps.Past = (t : ℕ) × IsTable c blocks p.trial.table t × Left c began t
  SupersededGap p _ = ⊥

  -- where it asks, or goes by what it was told
  abbrev pub SupersededAsking : KeyCall K V Q → Asking → Type 0
  SupersededAsking p (asking.Absent gap) = Its p × (p.missing ≡ missing.Asks) × SupersededGap p gap
  SupersededAsking p (asking.Present word) =
      Its p × (p.there ≡ there.Asks) × NamesPair same hash asks w caller setting c blocks keys Unchanged word × IsSupersededTrial same hash keys p.hash c blocks began p.trial
  SupersededAsking p (asking.Fills word) =
      IsToFill same hash asks w caller setting c blocks keys Unchanged p × (holding p.replies.takes p.missing ≡ ByReply) × ((v : V) × (value_for p.replies word ≡ Some v))
      × MayReplace same hash asks w caller setting c blocks keys Unchanged word × IsSupersededTrial same hash keys p.hash c blocks began p.trial
  SupersededAsking p (asking.GivesUp word) =
      Its p × (holding p.replies.takes p.missing ≡ ByReply) × (p.own ≢ 0) × NamesPair same hash asks w caller setting c blocks keys Unchanged word
      × IsSupersededTrial same hash keys p.hash c blocks began p.trial

  -- what it knows at a point
  abbrev pub SupersededCalling : KeyCall K V Q → Calling → Type 0
  SupersededCalling p (at.Looks lookup) =
      (p.own ≡ 0) × (p.missing ≡ missing.Answers) × (p.there ≡ there.Answers) × (q : Q) × (p.asked ≡ Some q) × ((k : K) → asks q k ≡ keys k)
      × SupersededLookupFacts same hash keys p.hash c blocks began setting.mode setting.root lookup
  SupersededCalling p at.Probes = Its p × IsSupersededTrial same hash keys p.hash c blocks began p.trial
  SupersededCalling p (at.Tries word new) =
      Its p × IsSupersededTrial same hash keys p.hash c blocks began p.trial × MayTry same hash asks w caller setting c blocks keys Unchanged p word new
  SupersededCalling p at.Nexts = Its p × (t : ℕ) × IsTable c blocks p.trial.table t × Left c began t
  SupersededCalling p (at.Firsts making) = Its p × (p.missing ≢ missing.Answers) × SupersededFirstFacts w caller setting c blocks began making
  SupersededCalling p (at.Allocs making) =
      Its p × (t : ℕ) × IsTable c blocks p.trial.table t × Left c began t × NewTableFacts w caller setting c blocks (Word (blocks.table t) NEXT) (suc t) making
  SupersededCalling p (at.Copies copier) = Its p × SupersededCopierFacts same hash w caller setting c blocks began copier
  SupersededCalling p (at.Asks asks_at) = SupersededAsking p asks_at
  SupersededCalling p _ = ⊥

  -- what it knows where it stands
  pub record SupersededCallFacts (p : KeyCall K V Q) : Type 0 where
    pub blocking : is_incremental setting.mode ≡ false
    pub setting_is : p.setting ≡ setting
    pub may : MayAsk p
    pub code : p.hash < 2 ^ 64
    pub class : IsClass same hash keys p.hash
    pub idle : HasNoShares same hash w caller setting c blocks
    pub point : SupersededCalling p p.stands
