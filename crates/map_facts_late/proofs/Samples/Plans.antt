-- Wrong plans of the map's machines: the laws refuse what their steps leave, wherever a map stands.
pub mod FewBlocks
use Rattle.std.specs.Prelude.{◌≡◌, ℕ, suc, ◌*◌, ◌<◌, ◌≤◌, Bool, true, cond, Some, IsSome, if◌then◌else◌}
use Rattle.std.proofs.Common.{refl, ap, sym, subst, ◌∙◌, arith, inl, inr}
use Rattle.std.proofs.lemmas.Bool.{ne_eqb}
use Rattle.std.proofs.Math.Logic.{⊎_elim}
use Rattle.map_facts.specs.Given.SeizeWordsDeclared.at.At.{At}
use Rattle.map_facts.specs.Given.SeizeWordsDeclared.at.At.TheVariants.{Root, Word}
use Rattle.map_facts.specs.Given.SeizeWordsMem.{Mem, Took, value_at, word_at, with_word}
use Rattle.map_facts.specs.Given.SeizeWordsOp.{Store, Exchange}
use Rattle.map_facts.specs.Given.SeizeWordsPlan.{Plan, Turn, Do, Now, Steps}
use Rattle.map_facts.proofs.Given.SeizeWordsOneOwner.AfterWrites.{word_at-with_word}
use Rattle.map_facts.proofs.Given.SeizeWordsOneOwner.Operations.{stored, exchanged}
use Rattle.map_facts.proofs.Given.SeizeMemoryWords.Named.{same_at-refl}
use Rattle.map_facts.specs.Given.SeizeWorld.{World}
use Rattle.map_facts.specs.Given.TablesChunks.{is_incremental}
use Rattle.map_facts.specs.Given.TablesTablePlaces.{at_word, at_place}
use Rattle.map_facts.specs.Given.TablesDeclared.node.Node.{Node}
use Rattle.map_facts.specs.Given.TablesDeclared.setting.Setting.{Setting}
use Rattle.map_facts.specs.Given.TablesDeclared.status.TheConstants.Status.{ABORTED, PROMOTED}
use Rattle.map_facts.specs.Given.TablesDeclared.table.Table.{Table}
use Rattle.map_facts.specs.Given.TablesDeclared.table_words.TheConstants.{STATUS}
use Rattle.map_facts.specs.Given.ResizeCopierStates.{standing}
use Rattle.map_facts.specs.Given.ResizeDeclared.copier.Copier.{Copier}
use Rattle.map_facts.specs.Given.ResizeDeclared.copier.Copying.TheVariants as copies
use Rattle.map_facts.specs.Given.RawCallPoints.{answered_with}
use Rattle.map_facts.specs.Given.RawDeclared.machines.answer.Called.{Called}
use Rattle.map_facts.specs.Given.RawDeclared.machines.answer.KeyAnswer.TheVariants as answers
use Rattle.map_facts.specs.Given.RawDeclared.machines.answer.Missing.TheVariants as missing
use Rattle.map_facts.specs.Given.RawDeclared.machines.answer.There.{There}
use Rattle.map_facts.specs.Given.RawDeclared.machines.asking.Takes.{Takes}
use Rattle.map_facts.specs.Given.RawDeclared.machines.call.KeyCall.{KeyCall}
use Rattle.map_facts.specs.Given.RuleChart.{Chart}
use Rattle.map_facts_late.specs.Kinds.{StepFits}
use Rattle.map_facts.specs.Given.RuleMoments.{Moments}
use Rattle.map_facts.specs.Given.RuleWords.{Blocks, root_word}
use Rattle.map_facts.specs.Given.RuleMaps.{IsTable}
use Rattle.map_facts.specs.Given.RuleInWorld.{IsMapIn, StepSpec}
use Rattle.map_facts.specs.Steps.{AreLawful}
use Rattle.map_facts_late.proofs.Known.Steps.{lasts_went, others_step}
use Rattle.map_facts.proofs.Given.RuleWords.TablesSeen.{block_of_link}

-- An insertion that answers that the key was missing, and that nothing changed, is refused by what an insertion may answer.
module _ {K V Q : Type 0} where
  none_is_absent : (present : There) (takes : Takes) (p : KeyCall K V Q) → StepFits present missing.Puts takes (answered_with p answers.Absent) → ⊥
  none_is_absent present takes p f = ⊎_elim (λ e. cc e) (λ asks. cc asks.0) f.1

  -- One answers so at once, and has not tried to store its pair.
  abbrev pub answers_at_once : KeyCall K V Q → Plan (Node K V) (KeyCall K V Q × Called (Node K V))
  answers_at_once p = Turn (Now (answered_with p answers.Absent))

  pub tries_nothing : (present : There) (takes : Takes) (p : KeyCall K V Q) (m m2 : Mem (Node K V)) (end : KeyCall K V Q × Called (Node K V)) → Steps Took value_at m (answers_at_once p) m2 end → StepFits present missing.Puts takes end → ⊥
  tries_nothing present takes p m m2 end s fits = none_is_absent present takes p (subst (StepFits present missing.Puts takes) s.1 fits)

  -- Another makes its exchange, and answers so whether that was lost or not.
  abbrev pub forgets_its_pair : KeyCall K V Q → Plan (Node K V) (KeyCall K V Q × Called (Node K V))
  forgets_its_pair p = Do (Exchange (at_place p.trial.table p.trial.probe.i) 0 p.own) (λ out. Now (answered_with p answers.Absent))

  pub stores_nothing : (present : There) (takes : Takes) (p : KeyCall K V Q) (m m2 : Mem (Node K V)) (end : KeyCall K V Q × Called (Node K V)) → Steps Took value_at m (forgets_its_pair p) m2 end → StepFits present missing.Puts takes end → ⊥
  stores_nothing present takes p m m2 end s fits = elim (exchanged m (λ out. Now (answered_with p answers.Absent)) (at_place p.trial.table p.trial.probe.i) 0 p.own m2 end s) as (λ _. ⊥) [
    | inl d ↦ none_is_absent present takes p (subst (StepFits present missing.Puts takes) d.3 fits)
    | inr d ↦ none_is_absent present takes p (subst (StepFits present missing.Puts takes) d.3 fits)
  ]

module _ {K V : Type 0} (p : Copier) where
  -- A copier that comes late writes the root once more: with a table before it.
  abbrev pub lowers : Plan (Node K V) (Copier × ℕ)
  lowers = Do (Store (Root p.setting.root) p.source.link) (λ out. Now (standing p copies.Announces, 0))

  -- A copier says that its target is given up, which was promoted.
  abbrev pub gives_up : Plan (Node K V) (Copier × ℕ)
  gives_up = Do (Store (at_word p.target STATUS) ABORTED) (λ out. Now (standing p copies.Aborts, 0))

module _ {T : Type 0} (m : Mem T) where
  -- what was written is there
  pub written : (at : At) (new : ℕ) → IsSome (word_at m at) → word_at (with_word m at new) at ≡ Some new
  written at new some = word_at-with_word m at new at some ∙ ap (λ (z : Bool). if z then Some new else word_at m at) (same_at-refl at)

  pub there : (at : At) (word : ℕ) → word_at m at ≡ Some word → IsSome (word_at m at)
  there at word e = rw e refl

module _ {K V : Type 0} (same : K → K → Bool) (hash : K → ℕ) (setting : Setting) (lawful : AreLawful same hash) (caller : ℕ) (w : World (Node K V)) (c : Chart K) (blocks : Blocks)
    (map : IsMapIn same hash setting w c blocks) (moments : Moments (is_incremental setting.mode) c) (p : Copier) (is : p.setting ≡ setting) (m2 : Mem (Node K V)) (end : Copier × ℕ)
    (Told : World (Node K V) → Chart K → Blocks → Type 0) (went : StepSpec same hash setting caller w c blocks m2 Told) where
  pub lowers_the_root : (t : ℕ) → IsTable c blocks p.source t → t < c.first → Steps Took value_at w.memory (lowers p) m2 end → ⊥
  lowers_the_root t table before s = omega (arith, before, lasts, same_turn)
    where
      lasts : c.first ≤ went.c2.first
      lasts = (lasts_went same hash setting lawful caller w c blocks map moments m2 Told went).first

      past : t < went.c2.past
      past = let l = (lasts_went same hash setting lawful caller w c blocks map moments m2 Told went).past in let made = table.made in omega (arith, l, made)

      rooted : went.c2.first < went.c2.past
      rooted = went.map.map.rule.common.rooted (omega (arith, past))

      root_there : word_at w.memory (Root p.setting.root) ≡ Some (root_word hash c blocks)
      root_there = ap (λ (x : Setting). word_at w.memory (Root x.root)) is ∙ map.map.shows.root_there

      now : word_at m2 (Root setting.root) ≡ Some (blocks.table t * 2048)
      now =
          let l = stored w.memory (λ out. Now (standing p copies.Announces, 0)) (Root p.setting.root) p.source.link m2 end s in
          ap (λ (x : Setting). word_at m2 (Root x.root)) (sym is) ∙ ap (λ (x : Mem (Node K V)). word_at x (Root p.setting.root)) l.0
          ∙ written w.memory (Root p.setting.root) p.source.link (there w.memory (Root p.setting.root) (root_word hash c blocks) root_there)
          ∙ ap (λ (x : Table). Some x.link) table.is

      root_is : root_word hash went.c2 went.blocks2 ≡ went.blocks2.table went.c2.first * 2048
      root_is = ap (λ (z : Bool). cond z 0 (went.blocks2.table went.c2.first * 2048)) (ne_eqb went.c2.past 0 (λ e. omega (arith, e, rooted)))

      both : went.blocks2.table went.c2.first * 2048 ≡ blocks.table t * 2048
      both = some_is (sym (ap Some root_is) ∙ sym went.map.map.shows.root_there ∙ ap (λ (x : Mem (Node K V)). word_at x (Root setting.root)) went.memory ∙ now)
        where
          some_is : {a b : ℕ} → Some a ≡ Some b → a ≡ b
          some_is e = cc e

      known : went.blocks2.table_known t ≡ true
      known = (went.blocks_same.tables t table.made table.known).1

      same_turn : went.c2.first ≡ t
      same_turn = went.map.map.shows.tables_apart went.c2.first t rooted past (went.map.map.shows.linked went.c2.first (omega arith) rooted) known
          ((let e : went.blocks2.table went.c2.first ≡ blocks.table t = omega (arith, both) in e) ∙ sym (went.blocks_same.tables t table.made table.known).0)

  pub aborts_a_promoted : (t : ℕ) → IsTable c blocks p.target t → c.status t ≡ PROMOTED → Steps Took value_at w.memory (gives_up p) m2 end → ⊥
  aborts_a_promoted t table promoted s = let a = aborted in let still = stays in cc (a, still)
    where
      stays : went.c2.status t ≡ PROMOTED
      stays = (others_step same hash setting lawful caller w c blocks map moments m2 Told went (suc caller) (λ e. omega (arith, e))).leaves.promoted t promoted

      stands : at_word p.target STATUS ≡ Word (blocks.table t) STATUS
      stands = ap (λ (x : Table). at_word x STATUS) table.is ∙ ap (λ (b : ℕ). Word b STATUS) (block_of_link (blocks.table t))

      past : t < went.c2.past
      past = let l = (lasts_went same hash setting lawful caller w c blocks map moments m2 Told went).past in let made = table.made in omega (arith, l, made)

      now : word_at m2 (Word (blocks.table t) STATUS) ≡ Some ABORTED
      now =
          let l = stored w.memory (λ out. Now (standing p copies.Aborts, 0)) (at_word p.target STATUS) ABORTED m2 end s in
          ap (λ (x : Mem (Node K V)). word_at x (Word (blocks.table t) STATUS)) (l.0 ∙ ap (λ (x : At). with_word w.memory x ABORTED) stands)
          ∙ written w.memory (Word (blocks.table t) STATUS) ABORTED (there w.memory (Word (blocks.table t) STATUS) (c.status t) (map.map.shows.tables t table.made table.known).status)

      aborted : went.c2.status t ≡ ABORTED
      aborted =
          let k = went.blocks_same.tables t table.made table.known in
          some_is (sym (went.map.map.shows.tables t past k.1).status ∙ ap (λ (b : ℕ). word_at went.w2.memory (Word b STATUS)) k.0 ∙ ap (λ (x : Mem (Node K V)). word_at x (Word (blocks.table t) STATUS)) went.memory ∙ now)
        where
          some_is : {a b : ℕ} → Some a ≡ Some b → a ≡ b
          some_is e = cc e
