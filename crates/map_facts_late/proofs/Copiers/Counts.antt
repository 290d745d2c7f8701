-- A copier whose source the root has left counts what it copied, or gives its target up, which was aborted.
use Rattle.std.specs.Prelude.{Some}
use Rattle.std.proofs.Common.{◌≡◌, ◌≢◌, ℕ, ◌+◌, ◌%◌, ◌^◌, ◌==◌, Bool, true, false, cond, ◌⊎◌, inl, inr, refl, ap, sym, ◌∙◌, arith}
use Rattle.std.proofs.lemmas.Bool.{ne_eqb, le-ltb}
use Rattle.map_facts.specs.Given.SeizeWordsDeclared.at.At.{At}
use Rattle.map_facts.specs.Given.SeizeWordsMem.{Mem, Took, value_at, word_at, with_word}
use Rattle.map_facts.specs.Given.SeizeWordsOp.{Add, Found}
use Rattle.map_facts.specs.Given.SeizeWordsPlan.{Steps}
use Rattle.map_facts.proofs.Given.SeizeWordsOneOwner.Operations.{added, stored}
use Rattle.map_facts.proofs.Given.SeizeWordsPlans.{ends_if}
use Rattle.map_facts.specs.Given.SeizeWorld.{World}
use Rattle.map_facts.specs.Given.TablesChunks.{is_incremental}
use Rattle.map_facts.specs.Given.TablesTablePlaces.{at_word}
use Rattle.map_facts.specs.Given.TablesDeclared.node.Node.{Node}
use Rattle.map_facts.specs.Given.TablesDeclared.setting.Setting.{Setting}
use Rattle.map_facts.specs.Given.TablesDeclared.status.TheConstants.Status.{ABORTED}
use Rattle.map_facts.specs.Given.TablesDeclared.table.Table.{Table}
use Rattle.map_facts.specs.Given.TablesDeclared.table_words.TheConstants.{COPIED, STATUS}
use Rattle.map_facts.specs.Given.ResizeCopierCounts.{counts, counted}
use Rattle.map_facts.specs.Given.ResizeCopierFurther.{aborts, to}
use Rattle.map_facts.specs.Given.ResizeCopierStates.{standing, behind}
use Rattle.map_facts.specs.Given.ResizeDeclared.copier.Copier.{Copier}
use Rattle.map_facts.specs.Given.ResizeDeclared.copier.Copying.TheVariants as at
use Rattle.map_facts.specs.Given.ResizeDeclared.yielding.Yielding.{Yielding}
use Rattle.map_facts.specs.Given.ResizeDeclared.yielding.Yielding.TheVariants.{Goes}
use Rattle.map_facts.specs.Given.RuleChart.{Chart}
use Rattle.map_facts.specs.Given.RuleInWorld.{IsMapIn}
use Rattle.map_facts.specs.Given.RuleMaps.{spot_of}
use Rattle.map_facts.specs.Given.RuleMoves.{counted_to, Counts, is_of_caller, after}
use Rattle.map_facts.specs.Given.RuleRule.{IsLawful}
use Rattle.map_facts.specs.Given.RuleWords.{Blocks, Represents}
use Rattle.map_facts.proofs.Given.RuleWords.OwnWords.{own_at_word}
use Rattle.map_facts.proofs.Given.RuleWords.TablesSeen.{word_stands}
use Rattle.map_facts.proofs.Given.RuleWords.WrittenAgain.{written_again}
use Rattle.map_facts.proofs.Given.RuleWorld.Hands.{Hands}
use Rattle.map_facts.specs.FactsCopiesBlocking.{HasNoShares}
use Rattle.map_facts.proofs.Blocking.Targets.{copied_is, copied_shows}
use Rattle.map_facts_late.specs.LateCopies.{CopiesSuperseded, CopiesAborted, SupersededCopying}
use Rattle.map_facts_late.proofs.Copiers.LateWent.{LateCame, late_goes, late_wrote, late_again, late_on}
use Rattle.map_facts.proofs.Given.General.{some_is as is_some_of}

module _ {K V : Type 0} (same : K → K → Bool) (hash : K → ℕ) (caller : ℕ) (setting : Setting) (began : ℕ) (w : World (Node K V)) (c : Chart K) (blocks : Blocks)
    (map : IsMapIn same hash setting w c blocks) (p : Copier) (setting_is : p.setting ≡ setting) (u t : ℕ)
    (aborted : CopiesAborted same hash w caller setting c blocks began p u t) where
  abbrev late : CopiesSuperseded same hash w caller setting c blocks began p u t
  late = aborted.0

  copied_here : word_at w.memory (at_word p.target COPIED) ≡ Some (c.copied t)
  copied_here = copied_is same hash setting w c blocks map p t late.target

  -- what the word comes to
  abbrev count_then : ℕ
  count_then = (c.copied t + p.done) % 2 ^ 64

  abbrev counted_chart : Chart K
  counted_chart = after (spot_of hash) false (Counts caller t count_then) c

  abbrev counted_memory : Mem (Node K V)
  counted_memory = with_word w.memory (at_word p.target COPIED) count_then

  -- of a table that the root has come to, so many are counted then
  counted_is : counted_to c t count_then ≡ count_then
  counted_is = ap (λ (b : Bool). cond b (c.copied t + count_then) count_then) (le-ltb c.first t late.over)

  counted_shows : Represents hash counted_memory counted_chart blocks setting.root
  counted_shows = copied_shows same hash setting w c blocks map p t late.target count_then (counted_to c t count_then) counted_is counted_chart.share

  hands : Hands same hash setting w counted_chart blocks
  hands = record { tables = map.tables; pairs = map.pairs; named = map.named; tables_out = map.tables_out; pairs_out = map.pairs_out }

  no_shares : HasNoShares same hash (record w { memory = counted_memory }) caller setting counted_chart blocks
  no_shares v j behind =
      let other : v ≢ t = (λ e. let over = late.over in omega (arith, behind, e, over)) in
      ap (is_of_caller caller) (rw (ne_eqb v t other) refl) ∙ late.idle v j behind

  on : (q : Copier) → q.source ≡ p.source → q.target ≡ p.target → q.whole ≡ p.whole
      → CopiesSuperseded same hash (record w { memory = counted_memory }) caller setting counted_chart blocks began q u t
  on q source target whole =
      late_again same hash caller setting began w (record w { memory = counted_memory }) c counted_chart blocks refl refl refl refl refl refl refl p q source
      target whole u t no_shares late

  pub went_count : IsLawful same (spot_of hash) → is_incremental setting.mode ≡ false → (m2 : Mem (Node K V)) (end : Copier × Yielding (Node K V) Table)
      → Steps Took value_at w.memory (counts p) m2 end → LateCame same hash caller setting began w c blocks m2 end
  went_count lawful blocking m2 end s =
      let add = added w.memory (counted p) (at_word p.target COPIED) p.done m2 end s in
      by_count add.0 (cc (add.1, copied_here)) add.2
      (ends_if (value_at (with_word w.memory (at_word p.target COPIED) ((add.0 + p.done) % 2 ^ 64))) ((add.0 + p.done) % 2 ^ 64 == p.source.len) _ _ end add.3)
    where
      behind_is : behind (record p { done = 0 }) ≡ record p { place = 0; end = 0; done = 0; spent = is_incremental p.setting.mode; stands = at.Asks }
      behind_is = rw late.whole refl

      by_count : (count : ℕ) → count ≡ c.copied t → m2 ≡ with_word w.memory (at_word p.target COPIED) ((count + p.done) % 2 ^ 64)
          → ((((count + p.done) % 2 ^ 64 == p.source.len) ≡ true) × (end ≡ (record p { place = 0; end = 0; done = 0; stands = at.Promotes }, Goes)))
          ⊎ ((((count + p.done) % 2 ^ 64 == p.source.len) ≡ false) × (end ≡ (behind (record p { done = 0 }), Goes)))
          → LateCame same hash caller setting began w c blocks m2 end
      by_count count e m2_is ends =
          elim ends as (λ _. LateCame same hash caller setting began w c blocks m2 end) [
            | inl full ↦ wrote (record p { place = 0; end = 0; done = 0; stands = at.Promotes }) full.1 setting_is
                (u, t, on (record p { place = 0; end = 0; done = 0; stands = at.Promotes }) refl refl refl)
            | inr rest ↦ wrote (record p { place = 0; end = 0; done = 0; spent = is_incremental p.setting.mode; stands = at.Asks })
                (rest.1 ∙ ap (λ (q : Copier). (q, Goes)) behind_is) setting_is
                (u, t, on (record p { place = 0; end = 0; done = 0; spent = is_incremental p.setting.mode; stands = at.Asks }) refl refl refl)
          ]
        where
          wrote : (q : Copier) → end ≡ (q, Goes) → q.setting ≡ setting
              → SupersededCopying same hash (record w { memory = counted_memory }) caller setting counted_chart blocks began q q.stands
              → LateCame same hash caller setting began w c blocks m2 end
          wrote q ends q_setting point =
              late_wrote same hash caller setting began w c blocks map lawful blocking (Counts caller t count_then)
              (late.target.made, λ l. let over = late.over in absurd (omega (arith, l, over))) (λ i is. sym is) late.target.known
              (Add (at_word p.target COPIED) p.done) (Found (c.copied t)) (at_word p.target COPIED) count_then
              (own_at_word same hash setting w c blocks map caller p.target t COPIED late.target (omega arith)) (is_some_of _ _ copied_here)
              m2 copied_here (rw (sym e) m2_is) refl refl counted_shows hands refl end q ends q_setting point

  -- it has this status
  same_memory : with_word w.memory (at_word p.target STATUS) ABORTED ≡ w.memory
  same_memory =
      ap (λ (x : At). with_word w.memory x ABORTED) (word_stands hash w.memory c blocks setting.root map.map.shows p.target t late.target STATUS)
      ∙ written_again w.memory (blocks.table t) STATUS ABORTED ((map.map.shows.tables t late.target.made late.target.known).status ∙ ap Some aborted.1)

  pub went_abort : (m2 : Mem (Node K V)) (end : Copier × Yielding (Node K V) Table) → Steps Took value_at w.memory (aborts p) m2 end
      → LateCame same hash caller setting began w c blocks m2 end
  went_abort m2 end s =
      let store = stored w.memory (λ out. to (standing p at.Replaces)) (at_word p.target STATUS) ABORTED m2 end s in
      late_goes same hash caller setting began w c blocks map m2 end (standing p at.Replaces) (store.0 ∙ same_memory) store.1 setting_is (
        u,
        t,
        (late_on same hash caller setting began w c blocks p (standing p at.Replaces) refl refl refl u t late, aborted.1),
      )
