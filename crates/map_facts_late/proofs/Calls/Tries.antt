-- A call reads the word of its try, or tries to replace it, in a table that the root has left: all that stands there is marked.
use Rattle.std.specs.Prelude.{◌≡◌, ℕ, ◌^◌, ◌<◌, Bool, true, false, Some}
use Rattle.std.proofs.Common.{ap, subst, ◌∙◌, inl, inr}
use Rattle.map_facts.specs.Given.SeizeWordsMem.{Mem, value_at, word_at, Took}
use Rattle.map_facts.specs.Given.SeizeWordsPlan.{Steps}
use Rattle.map_facts.proofs.Given.SeizeWordsOneOwner.Operations.{exchanged}
use Rattle.map_facts.specs.Given.SeizeWorld.{World}
use Rattle.map_facts.specs.Given.TablesChunks.{is_incremental}
use Rattle.map_facts.specs.Given.TablesMarks.{has_mark}
use Rattle.map_facts.specs.Given.TablesTrials.{place_tried}
use Rattle.map_facts.specs.Given.TablesDeclared.marks.TheConstants.{COPYING}
use Rattle.map_facts.specs.Given.TablesDeclared.node.Node.{Node}
use Rattle.map_facts.specs.Given.TablesDeclared.setting.Setting.{Setting}
use Rattle.map_facts.specs.Given.RawCall.{probes, tries, tried}
use Rattle.map_facts.specs.Given.RawDeclared.machines.answer.Called.{Called}
use Rattle.map_facts.specs.Given.RawDeclared.machines.call.KeyCall.{KeyCall}
use Rattle.map_facts.specs.Given.RuleChart.{Still, Holds, Chart}
use Rattle.map_facts.specs.Given.RuleRule.{IsLawful, Passed, Rule}
use Rattle.map_facts.specs.Given.RuleWords.{Blocks, byte_of}
use Rattle.map_facts.specs.Given.RuleMaps.{spot_at, spot_of, IsTrial}
use Rattle.map_facts.specs.Given.RuleInWorld.{IsMapIn}
use Rattle.map_facts.specs.Given.RuleMoments.{Moments}
use Rattle.map_facts.proofs.Given.RuleWords.PlaceWordsMarks.{has_copying}
use Rattle.map_facts.proofs.Given.RuleKeys.TriesSeen.{spot_inside}
use Rattle.map_facts.specs.FactsCalls.{Unchanged, NamesPair, MayTry}
use Rattle.map_facts.proofs.Calls.CallsOn.{Seeking}
use Rattle.map_facts.proofs.Calls.Probes.{probes_tell, read_tells}
use Rattle.map_facts.proofs.Calls.Tries.{found_is}
use Rattle.map_facts_late.specs.Left.{Left}
use Rattle.map_facts_late.proofs.Calls.LatesOn.{LateComes}
use Rattle.map_facts_late.proofs.Calls.Found.{told_comes_late}

module _ {K V Q : Type 0} (same : K → K → Bool) (hash : K → ℕ) (asks : Q → K → Bool) (caller : ℕ) (setting : Setting) (alone : is_incremental setting.mode ≡ false) (keys : K → Bool) (began : ℕ)
    (lawful : IsLawful same (spot_of hash)) (fits : (k : K) → hash k < 2 ^ 64)
    (w : World (Node K V)) (c : Chart K) (blocks : Blocks) (map : IsMapIn same hash setting w c blocks) (moments : Moments false c) (p : KeyCall K V Q)
    (s : Seeking same hash asks caller setting keys w c blocks p)
    (t j : ℕ) (trial : IsTrial c blocks p.trial p.hash t j) (before : (k : K) → keys k ≡ true → Passed same (spot_of hash) false c t k j) (left : Left c began t) where
  abbrev Late : KeyCall K V Q × Called (Node K V) → Type 0
  Late end = LateComes same hash asks caller setting alone keys began w c blocks end

  pub went_probes : (m2 : Mem (Node K V)) (end : KeyCall K V Q × Called (Node K V)) → Steps Took value_at w.memory (probes asks same p) m2 end
      → (m2 ≡ w.memory) × LateComes same hash asks caller setting alone keys began w c blocks end
  went_probes =
      probes_tell same hash asks caller setting keys fits w c blocks map p s t j trial Late
      (told_comes_late same hash asks caller setting alone keys began lawful fits w c blocks map moments p s t j trial before left)

  rule : Rule same (spot_of hash) false c
  rule = subst (λ (b : Bool). Rule same (spot_of hash) b c) alone map.map.rule

  -- the place of the try is marked, and so is its word
  marked : (found : ℕ) → word_at w.memory (place_tried p.trial) ≡ Some found → has_mark found COPYING ≡ true
  marked found read =
      ap (λ (x : ℕ). has_mark x COPYING) (found_is same hash asks caller setting keys lawful fits w c blocks map p s t j trial found read)
      ∙ has_copying blocks.pair (λ n. byte_of hash (c.key n)) (c.place t (spot_at (c.len t) p.hash j))
      ∙ rule.in_mode.left t (spot_at (c.len t) p.hash j) left.behind left.was_root (spot_inside (c.len t) p.hash j (rule.common.lens t trial.table.made).0)

  module _ (word new : ℕ) (may : MayTry same hash asks w caller setting c blocks keys Unchanged p word new) where
    -- it expects a word without the mark
    unmarked : has_mark word COPYING ≡ false
    unmarked = by may
      where
        bare : NamesPair same hash asks w caller setting c blocks keys Unchanged word → has_mark word COPYING ≡ false
        bare (n, k, borrowed, was, known, key, asked, is) = ap (λ (x : ℕ). has_mark x COPYING) is ∙ has_copying blocks.pair (λ n. byte_of hash (c.key n)) (Holds n Still borrowed)

        by : MayTry same hash asks w caller setting c blocks keys Unchanged p word new → has_mark word COPYING ≡ false
        by (inl (new_is, own, inl is)) = ap (λ (x : ℕ). has_mark x COPYING) is
        by (inl (new_is, own, inr names)) = bare names
        by (inr (new_is, none, names)) = bare names

    -- so it fails
    pub went_tries : (m2 : Mem (Node K V)) (end : KeyCall K V Q × Called (Node K V)) → Steps Took value_at w.memory (tries asks same p word new) m2 end
        → (m2 ≡ w.memory) × LateComes same hash asks caller setting alone keys began w c blocks end
    went_tries m2 end steps =
        elim (exchanged w.memory (tried asks same p word new) (place_tried p.trial) word new m2 end steps)
        as (λ _. (m2 ≡ w.memory) × LateComes same hash asks caller setting alone keys began w c blocks end) [
          | inl d ↦ absurd (let here = marked d.0 d.1.0 in let is = d.1.1 in let none = unmarked in cc (here, none, ap (λ (x : ℕ). has_mark x COPYING) is))
          | inr d ↦ (
            d.2,
            read_tells same hash asks caller setting keys fits w c blocks map p s t j trial Late
                (told_comes_late same hash asks caller setting alone keys began lawful fits w c blocks map moments p s t j trial before left) false d.0
                (found_is same hash asks caller setting keys lawful fits w c blocks map p s t j trial d.0 d.1.0) end d.3,
          )
        ]
