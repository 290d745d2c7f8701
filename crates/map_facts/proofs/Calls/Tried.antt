-- A call tries to replace the word of its try.
use Rattle.std.specs.Prelude.{◌≡◌, ℕ, ◌^◌, ◌<◌, Bool, false, Some}
use Rattle.std.proofs.Common.{ap, sym, ◌∙◌, inl, inr}
use Rattle.map_rule.specs.Given.SeizeWordsMem.{Mem, value_at, word_at, with_word, Took}
use Rattle.map_rule.specs.Given.SeizeWordsPlan.{Steps}
use Rattle.map_rule.proofs.Given.SeizeWordsOneOwner.Operations.{exchanged}
use Rattle.papaya_raw.specs.Given.SeizeWorld.{World}
use Rattle.papaya_raw.specs.Given.TablesChunks.{is_incremental}
use Rattle.papaya_raw.specs.Call.{tries, tried}
use Rattle.papaya_raw.specs.CallPoints.{changed}
use Rattle.papaya_raw.specs.Given.TablesTrials.{place_tried}
use Rattle.papaya_raw.specs.Given.TablesDeclared.marks.TheConstants.{TOMBSTONE}
use Rattle.papaya_raw.specs.Given.TablesDeclared.node.Node.{Node}
use Rattle.papaya_raw.specs.Given.TablesDeclared.setting.Setting.{Setting}
use Rattle.papaya_raw.specs.declared.machines.answer.Called.{Called}
use Rattle.papaya_raw.specs.declared.machines.call.KeyCall.{KeyCall}
use Rattle.map_rule.specs.Chart.{Empty, Chart}
use Rattle.map_rule.specs.Rule.{IsLawful}
use Rattle.map_rule.specs.Words.{Blocks, byte_of}
use Rattle.map_rule.specs.Maps.{spot_at, spot_of, IsTrial, NoneBefore}
use Rattle.map_rule.specs.InWorld.{IsMapIn}
use Rattle.map_facts.specs.FactsCalls.{Change, Unchanged, MayTry, CallFacts}
use Rattle.map_rule.proofs.Words.PlaceWordsRead.{word-empty}
use Rattle.map_rule.proofs.Words.PlacesShown.{shown_block, are_stored}
use Rattle.map_facts.proofs.Calls.CallsOn.{Seeking}
use Rattle.map_facts.proofs.Calls.Makes.{CallWent, by_end, still}
use Rattle.map_facts.proofs.Calls.Probes.{read_comes}
use Rattle.map_facts.proofs.Calls.Tries.{found_is}
use Rattle.map_facts.proofs.Calls.Stores.{went_stores}
use Rattle.map_facts.proofs.Calls.Replaces.{went_replaces}
use Rattle.map_facts.proofs.Calls.Removes.{went_removes}

module _ {K V Q : Type 0} (same : K → K → Bool) (hash : K → ℕ) (asks : Q → K → Bool) (caller : ℕ) (setting : Setting) (keys : K → Bool)
    (lawful : IsLawful same (spot_of hash)) (fits : (k : K) → hash k < 2 ^ 64)
    (w : World (Node K V)) (c : Chart K) (blocks : Blocks) (map : IsMapIn same hash setting w c blocks) (p : KeyCall K V Q)
    (s : Seeking same hash asks caller setting keys w c blocks p)
    (t j : ℕ) (trial : IsTrial c blocks p.trial p.hash t j) (none : NoneBefore same hash (is_incremental setting.mode) c keys t j)
    (root : is_incremental setting.mode ≡ false → t ≡ c.first) where
  module _ (word new : ℕ) (may : MayTry same hash asks w caller setting c blocks keys Unchanged p word new) (change : Change)
      (f : CallFacts same hash asks w caller setting c blocks keys change p) (unchanged : change ≡ Unchanged) (m2 : Mem (Node K V)) (end : KeyCall K V Q × Called (Node K V)) where
    empty_found : (found : ℕ) → word_at w.memory (place_tried p.trial) ≡ Some found → found ≡ 0 → c.place t (spot_at (c.len t) p.hash j) ≡ Empty false
    empty_found found read zero_is =
        word-empty blocks.pair (λ n. byte_of hash (c.key n)) (c.place t (spot_at (c.len t) p.hash j))
        (shown_block hash w.memory c blocks setting.root map.map.shows (are_stored same (spot_of hash) (is_incremental setting.mode) c map.map.rule.common) t (spot_at (c.len t) p.hash j)
        trial.table.made trial.table.known)
        (sym (found_is same hash asks caller setting keys lawful fits w c blocks map p s t j trial found read) ∙ zero_is)

    changes : (found : ℕ) → (word_at w.memory (place_tried p.trial) ≡ Some found) × (found ≡ word) → m2 ≡ with_word w.memory (place_tried p.trial) new
        → CallWent same hash asks caller setting keys w c blocks map change p f m2 (changed p word new)
    changes found is after_is = by may
      where
        by : MayTry same hash asks w caller setting c blocks keys Unchanged p word new → CallWent same hash asks caller setting keys w c blocks map change p f m2 (changed p word new)
        by (inl (new_is, own, inl word_is)) =
            by_end same hash asks caller setting keys w c blocks map change p f m2 (changed p word new) (changed p 0 p.own)
            (ap (λ (x : ℕ). changed p x new) word_is ∙ ap (λ (x : ℕ). changed p 0 x) new_is)
            (went_stores same hash asks caller setting keys lawful fits w c blocks map p s t j trial none root own
            (empty_found found is.0 (is.1 ∙ word_is)) change f unchanged found (is.0, is.1 ∙ word_is) m2 (after_is ∙ ap (λ (x : ℕ). with_word w.memory (place_tried p.trial) x) new_is))
        by (inl (new_is, own, inr (n, k, borrowed, was, known, key, asked, word_is))) =
            by_end same hash asks caller setting keys w c blocks map change p f m2 (changed p word new) (changed p word p.own) (ap (λ (x : ℕ). changed p word x) new_is)
            (went_replaces same hash asks caller setting keys lawful fits w c blocks map p s t j trial none root own
            n k borrowed was known key asked word found word_is is change f unchanged m2 (after_is ∙ ap (λ (x : ℕ). with_word w.memory (place_tried p.trial) x) new_is))
        by (inr (new_is, bare, (n, k, borrowed, was, known, key, asked, word_is))) =
            by_end same hash asks caller setting keys w c blocks map change p f m2 (changed p word new) (changed p word TOMBSTONE) (ap (λ (x : ℕ). changed p word x) new_is)
            (went_removes same hash asks caller setting keys lawful fits w c blocks map p s t j trial none root
            n k borrowed was known key asked word found word_is is change f unchanged m2 (after_is ∙ ap (λ (x : ℕ). with_word w.memory (place_tried p.trial) x) new_is))

    pub went_tries : Steps Took value_at w.memory (tries asks same p word new) m2 end → CallWent same hash asks caller setting keys w c blocks map change p f m2 end
    went_tries steps =
        elim (exchanged w.memory (tried asks same p word new) (place_tried p.trial) word new m2 end steps)
        as (λ _. CallWent same hash asks caller setting keys w c blocks map change p f m2 end) [
          | inl d ↦ by_end same hash asks caller setting keys w c blocks map change p f m2 end (changed p word new) d.3 (changes d.0 d.1 d.2)
          | inr d ↦ still same hash asks caller setting keys w c blocks map change p f m2 d.2 end unchanged
              (read_comes same hash asks caller setting keys lawful fits w c blocks map p s t j trial none root false d.0
              (found_is same hash asks caller setting keys lawful fits w c blocks map p s t j trial d.0 d.1.0) end d.3)
        ]
