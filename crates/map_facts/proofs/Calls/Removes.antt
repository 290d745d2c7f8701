-- A call removes the pair that stands at its try.
use Rattle.std.specs.Prelude.{◌≡◌, ℕ, ◌^◌, ◌<◌, Bool, true, false, Some}
use Rattle.std.proofs.Common.{refl, ◌∙◌, inr}
use Rattle.map_rule.specs.Given.SeizeWordsMem.{Mem, word_at, with_word}
use Rattle.papaya_raw.specs.Given.SeizeWorld.{World}
use Rattle.papaya_raw.specs.Given.TablesChunks.{is_incremental}
use Rattle.papaya_raw.specs.CallPoints.{going, changed}
use Rattle.papaya_raw.specs.Given.TablesTrials.{place_tried}
use Rattle.papaya_raw.specs.Given.TablesDeclared.marks.TheConstants.{TOMBSTONE}
use Rattle.papaya_raw.specs.Given.TablesDeclared.node.Node.{Node}
use Rattle.papaya_raw.specs.Given.TablesDeclared.setting.Setting.{Setting}
use Rattle.papaya_raw.specs.declared.machines.call.KeyCall.{KeyCall}
use Rattle.papaya_raw.specs.declared.machines.call.Calling.TheVariants as at
use Rattle.map_rule.specs.Chart.{Still, Holds, Chart}
use Rattle.map_rule.specs.Rule.{IsLawful, is_of}
use Rattle.map_rule.specs.Moves.{Removes, after}
use Rattle.map_rule.specs.Words.{Blocks, place_word}
use Rattle.map_rule.specs.Maps.{spot_at, spot_of, IsTrial, NoneBefore, IsPair}
use Rattle.map_rule.specs.InWorld.{IsMapIn}
use Rattle.map_facts.specs.FactsCalls.{Change, Unchanged, Removed, CallFacts}
use Rattle.map_facts.specs.Told.{CallOutcome}
use Rattle.map_rule.proofs.Keys.ClassesSeen.{is_of_keys}
use Rattle.map_rule.proofs.Keys.ClassesFound.{pair_there}
use Rattle.map_facts.proofs.Disposals.DisposesBegin.{IsTakenOut}
use Rattle.map_facts.proofs.Calls.CallsOn.{Seeking}
use Rattle.map_facts.proofs.Calls.CallsFound.{inside}
use Rattle.map_facts.proofs.Calls.Makes.{CallWent}
use Rattle.map_facts.proofs.Calls.Tries.{try_is}
use Rattle.map_facts.proofs.Steps.PairsRemoved as pairs

module _ {K V Q : Type 0} (same : K → K → Bool) (hash : K → ℕ) (asks : Q → K → Bool) (caller : ℕ) (setting : Setting) (keys : K → Bool)
    (lawful : IsLawful same (spot_of hash)) (fits : (k : K) → hash k < 2 ^ 64)
    (w : World (Node K V)) (c : Chart K) (blocks : Blocks) (map : IsMapIn same hash setting w c blocks) (p : KeyCall K V Q)
    (s : Seeking same hash asks caller setting keys w c blocks p)
    (t j : ℕ) (trial : IsTrial c blocks p.trial p.hash t j) (none : NoneBefore same hash (is_incremental setting.mode) c keys t j)
    (root : is_incremental setting.mode ≡ false → t ≡ c.first)
    (n : ℕ) (k : K) (borrowed : Bool) (was : n < c.stored) (known : blocks.pair_known n ≡ true) (key : c.key n ≡ Some k) (asked : keys k ≡ true)
    (word found : ℕ) (word_is : word ≡ place_word hash c blocks (Holds n Still borrowed))
    (is : (word_at w.memory (place_tried p.trial) ≡ Some found) × (found ≡ word)) where
  within : spot_at (c.len t) p.hash j < c.len t
  within = inside same hash asks caller setting keys lawful fits w c blocks map p s t j trial none root

  -- the pair of the word stands there still
  pub stands_still : c.place t (spot_at (c.len t) p.hash j) ≡ Holds n Still borrowed
  stands_still =
      pairs.stands_still same hash caller setting w c blocks map t (spot_at (c.len t) p.hash j) trial.table.made trial.table.known within (place_tried p.trial)
      (try_is same hash asks caller setting keys lawful fits w c blocks map p s t j trial) fits n borrowed was known word found word_is is

  -- it is the one that the map has
  pub is_pair : IsPair same hash (is_incremental setting.mode) c keys n
  is_pair =
      pair_there same hash lawful keys p.hash s.class c (is_incremental setting.mode) map.map.rule t (spot_at (c.len t) p.hash j) j
      within none n Still borrowed (stands_still, k, key, asked) (λ e f. cc)

  of_key : is_of same (spot_of hash) (is_incremental setting.mode) k (c.key n) ≡ true
  of_key = is_of_keys same hash lawful keys p.hash s.class (is_incremental setting.mode) k k (c.key n) key asked ∙ asked

  module _ (change : Change) (f : CallFacts same hash asks w caller setting c blocks keys change p) (unchanged : change ≡ Unchanged)
      (m2 : Mem (Node K V)) (after_is : m2 ≡ with_word w.memory (place_tried p.trial) TOMBSTONE) where
    told : (w2 : World (Node K V)) → IsTakenOut w2 caller setting (after (spot_of hash) (is_incremental setting.mode) (Removes t (spot_at (c.len t) p.hash j)) c) blocks n t borrowed
        → CallOutcome same hash asks caller setting keys c change p w2 (after (spot_of hash) (is_incremental setting.mode) (Removes t (spot_at (c.len t) p.hash j)) c) blocks
        (going p (at.Counts word)).0 (going p (at.Counts word)).1
    told w2 out = record {
      change2 = Removed n;
      facts = record {
        setting_is = f.setting_is;
        may = f.may;
        code = f.code;
        class = f.class;
        unchanged = λ h. absurd h;
        idle = λ h. s.idle;
        point = inr (
          n,
          t,
          borrowed,
          refl,
          pairs.left same hash caller setting w c blocks map t (spot_at (c.len t) p.hash j) trial.table.made trial.table.known within (place_tried p.trial)
              (try_is same hash asks caller setting keys lawful fits w c blocks map p s t j trial) lawful n k borrowed known stands_still of_key (none k asked).1 is_pair.0,
          word_is,
          record { made = trial.table.made; known = trial.table.known; is = trial.table.is },
          out,
        );
      };
      changes = inr (
        unchanged,
        (
          is_pair,
          pairs.one_less same hash caller setting w c blocks map t (spot_at (c.len t) p.hash j) trial.table.made trial.table.known within (place_tried p.trial)
              (try_is same hash asks caller setting keys lawful fits w c blocks map p s t j trial) lawful n k borrowed known stands_still of_key (none k asked).1 is_pair.0,
        ),
      );
      beside = λ other. inr (Removes t (spot_at (c.len t) p.hash j), tt, refl);
      answers = λ answer answered fresh stays. absurd answered;
      tells = λ answer answered fresh changed. absurd answered;
    }

    pub went_removes : CallWent same hash asks caller setting keys w c blocks map change p f m2 (changed p word TOMBSTONE)
    went_removes =
        pairs.went_removed same hash caller setting w c blocks map t (spot_at (c.len t) p.hash j) trial.table.made trial.table.known within (place_tried p.trial)
        (try_is same hash asks caller setting keys lawful fits w c blocks map p s t j trial) lawful n k borrowed known stands_still of_key (none k asked).1 is_pair.0 word found is m2 after_is
        (λ w2 c2 blocks2. CallOutcome same hash asks caller setting keys c change p w2 c2 blocks2 (going p (at.Counts word)).0 (going p (at.Counts word)).1) told
