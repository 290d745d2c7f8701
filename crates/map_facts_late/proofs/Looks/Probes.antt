-- A lookup reads the word of a try in a table that the root has left.
use Rattle.std.specs.Prelude.{if◌then◌else◌}
use Rattle.std.proofs.Common.{◌≡◌, ℕ, suc, ◌^◌, ◌<◌, Bool, true, false, Option, Some, None, inl, inr, refl, ap, sym, subst, ◌∙◌}
use Rattle.map_facts.specs.Given.SeizeWordsMem.{Mem, value_at, Took}
use Rattle.map_facts.specs.Given.SeizeWordsPlan.{Steps}
use Rattle.map_facts.specs.Given.SeizeDeclared.advance.Advance.{Advance}
use Rattle.map_facts.specs.Given.TablesChunks.{is_incremental}
use Rattle.map_facts.specs.Given.TablesFinding.{finding}
use Rattle.map_facts.specs.Given.TablesTrials.{next_trial}
use Rattle.map_facts.specs.Given.TablesDeclared.node.Node.{Node}
use Rattle.map_facts.specs.Given.TablesDeclared.resize_mode.ResizeMode.{ResizeMode}
use Rattle.map_facts.specs.Given.TablesDeclared.finding.Aim.TheVariants.{Looks}
use Rattle.map_facts.specs.Given.TablesDeclared.finding.Finding.{Finding}
use Rattle.map_facts.specs.Given.TablesDeclared.finding.Finding.TheVariants as is
use Rattle.map_facts.specs.Given.TablesDeclared.trial.Trial.{Trial}
use Rattle.map_facts.specs.Given.ResizeLookup.{answered, going, beyond, passed, after_finding, told, probes}
use Rattle.map_facts.specs.Given.ResizeDeclared.lookup.Lookup.{Lookup}
use Rattle.map_facts.specs.Given.ResizeDeclared.lookup.Looking.TheVariants as at
use Rattle.map_facts.specs.Given.RuleChart.{Place, Chart, is_taken}
use Rattle.map_facts.specs.Given.RuleRule.{IsLawful, Passed, Rule}
use Rattle.map_facts.specs.Given.RuleWords.{Blocks, place_word}
use Rattle.map_facts.specs.Given.RuleMaps.{spot_at, spot_of, IsClass, IsMap, IsTrial}
use Rattle.map_facts.specs.Given.RuleMoments.{Moments}
use Rattle.map_facts.proofs.Given.RuleWords.PlacesShown.{AreStored, are_stored, shown_byte, shown_known}
use Rattle.map_facts.proofs.Given.RuleWords.WordsSeen.{Tells, Says, says}
use Rattle.map_facts.proofs.Given.RuleKeys.TriesSeen.{IsNext, next_is}
use Rattle.map_facts.proofs.Given.RuleKeys.ClassesSeen.{passed_further}
use Rattle.map_facts.proofs.Lookups.Reads.{SeesPlace, sees_place, probes_tell}
use Rattle.map_facts_late.specs.Left.{Left}
use Rattle.map_facts_late.specs.LateLooks.{SupersededLookupFacts}
use Rattle.map_facts_late.specs.LateTold.{SupersededLookupOutcome}
use Rattle.map_facts_late.proofs.Looks.Frozen.{was_free, was_past, was_there}

module _ {K V : Type 0} (same : K → K → Bool) (hash : K → ℕ) (lawful : IsLawful same (spot_of hash)) (fits : (k : K) → hash k < 2 ^ 64) (mode : ResizeMode) (alone : is_incremental mode ≡ false)
    (root : ℕ) (keys : K → Bool) (code : ℕ) (class : IsClass same hash keys code) (m : Mem (Node K V)) (c : Chart K) (blocks : Blocks) (map : IsMap same hash mode root m c blocks)
    (moments : Moments false c) (began : ℕ) (l : Lookup) (facts : SupersededLookupFacts same hash keys code c blocks began mode root l) (trial : Trial) (t j : ℕ) (tries : IsTrial c blocks trial code t j)
    (before : (k : K) → keys k ≡ true → Passed same (spot_of hash) false c t k j) (left : Left c began t) where
  abbrev Told : Lookup × Advance (Option ℕ) → Type 0
  Told end = SupersededLookupOutcome same hash mode root keys code c blocks began end

  rule : Rule same (spot_of hash) false c
  rule = subst (λ (b : Bool). Rule same (spot_of hash) b c) alone map.rule

  stored : AreStored c
  stored = are_stored same (spot_of hash) false c rule.common

  abbrev here : Place
  here = c.place t (spot_at (c.len t) code j)

  sees : SeesPlace hash keys code m c blocks trial t (c.place t (spot_at (c.len t) code j))
  sees = sees_place same hash fits mode root keys code class m c blocks map trial t j tries

  went_beyond : ((k : K) → keys k ≡ true → Passed same (spot_of hash) false c t k (suc (c.limit t))) → Told (beyond l trial.table)
  went_beyond all = by_mode (is_incremental l.mode) (ap is_incremental facts.mode_is ∙ alone)
    where
      by_mode : (b : Bool) → b ≡ false → Told (if b then going l (at.Nexts trial.table) else answered l None)
      by_mode true e = absurd (cc)
      by_mode false e = was_past same hash lawful keys code class c rule moments blocks began t left all

  went_passed : ((k : K) → keys k ≡ true → Passed same (spot_of hash) false c t k (suc j)) → (next : Option Trial) → IsNext c blocks code t next j → Told (passed l trial.table next)
  went_passed further (Some other) is = record { root_is = facts.root_is; mode_is = facts.mode_is; hash_is = facts.hash_is; point = (t, suc j, is, further, left) }
  went_passed further None is = went_beyond (subst (λ x. (k : K) → keys k ≡ true → Passed same (spot_of hash) false c t k (suc x)) is further)

  -- by what was found
  went_told : (f : Finding) → Says keys c.key here false Looks f → Told (after_finding l trial (place_word hash c blocks (c.place t (spot_at (c.len t) code j))) f)
  went_told is.Free (inl empty) = was_free same hash lawful keys code class c rule moments blocks began t left j before (ap (is_taken false) empty)
  went_told is.Free (inr shut) = was_free same hash lawful keys code class c rule moments blocks began t left j before (ap (is_taken false) shut.0)
  went_told is.Passed says =
      went_passed (passed_further same hash lawful keys code class c t j false before sees.has_key says) (next_trial trial)
      (next_is c blocks code t trial j tries sees.sized (rule.common.lens t tries.table.made).1)
  went_told is.Moved (inl s) = absurd (let e = s.0 in cc e)
  went_told is.Moved (inr s) = absurd (s.1 refl)
  went_told is.Copying says = absurd (says.1 refl)
  went_told is.There (n, phase, borrowed, holds, still, uncopied) =
      was_there same hash lawful keys code class c rule moments blocks began t left (spot_at (c.len t) code j) n phase borrowed holds.1 holds.0 holds.2 holds.3
      (shown_known hash m c blocks root map.shows stored t (spot_at (c.len t) code j) tries.table.made tries.table.known n phase borrowed holds.0)
      (place_word hash c blocks (c.place t (spot_at (c.len t) code j))) (ap (place_word hash c blocks) holds.0)

  -- by whether its pair is one of the keys
  went_same : (same_key : Bool) → Tells keys c.key here same_key → Told (told l trial (place_word hash c blocks (c.place t (spot_at (c.len t) code j))) same_key)
  went_same same_key tells =
      subst (λ x. Told (after_finding l trial (place_word hash c blocks here) (finding x Looks (place_word hash c blocks here) same_key))) (sym facts.mode_is)
      (went_told (finding mode Looks (place_word hash c blocks here) same_key)
      (subst (λ (b : Bool). Says keys c.key here b Looks (finding mode Looks (place_word hash c blocks here) same_key)) alone
      (says keys c.key blocks.pair _ mode Looks here same_key sees.has_block (shown_byte hash fits c.key here) sees.has_key tells)))

  pub went_probes : (m2 : Mem (Node K V)) (end : Lookup × Advance (Option ℕ)) → Steps Took value_at m (probes {K = K} {V = V} keys l trial) m2 end
      → (m2 ≡ m) × SupersededLookupOutcome same hash mode root keys code c blocks began end
  went_probes = probes_tell hash keys code m c blocks l facts.hash_is trial t here sees Told went_same
