-- What a call does by what it finds at its try, in a table that the root has left.
use Rattle.std.specs.Prelude.{◌≡◌, ℕ, suc, ◌^◌, ◌<◌, Bool, true, false, Option, Some, None, if◌then◌else◌}
use Rattle.std.proofs.Common.{refl, ap, sym, subst, ◌∙◌, inl, inr}
use Rattle.map_facts.specs.Given.SeizeWorld.{World}
use Rattle.map_facts.specs.Given.TablesChunks.{is_incremental}
use Rattle.map_facts.specs.Given.TablesFinding.{finding}
use Rattle.map_facts.specs.Given.TablesTrials.{next_trial, with_met}
use Rattle.map_facts.specs.Given.TablesDeclared.marks.TheConstants.{TOMBSTONE}
use Rattle.map_facts.specs.Given.TablesDeclared.node.Node.{Node}
use Rattle.map_facts.specs.Given.TablesDeclared.setting.Setting.{Setting}
use Rattle.map_facts.specs.Given.TablesDeclared.trial.Trial.{Trial}
use Rattle.map_facts.specs.Given.TablesDeclared.finding.Finding.{Finding}
use Rattle.map_facts.specs.Given.TablesDeclared.finding.Finding.TheVariants as is
use Rattle.map_facts.specs.Given.RawCallPoints.{aim_of, going, told, after_finding, at_free, at_end, at_pair, beyond, passed}
use Rattle.map_facts.specs.Given.RawDeclared.machines.answer.There.{There}
use Rattle.map_facts.specs.Given.RawDeclared.machines.answer.There.TheVariants as there
use Rattle.map_facts.specs.Given.RawDeclared.machines.answer.Missing.{Missing}
use Rattle.map_facts.specs.Given.RawDeclared.machines.answer.Missing.TheVariants as missing
use Rattle.map_facts.specs.Given.RawDeclared.machines.answer.KeyAnswer.TheVariants as answers
use Rattle.map_facts.specs.Given.RawDeclared.machines.answer.Called.{Called}
use Rattle.map_facts.specs.Given.RawDeclared.machines.asking.Gap.TheVariants as gaps
use Rattle.map_facts.specs.Given.RawDeclared.machines.call.KeyCall.{KeyCall}
use Rattle.map_facts.specs.Given.RawDeclared.machines.call.Calling.TheVariants as at
use Rattle.map_facts.specs.Given.RuleChart.{Phase, Still, Place, Holds, Chart, is_taken}
use Rattle.map_facts.specs.Given.RuleRule.{IsLawful, Passed, Rule}
use Rattle.map_facts.specs.Given.RuleWords.{Blocks, byte_of, place_word}
use Rattle.map_facts.specs.Given.RuleMaps.{spot_at, spot_of, IsTrial}
use Rattle.map_facts.specs.Given.RuleInWorld.{IsMapIn}
use Rattle.map_facts.specs.Given.RuleMoments.{Moments}
use Rattle.map_facts.proofs.Given.RuleWords.PlaceWords.{HasBlock}
use Rattle.map_facts.proofs.Given.RuleWords.PlacesShown.{AreStored, are_stored, shown_block, shown_byte, shown_known}
use Rattle.map_facts.proofs.Given.RuleWords.PlacesRead.{place_keyed}
use Rattle.map_facts.proofs.Given.RuleWords.WordsSeen.{HasKey, Tells, Says, SaysFree, SaysPassed, SaysThere, says}
use Rattle.map_facts.proofs.Given.RuleKeys.TriesSeen.{IsNext, next_is, trial_met}
use Rattle.map_facts.proofs.Given.RuleKeys.ClassesSeen.{passed_further}
use Rattle.map_facts.proofs.Calls.CallsOn.{Seeking, seeking_at}
use Rattle.map_facts.specs.FactsCalls.{Unchanged, NamesPair}
use Rattle.map_facts.proofs.Calls.Holdings.{pair_missing, pair_there, none_removes}
use Rattle.map_facts.proofs.Calls.CallsFound.{not_looks}
use Rattle.map_facts_late.specs.Left.{Left}
use Rattle.map_facts_late.specs.Was.{SoSince}
use Rattle.map_facts_late.proofs.Calls.Asking.{missing_asks_late, there_asks_late}
use Rattle.map_facts_late.proofs.Looks.Frozen.{was_free, was_past, was_there}
use Rattle.map_facts_late.proofs.Calls.LatesOn.{LateComes, goes_late, answers_late}

module _ {K V Q : Type 0} (same : K → K → Bool) (hash : K → ℕ) (asks : Q → K → Bool) (caller : ℕ) (setting : Setting) (alone : is_incremental setting.mode ≡ false) (keys : K → Bool) (began : ℕ)
    (lawful : IsLawful same (spot_of hash)) (fits : (k : K) → hash k < 2 ^ 64)
    (w : World (Node K V)) (c : Chart K) (blocks : Blocks) (map : IsMapIn same hash setting w c blocks) (moments : Moments false c) (p : KeyCall K V Q)
    (s : Seeking same hash asks caller setting keys w c blocks p)
    (t j : ℕ) (trial : IsTrial c blocks p.trial p.hash t j) (before : (k : K) → keys k ≡ true → Passed same (spot_of hash) false c t k j) (left : Left c began t) where
  abbrev Late : KeyCall K V Q × Called (Node K V) → Type 0
  Late end = LateComes same hash asks caller setting alone keys began w c blocks end

  abbrev here : Place
  here = c.place t (spot_at (c.len t) p.hash j)

  abbrev word : ℕ
  word = place_word hash c blocks (c.place t (spot_at (c.len t) p.hash j))

  rule : Rule same (spot_of hash) false c
  rule = subst (λ (b : Bool). Rule same (spot_of hash) b c) alone map.map.rule

  stored : AreStored c
  stored = are_stored same (spot_of hash) false c rule.common

  keyed : HasKey keys c.key here
  keyed = place_keyed same hash fits w.memory c blocks setting.root map.map.shows stored t (spot_at (c.len t) p.hash j) trial.table.made trial.table.known keys

  has_block : HasBlock blocks.pair here
  has_block = shown_block hash w.memory c blocks setting.root map.map.shows stored t (spot_at (c.len t) p.hash j) trial.table.made trial.table.known

  -- whatever its tries have met
  to_next : (met : ℕ) → Late (going (record p { trial = record p.trial { met = met } }) at.Nexts)
  to_next met = goes_late same hash asks caller setting alone keys began w c blocks p s (record p.trial { met = met }) at.Nexts (λ answer h. h) (s.own, t, trial.table, left)

  frees : (m : Missing) → p.missing ≡ m → SaysFree keys c.key here false (aim_of m) → Late (at_free m p)
  frees missing.Answers e (inl empty) =
      answers_late same hash asks caller setting alone keys began w c blocks p s answers.Absent
      (was_free same hash lawful keys p.hash s.class c rule moments blocks began t left j before (ap (is_taken false) empty))
  frees missing.Answers e (inr shut) =
      answers_late same hash asks caller setting alone keys began w c blocks p s answers.Absent
      (was_free same hash lawful keys p.hash s.class c rule moments blocks began t left j before (ap (is_taken false) shut.0))
  frees missing.Puts e (inl empty) =
      goes_late same hash asks caller setting alone keys began w c blocks p s p.trial (at.Tries 0 p.own) (λ answer h. h)
      (s.own, (t, j, trial, before, left), inl (refl, pair_missing same hash asks caller setting keys w c blocks p s e, inl refl))
  frees missing.Puts e (inr shut) = absurd (shut.2 refl)
  frees missing.Asks e (inl empty) =
      missing_asks_late same hash asks caller setting alone keys began w c blocks p s e gaps.Free (t, j, trial, before, left)
      (was_free same hash lawful keys p.hash s.class c rule moments blocks began t left j before (ap (is_taken false) empty))
  frees missing.Asks e (inr shut) = absurd (shut.2 refl)

  -- all tries are made
  past_all : (met : ℕ) → ((k : K) → keys k ≡ true → Passed same (spot_of hash) false c t k (suc (c.limit t))) → Late (beyond (record p { trial = record p.trial { met = met } }))
  past_all met all = by_mode (is_incremental p.setting.mode) (ap (λ (x : Setting). is_incremental x.mode) s.setting_is ∙ alone)
    where
      seeks : Seeking same hash asks caller setting keys w c blocks (record p { trial = record p.trial { met = met } })
      seeks = seeking_at same hash asks caller setting keys w c blocks p s (record p.trial { met = met })

      at_ends : (m : Missing) → p.missing ≡ m → Late (at_end m (record p { trial = record p.trial { met = met } }))
      at_ends missing.Answers e =
          answers_late same hash asks caller setting alone keys began w c blocks (record p { trial = record p.trial { met = met } }) seeks answers.Absent
          (was_past same hash lawful keys p.hash s.class c rule moments blocks began t left all)
      at_ends missing.Puts e = to_next met
      at_ends missing.Asks e =
          missing_asks_late same hash asks caller setting alone keys began w c blocks (record p { trial = record p.trial { met = met } }) seeks e gaps.Past (t, trial.table, left)
          (was_past same hash lawful keys p.hash s.class c rule moments blocks began t left all)

      by_mode : (b : Bool) → b ≡ false → Late (if b then going (record p { trial = record p.trial { met = met } }) at.Nexts else at_end p.missing (record p { trial = record p.trial { met = met } }))
      by_mode true e = absurd (cc)
      by_mode false e = at_ends p.missing refl

  -- a try is passed
  passes : (met : ℕ) → SaysPassed keys c.key here false → Late (passed (record p { trial = record p.trial { met = met } }) (next_trial (record p.trial { met = met })))
  passes met so =
      by_next (next_trial (record p.trial { met = met }))
      (next_is c blocks p.hash t (record p.trial { met = met }) j (trial_met c blocks p.hash t p.trial j met trial) (map.map.shows.sized t trial.table.made) (rule.common.lens t trial.table.made).1)
    where
      further : (k : K) → keys k ≡ true → Passed same (spot_of hash) false c t k (suc j)
      further = passed_further same hash lawful keys p.hash s.class c t j false before keyed so

      by_next : (o : Option Trial) → IsNext c blocks p.hash t o j → Late (passed (record p { trial = record p.trial { met = met } }) o)
      by_next (Some next) is = goes_late same hash asks caller setting alone keys began w c blocks p s next at.Probes (λ answer h. h) (s.own, (t, suc j, is, further, left))
      by_next None is = past_all met (subst (λ (x : ℕ). (k : K) → keys k ≡ true → Passed same (spot_of hash) false c t k (suc x)) is further)

  pairs : SaysThere keys c.key here false (aim_of p.missing) → Late (at_pair p.there p word)
  pairs (n, phase, borrowed, holds, still, uncopied) = by_kind p.there refl
    where
      word_holds : word ≡ place_word hash c blocks (Holds n phase borrowed)
      word_holds = ap (place_word hash c blocks) holds.0

      word_still : word ≡ place_word hash c blocks (Holds n Still borrowed)
      word_still = word_holds ∙ ap (λ (y : Phase). place_word hash c blocks (Holds n y borrowed)) (still (not_looks p.missing))

      known : blocks.pair_known n ≡ true
      known = shown_known hash w.memory c blocks setting.root map.map.shows stored t (spot_at (c.len t) p.hash j) trial.table.made trial.table.known n phase borrowed holds.0

      was : n < c.stored
      was = stored t (spot_at (c.len t) p.hash j) n phase borrowed holds.0

      names : NamesPair same hash asks w caller setting c blocks keys Unchanged word
      names = (n, holds.1, borrowed, was, known, holds.2, holds.3, word_still)

      found : SoSince hash c blocks keys began (answers.Found word)
      found = was_there same hash lawful keys p.hash s.class c rule moments blocks began t left (spot_at (c.len t) p.hash j) n phase borrowed holds.1 holds.0 holds.2 holds.3 known word word_holds

      by_kind : (x : There) → p.there ≡ x → Late (at_pair x p word)
      by_kind there.Answers e =
          answers_late same hash asks caller setting alone keys began w c blocks p s (answers.Found word) found
      by_kind there.Puts e =
          goes_late same hash asks caller setting alone keys began w c blocks p s p.trial (at.Tries word p.own) (λ answer h. h)
          (s.own, (t, j, trial, before, left), inl (refl, pair_there same hash asks caller setting keys w c blocks p s e, inr names))
      by_kind there.Asks e = there_asks_late same hash asks caller setting alone keys began w c blocks p s word names (t, j, trial, before, left) fits map.map e found
      by_kind there.Removes e =
          goes_late same hash asks caller setting alone keys began w c blocks p s p.trial (at.Tries word TOMBSTONE) (λ answer h. h)
          (s.own, (t, j, trial, before, left), inr (refl, none_removes same hash asks caller setting keys w c blocks p s e, names))

  by_finding : (loaded : Bool) (x : Finding) → Says keys c.key here false (aim_of p.missing) x → Late (after_finding loaded p word x)
  by_finding loaded is.Free so = frees p.missing refl so
  by_finding loaded is.Passed so = passes (with_met p.trial word).met so
  by_finding loaded is.Moved so = to_next p.trial.met
  by_finding loaded is.Copying so = absurd (let e = so.0 in cc e)
  by_finding loaded is.There so = pairs so

  -- how the call goes on by the word of its try
  pub told_comes_late : (loaded flag : Bool) → Tells keys c.key (c.place t (spot_at (c.len t) p.hash j)) flag
      → LateComes same hash asks caller setting alone keys began w c blocks (told loaded p (place_word hash c blocks (c.place t (spot_at (c.len t) p.hash j))) flag)
  told_comes_late loaded flag tells =
      subst (λ (x : Setting). Late (after_finding loaded p word (finding x.mode (aim_of p.missing) word flag))) (sym s.setting_is)
      (by_finding loaded (finding setting.mode (aim_of p.missing) word flag)
      (subst (λ (b : Bool). Says keys c.key here b (aim_of p.missing) (finding setting.mode (aim_of p.missing) word flag)) alone
      (says keys c.key blocks.pair (λ n. byte_of hash (c.key n)) setting.mode (aim_of p.missing) here flag has_block (shown_byte hash fits c.key here) keyed tells)))
