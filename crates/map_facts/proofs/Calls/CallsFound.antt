-- What a call does by what it finds at the place of its try.
use Rattle.std.specs.Prelude.{◌≡◌, ◌≢◌, ℕ, suc, ◌^◌, ◌<◌, Bool, true, false, cond, Option, Some, None, if◌then◌else◌}
use Rattle.std.proofs.Common.{refl, ap, sym, subst, ◌∙◌, inl, inr}
use Rattle.papaya_raw.specs.Given.SeizeWorld.{World}
use Rattle.papaya_raw.specs.Given.TablesChunks.{is_incremental}
use Rattle.papaya_raw.specs.CallPoints.{aim_of, going, told, after_finding, at_free, at_end, at_pair, beyond, passed, halted}
use Rattle.papaya_raw.specs.Given.TablesFinding.{finding}
use Rattle.papaya_raw.specs.Given.TablesTrials.{next_trial, with_met}
use Rattle.papaya_raw.specs.Given.TablesDeclared.marks.TheConstants.{TOMBSTONE}
use Rattle.papaya_raw.specs.Given.TablesDeclared.node.Node.{Node}
use Rattle.papaya_raw.specs.Given.TablesDeclared.resize_mode.ResizeMode.{ResizeMode}
use Rattle.papaya_raw.specs.Given.TablesDeclared.resize_mode.ResizeMode.TheVariants.{Incremental, Blocking}
use Rattle.papaya_raw.specs.Given.TablesDeclared.setting.Setting.{Setting}
use Rattle.papaya_raw.specs.Given.TablesDeclared.trial.Trial.{Trial}
use Rattle.papaya_raw.specs.Given.TablesDeclared.finding.Aim.TheVariants.{Looks, Changes, Stores}
use Rattle.papaya_raw.specs.Given.TablesDeclared.finding.Finding.{Finding}
use Rattle.papaya_raw.specs.Given.TablesDeclared.finding.Finding.TheVariants as is
use Rattle.papaya_raw.specs.declared.machines.answer.There.{There}
use Rattle.papaya_raw.specs.declared.machines.answer.There.TheVariants as there
use Rattle.papaya_raw.specs.declared.machines.answer.Missing.{Missing}
use Rattle.papaya_raw.specs.declared.machines.answer.Missing.TheVariants as missing
use Rattle.papaya_raw.specs.declared.machines.answer.KeyAnswer.TheVariants as answers
use Rattle.papaya_raw.specs.declared.machines.asking.Gap.TheVariants as gaps
use Rattle.papaya_raw.specs.declared.machines.call.KeyCall.{KeyCall}
use Rattle.papaya_raw.specs.declared.machines.call.Calling.TheVariants as at
use Rattle.map_rule.specs.Chart.{Phase, Still, Place, Empty, Tombstone, Holds, Chart}
use Rattle.map_rule.specs.Rule.{IsLawful, ShutBefore, Rule}
use Rattle.map_rule.specs.Words.{Blocks, word_of, byte_of, place_word}
use Rattle.map_rule.specs.Maps.{spot_at, spot_of, IsTrial, NoneBefore}
use Rattle.map_rule.specs.InWorld.{IsMapIn}
use Rattle.map_facts.specs.FactsCalls.{AnswersOf, NamesPair, ShutUpTo, Unchanged}
use Rattle.map_rule.proofs.Words.PlaceWords.{HasBlock, HasByte}
use Rattle.map_rule.proofs.Words.PlaceWordsFinding.{finding-other}
use Rattle.map_rule.proofs.Words.PlacesShown.{are_stored, shown_block, shown_byte, shown_known}
use Rattle.map_rule.proofs.Words.PlacesRead.{place_keyed}
use Rattle.map_rule.proofs.Keys.TriesSeen.{spot_inside, IsNext, next_is, trial_met}
use Rattle.map_rule.proofs.Words.WordsSeen.{HasKey, Tells, Says, SaysFree, SaysPassed, SaysMoved, SaysThere, says}
use Rattle.map_rule.proofs.Keys.ClassesSeen.{none_further, shut_past, shut_moved, absent_past}
use Rattle.map_rule.proofs.Keys.ClassesFound.{absent_free, pair_there}
use Rattle.map_facts.proofs.Calls.CallsOn.{Seeking, Comes, seeking_at, goes, waits, answers_so}
use Rattle.map_facts.proofs.Calls.Asking.{missing_asks, there_asks}
use Rattle.map_facts.proofs.Calls.Holdings.{pair_missing, pair_there as pair_there_own, none_removes, key_stored}

-- in blocking mode, a call that stores none goes on to the next table only at a pair of its keys
moved_pair : {K : Type 0} (keys : K → Bool) (key : ℕ → Option K) (block byte : ℕ → ℕ) (mode : ResizeMode) (place : Place) (same : Bool) → HasBlock block place → HasByte byte place
    → HasKey keys key place → Tells keys key place same → is_incremental mode ≡ false → finding mode Changes (word_of block byte place) same ≡ is.Moved → (k : K) × (keys k ≡ true)
moved_pair keys key block byte (Incremental chunk) place same some low has tells e moved = absurd (cc)
moved_pair keys key block byte Blocking (Empty true) same some low has tells e moved = absurd (cc)
moved_pair keys key block byte Blocking (Empty false) same some low has tells e moved = absurd (cc)
moved_pair keys key block byte Blocking (Tombstone true) same some low has tells e moved = absurd (cc)
moved_pair keys key block byte Blocking (Tombstone false) same some low has tells e moved = absurd (cc)
moved_pair keys key block byte Blocking (Holds n phase borrowed) false some low has tells e moved =
    absurd (cc (finding-other block byte Blocking Changes n borrowed (low n phase borrowed refl) (some n phase borrowed refl) phase, moved))
moved_pair keys key block byte Blocking (Holds n phase borrowed) true some low has tells e moved =
    let kept = has n phase borrowed refl in (kept.0, sym (tells n phase borrowed kept.0 refl kept.1))

pub not_looks : (missing : Missing) → aim_of missing ≢ Looks
not_looks missing.Answers e = absurd (cc)
not_looks missing.Puts e = absurd (cc)
not_looks missing.Asks e = absurd (cc)

module _ {K V Q : Type 0} (same : K → K → Bool) (hash : K → ℕ) (asks : Q → K → Bool) (caller : ℕ) (setting : Setting) (keys : K → Bool)
    (lawful : IsLawful same (spot_of hash)) (fits : (k : K) → hash k < 2 ^ 64)
    (w : World (Node K V)) (c : Chart K) (blocks : Blocks) (map : IsMapIn same hash setting w c blocks) (p : KeyCall K V Q)
    (s : Seeking same hash asks caller setting keys w c blocks p) where
  -- one of the keys, where the call may store a pair
  pub own_key : p.missing ≢ missing.Answers → (k : K) × (keys k ≡ true)
  own_key = key_stored same hash asks caller setting keys w c blocks p s lawful

  -- what is known of a table whose tries are made, by the mode
  pub shut_in : (b : Bool) → is_incremental setting.mode ≡ b → (t : ℕ) → cond b ((k : K) → keys k ≡ true → ShutBefore same (spot_of hash) true c (suc t) k) (t ≡ c.first)
      → ShutUpTo same hash asks w caller setting c blocks keys Unchanged t
  shut_in b e t h = subst (λ (x : Bool). cond x ((k : K) → keys k ≡ true → ShutBefore same (spot_of hash) true c (suc t) k) (t ≡ c.first)) (sym e) h

  module _ (t j : ℕ) (trial : IsTrial c blocks p.trial p.hash t j) (none : NoneBefore same hash (is_incremental setting.mode) c keys t j)
      (root : is_incremental setting.mode ≡ false → t ≡ c.first) where
    pub inside : spot_at (c.len t) p.hash j < c.len t
    inside = spot_inside (c.len t) p.hash j (map.map.rule.common.lens t trial.table.made).0

    abbrev pub here : Place
    here = c.place t (spot_at (c.len t) p.hash j)

    keyed : HasKey keys c.key here
    keyed = place_keyed same hash fits w.memory c blocks setting.root map.map.shows (are_stored same (spot_of hash) (is_incremental setting.mode) c map.map.rule.common) t (spot_at (c.len t) p.hash j) trial.table.made trial.table.known keys

    has_block : HasBlock blocks.pair here
    has_block = shown_block hash w.memory c blocks setting.root map.map.shows (are_stored same (spot_of hash) (is_incremental setting.mode) c map.map.rule.common) t (spot_at (c.len t) p.hash j) trial.table.made trial.table.known

    has_byte : HasByte (λ n. byte_of hash (c.key n)) here
    has_byte = shown_byte hash fits c.key here

    rule_in : (b : Bool) → is_incremental setting.mode ≡ b → Rule same (spot_of hash) b c
    rule_in b e = subst (λ (x : Bool). Rule same (spot_of hash) x c) e map.map.rule

    none_in : (b : Bool) → is_incremental setting.mode ≡ b → NoneBefore same hash b c keys t j
    none_in b e = subst (λ (x : Bool). NoneBefore same hash x c keys t j) e none

    -- in blocking mode, the table is the root
    at_root : is_incremental setting.mode ≡ false → (k : K) × (keys k ≡ true) → t ≡ c.first
    at_root e k = (none_in false e k.0 k.1).1

    -- the next table is read, whatever its tries have met
    to_next_met : (met : ℕ) → ShutUpTo same hash asks w caller setting c blocks keys Unchanged t
        → Comes same hash asks caller setting keys w c blocks (going (record p { trial = record p.trial { met = met } }) at.Nexts)
    to_next_met met shut = goes same hash asks caller setting keys w c blocks p s (record p.trial { met = met }) p.helped at.Nexts (λ answer h. h) (s.own, t, (trial.table, shut))

    to_next : ShutUpTo same hash asks w caller setting c blocks keys Unchanged t → Comes same hash asks caller setting keys w c blocks (going p at.Nexts)
    to_next = to_next_met p.trial.met

    frees : (m : Missing) → p.missing ≡ m → SaysFree keys c.key here (is_incremental setting.mode) (aim_of m) → Comes same hash asks caller setting keys w c blocks (at_free m p)
    frees missing.Answers e free =
        answers_so same hash asks caller setting keys w c blocks p s answers.Absent
        (absent_free same hash lawful keys p.hash s.class c (is_incremental setting.mode) map.map.rule t j Changes trial.most inside none free)
    frees missing.Puts e (inl empty) =
        goes same hash asks caller setting keys w c blocks p s p.trial p.helped (at.Tries 0 p.own) (λ answer h. h) (s.own, inl (refl, pair_missing same hash asks caller setting keys w c blocks p s e, inl refl), (t, j, trial, none, root))
    frees missing.Puts e (inr shut) = absurd (shut.2 refl)
    frees missing.Asks e free =
        missing_asks same hash asks caller setting keys w c blocks p s e gaps.Free (t, j, trial, none, root) (λ last. absurd last)
        (absent_free same hash lawful keys p.hash s.class c (is_incremental setting.mode) map.map.rule t j Stores trial.most inside none free)

    -- all tries are made
    past_all : (met : ℕ) → j ≡ c.limit t → NoneBefore same hash (is_incremental setting.mode) c keys t (suc j)
        → Comes same hash asks caller setting keys w c blocks (beyond (record p { trial = record p.trial { met = met } }))
    past_all met last further = by_mode (is_incremental p.setting.mode) refl
      where
        seeks : Seeking same hash asks caller setting keys w c blocks (record p { trial = record p.trial { met = met } })
        seeks = seeking_at same hash asks caller setting keys w c blocks p s (record p.trial { met = met })

        further_in : (b : Bool) → is_incremental setting.mode ≡ b → NoneBefore same hash b c keys t (suc (c.limit t))
        further_in b e = subst (λ (x : ℕ). NoneBefore same hash b c keys t (suc x)) last (subst (λ (x : Bool). NoneBefore same hash x c keys t (suc j)) e further)

        mode_is : (b : Bool) → is_incremental p.setting.mode ≡ b → is_incremental setting.mode ≡ b
        mode_is b e = ap (λ (x : Setting). is_incremental x.mode) (sym s.setting_is) ∙ e

        at_ends : (m : Missing) → p.missing ≡ m → is_incremental setting.mode ≡ false
            → Comes same hash asks caller setting keys w c blocks (at_end m (record p { trial = record p.trial { met = met } }))
        at_ends missing.Answers e alone =
            answers_so same hash asks caller setting keys w c blocks (record p { trial = record p.trial { met = met } }) seeks answers.Absent
            (absent_past same hash lawful keys p.hash s.class c (rule_in false alone) t (further_in false alone))
        at_ends missing.Puts e alone = to_next_met met (shut_in false alone t (at_root alone (own_key (λ none. cc (none, e)))))
        at_ends missing.Asks e alone =
            missing_asks same hash asks caller setting keys w c blocks (record p { trial = record p.trial { met = met } }) seeks e gaps.Past (t, (trial.table, shut_in false alone t (at_root alone (own_key (λ none. cc (none, e)))))) (λ last. absurd last)
            (absent_past same hash lawful keys p.hash s.class c (rule_in false alone) t (further_in false alone))

        by_mode : (b : Bool) → is_incremental p.setting.mode ≡ b
            → Comes same hash asks caller setting keys w c blocks
            (if b then going (record p { trial = record p.trial { met = met } }) at.Nexts else at_end p.missing (record p { trial = record p.trial { met = met } }))
        by_mode true e = let m = mode_is true e in to_next_met met (shut_in true m t (shut_past same hash lawful keys p.hash s.class c (rule_in true m) t (further_in true m)))
        by_mode false e = at_ends p.missing refl (mode_is false e)

    -- a try is passed
    passes : (met : ℕ) → SaysPassed keys c.key here (is_incremental setting.mode)
        → Comes same hash asks caller setting keys w c blocks (passed (record p { trial = record p.trial { met = met } }) (next_trial (record p.trial { met = met })))
    passes met says =
        by_next (next_trial (record p.trial { met = met }))
        (next_is c blocks p.hash t (record p.trial { met = met }) j (trial_met c blocks p.hash t p.trial j met trial) (map.map.shows.sized t trial.table.made) (map.map.rule.common.lens t trial.table.made).1)
      where
        further : NoneBefore same hash (is_incremental setting.mode) c keys t (suc j)
        further = none_further same hash lawful keys p.hash s.class c t j (is_incremental setting.mode) none keyed says

        by_next : (o : Option Trial) → IsNext c blocks p.hash t o j → Comes same hash asks caller setting keys w c blocks (passed (record p { trial = record p.trial { met = met } }) o)
        by_next (Some next) is = goes same hash asks caller setting keys w c blocks p s next p.helped at.Probes (λ answer h. h) (s.own, (t, suc j, is, further, root))
        by_next None is = past_all met is further

    module _ (word : ℕ) (flag : Bool) (word_is : word ≡ place_word hash c blocks here) (tells : Tells keys c.key here flag) where
      moves : (m : Missing) → p.missing ≡ m → finding setting.mode (aim_of m) (place_word hash c blocks here) flag ≡ is.Moved → SaysMoved keys c.key here (is_incremental setting.mode) (aim_of m)
          → Comes same hash asks caller setting keys w c blocks (going p at.Nexts)
      moves m e found (inl (inc, n, borrowed, holds)) =
          to_next (shut_in true inc t (shut_moved same hash lawful keys p.hash s.class c (rule_in true inc) t j (spot_at (c.len t) p.hash j) n borrowed holds.1 (none_in true inc) holds.0 holds.2 holds.3))
      moves missing.Asks e found (inr (alone, looks, marked)) = to_next (shut_in false alone t (at_root alone (own_key (λ none. cc (none, e)))))
      moves missing.Puts e found (inr (alone, looks, marked)) = to_next (shut_in false alone t (at_root alone (own_key (λ none. cc (none, e)))))
      moves missing.Answers e found (inr (alone, looks, marked)) =
          to_next (shut_in false alone t (at_root alone (moved_pair keys c.key blocks.pair (λ n. byte_of hash (c.key n)) setting.mode here flag has_block has_byte keyed tells alone found)))

      halts : (loaded : Bool) → Comes same hash asks caller setting keys w c blocks (halted loaded p)
      halts true = waits same hash asks caller setting keys w c blocks p s at.Probes (λ answer h. h) (s.own, (t, j, trial, none, root))
      halts false = goes same hash asks caller setting keys w c blocks p s p.trial p.helped at.Probes (λ answer h. h) (s.own, (t, j, trial, none, root))

      pairs : SaysThere keys c.key here (is_incremental setting.mode) (aim_of p.missing)
          → Comes same hash asks caller setting keys w c blocks (at_pair p.there p word)
      pairs (n, phase, borrowed, holds, still, uncopied) = by_kind p.there refl
        where
          is_still : phase ≡ Still
          is_still = still (not_looks p.missing)

          word_holds : word ≡ place_word hash c blocks (Holds n phase borrowed)
          word_holds = word_is ∙ ap (place_word hash c blocks) holds.0

          word_still : word ≡ place_word hash c blocks (Holds n Still borrowed)
          word_still = word_holds ∙ ap (λ (y : Phase). place_word hash c blocks (Holds n y borrowed)) is_still

          known : blocks.pair_known n ≡ true
          known = shown_known hash w.memory c blocks setting.root map.map.shows (are_stored same (spot_of hash) (is_incremental setting.mode) c map.map.rule.common) t (spot_at (c.len t) p.hash j) trial.table.made trial.table.known n phase borrowed holds.0

          was : n < c.stored
          was = are_stored same (spot_of hash) (is_incremental setting.mode) c map.map.rule.common t (spot_at (c.len t) p.hash j) n phase borrowed holds.0

          names : NamesPair same hash asks w caller setting c blocks keys Unchanged word
          names = (n, holds.1, borrowed, was, known, holds.2, holds.3, word_still)

          found : AnswersOf same hash asks w caller setting c blocks keys Unchanged (answers.Found word)
          found = (n, phase, borrowed, pair_there same hash lawful keys p.hash s.class c (is_incremental setting.mode) map.map.rule t (spot_at (c.len t) p.hash j) j inside none n phase borrowed holds uncopied, word_holds)

          by_kind : (x : There) → p.there ≡ x → Comes same hash asks caller setting keys w c blocks (at_pair x p word)
          by_kind there.Answers e =
              answers_so same hash asks caller setting keys w c blocks p s (answers.Found word) found
          by_kind there.Puts e =
              goes same hash asks caller setting keys w c blocks p s p.trial p.helped (at.Tries word p.own) (λ answer h. h)
              (s.own, inl (refl, pair_there_own same hash asks caller setting keys w c blocks p s e, inr names), (t, j, trial, none, root))
          by_kind there.Asks e = there_asks same hash asks caller setting keys w c blocks p s word names (t, j, trial, none, root) fits map.map e found
          by_kind there.Removes e =
              goes same hash asks caller setting keys w c blocks p s p.trial p.helped (at.Tries word TOMBSTONE) (λ answer h. h)
              (s.own, inr (refl, none_removes same hash asks caller setting keys w c blocks p s e, names), (t, j, trial, none, root))

      by_finding : (loaded : Bool) (x : Finding) → finding setting.mode (aim_of p.missing) (place_word hash c blocks here) flag ≡ x
          → Says keys c.key here (is_incremental setting.mode) (aim_of p.missing) x → Comes same hash asks caller setting keys w c blocks (after_finding loaded p word x)
      by_finding loaded is.Free e free = frees p.missing refl free
      by_finding loaded is.Passed e so = passes (with_met p.trial word).met so
      by_finding loaded is.Moved e so = moves p.missing refl e so
      by_finding loaded is.Copying e so = halts loaded
      by_finding loaded is.There e so = pairs so

      -- how the call goes on by this word
      pub told_comes : (loaded : Bool) → Comes same hash asks caller setting keys w c blocks (told loaded p word flag)
      told_comes loaded =
          subst (λ (x : Finding). Comes same hash asks caller setting keys w c blocks (after_finding loaded p word x)) (sym found_is)
          (by_finding loaded (finding setting.mode (aim_of p.missing) (place_word hash c blocks here) flag) refl
          (says keys c.key blocks.pair (λ n. byte_of hash (c.key n)) setting.mode (aim_of p.missing) here flag has_block has_byte keyed tells))
        where
          found_is : finding p.setting.mode (aim_of p.missing) word flag ≡ finding setting.mode (aim_of p.missing) (place_word hash c blocks here) flag
          found_is = ap (λ (x : Setting). finding x.mode (aim_of p.missing) word flag) s.setting_is ∙ ap (λ (x : ℕ). finding setting.mode (aim_of p.missing) x flag) word_is
