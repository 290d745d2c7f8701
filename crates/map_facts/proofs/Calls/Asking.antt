-- How a call goes on that asks: where its key is missing, and where it is there.
use Rattle.std.specs.Prelude.{◌≡◌, ◌≢◌, ℕ, ◌/◌, ◌^◌, ◌<◌, ◌==◌, Bool, true, false, Some, None, max, if◌then◌else◌}
use Rattle.std.proofs.Common.{refl, ap, sym, subst, ◌∙◌, inl, inr, arith}
use Rattle.std.proofs.lemmas.Bool.{eqb-true, eqb-false, ne_eqb}
use Rattle.map_rule.specs.Given.SeizeWordsWord.{block_in}
use Rattle.papaya_raw.specs.Given.SeizeWorld.{World}
use Rattle.papaya_raw.specs.CallPoints.{going, standing, following_made, storing, burying, at_gap, gap_by, asking_at, pair_by, asking_of}
use Rattle.papaya_raw.specs.Replies.{value_replied, value_for}
use Rattle.map_rule.specs.Given.ResizeNewTable.{first_table}
use Rattle.papaya_raw.specs.Given.TablesLengths.{IsTableLen}
use Rattle.papaya_raw.specs.Given.TablesDeclared.lengths.TheConstants.{FIRST_LEN}
use Rattle.papaya_raw.specs.Given.TablesDeclared.marks.TheConstants.{TOMBSTONE}
use Rattle.papaya_raw.specs.Given.TablesDeclared.node.Node.{Node}
use Rattle.papaya_raw.specs.Given.TablesDeclared.setting.Setting.{Setting}
use Rattle.papaya_raw.specs.declared.machines.answer.Called.{Called}
use Rattle.papaya_raw.specs.declared.machines.answer.Called.TheVariants.{Asks}
use Rattle.papaya_raw.specs.declared.machines.answer.Missing.TheVariants as missing
use Rattle.papaya_raw.specs.declared.machines.answer.There.TheVariants as there
use Rattle.papaya_raw.specs.declared.machines.answer.KeyAnswer.TheVariants as answers
use Rattle.papaya_raw.specs.declared.machines.asking.Asking.TheVariants as asking
use Rattle.papaya_raw.specs.declared.machines.asking.Gap.{Gap}
use Rattle.papaya_raw.specs.declared.machines.asking.Gap.TheVariants as gaps
use Rattle.papaya_raw.specs.declared.machines.asking.Told.{Told}
use Rattle.papaya_raw.specs.declared.machines.asking.Told.TheVariants as tells
use Rattle.papaya_raw.specs.declared.machines.call.KeyCall.{KeyCall}
use Rattle.papaya_raw.specs.declared.machines.call.Calling.{Calling}
use Rattle.papaya_raw.specs.declared.machines.call.Calling.TheVariants as at
use Rattle.map_rule.specs.Chart.{Still, Chart}
use Rattle.map_rule.specs.Words.{Blocks, byte_of}
use Rattle.map_rule.specs.Maps.{IsMap}
use Rattle.map_facts.specs.FactsCalls.{Unchanged, ByReply, holding, IsOwnPair, AnswersOf, AtTry, NamesPair, GapFacts, CallingFacts}
use Rattle.map_rule.proofs.Words.PlaceWords.{pair_block}
use Rattle.map_rule.proofs.Words.PlacesShown.{byte_of-few}
use Rattle.map_facts.proofs.Making.TablesBegin.{first_table_facts}
use Rattle.map_facts.proofs.Calls.CallsOn.{Seeking, Comes, goes, asks_so}
use Rattle.map_facts.proofs.Calls.Holdings.{asks_missing, asks_there, pair_told}

-- the length of a map's first table
pub first_len : IsTableLen (max FIRST_LEN 8)
first_len = record { power = (5, refl); least = omega arith; most = omega arith }

-- nothing follows the table that was tried
abbrev pub IsLast : Gap → Type 0
IsLast gaps.Last = Unit {0}
IsLast _ = ⊥

module _ {K V Q : Type 0} (same : K → K → Bool) (hash : K → ℕ) (asks : Q → K → Bool) (caller : ℕ) (setting : Setting) (keys : K → Bool)
    (w : World (Node K V)) (c : Chart K) (blocks : Blocks) where
  -- a word that names a pair is none of an empty place
  pub names_some : (fits : (k : K) → hash k < 2 ^ 64) → IsMap same hash setting.mode setting.root w.memory c blocks → (word : ℕ)
      → NamesPair same hash asks w caller setting c blocks keys Unchanged word → (word == 0) ≡ false
  names_some fits map word (n, k, borrowed, was, known, key, asked, is) = ne_eqb word 0 (λ z.
      let b : word / 2048 ≡ blocks.pair n = ap (λ (x : ℕ). x / 2048) is ∙ pair_block blocks.pair (λ o. byte_of hash (c.key o)) n Still borrowed (byte_of-few hash fits (c.key n)) in
      let some = (map.shows.pair_numbers n was known).0 in omega (arith, z, b, some))

  -- Whatever is so of where it may go on is so of where it goes on.
  module _ (p : KeyCall K V Q) (s : Seeking same hash asks caller setting keys w c blocks p) (To : KeyCall K V Q × Called (Node K V) → Type 0) where
    abbrev IsTold : ℕ → Type 0
    IsTold word = (v : V) × (value_for p.replies word ≡ Some v)

    -- It puts its own pair in the place of a word, once that has the value that it was told.
    pub stores_told : holding p.replies.takes p.missing ≡ ByReply → (told : Told V) → (told ≡ tells.Own → p.replies.key ≡ None) → told ≢ tells.Nothing → told ≢ tells.Removes → (word : ℕ)
        → value_replied told ≡ value_for p.replies word → (IsOwnPair same hash asks w caller setting c blocks keys Unchanged p.own p.hash → To (going p (at.Tries word p.own)))
        → (IsTold word → To (going p (at.Asks (asking.Fills word)))) → To (storing told p word)
    stores_told by_reply tells.Nothing own some other word value tries fills = absurd (some refl)
    stores_told by_reply tells.Removes own some other word value tries fills = absurd (other refl)
    stores_told by_reply tells.Own own some other word value tries fills = tries (pair_told same hash asks caller setting keys w c blocks p s by_reply (own refl))
    stores_told by_reply (tells.Value v) own some other word value tries fills = fills (v, sym value)

    -- It removes the pair of a word, once its own block is given up.
    pub buries : (word : ℕ) → (p.own ≡ 0 → To (going p (at.Tries word TOMBSTONE))) → (p.own ≢ 0 → To (going p (at.Asks (asking.GivesUp word)))) → To (burying p word)
    buries word tries gives = by (p.own == 0) refl
      where
        by : (b : Bool) → (p.own == 0) ≡ b → To (if b then going p (at.Tries word TOMBSTONE) else going p (at.Asks (asking.GivesUp word)))
        by true e = tries (eqb-true p.own 0 e)
        by false e = gives (eqb-false p.own 0 e)

    -- Where its key is missing, it goes on to store a pair,
    module _ (missing_is : p.missing ≡ missing.Asks) where
      by_reply : holding p.replies.takes p.missing ≡ ByReply
      by_reply = asks_missing p.replies.takes p.there p.missing s.may.0 missing_is

      -- at a place that is empty,
      pub free_goes : (IsOwnPair same hash asks w caller setting c blocks keys Unchanged p.own p.hash → To (going p (at.Tries 0 p.own)))
          → (holding p.replies.takes p.missing ≡ ByReply → IsTold 0 → To (going p (at.Asks (asking.Fills 0)))) → p.replies.absent ≢ tells.Nothing → To (at_gap gaps.Free p)
      free_goes tries fills some = stores_told by_reply p.replies.absent s.may.1.absent_own some s.may.1.absent_stays 0 refl tries (fills by_reply)

      -- or asks first, where it was not told yet what to do there.
      pub missing_goes : (gap : Gap) → To (standing p (at.Asks (asking.Absent gap)), Asks None) → (p.replies.absent ≢ tells.Nothing → To (at_gap gap p)) → To (asking_at gap p)
      missing_goes gap it_asks goes_on = by p.replies.absent refl
        where
          by : (told : Told V) → p.replies.absent ≡ told → To (gap_by told gap p)
          by tells.Nothing e = it_asks
          by (tells.Value v) e = goes_on (λ k. cc (k, e))
          by tells.Own e = goes_on (λ k. cc (k, e))
          by tells.Removes e = goes_on (λ k. cc (k, e))

    -- Where its key is there, it asks, unless it was told of that very pair.
    module _ (there_is : p.there ≡ there.Asks) (word : ℕ) (some : (word == 0) ≡ false) where
      by_told : (told : Told V) → p.replies.present ≡ told → told ≢ tells.Nothing → holding p.replies.takes p.missing ≡ ByReply
      by_told told e other = asks_there p.replies.takes p.there p.missing s.may.0 there_is (λ choices. other (sym e ∙ s.may.1.choices_stay choices))

      value_is : (told : Told V) → p.replies.present ≡ told → value_replied told ≡ value_for p.replies word
      value_is told e = ap value_replied (sym e) ∙ ap (λ (b : Bool). value_replied (if b then p.replies.absent else p.replies.present)) (sym some)

      pub there_goes : To (standing p (at.Asks (asking.Present word)), Asks (Some word))
          → (IsOwnPair same hash asks w caller setting c blocks keys Unchanged p.own p.hash → To (going p (at.Tries word p.own)))
          → (holding p.replies.takes p.missing ≡ ByReply → IsTold word → To (going p (at.Asks (asking.Fills word))))
          → (p.own ≡ 0 → To (going p (at.Tries word TOMBSTONE))) → (holding p.replies.takes p.missing ≡ ByReply → p.own ≢ 0 → To (going p (at.Asks (asking.GivesUp word)))) → To (asking_of p word)
      there_goes it_asks tries fills bare gives = by (block_in word == p.replies.pair)
        where
          told_goes : (told : Told V) → p.replies.present ≡ told → To (pair_by told p word)
          told_goes tells.Nothing e = it_asks
          told_goes tells.Removes e = buries word bare (gives (by_told tells.Removes e (λ k. cc k)))
          told_goes (tells.Value v) e =
              let held = by_told (tells.Value v) e (λ k. cc k) in
              stores_told held (tells.Value v) (λ k. absurd (cc k)) (λ k. cc k) (λ k. cc k) word (value_is (tells.Value v) e) tries (fills held)
          told_goes tells.Own e =
              let held = by_told tells.Own e (λ k. cc k) in
              stores_told held tells.Own (λ k. s.may.1.present_own e) (λ k. cc k) (λ k. cc k) word (value_is tells.Own e) tries (fills held)

          by : (b : Bool) → To (if b then pair_by p.replies.present p word else pair_by tells.Nothing p word)
          by true = told_goes p.replies.present refl
          by false = it_asks

  -- In its own table: what it knows where it comes to.
  module _ (p : KeyCall K V Q) (s : Seeking same hash asks caller setting keys w c blocks p) where
    abbrev Comes' : KeyCall K V Q × Called (Node K V) → Type 0
    Comes' end = Comes same hash asks caller setting keys w c blocks end

    abbrev Goes : Calling → Type 0
    Goes stands = CallingFacts same hash asks w caller setting c blocks keys Unchanged (record p { stands = stands }) stands → Comes' (going p stands)

    tries_so : (word new : ℕ) → Goes (at.Tries word new)
    tries_so word new = goes same hash asks caller setting keys w c blocks p s p.trial p.helped (at.Tries word new) (λ answer h. h)

    fills_on : (word : ℕ) → Goes (at.Asks (asking.Fills word))
    fills_on word = goes same hash asks caller setting keys w c blocks p s p.trial p.helped (at.Asks (asking.Fills word)) (λ answer h. h)

    -- where its key is missing
    module _ (missing_is : p.missing ≡ missing.Asks) where
      -- once it was told what to do there
      pub gap_goes : (gap : Gap) → GapFacts same hash asks w caller setting c blocks keys Unchanged p gap → (IsLast gap → Comes' (following_made p)) → p.replies.absent ≢ tells.Nothing
          → Comes' (at_gap gap p)
      gap_goes gaps.NoTable facts last some =
          subst (λ (x : Setting). Comes' (going p (at.Firsts (first_table x FIRST_LEN)))) (sym s.setting_is)
          (goes same hash asks caller setting keys w c blocks p s p.trial p.helped (at.Firsts (first_table setting FIRST_LEN)) (λ answer h. h)
          (s.own, (λ none. absurd (cc (none, missing_is))), first_table_facts w caller setting c blocks FIRST_LEN first_len))
      gap_goes gaps.Free facts last some =
          free_goes p s Comes' missing_is (λ own. tries_so 0 p.own (s.own, inl (refl, own, inl refl), facts)) (λ held told. fills_on 0 (inl s.own, held, told, inl refl, facts)) some
      gap_goes gaps.Past facts last some = goes same hash asks caller setting keys w c blocks p s p.trial p.helped at.Nexts (λ answer h. h) (s.own, facts.0, facts.1)
      gap_goes gaps.Last facts last some = last tt

      pub missing_asks : (gap : Gap) → GapFacts same hash asks w caller setting c blocks keys Unchanged p gap → (IsLast gap → Comes' (following_made p))
          → AnswersOf same hash asks w caller setting c blocks keys Unchanged answers.Absent → Comes' (asking_at gap p)
      missing_asks gap facts last absent =
          missing_goes p s Comes' missing_is gap (asks_so same hash asks caller setting keys w c blocks p s (asking.Absent gap) None answers.Absent (λ answer e. e) (s.own, missing_is, facts) absent) (gap_goes gap facts last)

    -- where it is there
    module _ (word : ℕ) (names : NamesPair same hash asks w caller setting c blocks keys Unchanged word) (try : AtTry same hash asks w caller setting c blocks keys Unchanged p) where
      stores_so : IsOwnPair same hash asks w caller setting c blocks keys Unchanged p.own p.hash → Comes' (going p (at.Tries word p.own))
      stores_so own = tries_so word p.own (s.own, inl (refl, own, inr names), try)

      pub fills_so : holding p.replies.takes p.missing ≡ ByReply → (v : V) × (value_for p.replies word ≡ Some v) → Comes' (going p (at.Asks (asking.Fills word)))
      fills_so held told = fills_on word (inl s.own, held, told, inr names, try)

      bare_so : p.own ≡ 0 → Comes' (going p (at.Tries word TOMBSTONE))
      bare_so bare = tries_so word TOMBSTONE (s.own, inr (refl, bare, names), try)

      gives_so : holding p.replies.takes p.missing ≡ ByReply → p.own ≢ 0 → Comes' (going p (at.Asks (asking.GivesUp word)))
      gives_so held some = goes same hash asks caller setting keys w c blocks p s p.trial p.helped (at.Asks (asking.GivesUp word)) (λ answer h. h) (s.own, held, some, names, try)

      -- once it was told to remove it
      pub buries_so : (p.own ≢ 0 → holding p.replies.takes p.missing ≡ ByReply) → Comes' (burying p word)
      buries_so held = buries p s Comes' word bare_so (λ some. gives_so (held some) some)

      pub there_asks : (fits : (k : K) → hash k < 2 ^ 64) → IsMap same hash setting.mode setting.root w.memory c blocks → p.there ≡ there.Asks
          → AnswersOf same hash asks w caller setting c blocks keys Unchanged (answers.Found word) → Comes' (asking_of p word)
      there_asks fits map there_is found =
          there_goes p s Comes' there_is word (names_some fits map word names)
          (asks_so same hash asks caller setting keys w c blocks p s (asking.Present word) (Some word) (answers.Found word) (λ answer e. e) (s.own, there_is, names, try) found) stores_so fills_so bare_so gives_so
