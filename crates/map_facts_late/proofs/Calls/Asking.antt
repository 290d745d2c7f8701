-- How a call goes on that asks, in a table that the root has left.
use Rattle.std.specs.Prelude.{◌≡◌, ◌≢◌, ℕ, ◌^◌, ◌<◌, Bool, false, Some, None}
use Rattle.std.proofs.Common.{refl, inl, inr}
use Rattle.map_facts.specs.Given.SeizeWorld.{World}
use Rattle.map_facts.specs.Given.RawCallPoints.{going, burying, at_gap, asking_at, asking_of}
use Rattle.map_facts.specs.Given.RawReplies.{value_for}
use Rattle.map_facts.specs.Given.TablesChunks.{is_incremental}
use Rattle.map_facts.specs.Given.TablesDeclared.marks.TheConstants.{TOMBSTONE}
use Rattle.map_facts.specs.Given.TablesDeclared.node.Node.{Node}
use Rattle.map_facts.specs.Given.TablesDeclared.setting.Setting.{Setting}
use Rattle.map_facts.specs.Given.RawDeclared.machines.answer.Called.{Called}
use Rattle.map_facts.specs.Given.RawDeclared.machines.answer.KeyAnswer.TheVariants as answers
use Rattle.map_facts.specs.Given.RawDeclared.machines.answer.Missing.TheVariants as missing
use Rattle.map_facts.specs.Given.RawDeclared.machines.answer.There.TheVariants as there
use Rattle.map_facts.specs.Given.RawDeclared.machines.asking.Asking.TheVariants as asking
use Rattle.map_facts.specs.Given.RawDeclared.machines.asking.Gap.{Gap}
use Rattle.map_facts.specs.Given.RawDeclared.machines.asking.Gap.TheVariants as gaps
use Rattle.map_facts.specs.Given.RawDeclared.machines.asking.Told.TheVariants as tells
use Rattle.map_facts.specs.Given.RawDeclared.machines.call.KeyCall.{KeyCall}
use Rattle.map_facts.specs.Given.RawDeclared.machines.call.Calling.{Calling}
use Rattle.map_facts.specs.Given.RawDeclared.machines.call.Calling.TheVariants as at
use Rattle.map_facts.specs.Given.RuleChart.{Chart}
use Rattle.map_facts.specs.Given.RuleWords.{Blocks}
use Rattle.map_facts.specs.Given.RuleMaps.{IsMap}
use Rattle.map_facts.specs.FactsCalls.{Unchanged, ByReply, holding, NamesPair}
use Rattle.map_facts.proofs.Calls.Asking.{names_some, buries, free_goes, missing_goes, there_goes}
use Rattle.map_facts.proofs.Calls.CallsOn.{Seeking}
use Rattle.map_facts_late.specs.Was.{SoSince}
use Rattle.map_facts_late.specs.LateLooks.{IsSupersededTrial}
use Rattle.map_facts_late.specs.LateCalls.{SupersededGap, SupersededCalling}
use Rattle.map_facts_late.proofs.Calls.LatesOn.{LateComes, goes_late, asks_late}

module _ {K V Q : Type 0} (same : K → K → Bool) (hash : K → ℕ) (asks : Q → K → Bool) (caller : ℕ) (setting : Setting) (alone : is_incremental setting.mode ≡ false) (keys : K → Bool) (began : ℕ)
    (w : World (Node K V)) (c : Chart K) (blocks : Blocks) (p : KeyCall K V Q) (s : Seeking same hash asks caller setting keys w c blocks p) where
  abbrev Late : KeyCall K V Q × Called (Node K V) → Type 0
  Late end = LateComes same hash asks caller setting alone keys began w c blocks end

  abbrev Goes : Calling → Type 0
  Goes stands = SupersededCalling same hash asks w caller setting c blocks keys began (record p { stands = stands }) stands → Late (going p stands)

  tries_late : (word new : ℕ) → Goes (at.Tries word new)
  tries_late word new = goes_late same hash asks caller setting alone keys began w c blocks p s p.trial (at.Tries word new) (λ answer h. h)

  fills_on : (word : ℕ) → Goes (at.Asks (asking.Fills word))
  fills_on word = goes_late same hash asks caller setting alone keys began w c blocks p s p.trial (at.Asks (asking.Fills word)) (λ answer h. h)

  to_next : (t : ℕ) → Goes at.Nexts
  to_next t = goes_late same hash asks caller setting alone keys began w c blocks p s p.trial at.Nexts (λ answer h. h)

  module _ (missing_is : p.missing ≡ missing.Asks) where
    -- once it was told what to do where its key is missing
    pub gap_goes_late : (gap : Gap) → SupersededGap same hash asks w caller setting c blocks keys began p gap → p.replies.absent ≢ tells.Nothing → Late (at_gap gap p)
    gap_goes_late gaps.NoTable facts some = absurd facts
    gap_goes_late gaps.Free facts some =
        free_goes same hash asks caller setting keys w c blocks p s Late missing_is (λ own. tries_late 0 p.own (s.own, facts, inl (refl, own, inl refl)))
        (λ held told. fills_on 0 (inl s.own, held, told, inl refl, facts)) some
    gap_goes_late gaps.Past facts some = to_next facts.0 (s.own, facts.0, facts.1, facts.2)
    gap_goes_late gaps.Last facts some = absurd facts

    pub missing_asks_late : (gap : Gap) → SupersededGap same hash asks w caller setting c blocks keys began p gap → SoSince hash c blocks keys began answers.Absent → Late (asking_at gap p)
    missing_asks_late gap facts absent =
        missing_goes same hash asks caller setting keys w c blocks p s Late missing_is gap
        (asks_late same hash asks caller setting alone keys began w c blocks p s (asking.Absent gap) None answers.Absent (λ answer e. e) (s.own, missing_is, facts) absent) (gap_goes_late gap facts)

  module _ (word : ℕ) (names : NamesPair same hash asks w caller setting c blocks keys Unchanged word) (try : IsSupersededTrial same hash keys p.hash c blocks began p.trial) where
    bare_late : p.own ≡ 0 → Late (going p (at.Tries word TOMBSTONE))
    bare_late bare = tries_late word TOMBSTONE (s.own, try, inr (refl, bare, names))

    gives_late : holding p.replies.takes p.missing ≡ ByReply → p.own ≢ 0 → Late (going p (at.Asks (asking.GivesUp word)))
    gives_late held some = goes_late same hash asks caller setting alone keys began w c blocks p s p.trial (at.Asks (asking.GivesUp word)) (λ answer h. h) (s.own, held, some, names, try)

    pub fills_late : holding p.replies.takes p.missing ≡ ByReply → (v : V) × (value_for p.replies word ≡ Some v) → Late (going p (at.Asks (asking.Fills word)))
    fills_late held told = fills_on word (inl s.own, held, told, inr names, try)

    -- once it was told to remove a pair
    pub buries_late : (p.own ≢ 0 → holding p.replies.takes p.missing ≡ ByReply) → Late (burying p word)
    buries_late held = buries same hash asks caller setting keys w c blocks p s Late word bare_late (λ some. gives_late (held some) some)

    pub there_asks_late : (fits : (k : K) → hash k < 2 ^ 64) → IsMap same hash setting.mode setting.root w.memory c blocks → p.there ≡ there.Asks → SoSince hash c blocks keys began (answers.Found word)
        → Late (asking_of p word)
    there_asks_late fits map there_is found =
        there_goes same hash asks caller setting keys w c blocks p s Late there_is word (names_some same hash asks caller setting keys w c blocks fits map word names)
        (asks_late same hash asks caller setting alone keys began w c blocks p s (asking.Present word) (Some word) (answers.Found word) (λ answer e. e) (s.own, there_is, names, try) found)
        (λ own. tries_late word p.own (s.own, try, inl (refl, own, inr names))) fills_late bare_late gives_late
