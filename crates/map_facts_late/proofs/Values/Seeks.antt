-- A call that seeks has changed nothing, and has its pair in its own block, if it has one.
use Rattle.std.specs.Prelude.{◌≡◌, ℕ, Bool, Option, ◌⊎◌}
use Rattle.std.proofs.Common.{refl, inl, inr}
use Rattle.map_facts.specs.Given.SeizeWorld.{World}
use Rattle.map_facts.specs.Given.TablesDeclared.node.Node.{Node}
use Rattle.map_facts.specs.Given.TablesDeclared.setting.Setting.{Setting}
use Rattle.map_facts.specs.Given.RawDeclared.machines.answer.KeyAnswer.{KeyAnswer}
use Rattle.map_facts.specs.Given.RawDeclared.machines.answer.KeyAnswer.TheVariants as answers
use Rattle.map_facts.specs.Given.RawDeclared.machines.asking.Asking.TheVariants as asking
use Rattle.map_facts.specs.Given.RawDeclared.machines.call.KeyCall.{KeyCall}
use Rattle.map_facts.specs.Given.RawDeclared.machines.call.Calling.{Calling}
use Rattle.map_facts.specs.Given.RawDeclared.machines.call.Calling.TheVariants as at
use Rattle.map_facts.specs.Given.RuleChart.{Chart}
use Rattle.map_facts.specs.Given.RuleWords.{Blocks}
use Rattle.map_facts.specs.FactsCalls.{Change, Unchanged, Stored, Replaced, Removed, Holding, Apart, InBlock, ByReply, holding, IsOwnPair, HasOwn, HasIts, AnswersChange, CallingFacts}
use Rattle.map_facts.proofs.Values.Sought.{IsSought, IsLook}

module _ {K V Q : Type 0} (same : K → K → Bool) (hash : K → ℕ) (asks : Q → K → Bool) (w : World (Node K V)) (caller : ℕ) (setting : Setting) (c : Chart K) (blocks : Blocks)
    (keys : K → Bool) (change : Change) where
  -- it has no block of its own, or one with its pair
  abbrev pub HasNoneOr : ℕ → ℕ → Type 0
  HasNoneOr own code = (own ≡ 0) ⊎ IsOwnPair same hash asks w caller setting c blocks keys change own code

  own_or : (x : Holding) (asked : Option Q) (key : Option K) (own code : ℕ) → HasOwn same hash asks w caller setting c blocks keys change x asked key own code → HasNoneOr own code
  own_or InBlock asked key own code h = inr h.2
  own_or Apart asked key own code h = inl h.0
  own_or ByReply asked key own code (none, inl h) = inl h.0
  own_or ByReply asked key own code (none, inr h) = inr h.1

  pub its_or : (p : KeyCall K V Q) → HasIts same hash asks w caller setting c blocks keys change p → HasNoneOr p.own p.hash
  its_or p = own_or (holding p.replies.takes p.missing) p.asked p.replies.key p.own p.hash

  module _ (p : KeyCall K V Q) where
    pub sought_own : (stands : Calling) → IsSought stands → CallingFacts same hash asks w caller setting c blocks keys change p stands → HasNoneOr p.own p.hash
    sought_own at.Makes so f = absurd so
    sought_own (at.Looks lookup) so f = inl f.0
    sought_own at.Roots so f = its_or p f
    sought_own at.Probes so f = its_or p f.0
    sought_own (at.Tries word new) so f = its_or p f.0
    sought_own (at.Counts removed) so f = absurd so
    sought_own at.Nexts so f = its_or p f.0
    sought_own (at.Firsts making) so f = its_or p f.0
    sought_own (at.Allocs making) so f = its_or p f.0
    sought_own (at.Helps copier goal) so f = its_or p f.0
    sought_own (at.Copies copier) so f = its_or p f.0
    sought_own (at.Disposes dispose answer) so f = absurd so
    sought_own (at.Asks (asking.Absent gap)) so f = its_or p f.0
    sought_own (at.Asks (asking.Present word)) so f = its_or p f.0
    sought_own (at.Asks (asking.Fills word)) so f = absurd so
    sought_own (at.Asks (asking.GivesUp word)) so f = its_or p f.0
    sought_own (at.Drops end) so f = inr f.1
    sought_own (at.Over end) so f = absurd so

-- an answer that tells a change is none of one that changes nothing
pub look_unchanged : {K V Q : Type 0} (same : K → K → Bool) (hash : K → ℕ) (asks : Q → K → Bool) (w : World (Node K V)) (caller : ℕ) (setting : Setting) (c : Chart K) (blocks : Blocks)
    (keys : K → Bool) (change : Change) (answer : KeyAnswer) → IsLook answer → (change ≡ Unchanged) ⊎ AnswersChange same hash asks w caller setting c blocks keys change change answer → change ≡ Unchanged
look_unchanged same hash asks w caller setting c blocks keys change answer look (inl e) = e
look_unchanged same hash asks w caller setting c blocks keys Unchanged answer look (inr t) = refl
look_unchanged same hash asks w caller setting c blocks keys (Stored n) (answers.Found word) look (inr t) = absurd t
look_unchanged same hash asks w caller setting c blocks keys (Stored n) answers.Absent look (inr t) = absurd t
look_unchanged same hash asks w caller setting c blocks keys (Stored n) (answers.Stored word) look (inr t) = absurd look
look_unchanged same hash asks w caller setting c blocks keys (Stored n) (answers.Replaced old new) look (inr t) = absurd look
look_unchanged same hash asks w caller setting c blocks keys (Stored n) (answers.Removed word) look (inr t) = absurd look
look_unchanged same hash asks w caller setting c blocks keys (Replaced o n) (answers.Found word) look (inr t) = absurd t
look_unchanged same hash asks w caller setting c blocks keys (Replaced o n) answers.Absent look (inr t) = absurd t
look_unchanged same hash asks w caller setting c blocks keys (Replaced o n) (answers.Stored word) look (inr t) = absurd look
look_unchanged same hash asks w caller setting c blocks keys (Replaced o n) (answers.Replaced old new) look (inr t) = absurd look
look_unchanged same hash asks w caller setting c blocks keys (Replaced o n) (answers.Removed word) look (inr t) = absurd look
look_unchanged same hash asks w caller setting c blocks keys (Removed o) (answers.Found word) look (inr t) = absurd t
look_unchanged same hash asks w caller setting c blocks keys (Removed o) answers.Absent look (inr t) = absurd t
look_unchanged same hash asks w caller setting c blocks keys (Removed o) (answers.Stored word) look (inr t) = absurd look
look_unchanged same hash asks w caller setting c blocks keys (Removed o) (answers.Replaced old new) look (inr t) = absurd look
look_unchanged same hash asks w caller setting c blocks keys (Removed o) (answers.Removed word) look (inr t) = absurd look
