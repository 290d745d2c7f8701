-- A call that asks goes on with its own block and its replies as they are: what it is to do then is what it was told.
use Rattle.std.specs.Prelude.{◌≡◌, ℕ, ◌/◌, ◌<◌, ◌≤◌, ◌^◌, Bool, List, Option, Some}
use Rattle.seize_model.specs.Given.SeizeWordsDeclared.fault.Fault.{Fault}
use Rattle.seize_model.specs.Given.SeizeWordsDeclared.fault.Fault.TheVariants.{RemoveNothing}
use Rattle.std.proofs.Common.{refl, ap, sym, subst, ◌∙◌, inl, inr, arith}
use Rattle.seize_model.specs.Given.SeizeWordsMem.{Mem, value_at}
use Rattle.seize_model.specs.Given.SeizeWorld.{World}
use Rattle.map_facts_late.specs.Given.TablesDeclared.node.Node.{Node}
use Rattle.map_facts_late.specs.Given.TablesDeclared.setting.Setting.{Setting}
use Rattle.map_facts_late.specs.Given.RawDeclared.machines.answer.End.{End}
use Rattle.map_facts_late.specs.Given.RawDeclared.machines.answer.End.TheVariants as ends
use Rattle.map_facts_late.specs.Given.RawDeclared.machines.answer.KeyAnswer.TheVariants as answers
use Rattle.map_facts_late.specs.Given.RawDeclared.machines.answer.Missing.{Missing}
use Rattle.map_facts_late.specs.Given.RawDeclared.machines.answer.There.{There}
use Rattle.map_facts_late.specs.Given.RawDeclared.machines.asking.Replies.{Replies}
use Rattle.map_facts_late.specs.Given.RawDeclared.machines.asking.Takes.{Takes}
use Rattle.map_facts_late.specs.Given.RawDeclared.machines.call.KeyCall.{KeyCall}
use Rattle.map_facts_late.specs.Given.RawDeclared.machines.call.Calling.{Calling}
use Rattle.map_facts_late.specs.Given.RawDeclared.machines.call.Calling.TheVariants as at
use Rattle.map_facts_late.specs.Given.RuleChart.{Chart}
use Rattle.map_facts_late.specs.Given.RuleWords.{Blocks, Represents}
use Rattle.map_facts_late.specs.Given.RuleInWorld.{IsOut, IsMapIn, IsFramed, SameBlocks}
use Rattle.map_facts_late.specs.Given.PointsFactsCalls.{Change}
use Rattle.map_facts_late.proofs.Given.PointsValues.Sought.{IsAhead, kept_of}
use Rattle.map_facts_late.specs.Faults.{IsRoom}
use Rattle.many_calls.specs.Asked.{Asked, IsAsReplied, DoesAsReplied, EndsAsReplied, RemembersReplies}
use Rattle.many_calls.proofs.Asked.Stays.{Stays, HasYet, as_told_on}
use Rattle.many_calls.proofs.Asked.Own.{IsMine}
use Rattle.many_calls.proofs.Asked.Goes.{EndsUntold, DoesBy}
use Rattle.many_calls.proofs.Asked.By.{NamedAt, does_by}

-- it is not refused for room where it is to remove what is not there
pub none_to_remove : (fault : Fault) → IsRoom fault → fault ≡ RemoveNothing → ⊥
none_to_remove fault (inl is) e = cc (is, e)
none_to_remove fault (inr is) e = cc (is, e)

-- of an end that it comes to untold, there is nothing that it was to be told
pub untold_ends : {K V : Type 0} (hash : K → ℕ) (m : Mem (Node K V)) (c : Chart K) (blocks : Blocks) (its : Option K) (asked : List (Asked V)) (present : There) (absent : Missing) (kind : Takes) (end : End)
    → EndsUntold present absent end → EndsAsReplied hash m c blocks its asked present absent kind end
untold_ends hash m c blocks its asked present absent kind (ends.Answered (answers.Found word)) untold = λ asks. absurd (cc (untold, asks))
untold_ends hash m c blocks its asked present absent kind (ends.Answered answers.Absent) untold = λ asks. absurd (cc (untold, asks))
untold_ends hash m c blocks its asked present absent kind (ends.Answered (answers.Stored word)) untold = tt
untold_ends hash m c blocks its asked present absent kind (ends.Answered (answers.Replaced old new)) untold = tt
untold_ends hash m c blocks its asked present absent kind (ends.Answered (answers.Removed word)) untold = tt
untold_ends hash m c blocks its asked present absent kind (ends.Refused fault) untold = λ e. absurd (none_to_remove fault untold e)

-- what could be looked at can be looked at still, after a step of the call
pub step_stays : {K V : Type 0} (same : K → K → Bool) (hash : K → ℕ) (setting : Setting) (caller : ℕ) (w w2 : World (Node K V)) (c c2 : Chart K) (blocks blocks2 : Blocks)
    → IsMapIn same hash setting w c blocks → SameBlocks c blocks blocks2 → c.stored ≤ c2.stored → ((n : ℕ) → n < c.stored → c2.key n ≡ c.key n) → IsFramed setting caller w c blocks w2.memory
    → Stays w.memory w2.memory c c2 blocks blocks2
step_stays same hash setting caller w w2 c c2 blocks blocks2 map blocks_same stored stored_keys frame = record {
  stored = stored;
  keys = stored_keys;
  pairs = blocks_same.pairs;
  values = λ n was known. let is = map.map.shows.pairs n was known in frame.values (blocks.pair n) _ is.2 (λ making. absurd (subst IsOut making.0 (map.pairs_out n was known))) ∙ sym is.2;
}

module _ {K V : Type 0} (hash : K → ℕ) (fits : (k : K) → hash k < 2 ^ 64) (w w2 : World (Node K V)) (caller : ℕ) (c c2 : Chart K) (blocks blocks2 : Blocks) (its : Option K) (asked : List (Asked V))
    (stays : Stays w.memory w2.memory c c2 blocks blocks2) (root : ℕ) (shows2 : Represents hash w2.memory c2 blocks2 root) where
  abbrev As2 : Replies K V → ℕ → Type 0
  As2 = IsAsReplied hash w2.memory c2 blocks2 its asked

  abbrev Does2 : Replies K V → ℕ → Calling → Type 0
  Does2 = DoesAsReplied hash w2.memory c2 blocks2 its asked

  module _ {Q : Type 0} (p : KeyCall K V Q) (h : IsAsReplied hash w.memory c blocks its asked p.replies p.own)
      (mine : IsMine w caller p.own) (unmoved : (b : ℕ) (x y : Node K V) → value_at w.memory b ≡ Some x → value_at w2.memory b ≡ Some y → x ≡ y) where
    -- what is in its own block
    pub own_stays : IsMine w2 caller p.own → 0 < p.own / 2048 → value_at w2.memory (p.own / 2048) ≡ value_at w.memory (p.own / 2048)
    own_stays then some = by mine then
      where
        by : IsMine w caller p.own → IsMine w2 caller p.own → value_at w2.memory (p.own / 2048) ≡ value_at w.memory (p.own / 2048)
        by (inl z) then = absurd (omega (arith, z, some))
        by (inr first) (inl z) = absurd (omega (arith, z, some))
        by (inr (x, there, other, hand)) (inr (y, there2, other2, hand2)) = there2 ∙ ap Some (sym (unmoved (p.own / 2048) x y there there2)) ∙ sym there

    pub goes_told : (Read : ℕ → Type 0) (q : KeyCall K V Q) → kept_of q ≡ kept_of p → DoesBy Read p.replies p.own q.stands → NamedAt hash fits w2.memory c2 blocks2 its asked root shows2 q.stands → IsMine w2 caller q.own
        → As2 q.replies q.own × Does2 q.replies q.own q.stands
    goes_told Read q kept does named then =
        let as2 = as_told_on hash w.memory w2.memory c c2 blocks blocks2 its asked stays p.own (own_stays (subst (IsMine w2 caller) (ap (λ (x : ℕ × Replies K V). x.0) kept) then)) p.replies h in
        subst (λ (x : ℕ × Replies K V). As2 x.1 x.0 × Does2 x.1 x.0 q.stands) (sym kept)
        (as2, does_by hash fits w2.memory c2 blocks2 its asked root shows2 p.replies p.own as2 Read q.stands named does)

  -- where it is ahead, or is to end
  pub kept_at : {Q : Type 0} (change : Change) (q : KeyCall K V Q) (stands : Calling) → IsAhead stands → (HasYet stands → As2 q.replies q.own × Does2 q.replies q.own stands)
      → ((end : End) → stands ≡ at.Drops end → EndsAsReplied hash w2.memory c2 blocks2 its asked q.there q.missing q.replies.takes end)
      → RemembersReplies hash w2.memory c2 blocks2 its asked change q stands
  kept_at change q (at.Counts removed) ahead both drops = absurd ahead
  kept_at change q (at.Disposes d answer) ahead both drops = absurd ahead
  kept_at change q (at.Over end) ahead both drops = absurd ahead
  kept_at change q (at.Drops end) ahead both drops = drops end refl
  kept_at change q at.Makes ahead both drops = absurd ahead
  kept_at change q (at.Looks l) ahead both drops = both tt
  kept_at change q at.Roots ahead both drops = both tt
  kept_at change q at.Probes ahead both drops = both tt
  kept_at change q (at.Tries word new) ahead both drops = both tt
  kept_at change q at.Nexts ahead both drops = both tt
  kept_at change q (at.Firsts making) ahead both drops = both tt
  kept_at change q (at.Allocs making) ahead both drops = both tt
  kept_at change q (at.Helps copier goal) ahead both drops = both tt
  kept_at change q (at.Copies copier) ahead both drops = both tt
  kept_at change q (at.Asks asks_at) ahead both drops = both tt
