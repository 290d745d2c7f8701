-- A call that never asks was told nothing, and is not: its replies stay as they are, whatever its step finds.
use Rattle.std.specs.Prelude.{◌≡◌, ℕ, ◌/◌, ◌==◌, Bool, true, false, bit_and, if◌then◌else◌}
use Rattle.std.proofs.Common.{refl, ap, sym, subst, ◌∙◌, inl, inr}
use Rattle.map_facts.specs.Given.SeizeWordsDeclared.at.At.TheVariants.{Word}
use Rattle.map_facts.specs.Given.SeizeWordsMem.{Mem, Can, Took, value_at}
use Rattle.map_facts.specs.Given.SeizeWordsPlan.{Now, May, Steps}
use Rattle.map_facts.proofs.Given.SeizeWordsOneOwner.Operations.{made as made_by_step, taken, added}
use Rattle.map_facts.proofs.Given.SeizeRuleRows.Leaving.{steps_back}
use Rattle.map_facts.specs.Given.SeizeWorld.{World}
use Rattle.map_facts.specs.Given.SeizeDeclared.rows.settle.Settled.{Settled}
use Rattle.map_facts.specs.Given.SeizeDeclared.rows.settle.Settled.TheVariants as settled
use Rattle.map_facts.specs.Given.TablesCounts.{count_change}
use Rattle.map_facts.specs.Given.TablesDeclared.node.Node.{Node}
use Rattle.map_facts.specs.Given.TablesDeclared.node.Node.TheVariants as node
use Rattle.map_facts.specs.Given.TablesDeclared.marks.TheConstants.{TOMBSTONE}
use Rattle.map_facts.specs.Given.TablesDeclared.setting.Setting.{Setting}
use Rattle.map_facts.specs.Given.ResizeCopier.{copier_plan}
use Rattle.map_facts.specs.Given.ResizeDispose.{disposing, dispose_plan}
use Rattle.map_facts.specs.Given.ResizeDeclared.dispose.Dispose.{Dispose}
use Rattle.map_facts.specs.Given.RawAnswers.{ended}
use Rattle.map_facts.specs.Given.RawCall.{makes_of, made, drops, dropped, disposed, helped, copied, plan_at, call_plan}
use Rattle.map_facts.specs.Given.RawCallPoints.{going, over, changed, counted}
use Rattle.map_facts.specs.Given.RawDeclared.machines.answer.Called.{Called}
use Rattle.map_facts.specs.Given.RawDeclared.machines.answer.End.TheVariants as ends
use Rattle.map_facts.specs.Given.RawDeclared.machines.answer.KeyAnswer.{KeyAnswer}
use Rattle.map_facts.specs.Given.RawDeclared.machines.answer.KeyAnswer.TheVariants as answers
use Rattle.map_facts.specs.Given.RawDeclared.machines.asking.Takes.TheVariants as takes
use Rattle.map_facts.specs.Given.RawDeclared.machines.call.KeyCall.{KeyCall}
use Rattle.map_facts.specs.Given.RawDeclared.machines.call.Calling.{Calling}
use Rattle.map_facts.specs.Given.RawDeclared.machines.call.Calling.TheVariants as at
use Rattle.map_facts.specs.Given.RuleChart.{Chart}
use Rattle.map_facts.specs.Given.RuleWords.{Blocks}
use Rattle.map_facts.specs.FactsCalls.{Change, CallingFacts, CallFacts}
use Rattle.map_facts.specs.Told.{IsRowOfCall}
use Rattle.map_facts.proofs.Calls.Holdings.{never_asks}
use Rattle.map_facts.proofs.Values.Own.{IsDropping, SeeksOn, seeks_on}
use Rattle.map_facts.proofs.Values.Sought.{IsSought, IsAhead, told_kept}
use Rattle.map_facts.proofs.Values.Steps.{helped_so, copied_so}

module _ {K V Q : Type 0} (same : K → K → Bool) (hash : K → ℕ) (asks : Q → K → Bool) (w : World (Node K V)) (caller : ℕ) (setting : Setting) (c : Chart K) (blocks : Blocks)
    (keys : K → Bool) (change : Change) (p : KeyCall K V Q) (m2 : Mem (Node K V)) (e : KeyCall K V Q × Called (Node K V)) where
  changed_kept : (word new : ℕ) → (changed p word new).0.replies ≡ p.replies
  changed_kept word new = by (new == TOMBSTONE) (word == 0)
    where
      by : (a b : Bool)
          → (if a then going p (at.Counts word) else (if b then going p (at.Counts 0) else going p (at.Disposes (disposing p.setting word p.trial.table) (answers.Replaced word p.own)))).0.replies ≡ p.replies
      by true b = refl
      by false true = refl
      by false false = refl

  -- one that seeks was told nothing more
  pub sought_kept : (stands : Calling) → SeeksOn same hash asks w caller setting c blocks keys change p m2 e stands → e.0.replies ≡ p.replies
  sought_kept stands (inl (g, unmoved)) = told_kept p e g
  sought_kept stands (inr (word, new, is, same_values, end)) = ap (λ (x : KeyCall K V Q × Called (Node K V)). x.0.replies) end ∙ changed_kept word new

module _ {K V Q : Type 0} (same : K → K → Bool) (hash : K → ℕ) (asks : Q → K → Bool) (w : World (Node K V)) (caller : ℕ) (setting : Setting) (c : Chart K) (blocks : Blocks)
    (keys : K → Bool) (change : Change) (p : KeyCall K V Q) (f : CallFacts same hash asks w caller setting c blocks keys change p) (never : p.replies.takes ≡ takes.Nothing) where
  -- it is not ahead of filling its own block
  pub never_fills : (stands : Calling) → CallingFacts same hash asks w caller setting c blocks keys change p stands → IsAhead stands → IsSought stands
  never_fills (at.Asks asks_at) k so = absurd (never_asks same hash asks caller setting keys w c blocks p f.may.0 never asks_at change k)
  never_fills at.Makes k so = so
  never_fills (at.Looks l) k so = so
  never_fills at.Roots k so = so
  never_fills at.Probes k so = so
  never_fills (at.Tries word new) k so = so
  never_fills (at.Counts removed) k so = so
  never_fills at.Nexts k so = so
  never_fills (at.Firsts making) k so = so
  never_fills (at.Allocs making) k so = so
  never_fills (at.Helps copier goal) k so = so
  never_fills (at.Copies copier) k so = so
  never_fills (at.Disposes d answer) k so = so
  never_fills (at.Drops end) k so = so
  never_fills (at.Over end) k so = so

  module _ (m2 : Mem (Node K V)) (e : KeyCall K V Q × Called (Node K V)) where
    abbrev Kept : KeyCall K V Q × Called (Node K V) → Type 0
    Kept x = x.0.replies ≡ p.replies

    as_kept : (x : KeyCall K V Q × Called (Node K V)) → e ≡ x → Kept x → Kept e
    as_kept x is h = subst Kept (sym is) h

    counted_kept : (removed : ℕ) → Kept (counted p removed)
    counted_kept removed = by (removed == 0)
      where
        by : (b : Bool) → Kept (if b then over p (ends.Answered (answers.Stored p.own)) else going p (at.Disposes (disposing p.setting removed p.trial.table) (answers.Removed removed)))
        by true = refl
        by false = refl

    disposed_kept : (answer : KeyAnswer) (x : Dispose × Settled (Node K V)) → Kept (disposed p answer x)
    disposed_kept answer (d, settled.Goes) = refl
    disposed_kept answer (d, settled.Waits) = refl
    disposed_kept answer (d, settled.Gave value) = refl
    disposed_kept answer (d, settled.Done) = refl

    sought_at : (stands : Calling) → p.stands ≡ stands → IsSought stands → (IsDropping stands → ⊥) → (IsRowOfCall stands → ⊥) → CallingFacts same hash asks w caller setting c blocks keys change p stands
        → May Can Took value_at w.memory (plan_at asks same hash p stands) → Steps Took value_at w.memory (plan_at asks same hash p stands) m2 e → Kept e
    sought_at stands here so drops row k may s = sought_kept same hash asks w caller setting c blocks keys change p m2 e stands (seeks_on same hash asks w caller setting c blocks keys change p m2 e stands here so drops k row may s)

    kept_at : (stands : Calling) → p.stands ≡ stands → CallingFacts same hash asks w caller setting c blocks keys change p stands
        → May Can Took value_at w.memory (plan_at asks same hash p stands) → Steps Took value_at w.memory (plan_at asks same hash p stands) m2 e → Kept e
    kept_at at.Makes here k may s =
        elim (made_by_step w.memory (made p) (node.Pair k.3 k.4) 0 m2 e (subst (λ plan. Steps Took value_at w.memory plan m2 e) (ap (makes_of p) k.5) s)) as (λ _. Kept e) [
          | inl d ↦ as_kept _ d.3 refl
          | inr d ↦ as_kept _ d.3 refl
        ]
    kept_at (at.Looks l) here k may s = sought_at (at.Looks l) here tt (λ z. z) (λ z. z) k may s
    kept_at at.Roots here k may s = sought_at at.Roots here tt (λ z. z) (λ z. z) k may s
    kept_at at.Probes here k may s = sought_at at.Probes here tt (λ z. z) (λ z. z) k may s
    kept_at (at.Tries word new) here k may s = sought_at (at.Tries word new) here tt (λ z. z) (λ z. z) k may s
    kept_at (at.Counts removed) here k may s =
        let d = added w.memory (λ out. Now (counted p removed)) (Word p.setting.counter (bit_and p.setting.slot p.setting.mask)) (count_change removed) m2 e s in as_kept (counted p removed) d.3 (counted_kept removed)
    kept_at at.Nexts here k may s = sought_at at.Nexts here tt (λ z. z) (λ z. z) k may s
    kept_at (at.Firsts making) here k may s = sought_at (at.Firsts making) here tt (λ z. z) (λ z. z) k may s
    kept_at (at.Allocs making) here k may s = sought_at (at.Allocs making) here tt (λ z. z) (λ z. z) k may s
    kept_at (at.Helps copier goal) here k may s =
        let d = steps_back (helped p goal) w.memory m2 (copier_plan hash copier) e s in as_kept (helped p goal d.0) d.2 (told_kept p (helped p goal d.0) (helped_so p goal d.0))
    kept_at (at.Copies copier) here k may s =
        let d = steps_back (copied p) w.memory m2 (copier_plan hash copier) e s in as_kept (copied p d.0) d.2 (told_kept p (copied p d.0) (copied_so p d.0))
    kept_at (at.Asks asks_at) here k may s = absurd (never_asks same hash asks caller setting keys w c blocks p f.may.0 never asks_at change k)
    kept_at (at.Disposes d answer) here k may s =
        let x = steps_back (disposed p answer) w.memory m2 (dispose_plan d) e s in as_kept (disposed p answer x.0) x.2 (disposed_kept answer x.0)
    kept_at (at.Drops end) here k may s = let d = taken w.memory (dropped p end) (p.own / 2048) m2 e s in as_kept _ d.3 refl
    kept_at (at.Over end) here k may s = as_kept (p, ended end) s.1 refl

    pub never_told_more : May Can Took value_at w.memory (call_plan asks same hash p) → Steps Took value_at w.memory (call_plan asks same hash p) m2 e → e.0.replies ≡ p.replies
    never_told_more may s = kept_at p.stands refl f.point may s

    pub never_asks_on : May Can Took value_at w.memory (call_plan asks same hash p) → Steps Took value_at w.memory (call_plan asks same hash p) m2 e → e.0.replies.takes ≡ takes.Nothing
    never_asks_on may s = ap (λ r. r.takes) (never_told_more may s) ∙ never
