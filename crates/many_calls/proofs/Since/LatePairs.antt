-- A step of a call in a table that the root has left keeps track of the pair that it was begun with.
use Rattle.std.specs.Prelude.{◌==◌, if◌then◌else◌, Option}
use Rattle.std.proofs.Common.{◌≡◌, ℕ, ◌/◌, ◌<◌, ◌^◌, Bool, true, false, Some, ◌⊎◌, inl, inr, sym, ap, subst, ◌∙◌}
use Rattle.seize_model.specs.Given.SeizeWordsMem.{Mem, Can, Took, value_at}
use Rattle.seize_model.specs.Given.SeizeWordsPlan.{May, Steps}
use Rattle.seize_model.specs.Given.SeizeWorld.{World}
use Rattle.map_facts_late.specs.Given.TablesDeclared.marks.TheConstants.{TOMBSTONE}
use Rattle.map_facts_late.specs.Given.TablesDeclared.node.Node.{Node}
use Rattle.map_facts_late.specs.Given.TablesDeclared.node.Node.TheVariants as node
use Rattle.map_facts_late.specs.Given.TablesDeclared.setting.Setting.{Setting}
use Rattle.map_facts_late.specs.Given.ResizeDispose.{disposing}
use Rattle.map_facts_late.specs.Given.RawCall.{call_plan}
use Rattle.map_facts_late.specs.Given.RawCallPoints.{changed, going}
use Rattle.map_facts_late.specs.Given.RawDeclared.machines.answer.Called.{Called}
use Rattle.map_facts_late.specs.Given.RawDeclared.machines.answer.Called.TheVariants as called
use Rattle.map_facts_late.specs.Given.RawDeclared.machines.answer.KeyAnswer.TheVariants as answers
use Rattle.map_facts_late.specs.Given.RawDeclared.machines.call.KeyCall.{KeyCall}
use Rattle.map_facts_late.specs.Given.RawDeclared.machines.call.Calling.{Calling}
use Rattle.map_facts_late.specs.Given.RawDeclared.machines.call.Calling.TheVariants as at
use Rattle.map_facts_late.specs.Given.RuleChart.{Chart}
use Rattle.map_facts_late.specs.Given.RuleWords.{Blocks}
use Rattle.map_facts_late.specs.Given.PointsFactsCalls.{Unchanged, MayStore, CallFacts}
use Rattle.map_facts_late.specs.Given.PointsTold.{IsRowOfCall}
use Rattle.map_facts_late.proofs.Given.PointsCalls.Probes.{own_value}
use Rattle.map_facts_late.proofs.Given.PointsValues.Own.{IsDropping, NoneMoved, SeeksOn}
use Rattle.map_facts_late.proofs.Values.Seeks.{HasNoneOr, its_or, sought_own}
use Rattle.map_facts_late.proofs.Given.PointsValues.Sought.{IsSought, IsAhead, kept_of, GoesSeeking}
use Rattle.map_facts_late.proofs.Values.Never.{never_fills, sought_kept}
use Rattle.map_facts_late.specs.Given.RawDeclared.machines.asking.Replies.{Replies}
use Rattle.map_facts_late.specs.Given.RawDeclared.machines.asking.Takes.TheVariants as takes
use Rattle.map_facts_late.specs.LateCalls.{SupersededCalling, SupersededCallFacts}
use Rattle.map_facts_late.specs.LateTold.{SupersededCallAfter}
use Rattle.map_facts_late.proofs.Values.Own.{late_never_asks, late_seeks_on}
use Rattle.many_calls.specs.Pairs.{HasIt, KeepsIt}
use Rattle.many_calls.proofs.Since.Pairs.{KeepsTo}

-- where it stands there it seeks
late_sought : {K V Q : Type 0} (same : K → K → Bool) (hash : K → ℕ) (asks : Q → K → Bool) (w : World (Node K V)) (caller : ℕ) (setting : Setting) (c : Chart K) (blocks : Blocks)
    (keys : K → Bool) (began : ℕ) (p : KeyCall K V Q) → MayStore p.replies.takes p.there p.missing → p.replies.takes ≡ takes.Nothing → (stands : Calling)
    → SupersededCalling same hash asks w caller setting c blocks keys began p stands → IsSought stands
late_sought same hash asks w caller setting c blocks keys began p may never at.Makes h = absurd h
late_sought same hash asks w caller setting c blocks keys began p may never (at.Counts removed) h = absurd h
late_sought same hash asks w caller setting c blocks keys began p may never (at.Disposes d answer) h = absurd h
late_sought same hash asks w caller setting c blocks keys began p may never (at.Over end) h = absurd h
late_sought same hash asks w caller setting c blocks keys began p may never (at.Asks asks_at) h = absurd (late_never_asks same hash asks w caller setting c blocks keys began p may never asks_at h)
late_sought same hash asks w caller setting c blocks keys began p may never at.Roots h = absurd h
late_sought same hash asks w caller setting c blocks keys began p may never (at.Helps copier goal) h = absurd h
late_sought same hash asks w caller setting c blocks keys began p may never (at.Drops end) h = absurd h
late_sought same hash asks w caller setting c blocks keys began p may never (at.Looks l) h = tt
late_sought same hash asks w caller setting c blocks keys began p may never at.Probes h = tt
late_sought same hash asks w caller setting c blocks keys began p may never (at.Tries word new) h = tt
late_sought same hash asks w caller setting c blocks keys began p may never at.Nexts h = tt
late_sought same hash asks w caller setting c blocks keys began p may never (at.Firsts making) h = tt
late_sought same hash asks w caller setting c blocks keys began p may never (at.Allocs making) h = tt
late_sought same hash asks w caller setting c blocks keys began p may never (at.Copies copier) h = tt

-- and gives no block up
late_drops : {K V Q : Type 0} (same : K → K → Bool) (hash : K → ℕ) (asks : Q → K → Bool) (w : World (Node K V)) (caller : ℕ) (setting : Setting) (c : Chart K) (blocks : Blocks)
    (keys : K → Bool) (began : ℕ) (p : KeyCall K V Q) → MayStore p.replies.takes p.there p.missing → p.replies.takes ≡ takes.Nothing → (stands : Calling)
    → SupersededCalling same hash asks w caller setting c blocks keys began p stands → IsDropping stands → ⊥
late_drops same hash asks w caller setting c blocks keys began p may never (at.Drops end) h d = h
late_drops same hash asks w caller setting c blocks keys began p may never (at.Asks asks_at) h d = late_never_asks same hash asks w caller setting c blocks keys began p may never asks_at h
late_drops same hash asks w caller setting c blocks keys began p may never at.Makes h d = d
late_drops same hash asks w caller setting c blocks keys began p may never (at.Looks l) h d = d
late_drops same hash asks w caller setting c blocks keys began p may never at.Roots h d = d
late_drops same hash asks w caller setting c blocks keys began p may never at.Probes h d = d
late_drops same hash asks w caller setting c blocks keys began p may never (at.Tries word new) h d = d
late_drops same hash asks w caller setting c blocks keys began p may never (at.Counts removed) h d = d
late_drops same hash asks w caller setting c blocks keys began p may never at.Nexts h d = d
late_drops same hash asks w caller setting c blocks keys began p may never (at.Firsts making) h d = d
late_drops same hash asks w caller setting c blocks keys began p may never (at.Allocs making) h d = d
late_drops same hash asks w caller setting c blocks keys began p may never (at.Helps copier goal) h d = d
late_drops same hash asks w caller setting c blocks keys began p may never (at.Copies copier) h d = d
late_drops same hash asks w caller setting c blocks keys began p may never (at.Disposes dispose answer) h d = d
late_drops same hash asks w caller setting c blocks keys began p may never (at.Over end) h d = d

-- the pair that it is to store is in its own block
module _ {K V Q : Type 0} (same : K → K → Bool) (hash : K → ℕ) (asks : Q → K → Bool) (w : World (Node K V)) (caller : ℕ) (setting : Setting) (c : Chart K) (blocks : Blocks) (keys : K → Bool) (began : ℕ)
    (p : KeyCall K V Q) (may : MayStore p.replies.takes p.there p.missing) (never : p.replies.takes ≡ takes.Nothing) where
  pub late_own : (stands : Calling) → SupersededCalling same hash asks w caller setting c blocks keys began p stands → HasNoneOr same hash asks w caller setting c blocks keys Unchanged p.own p.hash
  late_own (at.Looks l) h = inl h.0
  late_own at.Probes h = its_or same hash asks w caller setting c blocks keys Unchanged p h.0
  late_own (at.Tries word new) h = its_or same hash asks w caller setting c blocks keys Unchanged p h.0
  late_own at.Nexts h = its_or same hash asks w caller setting c blocks keys Unchanged p h.0
  late_own (at.Firsts making) h = its_or same hash asks w caller setting c blocks keys Unchanged p h.0
  late_own (at.Allocs making) h = its_or same hash asks w caller setting c blocks keys Unchanged p h.0
  late_own (at.Copies copier) h = its_or same hash asks w caller setting c blocks keys Unchanged p h.0
  late_own at.Makes h = absurd h
  late_own at.Roots h = absurd h
  late_own (at.Helps copier goal) h = absurd h
  late_own (at.Counts removed) h = absurd h
  late_own (at.Disposes d answer) h = absurd h
  late_own (at.Asks asks_at) h = absurd (late_never_asks same hash asks w caller setting c blocks keys began p may never asks_at h)
  late_own (at.Drops end) h = absurd h
  late_own (at.Over end) h = absurd h

module _ {K V : Type 0} (m : Mem (Node K V)) (c : Chart K) (blocks : Blocks) (pair : Option (Node K V)) {Q : Type 0} (p : KeyCall K V Q) where
  pub it_seeks : (stands : Calling) → IsSought stands → HasIt m c blocks pair p.own → KeepsIt m c blocks pair Unchanged p stands
  it_seeks at.Makes so h = absurd so
  it_seeks (at.Counts removed) so h = absurd so
  it_seeks (at.Disposes d answer) so h = absurd so
  it_seeks (at.Over end) so h = absurd so
  it_seeks _ so h = h

  pub it_has : (stands : Calling) → IsSought stands → KeepsIt m c blocks pair Unchanged p stands → HasIt m c blocks pair p.own
  it_has at.Makes so h = absurd so
  it_has (at.Counts removed) so h = absurd so
  it_has (at.Disposes d answer) so h = absurd so
  it_has (at.Over end) so h = absurd so
  it_has _ so h = h

module _ {K V Q : Type 0} (same : K → K → Bool) (hash : K → ℕ) (setting : Setting) (caller : ℕ) (asks : Q → K → Bool) (w w2 : World (Node K V)) (c c2 : Chart K) (blocks blocks2 : Blocks)
    (keys : K → Bool) (began : ℕ) (pair : Option (Node K V)) (p p2 : KeyCall K V Q) (progress : Called (Node K V))
    (facts : SupersededCallFacts same hash asks w caller setting c blocks keys began p) (after : SupersededCallAfter same hash asks caller setting keys began w2 c2 blocks2 p2 progress) (row : IsRowOfCall p.stands → ⊥)
    (may : May Can Took value_at w.memory (call_plan asks same hash p)) (steps : Steps Took value_at w.memory (call_plan asks same hash p) w2.memory (p2, progress))
    (never : p.replies.takes ≡ takes.Nothing) (keeps : KeepsIt w.memory c blocks pair Unchanged p p.stands) where
  abbrev To : KeyCall K V Q → Called (Node K V) → Type 0
  To = KeepsTo w2.memory c2 blocks2 pair Unchanged

  abbrev After : KeyCall K V Q → Called (Node K V) → Type 0
  After = SupersededCallAfter same hash asks caller setting keys began w2 c2 blocks2

  so : IsSought p.stands
  so = late_sought same hash asks w caller setting c blocks keys began p facts.may.0 never p.stands facts.point

  has : HasIt w.memory c blocks pair p.own
  has = it_has w.memory c blocks pair p p.stands so keeps

  abbrev Moved : Type 0
  Moved = NoneMoved same hash asks w caller setting c blocks keys Unchanged p w2.memory (p2, progress)

  own_on : Moved → (q : KeyCall K V Q) → q.own ≡ p.own → q.hash < 2 ^ 64 → HasNoneOr same hash asks w2 caller setting c2 blocks2 keys Unchanged q.own q.hash → HasIt w2.memory c2 blocks2 pair q.own
  own_on unmoved q same_own few (inl z) = inl z
  own_on unmoved q same_own few (inr own) = elim has as (λ _. HasIt w2.memory c2 blocks2 pair q.own) [
    | inl z ↦ inl (same_own ∙ z)
    | inr is ↦ by is (late_own same hash asks w caller setting c blocks keys began p facts.may.0 never p.stands facts.point)
  ]
    where
      after_it : value_at w2.memory (q.own / 2048) ≡ Some (node.Pair own.key own.value)
      after_it = own_value same hash asks caller setting keys w2 c2 blocks2 Unchanged q.own q.hash few own

      by : value_at w.memory (p.own / 2048) ≡ pair → HasNoneOr same hash asks w caller setting c blocks keys Unchanged p.own p.hash → HasIt w2.memory c2 blocks2 pair q.own
      by is (inl z) = inl (same_own ∙ z)
      by is (inr first) =
          let before = own_value same hash asks caller setting keys w c blocks Unchanged p.own p.hash facts.code first in
          inr (after_it ∙ sym (ap Some (unmoved (p.own / 2048) _ _ before (ap (λ (x : ℕ). value_at w2.memory (x / 2048)) (sym same_own) ∙ after_it))) ∙ sym before ∙ is)

  still : (q : KeyCall K V Q) → kept_of q ≡ kept_of p → q.replies.takes ≡ takes.Nothing
  still q kept = ap (λ (x : ℕ × Replies K V). x.1.takes) kept ∙ never

  -- in the root's table, or there
  goes_on : Moved → (q : KeyCall K V Q) → kept_of q ≡ kept_of p → IsAhead q.stands
      → CallFacts same hash asks w2 caller setting c2 blocks2 keys Unchanged q ⊎ SupersededCallFacts same hash asks w2 caller setting c2 blocks2 keys began q → KeepsIt w2.memory c2 blocks2 pair Unchanged q q.stands
  goes_on unmoved q kept ahead (inl f) =
      let seeks = never_fills same hash asks w2 caller setting c2 blocks2 keys Unchanged q f (still q kept) q.stands f.point ahead in
      it_seeks w2.memory c2 blocks2 pair q q.stands seeks
      (own_on unmoved q (ap (λ (x : ℕ × Replies K V). x.0) kept) f.code (sought_own same hash asks w2 caller setting c2 blocks2 keys Unchanged q q.stands seeks f.point))
  goes_on unmoved q kept ahead (inr f) =
      it_seeks w2.memory c2 blocks2 pair q q.stands (late_sought same hash asks w2 caller setting c2 blocks2 keys began q f.may.0 (still q kept) q.stands f.point)
      (own_on unmoved q (ap (λ (x : ℕ × Replies K V). x.0) kept) f.code (late_own same hash asks w2 caller setting c2 blocks2 keys began q f.may.0 (still q kept) q.stands f.point))

  goes : Moved → (q : KeyCall K V Q) (x : Called (Node K V)) → GoesSeeking p (q, x) → After q x → To q x
  goes unmoved q called.Goes g f = goes_on unmoved q g.0 g.1 f
  goes unmoved q called.Waits g f = goes_on unmoved q g.0 g.1 f
  goes unmoved q (called.Gave value) g f = tt
  goes unmoved q (called.Unstored value) g f = absurd g.1
  goes unmoved q (called.Asks asked) g f = goes_on unmoved q g.0 g.1 f
  goes unmoved q (called.Done answer) g f = tt
  goes unmoved q (called.Refused fault) g f = tt

  abbrev Ending : KeyCall K V Q × Called (Node K V) → Type 0
  Ending e = After e.0 e.1 → To e.0 e.1

  -- it changes nothing
  not_changed : (word new : ℕ) → Ending (changed p word new)
  not_changed word new = by (new == TOMBSTONE) (word == 0)
    where
      counts : (removed : ℕ) → Ending (going p (at.Counts removed))
      counts removed (inl f) = absurd (elim f.point as (λ _. ⊥) [
        | inl h ↦ (let e = h.2 in cc e)
        | inr h ↦ (let e = h.3 in cc e)
      ])
      counts removed (inr f) = absurd f.point

      by : (a b : Bool) → Ending (if a then going p (at.Counts word) else (if b then going p (at.Counts 0) else going p (at.Disposes (disposing p.setting word p.trial.table) (answers.Replaced word p.own))))
      by true b f = counts word f
      by false true f = counts 0 f
      by false false (inl f) = absurd f.point.1
      by false false (inr f) = absurd f.point

  drops : IsDropping p.stands → ⊥
  drops = late_drops same hash asks w caller setting c blocks keys began p facts.may.0 never p.stands facts.point

  pub late_keeps_after : To p2 progress
  late_keeps_after = by (late_seeks_on same hash asks w caller setting c blocks keys began p w2.memory (p2, progress) p.stands (λ i. p.stands) so drops facts.point row may steps) after
    where
      by : SeeksOn same hash asks w caller setting c blocks keys Unchanged p w2.memory (p2, progress) p.stands → Ending (p2, progress)
      by (inl (g, unmoved)) f = goes unmoved p2 progress g f
      by (inr (word, new, is, kept, same_end)) f = subst Ending (sym same_end) (not_changed word new) f

-- a call that never asks does not ask after its step
pub late_never_asks_on : {K V Q : Type 0} (same : K → K → Bool) (hash : K → ℕ) (asks : Q → K → Bool) (w : World (Node K V)) (caller : ℕ) (setting : Setting) (c : Chart K) (blocks : Blocks)
    (keys : K → Bool) (began : ℕ) (p : KeyCall K V Q) (facts : SupersededCallFacts same hash asks w caller setting c blocks keys began p) → p.replies.takes ≡ takes.Nothing → (IsRowOfCall p.stands → ⊥)
    → (m2 : Mem (Node K V)) (e : KeyCall K V Q × Called (Node K V)) → May Can Took value_at w.memory (call_plan asks same hash p) → Steps Took value_at w.memory (call_plan asks same hash p) m2 e
    → e.0.replies.takes ≡ takes.Nothing
late_never_asks_on same hash asks w caller setting c blocks keys began p facts never row m2 e may steps =
    ap (λ r. r.takes) (by (late_seeks_on same hash asks w caller setting c blocks keys began p m2 e p.stands (λ i. p.stands)
    (late_sought same hash asks w caller setting c blocks keys began p facts.may.0 never p.stands facts.point) (late_drops same hash asks w caller setting c blocks keys began p facts.may.0 never p.stands facts.point) facts.point row may steps)) ∙ never
  where
    by : SeeksOn same hash asks w caller setting c blocks keys Unchanged p m2 e p.stands → e.0.replies ≡ p.replies
    by = sought_kept same hash asks w caller setting c blocks keys Unchanged p m2 e p.stands
