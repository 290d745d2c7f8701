-- The pair that a call was begun with stays where it is, over steps of others.
use Rattle.std.specs.Prelude.{Option}
use Rattle.std.proofs.Common.{◌≡◌, ℕ, ◌<◌, ◌^◌, Bool, inl, inr, sym, ap, subst, arith, ◌∙◌, refl}
use Rattle.seize_model.specs.Given.SeizeWordsMem.{Mem, value_at}
use Rattle.seize_model.specs.Given.SeizeWorld.{World}
use Rattle.map_facts_late.specs.Given.TablesDeclared.node.Node.{Node}
use Rattle.map_facts_late.specs.Given.TablesDeclared.setting.Setting.{Setting}
use Rattle.map_facts_late.specs.Given.RawDeclared.machines.answer.KeyAnswer.{KeyAnswer}
use Rattle.map_facts_late.specs.Given.RawDeclared.machines.answer.KeyAnswer.TheVariants as answers
use Rattle.map_facts_late.specs.Given.RawDeclared.machines.call.KeyCall.{KeyCall}
use Rattle.map_facts_late.specs.Given.RawDeclared.machines.call.Calling.{Calling}
use Rattle.map_facts_late.specs.Given.RawDeclared.machines.call.Calling.TheVariants as at
use Rattle.map_facts_late.specs.Given.RuleChart.{Chart}
use Rattle.map_facts_late.specs.Given.RuleWords.{Blocks}
use Rattle.map_facts_late.specs.Given.RuleInWorld.{IsHeldBy}
use Rattle.map_facts_late.specs.Given.PointsFactsCalls.{Change, Unchanged, Stored, Replaced, Removed, CallFacts}
use Rattle.map_facts_late.proofs.Given.PointsCalls.Probes.{own_block}
use Rattle.map_facts_late.specs.Given.PointsOthers.{OthersStep}
use Rattle.map_facts_late.proofs.Given.PointsValues.Sought.{IsAhead, IsLook}
use Rattle.map_facts_late.proofs.Values.Never.{never_fills}
use Rattle.map_facts_late.specs.Given.RawDeclared.machines.asking.Takes.TheVariants as takes
use Rattle.map_facts_late.proofs.Values.Seeks.{HasNoneOr, sought_own}
use Rattle.map_facts_late.specs.LateCalls.{SupersededCallFacts}
use Rattle.many_calls.proofs.Since.LatePairs.{late_own}
use Rattle.many_calls.specs.Pairs.{IsItsPair, StoresIt, HasIt, KeepsIt}
use Rattle.many_calls.specs.Since.{SoSince}

-- from one state to another in which what is stored is so still, and so is a call's own block
pub kept_so : {K V Q : Type 0} (m m2 : Mem (Node K V)) (c c2 : Chart K) (blocks blocks2 : Blocks) (pair : Option (Node K V)) (change : Change) (p : KeyCall K V Q) (stands : Calling)
    → (StoresIt m c blocks pair change → StoresIt m2 c2 blocks2 pair change) → (IsAhead stands → HasIt m c blocks pair p.own → HasIt m2 c2 blocks2 pair p.own)
    → KeepsIt m c blocks pair change p stands → KeepsIt m2 c2 blocks2 pair change p stands
kept_so m m2 c c2 blocks blocks2 pair change p at.Makes stored own h = h
kept_so m m2 c c2 blocks blocks2 pair change p (at.Looks l) stored own h = own tt h
kept_so m m2 c c2 blocks blocks2 pair change p at.Roots stored own h = own tt h
kept_so m m2 c c2 blocks blocks2 pair change p at.Probes stored own h = own tt h
kept_so m m2 c c2 blocks blocks2 pair change p (at.Tries word new) stored own h = own tt h
kept_so m m2 c c2 blocks blocks2 pair change p (at.Counts removed) stored own h = stored h
kept_so m m2 c c2 blocks blocks2 pair change p at.Nexts stored own h = own tt h
kept_so m m2 c c2 blocks blocks2 pair change p (at.Firsts making) stored own h = own tt h
kept_so m m2 c c2 blocks blocks2 pair change p (at.Allocs making) stored own h = own tt h
kept_so m m2 c c2 blocks blocks2 pair change p (at.Helps copier goal) stored own h = own tt h
kept_so m m2 c c2 blocks blocks2 pair change p (at.Copies copier) stored own h = own tt h
kept_so m m2 c c2 blocks blocks2 pair change p (at.Disposes d answer) stored own h = stored h
kept_so m m2 c c2 blocks blocks2 pair change p (at.Asks asking) stored own h = own tt h
kept_so m m2 c c2 blocks blocks2 pair change p (at.Drops end) stored own h = own tt h
kept_so m m2 c c2 blocks blocks2 pair change p (at.Over end) stored own h = stored h

-- what was so at a moment is an answer that changes nothing
pub looks_so : {K : Type 0} (hash : K → ℕ) (c : Chart K) (blocks : Blocks) (keys : K → Bool) (began : ℕ) (answer : KeyAnswer) → SoSince hash c blocks keys began answer → IsLook answer
looks_so hash c blocks keys began (answers.Found word) h = tt
looks_so hash c blocks keys began answers.Absent h = tt
looks_so hash c blocks keys began (answers.Stored word) h = absurd h.3
looks_so hash c blocks keys began (answers.Replaced old new) h = absurd h.3
looks_so hash c blocks keys began (answers.Removed word) h = absurd h.3

module _ {K V Q : Type 0} (same : K → K → Bool) (hash : K → ℕ) (asks : Q → K → Bool) (setting : Setting) (caller : ℕ) (w w2 : World (Node K V)) (c c2 : Chart K) (blocks blocks2 : Blocks)
    (step : OthersStep same hash setting caller w c blocks w2 c2 blocks2) (keys : K → Bool) (pair : Option (Node K V)) (change : Change) (p : KeyCall K V Q) where
  its_pair : (n : ℕ) → IsItsPair w.memory c blocks pair n → IsItsPair w2.memory c2 blocks2 pair n
  its_pair n h =
      let here = step.pairs n h.0 h.1 in
      let more = step.leaves.lasts.stored in
      let l = h.0 in (omega (arith, l, more), here.1, ap (value_at w2.memory) here.0 ∙ step.values n h.0 h.1 ∙ h.2)

  stored : (x : Change) → StoresIt w.memory c blocks pair x → StoresIt w2.memory c2 blocks2 pair x
  stored Unchanged h = h
  stored (Stored n) h = its_pair n h
  stored (Replaced o n) h = its_pair n h
  stored (Removed o) h = h

  own_on : p.hash < 2 ^ 64 → (x : Change) → HasNoneOr same hash asks w caller setting c blocks keys x p.own p.hash → HasIt w.memory c blocks pair p.own → HasIt w2.memory c2 blocks2 pair p.own
  own_on code x has (inl z) = inl z
  own_on code x (inl z) (inr is) = inl z
  own_on code x (inr h) (inr is) =
      let block = own_block same hash asks caller setting keys w c blocks x p.own p.hash code h in
      let kept = step.own.blocks h.block _ h.there (λ e. absurd (cc e)) (subst (IsHeldBy caller) (sym h.hand) refl) in
      inr (ap (value_at w2.memory) block ∙ kept.1 ∙ sym h.there ∙ ap (value_at w.memory) (sym block) ∙ is)

  pub keeps_on : CallFacts same hash asks w caller setting c blocks keys change p → p.replies.takes ≡ takes.Nothing → KeepsIt w.memory c blocks pair change p p.stands → KeepsIt w2.memory c2 blocks2 pair change p p.stands
  keeps_on facts never =
      kept_so w.memory w2.memory c c2 blocks blocks2 pair change p p.stands (stored change)
      (λ ahead. own_on facts.code change
      (sought_own same hash asks w caller setting c blocks keys change p p.stands (never_fills same hash asks w caller setting c blocks keys change p facts never p.stands facts.point ahead) facts.point))

  pub late_keeps_on : (began : ℕ) → SupersededCallFacts same hash asks w caller setting c blocks keys began p → p.replies.takes ≡ takes.Nothing → KeepsIt w.memory c blocks pair change p p.stands → KeepsIt w2.memory c2 blocks2 pair change p p.stands
  late_keeps_on began facts never =
      kept_so w.memory w2.memory c c2 blocks blocks2 pair change p p.stands (stored change)
      (λ so. own_on facts.code Unchanged (late_own same hash asks w caller setting c blocks keys began p facts.may.0 never p.stands facts.point))
