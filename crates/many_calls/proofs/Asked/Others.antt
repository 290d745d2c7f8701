-- What a call that asks keeps of what it was told it keeps over the steps of others.
use Rattle.std.specs.Prelude.{◌≡◌, ℕ, ◌/◌, ◌<◌, Bool, List, Option}
use Rattle.std.proofs.Common.{refl, sym, subst, ◌∙◌, inl, inr, arith}
use Rattle.seize_model.specs.Given.SeizeWordsMem.{value_at}
use Rattle.seize_model.specs.Given.SeizeWorld.{World}
use Rattle.map_facts_late.specs.Given.TablesDeclared.node.Node.{Node}
use Rattle.map_facts_late.specs.Given.TablesDeclared.setting.Setting.{Setting}
use Rattle.map_facts_late.specs.Given.RawDeclared.machines.call.KeyCall.{KeyCall}
use Rattle.map_facts_late.specs.Given.RuleChart.{Chart}
use Rattle.map_facts_late.specs.Given.RuleWords.{Blocks}
use Rattle.map_facts_late.specs.Given.RuleInWorld.{IsHeldBy}
use Rattle.map_facts_late.specs.Given.PointsFactsCalls.{Change, CallFacts}
use Rattle.map_facts_late.specs.Given.PointsOthers.{OthersStep}
use Rattle.map_facts_late.specs.LateCalls.{SupersededCallFacts}
use Rattle.many_calls.specs.Asked.{Asked, RemembersReplies}
use Rattle.many_calls.proofs.Asked.Stays.{Stays, keeps_told_on}
use Rattle.many_calls.proofs.Asked.Own.{IsMine, mine_at, late_mine_at}

module _ {K V Q : Type 0} (same : K → K → Bool) (hash : K → ℕ) (asks : Q → K → Bool) (setting : Setting) (caller : ℕ) (w w2 : World (Node K V)) (c c2 : Chart K) (blocks blocks2 : Blocks)
    (step : OthersStep same hash setting caller w c blocks w2 c2 blocks2) (keys : K → Bool) (its : Option K) (asked : List (Asked V)) (change : Change) (p : KeyCall K V Q) where
  pub others_stay : Stays w.memory w2.memory c c2 blocks blocks2
  others_stay = record { stored = step.leaves.lasts.stored; keys = step.leaves.lasts.keys; pairs = step.pairs; values = step.values }

  -- its own block is its own still
  own_stays : IsMine w caller p.own → 0 < p.own / 2048 → value_at w2.memory (p.own / 2048) ≡ value_at w.memory (p.own / 2048)
  own_stays (inl z) some = absurd (omega (arith, z, some))
  own_stays (inr (x, there, other, hand)) some = (step.own.blocks (p.own / 2048) x there other (subst (IsHeldBy caller) (sym hand) refl)).1 ∙ sym there

  abbrev Stay : Type 0
  Stay = RemembersReplies hash w.memory c blocks its asked change p p.stands → RemembersReplies hash w2.memory c2 blocks2 its asked change p p.stands

  pub told_on : CallFacts same hash asks w caller setting c blocks keys change p → Stay
  told_on facts =
      keeps_told_on hash w.memory w2.memory c c2 blocks blocks2 its asked others_stay change p p.stands
      (λ yet. own_stays (mine_at same hash asks w caller setting c blocks keys change p facts.code p.stands yet facts.point))

  pub late_told_on : (began : ℕ) → SupersededCallFacts same hash asks w caller setting c blocks keys began p → Stay
  late_told_on began facts =
      keeps_told_on hash w.memory w2.memory c c2 blocks blocks2 its asked others_stay change p p.stands
      (λ yet. own_stays (late_mine_at same hash asks w caller setting c blocks keys began p facts.code p.stands facts.point))
