-- Each run of the steps of a call that is alone comes to an end, or to a question, with those of the rows that it begins.
use Rattle.std.specs.Prelude.{◌≡◌, ℕ, Bool, List, length}
use Rattle.std.specs.Int.{IsPowerOfTwo}
use Rattle.std.proofs.Common.{inl, inr, refl, ap, sym, subst, ◌∙◌}
use Rattle.seize_words.specs.OneMemory.Mem.{Mem, Took, value_at}
use Rattle.seize_words.specs.OneMemory.Plan.{Steps}
use Rattle.seize.specs.World.{World}
use Rattle.map_tables.specs.declared.node.Node.{Node}
use Rattle.map_tables.specs.declared.setting.Setting.{Setting}
use Rattle.papaya_raw.specs.Call.{call_plan}
use Rattle.papaya_raw.specs.declared.machines.answer.Called.{Called}
use Rattle.papaya_raw.specs.declared.machines.answer.Called.TheVariants as called
use Rattle.papaya_raw.specs.declared.machines.call.KeyCall.{KeyCall}
use Rattle.map_measures.specs.Given.RuleChart.{Chart}
use Rattle.map_measures.specs.Given.RuleWords.{Blocks}
use Rattle.map_measures.specs.Given.PointsMeasures.{IsBelow, EndsFrom, ends}
use Rattle.owner_facts.specs.Given.PointsSteps.{AreLawful}
use Rattle.owner_facts.specs.Given.PointsTold.{IsRowOfCall}
use Rattle.map_measures.proofs.Given.PointsDescents.{descents_end}
use Rattle.owner_facts.specs.Alone.Endings.{runs_end}
use Rattle.owner_facts.specs.Given.CallersSights.{Visible, seen_by}
use Rattle.owner_facts.specs.Given.CallersTogether.{CallOnKey, OnKey}
use Rattle.owner_whole.specs.Whole.Owner.{IsAlone}
use Rattle.owner_whole.specs.Whole.Whole.{then_so, Continues, Terminates, Leads, CallsComeToAnEnd}
use Rattle.owner_whole.proofs.Whole.Keys.Falls.{number_all, all_as_many, own_falls, over_ends}
use Rattle.owner_whole.proofs.Whole.Keys.Own as own
use Rattle.owner_whole.proofs.Whole.Rows.Falls.{row_falls}
use Rattle.owner_whole.proofs.Whole.Rows.Kinds.{row_decided}
use Rattle.owner_whole.proofs.Whole.Rows.Steps as rows

module _ {K V Q : Type 0} (same : K → K → Bool) (hash : K → ℕ) (asks : Q → K → Bool) (setting : Setting) (slot : ℕ → ℕ) (lawful : AreLawful same hash) (initial : IsPowerOfTwo setting.initial) where
  abbrev Alone : World (Node K V) → Chart K → Blocks → (ℕ → Visible) → CallOnKey K V Q → Type 0
  Alone w c blocks sights u = IsAlone same hash asks setting slot w c blocks sights (OnKey u)

  abbrev Ends : KeyCall K V Q → Mem (Node K V) → Type 0
  Ends = Terminates same hash asks

  abbrev numbers : World (Node K V) → Chart K → Blocks → (ℕ → Visible) → CallOnKey K V Q → List ℕ
  numbers w c blocks sights u = number_all hash (slot 0) c (seen_by blocks (sights (slot 0))) u.call w.memory

  -- where further calls come to their ends that have lower numbers
  abbrev OnBelow : World (Node K V) → Chart K → Blocks → (ℕ → Visible) → CallOnKey K V Q → Type 0
  OnBelow w0 c0 blocks0 sights0 u0 =
      (w : World (Node K V)) (c : Chart K) (blocks : Blocks) (sights : ℕ → Visible) (u : CallOnKey K V Q) → Alone w c blocks sights u
      → IsBelow (numbers w c blocks sights u) (numbers w0 c0 blocks0 sights0 u0) → Ends u.call w.memory

  module _ (w : World (Node K V)) (c : Chart K) (blocks : Blocks) (sights : ℕ → Visible) (u : CallOnKey K V Q) (a : Alone w c blocks sights u) (on : OnBelow w c blocks sights u)
      (m2 : Mem (Node K V)) (p2 : KeyCall K V Q) where
    own_ends : (none : IsRowOfCall u.call.stands → ⊥) (progress : Called (Node K V)) → Continues progress → Steps Took value_at w.memory (call_plan asks same hash u.call) m2 (p2, progress) → Ends p2 m2
    own_ends none called.Goes more st =
        let f = own_falls same hash asks setting slot lawful w c blocks sights u a none initial m2 p2 st in
        subst (Ends p2) f.memory (on f.w2 f.c2 f.blocks2 f.sights2 (then_so u f.change2 p2) f.alone f.lower)
    own_ends none (called.Unstored value) more st =
        let l = (own.lone same hash asks setting slot lawful w c blocks sights u a none initial m2 p2 (called.Unstored value) st).told.1 a.lone in
        over_ends same hash asks p2 m2 l.1 l.2
    own_ends none (called.Gave value) more st = absurd ((own.lone same hash asks setting slot lawful w c blocks sights u a none initial m2 p2 (called.Gave value) st).told.0.facts)
    own_ends none called.Waits more st = absurd ((own.lone same hash asks setting slot lawful w c blocks sights u a none initial m2 p2 called.Waits st).told.1 a.lone)
    own_ends none (called.Asks asked) more st = absurd more
    own_ends none (called.Done answer) more st = absurd more
    own_ends none (called.Refused fault) more st = absurd more

    row_ends : (is_row : IsRowOfCall u.call.stands) (progress : Called (Node K V)) → Continues progress → Steps Took value_at w.memory (call_plan asks same hash u.call) m2 (p2, progress) → Ends p2 m2
    row_ends is_row progress more st =
        let r = rows.row_leads same hash asks setting slot lawful w c blocks sights u a is_row m2 p2 progress st in
        let lower = row_falls same hash asks setting slot lawful w c blocks sights u a is_row m2 p2 progress st more in
        subst (Ends p2) r.memory (on r.w2 c blocks sights (then_so u u.change p2) (still r.w2 progress more r.leads)
        (subst (λ (x : Mem (Node K V)). IsBelow (number_all hash (slot 0) c (seen_by blocks (sights (slot 0))) p2 x) (numbers w c blocks sights u)) (sym r.memory) lower))
      where
        still : (w2 : World (Node K V)) (x : Called (Node K V)) → Continues x → Leads same hash asks setting slot w w2 c blocks sights (then_so u u.change p2) x → Alone w2 c blocks sights (then_so u u.change p2)
        still w2 called.Goes more l = l
        still w2 called.Waits more l = absurd l
        still w2 (called.Gave value) more l = l.0
        still w2 (called.Unstored value) more l = l
        still w2 (called.Asks asked) more l = absurd more
        still w2 (called.Done answer) more l = absurd more
        still w2 (called.Refused fault) more l = absurd more

    step_ends : (progress : Called (Node K V)) → Continues progress → Steps Took value_at w.memory (call_plan asks same hash u.call) m2 (p2, progress) → Ends p2 m2
    step_ends progress more st = elim (row_decided u.call.stands) as (λ _. Ends p2 m2) [
      | inl is_row ↦ row_ends is_row progress more st
      | inr none ↦ own_ends none progress more st
    ]

  -- by the descent of its numbers
  from : (w : World (Node K V)) (c : Chart K) (blocks : Blocks) (sights : ℕ → Visible) (u : CallOnKey K V Q) → Alone w c blocks sights u → (xs : List ℕ) → numbers w c blocks sights u ≡ xs → EndsFrom xs
      → Ends u.call w.memory
  from w c blocks sights u a xs is (ends _ below) =
      runs_end (u.call, w.memory) (λ y s.
      step_ends w c blocks sights u a (λ w2 c2 blocks2 sights2 u2 a2 lower.
      from w2 c2 blocks2 sights2 u2 a2 (numbers w2 c2 blocks2 sights2 u2) refl
      (below (numbers w2 c2 blocks2 sights2 u2) (all_as_many hash (slot 0) c2 (seen_by blocks2 (sights2 (slot 0))) u2.call w2.memory ∙ sym (all_as_many hash (slot 0) c (seen_by blocks (sights (slot 0))) u.call w.memory) ∙ ap (λ (z : List ℕ). length z) is)
      (subst (λ (z : List ℕ). IsBelow (numbers w2 c2 blocks2 sights2 u2) z) is lower)))
      y.1 y.0 s.0 s.1 s.2)

  pub call_ends : (w : World (Node K V)) (c : Chart K) (blocks : Blocks) (sights : ℕ → Visible) (u : CallOnKey K V Q) → Alone w c blocks sights u → Ends u.call w.memory
  call_ends w c blocks sights u a = from w c blocks sights u a (numbers w c blocks sights u) refl (descents_end (numbers w c blocks sights u))

module _ {K V Q : Type 0} (same : K → K → Bool) (hash : K → ℕ) (asks : Q → K → Bool) (setting : Setting) (slot : ℕ → ℕ) where
  pub calls_come_to_an_end : CallsComeToAnEnd V same hash asks setting slot
  calls_come_to_an_end lawful initial w c blocks sights u a = call_ends same hash asks setting slot lawful initial w c blocks sights u a
