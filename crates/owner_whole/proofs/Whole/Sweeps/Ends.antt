-- A whole sweep for one owner comes to an end, with the rows that it begins, whatever it is told.
use Rattle.std.specs.Prelude.{◌≡◌, ℕ, Bool, List, length, [], ◌∷◌, ◌+◌}
use Rattle.std.specs.Int.{IsPowerOfTwo}
use Rattle.std.proofs.Common.{inl, inr, refl, ap, sym, subst, ◌∙◌, length-append}
use Rattle.seize_words.specs.OneMemory.Mem.{Mem, Took, value_at}
use Rattle.seize_words.specs.OneMemory.Plan.{Steps}
use Rattle.seize.specs.World.{World}
use Rattle.map_tables.specs.declared.node.Node.{Node}
use Rattle.map_tables.specs.declared.setting.Setting.{Setting}
use Rattle.papaya_raw.specs.Given.SweepsSweep.{sweep_plan}
use Rattle.papaya_raw.specs.Given.SweepsSweepPoints.{after_next, after_reply}
use Rattle.papaya_raw.specs.Given.ReservesDeclared.sweep.Sweep.{Sweep}
use Rattle.papaya_raw.specs.Given.ReservesDeclared.sweep.Sweeping.{Sweeping}
use Rattle.papaya_raw.specs.Given.ReservesDeclared.sweep.Sweeping.TheVariants as at
use Rattle.papaya_raw.specs.Given.ReservesDeclared.sweep.Swept.{Swept}
use Rattle.papaya_raw.specs.Given.ReservesDeclared.sweep.Swept.TheVariants as swept
use Rattle.map_measures.specs.Given.RuleChart.{Chart}
use Rattle.map_measures.specs.Given.RuleWords.{Blocks}
use Rattle.map_measures.specs.Given.PointsMeasures.{IsBelow, EndsFrom, ends}
use Rattle.owner_facts.specs.Given.PointsSteps.{AreLawful}
use Rattle.map_measures.proofs.Given.PointsDescents.{descents_end}
use Rattle.owner_facts.specs.Alone.Endings.{runs_end}
use Rattle.owner_facts.specs.Given.LateToldSweeps.{IsRowOfSweep}
use Rattle.map_measures.specs.Passes.FallsSweeps.{AdvancesFrom}
use Rattle.map_measures.specs.Passes.Sweeps.{number_of_sweep}
use Rattle.map_measures.proofs.Passes.Laws.{telling_falls}
use Rattle.owner_facts.specs.Given.CallersOverAll.{CallOverAll, gone_on, come_to, with_verdict, row_of_sweep}
use Rattle.owner_facts.specs.Given.CallersSights.{Visible, seen_by}
use Rattle.owner_facts.specs.Given.CallersTogether.{OverAll}
use Rattle.owner_whole.specs.Whole.Owner.{IsAlone}
use Rattle.owner_whole.specs.Whole.WholeSweeps.{SweepsOn, Terminates, SweepLeads, SweepsComeToAnEnd}
use Rattle.owner_whole.proofs.Whole.Keys.Falls.{row_left}
use Rattle.owner_whole.proofs.Whole.Sweeps.Falls.{sweep_numbers, row_lower}
use Rattle.owner_whole.proofs.Whole.Sweeps.Leads.{sweep_decided}
use Rattle.owner_whole.proofs.Whole.Sweeps.Own as own
use Rattle.owner_whole.proofs.Whole.Sweeps.Rows as rows
use Rattle.owner_whole.proofs.Whole.Sweeps.ToldOn.{told_on}
use Rattle.map_measures.proofs.Falls.Below.{below_followed as lower_more}
use Rattle.map_measures.proofs.Passes.Promised.{sweep_numbers_are_as_many}

module _ {K V Q : Type 0} (same : K → K → Bool) (hash : K → ℕ) (asks : Q → K → Bool) (setting : Setting) (slot : ℕ → ℕ) (lawful : AreLawful same hash) (initial : IsPowerOfTwo setting.initial) where
  abbrev Alone : World (Node K V) → Chart K → Blocks → (ℕ → Visible) → CallOverAll → Type 0
  Alone w c blocks sights o = IsAlone {Q = Q} same hash asks setting slot w c blocks sights (OverAll o)

  abbrev Ends : Sweep → Mem (Node K V) → Type 0
  Ends = Terminates {V = V} hash

  abbrev numbers : World (Node K V) → Chart K → Blocks → (ℕ → Visible) → CallOverAll → List ℕ
  numbers w c blocks sights o = sweep_numbers hash (slot 0) c (seen_by blocks (sights (slot 0))) o.sweep w.memory

  all_as_many : (c : Chart K) (b : Blocks) (p : Sweep) (m : Mem (Node K V)) → length (sweep_numbers hash (slot 0) c b p m) ≡ 12
  all_as_many c b p m = length-append (number_of_sweep hash c b p) (row_left (row_of_sweep (slot 0) p.stands) m ∷ []) ∙ ap (λ (x : ℕ). x + 1) (sweep_numbers_are_as_many hash c b p)

  abbrev OnBelow : World (Node K V) → Chart K → Blocks → (ℕ → Visible) → CallOverAll → Type 0
  OnBelow w0 c0 blocks0 sights0 o0 =
      (w : World (Node K V)) (c : Chart K) (blocks : Blocks) (sights : ℕ → Visible) (o : CallOverAll) → Alone w c blocks sights o
      → IsBelow (numbers w c blocks sights o) (numbers w0 c0 blocks0 sights0 o0) → Ends o.sweep w.memory

  -- where it goes on it is alone
  alone_of : (w w2 : World (Node K V)) (c2 : Chart K) (blocks2 : Blocks) (sights2 : ℕ → Visible) (o2 : CallOverAll) (stands : Sweeping) (x : Swept (Node K V)) → AdvancesFrom stands x
      → SweepLeads {Q = Q} same hash asks setting slot w w2 c2 blocks2 sights2 o2 x → Alone w2 c2 blocks2 sights2 o2
  alone_of w w2 c2 blocks2 sights2 o2 stands swept.Goes more l = l
  alone_of w w2 c2 blocks2 sights2 o2 stands swept.Waits more l = absurd l
  alone_of w w2 c2 blocks2 sights2 o2 stands (swept.Gave value) more l = l.0
  alone_of w w2 c2 blocks2 sights2 o2 stands swept.Ready more l = l.0
  alone_of w w2 c2 blocks2 sights2 o2 stands (swept.Pair word) more l = l.0
  alone_of w w2 c2 blocks2 sights2 o2 stands (swept.Asks word) more l = l.0
  alone_of w w2 c2 blocks2 sights2 o2 stands swept.Done more l = absurd more
  alone_of w w2 c2 blocks2 sights2 o2 stands (swept.Refused fault) more l = absurd more

  module _ (w : World (Node K V)) (c : Chart K) (blocks : Blocks) (sights : ℕ → Visible) (o : CallOverAll) (a : Alone w c blocks sights o) (on : OnBelow w c blocks sights o) where
    abbrev seen : Blocks
    seen = seen_by blocks (sights (slot 0))

    own_ends : (none : IsRowOfSweep o.sweep.stands → ⊥) (m2 : Mem (Node K V)) (p2 : Sweep) (end : Swept (Node K V)) → AdvancesFrom o.sweep.stands end
        → Steps Took value_at w.memory (sweep_plan hash o.sweep) m2 (p2, end) → Ends p2 m2
    own_ends none m2 p2 end more st =
        let went = own.went same hash asks setting slot lawful w c blocks sights o a none initial m2 p2 end st in
        let stepped = own.stepped same hash asks setting slot lawful w c blocks sights o a none initial m2 p2 end st in
        let seen2 = own.seen2 same hash asks setting slot lawful w c blocks sights o a none initial m2 p2 end st in
        let l = own.leads same hash asks setting slot lawful w c blocks sights o a none initial m2 p2 end st in
        subst (Ends p2) went.memory
        (on went.w2 went.c2 stepped.blocks2 stepped.sights2 (come_to o stepped.entered2 stepped.done2 p2)
        (alone_of w went.w2 went.c2 stepped.blocks2 stepped.sights2 (come_to o stepped.entered2 stepped.done2 p2) o.sweep.stands end more l)
        (lower_more (number_of_sweep hash went.c2 seen2 p2) (number_of_sweep hash c seen o.sweep) _ _
        (own.own_lower same hash asks setting slot lawful w c blocks sights o a none initial m2 p2 end st more)))

    row_ends : (is_row : IsRowOfSweep o.sweep.stands) (m2 : Mem (Node K V)) (p2 : Sweep) (end : Swept (Node K V)) → AdvancesFrom o.sweep.stands end
        → Steps Took value_at w.memory (sweep_plan hash o.sweep) m2 (p2, end) → Ends p2 m2
    row_ends is_row m2 p2 end more st =
        let led = rows.led same hash asks setting slot lawful w c blocks sights o a is_row m2 p2 end st in
        let l = rows.row_leads same hash asks setting slot lawful w c blocks sights o a is_row m2 p2 end st in
        let lower = row_lower same hash asks setting slot lawful w c blocks sights o a is_row m2 p2 end st more in
        subst (Ends p2) led.memory
        (on led.w2 c blocks sights (gone_on o p2) (alone_of w led.w2 c blocks sights (gone_on o p2) o.sweep.stands end more l)
        (subst (λ (x : Mem (Node K V)). IsBelow (sweep_numbers hash (slot 0) c seen p2 x) (numbers w c blocks sights o)) (sym led.memory) lower))

    step_ends : (m2 : Mem (Node K V)) (p2 : Sweep) (end : Swept (Node K V)) → AdvancesFrom o.sweep.stands end → Steps Took value_at w.memory (sweep_plan hash o.sweep) m2 (p2, end) → Ends p2 m2
    step_ends m2 p2 end more st = elim (sweep_decided o.sweep.stands) as (λ _. Ends p2 m2) [
      | inl is_row ↦ row_ends is_row m2 p2 end more st
      | inr none ↦ own_ends none m2 p2 end more st
    ]

    -- what it is asked, or told, lowers its numbers
    next_ends : o.sweep.stands ≡ at.Ready → Ends (after_next o.sweep) w.memory
    next_ends is =
        let none : IsRowOfSweep o.sweep.stands → ⊥ = λ row. subst IsRowOfSweep is row in
        let k = own.knows_here same hash asks setting slot lawful w c blocks sights o a none in
        let falls = telling_falls V same hash (own.here same hash asks setting slot lawful w c blocks sights o a) w 0 c seen o.began o.sweep (own.map same hash asks setting slot lawful w c blocks sights o a) k.knows.facts in
        on w c blocks sights (gone_on o (after_next o.sweep)) ((told_on same hash asks setting slot lawful w c blocks sights o a).next is)
        (lower_more (number_of_sweep hash c seen (after_next o.sweep)) (number_of_sweep hash c seen o.sweep) _ _ (falls.0 is))

    reply_ends : (word : ℕ) → o.sweep.stands ≡ at.Asks word → (keeps : Bool) → Ends (after_reply o.sweep keeps) w.memory
    reply_ends word is keeps =
        let none : IsRowOfSweep o.sweep.stands → ⊥ = λ row. subst IsRowOfSweep is row in
        let k = own.knows_here same hash asks setting slot lawful w c blocks sights o a none in
        let falls = telling_falls V same hash (own.here same hash asks setting slot lawful w c blocks sights o a) w 0 c seen o.began o.sweep (own.map same hash asks setting slot lawful w c blocks sights o a) k.knows.facts in
        let told = told_on same hash asks setting slot lawful w c blocks sights o a in
        let it = told.asks_about word is in
        on w c blocks sights (with_verdict o it.0 keeps) (told.replied word it.0 it.1 it.2 is it.3.0 keeps).0
        (lower_more (number_of_sweep hash c seen (after_reply o.sweep keeps)) (number_of_sweep hash c seen o.sweep) _ _ (falls.1 word is keeps))

    any_ends : (y : Sweep × Mem (Node K V)) → SweepsOn hash (o.sweep, w.memory) y → Ends y.0 y.1
    any_ends y (inl (end, more, st)) = step_ends y.1 y.0 end more st
    any_ends y (inr (same_memory, inl (is, next))) =
        subst (λ (m : Mem (Node K V)). Ends y.0 m) (sym same_memory) (subst (λ (p : Sweep). Ends p w.memory) (sym next) (next_ends is))
    any_ends y (inr (same_memory, inr (word, is, keeps, next))) =
        subst (λ (m : Mem (Node K V)). Ends y.0 m) (sym same_memory) (subst (λ (p : Sweep). Ends p w.memory) (sym next) (reply_ends word is keeps))

  -- by the descent of its numbers
  from : (w : World (Node K V)) (c : Chart K) (blocks : Blocks) (sights : ℕ → Visible) (o : CallOverAll) → Alone w c blocks sights o → (xs : List ℕ) → numbers w c blocks sights o ≡ xs → EndsFrom xs
      → Ends o.sweep w.memory
  from w c blocks sights o a xs is (ends _ below) =
      runs_end (o.sweep, w.memory) (λ y s.
      any_ends w c blocks sights o a (λ w2 c2 blocks2 sights2 o2 a2 lower.
      from w2 c2 blocks2 sights2 o2 a2 (numbers w2 c2 blocks2 sights2 o2) refl
      (below (numbers w2 c2 blocks2 sights2 o2) (all_as_many c2 (seen_by blocks2 (sights2 (slot 0))) o2.sweep w2.memory ∙ sym (all_as_many c (seen_by blocks (sights (slot 0))) o.sweep w.memory) ∙ ap (λ (z : List ℕ). length z) is)
      (subst (λ (z : List ℕ). IsBelow (numbers w2 c2 blocks2 sights2 o2) z) is lower)))
      y s)

module _ {K V Q : Type 0} (same : K → K → Bool) (hash : K → ℕ) (asks : Q → K → Bool) (setting : Setting) (slot : ℕ → ℕ) where
  pub sweeps_come_to_an_end : SweepsComeToAnEnd V same hash asks setting slot
  sweeps_come_to_an_end lawful initial w c blocks sights o a =
      from same hash asks setting slot lawful initial w c blocks sights o a (numbers same hash asks setting slot lawful initial w c blocks sights o) refl
      (descents_end (numbers same hash asks setting slot lawful initial w c blocks sights o))
