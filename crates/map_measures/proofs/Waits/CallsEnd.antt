-- In incremental mode, after each step of a call on one key each copying that is not over has who ends it, if so before.
use Rattle.std.specs.Prelude.{Option, Some, None}
use Rattle.std.specs.Int.{IsPowerOfTwo}
use Rattle.std.proofs.Common.{◌≡◌, ℕ, Bool, true, ◌⊎◌, inl, inr, refl, ap, sym, subst, ◌∙◌}
use Rattle.seize_words.specs.OneMemory.Mem.{Mem, Took, value_at}
use Rattle.seize_words.specs.OneMemory.Plan.{Steps}
use Rattle.seize.specs.World.{World, Rests, with_at}
use Rattle.seize_acts.proofs.Given.SeizeRuleRows.Leaving.{steps_back}
use Rattle.map_tables.specs.Chunks.{is_incremental}
use Rattle.map_tables.specs.declared.node.Node.{Node}
use Rattle.map_tables.specs.declared.setting.Setting.{Setting}
use Rattle.map_tables.specs.declared.table.Table.{Table}
use Rattle.map_machines.specs.Copier.{copier_plan}
use Rattle.map_machines.specs.declared.yielding.Yielding.{Yielding}
use Rattle.map_machines.specs.declared.yielding.Yielding.TheVariants as outcome
use Rattle.map_machines.specs.declared.copier.Copier.{Copier}
use Rattle.many_calls.specs.Given.RawCall.{plan_at, call_plan, helped}
use Rattle.many_calls.specs.Given.RawDeclared.machines.answer.Called.{Called}
use Rattle.many_calls.specs.Given.RawDeclared.machines.call.KeyCall.{KeyCall}
use Rattle.many_calls.specs.Given.RawDeclared.machines.call.Calling.{Calling}
use Rattle.many_calls.specs.Given.RawDeclared.machines.call.Calling.TheVariants as at
use Rattle.many_calls.specs.Given.RuleChart.{Chart}
use Rattle.many_calls.specs.Given.RuleInWorld.{IsMapIn}
use Rattle.many_calls.specs.Given.RuleWords.{Blocks}
use Rattle.many_calls.specs.Given.PointsFactsCalls.{CallFacts, CallingFacts, IsCopying, Unchanged}
use Rattle.many_calls.specs.Given.PointsFactsCopies.{CopierFacts}
use Rattle.many_calls.specs.Given.PointsSteps.{AreLawful}
use Rattle.many_calls.specs.Given.PointsTold.{IsRowOfCall, MovedBesideCopying}
use Rattle.many_calls.specs.Given.LateLateCalls.{SupersededCallFacts}
use Rattle.many_calls.specs.Rows.{row_of, once_over}
use Rattle.many_calls.specs.Sights.{Visible, seen_by}
use Rattle.many_calls.specs.Together.{CallOnKey, UnderWay, OnKey, Knows, Together, StepsTogether, StepOutcome, Fresh, Late, change_observed, next_of, in_slot}
use Rattle.map_measures.specs.Waits.Others.{HaveEnds, copier_in, CallsPreserveEnds}
use Rattle.map_measures.proofs.Waits.CopiersKeep.{beside_keeps, copier_keeps}
use Rattle.map_measures.proofs.Waits.EndingCalls.{copier_then}
use Rattle.map_measures.proofs.Waits.Promised.{map_of}
use Rattle.map_measures.proofs.Waits.SameEnds.{Reached}

-- a call goes on within its copier where that goes on
helps_on : {K V Q : Type 0} (p : KeyCall K V Q) (goal : Table) (like : KeyCall K V Q → CallOnKey K V Q) → ((q : KeyCall K V Q) → (like q).call ≡ q)
    → (b : Copier × Yielding (Node K V) Table) (p2 : KeyCall K V Q) (progress : Called (Node K V)) → (p2, progress) ≡ helped p goal b → b.1 ≡ outcome.Goes
    → copier_then (next_of (like p2) progress) ≡ Some b.0
helps_on {K} {V} {Q} p goal like its (q, outcome.Goes) p2 progress e goes =
    ap (λ (x : KeyCall K V Q × Called (Node K V)). copier_then (next_of (like x.0) x.1)) e
    ∙ ap (λ (x : KeyCall K V Q). copier_in x.stands) (its (record p { stands = at.Helps q goal }))
helps_on p goal like its (q, outcome.Waits) p2 progress e goes = absurd (cc goes)
helps_on p goal like its (q, outcome.Gave value) p2 progress e goes = absurd (cc goes)
helps_on p goal like its (q, outcome.Done table) p2 progress e goes = absurd (cc goes)
helps_on p goal like its (q, outcome.Refused fault) p2 progress e goes = absurd (cc goes)

module _ {K Q : Type 0} (V : Type 0) (same : K → K → Bool) (hash : K → ℕ) (asks : Q → K → Bool) (setting : Setting) (slot : ℕ → ℕ) where
  module _ (are : AreLawful same hash) (power : IsPowerOfTwo setting.initial) (mode : is_incremental setting.mode ≡ true)
      (w : World (Node K V)) (c : Chart K) (blocks : Blocks) (sights : ℕ → Visible) (calls : ℕ → Option (UnderWay K V Q))
      (s : Together V same hash asks setting slot w c blocks sights calls) (ends : HaveEnds c calls)
      (i : ℕ) (u : CallOnKey K V Q) (has : calls i ≡ Some (OnKey u)) (none : IsRowOfCall u.call.stands → ⊥)
      (m2 : Mem (Node K V)) (p2 : KeyCall K V Q) (progress : Called (Node K V)) (steps : Steps Took value_at w.memory (call_plan asks same hash u.call) m2 (p2, progress))
      (leads : StepsTogether V same hash asks setting slot w c blocks sights calls i u m2 p2 progress) where
    abbrev seen : Blocks
    seen = seen_by blocks (sights (slot i))

    abbrev its_setting : Setting
    its_setting = in_slot setting (slot i)

    map : IsMapIn same hash its_setting w c seen
    map = map_of V same hash asks setting slot w c blocks sights calls s i (s.inside i (OnKey u) has)

    abbrev like : KeyCall K V Q → CallOnKey K V Q
    like p = record { keys = u.keys; pair = u.pair; began = u.began; change = change_observed V same hash asks setting slot leads.went.told; call = p }

    abbrev next : Option (UnderWay K V Q)
    next = next_of (like p2) progress

    abbrev After : Type 0
    After = HaveEnds leads.went.c2 (with_at calls i next)

    reached : Reached same hash its_setting are.lawful mode w i c seen map m2 leads.went.c2 leads.went.blocks2
    reached = (leads.went.w2, leads.went.memory, leads.went.map, leads.went.blocks_same, leads.went.tables, leads.went.moved)

    -- beside a copying
    by_beside : copier_in u.call.stands ≡ None → (IsCopying u.call.stands → ⊥) → After
    by_beside within apart =
        beside_keeps same hash are its_setting power mode w i c seen map calls ends m2 leads.went.c2 leads.went.blocks2 reached next (ap copier_then has ∙ within) (told leads.went.told)
      where
        told : StepOutcome V same hash asks setting slot c i u p2 progress leads.went.w2 leads.went.c2 leads.went.blocks2 → MovedBesideCopying hash its_setting.mode c leads.went.c2
        told (Fresh fresh) = fresh.beside apart
        told (Late blocking same_change late) = absurd (cc (mode, blocking))

    -- within one, by what its copier tells
    by_copier : (copier : Copier) (goal : Table) → u.call.stands ≡ at.Helps copier goal → CopierFacts same hash w i its_setting c seen copier → After
    by_copier copier goal here facts =
        let d = steps_back (helped u.call goal) w.memory m2 (copier_plan hash copier) (p2, progress)
        (subst (λ (stands : Calling). Steps Took value_at w.memory (plan_at asks same hash u.call stands) m2 (p2, progress)) here steps) in
        copier_keeps same hash are its_setting power mode w i c seen map calls ends m2 leads.went.c2 leads.went.blocks2 reached next copier (ap copier_then has ∙ ap copier_in here) facts
        (λ row. none (subst (λ (stands : Calling). IsRowOfCall stands) (sym here) row)) d.0 d.1
        (helps_on u.call goal like (λ q. refl) d.0 p2 progress d.2)

    by_fresh : (stands : Calling) → u.call.stands ≡ stands → CallingFacts same hash asks w i its_setting c seen u.keys u.change u.call stands → After
    by_fresh (at.Helps copier goal) here f = by_copier copier goal here f.6
    by_fresh (at.Copies copier) here f = absurd (let blocking = f.1 in cc (mode, blocking))
    by_fresh _ here f = by_beside (ap copier_in here) (λ copying. subst (λ (stands : Calling). IsCopying stands) here copying)

    call_keeps : After
    call_keeps = by (s.stand i (OnKey u) has)
      where
        knows : CallFacts same hash asks w i its_setting c seen u.keys u.change u.call
            ⊎ ((u.change ≡ Unchanged) × SupersededCallFacts same hash asks w i its_setting c seen u.keys u.began u.call) → After
        knows (inl fresh) = by_fresh u.call.stands refl fresh.point
        knows (inr (same_change, late)) = absurd (let blocking = late.blocking in cc (mode, blocking))

        by : ((w.row i ≡ Rests) × Knows V same hash asks setting slot w c seen i u u.call)
            ⊎ ((w.row i ≡ row_of (slot i) u.call.stands) × IsRowOfCall u.call.stands × Knows V same hash asks setting slot w c seen i u (once_over u.call)) → After
        by (inl rests) = knows rests.1.facts
        by (inr within) = absurd (none within.1)

  pub calls_keep_ends : CallsPreserveEnds V same hash asks setting slot
  calls_keep_ends are power mode w c blocks sights calls s ends i u has none m2 p2 progress steps leads =
      call_keeps are power mode w c blocks sights calls s ends i u has none m2 p2 progress steps leads
