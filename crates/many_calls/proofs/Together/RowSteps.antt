-- What one step of a retirement or of a deferral comes to among many callers.
use Rattle.std.specs.Prelude.{◌/◌, ◌+◌, ◌≡◌, ◌≢◌, ℕ, Bool, Option}
use Rattle.std.proofs.Common.{refl, ap, sym, subst, inl, inr}
use Rattle.seize_model.specs.Given.SeizeWordsMem.{Mem, Can, Took, value_at}
use Rattle.seize_model.specs.Given.SeizeWordsPlan.{May, Steps}
use Rattle.seize_model.proofs.Given.SeizeWordsOneOwner.Operations.{loaded, stored, exchanged}
use Rattle.seize_model.specs.Given.SeizeWordsDeclared.fault.Fault.{Fault}
use Rattle.seize_model.specs.Given.SeizeWordsDeclared.at.At.TheVariants.{Entry}
use Rattle.seize_model.specs.Given.SeizeDeclared.states.TheConstants.{LAST_SLOT, NEXT}
use Rattle.seize_model.specs.Given.SeizeDeclared.advance.Advance.{Advance}
use Rattle.seize_model.specs.Given.SeizeDeclared.advance.Advance.TheVariants as progress
use Rattle.seize_model.specs.Given.SeizeDeclared.rows.defer.Defer.{Defer}
use Rattle.seize_model.specs.Given.SeizeDeclared.rows.defer.Deferring.{Deferring}
use Rattle.seize_model.specs.Given.SeizeDeclared.rows.defer.Deferring.TheVariants as deferring
use Rattle.seize_model.specs.Given.SeizeDeclared.rows.settle.Settle.{Settle}
use Rattle.seize_model.specs.Given.SeizeDeclared.rows.settle.Settled.{Settled}
use Rattle.seize_model.specs.Given.SeizeDeclared.rows.settle.Settled.TheVariants as settled
use Rattle.seize_model.specs.Given.SeizeDefer as defer
use Rattle.seize_model.specs.Given.SeizeSettle.{settle_plan}
use Rattle.seize_model.specs.Given.SeizeWorld.{World, Row, Rests, Settles, Defers, Use, Vacant, Outside, Inside, Changing, Step, Happens, Steps', IsInside, one_less, with_at, settles_on, defers_on}
use Rattle.seize_model.proofs.Given.SeizeRuleRows.Others.{with_here}
use Rattle.seize_model.proofs.Given.SeizeRuleWorld.Kept.{row_may}
use Rattle.seize_model.proofs.Alone.Histories.Uses.{inside_kept}
use Rattle.map_facts_late.specs.Given.TablesNodes.{deferred_word}
use Rattle.map_facts_late.specs.Given.TablesDeclared.node.Node.{Node}
use Rattle.map_facts_late.specs.Given.TablesDeclared.setting.Setting.{Setting}
use Rattle.map_facts_late.specs.Given.RawDeclared.machines.call.KeyCall.{KeyCall}
use Rattle.map_facts_late.specs.Given.RuleChart.{Chart}
use Rattle.map_facts_late.specs.Given.RuleWords.{Blocks}
use Rattle.map_facts_late.specs.Given.PointsSteps.{AreLawful}
use Rattle.map_facts_late.proofs.Given.RuleWorld.Hands.{at_cases}
use Rattle.many_calls.specs.Sights.{Visible, seen_by}
use Rattle.many_calls.specs.Together.{in_slot, CallOnKey, Ground, UnderWay, PutsWithin, IsReclaimed, Knows, Together}
use Rattle.many_calls.proofs.Rows.Gives.{gives}
use Rattle.many_calls.proofs.Together.Came.{came_reached}
use Rattle.many_calls.proofs.Together.Rows.{part2, others_step, ground_row, puts2, knows_row, others_row}
use Rattle.map_facts_late.specs.Given.PointsOthers.{OthersStep}
use Rattle.map_facts_late.specs.Given.RuleInWorld.{IsMapIn}
use Rattle.many_calls.proofs.Together.Fits.{Fits}

-- the row after a step of a retirement, and of a deferral
abbrev pub after_settle : {T : Type 0} → Settle → Settled T → Row
after_settle d settled.Done = Rests
after_settle d _ = Settles d

abbrev pub after_defer : ℕ → Defer → Advance Unit → Row
after_defer s d (progress.Done u) = Rests
after_defer s d _ = Defers s d

-- nothing refuses a deferral
module _ {T : Type 0} (m m2 : Mem T) (c d : Defer) (fault : Fault) where
  not_refused : (x : Defer) → ◌≡◌ {A = Defer × Advance Unit} (d, progress.Refused fault) (x, progress.Goes) → ⊥
  not_refused x e = let p = ap (λ (q : Defer × Advance Unit). q.1) e in cc p

  refused_at : (p : Deferring) → Steps Took value_at m (defer.plan_at {T = T} c p) m2 (d, progress.Refused fault) → ⊥
  refused_at deferring.Reads s = not_refused _ (loaded m (defer.head_read c) c.table_word m2 (d, progress.Refused fault) s).3
  refused_at (deferring.Links head) s = not_refused _ (stored m (λ out. defer.goes c (deferring.Pushes head)) (Entry (c.block / 2048) NEXT) head m2 (d, progress.Refused fault) s).1
  refused_at (deferring.Pushes head) s = elim (exchanged m (defer.after_push c) c.table_word head c.block m2 (d, progress.Refused fault) s) as (λ _. ⊥) [
    | inl e ↦ not_refused _ e.3
    | inr e ↦ not_refused _ e.3
  ]
  refused_at deferring.Over s = let p = ap (λ (q : Defer × Advance Unit). q.1) s.1 in cc p

  pub never_refused : Steps Took value_at m (defer.defer_plan {T = T} c) m2 (d, progress.Refused fault) → ⊥
  never_refused s = refused_at c.stands s

pub less_inside : (u : Use) → IsInside (one_less u) → IsInside u
less_inside Vacant h = h
less_inside (Outside k) h = h
less_inside (Inside k) h = tt
less_inside Changing h = h

pub less_back : (uses : ℕ → Use) (s t : ℕ) → IsInside (with_at uses s (one_less (uses s)) t) → IsInside (uses t)
less_back uses s t = at_cases (λ (u : Use). IsInside u → IsInside (uses t)) uses s (one_less (uses s)) t
    (λ e h. subst (λ (x : ℕ). IsInside (uses x)) (sym e) (less_inside (uses s) h)) (λ ne h. h)

module _ {K V Q : Type 0} (same : K → K → Bool) (hash : K → ℕ) (asks : Q → K → Bool) (setting : Setting) (slot : ℕ → ℕ) (lawful : AreLawful same hash)
    (w : World (Node K V)) (c : Chart K) (blocks : Blocks) (sights : ℕ → Visible) (calls : ℕ → Option (UnderWay K V Q)) (s : Together V same hash asks setting slot w c blocks sights calls)
    (i : ℕ) (inside : IsInside (w.uses (slot i))) where
  -- where a step of a row leads: all others stand, and what this caller knows of its call it knows on
  pub record RowCame (m2 : Mem (Node K V)) (row : Row) : Type 0 where
    pub w2 : World (Node K V)
    pub memory : w2.memory ≡ m2
    pub happened : Happens deferred_word setting.batch_size (Step i) w w2
    pub ground : Ground V same hash asks setting slot w2 c blocks sights
    pub others : (j : ℕ) → j ≢ i → Fits same hash asks setting slot w2 c blocks (sights (slot j)) j (calls j)
    pub still_inside : IsInside (w2.uses (slot i))
    pub puts : PutsWithin calls w2 c blocks
    pub row_is : w2.row i ≡ row
    -- what it looked at is as it was
    pub sees : IsMapIn same hash (in_slot setting (slot i)) w2 c (seen_by blocks (sights (slot i)))
    pub stays : OthersStep same hash (in_slot setting (slot i)) i w c (seen_by blocks (sights (slot i))) w2 c (seen_by blocks (sights (slot i)))
    pub knows : (u : CallOnKey K V Q) (p : KeyCall K V Q) → Knows V same hash asks setting slot w c (seen_by blocks (sights (slot i))) i u p → Knows V same hash asks setting slot w2 c (seen_by blocks (sights (slot i))) i u p

  came : (m2 : Mem (Node K V)) (row : Row) (w2 : World (Node K V)) → w2.memory ≡ m2 → w2.row i ≡ row → Steps' deferred_word i (w.row i) w w2
      → ((t : ℕ) → IsInside (w2.uses t) → IsInside (w.uses t)) → RowCame m2 row
  came m2 row w2 memory is step back = record {
    w2 = w2;
    memory = memory;
    happened = step;
    ground = ground_row same hash asks setting slot lawful w c blocks sights calls s i w2 step back;
    others = others_row same hash asks setting slot lawful w c blocks sights calls s i w2 step;
    still_inside = inside_kept deferred_word setting.batch_size w (came_reached setting.batch_size w s.ground.came) i w2 step (slot i) inside;
    puts = puts2 same hash asks setting slot lawful w c blocks sights calls s i w2 step;
    row_is = is;
    sees = part2 same hash asks setting slot lawful w c blocks sights calls s i w2 step i inside;
    stays = others_step same hash asks setting slot lawful w c blocks sights calls s i w2 step i (sights (slot i)) (s.ground.sight (slot i) inside).0.pairs;
    knows = knows_row same hash asks setting slot lawful w c blocks sights calls s i w2 step inside;
  }

  module _ (m2 : Mem (Node K V)) where
    module _ (c0 : Settle) (is : w.row i ≡ Settles c0) where
      pub settle_may : May Can Took value_at w.memory (settle_plan deferred_word c0)
      settle_may = row_may deferred_word (LAST_SLOT + 1) setting.batch_size refl w (came_reached setting.batch_size w s.ground.came).good i (Settles c0) is

      stepped : (end : Settle × Settled (Node K V)) → Steps Took value_at w.memory (settle_plan deferred_word c0) m2 end → Steps' deferred_word i (w.row i) w (settles_on w i c0 m2 end)
      stepped end st = subst (λ (r : Row). Steps' deferred_word i r w (settles_on w i c0 m2 end)) (sym is) (m2, end, st, refl)

      pub settle_came : (d : Settle) (p : Settled (Node K V)) → Steps Took value_at w.memory (settle_plan deferred_word c0) m2 (d, p) → RowCame m2 (after_settle d p)
      settle_came d settled.Goes st = came m2 (Settles d) (settles_on w i c0 m2 (d, settled.Goes)) refl (with_here w.row i (Settles d)) (stepped (d, settled.Goes) st) (λ t h. h)
      settle_came d settled.Waits st = came m2 (Settles d) (settles_on w i c0 m2 (d, settled.Waits)) refl (with_here w.row i (Settles d)) (stepped (d, settled.Waits) st) (λ t h. h)
      settle_came d (settled.Gave value) st = came m2 (Settles d) (settles_on w i c0 m2 (d, settled.Gave value)) refl (with_here w.row i (Settles d)) (stepped (d, settled.Gave value) st) (λ t h. h)
      settle_came d settled.Done st = came m2 Rests (settles_on w i c0 m2 (d, settled.Done)) refl (with_here w.row i Rests) (stepped (d, settled.Done) st) (λ t h. less_back w.uses c0.slot t h)

      -- what it gives was in a block that it has taken
      pub settle_gives : (d : Settle) (value : Node K V) (st : Steps Took value_at w.memory (settle_plan deferred_word c0) m2 (d, settled.Gave value)) → IsReclaimed w (settle_came d (settled.Gave value) st).w2 value
      unfolding settle_came came
      settle_gives d value st = gives deferred_word setting.batch_size w (came_reached setting.batch_size w s.ground.came) i c0 is m2 d value st

    module _ (c0 : Defer) (is : w.row i ≡ Defers (slot i) c0) where
      pub defer_may : May Can Took value_at w.memory (defer.defer_plan c0)
      defer_may = row_may deferred_word (LAST_SLOT + 1) setting.batch_size refl w (came_reached setting.batch_size w s.ground.came).good i (Defers (slot i) c0) is

      deferred : (end : Defer × Advance Unit) → Steps Took value_at w.memory (defer.defer_plan c0) m2 end → Steps' deferred_word i (w.row i) w (defers_on w i (slot i) m2 end)
      deferred end st = subst (λ (r : Row). Steps' deferred_word i r w (defers_on w i (slot i) m2 end)) (sym is) (m2, end, st, refl)

      pub defer_came : (d : Defer) (p : Advance Unit) → Steps Took value_at w.memory (defer.defer_plan c0) m2 (d, p) → RowCame m2 (after_defer (slot i) d p)
      defer_came d progress.Goes st = came m2 (Defers (slot i) d) (defers_on w i (slot i) m2 (d, progress.Goes)) refl (with_here w.row i (Defers (slot i) d)) (deferred (d, progress.Goes) st) (λ t h. h)
      defer_came d progress.Waits st = came m2 (Defers (slot i) d) (defers_on w i (slot i) m2 (d, progress.Waits)) refl (with_here w.row i (Defers (slot i) d)) (deferred (d, progress.Waits) st) (λ t h. h)
      defer_came d (progress.Done x) st = came m2 Rests (defers_on w i (slot i) m2 (d, progress.Done x)) refl (with_here w.row i Rests) (deferred (d, progress.Done x) st) (λ t h. less_back w.uses (slot i) t h)
      defer_came d (progress.Refused fault) st = absurd (never_refused w.memory m2 c0 d fault st)
