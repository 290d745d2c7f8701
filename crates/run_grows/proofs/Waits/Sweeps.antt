-- A step of a sweep: which pair it has in hand then, by where it stood.
use Rattle.std.specs.Prelude.{◌≡◌, ℕ, ◌==◌, nat_lt, ◌&&◌, ◌≤◌, Bool, true, false, Some, None, Ok, Err, if◌then◌else◌}
use Rattle.std.proofs.Common.{refl, ap, sym, subst, ◌∙◌}
use Rattle.run_finds.specs.Given.SeizeWordsMem.{Mem, value_at, word_at}
use Rattle.run_finds.specs.Given.SeizeWordsOp.{Out, Exchange, Found, Exchanged}
use Rattle.run_finds.specs.Given.SeizeWordsPlan.{Ends}
use Rattle.run_finds.specs.Given.SeizeWordsWord.{block_in}
use Rattle.run_finds.specs.Given.SeizeWordsDeclared.at.At.TheVariants.{Root}
use Rattle.run_finds.specs.Given.SeizeDeclared.rows.settle.Settled.{Settled}
use Rattle.run_finds.specs.Given.SeizeDeclared.rows.settle.Settled.TheVariants as settling
use Rattle.run_finds.specs.Given.TablesChunks.{is_incremental}
use Rattle.run_finds.specs.Given.TablesMarks.{has_mark}
use Rattle.run_finds.specs.Given.TablesNodes.{table_seen}
use Rattle.papaya_raw.specs.Given.TablesTablePlaces.{at_place}
use Rattle.run_finds.specs.Given.TablesDeclared.marks.TheConstants.{COPYING, TOMBSTONE}
use Rattle.run_finds.specs.Given.TablesDeclared.node.Node.{Node}
use Rattle.run_finds.specs.Given.TablesDeclared.table.Table.{Table}
use Rattle.run_finds.specs.Given.ResizeCopier.{copier_plan}
use Rattle.papaya_raw.specs.Given.ResizeDispose.{disposing, dispose_plan}
use Rattle.run_finds.specs.Given.ResizeDeclared.copier.Copier.{Copier}
use Rattle.run_finds.specs.Given.ResizeDeclared.dispose.Dispose.{Dispose}
use Rattle.run_finds.specs.Given.ResizeDeclared.dispose.Disposing.TheVariants as disposal
use Rattle.run_finds.specs.Given.ResizeDeclared.yielding.Yielding.{Yielding}
use Rattle.run_finds.specs.Given.ResizeDeclared.yielding.Yielding.TheVariants as outcome
use Rattle.run_finds.specs.Given.SweepsSweep as sweeps
use Rattle.run_finds.specs.Given.SweepsSweepPoints as points
use Rattle.run_finds.specs.Given.ReservesDeclared.sweep.Purpose.{Purpose}
use Rattle.run_finds.specs.Given.ReservesDeclared.sweep.Purpose.TheVariants.{Walks, Clears, Retains}
use Rattle.run_finds.specs.Given.ReservesDeclared.sweep.Sweep.{Sweep}
use Rattle.run_finds.specs.Given.ReservesDeclared.sweep.Sweeping.{Sweeping}
use Rattle.run_finds.specs.Given.ReservesDeclared.sweep.Sweeping.TheVariants as at
use Rattle.run_finds.specs.Given.ReservesDeclared.sweep.Swept.{Swept}
use Rattle.run_finds.proofs.Given.RuleKeys.Always.{Always, AlwaysOf, always_if, always_plan_as, always_steps}
use Rattle.run_finds.specs.Given.TellerTells.{StepsObserved, ObservedAs}
use Rattle.run_finds.specs.Given.EffectsDeclared.changed.Changed.{Changed}
use Rattle.run_finds.specs.Given.EffectsDeclared.changed.Changed.TheVariants as changes
use Rattle.run_finds.specs.Given.LateToldSweeps.{IsRowOfSweep}
use Rattle.run_finds.proofs.Given.OthersOutcomes.{told_in}
use Rattle.run_finds.specs.Given.SettlesInHand.{pair_in_disposing, pair_in_sweeping}
use Rattle.run_finds.specs.Waits.{waits_in_disposing, waits_of, waits_in_sweeping}
use Rattle.run_grows.proofs.Waits.Dispose.{Holding, WaitsGo, WaitsAlike, WaitsOver, WaitsPast, dispose_goes}
use Rattle.run_finds.proofs.Given.ScenesTold.{as_step}

-- it has no pair in hand where it has come
abbrev pub NoneOf : Sweep → Type 0
NoneOf c = pair_in_sweeping c.stands ≡ None

either_point : (b : Bool) (x y : Sweeping) → pair_in_sweeping x ≡ None → pair_in_sweeping y ≡ None → pair_in_sweeping (if b then x else y) ≡ None
either_point true x y f g = f
either_point false x y f g = g

either_sweep : (b : Bool) (x y : Sweep) → NoneOf x → NoneOf y → NoneOf (if b then x else y)
either_sweep true x y f g = f
either_sweep false x y f g = g

beginning_none : (c : Sweep) → NoneOf (points.beginning c)
beginning_none c = either_point (points.removes c.purpose) at.Words at.Ready refl refl

further_none : (c : Sweep) → NoneOf (points.further c)
further_none c =
    either_point (nat_lt (points.past c).place c.table.len) at.Words (points.at_end c) refl (either_point (points.removes c.purpose && c.met) at.Follows at.Over refl refl)

entering_none : (c : Sweep) (table : Table) → NoneOf (points.entering c table)
entering_none c table =
    either_sweep (is_incremental c.setting.mode) (record c { table = table; stands = at.Follows }) (points.beginning (record c { table = table })) refl (beginning_none (record c { table = table }))

module _ (K V : Type 0) where
  abbrev NoneSo : Sweep × Swept (Node K V) → Type 0
  NoneSo e = NoneOf e.0

  by_test : (b : Bool) (x y : Sweep × Swept (Node K V)) → NoneSo x → NoneSo y → NoneSo (if b then x else y)
  by_test true x y f g = f
  by_test false x y f g = g

  module _ (c : Sweep) where
    pair_none : (purpose : Purpose) (word : ℕ) → NoneSo (points.at_pair purpose c word)
    pair_none Walks word = refl
    pair_none Clears word = refl
    pair_none Retains word = refl

    seen_none : (word : ℕ) → NoneSo (points.seen c word)
    seen_none word =
        by_test (points.removes c.purpose && has_mark word COPYING) (points.telling (points.further (record c { met = true })))
        (if block_in word == 0 then points.telling (points.further c) else points.at_pair c.purpose c word) (further_none (record c { met = true }))
        (by_test (block_in word == 0) (points.telling (points.further c)) (points.at_pair c.purpose c word) (further_none c) (pair_none c.purpose word))

    copied_none : (e : Copier × Yielding (Node K V) Table) → NoneSo (sweeps.copied c e)
    copied_none (copier, outcome.Goes) = refl
    copied_none (copier, outcome.Waits) = refl
    copied_none (copier, outcome.Gave value) = refl
    copied_none (copier, outcome.Done root) = entering_none c root
    copied_none (copier, outcome.Refused fault) = refl

    module _ (stays : NoneOf c) where
      root_none : (out : Out (Node K V)) → Always NoneSo (sweeps.root_read c out)
      root_none (Found root) = always_if NoneSo (root == 0) _ _ (either_point (points.removes c.purpose) at.Over at.Ready refl refl) (λ value. entering_none c (table_seen root value))
      root_none _ = stays

      next_none : (out : Out (Node K V)) → Always NoneSo (sweeps.next_read c out)
      next_none (Found link) = always_if NoneSo (link == 0) _ _ (beginning_none c) (λ value. refl)
      next_none _ = stays

      word_none : (out : Out (Node K V)) → Always NoneSo (sweeps.word_found c out)
      word_none (Found word) = seen_none word
      word_none _ = stays

module _ {K V : Type 0} (hash : K → ℕ) (c : Sweep) (m m2 : Mem (Node K V)) (told_by : Changed) where
  abbrev Pair : Type 0
  Pair = (IsRowOfSweep c.stands → ⊥) → (word : ℕ) × (pair_in_sweeping c.stands ≡ Some word)

  abbrev IsNoCopy : Sweeping → Type 0
  IsNoCopy q = (copier : Copier) → q ≡ at.Copies copier → ⊥

  -- After a step it has no pair in hand; or it had one before, unless in a row, and goes by the same table, or has read a root that is none before that; or it has just taken the pair of this word.
  pub data SweepWaits (y : Sweep) : Type 0 where
    SweptNone : pair_in_sweeping y.stands ≡ None → SweepWaits y
    SweptAlike : IsNoCopy c.stands → Pair → waits_in_sweeping y y.stands ≡ waits_in_sweeping c c.stands → SweepWaits y
    SweptPast : (d : Dispose) (root : ℕ) (value : Node K V) → IsNoCopy c.stands → Pair → waits_in_sweeping c c.stands ≡ Some d.table.turn → waits_in_sweeping y y.stands ≡ None
        → c.stands ≡ at.Disposes d → d.stands ≡ disposal.Reads → told_by ≡ changes.Nothing → word_at m (Root d.setting.root) ≡ Some root → value_at m (block_in root) ≡ Some value
        → d.table.turn ≤ (table_seen root value).turn → SweepWaits y
    SweptNew : (word : ℕ) → c.stands ≡ at.Tries word → told_by ≡ changes.Wrote (at_place c.table c.place) word TOMBSTONE → waits_in_sweeping y y.stands ≡ waits_of (disposing c.setting word c.table) → SweepWaits y

  abbrev Hands : Sweep × Swept (Node K V) → Type 0
  Hands e = SweepWaits e.0

  abbrev pub StepAt : Sweeping → Sweep × Swept (Node K V) → Type 0
  StepAt q e = StepsObserved K V (Sweep × Swept (Node K V)) m changes.Nothing (sweeps.plan_at hash c q) m2 told_by e

  none_hands : (q : Sweeping) (e : Sweep × Swept (Node K V)) → AlwaysOf (NoneSo K V) (sweeps.plan_at hash c q) → StepAt q e → Hands e
  none_hands q e all s = SweptNone (always_steps (NoneSo K V) m m2 (sweeps.plan_at hash c q) e all (as_step m changes.Nothing (sweeps.plan_at hash c q) m2 told_by e s))

  counted_hands : (removed : ℕ) → c.stands ≡ at.Counts removed → Hands (points.going c (at.Disposes (disposing c.setting removed c.table)))
  counted_hands removed is = SweptAlike (λ copier e. (let both = sym is ∙ e in cc both)) (λ no_row. (removed, ap pair_in_sweeping is)) (sym (ap (waits_in_sweeping c) is))

  exchanged_hands : (word : ℕ) → c.stands ≡ at.Tries word → (out : Out (Node K V)) → ObservedAs K V (Sweep × Swept (Node K V)) m (Exchange (at_place c.table c.place) word TOMBSTONE) out m2 told_by
      → (e : Sweep × Swept (Node K V)) → Ends (value_at m2) (sweeps.tried c word out) e → Hands e
  exchanged_hands word is (Exchanged (Ok found)) tells e end =
      subst Hands (sym end) (SweptNew word is (tells.1 ∙ ap (λ (x : ℕ). changes.Wrote (at_place c.table c.place) x TOMBSTONE) tells.0.0.1) refl)
  exchanged_hands word is (Exchanged (Err found)) tells e end = SweptNone (subst (NoneSo K V) (sym end) (seen_none K V c found))
  exchanged_hands word is _ tells e end = absurd tells.0.0

  -- a disposal goes on
  module _ (d : Dispose) (is : c.stands ≡ at.Disposes d) where
    waits_were : waits_in_sweeping c c.stands ≡ waits_of d
    waits_were = ap (waits_in_sweeping c) is

    no_copy : IsNoCopy c.stands
    no_copy copier e = (let both = sym is ∙ e in cc both)

    held : Holding d m m2 told_by → Pair
    held holds no_row = let it = holds (λ row. no_row (subst IsRowOfSweep (sym is) row)) in (it.0, ap pair_in_sweeping is ∙ it.1)

    goes_to : (next : Dispose) → WaitsGo d m m2 told_by next → SweepWaits (points.standing c (at.Disposes next))
    goes_to next (WaitsAlike holds e) = SweptAlike no_copy (held holds) (e ∙ sym waits_were)
    goes_to next (WaitsOver e) = SweptNone e
    goes_to next (WaitsPast root value nothing reads none read seen before) =
        SweptPast d root value no_copy (held (λ no. (d.pair, ap (pair_in_disposing d) reads))) (waits_were ∙ ap (waits_in_disposing d) reads) none is reads nothing read seen before

    disposed_hands : (r : Dispose × Settled (Node K V)) → WaitsGo d m m2 told_by r.0 → Hands (sweeps.disposed c r)
    disposed_hands (next, settling.Goes) goes = goes_to next goes
    disposed_hands (next, settling.Waits) goes = goes_to next goes
    disposed_hands (next, settling.Gave value) goes = goes_to next goes
    disposed_hands (next, settling.Done) goes = SweptNone (further_none c)

  -- So it is whatever the point.
  by_point : (q : Sweeping) → c.stands ≡ q → (e : Sweep × Swept (Node K V)) → StepAt q e → Hands e
  by_point at.Reads is e s = none_hands at.Reads e (λ out. root_none K V c (ap pair_in_sweeping is) out) s
  by_point at.Follows is e s = none_hands at.Follows e (λ out. next_none K V c (ap pair_in_sweeping is) out) s
  by_point (at.Copies copier) is e s = none_hands (at.Copies copier) e (always_plan_as (NoneSo K V) (sweeps.copied c) (copied_none K V c) (copier_plan hash copier)) s
  by_point at.Words is e s = none_hands at.Words e (λ out. word_none K V c (ap pair_in_sweeping is) out) s
  by_point (at.Tries word) is e s = exchanged_hands word is s.0 s.1 e s.2
  by_point (at.Counts removed) is e s =
      always_steps Hands m m2 (sweeps.plan_at hash c (at.Counts removed)) e (λ out. counted_hands removed is) (as_step m changes.Nothing (sweeps.plan_at hash c (at.Counts removed)) m2 told_by e s)
  by_point (at.Disposes d) is e s =
      let it = told_in m m2 told_by (sweeps.disposed c) (dispose_plan d) e s in
      subst Hands (sym it.1) (disposed_hands d is it.0 (dispose_goes d m m2 told_by d.stands refl it.0 it.2))
  by_point at.Ready is e s = none_hands at.Ready e (ap pair_in_sweeping is) s
  by_point (at.Asks word) is e s = none_hands (at.Asks word) e (ap pair_in_sweeping is) s
  by_point at.Over is e s = none_hands at.Over e (ap pair_in_sweeping is) s
  by_point (at.Refused fault) is e s = none_hands (at.Refused fault) e (ap pair_in_sweeping is) s

  pub step_hands : (e : Sweep × Swept (Node K V)) → StepAt c.stands e → Hands e
  step_hands e s = by_point c.stands refl e s
