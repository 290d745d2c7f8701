-- A row within a call reclaims nothing, and goes on so with each step: an open section holds a block of each batch that it closes.
use Rattle.std.specs.Prelude.{◌≡◌, ℕ, ◌+◌, Bool, true, cond, ◌∷◌, ◌++◌, length, ◌⊎◌, ◌==◌, if◌then◌else◌}
use Rattle.std.proofs.Common.{refl, ap, sym, subst, ◌∙◌, arith, inl, inr}
use Rattle.std.proofs.lemmas.Bool.{eq-eqb}
use Rattle.run_shows.specs.Given.SeizeWordsDeclared.at.At.TheVariants.{Entry}
use Rattle.run_shows.specs.Given.SeizeWordsMem.{Mem, Can, Took, value_at, word_at}
use Rattle.run_shows.specs.Given.SeizeWordsPlan.{May, Steps}
use Rattle.run_shows.specs.Given.SeizeDeclared.advance.Advance.{Advance}
use Rattle.run_shows.specs.Given.SeizeDeclared.advance.Advance.TheVariants as progress
use Rattle.run_shows.specs.Given.SeizeDeclared.rows.defer.Defer.{Defer}
use Rattle.run_shows.specs.Given.SeizeDeclared.rows.register.Register.{Register}
use Rattle.run_shows.specs.Given.SeizeDeclared.rows.settle.Settle.{Settle}
use Rattle.run_shows.specs.Given.SeizeDeclared.rows.settle.Settled.{Settled}
use Rattle.run_shows.specs.Given.SeizeDeclared.rows.settle.Settled.TheVariants as settled
use Rattle.run_shows.specs.Given.SeizeDeclared.rows.settle.Settling.{Settling}
use Rattle.run_shows.specs.Given.SeizeDeclared.rows.settle.Settling.TheVariants as at
use Rattle.run_shows.specs.Given.SeizeDeclared.states.TheConstants.{FIRST, LAST_SLOT}
use Rattle.run_shows.specs.Given.SeizeLaw.{Retired, holds, is_open, is_retired}
use Rattle.run_shows.specs.Given.SeizeSettle.{settle_plan, plan_at}
use Rattle.run_shows.specs.Given.SeizeWorld.{World, Row, Rests, Registers, Enters, Settles, Leaves, Defers, Frees, Request, Register', Enter', Leave', LeaveOwned, Refresh, Unregister', Retire, Flush, Defer', Begin, Happens, Steps', IsInside, settle_effects, settles_on, registers_on, defers_on}
use Rattle.run_shows.proofs.Given.SeizeMovesMoves.Tries.{first_pending}
use Rattle.run_shows.proofs.Given.SeizeMovesState.Ghost.{IsPending}
use Rattle.run_shows.proofs.Given.SeizeRulePoints.Known.{FitsAt, bare}
use Rattle.run_shows.proofs.Given.SeizeRulePoints.Retire.{of_link}
use Rattle.run_shows.proofs.Given.SeizeRulePoints.Settle.{is_over, settle_steps}
use Rattle.run_shows.proofs.Given.SeizeRulePoints.Stepped.{IsGoing}
use Rattle.run_shows.proofs.Given.SeizeRuleRows.Known.{FitsRow}
use Rattle.run_shows.proofs.Given.SeizeMemoryWords.Shows.{lives}
use Rattle.run_shows.proofs.Given.SeizeMemoryWords.View.{view}
use Rattle.run_shows.proofs.Given.SeizeRuleWorld.Kept.{row_may}
use Rattle.run_shows.proofs.Given.SeizeRuleWorld.Start.{words_good}
use Rattle.run_shows.proofs.Given.SeizeAloneHistories.Reached.{Reached, happens_reached}
use Rattle.run_shows.proofs.Given.SeizeAloneHistories.Uses.{inside_open}
use Rattle.run_shows.specs.Given.TablesNodes.{deferred_word}
use Rattle.run_shows.specs.Given.TablesDeclared.node.Node.{Node}
use Rattle.run_shows.specs.Given.TablesDeclared.setting.Setting.{Setting}
use Rattle.run_shows.proofs.Given.RuleWorld.Hands.{at_cases}
use Rattle.run_shows.specs.Given.CallersTogether.{CameAbout, HandsOver, IsOneStep}
use Rattle.run_shows.proofs.Given.CallersTogether.Came.{came_reached}
use Rattle.run_shows.proofs.Given.CallersTogether.Handed.{inside_on}
use Rattle.run_places.specs.Hands.Rows.{IsAside, SettlesAside, ReclaimsNone, HoldsOne, TriesOne, KeepsOne}
use Rattle.run_places.proofs.Hands.Firsts.{plan_apart}
use Rattle.run_places.proofs.Hands.Guarded.{step_keeps_one, begin_keeps_one, there_is}
use Rattle.run_places.proofs.Hands.Settling.{KnownAt, GoesSo, goes_aside}
use Rattle.run_places.proofs.Hands.Summed.{sums_aside}
use Rattle.run_places.proofs.Hands.Taking.{IsToTake}
use Rattle.run_shows.proofs.Others.RowGives.{IsTakes as IsAtTaking}

-- it stands where it adds up, or elsewhere
adds_up : (p : Settling) → ((pushed : ℕ) × (p ≡ at.Sums pushed)) ⊎ ((pushed : ℕ) → p ≡ at.Sums pushed → ⊥)
adds_up (at.Sums pushed) = inl (pushed, refl)
adds_up _ = inr (λ pushed e. absurd (cc e))

module _ {K V : Type 0} {size : ℕ} (w : World (Node K V)) (r : Reached deferred_word size w) (i : ℕ) (w2 : World (Node K V)) (slot : ℕ) (inside : IsInside (w.uses slot)) where
  abbrev n : ℕ
  n = LAST_SLOT + 1

  abbrev One : ℕ → Type 0
  One = HoldsOne w2 slot

  module _ (c : Settle) (is : w.row i ≡ Settles c) (mem2 : Mem (Node K V)) (end : Settle × Settled (Node K V)) (st : Steps Took value_at w.memory (settle_plan deferred_word c) mem2 end)
      (e : w2 ≡ settles_on w i c mem2 end) where
    fits : FitsAt n i (view deferred_word w.memory) r.good.state r.good.extra (bare c) c.stands
    fits = subst (λ (q : Row). FitsRow n i (view deferred_word w.memory) r.good.state r.good.extra (length w.memory.slots) q) is (r.good.rows i)

    may : May Can Took value_at w.memory (settle_plan deferred_word c)
    may = row_may deferred_word n size refl w r.good i (Settles c) is

    step : Steps' deferred_word i (w.row i) w w2
    step = subst (λ (q : Row). Steps' deferred_word i q w w2) (sym is) (mem2, end, st, e)

    -- what the step leaves, where it goes on
    abbrev Left : World (Node K V) → Type 0
    Left v = (v.memory ≡ mem2) × (v.log ≡ settle_effects c c.stands ++ w.log)

    left_by : (d : Settle) (p : Settled (Node K V)) → IsGoing p → Left (settles_on w i c mem2 (d, p))
    left_by d settled.Goes going = (refl, refl)
    left_by d settled.Waits going = (refl, refl)
    left_by d (settled.Gave value) going = (refl, refl)
    left_by d settled.Done going = absurd going

    -- the block that is counted is in the batch, and the open section holds it
    counted_one : (block : ℕ) → c.stands ≡ at.Counts block → HoldsOne w2 slot c.first
    counted_one block stands = record {
      block = f.b;
      held = ap (holds slot f.b) log ∙ ap (λ (t : Bool). cond t (is_open slot w.log) (holds slot f.b w.log)) (eq-eqb f.b f.b refl) ∙ inside_open deferred_word size w r slot inside;
      retired = ap (is_retired f.b) log ∙ ap (λ (t : Bool). cond t true (is_retired f.b w.log)) (eq-eqb f.b f.b refl);
      is_first = ap (λ (v : World (Node K V)). word_at v.memory (Entry f.b FIRST)) e ∙ ap (λ (k : Mem (Node K V)). word_at k (Entry f.b FIRST)) left.0
          ∙ plan_apart f.b w.memory (plan_at deferred_word c (at.Counts block)) mem2 end (λ q k. absurd (omega (arith, k)))
          (subst (λ (p : Settling). May Can Took value_at w.memory (plan_at deferred_word c p)) stands may)
          (subst (λ (p : Settling). Steps Took value_at w.memory (plan_at deferred_word c p) mem2 end) stands st)
          ∙ there_is (word_at w.memory (Entry f.b FIRST)) c.first (r.good.stocked.entries f.b FIRST (r.good.shows.lists.lived f.b ∙ ap lives pending) (omega arith)) f.firsts;
    }
      where
        f : FitsAt n i (view deferred_word w.memory) r.good.state r.good.extra (bare c) (at.Counts block)
        f = subst (FitsAt n i (view deferred_word w.memory) r.good.state r.good.extra (bare c)) stands fits

        pending : r.good.state.life f.b ≡ IsPending i
        pending = first_pending n i r.good.state f.b f.bs r.good.inv f.putting.pending

        going : IsGoing end.1
        going = (settle_steps deferred_word n i w.memory mem2 r.good.state r.good.extra c end refl (words_good deferred_word n w r.good) r.good.inv r.good.shows c.stands refl (ap is_over stands) fits st).1

        left : Left (settles_on w i c mem2 end)
        left = left_by end.0 end.1 going

        log : w2.log ≡ Retired f.b ∷ w.log
        log = ap (λ (v : World (Node K V)). v.log) e ∙ left.1 ∙ ap (λ (p : Settling). settle_effects c p ++ w.log) stands
            ∙ ap (λ (k : ℕ). Retired k ∷ w.log) (of_link block f.b f.putting.block_is)

    keeps : (first : ℕ) → HoldsOne w slot first → One first
    keeps first one = step_keeps_one w r slot first one i w2 inside step

    known : (p : Settling) → c.stands ≡ p → TriesOne (HoldsOne w slot) c p → KnownAt One c p
    known at.Pops stands one = (subst (FitsAt n i (view deferred_word w.memory) r.good.state r.good.extra (bare c)) stands fits).some
    known (at.Counts block) stands one = counted_one block stands
    known (at.Scans s block marks) stands one = keeps c.first one
    known (at.Marks s block marks) stands one = keeps c.first one
    known (at.Marked s block marks) stands one = keeps c.first one
    known (at.Closes marks) stands one = keeps c.first one
    known (at.Reads block left pushed) stands one = keeps c.first one
    known (at.Links block left pushed s head) stands one = keeps c.first one
    known (at.Pushes block left pushed s head) stands one = keeps c.first one
    known (at.Pushed block left pushed) stands one = keeps c.first one
    known (at.Sums pushed) stands one = keeps c.first one
    known _ stands one = tt

    settles_so : SettlesAside c → TriesOne (HoldsOne w slot) c c.stands → GoesSo One end.0
    settles_so aside one = by (adds_up c.stands)
      where
        by : ((pushed : ℕ) × (c.stands ≡ at.Sums pushed)) ⊎ ((pushed : ℕ) → c.stands ≡ at.Sums pushed → ⊥) → GoesSo One end.0
        by (inl (pushed, stands)) =
            sums_aside w r i slot c (subst (TriesOne (HoldsOne w slot) c) stands one) pushed (subst (FitsAt n i (view deferred_word w.memory) r.good.state r.good.extra (bare c)) stands fits) aside One mem2 end
            (subst (λ (p : Settling). Steps Took value_at w.memory (plan_at deferred_word c p) mem2 end) stands st)
        by (inr never) = goes_aside One c aside deferred_word w.memory mem2 end (known c.stands refl one) never st

  -- of a row: it goes on so
  abbrev RowGoesSo : Row → Type 0
  RowGoesSo row = ReclaimsNone row × KeepsOne One row

  abbrev GoesOn : World (Node K V) → Type 0
  GoesOn v = RowGoesSo (v.row i)

  row_at : (row : Row) → RowGoesSo row → RowGoesSo ((λ (j : ℕ). if j == i then row else w.row j) i)
  row_at row so = at_cases RowGoesSo w.row i row i (λ e. so) (λ ne. absurd (ne refl))

  row_goes : (row : Row) → w.row i ≡ row → ReclaimsNone row → KeepsOne (HoldsOne w slot) row → Steps' deferred_word i row w w2 → GoesOn w2
  row_goes Rests is none one h = absurd h
  row_goes (Registers c) is none one h = subst GoesOn (sym h.3) (by h.0 h.1.0 h.1.1)
    where
      by : (mem : Mem (Node K V)) (d : Register) (p : Advance ℕ) → GoesOn (registers_on w i c mem (d, p))
      by mem d progress.Goes = row_at (Registers d) (tt, tt)
      by mem d progress.Waits = row_at (Registers d) (tt, tt)
      by mem d (progress.Done s) = row_at Rests (tt, tt)
      by mem d (progress.Refused fault) = row_at Rests (tt, tt)
  row_goes (Enters c) is none one h = subst GoesOn (sym h.3) (row_at Rests (tt, tt))
  row_goes (Settles c) is none one h = subst GoesOn (sym h.3) (by h.0 h.1.0 h.1.1 (settles_so c is h.0 h.1 h.2 h.3 none one))
    where
      by : (mem : Mem (Node K V)) (d : Settle) (p : Settled (Node K V)) → GoesSo One d → GoesOn (settles_on w i c mem (d, p))
      by mem d settled.Goes so = row_at (Settles d) so
      by mem d settled.Waits so = row_at (Settles d) so
      by mem d (settled.Gave value) so = row_at (Settles d) so
      by mem d settled.Done so = row_at Rests (tt, tt)
  row_goes (Leaves c) is none one h = absurd none
  row_goes (Defers s c) is none one h = subst GoesOn (sym h.3) (by h.0 h.1.0 h.1.1)
    where
      by : (mem : Mem (Node K V)) (d : Defer) (p : Advance Unit) → GoesOn (defers_on w i s mem (d, p))
      by mem d progress.Goes = row_at (Defers s d) (tt, tt)
      by mem d progress.Waits = row_at (Defers s d) (tt, tt)
      by mem d (progress.Done x) = row_at Rests (tt, tt)
      by mem d (progress.Refused fault) = row_at (Defers s d) (tt, tt)
  row_goes (Frees c) is none one h = subst GoesOn (sym h.3) (row_at Rests (tt, tt))

module _ {K V : Type 0} (setting : Setting) (i slot : ℕ) where
  -- a row that hands a block over begins so, and the section goes on
  abbrev BeginsSo : World (Node K V) → Type 0
  BeginsSo v = ReclaimsNone (v.row i) × KeepsOne (HoldsOne v slot) (v.row i) × IsInside (v.uses slot)

  begins_so : (w begun : World (Node K V)) (request : Request) → HandsOver setting i w request → IsInside (w.uses slot) → Happens deferred_word setting.batch_size (Begin i request) w begun → BeginsSo begun
  begins_so w begun (Retire s b) hands inside h =
      subst BeginsSo (sym h.1.2) (
        at_cases ReclaimsNone w.row i _ i (λ e. (refl, refl, refl, tt)) (λ ne. absurd (ne refl)),
        at_cases (KeepsOne (HoldsOne _ slot)) w.row i _ i (λ e. tt) (λ ne. absurd (ne refl)),
        inside_on w.uses s slot inside,
      )
  begins_so w begun (Defer' s b t) hands inside h =
      subst BeginsSo (sym h.1.7) (
        at_cases ReclaimsNone w.row i _ i (λ e. tt) (λ ne. absurd (ne refl)),
        at_cases (KeepsOne (HoldsOne _ slot)) w.row i _ i (λ e. tt) (λ ne. absurd (ne refl)),
        inside_on w.uses s slot inside,
      )
  begins_so w begun (Register' enters) hands inside h = absurd hands
  begins_so w begun (Enter' s) hands inside h = absurd hands
  begins_so w begun (Leave' s) hands inside h = absurd hands
  begins_so w begun (LeaveOwned s) hands inside h = absurd hands
  begins_so w begun (Refresh s) hands inside h = absurd hands
  begins_so w begun (Unregister' s) hands inside h = absurd hands
  begins_so w begun (Flush s) hands inside h = absurd hands

  -- so a row within a call goes on
  pub goes_so : (w w2 : World (Node K V)) → CameAbout setting.batch_size w → IsInside (w.uses slot) → ReclaimsNone (w.row i) → KeepsOne (HoldsOne w slot) (w.row i) → IsOneStep setting i w w2
      → ReclaimsNone (w2.row i) × KeepsOne (HoldsOne w2 slot) (w2.row i)
  goes_so w w2 came inside none one (inl step) = row_goes w (came_reached setting.batch_size w came) i w2 slot inside (w.row i) refl none one step
  goes_so w w2 came inside none one (inr (request, begun, hands, begins, step)) =
      let so = begins_so w begun request hands inside begins in
      row_goes begun (happens_reached deferred_word setting.batch_size (Begin i request) w begun (came_reached setting.batch_size w came) begins) i w2 slot so.2 (begun.row i) refl so.0 so.1 step

  -- and leaves the others the block that they have in their batch
  pub leaves_one : (w w2 : World (Node K V)) → CameAbout setting.batch_size w → IsInside (w.uses slot) → IsOneStep setting i w w2 → (first : ℕ) → HoldsOne w slot first → HoldsOne w2 slot first
  leaves_one w w2 came inside (inl step) first one = step_keeps_one w (came_reached setting.batch_size w came) slot first one i w2 inside step
  leaves_one w w2 came inside (inr (request, begun, hands, begins, step)) first one =
      let r = came_reached setting.batch_size w came in
      step_keeps_one begun (happens_reached deferred_word setting.batch_size (Begin i request) w begun r begins) slot first
      (begin_keeps_one w r slot first one i request begun begins) i w2 (begins_so w begun request hands inside begins).2 step

-- where the rows are the same, and each such block stays, all is kept
pub one_kept : (One Two : ℕ → Type 0) → ((first : ℕ) → One first → Two first) → (row : Row) → KeepsOne One row → KeepsOne Two row
one_kept One Two keeps (Settles c) one = by c.stands one
  where
    by : (p : Settling) → TriesOne One c p → TriesOne Two c p
    by (at.Scans s block marks) one = keeps c.first one
    by (at.Marks s block marks) one = keeps c.first one
    by (at.Marked s block marks) one = keeps c.first one
    by (at.Closes marks) one = keeps c.first one
    by (at.Reads block left pushed) one = keeps c.first one
    by (at.Links block left pushed s head) one = keeps c.first one
    by (at.Pushes block left pushed s head) one = keeps c.first one
    by (at.Pushed block left pushed) one = keeps c.first one
    by (at.Sums pushed) one = keeps c.first one
    by _ one = tt
one_kept One Two keeps _ one = tt

-- and it is not to take a block away
aside_not_taking : (p : Settling) → IsAside p → IsAtTaking p → ⊥
aside_not_taking (at.Takes next) aside taking = aside
aside_not_taking _ aside taking = taking

pub not_to_take : (row : Row) → ReclaimsNone row → IsToTake row → ⊥
not_to_take (Settles c) none taking = aside_not_taking c.stands none.3 taking
not_to_take (Leaves c) none taking = none
not_to_take Rests none taking = taking
not_to_take (Registers c) none taking = taking
not_to_take (Enters c) none taking = taking
not_to_take (Defers s c) none taking = taking
not_to_take (Frees c) none taking = taking
