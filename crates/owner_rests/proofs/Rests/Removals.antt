-- Changes of a map for one owner.
use Rattle.std.specs.Prelude.{◌≡◌, ◌≤◌, ◌<◌, ℕ, Bool, true, false, List, [], ◌∷◌, Some, None, Result, Ok, IsSome, is_some, nat_lt, if◌then◌else◌}
use Rattle.std.proofs.Common.{refl, sym, ap, subst, inl, inr, arith}
use Rattle.std.proofs.lemmas.Bool.{lt-ltb, ltb-true, false_from_ne_true, true≢false, false≢true}
use Rattle.seize_words.specs.OneMemory.Mem.{Mem, Took, value_at, word_at}
use Rattle.seize_words.specs.OneMemory.Op.{Swap, Found}
use Rattle.seize_words.specs.OneMemory.Plan.{Plan, Now, Steps, Ends as Comes, then_as}
use Rattle.seize_words.specs.declared.at.At.TheVariants.{Slot}
use Rattle.seize_words.specs.declared.fault.Fault.{Fault}
use Rattle.seize.specs.Leave.{leaving, counted_down, standing}
use Rattle.seize.specs.Settle.{counting_down}
use Rattle.seize.specs.declared.advance.Advance.{Advance}
use Rattle.seize.specs.declared.advance.Advance.TheVariants as progress
use Rattle.seize.specs.declared.rows.leave.Leave.{Leave}
use Rattle.seize.specs.declared.rows.leave.Leaving.TheVariants as leave_at
use Rattle.seize.specs.declared.rows.settle.Settle.{Settle}
use Rattle.seize.specs.declared.rows.settle.Settled.TheVariants.{Goes}
use Rattle.seize.specs.declared.states.TheConstants.{ACTIVE, HEAD}
use Rattle.map_tables.specs.Nodes.{deferred_word}
use Rattle.map_tables.specs.declared.node.Node.{Node}
use Rattle.map_tables.specs.declared.setting.Setting.{Setting}
use Rattle.owner_calls.specs.Given.CallersKind.{Kind, removes}
use Rattle.owner_calls.specs.Given.LateFaults.{IsRoom}
use Rattle.owner_calls.specs.Given.LateKinds.{FaultFits}
use Rattle.papaya_raw.specs.declared.machines.asking.Takes.TheVariants as replies
use Rattle.owner_calls.specs.Given.StridesEnding.{Ends, RunsTo, stops, goes}
use Rattle.owner_calls.specs.Owned.Machines.{refreshes_plan, refreshes_after}
use Rattle.owner_calls.specs.Owned.Owned.{Holds, EndsBy, found_by, left_by}
use Rattle.owner_calls.specs.declared.machines.OwnerRefresh.{OwnerRefresh}
use Rattle.owner_calls.specs.declared.machines.Stop.{Stop}
use Rattle.owner_calls.specs.declared.machines.Stop.TheVariants as stop
use Rattle.papaya_raw.specs.declared.machines.answer.KeyAnswer.TheVariants as answers
use Rattle.owner_rests.specs.Rests.Calls.{has_removed}
use Rattle.owner_rests.specs.Rests.Lasts.{IsPairOf, QuiescentWith, words_of_stop}
use Rattle.owner_rests.specs.Rests.Refreshed.{HasRefreshed}
use Rattle.owner_rests.specs.declared.last.Last.{Last}
use Rattle.owner_calls.proofs.Owned.Owned.Refreshes.{refreshing_ends, refreshed, begins_refreshing}
use Rattle.owner_calls.proofs.Given.StridesRuns.Steps.{ends_on, may_step}
use Rattle.owner_calls.specs.Holds.Came.{NoneCame}
use Rattle.owner_calls.proofs.Holds.Runs.None.{refreshes_put_none}

module _ {K V : Type 0} (same : K → K → Bool) (hash : K → ℕ) (setting : Setting) (m : Mem (Node K V)) (xs : List (K × V)) (h : Holds same hash setting m xs) (leave : Leave)
    (is : leave ≡ leaving setting.slot setting.batch_size ACTIVE false) where
  pub refresh_ends : Ends (refreshes_plan (deferred_word {K = K} {V = V})) (record { leave = leave }) m
  refresh_ends =
      subst (λ (x : Leave). Ends (refreshes_plan (deferred_word {K = K} {V = V})) (record { leave = x }) m) (sym is)
      (refreshing_ends same hash setting m xs h (record { leave = leaving setting.slot setting.batch_size ACTIVE false }) m (begins_refreshing same hash setting m xs h))

  pub refresh_holds : (x : OwnerRefresh) (m2 : Mem (Node K V)) (result : Result Unit Fault) → RunsTo (refreshes_plan (deferred_word {K = K} {V = V})) (record { leave = leave }) m x m2 result → Holds same hash setting m2 xs
  refresh_holds x m2 result runs =
      refreshed same hash setting m xs h (record { leave = leaving setting.slot setting.batch_size ACTIVE false }) m x m2 result
      (subst (λ (y : Leave). RunsTo (refreshes_plan (deferred_word {K = K} {V = V})) (record { leave = y }) m x m2 result) is runs) (begins_refreshing same hash setting m xs h)

-- the slot's list is taken: its head was this one
module _ {K V : Type 0} (same : K → K → Bool) (hash : K → ℕ) (setting : Setting) (m n : Mem (Node K V)) (xs : List (K × V)) (h : Holds same hash setting m xs) where
  abbrev plan_of : OwnerRefresh → Plan (Node K V) (OwnerRefresh × Advance Unit)
  plan_of = refreshes_plan (deferred_word {K = K} {V = V})

  abbrev begun : Leave
  begun = leaving setting.slot setting.batch_size ACTIVE false

  ends : Ends plan_of (record { leave = begun }) m
  ends = refresh_ends same hash setting m xs h begun refl

  pub head_can : IsSome (word_at m (Slot setting.slot HEAD))
  head_can = (may_step plan_of (record { leave = begun }) m ends).0

  module _ (head : ℕ) (took : Took m (Swap (Slot setting.slot HEAD) ACTIVE) (Found head) n) where
    -- which names no entry
    passed : head ≤ ACTIVE → RunsTo plan_of (record { leave = begun }) m (record { leave = standing begun leave_at.Over }) n (Ok tt)
    passed le =
        (goes (record { leave = begun }) m (record { leave = standing begun leave_at.Over }) n progress.Goes tt
        (Found head, took, by (nat_lt ACTIVE head) (false_from_ne_true (nat_lt ACTIVE head) (λ e. let l = ltb-true ACTIVE head e in omega (arith, l, le))))
        (record { leave = standing begun leave_at.Over }) n (Ok tt)
        (stops (record { leave = standing begun leave_at.Over }) n (record { leave = standing begun leave_at.Over }) n (progress.Done tt) (Ok tt) (refl, refl) refl))
      where
        by : (b : Bool) → b ≡ false
            → Comes (value_at n) (then_as (refreshes_after {T = Node K V} (record { leave = begun })) (if b then Now (standing begun (leave_at.Settles (counting_down setting.slot setting.batch_size head)), Goes) else Now (counted_down begun, Goes)))
            (record { leave = standing begun leave_at.Over }, progress.Goes)
        by true e = absurd (true≢false e)
        by false e = refl

    pub passed_refreshes : head ≤ ACTIVE → HasRefreshed setting m n
    passed_refreshes le = (record { leave = standing begun leave_at.Over }, Ok tt, passed le)

    pub none_waits : head ≤ ACTIVE → Holds same hash setting n xs
    none_waits le = refresh_holds same hash setting m xs h begun refl (record { leave = standing begun leave_at.Over }) n (Ok tt) (passed le)

    pub none_came : head ≤ ACTIVE → NoneCame m n
    none_came le = refreshes_put_none K V (record { leave = begun }) m ends (record { leave = standing begun leave_at.Over }) n (Ok tt) (passed le)

    -- or one, and is to be counted down
    module _ (some : ACTIVE < head) (settle : Settle) (is : settle ≡ counting_down setting.slot setting.batch_size head) where
      abbrev counting : Settle → OwnerRefresh
      counting s = record { leave = standing begun (leave_at.Settles s) }

      taken : Steps Took value_at m (plan_of (record { leave = begun })) n (counting settle, progress.Goes)
      taken = (Found head, took, by (nat_lt ACTIVE head) (lt-ltb ACTIVE head some))
        where
          by : (b : Bool) → b ≡ true
              → Comes (value_at n) (then_as (refreshes_after {T = Node K V} (record { leave = begun })) (if b then Now (standing begun (leave_at.Settles (counting_down setting.slot setting.batch_size head)), Goes) else Now (counted_down begun, Goes)))
              (counting settle, progress.Goes)
          by true e = ap (λ s. (counting s, progress.Goes)) is
          by false e = absurd (false≢true e)

      pub counting_ends : Ends plan_of (counting settle) n
      counting_ends = ends_on plan_of (record { leave = begun }) m ends n (counting settle) progress.Goes tt taken

      pub counted_holds : (x : OwnerRefresh) (m2 : Mem (Node K V)) (result : Result Unit Fault) → RunsTo plan_of (counting settle) n x m2 result → Holds same hash setting m2 xs
      counted_holds x m2 result runs =
          refresh_holds same hash setting m xs h begun refl x m2 result (goes (record { leave = begun }) m (counting settle) n progress.Goes tt taken x m2 result runs)

      pub counted_refreshes : (x : OwnerRefresh) (m2 : Mem (Node K V)) (result : Result Unit Fault) → RunsTo plan_of (counting settle) n x m2 result → HasRefreshed setting m m2
      counted_refreshes x m2 result runs = (x, result, goes (record { leave = begun }) m (counting settle) n progress.Goes tt taken x m2 result runs)

      pub counted_none : (x : OwnerRefresh) (m2 : Mem (Node K V)) (result : Result Unit Fault) → RunsTo plan_of (counting settle) n x m2 result → NoneCame m m2
      counted_none x m2 result runs =
          refreshes_put_none K V (record { leave = begun }) m ends x m2 result (goes (record { leave = begun }) m (counting settle) n progress.Goes tt taken x m2 result runs)

-- where there is none of these keys, none is taken out
module _ {K V : Type 0} (keys : K → Bool) where
  pub left_none : (ys : List (K × V)) → found_by keys ys ≡ None → left_by keys ys ≡ ys
  left_none [] none = refl
  left_none (y ∷ ys) none = by (keys y.0) none (left_none ys)
    where
      by : (b : Bool) → (if b then Some y else found_by keys ys) ≡ None → (found_by keys ys ≡ None → left_by keys ys ≡ ys) → (if b then left_by keys ys else y ∷ left_by keys ys) ≡ y ∷ ys
      by true none more = absurd (cc none)
      by false none more = ap (λ zs. y ∷ zs) (more none)

module _ {K V : Type 0} (same : K → K → Bool) (hash : K → ℕ) (setting : Setting) (m : Mem (Node K V)) (keys : K → Bool) (xs : List (K × V)) where
  -- what a removal comes to, with the words that its end tells
  removes_by : (s : Stop) → EndsBy same hash setting m removes None keys xs (Ok s)
      → (has_removed s ≡ is_some (found_by keys xs)) × QuiescentWith same hash setting m (words_of_stop s) (left_by keys xs) (found_by keys xs) None
  removes_by (stop.Answered (answers.Removed word)) e =
      (sym (ap is_some e.1.1), record { holds = e.1.3; taken_is = subst (IsPairOf m (Some word)) (sym e.1.1) e.1.2; met_is = tt })
  removes_by (stop.Answered answers.Absent) e = (
    sym (ap is_some e.1.0),
    record { holds = subst (Holds same hash setting m) (sym (left_none keys xs e.1.0)) e.1.1; taken_is = subst (IsPairOf m None) (sym e.1.0) tt; met_is = tt },
  )
  removes_by (stop.Answered (answers.Found word)) e = absurd (elim e.0 as (λ _. ⊥) [ inl p ↦ cc p | inr p ↦ cc p.0 ])
  removes_by (stop.Answered (answers.Stored word)) e = absurd (elim e.0 as (λ _. ⊥) [ inl p ↦ cc p | inr p ↦ cc p ])
  removes_by (stop.Answered (answers.Replaced old new)) e = absurd (elim e.0 as (λ _. ⊥) [ inl p ↦ cc p | inr p ↦ cc p.0 ])
  removes_by (stop.Asks None) e = absurd (cc e)
  removes_by (stop.Asks (Some word)) e = absurd (cc e)

  pub removed_so : (s : Stop) → EndsBy same hash setting m removes None keys xs (Ok s) → (last : Last) → last ≡ words_of_stop s
      → (has_removed s ≡ is_some (found_by keys xs)) × QuiescentWith same hash setting m last (left_by keys xs) (found_by keys xs) None
  removed_so s e last is =
      let by = removes_by s e in
      (by.0, subst (λ (words : Last). QuiescentWith same hash setting m words (left_by keys xs) (found_by keys xs) None) (sym is) by.1)

-- a call that is told nothing is refused for room
pub room_of : (kind : Kind) (fault : Fault) → kind.takes ≡ replies.Nothing → FaultFits kind.present kind.absent kind.takes fault → IsRoom fault
room_of kind fault none (inl fits) = fits.1
room_of kind fault none (inr fits) = let e = fits.0 in absurd (cc (none, e))
