-- The steps of a call that stores its own block, from the root to its end, over any memory.
use Rattle.std.specs.Prelude.{◌≡◌, ◌≢◌, ℕ, Bool, IsSome, Option, Some, Ok}
use Rattle.std.proofs.Common.{refl, sym, subst}
use Rattle.std.proofs.lemmas.Bool.{ne_eqb, eq-eqb}
use Rattle.seize_words.specs.OneMemory.Op.{Op, Out, Load, Add, Exchange, Found, Exchanged}
use Rattle.seize_words.specs.OneMemory.Plan.{Steps, Ends}
use Rattle.seize_words.specs.OneMemory.Word.{block_in}
use Rattle.seize_words.specs.declared.at.At.TheVariants.{Root}
use Rattle.map_tables.specs.Counts.{count_change, shard_of}
use Rattle.map_tables.specs.Nodes.{table_seen}
use Rattle.map_tables.specs.Trials.{first_trial, place_tried}
use Rattle.map_tables.specs.declared.marks.TheConstants.{TOMBSTONE}
use Rattle.map_tables.specs.declared.node.Node.{Node}
use Rattle.map_tables.specs.declared.setting.Setting.{Setting}
use Rattle.map_tables.specs.declared.trial.Trial.{Trial}
use Rattle.map_machines.specs.Dispose.{disposing}
use Rattle.papaya_raw.specs.Call.{call_plan, word_read}
use Rattle.papaya_raw.specs.CallPoints.{untried}
use Rattle.papaya_raw.specs.declared.machines.answer.Called.{Called}
use Rattle.papaya_raw.specs.declared.machines.answer.Called.TheVariants as called
use Rattle.papaya_raw.specs.declared.machines.answer.End.TheVariants as ends
use Rattle.papaya_raw.specs.declared.machines.answer.KeyAnswer.TheVariants as answers
use Rattle.papaya_raw.specs.declared.machines.answer.There.{There}
use Rattle.papaya_raw.specs.declared.machines.call.Calling.{Calling}
use Rattle.papaya_raw.specs.declared.machines.call.Calling.TheVariants as at
use Rattle.papaya_raw.specs.declared.machines.call.KeyCall.{KeyCall}
use Rattle.map_straight.specs.Straight.Disposing.{disposed, dispose_at}
use Rattle.map_straight.specs.Straight.Going.{CallGoes, CallLeads, CallReaches, DisposeReaches, MayCall, MayDispose}
use Rattle.seize_straight.specs.Runs.{EndsTelling}
use Rattle.map_straight.specs.Straight.Storing.{HasRead, call_at, replaced_by, stored_at, storing, try_at}
use Rattle.map_straight.specs.declared.disposing.Disposed.{Disposed}
use Rattle.map_straight.specs.declared.disposing.Disposed.TheVariants as to
use Rattle.seize_straight.specs.declared.retiring.Retired.TheVariants as retire
use Rattle.map_straight.specs.declared.storing.StoringPoint.TheVariants as spot
use Rattle.map_straight.specs.declared.storing.Stored.{Stored}
use Rattle.map_straight.specs.declared.storing.Tried.{Tried}
use Rattle.map_straight.proofs.Straight.Disposals.{disposes_on, disposes_over, may_dispose}
use Rattle.seize_straight.proofs.Running.{Led, begins, next, on_from, reaches_to, steps_to, tells_at}

module _ {K V Q M : Type 0} (asks : Q → K → Bool) (eq : K → K → Bool) (hashes : K → ℕ)
    (can : M → Op (Node K V) → Type 0) (took : M → Op (Node K V) → Out (Node K V) → M → Type 0) (shown : M → ℕ → Option (Node K V))
    (setting : Setting) (hash : ℕ) (there : There) (own : ℕ) where
  -- a call that may be run from this try and point has come to that one
  abbrev pub Comes : Trial → Calling → M → Trial → Calling → M → Type 0
  Comes t s m u r n =
      Led (CallGoes {T = Node K V}) took shown (call_plan asks eq hashes) can (storing {K = K} {V = V} {Q = Q} setting hash there own t s) m (storing setting hash there own u r) n

  -- it has put its own block in the place of a word
  pub record HasPut (trial : Trial) (word : ℕ) (m n : M) : Type 0 where
    pub run : MayCall asks eq hashes took shown can (storing setting hash there own trial (at.Tries word own)) m
    pub was : ℕ
    pub puts : took m (Exchange (place_tried trial) word own) (Exchanged (Ok was)) n
    pub buried : own ≢ TOMBSTONE

  -- the root is read, and names a table, whose tries begin
  pub record HasRoot (m n : M) (link : ℕ) (value : Node K V) (first : Trial) : Type 0 where
    pub run : MayCall asks eq hashes took shown can (storing setting hash there own untried at.Roots) m
    pub loads : took m (Load (Root setting.root)) (Found link) n
    pub some : link ≢ 0
    pub shows : shown n (block_in link) ≡ Some value
    pub first_is : first ≡ first_trial (table_seen link value) hash

module _ {K V Q M : Type 0} (asks : Q → K → Bool) (eq : K → K → Bool) (hashes : K → ℕ)
    {can : M → Op (Node K V) → Type 0} {took : M → Op (Node K V) → Out (Node K V) → M → Type 0} {shown : M → ℕ → Option (Node K V)}
    {setting : Setting} {hash : ℕ} {there : There} {own : ℕ} where
  -- a word is read where it stands, whether it was loaded or found by an exchange that failed
  pub goes_by : {trial : Trial} {stands : Calling} {m n : M} → MayCall asks eq hashes took shown can (storing setting hash there own trial stands) m
      → (loaded : Bool) (word : ℕ) (result : Tried)
      → HasRead setting hash there own (shown n) (word_read asks eq loaded (storing setting hash there own trial stands) word) result
      → ((end : KeyCall K V Q × Called (Node K V)) → Ends (shown n) (word_read asks eq loaded (storing setting hash there own trial stands) word) end
      → Steps took shown m (call_plan asks eq hashes (storing setting hash there own trial stands)) n end)
      → CallLeads asks eq hashes took shown (storing setting hash there own trial stands) m (try_at setting hash there own result) n
  goes_by {trial} {stands} {m} {n} h loaded word result (end, ends, comes) step =
      (steps_to (begins h) end.1 comes.1 (try_at setting hash there own result) n
      (subst (λ (d : KeyCall K V Q). Steps took shown m (call_plan asks eq hashes (storing setting hash there own trial stands)) n (d, end.1)) comes.0 (step end ends))).leads

  -- the root names no table
  pub has_none : {m n : M} {link : ℕ} → MayCall asks eq hashes took shown can (storing {K = K} {V = V} {Q = Q} setting hash there own untried at.Roots) m
      → took m (Load (Root setting.root)) (Found link) n → (none : Trial) → none ≡ untried → link ≡ 0
      → CallLeads asks eq hashes took shown (storing setting hash there own untried at.Roots) m (call_at setting hash there own none spot.Firsts) n
  has_none {m} {n} {link} h loads none is empty =
      subst (λ (t : Trial). CallLeads asks eq hashes took shown (storing setting hash there own untried at.Roots) m (call_at setting hash there own t spot.Firsts) n) (sym is)
      (steps_to (begins h) called.Goes tt (call_at setting hash there own untried spot.Firsts) n (Found link, loads, rw (eq-eqb link 0 empty) refl)).leads

  -- or one, whose tries begin
  pub sees_table : {m n : M} {link : ℕ} → MayCall asks eq hashes took shown can (storing {K = K} {V = V} {Q = Q} setting hash there own untried at.Roots) m
      → took m (Load (Root setting.root)) (Found link) n → link ≢ 0 → IsSome (shown n (block_in link))
  sees_table {n = n} {link = link} h loads some = let see = (next (begins h)).1 (Found link) n loads in let s = rw (ne_eqb link 0 some) at see in s.0

module _ {K V Q M : Type 0} {asks : Q → K → Bool} {eq : K → K → Bool} {hashes : K → ℕ}
    {can : M → Op (Node K V) → Type 0} {took : M → Op (Node K V) → Out (Node K V) → M → Type 0} {shown : M → ℕ → Option (Node K V)}
    {setting : Setting} {hash : ℕ} {there : There} {own : ℕ} where
  module _ {trial : Trial} {word : ℕ} {m n : M} (h : HasPut asks eq hashes can took shown setting hash there own trial word m n) where
    -- where the word was empty
    pub counts : word ≡ 0 → Comes asks eq hashes can took shown setting hash there own trial (at.Tries word own) m trial (at.Counts 0) n
    counts empty =
        steps_to (begins h.run) called.Goes tt (storing setting hash there own trial (at.Counts 0)) n
        (Exchanged (Ok h.was), h.puts, rw (ne_eqb own TOMBSTONE h.buried) (rw (eq-eqb word 0 empty) refl))

    pub was_stored : word ≡ 0 → (k : M) (found : ℕ) → took n (Add (shard_of setting) (count_change 0)) (Found found) k
        → EndsTelling CallGoes took shown (call_plan asks eq hashes) (storing setting hash there own trial (at.Tries word own)) m k (called.Done (answers.Stored own))
    was_stored empty k found adds =
        tells_at (counts empty) (called.Done (answers.Stored own)) (λ x. x) (storing setting hash there own trial (at.Over (ends.Answered (answers.Stored own)))) k (Found found, adds, refl)

    -- where a pair was there
    module _ (pair : word ≢ 0) where
      abbrev disposes : KeyCall K V Q
      disposes = storing setting hash there own trial (at.Disposes (disposing setting word trial.table) (answers.Replaced word own))

      led : Comes asks eq hashes can took shown setting hash there own trial (at.Tries word own) m trial (at.Disposes (disposing setting word trial.table) (answers.Replaced word own)) n
      led =
          steps_to (begins h.run) called.Goes tt disposes n
          (Exchanged (Ok h.was), h.puts, rw (ne_eqb own TOMBSTONE h.buried) (rw (ne_eqb word 0 pair) refl))

      pub may_go_on : MayDispose took shown can (disposing setting word trial.table) n
      may_go_on = may_dispose can took shown asks eq hashes disposes (answers.Replaced word own) (disposing setting word trial.table) n (on_from led)

      went : (k : M) (end : Disposed) → DisposeReaches took shown (disposing setting word trial.table) n k (disposed setting word trial.table end)
          → CallReaches asks eq hashes took shown disposes n k (stored_at setting hash there own (replaced_by trial own word end))
      went k (to.Walks root) r =
          disposes_on can took shown asks eq hashes disposes (answers.Replaced word own) (disposing setting word trial.table) (dispose_at setting word trial.table (to.Walks root)) n k r
      went k (to.Retires retire.Ended) r = disposes_over can took shown asks eq hashes disposes (answers.Replaced word own) (disposing setting word trial.table) n k r
      went k (to.Retires retire.Sees) r =
          disposes_on can took shown asks eq hashes disposes (answers.Replaced word own) (disposing setting word trial.table) (dispose_at setting word trial.table (to.Retires retire.Sees)) n k r
      went k (to.Retires (retire.Pops pending last first)) r =
          disposes_on can took shown asks eq hashes disposes (answers.Replaced word own) (disposing setting word trial.table)
          (dispose_at setting word trial.table (to.Retires (retire.Pops pending last first))) n k r
      went k (to.Retires (retire.Scans pending last first)) r =
          disposes_on can took shown asks eq hashes disposes (answers.Replaced word own) (disposing setting word trial.table)
          (dispose_at setting word trial.table (to.Retires (retire.Scans pending last first))) n k r

      pub was_replaced : (k : M) (end : Disposed) (result : Stored) → result ≡ replaced_by trial own word end
          → DisposeReaches took shown (disposing setting word trial.table) n k (disposed setting word trial.table end)
          → CallReaches asks eq hashes took shown (storing setting hash there own trial (at.Tries word own)) m k (stored_at setting hash there own result)
      was_replaced k end result is r =
          subst (λ (s : Stored). CallReaches asks eq hashes took shown (storing setting hash there own trial (at.Tries word own)) m k (stored_at setting hash there own s)) (sym is)
          (reaches_to led k (stored_at setting hash there own (replaced_by trial own word end)) (went k end r))

  -- the tries begin
  pub enters : {m n : M} {link : ℕ} {value : Node K V} {first : Trial} → HasRoot asks eq hashes can took shown setting hash there own m n link value first
      → Comes asks eq hashes can took shown setting hash there own untried at.Roots m first at.Probes n
  enters {m} {n} {link} {value} {first} h =
      subst (λ (t : Trial). Comes asks eq hashes can took shown setting hash there own untried at.Roots m t at.Probes n) (sym h.first_is)
      (steps_to (begins h.run) called.Goes tt (storing setting hash there own (first_trial (table_seen link value) hash) at.Probes) n
      (Found link, h.loads, rw (ne_eqb link 0 h.some) (value, h.shows, refl)))
