-- The steps of a call that removes the pair of a key, from the root to its end, over any memory.
use Rattle.std.specs.Prelude.{◌≡◌, ◌≢◌, ℕ, Bool, IsSome, Option, Some, Ok}
use Rattle.std.proofs.Common.{refl, sym, subst}
use Rattle.std.proofs.lemmas.Bool.{ne_eqb, eq-eqb}
use Rattle.seize_words.specs.OneMemory.Op.{Op, Out, Load, Add, Exchange, Found, Exchanged}
use Rattle.seize_words.specs.OneMemory.Plan.{Steps, Ends}
use Rattle.seize_words.specs.OneMemory.Word.{block_in}
use Rattle.seize_words.specs.declared.at.At.TheVariants.{Root}
use Rattle.map_tables.specs.Counts.{count_change, shard_of}
use Rattle.map_tables.specs.Nodes.{table_seen}
use Rattle.map_tables.specs.Trials.{first_trial, place_tried}
use Rattle.map_tables.specs.declared.marks.TheConstants.{TOMBSTONE}
use Rattle.map_tables.specs.declared.node.Node.{Node}
use Rattle.map_tables.specs.declared.setting.Setting.{Setting}
use Rattle.map_tables.specs.declared.trial.Trial.{Trial}
use Rattle.map_machines.specs.Dispose.{disposing}
use Rattle.papaya_raw.specs.Call.{call_plan, word_read}
use Rattle.papaya_raw.specs.CallPoints.{untried}
use Rattle.papaya_raw.specs.declared.machines.answer.Called.{Called}
use Rattle.papaya_raw.specs.declared.machines.answer.Called.TheVariants as called
use Rattle.papaya_raw.specs.declared.machines.answer.End.TheVariants as ends
use Rattle.papaya_raw.specs.declared.machines.answer.KeyAnswer.TheVariants as answers
use Rattle.papaya_raw.specs.declared.machines.call.Calling.{Calling}
use Rattle.papaya_raw.specs.declared.machines.call.Calling.TheVariants as at
use Rattle.papaya_raw.specs.declared.machines.call.KeyCall.{KeyCall}
use Rattle.map_straight.specs.Straight.Disposing.{disposed, dispose_at}
use Rattle.map_straight.specs.Straight.Going.{CallGoes, CallReaches, DisposeReaches, MayCall, MayDispose}
use Rattle.map_straight.specs.Straight.Removing.{HasSought, removed_at, removed_by, seeking, sought_at}
use Rattle.seize_straight.specs.Runs.{EndsTelling}
use Rattle.map_straight.specs.declared.disposing.Disposed.{Disposed}
use Rattle.map_straight.specs.declared.disposing.Disposed.TheVariants as to
use Rattle.map_straight.specs.declared.removing.RemovalAt.{RemovalAt}
use Rattle.map_straight.specs.declared.removing.Sought.{Sought}
use Rattle.seize_straight.specs.declared.retiring.Retired.TheVariants as retire
use Rattle.map_straight.proofs.Straight.Disposals.{disposes_on, disposes_over, may_dispose}
use Rattle.seize_straight.proofs.Running.{Led, begins, comes_to, next, on_from, reaches_to, steps_to, tells_at}

module _ {K V Q M : Type 0} (asks : Q → K → Bool) (eq : K → K → Bool) (hashes : K → ℕ)
    (can : M → Op (Node K V) → Type 0) (took : M → Op (Node K V) → Out (Node K V) → M → Type 0) (shown : M → ℕ → Option (Node K V))
    (setting : Setting) (hash : ℕ) (asked : Q) where
  -- a call that may be run from this try and point has come to that one
  abbrev pub Comes : Trial → Calling → M → Trial → Calling → M → Type 0
  Comes t s m u r n =
      Led (CallGoes {T = Node K V}) took shown (call_plan asks eq hashes) can (seeking {K = K} {V = V} {Q = Q} setting hash asked t s) m (seeking setting hash asked u r) n

  -- it has put a tombstone in the place of a word
  pub record HasPut (trial : Trial) (word : ℕ) (m n : M) : Type 0 where
    pub run : MayCall asks eq hashes took shown can (seeking setting hash asked trial (at.Tries word TOMBSTONE)) m
    pub was : ℕ
    pub puts : took m (Exchange (place_tried trial) word TOMBSTONE) (Exchanged (Ok was)) n

  -- and counted that a pair was removed
  pub record HasCounted (trial : Trial) (word : ℕ) (m n : M) : Type 0 where
    pub between : M
    pub put : HasPut trial word m between
    pub pair : word ≢ 0
    pub found : ℕ
    pub adds : took between (Add (shard_of setting) (count_change word)) (Found found) n

  -- the root is read, and names a table, whose tries begin
  pub record HasRoot (m n : M) (link : ℕ) (value : Node K V) (first : Trial) : Type 0 where
    pub run : MayCall asks eq hashes took shown can (seeking setting hash asked untried at.Roots) m
    pub loads : took m (Load (Root setting.root)) (Found link) n
    pub some : link ≢ 0
    pub shows : shown n (block_in link) ≡ Some value
    pub first_is : first ≡ first_trial (table_seen link value) hash

module _ {K V Q M : Type 0} (asks : Q → K → Bool) (eq : K → K → Bool) (hashes : K → ℕ)
    {can : M → Op (Node K V) → Type 0} {took : M → Op (Node K V) → Out (Node K V) → M → Type 0} {shown : M → ℕ → Option (Node K V)}
    {setting : Setting} {hash : ℕ} {asked : Q} where
  -- a word is read where it stands, whether it was loaded or found by an exchange that failed
  pub goes_by : {trial : Trial} {stands : Calling} {m : M} → MayCall asks eq hashes took shown can (seeking setting hash asked trial stands) m
      → (n : M) (loaded : Bool) (word : ℕ) (result : Sought)
      → HasSought setting hash asked (shown n) (word_read asks eq loaded (seeking setting hash asked trial stands) word) result
      → ((end : KeyCall K V Q × Called (Node K V)) → Ends (shown n) (word_read asks eq loaded (seeking setting hash asked trial stands) word) end
      → Steps took shown m (call_plan asks eq hashes (seeking setting hash asked trial stands)) n end)
      → CallReaches asks eq hashes took shown (seeking setting hash asked trial stands) m n (sought_at setting hash asked result)
  goes_by {trial} {stands} {m} h n loaded word result (end, ends, w) step =
      comes_to CallGoes took shown (call_plan asks eq hashes) (seeking setting hash asked trial stands) m n (word_read asks eq loaded (seeking setting hash asked trial stands) word) (sought_at setting hash asked result) end ends w step

  -- the root names no table
  pub has_none : {m n : M} {link : ℕ} → MayCall asks eq hashes took shown can (seeking setting hash asked untried at.Roots) m
      → took m (Load (Root setting.root)) (Found link) n → link ≡ 0
      → EndsTelling CallGoes took shown (call_plan asks eq hashes) (seeking setting hash asked untried at.Roots) m n (called.Done answers.Absent)
  has_none {n = n} {link = link} h loads empty =
      tells_at (begins h) (called.Done answers.Absent) (λ x. x) (seeking setting hash asked untried (at.Over (ends.Answered answers.Absent))) n (Found link, loads, rw (eq-eqb link 0 empty) refl)

  -- or one, whose tries begin
  pub sees_table : {m n : M} {link : ℕ} → MayCall asks eq hashes took shown can (seeking setting hash asked untried at.Roots) m
      → took m (Load (Root setting.root)) (Found link) n → link ≢ 0 → IsSome (shown n (block_in link))
  sees_table {n = n} {link = link} h loads some = let see = (next (begins h)).1 (Found link) n loads in let s = rw (ne_eqb link 0 some) at see in s.0

module _ {K V Q M : Type 0} {asks : Q → K → Bool} {eq : K → K → Bool} {hashes : K → ℕ}
    {can : M → Op (Node K V) → Type 0} {took : M → Op (Node K V) → Out (Node K V) → M → Type 0} {shown : M → ℕ → Option (Node K V)}
    {setting : Setting} {hash : ℕ} {asked : Q} where
  -- a tombstone is put in its place, and that is counted
  pub counts : {trial : Trial} {word : ℕ} {m n : M} → HasPut asks eq hashes can took shown setting hash asked trial word m n
      → Comes asks eq hashes can took shown setting hash asked trial (at.Tries word TOMBSTONE) m trial (at.Counts word) n
  counts {trial} {word} {m} {n} h = steps_to (begins h.run) called.Goes tt (seeking setting hash asked trial (at.Counts word)) n (Exchanged (Ok h.was), h.puts, refl)

  -- the pair is disposed of
  module _ {trial : Trial} {word : ℕ} {m k : M} (h : HasCounted asks eq hashes can took shown setting hash asked trial word m k) where
    abbrev disposes : KeyCall K V Q
    disposes = seeking setting hash asked trial (at.Disposes (disposing setting word trial.table) (answers.Removed word))

    led : Comes asks eq hashes can took shown setting hash asked trial (at.Tries word TOMBSTONE) m trial (at.Disposes (disposing setting word trial.table) (answers.Removed word)) k
    led = steps_to (counts h.put) called.Goes tt disposes k (Found h.found, h.adds, rw (ne_eqb word 0 h.pair) refl)

    pub may_go_on : MayDispose took shown can (disposing setting word trial.table) k
    may_go_on = may_dispose can took shown asks eq hashes disposes (answers.Removed word) (disposing setting word trial.table) k (on_from led)

    went : (j : M) (end : Disposed) → DisposeReaches took shown (disposing setting word trial.table) k j (disposed setting word trial.table end)
        → CallReaches asks eq hashes took shown disposes k j (removed_at setting hash asked (removed_by trial word end))
    went j (to.Walks root) r =
        disposes_on can took shown asks eq hashes disposes (answers.Removed word) (disposing setting word trial.table) (dispose_at setting word trial.table (to.Walks root)) k j r
    went j (to.Retires retire.Ended) r = disposes_over can took shown asks eq hashes disposes (answers.Removed word) (disposing setting word trial.table) k j r
    went j (to.Retires retire.Sees) r =
        disposes_on can took shown asks eq hashes disposes (answers.Removed word) (disposing setting word trial.table) (dispose_at setting word trial.table (to.Retires retire.Sees)) k j r
    went j (to.Retires (retire.Pops pending last first)) r =
        disposes_on can took shown asks eq hashes disposes (answers.Removed word) (disposing setting word trial.table)
        (dispose_at setting word trial.table (to.Retires (retire.Pops pending last first))) k j r
    went j (to.Retires (retire.Scans pending last first)) r =
        disposes_on can took shown asks eq hashes disposes (answers.Removed word) (disposing setting word trial.table)
        (dispose_at setting word trial.table (to.Retires (retire.Scans pending last first))) k j r

    pub was_removed : (j : M) (end : Disposed) (result : RemovalAt) → result ≡ removed_by trial word end
        → DisposeReaches took shown (disposing setting word trial.table) k j (disposed setting word trial.table end)
        → CallReaches asks eq hashes took shown (seeking setting hash asked trial (at.Tries word TOMBSTONE)) m j (removed_at setting hash asked result)
    was_removed j end result is r =
        subst (λ (s : RemovalAt). CallReaches asks eq hashes took shown (seeking setting hash asked trial (at.Tries word TOMBSTONE)) m j (removed_at setting hash asked s)) (sym is)
        (reaches_to led j (removed_at setting hash asked (removed_by trial word end)) (went j end r))

  -- the tries begin
  pub enters : {m n : M} {link : ℕ} {value : Node K V} {first : Trial} → HasRoot asks eq hashes can took shown setting hash asked m n link value first
      → Comes asks eq hashes can took shown setting hash asked untried at.Roots m first at.Probes n
  enters {m} {n} {link} {value} {first} h =
      subst (λ (t : Trial). Comes asks eq hashes can took shown setting hash asked untried at.Roots m t at.Probes n) (sym h.first_is)
      (steps_to (begins h.run) called.Goes tt (seeking setting hash asked (first_trial (table_seen link value) hash) at.Probes) n
      (Found link, h.loads, rw (ne_eqb link 0 h.some) (value, h.shows, refl)))
