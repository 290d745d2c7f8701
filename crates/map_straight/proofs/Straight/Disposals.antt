-- The retirement of a pair within its disposal, and the disposal within a call on a key.
use Rattle.std.specs.Prelude.{◌≡◌, ◌<◌, ◌≤◌, ℕ, Bool, true, false, Option, Some}
use Rattle.std.proofs.Common.{refl, sym, subst, ap}
use Rattle.std.proofs.lemmas.Bool.{false≢true, le-ltb, lt-ltb}
use Rattle.seize_words.specs.OneMemory.Op.{Op, Out, Load, Found}
use Rattle.seize_words.specs.OneMemory.Word.{block_in}
use Rattle.seize_words.specs.declared.at.At.TheVariants.{Root}
use Rattle.seize.specs.Settle.{retiring, settle_plan}
use Rattle.seize.specs.declared.rows.settle.Settle.{Settle}
use Rattle.seize.specs.declared.rows.settle.Settled.{Settled}
use Rattle.seize.specs.declared.rows.settle.Settled.TheVariants as settling
use Rattle.map_tables.specs.Marks.{link_in}
use Rattle.map_tables.specs.Nodes.{deferred_word, table_seen}
use Rattle.map_tables.specs.declared.node.Node.{Node}
use Rattle.map_tables.specs.declared.setting.Setting.{Setting}
use Rattle.map_tables.specs.declared.table.Table.{Table}
use Rattle.map_machines.specs.Dispose.{dispose_plan, disposing, settled, start_of}
use Rattle.map_machines.specs.declared.dispose.Disposing.TheVariants as disposal
use Rattle.map_tables.specs.declared.resize_mode.ResizeMode.{ResizeMode}
use Rattle.map_tables.specs.declared.resize_mode.ResizeMode.TheVariants.{Incremental, Blocking}
use Rattle.map_machines.specs.declared.dispose.Dispose.{Dispose}
use Rattle.papaya_raw.specs.Call.{call_plan, disposed}
use Rattle.papaya_raw.specs.declared.machines.answer.Called.TheVariants as called
use Rattle.papaya_raw.specs.declared.machines.answer.KeyAnswer.{KeyAnswer}
use Rattle.papaya_raw.specs.declared.machines.call.Calling.TheVariants as at
use Rattle.papaya_raw.specs.declared.machines.call.KeyCall.{KeyCall}
use Rattle.map_straight.specs.Straight.Disposing.{dispose_at, disposed as disposed_to, is_borrowed, settling as settling_at}
use Rattle.seize_straight.specs.Going.{MaySettle, SettleGoes, SettleReaches}
use Rattle.map_straight.specs.Straight.Going.{CallGoes, CallLeads, DisposeLeads, DisposeReaches, MayCall, MayDispose}
use Rattle.seize_straight.specs.Retiring.{retired}
use Rattle.seize_straight.specs.Runs.{EndsTelling}
use Rattle.map_straight.specs.declared.disposing.Disposed.{Disposed}
use Rattle.map_straight.specs.declared.disposing.Disposed.TheVariants as to
use Rattle.seize_straight.specs.declared.retiring.Retired.{Retired}
use Rattle.seize_straight.specs.declared.retiring.Retired.TheVariants as retire
use Rattle.map_straight.proofs.Straight.Inside.{leads_in, may_in, tells_in}
use Rattle.seize_straight.proofs.Running.{Led, begins, steps_to}

module _ {K V M : Type 0} (can : M → Op (Node K V) → Type 0) (took : M → Op (Node K V) → Out (Node K V) → M → Type 0) (shown : M → ℕ → Option (Node K V)) where
  module _ (setting : Setting) (word : ℕ) (table : Table) where
    abbrev put_settle : Settle → Dispose
    put_settle = settling_at setting word table

    settle_goes : (x y : Settle) (told : Settled (Node K V)) → SettleGoes told → ((settled (put_settle x) (y, told)).0 ≡ put_settle y) × SettleGoes (settled (put_settle x) (y, told)).1
    settle_goes x y settling.Goes so = (refl, tt)
    settle_goes x y settling.Waits so = (refl, tt)
    settle_goes x y (settling.Gave value) so = absurd so
    settle_goes x y settling.Done so = absurd so

    abbrev begun : Settle
    begun = retiring setting.slot setting.batch_size (link_in word)

    pub may_retire : (m : M) → MayDispose took shown can (put_settle begun) m
        → MaySettle deferred_word took shown can begun m
    may_retire m h =
        may_in SettleGoes SettleGoes can took shown (settle_plan deferred_word) dispose_plan put_settle (λ x. settled (put_settle x)) (λ x. refl) settle_goes begun m h

    -- it is retired from there on
    pub pair_retired : (m n : M) (end : Retired) → SettleReaches deferred_word took shown begun m n (retired setting.slot setting.batch_size (link_in word) end)
        → DisposeReaches took shown (put_settle begun) m n (disposed_to setting word table (to.Retires end))
    pair_retired m n retire.Ended r =
        tells_in SettleGoes SettleGoes can took shown (settle_plan deferred_word) dispose_plan put_settle (λ x. settled (put_settle x)) (λ x. refl) settle_goes begun m n settling.Done settling.Done
        (λ y z. refl) (λ x. x) r
    pair_retired m n retire.Sees r =
        leads_in SettleGoes SettleGoes can took shown (settle_plan deferred_word) dispose_plan put_settle (λ x. settled (put_settle x)) (λ x. refl) settle_goes begun _ m n r
    pair_retired m n (retire.Pops pending last first) r =
        leads_in SettleGoes SettleGoes can took shown (settle_plan deferred_word) dispose_plan put_settle (λ x. settled (put_settle x)) (λ x. refl) settle_goes begun _ m n r
    pair_retired m n (retire.Scans pending last first) r =
        leads_in SettleGoes SettleGoes can took shown (settle_plan deferred_word) dispose_plan put_settle (λ x. settled (put_settle x)) (λ x. refl) settle_goes begun _ m n r

    -- an older table may name the pair, so the root is read
    pub record HasRoot (m n : M) (root : ℕ) (value : Node K V) : Type 0 where
      pub lent : is_borrowed setting.mode word ≡ true
      pub run : MayDispose took shown can (disposing setting word table) m
      pub loads : took m (Load (Root setting.root)) (Found root) n
      pub shows : shown n (block_in root) ≡ Some value

  -- within a call
  module _ {Q : Type 0} (asks : Q → K → Bool) (eq : K → K → Bool) (hashes : K → ℕ) (c : KeyCall K V Q) (answer : KeyAnswer) where
    abbrev put_dispose : Dispose → KeyCall K V Q
    put_dispose d = record c { stands = at.Disposes d answer }

    dispose_goes : (x y : Dispose) (told : Settled (Node K V)) → SettleGoes told → ((disposed (put_dispose x) answer (y, told)).0 ≡ put_dispose y) × CallGoes (disposed (put_dispose x) answer (y, told)).1
    dispose_goes x y settling.Goes so = (refl, tt)
    dispose_goes x y settling.Waits so = (refl, tt)
    dispose_goes x y (settling.Gave value) so = absurd so
    dispose_goes x y settling.Done so = absurd so

    pub may_dispose : (d : Dispose) (m : M) → MayCall asks eq hashes took shown can (put_dispose d) m
        → MayDispose took shown can d m
    may_dispose d m h =
        may_in SettleGoes CallGoes can took shown dispose_plan (call_plan asks eq hashes) put_dispose (λ x. disposed (put_dispose x) answer) (λ x. refl) dispose_goes d m h

    pub disposes_on : (d e : Dispose) (m n : M) → DisposeLeads took shown d m e n
        → CallLeads asks eq hashes took shown (put_dispose d) m (put_dispose e) n
    disposes_on d e m n l =
        leads_in SettleGoes CallGoes can took shown dispose_plan (call_plan asks eq hashes) put_dispose (λ x. disposed (put_dispose x) answer) (λ x. refl) dispose_goes d e m n l

    pub disposes_over : (d : Dispose) (m n : M) → EndsTelling (SettleGoes {T = Node K V}) took shown (dispose_plan {K = K} {V = V}) d m n settling.Done
        → EndsTelling (CallGoes {T = Node K V}) took shown (call_plan asks eq hashes) (put_dispose d) m n (called.Done answer)
    disposes_over d m n t =
        tells_in SettleGoes CallGoes can took shown dispose_plan (call_plan asks eq hashes) put_dispose (λ x. disposed (put_dispose x) answer) (λ x. refl) dispose_goes d m n settling.Done
        (called.Done answer) (λ y z. refl) (λ x. x) t

-- the disposal that begins with the retirement
abbrev pub retires : Setting → ℕ → Table → Dispose
retires s w t = settling_at s w t (retiring s.slot s.batch_size (link_in w))

starts : (s : Setting) (word : ℕ) (mode : ResizeMode) → is_borrowed mode word ≡ false → start_of s mode word ≡ disposal.Settles (retiring s.slot s.batch_size (link_in word))
starts s word (Incremental chunk) e = rw e refl
starts s word Blocking e = refl

starts_lent : (s : Setting) (word : ℕ) (mode : ResizeMode) → is_borrowed mode word ≡ true → start_of s mode word ≡ disposal.Reads
starts_lent s word (Incremental chunk) e = rw e refl
starts_lent s word Blocking e = absurd (false≢true e)

-- where it begins
is_alone : (s : Setting) (word : ℕ) (t : Table) → is_borrowed s.mode word ≡ false → disposing s word t ≡ retires s word t
is_alone s word t alone = ap (λ x. record (disposing s word t) { stands = x }) (starts s word s.mode alone)

is_lent : (s : Setting) (word : ℕ) (t : Table) → is_borrowed s.mode word ≡ true → disposing s word t ≡ record (disposing s word t) { stands = disposal.Reads }
is_lent s word t lent = ap (λ x. record (disposing s word t) { stands = x }) (starts_lent s word s.mode lent)

module _ {K V M : Type 0} {can : M → Op (Node K V) → Type 0} {took : M → Op (Node K V) → Out (Node K V) → M → Type 0} {shown : M → ℕ → Option (Node K V)}
    (setting : Setting) (word : ℕ) (table : Table) {m : M} where
  -- where no older table may name the pair, it begins with the retirement; else the root is read
  pub may_begin : is_borrowed setting.mode word ≡ false → MayDispose took shown can (disposing setting word table) m → MayDispose took shown can (retires setting word table) m
  may_begin alone h = subst (λ (d : Dispose). MayDispose took shown can d m) (is_alone setting word table alone) h

  pub to_read : is_borrowed setting.mode word ≡ true → MayDispose took shown can (disposing setting word table) m
      → Led SettleGoes took shown dispose_plan can (disposing setting word table) m (record (disposing setting word table) { stands = disposal.Reads }) m
  to_read lent h = subst (λ (d : Dispose). Led SettleGoes took shown dispose_plan can (disposing setting word table) m d m) (is_lent setting word table lent) (begins h)

  module _ {n : M} {root : ℕ} {value : Node K V} (h : HasRoot can took shown setting word table m n root value) where
    pub to_walk : (older : ℕ) → older ≡ (table_seen root value).turn → older < table.turn
        → DisposeLeads took shown (disposing setting word table) m (dispose_at setting word table (to.Walks root)) n
    to_walk older is_turn less =
        (steps_to (to_read h.lent h.run) settling.Goes tt (dispose_at setting word table (to.Walks root)) n
        (Found root, h.loads, (value, h.shows, rw (lt-ltb (table_seen root value).turn table.turn (subst (λ t. t < table.turn) is_turn less)) refl))).leads

    pub to_retire : (older : ℕ) → older ≡ (table_seen root value).turn → table.turn ≤ older
        → Led SettleGoes took shown dispose_plan can (disposing setting word table) m (retires setting word table) n
    to_retire older is_turn late =
        steps_to (to_read h.lent h.run) settling.Goes tt (retires setting word table) n
        (Found root, h.loads, (value, h.shows, rw (le-ltb (table_seen root value).turn table.turn (subst (λ t. table.turn ≤ t) is_turn late)) refl))

-- and has come from there to what the retirement comes to
pub has_retired : {K V M : Type 0} (took : M → Op (Node K V) → Out (Node K V) → M → Type 0) (shown : M → ℕ → Option (Node K V)) (s : Setting) (word : ℕ) (t : Table)
    → is_borrowed s.mode word ≡ false → (m n : M) (end : Disposed) → DisposeReaches took shown (retires s word t) m n (disposed_to s word t end)
    → DisposeReaches took shown (disposing s word t) m n (disposed_to s word t end)
has_retired took shown s word t alone m n end r =
    subst (λ (d : Dispose). DisposeReaches took shown d m n (disposed_to s word t end)) (sym (is_alone s word t alone)) r
