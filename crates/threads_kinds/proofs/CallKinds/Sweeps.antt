-- A step of a sweep comes to a sweep of the same purpose, and tells what one of that may.
use Rattle.std.specs.Prelude.{◌==◌, ◌&&◌, nat_lt, if◌then◌else◌, Option, Ok, Err}
use Rattle.std.proofs.Common.{◌≡◌, ℕ, Bool, true, false, refl, sym, subst}
use Rattle.seize_words.specs.OneMemory.Op.{Op, Out, Load, Exchange, Found, Stored, Exchanged, Made, Taken, Roomed}
use Rattle.seize_words.specs.OneMemory.Plan.{Now, Seeing, Ends}
use Rattle.seize_words.specs.OneMemory.Word.{block_in}
use Rattle.seize_words.specs.declared.at.At.{At}
use Rattle.seize_words.specs.declared.at.At.TheVariants.{Root}
use Rattle.seize.specs.declared.rows.settle.Settled.{Settled}
use Rattle.seize.specs.declared.rows.settle.Settled.TheVariants as settled
use Rattle.map_tables.specs.Chunks.{is_incremental}
use Rattle.map_tables.specs.Marks.{has_mark}
use Rattle.map_tables.specs.Nodes.{table_seen}
use Rattle.map_tables.specs.TablePlaces.{at_word, at_place}
use Rattle.map_tables.specs.declared.marks.TheConstants.{COPYING, TOMBSTONE}
use Rattle.map_tables.specs.declared.node.Node.{Node}
use Rattle.map_tables.specs.declared.table.Table.{Table}
use Rattle.map_tables.specs.declared.table_words.TheConstants.{NEXT}
use Rattle.map_machines.specs.Copier.{copier_plan}
use Rattle.map_machines.specs.CopierStates.{copying_all}
use Rattle.map_machines.specs.Dispose.{dispose_plan, disposing}
use Rattle.map_machines.specs.declared.copier.Copier.{Copier}
use Rattle.map_machines.specs.declared.dispose.Dispose.{Dispose}
use Rattle.map_machines.specs.declared.yielding.Yielding.{Yielding}
use Rattle.map_machines.specs.declared.yielding.Yielding.TheVariants as outcome
use Rattle.papaya_raw.specs.Given.ReservesDeclared.sweep.Purpose.{Purpose}
use Rattle.papaya_raw.specs.Given.ReservesDeclared.sweep.Purpose.TheVariants.{Walks, Clears, Retains}
use Rattle.papaya_raw.specs.Given.ReservesDeclared.sweep.Sweep.{Sweep}
use Rattle.papaya_raw.specs.Given.ReservesDeclared.sweep.Sweeping.{Sweeping}
use Rattle.papaya_raw.specs.Given.ReservesDeclared.sweep.Sweeping.TheVariants as at
use Rattle.papaya_raw.specs.Given.ReservesDeclared.sweep.Swept.{Swept}
use Rattle.papaya_raw.specs.Given.ReservesDeclared.sweep.Swept.TheVariants as swept
use Rattle.papaya_raw.specs.Given.SweepsSweep.{word_found, tried, root_read, next_read, copied, disposed, plan_at, sweep_plan}
use Rattle.papaya_raw.specs.Given.SweepsSweepPoints.{removes, standing, beginning, tableless, entering, past, at_end, further, told, telling, going, at_pair, seen}
use Rattle.threads_kinds.specs.CallKinds.Answers.{IsAnswer}
use Rattle.threads_kinds.specs.CallKinds.Leads.{Leads}
use Rattle.threads_kinds.specs.CallKinds.Sweeps.{IsFor, MayBeAt, OutcomeAgreesBy}
use Rattle.threads_kinds.proofs.CallKinds.Leads.{leads_as}

-- a sweep of any purpose may stand where it neither asks nor is to be asked
abbrev IsOpen : Sweeping → Type 0
IsOpen at.Ready = ⊥
IsOpen (at.Asks word) = ⊥
IsOpen stands = Unit {0}

open_at : (p : Purpose) (s : Sweeping) → IsOpen s → MayBeAt p s
open_at Walks (at.Asks word) o = absurd o
open_at Walks _ o = tt
open_at Clears at.Ready o = absurd o
open_at Clears (at.Asks word) o = absurd o
open_at Clears _ o = tt
open_at Retains at.Ready o = absurd o
open_at Retains _ o = tt

-- it is so wherever else it stands
standing_so : (p : Purpose) (c : Sweep) (s : Sweeping) → IsFor p c → IsOpen s → IsFor p (standing c s)
standing_so p c s is o = record { is = is.is; here = open_at p s o }

begins_at : (p : Purpose) → MayBeAt p (if removes p then at.Words else at.Ready)
begins_at Walks = tt
begins_at Clears = tt
begins_at Retains = tt

ends_at : (p : Purpose) → MayBeAt p (if removes p then at.Over else at.Ready)
ends_at Walks = tt
ends_at Clears = tt
ends_at Retains = tt

beginning_so : (p : Purpose) (c : Sweep) → IsFor p c → IsFor p (beginning c)
beginning_so p c is = record { is = is.is; here = subst (λ (q : Purpose). MayBeAt p (if removes q then at.Words else at.Ready)) (sym is.is) (begins_at p) }

tableless_so : (p : Purpose) (c : Sweep) → IsFor p c → IsFor p (tableless c)
tableless_so p c is = record { is = is.is; here = subst (λ (q : Purpose). MayBeAt p (if removes q then at.Over else at.Ready)) (sym is.is) (ends_at p) }

entering_so : (p : Purpose) (c : Sweep) (table : Table) → IsFor p c → IsFor p (entering c table)
entering_so p c table is = by (is_incremental c.setting.mode)
  where
    by : (b : Bool) → IsFor p (if b then record c { table = table; stands = at.Follows } else beginning (record c { table = table }))
    by true = record { is = is.is; here = open_at p at.Follows tt }
    by false = beginning_so p (record c { table = table }) (record { is = is.is; here = is.here })

pub further_so : (p : Purpose) (c : Sweep) → IsFor p c → IsFor p (further c)
further_so p c is = standing_so p (past c) _ (record { is = is.is; here = is.here }) (by (nat_lt (past c).place c.table.len))
  where
    last : (b : Bool) → IsOpen (if b then at.Follows else at.Over)
    last true = tt
    last false = tt

    by : (b : Bool) → IsOpen (if b then at.Words else at_end c)
    by true = tt
    by false = last (removes c.purpose && c.met)

abbrev To : {T : Type 0} → Purpose → Sweep × Swept T → Type 0
To p e = IsFor p e.0 × OutcomeAgreesBy p e.0 e.1

module _ (T : Type 0) where
  -- what it tells where it stands
  told_so : (p : Purpose) (c : Sweep) (s : Sweeping) → c.stands ≡ s → MayBeAt p s → OutcomeAgreesBy p c (told {T = T} s)
  told_so Walks c at.Ready is here = is
  told_so Walks c (at.Asks word) is here = absurd here
  told_so Walks c _ is here = tt
  told_so Clears c at.Ready is here = absurd here
  told_so Clears c (at.Asks word) is here = absurd here
  told_so Clears c _ is here = tt
  told_so Retains c at.Ready is here = absurd here
  told_so Retains c (at.Asks word) is here = is
  told_so Retains c _ is here = tt

  goes_so : (p : Purpose) (c : Sweep) → OutcomeAgreesBy {T = T} p c swept.Goes
  goes_so Walks c = tt
  goes_so Clears c = tt
  goes_so Retains c = tt

  waits_so : (p : Purpose) (c : Sweep) → OutcomeAgreesBy {T = T} p c swept.Waits
  waits_so Walks c = tt
  waits_so Clears c = tt
  waits_so Retains c = tt

  gave_so : (p : Purpose) (c : Sweep) (value : T) → OutcomeAgreesBy p c (swept.Gave value)
  gave_so Walks c value = tt
  gave_so Clears c value = tt
  gave_so Retains c value = tt

  telling_so : (p : Purpose) (c : Sweep) → IsFor p c → To {T = T} p (telling c)
  telling_so p c is = (is, told_so p c c.stands refl is.here)

  going_so : (p : Purpose) (c : Sweep) (s : Sweeping) → IsFor p c → IsOpen s → To {T = T} p (going c s)
  going_so p c s is o = (standing_so p c s is o, goes_so p (standing c s))

  -- at a pair
  pair_so : (p : Purpose) (c : Sweep) (word : ℕ) → c.purpose ≡ p → To {T = T} p (at_pair p c word)
  pair_so Walks c word is = (record { is = is; here = tt }, refl)
  pair_so Clears c word is = (record { is = is; here = tt }, tt)
  pair_so Retains c word is = (record { is = is; here = tt }, refl)

  seen_so : (p : Purpose) (c : Sweep) (word : ℕ) → IsFor p c → To {T = T} p (seen c word)
  seen_so p c word is = by (removes c.purpose && has_mark word COPYING) (block_in word == 0)
    where
      by : (m z : Bool) → To {T = T} p (if m then telling (further (record c { met = true })) else (if z then telling (further c) else at_pair c.purpose c word))
      by true z = telling_so p (further (record c { met = true })) (further_so p (record c { met = true }) (record { is = is.is; here = is.here }))
      by false true = telling_so p (further c) (further_so p c is)
      by false false = subst (λ (q : Purpose). To {T = T} p (at_pair q c word)) (sym is.is) (pair_so p c word is.is)

  disposed_so : (p : Purpose) (c : Sweep) → IsFor p c → (e : Dispose × Settled T) → To p (disposed c e)
  disposed_so p c is (dispose, settled.Goes) = going_so p c (at.Disposes dispose) is tt
  disposed_so p c is (dispose, settled.Waits) = (standing_so p c (at.Disposes dispose) is tt, waits_so p (standing c (at.Disposes dispose)))
  disposed_so p c is (dispose, settled.Gave value) = (standing_so p c (at.Disposes dispose) is tt, gave_so p (standing c (at.Disposes dispose)) value)
  disposed_so p c is (dispose, settled.Done) = telling_so p (further c) (further_so p c is)

module _ {K V : Type 0} (hashes : K → ℕ) (p : Purpose) (c : Sweep) (is : IsFor p c) (shown : ℕ → Option (Node K V)) (end : Sweep × Swept (Node K V)) where
  abbrev load : At → Op (Node K V)
  load place = Load place

  abbrev exchange : ℕ → Op (Node K V)
  exchange word = Exchange (at_place c.table c.place) word TOMBSTONE

  copied_so : (e : Copier × Yielding (Node K V) Table) → To p (copied c e)
  copied_so (copier, outcome.Goes) = going_so (Node K V) p c (at.Copies copier) is tt
  copied_so (copier, outcome.Waits) = (standing_so p c (at.Copies copier) is tt, waits_so (Node K V) p (standing c (at.Copies copier)))
  copied_so (copier, outcome.Gave value) = (standing_so p c (at.Copies copier) is tt, gave_so (Node K V) p (standing c (at.Copies copier)) value)
  copied_so (copier, outcome.Done root) = telling_so (Node K V) p (entering c root) (entering_so p c root is)
  copied_so (copier, outcome.Refused fault) = telling_so (Node K V) p (standing c (at.Refused fault)) (standing_so p c (at.Refused fault) is tt)

  root_so : (root : ℕ) → Ends shown (root_read c (Found root)) end → To p end
  root_so root = by (root == 0)
    where
      by : (b : Bool) → Ends shown (if b then Now (telling (tableless c)) else Seeing (block_in root) (λ value. Now (telling (entering c (table_seen root value))))) end → To p end
      by true e = subst (To p) (sym e) (telling_so (Node K V) p (tableless c) (tableless_so p c is))
      by false e = subst (To p) (sym e.2) (telling_so (Node K V) p (entering c (table_seen root e.0)) (entering_so p c (table_seen root e.0) is))

  roots_so : (out : Out (Node K V)) → IsAnswer (load (Root c.setting.root)) out → Ends shown (root_read c out) end → To p end
  roots_so (Found root) fits e = root_so root e
  roots_so Stored fits e = absurd fits
  roots_so (Exchanged x) fits e = absurd fits
  roots_so (Made x) fits e = absurd fits
  roots_so (Taken x) fits e = absurd fits
  roots_so (Roomed x) fits e = absurd fits

  next_so : (link : ℕ) → Ends shown (next_read c (Found link)) end → To p end
  next_so link = by (link == 0)
    where
      by : (b : Bool)
          → Ends shown (if b then Now (telling (beginning c)) else Seeing (block_in link) (λ value. Now (going c (at.Copies (copying_all c.setting c.table (table_seen link value)))))) end → To p end
      by true e = subst (To p) (sym e) (telling_so (Node K V) p (beginning c) (beginning_so p c is))
      by false e = subst (To p) (sym e.2) (going_so (Node K V) p c (at.Copies (copying_all c.setting c.table (table_seen link e.0))) is tt)

  nexts_so : (out : Out (Node K V)) → IsAnswer (load (at_word c.table NEXT)) out → Ends shown (next_read c out) end → To p end
  nexts_so (Found link) fits e = next_so link e
  nexts_so Stored fits e = absurd fits
  nexts_so (Exchanged x) fits e = absurd fits
  nexts_so (Made x) fits e = absurd fits
  nexts_so (Taken x) fits e = absurd fits
  nexts_so (Roomed x) fits e = absurd fits

  words_so : (out : Out (Node K V)) → IsAnswer (load (at_place c.table c.place)) out → Ends shown (word_found c out) end → To p end
  words_so (Found word) fits e = subst (To p) (sym e) (seen_so (Node K V) p c word is)
  words_so Stored fits e = absurd fits
  words_so (Exchanged x) fits e = absurd fits
  words_so (Made x) fits e = absurd fits
  words_so (Taken x) fits e = absurd fits
  words_so (Roomed x) fits e = absurd fits

  tries_so : (word : ℕ) (out : Out (Node K V)) → IsAnswer (exchange word) out → Ends shown (tried c word out) end → To p end
  tries_so word (Exchanged (Ok was)) fits e = subst (To p) (sym e) (going_so (Node K V) p c (at.Counts word) is tt)
  tries_so word (Exchanged (Err was)) fits e = subst (To p) (sym e) (seen_so (Node K V) p c was is)
  tries_so word (Found x) fits e = absurd fits
  tries_so word Stored fits e = absurd fits
  tries_so word (Made x) fits e = absurd fits
  tries_so word (Taken x) fits e = absurd fits
  tries_so word (Roomed x) fits e = absurd fits

  at_point : (s : Sweeping) → c.stands ≡ s → MayBeAt p s → Leads shown (plan_at hashes c s) end → To p end
  at_point at.Reads at_it here e = roots_so e.0 e.1 e.2
  at_point at.Follows at_it here e = nexts_so e.0 e.1 e.2
  at_point (at.Copies copier) at_it here e = let l = leads_as (copied c) shown (copier_plan hashes copier) end e in subst (To p) (sym l.2) (copied_so l.0)
  at_point at.Words at_it here e = words_so e.0 e.1 e.2
  at_point (at.Tries word) at_it here e = tries_so word e.0 e.1 e.2
  at_point (at.Counts removed) at_it here e = subst (To p) (sym e.2) (going_so (Node K V) p c (at.Disposes (disposing c.setting removed c.table)) is tt)
  at_point (at.Disposes dispose) at_it here e = let l = leads_as (disposed c) shown (dispose_plan dispose) end e in subst (To p) (sym l.2) (disposed_so (Node K V) p c is l.0)
  at_point at.Ready at_it here e = subst (To p) (sym e) (is, told_so (Node K V) p c at.Ready at_it here)
  at_point (at.Asks word) at_it here e = subst (To p) (sym e) (is, told_so (Node K V) p c (at.Asks word) at_it here)
  at_point at.Over at_it here e = subst (To p) (sym e) (is, told_so (Node K V) p c at.Over at_it here)
  at_point (at.Refused fault) at_it here e = subst (To p) (sym e) (is, told_so (Node K V) p c (at.Refused fault) at_it here)

  pub sweep_says : Leads shown (sweep_plan hashes c) end → IsFor p end.0 × OutcomeAgreesBy p end.0 end.1
  sweep_says e = at_point c.stands refl is.here e
