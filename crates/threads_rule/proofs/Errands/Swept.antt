-- A step of a sweep tells a pair only where it has read the word of its place, and else it does not ask.
use Rattle.std.specs.Prelude.{◌==◌, ◌&&◌, nat_lt, if◌then◌else◌, Option, Ok, Err}
use Rattle.std.proofs.Common.{◌≡◌, ℕ, Bool, true, false, refl, sym, subst}
use Rattle.seize_words.specs.OneMemory.Op.{Op, Out, Load, Exchange, Found, Stored, Exchanged, Made, Taken, Roomed}
use Rattle.seize_words.specs.OneMemory.Plan.{Now, Seeing, Ends}
use Rattle.seize_words.specs.OneMemory.Word.{block_in}
use Rattle.seize_words.specs.declared.at.At.{At}
use Rattle.seize_words.specs.declared.at.At.TheVariants.{Root}
use Rattle.seize.specs.declared.rows.settle.Settled.{Settled}
use Rattle.seize.specs.declared.rows.settle.Settled.TheVariants as settled
use Rattle.map_tables.specs.Chunks.{is_incremental}
use Rattle.map_tables.specs.Marks.{has_mark}
use Rattle.map_tables.specs.Nodes.{table_seen}
use Rattle.map_tables.specs.TablePlaces.{at_word, at_place}
use Rattle.map_tables.specs.declared.marks.TheConstants.{COPYING, TOMBSTONE}
use Rattle.map_tables.specs.declared.node.Node.{Node}
use Rattle.map_tables.specs.declared.table.Table.{Table}
use Rattle.map_tables.specs.declared.table_words.TheConstants.{NEXT}
use Rattle.map_machines.specs.Copier.{copier_plan}
use Rattle.map_machines.specs.CopierStates.{copying_all}
use Rattle.map_machines.specs.Dispose.{dispose_plan}
use Rattle.map_machines.specs.declared.copier.Copier.{Copier}
use Rattle.map_machines.specs.declared.dispose.Dispose.{Dispose}
use Rattle.map_machines.specs.declared.yielding.Yielding.{Yielding}
use Rattle.map_machines.specs.declared.yielding.Yielding.TheVariants as outcome
use Rattle.papaya_raw.specs.Given.ReservesDeclared.sweep.Purpose.{Purpose}
use Rattle.papaya_raw.specs.Given.ReservesDeclared.sweep.Purpose.TheVariants.{Walks, Clears, Retains}
use Rattle.papaya_raw.specs.Given.ReservesDeclared.sweep.Sweep.{Sweep}
use Rattle.papaya_raw.specs.Given.ReservesDeclared.sweep.Sweeping.{Sweeping}
use Rattle.papaya_raw.specs.Given.ReservesDeclared.sweep.Sweeping.TheVariants as at
use Rattle.papaya_raw.specs.Given.ReservesDeclared.sweep.Swept.{Swept}
use Rattle.papaya_raw.specs.Given.ReservesDeclared.sweep.Swept.TheVariants as swept
use Rattle.papaya_raw.specs.Given.SweepsSweep.{word_found, tried, root_read, next_read, copied, disposed, plan_at, sweep_plan}
use Rattle.papaya_raw.specs.Given.SweepsSweepPoints.{removes, beginning, tableless, entering, past, at_end, further, told, telling, going, at_pair, seen}
use Rattle.threads_kinds.specs.CallKinds.Answers.{IsAnswer}
use Rattle.threads_kinds.specs.CallKinds.Leads.{Leads}
use Rattle.threads_kinds.specs.CallKinds.Shows.{ReadsWord}
use Rattle.threads_rule.specs.Errands.Sweeping.{AsksNot}
use Rattle.threads_kinds.proofs.CallKinds.Leads.{leads_as}

-- What a step tells from there.
abbrev pub TellsFrom : {T : Type 0} → Sweeping → Sweep × Swept T → Type 0
TellsFrom was (c, swept.Pair word) = ReadsWord was
TellsFrom was (c, swept.Asks word) = ReadsWord was
TellsFrom was (c, told) = AsksNot c.stands

begins_not : (b : Bool) → AsksNot (if b then at.Words else at.Ready)
begins_not true = tt
begins_not false = tt

ends_not : (b : Bool) → AsksNot (if b then at.Over else at.Ready)
ends_not true = tt
ends_not false = tt

enters_not : (c : Sweep) (table : Table) → AsksNot (entering c table).stands
enters_not c table = by (is_incremental c.setting.mode)
  where
    by : (b : Bool) → AsksNot (if b then record c { table = table; stands = at.Follows } else beginning (record c { table = table })).stands
    by true = tt
    by false = begins_not (removes c.purpose)

pub goes_not : (c : Sweep) → AsksNot (further c).stands
goes_not c = by (nat_lt (past c).place c.table.len)
  where
    last : (b : Bool) → AsksNot (if b then at.Follows else at.Over)
    last true = tt
    last false = tt

    by : (b : Bool) → AsksNot (if b then at.Words else at_end c)
    by true = tt
    by false = last (removes c.purpose && c.met)

module _ (T : Type 0) (was : Sweeping) where
  telling_from : (c : Sweep) → AsksNot c.stands → TellsFrom {T = T} was (telling c)
  telling_from c is = by c.stands is
    where
      by : (s : Sweeping) → AsksNot s → TellsFrom {T = T} was (c, told s)
      by (at.Asks word) not = absurd not
      by at.Ready not = is
      by at.Over not = is
      by (at.Refused fault) not = is
      by _ not = is

  pair_from : ReadsWord was → (p : Purpose) (c : Sweep) (word : ℕ) → TellsFrom {T = T} was (at_pair p c word)
  pair_from reads Walks c word = reads
  pair_from reads Clears c word = tt
  pair_from reads Retains c word = reads

  seen_from : ReadsWord was → (c : Sweep) (word : ℕ) → TellsFrom {T = T} was (seen c word)
  seen_from reads c word = by (removes c.purpose && has_mark word COPYING) (block_in word == 0)
    where
      by : (m z : Bool) → TellsFrom {T = T} was (if m then telling (further (record c { met = true })) else (if z then telling (further c) else at_pair c.purpose c word))
      by true z = telling_from (further (record c { met = true })) (goes_not (record c { met = true }))
      by false true = telling_from (further c) (goes_not c)
      by false false = pair_from reads c.purpose c word

  disposed_from : (c : Sweep) (e : Dispose × Settled T) → TellsFrom was (disposed c e)
  disposed_from c (dispose, settled.Goes) = tt
  disposed_from c (dispose, settled.Waits) = tt
  disposed_from c (dispose, settled.Gave value) = tt
  disposed_from c (dispose, settled.Done) = telling_from (further c) (goes_not c)

module _ {K V : Type 0} (hashes : K → ℕ) (c : Sweep) (shown : ℕ → Option (Node K V)) (end : Sweep × Swept (Node K V)) (was : Sweeping) where
  abbrev load : At → Op (Node K V)
  load place = Load place

  abbrev exchange : ℕ → Op (Node K V)
  exchange word = Exchange (at_place c.table c.place) word TOMBSTONE

  abbrev To : Sweep × Swept (Node K V) → Type 0
  To e = TellsFrom was e

  copied_from : (e : Copier × Yielding (Node K V) Table) → To (copied c e)
  copied_from (copier, outcome.Goes) = tt
  copied_from (copier, outcome.Waits) = tt
  copied_from (copier, outcome.Gave value) = tt
  copied_from (copier, outcome.Done root) = telling_from (Node K V) was (entering c root) (enters_not c root)
  copied_from (copier, outcome.Refused fault) = tt

  root_from : (root : ℕ) → Ends shown (root_read c (Found root)) end → To end
  root_from root = by (root == 0)
    where
      by : (b : Bool) → Ends shown (if b then Now (telling (tableless c)) else Seeing (block_in root) (λ value. Now (telling (entering c (table_seen root value))))) end → To end
      by true e = subst To (sym e) (telling_from (Node K V) was (tableless c) (ends_not (removes c.purpose)))
      by false e = subst To (sym e.2) (telling_from (Node K V) was (entering c (table_seen root e.0)) (enters_not c (table_seen root e.0)))

  roots_from : (out : Out (Node K V)) → IsAnswer (load (Root c.setting.root)) out → Ends shown (root_read c out) end → To end
  roots_from (Found root) fits e = root_from root e
  roots_from Stored fits e = absurd fits
  roots_from (Exchanged x) fits e = absurd fits
  roots_from (Made x) fits e = absurd fits
  roots_from (Taken x) fits e = absurd fits
  roots_from (Roomed x) fits e = absurd fits

  next_from : (link : ℕ) → Ends shown (next_read c (Found link)) end → To end
  next_from link = by (link == 0)
    where
      by : (b : Bool)
          → Ends shown (if b then Now (telling (beginning c)) else Seeing (block_in link) (λ value. Now (going c (at.Copies (copying_all c.setting c.table (table_seen link value)))))) end → To end
      by true e = subst To (sym e) (telling_from (Node K V) was (beginning c) (begins_not (removes c.purpose)))
      by false e = subst To (sym e.2) tt

  nexts_from : (out : Out (Node K V)) → IsAnswer (load (at_word c.table NEXT)) out → Ends shown (next_read c out) end → To end
  nexts_from (Found link) fits e = next_from link e
  nexts_from Stored fits e = absurd fits
  nexts_from (Exchanged x) fits e = absurd fits
  nexts_from (Made x) fits e = absurd fits
  nexts_from (Taken x) fits e = absurd fits
  nexts_from (Roomed x) fits e = absurd fits

  words_from : ReadsWord was → (out : Out (Node K V)) → IsAnswer (load (at_place c.table c.place)) out → Ends shown (word_found c out) end → To end
  words_from reads (Found word) fits e = subst To (sym e) (seen_from (Node K V) was reads c word)
  words_from reads Stored fits e = absurd fits
  words_from reads (Exchanged x) fits e = absurd fits
  words_from reads (Made x) fits e = absurd fits
  words_from reads (Taken x) fits e = absurd fits
  words_from reads (Roomed x) fits e = absurd fits

  tries_from : ReadsWord was → (word : ℕ) (out : Out (Node K V)) → IsAnswer (exchange word) out → Ends shown (tried c word out) end → To end
  tries_from reads word (Exchanged (Ok old)) fits e = subst To (sym e) tt
  tries_from reads word (Exchanged (Err old)) fits e = subst To (sym e) (seen_from (Node K V) was reads c old)
  tries_from reads word (Found x) fits e = absurd fits
  tries_from reads word Stored fits e = absurd fits
  tries_from reads word (Made x) fits e = absurd fits
  tries_from reads word (Taken x) fits e = absurd fits
  tries_from reads word (Roomed x) fits e = absurd fits

module _ {K V : Type 0} (hashes : K → ℕ) (c : Sweep) (shown : ℕ → Option (Node K V)) (end : Sweep × Swept (Node K V)) where
  at_point : (s : Sweeping) → c.stands ≡ s → AsksNot s → Leads shown (plan_at hashes c s) end → TellsFrom s end
  at_point at.Reads is not e = roots_from hashes c shown end at.Reads e.0 e.1 e.2
  at_point at.Follows is not e = nexts_from hashes c shown end at.Follows e.0 e.1 e.2
  at_point (at.Copies copier) is not e =
      let l = leads_as (copied c) shown (copier_plan hashes copier) end e in subst (TellsFrom (at.Copies copier)) (sym l.2) (copied_from hashes c shown end (at.Copies copier) l.0)
  at_point at.Words is not e = words_from hashes c shown end at.Words tt e.0 e.1 e.2
  at_point (at.Tries word) is not e = tries_from hashes c shown end (at.Tries word) tt word e.0 e.1 e.2
  at_point (at.Counts removed) is not e = subst (TellsFrom (at.Counts removed)) (sym e.2) tt
  at_point (at.Disposes dispose) is not e =
      let l = leads_as (disposed c) shown (dispose_plan dispose) end e in subst (TellsFrom (at.Disposes dispose)) (sym l.2) (disposed_from (Node K V) (at.Disposes dispose) c l.0)
  at_point at.Ready is not e = subst (TellsFrom at.Ready) (sym e) (subst AsksNot (sym is) tt)
  at_point (at.Asks word) is not e = absurd not
  at_point at.Over is not e = subst (TellsFrom at.Over) (sym e) (subst AsksNot (sym is) tt)
  at_point (at.Refused fault) is not e = subst (TellsFrom (at.Refused fault)) (sym e) (subst AsksNot (sym is) tt)

  pub tells_from : AsksNot c.stands → Leads shown (sweep_plan hashes c) end → TellsFrom c.stands end
  tells_from not e = at_point c.stands refl not e
