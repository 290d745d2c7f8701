-- A step of a lookup: it looks at what is told, goes on or ends, and ends with a pair only by having looked at it.
use Rattle.std.specs.Prelude.{Option, Some, None, ◌==◌, if◌then◌else◌}
use Rattle.std.proofs.Common.{◌≡◌, ℕ, Bool, true, false, refl, sym, subst}
use Rattle.seize_words.specs.OneMemory.Op.{Out, Found, Stored, Exchanged, Made, Taken, Roomed}
use Rattle.seize_words.specs.OneMemory.Plan.{Now, Seeing, Ends}
use Rattle.seize_words.specs.OneMemory.Word.{block_in}
use Rattle.seize.specs.declared.advance.Advance.{Advance}
use Rattle.seize.specs.declared.advance.Advance.TheVariants as progress
use Rattle.map_tables.specs.Chunks.{is_incremental}
use Rattle.map_tables.specs.Finding.{finding, vacant, may_name}
use Rattle.map_tables.specs.Nodes.{table_seen}
use Rattle.map_tables.specs.Trials.{next_trial, first_trial}
use Rattle.map_tables.specs.declared.finding.Aim.TheVariants.{Looks as ToLook}
use Rattle.map_tables.specs.declared.finding.Finding.{Finding}
use Rattle.map_tables.specs.declared.finding.Finding.TheVariants as is
use Rattle.map_tables.specs.declared.marks.TheConstants.{COPYING}
use Rattle.map_tables.specs.declared.node.Node.{Node}
use Rattle.map_tables.specs.declared.node.Node.TheVariants.{Pair, Table as OfTable, Shards}
use Rattle.map_tables.specs.declared.resize_mode.ResizeMode.{ResizeMode}
use Rattle.map_tables.specs.declared.table.Table.{Table}
use Rattle.map_tables.specs.declared.trial.Trial.{Trial}
use Rattle.map_machines.specs.Lookup.{going, answered, passed, after_finding, told, names_pair, table_read, word_read, plan_at, lookup_plan}
use Rattle.map_machines.specs.declared.lookup.Lookup.{Lookup}
use Rattle.map_machines.specs.declared.lookup.Looking.{Looking}
use Rattle.map_machines.specs.declared.lookup.Looking.TheVariants as at
use Rattle.seize_views.proofs.Views.Looks.{rest_of}
use Rattle.threads_rule.specs.Errands.Looking.{IsOn}
use Rattle.threads_kinds.proofs.CallKinds.Plans.{IsPlain, LeavesValues, plain_either}
use Rattle.seize_views.proofs.Views.Makes.{IsDo}

-- the word names a pair of the key
abbrev IsThere : Finding → Type 0
IsThere is.There = Unit {0}
IsThere is.Copying = Unit {0}
IsThere _ = ⊥

vacant_none : (a b i : Bool) → IsThere (if a then is.Free else (if b then (if i then is.Passed else is.Free) else is.Passed)) → ⊥
vacant_none true b i t = t
vacant_none false true true t = t
vacant_none false true false t = t
vacant_none false false i t = t

-- one that names no pair of the key is not there
none_there : (mode : ResizeMode) (word : ℕ) → IsThere (finding mode ToLook word false) → ⊥
none_there mode word = by (block_in word == 0)
  where
    by : (k : Bool) → IsThere (if k then vacant (is_incremental mode) ToLook word else (if false then is.There else is.Passed)) → ⊥
    by true t = vacant_none (word == 0) (word == COPYING) (is_incremental mode) t
    by false t = t

module _ {K V : Type 0} (keys : K → Bool) where
  -- the pair of this word was looked at, and has such a key
  abbrev pub ShowsPair : (ℕ → Option (Node K V)) → ℕ → Type 0
  ShowsPair shown word = (key : K) × (value : V) × (keys key ≡ true) × (shown (block_in word) ≡ Some (Pair key value))

  -- what a step of a lookup tells: it goes on, or has ended
  abbrev pub TellsSo : (ℕ → Option (Node K V)) → Lookup × Advance (Option ℕ) → Type 0
  TellsSo shown (c, progress.Goes) = IsOn c.stands
  TellsSo shown (c, progress.Waits) = ⊥
  TellsSo shown (c, progress.Done None) = Unit {0}
  TellsSo shown (c, progress.Done (Some word)) = ShowsPair shown word
  TellsSo shown (c, progress.Refused fault) = ⊥

  module _ (shown : ℕ → Option (Node K V)) (c : Lookup) where
    beyond_tells : (table : Table) (k : Bool) → TellsSo shown (if k then going c (at.Nexts table) else answered c None)
    beyond_tells table true = tt
    beyond_tells table false = tt

    passed_tells : (table : Table) (next : Option Trial) → TellsSo shown (passed c table next)
    passed_tells table (Some trial) = tt
    passed_tells table None = beyond_tells table (is_incremental c.mode)

    told_tells : (trial : Trial) (word : ℕ) (f : Finding) → (IsThere f → ShowsPair shown word) → TellsSo shown (after_finding c trial word f)
    told_tells trial word is.Free there = tt
    told_tells trial word is.Passed there = passed_tells trial.table (next_trial trial)
    told_tells trial word is.Moved there = tt
    told_tells trial word is.Copying there = there tt
    told_tells trial word is.There there = there tt

    none_tells : (trial : Trial) (word : ℕ) → TellsSo shown (told c trial word false)
    none_tells trial word = told_tells trial word (finding c.mode ToLook word false) (λ t. absurd (none_there c.mode word t))

    -- a value was looked at, which is a pair of the key or not
    value_tells : (trial : Trial) (word : ℕ) (value : Node K V) → shown (block_in word) ≡ Some value → TellsSo shown (told c trial word (names_pair keys value))
    value_tells trial word (Pair key value) is = by (keys key) refl
      where
        by : (k : Bool) → keys key ≡ k → TellsSo shown (told c trial word k)
        by true same = told_tells trial word (finding c.mode ToLook word true) (λ t. (key, value, same, is))
        by false same = none_tells trial word
    value_tells trial word (OfTable len limit turn) is = none_tells trial word
    value_tells trial word Shards is = none_tells trial word

    -- the word of a try was read
    word_tells : (trial : Trial) (word : ℕ) (end : Lookup × Advance (Option ℕ)) → Ends shown (word_read keys c trial word) end → TellsSo shown end
    word_tells trial word end = by (may_name c.hash word)
      where
        by : (k : Bool) → Ends shown (if k then Seeing (block_in word) (λ value. Now (told c trial word (names_pair keys value))) else Now (told c trial word false)) end
            → TellsSo shown end
        by true e = subst (TellsSo shown) (sym e.2) (value_tells trial word e.0 e.1)
        by false e = subst (TellsSo shown) (sym e) (none_tells trial word)

    -- the link to a table was read
    table_tells : (link : ℕ) (end : Lookup × Advance (Option ℕ)) → Ends shown (table_read c link) end → TellsSo shown end
    table_tells link end = by (link == 0)
      where
        by : (k : Bool)
            → Ends shown (if k then Now (answered c None) else Seeing (block_in link) (λ value. Now (going c (at.Probes (first_trial (table_seen link value) c.hash))))) end
            → TellsSo shown end
        by true e = subst (TellsSo shown) (sym e) tt
        by false e = subst (TellsSo shown) (sym e.2) tt

    stays_tells : (end : Lookup × Advance (Option ℕ)) → IsOn c.stands → end ≡ (c, progress.Goes) → TellsSo shown end
    stays_tells end on e = subst (TellsSo shown) (sym e) on

    tells_at : (p : Looking) (out : Out (Node K V)) (end : Lookup × Advance (Option ℕ)) → IsOn p → IsOn c.stands → Ends shown (rest_of (plan_at keys c p) out) end → TellsSo shown end
    tells_at at.Roots (Found link) end is on e = table_tells link end e
    tells_at at.Roots Stored end is on e = stays_tells end on e
    tells_at at.Roots (Exchanged r) end is on e = stays_tells end on e
    tells_at at.Roots (Made r) end is on e = stays_tells end on e
    tells_at at.Roots (Taken x) end is on e = stays_tells end on e
    tells_at at.Roots (Roomed r) end is on e = stays_tells end on e
    tells_at (at.Probes trial) (Found word) end is on e = word_tells trial word end e
    tells_at (at.Probes trial) Stored end is on e = stays_tells end on e
    tells_at (at.Probes trial) (Exchanged r) end is on e = stays_tells end on e
    tells_at (at.Probes trial) (Made r) end is on e = stays_tells end on e
    tells_at (at.Probes trial) (Taken x) end is on e = stays_tells end on e
    tells_at (at.Probes trial) (Roomed r) end is on e = stays_tells end on e
    tells_at (at.Nexts table) (Found link) end is on e = table_tells link end e
    tells_at (at.Nexts table) Stored end is on e = stays_tells end on e
    tells_at (at.Nexts table) (Exchanged r) end is on e = stays_tells end on e
    tells_at (at.Nexts table) (Made r) end is on e = stays_tells end on e
    tells_at (at.Nexts table) (Taken x) end is on e = stays_tells end on e
    tells_at (at.Nexts table) (Roomed r) end is on e = stays_tells end on e
    tells_at (at.Over found) out end is on e = absurd is

  pub tells : (shown : ℕ → Option (Node K V)) (c : Lookup) (out : Out (Node K V)) (end : Lookup × Advance (Option ℕ)) → IsOn c.stands
      → Ends shown (rest_of (lookup_plan keys c) out) end → TellsSo shown end
  tells shown c out end on e = tells_at shown c c.stands out end on on e

module _ {K : Type 0} (V : Type 0) (keys : K → Bool) where
  -- it reads one word, and relies on no fact
  pub is_do : (c : Lookup) (p : Looking) → IsOn p → IsDo (plan_at {V = V} keys c p)
  is_do c at.Roots on = tt
  is_do c (at.Probes trial) on = tt
  is_do c (at.Nexts table) on = tt
  is_do c (at.Over found) on = absurd on

  pub only_reads : (c : Lookup) (p : Looking) → LeavesValues (plan_at {V = V} keys c p)
  only_reads c at.Roots = tt
  only_reads c (at.Probes trial) = tt
  only_reads c (at.Nexts table) = tt
  only_reads c (at.Over found) = tt

  table_plain : (c : Lookup) (link : ℕ) → IsPlain (table_read {K = K} {V = V} c link)
  table_plain c link = plain_either (link == 0) _ _ tt (λ value. tt)

  word_plain : (c : Lookup) (trial : Trial) (word : ℕ) → IsPlain (word_read {V = V} keys c trial word)
  word_plain c trial word = plain_either (may_name c.hash word) _ _ (λ value. tt) tt

  pub is_plain : (c : Lookup) (p : Looking) (out : Out (Node K V)) → IsPlain (rest_of (plan_at keys c p) out)
  is_plain c at.Roots (Found link) = table_plain c link
  is_plain c at.Roots Stored = tt
  is_plain c at.Roots (Exchanged r) = tt
  is_plain c at.Roots (Made r) = tt
  is_plain c at.Roots (Taken x) = tt
  is_plain c at.Roots (Roomed r) = tt
  is_plain c (at.Probes trial) (Found word) = word_plain c trial word
  is_plain c (at.Probes trial) Stored = tt
  is_plain c (at.Probes trial) (Exchanged r) = tt
  is_plain c (at.Probes trial) (Made r) = tt
  is_plain c (at.Probes trial) (Taken x) = tt
  is_plain c (at.Probes trial) (Roomed r) = tt
  is_plain c (at.Nexts table) (Found link) = table_plain c link
  is_plain c (at.Nexts table) Stored = tt
  is_plain c (at.Nexts table) (Exchanged r) = tt
  is_plain c (at.Nexts table) (Made r) = tt
  is_plain c (at.Nexts table) (Taken x) = tt
  is_plain c (at.Nexts table) (Roomed r) = tt
  is_plain c (at.Over found) out = tt
