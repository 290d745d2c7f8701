-- Looking for a key: table by table from the root on, try by try in each.
use Rattle.std.specs.Prelude.{ℕ, ◌==◌, Bool, false, if◌then◌else◌, Option, Some, None}
use Rattle.map_tables.specs.Given.SeizeWordsWord.{block_in}
use Rattle.map_tables.specs.Given.SeizeWordsDeclared.at.At.TheVariants.{Root}
use Rattle.map_tables.specs.Given.SeizeWordsOp.{Out, Load, Found}
use Rattle.map_tables.specs.Given.SeizeWordsPlan.{Plan, Then, Turn, Do, Now, Seeing}
use Rattle.seize.specs.declared.advance.Advance.{Advance}
use Rattle.seize.specs.declared.advance.Advance.TheVariants.{Goes, Done}
use Rattle.map_tables.specs.Chunks.{is_incremental}
use Rattle.map_tables.specs.Nodes.{table_seen}
use Rattle.map_tables.specs.TablePlaces.{at_word}
use Rattle.map_tables.specs.Trials.{first_trial, place_tried, next_trial}
use Rattle.map_tables.specs.Finding.{finding, may_name}
use Rattle.map_tables.specs.declared.table_words.TheConstants.{NEXT}
use Rattle.map_tables.specs.declared.node.Node.{Node}
use Rattle.map_tables.specs.declared.node.Node.TheVariants as node
use Rattle.map_tables.specs.declared.resize_mode.ResizeMode.{ResizeMode}
use Rattle.map_tables.specs.declared.table.Table.{Table}
use Rattle.map_tables.specs.declared.trial.Trial.{Trial}
use Rattle.map_tables.specs.declared.finding.Aim.TheVariants.{Looks}
use Rattle.map_tables.specs.declared.finding.Finding.{Finding}
use Rattle.map_tables.specs.declared.finding.Finding.TheVariants as is
use Rattle.map_machines.specs.declared.lookup.Lookup.{Lookup}
use Rattle.map_machines.specs.declared.lookup.Looking.{Looking}
use Rattle.map_machines.specs.declared.lookup.Looking.TheVariants as at

-- a lookup that begins
abbrev pub looking : ℕ → ResizeMode → ℕ → Lookup
looking root mode hash = record { root = root; mode = mode; hash = hash; stands = at.Roots }

-- it goes on elsewhere
abbrev pub going : Lookup → Looking → Lookup × Advance (Option ℕ)
going c stands = (record c { stands = stands }, Goes)

-- it ends
abbrev pub answered : Lookup → Option ℕ → Lookup × Advance (Option ℕ)
answered c found = (record c { stands = at.Over found }, Done found)

-- All tries at a table are made. Where all pairs are copied at once, no later table has a pair that this one has not.
abbrev pub beyond : Lookup → Table → Lookup × Advance (Option ℕ)
beyond c table = if is_incremental c.mode then going c (at.Nexts table) else answered c None

-- a try was passed
abbrev pub passed : Lookup → Table → Option Trial → Lookup × Advance (Option ℕ)
passed c table (Some trial) = going c (at.Probes trial)
passed c table None = beyond c table

-- how it goes on by what the word of a try says
abbrev pub after_finding : Lookup → Trial → ℕ → Finding → Lookup × Advance (Option ℕ)
after_finding c trial word is.Free = answered c None
after_finding c trial word is.Passed = passed c trial.table (next_trial trial)
after_finding c trial word is.Moved = going c (at.Nexts trial.table)
after_finding c trial word is.Copying = answered c (Some word)
after_finding c trial word is.There = answered c (Some word)

abbrev pub told : Lookup → Trial → ℕ → Bool → Lookup × Advance (Option ℕ)
told c trial word same = after_finding c trial word (finding c.mode Looks word same)

module _ {K V : Type 0} where
  -- a node is a pair with one of these keys
  abbrev pub names_pair : (K → Bool) → Node K V → Bool
  names_pair keys (node.Pair key value) = keys key
  names_pair keys _ = false

  -- the link to a table was read: the table is entered, if there is one
  abbrev pub table_read : Lookup → ℕ → Then (Node K V) (Lookup × Advance (Option ℕ))
  table_read c link =
      if link == 0 then Now (answered c None)
      else Seeing (block_in link) (λ value. Now (going c (at.Probes (first_trial (table_seen link value) c.hash))))

  abbrev pub link_found : Lookup → Out (Node K V) → Then (Node K V) (Lookup × Advance (Option ℕ))
  link_found c (Found link) = table_read c link
  link_found c _ = Now (c, Goes)

  -- reads the root
  abbrev pub roots : Lookup → Plan (Node K V) (Lookup × Advance (Option ℕ))
  roots c = Do (Load (Root c.root)) (link_found c)

  -- reads the link to the next table
  abbrev pub nexts : Lookup → Table → Plan (Node K V) (Lookup × Advance (Option ℕ))
  nexts c table = Do (Load (at_word table NEXT)) (link_found c)

  -- the word of a try was read: its pair is looked at where it may be one of the key
  abbrev pub word_read : (K → Bool) → Lookup → Trial → ℕ → Then (Node K V) (Lookup × Advance (Option ℕ))
  word_read keys c trial word =
      if may_name c.hash word then Seeing (block_in word) (λ value. Now (told c trial word (names_pair keys value)))
      else Now (told c trial word false)

  abbrev pub word_found : (K → Bool) → Lookup → Trial → Out (Node K V) → Then (Node K V) (Lookup × Advance (Option ℕ))
  word_found keys c trial (Found word) = word_read keys c trial word
  word_found keys c trial _ = Now (c, Goes)

  -- reads the word of a try
  abbrev pub probes : (K → Bool) → Lookup → Trial → Plan (Node K V) (Lookup × Advance (Option ℕ))
  probes keys c trial = Do (Load (place_tried trial)) (word_found keys c trial)

  -- each point
  abbrev pub plan_at : (K → Bool) → Lookup → Looking → Plan (Node K V) (Lookup × Advance (Option ℕ))
  plan_at keys c at.Roots = roots c
  plan_at keys c (at.Probes trial) = probes keys c trial
  plan_at keys c (at.Nexts table) = nexts c table
  plan_at keys c (at.Over found) = Turn (Now (c, Done found))

  -- what its next step does, for these keys
  abbrev pub lookup_plan : (K → Bool) → Lookup → Plan (Node K V) (Lookup × Advance (Option ℕ))
  lookup_plan keys c = plan_at keys c c.stands
