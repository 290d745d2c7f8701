-- The tries of a key at a table.
use Rattle.std.specs.Prelude.{ℕ, ◌+◌, ◌-◌, ◌%◌, ◌^◌, ◌<◌, ◌≤◌, ◌==◌, nat_lt, max, if◌then◌else◌, Option, Some, None, IfSome}
use Rattle.seize_words.specs.OneMemory.Word.{block_in}
use Rattle.seize_words.specs.declared.at.At.{At}
use Rattle.map_tables.specs.Probes.{probe_from, probe_after}
use Rattle.map_tables.specs.TablePlaces.{at_place}
use Rattle.map_tables.specs.declared.probe.Probe.{Probe}
use Rattle.map_tables.specs.declared.table.Table.{Table}
use Rattle.map_tables.specs.declared.trial.Trial.{Trial}

-- a try that has met no pair
abbrev pub trial_at : Table → Probe → Trial
trial_at table probe = record { table = table; probe = probe; met = 0; most = 0 }

-- the first try for a hash
abbrev pub first_trial : Table → ℕ → Trial
first_trial table hash = trial_at table (probe_from hash (table.len - 1))

-- the first try at another table, with what was met at those that were full
abbrev pub trial_on : Trial → Table → ℕ → Trial
trial_on trial table hash = record (first_trial table hash) { most = trial.most }

-- the name of the word of its place
abbrev pub place_tried : Trial → At
place_tried trial = at_place trial.table trial.probe.i

-- the same try, once the word of its place is counted: it has met a pair where that names one
abbrev pub with_met : Trial → ℕ → Trial
with_met trial word = record trial { met = if block_in word == 0 then trial.met else (trial.met + 1) % 2 ^ 64 }

-- the same try, once its table was found full
abbrev pub found_full : Trial → Trial
found_full trial = record trial { most = max trial.most trial.met }

-- the next try, if the table is tried so often
abbrev pub next_trial : Trial → Option Trial
next_trial trial =
    if nat_lt trial.probe.len trial.table.limit
    then Some record { table = trial.table; probe = probe_after trial.probe (trial.table.len - 1); met = trial.met; most = trial.most } else None

-- What was met at a table are no more pairs than were tries, so their number never wraps. At a try those before it are counted, and then that one, too.
abbrev pub TriesMeetFew : Type 0
TriesMeetFew =
    (trial : Trial) (word : ℕ) → trial.table.limit < 2 ^ 64 → trial.met ≤ trial.probe.len
    → ((with_met trial word).met ≤ trial.probe.len + 1) × IfSome (next_trial (with_met trial word)) (λ next. next.met ≤ next.probe.len)
