-- A walk, a clearing or a retaining: how it goes on from one point to another.
use Rattle.std.specs.Prelude.{ℕ, ◌+◌, ◌%◌, ◌^◌, ◌==◌, ◌&&◌, Bool, true, false, nat_lt, if◌then◌else◌}
use Rattle.map_machines.specs.Given.SeizeWordsWord.{block_in}
use Rattle.map_machines.specs.Given.TablesDeclared.setting.Setting.{Setting}
use Rattle.map_machines.specs.Given.TablesDeclared.table.Table.{Table}
use Rattle.map_machines.specs.Given.TablesDeclared.marks.TheConstants.{COPYING}
use Rattle.map_sweeps.specs.declared.sweep.Sweep.{Sweep}
use Rattle.map_sweeps.specs.declared.sweep.Purpose.{Purpose}
use Rattle.map_sweeps.specs.declared.sweep.Purpose.TheVariants.{Walks, Clears, Retains}
use Rattle.map_sweeps.specs.declared.sweep.Sweeping.{Sweeping}
use Rattle.map_sweeps.specs.declared.sweep.Sweeping.TheVariants as at
use Rattle.map_sweeps.specs.declared.sweep.Swept.{Swept}
use Rattle.map_sweeps.specs.declared.sweep.Swept.TheVariants.{Goes, Ready, Pair, Asks, Done, Refused}
use Rattle.map_machines.specs.Given.TablesChunks.{is_incremental}
use Rattle.map_machines.specs.CopierStates.{no_table}
use Rattle.map_machines.specs.Given.TablesMarks.{has_mark}

-- it removes pairs: a walk changes nothing
abbrev pub removes : Purpose → Bool
removes Walks = false
removes Clears = true
removes Retains = true

-- a sweep that begins
abbrev pub sweeping : Setting → Purpose → Sweep
sweeping setting purpose =
    record { setting = setting; purpose = purpose; table = no_table; place = 0; met = false; stands = at.Reads }

-- standing elsewhere
abbrev pub standing : Sweep → Sweeping → Sweep
standing c stands = record c { stands = stands }

-- All places of its table are before it. A walk reads the first one when it is asked for a pair.
abbrev pub beginning : Sweep → Sweep
beginning c = record c { place = 0; met = false; stands = if removes c.purpose then at.Words else at.Ready }

-- in a map with no table there is nothing to remove, and a walk is ready to say that it has no pair
abbrev pub tableless : Sweep → Sweep
tableless c = standing c (if removes c.purpose then at.Over else at.Ready)

-- A table is the root. Where pairs move in incremental mode, a later one may have some of them.
abbrev pub entering : Sweep → Table → Sweep
entering c table = if is_incremental c.setting.mode then record c { table = table; stands = at.Follows } else beginning (record c { table = table })

-- its place is behind it
abbrev pub past : Sweep → Sweep
past c = record c { place = (c.place + 1) % 2 ^ 64 }

-- The last place is behind it. Where it has passed a marked one, the resize is seen through, and it begins anew.
abbrev pub at_end : Sweep → Sweeping
at_end c = if removes c.purpose && c.met then at.Follows else at.Over

-- the next place, if there is one
abbrev pub further : Sweep → Sweep
further c = standing (past c) (if nat_lt (past c).place c.table.len then at.Words else at_end c)

-- a walk is asked for the next pair
abbrev pub next_at : Sweeping → Sweep → Sweep
next_at at.Ready c = standing c (if nat_lt c.place c.table.len then at.Words else at.Over)
next_at _ c = c

abbrev pub after_next : Sweep → Sweep
after_next c = next_at c.stands c

-- it is told whether the pair of a word is to be kept
abbrev pub reply_at : Sweeping → Sweep → Bool → Sweep
reply_at (at.Asks word) c keeps = if keeps then further c else standing c (at.Tries word)
reply_at _ c keeps = c

abbrev pub after_reply : Sweep → Bool → Sweep
after_reply c keeps = reply_at c.stands c keeps

module _ {T : Type 0} where
  -- how far it is
  abbrev pub told : Sweeping → Swept T
  told at.Ready = Ready
  told (at.Asks word) = Asks word
  told at.Over = Done
  told (at.Refused fault) = Refused fault
  told _ = Goes

  abbrev pub telling : Sweep → Sweep × Swept T
  telling c = (c, told c.stands)

  -- it goes on elsewhere
  abbrev pub going : Sweep → Sweeping → Sweep × Swept T
  going c stands = (standing c stands, Goes)

  -- its place has a pair: a walk shows it, a clearing removes it, and a retaining asks
  abbrev pub at_pair : Purpose → Sweep → ℕ → Sweep × Swept T
  at_pair Walks c word = (standing (past c) at.Ready, Pair word)
  at_pair Clears c word = going c (at.Tries word)
  at_pair Retains c word = (standing c (at.Asks word), Asks word)

  -- What the word of its place says. A marked one is not removed: it is passed, and remembered.
  abbrev pub seen : Sweep → ℕ → Sweep × Swept T
  seen c word =
      if removes c.purpose && has_mark word COPYING then telling (further (record c { met = true })) else
      (if block_in word == 0 then telling (further c) else at_pair c.purpose c word)
