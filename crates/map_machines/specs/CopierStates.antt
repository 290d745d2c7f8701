-- Where a copying stands, and where it goes on after a piece of work.
use Rattle.std.specs.Prelude.{◌+◌, ◌-◌, ◌%◌, ◌^◌, ◌==◌, Bool, true, false, nat_lt, if◌then◌else◌}
use Rattle.map_tables.specs.declared.setting.Setting.{Setting}
use Rattle.map_tables.specs.declared.table.Table.{Table}
use Rattle.map_machines.specs.declared.copier.Copier.{Copier}
use Rattle.map_machines.specs.declared.copier.Copying.{Copying}
use Rattle.map_machines.specs.declared.copier.Copying.TheVariants as at
use Rattle.map_tables.specs.Chunks.{is_incremental}

-- no table
abbrev pub no_table : Table
no_table = record { link = 0; len = 0; limit = 0; turn = 0 }

-- with nothing claimed, standing somewhere
abbrev pub resting : Setting → Bool → Table → Table → Copying → Copier
resting setting whole source target stands = record {
  setting = setting;
  whole = whole;
  source = source;
  target = target;
  spent = false;
  place = 0;
  end = 0;
  done = 0;
  stands = stands;
}

-- a chunk is to be copied
abbrev pub helping : Setting → Copier
helping setting = resting setting false no_table no_table at.Begins

-- a table is to be copied whole: in incremental mode place by place, in blocking mode by chunks
abbrev pub copying_all : Setting → Table → Table → Copier
copying_all setting source target =
    if is_incremental setting.mode then record (resting setting true source target at.Marks) { end = source.len } else resting setting true source target at.Asks

-- standing elsewhere
abbrev pub standing : Copier → Copying → Copier
standing c stands = record c { stands = stands }

-- A range is behind it, and counted. In incremental mode a whole table is one range: what is left is to wait for the status.
abbrev pub behind : Copier → Copier
behind c = if c.whole then record c { place = 0; end = 0; spent = is_incremental c.setting.mode; stands = at.Asks } else standing c at.Over

-- each place is claimed already
abbrev pub none_left : Copier → Copier
none_left c = if c.whole then record c { spent = true; stands = at.Asks } else standing c at.Over

-- the next place of the range, or what was done in it is counted, if there is something
abbrev pub next_place : Copier → Copier
next_place c =
    if nat_lt c.place (c.end - 1) then record c { place = c.place + 1; stands = at.Marks } else
    (if c.done == 0 then behind c else standing c at.Counts)

-- the place is done
abbrev pub place_done : Copier → Copier
place_done c = next_place (record c { done = (c.done + 1) % 2 ^ 64 })
