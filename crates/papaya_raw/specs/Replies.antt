-- What a call on one key keeps of what it was told.
use Rattle.std.specs.Prelude.{ℕ, ◌==◌, if◌then◌else◌, Option, Some, None}
use Rattle.papaya_raw.specs.declared.machines.asking.Takes.{Takes}
use Rattle.papaya_raw.specs.declared.machines.asking.Takes.TheVariants as takes
use Rattle.papaya_raw.specs.declared.machines.asking.Told.{Told}
use Rattle.papaya_raw.specs.declared.machines.asking.Told.TheVariants as tells
use Rattle.papaya_raw.specs.declared.machines.asking.Replies.{Replies}

module _ {V : Type 0} where
  -- the value that it was told
  abbrev pub value_replied : Told V → Option V
  value_replied (tells.Value value) = Some value
  value_replied _ = None

  -- its own block is to have that value
  abbrev pub owned : Told V → Told V
  owned (tells.Value value) = tells.Own
  owned told = told

module _ {K V : Type 0} where
  -- nothing was told yet, but maybe what is to be done where the key is missing
  abbrev pub untold : Takes → Option K → Told V → Replies K V
  untold kind key absent = record { takes = kind; key = key; absent = absent; pair = 0; present = tells.Nothing }

  -- of a call that never asks
  abbrev pub silent : Replies K V
  silent = untold takes.Nothing None tells.Nothing

  -- the value that is to be stored in the place of a word: an empty one, or that of the pair which was asked for last
  abbrev pub value_for : Replies K V → ℕ → Option V
  value_for r word = value_replied (if word == 0 then r.absent else r.present)

  -- its own block is to have that value
  abbrev pub as_own : Replies K V → ℕ → Replies K V
  as_own r word = if word == 0 then record r { absent = owned r.absent } else record r { present = owned r.present }

  -- The value of its own block is told as one that its block does not have. One that it needs no longer is dropped.
  abbrev pub back_present : Told V → Replies K V → V → Replies K V
  back_present tells.Own r value = record r { present = tells.Value value }
  back_present _ r value = r

  abbrev pub back : Told V → Replies K V → V → Replies K V
  back tells.Own r value = record r { absent = tells.Value value }
  back _ r value = back_present r.present r value

  -- its key and that value are out of its block
  abbrev pub with_back : Replies K V → K → V → Replies K V
  with_back r key value = back r.absent (record r { key = Some key }) value
