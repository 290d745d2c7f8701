-- Effects of which nothing is left to be found, and effects that hand nothing over.
use Rattle.std.specs.Prelude.{◌∷◌, Some}
use Rattle.run_blocks.proofs.Owes.Events.{several_find}
use Rattle.run_finds.specs.Quiet.{SeveralStoreOne}
use Rattle.run_finds.specs.Life.{StoresOne}

pub several_store_one : (K V : Type 0) → SeveralStoreOne K V
several_store_one K V own map done effects m before after = several_find (StoresOne (Some own)) own map done effects m before after
