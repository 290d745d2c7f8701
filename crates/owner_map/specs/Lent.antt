-- What a map for one owner ends as, once what a change has lent out of it has ended.
use Rattle.std.specs.Prelude.{⊤}
use Rattle.std.specs.Borrow.{Fml, RattleType, MutBor, follows_so}
use Rattle.std.specs.HashMap.Lent.{HashMembers}
use Rattle.std.specs.declared.hash.Hasher as hasher
use Rattle.std.specs.declared.hash.BuildHasher as builder
use mathlib.Core.Option.{none}
use Rattle.owner_rests.specs.ShowsPairs.Maps.{Map}
use Rattle.owner_map.specs.contracts.map.HashMap.{the_row}

module _ (K V S R H : RattleType) (key : HashMembers K.Denot) (build : builder.Ghosts S.Denot H.Denot) (hash : hasher.Ghosts H.Denot) where
  -- the map's type, as the logic holds it
  abbrev pub map_row : RattleType
  map_row = the_row K V S R H (record { eq = key.eq }) (record { hash_input = key.hash_input }) build hash

  -- the map ends as one of which this holds
  abbrev pub EndsSo : MutBor (Map K.Denot V.Denot S.Denot) → (Map K.Denot V.Denot S.Denot → Type 0) → Fml
  EndsSo map Holds = follows_so map_row map_row map.ghost_name none (λ _ _. ⊤) Holds
