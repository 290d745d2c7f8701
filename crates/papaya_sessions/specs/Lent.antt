-- What a session ends as, once what a call has lent out of it has ended.
use Rattle.std.specs.Prelude.{⊤, []}
use Rattle.std.specs.Borrow.{Fml, RattleType, MutBor, follows_so}
use Rattle.std.specs.declared.cmp.PartialEq as eq
use Rattle.std.specs.declared.hash.Hash as hash
use Rattle.map_tables.specs.declared.hashes.Hashes as hashes
use mathlib.Core.Option.{none}
use mir.Syntax.{named}
use Rattle.papaya_sessions.specs.declared.session.Session.{Session}
use Rattle.papaya_sessions.specs.contracts.session.Session.{the_row}

module _ (K V S : RattleType) {h : hash.Ghosts K.Denot} (same : eq.Ghosts K.Denot) (by : hashes.Ghosts S.Denot K.Denot) where
  -- it ends as one of which this holds. Its lifetime is the second of the signature
  abbrev pub EndsSo : MutBor (Session K.Denot V.Denot S.Denot h) → (Session K.Denot V.Denot S.Denot h → Type 0) → Fml
  EndsSo session Holds =
      follows_so (the_row (record { mir = named 1; lft = [] }) K V S h (record {}) same by) (the_row (record { mir = named 1; lft = [] }) K V S h (record {}) same by) session.ghost_name none
      (λ _ _. ⊤) Holds
