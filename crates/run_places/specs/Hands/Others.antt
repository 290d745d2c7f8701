-- Whoever takes a step that is none of a call, the rows within calls reclaim nothing still.
use Rattle.std.specs.Prelude.{◌≡◌, ℕ, Bool, Option, Some}
use Rattle.run_shows.specs.Given.SeizeDeclared.advance.Advance.{Advance as Making}
use Rattle.run_shows.specs.Given.SeizeDeclared.rows.settle.Settled.{Settled}
use Rattle.run_shows.specs.Given.TablesDeclared.node.Node.{Node}
use Rattle.run_shows.specs.Given.TablesDeclared.setting.Setting.{Setting}
use Rattle.run_shows.specs.Given.CallersTogether.{UnderWay}
use Rattle.run_shows.specs.Given.FinishesEndings.{Finishing}
use Rattle.run_shows.specs.Given.FinishesMakings.{Beginning}
use Rattle.run_shows.specs.Given.FinishesMaps.{Standing, with_call}
use Rattle.run_shows.specs.declared.row.RowTold.{RowTold}
use Rattle.run_shows.specs.declared.row.SlotCall.{SlotCall}
use Rattle.run_shows.specs.declared.row.SlotRow.{SlotRow}
use Rattle.run_places.specs.Hands.Rows.{RowsReclaimNone}
use Rattle.run_shows.specs.Scenes.Ending.{EndingLeads, ending_begun}
use Rattle.run_shows.specs.Scenes.Held.{Held, IsAt}
use Rattle.run_shows.specs.Scenes.Making.{MakingLeads}
use Rattle.run_shows.specs.Scenes.OnSlots.{RowBegins, RowLeads}
use Rattle.run_shows.specs.Scenes.Scene.{IsOnSlot, Scene}

module _ (K V : Type 0) (same : K → K → Bool) (hash : ℕ → K → ℕ) where
  -- The promises: so it is where a row begins on a slot,
  abbrev pub RowsBeginAside : Type 0
  RowsBeginAside =
      (s : Scene K V) (old new : Held K V) → IsAt same hash old s → RowsReclaimNone s
      → (called : SlotCall) (i : ℕ) (leads : RowBegins same hash called i s old new)
      → (let to = leads.2 in RowsReclaimNone (record s { world = to.0; maps = to.2 }))

  -- after a step of it,
  abbrev pub RowsGoAside : Type 0
  RowsGoAside =
      (s : Scene K V) (old new : Held K V) → IsAt same hash old s → RowsReclaimNone s
      → (i : ℕ) (told : RowTold (Node K V)) (leads : RowLeads same hash i told s old new) (row : SlotRow) (here : IsOnSlot s i row)
      → (let to = (leads row here).2 in RowsReclaimNone (record s { world = to.0; maps = to.2 }))

  -- of the making of a map,
  abbrev pub MakingsGoAside : Type 0
  MakingsGoAside =
      (s : Scene K V) (old new : Held K V) → IsAt same hash old s → RowsReclaimNone s
      → (i : ℕ) (told : Making Setting) (leads : MakingLeads same hash i told s old new) (b : Beginning K) (here : s.makers i ≡ Some b)
      → (let to = leads b here in RowsReclaimNone (record s { world = to.2.step.w2 }))

  -- and of the end of one,
  abbrev pub EndingsGoAside : Type 0
  EndingsGoAside =
      (s : Scene K V) (old new : Held K V) → IsAt same hash old s → RowsReclaimNone s
      → (i : ℕ) (told : Settled (Node K V)) (leads : EndingLeads same hash i told s old new) (f : Finishing K V) (here : s.enders i ≡ Some f)
      → (let to = leads f here in RowsReclaimNone (record s { world = to.2.w2 }))

-- where the end of a map begins,
abbrev pub EndingsBeginAside : Type 0 → Type 0 → Type 0
EndingsBeginAside K V = (s : Scene K V) → RowsReclaimNone s → (map i : ℕ) (standing : Standing K) → RowsReclaimNone (ending_begun map i standing s)

-- and where a call goes on by what it is asked or told, or is given up.
abbrev pub CallsGoAside : Type 0 → Type 0 → Type 0
CallsGoAside K V =
    (s : Scene K V) → RowsReclaimNone s → (map i : ℕ) (u : UnderWay K V K) → s.calls map i ≡ Some u → (next : Option (UnderWay K V K)) → RowsReclaimNone (record s { calls = with_call s.calls map i next })
