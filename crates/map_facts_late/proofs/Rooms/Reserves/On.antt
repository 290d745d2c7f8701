-- How a reservation goes on: what it knows where it comes to.
use Rattle.std.specs.Prelude.{◌≡◌, ℕ, suc, ◌^◌, Bool, true, false, nat_lt, if◌then◌else◌}
use Rattle.std.proofs.Common.{inl, refl, sym, subst, arith}
use Rattle.map_facts.specs.Given.SeizeWordsMem.{Mem}
use Rattle.map_facts.specs.Given.SeizeWordsDeclared.fault.Fault.TheVariants.{Capacity}
use Rattle.map_facts.specs.Given.SeizeWorld.{World}
use Rattle.map_facts.specs.Given.ResizeCopierStates.{copying_all}
use Rattle.map_facts.specs.Given.ReservesReserve.{standing, counting, copying, enough, needed, refusing}
use Rattle.map_facts.specs.Given.TablesDeclared.node.Node.{Node}
use Rattle.map_facts.specs.Given.ResizeDeclared.yielding.Yielding.{Yielding}
use Rattle.map_facts.specs.Given.ResizeDeclared.yielding.Yielding.TheVariants as outcome
use Rattle.map_facts.specs.Given.TablesDeclared.setting.Setting.{Setting}
use Rattle.map_facts.specs.Given.TablesDeclared.table.Table.{Table}
use Rattle.map_facts.specs.Given.ReservesDeclared.reserve.Reserve.{Reserve}
use Rattle.map_facts.specs.Given.ReservesDeclared.reserve.Reserving.{Reserving}
use Rattle.map_facts.specs.Given.ReservesDeclared.reserve.Reserving.TheVariants as at
use Rattle.map_facts.specs.Given.RuleChart.{Chart}
use Rattle.map_facts.specs.Given.RuleWords.{Blocks}
use Rattle.map_facts.specs.Given.RuleMaps.{IsTable}
use Rattle.map_facts.specs.Given.RuleInWorld.{IsMapIn, StepSpec, SparesPairs}
use Rattle.map_facts.specs.FactsIdle.{IsIdle}
use Rattle.map_facts.specs.Told.{OnlyLinks}
use Rattle.map_facts.proofs.Given.RuleWorld.WentStill.{went_still, spares_same}
use Rattle.map_facts_late.specs.FactsReserves.{CopiesPairs, IsRoot, CopiesWhole, ReservingFacts, ReserveFacts}
use Rattle.map_facts_late.specs.ToldReserves.{ReserveAfter}
use Rattle.map_facts_late.proofs.Rooms.Reserves.Moved.{Proceeds, ReserveMoves}
use Rattle.map_facts_late.proofs.Rooms.Making.TablesNeeded.{needed_len}
use Rattle.map_facts_late.proofs.Rooms.Reserves.WholeBegins.{whole_begins}

module _ {K V : Type 0} (same : K → K → Bool) (hash : K → ℕ) (caller : ℕ) (setting : Setting) where
  -- What each step of a reservation tells: it changes no pair, and how it moves the map.
  abbrev pub ReserveTells : World (Node K V) → Chart K → Mem (Node K V) → Reserving → Reserve × Yielding (Node K V) Unit → World (Node K V) → Chart K → Blocks → Type 0
  ReserveTells w c m2 stage end w2 c2 blocks2 =
      SparesPairs w w2 × (c2.current ≡ c.current) × ReserveAfter w2 caller setting c2 blocks2 same hash end × ReserveMoves same hash caller setting w c m2 stage end w2 c2 blocks2

  abbrev pub ReserveWent : World (Node K V) → Chart K → Blocks → Mem (Node K V) → Reserving → Reserve × Yielding (Node K V) Unit → Type 0
  ReserveWent w c blocks m2 stage end = StepSpec same hash setting caller w c blocks m2 (ReserveTells w c m2 stage end)

  -- how the map moves beside the copying
  moves_beside : (w w2 : World (Node K V)) (c c2 : Chart K) (blocks2 : Blocks) (m2 : Mem (Node K V)) (stage : Reserving) → (CopiesPairs stage → ⊥) → (end : Reserve × Yielding (Node K V) Unit)
      → OnlyLinks hash setting.mode c c2 × Proceeds setting end → ReserveMoves same hash caller setting w c m2 stage end w2 c2 blocks2
  moves_beside w w2 c c2 blocks2 m2 (at.Copies copier) other end moves = absurd (other tt)
  moves_beside w w2 c c2 blocks2 m2 _ other end moves = moves

  module _ (w : World (Node K V)) (c : Chart K) (blocks : Blocks) (map : IsMapIn same hash setting w c blocks) where
    -- a step that changed nothing, beside its copying
    pub reserve_still : (m2 : Mem (Node K V)) → m2 ≡ w.memory → (stage : Reserving) → (CopiesPairs stage → ⊥) → (end : Reserve × Yielding (Node K V) Unit)
        → ReserveAfter w caller setting c blocks same hash end × Proceeds setting end → ReserveWent w c blocks m2 stage end
    reserve_still m2 is stage other end told = went_still same hash setting caller w c blocks map m2 is (ReserveTells w c m2 stage end)
        (spares_same w, refl, told.0, moves_beside w w c c blocks m2 stage other end (inl refl, told.1))

    module _ (p : Reserve) (setting_is : p.setting ≡ setting) (idle : IsIdle same hash w caller setting c blocks) where
      -- it stands elsewhere
      pub on_at : (stage : Reserving) → ReservingFacts same hash w caller setting c blocks stage → ReserveFacts same hash w caller setting c blocks (standing p stage)
      on_at stage point = record { setting_is = setting_is; idle = λ rests. idle; point = point }

      module _ (table : Table) (t : ℕ) (entered : IsTable c blocks table t) (root : IsRoot same hash w caller setting c blocks t) where
        -- the pairs are counted
        pub counts : ReserveFacts same hash w caller setting c blocks (counting p table)
        counts = on_at _ ((t, entered, root), (setting_is, omega arith))

        -- they are compared with the length of the table
        pub compared : (count : ℕ) → ReserveAfter w caller setting c blocks same hash (enough {T = Node K V} p table (needed p.additional count))
            × Proceeds setting (enough {T = Node K V} p table (needed p.additional count))
        compared count = by (nat_lt (2 ^ 48) (needed p.additional count)) (nat_lt table.len (needed p.additional count))
          where
            compares : Bool → Bool → Reserve × Yielding (Node K V) Unit
            compares long short =
                if long then refusing p Capacity else (if short then (standing p (at.Follows table (needed p.additional count)), outcome.Goes) else (standing p at.Over, outcome.Done tt))

            by : (long short : Bool) → ReserveAfter w caller setting c blocks same hash (compares long short) × Proceeds setting (compares long short)
            by true short = (idle, tt)
            by false true = (on_at (at.Follows table (needed p.additional count)) ((t, entered, root), needed_len p.additional count), tt)
            by false false = (idle, tt)

        pub copies_on : (next : Table) → IsTable c blocks next (suc t) → ReserveFacts same hash w caller setting c blocks (copying p table next)
        copies_on next behind = on_at (at.Copies (copying_all p.setting table next))
            (subst (λ (s : Setting). CopiesWhole same hash w caller setting c blocks (copying_all s table next)) (sym setting_is) (whole_begins same hash caller setting w c blocks map idle table t entered root next behind))
