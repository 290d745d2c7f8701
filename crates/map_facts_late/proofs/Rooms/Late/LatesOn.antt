-- How a reservation goes on whose table the root has left: what it knows where it comes to, and what its step tells.
use Rattle.std.specs.Prelude.{◌≡◌, ℕ, suc, ◌≤◌, ◌^◌, Bool, true, false, cond, nat_lt, if◌then◌else◌}
use Rattle.std.proofs.Common.{inl, inr, refl, sym, subst, arith}
use Rattle.map_facts.specs.Given.SeizeWordsMem.{Mem}
use Rattle.map_facts.specs.Given.SeizeWordsDeclared.fault.Fault.TheVariants.{Capacity}
use Rattle.map_facts.specs.Given.SeizeWorld.{World}
use Rattle.map_facts.specs.Given.TablesChunks.{is_incremental}
use Rattle.map_facts.specs.Given.TablesDeclared.node.Node.{Node}
use Rattle.map_facts.specs.Given.TablesDeclared.setting.Setting.{Setting}
use Rattle.map_facts.specs.Given.TablesDeclared.table.Table.{Table}
use Rattle.map_facts.specs.Given.ResizeCopierStates.{copying_all}
use Rattle.map_facts.specs.Given.ResizeDeclared.yielding.Yielding.{Yielding}
use Rattle.map_facts.specs.Given.ResizeDeclared.yielding.Yielding.TheVariants as outcome
use Rattle.map_facts.specs.Given.ReservesReserve.{standing, counting, copying, enough, needed, refusing}
use Rattle.map_facts.specs.Given.ReservesDeclared.reserve.Reserve.{Reserve}
use Rattle.map_facts.specs.Given.ReservesDeclared.reserve.Reserving.{Reserving}
use Rattle.map_facts.specs.Given.ReservesDeclared.reserve.Reserving.TheVariants as at
use Rattle.map_facts.specs.Given.RuleChart.{Chart}
use Rattle.map_facts.specs.Given.RuleWords.{Blocks}
use Rattle.map_facts.specs.Given.RuleMaps.{IsTable}
use Rattle.map_facts.specs.Given.RuleInWorld.{IsMapIn, StepSpec, SparesPairs}
use Rattle.map_facts.proofs.Given.RuleWorld.WentStill.{went_still, spares_same}
use Rattle.map_facts.specs.FactsCopies.{HasDone, ClaimsNone}
use Rattle.map_facts.specs.FactsCopiesBlocking.{HasNoShares}
use Rattle.map_facts.specs.FactsIdle.{IsIdle}
use Rattle.map_facts.specs.Told.{OnlyLinks}
use Rattle.map_facts.proofs.MovedLasts.{idle_in}
use Rattle.map_facts_late.specs.Left.{Left, Entered}
use Rattle.map_facts_late.proofs.Copiers.LateBegins.{late_begins}
use Rattle.map_facts_late.specs.FactsReserves.{CopiesPairs}
use Rattle.map_facts_late.specs.LateReserves.{IsLeftTable, SupersededReserving, SupersededReserveFacts}
use Rattle.map_facts_late.specs.LateToldReserves.{SupersededReserveAfter}
use Rattle.map_facts_late.proofs.Rooms.Reserves.On.{counts}

module _ {K V : Type 0} (same : K → K → Bool) (hash : K → ℕ) (caller : ℕ) (setting : Setting) (blocking : is_incremental setting.mode ≡ false) where
  -- its caller has no part in a copying
  pub none_in : (w : World (Node K V)) (c : Chart K) (blocks : Blocks) → IsIdle same hash w caller setting c blocks → HasNoShares same hash w caller setting c blocks
  none_in w c blocks idle =
      subst (λ (x : Bool). cond x (HasDone same hash w caller setting c blocks 0 × ClaimsNone same hash w caller setting c blocks) (HasNoShares same hash w caller setting c blocks)) blocking idle

module _ {K V : Type 0} (same : K → K → Bool) (hash : K → ℕ) (caller : ℕ) (setting : Setting) (blocking : is_incremental setting.mode ≡ false) (began : ℕ) where
  -- What each step tells: it changes no pair, and beside its copying it links a table at most.
  abbrev pub LateTells : World (Node K V) → Chart K → Reserving → Reserve × Yielding (Node K V) Unit → World (Node K V) → Chart K → Blocks → Type 0
  LateTells w c stage end w2 c2 blocks2 =
      SparesPairs w w2 × (c2.current ≡ c.current) × SupersededReserveAfter same hash caller setting began w2 c2 blocks2 end × ((CopiesPairs stage → ⊥) → OnlyLinks hash setting.mode c c2)

  abbrev pub LateWent : World (Node K V) → Chart K → Blocks → Mem (Node K V) → Reserving → Reserve × Yielding (Node K V) Unit → Type 0
  LateWent w c blocks m2 stage end = StepSpec same hash setting caller w c blocks m2 (LateTells w c stage end)

  module _ (w : World (Node K V)) (c : Chart K) (blocks : Blocks) (map : IsMapIn same hash setting w c blocks) where
    -- a step that changed nothing
    pub late_still : (m2 : Mem (Node K V)) → m2 ≡ w.memory → (stage : Reserving) (end : Reserve × Yielding (Node K V) Unit)
        → SupersededReserveAfter same hash caller setting began w c blocks end → LateWent w c blocks m2 stage end
    late_still m2 is stage end told =
        went_still same hash setting caller w c blocks map m2 is (LateTells w c stage end) (spares_same w, refl, told, λ other. inl refl)

    module _ (p : Reserve) (setting_is : p.setting ≡ setting) (idle : HasNoShares same hash w caller setting c blocks) where
      -- it stands elsewhere
      pub late_at : (stage : Reserving) → SupersededReserving same hash w caller setting c blocks began stage → SupersededReserveFacts same hash w caller setting c blocks began (standing p stage)
      late_at stage point = record { blocking = blocking; setting_is = setting_is; idle = idle; point = point }

      -- it counts the pairs in a table that is the root's, or was since it began
      pub counts_in : (table : Table) (t : ℕ) → IsTable c blocks table t → Entered c began t → SupersededReserveAfter same hash caller setting began w c blocks (counting p table, outcome.Goes)
      counts_in table t entered (inl root) =
          inl (counts same hash caller setting w c blocks map p setting_is (idle_in same hash w caller setting c blocks false blocking idle) table t entered
          (subst (λ (b : Bool). cond b (t ≤ c.first) (t ≡ c.first)) (sym blocking) root))
      counts_in table t entered (inr left) = inr (late_at _ ((t, entered, left), (setting_is, omega arith)))

      -- they are compared with the length of the table
      pub compared_late : (table : Table) → IsLeftTable same hash w caller setting c blocks began table → (count : ℕ)
          → SupersededReserveAfter same hash caller setting began w c blocks (enough {T = Node K V} p table (needed p.additional count))
      compared_late table left count = by (nat_lt (2 ^ 48) (needed p.additional count)) (nat_lt table.len (needed p.additional count))
        where
          by : (long short : Bool) → SupersededReserveAfter same hash caller setting began w c blocks
              (if long then refusing p Capacity else (if short then (standing p (at.Follows table (needed p.additional count)), outcome.Goes) else (standing p at.Over, outcome.Done tt)))
          by true short = idle
          by false true = inr (late_at (at.Follows table (needed p.additional count)) left)
          by false false = idle

      -- the table is copied into the one behind
      pub copies_late : (table next : Table) (t : ℕ) → IsTable c blocks table t → Left c began t → c.from (suc t) ≡ t → IsTable c blocks next (suc t)
          → SupersededReserveAfter same hash caller setting began w c blocks (copying p table next, outcome.Goes)
      copies_late table next t entered left from behind =
          inr (late_at (at.Copies (copying_all p.setting table next))
          (subst (λ (s : Setting). SupersededReserving same hash w caller setting c blocks began (at.Copies (copying_all s table next))) (sym setting_is)
          (late_begins same hash caller setting blocking began w c blocks table next t entered left from behind idle)))
