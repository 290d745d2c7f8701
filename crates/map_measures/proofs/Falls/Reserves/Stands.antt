-- What is needed of the points of a reservation for its number: less than each point knows, and the same in a table that the root has left.
use Rattle.std.proofs.Common.{◌≡◌, ℕ, suc, Bool, true, false, cond, refl, ap, sym, subst, ◌∙◌}
use Rattle.seize_words.specs.declared.at.At.TheVariants.{Root, Word}
use Rattle.seize_words.specs.OneMemory.Mem.{Mem}
use Rattle.seize.specs.World.{World}
use Rattle.map_tables.specs.Chunks.{is_incremental}
use Rattle.map_tables.specs.declared.node.Node.{Node}
use Rattle.map_tables.specs.declared.setting.Setting.{Setting}
use Rattle.map_tables.specs.declared.table_words.TheConstants.{NEXT}
use Rattle.map_machines.specs.declared.copier.Copier.{Copier}
use Rattle.map_machines.specs.declared.copier.Copying.{Copying}
use Rattle.map_machines.specs.declared.copier.Copying.TheVariants as copies
use Rattle.map_sweeps.specs.declared.reserve.Reserve.{Reserve}
use Rattle.map_sweeps.specs.declared.reserve.Reserving.{Reserving}
use Rattle.map_sweeps.specs.declared.reserve.Reserving.TheVariants as at
use Rattle.many_calls.specs.Given.RuleChart.{Chart}
use Rattle.many_calls.specs.Given.RuleWords.{Blocks}
use Rattle.many_calls.specs.Given.RuleMaps.{IsTable}
use Rattle.many_calls.specs.Given.PointsFactsCopies.{CopyingFacts, CopierFacts}
use Rattle.many_calls.specs.Given.PointsFactsCopiesBlocking.{CopierFactsBlocking}
use Rattle.many_calls.specs.Given.LateFactsReserves.{IsEnding, CopiesWhole, ReservingFacts, ReserveFacts}
use Rattle.many_calls.specs.Given.LateLateReserves.{SupersededReserving, SupersededReserveFacts}
use Rattle.map_measures.proofs.Falls.Stands.{NewTableStands, CopyingStands, CopyingStandsBlocking}
use Rattle.map_measures.proofs.Falls.Calls.MachineFacts.{new_table_stands, copying_stands, copying_stands_blocking}
use Rattle.map_measures.proofs.Falls.Calls.LateFacts.{late_first, late_copying}
use Rattle.map_measures.proofs.Falls.Copiers.CopiersTarget.{keeps_target}

module _ {K V : Type 0} (setting : Setting) (m : Mem (Node K V)) (c : Chart K) (blocks : Blocks) where
  -- its copier, in this mode: in incremental mode its target stays
  abbrev pub WholeStands : Bool → Copier → Type 0
  WholeStands true copier = (is_incremental copier.setting.mode ≡ true) × (keeps_target copier.stands ≡ true) × CopyingStands setting m c blocks copier copier.stands
  WholeStands false copier = (is_incremental copier.setting.mode ≡ false) × CopyingStandsBlocking setting m c blocks copier copier.stands

  abbrev pub ReservingStands : Bool → Reserving → Type 0
  ReservingStands b (at.Makes making) = NewTableStands setting m c blocks (Root setting.root) 0 making
  ReservingStands b (at.Follows table need) = (t : ℕ) × IsTable c blocks table t
  ReservingStands b (at.Grows table making) = (t : ℕ) × IsTable c blocks table t × NewTableStands setting m c blocks (Word (blocks.table t) NEXT) (suc t) making
  ReservingStands b (at.Copies copier) = WholeStands b copier
  ReservingStands b _ = Unit {0}

  abbrev pub ReserveStands : Reserve → Type 0
  ReserveStands p = ReservingStands (is_incremental p.setting.mode) p.stands

module _ {K V : Type 0} (same : K → K → Bool) (hash : K → ℕ) (w : World (Node K V)) (caller : ℕ) (setting : Setting) (c : Chart K) (blocks : Blocks) where
  -- a copier of a whole table that knows what its point knows stays with its target, in incremental mode
  keeps : (copier : Copier) (spot : Copying) → copier.whole ≡ true → CopyingFacts same hash w caller setting c blocks copier spot → keeps_target spot ≡ true
  keeps copier copies.Begins all f = absurd (let part = f.4 in cc (all, part))
  keeps copier copies.Follows all f = absurd (let part = f.3 in cc (all, part))
  keeps copier copies.Replaces all f = absurd f
  keeps copier (copies.Remakes making) all f = absurd f
  keeps copier _ all f = refl

  mode_of : (s : Setting) (b : Bool) → s ≡ setting → is_incremental setting.mode ≡ b → is_incremental s.mode ≡ b
  mode_of s b is mode = ap (λ (x : Setting). is_incremental x.mode) is ∙ mode

  abbrev WholeIn : Copier → Bool → Type 0
  WholeIn copier b =
      cond b ((copier.whole ≡ true) × CopierFacts same hash w caller setting c blocks copier × IsEnding same hash w caller setting c blocks copier copier.stands)
      (CopierFactsBlocking same hash w caller setting c blocks copier)

  whole_stands : (copier : Copier) → CopiesWhole same hash w caller setting c blocks copier → WholeStands setting w.memory c blocks (is_incremental setting.mode) copier
  whole_stands copier whole = by (is_incremental setting.mode) refl whole
    where
      by : (b : Bool) → is_incremental setting.mode ≡ b → WholeIn copier b → WholeStands setting w.memory c blocks b copier
      by true bits (all, f, ending) =
          (mode_of copier.setting true f.setting_is bits, keeps copier copier.stands all f.point, copying_stands w caller setting c blocks same hash copier copier.stands f.point)
      by false blocking f = (mode_of copier.setting false f.setting_is blocking, copying_stands_blocking w caller setting c blocks same hash copier copier.stands f.point)

  by_setting : (p : Reserve) → p.setting ≡ setting → ReservingStands setting w.memory c blocks (is_incremental setting.mode) p.stands → ReserveStands setting w.memory c blocks p
  by_setting p is = subst (λ (s : Setting). ReservingStands setting w.memory c blocks (is_incremental s.mode) p.stands) (sym is)

  reserving_stands : (stage : Reserving) → ReservingFacts same hash w caller setting c blocks stage → ReservingStands setting w.memory c blocks (is_incremental setting.mode) stage
  reserving_stands (at.Makes making) f = new_table_stands w caller setting c blocks (Root setting.root) 0 making f
  reserving_stands (at.Follows table need) f = (f.0.0, f.0.1)
  reserving_stands (at.Grows table making) f = (f.0, f.1, new_table_stands w caller setting c blocks (Word (blocks.table f.0) NEXT) (suc f.0) making f.3)
  reserving_stands (at.Copies copier) f = whole_stands copier f
  reserving_stands _ f = tt

  pub reserve_stands : (p : Reserve) → ReserveFacts same hash w caller setting c blocks p → ReserveStands setting w.memory c blocks p
  reserve_stands p f = by_setting p f.setting_is (reserving_stands p.stands f.point)

  -- and once the root has left its table
  module _ (began : ℕ) where
    late_reserving : is_incremental setting.mode ≡ false → (stage : Reserving) → SupersededReserving same hash w caller setting c blocks began stage → ReservingStands setting w.memory c blocks false stage
    late_reserving blocking (at.Makes making) f = late_first same hash w caller setting c blocks began making f
    late_reserving blocking (at.Follows table need) (t, entered, left) = (t, entered)
    late_reserving blocking (at.Grows table making) (t, entered, left, f) = (t, entered, new_table_stands w caller setting c blocks (Word (blocks.table t) NEXT) (suc t) making f)
    late_reserving blocking (at.Copies copier) f = (mode_of copier.setting false f.setting_is blocking, late_copying same hash w caller setting c blocks began copier copier.stands f.point)
    late_reserving blocking _ f = tt

    pub late_reserve_stands : (p : Reserve) → SupersededReserveFacts same hash w caller setting c blocks began p → ReserveStands setting w.memory c blocks p
    late_reserve_stands p f =
        by_setting p f.setting_is (subst (λ (b : Bool). ReservingStands setting w.memory c blocks b p.stands) (sym f.blocking) (late_reserving f.blocking p.stands f.point))
