-- What a reservation knows of the tables to which it has come.
use Rattle.std.specs.Prelude.{◌≡◌, ℕ, suc, ◌<◌, ◌≤◌, Bool, true, false, cond, ◌⊎◌}
use Rattle.std.proofs.Common.{ap, subst, arith, inl, inr}
use Rattle.run_finds.specs.Given.SeizeWorld.{World}
use Rattle.run_finds.specs.Given.TablesChunks.{is_incremental}
use Rattle.run_finds.specs.Given.TablesDeclared.node.Node.{Node}
use Rattle.run_finds.specs.Given.TablesDeclared.setting.Setting.{Setting}
use Rattle.run_finds.specs.Given.TablesDeclared.table.Table.{Table}
use Rattle.run_finds.specs.Given.ResizeDeclared.copier.Copier.{Copier}
use Rattle.run_finds.specs.Given.ResizeDeclared.copier.Copying.{Copying}
use Rattle.run_finds.specs.Given.ResizeDeclared.copier.Copying.TheVariants as copies
use Rattle.run_finds.specs.Given.ResizeDeclared.sum.Sum.{Sum}
use Rattle.run_finds.specs.Given.ReservesDeclared.reserve.Reserve.{Reserve}
use Rattle.run_finds.specs.Given.ReservesDeclared.reserve.Reserving.{Reserving}
use Rattle.run_finds.specs.Given.ReservesDeclared.reserve.Reserving.TheVariants as at
use Rattle.run_finds.specs.Given.RuleChart.{Chart}
use Rattle.run_finds.specs.Given.RuleMaps.{IsTable}
use Rattle.run_finds.specs.Given.RuleWords.{Blocks}
use Rattle.run_finds.specs.Given.PointsFactsCopies.{CopyingFacts, CopierFacts}
use Rattle.run_finds.specs.Given.PointsFactsCopiesBlocking.{CopyingFactsBlocking, CopierFactsBlocking}
use Rattle.run_finds.specs.Given.PointsFactsTables.{SumFacts}
use Rattle.run_finds.specs.Given.LateFactsReserves.{IsEnding, CopiesWhole, ReservingFacts}
use Rattle.run_finds.specs.Given.LateLateCopies.{SupersededCopying}
use Rattle.run_finds.specs.Given.LateLateReserves.{SupersededReserving}
use Rattle.run_finds.specs.Given.LateToldReserves.{IsRowOfReserve}
use Rattle.run_finds.specs.Given.CallersRooms.{CallForRoom, room_once_over}
use Rattle.run_finds.specs.Given.CallersTogether.{ForRoom, KnowsRoom, IsAtPoint, in_slot}
use Rattle.run_finds.proofs.Purposes.Copiers.{KnowsTables}
use Rattle.run_finds.proofs.Purposes.RoomPoints.{IsTold}

module _ {K : Type 0} (c : Chart K) (blocks : Blocks) where
  pub turn_is : (table : Table) (t : ℕ) → IsTable c blocks table t → table.turn ≡ t
  turn_is table t is = ap (λ (x : Table). x.turn) is.is

  -- a table after another one
  later_turn : (p : Copier) (s t : ℕ) → IsTable c blocks p.source s → IsTable c blocks p.target t → s < t → p.source.turn ≤ p.target.turn
  later_turn p s t source target l = (let a = turn_is p.source s source in let b = turn_is p.target t target in omega (arith, a, b, l))

module _ {K V : Type 0} (same : K → K → Bool) (hash : K → ℕ) (w : World (Node K V)) (caller : ℕ) (setting : Setting) (c : Chart K) (blocks : Blocks) (began : ℕ) where
  -- a copier of a whole table knows its tables
  whole_knows : (p : Copier) (stands : Copying) → p.whole ≡ true → CopyingFacts same hash w caller setting c blocks p stands → KnowsTables stands
  whole_knows p copies.Begins whole facts = absurd (let part = facts.4 in cc (whole, part))
  whole_knows p copies.Follows whole facts = absurd (let part = facts.3 in cc (whole, part))
  whole_knows p _ whole facts = tt

  blocking_knows : (p : Copier) (stands : Copying) → CopyingFactsBlocking same hash w caller setting c blocks p stands → KnowsTables stands
  blocking_knows p copies.Begins facts = absurd facts
  blocking_knows p copies.Follows facts = absurd facts
  blocking_knows p _ facts = tt

  late_knows : (p : Copier) (stands : Copying) → SupersededCopying same hash w caller setting c blocks began p stands → KnowsTables stands
  late_knows p copies.Begins facts = absurd facts
  late_knows p copies.Follows facts = absurd facts
  late_knows p _ facts = tt

  fresh_knows : (p : Copier) → CopiesWhole same hash w caller setting c blocks p → KnowsTables p.stands
  fresh_knows p facts = by (is_incremental setting.mode) facts
    where
      by : (b : Bool) → cond b ((p.whole ≡ true) × CopierFacts same hash w caller setting c blocks p × IsEnding same hash w caller setting c blocks p p.stands) (CopierFactsBlocking same hash w caller setting c blocks p) → KnowsTables p.stands
      by true f = whole_knows p p.stands f.0 f.1.point
      by false f = blocking_knows p p.stands f.point

  -- the table that it copies into is a later one
  whole_later : (p : Copier) (stands : Copying) → IsTold stands → CopyingFacts same hash w caller setting c blocks p stands → p.source.turn ≤ p.target.turn
  whole_later p copies.Asks told facts = later_turn c blocks p facts.0 (suc facts.0) facts.1.0 facts.1.1 (omega arith)
  whole_later p copies.Marks told facts = later_turn c blocks p facts.0 (suc facts.0) facts.1.0 facts.1.1 (omega arith)
  whole_later p _ (inl e) facts = absurd (cc e)
  whole_later p _ (inr e) facts = absurd (cc e)

  blocking_later : (p : Copier) (stands : Copying) → IsTold stands → CopyingFactsBlocking same hash w caller setting c blocks p stands → p.source.turn ≤ p.target.turn
  blocking_later p copies.Asks told facts = later_turn c blocks p c.first facts.0 facts.1.0.0 facts.1.0.2 facts.1.0.1
  blocking_later p copies.Marks told facts = later_turn c blocks p c.first facts.0 facts.1.0 facts.1.2 facts.1.1
  blocking_later p _ (inl e) facts = absurd (cc e)
  blocking_later p _ (inr e) facts = absurd (cc e)

  late_later : (p : Copier) (stands : Copying) → IsTold stands → SupersededCopying same hash w caller setting c blocks began p stands → p.source.turn ≤ p.target.turn
  late_later p copies.Asks told facts = later_turn c blocks p facts.0 facts.1 facts.2.source facts.2.target facts.2.order
  late_later p copies.Marks told facts = later_turn c blocks p facts.0 facts.1 facts.2.0.source facts.2.0.target facts.2.0.order
  late_later p _ (inl e) facts = absurd (cc e)
  late_later p _ (inr e) facts = absurd (cc e)

  fresh_later : (p : Copier) → IsTold p.stands → CopiesWhole same hash w caller setting c blocks p → p.source.turn ≤ p.target.turn
  fresh_later p told facts = by (is_incremental setting.mode) facts
    where
      by : (b : Bool) → cond b ((p.whole ≡ true) × CopierFacts same hash w caller setting c blocks p × IsEnding same hash w caller setting c blocks p p.stands) (CopierFactsBlocking same hash w caller setting c blocks p) → p.source.turn ≤ p.target.turn
      by true f = whole_later p p.stands told f.1.point
      by false f = blocking_later p p.stands told f.point

  -- by its point, in the root's table or in one that the root has left
  point_knows : (stands : Reserving) (copier : Copier) → stands ≡ at.Copies copier
      → ReservingFacts same hash w caller setting c blocks stands ⊎ SupersededReserving same hash w caller setting c blocks began stands → KnowsTables copier.stands
  point_knows stands copier is (inl facts) = fresh_knows copier (subst (ReservingFacts same hash w caller setting c blocks) is facts)
  point_knows stands copier is (inr facts) = late_knows copier copier.stands (subst (SupersededReserving same hash w caller setting c blocks began) is facts).point

  pub point_later : (stands : Reserving) (copier : Copier) → stands ≡ at.Copies copier → IsTold copier.stands
      → ReservingFacts same hash w caller setting c blocks stands ⊎ SupersededReserving same hash w caller setting c blocks began stands → copier.source.turn ≤ copier.target.turn
  point_later stands copier is told (inl facts) = fresh_later copier told (subst (ReservingFacts same hash w caller setting c blocks) is facts)
  point_later stands copier is told (inr facts) = late_later copier copier.stands told (subst (SupersededReserving same hash w caller setting c blocks began) is facts).point

  -- where it counts, its table was the root
  pub was_root : (stands : Reserving) (table : Table) (sum : Sum) → stands ≡ at.Sums table sum
      → ReservingFacts same hash w caller setting c blocks stands ⊎ SupersededReserving same hash w caller setting c blocks began stands
      → SumFacts setting sum × (t : ℕ) × IsTable c blocks table t × (t ≤ c.first)
  was_root stands table sum is (inl facts) =
      let f = subst (ReservingFacts same hash w caller setting c blocks) is facts in (f.1, f.0.0, f.0.1, by (is_incremental setting.mode) f.0.0 f.0.2)
    where
      by : (b : Bool) (t : ℕ) → cond b (t ≤ c.first) (t ≡ c.first) → t ≤ c.first
      by true t l = l
      by false t e = omega (arith, e)
  was_root stands table sum is (inr facts) =
      let f = subst (SupersededReserving same hash w caller setting c blocks began) is facts in (f.1, f.0.0, f.0.1, (let l = f.0.2.behind in omega (arith, l)))

-- a reservation that is under way
module _ {K : Type 0} (V : Type 0) (same : K → K → Bool) (hash : K → ℕ) (setting : Setting) (slot : ℕ → ℕ) (w : World (Node K V)) (c : Chart K) (seen : Blocks) (i : ℕ) (r : CallForRoom) where
  abbrev pub Point : Reserving → Type 0
  Point stands = ReservingFacts same hash w i (in_slot setting (slot i)) c seen stands ⊎ SupersededReserving same hash w i (in_slot setting (slot i)) c seen r.began stands

  abbrev Knows : Reserve → Type 0
  Knows p = KnowsRoom V same hash same setting slot w c seen i r.began p

  point_of : (p : Reserve) → Knows p → Point p.stands
  point_of p knows = elim knows.facts as (λ _. Point p.stands) [
    | inl f ↦ inl f.point
    | inr f ↦ inr f.point
  ]

  setting_of : (p : Reserve) → Knows p → p.setting ≡ in_slot setting (slot i)
  setting_of p knows = elim knows.facts as (λ _. p.setting ≡ in_slot setting (slot i)) [
    | inl f ↦ f.setting_is
    | inr f ↦ f.setting_is
  ]

  abbrev pub StandsSo : Type 0
  StandsSo = IsAtPoint V same hash same setting slot w c seen i (ForRoom r)

  pub room_setting : StandsSo → r.reserve.setting ≡ in_slot setting (slot i)
  room_setting (inl k) = setting_of r.reserve k.1
  room_setting (inr k) = setting_of (room_once_over r.reserve) k.2

  -- it is within no row
  pub room_point : StandsSo → (IsRowOfReserve r.reserve.stands → ⊥) → Point r.reserve.stands
  room_point (inl k) none = point_of r.reserve k.1
  room_point (inr k) none = absurd (none k.1)

  pub room_knows : StandsSo → (copier : Copier) → r.reserve.stands ≡ at.Copies copier → KnowsTables copier.stands
  room_knows (inl k) copier is = point_knows same hash w i (in_slot setting (slot i)) c seen r.began r.reserve.stands copier is (point_of r.reserve k.1)
  room_knows (inr k) copier is = row_knows copier.stands (subst IsRowOfReserve is k.1)
    where
      row_knows : (stands : Copying) → IsRowOfReserve (at.Copies (record copier { stands = stands })) → KnowsTables stands
      row_knows copies.Begins row = absurd row
      row_knows copies.Follows row = absurd row
      row_knows _ row = tt

  pub room_later : StandsSo → (copier : Copier) → r.reserve.stands ≡ at.Copies copier → IsTold copier.stands → copier.source.turn ≤ copier.target.turn
  room_later (inl k) copier is told = point_later same hash w i (in_slot setting (slot i)) c seen r.began r.reserve.stands copier is told (point_of r.reserve k.1)
  room_later (inr k) copier is told = absurd (none copier.stands told (subst IsRowOfReserve is k.1))
    where
      none : (stands : Copying) → IsTold stands → IsRowOfReserve (at.Copies (record copier { stands = stands })) → ⊥
      none (copies.Retires settle rest) (inl e) row = cc e
      none (copies.Retires settle rest) (inr e) row = cc e
      none _ told row = row
