-- A call's numbers where it stands at a row of the collector, or behind one: they stay where fewer blocks can be looked at, if the links that it goes on by still
-- lead to tables that can be.
use Rattle.std.specs.Prelude.{◌≡◌, ℕ, zero, suc, ◌*◌, ◌-◌, ◌<◌, ◌≤◌, ◌==◌, ◌&&◌, Bool, true, false, cond, List, ◌∷◌}
use Rattle.std.proofs.Common.{refl, ap, sym, ◌∙◌, arith, inl, inr}
use Rattle.std.proofs.lemmas.Bool.{eq-eqb, cases_lt}
use Rattle.map_tables.specs.Chunks.{is_incremental}
use Rattle.map_measures.specs.Given.ResizeDeclared.copier.Copier.{Copier}
use Rattle.map_measures.specs.Given.ResizeDeclared.copier.Copying.{Copying}
use Rattle.map_measures.specs.Given.ResizeDeclared.copier.Copying.TheVariants as copies
use Rattle.map_measures.specs.Given.ResizeDeclared.dispose.Disposing.{Disposing}
use Rattle.map_measures.specs.Given.ResizeDeclared.dispose.Disposing.TheVariants as disposes
use Rattle.papaya_raw.specs.declared.machines.call.KeyCall.{KeyCall}
use Rattle.papaya_raw.specs.declared.machines.call.Calling.{Calling}
use Rattle.papaya_raw.specs.declared.machines.call.Calling.TheVariants as at
use Rattle.papaya_raw.specs.Given.ReservesDeclared.reserve.Reserving.{Reserving}
use Rattle.papaya_raw.specs.Given.ReservesDeclared.reserve.Reserving.TheVariants as reserves
use Rattle.papaya_raw.specs.Given.ReservesDeclared.sweep.Sweep.{Sweep}
use Rattle.papaya_raw.specs.Given.ReservesDeclared.sweep.Sweeping.{Sweeping}
use Rattle.papaya_raw.specs.Given.ReservesDeclared.sweep.Sweeping.TheVariants as sweeps
use Rattle.map_measures.specs.Given.RuleChart.{Chart}
use Rattle.map_measures.specs.Given.RuleWords.{Blocks}
use Rattle.map_measures.specs.Given.PointsMeasuresDisposes.{turn_of, number_at_disposing}
use Rattle.map_measures.specs.Falls.Calls as calls
use Rattle.map_measures.specs.Falls.Copies as chunks
use Rattle.map_measures.specs.Falls.CopiesBlocking as blocking
use Rattle.map_measures.specs.Falls.Reserves as rooms
use Rattle.map_measures.specs.Falls.Room.{planned_in_call, tables_to_come}
use Rattle.map_measures.specs.Passes.Sweeps as passes

-- of a pair that is disposed of, nothing is left to be found
abbrev pub DisposeLinks : Disposing → Type 0
DisposeLinks (disposes.Walks link) = ⊥
DisposeLinks _ = Unit {0}

module _ {K : Type 0} (c : Chart K) (blocks : Blocks) where
  -- the link leads to a table that can be looked at
  abbrev pub IsKnownLink : ℕ → Type 0
  IsKnownLink link = (u : ℕ) × (u < c.past) × (blocks.table_known u ≡ true) × (link ≡ blocks.table u * 2048)

  -- the old tables that a copier is still to retire
  abbrev pub Links : Copying → Type 0
  Links (copies.Succeeds link) = IsKnownLink link
  Links (copies.Retires settle rest) = (rest == 0) ≡ false → IsKnownLink rest
  Links copies.Over = Unit {0}
  Links _ = ⊥

  abbrev pub KeyLinks : Calling → Type 0
  KeyLinks (at.Helps copier goal) = Links copier.stands
  KeyLinks (at.Copies copier) = Links copier.stands
  KeyLinks (at.Disposes d answer) = DisposeLinks d.stands
  KeyLinks _ = ⊥

  abbrev pub RoomLinks : Reserving → Type 0
  RoomLinks (reserves.Copies copier) = Links copier.stands
  RoomLinks _ = ⊥

  abbrev pub SweepLinks : Sweeping → Type 0
  SweepLinks (sweeps.Copies copier) = Links copier.stands
  SweepLinks (sweeps.Disposes d) = DisposeLinks d.stands
  SweepLinks sweeps.Words = Unit {0}
  SweepLinks sweeps.Follows = Unit {0}
  SweepLinks sweeps.Over = Unit {0}
  SweepLinks _ = ⊥

module _ {K : Type 0} (c : Chart K) (b1 b2 : Blocks) (tables : (t : ℕ) → b2.table t ≡ b1.table t)
    (fewer : (t : ℕ) → t < c.past → b2.table_known t ≡ true → b1.table_known t ≡ true)
    (later : (t u : ℕ) → t < u → u < c.past → b2.table_known t ≡ true → b2.table_known u ≡ true) where
  turns : (link u : ℕ) → b2.table_known u ≡ true → link ≡ b2.table u * 2048 → (past : ℕ) → u < past → past ≤ c.past → turn_of b2 link past ≡ turn_of b1 link past
  turns link u known is zero low most = absurd (omega (arith, low))
  turns link u known is (suc t) low most = turn (λ other. turns link u known is t other (omega (arith, most)))
    where
      here : b2.table_known t ≡ true
      here = elim (cases_lt u t) as (λ _. b2.table_known t ≡ true) [
        | inl l ↦ later u t l (omega (arith, most)) known
        | inr l ↦ (let same : t ≡ u = omega (arith, l, low) in ap b2.table_known same ∙ known)
      ]

      by : (q : Bool) → (b1.table t * 2048 == link) ≡ q → (u < t → turn_of b2 link t ≡ turn_of b1 link t) → cond (true && q) t (turn_of b2 link t) ≡ cond (true && q) t (turn_of b1 link t)
      by true e rest = refl
      by false e rest = elim (cases_lt u t) as (λ _. turn_of b2 link t ≡ turn_of b1 link t) [
        | inl l ↦ rest l
        | inr l ↦ (let same : t ≡ u = omega (arith, l, low) in
            let met = eq-eqb (b1.table t * 2048) link (ap (λ (x : ℕ). x * 2048) (sym (tables t) ∙ ap b2.table same) ∙ sym is) in absurd (cc (met, e)))
      ]

      turn : (u < t → turn_of b2 link t ≡ turn_of b1 link t)
          → cond (b2.table_known t && (b2.table t * 2048 == link)) t (turn_of b2 link t) ≡ cond (b1.table_known t && (b1.table t * 2048 == link)) t (turn_of b1 link t)
      turn rest =
          ap (λ (k : Bool). cond (k && (b2.table t * 2048 == link)) t (turn_of b2 link t)) here
          ∙ ap (λ (x : ℕ). cond (true && (x * 2048 == link)) t (turn_of b2 link t)) (tables t) ∙ by (b1.table t * 2048 == link) refl rest
          ∙ ap (λ (k : Bool). cond (k && (b1.table t * 2048 == link)) t (turn_of b1 link t)) (sym (fewer t (omega (arith, most)) here))

  old_kept : (p : Copier) (link : ℕ) → IsKnownLink c b2 link → chunks.old_tables c b2 p link ≡ chunks.old_tables c b1 p link
  old_kept p link (u, made, known, is) = ap (λ (x : ℕ). p.target.turn - x) (turns link u known is c.past made (omega arith))

  rest_kept : (p : Copier) (rest : ℕ) → ((rest == 0) ≡ false → IsKnownLink c b2 rest) → cond (rest == 0) 0 (chunks.old_tables c b2 p rest) ≡ cond (rest == 0) 0 (chunks.old_tables c b1 p rest)
  rest_kept p rest links = by (rest == 0) links
    where
      by : (q : Bool) → (q ≡ false → IsKnownLink c b2 rest) → cond q 0 (chunks.old_tables c b2 p rest) ≡ cond q 0 (chunks.old_tables c b1 p rest)
      by true known = refl
      by false known = old_kept p rest (known refl)

  -- its copier, in either mode

  chunk_kept : (p : Copier) (x : Copying) → Links c b2 x → chunks.number_at c b2 p x ≡ chunks.number_at c b1 p x
  chunk_kept p (copies.Succeeds link) links = ap (λ (x : ℕ). chunks.retiring_left c b1 p x 0) (old_kept p link links)
  chunk_kept p (copies.Retires settle rest) links = ap (λ (x : ℕ). chunks.retiring_left c b1 p x 1) (rest_kept p rest links)
  chunk_kept p copies.Over links = refl
  chunk_kept p _ links = absurd links

  whole_kept : (p : Copier) (x : Copying) → Links c b2 x → blocking.number_at c b2 p x ≡ blocking.number_at c b1 p x
  whole_kept p (copies.Succeeds link) links = ap (λ (x : ℕ). blocking.ends_left c b1 p 1 x 0) (old_kept p link links)
  whole_kept p (copies.Retires settle rest) links = ap (λ (x : ℕ). blocking.ends_left c b1 p 1 x 1) (rest_kept p rest links)
  whole_kept p copies.Over links = refl
  whole_kept p _ links = absurd links

  within_kept : (b : Bool) (p : Copier) → Links c b2 p.stands → rooms.number_within b c b2 p ≡ rooms.number_within b c b1 p
  within_kept true p links = chunk_kept p p.stands links
  within_kept false p links = whole_kept p p.stands links

  -- a disposal
  dispose_kept : (turn : ℕ) (x : Disposing) → DisposeLinks x → number_at_disposing c b2 turn x ≡ number_at_disposing c b1 turn x
  dispose_kept turn (disposes.Walks link) links = absurd links
  dispose_kept turn disposes.Reads links = refl
  dispose_kept turn (disposes.Settles settle) links = refl
  dispose_kept turn (disposes.Defers defer) links = refl
  dispose_kept turn disposes.Over links = refl

  -- a call on one key, a reservation and a sweep

  pub key_kept : {V Q : Type 0} (hash : K → ℕ) (p : KeyCall K V Q) (x : Calling) → KeyLinks c b2 x → calls.number_at hash c b2 p x ≡ calls.number_at hash c b1 p x
  key_kept hash p (at.Helps copier goal) links =
      ap (calls.seeking hash c b1 p (planned_in_call (at.Helps copier goal)) (c.past - goal.turn) 1 0 0) (chunk_kept copier copier.stands links)
  key_kept hash p (at.Copies copier) links =
      ap (calls.seeking hash c b1 p (planned_in_call (at.Copies copier)) (c.past - copier.target.turn) 1 0 0) (whole_kept copier copier.stands links)
  key_kept hash p (at.Disposes d answer) links = ap (λ (xs : List ℕ). calls.ending hash c b1 p 3 (calls.one_of_eight xs)) (dispose_kept d.table.turn d.stands links)
  key_kept hash p _ links = absurd links

  pub room_kept : (b : Bool) (x : Reserving) → RoomLinks c b2 x → rooms.numbers_at b c b2 x ≡ rooms.numbers_at b c b1 x
  room_kept b (reserves.Copies copier) links =
      ap (λ (xs : List ℕ). tables_to_come c.past (rooms.planned_in_reserve (reserves.Copies copier)) ∷ (c.past - copier.target.turn) ∷ 4 ∷ xs) (within_kept b copier links)
  room_kept b _ links = absurd links

  pub sweep_kept : (hash : K → ℕ) (p : Sweep) (x : Sweeping) → SweepLinks c b2 x → passes.numbers_at hash c b2 p x ≡ passes.numbers_at hash c b1 p x
  sweep_kept hash p (sweeps.Copies copier) links =
      ap (λ (xs : List ℕ). tables_to_come c.past (passes.planned_in_sweep (sweeps.Copies copier)) ∷ (c.past - copier.target.turn) ∷ 4 ∷ xs)
      (within_kept (is_incremental p.setting.mode) copier links)
  sweep_kept hash p (sweeps.Disposes d) links =
      ap (λ (xs : List ℕ). tables_to_come c.past 0 ∷ passes.at_place hash c b1 p 0 xs) (dispose_kept d.table.turn d.stands links)
  sweep_kept hash p sweeps.Words links = refl
  sweep_kept hash p sweeps.Follows links = refl
  sweep_kept hash p sweeps.Over links = refl
  sweep_kept hash p _ links = absurd links
