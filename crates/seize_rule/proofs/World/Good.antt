-- What holds of a world between any two events, and what the step of one row comes to.
use Rattle.std.specs.Prelude.{Option, if◌then◌else◌, ◌++◌}
use Rattle.std.proofs.Common.{◌≡◌, ℕ, ◌+◌, ◌≤◌, Bool, true, false, eqb, List, length, refl, subst, sym, eqb-true}
use Rattle.std.proofs.lemmas.Bool.{eqb-false, eq-eqb}
use Rattle.seize_moves.specs.Given.SeizeWordsMem.{Mem}
use Rattle.seize_moves.specs.Given.SeizeLaw.{Effect}
use Rattle.seize_moves.specs.Given.SeizeWorld.{World, Row, Use, with_at, handed_by}
use Rattle.seize_moves.proofs.Moves.State.Ghost.{State, emptied}
use Rattle.seize_moves.proofs.Moves.State.Rule.{Inv, Moved, Pending}
use Rattle.seize_moves.proofs.Memory.Words.View.{view}
use Rattle.seize_moves.proofs.Memory.Words.Shows.{Extra, Shows, Written}
use Rattle.seize_rule.proofs.Points.Aside.{AllHands}
use Rattle.seize_rule.proofs.Rows.Known.{works_on, FitsRow, ListsLast}
use Rattle.seize_rule.proofs.Rows.KnownLasts.{row_last}
use Rattle.seize_rule.proofs.Rows.Teams.{Used}
use Rattle.seize_moves.proofs.Memory.Words.There.{Stocked}
use Rattle.seize_moves.proofs.Memory.Words.Room.{HasRoom}
use Rattle.seize_rule.proofs.Rows.Short.{AllShort, StillShort, short_after}
use Rattle.seize_moves.proofs.Moves.Sets.Unmoved.{Unmoved}
use Rattle.seize_rule.proofs.Rows.Told.{RowTold}

-- There are a state and what rows know beside it, so that the rule holds, the words show the state, and each row knows what it needs.
pub record Good {T : Type 0} (defers : T → Option ℕ) (n size : ℕ) (w : World T) : Type 0 where
  pub state : State
  pub extra : Extra
  pub inv : Inv n state
  pub shows : Shows n (view defers w.memory) state extra
  pub pending : Pending state.stage state.counter
  pub logged : state.log ≡ w.log
  pub rows : (i : ℕ) → FitsRow n i (view defers w.memory) state extra (length w.memory.slots) (w.row i)
  pub hands : AllHands w.hand state.life
  pub used : Used state.head state.log w.row w.uses
  pub room : HasRoom n state.head w.memory
  pub stocked : Stocked defers w.memory
  pub short : AllShort n size state w.row

-- what stays of a memory beside its words
pub record Stays {T : Type 0} (defers : T → Option ℕ) (mem mem2 : Mem T) : Type 0 where
  pub stocked : Stocked defers mem2
  pub lists : ListsLast (view defers mem) (view defers mem2)
  pub more : length mem.slots ≤ length mem2.slots

-- row i goes on as this row
pub record RowWent {T : Type 0} (defers : T → Option ℕ) (n size : ℕ) (w : World T) (m : State) (x : Extra) (i : ℕ) (mem2 : Mem T) (row : Row) (effects : List Effect)
    (uses2 : ℕ → Use) : Type 0 where
  pub slot : ℕ
  pub m2 : State
  pub x2 : Extra
  pub moved : Moved n i slot m m2
  pub written : Written n i (view defers w.memory) m x (view defers mem2) m2 x2
  pub pending : Pending m.stage m.counter → Pending m2.stage m2.counter
  pub logged : m2.log ≡ effects ++ m.log
  pub fits : FitsRow n i (view defers mem2) m2 x2 (length mem2.slots) row
  pub hands : AllHands (handed_by effects w.hand) m2.life
  pub used : Used m2.head m2.log (with_at w.row i row) uses2
  pub alone : (j t : ℕ) → (j ≡ i → ⊥) → works_on (w.row j) ≡ t + 1 → t ≡ slot → emptied (m2.head t) ≡ emptied (m.head t)
  pub room : HasRoom n m2.head mem2
  pub stays : Stays defers w.memory mem2
  pub short : StillShort n size m m2 (w.row i) row

module _ {T : Type 0} where
  -- the world after a step of row i
  abbrev pub stepped : World T → ℕ → Mem T → Row → List Effect → (ℕ → Use) → World T
  stepped w i mem2 row effects uses2 =
      record { memory = mem2; row = with_at w.row i row; uses = uses2; hand = handed_by effects w.hand; log = effects ++ w.log }

module _ {T : Type 0} {size : ℕ} (defers : T → Option ℕ) (n : ℕ) (w : World T) (good : Good defers n size w) where
  pub good_after : (i : ℕ) (mem2 : Mem T) (row : Row) (effects : List Effect) (uses2 : ℕ → Use)
      → RowWent defers n size w good.state good.extra i mem2 row effects uses2 → Good defers n size (stepped w i mem2 row effects uses2)
  good_after i mem2 row effects uses2 g = record {
    state = g.m2;
    extra = g.x2;
    inv = g.moved.inv;
    shows = g.written.shows;
    pending = g.pending good.pending;
    logged = rw (← good.logged) (g.logged);
    rows = λ j. one j (eqb j i) (eqb-true j i) (eqb-false j i);
    hands = g.hands;
    used = g.used;
    room = g.room;
    stocked = g.stays.stocked;
    short = short_after n i size good.state g.m2 w.row row good.short g.short;
  }
    where
      kept : (j : ℕ) → (j ≡ i → ⊥) → (t : ℕ) → works_on (w.row j) ≡ t + 1 → emptied (g.m2.head t) ≡ emptied (good.state.head t)
      kept j ne t h = at (eqb t g.slot) (eqb-true t g.slot) (eqb-false t g.slot)
        where
          at : (y : Bool) → (y ≡ true → t ≡ g.slot) → (y ≡ false → t ≡ g.slot → ⊥) → emptied (g.m2.head t) ≡ emptied (good.state.head t)
          at true e f = g.alone j t ne h (e refl)
          at false e f = (g.moved.keeps.slots t (f refl)).head

      one : (j : ℕ) (y : Bool) → (y ≡ true → j ≡ i) → (y ≡ false → j ≡ i → ⊥)
          → FitsRow n j (view defers mem2) g.m2 g.x2 (length mem2.slots) (if y then row else w.row j)
      one j true e f = subst (λ (a : ℕ). FitsRow n a (view defers mem2) g.m2 g.x2 (length mem2.slots) row) (sym (e refl)) (g.fits)
      one j false e f = row_last n i g.slot j (length w.memory.slots) (length mem2.slots) (view defers w.memory) (view defers mem2) good.state g.m2 good.extra g.x2
          g.moved.keeps g.written.keeps good.inv good.shows g.moved.inv g.written.shows g.stays.lists g.stays.more (f refl) (w.row j) (kept j (f refl)) (good.rows j)

-- the world after a step of row i is good, and what the step has done to the state
pub record Next {T : Type 0} (defers : T → Option ℕ) (n size : ℕ) (w : World T) (m : State) (i : ℕ) (w2 : World T) : Type 0 where
  pub good : Good defers n size w2
  pub told : RowTold n i (w.row i) m w.uses (w2.row i) good.state w2.uses

-- the world is good, and nothing that the waiting sets say differs from that state
abbrev pub StillGood : {T : Type 0} → (T → Option ℕ) → ℕ → ℕ → State → World T → Type 0
StillGood defers n size m w2 = (g : Good defers n size w2) × Unmoved n m g.state

module _ {T : Type 0} {size : ℕ} (defers : T → Option ℕ) (n : ℕ) (w : World T) (good : Good defers n size w) where
  pub after_state : (i : ℕ) (mem2 : Mem T) (row : Row) (effects : List Effect) (uses2 : ℕ → Use)
      → (g : RowWent defers n size w good.state good.extra i mem2 row effects uses2) → (good_after defers n w good i mem2 row effects uses2 g).state ≡ g.m2
  unfolding good_after
  after_state i mem2 row effects uses2 g = refl

  pub next_after : (i : ℕ) (mem2 : Mem T) (row : Row) (effects : List Effect) (uses2 : ℕ → Use)
      → (g : RowWent defers n size w good.state good.extra i mem2 row effects uses2) → RowTold n i (w.row i) good.state w.uses row g.m2 uses2
      → Next defers n size w good.state i (stepped w i mem2 row effects uses2)
  unfolding good_after
  next_after i mem2 row effects uses2 g told = record {
    good = good_after defers n w good i mem2 row effects uses2 g;
    told = subst (λ (t : Bool). RowTold n i (w.row i) good.state w.uses (if t then row else w.row i) g.m2 uses2) (sym (eq-eqb i i refl)) told;
  }
