-- What a step of a settling row comes to: a move, words that show the state after it, and what the row knows then.
use Rattle.std.specs.Prelude.{Option, Some, is_some, List, [], ◌++◌}
use Rattle.std.proofs.Common.{◌≡◌, ℕ, ◌+◌, ◌<◌, ◌^◌, true, false, refl, sym, subst}
use Rattle.seize_moves.specs.Given.SeizeWordsDeclared.at.At.{At}
use Rattle.seize_moves.specs.Given.SeizeWordsDeclared.at.At.TheVariants.{Slot, Entry, Word}
use Rattle.seize_moves.specs.Given.SeizeWordsMem.{Mem, value_at, with_word}
use Rattle.seize_moves.specs.Given.SeizeDeclared.rows.settle.Settle.{Settle}
use Rattle.seize_moves.specs.Given.SeizeDeclared.rows.settle.Settled.{Settled}
use Rattle.seize_moves.specs.Given.SeizeDeclared.rows.settle.Settled.TheVariants.{Goes, Waits, Gave, Done}
use Rattle.seize_moves.specs.Given.SeizeLaw.{Effect}
use Rattle.seize_moves.proofs.Moves.State.Ghost.{Head, State, is_never}
use Rattle.seize_moves.proofs.Moves.State.Rule.{Inv, Moved, Pending}
use Rattle.seize_moves.proofs.Moves.State.Together.{stays}
use Rattle.seize_moves.proofs.Memory.Words.Named.{has}
use Rattle.seize_moves.proofs.Memory.Words.View.{View, view, list_in}
use Rattle.seize_moves.proofs.Memory.Words.Shows.{Extra, Shows, Written, keeps_like}
use Rattle.seize_rule.proofs.Points.Aside.{Aside, aside_same}
use Rattle.seize_rule.proofs.Points.Known.{Fits}
use Rattle.seize_rule.proofs.Points.Told.{Part, part, Told, Stays}

pub record Stepped (n i : ℕ) (c0 : Settle) (p : Part) (f : View) (m : State) (x : Extra) (g : View) (effects : List Effect) (c : Settle) : Type 0 where
  pub m2 : State
  pub x2 : Extra
  pub moved : Moved n i c0.slot m m2
  pub written : Written n i f m x g m2 x2
  pub pending : Pending m.stage m.counter → Pending m2.stage m2.counter
  pub logged : m2.log ≡ effects ++ m.log
  pub aside : Aside m m2 effects
  pub fits : Fits n i g m2 x2 c
  pub slot_is : c.slot ≡ c0.slot
  pub told : Told n i c0 p m c m2

-- further steps are needed
abbrev pub IsGoing : {T : Type 0} → Settled T → Type 0
IsGoing Goes = Unit {0}
IsGoing Waits = Unit {0}
IsGoing (Gave value) = Unit {0}
IsGoing Done = ⊥

-- the words of a memory that rows use are there: those of blocks that live, and of slots ever taken, and the head behind them; and numbers of blocks are few
pub record HasWords {T : Type 0} (defers : T → Option ℕ) (n : ℕ) (mem : Mem T) (head : ℕ → Head) : Type 0 where
  pub entries : (b k : ℕ) → k < 4 → is_some (value_at mem b) ≡ true → has mem (Entry b k) ≡ true
  pub lists : (b d : ℕ) → list_in defers (value_at mem b) ≡ Some d → has mem (Word b d) ≡ true
  pub slots : (t k : ℕ) → k < 2 → is_never (head t) ≡ false → has mem (Slot t k) ≡ true
  pub behind : (t k : ℕ) → k < 2 → is_never (head t) ≡ false → t + 1 < n → has mem (Slot (t + 1) k) ≡ true
  pub few : (b : ℕ) → is_some (value_at mem b) ≡ true → b < 2 ^ 53

-- the row goes on, and no word was written and nothing moved
pub unmoved : (n i : ℕ) (c0 : Settle) (p : Part) (f : View) (m : State) (x : Extra) (c : Settle) → Inv n m → Shows n f m x → c.slot ≡ c0.slot → Told n i c0 p m c m → Fits n i f m x c
    → Stepped n i c0 p f m x f [] c
unmoved n i c0 p f m x c inv v e t fits = record {
  m2 = m;
  x2 = x;
  moved = stays n i c0.slot m inv;
  written = record { shows = v; keeps = keeps_like i f m x f refl refl refl refl refl };
  pending = λ p. p;
  logged = refl;
  aside = aside_same m m refl refl;
  fits = fits;
  slot_is = e;
  told = t;
}

-- and its work is at the same part
pub quiet : (n i : ℕ) (c0 : Settle) (p : Part) (f : View) (m : State) (x : Extra) (c : Settle) → Inv n m → Shows n f m x → c.slot ≡ c0.slot → part c ≡ p → Fits n i f m x c
    → Stepped n i c0 p f m x f [] c
quiet n i c0 p f m x c inv v e q fits = unmoved n i c0 p f m x c inv v e (Stays refl q) fits

module _ {T : Type 0} (defers : T → Option ℕ) (n i : ℕ) (c0 : Settle) (p : Part) (mem : Mem T) (m : State) (x : Extra) (effects : List Effect) where
  -- a step of the row ended so
  abbrev pub Went : Mem T → Settle × Settled T → Type 0
  Went mem2 end = Stepped n i c0 p (view defers mem) m x (view defers mem2) effects end.0 × IsGoing end.1

  pub went : (mem2 : Mem T) (c : Settle) (o : Settled T) (end : Settle × Settled T) → IsGoing o → end ≡ (c, o)
      → Stepped n i c0 p (view defers mem) m x (view defers mem2) effects c → Went mem2 end
  went mem2 c o end g e st = subst (λ (q : Settle × Settled T). Went mem2 q) (sym e) (st, g)

  -- the memory is as it was
  pub went_loaded : (mem2 : Mem T) (c : Settle) (o : Settled T) (end : Settle × Settled T) → IsGoing o → end ≡ (c, o) → mem2 ≡ mem
      → Stepped n i c0 p (view defers mem) m x (view defers mem) effects c → Went mem2 end
  went_loaded mem2 c o end g e same st =
      subst (λ (q : Mem T). Went q end) (sym same) (went mem c o end g e st)

  -- a word was written: what is seen then is g
  pub went_written : (mem2 : Mem T) (at : At) (v : ℕ) (g : View) (c : Settle) (o : Settled T) (end : Settle × Settled T) → IsGoing o → end ≡ (c, o)
      → mem2 ≡ with_word mem at v → view defers (with_word mem at v) ≡ g
      → Stepped n i c0 p (view defers mem) m x g effects c → Went mem2 end
  went_written mem2 at v g c o end go e same seen st =
      subst (λ (q : Mem T). Went q end) (sym same)
      (went (with_word mem at v) c o end go e (subst (λ (q : View). Stepped n i c0 p (view defers mem) m x q effects c) (sym seen) st))
