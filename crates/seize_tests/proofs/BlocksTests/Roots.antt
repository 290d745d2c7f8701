-- A step on the first root leaves it there.
use Rattle.std.specs.Prelude.{◌≡◌, ℕ, List, [], ◌∷◌, Some, Ok, Err, is_some, slice_get, slice_set}
use Rattle.std.proofs.Common.{ap, refl, ◌∙◌}
use Rattle.seize_words.specs.OneMemory.Mem.{Mem, Took}
use Rattle.seize_words.specs.OneMemory.Op.{Out, Add, Exchange, Found, Stored, Exchanged, Made, Taken, Roomed}
use Rattle.seize_words.specs.declared.at.At.TheVariants.{Root}
use Rattle.seize_seats.specs.Seats.State.{State, Goes, Allows}
use Rattle.seize_tests.specs.BlocksTests.Root.{HasRoot}

-- nothing is kept
abbrev pub NoneKept : Unit {0} → Unit {0} → Unit {0} → ℕ → Type 0
NoneKept u o w b = ⊥

-- any view will do
abbrev pub Any : Unit {0} → Type 0
Any w = Unit {0}

pub set_first : (l : List ℕ) (x w : ℕ) → slice_get l 0 ≡ Some x → slice_get (slice_set l 0 w) 0 ≡ Some w
set_first [] x w e = absurd (cc e)
set_first (y ∷ l) x w e = refl

module _ (id : ℕ) (s : State ℕ (Unit {0}) (Unit {0})) (m : Mem ℕ) where
  goes : (w : ℕ) → slice_get m.roots 0 ≡ Some w → Goes HasRoot NoneKept s m id Any
  goes w e = (tt, tt, (w, e), (λ j k b u o x y z v kept. kept), tt)

pub adds : (id by : ℕ) (v : Unit {0}) → Allows {T = ℕ} HasRoot NoneKept id v (Add (Root 0) by) (λ out. Any)
adds id by v s has at = (ap is_some has.1, λ out m took. told out m took)
  where
    told : (out : Out ℕ) (m : Mem ℕ) → Took s.memory (Add (Root 0) by) out m → Goes HasRoot NoneKept s m id Any
    told (Found w) m took = goes id s m _ (ap (λ (n : Mem ℕ). slice_get n.roots 0) took.1 ∙ set_first s.memory.roots has.0 _ has.1)
    told Stored m took = absurd took.0
    told (Exchanged r) m took = absurd took.0
    told (Made r) m took = absurd took.0
    told (Taken r) m took = absurd took.0
    told (Roomed r) m took = absurd took.0

pub exchanges : (id old new : ℕ) (v : Unit {0}) → Allows {T = ℕ} HasRoot NoneKept id v (Exchange (Root 0) old new) (λ out. Any)
exchanges id old new v s has at = (ap is_some has.1, λ out m took. told out m took)
  where
    told : (out : Out ℕ) (m : Mem ℕ) → Took s.memory (Exchange (Root 0) old new) out m → Goes HasRoot NoneKept s m id Any
    told (Exchanged (Ok w)) m took = goes id s m _ (ap (λ (n : Mem ℕ). slice_get n.roots 0) took.1 ∙ set_first s.memory.roots has.0 _ has.1)
    told (Exchanged (Err w)) m took = goes id s m _ (ap (λ (n : Mem ℕ). slice_get n.roots 0) took.1 ∙ has.1)
    told (Found w) m took = absurd took.0
    told Stored m took = absurd took.0
    told (Made r) m took = absurd took.0
    told (Taken r) m took = absurd took.0
    told (Roomed r) m took = absurd took.0
