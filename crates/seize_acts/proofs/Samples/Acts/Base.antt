-- What samples of acts are computed with: a few acts to begin with, and rows that take a step by a plan of their own.
use Rattle.std.specs.Prelude.{Option, Some, None, ◌==◌, if◌then◌else◌}
use Rattle.std.proofs.Common.{ℕ, zero, suc, false, List, [], ◌∷◌}
use Rattle.seize_words.specs.OneMemory.Word.{link_to}
use Rattle.seize_words.specs.declared.at.At.TheVariants.{Root}
use Rattle.seize_words.specs.OneMemory.Op.{Store, Make}
use Rattle.seize_words.specs.OneMemory.Plan.{Plan}
use Rattle.seize.specs.declared.advance.Advance.{Advance}
use Rattle.seize.specs.declared.rows.settle.Settle.{Settle}
use Rattle.seize.specs.declared.rows.settle.Settled.{Settled}
use Rattle.seize.specs.declared.rows.defer.Defer.{Defer}
use Rattle.seize.specs.World.{World, Row, Settles, Defers, Register', Enter', settles_on, defers_on, at_start}
use Rattle.seize_acts.specs.Acts.Answers.{then_on, stepped}
use Rattle.seize_acts.specs.Acts.Acts.{Act, Begin, Step, Operate, Links, became, rests}

-- values put nothing
abbrev pub plain : ℕ → Option ℕ
plain value = None

-- a block of value 5 has a list, at its first word
abbrev pub lists : ℕ → Option ℕ
lists value = if value == 5 then Some 0 else None

abbrev pub or_start : Option (World ℕ) → World ℕ
or_start None = at_start plain 1
or_start (Some w) = w

module _ (defers : ℕ → Option ℕ) (size : ℕ) where
  -- the world after these acts, with batches of this size
  abbrev pub all : List (Act ℕ) → World ℕ → Option (World ℕ)
  all [] w = Some w
  all (a ∷ acts) w = then_on (became defers size a w) (all acts)

  abbrev pub after : List (Act ℕ) → World ℕ → World ℕ
  after acts w = or_start (all acts w)

  -- the row of a caller goes on until it rests, for so many steps at most
  abbrev pub on : ℕ → ℕ → World ℕ → World ℕ
  on zero i w = w
  on (suc more) i w = if rests (w.row i) then w else on more i (or_start (became defers size (Step i None) w))

-- caller 0 registers slot 0, and enters it
abbrev pub enters : List (Act ℕ)
enters = Begin 0 (Register' false) (Some 0) ∷ Step 0 None ∷ Step 0 None ∷ Begin 0 (Enter' 0) None ∷ []

-- it makes block 1, and links it at the root
abbrev pub links : List (Act ℕ)
links = Operate 0 (Make 7 0) (Some 1) [] ∷ Operate 0 (Store (Root 0) (link_to 1)) None (Links 1 3 ∷ []) ∷ []

-- caller 0 takes a step by a plan, as a row that settles, or that defers

abbrev pub settle_by : (Settle → Plan ℕ (Settle × Settled ℕ)) → Row → World ℕ → Option (World ℕ)
settle_by plan (Settles c) w = then_on (stepped w.memory None (plan c)) (λ p. Some (settles_on w 0 c p.0 p.1))
settle_by plan _ w = None

abbrev pub defer_by : (Defer → Plan ℕ (Defer × Advance Unit)) → Row → World ℕ → Option (World ℕ)
defer_by plan (Defers s c) w = then_on (stepped w.memory None (plan c)) (λ p. Some (defers_on w 0 s p.0 p.1))
defer_by plan _ w = None
