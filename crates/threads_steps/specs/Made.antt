-- A seat on an errand as the memory of the machine that it has under way: what it may do next, what it has done, and what it shows.
use Rattle.std.specs.Prelude.{◌≡◌, ℕ, Bool, true, List, Option, None}
use Rattle.seize_words.specs.OneMemory.Op.{Op, Out, Rewrite}
use Rattle.seize_blocks.specs.Given.SeizeSeatsState.{Allows, Owns}
use Rattle.map_tables.specs.declared.node.Node.{Node}
use Rattle.threads_rule.specs.Views.Looks.{shown_in}
use Rattle.threads_rule.specs.Views.Rule.{Holds, KeepsFor}
use Rattle.threads_rule.specs.Views.Told.{told}
use Rattle.threads_rule.specs.declared.view.SeatWork.{SeatWork}
use Rattle.threads_rule.specs.declared.view.SeatWork.TheVariants.{Ends}
use Rattle.seize_callers.specs.Kept.{kept}
use Rattle.threads_kinds.specs.CallKinds.Answers.{IsAnswer}
use Rattle.threads_steps.specs.declared.within.Within.{Within}

module _ {K V S : Type 0} where
  -- what its last step has looked at, as far as its section is known to hold it
  abbrev pub shown_of : Within K V S → ℕ → Option (Node K V)
  shown_of c b = shown_in c.seat.now.view.held b

  -- At what its last step has looked while it ends a map.
  abbrev pub looked_in : SeatWork K V S → List (ℕ × Node K V) → ℕ → Option (Node K V)
  looked_in (Ends end) looks b = shown_in looks b
  looked_in work looks b = None

  -- of the memory, the seat and its errand nothing has changed but what the seat knows
  abbrev pub IsSameSeat : Within K V S → Within K V S → Type 0
  IsSameSeat c n = kept n.blocks n.seat.ghost_name n.seat.now.id n.seat.now.away ≡ kept c.blocks c.seat.ghost_name c.seat.now.id c.seat.now.away

module _ {K V S : Type 0} (same : K → K → Bool) (hash : S → K → ℕ) where
  -- where the operation replaces the value of a block, it has that block to itself
  abbrev pub HasAlone : Within K V S → Op (Node K V) → Type 0
  HasAlone c (Rewrite b x) = Owns (Holds same hash c.blocks.now.words.fixed) KeepsFor c.seat.now.id c.seat.now.view b
  HasAlone c _ = Unit {0}

  -- the rule allows it this operation
  pub record CanMake (c : Within K V S) (op : Op (Node K V)) : Type 0 where
    pub alone : HasAlone c op
    pub may : Allows (Holds same hash c.blocks.now.words.fixed) KeepsFor c.seat.now.id c.seat.now.view op (told same hash c.seat.now.view op)

  -- it has made it, and knows what it told
  pub record HasMade (c : Within K V S) (op : Op (Node K V)) (out : Out (Node K V)) (n : Within K V S) : Type 0 where
    pub seat : IsSameSeat c n
    pub made : n.made ≡ true
    pub fits : IsAnswer op out
    pub told : told same hash c.seat.now.view op out n.seat.now.view
