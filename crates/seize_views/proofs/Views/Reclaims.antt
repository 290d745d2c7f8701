-- A block that a settling is about to reclaim is there, and is the collector's.
use Rattle.std.specs.Prelude.{◌+◌, Option, Some, None, IsSome, length}
use Rattle.std.proofs.Common.{◌≡◌, ℕ, List, ◌∷◌, refl, sym, subst, ap, ◌∙◌}
use Rattle.seize_words.specs.OneMemory.Mem.{Mem, Can, Took, block_of, value_in, word_in, value_at}
use Rattle.seize_words.specs.OneMemory.Word.{block_in}
use Rattle.seize_words.specs.OneMemory.Plan.{May}
use Rattle.seize_words.specs.declared.block.Block.{Block}
use Rattle.seize_words.proofs.OneMemory.Plans.{may_as}
use Rattle.seize.specs.declared.rows.settle.Settle.{Settle}
use Rattle.seize.specs.declared.rows.settle.Settling.{Settling}
use Rattle.seize.specs.declared.rows.settle.Settling.TheVariants as at
use Rattle.seize.specs.Settle.{settle_plan, plan_at}
use Rattle.seize.specs.Leave.{settled}
use Rattle.seize.specs.declared.states.TheConstants.{LAST_SLOT}
use Rattle.seize.specs.World.{World, Row, Handed, MayStep}
use Rattle.seize_acts.proofs.Given.SeizeAloneHistories.Reached.{Reached}
use Rattle.seize_acts.proofs.Given.SeizeMovesState.Ghost.{State}
use Rattle.seize_acts.proofs.Given.SeizeMovesMoves.Takes.{first_doomed}
use Rattle.seize_acts.proofs.Given.SeizeRulePoints.Aside.{is_handed}
use Rattle.seize_acts.proofs.Given.SeizeRulePoints.Known.{Fits, FitsAt, Backs, bare}
use Rattle.seize_acts.proofs.Given.SeizeRuleRows.Known.{FitsRow}
use Rattle.seize_acts.proofs.Given.SeizeMemoryWords.Named.{link-block}
use Rattle.seize_acts.proofs.Given.SeizeMemoryWords.Chains.{Chain}
use Rattle.seize_acts.proofs.Given.SeizeMemoryWords.Shows.{Extra}
use Rattle.seize_acts.proofs.Given.SeizeMemoryWords.View.{View, view}
use Rattle.seize_views.specs.Views.Rows.{counting, settles_for, IsReclaiming}
use Rattle.seize_views.specs.declared.view.Why.{Why}
use Rattle.seize_views.specs.declared.view.Why.TheVariants.{Retiring, Ending}
use Rattle.seize_acts.proofs.Given.SeizeAloneHistories.Waiting.{in_hand}

-- a block with a word is there
some_value : {T : Type 0} (x : Option (Block T)) (word : ℕ) → IsSome (word_in x word) → IsSome (value_in x)
some_value None word is = is
some_value (Some x) word is = refl

-- what its settling relies on
pub fits_settle : (n i : ℕ) (f : View) (m : State) (x : Extra) (k : ℕ) (c : Settle) (why : Why) → FitsRow n i f m x k (settles_for why c) → Fits n i f m x c
fits_settle n i f m x k c (Retiring way) is = is
fits_settle n i f m x k c (Ending size way) is = is.settles

module _ {T : Type 0} (defers : T → Option ℕ) (c : Settle) where
  -- whatever it is for, the step of a settling may be taken
  pub may_settle : (why : Why) (m : Mem T) → MayStep defers (settles_for why c) m → May Can Took value_at m (settle_plan defers c)
  may_settle (Retiring way) m may = may
  may_settle (Ending size way) m may = may_as (settled (counting size way c)) Can Took value_at m (settle_plan defers c) may

  at_point : (p : Settling) (m : Mem T) → May Can Took value_at m (plan_at defers c p) → IsReclaiming p → IsSome (value_at m (block_in c.reclaiming))
  at_point (at.Takes next) m may is = may.0
  at_point (at.Drains next word) m may is = some_value (block_of m (block_in c.reclaiming)) word may.0
  at_point _ m may is = absurd is

  pub reclaiming_there : (why : Why) (m : Mem T) → MayStep defers (settles_for why c) m → IsReclaiming c.stands → IsSome (value_at m (block_in c.reclaiming))
  reclaiming_there why m may is = at_point c.stands m (may_settle why m may) is

module _ {T : Type 0} (defers : T → Option ℕ) (size : ℕ) (w : World T) (r : Reached defers size w) (i : ℕ) (c : Settle) (why : Why) (row : w.row i ≡ settles_for why c) where
  abbrev n : ℕ
  n = LAST_SLOT + 1

  abbrev f : View
  f = view defers w.memory

  fits : Fits n i f r.good.state r.good.extra c
  fits =
      fits_settle n i f r.good.state r.good.extra (length w.memory.slots) c why
      (subst (λ (x : Row). FitsRow n i f r.good.state r.good.extra (length w.memory.slots) x) row (r.good.rows i))

  -- the first one of those that it has left to take
  first_handed : (b : ℕ) (bs : List ℕ) (next : ℕ) → Backs n i r.good.state r.good.extra (bare c) b bs next → w.hand (block_in c.reclaiming) ≡ Handed
  first_handed b bs next k =
      let handed : w.hand b ≡ Handed =
      in_hand (w.hand b) (r.good.state.life b) (r.good.hands b) (ap is_handed (first_doomed n i r.good.state b bs r.good.inv k.left)) in
      let chain = subst (λ (l : List ℕ). Chain 0 f.nexts (r.good.extra.lefts i) l) k.left (r.good.shows.lists.lefted i) in
      let word : block_in c.reclaiming ≡ b = ap block_in (sym k.common.lefts ∙ chain.1) ∙ link-block b in ap w.hand word ∙ handed

  handed_at : (p : Settling) → FitsAt n i f r.good.state r.good.extra (bare c) p → IsReclaiming p → w.hand (block_in c.reclaiming) ≡ Handed
  handed_at (at.Takes next) k is = first_handed k.b k.bs next k.backs
  handed_at (at.Drains next word) k is = first_handed k.b k.bs next k.backs
  handed_at _ k is = absurd is

  pub reclaiming_handed : IsReclaiming c.stands → w.hand (block_in c.reclaiming) ≡ Handed
  reclaiming_handed is = handed_at c.stands fits is
