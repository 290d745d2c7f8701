-- What a step that may be taken looks at is there: its memory is one of which all is kept.
use Rattle.std.specs.Prelude.{◌≡◌, ℕ, suc, Bool, true, List, [], ◌∷◌, Option, IsSome, ◌⊎◌}
use Rattle.std.proofs.Common.{inl, inr, refl, ap, sym, subst}
use Rattle.run_shows.specs.Given.SeizeWordsDeclared.at.At.{At}
use Rattle.run_shows.specs.Given.SeizeWordsDeclared.block.Block.{Block}
use Rattle.run_shows.specs.Given.SeizeWordsMem.{Mem, Can, Took, value_at, word_at}
use Rattle.run_shows.specs.Given.SeizeWordsOp.{Op, Load, Store, Swap, Add, Or, Exchange, Make, Take, Rewrite, Room}
use Rattle.run_shows.specs.Given.SeizeWordsPlan.{Plan, May}
use Rattle.run_shows.specs.Given.SeizeDefer.{defer_plan}
use Rattle.run_shows.specs.Given.SeizeEnter.{enter_plan, unregister_plan}
use Rattle.run_shows.specs.Given.SeizeLeave.{leave_plan}
use Rattle.run_shows.specs.Given.SeizeRegister.{register_plan}
use Rattle.run_shows.specs.Given.SeizeSettle.{settle_plan}
use Rattle.run_shows.specs.Given.SeizeWorld.{Row, Rests, Registers, Enters, Settles, Leaves, Defers, Frees, MayStep}
use Rattle.seize_acts.proofs.Given.SeizeRuleWorld.Kept.{rows_may}
use Rattle.run_shows.specs.Given.TablesNodes.{deferred_word}
use Rattle.run_shows.specs.Given.TablesDeclared.node.Node.{Node}
use Rattle.owner_facts.proofs.Given.FinishesAmong.Machines.{machines_stand_among}
use Rattle.owner_facts.proofs.Given.FinishesAmong.Makings.{makings_stand_among}
use Rattle.owner_facts.proofs.Given.FinishesAmong.Own.Steps.{endings_stand}
use Rattle.many_acts.specs.Looks.Blocks.{IsOn, MayMake}
use Rattle.many_acts.specs.Looks.There.{BlocksAreThere, WordsAreThere, LooksThere, RowLooksThere, StepsLookAtWhatIsThere}
use Rattle.many_acts.proofs.Looks.Restricted.{kept_from, restricted, looks_kept}

abbrev all_of : ℕ → Bool
all_of b = true

module _ {T : Type 0} where
  all_from : (n : ℕ) (blocks : List (Option (Block T))) → kept_from all_of n blocks ≡ blocks
  all_from n [] = refl
  all_from n (x ∷ blocks) = ap (λ (rest : List (Option (Block T))). x ∷ rest) (all_from (suc n) blocks)

  whole : (m : Mem T) → restricted all_of m ≡ m
  whole m = ap (λ (blocks : List (Option (Block T))). record { roots = m.roots; used = m.used; slots = m.slots; blocks = blocks; choices = m.choices }) (all_from 1 m.blocks)

  on_there : (m : Mem T) (op : Op T) (at : At) → Can m op → IsOn at op → IsSome (word_at m at)
  on_there m (Load word) at can on = subst (λ (x : At). IsSome (word_at m x)) (sym on) can
  on_there m (Store word new) at can on = subst (λ (x : At). IsSome (word_at m x)) (sym on) can
  on_there m (Swap word new) at can on = subst (λ (x : At). IsSome (word_at m x)) (sym on) can
  on_there m (Add word by) at can on = subst (λ (x : At). IsSome (word_at m x)) (sym on) can
  on_there m (Or word bits) at can on = subst (λ (x : At). IsSome (word_at m x)) (sym on) can
  on_there m (Exchange word old new) at can on = subst (λ (x : At). IsSome (word_at m x)) (sym on) can
  on_there m (Take block) at can on = absurd on
  on_there m (Rewrite block value) at can on = absurd on
  on_there m (Make value words) at can on = absurd on
  on_there m (Room bucket) at can on = absurd on

module _ (T R : Type 0) where
  pub blocks_there : BlocksAreThere T R
  blocks_there m plan may b looks =
      elim (looks_kept all_of m plan (subst (λ (x : Mem T). May Can Took value_at x plan) (sym (whole m)) may) b looks) as (λ _. IsSome (value_at m b) ⊎ MayMake b m plan) [
        | inl is ↦ inl is.1
        | inr made ↦ inr made
      ]

  pub words_there : WordsAreThere T R
  words_there m op rest may at on = on_there m op at may.0 on

looks_there : {T R : Type 0} (m : Mem T) (plan : Plan T R) → May Can Took value_at m plan → (b : ℕ) → LooksThere b m plan
looks_there {T} {R} = blocks_there T R

row_there : {K V : Type 0} (m : Mem (Node K V)) (b : ℕ) (row : Row) → MayStep deferred_word row m → RowLooksThere b m row
row_there m b Rests may = tt
row_there m b (Registers c) may = looks_there m (register_plan c) may b
row_there m b (Enters c) may = looks_there m (enter_plan c) may b
row_there m b (Settles c) may = looks_there m (settle_plan deferred_word c) may b
row_there m b (Leaves c) may = looks_there m (leave_plan deferred_word c) may b
row_there m b (Defers s c) may = looks_there m (defer_plan c) may b
row_there m b (Frees c) may = looks_there m (unregister_plan c) may b

module _ {K Q : Type 0} (V : Type 0) (same : K → K → Bool) (asks : Q → K → Bool) (batch_size roots : ℕ) (slot : ℕ → ℕ) where
  pub steps_there : StepsLookAtWhatIsThere V same asks batch_size roots slot
  steps_there w maps calls makers enders all i b = (
    λ m s u here has. blocks_there _ _ w.memory _ (machines_stand_among V same asks batch_size roots slot w maps calls makers enders all m s here i u has).0 b,
    λ making is. blocks_there _ _ w.memory _ (makings_stand_among V same asks batch_size roots slot w maps calls makers enders all i making is).0 b,
    λ ending is. blocks_there _ _ w.memory _ (endings_stand V same asks batch_size roots slot w maps calls makers enders all i ending is).0 b,
    row_there w.memory b (w.row i) (let came = all.makings.standing.came in rows_may deferred_word batch_size came.0 came.1 w came.2 i),
  )
