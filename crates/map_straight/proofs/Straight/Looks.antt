-- The steps of a lookup, over any memory.
use Rattle.std.specs.Prelude.{◌≡◌, ◌≢◌, ℕ, Bool, IsSome, Option, Some, None}
use Rattle.std.proofs.Common.{refl, sym, subst}
use Rattle.std.proofs.lemmas.Bool.{ne_eqb, eq-eqb}
use Rattle.seize_words.specs.OneMemory.Op.{Op, Out, Load, Found}
use Rattle.seize_words.specs.OneMemory.Word.{block_in}
use Rattle.seize_words.specs.declared.at.At.TheVariants.{Root}
use Rattle.seize.specs.declared.advance.Advance.TheVariants as progress
use Rattle.map_tables.specs.Nodes.{table_seen}
use Rattle.map_tables.specs.Trials.{first_trial}
use Rattle.map_tables.specs.declared.node.Node.{Node}
use Rattle.map_tables.specs.declared.resize_mode.ResizeMode.{ResizeMode}
use Rattle.map_tables.specs.declared.trial.Trial.{Trial}
use Rattle.map_machines.specs.Lookup.{looking, lookup_plan}
use Rattle.map_machines.specs.declared.lookup.Looking.TheVariants as at
use Rattle.map_straight.specs.Straight.Going.{LookGoes, MayLook}
use Rattle.map_straight.specs.Straight.Looking.{looks}
use Rattle.seize_straight.specs.Runs.{EndsTelling}
use Rattle.seize_straight.proofs.Running.{Led, begins, next, steps_to, tells_at}

module _ {K V M : Type 0} (keys : K → Bool) {can : M → Op (Node K V) → Type 0} {took : M → Op (Node K V) → Out (Node K V) → M → Type 0} {shown : M → ℕ → Option (Node K V)}
    (root : ℕ) (mode : ResizeMode) (hash : ℕ) {m n : M} {link : ℕ} (h : MayLook keys took shown can (looking root mode hash) m)
    (loads : took m (Load (Root root)) (Found link) n) where
  -- the root names no table
  pub has_none : link ≡ 0 → EndsTelling (LookGoes {A = Option ℕ}) took shown (lookup_plan keys) (looking root mode hash) m n (progress.Done None)
  has_none empty = tells_at (begins h) (progress.Done None) (λ x. x) (looks root mode hash (at.Over None)) n (Found link, loads, rw (eq-eqb link 0 empty) refl)

  -- or one, whose tries begin
  module _ (some : link ≢ 0) where
    pub sees_table : IsSome (shown n (block_in link))
    sees_table = let see = (next (begins h)).1 (Found link) n loads in let s = rw (ne_eqb link 0 some) at see in s.0

    pub enters : (value : Node K V) → shown n (block_in link) ≡ Some value → (first : Trial) → first ≡ first_trial (table_seen link value) hash
        → Led (LookGoes {A = Option ℕ}) took shown (lookup_plan keys) can (looking root mode hash) m (looks root mode hash (at.Probes first)) n
    enters value shows first is =
        subst (λ (t : Trial). Led (LookGoes {A = Option ℕ}) took shown (lookup_plan keys) can (looking root mode hash) m (looks root mode hash (at.Probes t)) n) (sym is)
        (steps_to (begins h) progress.Goes tt (looks root mode hash (at.Probes (first_trial (table_seen link value) hash))) n
        (Found link, loads, rw (ne_eqb link 0 some) (value, shows, refl)))
