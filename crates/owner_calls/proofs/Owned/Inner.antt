-- Steps of a machine within a call are steps of the call.
use Rattle.std.specs.Prelude.{◌≡◌, ℕ, Bool, true, false}
use Rattle.std.proofs.Common.{refl}
use Rattle.std.proofs.lemmas.Bool.{true≢false, false≢true}
use Rattle.seize_words.specs.OneMemory.Mem.{Mem, Can, Took, value_at}
use Rattle.seize_words.specs.OneMemory.Plan.{Plan, May, Steps}
use Rattle.seize_words.proofs.OneMemory.Plans.{may_as}
use Rattle.seize.proofs.StepsInto.{steps_into}
use Rattle.seize.specs.Settle.{settle_plan}
use Rattle.seize.specs.declared.advance.Advance.{Advance}
use Rattle.seize.specs.declared.advance.Advance.TheVariants as progress
use Rattle.seize.specs.declared.rows.settle.Settle.{Settle}
use Rattle.seize.specs.declared.rows.settle.Settled.{Settled}
use Rattle.seize.specs.declared.rows.settle.Settled.TheVariants as settling
use Rattle.map_tables.specs.Nodes.{deferred_word}
use Rattle.map_tables.specs.declared.node.Node.{Node}
use Rattle.map_tables.specs.declared.table.Table.{Table}
use Rattle.map_straight.specs.Given.ResizeCopier.{copier_plan}
use Rattle.map_straight.specs.Given.ResizeDispose.{dispose_plan, settled}
use Rattle.map_straight.specs.Given.ResizeDeclared.copier.Copier.{Copier}
use Rattle.map_straight.specs.Given.ResizeDeclared.dispose.Dispose.{Dispose}
use Rattle.map_straight.specs.Given.ResizeDeclared.dispose.Disposing.TheVariants as disposal
use Rattle.map_straight.specs.Given.ResizeDeclared.yielding.Yielding.{Yielding}
use Rattle.map_straight.specs.Given.ResizeDeclared.yielding.Yielding.TheVariants as outcome
use Rattle.papaya_raw.specs.Call.{call_plan, disposed, helped}
use Rattle.papaya_raw.specs.declared.machines.answer.KeyAnswer.{KeyAnswer}
use Rattle.owner_whole.specs.Strides.Ending.{Ends}
use Rattle.owner_calls.specs.Owned.Inside.{answered, has_ended, helping, retiring, takes_more}
use Rattle.owner_calls.specs.Owned.Machines.{on_key_after, on_key_plan}
use Rattle.owner_calls.specs.declared.machines.OnKey.{OnKey}
use Rattle.owner_calls.specs.declared.machines.Stop.{Stop}
use Rattle.owner_calls.specs.declared.machines.Stop.TheVariants as stop
use Rattle.owner_whole.proofs.Strides.Runs.Steps.{may_step}

module _ {K V Q S : Type 0} (asks : Q → K → Bool) (same : K → K → Bool) (hashes : S → K → ℕ) (m : Mem (Node K V)) (u : OnKey K V Q S) where
  abbrev plan_of : OnKey K V Q S → Plan (Node K V) (OnKey K V Q S × Advance Stop)
  plan_of = on_key_plan asks same hashes

  -- the retirement of the pair that was there
  module _ (answer : KeyAnswer) (dispose : Dispose) (settle : Settle) where
    abbrev here : OnKey K V Q S
    here = retiring u answer dispose settle

    abbrev inner : Dispose
    inner = record dispose { stands = disposal.Settles settle }

    pub settle_may : Ends plan_of here m → May Can Took value_at m (settle_plan (deferred_word {K = K} {V = V}) settle)
    settle_may h =
        may_as (settled inner) Can Took value_at m (settle_plan deferred_word settle)
        (may_as (disposed here.call answer) Can Took value_at m (dispose_plan inner)
        (may_as (on_key_after here) Can Took value_at m (call_plan asks same (hashes u.hasher.now) here.call) (may_step plan_of here m h)))

    module _ (m2 : Mem (Node K V)) (settle2 : Settle) where
      outer : (told : Settled (Node K V)) (into : OnKey K V Q S × Advance Stop) → into ≡ on_key_after here (disposed here.call answer (settled inner (settle2, told)))
          → Steps Took value_at m (settle_plan deferred_word settle) m2 (settle2, told) → Steps Took value_at m (plan_of here) m2 into
      outer told into is s =
          steps_into (on_key_after here) Can Took value_at m m2 (call_plan asks same (hashes u.hasher.now) here.call) (disposed here.call answer (settled inner (settle2, told))) into is
          (steps_into (disposed here.call answer) Can Took value_at m m2 (dispose_plan inner) (settled inner (settle2, told)) (disposed here.call answer (settled inner (settle2, told))) refl
          (steps_into (settled inner) Can Took value_at m m2 (settle_plan deferred_word settle) (settle2, told) (settled inner (settle2, told)) refl s))

      -- it goes on
      pub settles_on : (told : Settled (Node K V)) → has_ended told ≡ false → Steps Took value_at m (settle_plan deferred_word settle) m2 (settle2, told)
          → Steps Took value_at m (plan_of here) m2 (retiring u answer dispose settle2, progress.Goes)
      settles_on settling.Goes on s = outer settling.Goes _ refl s
      settles_on settling.Waits on s = outer settling.Waits _ refl s
      settles_on (settling.Gave value) on s = outer (settling.Gave value) _ refl s
      settles_on settling.Done on s = absurd (true≢false on)

      -- or has ended, and the call with it
      pub settles_over : (told : Settled (Node K V)) → has_ended told ≡ true → Steps Took value_at m (settle_plan deferred_word settle) m2 (settle2, told)
          → Steps Took value_at m (plan_of here) m2 (answered u answer, progress.Done (stop.Answered answer))
      settles_over settling.Done over s = outer settling.Done _ refl s
      settles_over settling.Goes over s = absurd (false≢true over)
      settles_over settling.Waits over s = absurd (false≢true over)
      settles_over (settling.Gave value) over s = absurd (false≢true over)

  -- the help with a resize
  module _ (goal : Table) (copier : Copier) where
    abbrev at_help : OnKey K V Q S
    at_help = helping u goal copier

    pub copier_may : Ends plan_of at_help m → May Can Took value_at m (copier_plan {K = K} {V = V} (hashes u.hasher.now) copier)
    copier_may h =
        may_as (helped at_help.call goal) Can Took value_at m (copier_plan (hashes u.hasher.now) copier)
        (may_as (on_key_after at_help) Can Took value_at m (call_plan asks same (hashes u.hasher.now) at_help.call) (may_step plan_of at_help m h))

    module _ (m2 : Mem (Node K V)) (copier2 : Copier) where
      pub helps_into : (told : Yielding (Node K V) Table) (into : OnKey K V Q S × Advance Stop) → into ≡ on_key_after at_help (helped at_help.call goal (copier2, told))
          → Steps Took value_at m (copier_plan (hashes u.hasher.now) copier) m2 (copier2, told) → Steps Took value_at m (plan_of at_help) m2 into
      helps_into told into is s =
          steps_into (on_key_after at_help) Can Took value_at m m2 (call_plan asks same (hashes u.hasher.now) at_help.call) (helped at_help.call goal (copier2, told)) into is
          (steps_into (helped at_help.call goal) Can Took value_at m m2 (copier_plan (hashes u.hasher.now) copier) (copier2, told) (helped at_help.call goal (copier2, told)) refl s)

      pub helps_on : (told : Yielding (Node K V) Table) → takes_more told ≡ true → Steps Took value_at m (copier_plan (hashes u.hasher.now) copier) m2 (copier2, told)
          → Steps Took value_at m (plan_of at_help) m2 (helping u goal copier2, progress.Goes)
      helps_on outcome.Goes on s = helps_into outcome.Goes _ refl s
      helps_on outcome.Waits on s = helps_into outcome.Waits _ refl s
      helps_on (outcome.Gave value) on s = helps_into (outcome.Gave value) _ refl s
      helps_on (outcome.Done table) on s = absurd (false≢true on)
      helps_on (outcome.Refused fault) on s = absurd (false≢true on)
