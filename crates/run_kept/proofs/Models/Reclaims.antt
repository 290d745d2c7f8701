-- What a caller reclaims that reclaims all, alone, as it has done with slots.
use Rattle.std.specs.Prelude.{Option}
use Rattle.std.proofs.Common.{◌≡◌, ◌<◌, ◌^◌, ◌+◌, ℕ, Bool, List, [], ◌++◌, refl, ap, sym, subst, ◌∙◌, arith, inl, inr}
use Rattle.std.proofs.lemmas.Bool.{cases_lt}
use Rattle.std.proofs.lemmas.List.{append-nil}
use Rattle.run_schedules.specs.Given.SeizeWordsDeclared.at.At.TheVariants as name
use Rattle.seize.specs.Sequence.{taken_in}
use Rattle.seize.specs.declared.states.TheConstants.{BATCH, LAST_SLOT}
use Rattle.seize.specs.WaitingSets.{Change, Sets, After, all_reclaimed, quietly, at_start as sets_at_start}
use Rattle.seize.specs.World.{World, Vacant, at_start}
use Rattle.run_executor.proofs.Given.SeizeMemoryWords.Named.{words_of}
use Rattle.run_executor.proofs.Given.SeizeRuleWorld.Rested.{start_rested}
use Rattle.run_executor.specs.Given.SeizeSetsReclaims.{Reclaims, NothingWaits}
use Rattle.run_executor.proofs.Given.SeizeSetsReclaims.Ends.{Left, all_left_so, none_closed}
use Rattle.run_executor.proofs.Given.SeizeSetsReclaims.NeverTaken.{turns_past}
use Rattle.run_executor.proofs.Given.SeizeSetsReclaims.Rounds.{reclaimed_quiet}
use Rattle.run_executor.proofs.Given.SeizeSetsReclaims.Sets.{active_is, is_inside, open_none}
use Rattle.run_executor.proofs.Given.SeizeSetsTurns.All.{turns_shown, start_shown}
use Rattle.run_executor.proofs.Given.SeizeSetsTurns.Append.{turns_append, changed_append}
use Rattle.run_executor.proofs.Given.SeizeSetsTurns.Begins.{Shown}
use Rattle.run_kept.specs.Models.Reclaims.{HasReclaimed}
use Rattle.run_kept.specs.Models.Turns.{sets_of, CameByTurns}

module _ {T : Type 0} (defers : T → Option ℕ) (left_over : T → Bool) (batch_size roots : ℕ) (small : batch_size < 2 ^ 64) (v : World T) (before : List Change)
    (came : CameByTurns defers batch_size roots v before) (i : ℕ) where
  pub has_reclaimed : (w : World T) → Reclaims defers batch_size i v w → HasReclaimed defers batch_size roots v before w
  has_reclaimed w reclaims =
      let n = LAST_SLOT + 1 in
      let shown = turns_shown defers n batch_size refl small came.0 (at_start defers roots) v before sets_at_start (start_shown defers n batch_size refl small roots) came.1 in
      let past = turns_past defers n batch_size refl small came.0 (at_start defers roots) v before sets_at_start (start_rested defers n batch_size refl roots) came.1 (λ s l. refl) in
      let left : Left defers n batch_size refl small i v w (sets_of batch_size before) = all_left_so defers n batch_size refl small i v w (sets_of batch_size before) shown past reclaims in
      let sets : sets_of batch_size (before ++ left.came.made) ≡ (all_reclaimed batch_size (sets_of batch_size before)).sets =
      ap (λ (a : After). a.sets) (changed_append batch_size before left.came.made sets_at_start) ∙ ap (λ (a : After). a.sets) left.came.comes in
      record {
        after = before ++ left.came.made;
        came = (came.0 ++ left.came.turns, turns_append defers batch_size came.0 left.came.turns (at_start defers roots) v w before left.came.made came.1 left.came.took);
        taken = left.came.taken;
        sets = sets;
        waits = subst NothingWaits (sym sets) left.waits;
      }

  -- Where no slot is in use, and none has a batch, nothing waits, and so it has done with slots.
  module _ (vacant : (s : ℕ) → v.uses s ≡ Vacant) (none : (s : ℕ) → s < LAST_SLOT + 1 → words_of v.memory (name.Slot s BATCH) ≡ 0) where
    abbrev sets : Sets
    sets = sets_of batch_size before

    shown : Shown defers (LAST_SLOT + 1) batch_size v sets
    shown =
        turns_shown defers (LAST_SLOT + 1) batch_size refl small came.0 (at_start defers roots) v before sets_at_start (start_shown defers (LAST_SLOT + 1) batch_size refl small roots) came.1

    none_open : (s : ℕ) → sets.open_batch s ≡ []
    none_open s = elim (cases_lt s (LAST_SLOT + 1)) as (λ _. sets.open_batch s ≡ []) [
      | inl l ↦ open_none defers (LAST_SLOT + 1) batch_size refl small i s v sets shown l (none s l)
      | inr l ↦
          turns_past defers (LAST_SLOT + 1) batch_size refl small came.0 (at_start defers roots) v before sets_at_start (start_rested defers (LAST_SLOT + 1) batch_size refl roots) came.1 (λ t le. refl) s l
    ]

    quiet : all_reclaimed batch_size sets ≡ quietly sets
    quiet =
        reclaimed_quiet batch_size sets (sym (active_is defers (LAST_SLOT + 1) batch_size refl small i v sets shown 0 (omega arith) (λ t l. ap is_inside (vacant t)))) none_open

    pub quiet_reclaimed : HasReclaimed defers batch_size roots v before v
    quiet_reclaimed = record {
      after = before;
      came = came;
      taken = sym (append-nil (taken_in v.log)) ∙ ap (λ (a : After). taken_in v.log ++ a.reclaimed) (sym quiet);
      sets = sym (ap (λ (a : After). a.sets) quiet);
      waits = (none_open, none_closed defers (LAST_SLOT + 1) batch_size refl v sets shown vacant);
    }
