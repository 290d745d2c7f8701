-- Where no row is under way: what the words of slots say, and what is so where none has a batch.
use Rattle.std.specs.Prelude.{Option, Some, None, IsSome}
use Rattle.std.proofs.Common.{◌≡◌, ℕ, zero, suc, ◌+◌, ◌<◌, ◌≤◌, ◌^◌, true, false, List, [], ◌∷◌, length, inl, inr, refl, arith, ap, sym, subst, ◌∙◌}
use Rattle.std.proofs.lemmas.Bool.{cases_lt}
use Rattle.seize_words.specs.declared.at.At.TheVariants as name
use Rattle.seize_words.specs.OneMemory.Mem.{word_at}
use Rattle.seize.specs.declared.states.TheConstants.{HEAD, BATCH, LAST_SLOT}
use Rattle.seize.specs.Law.{is_retired}
use Rattle.seize.specs.Sequence.{RunsOn, Calls}
use Rattle.seize.specs.WaitingSets.{Sets}
use Rattle.seize.specs.World.{World, Use, Vacant, Outside, Request, Event, Begin, Step, Runs, IsOutside, at_start}
use Rattle.seize_model.proofs.Given.SeizeMovesState.Ghost.{is_never}
use Rattle.seize_model.proofs.Given.SeizeRuleRows.Short.{tries_on}
use Rattle.seize_model.proofs.Given.SeizeMemoryWords.Named.{words_of, word_found}
use Rattle.seize_model.proofs.Given.SeizeMemoryWords.Room.{slot_there}
use Rattle.seize_model.proofs.Given.SeizeRuleWorld.Rested.{Rested}
use Rattle.seize_model.proofs.Given.SeizeRuleWorld.Start.{start_good}
use Rattle.seize_model.proofs.Ends.Batches.Rows.{HeldByRows, runs_held, start_held}
use Rattle.seize_model.proofs.Sets.Reclaims.Ends.{none_retired}
use Rattle.seize_model.proofs.Sets.Reclaims.Sets.{open_none}
use Rattle.seize_model.proofs.Sets.Turns.Begins.{Shown}
use Rattle.seize_model.proofs.Sets.Turns.Heads.{has_words, has_word, idle_word}
use Rattle.seize_acts.specs.Acts.Reclaimed.{HasNothingLeft}
use Rattle.seize_acts.proofs.Acts.Lost.{behind_others}
use Rattle.seize_acts.proofs.Acts.Reclaimed.Flushed.{batch_zero}
use Rattle.seize_acts.proofs.Acts.Reclaimed.Quiet.{quiet_sets, quiet_shown, opened_below, opened_past}
use Rattle.seize_acts.proofs.Quiet.Slots.Came.{came_reached}
use Rattle.seize_acts.specs.Quiet.Slots.{Came, IsForSlots, AreItsRows, AllRest, HasNoBatch, IsQuiescent}
use Rattle.seize_words.proofs.General.{no_length}

pub idle_outside : (u : Use) → u ≡ Outside 0 → IsOutside u
idle_outside u e = subst (λ (x : Use). IsOutside x) (sym e) tt

pub vacant_outside : (u : Use) → u ≡ Vacant → IsOutside u
vacant_outside u e = subst (λ (x : Use). IsOutside x) (sym e) tt

-- of a slot that is idle below a number, and vacant from there on
pub outside_at : (slots : ℕ) (uses : ℕ → Use) → ((t : ℕ) → t < slots → uses t ≡ Outside 0) → ((t : ℕ) → slots ≤ t → uses t ≡ Vacant) → (t : ℕ) → IsOutside (uses t)
outside_at slots uses idle vacant t = elim (cases_lt t slots) as (λ _. IsOutside (uses t)) [
  | inl l ↦ idle_outside (uses t) (idle t l)
  | inr l ↦ vacant_outside (uses t) (vacant t l)
]

module _ {T : Type 0} (defers : T → Option ℕ) (size : ℕ) where
  runs_run : (i steps : ℕ) (w n : World T) → RunsOn defers steps i w n
      → (events : List (Event T)) × AreItsRows i events × Runs defers size events w n
  runs_run i zero w n h = ([], tt, h.1)
  runs_run i (suc steps) w n h = let k = runs_run i steps h.0 n h.2 in (Step i ∷ k.0, (refl, k.1), (h.0, h.1, k.2))

  -- and a whole row
  pub calls_run : (i : ℕ) (request : Request) → IsForSlots request → (w n : World T) → Calls defers size i request w n
      → (events : List (Event T)) × AreItsRows i events × Runs defers size events w n
  calls_run i request is w n h = let k = runs_run i h.1 h.0 n h.4 in (Begin i request ∷ k.0, (refl, is, k.1), (h.0, (h.2, h.3), k.2))

  -- where no row is under way

  pub rested_by : (w : World T) → Came defers size w → AllRest w → Rested defers (LAST_SLOT + 1) size w
  rested_by w came rests = record { good = (came_reached defers size w came).good; rests = rests }

  pub held_by : (w : World T) → Came defers size w → HeldByRows w
  held_by w (roots, events, runs) =
      runs_held defers size events (at_start defers roots) w (start_good defers (LAST_SLOT + 1) size roots) (λ j. tt) runs (start_held defers size roots)

  module _ (w : World T) (came : Came defers size w) (rests : AllRest w) where
    abbrev rested : Rested defers (LAST_SLOT + 1) size w
    rested = rested_by w came rests

    taken_once : (t : ℕ) → w.uses t ≡ Outside 0 → t < LAST_SLOT + 1 → words_of w.memory (name.Slot t HEAD) ≡ 0 → ⊥
    taken_once t out lt none =
        let k = word_found w.memory (name.Slot t HEAD) 2 (idle_word defers (LAST_SLOT + 1) size refl w rested t out lt) in
        absurd (cc (k, none))

    -- a slot that is registered has its words, and so has the one behind it
    pub word_here : (t field : ℕ) → w.uses t ≡ Outside 0 → t < LAST_SLOT + 1 → field < 2 → IsSome (word_at w.memory (name.Slot t field))
    word_here t field out lt f =
        slot_there w.memory t field rested.good.room.bucketed (has_word defers (LAST_SLOT + 1) size refl w rested t (taken_once t out lt) lt) f

    pub word_behind : (t field : ℕ) → w.uses t ≡ Outside 0 → t + 1 < LAST_SLOT + 1 → field < 2 → IsSome (word_at w.memory (name.Slot (t + 1) field))
    word_behind t field out lt f =
        slot_there w.memory (t + 1) field rested.good.room.bucketed
        (has_words defers (LAST_SLOT + 1) size refl w rested t (taken_once t out (omega (arith, lt))) lt) f

    -- where no slot is active, batches are those that the words say
    module _ (outside : (t : ℕ) → IsOutside (w.uses t)) where
      abbrev pub sets_now : Sets
      sets_now = quiet_sets (LAST_SLOT + 1) (length w.memory.blocks + 1) rested.good.state

      pub shown_now : Shown defers (LAST_SLOT + 1) size w sets_now
      shown_now = quiet_shown defers size w rested outside

      pub no_word : (t : ℕ) → HasNoBatch w t → words_of w.memory (name.Slot t BATCH) ≡ 0
      no_word t none = by (word_at w.memory (name.Slot t BATCH)) refl
        where
          by : (o : Option ℕ) → word_at w.memory (name.Slot t BATCH) ≡ o → words_of w.memory (name.Slot t BATCH) ≡ 0
          by None e = grind (arith, e)
          by (Some a) e = word_found w.memory (name.Slot t BATCH) a e ∙ none a e

      pub open_none_now : size < 2 ^ 64 → (t : ℕ) → t ≤ LAST_SLOT → HasNoBatch w t → sets_now.open_batch t ≡ []
      open_none_now word t le none = open_none defers (LAST_SLOT + 1) size refl word 0 t w sets_now shown_now (omega (arith, le)) (no_word t none)

      -- a slot that was never taken has none
      pub never_none : (t : ℕ) → t ≤ LAST_SLOT → is_never (rested.good.state.head t) ≡ true → HasNoBatch w t
      never_none t le never x is =
          batch_zero defers size w sets_now shown_now (held_by w came) t (omega (arith, le))
          (opened_below t (LAST_SLOT + 1) (rested.good.state.blocks (rested.good.state.open_batch t)) (omega (arith, le))
          ∙ no_length (rested.good.state.blocks (rested.good.state.open_batch t)) ((rested.good.short t (omega (arith, le)) (λ j. ap (λ r. tries_on r t) (rests j))).untaken never)) x is

  -- where no slot is in use, and none has a batch, nothing is left
  pub nothing_left : size < 2 ^ 64 → (w : World T) → Came defers size w → IsQuiescent w → HasNothingLeft defers w
  nothing_left word w came quiet = (quiet.rests, retired, quiet.vacant, (λ s x le is. quiet.none s le x is), behind_others defers w (rested_by w came quiet.rests).good quiet.rests retired)
    where
      outside : (t : ℕ) → IsOutside (w.uses t)
      outside t = vacant_outside (w.uses t) (quiet.vacant t)

      none_open : (t : ℕ) → (sets_now w came quiet.rests outside).open_batch t ≡ []
      none_open t = elim (cases_lt t (LAST_SLOT + 1)) as (λ _. (sets_now w came quiet.rests outside).open_batch t ≡ []) [
        | inl l ↦ open_none_now w came quiet.rests outside word t (omega (arith, l)) (quiet.none t (omega (arith, l)))
        | inr l ↦ opened_past t (LAST_SLOT + 1) ((rested_by w came quiet.rests).good.state.blocks ((rested_by w came quiet.rests).good.state.open_batch t)) l
      ]

      retired : (b : ℕ) → is_retired b w.log ≡ false
      retired b = none_retired defers (LAST_SLOT + 1) size refl w (sets_now w came quiet.rests outside) (shown_now w came quiet.rests outside) quiet.vacant none_open b
