-- A slot that was never taken has no open batch.
use Rattle.std.specs.Prelude.{Option, Some, None}
use Rattle.std.proofs.Common.{◌≡◌, ℕ, suc, ◌+◌, ◌<◌, ◌≤◌, ◌^◌, List, [], ◌∷◌, length, inl, inr, refl, arith, subst, sym, ap, ◌∙◌}
use Rattle.std.proofs.lemmas.Bool.{cases_lt}
use Rattle.seize.specs.Given.SeizeWordsDeclared.at.At.TheVariants as name
use Rattle.seize.specs.Given.SeizeWordsMem.{word_at}
use Rattle.seize.specs.declared.states.TheConstants.{HEAD, LAST_SLOT}
use Rattle.seize.specs.Law.{is_open}
use Rattle.seize_model.specs.Sets.Reclaims.{Reclaims}
use Rattle.seize.specs.Sequence.{Turn, Whole, Between, Calls, TakesTurns, entered_as, entered_at, new_slot, changes, ended_by}
use Rattle.seize.specs.WaitingSets.{Change, Sets, all_changed, all_left, left, counted, flushed, retired, size as set_size}
use Rattle.seize.specs.World.{World, Row, Use, Vacant, Outside, Inside, Changing, IsTaken, Request, Register', Enter', Leave', LeaveOwned, Refresh, Unregister', Retire, Flush, Defer', SlotsTaken, Event, Begin, Step, Makes, Drops, Links, Parts, Unlinks, Rewrites, Operates, LeavesOver, Relinks, Clears, Chooses, Ends}
use Rattle.seize_rule.proofs.Given.SeizeWaitingFlushes.{retired_all_frame, flushed_frame, counted_frame, left_others, all_left_others}
use Rattle.seize_rule.proofs.World.Rested.{Rested, calls_rested, users_rested}
use Rattle.seize_model.proofs.Sets.Reclaims.Sets.{slots_fit, settled_come, active_taken}
use Rattle.seize_rule.proofs.Rows.Short.{tries_on}
use Rattle.seize_model.proofs.Sets.Turns.All.{changed_then}
use Rattle.seize_model.proofs.Sets.Turns.Begins.{Shown}
use Rattle.seize_rule.proofs.Given.SeizeMemoryWords.View.{view}
use Rattle.seize_rule.proofs.Given.SeizeMemoryWords.Named.{words_of, word_found}
use Rattle.seize_model.proofs.Sets.Slots.Registers.{never_used as never_vacant}
use Rattle.seize_rule.proofs.Points.Try.{never_word as zero_never}
use Rattle.seize.proofs.Given.General.{no_length}

module _ (n size : ℕ) where
  -- no slot from n on has an open batch
  abbrev pub NonePast : Sets → Type 0
  NonePast sets = (s : ℕ) → n ≤ s → sets.open_batch s ≡ []

  -- nor has one where another's alone has changed
  past_by : (slot : ℕ) (sets sets2 : Sets) → slot < n → ((s : ℕ) → (s ≡ slot → ⊥) → sets2.open_batch s ≡ sets.open_batch s) → NonePast sets → NonePast sets2
  past_by slot sets sets2 l same h s le = same s (λ e. absurd (omega (arith, l, e, le))) ∙ h s le

  past_entered : (o : Option ℕ) (uses : ℕ → Use) (sets : Sets) → NonePast sets → NonePast (all_changed size (entered_at o uses) sets).sets
  past_entered None uses sets h = h
  past_entered (Some s) uses sets h = by (uses s)
    where
      by : (u : Use) → NonePast (all_changed size (entered_as s u) sets).sets
      by Vacant = h
      by (Outside rows) = h
      by (Inside rows) = h
      by Changing = h

module _ {T : Type 0} (defers : T → Option ℕ) (n size : ℕ) (last : n ≡ LAST_SLOT + 1) where
  -- a slot in use is one of n
  used_below : (w : World T) → Rested defers n size w → (s : ℕ) → (w.uses s ≡ Vacant → ⊥) → s < n
  used_below w r s ne = elim (cases_lt s n) as (λ _. s < n) [
    | inl l ↦ l
    | inr l ↦ absurd (ne (never_vacant (w.uses s) (r.good.state.head s) (length (r.good.used.team s)) (is_open s r.good.state.log) (r.good.inv.slots.outside s l) (r.good.used.fits s)))
  ]

  inside_below : (w : World T) → Rested defers n size w → (s : ℕ) → w.uses s ≡ Inside 0 → s < n
  inside_below w r s e = used_below w r s (λ v. absurd (cc (e, v)))

  taken_below : (w : World T) → Rested defers n size w → (s : ℕ) → IsTaken (w.uses s) → s < n
  taken_below w r s t = used_below w r s (λ v. subst (λ (u : Use). IsTaken u) v t)

  -- a whole call
  call_past : (i : ℕ) (request : Request) (w v : World T) (sets : Sets) → Rested defers n size w → Calls defers size i request w v → NonePast n size sets
      → NonePast n size (all_changed size (changes request w.uses v.uses) sets).sets
  call_past i (Register' enters) w v sets r h p = past_entered n size (new_slot w.uses) v.uses sets p
  call_past i (Enter' s) w v sets r h p = p
  call_past i (Leave' s) w v sets r h p = past_by n size s sets (left size s sets).sets (inside_below w r s h.3.0) (left_others size s sets) p
  call_past i (LeaveOwned s) w v sets r h p = past_by n size s sets (left size s sets).sets (inside_below w r s h.3.0) (left_others size s sets) p
  call_past i (Refresh s) w v sets r h p = past_by n size s sets (counted size s sets).sets (inside_below w r s h.3.0) (counted_frame size s sets).others p
  call_past i (Unregister' s) w v sets r h p = p
  call_past i (Retire s b) w v sets r h p = past_by n size s sets (retired size s b sets).sets (taken_below w r s h.3.0) (retired_all_frame size (suc (set_size sets)) s (b ∷ []) sets).others p
  call_past i (Flush s) w v sets r h p = past_by n size s sets (flushed size s sets).sets (taken_below w r s h.3.0) (flushed_frame size s sets).others p
  call_past i (Defer' s b t) w v sets r h p = p

  -- an event between
  ended_past : (e : Event T) (sets : Sets) → NonePast n size sets → NonePast n size (all_changed size (ended_by e) sets).sets
  ended_past (Begin i request) sets p = p
  ended_past (Step i) sets p = p
  ended_past (Makes i value words) sets p = p
  ended_past (Drops i b) sets p = p
  ended_past (Links i b o) sets p = p
  ended_past (Parts i b) sets p = p
  ended_past (Unlinks i b) sets p = p
  ended_past (Rewrites i b value) sets p = p
  ended_past (Operates op) sets p = p
  ended_past (Ends i o) sets p = p
  ended_past (LeavesOver i b []) sets p = p
  ended_past (LeavesOver i b (c ∷ further)) sets p = p
  ended_past (Relinks i b word) sets p = p
  ended_past (Clears i b) sets p = p
  ended_past (Chooses choice) sets p = p

  -- and any turns
  pub turns_past : size < 2 ^ 64 → (turns : List (Turn T)) (w v : World T) (all : List Change) (sets : Sets) → Rested defers n size w → TakesTurns defers size turns w v all
      → NonePast n size sets → NonePast n size (all_changed size all sets).sets
  turns_past word [] w v all sets r h p = subst (λ (l : List Change). NonePast n size (all_changed size l sets).sets) (sym h.1) p
  turns_past word (Whole i request ∷ turns) w v all sets r h p =
      let a = changes request w.uses h.0.uses in
      let k = turns_past word turns h.0 v h.1 (all_changed size a sets).sets (calls_rested defers n size last i request w h.0 r h.2) h.3 (call_past i request w h.0 sets r h.2 p) in
      subst (λ (l : List Change). NonePast n size (all_changed size l sets).sets) (sym h.4)
      (subst (λ (s : Sets). NonePast n size s) (sym (changed_then defers n size last word a h.1 sets)) k)
  turns_past word (Between e ∷ turns) w v all sets r h p =
      let a = ended_by e in
      let k = turns_past word turns h.0 v h.1 (all_changed size a sets).sets (users_rested defers n size last e w h.0 h.2 r h.3) h.4 (ended_past e sets p) in
      subst (λ (l : List Change). NonePast n size (all_changed size l sets).sets) (sym h.5)
      (subst (λ (s : Sets). NonePast n size s) (sym (changed_then defers n size last word a h.1 sets)) k)

  -- of n slots, those that were never taken
  untaken_none : (w : World T) (sets : Sets) → Shown defers n size w sets → (slots : ℕ) → SlotsTaken w.memory slots → (s : ℕ) → slots ≤ s → s < n → sets.open_batch s ≡ []
  untaken_none w sets shown slots taken s le l =
      let g = shown.rested.good in
      let zero_head = zero_word (word_at w.memory (name.Slot s HEAD)) refl in
      let never = zero_never (view defers w.memory).links (words_of w.memory (name.Slot s HEAD)) (g.state.head s) (g.shows.entries.headed s) zero_head in
      sym (shown.models.opened s l)
      ∙ no_length (g.state.blocks (g.state.open_batch s)) ((g.short s l (λ j. ap (λ (r : Row). tries_on r s) (shown.rested.rests j))).untaken never)
    where
      zero_word : (o : Option ℕ) → word_at w.memory (name.Slot s HEAD) ≡ o → words_of w.memory (name.Slot s HEAD) ≡ 0
      zero_word None e = grind (arith, e)
      zero_word (Some a) e = word_found w.memory (name.Slot s HEAD) a e ∙ taken.1 s a le e

  -- Of all, those that reclaiming all doesn't find to be taken.
  pub none_untaken : (word : size < 2 ^ 64) (i : ℕ) (w v : World T) (sets : Sets) → Shown defers n size w sets → (r : Reclaims defers size i w v) → NonePast n size sets
      → (s : ℕ) → r.slots ≤ s → sets.open_batch s ≡ []
  none_untaken word i w v sets shown r past s le =
      let fit = slots_fit defers n size last word i w v sets shown r in
      let first = settled_come defers n size last word i w v sets shown r fit in
      elim (cases_lt s n) as (λ _. sets.open_batch s ≡ []) [
        | inl l ↦
            sym (all_left_others size sets.active sets s (active_taken defers n size last word i w v sets shown r s le))
            ∙ untaken_none r.settled (all_left size sets.active sets).sets first.shown r.slots r.taken s le l
        | inr l ↦ past s l
      ]
