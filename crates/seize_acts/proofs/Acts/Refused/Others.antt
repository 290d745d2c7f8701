-- What the acts of others leave: a slot that can be taken stays as it is, or is taken, and a caller's row is the same.
use Rattle.std.specs.Prelude.{Option, Some, None, Ok, if◌then◌else◌, ◌||◌, ◌^◌, ◌%◌, bit_or}
use Rattle.std.proofs.Common.{◌≡◌, ℕ, zero, suc, ◌+◌, Bool, true, false, List, refl, ap, subst, ◌∙◌}
use Rattle.seize_words.specs.declared.at.At.{At}
use Rattle.seize_words.specs.declared.at.At.TheVariants as name
use Rattle.seize_words.specs.OneMemory.Mem.{Mem, with_word}
use Rattle.seize_words.specs.OneMemory.Op.{Op, Out, Load, Store, Swap, Add, Or, Exchange, Make, Take, Rewrite, Room, Found, Exchanged, Made}
use Rattle.seize.specs.declared.states.TheConstants.{HEAD}
use Rattle.seize.specs.Settle.{settle_plan}
use Rattle.seize.specs.Leave.{leave_plan}
use Rattle.seize.specs.Defer.{defer_plan}
use Rattle.seize.specs.Register.{register_plan}
use Rattle.seize.specs.Enter.{enter_plan, unregister_plan}
use Rattle.seize.specs.World.{World, Row, Rests, Registers, Enters, Settles, Leaves, Defers, Frees, Steps'}
use Rattle.seize_words.specs.OneMemory.SlotWords.{slot_word}
use Rattle.seize_model.proofs.Given.SeizeMemoryWords.Named.{or_zero}
use Rattle.seize_model.proofs.Given.SeizeRuleRows.Others.{steps_others}
use Rattle.seize_model.proofs.Ends.Batches.Rows.{registers_memory, settles_memory, defers_memory}
use Rattle.seize_model.proofs.Alone.Histories.Reached.{Reached}
use Rattle.seize_acts.specs.Acts.Answers.{Grant, then_on, answer}
use Rattle.seize_acts.specs.Acts.Acts.{Operate, Change, became, row_steps, turns, turned, steps, may_operate, operated, changed, is_own, is_left_link}
use Rattle.seize_acts.proofs.Acts.Answers.{some}
use Rattle.seize_acts.proofs.Acts.Fine.{row_stepped, changed_below}
use Rattle.seize_acts.proofs.Acts.Refused.Heads.{TakenOrSame, same_heads, by_memory, step_heads}
use Rattle.seize_acts.proofs.Acts.Refused.Rows.{turn_memory}
use Rattle.seize_words.proofs.General.{same_some}

module _ {T : Type 0} (defers : T → Option ℕ) (size j : ℕ) where
  -- the steps of another caller that make no operation change neither a word nor this caller's row
  turn_same : (row : Row) (w u : World T) → turns defers row ≡ true → Steps' defers j row w u → u.memory ≡ w.memory
  turn_same Rests w u e st = absurd st
  turn_same (Registers c) w u e st =
      ap (λ (x : World T). x.memory) st.3 ∙ registers_memory w j st.0 c st.1.0 st.1.1 ∙ turn_memory w.memory st.0 (register_plan c) st.1 e st.2
  turn_same (Enters c) w u e st = ap (λ (x : World T). x.memory) st.3 ∙ turn_memory w.memory st.0 (enter_plan c) st.1 e st.2
  turn_same (Settles c) w u e st =
      ap (λ (x : World T). x.memory) st.3 ∙ settles_memory w j st.0 c st.1.0 st.1.1 ∙ turn_memory w.memory st.0 (settle_plan defers c) st.1 e st.2
  turn_same (Leaves c) w u e st = ap (λ (x : World T). x.memory) st.3 ∙ turn_memory w.memory st.0 (leave_plan defers c) st.1 e st.2
  turn_same (Defers s c) w u e st =
      ap (λ (x : World T). x.memory) st.3 ∙ defers_memory w j st.0 s st.1.0 st.1.1 ∙ turn_memory w.memory st.0 (defer_plan c) st.1 e st.2
  turn_same (Frees c) w u e st = ap (λ (x : World T). x.memory) st.3 ∙ turn_memory w.memory st.0 (unregister_plan c) st.1 e st.2

  module _ (i : ℕ) (ne : i ≡ j → ⊥) where
    -- the same memory, and the same row of this caller
    abbrev Same : World T → World T → Type 0
    Same w n = (n.memory ≡ w.memory) × (n.row i ≡ w.row i)

    turned_same : (more : ℕ) (w n : World T) → turned defers more j w ≡ Some n → Same w n
    turned_same zero w n e = subst (λ (x : World T). Same w x) (same_some w n e) (refl, refl)
    turned_same (suc more) w n e = by (turns defers (w.row j)) refl (λ v k. turned_same more v n k) e
      where
        by : (y : Bool) → turns defers (w.row j) ≡ y → ((v : World T) → turned defers more j v ≡ Some n → Same v n)
            → (if y then then_on (row_steps defers j (w.row j) None w) (turned defers more j) else Some w) ≡ Some n → Same w n
        by true q rest k =
            let s = some (row_steps defers j (w.row j) None w) (turned defers more j) n k in
            let st = row_stepped defers size j (w.row j) None w s.0 s.1 in
            let r = rest s.0 s.2 in
            (r.0 ∙ turn_same (w.row j) w s.0 q st, r.1 ∙ steps_others defers size w s.0 j i ne (w.row j) st)
        by false q rest k = subst (λ (x : World T). Same w x) (same_some w n k) (refl, refl)

    -- what another caller's step leaves
    abbrev Leaves' : World T → World T → Type 0
    Leaves' w n = TakenOrSame w.memory n.memory × (n.row i ≡ w.row i)

    pub steps_leave : (g : Grant) (w n : World T) → Reached defers size w → steps defers j g w ≡ Some n → Leaves' w n
    steps_leave g w n r e =
        let s = some (row_steps defers j (w.row j) g w) (turned defers 2 j) n e in
        let st = row_stepped defers size j (w.row j) g w s.0 s.1 in
        let t = turned_same 2 s.0 n s.2 in (
          by_memory w.memory (s.0).memory n.memory t.0 (step_heads defers w r.good j (w.row j) s.0 refl st),
          t.1 ∙ steps_others defers size w s.0 j i ne (w.row j) st,
        )

-- what a user's operation leaves: all rows, and the words of slots

abbrev is_slot : At → Bool
is_slot (name.Slot s field) = true
is_slot _ = false

module _ {T : Type 0} (defers : T → Option ℕ) (size j : ℕ) (w : World T) where
  word_slots : (at : At) (v : ℕ) → is_slot at ≡ false → (with_word w.memory at v).slots ≡ w.memory.slots
  word_slots (name.Root r) v e = refl
  word_slots (name.Used r) v e = refl
  word_slots (name.Slot s field) v e = absurd (cc e)
  word_slots (name.Entry b field) v e = refl
  word_slots (name.Word b field) v e = refl

  own_slot : (at : At) → is_own defers w.memory at ≡ true → is_slot at ≡ false
  own_slot (name.Root r) e = refl
  own_slot (name.Used r) e = refl
  own_slot (name.Slot s field) e = absurd (cc e)
  own_slot (name.Entry b field) e = refl
  own_slot (name.Word b field) e = refl

  store_slot : (at : At) → (is_own defers w.memory at || is_left_link defers w.hand at) ≡ true → is_slot at ≡ false
  store_slot (name.Root r) e = refl
  store_slot (name.Used r) e = refl
  store_slot (name.Slot s field) e = absurd (cc e)
  store_slot (name.Entry b field) e = refl
  store_slot (name.Word b field) e = refl

  -- what a user's act leaves: the words of slots, and all rows
  abbrev SameSlots : World T → Type 0
  SameSlots n = (n.memory.slots ≡ w.memory.slots) × (n.row ≡ w.row)

  operated_same : (op : Op T) (out : Out T) → may_operate defers w op ≡ true → SameSlots (operated defers j w op out)
  operated_same (Load at) out e = (refl, refl)
  operated_same (Store at v) out e = (word_slots at v (store_slot at e), refl)
  operated_same (Swap at v) out e = (word_slots at v (own_slot at e), refl)
  operated_same (Add at v) (Found a) e = (word_slots at ((a + v) % 2 ^ 64) (own_slot at e), refl)
  operated_same (Add at v) _ e = (refl, refl)
  operated_same (Or at v) (Found a) e = (word_slots at (bit_or a v) (own_slot at e), refl)
  operated_same (Or at v) _ e = (refl, refl)
  operated_same (Exchange at old new) (Exchanged (Ok a)) e = (word_slots at new (own_slot at e), refl)
  operated_same (Exchange at old new) _ e = (refl, refl)
  operated_same (Make value words) (Made (Ok b)) e = (refl, refl)
  operated_same (Make value words) _ e = (refl, refl)
  operated_same (Take b) out e = (refl, refl)
  operated_same (Rewrite b value) out e = (refl, refl)
  operated_same (Room bucket) out e = absurd (cc e)

  pub user_same : (op : Op T) (g : Grant) (changes : List Change) (n : World T) → became defers size (Operate j op g changes) w ≡ Some n → SameSlots n
  user_same op g changes n e = by (may_operate defers w op) refl e
    where
      by : (y : Bool) → may_operate defers w op ≡ y
          → (if y then then_on (answer w.memory g op) (λ out. changed defers j changes (operated defers j w op out)) else None) ≡ Some n → SameSlots n
      by true q k =
          let s = some (answer w.memory g op) (λ out. changed defers j changes (operated defers j w op out)) n k in
          let a = operated_same op s.0 q in
          let b = changed_below defers size j changes (operated defers j w op s.0) n s.2 in
          (ap (λ (m : Mem T). m.slots) b.0 ∙ a.0, b.1 ∙ a.1)
      by false q k = absurd (cc k)

  pub slots_heads : (n : World T) → n.memory.slots ≡ w.memory.slots → TakenOrSame w.memory n.memory
  slots_heads n same = same_heads w.memory n.memory (λ s. ap (λ (slots : List (List ℕ)). or_zero (slot_word slots s HEAD)) same)
