-- What has happened of slots after whole calls alone, and whose section is open.
use Rattle.std.specs.Prelude.{Option, None, Result, Ok, Err, IfOk}
use Rattle.std.proofs.Common.{◌≡◌, ℕ, Bool, true, [], replicate, refl, ap, sym, subst, ◌∙◌}
use Rattle.seize_words.specs.declared.fault.Fault.{Fault}
use Rattle.seize_words.specs.OneMemory.Mem.{Mem, Took}
use Rattle.seize_words.specs.OneMemory.Op.{Make, Made}
use Rattle.seize.specs.World.{Use, Inside, Cutting, IsTaken, HasListWord}
use Rattle.seize_model.specs.Alone.Alone.{History, IsHistory, SlotsAre, RegisteringAnswers, nothing_yet, registered, made, linked, unlinked}
use Rattle.seize_model.proofs.Given.SeizeRuleRows.Others.{with_here}
use Rattle.seize_model.proofs.Alone.Histories.Users.{made_history, linked_history, unlinked_history, start_history}
use Rattle.seize_tests.specs.Tests.Section.{IsInside}

module _ {T : Type 0} (defers : T → Option ℕ) (size roots : ℕ) where
  -- nothing has happened at the start
  pub started : (m : Mem T) → m ≡ record { roots = replicate roots 0; used = replicate roots 0; slots = []; blocks = []; choices = [] }
      → IsHistory defers size roots m nothing_yet
  started m e = subst (λ (n : Mem T). IsHistory defers size roots n nothing_yet) (sym e) (start_history defers size roots)

  -- something has happened, whatever registering tells
  pub told_still : (m : Mem T) (enters : Bool) (h : History) (told : Result ℕ Fault) → RegisteringAnswers defers size roots m enters h told
      → (h2 : History) × IsHistory defers size roots m h2
  told_still m enters h (Ok s) t = (registered enters s h, t.1)
  told_still m enters h (Err fault) t = (h, t.1)

  -- a block is made, linked and unlinked
  pub cut_history : (m m2 : Mem T) (h : History) → IsHistory defers size roots m h → (value : T) (words b : ℕ)
      → HasListWord defers (defers value) words → Took m (Make value words) (Made (Ok b)) m2 → IsHistory defers size roots m2 (unlinked b (linked b 0 (made b h)))
  cut_history m m2 h had value words b list took =
      let a = made_history defers size roots m m2 h had value words b list took in
      let l = linked_history defers size roots m2 (made b h) a b 0 (with_here h.hand b _) in
      unlinked_history defers size roots m2 (linked b 0 (made b h)) l b 0 (with_here (made b h).hand b _)

  pub cut_hand : (h : History) (b : ℕ) → (unlinked b (linked b 0 (made b h))).hand b ≡ Cutting 0
  cut_hand h b = with_here (linked b 0 (made b h)).hand b (Cutting 0)

module _ {T : Type 0} (size : ℕ) where
  -- the section of a slot that is entered with its registering is open
  pub entered_inside : (m : Mem T) (h : History) (slot : ℕ) → IsHistory (λ _. None) size 0 m (registered true slot h) → IsInside size m slot
  entered_inside m h slot had = ((registered true slot h).uses, (registered true slot h, had, refl), with_here h.uses slot (Inside 0))

  -- a slot whose section is open is taken
  pub inside_taken : (m : Mem T) (slot : ℕ) (inside : IsInside size m slot) → IsTaken (inside.1.0.uses slot)
  inside_taken m slot inside = subst IsTaken (sym (ap (λ (f : ℕ → Use). f slot) inside.1.2 ∙ inside.2)) tt

  -- a call that ends with memory has left the slot's section open
  pub still_inside : {E : Type 0} (m : Mem T) (uses : ℕ → Use) (slot : ℕ) → uses slot ≡ Inside 0 → (told : Result Unit E)
      → IfOk told (λ _. SlotsAre (λ _. None) size 0 m uses) → IfOk told (λ _. IsInside size m slot)
  still_inside m uses slot inside (Ok x) are = (uses, are, inside)
  still_inside m uses slot inside (Err e) are = are
