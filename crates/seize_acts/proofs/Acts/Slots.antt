-- The slots taken at some time are the first ones.
use Rattle.std.specs.Prelude.{Option, Some, None}
use Rattle.std.proofs.Common.{◌≡◌, ℕ, zero, suc, ◌+◌, ◌<◌, ◌≤◌, Bool, true, false, refl, arith, ap, sym, ◌∙◌}
use Rattle.seize_words.specs.declared.at.At.TheVariants as name
use Rattle.seize_words.specs.OneMemory.Mem.{word_at}
use Rattle.seize.specs.declared.states.TheConstants.{HEAD, LAST_SLOT}
use Rattle.seize.specs.World.{World, SlotsTaken, at_start}
use Rattle.seize_model.proofs.Given.SeizeMovesState.Ghost.{Head, is_never}
use Rattle.seize_model.proofs.Given.SeizeMovesState.Rule.{Prefix}
use Rattle.seize_model.proofs.Given.SeizeMemoryWords.View.{view}
use Rattle.seize_model.proofs.Given.SeizeMemoryWords.Named.{has, word_found}
use Rattle.seize_model.proofs.Given.SeizeMemoryWords.Shows.{HeadIs}
use Rattle.seize_model.proofs.Given.SeizeRulePoints.Try.{never_word}
use Rattle.seize_model.proofs.Given.SeizeRuleWorld.Good.{Good}
use Rattle.seize_model.proofs.Given.SeizeRuleWorld.Start.{start_good, words_good}
use Rattle.seize_model.proofs.Given.SeizeRuleWorld.Kept.{runs_good}
use Rattle.seize_acts.specs.Acts.Laws.{SlotsAreFirst}
use Rattle.seize_acts.proofs.Acts.Fine.{all_fine}
use Rattle.seize_model.proofs.Sets.Turns.Heads.{never_zero as head_none}

-- the number of slots ever taken
record Taken (n : ℕ) (head : ℕ → Head) : Type 0 where
  slots : ℕ
  few : slots ≤ n
  below : (t : ℕ) → t < slots → is_never (head t) ≡ false
  behind : (t : ℕ) → slots ≤ t → is_never (head t) ≡ true

taken : (n : ℕ) (head : ℕ → Head) → Prefix head → ((t : ℕ) → n ≤ t → is_never (head t) ≡ true) → Taken n head
taken zero head prefix outside = record { slots = 0; few = omega arith; below = λ t l. absurd (omega (arith, l)); behind = outside }
taken (suc n) head prefix outside = by (is_never (head n)) refl (λ never. taken n head prefix (λ t l. prefix n t l never))
  where
    by : (y : Bool) → is_never (head n) ≡ y → (is_never (head n) ≡ true → Taken n head) → Taken (suc n) head
    by true never below = let less = below never in record { slots = less.slots; few = (let f = less.few in omega (arith, f)); below = less.below; behind = less.behind }
    by false ever below = record { slots = suc n; few = omega arith; below = λ t l. was t (omega (arith, l)) (is_never (head t)) refl; behind = outside }
      where
        was : (t : ℕ) → t ≤ n → (y : Bool) → is_never (head t) ≡ y → y ≡ false
        was t l true e = absurd (cc (prefix t n l e, ever))
        was t l false e = refl

module _ {T : Type 0} {size : ℕ} (defers : T → Option ℕ) (w : World T) (good : Good defers (LAST_SLOT + 1) size w) where
  at_head : (t : ℕ) → HeadIs (view defers w.memory).links ((view defers w.memory).heads t) (good.state.head t)
  at_head t = good.shows.entries.headed t

  slot_word : (t : ℕ) → is_never (good.state.head t) ≡ false → (head : ℕ) × (word_at w.memory (name.Slot t HEAD) ≡ Some head) × (0 < head)
  slot_word t ever = go (word_at w.memory (name.Slot t HEAD)) refl ((words_good defers (LAST_SLOT + 1) w good).slots t HEAD (omega arith) ever)
    where
      go : (o : Option ℕ) → word_at w.memory (name.Slot t HEAD) ≡ o → has w.memory (name.Slot t HEAD) ≡ true → (head : ℕ) × (word_at w.memory (name.Slot t HEAD) ≡ Some head) × (0 < head)
      go None e there = absurd (cc (e, there))
      go (Some a) e there = (a, e, pos a (word_found w.memory (name.Slot t HEAD) a e))
        where
          pos : (a : ℕ) → (view defers w.memory).heads t ≡ a → 0 < a
          pos zero is = absurd (cc (never_word (view defers w.memory).links ((view defers w.memory).heads t) (good.state.head t) (at_head t) is, ever))
          pos (suc a) is = omega arith

  pub slots_taken : (slots : ℕ) × (slots ≤ LAST_SLOT + 1) × SlotsTaken w.memory slots
  slots_taken =
      let k = taken (LAST_SLOT + 1) good.state.head good.inv.slots.prefix (λ t l. ap is_never (good.inv.slots.outside t l)) in (
        k.slots,
        k.few,
        (
          (λ t l. slot_word t (k.below t l)),
          (λ t head l e. sym (word_found w.memory (name.Slot t HEAD) head e) ∙ head_none (view defers w.memory).links ((view defers w.memory).heads t) (good.state.head t) (at_head t) (k.behind t l)),
        ),
      )

pub slots_are_first : {T : Type 0} (defers : T → Option ℕ) → SlotsAreFirst defers
slots_are_first defers size roots acts w h =
    let f = all_fine defers size acts (at_start defers roots) w h in
    slots_taken defers w (runs_good defers (LAST_SLOT + 1) size refl f.0 (at_start defers roots) w (start_good defers (LAST_SLOT + 1) size roots) (λ i. tt) f.1)
