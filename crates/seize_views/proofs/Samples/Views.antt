-- A state that the law of values refuses: a seat has taken a block from a root, and knows nothing of it.
use Rattle.std.specs.Prelude.{Some, None, slice_index_or}
use Rattle.std.proofs.Common.{◌≡◌, ℕ, zero, suc, Bool, true, false, List, [], ◌∷◌, ◌++◌, ◌⊎◌, inl, inr, refl, arith, sym, subst, ap, ◌∙◌}
use Rattle.seize_words.specs.OneMemory.Mem.{word_at}
use Rattle.seize_words.specs.OneMemory.Word.{block_in}
use Rattle.seize_words.specs.declared.at.At.{At}
use Rattle.seize_words.specs.declared.at.At.TheVariants.{Root, Used, Slot, Entry, Word}
use Rattle.seize_words.specs.OneMemory.Op.{Store}
use Rattle.seize.specs.World.{World, at_start}
use Rattle.seize_acts.specs.Acts.Acts.{Operate, Unlinks}
use Rattle.seize_acts.proofs.Samples.Acts.Base.{plain, after, enters, links}
use Rattle.seize_seats.specs.Seats.State.{State}
use Rattle.seize_views.specs.Reaches.Reached.{words_of_row, LeadsBy, OneLeadsTo}
use Rattle.seize_views.specs.Views.Chains.{IsBelow}
use Rattle.seize_views.specs.Views.Rows.{hand_of, row_of, IsSomeones}
use Rattle.seize_views.specs.Views.Values.{IsAtARoot, IsReached, WasKept}
use Rattle.seize_views.specs.declared.view.SlotView.{SlotView}
use Rattle.seize_views.specs.declared.view.SlotView.TheVariants.{Inside}
use Rattle.seize_views.specs.declared.view.Has.{Has}
use Rattle.seize_views.specs.declared.view.Has.TheVariants.{Nothing, Cut}
use Rattle.seize_views.proofs.Views.Chains.{none_links}
use Rattle.seize_views.proofs.Samples.Reaches.{one_such, row_such, AllBare, no_words}
use Rattle.seize_words.proofs.General.{same_some}

-- caller 0 has entered slot 0, and taken block 1 from the root, where it was linked
abbrev cut : World ℕ
cut = after plain 1 (enters ++ links ++ Operate 0 (Store (Root 0) 0) None (Unlinks 1 ∷ []) ∷ []) (at_start plain 1)

-- its seat knows this
abbrev knowing : Has ℕ → State ℕ (SlotView ℕ) (World ℕ)
knowing has = record { memory = cut.memory; views = Inside 0 has ∷ []; world = cut }

none_has : IsSomeones (knowing Nothing) 1 → ⊥
none_has (zero, v, at, has) = let is = ap hand_of (same_some (Inside 0 Nothing) v at) in cc (is, has)
none_has (suc j, v, at, has) = cc at

none_names : IsAtARoot (knowing Nothing).memory 1 → ⊥
none_names (zero, n, c, (word, at, names), below) = down n c (sym names ∙ ap block_in (sym (same_some 0 word at))) below
  where
    down : (n c : ℕ) → c ≡ 0 → IsBelow cut.memory n c 1 → ⊥
    down zero c is below = let one : 0 ≡ 1 = sym is ∙ below in cc one
    down (suc n) c is below = none_links cut.memory c below.0 is below.1
none_names (suc r, n, c, (word, at, names), below) = cc at

-- no word of a slot names a block
abbrev none : ℕ → Bool
none zero = true
none (suc b) = false

bare : AllBare cut.memory.blocks
bare = (refl, tt)

leads_not : (names : List At) (word : ℕ) → none (block_in word) ≡ true → LeadsBy cut.memory word names 1 → ⊥
leads_not [] word is leads = let one = ap none leads.1 in cc (is, one)
leads_not (Entry c field ∷ names) word is leads = entry_not c field (ap none leads.0 ∙ is) leads.1.0 leads.1.1
  where
    entry_not : (c field : ℕ) → none c ≡ true → (next : ℕ) → word_at cut.memory (Entry c field) ≡ Some next → ⊥
    entry_not zero field is next at = cc at
    entry_not (suc c) field is next at = cc is
leads_not (Word c field ∷ names) word is leads = no_words cut.memory bare c field leads.1.0 leads.1.1
leads_not (Root r ∷ names) word is leads = leads.0
leads_not (Used r ∷ names) word is leads = leads.0
leads_not (Slot s field ∷ names) word is leads = leads.0

none_reaches : IsReached (knowing Nothing) 1 → ⊥
none_reaches (inl (s, field, word, at, way)) =
    leads_not way.0 word (one_such none (slice_index_or cut.memory.slots s []) field word (row_such none cut.memory.slots s refl) at) way.1
none_reaches (inr (inl (zero, v, at, way))) =
    subst (λ (x : SlotView ℕ). OneLeadsTo cut.memory 1 (words_of_row (row_of x))) (sym (same_some (Inside 0 Nothing) v at)) way
none_reaches (inr (inl (suc j, v, at, way))) = cc at
none_reaches (inr (inr (t, field, word, there, at, way))) = no_words cut.memory bare t field word at

forgets_is_refused : IsSomeones (knowing Nothing) 1 ⊎ IsAtARoot (knowing Nothing).memory 1 ⊎ IsReached (knowing Nothing) 1 ⊎ WasKept (at_start plain 1) cut 1 → ⊥
forgets_is_refused (inl has) = none_has has
forgets_is_refused (inr (inl names)) = none_names names
forgets_is_refused (inr (inr (inl reached))) = none_reaches reached
forgets_is_refused (inr (inr (inr was))) = cc was

-- The right one has it in its hand.
right_has : IsSomeones (knowing (Cut 1)) 1
right_has = (0, Inside 0 (Cut 1), refl, refl)
