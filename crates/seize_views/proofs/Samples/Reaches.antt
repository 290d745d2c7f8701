-- A wrong plan, stepped in a world of three blocks, and the law's clause that is false of what it leaves: a settling counts a block into its batch that it has
-- not put behind the last one.
use Rattle.std.specs.Prelude.{◌-◌, ◌==◌, Option, Some, None, ◌&&◌, slice_get, slice_index_or, if◌then◌else◌}
use Rattle.std.proofs.Common.{◌≡◌, ℕ, zero, suc, Bool, true, false, List, [], ◌∷◌, ◌++◌, ◌⊎◌, inl, inr, refl, arith, subst, sym, ap, ◌∙◌}
use Rattle.std.proofs.lemmas.Bool.{ne_eqb}
use Rattle.seize_words.specs.OneMemory.Word.{block_in, link_to}
use Rattle.seize_words.specs.declared.at.At.{At}
use Rattle.seize_words.specs.declared.at.At.TheVariants.{Root, Used, Slot, Entry, Word}
use Rattle.seize_words.specs.OneMemory.Mem.{Mem, block_of, word_in, word_at}
use Rattle.seize_words.specs.OneMemory.Op.{Store, Make}
use Rattle.seize_words.specs.declared.block.Block.{Block}
use Rattle.seize_words.specs.OneMemory.Plan.{Plan}
use Rattle.seize.specs.declared.states.TheConstants.{BATCH, NEXT, FIRST}
use Rattle.seize.specs.declared.rows.settle.Settle.{Settle}
use Rattle.seize.specs.declared.rows.settle.Settling.{Settling}
use Rattle.seize.specs.declared.rows.settle.Settling.TheVariants as settling
use Rattle.seize.specs.declared.rows.settle.Settled.{Settled}
use Rattle.seize.specs.Settle.{settle_plan, plan_at, counts}
use Rattle.seize.specs.World.{World, Row, Rests, Handed, Retire, at_start}
use Rattle.seize_acts.specs.Acts.Acts.{Begin, Step, Operate, Links, Unlinks}
use Rattle.seize_acts.proofs.Samples.Acts.Base.{plain, or_start, after, on, enters, links, settle_by}
use Rattle.seize_views.specs.Reaches.Reached.{words_of_row, IsWordIn, LeadsBy, OneLeadsTo, IsOfASlot, IsOfARow, IsOfABlock}
use Rattle.seize_words.proofs.General.{both_true as both, same_some}

-- words that name such blocks alone
module _ (such : ℕ → Bool) where
  abbrev pub all_such : List ℕ → Bool
  all_such [] = true
  all_such (word ∷ words) = such (block_in word) && all_such words

  abbrev pub rows_such : List (List ℕ) → Bool
  rows_such [] = true
  rows_such (words ∷ rows) = all_such words && rows_such rows

  pub one_such : (words : List ℕ) (i word : ℕ) → all_such words ≡ true → slice_get words i ≡ Some word → such (block_in word) ≡ true
  one_such [] i word all at = absurd (cc at)
  one_such (w ∷ words) zero word all at = subst (λ (k : ℕ). such (block_in k) ≡ true) (same_some w word at) (both (such (block_in w)) (all_such words) all).0
  one_such (w ∷ words) (suc i) word all at = one_such words i word (both (such (block_in w)) (all_such words) all).1 at

  pub row_such : (rows : List (List ℕ)) (s : ℕ) → rows_such rows ≡ true → all_such (slice_index_or rows s []) ≡ true
  row_such [] s all = refl
  row_such (words ∷ rows) zero all = (both (all_such words) (rows_such rows) all).0
  row_such (words ∷ rows) (suc s) all = row_such rows s (both (all_such words) (rows_such rows) all).1

-- blocks without words of their own
abbrev pub AllBare : List (Option (Block ℕ)) → Type 0
AllBare [] = Unit {0}
AllBare (None ∷ blocks) = AllBare blocks
AllBare (Some x ∷ blocks) = (x.words ≡ []) × AllBare blocks

no_own : (blocks : List (Option (Block ℕ))) (i field next : ℕ) → AllBare blocks → word_in (slice_index_or blocks i None) field ≡ Some next → ⊥
no_own [] i field next bare at = cc at
no_own (None ∷ blocks) zero field next bare at = cc at
no_own (None ∷ blocks) (suc i) field next bare at = no_own blocks i field next bare at
no_own (Some x ∷ blocks) zero field next bare at = let none = sym (ap (λ (words : List ℕ). slice_get words field) bare.0) ∙ at in cc none
no_own (Some x ∷ blocks) (suc i) field next bare at = no_own blocks i field next bare.1 at

pub no_words : (m : Mem ℕ) → AllBare m.blocks → (c field next : ℕ) → word_at m (Word c field) ≡ Some next → ⊥
no_words m bare zero field next at = cc at
no_words m bare (suc c) field next at = no_own m.blocks c field next bare (sym (ap (λ (o : Option (Block ℕ)). word_in o field) found) ∙ at)
  where
    there : Bool → Option (Block ℕ)
    there q = if q then None else slice_index_or m.blocks (suc c - 1) None

    place : suc c - 1 ≡ c
    place = omega arith

    found : block_of m (suc c) ≡ slice_index_or m.blocks c None
    found = ap there (ne_eqb (suc c) 0 (λ e. cc e)) ∙ ap (λ (i : ℕ). slice_index_or m.blocks i None) place

abbrev skips_at : Settle → Settling → Plan ℕ (Settle × Settled ℕ)
skips_at c (settling.Appends block) = counts c block
skips_at c p = plan_at plain c p

abbrev skips : Settle → Plan ℕ (Settle × Settled ℕ)
skips c = skips_at c c.stands

-- Blocks 1, 2 and 3 were unlinked, and caller 0 has retired block 1. It retires block 2, and is about to put that behind block 1.
abbrev halfway : World ℕ
halfway =
    after plain 9 (Begin 0 (Retire 0 2) None ∷ Step 0 None ∷ Step 0 None ∷ Step 0 None ∷ Step 0 None ∷ Step 0 None ∷ [])
    (on plain 9 30 0 (after plain 9 (enters ++ links
    ++ Operate 0 (Make 8 0) (Some 2) (Links 2 3 ∷ []) ∷ Operate 0 (Make 9 0) (Some 3) (Links 3 3 ∷ [])
    ∷ Operate 0 (Store (Root 0) 0) None (Unlinks 1 ∷ Unlinks 2 ∷ Unlinks 3 ∷ []) ∷ Begin 0 (Retire 0 1) None ∷ []) (at_start plain 1)))

-- it takes its next step by this plan, goes on to its end, and retires block 3
abbrev retired_by : (Settle → Plan ℕ (Settle × Settled ℕ)) → World ℕ
retired_by plan = on plain 9 30 0 (after plain 9 (Begin 0 (Retire 0 3) None ∷ []) (on plain 9 30 0 (or_start (settle_by plan (halfway.row 0) halfway))))

all_rest : (i : ℕ) → (retired_by skips).row i ≡ Rests
all_rest zero = refl
all_rest (suc i) = grind arith

is_handed : (retired_by skips).hand 2 ≡ Handed
is_handed = refl

abbrev m : Mem ℕ
m = (retired_by skips).memory

bare : AllBare m.blocks
bare = (refl, (refl, (refl, tt)))

-- block 1 or 3, or none
abbrev spares : ℕ → Bool
spares zero = true
spares (suc zero) = true
spares (suc (suc zero)) = false
spares (suc (suc (suc zero))) = true
spares (suc (suc (suc (suc b)))) = false

-- the words of blocks 1 and 3 name no other block
entry_spares : (c field next : ℕ) → spares c ≡ true → word_at m (Entry c field) ≡ Some next → spares (block_in next) ≡ true
entry_spares zero field next is at = absurd (cc at)
entry_spares (suc zero) field next is at = one_such spares (0 ∷ 0 ∷ link_to 1 ∷ 3 ∷ []) field next refl at
entry_spares (suc (suc zero)) field next is at = absurd (cc is)
entry_spares (suc (suc (suc zero))) field next is at = one_such spares (0 ∷ 0 ∷ link_to 1 ∷ 0 ∷ []) field next refl at
entry_spares (suc (suc (suc (suc c)))) field next is at = absurd (cc is)

next_spares : (b : ℕ) (name : At) (next : ℕ) → spares b ≡ true → IsWordIn b name → word_at m name ≡ Some next → spares (block_in next) ≡ true
next_spares b (Entry c field) next is same at = entry_spares c field next (ap spares same ∙ is) at
next_spares b (Word c field) next is same at = absurd (no_words m bare c field next at)
next_spares b (Root r) next is same at = absurd same
next_spares b (Used r) next is same at = absurd same
next_spares b (Slot s field) next is same at = absurd same

-- so no such word leads to block 2
leads_not : (names : List At) (word : ℕ) → spares (block_in word) ≡ true → LeadsBy m word names 2 → ⊥
leads_not [] word is leads = let two = ap spares leads.1 in cc (is, two)
leads_not (name ∷ names) word is leads = leads_not names leads.1.0 (next_spares (block_in word) name leads.1.0 is leads.0 leads.1.1) leads.1.2

skips_is_refused : IsOfASlot m 2 ⊎ IsOfARow (retired_by skips) 2 ⊎ IsOfABlock m 2 → ⊥
skips_is_refused (inl (s, field, word, at, way)) =
    leads_not way.0 word (one_such spares (slice_index_or m.slots s []) field word (row_such spares m.slots s refl) at) way.1
skips_is_refused (inr (inl (i, way))) = subst (λ (row : Row). OneLeadsTo m 2 (words_of_row row)) (all_rest i) way
skips_is_refused (inr (inr (t, field, word, there, at, way))) = no_words m bare t field word at

-- The right plan puts block 2 behind block 1: from the batch's word block 3 is named, from there the first block, and from that one block 2.
right_reaches : IsOfASlot (retired_by (settle_plan plain)).memory 2
right_reaches = (0, BATCH, link_to 3, refl, (Entry 3 FIRST ∷ Entry 1 NEXT ∷ [], (refl, (link_to 1, refl, (refl, (link_to 2, refl, (omega arith, refl)))))))
