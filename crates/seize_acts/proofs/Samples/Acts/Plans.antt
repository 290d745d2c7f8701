-- Wrong plans, each of them stepped in a world of a few blocks, and the clause of a law that is false of what it leaves.
use Rattle.std.specs.Prelude.{Some, None, Err}
use Rattle.std.proofs.Common.{◌≡◌, ℕ, zero, suc, ◌*◌, Bool, true, false, cond, eqb, List, [], ◌∷◌, ◌++◌, refl, arith, inl, inr, subst, sym, ap, ◌∙◌}
use Rattle.seize_words.specs.OneMemory.Word.{link_to, block_in}
use Rattle.seize_words.specs.declared.at.At.TheVariants.{Root, Slot, Entry}
use Rattle.seize_words.specs.OneMemory.Mem.{Mem, word_at}
use Rattle.seize_words.specs.OneMemory.Op.{Out, Load, Store, Exchange, Make, Take, Exchanged}
use Rattle.seize_words.specs.OneMemory.Plan.{Plan, Then, Do, Now}
use Rattle.seize.specs.declared.states.TheConstants.{BATCH, HELD}
use Rattle.seize.specs.declared.advance.Advance.{Advance}
use Rattle.seize.specs.declared.advance.Advance.TheVariants as progress
use Rattle.seize.specs.declared.rows.settle.Settle.{Settle}
use Rattle.seize.specs.declared.rows.settle.Settling.TheVariants as settling
use Rattle.seize.specs.declared.rows.settle.Settled.{Settled}
use Rattle.seize.specs.declared.rows.settle.Settled.TheVariants as settled
use Rattle.seize.specs.declared.rows.defer.Defer.{Defer}
use Rattle.seize.specs.Settle.{settle_plan, taken_hold, flushing}
use Rattle.seize.specs.Defer.{defer_plan, after_push}
use Rattle.seize.specs.Further.{FurtherAre, FurtherFrom, ListFrom}
use Rattle.seize.specs.Law.{holds, IsSound}
use Rattle.seize.specs.WaitingSets.{is_one_of}
use Rattle.seize.specs.World.{World, Row, Rests, IsOnto, Settles, Handed, Cutting, Leave', Retire, Flush, Defer', at_start}
use Rattle.seize_model.specs.Ends.Holders.{has_batch}
use Rattle.seize_acts.specs.Acts.Answers.{stepped}
use Rattle.seize_acts.specs.Acts.Acts.{Begin, Step, Operate, Links, Unlinks, Ends, LeavesOver, MayTake, NoRootNames, AllMayChange}
use Rattle.seize_acts.specs.Acts.Laws.{IsNotLost}
use Rattle.seize_acts.specs.Acts.Waits.{AnotherHasIt}
use Rattle.seize_acts.proofs.Samples.Acts.Base.{plain, lists, or_start, after, on, enters, links, settle_by, defer_by}
use Rattle.seize_words.proofs.General.{same_some}

-- A retirement that loses its exchange for the batch ends, and forgets its block: refused by `NothingIsLost`.

abbrev forgotten : Settle → Out ℕ → Then ℕ (Settle × Settled ℕ)
forgotten c (Exchanged (Err word)) = Now (c, settled.Done)
forgotten c out = taken_hold c out

abbrev forgets : Settle → Plan ℕ (Settle × Settled ℕ)
forgets c = Do (Exchange (Slot c.slot BATCH) c.last HELD) (forgotten c)

-- caller 0 retires block 1 and has seen that slot 0 has no batch; caller 1, which flushes, has just taken hold of it
abbrev raced : World ℕ
raced = after plain 1 (enters ++ links
    ++ Operate 0 (Store (Root 0) 0) None (Unlinks 1 ∷ []) ∷ Begin 0 (Retire 0 1) None ∷ Begin 1 (Flush 0) None ∷ Step 1 None ∷ []) (at_start plain 1)

-- caller 0 takes its next step by this plan, then caller 1 goes on to its end, and then caller 0
abbrev retired_by : (Settle → Plan ℕ (Settle × Settled ℕ)) → World ℕ
retired_by plan = on plain 1 30 0 (on plain 1 9 1 (or_start (settle_by plan (raced.row 0) raced)))

all_rest : (i : ℕ) → (retired_by forgets).row i ≡ Rests
all_rest zero = refl
all_rest (suc zero) = refl
all_rest (suc (suc i)) = grind arith

is_handed : (retired_by forgets).hand 1 ≡ Handed
is_handed = refl

none_behind : (w : World ℕ) (t : ℕ) (further : List ℕ) → FurtherAre plain w.memory t further → is_one_of 1 further ≡ true → ⊥
none_behind w t [] are e = absurd (cc e)
none_behind w t (c ∷ further) are e = absurd (cc are.2)

forgets_is_refused : IsNotLost plain (retired_by forgets) 1 → ⊥
forgets_is_refused (inl e) = absurd (cc e)
forgets_is_refused (inr e) = none_behind (retired_by forgets) e.0 e.1 e.2 e.3

-- The right plan looks again, and retires its block.
right_rests : (i : ℕ) → (retired_by (settle_plan plain)).row i ≡ Rests
right_rests zero = refl
right_rests (suc zero) = refl
right_rests (suc (suc i)) = grind arith

right_retires : IsNotLost plain (retired_by (settle_plan plain)) 1
right_retires = inl refl

-- A deferral that loses its exchange ends, and drops its block: refused by `NothingIsLost`.

abbrev dropped : Defer → Out ℕ → Then ℕ (Defer × Advance Unit)
dropped c (Exchanged (Err head)) = Now (c, progress.Done tt)
dropped c out = after_push c out

abbrev drops : Defer → Plan ℕ (Defer × Advance Unit)
drops c = Do (Exchange c.table_word 0 c.block) (dropped c)

-- Block 1 has a list, and callers 0 and 1 defer blocks 2 and 3 on it: both have seen it empty, and caller 1 was faster.
abbrev deferred : World ℕ
deferred = after lists 1 (enters
    ++ Operate 0 (Make 5 1) (Some 1) (Links 1 3 ∷ []) ∷ Operate 0 (Make 7 0) (Some 2) (Links 2 3 ∷ []) ∷ Operate 0 (Make 8 0) (Some 3) (Links 3 3 ∷ [])
    ∷ Begin 0 (Defer' 0 2 1) None ∷ Begin 1 (Defer' 0 3 1) None ∷ Step 0 None ∷ Step 1 None ∷ Step 1 None ∷ []) (at_start lists 1)

abbrev deferred_by : (Defer → Plan ℕ (Defer × Advance Unit)) → World ℕ
deferred_by plan = on lists 1 9 0 (or_start (defer_by plan (deferred.row 0) deferred))

drops_rests : (i : ℕ) → (deferred_by drops).row i ≡ Rests
drops_rests zero = refl
drops_rests (suc zero) = refl
drops_rests (suc (suc i)) = grind arith

drops_handed : (deferred_by drops).hand 2 ≡ Handed
drops_handed = refl

-- Block 2 is on no list: that of block 1 has block 3 alone, and no other block has one.
abbrev m : Mem ℕ
m = (deferred_by drops).memory

last_is : (next : ℕ) (further : List ℕ) → Some 0 ≡ Some next → ListFrom m next further → is_one_of 2 (3 ∷ further) ≡ true → ⊥
last_is next [] e list one = cc one
last_is next (c ∷ further) e list one =
    let zero_is = same_some 0 next e in let some = list.1 in let word = list.2 in absurd (omega (arith, zero_is, some, word))

three_alone : (word : ℕ) (further : List ℕ) → Some (link_to 3) ≡ Some word → ListFrom m word further → is_one_of 2 further ≡ true → ⊥
three_alone word [] e list one = cc one
three_alone word (c ∷ further) e list one =
    let is = three c (same_some (link_to 3) word e ∙ list.2) in
    last_is list.0 further (subst (λ (b : ℕ). word_at m (Entry b 0) ≡ Some list.0) is list.3) list.4
    (subst (λ (b : ℕ). is_one_of 2 (b ∷ further) ≡ true) is one)
  where
    three : (c : ℕ) → 6144 ≡ c * 2048 → c ≡ 3
    three c k = omega (arith, k)

none_else : (further : List ℕ) → further ≡ [] → is_one_of 2 further ≡ true → ⊥
none_else further e one = let k = sym (ap (is_one_of 2) e) ∙ one in cc k

on_no_list : (t : ℕ) (further : List ℕ) → FurtherAre lists m t further → is_one_of 2 further ≡ true → ⊥
on_no_list zero further are one = cc are.1
on_no_list (suc zero) further are one =
    let list = subst (λ (v : ℕ). FurtherFrom m 1 (lists v) further) (sym (same_some 5 are.0 are.1)) are.2 in three_alone list.0 further list.1 list.2 one
on_no_list (suc (suc zero)) further are one = none_else further (subst (λ (v : ℕ). FurtherFrom m 2 (lists v) further) (sym (same_some 7 are.0 are.1)) are.2) one
on_no_list (suc (suc (suc zero))) further are one =
    none_else further (subst (λ (v : ℕ). FurtherFrom m 3 (lists v) further) (sym (same_some 8 are.0 are.1)) are.2) one
on_no_list (suc (suc (suc (suc t)))) further are one = absurd (grind (arith, are.1))

drops_is_refused : IsNotLost lists (deferred_by drops) 2 → ⊥
drops_is_refused (inl e) = absurd (cc e)
drops_is_refused (inr e) = on_no_list e.0 e.1 e.2 e.3

-- The right plan links its block anew, and puts it in front of the other one.
right_puts : IsNotLost lists (deferred_by defer_plan) 2
right_puts = inr (1, 2 ∷ 3 ∷ [], (5, refl, (link_to 2, refl, (link_to 3, omega arith, refl, refl, (0, omega arith, refl, refl, refl)))), refl)

-- A row that loses its exchange for the batch tries the same exchange again and again, and the word that it expects is gone: refused by
-- `RowsWaitForAHolder`.

abbrev insisted : Settle → Out ℕ → Then ℕ (Settle × Settled ℕ)
insisted c (Exchanged (Err word)) = Now (c, settled.Waits)
insisted c out = taken_hold c out

abbrev insists : Settle → Plan ℕ (Settle × Settled ℕ)
insists c = Do (Exchange (Slot c.slot BATCH) c.last HELD) (insisted c)

-- Caller 0 flushes, and has seen block 1 at the end of its slot's batch. Meanwhile caller 1 has retired block 2, which stands behind it now.
abbrev grown : World ℕ
grown =
    on plain 3 30 1 (after plain 3 (Begin 0 (Flush 0) None ∷ Begin 1 (Retire 0 2) None ∷ [])
    (on plain 3 30 0 (after plain 3 (enters ++ links ++ Operate 0 (Make 8 0) (Some 2) (Links 2 3 ∷ [])
    ∷ Operate 0 (Store (Root 0) 0) None (Unlinks 1 ∷ Unlinks 2 ∷ []) ∷ Begin 0 (Retire 0 1) None ∷ []) (at_start plain 1))))

abbrev flusher : Settle
flusher = record (flushing 0 3) { last = link_to 1; stands = settling.Holds }

-- its next step would wait
insists_waits : (grown.row 0 ≡ Settles flusher) × (stepped grown.memory None (insists flusher) ≡ Some (grown.memory, (flusher, settled.Waits)))
insists_waits = (refl, refl)

-- and nobody has a batch in hand
others_rest : (j : ℕ) → grown.row (suc (suc j)) ≡ Rests
others_rest j = grind arith

no_holder : (s j : ℕ) → has_batch s (grown.row j) ≡ true → ⊥
no_holder s zero has = cc has
no_holder s (suc zero) has = cc has
no_holder s (suc (suc j)) has = let none = ap (has_batch s) (others_rest j) in cc (none, has)

insists_is_refused : AnotherHasIt plain grown 0 → ⊥
insists_is_refused h = no_holder h.0 h.1 h.3

-- The right plan looks again.
right_looks_again :
    stepped grown.memory None (settle_plan plain flusher) ≡ Some (grown.memory, (record flusher { last = 0; stands = settling.Sees }, settled.Goes))
right_looks_again = refl

-- A user unlinks a block while its root still leads there: refused by what an act may change.

abbrev by_reading : World ℕ
by_reading = after plain 1 (links ++ Operate 0 (Load (Root 0)) None (Unlinks 1 ∷ []) ∷ []) (at_start plain 1)

is_cut : by_reading.hand 1 ≡ Cutting 0
is_cut = refl

unlinks_is_refused : AllMayChange plain by_reading (Unlinks 1 ∷ []) → ⊥
unlinks_is_refused may = may.0 refl 0 (link_to 1) refl refl

-- The right one takes it off the root by the same act.
abbrev by_writing : World ℕ
by_writing = after plain 1 (links ++ Operate 0 (Store (Root 0) 0) None (Unlinks 1 ∷ []) ∷ []) (at_start plain 1)

names_none : NoRootNames by_writing.memory 1
names_none zero word at names = let k : 0 ≡ 1 = ap (λ (w : ℕ). block_in w) (same_some 0 word at) ∙ names in cc k
names_none (suc r) word at names = cc at

right_unlinks : AllMayChange plain by_writing (Unlinks 1 ∷ [])
right_unlinks = ((λ alive. names_none), tt)

-- The end of a map takes away what its tables deferred, inside a section that holds it: refused by `ActsAreSound`.

-- Block 2 is deferred on block 1. Then their owner ends, and caller 1 takes block 1 off the root and leaves both over.
abbrev ended : World ℕ
ended = after lists 1 (Operate 1 (Load (Root 0)) None (Ends 3 ∷ []) ∷ Operate 1 (Store (Root 0) 0) None (Unlinks 1 ∷ LeavesOver 1 (2 ∷ []) ∷ []) ∷ [])
    (on lists 1 9 0 (after lists 1 (enters
    ++ Operate 0 (Make 5 1) (Some 1) (Links 1 3 ∷ []) ∷ Operate 0 (Make 7 0) (Some 2) (Links 2 3 ∷ []) ∷ Begin 0 (Defer' 0 2 1) None ∷ []) (at_start lists 1)))

nobody_defers : (j : ℕ) → IsOnto 1 (ended.row j) → ⊥
nobody_defers zero onto = onto
nobody_defers (suc j) onto = let none : ended.row (suc j) ≡ Rests = grind arith in subst (λ (row : Row). IsOnto 1 row) none onto

so_it_ended : AllMayChange lists ended (Unlinks 1 ∷ LeavesOver 1 (2 ∷ []) ∷ [])
so_it_ended = ((λ alive. absurd (cc alive)), ((nobody_defers, (5, refl, (link_to 2, refl, (0, omega arith, refl, refl, refl)))), tt))

-- it takes block 2 without asking who holds it
abbrev taken_away : World ℕ
taken_away = after lists 1 (Operate 1 (Take 2) None [] ∷ []) ended

held_inside : holds 0 2 ended.log ≡ true
held_inside = refl

takes_is_refused : IsSound taken_away.log → ⊥
takes_is_refused sound = elim sound.1 as (λ _. ⊥) [
  | inl over ↦ cc over
  | inr free ↦ let f = free 0 in cc f
]

-- The right end takes block 1, which was in use until its owner ended, and block 2 once the section has ended.
right_takes_table : MayTake lists (Take 1) ended
right_takes_table left = inl refl

abbrev left_slot : World ℕ
left_slot = on lists 1 9 0 (after lists 1 (Begin 0 (Leave' 0) None ∷ []) ended)

right_takes_later : MayTake lists (Take 2) left_slot
right_takes_later left = inr (λ s. by (eqb s 0))
  where
    by : (is : Bool) → cond is false (cond is true false) ≡ false
    by true = refl
    by false = refl
