-- The waiting-set model on changes worked by hand.
use Rattle.std.proofs.Common.{◌≡◌, ℕ, zero, suc, List, [], ◌∷◌, ◌++◌, refl}
use Rattle.seize.specs.WaitingSets.{Change, Enters, Leaves, Refreshes, Retires, Flushes, Defers, Ends, ReclaimsAll, Sets, at_start, all_changed}

-- what is reclaimed by these changes, from the start on
abbrev back : ℕ → List Change → List ℕ
back batch_size changes = (all_changed batch_size changes at_start).reclaimed

-- and the sets after them
abbrev after : ℕ → List Change → Sets
after batch_size changes = (all_changed batch_size changes at_start).sets

-- before the only guard leaves, nothing is reclaimed
guarded_alone : back 1 (Enters 0 ∷ Retires 0 1 ∷ []) ≡ []
guarded_alone = refl

-- the full batch is closed, and waits for the slot of the guard
closed_alone : (after 1 (Enters 0 ∷ Retires 0 1 ∷ [])).closed ≡ record { retired = 1 ∷ []; waits_for = 0 ∷ [] } ∷ []
closed_alone = refl

-- the open batch is empty again
opened_alone : (after 1 (Enters 0 ∷ Retires 0 1 ∷ [])).open_batch 0 ≡ []
opened_alone = refl

-- as the only guard leaves, its number is given back
left_alone : back 1 (Enters 0 ∷ Retires 0 1 ∷ Leaves 0 ∷ []) ≡ 1 ∷ []
left_alone = refl

-- nothing is left to wait
none_closed_alone : (after 1 (Enters 0 ∷ Retires 0 1 ∷ Leaves 0 ∷ [])).closed ≡ []
none_closed_alone = refl

-- slots are active in ascending order, however they entered
active_ascending : (after 1 (Enters 2 ∷ Enters 0 ∷ Enters 1 ∷ [])).active ≡ 0 ∷ 1 ∷ 2 ∷ []
active_ascending = refl

-- two active slots against one entry, so that the batch is not closed
two_against_one : List Change
two_against_one = Enters 0 ∷ Enters 1 ∷ Retires 0 1 ∷ Leaves 0 ∷ Leaves 1 ∷ []

-- and neither leave reclaims it
none_of_two_against_one : back 1 two_against_one ≡ []
unfolding two_against_one
none_of_two_against_one = refl

-- no batch is closed
not_closed_of_two_against_one : (after 1 two_against_one).closed ≡ []
unfolding two_against_one
not_closed_of_two_against_one = refl

-- the number stays in the open batch
open_of_two_against_one : (after 1 two_against_one).open_batch 0 ≡ 1 ∷ []
unfolding two_against_one
open_of_two_against_one = refl

-- the next number makes the batch long enough, and it goes as a whole
later_of_two_against_one : back 1 (two_against_one ++ Enters 0 ∷ Retires 0 2 ∷ Leaves 0 ∷ []) ≡ 1 ∷ 2 ∷ []
unfolding two_against_one
later_of_two_against_one = refl

-- a batch of two waits for two slots
two_waited_for : List Change
two_waited_for = Enters 0 ∷ Enters 1 ∷ Retires 0 1 ∷ Retires 0 2 ∷ []

-- the full batch is closed with both slots
closed_for_two : (after 2 two_waited_for).closed ≡ record { retired = 1 ∷ 2 ∷ []; waits_for = 0 ∷ 1 ∷ [] } ∷ []
unfolding two_waited_for
closed_for_two = refl

-- one of the two has left, and the batch still waits for the other
one_of_two_left : back 2 (two_waited_for ++ Leaves 0 ∷ []) ≡ []
unfolding two_waited_for
one_of_two_left = refl

-- and is out of the batch's set
closed_for_the_other : (after 2 (two_waited_for ++ Leaves 0 ∷ [])).closed ≡ record { retired = 1 ∷ 2 ∷ []; waits_for = 1 ∷ [] } ∷ []
unfolding two_waited_for
closed_for_the_other = refl

-- a refresh of the other is enough
other_refreshed : back 2 (two_waited_for ++ Leaves 0 ∷ Refreshes 1 ∷ []) ≡ 1 ∷ 2 ∷ []
unfolding two_waited_for
other_refreshed = refl

-- and the refreshed slot stays active
refreshed_is_active : (after 2 (two_waited_for ++ Leaves 0 ∷ Refreshes 1 ∷ [])).active ≡ 1 ∷ []
unfolding two_waited_for
refreshed_is_active = refl

-- a slot that enters after the close is not waited for
entered_later : back 1 (Enters 0 ∷ Retires 0 1 ∷ Enters 1 ∷ Leaves 0 ∷ []) ≡ 1 ∷ []
entered_later = refl

-- a batch below the size stays open as its guard leaves
below_the_size : back 2 (Enters 0 ∷ Retires 0 1 ∷ Leaves 0 ∷ []) ≡ []
below_the_size = refl

-- its number is still in it
open_below_the_size : (after 2 (Enters 0 ∷ Retires 0 1 ∷ Leaves 0 ∷ [])).open_batch 0 ≡ 1 ∷ []
open_below_the_size = refl

-- and is reclaimed where all is reclaimed
all_below_the_size : back 2 (Enters 0 ∷ Retires 0 1 ∷ Leaves 0 ∷ ReclaimsAll ∷ []) ≡ 1 ∷ []
all_below_the_size = refl

-- of two closed batches the newer goes first, each in the order of retiring
newest_first : back 2 (Enters 0 ∷ Retires 0 1 ∷ Retires 0 2 ∷ Retires 0 3 ∷ Retires 0 4 ∷ Leaves 0 ∷ []) ≡ 3 ∷ 4 ∷ 1 ∷ 2 ∷ []
newest_first = refl

-- a flush closes a batch below the size
flushed_below : back 5 (Enters 0 ∷ Retires 0 1 ∷ Flushes 0 ∷ Leaves 0 ∷ []) ≡ 1 ∷ []
flushed_below = refl

-- the flushed batch waits for the active slot
flushed_closes : (after 5 (Enters 0 ∷ Retires 0 1 ∷ Flushes 0 ∷ [])).closed ≡ record { retired = 1 ∷ []; waits_for = 0 ∷ [] } ∷ []
flushed_closes = refl

-- with no active slot a flush reclaims at once
flushed_blocking : back 5 (Retires 0 1 ∷ Flushes 0 ∷ []) ≡ 1 ∷ []
flushed_blocking = refl

-- a flush of nothing closes nothing
flushed_nothing : (after 5 (Enters 0 ∷ Flushes 0 ∷ [])).closed ≡ []
flushed_nothing = refl

-- a flush leaves a batch open that has fewer entries than slots are active
flushed_too_few : (after 5 (Enters 0 ∷ Enters 1 ∷ Retires 0 1 ∷ Flushes 0 ∷ [])).closed ≡ []
flushed_too_few = refl

-- with no active slot a full batch goes at once, and one below the size stays
retired_blocking : back 2 (Retires 0 1 ∷ Retires 0 2 ∷ Retires 0 3 ∷ []) ≡ 1 ∷ 2 ∷ []
retired_blocking = refl

-- batch size 0 acts as 1
zero_as_one : back 0 (Enters 0 ∷ Retires 0 1 ∷ Leaves 0 ∷ []) ≡ 1 ∷ []
zero_as_one = refl

-- and waits for the guard no less
zero_as_one_before : back 0 (Enters 0 ∷ Retires 0 1 ∷ []) ≡ []
zero_as_one_before = refl

-- open batches are reclaimed in ascending order of their slots, where all is reclaimed
all_ascending : back 9 (Enters 0 ∷ Enters 1 ∷ Retires 1 2 ∷ Retires 0 1 ∷ ReclaimsAll ∷ []) ≡ 1 ∷ 2 ∷ []
all_ascending = refl

-- and afterwards no slot is active, and nothing is open
none_active : (after 9 (Enters 0 ∷ Enters 1 ∷ Retires 1 2 ∷ Retires 0 1 ∷ ReclaimsAll ∷ [])).active ≡ []
none_active = refl

-- no slot has an open number left
none_open : (after 9 (Enters 0 ∷ Enters 1 ∷ Retires 1 2 ∷ Retires 0 1 ∷ ReclaimsAll ∷ [])).open_batch 1 ≡ []
none_open = refl

-- closed batches go before the open ones, where all is reclaimed
closed_before_open : back 2 (Enters 0 ∷ Enters 1 ∷ Retires 0 1 ∷ Retires 1 2 ∷ Retires 1 3 ∷ ReclaimsAll ∷ []) ≡ 2 ∷ 3 ∷ 1 ∷ []
closed_before_open = refl

-- the numbers from n down to 1
abbrev down : ℕ → List ℕ
down zero = []
down (suc n) = suc n ∷ down n

-- the numbers from 1 up to n are retired under a guard of slot 0, each with a flush behind it
abbrev each_flushed : ℕ → List Change
each_flushed zero = Enters 0 ∷ []
each_flushed (suc n) = each_flushed n ++ Retires 0 (suc n) ∷ Flushes 0 ∷ []

-- before the guard leaves, none of the thirty is reclaimed
thirty_flushed : back 5 (each_flushed 30) ≡ []
thirty_flushed = refl

-- the last retired is reclaimed first
thirty_left : back 5 (each_flushed 30 ++ Leaves 0 ∷ []) ≡ down 30
thirty_left = refl

-- the list above at a small number
down_three : down 3 ≡ 3 ∷ 2 ∷ 1 ∷ []
down_three = refl

-- what a number puts is reclaimed right after it
put_behind : back 1 (Enters 0 ∷ Defers 2 1 ∷ Retires 0 1 ∷ Leaves 0 ∷ []) ≡ 1 ∷ 2 ∷ []
put_behind = refl

-- and what that one puts, too
put_behind_that : back 1 (Enters 0 ∷ Defers 2 1 ∷ Defers 3 2 ∷ Retires 0 1 ∷ Leaves 0 ∷ []) ≡ 1 ∷ 2 ∷ 3 ∷ []
put_behind_that = refl

-- the one put last comes first
last_put_first : back 1 (Enters 0 ∷ Defers 2 1 ∷ Defers 3 1 ∷ Retires 0 1 ∷ Leaves 0 ∷ []) ≡ 1 ∷ 3 ∷ 2 ∷ []
last_put_first = refl

-- what a batch puts comes before the next batch
before_the_next : back 1 (Enters 0 ∷ Defers 5 2 ∷ Retires 0 1 ∷ Retires 0 2 ∷ Leaves 0 ∷ []) ≡ 2 ∷ 5 ∷ 1 ∷ []
before_the_next = refl

-- what is put goes to the open batch, and waits where that is short
put_into_open : (after 2 (Enters 0 ∷ Defers 3 1 ∷ Retires 0 1 ∷ Retires 0 2 ∷ Leaves 0 ∷ [])).open_batch 0 ≡ 3 ∷ []
put_into_open = refl

-- a refresh does not take the slot out of the set of what it puts itself
refreshed_once : back 1 (Enters 0 ∷ Defers 5 1 ∷ Retires 0 1 ∷ Refreshes 0 ∷ []) ≡ 1 ∷ []
refreshed_once = refl

refreshed_and_left : back 1 (Enters 0 ∷ Defers 5 1 ∷ Retires 0 1 ∷ Refreshes 0 ∷ Leaves 0 ∷ []) ≡ 1 ∷ 5 ∷ []
refreshed_and_left = refl

-- what is put waits for the slots that are active then
put_for_the_other : List Change
put_for_the_other = Enters 0 ∷ Enters 1 ∷ Defers 2 1 ∷ Defers 3 1 ∷ Retires 0 1 ∷ Retires 0 9 ∷ Leaves 1 ∷ Enters 1 ∷ Leaves 0 ∷ []

given_to_the_other : back 2 put_for_the_other ≡ 1 ∷ 9 ∷ []
unfolding put_for_the_other
given_to_the_other = refl

closed_for_the_later : (after 2 put_for_the_other).closed ≡ record { retired = 3 ∷ 2 ∷ []; waits_for = 1 ∷ [] } ∷ []
unfolding put_for_the_other
closed_for_the_later = refl

-- all is reclaimed, round by round: what is put comes after the open batches of all slots
rounds : back 9 (Enters 0 ∷ Enters 1 ∷ Defers 3 1 ∷ Retires 0 1 ∷ Retires 1 2 ∷ ReclaimsAll ∷ []) ≡ 1 ∷ 2 ∷ 3 ∷ []
rounds = refl

-- a guard that was forgotten is made to leave
forgotten_leaves : back 1 (Enters 0 ∷ Retires 0 1 ∷ ReclaimsAll ∷ []) ≡ 1 ∷ []
forgotten_leaves = refl

-- what is behind a number goes with it as it ends, and is reclaimed no more
ended_with_it : (after 1 (Enters 0 ∷ Defers 2 1 ∷ Defers 3 9 ∷ Ends 1 ∷ [])).further ≡ record { number = 3; behind = 9 } ∷ []
ended_with_it = refl

gone_with_it : back 1 (Enters 0 ∷ Defers 2 1 ∷ Ends 1 ∷ Retires 0 1 ∷ Leaves 0 ∷ ReclaimsAll ∷ []) ≡ 1 ∷ []
gone_with_it = refl
