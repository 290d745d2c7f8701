-- What the laws promise, clause by clause: the one file of lemmas that crates above the collector cite.
use Rattle.std.proofs.Common.{ℕ, suc, [], ◌∷◌, refl}
use Rattle.seize.specs.WaitingSets.{Enters, Leaves, Refreshes, Retires, Flushes, Defers, Ends, ReclaimsAll, size}
use Rattle.seize_moves.specs.Waiting.Laws.{TidyAtStart, OpenIsHeld, ChangesKeep, ChangesFollow, OthersAreLeftAlone, ActiveSlotsWait, RoundsTakeAway, NothingIsLeft, EndsLeave}
use Rattle.seize_moves.specs.Waiting.Lists.{ListsAddUp, UncountedIsNotThere, AgreeOnLists, SlotsCome, SlotsGo, KeptAreDeferredOnOthers, EachIsListed}
use Rattle.seize_moves.proofs.Waiting.Behind.{behind_others, each_listed}
use Rattle.seize_moves.proofs.Waiting.Counts.{count-append, not_one, map_same}
use Rattle.seize_moves.proofs.Waiting.Emptied.{size_falls, all_reclaimed_empty}
use Rattle.seize_moves.proofs.Waiting.Ended.{ends_leave as ends}
use Rattle.seize_moves.proofs.Waiting.Flushes.{retired_all_frame, left_others, counted_frame, flushed_frame}
use Rattle.seize_moves.proofs.Waiting.Held.{open_all_counts}
use Rattle.seize_moves.proofs.Waiting.Kept.{changed_keeps, all_changed-append}
use Rattle.seize_moves.proofs.Waiting.Quiet.{retires_quietly}
use Rattle.seize_moves.proofs.Waiting.Tidy.{tidy_start, slot_counted, without_counted}

pub tidy_at_start : TidyAtStart
tidy_at_start = tidy_start

pub open_is_held : OpenIsHeld
open_is_held = open_all_counts

pub others_are_left_alone : (batch_size : ℕ) → OthersAreLeftAlone batch_size
others_are_left_alone batch_size (Enters s) t w alone = refl
others_are_left_alone batch_size (Leaves s) t w alone = left_others batch_size s w t alone
others_are_left_alone batch_size (Refreshes s) t w alone = (counted_frame batch_size s w).others t alone
others_are_left_alone batch_size (Retires s n) t w alone = (retired_all_frame batch_size (suc (size w)) s (n ∷ []) w).others t alone
others_are_left_alone batch_size (Flushes s) t w alone = (flushed_frame batch_size s w).others t alone
others_are_left_alone batch_size (Defers n behind) t w alone = refl
others_are_left_alone batch_size (Ends n) t w alone = refl
others_are_left_alone batch_size ReclaimsAll t w alone = absurd alone

pub changes_keep : (batch_size : ℕ) → ChangesKeep batch_size
changes_keep = changed_keeps

pub changes_follow : (batch_size : ℕ) → ChangesFollow batch_size
changes_follow = all_changed-append

pub active_slots_wait : (batch_size : ℕ) → ActiveSlotsWait batch_size
active_slots_wait = retires_quietly

pub rounds_take_away : (batch_size : ℕ) → RoundsTakeAway batch_size
rounds_take_away = size_falls

pub nothing_is_left : (batch_size : ℕ) → NothingIsLeft batch_size
nothing_is_left = all_reclaimed_empty

pub ends_leave : (batch_size : ℕ) → EndsLeave batch_size
ends_leave = ends

pub lists_add_up : ListsAddUp
lists_add_up = count-append

pub uncounted_is_not_there : UncountedIsNotThere
uncounted_is_not_there = not_one

pub agree_on_lists : AgreeOnLists
agree_on_lists = map_same

pub slots_come : SlotsCome
slots_come = slot_counted

pub slots_go : SlotsGo
slots_go = without_counted

pub kept_are_behind_others : KeptAreDeferredOnOthers
kept_are_behind_others = behind_others

pub each_is_listed : EachIsListed
each_is_listed = each_listed
