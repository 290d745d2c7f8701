-- The language on lines and scripts worked by hand: examples that the definitions of specs/Words, Lines and Script.antt have to give. Nothing cites them.
use Rattle.std.proofs.Common.{◌≡◌, true, false, [], ◌∷◌, ◌++◌, Ok, Err, refl}
use Rattle.std.specs.Prelude.{codes}
use Rattle.papaya_raw.specs.Given.TablesDeclared.resize_mode.ResizeMode.TheVariants.{Incremental}
use Rattle.run_schedules.specs.declared.call.Call.TheVariants.{On, Reserve, Clear, Retain, Len, Walk}
use Rattle.run_schedules.specs.declared.call.OneKey.TheVariants.{Insert, TryInsert, Compute, RemoveIf}
use Rattle.run_schedules.specs.declared.call.Reply.TheVariants.{Gives, Removes, Aborts, Decides}
use Rattle.run_schedules.specs.declared.event.Event.TheVariants.{Collector, Hash, Choose, Register, Unregister, Own, Refresh, Flush, DropGuard, Forget, ReclaimAll, Close, MakeMap, EndMap, ShowShape, Begin, Step, Go, Replied, OneCall, Next, Stop}
use Rattle.run_schedules.specs.declared.key_hash.KeyHash.TheVariants.{Key, Zero}
use Rattle.reclaimed_script.specs.declared.fault.LineFault.TheVariants.{UnknownEvent, WrongNumberOfWords, BadWord}
use Rattle.reclaimed_script.specs.Words.{words_of, value_from, number_of}
use Rattle.reclaimed_script.specs.Lines.{hash_of, choose_of, register_of, unregister_of, refresh_of, flush_of, drop_of, forget_of, reclaim_all_of, close_of, own_of, incremental_of, map_of, end_of, shape_of, call_of, begin_of, step_of, go_of, reply_of, walk_next_of, stop_of, caller_event_from, map_event_from, guard_event_from, event_from, event_of_words, event_of}
use Rattle.reclaimed_script.specs.Calls.{one_number, one_value, key_and_value, key_call_from, whole_call_from, call_from, call_said, reply_from, reply_said}
use Rattle.reclaimed_script.specs.Script.{lines_of, events_of, line_at, script_from, script_of, usual_setup, setup_of, hasher_of}

no_line : lines_of [] ≡ []
no_line = refl

last_line_without_feed : lines_of (codes "a" ++ 10 ∷ 10 ∷ codes "b") ≡ codes "a" ∷ [] ∷ codes "b" ∷ []
last_line_without_feed = refl

last_line_with_feed : lines_of (codes "a" ++ 10 ∷ []) ≡ codes "a" ∷ []
last_line_with_feed = refl

two_spaces : words_of (codes "a  b ") ≡ codes "a" ∷ [] ∷ codes "b" ∷ [] ∷ []
two_spaces = refl

zero_number : number_of (codes "0") ≡ Ok 0
unfolding number_of value_from
zero_number = refl

greatest_number : number_of (codes "18446744073709551615") ≡ Ok 18446744073709551615
unfolding number_of value_from
greatest_number = refl

number_above : number_of (codes "18446744073709551616") ≡ Err BadWord
unfolding number_of value_from
number_above = refl

leading_zero : number_of (codes "07") ≡ Err BadWord
unfolding number_of value_from
leading_zero = refl

map_with_no_places : event_of (codes "map m inc 0 16") ≡ Ok (MakeMap (codes "m") (Incremental 0) 16)
unfolding event_of event_of_words event_from guard_event_from map_event_from map_of incremental_of number_of value_from
map_with_no_places = refl

whole_insert : event_of (codes "call g m insert 7 v_1") ≡ Ok (OneCall (codes "g") (codes "m") (On (Insert 7 (codes "v_1"))))
unfolding event_of event_of_words event_from guard_event_from map_event_from caller_event_from call_of call_said call_from key_and_value number_of value_from
whole_insert = refl

whole_try_insert : event_of (codes "call g m try_insert 7 v_1") ≡ Ok (OneCall (codes "g") (codes "m") (On (TryInsert 7 (codes "v_1"))))
unfolding event_of event_of_words event_from guard_event_from map_event_from caller_event_from call_of call_said call_from key_and_value number_of value_from
whole_try_insert = refl

try_insert_of_no_value : event_of (codes "call g m try_insert 7") ≡ Err WrongNumberOfWords
unfolding event_of event_of_words event_from guard_event_from map_event_from caller_event_from call_of call_said call_from key_and_value
try_insert_of_no_value = refl

whole_reservation : event_of (codes "call g m reserve 24") ≡ Ok (OneCall (codes "g") (codes "m") (Reserve 24))
unfolding event_of event_of_words event_from guard_event_from map_event_from caller_event_from call_of call_said call_from whole_call_from one_number number_of value_from
whole_reservation = refl

unknown_call : event_of (codes "call g m put 1 2 3") ≡ Err BadWord
unfolding event_of event_of_words event_from guard_event_from map_event_from caller_event_from call_of call_said call_from whole_call_from key_call_from
unknown_call = refl

keys_are_hashes : event_of (codes "hash key") ≡ Ok (Hash Key)
unfolding event_of event_of_words event_from hash_of
keys_are_hashes = refl

hashes_are_zero : event_of (codes "hash zero") ≡ Ok (Hash Zero)
unfolding event_of event_of_words event_from hash_of
hashes_are_zero = refl

unknown_hash : event_of (codes "hash one") ≡ Err BadWord
unfolding event_of event_of_words event_from hash_of
unknown_hash = refl

hash_of_no_word : event_of (codes "hash") ≡ Err WrongNumberOfWords
unfolding event_of event_of_words event_from hash_of
hash_of_no_word = refl

shown_map : event_of (codes "shape m") ≡ Ok (ShowShape (codes "m"))
unfolding event_of event_of_words event_from guard_event_from map_event_from shape_of
shown_map = refl

ended_map : event_of (codes "end m") ≡ Ok (EndMap (codes "m"))
unfolding event_of event_of_words event_from guard_event_from map_event_from end_of
ended_map = refl

end_of_no_map : event_of (codes "end") ≡ Err WrongNumberOfWords
unfolding event_of event_of_words event_from guard_event_from map_event_from end_of
end_of_no_map = refl

greatest_choice : event_of (codes "choose 18446744073709551615") ≡ Ok (Choose 18446744073709551615)
unfolding event_of event_of_words event_from choose_of number_of value_from
greatest_choice = refl

choice_of_letters : event_of (codes "choose ff") ≡ Err BadWord
unfolding event_of event_of_words event_from choose_of number_of
choice_of_letters = refl

ended_registration : event_of (codes "unregister r") ≡ Ok (Unregister (codes "r"))
unfolding event_of event_of_words event_from unregister_of
ended_registration = refl

refreshed_guard : event_of (codes "refresh g") ≡ Ok (Refresh (codes "g"))
unfolding event_of event_of_words event_from guard_event_from refresh_of
refreshed_guard = refl

refresh_of_no_guard : event_of (codes "refresh") ≡ Err WrongNumberOfWords
unfolding event_of event_of_words event_from guard_event_from refresh_of
refresh_of_no_guard = refl

flushed_guard : event_of (codes "flush g") ≡ Ok (Flush (codes "g"))
unfolding event_of event_of_words event_from guard_event_from flush_of
flushed_guard = refl

forgotten_guard : event_of (codes "forget g") ≡ Ok (Forget (codes "g"))
unfolding event_of event_of_words event_from guard_event_from forget_of
forgotten_guard = refl

everything_reclaimed : event_of (codes "reclaim_all") ≡ Ok ReclaimAll
unfolding event_of event_of_words event_from reclaim_all_of
everything_reclaimed = refl

word_behind_reclaim_all : event_of (codes "reclaim_all g") ≡ Err WrongNumberOfWords
unfolding event_of event_of_words event_from reclaim_all_of
word_behind_reclaim_all = refl

space_behind_reclaim_all : event_of (codes "reclaim_all ") ≡ Err WrongNumberOfWords
unfolding event_of event_of_words event_from reclaim_all_of
space_behind_reclaim_all = refl

closed_collector : event_of (codes "close") ≡ Ok Close
unfolding event_of event_of_words event_from close_of
closed_collector = refl

word_behind_close : event_of (codes "close m") ≡ Err WrongNumberOfWords
unfolding event_of event_of_words event_from close_of
word_behind_close = refl

unknown_mode : event_of (codes "map m grow") ≡ Err BadWord
unfolding event_of event_of_words event_from guard_event_from map_event_from map_of
unknown_mode = refl

words_before_their_kind : event_of (codes "register a_b c") ≡ Err WrongNumberOfWords
unfolding event_of event_of_words event_from register_of
words_before_their_kind = refl

owned_guard : event_of (codes "own g") ≡ Ok (Own (codes "g"))
unfolding event_of event_of_words event_from guard_event_from own_of
owned_guard = refl

begun_compute : event_of (codes "begin c g m compute 7") ≡ Ok (Begin (codes "c") (codes "g") (codes "m") (On (Compute 7)))
unfolding event_of event_of_words event_from guard_event_from map_event_from caller_event_from begin_of call_said call_from whole_call_from key_call_from one_number number_of value_from
begun_compute = refl

begun_without_a_name : event_of (codes "begin - g m walk") ≡ Ok (Begin (codes "-") (codes "g") (codes "m") Walk)
unfolding event_of event_of_words event_from guard_event_from map_event_from caller_event_from begin_of call_said call_from whole_call_from
begun_without_a_name = refl

guard_without_a_name : event_of (codes "begin c - m walk") ≡ Err BadWord
unfolding event_of event_of_words event_from guard_event_from map_event_from caller_event_from begin_of call_said call_from whole_call_from
guard_without_a_name = refl

begun_nothing : event_of (codes "begin c g m") ≡ Err WrongNumberOfWords
unfolding event_of event_of_words event_from guard_event_from map_event_from caller_event_from begin_of call_said
begun_nothing = refl

whole_remove_if : event_of (codes "call g m remove_if 7") ≡ Ok (OneCall (codes "g") (codes "m") (On (RemoveIf 7)))
unfolding event_of event_of_words event_from guard_event_from map_event_from caller_event_from call_of call_said call_from whole_call_from key_call_from one_number number_of value_from
whole_remove_if = refl

whole_clear : event_of (codes "call g m clear") ≡ Ok (OneCall (codes "g") (codes "m") Clear)
unfolding event_of event_of_words event_from guard_event_from map_event_from caller_event_from call_of call_said call_from whole_call_from
whole_clear = refl

whole_retain : event_of (codes "call g m retain") ≡ Ok (OneCall (codes "g") (codes "m") Retain)
unfolding event_of event_of_words event_from guard_event_from map_event_from caller_event_from call_of call_said call_from whole_call_from
whole_retain = refl

whole_len : event_of (codes "call g m len") ≡ Ok (OneCall (codes "g") (codes "m") Len)
unfolding event_of event_of_words event_from guard_event_from map_event_from caller_event_from call_of call_said call_from whole_call_from
whole_len = refl

word_behind_len : event_of (codes "call g- m len 7") ≡ Err WrongNumberOfWords
unfolding event_of event_of_words event_from guard_event_from map_event_from caller_event_from call_of call_said call_from whole_call_from
word_behind_len = refl

one_step : event_of (codes "step c") ≡ Ok (Step (codes "c") false)
unfolding event_of event_of_words event_from guard_event_from map_event_from caller_event_from step_of
one_step = refl

one_step_without_memory : event_of (codes "step c nomem") ≡ Ok (Step (codes "c") true)
unfolding event_of event_of_words event_from guard_event_from map_event_from caller_event_from step_of
one_step_without_memory = refl

steps_without_memory : event_of (codes "go - nomem") ≡ Ok (Go (codes "-") true)
unfolding event_of event_of_words event_from guard_event_from map_event_from caller_event_from go_of
steps_without_memory = refl

other_word_behind_go : event_of (codes "go c mem") ≡ Err BadWord
unfolding event_of event_of_words event_from guard_event_from map_event_from caller_event_from go_of
other_word_behind_go = refl

third_word_behind_go : event_of (codes "go c nomem nomem") ≡ Err WrongNumberOfWords
unfolding event_of event_of_words event_from guard_event_from map_event_from caller_event_from go_of
third_word_behind_go = refl

reply_of_a_value : event_of (codes "reply c insert v_1") ≡ Ok (Replied (codes "c") (Gives (codes "v_1")))
unfolding event_of event_of_words event_from guard_event_from map_event_from caller_event_from reply_of reply_said reply_from one_value
reply_of_a_value = refl

reply_to_remove : event_of (codes "reply c remove") ≡ Ok (Replied (codes "c") Removes)
unfolding event_of event_of_words event_from guard_event_from map_event_from caller_event_from reply_of reply_said reply_from
reply_to_remove = refl

reply_to_abort : event_of (codes "reply - abort w") ≡ Ok (Replied (codes "-") (Aborts (codes "w")))
unfolding event_of event_of_words event_from guard_event_from map_event_from caller_event_from reply_of reply_said reply_from one_value
reply_to_abort = refl

reply_of_yes : event_of (codes "reply c yes") ≡ Ok (Replied (codes "c") (Decides true))
unfolding event_of event_of_words event_from guard_event_from map_event_from caller_event_from reply_of reply_said reply_from
reply_of_yes = refl

reply_of_no : event_of (codes "reply c no") ≡ Ok (Replied (codes "c") (Decides false))
unfolding event_of event_of_words event_from guard_event_from map_event_from caller_event_from reply_of reply_said reply_from
reply_of_no = refl

unknown_reply : event_of (codes "reply c maybe v w") ≡ Err BadWord
unfolding event_of event_of_words event_from guard_event_from map_event_from caller_event_from reply_of reply_said reply_from
unknown_reply = refl

no_reply : event_of (codes "reply c") ≡ Err WrongNumberOfWords
unfolding event_of event_of_words event_from guard_event_from map_event_from caller_event_from reply_of reply_said
no_reply = refl

next_pair : event_of (codes "next c") ≡ Ok (Next (codes "c"))
unfolding event_of event_of_words event_from guard_event_from map_event_from caller_event_from walk_next_of
next_pair = refl

stopped_walk : event_of (codes "stop -") ≡ Ok (Stop (codes "-"))
unfolding event_of event_of_words event_from guard_event_from map_event_from caller_event_from stop_of
stopped_walk = refl

space_in_front : event_of (codes " drop g") ≡ Err UnknownEvent
unfolding event_of event_of_words event_from guard_event_from map_event_from caller_event_from
space_in_front = refl

faulty_third_line : script_of (codes "drop g" ++ 10 ∷ 10 ∷ codes "drop") ≡ Err (3, WrongNumberOfWords)
unfolding script_from line_at events_of event_of event_of_words event_from guard_event_from drop_of
faulty_third_line = refl

whole_script : script_of (10 ∷ codes "drop g" ++ 10 ∷ codes "register r" ++ 10 ∷ []) ≡ Ok (DropGuard (codes "g") ∷ Register (codes "r") ∷ [])
unfolding script_from line_at events_of event_of event_of_words event_from guard_event_from drop_of register_of
whole_script = refl

setup_behind_another : setup_of (DropGuard (codes "g") ∷ Collector (record { batch_size = 1; processors = 2; roots = 3 }) ∷ []) ≡ usual_setup
setup_behind_another = refl

no_hash_line : hasher_of (DropGuard (codes "g") ∷ []) ≡ Key
no_hash_line = refl

last_hash_line : hasher_of (Hash Zero ∷ DropGuard (codes "g") ∷ Hash Key ∷ Hash Zero ∷ []) ≡ Zero
last_hash_line = refl

hash_behind_a_map : hasher_of (Hash Key ∷ MakeMap (codes "m") (Incremental 0) 16 ∷ Hash Zero ∷ []) ≡ Key
hash_behind_a_map = refl
