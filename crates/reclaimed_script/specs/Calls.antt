-- The call that words say, what words reply to a call that asks, and the growth that `nomem` refuses.
use Rattle.std.specs.Prelude.{ℕ, Bool, true, false, List, [], ◌∷◌, Result, Ok, Err, codes, bytes_eq, if◌then◌else◌}
use Rattle.run_schedules.specs.declared.call.Call.{Call}
use Rattle.run_schedules.specs.declared.call.Call.TheVariants.{On, Reserve, Clear, Retain, Len, Walk}
use Rattle.run_schedules.specs.declared.call.OneKey.TheVariants.{Get, Insert, TryInsert, Compute, Remove, RemoveIf}
use Rattle.run_schedules.specs.declared.call.Reply.{Reply}
use Rattle.run_schedules.specs.declared.call.Reply.TheVariants as replies
use Rattle.reclaimed_script.specs.declared.fault.LineFault.{LineFault}
use Rattle.reclaimed_script.specs.declared.fault.LineFault.TheVariants.{BadWord, WrongNumberOfWords}
use Rattle.reclaimed_script.specs.declared.calls.SaidCall.{SaidCall}
use Rattle.reclaimed_script.specs.declared.calls.SaidCall.TheVariants as said_calls
use Rattle.reclaimed_script.specs.declared.replies.SaidReply.{SaidReply}
use Rattle.reclaimed_script.specs.declared.replies.SaidReply.TheVariants as said_replies
use Rattle.reclaimed_script.specs.Words.{value_of, number_of, next_of, none_of, one_of, two_of, ◌>>=◌}

-- a call and a reply of a script: keys are numbers, and values words
abbrev pub ScriptCall : Type 0
ScriptCall = Call ℕ (List ℕ)

abbrev pub ScriptReply : Type 0
ScriptReply = Reply (List ℕ)

-- one number
unfoldable pub one_number : List (List ℕ) → Result ℕ LineFault
one_number words = do
  said ← one_of words
  number_of said

-- one value
unfoldable pub one_value : List (List ℕ) → Result (List ℕ) LineFault
one_value words = do
  said ← one_of words
  value_of said

-- a key and a value
unfoldable pub key_and_value : List (List ℕ) → Result (ℕ × List ℕ) LineFault
key_and_value words = do
  said ← two_of words
  key ← number_of said.0
  value ← value_of said.1
  Ok (key, value)

-- of calls that speak of a key alone the first word decides: `get k`, `remove k`, `remove_if k`, `compute k`
unfoldable pub key_call_from : List ℕ → List (List ℕ) → Result ScriptCall LineFault
key_call_from first words =
    if bytes_eq first (codes "get") then one_number words >>= (λ key. Ok (On (Get key)))
    else if bytes_eq first (codes "remove") then one_number words >>= (λ key. Ok (On (Remove key)))
    else if bytes_eq first (codes "remove_if") then one_number words >>= (λ key. Ok (On (RemoveIf key)))
    else if bytes_eq first (codes "compute") then one_number words >>= (λ key. Ok (On (Compute key)))
    else Err BadWord

-- this, with no word behind it
abbrev pub alone : {X : Type 0} → X → List (List ℕ) → Result X LineFault
alone x words = none_of words >>= (λ nothing. Ok x)

-- of calls on the whole map: `reserve n`, and `clear`, `retain`, `len`, `walk` with no word behind them
unfoldable pub whole_call_from : List ℕ → List (List ℕ) → Result ScriptCall LineFault
whole_call_from first words =
    if bytes_eq first (codes "reserve") then one_number words >>= (λ more. Ok (Reserve more))
    else if bytes_eq first (codes "clear") then alone Clear words
    else if bytes_eq first (codes "retain") then alone Retain words
    else if bytes_eq first (codes "len") then alone Len words
    else if bytes_eq first (codes "walk") then alone Walk words
    else key_call_from first words

-- the first word decides the call; `insert k v` and `try_insert k v` have a value, too
unfoldable pub call_from : List ℕ → List (List ℕ) → Result ScriptCall LineFault
call_from first words =
    if bytes_eq first (codes "insert") then key_and_value words >>= (λ pair. Ok (On (Insert pair.0 pair.1)))
    else if bytes_eq first (codes "try_insert") then key_and_value words >>= (λ pair. Ok (On (TryInsert pair.0 pair.1)))
    else whole_call_from first words

-- a call
unfoldable pub call_said : List (List ℕ) → Result ScriptCall LineFault
call_said words = do
  first ← next_of words
  call_from first.0 first.1

-- the first word decides the reply: `insert v`, `remove`, `abort w` to `compute`, `yes` and `no` to `remove_if` and `retain`
unfoldable pub reply_from : List ℕ → List (List ℕ) → Result ScriptReply LineFault
reply_from first words =
    if bytes_eq first (codes "insert") then one_value words >>= (λ value. Ok (replies.Gives value))
    else if bytes_eq first (codes "remove") then alone replies.Removes words
    else if bytes_eq first (codes "abort") then one_value words >>= (λ value. Ok (replies.Aborts value))
    else if bytes_eq first (codes "yes") then alone (replies.Decides true) words
    else if bytes_eq first (codes "no") then alone (replies.Decides false) words
    else Err BadWord

-- a reply
unfoldable pub reply_said : List (List ℕ) → Result ScriptReply LineFault
reply_said words = do
  first ← next_of words
  reply_from first.0 first.1

-- whether a growth is refused: no word, or `nomem`
abbrev pub nomem_of : List (List ℕ) → Result Bool LineFault
nomem_of [] = Ok false
nomem_of (word ∷ []) = if bytes_eq word (codes "nomem") then Ok true else Err BadWord
nomem_of _ = Err WrongNumberOfWords

-- the call and the reply that were read, once their value is copied
abbrev pub call_of_said : SaidCall → ScriptCall
call_of_said (said_calls.Bare call) = call
call_of_said (said_calls.Insert key value) = On (Insert key value.now)
call_of_said (said_calls.TryInsert key value) = On (TryInsert key value.now)

abbrev pub reply_of_said : SaidReply → ScriptReply
reply_of_said (said_replies.Bare reply) = reply
reply_of_said (said_replies.Gives value) = replies.Gives value.now
reply_of_said (said_replies.Aborts value) = replies.Aborts value.now
