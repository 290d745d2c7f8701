-- What the samples are told with: entries of logs, and a first log at each of its moments.
use Rattle.std.specs.Prelude.{codes, ◌+◌, ◌&&◌, if◌then◌else◌}
use Rattle.std.proofs.Common.{◌≡◌, ◌<◌, ◌≤◌, ℕ, zero, suc, Bool, true, false, refl, List, [], ◌∷◌, inl, arith, Option, Some, None}
use Rattle.seize_words.specs.declared.fault.Fault.TheVariants.{Busy}
use Rattle.papaya_raw.specs.Given.TablesDeclared.resize_mode.ResizeMode.TheVariants.{Incremental}
use Rattle.run_schedules.specs.declared.shapes.TableShape.{TableShape}
use Rattle.run_schedules.specs.declared.call.Call.{Call}
use Rattle.run_schedules.specs.declared.call.Call.TheVariants.{On}
use Rattle.run_schedules.specs.declared.call.OneKey.TheVariants.{Insert}
use Rattle.run_schedules.specs.declared.call.Response.{Response}
use Rattle.run_schedules.specs.declared.call.Response.TheVariants as answer
use Rattle.run_schedules.specs.declared.event.Event.{Event}
use Rattle.run_schedules.specs.declared.event.Event.TheVariants.{Collector, Register, Enter, DropGuard, MakeMap, Begin, Go, OneCall}
use Rattle.run_schedules.specs.declared.effect.Effect.{Effect}
use Rattle.run_schedules.specs.declared.effect.Effect.TheVariants.{Asked, PairMade, TableMade, Linked, Stored, Counted}
use Rattle.run_schedules.specs.declared.effect.Growth.TheVariants.{ABlock, ABucket}
use Rattle.run_schedules.specs.declared.effect.Spot.{Spot}
use Rattle.run_schedules.specs.declared.effect.TableId.{TableId}
use Rattle.run_schedules.specs.declared.effect.Thing.{Thing}
use Rattle.run_schedules.specs.declared.outcome.Outcome.{Outcome}
use Rattle.run_schedules.specs.declared.outcome.Outcome.TheVariants.{Done, Slot, Goes, Answered, Refused}
use Rattle.run_schedules.specs.Schedules.Sequential.{Meaning, Answers, Refuses, Wants, Deed, Leaves, Puts, Shift, shifts}
use Rattle.run_schedules.specs.Schedules.Terms.{Terms}
use Rattle.run_schedules.specs.Schedules.Moment.{Place, InMap, Behind, Moment}
use Rattle.run_schedules.specs.Schedules.Entry.{Entry}
use Rattle.run_schedules.specs.Schedules.Tries.{try_at, has_pair_at, is_taken_at, Meets}

-- a test is not passed and failed
pub no_yes : false ≡ true → ⊥
no_yes h = cc

-- that a call tells a pair and leaves it is not that it tells another one, or none
abbrev pub found : ℕ → Meaning ℕ
found n = Answers (answer.Found n) Leaves

pub one_two : found 1 ≡ found 2 → ⊥
one_two h = cc

pub four_two : found 4 ≡ found 2 → ⊥
four_two h = cc

pub found_none : (n : ℕ) → found n ≡ Answers answer.Absent Leaves → ⊥
found_none n h = cc

-- an answer that is owed is no reason to ask
pub owes_one : (a : Response ℕ) → Some a ≡ None → ⊥
owes_one a h = cc

-- nor that a call means to do a thing is not that it does nothing, is refused, or wants a reply
pub puts_leaves : (a : Response ℕ) (v : ℕ) → Answers a (Puts v) ≡ Answers a Leaves → ⊥
puts_leaves a v h = cc

pub answers_refuses : (a : Response ℕ) (d : Deed ℕ) → Answers a d ≡ Refuses → ⊥
answers_refuses a d h = cc

pub answers_wants : (a : Response ℕ) (d : Deed ℕ) → Answers a d ≡ Wants → ⊥
answers_wants a d h = cc

-- an answer that there is no pair is none that there is one
pub absent_found : (n : ℕ) → ◌≡◌ {A = Response ℕ} answer.Absent (answer.Found n) → ⊥
absent_found n h = cc

-- what an event comes to is not that it is busy
pub goes_busy : ◌≡◌ {A = Outcome ℕ} Goes (Refused Busy) → ⊥
goes_busy h = cc

pub done_busy : ◌≡◌ {A = Outcome ℕ} Done (Refused Busy) → ⊥
done_busy h = cc

pub answered_busy : (a : Response ℕ) → ◌≡◌ {A = Outcome ℕ} (Answered a) (Refused Busy) → ⊥
answered_busy a h = cc

-- a change is not none
pub one_shift : (shift : Shift) (shifts : List Shift) → shift ∷ shifts ≡ [] → ⊥
one_shift shift shifts h = cc

-- A call has made these changes: it owes no answer, and does what it means to do, where its key has this pair or none, and the next one gets this number.
abbrev pub Changed : Option (Response ℕ) → Meaning ℕ → Option ℕ → ℕ → List Shift → Type 0
Changed due meaning old new done = (due ≡ None) × (a : Response ℕ) × (d : Deed ℕ) × (meaning ≡ Answers a d) × (done ≡ shifts old new d)

-- wrong: it wants a reply, or owes an answer
pub wants_no : (old : Option ℕ) (new : ℕ) (done : List Shift) → Changed None Wants old new done → ⊥
wants_no old new done (owes, a, d, means, same) = cc means

pub owes_still : (a : Response ℕ) (meaning : Meaning ℕ) (old : Option ℕ) (new : ℕ) (done : List Shift) → Changed (Some a) meaning old new done → ⊥
owes_still a meaning old new done changed = owes_one a changed.0

-- It asks about a pair, or about none, where its key has this pair or none, by what it means there.
abbrev pub AsksThere : Option ℕ → Option ℕ → Meaning ℕ → Type 0
AsksThere old question meaning = (old ≡ question) × (meaning ≡ Wants)

-- wrong: it has its answer
pub asks_answered : (old question : Option ℕ) (a : Response ℕ) (d : Deed ℕ) → AsksThere old question (Answers a d) → ⊥
asks_answered old question a d asks = answers_wants a d asks.1

-- a thing that is owed is not none
pub some_thing : (x : Thing) (things : List Thing) → x ∷ things ≡ [] → ⊥
some_thing x things h = cc

-- a pair that waits behind a table is not in the map
pub behind_there : ◌≡◌ {A = Place} Behind (InMap 0) → ⊥
behind_there h = cc

-- a table that was made is not none
pub some_table : (t : TableId) → Some t ≡ None → ⊥
some_table t h = cc

-- numbers that are not the same, or in the wrong order
pub zero_next : (n : ℕ) → ◌≡◌ {A = ℕ} 0 (n + 1) → ⊥
zero_next n h = omega (arith, h)

pub next_zero : (n : ℕ) → ◌≡◌ {A = ℕ} (n + 1) 0 → ⊥
next_zero n h = omega (arith, h)

pub nothing_below : 1 ≤ 0 → ⊥
nothing_below h = omega (arith, h)

pub nothing_between : 1 < 1 → ⊥
nothing_between h = omega (arith, h)

-- the first so many tries of a hash in a table of the first map are taken at a moment
abbrev pub are_taken : ℕ → ℕ → ℕ → Moment ℕ ℕ → ℕ → Bool
are_taken turn len hash m zero = true
are_taken turn len hash m (suc try) = are_taken turn len hash m try && is_taken_at 0 (try_at turn len hash try) m

-- and so many of them by pairs of the map
abbrev pub met_at : ℕ → ℕ → ℕ → Moment ℕ ℕ → ℕ → ℕ
met_at turn len hash m zero = 0
met_at turn len hash m (suc try) = met_at turn len hash m try + (if has_pair_at 0 (try_at turn len hash try) m then 1 else 0)

-- so a call that tries them then meets so many
pub tries_meet : (turn len hash : ℕ) (m : Moment ℕ ℕ) (moments : List (Moment ℕ ℕ)) (tries : ℕ) → are_taken turn len hash m tries ≡ true
    → Meets 0 turn len hash (m ∷ moments) tries (met_at turn len hash m tries)
tries_meet turn len hash m moments zero taken = refl
tries_meet turn len hash m moments (suc try) taken =
    let b = both (are_taken turn len hash m try) (is_taken_at 0 (try_at turn len hash try) m) taken in
    inl (met_at turn len hash m try, (if has_pair_at 0 (try_at turn len hash try) m then 1 else 0), tries_meet turn len hash m moments try b.0, (b.1, refl), refl)
  where
    both : (a b : Bool) → (a && b) ≡ true → (a ≡ true) × (b ≡ true)
    both true b e = (refl, e)
    both false b e = absurd (cc e)

-- a collector with batches of one, one processor, and room for one map
abbrev pub small : Terms
small = record { batch_size = 1; processors = 1; roots = 1 }

abbrev pub entry : Event ℕ ℕ → Outcome ℕ → ℕ → List Effect → Entry ℕ ℕ
entry event outcome steps effects = record { event = event; outcome = outcome; steps = steps; effects = effects }

-- the table of this turn of the first map, and a place in it
abbrev pub table : ℕ → TableId
table turn = record { map = 0; turn = turn }

abbrev pub spot : ℕ → ℕ → Spot
spot turn place = record { turn = turn; place = place }

abbrev pub shape : ℕ → ℕ → TableShape
shape len limit = record { len = len; limit = limit }

-- a block is asked for, and made for a pair, or for a table that comes in
abbrev pub makes_pair : List Effect → List Effect
makes_pair effects = Asked ABlock ∷ PairMade ∷ effects

abbrev pub makes_table : ℕ → TableShape → List Effect → List Effect
makes_table turn shape effects = Asked ABlock ∷ TableMade (table turn) ∷ Linked (table turn) shape ∷ effects

-- a registration r in slot 0, a map m without a table, and a guard g
abbrev pub registered : List (Entry ℕ ℕ)
registered =
    entry (Register (codes "r")) (Slot 0) 0 (Asked ABucket ∷ [])
    ∷ entry (Collector (record { batch_size = 1; processors = 1; roots = 1 })) Done 0 []
    ∷ []

abbrev pub entered : List (Entry ℕ ℕ)
entered =
    entry (Enter (codes "g") (codes "r")) Done 0 []
    ∷ entry (MakeMap (codes "m") (Incremental 64) 0) Done 0 (Asked ABlock ∷ [])
    ∷ registered

-- a whole call on m under g, and one of a caller c
abbrev pub call : Call ℕ ℕ → Outcome ℕ → ℕ → List Effect → Entry ℕ ℕ
call called outcome steps effects = entry (OneCall (codes "g") (codes "m") called) outcome steps effects

abbrev pub begin : Call ℕ ℕ → Entry ℕ ℕ
begin called = entry (Begin (codes "c") (codes "g") (codes "m") called) Goes 0 []

abbrev pub go : Outcome ℕ → ℕ → List Effect → Entry ℕ ℕ
go outcome steps effects = entry (Go (codes "c") false) outcome steps effects

-- pair 1 comes in, and with it the first table
abbrev pub put_one : Outcome ℕ → List Effect → Entry ℕ ℕ
put_one outcome effects = call (On (Insert 1 10)) outcome 12 effects

abbrev pub inserted : List (Entry ℕ ℕ)
inserted = put_one (Answered answer.Absent) (makes_pair (makes_table 0 (shape 32 25) (Stored 1 (spot 0 1) ∷ Counted 0 ∷ []))) ∷ entered

-- the guard ends
abbrev pub drop_guard : List Effect → Entry ℕ ℕ
drop_guard effects = entry (DropGuard (codes "g")) Done 0 effects
