-- Reservations, growths and refusals: each in its case alone. And wrong runs.
use Rattle.std.specs.Prelude.{codes, nat_eq, ◌+◌, ◌%◌, ◌^◌, nat_le, max, if◌then◌else◌}
use Rattle.std.proofs.Common.{◌≡◌, ◌≤◌, ℕ, Bool, true, false, List, [], ◌∷◌, ◌++◌, inl, inr, refl, arith, Ok, Err}
use Rattle.seize_words.specs.declared.fault.Fault.TheVariants.{Capacity, SlotsUsedUp, Memory}
use Rattle.papaya_raw.specs.Given.TablesDeclared.lengths.Reason.TheVariants.{Full, Reserved, NoPlace}
use Rattle.papaya_raw.specs.Given.SeizeRegister.{MayNeedRoom}
use Rattle.papaya_raw.specs.Given.TablesCounts.{count_in}
use Rattle.papaya_raw.specs.Given.TablesLengths.{by_count, len_of, next_len}
use Rattle.run_schedules.specs.declared.shapes.TableShape.{TableShape}
use Rattle.run_schedules.specs.Schedules.Growing.{Has, IsNextShape}
use Rattle.papaya_raw.specs.Given.TablesDeclared.resize_mode.ResizeMode.TheVariants.{Incremental}
use Rattle.run_schedules.specs.Schedules.Beginning.{fresh_call}
use Rattle.run_schedules.specs.Schedules.Moment.{UnderWay, TableThere, IsLinked, Moment, start}
use Rattle.run_schedules.specs.declared.call.Call.TheVariants.{On, Reserve, Len}
use Rattle.run_schedules.specs.declared.call.OneKey.TheVariants.{Get, Insert, Remove}
use Rattle.run_schedules.specs.declared.call.Response.TheVariants as answer
use Rattle.run_schedules.specs.declared.event.Event.TheVariants.{Register, Own, Go}
use Rattle.run_schedules.specs.declared.effect.Effect.{Effect}
use Rattle.run_schedules.specs.declared.effect.Effect.TheVariants.{Asked, Promoted, Copied, Stored, Counted, Retired}
use Rattle.run_schedules.specs.declared.effect.Growth.TheVariants.{ABlock, ABucket}
use Rattle.run_schedules.specs.declared.effect.Thing.TheVariants.{ATable}
use Rattle.run_schedules.specs.declared.outcome.Outcome.{Outcome}
use Rattle.run_schedules.specs.declared.outcome.Outcome.TheVariants.{Slot, Goes, Answered, Refused}
use Rattle.run_schedules.specs.Schedules.Counts.{AddsUp}
use Rattle.run_schedules.specs.Schedules.Entry.{Entry}
use Rattle.run_schedules.specs.Schedules.After.{moments_from}
use Rattle.run_schedules.specs.Schedules.InTurn.{HasRightOutcome}
use Rattle.run_schedules.specs.Schedules.Sweeps.{IsSwept, Fits, FindsRoom}
use Rattle.run_schedules.specs.Schedules.Handing.{MovesOn}
use Rattle.run_schedules.proofs.Samples.Schedules.Words.{no_yes, next_zero, nothing_between, small, entry, spot, table, shape, makes_pair, makes_table, begin, call, inserted, entered}
use Rattle.seize_words.proofs.General.{either, true_not_false as yes_no}

abbrev reserve : ℕ → Outcome ℕ → List Effect → Entry ℕ ℕ
reserve more outcome effects = call (Reserve more) outcome 200 effects

-- one pair is counted, in 32 places: there is room for 23 more
reserves : IsSwept nat_eq small inserted (reserve 23 (Answered answer.Completed) [])
unfolding lib.Count.count_leading_zeros
reserves = (1, (1, inl (0, refl, refl), refl), inl (inl (omega arith)))

-- room for 24 more needs a table of 64, into which the pair is copied
abbrev grows : List Effect
grows = makes_table 1 (shape 64 30) (Copied 1 (spot 1 1) ∷ Promoted (table 1) ∷ Retired (ATable (table 0)) ∷ [])

reserves_more : IsSwept nat_eq small inserted (reserve 24 (Answered answer.Completed) grows)
unfolding lib.Count.count_leading_zeros
reserves_more = (1, (1, inl (0, refl, refl), refl), inl (inl (omega arith)))

-- A table of 16 places was the root within an event of another call, which left a shorter one: there was room for eight pairs.
abbrev linked : ℕ → ℕ → ℕ → TableThere
linked turn len limit = record { table = table turn; shape = shape len limit; stage = IsLinked }

abbrev rooted : ℕ → Moment ℕ ℕ
rooted first =
    record start {
      maps = record { name = []; number = 0; root = 0; mode = Incremental 1; capacity = 6; first = first } ∷ [];
      tables = linked 0 8 7 ∷ linked 1 16 15 ∷ linked 2 8 7 ∷ [];
    }

abbrev reserving : UnderWay ℕ ℕ
reserving = fresh_call [] [] (Reserve 8) 0 0

passes_by : FindsRoom small 8 reserving (rooted 2 ∷ rooted 0 ∷ []) (rooted 2)
unfolding lib.Count.count_leading_zeros
passes_by = (0, (0, inl (0, refl, refl), refl), inr (inl (inr (inl (omega arith)))))

-- wrong: that was so before the call began
lacks : (n : ℕ) → n ≡ 0 → Fits (len_of (n + 8)) 8 → ⊥
unfolding lib.Count.count_leading_zeros
lacks n none fits = let few : 16 ≤ 8 = rw none at fits in omega (arith, few)

passed_before : FindsRoom small 8 reserving (rooted 2 ∷ []) (rooted 2) → ⊥
passed_before (n, (sum, adds, counts), fits) = by adds
  where
    by : AddsUp 0 (rooted 2 ∷ []) 1 sum → ⊥
    by (inl (rest, none, is)) =
        let zero_is : sum ≡ 0 = omega (arith, none, is) in
        let none_is : n ≡ 0 = (let counted_is : n ≡ count_in (0 % 2 ^ 64) = rw zero_is at counts in counted_is) in
        either (either (lacks n none_is) (λ e. e)) (λ e. e) fits
    by (inr e) = e

-- what is counted there is one pair
counted : (sum rest n : ℕ) → rest ≡ 0 → sum ≡ rest + 1 → n ≡ count_in (sum % 2 ^ 64) → n ≡ 1
counted sum rest n none is counts = by sum (omega (arith, none, is)) counts
  where
    by : (s : ℕ) → s ≡ 1 → n ≡ count_in (s % 2 ^ 64) → n ≡ 1
    by s one told = rw one at told

-- wrong: it is answered though there is no room, or can be none
short : (n : ℕ) → n ≡ 1 → Fits (len_of (n + 24)) 32 → ⊥
unfolding lib.Count.count_leading_zeros
short n one fits = let few : 64 ≤ 32 = rw one at fits in omega (arith, few)

reserves_nothing : IsSwept nat_eq small inserted (reserve 24 (Answered answer.Completed) []) → ⊥
reserves_nothing (n, (sum, adds, counts), fits) = by adds
  where
    never : n ≡ 1 → ⊥
    never one = either (either (short n one) (λ e. e)) (either (either (short n one) (λ e. e)) (λ e. e)) fits

    by : AddsUp 0 (moments_from 5 inserted ++ moments_from 5 inserted) 1 sum → ⊥
    by (inl (rest, none, is)) = never (counted sum rest n none is counts)
    by (inr (inl (rest, none, is))) = never (counted sum rest n none is counts)
    by (inr (inr e)) = e

none_fits : (n : ℕ) → n ≡ 1 → Fits (len_of (n + 18446744073709551615)) 32 → ⊥
none_fits n one fits = let never : ⊥ = rw one at fits in never

reserves_all : IsSwept nat_eq small inserted (reserve 18446744073709551615 (Answered answer.Completed) []) → ⊥
reserves_all (n, (sum, adds, counts), fits) = by adds
  where
    never : n ≡ 1 → ⊥
    never one = either (either (none_fits n one) (λ e. e)) (either (either (none_fits n one) (λ e. e)) (λ e. e)) fits

    by : AddsUp 0 (moments_from 5 inserted ++ moments_from 5 inserted) 1 sum → ⊥
    by (inl (rest, none, is)) = never (counted sum rest n none is counts)
    by (inr (inl (rest, none, is))) = never (counted sum rest n none is counts)
    by (inr (inr e)) = e

-- wrong: `len` tells another number
counts_two : IsSwept nat_eq small inserted (call Len (Answered (answer.Counted 2)) 9 []) → ⊥
counts_two (sum, inl (rest, none, is), counts) = let one = counted sum rest 2 none is counts in omega (arith, one)
counts_two (sum, inr e, counts) = e

-- it is refused, as no table can be had, and asks for none
refuses_all : HasRightOutcome small inserted (reserve 18446744073709551615 (Refused Capacity) [])
refuses_all = (refl, inl (1, (1, inl (0, refl, refl), refl), refl))

-- wrong: one that can be had is refused so
refuses_some : HasRightOutcome small inserted (reserve 24 (Refused Capacity) []) → ⊥
refuses_some (looks, inl (n, (sum, adds, counts), many)) = by adds
  where
    fits : n ≡ 1 → ⊥
    fits one = let told : true ≡ false = cc (rw one at many) in yes_no told

    by : AddsUp 0 (moments_from 5 inserted ++ moments_from 5 inserted) 1 sum → ⊥
    by (inl (rest, none, is)) = fits (counted sum rest n none is counts)
    by (inr (inl (rest, none, is))) = fits (counted sum rest n none is counts)
    by (inr (inr e)) = e
refuses_some (looks, inr e) = either no_yes (either no_yes (λ e. e)) e

-- wrong: an insertion is refused for its capacity where each table is short; a lookup ever
capacity_at_will : HasRightOutcome small inserted (call (On (Insert 1 20)) (Refused Capacity) 9 []) → ⊥
capacity_at_will h = either (λ e. e) (either no_yes (either no_yes (λ e. e))) h.1

lookup_at_capacity : HasRightOutcome small inserted (call (On (Get 1)) (Refused Capacity) 9 []) → ⊥
lookup_at_capacity h = yes_no h.0

-- an insertion is refused for want of memory where it has asked for some; wrong: where it has not, or was given it
refused_memory : HasRightOutcome small inserted (call (On (Insert 1 20)) (Refused Memory) 9 (Asked ABlock ∷ []))
refused_memory = refl

memory_unasked : HasRightOutcome small inserted (call (On (Insert 1 20)) (Refused Memory) 9 []) → ⊥
memory_unasked h = no_yes h

memory_given : HasRightOutcome small inserted (call (On (Insert 1 20)) (Refused Memory) 9 (makes_pair [])) → ⊥
memory_given h = no_yes h

-- wrong: it goes on without the growth that it was refused, or makes one that was to be refused
goes_without : MovesOn small inserted (call (On (Insert 1 20)) (Answered (answer.Found 1)) 9 (Asked ABlock ∷ [])) → ⊥
goes_without h = yes_no (h.leaves.1)

makes_refused : MovesOn small (begin (On (Insert 1 20)) ∷ inserted) (entry (Go (codes "c") true) Goes 9 (makes_pair [])) → ⊥
makes_refused h = no_yes (h.refuses)

-- wrong: a removal asks for memory where there is one table; a reservation for a table that cannot be had
removal_asks : MovesOn small inserted (call (On (Remove 1)) (Refused Memory) 9 (Asked ABlock ∷ [])) → ⊥
removal_asks h = either no_yes (either nothing_between (either nothing_between (λ e. e))) (h.finds.0.1.1)

-- a registration gets the least slot that is free, and asks for words only where that was never taken and may need them
registers_least : HasRightOutcome small inserted (entry (Register (codes "q")) (Slot 1) 0 [])
registers_least = inl refl

two_one : ◌≡◌ {A = Outcome ℕ} (Slot 2) (Slot 1) → ⊥
two_one h = cc

slot_refused : ◌≡◌ {A = Outcome ℕ} (Slot 2) (Refused Memory) → ⊥
slot_refused h = cc

registers_higher : HasRightOutcome small inserted (entry (Own (codes "o")) (Slot 2) 0 []) → ⊥
registers_higher h = either two_one (λ e. slot_refused e.0) h

refused_slot : ◌≡◌ {A = Outcome ℕ} (Refused SlotsUsedUp) (Slot 1) → ⊥
refused_slot h = cc

used_memory : ◌≡◌ {A = Outcome ℕ} (Refused SlotsUsedUp) (Refused Memory) → ⊥
used_memory h = cc

registers_none : HasRightOutcome small inserted (entry (Register (codes "q")) (Refused SlotsUsedUp) 0 []) → ⊥
registers_none h = either refused_slot (λ e. used_memory e.0) h

needs_none : MayNeedRoom 1 → ⊥
needs_none (inl e) = next_zero 0 e
needs_none (inr e) = e refl

asks_for_words : MovesOn small inserted (entry (Register (codes "q")) (Refused Memory) 0 (Asked ABucket ∷ [])) → ⊥
asks_for_words h = needs_none h.finds.0.1

-- wrong: a table comes in with a turn too high; the first one with another length, or another last try
abbrev grow : ℕ → Entry ℕ ℕ
grow turn = call (On (Insert 9 10)) (Answered answer.Absent) 40 (makes_pair (makes_table turn (shape 64 30) (Stored 2 (spot turn 9) ∷ Counted 0 ∷ [])))

too_high : 2 ≤ 1 → ⊥
too_high turn = omega (arith, turn)

turn_too_high : MovesOn small inserted (grow 2) → ⊥
turn_too_high h = too_high h.finds.1.1.1.0.1.3

abbrev begins : TableShape → Entry ℕ ℕ
begins first = call (On (Insert 1 10)) (Answered answer.Absent) 12 (makes_pair (makes_table 0 first (Stored 1 (spot 0 1) ∷ Counted 0 ∷ [])))

other_length : ◌≡◌ {A = ℕ} 64 32 → ⊥
other_length h = omega (arith, h)

first_too_long : MovesOn small entered (begins (shape 64 30)) → ⊥
first_too_long h = other_length h.finds.1.1.1.1.0.1.2.1.0

other_try : ◌≡◌ {A = ℕ} 31 25 → ⊥
other_try h = omega (arith, h)

tries_on : MovesOn small entered (begins (shape 32 31)) → ⊥
unfolding lib.Count.count_leading_zeros
tries_on h = other_try h.finds.1.1.1.1.0.1.2.1.1

-- the length of a next table by a count is twice the length, the same or half of it
had : (few : Bool) (x y : ℕ) → Has (if few then Ok x else Err Capacity) y → y ≡ x
had true x y h = h
had false x y h = absurd h

of_full : (x count : ℕ) → x ≡ max (by_count 32 count 1) 8 → 128 ≡ x → ⊥
of_full x count is h = by (nat_le 16 count) (nat_le count 4) is
  where
    by : (double half : Bool) → x ≡ max (if double then 64 else (if half then 16 else 32)) 8 → ⊥
    by true half e = omega (arith, h, e)
    by false true e = omega (arith, h, e)
    by false false e = omega (arith, h, e)

of_count : (met most count initial : ℕ) → initial ≡ 1 → Has (next_len (Full met most) 32 count initial) 128 → ⊥
of_count met most count initial one has = of_full (max (by_count 32 (max count most) initial) 8) (max count most) same full
  where
    full : 128 ≡ max (by_count 32 (max count most) initial) 8
    full = had (nat_le (max (by_count 32 (max count most) initial) 8) (2 ^ 48)) (max (by_count 32 (max count most) initial) 8) 128 has

    same : max (by_count 32 (max count most) initial) 8 ≡ max (by_count 32 (max count most) 1) 8
    same = cc one

other_power : ◌≡◌ {A = ℕ} 128 64 → ⊥
other_power h = omega (arith, h)

-- so one of four times the length comes in by no rule, but for a reservation
no_rule : (c : UnderWay ℕ ℕ) (moments : List (Moment ℕ ℕ)) → c.call ≡ On (Insert 9 10) → IsNextShape small c moments 0 (linked 0 32 25) (shape 128 35) → ⊥
no_rule c moments called (Full met most, count, initial, one, may, is, limit) = of_count met most count initial one is
no_rule c moments called (NoPlace, count, initial, one, may, is, limit) = other_power is
no_rule c moments called (Reserved more, count, initial, one, may, is, limit) = let never : ⊥ = rw called at may in never
