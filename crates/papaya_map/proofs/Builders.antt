-- Why a builder makes no map: what each of its tests says of the first reason, and of the source.
use Rattle.std.specs.Prelude.{if◌then◌else◌, Option, Some, None, Result, Ok, Err, MatchResult}
use Rattle.std.proofs.Common.{◌≡◌, ◌∙◌, ℕ, Bool, true, false, refl, sym, subst, ap}
use Rattle.map_tables.specs.Lengths.{entries_of}
use Rattle.map_tables.specs.declared.resize_mode.ResizeMode.{ResizeMode}
use Rattle.papaya_map.specs.Builders.{RefusedBy, fault_of, first_fault, ids_after, is_zero, made_for}
use Rattle.seize.specs.Collector.{Setting}
use Rattle.seize_words.specs.declared.fault.Fault.{Fault}
use Rattle.seize_words.specs.declared.fault.Fault.TheVariants.{Memory, ZeroChunk}

-- no place would be copied
pub zero_first : (mode : ResizeMode) (capacity : ℕ) → is_zero mode ≡ true → first_fault mode capacity ≡ Some ZeroChunk
zero_first mode capacity is = ap (λ (b : Bool). if b then Some ZeroChunk else fault_of (entries_of capacity)) is

-- else it is as the capacity says
by_capacity : (mode : ResizeMode) (capacity : ℕ) → is_zero mode ≡ false → first_fault mode capacity ≡ fault_of (entries_of capacity)
by_capacity mode capacity some = ap (λ (b : Bool). if b then Some ZeroChunk else fault_of (entries_of capacity)) some

pub many_first : (mode : ResizeMode) (capacity : ℕ) (fault : Fault) → is_zero mode ≡ false → entries_of capacity ≡ Err fault → first_fault mode capacity ≡ Some fault
many_first mode capacity fault some is = by_capacity mode capacity some ∙ ap fault_of is

pub none_first : (mode : ResizeMode) (capacity places : ℕ) → is_zero mode ≡ false → entries_of capacity ≡ Ok places → first_fault mode capacity ≡ None
none_first mode capacity places some is = by_capacity mode capacity some ∙ ap fault_of is

-- the first reason is told, and the source was not asked
pub told_first : (first : Option Fault) (collector : Option Setting) (next : ℕ) (fault : Fault) → first ≡ Some fault → RefusedBy first collector next fault
told_first first collector next fault is = subst (λ (f : Option Fault). RefusedBy f collector next fault) (sym is) refl

pub asked_none : (first : Option Fault) (collector : Option Setting) (next : ℕ) (fault : Fault) → first ≡ Some fault → next ≡ ids_after first collector next
asked_none first collector next fault is = subst (λ (f : Option Fault). next ≡ ids_after f collector next) (sym is) refl

-- where there is none, it is the source's reason, or want of memory
pub told_source : (first : Option Fault) (collector : Option Setting) (next : ℕ) (fault : Fault) → first ≡ None → made_for collector next ≡ Err fault → RefusedBy first collector next fault
told_source first collector next fault none is =
    subst (λ (f : Option Fault). RefusedBy f collector next fault) (sym none)
    (subst (λ (r : Result Setting Fault). MatchResult r (λ _. fault ≡ Memory) (λ other. fault ≡ other)) (sym is) refl)

pub told_memory : (first : Option Fault) (collector : Option Setting) (next : ℕ) (made : Setting) (fault : Fault) → first ≡ None → made_for collector next ≡ Ok made → fault ≡ Memory
    → RefusedBy first collector next fault
told_memory first collector next made fault none is so =
    subst (λ (f : Option Fault). RefusedBy f collector next fault) (sym none)
    (subst (λ (r : Result Setting Fault). MatchResult r (λ _. fault ≡ Memory) (λ other. fault ≡ other)) (sym is) so)

-- and the source was asked just where no collector was given
pub asked_then : (first : Option Fault) (collector : Option Setting) (next after : ℕ) → first ≡ None → after ≡ ids_after None collector next → after ≡ ids_after first collector next
asked_then first collector next after none is = is ∙ ap (λ (f : Option Fault). ids_after f collector next) (sym none)
