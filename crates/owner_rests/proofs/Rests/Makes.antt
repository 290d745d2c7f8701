-- A map is made.
use Rattle.std.specs.Prelude.{◌≡◌, ◌≢◌, ℕ, ◌+◌, ◌*◌, ◌/◌, ◌<◌, ◌≤◌, ◌^◌, max, List, nat_le, if◌then◌else◌, Bool, true, false, [], ◌∷◌, ◌==◌, None, Some, Result, Ok, Err, IfOk, IfErr}
use Rattle.std.specs.Int.{IsPowerOfTwo}
use Rattle.std.proofs.Common.{refl, sym, ◌∙◌, ap, subst, arith}
use Rattle.std.proofs.lemmas.Bool.{leb-true, leb-false, eq-eqb, ne_eqb}
use Rattle.seize_words.specs.OneMemory.Mem.{Mem, value_at, value_in, word_at}
use Rattle.seize_words.specs.declared.at.At.TheVariants.{Root, Used}
use Rattle.seize_words.specs.declared.fault.Fault.{Fault}
use Rattle.seize_words.specs.declared.fault.Fault.TheVariants as fault
use Rattle.seize.specs.World.{IsInside, Inside, Vacant}
use Rattle.seize.specs.Sequence.{new_slot}
use Rattle.owner_calls.specs.Given.SeizeAloneAlone.{History, IsHistory, IsRefusal, nothing_yet, registered}
use Rattle.owner_calls.proofs.Given.SeizeAloneLaws.{histories_begin}
use Rattle.map_straight.proofs.Given.SeizeRuleRows.Others.{with_here}
use Rattle.map_tables.specs.Lengths.{IsTableLen, entries_of, if_few, len_of, places_for}
use Rattle.map_tables.specs.Nodes.{deferred_word}
use Rattle.map_tables.specs.Powers.{next_power}
use Rattle.map_tables.specs.declared.node.Node.{Node}
use Rattle.map_tables.specs.declared.resize_mode.ResizeMode.TheVariants.{Incremental}
use Rattle.map_tables.specs.declared.setting.Setting.{Setting}
use Rattle.map_machines.specs.NewMap.{opening, new_map_plan}
use Rattle.map_machines.specs.declared.new_map.NewMap.{NewMap}
use Rattle.owner_calls.specs.Given.PointsSteps.{AreLawful}
use Rattle.owner_calls.specs.Given.StridesEnding.{Ends, RunsTo}
use Rattle.papaya_raw.specs.Given.ReservesReserve.{needed, or_too_long}
use Rattle.owner_calls.specs.Owned.Owned.{Holds}
use Rattle.owner_calls.specs.Owned.Rooms.{RepresentTables, tables_for, tables_with}
use Rattle.owner_calls.proofs.Owned.Owned.Making.{Opens, Made, opens_first, opens_end, runs_made, first_refused}

module _ {K V : Type 0} (same : K → K → Bool) (hash : K → ℕ) (lawful : AreLawful same hash) (slot places initial : ℕ) (is : initial ≡ max places 1) (power : IsPowerOfTwo (max places 1))
    (table : IsTableLen (max places 8)) (m : Mem (Node K V)) (h : History) (had : IsHistory deferred_word 32 1 m h) (inside : IsInside (h.uses slot)) (root : word_at m (Root 0) ≡ Some 0)
    (used : word_at m (Used 0) ≡ Some 0) where
  abbrev setting : Setting
  setting = record { slot = slot; batch_size = 32; root = 0; mode = Incremental 64; counter = 0; mask = 0; initial = initial }

  abbrev power_of : IsPowerOfTwo setting.initial
  power_of = subst IsPowerOfTwo (sym is) power

  few_of : setting.initial ≤ 2 ^ 48
  few_of = let most = table.most in omega (arith, is, most)

  first : Opens same hash lawful setting power_of (omega arith) places m h (opening setting 1 places) m
  first = opens_first same hash lawful setting power_of (omega arith) places m h had inside root used (λ few. table)

  pub begins_ends : (n : NewMap) → n ≡ opening setting 1 places → Ends (new_map_plan {K = K} {V = V}) n m
  begins_ends n e = subst (λ (x : NewMap). Ends (new_map_plan {K = K} {V = V}) x m) (sym e) (opens_end same hash lawful setting power_of (omega arith) places m h (opening setting 1 places) m first)

  abbrev HasMade : Mem (Node K V) → Result Setting Fault → Type 0
  HasMade m2 result = Made same hash lawful setting power_of (omega arith) places m h refl (omega arith) refl few_of m2 result

  made_ok : (m2 : Mem (Node K V)) (result : Result Setting Fault) → HasMade m2 result → IfOk result (λ s. Holds same hash s m2 [])
  made_ok m2 (Ok s) made = made.0
  made_ok m2 (Err fault) made = tt

  made_shown : (m2 : Mem (Node K V)) (result : Result Setting Fault) → HasMade m2 result → IfOk result (λ s. RepresentTables s m2 (tables_with places))
  made_shown m2 (Ok s) made = made.1
  made_shown m2 (Err fault) made = tt

  begins_made : (n : NewMap) → n ≡ opening setting 1 places → (n2 : NewMap) (m2 : Mem (Node K V)) (result : Result Setting Fault) → RunsTo (new_map_plan {K = K} {V = V}) n m n2 m2 result → HasMade m2 result
  begins_made n e n2 m2 result runs =
      runs_made same hash lawful setting power_of (omega arith) places m h refl (omega arith) refl few_of (opening setting 1 places) m n2 m2 result
      (subst (λ (x : NewMap). RunsTo (new_map_plan {K = K} {V = V}) x m n2 m2 result) e runs) first

  pub begins_holds : (n : NewMap) → n ≡ opening setting 1 places → (n2 : NewMap) (m2 : Mem (Node K V)) (result : Result Setting Fault) → RunsTo (new_map_plan {K = K} {V = V}) n m n2 m2 result
      → IfOk result (λ s. Holds same hash s m2 [])
  begins_holds n e n2 m2 result runs = made_ok m2 result (begins_made n e n2 m2 result runs)

  pub begins_shown : (n : NewMap) → n ≡ opening setting 1 places → (n2 : NewMap) (m2 : Mem (Node K V)) (result : Result Setting Fault) → RunsTo (new_map_plan {K = K} {V = V}) n m n2 m2 result
      → IfOk result (λ s. RepresentTables s m2 (tables_with places))
  begins_shown n e n2 m2 result runs = made_shown m2 result (begins_made n e n2 m2 result runs)

  pub begins_refused : (n : NewMap) → n ≡ opening setting 1 places → (n2 : NewMap) (m2 : Mem (Node K V)) (result : Result Setting Fault) → RunsTo (new_map_plan {K = K} {V = V}) n m n2 m2 result
      → IfErr result (λ why. why ≡ fault.Memory)
  begins_refused n e n2 m2 result runs =
      first_refused same hash lawful setting power_of (omega arith) places m h had inside root used (λ few. table) table.most n2 m2 result
      (subst (λ (x : NewMap). RunsTo (new_map_plan {K = K} {V = V}) x m n2 m2 result) e runs)

-- a number is told just where so many places are not too many for a table
pub few_told : (places number told : ℕ) → Ok told ≡ if_few places number → 2 ^ 48 < places → ⊥
few_told places number told is many = by (nat_le places (2 ^ 48)) refl is
  where
    by : (b : Bool) → nat_le places (2 ^ 48) ≡ b → ◌≡◌ {A = Result ℕ Fault} (Ok told) (if b then Ok number else Err fault.Capacity) → ⊥
    by true few is = let l = leb-true places (2 ^ 48) few in omega (arith, l, many)
    by false few is = absurd (cc is)

pub many_told : (places number : ℕ) (why : Fault) → Err why ≡ if_few places number → (why ≡ fault.Capacity) × (2 ^ 48 < places)
many_told places number why is = by (nat_le places (2 ^ 48)) refl is
  where
    by : (b : Bool) → nat_le places (2 ^ 48) ≡ b → ◌≡◌ {A = Result ℕ Fault} (Err why) (if b then Ok number else Err fault.Capacity) → (why ≡ fault.Capacity) × (2 ^ 48 < places)
    by true few is = absurd (cc is)
    by false few is = (cc is, leb-false places (2 ^ 48) few)

-- so many places are those that the pairs need
abbrev none_or_one : ℕ → Bool → List (ℕ × ℕ)
none_or_one len none = if none then [] else (len, 0) ∷ []

pub no_table_for : (pairs : ℕ) → pairs ≡ 0 → tables_with 0 ≡ tables_for pairs
no_table_for pairs none = sym (ap (none_or_one (needed pairs 0)) (eq-eqb pairs 0 none))

len_for : (pairs entries : ℕ) → Ok entries ≡ entries_of pairs → or_too_long (len_of pairs) ≡ max entries 8
len_for pairs entries is = by (nat_le (places_for pairs) (2 ^ 48)) is
  where
    by : (b : Bool) → ◌≡◌ {A = Result ℕ Fault} (Ok entries) (if b then Ok (next_power (places_for pairs)) else Err fault.Capacity)
        → or_too_long (if b then Ok (max (next_power (places_for pairs)) 8) else Err fault.Capacity) ≡ max entries 8
    by true is = let e : entries ≡ next_power (places_for pairs) = cc is in ap (λ (n : ℕ). max n 8) (sym e)
    by false is = absurd (cc is)

pub one_table_for : (pairs entries : ℕ) → pairs ≢ 0 → Ok entries ≡ entries_of pairs → places_for pairs ≤ entries → tables_with entries ≡ tables_for pairs
one_table_for pairs entries some is enough =
    let least : pairs * 8 / 6 ≤ entries = enough in
    let no_more : 0 + pairs ≡ pairs = omega arith in
    ap (none_or_one (max entries 8)) (ne_eqb entries 0 (λ e. some (omega (arith, least, e))))
    ∙ ap (λ (len : ℕ). none_or_one len false) (sym (ap (λ (n : ℕ). or_too_long (len_of n)) no_more ∙ len_for pairs entries is))
    ∙ sym (ap (none_or_one (needed pairs 0)) (ne_eqb pairs 0 some))

-- nothing has happened, and then the slot was taken
pub nothing_happened : {K V : Type 0} (m : Mem (Node K V)) → m ≡ record { roots = 0 ∷ []; used = 0 ∷ []; slots = []; blocks = []; choices = [] } → IsHistory deferred_word 32 1 m nothing_yet
nothing_happened {K} {V} m e = subst (λ (x : Mem (Node K V)). IsHistory deferred_word 32 1 x nothing_yet) (sym e) (histories_begin (deferred_word {K = K} {V = V}) 32 1)

pub nothing_there : {K V : Type 0} (m : Mem (Node K V)) → m ≡ record { roots = 0 ∷ []; used = 0 ∷ []; slots = []; blocks = []; choices = [] } → (b : ℕ) → value_at m b ≡ None
nothing_there {K} {V} m e b = ap (λ (x : Mem (Node K V)). value_at x b) e ∙ by (b == 0)
  where
    by : (t : Bool) → value_in {T = Node K V} (if t then None else None) ≡ None
    by true = refl
    by false = refl

pub taken_inside : (slot : ℕ) → IsInside ((registered true slot nothing_yet).uses slot)
taken_inside slot = subst IsInside (sym (with_here (λ s. Vacant) slot (Inside 0))) tt

-- where nothing has happened, no slot is refused but for want of memory
first_slot : new_slot nothing_yet.uses ≡ Some 0
first_slot = refl

pub slot_refused : {T : Type 0} (m : Mem T) (why : Fault) → IsRefusal m nothing_yet.uses why → why ≡ fault.Memory
slot_refused m fault.Memory is = refl
slot_refused m fault.SlotsUsedUp is = absurd (cc (sym is ∙ first_slot))
slot_refused m _ is = absurd is
