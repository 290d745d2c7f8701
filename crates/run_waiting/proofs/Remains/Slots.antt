-- Each operation leaves words of slots noted just where there are some: room is made for the next bucket alone, and then it is noted.
use Rattle.std.specs.Prelude.{◌⊎◌, ◌≤◌, ◌<◌, ◌==◌, nat_le, slice_get, List, [], ◌∷◌, ◌++◌, length, replicate, Option, Some, Ok, Err, IsSome, if◌then◌else◌}
use Rattle.std.proofs.Common.{◌≡◌, ℕ, zero, suc, ◌+◌, Bool, true, false, inl, inr, refl, ap, sym, subst, ◌∙◌, arith, length-append}
use Rattle.std.proofs.lemmas.Bool.{eq-eqb}
use Rattle.std.proofs.lemmas.List.{get_or-replicate, length-replicate}
use Rattle.run_debts.specs.Given.SeizeWordsDeclared.at.At.{At}
use Rattle.run_debts.specs.Given.SeizeWordsDeclared.at.At.TheVariants.{Root, Used, Slot, Entry, Word}
use Rattle.run_debts.specs.Given.SeizeWordsDeclared.slots.TheConstants.{SLOT_WORDS}
use Rattle.run_debts.specs.Given.SeizeWordsMem.{Mem, Can, after, same_at, with_room, with_word, word_at}
use Rattle.run_debts.specs.Given.SeizeWordsOp.{Op, Out, Load, Store, Swap, Add, Or, Exchange, Make, Take, Rewrite, Room, Found, Exchanged, Made, Roomed}
use Rattle.run_debts.specs.Given.SeizeWordsPlace.{capacity}
use Rattle.run_debts.specs.Given.SeizeWordsSlotWords.{slot_word, with_bucket as with_slots}
use Rattle.run_debts.specs.Given.SeizeWordsWord.{block_in}
use Rattle.run_debts.proofs.Given.SeizeWordsOneOwner.AfterWrites.{word_at-with_word}
use Rattle.run_debts.proofs.Given.SeizeWordsPlaces.Words.{capacity-more, capacity_le_capacity, capacity_pos, with_bucket_next, with_bucket_there}
use Rattle.run_debts.proofs.Given.SeizeMemoryWords.Room.{same_length}
use Rattle.run_debts.specs.Given.SeizeDeclared.states.TheConstants.{HEAD}
use Rattle.run_debts.specs.Given.TablesDeclared.node.Node.{Node}
use Rattle.run_debts.specs.Given.TablesDeclared.table_words.TheConstants.{NEXT}
use Rattle.run_debts.specs.Given.RawEndMap.{end_map_plan}
use Rattle.run_debts.specs.Given.RawMachine.{machine_plan}
use Rattle.run_debts.specs.Given.ResizeNewMap.{new_map_plan}
use Rattle.run_debts.specs.Given.TellerTells.{observed_of}
use Rattle.run_debts.specs.Given.EffectsDeclared.changed.Changed.{Changed}
use Rattle.run_debts.specs.Given.EffectsDeclared.changed.Changed.TheVariants as changed
use Rattle.run_debts.specs.Given.TellsSeen.{seen_of}
use Rattle.run_debts.specs.Given.EffectsEffects.{in_block_on, in_table_on, is_place, known_after, linked_on, named, names_same, stored_on, written_on}
use Rattle.run_debts.specs.Given.EffectsKnown.{Known, with_bucket}
use Rattle.run_debts.specs.Given.EffectsDeclared.acting.Acting.{Acting}
use Rattle.run_debts.specs.Given.EffectsDeclared.acting.Acting.TheVariants as acts
use Rattle.run_debts.specs.Given.EffectsDeclared.role.Role.{Role}
use Rattle.run_debts.specs.Given.EffectsDeclared.role.Role.TheVariants as role
use Rattle.run_debts.specs.Given.FinishesMachines.{machine_of}
use Rattle.run_debts.proofs.Given.FollowsOperations.{Operated, operated}
use Rattle.run_debts.proofs.Given.OthersRowPlans.{row_operated}
use Rattle.run_waiting.specs.Remains.Slots.{CallsNoteSlots, EndingsNoteSlots, MakingsNoteSlots, RowsNoteSlots, SlotsBegin, SlotsNoted}
use Rattle.run_debts.proofs.Given.ScenesMay.{may_end, may_make, may_row, may_step}

-- no bucket came
abbrev pub IsNoRoom : Changed → Type 0
IsNoRoom (changed.Roomed bucket had) = had ≡ false
IsNoRoom _ = Unit {0}

-- then there are as many
by_test : (q : Bool) (x y known : Known) → x.buckets ≡ known.buckets → y.buckets ≡ known.buckets → (if q then x else y).buckets ≡ known.buckets
by_test true x y known e f = e
by_test false x y known e f = f

linked_buckets : (acting : Acting) (b : ℕ) (r : Role) (known : Known) → (linked_on acting b r known).buckets ≡ known.buckets
linked_buckets acting b (role.OwnTable turn shape) known = refl
linked_buckets acting b _ known = refl

stored_buckets : (b : ℕ) (r : Role) (known : Known) → (stored_on b r known).buckets ≡ known.buckets
stored_buckets b (role.OwnPair caller) known = refl
stored_buckets b _ known = refl

block_buckets : (acting : Acting) (r : Role) (field : ℕ) (q : Bool) (b : ℕ) (is : Role) (known : Known) → (in_block_on acting r field q b is known).buckets ≡ known.buckets
block_buckets acting (role.Table t len) field q b is known =
    by_test q known (in_table_on acting len field b is known) known refl
    (by_test (field == NEXT) (linked_on acting b is known) (if is_place len field then stored_on b is known else known) known (linked_buckets acting b is known)
    (by_test (is_place len field) (stored_on b is known) known known (stored_buckets b is known) refl))
block_buckets acting _ field q b is known = refl

written_buckets : (acting : Acting) (at : At) (old new : ℕ) (known : Known) → (written_on acting at old new known).buckets ≡ known.buckets
written_buckets acting (Root r) old new known =
    by_test (names_same old new) known (linked_on acting (block_in new) (named known new) known) known refl (linked_buckets acting (block_in new) (named known new) known)
written_buckets acting (Word b field) old new known = block_buckets acting (known.roles b) field (names_same old new) (block_in new) (named known new) known
written_buckets acting _ old new known = refl

pub buckets_stay : (acting : Acting) (c : Changed) (known : Known) → IsNoRoom c → (known_after acting c known).buckets ≡ known.buckets
buckets_stay acting (changed.Wrote at old new) known none = written_buckets acting at old new known
buckets_stay acting (changed.Roomed bucket true) known none = absurd (cc none)
buckets_stay acting _ known none = refl

-- and never fewer
pub buckets_grow : (acting : Acting) (c : Changed) (known : Known) → known.buckets ≤ (known_after acting c known).buckets
buckets_grow acting (changed.Roomed bucket true) known = by (nat_le known.buckets bucket) refl
  where
    by : (q : Bool) → nat_le known.buckets bucket ≡ q → known.buckets ≤ (if q then record known { buckets = bucket + 1 } else known).buckets
    by true e = let low : known.buckets ≤ bucket = grind (arith, e) in omega (arith, low)
    by false e = omega arith
buckets_grow acting (changed.Wrote at old new) known = let same_number = written_buckets acting at old new known in omega (arith, same_number)
buckets_grow acting _ known = omega arith

unless : (q : Bool) (w : ℕ) (o : Option ℕ) → IsSome o → IsSome (if q then Some w else o)
unless true w o some = refl
unless false w o some = some

-- Of slots: a word stays, and none comes; they are as many.
module _ {T : Type 0} where
  abbrev Keeps : Mem T → Mem T → Type 0
  Keeps m n = (IsSome (word_at m (Slot 0 HEAD)) → IsSome (word_at n (Slot 0 HEAD))) × (m.slots ≡ [] → n.slots ≡ []) × (length n.slots ≡ length m.slots)

  -- where there is no slot there is no word of one
  no_word : (m : Mem T) (s field : ℕ) → IsSome (word_at m (Slot s field)) → m.slots ≡ [] → ⊥
  no_word m s field some none = (let gone = subst (λ (l : List (List ℕ)). IsSome (slot_word l s field)) none some in cc gone)

  written : (m : Mem T) (at : At) (w : ℕ) → IsSome (word_at m at) → Keeps m (with_word m at w)
  written m (Root r) w can = (λ some. some, λ none. none, refl)
  written m (Used r) w can = (λ some. some, λ none. none, refl)
  written m (Slot s field) w can = (
    λ some. subst IsSome (sym (word_at-with_word m (Slot s field) w (Slot 0 HEAD) can)) (unless (same_at (Slot 0 HEAD) (Slot s field)) w (word_at m (Slot 0 HEAD)) some),
    λ none. absurd (no_word m s field can none),
    same_length m (Slot s field) w,
  )
  written m (Entry b field) w can = (λ some. some, λ none. none, refl)
  written m (Word b field) w can = (λ some. some, λ none. none, refl)

  -- an operation that makes no room
  abbrev pub IsOther : Op T → Out T → Type 0
  IsOther (Room bucket) (Roomed (Ok made)) = ⊥
  IsOther _ _ = Unit {0}

  other_keeps : (m : Mem T) (op : Op T) (out : Out T) → Can m op → IsOther op out → Keeps m (after m op out)
  other_keeps m (Load at) out can other = (λ some. some, λ none. none, refl)
  other_keeps m (Store at w) out can other = written m at w can
  other_keeps m (Swap at w) out can other = written m at w can
  other_keeps m (Add at by) (Found w) can other = written m at _ can
  other_keeps m (Add at by) _ can other = (λ some. some, λ none. none, refl)
  other_keeps m (Or at bits) (Found w) can other = written m at _ can
  other_keeps m (Or at bits) _ can other = (λ some. some, λ none. none, refl)
  other_keeps m (Exchange at old new) (Exchanged (Ok w)) can other = written m at new can
  other_keeps m (Exchange at old new) _ can other = (λ some. some, λ none. none, refl)
  other_keeps m (Make value words) (Made (Ok b)) can other = (λ some. some, λ none. none, refl)
  other_keeps m (Make value words) _ can other = (λ some. some, λ none. none, refl)
  other_keeps m (Take b) out can other = (λ some. some, λ none. none, refl)
  other_keeps m (Rewrite b new) out can other = (λ some. some, λ none. none, refl)
  other_keeps m (Room bucket) (Roomed (Ok made)) can other = absurd other
  other_keeps m (Room bucket) _ can other = (λ some. some, λ none. none, refl)

  -- it makes room, or it does not
  abbrev pub MakesRoom : Op T → Out T → Type 0
  MakesRoom op out = (bucket : ℕ) × (op ≡ Room bucket) × (out ≡ Roomed (Ok tt))

  pub either_way : (op : Op T) (out : Out T) → IsOther op out ⊎ MakesRoom op out
  either_way (Room bucket) (Roomed (Ok made)) = inr (bucket, refl, refl)
  either_way _ _ = inl tt

-- room of the next bucket
module _ (bucket : ℕ) (known : Known) where
  word_there : (x : List ℕ) (xs : List (List ℕ)) (some : 0 < known.buckets → IsSome (slot_word (x ∷ xs) 0 HEAD)) (none : known.buckets ≡ 0 → x ∷ xs ≡ []) → IsSome (slot_word (x ∷ xs) 0 HEAD)
  word_there x xs some none = by known.buckets refl
    where
      by : (n : ℕ) → known.buckets ≡ n → IsSome (slot_word (x ∷ xs) 0 HEAD)
      by zero e = absurd (let empty = none e in cc empty)
      by (suc n) e = some (omega (arith, e))

  first_word : (n : ℕ) → 0 < n → IsSome (slot_word (replicate n (replicate SLOT_WORDS 0)) 0 HEAD)
  first_word n l = subst (λ (x : List ℕ). IsSome (slice_get x HEAD)) (sym (get_or-replicate n 0 (replicate SLOT_WORDS 0) [] l)) refl

  room_then : (slots : List (List ℕ)) → capacity bucket ≤ length slots + 32 → (0 < known.buckets → IsSome (slot_word slots 0 HEAD)) → (known.buckets ≡ 0 → slots ≡ []) → IsSome (slot_word (with_slots slots bucket) 0 HEAD)
  room_then [] can some none =
      let least : capacity 0 ≤ capacity bucket = capacity_le_capacity 0 bucket (omega arith) in
      let next : ◌≡◌ {A = ℕ} (length {A = List ℕ} [] + 32) (capacity bucket) = omega (arith, least, can) in
      subst (λ (q : Bool). IsSome (slot_word (if q then [] ++ replicate (capacity bucket) (replicate SLOT_WORDS 0) else []) 0 HEAD)) (sym (eq-eqb (length {A = List ℕ} [] + 32) (capacity bucket) next))
      (first_word (capacity bucket) (capacity_pos bucket))
  room_then (x ∷ xs) can some none = by (length (x ∷ xs) + 32 == capacity bucket)
    where
      by : (q : Bool) → IsSome (slot_word (if q then (x ∷ xs) ++ replicate (capacity bucket) (replicate SLOT_WORDS 0) else x ∷ xs) 0 HEAD)
      by true = word_there x xs some none
      by false = word_there x xs some none

  some_then : 0 < (with_bucket bucket known).buckets
  some_then = by (nat_le known.buckets bucket) refl
    where
      by : (q : Bool) → nat_le known.buckets bucket ≡ q → 0 < (if q then record known { buckets = bucket + 1 } else known).buckets
      by true e = omega arith
      by false e = grind (arith, e)

  -- so many slots there are as the buckets that are noted have
  whole_then : (slots : List (List ℕ)) → capacity bucket ≤ length slots + 32 → length slots + 32 ≡ capacity known.buckets → length (with_slots slots bucket) + 32 ≡ capacity (with_bucket bucket known).buckets
  whole_then slots can whole = by (nat_le known.buckets bucket) refl
    where
      by : (q : Bool) → nat_le known.buckets bucket ≡ q → length (with_slots slots bucket) + 32 ≡ capacity (if q then record known { buckets = bucket + 1 } else known).buckets
      by true e =
          let low : known.buckets ≤ bucket = grind (arith, e) in
          let most = capacity_le_capacity known.buckets bucket low in
          let next : length slots + 32 ≡ capacity bucket = omega (arith, most, can, whole) in
          let long = ap length (with_bucket_next slots bucket next) ∙ length-append slots (replicate (capacity bucket) (replicate {A = ℕ} SLOT_WORDS 0)) in
          let new = length-replicate (capacity bucket) (replicate {A = ℕ} SLOT_WORDS 0) in
          let more = capacity-more bucket in
          omega (arith, next, long, new, more)
      by false e =
          let high : bucket + 1 ≤ known.buckets = grind (arith, e) in
          let most = capacity_le_capacity (bucket + 1) known.buckets high in
          let more = capacity-more bucket in
          let some = capacity_pos bucket in
          ap (λ (l : List (List ℕ)). length l + 32) (with_bucket_there slots bucket (λ next. omega (arith, next, most, more, some, whole))) ∙ whole

  room_noted : {T : Type 0} (m : Mem T) → Can m (Room bucket) → SlotsNoted known m → SlotsNoted (with_bucket bucket known) (with_room m bucket)
  room_noted m can noted = record {
    some = λ l. room_then m.slots can.1 noted.some noted.none;
    none = λ e. absurd (let some = some_then in omega (arith, e, some));
    whole = whole_then m.slots can.1 noted.whole;
  }

module _ {K V : Type 0} where
  pub no_room_told : (m : Mem (Node K V)) (op : Op (Node K V)) (out : Out (Node K V)) → IsOther op out → IsNoRoom (observed_of op out (seen_of m op out))
  no_room_told m (Load at) out other = tt
  no_room_told m (Store at w) out other = tt
  no_room_told m (Swap at w) (Found before) other = tt
  no_room_told m (Swap at w) _ other = tt
  no_room_told m (Add at by) (Found before) other = tt
  no_room_told m (Add at by) _ other = tt
  no_room_told m (Or at bits) (Found before) other = tt
  no_room_told m (Or at bits) _ other = tt
  no_room_told m (Exchange at old new) (Exchanged (Ok w)) other = tt
  no_room_told m (Exchange at old new) _ other = tt
  no_room_told m (Make value words) (Made (Ok b)) other = tt
  no_room_told m (Make value words) (Made (Err back)) other = tt
  no_room_told m (Make value words) _ other = tt
  no_room_told m (Take b) out other = tt
  no_room_told m (Rewrite b new) out other = tt
  no_room_told m (Room bucket) (Roomed (Ok made)) other = absurd other
  no_room_told m (Room bucket) (Roomed (Err fault)) other = refl
  no_room_told m (Room bucket) _ other = tt

  -- one operation, whoever makes it
  pub operation_notes : (acting : Acting) (known : Known) (m m2 : Mem (Node K V)) (told : Changed) → Operated m m2 told → SlotsNoted known m → SlotsNoted (known_after acting told known) m2
  operation_notes acting known m m2 told (inl (stays, is)) noted =
      subst (λ (c : Changed). SlotsNoted (known_after acting c known) m2) (sym is) (subst (λ (x : Mem (Node K V)). SlotsNoted known x) (sym stays) noted)
  operation_notes acting known m m2 told (inr made) noted =
      subst (λ (c : Changed). SlotsNoted (known_after acting c known) m2) (sym made.is)
      (subst (λ (x : Mem (Node K V)). SlotsNoted (known_after acting (observed_of made.op made.out (seen_of m made.op made.out)) known) x) (sym made.took.1) (by made.op made.out made.can (either_way made.op made.out)))
    where
      by : (op : Op (Node K V)) (out : Out (Node K V)) → Can m op → IsOther op out ⊎ MakesRoom op out → SlotsNoted (known_after acting (observed_of op out (seen_of m op out)) known) (after m op out)
      by op out can (inl other) =
          let keeps = other_keeps m op out can other in
          let as_many = buckets_stay acting (observed_of op out (seen_of m op out)) known (no_room_told m op out other) in
          record {
            some = λ l. keeps.0 (noted.some (omega (arith, l, as_many)));
            none = λ e. keeps.1 (noted.none (sym as_many ∙ e));
            whole = ap (λ (n : ℕ). n + 32) keeps.2 ∙ noted.whole ∙ ap capacity (sym as_many);
          }
      by op out can (inr (bucket, is_room, is_made)) =
          subst (λ (x : Op (Node K V)). SlotsNoted (known_after acting (observed_of x out (seen_of m x out)) known) (after m x out)) (sym is_room)
          (subst (λ (x : Out (Node K V)). SlotsNoted (known_after acting (observed_of (Room bucket) x (seen_of m (Room bucket) x)) known) (after m (Room bucket) x)) (sym is_made)
          (room_noted bucket known m (subst (Can m) is_room can) noted))

pub slots_begin : (K V : Type 0) → SlotsBegin K V
slots_begin K V roots = record { some = λ l. absurd (omega (arith, l)); none = λ e. refl; whole = omega arith }

module _ (K V : Type 0) (same : K → K → Bool) (hash : ℕ → K → ℕ) where
  pub calls_note_slots : CallsNoteSlots K V same hash
  calls_note_slots known s old new at noted map i u here said leads =
      let to = leads map u here in
      operation_notes (acts.Call i map) known old.memory new.memory new.changed
      (operated old.memory new.memory new.changed (machine_plan same same to.0.hash (machine_of u)) (to.1, said) (may_step same hash old s at map to.0 to.2 i u here) to.3) noted

  pub rows_note_slots : RowsNoteSlots K V same hash
  rows_note_slots known s old new at noted i said leads row here =
      let to = leads row here in
      operation_notes acts.Row known old.memory new.memory new.changed
      (row_operated old.memory new.memory new.changed (to.0, said) row (may_row same hash old s at i row here) to.1) noted

  pub makings_note_slots : MakingsNoteSlots K V same hash
  makings_note_slots known s old new at noted i said leads b here map =
      let to = leads b here in
      operation_notes (acts.Making map) known old.memory new.memory new.changed
      (operated old.memory new.memory new.changed (new_map_plan b.machine) (to.0, said) (may_make same hash old s at i b here) to.1) noted

  pub endings_note_slots : EndingsNoteSlots K V same hash
  endings_note_slots known s old new at noted i said leads f here map =
      let to = leads f here in
      let may = may_end same hash old s at i f here in
      operation_notes (acts.Ending map) known old.memory new.memory new.changed
      (operated old.memory new.memory new.changed (end_map_plan f.machine) (to.0, said) may to.1) noted
