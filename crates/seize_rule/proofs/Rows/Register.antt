-- Steps of a row that takes a slot.
use Rattle.std.specs.Prelude.{Option, Some, None, if◌then◌else◌, nat_lt, ◌++◌, slice_get, slice_index_or, replicate}
use Rattle.std.proofs.Common.{◌≡◌, ◌≢◌, ℕ, zero, suc, ◌+◌, ◌-◌, ◌<◌, ◌≤◌, Bool, true, false, cond, eqb, List, [], ◌∷◌, ◌⊎◌, length, refl, arith, subst, sym, ap, ◌∙◌, inl, inr, eqb-true}
use Rattle.std.proofs.Math.Path.{fun_ext}
use Rattle.std.proofs.lemmas.Bool.{cases_eq, cases_lt, eqb-false}
use Rattle.std.proofs.lemmas.List.{get_or_append_left, get_or-append_right}
use Rattle.std.proofs.Math.ListN.{get_or-eq_default}
use Rattle.seize_moves.specs.Given.SeizeWordsDeclared.at.At.{At}
use Rattle.seize_moves.specs.Given.SeizeWordsDeclared.at.At.TheVariants as at
use Rattle.seize_moves.specs.Given.SeizeWordsDeclared.slots.TheConstants.{SLOT_WORDS}
use Rattle.seize_moves.specs.Given.SeizeWordsDeclared.fault.Fault.{Fault}
use Rattle.seize_moves.specs.Given.SeizeWordsDeclared.fault.Fault.TheVariants.{Memory, SlotsUsedUp}
use Rattle.seize_moves.specs.Given.SeizeWordsMem.{Mem, value_at, with_word, with_room, Can, Took}
use Rattle.seize_moves.specs.Given.SeizeWordsPlace.{capacity}
use Rattle.seize_moves.specs.Given.SeizeWordsSlotWords.{slot_word, with_bucket}
use Rattle.seize_moves.specs.Given.SeizeWordsPlan.{May, Steps, Now}
use Rattle.seize_moves.proofs.Given.SeizeWordsOneOwner.Operations.{loaded, may_load, stored, may_store, exchanged, may_exchange, roomed, may_room}
use Rattle.seize_moves.proofs.Given.SeizeWordsPlaces.Words.{with_bucket_next, with_bucket_there}
use Rattle.seize_moves.specs.Given.SeizeDeclared.states.TheConstants.{HEAD, IDLE, ACTIVE, LAST_SLOT}
use Rattle.seize_moves.specs.Given.SeizeDeclared.advance.Advance.{Advance}
use Rattle.seize_moves.specs.Given.SeizeDeclared.advance.Advance.TheVariants.{Goes, Done, Refused}
use Rattle.seize_moves.specs.Given.SeizeDeclared.rows.register.Register.{Register}
use Rattle.seize_moves.specs.Given.SeizeDeclared.rows.register.Registering.{Registering}
use Rattle.seize_moves.specs.Given.SeizeDeclared.rows.register.Registering.TheVariants as stands
use Rattle.seize_moves.specs.Given.SeizeRegister.{begun, looked, widened, taken, further, taking, going, refused, registered, can_be_taken, bucket_needed, plan_at, register_plan}
use Rattle.seize_moves.specs.Given.SeizeLaw.{Effect, Entered, is_open}
use Rattle.seize_moves.specs.Given.SeizeWorld.{World, Row, Rests, Registers, Use, Vacant, Outside, Inside, Changing, with_at, with_use, after_step, register_effects, registered_use, registered_as, registers_on}
use Rattle.seize_moves.specs.Waiting.Held.{count, same}
use Rattle.seize_moves.proofs.Moves.State.Ghost.{put, Head, Never, Free, Idle, Active, emptied, is_never, is_active, list_of}
use Rattle.seize_moves.proofs.Moves.State.Ghost as Ghosts
use Rattle.seize_moves.proofs.Memory.Words.Chains.{Chain, blocks_of}
use Rattle.seize_moves.proofs.Moves.State.Together.{stays}
use Rattle.seize_moves.proofs.Moves.State.Moves
use Rattle.seize_moves.proofs.Moves.Moves.Slots.{registered_moves, entered_moves}
use Rattle.seize_moves.proofs.Memory.Words.Named.{words_of, word_found, or_zero}
use Rattle.seize_moves.proofs.Memory.Words.View.{View, view, view_of}
use Rattle.seize_moves.proofs.Memory.Words.Shows.{Written, HeadIs, keeps_like}
use Rattle.seize_moves.proofs.Memory.Written.Heads.{registered_written, entered_written}
use Rattle.seize_rule.proofs.Rows.Known.{works_on, registering_on, Idles, OnSlot, Looks, Seen, Takes, FitsRegister, FitsRow}
use Rattle.seize_rule.proofs.Points.Known.{TakenBelow}
use Rattle.seize_rule.proofs.Rows.Teams.{Used, shares, UseFits, none_in, used_same, used_at, alone_ends, no_other}
use Rattle.seize_moves.proofs.Memory.Words.Room.{HasRoom, slot_there, room_heads, room_taken, room_more, first_room, first_there, slots_grow, next_there, needed_room, needed_there}
use Rattle.seize_rule.proofs.Rows.Short.{tries_on, still_short}
use Rattle.seize_moves.proofs.Moves.Sets.Unmoved.{registered_unmoved}
use Rattle.seize_rule.proofs.Rows.Told.{RowTold, RegisterLooks, RegisterRefused, RegisterTakes, RegisterEnters, IsLooking, TakesFor}
use Rattle.seize_rule.proofs.World.Good.{Good, Stays, RowWent, Next, next_after}
use Rattle.seize_rule.proofs.Rows.Slots.{idle_head, idles_after, stays_same, head_went, head_there}

-- a further bucket's words are 0, as they were while there were none

no_words : (c s i : ℕ) → or_zero (slice_get (slice_index_or (replicate c (replicate SLOT_WORDS 0)) s []) i) ≡ 0
no_words zero s i = refl
no_words (suc c) zero i = two i
  where
    two : (i : ℕ) → or_zero (slice_get (replicate SLOT_WORDS 0) i) ≡ 0
    two zero = refl
    two (suc zero) = refl
    two (suc (suc i)) = refl
no_words (suc c) (suc s) i = no_words c s i

room_word : (slots : List (List ℕ)) (bucket s i : ℕ) → or_zero (slot_word (with_bucket slots bucket) s i) ≡ or_zero (slot_word slots s i)
room_word slots bucket s i = elim (cases_eq (length slots + 32) (capacity bucket)) as (λ _. or_zero (slot_word (with_bucket slots bucket) s i) ≡ or_zero (slot_word slots s i)) [
  | inl e ↦ ap (λ k. or_zero (slot_word k s i)) (with_bucket_next slots bucket e) ∙ more
  | inr ne ↦ ap (λ k. or_zero (slot_word k s i)) (with_bucket_there slots bucket ne)
]
  where
    more : or_zero (slot_word (slots ++ replicate (capacity bucket) (replicate SLOT_WORDS 0)) s i) ≡ or_zero (slot_word slots s i)
    more = elim (cases_lt s (length slots)) as (λ _. or_zero (slot_word (slots ++ replicate (capacity bucket) (replicate SLOT_WORDS 0)) s i) ≡ or_zero (slot_word slots s i)) [
      | inl inside ↦ ap (λ (words : List ℕ). or_zero (slice_get words i)) (get_or_append_left slots (replicate (capacity bucket) (replicate SLOT_WORDS 0)) [] s inside)
      | inr past ↦ ap (λ (words : List ℕ). or_zero (slice_get words i))
          (get_or-append_right slots (replicate (capacity bucket) (replicate SLOT_WORDS 0)) (length slots) s [] refl past)
          ∙ no_words (capacity bucket) (s - length slots) i ∙ sym (ap (λ (words : List ℕ). or_zero (slice_get words i)) (get_or-eq_default slots [] past))
    ]

pub room_view : {T : Type 0} (defers : T → Option ℕ) (m : Mem T) (bucket : ℕ) → view defers (with_room m bucket) ≡ view defers m
room_view defers m bucket = ap (λ w. view_of defers w (value_at m)) (fun_ext same)
  where
    same : (x : At) → words_of (with_room m bucket) x ≡ words_of m x
    same (at.Root r) = refl
    same (at.Used r) = refl
    same (at.Slot s i) = room_word m.slots bucket s i
    same (at.Entry b i) = refl
    same (at.Word b i) = refl

-- a slot that can be taken is nobody's

free_use : (u : Use) (h : Head) (k : ℕ) (o : Bool) → is_active h ≡ false → (h ≡ Idle → ⊥) → UseFits u (emptied h) k o → (u ≡ Vacant) × (k ≡ 0)
free_use Vacant Never k o a b f = (refl, f)
free_use Vacant Free k o a b f = (refl, f)
free_use Vacant Idle k o a b f = absurd (b refl)
free_use Vacant (Active es) k o a b f = absurd (cc a)
free_use (Outside j) h k o a b f = absurd (b (idle_head h f.0))
free_use (Inside j) h k o a b f = absurd (grind (arith, f.0))
free_use Changing h k o a b f = absurd (grind (arith, f.0))

-- a slot's use may be said anew
used_ext : (head : ℕ → Head) (log : List Effect) (row : ℕ → Row) (uses uses2 : ℕ → Use) → ((t : ℕ) → uses2 t ≡ uses t) → Used head log row uses → Used head log row uses2
used_ext head log row uses uses2 same p = subst (λ (u : ℕ → Use). Used head log row u) (sym (fun_ext same)) p

module _ {T : Type 0} {size : ℕ} (defers : T → Option ℕ) (n : ℕ) (last : n ≡ LAST_SLOT + 1) (w : World T) (good : Good defers n size w) (i : ℕ) (c : Register) (is : w.row i ≡ Registers c) where
  -- nothing moves, and no slot's use changes
  still_went : (mem2 : Mem T) (row : Row) → view defers mem2 ≡ view defers w.memory → works_on (w.row i) ≡ 0 → works_on row ≡ 0
      → FitsRow n i (view defers w.memory) good.state good.extra (length mem2.slots) row → HasRoom n good.state.head mem2 → Stays defers w.memory mem2
      → RowWent defers n size w good.state good.extra i mem2 row [] w.uses
  still_went mem2 row seen before after fits room lasting = record {
    slot = 0;
    m2 = good.state;
    x2 = good.extra;
    moved = stays n i 0 good.state good.inv;
    written = subst (λ (g : View). Written n i (view defers w.memory) good.state good.extra g good.state good.extra) (sym seen)
        (record { shows = good.shows; keeps = keeps_like i (view defers w.memory) good.state good.extra (view defers w.memory) refl refl refl refl refl });
    pending = λ p. p;
    logged = refl;
    fits = subst (λ (g : View). FitsRow n i g good.state good.extra (length mem2.slots) row) (sym seen) fits;
    hands = good.hands;
    used = used_same i good.state.head good.state.head good.state.log good.state.log w.row w.uses row good.used (after ∙ sym before) (λ s e. absurd (omega (arith, after, e))) (λ t. refl) (λ t. refl);
    alone = λ j t ne q e. refl;
    room = room;
    stays = lasting;
    short = still_short n i 0 size good.state good.state (w.row i) row (stays n i 0 good.state good.inv).keeps refl (λ t. ap (λ (q : Row). tries_on q t) is);
  }

  goes_on : (mem2 : Mem T) (c2 : Register) → register_effects c c.stands ≡ [] → (g : RowWent defers n size w good.state good.extra i mem2 (Registers c2) [] w.uses)
      → RowTold n i (w.row i) good.state w.uses (Registers c2) g.m2 w.uses → Next defers n size w good.state i (registers_on w i c mem2 (c2, Goes))
  goes_on mem2 c2 e g told =
      subst (λ (es : List Effect). Next defers n size w good.state i (after_step w i mem2 (Registers c2) es)) (sym e) (next_after defers n w good i mem2 (Registers c2) [] w.uses g told)

  refuses : (mem2 : Mem T) (c2 : Register) (fault : Fault) → (g : RowWent defers n size w good.state good.extra i mem2 Rests [] w.uses) → RowTold n i (w.row i) good.state w.uses Rests g.m2 w.uses
      → Next defers n size w good.state i (registers_on w i c mem2 (c2, Refused fault))
  refuses mem2 c2 fault g told = next_after defers n w good i mem2 Rests [] w.uses g told

  ends : (mem2 : Mem T) (c2 : Register) (es : List Effect) → register_effects c c.stands ≡ es
      → (g : RowWent defers n size w good.state good.extra i mem2 Rests es (with_at w.uses c.slot (registered_as c)))
      → RowTold n i (w.row i) good.state w.uses Rests g.m2 (with_at w.uses c.slot (registered_as c))
      → Next defers n size w good.state i (registers_on w i c mem2 (c2, Done c.slot))
  ends mem2 c2 es e g told =
      subst (λ (fs : List Effect). Next defers n size w good.state i (with_use (after_step w i mem2 Rests fs) c.slot (registered_as c))) (sym e)
      (next_after defers n w good i mem2 Rests es (with_at w.uses c.slot (registered_as c)) g told)

  looking : (p : Registering) → c.stands ≡ p → IsLooking p → IsLooking c.stands
  looking p e h = subst (λ (q : Registering). IsLooking q) (sym e) h

  ended : (mem mem2 : Mem T) (end want : Register × Advance ℕ) → mem2 ≡ mem → end ≡ want → Next defers n size w good.state i (registers_on w i c mem want) → Next defers n size w good.state i (registers_on w i c mem2 end)
  ended mem mem2 end want a b g =
      subst (λ (k : Mem T). Next defers n size w good.state i (registers_on w i c k end)) (sym a) (subst (λ (o : Register × Advance ℕ). Next defers n size w good.state i (registers_on w i c mem o)) (sym b) g)

  on_same : (row : Row) → works_on (w.row i) ≡ 0 → works_on row ≡ 0 → FitsRow n i (view defers w.memory) good.state good.extra (length w.memory.slots) row
      → RowWent defers n size w good.state good.extra i w.memory row [] w.uses
  on_same row before after fits = still_went w.memory row refl before after fits good.room (stays_same defers w.memory good.stocked)

  room_stays : (bucket : ℕ) → Stays defers w.memory (with_room w.memory bucket)
  room_stays bucket = record {
    stocked = record { entries = good.stocked.entries; lists = good.stocked.lists; few = good.stocked.few };
    lists = λ a d h k. h;
    more = grown (length w.memory.slots) (length (with_room w.memory bucket).slots) (slots_grow w.memory bucket);
  }
    where
      grown : (a b : ℕ) → ((t : ℕ) → t < a → t < b) → a ≤ b
      grown a b h = elim (cases_lt b a) as (λ _. a ≤ b) [
        | inl less ↦ absurd (let k = h b less in omega (arith, k))
        | inr le ↦ le
      ]

  on_room : (bucket : ℕ) (row : Row) → works_on (w.row i) ≡ 0 → works_on row ≡ 0
      → FitsRow n i (view defers w.memory) good.state good.extra (length (with_room w.memory bucket).slots) row
      → RowWent defers n size w good.state good.extra i (with_room w.memory bucket) row [] w.uses
  on_room bucket row before after fits =
      still_went (with_room w.memory bucket) row (room_view defers w.memory bucket) before after fits (room_more n good.state.head w.memory bucket good.room) (room_stays bucket)

  -- the next slot is looked at, if there is one
  looks_on : works_on (w.row i) ≡ 0 → register_effects c c.stands ≡ [] → IsLooking c.stands → Looks n i good.state good.extra (length w.memory.slots) c.slot → is_never (good.state.head c.slot) ≡ false
      → (t : Bool) → nat_lt c.slot LAST_SLOT ≡ t
      → Next defers n size w good.state i (registers_on w i c w.memory (if t then going (record c { slot = c.slot + 1 }) stands.Look else refused c SlotsUsedUp))
  unfolding still_went on_same
  looks_on before e k r taken true q =
      let lt : c.slot + 1 < n = less q in
      goes_on w.memory (record c { slot = c.slot + 1; stands = stands.Look }) e (on_same (Registers (record c { slot = c.slot + 1; stands = stands.Look })) before refl
      (record {
        idles = r.idles;
        slot_lt = lt;
        here = good.room.enough c.slot (c.slot + 1) taken (omega arith) lt;
        below = below_more c.slot good.state.head r.below taken;
      })) (RegisterLooks c (record c { slot = c.slot + 1; stands = stands.Look }) is refl k tt refl refl refl)
    where
      less : nat_lt c.slot LAST_SLOT ≡ true → c.slot + 1 < n
      less h = let k : c.slot < LAST_SLOT = grind arith in omega (arith, k, last)

      below_more : (s : ℕ) (head : ℕ → Head) → TakenBelow head s → is_never (head s) ≡ false → TakenBelow head (s + 1)
      below_more s head h k t l = elim (cases_eq t s) as (λ _. is_never (head t) ≡ false) [
        | inl same ↦ rw same k
        | inr ne ↦ h t (omega arith)
      ]
  looks_on before e k r taken false q =
      refuses w.memory (record c { stands = stands.Refused SlotsUsedUp }) SlotsUsedUp (on_same Rests before refl r.idles) (RegisterRefused c is refl k refl refl)

  -- a slot that was ever taken has a head
  seen_taken : (v : ℕ) → (view defers w.memory).heads c.slot ≡ v → (v ≡ 0 → ⊥) → is_never (good.state.head c.slot) ≡ false
  seen_taken v e ne = one (good.state.head c.slot) (good.shows.entries.headed c.slot)
    where
      one : (h : Head) → HeadIs (view defers w.memory).links ((view defers w.memory).heads c.slot) h → is_never h ≡ false
      one Never k = absurd (ne (sym e ∙ k))
      one Free k = refl
      one Idle k = refl
      one (Active es) k = refl

  taking_good : (seen : ℕ) → works_on (w.row i) ≡ 0 → register_effects c c.stands ≡ [] → IsLooking c.stands → Seen n i good.state good.extra (length w.memory.slots) c.slot seen
      → (o : Option ℕ) → bucket_needed c.slot ≡ o → Next defers n size w good.state i (registers_on w i c w.memory (taking c seen o))
  unfolding still_went on_same
  taking_good seen before e k r (Some bucket) q =
      goes_on w.memory (record c { stands = stands.Widen bucket seen }) e (on_same (Registers (record c { stands = stands.Widen bucket seen })) before refl (record { sees = r; needed = q }))
      (RegisterLooks c (record c { stands = stands.Widen bucket seen }) is refl k tt refl refl refl)
  taking_good seen before e k r None q =
      goes_on w.memory (record c { stands = stands.Take seen }) e (on_same (Registers (record c { stands = stands.Take seen })) before refl
      (record { sees = r; behind = λ l. next_there w.memory c.slot good.room.bucketed r.looks.here q (omega (arith, last, l)) }))
      (RegisterLooks c (record c { stands = stands.Take seen }) is refl k tt refl refl refl)

  looked_good : (v : ℕ) → works_on (w.row i) ≡ 0 → register_effects c c.stands ≡ [] → IsLooking c.stands → Looks n i good.state good.extra (length w.memory.slots) c.slot
      → (view defers w.memory).heads c.slot ≡ v → (t : Bool) → can_be_taken v ≡ t
      → Next defers n size w good.state i (registers_on w i c w.memory (if t then taking c v (bucket_needed c.slot) else further c))
  looked_good v before e k r word true q =
      taking_good v before e k (record { looks = r; free = q; taken = λ ne. seen_taken v word ne }) (bucket_needed c.slot) refl
  looked_good v before e k r word false q = looks_on before e k r (seen_taken v word (λ z. zero_free v z q)) (nat_lt c.slot LAST_SLOT) refl
    where
      zero_free : (v : ℕ) → v ≡ 0 → can_be_taken v ≡ false → ⊥
      zero_free v z k = absurd (let p : can_be_taken 0 ≡ false = subst (λ (u : ℕ). can_be_taken u ≡ false) z k in cc p)

  -- the slot is taken

  -- nobody works on a slot that can be taken
  pub taken_use : (seen : ℕ) → can_be_taken seen ≡ true → (view defers w.memory).heads c.slot ≡ seen → (is_active (good.state.head c.slot) ≡ false) × (list_of (good.state.head c.slot) ≡ [])
      × (w.uses c.slot ≡ Vacant) × (length (good.used.team c.slot) ≡ 0)
  taken_use seen free e =
      let k = one (good.state.head c.slot) (good.shows.entries.headed c.slot) in
      let u = free_use (w.uses c.slot) (good.state.head c.slot) (length (good.used.team c.slot)) (is_open c.slot good.state.log) k.0 k.1 (good.used.fits c.slot) in
      (k.0, k.2, u.0, u.1)
    where
      two : can_be_taken 2 ≡ false
      two = refl

      one : (h : Head) → HeadIs (view defers w.memory).links ((view defers w.memory).heads c.slot) h → (is_active h ≡ false) × (h ≡ Idle → ⊥) × (list_of h ≡ [])
      one Never k = (refl, λ z. cc z, refl)
      one Free k = (refl, λ z. cc z, refl)
      one Idle k = absurd (let p : seen ≡ 2 = sym e ∙ k in let q : can_be_taken 2 ≡ true = subst (λ (u : ℕ). can_be_taken u ≡ true) p free in cc q)
      one (Active es) k = absurd (high seen (λ l. three es (sym e ∙ refl) k l) free)
        where
          high : (v : ℕ) → (v < 3 → ⊥) → can_be_taken v ≡ true → ⊥
          high v h q = elim (cases_eq v 0) as (λ _. ⊥) [
            | inl a ↦ h (omega (arith, a))
            | inr na ↦ elim (cases_eq v 1) as (λ _. ⊥) [
              | inl b ↦ h (omega (arith, b))
              | inr nb ↦ absurd (grind (arith, q, na, nb))
            ]
          ]

          three : (es : List Ghosts.Entry) → seen ≡ (view defers w.memory).heads c.slot → Chain 3 (view defers w.memory).links ((view defers w.memory).heads c.slot) (blocks_of es) → seen < 3 → ⊥
          three [] p k l = omega (arith, p, k, l)
          three (a ∷ es) p k l = let x = k.0 in let y = k.1 in omega (arith, p, x, y, l)

  nobody : length (good.used.team c.slot) ≡ 0 → (j : ℕ) → works_on (w.row j) ≡ c.slot + 1 → ⊥
  nobody none j e = none_in j (good.used.team c.slot) none (let q = good.used.teamed c.slot j in grind (arith, q, e))

  registered_used : (row : Row) (u : Use) → works_on (w.row i) ≡ 0 → length (good.used.team c.slot) ≡ 0
      → ((works_on row ≡ 0) × (u ≡ Outside 0)) ⊎ ((works_on row ≡ c.slot + 1) × (shares row ≡ false) × (u ≡ Vacant))
      → Used (Moves.registered good.state c.slot).head good.state.log (with_at w.row i row) (with_at w.uses c.slot u)
  registered_used row u before none kind = elim kind as (λ _. Used (Moves.registered good.state c.slot).head good.state.log (with_at w.row i row) (with_at w.uses c.slot u)) [
    | inl a ↦ used_at i c.slot good.state.head (Moves.registered good.state c.slot).head good.state.log good.state.log w.row w.uses row u (good.used.team c.slot) good.used
        (λ j. same_team j (a.0))
        (λ t e. absurd (omega (arith, a.0, e))) (λ t e. absurd (omega (arith, before, e))) (λ e. absurd (omega (arith, a.0, e)))
        (λ j ne e. absurd (nobody none j e))
        (rw (a.1) (idle_at, none))
        others
    | inr a ↦ used_at i c.slot good.state.head (Moves.registered good.state c.slot).head good.state.log good.state.log w.row w.uses row u (i ∷ good.used.team c.slot) good.used
        (λ j. new_team j (a.0))
        (λ t e. omega (arith, a.0, e)) (λ t e. absurd (omega (arith, before, e))) (λ e. rw (a.2) (a.1))
        (λ j ne e. absurd (nobody none j e))
        (rw (a.2, idle_at) (omega (arith, none)))
        others
  ]
    where
      idle_at : emptied (put good.state.head c.slot Idle c.slot) ≡ Idle
      idle_at = grind arith

      zero_here : count i (good.used.team c.slot) ≡ 0
      zero_here = let q = good.used.teamed c.slot i in grind (arith, q, before)

      same_team : (j : ℕ) → works_on row ≡ 0 → count j (good.used.team c.slot) ≡ cond (eqb j i) (same (c.slot + 1) (works_on row)) (count j (good.used.team c.slot))
      same_team j e = at (eqb j i) (eqb-true j i)
        where
          at : (t : Bool) → (t ≡ true → j ≡ i) → count j (good.used.team c.slot) ≡ cond t (same (c.slot + 1) (works_on row)) (count j (good.used.team c.slot))
          at true k = let p = k refl in let z = zero_here in grind (arith, p, z, e)
          at false k = refl

      new_team : (j : ℕ) → works_on row ≡ c.slot + 1 → count j (i ∷ good.used.team c.slot) ≡ cond (eqb j i) (same (c.slot + 1) (works_on row)) (count j (good.used.team c.slot))
      new_team j e = at (eqb j i) refl (eqb-true j i)
        where
          at : (t : Bool) → eqb j i ≡ t → (t ≡ true → j ≡ i) → count j (i ∷ good.used.team c.slot) ≡ cond t (same (c.slot + 1) (works_on row)) (count j (good.used.team c.slot))
          at true q k = let p = k refl in let z = zero_here in grind (arith, p, z, e)
          at false q k = grind (arith, q)

      others : (t : ℕ) → (t ≡ c.slot → ⊥) → (emptied (put good.state.head c.slot Idle t) ≡ emptied (good.state.head t)) × (is_open t good.state.log ≡ is_open t good.state.log)
      others t ne = (grind (arith, ne), refl)

  idle_now : emptied (put good.state.head c.slot Idle c.slot) ≡ Idle
  idle_now = grind arith

  -- it is taken
  wins_went : (seen : ℕ) (row : Row) (uses2 : ℕ → Use) → works_on (w.row i) ≡ 0 → Takes n i good.state good.extra (length w.memory.slots) c.slot seen
      → (view defers w.memory).heads c.slot ≡ seen
      → FitsRow n i (record (view defers w.memory) { heads = put (view defers w.memory).heads c.slot IDLE }) (Moves.registered good.state c.slot) good.extra (length w.memory.slots) row
      → Used (Moves.registered good.state c.slot).head good.state.log (with_at w.row i row) uses2
      → RowWent defers n size w good.state good.extra i (with_word w.memory (at.Slot c.slot HEAD) IDLE) row [] uses2
  wins_went seen row uses2 before r word fits used =
      let k = taken_use seen r.sees.free word in
      let l = r.sees.looks.slot_lt in
      head_went defers n w good i c.slot IDLE (Moves.registered good.state c.slot) good.extra row [] uses2 (slot_there w.memory c.slot HEAD good.room.bucketed r.sees.looks.here (omega arith))
      (registered_moves n i c.slot good.state l good.inv k.0 r.sees.looks.below)
      (registered_written n i c.slot (view defers w.memory) good.state good.extra good.shows k.1) (λ p. p) refl fits good.hands used
      (λ j t ne q e. absurd (nobody k.3 j (cc (q, e))))
      (room_taken n good.state.head w.memory c.slot Idle r.sees.looks.here r.behind good.room) (λ t. ap (λ (q : Row). tries_on q t) is) refl

  idles_won : Idles i good.state good.extra → Idles i (Moves.registered good.state c.slot) good.extra
  idles_won r = idles_after i good.state (Moves.registered good.state c.slot) good.extra r refl refl refl refl refl refl refl

  won_good : (seen : ℕ) → works_on (w.row i) ≡ 0 → c.stands ≡ stands.Take seen → Takes n i good.state good.extra (length w.memory.slots) c.slot seen
      → (view defers w.memory).heads c.slot ≡ seen → (t : Bool) → c.enters ≡ t
      → Next defers n size w good.state i (registers_on w i c (with_word w.memory (at.Slot c.slot HEAD) IDLE) (if t then going c stands.Enter else registered c))
  unfolding wins_went head_went
  won_good seen before s r word true enters =
      let k = taken_use seen r.sees.free word in
      let row = Registers (record c { stands = stands.Enter }) in
      goes_on (with_word w.memory (at.Slot c.slot HEAD) IDLE) (record c { stands = stands.Enter }) (rw s refl)
      (wins_went seen (Registers (record c { stands = stands.Enter })) w.uses before r word
      (record { idles = idles_won r.sees.looks.idles; slot_lt = r.sees.looks.slot_lt; head = idle_now })
      (used_ext (Moves.registered good.state c.slot).head good.state.log (with_at w.row i (Registers (record c { stands = stands.Enter }))) (with_at w.uses c.slot Vacant) w.uses
      (λ t. same_use t (eqb t c.slot) (eqb-true t c.slot) k.2) (registered_used (Registers (record c { stands = stands.Enter })) Vacant before k.3 (inr (refl, refl, refl)))))
      (RegisterTakes c is (looking (stands.Take seen) s tt) k.2
      (subst (λ (t : Bool). TakesFor t c w.uses (Registers (record c { stands = stands.Enter })) w.uses) (sym enters) (refl, refl))
      (registered_unmoved n c.slot good.state k.0))
    where
      same_use : (t : ℕ) (z : Bool) → (z ≡ true → t ≡ c.slot) → w.uses c.slot ≡ Vacant → w.uses t ≡ (if z then Vacant else w.uses t)
      same_use t true e u = ap w.uses (e refl) ∙ u
      same_use t false e u = refl
  won_good seen before s r word false enters =
      let k = taken_use seen r.sees.free word in
      ends (with_word w.memory (at.Slot c.slot HEAD) IDLE) (record c { stands = stands.Registered }) [] (rw s refl)
      (wins_went seen Rests (with_at w.uses c.slot (registered_as c)) before r word (idles_won r.sees.looks.idles)
      (registered_used Rests (registered_as c) before k.3 (inl (refl, rw s refl))))
      (RegisterTakes c is (looking (stands.Take seen) s tt) k.2
      (subst (λ (t : Bool). TakesFor t c w.uses Rests (with_at w.uses c.slot (registered_as c))) (sym enters) (refl, ap (λ (p : Registering). with_at w.uses c.slot (registered_use p)) s))
      (registered_unmoved n c.slot good.state k.0))

  -- another caller was faster
  lost_good : (seen found : ℕ) → works_on (w.row i) ≡ 0 → c.stands ≡ stands.Take seen → Takes n i good.state good.extra (length w.memory.slots) c.slot seen
      → (view defers w.memory).heads c.slot ≡ found → found ≢ seen → Next defers n size w good.state i (registers_on w i c w.memory (further c))
  lost_good seen found before s r word other = looks_on before (rw s refl) (looking (stands.Take seen) s tt) r.sees.looks (was_taken (eqb seen 0) (eqb-true seen 0) (eqb-false seen 0)) (nat_lt c.slot LAST_SLOT) refl
    where
      was_taken : (t : Bool) → (t ≡ true → seen ≡ 0) → (t ≡ false → seen ≡ 0 → ⊥) → is_never (good.state.head c.slot) ≡ false
      was_taken true a b = seen_taken found word (λ z. other (z ∙ sym (a refl)))
      was_taken false a b = r.sees.taken (b refl)

  -- the slot is entered, too
  enter_went : works_on (w.row i) ≡ c.slot + 1 → OnSlot n i good.state good.extra c.slot Idle
      → RowWent defers n size w good.state good.extra i (with_word w.memory (at.Slot c.slot HEAD) ACTIVE) Rests (Entered c.slot ∷ []) (with_at w.uses c.slot (Inside 0))
  enter_went on r =
      let m = good.state in
      let s = c.slot in
      let h = idle_head (m.head s) r.head in
      let m2 = Moves.entered m s in
      let mine : shares (w.row i) ≡ false = ap shares is in
      let others : (t : ℕ) → (t ≡ s → ⊥) → (emptied (m2.head t) ≡ emptied (m.head t)) × (is_open t m2.log ≡ is_open t m.log) = (λ t ne. (grind (arith, ne), grind (arith, ne))) in
      head_went defers n w good i s ACTIVE m2 good.extra Rests (Entered s ∷ []) (with_at w.uses s (Inside 0)) (head_there defers n w good i s r.slot_lt (rw h refl))
      (entered_moves n i s m good.inv h) (entered_written n i s (view defers w.memory) m good.extra good.shows (rw h refl)) (λ p. p) refl
      (idles_after i m m2 good.extra r.idles refl refl refl refl refl refl refl)
      good.hands
      (alone_ends i s m.head m2.head m.log m2.log w.row w.uses Rests (Inside 0) good.used others on mine refl (grind arith, refl, grind arith))
      (λ j t ne q e. absurd (no_other i s m.head m2.head m.log m2.log w.row w.uses Rests (Inside 0) good.used others on mine j ne (cc (q, e))))
      (room_heads n m.head m2.head w.memory (λ u e. grind (arith, h, e)) good.room) (λ t. ap (λ (q : Row). tries_on q t) is) refl

  enters_on : c.stands ≡ stands.Enter → OnSlot n i good.state good.extra c.slot Idle → (u : Use) → u ≡ Inside 0
      → Next defers n size w good.state i (with_use (after_step w i (with_word w.memory (at.Slot c.slot HEAD) ACTIVE) Rests (register_effects c c.stands)) c.slot u)
  unfolding head_went enter_went
  enters_on s r u e =
      subst (λ (v : Use). Next defers n size w good.state i (with_use (after_step w i (with_word w.memory (at.Slot c.slot HEAD) ACTIVE) Rests (register_effects c c.stands)) c.slot v)) (sym e)
      (subst (λ (p : Registering). Next defers n size w good.state i (with_use (after_step w i (with_word w.memory (at.Slot c.slot HEAD) ACTIVE) Rests (register_effects c p)) c.slot (Inside 0))) (sym s)
      (next_after defers n w good i (with_word w.memory (at.Slot c.slot HEAD) ACTIVE) Rests (Entered c.slot ∷ []) (with_at w.uses c.slot (Inside 0))
      (enter_went (ap works_on is ∙ ap (registering_on c.slot) s) r)
      (RegisterEnters c is refl s r.slot_lt (idle_head (good.state.head c.slot) r.head) refl refl)))

  on_at : (p : Registering) (k : ℕ) → c.stands ≡ p → registering_on c.slot p ≡ k → works_on (w.row i) ≡ k
  on_at p k s h = ap works_on is ∙ ap (registering_on c.slot) s ∙ h

  seen_more : (seen bucket : ℕ) → Seen n i good.state good.extra (length w.memory.slots) c.slot seen
      → Seen n i good.state good.extra (length (with_room w.memory bucket).slots) c.slot seen
  seen_more seen bucket r = record {
    looks = record { idles = r.looks.idles; slot_lt = r.looks.slot_lt; here = slots_grow w.memory bucket c.slot r.looks.here; below = r.looks.below };
    free = r.free;
    taken = r.taken;
  }

  steps_at : (p : Registering) → c.stands ≡ p → FitsRegister n i good.state good.extra (length w.memory.slots) c.slot p → (mem2 : Mem T) (end : Register × Advance ℕ)
      → Steps Took value_at w.memory (plan_at c p) mem2 end → Next defers n size w good.state i (registers_on w i c mem2 end)
  unfolding still_went on_same on_room
  steps_at stands.Begin s r mem2 end st =
      let before = on_at stands.Begin 0 s refl in
      elim (roomed w.memory (begun c) 0 mem2 end st) as (λ _. Next defers n size w good.state i (registers_on w i c mem2 end)) [
        | inl d ↦ ended (with_room w.memory 0) mem2 end (going c stands.Look) d.0 d.1
            (goes_on (with_room w.memory 0) (record c { stands = stands.Look }) (rw s refl)
            (on_room 0 (Registers (record c { stands = stands.Look })) before refl
            (record { idles = r.idles; slot_lt = r.slot_lt; here = subst (λ (t : ℕ). t < length (with_room w.memory 0).slots) (sym r.first) (first_there w.memory); below = λ t l. absurd (let f = r.first in omega (arith, f, l)) }))
            (RegisterLooks c (record c { stands = stands.Look }) is refl (looking stands.Begin s tt) tt refl refl refl))
        | inr d ↦ ended w.memory mem2 end (refused c Memory) d.0 d.1 (refuses w.memory (record c { stands = stands.Refused Memory }) Memory (on_same Rests before refl r.idles) (RegisterRefused c is refl (looking stands.Begin s tt) refl refl))
      ]
  steps_at stands.Look s r mem2 end st =
      let d = loaded w.memory (looked c) (at.Slot c.slot HEAD) mem2 end st in
      ended w.memory mem2 end (if can_be_taken d.0 then taking c d.0 (bucket_needed c.slot) else further c) d.2 d.3
      (looked_good d.0 (on_at stands.Look 0 s refl) (rw s refl) (looking stands.Look s tt) r (word_found w.memory (at.Slot c.slot HEAD) d.0 d.1) (can_be_taken d.0) refl)
  steps_at (stands.Widen bucket seen) s r mem2 end st =
      let before = on_at (stands.Widen bucket seen) 0 s refl in
      elim (roomed w.memory (widened c seen) bucket mem2 end st) as (λ _. Next defers n size w good.state i (registers_on w i c mem2 end)) [
        | inl d ↦ ended (with_room w.memory bucket) mem2 end (going c (stands.Take seen)) d.0 d.1
            (goes_on (with_room w.memory bucket) (record c { stands = stands.Take seen }) (rw s refl)
            (on_room bucket (Registers (record c { stands = stands.Take seen })) before refl
            (record { sees = seen_more seen bucket r.sees; behind = λ l. needed_there w.memory c.slot bucket r.sees.looks.here r.needed }))
            (RegisterLooks c (record c { stands = stands.Take seen }) is refl (looking (stands.Widen bucket seen) s tt) tt refl refl refl))
        | inr d ↦ ended w.memory mem2 end (refused c Memory) d.0 d.1 (refuses w.memory (record c { stands = stands.Refused Memory }) Memory (on_same Rests before refl r.sees.looks.idles) (RegisterRefused c is refl (looking (stands.Widen bucket seen) s tt) refl refl))
      ]
  steps_at (stands.Take seen) s r mem2 end st =
      let before = on_at (stands.Take seen) 0 s refl in
      elim (exchanged w.memory (taken c) (at.Slot c.slot HEAD) seen IDLE mem2 end st) as (λ _. Next defers n size w good.state i (registers_on w i c mem2 end)) [
        | inl d ↦ ended (with_word w.memory (at.Slot c.slot HEAD) IDLE) mem2 end (if c.enters then going c stands.Enter else registered c) d.2 d.3
            (won_good seen before s r (word_found w.memory (at.Slot c.slot HEAD) d.0 d.1.0 ∙ d.1.1) c.enters refl)
        | inr d ↦ ended w.memory mem2 end (further c) d.2 d.3 (lost_good seen d.0 before s r (word_found w.memory (at.Slot c.slot HEAD) d.0 d.1.0) d.1.1)
      ]
  steps_at stands.Enter s r mem2 end st =
      let d = stored {R = Register × Advance ℕ} w.memory (λ out. Now (registered c)) (at.Slot c.slot HEAD) ACTIVE mem2 end st in
      ended (with_word w.memory (at.Slot c.slot HEAD) ACTIVE) mem2 end (registered c) d.0 d.1
      (enters_on s r (registered_as c) (ap registered_use s))
  steps_at stands.Registered s r mem2 end st = absurd r
  steps_at (stands.Refused fault) s r mem2 end st = absurd r

  fits_here : FitsRegister n i good.state good.extra (length w.memory.slots) c.slot c.stands
  fits_here = subst (λ (row : Row). FitsRow n i (view defers w.memory) good.state good.extra (length w.memory.slots) row) is (good.rows i)

  pub registers_next : (w2 : World T) → (mem2 : Mem T) × (end : Register × Advance ℕ) × Steps Took value_at w.memory (register_plan c) mem2 end × (w2 ≡ registers_on w i c mem2 end) → Next defers n size w good.state i w2
  registers_next w2 s = subst (λ (v : World T). Next defers n size w good.state i v) (sym s.3) (steps_at c.stands refl fits_here s.0 s.1 s.2)

  may_at : (p : Registering) → FitsRegister n i good.state good.extra (length w.memory.slots) c.slot p → May Can Took value_at w.memory (plan_at c p)
  may_at stands.Begin r = may_room {R = Register × Advance ℕ} w.memory (begun c) 0 (first_room w.memory) tt tt
  may_at stands.Look r = may_load {R = Register × Advance ℕ} w.memory (looked c) (at.Slot c.slot HEAD) (slot_there w.memory c.slot HEAD good.room.bucketed r.here (omega arith)) (λ u h. tt)
  may_at (stands.Widen bucket seen) r = may_room {R = Register × Advance ℕ} w.memory (widened c seen) bucket (needed_room w.memory c.slot bucket r.sees.looks.here r.needed) tt tt
  may_at (stands.Take seen) r =
      may_exchange {R = Register × Advance ℕ} w.memory (taken c) (at.Slot c.slot HEAD) seen IDLE (slot_there w.memory c.slot HEAD good.room.bucketed r.sees.looks.here (omega arith)) (λ u h. tt) (λ u h. tt)
  may_at stands.Enter r =
      let h = idle_head (good.state.head c.slot) r.head in
      may_store {R = Register × Advance ℕ} w.memory (λ out. Now (registered c)) (at.Slot c.slot HEAD) ACTIVE (head_there defers n w good i c.slot r.slot_lt (rw h refl)) tt
  may_at stands.Registered r = absurd r
  may_at (stands.Refused fault) r = absurd r

  pub registers_may : May Can Took value_at w.memory (register_plan c)
  registers_may = may_at c.stands fits_here
