-- What a registering row has seen, through its own steps and those of others.
use Rattle.std.specs.Prelude.{Option, Some, None, if◌then◌else◌}
use Rattle.std.proofs.Common.{◌≡◌, ℕ, zero, suc, Bool, true, false, ◌⊎◌, inl, inr, refl, ap, sym, subst, ◌∙◌}
use Rattle.seize_words.specs.declared.at.At.TheVariants as name
use Rattle.seize_words.specs.OneMemory.Mem.{Mem, Took, value_at}
use Rattle.seize_words.specs.OneMemory.Plan.{Plan, Steps, Turn, Do}
use Rattle.seize.specs.declared.states.TheConstants.{HEAD}
use Rattle.seize.specs.declared.advance.Advance.{Advance}
use Rattle.seize.specs.declared.advance.Advance.TheVariants as progress
use Rattle.seize.specs.declared.rows.settle.Settle.{Settle}
use Rattle.seize.specs.declared.rows.settle.Settled.{Settled}
use Rattle.seize.specs.declared.rows.settle.Settled.TheVariants as settled
use Rattle.seize.specs.declared.rows.leave.Leave.{Leave}
use Rattle.seize.specs.declared.rows.defer.Defer.{Defer}
use Rattle.seize.specs.declared.rows.register.Register.{Register}
use Rattle.seize.specs.declared.rows.register.Registering.{Registering}
use Rattle.seize.specs.declared.rows.register.Registering.TheVariants as at
use Rattle.seize.specs.Register.{can_be_taken, plan_at}
use Rattle.seize.specs.World.{World, Row, Rests, Registers, Enters, Settles, Leaves, Defers, Frees, Request, Register', Enter', Leave', LeaveOwned, Refresh, Unregister', Retire, Flush, Defer', Begins, Steps', settles_on, registers_on, defers_on, left_row}
use Rattle.seize.specs.World as world
use Rattle.seize_model.proofs.Given.SeizeMemoryWords.Named.{words_of}
use Rattle.seize_model.proofs.Given.SeizeRuleRows.Others.{with_here}
use Rattle.seize_acts.specs.Acts.Answers.{Grant, then_on, is_turn}
use Rattle.seize_acts.specs.Acts.Acts.{row_steps, turns, turned, steps, Begin}
use Rattle.seize_acts.specs.Acts.Refused.{IsRegistering, IsRegistration, IsHad}
use Rattle.seize_acts.proofs.Acts.Answers.{some}
use Rattle.seize_acts.proofs.Acts.Fine.{row_stepped}
use Rattle.seize_acts.proofs.Acts.Refused.Heads.{TakenOrSame}
use Rattle.seize_acts.proofs.Acts.Refused.Points.{Known, KnownEnd, Found', had_is, ends_known}
use Rattle.seize_words.proofs.General.{same_some}

-- the row does not register
abbrev pub Off : Row → Type 0
Off (Registers c) = ⊥
Off _ = Unit {0}

-- or has not made its first step
abbrev pub AtBegin : Row → Type 0
AtBegin (Registers c) = (c.slot ≡ 0) × (c.stands ≡ at.Begin)
AtBegin _ = Unit {0}

module _ {T : Type 0} where
  -- what the row has seen, if it registers
  abbrev pub KnownRow : (ℕ → Type 0) → Mem T → Row → Type 0
  KnownRow K m (Registers c) = Known K m c.slot c.stands
  KnownRow K m _ = Unit {0}

  off_known : (K : ℕ → Type 0) (m : Mem T) (row : Row) → Off row → KnownRow K m row
  off_known K m (Registers c) off = absurd off
  off_known K m Rests off = tt
  off_known K m (Enters c) off = tt
  off_known K m (Settles c) off = tt
  off_known K m (Leaves c) off = tt
  off_known K m (Defers s c) off = tt
  off_known K m (Frees c) off = tt

  pub at_begin_known : (K : ℕ → Type 0) (m : Mem T) (row : Row) → AtBegin row → KnownRow K m row
  at_begin_known K m (Registers c) at = subst (λ (p : Registering). Known K m c.slot p) (sym at.1) at.0
  at_begin_known K m Rests at = tt
  at_begin_known K m (Enters c) at = tt
  at_begin_known K m (Settles c) at = tt
  at_begin_known K m (Leaves c) at = tt
  at_begin_known K m (Defers s c) at = tt
  at_begin_known K m (Frees c) at = tt

  module _ (K K2 : ℕ → Type 0) (later : (t : ℕ) → K t → K2 t) (m : Mem T) where
    still_found : (s seen : ℕ) → Found' K m s seen → Found' K2 m s seen
    still_found s seen h = ((λ t l. later t (h.0 t l)), h.1, by h.2)
      where
        by : (words_of m (name.Slot s HEAD) ≡ seen) ⊎ K s → (words_of m (name.Slot s HEAD) ≡ seen) ⊎ K2 s
        by (inl is) = inl is
        by (inr k) = inr (later s k)

    still_known : (s : ℕ) (p : Registering) → Known K m s p → Known K2 m s p
    still_known s at.Begin h = h
    still_known s at.Look h = λ t l. later t (h t l)
    still_known s (at.Widen bucket seen) h = still_found s seen h
    still_known s (at.Take seen) h = still_found s seen h
    still_known s at.Enter h = tt
    still_known s at.Registered h = tt
    still_known s (at.Refused fault) h = λ is t le. later t (h is t le)

    pub still : (row : Row) → KnownRow K m row → KnownRow K2 m row
    still (Registers c) h = still_known c.slot c.stands h
    still Rests h = tt
    still (Enters c) h = tt
    still (Settles c) h = tt
    still (Leaves c) h = tt
    still (Defers s c) h = tt
    still (Frees c) h = tt

    -- another memory, in which a slot that could be taken is as it was, or was taken while the row registers
    module _ (m2 : Mem T) (heads : TakenOrSame m m2) where
      found_on : (s seen : ℕ) → (IsHad s m2 → K2 s) → Found' K m s seen → Found' K2 m2 s seen
      found_on s seen had h = ((λ t l. later t (h.0 t l)), h.1, by h.2)
        where
          on : words_of m (name.Slot s HEAD) ≡ seen
              → (words_of m2 (name.Slot s HEAD) ≡ words_of m (name.Slot s HEAD)) ⊎ (can_be_taken (words_of m2 (name.Slot s HEAD)) ≡ false)
              → (words_of m2 (name.Slot s HEAD) ≡ seen) ⊎ K2 s
          on is (inl same) = inl (same ∙ is)
          on is (inr taken) = inr (had (had_is s m2 taken))

          by : (words_of m (name.Slot s HEAD) ≡ seen) ⊎ K s → (words_of m2 (name.Slot s HEAD) ≡ seen) ⊎ K2 s
          by (inl is) = on is (heads s (ap can_be_taken is ∙ h.1))
          by (inr k) = inr (later s k)

      known_on : (s : ℕ) (p : Registering) → (IsHad s m2 → K2 s) → Known K m s p → Known K2 m2 s p
      known_on s at.Begin had h = h
      known_on s at.Look had h = λ t l. later t (h t l)
      known_on s (at.Widen bucket seen) had h = found_on s seen had h
      known_on s (at.Take seen) had h = found_on s seen had h
      known_on s at.Enter had h = tt
      known_on s at.Registered had h = tt
      known_on s (at.Refused fault) had h = λ is t le. later t (h is t le)

      pub row_on : (row : Row) → (IsRegistering row → (s : ℕ) → IsHad s m2 → K2 s) → KnownRow K m row → KnownRow K2 m2 row
      row_on (Registers c) had h = known_on c.slot c.stands (had tt c.slot) h
      row_on Rests had h = tt
      row_on (Enters c) had h = tt
      row_on (Settles c) had h = tt
      row_on (Leaves c) had h = tt
      row_on (Defers s c) had h = tt
      row_on (Frees c) had h = tt

  abbrev pub KnownIn : (ℕ → Type 0) → ℕ → World T → Type 0
  KnownIn K i w = KnownRow K w.memory (w.row i)

  -- a step of a row that registers
  registers_known : (K : ℕ → Type 0) (w : World T) (i : ℕ) (c d : Register) (m : Mem T) (o : Advance ℕ) → KnownEnd K m (d, o)
      → KnownIn K i (registers_on w i c m (d, o))
  registers_known K w i c d m progress.Goes h = subst (λ (r : Row). KnownRow K m r) (sym (with_here w.row i (Registers d))) h
  registers_known K w i c d m progress.Waits h = subst (λ (r : Row). KnownRow K m r) (sym (with_here w.row i (Registers d))) h
  registers_known K w i c d m (progress.Done s) h = subst (λ (r : Row). KnownRow K m r) (sym (with_here w.row i Rests)) tt
  registers_known K w i c d m (progress.Refused fault) h = subst (λ (r : Row). KnownRow K m r) (sym (with_here w.row i Rests)) tt

  -- and of one that does not
  off_here : (w : World T) (i : ℕ) (row : Row) → Off row → Off (world.with_at w.row i row i)
  off_here w i row off = subst (λ (r : Row). Off r) (sym (with_here w.row i row)) off

  settles_off : (w : World T) (i : ℕ) (c d : Settle) (m : Mem T) (o : Settled T) → Off ((settles_on w i c m (d, o)).row i)
  settles_off w i c d m settled.Goes = off_here w i (Settles d) tt
  settles_off w i c d m settled.Waits = off_here w i (Settles d) tt
  settles_off w i c d m (settled.Gave value) = off_here w i (Settles d) tt
  settles_off w i c d m settled.Done = off_here w i Rests tt

  left_off : (d : Leave) (o : Settled T) → Off (left_row d o)
  left_off d settled.Goes = tt
  left_off d settled.Waits = tt
  left_off d (settled.Gave value) = tt
  left_off d settled.Done = tt

  defers_off : (w : World T) (i s : ℕ) (d : Defer) (m : Mem T) (o : Advance Unit) → Off ((defers_on w i s m (d, o)).row i)
  defers_off w i s d m progress.Goes = off_here w i (Defers s d) tt
  defers_off w i s d m progress.Waits = off_here w i (Defers s d) tt
  defers_off w i s d m (progress.Done u) = off_here w i Rests tt
  defers_off w i s d m (progress.Refused fault) = off_here w i (Defers s d) tt

  -- a step that makes no operation leaves the memory
  pub turn_memory : {R : Type 0} (m m2 : Mem T) (plan : Plan T R) (end : R) → is_turn plan ≡ true → Steps Took value_at m plan m2 end → m2 ≡ m
  turn_memory m m2 (Turn rest) end e st = st.0
  turn_memory m m2 (Do op rest) end e st = absurd (cc e)

module _ {T : Type 0} (defers : T → Option ℕ) (size i : ℕ) where
  off_steps : (row : Row) (w u : World T) → Off row → Steps' defers i row w u → Off (u.row i)
  off_steps Rests w u off st = absurd st
  off_steps (Registers c) w u off st = absurd off
  off_steps (Enters c) w u off st = subst (λ (x : World T). Off (x.row i)) (sym st.3) (off_here w i Rests tt)
  off_steps (Settles c) w u off st = subst (λ (x : World T). Off (x.row i)) (sym st.3) (settles_off w i c st.1.0 st.0 st.1.1)
  off_steps (Leaves c) w u off st = subst (λ (x : World T). Off (x.row i)) (sym st.3) (off_here w i (left_row st.1.0 st.1.1) (left_off st.1.0 st.1.1))
  off_steps (Defers s c) w u off st = subst (λ (x : World T). Off (x.row i)) (sym st.3) (defers_off w i s st.1.0 st.0 st.1.1)
  off_steps (Frees c) w u off st = subst (λ (x : World T). Off (x.row i)) (sym st.3) (off_here w i Rests tt)

  -- where it looks at a slot that somebody has, that is told by K
  abbrev pub Looking : (ℕ → Type 0) → World T → Row → Type 0
  Looking K w (Registers c) = c.stands ≡ at.Look → IsHad c.slot w.memory → K c.slot
  Looking K w _ = Unit {0}

  -- a step of the row
  row_known : (K : ℕ → Type 0) (w u : World T) (row : Row) → KnownRow K w.memory row → Looking K w row → Steps' defers i row w u → KnownIn K i u
  row_known K w u (Registers c) h look st =
      subst (λ (x : World T). KnownIn K i x) (sym st.3)
      (registers_in st.1.0 st.1.1 (ends_known defers w.memory st.0 c K c.stands h look st.1 st.2))
    where
      registers_in : (d : Register) (o : Advance ℕ) → KnownEnd K st.0 (d, o) → KnownIn K i (registers_on w i c st.0 (d, o))
      registers_in d o e = registers_known K w i c d st.0 o e
  row_known K w u row h look st = off_known K u.memory (u.row i) (off_steps row w u tt st)

  -- the steps behind it that make no operation
  no_look : (K : ℕ → Type 0) (w : World T) (row : Row) → turns defers row ≡ true → Looking K w row
  no_look K w (Registers c) e = λ is had.
      let k : is_turn (plan_at {T = T} c at.Look) ≡ true = subst (λ (p : Registering). is_turn (plan_at {T = T} c p) ≡ true) is e in absurd (cc k)
  no_look K w row e = tt

  turned_known : (K : ℕ → Type 0) (more : ℕ) (w n : World T) → KnownIn K i w → turned defers more i w ≡ Some n → KnownIn K i n
  turned_known K zero w n h e = subst (λ (x : World T). KnownIn K i x) (same_some w n e) h
  turned_known K (suc more) w n h e = by (turns defers (w.row i)) refl (λ v k. turned_known K more v n k) e
    where
      by : (y : Bool) → turns defers (w.row i) ≡ y → ((v : World T) → KnownIn K i v → turned defers more i v ≡ Some n → KnownIn K i n)
          → (if y then then_on (row_steps defers i (w.row i) None w) (turned defers more i) else Some w) ≡ Some n → KnownIn K i n
      by true q rest k =
          let s = some (row_steps defers i (w.row i) None w) (turned defers more i) n k in
          rest s.0 (row_known K w s.0 (w.row i) h (no_look K w (w.row i) q) (row_stepped defers size i (w.row i) None w s.0 s.1)) s.2
      by false q rest k = subst (λ (x : World T). KnownIn K i x) (same_some w n k) h

  pub steps_known : (K : ℕ → Type 0) (g : Grant) (w n : World T) → KnownIn K i w → Looking K w (w.row i) → steps defers i g w ≡ Some n → KnownIn K i n
  steps_known K g w n h look e =
      let s = some (row_steps defers i (w.row i) g w) (turned defers 2 i) n e in
      turned_known K 2 s.0 n (row_known K w s.0 (w.row i) h look (row_stepped defers size i (w.row i) g w s.0 s.1)) s.2

  -- a row that has begun
  begun_here : (w : World T) (row : Row) → AtBegin row → AtBegin (world.with_at w.row i row i)
  begun_here w row at = subst (λ (r : Row). AtBegin r) (sym (with_here w.row i row)) at

  pub begun_at : (request : Request) (w v : World T) → Begins defers size i request w v → AtBegin (v.row i)
  begun_at (Register' enters) w v b = subst (λ (x : World T). AtBegin (x.row i)) (sym b) (begun_here w _ (refl, refl))
  begun_at (Enter' s) w v b = subst (λ (x : World T). AtBegin (x.row i)) (sym b.1) (begun_here w _ tt)
  begun_at (Leave' s) w v b = subst (λ (x : World T). AtBegin (x.row i)) (sym b.1) (begun_here w _ tt)
  begun_at (LeaveOwned s) w v b = subst (λ (x : World T). AtBegin (x.row i)) (sym b.1) (begun_here w _ tt)
  begun_at (Refresh s) w v b = subst (λ (x : World T). AtBegin (x.row i)) (sym b.1) (begun_here w _ tt)
  begun_at (Unregister' s) w v b = subst (λ (x : World T). AtBegin (x.row i)) (sym b.1) (begun_here w _ tt)
  begun_at (Retire s c) w v b = subst (λ (x : World T). AtBegin (x.row i)) (sym b.2) (begun_here w _ tt)
  begun_at (Flush s) w v b = subst (λ (x : World T). AtBegin (x.row i)) (sym b.1) (begun_here w _ tt)
  begun_at (Defer' s c t) w v b = subst (λ (x : World T). AtBegin (x.row i)) (sym b.7) (begun_here w _ tt)

  -- and registers, if it was asked to
  asked_off : (w : World T) (row : Row) → Off row → IsRegistering (world.with_at w.row i row i) → ⊥
  asked_off w row off on = off_not row off (subst (λ (r : Row). IsRegistering r) (with_here w.row i row) on)
    where
      off_not : (row : Row) → Off row → IsRegistering row → ⊥
      off_not (Registers c) off on = off
      off_not Rests off on = on
      off_not (Enters c) off on = on
      off_not (Settles c) off on = on
      off_not (Leaves c) off on = on
      off_not (Defers s c) off on = on
      off_not (Frees c) off on = on

  pub asked_to : (request : Request) (g : Grant) (w v : World T) → Begins defers size i request w v → IsRegistering (v.row i)
      → IsRegistration defers size (Begin i request g) w
  asked_to (Register' enters) g w v b on = tt
  asked_to (Enter' s) g w v b on = asked_off w _ tt (subst (λ (x : World T). IsRegistering (x.row i)) b.1 on)
  asked_to (Leave' s) g w v b on = asked_off w _ tt (subst (λ (x : World T). IsRegistering (x.row i)) b.1 on)
  asked_to (LeaveOwned s) g w v b on = asked_off w _ tt (subst (λ (x : World T). IsRegistering (x.row i)) b.1 on)
  asked_to (Refresh s) g w v b on = asked_off w _ tt (subst (λ (x : World T). IsRegistering (x.row i)) b.1 on)
  asked_to (Unregister' s) g w v b on = asked_off w _ tt (subst (λ (x : World T). IsRegistering (x.row i)) b.1 on)
  asked_to (Retire s c) g w v b on = asked_off w _ tt (subst (λ (x : World T). IsRegistering (x.row i)) b.2 on)
  asked_to (Flush s) g w v b on = asked_off w _ tt (subst (λ (x : World T). IsRegistering (x.row i)) b.1 on)
  asked_to (Defer' s c t) g w v b on = asked_off w _ tt (subst (λ (x : World T). IsRegistering (x.row i)) b.7 on)

  pub begins_no_look : (K : ℕ → Type 0) (w : World T) (row : Row) → AtBegin row → Looking K w row
  begins_no_look K w (Registers c) at = λ is had. absurd (let p = sym at.1 ∙ is in cc p)
  begins_no_look K w Rests at = tt
  begins_no_look K w (Enters c) at = tt
  begins_no_look K w (Settles c) at = tt
  begins_no_look K w (Leaves c) at = tt
  begins_no_look K w (Defers s c) at = tt
  begins_no_look K w (Frees c) at = tt
