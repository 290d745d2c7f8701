-- What waits behind a block in the state of the collector: it is on its way to that one's list, or on it, or a row has taken it over that takes the other one
-- next. The moves of a settling row leave it so, unless they take that block.
use Rattle.std.proofs.Common.{◌≡◌, ℕ, Bool, true, false, cond, eqb, List, [], ◌∷◌, refl, arith, ap, sym, subst, ◌∙◌, eqb-true, ne_eqb}
use Rattle.std.specs.Prelude.{Some}
use Rattle.run_debts.specs.Given.SeizeLaw.{Taken}
use Rattle.run_debts.specs.Given.SeizeDeclared.rows.settle.Settle.{Settle}
use Rattle.run_debts.proofs.Given.SeizeMovesMoves.Takes.{first_doomed}
use Rattle.run_debts.proofs.Given.SeizeMovesMoves.Tries.{first_pending}
use Rattle.run_debts.proofs.Given.SeizeMovesSets.Unmoved.{is_in_wait, Unmoved}
use Rattle.run_debts.proofs.Given.SeizeMovesState.Ghost.{put, Life, IsFree, IsDeferring, IsDeferred, IsPending, IsIn, IsLeft, State, is_given}
use Rattle.run_debts.proofs.Given.SeizeMovesState.Moves
use Rattle.run_debts.proofs.Given.SeizeMovesState.Rule.{Inv}
use Rattle.run_debts.proofs.Given.SeizeRulePoints.Passed.{passed_rest}
use Rattle.run_debts.proofs.Given.SeizeRulePoints.Told.{Part, Told, Stays, Holds, HoldsNone, Gives, Begins, Appends, Fills, Skips, Passes, Finds, Marks, GivesUp, Closes, Pushes, Misses, Sums, SumsLast, Drains, DrainsNone, Takes, TakesLast, Joins, Counts, CountsLast, NoneLeft}
use Rattle.run_waiting.specs.Lives.Waiting.{waits_behind}
use Rattle.run_waiting.proofs.Lives.Logs.{unless_is}

pub data WaitsIn (m : State) (b t : ℕ) : Type 0 where
  OnWay : (i s : ℕ) → m.life b ≡ IsDeferring i s t → WaitsIn m b t
  OnList : m.life b ≡ IsDeferred t → WaitsIn m b t
  TakenOver : (i : ℕ) (bs : List ℕ) → m.life b ≡ IsPending i → m.left i ≡ t ∷ bs → WaitsIn m b t

pub elsewhere : {X : Type 0} (f : ℕ → X) (k : ℕ) (x : X) (j : ℕ) → (j ≡ k → ⊥) → put f k x j ≡ f j
elsewhere f k x j ne = by (eqb j k) (eqb-true j k)
  where
    by : (q : Bool) → (q ≡ true → j ≡ k) → cond q x (f j) ≡ f j
    by true e = absurd (ne (e refl))
    by false e = refl

module _ (m : State) (b t : ℕ) where
  pub in_wait : WaitsIn m b t → is_in_wait (m.life b) ≡ true
  in_wait (OnWay i s is) = ap is_in_wait is
  in_wait (OnList is) = ap is_in_wait is
  in_wait (TakenOver i bs is first) = ap is_in_wait is

  -- the collector has not retired it
  pub not_given : WaitsIn m b t → is_given (m.life b) ≡ false
  not_given (OnWay i s is) = ap is_given is
  not_given (OnList is) = ap is_given is
  not_given (TakenOver i bs is first) = ap is_given is

  -- a block that does not wait is another one
  pub other_block : WaitsIn m b t → (c : ℕ) → is_in_wait (m.life c) ≡ false → b ≡ c → ⊥
  other_block was c none same = (let some = in_wait was in let alike : is_in_wait (m.life b) ≡ is_in_wait (m.life c) = ap (λ (x : ℕ). is_in_wait (m.life x)) same in cc (some, none, alike))

  module _ (m2 : State) where
    -- its life is what it was, and so are the lists of what rows still have to take
    pub as_before : m2.life b ≡ m.life b → ((j : ℕ) (bs : List ℕ) → m.left j ≡ t ∷ bs → m2.left j ≡ m.left j) → WaitsIn m b t → WaitsIn m2 b t
    as_before life left (OnWay i s is) = OnWay i s (life ∙ is)
    as_before life left (OnList is) = OnList (life ∙ is)
    as_before life left (TakenOver i bs is first) = TakenOver i bs (life ∙ is) (left i bs first ∙ first)

    pub by_unmoved : (n : ℕ) → Unmoved n m m2 → WaitsIn m b t → WaitsIn m2 b t
    by_unmoved n u was = as_before (u.waits b (in_wait was)) (λ j bs first. ap (λ (f : ℕ → List ℕ). f j) u.left) was

-- what waits is doomed with no batch
doomed_same : (i x : ℕ) (l : Life) → is_in_wait l ≡ true → Moves.doomed i x l ≡ l
doomed_same i x l e = grind (arith, e)

no_head : (t : ℕ) (bs : List ℕ) (l : List ℕ) → l ≡ t ∷ bs → l ≡ [] → ⊥
no_head t bs l e none = cc (e, none)

same_head : (l : List ℕ) (t c : ℕ) (bs cs : List ℕ) → l ≡ t ∷ bs → l ≡ c ∷ cs → t ≡ c
same_head l t c bs cs e f = cc (e, f)

module _ (n i : ℕ) (m : State) (inv : Inv n m) (b t : ℕ) (was : WaitsIn m b t) where
  -- a block goes into a batch: a row retires none while it has one to take
  not_pending : (c : ℕ) → m.life c ≡ IsPending i → m.left i ≡ [] → b ≡ c → ⊥
  not_pending c pending none same = by was (ap m.life same ∙ pending)
    where
      by : WaitsIn m b t → m.life b ≡ IsPending i → ⊥
      by (OnWay j s is) e = cc (is, e)
      by (OnList is) e = cc (is, e)
      by (TakenOver j bs is first) e =
          let same_row : j ≡ i = (let one : IsPending j ≡ IsPending i = sym is ∙ e in cc one) in
          no_head t bs (m.left i) (ap m.left (sym same_row) ∙ first) none

  appends : (c : ℕ) (cs : List ℕ) (x : ℕ) → m.pending i ≡ c ∷ cs → NoneLeft i m → WaitsIn (Moves.appended m i c cs x) b t
  appends c cs x pending none =
      as_before m b t (Moves.appended m i c cs x) (elsewhere m.life c (IsIn x) b (not_pending c (first_pending n i m c cs inv pending) none.left)) (λ j bs first. refl) was

  -- a batch is given to the row to be reclaimed, after what left lives and lists as they were
  given_up : (m1 : State) (x : ℕ) → m1.life ≡ m.life → m1.left ≡ m.left → NoneLeft i m → WaitsIn (Moves.gives_up m1 i x) b t
  given_up m1 x lives left none =
      as_before m b t (Moves.gives_up m1 i x) (ap (λ (f : ℕ → Life). Moves.doomed i x (f b)) lives ∙ doomed_same i x (m.life b) (in_wait m b t was))
      (λ j bs first. elsewhere m1.left i (m1.blocks x) j (λ same. no_head t bs (m.left i) (ap m.left (sym same) ∙ first) none.left) ∙ ap (λ (f : ℕ → List ℕ). f j) left) was

  -- what was behind the block that is taken next is taken over
  drains : (c : ℕ) (cs : List ℕ) → m.left i ≡ c ∷ cs → WaitsIn (Moves.drained m i c) b t
  drains c cs left = by was
    where
      by : WaitsIn m b t → WaitsIn (Moves.drained m i c) b t
      by (OnWay j s is) = OnWay j s (ap (Moves.undeferred i c) is)
      by (TakenOver j bs is first) = TakenOver j bs (ap (Moves.undeferred i c) is) first
      by (OnList is) = at (eqb t c) refl
        where
          at : (q : Bool) → eqb t c ≡ q → WaitsIn (Moves.drained m i c) b t
          at true e = TakenOver i cs (ap (Moves.undeferred i c) is ∙ ap (λ (z : Bool). cond z (IsPending i) (IsDeferred t)) e) (left ∙ ap (λ (x : ℕ). x ∷ cs) (sym (eqb-true t c e)))
          at false e = OnList (ap (Moves.undeferred i c) is ∙ ap (λ (z : Bool). cond z (IsPending i) (IsDeferred t)) e)

  -- another block is taken
  takes : (m2 : State) (c : ℕ) (cs : List ℕ) → m.left i ≡ c ∷ cs → m2.life ≡ put m.life c IsFree → m2.left ≡ put m.left i cs → (t ≡ c → ⊥) → WaitsIn m2 b t
  takes m2 c cs left lives lefts ne =
      as_before m b t m2
      (ap (λ (f : ℕ → Life). f b) lives ∙ elsewhere m.life c IsFree b (other_block m b t was c (ap is_in_wait (first_doomed n i m c cs inv left))))
      (λ j bs first. ap (λ (f : ℕ → List ℕ). f j) lefts
      ∙ elsewhere m.left i cs j (λ same. ne (same_head (m.left i) t c bs cs (ap m.left (sym same) ∙ first) left))) was

  -- another block is left over, with what is behind that
  pub leaves : (c : ℕ) → is_in_wait (m.life c) ≡ false → (t ≡ c → ⊥) → WaitsIn (Moves.left_over m i c) b t
  leaves c none ne = by was
    where
      life : put (λ (x : ℕ). Moves.left_with i c (m.life x)) c (IsLeft i) b ≡ Moves.left_with i c (m.life b)
      life = elsewhere (λ (x : ℕ). Moves.left_with i c (m.life x)) c (IsLeft i) b (other_block m b t was c none)

      by : WaitsIn m b t → WaitsIn (Moves.left_over m i c) b t
      by (OnWay j s is) = OnWay j s (life ∙ ap (Moves.left_with i c) is)
      by (OnList is) = OnList (life ∙ ap (Moves.left_with i c) is ∙ ap (λ (z : Bool). cond z (IsLeft i) (IsDeferred t)) (ne_eqb t c ne))
      by (TakenOver j bs is first) = TakenOver j bs (life ∙ ap (Moves.left_with i c) is) first

  pub same_state : (m2 : State) → m2 ≡ m → WaitsIn m2 b t
  same_state m2 e = subst (λ (x : State). WaitsIn x b t) (sym e) was

  -- a move that leaves lives, and what is still to be taken
  pub stays : (m2 m3 : State) → m2 ≡ m3 → m3.life ≡ m.life → m3.left ≡ m.left → WaitsIn m2 b t
  stays m2 m3 e lives left =
      subst (λ (x : State). WaitsIn x b t) (sym e) (as_before m b t m3 (ap (λ (f : ℕ → Life). f b) lives) (λ j bs first. ap (λ (f : ℕ → List ℕ). f j) left) was)

  took : (m2 m3 : State) → m2 ≡ m3 → (c : ℕ) → m3.log ≡ Taken c ∷ m.log → waits_behind b m2.log ≡ Some t → t ≡ c → ⊥
  took m2 m3 e c log waits = (unless_is c (waits_behind b m.log) t (sym (ap (waits_behind b) (ap (λ (x : State). x.log) e ∙ log)) ∙ waits)).1

  pub told_waits : (c c2 : Settle) (p : Part) (m2 : State) → Told n i c p m c2 m2 → waits_behind b m2.log ≡ Some t → WaitsIn m2 b t
  told_waits c c2 p m2 (Stays e q) waits = same_state m2 e
  told_waits c c2 p m2 (Holds e q) waits = stays m2 (Moves.held m i c.slot) e refl refl
  told_waits c c2 p m2 (HoldsNone e q r none pending blocks) waits = stays m2 (Moves.held m i c.slot) e refl refl
  told_waits c c2 p m2 (Gives e q r) waits = stays m2 (Moves.gave m c.slot) e refl refl
  told_waits c c2 p m2 (Begins e q r none pending blocks scanned) waits = same_state m2 e
  told_waits c c2 p m2 (Appends d ds pending e q r none length) waits = subst (λ (x : State). WaitsIn x b t) (sym e) (appends d ds _ pending none)
  told_waits c c2 p m2 (Fills d ds pending e q r none length scanned) waits = subst (λ (x : State). WaitsIn x b t) (sym e) (appends d ds _ pending none)
  told_waits c c2 p m2 (Skips u l seen active e q r) waits = stays m2 _ e refl refl
  told_waits c c2 p m2 (Passes none e q r) waits = stays m2 (passed_rest n m (m.open_batch c.slot)) e refl refl
  told_waits c c2 p m2 (Finds u l seen active e q r) waits = same_state m2 e
  told_waits c c2 p m2 (Marks u l seen e q r) waits = stays m2 _ e refl refl
  told_waits c c2 p m2 (GivesUp u l seen active length e q r none) waits = stays m2 _ e refl refl
  told_waits c c2 p m2 (Closes seen length some e q r none) waits = stays m2 _ e refl refl
  told_waits c c2 p m2 (Pushes y u d es rest stage todo head e q r) waits = stays m2 _ e refl refl
  told_waits c c2 p m2 (Misses y u rest stage todo active e q r) waits = stays m2 _ e refl refl
  told_waits c c2 p m2 (Sums y stage todo some e q r none) waits = stays m2 _ e refl refl
  told_waits c c2 p m2 (SumsLast y stage todo zero e q r none) waits = subst (λ (x : State). WaitsIn x b t) (sym e) (given_up (Moves.summed n m i y) y refl refl none)
  told_waits c c2 p m2 (Drains d ds left e q r) waits = subst (λ (x : State). WaitsIn x b t) (sym e) (drains d ds left)
  told_waits c c2 p m2 (DrainsNone d ds left none e q r) waits = same_state m2 e
  told_waits c c2 p m2 (Takes d ds left none e q r) waits =
      subst (λ (x : State). WaitsIn x b t) (sym e) (takes (Moves.taken m i d ds) d ds left refl refl (took m2 (Moves.taken m i d ds) e d refl waits))
  told_waits c c2 p m2 (TakesLast d left none e q r) waits =
      subst (λ (x : State). WaitsIn x b t) (sym e) (takes (Moves.joined (Moves.taken m i d []) i) d [] left refl refl (took m2 (Moves.joined (Moves.taken m i d []) i) e d refl waits))
  told_waits c c2 p m2 (Joins left e q r) waits = stays m2 (Moves.joined m i) e refl refl
  told_waits c c2 p m2 (Counts entry es loose debt some e q r none pending closing) waits = stays m2 (Moves.counted m i entry es) e refl refl
  told_waits c c2 p m2 (CountsLast entry es loose debt zero e q r none pending closing) waits =
      subst (λ (x : State). WaitsIn x b t) (sym e) (given_up (Moves.counted m i entry es) entry.batch refl refl none)
