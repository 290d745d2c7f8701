-- In each world that came about from the start, what is on the list of a block waits behind that by the log. So what the collector has, and what waits behind nothing, was
-- retired if no row is under way; and nothing waits behind what is left over.
use Rattle.std.specs.Prelude.{◌⊎◌, zero, suc, Option, Some, None, if◌then◌else◌}
use Rattle.std.proofs.Common.{◌≡◌, ◌<◌, ℕ, ◌+◌, Bool, true, false, cond, eqb, List, [], ◌∷◌, length, refl, arith, ap, sym, subst, ◌∙◌, inl, inr, eqb-true}
use Rattle.std.proofs.lemmas.Bool.{eq-eqb, ne_eqb}
use Rattle.run_debts.specs.Given.SeizeFurther.{IsWordOf}
use Rattle.run_debts.specs.Given.SeizeLaw.{is_retired}
use Rattle.run_debts.specs.Given.SeizeSequence.{taken_in}
use Rattle.run_debts.specs.Given.SeizeDeclared.rows.settle.Settle.{Settle}
use Rattle.run_debts.specs.Given.SeizeDeclared.states.TheConstants.{LAST_SLOT}
use Rattle.run_debts.specs.Given.SeizeWorld.{World, Row, Rests, Hand, NoBlock, Making, InUse, Parting, Cutting, Handed, LeftTo, MayCut, Use, Request, Register', Enter', Leave', LeaveOwned, Refresh, Unregister', Retire, Flush, Defer', Begins, Event, Begin, Step, Makes, Drops, Links, Parts, Unlinks, Rewrites, Operates, Ends, LeavesOver, Relinks, Clears, Chooses, Happens, Runs, Steps', at_start, times}
use Rattle.run_debts.specs.Given.SeizeWaitingHeld.{count}
use Rattle.run_debts.proofs.Given.SeizeMovesMoves.Takes.{first_doomed}
use Rattle.run_debts.proofs.Given.SeizeMovesSets.Unmoved.{Unmoved}
use Rattle.run_debts.proofs.Given.SeizeMovesState.Ghost.{Entry, Life, IsFree, IsOwned, IsDeferring, IsDeferred, IsPending, IsIn, IsDoomed, State, can_carry, is_deferred, is_given, is_pending, lies_with}
use Rattle.run_debts.proofs.Given.SeizeMovesState.Moves
use Rattle.run_debts.proofs.Given.SeizeRulePoints.Aside.{HandFits, is_handed}
use Rattle.run_debts.proofs.Given.SeizeRulePoints.Passed.{passed_rest}
use Rattle.run_debts.proofs.Given.SeizeRulePoints.Told.{Part, part, Told, Stays, Holds, HoldsNone, Gives, Begins as BeginsTry, Appends, Fills, Skips, Passes, Finds, Marks, GivesUp, Closes, Pushes, Misses, Sums, SumsLast, Drains, DrainsNone, Takes, TakesLast, Joins, Counts, CountsLast}
use Rattle.run_debts.proofs.Given.SeizeRuleRows.Effects.{taken_hand as taken_nobody}
use Rattle.run_debts.proofs.Given.SeizeRuleRows.Known.{FitsRow}
use Rattle.run_debts.proofs.Given.SeizeRuleRows.Told.{list_off, RowTold, SettleGoes, SettleEnds, LeaveSwaps, LeaveGoes, LeaveSettled, LeaveEnds, RegisterLooks, RegisterRefused, RegisterTakes, RegisterEnters, EntersSlot, FreesSlot, DeferGoes, DeferPushes, DeferEnds, BeginTold}
use Rattle.run_debts.proofs.Given.SeizeMemoryWords.Named.{link}
use Rattle.run_debts.proofs.Given.SeizeMemoryWords.View.{view}
use Rattle.run_debts.proofs.Given.SeizeRuleWorld.Begins.{begins_next}
use Rattle.run_debts.proofs.Given.SeizeRuleWorld.Events.{leaves_over_good}
use Rattle.run_debts.proofs.Given.SeizeRuleWorld.Good.{Good, Next}
use Rattle.run_debts.proofs.Given.SeizeRuleWorld.Kept.{IsStill, steps_next, users_good}
use Rattle.run_debts.proofs.Given.SeizeRuleWorld.Start.{start_good, start_state}
use Rattle.run_debts.proofs.Given.SeizeAloneSpared.Rows.{RowStepped, row_stepped}
use Rattle.run_waiting.specs.Lives.Behind.{IsLeft}
use Rattle.run_waiting.specs.Lives.Waiting.{IsPutting, waits_behind}
use Rattle.run_waiting.proofs.Lives.Lives.{WaitsIn, OnWay, OnList, TakenOver}
use Rattle.run_waiting.proofs.Lives.Logs.{unless_other, waits_on}
use Rattle.run_waiting.proofs.Lives.Putting.{not_over}
use Rattle.run_waiting.proofs.Lives.Worlds.{Kept, IsAside, log_back, happens_kept, start_kept, has_it}

-- A move of a settling row leaves the list of a block as it was, or empties it.
module _ (n i : ℕ) (m : State) (t : ℕ) where
  abbrev Fewer : State → Type 0
  Fewer m2 = (m2.deferred t ≡ m.deferred t) ⊎ (m2.deferred t ≡ [])

  same_list : (m2 m3 : State) → m2 ≡ m3 → m3.deferred t ≡ m.deferred t → Fewer m2
  same_list m2 m3 e same = inl (ap (λ (x : State). x.deferred t) e ∙ same)

  drained_list : (m2 : State) (d : ℕ) → m2 ≡ Moves.drained m i d → Fewer m2
  drained_list m2 d e = by (eqb t d) refl
    where
      by : (q : Bool) → eqb t d ≡ q → Fewer m2
      by true is = inr (ap (λ (x : State). x.deferred t) e ∙ ap (λ (q : Bool). cond q [] (m.deferred t)) is)
      by false is = inl (ap (λ (x : State). x.deferred t) e ∙ ap (λ (q : Bool). cond q [] (m.deferred t)) is)

  told_list : (c c2 : Settle) (p : Part) (m2 : State) → Told n i c p m c2 m2 → Fewer m2
  told_list c c2 p m2 (Stays e q) = same_list m2 _ e refl
  told_list c c2 p m2 (Holds e q) = same_list m2 _ e refl
  told_list c c2 p m2 (HoldsNone e q r none pending blocks) = same_list m2 _ e refl
  told_list c c2 p m2 (Gives e q r) = same_list m2 _ e refl
  told_list c c2 p m2 (BeginsTry e q r none pending blocks scanned) = same_list m2 _ e refl
  told_list c c2 p m2 (Appends d ds pending e q r none length) = same_list m2 _ e refl
  told_list c c2 p m2 (Fills d ds pending e q r none length scanned) = same_list m2 _ e refl
  told_list c c2 p m2 (Skips u l seen active e q r) = same_list m2 _ e refl
  told_list c c2 p m2 (Passes none e q r) = same_list m2 (passed_rest n m (m.open_batch c.slot)) e refl
  told_list c c2 p m2 (Finds u l seen active e q r) = same_list m2 _ e refl
  told_list c c2 p m2 (Marks u l seen e q r) = same_list m2 _ e refl
  told_list c c2 p m2 (GivesUp u l seen active length e q r none) = same_list m2 _ e refl
  told_list c c2 p m2 (Closes seen length some e q r none) = same_list m2 _ e refl
  told_list c c2 p m2 (Pushes y u d es rest stage todo head e q r) = same_list m2 _ e refl
  told_list c c2 p m2 (Misses y u rest stage todo active e q r) = same_list m2 _ e refl
  told_list c c2 p m2 (Sums y stage todo some e q r none) = same_list m2 _ e refl
  told_list c c2 p m2 (SumsLast y stage todo last e q r none) = same_list m2 _ e refl
  told_list c c2 p m2 (Drains d ds left e q r) = drained_list m2 d e
  told_list c c2 p m2 (DrainsNone d ds left none e q r) = same_list m2 _ e refl
  told_list c c2 p m2 (Takes d ds left none e q r) = same_list m2 _ e refl
  told_list c c2 p m2 (TakesLast d left none e q r) = same_list m2 _ e refl
  told_list c c2 p m2 (Joins left e q r) = same_list m2 _ e refl
  told_list c c2 p m2 (Counts entry es loose debt some e q r none pending closing) = same_list m2 _ e refl
  told_list c c2 p m2 (CountsLast entry es loose debt last e q r none pending closing) = same_list m2 _ e refl

  off_list : (again : Bool) (s : ℕ) (m2 : State) → (es : List Entry) → m2 ≡ list_off again m i s es → Fewer m2
  off_list true s m2 es e = same_list m2 _ e refl
  off_list false s m2 es e = same_list m2 _ e refl

  -- what is on it was so, or the row was putting it there
  module _ (b : ℕ) (row row2 : Row) (uses uses2 : ℕ → Use) (m2 : State) (some : 0 < count b (m2.deferred t)) where
    abbrev Was : Type 0
    Was = (0 < count b (m.deferred t)) ⊎ IsPutting b t row

    was_on : Fewer m2 → Was
    was_on (inl e) = inl (subst (λ (l : List ℕ). 0 < count b l) e some)
    was_on (inr e) = absurd (let none : count b (m2.deferred t) ≡ 0 = ap (count b) e in omega (arith, none, some))

    unmoved_on : Unmoved n m m2 → Was
    unmoved_on u = was_on (inl (u.alike.put t))

    pub row_lists : RowTold n i row m uses row2 m2 uses2 → Was
    row_lists (SettleGoes c c2 r r2 slot told) = was_on (told_list c c2 (part c) m2 told)
    row_lists (SettleEnds c r r2 stands e) = was_on (same_list m2 m e refl)
    row_lists (LeaveSwaps c again es p r r2 stands lt becomes head e behind) = was_on (off_list again c.slot m2 es e)
    row_lists (LeaveGoes c settle settle2 r r2 stands slot told) = was_on (told_list settle settle2 (part settle) m2 told)
    row_lists (LeaveSettled c settle r stands over settled e) = was_on (same_list m2 m e refl)
    row_lists (LeaveEnds c r settled settled2 u) = unmoved_on u
    row_lists (RegisterLooks c c2 r r2 looks looks2 enters same_uses e) = was_on (same_list m2 m e refl)
    row_lists (RegisterRefused c r r2 looks same_uses e) = was_on (same_list m2 m e refl)
    row_lists (RegisterTakes c r looks vacant takes u) = unmoved_on u
    row_lists (RegisterEnters c r r2 stands lt head e uses_are) = was_on (same_list m2 _ e refl)
    row_lists (EntersSlot c r r2 lt head e) = was_on (same_list m2 _ e refl)
    row_lists (FreesSlot c r r2 u) = unmoved_on u
    row_lists (DeferGoes s c p r r2 on on2 e) = was_on (same_list m2 m e refl)
    row_lists (DeferPushes s d u field c r r2 on block names e) = by (eqb t u) refl (subst (λ (l : List ℕ). 0 < count b l) (ap (λ (x : State). x.deferred t) e) some)
      where
        at : (q : Bool) → eqb b d ≡ q → eqb t u ≡ true → 0 < cond q 1 0 + count b (m.deferred u) → Was
        at true is there new =
            inr (subst (IsPutting b t) (sym r) (not_over c.stands on, block ∙ ap link (sym (eqb-true b d is)), subst (IsWordOf t) (sym names) (eqb-true t u there)))
        at false is there new = inl (subst (λ (k : ℕ). 0 < count b (m.deferred k)) (sym (eqb-true t u there)) (omega (arith, new)))

        by : (q : Bool) → eqb t u ≡ q → 0 < count b (cond q (d ∷ m.deferred u) (m.deferred t)) → Was
        by true is new = at (eqb b d) refl is new
        by false is old = inl old
    row_lists (DeferEnds s c r r2 over u) = unmoved_on u

-- what is free, or left over, carries nothing
no_carrier : (h : Hand) (l : Life) → h ≡ NoBlock → HandFits h l → can_carry l ≡ true → ⊥
no_carrier h l is fits carries = (let free : l ≡ IsFree = subst (λ (k : Hand). HandFits k l) is fits in let none = ap can_carry free in cc (none, carries))

left_carries_not : (h : Hand) (l : Life) → IsLeft h → HandFits h l → can_carry l ≡ false
left_carries_not NoBlock l left fits = absurd left
left_carries_not (Making i) l left fits = absurd left
left_carries_not (InUse o) l left fits = absurd left
left_carries_not (Parting i) l left fits = absurd left
left_carries_not (Cutting i) l left fits = absurd left
left_carries_not Handed l left fits = absurd left
left_carries_not (LeftTo i) l left fits = ap can_carry fits

listed_with : (t : ℕ) (l : Life) → 0 < is_deferred t l → lies_with t l ≡ true
listed_with t (IsDeferred u) some = by (eqb t u) some
  where
    by : (q : Bool) → 0 < cond q 1 0 → q ≡ true
    by true more = refl
    by false more = absurd (omega (arith, more))
listed_with t _ some = absurd (omega (arith, some))

-- the world is good, and all that is on lists waits by the log
pub record Listing {T : Type 0} (defers : T → Option ℕ) (size : ℕ) (w : World T) : Type 0 where
  pub kept : Kept defers size w
  pub good : Good defers (LAST_SLOT + 1) size w
  pub lists : (b t : ℕ) → 0 < count b (good.state.deferred t) → waits_behind b w.log ≡ Some t

-- a block on whose list another one is may have a list
pub carrier : {T : Type 0} (defers : T → Option ℕ) (size : ℕ) (w : World T) (g : Good defers (LAST_SLOT + 1) size w) (b t : ℕ) → 0 < count b (g.state.deferred t) → can_carry (g.state.life t) ≡ true
carrier defers size w g b t some = (g.inv.places.carries b t (listed_with t (g.state.life b) (let listed = g.inv.places.all_deferred t b in omega (arith, listed, some)))).2

module _ {T : Type 0} (defers : T → Option ℕ) (size : ℕ) (w w2 : World T) (k : Listing defers size w) where
  abbrev n : ℕ
  n = LAST_SLOT + 1

  abbrev m : State
  m = k.good.state

  -- a step of a row
  module _ (i : ℕ) (step : Steps' defers i (w.row i) w w2) where
    abbrev next : Next defers n size w m i w2
    next = steps_next defers n size refl w w2 k.good k.kept.sized i (w.row i) refl step

    abbrev did : RowStepped defers i w w2
    did = row_stepped defers w k.good i w2 step

    goes_on : (b t : ℕ) → 0 < count b (next.good.state.deferred t) → waits_behind b w.log ≡ Some t → waits_behind b w2.log ≡ Some t
    goes_on b t some waits = ap (waits_behind b) did.logged ∙ waits_on b t did.effects w.log did.one waits (free (times t (taken_in did.effects)) refl)
      where
        free : (q : ℕ) → times t (taken_in did.effects) ≡ q → times t (taken_in did.effects) ≡ 0
        free zero e = e
        free (suc q) e =
            absurd (no_carrier (w2.hand t) (next.good.state.life t) (ap (λ (h : ℕ → Hand). h t) did.hands ∙ taken_nobody t did.effects w.hand did.one (λ z. omega (arith, e, z))) (next.good.hands t)
            (carrier defers size w2 next.good b t some))

    steps_listed : Listing defers size w2
    steps_listed = record {
      kept = happens_kept defers size w w2 k.kept (Step i) step;
      good = next.good;
      lists = λ b t some. elim (row_lists n i m t b (w.row i) (w2.row i) w.uses w2.uses next.good.state some next.told) as (λ _. waits_behind b w2.log ≡ Some t) [
        | inl was ↦ goes_on b t some (k.lists b t was)
        | inr puts ↦ goes_on b t some (k.kept.putting i b t puts)
      ];
    }

  -- a row begins
  module _ (i : ℕ) where
    begin_list : (request : Request) (m2 : State) → BeginTold n i request m m2 → (t : ℕ) → m2.deferred t ≡ m.deferred t
    begin_list (Register' enters) m2 told t = told.alike.put t
    begin_list (Enter' s) m2 told t = told.alike.put t
    begin_list (Leave' s) m2 told t = told.alike.put t
    begin_list (LeaveOwned s) m2 told t = told.alike.put t
    begin_list (Refresh s) m2 told t = told.alike.put t
    begin_list (Unregister' s) m2 told t = told.alike.put t
    begin_list (Retire s c) m2 told t = ap (λ (x : State). x.deferred t) told
    begin_list (Flush s) m2 told t = ap (λ (x : State). x.deferred t) told
    begin_list (Defer' s c u) m2 told t = told.alike.put t

    begin_log : (request : Request) → Begins defers size i request w w2 → (b t : ℕ) → waits_behind b w.log ≡ Some t → waits_behind b w2.log ≡ Some t
    begin_log (Register' enters) h b t waits = ap (λ (z : World T). waits_behind b z.log) h ∙ waits
    begin_log (Enter' s) h b t waits = ap (λ (z : World T). waits_behind b z.log) h.1 ∙ waits
    begin_log (Leave' s) h b t waits = ap (λ (z : World T). waits_behind b z.log) h.1 ∙ waits
    begin_log (LeaveOwned s) h b t waits = ap (λ (z : World T). waits_behind b z.log) h.1 ∙ waits
    begin_log (Refresh s) h b t waits = ap (λ (z : World T). waits_behind b z.log) h.1 ∙ waits
    begin_log (Unregister' s) h b t waits = ap (λ (z : World T). waits_behind b z.log) h.1 ∙ waits
    begin_log (Retire s c) h b t waits = ap (λ (z : World T). waits_behind b z.log) h.2 ∙ waits
    begin_log (Flush s) h b t waits = ap (λ (z : World T). waits_behind b z.log) h.1 ∙ waits
    begin_log (Defer' s c u) h b t waits =
        ap (λ (z : World T). waits_behind b z.log) h.7
        ∙ ap (λ (q : Bool). if q then Some u else waits_behind b w.log) (ne_eqb b c (λ e. subst (MayCut i) (ap w.hand (sym e) ∙ has_it defers size w k.kept b t waits) h.2)) ∙ waits

    begins_listed : (request : Request) → Happens defers size (Begin i request) w w2 → Listing defers size w2
    begins_listed request h =
        let g = begins_next defers n size refl w w2 k.good i h.0 request h.1 in
        record {
          kept = happens_kept defers size w w2 k.kept (Begin i request) h;
          good = g.0;
          lists = λ b t some. begin_log request h.1 b t (k.lists b t (subst (λ (l : List ℕ). 0 < count b l) (begin_list request g.0.state g.1 t) some));
        }

  over_listed : (i c : ℕ) (further : List ℕ) → Happens defers size (LeavesOver i c further) w w2 → Listing defers size w2
  over_listed i c further h =
      let g = leaves_over_good defers n size w w2 k.good i c further h in
      record {
        kept = happens_kept defers size w w2 k.kept (LeavesOver i c further) h;
        good = g.0;
        lists = λ b t some. by b t (eqb t c) refl (subst (λ (l : List ℕ). 0 < count b l) (ap (λ (x : State). x.deferred t) g.1) some);
      }
    where
      by : (b t : ℕ) (q : Bool) → eqb t c ≡ q → 0 < count b (cond q [] (m.deferred t)) → waits_behind b w2.log ≡ Some t
      by b t true is none = absurd (omega (arith, none))
      by b t false is some =
          ap (λ (z : World T). waits_behind b z.log) h.4
          ∙ unless_other c (waits_behind b w.log) t (k.lists b t some) (λ e. let yes = eq-eqb t c e in cc (yes, is))

  users_listed : (e : Event T) → IsStill e → IsAside e → Happens defers size e w w2 → Listing defers size w2
  users_listed e still aside h =
      let g = users_good defers n size refl w w2 k.good k.kept.sized e still h in
      record {
        kept = happens_kept defers size w w2 k.kept e h;
        good = g.0;
        lists = λ b t some. sym (log_back defers size w w2 e aside h b) ∙ k.lists b t (subst (λ (l : List ℕ). 0 < count b l) (g.1.alike.put t) some);
      }

  pub happens_listed : (e : Event T) → Happens defers size e w w2 → Listing defers size w2
  happens_listed (Begin i request) h = begins_listed i request h
  happens_listed (Step i) h = steps_listed i h
  happens_listed (LeavesOver i c further) h = over_listed i c further h
  happens_listed (Makes i value words) h = users_listed (Makes i value words) tt tt h
  happens_listed (Drops i c) h = users_listed (Drops i c) tt tt h
  happens_listed (Links i c o) h = users_listed (Links i c o) tt tt h
  happens_listed (Parts i c) h = users_listed (Parts i c) tt tt h
  happens_listed (Unlinks i c) h = users_listed (Unlinks i c) tt tt h
  happens_listed (Rewrites i c value) h = users_listed (Rewrites i c value) tt tt h
  happens_listed (Operates op) h = users_listed (Operates op) tt tt h
  happens_listed (Ends i o) h = users_listed (Ends i o) tt tt h
  happens_listed (Relinks i c word) h = users_listed (Relinks i c word) tt tt h
  happens_listed (Clears i c) h = users_listed (Clears i c) tt tt h
  happens_listed (Chooses choice) h = users_listed (Chooses choice) tt tt h

module _ {T : Type 0} (defers : T → Option ℕ) (size : ℕ) where
  pub runs_listed : (events : List (Event T)) (w w2 : World T) → Listing defers size w → Runs defers size events w w2 → Listing defers size w2
  runs_listed [] w w2 k h = subst (Listing defers size) (sym h) k
  runs_listed (e ∷ events) w w2 k h = runs_listed events h.0 w2 (happens_listed defers size w h.0 k e h.1) h.2

  pub start_listed : (roots : ℕ) → Listing defers size (at_start defers roots)
  start_listed roots = record {
    kept = start_kept defers size roots;
    good = start_good defers (LAST_SLOT + 1) size roots;
    lists = λ b t some. absurd (
        let none : count b ((start_good defers (LAST_SLOT + 1) size roots).state.deferred t) ≡ 0 = ap (λ (x : State). count b (x.deferred t)) (start_state defers (LAST_SLOT + 1) size roots) in
        omega (arith, none, some)
        );
  }

  module _ (w : World T) (k : Listing defers size w) where
    -- a block behind which another one waits may have a list; so nothing waits behind what is left over, or was never linked
    pub carries_some : (b t : ℕ) → waits_behind b w.log ≡ Some t → can_carry (k.kept.good.state.life t) ≡ true
    carries_some b t waits = by (k.kept.waits b t waits)
      where
        lies : (l : Life) → k.kept.good.state.life b ≡ l → lies_with t l ≡ true → can_carry (k.kept.good.state.life t) ≡ true
        lies l is lying = (k.kept.good.inv.places.carries b t (ap (lies_with t) is ∙ lying)).2

        by : WaitsIn k.kept.good.state b t → can_carry (k.kept.good.state.life t) ≡ true
        by (OnWay i slot is) = lies (IsDeferring i slot t) is (eq-eqb t t refl)
        by (OnList is) = lies (IsDeferred t) is (eq-eqb t t refl)
        by (TakenOver j bs is first) = ap can_carry (first_doomed (LAST_SLOT + 1) j k.kept.good.state t bs k.kept.good.inv first)

    pub left_has_none : (b t : ℕ) → waits_behind b w.log ≡ Some t → IsLeft (w.hand t) → ⊥
    left_has_none b t waits left =
        (let none = left_carries_not (w.hand t) (k.kept.good.state.life t) left (k.kept.good.hands t) in let some = carries_some b t waits in cc (none, some))

    pub own_has_none : (b t i : ℕ) → waits_behind b w.log ≡ Some t → w.hand t ≡ Making i → ⊥
    own_has_none b t i waits own =
        let owned : k.kept.good.state.life t ≡ IsOwned i = subst (λ (h : Hand). HandFits h (k.kept.good.state.life t)) own (k.kept.good.hands t) in
        (let none = ap can_carry owned in let some = carries_some b t waits in cc (none, some))

    -- what the collector has, and what waits behind nothing, was retired, if no row is under way
    pub retired_at_rest : ((i : ℕ) → w.row i ≡ Rests) → (b : ℕ) → w.hand b ≡ Handed → waits_behind b w.log ≡ None → is_retired b w.log ≡ true
    retired_at_rest rests b has alone = ap (is_retired b) (sym k.good.logged) ∙ k.good.inv.logged.given b ∙ by (k.good.state.life b) refl
      where
        its : is_handed (k.good.state.life b) ≡ true
        its = subst (λ (h : Hand). HandFits h (k.good.state.life b)) has (k.good.hands b)

        idle : (i : ℕ) → FitsRow (LAST_SLOT + 1) i (view defers w.memory) k.good.state k.good.extra (length w.memory.slots) Rests
        idle i = subst (λ (r : Row). FitsRow (LAST_SLOT + 1) i (view defers w.memory) k.good.state k.good.extra (length w.memory.slots) r) (rests i) (k.good.rows i)

        by : (l : Life) → k.good.state.life b ≡ l → is_given (k.good.state.life b) ≡ true
        by (IsDeferring i slot t) is =
            absurd (let on = (k.good.inv.logged.on_way b i slot t is).0 in let none = (idle i).outside.section in omega (arith, on, none))
        by (IsDeferred t) is =
            absurd (
            let one : is_deferred t (k.good.state.life b) ≡ 1 = ap (is_deferred t) is ∙ ap (λ (q : Bool). cond q 1 0) (eq-eqb t t refl) in
            let listed = k.good.inv.places.all_deferred t b in
            let waits = k.lists b t (omega (arith, one, listed)) in
            cc (waits, alone)
            )
        by (IsPending i) is =
            absurd (
            let one : is_pending i (k.good.state.life b) ≡ 1 = ap (is_pending i) is ∙ ap (λ (q : Bool). cond q 1 0) (eq-eqb i i refl) in
            let all = k.good.inv.places.to_retire i b in
            let first : count b (k.good.state.pending i) ≡ 0 = ap (count b) (idle i).empty.pending in
            let second : count b (k.good.state.puts i) ≡ 0 = ap (count b) (idle i).empty.puts in
            omega (arith, one, all, first, second)
            )
        by (IsIn x) is = ap is_given is
        by (IsDoomed i) is = ap is_given is
        by _ is = absurd (let none = ap is_handed is in cc (none, its))
