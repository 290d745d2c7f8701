-- The list of a block in use, as the memory shows it and the rows know it: what users do leaves it as it was, and so does a step of a row that does not put its own block in front.
use Rattle.std.specs.Prelude.{◌⊎◌, zero, suc, Option, Some, None, Ok, Err, is_some, IsSome, if◌then◌else◌, ◌==◌}
use Rattle.std.proofs.Common.{◌≡◌, ◌<◌, ℕ, ◌+◌, Bool, true, false, cond, eqb, List, [], ◌∷◌, length, refl, arith, ap, sym, subst, ◌∙◌, inl, inr, eqb-true}
use Rattle.std.proofs.lemmas.Bool.{eq-eqb}
use Rattle.run_debts.specs.Given.SeizeWordsMem.{Mem, Took, value_at, value_in, word_at}
use Rattle.run_debts.specs.Given.SeizeWordsOp.{Out, Make, Found, Stored, Exchanged, Made, Taken as TakenOut, Roomed}
use Rattle.run_debts.specs.Given.SeizeWordsDeclared.at.At.TheVariants.{Entry, Word}
use Rattle.run_debts.specs.Given.SeizeFurther.{IsWordOf, ListFrom, FurtherFrom, FurtherAre}
use Rattle.run_debts.specs.Given.SeizeLaw.{Effect, Taken}
use Rattle.run_debts.specs.Given.SeizeSequence.{IsUsers}
use Rattle.run_debts.specs.Given.SeizeDeclared.rows.settle.Settle.{Settle}
use Rattle.run_debts.specs.Given.SeizeDeclared.states.TheConstants.{NEXT, LAST_SLOT}
use Rattle.run_debts.specs.Given.SeizeWorld.{World, Row, Registers, Enters, Settles, Leaves, Frees, Use, Hand, NoBlock, Making, InUse, Parting, Cutting, Handed, LeftTo, Event, Begin, Step, Makes, Drops, Links, Parts, Unlinks, Rewrites, Operates, Ends, LeavesOver, Relinks, Clears, Chooses, Happens, Runs, Steps', made_by, handed_by, times, with_at}
use Rattle.run_debts.specs.Given.SeizeWaitingHeld.{count}
use Rattle.run_debts.proofs.Given.SeizeWaitingCounts.{none_counted}
use Rattle.run_debts.proofs.Given.SeizeMovesMoves.Takes.{first_doomed}
use Rattle.run_debts.proofs.Given.SeizeMovesState.Ghost.{Entry as Listed, Life, IsOwned, IsLinked, IsDeferred, State, can_carry}
use Rattle.run_debts.proofs.Given.SeizeMovesState.Moves
use Rattle.run_debts.proofs.Given.SeizeMovesState.Rule.{Inv}
use Rattle.run_debts.proofs.Given.SeizeRulePoints.Aside.{HandFits}
use Rattle.run_debts.proofs.Given.SeizeRulePoints.Passed.{passed_rest}
use Rattle.run_debts.proofs.Given.SeizeRulePoints.Told.{Part, part, Told, Stays, Holds, HoldsNone, Gives, Begins as BeginsTry, Appends, Fills, Skips, Passes, Finds, Marks, GivesUp, Closes, Pushes, Misses, Sums, SumsLast, Drains, DrainsNone, Takes, TakesLast, Joins, Counts, CountsLast}
use Rattle.run_debts.proofs.Given.SeizeRuleRows.SizesKept.{happens_sized}
use Rattle.run_debts.proofs.Given.SeizeRuleRows.Told.{list_off, IsOnWay, RowTold, SettleGoes, SettleEnds, LeaveSwaps, LeaveGoes, LeaveSettled, LeaveEnds, RegisterLooks, RegisterRefused, RegisterTakes, RegisterEnters, EntersSlot, FreesSlot, DeferGoes, DeferPushes, DeferEnds}
use Rattle.run_debts.proofs.Given.SeizeMemoryWords.Chains.{Chain}
use Rattle.run_debts.proofs.Given.SeizeMemoryWords.Lists.{some_word, list_from, deferred_of}
use Rattle.run_debts.proofs.Given.SeizeMemoryWords.Named.{word_found}
use Rattle.run_debts.proofs.Given.SeizeMemoryWords.Shows.{DeferredIs, DrainedIs, CarrierIs, lives}
use Rattle.run_debts.proofs.Given.SeizeMemoryWords.There.{entry_there, list_there, value_there}
use Rattle.run_debts.proofs.Given.SeizeMemoryWords.View.{view, list_in}
use Rattle.run_debts.proofs.Given.SeizeRuleWorld.Good.{Good, Next}
use Rattle.run_debts.proofs.Given.SeizeRuleWorld.Kept.{IsStill, steps_next, users_good}
use Rattle.run_debts.proofs.Given.SeizeAloneHistories.Hands.{times_counted}
use Rattle.run_debts.proofs.Given.SeizeAloneHistories.Reached.{Reached, happens_reached}
use Rattle.run_debts.proofs.Given.SeizeAloneSpared.Rows.{RowStepped, row_stepped}
use Rattle.run_debts.specs.Given.RuleInWorld.{AllUsers}
use Rattle.run_debts.proofs.Given.RuleWorld.Hands.{at_cases}
use Rattle.run_debts.specs.Given.FollowsBlocks.{WasLinked}
use Rattle.run_waiting.specs.Lives.Waiting.{IsPutting}
use Rattle.run_waiting.proofs.Lives.Listed.{carrier}
use Rattle.run_waiting.proofs.Lives.LyingRows.{HasPut}
use Rattle.run_waiting.proofs.Lives.Putting.{not_over}
use Rattle.run_debts.proofs.Given.FinishesBeside.Makings.Outs.{handed_lives}

-- the list that a word begins is one list
one_list : {T : Type 0} (m : Mem T) (word : ℕ) (l k : List ℕ) → ListFrom m word l → ListFrom m word k → l ≡ k
one_list m word [] [] f g = refl
one_list m word [] (c ∷ k) f g = absurd (let some = g.1 in let names = g.2 in omega (arith, f, some, names))
one_list m word (b ∷ l) [] f g = absurd (let some = f.1 in let names = f.2 in omega (arith, g, some, names))
one_list m word (b ∷ l) (c ∷ k) f g =
    let here : b ≡ c = (let one = f.2 in let other = g.2 in omega (arith, one, other)) in
    let both : Some f.0 ≡ Some g.0 = sym f.3 ∙ ap (λ (x : ℕ). word_at m (Entry x NEXT)) here ∙ g.3 in
    let next : f.0 ≡ g.0 = cc both in
    let rest = one_list m f.0 l k f.4 (subst (λ (x : ℕ). ListFrom m x k) (sym next) g.4) in
    cc (here, rest)

-- What is behind a block in use.
module _ {T : Type 0} {size : ℕ} (defers : T → Option ℕ) (w : World T) (good : Good defers (LAST_SLOT + 1) size w) (c o : ℕ) (used : w.hand c ≡ InUse o) where
  in_life : good.state.life c ≡ IsLinked
  in_life = subst (λ (h : Hand). HandFits h (good.state.life c)) used (good.hands c)

  alive : (l : Life) (k : Bool) (d : Option ℕ) → l ≡ IsLinked → CarrierIs l k d → k ≡ is_some d
  alive l k d e is = grind (arith, e, is)

  undrained : (l : Life) (d : Bool) → l ≡ IsLinked → DrainedIs l d → d ≡ false
  undrained l d e is = grind (arith, e, is)

  lies : (x : ℕ) → good.state.carrier c ≡ false → count x (good.state.deferred c) ≡ 0
  lies x none = grind (arith, none, good.inv.places.all_deferred c x, good.inv.places.carries x c)

  none_carried : list_in defers (value_at w.memory c) ≡ None → good.state.deferred c ≡ []
  none_carried e =
      let none = alive (good.state.life c) (good.state.carrier c) ((view defers w.memory).lists c) in_life (good.shows.lists.carriers c) ∙ ap is_some e in
      none_counted (good.state.deferred c) (λ x. lies x none)

  chain : (p : Option ℕ) (d : ℕ) (q : Bool) → p ≡ Some d → q ≡ false → DeferredIs (view defers w.memory).nexts ((view defers w.memory).own c) p q (good.state.deferred c)
      → Chain 0 (view defers w.memory).nexts ((view defers w.memory).own c d) (good.state.deferred c)
  chain p d q e f is = grind (arith, e, f, is)

  its_chain : (d : ℕ) → list_in defers (value_at w.memory c) ≡ Some d → Chain 0 (view defers w.memory).nexts ((view defers w.memory).own c d) (good.state.deferred c)
  its_chain d e =
      chain ((view defers w.memory).lists c) d (good.extra.drained c) e (undrained (good.state.life c) (good.extra.drained c) in_life (good.shows.lists.drains c)) (good.shows.lists.deferring c)

  on_it : (x : ℕ) → (count x (good.state.deferred c) ≡ 0 → ⊥) → good.state.life x ≡ IsDeferred c
  on_it x ne = deferred_of c (good.state.life x) (λ z. ne (good.inv.places.all_deferred c x ∙ z))

  from : (p : Option ℕ) → list_in defers (value_at w.memory c) ≡ p → FurtherFrom w.memory c p (good.state.deferred c)
  from None e = none_carried e
  from (Some d) e =
      let a = some_word (word_at w.memory (Word c d)) (list_there defers (LAST_SLOT + 1) w.memory good.state good.extra c d good.stocked e) in (
        a.0,
        a.1,
        list_from w.memory (view defers w.memory).nexts a.0 (good.state.deferred c) (λ x v is. word_found w.memory (Entry x NEXT) v is)
            (λ x ne. entry_there defers (LAST_SLOT + 1) w.memory good.state good.extra x NEXT good.stocked good.shows (ap lives (on_it x ne)) (omega arith))
            (subst (λ (v : ℕ). Chain 0 (view defers w.memory).nexts v (good.state.deferred c)) (word_found w.memory (Word c d) a.0 a.1) (its_chain d e)),
      )

  -- it is there,
  pub used_there : IsSome (value_at w.memory c)
  used_there = value_there defers (LAST_SLOT + 1) w.memory good.state good.extra c good.shows (ap lives in_life)

  -- with the list that the rows know,
  pub its_list : FurtherAre defers w.memory c (good.state.deferred c)
  its_list = at (value_at w.memory c) refl
    where
      at : (p : Option T) → value_at w.memory c ≡ p → FurtherAre defers w.memory c (good.state.deferred c)
      at None f = absurd (grind (arith, used_there, f))
      at (Some value) f = (value, f, from (defers value) (ap (list_in defers) f))

  -- which is the one that the memory shows;
  pub list_is : (blocks : List ℕ) → FurtherAre defers w.memory c blocks → blocks ≡ good.state.deferred c
  list_is blocks are =
      let both : Some are.0 ≡ Some its_list.0 = sym are.1 ∙ its_list.1 in
      let alike : are.0 ≡ its_list.0 = cc both in
      by (defers its_list.0) (subst (λ (value : T). FurtherFrom w.memory c (defers value) blocks) alike are.2) its_list.2
    where
      by : (p : Option ℕ) → FurtherFrom w.memory c p blocks → FurtherFrom w.memory c p (good.state.deferred c) → blocks ≡ good.state.deferred c
      by None f g = f ∙ sym g
      by (Some d) f g =
          let words : Some f.0 ≡ Some g.0 = sym f.1 ∙ g.1 in
          let one : f.0 ≡ g.0 = cc words in
          one_list w.memory f.0 blocks (good.state.deferred c) f.2 (subst (λ (x : ℕ). ListFrom w.memory x (good.state.deferred c)) (sym one) g.2)

  -- each block on it is there
  pub listed_there : (blocks : List ℕ) → FurtherAre defers w.memory c blocks → (x : ℕ) → 0 < times x blocks → IsSome (value_at w.memory x)
  listed_there blocks are x some =
      value_there defers (LAST_SLOT + 1) w.memory good.state good.extra x good.shows
      (ap lives (on_it x (λ none. (let same = ap (times x) (list_is blocks are) in let counted = times_counted x (good.state.deferred c) in omega (arith, some, same, counted, none)))))

-- nothing is on the list of a block that somebody has made
pub made_has_none : {T : Type 0} (defers : T → Option ℕ) (size : ℕ) (w : World T) (good : Good defers (LAST_SLOT + 1) size w) (c j : ℕ) → w.hand c ≡ Making j → good.state.deferred c ≡ []
made_has_none defers size w good c j made = none_counted (good.state.deferred c) (λ x. by x (count x (good.state.deferred c)) refl)
  where
    owned : good.state.life c ≡ IsOwned j
    owned = subst (λ (h : Hand). HandFits h (good.state.life c)) made (good.hands c)

    by : (x k : ℕ) → count x (good.state.deferred c) ≡ k → count x (good.state.deferred c) ≡ 0
    by x zero e = e
    by x (suc k) e = absurd (let carries = carrier defers size w good x c (omega (arith, e)) in let none = ap can_carry owned in cc (carries, none))

-- What users do.

-- a block that was linked is there
linked_lives : (h : Hand) (l : Life) → WasLinked h → HandFits h l → lives l ≡ true
linked_lives NoBlock l linked fits = absurd linked
linked_lives (Making i) l linked fits = absurd linked
linked_lives (InUse o) l linked fits = ap lives fits
linked_lives (Parting i) l linked fits = ap lives fits
linked_lives (Cutting i) l linked fits = ap lives fits
linked_lives Handed l linked fits = handed_lives l fits
linked_lives (LeftTo i) l linked fits = ap lives fits

module _ {T : Type 0} (defers : T → Option ℕ) (size : ℕ) (w v : World T) (r : Reached defers size w) (c : ℕ) (linked : WasLinked (w.hand c)) where
  -- it is linked still, and if it is in use it was so
  abbrev OnFrom : Hand → Type 0
  OnFrom h = WasLinked h × ((o : ℕ) → h ≡ InUse o → (p : ℕ) × (w.hand c ≡ InUse p))

  still : OnFrom (w.hand c)
  still = (linked, λ o is. (o, is))

  other : (b : ℕ) (h h2 : Hand) → w.hand b ≡ h → (WasLinked h → ⊥) → OnFrom (with_at w.hand b h2 c)
  other b h h2 is none = at_cases OnFrom w.hand b h2 c (λ e. absurd (none (subst WasLinked (ap w.hand e ∙ is) linked))) (λ ne. still)

  as_hands : (x : World T) → v ≡ x → OnFrom (x.hand c) → OnFrom (v.hand c)
  as_hands x is its = subst (λ (z : World T). OnFrom (z.hand c)) (sym is) its

  new_hand : (i b : ℕ) → value_at w.memory b ≡ None → OnFrom (with_at w.hand b (Making i) c)
  new_hand i b none = at_cases OnFrom w.hand b (Making i) c (λ e. absurd (gone (value_at w.memory c) there (ap (value_at w.memory) e ∙ none))) (λ ne. still)
    where
      there : IsSome (value_at w.memory c)
      there = value_there defers (LAST_SLOT + 1) w.memory r.good.state r.good.extra c r.good.shows (linked_lives (w.hand c) (r.good.state.life c) linked (r.good.hands c))

      gone : (p : Option T) → IsSome p → p ≡ None → ⊥
      gone p some is = (let it : IsSome {T = T} None = subst (λ (q : Option T). IsSome q) is some in cc it)

  makes_on : (i : ℕ) (value : T) (words : ℕ) (out : Out T) (made : Mem T) → Took w.memory (Make value words) out made → OnFrom ((made_by defers w i made out).hand c)
  makes_on i value words (Made (Ok b)) made took = new_hand i b (ap value_in took.0.0.0)
  makes_on i value words (Made (Err back)) made took = still
  makes_on i value words (Found a) made took = still
  makes_on i value words Stored made took = still
  makes_on i value words (Exchanged a) made took = still
  makes_on i value words (TakenOut a) made took = still
  makes_on i value words (Roomed a) made took = still

  event_on : (e : Event T) → IsUsers e → Happens defers size e w v → OnFrom (v.hand c)
  event_on (Begin i request) u h = absurd u
  event_on (Step i) u h = absurd u
  event_on (LeavesOver i b further) u h = absurd u
  event_on (Makes i value words) u h = as_hands (made_by defers w i h.1 h.0) h.4 (makes_on i value words h.0 h.1 h.3)
  event_on (Drops i b) u h = as_hands _ h.4 (other b (Making h.2.0) NoBlock h.2.1 (λ z. z))
  event_on (Links i b o) u h = as_hands _ h.1 (other b (Making h.0.0) (InUse o) h.0.1 (λ z. z))
  event_on (Parts i b) u h = as_hands _ h.1 (at_cases OnFrom w.hand b (Parting i) c (λ e. (tt, λ o is. absurd (cc is))) (λ ne. still))
  event_on (Unlinks i b) u h = as_hands _ h.1 (at_cases OnFrom w.hand b (Cutting i) c (λ e. (tt, λ o is. absurd (cc is))) (λ ne. still))
  event_on (Rewrites i b value) u h = as_hands _ h.5 still
  event_on (Operates op) u h = as_hands _ h.4 still
  event_on (Ends i o) u h = absurd u
  event_on (Relinks i b word) u h = absurd u
  event_on (Clears i b) u h = absurd u
  event_on (Chooses choice) u h = as_hands _ h still

-- none of these begins a row, takes a step of one, or leaves something over with further values
abbrev pub AllStill : {T : Type 0} → List (Event T) → Type 0
AllStill [] = Unit {0}
AllStill (e ∷ events) = IsStill e × AllStill events

user_still : {T : Type 0} (e : Event T) → IsUsers e → IsStill e
user_still (Begin i request) u = absurd u
user_still (Step i) u = absurd u
user_still (LeavesOver i b further) u = absurd u
user_still (Makes i value words) u = tt
user_still (Drops i b) u = tt
user_still (Links i b o) u = tt
user_still (Parts i b) u = tt
user_still (Unlinks i b) u = tt
user_still (Rewrites i b value) u = tt
user_still (Operates op) u = tt
user_still (Ends i o) u = absurd u
user_still (Relinks i b word) u = absurd u
user_still (Clears i b) u = absurd u
user_still (Chooses choice) u = tt

users_still : {T : Type 0} (events : List (Event T)) → AllUsers events → AllStill events
users_still [] users = tt
users_still (e ∷ events) users = (user_still e users.0, users_still events users.1)

module _ {T : Type 0} (defers : T → Option ℕ) (size : ℕ) where
  -- they leave all lists
  pub still_lists : (events : List (Event T)) (w w2 : World T) (r : Reached defers size w) → AllStill events → Runs defers size events w w2
      → (r2 : Reached defers size w2) × ((t : ℕ) → r2.good.state.deferred t ≡ r.good.state.deferred t)
  still_lists [] w w2 r stills runs = subst (λ (v : World T). (r2 : Reached defers size v) × ((t : ℕ) → r2.good.state.deferred t ≡ r.good.state.deferred t)) (sym runs) (r, λ t. refl)
  still_lists (e ∷ events) w w2 r stills runs =
      let g = users_good defers (LAST_SLOT + 1) size refl w runs.0 r.good r.sized e stills.0 runs.1 in
      let later = still_lists events runs.0 w2 (record { good = g.0; sized = happens_sized defers size w runs.0 r.sized e runs.1 }) stills.1 runs.2 in
      (later.0, λ t. later.1 t ∙ g.1.alike.put t)

  -- a block that is in use before and after has the list that it had
  pub still_leave_list : (events : List (Event T)) (w w2 : World T) → Reached defers size w → AllStill events → Runs defers size events w w2 → (c o p : ℕ) → w.hand c ≡ InUse p → w2.hand c ≡ InUse o
      → (blocks : List ℕ) → FurtherAre defers w2.memory c blocks → FurtherAre defers w.memory c blocks
  still_leave_list events w w2 r stills runs c o p was used blocks are =
      let after = still_lists events w w2 r stills runs in
      subst (FurtherAre defers w.memory c) (sym (list_is defers w2 after.0.good c o used blocks are ∙ after.1 c)) (its_list defers w r.good c p was)

  used_before : (events : List (Event T)) (w w2 : World T) → Reached defers size w → AllUsers events → Runs defers size events w w2 → (c o : ℕ) → WasLinked (w.hand c) → w2.hand c ≡ InUse o
      → (p : ℕ) × (w.hand c ≡ InUse p)
  used_before [] w w2 r users runs c o linked used = (o, ap (λ (z : World T). z.hand c) (sym runs) ∙ used)
  used_before (e ∷ events) w w2 r users runs c o linked used =
      let on = event_on defers size w runs.0 r c linked e users.0 runs.1 in
      let later = used_before events runs.0 w2 (happens_reached defers size e w runs.0 r runs.1) users.1 runs.2 c o on.0 used in
      on.1 later.0 later.1

  module _ (events : List (Event T)) (w w2 : World T) (r : Reached defers size w) (users : AllUsers events) (runs : Runs defers size events w w2) (c o : ℕ) (used : w2.hand c ≡ InUse o)
      (blocks : List ℕ) (are : FurtherAre defers w2.memory c blocks) where
    -- a block that was linked has the list that it had,
    pub users_leave_list : WasLinked (w.hand c) → (p : ℕ) × (w.hand c ≡ InUse p) × FurtherAre defers w.memory c blocks
    users_leave_list linked =
        let was = used_before events w w2 r users runs c o linked used in
        (was.0, was.1, still_leave_list events w w2 r (users_still events users) runs c o was.0 was.1 used blocks are)

    -- and one that somebody had made has none
    pub users_make_none : (j : ℕ) → w.hand c ≡ Making j → blocks ≡ []
    users_make_none j made =
        let after = still_lists events w w2 r (users_still events users) runs in
        list_is defers w2 after.0.good c o used blocks are ∙ after.1 c ∙ made_has_none defers size w r.good c j made

-- What a step of a row does.

-- what is in use then was so before
hands_back : (effects : List Effect) (hand : ℕ → Hand) (c o : ℕ) → handed_by effects hand c ≡ InUse o → hand c ≡ InUse o
hands_back [] hand c o is = is
hands_back (Taken b ∷ effects) hand c o is = by (c == b) is (hands_back effects hand c o)
  where
    by : (q : Bool) → (if q then NoBlock else handed_by effects hand c) ≡ InUse o → (handed_by effects hand c ≡ InUse o → hand c ≡ InUse o) → hand c ≡ InUse o
    by true e back = absurd (cc e)
    by false e back = back e
hands_back (_ ∷ effects) hand c o is = hands_back effects hand c o is

module _ (n i : ℕ) (m : State) (inv : Inv n m) (t : ℕ) (linked : m.life t ≡ IsLinked) where
  abbrev IsSame : State → Type 0
  IsSame m2 = m2.deferred t ≡ m.deferred t

  same_as : (m2 m3 : State) → m2 ≡ m3 → m3.deferred t ≡ m.deferred t → IsSame m2
  same_as m2 m3 e same = ap (λ (x : State). x.deferred t) e ∙ same

  drained : (m2 : State) (d : ℕ) (ds : List ℕ) → m.left i ≡ d ∷ ds → m2 ≡ Moves.drained m i d → IsSame m2
  drained m2 d ds left e = by (eqb t d) refl
    where
      by : (q : Bool) → eqb t d ≡ q → IsSame m2
      by true is = absurd (let doomed = ap m.life (eqb-true t d is) ∙ first_doomed n i m d ds inv left in cc (doomed, linked))
      by false is = ap (λ (x : State). x.deferred t) e ∙ ap (λ (q : Bool). cond q [] (m.deferred t)) is

  settles : (c c2 : Settle) (p : Part) (m2 : State) → Told n i c p m c2 m2 → IsSame m2
  settles c c2 p m2 (Stays e q) = same_as m2 _ e refl
  settles c c2 p m2 (Holds e q) = same_as m2 _ e refl
  settles c c2 p m2 (HoldsNone e q r none pending blocks) = same_as m2 _ e refl
  settles c c2 p m2 (Gives e q r) = same_as m2 _ e refl
  settles c c2 p m2 (BeginsTry e q r none pending blocks scanned) = same_as m2 _ e refl
  settles c c2 p m2 (Appends d ds pending e q r none length) = same_as m2 _ e refl
  settles c c2 p m2 (Fills d ds pending e q r none length scanned) = same_as m2 _ e refl
  settles c c2 p m2 (Skips u l seen active e q r) = same_as m2 _ e refl
  settles c c2 p m2 (Passes none e q r) = same_as m2 (passed_rest n m (m.open_batch c.slot)) e refl
  settles c c2 p m2 (Finds u l seen active e q r) = same_as m2 _ e refl
  settles c c2 p m2 (Marks u l seen e q r) = same_as m2 _ e refl
  settles c c2 p m2 (GivesUp u l seen active length e q r none) = same_as m2 _ e refl
  settles c c2 p m2 (Closes seen length some e q r none) = same_as m2 _ e refl
  settles c c2 p m2 (Pushes y u d es rest stage todo head e q r) = same_as m2 _ e refl
  settles c c2 p m2 (Misses y u rest stage todo active e q r) = same_as m2 _ e refl
  settles c c2 p m2 (Sums y stage todo some e q r none) = same_as m2 _ e refl
  settles c c2 p m2 (SumsLast y stage todo last e q r none) = same_as m2 _ e refl
  settles c c2 p m2 (Drains d ds left e q r) = drained m2 d ds left e
  settles c c2 p m2 (DrainsNone d ds left none e q r) = same_as m2 _ e refl
  settles c c2 p m2 (Takes d ds left none e q r) = same_as m2 _ e refl
  settles c c2 p m2 (TakesLast d left none e q r) = same_as m2 _ e refl
  settles c c2 p m2 (Joins left e q r) = same_as m2 _ e refl
  settles c c2 p m2 (Counts entry es loose debt some e q r none pending closing) = same_as m2 _ e refl
  settles c c2 p m2 (CountsLast entry es loose debt last e q r none pending closing) = same_as m2 _ e refl

  off_list : (again : Bool) (s : ℕ) (m2 : State) (es : List Listed) → m2 ≡ list_off again m i s es → IsSame m2
  off_list true s m2 es e = same_as m2 _ e refl
  off_list false s m2 es e = same_as m2 _ e refl

  module _ (row row2 : Row) (uses uses2 : ℕ → Use) (m2 : State) where
    -- the list is as it was, and the row has put nothing there; or it has put its block in front
    abbrev pub ListGoes : Type 0
    ListGoes = (IsSame m2 × ((b : ℕ) → IsPutting b t row → HasPut row2 → ⊥)) ⊎ ((b : ℕ) × IsPutting b t row × HasPut row2 × (m2.deferred t ≡ b ∷ m.deferred t))

    stays : (r : Row) → row ≡ r → ((b : ℕ) → IsPutting b t r → ⊥) → IsSame m2 → ListGoes
    stays r is none same = inl (same, λ b puts over. none b (subst (IsPutting b t) is puts))

    pub row_goes : RowTold n i row m uses row2 m2 uses2 → ListGoes
    row_goes (SettleGoes c c2 r r2 slot told) = stays (Settles c) r (λ b z. z) (settles c c2 (part c) m2 told)
    row_goes (SettleEnds c r r2 stands e) = stays (Settles c) r (λ b z. z) (same_as m2 m e refl)
    row_goes (LeaveSwaps c again es p r r2 stands lt becomes head e behind) = stays (Leaves c) r (λ b z. z) (off_list again c.slot m2 es e)
    row_goes (LeaveGoes c settle settle2 r r2 stands slot told) = stays (Leaves c) r (λ b z. z) (settles settle settle2 (part settle) m2 told)
    row_goes (LeaveSettled c settle r stands over settled e) = stays (Leaves c) r (λ b z. z) (same_as m2 m e refl)
    row_goes (LeaveEnds c r settled settled2 u) = stays (Leaves c) r (λ b z. z) (u.alike.put t)
    row_goes (RegisterLooks c c2 r r2 looks looks2 enters same_uses e) = stays (Registers c) r (λ b z. z) (same_as m2 m e refl)
    row_goes (RegisterRefused c r r2 looks same_uses e) = stays (Registers c) r (λ b z. z) (same_as m2 m e refl)
    row_goes (RegisterTakes c r looks vacant takes u) = stays (Registers c) r (λ b z. z) (u.alike.put t)
    row_goes (RegisterEnters c r r2 stands lt head e uses_are) = stays (Registers c) r (λ b z. z) (same_as m2 _ e refl)
    row_goes (EntersSlot c r r2 lt head e) = stays (Enters c) r (λ b z. z) (same_as m2 _ e refl)
    row_goes (FreesSlot c r r2 u) = stays (Frees c) r (λ b z. z) (u.alike.put t)
    row_goes (DeferGoes s c p r r2 on on2 e) = inl (same_as m2 m e refl, λ b puts over. subst IsOnWay (subst HasPut r2 over) on2)
    row_goes (DeferPushes s d u field c r r2 on block names e) = by (eqb t u) refl
      where
        by : (q : Bool) → eqb t u ≡ q → ListGoes
        by true is =
            let one : t ≡ u = eqb-true t u is in
            inr (
              d,
              subst (IsPutting d t) (sym r) (not_over c.stands on, block, subst (IsWordOf t) (sym names) one),
              subst HasPut (sym r2) refl,
              ap (λ (x : State). x.deferred t) e ∙ ap (λ (q : Bool). cond q (d ∷ m.deferred u) (m.deferred t)) is ∙ ap (λ (k : ℕ). d ∷ m.deferred k) (sym one),
            )
        by false is =
            inl (
              ap (λ (x : State). x.deferred t) e ∙ ap (λ (q : Bool). cond q (d ∷ m.deferred u) (m.deferred t)) is,
              λ b puts over.
                  (let its : t ≡ u = subst (IsWordOf t) names (subst (IsPutting b t) r puts).2 in
                  let yes = eq-eqb t u its in cc (yes, is)),
            )
    row_goes (DeferEnds s c r r2 over u) = inl (u.alike.put t, λ b puts put. (subst (IsPutting b t) r puts).0 over)

module _ {T : Type 0} (defers : T → Option ℕ) (size i : ℕ) (w w2 : World T) (r : Reached defers size w) (step : Steps' defers i (w.row i) w w2) (c o : ℕ) (used : w2.hand c ≡ InUse o)
    (blocks : List ℕ) (are : FurtherAre defers w2.memory c blocks) where
  next : Next defers (LAST_SLOT + 1) size w r.good.state i w2
  next = steps_next defers (LAST_SLOT + 1) size refl w w2 r.good r.sized i (w.row i) refl step

  pub used_then : w.hand c ≡ InUse o
  used_then =
      let did : RowStepped defers i w w2 = row_stepped defers w r.good i w2 step in
      hands_back did.effects w.hand c o (ap (λ (h : ℕ → Hand). h c) (sym did.hands) ∙ used)

  -- its list is the one that it had, and the row has put nothing there; or the row has put its block in front of that
  pub step_goes : (FurtherAre defers w.memory c blocks × ((b : ℕ) → IsPutting b c (w.row i) → HasPut (w2.row i) → ⊥))
      ⊎ ((b : ℕ) × (rest : List ℕ) × IsPutting b c (w.row i) × HasPut (w2.row i) × (blocks ≡ b ∷ rest) × FurtherAre defers w.memory c rest)
  step_goes =
      elim (row_goes (LAST_SLOT + 1) i r.good.state r.good.inv c (in_life defers w r.good c o used_then) (w.row i) (w2.row i) w.uses w2.uses next.good.state next.told)
      as (λ _. (FurtherAre defers w.memory c blocks × ((b : ℕ) → IsPutting b c (w.row i) → HasPut (w2.row i) → ⊥))
      ⊎ ((b : ℕ) × (rest : List ℕ) × IsPutting b c (w.row i) × HasPut (w2.row i) × (blocks ≡ b ∷ rest) × FurtherAre defers w.memory c rest)) [
        | inl same ↦ inl (subst (FurtherAre defers w.memory c) (sym (its ∙ same.0)) was, same.1)
        | inr put ↦ inr (put.0, r.good.state.deferred c, put.1, put.2, its ∙ put.3, was)
      ]
    where
      its : blocks ≡ next.good.state.deferred c
      its = list_is defers w2 next.good c o used blocks are

      was : FurtherAre defers w.memory c (r.good.state.deferred c)
      was = its_list defers w r.good c o used_then
