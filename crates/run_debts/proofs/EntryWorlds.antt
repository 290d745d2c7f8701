-- What happens in a world leaves entries blank: of what somebody has, and of the one block that a row is to retire.
use Rattle.std.specs.Prelude.{◌≡◌, ◌≢◌, ℕ, ◌+◌, ◌<◌, Bool, true, false, eqb, Option, length, List, [], ◌∷◌}
use Rattle.std.proofs.Common.{eqb-true, refl, ap, sym, subst, ◌∙◌, arith, inl, inr}
use Rattle.run_places.specs.Given.SeizeWordsMem.{Mem, Can, Took, value_at}
use Rattle.run_places.specs.Given.SeizeWordsPlan.{May, Steps}
use Rattle.run_places.specs.Given.SeizeWordsWord.{block_in, link_to}
use Rattle.run_places.specs.Given.SeizeWordsDeclared.at.At.TheVariants.{Entry}
use Rattle.run_places.specs.Given.SeizeDeclared.advance.Advance.{Advance}
use Rattle.run_places.specs.Given.SeizeDeclared.advance.Advance.TheVariants as progress
use Rattle.run_places.specs.Given.SeizeDeclared.rows.defer.Defer.{Defer}
use Rattle.run_places.specs.Given.SeizeDeclared.rows.register.Register.{Register}
use Rattle.run_places.specs.Given.SeizeDeclared.rows.settle.Settle.{Settle}
use Rattle.run_places.specs.Given.SeizeDeclared.rows.settle.Settled.{Settled}
use Rattle.run_places.specs.Given.SeizeDeclared.rows.settle.Settled.TheVariants as settled
use Rattle.run_places.specs.Given.SeizeDeclared.rows.settle.Settling.{Settling}
use Rattle.run_places.specs.Given.SeizeDeclared.rows.settle.Settling.TheVariants as at
use Rattle.run_places.specs.Given.SeizeDeclared.states.TheConstants.{NEXT, FIRST, LAST_SLOT}
use Rattle.run_places.specs.Given.SeizeLaw.{Effect, Taken}
use Rattle.run_places.specs.Given.SeizeSequence.{IsBetween}
use Rattle.run_places.specs.Given.SeizeSettle.{settle_plan, plan_at}
use Rattle.run_places.specs.Given.SeizeWorld.{World, Hand, NoBlock, Making, InUse, Parting, Cutting, Handed, LeftTo, Row, Rests, Registers, Enters, Settles, Leaves, Defers, Frees, Request, Register', Enter', Leave', LeaveOwned, Refresh, Unregister', Retire, Flush, Defer', Event, Happens, Begins, Steps', handed_by, with_at, settles_on, registers_on, defers_on}
use Rattle.owner_facts.proofs.Given.SeizeMovesMoves.Tries.{first_pending}
use Rattle.owner_facts.proofs.Given.SeizeMovesState.Ghost.{Life, IsPending, State}
use Rattle.owner_facts.proofs.Given.SeizeRulePoints.Aside.{HandFits}
use Rattle.owner_facts.proofs.Given.SeizeRulePoints.Known.{FitsAt, Rest, FirstsOf, bare}
use Rattle.owner_facts.proofs.Given.SeizeRuleRows.Known.{FitsRow}
use Rattle.owner_facts.proofs.Given.SeizeRuleRows.Others.{begins_others, steps_others}
use Rattle.owner_facts.proofs.Given.SeizeMemoryWords.Chains.{Chain, waiting}
use Rattle.owner_facts.proofs.Given.SeizeMemoryWords.Named.{link, link-block, word_found}
use Rattle.owner_facts.proofs.Given.SeizeMemoryWords.Shows.{lives}
use Rattle.owner_facts.proofs.Given.SeizeMemoryWords.There.{live_pos}
use Rattle.owner_facts.proofs.Given.SeizeMemoryWords.View.{view}
use Rattle.owner_facts.proofs.Given.SeizeRuleWorld.Kept.{row_may}
use Rattle.owner_facts.proofs.Given.SeizeAloneHistories.NotTaken.{did}
use Rattle.owner_facts.proofs.Given.SeizeAloneHistories.Reached.{Reached}
use Rattle.run_places.proofs.Given.RuleWorld.Hands.{at_cases}
use Rattle.run_places.specs.Hands.Rows.{SettlesAside, ReclaimsNone}
use Rattle.run_debts.specs.Entries.{IsSomebodys, OneAt, RetiresOne}
use Rattle.run_debts.proofs.EntryOps.{IsPlanApart, plan_zero}
use Rattle.run_debts.proofs.EntryRows.{IsSpared, row_keeps_zero}
use Rattle.run_debts.proofs.EntrySettles.{goes_one}
use Rattle.run_debts.proofs.EntryUsers.{IsNotLeft, IsZero, AllZero, theirs_with, event_zero, event_rows}
use Rattle.owner_facts.proofs.Given.SeizeRulePoints.Retire.{of_link as named}

-- no row touches what somebody has
spared_life : (i : ℕ) (h : Hand) (l : Life) → IsSomebodys h → HandFits h l → IsSpared i l
spared_life i (Making k) l its fits = subst (IsSpared i) (sym fits) tt
spared_life i (InUse o) l its fits = subst (IsSpared i) (sym fits) tt
spared_life i (Parting k) l its fits = subst (IsSpared i) (sym fits) tt
spared_life i (Cutting k) l its fits = subst (IsSpared i) (sym fits) tt
spared_life i NoBlock l its fits = absurd its
spared_life i Handed l its fits = absurd its
spared_life i (LeftTo k) l its fits = absurd its

pending_not_left : (h : Hand) (l : Life) (j : ℕ) → l ≡ IsPending j → HandFits h l → IsNotLeft h
pending_not_left (LeftTo k) l j is fits = absurd (cc (is, fits))
pending_not_left _ l j is fits = tt

-- what is reclaimed is nobody's
handed_back : (effects : List Effect) (hand : ℕ → Hand) (x : ℕ) → IsSomebodys (handed_by effects hand x) → IsSomebodys (hand x)
handed_back [] hand x its = its
handed_back (Taken b ∷ effects) hand x its = handed_back effects hand x (theirs_with (handed_by effects hand) b x NoBlock (λ t. absurd t) its)
handed_back (_ ∷ effects) hand x its = handed_back effects hand x its

module _ {T : Type 0} (defers : T → Option ℕ) {size : ℕ} (w : World T) (r : Reached defers size w) where
  abbrev n : ℕ
  n = LAST_SLOT + 1

  abbrev m : State
  m = r.good.state

  fits_row : (j : ℕ) (c : Settle) → w.row j ≡ Settles c → FitsAt n j (view defers w.memory) m r.good.extra (bare c) c.stands
  fits_row j c is = subst (λ (q : Row). FitsRow n j (view defers w.memory) m r.good.extra (length w.memory.slots) q) is (r.good.rows j)

  -- the block that a row is to retire is pending with it
  pending_life : (j : ℕ) (c : Settle) → Rest n j m r.good.extra (bare c) → c.pending ≢ 0 → m.life (block_in c.pending) ≡ IsPending j
  pending_life j c rest some = by (m.pending j) refl
    where
      chain : (l : List ℕ) → m.pending j ≡ l → Chain 0 (view defers w.memory).nexts (r.good.extra.pends j) l
      chain l is =
          subst (λ (k : List ℕ). Chain 0 (view defers w.memory).nexts (r.good.extra.pends j) k) is
          (subst (λ (t : Bool). Chain 0 (view defers w.memory).nexts (r.good.extra.pends j) (waiting t (m.pending j))) rest.popped (r.good.shows.lists.pended j))

      by : (l : List ℕ) → m.pending j ≡ l → m.life (block_in c.pending) ≡ IsPending j
      by [] is = absurd (some (sym rest.common.pends ∙ chain [] is))
      by (b ∷ bs) is =
          let word : c.pending ≡ link b = sym rest.common.pends ∙ (chain (b ∷ bs) is).1 in
          ap m.life (named c.pending b word) ∙ first_pending n j m b bs r.good.inv is

  -- so it has one block still, where those that are pending with it stay as blank
  module _ (j : ℕ) (Blank : ℕ → Type 0) (keeps : (x : ℕ) → m.life x ≡ IsPending j → IsZero w.memory x → Blank x) where
    firsts_life : (c : Settle) (block : ℕ) (t : Bool) → eqb block 0 ≡ t → FirstsOf t n j m r.good.extra (bare c) block → block ≢ 0 → m.life (block_in block) ≡ IsPending j
    firsts_life c block true e fits some = absurd (some (eqb-true block 0 e))
    firsts_life c block false e fits some = ap m.life (named block fits.b fits.putting.block_is) ∙ first_pending n j m fits.b fits.bs r.good.inv fits.putting.pending

    settles_kept : (c : Settle) (p : Settling) → FitsAt n j (view defers w.memory) m r.good.extra (bare c) p → OneAt (IsZero w.memory) c p → OneAt Blank c p
    settles_kept c at.Sees fits one = (one.0, keeps (block_in c.pending) (pending_life j c fits.retiring.rest one.0) one.1)
    settles_kept c at.Holds fits one = (one.0, keeps (block_in c.pending) (pending_life j c fits.retiring.rest one.0) one.1)
    settles_kept c at.Pops fits one = (one.0, keeps (block_in c.pending) (pending_life j c fits.retiring.rest one.0) one.1)
    settles_kept c (at.Firsts block) fits one = (one.0, one.1, keeps (block_in block) (firsts_life c block (eqb block 0) refl fits one.1) one.2)
    settles_kept c (at.Batches block) fits one =
        (one.0, keeps (block_in block) (ap m.life (named block fits.b fits.putting.block_is) ∙ first_pending n j m fits.b fits.bs r.good.inv fits.putting.pending) one.1)
    settles_kept c _ fits one = one

    pub row_kept : (row : Row) → w.row j ≡ row → RetiresOne (IsZero w.memory) row → RetiresOne Blank row
    row_kept (Settles c) is one = settles_kept c c.stands (fits_row j c is) one
    row_kept _ is one = tt

  abbrev pub OneOf : World T → ℕ → Type 0
  OneOf v j = RetiresOne (IsZero v.memory) (v.row j)

  -- a row that is as it was
  as_before : (j : ℕ) (v : World T) → v.row j ≡ w.row j → ((x : ℕ) → m.life x ≡ IsPending j → IsZero w.memory x → IsZero v.memory x) → OneOf w j → OneOf v j
  as_before j v same keeps one = subst (RetiresOne (IsZero v.memory)) (sym same) (row_kept j (IsZero v.memory) keeps (w.row j) refl one)

  -- what happens between the steps of rows
  pub event_one : (v : World T) (e : Event T) → IsBetween e → Happens defers size e w v → (j : ℕ) → OneOf w j → OneOf v j
  event_one v e u h j one = as_before j v (ap (λ (f : ℕ → Row). f j) (event_rows defers size w v e u h)) keeps one
    where
      keeps : (x : ℕ) → m.life x ≡ IsPending j → IsZero w.memory x → IsZero v.memory x
      keeps x pending zero =
          let left = pending_not_left (w.hand x) (m.life x) j pending (r.good.hands x) in
          (event_zero defers x NEXT w v r e u left h zero.0, event_zero defers x FIRST w v r e u left h zero.1)

  -- a step of a row
  module _ (i : ℕ) (v : World T) (step : Steps' defers i (w.row i) w v) where
    spared_zero : (x : ℕ) → IsSpared i (m.life x) → IsZero w.memory x → IsZero v.memory x
    spared_zero x spared zero =
        (row_keeps_zero defers w r i x NEXT (inl refl) spared v zero.0 step, row_keeps_zero defers w r i x FIRST (inr refl) spared v zero.1 step)

    pub step_zeros : AllZero w → AllZero v
    step_zeros zeros x its =
        let d = did defers size w r i v step in
        let was = handed_back d.effects w.hand x (subst (λ (f : ℕ → Hand). IsSomebodys (f x)) d.hands its) in
        spared_zero x (spared_life i (w.hand x) (m.life x) was (r.good.hands x)) (zeros x was)

    pub step_one : (j : ℕ) → (j ≡ i → ⊥) → OneOf w j → OneOf v j
    step_one j ne one =
        as_before j v (steps_others defers size w v i j ne (w.row i) step) (λ x pending zero. spared_zero x (subst (IsSpared i) (sym pending) ne) zero) one

  -- a row that begins
  module _ (i : ℕ) (v : World T) where
    abbrev Alike : World T → Type 0
    Alike y = (y.memory ≡ w.memory) × ((x : ℕ) → IsSomebodys (y.hand x) → IsSomebodys (w.hand x))

    begun_alike : (request : Request) → Begins defers size i request w v → Alike v
    begun_alike (Register' enters) k = subst Alike (sym k) (refl, λ x its. its)
    begun_alike (Enter' s) k = subst Alike (sym k.1) (refl, λ x its. its)
    begun_alike (Leave' s) k = subst Alike (sym k.1) (refl, λ x its. its)
    begun_alike (LeaveOwned s) k = subst Alike (sym k.1) (refl, λ x its. its)
    begun_alike (Refresh s) k = subst Alike (sym k.1) (refl, λ x its. its)
    begun_alike (Unregister' s) k = subst Alike (sym k.1) (refl, λ x its. its)
    begun_alike (Retire s b) k = subst Alike (sym k.2) (refl, λ x its. theirs_with w.hand b x Handed (λ t. absurd t) its)
    begun_alike (Flush s) k = subst Alike (sym k.1) (refl, λ x its. its)
    begun_alike (Defer' s b t) k = subst Alike (sym k.7) (refl, λ x its. theirs_with w.hand b x Handed (λ q. absurd q) its)

    pub begin_zeros : (request : Request) → Begins defers size i request w v → AllZero w → AllZero v
    begin_zeros request k zeros x its = let alike = begun_alike request k in subst (λ (q : Mem T). IsZero q x) (sym alike.0) (zeros x (alike.1 x its))

    pub begin_one : (request : Request) → Begins defers size i request w v → (j : ℕ) → (j ≡ i → ⊥) → OneOf w j → OneOf v j
    begin_one request k j ne one =
        as_before j v (begins_others defers size w v i j ne request k) (λ x pending zero. subst (λ (q : Mem T). IsZero q x) (sym (begun_alike request k).0) zero) one

    -- it retires one block, or puts one behind another
    abbrev pub HandsOne : Request → Type 0
    HandsOne (Retire s b) = Unit {0}
    HandsOne (Defer' s b t) = Unit {0}
    HandsOne _ = ⊥

    abbrev BeginsSo : World T → Type 0
    BeginsSo y = ReclaimsNone (y.row i) × OneOf y i

    pub begin_own : (request : Request) → HandsOne request → AllZero w → Begins defers size i request w v → BeginsSo v
    begin_own (Retire s b) hands zeros k =
        subst BeginsSo (sym k.2) (
          at_cases ReclaimsNone w.row i _ i (λ e. (refl, refl, refl, tt)) (λ ne. absurd (ne refl)),
          at_cases (RetiresOne (IsZero w.memory)) w.row i _ i (λ e. (some, subst (IsZero w.memory) (sym (link-block b)) zero)) (λ ne. absurd (ne refl)),
        )
      where
        its : IsSomebodys (w.hand b)
        its = subst IsSomebodys (sym k.1.1) tt

        zero : IsZero w.memory b
        zero = zeros b its

        there : 0 < b
        there = live_pos w.memory b (r.good.shows.lists.lived b ∙ ap lives (subst (λ (h : Hand). HandFits h (m.life b)) k.1.1 (r.good.hands b)))

        some : link_to b ≢ 0
        some e = absurd (omega (arith, e, there))
    begin_own (Defer' s b t) hands zeros k =
        subst BeginsSo (sym k.7) (
          at_cases ReclaimsNone w.row i _ i (λ e. tt) (λ ne. absurd (ne refl)),
          at_cases (RetiresOne (IsZero w.memory)) w.row i _ i (λ e. tt) (λ ne. absurd (ne refl)),
        )
    begin_own (Register' enters) hands zeros k = absurd hands
    begin_own (Enter' s) hands zeros k = absurd hands
    begin_own (Leave' s) hands zeros k = absurd hands
    begin_own (LeaveOwned s) hands zeros k = absurd hands
    begin_own (Refresh s) hands zeros k = absurd hands
    begin_own (Unregister' s) hands zeros k = absurd hands
    begin_own (Flush s) hands zeros k = absurd hands

  -- a row within a call goes on
  module _ (i : ℕ) (c : Settle) (is : w.row i ≡ Settles c) (aside : SettlesAside c) (m2 : Mem T) (end : Settle × Settled T) (st : Steps Took value_at w.memory (settle_plan defers c) m2 end) where
    may : May Can Took value_at w.memory (settle_plan defers c)
    may = row_may defers n size refl w r.good i (Settles c) is

    abbrev Ends : Type 0
    Ends = OneAt (IsZero m2) end.0 end.0.stands

    -- where it writes none of the two words
    same_zero : (p : Settling) → c.stands ≡ p → ((x f : ℕ) → IsPlanApart x f (plan_at defers c p)) → (x : ℕ) → IsZero w.memory x → IsZero m2 x
    same_zero p stands apart x zero = (
      plan_zero x NEXT w.memory (settle_plan defers c) m2 end (subst (λ (q : Settling). IsPlanApart x NEXT (plan_at defers c q)) (sym stands) (apart x NEXT)) may st zero.0,
      plan_zero x FIRST w.memory (settle_plan defers c) m2 end (subst (λ (q : Settling). IsPlanApart x FIRST (plan_at defers c q)) (sym stands) (apart x FIRST)) may st zero.1,
    )

    goes : OneAt (IsZero w.memory) c c.stands → (p : Settling) → c.stands ≡ p → OneAt (IsZero m2) c p → Ends
    goes one p stands then_one =
        goes_one (IsZero m2) w.memory c aside (subst (OneAt (IsZero m2) c) (sym stands) then_one) defers m2 end
        (λ pops word found. sym (word_found w.memory (Entry (block_in c.pending) NEXT) word found) ∙ (subst (OneAt (IsZero w.memory) c) pops one).1.0) st

    pub settles_one : OneAt (IsZero w.memory) c c.stands → Ends
    settles_one one = by c.stands refl one
      where
        by : (p : Settling) → c.stands ≡ p → OneAt (IsZero w.memory) c p → Ends
        by at.Sees stands k = goes one at.Sees stands (k.0, same_zero at.Sees stands (λ x f. tt) (block_in c.pending) k.1)
        by at.Holds stands k = goes one at.Holds stands (k.0, same_zero at.Holds stands (λ x f. tt) (block_in c.pending) k.1)
        by at.Pops stands k = goes one at.Pops stands (k.0, same_zero at.Pops stands (λ x f. tt) (block_in c.pending) k.1)
        by (at.Firsts block) stands k = goes one (at.Firsts block) stands (k.0, k.1, same_zero (at.Firsts block) stands (λ x f. tt) (block_in block) k.2)
        by (at.Batches block) stands k =
            let told = subst (λ (q : Settling). Steps Took value_at w.memory (plan_at defers c q) m2 end) stands st in
            subst (λ (q : Settle × Settled T). OneAt (IsZero m2) q.0 q.0.stands) (sym told.2) k.0
        by p stands k = goes one p stands k

  pub own_one : (i : ℕ) (v : World T) → ReclaimsNone (w.row i) → OneOf w i → Steps' defers i (w.row i) w v → OneOf v i
  own_one i v none one step = by (w.row i) refl none one step
    where
      Goal : World T → Type 0
      Goal y = OneOf y i

      row_at : (mem : Mem T) (row : Row) → RetiresOne (IsZero mem) row → RetiresOne (IsZero mem) ((λ (j : ℕ). with_at w.row i row j) i)
      row_at mem row so = at_cases (RetiresOne (IsZero mem)) w.row i row i (λ e. so) (λ ne. absurd (ne refl))

      registered : (c : Register) (mem : Mem T) (d : Register) (p : Advance ℕ) → OneOf (registers_on w i c mem (d, p)) i
      registered c mem d progress.Goes = row_at mem (Registers d) tt
      registered c mem d progress.Waits = row_at mem (Registers d) tt
      registered c mem d (progress.Done s) = row_at mem Rests tt
      registered c mem d (progress.Refused fault) = row_at mem Rests tt

      settles : (c : Settle) (mem : Mem T) (d : Settle) (p : Settled T) → OneAt (IsZero mem) d d.stands → OneOf (settles_on w i c mem (d, p)) i
      settles c mem d settled.Goes so = row_at mem (Settles d) so
      settles c mem d settled.Waits so = row_at mem (Settles d) so
      settles c mem d (settled.Gave value) so = row_at mem (Settles d) so
      settles c mem d settled.Done so = row_at mem Rests tt

      deferred : (s : ℕ) (mem : Mem T) (d : Defer) (p : Advance Unit) → OneOf (defers_on w i s mem (d, p)) i
      deferred s mem d progress.Goes = row_at mem (Defers s d) tt
      deferred s mem d progress.Waits = row_at mem (Defers s d) tt
      deferred s mem d (progress.Done x) = row_at mem Rests tt
      deferred s mem d (progress.Refused fault) = row_at mem (Defers s d) tt

      by : (row : Row) → w.row i ≡ row → ReclaimsNone row → RetiresOne (IsZero w.memory) row → Steps' defers i row w v → Goal v
      by Rests is none k h = absurd h
      by (Registers c) is none k h = subst Goal (sym h.3) (registered c h.0 h.1.0 h.1.1)
      by (Enters c) is none k h = subst Goal (sym h.3) (row_at h.0 Rests tt)
      by (Settles c) is none k h = subst Goal (sym h.3) (settles c h.0 h.1.0 h.1.1 (settles_one i c is none h.0 h.1 h.2 k))
      by (Leaves c) is none k h = absurd none
      by (Defers s c) is none k h = subst Goal (sym h.3) (deferred s h.0 h.1.0 h.1.1)
      by (Frees c) is none k h = subst Goal (sym h.3) (row_at h.0 Rests tt)
