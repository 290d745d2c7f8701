-- A block that a row is to retire is pending with it in the state of the collector: so it was not retired. A row begins to retire a block so, and it is not over
-- while it has it.
use Rattle.std.specs.Prelude.{Option, Some, None, ◌==◌, if◌then◌else◌}
use Rattle.std.proofs.Common.{◌≡◌, ℕ, ◌+◌, ◌<◌, Bool, true, false, eqb, List, [], ◌∷◌, refl, ap, sym, subst, ◌∙◌, arith, eqb-true}
use Rattle.std.proofs.lemmas.Bool.{eq-eqb}
use Rattle.run_debts.specs.Given.SeizeWordsMem.{Mem, value_at}
use Rattle.run_debts.specs.Given.SeizeWordsOp.{Found, Stored, Exchanged, Made, Taken, Roomed}
use Rattle.run_debts.specs.Given.SeizeWordsPlan.{Ends, Now}
use Rattle.run_debts.specs.Given.SeizeWordsWord.{block_in, link_to}
use Rattle.run_debts.specs.Given.SeizeSettle as plans
use Rattle.run_debts.specs.Given.SeizeLaw.{Effect, Taken as TakenBlock}
use Rattle.run_debts.specs.Given.SeizeDeclared.rows.settle.Settle.{Settle}
use Rattle.run_debts.specs.Given.SeizeDeclared.rows.settle.Settled.{Settled}
use Rattle.run_debts.specs.Given.SeizeDeclared.rows.settle.Settled.TheVariants as settled
use Rattle.run_debts.specs.Given.SeizeDeclared.rows.settle.Settling.{Settling}
use Rattle.run_debts.specs.Given.SeizeDeclared.rows.settle.Settling.TheVariants as at
use Rattle.run_debts.specs.Given.SeizeDeclared.states.TheConstants.{HELD, LAST_SLOT}
use Rattle.run_debts.specs.Given.SeizeWorld.{World, Row, Rests, Registers, Enters, Settles, Leaves, Defers, Frees, Hand, NoBlock, Making, InUse, Parting, Cutting, Handed, LeftTo, Request, Register', Enter', Leave', LeaveOwned, Refresh, Unregister', Retire, Flush, Defer', Begins, Steps', settles_on, handed_by, with_at}
use Rattle.run_debts.proofs.Given.SeizeMovesMoves.Tries.{first_pending}
use Rattle.run_debts.proofs.Given.SeizeMovesState.Ghost.{Life, IsPending, State, is_given}
use Rattle.run_debts.proofs.Given.SeizeMovesState.Rule.{Inv}
use Rattle.run_debts.proofs.Given.SeizeRulePoints.Aside.{HandFits}
use Rattle.run_debts.proofs.Given.SeizeRulePoints.Known.{FitsAt, FirstsOf, bare}
use Rattle.run_debts.proofs.Given.SeizeRuleRows.Known.{FitsRow}
use Rattle.run_debts.proofs.Given.SeizeRuleRows.Told.{RowTold, SettleGoes, SettleEnds, LeaveSwaps, LeaveGoes, LeaveSettled, LeaveEnds, RegisterLooks, RegisterRefused, RegisterTakes, RegisterEnters, EntersSlot, FreesSlot, DeferGoes, DeferPushes, DeferEnds}
use Rattle.run_debts.proofs.Given.SeizeMemoryWords.Chains.{Chain, waiting}
use Rattle.run_debts.proofs.Given.SeizeMemoryWords.Named.{link, link-block}
use Rattle.run_debts.proofs.Given.SeizeMemoryWords.Shows.{Extra, Shows}
use Rattle.run_debts.proofs.Given.SeizeMemoryWords.View.{View}
use Rattle.run_debts.proofs.Given.SeizeRuleWorld.Kept.{steps_next}
use Rattle.run_debts.proofs.Given.SeizeAloneHistories.Reached.{Reached}
use Rattle.run_debts.specs.Due.{due_in_settle}
use Rattle.run_waiting.specs.Lives.Retired.{IsPendingRetirement, IsToRetire}

module _ (n i : ℕ) (f : View) (m : State) (x : Extra) (inv : Inv n m) (shows : Shows n f m x) (b : ℕ) (some : 0 < b) where
  -- the first of those that are pending
  first_life : (word : ℕ) → block_in word ≡ b → x.pends i ≡ word → x.popped i ≡ false → m.life b ≡ IsPending i
  first_life word is pends popped = by (m.pending i) refl chain
    where
      chain : Chain 0 f.nexts word (m.pending i)
      chain = subst (λ (k : ℕ). Chain 0 f.nexts k (m.pending i)) pends (subst (λ (q : Bool). Chain 0 f.nexts (x.pends i) (waiting q (m.pending i))) popped (shows.lists.pended i))

      by : (l : List ℕ) → m.pending i ≡ l → Chain 0 f.nexts word l → m.life b ≡ IsPending i
      by [] e none = absurd (let zero : b ≡ 0 = sym is ∙ ap block_in none in omega (arith, zero, some))
      by (c ∷ cs) e h = ap m.life (sym is ∙ ap block_in h.1 ∙ link-block c) ∙ first_pending n i m c cs inv e

  -- the one that is on its way into a batch
  popped_life : (block c : ℕ) (cs : List ℕ) → block_in block ≡ b → block ≡ link c → m.pending i ≡ c ∷ cs → m.life b ≡ IsPending i
  popped_life block c cs is names pending = ap m.life (sym is ∙ ap block_in names ∙ link-block c) ∙ first_pending n i m c cs inv pending

  due_life : (c : Settle) (p : Settling) → FitsAt n i f m x (bare c) p → IsPendingRetirement b (due_in_settle c p) → m.life b ≡ IsPending i
  due_life c at.Sees fits due = first_life c.pending due fits.retiring.rest.common.pends fits.retiring.rest.popped
  due_life c at.Holds fits due = first_life c.pending due fits.retiring.rest.common.pends fits.retiring.rest.popped
  due_life c at.Pops fits due = first_life c.pending due fits.retiring.rest.common.pends fits.retiring.rest.popped
  due_life c (at.Firsts block) fits due = by (eqb block 0) (eqb-true block 0) fits
    where
      by : (q : Bool) → (q ≡ true → block ≡ 0) → FirstsOf q n i m x (bare c) block → m.life b ≡ IsPending i
      by true e its = absurd (let zero : b ≡ 0 = sym due ∙ ap block_in (e refl) in omega (arith, zero, some))
      by false e its = popped_life block its.b its.bs due its.putting.block_is its.putting.pending
  due_life c (at.Batches block) fits due = popped_life block fits.b fits.bs due fits.putting.block_is fits.putting.pending
  due_life c _ fits due = absurd due

  pub row_life : (k : ℕ) (row : Row) → FitsRow n i f m x k row → IsToRetire b row → m.life b ≡ IsPending i
  row_life k (Settles c) fits due = due_life c c.stands fits due
  row_life k Rests fits due = absurd due
  row_life k (Registers c) fits due = absurd due
  row_life k (Enters c) fits due = absurd due
  row_life k (Leaves c) fits due = absurd due
  row_life k (Defers s c) fits due = absurd due
  row_life k (Frees c) fits due = absurd due

-- what was retired the collector has
pub given_hand : (h : Hand) (l : Life) → is_given l ≡ true → HandFits h l → h ≡ Handed
given_hand NoBlock l given fits = absurd (let none = ap is_given fits in cc (given, none))
given_hand (Making i) l given fits = absurd (let none = ap is_given fits in cc (given, none))
given_hand (InUse o) l given fits = absurd (let none = ap is_given fits in cc (given, none))
given_hand (Parting i) l given fits = absurd (let none = ap is_given fits in cc (given, none))
given_hand (Cutting i) l given fits = absurd (let none = ap is_given fits in cc (given, none))
given_hand Handed l given fits = refl
given_hand (LeftTo i) l given fits = absurd (let none = ap is_given fits in cc (given, none))

-- a step of a row hands nothing over
pub handed_before : (effects : List Effect) (hand : ℕ → Hand) (b : ℕ) → handed_by effects hand b ≡ Handed → hand b ≡ Handed
handed_before [] hand b is = is
handed_before (TakenBlock c ∷ effects) hand b is = by (b == c) is (handed_before effects hand b)
  where
    by : (q : Bool) → (if q then NoBlock else handed_by effects hand b) ≡ Handed → (handed_by effects hand b ≡ Handed → hand b ≡ Handed) → hand b ≡ Handed
    by true e rest = absurd (cc e)
    by false e rest = rest e
handed_before (_ ∷ effects) hand b is = handed_before effects hand b is

module _ {T : Type 0} (defers : T → Option ℕ) (size i : ℕ) (w v w2 : World T) where
  here : {X : Type 0} (f : ℕ → X) (x : X) → with_at f i x i ≡ x
  here f x = ap (λ (q : Bool). if q then x else f i) (eq-eqb i i refl)

  -- a row begins to retire a block, and takes its first step
  pub begun_due : (s b : ℕ) → Begins defers size i (Retire s b) w v → Steps' defers i (v.row i) v w2 → IsToRetire b (w2.row i)
  begun_due s b h steps = by (subst (λ (r : Row). Steps' defers i r v w2) row steps)
    where
      c : Settle
      c = plans.retiring s size (link_to b)

      row : v.row i ≡ Settles c
      row = ap (λ (z : World T). z.row i) h.2 ∙ here w.row (Settles c)

      DueIn : Settle × Settled T → Type 0
      DueIn e = IsToRetire b ((settles_on v i c v.memory e).row i)

      goes_on : (e : Settle) → IsPendingRetirement b (due_in_settle e e.stands) → IsToRetire b (with_at v.row i (Settles e) i)
      goes_on e due = subst (IsToRetire b) (sym (here v.row (Settles e))) due

      after : (word : ℕ) (q : Bool) (m2 : Mem T) (end : Settle × Settled T) → Ends (value_at m2) (if q then Now (c, settled.Waits) else plans.to (record c { last = word; stands = at.Holds })) end
          → IsToRetire b ((settles_on v i c m2 end).row i)
      after word true m2 end e = subst (λ (x : Settle × Settled T). IsToRetire b ((settles_on v i c m2 x).row i)) (sym e) (goes_on c (link-block b))
      after word false m2 end e =
          subst (λ (x : Settle × Settled T). IsToRetire b ((settles_on v i c m2 x).row i)) (sym e) (goes_on (record c { last = word; stands = at.Holds }) (link-block b))

      by : Steps' defers i (Settles c) v w2 → IsToRetire b (w2.row i)
      by (m2, end, (Found word, took, ends), is) = subst (λ (z : World T). IsToRetire b (z.row i)) (sym is) (after word (word == HELD) m2 end ends)
      by (m2, end, (Stored, took, ends), is) = absurd took.0
      by (m2, end, (Exchanged r, took, ends), is) = absurd took.0
      by (m2, end, (Made r, took, ends), is) = absurd took.0
      by (m2, end, (Taken r, took, ends), is) = absurd took.0
      by (m2, end, (Roomed r, took, ends), is) = absurd took.0

-- what the collector has once a row has begun: the row is to retire it, or to put it behind another block, or the collector had it
pub data HandedBy {T : Type 0} (defers : T → Option ℕ) (w : World T) (request : Request) (b : ℕ) : Type 0 where
  Retires : (s : ℕ) → request ≡ Retire s b → HandedBy defers w request b
  PutsBehind : (value : T) → value_at w.memory b ≡ Some value → defers value ≡ None → HandedBy defers w request b
  HadIt : w.hand b ≡ Handed → HandedBy defers w request b

module _ {T : Type 0} (defers : T → Option ℕ) (size i : ℕ) (w v : World T) (b : ℕ) where
  same_hands : (request : Request) → v.hand ≡ w.hand → v.hand b ≡ Handed → HandedBy defers w request b
  same_hands request hands is = HadIt (sym (ap (λ (h : ℕ → Hand). h b) hands) ∙ is)

  pub begun_handed : (request : Request) → Begins defers size i request w v → v.hand b ≡ Handed → HandedBy defers w request b
  begun_handed (Register' enters) h is = same_hands (Register' enters) (ap (λ (z : World T). z.hand) h) is
  begun_handed (Enter' s) h is = same_hands (Enter' s) (ap (λ (z : World T). z.hand) h.1) is
  begun_handed (Leave' s) h is = same_hands (Leave' s) (ap (λ (z : World T). z.hand) h.1) is
  begun_handed (LeaveOwned s) h is = same_hands (LeaveOwned s) (ap (λ (z : World T). z.hand) h.1) is
  begun_handed (Refresh s) h is = same_hands (Refresh s) (ap (λ (z : World T). z.hand) h.1) is
  begun_handed (Unregister' s) h is = same_hands (Unregister' s) (ap (λ (z : World T). z.hand) h.1) is
  begun_handed (Flush s) h is = same_hands (Flush s) (ap (λ (z : World T). z.hand) h.1) is
  begun_handed (Retire s c) h is = by (b == c) refl (sym (ap (λ (z : World T). z.hand b) h.2) ∙ is)
    where
      by : (q : Bool) → (b == c) ≡ q → (if q then Handed else w.hand b) ≡ Handed → HandedBy defers w (Retire s c) b
      by true e handed = Retires s (let same : b ≡ c = grind (arith, e) in ap (Retire s) (sym same))
      by false e handed = HadIt handed
  begun_handed (Defer' s c t) h is = by (b == c) refl (sym (ap (λ (z : World T). z.hand b) h.7) ∙ is)
    where
      by : (q : Bool) → (b == c) ≡ q → (if q then Handed else w.hand b) ≡ Handed → HandedBy defers w (Defer' s c t) b
      by true e handed =
          let same : b ≡ c = grind (arith, e) in
          let none = h.3 in
          PutsBehind none.0 (ap (value_at w.memory) same ∙ none.1) none.2
      by false e handed = HadIt handed

-- a row that has a block to retire still is not over with its step
module _ {T : Type 0} (defers : T → Option ℕ) (size : ℕ) (w w2 : World T) (r : Reached defers size w) (i : ℕ) (steps : Steps' defers i (w.row i) w w2) (b : ℕ) (due : IsToRetire b (w.row i)) where
  abbrev told : RowTold (LAST_SLOT + 1) i (w.row i) r.good.state w.uses (w2.row i) ((steps_next defers (LAST_SLOT + 1) size refl w w2 r.good r.sized i (w.row i) refl steps).good.state) w2.uses
  told = (steps_next defers (LAST_SLOT + 1) size refl w w2 r.good r.sized i (w.row i) refl steps).told

  its : (row : Row) → w.row i ≡ row → IsToRetire b row
  its row is = subst (IsToRetire b) is due

  pub not_over : w2.row i ≡ Rests → ⊥
  not_over over = by told
    where
      by : {m2 : State} → RowTold (LAST_SLOT + 1) i (w.row i) r.good.state w.uses (w2.row i) m2 w2.uses → ⊥
      by (SettleGoes c c2 is is2 slot goes) = (let both : Settles c2 ≡ Rests = sym is2 ∙ over in cc both)
      by (SettleEnds c is is2 stands e) = subst (λ (p : Settling). IsPendingRetirement b (due_in_settle c p)) stands (its (Settles c) is)
      by (LeaveSwaps c again es p is is2 stands lt becomes head e behind) = its (Leaves c) is
      by (LeaveGoes c settle settle2 is is2 stands slot goes) = its (Leaves c) is
      by (LeaveSettled c settle is stands over settled e) = its (Leaves c) is
      by (LeaveEnds c is settled settled2 u) = its (Leaves c) is
      by (RegisterLooks c c2 is is2 looks looks2 enters uses e) = its (Registers c) is
      by (RegisterRefused c is is2 looks uses e) = its (Registers c) is
      by (RegisterTakes c is looks vacant takes u) = its (Registers c) is
      by (RegisterEnters c is is2 stands lt head e uses) = its (Registers c) is
      by (EntersSlot c is is2 lt head e) = its (Enters c) is
      by (FreesSlot c is is2 u) = its (Frees c) is
      by (DeferGoes s c p is is2 on on2 e) = its (Defers s c) is
      by (DeferPushes s d u field c is is2 on block names e) = its (Defers s c) is
      by (DeferEnds s c is is2 over u) = its (Defers s c) is
