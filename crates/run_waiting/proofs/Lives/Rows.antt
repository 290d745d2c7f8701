-- A step of a row, and its beginning, leave what waits behind a block there in the state of the collector.
use Rattle.std.specs.Prelude.{Some, if◌then◌else◌, ◌⊎◌}
use Rattle.std.proofs.Common.{◌≡◌, ◌≢◌, ℕ, ◌/◌, Bool, true, false, List, refl, ap, sym, subst, ◌∙◌, inl, inr}
use Rattle.std.proofs.lemmas.Bool.{cases_eq, eq-eqb}
use Rattle.run_debts.specs.Given.SeizeWordsWord.{link_to}
use Rattle.run_debts.specs.Given.SeizeWordsDeclared.at.At.{At}
use Rattle.run_debts.specs.Given.SeizeWordsDeclared.at.At.TheVariants.{Word}
use Rattle.run_debts.specs.Given.SeizeDefer.{deferring}
use Rattle.run_debts.specs.Given.SeizeDeclared.rows.defer.Deferring.{Deferring}
use Rattle.run_debts.specs.Given.SeizeDeclared.rows.defer.Deferring.TheVariants as at
use Rattle.run_debts.specs.Given.SeizeWorld.{Row, Defers, Use}
use Rattle.run_debts.proofs.Given.SeizeMovesState.Ghost.{put, Entry, Life, IsDeferring, IsDeferred, State}
use Rattle.run_debts.proofs.Given.SeizeMovesState.Moves
use Rattle.run_debts.proofs.Given.SeizeMovesState.Rule.{Inv}
use Rattle.run_debts.proofs.Given.SeizeRulePoints.Told.{part}
use Rattle.run_debts.proofs.Given.SeizeRuleRows.Known.{OnWay as IsOnTheWay, FitsDefer, FitsRow}
use Rattle.run_debts.proofs.Given.SeizeRuleRows.Told.{list_off, IsOnWay, RowTold, SettleGoes, SettleEnds, LeaveSwaps, LeaveGoes, LeaveSettled, LeaveEnds, RegisterLooks, RegisterRefused, RegisterTakes, RegisterEnters, EntersSlot, FreesSlot, DeferGoes, DeferPushes, DeferEnds}
use Rattle.run_debts.proofs.Given.SeizeMemoryWords.Named.{link, link-block}
use Rattle.run_debts.proofs.Given.SeizeMemoryWords.Shows.{Extra}
use Rattle.run_debts.proofs.Given.SeizeMemoryWords.View.{View}
use Rattle.run_waiting.specs.Lives.Waiting.{waits_behind}
use Rattle.run_waiting.proofs.Lives.Lives.{WaitsIn, OnWay, OnList, TakenOver, elsewhere, as_before, by_unmoved, same_state, stays, told_waits}

here : (f : ℕ → Life) (k : ℕ) (x : Life) (j : ℕ) → j ≡ k → put f k x j ≡ x
here f k x j e = ap (λ (q : Bool). if q then x else f j) (eq-eqb j k e)

-- a link names one block
pub same_link : (b d : ℕ) → link b ≡ link d → b ≡ d
same_link b d e = sym (link-block b) ∙ ap (λ (k : ℕ). k / 2048) e ∙ link-block d

word_of : (t u d field : ℕ) → Word t d ≡ Word u field → t ≡ u
word_of t u d field e = cc e

off_lives : (again : Bool) (m : State) (i s : ℕ) (es : List Entry) → (list_off again m i s es).life ≡ m.life
off_lives true m i s es = refl
off_lives false m i s es = refl

off_left : (again : Bool) (m : State) (i s : ℕ) (es : List Entry) → (list_off again m i s es).left ≡ m.left
off_left true m i s es = refl
off_left false m i s es = refl

module _ (n i : ℕ) (f : View) (m : State) (x : Extra) where
  -- a row on its way to a list is to put this block there
  pub on_the_way : (s block : ℕ) (word : At) (p : Deferring) → IsOnWay p → FitsDefer n i f m x s block word p → IsOnTheWay n i f m x s block word
  on_the_way s block word at.Reads on fits = fits
  on_the_way s block word (at.Links head) on fits = fits
  on_the_way s block word (at.Pushes head) on fits = fits.on
  on_the_way s block word at.Over on fits = absurd on

  pub its_life : (s d u field : ℕ) (block : ℕ) (word : At) → block ≡ link d → word ≡ Word u field → IsOnTheWay n i f m x s block word → m.life d ≡ IsDeferring i s u
  its_life s d u field block word is names r =
      let one : r.b ≡ d = same_link r.b d (sym r.block_is ∙ is) in
      ap m.life (sym one) ∙ r.life ∙ ap (IsDeferring i s) (word_of r.t u r.d field (sym r.at_is ∙ names))

  -- as one begins to defer a block
  pub new_way : (k s d u field : ℕ) → FitsRow n i f m x k (Defers s (deferring (link_to d) (Word u field))) → m.life d ≡ IsDeferring i s u
  new_way k s d u field r = its_life s d u field (link_to d) (Word u field) refl refl r

  module _ (inv : Inv n m) (b t : ℕ) (was : WaitsIn m b t) where
    -- the block goes on that list
    pushes : (s d u : ℕ) → m.life d ≡ IsDeferring i s u → WaitsIn (Moves.deferred_to m i d u) b t
    pushes s d u life = by (cases_eq b d)
      where
        on_it : b ≡ d → WaitsIn m b t → WaitsIn (Moves.deferred_to m i d u) b t
        on_it same (OnWay j z is) =
            let one : u ≡ t = (let alike : IsDeferring i s u ≡ IsDeferring j z t = sym life ∙ ap m.life (sym same) ∙ is in cc alike) in
            OnList (here m.life d (IsDeferred u) b same ∙ ap IsDeferred one)
        on_it same (OnList is) = absurd (let alike : IsDeferring i s u ≡ IsDeferred t = sym life ∙ ap m.life (sym same) ∙ is in cc alike)
        on_it same (TakenOver j bs is first) = absurd (let alike = sym life ∙ ap m.life (sym same) ∙ is in cc alike)

        by : (b ≡ d) ⊎ (b ≢ d) → WaitsIn (Moves.deferred_to m i d u) b t
        by (inl same) = on_it same was
        by (inr ne) = as_before m b t (Moves.deferred_to m i d u) (elsewhere m.life d (IsDeferred u) b ne) (λ j bs first. refl) was

    pub row_waits : (k : ℕ) (row row2 : Row) (uses uses2 : ℕ → Use) (m2 : State) → FitsRow n i f m x k row → RowTold n i row m uses row2 m2 uses2 → waits_behind b m2.log ≡ Some t → WaitsIn m2 b t
    row_waits k row row2 uses uses2 m2 fits (SettleGoes c c2 r r2 slot told) waits = told_waits n i m inv b t was c c2 (part c) m2 told waits
    row_waits k row row2 uses uses2 m2 fits (SettleEnds c r r2 stands e) waits = same_state n i m inv b t was m2 e
    row_waits k row row2 uses uses2 m2 fits (LeaveSwaps c again es p r r2 stands lt becomes head e behind) waits =
        stays n i m inv b t was m2 (list_off again m i c.slot es) e (off_lives again m i c.slot es) (off_left again m i c.slot es)
    row_waits k row row2 uses uses2 m2 fits (LeaveGoes c settle settle2 r r2 stands slot told) waits = told_waits n i m inv b t was settle settle2 (part settle) m2 told waits
    row_waits k row row2 uses uses2 m2 fits (LeaveSettled c settle r stands over settled e) waits = same_state n i m inv b t was m2 e
    row_waits k row row2 uses uses2 m2 fits (LeaveEnds c r settled settled2 u) waits = by_unmoved m b t m2 n u was
    row_waits k row row2 uses uses2 m2 fits (RegisterLooks c c2 r r2 looks looks2 enters same_uses e) waits = same_state n i m inv b t was m2 e
    row_waits k row row2 uses uses2 m2 fits (RegisterRefused c r r2 looks same_uses e) waits = same_state n i m inv b t was m2 e
    row_waits k row row2 uses uses2 m2 fits (RegisterTakes c r looks vacant takes u) waits = by_unmoved m b t m2 n u was
    row_waits k row row2 uses uses2 m2 fits (RegisterEnters c r r2 stands lt head e uses_are) waits = stays n i m inv b t was m2 (Moves.entered m c.slot) e refl refl
    row_waits k row row2 uses uses2 m2 fits (EntersSlot c r r2 lt head e) waits = stays n i m inv b t was m2 (Moves.entered m c.slot) e refl refl
    row_waits k row row2 uses uses2 m2 fits (FreesSlot c r r2 u) waits = by_unmoved m b t m2 n u was
    row_waits k row row2 uses uses2 m2 fits (DeferGoes s c p r r2 on on2 e) waits = same_state n i m inv b t was m2 e
    row_waits k row row2 uses uses2 m2 fits (DeferPushes s d u field c r r2 on block names e) waits =
        let at_row : FitsDefer n i f m x s c.block c.table_word c.stands = subst (λ (q : Row). FitsRow n i f m x k q) r fits in
        subst (λ (z : State). WaitsIn z b t) (sym e)
        (pushes s d u (its_life s d u field c.block c.table_word block names (on_the_way s c.block c.table_word c.stands on at_row)))
    row_waits k row row2 uses uses2 m2 fits (DeferEnds s c r r2 over u) waits = by_unmoved m b t m2 n u was
