-- A row that puts a block onto another one's list has a section that holds that one: so its maker has it no more.
use Rattle.std.specs.Prelude.{◌≢◌, ◌⊎◌, Option, IsSome, is_some, Ok, Err, if◌then◌else◌}
use Rattle.std.proofs.Common.{◌≡◌, ℕ, ◌+◌, Bool, true, false, cond, eqb, List, [], ◌∷◌, length, refl, ap, sym, subst, ◌∙◌, inl, inr, arith}
use Rattle.std.proofs.lemmas.Bool.{cases_eq, ne_eqb}
use Rattle.seize.specs.Given.SeizeWordsDeclared.at.At.TheVariants.{Entry}
use Rattle.seize.specs.Given.SeizeWordsOp.{Out, Store, Make, Found, Stored, Exchanged, Made, Taken, Roomed}
use Rattle.seize.specs.Given.SeizeWordsMem.{Mem, Took, value_at}
use Rattle.seize.proofs.Given.SeizeWordsOneOwner.AfterWrites.{value_at-with_word}
use Rattle.seize.specs.declared.states.TheConstants.{LAST_SLOT, NEXT}
use Rattle.seize.specs.declared.rows.defer.Defer.{Defer}
use Rattle.seize.specs.declared.rows.defer.Deferring.{Deferring}
use Rattle.seize.specs.declared.rows.defer.Deferring.TheVariants as deferring
use Rattle.seize.specs.declared.rows.register.Register.{Register}
use Rattle.seize.specs.Further.{IsWordOf}
use Rattle.seize.specs.Law.{Linked, Unlinked, Deferred, Ended, is_open, holds}
use Rattle.seize.specs.Sequence.{IsBetween}
use Rattle.seize.specs.WaitingSets.{is_one_of}
use Rattle.seize.specs.World.{World, Row, Rests, Registers, Enters, Settles, Leaves, Defers, Frees, Use, Vacant, Outside, Inside, Changing, Hand, NoBlock, Making, InUse, Parting, Cutting, Handed, LeftTo, Event, Begin, Step, Makes, Drops, Links, Parts, Unlinks, Rewrites, Operates, Ends, LeavesOver, Relinks, Clears, Chooses, Request, Register', Enter', Leave', LeaveOwned, Refresh, Unregister', Retire, Flush, Defer', Begins, Steps', Happens, Runs, ListWord, IsInside, IsNotLeft, IsOnto, with_at, made_by, at_start}
use Rattle.seize_rule.proofs.Given.SeizeMovesMoves.Blocks.{never_held}
use Rattle.seize_rule.proofs.Given.SeizeMovesMoves.Ended.{is_on, ends_with}
use Rattle.seize_rule.proofs.Given.SeizeMovesState.Ghost.{Life, IsFree, IsOwned, IsLinked, IsUnlinked, IsDeferring, IsDeferred, IsPending, IsIn, IsDoomed, IsLeft, State, emptied, is_active, lies_with}
use Rattle.seize_rule.proofs.Given.SeizeMovesState.Held.{held_on, held_beside}
use Rattle.seize_rule.proofs.Given.SeizeMovesState.Logs.{held_open}
use Rattle.seize_rule.proofs.Points.Aside.{HandFits}
use Rattle.seize_rule.proofs.Rows.Known.{works_on}
use Rattle.seize_rule.proofs.Rows.Others.{steps_others, users_rows}
use Rattle.seize_rule.proofs.Rows.Teams.{UseFits, shares, is_shared}
use Rattle.seize_rule.proofs.Rows.Told.{RowTold, HasSettled, TakesFor, SettleGoes, SettleEnds, LeaveSwaps, LeaveGoes, LeaveSettled, LeaveEnds, RegisterLooks, RegisterRefused, RegisterTakes, RegisterEnters, EntersSlot, FreesSlot, DeferGoes, DeferPushes, DeferEnds}
use Rattle.seize_rule.proofs.Given.SeizeMemoryWords.Shows.{CarrierIs}
use Rattle.seize_rule.proofs.Given.SeizeMemoryWords.There.{entry_there}
use Rattle.seize_rule.proofs.Given.SeizeMemoryWords.View.{list_in}
use Rattle.seize_rule.proofs.World.Bounded.{outside_head}
use Rattle.seize_rule.proofs.World.Events.{leaves_over_good}
use Rattle.seize_rule.proofs.World.Kept.{steps_next}
use Rattle.seize_rule.proofs.World.Values.{own_op_value, taken_value, made_value, rewritten_value}
use Rattle.seize_model.proofs.Alone.Histories.NotTaken.{IsHeld, kept_there, kept_value, kept_hand, still_held}
use Rattle.seize_model.proofs.Alone.Histories.Reached.{Reached, happens_reached}

-- the row puts a block onto the list of this one, within the section of this slot
abbrev pub Puts : Row → ℕ → ℕ → Type 0
Puts (Defers t d) s b = (s ≡ t) × IsWordOf b d.table_word
Puts _ s b = ⊥

-- a row that puts one onto a list does so within a section
puts_of : (row : Row) (b : ℕ) → IsOnto b row → (s : ℕ) × Puts row s b
puts_of Rests b on = absurd on
puts_of (Registers c) b on = absurd on
puts_of (Enters c) b on = absurd on
puts_of (Settles c) b on = absurd on
puts_of (Leaves c) b on = absurd on
puts_of (Defers s d) b on = (s, (refl, on))
puts_of (Frees c) b on = absurd on

puts_onto : (row : Row) (s b : ℕ) → Puts row s b → IsOnto b row
puts_onto Rests s b on = absurd on
puts_onto (Registers c) s b on = absurd on
puts_onto (Enters c) s b on = absurd on
puts_onto (Settles c) s b on = absurd on
puts_onto (Leaves c) s b on = absurd on
puts_onto (Defers t d) s b on = on.1
puts_onto (Frees c) s b on = absurd on

-- and it works on the slot of that section, beside others
puts_within : (row : Row) (s b : ℕ) → Puts row s b → (works_on row ≡ s + 1) × (shares row ≡ true)
puts_within Rests s b on = absurd on
puts_within (Registers c) s b on = absurd on
puts_within (Enters c) s b on = absurd on
puts_within (Settles c) s b on = absurd on
puts_within (Leaves c) s b on = absurd on
puts_within (Defers t d) s b on = (ap (λ (k : ℕ). k + 1) (sym on.0), refl)
puts_within (Frees c) s b on = absurd on

settled_puts_none : (row : Row) (s b : ℕ) → HasSettled row → Puts row s b → ⊥
settled_puts_none Rests s b settled on = on
settled_puts_none (Registers c) s b settled on = on
settled_puts_none (Enters c) s b settled on = on
settled_puts_none (Settles c) s b settled on = on
settled_puts_none (Leaves c) s b settled on = on
settled_puts_none (Defers t d) s b settled on = settled
settled_puts_none (Frees c) s b settled on = on

-- a block that is on a list has none of its own
no_list : (l : Life) (t : ℕ) (k : Bool) (d : Option ℕ) → is_on t l ≡ true → (lies_with t l ≡ true → k ≡ false) → CarrierIs l k d → is_some d ≡ false
no_list IsFree t k d e f c = absurd (cc e)
no_list (IsOwned i) t k d e f c = absurd (cc e)
no_list IsLinked t k d e f c = absurd (cc e)
no_list (IsUnlinked i) t k d e f c = absurd (cc e)
no_list (IsDeferring i s u) t k d e f c = absurd (cc e)
no_list (IsDeferred u) t k d e f c = sym c ∙ f e
no_list (IsPending i) t k d e f c = absurd (cc e)
no_list (IsIn x) t k d e f c = absurd (cc e)
no_list (IsDoomed i) t k d e f c = absurd (cc e)
no_list (IsLeft i) t k d e f c = absurd (cc e)

module _ {T : Type 0} (defers : T → Option ℕ) (size : ℕ) where
  -- The section holds the block, which may have a list, and is left to nobody.
  pub record IsListHeld (s b : ℕ) (w : World T) : Type 0 where
    pub held : holds s b w.log ≡ true
    pub not_left : IsNotLeft (w.hand b)
    pub list : (field : ℕ) × ListWord defers size w b field

  -- so is each that a row puts a block onto
  abbrev pub AllListsHeld : World T → Type 0
  AllListsHeld w = (j s b : ℕ) → Puts (w.row j) s b → IsListHeld s b w

  pub start_lists_held : (roots : ℕ) → AllListsHeld (at_start defers roots)
  start_lists_held roots j s b on = absurd on

  module _ (w : World T) (r : Reached defers size w) (s b : ℕ) (h : IsListHeld s b w) where
    fits : (x : ℕ) (k : Hand) → w.hand x ≡ k → HandFits k (r.good.state.life x)
    fits x k e = subst (λ (q : Hand). HandFits q (r.good.state.life x)) e (r.good.hands x)

    not_made : (i : ℕ) → w.hand b ≡ Making i → ⊥
    not_made i making =
        let none = ap (holds s b) (sym r.good.logged) ∙ never_held (LAST_SLOT + 1) i r.good.state b r.good.inv (fits b (Making i) making) s in
        let held = h.held in cc (none, held)

    apart : (x i : ℕ) → w.hand x ≡ Making i → b ≡ x → ⊥
    apart x i making e = not_made i (ap w.hand e ∙ making)

    not_left_to : (x i : ℕ) → w.hand x ≡ LeftTo i → b ≡ x → ⊥
    not_left_to x i left e = subst IsNotLeft (ap w.hand e ∙ left) h.not_left

    keep : (w2 : World T) → holds s b w2.log ≡ true → IsNotLeft (w2.hand b) → value_at w2.memory b ≡ value_at w.memory b → IsListHeld s b w2
    keep w2 held not_left same = record { held = held; not_left = not_left; list = (h.list.0, (h.list.1.0, same ∙ h.list.1.1, h.list.1.2)) }

    put : (x : ℕ) (k : Hand) → IsNotLeft k → IsNotLeft (with_at w.hand x k b)
    put x k fine = by (eqb b x)
      where
        by : (q : Bool) → IsNotLeft (if q then k else w.hand b)
        by true = fine
        by false = h.not_left

    there : IsSome (value_at w.memory b)
    there = kept_there defers size w r b (IsHeld s h.held)

    made_keeps : (i : ℕ) (value : T) (words : ℕ) (out : Out T) (m : Mem T) → Took w.memory (Make value words) out m → IsListHeld s b (made_by defers w i m out)
    made_keeps i value words (Made (Ok x)) m took = keep _ h.held (put x (Making i) tt) (made_value defers w.memory b value words (Made (Ok x)) m there took)
    made_keeps i value words (Made (Err back)) m took = keep _ h.held h.not_left (made_value defers w.memory b value words (Made (Err back)) m there took)
    made_keeps i value words (Found x) m took = absurd took.0
    made_keeps i value words Stored m took = absurd took.0
    made_keeps i value words (Exchanged x) m took = absurd took.0
    made_keeps i value words (Taken x) m took = absurd took.0
    made_keeps i value words (Roomed x) m took = absurd took.0

    relinked_value : (i x word : ℕ) (out : Out T) (m : Mem T) → w.hand x ≡ LeftTo i → Took w.memory (Store (Entry x NEXT) word) out m → value_at m b ≡ value_at w.memory b
    relinked_value i x word out m has took =
        let left : r.good.state.life x ≡ IsLeft i = fits x (LeftTo i) has in
        let entry = entry_there defers (LAST_SLOT + 1) w.memory r.good.state r.good.extra x NEXT r.good.stocked r.good.shows (rw left refl) (omega arith) in
        ap (λ (k : Mem T). value_at k b) took.1 ∙ value_at-with_word w.memory (Entry x NEXT) word b entry

    -- what has a list is on none
    on_no_list : (x : ℕ) → is_on x (r.good.state.life b) ≡ true → ⊥
    on_no_list x on =
        let some : is_some (list_in defers (value_at w.memory b)) ≡ true = ap (λ (o : Option T). is_some (list_in defers o)) h.list.1.1 ∙ ap is_some h.list.1.2 in
        let none = no_list (r.good.state.life b) x (r.good.state.carrier b) (list_in defers (value_at w.memory b)) on
        (λ lies. (r.good.inv.places.carries b x lies).0) (r.good.shows.lists.carriers b) in
        cc (some, none)

    -- it is not left over, as a row puts a block onto its list
    not_left_over : (i x : ℕ) (further : List ℕ) → (b ≡ x → ⊥) → further ≡ r.good.state.deferred x → IsNotLeft (if is_one_of b (x ∷ further) then LeftTo i else w.hand b)
    not_left_over i x further ne e =
        let ends = ends_with (LAST_SLOT + 1) r.good.state x r.good.inv b ∙ ap (λ (q : Bool). cond q true (is_on x (r.good.state.life b))) (ne_eqb b x ne) in
        subst (λ (l : List ℕ). IsNotLeft (if is_one_of b (x ∷ l) then LeftTo i else w.hand b)) (sym e) (by (is_one_of b (x ∷ r.good.state.deferred x)) ends)
      where
        by : (q : Bool) → q ≡ is_on x (r.good.state.life b) → IsNotLeft (if q then LeftTo i else w.hand b)
        by true is = absurd (on_no_list x (sym is))
        by false is = h.not_left

    between_keeps : (e : Event T) (w2 : World T) → IsBetween e → Happens defers size e w w2 → (j : ℕ) → IsOnto b (w.row j) → IsListHeld s b w2
    between_keeps (Begin i request) w2 u e j on = absurd u
    between_keeps (Step i) w2 u e j on = absurd u
    between_keeps (Makes i value words) w2 u e j on = subst (IsListHeld s b) (sym e.4) (made_keeps i value words e.0 e.1 e.3)
    between_keeps (Drops i x) w2 u e j on =
        let ne = apart x e.2.0 e.2.1 in subst (IsListHeld s b) (sym e.4) (keep _ (held_beside s b x w.log ne h.held) (put x NoBlock tt) (taken_value defers w.memory b x e.0 e.1 e.3 ne))
    between_keeps (Links i x o) w2 u e j on = subst (IsListHeld s b) (sym e.1) (keep _ (held_on s b (Linked x o) w.log tt h.held) (put x (InUse o) tt) refl)
    between_keeps (Parts i x) w2 u e j on = subst (IsListHeld s b) (sym e.1) (keep _ h.held (put x (Parting i) tt) refl)
    between_keeps (Unlinks i x) w2 u e j on = subst (IsListHeld s b) (sym e.1) (keep _ (held_on s b (Unlinked x) w.log tt h.held) (put x (Cutting i) tt) refl)
    between_keeps (Rewrites i x new) w2 u e j on =
        subst (IsListHeld s b) (sym e.5) (keep _ h.held h.not_left (rewritten_value defers w.memory b x new e.0 e.1 e.3 (apart x e.2.0 e.2.1)))
    between_keeps (Operates op) w2 u e j on =
        subst (IsListHeld s b) (sym e.4) (keep _ h.held h.not_left (ap (λ (m : Mem T). value_at m b) e.3.1 ∙ own_op_value defers w.memory b op e.0 e.2))
    between_keeps (Ends i o) w2 u e j on = subst (IsListHeld s b) (sym e) (keep _ (held_on s b (Ended o) w.log tt h.held) h.not_left refl)
    between_keeps (LeavesOver i x further) w2 u e j on =
        let ne : b ≡ x → ⊥ = (λ same. e.2 j (subst (λ (y : ℕ). IsOnto y (w.row j)) same on)) in
        subst (IsListHeld s b) (sym e.4) (keep _ h.held (not_left_over i x further ne (leaves_over_good defers (LAST_SLOT + 1) size w w2 r.good i x further e).2) refl)
    between_keeps (Relinks i x word) w2 u e j on = subst (IsListHeld s b) (sym e.4) (keep _ h.held h.not_left (relinked_value e.2.0 x word e.0 e.1 e.2.1 e.3))
    between_keeps (Clears i x) w2 u e j on =
        let ne = not_left_to x e.2.0 e.2.1 in subst (IsListHeld s b) (sym e.5) (keep _ (held_beside s b x w.log ne h.held) (put x NoBlock tt) (taken_value defers w.memory b x e.0 e.1 e.4 ne))
    between_keeps (Chooses choice) w2 u e j on = subst (IsListHeld s b) (sym e) (keep _ h.held h.not_left refl)

    -- somebody is inside while the row is under way
    inside : (j : ℕ) → Puts (w.row j) s b → IsInside (w.uses s)
    inside j on = by (w.uses s) (sym (r.good.used.kinds j s at.0) ∙ at.1) (r.good.used.fits s)
      where
        at : (works_on (w.row j) ≡ s + 1) × (shares (w.row j) ≡ true)
        at = puts_within (w.row j) s b on

        active : is_active (r.good.state.head s) ≡ true
        active = r.good.inv.logged.opens s (ap (is_open s) r.good.logged ∙ held_open s b w.log h.held)

        by : (u : Use) → is_shared u ≡ true → UseFits u (emptied (r.good.state.head s)) (length (r.good.used.team s)) (is_open s r.good.state.log) → IsInside u
        by Vacant shared f = absurd (cc shared)
        by (Outside k) shared f =
            let none = outside_head (Outside k) (r.good.state.head s) (length (r.good.used.team s)) (is_open s r.good.state.log) tt f in
            let is = active in absurd (cc (none, is))
        by (Inside k) shared f = tt
        by Changing shared f = absurd (cc shared)

    step_keeps : (i : ℕ) (w2 : World T) → Steps' defers i (w.row i) w w2 → IsInside (w.uses s) → IsListHeld s b w2
    step_keeps i w2 step in_it =
        keep w2 (still_held defers size w r i w2 step s b in_it h.held) (subst IsNotLeft (sym (kept_hand defers size w r i w2 step b (IsHeld s h.held))) h.not_left)
        (kept_value defers size w r i w2 step b (IsHeld s h.held))

-- a row that goes on goes on onto the same list
module _ (n i s b : ℕ) (row row2 : Row) (m m2 : State) (uses uses2 : ℕ → Use) where
  none_then : (r : Row) → row2 ≡ r → (Puts r s b → ⊥) → Puts row2 s b → Puts row s b
  none_then r is none on = absurd (none (subst (λ (q : Row). Puts q s b) is on))

  takes_none : (c : Register) (enters : Bool) → TakesFor enters c uses row2 uses2 → Puts row2 s b → Puts row s b
  takes_none c true t = none_then _ t.0 (λ on. on)
  takes_none c false t = none_then _ t.0 (λ on. on)

  -- the same list as before
  same_list : (t : ℕ) (d : Defer) (p : Deferring) → row ≡ Defers t d → row2 ≡ Defers t (record d { stands = p }) → Puts row2 s b → Puts row s b
  same_list t d p is is2 on = subst (λ (q : Row). Puts q s b) (sym is) (subst (λ (q : Row). Puts q s b) is2 on)

  puts_still : RowTold n i row m uses row2 m2 uses2 → Puts row2 s b → Puts row s b
  puts_still (SettleGoes c d e e2 same told) on = none_then _ e2 (λ k. k) on
  puts_still (SettleEnds c e e2 over same) on = none_then _ e2 (λ k. k) on
  puts_still (LeaveSwaps c again es p e e2 at lt word head same behind) on = none_then _ e2 (λ k. k) on
  puts_still (LeaveGoes c settle settle2 e e2 at same told) on = none_then _ e2 (λ k. k) on
  puts_still (LeaveSettled c settle e at over settled same) on = absurd (settled_puts_none row2 s b settled on)
  puts_still (LeaveEnds c e at settled same) on = absurd (settled_puts_none row2 s b settled on)
  puts_still (RegisterLooks c d e e2 at at2 enters same still) on = none_then _ e2 (λ k. k) on
  puts_still (RegisterRefused c e e2 at same still) on = none_then _ e2 (λ k. k) on
  puts_still (RegisterTakes c e at vacant takes still) on = takes_none c c.enters takes on
  puts_still (RegisterEnters c e e2 at lt head same entered) on = none_then _ e2 (λ k. k) on
  puts_still (EntersSlot c e e2 lt head same) on = none_then _ e2 (λ k. k) on
  puts_still (FreesSlot c e e2 same) on = none_then _ e2 (λ k. k) on
  puts_still (DeferGoes t d p e e2 at at2 same) on = same_list t d p e e2 on
  puts_still (DeferPushes t x u k d e e2 at block word same) on = same_list t d deferring.Over e e2 on
  puts_still (DeferEnds t d e e2 over same) on = none_then _ e2 (λ k. k) on

-- whoever takes a step
module _ {T : Type 0} (defers : T → Option ℕ) (size : ℕ) (w : World T) (r : Reached defers size w) (w2 : World T) (i : ℕ) (step : Steps' defers i (w.row i) w w2) where
  steps_put : (j s b : ℕ) → Puts (w2.row j) s b → Puts (w.row j) s b
  steps_put j s b on = by (cases_eq j i)
    where
      by : (j ≡ i) ⊎ (j ≢ i) → Puts (w.row j) s b
      by (inl e) =
          subst (λ (k : ℕ). Puts (w.row k) s b) (sym e)
          (puts_still (LAST_SLOT + 1) i s b (w.row i) (w2.row i) _ _ w.uses w2.uses (steps_next defers (LAST_SLOT + 1) size refl w w2 r.good r.sized i (w.row i) refl step).told
          (subst (λ (k : ℕ). Puts (w2.row k) s b) e on))
      by (inr ne) = subst (λ (q : Row). Puts q s b) (steps_others defers size w w2 i j ne (w.row i) step) on

  pub steps_onto : (j b : ℕ) → IsOnto b (w2.row j) → IsOnto b (w.row j)
  steps_onto j b on = let p = puts_of (w2.row j) b on in puts_onto (w.row j) p.0 b (steps_put j p.0 b p.1)

module _ {T : Type 0} (defers : T → Option ℕ) (size : ℕ) (w : World T) (r : Reached defers size w) (all : AllListsHeld defers size w) where
  -- another row begins, or none puts a block onto this list
  begins_put : (i j s b : ℕ) (row : Row) (P : Type 0) → (Puts row s b → P) → (IsListHeld defers size s b w → P) → Puts (with_at w.row i row j) s b → P
  begins_put i j s b row P here there = by (eqb j i)
    where
      by : (q : Bool) → Puts (if q then row else w.row j) s b → P
      by true on = here on
      by false on = there (all j s b on)

  -- a block is deferred to some list
  deferral_keeps : (x u s b : ℕ) (rows : ℕ → Row) (uses : ℕ → Use) → IsListHeld defers size s b w
      → IsListHeld defers size s b (record { memory = w.memory; row = rows; uses = uses; hand = with_at w.hand x Handed; log = Deferred x u ∷ w.log })
  deferral_keeps x u s b rows uses h = keep defers size w r s b h _ (held_on s b (Deferred x u) w.log tt h.held) (put defers size w r s b h x Handed tt) refl

  module _ (w2 : World T) where
    -- a row begins on slots
    slots_held : (i : ℕ) (row : Row) (uses : ℕ → Use) → ((s b : ℕ) → Puts row s b → ⊥)
        → w2 ≡ record { memory = w.memory; row = with_at w.row i row; uses = uses; hand = w.hand; log = w.log } → AllListsHeld defers size w2
    slots_held i row uses none e j s b =
        subst (λ (v : World T). Puts (v.row j) s b → IsListHeld defers size s b v) (sym e)
        (begins_put i j s b row _ (λ on. absurd (none s b on)) (λ h. keep defers size w r s b h _ h.held h.not_left refl))

    begins_held : (i : ℕ) (request : Request) → Begins defers size i request w w2 → AllListsHeld defers size w2
    begins_held i (Register' enters) e = slots_held i _ w.uses (λ s b on. on) e
    begins_held i (Enter' t) e = slots_held i _ _ (λ s b on. on) e.1
    begins_held i (Leave' t) e = slots_held i _ _ (λ s b on. on) e.1
    begins_held i (LeaveOwned t) e = slots_held i _ _ (λ s b on. on) e.1
    begins_held i (Refresh t) e = slots_held i _ _ (λ s b on. on) e.1
    begins_held i (Unregister' t) e = slots_held i _ _ (λ s b on. on) e.1
    begins_held i (Flush t) e = slots_held i _ _ (λ s b on. on) e.1
    begins_held i (Retire t x) e = λ j s b.
        subst (λ (v : World T). Puts (v.row j) s b → IsListHeld defers size s b v) (sym e.2)
        (begins_put i j s b _ _ (λ on. absurd on) (λ h. keep defers size w r s b h _ h.held (put defers size w r s b h x Handed tt) refl))
    begins_held i (Defer' t x u) e = λ j s b.
        subst (λ (v : World T). Puts (v.row j) s b → IsListHeld defers size s b v) (sym e.7)
        (begins_put i j s b _ _ (λ on. deferral_keeps x u s b _ _ (deferred s b (sym on.0) (sym on.1))) (λ h. deferral_keeps x u s b _ _ h))
      where
        -- the section holds the block that it goes to
        deferred : (s b : ℕ) → t ≡ s → u ≡ b → IsListHeld defers size s b w
        deferred s b at to =
            subst (λ (y : ℕ). IsListHeld defers size s y w) to (subst (λ (y : ℕ). IsListHeld defers size y u w) at (record { held = e.5; not_left = e.6; list = (e.0, e.4) }))

    steps_held : (i : ℕ) → Steps' defers i (w.row i) w w2 → AllListsHeld defers size w2
    steps_held i step j s b on =
        let was = steps_put defers size w r w2 i step j s b on in let h = all j s b was in step_keeps defers size w r s b h i w2 step (inside defers size w r s b h j was)

    -- what users do, and what becomes of what has ended
    between_held : (e : Event T) → IsBetween e → Happens defers size e w w2 → AllListsHeld defers size w2
    between_held e u h j s b on =
        let was : Puts (w.row j) s b = subst (λ (f : ℕ → Row). Puts (f j) s b) (users_rows defers size w w2 e u h) on in
        between_keeps defers size w r s b (all j s b was) e w2 u h j (puts_onto (w.row j) s b was)

    happens_held : (e : Event T) → Happens defers size e w w2 → AllListsHeld defers size w2
    happens_held (Begin i request) h = begins_held i request h.1
    happens_held (Step i) h = steps_held i h
    happens_held (Makes i value words) h = between_held (Makes i value words) tt h
    happens_held (Drops i x) h = between_held (Drops i x) tt h
    happens_held (Links i x o) h = between_held (Links i x o) tt h
    happens_held (Parts i x) h = between_held (Parts i x) tt h
    happens_held (Unlinks i x) h = between_held (Unlinks i x) tt h
    happens_held (Rewrites i x new) h = between_held (Rewrites i x new) tt h
    happens_held (Operates op) h = between_held (Operates op) tt h
    happens_held (Ends i o) h = between_held (Ends i o) tt h
    happens_held (LeavesOver i x further) h = between_held (LeavesOver i x further) tt h
    happens_held (Relinks i x word) h = between_held (Relinks i x word) tt h
    happens_held (Clears i x) h = between_held (Clears i x) tt h
    happens_held (Chooses choice) h = between_held (Chooses choice) tt h

  -- so no row puts a block onto one that its maker has
  pub onto_not_made : (j b i : ℕ) → IsOnto b (w.row j) → w.hand b ≡ Making i → ⊥
  onto_not_made j b i on making = let p = puts_of (w.row j) b on in not_made defers size w r p.0 b (all j p.0 b p.1) i making

  -- nor onto one that has no list
  pub onto_listed : (j b : ℕ) → IsOnto b (w.row j) → (field : ℕ) × ListWord defers size w b field
  onto_listed j b on = let p = puts_of (w.row j) b on in (all j p.0 b p.1).list

-- whatever happens
pub runs_lists_held : {T : Type 0} (defers : T → Option ℕ) (size : ℕ) (events : List (Event T)) (w w2 : World T) → Reached defers size w → AllListsHeld defers size w → Runs defers size events w w2
    → AllListsHeld defers size w2
runs_lists_held {T} defers size [] w w2 r all h = subst (λ (v : World T). AllListsHeld defers size v) (sym h) all
runs_lists_held defers size (e ∷ events) w w2 r all h =
    runs_lists_held defers size events h.0 w2 (happens_reached defers size e w h.0 r h.1) (happens_held defers size w r all h.0 e h.1) h.2
