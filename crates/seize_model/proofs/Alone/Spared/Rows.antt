-- One step of a row leaves its users' words as they were, and takes at most one block, which it tells of.
use Rattle.std.specs.Prelude.{Option, Some, IsSome, if◌then◌else◌, Bool, true}
use Rattle.std.proofs.Common.{◌≡◌, ℕ, ◌+◌, false, List, [], ◌∷◌, ◌++◌, length, inl, inr, refl, ap, sym, subst, ◌∙◌}
use Rattle.seize.specs.Given.SeizeWordsDeclared.at.At.{At}
use Rattle.seize.specs.Given.SeizeWordsMem.{Mem, Can, Took, same_at, value_at, word_at, with_word}
use Rattle.seize.specs.Given.SeizeWordsDeclared.at.At.TheVariants.{Word}
use Rattle.seize.proofs.Given.SeizeWordsOneOwner.AfterWrites.{word_at-with_word}
use Rattle.std.proofs.lemmas.Bool.{eq-eqb}
use Rattle.seize_rule.proofs.Given.SeizeMovesState.Ghost.{IsOwned, lies_with, can_carry}
use Rattle.seize_rule.proofs.Points.Aside.{HandFits}
use Rattle.seize_rule.proofs.Given.SeizeMemoryWords.Named.{same_at-true}
use Rattle.seize.specs.World.{Hand, Making, times, World, Row, Rests, Registers, Enters, Settles, Leaves, Defers, Frees, Use, Vacant, Outside, Inside, Changing, IsInside, Steps', handed_by, settle_effects, leave_effects, register_effects, settles_on, registers_on, defers_on}
use Rattle.seize.specs.Given.SeizeWordsPlan.{May, Steps}
use Rattle.seize.proofs.Given.SeizeWordsOneOwner.Operations.{exchanged}
use Rattle.seize.specs.declared.states.TheConstants.{LAST_SLOT}
use Rattle.seize.specs.declared.advance.Advance.{Advance}
use Rattle.seize.specs.declared.advance.Advance.TheVariants as progress
use Rattle.seize.specs.declared.rows.settle.Settle.{Settle}
use Rattle.seize.specs.declared.rows.settle.Settled.{Settled}
use Rattle.seize.specs.declared.rows.settle.Settled.TheVariants.{Goes, Waits, Gave, Done}
use Rattle.seize.specs.declared.rows.leave.Leave.{Leave}
use Rattle.seize.specs.declared.rows.leave.Leaving.TheVariants as leaving
use Rattle.seize.specs.declared.rows.register.Register.{Register}
use Rattle.seize.specs.declared.rows.defer.Defer.{Defer}
use Rattle.seize.specs.declared.rows.defer.Deferring.{Deferring}
use Rattle.seize.specs.declared.rows.defer.Deferring.TheVariants as deferring
use Rattle.seize.specs.Settle.{settle_plan}
use Rattle.seize.specs.Leave.{leave_plan}
use Rattle.seize.specs.Register.{register_plan}
use Rattle.seize.specs.Defer as defer
use Rattle.seize.specs.Law.{Effect, Entered}
use Rattle.seize.specs.Sequence.{taken_in}
use Rattle.seize_model.specs.Alone.Alone.{Spares}
use Rattle.seize_rule.proofs.Given.SeizeMemoryWords.View.{view}
use Rattle.seize_rule.proofs.Rows.Known.{works_on, leaving_on, FitsDefer, FitsRow, Linked_to}
use Rattle.seize_rule.proofs.Rows.Teams.{shares, is_shared}
use Rattle.seize_rule.proofs.World.Good.{Good}
use Rattle.seize_rule.proofs.World.Kept.{row_may}
use Rattle.seize_rule.proofs.Rows.Others.{steps_others}
use Rattle.seize_model.proofs.Alone.Spared.Operations.{IsSparingPlan, plan_takes, plan_spares, spares_same}
use Rattle.seize_model.proofs.Alone.Spared.Steps.{settle_spares, leave_spares, register_spares, enter_spares, unregister_spares}
use Rattle.seize_rule.proofs.Rows.Taken.{TellsTaken, settle_tells}
use Rattle.seize_rule.proofs.Given.SeizeMovesState.Held.{NoneLeft}
use Rattle.seize_rule.proofs.Rows.Effects.{IsOneStep, settle_one, leave_one, register_one, settle_goes_on, leave_goes_on, register_goes_on, register_none}
use Rattle.seize_model.proofs.Alone.Spared.Users.{Frames, frames_spared, frames_list}

-- in these blocks, which their makers have and nobody took, all words are as they were
abbrev pub SparesMade : {T : Type 0} → World T → Mem T → List ℕ → Type 0
SparesMade w m2 back = (b h f : ℕ) → w.hand b ≡ Making h → times b back ≡ 0 → word_at m2 (Word b f) ≡ word_at w.memory (Word b f)

module _ {T : Type 0} (defers : T → Option ℕ) where
  -- what a step of row i did, told by the effects that it added
  pub record RowStepped (i : ℕ) (w w2 : World T) : Type 0 where
    pub effects : List Effect
    pub one : IsOneStep effects
    pub goes_on : (s : ℕ) → IsInside (w.uses s) → NoneLeft s effects
    pub logged : w2.log ≡ effects ++ w.log
    pub hands : w2.hand ≡ handed_by effects w.hand
    pub frames : Frames defers w.memory w2.memory (taken_in effects)
    pub made : SparesMade w w2.memory (taken_in effects)
    pub rows : (j : ℕ) → (j ≡ i → ⊥) → w2.row j ≡ w.row j

module _ {T : Type 0} {size : ℕ} (defers : T → Option ℕ) (w : World T) (good : Good defers (LAST_SLOT + 1) size w) (i : ℕ) where
  fits_at : (row : Row) → w.row i ≡ row → FitsRow (LAST_SLOT + 1) i (view defers w.memory) good.state good.extra (length w.memory.slots) row
  fits_at row is = subst (λ (r : Row). FitsRow (LAST_SLOT + 1) i (view defers w.memory) good.state good.extra (length w.memory.slots) r) is (good.rows i)

  -- words of users are as they were, and all words of what is not linked
  abbrev Framed : Mem T → List ℕ → Type 0
  Framed m2 back = Frames defers w.memory m2 back × SparesMade w m2 back

  all_spared : (m2 : Mem T) (back : List ℕ) → Spares w.memory m2 back → Framed m2 back
  all_spared m2 back h = (frames_spared defers w.memory m2 back h, λ b holder f making none. h.words b f none)

  spared : (m2 : Mem T) (effects : List Effect) (back : List ℕ) → back ≡ taken_in effects → Spares w.memory m2 back → Framed m2 (taken_in effects)
  spared m2 effects back e h = subst (Framed m2) e (all_spared m2 back h)

  settle_framed : (c : Settle) → w.row i ≡ Settles c → (m2 : Mem T) (end : Settle × Settled T) → Steps Took value_at w.memory (settle_plan defers c) m2 end
      → Framed m2 (taken_in (settle_effects c c.stands))
  settle_framed c is m2 end st =
      spared m2 (settle_effects c c.stands) (taken_in (settle_effects c c.stands)) refl
      (settle_spares defers (LAST_SLOT + 1) i w.memory m2 good.state good.extra good.inv good.shows c end (fits_at (Settles c) is) (row_may defers (LAST_SLOT + 1) size refl w good i (Settles c) is) st)

  leave_framed : (c : Leave) → w.row i ≡ Leaves c → (m2 : Mem T) (end : Leave × Settled T) → Steps Took value_at w.memory (leave_plan defers c) m2 end
      → Framed m2 (taken_in (leave_effects c c.stands))
  leave_framed c is m2 end st =
      spared m2 (leave_effects c c.stands) (taken_in (leave_effects c c.stands)) refl
      (leave_spares defers (LAST_SLOT + 1) i w.memory m2 good.state good.extra good.inv good.shows c end (fits_at (Leaves c) is) (row_may defers (LAST_SLOT + 1) size refl w good i (Leaves c) is) st)

  register_framed : (c : Register) → w.row i ≡ Registers c → (m2 : Mem T) (end : Register × Advance ℕ) → Steps Took value_at w.memory (register_plan c) m2 end
      → Framed m2 (taken_in (register_effects c c.stands))
  register_framed c is m2 end st =
      spared m2 (register_effects c c.stands) [] (sym (register_none c c.stands))
      (register_spares w.memory m2 c end (row_may defers (LAST_SLOT + 1) size refl w good i (Registers c) is) st)

  -- a deferring row writes the head of a list, and the block's own link
  defer_sparing : (s : ℕ) (c : Defer) (p : Deferring) → c.stands ≡ p → w.row i ≡ Defers s c → (m2 : Mem T) (end : Defer × Advance Unit) → IsSparingPlan (defer.plan_at {T = T} c p)
      → plan_takes (defer.plan_at {T = T} c p) ≡ [] → Steps Took value_at w.memory (defer.plan_at c p) m2 end → Framed m2 []
  defer_sparing s c p here is m2 end sparing none st =
      spared m2 [] (plan_takes (defer.plan_at {T = T} c p)) none
      (plan_spares w.memory (defer.plan_at c p) m2 end sparing
      (subst (λ (q : Deferring). May Can Took value_at w.memory (defer.plan_at c q)) here (row_may defers (LAST_SLOT + 1) size refl w good i (Defers s c) is)) st)

  -- what is not linked carries nothing
  apart : (s : ℕ) (c : Defer) (head : ℕ) (r : Linked_to (LAST_SLOT + 1) i (view defers w.memory) good.state good.extra s c.block c.table_word head) → (b h : ℕ) → w.hand b ≡ Making h → b ≡ r.on.t → ⊥
  apart s c head r b h making same =
      let owned : good.state.life b ≡ IsOwned h = subst (λ (k : Hand). HandFits k (good.state.life b)) making (good.hands b) in
      let carries = (good.inv.places.carries r.on.b r.on.t (ap (lies_with r.on.t) r.on.life ∙ eq-eqb r.on.t r.on.t refl)).2 in
      let none : can_carry (good.state.life r.on.t) ≡ false = ap (λ (x : ℕ). can_carry (good.state.life x)) (sym same) ∙ ap can_carry owned in
      cc (none, carries)

  defer_pushed : (s : ℕ) (c : Defer) (head : ℕ) → Linked_to (LAST_SLOT + 1) i (view defers w.memory) good.state good.extra s c.block c.table_word head → (m2 : Mem T) (end : Defer × Advance Unit)
      → Steps Took value_at w.memory (defer.plan_at c (deferring.Pushes head)) m2 end → Framed m2 []
  defer_pushed s c head r m2 end st =
      elim (exchanged w.memory (defer.after_push c) c.table_word head c.block m2 end st) as (λ _. Framed m2 []) [
        | inl d ↦
            let some : IsSome (word_at w.memory (Word r.on.t r.on.d)) = rw (sym (ap (λ (a : At). word_at w.memory a) r.on.at_is) ∙ d.1.0) refl in
            subst (λ (m : Mem T). Framed m []) (sym (d.2 ∙ ap (λ (a : At). with_word w.memory a c.block) r.on.at_is)) (
              frames_list defers w.memory r.on.t r.on.d c.block r.on.list some,
              λ b h f making none. word_at-with_word w.memory (Word r.on.t r.on.d) c.block (Word b f) some
                  ∙ ap (λ (z : Bool). if z then Some c.block else word_at w.memory (Word b f)) (other b h f making (same_at (Word b f) (Word r.on.t r.on.d)) refl),
            )
        | inr d ↦ subst (λ (m : Mem T). Framed m []) (sym d.2) (all_spared w.memory [] (spares_same w.memory))
      ]
    where
      other : (b h f : ℕ) → w.hand b ≡ Making h → (z : Bool) → same_at (Word b f) (Word r.on.t r.on.d) ≡ z → same_at (Word b f) (Word r.on.t r.on.d) ≡ false
      other b h f making false e = e
      other b h f making true e = absurd (apart s c head r b h making (block_is (same_at-true (Word b f) (Word r.on.t r.on.d) e)))
        where
          block_is : Word b f ≡ Word r.on.t r.on.d → b ≡ r.on.t
          block_is q = cc q

  defer_both : (s : ℕ) (c : Defer) → w.row i ≡ Defers s c → (m2 : Mem T) (end : Defer × Advance Unit) → Steps Took value_at w.memory (defer.defer_plan c) m2 end → Framed m2 []
  defer_both s c is m2 end st = by c.stands refl (fits_at (Defers s c) is) st
    where
      by : (p : Deferring) → c.stands ≡ p → FitsDefer (LAST_SLOT + 1) i (view defers w.memory) good.state good.extra s c.block c.table_word p
          → Steps Took value_at w.memory (defer.plan_at c p) m2 end → Framed m2 []
      by deferring.Reads here r st = defer_sparing s c deferring.Reads here is m2 end tt refl st
      by (deferring.Links head) here r st = defer_sparing s c (deferring.Links head) here is m2 end tt refl st
      by (deferring.Pushes head) here r st = defer_pushed s c head r m2 end st
      by deferring.Over here r st = defer_sparing s c deferring.Over here is m2 end tt refl st

  -- nobody else is in the section that it ends
  not_inside : (c : Leave) → w.row i ≡ Leaves c → c.stands ≡ leaving.Swaps → (s : ℕ) → IsInside (w.uses s) → c.slot ≡ s → ⊥
  not_inside c is p s inside e =
      let on : works_on (w.row i) ≡ c.slot + 1 = ap works_on is ∙ ap (leaving_on c.slot c.frees) p in
      by (w.uses c.slot) (subst (λ (t : ℕ). IsInside (w.uses t)) (sym e) inside) (sym (ap shares is) ∙ good.used.kinds i c.slot on)
    where
      by : (u : Use) → IsInside u → false ≡ is_shared u → ⊥
      by Vacant k q = k
      by (Outside j) k q = k
      by (Inside j) k q = cc q
      by Changing k q = k

  module _ (w2 : World T) (step : Steps' defers i (w.row i) w w2) where
    others : (j : ℕ) → (j ≡ i → ⊥) → w2.row j ≡ w.row j
    others j ne = steps_others defers size w w2 i j ne (w.row i) step

    -- what a row did, from the world that it came to
    comes : (v : World T) → w2 ≡ v → (effects : List Effect) → IsOneStep effects → ((s : ℕ) → IsInside (w.uses s) → NoneLeft s effects) → v.log ≡ effects ++ w.log → v.hand ≡ handed_by effects w.hand → Framed v.memory (taken_in effects)
        → RowStepped defers i w w2
    comes v e effects one on log hand framed = record {
      effects = effects;
      one = one;
      goes_on = on;
      logged = ap (λ (u : World T). u.log) e ∙ log;
      hands = ap (λ (u : World T). u.hand) e ∙ hand;
      frames = subst (λ (u : World T). Frames defers w.memory u.memory (taken_in effects)) (sym e) framed.0;
      made = subst (λ (u : World T). SparesMade w u.memory (taken_in effects)) (sym e) framed.1;
      rows = others;
    }

    settled : (c : Settle) → w.row i ≡ Settles c → (m2 : Mem T) (d : Settle) (p : Settled T) → Steps Took value_at w.memory (settle_plan defers c) m2 (d, p) → w2 ≡ settles_on w i c m2 (d, p) → RowStepped defers i w w2
    settled c is m2 d Goes st e = comes (settles_on w i c m2 (d, Goes)) e (settle_effects c c.stands) (settle_one c c.stands) (λ s h. settle_goes_on s c c.stands) refl refl (settle_framed c is m2 (d, Goes) st)
    settled c is m2 d Waits st e = comes (settles_on w i c m2 (d, Waits)) e (settle_effects c c.stands) (settle_one c c.stands) (λ s h. settle_goes_on s c c.stands) refl refl (settle_framed c is m2 (d, Waits) st)
    settled c is m2 d (Gave value) st e = comes (settles_on w i c m2 (d, Gave value)) e (settle_effects c c.stands) (settle_one c c.stands) (λ s h. settle_goes_on s c c.stands) refl refl (settle_framed c is m2 (d, Gave value) st)
    settled c is m2 d Done st e =
        let none : TellsTaken w.memory m2 (settle_effects c c.stands) Done = settle_tells defers w.memory m2 c (d, Done) st in
        comes (settles_on w i c m2 (d, Done)) e [] tt (λ t h. tt) refl refl (subst (Framed m2) none (settle_framed c is m2 (d, Done) st))

    registered : (c : Register) → w.row i ≡ Registers c → (m2 : Mem T) (d : Register) (p : Advance ℕ) → Steps Took value_at w.memory (register_plan c) m2 (d, p) → w2 ≡ registers_on w i c m2 (d, p)
        → RowStepped defers i w w2
    registered c is m2 d progress.Goes st e = comes (registers_on w i c m2 (d, progress.Goes)) e (register_effects c c.stands) (register_one c c.stands) (λ t h. register_goes_on t c c.stands) refl refl (register_framed c is m2 (d, progress.Goes) st)
    registered c is m2 d progress.Waits st e = comes (registers_on w i c m2 (d, progress.Waits)) e (register_effects c c.stands) (register_one c c.stands) (λ t h. register_goes_on t c c.stands) refl refl (register_framed c is m2 (d, progress.Waits) st)
    registered c is m2 d (progress.Done s) st e = comes (registers_on w i c m2 (d, progress.Done s)) e (register_effects c c.stands) (register_one c c.stands) (λ t h. register_goes_on t c c.stands) refl refl (register_framed c is m2 (d, progress.Done s) st)
    registered c is m2 d (progress.Refused fault) st e = comes (registers_on w i c m2 (d, progress.Refused fault)) e [] tt (λ t h. tt) refl refl
        (subst (Framed m2) (register_none c c.stands) (register_framed c is m2 (d, progress.Refused fault) st))

    deferred : (s : ℕ) (c : Defer) → w.row i ≡ Defers s c → (m2 : Mem T) (d : Defer) (p : Advance Unit) → Steps Took value_at w.memory (defer.defer_plan c) m2 (d, p) → w2 ≡ defers_on w i s m2 (d, p)
        → RowStepped defers i w w2
    deferred s c is m2 d progress.Goes st e = comes (defers_on w i s m2 (d, progress.Goes)) e [] tt (λ t h. tt) refl refl (defer_both s c is m2 (d, progress.Goes) st)
    deferred s c is m2 d progress.Waits st e = comes (defers_on w i s m2 (d, progress.Waits)) e [] tt (λ t h. tt) refl refl (defer_both s c is m2 (d, progress.Waits) st)
    deferred s c is m2 d (progress.Done u) st e = comes (defers_on w i s m2 (d, progress.Done u)) e [] tt (λ t h. tt) refl refl (defer_both s c is m2 (d, progress.Done u) st)
    deferred s c is m2 d (progress.Refused fault) st e = comes (defers_on w i s m2 (d, progress.Refused fault)) e [] tt (λ t h. tt) refl refl (defer_both s c is m2 (d, progress.Refused fault) st)

    pub row_stepped : RowStepped defers i w w2
    row_stepped = by (w.row i) refl step
      where
        by : (row : Row) → w.row i ≡ row → Steps' defers i row w w2 → RowStepped defers i w w2
        by Rests is h = absurd h
        by (Registers c) is h = registered c is h.0 h.1.0 h.1.1 h.2 h.3
        by (Enters c) is h =
            comes _ h.3 (Entered c.slot ∷ []) tt (λ s h. (tt, tt)) refl refl
            (all_spared h.0 [] (enter_spares w.memory h.0 c h.1 (row_may defers (LAST_SLOT + 1) size refl w good i (Enters c) is) h.2))
        by (Settles c) is h = settled c is h.0 h.1.0 h.1.1 h.2 h.3
        by (Leaves c) is h = comes _ h.3 (leave_effects c c.stands) (leave_one c c.stands) (λ s h. leave_goes_on s c c.stands (λ p. not_inside c is p s h)) refl refl (leave_framed c is h.0 h.1 h.2)
        by (Defers s c) is h = deferred s c is h.0 h.1.0 h.1.1 h.2 h.3
        by (Frees c) is h =
            comes _ h.3 [] tt (λ s h. tt) refl refl
            (all_spared h.0 [] (unregister_spares w.memory h.0 c h.1 (row_may defers (LAST_SLOT + 1) size refl w good i (Frees c) is) h.2))
