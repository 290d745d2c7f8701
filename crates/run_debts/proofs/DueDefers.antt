-- A step of a row that puts a block behind a table: until it is there, the row has it in hand; with that it is told; then it has none.
use Rattle.std.specs.Prelude.{◌≡◌, ℕ, ◌+◌, ◌<◌, Option, Some, None, Ok, Err, Bool, true, false, List, [], ◌∷◌, ◌==◌, if◌then◌else◌}
use Rattle.std.proofs.Common.{refl, ap, sym, subst, ◌∙◌, arith}
use Rattle.std.proofs.lemmas.Bool.{ne_eqb, eq-eqb}
use Rattle.run_places.specs.Given.SeizeWordsDeclared.at.At.{At}
use Rattle.run_places.specs.Given.SeizeWordsDeclared.at.At.TheVariants as name
use Rattle.run_places.specs.Given.SeizeWordsOp.{Found, Stored, Exchanged, Made, Taken, Roomed}
use Rattle.run_places.specs.Given.SeizeWordsMem.{Mem, value_at, word_at}
use Rattle.run_places.specs.Given.SeizeWordsWord.{block_in}
use Rattle.run_places.specs.Given.SeizeFurther.{IsWordOf}
use Rattle.run_places.specs.Given.SeizeDeclared.advance.Advance.{Advance}
use Rattle.run_places.specs.Given.SeizeDeclared.states.TheConstants.{LAST_SLOT}
use Rattle.run_places.specs.Given.SeizeDeclared.rows.defer.Defer.{Defer}
use Rattle.run_places.specs.Given.SeizeDeclared.rows.defer.Deferring.{Deferring}
use Rattle.run_places.specs.Given.SeizeDeclared.rows.defer.Deferring.TheVariants as at
use Rattle.run_places.specs.Given.SeizeDefer as plans
use Rattle.run_places.specs.Given.SeizeLaw.{holds}
use Rattle.owner_facts.specs.Given.SeizeWaitingHeld.{count}
use Rattle.owner_facts.proofs.Given.SeizeMovesState.Ghost.{Debt, Life, IsDoomed, IsLeft, State, can_carry, is_deferred, lies_with}
use Rattle.owner_facts.proofs.Given.SeizeMovesState.Rule.{IsGuarded}
use Rattle.owner_facts.proofs.Given.SeizeRuleRows.Known.{FitsDefer, OnWay}
use Rattle.owner_facts.proofs.Given.SeizeMemoryWords.Chains.{Chain, count_first}
use Rattle.owner_facts.proofs.Given.SeizeMemoryWords.Named.{link, word_found}
use Rattle.owner_facts.proofs.Given.SeizeMemoryWords.Shows.{DeferredIs, DrainedIs}
use Rattle.owner_facts.proofs.Given.SeizeMemoryWords.View.{view, list_in}
use Rattle.owner_facts.proofs.Given.SeizeAloneHistories.Reached.{Reached}
use Rattle.run_places.specs.Given.SeizeWorld.{World}
use Rattle.run_places.specs.Given.TablesNodes.{deferred_word}
use Rattle.run_places.specs.Given.TablesDeclared.node.Node.{Node}
use Rattle.run_places.specs.Given.TablesDeclared.node.Node.TheVariants as node
use Rattle.run_places.specs.Given.TablesDeclared.table_words.TheConstants.{DEFERRED}
use Rattle.run_places.specs.Given.RunsDeclared.effect.TableId.{TableId}
use Rattle.run_places.specs.Given.TellerTells.{StepsObserved}
use Rattle.run_places.specs.Given.EffectsDeclared.changed.Changed.{Changed}
use Rattle.run_places.specs.Given.EffectsDeclared.changed.Changed.TheVariants as changed
use Rattle.run_places.specs.Given.EffectsEffects.{carried, in_block, named, names_same}
use Rattle.run_places.specs.Given.EffectsKnown.{Known}
use Rattle.run_places.specs.Given.EffectsDeclared.acting.Acting.TheVariants as acts
use Rattle.run_places.specs.Given.EffectsDeclared.role.Role.{Role}
use Rattle.run_places.specs.Given.EffectsDeclared.role.Role.TheVariants as role
use Rattle.run_debts.specs.Due.{ToPut, due_in_defer, RowTells, TellsNone, TellsDeferred}
use Rattle.run_debts.proofs.DueSettles.{effects_by, plan_none}
use Rattle.owner_facts.proofs.Given.SeizeRulePoints.Retire.{of_link as named_by}

-- each block that has a list, and may carry what is put on it, is noted as a table
abbrev pub AreTables : {K V : Type 0} → Mem (Node K V) → (ℕ → Life) → Known → Type 0
AreTables memory life known = (b d : ℕ) → (view deferred_word memory).lists b ≡ Some d → can_carry (life b) ≡ true → (t : TableId) × (len : ℕ) × (known.roles b ≡ role.Table t len)

-- the list of a block that a section holds, and that may carry others, was not taken over
undrained : (l : Life) (debt : ℕ → ℕ → Debt) (s : ℕ) (d : Bool) → IsGuarded l debt s → can_carry l ≡ true → DrainedIs l d → d ≡ false
undrained (IsDoomed j) debt s d guarded can drained = absurd guarded
undrained (IsLeft j) debt s d guarded can drained = absurd (cc can)
undrained _ debt s d guarded can drained = drained

chain_of : (nexts : ℕ → ℕ) (own : ℕ → ℕ) (o : Option ℕ) (drained : Bool) (l : List ℕ) (d : ℕ) → o ≡ Some d → drained ≡ false → DeferredIs nexts own o drained l → Chain 0 nexts (own d) l
chain_of nexts own None drained l d is fresh h = absurd (cc is)
chain_of nexts own (Some e) true l d is fresh h = absurd (cc fresh)
chain_of nexts own (Some e) false l d is fresh h = (let same : e ≡ d = cc is in subst (λ (k : ℕ). Chain 0 nexts (own k) l) same h)

-- it is the list of a table
word_of_list : {K V : Type 0} (o : Option (Node K V)) (d : ℕ) → list_in deferred_word o ≡ Some d → d ≡ DEFERRED
word_of_list None d is = absurd (cc is)
word_of_list (Some (node.Table len limit turn)) d is = by (len == 0) is
  where
    by : (q : Bool) → (if q then None else Some DEFERRED) ≡ Some d → d ≡ DEFERRED
    by true e = absurd (cc e)
    by false e = sym (cc e)
word_of_list (Some _) d is = absurd (cc is)

module _ {K V : Type 0} {size : ℕ} (w : World (Node K V)) (r : Reached deferred_word size w) (i caller map : ℕ) (known : Known) (m2 : Mem (Node K V)) (told : Changed) (s : ℕ) (c : Defer)
    (fits : FitsDefer (LAST_SLOT + 1) i (view deferred_word w.memory) r.good.state r.good.extra s c.block c.table_word c.stands) (end : Defer × Advance Unit)
    (steps : StepsObserved K V (Defer × Advance Unit) w.memory changed.Nothing (plans.defer_plan c) m2 told end)
    (tables : AreTables w.memory r.good.state.life known) where
  abbrev m : State
  m = r.good.state

  abbrev SteppedAt : Deferring → Type 0
  SteppedAt p = StepsObserved K V (Defer × Advance Unit) w.memory changed.Nothing (plans.plan_at {T = Node K V} c p) m2 told end

  abbrev FitsHere : Deferring → Type 0
  FitsHere p = FitsDefer (LAST_SLOT + 1) i (view deferred_word w.memory) m r.good.extra s c.block c.table_word p

  -- so it goes on
  abbrev Goes : Deferring → Type 0
  Goes p = RowTells caller map known (effects_by caller map known told) (due_in_defer c p) (due_in_defer end.0 end.0.stands)

  -- it is in its section, behind which it is to be put, and that may carry it
  way : (on : OnWay (LAST_SLOT + 1) i (view deferred_word w.memory) m r.good.extra s c.block c.table_word) → (m.section i ≡ s + 1) × (m.defers i ≡ on.b + 1) × (holds s on.t m.log ≡ true)
  way on = r.good.inv.logged.on_way on.b i s on.t on.life

  carries : (on : OnWay (LAST_SLOT + 1) i (view deferred_word w.memory) m r.good.extra s c.block c.table_word) → can_carry (m.life on.t) ≡ true
  carries on = (r.good.inv.places.carries on.b on.t (ap (lies_with on.t) on.life ∙ eq-eqb on.t on.t refl)).2

  -- the head of the list is another block
  apart : (on : OnWay (LAST_SLOT + 1) i (view deferred_word w.memory) m r.good.extra s c.block c.table_word) (head : ℕ) → word_at w.memory (name.Word on.t on.d) ≡ Some head → names_same head c.block ≡ false
  apart on head found = ne_eqb (block_in head) (block_in c.block) (λ e. by (m.deferred on.t) refl (e ∙ named_by c.block on.b on.block_is))
    where
      fresh : r.good.extra.drained on.t ≡ false
      fresh = undrained (m.life on.t) m.debt s (r.good.extra.drained on.t) (r.good.inv.logged.guarded s on.t (way on).2) (carries on) (r.good.shows.lists.drains on.t)

      chain : Chain 0 (view deferred_word w.memory).nexts ((view deferred_word w.memory).own on.t on.d) (m.deferred on.t)
      chain = chain_of (view deferred_word w.memory).nexts ((view deferred_word w.memory).own on.t) ((view deferred_word w.memory).lists on.t) (r.good.extra.drained on.t) (m.deferred on.t) on.d on.list fresh
          (r.good.shows.lists.deferring on.t)

      head_is : (view deferred_word w.memory).own on.t on.d ≡ head
      head_is = word_found w.memory (name.Word on.t on.d) head found

      none_there : count on.b (m.deferred on.t) ≡ 0
      none_there = r.good.inv.places.all_deferred on.t on.b ∙ ap (is_deferred on.t) on.life

      by : (l : List ℕ) → m.deferred on.t ≡ l → block_in head ≡ on.b → ⊥
      by [] is e =
          let zero : head ≡ 0 = sym head_is ∙ subst (λ (k : List ℕ). Chain 0 (view deferred_word w.memory).nexts ((view deferred_word w.memory).own on.t on.d) k) is chain in
          let none : 0 ≡ on.b = sym (ap block_in zero) ∙ e in
          let some = on.some in absurd (omega (arith, none, some))
      by (x ∷ l) is e =
          let word : head ≡ link x = sym head_is ∙ (subst (λ (k : List ℕ). Chain 0 (view deferred_word w.memory).nexts ((view deferred_word w.memory).own on.t on.d) k) is chain).1 in
          let same : x ≡ on.b = sym (named_by head x word) ∙ e in
          let none : count on.b (x ∷ l) ≡ 0 = ap (count on.b) (sym is) ∙ none_there in
          let some : 0 < count on.b (x ∷ l) = subst (λ (k : ℕ). 0 < count on.b (k ∷ l)) (sym same) (count_first on.b l) in
          absurd (omega (arith, none, some))

  -- a table carries its pairs by this word
  put_told : (x : Role) (t : TableId) (len : ℕ) → x ≡ role.Table t len → (was is : Role) → in_block (acts.Call caller map) x DEFERRED known.stored false was is ≡ carried t is
  put_told x t len e was is = ap (λ (y : Role). in_block (acts.Call caller map) y DEFERRED known.stored false was is) e

  still : (p : Deferring) (word : ℕ) (place : At) → due_in_defer c p ≡ Some (ToPut word place) → due_in_defer end.0 end.0.stands ≡ Some (ToPut word place) → effects_by caller map known told ≡ [] → Goes p
  still p word place due after none = TellsNone none (after ∙ sym due)

  pub defer_tells : Goes c.stands
  defer_tells = by c.stands refl fits steps
    where
      reads : c.stands ≡ at.Reads → SteppedAt at.Reads → due_in_defer end.0 end.0.stands ≡ Some (ToPut c.block c.table_word)
      reads is (Found head, (took, told_so), ends) = ap (λ (q : Defer × Advance Unit). due_in_defer q.0 q.0.stands) ends
      reads is (Stored, (took, told_so), ends) = absurd took.0
      reads is (Exchanged x, (took, told_so), ends) = absurd took.0
      reads is (Made x, (took, told_so), ends) = absurd took.0
      reads is (Taken x, (took, told_so), ends) = absurd took.0
      reads is (Roomed x, (took, told_so), ends) = absurd took.0

      pushes : (head : ℕ) → FitsHere (at.Pushes head) → SteppedAt (at.Pushes head) → Goes (at.Pushes head)
      pushes head f (Exchanged (Ok found), (took, told_so), ends) =
          let told_at : told ≡ changed.Wrote (name.Word f.on.t f.on.d) found c.block = told_so ∙ ap (λ (a : At). changed.Wrote a found c.block) f.on.at_is in
          let there : word_at w.memory (name.Word f.on.t f.on.d) ≡ Some found = subst (λ (a : At). word_at w.memory a ≡ Some found) f.on.at_is took.0.0 in
          let table = tables f.on.t f.on.d f.on.list (carries f.on) in
          TellsDeferred c.block f.on.t c.table_word table.0 table.1 refl (subst (IsWordOf f.on.t) (sym f.on.at_is) refl) (ap (λ (q : Defer × Advance Unit). due_in_defer q.0 q.0.stands) ends) table.2
          (ap (effects_by caller map known) told_at
          ∙ ap (λ (q : Bool). in_block (acts.Call caller map) (known.roles f.on.t) f.on.d known.stored q (named known found) (named known c.block)) (apart f.on found there)
          ∙ ap (λ (d : ℕ). in_block (acts.Call caller map) (known.roles f.on.t) d known.stored false (named known found) (named known c.block)) (word_of_list (value_at w.memory f.on.t) f.on.d f.on.list)
          ∙ put_told (known.roles f.on.t) table.0 table.1 table.2 (named known found) (named known c.block))
      pushes head f (Exchanged (Err found), (took, told_so), ends) =
          TellsNone (ap (effects_by caller map known) told_so) (ap (λ (q : Defer × Advance Unit). due_in_defer q.0 q.0.stands) ends)
      pushes head f (Found x, (took, told_so), ends) = absurd took.0
      pushes head f (Stored, (took, told_so), ends) = absurd took.0
      pushes head f (Made x, (took, told_so), ends) = absurd took.0
      pushes head f (Taken x, (took, told_so), ends) = absurd took.0
      pushes head f (Roomed x, (took, told_so), ends) = absurd took.0

      by : (p : Deferring) → c.stands ≡ p → FitsHere p → SteppedAt p → Goes p
      by at.Reads is f st = still at.Reads c.block c.table_word refl (reads is st) (plan_none caller map known w.memory m2 told (plans.plan_at {T = Node K V} c at.Reads) end st tt)
      by (at.Links head) is f st =
          still (at.Links head) c.block c.table_word refl (ap (λ (q : Defer × Advance Unit). due_in_defer q.0 q.0.stands) st.2)
          (plan_none caller map known w.memory m2 told (plans.plan_at {T = Node K V} c (at.Links head)) end st (λ e. absurd (omega (arith, e))))
      by (at.Pushes head) is f st = pushes head f st
      by at.Over is f st =
          TellsNone (ap (effects_by caller map known) st.2) (ap (λ (q : Defer × Advance Unit). due_in_defer q.0 q.0.stands) st.1 ∙ ap (due_in_defer c) is)
