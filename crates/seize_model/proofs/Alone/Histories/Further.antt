-- What is behind a block in use: its list stands in the memory, the collector has those blocks, and each stands there once.
use Rattle.std.specs.Prelude.{Option, Some, None, IsSome, is_some}
use Rattle.std.proofs.Common.{◌^◌, ◌≡◌, ℕ, ◌+◌, ◌<◌, ◌≤◌, Bool, true, false, cond, List, [], length, refl, arith, ap, sym, subst, ◌∙◌}
use Rattle.seize.specs.Given.SeizeWordsDeclared.at.At.TheVariants.{Entry, Word}
use Rattle.seize.specs.Given.SeizeWordsMem.{Mem, value_at, word_at}
use Rattle.seize.specs.declared.states.TheConstants.{NEXT, LAST_SLOT}
use Rattle.seize.specs.Law.{With, Nowhere, where_is}
use Rattle.seize.specs.Further.{FurtherFrom, FurtherAre}
use Rattle.seize.specs.World.{World, IsOnto, Hand, NoBlock, Making, InUse, Parting, Cutting, Handed, LeftTo, times, at_start}
use Rattle.seize_rule.proofs.Given.SeizeMovesState.Ghost.{lies_with, Life, IsFree, IsOwned, IsUnlinked, IsDeferring, IsPending, IsIn, IsDoomed, IsLeft, IsLinked, IsDeferred, State, is_deferred, place_of, is_linked}
use Rattle.seize_rule.proofs.Points.Aside.{HandFits}
use Rattle.seize_rule.proofs.Given.SeizeMemoryWords.Chains.{Chain}
use Rattle.seize_rule.proofs.Given.SeizeMemoryWords.Shows.{DeferredIs, DrainedIs, CarrierIs, lives}
use Rattle.seize_rule.proofs.Given.SeizeMemoryWords.View.{view, list_in}
use Rattle.seize_rule.proofs.Given.SeizeMemoryWords.Lists.{some_word, list_from, deferred_of}
use Rattle.seize_rule.proofs.Given.SeizeMemoryWords.Named.{word_found}
use Rattle.seize_rule.proofs.Given.SeizeMemoryWords.There.{entry_there, list_there, value_there}
use Rattle.seize_rule.proofs.World.Good.{Good}
use Rattle.seize_rule.proofs.Rows.Onto.{row_onto}
use Rattle.seize_model.proofs.Alone.Histories.Hands.{times_counted}
use Rattle.std.proofs.lemmas.Bool.{eq-eqb}
use Rattle.seize_model.proofs.Sets.Turns.All.{turns_shown, start_shown}
use Rattle.seize_model.specs.Alone.Alone.{History, IsHistory, at_rest}
use Rattle.seize.specs.WaitingSets.{further_of, all_changed, at_start as sets_at_start}
use Rattle.seize_rule.specs.Given.SeizeWaitingHeld.{count}
use Rattle.seize_rule.proofs.Given.SeizeWaitingCounts.{none_counted}

pub record Behind {T : Type 0} (defers : T → Option ℕ) (w : World T) (b : ℕ) : Type 0 where
  pub blocks : List ℕ
  pub are : FurtherAre defers w.memory b blocks
  pub once : (x : ℕ) → times x blocks ≤ 1
  pub theirs : (x : ℕ) → 0 < times x blocks → (w.hand x ≡ Handed) × (where_is x w.log ≡ With b) × IsSome (value_at w.memory x)
  pub all : (x : ℕ) → where_is x w.log ≡ With b → 0 < times x blocks

handed_of : (h : Hand) (b : ℕ) (l : Life) → l ≡ IsDeferred b → HandFits h l → h ≡ Handed
handed_of NoBlock b l e f = absurd (cc (e, f))
handed_of (Making i) b l e f = absurd (cc (e, f))
handed_of (InUse o) b l e f = absurd (cc (e, f))
handed_of (Parting i) b l e f = absurd (cc (e, f))
handed_of (Cutting i) b l e f = absurd (cc (e, f))
handed_of Handed b l e f = refl
handed_of (LeftTo i) b l e f = absurd (cc (e, f))

module _ {T : Type 0} {size : ℕ} (defers : T → Option ℕ) (w : World T) (good : Good defers (LAST_SLOT + 1) size w) (b : ℕ) (onto_no : (j : ℕ) → IsOnto b (w.row j) → ⊥) where
  -- what can be reached through a block, while no row puts a block on its list, is deferred to it
  onto_none : (x i s : ℕ) → good.state.life x ≡ IsDeferring i s b → ⊥
  onto_none x i s e = onto_no i (row_onto (LAST_SLOT + 1) i (length w.memory.slots) s x b (view defers w.memory) good.state good.extra good.inv e (w.row i) (good.rows i))

  with_of : (l : Life) → place_of good.state.life l ≡ With b → ((i s : ℕ) → l ≡ IsDeferring i s b → ⊥) → l ≡ IsDeferred b
  with_of IsFree e none = absurd (cc e)
  with_of (IsOwned i) e none = absurd (cc e)
  with_of IsLinked e none = absurd (cc e)
  with_of (IsUnlinked i) e none = absurd (cc e)
  with_of (IsDeferring i s t) e none = absurd (none i s (ap (λ (u : ℕ). IsDeferring i s u) (at t (is_linked (good.state.life t)) e)))
    where
      at : (t : ℕ) (q : Bool) → cond q (With t) Nowhere ≡ With b → t ≡ b
      at t true k = cc k
      at t false k = absurd (cc k)
  with_of (IsDeferred t) e none = ap IsDeferred (at t (is_linked (good.state.life t)) e)
    where
      at : (t : ℕ) (q : Bool) → cond q (With t) Nowhere ≡ With b → t ≡ b
      at t true k = cc k
      at t false k = absurd (cc k)
  with_of (IsPending i) e none = absurd (cc e)
  with_of (IsIn x) e none = absurd (cc e)
  with_of (IsDoomed i) e none = absurd (cc e)
  with_of (IsLeft i) e none = absurd (cc e)

  behind_life : (x : ℕ) → where_is x w.log ≡ With b → good.state.life x ≡ IsDeferred b
  behind_life x e = with_of (good.state.life x) (sym (good.inv.logged.reaches x) ∙ ap (where_is x) good.logged ∙ e) (λ i s k. onto_none x i s k)

  -- a block without a list carries none
  no_carrier : (value : T) → value_at w.memory b ≡ Some value → defers value ≡ None → good.state.carrier b ≡ false
  no_carrier value is none =
      carrier_none (good.state.life b) (good.state.carrier b) (list_in defers (value_at w.memory b)) (ap is_some is) (good.shows.lists.carriers b) (ap (list_in defers) is ∙ none) (good.shows.lists.lived b)
    where
      carrier_none : (l : Life) (k : Bool) (o : Option ℕ) → is_some (value_at w.memory b) ≡ true → CarrierIs l k o → o ≡ None → is_some (value_at w.memory b) ≡ lives l → k ≡ false
      carrier_none l k o some c e lived = grind (arith, some, c, e, lived)

  -- nothing is behind it
  pub none_behind : (x : ℕ) (value : T) → value_at w.memory b ≡ Some value → defers value ≡ None → where_is x w.log ≡ With b → ⊥
  none_behind x value is none behind =
      let lies_there = (good.inv.places.carries x b (ap (lies_with b) (behind_life x behind) ∙ eq-eqb b b refl)).1 in
      let k = no_carrier value is none in
      absurd (cc (lies_there, k))

  pub lies : (c : ℕ) → good.state.carrier b ≡ false → count c (good.state.deferred b) ≡ 0
  lies c none = grind (arith, none, good.inv.places.all_deferred b c, good.inv.places.carries c b)

  pub none_deferred : (value : T) → value_at w.memory b ≡ Some value → defers value ≡ None → good.state.deferred b ≡ []
  none_deferred value is none = none_counted (good.state.deferred b) (λ c. lies c (no_carrier value is none))

module _ {T : Type 0} {size : ℕ} (defers : T → Option ℕ) (w : World T) (good : Good defers (LAST_SLOT + 1) size w) (b : ℕ) (onto_no : (j : ℕ) → IsOnto b (w.row j) → ⊥) (o : ℕ) (used : w.hand b ≡ InUse o) where
  abbrev pub m : State
  m = good.state

  linked : m.life b ≡ IsLinked
  linked = subst (λ (h : Hand). HandFits h (m.life b)) used (good.hands b)

  -- what stands on its list is deferred to it
  on_it : (c : ℕ) → (count c (m.deferred b) ≡ 0 → ⊥) → m.life c ≡ IsDeferred b
  on_it c ne = deferred_of b (m.life c) (λ e. ne (good.inv.places.all_deferred b c ∙ e))

  lives_on : (c : ℕ) → m.life c ≡ IsDeferred b → lives (m.life c) ≡ true
  lives_on c e = ap lives e

  alive : (l : Life) (k : Bool) (o : Option ℕ) → l ≡ IsLinked → CarrierIs l k o → k ≡ is_some o
  alive l k o e c = grind (arith, e, c)

  undrained : (l : Life) (d : Bool) → l ≡ IsLinked → DrainedIs l d → d ≡ false
  undrained l d e k = grind (arith, e, k)

  chain : (o : Option ℕ) (d : ℕ) (q : Bool) → o ≡ Some d → q ≡ false → DeferredIs (view defers w.memory).nexts ((view defers w.memory).own b) o q (m.deferred b)
      → Chain 0 (view defers w.memory).nexts ((view defers w.memory).own b d) (m.deferred b)
  chain o d q e f k = grind (arith, e, f, k)

  from : (o : Option ℕ) → list_in defers (value_at w.memory b) ≡ o → FurtherFrom w.memory b o (m.deferred b)
  from None e =
      let none = alive (m.life b) (m.carrier b) ((view defers w.memory).lists b) linked (good.shows.lists.carriers b) ∙ ap is_some e in
      none_counted (m.deferred b) (λ c. lies defers w good b onto_no c none)
  from (Some d) e =
      let a = some_word (word_at w.memory (Word b d)) (list_there defers (LAST_SLOT + 1) w.memory m good.extra b d good.stocked e) in (
        a.0,
        a.1,
        list_from w.memory (view defers w.memory).nexts a.0 (m.deferred b) (λ c v is. word_found w.memory (Entry c NEXT) v is)
            (λ c ne. entry_there defers (LAST_SLOT + 1) w.memory m good.extra c NEXT good.stocked good.shows (lives_on c (on_it c ne)) (omega arith))
            (subst (λ (v : ℕ). Chain 0 (view defers w.memory).nexts v (m.deferred b)) (word_found w.memory (Word b d) a.0 a.1)
            (chain ((view defers w.memory).lists b) d (good.extra.drained b) e (undrained (m.life b) (good.extra.drained b) linked (good.shows.lists.drains b)) (good.shows.lists.deferring b))),
      )

  pub behind_it : (value : T) → value_at w.memory b ≡ Some value → Behind defers w b
  behind_it value is = record {
    blocks = m.deferred b;
    are = (value, is, from (defers value) (ap (list_in defers) is));
    once = λ x. let a = times_counted x (m.deferred b) in let e = good.inv.places.all_deferred b x in let d = no_more x (m.life x) in omega (arith, a, e, d);
    theirs = λ x some.
        let life = on_it x (λ e. let a = times_counted x (m.deferred b) in omega (arith, a, e, some)) in (
          handed_of (w.hand x) b (m.life x) life (good.hands x),
          ap (where_is x) (sym good.logged) ∙ good.inv.logged.reaches x ∙ ap (place_of m.life) life ∙ ap (λ (l : Life). cond (is_linked l) (With b) Nowhere) linked,
          value_there defers (LAST_SLOT + 1) w.memory m good.extra x good.shows (lives_on x life),
        );
    all = λ x behind.
        let life = behind_life defers w good b onto_no x behind in
        let a = times_counted x (m.deferred b) in let k = good.inv.places.all_deferred b x in let d = is_one x life in omega (arith, a, k, d);
  }
    where
      is_one : (x : ℕ) → m.life x ≡ IsDeferred b → is_deferred b (m.life x) ≡ 1
      is_one x e = ap (is_deferred b) e ∙ ap (λ (t : Bool). cond t 1 0) (eq-eqb b b refl)

      no_more : (x : ℕ) (l : Life) → is_deferred b l ≤ 1
      no_more x l = grind arith

module _ {T : Type 0} (defers : T → Option ℕ) (size roots : ℕ) (word : size < 2 ^ 64) (mem : Mem T) (h : History) (had : IsHistory defers size roots mem h) where
  -- nor in the waiting sets
  pub none_put_history : (b : ℕ) (value : T) → value_at mem b ≡ Some value → defers value ≡ None → further_of b (all_changed size h.before sets_at_start).sets.further ≡ []
  none_put_history b value is none =
      let shown = turns_shown defers (LAST_SLOT + 1) size refl word had.0 (at_start defers roots) (at_rest defers mem h) h.before sets_at_start (start_shown defers (LAST_SLOT + 1) size refl word roots) had.1 in
      shown.models.put b ∙ none_deferred defers (at_rest defers mem h) shown.rested.good b (λ j onto. onto) value is none
