-- What a step of a call does, and what is known after it, where its operation leaves what each word of its map names.
use Rattle.std.specs.Prelude.{◌≡◌, ◌≢◌, ℕ, ◌-◌, ◌<◌, ◌≤◌, ◌==◌, Bool, true, false, List, [], Some, if◌then◌else◌, ◌⊎◌}
use Rattle.std.proofs.Common.{refl, ap, sym, subst, ◌∙◌, arith, inl, inr}
use Rattle.std.proofs.lemmas.Bool.{ne_eqb, eq-eqb, cases_eq, cases_lt}
use Rattle.seize_words.specs.declared.at.At.{At}
use Rattle.seize_words.specs.declared.at.At.TheVariants.{Root, Used, Slot, Entry, Word}
use Rattle.seize_words.specs.OneMemory.Mem.{Mem, value_at, word_at}
use Rattle.seize_words.specs.OneMemory.Word.{block_in}
use Rattle.seize.specs.World.{World, Making}
use Rattle.run_effects.specs.Given.TablesNodes.{deferred_word}
use Rattle.run_effects.specs.Given.TablesDeclared.node.Node.{Node}
use Rattle.run_effects.specs.Given.TablesDeclared.node.Node.TheVariants as node
use Rattle.run_effects.specs.Given.TablesDeclared.setting.Setting.{Setting}
use Rattle.run_effects.specs.Given.TablesDeclared.table_words.TheConstants.{NEXT, DEFERRED, PLACES}
use Rattle.run_effects.proofs.Given.TablesLists.{table_list}
use Rattle.run_effects.specs.Given.RunsDeclared.effect.Effect.{Effect}
use Rattle.run_effects.specs.Given.RunsDeclared.effect.TableId.{TableId}
use Rattle.run_effects.specs.Tells.Tells.{PreservesNames}
use Rattle.run_effects.specs.Given.RuleChart.{Chart}
use Rattle.run_effects.specs.Given.RuleWords.{Blocks}
use Rattle.run_effects.specs.Given.RuleInWorld.{IsOut, InFootprint, IsMapIn, StepSpec}
use Rattle.run_effects.specs.Effects.Effects.{names_same, led_to, is_place, placed, spot_at, carried, followed_by, in_table, in_block, batched, named, written_by, linked_on, stored_on, in_table_on, in_block_on, written_on}
use Rattle.run_effects.specs.Effects.Known.{Known}
use Rattle.run_effects.specs.declared.acting.Acting.{Acting}
use Rattle.run_effects.specs.declared.acting.Acting.TheVariants.{Call}
use Rattle.run_effects.specs.declared.role.Role.{Role}
use Rattle.run_effects.specs.declared.role.Role.TheVariants as role
use Rattle.run_shows.specs.Follows.Blocks.{WasLinked, HasRole}
use Rattle.run_shows.specs.Follows.Maps.{table_of}
use Rattle.run_shows.proofs.Follows.Alike.{AllCalm}
use Rattle.run_shows.proofs.Follows.Lists.{HasList, events_list}

-- what is done moves and copies nothing, and as much is known
abbrev pub DoneStill : Known → List Effect → Known → Type 0
DoneStill known effects after = AllCalm effects × (after ≡ known)

-- a word that is the same names the same
pub same_name : (old new : ℕ) → new ≡ old → names_same old new ≡ true
same_name old new e = eq-eqb (block_in old) (block_in new) (ap block_in (sym e))

-- a word that is none of a link, a list or a place says nothing
in_table_nothing : (acting : Acting) (t : TableId) (len field stored : ℕ) (was is : Role) → field ≢ NEXT → field ≢ DEFERRED → is_place len field ≡ false
    → in_table acting t len field stored was is ≡ []
in_table_nothing acting t len field stored was is next list none =
    ap (λ q. if q then followed_by acting is else (if field == DEFERRED then carried t is else (if is_place len field then placed (spot_at t field) stored was is else []))) (ne_eqb field NEXT next)
    ∙ ap (λ q. if q then carried t is else (if is_place len field then placed (spot_at t field) stored was is else [])) (ne_eqb field DEFERRED list)
    ∙ ap (λ q. if q then placed (spot_at t field) stored was is else []) none

in_table_on_nothing : (acting : Acting) (len field b : ℕ) (is : Role) (known : Known) → field ≢ NEXT → is_place len field ≡ false → in_table_on acting len field b is known ≡ known
in_table_on_nothing acting len field b is known next none =
    ap (λ q. if q then linked_on acting b is known else (if is_place len field then stored_on b is known else known)) (ne_eqb field NEXT next)
    ∙ ap (λ q. if q then stored_on b is known else known) none

-- the place whose word it is
place_of_field : (len field : ℕ) → is_place len field ≡ true → (PLACES ≤ field) × (field - PLACES < len)
place_of_field len field e = (grind (arith, e), grind (arith, e))

module _ {K V : Type 0} (same : K → K → Bool) (hash : K → ℕ) (setting : Setting) (caller : ℕ) (w : World (Node K V)) (c : Chart K) (blocks : Blocks)
    (m2 : Mem (Node K V)) (Told : World (Node K V) → Chart K → Blocks → Type 0) (went : StepSpec same hash setting caller w c blocks m2 Told) (is_map : IsMapIn same hash setting w c blocks)
    (map : ℕ) (stored : List (K × V)) (known : Known) (roles : (b : ℕ) → HasRole w stored b (known.roles b))
    (tables : (t : ℕ) → t < c.past → blocks.table_known t ≡ true → known.roles (blocks.table t) ≡ role.Table (table_of map t) (c.len t)) where
  abbrev acting : Acting
  acting = Call caller map

  -- which word is as it was
  module _ (at : At) (old new : ℕ) (was : word_at w.memory at ≡ Some old) (is : word_at m2 at ≡ Some new) where
    untouched : (InFootprint setting caller w c blocks at → ⊥) → new ≡ old
    untouched other = let kept = went.frame.words at old was other in cc (kept, is)

  linked_not_made : (b : ℕ) → WasLinked (w.hand b) → (i : ℕ) → w.hand b ≡ Making i → ⊥
  linked_not_made b linked i made = subst WasLinked made linked

  -- whether the block is a table that the caller looks at
  abbrev IsTableSeen : ℕ → TableId → Type 0
  IsTableSeen b t = (t.turn < c.past) × (blocks.table_known t.turn ≡ true) × (b ≡ blocks.table t.turn)

  decide : (b : ℕ) (t : TableId) → IsTableSeen b t ⊎ (IsTableSeen b t → ⊥)
  decide b t = elim (cases_lt t.turn c.past) [
    | inl l ↦ by l (blocks.table_known t.turn) refl
    | inr l ↦ inr (λ k. let m = k.0 in omega (arith, l, m))
  ]
    where
      by : t.turn < c.past → (q : Bool) → blocks.table_known t.turn ≡ q → IsTableSeen b t ⊎ (IsTableSeen b t → ⊥)
      by l true e = elim (cases_eq b (blocks.table t.turn)) [
        | inl here ↦ inl (l, e, here)
        | inr ne ↦ inr (λ k. ne k.2)
      ]
      by l false e = inr (λ k. cc (e, k.1))

  turn_is : (t : TableId) (len u len2 : ℕ) → role.Table t len ≡ role.Table (table_of map u) len2 → t.turn ≡ u
  turn_is t len u len2 e = let it : t ≡ table_of map u = cc e in ap (λ (x : TableId). x.turn) it

  -- a table that it doesn't look at it doesn't write
  other_table : (b field old new : ℕ) (t : TableId) (len : ℕ) → known.roles b ≡ role.Table t len → HasRole w stored b (role.Table t len) → (IsTableSeen b t → ⊥)
      → word_at w.memory (Word b field) ≡ Some old → word_at m2 (Word b field) ≡ Some new → new ≡ old
  other_table b field old new t len e has other was is = untouched (Word b field) old new was is (by)
    where
      by : InFootprint setting caller w c blocks (Word b field) → ⊥
      by (inl (u, l, seen, here)) =
          let its : role.Table t len ≡ role.Table (table_of map u) (c.len u) = sym e ∙ ap known.roles here ∙ tables u l seen in
          let turn : t.turn ≡ u = turn_is t len u (c.len u) its in
          other (subst (λ (x : ℕ). x < c.past) (sym turn) l, ap blocks.table_known turn ∙ seen, here ∙ ap blocks.table (sym turn))
      by (inr (inl own)) = linked_not_made b has.2 caller own.0
      by (inr (inr counter)) = (let here : value_at w.memory b ≡ Some node.Shards = ap (value_at w.memory) counter ∙ is_map.counter in let there = has.1 in cc (here, there))

  -- the word of a table's list
  list_same : (b old new : ℕ) (t : TableId) → IsTableSeen b t → word_at w.memory (Word b DEFERRED) ≡ Some old → word_at m2 (Word b DEFERRED) ≡ Some new → new ≡ old
  list_same b old new t (l, seen, here) was is =
      let shows = is_map.map.shows.tables t.turn l seen in
      let has : HasList deferred_word b DEFERRED w = record {
        out = subst (λ (x : ℕ). IsOut (w.hand x)) (sym here) (is_map.tables_out t.turn l seen);
        value = node.Table (c.len t.turn) (c.limit t.turn) t.turn;
        is = ap (value_at w.memory) here ∙ shows.value;
        list = table_list K V (c.len t.turn) (c.limit t.turn) t.turn (is_map.map.rule.common.lens t.turn l).0;
      } in
      let kept = events_list deferred_word b DEFERRED setting.batch_size went.events w went.w2 went.users went.runs has in
      let now : word_at m2 (Word b DEFERRED) ≡ Some old = ap (λ (m : Mem (Node K V)). word_at m (Word b DEFERRED)) (sym went.memory) ∙ kept.1 ∙ was in
      cc (now, is)

  module _ (b field old new : ℕ) (was : word_at w.memory (Word b field) ≡ Some old) (is : word_at m2 (Word b field) ≡ Some new)
      (quiet : PreservesNames setting c blocks (Word b field) old new) (before after : Role) where
    abbrev Does : Role → Bool → Type 0
    Does r q = DoneStill known (in_block acting r field known.stored q before after) (in_block_on acting r field q (block_in new) after known)

    same_does : (t : TableId) (len : ℕ) → names_same old new ≡ true → Does (role.Table t len) (names_same old new)
    same_does t len e = subst (Does (role.Table t len)) (sym e) (tt, refl)

    nothing_does : (t : TableId) (len : ℕ) → field ≢ NEXT → field ≢ DEFERRED → is_place len field ≡ false → (q : Bool) → Does (role.Table t len) q
    nothing_does t len next list none true = (tt, refl)
    nothing_does t len next list none false = (
      subst AllCalm (sym (in_table_nothing acting t len field known.stored before after next list none)) tt,
      in_table_on_nothing acting len field (block_in new) after known next none,
    )

    seen_does : (t : TableId) (len : ℕ) → known.roles b ≡ role.Table t len → IsTableSeen b t → Does (role.Table t len) (names_same old new)
    seen_does t len e (l, seen, here) = elim (cases_eq field NEXT) as (λ _. Does (role.Table t len) (names_same old new)) [
      | inl next ↦ same_does t len (same_name old new ((quiet t.turn l seen here).0 next))
      | inr no_next ↦ elim (cases_eq field DEFERRED) as (λ _. Does (role.Table t len) (names_same old new)) [
        | inl list ↦ same_does t len (same_name old new (list_same b old new t (l, seen, here)
            (subst (λ (f : ℕ). word_at w.memory (Word b f) ≡ Some old) list was) (subst (λ (f : ℕ). word_at m2 (Word b f) ≡ Some new) list is)))
        | inr no_list ↦ by no_next no_list (is_place len field) refl
      ]
    ]
      where
        len_is : len ≡ c.len t.turn
        len_is = (let its : role.Table t len ≡ role.Table (table_of map t.turn) (c.len t.turn) = sym e ∙ ap known.roles here ∙ tables t.turn l seen in cc its)

        by : field ≢ NEXT → field ≢ DEFERRED → (q : Bool) → is_place len field ≡ q → Does (role.Table t len) (names_same old new)
        by no_next no_list true place =
            let k = place_of_field len field place in
            let low = k.0 in
            let within : field - PLACES < c.len t.turn = subst (λ (n : ℕ). field - PLACES < n) len_is k.1 in
            let names = (quiet t.turn l seen here).1 (field - PLACES) within (omega (arith, low)) in
            same_does t len (eq-eqb (block_in old) (block_in new) (sym names))
        by no_next no_list false none = nothing_does t len no_next no_list none (names_same old new)

    word_does : (r : Role) → known.roles b ≡ r → HasRole w stored b r → Does r (names_same old new)
    word_does role.Free e has = (tt, refl)
    word_does (role.OwnPair i) e has = (tt, refl)
    word_does (role.OwnTable turn shape) e has = (tt, refl)
    word_does (role.Pair n) e has = (tt, refl)
    word_does (role.Counter of) e has = ((refl, tt), refl)
    word_does (role.Table t len) e has = elim (decide b t) as (λ _. Does (role.Table t len) (names_same old new)) [
      | inl seen ↦ seen_does t len e seen
      | inr other ↦ same_does t len (same_name old new (other_table b field old new t len e has other was is))
    ]

  module _ (b field old new : ℕ) (was : word_at w.memory (Entry b field) ≡ Some old) (is : word_at m2 (Entry b field) ≡ Some new) where
    abbrev Retires : Role → Bool → Type 0
    Retires r q = AllCalm (if q then [] else batched acting field r)

    same_retires : (r : Role) → WasLinked (w.hand b) → Retires r (names_same old new)
    same_retires r linked = subst (Retires r) (sym (same_name old new (untouched (Entry b field) old new was is (linked_not_made b linked caller)))) tt

    none_retires : (q : Bool) → AllCalm (if q then [] else [])
    none_retires true = tt
    none_retires false = tt

    entry_does : (r : Role) → HasRole w stored b r → Retires r (names_same old new)
    entry_does role.Free has = none_retires (names_same old new)
    entry_does (role.OwnPair i) has = none_retires (names_same old new)
    entry_does (role.OwnTable turn shape) has = none_retires (names_same old new)
    entry_does (role.Pair n) has = same_retires (role.Pair n) has.4
    entry_does (role.Table t len) has = same_retires (role.Table t len) has.2
    entry_does (role.Counter of) has = none_retires (names_same old new)

  -- a word was written, and goes on naming what it named
  pub written_still : (at : At) (old new : ℕ) → word_at w.memory at ≡ Some old → word_at m2 at ≡ Some new → PreservesNames setting c blocks at old new
      → DoneStill known (written_by acting known at old new) (written_on acting at old new known)
  written_still (Root r) old new was is quiet = subst Does (sym (same_name old new kept)) (tt, refl)
    where
      Does : Bool → Type 0
      Does q = DoneStill known (if q then [] else led_to acting (named known old) (named known new)) (if q then known else linked_on acting (block_in new) (named known new) known)

      kept : new ≡ old
      kept = elim (cases_eq r setting.root) [
        | inl e ↦ quiet e
        | inr ne ↦ untouched (Root r) old new was is ne
      ]
  written_still (Used r) old new was is quiet = (tt, refl)
  written_still (Slot s field) old new was is quiet = (tt, refl)
  written_still (Entry b field) old new was is quiet = (entry_does b field old new was is (known.roles b) (roles b), refl)
  written_still (Word b field) old new was is quiet = word_does b field old new was is quiet (named known old) (named known new) (known.roles b) refl (roles b)
