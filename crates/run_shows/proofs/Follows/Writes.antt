-- What a write to a place, or to a link, of a map says, and what is known after it.
use Rattle.std.specs.Prelude.{◌≡◌, ◌≢◌, ℕ, ◌+◌, ◌<◌, ◌==◌, Bool, true, false, List, [], Some, None, if◌then◌else◌}
use Rattle.std.proofs.Common.{refl, ap, sym, subst, ◌∙◌, arith}
use Rattle.std.proofs.lemmas.Bool.{ne_eqb, eq-eqb}
use Rattle.seize_words.specs.declared.at.At.{At}
use Rattle.seize_words.specs.declared.at.At.TheVariants.{Root, Word}
use Rattle.seize_words.specs.OneMemory.Mem.{value_at}
use Rattle.seize_words.specs.OneMemory.Word.{block_in}
use Rattle.seize.specs.World.{World, Making}
use Rattle.run_effects.specs.Given.RunsDeclared.shapes.TableShape.{TableShape}
use Rattle.run_effects.specs.Given.TablesNodes.{deferred_word}
use Rattle.run_effects.proofs.Given.TablesLists.{table_list}
use Rattle.run_effects.specs.Given.TablesDeclared.node.Node.{Node}
use Rattle.run_effects.specs.Given.TablesDeclared.node.Node.TheVariants as node
use Rattle.run_effects.specs.Given.TablesDeclared.table_words.TheConstants.{NEXT, DEFERRED, PLACES}
use Rattle.run_effects.specs.Given.RunsDeclared.effect.Effect.{Effect}
use Rattle.run_effects.specs.Given.RunsDeclared.effect.TableId.{TableId}
use Rattle.run_effects.specs.Effects.Effects.{names_same, led_to, is_place, placed, spot_at, carried, followed_by, in_table, in_block, written_by, linked_on, stored_on, in_table_on, in_block_on, written_on}
use Rattle.run_effects.specs.Effects.Known.{Known}
use Rattle.run_effects.specs.declared.acting.Acting.{Acting}
use Rattle.run_effects.specs.declared.role.Role.{Role}
use Rattle.run_effects.specs.declared.role.Role.TheVariants as role
use Rattle.run_shows.specs.Follows.Blocks.{WasLinked, HasRole}

-- the word is that of a place
place_is : (len i : ℕ) → i < len → is_place len (i + PLACES) ≡ true
place_is len i l = grind (arith, l)

-- a word of a place of a table
in_table_place : (acting : Acting) (t : TableId) (len i stored : ℕ) (was is : Role) → i < len → in_table acting t len (i + PLACES) stored was is ≡ placed (spot_at t (i + PLACES)) stored was is
in_table_place acting t len i stored was is l =
    ap (λ q. if q then followed_by acting is else (if (i + PLACES) == DEFERRED then carried t is else (if is_place len (i + PLACES) then placed (spot_at t (i + PLACES)) stored was is else [])))
    (ne_eqb (i + PLACES) NEXT (λ e. omega (arith, e)))
    ∙ ap (λ q. if q then carried t is else (if is_place len (i + PLACES) then placed (spot_at t (i + PLACES)) stored was is else [])) (ne_eqb (i + PLACES) DEFERRED (λ e. omega (arith, e)))
    ∙ ap (λ q. if q then placed (spot_at t (i + PLACES)) stored was is else []) (place_is len i l)

in_table_on_place : (acting : Acting) (len i b : ℕ) (is : Role) (known : Known) → i < len → in_table_on acting len (i + PLACES) b is known ≡ stored_on b is known
in_table_on_place acting len i b is known l =
    ap (λ q. if q then linked_on acting b is known else (if is_place len (i + PLACES) then stored_on b is known else known)) (ne_eqb (i + PLACES) NEXT (λ e. omega (arith, e)))
    ∙ ap (λ q. if q then stored_on b is known else known) (place_is len i l)

-- the link of a table
in_table_next : (acting : Acting) (t : TableId) (len stored : ℕ) (was is : Role) → in_table acting t len NEXT stored was is ≡ followed_by acting is
in_table_next acting t len stored was is =
    ap (λ q. if q then followed_by acting is else (if NEXT == DEFERRED then carried t is else (if is_place len NEXT then placed (spot_at t NEXT) stored was is else []))) (eq-eqb NEXT NEXT refl)

in_table_on_next : (acting : Acting) (len b : ℕ) (is : Role) (known : Known) → in_table_on acting len NEXT b is known ≡ linked_on acting b is known
in_table_on_next acting len b is known = ap (λ q. if q then linked_on acting b is known else (if is_place len NEXT then stored_on b is known else known)) (eq-eqb NEXT NEXT refl)

-- words that name other blocks
pub other_names : (old new : ℕ) → block_in old ≢ block_in new → names_same old new ≡ false
other_names old new ne = ne_eqb (block_in old) (block_in new) ne

-- what is done, and what is known then
abbrev pub Says : Acting → Known → At → ℕ → ℕ → List Effect → Known → Type 0
Says acting known at old new effects after = (written_by acting known at old new ≡ effects) × (written_on acting at old new known ≡ after)

module _ (acting : Acting) (known : Known) (b : ℕ) (t : TableId) (len : ℕ) (table : known.roles b ≡ role.Table t len) (old new : ℕ) (apart : block_in old ≢ block_in new)
    (was is : Role) (was_is : known.roles (block_in old) ≡ was) (is_is : known.roles (block_in new) ≡ is) where
  word_says : (field : ℕ) → (written_by acting known (Word b field) old new ≡ in_table acting t len field known.stored was is)
      × (written_on acting (Word b field) old new known ≡ in_table_on acting len field (block_in new) is known)
  word_says field = (
    ap (λ (r : Role). in_block acting r field known.stored (names_same old new) (known.roles (block_in old)) (known.roles (block_in new))) table
        ∙ ap (λ (q : Bool). in_block acting (role.Table t len) field known.stored q (known.roles (block_in old)) (known.roles (block_in new))) (other_names old new apart)
        ∙ ap (λ (r : Role). in_table acting t len field known.stored r (known.roles (block_in new))) was_is
        ∙ ap (λ (r : Role). in_table acting t len field known.stored was r) is_is,
    ap (λ (r : Role). in_block_on acting r field (names_same old new) (block_in new) (known.roles (block_in new)) known) table
        ∙ ap (λ (q : Bool). in_block_on acting (role.Table t len) field q (block_in new) (known.roles (block_in new)) known) (other_names old new apart)
        ∙ ap (λ (r : Role). in_table_on acting len field (block_in new) r known) is_is,
  )

  pub place_says : (i : ℕ) → i < len → Says acting known (Word b (i + PLACES)) old new (placed (spot_at t (i + PLACES)) known.stored was is) (stored_on (block_in new) is known)
  place_says i l = (
    (word_says (i + PLACES)).0 ∙ in_table_place acting t len i known.stored was is l,
    (word_says (i + PLACES)).1 ∙ in_table_on_place acting len i (block_in new) is known l,
  )

  pub next_says : Says acting known (Word b NEXT) old new (followed_by acting is) (linked_on acting (block_in new) is known)
  next_says = (
    (word_says NEXT).0 ∙ in_table_next acting t len known.stored was is,
    (word_says NEXT).1 ∙ in_table_on_next acting len (block_in new) is known,
  )

pub root_says : (acting : Acting) (known : Known) (r old new : ℕ) → block_in old ≢ block_in new → (was is : Role) → known.roles (block_in old) ≡ was → known.roles (block_in new) ≡ is
    → Says acting known (Root r) old new (led_to acting was is) (linked_on acting (block_in new) is known)
root_says acting known r old new apart was is was_is is_is = (
  ap (λ (q : Bool). if q then [] else led_to acting (known.roles (block_in old)) (known.roles (block_in new))) (other_names old new apart)
      ∙ ap (λ (x : Role). led_to acting x (known.roles (block_in new))) was_is ∙ ap (led_to acting was) is_is,
  ap (λ (q : Bool). if q then known else linked_on acting (block_in new) (known.roles (block_in new)) known) (other_names old new apart)
      ∙ ap (λ (x : Role). linked_on acting (block_in new) x known) is_is,
)

-- what a new block is, and none, by their roles
module _ {K V : Type 0} (w : World (Node K V)) (stored : List (K × V)) (known : Known) (roles : (b : ℕ) → HasRole w stored b (known.roles b)) where
  -- there is no block 0
  pub nothing_free : known.roles 0 ≡ role.Free
  nothing_free = by (known.roles 0) refl (roles 0)
    where
      none : value_at w.memory 0 ≡ None
      none = refl

      by : (r : Role) → known.roles 0 ≡ r → HasRole w stored 0 r → known.roles 0 ≡ role.Free
      by role.Free e has = e
      by (role.OwnPair i) e has = absurd (let some = has.1 in cc (some, none))
      by (role.OwnTable turn shape) e has = absurd (let some = has.1 in cc (some, none))
      by (role.Pair n) e has = absurd (let some = has.3 in cc (some, none))
      by (role.Table t len) e has = absurd (let some = has.1 in cc (some, none))
      by (role.Counter of) e has = absurd (cc (has, none))

  -- a pair that somebody has made is its maker's own
  pub own_pair : (b j : ℕ) (k : K) (v : V) → w.hand b ≡ Making j → value_at w.memory b ≡ Some (node.Pair k v) → (i : ℕ) × (known.roles b ≡ role.OwnPair i)
  own_pair b j k v made is = by (known.roles b) refl (roles b)
    where
      by : (r : Role) → known.roles b ≡ r → HasRole w stored b r → (i : ℕ) × (known.roles b ≡ role.OwnPair i)
      by role.Free e has = absurd (cc (has, is))
      by (role.OwnPair i) e has = (i, e)
      by (role.OwnTable turn shape) e has = absurd (let there = has.1 in cc (there, is))
      by (role.Pair n) e has = absurd (subst WasLinked made has.4)
      by (role.Table t len) e has = absurd (subst WasLinked made has.2)
      by (role.Counter of) e has = absurd (cc (has, is))

  -- so is a table with places
  pub own_table : (b j len limit turn : ℕ) → 0 < len → w.hand b ≡ Making j → value_at w.memory b ≡ Some (node.Table len limit turn)
      → known.roles b ≡ role.OwnTable turn (record { len = len; limit = limit })
  own_table b j len limit turn some made is = by (known.roles b) refl (roles b)
    where
      shape_is : (t : ℕ) (shape : TableShape) → value_at w.memory b ≡ Some (node.Table shape.len shape.limit t) → role.OwnTable t shape ≡ role.OwnTable turn (record { len = len; limit = limit })
      shape_is t shape there =
          let turn_is : t ≡ turn = cc (there, is) in
          let len_is : shape.len ≡ len = cc (there, is) in
          let limit_is : shape.limit ≡ limit = cc (there, is) in
          ap (λ (x : ℕ). role.OwnTable x shape) turn_is
          ∙ ap (λ (x : ℕ). role.OwnTable turn (record { len = x; limit = shape.limit })) len_is
          ∙ ap (λ (x : ℕ). role.OwnTable turn (record { len = len; limit = x })) limit_is

      by : (r : Role) → known.roles b ≡ r → HasRole w stored b r → known.roles b ≡ role.OwnTable turn (record { len = len; limit = limit })
      by role.Free e has = absurd (cc (has, is))
      by (role.OwnPair i) e has = absurd (let it : has.0 ≡ node.Table len limit turn = (let there = has.1 in cc (there, is)) in let list = table_list K V len limit turn some in let none = sym (ap deferred_word it) ∙ has.2 in cc (list, none))
      by (role.OwnTable t shape) e has = e ∙ shape_is t shape has.1
      by (role.Pair n) e has = absurd (subst WasLinked made has.4)
      by (role.Table t length) e has = absurd (subst WasLinked made has.2)
      by (role.Counter of) e has = absurd (cc (has, is))
