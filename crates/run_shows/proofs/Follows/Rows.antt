-- What a step of a row of the collector within a call leaves of blocks, and what it does.
use Rattle.std.specs.Prelude.{◌≡◌, ◌≢◌, ℕ, zero, suc, ◌==◌, Bool, true, false, List, [], ◌∷◌, Some, None, slice_get, if◌then◌else◌, ◌⊎◌}
use Rattle.std.proofs.Common.{refl, ap, sym, subst, ◌∙◌, arith, inl, inr}
use Rattle.std.proofs.lemmas.Bool.{ne_eqb, eq-eqb, cases_eq}
use Rattle.seize_words.specs.declared.at.At.{At}
use Rattle.seize_words.specs.declared.at.At.TheVariants.{Root, Used, Slot, Entry, Word}
use Rattle.seize_words.specs.OneMemory.Mem.{Mem, value_at, word_at}
use Rattle.seize_words.specs.OneMemory.Word.{block_in}
use Rattle.seize.specs.declared.states.TheConstants.{FIRST}
use Rattle.seize.specs.Sequence.{taken_in}
use Rattle.seize.specs.World.{World, Hand, Handed, Request, Register', Enter', Leave', LeaveOwned, Refresh, Unregister', Retire, Flush, Defer', Begin, Steps', Happens, times}
use Rattle.seize_acts.proofs.Given.SeizeAloneSpared.Rows.{RowStepped}
use Rattle.seize_acts.proofs.Given.SeizeAloneSpared.Users.{Frames}
use Rattle.seize_acts.proofs.Given.SeizeAloneHistories.NotTaken.{did, taken_gone}
use Rattle.seize_acts.proofs.Given.SeizeAloneHistories.Reached.{Reached}
use Rattle.run_effects.proofs.Given.SeizeRuleRows.Effects.{hand_kept}
use Rattle.run_effects.specs.Given.TablesNodes.{deferred_word}
use Rattle.run_effects.specs.Given.TablesDeclared.node.Node.{Node}
use Rattle.run_effects.specs.Given.TablesDeclared.node.Node.TheVariants as node
use Rattle.run_effects.specs.Given.TablesDeclared.setting.Setting.{Setting}
use Rattle.run_effects.specs.Given.TablesDeclared.table_words.TheConstants.{NEXT, DEFERRED}
use Rattle.run_effects.proofs.Given.TablesLists.{its_list}
use Rattle.run_effects.specs.Given.RunsDeclared.effect.Effect.{Effect}
use Rattle.run_effects.specs.Given.RunsDeclared.effect.Effect.TheVariants as effect
use Rattle.run_effects.specs.Given.RunsDeclared.effect.TableId.{TableId}
use Rattle.run_effects.specs.Given.RunsDeclared.effect.Thing.{Thing}
use Rattle.run_effects.specs.Given.RunsDeclared.effect.Thing.TheVariants.{APair, ATable}
use Rattle.run_effects.proofs.Given.RuleWorld.Hands.{at_cases}
use Rattle.many_maps.specs.Given.CallersTogether.{CameAbout, HandsOver, IsOneStep}
use Rattle.many_maps.proofs.Given.CallersTogether.Came.{came_reached, came_next}
use Rattle.run_effects.specs.Effects.Effects.{names_same, is_place, placed, spot_at, carried, followed_by, in_table, in_block, batched, named, written_by, led_to, linked_on, stored_on, in_block_on, written_on}
use Rattle.run_effects.specs.Effects.Known.{Known}
use Rattle.run_effects.specs.declared.acting.Acting.{Acting}
use Rattle.run_effects.specs.declared.acting.Acting.TheVariants.{Call}
use Rattle.run_effects.specs.declared.role.Role.{Role}
use Rattle.run_effects.specs.declared.role.Role.TheVariants as role
use Rattle.run_shows.specs.Follows.Blocks.{WasLinked, HasRole}
use Rattle.run_shows.proofs.Follows.Alike.{AllCalm}
use Rattle.run_shows.proofs.Follows.Quiet.{same_name}

module _ {K V : Type 0} where
  -- a block that is there keeps its value, its holder and the users' words
  pub record KeepsBlock (w w2 : World (Node K V)) (b : ℕ) (value : Node K V) : Type 0 where
    pub is : value_at w2.memory b ≡ Some value
    pub linked : WasLinked (w.hand b) → WasLinked (w2.hand b)
    pub words : (field : ℕ) → deferred_word value ≢ Some field → word_at w2.memory (Word b field) ≡ word_at w.memory (Word b field)

  -- what such a step leaves, unless it takes a block away
  pub record RowLeaves (w w2 : World (Node K V)) : Type 0 where
    pub roots : (r : ℕ) → word_at w2.memory (Root r) ≡ word_at w.memory (Root r)
    pub blocks : (b : ℕ) (value : Node K V) → value_at w.memory b ≡ Some value → (value_at w2.memory b ≡ None) ⊎ KeepsBlock w w2 b value
    pub none : (b : ℕ) → value_at w.memory b ≡ None → value_at w2.memory b ≡ None

  row_leaves : (size : ℕ) (w w2 : World (Node K V)) → Reached deferred_word size w → (i : ℕ) → Steps' deferred_word i (w.row i) w w2 → RowLeaves w w2
  row_leaves size w w2 r i step = record {
    roots = λ x. ap (λ (l : List ℕ). slice_get l x) frames.roots;
    blocks = λ b value is. by b value is (times b back) refl;
    none = λ b none. by_none b none (times b back) refl;
  }
    where
      it : RowStepped deferred_word i w w2
      it = did deferred_word size w r i w2 step

      back : List ℕ
      back = taken_in it.effects

      frames : Frames deferred_word w.memory w2.memory back
      frames = it.frames

      by : (b : ℕ) (value : Node K V) → value_at w.memory b ≡ Some value → (n : ℕ) → times b back ≡ n → (value_at w2.memory b ≡ None) ⊎ KeepsBlock w w2 b value
      by b value is zero e = inr (record {
        is = frames.values b e ∙ is;
        linked = λ linked. subst WasLinked (sym (ap (λ (h : ℕ → Hand). h b) it.hands ∙ hand_kept b it.effects w.hand e it.one)) linked;
        words = λ field other_word. frames.words b field e (λ other there list. other_word (let same : other ≡ value = cc (there, is) in ap deferred_word (sym same) ∙ list));
      })
      by b value is (suc n) e = inl (taken_gone deferred_word size w r i w2 step b (λ z. omega (arith, e, z)))

      by_none : (b : ℕ) → value_at w.memory b ≡ None → (n : ℕ) → times b back ≡ n → value_at w2.memory b ≡ None
      by_none b none zero e = frames.values b e ∙ none
      by_none b none (suc n) e = taken_gone deferred_word size w r i w2 step b (λ z. omega (arith, e, z))

  -- a row that hands a block over has begun: the memory is as it was
  begun_linked : (setting : Setting) (i : ℕ) (w begun : World (Node K V)) (request : Request) → HandsOver setting i w request → Happens deferred_word setting.batch_size (Begin i request) w begun
      → (begun.memory ≡ w.memory) × ((b : ℕ) → WasLinked (w.hand b) → WasLinked (begun.hand b))
  begun_linked setting i w begun (Retire s b) hands h =
      let is = h.1.2 in (ap (λ (x : World (Node K V)). x.memory) is, λ x linked. subst (λ (y : World (Node K V)). WasLinked (y.hand x)) (sym is) (at_cases WasLinked w.hand b Handed x (λ e. tt) (λ ne. linked)))
  begun_linked setting i w begun (Defer' s b t) hands h =
      let is = h.1.7 in (ap (λ (x : World (Node K V)). x.memory) is, λ x linked. subst (λ (y : World (Node K V)). WasLinked (y.hand x)) (sym is) (at_cases WasLinked w.hand b Handed x (λ e. tt) (λ ne. linked)))
  begun_linked setting i w begun (Register' enters) hands h = absurd hands
  begun_linked setting i w begun (Enter' s) hands h = absurd hands
  begun_linked setting i w begun (Leave' s) hands h = absurd hands
  begun_linked setting i w begun (LeaveOwned s) hands h = absurd hands
  begun_linked setting i w begun (Refresh s) hands h = absurd hands
  begun_linked setting i w begun (Unregister' s) hands h = absurd hands
  begun_linked setting i w begun (Flush s) hands h = absurd hands

  after_begun : (w begun w2 : World (Node K V)) → begun.memory ≡ w.memory → ((b : ℕ) → WasLinked (w.hand b) → WasLinked (begun.hand b)) → RowLeaves begun w2 → RowLeaves w w2
  after_begun w begun w2 same linked h = record {
    roots = λ r. h.roots r ∙ ap (λ (n : Mem (Node K V)). word_at n (Root r)) same;
    blocks = λ b value is. by b value (h.blocks b value (ap (λ (n : Mem (Node K V)). value_at n b) same ∙ is));
    none = λ b none. h.none b (ap (λ (n : Mem (Node K V)). value_at n b) same ∙ none);
  }
    where
      by : (b : ℕ) (value : Node K V) → (value_at w2.memory b ≡ None) ⊎ KeepsBlock begun w2 b value → (value_at w2.memory b ≡ None) ⊎ KeepsBlock w w2 b value
      by b value (inl gone) = inl gone
      by b value (inr kept) = inr (record {
        is = kept.is;
        linked = λ l. kept.linked (linked b l);
        words = λ field other. kept.words field other ∙ ap (λ (n : Mem (Node K V)). word_at n (Word b field)) same;
      })

  pub one_step_leaves : (setting : Setting) (i : ℕ) (w w2 : World (Node K V)) → CameAbout setting.batch_size w → IsOneStep setting i w w2 → RowLeaves w w2
  one_step_leaves setting i w w2 came (inl step) = row_leaves setting.batch_size w w2 (came_reached setting.batch_size w came) i step
  one_step_leaves setting i w w2 came (inr (request, begun, hands, begins, step)) =
      let b = begun_linked setting i w begun request hands begins in
      after_begun w begun w2 b.0 b.1 (row_leaves setting.batch_size begun w2 (came_reached setting.batch_size begun (came_next setting.batch_size w begun (Begin i request) came begins)) i step)

-- what such a step may do: nothing that moves a pair or a table, or it hands one of them over
pub data HandsOn : List Effect → Type 0 where
  IsStill : (effects : List Effect) → AllCalm effects → HandsOn effects
  Puts : (n : ℕ) (t : TableId) → HandsOn (effect.Deferred n t ∷ [])
  Retires : (x : Thing) → HandsOn (effect.Retired x ∷ [])

abbrev pub DoneSo : Known → List Effect → Known → Type 0
DoneSo known effects after = HandsOn effects × (after ≡ known)

module _ {K V : Type 0} (caller map : ℕ) (stored : List (K × V)) (known : Known) (w w2 : World (Node K V)) (roles : (b : ℕ) → HasRole w stored b (known.roles b)) (leaves : RowLeaves w w2)
    (values : (b : ℕ) → value_at w2.memory b ≡ value_at w.memory b) where
  abbrev its : Acting
  its = Call caller map

  -- a block that is there is kept
  pub kept_block : (b : ℕ) (value : Node K V) → value_at w.memory b ≡ Some value → KeepsBlock w w2 b value
  kept_block b value is = by (leaves.blocks b value is)
    where
      by : (value_at w2.memory b ≡ None) ⊎ KeepsBlock w w2 b value → KeepsBlock w w2 b value
      by (inl gone) = absurd (let there = values b ∙ is in cc (gone, there))
      by (inr kept) = kept

  module _ (b field old new : ℕ) (was : word_at w.memory (Word b field) ≡ Some old) (is : word_at w2.memory (Word b field) ≡ Some new) (before after : Role) where
    abbrev Does : Role → Bool → Type 0
    Does r q = DoneSo known (in_block its r field known.stored q before after) (in_block_on its r field q (block_in new) after known)

    nothing : DoneSo known [] known
    nothing = (IsStill [] tt, refl)

    same_does : (t : TableId) (len : ℕ) → names_same old new ≡ true → Does (role.Table t len) (names_same old new)
    same_does t len e = subst (Does (role.Table t len)) (sym e) nothing

    -- the head of a table's list
    carried_does : (t : TableId) (r : Role) → HandsOn (carried t r)
    carried_does t role.Free = IsStill [] tt
    carried_does t (role.OwnPair i) = IsStill [] tt
    carried_does t (role.OwnTable turn shape) = IsStill [] tt
    carried_does t (role.Pair n) = Puts n t
    carried_does t (role.Table u len) = IsStill [] tt
    carried_does t (role.Counter of) = IsStill [] tt

    list_does : (t : TableId) (len : ℕ) → field ≡ DEFERRED → (q : Bool) → Does (role.Table t len) q
    list_does t len list true = nothing
    list_does t len list false = (
      subst HandsOn (sym effects_are) (carried_does t after),
      (ap (λ q. if q then linked_on its (block_in new) after known else (if is_place len field then stored_on (block_in new) after known else known)) (ne_eqb field NEXT (λ e. omega (arith, e, list)))
          ∙ ap (λ q. if q then stored_on (block_in new) after known else known) no_place),
    )
      where
        no_place : is_place len field ≡ false
        no_place = ap (is_place len) list ∙ (grind arith)

        effects_are : in_table its t len field known.stored before after ≡ carried t after
        effects_are =
            ap (λ q. if q then followed_by its after else (if field == DEFERRED then carried t after else (if is_place len field then placed (spot_at t field) known.stored before after else [])))
            (ne_eqb field NEXT (λ e. omega (arith, e, list)))
            ∙ ap (λ q. if q then carried t after else (if is_place len field then placed (spot_at t field) known.stored before after else [])) (eq-eqb field DEFERRED list)

    word_does : (r : Role) → HasRole w stored b r → Does r (names_same old new)
    word_does role.Free has = nothing
    word_does (role.OwnPair i) has = nothing
    word_does (role.OwnTable turn shape) has = nothing
    word_does (role.Pair n) has = nothing
    word_does (role.Counter of) has = (IsStill (effect.Counted field ∷ []) (refl, tt), refl)
    word_does (role.Table t len) has = elim (cases_eq field DEFERRED) as (λ _. Does (role.Table t len) (names_same old new)) [
      | inl list ↦ list_does t len list (names_same old new)
      | inr no_list ↦ same_does t len (same_name old new
          (let kept = (kept_block b _ has.1).words field (λ e. no_list (its_list {K = K} {V = V} (node.Table len has.0 t.turn) field e)) in
          let now : word_at w2.memory (Word b field) ≡ Some old = kept ∙ was in cc (now, is)))
    ]

  -- the word of a block's batch
  module _ (field : ℕ) where
    abbrev Retires' : Role → Bool → Type 0
    Retires' r q = HandsOn (if q then [] else batched its field r)

    retired_so : (x : Thing) (q : Bool) → HandsOn (if q then effect.Retired x ∷ [] else [])
    retired_so x true = Retires x
    retired_so x false = IsStill [] tt

    entry_does : (r : Role) (q : Bool) → Retires' r q
    entry_does r true = IsStill [] tt
    entry_does role.Free false = IsStill [] tt
    entry_does (role.OwnPair i) false = IsStill [] tt
    entry_does (role.OwnTable turn shape) false = IsStill [] tt
    entry_does (role.Pair n) false = retired_so (APair n) (field == FIRST)
    entry_does (role.Table t len) false = retired_so (ATable t) (field == FIRST)
    entry_does (role.Counter of) false = IsStill [] tt

  -- a word was written
  pub row_written : (at : At) (old new : ℕ) → word_at w.memory at ≡ Some old → word_at w2.memory at ≡ Some new → DoneSo known (written_by its known at old new) (written_on its at old new known)
  row_written (Root r) old new was is = subst Does (sym (same_name old new kept)) (IsStill [] tt, refl)
    where
      Does : Bool → Type 0
      Does q = DoneSo known (if q then [] else led_to its (named known old) (named known new)) (if q then known else linked_on its (block_in new) (named known new) known)

      kept : new ≡ old
      kept = let now : word_at w2.memory (Root r) ≡ Some old = leaves.roots r ∙ was in cc (now, is)
  row_written (Used r) old new was is = (IsStill [] tt, refl)
  row_written (Slot s field) old new was is = (IsStill [] tt, refl)
  row_written (Entry b field) old new was is = (entry_does field (known.roles b) (names_same old new), refl)
  row_written (Word b field) old new was is = word_does b field old new was is (named known old) (named known new) (known.roles b) (roles b)
