-- What an operation of a call does to blocks for pairs that are not stored, and by which effects: it leaves them, makes one, gives one up, or stores its pair.
use Rattle.std.specs.Prelude.{◌&&◌, ◌≡◌, ◌≢◌, ℕ, ◌+◌, ◌==◌, nat_lt, Bool, true, false, List, [], ◌∷◌, Option, Some, None, if◌then◌else◌}
use Rattle.std.proofs.Common.{refl, ap, sym, subst, ◌∙◌, arith, inl, inr, eqb-true}
use Rattle.std.proofs.lemmas.Bool.{cases_eq}
use Rattle.run_debts.specs.Given.SeizeWordsDeclared.at.At.{At}
use Rattle.run_debts.specs.Given.SeizeWordsDeclared.at.At.TheVariants.{Root, Used, Slot, Entry, Word}
use Rattle.run_debts.specs.Given.SeizeWordsWord.{block_in}
use Rattle.run_debts.specs.Given.TablesDeclared.table_words.TheConstants.{NEXT, DEFERRED}
use Rattle.run_debts.specs.Given.RunsDeclared.effect.Effect.{Effect}
use Rattle.run_debts.specs.Given.RunsDeclared.effect.Effect.TheVariants as effect
use Rattle.run_debts.specs.Given.RunsDeclared.effect.Growth.TheVariants.{ABucket}
use Rattle.run_debts.specs.Given.RunsDeclared.effect.Spot.{Spot}
use Rattle.run_debts.specs.Given.RunsDeclared.effect.TableId.{TableId}
use Rattle.run_debts.specs.Given.EffectsDeclared.changed.Changed.{Changed}
use Rattle.run_debts.specs.Given.EffectsDeclared.changed.Changed.TheVariants as changed
use Rattle.run_debts.specs.Given.EffectsDeclared.changed.Kind.{Kind}
use Rattle.run_debts.specs.Given.EffectsDeclared.changed.Kind.TheVariants as kind
use Rattle.run_debts.specs.Given.SchedulesLists.{put}
use Rattle.run_debts.specs.Given.EffectsEffects.{map_of, table_at, taken_by, names_same, followed_by, led_to, carried, placed, spot_at, is_place, in_table, in_block, named, written_by, effects_of, linked_on, stored_on, in_table_on, in_block_on, written_on, known_after}
use Rattle.run_debts.specs.Given.EffectsKnown.{Known}
use Rattle.run_debts.specs.Given.EffectsDeclared.acting.Acting.{Acting}
use Rattle.run_debts.specs.Given.EffectsDeclared.role.Role.{Role}
use Rattle.run_debts.specs.Given.EffectsDeclared.role.Role.TheVariants as role
use Rattle.run_debts.proofs.Given.FollowsAlike.{put_here, put_elsewhere}
use Rattle.run_debts.proofs.Given.FollowsTold.{roomed_as_many}
use Rattle.run_blocks.specs.Owes.Beside.{of_block, NoneOfBlock}
use Rattle.run_blocks.proofs.Owes.Quiet.{is_of_map, none_if, placed_none, carried_none, pair_back, table_back, retired_none, followed_none, led_none}

-- whose the block is, if it is for a pair that is not stored
abbrev pub own_of : Role → Option ℕ
own_of (role.OwnPair i) = Some i
own_of _ = None

pub own_is : (r : Role) (i : ℕ) → own_of r ≡ Some i → r ≡ role.OwnPair i
own_is (role.OwnPair j) i e = let same : j ≡ i = cc e in ap role.OwnPair same
own_is role.Free i e = absurd (cc e)
own_is (role.OwnTable turn shape) i e = absurd (cc e)
own_is (role.Pair n) i e = absurd (cc e)
own_is (role.Table t len) i e = absurd (cc e)
own_is (role.Counter map) i e = absurd (cc e)

-- a pair is stored, where there is none or in the place of another one
pub data IsStoring : List Effect → Type 0 where
  StoresNew : (n : ℕ) (s : Spot) → IsStoring (effect.Stored n s ∷ [])
  StoresOver : (p n : ℕ) (s : Spot) → IsStoring (effect.Replaced p ∷ effect.Stored n s ∷ [])

-- a block that is another thing from now on is as much whose it was
pub put_own : (b : ℕ) (r : Role) (f : ℕ → Role) → own_of r ≡ own_of (f b) → (x : ℕ) → own_of (put b r f x) ≡ own_of (f x)
put_own b r f same x = elim (cases_eq x b) as (λ _. own_of (put b r f x) ≡ own_of (f x)) [
  | inl e ↦ ap own_of (put_here b r f x e) ∙ same ∙ ap (λ (y : ℕ). own_of (f y)) (sym e)
  | inr ne ↦ ap own_of (put_elsewhere b r f x ne)
]

-- what effects say

storing_by : (s : Spot) (stored j : ℕ) (was : Role) → IsStoring (placed s stored was (role.OwnPair j))
storing_by s stored j role.Free = StoresNew (stored + 1) s
storing_by s stored j (role.OwnPair i) = StoresNew (stored + 1) s
storing_by s stored j (role.OwnTable turn shape) = StoresNew (stored + 1) s
storing_by s stored j (role.Pair n) = StoresOver n (stored + 1) s
storing_by s stored j (role.Table t len) = StoresNew (stored + 1) s
storing_by s stored j (role.Counter map) = StoresNew (stored + 1) s

-- what the map has is no such block
pub no_block : (f : Effect) → is_of_map f ≡ true → of_block f ≡ false
no_block effect.PairMade e = absurd (cc e)
no_block effect.PairGivenUp e = absurd (cc e)
no_block (effect.Stored n s) e = absurd (cc e)
no_block _ e = refl

-- of a link to the block, which is the map's next table, or none
module _ (its : Acting) (known : Known) (b : ℕ) where
  linked_same : (is : Role) → known.roles b ≡ is → (x : ℕ) → own_of ((linked_on its b is known).roles x) ≡ own_of (known.roles x)
  linked_same (role.OwnTable turn shape) e x = put_own b (role.Table (table_at its turn) shape.len) known.roles (sym (ap own_of e)) x
  linked_same role.Free e x = refl
  linked_same (role.OwnPair i) e x = refl
  linked_same (role.Pair n) e x = refl
  linked_same (role.Table t len) e x = refl
  linked_same (role.Counter map) e x = refl

-- What a word that is written does: it leaves such blocks, or it stores the pair of one.
module _ (known : Known) where
  pub data WroteSo (effects : List Effect) (known2 : Known) : Type 0 where
    LeavesThem : ((x : ℕ) → own_of (known2.roles x) ≡ own_of (known.roles x)) → NoneOfBlock effects → WroteSo effects known2
    StoresOne : (b j : ℕ) → known.roles b ≡ role.OwnPair j → known2.roles b ≡ role.Pair (known.stored + 1) → ((x : ℕ) → x ≢ b → known2.roles x ≡ known.roles x) → IsStoring effects → WroteSo effects known2

  module _ (its : Acting) where
    -- the place of a table
    placed_so : (s : Spot) (b : ℕ) (was is : Role) → known.roles b ≡ is → WroteSo (placed s known.stored was is) (stored_on b is known)
    placed_so s b was (role.OwnPair j) e =
        StoresOne b j e (put_here b (role.Pair (known.stored + 1)) known.roles b refl) (λ x ne. put_elsewhere b (role.Pair (known.stored + 1)) known.roles x ne) (storing_by s known.stored j was)
    placed_so s b was role.Free e = LeavesThem (λ x. refl) (placed_none of_block no_block s known.stored was role.Free (λ j is. absurd (cc is)))
    placed_so s b was (role.OwnTable turn shape) e = LeavesThem (λ x. refl) (placed_none of_block no_block s known.stored was (role.OwnTable turn shape) (λ j is. absurd (cc is)))
    placed_so s b was (role.Pair n) e = LeavesThem (λ x. refl) (placed_none of_block no_block s known.stored was (role.Pair n) (λ j is. absurd (cc is)))
    placed_so s b was (role.Table t len) e = LeavesThem (λ x. refl) (placed_none of_block no_block s known.stored was (role.Table t len) (λ j is. absurd (cc is)))
    placed_so s b was (role.Counter map) e = LeavesThem (λ x. refl) (placed_none of_block no_block s known.stored was (role.Counter map) (λ j is. absurd (cc is)))

    -- whichever word of a table it is
    by_word : (t : TableId) (s : Spot) (b : ℕ) (was is : Role) → known.roles b ≡ is → (next list place : Bool) → (list ≡ true → place ≡ false)
        → WroteSo (if next then followed_by its is else (if list then carried t is else (if place then placed s known.stored was is else [])))
        (if next then linked_on its b is known else (if place then stored_on b is known else known))
    by_word t s b was is e true list place apart = LeavesThem (linked_same its known b is e) (followed_none of_block no_block its (λ turn shape. refl) is)
    by_word t s b was is e false true true apart = absurd (let no = apart refl in cc no)
    by_word t s b was is e false true false apart = LeavesThem (λ x. refl) (carried_none of_block no_block t is)
    by_word t s b was is e false false true apart = placed_so s b was is e
    by_word t s b was is e false false false apart = LeavesThem (λ x. refl) tt

    -- the head of the list is no place
    list_apart : (len field : ℕ) → (field == DEFERRED) ≡ true → is_place len field ≡ false
    list_apart len field e = ap (is_place len) (eqb-true field DEFERRED e) ∙ (grind arith)

    table_so : (t : TableId) (len field b : ℕ) (was is : Role) → known.roles b ≡ is → WroteSo (in_table its t len field known.stored was is) (in_table_on its len field b is known)
    table_so t len field b was is e = by_word t (spot_at t field) b was is e (field == NEXT) (field == DEFERRED) (is_place len field) (list_apart len field)

    -- a word that names the same says nothing
    unless_same : (q : Bool) (effects : List Effect) (known2 : Known) → WroteSo effects known2 → WroteSo (if q then [] else effects) (if q then known else known2)
    unless_same true effects known2 so = LeavesThem (λ x. refl) tt
    unless_same false effects known2 so = so

    block_so : (r : Role) (field b : ℕ) (q : Bool) (was is : Role) → known.roles b ≡ is → WroteSo (in_block its r field known.stored q was is) (in_block_on its r field q b is known)
    block_so role.Free field b q was is e = LeavesThem (λ x. refl) tt
    block_so (role.OwnPair i) field b q was is e = LeavesThem (λ x. refl) tt
    block_so (role.OwnTable turn shape) field b q was is e = LeavesThem (λ x. refl) tt
    block_so (role.Pair n) field b q was is e = LeavesThem (λ x. refl) tt
    block_so (role.Table t len) field b q was is e = unless_same q (in_table its t len field known.stored was is) (in_table_on its len field b is known) (table_so t len field b was is e)
    block_so (role.Counter map) field b q was is e = LeavesThem (λ x. refl) (refl, tt)

    wrote_so : (at : At) (old new : ℕ) → WroteSo (written_by its known at old new) (written_on its at old new known)
    wrote_so (Root r) old new =
        unless_same (names_same old new) (led_to its (named known old) (named known new)) (linked_on its (block_in new) (named known new) known)
        (LeavesThem (linked_same its known (block_in new) (named known new) refl) (led_none of_block no_block its (λ turn shape. refl) (named known old) (named known new)))
    wrote_so (Used r) old new = LeavesThem (λ x. refl) tt
    wrote_so (Slot s field) old new = LeavesThem (λ x. refl) tt
    wrote_so (Entry b field) old new = LeavesThem (λ x. refl) (retired_none of_block no_block its (names_same old new) field (known.roles b))
    wrote_so (Word b field) old new = block_so (known.roles b) field (block_in new) (names_same old new) (named known old) (named known new) refl

-- What an operation does, whoever makes it, where a block that it makes was free.
module _ (its : Acting) (known : Known) where
  abbrev after : Changed → Known
  after told = known_after its told known

  abbrev effects : Changed → List Effect
  effects told = effects_of its known told

  abbrev pub MakesFree : Changed → Type 0
  MakesFree (changed.Made k b) = known.roles b ≡ role.Free
  MakesFree _ = Unit {0}

  pub data DoesSo (told : Changed) : Type 0 where
    Leaves : ((x : ℕ) → own_of ((after told).roles x) ≡ own_of (known.roles x)) → NoneOfBlock (effects told) → DoesSo told
    Makes : (b : ℕ) → told ≡ changed.Made kind.Pair b → known.roles b ≡ role.Free → DoesSo told
    GivesUp : (b j : ℕ) → told ≡ changed.Took b → known.roles b ≡ role.OwnPair j → DoesSo told
    Stores : (b j : ℕ) → known.roles b ≡ role.OwnPair j → (after told).roles b ≡ role.Pair (known.stored + 1) → ((x : ℕ) → x ≢ b → (after told).roles x ≡ known.roles x) → IsStoring (effects told) → DoesSo told

  as_written : (told : Changed) → WroteSo known (effects told) (after told) → DoesSo told
  as_written told (LeavesThem same none) = Leaves same none
  as_written told (StoresOne b j was is others storing) = Stores b j was is others storing

  made_so : (k : Kind) (b : ℕ) → known.roles b ≡ role.Free → DoesSo (changed.Made k b)
  made_so kind.Pair b free = Makes b refl free
  made_so (kind.Table len limit turn) b free =
      Leaves (λ x. put_own b (role.OwnTable turn (record { len = len; limit = limit })) known.roles (sym (ap own_of free)) x) (refl, (refl, tt))
  made_so kind.Shards b free = Leaves (λ x. put_own b (role.Counter (map_of its)) known.roles (sym (ap own_of free)) x) (refl, tt)

  taken_so : (b : ℕ) (r : Role) → known.roles b ≡ r → DoesSo (changed.Took b)
  taken_so b (role.OwnPair j) e = GivesUp b j refl e
  taken_so b role.Free e = Leaves (λ x. put_own b role.Free known.roles (sym (ap own_of e)) x) (subst (λ (q : Role). NoneOfBlock (taken_by its q)) (sym e) tt)
  taken_so b (role.OwnTable turn shape) e =
      Leaves (λ x. put_own b role.Free known.roles (sym (ap own_of e)) x) (subst (λ (q : Role). NoneOfBlock (taken_by its q)) (sym e) (refl, tt))
  taken_so b (role.Pair n) e =
      Leaves (λ x. put_own b role.Free known.roles (sym (ap own_of e)) x) (subst (λ (q : Role). NoneOfBlock (taken_by its q)) (sym e) (pair_back of_block no_block its n, tt))
  taken_so b (role.Table t len) e =
      Leaves (λ x. put_own b role.Free known.roles (sym (ap own_of e)) x) (subst (λ (q : Role). NoneOfBlock (taken_by its q)) (sym e) (table_back of_block no_block its t, tt))
  taken_so b (role.Counter of) e = Leaves (λ x. put_own b role.Free known.roles (sym (ap own_of e)) x) (subst (λ (q : Role). NoneOfBlock (taken_by its q)) (sym e) tt)

  pub does_so : (told : Changed) → MakesFree told → DoesSo told
  does_so changed.Nothing free = Leaves (λ x. refl) tt
  does_so (changed.Wrote at old new) free = as_written (changed.Wrote at old new) (wrote_so known its at old new)
  does_so (changed.Made k b) free = made_so k b free
  does_so (changed.Unmade k) free = Leaves (λ x. refl) (refl, tt)
  does_so (changed.Took b) free = taken_so b (known.roles b) refl
  does_so (changed.Roomed bucket had) free =
      Leaves (λ x. ap (λ (f : ℕ → Role). own_of (f x)) (roomed_as_many its known bucket had).0) (none_if of_block (had && nat_lt bucket known.buckets) [] (effect.Asked ABucket ∷ []) tt (refl, tt))
