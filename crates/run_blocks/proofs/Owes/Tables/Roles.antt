-- What an operation of a call does to tables that are not linked, and by which effects: it leaves them, makes one, gives one up, or links one.
use Rattle.std.specs.Prelude.{◌&&◌, ◌≡◌, ◌≢◌, ℕ, ◌+◌, ◌==◌, nat_lt, Bool, true, false, List, [], ◌∷◌, Option, Some, None, if◌then◌else◌}
use Rattle.std.proofs.Common.{refl, ap, sym, subst, ◌∙◌, inl, inr}
use Rattle.std.proofs.lemmas.Bool.{cases_eq}
use Rattle.run_debts.specs.Given.SeizeWordsDeclared.at.At.{At}
use Rattle.run_debts.specs.Given.SeizeWordsDeclared.at.At.TheVariants.{Root, Used, Slot, Entry, Word}
use Rattle.run_debts.specs.Given.SeizeWordsWord.{block_in}
use Rattle.run_debts.specs.Given.TablesDeclared.table_words.TheConstants.{NEXT, DEFERRED}
use Rattle.run_debts.specs.Given.RunsDeclared.shapes.TableShape.{TableShape}
use Rattle.run_debts.specs.Given.RunsDeclared.effect.Effect.{Effect}
use Rattle.run_debts.specs.Given.RunsDeclared.effect.Effect.TheVariants as effect
use Rattle.run_debts.specs.Given.RunsDeclared.effect.Growth.TheVariants.{ABucket}
use Rattle.run_debts.specs.Given.RunsDeclared.effect.Spot.{Spot}
use Rattle.run_debts.specs.Given.RunsDeclared.effect.TableId.{TableId}
use Rattle.run_debts.specs.Given.SchedulesLists.{put}
use Rattle.run_debts.specs.Given.EffectsDeclared.changed.Changed.{Changed}
use Rattle.run_debts.specs.Given.EffectsDeclared.changed.Changed.TheVariants as changed
use Rattle.run_debts.specs.Given.EffectsDeclared.changed.Kind.{Kind}
use Rattle.run_debts.specs.Given.EffectsDeclared.changed.Kind.TheVariants as kind
use Rattle.run_debts.specs.Given.EffectsEffects.{caller_of, map_of, table_at, taken_by, names_same, followed_by, led_to, carried, placed, spot_at, is_place, in_table, in_block, named, written_by, effects_of, linked_on, stored_on, in_table_on, in_block_on, written_on, known_after}
use Rattle.run_debts.specs.Given.EffectsKnown.{Known}
use Rattle.run_debts.specs.Given.EffectsDeclared.acting.Acting.{Acting}
use Rattle.run_debts.specs.Given.EffectsDeclared.role.Role.{Role}
use Rattle.run_debts.specs.Given.EffectsDeclared.role.Role.TheVariants as role
use Rattle.run_debts.proofs.Given.FollowsAlike.{put_here, put_elsewhere}
use Rattle.run_debts.proofs.Given.FollowsTold.{roomed_as_many}
use Rattle.run_blocks.specs.Owes.Beside.{NoneOf}
use Rattle.run_blocks.proofs.Owes.Quiet.{is_of_map, none_if, placed_none, carried_none, pair_back, table_back, retired_none}

-- which table a block is that is not linked
abbrev pub own_table_of : Role → Option (ℕ × TableShape)
own_table_of (role.OwnTable turn shape) = Some (turn, shape)
own_table_of _ = None

pub own_table_is : (r : Role) (turn : ℕ) (shape : TableShape) → own_table_of r ≡ Some (turn, shape) → r ≡ role.OwnTable turn shape
own_table_is (role.OwnTable t s) turn shape e =
    let both : ◌≡◌ {A = ℕ × TableShape} (t, s) (turn, shape) = cc e in ap (λ (x : ℕ × TableShape). role.OwnTable x.0 x.1) both
own_table_is role.Free turn shape e = absurd (cc e)
own_table_is (role.OwnPair i) turn shape e = absurd (cc e)
own_table_is (role.Pair n) turn shape e = absurd (cc e)
own_table_is (role.Table t len) turn shape e = absurd (cc e)
own_table_is (role.Counter map) turn shape e = absurd (cc e)

-- the effect says something of such a table
abbrev pub of_table : Effect → Bool
of_table (effect.TableMade t) = true
of_table (effect.TableGivenUp t) = true
of_table (effect.Linked t shape) = true
of_table _ = false

abbrev pub NoneOfTable : List Effect → Type 0
NoneOfTable effects = NoneOf of_table effects

-- what the map has is no such table
no_table : (f : Effect) → is_of_map f ≡ true → of_table f ≡ false
no_table (effect.TableMade t) e = absurd (cc e)
no_table (effect.TableGivenUp t) e = absurd (cc e)
no_table (effect.Linked t shape) e = absurd (cc e)
no_table _ e = refl

-- a block that is another thing from now on is as much a table
pub put_table : (b : ℕ) (r : Role) (f : ℕ → Role) → own_table_of r ≡ own_table_of (f b) → (x : ℕ) → own_table_of (put b r f x) ≡ own_table_of (f x)
put_table b r f same x = elim (cases_eq x b) as (λ _. own_table_of (put b r f x) ≡ own_table_of (f x)) [
  | inl e ↦ ap own_table_of (put_here b r f x e) ∙ same ∙ ap (λ (y : ℕ). own_table_of (f y)) (sym e)
  | inr ne ↦ ap own_table_of (put_elsewhere b r f x ne)
]

-- What a word that is written does: it leaves such tables, or it links one.
module _ (its : Acting) (known : Known) where
  pub data WroteTables (effects : List Effect) (known2 : Known) : Type 0 where
    LeavesThem : ((x : ℕ) → own_table_of (known2.roles x) ≡ own_table_of (known.roles x)) → NoneOfTable effects → WroteTables effects known2
    LinksOne : (b turn : ℕ) (shape : TableShape) → known.roles b ≡ role.OwnTable turn shape → known2.roles b ≡ role.Table (table_at its turn) shape.len
        → ((x : ℕ) → x ≢ b → known2.roles x ≡ known.roles x) → effects ≡ effect.Linked (table_at its turn) shape ∷ [] → WroteTables effects known2

  -- a link to the block
  followed_so : (b : ℕ) (is : Role) → known.roles b ≡ is → WroteTables (followed_by its is) (linked_on its b is known)
  followed_so b (role.OwnTable turn shape) e =
      LinksOne b turn shape e (put_here b (role.Table (table_at its turn) shape.len) known.roles b refl) (λ x ne. put_elsewhere b (role.Table (table_at its turn) shape.len) known.roles x ne) refl
  followed_so b role.Free e = LeavesThem (λ x. refl) tt
  followed_so b (role.OwnPair i) e = LeavesThem (λ x. refl) tt
  followed_so b (role.Pair n) e = LeavesThem (λ x. refl) tt
  followed_so b (role.Table t len) e = LeavesThem (λ x. refl) tt
  followed_so b (role.Counter map) e = LeavesThem (λ x. refl) tt

  led_so : (b : ℕ) (was is : Role) → known.roles b ≡ is → WroteTables (led_to its was is) (linked_on its b is known)
  led_so b was (role.OwnTable turn shape) e =
      LinksOne b turn shape e (put_here b (role.Table (table_at its turn) shape.len) known.roles b refl) (λ x ne. put_elsewhere b (role.Table (table_at its turn) shape.len) known.roles x ne) refl
  led_so b (role.Table t len) (role.Table u other) e = LeavesThem (λ x. refl) (refl, tt)
  led_so b role.Free (role.Table u other) e = LeavesThem (λ x. refl) tt
  led_so b (role.OwnPair i) (role.Table u other) e = LeavesThem (λ x. refl) tt
  led_so b (role.OwnTable turn shape) (role.Table u other) e = LeavesThem (λ x. refl) tt
  led_so b (role.Pair n) (role.Table u other) e = LeavesThem (λ x. refl) tt
  led_so b (role.Counter map) (role.Table u other) e = LeavesThem (λ x. refl) tt
  led_so b was role.Free e = LeavesThem (λ x. refl) tt
  led_so b was (role.OwnPair i) e = LeavesThem (λ x. refl) tt
  led_so b was (role.Pair n) e = LeavesThem (λ x. refl) tt
  led_so b was (role.Counter map) e = LeavesThem (λ x. refl) tt

  -- a pair that is stored is no table
  stored_same : (b : ℕ) (is : Role) → known.roles b ≡ is → (x : ℕ) → own_table_of ((stored_on b is known).roles x) ≡ own_table_of (known.roles x)
  stored_same b (role.OwnPair i) e x = put_table b (role.Pair (known.stored + 1)) known.roles (sym (ap own_table_of e)) x
  stored_same b role.Free e x = refl
  stored_same b (role.OwnTable turn shape) e x = refl
  stored_same b (role.Pair n) e x = refl
  stored_same b (role.Table t len) e x = refl
  stored_same b (role.Counter map) e x = refl

  by_word : (t : TableId) (s : Spot) (b : ℕ) (was is : Role) → known.roles b ≡ is → (next list place : Bool)
      → WroteTables (if next then followed_by its is else (if list then carried t is else (if place then placed s known.stored was is else [])))
      (if next then linked_on its b is known else (if place then stored_on b is known else known))
  by_word t s b was is e true list place = followed_so b is e
  by_word t s b was is e false true true = LeavesThem (stored_same b is e) (carried_none of_table no_table t is)
  by_word t s b was is e false true false = LeavesThem (λ x. refl) (carried_none of_table no_table t is)
  by_word t s b was is e false false true = LeavesThem (stored_same b is e) (placed_none of_table no_table s known.stored was is (λ j e2. refl))
  by_word t s b was is e false false false = LeavesThem (λ x. refl) tt

  unless_same : (q : Bool) (effects : List Effect) (known2 : Known) → WroteTables effects known2 → WroteTables (if q then [] else effects) (if q then known else known2)
  unless_same true effects known2 so = LeavesThem (λ x. refl) tt
  unless_same false effects known2 so = so

  block_so : (r : Role) (field b : ℕ) (q : Bool) (was is : Role) → known.roles b ≡ is → WroteTables (in_block its r field known.stored q was is) (in_block_on its r field q b is known)
  block_so role.Free field b q was is e = LeavesThem (λ x. refl) tt
  block_so (role.OwnPair i) field b q was is e = LeavesThem (λ x. refl) tt
  block_so (role.OwnTable turn shape) field b q was is e = LeavesThem (λ x. refl) tt
  block_so (role.Pair n) field b q was is e = LeavesThem (λ x. refl) tt
  block_so (role.Table t len) field b q was is e =
      unless_same q (in_table its t len field known.stored was is) (in_table_on its len field b is known)
      (by_word t (spot_at t field) b was is e (field == NEXT) (field == DEFERRED) (is_place len field))
  block_so (role.Counter map) field b q was is e = LeavesThem (λ x. refl) (refl, tt)

  wrote_so : (at : At) (old new : ℕ) → WroteTables (written_by its known at old new) (written_on its at old new known)
  wrote_so (Root r) old new =
      unless_same (names_same old new) (led_to its (named known old) (named known new)) (linked_on its (block_in new) (named known new) known)
      (led_so (block_in new) (named known old) (named known new) refl)
  wrote_so (Used r) old new = LeavesThem (λ x. refl) tt
  wrote_so (Slot s field) old new = LeavesThem (λ x. refl) tt
  wrote_so (Entry b field) old new = LeavesThem (λ x. refl) (retired_none of_table no_table its (names_same old new) field (known.roles b))
  wrote_so (Word b field) old new = block_so (known.roles b) field (block_in new) (names_same old new) (named known old) (named known new) refl

  -- What an operation does, where a block that it makes was free.
  abbrev after : Changed → Known
  after told = known_after its told known

  abbrev pub FreeBefore : Changed → Type 0
  FreeBefore (changed.Made k b) = known.roles b ≡ role.Free
  FreeBefore _ = Unit {0}

  pub data DoesToTables (told : Changed) : Type 0 where
    Leaves : ((x : ℕ) → own_table_of ((after told).roles x) ≡ own_table_of (known.roles x)) → NoneOfTable (effects_of its known told) → DoesToTables told
    Makes : (b len limit turn : ℕ) → told ≡ changed.Made (kind.Table len limit turn) b → known.roles b ≡ role.Free → DoesToTables told
    GivesUp : (b turn : ℕ) (shape : TableShape) → told ≡ changed.Took b → known.roles b ≡ role.OwnTable turn shape → DoesToTables told
    Links : (b turn : ℕ) (shape : TableShape) → known.roles b ≡ role.OwnTable turn shape → (after told).roles b ≡ role.Table (table_at its turn) shape.len
        → ((x : ℕ) → x ≢ b → (after told).roles x ≡ known.roles x) → effects_of its known told ≡ effect.Linked (table_at its turn) shape ∷ [] → DoesToTables told

  as_written : (told : Changed) → WroteTables (effects_of its known told) (after told) → DoesToTables told
  as_written told (LeavesThem same none) = Leaves same none
  as_written told (LinksOne b turn shape was is others effects_are) = Links b turn shape was is others effects_are

  made_so : (k : Kind) (b : ℕ) → known.roles b ≡ role.Free → DoesToTables (changed.Made k b)
  made_so kind.Pair b free = Leaves (λ x. put_table b (role.OwnPair (caller_of its)) known.roles (sym (ap own_table_of free)) x) (refl, (refl, tt))
  made_so (kind.Table len limit turn) b free = Makes b len limit turn refl free
  made_so kind.Shards b free = Leaves (λ x. put_table b (role.Counter (map_of its)) known.roles (sym (ap own_table_of free)) x) (refl, tt)

  taken_so : (b : ℕ) (r : Role) → known.roles b ≡ r → DoesToTables (changed.Took b)
  taken_so b (role.OwnTable turn shape) e = GivesUp b turn shape refl e
  taken_so b role.Free e = Leaves (λ x. put_table b role.Free known.roles (sym (ap own_table_of e)) x) (subst (λ (q : Role). NoneOfTable (taken_by its q)) (sym e) tt)
  taken_so b (role.OwnPair j) e = Leaves (λ x. put_table b role.Free known.roles (sym (ap own_table_of e)) x) (subst (λ (q : Role). NoneOfTable (taken_by its q)) (sym e) (refl, tt))
  taken_so b (role.Pair n) e = Leaves (λ x. put_table b role.Free known.roles (sym (ap own_table_of e)) x) (subst (λ (q : Role). NoneOfTable (taken_by its q)) (sym e) (pair_back of_table no_table its n, tt))
  taken_so b (role.Table t len) e =
      Leaves (λ x. put_table b role.Free known.roles (sym (ap own_table_of e)) x) (subst (λ (q : Role). NoneOfTable (taken_by its q)) (sym e) (table_back of_table no_table its t, tt))
  taken_so b (role.Counter of) e = Leaves (λ x. put_table b role.Free known.roles (sym (ap own_table_of e)) x) (subst (λ (q : Role). NoneOfTable (taken_by its q)) (sym e) tt)

  pub does_to_tables : (told : Changed) → FreeBefore told → DoesToTables told
  does_to_tables changed.Nothing free = Leaves (λ x. refl) tt
  does_to_tables (changed.Wrote at old new) free = as_written (changed.Wrote at old new) (wrote_so at old new)
  does_to_tables (changed.Made k b) free = made_so k b free
  does_to_tables (changed.Unmade k) free = Leaves (λ x. refl) (refl, tt)
  does_to_tables (changed.Took b) free = taken_so b (known.roles b) refl
  does_to_tables (changed.Roomed bucket had) free =
      Leaves (λ x. ap (λ (f : ℕ → Role). own_table_of (f x)) (roomed_as_many its known bucket had).0) (none_if of_table (had && nat_lt bucket known.buckets) [] (effect.Asked ABucket ∷ []) tt (refl, tt))
