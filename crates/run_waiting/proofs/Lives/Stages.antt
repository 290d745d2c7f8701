-- A table that is told to be retired is so after other effects; and a block that is noted as a table was noted so, or as a table of somebody's own.
use Rattle.std.specs.Prelude.{◌≡◌, ◌⊎◌, ℕ, ◌+◌, ◌==◌, Bool, true, false, ◌&&◌, ◌||◌, List, [], ◌∷◌, map, Option, if◌then◌else◌}
use Rattle.std.specs.List.{list_any}
use Rattle.std.proofs.Common.{refl, ap, sym, ◌∙◌, inl, inr}
use Rattle.std.proofs.lemmas.Bool.{cases_eq}
use Rattle.std.proofs.lemmas.List.Folds.{list_any-append}
use Rattle.run_debts.specs.Given.SeizeWordsDeclared.at.At.TheVariants.{Root, Used, Slot, Entry, Word}
use Rattle.run_debts.specs.Given.SeizeWordsWord.{block_in}
use Rattle.run_debts.specs.Given.TablesDeclared.table_words.TheConstants.{NEXT}
use Rattle.run_debts.specs.Given.RunsDeclared.shapes.TableShape.{TableShape}
use Rattle.run_debts.specs.Given.RunsDeclared.effect.Effect.{Effect}
use Rattle.run_debts.specs.Given.RunsDeclared.effect.Effect.TheVariants.{Asked, PairMade, PairGivenUp, TableMade, TableGivenUp, Linked, Promoted, Copied, Stored, Replaced, Removed, Counted, Deferred, Retired, Reclaimed, Ended, Taken}
use Rattle.run_debts.specs.Given.RunsDeclared.effect.TableId.{TableId}
use Rattle.run_debts.specs.Given.RunsDeclared.effect.Thing.TheVariants.{APair, ATable}
use Rattle.run_debts.specs.Given.SchedulesEffects.{at_stage, with_effect, with_effects}
use Rattle.run_debts.specs.Given.SchedulesMoment.{Stage, IsLinked, IsRetired, TableThere, Moment}
use Rattle.run_debts.specs.Given.SchedulesThings.{same_table}
use Rattle.run_debts.specs.Given.SchedulesViews.{is_there, is_stage, is_retired}
use Rattle.run_debts.specs.Given.EffectsDeclared.changed.Changed.{Changed}
use Rattle.run_debts.specs.Given.EffectsDeclared.changed.Changed.TheVariants as changed
use Rattle.run_debts.specs.Given.EffectsDeclared.changed.Kind.{Kind}
use Rattle.run_debts.specs.Given.EffectsDeclared.changed.Kind.TheVariants as kind
use Rattle.run_debts.specs.Given.EffectsEffects.{names_same, named, table_at, pair_taken, table_taken, taken_by, is_place, made_role, linked_on, stored_on, in_table_on, in_block_on, known_after}
use Rattle.run_debts.specs.Given.EffectsKnown.{Known, with_role}
use Rattle.run_debts.specs.Given.EffectsDeclared.acting.Acting.{Acting}
use Rattle.run_debts.specs.Given.EffectsDeclared.acting.Acting.TheVariants as acts
use Rattle.run_debts.specs.Given.EffectsDeclared.role.Role.{Role}
use Rattle.run_debts.specs.Given.EffectsDeclared.role.Role.TheVariants as role
use Rattle.run_debts.proofs.Given.FollowsAlike.{put_here, put_elsewhere}
use Rattle.run_debts.proofs.Given.FollowsTold.{roomed_as_many}
use Rattle.run_debts.proofs.Given.SpotsUnreclaimed.{table_is}
use Rattle.run_debts.proofs.Given.General.{both_true as and_both, or_second as or_right}

-- what passes one test passes another one once it has changed
any_map : {X : Type 0} (p q : X → Bool) (f : X → X) → ((x : X) → p x ≡ true → q (f x) ≡ true) → (xs : List X) → list_any p xs ≡ true → list_any q (map f xs) ≡ true
any_map p q f turn [] e = absurd (cc e)
any_map p q f turn (x ∷ xs) e = by (p x) refl e (any_map p q f turn xs)
  where
    by : (z : Bool) → p x ≡ z → (z || list_any p xs) ≡ true → (list_any p xs ≡ true → list_any q (map f xs) ≡ true) → (q (f x) || list_any q (map f xs)) ≡ true
    by true is k rest = ap (λ (z : Bool). z || list_any q (map f xs)) (turn x is)
    by false is k rest = or_right (q (f x)) (list_any q (map f xs)) (rest k)

module _ (t : TableId) where
  abbrev Test : TableThere → Bool
  Test x = same_table x.table t && is_retired x.stage

  -- another table comes to another stage
  other_stage : (u : TableId) (to : Stage) → (u ≡ t → ⊥) → (xs : List TableThere) → list_any Test xs ≡ true → list_any Test (map (at_stage u to) xs) ≡ true
  other_stage u to ne xs e = any_map Test Test (at_stage u to) turn xs e
    where
      turn : (x : TableThere) → Test x ≡ true → Test (at_stage u to x) ≡ true
      turn x is = by (same_table x.table u) refl
        where
          its : x.table ≡ t
          its = table_is x.table t (and_both (same_table x.table t) (is_retired x.stage) is).0

          by : (z : Bool) → same_table x.table u ≡ z → Test (if z then record x { stage = to } else x) ≡ true
          by true here = absurd (ne (sym (table_is x.table u here) ∙ its))
          by false here = is

  -- one is retired
  retired_stage : (u : TableId) (xs : List TableThere) → list_any Test xs ≡ true → list_any Test (map (at_stage u IsRetired) xs) ≡ true
  retired_stage u xs e = any_map Test Test (at_stage u IsRetired) turn xs e
    where
      turn : (x : TableThere) → Test x ≡ true → Test (at_stage u IsRetired x) ≡ true
      turn x is = by (same_table x.table u)
        where
          by : (z : Bool) → Test (if z then record x { stage = IsRetired } else x) ≡ true
          by true = ap (λ (y : Bool). y && true) (and_both (same_table x.table t) (is_retired x.stage) is).0
          by false = is

  -- and this one is then
  pub now_retired : (xs : List TableThere) → list_any (λ u. same_table u.table t && is_there u.stage) xs ≡ true → list_any Test (map (at_stage t IsRetired) xs) ≡ true
  now_retired xs e = any_map (λ u. same_table u.table t && is_there u.stage) Test (at_stage t IsRetired) turn xs e
    where
      turn : (x : TableThere) → (same_table x.table t && is_there x.stage) ≡ true → Test (at_stage t IsRetired x) ≡ true
      turn x is = by (same_table x.table t) refl
        where
          its : same_table x.table t ≡ true
          its = (and_both (same_table x.table t) (is_there x.stage) is).0

          by : (z : Bool) → same_table x.table t ≡ z → Test (if z then record x { stage = IsRetired } else x) ≡ true
          by true here = ap (λ (y : Bool). y && true) its
          by false here = absurd (cc (here, its))

  -- the effect reclaims this table, or ends it
  abbrev pub EndsIt : Effect → Type 0
  EndsIt (Reclaimed (ATable u)) = u ≡ t
  EndsIt (Taken u) = u ≡ t
  EndsIt _ = ⊥

  abbrev pub NoneEnds : List Effect → Type 0
  NoneEnds [] = Unit {0}
  NoneEnds (f ∷ effects) = (EndsIt f → ⊥) × NoneEnds effects

  module _ {K V : Type 0} (caller : Option (List ℕ)) (acted : Option ℕ) where
    still_one : (f : Effect) (m : Moment K V) → (EndsIt f → ⊥) → is_stage is_retired t m ≡ true → is_stage is_retired t (with_effect caller acted f m) ≡ true
    still_one (Linked u shape) m none is =
        let new : List TableThere = record { table = u; shape = shape; stage = IsLinked } ∷ [] in list_any-append Test m.tables new ∙ ap (λ (z : Bool). z || list_any Test new) is
    still_one (Retired (ATable u)) m none is = retired_stage u m.tables is
    still_one (Retired (APair n)) m none is = is
    still_one (Reclaimed (ATable u)) m none is = other_stage u _ none m.tables is
    still_one (Reclaimed (APair n)) m none is = is
    still_one (Taken u) m none is = other_stage u _ none m.tables is
    still_one (Asked growth) m none is = is
    still_one PairMade m none is = is
    still_one PairGivenUp m none is = is
    still_one (TableMade u) m none is = is
    still_one (TableGivenUp u) m none is = is
    still_one (Promoted u) m none is = is
    still_one (Copied n s) m none is = is
    still_one (Stored n s) m none is = is
    still_one (Replaced n) m none is = is
    still_one (Removed n) m none is = is
    still_one (Counted s) m none is = is
    still_one (Deferred n u) m none is = is
    still_one (Ended n) m none is = is

    pub still_retired : (effects : List Effect) (m : Moment K V) → NoneEnds effects → is_stage is_retired t m ≡ true → is_stage is_retired t (with_effects caller acted effects m) ≡ true
    still_retired [] m none is = is
    still_retired (f ∷ effects) m none is = still_retired effects (with_effect caller acted f m) none.1 (still_one f m none.0 is)

module _ (t : TableId) (acting : Acting) where
  table_ends : (a : Acting) (u : TableId) → EndsIt t (table_taken a u) → u ≡ t
  table_ends (acts.Ending map) u ends = ends
  table_ends (acts.Call caller map) u ends = ends
  table_ends (acts.Making map) u ends = ends
  table_ends acts.Row u ends = ends

  pair_ends : (a : Acting) (n : ℕ) → EndsIt t (pair_taken a n) → ⊥
  pair_ends (acts.Ending map) n ends = ends
  pair_ends (acts.Call caller map) n ends = ends
  pair_ends (acts.Making map) n ends = ends
  pair_ends acts.Row n ends = ends

  -- what is taken ends another table, if one
  pub taken_ends : (r : Role) → ((u : TableId) (n : ℕ) → r ≡ role.Table u n → u ≡ t → ⊥) → NoneEnds t (taken_by acting r)
  taken_ends role.Free other = tt
  taken_ends (role.OwnPair i) other = (λ z. z, tt)
  taken_ends (role.OwnTable turn shape) other = (λ z. z, tt)
  taken_ends (role.Pair n) other = (pair_ends acting n, tt)
  taken_ends (role.Table u n) other = (λ ends. other u n refl (table_ends acting u ends), tt)
  taken_ends (role.Counter of) other = tt

-- a table of a map, or of somebody's own
abbrev pub WasTable : Known → ℕ → TableId → ℕ → Type 0
WasTable known b t len = (known.roles b ≡ role.Table t len) ⊎ ((turn : ℕ) × (shape : TableShape) × (known.roles b ≡ role.OwnTable turn shape) × (shape.len ≡ len))

module _ (acting : Acting) (known : Known) (b len : ℕ) (t : TableId) where
  abbrev Was : Known → Type 0
  Was known2 = known2.roles b ≡ role.Table t len → WasTable known b t len

  -- one block is something else, which is no table
  put_none : (x : ℕ) (r : Role) → (r ≡ role.Table t len → ⊥) → Was (with_role x r known)
  put_none x r none is = elim (cases_eq b x) as (λ _. WasTable known b t len) [
    | inl e ↦ absurd (none (sym (put_here x r known.roles b e) ∙ is))
    | inr ne ↦ inl (sym (put_elsewhere x r known.roles b ne) ∙ is)
  ]

  linked_back : (x : ℕ) (r : Role) → known.roles x ≡ r → Was (linked_on acting x r known)
  linked_back x (role.OwnTable turn shape) e is = elim (cases_eq b x) as (λ _. WasTable known b t len) [
    | inl same ↦ inr (turn, shape, ap known.roles same ∙ e, (let one : role.Table (table_at acting turn) shape.len ≡ role.Table t len = sym (put_here x (role.Table (table_at acting turn) shape.len) known.roles b same) ∙ is in cc one))
    | inr ne ↦ inl (sym (put_elsewhere x (role.Table (table_at acting turn) shape.len) known.roles b ne) ∙ is)
  ]
  linked_back x role.Free e is = inl is
  linked_back x (role.OwnPair i) e is = inl is
  linked_back x (role.Pair n) e is = inl is
  linked_back x (role.Table u n) e is = inl is
  linked_back x (role.Counter of) e is = inl is

  stored_back : (x : ℕ) (r : Role) → Was (stored_on x r known)
  stored_back x (role.OwnPair i) is = put_none x (role.Pair (known.stored + 1)) (λ e. cc e) is
  stored_back x role.Free is = inl is
  stored_back x (role.OwnTable turn shape) is = inl is
  stored_back x (role.Pair n) is = inl is
  stored_back x (role.Table u n) is = inl is
  stored_back x (role.Counter of) is = inl is

  either : (q : Bool) (k l : Known) → Was k → Was l → Was (if q then k else l)
  either true k l a c = a
  either false k l a c = c

  block_back : (r : Role) (field x : ℕ) (same : Bool) → Was (in_block_on acting r field same x (known.roles x) known)
  block_back (role.Table u n) field x same =
      either same known (in_table_on acting n field x (known.roles x) known) (λ is. inl is)
      (either (field == NEXT) (linked_on acting x (known.roles x) known) (if is_place n field then stored_on x (known.roles x) known else known) (linked_back x (known.roles x) refl)
      (either (is_place n field) (stored_on x (known.roles x) known) known (stored_back x (known.roles x)) (λ is. inl is)))
  block_back role.Free field x same = λ is. inl is
  block_back (role.OwnPair i) field x same = λ is. inl is
  block_back (role.OwnTable turn shape) field x same = λ is. inl is
  block_back (role.Pair n) field x same = λ is. inl is
  block_back (role.Counter of) field x same = λ is. inl is

  made_none : (k : Kind) → made_role acting k ≡ role.Table t len → ⊥
  made_none kind.Pair e = cc e
  made_none (kind.Table n limit turn) e = cc e
  made_none kind.Shards e = cc e

  pub role_back : (told : Changed) → Was (known_after acting told known)
  role_back changed.Nothing = λ is. inl is
  role_back (changed.Wrote (Root r) old new) = either (names_same old new) known (linked_on acting (block_in new) (named known new) known) (λ is. inl is) (linked_back (block_in new) (named known new) refl)
  role_back (changed.Wrote (Used r) old new) = λ is. inl is
  role_back (changed.Wrote (Slot x field) old new) = λ is. inl is
  role_back (changed.Wrote (Entry x field) old new) = λ is. inl is
  role_back (changed.Wrote (Word x field) old new) = block_back (known.roles x) field (block_in new) (names_same old new)
  role_back (changed.Made k x) = put_none x (made_role acting k) (made_none k)
  role_back (changed.Unmade k) = λ is. inl is
  role_back (changed.Took x) = put_none x role.Free (λ e. cc e)
  role_back (changed.Roomed bucket had) = λ is. inl (sym (ap (λ (f : ℕ → Role). f b) (roomed_as_many acting known bucket had).0) ∙ is)
