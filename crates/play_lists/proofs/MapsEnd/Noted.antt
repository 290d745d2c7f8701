-- What is left to end is noted so: each pair that is in the map, and each table that it has from the root on, has a block that is still to be reclaimed.
use Rattle.std.specs.Prelude.{◌≡◌, ◌<◌, ◌⊎◌, ◌==◌, ◌++◌, ℕ, Bool, true, false, not, cond, List, [], ◌∷◌, filter, if◌then◌else◌}
use Rattle.std.specs.List.{AllByRecursion}
use Rattle.std.proofs.Common.{refl, ap, sym, subst, inl, inr, eqb-true}
use Rattle.seize.specs.World.{times}
use Rattle.many_acts.proofs.Given.FinishesEnds.CountedBlocks.{some_here, some_last}
use Rattle.run_schedules.specs.declared.effect.Effect.{Effect}
use Rattle.run_schedules.specs.declared.effect.Effect.TheVariants.{Ended, Taken}
use Rattle.run_schedules.specs.declared.effect.TableId.{TableId}
use Rattle.run_schedules.specs.Schedules.Lists.{OneOf}
use Rattle.run_schedules.specs.Schedules.Moment.{GivenBack, IsTaken, Moment}
use Rattle.run_schedules.specs.Schedules.Things.{same_table}
use Rattle.run_schedules.specs.Schedules.Views.{first_of, is_in_map}
use Rattle.run_kept.specs.Given.EffectsEffects.{taken_by}
use Rattle.run_kept.specs.Given.EffectsKnown.{Known}
use Rattle.run_kept.specs.Given.EffectsDeclared.acting.Acting.TheVariants as acts
use Rattle.run_kept.specs.Given.EffectsDeclared.role.Role.{Role}
use Rattle.run_kept.specs.Given.EffectsDeclared.role.Role.TheVariants as role
use Rattle.run_finds.proofs.Given.SpotsUnreclaimed.{table_is}
use Rattle.run_kept.specs.Ends.{ended_as}
use Rattle.run_schedules.specs.Deeds.History.{left_tables}
use Rattle.play_lists.specs.MapsEnd.Ends.{AreStored, EndsWell}
use Rattle.play_lists.proofs.MapsEnd.Alike.{ended, ends_next}
use Rattle.play_lists.proofs.MapsEnd.Left.{left_by}
use Rattle.play_lists.proofs.MapsEnd.Places.{none_in}

module _ {X : Type 0} where
  -- what is so of each that passes, and of each that does not
  unfiltered : (P : X → Type 0) (p : X → Bool) (xs : List X) → ((x : X) → p x ≡ false → P x) → AllByRecursion P (filter p xs) → AllByRecursion P xs
  unfiltered P p [] others all = tt
  unfiltered P p (x ∷ xs) others all = by (p x) refl (unfiltered P p xs others) all
    where
      by : (q : Bool) → p x ≡ q → (AllByRecursion P (filter p xs) → AllByRecursion P xs) → AllByRecursion P (cond q (x ∷ filter p xs) (filter p xs)) → P x × AllByRecursion P xs
      by true e rest all = (all.0, rest all.1)
      by false e rest all = (others x e, rest all)

  each_so : (P Q : X → Type 0) (xs : List X) → ((x : X) → P x → Q x) → AllByRecursion P xs → AllByRecursion Q xs
  each_so P Q [] so all = tt
  each_so P Q (x ∷ xs) so all = (so x all.0, each_so P Q xs so all.1)

  one_of_two : (P : X → Type 0) (xs ys : List X) → OneOf P (xs ++ ys) → OneOf P xs ⊎ OneOf P ys
  one_of_two P [] ys one = inr one
  one_of_two P (x ∷ xs) ys (inl it) = inl (inl it)
  one_of_two P (x ∷ xs) ys (inr one) = by (one_of_two P xs ys one)
    where
      by : OneOf P xs ⊎ OneOf P ys → (P x ⊎ OneOf P xs) ⊎ OneOf P ys
      by (inl here) = inl (inr here)
      by (inr there) = inr there

module _ (map : ℕ) where
  abbrev pub Ends : ℕ → List Effect → Type 0
  Ends k effects = OneOf (λ f. f ≡ Ended k) effects

  abbrev pub Takes : TableId → List Effect → Type 0
  Takes t effects = OneOf (λ f. f ≡ Taken t) effects

  module _ {K V : Type 0} where
    -- each pair of it ends,
    pub pair_ends : (effects : List Effect) (m : Moment K V) → AreStored map m → EndsWell map effects m → (k : ℕ) → is_in_map map (m.place k) ≡ true → Ends k effects
    pair_ends [] m stored well k is = absurd (let none = none_in map m stored well.no_pair k in cc (none, is))
    pair_ends (Ended n ∷ effects) m stored well k is = by (k == n) refl (pair_ends effects (ended map (Ended n) m) next.0 next.1 k)
      where
        next : AreStored map (ended map (Ended n) m) × EndsWell map effects (ended map (Ended n) m)
        next = ends_next map (Ended n) effects m stored well

        by : (q : Bool) → (k == n) ≡ q → (is_in_map map (if q then GivenBack else m.place k) ≡ true → Ends k effects) → Ends k (Ended n ∷ effects)
        by true e rest = inl (ap Ended (sym (eqb-true k n e)))
        by false e rest = inr (rest is)
    pair_ends (Taken t ∷ effects) m stored well k is = absurd (let none = none_in map m stored well.finds.0.0 k in cc (none, is))
    pair_ends (_ ∷ effects) m stored well k is = absurd well.finds.0

    -- and each table from the root on
    pub table_ends : (effects : List Effect) (m : Moment K V) → EndsWell map effects m → AllByRecursion (λ u. Takes u.table effects) (left_tables map m)
    table_ends [] m well = subst (AllByRecursion (λ u. Takes u.table [])) (sym well.no_table) tt
    table_ends (Ended n ∷ effects) m well =
        each_so (λ u. Takes u.table effects) (λ u. Takes u.table (Ended n ∷ effects)) (left_tables map m) (λ u one. inr one)
        (table_ends effects (ended map (Ended n) m) (record { finds = well.finds.1; no_pair = well.no_pair; no_table = well.no_table }))
    table_ends (Taken t ∷ effects) m well =
        unfiltered (λ u. Takes u.table (Taken t ∷ effects)) (λ u. not (same_table u.table t)) (left_tables map m) (λ u e. inl (ap Taken (sym (table_is u.table t (it (same_table u.table t) e)))))
        (subst (AllByRecursion (λ u. Takes u.table (Taken t ∷ effects))) (left_by map (first_of map m) t IsTaken refl m.tables)
        (each_so (λ u. Takes u.table effects) (λ u. Takes u.table (Taken t ∷ effects)) (left_tables map (ended map (Taken t) m)) (λ u one. inr one)
        (table_ends effects (ended map (Taken t) m) (record { finds = well.finds.1; no_pair = well.no_pair; no_table = well.no_table }))))
      where
        it : (q : Bool) → not q ≡ false → q ≡ true
        it true e = refl
        it false e = absurd (cc e)
    table_ends (_ ∷ effects) m well = absurd well.finds.0

  -- by the blocks that are to be reclaimed, as they are noted
  module _ (known : Known) where
    abbrev its : Role → List Effect
    its r = taken_by (acts.Ending map) r

    pair_taken : (r : Role) (k : ℕ) → Ends k (its r) → r ≡ role.Pair k
    pair_taken (role.Pair n) k (inl e) = let same : n ≡ k = (cc e) in ap role.Pair same
    pair_taken (role.Pair n) k (inr none) = absurd none
    pair_taken (role.Table t len) k (inl e) = absurd (cc e)
    pair_taken (role.Table t len) k (inr none) = absurd none
    pair_taken (role.OwnPair i) k (inl e) = absurd (cc e)
    pair_taken (role.OwnPair i) k (inr none) = absurd none
    pair_taken (role.OwnTable turn shape) k (inl e) = absurd (cc e)
    pair_taken (role.OwnTable turn shape) k (inr none) = absurd none
    pair_taken role.Free k none = absurd none
    pair_taken (role.Counter of) k none = absurd none

    table_taken : (r : Role) (t : TableId) → Takes t (its r) → (len : ℕ) × (r ≡ role.Table t len)
    table_taken (role.Table u len) t (inl e) = let same : u ≡ t = (cc e) in (len, ap (λ (x : TableId). role.Table x len) same)
    table_taken (role.Table u len) t (inr none) = absurd none
    table_taken (role.Pair n) t (inl e) = absurd (cc e)
    table_taken (role.Pair n) t (inr none) = absurd none
    table_taken (role.OwnPair i) t (inl e) = absurd (cc e)
    table_taken (role.OwnPair i) t (inr none) = absurd none
    table_taken (role.OwnTable turn shape) t (inl e) = absurd (cc e)
    table_taken (role.OwnTable turn shape) t (inr none) = absurd none
    table_taken role.Free t none = absurd none
    table_taken (role.Counter of) t none = absurd none

    pub pair_noted : (k : ℕ) (blocks : List ℕ) → Ends k (ended_as map known blocks) → (x : ℕ) × (0 < times x blocks) × (known.roles x ≡ role.Pair k)
    pair_noted k [] none = absurd none
    pair_noted k (b ∷ blocks) one = by (one_of_two (λ f. f ≡ Ended k) (its (known.roles b)) (ended_as map known blocks) one) (pair_noted k blocks)
      where
        by : Ends k (its (known.roles b)) ⊎ Ends k (ended_as map known blocks) → (Ends k (ended_as map known blocks) → (x : ℕ) × (0 < times x blocks) × (known.roles x ≡ role.Pair k))
            → (x : ℕ) × (0 < times x (b ∷ blocks)) × (known.roles x ≡ role.Pair k)
        by (inl here) rest = (b, some_here b blocks, pair_taken (known.roles b) k here)
        by (inr later) rest = let it = rest later in (it.0, some_last it.0 (b ∷ []) blocks it.1, it.2)

    pub table_noted : (t : TableId) (blocks : List ℕ) → Takes t (ended_as map known blocks) → (x : ℕ) × (0 < times x blocks) × ((len : ℕ) × (known.roles x ≡ role.Table t len))
    table_noted t [] none = absurd none
    table_noted t (b ∷ blocks) one = by (one_of_two (λ f. f ≡ Taken t) (its (known.roles b)) (ended_as map known blocks) one) (table_noted t blocks)
      where
        by : Takes t (its (known.roles b)) ⊎ Takes t (ended_as map known blocks)
            → (Takes t (ended_as map known blocks) → (x : ℕ) × (0 < times x blocks) × ((len : ℕ) × (known.roles x ≡ role.Table t len)))
            → (x : ℕ) × (0 < times x (b ∷ blocks)) × ((len : ℕ) × (known.roles x ≡ role.Table t len))
        by (inl here) rest = (b, some_here b blocks, table_taken (known.roles b) t here)
        by (inr later) rest = let it = rest later in (it.0, some_last it.0 (b ∷ []) blocks it.1, it.2)
