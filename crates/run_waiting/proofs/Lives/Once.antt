-- Each pair that waits does so behind one table alone: so it is where fewer wait, and where one more does that waits behind no other one.
use Rattle.std.specs.Prelude.{◌≡◌, ◌⊎◌, ℕ, ◌==◌, nat_lt, ◌&&◌, ◌||◌, Bool, true, false, not, List, [], ◌∷◌, filter, map, None, if◌then◌else◌}
use Rattle.std.proofs.Common.{refl, ap, sym, subst, ◌∙◌, arith, inl, inr}
use Rattle.std.proofs.lemmas.Bool.{eq-eqb}
use Rattle.run_debts.specs.Given.SeizeWordsDeclared.at.At.TheVariants.{Root, Used, Slot, Entry, Word}
use Rattle.run_debts.specs.Given.RunsDeclared.effect.Effect.TheVariants.{Asked}
use Rattle.run_debts.specs.Given.RunsDeclared.effect.Growth.TheVariants.{ABucket}
use Rattle.run_debts.specs.Given.RunsDeclared.effect.TableId.{TableId}
use Rattle.run_debts.specs.Given.SchedulesEffects.{with_effects}
use Rattle.run_debts.specs.Given.SchedulesLists.{is_among}
use Rattle.run_debts.specs.Given.SchedulesMoment.{Deferral, Moment}
use Rattle.run_debts.specs.Given.SchedulesThings.{same_table}
use Rattle.run_debts.specs.Given.SchedulesViews.{behind}
use Rattle.run_debts.specs.Given.EffectsDeclared.changed.Changed.{Changed}
use Rattle.run_debts.specs.Given.EffectsDeclared.changed.Changed.TheVariants as changed
use Rattle.run_debts.specs.Given.EffectsEffects.{names_same, taken_by, effects_of}
use Rattle.run_debts.specs.Given.EffectsKnown.{Known}
use Rattle.run_debts.specs.Given.EffectsDeclared.acting.Acting.TheVariants.{Row}
use Rattle.run_debts.specs.Given.EffectsDeclared.role.Role.{Role}
use Rattle.run_debts.specs.Given.EffectsDeclared.role.Role.TheVariants as role
use Rattle.run_debts.proofs.Given.OthersRowPlans.{TellsRow}
use Rattle.run_debts.proofs.Given.SpotsUnreclaimed.{table_is, same_itself}
use Rattle.run_waiting.specs.Lives.Behind.{EachWaits, WaitsOnce}
use Rattle.run_waiting.proofs.Lives.Each.{each_on, each_both, each_kept, found}
use Rattle.run_debts.proofs.Given.General.{or_second as or_right}

-- it waits behind one table alone
abbrev One : List Deferral → ℕ → TableId → Type 0
One ds n t = (u : TableId) → is_among n (behind u ds) ≡ true → same_table t u ≡ true

-- it is listed behind its table
abbrev Listed : List Deferral → ℕ → TableId → Type 0
Listed ds n t = (u : TableId) → same_table t u ≡ true → is_among n (behind u ds) ≡ true

-- what is listed is so with one more
pub more : (n : ℕ) (u : TableId) (d : Deferral) (ds : List Deferral) → is_among n (behind u ds) ≡ true → is_among n (behind u (d ∷ ds)) ≡ true
more n u d ds among = by (same_table d.behind u)
  where
    by : (q : Bool) → is_among n (map (λ x. x.pair) (if q then d ∷ filter (λ x. same_table x.behind u) ds else filter (λ x. same_table x.behind u) ds)) ≡ true
    by true = or_right (n == d.pair) (is_among n (behind u ds)) among
    by false = among

-- each that waits is listed
listed : (ds : List Deferral) → EachWaits (Listed ds) ds
listed [] = tt
listed (d ∷ ds) = (here, each_on (Listed ds) (Listed (d ∷ ds)) (λ n t p u e. more n u d ds (p u e)) ds (listed ds))
  where
    here : Listed (d ∷ ds) d.pair d.behind
    here u e =
        ap (λ (q : Bool). is_among d.pair (map (λ (x : Deferral). x.pair) (if q then d ∷ filter (λ (x : Deferral). same_table x.behind u) ds else filter (λ (x : Deferral). same_table x.behind u) ds))) e
        ∙ ap (λ (q : Bool). q || is_among d.pair (behind u ds)) (eq-eqb d.pair d.pair refl)

-- where fewer wait
once_kept : (f : Deferral → Bool) (ds : List Deferral) → WaitsOnce ds → WaitsOnce (filter f ds)
once_kept f ds once = each_kept (One ds) (One (filter f ds)) f (λ d is p u among. p u (back d.pair u among)) ds once
  where
    back : (n : ℕ) (u : TableId) → is_among n (behind u (filter f ds)) ≡ true → is_among n (behind u ds) ≡ true
    back n u among =
        let a = found (Listed ds) n u (filter f ds) (each_kept (Listed ds) (Listed ds) f (λ d is p. p) ds (listed ds)) among in
        subst (λ (k : ℕ). is_among k (behind u ds) ≡ true) a.number (a.so u a.its)

-- where one more waits
module _ (ds : List Deferral) (once : WaitsOnce ds) (n : ℕ) (t : TableId) (fresh : (u : TableId) → is_among n (behind u ds) ≡ true → same_table t u ≡ true) where
  abbrev new : Deferral
  new = record { pair = n; behind = t }

  abbrev Either : ℕ → TableId → Type 0
  Either k u = ((k ≡ n) × (same_table t u ≡ true)) ⊎ (is_among k (behind u ds) ≡ true)

  -- it is the new one, or was behind the table before
  either : (k : ℕ) (u : TableId) → is_among k (behind u (new ∷ ds)) ≡ true → Either k u
  either k u among = by (same_table t u) refl among
    where
      first : (p : Bool) → (k == n) ≡ p → same_table t u ≡ true → (p || is_among k (behind u ds)) ≡ true → Either k u
      first true e is a = inl ((let one : k ≡ n = grind (arith, e) in one), is)
      first false e is a = inr a

      by : (q : Bool) → same_table t u ≡ q
          → is_among k (map (λ x. x.pair) (if q then new ∷ filter (λ x. same_table x.behind u) ds else filter (λ x. same_table x.behind u) ds)) ≡ true → Either k u
      by true is a = first (k == n) refl is a
      by false is a = inr a

  its_own : One (new ∷ ds) n t
  its_own u among = elim (either n u among) as (λ _. same_table t u ≡ true) [
    | inl e ↦ e.1
    | inr before ↦ fresh u before
  ]

  others : (k : ℕ) (x : TableId) → One ds k x × Listed ds k x → One (new ∷ ds) k x
  others k x p u among = elim (either k u among) as (λ _. same_table x u ≡ true) [
    | inl e ↦
        let there = subst (λ (y : ℕ). is_among y (behind x ds) ≡ true) e.0 (p.1 x (same_itself x)) in
        ap (λ (y : TableId). same_table y u) (sym (table_is t x (fresh x there))) ∙ e.1
    | inr before ↦ p.0 u before
  ]

  pub once_more : WaitsOnce (new ∷ ds)
  once_more = (its_own, each_on (λ k x. One ds k x × Listed ds k x) (One (new ∷ ds)) others ds (each_both (One ds) (Listed ds) ds once (listed ds)))

-- the same ones wait, or all but those behind one table
abbrev pub Fewer : List Deferral → List Deferral → Type 0
Fewer before after = (after ≡ before) ⊎ ((t : TableId) × (after ≡ filter (λ (d : Deferral). not (same_table d.behind t)) before))

pub once_fewer : (before after : List Deferral) → Fewer before after → WaitsOnce before → WaitsOnce after
once_fewer before after (inl same) once = subst WaitsOnce (sym same) once
once_fewer before after (inr (t, kept)) once = subst WaitsOnce (sym kept) (once_kept (λ d. not (same_table d.behind t)) before once)

-- a row on a slot puts none behind a table
module _ {K V : Type 0} (known : Known) (m : Moment K V) where
  row_took : (r : Role) → Fewer m.deferred (with_effects None None (taken_by Row r) m).deferred
  row_took role.Free = inl refl
  row_took (role.OwnPair j) = inl refl
  row_took (role.OwnTable turn shape) = inl refl
  row_took (role.Pair k) = inl refl
  row_took (role.Table u len) = inr (u, refl)
  row_took (role.Counter of) = inl refl

  nothing_put : (q : Bool) → Fewer m.deferred (with_effects None None (if q then [] else []) m).deferred
  nothing_put true = inl refl
  nothing_put false = inl refl

  roomed_put : (q : Bool) → Fewer m.deferred (with_effects None None (if q then [] else Asked ABucket ∷ []) m).deferred
  roomed_put true = inl refl
  roomed_put false = inl refl

  pub row_fewer : (told : Changed) → TellsRow told → Fewer m.deferred (with_effects None None (effects_of Row known told) m).deferred
  row_fewer changed.Nothing is = inl refl
  row_fewer (changed.Wrote (Slot t field) before after) is = inl refl
  row_fewer (changed.Wrote (Entry b field) before after) is = nothing_put (names_same before after)
  row_fewer (changed.Wrote (Root r) before after) is = absurd is
  row_fewer (changed.Wrote (Used r) before after) is = absurd is
  row_fewer (changed.Wrote (Word b field) before after) is = absurd is
  row_fewer (changed.Made kind b) is = absurd is
  row_fewer (changed.Unmade kind) is = absurd is
  row_fewer (changed.Took b) is = row_took (known.roles b)
  row_fewer (changed.Roomed bucket had) is = roomed_put (had && nat_lt bucket known.buckets)
