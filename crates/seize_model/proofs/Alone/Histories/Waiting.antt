-- What the waiting sets hold is the collector's, and what they put things behind is there.
use Rattle.std.specs.Prelude.{Option, Some, None, IsSome, is_some, map}
use Rattle.std.proofs.Common.{◌≡◌, ◌≢◌, ℕ, zero, suc, ◌+◌, ◌<◌, ◌^◌, Bool, true, false, cond, eqb, List, [], ◌∷◌, inl, inr, refl, sym, ap, arith, ◌∙◌}
use Rattle.std.proofs.lemmas.Bool.{cases_lt}
use Rattle.seize.specs.Given.SeizeWordsMem.{Mem, value_at}
use Rattle.seize.specs.declared.states.TheConstants.{LAST_SLOT}
use Rattle.seize.specs.WaitingSets.{Sets, opened, all_changed, at_start as sets_at_start}
use Rattle.seize.specs.World.{Hand, NoBlock, Making, InUse, Cutting, Handed, LeftTo, at_start, Parting}
use Rattle.seize_rule.specs.Given.SeizeWaitingHeld.{same, count, held_closed, Every, all_held}
use Rattle.seize_rule.proofs.Given.SeizeWaitingBehind.{every_of, none_further}
use Rattle.seize_rule.proofs.Given.SeizeWaitingCounts.{count-append}
use Rattle.seize_model.specs.Alone.Alone.{History, IsHistory, at_rest}
use Rattle.seize_rule.proofs.Points.Aside.{HandFits, is_handed}
use Rattle.seize_rule.proofs.Given.SeizeMovesState.Ghost.{Debt, Dead, Life, IsFree, IsOwned, IsLinked, IsUnlinked, IsDeferring, IsDeferred, IsPending, IsIn, IsDoomed, IsLeft, State, is_in, is_deferred, lies_with, can_carry}
use Rattle.seize_rule.proofs.Given.SeizeMovesSets.Shown.{batch_shown, is_shut, shut_in}
use Rattle.seize_model.proofs.Sets.Reclaims.NeverTaken.{NonePast, turns_past}
use Rattle.seize_rule.proofs.Given.SeizeMemoryWords.Shows.{CarrierIs, lives}
use Rattle.seize_model.proofs.Sets.Turns.All.{turns_shown, start_shown}
use Rattle.seize_model.proofs.Sets.Turns.Begins.{Shown}
use Rattle.seize_rule.proofs.Given.SeizeMemoryWords.View.{list_in}
use Rattle.seize_rule.proofs.Given.SeizeMemoryWords.There.{value_there}
use Rattle.seize_rule.proofs.Given.SeizeMovesMoves.Tries.{same_box as alive}

not_in : (x : ℕ) (l : Life) → is_handed l ≡ false → is_in x l ≡ 0
not_in x IsFree e = refl
not_in x (IsOwned i) e = refl
not_in x IsLinked e = refl
not_in x (IsUnlinked i) e = refl
not_in x (IsDeferring i s t) e = refl
not_in x (IsDeferred t) e = refl
not_in x (IsPending i) e = refl
not_in x (IsIn y) e = absurd (cc e)
not_in x (IsDoomed i) e = refl
not_in x (IsLeft i) e = refl

not_deferred : (t : ℕ) (l : Life) → is_handed l ≡ false → is_deferred t l ≡ 0
not_deferred t IsFree e = refl
not_deferred t (IsOwned i) e = refl
not_deferred t IsLinked e = refl
not_deferred t (IsUnlinked i) e = refl
not_deferred t (IsDeferring i s u) e = refl
not_deferred t (IsDeferred u) e = absurd (cc e)
not_deferred t (IsPending i) e = refl
not_deferred t (IsIn y) e = refl
not_deferred t (IsDoomed i) e = refl
not_deferred t (IsLeft i) e = refl

-- what lies on the list of another block lies with it
lies : (t : ℕ) (l : Life) → is_deferred t l ≢ 0 → lies_with t l ≡ true
lies t IsFree ne = absurd (ne refl)
lies t (IsOwned i) ne = absurd (ne refl)
lies t IsLinked ne = absurd (ne refl)
lies t (IsUnlinked i) ne = absurd (ne refl)
lies t (IsDeferring i s u) ne = absurd (ne refl)
lies t (IsDeferred u) ne = by (eqb t u) refl ne
  where
    by : (b : Bool) → eqb t u ≡ b → ◌≢◌ {A = ℕ} (cond b 1 0) 0 → eqb t u ≡ true
    by true e some = e
    by false e some = absurd (some refl)
lies t (IsPending i) ne = absurd (ne refl)
lies t (IsIn y) ne = absurd (ne refl)
lies t (IsDoomed i) ne = absurd (ne refl)
lies t (IsLeft i) ne = absurd (ne refl)

pub carries_lives : (l : Life) → can_carry l ≡ true → lives l ≡ true
carries_lives IsFree e = absurd (cc e)
carries_lives (IsOwned i) e = refl
carries_lives IsLinked e = refl
carries_lives (IsUnlinked i) e = refl
carries_lives (IsDeferring i s u) e = refl
carries_lives (IsDeferred u) e = refl
carries_lives (IsPending i) e = refl
carries_lives (IsIn y) e = refl
carries_lives (IsDoomed i) e = refl
carries_lives (IsLeft i) e = refl

pub in_hand : (h : Hand) (l : Life) → HandFits h l → is_handed l ≡ true → h ≡ Handed
in_hand NoBlock l f e = absurd (let a = ap is_handed f in cc (a, e))
in_hand (Making i) l f e = absurd (let a = ap is_handed f in cc (a, e))
in_hand (InUse o) l f e = absurd (let a = ap is_handed f in cc (a, e))
in_hand (Parting i) l f e = absurd (let a = ap is_handed f in cc (a, e))
in_hand (Cutting i) l f e = absurd (let a = ap is_handed f in cc (a, e))
in_hand Handed l f e = refl
in_hand (LeftTo i) l f e = absurd (let a = ap is_handed f in cc (a, e))

-- a number that stands in none of the batches
none_closed : (n b : ℕ) (blocks : ℕ → List ℕ) (debt : ℕ → ℕ → Debt) (order : List ℕ) → ((x : ℕ) → count x order ≢ 0 → count b (blocks x) ≡ 0)
    → held_closed b (map (batch_shown n blocks debt) order) ≡ 0
none_closed n b blocks debt [] h = refl
none_closed n b blocks debt (x ∷ order) h =
    let a = h x (λ z. absurd (let k : same x x ≡ 1 = grind arith in omega (arith, z, k))) in
    let c = none_closed n b blocks debt order (λ y ne. h y (λ z. ne (omega (arith, z)))) in
    omega (arith, a, c)

module _ {T : Type 0} (defers : T → Option ℕ) (batch_size roots : ℕ) (m : Mem T) (h : History) (had : IsHistory defers batch_size roots m h) (word : batch_size < 2 ^ 64) where
  abbrev sets : Sets
  sets = (all_changed batch_size h.before sets_at_start).sets

  shown : Shown defers (LAST_SLOT + 1) batch_size (at_rest defers m h) sets
  shown =
      turns_shown defers (LAST_SLOT + 1) batch_size refl word had.0 (at_start defers roots) (at_rest defers m h) h.before sets_at_start
      (start_shown defers (LAST_SLOT + 1) batch_size refl word roots) had.1

  past : NonePast (LAST_SLOT + 1) batch_size sets
  past =
      turns_past defers (LAST_SLOT + 1) batch_size refl word had.0 (at_start defers roots) (at_rest defers m h) h.before sets_at_start
      (start_shown defers (LAST_SLOT + 1) batch_size refl word roots).rested had.1 (λ s le. refl)

  abbrev st : State
  st = shown.rested.good.state

  module _ (b : ℕ) (free : is_handed (st.life b) ≡ false) where
    batch_none : (x : ℕ) → (st.stage x ≡ Dead → ⊥) → count b (st.blocks x) ≡ 0
    batch_none x live = alive (st.stage x) _ _ live (shown.rested.good.inv.places.boxed x b) ∙ not_in x (st.life b) free

    open_none : (s : ℕ) → count b (sets.open_batch s) ≡ 0
    open_none s = elim (cases_lt s (LAST_SLOT + 1)) as (λ _. count b (sets.open_batch s) ≡ 0) [
      | inl l ↦ sym (ap (count b) (shown.models.opened s l)) ∙ batch_none (st.open_batch s) (λ e. absurd (let k = shown.rested.good.inv.batches.mine s l in cc (e, k)))
      | inr l ↦ ap (count b) (past s l)
    ]

    opened_none : (k : ℕ) → count b (opened k sets) ≡ 0
    opened_none zero = refl
    opened_none (suc k) =
        let a = count-append b (opened k sets) (sets.open_batch k) in
        let c = opened_none k in
        let d = open_none k in
        omega (arith, a, c, d)

    closed_none : held_closed b sets.closed ≡ 0
    closed_none =
        sym (ap (held_closed b) shown.models.closed)
        ∙ none_closed (LAST_SLOT + 1) b st.blocks st.debt shown.order
        (λ x ne. batch_none x (λ e. absurd (let k = shut_in (LAST_SLOT + 1) st shown.order sets shown.models x ne in let d = ap is_shut e in omega (arith, k, d))))

    none_held : all_held b sets ≡ 0
    none_held =
        let a = opened_none sets.slots in
        let c = closed_none in
        let d = none_further b sets.further (λ t. ap (count b) (shown.models.put t) ∙ shown.rested.good.inv.places.all_deferred t b ∙ not_deferred t (st.life b) free) in
        omega (arith, a, c, d)

  -- what the sets hold was handed over
  pub held_handed : (b : ℕ) → all_held b sets ≢ 0 → h.hand b ≡ Handed
  held_handed b ne = by (is_handed (st.life b)) refl
    where
      by : (y : Bool) → is_handed (st.life b) ≡ y → h.hand b ≡ Handed
      by true e = in_hand (h.hand b) (st.life b) (shown.rested.good.hands b) e
      by false e = absurd (ne (none_held b e))

  -- and blocks that others wait behind are there
  pub carriers_there : Every (λ f. IsSome (value_at m f.behind)) sets.further
  carriers_there =
      every_of (λ f. IsSome (value_at m f.behind)) sets.further
      (λ f ne.
      let on : is_deferred f.behind (st.life f.number) ≢ 0 = λ z. ne (ap (count f.number) (shown.models.put f.behind) ∙ shown.rested.good.inv.places.all_deferred f.behind f.number ∙ z) in
      let c = shown.rested.good.inv.places.carries f.number f.behind (lies f.behind (st.life f.number) on) in
      value_there defers (LAST_SLOT + 1) m st shown.rested.good.extra f.behind shown.rested.good.shows (carries_lives (st.life f.behind) c.2))

  -- and each of them has a list
  pub carriers_carry : Every (λ f. (value : T) → value_at m f.behind ≡ Some value → defers value ≡ None → ⊥) sets.further
  carriers_carry =
      every_of (λ f. (value : T) → value_at m f.behind ≡ Some value → defers value ≡ None → ⊥) sets.further
      (λ f ne value is none.
      let on : is_deferred f.behind (st.life f.number) ≢ 0 = λ z. ne (ap (count f.number) (shown.models.put f.behind) ∙ shown.rested.good.inv.places.all_deferred f.behind f.number ∙ z) in
      let deferred = (shown.rested.good.inv.places.carries f.number f.behind (lies f.behind (st.life f.number) on)).1 in
      let k = carrier_none (st.life f.behind) (st.carrier f.behind) (list_in defers (value_at m f.behind)) (is_some (value_at m f.behind)) (ap is_some is) (shown.rested.good.shows.lists.carriers f.behind)
      (ap (list_in defers) is ∙ none) (shown.rested.good.shows.lists.lived f.behind) in
      absurd (cc (deferred, k)))
    where
      carrier_none : (l : Life) (k : Bool) (o : Option ℕ) (there : Bool) → there ≡ true → CarrierIs l k o → o ≡ None → there ≡ lives l → k ≡ false
      carrier_none l k o there some c e lived = grind (arith, some, c, e, lived)
