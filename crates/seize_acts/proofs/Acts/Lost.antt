-- Nothing that was handed to the collector is lost: where no row is under way it is in a batch, or on the list of a block that is there.
use Rattle.std.specs.Prelude.{Option, Some, None}
use Rattle.std.proofs.Common.{◌≡◌, ℕ, ◌+◌, Bool, true, false, List, [], ◌∷◌, length, ◌⊎◌, inl, inr, refl, arith, ap, sym, subst, ◌∙◌}
use Rattle.seize_words.specs.declared.at.At.TheVariants.{Entry, Word}
use Rattle.seize_words.specs.OneMemory.Mem.{value_at, word_at}
use Rattle.seize.specs.declared.states.TheConstants.{LAST_SLOT, NEXT}
use Rattle.seize.specs.Law.{is_retired}
use Rattle.seize.specs.WaitingSets.{is_one_of}
use Rattle.seize.specs.Further.{FurtherFrom, FurtherAre}
use Rattle.seize.specs.World.{World, Row, Rests, Hand, NoBlock, Making, InUse, Parting, Cutting, Handed, LeftTo, at_start}
use Rattle.seize_acts.specs.Acts.Laws.{IsDeferredOn, NothingIsLost}
use Rattle.seize_acts.specs.Acts.Reclaimed.{IsStillHad, IsDeferredOnOthers}
use Rattle.seize_model.proofs.Given.SeizeMovesState.Ghost.{Life, IsFree, IsOwned, IsLinked, IsUnlinked, IsDeferring, IsDeferred, IsPending, IsIn, IsDoomed, IsLeft, State, lies_with, can_carry}
use Rattle.seize_model.proofs.Given.SeizeRulePoints.Aside.{HandFits}
use Rattle.seize_model.proofs.Given.SeizeMemoryWords.Chains.{Chain}
use Rattle.seize_model.proofs.Given.SeizeMemoryWords.Lists.{list_from, some_word, deferred_of}
use Rattle.seize_model.proofs.Given.SeizeMemoryWords.Shows.{DeferredIs, DrainedIs, CarrierIs, lives}
use Rattle.seize_model.proofs.Given.SeizeMemoryWords.View.{view, list_in}
use Rattle.seize_model.proofs.Given.SeizeMemoryWords.Named.{word_found}
use Rattle.seize_model.proofs.Given.SeizeMemoryWords.There.{entry_there, list_there, value_there}
use Rattle.seize_model.proofs.Given.SeizeRuleRows.Known.{Idles, FitsRow}
use Rattle.seize_model.proofs.Given.SeizeRuleWorld.Good.{Good}
use Rattle.seize_model.proofs.Given.SeizeRuleWorld.Kept.{runs_good}
use Rattle.seize_model.proofs.Given.SeizeRuleWorld.Start.{start_good}
use Rattle.seize_acts.proofs.Acts.Fine.{all_fine}
use Rattle.std.proofs.lemmas.Bool.{eq-eqb}
use Rattle.seize_model.specs.Given.SeizeWaitingHeld.{count}

counted_in : (b : ℕ) (l : List ℕ) → (count b l ≡ 0 → ⊥) → is_one_of b l ≡ true
counted_in b [] ne = absurd (ne refl)
counted_in b (c ∷ l) ne = one (counted_in b l) ne
  where
    one : ((count b l ≡ 0 → ⊥) → is_one_of b l ≡ true) → (count b (c ∷ l) ≡ 0 → ⊥) → is_one_of b (c ∷ l) ≡ true
    one ih ne = grind (arith, ih, ne)

module _ {T : Type 0} {size : ℕ} (defers : T → Option ℕ) (w : World T) (good : Good defers (LAST_SLOT + 1) size w) (rests : (j : ℕ) → w.row j ≡ Rests) where
  abbrev m : State
  m = good.state

  idles : (i : ℕ) → Idles i m good.extra
  idles i = subst (λ (r : Row). FitsRow (LAST_SLOT + 1) i (view defers w.memory) m good.extra (length w.memory.slots) r) (rests i) (good.rows i)

  -- no row is to take a block
  none_doomed : (t i : ℕ) → m.life t ≡ IsDoomed i → ⊥
  none_doomed t i e = grind (arith, e, good.inv.places.to_take i t, (idles i).empty.left)

  module _ (b t : ℕ) (e : m.life b ≡ IsDeferred t) where
    pub carries : (m.carrier t ≡ true) × (can_carry (m.life t) ≡ true)
    carries = let k = good.inv.places.carries b t (ap (lies_with t) e ∙ eq-eqb t t refl) in (k.1, k.2)

    undrained : (l : Life) (d : Bool) → can_carry l ≡ true → ((i : ℕ) → l ≡ IsDoomed i → ⊥) → DrainedIs l d → d ≡ false
    undrained IsFree d c away k = k
    undrained (IsOwned i) d c away k = k
    undrained IsLinked d c away k = k
    undrained (IsUnlinked i) d c away k = k
    undrained (IsDeferring i s u) d c away k = k
    undrained (IsDeferred u) d c away k = k
    undrained (IsPending i) d c away k = k
    undrained (IsIn x) d c away k = k
    undrained (IsDoomed i) d c away k = absurd (away i refl)
    undrained (IsLeft i) d c away k = absurd (cc c)

    pub living : (l : Life) → can_carry l ≡ true → lives l ≡ true
    living l c = grind (arith, c)

    on_it : (c : ℕ) → (count c (m.deferred t) ≡ 0 → ⊥) → m.life c ≡ IsDeferred t
    on_it c ne = deferred_of t (m.life c) (λ z. ne (good.inv.places.all_deferred t c ∙ z))

    chain : (o : Option ℕ) (d : ℕ) (q : Bool) → o ≡ Some d → q ≡ false → DeferredIs (view defers w.memory).nexts ((view defers w.memory).own t) o q (m.deferred t)
        → Chain 0 (view defers w.memory).nexts ((view defers w.memory).own t d) (m.deferred t)
    chain o d q f g k = grind (arith, f, g, k)

    no_list : (o : Option ℕ) (l : Life) (k : Bool) → can_carry l ≡ true → k ≡ true → CarrierIs l k o → o ≡ None → ⊥
    no_list o l k c e f g = grind (arith, c, e, f, g)

    from : (o : Option ℕ) → list_in defers (value_at w.memory t) ≡ o → FurtherFrom w.memory t o (m.deferred t)
    from None f = absurd (no_list ((view defers w.memory).lists t) (m.life t) (m.carrier t) carries.1 carries.0 (good.shows.lists.carriers t) f)
    from (Some d) f =
        let a = some_word (word_at w.memory (Word t d)) (list_there defers (LAST_SLOT + 1) w.memory m good.extra t d good.stocked f) in (
          a.0,
          a.1,
          list_from w.memory (view defers w.memory).nexts a.0 (m.deferred t) (λ c v is. word_found w.memory (Entry c NEXT) v is)
              (λ c ne. entry_there defers (LAST_SLOT + 1) w.memory m good.extra c NEXT good.stocked good.shows (ap lives (on_it c ne)) (omega arith))
              (subst (λ (v : ℕ). Chain 0 (view defers w.memory).nexts v (m.deferred t)) (word_found w.memory (Word t d) a.0 a.1)
              (chain ((view defers w.memory).lists t) d (good.extra.drained t) f
              (undrained (m.life t) (good.extra.drained t) carries.1 (λ i z. none_doomed t i z) (good.shows.lists.drains t)) (good.shows.lists.deferring t))),
        )

    carried : FurtherAre defers w.memory t (m.deferred t) × (is_one_of b (m.deferred t) ≡ true)
    carried = at (value_at w.memory t) refl
      where
        at : (o : Option T) → value_at w.memory t ≡ o → FurtherAre defers w.memory t (m.deferred t) × (is_one_of b (m.deferred t) ≡ true)
        at None f = absurd (grind (arith, value_there defers (LAST_SLOT + 1) w.memory m good.extra t good.shows (living (m.life t) carries.1), f))
        at (Some value) f =
            ((value, f, from (defers value) (ap (list_in defers) f)), counted_in b (m.deferred t) (λ z. let k = good.inv.places.all_deferred t b in grind (arith, z, k, e)))

  -- what the collector has is retired, or stands on the list of another block
  waits_so : (b : ℕ) → w.hand b ≡ Handed → (is_retired b w.log ≡ true) ⊎ ((t : ℕ) × (m.life b ≡ IsDeferred t))
  waits_so b h = by (m.life b) refl (subst (λ (u : Hand). HandFits u (m.life b)) h (good.hands b))
    where
      by : (l : Life) → m.life b ≡ l → HandFits Handed (m.life b) → (is_retired b w.log ≡ true) ⊎ ((t : ℕ) × (m.life b ≡ IsDeferred t))
      by IsFree e f = absurd (grind (arith, e, f))
      by (IsOwned i) e f = absurd (grind (arith, e, f))
      by IsLinked e f = absurd (grind (arith, e, f))
      by (IsUnlinked i) e f = absurd (grind (arith, e, f))
      by (IsLeft i) e f = absurd (grind (arith, e, f))
      by (IsDeferring i s t) e f = absurd (let k = (good.inv.logged.on_way b i s t e).1 in let z = (idles i).outside.defers in omega (arith, k, z))
      by (IsDeferred t) e f = inr (t, e)
      by (IsPending i) e f = absurd (grind (arith, e, good.inv.places.to_retire i b, (idles i).empty.pending, (idles i).empty.puts))
      by (IsIn x) e f = inl (ap (is_retired b) (sym good.logged) ∙ grind (arith, good.inv.logged.given b, e))
      by (IsDoomed i) e f = inl (ap (is_retired b) (sym good.logged) ∙ grind (arith, good.inv.logged.given b, e))

  pub none_lost : (b : ℕ) → w.hand b ≡ Handed → (is_retired b w.log ≡ true) ⊎ IsDeferredOn defers w b
  none_lost b h = elim (waits_so b h) as (λ _. (is_retired b w.log ≡ true) ⊎ IsDeferredOn defers w b) [
    | inl is ↦ inl is
    | inr (t, e) ↦ inr (t, m.deferred t, (carried b t e).0, (carried b t e).1)
  ]

  -- where nothing is retired, that one is not the collector's
  pub behind_others : ((b : ℕ) → is_retired b w.log ≡ false) → (b : ℕ) → w.hand b ≡ Handed → IsDeferredOnOthers defers w b
  behind_others none b h = elim (waits_so b h) as (λ _. IsDeferredOnOthers defers w b) [
    | inl is ↦ absurd (let none_now = none b in cc (is, none_now))
    | inr (t, e) ↦ (t, m.deferred t, had t (w.hand t) refl (good.hands t) (carries b t e).1, (carried b t e).0, (carried b t e).1)
  ]
    where
      had : (t : ℕ) (hand : Hand) → w.hand t ≡ hand → HandFits (w.hand t) (m.life t) → can_carry (m.life t) ≡ true → IsStillHad (w.hand t)
      had t NoBlock f k c = absurd (let l = subst (λ (u : Hand). HandFits u (m.life t)) f k in grind (arith, l, c))
      had t (Making i) f k c = absurd (let l = subst (λ (u : Hand). HandFits u (m.life t)) f k in grind (arith, l, c))
      had t (InUse o) f k c = subst IsStillHad (sym f) tt
      had t (Parting i) f k c = subst IsStillHad (sym f) tt
      had t (Cutting i) f k c = subst IsStillHad (sym f) tt
      had t Handed f k c = absurd (elim (waits_so t f) as (λ _. ⊥) [
        | inl is ↦ let none_now = none t in cc (is, none_now)
        | inr (u, on) ↦ grind (arith, on, c)
      ])
      had t (LeftTo i) f k c = absurd (let l = subst (λ (u : Hand). HandFits u (m.life t)) f k in grind (arith, l, c))

pub nothing_lost : {T : Type 0} (defers : T → Option ℕ) → NothingIsLost defers
nothing_lost defers size roots acts w h rests b handed =
    let f = all_fine defers size acts (at_start defers roots) w h in
    none_lost defers w (runs_good defers (LAST_SLOT + 1) size refl f.0 (at_start defers roots) w (start_good defers (LAST_SLOT + 1) size roots) (λ i. tt) f.1) rests b handed
