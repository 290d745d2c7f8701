-- Where a block can be reached, and who has it: what can be reached from a root its users have, what lies behind another block has no list of its own, and
-- what was unlinked can't be reached.
use Rattle.std.specs.Prelude.{Option, Some, is_some}
use Rattle.std.proofs.Common.{◌≡◌, ℕ, Bool, true, false, cond, eqb, refl, ap, sym, subst, ◌∙◌}
use Rattle.std.proofs.lemmas.Bool.{eq-eqb}
use Rattle.run_shows.specs.Given.SeizeWordsMem.{value_at}
use Rattle.run_shows.specs.Given.SeizeLaw.{Nowhere, Standing, With, where_is}
use Rattle.run_shows.specs.Given.SeizeWorld.{World, Hand, NoBlock, Making, InUse, Parting, Cutting, Handed, LeftTo, MayCut}
use Rattle.seize_acts.specs.Acts.Reclaimed.{IsStillHad}
use Rattle.seize_acts.proofs.Given.SeizeMovesState.Ghost.{Life, IsFree, IsOwned, IsLinked, IsUnlinked, IsDeferring, IsDeferred, IsPending, IsIn, IsDoomed, IsLeft, is_linked, lies_with, place_of}
use Rattle.seize_acts.proofs.Given.SeizeRulePoints.Aside.{is_handed, HandFits, cut_stands, standing_life}
use Rattle.seize_acts.proofs.Given.SeizeMemoryWords.Shows.{CarrierIs, lives}
use Rattle.seize_acts.proofs.Given.SeizeMemoryWords.View.{list_in}
use Rattle.seize_acts.proofs.Given.SeizeAloneHistories.Reached.{Reached}
use Rattle.run_shows.proofs.Given.FinishesBeside.Makings.Outs.{handed_lives}

-- what stands is linked
standing_linked : (life : ℕ → Life) (l : Life) → place_of life l ≡ Standing → l ≡ IsLinked
standing_linked life IsLinked at = refl
standing_linked life IsFree at = absurd (cc at)
standing_linked life (IsOwned i) at = absurd (cc at)
standing_linked life (IsUnlinked i) at = absurd (cc at)
standing_linked life (IsDeferring i s t) at = absurd (by (is_linked (life t)) at)
  where
    by : (q : Bool) → cond q (With t) Nowhere ≡ Standing → ⊥
    by true e = cc e
    by false e = cc e
standing_linked life (IsDeferred t) at = absurd (by (is_linked (life t)) at)
  where
    by : (q : Bool) → cond q (With t) Nowhere ≡ Standing → ⊥
    by true e = cc e
    by false e = cc e
standing_linked life (IsPending i) at = absurd (cc at)
standing_linked life (IsIn x) at = absurd (cc at)
standing_linked life (IsDoomed i) at = absurd (cc at)
standing_linked life (IsLeft i) at = absurd (cc at)

linked_had : (h : Hand) (l : Life) → l ≡ IsLinked → HandFits h l → IsStillHad h
linked_had NoBlock l is fits = absurd (cc (is, fits))
linked_had (Making i) l is fits = absurd (cc (is, fits))
linked_had (InUse o) l is fits = tt
linked_had (Parting i) l is fits = tt
linked_had (Cutting i) l is fits = tt
linked_had Handed l is fits = absurd (let none : is_handed l ≡ false = ap is_handed is in cc (none, fits))
linked_had (LeftTo i) l is fits = absurd (cc (is, fits))

-- what lies behind a block
behind_lies : (life : ℕ → Life) (l : Life) (t : ℕ) → place_of life l ≡ With t → lies_with t l ≡ true
behind_lies life IsFree t at = absurd (cc at)
behind_lies life (IsOwned i) t at = absurd (cc at)
behind_lies life IsLinked t at = absurd (cc at)
behind_lies life (IsUnlinked i) t at = absurd (cc at)
behind_lies life (IsDeferring i s u) t at = by (is_linked (life u)) at
  where
    by : (q : Bool) → cond q (With u) Nowhere ≡ With t → eqb t u ≡ true
    by true e = eq-eqb t u (cc e)
    by false e = absurd (cc e)
behind_lies life (IsDeferred u) t at = by (is_linked (life u)) at
  where
    by : (q : Bool) → cond q (With u) Nowhere ≡ With t → eqb t u ≡ true
    by true e = eq-eqb t u (cc e)
    by false e = absurd (cc e)
behind_lies life (IsPending i) t at = absurd (cc at)
behind_lies life (IsIn x) t at = absurd (cc at)
behind_lies life (IsDoomed i) t at = absurd (cc at)
behind_lies life (IsLeft i) t at = absurd (cc at)

list_of_none : (l : Life) (t : ℕ) (k : Bool) (o : Option ℕ) → lies_with t l ≡ true → CarrierIs l k o → k ≡ false → is_some o ≡ false
list_of_none (IsDeferring i s u) t k o lies is none = sym is ∙ none
list_of_none (IsDeferred u) t k o lies is none = sym is ∙ none
list_of_none IsFree t k o lies is none = absurd (cc lies)
list_of_none (IsOwned i) t k o lies is none = absurd (cc lies)
list_of_none IsLinked t k o lies is none = absurd (cc lies)
list_of_none (IsUnlinked i) t k o lies is none = absurd (cc lies)
list_of_none (IsPending i) t k o lies is none = absurd (cc lies)
list_of_none (IsIn x) t k o lies is none = absurd (cc lies)
list_of_none (IsDoomed i) t k o lies is none = absurd (cc lies)
list_of_none (IsLeft i) t k o lies is none = absurd (cc lies)

-- it was unlinked, and is there still
abbrev pub IsGone : Hand → Type 0
IsGone (Cutting i) = Unit {0}
IsGone Handed = Unit {0}
IsGone (LeftTo i) = Unit {0}
IsGone _ = ⊥

gone_lives : (h : Hand) (l : Life) → IsGone h → HandFits h l → lives l ≡ true
gone_lives NoBlock l gone fits = absurd gone
gone_lives (Making i) l gone fits = absurd gone
gone_lives (InUse o) l gone fits = absurd gone
gone_lives (Parting i) l gone fits = absurd gone
gone_lives (Cutting i) l gone fits = ap lives fits
gone_lives Handed l gone fits = handed_lives l fits
gone_lives (LeftTo i) l gone fits = ap lives fits

module _ {T : Type 0} (defers : T → Option ℕ) (size : ℕ) (w : World T) (r : Reached defers size w) where
  abbrev life : ℕ → Life
  life = r.good.state.life

  life_place : (b : ℕ) → where_is b w.log ≡ place_of life (life b)
  life_place b = ap (where_is b) (sym r.good.logged) ∙ r.good.inv.logged.reaches b

  -- from a root: it is linked, so its users have it
  pub standing_had : (b : ℕ) → where_is b w.log ≡ Standing → IsStillHad (w.hand b)
  standing_had b at = linked_had (w.hand b) (life b) (standing_linked life (life b) (sym (life_place b) ∙ at)) (r.good.hands b)

  -- nowhere: it was unlinked
  pub cut_nowhere : (b i : ℕ) → w.hand b ≡ Cutting i → where_is b w.log ≡ Nowhere
  cut_nowhere b i cut = life_place b ∙ ap (place_of life) (subst (λ (h : Hand). HandFits h (life b)) cut (r.good.hands b))

  -- through another block: it has no list
  pub behind_no_list : (b t field : ℕ) (value : T) → where_is b w.log ≡ With t → value_at w.memory b ≡ Some value → defers value ≡ Some field → ⊥
  behind_no_list b t field value at is has =
      let lies = behind_lies life (life b) t (sym (life_place b) ∙ at) in
      let none = list_of_none (life b) t (r.good.state.carrier b) (list_in defers (value_at w.memory b)) lies (r.good.shows.lists.carriers b) (r.good.inv.places.carries b t lies).0 in
      let some : is_some (list_in defers (value_at w.memory b)) ≡ true = ap is_some (ap (list_in defers) is ∙ has) in
      cc (none, some)

  -- what was unlinked is there until it is taken away
  pub gone_there : (b : ℕ) → IsGone (w.hand b) → is_some (value_at w.memory b) ≡ true
  gone_there b gone = r.good.shows.lists.lived b ∙ gone_lives (w.hand b) (life b) gone (r.good.hands b)

  -- what users may unlink can be reached
  pub cut_standing : (b i : ℕ) → MayCut i (w.hand b) → where_is b w.log ≡ Standing
  cut_standing b i may = life_place b ∙ ap (place_of life) (standing_life (w.hand b) (life b) (cut_stands i (w.hand b) may) (r.good.hands b))
