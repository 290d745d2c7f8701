-- Words that lead to what rows have in their lists, and to what stands on the list of a block.
use Rattle.std.specs.Prelude.{Option, Some, None, IsSome}
use Rattle.std.proofs.Common.{◌≡◌, ℕ, ◌+◌, ◌<◌, Bool, true, false, List, [], ◌∷◌, ◌⊎◌, inl, inr, refl, arith, ap, sym, subst, ◌∙◌}
use Rattle.std.proofs.lemmas.Bool.{cases_eq, eq-eqb}
use Rattle.seize_words.specs.OneMemory.Mem.{word_at}
use Rattle.seize_words.specs.declared.at.At.TheVariants.{Entry, Word}
use Rattle.seize.specs.declared.states.TheConstants.{NEXT, LAST_SLOT}
use Rattle.seize.specs.declared.rows.settle.Settle.{Settle}
use Rattle.seize.specs.World.{World}
use Rattle.seize_acts.specs.Given.SeizeWaitingHeld.{count}
use Rattle.seize_acts.proofs.Given.SeizeMovesState.Ghost.{State, Life, IsFree, IsOwned, IsLinked, IsUnlinked, IsDeferring, IsDeferred, IsPending, IsIn, IsDoomed, IsLeft, is_pending, is_doomed, is_deferred, lies_with, can_carry}
use Rattle.seize_acts.proofs.Given.SeizeMemoryWords.Named.{link, or_zero, words_of}
use Rattle.seize_acts.proofs.Given.SeizeMemoryWords.Chains.{Chain, waiting}
use Rattle.seize_acts.proofs.Given.SeizeMemoryWords.Shows.{Extra, DeferredIs, DrainedIs, CarrierIs, lives}
use Rattle.seize_acts.proofs.Given.SeizeMemoryWords.View.{View, view}
use Rattle.seize_acts.proofs.Given.SeizeMemoryWords.There.{entry_there, list_there, value_there}
use Rattle.seize_acts.proofs.Given.SeizeRulePoints.Known.{FitsAt, Empty, bare}
use Rattle.seize_acts.proofs.Given.SeizeRuleWorld.Good.{Good}
use Rattle.seize_views.specs.Reaches.Reached.{words_of_row, words_of_settling, LeadsTo, OneLeadsTo, IsOfARow, IsOfABlock}
use Rattle.seize_views.proofs.Reaches.Paths.{leads_here, leads_along}
use Rattle.seize_views.proofs.Reaches.Rows.{common, NotYet, OnItsWay, popped, undrained, HasAtHand, HasNone, HasBlock, HasSettling, at_hand}
use Rattle.seize_views.proofs.Reaches.Rows as rows
use Rattle.seize_acts.proofs.Given.SeizeAloneHistories.Waiting.{carries_lives as carrying_lives}
use Rattle.seize_acts.proofs.Given.SeizeMemoryWords.Lists.{deferred_of as deferred_on}

-- a word that is there is what it is seen as
pub is_there : (o : Option ℕ) → IsSome o → o ≡ Some (or_zero o)
is_there None h = absurd (cc h)
is_there (Some w) h = refl

-- what a list is of

pending_of : (i : ℕ) (l : Life) → (is_pending i l ≡ 0 → ⊥) → l ≡ IsPending i
pending_of i l ne = grind (arith, ne)

doomed_of : (i : ℕ) (l : Life) → (is_doomed i l ≡ 0 → ⊥) → l ≡ IsDoomed i
doomed_of i l ne = grind (arith, ne)

-- a block that does not stand in a list stands in none behind its first one, and the other way round

none_behind : (a d : ℕ) (l : List ℕ) → count a (d ∷ l) ≡ 0 → count a l ≡ 0
none_behind a d l z = grind (arith, z)

none_with : (a d : ℕ) (l : List ℕ) → (a ≡ d → ⊥) → count a l ≡ 0 → count a (d ∷ l) ≡ 0
none_with a d l ne z = grind (arith, z, ne)

module _ {T : Type 0} {size : ℕ} (defers : T → Option ℕ) (w : World T) (good : Good defers (LAST_SLOT + 1) size w) where
  abbrev n : ℕ
  n = LAST_SLOT + 1

  abbrev m : State
  m = good.state

  abbrev x : Extra
  x = good.extra

  abbrev f : View
  f = view defers w.memory

  -- the words of the entry of a block that lives
  pub entry_is : (c field : ℕ) → field < 4 → lives (m.life c) ≡ true → word_at w.memory (Entry c field) ≡ Some (words_of w.memory (Entry c field))
  entry_is c field lt live = is_there (word_at w.memory (Entry c field)) (entry_there defers n w.memory m x c field good.stocked good.shows live lt)

  -- a list of blocks that live, each of which links to the next one
  pub nexts_lead : (e word : ℕ) (l : List ℕ) → Chain e f.nexts word l → ((c : ℕ) → (count c l ≡ 0 → ⊥) → lives (m.life c) ≡ true)
      → (b : ℕ) → (count b l ≡ 0 → ⊥) → LeadsTo w.memory b word
  nexts_lead e word l chain live b some =
      leads_along w.memory NEXT e word l chain (λ c in_it. entry_is c NEXT (omega arith) (live c in_it)) b some

  abbrev pub IsAtHand : ℕ → ℕ → Type 0
  IsAtHand i b = OneLeadsTo w.memory b (words_of_row (w.row i))

  pub hand_of_row : (i : ℕ) → HasAtHand n i f m x (w.row i)
  hand_of_row i = at_hand n i f m x _ (w.row i) (good.rows i)

  abbrev pub Settling' : ℕ → Settle → Type 0
  Settling' i c = FitsAt n i f m x (bare c) c.stands

  -- ---- a block that a row is to retire
  module _ (i b : ℕ) (e : m.life b ≡ IsPending i) where
    counted : count b (m.pending i) + count b (m.puts i) ≡ 1
    counted = good.inv.places.to_retire i b ∙ ap (is_pending i) e ∙ grind arith

    pending_lives : (c : ℕ) → (count c (m.pending i) + count c (m.puts i) ≡ 0 → ⊥) → lives (m.life c) ≡ true
    pending_lives c ne = ap lives (pending_of i (m.life c) (λ z. ne (good.inv.places.to_retire i c ∙ z)))

    none_pending : Empty i m x → ⊥
    none_pending empty = let k = counted in grind (arith, k, empty.pending, empty.puts)

    -- it stands in the list of what is pending, or of what was put before
    module _ (c : Settle) (r : Settling' i c) where
      abbrev Among : Type 0
      Among = OneLeadsTo w.memory b (words_of_settling c)

      in_puts : (count b (m.puts i) ≡ 0 → ⊥) → Among
      in_puts some =
          inr (inr (inl (subst (λ (word : ℕ). LeadsTo w.memory b word) (common n i f m x (bare c) c.stands r).put_first
          (nexts_lead 0 (x.put_first i) (m.puts i) (good.shows.lists.putted i) (λ d in_it. pending_lives d (λ z. in_it (omega (arith, z)))) b some))))

      pends_so : x.pends i ≡ c.pending
      pends_so = (common n i f m x (bare c) c.stands r).pends

      behind : (l : List ℕ) → Chain 0 f.nexts (x.pends i) l → ((d : ℕ) → (count d l ≡ 0 → ⊥) → count d (m.pending i) ≡ 0 → ⊥) → (count b l ≡ 0 → ⊥) → Among
      behind l chain within some =
          inr (inl (subst (λ (word : ℕ). LeadsTo w.memory b word) pends_so
          (nexts_lead 0 (x.pends i) l chain (λ d in_it. pending_lives d (λ z. within d in_it (omega (arith, z)))) b some)))

      in_pending : (count b (m.pending i) ≡ 0 → ⊥) → rows.IsPopped n i f m x (bare c) c.stands → Among
      in_pending some (NotYet none) =
          behind (m.pending i) (subst (λ (y : Bool). Chain 0 f.nexts (x.pends i) (waiting y (m.pending i))) none (good.shows.lists.pended i)) (λ d in_it. in_it) some
      in_pending some (OnItsWay d l was first block pos) = by (cases_eq b d)
        where
          chain : Chain 0 f.nexts (x.pends i) l
          chain = subst (λ (q : List ℕ). Chain 0 f.nexts (x.pends i) (waiting true q)) first
              (subst (λ (y : Bool). Chain 0 f.nexts (x.pends i) (waiting y (m.pending i))) was (good.shows.lists.pended i))

          within : (a : ℕ) → (count a l ≡ 0 → ⊥) → count a (m.pending i) ≡ 0 → ⊥
          within a in_it z = in_it (none_behind a d l (sym (ap (count a) first) ∙ z))

          rest : (b ≡ d → ⊥) → count b l ≡ 0 → ⊥
          rest ne z = some (ap (count b) first ∙ none_with b d l ne z)

          by : (b ≡ d) ⊎ (b ≡ d → ⊥) → Among
          by (inl is) =
              inl (subst (λ (word : ℕ). LeadsTo w.memory b word) (sym block)
              (subst (λ (a : ℕ). LeadsTo w.memory a (link d)) (sym is) (leads_here w.memory d pos)))
          by (inr ne) = behind l chain within (rest ne)

      settling_retires : Among
      settling_retires = elim (cases_eq (count b (m.puts i)) 0) as (λ _. Among) [
        | inl none ↦ in_pending (λ z. let k = counted in omega (arith, k, none, z)) (popped n i f m x (bare c) c.stands r)
        | inr some ↦ in_puts some
      ]

    pub is_to_be_retired : IsOfARow w b
    is_to_be_retired = (i, by (hand_of_row i))
      where
        by : HasAtHand n i f m x (w.row i) → IsAtHand i b
        by (HasNone empty out) = absurd (none_pending empty)
        by (HasBlock empty d s t words pos life) = absurd (none_pending empty)
        by (HasSettling c r words) = subst (OneLeadsTo w.memory b) (sym words) (settling_retires c r)

  -- ---- a block that a row is to take
  module _ (i : ℕ) where
    doomed_lives : (c : ℕ) → (count c (m.left i) ≡ 0 → ⊥) → lives (m.life c) ≡ true
    doomed_lives c ne = ap lives (doomed_of i (m.life c) (λ z. ne (good.inv.places.to_take i c ∙ z)))

    pub doomed_in : (b : ℕ) → m.life b ≡ IsDoomed i → count b (m.left i) ≡ 0 → ⊥
    doomed_in b e z = let k : is_doomed i (m.life b) ≡ 1 = ap (is_doomed i) e ∙ grind arith in let l = good.inv.places.to_take i b in omega (arith, k, l, z)

    none_doomed : (b : ℕ) → m.life b ≡ IsDoomed i → Empty i m x → ⊥
    none_doomed b e empty = doomed_in b e (ap (count b) empty.left)

    pub is_to_be_taken : (b : ℕ) → m.life b ≡ IsDoomed i → IsOfARow w b
    is_to_be_taken b e = (i, by (hand_of_row i))
      where
        by : HasAtHand n i f m x (w.row i) → IsAtHand i b
        by (HasNone empty out) = absurd (none_doomed b e empty)
        by (HasBlock empty d s t words pos life) = absurd (none_doomed b e empty)
        by (HasSettling c r words) =
            subst (OneLeadsTo w.memory b) (sym words)
            (inr (inr (inr (inl (subst (λ (word : ℕ). LeadsTo w.memory b word) (common n i f m x (bare c) c.stands r).lefts
            (nexts_lead 0 (x.lefts i) (m.left i) (good.shows.lists.lefted i) doomed_lives b (doomed_in b e)))))))

    -- its list is as it was, if something stands there
    pub list_stays : (t : ℕ) → m.life t ≡ IsDoomed i → (m.deferred t ≡ [] → ⊥) → x.drained t ≡ false
    list_stays t e some = by (hand_of_row i)
      where
        by : HasAtHand n i f m x (w.row i) → x.drained t ≡ false
        by (HasNone empty out) = absurd (none_doomed t e empty)
        by (HasBlock empty d s u words pos life) = absurd (none_doomed t e empty)
        by (HasSettling c r words) = undrained n i f m x (bare c) t (doomed_in t e) some (good.shows.lists.lefted i) c.stands r

  -- ---- a block that a row is to put on another one's list
  module _ (b i s t : ℕ) (e : m.life b ≡ IsDeferring i s t) where
    on_way : m.defers i ≡ b + 1
    on_way = (good.inv.logged.on_way b i s t e).1

    pub is_on_its_way : IsOfARow w b
    is_on_its_way = (i, by (hand_of_row i))
      where
        by : HasAtHand n i f m x (w.row i) → IsAtHand i b
        by (HasNone empty none) = absurd (let k = on_way in omega (arith, k, none))
        by (HasBlock empty d u v words pos life) =
            let k = on_way in let l = (good.inv.logged.on_way d i u v life).1 in let same : d ≡ b = omega (arith, k, l) in
            subst (OneLeadsTo w.memory b) (sym words)
            (inl (subst (λ (a : ℕ). LeadsTo w.memory a (link d)) same (leads_here w.memory d pos)))
        by (HasSettling c r words) =
            absurd (let k = on_way in let none = (common n i f m x (bare c) c.stands r).outside.defers in omega (arith, k, none))

  -- ---- a block that stands on another one's list
  module _ (b t : ℕ) (e : m.life b ≡ IsDeferred t) where
    carries : (m.carrier t ≡ true) × (can_carry (m.life t) ≡ true)
    carries = let k = good.inv.places.carries b t (ap (lies_with t) e ∙ eq-eqb t t refl) in (k.1, k.2)

    stands_there : count b (m.deferred t) ≡ 0 → ⊥
    stands_there z = let k : is_deferred t (m.life b) ≡ 1 = ap (is_deferred t) e ∙ grind arith in let l = good.inv.places.all_deferred t b in omega (arith, k, l, z)

    list_is_there : m.deferred t ≡ [] → ⊥
    list_is_there none = stands_there (ap (count b) none)

    stays : (l : Life) → m.life t ≡ l → DrainedIs l (x.drained t) → can_carry l ≡ true → x.drained t ≡ false
    stays IsFree is d k = d
    stays (IsOwned i) is d k = d
    stays IsLinked is d k = d
    stays (IsUnlinked i) is d k = d
    stays (IsDeferring i s u) is d k = d
    stays (IsDeferred u) is d k = d
    stays (IsPending i) is d k = d
    stays (IsIn y) is d k = d
    stays (IsDoomed i) is d k = list_stays i t is list_is_there
    stays (IsLeft i) is d k = absurd (cc k)

    undrained_now : x.drained t ≡ false
    undrained_now = stays (m.life t) refl (good.shows.lists.drains t) carries.1

    chain : (o : Option ℕ) (d : ℕ) (q : Bool) → o ≡ Some d → q ≡ false → DeferredIs f.nexts (f.own t) o q (m.deferred t) → Chain 0 f.nexts (f.own t d) (m.deferred t)
    chain o d q g h k = grind (arith, g, h, k)

    no_list : (o : Option ℕ) (l : Life) (k : Bool) → can_carry l ≡ true → k ≡ true → CarrierIs l k o → o ≡ None → ⊥
    no_list o l k c p g h = grind (arith, c, p, g, h)

    on_it : (c : ℕ) → (count c (m.deferred t) ≡ 0 → ⊥) → lives (m.life c) ≡ true
    on_it c ne = ap lives (deferred_on t (m.life c) (λ z. ne (good.inv.places.all_deferred t c ∙ z)))

    pub is_on_a_list : IsOfABlock w.memory b
    is_on_a_list = by (f.lists t) refl
      where
        by : (o : Option ℕ) → f.lists t ≡ o → IsOfABlock w.memory b
        by None g = absurd (no_list (f.lists t) (m.life t) (m.carrier t) carries.1 carries.0 (good.shows.lists.carriers t) g)
        by (Some d) g = (
          t,
          d,
          words_of w.memory (Word t d),
          value_there defers n w.memory m x t good.shows (carrying_lives (m.life t) carries.1),
          is_there (word_at w.memory (Word t d)) (list_there defers n w.memory m x t d good.stocked g),
          nexts_lead 0 (words_of w.memory (Word t d)) (m.deferred t)
              (chain (f.lists t) d (x.drained t) g undrained_now (good.shows.lists.deferring t)) on_it b stands_there,
        )
