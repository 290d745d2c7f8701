-- Words that lead to the blocks of a batch: by the word of the slot in which it is open, by the row that holds or closes it, or by an entry of it on a slot's list.
use Rattle.std.specs.Prelude.{Option, Some}
use Rattle.std.proofs.Common.{◌≡◌, ℕ, zero, suc, ◌+◌, ◌<◌, Bool, true, false, cond, eqb, List, [], ◌∷◌, length, ◌⊎◌, inl, inr, refl, arith, ap, sym, subst, ◌∙◌}
use Rattle.std.proofs.lemmas.Bool.{cases_eq, ne_eqb}
use Rattle.seize_words.specs.OneMemory.Mem.{word_at}
use Rattle.seize_words.specs.declared.at.At.TheVariants.{Slot, Entry}
use Rattle.seize.specs.declared.states.TheConstants.{HEAD, BATCH, HELD, FIRST, LINK, LAST_SLOT}
use Rattle.seize.specs.declared.rows.settle.Settle.{Settle}
use Rattle.seize.specs.declared.rows.leave.Leaving.{Leaving}
use Rattle.seize.specs.declared.rows.leave.Leaving.TheVariants as leaving
use Rattle.seize.specs.World.{World, Row, Rests, Registers, Enters, Settles, Leaves, Defers, Frees}
use Rattle.seize_acts.specs.Given.SeizeWaitingHeld.{count}
use Rattle.seize_acts.specs.Given.SeizeEndsHolders.{settle_has, leaving_has, has_batch}
use Rattle.seize_acts.proofs.Given.SeizeEndsBatches.Rows.{HeldByRows, has_on}
use Rattle.seize_acts.proofs.Given.SeizeMovesState.Ghost.{Entry as OnList, Head, Never, Free, Idle, Active, Debt, Unscanned, Marked, Gone, Skipped, Owing, Loose, Counted, Stage, Unused, Open, Closing, Closed, Dead, State, Life, IsIn, entries, list_of, owes, on_list, is_loose, total, is_in}
use Rattle.seize_acts.proofs.Given.SeizeMovesState.Rule.{SameUnlessDead, IsLive, AtStage}
use Rattle.seize_acts.proofs.Given.SeizeMemoryWords.Named.{link, words_of}
use Rattle.seize_acts.proofs.Given.SeizeMemoryWords.Chains.{Chain, first_or, last_of, blocks_of, count_last}
use Rattle.seize_acts.proofs.Given.SeizeMemoryWords.Shows.{Extra, Spot, Nowhere, Unspent, On, InHands, HeadIs, LinkedIs, FirstIs, SpotLife, batch_word, stands, is_on, is_in_hands, lives}
use Rattle.seize_acts.proofs.Given.SeizeMemoryWords.View.{View, view}
use Rattle.seize_acts.proofs.Given.SeizeRulePoints.Known.{FitsAt, list_word, bare}
use Rattle.seize_acts.proofs.Given.SeizeRuleRows.Known.{FitsRow, FitsLeave}
use Rattle.seize_acts.proofs.Given.SeizeRuleWorld.Good.{Good}
use Rattle.seize_views.specs.Reaches.Reached.{words_of_row, words_of_settling, words_of_leaving, LeadsTo, OneLeadsTo, IsOfASlot, IsOfARow}
use Rattle.seize_views.proofs.Reaches.Paths.{some_there, leads_on, leads_further, leads_along}
use Rattle.seize_views.proofs.Reaches.Rows.{common, closing_first, held_last, HasAtHand, HasNone, HasBlock, HasSettling}
use Rattle.seize_views.proofs.Reaches.Waiting.{entry_is, nexts_lead, hand_of_row}

-- what is in a batch
in_batch : (y : ℕ) (l : Life) → (is_in y l ≡ 0 → ⊥) → l ≡ IsIn y
in_batch y l ne = grind (arith, ne)

in_own : (y : ℕ) → is_in y (IsIn y) ≡ 1
in_own y = grind arith

loose_own : (i : ℕ) → is_loose i (Loose i) ≡ 1
loose_own i = grind arith

-- some slot owes the batch something
some_owes : (d : ℕ → Debt) (k : ℕ) → (total owes d k ≡ 0 → ⊥) → (t : ℕ) × (owes (d t) ≡ 0 → ⊥)
some_owes d zero ne = absurd (ne refl)
some_owes d (suc k) ne = elim (cases_eq (owes (d k)) 0) as (λ _. (t : ℕ) × (owes (d t) ≡ 0 → ⊥)) [
  | inl none ↦ some_owes d k (λ z. ne (omega (arith, none, z)))
  | inr some ↦ (k, some)
]

-- an entry of the batch stands in the list
some_entry : (y : ℕ) (es : List OnList) → (entries y es ≡ 0 → ⊥) → (c : ℕ) × (stands c y es ≡ 0 → ⊥) × (count c (blocks_of es) ≡ 0 → ⊥)
some_entry y [] ne = absurd (ne refl)
some_entry y (e ∷ es) ne = by (cases_eq y e.batch) (some_entry y es)
  where
    by : (y ≡ e.batch) ⊎ (y ≡ e.batch → ⊥) → ((entries y es ≡ 0 → ⊥) → (c : ℕ) × (stands c y es ≡ 0 → ⊥) × (count c (blocks_of es) ≡ 0 → ⊥))
        → (c : ℕ) × (stands c y (e ∷ es) ≡ 0 → ⊥) × (count c (blocks_of (e ∷ es)) ≡ 0 → ⊥)
    by (inl is) further = (e.block, (λ z. grind (arith, z, is)), (λ z. grind (arith, z)))
    by (inr other) further =
        let k = further (λ z. ne (grind (arith, z, other))) in (k.0, (λ z. k.1 (grind (arith, z))), (λ z. k.2 (grind (arith, z))))

-- each block of the list stands there for some batch
some_batch : (c : ℕ) (es : List OnList) → (count c (blocks_of es) ≡ 0 → ⊥) → (y : ℕ) × (stands c y es ≡ 0 → ⊥)
some_batch c [] ne = absurd (ne refl)
some_batch c (e ∷ es) ne = by (cases_eq c e.block) (some_batch c es)
  where
    by : (c ≡ e.block) ⊎ (c ≡ e.block → ⊥) → ((count c (blocks_of es) ≡ 0 → ⊥) → (y : ℕ) × (stands c y es ≡ 0 → ⊥)) → (y : ℕ) × (stands c y (e ∷ es) ≡ 0 → ⊥)
    by (inl is) further = (e.batch, λ z. grind (arith, z, is))
    by (inr other) further = let k = further (λ z. ne (grind (arith, z, other))) in (k.0, λ z. k.1 (grind (arith, z)))

-- where an entry stands its block is of that batch

on_slot : (t y : ℕ) (s : Spot) (l : Life) → (is_on t y s ≡ 0 → ⊥) → SpotLife s l → l ≡ IsIn y
on_slot t y Nowhere l ne is = absurd (ne refl)
on_slot t y (Unspent z) l ne is = absurd (ne refl)
on_slot t y (On u z) l ne is = elim (cases_eq y z) as (λ _. l ≡ IsIn y) [
  | inl same ↦ is ∙ ap IsIn (sym same)
  | inr other ↦ absurd (ne (grind (arith, other)))
]
on_slot t y (InHands j z) l ne is = absurd (ne refl)

in_row : (i y : ℕ) (s : Spot) (l : Life) → (is_in_hands i y s ≡ 0 → ⊥) → SpotLife s l → l ≡ IsIn y
in_row i y Nowhere l ne is = absurd (ne refl)
in_row i y (Unspent z) l ne is = absurd (ne refl)
in_row i y (On t z) l ne is = absurd (ne refl)
in_row i y (InHands j z) l ne is = elim (cases_eq y z) as (λ _. l ≡ IsIn y) [
  | inl same ↦ is ∙ ap IsIn (sym same)
  | inr other ↦ absurd (ne (grind (arith, other)))
]

-- a list that is not empty begins with its first block
first_alike : (b e g : ℕ) (l : List ℕ) → (count b l ≡ 0 → ⊥) → first_or e l ≡ first_or g l
first_alike b e g [] ne = absurd (ne refl)
first_alike b e g (c ∷ l) ne = refl

last_in : (b : ℕ) (l : List ℕ) → (count b l ≡ 0 → ⊥) → count (last_of l) l ≡ 0 → ⊥
last_in b [] ne z = ne refl
last_in b (c ∷ l) ne z = let k = count_last c l in omega (arith, k, z)

-- the word of a list of entries, of which there are some, is above those that name none
above : (next : ℕ → ℕ) (word : ℕ) (l : List ℕ) (b : ℕ) → Chain 3 next word l → (count b l ≡ 0 → ⊥) → 3 < word
above next word [] b chain ne = absurd (ne refl)
above next word (c ∷ l) b chain ne = let p = chain.0 in let e = chain.1 in omega (arith, p, e)

listed_word : (word : ℕ) → 3 < list_word word → list_word word ≡ word
listed_word word lt = grind (arith, lt)

module _ {T : Type 0} {size : ℕ} (defers : T → Option ℕ) (w : World T) (good : Good defers (LAST_SLOT + 1) size w) (held : HeldByRows w) where
  abbrev n : ℕ
  n = LAST_SLOT + 1

  abbrev m : State
  m = good.state

  abbrev x : Extra
  x = good.extra

  abbrev f : View
  f = view defers w.memory

  -- a word of a slot that is not 0
  slot_word : (s field : ℕ) → (words_of w.memory (Slot s field) ≡ 0 → ⊥) → word_at w.memory (Slot s field) ≡ Some (words_of w.memory (Slot s field))
  slot_word s field ne = some_there (word_at w.memory (Slot s field)) ne

  module _ (b y : ℕ) (e : m.life b ≡ IsIn y) where
    abbrev Found' : Type 0
    Found' = IsOfASlot w.memory b ⊎ IsOfARow w b

    live : IsLive (m.stage y) ≡ true
    live = good.inv.places.housed b y e

    one_in : is_in y (m.life b) ≡ 1
    one_in = ap (is_in y) e ∙ in_own y

    -- as long as it is not reclaimed its list has its blocks

    listed : (st : Stage) → IsLive st ≡ true → (c : ℕ) → SameUnlessDead st (count c (m.blocks y)) (is_in y (m.life c)) → count c (m.blocks y) ≡ is_in y (m.life c)
    listed Unused l c k = k
    listed (Open s) l c k = k
    listed (Closing i) l c k = k
    listed Closed l c k = k
    listed Dead l c k = absurd (cc l)

    boxed : (c : ℕ) → count c (m.blocks y) ≡ is_in y (m.life c)
    boxed c = listed (m.stage y) live c (good.inv.places.boxed y c)

    stands_in : count b (m.blocks y) ≡ 0 → ⊥
    stands_in z = let k = boxed b in let l = one_in in omega (arith, k, l, z)

    is_in_it : (c : ℕ) → (count c (m.blocks y) ≡ 0 → ⊥) → m.life c ≡ IsIn y
    is_in_it c ne = in_batch y (m.life c) (λ z. ne (boxed c ∙ z))

    lives_in : (c : ℕ) → (count c (m.blocks y) ≡ 0 → ⊥) → lives (m.life c) ≡ true
    lives_in c ne = ap lives (is_in_it c ne)

    -- its first block leads to it

    from_chain : (end : ℕ) → Chain end f.nexts (first_or end (m.blocks y)) (m.blocks y) → LeadsTo w.memory b (first_or 0 (m.blocks y))
    from_chain end chain =
        subst (λ (word : ℕ). LeadsTo w.memory b word) (first_alike b end 0 (m.blocks y) stands_in)
        (nexts_lead defers w good end (first_or end (m.blocks y)) (m.blocks y) chain lives_in b stands_in)

    from_first : (st : Stage) → IsLive st ≡ true → LinkedIs f.nexts (x.behind y) st (m.blocks y) → LeadsTo w.memory b (first_or 0 (m.blocks y))
    from_first Unused l k = absurd (cc l)
    from_first (Open s) l k = from_chain (x.behind y) k
    from_first (Closing i) l k = from_chain 0 k
    from_first Closed l k = from_chain 0 k
    from_first Dead l k = absurd (cc l)

    pub first_leads : LeadsTo w.memory b (first_or 0 (m.blocks y))
    first_leads = from_first (m.stage y) live (good.shows.linkage.linked y)

    -- as does each other one, by the word that links to the first
    pub any_leads : (c : ℕ) → m.life c ≡ IsIn y → LeadsTo w.memory b (link c)
    any_leads c is =
        let first : words_of w.memory (Entry c FIRST) ≡ first_or 0 (m.blocks y) =
        subst (λ (l : Life). FirstIs (words_of w.memory (Entry c FIRST)) m.blocks l) is (good.shows.linkage.first c) in
        leads_on w.memory c FIRST (words_of w.memory (Entry c FIRST)) b (entry_is defers w good c FIRST (omega arith) (ap lives is))
        (subst (λ (word : ℕ). LeadsTo w.memory b word) (sym first) first_leads)

    last_leads : LeadsTo w.memory b (link (last_of (m.blocks y)))
    last_leads = any_leads (last_of (m.blocks y)) (is_in_it (last_of (m.blocks y)) (last_in b (m.blocks y) stands_in))

    -- ---- it is open in a slot
    module _ (s : ℕ) (at_stage : m.stage y ≡ Open s) where
      opened : m.open_batch s ≡ y
      opened = good.inv.batches.sole s y at_stage

      slot_lt : s < n
      slot_lt = good.inv.batches.below s y at_stage

      word_is : words_of w.memory (Slot s BATCH) ≡ batch_word (m.holder s) (m.blocks y)
      word_is = good.shows.linkage.batched s slot_lt ∙ ap (λ (z : ℕ). batch_word (m.holder s) (m.blocks z)) opened

      -- which no row holds
      free_leads : m.holder s ≡ 0 → IsOfASlot w.memory b
      free_leads none =
          let is : words_of w.memory (Slot s BATCH) ≡ link (last_of (m.blocks y)) =
          word_is ∙ ap (λ (h : ℕ). batch_word h (m.blocks y)) none in (
            s,
            BATCH,
            words_of w.memory (Slot s BATCH),
            slot_word s BATCH (λ z. last_some (let k = sym is ∙ z in omega (arith, k))),
            subst (λ (word : ℕ). LeadsTo w.memory b word) (sym is) last_leads,
          )
        where
          -- no block has the number 0
          zero_lives : m.life 0 ≡ IsIn y → ⊥
          zero_lives is = let k = entry_is defers w good 0 FIRST (omega arith) (ap lives is) in cc k

          last_some : last_of (m.blocks y) ≡ 0 → ⊥
          last_some z = zero_lives (ap m.life (sym z) ∙ is_in_it (last_of (m.blocks y)) (last_in b (m.blocks y) stands_in))

      -- or which a row holds

      settling_holds : (i : ℕ) (c : Settle) → FitsAt n i f m x (bare c) c.stands → settle_has s c ≡ true → OneLeadsTo w.memory b (words_of_settling c)
      settling_holds i c r has =
          let k = has_on s c has in
          let last : c.last ≡ link (last_of (m.blocks (m.open_batch c.slot))) = held_last n i f m x (bare c) k.1 c.stands r in
          let same : m.blocks (m.open_batch c.slot) ≡ m.blocks y = ap m.blocks (ap m.open_batch (sym k.0) ∙ opened) in
          inr (inr (inr (inr (inr (inr (inl (subst (λ (word : ℕ). LeadsTo w.memory b word) (sym (last ∙ ap (λ (l : List ℕ). link (last_of l)) same)) last_leads)))))))

      row_holds : (i : ℕ) (row : Row) → FitsRow n i f m x (length w.memory.slots) row → has_batch s row ≡ true → OneLeadsTo w.memory b (words_of_row row)
      row_holds i Rests r has = absurd (cc has)
      row_holds i (Registers c) r has = absurd (cc has)
      row_holds i (Enters c) r has = absurd (cc has)
      row_holds i (Settles c) r has = settling_holds i c r has
      row_holds i (Leaves c) r has = leaving_holds c.stands r has
        where
          leaving_holds : (p : Leaving) → FitsLeave n i f m x c.slot c.becomes c.frees p → leaving_has s p ≡ true → OneLeadsTo w.memory b (words_of_leaving p)
          leaving_holds leaving.Swaps q h = absurd (cc h)
          leaving_holds (leaving.Settles settle) q h = settling_holds i settle q.settles h
          leaving_holds leaving.Frees q h = absurd (cc h)
          leaving_holds leaving.Over q h = absurd (cc h)
      row_holds i (Defers t c) r has = absurd (cc has)
      row_holds i (Frees c) r has = absurd (cc has)

      held_leads : (m.holder s ≡ 0 → ⊥) → IsOfARow w b
      held_leads some =
          let is : words_of w.memory (Slot s BATCH) ≡ HELD =
          word_is ∙ ap (λ (q : Bool). cond q (link (last_of (m.blocks y))) 1) (ne_eqb (m.holder s) 0 some) in
          let k = held s is in (k.0, row_holds k.0 (w.row k.0) (good.rows k.0) k.1)

      pub open_leads : Found'
      open_leads = elim (cases_eq (m.holder s) 0) as (λ _. Found') [
        | inl none ↦ inl (free_leads none)
        | inr some ↦ inr (held_leads some)
      ]

    -- ---- a row closes it
    pub closing_leads : (i : ℕ) → m.stage y ≡ Closing i → IsOfARow w b
    closing_leads i at_stage = (i, by (hand_of_row defers w good i))
      where
        closes : m.closing i ≡ y + 1
        closes = good.inv.batches.shut i y at_stage

        by : HasAtHand n i f m x (w.row i) → OneLeadsTo w.memory b (words_of_row (w.row i))
        by (HasNone empty out) = absurd (let k = closes in let none = empty.closing in omega (arith, k, none))
        by (HasBlock empty d s t words pos life) = absurd (let k = closes in let none = empty.closing in omega (arith, k, none))
        by (HasSettling c r words) =
            subst (OneLeadsTo w.memory b) (sym words)
            (inr (inr (inr (inr (inr (inl (subst (λ (word : ℕ). LeadsTo w.memory b word) (sym (closing_first n i f m x (bare c) y closes c.stands r)) first_leads)))))))

    -- ---- it is closed, and an entry of it waits on a slot's list, or in the hand of a row

    -- the list leads to the entry, and the entry to the block
    entry_leads : (word : ℕ) (es : List OnList) → Chain 3 f.links word (blocks_of es) → (c : ℕ) → (count c (blocks_of es) ≡ 0 → ⊥) → m.life c ≡ IsIn y
        → ((d : ℕ) → (count d (blocks_of es) ≡ 0 → ⊥) → lives (m.life d) ≡ true) → LeadsTo w.memory b word
    entry_leads word es chain c some is live_there =
        leads_further w.memory b c word
        (leads_along w.memory LINK 3 word (blocks_of es) chain (λ d in_it. entry_is defers w good d LINK (omega arith) (live_there d in_it)) c some) (any_leads c is)

    module _ (t : ℕ) (owing : m.debt y t ≡ Owing) where
      listed_once : entries y (list_of (m.head t)) ≡ 0 → ⊥
      listed_once z = let k = good.inv.debts.listed y t in let l : on_list (m.debt y t) ≡ 1 = ap on_list owing in omega (arith, k, l, z)

      abbrev on_it : List OnList
      on_it = list_of (m.head t)

      entry : (c : ℕ) × (stands c y on_it ≡ 0 → ⊥) × (count c (blocks_of on_it) ≡ 0 → ⊥)
      entry = some_entry y on_it listed_once

      on_life : (c z : ℕ) → (stands c z on_it ≡ 0 → ⊥) → m.life c ≡ IsIn z
      on_life c z some = on_slot t z (x.spot c) (m.life c) (λ q. some (good.shows.entries.on t z c ∙ q)) (good.shows.entries.spots c)

      on_lives : (c : ℕ) → (count c (blocks_of on_it) ≡ 0 → ⊥) → lives (m.life c) ≡ true
      on_lives c some = let k = some_batch c on_it some in ap lives (on_life c k.0 k.1)

      head_chain : (h : Head) → HeadIs f.links (f.heads t) h → (count entry.0 (blocks_of (list_of h)) ≡ 0 → ⊥) → Chain 3 f.links (f.heads t) (blocks_of (list_of h))
      head_chain Never k some = absurd (some refl)
      head_chain Free k some = absurd (some refl)
      head_chain Idle k some = absurd (some refl)
      head_chain (Active es) k some = k

      pub list_leads : IsOfASlot w.memory b
      list_leads =
          let chain = head_chain (m.head t) (good.shows.entries.headed t) entry.2 in
          let high = above f.links (f.heads t) (blocks_of on_it) entry.0 chain entry.2 in (
            t,
            HEAD,
            words_of w.memory (Slot t HEAD),
            slot_word t HEAD (λ z. omega (arith, high, z)),
            entry_leads (f.heads t) on_it chain entry.0 entry.2 (on_life entry.0 y entry.1) on_lives,
          )

    module _ (t i : ℕ) (loose : m.debt y t ≡ Loose i) where
      abbrev in_it : List OnList
      in_it = m.loose i

      taken_once : entries y in_it ≡ 0 → ⊥
      taken_once z =
          let k = good.inv.debts.loosed y t i in let l : is_loose i (m.debt y t) ≡ 1 = ap (is_loose i) loose ∙ loose_own i in
          none_taken (eqb t (m.from i)) z (k ∙ l)
        where
          none_taken : (q : Bool) → entries y in_it ≡ 0 → cond q (entries y in_it) 0 ≡ 1 → ⊥
          none_taken true z k = let l = z in omega (arith, k, l)
          none_taken false z k = cc k

      entry_in : (c : ℕ) × (stands c y in_it ≡ 0 → ⊥) × (count c (blocks_of in_it) ≡ 0 → ⊥)
      entry_in = some_entry y in_it taken_once

      in_life : (c z : ℕ) → (stands c z in_it ≡ 0 → ⊥) → m.life c ≡ IsIn z
      in_life c z some = in_row i z (x.spot c) (m.life c) (λ q. some (good.shows.entries.hands i z c ∙ q)) (good.shows.entries.spots c)

      in_lives : (c : ℕ) → (count c (blocks_of in_it) ≡ 0 → ⊥) → lives (m.life c) ≡ true
      in_lives c some = let k = some_batch c in_it some in ap lives (in_life c k.0 k.1)

      hand_leads : LeadsTo w.memory b (x.hand i)
      hand_leads = entry_leads (x.hand i) in_it (good.shows.entries.loosed i) entry_in.0 entry_in.2 (in_life entry_in.0 y entry_in.1) in_lives

      none_loose : m.loose i ≡ [] → ⊥
      none_loose none = taken_once (ap (entries y) none)

      pub loose_leads : IsOfARow w b
      loose_leads = (i, by (hand_of_row defers w good i))
        where
          by : HasAtHand n i f m x (w.row i) → OneLeadsTo w.memory b (words_of_row (w.row i))
          by (HasNone empty out) = absurd (none_loose empty.loose)
          by (HasBlock empty d s u words pos life) = absurd (none_loose empty.loose)
          by (HasSettling c r words) =
              let is : x.hand i ≡ list_word c.list = (common n i f m x (bare c) c.stands r).hand in
              let high = above f.links (x.hand i) (blocks_of in_it) entry_in.0 (good.shows.entries.loosed i) entry_in.2 in
              let same : list_word c.list ≡ c.list = listed_word c.list (subst (λ (k : ℕ). 3 < k) is high) in
              subst (OneLeadsTo w.memory b) (sym words)
              (inr (inr (inr (inr (inl (subst (λ (word : ℕ). LeadsTo w.memory b word) (is ∙ same) hand_leads))))))

    owed_leads : (t : ℕ) (d : Debt) → m.debt y t ≡ d → (owes d ≡ 0 → ⊥) → Found'
    owed_leads t Unscanned is ne = absurd (ne refl)
    owed_leads t Marked is ne = absurd (ne refl)
    owed_leads t Gone is ne = absurd (ne refl)
    owed_leads t Skipped is ne = absurd (ne refl)
    owed_leads t Owing is ne = inl (list_leads t is)
    owed_leads t (Loose i) is ne = inr (loose_leads t i is)
    owed_leads t Counted is ne = absurd (ne refl)

    closed_leads : m.stage y ≡ Closed → Found'
    closed_leads at_stage =
        let tally = closed_tally (m.stage y) at_stage (good.inv.batches.tally y) in let waits = good.pending y at_stage in
        let k = some_owes (m.debt y) n (λ z. let none = tally ∙ z in omega (arith, waits, none)) in owed_leads k.0 (m.debt y k.0) refl k.1
      where
        closed_tally : (st : Stage) → st ≡ Closed → AtStage n st (m.counter y) (m.debt y) (m.seen y) (m.todo y) → m.counter y ≡ total owes (m.debt y) n
        closed_tally st is k = (subst (λ (a : Stage). AtStage n a (m.counter y) (m.debt y) (m.seen y) (m.todo y)) is k).0

    by_stage : (st : Stage) → m.stage y ≡ st → Found'
    by_stage Unused is = absurd (let l = live in let k = ap IsLive is in cc (l, k))
    by_stage (Open s) is = open_leads s is
    by_stage (Closing i) is = inr (closing_leads i is)
    by_stage Closed is = closed_leads is
    by_stage Dead is = absurd (let l = live in let k = ap IsLive is in cc (l, k))

    pub batch_leads : Found'
    batch_leads = by_stage (m.stage y) refl
