-- What the memory of a map shows, from its root on, are its pairs.
use Rattle.std.specs.Prelude.{◌-◌, Option, None}
use Rattle.std.specs.List.Sorted.{IsPermutation}
use Rattle.std.proofs.Common.{◌≡◌, ◌≢◌, ℕ, zero, suc, ◌+◌, ◌/◌, ◌<◌, ◌≤◌, ◌==◌, ◌&&◌, Bool, true, false, cond, List, [], ◌∷◌, ◌++◌, if◌then◌else◌, Some, ◌⊎◌, inl, inr, refl, ap, sym, subst, ◌∙◌, arith, append_assoc}
use Rattle.std.proofs.lemmas.List.{append-nil}
use Rattle.std.proofs.lemmas.Bool.{eqb-true, eqb-false, cases_lt}
use Rattle.seize_words.specs.declared.at.At.TheVariants.{Root, Word}
use Rattle.seize_words.specs.OneMemory.Mem.{Mem, value_at, word_at}
use Rattle.map_tables.specs.Chunks.{is_incremental}
use Rattle.map_tables.specs.Marks.{has_mark}
use Rattle.map_tables.specs.declared.marks.TheConstants.{COPYING}
use Rattle.map_tables.specs.declared.node.Node.{Node}
use Rattle.map_tables.specs.declared.setting.Setting.{Setting}
use Rattle.map_tables.specs.declared.table.Table.{Table}
use Rattle.map_tables.specs.declared.table_words.TheConstants.{PLACES}
use Rattle.map_rule.specs.Chart.{Chart}
use Rattle.map_rule.specs.Words.{Blocks, place_word, next_word}
use Rattle.map_rule.specs.Maps.{spot_of}
use Rattle.map_rule.specs.Links.{LeadsTo}
use Rattle.map_rule.proofs.Laws.{links_have_tables, nexts_lead}
use Rattle.map_straight.specs.Shown.Chain.{word_or_none, pair_of, places_of, behind, HasTables, CountsTables, IsTableAt, CanBeRead, pair_by, pairs_at, pairs_on, one_count}
use Rattle.map_straight.specs.Shown.Shown.{HasMap, pairs_stored, NoneMoves, table_of, pair_there, number_there, numbers_there, numbers_from}
use Rattle.map_straight.proofs.Shown.Current.{lists_all}
use Rattle.map_straight.proofs.Shown.Links as links
use Rattle.map_straight.proofs.Shown.Counting as pairs
use Rattle.map_straight.proofs.Shown.Below.{numbers_below, below_current, same_current}
use Rattle.map_straight.proofs.Shown.Permuted.{all_of, all_of-append, permuted}
use Rattle.seize_words.proofs.General.{both_true as both}

not_both : (x y : Bool) → (x && y) ≡ false → x ≡ true → y ≡ false
not_both true y h g = h
not_both false y h g = absurd (cc)

-- the numbers at so many places, from this one on, and in so many tables, from this one on
module _ {K : Type 0} (incremental : Bool) (c : Chart K) where
  abbrev pub numbers_at : ℕ → ℕ → ℕ → List ℕ
  numbers_at t i zero = []
  numbers_at t i (suc places) = number_there (pair_there incremental (c.place t i)) ++ numbers_at t (suc i) places

  abbrev pub numbers_on : ℕ → ℕ → List ℕ
  numbers_on t zero = []
  numbers_on t (suc tables) = numbers_at t 0 (c.len t) ++ numbers_on (suc t) tables

  -- one place more
  at_more : (t i places : ℕ) → numbers_at t i (suc places) ≡ numbers_at t i places ++ number_there (pair_there incremental (c.place t (i + places)))
  at_more t i zero = append-nil (number_there (pair_there incremental (c.place t i))) ∙ ap (λ j. number_there (pair_there incremental (c.place t j))) (let e : i ≡ i + 0 = omega arith in e)
  at_more t i (suc places) =
      let e : suc i + places ≡ i + suc places = omega arith in
      ap (λ l. number_there (pair_there incremental (c.place t i)) ++ l) (at_more t (suc i) places ∙ ap (λ j. numbers_at t (suc i) places ++ number_there (pair_there incremental (c.place t j))) e)
      ∙ sym (append_assoc (number_there (pair_there incremental (c.place t i))) (numbers_at t (suc i) places) (number_there (pair_there incremental (c.place t (i + suc places)))))

  at_there : (t places : ℕ) → numbers_at t 0 places ≡ numbers_there incremental c t places
  at_there t zero = refl
  at_there t (suc places) =
      let e : 0 + places ≡ places = omega arith in
      at_more t 0 places ∙ ap (λ j. numbers_at t 0 places ++ number_there (pair_there incremental (c.place t j))) e
      ∙ ap (λ l. l ++ number_there (pair_there incremental (c.place t places))) (at_there t places)

  -- one table more
  on_more : (t tables : ℕ) → numbers_on t (suc tables) ≡ numbers_on t tables ++ numbers_at (t + tables) 0 (c.len (t + tables))
  on_more t zero = append-nil (numbers_at t 0 (c.len t)) ∙ ap (λ u. numbers_at u 0 (c.len u)) (let e : t ≡ t + 0 = omega arith in e)
  on_more t (suc tables) =
      let e : suc t + tables ≡ t + suc tables = omega arith in
      ap (λ l. numbers_at t 0 (c.len t) ++ l) (on_more (suc t) tables ∙ ap (λ u. numbers_on (suc t) tables ++ numbers_at u 0 (c.len u)) e)
      ∙ sym (append_assoc (numbers_at t 0 (c.len t)) (numbers_on (suc t) tables) (numbers_at (t + suc tables) 0 (c.len (t + suc tables))))

  pub on_from : (tables : ℕ) → numbers_on c.first tables ≡ numbers_from incremental c tables
  on_from zero = refl
  on_from (suc tables) =
      on_more c.first tables ∙ ap (λ l. l ++ numbers_at (c.first + tables) 0 (c.len (c.first + tables))) (on_from tables)
      ∙ ap (λ l. numbers_from incremental c tables ++ l) (at_there (c.first + tables) (c.len (c.first + tables)))

module _ {K V : Type 0} (m : Mem (Node K V)) (blocks : Blocks) where
  -- the pair with a number
  abbrev pub numbered : ℕ → List (K × V)
  numbered zero = []
  numbered (suc n) = pair_of (value_at m (blocks.pair n))

  none_or_one : (o : Option ℕ) (zs : List (K × V)) → (o ≡ None → zs ≡ []) → ((n : ℕ) → o ≡ Some n → zs ≡ pair_of (value_at m (blocks.pair n))) → zs ≡ all_of numbered (number_there o)
  none_or_one None zs none some = none refl
  none_or_one (Some n) zs none some = some n refl ∙ sym (append-nil (pair_of (value_at m (blocks.pair n))))

module _ {K V : Type 0} (eq : K → K → Bool) (hash : K → ℕ) (m : Mem (Node K V)) (setting : Setting) (c : Chart K) (blocks : Blocks) (stands : HasMap eq hash m setting c blocks) where
  abbrev incremental : Bool
  incremental = is_incremental setting.mode

  abbrev one : ℕ → List (K × V)
  one = numbered m blocks

  module _ (t : ℕ) (linked : c.first ≤ t) (made : t < c.past) where
    abbrev table : Table
    table = table_of c blocks t

    -- its pair does not count
    abbrev Passed : ℕ → Type 0
    Passed word = (word / 2048 ≡ 0) ⊎ ((incremental ≡ true) × (has_mark word COPYING ≡ true))

    -- what the word of a place shows
    place_shown : (i : ℕ) → i < c.len t → (word : ℕ) → word_at m (Word (table.link / 2048) (i + PLACES)) ≡ Some word → pair_by m incremental word ≡ all_of one (number_there (pair_there incremental (c.place t i)))
    place_shown i inside word read = none_or_one m blocks (pair_there incremental (c.place t i)) (pair_by m incremental word) none some
      where
        is : word ≡ place_word hash c blocks (c.place t i)
        is = links.is_word eq hash m setting c blocks stands table linked made refl i inside word read

        by : (a : Bool) → (word / 2048 == 0) ≡ a → (b : Bool) → (incremental && has_mark word COPYING) ≡ b
            → (Passed word × (pair_by m incremental word ≡ [])) ⊎ ((word / 2048 ≢ 0) × (incremental ≡ true → has_mark word COPYING ≡ false) × (pair_by m incremental word ≡ pair_of (value_at m (word / 2048))))
        by true e b f = inl (inl (eqb-true (word / 2048) 0 e), ap (λ (x : Bool). if x then [] else (if incremental && has_mark word COPYING then [] else pair_of (value_at m (word / 2048)))) e)
        by false e true f =
            inl (
              inr (both incremental (has_mark word COPYING) f),
              ap (λ (x : Bool). if x then [] else (if incremental && has_mark word COPYING then [] else pair_of (value_at m (word / 2048)))) e
                  ∙ ap (λ (x : Bool). if x then [] else pair_of (value_at m (word / 2048))) f,
            )
        by false e false f =
            inr (
              eqb-false (word / 2048) 0 e,
              not_both incremental (has_mark word COPYING) f,
              ap (λ (x : Bool). if x then [] else (if incremental && has_mark word COPYING then [] else pair_of (value_at m (word / 2048)))) e
                  ∙ ap (λ (x : Bool). if x then [] else pair_of (value_at m (word / 2048))) f,
            )

        cases : (Passed word × (pair_by m incremental word ≡ [])) ⊎ ((word / 2048 ≢ 0) × (incremental ≡ true → has_mark word COPYING ≡ false) × (pair_by m incremental word ≡ pair_of (value_at m (word / 2048))))
        cases = by (word / 2048 == 0) refl (incremental && has_mark word COPYING) refl

        none : pair_there incremental (c.place t i) ≡ None → pair_by m incremental word ≡ []
        none e = elim cases as (λ _. pair_by m incremental word ≡ []) [
          | inl passed ↦ passed.1
          | inr held ↦ (let there = pairs.one_there eq hash m setting c blocks stands t i linked made word is held.0 held.1 in absurd (let d = sym e ∙ there.1 in cc))
        ]

        some : (n : ℕ) → pair_there incremental (c.place t i) ≡ Some n → pair_by m incremental word ≡ pair_of (value_at m (blocks.pair n))
        some n e = elim cases as (λ _. pair_by m incremental word ≡ pair_of (value_at m (blocks.pair n))) [
          | inl passed ↦ (let there = pairs.none_there eq hash m setting c blocks stands t i linked made word is passed.0 in absurd (let d = sym e ∙ there in cc))
          | inr held ↦ (
              let there = pairs.one_there eq hash m setting c blocks stands t i linked made word is held.0 held.1 in
              let same : there.0 ≡ n = (let d = sym there.1 ∙ e in cc) in
              held.2 ∙ ap (λ b. pair_of (value_at m b)) (there.2 ∙ ap blocks.pair same))
        ]

    pub table_shown : (places i : ℕ) → i + places ≤ c.len t → pairs_at m incremental table.link i places ≡ all_of one (numbers_at incremental c t i places)
    table_shown zero i le = refl
    table_shown (suc places) i le =
        let read = links.place_read eq hash m setting c blocks stands table linked made refl i (omega (arith, le)) in
        ap (λ (o : Option ℕ). pair_by m incremental (word_or_none o) ++ pairs_at m incremental table.link (suc i) places) read
        ∙ ap (λ l. l ++ pairs_at m incremental table.link (suc i) places) (place_shown i (omega (arith, le)) (place_word hash c blocks (c.place t i)) read)
        ∙ ap (λ l. all_of one (number_there (pair_there incremental (c.place t i))) ++ l) (table_shown places (suc i) (omega (arith, le)))
        ∙ sym (all_of-append one (number_there (pair_there incremental (c.place t i))) (numbers_at incremental c t (suc i) places))

    -- the link behind it
    pub behind_leads : LeadsTo c blocks (behind m table.link) (suc t)
    behind_leads =
        let read = (nexts_lead eq hash setting.mode setting.root m c blocks stands.map table t (links.is_entered eq hash m setting c blocks stands table linked made refl)).0 in
        subst (λ w. LeadsTo c blocks w (suc t)) (sym (ap word_or_none read)) (links.next_leads_on eq hash m setting c blocks stands table linked made refl (next_word hash c blocks t) read)

  -- from a link on there are so many tables, which show their pairs
  pub chain_shown : (tables t link : ℕ) → c.first ≤ t → t + tables ≡ c.past → LeadsTo c blocks link t
      → HasTables m tables link × (pairs_on m incremental tables link ≡ all_of one (numbers_on incremental c t tables))
  chain_shown zero t link linked count (inl none) = (none.0, refl)
  chain_shown zero t link linked count (inr there) = absurd (let made = there.1 in omega (arith, count, made))
  chain_shown (suc tables) t link linked count (inl none) = absurd (let over = none.1 in omega (arith, count, over))
  chain_shown (suc tables) t link linked count (inr there) =
      let made : t < c.past = there.1 in
      let found = links_have_tables eq hash setting.mode setting.root m c blocks stands.map link t there in
      let on = chain_shown tables (suc t) (behind m link) (omega (arith, linked)) (omega (arith, count)) (subst (λ l. LeadsTo c blocks (behind m l) (suc t)) (sym there.0) (behind_leads t linked made)) in (
        (found.0, on.0),
        ap (λ (o : Option (Node K V)). pairs_at m incremental link 0 (places_of o) ++ pairs_on m incremental tables (behind m link)) found.1
            ∙ ap (λ l. pairs_at m incremental l 0 (c.len t) ++ pairs_on m incremental tables (behind m link)) there.0
            ∙ ap (λ l. l ++ pairs_on m incremental tables (behind m link)) (table_shown t linked made (c.len t) 0 (omega arith))
            ∙ ap (λ l. all_of one (numbers_at incremental c t 0 (c.len t)) ++ l) on.1
            ∙ sym (all_of-append one (numbers_at incremental c t 0 (c.len t)) (numbers_on incremental c (suc t) tables)),
      )

  -- a linked table can be read
  table_read : (t : ℕ) → c.first ≤ t → t < c.past → blocks.table_known t ≡ true → IsTableAt m (table_of c blocks t).link
  table_read t linked made known = record {
    len = c.len t;
    limit = c.limit t;
    turn = t;
    is_table = (links_have_tables eq hash setting.mode setting.root m c blocks stands.map (table_of c blocks t).link t (refl, made, known)).1;
    few = let most = (stands.map.shows.sized t made).most in omega (arith, most);
    next = links.next_shown eq hash m setting c blocks stands (table_of c blocks t) linked made refl;
    places = λ i l.
        let read = links.place_read eq hash m setting c blocks stands (table_of c blocks t) linked made refl i l in
        (place_word hash c blocks (c.place t i), read, λ some. pairs.has_pair eq hash m setting c blocks stands t i linked made (place_word hash c blocks (c.place t i)) refl some);
  }

  pub chain_read : (tables t link : ℕ) → c.first ≤ t → t + tables ≡ c.past → LeadsTo c blocks link t → CanBeRead m tables link
  chain_read zero t link linked count leads = tt
  chain_read (suc tables) t link linked count (inl none) = absurd (let over = none.1 in omega (arith, count, over))
  chain_read (suc tables) t link linked count (inr there) = (
    subst (IsTableAt m) (sym there.0) (table_read t linked there.1 there.2),
    chain_read tables (suc t) (behind m link) (omega (arith, linked)) (omega (arith, count)) (subst (λ l. LeadsTo c blocks (behind m l) (suc t)) (sym there.0) (behind_leads t linked there.1)),
  )

  -- the pairs by their numbers
  stored_are : (n : ℕ) → all_of one (numbers_below c n) ≡ pairs_stored m c blocks n
  stored_are zero = refl
  stored_are (suc n) = all_of-append one (numbers_below c n) (cond (c.current n) (suc n ∷ []) []) ∙ ap (λ l. l ++ all_of one (cond (c.current n) (suc n ∷ []) [])) (stored_are n) ∙ ap (λ l. pairs_stored m c blocks n ++ l) (by (c.current n))
    where
      by : (b : Bool) → all_of one (cond b (suc n ∷ []) []) ≡ cond b (pair_of (value_at m (blocks.pair n))) []
      by true = append-nil (pair_of (value_at m (blocks.pair n)))
      by false = refl

  -- where the root leads, those are the tables, and they show the pairs of the map, in some order
  ends : c.first + (c.past - c.first) ≡ c.past
  ends = by (cases_lt 0 c.past)
    where
      by : (0 < c.past) ⊎ (c.past ≤ 0) → c.first + (c.past - c.first) ≡ c.past
      by (inl some) = let r = stands.map.rule.common.rooted some in omega (arith, r)
      by (inr none) = let r = stands.map.rule.common.rootless (omega (arith, none)) in omega (arith, r, none)

  module _ (link : ℕ) (read : word_at m (Root setting.root) ≡ Some link) where
    leads : LeadsTo c blocks link c.first
    leads = links.root_leads_on eq hash m setting c blocks stands link read

    root_shown : HasTables m (c.past - c.first) link × (pairs_on m incremental (c.past - c.first) link ≡ all_of one (numbers_on incremental c c.first (c.past - c.first)))
    root_shown = chain_shown (c.past - c.first) c.first link (omega arith) ends leads

    pub root_counts : CountsTables m link
    root_counts = (c.past - c.first, root_shown.0)

    pub root_read : (tables : ℕ) → HasTables m tables link → CanBeRead m tables link
    root_read tables has =
        subst (λ n. CanBeRead m n link) (sym (one_count m tables (c.past - c.first) link has root_shown.0)) (chain_read (c.past - c.first) c.first link (omega arith) ends leads)

    pub all_shown : incremental ≡ true → NoneMoves incremental c → (tables : ℕ) → HasTables m tables link → IsPermutation (pairs_on m incremental tables link) (pairs_stored m c blocks c.stored)
    all_shown mode none tables has =
        subst (λ n. IsPermutation (pairs_on m incremental n link) (pairs_stored m c blocks c.stored)) (sym (one_count m tables (c.past - c.first) link has root_shown.0))
        (subst (λ l. IsPermutation l (pairs_stored m c blocks c.stored)) (sym (root_shown.1 ∙ ap (all_of one) (on_from incremental c (c.past - c.first))))
        (subst (IsPermutation (all_of one (numbers_from incremental c (c.past - c.first)))) (stored_are c.stored)
        (permuted one (numbers_from incremental c (c.past - c.first)) (numbers_below c c.stored)
        (same_current c (numbers_from incremental c (c.past - c.first)) (numbers_below c c.stored)
        (lists_all eq (spot_of hash) stands.classes c incremental stands.map.rule none mode)
        (below_current c c.stored (λ n current. let s = stands.map.rule.common.stands n current in (stands.map.rule.common.keyed s.0 s.1 n s.2 s.3 s.4).0))))))
