-- What a step of others spares of a map that ends is all that its facts speak of: they hold after it.
use Rattle.std.specs.Prelude.{◌≢◌, cond, map, Some}
use Rattle.std.proofs.Common.{◌≡◌, ℕ, ◌<◌, ◌≤◌, Bool, true, false, List, [], ◌∷◌, inl, inr, refl, arith, ap, sym, subst, ◌∙◌}
use Rattle.std.proofs.lemmas.Bool.{cases_lt}
use Rattle.many_calls.specs.Given.SeizeWordsMem.{Mem, value_at, word_at}
use Rattle.many_calls.specs.Given.SeizeWordsDeclared.at.At.TheVariants.{Root, Used}
use Rattle.many_calls.specs.Given.SeizeWorld.{World, times}
use Rattle.many_calls.specs.Given.TablesChunks.{is_incremental}
use Rattle.many_calls.proofs.Given.TablesLists.{its_list}
use Rattle.many_calls.specs.Given.TablesNodes.{deferred_word}
use Rattle.many_calls.specs.Given.TablesDeclared.node.Node.{Node}
use Rattle.many_calls.specs.Given.TablesDeclared.table_words.TheConstants.{DEFERRED}
use Rattle.many_calls.specs.Given.RawDeclared.machines.end_map.Ending.{Ending}
use Rattle.many_calls.specs.Given.RawDeclared.machines.end_map.Ending.TheVariants as at
use Rattle.many_calls.specs.Given.TablesDeclared.setting.Setting.{Setting}
use Rattle.many_calls.specs.Given.RuleChart.{Chart}
use Rattle.many_calls.specs.Given.RuleWords.{Blocks, root_word}
use Rattle.many_calls.specs.Kept.{IsMaking, IsPair}
use Rattle.many_calls.specs.Together.{CameAbout}
use Rattle.many_calls.proofs.Rows.Behind.{pair_on}
use Rattle.many_maps.proofs.Beside.Endings.Spares.{IsUsedOf, IsSpared, SparesEnd}
use Rattle.many_maps.specs.Endings.{Finishing, HasCounter, FinishingFacts}
use Rattle.many_maps.specs.FactsEnds.{RootAt, CarryTheirs, EndingFacts, back_of, from_table}
use Rattle.many_maps.specs.Orders.{pairs_of}
use Rattle.many_maps.proofs.Among.Yet.{counter_or_all, later_fresh}
use Rattle.many_maps.proofs.Ends.CountedBlocks.{some_first, some_last, some_here, some_of_first}
use Rattle.many_maps.proofs.Ends.Known.{back_once}
use Rattle.many_maps.proofs.Ends.Lasts.{IsLeftAlone, facts_last}
use Rattle.many_maps.proofs.Ends.OrdersOn.{table_later}
use Rattle.many_maps.proofs.Ends.SinceOn.{IsSame}

-- what is there stands as often in the list of what it leads to
map_some : (f : ℕ → ℕ) (x : ℕ) (l : List ℕ) → 0 < times x l → 0 < times (f x) (map f l)
map_some f x [] some = absurd (omega (arith, some))
map_some f x (y ∷ l) some = elim (some_of_first x y l some) as (λ _. 0 < times (f x) (f y ∷ map f l)) [
  | inl e ↦ subst (λ (z : ℕ). 0 < times (f x) (f z ∷ map f l)) e (some_here (f x) (map f l))
  | inr there ↦ some_last (f x) (f y ∷ []) (map f l) (map_some f x l there)
]

-- until it is over the root of a map that ends is taken
pub used_until_over : {K V : Type 0} (hash : K → ℕ) (setting : Setting) (c : Chart K) (blocks : Blocks) (m : Mem (Node K V)) (stage : Ending) → (stage ≡ at.Over → ⊥) → RootAt hash setting c blocks m stage
    → word_at m (Used setting.root) ≡ Some 1
used_until_over hash setting c blocks m at.Over none h = absurd (none refl)
used_until_over hash setting c blocks m at.Reads none h = h.1
used_until_over hash setting c blocks m at.Words none h = h.1
used_until_over hash setting c blocks m (at.Takes pair) none h = h.1
used_until_over hash setting c blocks m at.Nexts none h = h.1
used_until_over hash setting c blocks m at.Carries none h = h.1
used_until_over hash setting c blocks m (at.Joins pair) none h = h.1
used_until_over hash setting c blocks m (at.Follows pair) none h = h.1
used_until_over hash setting c blocks m (at.Gives pair next) none h = h.1
used_until_over hash setting c blocks m at.Afters none h = h.1
used_until_over hash setting c blocks m (at.Drops next) none h = h.1
used_until_over hash setting c blocks m at.Shards none h = h.1
used_until_over hash setting c blocks m at.Sets none h = h.1
used_until_over hash setting c blocks m at.Frees none h = h.1

module _ {K V : Type 0} (same : K → K → Bool) (batch_size : ℕ) (w : World (Node K V)) (i : ℕ) (f : Finishing K V) (facts : FinishingFacts same batch_size w i f) where
  once : (x : ℕ) → times x (back_of f.setting f.chart f.blocks facts.lists false) ≤ 1
  once = back_once same f.hash facts.lawful f.setting f.chart f.blocks facts.lists false i f.began facts.stood

  -- as long as one of its blocks was not reclaimed, the counter was not
  pub table_counter : (t : ℕ) → f.chart.first ≤ t → t < f.chart.past → times (f.blocks.table t) f.back ≡ 0 → HasCounter f
  table_counter t from made fresh = elim (counter_or_all f.hash f.setting f.chart f.blocks facts.lists false i w f.machine facts.past f.back f.began facts.facts once) as (λ _. HasCounter f) [
    | inl counter ↦ counter
    | inr all ↦ absurd (omega (arith, fresh, there all))
  ]
    where
      there : back_of f.setting f.chart f.blocks facts.lists false ≡ f.back → 0 < times (f.blocks.table t) f.back
      there all = subst (λ (l : List ℕ). 0 < times (f.blocks.table t) l) all
          (some_last (f.blocks.table t) (map f.blocks.pair (pairs_of (is_incremental f.setting.mode) f.chart)) (from_table f.setting f.chart f.blocks facts.lists false f.chart.first)
          (table_later f.setting f.chart f.blocks facts.lists false t f.chart.first from made))

  pub pair_counter : (n : ℕ) → f.chart.current n ≡ true → times (f.blocks.pair n) f.back ≡ 0 → HasCounter f
  pair_counter n current fresh = elim (counter_or_all f.hash f.setting f.chart f.blocks facts.lists false i w f.machine facts.past f.back f.began facts.facts once) as (λ _. HasCounter f) [
    | inl counter ↦ counter
    | inr all ↦ absurd (omega (arith, fresh, there all))
  ]
    where
      listed : 0 < times n (pairs_of (is_incremental f.setting.mode) f.chart)
      listed = let k = facts.each n ∙ ap (λ (b : Bool). cond b 1 0) current in omega (arith, k)

      there : back_of f.setting f.chart f.blocks facts.lists false ≡ f.back → 0 < times (f.blocks.pair n) f.back
      there all = subst (λ (l : List ℕ). 0 < times (f.blocks.pair n) l) all
          (some_first (f.blocks.pair n) (map f.blocks.pair (pairs_of (is_incremental f.setting.mode) f.chart)) (from_table f.setting f.chart f.blocks facts.lists false f.chart.first)
          (map_some f.blocks.pair n (pairs_of (is_incremental f.setting.mode) f.chart) listed))

  not_over : f.machine.stands ≡ at.Over → ⊥
  not_over e = subst (λ (stage : Ending). EndingFacts f.setting f.chart f.blocks facts.lists false i f.hash w f.machine facts.past f.back stage) e facts.facts.point

  -- its root is taken
  pub root_taken : word_at w.memory (Used f.setting.root) ≡ Some 1
  root_taken = used_until_over f.hash f.setting f.chart f.blocks w.memory f.machine.stands not_over facts.facts.root

  -- The facts hold where what the map has was left alone.
  pub facts_alone : (w2 : World (Node K V)) → CameAbout batch_size w2 → IsLeftAlone f.setting f.chart f.blocks facts.lists false w w2 facts.past f.back
      → ((lists2 : ℕ → List ℕ) → CarryTheirs f.setting f.chart f.blocks lists2 false w2 facts.past) → ((x : ℕ) → 0 < times x f.waits → IsPair w2 x) → FinishingFacts same batch_size w2 i f
  facts_alone w2 came alone theirs waiting =
      let last = facts_last same f.hash facts.lawful f.setting f.chart f.blocks facts.lists false refl i f.began facts.stood w w2 facts.past f.back
      (subst (λ (size : ℕ). CameAbout size w2) (sym facts.batches) came) alone f.machine facts.facts in
      record {
        lawful = facts.lawful;
        batches = facts.batches;
        lists = last.0;
        past = facts.past;
        stood = last.2;
        facts = last.4;
        theirs = theirs last.0;
        each = facts.each;
        waits_are = facts.waits_are ∙ sym last.3;
        waiting = waiting;
      }

  module _ (w2 : World (Node K V)) (o : ℕ) (o_is : HasCounter f → o ≡ f.setting.counter) (spares : SparesEnd w w2 batch_size o f.setting.root i) where
    -- a block in use of the map is one that the step spares
    used_of : (b : ℕ) → HasCounter f → IsUsedOf w f.setting.counter b → IsUsedOf w o b
    used_of b counter used = subst (λ (x : ℕ). IsUsedOf w x b) (sym (o_is counter)) used

    same_of : (b : ℕ) → IsSpared w w2 b → IsSame w w2 b
    same_of b s = record { value = s.value; hand = s.hand; owner_is = s.owner; orphan = s.orphan; over = s.over }

    table_used : (t : ℕ) → f.chart.first ≤ t → facts.past ≤ t → t < f.chart.past → times (f.blocks.table t) f.back ≡ 0 → IsUsedOf w o (f.blocks.table t)
    table_used t from later made fresh =
        let y = facts.facts.since.tables t from made fresh in used_of (f.blocks.table t) (table_counter t from made fresh) ((y.used later).0, y.still.owner_is)

    table_of : (t : ℕ) → f.chart.first ≤ t → t < f.chart.past → times (f.blocks.table t) f.back ≡ 0 → IsSpared w w2 (f.blocks.table t)
    table_of t from made fresh = elim (cases_lt t facts.past) as (λ _. IsSpared w w2 (f.blocks.table t)) [
      | inl left ↦ spares.blocks (f.blocks.table t) (inr ((facts.facts.since.tables t from made fresh).left left).0)
      | inr later ↦ spares.blocks (f.blocks.table t) (inl (table_used t from later made fresh))
    ]

    pair_used : (n : ℕ) → f.chart.current n ≡ true → times (f.blocks.pair n) f.back ≡ 0 → IsUsedOf w o (f.blocks.pair n)
    pair_used n current fresh = let y = facts.facts.since.pairs n current fresh in used_of (f.blocks.pair n) (pair_counter n current fresh) (y.1.0, y.0.owner_is)

    -- it has no list but the one that begins with its word for that
    no_list : (field : ℕ) → field ≢ DEFERRED → (value : Node K V) → deferred_word value ≢ Some field
    no_list field other value is = other (its_list value field is)

    pair_of : (n : ℕ) → f.chart.current n ≡ true → times (f.blocks.pair n) f.back ≡ 0 → IsSpared w w2 (f.blocks.pair n)
    pair_of n current fresh = spares.blocks (f.blocks.pair n) (inl (pair_used n current fresh))

    counter_of : HasCounter f → IsSpared w w2 f.setting.counter
    counter_of counter =
        let k = facts.facts.since.counter counter in
        subst (IsSpared w w2) (o_is counter) (spares.counter (ap (value_at w.memory) (o_is counter) ∙ k.0) (subst (λ (x : ℕ). IsMaking (w.hand x)) (sym (o_is counter)) k.1))

    root_same : (word : ℕ) → word_at w.memory (Root f.setting.root) ≡ Some word → word_at w2.memory (Root f.setting.root) ≡ word_at w.memory (Root f.setting.root)
    root_same word is = spares.root_leads word is ∙ sym is

    used_same : word_at w.memory (Used f.setting.root) ≡ Some 1 → word_at w2.memory (Used f.setting.root) ≡ word_at w.memory (Used f.setting.root)
    used_same is = spares.root_used is ∙ sym is

    abbrev RootSame : Type 0
    RootSame = (word_at w2.memory (Root f.setting.root) ≡ word_at w.memory (Root f.setting.root)) × (word_at w2.memory (Used f.setting.root) ≡ word_at w.memory (Used f.setting.root))

    leads : RootAt f.hash f.setting f.chart f.blocks w.memory at.Reads → RootSame
    leads (a, b) = (root_same (root_word f.hash f.chart f.blocks) a, used_same b)

    root_at : (stage : Ending) → (stage ≡ at.Over → ⊥) → RootAt f.hash f.setting f.chart f.blocks w.memory stage → RootSame
    root_at at.Reads none h = leads h
    root_at at.Words none h = leads h
    root_at (at.Takes pair) none h = leads h
    root_at at.Nexts none h = leads h
    root_at at.Carries none h = leads h
    root_at (at.Joins pair) none h = leads h
    root_at (at.Follows pair) none h = leads h
    root_at (at.Gives pair next) none h = leads h
    root_at at.Afters none h = leads h
    root_at (at.Drops next) none h = leads h
    root_at at.Shards none h = leads h
    root_at at.Sets none h = leads h
    root_at at.Frees none (a, b) = (root_same 0 a, used_same b)
    root_at at.Over none h = absurd (none refl)

    left_alone : IsLeftAlone f.setting f.chart f.blocks facts.lists false w w2 facts.past f.back
    left_alone = record {
      tables = λ t from made fresh. let s = table_of t from made fresh in (same_of (f.blocks.table t) s, λ field word other is. s.words field word (λ value is named. no_list field other value named) is);
      pairs = λ n current fresh. same_of (f.blocks.pair n) (pair_of n current fresh);
      counter = λ counter. let s = counter_of counter in (s.value, s.hand);
      tables_onto = λ t j from later made fresh on.
          ((facts.facts.since.tables t from made fresh).used later).1 j (spares.onto (f.blocks.table t) j (table_used t from later made fresh) on);
      pairs_onto = λ n j current fresh on. (facts.facts.since.pairs n current fresh).1.1 j (spares.onto (f.blocks.pair n) j (pair_used n current fresh) on);
      waits = λ x on. let left = facts.facts.since.waits x on in ((spares.blocks x (inr left)).hand, λ word is. spares.links x word left is);
      root = root_at f.machine.stands not_over facts.facts.root;
    }

    -- what is behind its tables are still pairs of its own
    theirs2 : (lists2 : ℕ → List ℕ) → CarryTheirs f.setting f.chart f.blocks lists2 false w2 facts.past
    theirs2 lists2 t x from later made at =
        let fresh = later_fresh f.hash f.setting f.chart f.blocks facts.lists false i w f.machine facts.past f.back f.began facts.facts once t from later made in
        let lay = spares.behind (f.blocks.table t) x (table_used t from later made fresh) at in
        pair_on f.setting.counter x w w2 lay.1 lay.2 (facts.theirs t x from later made lay.0)

    -- and so are those that wait
    waiting2 : (x : ℕ) → 0 < times x f.waits → IsPair w2 x
    waiting2 x on =
        let left = facts.facts.since.waits x (subst (λ (l : List ℕ). 0 < times x l) facts.waits_are on) in
        let p = facts.waiting x on in (p.0, p.1, (spares.blocks x (inr left)).value ∙ p.2)

    -- the facts hold after the step
    pub facts_on : FinishingFacts same batch_size w2 i f
    facts_on = facts_alone w2 spares.came left_alone theirs2 waiting2
