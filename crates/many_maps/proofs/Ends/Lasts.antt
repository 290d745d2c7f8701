-- What is known of a map that ends lasts as others take their steps, where it doesn't own its collector: what its tables carry may change meanwhile.
use Rattle.std.specs.Prelude.{◌≢◌, ◌-◌, map, Some}
use Rattle.std.proofs.lemmas.Bool.{cases_lt}
use Rattle.std.proofs.Common.{◌≡◌, ℕ, zero, suc, ◌<◌, ◌≤◌, Bool, true, false, List, [], ◌∷◌, ◌++◌, ◌⊎◌, inl, inr, refl, arith, ap, sym, subst, ◌∙◌}
use Rattle.many_calls.specs.Given.SeizeWordsDeclared.at.At.TheVariants.{Root, Used, Entry, Word}
use Rattle.many_calls.specs.Given.SeizeWordsMem.{Mem, value_at, word_at}
use Rattle.many_calls.specs.Given.SeizeDeclared.states.TheConstants.{NEXT}
use Rattle.many_calls.specs.Given.SeizeFurther.{ListFrom}
use Rattle.many_calls.specs.Given.SeizeWorld.{World, IsOnto, InUse, times}
use Rattle.many_calls.proofs.Given.SeizeAloneHistories.Further.{behind_it}
use Rattle.many_calls.proofs.Given.SeizeAloneHistories.Reached.{Reached}
use Rattle.many_calls.specs.Given.TablesNodes.{deferred_word}
use Rattle.many_calls.specs.Given.TablesChunks.{is_incremental}
use Rattle.many_calls.specs.Given.TablesDeclared.node.Node.{Node}
use Rattle.many_calls.specs.Given.TablesDeclared.node.Node.TheVariants as node
use Rattle.many_calls.specs.Given.TablesDeclared.setting.Setting.{Setting}
use Rattle.many_calls.specs.Given.TablesDeclared.table_words.TheConstants.{DEFERRED}
use Rattle.many_calls.specs.Given.RawDeclared.machines.end_map.EndMap.{EndMap}
use Rattle.many_calls.specs.Given.RawDeclared.machines.end_map.Ending.{Ending}
use Rattle.many_calls.specs.Given.RawDeclared.machines.end_map.Ending.TheVariants as at
use Rattle.many_calls.specs.Given.RuleChart.{Chart}
use Rattle.many_calls.specs.Given.RuleWords.{Blocks}
use Rattle.many_calls.specs.Given.PointsSteps.{AreLawful}
use Rattle.many_calls.specs.Together.{CameAbout}
use Rattle.many_calls.proofs.Together.Came.{came_reached}
use Rattle.many_maps.specs.Orders.{pairs_from, pairs_behind}
use Rattle.many_maps.specs.FactsEnds.{RootAt, IsJoined, HasDeferred, IsAt, AtPairs, Joins, IsToJoin, Since, BeganIn, EndingFacts, EndFacts, back_of, from_table, wait_before}
use Rattle.many_maps.proofs.Ends.CountedBlocks.{some_first, some_last}
use Rattle.many_maps.proofs.Ends.Memory.{list_led}
use Rattle.many_maps.proofs.Ends.Known.{table_value}
use Rattle.many_maps.proofs.Ends.OrdersOn.{before_same, from_same, back_same}
use Rattle.many_maps.proofs.Ends.SinceOn.{IsSame, Lasts, since_on}

-- What others did leaves what the map has left: its blocks, the links of those that wait, and its root. Nobody puts a block behind one of its own.
pub record IsLeftAlone {K V : Type 0} (setting : Setting) (c : Chart K) (blocks : Blocks) (lists : ℕ → List ℕ) (owns : Bool) (w w2 : World (Node K V)) (past : ℕ) (back : List ℕ) : Type 0 where
  pub tables : (t : ℕ) → c.first ≤ t → t < c.past → times (blocks.table t) back ≡ 0
      → IsSame w w2 (blocks.table t) × ((i word : ℕ) → i ≢ DEFERRED → word_at w.memory (Word (blocks.table t) i) ≡ Some word → word_at w2.memory (Word (blocks.table t) i) ≡ Some word)
  pub pairs : (n : ℕ) → c.current n ≡ true → times (blocks.pair n) back ≡ 0 → IsSame w w2 (blocks.pair n)
  pub counter : times setting.counter back ≡ 0 → (value_at w2.memory setting.counter ≡ value_at w.memory setting.counter) × (w2.hand setting.counter ≡ w.hand setting.counter)
  pub tables_onto : (t j : ℕ) → c.first ≤ t → past ≤ t → t < c.past → times (blocks.table t) back ≡ 0 → IsOnto (blocks.table t) (w2.row j) → ⊥
  pub pairs_onto : (n j : ℕ) → c.current n ≡ true → times (blocks.pair n) back ≡ 0 → IsOnto (blocks.pair n) (w2.row j) → ⊥
  pub waits : (x : ℕ) → 0 < times x (wait_before setting c blocks lists owns past)
      → (w2.hand x ≡ w.hand x) × ((word : ℕ) → word_at w.memory (Entry x NEXT) ≡ Some word → word_at w2.memory (Entry x NEXT) ≡ Some word)
  pub root : (word_at w2.memory (Root setting.root) ≡ word_at w.memory (Root setting.root)) × (word_at w2.memory (Used setting.root) ≡ word_at w.memory (Used setting.root))

-- the root leads where it led
root_on : {K V : Type 0} (hash : K → ℕ) (setting : Setting) (c : Chart K) (blocks : Blocks) (m m2 : Mem (Node K V)) → word_at m2 (Root setting.root) ≡ word_at m (Root setting.root)
    → word_at m2 (Used setting.root) ≡ word_at m (Used setting.root) → (stage : Ending) → RootAt hash setting c blocks m stage → RootAt hash setting c blocks m2 stage
root_on hash setting c blocks m m2 r u at.Reads (a, b) = (r ∙ a, u ∙ b)
root_on hash setting c blocks m m2 r u at.Words (a, b) = (r ∙ a, u ∙ b)
root_on hash setting c blocks m m2 r u (at.Takes pair) (a, b) = (r ∙ a, u ∙ b)
root_on hash setting c blocks m m2 r u at.Nexts (a, b) = (r ∙ a, u ∙ b)
root_on hash setting c blocks m m2 r u at.Carries (a, b) = (r ∙ a, u ∙ b)
root_on hash setting c blocks m m2 r u (at.Joins pair) (a, b) = (r ∙ a, u ∙ b)
root_on hash setting c blocks m m2 r u (at.Follows pair) (a, b) = (r ∙ a, u ∙ b)
root_on hash setting c blocks m m2 r u (at.Gives pair next) (a, b) = (r ∙ a, u ∙ b)
root_on hash setting c blocks m m2 r u at.Afters (a, b) = (r ∙ a, u ∙ b)
root_on hash setting c blocks m m2 r u (at.Drops next) (a, b) = (r ∙ a, u ∙ b)
root_on hash setting c blocks m m2 r u at.Shards (a, b) = (r ∙ a, u ∙ b)
root_on hash setting c blocks m m2 r u at.Sets (a, b) = (r ∙ a, u ∙ b)
root_on hash setting c blocks m m2 r u at.Frees (a, b) = (r ∙ a, u ∙ b)
root_on hash setting c blocks m m2 r u at.Over a = tt

-- The points, by what tables carry now: it is the same for those that are left over, and what waits is linked as it was.
module _ {K V : Type 0} (hash : K → ℕ) (setting : Setting) (c : Chart K) (blocks : Blocks) (lists lists2 : ℕ → List ℕ) (owns : Bool) (shared : owns ≡ false) (caller : ℕ) (w w2 : World (Node K V))
    (e : EndMap) (past : ℕ) (back : List ℕ) (same_before : wait_before setting c blocks lists2 owns past ≡ wait_before setting c blocks lists owns past)
    (links : (x : ℕ) → 0 < times x (wait_before setting c blocks lists owns past) → (word : ℕ) → word_at w.memory (Entry x NEXT) ≡ Some word → word_at w2.memory (Entry x NEXT) ≡ Some word) where
  at_on : (t : ℕ) → IsAt setting c blocks lists owns e t → IsAt setting c blocks lists2 owns e t
  at_on t h = record { table = h.table; from = h.from; made = h.made }

  pairs_on : (t : ℕ) → AtPairs setting c blocks lists owns e past t → AtPairs setting c blocks lists2 owns e past t
  pairs_on t h = record { here = at_on t h.here; home = h.home; root = h.root; none_left = h.none_left; none_joined = h.none_joined }

  -- what is reclaimed
  all_on : (f : List ℕ → List ℕ) (t : ℕ) → back_of setting c blocks lists owns ≡ back ++ f (from_table setting c blocks lists owns t)
      → back_of setting c blocks lists2 owns ≡ back ++ f (from_table setting c blocks lists2 owns t)
  all_on f t all = back_same setting c blocks lists lists2 owns shared ∙ all ∙ ap (λ (l : List ℕ). back ++ f l) (sym (from_same setting c blocks lists lists2 owns shared t))

  list_on : (word : ℕ) (l : List ℕ) → ((x : ℕ) → 0 < times x l → 0 < times x (wait_before setting c blocks lists owns past)) → ListFrom w.memory word l → ListFrom w2.memory word l
  list_on word l within h = list_led w.memory w2.memory word l (λ x on. links x (within x on)) h

  joined_on : IsJoined w.memory e.first e.last (wait_before setting c blocks lists owns past) → IsJoined w2.memory e.first e.last (wait_before setting c blocks lists2 owns past)
  joined_on (inl (none, zero_first)) = inl (same_before ∙ none, zero_first)
  joined_on (inr (done, p, is, last, there)) =
      inr (done, p, same_before ∙ is, last, list_on e.first (done ++ p ∷ []) (λ x on. subst (λ (l : List ℕ). 0 < times x l) (sym is) on) there)

  waiting_of : (t : ℕ) (l : List ℕ) → past ≡ suc t → wait_before setting c blocks lists owns (suc t) ≡ l → wait_before setting c blocks lists owns past ≡ l
  waiting_of t l is k = ap (wait_before setting c blocks lists owns) is ∙ k

  waiting_on : (t : ℕ) (l : List ℕ) → past ≡ suc t → wait_before setting c blocks lists owns (suc t) ≡ l → wait_before setting c blocks lists2 owns (suc t) ≡ l
  waiting_on t l is k = ap (wait_before setting c blocks lists2 owns) (sym is) ∙ same_before ∙ waiting_of t l is k

  within : (t : ℕ) (l : List ℕ) → past ≡ suc t → wait_before setting c blocks lists owns (suc t) ≡ l → (x : ℕ) → 0 < times x l → 0 < times x (wait_before setting c blocks lists owns past)
  within t l is k x on = subst (λ (m : List ℕ). 0 < times x m) (sym (waiting_of t l is k)) on

  joins_on : (t pair : ℕ) → past ≡ suc t → Joins setting c blocks lists owns w.memory e t back pair → Joins setting c blocks lists2 owns w2.memory e t back pair
  joins_on t pair is j = record {
    shared = j.shared;
    before = j.before;
    here = j.here;
    rest = j.rest;
    pair_is = j.pair_is;
    last_is = j.last_is;
    there = list_on e.first (j.before ++ j.here ∷ j.rest) (within t (j.before ++ j.here ∷ j.rest) is j.waiting) j.there;
    waiting = waiting_on t (j.before ++ j.here ∷ j.rest) is j.waiting;
    all = all_on (λ l. blocks.table t ∷ l) (suc t) j.all;
  }

  to_join_on : (t pair : ℕ) → past ≡ suc t → IsToJoin setting c blocks lists owns w.memory e t back pair → IsToJoin setting c blocks lists2 owns w2.memory e t back pair
  to_join_on t pair is j = record {
    shared = j.shared;
    before = j.before;
    here = j.here;
    first = j.first;
    rest = j.rest;
    last_is = j.last_is;
    there = list_on e.first (j.before ++ j.here ∷ []) (λ x on. in_both x (some_first x (j.before ++ j.here ∷ []) (j.first ∷ j.rest) on)) j.there;
    list_there = list_on pair (j.first ∷ j.rest) (λ x on. in_both x (some_last x (j.before ++ j.here ∷ []) (j.first ∷ j.rest) on)) j.list_there;
    waiting = waiting_on t ((j.before ++ j.here ∷ []) ++ j.first ∷ j.rest) is j.waiting;
    all = all_on (λ l. blocks.table t ∷ l) (suc t) j.all;
  }
    where
      in_both : (x : ℕ) → 0 < times x ((j.before ++ j.here ∷ []) ++ j.first ∷ j.rest) → 0 < times x (wait_before setting c blocks lists owns past)
      in_both = within t ((j.before ++ j.here ∷ []) ++ j.first ∷ j.rest) is j.waiting

  not_owned : {X : Type 0} → owns ≡ true → X
  not_owned owned = absurd (let s = shared in cc (owned, s))

  pub point_on : (stage : Ending) → EndingFacts setting c blocks lists owns caller hash w e past back stage → EndingFacts setting c blocks lists2 owns caller hash w2 e past back stage
  point_on at.Reads h = h
  point_on at.Words (t, here, inside, all) =
      (t, pairs_on t here, inside, all_on (λ l. map blocks.pair (pairs_from (is_incremental setting.mode) c t e.place (c.len t - e.place) ++ pairs_behind (is_incremental setting.mode) c t) ++ l) c.first all)
  point_on (at.Takes pair) (t, n, here, inside, link, current, was, all) = (
    t,
    n,
    pairs_on t here,
    inside,
    link,
    current,
    was,
    all_on (λ l. blocks.pair n ∷ map blocks.pair (pairs_from (is_incremental setting.mode) c t (suc e.place) (c.len t - suc e.place) ++ pairs_behind (is_incremental setting.mode) c t) ++ l) c.first all,
  )
  point_on at.Nexts (t, here, all) = (t, pairs_on t here, all_on (λ l. map blocks.pair (pairs_behind (is_incremental setting.mode) c t) ++ l) c.first all)
  point_on at.Carries (here, joined, all) = (at_on past here, joined_on joined, all_on (λ l. l) past all)
  point_on (at.Joins pair) (t, here, is, j) = (t, at_on t here, is, to_join_on t pair is j)
  point_on (at.Follows pair) (t, here, is, inl (q, rest, link, g)) = not_owned g.owned
  point_on (at.Follows pair) (t, here, is, inr j) = (t, at_on t here, is, inr (joins_on t pair is j))
  point_on (at.Gives pair next) (t, here, is, q, rest, link, g, there) = not_owned g.owned
  point_on at.Afters (t, here, is, joined, all) = (t, at_on t here, is, joined_on joined, all_on (λ l. blocks.table t ∷ l) past all)
  point_on (at.Drops next) (t, here, is, link, joined, all) = (t, at_on t here, is, link, joined_on joined, all_on (λ l. blocks.table t ∷ l) past all)
  point_on at.Shards (is, joined, all) = (is, joined_on joined, back_same setting c blocks lists lists2 owns shared ∙ all)
  point_on at.Sets (is, joined, all) = (is, joined_on joined, back_same setting c blocks lists lists2 owns shared ∙ all)
  point_on at.Frees (is, none, all) = (is, same_before ∙ none, back_same setting c blocks lists lists2 owns shared ∙ all)
  point_on at.Over h = h

-- The facts, in a second world that came about from the start: what its tables carry there is what is behind them there.
module _ {K V : Type 0} (same : K → K → Bool) (hash : K → ℕ) (are : AreLawful same hash) (setting : Setting) (c : Chart K) (blocks : Blocks) (lists : ℕ → List ℕ) (owns : Bool) (shared : owns ≡ false) (caller : ℕ)
    (w0 : World (Node K V)) (may : BeganIn setting c blocks lists owns same hash w0) (w w2 : World (Node K V)) (past : ℕ) (back : List ℕ)
    (came : CameAbout setting.batch_size w2) (alone : IsLeftAlone setting c blocks lists owns w w2 past back) where
  reached : Reached deferred_word setting.batch_size w2
  reached = came_reached setting.batch_size w2 came

  module _ (since : Since setting c blocks lists owns caller w0 w past back) where
    -- what a table carries now, if it isn't left over
    abbrev Carries : ℕ → List ℕ → Type 0
    Carries t l = c.first ≤ t → past ≤ t → t < c.past → times (blocks.table t) back ≡ 0 → HasDeferred w2 (blocks.table t) l

    abbrev Now : ℕ → Type 0
    Now t = (l : List ℕ) × (t < past → l ≡ lists t) × Carries t l

    behind_now : (t : ℕ) → c.first ≤ t → past ≤ t → t < c.past → times (blocks.table t) back ≡ 0 → (l : List ℕ) × HasDeferred w2 (blocks.table t) l
    behind_now t from later made fresh =
        let s = (alone.tables t from made fresh).0 in
        let used : w2.hand (blocks.table t) ≡ InUse setting.counter = s.hand ∙ ((since.tables t from made fresh).used later).0 in
        let value : value_at w2.memory (blocks.table t) ≡ Some (node.Table (c.len t) (c.limit t) t) = s.value ∙ table_value same hash are setting c blocks lists owns caller w0 may w past back since t from made fresh in
        let k = behind_it deferred_word w2 reached.good (blocks.table t) (λ j onto. alone.tables_onto t j from later made fresh onto) setting.counter used (node.Table (c.len t) (c.limit t) t) value in
        (k.blocks, record { are = k.are; once = k.once; theirs = k.theirs; all = k.all })

    not_here : (t : ℕ) → past ≤ t → (c.first ≤ t → t < c.past → times (blocks.table t) back ≡ 0 → ⊥) → Now t
    not_here t later none = ([], λ before. absurd (omega (arith, before, later)), λ from l made fresh. absurd (none from made fresh))

    now_at : (t : ℕ) → (t < past) ⊎ (past ≤ t) → (t < c.past) ⊎ (c.past ≤ t) → (t < c.first) ⊎ (c.first ≤ t) → (k : ℕ) → times (blocks.table t) back ≡ k → Now t
    now_at t (inl before) made from k e = (lists t, λ l. refl, λ f later m fresh. absurd (omega (arith, before, later)))
    now_at t (inr later) (inr over) from k e = not_here t later (λ f m fresh. omega (arith, m, over))
    now_at t (inr later) (inl made) (inl early) k e = not_here t later (λ f m fresh. omega (arith, f, early))
    now_at t (inr later) (inl made) (inr from) (suc k) e = not_here t later (λ f m fresh. omega (arith, fresh, e))
    now_at t (inr later) (inl made) (inr from) zero e =
        let k = behind_now t from later made e in (k.0, λ before. absurd (omega (arith, before, later)), λ f l m fresh. k.1)

    now : (t : ℕ) → Now t
    now t = now_at t (cases_lt t past) (cases_lt t c.past) (cases_lt t c.first) (times (blocks.table t) back) refl

    lists_now : ℕ → List ℕ
    lists_now t = (now t).0

    before_now : (t : ℕ) → t < past → lists_now t ≡ lists t
    unfolding lists_now
    before_now t before = (now t).1 before

    lasts : Lasts setting c blocks owns caller w0 w w2 past lists lists_now back
    unfolding lists_now
    lasts = record {
      tables = alone.tables;
      pairs = alone.pairs;
      counter = alone.counter;
      tables_onto = alone.tables_onto;
      pairs_onto = alone.pairs_onto;
      carries = λ t from later made fresh. (now t).2 from later made fresh;
      waits = λ x on. (alone.waits x on).0;
      free = λ owned. absurd (let s = shared in cc (owned, s));
    }

    waits_same : wait_before setting c blocks lists_now owns past ≡ wait_before setting c blocks lists owns past
    waits_same = before_same setting c blocks lists lists_now owns past (λ t from before. before_now t before)

    since_lasts : Since setting c blocks lists_now owns caller w0 w2 past back
    since_lasts = since_on setting c blocks owns caller w0 w w2 past lists lists_now back back lasts waits_same (λ x none. none) since

  -- The promise: the facts hold there, by what tables carry there; what was left over with earlier ones is the same.
  pub facts_last : (e : EndMap) → EndFacts setting c blocks lists owns caller hash w0 w e past back
      → (lists2 : ℕ → List ℕ) × ((t : ℕ) → t < past → lists2 t ≡ lists t) × BeganIn setting c blocks lists2 owns same hash w0
      × (wait_before setting c blocks lists2 owns past ≡ wait_before setting c blocks lists owns past) × EndFacts setting c blocks lists2 owns caller hash w0 w2 e past back
  facts_last e f = (
    lists_now f.since,
    before_now f.since,
    record { map = may.map; counter = may.counter; owned = λ owned. absurd (let s = shared in cc (owned, s)) },
    waits_same f.since,
    record {
      setting_is = f.setting_is;
      owns_is = f.owns_is;
      since = since_lasts f.since;
      root = root_on hash setting c blocks w.memory w2.memory alone.root.0 alone.root.1 e.stands f.root;
      point = point_on hash setting c blocks lists (lists_now f.since) owns shared caller w w2 e past back (waits_same f.since) (λ x on. (alone.waits x on).1) e.stands f.point;
    },
  )
