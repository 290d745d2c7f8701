-- What is so of a table that a sweep goes over: it is not aborted, what is marked in it has a table behind, and what stands unmarked is in the map.
use Rattle.std.specs.Prelude.{◌≡◌, ◌≢◌, ℕ, suc, ◌^◌, ◌<◌, ◌≤◌, Bool, true, false, cond, ◌⊎◌}
use Rattle.std.proofs.Common.{refl, ap, ◌∙◌, inl, inr, sym, subst, arith}
use Rattle.std.proofs.lemmas.Bool.{cases_lt}
use Rattle.map_facts.specs.Given.SeizeWordsWord.{block_in}
use Rattle.map_facts.specs.Given.SeizeWorld.{World}
use Rattle.map_facts.specs.Given.TablesChunks.{is_incremental}
use Rattle.map_facts.specs.Given.TablesDeclared.node.Node.{Node}
use Rattle.map_facts.specs.Given.TablesDeclared.setting.Setting.{Setting}
use Rattle.map_facts.specs.Given.TablesDeclared.status.TheConstants.Status.{ABORTED}
use Rattle.map_facts.specs.Given.RuleChart.{Phase, Still, Share, Free, Holds, Chart, is_marked}
use Rattle.map_facts.specs.Given.RuleRule.{IsLawful, Rule, Agrees}
use Rattle.map_facts.specs.Given.RuleMoves.{Removes, after, MayChange}
use Rattle.map_facts.specs.Given.RuleWords.{Blocks, byte_of, place_word}
use Rattle.map_facts.specs.Given.RuleMaps.{spot_of}
use Rattle.map_facts.specs.Given.RuleInWorld.{IsMapIn}
use Rattle.map_facts.proofs.Given.RuleMoves.Shuts.{past_shut}
use Rattle.map_facts.proofs.Given.RuleWords.PlaceWords.{pair_block}
use Rattle.map_facts.proofs.Given.RuleWords.PlacesShown.{byte_of-few}
use Rattle.map_facts_late.specs.Left.{Entered}
use Rattle.map_facts_late.specs.FactsSweeps.{WasRoot}

module _ {K : Type 0} (same : K → K → Bool) (hash : K → ℕ) (c : Chart K) (began : ℕ) where
  -- in this mode
  abbrev pub WasRootIn : ℕ → Bool → Type 0
  WasRootIn t b = cond b (t ≤ c.first) (Entered c began t)

  module _ (t : ℕ) where
    pub upto_in : (b : Bool) → WasRootIn t b → t ≤ c.first
    upto_in true h = h
    upto_in false (inl h) = omega (arith, h)
    upto_in false (inr h) = let behind = h.behind in omega (arith, behind)

    pub live_in : (b : Bool) → Rule same (spot_of hash) b c → WasRootIn t b → c.status t ≢ ABORTED
    live_in true rule h = rule.in_mode.never_aborted t
    live_in false rule (inl h) = subst (λ (x : ℕ). c.status x ≢ ABORTED) (sym h) rule.common.live
    live_in false rule (inr h) = h.was_root

    -- where a place is marked, a table stands behind
    marked_root : (b : Bool) → Rule same (spot_of hash) b c → (i : ℕ) → i < c.len c.first → is_marked (c.place c.first i) ≡ true → suc c.first < c.past
    marked_root true rule i inside marked = by (cases_lt (suc c.first) c.past)
      where
        by : (suc c.first < c.past) ⊎ (c.past ≤ suc c.first) → suc c.first < c.past
        by (inl l) = l
        by (inr none) =
            let agrees : Agrees Free (c.place c.first i) =
            subst (λ (s : Share). Agrees s (c.place c.first i)) (rule.common.unshared (suc c.first) i none) (rule.in_mode.shares i inside) in
            absurd (cc (agrees, marked))
    marked_root false rule i inside marked = rule.in_mode.marked_has_next i marked

    pub has_next : (b : Bool) → Rule same (spot_of hash) b c → t < c.past → t ≤ c.first → (i : ℕ) → i < c.len t → is_marked (c.place t i) ≡ true → suc t < c.past
    has_next b rule made upto i inside marked = by (cases_lt t c.first)
      where
        by : (t < c.first) ⊎ (c.first ≤ t) → suc t < c.past
        by (inl l) = let root = rule.common.rooted (omega (arith, made)) in omega (arith, l, root)
        by (inr l) =
            let is : t ≡ c.first = omega (arith, l, upto) in
            subst (λ (x : ℕ). suc x < c.past) (sym is)
            (marked_root b rule i (subst (λ (x : ℕ). i < c.len x) is inside) (subst (λ (x : ℕ). is_marked (c.place x i) ≡ true) is marked))

    -- what stands unmarked stands in the root
    pub root_is : (b : Bool) → Rule same (spot_of hash) b c → t ≤ c.first → c.status t ≢ ABORTED → (i n : ℕ) (borrowed : Bool) → i < c.len t → c.place t i ≡ Holds n Still borrowed → t ≡ c.first
    root_is b rule upto live i n borrowed inside stands = at (cases_lt t c.first)
      where
        by : (x : Bool) → Rule same (spot_of hash) x c → t < c.first → ⊥
        by true r l = let settled = r.in_mode.settled t i l inside in cc (settled, stands)
        by false r l = let marked = r.in_mode.left t i l live inside in cc (marked, stands)

        at : (t < c.first) ⊎ (c.first ≤ t) → t ≡ c.first
        at (inl l) = absurd (by b rule l)
        at (inr l) = omega (arith, l, upto)

  -- and is in the map
  pub still_current : (b : Bool) → Rule same (spot_of hash) b c → (i n : ℕ) (borrowed : Bool) → c.place c.first i ≡ Holds n Still borrowed → c.current n ≡ true
  still_current true rule i n borrowed stands = rule.common.is_current c.first i n Still borrowed stands (λ e. cc e) (omega arith)
  still_current false rule i n borrowed stands = rule.common.is_current c.first i n Still borrowed stands (λ e. cc e) refl

  -- its key may change there
  pub may_change : IsLawful same (spot_of hash) → (b : Bool) → Rule same (spot_of hash) b c → (k : K) → MayChange same (spot_of hash) b c c.first k
  may_change lawful true rule k = λ u l. past_shut same (spot_of hash) lawful c rule u l k
  may_change lawful false rule k = refl

  -- a table that was the root's was so after a pair was removed, too
  pub root_less : (u i t : ℕ) (mode b : Bool) → WasRootIn t b → cond b (t ≤ c.first) (Entered (after (spot_of hash) mode (Removes u i) c) began t)
  root_less u i t mode true h = h
  root_less u i t mode false (inl h) = inl h
  root_less u i t mode false (inr h) = inr (record { behind = h.behind; was_root = h.was_root; since = h.since })

module _ {K V : Type 0} (same : K → K → Bool) (hash : K → ℕ) (caller : ℕ) (setting : Setting) (w : World (Node K V)) (c : Chart K) (blocks : Blocks) (began : ℕ)
    (map : IsMapIn same hash setting w c blocks) where
  -- the root is one
  pub first_was : WasRoot same hash w caller setting c blocks began c.first
  first_was = by (is_incremental setting.mode)
    where
      by : (b : Bool) → WasRootIn same hash c began c.first b
      by true = omega arith
      by false = inl refl

  pub upto : (t : ℕ) → WasRoot same hash w caller setting c blocks began t → t ≤ c.first
  upto t root = upto_in same hash c began t (is_incremental setting.mode) root

  pub live : (t : ℕ) → WasRoot same hash w caller setting c blocks began t → c.status t ≢ ABORTED
  live t root = live_in same hash c began t (is_incremental setting.mode) map.map.rule root

-- the word of a place with a pair names a block
pub pair_some : {K V : Type 0} (same : K → K → Bool) (hash : K → ℕ) → ((k : K) → hash k < 2 ^ 64) → (setting : Setting) (w : World (Node K V)) (c : Chart K) (blocks : Blocks) → IsMapIn same hash setting w c blocks
    → (t i : ℕ) → t < c.past → blocks.table_known t ≡ true → (n : ℕ) (phase : Phase) (borrowed : Bool) → c.place t i ≡ Holds n phase borrowed
    → {word : ℕ} → word ≡ place_word hash c blocks (c.place t i) → block_in word ≢ 0
pair_some same hash fits setting w c blocks map t i made known n phase borrowed e {word} is zero =
    let known_pair = map.map.shows.named t i n phase borrowed made known e in
    let some = (map.map.shows.pair_numbers n (map.map.rule.common.keyed t i n phase borrowed e).0 known_pair).0 in
    let block : block_in word ≡ blocks.pair n =
    ap block_in (is ∙ ap (place_word hash c blocks) e) ∙ pair_block blocks.pair (λ o. byte_of hash (c.key o)) n phase borrowed (byte_of-few hash fits (c.key n)) in
    omega (arith, zero, some, block)
