-- The tries of a hash at the last table meet no more pairs than the map has.
use Rattle.std.specs.Prelude.{◌==◌, if◌then◌else◌, nat_lt, IfSome}
use Rattle.std.proofs.Common.{◌≡◌, ◌≢◌, ℕ, suc, ◌+◌, ◌-◌, ◌%◌, ◌^◌, ◌<◌, ◌≤◌, Bool, true, false, cond, Option, Some, None, inl, inr, refl, ap, sym, subst, ◌∙◌, arith}
use Rattle.std.proofs.lemmas.Bool.{cases_eq, true≢false}
use Rattle.many_maps.specs.Given.SeizeWordsMem.{Mem, word_at}
use Rattle.many_maps.specs.Given.SeizeWordsWord.{block_in}
use Rattle.many_maps.specs.Given.TablesChunks.{is_incremental}
use Rattle.many_maps.specs.Given.TablesLengths.{IsTableLen}
use Rattle.many_maps.specs.Given.TablesProbes.{place_at, probe_after}
use Rattle.many_maps.specs.Given.TablesTablePlaces.{at_place}
use Rattle.many_maps.specs.Given.TablesTrials.{with_met, next_trial}
use Rattle.many_maps.specs.Given.TablesDeclared.node.Node.{Node}
use Rattle.many_maps.specs.Given.TablesDeclared.resize_mode.ResizeMode.{ResizeMode}
use Rattle.many_maps.specs.Given.TablesDeclared.status.TheConstants.Status.{ABORTED}
use Rattle.many_maps.specs.Given.TablesDeclared.table.Table.{Table}
use Rattle.many_maps.specs.Given.TablesDeclared.trial.Trial.{Trial}
use Rattle.many_maps.specs.Given.RawDeclared.machines.call.KeyCall.{KeyCall}
use Rattle.many_maps.proofs.Given.TablesPlaces.{has_distinct_places}
use Rattle.many_maps.proofs.Given.TablesTableLens.{go_by_the_counter}
use Rattle.many_maps.specs.Given.RuleChart.{Phase, Copied, Place, Empty, Tombstone, Holds, Share, Chart, is_marked}
use Rattle.many_maps.specs.Given.RuleRule.{IsLawful, Agrees, Rule, is_of}
use Rattle.many_maps.specs.Given.RuleWords.{Blocks, word_of, byte_of, place_word}
use Rattle.many_maps.specs.Given.RuleMaps.{spot_at, spot_of, IsMap, IsTable}
use Rattle.many_maps.proofs.Given.RuleKeys.TriesSeen.{spot_inside}
use Rattle.many_maps.proofs.Given.RuleWords.TablesSeen.{place_there}
use Rattle.owner_facts.specs.Alone.Counting.{one_if, pairs_in}
use Rattle.owner_facts.specs.Alone.Met.{has_pair, met_in, MetPairsAreFew, TriesMeetPairs, names_block, words_met, WordsSayWhatStands, MeetsNoMore, GoesByTheCounterAlone, IsAtTry}
use Rattle.owner_facts.proofs.Alone.Shards.Fewer.{no_more}

-- what is not marked was not copied
uncopied : (place : Place) (n : ℕ) (phase : Phase) (borrowed : Bool) → is_marked place ≡ false → place ≡ Holds n phase borrowed → phase ≢ Copied
uncopied place n phase borrowed unmarked is copied =
    true≢false (sym (ap (λ (x : Place). is_marked x) is ∙ ap (λ (x : Phase). is_marked (Holds n x borrowed)) copied) ∙ unmarked)

module _ {K : Type 0} (same : K → K → Bool) (hash : K → ℕ) (lawful : IsLawful same (spot_of hash)) (c : Chart K) (t : ℕ) (last : suc t ≡ c.past) where
  -- in incremental mode, the last table is the root or behind it
  behind : Rule same (spot_of hash) true c → c.first ≤ t
  behind rule = let root = rule.common.rooted (omega (arith, last)) in omega (arith, last, root)

  -- and nothing is marked in it
  unmarked : Rule same (spot_of hash) true c → (i : ℕ) → i < c.len t → is_marked (c.place t i) ≡ false
  unmarked rule i inside =
      elim (cases_eq t c.first) as (λ _. is_marked (c.place t i) ≡ false) [
        | inl at_root ↦ subst (λ (x : ℕ). is_marked (c.place x i) ≡ false) (sym at_root) (agrees at_root)
        | inr later ↦ (let from = behind rule in rule.common.unmarked t i (omega (arith, from, later)))
      ]
    where
      agrees : t ≡ c.first → is_marked (c.place c.first i) ≡ false
      agrees at_root =
          subst (λ (s : Share). Agrees s (c.place c.first i)) (rule.common.unshared (suc c.first) i (omega (arith, last, at_root)))
          (rule.in_mode.shares i (subst (λ (x : ℕ). i < c.len x) at_root inside))

  -- no pair was copied from it
  stays : (b : Bool) → Rule same (spot_of hash) b c → (i n : ℕ) (phase : Phase) (borrowed : Bool) → i < c.len t → c.place t i ≡ Holds n phase borrowed → phase ≢ Copied
  stays true rule i n phase borrowed inside is = uncopied (c.place t i) n phase borrowed (unmarked rule i inside) is
  stays false rule i n phase borrowed inside is = (rule.in_mode.plain t i n phase borrowed is).0

  home : (b : Bool) → Rule same (spot_of hash) b c → (b ≡ false → t ≡ c.first) → cond b (c.first ≤ t) (t ≡ c.first)
  home true rule root = behind rule
  home false rule root = root refl

  kept : (b : Bool) → Rule same (spot_of hash) b c → (b ≡ false → t ≡ c.first) → c.status t ≢ ABORTED
  kept true rule root = rule.in_mode.never_aborted t
  kept false rule root = λ aborted. rule.common.live (subst (λ (x : ℕ). c.status x ≡ ABORTED) (root refl) aborted)

  module _ (b : Bool) (rule : Rule same (spot_of hash) b c) (root : b ≡ false → t ≡ c.first) (is_len : IsTableLen (c.len t)) (code : ℕ) where
    -- a pair stands at the place of a try
    abbrev MeetsAt : ℕ → ℕ → Type 0
    MeetsAt j n = (phase : Phase) × (borrowed : Bool) × (c.place t (spot_at (c.len t) code j) ≡ Holds n phase borrowed)

    -- that is one of the map
    meets : (j : ℕ) (place : Place) → c.place t (spot_at (c.len t) code j) ≡ place → has_pair place ≡ true → (n : ℕ) × (n < c.stored) × (c.current n ≡ true) × MeetsAt j n
    meets j (Empty marked) is e = absurd (true≢false (sym e))
    meets j (Tombstone marked) is e = absurd (true≢false (sym e))
    meets j (Holds n phase borrowed) is e =
        let inside = spot_inside (c.len t) code j (let least = is_len.least in omega (arith, least)) in (
          n,
          (rule.common.keyed t (spot_at (c.len t) code j) n phase borrowed is).0,
          rule.common.is_current t (spot_at (c.len t) code j) n phase borrowed is (stays b rule (spot_at (c.len t) code j) n phase borrowed inside is) (home b rule root),
          (phase, borrowed, is),
        )

    -- it stands at one place, which is that of one try
    one_try : (tries : ℕ) → tries ≤ c.len t → (j o n : ℕ) → j < tries → o < tries → MeetsAt j n → MeetsAt o n → j ≡ o
    one_try tries within j o n l m (phase, borrowed, is) (phase2, borrowed2, is2) =
        has_distinct_places code is_len.power.0 j o (let power = is_len.power.1 in omega (arith, l, within, power)) (let power = is_len.power.1 in omega (arith, m, within, power)) same_place
      where
        key : (k : K) × (c.key n ≡ Some k)
        key = let keyed = rule.common.keyed t (spot_at (c.len t) code j) n phase borrowed is in (keyed.1, keyed.2)

        of_class : is_of same (spot_of hash) b key.0 (c.key n) ≡ true
        of_class = ap (is_of same (spot_of hash) b key.0) key.1 ∙ lawful.classes.refl key.0

        same_spot : spot_at (c.len t) code j ≡ spot_at (c.len t) code o
        same_spot =
            rule.common.once t (spot_at (c.len t) code j) (spot_at (c.len t) code o) n n phase phase2 borrowed borrowed2 key.0 (kept b rule root) is is2 of_class of_class

        same_place : place_at code is_len.power.0 j ≡ place_at code is_len.power.0 o
        same_place = sym (ap (λ (x : ℕ). spot_at x code j) is_len.power.1) ∙ same_spot ∙ ap (λ (x : ℕ). spot_at x code o) is_len.power.1

    few : (tries : ℕ) → tries ≤ c.len t → met_in c code t tries ≤ pairs_in c
    few tries within =
        no_more MeetsAt (λ j. has_pair (c.place t (spot_at (c.len t) code j))) tries c.current c.stored
        (λ j l is. meets j (c.place t (spot_at (c.len t) code j)) refl is) (λ j o n l m a e. one_try tries within j o n l m a e)

pub met_pairs_are_few : {K : Type 0} (same : K → K → Bool) (hash : K → ℕ) (incremental : Bool) → MetPairsAreFew same hash incremental
met_pairs_are_few same hash incremental lawful c rule t last root is_len code tries within = few same hash lawful c t last incremental rule root is_len code tries within

-- the word of a place counts one at most, and that only where a pair stands
module _ (block byte : ℕ → ℕ) (met : ℕ) where
  counts_one : (place : Place) → (if block_in (word_of block byte place) == 0 then met else (met + 1) % 2 ^ 64) ≤ met + one_if (has_pair place)
  counts_one (Empty true) = omega arith
  counts_one (Empty false) = omega arith
  counts_one (Tombstone true) = omega arith
  counts_one (Tombstone false) = omega arith
  counts_one (Holds n phase borrowed) = by (block_in (word_of block byte (Holds n phase borrowed)) == 0)
    where
      by : (q : Bool) → (if q then met else (met + 1) % 2 ^ 64) ≤ met + 1
      by true = omega arith
      by false = omega arith

module _ {K : Type 0} (hash : K → ℕ) (c : Chart K) (blocks : Blocks) (code t : ℕ) where
  counts : (trial : Trial) (j : ℕ) → trial.met ≤ met_in c code t j
      → (with_met trial (place_word hash c blocks (c.place t (spot_at (c.len t) code j)))).met ≤ met_in c code t (suc j)
  counts trial j before =
      let one = counts_one blocks.pair (λ n. byte_of hash (c.key n)) trial.met (c.place t (spot_at (c.len t) code j)) in omega (arith, one, before)

-- the next try goes on with what was met
same_next : (trial : Trial) → IfSome (next_trial trial) (λ next. next.met ≡ trial.met)
same_next trial = by (nat_lt trial.probe.len trial.table.limit)
  where
    by : (q : Bool) → IfSome (if q then Some record { table = trial.table; probe = probe_after trial.probe (trial.table.len - 1); met = trial.met; most = trial.most } else None) (λ (next : Trial). next.met ≡ trial.met)
    by true = refl
    by false = tt

pub tries_meet_pairs : {K : Type 0} (hash : K → ℕ) → TriesMeetPairs hash
tries_meet_pairs hash c blocks code t = (λ table. omega arith, counts hash c blocks code t, same_next)

-- only the word of a pair names a block
names_pair : (block byte : ℕ → ℕ) (place : Place) → names_block (Some (word_of block byte place)) ≡ true → has_pair place ≡ true
names_pair block byte (Empty true) e = absurd (true≢false (sym e))
names_pair block byte (Empty false) e = absurd (true≢false (sym e))
names_pair block byte (Tombstone true) e = absurd (true≢false (sym e))
names_pair block byte (Tombstone false) e = absurd (true≢false (sym e))
names_pair block byte (Holds n phase borrowed) e = refl

module _ {K V : Type 0} (same : K → K → Bool) (hash : K → ℕ) (mode : ResizeMode) (root : ℕ) (m : Mem (Node K V)) (c : Chart K) (blocks : Blocks) (map : IsMap same hash mode root m c blocks)
    (table : Table) (t : ℕ) (is : IsTable c blocks table t) (code : ℕ) where
  there : (j : ℕ) → word_at m (at_place table (spot_at table.len code j)) ≡ Some (place_word hash c blocks (c.place t (spot_at (c.len t) code j)))
  there j =
      ap (λ (x : Table). word_at m (at_place table (spot_at x.len code j))) is.is
      ∙ place_there hash m c blocks root map.shows table t is (spot_at (c.len t) code j) (spot_inside (c.len t) code j (map.rule.common.lens t is.made).0)

  stands_there : (j : ℕ) → names_block (word_at m (at_place table (spot_at table.len code j))) ≡ true → has_pair (c.place t (spot_at (c.len t) code j)) ≡ true
  stands_there j named =
      names_pair blocks.pair (λ n. byte_of hash (c.key n)) (c.place t (spot_at (c.len t) code j)) (subst (λ (o : Option ℕ). names_block o ≡ true) (there j) named)

  words_few : (tries : ℕ) → words_met m table code tries ≤ met_in c code t tries
  words_few tries =
      no_more (λ j o. j ≡ o) (λ j. names_block (word_at m (at_place table (spot_at table.len code j)))) tries (λ j. has_pair (c.place t (spot_at (c.len t) code j))) tries
      (λ j l named. (j, l, stands_there j named, refl)) (λ j o n l k a e. a ∙ sym e)

pub words_say : {K : Type 0} (V : Type 0) (same : K → K → Bool) (hash : K → ℕ) → WordsSayWhatStands V same hash
words_say V same hash mode root m c blocks map table t is code tries = words_few same hash mode root m c blocks map table t is code tries

pub goes_by_the_counter : (K : Type 0) → GoesByTheCounterAlone K
goes_by_the_counter K c trial len initial few = go_by_the_counter trial.met trial.most len (pairs_in c) initial few

pub meets_no_more : {K : Type 0} (V Q : Type 0) (same : K → K → Bool) (hash : K → ℕ) → MeetsNoMore V Q same hash
meets_no_more V Q same hash lawful mode root m c blocks map p t is last at_root is_len met =
    let words = words_few same hash mode root m c blocks map p.trial.table t is p.hash (suc p.trial.table.limit) in
    let pairs = met_pairs_are_few same hash (is_incremental mode) lawful c map.rule t last at_root is_len p.hash (suc p.trial.table.limit) within in
    omega (arith, met, words, pairs)
  where
    limit_is : p.trial.table.limit ≡ c.limit t
    limit_is = ap (λ (x : Table). x.limit) is.is

    within : suc p.trial.table.limit ≤ c.len t
    within = let low = (map.rule.common.lens t is.made).1 in omega (arith, low, limit_is)

-- what is known of a try, by the call alone
module _ {K V Q : Type 0} where
  abbrev pub AtSpot : KeyCall K V Q → Type 0
  AtSpot p = (p.trial.probe.i ≡ spot_at p.trial.table.len p.hash p.trial.probe.len) × (p.trial.probe.len ≤ p.trial.table.limit) × (p.trial.table.limit < 2 ^ 64)

  pub at_spot_of : (c : Chart K) (blocks : Blocks) (p : KeyCall K V Q) → IsAtTry c blocks p → AtSpot p
  at_spot_of c blocks p (t, j, trial, is_len, low) = (place, within, few)
    where
      len_is : p.trial.table.len ≡ c.len t
      len_is = ap (λ (x : Table). x.len) trial.table.is

      limit_is : p.trial.table.limit ≡ c.limit t
      limit_is = ap (λ (x : Table). x.limit) trial.table.is

      place : p.trial.probe.i ≡ spot_at p.trial.table.len p.hash p.trial.probe.len
      place = trial.place ∙ ap (λ (n : ℕ). spot_at n p.hash j) (sym len_is) ∙ ap (λ (n : ℕ). spot_at p.trial.table.len p.hash n) (sym trial.try)

      within : p.trial.probe.len ≤ p.trial.table.limit
      within = let try = trial.try in let most = trial.most in omega (arith, try, most, limit_is)

      few : p.trial.table.limit < 2 ^ 64
      few = let most = is_len.most in omega (arith, most, low, limit_is)
