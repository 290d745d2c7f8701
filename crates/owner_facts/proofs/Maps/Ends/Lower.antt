-- A step of the end of a map that is not its last leads to a lower number.
use Rattle.std.specs.Prelude.{◌-◌, ◌%◌, ◌^◌, ◌==◌, ◌&&◌, not, Some, None, IsSome, nat_lt, map, if◌then◌else◌}
use Rattle.std.proofs.Common.{◌≡◌, ℕ, suc, ◌+◌, ◌*◌, ◌/◌, ◌<◌, ◌≤◌, Bool, true, false, List, [], ◌∷◌, ◌++◌, ◌⊎◌, length, inl, inr, refl, arith, ap, sym, subst, ◌∙◌}
use Rattle.std.proofs.Math.Nat.{mul-le-mul_right}
use Rattle.std.proofs.lemmas.Bool.{cases_lt}
use Rattle.std.proofs.lemmas.List.{length-append}
use Rattle.many_maps.specs.Given.SeizeWordsDeclared.at.At.{At}
use Rattle.many_maps.specs.Given.SeizeWordsDeclared.at.At.TheVariants.{Root, Used, Entry, Word}
use Rattle.many_maps.specs.Given.SeizeWordsOp.{Found, Taken}
use Rattle.many_maps.specs.Given.SeizeWordsMem.{Mem, Can, Took, block_of, value_at, word_at, with_word, with_block}
use Rattle.many_maps.specs.Given.SeizeWordsPlan.{Now, Seeing, May, Steps, Ends}
use Rattle.many_maps.proofs.Given.SeizeWordsOneOwner.Operations.{loaded, stored, taken}
use Rattle.many_maps.proofs.Given.SeizeWordsPlans.{ends_if}
use Rattle.many_maps.specs.Given.SeizeAloneAlone.{blocks_in}
use Rattle.many_maps.specs.Given.SeizeDeclared.rows.settle.Settled.{Settled}
use Rattle.many_maps.specs.Given.SeizeDeclared.rows.settle.Settled.TheVariants as settled
use Rattle.many_maps.specs.Given.SeizeDeclared.states.TheConstants.{NEXT as LINK}
use Rattle.many_maps.specs.Given.SeizeFurther.{ListFrom}
use Rattle.many_maps.specs.Given.SeizeWorld.{World, times}
use Rattle.many_maps.proofs.Given.SeizeAloneSpared.Fewer.{take_fewer, plan_fewer}
use Rattle.many_maps.proofs.Given.SeizeRuleWords.Kept.{IsQuietPlan}
use Rattle.many_maps.specs.Given.TablesNodes.{table_seen}
use Rattle.many_maps.specs.Given.TablesChunks.{is_incremental}
use Rattle.many_maps.specs.Given.RawEndMap.{standing, next_place, is_current, root_read, word_read, given_back, next_read, list_read, follower_read, after_read, dropped, plan_at, end_map_plan}
use Rattle.many_maps.specs.Given.TablesDeclared.node.Node.{Node}
use Rattle.many_maps.specs.Given.TablesDeclared.node.Node.TheVariants as node
use Rattle.many_maps.specs.Given.TablesDeclared.setting.Setting.{Setting}
use Rattle.many_maps.specs.Given.TablesDeclared.table.Table.{Table}
use Rattle.many_maps.specs.Given.TablesDeclared.table_words.TheConstants.{NEXT, DEFERRED, PLACES}
use Rattle.many_maps.specs.Given.RawDeclared.machines.end_map.EndMap.{EndMap}
use Rattle.many_maps.specs.Given.RawDeclared.machines.end_map.Ending.{Ending}
use Rattle.many_maps.specs.Given.RawDeclared.machines.end_map.Ending.TheVariants as at
use Rattle.many_maps.specs.Given.RuleChart.{Chart}
use Rattle.many_maps.specs.Given.RuleWords.{Blocks, next_word}
use Rattle.many_maps.specs.Given.PointsSteps.{AreLawful}
use Rattle.many_maps.specs.Given.PointsMeasures.{IsBelow}
use Rattle.many_maps.proofs.Given.RuleWords.TablesSeen.{block_of_link}
use Rattle.owner_facts.specs.Maps.EndingsEnds.{HasMore}
use Rattle.many_maps.specs.FactsEnds.{Gives, Joins, BeganIn, AtPairs, EndingFacts, EndFacts, RootAt, back_of, from_table, wait_before}
use Rattle.many_maps.specs.Orders.{pairs_behind}
use Rattle.owner_facts.specs.Maps.MeasuresEnds.{stage, list_len, most_blocks, tables_left, steps_left, numbers_at, in_one, end_map_left}
use Rattle.owner_facts.proofs.Maps.Ends.BlocksFew.{blocks_few, most_taken, most_written, list_few, range_few, list_len_few, list_len_is}
use Rattle.many_maps.proofs.Ends.Known.{table_value}
use Rattle.many_maps.proofs.Ends.Memory.{list_link}
use Rattle.many_maps.proofs.Ends.Pairs.{NextIs, later_fresh, next_there, next_is, next_seen}
use Rattle.many_maps.proofs.Given.General.{same_some, some_is as is_some_of}
use Rattle.owner_facts.proofs.Descends.Lists.{entry_value}
use Rattle.owner_facts.proofs.Descends.Points.{fewer}

-- a list from one of its blocks on
list_on : {T : Type 0} (m : Mem T) (word b : ℕ) (before rest : List ℕ) → ListFrom m word (before ++ b ∷ rest) → ListFrom m (b * 2048) (b ∷ rest)
list_on m word b [] rest h = (h.0, h.1, refl, h.3, h.4)
list_on m word b (x ∷ before) rest h = list_on m h.0 b before rest h.4

-- a number of a higher place counts more than all below it
above : (x y u v n : ℕ) → x < y → u < n → x * n + u < y * n + v
above x y u v n less few = let a = mul-le-mul_right n (le_of x y less) in omega (arith, a, few)
  where
    le_of : (x y : ℕ) → x < y → suc x ≤ y
    le_of x y l = omega (arith, l)

below_here : (x y u v n : ℕ) → x ≡ y → u < v → x * n + u < y * n + v
below_here x y u v n is less = let a = ap (λ (z : ℕ). z * n) is in omega (arith, a, less)

-- lower numbers make a lower one
pub lower_in_one : (most b2 s2 t2 p2 b s t p : ℕ) → s2 < 9 → t2 ≤ most → p2 < most + 2 ^ 49 → IsBelow (b2 ∷ s2 ∷ t2 ∷ p2 ∷ []) (b ∷ s ∷ t ∷ p ∷ []) → in_one most b2 s2 t2 p2 < in_one most b s t p
lower_in_one most b2 s2 t2 p2 b s t p few_s few_t few_p (inl less) =
    above _ _ p2 p (most + 2 ^ 49) (above (b2 * 9 + s2) (b * 9 + s) t2 t (suc most) (omega (arith, less, few_s)) (omega (arith, few_t))) few_p
lower_in_one most b2 s2 t2 p2 b s t p few_s few_t few_p (inr (same_b, inl less)) =
    above _ _ p2 p (most + 2 ^ 49) (above (b2 * 9 + s2) (b * 9 + s) t2 t (suc most) (omega (arith, same_b, less)) (omega (arith, few_t))) few_p
lower_in_one most b2 s2 t2 p2 b s t p few_s few_t few_p (inr (same_b, inr (same_s, inl less))) =
    above _ _ p2 p (most + 2 ^ 49) (below_here (b2 * 9 + s2) (b * 9 + s) t2 t (suc most) (omega (arith, same_b, same_s)) less) few_p
lower_in_one most b2 s2 t2 p2 b s t p few_s few_t few_p (inr (same_b, inr (same_s, inr (same_t, inl less)))) =
    below_here _ _ p2 p (most + 2 ^ 49) (same_head (b2 * 9 + s2) (b * 9 + s) t2 t (suc most) (omega (arith, same_b, same_s)) same_t) less
  where
    same_head : (x y u v n : ℕ) → x ≡ y → u ≡ v → x * n + u ≡ y * n + v
    same_head x y u v n e f = cc (e, f)
lower_in_one most b2 s2 t2 p2 b s t p few_s few_t few_p (inr (same_b, inr (same_s, inr (same_t, inr (same_p, none))))) = absurd none

-- few stages
few_stages : (spot : Ending) → stage spot < 9
few_stages at.Reads = omega arith
few_stages at.Words = omega arith
few_stages (at.Takes pair) = omega arith
few_stages at.Nexts = omega arith
few_stages at.Carries = omega arith
few_stages (at.Joins pair) = omega arith
few_stages (at.Follows pair) = omega arith
few_stages (at.Gives pair next) = omega arith
few_stages at.Afters = omega arith
few_stages (at.Drops next) = omega arith
few_stages at.Shards = omega arith
few_stages at.Sets = omega arith
few_stages at.Frees = omega arith
few_stages at.Over = omega arith

-- no step makes a block
quiet_at : (K V : Type 0) (e : EndMap) (spot : Ending) → IsQuietPlan (plan_at {K = K} {V = V} e spot)
quiet_at K V e at.Reads = tt
quiet_at K V e at.Words = tt
quiet_at K V e (at.Takes pair) = tt
quiet_at K V e at.Nexts = tt
quiet_at K V e at.Carries = tt
quiet_at K V e (at.Joins pair) = tt
quiet_at K V e (at.Follows pair) = tt
quiet_at K V e (at.Gives pair next) = tt
quiet_at K V e at.Afters = tt
quiet_at K V e (at.Drops next) = tt
quiet_at K V e at.Shards = tt
quiet_at K V e at.Sets = tt
quiet_at K V e at.Frees = tt
quiet_at K V e at.Over = tt

-- what is ahead until a block is reclaimed
abbrev ahead : {T : Type 0} → Mem T → EndMap → Ending → List ℕ
ahead m e spot = stage spot ∷ tables_left m e spot ∷ steps_left m e spot ∷ []

-- it is less where the step led, or a block was reclaimed
abbrev Falls : {T : Type 0} → Mem T → EndMap → Ending → Mem T → EndMap × Settled T → Type 0
Falls m e spot m2 (e2, settled.Goes) = IsBelow (ahead m2 e2 e2.stands) (ahead m e spot)
Falls m e spot m2 (e2, settled.Waits) = Unit {0}
Falls m e spot m2 (e2, settled.Gave value) = blocks_in m2 < blocks_in m
Falls m e spot m2 (e2, settled.Done) = Unit {0}

module _ {K V : Type 0} (same : K → K → Bool) (hash : K → ℕ) (are : AreLawful same hash) (setting : Setting) (c : Chart K) (blocks : Blocks) (lists : ℕ → List ℕ) (owns : Bool) (caller : ℕ)
    (w0 : World (Node K V)) (may : BeganIn setting c blocks lists owns same hash w0) where
  module _ (w : World (Node K V)) (e : EndMap) (past : ℕ) (back : List ℕ) (f : EndFacts setting c blocks lists owns caller hash w0 w e past back) where
    abbrev To : Ending → Mem (Node K V) → EndMap × Settled (Node K V) → Type 0
    To spot m2 end = Falls w.memory e spot m2 end

    to : (spot : Ending) (m2 : Mem (Node K V)) (end other : EndMap × Settled (Node K V)) → end ≡ other → To spot m2 other → To spot m2 end
    to spot m2 end other is t = subst (λ (x : EndMap × Settled (Node K V)). To spot m2 x) (sym is) t

    -- a block was reclaimed
    gave : (spot : Ending) (m2 : Mem (Node K V)) (end : EndMap × Settled (Node K V)) (e2 : EndMap) (b : ℕ) (value given : Node K V) → value_at w.memory b ≡ Some given → m2 ≡ with_block w.memory b None
        → end ≡ (e2, settled.Gave value) → To spot m2 end
    gave spot m2 end e2 b value given there memory is =
        to spot m2 end (e2, settled.Gave value) is
        (subst (λ (x : Mem (Node K V)). blocks_in x < blocks_in w.memory) (sym memory) (take_fewer w.memory b (is_some_of (value_at w.memory b) given there)))

    root_falls : (root : ℕ) (end : EndMap × Settled (Node K V)) → Ends (value_at w.memory) (root_read e (Found root)) end → To at.Reads w.memory end
    root_falls root end ends =
        elim (ends_if (value_at w.memory) (root == 0) (Now (standing e at.Shards, settled.Goes))
        (Seeing (root / 2048) (λ value. Now (record e { root = table_seen root value; table = table_seen root value; stands = at.Words }, settled.Goes))) end ends) as (λ _. To at.Reads w.memory end) [
          | inl h ↦ to at.Reads w.memory end _ h.1 (inl (omega arith))
          | inr h ↦ to at.Reads w.memory end _ h.1.2 (inl (omega arith))
        ]

    place_falls : (end : EndMap × Settled (Node K V)) → end ≡ (next_place e, settled.Goes) → To at.Words w.memory end
    place_falls end is = to at.Words w.memory end _ is (by (nat_lt e.place (e.table.len - 1)) refl)
      where
        by : (b : Bool) → nat_lt e.place (e.table.len - 1) ≡ b → To at.Words w.memory (if b then record e { place = e.place + 1; stands = at.Words } else standing e at.Nexts, settled.Goes)
        by true l = inr (refl, inr (refl, inl (fewer e.place e.table.len l)))
        by false l = inr (refl, inr (refl, inl (omega arith)))

    word_falls : (word : ℕ) (end : EndMap × Settled (Node K V)) → Ends (value_at w.memory) (word_read e (Found word)) end → To at.Words w.memory end
    word_falls word end ends =
        elim (ends_if (value_at w.memory) (is_current e word) (Now (standing e (at.Takes word), settled.Goes)) (Now (next_place e, settled.Goes)) end ends) as (λ _. To at.Words w.memory end) [
          | inl h ↦ to at.Words w.memory end _ h.1 (inl (omega arith))
          | inr h ↦ place_falls end h.1
        ]

    -- a later table is the next one
    next_falls : (t : ℕ) (here : AtPairs setting c blocks lists owns e past t)
        (roots : RootAt hash setting c blocks w.memory at.Reads)
        (all : back_of setting c blocks lists owns ≡ back ++ (map blocks.pair (pairs_behind (is_incremental setting.mode) c t) ++ from_table setting c blocks lists owns c.first))
        (link : ℕ) → word_at w.memory (Word (e.table.link / 2048) NEXT) ≡ Some link → (end : EndMap × Settled (Node K V)) → Ends (value_at w.memory) (next_read e (Found link)) end → To at.Nexts w.memory end
    next_falls t here roots all link read end ends =
        elim (ends_if (value_at w.memory) (not (link == 0) && is_incremental e.setting.mode)
        (Seeing (link / 2048) (λ value. Now (record e { table = table_seen link value; place = 0; stands = at.Words }, settled.Goes))) (Now (record e { table = e.root; stands = at.Carries }, settled.Goes)) end ends)
        as (λ _. To at.Nexts w.memory end) [
          | inl h ↦ to at.Nexts w.memory end _ h.1.2 (inr (refl, inl (later (subst Is (same_some (next_word hash c blocks t) link (sym there ∙ read)) known) h.0 h.1.0 h.1.1)))
          | inr h ↦ to at.Nexts w.memory end _ h.1 (inl (omega arith))
        ]
      where
        there : word_at w.memory (Word (e.table.link / 2048) NEXT) ≡ Some (next_word hash c blocks t)
        there = next_there same hash are setting c blocks lists owns caller w0 may e f.setting_is f.owns_is past w back f.since roots t here all

        Is : ℕ → Type 0
        Is = NextIs same hash are setting c blocks lists owns caller w0 may e f.setting_is f.owns_is past w back f.since roots t here all

        known : Is (next_word hash c blocks t)
        known = next_is same hash are setting c blocks lists owns caller w0 may e f.setting_is f.owns_is past w back f.since roots t here all

        none : (x : ℕ) (b : Bool) → x ≡ 0 → (not (x == 0) && b) ≡ true → ⊥
        none x b z k = grind (arith, z, k)

        same_value : {x y : Node K V} → Some x ≡ Some y → x ≡ y
        same_value k = cc k

        -- each table has a block
        few : c.past - c.first ≤ blocks_in w.memory
        few = range_few w.memory blocks.table c.first (c.past - c.first) seen apart
          where
            made : (u : ℕ) → c.first ≤ u → u < c.first + (c.past - c.first) → u < c.past
            made u low high = omega (arith, low, high)

            seen : (u : ℕ) → c.first ≤ u → u < c.first + (c.past - c.first) → IsSome (value_at w.memory (blocks.table u))
            seen u low high =
                is_some_of (value_at w.memory (blocks.table u)) (node.Table (c.len u) (c.limit u) u)
                (table_value same hash are setting c blocks lists owns caller w0 may w past back f.since u low (made u low high)
                (later_fresh same hash are setting c blocks lists owns caller w0 may e f.setting_is f.owns_is past w back f.since roots t here all u low (made u low high)))

            apart : (u v : ℕ) → c.first ≤ u → u < c.first + (c.past - c.first) → c.first ≤ v → v < c.first + (c.past - c.first) → blocks.table u ≡ blocks.table v → u ≡ v
            apart u v low high low2 high2 =
                may.map.map.shows.tables_apart u v (made u low high) (made v low2 high2) (may.map.map.shows.linked u low (made u low high)) (may.map.map.shows.linked v low2 (made v low2 high2))

        later : Is link → (not (link == 0) && is_incremental e.setting.mode) ≡ true → (value : Node K V) → value_at w.memory (link / 2048) ≡ Some value
            → e.root.turn + most_blocks w.memory - (table_seen link value).turn < e.root.turn + most_blocks w.memory - e.table.turn
        later (inl over) some value seen = absurd (none link (is_incremental e.setting.mode) over.0 some)
        later (inr (is, made, other)) some value seen =
            let found = next_seen same hash are setting c blocks lists owns caller w0 may e f.setting_is f.owns_is past w back f.since roots t here all made in
            let value_is : value ≡ node.Table (c.len (suc t)) (c.limit (suc t)) (suc t) = same_value (sym seen ∙ ap (λ (x : ℕ). value_at w.memory (x / 2048)) is ∙ ap (value_at w.memory) (block_of_link (blocks.table (suc t))) ∙ found) in
            let turn_is : (table_seen link value).turn ≡ suc t = ap (λ (x : Node K V). (table_seen link x).turn) value_is in
            let from : e.table.turn ≡ t = ap (λ (x : Table). x.turn) here.here.table in
            let root_is : e.root.turn ≡ c.first = ap (λ (x : Table). x.turn) here.root in
            let most = blocks_few w.memory in
            omega (arith, turn_is, from, root_is, made, few, most)

    carries_falls : (pair : ℕ) (end : EndMap × Settled (Node K V)) → Ends (value_at w.memory) (list_read e (Found pair)) end → To at.Carries w.memory end
    carries_falls pair end ends =
        elim (ends_if (value_at w.memory) (pair == 0) (Now (standing e at.Afters, settled.Goes))
        (if e.owns then Now (standing e (at.Follows pair), settled.Goes) else
        (if e.first == 0 then Now (record e { first = pair; last = pair; stands = at.Follows pair }, settled.Goes) else Now (standing e (at.Joins pair), settled.Goes))) end ends) as (λ _. To at.Carries w.memory end) [
          | inl h ↦ to at.Carries w.memory end _ h.1 (inl (omega arith))
          | inr h ↦ owned h.1
        ]
      where
        shared : Ends (value_at w.memory) (if e.first == 0 then Now (record e { first = pair; last = pair; stands = at.Follows pair }, settled.Goes) else Now (standing e (at.Joins pair), settled.Goes)) end → To at.Carries w.memory end
        shared ends2 =
            elim (ends_if (value_at w.memory) (e.first == 0) (Now (record e { first = pair; last = pair; stands = at.Follows pair }, settled.Goes)) (Now (standing e (at.Joins pair), settled.Goes)) end ends2)
            as (λ _. To at.Carries w.memory end) [
              | inl h ↦ to at.Carries w.memory end _ h.1 (inl (omega arith))
              | inr h ↦ to at.Carries w.memory end _ h.1 (inl (omega arith))
            ]

        owned : Ends (value_at w.memory) (if e.owns then Now (standing e (at.Follows pair), settled.Goes) else
            (if e.first == 0 then Now (record e { first = pair; last = pair; stands = at.Follows pair }, settled.Goes) else Now (standing e (at.Joins pair), settled.Goes))) end → To at.Carries w.memory end
        owned ends2 =
            elim (ends_if (value_at w.memory) e.owns (Now (standing e (at.Follows pair), settled.Goes))
            (if e.first == 0 then Now (record e { first = pair; last = pair; stands = at.Follows pair }, settled.Goes) else Now (standing e (at.Joins pair), settled.Goes)) end ends2) as (λ _. To at.Carries w.memory end) [
              | inl h ↦ to at.Carries w.memory end _ h.1 (inl (omega arith))
              | inr h ↦ shared h.1
            ]

    -- a list that waits is no longer than there are blocks
    list_short : (before rest : List ℕ) (b : ℕ) → wait_before setting c blocks lists owns past ≡ before ++ b ∷ rest → ListFrom w.memory e.first (before ++ b ∷ rest)
        → length (b ∷ rest) ≤ most_blocks w.memory
    list_short before rest b waits list =
        let few = list_few w.memory (before ++ b ∷ rest) once (λ x on. entry_value (block_of w.memory x) LINK (list_link w.memory e.first x (before ++ b ∷ rest) list on)) in
        let long = length-append before (b ∷ rest) in let most = blocks_few w.memory in omega (arith, few, long, most)
      where
        once : (x : ℕ) → times x (before ++ b ∷ rest) ≤ 1
        once x = let a = f.since.once x in let k = ap (times x) waits in omega (arith, a, k)

    -- the list is shorter behind one of its blocks
    follows_falls : (pair : ℕ) → (e.owns ≡ false → (b : ℕ) × (rest : List ℕ) × ListFrom w.memory pair (b ∷ rest) × (length (b ∷ rest) ≤ most_blocks w.memory))
        → (next : ℕ) → word_at w.memory (Entry (pair / 2048) LINK) ≡ Some next → (end : EndMap × Settled (Node K V))
        → Ends (value_at w.memory) (follower_read e pair (Found next)) end → To (at.Follows pair) w.memory end
    follows_falls pair list next read end ends =
        elim (ends_if (value_at w.memory) e.owns (Now (standing e (at.Gives pair next), settled.Goes))
        (if next == 0 then Now (standing e at.Afters, settled.Goes) else Now (record e { last = next; stands = at.Follows next }, settled.Goes)) end ends) as (λ _. To (at.Follows pair) w.memory end) [
          | inl h ↦ to (at.Follows pair) w.memory end _ h.1 (inl (omega arith))
          | inr h ↦ shared (list h.0) h.1
        ]
      where
        shorter : (b : ℕ) × (rest : List ℕ) × ListFrom w.memory pair (b ∷ rest) × (length (b ∷ rest) ≤ most_blocks w.memory) → list_len w.memory next (most_blocks w.memory) < list_len w.memory pair (most_blocks w.memory)
        shorter (b, rest, there, few) =
            let block_is : pair / 2048 ≡ b = ap (λ (x : ℕ). x / 2048) there.2 ∙ block_of_link b in
            let next_is = same_some there.0 next (sym there.3 ∙ ap (λ (x : ℕ). word_at w.memory (Entry x LINK)) (sym block_is) ∙ read) in
            let long = list_len_is w.memory (most_blocks w.memory) pair (b ∷ rest) there few in
            let short = list_len_is w.memory (most_blocks w.memory) next rest (subst (λ (x : ℕ). ListFrom w.memory x rest) next_is there.4) (omega (arith, few)) in
            omega (arith, long, short)

        shared : (b : ℕ) × (rest : List ℕ) × ListFrom w.memory pair (b ∷ rest) × (length (b ∷ rest) ≤ most_blocks w.memory)
            → Ends (value_at w.memory) (if next == 0 then Now (standing e at.Afters, settled.Goes) else Now (record e { last = next; stands = at.Follows next }, settled.Goes)) end → To (at.Follows pair) w.memory end
        shared there ends2 =
            elim (ends_if (value_at w.memory) (next == 0) (Now (standing e at.Afters, settled.Goes)) (Now (record e { last = next; stands = at.Follows next }, settled.Goes)) end ends2)
            as (λ _. To (at.Follows pair) w.memory end) [
              | inl h ↦ to (at.Follows pair) w.memory end _ h.1 (inl (omega arith))
              | inr h ↦ to (at.Follows pair) w.memory end _ h.1 (inr (refl, inr (refl, inl (shorter there))))
            ]

    drops_falls : (next : ℕ) (m2 m3 : Mem (Node K V)) (value : Node K V) → value_at w.memory (e.table.link / 2048) ≡ Some value → m2 ≡ with_block w.memory (e.table.link / 2048) None
        → (end : EndMap × Settled (Node K V)) → Ends (value_at m3) (dropped e next (Taken value)) end → To (at.Drops next) m2 end
    drops_falls next m2 m3 value there memory end ends =
        elim (ends_if (value_at m3) (next == 0) (Now (standing e at.Shards, settled.Gave value))
        (Seeing (next / 2048) (λ other. Now (record e { table = table_seen next other; stands = at.Carries }, settled.Gave value))) end ends) as (λ _. To (at.Drops next) m2 end) [
          | inl h ↦ gave (at.Drops next) m2 end _ (e.table.link / 2048) value value there memory h.1
          | inr h ↦ gave (at.Drops next) m2 end _ (e.table.link / 2048) value value there memory h.1.2
        ]

    sets_falls : (m2 m3 : Mem (Node K V)) (end : EndMap × Settled (Node K V)) → Ends (value_at m3) (if e.first == 0 then Now (standing e at.Frees, settled.Goes) else Now (standing e at.Over, settled.Done)) end → To at.Sets m2 end
    sets_falls m2 m3 end ends =
        elim (ends_if (value_at m3) (e.first == 0) (Now (standing e at.Frees, settled.Goes)) (Now (standing e at.Over, settled.Done)) end ends) as (λ _. To at.Sets m2 end) [
          | inl h ↦ to at.Sets m2 end _ h.1 (inl (omega arith))
          | inr h ↦ to at.Sets m2 end _ h.1 tt
        ]

    -- the places for blocks stay, too
    abbrev Leaves : Mem (Node K V) → Type 0
    Leaves m2 = most_blocks m2 ≡ most_blocks w.memory

    still : (spot : Ending) (m2 : Mem (Node K V)) (end : EndMap × Settled (Node K V)) → m2 ≡ w.memory → To spot w.memory end → To spot m2 end × Leaves m2
    still spot m2 end is t = (subst (λ (x : Mem (Node K V)). To spot x end) (sym is) t, ap (λ (x : Mem (Node K V)). most_blocks x) is)

    took : (spot : Ending) (m2 : Mem (Node K V)) (end : EndMap × Settled (Node K V)) (b : ℕ) → m2 ≡ with_block w.memory b None → To spot m2 end → To spot m2 end × Leaves m2
    took spot m2 end b is t = (t, ap (λ (x : Mem (Node K V)). most_blocks x) is ∙ most_taken w.memory b)

    wrote : (spot : Ending) (m2 : Mem (Node K V)) (end : EndMap × Settled (Node K V)) (name : At) (word : ℕ) → m2 ≡ with_word w.memory name word → To spot m2 end → To spot m2 end × Leaves m2
    wrote spot m2 end name word is t = (t, ap (λ (x : Mem (Node K V)). most_blocks x) is ∙ most_written w.memory name word)

    falls_at : (spot : Ending) → RootAt hash setting c blocks w.memory spot → EndingFacts setting c blocks lists owns caller hash w e past back spot → (m2 : Mem (Node K V)) (end : EndMap × Settled (Node K V))
        → Steps Took value_at w.memory (plan_at e spot) m2 end → To spot m2 end × Leaves m2
    falls_at at.Reads roots point m2 end s = let d = loaded w.memory (root_read e) (Root e.setting.root) m2 end s in still at.Reads m2 end d.2 (root_falls d.0 end d.3)
    falls_at at.Words roots point m2 end s =
        let d = loaded w.memory (word_read e) (Word (e.table.link / 2048) ((e.place + PLACES) % 2 ^ 64)) m2 end s in still at.Words m2 end d.2 (word_falls d.0 end d.3)
    falls_at (at.Takes pair) roots point m2 end s =
        let d = taken w.memory (given_back e (next_place e)) (pair / 2048) m2 end s in
        took (at.Takes pair) m2 end (pair / 2048) d.2 (gave (at.Takes pair) m2 end _ (pair / 2048) d.0 d.0 d.1 d.2 d.3)
    falls_at at.Nexts roots (t, here, all) m2 end s =
        let d = loaded w.memory (next_read e) (Word (e.table.link / 2048) NEXT) m2 end s in still at.Nexts m2 end d.2 (next_falls t here roots all d.0 d.1 end d.3)
    falls_at at.Carries roots point m2 end s =
        let d = loaded w.memory (list_read e) (Word (e.table.link / 2048) DEFERRED) m2 end s in still at.Carries m2 end d.2 (carries_falls d.0 end d.3)
    falls_at (at.Joins pair) roots point m2 end s =
        let d = stored w.memory (λ out. Now (record e { last = pair; stands = at.Follows pair }, settled.Goes)) (Entry (e.last / 2048) LINK) pair m2 end s in
        wrote (at.Joins pair) m2 end (Entry (e.last / 2048) LINK) pair d.0 (to (at.Joins pair) m2 end _ d.1 (inl (omega arith)))
    falls_at (at.Follows pair) roots (t, here, is_past, which) m2 end s =
        let d = loaded w.memory (follower_read e pair) (Entry (pair / 2048) LINK) m2 end s in
        still (at.Follows pair) m2 end d.2 (follows_falls pair (list which) d.0 d.1 end d.3)
      where
        list : ((q : ℕ) × (rest : List ℕ) × (pair ≡ q * 2048) × Gives setting c blocks lists owns caller w e t back pair (q ∷ rest)) ⊎ Joins setting c blocks lists owns w.memory e t back pair
            → e.owns ≡ false → (b : ℕ) × (rest : List ℕ) × ListFrom w.memory pair (b ∷ rest) × (length (b ∷ rest) ≤ most_blocks w.memory)
        list (inl (q, rest, link, g)) shared = absurd (let own = g.owned in let is = f.owns_is in cc (own, is, shared))
        list (inr j) shared = (
          j.here,
          j.rest,
          subst (λ (x : ℕ). ListFrom w.memory x (j.here ∷ j.rest)) (sym j.pair_is) (list_on w.memory e.first j.here j.before j.rest j.there),
          list_short j.before j.rest j.here (ap (wait_before setting c blocks lists owns) is_past ∙ j.waiting) j.there,
        )
    falls_at (at.Gives pair next) roots point m2 end s =
        let d = taken w.memory (given_back e (standing e (if next == 0 then at.Afters else at.Follows next))) (pair / 2048) m2 end s in
        took (at.Gives pair next) m2 end (pair / 2048) d.2 (gave (at.Gives pair next) m2 end _ (pair / 2048) d.0 d.0 d.1 d.2 d.3)
    falls_at at.Afters roots point m2 end s =
        let d = loaded w.memory (after_read e) (Word (e.table.link / 2048) NEXT) m2 end s in still at.Afters m2 end d.2 (to at.Afters w.memory end _ d.3 (inl (omega arith)))
    falls_at (at.Drops next) roots point m2 end s =
        let d = taken w.memory (dropped e next) (e.table.link / 2048) m2 end s in
        took (at.Drops next) m2 end (e.table.link / 2048) d.2 (drops_falls next m2 (with_block w.memory (e.table.link / 2048) None) d.0 d.1 d.2 end d.3)
    falls_at at.Shards roots point m2 end s =
        let d = taken w.memory (given_back e (standing e at.Sets)) e.setting.counter m2 end s in
        took at.Shards m2 end e.setting.counter d.2 (gave at.Shards m2 end _ e.setting.counter d.0 d.0 d.1 d.2 d.3)
    falls_at at.Sets roots point m2 end s =
        let d = stored w.memory (λ out. if e.first == 0 then Now (standing e at.Frees, settled.Goes) else Now (standing e at.Over, settled.Done)) (Root e.setting.root) e.first m2 end s in
        wrote at.Sets m2 end (Root e.setting.root) e.first d.0 (sets_falls m2 (with_word w.memory (Root e.setting.root) e.first) end d.1)
    falls_at at.Frees roots point m2 end s =
        let d = stored w.memory (λ out. Now (standing e at.Over, settled.Done)) (Used e.setting.root) 0 m2 end s in
        wrote at.Frees m2 end (Used e.setting.root) 0 d.0 (to at.Frees m2 end _ d.1 tt)
    falls_at at.Over roots point m2 end s = absurd point

    -- the numbers of its point are small enough for one
    pub fits_in_one : (tables_left w.memory e e.stands ≤ most_blocks w.memory) × (steps_left w.memory e e.stands < most_blocks w.memory + 2 ^ 49)
    fits_in_one = by e.stands f.point
      where
        here_few : (t : ℕ) → AtPairs setting c blocks lists owns e past t → e.root.turn + most_blocks w.memory - e.table.turn ≤ most_blocks w.memory
        here_few t here =
            let from : e.table.turn ≡ t = ap (λ (x : Table). x.turn) here.here.table in
            let root_is : e.root.turn ≡ c.first = ap (λ (x : Table). x.turn) here.root in
            let low = here.here.from in omega (arith, from, root_is, low)

        by : (spot : Ending) → EndingFacts setting c blocks lists owns caller hash w e past back spot
            → (tables_left w.memory e spot ≤ most_blocks w.memory) × (steps_left w.memory e spot < most_blocks w.memory + 2 ^ 49)
        by at.Reads point = (omega arith, omega arith)
        by at.Words (t, here, inside, all) = (
          here_few t here,
          (let most = (may.map.map.shows.sized t here.here.made).most in let is = ap (λ (x : Table). x.len) here.here.table in omega (arith, most, is)),
        )
        by (at.Takes pair) point = (omega arith, omega arith)
        by at.Nexts (t, here, all) = (here_few t here, omega arith)
        by at.Carries point = (omega arith, omega arith)
        by (at.Joins pair) point = (omega arith, omega arith)
        by (at.Follows pair) point = (omega arith, (let few = list_len_few w.memory pair (most_blocks w.memory) in omega (arith, few)))
        by (at.Gives pair next) point = (omega arith, omega arith)
        by at.Afters point = (omega arith, omega arith)
        by (at.Drops next) point = (omega arith, omega arith)
        by at.Shards point = (omega arith, omega arith)
        by at.Sets point = (omega arith, omega arith)
        by at.Frees point = (omega arith, omega arith)
        by at.Over point = (omega arith, omega arith)

    -- where a step is not the last, the number is lower
    pub end_falls : May Can Took value_at w.memory (end_map_plan e) → (m2 : Mem (Node K V)) (e2 : EndMap) (told : Settled (Node K V)) → HasMore told → (told ≡ settled.Waits → ⊥)
        → Steps Took value_at w.memory (end_map_plan e) m2 (e2, told)
        → (tables_left m2 e2 e2.stands ≤ most_blocks m2) × (steps_left m2 e2 e2.stands < most_blocks m2 + 2 ^ 49) → end_map_left m2 e2 < end_map_left w.memory e
    end_falls can m2 e2 told more goes s fits =
        let d = falls_at e.stands f.root f.point m2 (e2, told) s in
        subst (λ (most : ℕ). in_one (most_blocks m2) (blocks_in m2) (stage e2.stands) (tables_left m2 e2 e2.stands) (steps_left m2 e2 e2.stands)
        < in_one most (blocks_in w.memory) (stage e.stands) (tables_left w.memory e e.stands) (steps_left w.memory e e.stands)) d.1
        (lower_in_one (most_blocks m2) _ _ _ _ _ _ _ _ (few_stages e2.stands) fits.0 fits.1 (by told more goes d.0))
      where
        few : blocks_in m2 ≤ blocks_in w.memory
        few = plan_fewer w.memory (end_map_plan e) m2 (e2, told) (quiet_at K V e e.stands) can s

        by : (q : Settled (Node K V)) → HasMore q → (q ≡ settled.Waits → ⊥) → To e.stands m2 (e2, q) → IsBelow (numbers_at m2 e2 e2.stands) (numbers_at w.memory e e.stands)
        by settled.Goes more other t = elim (cases_lt (blocks_in m2) (blocks_in w.memory)) as (λ _. IsBelow (numbers_at m2 e2 e2.stands) (numbers_at w.memory e e.stands)) [
          | inl less ↦ inl less
          | inr equal ↦ inr (omega (arith, equal, few), t)
        ]
        by settled.Waits more other t = absurd (other refl)
        by (settled.Gave value) more other t = inl t
        by settled.Done more other t = absurd more
