-- A step of the end of a map that goes on, point by point: what is ahead until the next block is reclaimed is less.
use Rattle.std.specs.Prelude.{◌-◌, ◌%◌, ◌^◌, ◌==◌, ◌&&◌, not, Some, None, nat_lt, map, if◌then◌else◌}
use Rattle.std.proofs.Common.{◌≡◌, ℕ, suc, ◌+◌, ◌/◌, ◌<◌, ◌≤◌, Bool, true, false, List, [], ◌∷◌, ◌++◌, length, inl, inr, refl, arith, ap, sym, subst, ◌∙◌}
use Rattle.std.proofs.lemmas.List.{length-append}
use Rattle.many_maps.specs.Given.SeizeWordsDeclared.at.At.TheVariants.{Root, Used, Entry, Word}
use Rattle.many_maps.specs.Given.SeizeWordsOp.{Found, Taken}
use Rattle.many_maps.specs.Given.SeizeWordsMem.{Mem, Took, value_at, word_at, with_word, with_block}
use Rattle.many_maps.specs.Given.SeizeWordsPlan.{Now, Seeing, Steps, Ends}
use Rattle.many_maps.proofs.Given.SeizeWordsOneOwner.Operations.{loaded, stored, taken}
use Rattle.many_maps.proofs.Given.SeizeWordsPlans.{ends_if}
use Rattle.many_maps.specs.Given.SeizeDeclared.rows.settle.Settled.{Settled}
use Rattle.many_maps.specs.Given.SeizeDeclared.rows.settle.Settled.TheVariants as settled
use Rattle.many_maps.specs.Given.SeizeDeclared.states.TheConstants.{NEXT as LINK}
use Rattle.many_maps.specs.Given.SeizeFurther.{ListFrom}
use Rattle.many_maps.specs.Given.SeizeWorld.{World, times}
use Rattle.many_maps.specs.Given.TablesChunks.{is_incremental}
use Rattle.many_maps.specs.Given.TablesNodes.{table_seen}
use Rattle.many_maps.specs.Given.TablesDeclared.node.Node.{Node}
use Rattle.many_maps.specs.Given.TablesDeclared.node.Node.TheVariants as node
use Rattle.many_maps.specs.Given.TablesDeclared.setting.Setting.{Setting}
use Rattle.many_maps.specs.Given.TablesDeclared.table.Table.{Table}
use Rattle.many_maps.specs.Given.TablesDeclared.table_words.TheConstants.{NEXT, DEFERRED, PLACES}
use Rattle.many_maps.specs.Given.RawEndMap.{standing, next_place, is_current, root_read, word_read, given_back, next_read, list_read, follower_read, after_read, dropped, plan_at}
use Rattle.many_maps.specs.Given.RawDeclared.machines.end_map.EndMap.{EndMap}
use Rattle.many_maps.specs.Given.RawDeclared.machines.end_map.Ending.{Ending}
use Rattle.many_maps.specs.Given.RawDeclared.machines.end_map.Ending.TheVariants as at
use Rattle.many_maps.specs.Given.RuleChart.{Chart}
use Rattle.many_maps.specs.Given.RuleWords.{Blocks, next_word}
use Rattle.many_maps.proofs.Given.RuleWords.TablesSeen.{block_of_link}
use Rattle.many_maps.specs.Given.PointsMeasures.{IsBelow}
use Rattle.many_maps.specs.Given.PointsSteps.{AreLawful}
use Rattle.many_maps.specs.FactsEnds.{Joins, BeganIn, AtPairs, EndingFacts, EndFacts, RootAt, back_of, from_table, wait_before}
use Rattle.many_maps.specs.Orders.{pairs_behind}
use Rattle.many_maps.proofs.Ends.Pairs.{NextIs, next_there, next_is, next_seen}
use Rattle.owner_facts.specs.Maps.MeasuresEnds.{most_blocks, list_len}
use Rattle.owner_facts.proofs.Maps.Ends.BlocksFew.{list_len_is}
use Rattle.owner_facts.specs.Descends.Numbers.{ahead}
use Rattle.owner_facts.proofs.Descends.Lists.{list_on, list_short, length_read}
use Rattle.many_maps.proofs.Given.General.{same_some}

-- behind a place that isn't the last fewer are left
pub fewer : (place len : ℕ) → nat_lt place (len - 1) ≡ true → suc (len - (place + 1)) < suc (len - place)
fewer place len k = grind (arith, k)

-- something less is left behind a part of a list
behind_some : (all back : List ℕ) (x : ℕ) (rest : List ℕ) → all ≡ back ++ x ∷ rest → length back < length all
behind_some all back x rest is = let long = length-append back (x ∷ rest) in let e = ap length is in omega (arith, long, e)

module _ {K V : Type 0} (same : K → K → Bool) (hash : K → ℕ) (are : AreLawful same hash) (setting : Setting) (c : Chart K) (blocks : Blocks) (lists : ℕ → List ℕ) (owns : Bool) (caller : ℕ)
    (w0 : World (Node K V)) (may : BeganIn setting c blocks lists owns same hash w0) where
  module _ (w : World (Node K V)) (e : EndMap) (past : ℕ) (back : List ℕ) (f : EndFacts setting c blocks lists owns caller hash w0 w e past back) where
    -- where it goes on, less is ahead; where it reclaims a block, fewer were reclaimed than are to be
    abbrev pub To : Ending → Mem (Node K V) → EndMap × Settled (Node K V) → Type 0
    To spot m2 (e2, settled.Goes) = IsBelow (ahead c.past m2 e2 e2.stands) (ahead c.past w.memory e spot)
    To spot m2 (e2, settled.Gave value) = length back < length (back_of setting c blocks lists owns)
    To spot m2 (e2, _) = Unit {0}

    to : (spot : Ending) (m2 : Mem (Node K V)) (end other : EndMap × Settled (Node K V)) → end ≡ other → To spot m2 other → To spot m2 end
    to spot m2 end other is t = subst (λ (x : EndMap × Settled (Node K V)). To spot m2 x) (sym is) t

    root_falls : (root : ℕ) (end : EndMap × Settled (Node K V)) → Ends (value_at w.memory) (root_read e (Found root)) end → To at.Reads w.memory end
    root_falls root end ends =
        elim (ends_if (value_at w.memory) (root == 0) (Now (standing e at.Shards, settled.Goes))
        (Seeing (root / 2048) (λ value. Now (record e { root = table_seen root value; table = table_seen root value; stands = at.Words }, settled.Goes))) end ends) as (λ _. To at.Reads w.memory end) [
          | inl h ↦ to at.Reads w.memory end _ h.1 (inl (omega arith))
          | inr h ↦ to at.Reads w.memory end _ h.1.2 (inl (omega arith))
        ]

    place_falls : (end : EndMap × Settled (Node K V)) → end ≡ (next_place e, settled.Goes) → To at.Words w.memory end
    place_falls end is = to at.Words w.memory end _ is (by (nat_lt e.place (e.table.len - 1)) refl)
      where
        by : (b : Bool) → nat_lt e.place (e.table.len - 1) ≡ b → To at.Words w.memory (if b then record e { place = e.place + 1; stands = at.Words } else standing e at.Nexts, settled.Goes)
        by true l = inr (refl, inr (refl, inl (fewer e.place e.table.len l)))
        by false l = inr (refl, inr (refl, inl (omega arith)))

    word_falls : (word : ℕ) (end : EndMap × Settled (Node K V)) → Ends (value_at w.memory) (word_read e (Found word)) end → To at.Words w.memory end
    word_falls word end ends =
        elim (ends_if (value_at w.memory) (is_current e word) (Now (standing e (at.Takes word), settled.Goes)) (Now (next_place e, settled.Goes)) end ends) as (λ _. To at.Words w.memory end) [
          | inl h ↦ to at.Words w.memory end _ h.1 (inl (omega arith))
          | inr h ↦ place_falls end h.1
        ]

    -- a later table is the next one
    next_falls : (t : ℕ) (here : AtPairs setting c blocks lists owns e past t) (roots : RootAt hash setting c blocks w.memory at.Reads)
        (all : back_of setting c blocks lists owns ≡ back ++ (map blocks.pair (pairs_behind (is_incremental setting.mode) c t) ++ from_table setting c blocks lists owns c.first))
        (link : ℕ) → word_at w.memory (Word (e.table.link / 2048) NEXT) ≡ Some link → (end : EndMap × Settled (Node K V)) → Ends (value_at w.memory) (next_read e (Found link)) end → To at.Nexts w.memory end
    next_falls t here roots all link read end ends =
        elim (ends_if (value_at w.memory) (not (link == 0) && is_incremental e.setting.mode)
        (Seeing (link / 2048) (λ value. Now (record e { table = table_seen link value; place = 0; stands = at.Words }, settled.Goes))) (Now (record e { table = e.root; stands = at.Carries }, settled.Goes)) end ends)
        as (λ _. To at.Nexts w.memory end) [
          | inl h ↦ to at.Nexts w.memory end _ h.1.2 (inr (refl, inl (later (subst Is (same_some (next_word hash c blocks t) link (sym there ∙ read)) known) h.0 h.1.0 h.1.1)))
          | inr h ↦ to at.Nexts w.memory end _ h.1 (inl (omega arith))
        ]
      where
        there : word_at w.memory (Word (e.table.link / 2048) NEXT) ≡ Some (next_word hash c blocks t)
        there = next_there same hash are setting c blocks lists owns caller w0 may e f.setting_is f.owns_is past w back f.since roots t here all

        Is : ℕ → Type 0
        Is = NextIs same hash are setting c blocks lists owns caller w0 may e f.setting_is f.owns_is past w back f.since roots t here all

        known : Is (next_word hash c blocks t)
        known = next_is same hash are setting c blocks lists owns caller w0 may e f.setting_is f.owns_is past w back f.since roots t here all

        none : (x : ℕ) (b : Bool) → x ≡ 0 → (not (x == 0) && b) ≡ true → ⊥
        none x b z k = grind (arith, z, k)

        same_value : {x y : Node K V} → Some x ≡ Some y → x ≡ y
        same_value k = cc k

        later : Is link → (not (link == 0) && is_incremental e.setting.mode) ≡ true → (value : Node K V) → value_at w.memory (link / 2048) ≡ Some value
            → c.past - (table_seen link value).turn < c.past - e.table.turn
        later (inl over) some value seen = absurd (none link (is_incremental e.setting.mode) over.0 some)
        later (inr (is, made, other)) some value seen =
            let found = next_seen same hash are setting c blocks lists owns caller w0 may e f.setting_is f.owns_is past w back f.since roots t here all made in
            let value_is : value ≡ node.Table (c.len (suc t)) (c.limit (suc t)) (suc t) = same_value (sym seen ∙ ap (λ (x : ℕ). value_at w.memory (x / 2048)) is ∙ ap (value_at w.memory) (block_of_link (blocks.table (suc t))) ∙ found) in
            let turn_is : (table_seen link value).turn ≡ suc t = ap (λ (x : Node K V). (table_seen link x).turn) value_is in
            let from : e.table.turn ≡ t = ap (λ (x : Table). x.turn) here.here.table in
            omega (arith, turn_is, from, made)

    carries_falls : (pair : ℕ) (end : EndMap × Settled (Node K V)) → Ends (value_at w.memory) (list_read e (Found pair)) end → To at.Carries w.memory end
    carries_falls pair end ends =
        elim (ends_if (value_at w.memory) (pair == 0) (Now (standing e at.Afters, settled.Goes))
        (if e.owns then Now (standing e (at.Follows pair), settled.Goes) else
        (if e.first == 0 then Now (record e { first = pair; last = pair; stands = at.Follows pair }, settled.Goes) else Now (standing e (at.Joins pair), settled.Goes))) end ends) as (λ _. To at.Carries w.memory end) [
          | inl h ↦ to at.Carries w.memory end _ h.1 (inl (omega arith))
          | inr h ↦ owned h.1
        ]
      where
        shared : Ends (value_at w.memory) (if e.first == 0 then Now (record e { first = pair; last = pair; stands = at.Follows pair }, settled.Goes) else Now (standing e (at.Joins pair), settled.Goes)) end → To at.Carries w.memory end
        shared ends2 =
            elim (ends_if (value_at w.memory) (e.first == 0) (Now (record e { first = pair; last = pair; stands = at.Follows pair }, settled.Goes)) (Now (standing e (at.Joins pair), settled.Goes)) end ends2)
            as (λ _. To at.Carries w.memory end) [
              | inl h ↦ to at.Carries w.memory end _ h.1 (inl (omega arith))
              | inr h ↦ to at.Carries w.memory end _ h.1 (inl (omega arith))
            ]

        owned : Ends (value_at w.memory) (if e.owns then Now (standing e (at.Follows pair), settled.Goes) else
            (if e.first == 0 then Now (record e { first = pair; last = pair; stands = at.Follows pair }, settled.Goes) else Now (standing e (at.Joins pair), settled.Goes))) end → To at.Carries w.memory end
        owned ends2 =
            elim (ends_if (value_at w.memory) e.owns (Now (standing e (at.Follows pair), settled.Goes))
            (if e.first == 0 then Now (record e { first = pair; last = pair; stands = at.Follows pair }, settled.Goes) else Now (standing e (at.Joins pair), settled.Goes)) end ends2) as (λ _. To at.Carries w.memory end) [
              | inl h ↦ to at.Carries w.memory end _ h.1 (inl (omega arith))
              | inr h ↦ shared h.1
            ]

    -- of a list that is joined to those before, none stands twice
    pub joined_once : (t pair : ℕ) (j : Joins setting c blocks lists owns w.memory e t back pair) → past ≡ suc t → (x : ℕ) → times x (j.before ++ j.here ∷ j.rest) ≤ 1
    joined_once t pair j is_past x =
        let a = f.since.once x in let k = ap (times x) (ap (wait_before setting c blocks lists owns) is_past ∙ j.waiting) in omega (arith, a, k)

    -- it is shorter behind one of its blocks
    follows_falls : (t pair : ℕ) (j : Joins setting c blocks lists owns w.memory e t back pair) → past ≡ suc t → (next : ℕ) → word_at w.memory (Entry (pair / 2048) LINK) ≡ Some next
        → (end : EndMap × Settled (Node K V)) → Ends (value_at w.memory) (follower_read e pair (Found next)) end → To (at.Follows pair) w.memory end
    follows_falls t pair j is_past next read end ends =
        elim (ends_if (value_at w.memory) e.owns (Now (standing e (at.Gives pair next), settled.Goes))
        (if next == 0 then Now (standing e at.Afters, settled.Goes) else Now (record e { last = next; stands = at.Follows next }, settled.Goes)) end ends) as (λ _. To (at.Follows pair) w.memory end) [
          | inl h ↦ to (at.Follows pair) w.memory end _ h.1 (inl (omega arith))
          | inr h ↦ shared h.1
        ]
      where
        once : (x : ℕ) → times x (j.before ++ j.here ∷ j.rest) ≤ 1
        once = joined_once t pair j is_past

        shorter : list_len w.memory next (most_blocks w.memory) < list_len w.memory pair (most_blocks w.memory)
        shorter =
            let there = list_on w.memory e.first j.here j.before j.rest j.there in
            let few = list_short w.memory e.first j.here j.before j.rest once j.there in
            let block_is : pair / 2048 ≡ j.here = ap (λ (x : ℕ). x / 2048) j.pair_is ∙ block_of_link j.here in
            let next_is = same_some there.0 next (sym there.3 ∙ ap (λ (x : ℕ). word_at w.memory (Entry x LINK)) (sym block_is) ∙ read) in
            let long = ap (λ (x : ℕ). list_len w.memory x (most_blocks w.memory)) j.pair_is ∙ length_read w.memory e.first j.here j.before j.rest once j.there in
            let short = list_len_is w.memory (most_blocks w.memory) next j.rest (subst (λ (x : ℕ). ListFrom w.memory x j.rest) next_is there.4) (omega (arith, few)) in
            omega (arith, long, short)

        shared : Ends (value_at w.memory) (if next == 0 then Now (standing e at.Afters, settled.Goes) else Now (record e { last = next; stands = at.Follows next }, settled.Goes)) end → To (at.Follows pair) w.memory end
        shared ends2 =
            elim (ends_if (value_at w.memory) (next == 0) (Now (standing e at.Afters, settled.Goes)) (Now (record e { last = next; stands = at.Follows next }, settled.Goes)) end ends2)
            as (λ _. To (at.Follows pair) w.memory end) [
              | inl h ↦ to (at.Follows pair) w.memory end _ h.1 (inl (omega arith))
              | inr h ↦ to (at.Follows pair) w.memory end _ h.1 (inr (refl, inr (refl, inl shorter)))
            ]

    -- one that owns its collector reclaims the block
    owned_falls : (pair : ℕ) → e.owns ≡ true → (next : ℕ) (end : EndMap × Settled (Node K V)) → Ends (value_at w.memory) (follower_read e pair (Found next)) end → To (at.Follows pair) w.memory end
    owned_falls pair owned next end ends =
        elim (ends_if (value_at w.memory) e.owns (Now (standing e (at.Gives pair next), settled.Goes))
        (if next == 0 then Now (standing e at.Afters, settled.Goes) else Now (record e { last = next; stands = at.Follows next }, settled.Goes)) end ends) as (λ _. To (at.Follows pair) w.memory end) [
          | inl h ↦ to (at.Follows pair) w.memory end _ h.1 (inl (omega arith))
          | inr h ↦ absurd (let shared = h.0 in cc (owned, shared))
        ]

    drops_falls : (next : ℕ) (m2 m3 : Mem (Node K V)) (value : Node K V) → length back < length (back_of setting c blocks lists owns)
        → (end : EndMap × Settled (Node K V)) → Ends (value_at m3) (dropped e next (Taken value)) end → To (at.Drops next) m2 end
    drops_falls next m2 m3 value some end ends =
        elim (ends_if (value_at m3) (next == 0) (Now (standing e at.Shards, settled.Gave value))
        (Seeing (next / 2048) (λ other. Now (record e { table = table_seen next other; stands = at.Carries }, settled.Gave value))) end ends) as (λ _. To (at.Drops next) m2 end) [
          | inl h ↦ to (at.Drops next) m2 end _ h.1 some
          | inr h ↦ to (at.Drops next) m2 end _ h.1.2 some
        ]

    sets_falls : (m2 m3 : Mem (Node K V)) (end : EndMap × Settled (Node K V)) → Ends (value_at m3) (if e.first == 0 then Now (standing e at.Frees, settled.Goes) else Now (standing e at.Over, settled.Done)) end → To at.Sets m2 end
    sets_falls m2 m3 end ends =
        elim (ends_if (value_at m3) (e.first == 0) (Now (standing e at.Frees, settled.Goes)) (Now (standing e at.Over, settled.Done)) end ends) as (λ _. To at.Sets m2 end) [
          | inl h ↦ to at.Sets m2 end _ h.1 (inl (omega arith))
          | inr h ↦ to at.Sets m2 end _ h.1 tt
        ]

    still : (spot : Ending) (m2 : Mem (Node K V)) (end : EndMap × Settled (Node K V)) → m2 ≡ w.memory → To spot w.memory end → To spot m2 end
    still spot m2 end is t = subst (λ (x : Mem (Node K V)). To spot x end) (sym is) t

    pub falls_at : (spot : Ending) → RootAt hash setting c blocks w.memory spot → EndingFacts setting c blocks lists owns caller hash w e past back spot → (m2 : Mem (Node K V)) (end : EndMap × Settled (Node K V))
        → Steps Took value_at w.memory (plan_at e spot) m2 end → To spot m2 end
    falls_at at.Reads roots point m2 end s = let d = loaded w.memory (root_read e) (Root e.setting.root) m2 end s in still at.Reads m2 end d.2 (root_falls d.0 end d.3)
    falls_at at.Words roots point m2 end s =
        let d = loaded w.memory (word_read e) (Word (e.table.link / 2048) ((e.place + PLACES) % 2 ^ 64)) m2 end s in still at.Words m2 end d.2 (word_falls d.0 end d.3)
    falls_at (at.Takes pair) roots (t, n, here, inside, is, current, made, all) m2 end s =
        let d = taken w.memory (given_back e (next_place e)) (pair / 2048) m2 end s in
        to (at.Takes pair) m2 end _ d.3 (behind_some _ back (blocks.pair n) _ all)
    falls_at at.Nexts roots (t, here, all) m2 end s =
        let d = loaded w.memory (next_read e) (Word (e.table.link / 2048) NEXT) m2 end s in still at.Nexts m2 end d.2 (next_falls t here roots all d.0 d.1 end d.3)
    falls_at at.Carries roots point m2 end s =
        let d = loaded w.memory (list_read e) (Word (e.table.link / 2048) DEFERRED) m2 end s in still at.Carries m2 end d.2 (carries_falls d.0 end d.3)
    falls_at (at.Joins pair) roots point m2 end s =
        let d = stored w.memory (λ out. Now (record e { last = pair; stands = at.Follows pair }, settled.Goes)) (Entry (e.last / 2048) LINK) pair m2 end s in
        to (at.Joins pair) m2 end _ d.1 (inl (omega arith))
    falls_at (at.Follows pair) roots (t, here, is_past, inl (q, rest, link, g)) m2 end s =
        let d = loaded w.memory (follower_read e pair) (Entry (pair / 2048) LINK) m2 end s in
        still (at.Follows pair) m2 end d.2 (owned_falls pair (f.owns_is ∙ g.owned) d.0 end d.3)
    falls_at (at.Follows pair) roots (t, here, is_past, inr j) m2 end s =
        let d = loaded w.memory (follower_read e pair) (Entry (pair / 2048) LINK) m2 end s in
        still (at.Follows pair) m2 end d.2 (follows_falls t pair j is_past d.0 d.1 end d.3)
    falls_at (at.Gives pair next) roots (t, here, is_past, q, rest, link, g, list) m2 end s =
        let d = taken w.memory (given_back e (standing e (if next == 0 then at.Afters else at.Follows next))) (pair / 2048) m2 end s in
        to (at.Gives pair next) m2 end _ d.3 (behind_some _ back q _ g.all)
    falls_at at.Afters roots point m2 end s =
        let d = loaded w.memory (after_read e) (Word (e.table.link / 2048) NEXT) m2 end s in still at.Afters m2 end d.2 (to at.Afters w.memory end _ d.3 (inl (omega arith)))
    falls_at (at.Drops next) roots (t, here, is_past, next_is, joined, all) m2 end s =
        let d = taken w.memory (dropped e next) (e.table.link / 2048) m2 end s in
        drops_falls next m2 (with_block w.memory (e.table.link / 2048) None) d.0 (behind_some _ back (blocks.table t) _ all) end d.3
    falls_at at.Shards roots (is_past, joined, all) m2 end s =
        let d = taken w.memory (given_back e (standing e at.Sets)) e.setting.counter m2 end s in
        to at.Shards m2 end _ d.3 (behind_some _ back setting.counter [] all)
    falls_at at.Sets roots point m2 end s =
        let d = stored w.memory (λ out. if e.first == 0 then Now (standing e at.Frees, settled.Goes) else Now (standing e at.Over, settled.Done)) (Root e.setting.root) e.first m2 end s in
        sets_falls m2 (with_word w.memory (Root e.setting.root) e.first) end d.1
    falls_at at.Frees roots point m2 end s =
        let d = stored w.memory (λ out. Now (standing e at.Over, settled.Done)) (Used e.setting.root) 0 m2 end s in
        to at.Frees m2 end _ d.1 tt
    falls_at at.Over roots point m2 end s = absurd point
