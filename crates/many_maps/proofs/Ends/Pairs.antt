-- A map that ends reclaims its pairs: place by place, and in incremental mode table by table.
use Rattle.std.specs.Prelude.{◌≢◌, ◌-◌, ◌%◌, Some, None, IsSome, ◌==◌, ◌&&◌, not, nat_lt, if◌then◌else◌, map}
use Rattle.std.proofs.Common.{◌≡◌, ℕ, zero, suc, ◌+◌, ◌*◌, ◌/◌, ◌^◌, ◌<◌, ◌≤◌, Bool, true, false, cond, List, [], ◌∷◌, ◌++◌, ◌⊎◌, inl, inr, refl, arith, ap, sym, subst, ◌∙◌, eqb-true}
use Rattle.std.proofs.lemmas.Bool.{cases_lt}
use Rattle.many_calls.specs.Given.SeizeWordsDeclared.at.At.{At}
use Rattle.many_calls.specs.Given.SeizeWordsDeclared.at.At.TheVariants.{Root, Word}
use Rattle.many_calls.specs.Given.SeizeWordsOp.{Found}
use Rattle.many_calls.specs.Given.SeizeWordsMem.{Mem, Can, Took, value_at, word_at, with_block}
use Rattle.many_calls.specs.Given.SeizeWordsPlan.{Now, Seeing, May, MaySee, Steps, Ends}
use Rattle.many_calls.proofs.Given.SeizeWordsOneOwner.Operations.{may_load, loaded, may_take, taken}
use Rattle.many_calls.proofs.Given.SeizeWordsPlans.{see_if, ends_if}
use Rattle.many_calls.specs.Given.SeizeDeclared.rows.settle.Settled.{Settled}
use Rattle.many_calls.specs.Given.SeizeDeclared.rows.settle.Settled.TheVariants as settled
use Rattle.many_calls.specs.Given.SeizeWorld.{World, times}
use Rattle.many_calls.specs.Given.TablesNodes.{table_seen}
use Rattle.many_calls.specs.Given.TablesChunks.{is_incremental}
use Rattle.many_calls.specs.Given.TablesMarks.{has_mark}
use Rattle.many_calls.specs.Given.RawEndMap.{standing, next_place, is_current, reads, root_read, words, word_read, takes, given_back, nexts, next_read}
use Rattle.many_calls.specs.Given.TablesDeclared.marks.TheConstants.{COPYING}
use Rattle.many_calls.specs.Given.TablesDeclared.node.Node.{Node}
use Rattle.many_calls.specs.Given.TablesDeclared.node.Node.TheVariants as node
use Rattle.many_calls.specs.Given.TablesDeclared.setting.Setting.{Setting}
use Rattle.many_calls.specs.Given.TablesDeclared.table.Table.{Table}
use Rattle.many_calls.specs.Given.TablesDeclared.table_words.TheConstants.{NEXT, DEFERRED, PLACES}
use Rattle.many_calls.specs.Given.RawDeclared.machines.end_map.EndMap.{EndMap}
use Rattle.many_calls.specs.Given.RawDeclared.machines.end_map.Ending.TheVariants as at
use Rattle.many_calls.specs.Given.RuleChart.{Phase, Holds, Chart}
use Rattle.many_calls.specs.Given.RuleWords.{Blocks, place_word, root_word, next_word, byte_of}
use Rattle.many_calls.specs.Given.PointsSteps.{AreLawful}
use Rattle.many_calls.specs.Given.RuleLinks.{LeadsTo}
use Rattle.many_calls.proofs.Given.RuleWords.LinksSeen.{root_leads}
use Rattle.many_calls.proofs.Given.RuleWords.TablesSeen.{place_stands, block_of_link}
use Rattle.many_calls.proofs.Given.RuleWords.PlacesShown.{byte_of-few}
use Rattle.many_maps.specs.Orders.{pair_at, pairs_behind, pairs_from}
use Rattle.many_maps.specs.FactsEnds.{Looks, TakesPair, RootAt, IsOverStill, IsUsedYet, Since, BeganIn, AtPairs, EndingFacts, EndFacts, EndOutcome, EndStepSpec, back_of, from_table, from_place, table_of, wait_before}
use Rattle.many_maps.proofs.Ends.CountedBlocks.{next_apart, later_apart, one_more, some_here, some_last}
use Rattle.many_maps.proofs.Ends.Known.{back_once, table_value, table_next, table_entered, went_still, went_given}
use Rattle.many_maps.proofs.Ends.Worlds.{over, away}
use Rattle.many_maps.proofs.Ends.Frames.{pair_spares}
use Rattle.many_maps.proofs.Ends.Since.{since_by, used_handed, back_and_one, apart_by_hand}
use Rattle.many_maps.proofs.Ends.OrdersOn.{counter_later, pairs_start, pairs_none, place_on, places_over, behind_on, behind_over, before_none, table_later}
use Rattle.many_maps.proofs.Ends.OrdersOnce.{plain_order, pair_there}
use Rattle.many_maps.proofs.Ends.OrdersPairs.{stands_at, stands_current}
use Rattle.many_maps.proofs.Ends.Said.{says, says_pair, no_next, some_next, below, past_it}
use Rattle.many_calls.proofs.Given.General.{same_some, some_is as is_some_of}

module _ {K V : Type 0} (same : K → K → Bool) (hash : K → ℕ) (are : AreLawful same hash) (setting : Setting) (c : Chart K) (blocks : Blocks) (lists : ℕ → List ℕ) (owns : Bool) (caller : ℕ)
    (w0 : World (Node K V)) (may : BeganIn setting c blocks lists owns same hash w0) (e : EndMap) (setting_is : e.setting ≡ setting) (owns_is : e.owns ≡ owns) (past : ℕ) where
  mode_is : is_incremental e.setting.mode ≡ is_incremental setting.mode
  mode_is = ap (λ (s : Setting). is_incremental s.mode) setting_is

  abbrev Facts : World (Node K V) → EndMap → List ℕ → Type 0
  Facts v e2 back = EndFacts setting c blocks lists owns caller hash w0 v e2 past back

  -- it has come behind this place
  next_facts : (v : World (Node K V)) (back : List ℕ) → Since setting c blocks lists owns caller w0 v past back → RootAt hash setting c blocks v.memory at.Reads
      → (t : ℕ) → AtPairs setting c blocks lists owns e past t → e.place < c.len t → back_of setting c blocks lists owns ≡ back ++ from_place setting c blocks lists owns t (suc e.place)
      → Facts v (next_place e) back
  next_facts v back since roots t here inside all = by (nat_lt e.place (e.table.len - 1)) refl
    where
      len_is : e.table.len ≡ c.len t
      len_is = ap (λ (x : Table). x.len) here.here.table

      by : (b : Bool) → nat_lt e.place (e.table.len - 1) ≡ b → Facts v (if b then record e { place = e.place + 1; stands = at.Words } else standing e at.Nexts) back
      by true l = record {
        setting_is = setting_is;
        owns_is = owns_is;
        since = since;
        root = roots;
        point = (
          t,
          record { here = record { table = here.here.table; from = here.here.from; made = here.here.made }; home = here.home; root = here.root; none_left = here.none_left; none_joined = here.none_joined },
          below e.place e.table.len (c.len t) l len_is,
          subst (λ (k : ℕ). back_of setting c blocks lists owns ≡ back ++ from_place setting c blocks lists owns t k) (omega arith) all,
        );
      }
      by false l = record {
        setting_is = setting_is;
        owns_is = owns_is;
        since = since;
        root = roots;
        point = (
          t,
          record { here = record { table = here.here.table; from = here.here.from; made = here.here.made }; home = here.home; root = here.root; none_left = here.none_left; none_joined = here.none_joined },
          all ∙ ap (λ (p : List ℕ). back ++ p) (places_over setting c blocks lists owns t (suc e.place) (past_it e.place e.table.len (c.len t) l len_is)),
        );
      }

  module _ (w : World (Node K V)) (back : List ℕ) (since : Since setting c blocks lists owns caller w0 w past back) (roots : RootAt hash setting c blocks w.memory at.Reads) where
    abbrev Went : Mem (Node K V) → EndMap × Settled (Node K V) → Type 0
    Went m2 end = EndStepSpec setting c blocks lists owns caller hash w0 w past back m2 end

    -- where a step led that only looked
    abbrev Told : EndMap × Settled (Node K V) → Type 0
    Told end = EndOutcome setting c blocks lists owns caller hash w0 w w Looks past back end

    -- the place is read
    module _ (t : ℕ) (here : AtPairs setting c blocks lists owns e past t) (inside : e.place < c.len t) (all : back_of setting c blocks lists owns ≡ back ++ from_place setting c blocks lists owns t e.place) where
      known : blocks.table_known t ≡ true
      known = may.map.map.shows.linked t here.here.from here.here.made

      fresh : times (blocks.table t) back ≡ 0
      fresh = later_apart (blocks.table t) (back_of setting c blocks lists owns) back (from_place setting c blocks lists owns t e.place) (back_once same hash are setting c blocks lists owns caller w0 may) all
          (some_last (blocks.table t) (map blocks.pair (pairs_from (is_incremental setting.mode) c t e.place (c.len t - e.place) ++ pairs_behind (is_incremental setting.mode) c t))
          (from_table setting c blocks lists owns c.first) (table_later setting c blocks lists owns t c.first here.here.from here.here.made))

      place : At
      place = Word (e.table.link / 2048) ((e.place + PLACES) % 2 ^ 64)

      place_is : place ≡ Word (blocks.table t) (e.place + PLACES)
      unfolding place
      place_is = place_stands hash w0.memory c blocks setting.root may.map.map.shows e.table t (table_entered same hash are setting c blocks lists owns caller w0 may w past back since e t here.here) e.place inside

      word : ℕ
      word = place_word hash c blocks (c.place t e.place)

      word_there : word_at w.memory place ≡ Some word
      unfolding place word
      word_there =
          ap (word_at w.memory) place_is ∙ (since.tables t here.here.from here.here.made fresh).words (e.place + PLACES) _ (other e.place) ((may.map.map.shows.tables t here.here.made known).places e.place inside)
        where
          other : (i : ℕ) → i + PLACES ≢ DEFERRED
          other i k = omega (arith, k)

      fits : (n : ℕ) (phase : Phase) (borrowed : Bool) → c.place t e.place ≡ Holds n phase borrowed → (0 < blocks.pair n) × (byte_of hash (c.key n) < 128)
      fits n phase borrowed there =
          let seen = may.map.map.shows.named t e.place n phase borrowed here.here.made known there in
          let was = (may.map.map.rule.common.keyed t e.place n phase borrowed there).0 in
          ((may.map.map.shows.pair_numbers n was seen).0, byte_of-few hash are.fits (c.key n))

      pub may_words : May Can Took value_at w.memory (words e)
      unfolding place
      may_words = may_load w.memory (word_read e) (Word (e.table.link / 2048) ((e.place + PLACES) % 2 ^ 64)) (is_some_of (word_at w.memory place) word word_there)
          (λ x is. see_if (value_at w.memory) (is_current e x) (Now (standing e (at.Takes x), settled.Goes)) (Now (next_place e, settled.Goes)) (λ b. tt) (λ b. tt))

      current_is : (x : ℕ) → is_current e x ≡ says blocks.pair (λ n. byte_of hash (c.key n)) (is_incremental setting.mode) x
      current_is x = ap (λ (b : Bool). not (x / 2048 == 0) && not (b && has_mark x COPYING)) mode_is

      word_told : Told (if is_current e word then (standing e (at.Takes word), settled.Goes) else (next_place e, settled.Goes))
      unfolding word
      word_told =
          elim (says_pair blocks.pair (λ n. byte_of hash (c.key n)) (is_incremental setting.mode) (c.place t e.place) fits)
          as (λ _. Told (if is_current e word then (standing e (at.Takes word), settled.Goes) else (next_place e, settled.Goes))) [
            | inl h ↦ subst (λ (b : Bool). Told (if b then (standing e (at.Takes word), settled.Goes) else (next_place e, settled.Goes)))
                (sym (current_is word ∙ h.0)) (refl, takes_it h.1 h.2 h.3)
            | inr h ↦ subst (λ (b : Bool). Told (if b then (standing e (at.Takes word), settled.Goes) else (next_place e, settled.Goes)))
                (sym (current_is word ∙ h.0)) (
                  refl,
                  next_facts w back since roots t here inside
                      (all ∙ ap (λ (p : List ℕ). back ++ p)
                      (place_on setting c blocks lists owns t e.place inside ∙ ap (λ (p : List ℕ). map blocks.pair p ++ from_place setting c blocks lists owns t (suc e.place)) h.1)),
                )
          ]
        where
          takes_it : (n : ℕ) → pair_at (is_incremental setting.mode) (c.place t e.place) ≡ n ∷ [] → place_word hash c blocks (c.place t e.place) / 2048 ≡ blocks.pair n
              → EndFacts setting c blocks lists owns caller hash w0 w (standing e (at.Takes (place_word hash c blocks (c.place t e.place)))) past back
          takes_it n is link =
              let s = stands_at same hash are (is_incremental setting.mode) c may.map.map.rule t e.place n here.home (subst (λ (p : List ℕ). 0 < times n p) (sym is) (some_here n [])) in
              record {
                setting_is = setting_is;
                owns_is = owns_is;
                since = since;
                root = roots;
                point = (
                  t,
                  n,
                  record { here = record { table = here.here.table; from = here.here.from; made = here.here.made }; home = here.home; root = here.root; none_left = here.none_left; none_joined = here.none_joined },
                  inside,
                  link,
                  stands_current same hash are (is_incremental setting.mode) c may.map.map.rule t e.place n s,
                  (may.map.map.rule.common.keyed t e.place n s.phase s.borrowed s.there).0,
                  all ∙ ap (λ (p : List ℕ). back ++ p) (place_on setting c blocks lists owns t e.place inside ∙ ap (λ (p : List ℕ). map blocks.pair p ++ from_place setting c blocks lists owns t (suc e.place)) is),
                );
              }

      pub went_words : (m2 : Mem (Node K V)) (end : EndMap × Settled (Node K V)) → Steps Took value_at w.memory (words e) m2 end → Went m2 end
      unfolding place
      went_words m2 end s =
          let d = loaded w.memory (word_read e) (Word (e.table.link / 2048) ((e.place + PLACES) % 2 ^ 64)) m2 end s in
          let is = same_some d.0 word (sym d.1 ∙ word_there) in
          went_still same hash are setting c blocks lists owns caller w0 may w past back m2 end d.2
          (subst (λ (x : EndMap × Settled (Node K V)). Told x) (sym (ends_word d.0 d.3))
          (subst (λ (x : ℕ). Told (if is_current e x then (standing e (at.Takes x), settled.Goes) else (next_place e, settled.Goes))) (sym is) word_told))
        where
          ends_word : (x : ℕ) → Ends (value_at w.memory) (word_read e (Found x)) end → end ≡ (if is_current e x then (standing e (at.Takes x), settled.Goes) else (next_place e, settled.Goes))
          ends_word x = by (is_current e x)
            where
              by : (b : Bool) → Ends (value_at w.memory) (if b then Now (standing e (at.Takes x), settled.Goes) else Now (next_place e, settled.Goes)) end
                  → end ≡ (if b then (standing e (at.Takes x), settled.Goes) else (next_place e, settled.Goes))
              by true k = k
              by false k = k

    -- a pair is reclaimed
    module _ (pair t n : ℕ) (here : AtPairs setting c blocks lists owns e past t) (inside : e.place < c.len t) (link : pair / 2048 ≡ blocks.pair n) (current : c.current n ≡ true)
        (all : back_of setting c blocks lists owns ≡ back ++ blocks.pair n ∷ from_place setting c blocks lists owns t (suc e.place)) where
      pair_fresh : times (blocks.pair n) back ≡ 0
      pair_fresh = (next_apart (blocks.pair n) (back_of setting c blocks lists owns) back (from_place setting c blocks lists owns t (suc e.place)) (back_once same hash are setting c blocks lists owns caller w0 may) all).0

      counter_fresh : times setting.counter back ≡ 0
      counter_fresh = later_apart setting.counter (back_of setting c blocks lists owns) back (blocks.pair n ∷ from_place setting c blocks lists owns t (suc e.place)) (back_once same hash are setting c blocks lists owns caller w0 may)
          all (some_last setting.counter (blocks.pair n ∷ map blocks.pair (pairs_from (is_incremental setting.mode) c t (suc e.place) (c.len t - suc e.place) ++ pairs_behind (is_incremental setting.mode) c t))
          (from_table setting c blocks lists owns c.first) (counter_later setting c blocks lists owns c.first))

      pair_yet : IsOverStill setting.counter w0 w (blocks.pair n) × IsUsedYet setting.counter w (blocks.pair n)
      pair_yet = since.pairs n current pair_fresh

      pair_value : value_at w.memory (blocks.pair n) ≡ value_at w0.memory (blocks.pair n)
      pair_value = pair_yet.0.value

      its : (k : K) × (v : V) × (value_at w0.memory (blocks.pair n) ≡ Some (node.Pair k v))
      its = (pair_there same hash are setting c blocks (λ u. []) owns w0 (plain_order setting c blocks same hash w0 may.map may.counter) n current).3

      pub may_takes : May Can Took value_at w.memory (takes e pair)
      may_takes = may_take w.memory (given_back e (next_place e)) (pair / 2048) (subst (λ (b : ℕ). IsSome (value_at w.memory b)) (sym link) (is_some_of (value_at w.memory (blocks.pair n)) (node.Pair its.0 its.1) (pair_value ∙ its.2)))
          (λ value is. tt)

      pub went_takes : (m2 : Mem (Node K V)) (end : EndMap × Settled (Node K V)) → Steps Took value_at w.memory (takes e pair) m2 end → Went m2 end
      went_takes m2 end s =
          let d = taken w.memory (given_back e (next_place e)) (pair / 2048) m2 end s in
          let value_is : value_at w.memory (blocks.pair n) ≡ Some d.0 = ap (value_at w.memory) (sym link) ∙ d.1 in
          let b = blocks.pair n in
          let v = away (over w caller b []) caller b in
          went_given same hash are setting c blocks lists owns caller w0 may w past back m2 end b n (node.Pair its.0 its.1) current refl (pair_fresh, counter_fresh) pair_yet.1 (pair_value ∙ its.2) refl pair_yet.0
          (d.2 ∙ ap (λ (x : ℕ). with_block w.memory x None) link)
          (subst (λ (x : EndMap × Settled (Node K V)). EndOutcome setting c blocks lists owns caller hash w0 w v (TakesPair b) past back x) (sym d.3) (
            b,
            refl,
            value_is,
            next_facts v (back ++ b ∷ []) since_v roots t here inside (one_more (back_of setting c blocks lists owns) back (from_place setting c blocks lists owns t (suc e.place)) b all),
          ))
        where
          none_waits : wait_before setting c blocks lists owns past ≡ []
          none_waits = before_none setting c blocks lists owns past (let a = here.none_left in omega (arith, a))

          since_v : Since setting c blocks lists owns caller w0 (away (over w caller (blocks.pair n) []) caller (blocks.pair n)) past (back ++ blocks.pair n ∷ [])
          since_v =
              since_by setting c blocks lists owns caller w0 w past back since (away (over w caller (blocks.pair n) []) caller (blocks.pair n)) (TakesPair (blocks.pair n))
              (pair_spares setting caller w (blocks.pair n) (is_some_of (value_at w.memory (blocks.pair n)) (node.Pair its.0 its.1) (pair_value ∙ its.2)))
              (back ++ blocks.pair n ∷ []) refl (λ x none. back_and_one x (blocks.pair n) back none) (λ x none. none)
              (λ x handed. (apart_by_hand w.hand x (blocks.pair n) (λ own. used_handed (w.hand (blocks.pair n)) pair_yet.1.0 (own ∙ handed)), refl))
              (λ x on. absurd (let a = ap (times x) none_waits in omega (arith, a, on)))

    -- the lists of the tables come next
    carries_facts : (back_of setting c blocks lists owns ≡ back ++ from_table setting c blocks lists owns c.first) → c.first < c.past → past ≡ c.first → e.root ≡ table_of setting c blocks lists owns c.first
        → e.first ≡ 0 → Facts w (record e { table = e.root; stands = at.Carries }) back
    carries_facts all some none_left root none = record {
      setting_is = setting_is;
      owns_is = owns_is;
      since = since;
      root = roots;
      point = subst (λ (u : ℕ). EndingFacts setting c blocks lists owns caller hash w (record e { table = e.root; stands = at.Carries }) u back at.Carries) (sym none_left) (
        record { table = root; from = omega arith; made = some },
        inl (before_none setting c blocks lists owns c.first (omega arith), none),
        all,
      );
    }

    -- the next table is read
    module _ (t : ℕ) (here : AtPairs setting c blocks lists owns e past t)
        (all : back_of setting c blocks lists owns ≡ back ++ (map blocks.pair (pairs_behind (is_incremental setting.mode) c t) ++ from_table setting c blocks lists owns c.first)) where
      pub later_fresh : (u : ℕ) → c.first ≤ u → u < c.past → times (blocks.table u) back ≡ 0
      later_fresh u from made =
          later_apart (blocks.table u) (back_of setting c blocks lists owns) back (map blocks.pair (pairs_behind (is_incremental setting.mode) c t) ++ from_table setting c blocks lists owns c.first)
          (back_once same hash are setting c blocks lists owns caller w0 may) all
          (some_last (blocks.table u) (map blocks.pair (pairs_behind (is_incremental setting.mode) c t)) (from_table setting c blocks lists owns c.first)
          (table_later setting c blocks lists owns u c.first from made))

      link_at : e.table.link / 2048 ≡ blocks.table t
      link_at = ap (λ (x : Table). x.link / 2048) here.here.table ∙ block_of_link (blocks.table t)

      pub next_there : word_at w.memory (Word (e.table.link / 2048) NEXT) ≡ Some (next_word hash c blocks t)
      next_there = ap (λ (b : ℕ). word_at w.memory (Word b NEXT)) link_at
          ∙ table_next same hash are setting c blocks lists owns caller w0 may w past back since t here.here.from here.here.made (later_fresh t here.here.from here.here.made)

      abbrev pub NextIs : ℕ → Type 0
      NextIs link = ((link ≡ 0) × (c.past ≤ suc t)) ⊎ ((link ≡ blocks.table (suc t) * 2048) × (suc t < c.past) × ((link == 0) ≡ false))

      pub next_is : NextIs (next_word hash c blocks t)
      next_is = by (cases_lt (suc t) c.past)
        where
          by : (suc t < c.past) ⊎ (c.past ≤ suc t) → NextIs (next_word hash c blocks t)
          by (inr none) = inl (no_next hash c blocks t none, none)
          by (inl made) =
              let known = may.map.map.shows.linked (suc t) (let a = here.here.from in omega (arith, a)) made in
              let some = (may.map.map.shows.table_numbers (suc t) made known).0 in
              let is : next_word hash c blocks t ≡ blocks.table (suc t) * 2048 = some_next hash c blocks t made in
              inr (is, made, ap (λ (x : ℕ). x == 0) is ∙ not_zero (blocks.table (suc t)) some)
            where
              not_zero : (b : ℕ) → 0 < b → (b * 2048 == 0) ≡ false
              not_zero b some = grind (arith, some)

      pub next_seen : (made : suc t < c.past) → value_at w.memory (blocks.table (suc t)) ≡ Some (node.Table (c.len (suc t)) (c.limit (suc t)) (suc t))
      next_seen made =
          let from : c.first ≤ suc t = (let a = here.here.from in omega (arith, a)) in
          table_value same hash are setting c blocks lists owns caller w0 may w past back since (suc t) from made (later_fresh (suc t) from made)

      see_next : (link : ℕ) → NextIs link → MaySee (value_at w.memory) (next_read e (Found link))
      see_next link is = see_if (value_at w.memory) (not (link == 0) && is_incremental e.setting.mode)
          (Seeing (link / 2048) (λ value. Now (record e { table = table_seen link value; place = 0; stands = at.Words }, settled.Goes))) (Now (record e { table = e.root; stands = at.Carries }, settled.Goes))
          (λ b. by is b) (λ b. tt)
        where
          by : NextIs link → (not (link == 0) && is_incremental e.setting.mode) ≡ true → IsSome (value_at w.memory (link / 2048)) × ((value : Node K V) → value_at w.memory (link / 2048) ≡ Some value → Unit {0})
          by (inl none) b = absurd (let z = none.0 in grind (arith, b, z))
          by (inr there) b = (
            is_some_of (value_at w.memory (link / 2048)) (node.Table (c.len (suc t)) (c.limit (suc t)) (suc t))
                (ap (λ (x : ℕ). value_at w.memory (x / 2048)) there.0 ∙ ap (value_at w.memory) (block_of_link (blocks.table (suc t))) ∙ next_seen there.1),
            λ value q. tt,
          )

      pub may_nexts : May Can Took value_at w.memory (nexts e)
      may_nexts = may_load w.memory (next_read e) (Word (e.table.link / 2048) NEXT) (is_some_of (word_at w.memory (Word (e.table.link / 2048) NEXT)) (next_word hash c blocks t) next_there)
          (λ link is. see_next link (subst NextIs (same_some (next_word hash c blocks t) link (sym next_there ∙ is)) next_is))

      some_table : c.first < c.past
      some_table = let a = here.here.from in let b = here.here.made in omega (arith, a, b)

      no_more : cond (is_incremental setting.mode) (c.past ≤ suc t) (Unit {0}) → Facts w (record e { table = e.root; stands = at.Carries }) back
      no_more over = carries_facts (all ∙ ap (λ (p : List ℕ). back ++ p) (behind_over setting c blocks lists owns t over)) some_table here.none_left here.root here.none_joined

      one_more_table : (made : suc t < c.past) → is_incremental setting.mode ≡ true → (link : ℕ) → link ≡ blocks.table (suc t) * 2048 → (value : Node K V) → value_at w.memory (link / 2048) ≡ Some value
          → Facts w (record e { table = table_seen link value; place = 0; stands = at.Words }) back
      one_more_table made bit link is value seen =
          let from : c.first ≤ suc t = (let a = here.here.from in omega (arith, a)) in
          let value_is : value ≡ node.Table (c.len (suc t)) (c.limit (suc t)) (suc t) = same_value (sym seen ∙ ap (λ (x : ℕ). value_at w.memory (x / 2048)) is ∙ ap (value_at w.memory) (block_of_link (blocks.table (suc t))) ∙ next_seen made) in
          record {
            setting_is = setting_is;
            owns_is = owns_is;
            since = since;
            root = roots;
            point = (
              suc t,
              record {
                here = record { table = ap (table_seen link) value_is ∙ ap (λ (x : ℕ). record { link = x; len = c.len (suc t); limit = c.limit (suc t); turn = suc t }) is; from = from; made = made };
                home = subst (λ (b : Bool). cond b (c.first ≤ suc t) (suc t ≡ c.first)) (sym bit) from;
                root = here.root;
                none_left = here.none_left;
                none_joined = here.none_joined;
              },
              (may.map.map.rule.common.lens (suc t) made).0,
              all ∙ ap (λ (p : List ℕ). back ++ p) (behind_on setting c blocks lists owns t bit made),
            );
          }
        where
          same_value : {x y : Node K V} → Some x ≡ Some y → x ≡ y
          same_value k = cc k

      next_told : (link : ℕ) → NextIs link → (end : EndMap × Settled (Node K V)) → Ends (value_at w.memory) (next_read e (Found link)) end
          → Told end
      next_told link is end ends =
          elim (ends_if (value_at w.memory) (not (link == 0) && is_incremental e.setting.mode)
          (Seeing (link / 2048) (λ value. Now (record e { table = table_seen link value; place = 0; stands = at.Words }, settled.Goes))) (Now (record e { table = e.root; stands = at.Carries }, settled.Goes)) end ends)
          as (λ _. Told end) [
            | inl h ↦ subst (λ (x : EndMap × Settled (Node K V)). Told x) (sym h.1.2) (refl, goes_on is h.0 h.1.0 h.1.1)
            | inr h ↦ subst (λ (x : EndMap × Settled (Node K V)). Told x) (sym h.1) (refl, no_more (over is h.0 (is_incremental setting.mode) refl))
          ]
        where
          both_true : (x : ℕ) (b : Bool) → (not (x == 0) && b) ≡ true → (b ≡ true) × (x ≢ 0)
          both_true x b k = (grind (arith, k), λ z. grind (arith, k, z))

          goes_on : NextIs link → (not (link == 0) && is_incremental e.setting.mode) ≡ true → (value : Node K V) → value_at w.memory (link / 2048) ≡ Some value
              → Facts w (record e { table = table_seen link value; place = 0; stands = at.Words }) back
          goes_on (inl none) b value seen = absurd ((both_true link (is_incremental e.setting.mode) b).1 none.0)
          goes_on (inr there) b value seen = one_more_table there.1 (sym mode_is ∙ (both_true link (is_incremental e.setting.mode) b).0) link there.0 value seen

          over : NextIs link → (not (link == 0) && is_incremental e.setting.mode) ≡ false → (b : Bool) → is_incremental setting.mode ≡ b → cond (is_incremental setting.mode) (c.past ≤ suc t) (Unit {0})
          over (inl none) k b bit = by (is_incremental setting.mode)
            where
              by : (q : Bool) → cond q (c.past ≤ suc t) (Unit {0})
              by true = none.1
              by false = tt
          over (inr there) k false bit = subst (λ (q : Bool). cond q (c.past ≤ suc t) (Unit {0})) (sym bit) tt
          over (inr there) k true bit = absurd (no (link == 0) (is_incremental e.setting.mode) there.2 (mode_is ∙ bit) k)
            where
              no : (x y : Bool) → x ≡ false → y ≡ true → (not x && y) ≡ false → ⊥
              no x y p q r = grind (arith, p, q, r)

      pub went_nexts : (m2 : Mem (Node K V)) (end : EndMap × Settled (Node K V)) → Steps Took value_at w.memory (nexts e) m2 end → Went m2 end
      went_nexts m2 end s =
          let d = loaded w.memory (next_read e) (Word (e.table.link / 2048) NEXT) m2 end s in
          went_still same hash are setting c blocks lists owns caller w0 may w past back m2 end d.2
          (next_told d.0 (subst NextIs (same_some (next_word hash c blocks t) d.0 (sym next_there ∙ d.1)) next_is) end d.3)

    -- the root is read
    module _ (none_left : past ≡ c.first) (none_back : back ≡ []) (first_place : e.place ≡ 0) (none_joined : e.first ≡ 0) where
      root_there : word_at w.memory (Root e.setting.root) ≡ Some (root_word hash c blocks)
      root_there = ap (λ (s : Setting). word_at w.memory (Root s.root)) setting_is ∙ roots.0

      leads : LeadsTo c blocks (root_word hash c blocks) c.first
      leads = root_leads same hash setting.mode setting.root w0.memory c blocks may.map.map (root_word hash c blocks) may.map.map.shows.root_there

      root_seen : (made : c.first < c.past) → value_at w.memory (blocks.table c.first) ≡ Some (node.Table (c.len c.first) (c.limit c.first) c.first)
      root_seen made = table_value same hash are setting c blocks lists owns caller w0 may w past back since c.first (omega arith) made (subst (λ (l : List ℕ). times (blocks.table c.first) l ≡ 0) (sym none_back) refl)

      see_root : (link : ℕ) → LeadsTo c blocks link c.first → MaySee (value_at w.memory) (root_read e (Found link))
      see_root link to = see_if (value_at w.memory) (link == 0) (Now (standing e at.Shards, settled.Goes))
          (Seeing (link / 2048) (λ value. Now (record e { root = table_seen link value; table = table_seen link value; stands = at.Words }, settled.Goes))) (λ b. tt) (λ b. by to b)
        where
          by : LeadsTo c blocks link c.first → (link == 0) ≡ false → IsSome (value_at w.memory (link / 2048)) × ((value : Node K V) → value_at w.memory (link / 2048) ≡ Some value → Unit {0})
          by (inl none) b = absurd (let z = none.0 in grind (arith, b, z))
          by (inr there) b = (
            is_some_of (value_at w.memory (link / 2048)) (node.Table (c.len c.first) (c.limit c.first) c.first)
                (ap (λ (x : ℕ). value_at w.memory (x / 2048)) there.0 ∙ ap (value_at w.memory) (block_of_link (blocks.table c.first)) ∙ root_seen there.1),
            λ value q. tt,
          )

      pub may_reads : May Can Took value_at w.memory (reads e)
      may_reads = may_load w.memory (root_read e) (Root e.setting.root) (is_some_of (word_at w.memory (Root e.setting.root)) (root_word hash c blocks) root_there)
          (λ link is. see_root link (subst (λ (x : ℕ). LeadsTo c blocks x c.first) (same_some (root_word hash c blocks) link (sym root_there ∙ is)) leads))

      no_root : c.past ≤ c.first → Facts w (standing e at.Shards) back
      no_root none = record {
        setting_is = setting_is;
        owns_is = owns_is;
        since = since;
        root = roots;
        point = (
          none_left ∙ same_past,
          inl (before_none setting c blocks lists owns past (omega (arith, none_left)), none_joined),
          subst (λ (l : List ℕ). back_of setting c blocks lists owns ≡ l ++ setting.counter ∷ []) (sym none_back) (pairs_none setting c blocks lists owns none),
        );
      }
        where
          same_past : c.first ≡ c.past
          same_past = by c.past refl none
            where
              by : (p : ℕ) → c.past ≡ p → p ≤ c.first → c.first ≡ p
              by zero z l = may.map.map.rule.common.rootless z
              by (suc p) z l = absurd (let a = may.map.map.rule.common.rooted (omega (arith, z)) in omega (arith, a, l, z))

      some_root : (made : c.first < c.past) (link : ℕ) → link ≡ blocks.table c.first * 2048 → (value : Node K V) → value_at w.memory (link / 2048) ≡ Some value
          → Facts w (record e { root = table_seen link value; table = table_seen link value; stands = at.Words }) back
      some_root made link is value seen =
          let value_is : value ≡ node.Table (c.len c.first) (c.limit c.first) c.first = same_value (sym seen ∙ ap (λ (x : ℕ). value_at w.memory (x / 2048)) is ∙ ap (value_at w.memory) (block_of_link (blocks.table c.first)) ∙ root_seen made) in
          let table_is : table_seen link value ≡ table_of setting c blocks lists owns c.first =
          ap (table_seen link) value_is ∙ ap (λ (x : ℕ). record { link = x; len = c.len c.first; limit = c.limit c.first; turn = c.first }) is in
          record {
            setting_is = setting_is;
            owns_is = owns_is;
            since = since;
            root = roots;
            point = (
              c.first,
              record {
                here = record { table = table_is; from = omega arith; made = made };
                home = home (is_incremental setting.mode);
                root = table_is;
                none_left = none_left;
                none_joined = none_joined;
              },
              subst (λ (p : ℕ). p < c.len c.first) (sym first_place) ((may.map.map.rule.common.lens c.first made).0),
              subst (λ (p : ℕ). back_of setting c blocks lists owns ≡ back ++ from_place setting c blocks lists owns c.first p) (sym first_place)
                  (subst (λ (l : List ℕ). back_of setting c blocks lists owns ≡ l ++ from_place setting c blocks lists owns c.first 0) (sym none_back) (pairs_start setting c blocks lists owns made)),
            );
          }
        where
          same_value : {x y : Node K V} → Some x ≡ Some y → x ≡ y
          same_value k = cc k

          home : (b : Bool) → cond b (c.first ≤ c.first) (c.first ≡ c.first)
          home true = omega arith
          home false = refl

      pub went_reads : (m2 : Mem (Node K V)) (end : EndMap × Settled (Node K V)) → Steps Took value_at w.memory (reads e) m2 end → Went m2 end
      went_reads m2 end s =
          let d = loaded w.memory (root_read e) (Root e.setting.root) m2 end s in
          went_still same hash are setting c blocks lists owns caller w0 may w past back m2 end d.2
          (root_told d.0 (subst (λ (x : ℕ). LeadsTo c blocks x c.first) (same_some (root_word hash c blocks) d.0 (sym root_there ∙ d.1)) leads) d.3)
        where
          root_told : (link : ℕ) → LeadsTo c blocks link c.first → Ends (value_at w.memory) (root_read e (Found link)) end → Told end
          root_told link to ends =
              elim (ends_if (value_at w.memory) (link == 0) (Now (standing e at.Shards, settled.Goes))
              (Seeing (link / 2048) (λ value. Now (record e { root = table_seen link value; table = table_seen link value; stands = at.Words }, settled.Goes))) end ends)
              as (λ _. Told end) [
                | inl h ↦ subst (λ (x : EndMap × Settled (Node K V)). Told x) (sym h.1) (refl, none to h.0)
                | inr h ↦ subst (λ (x : EndMap × Settled (Node K V)). Told x) (sym h.1.2) (refl, some to h.0 h.1.0 h.1.1)
              ]
            where
              none : LeadsTo c blocks link c.first → (link == 0) ≡ true → Facts w (standing e at.Shards) back
              none (inl k) b = no_root k.1
              none (inr k) b = absurd (let some = (may.map.map.shows.table_numbers c.first k.1 k.2).0 in let is = k.0 in let z = eqb-true link 0 b in omega (arith, some, is, z))

              some : LeadsTo c blocks link c.first → (link == 0) ≡ false → (value : Node K V) → value_at w.memory (link / 2048) ≡ Some value
                  → Facts w (record e { root = table_seen link value; table = table_seen link value; stands = at.Words }) back
              some (inl k) b value seen = absurd (let z = k.0 in grind (arith, b, z))
              some (inr k) b value seen = some_root k.1 link k.0 value seen
