-- A step of a call before it has changed its map leaves the shards of the counter.
use Rattle.std.specs.Prelude.{◌≡◌, ◌≢◌, ℕ, suc, ◌<◌, ◌==◌, Bool, true, false, Option, Some, None}
use Rattle.std.proofs.Common.{refl, sym, subst, inl, inr, arith}
use Rattle.many_maps.specs.Given.SeizeWordsDeclared.at.At.{At}
use Rattle.many_maps.specs.Given.SeizeWordsDeclared.at.At.TheVariants.{Root, Word}
use Rattle.many_maps.specs.Given.SeizeWordsMem.{Mem, Can, Took, same_at, value_at}
use Rattle.many_maps.specs.Given.SeizeWordsPlan.{May, Steps}
use Rattle.many_maps.specs.Given.SeizeWordsWord.{block_in}
use Rattle.many_maps.specs.Given.SeizeWorld.{World}
use Rattle.many_maps.specs.Given.RawCall.{call_plan, plan_at, makes_of, looks_for, looked, first_made, next_made, copied, helped}
use Rattle.many_maps.specs.Given.ResizeNewTable.{new_table_plan}
use Rattle.many_maps.specs.Given.ResizeLookup.{lookup_plan}
use Rattle.many_maps.specs.Given.ResizeCopier.{copier_plan}
use Rattle.many_maps.specs.Given.TablesDeclared.node.Node.{Node}
use Rattle.many_maps.specs.Given.TablesDeclared.setting.Setting.{Setting}
use Rattle.many_maps.specs.Given.TablesDeclared.table_words.TheConstants.{NEXT}
use Rattle.many_maps.specs.Given.RawCallFills.{putting_by, fill_by, fills_with}
use Rattle.many_maps.specs.Given.RawReplies.{value_for, as_own}
use Rattle.many_maps.specs.Given.RawDeclared.machines.answer.Called.{Called}
use Rattle.many_maps.specs.Given.RawDeclared.machines.asking.Asking.{Asking}
use Rattle.many_maps.specs.Given.RawDeclared.machines.asking.Asking.TheVariants as asking
use Rattle.many_maps.specs.Given.RawDeclared.machines.call.KeyCall.{KeyCall}
use Rattle.many_maps.specs.Given.RawDeclared.machines.call.Calling.{Calling}
use Rattle.many_maps.specs.Given.RawDeclared.machines.call.Calling.TheVariants as at
use Rattle.many_maps.specs.Given.RuleChart.{Chart}
use Rattle.many_maps.specs.Given.RuleWords.{Blocks}
use Rattle.many_maps.specs.Given.RuleInWorld.{IsMapIn}
use Rattle.many_maps.specs.Given.PointsFactsCalls.{Change, Holding, ByReply, HasOwn, Seeks, CallingFacts, CallFacts}
use Rattle.many_maps.specs.Given.PointsTold.{IsRowOfCall}
use Rattle.many_maps.proofs.Given.PointsCalls.Probes.{own_block}
use Rattle.many_maps.proofs.Given.RuleKeys.TriesSeen.{spot_inside}
use Rattle.owner_facts.specs.Alone.Counting.{shards_sum}
use Rattle.owner_facts.proofs.Alone.Spared.Shards.{counter_apart, counter_no_next, shards_spared}
use Rattle.many_maps.proofs.Given.RuleSpared.{IsBeside, PlanSpares, spares_as}
use Rattle.owner_facts.proofs.Alone.Spared.Calls.{IsApart, in_place, new_table_spares, lookup_spares, copier_spares}
use Rattle.owner_facts.proofs.Alone.Spared.Helpers.{helper_spares}

-- no link to a table
abbrev pub IsNoLink : {K : Type 0} → Setting → Chart K → Blocks → At → Type 0
IsNoLink setting c blocks x = (same_at x (Root setting.root) ≡ false) × ((t : ℕ) → t < c.past → blocks.table_known t ≡ true → same_at x (Word (blocks.table t) NEXT) ≡ false)

module _ {K V Q : Type 0} (same : K → K → Bool) (hash : K → ℕ) (asks : Q → K → Bool) (w : World (Node K V)) (caller : ℕ) (setting : Setting) (c : Chart K) (blocks : Blocks) (keys : K → Bool)
    (map : IsMapIn same hash setting w c blocks) where
  module _ (change : Change) (p : KeyCall K V Q) (f : CallFacts same hash asks w caller setting c blocks keys change p) (none : IsRowOfCall p.stands → ⊥)
      (seeks : Seeks same hash asks w caller setting c blocks keys change p.stands) where
    abbrev Point' : Calling → Type 0
    Point' stands = CallingFacts same hash asks w caller setting c blocks keys change p stands

    -- where it asks, or goes by what it was told
    module _ (x : At) (apart : IsApart same hash w caller setting c blocks x) where
      held_spared : HasOwn same hash asks w caller setting c blocks keys change ByReply p.asked p.replies.key p.own p.hash → p.own ≢ 0 → IsBeside x (block_in p.own)
      held_spared (none, inl (zero_is, key)) some = absurd (some zero_is)
      held_spared (none, inr (bare, own)) some =
          let is = own.word_is in let small = own.number.1 in let few = f.code in let there = own.there in
          let here : block_in p.own ≡ own.block = omega (arith, is, small, few) in
          subst (λ (b : ℕ). IsBeside x b) (sym here) (apart.own own.block own.hand (λ e. cc (e, there)))

      asking_spares : (asks_at : Asking) → Point' (at.Asks asks_at) → PlanSpares x (plan_at asks same hash p (at.Asks asks_at))
      asking_spares (asking.Absent gap) point = tt
      asking_spares (asking.Present word) point = tt
      asking_spares (asking.Fills word) point = by p.replies.key
        where
          by_value : (told : Option V) (q : KeyCall K V Q) (key : K) → PlanSpares x (fill_by told q word key)
          by_value None q key = tt
          by_value (Some value) q key = by_own (q.own == 0)
            where
              by_own : (b : Bool) → PlanSpares x (putting_by b (record q { replies = record q.replies { key = None } }) word key value)
              by_own true = tt
              by_own false = tt

          by : (key : Option K) → PlanSpares x (fills_with key p word)
          by (Some key) = by_value (value_for p.replies word) (record p { replies = as_own p.replies word }) key
          by None = tt
      asking_spares (asking.GivesUp word) (its, by_reply, some, names, try) =
          held_spared (subst (λ (h : Holding). HasOwn same hash asks w caller setting c blocks keys change h p.asked p.replies.key p.own p.hash) by_reply its) some

    call_spares : (x : At) → IsApart same hash w caller setting c blocks x → IsNoLink setting c blocks x → PlanSpares x (call_plan asks same hash p)
    call_spares x apart links = by p.stands refl f.point none seeks
      where
        by : (stands : Calling) → p.stands ≡ stands → Point' stands → (IsRowOfCall stands → ⊥) → Seeks same hash asks w caller setting c blocks keys change stands → PlanSpares x (plan_at asks same hash p stands)
        by at.Makes is point row so = makes_none p.unmade
          where
            makes_none : (unmade : Option (Node K V)) → PlanSpares x (makes_of p unmade)
            makes_none (Some node) = tt
            makes_none None = tt
        by (at.Looks lookup) is point row so =
            subst (λ (a : Option Q). PlanSpares x (looks_for asks p lookup a)) (sym point.4)
            (spares_as x (looked p) (lookup_plan (asks point.3) lookup) (lookup_spares same hash w caller setting c blocks x map apart (asks point.3) lookup))
        by at.Roots is point row so = tt
        by at.Probes is point row so = tt
        by (at.Tries word new) is (own, may, (t, j, trial, before, root)) row so =
            in_place same hash w caller setting c blocks x map apart p.trial.table t p.trial.probe.i trial.table
            (let place = trial.place in let i = spot_inside (c.len t) p.hash j (map.map.rule.common.lens t trial.table.made).0 in omega (arith, place, i))
        by at.Nexts is point row so = tt
        by (at.Firsts making) is (own, puts, new) row so =
            spares_as x (first_made p) (new_table_plan making)
            (new_table_spares same hash w caller setting c blocks x map apart (Root setting.root) 0 making new (λ table e. links.0))
        by (at.Allocs making) is (own, t, tried, new) row so =
            spares_as x (next_made p) (new_table_plan making)
            (new_table_spares same hash w caller setting c blocks x map apart (Word (blocks.table t) NEXT) (suc t) making new (λ table e. links.1 t tried.0.made tried.0.known))
        by (at.Helps copier goal) is (own, bits, part, t, goal_is, shut, facts) row so =
            spares_as x (helped p goal) (copier_plan hash copier)
            (helper_spares same hash w caller setting c blocks x map apart copier facts.point row facts.setting_is links.0 links.1)
        by (at.Copies copier) is (own, alone, facts) row so =
            spares_as x (copied p) (copier_plan hash copier)
            (copier_spares same hash w caller setting c blocks x map apart copier facts.point row facts.setting_is (λ e. links.0)
            (λ t making table e link entered. links.1 t entered.made entered.known))
        by (at.Drops end) is (unchanged, own) row so =
            subst (λ (b : ℕ). IsBeside x b) (sym (own_block same hash asks caller setting keys w c blocks change p.own p.hash f.code own))
            (let there = own.there in apart.own own.block own.hand (λ e. cc (e, there)))
        by (at.Asks asks_at) is point row so = asking_spares x apart asks_at point
        by (at.Counts removed) is point row so = absurd so
        by (at.Disposes dispose answer) is point row so = absurd so
        by (at.Over end) is point row so = tt

    module _ (may : May Can Took value_at w.memory (call_plan asks same hash p)) (m2 : Mem (Node K V)) (end : KeyCall K V Q × Called (Node K V)) (steps : Steps Took value_at w.memory (call_plan asks same hash p) m2 end) where
      -- what the shards say
      pub shards_same : shards_sum m2 setting.counter (suc setting.mask) ≡ shards_sum w.memory setting.counter (suc setting.mask)
      shards_same =
          shards_spared same hash w setting c blocks map (call_plan asks same hash p)
          (λ shard. call_spares (Word setting.counter shard) (counter_apart same hash w setting c blocks map caller shard) (refl, counter_no_next same hash w setting c blocks map shard))
          may m2 end steps
