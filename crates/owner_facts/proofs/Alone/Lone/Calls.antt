-- A call that is alone never waits: no pair of its key is being copied by another, and no machine within it waits.
use Rattle.many_maps.specs.Given.TablesCounts.{count_change}
use Rattle.many_maps.specs.Given.RawAnswers.{ended}
use Rattle.many_maps.specs.Given.RawCall.{call_plan, copied, disposed, dropped, first_made, have_one_key, helped, looked, looks_for, key_read, made, makes_of, next_found, next_made, pair_read, plan_at, root_found, tried, word_found, word_read}
use Rattle.many_maps.specs.Given.RawCallPoints.{aim_of, at_last, changed, counted, entering, tableless, told, continued_in}
use Rattle.many_maps.specs.Given.TablesChunks.{is_incremental}
use Rattle.many_maps.specs.Given.ResizeCopier.{copier_plan}
use Rattle.many_maps.specs.Given.ResizeDispose.{dispose_plan}
use Rattle.many_maps.specs.Given.TablesFinding.{finding, may_name}
use Rattle.many_maps.specs.Given.ResizeLookup.{lookup_plan, names_pair}
use Rattle.many_maps.specs.Given.ResizeNewTable.{new_table_plan}
use Rattle.many_maps.specs.Given.TablesNodes.{table_seen}
use Rattle.many_maps.specs.Given.TablesTablePlaces.{at_word}
use Rattle.many_maps.specs.Given.TablesTrials.{place_tried}
use Rattle.many_maps.specs.Given.RawDeclared.machines.answer.Called.{Called}
use Rattle.many_maps.specs.Given.RawDeclared.machines.call.KeyCall.{KeyCall}
use Rattle.many_maps.specs.Given.RawDeclared.machines.call.Calling.{Calling}
use Rattle.many_maps.specs.Given.ResizeDeclared.copier.Copier.{Copier}
use Rattle.many_maps.specs.Given.ResizeDeclared.dispose.Dispose.{Dispose}
use Rattle.many_maps.specs.Given.ResizeDeclared.lookup.Lookup.{Lookup}
use Rattle.many_maps.specs.Given.ResizeDeclared.new_table.NewTable.{NewTable}
use Rattle.many_maps.specs.Given.TablesDeclared.node.Node.{Node}
use Rattle.many_maps.specs.Given.ResizeDeclared.yielding.Yielding.{Yielding}
use Rattle.many_maps.specs.Given.TablesDeclared.setting.Setting.{Setting}
use Rattle.many_maps.specs.Given.TablesDeclared.table.Table.{Table}
use Rattle.many_maps.specs.Given.TablesDeclared.table_words.TheConstants.{NEXT}
use Rattle.many_maps.proofs.Given.PointsCalls.CallsOn.{Seeking}
use Rattle.many_maps.proofs.Given.PointsLookups.LooksAsked.{class_asked, lookup_asked}
use Rattle.many_maps.proofs.Given.RuleWords.PlacesShown.{shown_block, shown_byte}
use Rattle.many_maps.proofs.Given.PointsCalls.Tries.{found_is}
use Rattle.many_maps.proofs.Given.PointsBlocking.Points.{went_copier_blocking_alone}
use Rattle.many_maps.proofs.Given.PointsDisposals.Points.{went_dispose_lowers}
use Rattle.many_maps.proofs.Given.PointsMaking.NewTable.{went_new_table_lowers}
use Rattle.many_maps.proofs.Given.RuleKeys.TriesSeen.{spot_inside}
use Rattle.many_maps.specs.Given.RuleChart.{Chart, Copying, Holds, is_marked, is_settled}
use Rattle.many_maps.specs.Given.PointsFactsAloneBlocking.{LeadsAlone}
use Rattle.many_maps.specs.Given.PointsFactsCalls.{CallFacts, CallingFacts, Change, HasIts, IsCopying, Seeks, Unchanged}
use Rattle.many_maps.specs.Given.PointsFactsCopies.{ClaimsNone, HasDone}
use Rattle.many_maps.specs.Given.PointsFactsCopiesBlocking.{HasNoShares}
use Rattle.many_maps.specs.Given.RuleInWorld.{IsMapIn}
use Rattle.many_maps.specs.Given.RuleMaps.{IsTrial, spot_at, spot_of}
use Rattle.many_maps.specs.Given.PointsMeasures.{OthersIdle}
use Rattle.many_maps.specs.Given.RuleRule.{Agrees, IsLawful, Rule}
use Rattle.many_maps.specs.Given.PointsTold.{DisposeOutcome, IsRowOfCall, LookupOutcome, NewTableOutcome}
use Rattle.many_maps.specs.Given.RuleWords.{Blocks, byte_of, place_word}
use Rattle.owner_facts.proofs.Alone.Lone.Copier.{helper_goes}
use Rattle.owner_facts.proofs.Alone.Lone.Copies.{settled_or_own}
use Rattle.many_maps.proofs.Given.PointsLookups.Points.{went_lookup}
use Rattle.owner_facts.specs.Alone.FactsAloneCalls.{AloneAtPoint}
use Rattle.many_maps.proofs.Given.SeizeRuleRows.Leaving.{steps_back}
use Rattle.many_maps.specs.Given.SeizeWorld.{World}
use Rattle.many_maps.specs.Given.SeizeDeclared.advance.Advance.{Advance}
use Rattle.many_maps.specs.Given.SeizeDeclared.rows.settle.Settled.{Settled}
use Rattle.many_maps.proofs.Given.SeizeWordsOneOwner.Operations.{loaded, exchanged, added, made as made_by_step, taken}
use Rattle.many_maps.proofs.Given.SeizeWordsPlans.{ends_if}
use Rattle.many_maps.specs.Given.SeizeWordsMem.{Mem, Took, value_at}
use Rattle.many_maps.specs.Given.SeizeWordsPlan.{Ends, Now, Seeing, Steps}
use Rattle.many_maps.specs.Given.SeizeWordsDeclared.at.At.{At}
use Rattle.many_maps.specs.Given.SeizeWordsDeclared.at.At.TheVariants.{Root, Word}
use Rattle.std.proofs.Common.{◌≡◌, ◌≢◌, ℕ, suc, ◌/◌, ◌<◌, ◌≤◌, ◌^◌, Bool, true, false, cond, Option, Some, None, ◌⊎◌, inl, inr, refl, ap, sym, subst, ◌∙◌, arith}
use Rattle.std.proofs.lemmas.Bool.{cases_lt}
use Rattle.std.specs.Int.{IsPowerOfTwo}
use Rattle.std.specs.Prelude.{bit_and, ◌==◌, if◌then◌else◌}
use Rattle.many_maps.specs.Given.RawDeclared.machines.call.Calling.TheVariants as at
use Rattle.many_maps.specs.Given.RawDeclared.machines.answer.End.TheVariants as ends
use Rattle.many_maps.specs.Given.TablesDeclared.finding.Finding.TheVariants as is
use Rattle.many_maps.specs.Given.SeizeWordsDeclared.fault.Fault.TheVariants.{Memory}
use Rattle.many_maps.specs.Given.TablesDeclared.node.Node.TheVariants as nodes
use Rattle.many_maps.specs.Given.ResizeDeclared.yielding.Yielding.TheVariants as outcome
use Rattle.many_maps.specs.Given.SeizeDeclared.advance.Advance.TheVariants as progress
use Rattle.many_maps.specs.Given.SeizeDeclared.rows.settle.Settled.TheVariants as settled
use Rattle.many_maps.specs.Given.PointsFactsIdle.{IsIdle}
use Rattle.owner_facts.proofs.Alone.Lone.Awaits.{IsFresh, Proceeds, On, copying_place, ended_on, tableless_on, last_on, following_on, changed_on, counted_on, told_on, looked_on, first_on, next_on, helped_on, copied_on, disposed_on, asks_on}
use Rattle.many_maps.proofs.Given.RuleKeys.Always.{always_steps}

module _ {K V Q : Type 0} (same : K → K → Bool) (hash : K → ℕ) (asks : Q → K → Bool) (lawful : IsLawful same (spot_of hash)) (fits : (k : K) → hash k < 2 ^ 64)
    (setting : Setting) (initial_is : IsPowerOfTwo setting.initial) (w : World (Node K V)) (caller : ℕ) (c : Chart K) (blocks : Blocks) (keys : K → Bool)
    (map : IsMapIn same hash setting w c blocks) (others : OthersIdle caller c) where
  -- in incremental mode, no place is being copied
  none_copying : (bits : is_incremental setting.mode ≡ true) → ClaimsNone same hash w caller setting c blocks
      → (t i n : ℕ) (borrowed : Bool) → i < c.len t → c.place t i ≡ Holds n Copying borrowed → ⊥
  none_copying bits claims t i n borrowed inside copying = by (cases_lt t c.first)
    where
      rule : Rule same (spot_of hash) true c
      rule = subst (λ (x : Bool). Rule same (spot_of hash) x c) bits map.map.rule

      unsettled : is_settled (c.place t i) ≡ true → ⊥
      unsettled settled = let e = ap is_settled copying in cc (e, settled)

      marked : is_marked (c.place t i) ≡ true
      marked = ap is_marked copying

      at_root : t ≡ c.first → ⊥
      at_root e =
          elim (settled_or_own caller (c.share (suc c.first) i) (c.place t i) (λ j other. others j (suc c.first) i other)
          (subst (λ (u : ℕ). i < c.len u → Agrees (c.share (suc c.first) i) (c.place u i)) (sym e) (rule.in_mode.shares i) inside) marked) as (λ _. ⊥) [
            | inl settled ↦ unsettled settled
            | inr claimed ↦ claims i claimed
          ]

      by : (t < c.first) ⊎ (c.first ≤ t) → ⊥
      by (inl l) = unsettled (rule.in_mode.settled t i l inside)
      by (inr l) = elim (cases_lt c.first t) as (λ _. ⊥) [
        | inl m ↦ (let none = rule.common.unmarked t i m in cc (none, marked))
        | inr m ↦ at_root (omega (arith, l, m))
      ]

  module _ (change : Change) (p : KeyCall K V Q) (f : CallFacts same hash asks w caller setting c blocks keys change p)
      (m2 : Mem (Node K V)) (end : KeyCall K V Q × Called (Node K V)) where
    on_as : (other : KeyCall K V Q × Called (Node K V)) → end ≡ other → On p other → On p end
    on_as other is on = subst (λ (e : KeyCall K V Q × Called (Node K V)). On p e) (sym is) on

    idle_in : IsIdle same hash w caller setting c blocks → is_incremental setting.mode ≡ true → ClaimsNone same hash w caller setting c blocks
    idle_in idle bits =
        (subst (λ (x : Bool). cond x (HasDone same hash w caller setting c blocks 0 × ClaimsNone same hash w caller setting c blocks) (HasNoShares same hash w caller setting c blocks)) bits idle).1

    -- at a try
    module _ (idle : IsIdle same hash w caller setting c blocks) (t j : ℕ) (trial : IsTrial c blocks p.trial p.hash t j)
        (word : ℕ) (word_is : word ≡ place_word hash c blocks (c.place t (spot_at (c.len t) p.hash j))) (just_read : Bool) where
      flag_free : (flag : Bool) → finding p.setting.mode (aim_of p.missing) word flag ≢ is.Copying
      flag_free flag copying =
          let found = copying_place blocks.pair (λ n. byte_of hash (c.key n)) p.setting.mode (aim_of p.missing) (c.place t (spot_at (c.len t) p.hash j)) flag
          (shown_block hash w.memory c blocks setting.root map.map.shows (λ u i n phase borrowed e. (map.map.rule.common.keyed u i n phase borrowed e).0) t (spot_at (c.len t) p.hash j) trial.table.made trial.table.known)
          (shown_byte hash fits c.key (c.place t (spot_at (c.len t) p.hash j)))
          (sym (ap (λ (x : ℕ). finding p.setting.mode (aim_of p.missing) x flag) word_is) ∙ copying) in
          let bits : is_incremental setting.mode ≡ true = ap (λ (x : Setting). is_incremental x.mode) (sym f.setting_is) ∙ found.0 in
          none_copying bits (idle_in idle bits) t (spot_at (c.len t) p.hash j) found.1 found.2 (spot_inside (c.len t) p.hash j (map.map.rule.common.lens t trial.table.made).0) found.3

      flag_on : (flag : Bool) → end ≡ told just_read p word flag → On p end
      flag_on flag is = on_as (told just_read p word flag) is
          (let on = told_on p just_read word (finding p.setting.mode (aim_of p.missing) word flag) in (on.0 (flag_free flag), on.1))

      key_on : (key : Option K) → Ends (value_at w.memory) (key_read asks same just_read p word key) end → On p end
      key_on (Some key) ends = flag_on (names_pair (same key) ends.0) ends.2
      key_on None ends = flag_on (have_one_key same ends.0 ends.2.0) ends.2.2

      asked_on : (asked : Option Q) → Ends (value_at w.memory) (pair_read asks same just_read p word asked) end → On p end
      asked_on (Some q) ends = flag_on (names_pair (asks q) ends.0) ends.2
      asked_on None ends = key_on p.replies.key ends

      read_on : Ends (value_at w.memory) (word_read asks same just_read p word) end → On p end
      read_on ends =
          elim (ends_if (value_at w.memory) (may_name p.hash word) (pair_read asks same just_read p word p.asked) (Now (told just_read p word false)) end ends) as (λ _. On p end) [
            | inl h ↦ asked_on p.asked h.1
            | inr h ↦ flag_on false h.1
          ]

    link_on : (link : ℕ) (empty : KeyCall K V Q × Called (Node K V)) (on : Table → KeyCall K V Q × Called (Node K V)) → On p empty → ((table : Table) → On p (on table))
        → Ends (value_at w.memory) (if link == 0 then Now empty else Seeing (link / 2048) (λ value. Now (on (table_seen link value)))) end → On p end
    link_on link empty on none some ends =
        elim (ends_if (value_at w.memory) (link == 0) (Now empty) (Seeing (link / 2048) (λ value. Now (on (table_seen link value)))) end ends) as (λ _. On p end) [
          | inl h ↦ on_as empty h.1 none
          | inr h ↦ on_as (on (table_seen link h.1.0)) h.1.2 (some (table_seen link h.1.0))
        ]

    -- what machines within it tell
    lookup_on : (keys : K → Bool) (out : Lookup × Advance (Option ℕ)) → LookupOutcome same hash setting.mode setting.root keys p.hash c blocks out → out.1 ≢ progress.Waits
    lookup_on keys (next, progress.Goes) told e = cc
    lookup_on keys (next, progress.Waits) told e = told
    lookup_on keys (next, progress.Done found) told e = cc
    lookup_on keys (next, progress.Refused fault) told e = cc

    new_table_on : (w2 : World (Node K V)) (c2 : Chart K) (blocks2 : Blocks) (link : At) (turn : ℕ) (out : NewTable × Advance Table) → NewTableOutcome w2 caller setting c2 blocks2 link turn out → out.1 ≢ progress.Waits
    new_table_on w2 c2 blocks2 link turn (next, progress.Goes) told e = cc
    new_table_on w2 c2 blocks2 link turn (next, progress.Waits) told e = told
    new_table_on w2 c2 blocks2 link turn (next, progress.Done table) told e = cc
    new_table_on w2 c2 blocks2 link turn (next, progress.Refused fault) told e = cc

    copier_on : (c2 : Chart K) (out : Copier × Yielding (Node K V) Table) → LeadsAlone c2 caller out → out.1 ≢ outcome.Waits
    copier_on c2 (next, outcome.Goes) told e = cc
    copier_on c2 (next, outcome.Waits) told e = told
    copier_on c2 (next, outcome.Gave value) told e = cc
    copier_on c2 (next, outcome.Done table) told e = cc
    copier_on c2 (next, outcome.Refused fault) told e = cc

    dispose_on : (w2 : World (Node K V)) (c2 : Chart K) (blocks2 : Blocks) (out : Dispose × Settled (Node K V)) → DisposeOutcome w2 caller setting c2 blocks2 out → out.1 ≢ settled.Waits
    dispose_on w2 c2 blocks2 (next, settled.Goes) told e = cc
    dispose_on w2 c2 blocks2 (next, settled.Waits) told e = told
    dispose_on w2 c2 blocks2 (next, settled.Gave value) told e = cc
    dispose_on w2 c2 blocks2 (next, settled.Done) told e = cc

    abbrev Point : Change → Calling → Type 0
    Point x stands = CallingFacts same hash asks w caller setting c blocks keys x p stands

    abbrev Idle : Change → Type 0
    Idle x = IsIdle same hash w caller setting c blocks

    seeks : Idle Unchanged → HasIts same hash asks w caller setting c blocks keys Unchanged p → Seeking same hash asks caller setting keys w c blocks p
    seeks idle own = record { setting_is = f.setting_is; may = f.may; code = f.code; class = f.class; idle = idle; own = own }

    -- it does not wait, nor is it in the middle of a copying that it was not in before
    abbrev pub Goes : Calling → Type 0
    Goes stands = Proceeds end × ((IsCopying stands → ⊥) → IsFresh p.setting end.0.stands)

    goes : (stands : Calling) → On p end → Goes stands
    goes stands on = (on.0, λ other. on.1)

    -- until it has changed something
    seek_on : change ≡ Unchanged → (stands : Calling) → p.stands ≡ stands → Seeks same hash asks w caller setting c blocks keys Unchanged stands → Point Unchanged stands
        → ((IsCopying stands → ⊥) → Idle Unchanged) → ((IsCopying stands → ⊥) → Idle change) → (IsRowOfCall stands → ⊥) → AloneAtPoint (is_incremental setting.mode) c stands
        → Steps Took value_at w.memory (plan_at asks same hash p stands) m2 end → Goes stands
    seek_on e at.Makes here so point idle idle2 none alone s =
        goes at.Makes
        (elim (made_by_step w.memory (made p) (nodes.Pair point.3 point.4) 0 m2 end (subst (λ plan. Steps Took value_at w.memory plan m2 end) (ap (makes_of p) point.5) s)) as (λ _. On p end) [
          | inl d ↦ on_as _ d.3 (tt, tt)
          | inr d ↦ on_as _ d.3 ((ends.Refused Memory, refl), tt)
        ])
    seek_on e (at.Looks l) here so point idle idle2 none alone s =
        let these : Steps Took value_at w.memory (looks_for asks p l (Some point.3)) m2 end = subst (λ (a : Option Q). Steps Took value_at w.memory (looks_for asks p l a) m2 end) point.4 s in
        let d = steps_back (looked p) w.memory m2 (lookup_plan (asks point.3) l) end these in
        let told = went_lookup same hash lawful fits setting.mode setting.root (asks point.3) p.hash
        (class_asked same hash setting.mode setting.root keys (asks point.3) point.5 p.hash f.class) w.memory c blocks map.map l
        (lookup_asked same hash setting.mode setting.root keys (asks point.3) point.5 p.hash c blocks l point.6) m2 d.0 d.1 in
        goes (at.Looks l) (on_as (looked p d.0) d.2 (looked_on p d.0 (lookup_on (asks point.3) d.0 told.1)))
    seek_on e at.Roots here so point idle idle2 none alone s =
        let d = loaded w.memory (root_found p) (Root p.setting.root) m2 end s in
        goes at.Roots (link_on d.0 (tableless p.missing p) (entering p) (tableless_on p p.missing) (λ table. (tt, tt)) d.3)
    seek_on e at.Probes here so point idle idle2 none alone s =
        let d = loaded w.memory (word_found asks same p) (place_tried p.trial) m2 end s in
        goes at.Probes
        (read_on (idle2 (λ h. h)) point.1.0 point.1.1 point.1.2 d.0
        (found_is same hash asks caller setting keys lawful fits w c blocks map p (seeks (idle (λ h. h)) point.0) point.1.0 point.1.1 point.1.2 d.0 d.1) true d.3)
    seek_on e (at.Tries word new) here so point idle idle2 none alone s =
        goes (at.Tries word new) (elim (exchanged w.memory (tried asks same p word new) (place_tried p.trial) word new m2 end s) as (λ _. On p end) [
          | inl d ↦ on_as (changed p word new) d.3 (changed_on p word new)
          | inr d ↦ read_on (idle2 (λ h. h)) point.2.0 point.2.1 point.2.2 d.0
              (found_is same hash asks caller setting keys lawful fits w c blocks map p (seeks (idle (λ h. h)) point.0) point.2.0 point.2.1 point.2.2 d.0 d.1.0) false d.3
        ])
    seek_on e at.Nexts here so point idle idle2 none alone s =
        let d = loaded w.memory (next_found p) (at_word p.trial.table NEXT) m2 end s in
        goes at.Nexts (link_on d.0 (at_last p.missing p) (continued_in p) (last_on p p.missing) (λ table. following_on p table) d.3)
    seek_on e (at.Firsts making) here so point idle idle2 none alone s =
        let d = steps_back (first_made p) w.memory m2 (new_table_plan making) end s in
        let went = went_new_table_lowers same hash w setting c blocks map caller (Root setting.root) 0 initial_is lawful making point.2 m2 d.0 d.1 in
        goes (at.Firsts making) (on_as (first_made p d.0) d.2 (first_on p d.0 (new_table_on went.w2 went.c2 went.blocks2 (Root setting.root) 0 d.0 went.told.2)))
    seek_on e (at.Allocs making) here so point idle idle2 none alone s =
        let d = steps_back (next_made p) w.memory m2 (new_table_plan making) end s in
        let went = went_new_table_lowers same hash w setting c blocks map caller (Word (blocks.table point.1) NEXT) (suc point.1) initial_is lawful making point.3 m2 d.0 d.1 in
        goes (at.Allocs making)
        (on_as (next_made p d.0) d.2 (next_on p d.0 (new_table_on went.w2 went.c2 went.blocks2 (Word (blocks.table point.1) NEXT) (suc point.1) d.0 went.told.2)))
    seek_on e (at.Helps copier goal) here so (own, bits, part, t, entered, shut, facts) idle idle2 none alone s =
        let d = steps_back (helped p goal) w.memory m2 (copier_plan hash copier) end s in
        let on = helped_on p goal d.0 (helper_goes same hash setting bits initial_is lawful fits w caller c blocks map copier m2 d.0 facts none d.1 part) in
        (subst (λ (e : KeyCall K V Q × Called (Node K V)). Proceeds e) (sym d.2) on, λ other. absurd (other tt))
    seek_on e (at.Copies copier) here so point idle idle2 none alone s =
        let d = steps_back (copied p) w.memory m2 (copier_plan hash copier) end s in
        let went = went_copier_blocking_alone same hash fits lawful caller setting point.1 initial_is w c blocks map copier point.2 none m2 d.0 d.1 in
        let on = copied_on p d.0 (copier_on went.c2 d.0 (went.told.1 (others, alone))) in
        (subst (λ (e : KeyCall K V Q × Called (Node K V)). Proceeds e) (sym d.2) on, λ other. absurd (other tt))
    seek_on e (at.Asks asks_at) here so point idle idle2 none alone s = goes (at.Asks asks_at) (always_steps (On p) w.memory m2 (plan_at asks same hash p (at.Asks asks_at)) end (asks_on p asks_at here) s)
    seek_on e (at.Drops over) here so point idle idle2 none alone s = let d = taken w.memory (dropped p over) (p.own / 2048) m2 end s in goes (at.Drops over) (on_as _ d.3 ((over, refl), tt))
    seek_on e (at.Counts removed) here so point idle idle2 none alone s = absurd so
    seek_on e (at.Disposes dispose answer) here so point idle idle2 none alone s = absurd so
    seek_on e (at.Over over) here so point idle idle2 none alone s = absurd so

    unchanged_on : (stands : Calling) → p.stands ≡ stands → Seeks same hash asks w caller setting c blocks keys Unchanged stands → Seeks same hash asks w caller setting c blocks keys change stands
        → Point change stands → ((IsCopying stands → ⊥) → Idle change) → (IsRowOfCall stands → ⊥) → AloneAtPoint (is_incremental setting.mode) c stands
        → Steps Took value_at w.memory (plan_at asks same hash p stands) m2 end → Goes stands
    unchanged_on stands here so so2 point idle none alone s =
        let e = f.unchanged (subst (λ (x : Calling). Seeks same hash asks w caller setting c blocks keys change x) (sym here) so2) in
        seek_on e stands here so (subst (λ (x : Change). Point x stands) e point) (subst (λ (x : Change). (IsCopying stands → ⊥) → Idle x) e idle) idle none alone s

    goes_at : (stands : Calling) → p.stands ≡ stands → Point change stands → ((IsCopying stands → ⊥) → Idle change) → (IsRowOfCall stands → ⊥) → AloneAtPoint (is_incremental setting.mode) c stands
        → Steps Took value_at w.memory (plan_at asks same hash p stands) m2 end → Goes stands
    goes_at at.Makes here point idle none alone s = unchanged_on at.Makes here tt tt point idle none alone s
    goes_at (at.Looks l) here point idle none alone s = unchanged_on (at.Looks l) here tt tt point idle none alone s
    goes_at at.Roots here point idle none alone s = unchanged_on at.Roots here tt tt point idle none alone s
    goes_at at.Probes here point idle none alone s = unchanged_on at.Probes here tt tt point idle none alone s
    goes_at (at.Tries word new) here point idle none alone s = unchanged_on (at.Tries word new) here tt tt point idle none alone s
    goes_at at.Nexts here point idle none alone s = unchanged_on at.Nexts here tt tt point idle none alone s
    goes_at (at.Firsts making) here point idle none alone s = unchanged_on (at.Firsts making) here tt tt point idle none alone s
    goes_at (at.Allocs making) here point idle none alone s = unchanged_on (at.Allocs making) here tt tt point idle none alone s
    goes_at (at.Helps copier goal) here point idle none alone s = unchanged_on (at.Helps copier goal) here tt tt point idle none alone s
    goes_at (at.Copies copier) here point idle none alone s = unchanged_on (at.Copies copier) here tt tt point idle none alone s
    goes_at (at.Asks asks_at) here point idle none alone s = unchanged_on (at.Asks asks_at) here tt tt point idle none alone s
    goes_at (at.Drops over) here point idle none alone s = unchanged_on (at.Drops over) here tt tt point idle none alone s
    goes_at (at.Counts removed) here point idle none alone s =
        let d = added w.memory (λ out. Now (counted p removed)) (Word p.setting.counter (bit_and p.setting.slot p.setting.mask)) (count_change removed) m2 end s in
        goes (at.Counts removed) (on_as (counted p removed) d.3 (counted_on p removed))
    goes_at (at.Disposes dispose answer) here point idle none alone s =
        let d = steps_back (disposed p answer) w.memory m2 (dispose_plan dispose) end s in
        let went = went_dispose_lowers same hash setting w caller c blocks map dispose point.0 none m2 d.0 d.1 in
        goes (at.Disposes dispose answer) (on_as (disposed p answer d.0) d.2 (disposed_on p answer d.0 (dispose_on went.w2 went.c2 went.blocks2 d.0 went.told.2)))
    goes_at (at.Over over) here point idle none alone s = goes (at.Over over) (on_as (p, ended over) s.1 (ended_on p p over, subst (IsFresh p.setting) (sym here) tt))

    -- a call that is alone goes on, or ends
    pub call_goes : (IsRowOfCall p.stands → ⊥) → AloneAtPoint (is_incremental setting.mode) c p.stands → Steps Took value_at w.memory (call_plan asks same hash p) m2 end → Goes p.stands
    call_goes none alone s = goes_at p.stands refl f.point f.idle none alone s
