-- A making has its first table made and linked: its map stands with it, or without one if that is refused for want of a length or of memory.
use Rattle.std.specs.Prelude.{◌≡◌, ◌≢◌, ℕ, ◌*◌, ◌<◌, Bool, max, Some, ◌⊎◌}
use Rattle.std.specs.Int.{IsPowerOfTwo}
use Rattle.std.proofs.Common.{refl, ap, sym, subst, ◌∙◌, inl, inr, arith}
use Rattle.many_calls.specs.Given.SeizeWordsDeclared.at.At.{At}
use Rattle.many_calls.specs.Given.SeizeWordsDeclared.at.At.TheVariants.{Root, Used, Entry, Word}
use Rattle.many_calls.specs.Given.SeizeWordsMem.{Mem, value_at, word_at, Can, Took}
use Rattle.many_calls.specs.Given.SeizeWordsPlan.{May, Steps, plan_as}
use Rattle.many_calls.proofs.Given.SeizeWordsPlans.{as_may}
use Rattle.many_calls.proofs.Given.SeizeRuleRows.Leaving.{steps_back}
use Rattle.many_calls.specs.Given.SeizeLaw.{Place, Nowhere, Standing, With, where_is, owner_of}
use Rattle.many_calls.specs.Given.SeizeWorld.{World, Row, Making, Runs, IsOnto}
use Rattle.many_calls.specs.Given.SeizeDeclared.advance.Advance.{Advance}
use Rattle.many_calls.specs.Given.SeizeDeclared.states.TheConstants.{NEXT}
use Rattle.many_calls.specs.Given.SeizeDeclared.advance.Advance.TheVariants as progress
use Rattle.many_calls.specs.Given.TablesChunks.{is_incremental}
use Rattle.many_calls.specs.Given.TablesNodes.{deferred_word}
use Rattle.many_calls.specs.Given.TablesDeclared.node.Node.{Node}
use Rattle.many_calls.specs.Given.TablesDeclared.setting.Setting.{Setting}
use Rattle.many_calls.specs.Given.TablesDeclared.table.Table.{Table}
use Rattle.many_calls.specs.Given.ResizeNewMap.{opened}
use Rattle.many_calls.specs.Given.ResizeNewTable.{new_table_plan}
use Rattle.many_calls.specs.Given.ResizeDeclared.new_map.NewMap.{NewMap}
use Rattle.many_calls.specs.Given.ResizeDeclared.new_map.Opening.TheVariants as at
use Rattle.many_calls.specs.Given.ResizeDeclared.new_table.NewTable.{NewTable}
use Rattle.many_calls.specs.Given.ResizeDeclared.new_table.Making.{Making as Point}
use Rattle.many_calls.specs.Given.ResizeDeclared.new_table.Making.TheVariants as makes
use Rattle.many_calls.specs.Given.RuleBeside.{KeptBeside, IsBeside}
use Rattle.many_calls.specs.Given.RuleChart.{Chart}
use Rattle.many_calls.specs.Given.RuleInWorld.{IsOut, IsIts, IsKnownBlock, InFootprint, IsMapIn, StepSpec}
use Rattle.many_calls.specs.Given.RuleMaps.{spot_of}
use Rattle.many_calls.specs.Given.RuleMoments.{Moments}
use Rattle.many_calls.specs.Given.RuleMoves.{Links, after}
use Rattle.many_calls.specs.Given.RuleRule.{no_table}
use Rattle.many_calls.specs.Given.RuleWords.{Blocks}
use Rattle.many_calls.proofs.Given.RuleHistory.History.{history_begins}
use Rattle.many_calls.proofs.Given.RuleWorld.BesideKept.{steps_spare_others}
use Rattle.many_calls.proofs.Given.RuleWorld.CounterSpared.{spares_counter}
use Rattle.many_calls.proofs.Given.RuleWorld.WentTold.{went_as}
use Rattle.many_calls.specs.Given.PointsFactsTables.{MakingFacts as TableFacts, NewTableFacts}
use Rattle.many_calls.specs.Given.PointsTold.{NewTableOutcome, LinksLast}
use Rattle.many_calls.proofs.Given.LateKnown.Steps.{moments_on}
use Rattle.many_calls.proofs.Given.PointsMaking.NewTable.{may_new_table, went_new_table_lowers}
use Rattle.many_calls.specs.Kept.{IsMaking}
use Rattle.many_maps.specs.Makings.{Beginning, HasTaken, HasMade, HasRoots, IsTakenRoot, HasOwnCounter, OpeningFacts, MakingFacts, IsFirstTable, PreservesItsOwn}
use Rattle.many_calls.specs.Together.{CameAbout, no_blocks}
use Rattle.many_calls.proofs.MapBegins.{map_begins}
use Rattle.many_maps.proofs.Beside.Makings.FirstLengths.{LensTo, lens_told}
use Rattle.many_maps.proofs.Beside.Makings.FirstTable.{first_table_together}
use Rattle.many_maps.proofs.Beside.Makings.Leaves.{IsItsBlock, LeavesOthers, came_then}
use Rattle.many_maps.proofs.Beside.Makings.Outs.{out_from}
use Rattle.many_maps.proofs.Beside.Makings.Went.{GoesTo, MakesMap, MakingWent, facts_at}
use Rattle.many_calls.proofs.Rows.Behind.{carrier_not_made, events_back}
use Rattle.many_calls.proofs.Rows.Owned.{events_owned}
use Rattle.many_calls.proofs.Together.Came.{came_reached, none_onto_made}
use Rattle.many_calls.proofs.Together.Users.{events_rows}

-- of a map without a table nothing may be looked at, whatever is said of its blocks
module _ {K V : Type 0} (w : World (Node K V)) (i : ℕ) (setting : Setting) (blocks : Blocks) where
  point_unseen : (stands : Point) → TableFacts w i setting (no_table {K = K}) blocks (Root setting.root) 0 stands → TableFacts w i setting (no_table {K = K}) no_blocks (Root setting.root) 0 stands
  point_unseen (makes.Sums before reason sum) h = absurd (let made = h.0.1.made in omega (arith, made))
  point_unseen (makes.Makes table) h = h
  point_unseen (makes.Promotes table) h = h
  point_unseen (makes.Links table) h = h
  point_unseen (makes.Drops table found) h = absurd (let made = h.3 in omega (arith, made))
  point_unseen (makes.Over table) h = absurd (let made = h.2.made in omega (arith, made))
  point_unseen (makes.Refused fault) h = h

  facts_unseen : (n : NewTable) → NewTableFacts w i setting (no_table {K = K}) blocks (Root setting.root) 0 n → NewTableFacts w i setting (no_table {K = K}) no_blocks (Root setting.root) 0 n
  facts_unseen n h = record { setting_is = h.setting_is; link_is = h.link_is; link_of = inl (refl, refl); point = point_unseen n.stands h.point }

module _ {K Q : Type 0} (V : Type 0) (same : K → K → Bool) (asks : Q → K → Bool) (batch_size roots : ℕ) (slot : ℕ → ℕ) (w : World (Node K V)) (came : CameAbout batch_size w) (i : ℕ) (b : Beginning K)
    (f : MakingFacts w same batch_size roots i b) (free : HasRoots w roots) (making : NewTable) (here : b.machine.stands ≡ at.Tables making) (point : OpeningFacts w roots i b.machine (at.Tables making)) where
  abbrev its : Setting
  its = b.machine.setting

  taken : HasTaken b.machine.stands
  taken = subst HasTaken (sym here) tt

  made : HasMade b.machine.stands
  made = subst HasMade (sym here) tt

  batches : b.machine.setting.batch_size ≡ batch_size
  batches = ap (λ (s : Setting). s.batch_size) f.setting_is ∙ f.batches

  power : IsPowerOfTwo b.machine.setting.initial
  power = subst IsPowerOfTwo (sym (ap (λ (s : Setting). s.initial) f.setting_is)) f.initial

  -- as its calls see it, its map has no table
  map : IsMapIn same b.hash b.machine.setting w no_table no_blocks
  map = map_begins same b.hash its w point.0.1 point.1.value point.1.shards

  pub may_tables : May Can Took value_at w.memory (plan_as (opened b.machine) (new_table_plan {K = K} {V = V} making))
  may_tables = as_may (opened b.machine) Can Took value_at w.memory (new_table_plan making) (may_new_table same b.hash w its no_table no_blocks map i (Root its.root) 0 power making point.2)

  -- what is the step's own is the making's
  its_block : (x : ℕ) → IsIts i w (no_table {K = K}) no_blocks x → IsItsBlock i b.machine w x
  its_block x (inl own) = (own.0, inl own.1)
  its_block x (inr (inl (t, l, known, is))) = absurd (cc known)
  its_block x (inr (inr (p, l, known, is))) = absurd (cc known)

  module _ (m2 : Mem (Node K V)) (Told : World (Node K V) → Chart K → Blocks → Type 0) (went : StepSpec same b.hash b.machine.setting i w no_table no_blocks m2 Told) where
    beside : (x : ℕ) (value : Node K V) → value_at w.memory x ≡ Some value → (IsItsBlock i b.machine w x → ⊥) → KeptBeside i w (no_table {K = K}) no_blocks x w went.w2
    beside x value there other = steps_spare_others V same b.hash its i w no_table no_blocks m2
        (went_as same b.hash its i w no_table no_blocks m2 Told (λ w3 c3 b3. Unit {0}) (λ w3 c3 b3 map moved blocks_same told. tt) went) x value there (λ own. other (its_block x own))

    word_stays : (name : At) (word : ℕ) → word_at w.memory name ≡ Some word → (InFootprint b.machine.setting i w (no_table {K = K}) no_blocks name → ⊥) → word_at went.w2.memory name ≡ Some word
    word_stays name word is apart = ap (λ (x : Mem (Node K V)). word_at x name) went.memory ∙ went.frame.words name word is apart

    written : (x field : ℕ) → InFootprint b.machine.setting i w (no_table {K = K}) no_blocks (Word x field) → IsItsBlock i b.machine w x
    written x field (inl known) = absurd (let seen = known.2 in cc seen)
    written x field (inr (inl own)) = (own.0, inl own.1)
    written x field (inr (inr is)) = (ap w.hand is ∙ point.1.hand, inr (made, is))

    beside_place : (x : ℕ) (p : Place) → where_is x w.log ≡ p → IsBeside i w (no_table {K = K}) no_blocks p
    beside_place x Nowhere e = tt
    beside_place x Standing e = tt
    beside_place x (With t) e = λ own. carrier_not_made deferred_word batch_size w (came_reached batch_size w came) x t e i (its_block t own).0

    used_stays : (r word : ℕ) → word_at w.memory (Used r) ≡ Some word → word_at went.w2.memory (Used r) ≡ Some word
    used_stays r word is = word_stays (Used r) word is (λ none. none)

    left : LeavesOthers i b.machine w went.w2 batch_size roots
    left = record {
      events = went.events;
      users = went.users;
      runs = subst (λ (size : ℕ). Runs deferred_word size went.events w went.w2) batches went.runs;
      blocks = λ x value there other. let k = beside x value there other in record {
        value = k.value;
        words = λ field word is. word_stays (Word x field) word is (λ own. other (written x field own));
        hand = k.hand;
        owner = k.owner;
        orphan = k.orphan;
        over = k.over;
        link = λ word apart is. word_stays (Entry x NEXT) word is apart;
        place = k.place (where_is x w.log) (beside_place x (where_is x w.log) refl) refl;
      };
      root = λ r word is other. word_stays (Root r) word is (λ e. other (taken, e));
      used = λ r is other. used_stays r 1 is;
      free = λ r l. let h = free r l in
          (h.0, used_stays r h.0 h.1, λ none. word_stays (Root r) 0 (h.2 none) (λ e. not_free r h.0 h.1 none e));
      own = went.spares;
    }
      where
        not_free : (r used : ℕ) → word_at w.memory (Used r) ≡ Some used → used ≡ 0 → r ≡ b.machine.setting.root → ⊥
        not_free r used is none e = (let one = point.0.0 in let zero_there = subst (λ (x : ℕ). word_at w.memory (Used x) ≡ Some used) e is in cc (one, zero_there, none))

    hand2 : went.w2.hand b.machine.setting.counter ≡ Making i
    hand2 = spares_counter same b.hash its w no_table no_blocks map i m2 Told went i point.1.hand

    used2 : word_at went.w2.memory (Used b.machine.setting.root) ≡ Some 1
    used2 = used_stays its.root 1 point.0.0

    came2 : CameAbout b.machine.setting.batch_size went.w2
    came2 = subst (λ (size : ℕ). CameAbout size went.w2) (sym batches) (came_then batch_size roots i b.machine w went.w2 came left)

    moments2 : Moments (is_incremental b.machine.setting.mode) went.c2
    moments2 = moments_on same b.hash its f.lawful i w no_table no_blocks map (history_begins K (is_incremental its.mode)) m2 Told went

    owned2 : (t : ℕ) → t < went.c2.past → IsOut (went.w2.hand (went.blocks2.table t)) → owner_of (went.blocks2.table t) went.w2.log ≡ b.machine.setting.counter
    owned2 t l out =
        let x = went.blocks2.table t in
        let own : w.hand x ≡ Making i = went.links.tables t (omega arith) l in
        events_owned its i w no_table no_blocks x its.batch_size went.events w went.w2 went.its went.runs (λ was. absurd (subst IsOut own was)) out

    -- no table was linked
    unlinked_then : went.c2 ≡ no_table → IsTakenRoot went.w2 b.machine.setting.root × HasOwnCounter went.w2 i b.machine.setting
    unlinked_then none =
        let map2 = subst (λ (x : Chart K). IsMapIn same b.hash its went.w2 x went.blocks2) none went.map in
        ((used2, map2.map.shows.root_there), record { hand = hand2; value = map2.counter; shards = map2.shards })

    -- or the first one was
    linked_then : (len limit : ℕ) → len ≡ max b.machine.len 8 → went.c2 ≡ after (spot_of b.hash) (is_incremental b.machine.setting.mode) (Links len limit) no_table → MakesMap V same asks batch_size roots slot w i b went.w2 b.machine.setting
    linked_then len limit long is = record {
      s = record { setting = its; hash = b.hash; chart = after (spot_of b.hash) (is_incremental b.machine.setting.mode) (Links len limit) no_table; blocks = went.blocks2; sights = λ s. record { tables = went.blocks2.table_known; pairs = went.blocks2.pair_known } };
      made = record { setting_is = refl; answer_is = f.setting_is; hash_is = refl; chart_is = inr (subst (λ (x : ℕ). x ≢ 0) f.len_is point.3, limit, ap (λ (x : ℕ). after (spot_of b.hash) (is_incremental its.mode) (Links x limit) no_table) (long ∙ ap (λ (x : ℕ). max x 8) f.len_is)) };
      together = λ calls none.
          first_table_together same b.hash asks its slot went.w2 len limit went.blocks2 came2 map2 (subst (Moments (is_incremental its.mode)) is moments2) owned3 none_behind none_onto
          (subst IsMaking (sym hand2) tt) calls none;
      root = inl (taken, refl);
      counter = inl (made, refl);
      used = used2;
    }
      where
        map2 : IsMapIn same b.hash b.machine.setting went.w2 (after (spot_of b.hash) (is_incremental b.machine.setting.mode) (Links len limit) no_table) went.blocks2
        map2 = subst (λ (x : Chart K). IsMapIn same b.hash its went.w2 x went.blocks2) is went.map

        first_made : w.hand (went.blocks2.table 0) ≡ Making i
        first_made = went.links.tables 0 (omega arith) (subst (λ (x : Chart K). 0 < x.past) (sym is) (omega arith))

        none_behind : (x : ℕ) → where_is x went.w2.log ≡ With (went.blocks2.table 0) → ⊥
        none_behind x at =
            let lay = events_back deferred_word its.batch_size x (went.blocks2.table 0) went.events w went.w2 (came_reached its.batch_size w (subst (λ (size : ℕ). CameAbout size w) (sym batches) came)) went.users went.runs at in
            carrier_not_made deferred_word batch_size w (came_reached batch_size w came) x (went.blocks2.table 0) lay.0 i first_made

        none_onto : (j : ℕ) → IsOnto (went.blocks2.table 0) (went.w2.row j) → ⊥
        none_onto j on =
            none_onto_made batch_size w came j (went.blocks2.table 0) i
            (subst (IsOnto (went.blocks2.table 0)) (ap (λ (f : ℕ → Row). f j) (events_rows its.batch_size went.events w went.w2 went.users went.runs)) on) first_made

        owned3 : owner_of (went.blocks2.table 0) went.w2.log ≡ b.machine.setting.counter
        owned3 = owned2 0 (subst (λ (x : Chart K). 0 < x.past) (sym is) (omega arith)) (subst IsOut (sym (map2.tables 0 (omega arith) (omega arith))) tt)

    goes_to : (end : NewTable × Advance Table) → LensTo (max b.machine.len 8) end → LinksLast b.hash b.machine.setting.mode 0 no_table went.c2 end → NewTableOutcome went.w2 i b.machine.setting went.c2 went.blocks2 (Root b.machine.setting.root) 0 end
        → GoesTo V same asks batch_size roots slot w i b went.w2 (opened b.machine end)
    goes_to (making2, progress.Goes) lens links told = (
      facts_at V same asks batch_size roots slot w i b f free went.w2 (record b.machine { stands = at.Tables making2 }) f.setting_is refl refl
          (let u = unlinked_then none in (u.0, u.1, facts_unseen went.w2 i its went.blocks2 making2 (subst (λ (x : Chart K). NewTableFacts went.w2 i its x went.blocks2 (Root its.root) 0 making2) none told), point.3, lens)),
      λ has. inl (taken, refl),
      λ has. inl (made, refl),
    )
      where
        none : went.c2 ≡ no_table
        none = elim links as (λ _. went.c2 ≡ no_table) [
          | inl e ↦ e
          | inr l ↦ absurd (let is = l.2 in cc is)
        ]
    goes_to (making2, progress.Waits) lens links told = absurd told
    goes_to (making2, progress.Done table) lens links told = elim links as (λ _. MakesMap V same asks batch_size roots slot w i b went.w2 b.machine.setting) [
      | inl e ↦ absurd (let there = told.2.made in let past = ap (λ (x : Chart K). x.past) e in omega (arith, there, past))
      | inr l ↦ linked_then l.1.len l.1.limit (ap (λ (x : Table). x.len) (same_table l.1 table l.2) ∙ lens) l.3
    ]
      where
        same_table : (x y : Table) → progress.Done y ≡ progress.Done x → x ≡ y
        same_table x y e = cc e
    goes_to (making2, progress.Refused fault) lens links told = (
      facts_at V same asks batch_size roots slot w i b f free went.w2 (record b.machine { stands = at.Unmakes fault }) f.setting_is refl refl (unlinked_then none),
      λ has. inl (taken, refl),
      λ has. inl (made, refl),
    )
      where
        none : went.c2 ≡ no_table
        none = elim links as (λ _. went.c2 ≡ no_table) [
          | inl e ↦ e
          | inr l ↦ absurd (let is = l.2 in cc is)
        ]

    keeps_to : (end : NewTable × Advance Table) → NewTableOutcome went.w2 i b.machine.setting went.c2 went.blocks2 (Root b.machine.setting.root) 0 end
        → PreservesItsOwn V same asks batch_size roots slot w went.w2 b.machine (opened b.machine end)
    keeps_to (making2, progress.Goes) told = (λ has. (tt, refl), λ has. inl (tt, refl))
    keeps_to (making2, progress.Waits) told = told
    keeps_to (making2, progress.Done table) told = (λ has. refl, λ has. refl)
    keeps_to (making2, progress.Refused fault) told = (λ has. (tt, refl), λ has. inl (tt, refl))

    -- a block that it had made comes out as its map's first table
    none_known : (x : ℕ) → IsKnownBlock (no_table {K = K}) went.blocks2 x → ⊥
    none_known x (inl (t, l, known, is)) = omega (arith, l)
    none_known x (inr (n, l, known, is)) = omega (arith, l)

    first_known : (x len limit : ℕ) → IsKnownBlock (after (spot_of b.hash) (is_incremental b.machine.setting.mode) (Links len limit) no_table) went.blocks2 x → x ≡ went.blocks2.table 0
    first_known x len limit (inl (t, l, known, is)) = is ∙ ap went.blocks2.table (let e : t ≡ 0 = omega (arith, l) in e)
    first_known x len limit (inr (n, l, known, is)) = absurd (omega (arith, l))

    led : (x len limit : ℕ) → went.c2 ≡ after (spot_of b.hash) (is_incremental b.machine.setting.mode) (Links len limit) no_table → IsKnownBlock went.c2 went.blocks2 x
        → word_at went.w2.memory (Root b.machine.setting.root) ≡ Some (x * 2048)
    led x len limit is known =
        let map2 = subst (λ (y : Chart K). IsMapIn same b.hash its went.w2 y went.blocks2) is went.map in
        map2.map.shows.root_there ∙ ap (λ (y : ℕ). Some (y * 2048)) (sym (first_known x len limit (subst (λ (y : Chart K). IsKnownBlock y went.blocks2 x) is known)))

    comes_first : (x : ℕ) (end : NewTable × Advance Table) → LinksLast b.hash b.machine.setting.mode 0 no_table went.c2 end → IsKnownBlock went.c2 went.blocks2 x → IsFirstTable went.w2 (opened b.machine end) x
    comes_first x (making2, said) (inl e) known = absurd (none_known x (subst (λ (y : Chart K). IsKnownBlock y went.blocks2 x) e known))
    comes_first x (making2, progress.Done table) (inr l) known = led x l.1.len l.1.limit l.3 known
    comes_first x (making2, progress.Goes) (inr l) known = absurd (let is = l.2 in cc is)
    comes_first x (making2, progress.Waits) (inr l) known = absurd (let is = l.2 in cc is)
    comes_first x (making2, progress.Refused fault) (inr l) known = absurd (let is = l.2 in cc is)

    links_its : (x : ℕ) (end : NewTable × Advance Table) → LinksLast b.hash b.machine.setting.mode 0 no_table went.c2 end → IsOut (went.w2.hand x) → IsOut (w.hand x) ⊎ IsFirstTable went.w2 (opened b.machine end) x
    links_its x end links out =
        elim (out_from its i w no_table no_blocks (λ y known. absurd (none_known_before y known)) x its.batch_size went.events went.w2 went.its went.runs out) as (λ _. IsOut (w.hand x) ⊎ IsFirstTable went.w2 (opened b.machine end) x) [
          | inl was ↦ inl was
          | inr own ↦ inr (comes_first x end links (went.links.known x own out))
        ]
      where
        none_known_before : (y : ℕ) → IsKnownBlock (no_table {K = K}) no_blocks y → ⊥
        none_known_before y (inl (t, l, known, is)) = omega (arith, l)
        none_known_before y (inr (n, l, known, is)) = omega (arith, l)

  pub went_tables : (m2 : Mem (Node K V)) (end : NewMap × Advance Setting) → Steps Took value_at w.memory (plan_as (opened b.machine) (new_table_plan making)) m2 end
      → MakingWent V same asks batch_size roots slot w i b m2 end
  went_tables m2 end s =
      let back = steps_back (opened b.machine) w.memory m2 (new_table_plan making) end s in
      let went = went_new_table_lowers same b.hash w its no_table no_blocks map i (Root its.root) 0 power f.lawful.lawful making point.2 m2 back.0 back.1 in
      record {
        w2 = went.w2;
        memory = went.memory;
        left = left m2 _ went;
        keeps = subst (PreservesItsOwn V same asks batch_size roots slot w went.w2 b.machine) (sym back.2) (keeps_to m2 _ went back.0 went.told.2);
        unused = λ r is. inl (used_stays m2 _ went r 0 is);
        links = λ x out. subst (λ (e : NewMap × Advance Setting). IsOut (w.hand x) ⊎ IsFirstTable went.w2 e x) (sym back.2) (links_its m2 _ went x back.0 went.told.1 out);
        told = subst (GoesTo V same asks batch_size roots slot w i b went.w2) (sym back.2) (goes_to m2 _ went back.0 (lens_told w i its no_blocks w.memory making (max b.machine.len 8) point.2 point.4 m2 back.0 back.1) went.told.1 went.told.2);
      }
