-- The beginning of a map that runs alone: each of its steps, and how the map rests at its end.
use Rattle.std.specs.Prelude.{◌==◌, ◌-◌, ◌%◌, nat_lt, if◌then◌else◌}
use Rattle.std.specs.Int.{IsPowerOfTwo}
use Rattle.std.proofs.Common.{◌≡◌, ℕ, suc, ◌+◌, ◌*◌, ◌^◌, ◌<◌, Bool, true, false, cond, Some, ◌⊎◌, inl, inr, refl, arith, ap, sym, subst, ◌∙◌}
use Rattle.std.proofs.lemmas.Bool.{cases_eq}
use Rattle.many_maps.specs.Given.SeizeWordsDeclared.at.At.TheVariants.{Root, Used}
use Rattle.many_maps.specs.Given.SeizeWordsDeclared.fault.Fault.TheVariants.{RootsUsedUp}
use Rattle.many_maps.specs.Given.SeizeWordsMem.{Mem, Can, Took, value_at, word_at}
use Rattle.many_maps.specs.Given.SeizeWordsPlan.{Now, May, Steps}
use Rattle.many_maps.proofs.Given.SeizeWordsOneOwner.Operations.{exchanged, stored, made as make_made, taken}
use Rattle.many_maps.proofs.Given.SeizeRuleRows.Leaving.{steps_back}
use Rattle.many_maps.proofs.Given.SeizeAloneHistories.Reached.{Reached, history_reached}
use Rattle.many_maps.proofs.Given.SeizeAloneHistories.UsersTurn.{users_turn}
use Rattle.many_maps.specs.Given.SeizeWorld.{World}
use Rattle.many_maps.specs.Given.SeizeAloneAlone.{History, IsHistory, at_rest}
use Rattle.many_maps.specs.Given.SeizeDeclared.advance.Advance.{Advance}
use Rattle.many_maps.specs.Given.SeizeDeclared.advance.Advance.TheVariants as progress
use Rattle.many_maps.specs.Given.TablesChunks.{is_incremental}
use Rattle.many_maps.specs.Given.ResizeNewMap.{at_root, with_counter, next_root, taken as root_taken, with_shards, made, opened, refused, done, goes, plan_at, new_map_plan}
use Rattle.many_maps.specs.Given.ResizeNewTable.{first_table, new_table_plan}
use Rattle.many_maps.specs.Given.TablesNodes.{deferred_word}
use Rattle.many_maps.specs.Given.TablesDeclared.node.Node.{Node}
use Rattle.many_maps.specs.Given.TablesDeclared.node.Node.TheVariants as node
use Rattle.many_maps.specs.Given.TablesDeclared.setting.Setting.{Setting}
use Rattle.many_maps.specs.Given.TablesDeclared.table.Table.{Table}
use Rattle.many_maps.specs.Given.ResizeDeclared.new_map.NewMap.{NewMap}
use Rattle.many_maps.specs.Given.ResizeDeclared.new_map.Opening.{Opening}
use Rattle.many_maps.specs.Given.ResizeDeclared.new_map.Opening.TheVariants as at
use Rattle.many_maps.specs.Given.ResizeDeclared.new_table.NewTable.{NewTable}
use Rattle.many_maps.specs.Given.RuleChart.{Free, Chart}
use Rattle.many_maps.specs.Given.RuleMoves.{is_of_caller, is_done_by}
use Rattle.many_maps.specs.Given.RuleRule.{no_table}
use Rattle.many_maps.specs.Given.RuleWords.{Blocks}
use Rattle.many_maps.specs.Given.RuleInWorld.{IsMapIn}
use Rattle.many_maps.specs.Given.PointsFactsCopies.{HasDone, ClaimsNone}
use Rattle.many_maps.specs.Given.PointsFactsCopiesBlocking.{HasNoShares}
use Rattle.many_maps.specs.Given.PointsSteps.{AreLawful}
use Rattle.many_maps.proofs.Given.RuleKeys.Always.{always_steps}
use Rattle.many_maps.proofs.Given.RuleMoves.Totals.{total_none}
use Rattle.many_maps.proofs.Given.RuleWords.LinksSeen.{link_some, root_leads}
use Rattle.owner_facts.specs.Maps.FactsBegins.{IsNew, HasBegun, LeavesRoots, OpeningFacts, BeginOutcome, BeginStepSpec}
use Rattle.many_maps.specs.Given.CallersKept.{IsMaking}
use Rattle.owner_facts.specs.Alone.Alone.{IsIdleNow}
use Rattle.owner_facts.specs.Maps.AloneBegins.{HasSameRoots, HasTaken, RootsAt, IsAtRoot, IsUncounted, IsOpening, HasOpened, OpensTo}
use Rattle.owner_facts.specs.Alone.Values.{IsComing, IsLinkedSince}
use Rattle.owner_facts.specs.Maps.WholeBegins.{MapsBeginAlone, MapsContinueAlone}
use Rattle.owner_facts.proofs.Maps.Begins.Length.{keeps_len}
use Rattle.owner_facts.proofs.Maps.Begins.Uncounted.{UncountedTo, uncounted_none, opens_uncounted}
use Rattle.owner_facts.proofs.Alone.Calls.Rests.{reached_on, reached_in, tables_reached, pairs_reached}
use Rattle.many_maps.proofs.Given.CallersRows.Users.{all_users}
use Rattle.owner_facts.proofs.Maps.Begins.Points.{begin_facts, may_new_map, went_new_map}
use Rattle.owner_facts.proofs.Alone.Values.Come.{none_coming}
use Rattle.owner_facts.proofs.Maps.Begins.Values.{OpensWith, opens_with}

module _ {K V : Type 0} (same : K → K → Bool) (hash : K → ℕ) (m0 m m2 : Mem (Node K V)) where
  -- the roots after a step
  abbrev RootsTo : NewMap × Advance Setting → Type 0
  RootsTo (n, progress.Goes) = RootsAt m0 same hash m2 n.setting.root n.stands
  RootsTo (n, progress.Waits) = Unit {0}
  RootsTo (n, progress.Done begun) = HasTaken m0 same hash m2 n.setting.root
  RootsTo (n, progress.Refused fault) = HasSameRoots m0 m2

  taken_on : (root : ℕ) → HasTaken m0 same hash m root → LeavesRoots same hash 0 m m2 root → HasTaken m0 same hash m2 root
  taken_on root h leaves = (λ r other. ((leaves r other).0 ∙ (h.0 r other).0, (leaves r other).1 ∙ (h.0 r other).1), h.1, h.2)

  same_on : m2 ≡ m → HasSameRoots m0 m → HasSameRoots m0 m2
  same_on is h = subst (HasSameRoots m0) (sym is) h

  -- a root is given up again
  given_up : (root : ℕ) → HasTaken m0 same hash m root → LeavesRoots same hash 0 m m2 root → word_at m2 (Used root) ≡ Some 0 → word_at m2 (Root root) ≡ Some 0 → HasSameRoots m0 m2
  given_up root h leaves used root_is r =
      elim (cases_eq r root) as (λ _. (word_at m2 (Root r) ≡ word_at m0 (Root r)) × (word_at m2 (Used r) ≡ word_at m0 (Used r))) [
        | inl e ↦ subst (λ (x : ℕ). (word_at m2 (Root x) ≡ word_at m0 (Root x)) × (word_at m2 (Used x) ≡ word_at m0 (Used x))) (sym e) (root_is ∙ sym h.2, used ∙ sym h.1)
        | inr ne ↦ ((leaves r ne).0 ∙ (h.0 r ne).0, (leaves r ne).1 ∙ (h.0 r ne).1)
      ]

  with_shards_roots : (n : NewMap) → HasTaken m0 same hash m2 n.setting.root → RootsTo (with_shards n)
  with_shards_roots n h = by (n.len == 0)
    where
      by : (b : Bool) → RootsTo (if b then done n else goes n (at.Tables (first_table n.setting n.len)))
      by true = h
      by false = h

  next_roots : (n : NewMap) → n.stands ≡ at.Takes → HasSameRoots m0 m2 → RootsTo (next_root n)
  next_roots n here h = by (nat_lt n.setting.root (n.roots - 1))
    where
      by : (b : Bool) → RootsTo (if b then (record n { setting = at_root n.setting (n.setting.root + 1) }, progress.Goes) else refused n RootsUsedUp)
      by true = subst (λ (o : Opening). RootsAt m0 same hash m2 (n.setting.root + 1) o) (sym here) h
      by false = h

  opened_roots : (n : NewMap) (b : NewTable × Advance Table) → HasTaken m0 same hash m2 n.setting.root → RootsTo (opened n b)
  opened_roots n (making, progress.Goes) h = h
  opened_roots n (making, progress.Waits) h = tt
  opened_roots n (making, progress.Done table) h = h
  opened_roots n (making, progress.Refused fault) h = h

-- the map rests where no place of it is shared
module _ {K V : Type 0} (same : K → K → Bool) (hash : K → ℕ) (setting : Setting) (roots : ℕ) (m : Mem (Node K V)) (h : History) (chart : Chart K) (blocks : Blocks) where
  idle_free : ((u j : ℕ) → chart.share u j ≡ Free) → IsIdleNow same hash setting roots m h chart blocks
  idle_free free = by (is_incremental setting.mode)
    where
      by : (b : Bool) → cond b
          (HasDone same hash (at_rest (deferred_word {K = K} {V = V}) m h) 0 setting chart blocks 0 × ClaimsNone same hash (at_rest (deferred_word {K = K} {V = V}) m h) 0 setting chart blocks)
          (HasNoShares same hash (at_rest (deferred_word {K = K} {V = V}) m h) 0 setting chart blocks)
      by true = (sym (total_none (is_done_by 0) (chart.share (suc chart.first)) (chart.len chart.first) (λ j l. ap (is_done_by 0) (free (suc chart.first) j))), λ j e. absurd (let f = free (suc chart.first) j in cc (e, f)))
      by false = λ u j late. ap (is_of_caller 0) (free u j)

  new_free : (len : ℕ) → IsNew hash setting len chart → (u j : ℕ) → chart.share u j ≡ Free
  new_free len (inl e) u j = ap (λ (x : Chart K). x.share u j) e.1
  new_free len (inr (limit, e)) u j = ap (λ (x : Chart K). x.share u j) e

module _ {K V : Type 0} (same : K → K → Bool) (hash : K → ℕ) (are : AreLawful same hash) (setting : Setting) (initial_is : IsPowerOfTwo setting.initial) (mask_fits : setting.mask + 1 < 2 ^ 64)
    (roots len : ℕ) (m0 : Mem (Node K V)) (h0 : History) (n : NewMap) (m : Mem (Node K V)) (h : History) (now : IsOpening same hash setting roots len m0 h0 n m h) where
  opening_may : May Can Took value_at m (new_map_plan n)
  opening_may = may_new_map same hash 0 setting are.lawful initial_is mask_fits (at_rest deferred_word m h) n now.facts

  module _ (m2 : Mem (Node K V)) (n2 : NewMap) (end : Advance Setting) (steps : Steps Took value_at m (new_map_plan n) m2 (n2, end)) where
    went : BeginStepSpec same hash 0 setting n.stands (at_rest deferred_word m h) n.setting.root m2 (n2, end)
    went = went_new_map same hash 0 setting are.lawful initial_is mask_fits (at_rest deferred_word m h) n now.facts m2 (n2, end) steps

    abbrev h2 : History
    h2 = record { before = h.before; uses = h.uses; hand = went.w2.hand; log = went.w2.log }

    there : went.w2 ≡ at_rest deferred_word m2 h2
    there =
        (users_turn deferred_word setting.batch_size roots went.events m h went.w2 (all_users went.events went.users) went.runs).0
        ∙ ap (λ (x : Mem (Node K V)). at_rest deferred_word x h2) went.memory

    history2 : IsHistory deferred_word setting.batch_size roots m2 h2
    history2 =
        subst (λ (x : Mem (Node K V)). IsHistory deferred_word setting.batch_size roots x h2) went.memory
        ((users_turn deferred_word setting.batch_size roots went.events m h went.w2 (all_users went.events went.users) went.runs).1 now.history)

    leaves : LeavesRoots same hash 0 m m2 n.setting.root
    leaves = subst (λ (x : Mem (Node K V)). LeavesRoots same hash 0 m x n.setting.root) went.memory went.others

    told : BeginOutcome same hash 0 setting n.stands (at_rest deferred_word m h) (at_rest deferred_word m2 h2) (n2, end)
    told = subst (λ (v : World (Node K V)). BeginOutcome same hash 0 setting n.stands (at_rest deferred_word m h) v (n2, end)) there went.told

    on_as : (other : NewMap × Advance Setting) → (n2, end) ≡ other → RootsTo same hash m0 m m2 other → RootsTo same hash m0 m m2 (n2, end)
    on_as other is r = subst (RootsTo same hash m0 m m2) (sym is) r

    roots_at : (stage : Opening) → n.stands ≡ stage → RootsAt m0 same hash m n.setting.root stage → Steps Took value_at m (plan_at n stage) m2 (n2, end)
        → BeginOutcome same hash 0 setting stage (at_rest deferred_word m h) (at_rest deferred_word m2 h2) (n2, end) → RootsTo same hash m0 m m2 (n2, end)
    roots_at at.Takes here r s told2 =
        elim (exchanged m (root_taken n) (Used n.setting.root) 0 1 m2 (n2, end) s) as (λ _. RootsTo same hash m0 m m2 (n2, end)) [
          | inl d ↦ (let free : word_at m (Used n.setting.root) ≡ Some 0 = d.1.0 ∙ ap Some d.1.1 in
              on_as (goes n at.Shards) d.3 (
                λ x other. ((leaves x other).0 ∙ (r x).0, (leaves x other).1 ∙ (r x).1),
                sym (r n.setting.root).1 ∙ free,
                sym (r n.setting.root).0 ∙ free_root here free,
              ))
          | inr d ↦ on_as (next_root n) d.3 (next_roots same hash m0 m m2 n here (same_on same hash m0 m m2 d.2 r))
        ]
      where
        free_root : n.stands ≡ at.Takes → word_at m (Used n.setting.root) ≡ Some 0 → word_at m (Root n.setting.root) ≡ Some 0
        free_root here2 read =
            let point = subst (OpeningFacts same hash 0 (at_rest deferred_word m h) setting n) here2 now.facts.point in
            let known = point.2 n.setting.root point.1 in
            known.2 (let e = known.1 in cc (e, read))
    roots_at at.Shards here r s told2 =
        elim (make_made m (made n) node.Shards ((n.setting.mask + 1) % 2 ^ 64) m2 (n2, end) s) as (λ _. RootsTo same hash m0 m m2 (n2, end)) [
          | inl d ↦ on_as _ d.3 (with_shards_roots same hash m0 m m2 (record n { setting = with_counter n.setting d.0 }) (taken_on same hash m0 m m2 n.setting.root r leaves))
          | inr d ↦ on_as _ d.3 (taken_on same hash m0 m m2 n.setting.root r leaves)
        ]
    roots_at (at.Tables making) here r s told2 =
        let b = steps_back (opened n) m m2 (new_table_plan making) (n2, end) s in
        on_as (opened n b.0) b.2 (opened_roots same hash m0 m m2 n b.0 (taken_on same hash m0 m m2 n.setting.root r leaves))
    roots_at (at.Unmakes fault) here r s told2 =
        let d = taken m (λ out. Now (goes n (at.Frees fault))) n.setting.counter m2 (n2, end) s in
        on_as (goes n (at.Frees fault)) d.3 (taken_on same hash m0 m m2 n.setting.root r leaves)
    roots_at (at.Frees fault) here r s told2 =
        let d = stored m (λ out. Now (refused n fault)) (Used n.setting.root) 0 m2 (n2, end) s in
        let free = subst (λ (x : NewMap × Advance Setting). BeginOutcome same hash 0 setting (at.Frees fault) (at_rest deferred_word m h) (at_rest deferred_word m2 h2) x) d.1 told2 in
        on_as (refused n fault) d.1 (given_up same hash m0 m m2 n.setting.root r leaves free.0 free.1)
    roots_at at.Over here r s told2 = on_as (n, progress.Done n.setting) s.1 (taken_on same hash m0 m m2 n.setting.root r leaves)
    roots_at (at.Refused fault) here r s told2 = on_as (n, progress.Refused fault) s.1 (same_on same hash m0 m m2 s.0 r)

    len2 : n2.len ≡ len
    len2 = always_steps (λ (e : NewMap × Advance Setting). e.0.len ≡ n.len) m m2 (new_map_plan n) (n2, end) (keeps_len K V n n.stands) steps ∙ now.len_is

    roots2 : RootsTo same hash m0 m m2 (n2, end)
    roots2 = roots_at n.stands refl now.roots_are steps told

    holds2 : OpensWith m0 m2 (n2, end)
    holds2 = opens_with same hash setting m0 (at_rest deferred_word m h) (at_rest deferred_word m2 h2) n now.facts (n2, end) now.holds told opening_may steps

    uncounted2 : UncountedTo m2 (n2, end)
    uncounted2 = opens_uncounted same hash setting mask_fits (at_rest deferred_word m h) n now.facts m2 (n2, end) now.uncounted opening_may steps

    -- the table at the root is the first one
    first_there : (chart : Chart K) (blocks : Blocks) → IsMapIn same hash n2.setting (at_rest deferred_word m2 h2) chart blocks → (b : ℕ) → IsAtRoot m2 n2.setting.root b → IsLinkedSince no_table chart blocks b
    first_there chart blocks map b there =
        let link = link_some chart blocks (b * 2048) chart.first (root_leads same hash n2.setting.mode n2.setting.root m2 chart blocks map.map (b * 2048) there.1)
        (λ z. let some = there.0 in omega (arith, z, some)) in
        (chart.first, omega arith, link.1, link.2, (let e = link.0 in omega (arith, e)))

    opened_there : (begun : Setting) → begun ≡ n2.setting → n2.setting ≡ with_counter (at_root setting n2.setting.root) n2.setting.counter
        → HasBegun same hash 0 (at_rest deferred_word m2 h2) n2.setting n2.len → HasTaken m0 same hash m2 n2.setting.root
        → IsComing m0 m2 (IsAtRoot m2 n2.setting.root) (λ b. b ≡ n2.setting.counter) → IsUncounted m2 n2.setting → HasOpened same hash setting roots len m0 h0 begun m2 h2
    opened_there begun is setting_is b taken2 coming uncounted = subst (λ (s : Setting). HasOpened same hash setting roots len m0 h0 s m2 h2) (sym is) (record {
      setting_is = setting_is;
      chart = b.chart;
      blocks = reached_on (at_rest (deferred_word {K = K} {V = V}) m2 h2) b.chart b.blocks;
      rests = record {
        history = history3;
        map = map3;
        tables = tables_reached same hash n2.setting (at_rest deferred_word m2 h2) b.chart b.blocks reached b.map;
        pairs = λ x was known. pairs_reached same hash n2.setting (at_rest deferred_word m2 h2) b.chart b.blocks reached b.map x known;
        counter = subst IsMaking (sym b.counter) tt;
        idle = idle_free same hash n2.setting roots m2 h2 b.chart (reached_on (at_rest (deferred_word {K = K} {V = V}) m2 h2) b.chart b.blocks) (new_free same hash n2.setting roots m2 h2 b.chart b.blocks n2.len b.new);
      };
      new = subst (λ (x : ℕ). IsNew hash n2.setting x b.chart) len2 b.new;
      empty = b.empty;
      alone = b.alone;
      used = b.used;
      taken = taken2;
      counter = b.counter;
      holds = record {
        stay = coming.stay;
        came = λ x v e. elim (coming.came x v e) as (λ _. (value_at m0 x ≡ Some v) ⊎ ((x ≡ n2.setting.counter) ⊎ IsLinkedSince no_table b.chart (reached_on (at_rest (deferred_word {K = K} {V = V}) m2 h2) b.chart b.blocks) x)) [
          | inl (inl was) ↦ inl was
          | inl (inr there) ↦ inr (inr (first_there b.chart (reached_on (at_rest (deferred_word {K = K} {V = V}) m2 h2) b.chart b.blocks) map3 x there))
          | inr its ↦ inr (inl its)
        ];
      };
      fresh = coming.fresh n2.setting.counter refl;
      counted = uncounted_none n2.setting m2 b.chart uncounted b.empty;
      handed = now.handed;
    })
      where
        history3 : IsHistory deferred_word n2.setting.batch_size roots m2 h2
        history3 = subst (λ (s : Setting). IsHistory deferred_word s.batch_size roots m2 h2) (sym setting_is) history2

        reached : Reached deferred_word n2.setting.batch_size (at_rest deferred_word m2 h2)
        reached = history_reached deferred_word n2.setting.batch_size roots m2 h2 history3

        map3 : IsMapIn same hash n2.setting (at_rest deferred_word m2 h2) b.chart (reached_on (at_rest (deferred_word {K = K} {V = V}) m2 h2) b.chart b.blocks)
        map3 = reached_in same hash n2.setting (at_rest deferred_word m2 h2) b.chart b.blocks reached b.map

    opening_told : OpensTo same hash setting roots len m0 h0 n2 m2 end
    opening_told = by end told roots2 holds2 uncounted2
      where
        by : (q : Advance Setting) → BeginOutcome same hash 0 setting n.stands (at_rest deferred_word m h) (at_rest deferred_word m2 h2) (n2, q) → RootsTo same hash m0 m m2 (n2, q)
            → OpensWith m0 m2 (n2, q) → UncountedTo m2 (n2, q) → OpensTo same hash setting roots len m0 h0 n2 m2 q
        by progress.Goes f r k u = (h2, record { history = history2; facts = f; len_is = len2; roots_are = r; holds = k; uncounted = u; handed = now.handed })
        by progress.Waits f r k u = f
        by (progress.Done begun) f r k u = (h2, opened_there begun f.0 f.1 f.2 r k u)
        by (progress.Refused fault) f r k u = (h2, history2, r, now.handed, k)

module _ {K : Type 0} (V : Type 0) (same : K → K → Bool) (hash : K → ℕ) where
  pub maps_begin_alone : MapsBeginAlone V same hash
  maps_begin_alone setting roots len m h had some there is = record {
    history = had;
    facts = begin_facts same hash 0 setting (at_rest deferred_word m h) roots len some there is;
    len_is = refl;
    roots_are = λ r. (refl, refl);
    holds = none_coming m (λ b. ⊥) (λ b. ⊥) (λ b k. k);
    uncounted = tt;
    handed = (refl, refl);
  }

  pub maps_go_on_alone : MapsContinueAlone V same hash
  maps_go_on_alone are setting initial_is mask_fits roots len m0 h0 n m h now = (
    opening_may same hash are setting initial_is mask_fits roots len m0 h0 n m h now,
    λ m2 n2 end steps. opening_told same hash are setting initial_is mask_fits roots len m0 h0 n m h now m2 n2 end steps,
  )
