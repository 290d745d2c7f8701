-- Each own step of a reservation that is alone: which tables are retired then, and that the table which it has read is the root.
use Rattle.std.specs.Prelude.{◌^◌, nat_lt, slice_get, List, if◌then◌else◌}
use Rattle.std.proofs.lemmas.Bool.{eq-eqb}
use Rattle.std.proofs.Common.{◌≡◌, ◌≢◌, ℕ, zero, suc, ◌*◌, ◌<◌, ◌≤◌, Bool, true, false, cond, Some, inl, inr, refl, arith, ap, sym, subst, ◌∙◌}
use Rattle.many_maps.specs.Given.SeizeWordsDeclared.fault.Fault.TheVariants.{Capacity}
use Rattle.many_maps.specs.Given.SeizeWordsDeclared.at.At.TheVariants.{Root}
use Rattle.many_maps.specs.Given.SeizeWordsMem.{Mem, value_at, word_at, Took}
use Rattle.many_maps.specs.Given.SeizeWordsPlan.{Steps}
use Rattle.many_maps.proofs.Given.SeizeWordsOneOwner.Operations.{loaded, exchanged}
use Rattle.many_maps.proofs.Given.SeizeRuleRows.Leaving.{steps_back}
use Rattle.many_maps.specs.Given.SeizeWorld.{World}
use Rattle.many_maps.specs.Given.SeizeDeclared.advance.Advance.{Advance}
use Rattle.many_maps.specs.Given.SeizeDeclared.advance.Advance.TheVariants as progress
use Rattle.many_maps.specs.Given.TablesChunks.{is_incremental}
use Rattle.many_maps.specs.Given.ResizeCopier.{copier_plan}
use Rattle.many_maps.specs.Given.ResizeCopierStates.{copying_all, resting}
use Rattle.many_maps.specs.Given.ResizeNewTable as new
use Rattle.many_maps.specs.Given.ReservesReserve.{standing, counting, copying, needed, refusing, summed, made, grown, copied, root_read, next_read, plan_at}
use Rattle.many_maps.specs.Given.ResizeSum.{sum_plan}
use Rattle.many_maps.specs.Given.TablesTablePlaces.{at_word}
use Rattle.many_maps.specs.Given.ResizeDeclared.new_table.Making.{Making}
use Rattle.many_maps.specs.Given.ResizeDeclared.new_table.Making.TheVariants as makes
use Rattle.many_maps.specs.Given.TablesDeclared.node.Node.{Node}
use Rattle.many_maps.specs.Given.ResizeDeclared.yielding.Yielding.{Yielding}
use Rattle.many_maps.specs.Given.ResizeDeclared.yielding.Yielding.TheVariants as outcome
use Rattle.many_maps.specs.Given.TablesDeclared.setting.Setting.{Setting}
use Rattle.many_maps.specs.Given.TablesDeclared.table.Table.{Table}
use Rattle.many_maps.specs.Given.TablesDeclared.table_words.TheConstants.{NEXT}
use Rattle.many_maps.specs.Given.ResizeDeclared.copier.Copier.{Copier}
use Rattle.many_maps.specs.Given.ResizeDeclared.copier.Copying.TheVariants as copies
use Rattle.many_maps.specs.Given.ResizeDeclared.new_table.NewTable.{NewTable}
use Rattle.many_maps.specs.Given.ResizeDeclared.sum.Sum.{Sum}
use Rattle.many_maps.specs.Given.ReservesDeclared.reserve.Reserve.{Reserve}
use Rattle.many_maps.specs.Given.ReservesDeclared.reserve.Reserving.{Reserving}
use Rattle.many_maps.specs.Given.ReservesDeclared.reserve.Reserving.TheVariants as at
use Rattle.many_maps.specs.Given.RuleChart.{Chart}
use Rattle.many_maps.specs.Given.RuleLasts.{Lasts}
use Rattle.many_maps.specs.Given.RuleWords.{Blocks}
use Rattle.many_maps.specs.Given.RuleMaps.{spot_of, IsTable}
use Rattle.many_maps.specs.Given.RuleInWorld.{Moved, SameBlocks, IsMapIn}
use Rattle.many_maps.specs.Given.PointsFactsCopies.{CopierFacts}
use Rattle.many_maps.specs.Given.PointsFactsCopiesBlocking.{CopierFactsBlocking}
use Rattle.many_maps.proofs.Given.RuleWords.LinksRead.{link_ends}
use Rattle.many_maps.proofs.Given.RuleWords.LinksSeen.{root_leads, next_leads}
use Rattle.many_maps.specs.Given.LateFactsReserves.{IsEnding, CopiesWhole, ReservingFacts, ReserveFacts}
use Rattle.many_maps.specs.Given.LateToldReserves.{ReserveAfter, IsRowOfReserve}
use Rattle.owner_facts.specs.Maps.AloneReserves.{RetiresFrom, IsNear, ReservingAlone}
use Rattle.many_maps.proofs.Given.CallersRows.Known.{moved_makes}
use Rattle.owner_facts.proofs.Maps.Reserves.PlansLeave.{plan_roots, no_root_as}
use Rattle.owner_facts.proofs.Maps.Reserves.Knows.{knows_tables, copier_setting}
use Rattle.owner_facts.proofs.Maps.Reserves.Left.{CopiesTo}
use Rattle.owner_facts.proofs.Maps.Reserves.LeftOn.{copies_on_at}
use Rattle.owner_facts.proofs.Maps.Reserves.RootSame.{none_then, root_same}
use Rattle.owner_facts.proofs.Maps.Reserves.RootsUnwritten.{sum_no_root, new_table_no_root}

module _ {K V : Type 0} (same : K → K → Bool) (hash : K → ℕ) (caller : ℕ) (setting : Setting) (w w2 : World (Node K V)) (c c2 : Chart K) (blocks blocks2 : Blocks)
    (map : IsMapIn same hash setting w c blocks) (map2 : IsMapIn same hash setting w2 c2 blocks2) (lasts : Lasts same (spot_of hash) (is_incremental setting.mode) c c2)
    (since : SameBlocks c blocks blocks2) (moved : Moved same hash setting.mode caller c c2) (p : Reserve) (setting_is : p.setting ≡ setting) (t : ℕ) where
  -- where a step of it leads
  abbrev pub ReservesOnTo : Reserve × Yielding (Node K V) Unit → Type 0
  ReservesOnTo (q, outcome.Goes) = ReservingAlone setting c2 blocks2 q.additional q.stands t
  ReservesOnTo (q, outcome.Waits) = ReservingAlone setting c2 blocks2 q.additional q.stands t
  ReservesOnTo (q, outcome.Gave value) = Unit {0}
  ReservesOnTo (q, outcome.Done end) = t ≡ c2.first
  ReservesOnTo (q, outcome.Refused fault) = t ≡ c2.first

  roots_same : w2.memory.roots ≡ w.memory.roots → c2.first ≡ c.first
  roots_same e = root_same same hash setting w w2 c c2 blocks blocks2 map map2 lasts since (ap (λ (r : List ℕ). slice_get r setting.root) e)

  root_at : word_at w.memory (Root p.setting.root) ≡ word_at w.memory (Root setting.root)
  root_at = ap (λ (s : Setting). word_at w.memory (Root s.root)) setting_is

  -- a table that is copied whole is the root
  abbrev whole_in : Bool → Table → Table → Copier
  whole_in b table next = if b then record (resting setting true table next copies.Marks) { end = table.len } else resting setting true table next copies.Asks

  near_next : (table next : Table) → table.turn ≡ c2.first → CopiesWhole same hash w2 caller setting c2 blocks2 (copying_all setting table next)
      → cond (is_incremental setting.mode) (c2.first ≤ next.turn) (Unit {0})
  near_next table next turn whole = by (is_incremental setting.mode) whole
    where
      by : (b : Bool)
          → cond b ((whole_in b table next).whole ≡ true × CopierFacts same hash w2 caller setting c2 blocks2 (whole_in b table next) × IsEnding same hash w2 caller setting c2 blocks2 (whole_in b table next) (whole_in b table next).stands)
          (CopierFactsBlocking same hash w2 caller setting c2 blocks2 (whole_in b table next))
          → cond b (c2.first ≤ next.turn) (Unit {0})
      by true f =
          let source = ap (λ (x : Table). x.turn) f.1.point.1.0.is in
          let target = ap (λ (x : Table). x.turn) f.1.point.1.1.is in
          omega (arith, turn, source, target)
      by false f = tt

  copies_begin : (table next : Table) → t ≡ c2.first → table.turn ≡ c2.first → ReserveFacts same hash w2 caller setting c2 blocks2 (copying p table next)
      → RetiresFrom setting c2 blocks2 (copying_all p.setting table next) (copying_all p.setting table next).stands t × IsNear setting c2 (copying_all p.setting table next)
  copies_begin table next is turn facts =
      subst (λ (s : Setting). RetiresFrom setting c2 blocks2 (copying_all s table next) (copying_all s table next).stands t × IsNear setting c2 (copying_all s table next)) (sym setting_is)
      (by (is_incremental setting.mode) (near_next table next turn (subst (λ (s : Setting). CopiesWhole same hash w2 caller setting c2 blocks2 (copying_all s table next)) setting_is facts.point)))
    where
      by : (b : Bool) → cond (is_incremental setting.mode) (c2.first ≤ next.turn) (Unit {0})
          → RetiresFrom setting c2 blocks2 (whole_in b table next) (whole_in b table next).stands t
          × cond (is_incremental setting.mode) (c2.first ≤ (whole_in b table next).target.turn) (Unit {0})
      by true near = (is, near)
      by false near = (is, near)

  -- the root is read
  pub reads_on : t ≡ c.first → (m2 : Mem (Node K V)) (end : Reserve × Yielding (Node K V) Unit) → m2 ≡ w2.memory → Steps Took value_at w.memory (plan_at hash p at.Reads) m2 end → ReservesOnTo end
  reads_on from m2 end is s =
      let d = loaded w.memory (root_read p) (Root p.setting.root) m2 end s in
      let same_memory : w2.memory ≡ w.memory = sym is ∙ d.2 in
      let first = roots_same (ap (λ (x : Mem (Node K V)). x.roots) same_memory) in
      link_ends hash w.memory c blocks setting.root map.map.shows d.0 c.first (root_leads same hash setting.mode setting.root w.memory c blocks map.map d.0 (sym root_at ∙ d.1))
      (standing p (at.Makes (new.first_table p.setting (needed p.additional 0))), outcome.Goes) (λ table. (counting p table, outcome.Goes)) ReservesOnTo
      (λ none. (none_left none (ap (λ (x : Mem (Node K V)). word_at x (Root setting.root)) same_memory), from ∙ sym first))
      (λ table entered. (ap (λ (x : Table). x.turn) entered.is ∙ sym first, from ∙ sym first)) end d.3
    where
      none_left : c.past ≤ c.first → word_at w2.memory (Root setting.root) ≡ word_at w.memory (Root setting.root) → c2.past ≡ 0
      none_left none kept =
          none_then same hash setting w w2 c c2 blocks blocks2 map map2 lasts since
          (kept ∙ map.map.shows.root_there ∙ ap (λ (b : Bool). Some (cond b 0 (blocks.table c.first * 2048))) (eq-eqb c.past 0 (empty c.past refl)))
        where
          empty : (n : ℕ) → c.past ≡ n → c.past ≡ 0
          empty zero e = e
          empty (suc n) e = absurd (let rooted = map.map.rule.common.rooted (omega (arith, e)) in omega (arith, rooted, none))

  -- a first table is made
  module _ (making : NewTable) (link_is : making.link ≡ Root setting.root) (none : c.past ≡ 0) (from : t ≡ c.first) where
    first_none : c2.first ≡ c.first
    first_none =
        let least = (moved_makes same hash setting.mode c c2 map.map.rule moved).first in
        let zero_first = map.map.rule.common.rootless none in
        omega (arith, least, none, zero_first)

    unlinked_at : (stands : Making) (m2 : Mem (Node K V)) (end : NewTable × Advance Table) → Steps Took value_at w.memory (new.plan_at making stands) m2 end
        → ((table : Table) → end.1 ≢ progress.Done table) → m2.roots ≡ w.memory.roots
    unlinked_at (makes.Sums before reason sum) m2 end s other =
        plan_roots w.memory m2 end (new.plan_at making (makes.Sums before reason sum)) (no_root_as (new.counted making before reason) (sum_plan sum) (sum_no_root K V sum)) s
    unlinked_at (makes.Makes table) m2 end s other = plan_roots w.memory m2 end (new.plan_at making (makes.Makes table)) tt s
    unlinked_at (makes.Promotes table) m2 end s other = plan_roots w.memory m2 end (new.plan_at making (makes.Promotes table)) tt s
    unlinked_at (makes.Links table) m2 end s other =
        elim (exchanged w.memory (new.linked making table) making.link 0 table.link m2 end s) as (λ _. m2.roots ≡ w.memory.roots) [
          | inl d ↦ absurd (other table (ap (λ (x : NewTable × Advance Table). x.1) d.3))
          | inr d ↦ ap (λ (x : Mem (Node K V)). x.roots) d.2
        ]
    unlinked_at (makes.Drops table found) m2 end s other = plan_roots w.memory m2 end (new.plan_at making (makes.Drops table found)) tt s
    unlinked_at (makes.Over table) m2 end s other = ap (λ (x : Mem (Node K V)). x.roots) s.0
    unlinked_at (makes.Refused fault) m2 end s other = ap (λ (x : Mem (Node K V)). x.roots) s.0

    none_linked : w2.memory.roots ≡ w.memory.roots → c2.past ≡ 0
    none_linked e =
        none_then same hash setting w w2 c c2 blocks blocks2 map map2 lasts since
        (ap (λ (r : List ℕ). slice_get r setting.root) e ∙ map.map.shows.root_there ∙ ap (λ (b : Bool). Some (cond b 0 (blocks.table c.first * 2048))) (eq-eqb c.past 0 none))

    made_on : (b : NewTable × Advance Table) → (((table : Table) → b.1 ≢ progress.Done table) → w2.memory.roots ≡ w.memory.roots)
        → ReserveAfter w2 caller setting c2 blocks2 same hash (made p b) → ReservesOnTo (made p b)
    made_on (next, progress.Goes) kept told = (none_linked (kept (λ table e. absurd (cc e))), from ∙ sym first_none)
    made_on (next, progress.Waits) kept told = (none_linked (kept (λ table e. absurd (cc e))), from ∙ sym first_none)
    made_on (next, progress.Done table) kept told = (is_root (is_incremental setting.mode) told.point.0.2, from ∙ sym first_none)
      where
        turn : table.turn ≡ told.point.0.0
        turn = ap (λ (x : Table). x.turn) told.point.0.1.is

        is_root : (b : Bool) → cond b (told.point.0.0 ≤ c2.first) (told.point.0.0 ≡ c2.first) → table.turn ≡ c2.first
        is_root true l = let zero_first = map.map.rule.common.rootless none in omega (arith, l, turn, first_none, zero_first)
        is_root false e = turn ∙ e
    made_on (next, progress.Refused fault) kept told = from ∙ sym first_none

  -- the root is counted
  module _ (table : Table) (turn : table.turn ≡ c.first) (from : t ≡ c.first) where
    summed_on : c2.first ≡ c.first → (b : Sum × Advance ℕ) → ReservesOnTo (summed {T = Node K V} p table b)
    summed_on first (sum, progress.Goes) = (turn ∙ sym first, from ∙ sym first)
    summed_on first (sum, progress.Waits) = (turn ∙ sym first, from ∙ sym first)
    summed_on first (sum, progress.Done count) = by (nat_lt (2 ^ 48) (needed p.additional count)) (nat_lt table.len (needed p.additional count))
      where
        by : (long short : Bool)
            → ReservesOnTo (if long then refusing p Capacity else (if short then (standing p (at.Follows table (needed p.additional count)), outcome.Goes) else (standing p at.Over, outcome.Done tt)))
        by true short = from ∙ sym first
        by false true = (turn ∙ sym first, from ∙ sym first)
        by false false = from ∙ sym first
    summed_on first (sum, progress.Refused fault) = from ∙ sym first

    -- and the table behind it is looked for, or made
    grown_on : c2.first ≡ c.first → (b : NewTable × Advance Table) → ReserveAfter w2 caller setting c2 blocks2 same hash (grown p table b) → ReservesOnTo (grown p table b)
    grown_on first (making, progress.Goes) told = (turn ∙ sym first, from ∙ sym first)
    grown_on first (making, progress.Waits) told = (turn ∙ sym first, from ∙ sym first)
    grown_on first (making, progress.Done next) told = copies_begin table next (from ∙ sym first) (turn ∙ sym first) told
    grown_on first (making, progress.Refused fault) told = from ∙ sym first

    pub follows_on : (need u : ℕ) → IsTable c blocks table u → (m2 : Mem (Node K V)) (end : Reserve × Yielding (Node K V) Unit) → m2 ≡ w2.memory
        → Steps Took value_at w.memory (plan_at hash p (at.Follows table need)) m2 end → ReserveAfter w2 caller setting c2 blocks2 same hash end → ReservesOnTo end
    follows_on need u entered m2 end is s told =
        let d = loaded w.memory (next_read p table need) (at_word table NEXT) m2 end s in
        let first = roots_same (ap (λ (x : Mem (Node K V)). x.roots) (sym is ∙ d.2)) in
        link_ends hash w.memory c blocks setting.root map.map.shows d.0 (suc u) (next_leads same hash setting.mode setting.root w.memory c blocks map.map table u d.0 entered d.1)
        (standing p (at.Grows table (new.table_reserved p.setting table need)), outcome.Goes) (λ next. (copying p table next, outcome.Goes))
        (λ e. ReserveAfter w2 caller setting c2 blocks2 same hash e → ReservesOnTo e)
        (λ none told2. (turn ∙ sym first, from ∙ sym first))
        (λ next behind told2. copies_begin table next (from ∙ sym first) (turn ∙ sym first) told2) end d.3 told

  -- the root is copied
  pub copied_ends : (e : Copier × Yielding (Node K V) Table) → ReserveAfter w2 caller setting c2 blocks2 same hash (copied p e)
      → (table : Table) → e.1 ≡ outcome.Done table → cond (is_incremental setting.mode) (table.turn ≤ c2.first) (table.turn ≡ c2.first)
  copied_ends (q, outcome.Goes) told table is = absurd (cc is)
  copied_ends (q, outcome.Waits) told table is = absurd (cc is)
  copied_ends (q, outcome.Gave value) told table is = absurd (cc is)
  copied_ends (q, outcome.Done root) told table is =
      subst (λ (u : ℕ). cond (is_incremental setting.mode) (u ≤ c2.first) (u ≡ c2.first)) (sym (ap (λ (x : Table). x.turn) told.point.0.1.is) ∙ ap (λ (x : Table). x.turn) same_table) told.point.0.2
    where
      same_table : root ≡ table
      same_table = cc is
  copied_ends (q, outcome.Refused fault) told table is = absurd (cc is)

  copied_on : (e : Copier × Yielding (Node K V) Table) → CopiesTo setting c2 blocks2 t e → ReservesOnTo (copied p e)
  copied_on (q, outcome.Goes) h = h
  copied_on (q, outcome.Waits) h = h
  copied_on (q, outcome.Gave value) h = tt
  copied_on (q, outcome.Done root) h = h
  copied_on (q, outcome.Refused fault) h = h

  module _ (m2 : Mem (Node K V)) (is : m2 ≡ w2.memory) (end : Reserve × Yielding (Node K V) Unit) (told : ReserveAfter w2 caller setting c2 blocks2 same hash end)
      (known : t < c.past → blocks.table_known t ≡ true) where
    told_as : {A : Type 0} (f : A → Reserve × Yielding (Node K V) Unit) (a : A) → end ≡ f a → ReserveAfter w2 caller setting c2 blocks2 same hash (f a)
    told_as f a e = subst (λ (x : Reserve × Yielding (Node K V) Unit). ReserveAfter w2 caller setting c2 blocks2 same hash x) e told

    on_as : {A : Type 0} (f : A → Reserve × Yielding (Node K V) Unit) (a : A) → end ≡ f a → ReservesOnTo (f a) → ReservesOnTo end
    on_as f a e h = subst ReservesOnTo (sym e) h

    -- each of its own steps
    pub reserves_on : (stage : Reserving) → (IsRowOfReserve stage → ⊥) → ReservingFacts same hash w caller setting c blocks stage → ReservingAlone setting c blocks p.additional stage t
        → Steps Took value_at w.memory (plan_at hash p stage) m2 end → ReservesOnTo end
    reserves_on at.Reads none f alone s = reads_on alone m2 end is s
    reserves_on (at.Makes making) none f alone s =
        let b = steps_back (made p) w.memory m2 (new.new_table_plan making) end s in
        on_as (made p) b.0 b.2
        (made_on making f.link_is alone.0 alone.1 b.0
        (λ other. ap (λ (x : Mem (Node K V)). x.roots) (sym is) ∙ unlinked_at making f.link_is alone.0 alone.1 making.stands m2 b.0 b.1 other) (told_as (made p) b.0 b.2))
    reserves_on (at.Sums table sum) none f alone s =
        let b = steps_back (summed p table) w.memory m2 (sum_plan sum) end s in
        let first = roots_same (ap (λ (x : Mem (Node K V)). x.roots) (sym is) ∙ plan_roots w.memory m2 b.0 (sum_plan sum) (sum_no_root K V sum) b.1) in
        on_as (summed p table) b.0 b.2 (summed_on table alone.0 alone.1 first b.0)
    reserves_on (at.Follows table need) none f alone s = follows_on table alone.0 alone.1 need f.0.0 f.0.1 m2 end is s told
    reserves_on (at.Grows table making) none f alone s =
        let b = steps_back (grown p table) w.memory m2 (new.new_table_plan making) end s in
        let first = roots_same (ap (λ (x : Mem (Node K V)). x.roots) (sym is)
        ∙ plan_roots w.memory m2 b.0 (new.new_table_plan making) (new_table_no_root K V making (blocks.table f.0) NEXT f.3.link_is) b.1) in
        on_as (grown p table) b.0 b.2 (grown_on table alone.0 alone.1 first b.0 (told_as (grown p table) b.0 b.2))
    reserves_on (at.Copies copier) none f alone s =
        let b = steps_back (copied p) w.memory m2 (copier_plan hash copier) end s in
        on_as (copied p) b.0 b.2
        (copied_on b.0
        (copies_on_at same hash setting w w2 c c2 blocks blocks2 map map2 lasts since copier (copier_setting same hash w caller setting c blocks copier f) t b.0 known alone.0 alone.1
        (copied_ends b.0 (told_as (copied p) b.0 b.2)) copier.stands refl none (knows_tables same hash w caller setting c blocks copier f)
        (subst (λ (x : Mem (Node K V)). Steps Took value_at w.memory (copier_plan hash copier) x b.0) is b.1)))
    reserves_on at.Over none f alone s = absurd alone
    reserves_on (at.Refused fault) none f alone s =
        let first = roots_same (ap (λ (x : Mem (Node K V)). x.roots) (sym is ∙ s.0)) in
        subst ReservesOnTo (sym s.1) (alone ∙ sym first)
