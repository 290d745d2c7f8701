-- Each step of a sweep that is alone, none of a row of the collector and none of its copying: what is so where it leads.
use Rattle.std.specs.Prelude.{◌≡◌, ◌≢◌, ℕ, suc, ◌<◌, ◌≤◌, Bool, true, false, if◌then◌else◌}
use Rattle.std.proofs.Common.{refl, ap, sym, subst, inl, inr, ◌∙◌, arith}
use Rattle.seize_words.specs.OneMemory.Word.{link_word}
use Rattle.seize.specs.World.{World}
use Rattle.seize.specs.declared.rows.settle.Settled.{Settled}
use Rattle.seize.specs.declared.rows.settle.Settled.TheVariants as settled
use Rattle.map_tables.specs.Chunks.{is_incremental}
use Rattle.map_tables.specs.declared.node.Node.{Node}
use Rattle.map_tables.specs.declared.setting.Setting.{Setting}
use Rattle.map_tables.specs.declared.table.Table.{Table}
use Rattle.map_measures.specs.Given.ResizeCopierStates.{resting, copying_all}
use Rattle.map_measures.specs.Given.ResizeDeclared.copier.Copier.{Copier}
use Rattle.map_measures.specs.Given.ResizeDeclared.copier.Copying.TheVariants as copies
use Rattle.map_measures.specs.Given.ResizeDeclared.dispose.Dispose.{Dispose}
use Rattle.papaya_raw.specs.Given.SweepsSweep.{disposed}
use Rattle.papaya_raw.specs.Given.SweepsSweepPoints.{removes, standing, further, tableless, beginning, entering, told, telling, going, seen}
use Rattle.papaya_raw.specs.Given.ReservesDeclared.sweep.Sweep.{Sweep}
use Rattle.papaya_raw.specs.Given.ReservesDeclared.sweep.Sweeping.{Sweeping}
use Rattle.papaya_raw.specs.Given.ReservesDeclared.sweep.Sweeping.TheVariants as at
use Rattle.papaya_raw.specs.Given.ReservesDeclared.sweep.Swept.{Swept}
use Rattle.papaya_raw.specs.Given.ReservesDeclared.sweep.Swept.TheVariants as swept
use Rattle.map_measures.specs.Given.RuleChart.{Still, Holds, Chart}
use Rattle.map_measures.specs.Given.RuleWords.{Blocks, mark_bits, byte_of, place_word}
use Rattle.map_measures.specs.Given.RuleMaps.{IsTable}
use Rattle.map_measures.specs.Given.RuleMoves.{Removes, after}
use Rattle.map_measures.specs.Given.RuleInWorld.{IsMapIn, SameBlocks}
use Rattle.map_measures.specs.Given.PointsFactsIdle.{IsIdle}
use Rattle.owner_facts.specs.Alone.FactsAloneCalls.{TablesAlone}
use Rattle.owner_facts.proofs.Alone.Lone.Beside.{beside_tables}
use Rattle.owner_facts.specs.Given.LateFactsReserves.{CopiesWhole}
use Rattle.owner_facts.specs.Given.LateFactsSweeps.{CopiesPairs, HasNoTable, WasRoot, GoesOver, CopiesTable, SweepingFacts, SweepFacts}
use Rattle.map_measures.specs.Given.LateLateCopies.{SupersededCopying, SupersededCopierFacts}
use Rattle.owner_facts.specs.Given.LateLeft.{Left}
use Rattle.owner_facts.specs.Given.LateToldSweeps.{SweepAfter}
use Rattle.owner_facts.proofs.Given.LateSwept.Sweeps.Moved.{Sees, SweepMoves}
use Rattle.owner_facts.proofs.Given.LateSwept.Sweeps.Stands.{quiet_tableless, quiet_beginning, quiet_further}
use Rattle.owner_facts.proofs.Given.LateSwept.Sweeps.Tables.{upto}
use Rattle.owner_facts.proofs.Maps.Reserves.Beside.{begins_copying}
use Rattle.owner_whole.specs.Whole.LoneSweeps.{IsBefore, goes_once, SweepsAlone, GoesOverRoot, LiesThere, OverRoot}
use Rattle.owner_whole.proofs.Whole.Fresh.Sweeps.{CopiesRoot}
use Rattle.owner_whole.proofs.Whole.Sweeps.Lone.{ReadsOn, telling_on, seen_on, alone_at}
use Rattle.owner_whole.proofs.Whole.Sweeps.Over.{Then, further_then, further_over, seen_then}

module _ {K V : Type 0} (same : K → K → Bool) (hash : K → ℕ) (setting : Setting) (w : World (Node K V)) (c : Chart K) (blocks : Blocks) where
  pub copies_none : (stage : Sweeping) → (CopiesPairs stage → ⊥) → CopiesRoot same hash setting w c blocks stage
  copies_none (at.Copies copier) other = absurd (other tt)
  copies_none at.Reads other = tt
  copies_none at.Follows other = tt
  copies_none at.Ready other = tt
  copies_none at.Words other = tt
  copies_none (at.Asks word) other = tt
  copies_none (at.Tries word) other = tt
  copies_none (at.Counts removed) other = tt
  copies_none (at.Disposes dispose) other = tt
  copies_none at.Over other = tt
  copies_none (at.Refused fault) other = tt

  -- what is so where a step from here leads
  pub record StageTold (p : Sweep) (end : Sweep × Swept (Node K V)) : Type 0 where
    pub whole : CopiesRoot same hash setting w c blocks end.0.stands
    pub alone : SweepsAlone (is_incremental setting.mode) c end.0.stands
    pub table : OverRoot hash (is_incremental setting.mode) c blocks end.0 end.0.stands
    pub none : goes_once (is_incremental setting.mode) p.purpose ≡ true → (IsBefore p.stands → ⊥) → IsBefore end.0.stands → ⊥
    pub ready : end.1 ≡ swept.Ready → end.0.stands ≡ at.Ready

  -- it copies nothing
  on_told : (p : Sweep) (end : Sweep × Swept (Node K V)) → TablesAlone (is_incremental setting.mode) c → ReadsOn (Node K V) end
      → OverRoot hash (is_incremental setting.mode) c blocks end.0 end.0.stands
      → (goes_once (is_incremental setting.mode) p.purpose ≡ true → (IsBefore p.stands → ⊥) → IsBefore end.0.stands → ⊥) → StageTold p end
  on_told p end tables on over none = record {
    whole = copies_none end.0.stands on.copies;
    alone = alone_at (is_incremental setting.mode) c tables end.0.stands on.copies;
    table = over;
    none = none;
    ready = on.ready;
  }

  then_told : (p : Sweep) (end : Sweep × Swept (Node K V)) → TablesAlone (is_incremental setting.mode) c → ReadsOn (Node K V) end
      → Then hash (is_incremental setting.mode) c blocks p end.0 → StageTold p end
  then_told p end tables on next = on_told p end tables on next.table (λ once at_place. next.none once)

  -- it enters a table, which in blocking mode is the root
  module _ (p : Sweep) (setting_is : p.setting ≡ setting) (tables : TablesAlone (is_incremental setting.mode) c) where
    pub begins_over : (q : Sweep) → GoesOverRoot hash (is_incremental setting.mode) c blocks q → (IsBefore p.stands) → StageTold p (telling (beginning q))
    begins_over q over before =
        on_told p (telling (beginning q)) tables (telling_on (Node K V) (beginning q) (quiet_beginning q)) (by (removes q.purpose)) (λ once at_place. absurd (at_place before))
      where
        by : (r : Bool) → OverRoot hash (is_incremental setting.mode) c blocks (record q { place = 0; met = false; stands = if r then at.Words else at.Ready }) (if r then at.Words else at.Ready)
        by true = record { root = over.root; last = over.last }
        by false = λ l. record { root = over.root; last = over.last }

    pub enters : (table : Table) → (is_incremental setting.mode ≡ false → table.turn ≡ c.first) → IsBefore p.stands → StageTold p (telling (entering p table))
    enters table root before = by (is_incremental p.setting.mode) (ap (λ (s : Setting). is_incremental s.mode) setting_is)
      where
        by : (x : Bool) → x ≡ is_incremental setting.mode → StageTold p (telling (if x then record p { table = table; stands = at.Follows } else beginning (record p { table = table })))
        by true e = on_told p (telling (record p { table = table; stands = at.Follows })) tables (telling_on (Node K V) (record p { table = table; stands = at.Follows }) tt)
            (λ blocking. absurd (cc (e, blocking))) (λ once at_place. absurd (at_place before))
        by false e = begins_over (record p { table = table }) (record { root = root (sym e); last = λ bits. absurd (cc (e, bits)) }) before

module _ {K V : Type 0} (same : K → K → Bool) (hash : K → ℕ) (setting : Setting) (began : ℕ) (w w2 : World (Node K V)) (c : Chart K) (blocks blocks2 : Blocks)
    (map : IsMapIn same hash setting w c blocks) (p : Sweep) (f : SweepFacts same hash w 0 setting c blocks began p) (tables : TablesAlone (is_incremental setting.mode) c) where
  abbrev b : Bool
  b = is_incremental setting.mode

  abbrev Told : Sweep × Swept (Node K V) → Type 0
  Told end = StageTold same hash setting w2 c blocks p end

  as_end : (q : Sweep × Swept (Node K V)) (end : Sweep × Swept (Node K V)) → end ≡ q → Told q → Told end
  as_end q end is h = subst Told (sym is) h

  -- a copier of the root that begins is not late
  module _ (next : Table) where
    late_none : (u : ℕ) → IsTable c blocks p.table u → p.table.turn ≡ c.first → Left c began u → ⊥
    late_none u there root left =
        let l = left.behind in let e : u ≡ p.table.turn = ap (λ (x : Table). x.turn) (sym there.is) in omega (arith, l, e, root)

    begins_late : p.table.turn ≡ c.first → SupersededCopierFacts same hash w2 0 setting c blocks began (copying_all p.setting p.table next) → ⊥
    begins_late root late = by (is_incremental p.setting.mode) late.point
      where
        it : Bool → Copier
        it x = if x then record (resting p.setting true p.table next copies.Marks) { end = p.table.len } else resting p.setting true p.table next copies.Asks

        by : (x : Bool) → SupersededCopying same hash w2 0 setting c blocks began (it x) (it x).stands → ⊥
        by true h = late_none h.0 h.2.0.source root h.2.0.left
        by false h = late_none h.0 h.2.source root h.2.left

    -- it begins to copy the root
    copies_next : (is_incremental setting.mode ≡ false → p.table.turn ≡ c.first) → SweepAfter same hash 0 setting began w2 c blocks (going {T = Node K V} p (at.Copies (copying_all p.setting p.table next)))
        → IsBefore p.stands → Told (going p (at.Copies (copying_all p.setting p.table next)))
    copies_next root after before = record {
      whole = by after.point;
      alone = subst (λ (x : Setting). SweepsAlone b c (at.Copies (copying_all x p.table next))) (sym f.setting_is) (begins_copying c setting tables p.table next);
      table = tt;
      none = λ once at_place. absurd (at_place before);
      ready = λ e. absurd (cc e);
    }
      where
        by : CopiesTable same hash w2 0 setting c blocks began (copying_all p.setting p.table next) → CopiesWhole same hash w2 0 setting c blocks (copying_all p.setting p.table next)
        by (inl whole) = whole
        by (inr (blocking, late)) = absurd (begins_late (root blocking) late)

  -- a map without a table
  bare_told : HasNoTable same hash w 0 setting c blocks began p → IsBefore p.stands → Told (telling (tableless p))
  bare_told none before =
      on_told same hash setting w2 c blocks p (telling (tableless p)) tables (telling_on (Node K V) (tableless p) (quiet_tableless p)) (by (removes p.purpose)) (λ once at_place. absurd (at_place before))
    where
      by : (r : Bool) → OverRoot hash b c blocks (standing p (if r then at.Over else at.Ready)) (if r then at.Over else at.Ready)
      by true = tt
      by false = λ l. absurd (let len : p.table.len ≡ 0 = ap (λ (x : Table). x.len) none.0 in omega (arith, l, len))

  -- the last table that it can come to is the root's
  last_told : (t : ℕ) → IsTable c blocks p.table t → WasRoot same hash w 0 setting c blocks began t → c.past ≤ suc t → IsBefore p.stands → Told (telling (beginning p))
  last_told t there was last before = begins_over same hash setting w2 c blocks p f.setting_is tables p (record { root = turn ∙ is; last = λ bits. (let e = is in omega (arith, last, e)) }) before
    where
      turn : p.table.turn ≡ t
      turn = ap (λ (x : Table). x.turn) there.is

      is : t ≡ c.first
      is = let low = upto same hash 0 setting w c blocks began map t was in let made = there.made in let root = map.map.rule.common.rooted (omega (arith, made)) in omega (arith, low, made, root, last)

  -- at a place of the root's table
  module _ (idle : IsIdle same hash w 0 setting c blocks) (t : ℕ) (over : GoesOver same hash w 0 setting c blocks began p t) (inside : p.place < c.len t) (root : GoesOverRoot hash b c blocks p) where
    sees_told : (end : Sweep × Swept (Node K V)) → Sees same hash 0 setting began w c blocks p end → Told end
    sees_told end (u, there, is) =
        let e : u ≡ t = ap (λ (x : Table). x.turn) (sym there.is ∙ over.table.is) in
        let word = place_word hash c blocks (c.place u p.place) in
        as_end (seen p word) end is
        (then_told same hash setting w2 c blocks p (seen p word) tables (seen_on (Node K V) p word)
        (seen_then same hash 0 setting began w c blocks map p f.setting_is idle t over inside root word (ap (λ (x : ℕ). place_word hash c blocks (c.place x p.place)) e)))

module _ {K V : Type 0} (same : K → K → Bool) (hash : K → ℕ) (setting : Setting) (began : ℕ) (w : World (Node K V)) (c : Chart K) (blocks : Blocks)
    (map : IsMapIn same hash setting w c blocks) (p : Sweep) (f : SweepFacts same hash w 0 setting c blocks began p)
    (w2 : World (Node K V)) (c2 : Chart K) (blocks2 : Blocks) (map2 : IsMapIn same hash setting w2 c2 blocks2) (same_blocks : SameBlocks c blocks blocks2) (end : Sweep × Swept (Node K V)) where
  abbrev mode : Bool
  mode = is_incremental setting.mode

  abbrev ToldAt : Chart K → Blocks → Type 0
  ToldAt d bs = StageTold same hash setting w2 d bs p end

  abbrev AfterAt : Chart K → Blocks → Type 0
  AfterAt d bs = SweepAfter same hash 0 setting began w2 d bs end

  -- nothing was changed
  at_same : (e : c2 ≡ c) → (g : blocks2 ≡ blocks) → AfterAt c2 blocks2 → (AfterAt c blocks → ToldAt c blocks) → ToldAt c2 blocks2
  at_same e g after h = subst (λ (x : Chart K). ToldAt x blocks2) (sym e) (subst (ToldAt c) (sym g) (h (subst (AfterAt c) g (subst (λ (x : Chart K). AfterAt x blocks2) e after))))

  -- a pair that stands at a place is seen in the same block
  stands_on : (t : ℕ) → IsTable c blocks p.table t → (word : ℕ) → LiesThere hash mode c blocks p word → LiesThere hash mode c blocks2 p word
  stands_on t there word (n, borrowed, stands, is) =
      let turn : p.table.turn ≡ t = ap (λ (x : Table). x.turn) there.is in
      let here : c.place t p.place ≡ Holds n Still borrowed = ap (λ (x : ℕ). c.place x p.place) (sym turn) ∙ stands in
      let low = (map.map.rule.common.keyed t p.place n Still borrowed here).0 in
      let known = map.map.shows.named t p.place n Still borrowed there.made there.known here in (
        n,
        borrowed,
        stands,
        is ∙ ap (λ (x : ℕ). link_word x (byte_of hash (c.key n)) (mark_bits Still borrowed)) (sym (same_blocks.pairs n low known).0),
      )

  -- it stands where it stood
  module _ (tables : TablesAlone mode c) where
    stays_told : (stage : Sweeping) → p.stands ≡ stage → (CopiesPairs stage → ⊥) → (told {T = Node K V} stage ≡ swept.Ready → stage ≡ at.Ready) → OverRoot hash mode c blocks2 p stage
        → end ≡ (p, told stage) → ToldAt c blocks2
    stays_told stage is other ready over e =
        subst (StageTold same hash setting w2 c blocks2 p) (sym e) (record {
          whole = copies_none same hash setting w2 c blocks2 p.stands here;
          alone = alone_at mode c tables p.stands here;
          table = subst (OverRoot hash mode c blocks2 p) (sym is) over;
          none = λ once at_place. at_place;
          ready = λ g. is ∙ ready g;
        })
      where
        here : CopiesPairs p.stands → ⊥
        here copies = other (subst CopiesPairs is copies)

    -- a pair is disposed of
    module _ (root : GoesOverRoot hash mode c blocks p) (idle : IsIdle same hash w 0 setting c blocks) (t : ℕ) (over : GoesOver same hash w 0 setting c blocks began p t) (inside : p.place < c.len t) where
      disposing_told : (q : Sweep) (says : Swept (Node K V)) (d : Dispose) → q ≡ standing p (at.Disposes d) → says ≢ swept.Ready → StageTold same hash setting w2 c blocks2 p (q, says)
      disposing_told q says d is silent =
          subst (λ (x : Sweep). StageTold same hash setting w2 c blocks2 p (x, says)) (sym is)
          (on_told same hash setting w2 c blocks2 p (standing p (at.Disposes d), says) tables (record { copies = λ h. h; ready = λ x. absurd (silent x) }) (record { root = root.root; last = root.last }) (λ once at_place h. h))

      disposes_told : (x : Dispose × Settled (Node K V)) → StageTold same hash setting w2 c blocks2 p (disposed p x)
      disposes_told (d, settled.Goes) = disposing_told _ swept.Goes d refl (λ e. cc e)
      disposes_told (d, settled.Waits) = disposing_told _ swept.Waits d refl (λ e. cc e)
      disposes_told (d, settled.Gave value) = disposing_told _ (swept.Gave value) d refl (λ e. cc e)
      disposes_told (d, settled.Done) =
          then_told same hash setting w2 c blocks2 p (telling (further p)) tables (telling_on (Node K V) (further p) (quiet_further p))
          (record {
            table = further_over hash mode c blocks2 p (record { root = root.root; last = root.last });
            none = (further_then same hash 0 setting began w c blocks map p f.setting_is idle t over inside root).none;
          })

    pub stage_told : (stage : Sweeping) → p.stands ≡ stage → SweepingFacts same hash w 0 setting c blocks began p stage → ((CopiesPairs stage → ⊥) → IsIdle same hash w 0 setting c blocks)
        → (CopiesPairs stage → ⊥) → OverRoot hash mode c blocks p stage → SweepMoves same hash 0 setting began w c blocks p stage end w2 c2 blocks2 → AfterAt c2 blocks2 → ToldAt c2 blocks2
    stage_told at.Reads is point idle other over (e, g, inl (bare, ends)) after =
        at_same e g after (λ h. subst (StageTold same hash setting w2 c blocks p) (sym ends) (bare_told same hash setting began w w2 c blocks blocks2 map p f tables point (subst IsBefore (sym is) tt)))
    stage_told at.Reads is point idle other over (e, g, inr (table, there, ends)) after =
        at_same e g after (λ h. subst (StageTold same hash setting w2 c blocks p) (sym ends)
        (enters same hash setting w2 c blocks p f.setting_is tables table (λ blocking. ap (λ (x : Table). x.turn) there.is) (subst IsBefore (sym is) tt)))
    stage_told at.Follows is (u, entered, was) idle other over (e, g, t, there, inl (last, ends)) after =
        let one : t ≡ u = ap (λ (x : Table). x.turn) (sym there.is ∙ entered.is) in
        at_same e g after (λ h. subst (StageTold same hash setting w2 c blocks p) (sym ends)
        (last_told same hash setting began w w2 c blocks blocks2 map p f tables t there (subst (WasRoot same hash w 0 setting c blocks began) (sym one) was) last (subst IsBefore (sym is) tt)))
    stage_told at.Follows is point idle other over (e, g, t, there, inr (next, ends)) after =
        at_same e g after (λ h. subst (StageTold same hash setting w2 c blocks p) (sym ends)
        (copies_next same hash setting began w w2 c blocks blocks2 map p f tables next over (subst (SweepAfter same hash 0 setting began w2 c blocks) ends h) (subst IsBefore (sym is) tt)))
    stage_told (at.Copies copier) is point idle other over moves after = absurd (other tt)
    stage_told at.Words is (t, (over_t, inside)) idle other root (e, g, sees) after =
        at_same e g after (λ h. sees_told same hash setting began w w2 c blocks blocks2 map p f tables (idle other) t over_t inside root end sees)
    stage_told (at.Tries word) is (taking, names, t, (over_t, inside)) idle other (root, there) (g, inl (e, sees)) after =
        at_same e g after (λ h. sees_told same hash setting began w w2 c blocks blocks2 map p f tables (idle other) t over_t inside root end sees)
    stage_told (at.Tries word) is point idle other (root, stands) (g, inr (n, there, current, e, ends)) after =
        subst (StageTold same hash setting w2 c2 blocks2 p) (sym ends)
        (on_told same hash setting w2 c2 blocks2 p _
        (beside_tables same hash 0 c setting.mode c2 map.map.rule map2.map.rule (inr (Removes there.0 p.place, tt, e)) tables)
        (record { copies = λ h. h; ready = λ x. absurd (cc x) })
        (record { root = root.root ∙ sym (ap (λ (d : Chart K). d.first) e); last = λ bits. (let l = root.last bits in let past = ap (λ (d : Chart K). d.past) e in let first = ap (λ (d : Chart K). d.first) e in omega (arith, l, past, first)) })
        (λ once at_place h. h))
    stage_told (at.Counts removed) is point idle other root (e, ends) after =
        subst (λ (x : Chart K). ToldAt x blocks2) (sym e)
        (subst (StageTold same hash setting w2 c blocks2 p) (sym ends)
        (on_told same hash setting w2 c blocks2 p _ tables (record { copies = λ h. h; ready = λ x. absurd (cc x) }) (record { root = root.root; last = root.last }) (λ once at_place h. h)))
    stage_told (at.Disposes dispose) is (taking, t, (over_t, inside), facts) idle other root (e, d, ends) after =
        subst (λ (x : Chart K). ToldAt x blocks2) (sym e) (subst (StageTold same hash setting w2 c blocks2 p) (sym ends) (disposes_told root (idle other) t over_t inside d))
    stage_told at.Ready is point idle other over (e, ends) after =
        subst (λ (x : Chart K). ToldAt x blocks2) (sym e) (stays_told at.Ready is (λ h. h) (λ x. refl) (λ l. record { root = (over l).root; last = (over l).last }) ends)
    stage_told (at.Asks word) is (retains, names, t, (over_t, inside)) idle other (root, there) (e, ends) after =
        subst (λ (x : Chart K). ToldAt x blocks2) (sym e)
        (stays_told (at.Asks word) is (λ h. h) (λ x. absurd (cc x)) (record { root = root.root; last = root.last }, stands_on t over_t.table word there) ends)
    stage_told at.Over is point idle other over (e, ends) after =
        subst (λ (x : Chart K). ToldAt x blocks2) (sym e) (stays_told at.Over is (λ h. h) (λ x. absurd (cc x)) tt ends)
    stage_told (at.Refused fault) is point idle other over (e, ends) after =
        subst (λ (x : Chart K). ToldAt x blocks2) (sym e) (stays_told (at.Refused fault) is (λ h. h) (λ x. absurd (cc x)) tt ends)
