-- A sweep that removes pairs, at each of its points: where none is behind the table of the root, it comes to no copying, whatever it finds, and whatever it is told. So
-- it is never refused.
use Rattle.std.specs.Prelude.{◌≡◌, ◌≢◌, ℕ, ◌==◌, ◌&&◌, nat_lt, Bool, true, false, Some, Ok, Err, if◌then◌else◌}
use Rattle.std.proofs.Common.{sym, subst, ap, ◌∙◌, inl, inr}
use Rattle.std.proofs.lemmas.Bool.{cases_eq, ne_eqb}
use Rattle.seize_words.specs.OneMemory.Mem.{Mem, value_at, word_at, Took}
use Rattle.seize_words.specs.OneMemory.Op.{Out, Found, Stored, Exchanged, Made, Taken, Roomed}
use Rattle.seize_words.specs.OneMemory.Plan.{Now, Seeing, Steps}
use Rattle.seize_words.specs.OneMemory.Word.{block_in}
use Rattle.seize_words.specs.declared.at.At.TheVariants.{Root, Word}
use Rattle.seize.specs.declared.rows.settle.Settled.{Settled}
use Rattle.seize.specs.declared.rows.settle.Settled.TheVariants as settled
use Rattle.map_tables.specs.Chunks.{is_incremental}
use Rattle.map_tables.specs.Marks.{has_mark}
use Rattle.map_tables.specs.Nodes.{table_seen}
use Rattle.map_tables.specs.TablePlaces.{at_word}
use Rattle.map_tables.specs.declared.marks.TheConstants.{COPYING}
use Rattle.map_tables.specs.declared.node.Node.{Node}
use Rattle.map_tables.specs.declared.setting.Setting.{Setting}
use Rattle.map_tables.specs.declared.table.Table.{Table}
use Rattle.map_tables.specs.declared.table_words.TheConstants.{NEXT}
use Rattle.owner_calls.specs.Given.ResizeDispose.{dispose_plan}
use Rattle.owner_calls.specs.Given.ResizeDeclared.dispose.Dispose.{Dispose}
use Rattle.papaya_raw.specs.Given.SweepsSweep.{counts, disposed, next_read, root_read, sweep_plan, tried, tries, word_found, words}
use Rattle.papaya_raw.specs.Given.SweepsSweep as sweeps
use Rattle.papaya_raw.specs.Given.SweepsSweepPoints.{after_reply, at_end, at_pair, beginning, entering, further, past, removes, reply_at, seen, standing, tableless, telling}
use Rattle.papaya_raw.specs.Given.SweepsSweepPoints as points
use Rattle.papaya_raw.specs.Given.ReservesDeclared.sweep.Purpose.{Purpose}
use Rattle.papaya_raw.specs.Given.ReservesDeclared.sweep.Purpose.TheVariants.{Walks, Clears, Retains}
use Rattle.papaya_raw.specs.Given.ReservesDeclared.sweep.Sweep.{Sweep}
use Rattle.papaya_raw.specs.Given.ReservesDeclared.sweep.Sweeping.{Sweeping}
use Rattle.papaya_raw.specs.Given.ReservesDeclared.sweep.Sweeping.TheVariants as at
use Rattle.papaya_raw.specs.Given.ReservesDeclared.sweep.Swept.{Swept}
use Rattle.papaya_raw.specs.Given.ReservesDeclared.sweep.Swept.TheVariants as swept
use Rattle.owner_calls.proofs.Given.RuleKeys.Always.{Always, always_ends, always_plan_as, always_steps}
use Rattle.seize_words.proofs.OneMemory.OneOwner.Operations.{loaded}
use Rattle.owner_asks.proofs.Steady.Ends.{EndsAt, seen_link}

-- it removes pairs
pub record Removing (purpose : Purpose) (its setting : Setting) : Type 0 where
  pub removing : removes purpose ≡ true
  pub bits : is_incremental its.mode ≡ true
  pub root_is : its.root ≡ setting.root

-- it tells no refusal
abbrev pub IsDone : {T : Type 0} → Swept T → Type 0
IsDone (swept.Refused fault) = ⊥
IsDone _ = Unit {0}

module _ (setting : Setting) (link : ℕ) where
  -- the table is that of the root
  abbrev pub AtTable : Table → Type 0
  AtTable table = (table.link ≡ link) × (link ≢ 0)

  abbrev pub StandsSo : Table → Sweeping → Type 0
  StandsSo table at.Reads = Unit {0}
  StandsSo table at.Over = Unit {0}
  StandsSo table at.Follows = AtTable table
  StandsSo table at.Words = AtTable table
  StandsSo table (at.Asks word) = AtTable table
  StandsSo table (at.Tries word) = AtTable table
  StandsSo table (at.Counts removed) = AtTable table
  StandsSo table (at.Disposes dispose) = AtTable table
  StandsSo table _ = ⊥

  abbrev pub Removes : Sweep → Type 0
  Removes p = Removing p.purpose p.setting setting

  -- such a sweep stands at such a point
  abbrev pub IsSteady : Sweep → Type 0
  IsSteady p = Removes p × StandsSo p.table p.stands

  abbrev pub So : {T : Type 0} → Sweep × Swept T → Type 0
  So end = IsSteady end.0 × IsDone end.1

  module _ (T : Type 0) where
    tells_so : (table : Table) (stands : Sweeping) → StandsSo table stands → IsDone (points.told {T = T} stands)
    tells_so table at.Reads so = tt
    tells_so table at.Over so = tt
    tells_so table at.Follows so = tt
    tells_so table at.Words so = tt
    tells_so table (at.Asks word) so = tt
    tells_so table (at.Tries word) so = tt
    tells_so table (at.Counts removed) so = tt
    tells_so table (at.Disposes dispose) so = tt
    tells_so table at.Ready so = absurd so
    tells_so table (at.Copies copier) so = absurd so
    tells_so table (at.Refused fault) so = absurd so

    telling_so : (p : Sweep) → IsSteady p → So (telling {T = T} p)
    telling_so p so = (so, tells_so p.table p.stands so.1)

    either : (b : Bool) (x y : Sweep × Swept T) → So x → So y → So (if b then x else y)
    either true x y f g = f
    either false x y f g = g

  -- where it goes on from a point
  module _ (p : Sweep) (r : Removes p) where
    tableless_so : IsSteady (tableless p)
    tableless_so = subst (λ (b : Bool). IsSteady (standing p (if b then at.Over else at.Ready))) (sym r.removing) (r, tt)

    entering_so : (table : Table) → AtTable table → IsSteady (entering p table)
    entering_so table t =
        subst (λ (b : Bool). IsSteady (if b then record p { table = table; stands = at.Follows } else beginning (record p { table = table }))) (sym r.bits) (r, t)

    -- in the table of the root
    module _ (t : AtTable p.table) where
      beginning_so : IsSteady (beginning p)
      beginning_so = subst (λ (b : Bool). IsSteady (record p { place = 0; met = false; stands = if b then at.Words else at.Ready })) (sym r.removing) (r, t)

      stands_either : (b : Bool) (x y : Sweeping) → StandsSo p.table x → StandsSo p.table y → StandsSo p.table (if b then x else y)
      stands_either true x y f g = f
      stands_either false x y f g = g

      pub further_so : IsSteady (further p)
      further_so =
          (r, stands_either (nat_lt (past p).place p.table.len) at.Words (at_end (past p)) t (stands_either (removes p.purpose && p.met) at.Follows at.Over t tt))

      pair_so : (T : Type 0) (word : ℕ) → So {T = T} (at_pair p.purpose p word)
      pair_so T word = by p.purpose r.removing
        where
          by : (purpose : Purpose) → removes purpose ≡ true → So {T = T} (at_pair purpose p word)
          by Walks e = absurd (cc e)
          by Clears e = ((r, t), tt)
          by Retains e = ((r, t), tt)

  module _ (T : Type 0) (p : Sweep) (r : Removes p) (t : AtTable p.table) where
    seen_so : (word : ℕ) → So {T = T} (seen p word)
    seen_so word =
        either T (removes p.purpose && has_mark word COPYING) (telling (further (record p { met = true }))) _
        (telling_so T (further (record p { met = true })) (further_so (record p { met = true }) r t))
        (either T (block_in word == 0) (telling (further p)) (at_pair p.purpose p word) (telling_so T (further p) (further_so p r t)) (pair_so p r t T word))

    disposed_so : (e : Dispose × Settled T) → So (disposed p e)
    disposed_so (d, settled.Goes) = ((r, t), tt)
    disposed_so (d, settled.Waits) = ((r, t), tt)
    disposed_so (d, settled.Gave value) = ((r, t), tt)
    disposed_so (d, settled.Done) = telling_so T (further p) (further_so p r t)

  -- where a step leads
  module _ {K V : Type 0} (hash : K → ℕ) (m m2 : Mem (Node K V)) (linked : EndsAt setting link m) (p : Sweep) (s0 : IsSteady p) (end : Sweep × Swept (Node K V)) where
    abbrev Stepped : Sweeping → Type 0
    Stepped stands = Steps Took value_at m (sweeps.plan_at hash p stands) m2 end

    r : Removes p
    r = s0.0

    stays : So {T = Node K V} (p, swept.Goes)
    stays = (s0, tt)

    root_is : (word : ℕ) → word_at m (Root p.setting.root) ≡ Some word → word ≡ link
    root_is word here = let root = ap (λ (i : ℕ). word_at m (Root i)) r.root_is ∙ linked.root in cc (here, root)

    root_so : Always (So {T = Node K V}) (root_read {K = K} {V = V} p (Found link))
    root_so = elim (cases_eq link 0) as (λ _. Always (So {T = Node K V}) (root_read {K = K} {V = V} p (Found link))) [
      | inl none ↦ subst (λ (n : ℕ). Always (So {T = Node K V}) (root_read {K = K} {V = V} p (Found n))) (sym none) (telling_so (Node K V) (tableless p) (tableless_so p r))
      | inr some ↦ subst (λ (b : Bool). Always (So {T = Node K V}) (if b then Now (telling (tableless p)) else Seeing (block_in link) (λ (value : Node K V). Now (telling (entering p (table_seen link value)))))) (sym (ne_eqb link 0 some))
          (λ value. telling_so (Node K V) (entering p (table_seen link value)) (entering_so p r (table_seen link value) (seen_link link value, some)))
    ]

    reads_so : Stepped at.Reads → So end
    reads_so s =
        let d = loaded m (root_read p) (Root p.setting.root) m2 end s in
        always_ends So (value_at m) (root_read p (Found d.0)) end (subst (λ (n : ℕ). Always (So {T = Node K V}) (root_read {K = K} {V = V} p (Found n))) (sym (root_is d.0 d.1)) root_so) d.3

    next_is : AtTable p.table → (word : ℕ) → word_at m (at_word p.table NEXT) ≡ Some word → word ≡ 0
    next_is t word here =
        let none : word_at m (at_word p.table NEXT) ≡ Some 0 = subst (λ (l : ℕ). word_at m (Word (block_in l) NEXT) ≡ Some 0) (sym t.0) (linked.last t.1) in cc (here, none)

    follows_so : AtTable p.table → Stepped at.Follows → So end
    follows_so t s =
        let d = loaded m (next_read p) (at_word p.table NEXT) m2 end s in
        always_ends So (value_at m) (next_read p (Found d.0)) end
        (subst (λ (n : ℕ). Always (So {T = Node K V}) (next_read {K = K} {V = V} p (Found n))) (sym (next_is t d.0 d.1)) (telling_so (Node K V) (beginning p) (beginning_so p r t))) d.3

    word_so : AtTable p.table → (out : Out (Node K V)) → Always So (word_found p out)
    word_so t (Found word) = seen_so (Node K V) p r t word
    word_so t Stored = stays
    word_so t (Exchanged e) = stays
    word_so t (Made e) = stays
    word_so t (Taken value) = stays
    word_so t (Roomed e) = stays

    tried_so : AtTable p.table → (word : ℕ) (out : Out (Node K V)) → Always So (tried p word out)
    tried_so t word (Exchanged (Ok found)) = ((r, t), tt)
    tried_so t word (Exchanged (Err found)) = seen_so (Node K V) p r t found
    tried_so t word (Found found) = stays
    tried_so t word Stored = stays
    tried_so t word (Made e) = stays
    tried_so t word (Taken value) = stays
    tried_so t word (Roomed e) = stays

    pub comes_steady : Steps Took value_at m (sweep_plan hash p) m2 end → So end
    comes_steady s = by p.stands s0.1 s
      where
        by : (stands : Sweeping) → StandsSo p.table stands → Stepped stands → So end
        by at.Reads t st = reads_so st
        by at.Follows t st = follows_so t st
        by at.Words t st = always_steps So m m2 (words p) end (word_so t) st
        by (at.Tries word) t st = always_steps So m m2 (tries p word) end (tried_so t word) st
        by (at.Counts removed) t st = always_steps So m m2 (counts p removed) end (λ out. ((r, t), tt)) st
        by (at.Disposes dispose) t st = always_steps So m m2 (sweeps.plan_at hash p (at.Disposes dispose)) end (always_plan_as So (disposed p) (disposed_so (Node K V) p r t) (dispose_plan dispose)) st
        by (at.Asks word) t st = always_steps So m m2 (sweeps.plan_at hash p (at.Asks word)) end (s0, tt) st
        by at.Over t st = always_steps So m m2 (sweeps.plan_at hash p at.Over) end (s0, tt) st
        by at.Ready t st = absurd t
        by (at.Copies copier) t st = absurd t
        by (at.Refused fault) t st = absurd t

  -- whatever it is told
  pub told_steady : (p : Sweep) → IsSteady p → (keeps : Bool) → IsSteady (after_reply p keeps)
  told_steady p s0 keeps = by p.stands s0.1
    where
      either_so : (b : Bool) (x y : Sweep) → IsSteady x → IsSteady y → IsSteady (if b then x else y)
      either_so true x y f g = f
      either_so false x y f g = g

      by : (stands : Sweeping) → StandsSo p.table stands → IsSteady (reply_at stands p keeps)
      by (at.Asks word) t = either_so keeps (further p) (standing p (at.Tries word)) (further_so p s0.0 t) (s0.0, t)
      by at.Reads t = s0
      by at.Over t = s0
      by at.Follows t = s0
      by at.Words t = s0
      by (at.Tries word) t = s0
      by (at.Counts removed) t = s0
      by (at.Disposes dispose) t = s0
      by at.Ready t = absurd t
      by (at.Copies copier) t = absurd t
      by (at.Refused fault) t = absurd t
