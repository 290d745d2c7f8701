-- A step of a copier makes a table as it was to make it, or begins to make one behind a table that has no place.
use Rattle.std.specs.Prelude.{ℕ, ◌+◌, ◌-◌, ◌%◌, ◌^◌, ◌==◌, nat_lt, Bool, true, false, Ok, Err, if◌then◌else◌}
use Rattle.run_finds.specs.Given.SeizeWordsOp.{Out, Found, Exchanged}
use Rattle.run_finds.specs.Given.SeizeWordsWord.{block_in}
use Rattle.run_finds.specs.Given.SeizeWordsDeclared.fault.Fault.{Fault}
use Rattle.papaya_raw.specs.Given.SeizeDeclared.advance.Advance.{Advance}
use Rattle.papaya_raw.specs.Given.SeizeDeclared.advance.Advance.TheVariants as progress
use Rattle.papaya_raw.specs.Given.SeizeDeclared.rows.settle.Settle.{Settle}
use Rattle.papaya_raw.specs.Given.SeizeDeclared.rows.settle.Settled.{Settled}
use Rattle.papaya_raw.specs.Given.SeizeDeclared.rows.settle.Settled.TheVariants as settled
use Rattle.papaya_raw.specs.Given.SeizeSettle.{settle_plan}
use Rattle.papaya_raw.specs.Given.TablesChunks.{is_incremental}
use Rattle.papaya_raw.specs.Given.TablesNodes.{deferred_word}
use Rattle.papaya_raw.specs.Given.TablesDeclared.lengths.Reason.TheVariants.{NoPlace}
use Rattle.papaya_raw.specs.Given.TablesDeclared.node.Node.{Node}
use Rattle.papaya_raw.specs.Given.TablesDeclared.probe.Probe.{Probe}
use Rattle.papaya_raw.specs.Given.TablesDeclared.setting.Setting.{Setting}
use Rattle.papaya_raw.specs.Given.TablesDeclared.status.TheConstants.Status.{ABORTED, PROMOTED}
use Rattle.papaya_raw.specs.Given.TablesDeclared.table.Table.{Table}
use Rattle.papaya_raw.specs.Given.ResizeCopier.{copier_plan, plan_at}
use Rattle.papaya_raw.specs.Given.ResizeCopierClaims.{claim_read, claimed, next_read, root_read, status_read}
use Rattle.papaya_raw.specs.Given.ResizeCopierCounts.{counted, refusing}
use Rattle.papaya_raw.specs.Given.ResizeCopierFurther.{further_read, grown, remade, replacement_read}
use Rattle.papaya_raw.specs.Given.ResizeCopierMarks.{is_awaited, is_mine, marked}
use Rattle.papaya_raw.specs.Given.ResizeCopierPlaces.{next_try, pair_put, place_read, after_put}
use Rattle.papaya_raw.specs.Given.ResizeCopierPromotes.{promoted, retired, successor_read, table_retired}
use Rattle.papaya_raw.specs.Given.ResizeCopierStates.{behind, copying_all, next_place, none_left, place_done, resting}
use Rattle.run_finds.specs.Given.ResizeNewTable.{new_table_plan, table_after}
use Rattle.run_finds.specs.Given.ResizeDeclared.copier.Copier.{Copier}
use Rattle.run_finds.specs.Given.ResizeDeclared.copier.Copying.{Copying}
use Rattle.run_finds.specs.Given.ResizeDeclared.copier.Copying.TheVariants as at
use Rattle.run_finds.specs.Given.ResizeDeclared.new_table.NewTable.{NewTable}
use Rattle.run_finds.specs.Given.ResizeDeclared.yielding.Yielding.{Yielding}
use Rattle.run_finds.proofs.Given.RuleKeys.Always.{Always, AlwaysOf, always_if, always_plan_as}
use Rattle.run_finds.proofs.Shaping.{always_plan_more}
use Rattle.run_grows.specs.Grows.Further.{CopierMakes}

-- what it may begin to make is such a making
abbrev pub CopierBegins : (NewTable → Type 0) → Copier → Copying → Type 0
CopierBegins Such p (at.Passes word code table) = Such (table_after p.setting table NoPlace)
CopierBegins Such p at.Replaces = Such (table_after p.setting p.target NoPlace)
CopierBegins Such p _ = Unit {0}

module _ (Such : NewTable → Type 0) where
  abbrev Makes : Copier → Type 0
  Makes p = CopierMakes Such p.stands

  -- so it is after a step
  abbrev pub CopierEnds : (K V : Type 0) → Copier × Yielding (Node K V) Table → Type 0
  CopierEnds K V end = CopierMakes Such end.0.stands

  -- of two, where both make such
  either : (b : Bool) (x y : Copier) → Makes x → Makes y → Makes (if b then x else y)
  either true x y f g = f
  either false x y f g = g

  -- a copying that begins makes none
  pub begun_makes : (setting : Setting) (source target : Table) → Makes (copying_all setting source target)
  begun_makes setting source target = either (is_incremental setting.mode) (record (resting setting true source target at.Marks) { end = source.len }) (resting setting true source target at.Asks) tt tt

  module _ (p : Copier) where
    behind_makes : Makes (behind p)
    behind_makes = either p.whole _ _ tt tt

    left_makes : Makes (none_left p)
    left_makes = either p.whole _ _ tt tt

    next_makes : Makes (next_place p)
    next_makes = either (nat_lt p.place (p.end - 1)) _ _ tt (either (p.done == 0) _ _ behind_makes tt)

    try_makes : (word code : ℕ) (table : Table) (probe : Probe) → Makes (next_try p word code table probe)
    try_makes word code table probe = either (nat_lt probe.len table.limit) _ _ tt (either (is_incremental p.setting.mode) _ _ tt tt)

    refusing_makes : (word : ℕ) (fault : Fault) → Makes (refusing p word fault)
    refusing_makes word fault = either (p.done == 0) _ _ tt tt

    retired_so : (rest : ℕ) → Makes (table_retired p rest)
    retired_so rest = either (rest == 0) _ _ tt tt

  done_makes : (p : Copier) → Makes (place_done p)
  done_makes p = next_makes (record p { done = (p.done + 1) % 2 ^ 64 })

  put_makes : (p : Copier) (word : ℕ) → Makes (pair_put p word)
  put_makes p word = either (is_incremental p.setting.mode) _ _ tt (done_makes p)

  module _ (K V : Type 0) (hash : K → ℕ) (goes : (n : NewTable) → Such n → AlwaysOf (λ (e : NewTable × Advance Table). Such e.0) (new_table_plan {K = K} {V = V} n)) (p : Copier) where
    abbrev Ends : Copier × Yielding (Node K V) Table → Type 0
    Ends end = CopierEnds K V end

    -- by a step of the making
    grown_makes : (word code : ℕ) (end : NewTable × Advance Table) → Such end.0 → Ends (grown p word code end)
    grown_makes word code (making, progress.Goes) so = so
    grown_makes word code (making, progress.Waits) so = so
    grown_makes word code (making, progress.Done table) so = tt
    grown_makes word code (making, progress.Refused fault) so = refusing_makes p word fault

    remade_makes : (end : NewTable × Advance Table) → Such end.0 → Ends (remade p end)
    remade_makes (making, progress.Goes) so = so
    remade_makes (making, progress.Waits) so = so
    remade_makes (making, progress.Done table) so = tt
    remade_makes (making, progress.Refused fault) so = tt

    retired_makes : (rest : ℕ) (end : Settle × Settled (Node K V)) → Ends (retired p rest end)
    retired_makes rest (settle, settled.Goes) = tt
    retired_makes rest (settle, settled.Waits) = tt
    retired_makes rest (settle, settled.Gave value) = tt
    retired_makes rest (settle, settled.Done) = retired_so p rest

    -- what each answer of an operation leads to
    module _ (here : Makes p) where
      root_makes : (out : Out (Node K V)) → Always Ends (root_read p out)
      root_makes (Found link) = λ value. tt
      root_makes _ = here

      next_read_makes : (out : Out (Node K V)) → Always Ends (next_read p out)
      next_read_makes (Found link) = always_if Ends (link == 0) _ _ tt (λ value. tt)
      next_read_makes _ = here

      status_makes : (out : Out (Node K V)) → Always Ends (status_read p out)
      status_makes (Found status) =
          always_if Ends (status == PROMOTED) _ _ tt (always_if Ends (status == ABORTED) _ _ tt (always_if Ends p.spent _ _ here tt))
      status_makes _ = here

      seen_makes : (out : Out (Node K V)) → Always Ends (claim_read p out)
      seen_makes (Found claim) = always_if Ends (nat_lt claim p.source.len) _ _ tt (left_makes p)
      seen_makes _ = here

      claimed_makes : (out : Out (Node K V)) → Always Ends (claimed p out)
      claimed_makes (Found claim) = always_if Ends (nat_lt claim p.source.len) _ _ tt (left_makes p)
      claimed_makes _ = here

      marked_makes : (out : Out (Node K V)) → Always Ends (marked hash p out)
      marked_makes (Found word) =
          always_if Ends (is_mine p word) _ _ (always_if Ends (block_in word == 0) _ _ (done_makes p) (λ value. tt))
          (always_if Ends (is_awaited p word) _ _ here (next_makes p))
      marked_makes _ = here

      place_makes : (word code : ℕ) (table : Table) (probe : Probe) (out : Out (Node K V)) → Always Ends (place_read p word code table probe out)
      place_makes word code table probe (Found found) = always_if Ends (found == 0) _ _ tt (try_makes p word code table probe)
      place_makes word code table probe _ = here

      told_makes : (word code : ℕ) (table : Table) (probe : Probe) (out : Out (Node K V)) → Always Ends (after_put p word code table probe out)
      told_makes word code table probe (Exchanged (Ok found)) = put_makes p word
      told_makes word code table probe (Exchanged (Err found)) = try_makes p word code table probe
      told_makes word code table probe _ = here

      further_makes : (word code : ℕ) (table : Table) → Such (table_after p.setting table NoPlace) → (out : Out (Node K V)) → Always Ends (further_read p word code table out)
      further_makes word code table begins (Found link) = always_if Ends (link == 0) _ _ begins (λ value. tt)
      further_makes word code table begins _ = here

      replacement_makes : Such (table_after p.setting p.target NoPlace) → (out : Out (Node K V)) → Always Ends (replacement_read p out)
      replacement_makes begins (Found link) = always_if Ends (link == 0) _ _ begins (λ value. tt)
      replacement_makes begins _ = here

      counted_makes : (out : Out (Node K V)) → Always Ends (counted p out)
      counted_makes (Found count) = always_if Ends ((count + p.done) % 2 ^ 64 == p.source.len) _ _ tt (behind_makes (record p { done = 0 }))
      counted_makes _ = here

      promoted_makes : (out : Out (Node K V)) → Always Ends (promoted p out)
      promoted_makes (Exchanged (Ok found)) = tt
      promoted_makes (Exchanged (Err found)) = behind_makes p
      promoted_makes _ = here

      successor_makes : (table : ℕ) (out : Out (Node K V)) → Always Ends (successor_read p table out)
      successor_makes table (Found link) = tt
      successor_makes table _ = here

      -- whatever the point
      pub point_makes : (stands : Copying) → CopierMakes Such stands → CopierBegins Such p stands → AlwaysOf Ends (plan_at hash p stands)
      point_makes at.Begins makes begins = root_makes
      point_makes at.Follows makes begins = next_read_makes
      point_makes at.Asks makes begins = status_makes
      point_makes at.Sees makes begins = seen_makes
      point_makes at.Claims makes begins = claimed_makes
      point_makes at.Marks makes begins = marked_makes
      point_makes (at.Probes word code table probe) makes begins = place_makes word code table probe
      point_makes (at.Puts word code table probe) makes begins = told_makes word code table probe
      point_makes (at.Covers word) makes begins = λ out. done_makes p
      point_makes (at.Passes word code table) makes begins = further_makes word code table begins
      point_makes (at.Grows word code making) makes begins =
          always_plan_more (λ (e : NewTable × Advance Table). Such e.0) Ends (grown p word code) (grown_makes word code) (new_table_plan making) (goes making makes)
      point_makes at.Aborts makes begins = λ out. tt
      point_makes at.Replaces makes begins = replacement_makes begins
      point_makes (at.Remakes making) makes begins =
          always_plan_more (λ (e : NewTable × Advance Table). Such e.0) Ends (remade p) remade_makes (new_table_plan making) (goes making makes)
      point_makes at.Counts makes begins = counted_makes
      point_makes (at.Tallies word fault) makes begins = λ out. tt
      point_makes (at.Unmarks word fault) makes begins = λ out. tt
      point_makes (at.Unclaims fault) makes begins = λ out. tt
      point_makes at.Promotes makes begins = promoted_makes
      point_makes at.Announces makes begins = λ out. tt
      point_makes (at.Succeeds table) makes begins = successor_makes table
      point_makes (at.Retires settle rest) makes begins = always_plan_as Ends (retired p rest) (retired_makes rest) (settle_plan deferred_word settle)
      point_makes at.Over makes begins = here
      point_makes (at.Refused fault) makes begins = here

    pub copier_makes : CopierMakes Such p.stands → CopierBegins Such p p.stands → AlwaysOf Ends (copier_plan hash p)
    copier_makes makes begins = point_makes makes p.stands makes begins
