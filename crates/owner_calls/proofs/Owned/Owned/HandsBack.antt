-- A call that was begun with a pair has it, in hand or in its own block, until it has put it into the map, or hands it out.
use Rattle.std.specs.Prelude.{◌==◌, ◌^◌, ◌<◌, Option, Some, None, Ok, Err, if◌then◌else◌}
use Rattle.std.proofs.Common.{◌≡◌, ◌≢◌, ℕ, Bool, true, false, refl, sym, subst, arith, eqb-true}
use Rattle.std.proofs.lemmas.Bool.{eqb-false}
use Rattle.seize_words.specs.OneMemory.Mem.{Mem, value_at, Took}
use Rattle.seize_words.specs.OneMemory.Op.{Out, Found, Stored, Exchanged, Made, Taken, Roomed}
use Rattle.seize_words.specs.OneMemory.Plan.{Steps}
use Rattle.seize.specs.declared.advance.Advance.{Advance}
use Rattle.seize.specs.declared.advance.Advance.TheVariants as progress
use Rattle.seize.specs.declared.rows.settle.Settled.{Settled}
use Rattle.seize.specs.declared.rows.settle.Settled.TheVariants as settled
use Rattle.papaya_raw.specs.Answers.{ended}
use Rattle.papaya_raw.specs.Call.{makes_of, root_found, next_found, dropped, key_read, pair_read, word_read, word_found, tried, first_made, next_made, disposed, helped, copied, plan_at}
use Rattle.papaya_raw.specs.CallPoints.{word_to, going, standing, over, ending, tableless, at_free, at_last, at_pair, after_finding, entering, continued_in, changed, counted, having_met}
use Rattle.map_tables.specs.Chunks.{is_incremental}
use Rattle.map_straight.specs.Given.ResizeCopier.{copier_plan}
use Rattle.map_straight.specs.Given.ResizeCopierStates.{copying_all}
use Rattle.map_straight.specs.Given.ResizeDispose.{disposing, dispose_plan}
use Rattle.map_tables.specs.Finding.{may_name}
use Rattle.map_straight.specs.Given.ResizeNewTable.{new_table_plan}
use Rattle.map_tables.specs.Trials.{next_trial, with_met}
use Rattle.map_tables.specs.declared.marks.TheConstants.{TOMBSTONE}
use Rattle.map_tables.specs.declared.node.Node.{Node}
use Rattle.map_straight.specs.Given.ResizeDeclared.yielding.Yielding.{Yielding}
use Rattle.map_straight.specs.Given.ResizeDeclared.yielding.Yielding.TheVariants as outcome
use Rattle.map_tables.specs.declared.table.Table.{Table}
use Rattle.papaya_raw.specs.declared.machines.answer.KeyAnswer.{KeyAnswer}
use Rattle.papaya_raw.specs.declared.machines.answer.KeyAnswer.TheVariants as answers
use Rattle.papaya_raw.specs.declared.machines.answer.Called.{Called}
use Rattle.papaya_raw.specs.declared.machines.answer.Called.TheVariants as called
use Rattle.papaya_raw.specs.declared.machines.answer.End.{End}
use Rattle.papaya_raw.specs.declared.machines.answer.End.TheVariants as ends
use Rattle.papaya_raw.specs.declared.machines.answer.Missing.TheVariants as missing
use Rattle.papaya_raw.specs.declared.machines.answer.There.{There}
use Rattle.papaya_raw.specs.declared.machines.answer.There.TheVariants as there
use Rattle.papaya_raw.specs.declared.machines.call.KeyCall.{KeyCall}
use Rattle.papaya_raw.specs.declared.machines.call.Calling.{Calling}
use Rattle.papaya_raw.specs.declared.machines.call.Calling.TheVariants as at
use Rattle.map_straight.specs.Given.ResizeDeclared.copier.Copier.{Copier}
use Rattle.map_straight.specs.Given.ResizeDeclared.dispose.Dispose.{Dispose}
use Rattle.map_tables.specs.declared.finding.Finding.{Finding}
use Rattle.map_tables.specs.declared.finding.Finding.TheVariants as finds
use Rattle.map_straight.specs.Given.ResizeDeclared.new_table.NewTable.{NewTable}
use Rattle.owner_whole.proofs.Given.PointsCalls.Asked.{passed_so}
use Rattle.map_straight.proofs.Given.RuleKeys.Always.{Always, AlwaysOf, always_if, always_plan_as, always_steps}
use Rattle.owner_calls.specs.Owned.Owned.{PutsIt}

-- it puts the pair into the map, or leaves the one that is there
abbrev pub PutsOrLeaves : There → Type 0
PutsOrLeaves there.Puts = Unit {0}
PutsOrLeaves there.Answers = Unit {0}
PutsOrLeaves _ = ⊥

-- it comes to an end with its pair in the map
abbrev pub PutsAtEnd : End → Type 0
PutsAtEnd (ends.Answered answer) = PutsIt answer
PutsAtEnd (ends.Refused fault) = ⊥

-- it has only to tell how it has ended
abbrev pub IsOver : Calling → Type 0
IsOver (at.Over end) = Unit {0}
IsOver _ = ⊥

module _ {K V Q : Type 0} where
  -- It has its pair yet to make a block of, or a block with it; or has put it into the map, and is to answer so.
  abbrev pub HasPairAt : KeyCall K V Q → Calling → Type 0
  HasPairAt p at.Makes = (p.unmade ≢ None) × (p.hash < 2 ^ 64)
  HasPairAt p (at.Looks lookup) = ⊥
  HasPairAt p (at.Tries word new) = (p.own ≢ 0) × (new ≢ TOMBSTONE)
  HasPairAt p (at.Counts removed) = removed ≡ 0
  HasPairAt p (at.Asks asking) = ⊥
  HasPairAt p (at.Disposes dispose answer) = PutsIt answer
  HasPairAt p (at.Drops end) = Unit {0}
  HasPairAt p (at.Over end) = PutsAtEnd end
  HasPairAt p _ = p.own ≢ 0

  -- a call that puts its pair where there is none, and has it
  pub record HasPair (p : KeyCall K V Q) : Type 0 where
    pub absent : p.missing ≡ missing.Puts
    pub present : PutsOrLeaves p.there
    pub own : p.own ≢ TOMBSTONE
    pub pair : HasPairAt p p.stands

  -- after a step it has the pair, or hands it out and is over, or ends with the pair in the map
  abbrev pub KeepsPair : KeyCall K V Q × Called (Node K V) → Type 0
  KeepsPair (p, called.Unstored value) = IsOver p.stands
  KeepsPair (p, called.Asks asked) = ⊥
  KeepsPair (p, called.Done answer) = PutsIt answer
  KeepsPair (p, called.Refused fault) = ⊥
  KeepsPair (p, _) = HasPair p

  either : (b : Bool) (x y : KeyCall K V Q × Called (Node K V)) → KeepsPair x → KeepsPair y → KeepsPair (if b then x else y)
  either true x y f g = f
  either false x y f g = g

  by_test : (b : Bool) (x y : KeyCall K V Q × Called (Node K V)) → (b ≡ true → KeepsPair x) → (b ≡ false → KeepsPair y) → KeepsPair (if b then x else y)
  by_test true x y f g = f refl
  by_test false x y f g = g refl

  -- where it goes on from a point
  module _ (p : KeyCall K V Q) (absent : p.missing ≡ missing.Puts) (present : PutsOrLeaves p.there) (no_tombstone : p.own ≢ TOMBSTONE) where
    goes_on : (stands : Calling) → HasPairAt p stands → HasPair (standing p stands)
    goes_on stands pair = record { absent = absent; present = present; own = no_tombstone; pair = by stands pair }
      where
        by : (stands : Calling) → HasPairAt p stands → HasPairAt (standing p stands) stands
        by at.Makes h = h
        by (at.Looks lookup) h = h
        by at.Roots h = h
        by at.Probes h = h
        by (at.Tries word new) h = h
        by (at.Counts removed) h = h
        by at.Nexts h = h
        by (at.Firsts making) h = h
        by (at.Allocs making) h = h
        by (at.Helps copier goal) h = h
        by (at.Copies copier) h = h
        by (at.Asks asking) h = h
        by (at.Disposes dispose answer) h = h
        by (at.Drops end) h = h
        by (at.Over end) h = h

    keeps_counted : (removed : ℕ) → removed ≡ 0 → KeepsPair (counted p removed)
    keeps_counted removed none =
        by_test (removed == 0) (over p (ends.Answered (answers.Stored p.own))) _ (λ e. tt) (λ e. absurd (eqb-false removed 0 e none))

    keeps_disposed : (answer : KeyAnswer) → PutsIt answer → (end : Dispose × Settled (Node K V)) → KeepsPair (disposed p answer end)
    keeps_disposed answer puts (d, settled.Goes) = goes_on (at.Disposes d answer) puts
    keeps_disposed answer puts (d, settled.Waits) = goes_on (at.Disposes d answer) puts
    keeps_disposed answer puts (d, settled.Gave value) = goes_on (at.Disposes d answer) puts
    keeps_disposed answer puts (d, settled.Done) = puts

    keeps_changed : (word new : ℕ) → new ≢ TOMBSTONE → KeepsPair (changed p word new)
    keeps_changed word new live =
        by_test (new == TOMBSTONE) (going p (at.Counts word)) _ (λ e. absurd (live (eqb-true new TOMBSTONE e)))
        (λ e. either (word == 0) (going p (at.Counts 0)) _ (goes_on (at.Counts 0) refl)
        (goes_on (at.Disposes (disposing p.setting word p.trial.table) (answers.Replaced word p.own)) tt))

    -- with its pair in its own block
    module _ (some : p.own ≢ 0) where
      keeps_ending : (end : End) → KeepsPair (ending p end)
      keeps_ending end = by_test (p.own == 0) (over p end) (going p (at.Drops end)) (λ e. absurd (some (eqb-true p.own 0 e))) (λ e. goes_on (at.Drops end) tt)

      keeps_tableless : KeepsPair (tableless p.missing p)
      keeps_tableless = subst (λ m. KeepsPair (tableless m p)) (sym absent) (goes_on _ some)

      keeps_free : KeepsPair (at_free p.missing p)
      keeps_free = subst (λ m. KeepsPair (at_free m p)) (sym absent) (goes_on (at.Tries 0 p.own) (some, no_tombstone))

      keeps_last : KeepsPair (at_last p.missing p)
      keeps_last = subst (λ m. KeepsPair (at_last m p)) (sym absent) (record { absent = absent; present = present; own = no_tombstone; pair = some })

      keeps_pair : (t : There) → PutsOrLeaves t → (word : ℕ) → KeepsPair (at_pair t p word)
      keeps_pair there.Answers so word = keeps_ending (ends.Answered (answers.Found word))
      keeps_pair there.Puts so word = goes_on (at.Tries word p.own) (some, no_tombstone)
      keeps_pair there.Removes so word = absurd so
      keeps_pair there.Asks so word = absurd so

      keeps_told : (loaded : Bool) (word : ℕ) (found : Finding) → KeepsPair (after_finding loaded p word found)
      keeps_told loaded word finds.Free = keeps_free
      keeps_told loaded word finds.Passed =
          passed_so KeepsPair (having_met p word) (λ next. record { absent = absent; present = present; own = no_tombstone; pair = some })
          (record { absent = absent; present = present; own = no_tombstone; pair = some })
          (λ e. let none : p.missing ≡ missing.Answers = e in absurd (cc (absent, none))) (λ e untold. let told : p.missing ≡ missing.Asks = e in absurd (cc (absent, told)))
          (next_trial (with_met p.trial word))
      keeps_told loaded word finds.Moved = goes_on at.Nexts some
      keeps_told loaded word finds.Copying = either loaded (standing p at.Probes, called.Waits) (going p at.Probes) (goes_on at.Probes some) (goes_on at.Probes some)
      keeps_told loaded word finds.There = keeps_pair p.there present word

      keeps_entering : (table : Table) → KeepsPair (entering p table)
      keeps_entering table = record { absent = absent; present = present; own = no_tombstone; pair = some }

      keeps_on : (table : Table) → KeepsPair (continued_in p table)
      keeps_on table =
          either (is_incremental p.setting.mode) _ (going p (at.Copies (copying_all p.setting p.trial.table table)))
          (either p.helped (entering p table) _ (keeps_entering table) (record { absent = absent; present = present; own = no_tombstone; pair = some }))
          (goes_on (at.Copies (copying_all p.setting p.trial.table table)) some)

      -- what machines within it tell
      keeps_first : (end : NewTable × Advance Table) → KeepsPair (first_made p end)
      keeps_first (n, progress.Goes) = goes_on (at.Firsts n) some
      keeps_first (n, progress.Waits) = goes_on (at.Firsts n) some
      keeps_first (n, progress.Done table) = keeps_entering table
      keeps_first (n, progress.Refused fault) = keeps_ending (ends.Refused fault)

      keeps_next : (end : NewTable × Advance Table) → KeepsPair (next_made p end)
      keeps_next (n, progress.Goes) = goes_on (at.Allocs n) some
      keeps_next (n, progress.Waits) = goes_on (at.Allocs n) some
      keeps_next (n, progress.Done table) = keeps_on table
      keeps_next (n, progress.Refused fault) = keeps_ending (ends.Refused fault)

      keeps_helped : (goal : Table) (end : Copier × Yielding (Node K V) Table) → KeepsPair (helped p goal end)
      keeps_helped goal (copier, outcome.Goes) = goes_on (at.Helps copier goal) some
      keeps_helped goal (copier, outcome.Waits) = goes_on (at.Helps copier goal) some
      keeps_helped goal (copier, outcome.Gave value) = goes_on (at.Helps copier goal) some
      keeps_helped goal (copier, outcome.Done table) = keeps_entering goal
      keeps_helped goal (copier, outcome.Refused fault) = keeps_ending (ends.Refused fault)

      keeps_copied : (end : Copier × Yielding (Node K V) Table) → KeepsPair (copied p end)
      keeps_copied (copier, outcome.Goes) = goes_on (at.Copies copier) some
      keeps_copied (copier, outcome.Waits) = goes_on (at.Copies copier) some
      keeps_copied (copier, outcome.Gave value) = goes_on (at.Copies copier) some
      keeps_copied (copier, outcome.Done table) = keeps_entering table
      keeps_copied (copier, outcome.Refused fault) = keeps_ending (ends.Refused fault)

  -- what each operation's answer leads to
  module _ (asks : Q → K → Bool) (same : K → K → Bool) (hash : K → ℕ) (p : KeyCall K V Q) (h : HasPair p) where
    on_dropped : (end : End) (out : Out (Node K V)) → Always KeepsPair (dropped p end out)
    on_dropped end (Taken value) = tt
    on_dropped end (Found found) = h
    on_dropped end Stored = h
    on_dropped end (Exchanged r) = h
    on_dropped end (Made r) = h
    on_dropped end (Roomed r) = h

    on_over : (end : End) → PutsAtEnd end → KeepsPair (p, ended end)
    on_over (ends.Answered answer) puts = puts
    on_over (ends.Refused fault) puts = absurd puts

    module _ (some : p.own ≢ 0) where
      on_root : (out : Out (Node K V)) → Always KeepsPair (root_found p out)
      on_root (Found link) = always_if KeepsPair (link == 0) _ _ (keeps_tableless p h.absent h.present h.own some) (λ value. keeps_entering p h.absent h.present h.own some _)
      on_root Stored = h
      on_root (Exchanged r) = h
      on_root (Made r) = h
      on_root (Taken value) = h
      on_root (Roomed r) = h

      on_next : (out : Out (Node K V)) → Always KeepsPair (next_found p out)
      on_next (Found link) = always_if KeepsPair (link == 0) _ _ (keeps_last p h.absent h.present h.own some) (λ value. keeps_on p h.absent h.present h.own some _)
      on_next Stored = h
      on_next (Exchanged r) = h
      on_next (Made r) = h
      on_next (Taken value) = h
      on_next (Roomed r) = h

      on_key : (loaded : Bool) (word : ℕ) (key : Option K) → Always KeepsPair (key_read asks same loaded p word key)
      on_key loaded word (Some key) = λ value. keeps_told p h.absent h.present h.own some loaded word _
      on_key loaded word None = λ own value. keeps_told p h.absent h.present h.own some loaded word _

      on_pair : (loaded : Bool) (word : ℕ) (asked : Option Q) → Always KeepsPair (pair_read asks same loaded p word asked)
      on_pair loaded word (Some q) = λ value. keeps_told p h.absent h.present h.own some loaded word _
      on_pair loaded word None = on_key loaded word p.replies.key

      on_word : (loaded : Bool) (word : ℕ) → Always KeepsPair (word_read asks same loaded p word)
      on_word loaded word = always_if KeepsPair (may_name p.hash word) _ _ (on_pair loaded word p.asked) (keeps_told p h.absent h.present h.own some loaded word _)

      on_found : (out : Out (Node K V)) → Always KeepsPair (word_found asks same p out)
      on_found (Found word) = on_word true word
      on_found Stored = h
      on_found (Exchanged r) = h
      on_found (Made r) = h
      on_found (Taken value) = h
      on_found (Roomed r) = h

      on_tried : (word new : ℕ) → new ≢ TOMBSTONE → (out : Out (Node K V)) → Always KeepsPair (tried asks same p word new out)
      on_tried word new live (Exchanged (Ok found)) = keeps_changed p h.absent h.present h.own word new live
      on_tried word new live (Exchanged (Err found)) = on_word false found
      on_tried word new live (Found found) = h
      on_tried word new live Stored = h
      on_tried word new live (Made r) = h
      on_tried word new live (Taken value) = h
      on_tried word new live (Roomed r) = h

    -- a word names its own block
    own_some : (block : ℕ) → p.hash < 2 ^ 64 → 0 < block → block < 2 ^ 53 → word_to block p.hash ≢ 0
    own_some block few positive small z = at_block (omega (arith, z, few, small)) positive
      where
        at_block : block ≡ 0 → 0 < block → ⊥
        at_block e l = absurd (omega (arith, e, l))

    word_own : (block : ℕ) → word_to block p.hash ≢ TOMBSTONE
    word_own block e = absurd (omega (arith, e))

    module _ (m m2 : Mem (Node K V)) (end : KeyCall K V Q × Called (Node K V)) where
      always_at : (stands : Calling) → AlwaysOf KeepsPair (plan_at asks same hash p stands) → Steps Took value_at m (plan_at asks same hash p stands) m2 end → KeepsPair end
      always_at stands all s = always_steps KeepsPair m m2 (plan_at asks same hash p stands) end all s

      on_makes : p.hash < 2 ^ 64 → (node : Option (Node K V)) → node ≢ None → Steps Took value_at m (makes_of p node) m2 end → KeepsPair end
      on_makes few None has s = absurd (has refl)
      on_makes few (Some node) has (Made (Ok block), took, e) =
          subst KeepsPair (sym e)
          (record { absent = h.absent; present = h.present; own = word_own block; pair = own_some block few took.0.0.1 took.0.1 })
      on_makes few (Some node) has (Made (Err back), took, e) = subst KeepsPair (sym e) tt
      on_makes few (Some node) has (Found word, took, e) = absurd took.0
      on_makes few (Some node) has (Stored, took, e) = absurd took.0
      on_makes few (Some node) has (Exchanged r, took, e) = absurd took.0
      on_makes few (Some node) has (Taken value, took, e) = absurd took.0
      on_makes few (Some node) has (Roomed r, took, e) = absurd took.0

      keeps_from : (stands : Calling) → HasPairAt p stands → Steps Took value_at m (plan_at asks same hash p stands) m2 end → KeepsPair end
      keeps_from at.Makes a s = on_makes a.1 p.unmade a.0 s
      keeps_from (at.Looks l) a s = absurd a
      keeps_from at.Roots a s = always_at at.Roots (on_root a) s
      keeps_from at.Probes a s = always_at at.Probes (on_found a) s
      keeps_from (at.Tries word new) a s = always_at (at.Tries word new) (on_tried a.0 word new a.1) s
      keeps_from (at.Counts removed) a s = always_at (at.Counts removed) (λ out. keeps_counted p h.absent h.present h.own removed a) s
      keeps_from at.Nexts a s = always_at at.Nexts (on_next a) s
      keeps_from (at.Firsts making) a s = always_at (at.Firsts making) (always_plan_as KeepsPair (first_made p) (keeps_first p h.absent h.present h.own a) (new_table_plan making)) s
      keeps_from (at.Allocs making) a s = always_at (at.Allocs making) (always_plan_as KeepsPair (next_made p) (keeps_next p h.absent h.present h.own a) (new_table_plan making)) s
      keeps_from (at.Helps copier goal) a s =
          always_at (at.Helps copier goal) (always_plan_as KeepsPair (helped p goal) (keeps_helped p h.absent h.present h.own a goal) (copier_plan hash copier)) s
      keeps_from (at.Copies copier) a s = always_at (at.Copies copier) (always_plan_as KeepsPair (copied p) (keeps_copied p h.absent h.present h.own a) (copier_plan hash copier)) s
      keeps_from (at.Asks asking) a s = absurd a
      keeps_from (at.Disposes dispose answer) a s =
          always_at (at.Disposes dispose answer) (always_plan_as KeepsPair (disposed p answer) (keeps_disposed p h.absent h.present h.own answer a) (dispose_plan dispose)) s
      keeps_from (at.Drops last) a s = always_at (at.Drops last) (on_dropped last) s
      keeps_from (at.Over last) a s = always_at (at.Over last) (on_over last a) s

    -- whatever a step comes to
    pub pair_kept : (m m2 : Mem (Node K V)) (end : KeyCall K V Q × Called (Node K V)) → Steps Took value_at m (plan_at asks same hash p p.stands) m2 end → KeepsPair end
    pair_kept m m2 end s = keeps_from m m2 end p.stands h.pair s
