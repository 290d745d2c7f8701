-- A step of a call on one key makes a table by its copier as that was to make it.
use Rattle.std.specs.Prelude.{ℕ, ◌==◌, if◌then◌else◌, Bool, true, false, Option, Some, None, Ok, Err}
use Rattle.papaya_raw.specs.Given.ResizeCopier.{copier_plan}
use Rattle.run_finds.specs.Given.SeizeWordsOp.{Out, Found, Exchanged, Made, Taken}
use Rattle.papaya_raw.specs.Given.SeizeDeclared.advance.Advance.{Advance}
use Rattle.papaya_raw.specs.Given.SeizeDeclared.advance.Advance.TheVariants as progress
use Rattle.papaya_raw.specs.Given.SeizeDeclared.rows.settle.Settled.{Settled}
use Rattle.papaya_raw.specs.Given.SeizeDeclared.rows.settle.Settled.TheVariants as settled
use Rattle.papaya_raw.specs.Given.TablesChunks.{is_incremental}
use Rattle.papaya_raw.specs.Given.TablesFinding.{may_name}
use Rattle.papaya_raw.specs.Given.TablesTrials.{next_trial, with_met}
use Rattle.papaya_raw.specs.Given.ResizeDispose.{dispose_plan}
use Rattle.papaya_raw.specs.Given.ResizeLookup.{lookup_plan}
use Rattle.run_finds.specs.Given.ResizeNewTable.{new_table_plan}
use Rattle.papaya_raw.specs.Call.{call_plan, copied, disposed, dropped, first_made, helped, key_read, looked, looks_for, made, makes_of, next_found, next_made, pair_read, plan_at, root_found, tried, word_found, word_read}
use Rattle.papaya_raw.specs.CallFills.{filled, putting_by, fill_by, emptied, fills_with, fills, given_up, asks_at}
use Rattle.papaya_raw.specs.CallAsks.{absent_replied, present_replied, replied, replied_at, with_absent, with_present}
use Rattle.papaya_raw.specs.CallPoints.{asking_at, at_free, at_gap, at_last, at_pair, burying, changed, counted, ending, having_met, storing, tableless, after_finding, continued_in}
use Rattle.papaya_raw.specs.Given.TablesDeclared.finding.Finding.{Finding}
use Rattle.papaya_raw.specs.Given.TablesDeclared.finding.Finding.TheVariants as finds
use Rattle.papaya_raw.specs.Given.TablesDeclared.marks.TheConstants.{TOMBSTONE}
use Rattle.papaya_raw.specs.Given.TablesDeclared.node.Node.{Node}
use Rattle.papaya_raw.specs.Given.TablesDeclared.node.Node.TheVariants as node
use Rattle.papaya_raw.specs.Given.TablesDeclared.table.Table.{Table}
use Rattle.run_finds.specs.Given.ResizeDeclared.copier.Copier.{Copier}
use Rattle.run_finds.specs.Given.ResizeDeclared.dispose.Dispose.{Dispose}
use Rattle.run_finds.specs.Given.ResizeDeclared.lookup.Lookup.{Lookup}
use Rattle.run_finds.specs.Given.ResizeDeclared.new_table.NewTable.{NewTable}
use Rattle.run_finds.specs.Given.ResizeDeclared.yielding.Yielding.{Yielding}
use Rattle.run_finds.specs.Given.ResizeDeclared.yielding.Yielding.TheVariants as outcome
use Rattle.papaya_raw.specs.declared.machines.answer.KeyAnswer.{KeyAnswer}
use Rattle.papaya_raw.specs.declared.machines.answer.End.{End}
use Rattle.papaya_raw.specs.declared.machines.answer.Called.{Called}
use Rattle.papaya_raw.specs.declared.machines.answer.Missing.{Missing}
use Rattle.papaya_raw.specs.declared.machines.answer.Missing.TheVariants as missing
use Rattle.papaya_raw.specs.declared.machines.answer.There.{There}
use Rattle.papaya_raw.specs.declared.machines.answer.There.TheVariants as there
use Rattle.papaya_raw.specs.Replies.{value_for}
use Rattle.papaya_raw.specs.declared.machines.asking.Asking.{Asking}
use Rattle.papaya_raw.specs.declared.machines.asking.Asking.TheVariants as asking
use Rattle.papaya_raw.specs.declared.machines.asking.Gap.{Gap}
use Rattle.papaya_raw.specs.declared.machines.asking.Gap.TheVariants as gaps
use Rattle.papaya_raw.specs.declared.machines.asking.MachineReply.{MachineReply}
use Rattle.papaya_raw.specs.declared.machines.asking.MachineReply.TheVariants as replies
use Rattle.papaya_raw.specs.declared.machines.asking.Takes.{Takes}
use Rattle.papaya_raw.specs.declared.machines.asking.Takes.TheVariants as takes
use Rattle.papaya_raw.specs.declared.machines.asking.Told.{Told}
use Rattle.papaya_raw.specs.declared.machines.asking.Told.TheVariants as tells
use Rattle.papaya_raw.specs.declared.machines.call.KeyCall.{KeyCall}
use Rattle.papaya_raw.specs.declared.machines.call.Calling.{Calling}
use Rattle.papaya_raw.specs.declared.machines.call.Calling.TheVariants as at
use Rattle.run_finds.proofs.Given.RuleKeys.Always.{Always, AlwaysOf, always_if, always_plan_as}
use Rattle.run_finds.proofs.Given.PointsCalls.Asked.{asking_so, asking_of_so, passed_so}
use Rattle.run_finds.proofs.Shaping.{always_plan_more}
use Rattle.run_grows.specs.Grows.Further.{CallMakes}
use Rattle.run_grows.proofs.Grows.Finding.Making.Copiers.{CopierBegins, CopierEnds, begun_makes, copier_makes}

-- what its copier may begin to make is such a making
abbrev pub CallBegins : (NewTable → Type 0) → Calling → Type 0
CallBegins Such (at.Helps copier goal) = CopierBegins Such copier copier.stands
CallBegins Such (at.Copies copier) = CopierBegins Such copier copier.stands
CallBegins Such _ = Unit {0}

module _ (Such : NewTable → Type 0) {K V Q : Type 0} where
  abbrev pub CallEnds : KeyCall K V Q × Called (Node K V) → Type 0
  CallEnds end = CallMakes Such end.0.stands

  -- of two, where both make such
  either : (b : Bool) (x y : KeyCall K V Q × Called (Node K V)) → CallEnds x → CallEnds y → CallEnds (if b then x else y)
  either true x y f g = f
  either false x y f g = g

  -- where it goes on from a point
  module _ (p : KeyCall K V Q) where
    pub ending_makes : (end : End) → CallEnds (ending p end)
    ending_makes end = either (p.own == 0) _ _ tt tt

    missing_makes : (gap : Gap) → CallEnds (asking_at gap p)
    missing_makes = asking_so CallEnds p (λ word new. tt) (λ asking. tt) (λ asking asked. tt) tt tt tt

    tableless_makes : (m : Missing) → CallEnds (tableless m p)
    tableless_makes missing.Answers = ending_makes _
    tableless_makes missing.Puts = tt
    tableless_makes missing.Asks = missing_makes gaps.NoTable

    free_makes : (m : Missing) → CallEnds (at_free m p)
    free_makes missing.Answers = ending_makes _
    free_makes missing.Puts = tt
    free_makes missing.Asks = missing_makes gaps.Free

    last_makes : (m : Missing) → CallEnds (at_last m p)
    last_makes missing.Answers = either (is_incremental p.setting.mode) _ _ (ending_makes _) tt
    last_makes missing.Puts = tt
    last_makes missing.Asks = either (is_incremental p.setting.mode) _ _ (missing_makes gaps.Last) tt

    pair_makes : (t : There) (word : ℕ) → CallEnds (at_pair t p word)
    pair_makes there.Answers word = ending_makes _
    pair_makes there.Puts word = tt
    pair_makes there.Removes word = tt
    pair_makes there.Asks word = asking_of_so CallEnds p (λ word new. tt) (λ asking. tt) (λ asking asked. tt) word

    told_makes : (loaded : Bool) (word : ℕ) (found : Finding) → CallEnds (after_finding loaded p word found)
    told_makes loaded word finds.Free = free_makes p.missing
    told_makes loaded word finds.Passed =
        passed_so CallEnds (having_met p word) (λ next. tt) tt (λ e. either (p.own == 0) _ _ tt tt) (λ e untold. tt) (next_trial (with_met p.trial word))
    told_makes loaded word finds.Moved = tt
    told_makes loaded word finds.Copying = either loaded _ _ tt tt
    told_makes loaded word finds.There = pair_makes p.there word

    on_makes : (table : Table) → CallEnds (continued_in p table)
    on_makes table = either (is_incremental p.setting.mode) _ _ (either p.helped _ _ tt tt) (begun_makes Such p.setting p.trial.table table)

    changed_makes : (word new : ℕ) → CallEnds (changed p word new)
    changed_makes word new = either (new == TOMBSTONE) _ _ tt (either (word == 0) _ _ tt tt)

    counted_makes : (removed : ℕ) → CallEnds (counted p removed)
    counted_makes removed = either (removed == 0) _ _ tt tt

    -- what machines within it tell
    looked_makes : (end : Lookup × Advance (Option ℕ)) → CallEnds (looked p end)
    looked_makes (l, progress.Goes) = tt
    looked_makes (l, progress.Waits) = tt
    looked_makes (l, progress.Done (Some found)) = tt
    looked_makes (l, progress.Done None) = tt
    looked_makes (l, progress.Refused fault) = tt

    first_makes : (end : NewTable × Advance Table) → CallEnds (first_made p end)
    first_makes (n, progress.Goes) = tt
    first_makes (n, progress.Waits) = tt
    first_makes (n, progress.Done table) = tt
    first_makes (n, progress.Refused fault) = ending_makes _

    next_makes : (end : NewTable × Advance Table) → CallEnds (next_made p end)
    next_makes (n, progress.Goes) = tt
    next_makes (n, progress.Waits) = tt
    next_makes (n, progress.Done table) = on_makes table
    next_makes (n, progress.Refused fault) = ending_makes _

    disposed_makes : (answer : KeyAnswer) (end : Dispose × Settled (Node K V)) → CallEnds (disposed p answer end)
    disposed_makes answer (d, settled.Goes) = tt
    disposed_makes answer (d, settled.Waits) = tt
    disposed_makes answer (d, settled.Gave value) = tt
    disposed_makes answer (d, settled.Done) = tt

    pub copied_makes : (end : Copier × Yielding (Node K V) Table) → CopierEnds Such K V end → CallEnds (copied p end)
    copied_makes (copier, outcome.Goes) so = so
    copied_makes (copier, outcome.Waits) so = so
    copied_makes (copier, outcome.Gave value) so = so
    copied_makes (copier, outcome.Done table) so = tt
    copied_makes (copier, outcome.Refused fault) so = ending_makes _

    pub helped_makes : (goal : Table) (end : Copier × Yielding (Node K V) Table) → CopierEnds Such K V end → CallEnds (helped p goal end)
    helped_makes goal (copier, outcome.Goes) so = so
    helped_makes goal (copier, outcome.Waits) so = so
    helped_makes goal (copier, outcome.Gave value) so = so
    helped_makes goal (copier, outcome.Done table) so = tt
    helped_makes goal (copier, outcome.Refused fault) so = ending_makes _

  -- what each answer of an operation leads to
  module _ (asks : Q → K → Bool) (same : K → K → Bool) (hash : K → ℕ) (p : KeyCall K V Q) (here : CallMakes Such p.stands) where
    on_made : (node : Option (Node K V)) → AlwaysOf CallEnds (makes_of p node)
    on_made None = tt
    on_made (Some node) = by
      where
        by : (out : Out (Node K V)) → Always CallEnds (made p out)
        by (Made (Ok block)) = tt
        by (Made (Err back)) = tt
        by _ = here

    on_root : (out : Out (Node K V)) → Always CallEnds (root_found p out)
    on_root (Found link) = always_if CallEnds (link == 0) _ _ (tableless_makes p p.missing) (λ value. tt)
    on_root _ = here

    on_next : (out : Out (Node K V)) → Always CallEnds (next_found p out)
    on_next (Found link) = always_if CallEnds (link == 0) _ _ (last_makes p p.missing) (λ value. on_makes p _)
    on_next _ = here

    on_key : (loaded : Bool) (word : ℕ) (key : Option K) → Always CallEnds (key_read asks same loaded p word key)
    on_key loaded word (Some key) = λ value. told_makes p loaded word _
    on_key loaded word None = λ own value. told_makes p loaded word _

    on_pair : (loaded : Bool) (word : ℕ) (asked : Option Q) → Always CallEnds (pair_read asks same loaded p word asked)
    on_pair loaded word (Some q) = λ value. told_makes p loaded word _
    on_pair loaded word None = on_key loaded word p.replies.key

    on_word : (loaded : Bool) (word : ℕ) → Always CallEnds (word_read asks same loaded p word)
    on_word loaded word = always_if CallEnds (may_name p.hash word) _ _ (on_pair loaded word p.asked) (told_makes p loaded word _)

    on_found : (out : Out (Node K V)) → Always CallEnds (word_found asks same p out)
    on_found (Found word) = on_word true word
    on_found _ = here

    on_tried : (word new : ℕ) (out : Out (Node K V)) → Always CallEnds (tried asks same p word new out)
    on_tried word new (Exchanged (Ok found)) = changed_makes p word new
    on_tried word new (Exchanged (Err found)) = on_word false found
    on_tried word new _ = here

    on_dropped : (end : End) (out : Out (Node K V)) → Always CallEnds (dropped p end out)
    on_dropped end (Taken value) = tt
    on_dropped end _ = here

    on_looks : (l : Lookup) (asked : Option Q) → AlwaysOf CallEnds (looks_for asks p l asked)
    on_looks l (Some q) = always_plan_as CallEnds (looked p) (looked_makes p) (lookup_plan (asks q) l)
    on_looks l None = tt

    on_fills : (word : ℕ) → AlwaysOf CallEnds (fills p word)
    on_fills word = by p.replies.key
      where
        on_filled : (q : KeyCall K V Q) → CallMakes Such q.stands → (out : Out (Node K V)) → Always CallEnds (filled q word out)
        on_filled q other (Made (Ok block)) = tt
        on_filled q other (Made (Err node)) = tt
        on_filled q other (Taken node) = tt
        on_filled q other _ = other

        puts : (b : Bool) (q : KeyCall K V Q) → CallMakes Such q.stands → (key : K) (value : V) → AlwaysOf CallEnds (putting_by b q word key value)
        puts true q other key value = on_filled q other
        puts false q other key value = on_filled q other

        fill : (told : Option V) (q : KeyCall K V Q) → CallMakes Such q.stands → (key : K) → AlwaysOf CallEnds (fill_by told q word key)
        fill (Some value) q other key = puts (q.own == 0) _ other key value
        fill None q other key = tt

        on_emptied : (out : Out (Node K V)) → Always CallEnds (emptied p word out)
        on_emptied (Taken (node.Pair key value)) = tt
        on_emptied _ = tt

        by : (key : Option K) → AlwaysOf CallEnds (fills_with key p word)
        by (Some key) = fill (value_for p.replies word) _ here key
        by None = on_emptied

    on_given_up : (word : ℕ) (out : Out (Node K V)) → Always CallEnds (given_up p word out)
    on_given_up word (Taken (node.Pair key value)) = tt
    on_given_up word (Taken _) = tt
    on_given_up word _ = here

    on_asks : (stands : Asking) → AlwaysOf CallEnds (asks_at p stands)
    on_asks (asking.Absent gap) = here
    on_asks (asking.Present word) = here
    on_asks (asking.Fills word) = on_fills word
    on_asks (asking.GivesUp word) = on_given_up word

    module _ (goes : (n : NewTable) → Such n → AlwaysOf (λ (e : NewTable × Advance Table). Such e.0) (new_table_plan {K = K} {V = V} n)) where
      copying_makes : (copier : Copier) → CallMakes Such (at.Copies copier) → CallBegins Such (at.Copies copier) → AlwaysOf (CopierEnds Such K V) (copier_plan hash copier)
      copying_makes copier makes begins = copier_makes Such K V hash goes copier makes begins

      -- whatever the point
      pub point_makes : (stands : Calling) → CallMakes Such stands → CallBegins Such stands → AlwaysOf CallEnds (plan_at asks same hash p stands)
      point_makes at.Makes makes begins = on_made p.unmade
      point_makes (at.Looks l) makes begins = on_looks l p.asked
      point_makes at.Roots makes begins = on_root
      point_makes at.Probes makes begins = on_found
      point_makes (at.Tries word new) makes begins = on_tried word new
      point_makes (at.Counts removed) makes begins = λ out. counted_makes p removed
      point_makes at.Nexts makes begins = on_next
      point_makes (at.Firsts making) makes begins = always_plan_as CallEnds (first_made p) (first_makes p) (new_table_plan making)
      point_makes (at.Allocs making) makes begins = always_plan_as CallEnds (next_made p) (next_makes p) (new_table_plan making)
      point_makes (at.Helps copier goal) makes begins = always_plan_more (CopierEnds Such K V) CallEnds (helped p goal) (helped_makes p goal) (copier_plan hash copier) (copying_makes copier makes begins)
      point_makes (at.Copies copier) makes begins = always_plan_more (CopierEnds Such K V) CallEnds (copied p) (copied_makes p) (copier_plan hash copier) (copying_makes copier makes begins)
      point_makes (at.Disposes dispose answer) makes begins = always_plan_as CallEnds (disposed p answer) (disposed_makes p answer) (dispose_plan dispose)
      point_makes (at.Asks stands) makes begins = on_asks stands
      point_makes (at.Drops last) makes begins = on_dropped last
      point_makes (at.Over last) makes begins = here

      pub call_makes : CallBegins Such p.stands → AlwaysOf CallEnds (call_plan asks same hash p)
      call_makes begins = point_makes p.stands here begins

  -- So it is where it goes on by a reply.

  storing_makes : (p : KeyCall K V Q) (t : Told V) (word : ℕ) → CallEnds (storing t p word)
  storing_makes p tells.Own word = tt
  storing_makes p tells.Nothing word = tt
  storing_makes p (tells.Value value) word = tt
  storing_makes p tells.Removes word = tt

  burying_makes : (p : KeyCall K V Q) (word : ℕ) → CallEnds (burying p word)
  burying_makes p word = either (p.own == 0) _ _ tt tt

  gap_makes : (p : KeyCall K V Q) (gap : Gap) → CallEnds (at_gap gap p)
  gap_makes p gaps.NoTable = tt
  gap_makes p gaps.Free = storing_makes p p.replies.absent 0
  gap_makes p gaps.Past = tt
  gap_makes p gaps.Last = tt

  absent_makes : (t : Takes) (p : KeyCall K V Q) (gap : Gap) (reply : MachineReply V) → CallMakes Such p.stands → CallMakes Such (absent_replied t p gap reply).0.stands
  absent_makes takes.Values p gap (replies.Insert value) here = gap_makes (with_absent p value) gap
  absent_makes takes.Changes p gap (replies.Insert value) here = gap_makes (with_absent p value) gap
  absent_makes takes.Changes p gap replies.Remove here = ending_makes p _
  absent_makes takes.Changes p gap replies.Abort here = ending_makes p _
  absent_makes _ p gap _ here = here

  present_makes : (t : Takes) (p : KeyCall K V Q) (word : ℕ) (reply : MachineReply V) → CallMakes Such p.stands → CallMakes Such (present_replied t p word reply).0.stands
  present_makes takes.Values p word (replies.Insert value) here = tt
  present_makes takes.Changes p word (replies.Insert value) here = tt
  present_makes takes.Changes p word replies.Remove here = burying_makes (with_present p word tells.Removes) word
  present_makes takes.Changes p word replies.Abort here = ending_makes p _
  present_makes takes.Choices p word replies.Yes here = burying_makes p word
  present_makes takes.Choices p word replies.No here = ending_makes p _
  present_makes _ p word _ here = here

  told_makes_at : (stands : Calling) (p : KeyCall K V Q) (reply : MachineReply V) → CallMakes Such p.stands → CallMakes Such (replied_at stands p reply).0.stands
  told_makes_at (at.Asks (asking.Absent gap)) p reply here = absent_makes p.replies.takes p gap reply here
  told_makes_at (at.Asks (asking.Present word)) p reply here = present_makes p.replies.takes p word reply here
  told_makes_at _ p reply here = here

  pub reply_makes : (p : KeyCall K V Q) (reply : MachineReply V) → CallMakes Such p.stands → CallMakes Such (replied p reply).0.stands
  reply_makes p reply here = told_makes_at p.stands p reply here
