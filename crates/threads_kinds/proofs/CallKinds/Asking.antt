-- A step of a call on one key makes an operation that replaces no value, or looks at nothing; and the call asks then, or goes on, and is of the same kind.
use Rattle.std.specs.Prelude.{◌==◌, if◌then◌else◌, Option, Some, None, Ok, Err}
use Rattle.std.proofs.Common.{◌≡◌, ℕ, Bool, true, false, inr, refl, sym, subst}
use Rattle.std.proofs.lemmas.Bool.{eq-eqb}
use Rattle.seize_words.specs.OneMemory.Op.{Op, Out, Load, Exchange, Take, Found, Stored, Exchanged, Made, Taken, Roomed}
use Rattle.seize_words.specs.OneMemory.Plan.{Now, Seeing, Ends}
use Rattle.seize_words.specs.OneMemory.Word.{block_in}
use Rattle.seize_words.specs.declared.at.At.{At}
use Rattle.seize_words.specs.declared.at.At.TheVariants.{Root}
use Rattle.seize.specs.declared.advance.Advance.{Advance}
use Rattle.seize.specs.declared.advance.Advance.TheVariants as progress
use Rattle.seize.specs.declared.rows.settle.Settled.{Settled}
use Rattle.seize.specs.declared.rows.settle.Settled.TheVariants as settled
use Rattle.map_tables.specs.Chunks.{is_incremental}
use Rattle.map_tables.specs.Finding.{finding, may_name}
use Rattle.map_tables.specs.Nodes.{table_seen}
use Rattle.map_tables.specs.Trials.{next_trial, with_met, place_tried}
use Rattle.map_tables.specs.TablePlaces.{at_word}
use Rattle.map_tables.specs.declared.table_words.TheConstants.{NEXT}
use Rattle.map_tables.specs.declared.finding.Finding.{Finding}
use Rattle.map_tables.specs.declared.finding.Finding.TheVariants as found
use Rattle.map_tables.specs.declared.marks.TheConstants.{TOMBSTONE}
use Rattle.map_tables.specs.declared.node.Node.{Node}
use Rattle.map_tables.specs.declared.table.Table.{Table}
use Rattle.map_tables.specs.declared.trial.Trial.{Trial}
use Rattle.map_machines.specs.Copier.{copier_plan}
use Rattle.map_machines.specs.CopierStates.{helping, copying_all}
use Rattle.map_machines.specs.Dispose.{dispose_plan, disposing}
use Rattle.map_machines.specs.Lookup.{lookup_plan, names_pair}
use Rattle.map_machines.specs.NewTable.{new_table_plan}
use Rattle.map_machines.specs.declared.copier.Copier.{Copier}
use Rattle.map_machines.specs.declared.dispose.Dispose.{Dispose}
use Rattle.map_machines.specs.declared.lookup.Lookup.{Lookup}
use Rattle.map_machines.specs.declared.new_table.NewTable.{NewTable}
use Rattle.map_machines.specs.declared.yielding.Yielding.{Yielding}
use Rattle.map_machines.specs.declared.yielding.Yielding.TheVariants as outcome
use Rattle.papaya_raw.specs.Answers.{ended}
use Rattle.papaya_raw.specs.CallFills.{asks_at, putting_by, fill_by, fills_with}
use Rattle.papaya_raw.specs.Replies.{value_for, as_own}
use Rattle.papaya_raw.specs.Call.{makes_of, root_read, root_found, next_read, next_found, dropped, key_read, pair_read, word_read, word_found, tried, looked, looks_for, first_made, next_made, disposed, helped, copied, plan_at, call_plan, have_one_key}
use Rattle.papaya_raw.specs.CallPoints.{aim_of, going, over, ending, answering, tableless, at_free, at_end, beyond, at_last, at_pair, following_made, asking_at, having_met, passed, halted, after_finding, told, entering, continued_in, changed, counted}
use Rattle.papaya_raw.specs.declared.machines.answer.Called.{Called}
use Rattle.papaya_raw.specs.declared.machines.answer.End.{End}
use Rattle.papaya_raw.specs.declared.machines.answer.End.TheVariants as ends
use Rattle.papaya_raw.specs.declared.machines.answer.KeyAnswer.{KeyAnswer}
use Rattle.papaya_raw.specs.declared.machines.answer.KeyAnswer.TheVariants as answers
use Rattle.papaya_raw.specs.declared.machines.answer.There.{There}
use Rattle.papaya_raw.specs.declared.machines.answer.There.TheVariants as there
use Rattle.papaya_raw.specs.declared.machines.answer.Missing.{Missing}
use Rattle.papaya_raw.specs.declared.machines.answer.Missing.TheVariants as missing
use Rattle.papaya_raw.specs.declared.machines.asking.Asking.{Asking}
use Rattle.papaya_raw.specs.declared.machines.asking.Asking.TheVariants as asking
use Rattle.papaya_raw.specs.declared.machines.asking.Gap.TheVariants as gaps
use Rattle.papaya_raw.specs.declared.machines.call.Calling.{Calling}
use Rattle.papaya_raw.specs.declared.machines.call.Calling.TheVariants as at
use Rattle.papaya_raw.specs.declared.machines.call.KeyCall.{KeyCall}
use Rattle.threads_kinds.specs.CallKinds.Answers.{IsAnswer}
use Rattle.threads_kinds.specs.CallKinds.Leads.{Leads}
use Rattle.threads_kinds.specs.CallKinds.Kinds.{Kind, Stage, IsFresh, HoldsBy, IsAtPointSo, PairIsVisible, IsSo, Continues, SaysSo}
use Rattle.threads_kinds.proofs.CallKinds.Asked.{of_gap, holds_none, over_says, ending_says, gap_says, pair_says}
use Rattle.threads_kinds.proofs.CallKinds.Filled.{fills_say, gives_say}
use Rattle.threads_kinds.proofs.CallKinds.Pairs.{there_same, pair_named, one_key_named}
use Rattle.threads_kinds.proofs.CallKinds.Leads.{leads_as}
use Rattle.threads_kinds.proofs.CallKinds.Quiet.{IsQuiet, quiet_as, table_is, dispose_is, copier_is, lookup_is}

module _ {K V Q : Type 0} (k : Kind) (s : Stage) (shown : ℕ → Option (Node K V)) where
  abbrev Says : KeyCall K V Q × Called (Node K V) → Type 0
  Says end = SaysSo k s shown end

  module _ (c : KeyCall K V Q) (is : IsSo k s c) where
    over_so : (end : End) → Says (over c end)
    over_so end = over_says k s shown c is end

    ends_so : (end : End) → Says (ending c end)
    ends_so end = ending_says k s shown c is end

    tableless_says : (m : Missing) → c.missing ≡ m → Says (tableless m c)
    tableless_says missing.Answers e = ends_so (ends.Answered answers.Absent)
    tableless_says missing.Puts e = record { so = record { kind = is.kind; holds = is.holds; gap = is.gap }; here = tt }
    tableless_says missing.Asks e = gap_says k s shown c is e gaps.NoTable

    free_says : (m : Missing) → c.missing ≡ m → Says (at_free m c)
    free_says missing.Answers e = ends_so (ends.Answered answers.Absent)
    free_says missing.Puts e = record { so = record { kind = is.kind; holds = is.holds; gap = is.gap }; here = tt }
    free_says missing.Asks e = gap_says k s shown c is e gaps.Free

    end_says : (m : Missing) → c.missing ≡ m → Says (at_end m c)
    end_says missing.Answers e = ends_so (ends.Answered answers.Absent)
    end_says missing.Puts e = record { so = record { kind = is.kind; holds = is.holds; gap = is.gap }; here = tt }
    end_says missing.Asks e = gap_says k s shown c is e gaps.Past

    beyond_says : Says (beyond c)
    beyond_says = by (is_incremental c.setting.mode)
      where
        by : (b : Bool) → Says (if b then going c at.Nexts else at_end c.missing c)
        by true = record { so = record { kind = is.kind; holds = is.holds; gap = is.gap }; here = tt }
        by false = end_says c.missing refl

    last_says : (m : Missing) → c.missing ≡ m → Says (at_last m c)
    last_says missing.Answers e = by (is_incremental c.setting.mode)
      where
        by : (b : Bool) → Says (if b then answering c answers.Absent else following_made c)
        by true = ends_so (ends.Answered answers.Absent)
        by false = record { so = record { kind = is.kind; holds = is.holds; gap = is.gap }; here = tt }
    last_says missing.Puts e = record { so = record { kind = is.kind; holds = is.holds; gap = is.gap }; here = tt }
    last_says missing.Asks e = by (is_incremental c.setting.mode)
      where
        by : (b : Bool) → Says (if b then asking_at gaps.Last c else following_made c)
        by true = gap_says k s shown c is e gaps.Last
        by false = record { so = record { kind = is.kind; holds = is.holds; gap = is.gap }; here = tt }

    there_says : (t : There) → c.there ≡ t → (word : ℕ) → PairIsVisible shown word → Says (at_pair t c word)
    there_says there.Answers e word shows = ends_so (ends.Answered (answers.Found word))
    there_says there.Puts e word shows = record { so = record { kind = is.kind; holds = is.holds; gap = is.gap }; here = tt }
    there_says there.Removes e word shows = record { so = record { kind = is.kind; holds = is.holds; gap = is.gap }; here = tt }
    there_says there.Asks e word shows = pair_says k s shown c is e word shows

    passed_says : (next : Option Trial) → Says (passed c next)
    passed_says (Some trial) = record { so = record { kind = is.kind; holds = is.holds; gap = is.gap }; here = tt }
    passed_says None = beyond_says

    halted_says : (loaded : Bool) → Says (halted loaded c)
    halted_says true = record { so = record { kind = is.kind; holds = is.holds; gap = is.gap }; here = tt }
    halted_says false = record { so = record { kind = is.kind; holds = is.holds; gap = is.gap }; here = tt }

    went_says : (table : Table) → Says (continued_in c table)
    went_says table = by (is_incremental c.setting.mode) c.helped
      where
        by : (b h : Bool) → Says (if b then (if h then entering c table else going (record c { helped = true }) (at.Helps (helping c.setting) table)) else going c (at.Copies (copying_all c.setting c.trial.table table)))
        by true true = record { so = record { kind = is.kind; holds = is.holds; gap = is.gap }; here = tt }
        by true false = record { so = record { kind = is.kind; holds = is.holds; gap = is.gap }; here = tt }
        by false h = record { so = record { kind = is.kind; holds = is.holds; gap = is.gap }; here = tt }

    changed_says : (word new : ℕ) → Says (changed c word new)
    changed_says word new = by (new == TOMBSTONE) (word == 0)
      where
        by : (b l : Bool) → Says (if b then going c (at.Counts word) else (if l then going c (at.Counts 0) else going c (at.Disposes (disposing c.setting word c.trial.table) (answers.Replaced word c.own))))
        by true l = record { so = record { kind = is.kind; holds = is.holds; gap = is.gap }; here = tt }
        by false true = record { so = record { kind = is.kind; holds = is.holds; gap = is.gap }; here = tt }
        by false false = record { so = record { kind = is.kind; holds = is.holds; gap = is.gap }; here = tt }

    counted_says : (removed : ℕ) → Says (counted c removed)
    counted_says removed = by (removed == 0)
      where
        by : (b : Bool) → Says (if b then over c (ends.Answered (answers.Stored c.own)) else going c (at.Disposes (disposing c.setting removed c.trial.table) (answers.Removed removed)))
        by true = over_so (ends.Answered (answers.Stored c.own))
        by false = record { so = record { kind = is.kind; holds = is.holds; gap = is.gap }; here = tt }

    looked_says : (e : Lookup × Advance (Option ℕ)) → Says (looked c e)
    looked_says (d, progress.Goes) = record { so = record { kind = is.kind; holds = is.holds; gap = is.gap }; here = tt }
    looked_says (d, progress.Waits) = record { so = record { kind = is.kind; holds = is.holds; gap = is.gap }; here = tt }
    looked_says (d, progress.Done (Some word)) = over_so (ends.Answered (answers.Found word))
    looked_says (d, progress.Done None) = over_so (ends.Answered answers.Absent)
    looked_says (d, progress.Refused fault) = over_so (ends.Refused fault)

    first_says : (e : NewTable × Advance Table) → Says (first_made c e)
    first_says (d, progress.Goes) = record { so = record { kind = is.kind; holds = is.holds; gap = is.gap }; here = tt }
    first_says (d, progress.Waits) = record { so = record { kind = is.kind; holds = is.holds; gap = is.gap }; here = tt }
    first_says (d, progress.Done table) = record { so = record { kind = is.kind; holds = is.holds; gap = is.gap }; here = tt }
    first_says (d, progress.Refused fault) = ends_so (ends.Refused fault)

    next_says : (e : NewTable × Advance Table) → Says (next_made c e)
    next_says (d, progress.Goes) = record { so = record { kind = is.kind; holds = is.holds; gap = is.gap }; here = tt }
    next_says (d, progress.Waits) = record { so = record { kind = is.kind; holds = is.holds; gap = is.gap }; here = tt }
    next_says (d, progress.Done table) = went_says table
    next_says (d, progress.Refused fault) = ends_so (ends.Refused fault)

    disposed_says : (answer : KeyAnswer) (e : Dispose × Settled (Node K V)) → Says (disposed c answer e)
    disposed_says answer (d, settled.Goes) = record { so = record { kind = is.kind; holds = is.holds; gap = is.gap }; here = tt }
    disposed_says answer (d, settled.Waits) = record { so = record { kind = is.kind; holds = is.holds; gap = is.gap }; here = tt }
    disposed_says answer (d, settled.Gave value) = record { so = record { kind = is.kind; holds = is.holds; gap = is.gap }; here = tt }
    disposed_says answer (d, settled.Done) = over_so (ends.Answered answer)

    helped_says : (goal : Table) (e : Copier × Yielding (Node K V) Table) → Says (helped c goal e)
    helped_says goal (d, outcome.Goes) = record { so = record { kind = is.kind; holds = is.holds; gap = is.gap }; here = tt }
    helped_says goal (d, outcome.Waits) = record { so = record { kind = is.kind; holds = is.holds; gap = is.gap }; here = tt }
    helped_says goal (d, outcome.Gave value) = record { so = record { kind = is.kind; holds = is.holds; gap = is.gap }; here = tt }
    helped_says goal (d, outcome.Done table) = record { so = record { kind = is.kind; holds = is.holds; gap = is.gap }; here = tt }
    helped_says goal (d, outcome.Refused fault) = ends_so (ends.Refused fault)

    copied_says : (e : Copier × Yielding (Node K V) Table) → Says (copied c e)
    copied_says (d, outcome.Goes) = record { so = record { kind = is.kind; holds = is.holds; gap = is.gap }; here = tt }
    copied_says (d, outcome.Waits) = record { so = record { kind = is.kind; holds = is.holds; gap = is.gap }; here = tt }
    copied_says (d, outcome.Gave value) = record { so = record { kind = is.kind; holds = is.holds; gap = is.gap }; here = tt }
    copied_says (d, outcome.Done table) = record { so = record { kind = is.kind; holds = is.holds; gap = is.gap }; here = tt }
    copied_says (d, outcome.Refused fault) = ends_so (ends.Refused fault)

  -- its try has met the pair of a word
  met : (c : KeyCall K V Q) (word : ℕ) → IsSo k s c → IsSo k s (having_met c word)
  met c word is = record { kind = is.kind; holds = is.holds; gap = is.gap }

  told_says : (c : KeyCall K V Q) → IsSo k s c → (loaded : Bool) (word : ℕ) (f : Finding) → (f ≡ found.There → PairIsVisible shown word) → Says (after_finding loaded c word f)
  told_says c is loaded word found.Free sees = free_says c is c.missing refl
  told_says c is loaded word found.Passed sees = passed_says (having_met c word) (met c word is) (next_trial (with_met c.trial word))
  told_says c is loaded word found.Moved sees = record { so = record { kind = is.kind; holds = is.holds; gap = is.gap }; here = tt }
  told_says c is loaded word found.Copying sees = halted_says c is loaded
  told_says c is loaded word found.There sees = there_says c is c.there refl word (sees refl)

module _ {K V Q : Type 0} (k : Kind) (s : Stage) (asks : Q → K → Bool) (eq : K → K → Bool) (hashes : K → ℕ) (c : KeyCall K V Q) (goes : Continues k s c) where
  abbrev its : IsSo k s c
  its = goes.so

  -- each point is quiet
  fills_quiet : (word : ℕ) → IsFresh c.replies.key c.own → IsQuiet (fills_with c.replies.key c word)
  fills_quiet word fresh =
      subst (λ (o : Option K). IsQuiet (fills_with o c word)) (sym fresh.1)
      (by (value_for c.replies word))
    where
      puts : (d : KeyCall K V Q) (key : K) (value : V) (b : Bool) → b ≡ true → IsQuiet (putting_by b d word key value)
      puts d key value true e = tt
      puts d key value false e = absurd (cc e)

      by : (o : Option V) → IsQuiet (fill_by o (record c { replies = as_own c.replies word }) word fresh.0)
      by None = tt
      by (Some value) = puts _ fresh.0 value (c.own == 0) (eq-eqb c.own 0 fresh.2)

  asks_quiet : (asking : Asking) → IsAtPointSo s.told c.replies c.own (at.Asks asking) → IsQuiet (asks_at c asking)
  asks_quiet (asking.Absent gap) here = absurd here
  asks_quiet (asking.Present word) here = absurd here
  asks_quiet (asking.Fills word) here = fills_quiet word here
  asks_quiet (asking.GivesUp word) here = tt

  quiet_at : (p : Calling) → IsAtPointSo s.told c.replies c.own p → IsQuiet (plan_at asks eq hashes c p)
  quiet_at at.Makes here = by c.unmade
    where
      by : (o : Option (Node K V)) → IsQuiet (makes_of c o)
      by (Some node) = tt
      by None = tt
  quiet_at (at.Looks lookup) here = by c.asked
    where
      by : (o : Option Q) → IsQuiet (looks_for asks c lookup o)
      by (Some asked) = quiet_as (looked c) (lookup_plan (asks asked) lookup) (lookup_is K V (asks asked) lookup)
      by None = tt
  quiet_at at.Roots here = tt
  quiet_at at.Probes here = tt
  quiet_at (at.Tries word new) here = tt
  quiet_at (at.Counts removed) here = tt
  quiet_at at.Nexts here = tt
  quiet_at (at.Firsts making) here = quiet_as (first_made c) (new_table_plan making) (table_is K V making)
  quiet_at (at.Allocs making) here = quiet_as (next_made c) (new_table_plan making) (table_is K V making)
  quiet_at (at.Helps copier goal) here = quiet_as (helped c goal) (copier_plan hashes copier) (copier_is K V hashes copier)
  quiet_at (at.Copies copier) here = quiet_as (copied c) (copier_plan hashes copier) (copier_is K V hashes copier)
  quiet_at (at.Asks asking) here = asks_quiet asking here
  quiet_at (at.Disposes dispose answer) here = quiet_as (disposed c answer) (dispose_plan dispose) (dispose_is K V dispose)
  quiet_at (at.Drops end) here = tt
  quiet_at (at.Over end) here = tt

  pub call_is : IsQuiet (call_plan asks eq hashes c)
  call_is = quiet_at c.stands goes.here

  -- the operations of its steps
  abbrev load : At → Op (Node K V)
  load place = Load place

  abbrev exchange : ℕ → ℕ → Op (Node K V)
  exchange word new = Exchange (place_tried c.trial) word new

  abbrev take : Op (Node K V)
  take = Take (block_in c.own)

  module _ (shown : ℕ → Option (Node K V)) (end : KeyCall K V Q × Called (Node K V)) where
    abbrev To : KeyCall K V Q × Called (Node K V) → Type 0
    To e = SaysSo k s shown e

    made_so : IsAtPointSo s.told c.replies c.own at.Makes → (own : ℕ) → HoldsBy s.told c.replies own
    made_so here own = subst (λ (b : Bool). HoldsBy b c.replies own) (sym here.0) (of_gap c.replies c.own s.told its.holds, inr (here.1, here.2))

    makes_say : IsAtPointSo s.told c.replies c.own at.Makes → (o : Option (Node K V)) → Leads shown (makes_of c o) end → To end
    makes_say here None e = subst To (sym e) record { so = record { kind = its.kind; holds = its.holds; gap = its.gap }; here = tt }
    makes_say here (Some node) (Made (Ok block), fits, e) = subst To (sym e) record { so = record { kind = its.kind; holds = made_so here _; gap = its.gap }; here = tt }
    makes_say here (Some node) (Made (Err back), fits, e) = subst To (sym e) record { so = record { kind = its.kind; holds = its.holds; gap = its.gap }; here = tt }
    makes_say here (Some node) (Found x, fits, e) = absurd fits
    makes_say here (Some node) (Stored, fits, e) = absurd fits
    makes_say here (Some node) (Exchanged x, fits, e) = absurd fits
    makes_say here (Some node) (Taken x, fits, e) = absurd fits
    makes_say here (Some node) (Roomed x, fits, e) = absurd fits

    looks_say : (lookup : Lookup) (o : Option Q) → Leads shown (looks_for asks c lookup o) end → To end
    looks_say lookup (Some asked) e = let l = leads_as (looked c) shown (lookup_plan (asks asked) lookup) end e in subst To (sym l.2) (looked_says k s shown c its l.0)
    looks_say lookup None e = subst To (sym e) (over_says k s shown c its (ends.Answered answers.Absent))

    root_say : (link : ℕ) → Ends shown (root_read c link) end → To end
    root_say link = by (link == 0)
      where
        by : (b : Bool) → Ends shown (if b then Now (tableless c.missing c) else Seeing (block_in link) (λ value. Now (entering c (table_seen link value)))) end → To end
        by true e = subst To (sym e) (tableless_says k s shown c its c.missing refl)
        by false e = subst To (sym e.2) record { so = record { kind = its.kind; holds = its.holds; gap = its.gap }; here = tt }

    roots_say : (out : Out (Node K V)) → IsAnswer (load (Root c.setting.root)) out → Ends shown (root_found c out) end → To end
    roots_say (Found link) fits e = root_say link e
    roots_say Stored fits e = absurd fits
    roots_say (Exchanged x) fits e = absurd fits
    roots_say (Made x) fits e = absurd fits
    roots_say (Taken x) fits e = absurd fits
    roots_say (Roomed x) fits e = absurd fits

    next_say : (link : ℕ) → Ends shown (next_read c link) end → To end
    next_say link = by (link == 0)
      where
        by : (b : Bool) → Ends shown (if b then Now (at_last c.missing c) else Seeing (block_in link) (λ value. Now (continued_in c (table_seen link value)))) end → To end
        by true e = subst To (sym e) (last_says k s shown c its c.missing refl)
        by false e = subst To (sym e.2) (went_says k s shown c its (table_seen link e.0))

    nexts_say : (out : Out (Node K V)) → IsAnswer (load (at_word c.trial.table NEXT)) out → Ends shown (next_found c out) end → To end
    nexts_say (Found link) fits e = next_say link e
    nexts_say Stored fits e = absurd fits
    nexts_say (Exchanged x) fits e = absurd fits
    nexts_say (Made x) fits e = absurd fits
    nexts_say (Taken x) fits e = absurd fits
    nexts_say (Roomed x) fits e = absurd fits

    said : (loaded : Bool) (word : ℕ) (same : Bool) → (same ≡ true → PairIsVisible shown word) → end ≡ told loaded c word same → To end
    said loaded word same sees e =
        subst To (sym e) (told_says k s shown c its loaded word (finding c.setting.mode (aim_of c.missing) word same)
        (λ there. sees (there_same c.setting.mode (aim_of c.missing) word same there)))

    key_say : (loaded : Bool) (word : ℕ) (o : Option K) → Ends shown (key_read asks eq loaded c word o) end → To end
    key_say loaded word (Some key) e = said loaded word (names_pair (eq key) e.0) (pair_named (eq key) shown word e.0 e.1) e.2
    key_say loaded word None e = said loaded word (have_one_key eq e.0 e.2.0) (one_key_named eq shown word e.0 e.2.0 e.2.1) e.2.2

    read_say : (loaded : Bool) (word : ℕ) (o : Option Q) → Ends shown (pair_read asks eq loaded c word o) end → To end
    read_say loaded word (Some asked) e = said loaded word (names_pair (asks asked) e.0) (pair_named (asks asked) shown word e.0 e.1) e.2
    read_say loaded word None e = key_say loaded word c.replies.key e

    word_say : (loaded : Bool) (word : ℕ) → Ends shown (word_read asks eq loaded c word) end → To end
    word_say loaded word = by (may_name c.hash word)
      where
        by : (b : Bool) → Ends shown (if b then pair_read asks eq loaded c word c.asked else Now (told loaded c word false)) end → To end
        by true e = read_say loaded word c.asked e
        by false e = said loaded word false (λ f. absurd (cc f)) e

    probes_say : (out : Out (Node K V)) → IsAnswer (load (place_tried c.trial)) out → Ends shown (word_found asks eq c out) end → To end
    probes_say (Found word) fits e = word_say true word e
    probes_say Stored fits e = absurd fits
    probes_say (Exchanged x) fits e = absurd fits
    probes_say (Made x) fits e = absurd fits
    probes_say (Taken x) fits e = absurd fits
    probes_say (Roomed x) fits e = absurd fits

    tries_say : (word new : ℕ) (out : Out (Node K V)) → IsAnswer (exchange word new) out → Ends shown (tried asks eq c word new out) end → To end
    tries_say word new (Exchanged (Ok was)) fits e = subst To (sym e) (changed_says k s shown c its word new)
    tries_say word new (Exchanged (Err was)) fits e = word_say false was e
    tries_say word new (Found x) fits e = absurd fits
    tries_say word new Stored fits e = absurd fits
    tries_say word new (Made x) fits e = absurd fits
    tries_say word new (Taken x) fits e = absurd fits
    tries_say word new (Roomed x) fits e = absurd fits

    drops_say : (last : End) (out : Out (Node K V)) → IsAnswer take out → Ends shown (dropped c last out) end → To end
    drops_say last (Taken node) fits e =
        subst To (sym e) record { so = record { kind = its.kind; holds = holds_none c.replies c.own s.told its.holds; gap = its.gap }; here = tt }
    drops_say last (Found x) fits e = absurd fits
    drops_say last Stored fits e = absurd fits
    drops_say last (Exchanged x) fits e = absurd fits
    drops_say last (Made x) fits e = absurd fits
    drops_say last (Roomed x) fits e = absurd fits

    asks_say : (asking : Asking) → IsAtPointSo s.told c.replies c.own (at.Asks asking) → Leads shown (asks_at c asking) end → To end
    asks_say (asking.Absent gap) here e = absurd here
    asks_say (asking.Present word) here e = absurd here
    asks_say (asking.Fills word) here e = fills_say k s shown c its end word here e
    asks_say (asking.GivesUp word) here e = gives_say k s shown c its end word here e

    over_stays : (last : End) → To (c, ended last)
    over_stays (ends.Answered answer) = goes
    over_stays (ends.Refused fault) = goes

    say_at : (p : Calling) → IsAtPointSo s.told c.replies c.own p → Leads shown (plan_at asks eq hashes c p) end → To end
    say_at at.Makes here e = makes_say here c.unmade e
    say_at (at.Looks lookup) here e = looks_say lookup c.asked e
    say_at at.Roots here e = roots_say e.0 e.1 e.2
    say_at at.Probes here e = probes_say e.0 e.1 e.2
    say_at (at.Tries word new) here e = tries_say word new e.0 e.1 e.2
    say_at (at.Counts removed) here e = subst To (sym e.2) (counted_says k s shown c its removed)
    say_at at.Nexts here e = nexts_say e.0 e.1 e.2
    say_at (at.Firsts making) here e = let l = leads_as (first_made c) shown (new_table_plan making) end e in subst To (sym l.2) (first_says k s shown c its l.0)
    say_at (at.Allocs making) here e = let l = leads_as (next_made c) shown (new_table_plan making) end e in subst To (sym l.2) (next_says k s shown c its l.0)
    say_at (at.Helps copier goal) here e = let l = leads_as (helped c goal) shown (copier_plan hashes copier) end e in subst To (sym l.2) (helped_says k s shown c its goal l.0)
    say_at (at.Copies copier) here e = let l = leads_as (copied c) shown (copier_plan hashes copier) end e in subst To (sym l.2) (copied_says k s shown c its l.0)
    say_at (at.Asks asking) here e = asks_say asking here e
    say_at (at.Disposes dispose answer) here e = let l = leads_as (disposed c answer) shown (dispose_plan dispose) end e in subst To (sym l.2) (disposed_says k s shown c its answer l.0)
    say_at (at.Drops last) here e = drops_say last e.0 e.1 e.2
    say_at (at.Over last) here e = subst To (sym e) (over_stays last)

    pub says : Leads shown (call_plan asks eq hashes c) end → To end
    says e = say_at c.stands goes.here e
