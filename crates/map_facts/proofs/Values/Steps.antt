-- What a step of a call leaves of the blocks, where the call has changed nothing, and makes no block of its own or takes it away.
use Rattle.std.specs.Prelude.{◌≡◌, ℕ, ◌==◌, Bool, true, false, Option, Some, None, Err, ◌⊎◌}
use Rattle.std.proofs.Common.{refl, sym, subst, inl, inr}
use Rattle.map_rule.specs.Given.SeizeWordsDeclared.at.At.TheVariants.{Root}
use Rattle.map_rule.specs.Given.SeizeWordsOp.{Found, Exchanged}
use Rattle.map_rule.specs.Given.SeizeWordsMem.{Mem, Can, Took, value_at}
use Rattle.map_rule.specs.Given.SeizeWordsPlan.{May, Steps}
use Rattle.map_rule.proofs.Given.SeizeWordsOneOwner.Operations.{loaded, exchanged}
use Rattle.map_rule.proofs.Given.SeizeWordsPlans.{may_as}
use Rattle.papaya_raw.specs.Given.SeizeWorld.{World}
use Rattle.papaya_raw.specs.Given.SeizeDeclared.advance.Advance.{Advance}
use Rattle.papaya_raw.specs.Given.SeizeDeclared.advance.Advance.TheVariants as progress
use Rattle.map_rule.proofs.Given.SeizeRuleRows.Leaving.{steps_back}
use Rattle.papaya_raw.specs.Call.{looked, looks_for, looks, root_found, roots, next_found, nexts, word_found, probes, tried, tries, first_made, firsts, next_made, allocs, helped, helps, copied, copies}
use Rattle.papaya_raw.specs.CallPoints.{changed}
use Rattle.map_rule.specs.Given.ResizeCopier.{copier_plan}
use Rattle.map_rule.specs.Given.ResizeLookup.{lookup_plan, plan_at as lookup_plan_at}
use Rattle.map_rule.specs.Given.ResizeNewTable.{new_table_plan}
use Rattle.papaya_raw.specs.Given.TablesTablePlaces.{at_word}
use Rattle.papaya_raw.specs.Given.TablesTrials.{place_tried}
use Rattle.papaya_raw.specs.Given.TablesDeclared.node.Node.{Node}
use Rattle.map_rule.specs.Given.ResizeDeclared.yielding.Yielding.{Yielding}
use Rattle.map_rule.specs.Given.ResizeDeclared.yielding.Yielding.TheVariants as outcome
use Rattle.papaya_raw.specs.Given.TablesDeclared.setting.Setting.{Setting}
use Rattle.papaya_raw.specs.Given.TablesDeclared.table.Table.{Table}
use Rattle.papaya_raw.specs.Given.TablesDeclared.table_words.TheConstants.{NEXT}
use Rattle.papaya_raw.specs.declared.machines.answer.KeyAnswer.TheVariants as answers
use Rattle.papaya_raw.specs.declared.machines.answer.Called.{Called}
use Rattle.papaya_raw.specs.declared.machines.answer.Called.TheVariants as called
use Rattle.papaya_raw.specs.declared.machines.answer.End.TheVariants as ends
use Rattle.papaya_raw.specs.declared.machines.call.KeyCall.{KeyCall}
use Rattle.papaya_raw.specs.declared.machines.call.Calling.{Calling}
use Rattle.papaya_raw.specs.declared.machines.call.Calling.TheVariants as at
use Rattle.map_rule.specs.Given.ResizeDeclared.copier.Copier.{Copier}
use Rattle.map_rule.specs.Given.ResizeDeclared.lookup.Lookup.{Lookup}
use Rattle.map_rule.specs.Given.ResizeDeclared.lookup.Looking.{Looking}
use Rattle.map_rule.specs.Given.ResizeDeclared.lookup.Looking.TheVariants as looking
use Rattle.map_rule.specs.Given.ResizeDeclared.new_table.NewTable.{NewTable}
use Rattle.map_rule.specs.Chart.{Chart}
use Rattle.map_rule.specs.Words.{Blocks}
use Rattle.map_facts.specs.FactsTables.{NewTableFacts}
use Rattle.map_facts.specs.FactsCopies.{CopierFacts}
use Rattle.map_facts.specs.Told.{IsRowOfCopier}
use Rattle.map_facts.specs.Made.{IsMadeByCall}
use Rattle.map_rule.specs.Given.SeizeWordsDeclared.at.At.{At}
use Rattle.map_facts.proofs.Values.Kept.{SameValues, IsPlainStep, plain_as, plain_keeps}
use Rattle.map_facts.proofs.Values.Left.{Leaves, leaves_same, leaves_as}
use Rattle.map_facts.proofs.Values.Making.{MadeAfter, IsLinkedNow, making_leaves}
use Rattle.map_facts.proofs.Values.Copying.{all_then, all_if}
use Rattle.map_facts.proofs.Values.Copiers.{MadeByCopierAfter, MakesTable, copier_leaves, makes_table}
use Rattle.map_facts.proofs.Values.Sought.{CallMadeNone, none_made_by_call, GoesSeeking, GoesPlainly, over_so, ending_so, tableless_so, last_so, went_on_so, read_so}

module _ {K V Q : Type 0} where
  -- the block of the table that is left to be linked, after a step
  abbrev pub MadeByCallAfter : KeyCall K V Q × Called (Node K V) → ℕ → Type 0
  MadeByCallAfter (p, called.Goes) b = IsMadeByCall p.stands b
  MadeByCallAfter (p, called.Waits) b = IsMadeByCall p.stands b
  MadeByCallAfter (p, called.Gave value) b = IsMadeByCall p.stands b
  MadeByCallAfter (p, called.Unstored value) b = IsMadeByCall p.stands b
  MadeByCallAfter (p, called.Asks pair) b = IsMadeByCall p.stands b
  MadeByCallAfter (p, called.Done answer) b = ⊥
  MadeByCallAfter (p, called.Refused fault) b = ⊥

  pub none_call_after : (e : KeyCall K V Q × Called (Node K V)) → CallMadeNone e.0.stands → (b : ℕ) → MadeByCallAfter e b → ⊥
  none_call_after (p, called.Goes) none b h = none_made_by_call p.stands none b h
  none_call_after (p, called.Waits) none b h = none_made_by_call p.stands none b h
  none_call_after (p, called.Gave value) none b h = none_made_by_call p.stands none b h
  none_call_after (p, called.Unstored value) none b h = none_made_by_call p.stands none b h
  none_call_after (p, called.Asks pair) none b h = none_made_by_call p.stands none b h
  none_call_after (p, called.Done answer) none b h = h
  none_call_after (p, called.Refused fault) none b h = h

  module _ (p : KeyCall K V Q) where
    -- a machine within it made a table
    first_to : (e : NewTable × Advance Table) (b : ℕ) → MadeAfter e b → MadeByCallAfter (first_made p e) b
    first_to (n, progress.Goes) b h = h
    first_to (n, progress.Waits) b h = h
    first_to (n, progress.Done table) b h = absurd h
    first_to (n, progress.Refused fault) b h = absurd h

    first_of : (e : NewTable × Advance Table) (b : ℕ) → MadeByCallAfter (first_made p e) b → MadeAfter e b
    first_of (n, progress.Goes) b h = h
    first_of (n, progress.Waits) b h = h
    first_of (n, progress.Done table) b h = h
    first_of (n, progress.Refused fault) b h = none_call_after (first_made p (n, progress.Refused fault)) (ending_so p (ends.Refused fault) tt).1 b h

    next_to : (e : NewTable × Advance Table) (b : ℕ) → MadeAfter e b → MadeByCallAfter (next_made p e) b
    next_to (n, progress.Goes) b h = h
    next_to (n, progress.Waits) b h = h
    next_to (n, progress.Done table) b h = absurd h
    next_to (n, progress.Refused fault) b h = absurd h

    next_of : (e : NewTable × Advance Table) (b : ℕ) → MadeByCallAfter (next_made p e) b → MadeAfter e b
    next_of (n, progress.Goes) b h = h
    next_of (n, progress.Waits) b h = h
    next_of (n, progress.Done table) b h = none_call_after (next_made p (n, progress.Done table)) (went_on_so p table).1 b h
    next_of (n, progress.Refused fault) b h = none_call_after (next_made p (n, progress.Refused fault)) (ending_so p (ends.Refused fault) tt).1 b h

    helped_to : (goal : Table) (e : Copier × Yielding (Node K V) Table) (b : ℕ) → MadeByCopierAfter e b → MadeByCallAfter (helped p goal e) b
    helped_to goal (n, outcome.Goes) b h = h
    helped_to goal (n, outcome.Waits) b h = h
    helped_to goal (n, outcome.Gave value) b h = h
    helped_to goal (n, outcome.Done table) b h = absurd h
    helped_to goal (n, outcome.Refused fault) b h = absurd h

    helped_of : (goal : Table) (e : Copier × Yielding (Node K V) Table) (b : ℕ) → MadeByCallAfter (helped p goal e) b → MadeByCopierAfter e b
    helped_of goal (n, outcome.Goes) b h = h
    helped_of goal (n, outcome.Waits) b h = h
    helped_of goal (n, outcome.Gave value) b h = h
    helped_of goal (n, outcome.Done table) b h = h
    helped_of goal (n, outcome.Refused fault) b h = none_call_after (helped p goal (n, outcome.Refused fault)) (ending_so p (ends.Refused fault) tt).1 b h

    copied_to : (e : Copier × Yielding (Node K V) Table) (b : ℕ) → MadeByCopierAfter e b → MadeByCallAfter (copied p e) b
    copied_to (n, outcome.Goes) b h = h
    copied_to (n, outcome.Waits) b h = h
    copied_to (n, outcome.Gave value) b h = h
    copied_to (n, outcome.Done table) b h = absurd h
    copied_to (n, outcome.Refused fault) b h = absurd h

    copied_of : (e : Copier × Yielding (Node K V) Table) (b : ℕ) → MadeByCallAfter (copied p e) b → MadeByCopierAfter e b
    copied_of (n, outcome.Goes) b h = h
    copied_of (n, outcome.Waits) b h = h
    copied_of (n, outcome.Gave value) b h = h
    copied_of (n, outcome.Done table) b h = h
    copied_of (n, outcome.Refused fault) b h = none_call_after (copied p (n, outcome.Refused fault)) (ending_so p (ends.Refused fault) tt).1 b h

    pub first_so : (e : NewTable × Advance Table) → GoesSeeking p (first_made p e)
    first_so (n, progress.Goes) = (refl, tt)
    first_so (n, progress.Waits) = (refl, tt)
    first_so (n, progress.Done table) = (refl, tt)
    first_so (n, progress.Refused fault) = (ending_so p (ends.Refused fault) tt).0

    next_so : (e : NewTable × Advance Table) → GoesSeeking p (next_made p e)
    next_so (n, progress.Goes) = (refl, tt)
    next_so (n, progress.Waits) = (refl, tt)
    next_so (n, progress.Done table) = (went_on_so p table).0
    next_so (n, progress.Refused fault) = (ending_so p (ends.Refused fault) tt).0

    pub helped_so : (goal : Table) (e : Copier × Yielding (Node K V) Table) → GoesSeeking p (helped p goal e)
    helped_so goal (n, outcome.Goes) = (refl, tt)
    helped_so goal (n, outcome.Waits) = (refl, tt)
    helped_so goal (n, outcome.Gave value) = (refl, tt)
    helped_so goal (n, outcome.Done table) = (refl, tt)
    helped_so goal (n, outcome.Refused fault) = (ending_so p (ends.Refused fault) tt).0

    pub copied_so : (e : Copier × Yielding (Node K V) Table) → GoesSeeking p (copied p e)
    copied_so (n, outcome.Goes) = (refl, tt)
    copied_so (n, outcome.Waits) = (refl, tt)
    copied_so (n, outcome.Gave value) = (refl, tt)
    copied_so (n, outcome.Done table) = (refl, tt)
    copied_so (n, outcome.Refused fault) = (ending_so p (ends.Refused fault) tt).0

    looked_so : p.own ≡ 0 → (e : Lookup × Advance (Option ℕ)) → GoesPlainly p (looked p e)
    looked_so none (l, progress.Goes) = ((refl, tt), tt)
    looked_so none (l, progress.Waits) = ((refl, tt), tt)
    looked_so none (l, progress.Done (Some found)) = over_so p (ends.Answered (answers.Found found)) tt none
    looked_so none (l, progress.Done None) = over_so p (ends.Answered answers.Absent) tt none
    looked_so none (l, progress.Refused fault) = over_so p (ends.Refused fault) tt none

module _ {K V Q : Type 0} (same : K → K → Bool) (hash : K → ℕ) (asks : Q → K → Bool) (w : World (Node K V)) (caller : ℕ) (setting : Setting) (c : Chart K) (blocks : Blocks)
    (p : KeyCall K V Q) (m2 : Mem (Node K V)) (end : KeyCall K V Q × Called (Node K V)) where
  abbrev Left : KeyCall K V Q × Called (Node K V) → Calling → Type 0
  Left e stands = Leaves w.memory m2 (IsMadeByCall stands) (MadeByCallAfter e) (IsLinkedNow w caller setting c blocks m2)

  -- it goes on with its own block, and leaves the blocks so
  abbrev pub SoughtOn : Calling → Type 0
  SoughtOn stands = GoesSeeking p end × Left end stands

  plainly : (stands : Calling) → CallMadeNone stands → SameValues w.memory m2 → GoesPlainly p end → SoughtOn stands
  plainly stands none kept goes = (
    goes.0,
    leaves_same w.memory m2 (IsMadeByCall stands) (MadeByCallAfter end) (IsLinkedNow w caller setting c blocks m2) kept
        (λ b h. absurd (none_made_by_call stands none b h)) (λ b h. absurd (none_call_after end goes.1 b h)),
  )

  plain_lookup : (keys : K → Bool) (l : Lookup) (stands : Looking) → IsPlainStep (lookup_plan_at {V = V} keys l stands)
  plain_lookup keys l looking.Roots = tt
  plain_lookup keys l (looking.Probes trial) = tt
  plain_lookup keys l (looking.Nexts table) = tt
  plain_lookup keys l (looking.Over found) = tt

  pub looks_on : (l : Lookup) → p.own ≡ 0 → May Can Took value_at w.memory (looks asks p l) → Steps Took value_at w.memory (looks asks p l) m2 end → SoughtOn (at.Looks l)
  looks_on l none may s = by p.asked may s
    where
      by : (asked : Option Q) → May Can Took value_at w.memory (looks_for asks p l asked) → Steps Took value_at w.memory (looks_for asks p l asked) m2 end → SoughtOn (at.Looks l)
      by (Some q) may s =
          let d = steps_back (looked p) w.memory m2 (lookup_plan (asks q) l) end s in
          plainly (at.Looks l) tt
          (plain_keeps w.memory m2 (looks_for asks p l (Some q)) end (plain_as (looked p) (lookup_plan (asks q) l) (plain_lookup (asks q) l l.stands)) may s)
          (subst (λ (e : KeyCall K V Q × Called (Node K V)). GoesPlainly p e) (sym d.2) (looked_so p none d.0))
      by None may s =
          plainly (at.Looks l) tt (plain_keeps w.memory m2 (looks_for asks p l None) end tt may s)
          (subst (λ (e : KeyCall K V Q × Called (Node K V)). GoesPlainly p e) (sym s.1) (over_so p (ends.Answered answers.Absent) tt none))

  pub roots_on : May Can Took value_at w.memory (roots p) → Steps Took value_at w.memory (roots p) m2 end → SoughtOn at.Roots
  roots_on may s =
      let d = loaded w.memory (root_found p) (Root p.setting.root) m2 end s in
      plainly at.Roots tt (plain_keeps w.memory m2 (roots p) end tt may s)
      (all_then (GoesPlainly p) (value_at w.memory) (root_found p (Found d.0)) end (all_if (GoesPlainly p) (d.0 == 0) _ _ (tableless_so p p.missing) (λ v. ((refl, tt), tt))) d.3)

  pub probes_on : May Can Took value_at w.memory (probes asks same p) → Steps Took value_at w.memory (probes asks same p) m2 end → SoughtOn at.Probes
  probes_on may s =
      let d = loaded w.memory (word_found asks same p) (place_tried p.trial) m2 end s in
      plainly at.Probes tt (plain_keeps w.memory m2 (probes asks same p) end tt may s)
      (all_then (GoesPlainly p) (value_at w.memory) (word_found asks same p (Found d.0)) end (read_so p asks same true d.0) d.3)

  -- it finds another word, or changes the map
  pub tries_on : (word new : ℕ) → May Can Took value_at w.memory (tries asks same p word new) → Steps Took value_at w.memory (tries asks same p word new) m2 end
      → SoughtOn (at.Tries word new) ⊎ (SameValues w.memory m2 × (end ≡ changed p word new))
  tries_on word new may s =
      let kept = plain_keeps w.memory m2 (tries asks same p word new) end tt may s in
      elim (exchanged w.memory (tried asks same p word new) (place_tried p.trial) word new m2 end s) as (λ _. SoughtOn (at.Tries word new) ⊎ (SameValues w.memory m2 × (end ≡ changed p word new))) [
        | inl d ↦ inr (kept, d.3)
        | inr d ↦ inl (plainly (at.Tries word new) tt kept (all_then (GoesPlainly p) (value_at w.memory) (tried asks same p word new (Exchanged (Err d.0))) end (read_so p asks same false d.0) d.3))
      ]

  pub nexts_on : May Can Took value_at w.memory (nexts p) → Steps Took value_at w.memory (nexts p) m2 end → SoughtOn at.Nexts
  nexts_on may s =
      let d = loaded w.memory (next_found p) (at_word p.trial.table NEXT) m2 end s in
      plainly at.Nexts tt (plain_keeps w.memory m2 (nexts p) end tt may s)
      (all_then (GoesPlainly p) (value_at w.memory) (next_found p (Found d.0)) end (all_if (GoesPlainly p) (d.0 == 0) _ _ (last_so p p.missing) (λ v. went_on_so p _)) d.3)

  -- as a machine within it does
  within : (stands : Calling) (Mine : ℕ → Type 0) (e : KeyCall K V Q × Called (Node K V)) → end ≡ e → ((b : ℕ) → Mine b → MadeByCallAfter e b) → ((b : ℕ) → MadeByCallAfter e b → Mine b)
      → GoesSeeking p e → Leaves w.memory m2 (IsMadeByCall stands) Mine (IsLinkedNow w caller setting c blocks m2) → SoughtOn stands
  within stands Mine e is to of goes l =
      subst (λ (x : KeyCall K V Q × Called (Node K V)). GoesSeeking p x × Left x stands) (sym is)
      (goes, leaves_as w.memory m2 (IsMadeByCall stands) Mine (IsLinkedNow w caller setting c blocks m2) (IsMadeByCall stands) (MadeByCallAfter e) (λ b h. h) (λ b h. h) to of l)

  module _ (link : At) (turn : ℕ) (making : NewTable) (facts : NewTableFacts w caller setting c blocks link turn making) where
    pub firsts_on : May Can Took value_at w.memory (firsts p making) → Steps Took value_at w.memory (firsts p making) m2 end → SoughtOn (at.Firsts making)
    firsts_on may s =
        let d = steps_back (first_made p) w.memory m2 (new_table_plan making) end s in
        within (at.Firsts making) (MadeAfter d.0) (first_made p d.0) d.2 (first_to p d.0) (first_of p d.0) (first_so p d.0)
        (making_leaves w caller setting c blocks m2 link turn making facts d.0 (may_as (first_made p) Can Took value_at w.memory (new_table_plan making) may) d.1)

    pub allocs_on : May Can Took value_at w.memory (allocs p making) → Steps Took value_at w.memory (allocs p making) m2 end → SoughtOn (at.Allocs making)
    allocs_on may s =
        let d = steps_back (next_made p) w.memory m2 (new_table_plan making) end s in
        within (at.Allocs making) (MadeAfter d.0) (next_made p d.0) d.2 (next_to p d.0) (next_of p d.0) (next_so p d.0)
        (making_leaves w caller setting c blocks m2 link turn making facts d.0 (may_as (next_made p) Can Took value_at w.memory (new_table_plan making) may) d.1)

  module _ (copier : Copier) (none : IsRowOfCopier copier.stands → ⊥) where
    pub helps_on : (goal : Table) → CopierFacts same hash w caller setting c blocks copier → May Can Took value_at w.memory (helps hash p copier goal)
        → Steps Took value_at w.memory (helps hash p copier goal) m2 end → SoughtOn (at.Helps copier goal)
    helps_on goal facts may s =
        let d = steps_back (helped p goal) w.memory m2 (copier_plan hash copier) end s in
        within (at.Helps copier goal) (MadeByCopierAfter d.0) (helped p goal d.0) d.2 (helped_to p goal d.0) (helped_of p goal d.0) (helped_so p goal d.0)
        (copier_leaves w caller setting c blocks hash m2 copier d.0 (makes_table w caller setting c blocks same hash copier copier.stands facts.point) none
        (may_as (helped p goal) Can Took value_at w.memory (copier_plan hash copier) may) d.1)

    pub copies_on : MakesTable w caller setting c blocks copier.stands → May Can Took value_at w.memory (copies hash p copier)
        → Steps Took value_at w.memory (copies hash p copier) m2 end → SoughtOn (at.Copies copier)
    copies_on makes may s =
        let d = steps_back (copied p) w.memory m2 (copier_plan hash copier) end s in
        within (at.Copies copier) (MadeByCopierAfter d.0) (copied p d.0) d.2 (copied_to p d.0) (copied_of p d.0) (copied_so p d.0)
        (copier_leaves w caller setting c blocks hash m2 copier d.0 makes none
        (may_as (copied p) Can Took value_at w.memory (copier_plan hash copier) may) d.1)
