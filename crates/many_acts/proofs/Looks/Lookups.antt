-- What a lookup looks at its section holds: it may take its step in a memory without all other blocks.
use Rattle.std.specs.Prelude.{◌≡◌, ℕ, Bool, true, Option, Some, None}
use Rattle.std.proofs.Common.{inl, inr, sym, subst, ◌∙◌}
use Rattle.run_shows.specs.Given.SeizeWordsMem.{Mem, Can, Took, value_at}
use Rattle.run_shows.specs.Given.SeizeWordsPlan.{May, plan_as}
use Rattle.run_shows.proofs.Given.SeizeWordsPlans.{as_may}
use Rattle.run_shows.specs.Given.SeizeLaw.{holds}
use Rattle.run_shows.specs.Given.SeizeWorld.{World, IsInside}
use Rattle.run_shows.specs.Given.TablesDeclared.node.Node.{Node}
use Rattle.run_shows.specs.Given.TablesDeclared.setting.Setting.{Setting}
use Rattle.run_shows.specs.Given.ResizeLookup as lookup
use Rattle.run_shows.specs.Given.ResizeLookup.{lookup_plan}
use Rattle.run_shows.specs.Given.ResizeDeclared.lookup.Lookup.{Lookup}
use Rattle.run_shows.specs.Given.ResizeDeclared.lookup.Looking.{Looking}
use Rattle.run_shows.specs.Given.ResizeDeclared.lookup.Looking.TheVariants as looking
use Rattle.run_shows.specs.Given.RawCall.{call_plan, plan_at, looked, looks_for}
use Rattle.run_shows.specs.Given.RawMachine as machines
use Rattle.run_shows.specs.Given.RawMachine.{machine_plan}
use Rattle.run_shows.specs.Given.RawDeclared.machines.call.Calling.{Calling}
use Rattle.run_shows.specs.Given.RawDeclared.machines.call.Calling.TheVariants as at
use Rattle.run_shows.specs.Given.RawDeclared.machines.call.KeyCall.{KeyCall}
use Rattle.run_shows.specs.Given.RawDeclared.machines.machine.Machine.TheVariants as kinds
use Rattle.run_shows.specs.Given.RuleChart.{Chart}
use Rattle.run_shows.specs.Given.RuleMaps.{spot_at, IsMap}
use Rattle.run_shows.specs.Given.RuleWords.{Blocks}
use Rattle.run_shows.specs.Given.RuleInWorld.{IsMapIn}
use Rattle.run_shows.proofs.Given.RuleWorld.Framed.{shows_kept}
use Rattle.owner_facts.specs.Given.LateLateCalls.{SupersededCalling, SupersededCallFacts}
use Rattle.run_shows.specs.Given.LateLateLooks.{SupersededLooking}
use Rattle.owner_facts.specs.Given.PointsFactsCalls.{CallFacts, CallingFacts}
use Rattle.owner_facts.specs.Given.PointsSteps.{AreLawful}
use Rattle.owner_facts.specs.Given.PointsTold.{IsRowOfCall}
use Rattle.owner_facts.proofs.Given.PointsCalls.May.{may_looks}
use Rattle.owner_facts.proofs.Given.PointsCalls.StepsTold.{lookups_tell}
use Rattle.owner_facts.proofs.Given.PointsLookups.LooksAsked.{class_asked, lookup_asked}
use Rattle.owner_facts.proofs.Given.PointsLookups.Reads.{sees_place, may_probes}
use Rattle.owner_facts.specs.Given.CallersKept.{IsWithin}
use Rattle.owner_facts.specs.Given.CallersSights.{Visible, seen_by}
use Rattle.owner_facts.specs.Given.CallersTogether.{UnderWay, CallOnKey, OnKey, Together, IsAtPoint, in_slot}
use Rattle.owner_facts.proofs.Given.CallersSights.Seen.{map_seen}
use Rattle.owner_facts.proofs.Given.CallersTogether.Fits.{map_in_slot}
use Rattle.many_acts.specs.Looks.Blocks.{MayMake}
use Rattle.many_acts.specs.Looks.Looks.{LookupsLookAtWhatIsHeld}
use Rattle.many_acts.proofs.Looks.Restricted.{restricted, value_kept, word_kept, looks_kept}

module _ {K V Q : Type 0} (same : K → K → Bool) (hash : K → ℕ) (asks : Q → K → Bool) (setting : Setting) (slot : ℕ → ℕ) (lawful : AreLawful same hash)
    (w : World (Node K V)) (c : Chart K) (blocks : Blocks) (sights : ℕ → Visible) (calls : ℕ → Option (UnderWay K V Q)) (s : Together V same hash asks setting slot w c blocks sights calls)
    (i : ℕ) (inside : IsInside (w.uses (slot i))) where
  -- what is kept: the section holds it
  abbrev pub keep : ℕ → Bool
  keep b = holds (slot i) b w.log

  abbrev pub less : Mem (Node K V)
  less = restricted keep w.memory

  abbrev here : Setting
  here = in_slot setting (slot i)

  abbrev seen : Blocks
  seen = seen_by blocks (sights (slot i))

  pub within : IsWithin w (slot i) c seen setting
  within = (s.ground.sight (slot i) inside).1

  pub map : IsMapIn same hash here w c seen
  map = map_seen same hash here w c blocks (sights (slot i)) (map_in_slot same hash setting w c blocks (slot i) s.ground.map) (s.ground.sight (slot i) inside).0

  -- the tables stand there
  map2 : IsMap same hash setting.mode setting.root less c seen
  map2 = record {
    rule = map.map.rule;
    shows = shows_kept hash w.memory less c seen setting.root map.map.shows (record {
      root_word = λ word is. is;
      table_values = λ t made known. value_kept keep w.memory (blocks.table t) (within.tables t made known);
      pair_values = λ n made known. value_kept keep w.memory (blocks.pair n) (within.pairs n made known);
      words = λ t d word made known other is. word_kept keep w.memory (blocks.table t) d (within.tables t made known) ∙ is;
    });
    later = map.map.later;
  }

  -- so a lookup may take its step there
  module _ (u : CallOnKey K V Q) (l : Lookup) (stands : u.call.stands ≡ at.Looks l) where
    -- whatever it asks for
    asked_may : (q : Q) → u.call.asked ≡ Some q → May Can Took value_at less (lookup_plan (asks q) l) → May Can Took value_at less (call_plan asks same hash u.call)
    asked_may q asked may = subst (λ (x : Calling). May Can Took value_at less (plan_at asks same hash u.call x)) (sym stands) (may_looks less u.call asks l q asked may)

    -- in the root's table, or on the way there,
    by_point : CallFacts same hash asks w i here c seen u.keys u.change u.call → CallingFacts same hash asks w i here c seen u.keys u.change u.call (at.Looks l)
        → May Can Took value_at less (call_plan asks same hash u.call)
    by_point facts point =
        asked_may point.3 point.4
        (lookups_tell V same hash lawful setting.mode setting.root (asks point.3) u.call.hash less c seen l
        (class_asked same hash setting.mode setting.root u.keys (asks point.3) point.5 u.call.hash facts.class) map2
        (lookup_asked same hash setting.mode setting.root u.keys (asks point.3) point.5 u.call.hash c seen l point.6)).0

    -- and in a table that the root has left
    by_left : SupersededCallFacts same hash asks w i here c seen u.keys u.began u.call → SupersededCalling same hash asks w i here c seen u.keys u.began u.call (at.Looks l)
        → May Can Took value_at less (call_plan asks same hash u.call)
    by_left facts (own, missing, there, q, asked, agree, looks) = asked_may q asked (probes_at l.stands looks.point)
      where
        probes_at : (x : Looking) → SupersededLooking same hash u.keys u.call.hash c seen u.began x → May Can Took value_at less (lookup.plan_at (asks q) l x)
        probes_at (looking.Probes trial) (t, j, tries, passed, left) =
            may_probes hash (asks q) u.call.hash less c seen l looks.hash_is trial t (c.place t (spot_at (c.len t) u.call.hash j))
            (sees_place same hash lawful.fits setting.mode setting.root (asks q) u.call.hash
            (class_asked same hash setting.mode setting.root u.keys (asks q) agree u.call.hash facts.class) less c seen map2 trial t j tries)
        probes_at _ point = absurd point

    pub may_lookup : calls i ≡ Some (OnKey u) → May Can Took value_at less (call_plan asks same hash u.call)
    may_lookup is = by (s.stand i (OnKey u) is)
      where
        by : IsAtPoint V same hash asks setting slot w c seen i (OnKey u) → May Can Took value_at less (call_plan asks same hash u.call)
        by (inl (rests, knows)) = elim knows.facts as (λ _. May Can Took value_at less (call_plan asks same hash u.call)) [
          | inl facts ↦ by_point facts (subst (λ (x : Calling). CallingFacts same hash asks w i here c seen u.keys u.change u.call x) stands facts.point)
          | inr late ↦ by_left late.1 (subst (λ (x : Calling). SupersededCalling same hash asks w i here c seen u.keys u.began u.call x) stands late.1.point)
        ]
        by (inr (row, is_row, knows)) = absurd (subst (λ (x : Calling). IsRowOfCall x) stands is_row)

-- a lookup makes no block
module _ {K V Q : Type 0} (asks : Q → K → Bool) (same : K → K → Bool) (hash : K → ℕ) (b : ℕ) (m : Mem (Node K V)) (c : KeyCall K V Q) where
  none_at : (keys : K → Bool) (l : Lookup) (stands : Looking) → MayMake b m (plan_as (machines.called {K = K} {V = V} {Q = Q}) (plan_as (looked c) (lookup.plan_at keys l stands))) → ⊥
  none_at keys l looking.Roots made = made
  none_at keys l (looking.Probes trial) made = made
  none_at keys l (looking.Nexts table) made = made
  none_at keys l (looking.Over found) made = made

  none_asked : (l : Lookup) (asked : Option Q) → MayMake b m (plan_as (machines.called {K = K} {V = V} {Q = Q}) (looks_for asks c l asked)) → ⊥
  none_asked l (Some q) made = none_at (asks q) l l.stands made
  none_asked l None made = made

  pub none_made : (l : Lookup) → c.stands ≡ at.Looks l → MayMake b m (machine_plan asks same hash (kinds.Key c)) → ⊥
  none_made l stands made =
      none_asked l c.asked (subst (λ (x : Calling). MayMake b m (plan_as (machines.called {K = K} {V = V} {Q = Q}) (plan_at asks same hash c x))) stands made)

module _ {K Q : Type 0} (V : Type 0) (same : K → K → Bool) (asks : Q → K → Bool) (batch_size roots : ℕ) (slot : ℕ → ℕ) where
  pub lookups_look : LookupsLookAtWhatIsHeld V same asks batch_size roots slot
  lookups_look w maps calls makers enders all m s here i u has l stands b looks =
      let together = all.makings.standing.each m s here in
      let inside = together.inside i (OnKey u) has in
      let lawful = (all.makings.standing.fit m s here).0 in
      let kept = keep same s.hash asks s.setting slot lawful w s.chart s.blocks s.sights (calls m) together i inside in
      elim (looks_kept kept w.memory (machine_plan asks same s.hash (kinds.Key u.call))
      (as_may machines.called Can Took value_at (less same s.hash asks s.setting slot lawful w s.chart s.blocks s.sights (calls m) together i inside) (call_plan asks same s.hash u.call)
      (may_lookup same s.hash asks s.setting slot lawful w s.chart s.blocks s.sights (calls m) together i inside u l stands has)) b looks)
      as (λ _. holds (slot i) b w.log ≡ true) [
        | inl is ↦ is.0
        | inr made ↦ absurd (none_made asks same s.hash b w.memory u.call l stands made)
      ]
