-- Each step of a call that is no row of the collector: it may be taken, and where it leads.
use Rattle.std.specs.Prelude.{◌≡◌, ℕ, suc, ◌^◌, ◌<◌, Bool, true, false, Some, None}
use Rattle.std.specs.Int.{IsPowerOfTwo}
use Rattle.std.proofs.Common.{refl, sym, subst, ◌∙◌, arith}
use Rattle.map_rule.specs.Given.SeizeWordsMem.{Mem, value_at, Can, Took}
use Rattle.map_rule.specs.Given.SeizeWordsPlan.{May, Steps}
use Rattle.papaya_raw.specs.Given.SeizeWorld.{World}
use Rattle.map_rule.specs.Given.SeizeWordsDeclared.at.At.TheVariants.{Root, Word}
use Rattle.papaya_raw.specs.Call.{plan_at, call_plan}
use Rattle.papaya_raw.specs.CallFills.{asks_at}
use Rattle.papaya_raw.specs.declared.machines.asking.Asking.{Asking}
use Rattle.papaya_raw.specs.declared.machines.asking.Asking.TheVariants as asking
use Rattle.papaya_raw.specs.Given.TablesChunks.{is_incremental}
use Rattle.map_rule.specs.Given.ResizeCopier.{copier_plan}
use Rattle.papaya_raw.specs.Given.TablesDeclared.node.Node.{Node}
use Rattle.map_rule.specs.Given.ResizeDeclared.yielding.Yielding.{Yielding}
use Rattle.papaya_raw.specs.Given.TablesDeclared.setting.Setting.{Setting}
use Rattle.papaya_raw.specs.Given.TablesDeclared.table.Table.{Table}
use Rattle.papaya_raw.specs.Given.TablesDeclared.table_words.TheConstants.{NEXT}
use Rattle.papaya_raw.specs.declared.machines.answer.Called.{Called}
use Rattle.papaya_raw.specs.declared.machines.call.KeyCall.{KeyCall}
use Rattle.papaya_raw.specs.declared.machines.call.Calling.{Calling}
use Rattle.papaya_raw.specs.declared.machines.call.Calling.TheVariants as at
use Rattle.map_rule.specs.Given.ResizeDeclared.copier.Copier.{Copier}
use Rattle.map_rule.specs.Chart.{Chart}
use Rattle.map_rule.specs.Rule.{IsLawful}
use Rattle.map_rule.specs.Words.{Blocks}
use Rattle.map_rule.specs.Maps.{spot_of}
use Rattle.map_rule.specs.InWorld.{IsMapIn, StepSpec, SparesPairs}
use Rattle.map_facts.specs.FactsCopies.{CopierFacts}
use Rattle.map_facts.specs.FactsCalls.{Change, Unchanged, IsCopying, Seeks, HasIts, CallingFacts, CallFacts}
use Rattle.map_facts.specs.Told.{IsRowOfCopier, IsRowOfCall, CopierOutcome, CallOutcome}
use Rattle.map_facts.specs.FactsIdle.{IsIdle}
use Rattle.map_facts.proofs.Calls.CallsOn.{Seeking}
use Rattle.map_facts.proofs.Calls.CallsWithin.{went_looks}
use Rattle.map_facts.proofs.Copiers.CopiersWhole.{whole_stays}
use Rattle.map_facts.proofs.Lookups.LooksAsked.{class_asked, lookup_asked, told_asked}
use Rattle.map_facts.proofs.Calls.Copies.{went_helps, went_copies}
use Rattle.map_facts.proofs.Calls.Counts.{may_counts, went_counts}
use Rattle.map_facts.proofs.Calls.Disposes.{went_disposes}
use Rattle.map_facts.proofs.Calls.Fills.{went_asks, went_fills, went_gives_up}
use Rattle.map_facts.proofs.Calls.FillSteps.{may_fills, may_gives_up}
use Rattle.map_facts.proofs.Calls.Holdings.{looks_with, pair_some}
use Rattle.map_facts.proofs.Calls.Makes.{may_makes, went_makes, went_over, may_drops, went_drops}
use Rattle.map_facts.proofs.Calls.Making.{went_firsts, went_allocs}
use Rattle.map_facts.proofs.Calls.May.{may_looks, may_firsts, may_allocs, may_disposes, may_helps, may_copies}
use Rattle.map_facts.proofs.Calls.Probes.{may_probes, went_probes}
use Rattle.map_facts.proofs.Calls.Tables.{may_roots, went_roots, may_nexts, went_nexts}
use Rattle.map_facts.proofs.Calls.Tried.{went_tries}
use Rattle.map_facts.proofs.Calls.Tries.{may_tries}
use Rattle.map_facts.proofs.Copiers.Points.{may_copier, went_copier}
use Rattle.map_facts.proofs.Blocking.Points.{may_copier_blocking, went_copier_blocking}
use Rattle.map_facts.proofs.Disposals.Points.{may_dispose, went_dispose}
use Rattle.map_facts.proofs.Lookups.Points.{may_lookup, went_lookup}
use Rattle.map_facts.proofs.Making.NewTable.{may_new_table, went_new_table}
use Rattle.map_rule.proofs.World.WentTold.{went_as}

module _ {K V Q : Type 0} (same : K → K → Bool) (hash : K → ℕ) (asks : Q → K → Bool) (lawful : IsLawful same (spot_of hash)) (fits : (k : K) → hash k < 2 ^ 64)
    (setting : Setting) (initial_is : IsPowerOfTwo setting.initial) (w : World (Node K V)) (caller : ℕ) (c : Chart K) (blocks : Blocks) (keys : K → Bool)
    (map : IsMapIn same hash setting w c blocks) where
  abbrev MayAt : KeyCall K V Q → Calling → Type 0
  MayAt p stands = May Can Took value_at w.memory (plan_at asks same hash p stands)

  abbrev StepsAt : KeyCall K V Q → Calling → Mem (Node K V) → KeyCall K V Q × Called (Node K V) → Type 0
  StepsAt p stands m2 end = Steps Took value_at w.memory (plan_at asks same hash p stands) m2 end

  abbrev WentTo : Change → KeyCall K V Q → Mem (Node K V) → KeyCall K V Q × Called (Node K V) → Type 0
  WentTo change p m2 end = StepSpec same hash setting caller w c blocks m2 (λ w2 c2 blocks2. CallOutcome same hash asks caller setting keys c change p w2 c2 blocks2 end.0 end.1)

  abbrev IsSeeking : Calling → Type 0
  IsSeeking stands = Seeks same hash asks w caller setting c blocks keys Unchanged stands

  -- in incremental mode, a copier that copies no whole table goes on so
  went_part : (bits : is_incremental setting.mode ≡ true) (copier : Copier) → copier.whole ≡ false → CopierFacts same hash w caller setting c blocks copier
      → (IsRowOfCopier copier.stands → ⊥) → (m2 : Mem (Node K V)) (end : Copier × Yielding (Node K V) Table) → Steps Took value_at w.memory (copier_plan hash copier) m2 end
      → StepSpec same hash setting caller w c blocks m2 (λ w2 c2 blocks2. SparesPairs w w2 × (c2.current ≡ c.current) × (end.0.whole ≡ false) × CopierOutcome w2 caller setting c2 blocks2 same hash end)
  went_part bits copier part facts none m2 end s =
      went_as same hash setting caller w c blocks m2
      (λ w2 c2 blocks2. SparesPairs w w2 × (c2.current ≡ c.current) × CopierOutcome w2 caller setting c2 blocks2 same hash end)
      (λ w2 c2 blocks2. SparesPairs w w2 × (c2.current ≡ c.current) × (end.0.whole ≡ false) × CopierOutcome w2 caller setting c2 blocks2 same hash end)
      (λ w2 c2 blocks2 map2 moved same_blocks told. (told.0, told.1, whole_stays hash copier w.memory m2 end s ∙ part, told.2))
      (went_copier same hash setting bits initial_is lawful fits w caller c blocks map copier facts none m2 end s)

  -- until it has changed something
  module _ (p : KeyCall K V Q) (f : CallFacts same hash asks w caller setting c blocks keys Unchanged p) where
    abbrev Point : Calling → Type 0
    Point stands = CallingFacts same hash asks w caller setting c blocks keys Unchanged p stands

    abbrev Idle : Type 0
    Idle = IsIdle same hash w caller setting c blocks

    seeks : Idle → HasIts same hash asks w caller setting c blocks keys Unchanged p → Seeking same hash asks caller setting keys w c blocks p
    seeks idle own = record { setting_is = f.setting_is; may = f.may; code = f.code; class = f.class; idle = idle; own = own }

    -- where it asks, or goes by what it was told
    may_ask : Idle → (asking : Asking) → Point (at.Asks asking) → May Can Took value_at w.memory (asks_at p asking)
    may_ask idle (asking.Absent gap) point = tt
    may_ask idle (asking.Present word) point = tt
    may_ask idle (asking.Fills word) (held, by_reply, told, may, try) =
        may_fills same hash asks caller setting keys w c blocks map p f.may f.code word by_reply told.0 told.1 held
    may_ask idle (asking.GivesUp word) (its, by_reply, some, names, try) =
        let own = pair_some same hash asks caller setting keys w c blocks p by_reply some its in
        may_gives_up same hash asks caller setting keys w c blocks map p f.may f.code word by_reply own.2

    went_ask : Idle → (asking : Asking) → p.stands ≡ at.Asks asking → Point (at.Asks asking) → (m2 : Mem (Node K V)) (end : KeyCall K V Q × Called (Node K V)) → Steps Took value_at w.memory (asks_at p asking) m2 end
        → WentTo Unchanged p m2 end
    went_ask idle (asking.Absent gap) here point m2 end s = went_asks same hash asks caller setting keys w c blocks map Unchanged p f refl idle (asking.Absent gap) None here m2 end s
    went_ask idle (asking.Present word) here point m2 end s = went_asks same hash asks caller setting keys w c blocks map Unchanged p f refl idle (asking.Present word) (Some word) here m2 end s
    went_ask idle (asking.Fills word) here (held, by_reply, told, may, try) m2 end s =
        went_fills same hash asks caller setting keys w c blocks map Unchanged p f refl idle word by_reply try may told.0 told.1 held m2 end s
    went_ask idle (asking.GivesUp word) here (its, by_reply, some, names, try) m2 end s =
        went_gives_up same hash asks caller setting keys w c blocks map Unchanged p f refl idle word by_reply try (pair_some same hash asks caller setting keys w c blocks p by_reply some its) names m2 end s

    may_seek : (stands : Calling) → p.stands ≡ stands → IsSeeking stands → Point stands → ((IsCopying stands → ⊥) → Idle) → (IsRowOfCall stands → ⊥) → MayAt p stands
    may_seek at.Makes here so point idle none = may_makes same hash asks caller setting keys w c blocks map Unchanged p f point refl (idle (λ h. h))
    may_seek (at.Looks l) here so point idle none =
        may_looks w.memory p asks l point.3 point.4
        (may_lookup same hash lawful fits setting.mode setting.root (asks point.3) p.hash
        (class_asked same hash setting.mode setting.root keys (asks point.3) point.5 p.hash f.class) w.memory c blocks map.map l
        (lookup_asked same hash setting.mode setting.root keys (asks point.3) point.5 p.hash c blocks l point.6))
    may_seek at.Roots here so point idle none = may_roots same hash asks caller setting keys lawful w c blocks map p (seeks (idle (λ h. h)) point)
    may_seek at.Probes here so point idle none = may_probes same hash asks caller setting keys fits w c blocks map p (seeks (idle (λ h. h)) point.0) point.1.0 point.1.1 point.1.2
    may_seek (at.Tries word new) here so point idle none =
        may_tries same hash asks caller setting keys lawful fits w c blocks map p (seeks (idle (λ h. h)) point.0) point.2.0 point.2.1 point.2.2 word new
    may_seek at.Nexts here so point idle none = may_nexts same hash asks caller setting keys lawful w c blocks map p (seeks (idle (λ h. h)) point.0) point.1 point.2.0 point.2.1 initial_is
    may_seek (at.Firsts making) here so point idle none =
        may_firsts w.memory p making (may_new_table same hash w setting c blocks map caller (Root setting.root) 0 initial_is making point.2)
    may_seek (at.Allocs making) here so point idle none =
        may_allocs w.memory p making (may_new_table same hash w setting c blocks map caller (Word (blocks.table point.1) NEXT) (suc point.1) initial_is making point.3)
    may_seek (at.Helps copier goal) here so point idle none =
        may_helps w.memory p hash copier goal (may_copier same hash setting point.1 initial_is lawful fits w caller c blocks map copier point.6 none)
    may_seek (at.Copies copier) here so point idle none =
        may_copies w.memory p hash copier (may_copier_blocking same hash fits lawful caller setting point.1 initial_is w c blocks map copier point.2 none)
    may_seek (at.Asks stands) here so point idle none = may_ask (idle (λ h. h)) stands point
    may_seek (at.Drops end) here so point idle none = may_drops same hash asks caller setting keys w c blocks map Unchanged p f end here point (idle (λ h. h))
    may_seek (at.Counts removed) here so point idle none = absurd so
    may_seek (at.Disposes dispose answer) here so point idle none = absurd so
    may_seek (at.Over end) here so point idle none = absurd so

    module _ (m2 : Mem (Node K V)) (end : KeyCall K V Q × Called (Node K V)) where
      went_seek : (stands : Calling) → p.stands ≡ stands → IsSeeking stands → Point stands → ((IsCopying stands → ⊥) → Idle) → (IsRowOfCall stands → ⊥)
          → StepsAt p stands m2 end → WentTo Unchanged p m2 end
      went_seek at.Makes here so point idle none s = went_makes same hash asks caller setting keys w c blocks map Unchanged p f point refl (idle (λ h. h)) m2 end s
      went_seek (at.Looks l) here so point idle none s =
          went_looks same hash asks caller setting keys w c blocks map p
          (seeks (idle (λ h. h)) (looks_with same hash asks caller setting keys w c blocks p f.may.0 point.2 point.1 (point.0, point.3, point.4, point.5)))
          l point Unchanged f refl
          (λ n found t. (let told = went_lookup same hash lawful fits setting.mode setting.root (asks point.3) p.hash
          (class_asked same hash setting.mode setting.root keys (asks point.3) point.5 p.hash f.class) w.memory c blocks map.map l
          (lookup_asked same hash setting.mode setting.root keys (asks point.3) point.5 p.hash c blocks l point.6) n found t in
          (told.0, told_asked same hash setting.mode setting.root (asks point.3) keys (λ k. sym (point.5 k)) p.hash c blocks found told.1))) m2 end s
      went_seek at.Roots here so point idle none s = went_roots same hash asks caller setting keys lawful w c blocks map p (seeks (idle (λ h. h)) point) Unchanged f refl m2 end s
      went_seek at.Probes here so point idle none s =
          went_probes same hash asks caller setting keys lawful fits w c blocks map p (seeks (idle (λ h. h)) point.0) point.1.0 point.1.1 point.1.2 point.1.3 point.1.4 Unchanged f refl m2 end s
      went_seek (at.Tries word new) here so point idle none s =
          went_tries same hash asks caller setting keys lawful fits w c blocks map p (seeks (idle (λ h. h)) point.0) point.2.0 point.2.1 point.2.2 point.2.3 point.2.4 word new point.1 Unchanged f refl m2 end s
      went_seek at.Nexts here so point idle none s =
          went_nexts same hash asks caller setting keys lawful w c blocks map p (seeks (idle (λ h. h)) point.0) point.1 point.2.0 point.2.1 initial_is Unchanged f refl m2 end s
      went_seek (at.Firsts making) here so point idle none s =
          went_firsts same hash asks caller setting keys lawful w c blocks map p (seeks (idle (λ h. h)) point.0) making Unchanged f refl m2 end point.1
          (λ n made t. went_new_table same hash w setting c blocks map caller (Root setting.root) 0 initial_is lawful making point.2 n made t) s
      went_seek (at.Allocs making) here so point idle none s =
          went_allocs same hash asks caller setting keys lawful w c blocks map p (seeks (idle (λ h. h)) point.0) making Unchanged f refl m2 end point.1 point.2.0 point.2.1
          (λ n made t. went_new_table same hash w setting c blocks map caller (Word (blocks.table point.1) NEXT) (suc point.1) initial_is lawful making point.3 n made t) s
      went_seek (at.Helps copier goal) here so (own, bits, part, t, entered, shut, facts) idle none s =
          went_helps same hash asks caller setting keys lawful w c blocks map Unchanged p f refl own copier (subst IsCopying (sym here) tt) m2 end bits goal t (let made = entered.made in omega (arith, made)) entered shut
          (λ n out u. went_part bits copier part facts none n out u) s
      went_seek (at.Copies copier) here so point idle none s =
          went_copies same hash asks caller setting keys lawful w c blocks map Unchanged p f refl point.0 copier (subst IsCopying (sym here) tt) m2 end point.1
          (λ n out u. went_copier_blocking same hash fits lawful caller setting point.1 initial_is w c blocks map copier point.2 none n out u) s
      went_seek (at.Asks stands) here so point idle none s = went_ask (idle (λ h. h)) stands here point m2 end s
      went_seek (at.Drops over) here so point idle none s = went_drops same hash asks caller setting keys w c blocks map Unchanged p f over here point (idle (λ h. h)) m2 end s
      went_seek (at.Counts removed) here so point idle none s = absurd so
      went_seek (at.Disposes dispose answer) here so point idle none s = absurd so
      went_seek (at.Over over) here so point idle none s = absurd so

  module _ (p : KeyCall K V Q) (stands : Calling) (here : p.stands ≡ stands) (so : IsSeeking stands) (none : IsRowOfCall stands → ⊥) where
    may_unchanged : (change : Change) → change ≡ Unchanged → CallFacts same hash asks w caller setting c blocks keys change p → MayAt p stands
    may_unchanged change e f =
        let g = subst (λ (x : Change). CallFacts same hash asks w caller setting c blocks keys x p) e f in
        may_seek p g stands here so (subst (λ (x : Calling). CallingFacts same hash asks w caller setting c blocks keys Unchanged p x) here g.point)
        (subst (λ (x : Calling). (IsCopying x → ⊥) → IsIdle same hash w caller setting c blocks) here g.idle) none

    went_unchanged : (m2 : Mem (Node K V)) (end : KeyCall K V Q × Called (Node K V)) (change : Change) → change ≡ Unchanged
        → CallFacts same hash asks w caller setting c blocks keys change p → StepsAt p stands m2 end → WentTo change p m2 end
    went_unchanged m2 end change e f s =
        let g = subst (λ (x : Change). CallFacts same hash asks w caller setting c blocks keys x p) e f in
        subst (λ (x : Change). WentTo x p m2 end) (sym e)
        (went_seek p g m2 end stands here so (subst (λ (x : Calling). CallingFacts same hash asks w caller setting c blocks keys Unchanged p x) here g.point)
        (subst (λ (x : Calling). (IsCopying x → ⊥) → IsIdle same hash w caller setting c blocks) here g.idle) none s)

  module _ (change : Change) (p : KeyCall K V Q) (f : CallFacts same hash asks w caller setting c blocks keys change p) where
    unchanged_at : (stands : Calling) → p.stands ≡ stands → Seeks same hash asks w caller setting c blocks keys change stands → change ≡ Unchanged
    unchanged_at stands here so = f.unchanged (subst (λ (x : Calling). Seeks same hash asks w caller setting c blocks keys change x) (sym here) so)

    may_at : (stands : Calling) → p.stands ≡ stands → CallingFacts same hash asks w caller setting c blocks keys change p stands
        → ((IsCopying stands → ⊥) → IsIdle same hash w caller setting c blocks) → (IsRowOfCall stands → ⊥) → MayAt p stands
    may_at at.Makes here point idle none = may_unchanged p at.Makes here tt none change (unchanged_at at.Makes here tt) f
    may_at (at.Looks l) here point idle none = may_unchanged p (at.Looks l) here tt none change (unchanged_at (at.Looks l) here tt) f
    may_at at.Roots here point idle none = may_unchanged p at.Roots here tt none change (unchanged_at at.Roots here tt) f
    may_at at.Probes here point idle none = may_unchanged p at.Probes here tt none change (unchanged_at at.Probes here tt) f
    may_at (at.Tries word new) here point idle none = may_unchanged p (at.Tries word new) here tt none change (unchanged_at (at.Tries word new) here tt) f
    may_at at.Nexts here point idle none = may_unchanged p at.Nexts here tt none change (unchanged_at at.Nexts here tt) f
    may_at (at.Firsts making) here point idle none = may_unchanged p (at.Firsts making) here tt none change (unchanged_at (at.Firsts making) here tt) f
    may_at (at.Allocs making) here point idle none = may_unchanged p (at.Allocs making) here tt none change (unchanged_at (at.Allocs making) here tt) f
    may_at (at.Helps copier goal) here point idle none = may_unchanged p (at.Helps copier goal) here tt none change (unchanged_at (at.Helps copier goal) here tt) f
    may_at (at.Copies copier) here point idle none = may_unchanged p (at.Copies copier) here tt none change (unchanged_at (at.Copies copier) here tt) f
    may_at (at.Asks asking) here point idle none = may_unchanged p (at.Asks asking) here tt none change (unchanged_at (at.Asks asking) here tt) f
    may_at (at.Drops over) here point idle none = may_unchanged p (at.Drops over) here tt none change (unchanged_at (at.Drops over) here tt) f
    may_at (at.Counts removed) here point idle none = may_counts same hash asks caller setting keys fits w c blocks map change p f (idle (λ h. h)) removed
    may_at (at.Disposes dispose answer) here point idle none =
        may_disposes w.memory p dispose answer (may_dispose same hash setting w caller c blocks map dispose point.0 none)
    may_at (at.Over end) here point idle none = tt

    pub may_call : (IsRowOfCall p.stands → ⊥) → May Can Took value_at w.memory (call_plan asks same hash p)
    may_call none = may_at p.stands refl f.point f.idle none

    module _ (m2 : Mem (Node K V)) (end : KeyCall K V Q × Called (Node K V)) where
      went_at : (stands : Calling) → p.stands ≡ stands → CallingFacts same hash asks w caller setting c blocks keys change p stands
          → ((IsCopying stands → ⊥) → IsIdle same hash w caller setting c blocks) → (IsRowOfCall stands → ⊥) → StepsAt p stands m2 end → WentTo change p m2 end
      went_at at.Makes here point idle none s = went_unchanged p at.Makes here tt none m2 end change (unchanged_at at.Makes here tt) f s
      went_at (at.Looks l) here point idle none s = went_unchanged p (at.Looks l) here tt none m2 end change (unchanged_at (at.Looks l) here tt) f s
      went_at at.Roots here point idle none s = went_unchanged p at.Roots here tt none m2 end change (unchanged_at at.Roots here tt) f s
      went_at at.Probes here point idle none s = went_unchanged p at.Probes here tt none m2 end change (unchanged_at at.Probes here tt) f s
      went_at (at.Tries word new) here point idle none s = went_unchanged p (at.Tries word new) here tt none m2 end change (unchanged_at (at.Tries word new) here tt) f s
      went_at at.Nexts here point idle none s = went_unchanged p at.Nexts here tt none m2 end change (unchanged_at at.Nexts here tt) f s
      went_at (at.Firsts making) here point idle none s = went_unchanged p (at.Firsts making) here tt none m2 end change (unchanged_at (at.Firsts making) here tt) f s
      went_at (at.Allocs making) here point idle none s = went_unchanged p (at.Allocs making) here tt none m2 end change (unchanged_at (at.Allocs making) here tt) f s
      went_at (at.Helps copier goal) here point idle none s = went_unchanged p (at.Helps copier goal) here tt none m2 end change (unchanged_at (at.Helps copier goal) here tt) f s
      went_at (at.Copies copier) here point idle none s = went_unchanged p (at.Copies copier) here tt none m2 end change (unchanged_at (at.Copies copier) here tt) f s
      went_at (at.Asks asking) here point idle none s = went_unchanged p (at.Asks asking) here tt none m2 end change (unchanged_at (at.Asks asking) here tt) f s
      went_at (at.Drops over) here point idle none s = went_unchanged p (at.Drops over) here tt none m2 end change (unchanged_at (at.Drops over) here tt) f s
      went_at (at.Counts removed) here point idle none s = went_counts same hash asks caller setting keys fits w c blocks map change p f (idle (λ h. h)) removed point m2 end s
      went_at (at.Disposes dispose answer) here point idle none s =
          went_disposes same hash asks caller setting keys w c blocks map change p f (idle (λ h. h)) dispose answer point.1
          (λ n out t. went_dispose same hash setting w caller c blocks map dispose point.0 none n out t) m2 end s
      went_at (at.Over over) here point idle none s = went_over same hash asks caller setting keys w c blocks map change p f over here m2 end s

      pub went_call : (IsRowOfCall p.stands → ⊥) → Steps Took value_at w.memory (call_plan asks same hash p) m2 end
          → StepSpec same hash setting caller w c blocks m2 (λ w2 c2 blocks2. CallOutcome same hash asks caller setting keys c change p w2 c2 blocks2 end.0 end.1)
      went_call none s = went_at p.stands refl f.point f.idle none s
