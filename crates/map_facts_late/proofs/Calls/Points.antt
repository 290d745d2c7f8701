-- Each step of a call in a table that the root has left, if it is none of a row of the collector: it may be taken, and where it leads.
use Rattle.std.specs.Prelude.{◌≡◌, ℕ, suc, ◌<◌, Bool, false, Some, None}
use Rattle.std.specs.Int.{IsPowerOfTwo}
use Rattle.std.proofs.Common.{refl, sym, subst}
use Rattle.map_facts.specs.Given.SeizeWordsDeclared.at.At.TheVariants.{Word}
use Rattle.map_facts.specs.Given.SeizeWordsMem.{Mem, value_at, Can, Took}
use Rattle.map_facts.specs.Given.SeizeWordsPlan.{May, Steps}
use Rattle.map_facts.specs.Given.SeizeWorld.{World}
use Rattle.map_facts.specs.Given.TablesChunks.{is_incremental}
use Rattle.map_facts.specs.Given.TablesDeclared.node.Node.{Node}
use Rattle.map_facts.specs.Given.TablesDeclared.setting.Setting.{Setting}
use Rattle.map_facts.specs.Given.TablesDeclared.table_words.TheConstants.{NEXT}
use Rattle.map_facts.specs.Given.RawCall.{plan_at, call_plan}
use Rattle.map_facts.specs.Given.RawDeclared.machines.answer.Called.{Called}
use Rattle.map_facts.specs.Given.RawDeclared.machines.asking.Asking.TheVariants as asking
use Rattle.map_facts.specs.Given.RawDeclared.machines.call.KeyCall.{KeyCall}
use Rattle.map_facts.specs.Given.RawDeclared.machines.call.Calling.{Calling}
use Rattle.map_facts.specs.Given.RawDeclared.machines.call.Calling.TheVariants as at
use Rattle.map_facts.specs.Given.RuleChart.{Chart}
use Rattle.map_facts.specs.Given.RuleWords.{Blocks}
use Rattle.map_facts.specs.Given.RuleInWorld.{IsMapIn}
use Rattle.map_facts.specs.Given.RuleMoments.{Moments}
use Rattle.map_facts.specs.FactsCalls.{IsCopying}
use Rattle.map_facts.specs.Steps.{AreLawful}
use Rattle.map_facts.specs.Told.{IsRowOfCall}
use Rattle.map_facts.proofs.Calls.CallsOn.{Seeking}
use Rattle.map_facts.proofs.Calls.FillSteps.{may_fills, may_gives_up}
use Rattle.map_facts.proofs.Calls.Holdings.{looks_with, pair_some}
use Rattle.map_facts.proofs.Calls.May.{may_looks, may_firsts, may_allocs, may_copies}
use Rattle.map_facts.proofs.Calls.Probes.{may_probes}
use Rattle.map_facts.proofs.Calls.Tries.{may_tries}
use Rattle.map_facts.proofs.Lookups.LooksAsked.{class_asked}
use Rattle.map_facts.proofs.Making.NewTable.{may_new_table, went_new_table}
use Rattle.map_facts_late.specs.Left.{ClaimsAreFew}
use Rattle.map_facts_late.specs.LateCalls.{Its, SupersededCalling, SupersededCallFacts}
use Rattle.map_facts_late.specs.LateSteps.{SupersededCopiersPreserveTheMap, SupersededCallsPreserveTheMap}
use Rattle.map_facts_late.proofs.Looks.Asked.{lookup_asked, told_asked}
use Rattle.map_facts_late.proofs.Looks.Points.{may_lookup, went_lookup}
use Rattle.map_facts_late.proofs.Calls.Fills.{went_asks, went_fills, went_gives_up}
use Rattle.map_facts_late.proofs.Calls.LatesOn.{LateWent, seeking_late, still_late}
use Rattle.map_facts_late.proofs.Calls.Making.{went_allocs, went_firsts}
use Rattle.map_facts_late.proofs.Firsts.{may_first}
use Rattle.map_facts_late.proofs.Calls.Tables.{may_nexts, next_made, went_nexts}
use Rattle.map_facts_late.proofs.Calls.Tries.{went_probes, went_tries}
use Rattle.map_facts_late.proofs.Calls.Within.{went_looks, went_copies}

module _ {K V Q : Type 0} (same : K → K → Bool) (hash : K → ℕ) (asks : Q → K → Bool) (copiers : SupersededCopiersPreserveTheMap V same hash) (are : AreLawful same hash)
    (setting : Setting) (initial_is : IsPowerOfTwo setting.initial) (alone : is_incremental setting.mode ≡ false) (w : World (Node K V)) (caller : ℕ) (c : Chart K) (blocks : Blocks)
    (keys : K → Bool) (began : ℕ) (p : KeyCall K V Q) (map : IsMapIn same hash setting w c blocks) (moments : Moments false c) (few : ClaimsAreFew c)
    (f : SupersededCallFacts same hash asks w caller setting c blocks keys began p) where
  abbrev Point : Calling → Type 0
  Point stands = SupersededCalling same hash asks w caller setting c blocks keys began p stands

  seeks : Its same hash asks w caller setting c blocks keys began p → Seeking same hash asks caller setting keys w c blocks p
  seeks own = seeking_late same hash asks caller setting alone keys began w c blocks p f own

  may_at : (stands : Calling) → Point stands → (IsRowOfCall stands → ⊥) → May Can Took value_at w.memory (plan_at asks same hash p stands)
  may_at (at.Looks l) point none =
      may_looks w.memory p asks l point.3 point.4
      (may_lookup same hash are.lawful are.fits setting.mode alone setting.root (asks point.3) p.hash
      (class_asked same hash setting.mode setting.root keys (asks point.3) point.5 p.hash f.class) w.memory c blocks map.map moments began l
      (lookup_asked same hash setting.mode setting.root keys (asks point.3) point.5 p.hash c blocks began l point.6))
  may_at at.Probes (own, (t, j, trial, before, left)) none = may_probes same hash asks caller setting keys are.fits w c blocks map p (seeks own) t j trial
  may_at (at.Tries word new) (own, (t, j, trial, before, left), may) none =
      may_tries same hash asks caller setting keys are.lawful are.fits w c blocks map p (seeks own) t j trial word new
  may_at at.Nexts (own, t, entered, left) none = may_nexts same hash asks caller setting alone keys began are.lawful w c blocks map p t entered
  may_at (at.Firsts making) (own, puts, facts) none =
      may_firsts w.memory p making (may_first same hash caller setting began w c blocks map making facts)
  may_at (at.Allocs making) (own, t, entered, left, facts) none =
      may_allocs w.memory p making (may_new_table same hash w setting c blocks map caller (Word (blocks.table t) NEXT) (suc t) initial_is making facts)
  may_at (at.Copies copier) (own, facts) none = may_copies w.memory p hash copier (copiers are setting initial_is alone w caller c blocks began copier map moments few facts none).0
  may_at at.Makes point none = absurd point
  may_at at.Roots point none = absurd point
  may_at (at.Counts removed) point none = absurd point
  may_at (at.Helps copier goal) point none = absurd point
  may_at (at.Disposes dispose answer) point none = absurd point
  may_at (at.Asks (asking.Absent gap)) point none = tt
  may_at (at.Asks (asking.Present word)) point none = tt
  may_at (at.Asks (asking.Fills word)) (held, by_reply, told, may, try) none = may_fills same hash asks caller setting keys w c blocks map p f.may f.code word by_reply told.0 told.1 held
  may_at (at.Asks (asking.GivesUp word)) (its, by_reply, some, names, try) none =
      may_gives_up same hash asks caller setting keys w c blocks map p f.may f.code word by_reply (pair_some same hash asks caller setting keys w c blocks p by_reply some its).2
  may_at (at.Drops end) point none = absurd point
  may_at (at.Over end) point none = absurd point

  module _ (m2 : Mem (Node K V)) (end : KeyCall K V Q × Called (Node K V)) where
    abbrev WentTo : Type 0
    WentTo = LateWent same hash asks caller setting alone keys began w c blocks p m2 end

    went_at : (stands : Calling) → p.stands ≡ stands → Point stands → (IsRowOfCall stands → ⊥) → Steps Took value_at w.memory (plan_at asks same hash p stands) m2 end → WentTo
    went_at (at.Looks l) here point none s =
        still_late same hash asks caller setting alone keys began w c blocks p m2 end map
        (went_looks same hash asks caller setting alone keys began w c blocks p
        (seeks (looks_with same hash asks caller setting keys w c blocks p f.may.0 point.2 point.1 (point.0, point.3, point.4, point.5))) l point
        (λ n found t. (let told = went_lookup same hash are.lawful are.fits setting.mode alone setting.root (asks point.3) p.hash
        (class_asked same hash setting.mode setting.root keys (asks point.3) point.5 p.hash f.class) w.memory c blocks map.map moments began l
        (lookup_asked same hash setting.mode setting.root keys (asks point.3) point.5 p.hash c blocks began l point.6) n found t in
        (told.0, told_asked same hash setting.mode setting.root (asks point.3) keys (λ k. sym (point.5 k)) p.hash c blocks began found told.1))) m2 end s)
    went_at at.Probes here (own, (t, j, trial, before, left)) none s =
        still_late same hash asks caller setting alone keys began w c blocks p m2 end map
        (went_probes same hash asks caller setting alone keys began are.lawful are.fits w c blocks map moments p (seeks own) t j trial before left m2 end s)
    went_at (at.Tries word new) here (own, (t, j, trial, before, left), may) none s =
        still_late same hash asks caller setting alone keys began w c blocks p m2 end map
        (went_tries same hash asks caller setting alone keys began are.lawful are.fits w c blocks map moments p (seeks own) t j trial before left word new may m2 end s)
    went_at at.Nexts here (own, t, entered, left) none s =
        still_late same hash asks caller setting alone keys began w c blocks p m2 end map
        (went_nexts same hash asks caller setting alone keys began are.lawful w c blocks map p t entered moments (seeks own) left m2 end s)
    went_at (at.Firsts making) here (own, puts, facts) none s = went_firsts same hash asks caller setting alone keys began are.lawful w c blocks map p (seeks own) making facts m2 end s
    went_at (at.Allocs making) here (own, t, entered, left, facts) none s =
        let next : suc t < c.past = next_made same hash asks caller setting alone keys began are.lawful w c blocks map p t entered moments (seeks own) left in
        went_allocs same hash asks caller setting alone keys began are.lawful w c blocks map p (seeks own) making m2 end t entered left (moments.next_from refl t next left.was_root) next
        (λ n made u. went_new_table same hash w setting c blocks map caller (Word (blocks.table t) NEXT) (suc t) initial_is are.lawful making facts n made u) s
    went_at (at.Copies copier) here (own, facts) none s =
        went_copies same hash asks caller setting alone keys began w c blocks p (seeks own) are.lawful copier (subst IsCopying (sym here) tt) m2 end
        (λ n out u. (copiers are setting initial_is alone w caller c blocks began copier map moments few facts none).1 n out u) s
    went_at at.Makes here point none s = absurd point
    went_at at.Roots here point none s = absurd point
    went_at (at.Counts removed) here point none s = absurd point
    went_at (at.Helps copier goal) here point none s = absurd point
    went_at (at.Disposes dispose answer) here point none s = absurd point
    went_at (at.Asks (asking.Absent gap)) here point none s = went_asks same hash asks caller setting alone keys began w c blocks map p f (asking.Absent gap) None here m2 end s
    went_at (at.Asks (asking.Present word)) here point none s = went_asks same hash asks caller setting alone keys began w c blocks map p f (asking.Present word) (Some word) here m2 end s
    went_at (at.Asks (asking.Fills word)) here (held, by_reply, told, may, try) none s =
        went_fills same hash asks caller setting alone keys began w c blocks map p f word by_reply try may told.0 told.1 held m2 end s
    went_at (at.Asks (asking.GivesUp word)) here (its, by_reply, some, names, try) none s =
        went_gives_up same hash asks caller setting alone keys began w c blocks map p f word by_reply try (pair_some same hash asks caller setting keys w c blocks p by_reply some its) names m2 end s
    went_at (at.Drops over) here point none s = absurd point
    went_at (at.Over over) here point none s = absurd point

  pub may_call : (IsRowOfCall p.stands → ⊥) → May Can Took value_at w.memory (call_plan asks same hash p)
  may_call none = may_at p.stands f.point none

  pub went_call : (IsRowOfCall p.stands → ⊥) → (m2 : Mem (Node K V)) (end : KeyCall K V Q × Called (Node K V)) → Steps Took value_at w.memory (call_plan asks same hash p) m2 end
      → LateWent same hash asks caller setting alone keys began w c blocks p m2 end
  went_call none m2 end s = went_at m2 end p.stands refl f.point none s

module _ {K Q : Type 0} (V : Type 0) (same : K → K → Bool) (hash : K → ℕ) (asks : Q → K → Bool) where
  -- if copiers do
  pub late_calls_keep_the_map : SupersededCopiersPreserveTheMap V same hash → SupersededCallsPreserveTheMap V same hash asks
  late_calls_keep_the_map copiers are setting initial_is w caller c blocks keys began p map moments few f none =
      let m : Moments false c = subst (λ (b : Bool). Moments b c) f.blocking moments in (
        may_call same hash asks copiers are setting initial_is f.blocking w caller c blocks keys began p map m few f none,
        λ m2 p2 progress s. went_call same hash asks copiers are setting initial_is f.blocking w caller c blocks keys began p map m few f none m2 (p2, progress) s,
      )
