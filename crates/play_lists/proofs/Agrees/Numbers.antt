-- Wherever a list of acts has led, nothing is there of a number with which no map has come; and where numbers come again, of one that was given back.
use Rattle.std.specs.Prelude.{◌≢◌, ◌⊎◌, ◌==◌, find, Option, Some, None, is_ok, length, if◌then◌else◌}
use Rattle.std.specs.List.{AllByRecursion}
use Rattle.std.proofs.Common.{◌≡◌, ℕ, Bool, true, false, List, [], ◌∷◌, inl, inr, refl, ap, sym, subst, ◌∙◌}
use Rattle.std.proofs.lemmas.Bool.{cases_eq}
use Rattle.seize_acts.specs.Acts.Answers.{Grant, stepped}
use Rattle.run_schedules.specs.Given.SeizeWordsMem.{Mem}
use Rattle.run_schedules.specs.Given.SeizeWordsPlan.{Plan}
use Rattle.seize.specs.ReclaimAll.{reclaim_all_plan}
use Rattle.seize.specs.World.{with_at}
use Rattle.seize.specs.declared.advance.Advance.{Advance}
use Rattle.seize.specs.declared.advance.Advance.TheVariants as progress
use Rattle.seize.specs.declared.rows.settle.Settled.{Settled}
use Rattle.map_tables.specs.Nodes.{deferred_word, was_left}
use Rattle.map_tables.specs.declared.node.Node.{Node}
use Rattle.map_tables.specs.declared.setting.Setting.{Setting}
use Rattle.run_kept.specs.Given.ResizeNewMap.{new_map_plan, opening}
use Rattle.run_finds.specs.Given.ResizeDeclared.new_map.NewMap.{NewMap}
use Rattle.run_schedules.specs.Given.RawEndMap.{end_map_plan, ending}
use Rattle.run_finds.specs.Given.RawMachine.{machine_asked, machine_plan, machine_replied}
use Rattle.run_finds.specs.Given.RawDeclared.machines.end_map.EndMap.{EndMap}
use Rattle.run_finds.specs.Given.TellerTells.{StepsObserved}
use Rattle.run_kept.specs.Given.EffectsDeclared.changed.Changed.{Changed}
use Rattle.run_kept.specs.Given.EffectsDeclared.changed.Changed.TheVariants.{Nothing as NoChange}
use Rattle.many_acts.specs.Given.FinishesMaps.{with_call}
use Rattle.many_acts.proofs.Given.CallersTogether.At.{at_other, at_same}
use Rattle.many_acts.specs.Given.ScenesReplying.{unless_stopped}
use Rattle.many_acts.specs.Given.ScenesScene.{row_of, slot_of}
use Rattle.run_schedules.specs.Runs.Same.{is_same}
use Rattle.run_schedules.specs.Schedules.Moment.{UnderWay}
use Rattle.run_schedules.specs.declared.outcome.Outcome.{Outcome}
use Rattle.run_schedules.specs.declared.outcome.Outcome.TheVariants as outcome
use Rattle.run_kept.specs.Given.EffectsEffects.{effects_of, known_after}
use Rattle.run_kept.specs.Given.EffectsDeclared.acting.Acting.{Acting}
use Rattle.run_kept.specs.Given.EffectsDeclared.acting.Acting.TheVariants as acting
use Rattle.run_finds.specs.Given.NamedSeen.{kind_of}
use Rattle.many_acts.specs.Acts.Acts.{Act, Answer, OfAsking, OfCall, OfEnding, OfMaking, OfReclaiming, OfReply, Nothing, BeginsCall, StepsCall, TellsCall, AsksCall, StopsCall, BeginsMaking, StepsMaking, BeginsEnding, StepsEnding, BeginsRow, StepsRow}
use Rattle.many_acts.specs.Acts.AsSteps.{changed_of, row_changed}
use Rattle.many_acts.proofs.Acts.AsSteps.Told.{was_told}
use Rattle.run_schedules.specs.Deeds.Deeds.{Deed, Begins, Steps, Replies, Stops, MapFails, ReclaimsAll, Entry, acted_on, at_work, map_of_call, maps_on, moment, named, worked as worked_on}
use Rattle.play_lists.specs.Played.Play.{Calling, Ending, Making, Now, State, all_on, begun_call, call_for, did, ended_on, ending_deed, first_state, going, has_root, is_over, is_refusal, made_on, making_deed, making_outcome, outcome_of, reply_for, row_deed, row_on, row_outcome, settled_outcome, replied_call, worked}
use Rattle.play_lists.proofs.Played.Along.{StaysSo}
use Rattle.play_lists.proofs.Played.Noted.{Anything, CallsAreNoted, IsNoted, notes_stay}
use Rattle.play_lists.proofs.Played.PlayedAs.{PlayedAs, ReclaimedAs, played_as, reclaimed_as}
use Rattle.play_lists.specs.Agrees.Fresh.{AreNamed, IsBare, IsFresh, gives_back, in_use}
use Rattle.play_lists.proofs.Agrees.Bare.{WritesNone, bare_writes, is_bare, rootless_bare, spares}
use Rattle.play_lists.proofs.Agrees.Elsewhere.{AllLinkElsewhere, acting_elsewhere, reclaiming_elsewhere, rows_elsewhere}
use Rattle.play_lists.proofs.Agrees.Fresh.{ActsElsewhere, AnyTable, BeginsElsewhere, IsElsewhere, OnOther, acts_elsewhere, entry_bare, entry_fresh, fresh_first, not_in_use, now_in_use, still_in_use, was_not}
use Rattle.play_lists.proofs.Agrees.Known.{MakesSome, NoneAtZero, none_then, step_makes}
use Rattle.play_lists.proofs.Agrees.Lists.{found_so}
use Rattle.play_lists.proofs.Agrees.Names.{none_gone, worked_named}
use Rattle.play_lists.proofs.Agrees.Openings.{IsRefused, comes_then, done_rooted, ending_acts, ending_begins_none, ending_keeps_numbers, gives_its, keeps_number, keeps_other, making_acts, making_begins_none, root_kept, rootless_quiet}
use Rattle.play_lists.proofs.Agrees.Told.{OfNoMap, all_make, all_say, reclaims_all, row_makes, row_of_no_map, row_says}
use Rattle.run_finds.proofs.Given.General.{same_some}

-- at one number there is this then
pub with_each : {X : Type 0} (f : ℕ → Option X) (i : ℕ) (next : Option X) (P : ℕ → X → Type 0) → ((x : X) → next ≡ Some x → P i x) → ((j : ℕ) (x : X) → j ≢ i → f j ≡ Some x → P j x) → (j : ℕ) (x : X)
    → with_at f i next j ≡ Some x → P j x
with_each f i next P own others j x is = by (cases_eq j i)
  where
    by : (j ≡ i) ⊎ (j ≢ i) → P j x
    by (inl e) = subst (λ (k : ℕ). P k x) (sym e) (own x (sym (at_same f i next j e) ∙ is))
    by (inr ne) = others j x ne (sym (at_other f i next j ne) ∙ is)

pub with_so : {X : Type 0} (f : ℕ → Option X) (i : ℕ) (next : Option X) (P : ℕ → X → Type 0) → ((x : X) → next ≡ Some x → P i x) → ((j : ℕ) (x : X) → f j ≡ Some x → P j x) → (j : ℕ) (x : X)
    → with_at f i next j ≡ Some x → P j x
with_so f i next P own others = with_each f i next P own (λ j x ne is. others j x is)

module _ {K V S : Type 0} (again : Bool) where
  -- maps that stand have come, those that are made since their root is taken, and those that end
  abbrev pub MapsHaveCome : Now K V S → List (Entry K V) → Type 0
  MapsHaveCome now log = (m : ℕ) (at : Setting × S) → now.maps m ≡ Some at → in_use again m log ≡ true

  abbrev pub MadeHaveCome : Now K V S → List (Entry K V) → Type 0
  MadeHaveCome now log = (i : ℕ) (b : Making S) → now.makers i ≡ Some b → has_root b.machine.stands ≡ true → in_use again b.map log ≡ true

  abbrev pub EndedHaveCome : Now K V S → List (Entry K V) → Type 0
  EndedHaveCome now log = (i : ℕ) (f : Ending) → now.enders i ≡ Some f → in_use again f.map log ≡ true

  pub record NumbersHold (x : State K V S) : Type 0 where
    pub none : NoneAtZero x.known
    pub fresh : (n : ℕ) → in_use again n x.history ≡ false → IsFresh n (moment x.history)
    pub maps : MapsHaveCome x.now x.history
    pub made : MadeHaveCome x.now x.history
    pub ended : EndedHaveCome x.now x.history

module _ {K V S : Type 0} (x : State K V S) where
  -- Of a map whose number may come again: nothing is there before it has a table, no other one has the number, and each map has its number as its name.
  pub record MayFail (i : ℕ) (b : Making S) : Type 0 where
    pub bare : is_bare b.machine.stands ≡ true → IsBare b.map (moment x.history)
    pub no_map : (m : ℕ) (at : Setting × S) → x.now.maps m ≡ Some at → b.map ≢ m
    pub no_other : (j : ℕ) (d : Making S) → j ≢ i → x.now.makers j ≡ Some d → b.map ≢ d.map
    pub no_end : (j : ℕ) (f : Ending) → x.now.enders j ≡ Some f → b.map ≢ f.map
    pub names : AreNamed (moment x.history)

  -- where numbers come again, it is so of each that is made
  abbrev pub MakesMayFail : Bool → Act K V S → Type 0
  MakesMayFail again (StepsMaking i g) = again ≡ true → (b : Making S) → x.now.makers i ≡ Some b → MayFail i b
  MakesMayFail again act = Unit {0}

  -- what is done with an operation
  abbrev pub entry : Acting → Changed → Deed K V → Outcome V → Entry K V
  entry who told d o = record { deed = d; outcome = o; effects = effects_of who x.known told; refused = is_refusal told }

  -- A step of a call is on the map of the call.
  pub call_else : CallsAreNoted x → (i m : ℕ) (c : Calling K V) → x.now.calls m i ≡ Some c → (told : Changed) (o : Outcome V) (n : ℕ) → AllByRecursion (OnOther n) (moment x.history).calls
      → IsElsewhere n (entry (acting.Call i m) told (Steps i) o) (moment x.history)
  call_else noted i m c has told o n others =
      let its : IsNoted (moment x.history) m i c.call = noted m i c has in
      let elsewhere = (found_so (OnOther n) (λ u. is_same u.caller (named i)) (moment x.history).calls its.0 others its.1).0 in
      record {
        begins = tt;
        acts = acts_elsewhere n (acted_on {K = K} {V = V} (Steps i) (moment x.history)) (effects_of (acting.Call i m) x.known told)
            (λ e. elsewhere (same_some its.0.map n (sym (ap (λ (o : Option (UnderWay K V)). map_of_call o) its.1) ∙ e)));
        links = acting_elsewhere n AnyTable (acting.Call i m) (λ e. elsewhere (its.2 ∙ e)) x.known (λ b u len is. tt) told;
      }

  -- A step of the end of a map is on that.
  pub ending_else : {T : Type 0} (f : Ending) (said : Settled T) (told : Changed) (o : Outcome V) (n : ℕ) → f.map ≢ n → IsElsewhere n (entry (acting.Ending f.map) told (ending_deed f said) o) (moment x.history)
  ending_else f said told o n ne =
      let e = entry (acting.Ending f.map) told (ending_deed f said) o in
      record {
        begins = ending_begins_none K V f said n;
        acts = acts_elsewhere n (acted_on e.deed (at_work e (moment x.history))) (effects_of (acting.Ending f.map) x.known told)
            (λ is. ne (same_some f.map n (sym (ending_acts K V f said (at_work e (moment x.history))) ∙ is)));
        links = acting_elsewhere n AnyTable (acting.Ending f.map) ne x.known (λ b u len is. tt) told;
      }

  -- A step of no map.
  pub no_map_else : (told : Changed) (d : Deed K V) (o : Outcome V) → OfNoMap d → (n : ℕ) → AllLinkElsewhere n AnyTable (effects_of acting.Row x.known told)
      → IsElsewhere n (entry acting.Row told d o) (moment x.history)
  no_map_else told d o none n links = record {
    begins = none.begins n;
    acts = acts_elsewhere n (acted_on d (at_work (entry acting.Row told d o) (moment x.history))) (effects_of acting.Row x.known told)
        (λ is. let both : None ≡ Some n = sym (none.acts (at_work (entry acting.Row told d o) (moment x.history))) ∙ is in cc both);
    links = links;
  }

  -- A step of a making is on its map, and before it has a root on none; and one that writes none is so, on its map, too.
  module _ (b : Making S) (next : NewMap) (told : Changed) (o : Outcome V) (n : ℕ) where
    abbrev made_deed : Deed K V
    made_deed = making_deed b.map b.machine next

    pub making_else : b.map ≢ n → IsElsewhere n (entry (acting.Making b.map) told made_deed o) (moment x.history)
    making_else ne =
        let e = entry (acting.Making b.map) told made_deed o in
        record {
          begins = making_begins_none K V b.map b.machine next n;
          acts = acts_elsewhere n (acted_on e.deed (at_work e (moment x.history))) e.effects
              (λ is. ne (same_some b.map n (sym (making_acts K V b.map b.machine next (at_work e (moment x.history))) ∙ is)));
          links = acting_elsewhere n AnyTable (acting.Making b.map) ne x.known (λ b u len is. tt) told;
        }

    pub bare_else : WritesNone told → IsElsewhere n (entry (acting.Making b.map) told made_deed o) (moment x.history)
    bare_else writes =
        let e = entry (acting.Making b.map) told made_deed o in
        let both = spares n (acted_on e.deed (at_work e (moment x.history))) (acting.Making b.map) x.known told writes in
        record { begins = making_begins_none K V b.map b.machine next n; acts = both.0; links = both.1 }

module _ {K V S : Type 0} (again : Bool) (x : State K V S) (here : NumbersHold again x) where
  -- one that is in use is another number
  other : (m n : ℕ) → in_use again m x.history ≡ true → in_use again n x.history ≡ false → m ≢ n
  other m n come not e = (let same : in_use again m x.history ≡ in_use again n x.history = ap (λ (k : ℕ). in_use again k x.history) e in cc (come, not, same))

  -- an entry of other numbers than those that are not in use, which gives none back
  abbrev AllElse : Entry K V → Type 0
  AllElse e = (n : ℕ) → in_use again n x.history ≡ false → IsElsewhere n e (moment x.history)

  abbrev KeepsAll : Entry K V → Type 0
  KeepsAll e = (n : ℕ) → gives_back again n e.deed ≡ false

  one_more : (e : Entry K V) → KeepsAll e → AllElse e → (n : ℕ) → in_use again n (e ∷ x.history) ≡ false → IsFresh n (moment (e ∷ x.history))
  one_more e keeps so n not = let was = was_not again n e x.history (keeps n) not in entry_fresh n e (moment x.history) was.0 (so n was.1) (here.fresh n was.1)

  maps_kept : (e : Entry K V) → KeepsAll e → MapsHaveCome again x.now (e ∷ x.history)
  maps_kept e keeps m at has = still_in_use again m e x.history (keeps m) (here.maps m at has)

  made_kept : (e : Entry K V) → KeepsAll e → MadeHaveCome again x.now (e ∷ x.history)
  made_kept e keeps i b has rooted = still_in_use again b.map e x.history (keeps b.map) (here.made i b has rooted)

  ended_kept : (e : Entry K V) → KeepsAll e → EndedHaveCome again x.now (e ∷ x.history)
  ended_kept e keeps i f has = still_in_use again f.map e x.history (keeps f.map) (here.ended i f has)

  -- What is done with no operation, if it is done.
  did_so : (taken : Bool) (d : Deed K V) (o : Outcome V) (a : Answer K V) (calls2 : ℕ → ℕ → Option (Calling K V)) → ((n : ℕ) → gives_back again n d ≡ false)
      → ((n : ℕ) → in_use again n x.history ≡ false → BeginsElsewhere n d) → NumbersHold again (did taken d o a (record x.now { calls = calls2 }) x)
  did_so false d o a calls2 keeps begins = record { none = here.none; fresh = here.fresh; maps = here.maps; made = here.made; ended = here.ended }
  did_so true d o a calls2 keeps begins =
      let e : Entry K V = record { deed = d; outcome = o; effects = []; refused = false } in
      record {
        none = here.none;
        fresh = one_more e keeps (λ n not. record { begins = begins n not; acts = tt; links = tt });
        maps = maps_kept e keeps;
        made = made_kept e keeps;
        ended = ended_kept e keeps;
      }

  -- what is done with one
  worked_so : (who : Acting) (told : Changed) (d : Deed K V) (o : Outcome V) (a : Answer K V) (now : Now K V S) → MakesSome told
      → ((n : ℕ) → in_use again n (entry x who told d o ∷ x.history) ≡ false → IsFresh n (moment (entry x who told d o ∷ x.history)))
      → MapsHaveCome again now (entry x who told d o ∷ x.history) → MadeHaveCome again now (entry x who told d o ∷ x.history) → EndedHaveCome again now (entry x who told d o ∷ x.history)
      → NumbersHold again (worked who told d o a now x)
  worked_so who told d o a now makes fresh maps made ended = record { none = none_then who x.known here.none told makes; fresh = fresh; maps = maps; made = made; ended = ended }

  -- The step of a making.
  module _ (i : ℕ) (b : Making S) (has : x.now.makers i ≡ Some b) (may : again ≡ true → MayFail x i b) (g : Grant) (end : Mem (Node K V) × (NewMap × Advance Setting))
      (came : stepped x.now.memory g (new_map_plan {K = K} {V = V} b.machine) ≡ Some end) where
    abbrev change : Changed
    change = changed_of x.now.memory g (new_map_plan {K = K} {V = V} b.machine)

    abbrev made_entry : Entry K V
    made_entry = entry x (acting.Making b.map) change (making_deed b.map b.machine end.1.0) (making_outcome end.1.1)

    abbrev log_then : List (Entry K V)
    log_then = made_entry ∷ x.history

    keeps : (n : ℕ) → (again ≡ true → b.map ≢ n) → gives_back again n made_entry.deed ≡ false
    keeps n ne = keeps_other K V b.map b.machine end.1.0 again n ne

    made_else : AllElse made_entry
    made_else n not = by (has_root b.machine.stands) refl
      where
        by : (q : Bool) → has_root b.machine.stands ≡ q → IsElsewhere n made_entry (moment x.history)
        by false e =
            let quiet = rootless_quiet b.machine x.now.memory end.0 change end.1 b.machine.stands e (was_told x.now.memory g (new_map_plan {K = K} {V = V} b.machine) end came) (acting.Making b.map) x.known in
            record {
              begins = making_begins_none K V b.map b.machine end.1.0 n;
              acts = subst (ActsElsewhere n (acted_on made_entry.deed (at_work made_entry (moment x.history)))) (sym quiet) tt;
              links = subst (AllLinkElsewhere n AnyTable) (sym quiet) tt;
            }
        by true e = making_else x b end.1.0 change (making_outcome end.1.1) n (other b.map n (here.made i b has e) not)

    -- where its number is given back, nothing is there of it
    fresh_again : (again ≡ true) → has_root end.1.0.stands ≡ false → made_entry.deed ≡ MapFails b.map → IsFresh b.map (moment log_then)
    fresh_again comes none deed =
        let it = may comes in
        let m = moment x.history in
        let before = bare_writes x.now.memory end.0 change b.machine end.1 (was_told x.now.memory g (new_map_plan {K = K} {V = V} b.machine) end came) (rootless_bare end.1.0.stands none) in
        record {
          no_map = ap (λ (d : Deed K V). find (λ f. f.number == b.map) (maps_on d (worked_on made_entry m).maps)) deed
              ∙ none_gone b.map (worked_on made_entry m).maps (worked_named made_entry m it.names);
          bare = entry_bare b.map made_entry m (bare_else x b end.1.0 change (making_outcome end.1.1) b.map before.1) (it.bare before.0);
        }

    fresh_then : (n : ℕ) → in_use again n log_then ≡ false → IsFresh n (moment log_then)
    fresh_then n not = by (not_in_use again n made_entry x.history not).1
      where
        by : (gives_back again n made_entry.deed ≡ true) ⊎ (in_use again n x.history ≡ false) → IsFresh n (moment log_then)
        by (inl gives) =
            let its = gives_its K V b.map b.machine end.1.0 again n gives in
            subst (λ (k : ℕ). IsFresh k (moment log_then)) its.1 (fresh_again its.0 its.3 its.4)
        by (inr was) = entry_fresh n made_entry (moment x.history) (not_in_use again n made_entry x.history not).0 (made_else n was) (here.fresh n was)

    -- with its root its map has come
    rooted_then : has_root end.1.0.stands ≡ true → in_use again b.map log_then ≡ true
    rooted_then rooted = by (has_root b.machine.stands) refl
      where
        by : (q : Bool) → has_root b.machine.stands ≡ q → in_use again b.map log_then ≡ true
        by true e = still_in_use again b.map made_entry x.history (keeps_number K V b.map b.machine end.1.0 again b.map rooted) (here.made i b has e)
        by false e = now_in_use again b.map made_entry x.history (comes_then K V b.map b.machine end.1.0 e rooted)

    done_then : (setting : Setting) → end.1.1 ≡ progress.Done setting → in_use again b.map log_then ≡ true
    done_then setting done = by (has_root end.1.0.stands) refl
      where
        told_so : StepsObserved K V (NewMap × Advance Setting) x.now.memory NoChange (new_map_plan {K = K} {V = V} b.machine) end.0 change end.1
        told_so = was_told x.now.memory g (new_map_plan {K = K} {V = V} b.machine) end came

        had : has_root b.machine.stands ≡ true
        had = done_rooted b.machine x.now.memory end.0 change end.1 b.machine.stands setting told_so done

        by : (q : Bool) → has_root end.1.0.stands ≡ q → in_use again b.map log_then ≡ true
        by true rooted = rooted_then rooted
        by false none = absurd (subst IsRefused done (root_kept b.machine x.now.memory end.0 change end.1 b.machine.stands refl had told_so none))

    abbrev goes_to : Advance Setting → Now K V S
    goes_to told = made_on i b end.1.0 told (record x.now { memory = end.0 })

    -- maps of other numbers are as they were
    maps_stay : (m : ℕ) (at : Setting × S) → x.now.maps m ≡ Some at → in_use again m log_then ≡ true
    maps_stay m at stands = still_in_use again m made_entry x.history (keeps m (λ comes. (may comes).no_map m at stands)) (here.maps m at stands)

    maps_then : (told : Advance Setting) → end.1.1 ≡ told → MapsHaveCome again (goes_to told) log_then
    maps_then progress.Goes e = maps_stay
    maps_then progress.Waits e = maps_stay
    maps_then (progress.Refused fault) e = maps_stay
    maps_then (progress.Done setting) e = with_so x.now.maps b.map (Some (setting, b.hasher)) (λ m at. in_use again m log_then ≡ true) (λ at is. done_then setting e) maps_stay

    abbrev IfRooted : Making S → Type 0
    IfRooted d = has_root d.machine.stands ≡ true → in_use again d.map log_then ≡ true

    others_stay : (j : ℕ) (d : Making S) → j ≢ i → x.now.makers j ≡ Some d → IfRooted d
    others_stay j d ne makes rooted = still_in_use again d.map made_entry x.history (keeps d.map (λ comes. (may comes).no_other j d ne makes)) (here.made j d makes rooted)

    goes_on : (j : ℕ) (d : Making S) → with_at x.now.makers i (Some (record b { machine = end.1.0 })) j ≡ Some d → IfRooted d
    goes_on =
        with_each x.now.makers i (Some (record b { machine = end.1.0 })) (λ j d. IfRooted d)
        (λ d is. subst IfRooted (same_some (record b { machine = end.1.0 }) d is) rooted_then) others_stay

    gone : (j : ℕ) (d : Making S) → with_at x.now.makers i None j ≡ Some d → IfRooted d
    gone = with_each x.now.makers i None (λ j d. IfRooted d) (λ d is. absurd (cc is)) others_stay

    made_then : (told : Advance Setting) → MadeHaveCome again (goes_to told) log_then
    made_then progress.Goes = goes_on
    made_then progress.Waits = goes_on
    made_then (progress.Refused fault) = gone
    made_then (progress.Done setting) = gone

    ends_stay : EndedHaveCome again x.now log_then
    ends_stay j f ends = still_in_use again f.map made_entry x.history (keeps f.map (λ comes. (may comes).no_end j f ends)) (here.ended j f ends)

    ended_then : (told : Advance Setting) → EndedHaveCome again (goes_to told) log_then
    ended_then progress.Goes = ends_stay
    ended_then progress.Waits = ends_stay
    ended_then (progress.Refused fault) = ends_stay
    ended_then (progress.Done setting) = ends_stay

-- an end that goes on is of the same map
pub same_map : {T : Type 0} (f : Ending) (machine : EndMap) (said : Settled T) (d : Ending) → ended_on f machine said ≡ Some d → d.map ≡ f.map
same_map f machine said d is = by (is_over said) is
  where
    by : (q : Bool) → (if q then None else Some (record f { machine = machine })) ≡ Some d → d.map ≡ f.map
    by true e = absurd (cc e)
    by false e = sym (ap (λ (z : Ending). z.map) (same_some (record f { machine = machine }) d e))

module _ {K V S : Type 0} (same : K → K → Bool) (hash : S → K → ℕ) (batch_size roots : ℕ) (aborts : ℕ → V) (again : Bool) (x y : State K V S) (here : NumbersHold again x) where
  makes_so : {R : Type 0} (g : Grant) (plan : Plan (Node K V) R) (end : Mem (Node K V) × R) → stepped x.now.memory g plan ≡ Some end → MakesSome (changed_of x.now.memory g plan)
  makes_so g plan end came = step_makes x.now.memory end.0 (changed_of x.now.memory g plan) plan end.1 (was_told x.now.memory g plan end came)

  -- So it is after each act,
  pub acts_number : (act : Act K V S) → MakesMayFail x again act → PlayedAs same hash batch_size roots aborts x y act → CallsAreNoted x → NumbersHold again y
  acts_number (BeginsCall i m wanted) may (at, there, is) noted =
      subst (NumbersHold again) (sym is)
      (did_so again x here true (Begins i (slot_of i) m (call_for wanted)) outcome.Goes Nothing (with_call x.now.calls m i (Some (begun_call i m hash (call_for wanted) at))) (λ n. refl) (λ n not. other again x here m n (here.maps m at there) not))
  acts_number (StepsCall i m g) may (at, stands, (c, has, end, came, is)) noted =
      let plan = machine_plan same same (hash at.1) c.machine in
      let change = changed_of x.now.memory g plan in
      let o = outcome_of (known_after (acting.Call i m) change x.known) (kind_of c.call) c.value end.1.1 in
      let e = entry x (acting.Call i m) change (Steps i) o in
      subst (NumbersHold again) (sym is)
      (worked_so again x here (acting.Call i m) change (Steps i) o (OfCall end.1.1) (record x.now { memory = end.0; calls = with_call x.now.calls m i (going c end.1.0 end.1.1) }) (makes_so g plan end came)
      (one_more again x here e (λ n. refl) (λ n not. call_else x noted i m c has change o n (here.fresh n not).bare.no_call)) (maps_kept again x here e (λ n. refl)) (made_kept again x here e (λ n. refl)) (ended_kept again x here e (λ n. refl)))
  acts_number (TellsCall i m reply) may (c, has, is) noted =
      let to = machine_replied c.machine reply in
      subst (NumbersHold again) (sym is)
      (did_so again x here (is_ok to.1) (Replies i (reply_for (aborts (length x.told)) reply)) outcome.Goes (OfReply to.1) (with_call x.now.calls m i (Some (replied_call to (reply_for (aborts (length x.told)) reply) c))) (λ n. refl) (λ n not. tt))
  acts_number (AsksCall i m) may (c, has, is) noted =
      let to = machine_asked c.machine in
      subst (NumbersHold again) (sym is) (did_so again x here false (Steps i) outcome.Goes (OfAsking to.1) (with_call x.now.calls m i (Some (record c { machine = to.0 }))) (λ n. refl) (λ n not. tt))
  acts_number (StopsCall i m) may (c, has, is) noted =
      let ready = (machine_asked c.machine).1 in
      subst (NumbersHold again) (sym is) (did_so again x here ready (Stops i) outcome.Done (OfAsking ready) (with_call x.now.calls m i (unless_stopped ready c)) (λ n. refl) (λ n not. tt))
  acts_number (BeginsMaking i map hasher given places) may is noted =
      subst (NumbersHold again) (sym is)
      (record {
        none = here.none;
        fresh = here.fresh;
        maps = here.maps;
        made = with_so x.now.makers i (Some (record { map = map; hasher = hasher; machine = opening given roots places })) (λ j d. has_root d.machine.stands ≡ true → in_use again d.map x.history ≡ true)
            (λ d it rooted. absurd (let rootless : false ≡ true = ap (λ (z : Making S). has_root z.machine.stands) (same_some (record { map = map; hasher = hasher; machine = opening given roots places }) d it) ∙ rooted in cc rootless))
            here.made;
        ended = here.ended;
      })
  acts_number (StepsMaking i g) may (b, has, end, came, is) noted =
      let plan = new_map_plan {K = K} {V = V} b.machine in
      let its : again ≡ true → MayFail x i b = λ comes. may comes b has in
      subst (NumbersHold again) (sym is)
      (worked_so again x here (acting.Making b.map) (changed_of x.now.memory g plan) (making_deed b.map b.machine end.1.0) (making_outcome end.1.1) (OfMaking end.1.1)
      (made_on i b end.1.0 end.1.1 (record x.now { memory = end.0 })) (makes_so g plan end came) (fresh_then again x here i b has its g end came)
      (maps_then again x here i b has its g end came end.1.1 refl) (made_then again x here i b has its g end came end.1.1) (ended_then again x here i b has its g end came end.1.1))
  acts_number (BeginsEnding i m) may (at, there, is) noted =
      subst (NumbersHold again) (sym is)
      (record {
        none = here.none;
        fresh = here.fresh;
        maps = with_so x.now.maps m None (λ k at2. in_use again k x.history ≡ true) (λ at2 none. absurd (cc none)) here.maps;
        made = here.made;
        ended = with_so x.now.enders i (Some (record { map = m; machine = ending at.0 false })) (λ j f. in_use again f.map x.history ≡ true)
            (λ f it. subst (λ (z : Ending). in_use again z.map x.history ≡ true) (same_some (record { map = m; machine = ending at.0 false }) f it) (here.maps m at there)) here.ended;
      })
  acts_number (StepsEnding i g) may (f, has, end, came, is) noted =
      let plan = end_map_plan {K = K} {V = V} f.machine in
      let change = changed_of x.now.memory g plan in
      let e = entry x (acting.Ending f.map) change (ending_deed f end.1.1) (settled_outcome end.1.1) in
      let keeps : (n : ℕ) → gives_back again n e.deed ≡ false = ending_keeps_numbers K V f end.1.1 again in
      let its : (d : Ending) → ended_on f end.1.0 end.1.1 ≡ Some d → d.map ≡ f.map = same_map f end.1.0 end.1.1 in
      subst (NumbersHold again) (sym is)
      (worked_so again x here (acting.Ending f.map) change (ending_deed f end.1.1) (settled_outcome end.1.1) (OfEnding end.1.1)
      (record x.now { memory = end.0; enders = with_at x.now.enders i (ended_on f end.1.0 end.1.1) }) (makes_so g plan end came)
      (one_more again x here e keeps (λ n not. ending_else x f end.1.1 change (settled_outcome end.1.1) n (other again x here f.map n (here.ended i f has) not))) (maps_kept again x here e keeps)
      (made_kept again x here e keeps)
      (with_so x.now.enders i (ended_on f end.1.0 end.1.1) (λ j d. in_use again d.map (e ∷ x.history) ≡ true)
      (λ d it. subst (λ (k : ℕ). in_use again k (e ∷ x.history) ≡ true) (sym (its d it)) (ended_kept again x here e keeps i f has)) (ended_kept again x here e keeps)))
  acts_number (BeginsRow i request) may (called, there, is) noted =
      subst (NumbersHold again) (sym is) (record { none = here.none; fresh = here.fresh; maps = here.maps; made = here.made; ended = here.ended })
  acts_number (StepsRow i g) may (row, has, end, came, is) noted =
      let change = row_changed (row_of row) g x.now.memory in
      let says = row_says g x.now.memory end row came in
      let none = row_of_no_map {K = K} {V = V} row in
      let e = entry x acting.Row change (row_deed row) (row_outcome end.1.1) in
      subst (NumbersHold again) (sym is)
      (worked_so again x here acting.Row change (row_deed row) (row_outcome end.1.1) Nothing (record x.now { memory = end.0; rows = with_at x.now.rows i (row_on end.1.0 end.1.1) }) (row_makes change says)
      (one_more again x here e (none.keeps again) (λ n not. no_map_else x change (row_deed row) (row_outcome end.1.1) none n (rows_elsewhere n AnyTable x.known change says))) (maps_kept again x here e (none.keeps again))
      (made_kept again x here e (none.keeps again)) (ended_kept again x here e (none.keeps again)))

  -- and after a step that reclaims all.
  pub reclaiming_numbers : (g : Grant) → ReclaimedAs same hash batch_size roots aborts x y g → NumbersHold again y
  reclaiming_numbers g (c, has, end, came, is) =
      let change = changed_of x.now.memory g (reclaim_all_plan deferred_word was_left c) in
      let says = all_say g x.now.memory c end came in
      let e = entry x acting.Row change (ReclaimsAll (is_over end.1.1)) (settled_outcome end.1.1) in
      subst (NumbersHold again) (sym is)
      (worked_so again x here acting.Row change (ReclaimsAll (is_over end.1.1)) (settled_outcome end.1.1) (OfReclaiming end.1.1) (record x.now { memory = end.0; all = all_on end.1.0 end.1.1 }) (all_make change says)
      (one_more again x here e (λ n. refl) (λ n not. no_map_else x change (ReclaimsAll (is_over end.1.1)) (settled_outcome end.1.1) (reclaims_all (is_over end.1.1)) n (reclaiming_elsewhere n AnyTable x.known here.none change says)))
      (maps_kept again x here e (λ n. refl)) (made_kept again x here e (λ n. refl)) (ended_kept again x here e (λ n. refl)))

-- so it is, with each call noted
abbrev pub NumbersStay : {K V S : Type 0} → Bool → State K V S → Type 0
NumbersStay again x = CallsAreNoted x × NumbersHold again x

-- at first nothing has come
pub numbers_first : {K V S : Type 0} (again : Bool) (roots : ℕ) → NumbersHold {K = K} {V = V} {S = S} again (first_state roots)
numbers_first again roots = record { none = refl; fresh = λ n not. fresh_first n; maps = λ m at has. absurd (cc has); made = λ i b has rooted. absurd (cc has); ended = λ i f has. absurd (cc has) }

module _ {K S : Type 0} (V : Type 0) (same : K → K → Bool) (by_hasher : S → K → ℕ) (hash : ℕ → K → ℕ) (batch_size roots : ℕ) (aborts : ℕ → V) where
  -- where numbers do not come again, a making may always fail
  fails_anyway : (x : State K V S) (act : Act K V S) → MakesMayFail x false act
  fails_anyway x (StepsMaking i g) = λ comes. absurd (cc comes)
  fails_anyway x act = tt

  pub numbers_stay : StaysSo V same by_hasher hash batch_size roots aborts (Anything V same by_hasher hash batch_size roots aborts) (λ p x. NumbersStay false x)
  numbers_stay = record {
    acts = λ p n x y act told own fits none none_then is is_then at may led leads at_then played so. (
      notes.acts p n x y act told own fits none none_then is is_then at may led leads at_then played so.0,
      acts_number same by_hasher batch_size roots aborts false x y so.1 act (fails_anyway x act) (played_as same by_hasher batch_size roots aborts x y act played) so.0,
    );
    begins = λ p n x i c none begun same_scene all_free is is_then at so. (so.0, record { none = so.1.none; fresh = so.1.fresh; maps = so.1.maps; made = so.1.made; ended = so.1.ended });
    steps = λ p n x y told g st is is_then at leads comes played so. (
      notes.steps p n x y told g st is is_then at leads comes played so.0,
      reclaiming_numbers same by_hasher batch_size roots aborts false x y so.1 g (reclaimed_as same by_hasher batch_size roots aborts x y g played),
    );
    chooses = λ p n x choice none none_then scene is is_then at so. (so.0, record { none = so.1.none; fresh = so.1.fresh; maps = so.1.maps; made = so.1.made; ended = so.1.ended });
  }
    where
      notes : StaysSo V same by_hasher hash batch_size roots aborts (Anything V same by_hasher hash batch_size roots aborts) (λ p x. CallsAreNoted x)
      notes = notes_stay V same by_hasher hash batch_size roots aborts
