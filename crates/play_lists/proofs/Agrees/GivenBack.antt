-- Where each map is made with a number that is not taken, nothing is there of a number that was given back: so it is wherever a list has led.
use Rattle.std.specs.Prelude.{◌≢◌, Option, Some, None, is_ok, length, option_map, if◌then◌else◌}
use Rattle.std.proofs.Common.{◌≡◌, ℕ, Bool, true, false, List, [], ◌∷◌, refl, ap, sym, subst, arith, ◌∙◌}
use Rattle.seize_acts.specs.Acts.Answers.{Grant, stepped}
use Rattle.run_schedules.specs.Given.SeizeWordsMem.{Mem}
use Rattle.seize.specs.ReclaimAll.{reclaim_all_plan}
use Rattle.seize.specs.World.{with_at}
use Rattle.seize.specs.declared.advance.Advance.{Advance}
use Rattle.seize.specs.declared.advance.Advance.TheVariants as progress
use Rattle.map_tables.specs.Nodes.{deferred_word, was_left}
use Rattle.map_tables.specs.declared.node.Node.{Node}
use Rattle.map_tables.specs.declared.setting.Setting.{Setting}
use Rattle.run_kept.specs.Given.ResizeNewMap.{new_map_plan, opening}
use Rattle.run_finds.specs.Given.ResizeDeclared.new_map.NewMap.{NewMap}
use Rattle.run_schedules.specs.Given.RawEndMap.{end_map_plan, ending}
use Rattle.run_finds.specs.Given.RawMachine.{machine_asked, machine_plan, machine_replied}
use Rattle.run_kept.specs.Given.EffectsDeclared.changed.Changed.{Changed}
use Rattle.many_acts.specs.Given.ScenesScene.{row_of, slot_of}
use Rattle.many_acts.proofs.Given.ScenesNoCall.{none_is}
use Rattle.run_schedules.specs.declared.outcome.Outcome.TheVariants as outcome
use Rattle.run_kept.specs.Given.EffectsEffects.{known_after}
use Rattle.run_kept.specs.Given.EffectsDeclared.acting.Acting.TheVariants as acting
use Rattle.run_finds.specs.Given.NamedSeen.{kind_of}
use Rattle.many_acts.specs.Acts.Acts.{Act, BeginsCall, StepsCall, TellsCall, AsksCall, StopsCall, BeginsMaking, StepsMaking, BeginsEnding, StepsEnding, BeginsRow, StepsRow}
use Rattle.many_acts.specs.Acts.AsSteps.{changed_of, row_changed}
use Rattle.many_acts.specs.Acts.Courses.{set_up}
use Rattle.many_acts.specs.Acts.Leads.{MayBe}
use Rattle.many_acts.proofs.Acts.AsSteps.Told.{was_told}
use Rattle.run_schedules.specs.Deeds.Deeds.{Begins, Entry, ReclaimsAll, Replies, Steps, Stops, moment}
use Rattle.play_lists.specs.Played.Play.{Ending, Making, Now, State, call_for, ended_on, ending_deed, first_state, is_over, made_on, making_deed, making_outcome, outcome_of, reply_for, row_deed, row_outcome, settled_outcome}
use Rattle.play_lists.specs.Played.Reached.{stands_so}
use Rattle.play_lists.proofs.Played.Along.{At, Is, StaysSo}
use Rattle.play_lists.proofs.Played.Noted.{Anything, CallsAreNoted, notes_stay}
use Rattle.play_lists.proofs.Played.PlayedAs.{PlayedAs, ReclaimedAs, played_as, reclaimed_as}
use Rattle.play_lists.specs.Agrees.Fresh.{AreNamed, HasNewNumber, IsBare, is_taken}
use Rattle.play_lists.proofs.Agrees.Bare.{bare_writes, is_bare}
use Rattle.play_lists.proofs.Agrees.Coming.{ComingHolds, coming_first, coming_stay}
use Rattle.play_lists.proofs.Agrees.Elsewhere.{reclaiming_elsewhere, rows_elsewhere}
use Rattle.play_lists.proofs.Agrees.Entries.{histories_grow}
use Rattle.play_lists.proofs.Agrees.Fresh.{AnyTable, IsElsewhere, entry_bare}
use Rattle.play_lists.proofs.Agrees.Names.{names_grow}
use Rattle.play_lists.proofs.Agrees.Numbers.{MakesMayFail, NumbersHold, acts_number, bare_else, call_else, ending_else, entry, making_else, no_map_else, numbers_first, reclaiming_numbers, same_map, with_each, with_so}
use Rattle.play_lists.proofs.Agrees.Told.{all_say, reclaims_all, row_of_no_map, row_says}
use Rattle.run_finds.proofs.Given.General.{same_some, none_mapped as none_of}

module _ {K V S : Type 0} where
  -- Of each map that is made nothing is there before it has a table; and none that stands, and none that ends, has its number.
  pub record MakesBare (x : State K V S) : Type 0 where
    pub bare : (i : ℕ) (b : Making S) → x.now.makers i ≡ Some b → is_bare b.machine.stands ≡ true → IsBare b.map (moment x.history)
    pub no_map : (i : ℕ) (b : Making S) → x.now.makers i ≡ Some b → (m : ℕ) (at : Setting × S) → x.now.maps m ≡ Some at → b.map ≢ m
    pub no_end : (i : ℕ) (b : Making S) → x.now.makers i ≡ Some b → (j : ℕ) (f : Ending) → x.now.enders j ≡ Some f → b.map ≢ f.map

  -- So it is of numbers that may come again.
  pub record NumbersComeAgain (x : State K V S) : Type 0 where
    pub noted : CallsAreNoted x
    pub numbers : NumbersHold true x
    pub coming : ComingHolds x
    pub names : AreNamed (moment x.history)
    pub makes : MakesBare x

module _ {K V S : Type 0} (x : State K V S) (so : MakesBare x) where
  -- a making may fail then
  may_fail : ComingHolds x → AreNamed (moment x.history) → (act : Act K V S) → MakesMayFail x true act
  may_fail coming names (StepsMaking i g) = λ comes b has. record {
    bare = so.bare i b has;
    no_map = so.no_map i b has;
    no_other = λ j d ne makes same. ne (coming.apart j i d b makes has (sym same));
    no_end = so.no_end i b has;
    names = names;
  }
  may_fail coming names (BeginsCall i m wanted) = tt
  may_fail coming names (StepsCall i m g) = tt
  may_fail coming names (TellsCall i m reply) = tt
  may_fail coming names (AsksCall i m) = tt
  may_fail coming names (StopsCall i m) = tt
  may_fail coming names (BeginsMaking i map hasher given places) = tt
  may_fail coming names (BeginsEnding i m) = tt
  may_fail coming names (StepsEnding i g) = tt
  may_fail coming names (BeginsRow i request) = tt
  may_fail coming names (StepsRow i g) = tt

  -- what is so of each making before it has a table
  abbrev EachBare : (List (Entry K V)) → Type 0
  EachBare log = (i : ℕ) (b : Making S) → x.now.makers i ≡ Some b → is_bare b.machine.stands ≡ true → IsBare b.map (moment log)

  -- one more entry, which is elsewhere
  on_entry : (e : Entry K V) → ((i : ℕ) (b : Making S) → x.now.makers i ≡ Some b → is_bare b.machine.stands ≡ true → IsElsewhere b.map e (moment x.history)) → EachBare (e ∷ x.history)
  on_entry e elsewhere i b has bare = entry_bare b.map e (moment x.history) (elsewhere i b has bare) (so.bare i b has bare)

  perhaps : (taken : Bool) (e : Entry K V) → ((i : ℕ) (b : Making S) → x.now.makers i ≡ Some b → is_bare b.machine.stands ≡ true → IsElsewhere b.map e (moment x.history))
      → EachBare (if taken then e ∷ x.history else x.history)
  perhaps true e elsewhere = on_entry e elsewhere
  perhaps false e elsewhere = so.bare

  -- where makings, maps and ends are as they were
  as_were : (z : State K V S) → z.now.makers ≡ x.now.makers → z.now.maps ≡ x.now.maps → z.now.enders ≡ x.now.enders → EachBare z.history → MakesBare z
  as_were z makers maps enders bare = record {
    bare = λ i b has. bare i b (made i b has);
    no_map = λ i b has m at stands. so.no_map i b (made i b has) m at (sym (ap (λ (f : ℕ → Option (Setting × S)). f m) maps) ∙ stands);
    no_end = λ i b has j f ends. so.no_end i b (made i b has) j f (sym (ap (λ (h : ℕ → Option Ending). h j) enders) ∙ ends);
  }
    where
      made : (i : ℕ) (b : Making S) → z.now.makers i ≡ Some b → x.now.makers i ≡ Some b
      made i b has = sym (ap (λ (f : ℕ → Option (Making S)). f i) makers) ∙ has

  -- The step of a making.
  module _ (coming : ComingHolds x) (i : ℕ) (b : Making S) (has : x.now.makers i ≡ Some b) (g : Grant) (end : Mem (Node K V) × (NewMap × Advance Setting))
      (came : stepped x.now.memory g (new_map_plan {K = K} {V = V} b.machine) ≡ Some end) where
    abbrev change : Changed
    change = changed_of x.now.memory g (new_map_plan {K = K} {V = V} b.machine)

    abbrev e : Entry K V
    e = entry x (acting.Making b.map) change (making_deed b.map b.machine end.1.0) (making_outcome end.1.1)

    abbrev log_then : List (Entry K V)
    log_then = e ∷ x.history

    abbrev goes_to : Advance Setting → Now K V S
    goes_to told = made_on i b end.1.0 told (record x.now { memory = end.0 })

    abbrev MadeSo : ℕ → Making S → Type 0
    MadeSo j d = is_bare d.machine.stands ≡ true → IsBare d.map (moment log_then)

    own_bare : MadeSo i (record b { machine = end.1.0 })
    own_bare bare =
        let before = bare_writes x.now.memory end.0 change b.machine end.1 (was_told x.now.memory g (new_map_plan {K = K} {V = V} b.machine) end came) bare in
        entry_bare b.map e (moment x.history) (bare_else x b end.1.0 change (making_outcome end.1.1) b.map before.1) (so.bare i b has before.0)

    others_bare : (j : ℕ) (d : Making S) → j ≢ i → x.now.makers j ≡ Some d → MadeSo j d
    others_bare j d ne makes bare =
        entry_bare d.map e (moment x.history) (making_else x b end.1.0 change (making_outcome end.1.1) d.map (λ same. ne (coming.apart j i d b makes has (sym same)))) (so.bare j d makes bare)

    abbrev NoMap : ℕ → Making S → Type 0
    NoMap j d = (m : ℕ) (at : Setting × S) → x.now.maps m ≡ Some at → d.map ≢ m

    abbrev NoEnd : ℕ → Making S → Type 0
    NoEnd j d = (k : ℕ) (f : Ending) → x.now.enders k ≡ Some f → d.map ≢ f.map

    -- of each that is made then, if this one goes on, or is made no more
    then_each : (P : ℕ → Making S → Type 0) → P i (record b { machine = end.1.0 }) → ((j : ℕ) (d : Making S) → j ≢ i → x.now.makers j ≡ Some d → P j d) → (j : ℕ) (d : Making S)
        → with_at x.now.makers i (Some (record b { machine = end.1.0 })) j ≡ Some d → P j d
    then_each P own others = with_each x.now.makers i (Some (record b { machine = end.1.0 })) P (λ d is. subst (P i) (same_some (record b { machine = end.1.0 }) d is) own) others

    rest_each : (P : ℕ → Making S → Type 0) → ((j : ℕ) (d : Making S) → j ≢ i → x.now.makers j ≡ Some d → P j d) → (j : ℕ) (d : Making S) → with_at x.now.makers i None j ≡ Some d → P j d
    rest_each P others = with_each x.now.makers i None P (λ d is. absurd (cc is)) others

    goes_on : (z : State K V S) → z.history ≡ log_then → z.now.makers ≡ with_at x.now.makers i (Some (record b { machine = end.1.0 })) → z.now.maps ≡ x.now.maps → z.now.enders ≡ x.now.enders → MakesBare z
    goes_on z log makers maps enders = record {
      bare = λ j d is bare. subst (λ (l : List (Entry K V)). IsBare d.map (moment l)) (sym log) (then_each MadeSo own_bare others_bare j d (made j d is) bare);
      no_map = λ j d is m at stands. then_each NoMap (so.no_map i b has) (λ k f ne makes. so.no_map k f makes) j d (made j d is) m at (sym (ap (λ (f : ℕ → Option (Setting × S)). f m) maps) ∙ stands);
      no_end = λ j d is k f ends. then_each NoEnd (so.no_end i b has) (λ l h ne makes. so.no_end l h makes) j d (made j d is) k f (sym (ap (λ (h : ℕ → Option Ending). h k) enders) ∙ ends);
    }
      where
        made : (j : ℕ) (d : Making S) → z.now.makers j ≡ Some d → with_at x.now.makers i (Some (record b { machine = end.1.0 })) j ≡ Some d
        made j d is = sym (ap (λ (f : ℕ → Option (Making S)). f j) makers) ∙ is

    is_over_so : (z : State K V S) → z.history ≡ log_then → z.now.makers ≡ with_at x.now.makers i None
        → ((m : ℕ) (at : Setting × S) → z.now.maps m ≡ Some at → (j : ℕ) (d : Making S) → j ≢ i → x.now.makers j ≡ Some d → d.map ≢ m) → z.now.enders ≡ x.now.enders → MakesBare z
    is_over_so z log makers maps enders = record {
      bare = λ j d is bare. subst (λ (l : List (Entry K V)). IsBare d.map (moment l)) (sym log) (rest_each MadeSo others_bare j d (made j d is) bare);
      no_map = λ j d is m at stands. rest_each (λ k f. f.map ≢ m) (maps m at stands) j d (made j d is);
      no_end = λ j d is k f ends. rest_each NoEnd (λ l h ne makes. so.no_end l h makes) j d (made j d is) k f (sym (ap (λ (h : ℕ → Option Ending). h k) enders) ∙ ends);
    }
      where
        made : (j : ℕ) (d : Making S) → z.now.makers j ≡ Some d → with_at x.now.makers i None j ≡ Some d
        made j d is = sym (ap (λ (f : ℕ → Option (Making S)). f j) makers) ∙ is

    making_steps : (z : State K V S) → z.history ≡ log_then → (told : Advance Setting) → z.now ≡ goes_to told → MakesBare z
    making_steps z log progress.Goes now =
        goes_on z log (ap (λ (n : Now K V S). n.makers) now) (ap (λ (n : Now K V S). n.maps) now) (ap (λ (n : Now K V S). n.enders) now)
    making_steps z log progress.Waits now =
        goes_on z log (ap (λ (n : Now K V S). n.makers) now) (ap (λ (n : Now K V S). n.maps) now) (ap (λ (n : Now K V S). n.enders) now)
    making_steps z log (progress.Refused fault) now =
        is_over_so z log (ap (λ (n : Now K V S). n.makers) now) (λ m at stands j d ne makes. so.no_map j d makes m at (sym (ap (λ (n : Now K V S). n.maps m) now) ∙ stands)) (ap (λ (n : Now K V S). n.enders) now)
    making_steps z log (progress.Done setting) now =
        is_over_so z log (ap (λ (n : Now K V S). n.makers) now) (λ m at stands. stood m at (sym (ap (λ (n : Now K V S). n.maps m) now) ∙ stands)) (ap (λ (n : Now K V S). n.enders) now)
      where
        stood : (m : ℕ) (at : Setting × S) → with_at x.now.maps b.map (Some (setting, b.hasher)) m ≡ Some at → (j : ℕ) (d : Making S) → j ≢ i → x.now.makers j ≡ Some d → d.map ≢ m
        stood =
            with_so x.now.maps b.map (Some (setting, b.hasher)) (λ m at. (j : ℕ) (d : Making S) → j ≢ i → x.now.makers j ≡ Some d → d.map ≢ m)
            (λ at is j d ne makes same. ne (coming.apart j i d b makes has same)) (λ m at stands j d ne makes. so.no_map j d makes m at stands)

module _ {K V S : Type 0} (same : K → K → Bool) (hash : S → K → ℕ) (batch_size roots : ℕ) (aborts : ℕ → V) (x y : State K V S) (here : NumbersComeAgain x) where
  -- where the making of a map may begin, none stands with its number
  abbrev pub NoneStands : Act K V S → Type 0
  NoneStands (BeginsMaking i map hasher given places) = x.now.maps map ≡ None
  NoneStands act = Unit {0}

  -- So it is after each act,
  pub acts_bare : (act : Act K V S) → HasNewNumber x act → NoneStands act → PlayedAs same hash batch_size roots aborts x y act → MakesBare y
  acts_bare (BeginsCall i m wanted) new stands (at, there, is) =
      subst MakesBare (sym is)
      (as_were x here.makes _ refl refl refl
      (on_entry x here.makes (record { deed = Begins i (slot_of i) m (call_for wanted); outcome = outcome.Goes; effects = []; refused = false })
      (λ j b has bare. record { begins = λ e. here.makes.no_map j b has m at there (sym e); acts = tt; links = tt })))
  acts_bare (StepsCall i m g) new stands (at, there, (c, has, end, came, is)) =
      let change = changed_of x.now.memory g (machine_plan same same (hash at.1) c.machine) in
      let o = outcome_of (known_after (acting.Call i m) change x.known) (kind_of c.call) c.value end.1.1 in
      subst MakesBare (sym is)
      (as_were x here.makes _ refl refl refl
      (on_entry x here.makes (entry x (acting.Call i m) change (Steps i) o) (λ j b makes bare. call_else x here.noted i m c has change o b.map (here.makes.bare j b makes bare).no_call)))
  acts_bare (TellsCall i m reply) new stands (c, has, is) =
      subst MakesBare (sym is)
      (as_were x here.makes _ refl refl refl
      (perhaps x here.makes (is_ok (machine_replied c.machine reply).1)
      (record { deed = Replies i (reply_for (aborts (length x.told)) reply); outcome = outcome.Goes; effects = []; refused = false }) (λ j b makes bare. record { begins = tt; acts = tt; links = tt })))
  acts_bare (AsksCall i m) new stands (c, has, is) = subst MakesBare (sym is) (as_were x here.makes _ refl refl refl here.makes.bare)
  acts_bare (StopsCall i m) new stands (c, has, is) =
      subst MakesBare (sym is)
      (as_were x here.makes _ refl refl refl
      (perhaps x here.makes (machine_asked c.machine).1 (record { deed = Stops i; outcome = outcome.Done; effects = []; refused = false }) (λ j b makes bare. record { begins = tt; acts = tt; links = tt })))
  acts_bare (BeginsMaking i map hasher given places) new stands is =
      subst MakesBare (sym is)
      (record {
        bare = with_so x.now.makers i (Some it) (λ j d. is_bare d.machine.stands ≡ true → IsBare d.map (moment x.history))
            (λ d its bare. subst (λ (z : Making S). IsBare z.map (moment x.history)) (same_some it d its) (here.numbers.fresh map new).bare) here.makes.bare;
        no_map = with_so x.now.makers i (Some it) (λ j d. (m : ℕ) (at : Setting × S) → x.now.maps m ≡ Some at → d.map ≢ m)
            (λ d its m at there e. absurd (let both : None ≡ Some at = sym stands ∙ ap x.now.maps (ap (λ (z : Making S). z.map) (same_some it d its) ∙ e) ∙ there in cc both)) here.makes.no_map;
        no_end = with_so x.now.makers i (Some it) (λ j d. (k : ℕ) (f : Ending) → x.now.enders k ≡ Some f → d.map ≢ f.map)
            (λ d its k f ends e.
            absurd (let both : false ≡ true = sym new ∙ ap (λ (n : ℕ). is_taken n x.history) (ap (λ (z : Making S). z.map) (same_some it d its) ∙ e) ∙ here.numbers.ended k f ends in cc both)) here.makes.no_end;
      })
    where
      it : Making S
      it = record { map = map; hasher = hasher; machine = opening given roots places }
  acts_bare (StepsMaking i g) new stands (b, has, end, came, is) = making_steps x here.makes here.coming i b has g end came y (ap (λ (z : State K V S). z.history) is) end.1.1 (ap (λ (z : State K V S). z.now) is)
  acts_bare (BeginsEnding i m) new stands (at, there, is) =
      subst MakesBare (sym is)
      (record {
        bare = here.makes.bare;
        no_map = λ j d makes. with_so x.now.maps m None (λ k at. d.map ≢ k) (λ at none. absurd (cc none)) (here.makes.no_map j d makes);
        no_end = λ j d makes. with_so x.now.enders i (Some it) (λ k f. d.map ≢ f.map) (λ f its e. here.makes.no_map j d makes m at there (e ∙ sym (ap (λ (z : Ending). z.map) (same_some it f its)))) (here.makes.no_end j d makes);
      })
    where
      it : Ending
      it = record { map = m; machine = ending at.0 false }
  acts_bare (StepsEnding i g) new stands (f, has, end, came, is) =
      let change = changed_of x.now.memory g (end_map_plan {K = K} {V = V} f.machine) in
      let e = entry x (acting.Ending f.map) change (ending_deed f end.1.1) (settled_outcome end.1.1) in
      let on : (d : Ending) → ended_on f end.1.0 end.1.1 ≡ Some d → d.map ≡ f.map = same_map f end.1.0 end.1.1 in
      subst MakesBare (sym is)
      (record {
        bare = on_entry x here.makes e (λ j b makes bare. ending_else x f end.1.1 change (settled_outcome end.1.1) b.map (λ same. here.makes.no_end j b makes i f has (sym same)));
        no_map = here.makes.no_map;
        no_end = λ j d makes. with_so x.now.enders i (ended_on f end.1.0 end.1.1) (λ k h. d.map ≢ h.map) (λ h its same. here.makes.no_end j d makes i f has (same ∙ on h its)) (here.makes.no_end j d makes);
      })
  acts_bare (BeginsRow i request) new stands (called, there, is) = subst MakesBare (sym is) (as_were x here.makes _ refl refl refl here.makes.bare)
  acts_bare (StepsRow i g) new stands (row, has, end, came, is) =
      let change = row_changed (row_of row) g x.now.memory in
      subst MakesBare (sym is)
      (as_were x here.makes _ refl refl refl
      (on_entry x here.makes (entry x acting.Row change (row_deed row) (row_outcome end.1.1))
      (λ j b makes bare. no_map_else x change (row_deed row) (row_outcome end.1.1) (row_of_no_map row) b.map (rows_elsewhere b.map AnyTable x.known change (row_says g x.now.memory end row came)))))

  -- and after a step that reclaims all.
  reclaiming_bare : (g : Grant) → ReclaimedAs same hash batch_size roots aborts x y g → MakesBare y
  reclaiming_bare g (c, has, end, came, is) =
      let change = changed_of x.now.memory g (reclaim_all_plan deferred_word was_left c) in
      subst MakesBare (sym is)
      (as_were x here.makes _ refl refl refl
      (on_entry x here.makes (entry x acting.Row change (ReclaimsAll (is_over end.1.1)) (settled_outcome end.1.1))
      (λ j b makes bare. no_map_else x change (ReclaimsAll (is_over end.1.1)) (settled_outcome end.1.1) (reclaims_all (is_over end.1.1)) b.map
      (reclaiming_elsewhere b.map AnyTable x.known here.numbers.none change (all_say g x.now.memory c end came)))))

-- at first nothing is made
pub again_first : {K V S : Type 0} (roots : ℕ) → NumbersComeAgain {K = K} {V = V} {S = S} (first_state roots)
again_first roots = record {
  noted = λ on i c has. absurd (cc has);
  numbers = numbers_first true roots;
  coming = coming_first roots;
  names = λ k d l. absurd (omega (arith, l));
  makes = record { bare = λ i b has. absurd (cc has); no_map = λ i b has. absurd (cc has); no_end = λ i b has. absurd (cc has) };
}

module _ {K S : Type 0} (V : Type 0) (same : K → K → Bool) (by_hasher : S → K → ℕ) (hash : ℕ → K → ℕ) (batch_size roots : ℕ) (aborts : ℕ → V) where
  none_stands : (p : At V same by_hasher hash batch_size roots) (x y : State K V S) (here : NumbersComeAgain x) → Is V same by_hasher hash batch_size roots aborts p x → (act : Act K V S)
      → MayBe same by_hasher batch_size roots slot_of act p.0 → NoneStands same by_hasher batch_size roots aborts x y here act
  none_stands p x y here is (BeginsMaking i map hasher given places) may =
      none_of (stands_so by_hasher) (x.now.maps map) (is.scene.maps map ∙ ap (option_map set_up) (none_is (p.0.maps map) may.1))
  none_stands p x y here is act may = tt

  pub numbers_come_again : StaysSo V same by_hasher hash batch_size roots aborts HasNewNumber (λ p x. NumbersComeAgain x)
  numbers_come_again = record {
    acts = λ p n x y act told own fits none none_then is is_then at may led leads at_then played so.
        (let as_played = played_as same by_hasher batch_size roots aborts x y act played in
        record {
          noted = notes.acts p n x y act told own tt none none_then is is_then at may led leads at_then played so.noted;
          numbers = acts_number same by_hasher batch_size roots aborts true x y so.numbers act (may_fail x so.makes so.coming so.names act) as_played so.noted;
          coming = coming.acts p n x y act told own fits none none_then is is_then at may led leads at_then played so.coming;
          names = names.acts p n x y act told own tt none none_then is is_then at may led leads at_then played so.names;
          makes = acts_bare same by_hasher batch_size roots aborts x y so act fits (none_stands p x y so is act may) as_played;
        });
    begins = λ p n x i c none begun same_scene all_free is is_then at so. record {
      noted = so.noted;
      numbers = record { none = so.numbers.none; fresh = so.numbers.fresh; maps = so.numbers.maps; made = so.numbers.made; ended = so.numbers.ended };
      coming = record { rootless = so.coming.rootless; apart = so.coming.apart };
      names = so.names;
      makes = record { bare = so.makes.bare; no_map = so.makes.no_map; no_end = so.makes.no_end };
    };
    steps = λ p n x y told g st is is_then at leads comes played so.
        (let as_played = reclaimed_as same by_hasher batch_size roots aborts x y g played in
        record {
          noted = notes.steps p n x y told g st is is_then at leads comes played so.noted;
          numbers = reclaiming_numbers same by_hasher batch_size roots aborts true x y so.numbers g as_played;
          coming = coming.steps p n x y told g st is is_then at leads comes played so.coming;
          names = names.steps p n x y told g st is is_then at leads comes played so.names;
          makes = reclaiming_bare same by_hasher batch_size roots aborts x y so g as_played;
        });
    chooses = λ p n x choice none none_then scene is is_then at so. record {
      noted = so.noted;
      numbers = record { none = so.numbers.none; fresh = so.numbers.fresh; maps = so.numbers.maps; made = so.numbers.made; ended = so.numbers.ended };
      coming = record { rootless = so.coming.rootless; apart = so.coming.apart };
      names = so.names;
      makes = record { bare = so.makes.bare; no_map = so.makes.no_map; no_end = so.makes.no_end };
    };
  }
    where
      notes : StaysSo V same by_hasher hash batch_size roots aborts (Anything V same by_hasher hash batch_size roots aborts) (λ p x. CallsAreNoted x)
      notes = notes_stay V same by_hasher hash batch_size roots aborts

      coming : StaysSo V same by_hasher hash batch_size roots aborts HasNewNumber (λ p x. ComingHolds x)
      coming = coming_stay V same by_hasher hash batch_size roots aborts

      names : StaysSo V same by_hasher hash batch_size roots aborts (Anything V same by_hasher hash batch_size roots aborts) (λ p x. AreNamed (moment x.history))
      names = histories_grow V same by_hasher hash batch_size roots aborts (λ log. AreNamed (moment log)) (names_grow K V)
