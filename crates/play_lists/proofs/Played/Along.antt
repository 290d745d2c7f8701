-- What is so at first, and after each kind of act, is so wherever a list of acts has led that is played: by this what is promised of steps is had of lists.
use Rattle.std.specs.Prelude.{◌<◌, ◌^◌, Option, Some, None}
use Rattle.std.proofs.Common.{◌≡◌, ℕ, Bool, List, [], ◌∷◌, inl, inr, refl, ap, sym, subst, ◌∙◌}
use Rattle.seize.specs.ReclaimAll.{clearing, reclaim_all_plan, reclaiming_all}
use Rattle.seize.specs.declared.rows.reclaim_all.ReclaimAll.{ReclaimAll}
use Rattle.seize.specs.declared.rows.settle.Settled.{Settled}
use Rattle.seize.specs.declared.rows.settle.Settled.TheVariants as settled
use Rattle.seize_acts.specs.Acts.Answers.{Grant, then_on}
use Rattle.map_tables.specs.Nodes.{deferred_word, was_left}
use Rattle.map_tables.specs.declared.node.Node.{Node}
use Rattle.run_kept.specs.Given.EffectsDeclared.changed.Changed.{Changed}
use Rattle.run_kept.specs.Given.EffectsDeclared.changed.Changed.TheVariants.{Nothing as NoChange}
use Rattle.many_acts.specs.Given.CallersRows.{IsRowOn}
use Rattle.many_acts.specs.Given.FinishesMakings.{Beginning}
use Rattle.many_acts.specs.Given.FinishesMaps.{Standing}
use Rattle.many_acts.proofs.Given.ScenesGoes.{same_map_keeps}
use Rattle.many_acts.proofs.Given.ScenesNoCall.{none_is}
use Rattle.many_acts.specs.Given.ScenesHeld.{Held, IsAt}
use Rattle.many_acts.specs.Given.ScenesReclaiming.{IsReclaiming, ReclaimingLeads}
use Rattle.many_acts.specs.Given.ScenesScene.{Scene, slot_of}
use Rattle.many_acts.specs.Acts.Acts.{Act, Answer, BeginsRow}
use Rattle.many_acts.specs.Acts.AsSteps.{IsOwn, LeadsAs, changed_by, changed_of, held_in}
use Rattle.many_acts.specs.Acts.Doings.{Doing, Does, BeginsReclaiming, BeginsClearing, StepsReclaiming, Chooses, scene_chosen, AllAreFree, HasDone, HasStepped, MayDo, Stage, behind, reclaiming, still}
use Rattle.many_acts.specs.Acts.Leads.{Led, MayBe}
use Rattle.many_acts.specs.Acts.Lists.{Course, Reached, LedOn, nothing_done, on_by}
use Rattle.many_acts.proofs.Acts.AsSteps.All.{acts_lead_as_steps}
use Rattle.many_acts.proofs.Acts.AsSteps.Reclaiming.{reclaiming_leads_as_steps}
use Rattle.play_lists.specs.Played.Play.{State, all_begun, choice_come, first_state, play, play_act, play_all}
use Rattle.play_lists.specs.Played.Reached.{IsOfStage, IsOnOwn}
use Rattle.play_lists.proofs.Played.All.{at_first_so, plays_on}
use Rattle.run_finds.proofs.Given.General.{same_some}

-- Keys have a hash by each hasher, and each map has one by its number.
module _ {K S : Type 0} (V : Type 0) (same : K → K → Bool) (by_hasher : S → K → ℕ) (hash : ℕ → K → ℕ) (batch_size roots : ℕ) where
  abbrev pub At : Type 0
  At = Stage V same by_hasher batch_size roots slot_of

  abbrev pub far : At → Option (ℕ × ReclaimAll)
  far p = reclaiming V same by_hasher batch_size roots slot_of p

  abbrev pub lists_at : At → ℕ → List ℕ
  lists_at p = behind V same by_hasher batch_size roots slot_of p

  abbrev pub held : Changed → At → Held K V
  held changed p = held_in batch_size roots changed p.0

  -- the stage is that of what is held there, while nobody reclaims all, or somebody does
  abbrev pub StandsBy : At → Option (ℕ × ReclaimAll) → Type 0
  StandsBy p None = IsAt same hash (held NoChange p) p.0
  StandsBy p (Some (i, c)) = IsReclaiming same hash (held NoChange p) p.0 i (lists_at p) c

  -- An act is one of its own: a map is made with a hasher of which it has its hash, and a row begins on the slot of its caller.
  abbrev pub IsOfItsOwn : Doing K V S → Type 0
  IsOfItsOwn (Does act) = IsOwn by_hasher hash act
  IsOfItsOwn doing = Unit {0}

  abbrev pub AreOfTheirOwn : List (Doing K V S) → Type 0
  AreOfTheirOwn [] = Unit {0}
  AreOfTheirOwn (doing ∷ doings) = IsOfItsOwn doing × AreOfTheirOwn doings

  module _ (aborts : ℕ → V) where
    abbrev pub Is : At → State K V S → Type 0
    Is p x = IsOfStage by_hasher same batch_size roots p x.now

    -- Of an act something more may be asked, by the state in which it is done: so of each act of a list.
    abbrev pub FitsIn : (State K V S → Act K V S → Type 0) → State K V S → Doing K V S → Type 0
    FitsIn Fits x (Does act) = Fits x act
    FitsIn Fits x doing = Unit {0}

    abbrev pub AllFit : (State K V S → Act K V S → Type 0) → List (Doing K V S) → State K V S → Type 0
    AllFit Fits [] x = Unit {0}
    AllFit Fits (doing ∷ doings) x =
        FitsIn Fits x doing × ((y : State K V S) → play same by_hasher batch_size roots aborts doing x ≡ Some y → AllFit Fits doings y)

    -- something stays so by each kind of act that fits
    pub record StaysSo (Fits : State K V S → Act K V S → Type 0) (P : At → State K V S → Type 0) : Type 0 where
      pub acts : (p n : At) (x y : State K V S) (act : Act K V S) (told : Answer K V) → IsOwn by_hasher hash act → Fits x act → far p ≡ None → far n ≡ None → Is p x → Is n y
          → IsAt same hash (held NoChange p) p.0 → MayBe same by_hasher batch_size roots slot_of act p.0 → Led same by_hasher batch_size roots slot_of act p.0 told n.0
          → LeadsAs same by_hasher hash act p.0 told n.0 (held NoChange p) (held (changed_by same act p.0) n) → IsAt same hash (held (changed_by same act p.0) n) n.0
          → play_act same by_hasher batch_size roots aborts act x ≡ Some y → P p x → P n y
      pub begins : (p n : At) (x : State K V S) (i : ℕ) (c : ReclaimAll) → far p ≡ None → far n ≡ Some (i, c) → n.0 ≡ p.0 → AllAreFree p.0 → Is p x → Is n (all_begun c x)
          → IsAt same hash (held NoChange p) p.0 → P p x → P n (all_begun c x)
      pub steps : (p n : At) (x y : State K V S) (told : Answer K V) (g : Grant) (st : HasStepped V same by_hasher batch_size roots slot_of g p told n) → Is p x → Is n y
          → IsReclaiming same hash (held NoChange p) p.0 st.caller (lists_at p) st.machine
          → (leads : ReclaimingLeads same hash p.0 st.caller (lists_at p) (held NoChange p) (held (changed_of p.0.world.memory g (reclaim_all_plan deferred_word was_left st.machine)) n) st.machine st.next st.end)
          → n.0 ≡ record p.0 { world = leads.1.w2; maps = leads.1.maps2 }
          → play same by_hasher batch_size roots aborts (StepsReclaiming g) x ≡ Some y → P p x → P n y
      pub chooses : (p n : At) (x : State K V S) (choice : ℕ) → far p ≡ None → far n ≡ None → n.0 ≡ scene_chosen choice p.0 → Is p x → Is n (choice_come choice x)
          → IsAt same hash (held NoChange p) p.0 → P p x → P n (choice_come choice x)

  -- it is that of whatever was changed last
  at_any : (changed other : Changed) (p : At) → IsAt same hash (held changed p) p.0 → IsAt same hash (held other p) p.0
  at_any changed other p at = record { memory = refl; together = at.together; hashes = at.hashes; hashes_made = at.hashes_made; on_slots = at.on_slots; small = at.small }

  -- what is known of the maps makes a stage one of what is held
  stands : (p : At) → batch_size < 2 ^ 64 → ((m : ℕ) (standing : Standing K) → p.0.maps m ≡ Some standing → standing.hash ≡ hash m)
      → ((i : ℕ) (b : Beginning K) → p.0.makers i ≡ Some b → b.hash ≡ hash b.map) → (far p ≡ None → (i : ℕ) → IsRowOn (slot_of i) (p.0.world.row i)) → StandsBy p (far p)
  stands (s, all, inl left) small hashes made rows = record { memory = refl; together = all; hashes = hashes; hashes_made = made; on_slots = rows refl; small = small }
  stands (s, all, inr (i, lists, c, idle)) small hashes made rows = record { memory = refl; under_way = idle; hashes = hashes; small = small }

  -- each doing leads on so
  module _ (size : batch_size < 2 ^ 64) (p n : At) where
    by_act : (act : Act K V S) (told : Answer K V) → IsOwn by_hasher hash act → MayDo V same by_hasher batch_size roots slot_of (Does act) p
        → HasDone V same by_hasher batch_size roots slot_of (Does act) p told n → IsAt same hash (held NoChange p) p.0
        → LeadsAs same by_hasher hash act p.0 told n.0 (held NoChange p) (held (changed_by same act p.0) n) × IsAt same hash (held (changed_by same act p.0) n) n.0
    by_act act told own may done at = acts_lead_as_steps V same by_hasher hash batch_size roots p.0 n.0 NoChange at n.1 act own may.1 told done.0

    begun_by : (i : ℕ) (c : ReclaimAll) → n.0 ≡ p.0 → far n ≡ Some (i, c) → IsAt same hash (held NoChange p) p.0 → StandsBy n (far n)
    begun_by i c same_scene begun at =
        stands n size (subst (λ (s : Scene K V). (m : ℕ) (standing : Standing K) → s.maps m ≡ Some standing → standing.hash ≡ hash m) (sym same_scene) at.hashes)
        (subst (λ (s : Scene K V). (j : ℕ) (b : Beginning K) → s.makers j ≡ Some b → b.hash ≡ hash b.map) (sym same_scene) at.hashes_made)
        (λ none. absurd (let both : None ≡ Some (i, c) = sym none ∙ begun in cc both))

    chosen_by : (choice : ℕ) → n.0 ≡ scene_chosen choice p.0 → IsAt same hash (held NoChange p) p.0 → StandsBy n (far n)
    chosen_by choice is at =
        stands n size (subst (λ (s : Scene K V). (m : ℕ) (standing : Standing K) → s.maps m ≡ Some standing → standing.hash ≡ hash m) (sym is) at.hashes)
        (subst (λ (s : Scene K V). (j : ℕ) (b : Beginning K) → s.makers j ≡ Some b → b.hash ≡ hash b.map) (sym is) at.hashes_made)
        (λ none. subst (λ (s : Scene K V). (j : ℕ) → IsRowOn (slot_of j) (s.world.row j)) (sym is) at.on_slots)

    stepped_by : (g : Grant) (told : Answer K V) (st : HasStepped V same by_hasher batch_size roots slot_of g p told n) → IsReclaiming same hash (held NoChange p) p.0 st.caller (lists_at p) st.machine
        → StandsBy n (far n)
    stepped_by g told st at =
        stands n size
        (subst (λ (s : Scene K V). (m : ℕ) (standing : Standing K) → s.maps m ≡ Some standing → standing.hash ≡ hash m) (sym st.did.comes)
        (λ m. (same_map_keeps (hash m) (p.0.maps m) (st.did.did.maps2 m) (at.hashes m) (st.did.did.as_they_were m)).hashes))
        (subst (λ (s : Scene K V). (j : ℕ) (b : Beginning K) → s.makers j ≡ Some b → b.hash ≡ hash b.map) (sym st.did.comes)
        (λ j b makes. absurd (cc (at.under_way.stand.no_makers j, makes))))
        (λ none. subst (λ (s : Scene K V). (j : ℕ) → IsRowOn (slot_of j) (s.world.row j)) (sym st.did.comes) (rests none st.end refl))
      where
        goes_on : (said : Settled (Node K V)) → st.end ≡ said → far n ≡ still said (st.caller, st.next)
        goes_on said e = st.goes_on ∙ ap (λ (t : Settled (Node K V)). still t (st.caller, st.next)) e

        rests : far n ≡ None → (said : Settled (Node K V)) → st.end ≡ said → (j : ℕ) → IsRowOn (slot_of j) (st.did.did.w2.row j)
        rests none settled.Done e j = subst (IsRowOn (slot_of j)) (sym ((st.did.did.over e).nothing.0 j)) tt
        rests none settled.Goes e j = absurd (let both : None ≡ Some (st.caller, st.next) = sym none ∙ goes_on settled.Goes e in cc both)
        rests none settled.Waits e j = absurd (let both : None ≡ Some (st.caller, st.next) = sym none ∙ goes_on settled.Waits e in cc both)
        rests none (settled.Gave value) e j = absurd (let both : None ≡ Some (st.caller, st.next) = sym none ∙ goes_on (settled.Gave value) e in cc both)

  on_own : (doing : Doing K V S) → IsOfItsOwn doing → IsOnOwn doing
  on_own (Does (BeginsRow i request)) own = own
  on_own doing own = tt

  module _ (size : batch_size < 2 ^ 64) (aborts : ℕ → V) (Fits : State K V S → Act K V S → Type 0) (P : At → State K V S → Type 0) (so : StaysSo aborts Fits P) where
    abbrev pub Stays : At → Doing K V S → State K V S → Type 0
    Stays n doing x =
        (y : State K V S) × (play same by_hasher batch_size roots aborts doing x ≡ Some y) × Is aborts n y × StandsBy n (far n) × P n y

    next_so : (p n : At) (x : State K V S) → Is aborts p x → StandsBy p (far p) → P p x → (doing : Doing K V S) → IsOfItsOwn doing → FitsIn aborts Fits x doing
        → MayDo V same by_hasher batch_size roots slot_of doing p → (told : Answer K V) → HasDone V same by_hasher batch_size roots slot_of doing p told n → Stays n doing x
    next_so p n x is stand here (Does act) own fits may told done =
        let none : far p ≡ None = none_is (far p) may.0 in
        let at : IsAt same hash (held NoChange p) p.0 = subst (StandsBy p) none stand in
        let led = by_act size p n act told own may done at in
        let to = plays_on same by_hasher batch_size roots aborts p n x is (Does act) (on_own (Does act) own) may told done in (
          to.0,
          to.1,
          to.2,
          subst (StandsBy n) (sym done.1) (at_any (changed_by same act p.0) NoChange n led.1),
          so.acts p n x to.0 act told own fits none done.1 is to.2 at may.1 done.0 led.0 led.1 to.1 here,
        )
    next_so p n x is stand here (BeginsReclaiming i) own fits (idle, word, free, there) told done =
        let none : far p ≡ None = none_is (far p) idle in
        let at : IsAt same hash (held NoChange p) p.0 = subst (StandsBy p) none stand in
        let c = reclaiming_all batch_size roots in
        let to = plays_on same by_hasher batch_size roots aborts p n x is (BeginsReclaiming i) tt (idle, word, free, there) told done in
        let is_then : Is aborts n (all_begun c x) = subst (Is aborts n) (sym (same_some (all_begun c x) to.0 to.1)) to.2 in
        (all_begun c x, refl, is_then, begun_by size p n i c done.1 done.3 at, so.begins p n x i c none done.3 done.1 free is is_then at here)
    next_so p n x is stand here (BeginsClearing i) own fits (idle, word, free, slots) told done =
        let none : far p ≡ None = none_is (far p) idle in
        let at : IsAt same hash (held NoChange p) p.0 = subst (StandsBy p) none stand in
        let to = plays_on same by_hasher batch_size roots aborts p n x is (BeginsClearing i) tt (idle, word, free, slots) told done in
        let is_then : Is aborts n (all_begun (clearing roots) x) = subst (Is aborts n) (sym (same_some (all_begun (clearing roots) x) to.0 to.1)) to.2 in
        (all_begun (clearing roots) x, refl, is_then, begun_by size p n i (clearing roots) done.1 done.3 at, so.begins p n x i (clearing roots) none done.3 done.1 free is is_then at here)
    next_so p n x is stand here (Chooses choice) own fits idle told done =
        let none : far p ≡ None = none_is (far p) idle in
        let at : IsAt same hash (held NoChange p) p.0 = subst (StandsBy p) none stand in
        let to = plays_on same by_hasher batch_size roots aborts p n x is (Chooses choice) tt idle told done in
        let is_then : Is aborts n (choice_come choice x) = subst (Is aborts n) (sym (same_some (choice_come choice x) to.0 to.1)) to.2 in
        (choice_come choice x, refl, is_then, chosen_by size p n choice done.1 at, so.chooses p n x choice none done.3 done.1 is is_then at here)
    next_so p n x is stand here (StepsReclaiming g) own fits may told done =
        let at : IsReclaiming same hash (held NoChange p) p.0 done.caller (lists_at p) done.machine = subst (StandsBy p) done.here stand in
        let leads = reclaiming_leads_as_steps V same hash batch_size roots p.0 n.0 NoChange done.caller (lists_at p) done.machine at g done.end done.lists done.next done.did in
        let to = plays_on same by_hasher batch_size roots aborts p n x is (StepsReclaiming g) tt may told done in (
          to.0,
          to.1,
          to.2,
          stepped_by size p n g told done at,
          so.steps p n x to.0 told g done is to.2 at leads.0 leads.1 to.1 here,
        )

    module _ (course : Course V same by_hasher batch_size roots slot_of) where
      along : (doings : List (Doing K V S)) (x y : Reached V same by_hasher batch_size roots slot_of) (state : State K V S) → Is aborts x.0 state → StandsBy x.0 (far x.0) → P x.0 state
          → LedOn V same by_hasher batch_size roots slot_of course doings x y → AreOfTheirOwn doings → AllFit aborts Fits doings state
          → (after : State K V S) × (play_all same by_hasher batch_size roots aborts doings state ≡ Some after) × P y.0 after
      along [] x y state is stand here led own fit = (state, refl, subst (λ (z : Reached V same by_hasher batch_size roots slot_of). P z.0 state) (sym led) here)
      along (doing ∷ doings) x y state is stand here (may, led) (own, others) (fits, fit) =
          let next = on_by V same by_hasher batch_size roots slot_of course x doing may in
          let to = next_so x.0 next.0 state is stand here doing own fits may (course.told x.0 doing may) (course.leads x.0 doing may) in
          let rest = along doings next y to.0 to.2 to.3 to.4 led others (fit to.0 to.1) in
          (rest.0, ap (λ (o : Option (State K V S)). then_on o (play_all same by_hasher batch_size roots aborts doings)) to.1 ∙ rest.1, rest.2)

      -- So it is wherever a list has led, if it is so at first, and each act fits.
      pub wherever : (doings : List (Doing K V S)) (y : Reached V same by_hasher batch_size roots slot_of)
          → LedOn V same by_hasher batch_size roots slot_of course doings (nothing_done V same by_hasher batch_size roots slot_of course) y → AreOfTheirOwn doings
          → P (nothing_done V same by_hasher batch_size roots slot_of course).0 (first_state roots) → AllFit aborts Fits doings (first_state roots)
          → (after : State K V S) × (play_all same by_hasher batch_size roots aborts doings (first_state roots) ≡ Some after) × P y.0 after
      wherever doings y led own first fit =
          along doings (nothing_done V same by_hasher batch_size roots slot_of course) y (first_state roots) (at_first_so same by_hasher batch_size roots aborts course).0
          (record { memory = refl; together = course.first; hashes = λ m standing has. absurd (cc has); hashes_made = λ i b has. absurd (cc has); on_slots = λ i. tt; small = size }) first led own fit
