-- Where no number is given to two maps, each map is made with a new number; and where it is, none is taken with it before it has its root, and no other one is made with it.
use Rattle.std.specs.Prelude.{◌≢◌, ◌⊎◌, ◌==◌, Option, Some, None, is_ok, length, option_map, if◌then◌else◌}
use Rattle.std.proofs.Common.{◌≡◌, ℕ, Bool, true, false, List, [], ◌∷◌, inl, inr, refl, ap, sym, subst, ◌∙◌}
use Rattle.std.proofs.lemmas.Bool.{cases_eq, eq-eqb, ne_eqb}
use Rattle.seize_acts.specs.Acts.Answers.{Grant}
use Rattle.run_schedules.specs.Given.SeizeWordsMem.{Mem}
use Rattle.seize.specs.ReclaimAll.{clearing, reclaiming_all}
use Rattle.seize.specs.World.{with_at}
use Rattle.seize.specs.declared.advance.Advance.{Advance}
use Rattle.seize.specs.declared.advance.Advance.TheVariants as progress
use Rattle.map_tables.specs.declared.node.Node.{Node}
use Rattle.map_tables.specs.declared.setting.Setting.{Setting}
use Rattle.run_kept.specs.Given.ResizeNewMap.{new_map_plan, opening}
use Rattle.run_finds.specs.Given.ResizeDeclared.new_map.NewMap.{NewMap}
use Rattle.run_finds.specs.Given.RawMachine.{machine_asked, machine_replied}
use Rattle.many_acts.proofs.Given.CallersTogether.At.{at_other, at_same}
use Rattle.many_acts.specs.Given.ScenesScene.{slot_of}
use Rattle.run_schedules.specs.declared.outcome.Outcome.TheVariants as outcome
use Rattle.many_acts.specs.Acts.Acts.{Act, BeginsCall, StepsCall, TellsCall, AsksCall, StopsCall, BeginsMaking, StepsMaking, BeginsEnding, StepsEnding, BeginsRow, StepsRow}
use Rattle.many_acts.specs.Acts.AsSteps.{changed_of}
use Rattle.many_acts.specs.Acts.Doings.{Doing, Does, BeginsReclaiming, BeginsClearing, StepsReclaiming, Chooses}
use Rattle.many_acts.specs.Acts.Leads.{MayBe}
use Rattle.many_acts.proofs.Acts.AsSteps.Told.{was_told}
use Rattle.run_schedules.specs.Deeds.Deeds.{Deed, Entry, Replies, Stops}
use Rattle.play_lists.specs.Played.Play.{Making, Now, State, all_begun, choice_come, ending_deed, first_state, has_root, made_on, making_deed, making_stepped, play, reply_for, row_deed}
use Rattle.play_lists.specs.Played.Reached.{made_so, makes_so}
use Rattle.play_lists.proofs.Played.Along.{AllFit, At, Is, StaysSo}
use Rattle.play_lists.proofs.Played.PlayedAs.{PlayedAs, ReclaimedAs, played_as, reclaimed_as}
use Rattle.play_lists.specs.Agrees.Fresh.{HasNewNumber, MakesNew, MakesOnce, OnceIsNew, comes_with, gives_back, is_made, is_taken, makes_one}
use Rattle.play_lists.proofs.Agrees.Numbers.{with_so}
use Rattle.play_lists.proofs.Agrees.Openings.{IsRefused, ending_comes_none, no_other_comes, none_comes, root_kept}
use Rattle.play_lists.proofs.Agrees.Told.{row_of_no_map}
use Rattle.play_lists.proofs.Grouped.Callers.{under as mapped}
use Rattle.run_finds.proofs.Given.General.{same_some}

module _ {K V : Type 0} where
  -- a number that is not taken is none yet by a deed with which none comes
  pub not_yet : (n : ℕ) (d : Deed K V) (log : List (Entry K V)) → comes_with n d ≡ false → is_taken n log ≡ false
      → (if comes_with n d then true else (if gives_back true n d then false else is_taken n log)) ≡ false
  not_yet n d log comes not = ap (λ (q : Bool). if q then true else (if gives_back true n d then false else is_taken n log)) comes ∙ by (gives_back true n d)
    where
      by : (p : Bool) → (if p then false else is_taken n log) ≡ false
      by true = refl
      by false = not

  perhaps_not : (taken : Bool) (n : ℕ) (e : Entry K V) (log : List (Entry K V)) → comes_with n e.deed ≡ false → is_taken n log ≡ false → is_taken n (if taken then e ∷ log else log) ≡ false
  perhaps_not true n e log comes not = not_yet n e.deed log comes not
  perhaps_not false n e log comes not = not

module _ {K V S : Type 0} where
  -- With a number none has come, and none is made.
  pub record IsFree (n : ℕ) (x : State K V S) : Type 0 where
    pub not_come : is_taken n x.history ≡ false
    pub not_made : (i : ℕ) (b : Making S) → x.now.makers i ≡ Some b → b.map ≢ n

  -- A map whose root is not taken yet has a number with which none has come, and each one that is made has a number of its own.
  pub record ComingHolds (x : State K V S) : Type 0 where
    pub rootless : (i : ℕ) (b : Making S) → x.now.makers i ≡ Some b → has_root b.machine.stands ≡ false → is_taken b.map x.history ≡ false
    pub apart : (i j : ℕ) (b d : Making S) → x.now.makers i ≡ Some b → x.now.makers j ≡ Some d → b.map ≡ d.map → i ≡ j

  -- no other map is made with the number of one that begins to be
  abbrev pub IsMadeAlone : State K V S → Act K V S → Type 0
  IsMadeAlone x (BeginsMaking i map hasher given places) = (j : ℕ) (d : Making S) → x.now.makers j ≡ Some d → map ≢ d.map
  IsMadeAlone x act = Unit {0}

-- an act that neither begins the making of a map nor steps it
abbrev pub MakesNone : {K V S : Type 0} → Act K V S → Type 0
MakesNone (BeginsMaking i map hasher given places) = ⊥
MakesNone (StepsMaking i g) = ⊥
MakesNone act = Unit {0}

module _ {K V S : Type 0} where
  -- makings are as they were, and no map has come
  pub record LeavesMakings (x y : State K V S) : Type 0 where
    pub come : (n : ℕ) → is_taken n x.history ≡ false → is_taken n y.history ≡ false
    pub makers : (i : ℕ) (b : Making S) → y.now.makers i ≡ Some b → x.now.makers i ≡ Some b

module _ {K V S : Type 0} (same : K → K → Bool) (hash : S → K → ℕ) (batch_size roots : ℕ) (aborts : ℕ → V) (x y : State K V S) where
  leaves : (z : State K V S) → y ≡ z → LeavesMakings x z → LeavesMakings x y
  leaves z is so = subst (LeavesMakings x) (sym is) so

  acts_leave : (act : Act K V S) → MakesNone act → PlayedAs same hash batch_size roots aborts x y act → LeavesMakings x y
  acts_leave (BeginsCall i m wanted) none (at, there, is) = leaves _ is (record { come = λ n not. not; makers = λ j d has. has })
  acts_leave (StepsCall i m g) none (at, stands, (c, has, end, came, is)) = leaves _ is (record { come = λ n not. not; makers = λ j d has. has })
  acts_leave (TellsCall i m reply) none (c, has, is) =
      leaves _ is
      (record {
        come = λ n not. perhaps_not (is_ok (machine_replied c.machine reply).1) n (record { deed = Replies i (reply_for (aborts (length x.told)) reply); outcome = outcome.Goes; effects = []; refused = false }) x.history refl not;
        makers = λ j d has. has;
      })
  acts_leave (AsksCall i m) none (c, has, is) = leaves _ is (record { come = λ n not. not; makers = λ j d has. has })
  acts_leave (StopsCall i m) none (c, has, is) =
      leaves _ is
      (record {
        come = λ n not. perhaps_not (machine_asked c.machine).1 n (record { deed = Stops i; outcome = outcome.Done; effects = []; refused = false }) x.history refl not;
        makers = λ j d has. has;
      })
  acts_leave (BeginsMaking i map hasher given places) none is = absurd none
  acts_leave (StepsMaking i g) none by = absurd none
  acts_leave (BeginsEnding i m) none (at, there, is) = leaves _ is (record { come = λ n not. not; makers = λ j d has. has })
  acts_leave (StepsEnding i g) none (f, has, end, came, is) =
      leaves _ is
      (record { come = λ n not. not_yet n (ending_deed f end.1.1) x.history (ending_comes_none K V f end.1.1 n) not; makers = λ j d has. has })
  acts_leave (BeginsRow i request) none (called, there, is) = leaves _ is (record { come = λ n not. not; makers = λ j d has. has })
  acts_leave (StepsRow i g) none (row, has, end, came, is) =
      leaves _ is
      (record { come = λ n not. not_yet n (row_deed row) x.history ((row_of_no_map {K = K} {V = V} row).comes n) not; makers = λ j d has. has })

  pub reclaiming_leaves : (g : Grant) → ReclaimedAs same hash batch_size roots aborts x y g → LeavesMakings x y
  reclaiming_leaves g (c, has, end, came, is) = leaves _ is (record { come = λ n not. not; makers = λ j d has. has })

  -- what a making comes to, and that map that comes by it
  module _ (i : ℕ) (g : Grant) (b : Making S) (end : Mem (Node K V) × (NewMap × Advance Setting))
      (is : y ≡ making_stepped i b (changed_of x.now.memory g (new_map_plan {K = K} {V = V} b.machine)) x end) where
    others_come_none : (n : ℕ) → b.map ≢ n → is_taken n x.history ≡ false → is_taken n y.history ≡ false
    others_come_none n other not =
        ap (λ (z : State K V S). is_taken n z.history) is
        ∙ not_yet n (making_deed b.map b.machine end.1.0) x.history (no_other_comes K V b.map b.machine end.1.0 n (ne_eqb b.map n other)) not

    rootless_comes_none : has_root end.1.0.stands ≡ false → (n : ℕ) → is_taken n x.history ≡ false → is_taken n y.history ≡ false
    rootless_comes_none none n not =
        ap (λ (z : State K V S). is_taken n z.history) is
        ∙ not_yet n (making_deed b.map b.machine end.1.0) x.history (none_comes K V b.map b.machine end.1.0 none n) not

    -- each maker then is another one, or goes on as its machine does
    makers_then : (P : ℕ → Making S → Type 0) → ((IsRefused end.1.1 → ⊥) → P i (record b { machine = end.1.0 })) → ((j : ℕ) (d : Making S) → x.now.makers j ≡ Some d → (j ≢ i) → P j d) → (j : ℕ) (d : Making S)
        → y.now.makers j ≡ Some d → P j d
    makers_then P own others j d has = by end.1.1 refl (sym (ap (λ (z : State K V S). z.now.makers j) is) ∙ has)
      where
        now : Now K V S
        now = record x.now { memory = end.0 }

        at : (next : Option (Making S)) → ((d : Making S) → next ≡ Some d → P i d) → with_at x.now.makers i next j ≡ Some d → P j d
        at next its there = elim (cases_eq j i) as (λ _. P j d) [
          | inl e ↦ subst (λ (k : ℕ). P k d) (sym e) (its d (sym (at_same x.now.makers i next j e) ∙ there))
          | inr ne ↦ others j d (sym (at_other x.now.makers i next j ne) ∙ there) ne
        ]

        goes : (IsRefused end.1.1 → ⊥) → (d : Making S) → Some (record b { machine = end.1.0 }) ≡ Some d → P i d
        goes not d it = subst (P i) (same_some (record b { machine = end.1.0 }) d it) (own not)

        by : (t : Advance Setting) → end.1.1 ≡ t → (made_on i b end.1.0 t now).makers j ≡ Some d → P j d
        by progress.Goes e there = at (Some (record b { machine = end.1.0 })) (goes (λ refused. subst IsRefused e refused)) there
        by progress.Waits e there = at (Some (record b { machine = end.1.0 })) (goes (λ refused. subst IsRefused e refused)) there
        by (progress.Done setting) e there = at None (λ d none. absurd (cc none)) there
        by (progress.Refused fault) e there = at None (λ d none. absurd (cc none)) there

  -- A number stays free by each act that does not make a map with it.
  module _ (n : ℕ) (free : IsFree n x) where
    left_free : LeavesMakings x y → IsFree n y
    left_free so = record { not_come = so.come n free.not_come; not_made = λ i b has. free.not_made i b (so.makers i b has) }

    acts_free : (act : Act K V S) → makes_one n (Does act) ≡ false → PlayedAs same hash batch_size roots aborts x y act → IsFree n y
    acts_free (BeginsMaking i map hasher given places) none is =
        subst (IsFree n) (sym is)
        (record {
          not_come = free.not_come;
          not_made = with_so x.now.makers i (Some it) (λ j d. d.map ≢ n)
              (λ d its. subst (λ (b : Making S). b.map ≢ n) (same_some it d its) (λ e. absurd (let made : true ≡ false = sym (eq-eqb map n e) ∙ none in cc made))) free.not_made;
        })
      where
        it : Making S
        it = record { map = map; hasher = hasher; machine = opening given roots places }
    acts_free (StepsMaking i g) none (b, has, end, came, is) = record {
      not_come = others_come_none i g b end is n (free.not_made i b has) free.not_come;
      not_made = makers_then i g b end is (λ j d. d.map ≢ n) (λ on. free.not_made i b has) (λ j d there ne. free.not_made j d there);
    }
    acts_free (BeginsCall i m wanted) none by = left_free (acts_leave (BeginsCall i m wanted) tt by)
    acts_free (StepsCall i m g) none by = left_free (acts_leave (StepsCall i m g) tt by)
    acts_free (TellsCall i m reply) none by = left_free (acts_leave (TellsCall i m reply) tt by)
    acts_free (AsksCall i m) none by = left_free (acts_leave (AsksCall i m) tt by)
    acts_free (StopsCall i m) none by = left_free (acts_leave (StopsCall i m) tt by)
    acts_free (BeginsEnding i m) none by = left_free (acts_leave (BeginsEnding i m) tt by)
    acts_free (StepsEnding i g) none by = left_free (acts_leave (StepsEnding i g) tt by)
    acts_free (BeginsRow i request) none by = left_free (acts_leave (BeginsRow i request) tt by)
    acts_free (StepsRow i g) none by = left_free (acts_leave (StepsRow i g) tt by)

    pub doing_free : (doing : Doing K V S) → makes_one n doing ≡ false → play same hash batch_size roots aborts doing x ≡ Some y → IsFree n y
    doing_free (Does act) none played = acts_free act none (played_as same hash batch_size roots aborts x y act played)
    doing_free (BeginsReclaiming i) none played =
        subst (IsFree n) (same_some (all_begun (reclaiming_all batch_size roots) x) y played) (record { not_come = free.not_come; not_made = free.not_made })
    doing_free (BeginsClearing i) none played = subst (IsFree n) (same_some (all_begun (clearing roots) x) y played) (record { not_come = free.not_come; not_made = free.not_made })
    doing_free (Chooses choice) none played = subst (IsFree n) (same_some (choice_come choice x) y played) (record { not_come = free.not_come; not_made = free.not_made })
    doing_free (StepsReclaiming g) none played = left_free (reclaiming_leaves g (reclaimed_as same hash batch_size roots aborts x y g played))

  -- A map whose root is not taken yet has a number with which none has come, and of which no other is made.
  module _ (coming : ComingHolds x) where
    left_coming : LeavesMakings x y → ComingHolds y
    left_coming so = record {
      rootless = λ i b has none. so.come b.map (coming.rootless i b (so.makers i b has) none);
      apart = λ i j b d one two same. coming.apart i j b d (so.makers i b one) (so.makers j d two) same;
    }

    pub acts_come : (act : Act K V S) → HasNewNumber x act → IsMadeAlone x act → PlayedAs same hash batch_size roots aborts x y act → ComingHolds y
    acts_come (BeginsMaking i map hasher given places) new alone is =
        subst ComingHolds (sym is)
        (record {
          rootless = with_so x.now.makers i (Some it) (λ j d. has_root d.machine.stands ≡ false → is_taken d.map x.history ≡ false)
              (λ d its none. subst (λ (b : Making S). is_taken b.map x.history ≡ false) (same_some it d its) new) coming.rootless;
          apart = λ j k b d one two e. apart_then j k b d (cases_eq j i) (cases_eq k i) one two e;
        })
      where
        it : Making S
        it = record { map = map; hasher = hasher; machine = opening given roots places }

        its_map : (j : ℕ) (b : Making S) → j ≡ i → with_at x.now.makers i (Some it) j ≡ Some b → b.map ≡ map
        its_map j b e has = sym (ap (λ (z : Making S). z.map) (same_some it b (sym (at_same x.now.makers i (Some it) j e) ∙ has)))

        was : (j : ℕ) (b : Making S) → j ≢ i → with_at x.now.makers i (Some it) j ≡ Some b → x.now.makers j ≡ Some b
        was j b ne has = sym (at_other x.now.makers i (Some it) j ne) ∙ has

        apart_then : (j k : ℕ) (b d : Making S) → (j ≡ i) ⊎ (j ≢ i) → (k ≡ i) ⊎ (k ≢ i) → with_at x.now.makers i (Some it) j ≡ Some b → with_at x.now.makers i (Some it) k ≡ Some d → b.map ≡ d.map → j ≡ k
        apart_then j k b d (inl e) (inl f) one two same_map = e ∙ sym f
        apart_then j k b d (inl e) (inr ne) one two same_map = absurd (alone k d (was k d ne two) (sym (its_map j b e one) ∙ same_map))
        apart_then j k b d (inr ne) (inl f) one two same_map = absurd (alone j b (was j b ne one) (sym (its_map k d f two) ∙ sym same_map))
        apart_then j k b d (inr ne) (inr other) one two same_map = coming.apart j k b d (was j b ne one) (was k d other two) same_map
    acts_come (StepsMaking i g) new alone (b, has, end, came, is) = record {
      rootless = makers_then i g b end is (λ j d. has_root d.machine.stands ≡ false → is_taken d.map y.history ≡ false)
          (λ on none. rootless_comes_none i g b end is none b.map (coming.rootless i b has (was_rootless on none)))
          (λ j d there ne none. others_come_none i g b end is d.map (λ e. ne (sym (coming.apart i j b d has there e))) (coming.rootless j d there none));
      apart = λ j k c d one two. coming_apart j k c d (at j c one) (at k d two);
    }
      where
        was_rootless : (IsRefused end.1.1 → ⊥) → has_root end.1.0.stands ≡ false → has_root b.machine.stands ≡ false
        was_rootless on none = by (has_root b.machine.stands) refl
          where
            by : (q : Bool) → has_root b.machine.stands ≡ q → has_root b.machine.stands ≡ false
            by false e = e
            by true e =
                let plan = new_map_plan {K = K} {V = V} b.machine in
                absurd (on (root_kept b.machine x.now.memory end.0 (changed_of x.now.memory g plan) end.1 b.machine.stands refl e (was_told x.now.memory g plan end came) none))

        -- each maker makes the map that it made
        at : (j : ℕ) (c : Making S) → y.now.makers j ≡ Some c → (d : Making S) × (x.now.makers j ≡ Some d) × (d.map ≡ c.map)
        at = makers_then i g b end is (λ j c. (d : Making S) × (x.now.makers j ≡ Some d) × (d.map ≡ c.map)) (λ on. (b, has, refl)) (λ j d there ne. (d, there, refl))

        coming_apart : (j k : ℕ) (c d : Making S) → (e : Making S) × (x.now.makers j ≡ Some e) × (e.map ≡ c.map) → (e : Making S) × (x.now.makers k ≡ Some e) × (e.map ≡ d.map) → c.map ≡ d.map → j ≡ k
        coming_apart j k c d (e, one, its) (f, two, its2) same_map = coming.apart j k e f one two (its ∙ same_map ∙ sym its2)
    acts_come (BeginsCall i m wanted) new alone by = left_coming (acts_leave (BeginsCall i m wanted) tt by)
    acts_come (StepsCall i m g) new alone by = left_coming (acts_leave (StepsCall i m g) tt by)
    acts_come (TellsCall i m reply) new alone by = left_coming (acts_leave (TellsCall i m reply) tt by)
    acts_come (AsksCall i m) new alone by = left_coming (acts_leave (AsksCall i m) tt by)
    acts_come (StopsCall i m) new alone by = left_coming (acts_leave (StopsCall i m) tt by)
    acts_come (BeginsEnding i m) new alone by = left_coming (acts_leave (BeginsEnding i m) tt by)
    acts_come (StepsEnding i g) new alone by = left_coming (acts_leave (StepsEnding i g) tt by)
    acts_come (BeginsRow i request) new alone by = left_coming (acts_leave (BeginsRow i request) tt by)
    acts_come (StepsRow i g) new alone by = left_coming (acts_leave (StepsRow i g) tt by)

module _ {K S : Type 0} (V : Type 0) (same : K → K → Bool) (by_hasher : S → K → ℕ) (hash : ℕ → K → ℕ) (batch_size roots : ℕ) (aborts : ℕ → V) where
  -- A list of acts by which no number is made twice makes each map with a new number, where its numbers are free.
  abbrev AreFree : List (Doing K V S) → State K V S → Type 0
  AreFree doings x = (n : ℕ) → is_made n doings ≡ true → IsFree n x

  abbrev New : List (Doing K V S) → State K V S → Type 0
  New doings x = MakesNew same by_hasher batch_size roots aborts doings x

  later : (q b : Bool) → b ≡ true → (if q then true else b) ≡ true
  later true b e = refl
  later false b e = e

  -- what is not made now is free then
  others_free : (doing : Doing K V S) (doings : List (Doing K V S)) (x y : State K V S) → ((n : ℕ) → is_made n doings ≡ true → makes_one n doing ≡ false) → AreFree (doing ∷ doings) x
      → play same by_hasher batch_size roots aborts doing x ≡ Some y → AreFree doings y
  others_free doing doings x y apart free played n made =
      doing_free same by_hasher batch_size roots aborts x y n (free n (later (makes_one n doing) (is_made n doings) made)) doing (apart n made) played

  new_numbers : (doings : List (Doing K V S)) (x : State K V S) → MakesOnce doings → AreFree doings x → New doings x
  new_numbers [] x once free = tt
  new_numbers (Does (BeginsMaking i map hasher given places) ∷ doings) x once free = (
    (free map (ap (λ (q : Bool). if q then true else is_made map doings) (eq-eqb map map refl))).not_come,
    λ y played. new_numbers doings y once.1 (others_free (Does (BeginsMaking i map hasher given places)) doings x y apart free played),
  )
    where
      apart : (n : ℕ) → is_made n doings ≡ true → (map == n) ≡ false
      apart n made = ne_eqb map n (λ e. absurd (let both : true ≡ false = sym made ∙ sym (ap (λ (k : ℕ). is_made k doings) e) ∙ once.0 in cc both))
  new_numbers (Does (BeginsCall i m wanted) ∷ doings) x once free = (tt, λ y played. new_numbers doings y once (others_free (Does (BeginsCall i m wanted)) doings x y (λ n made. refl) free played))
  new_numbers (Does (StepsCall i m g) ∷ doings) x once free = (tt, λ y played. new_numbers doings y once (others_free (Does (StepsCall i m g)) doings x y (λ n made. refl) free played))
  new_numbers (Does (TellsCall i m reply) ∷ doings) x once free = (tt, λ y played. new_numbers doings y once (others_free (Does (TellsCall i m reply)) doings x y (λ n made. refl) free played))
  new_numbers (Does (AsksCall i m) ∷ doings) x once free = (tt, λ y played. new_numbers doings y once (others_free (Does (AsksCall i m)) doings x y (λ n made. refl) free played))
  new_numbers (Does (StopsCall i m) ∷ doings) x once free = (tt, λ y played. new_numbers doings y once (others_free (Does (StopsCall i m)) doings x y (λ n made. refl) free played))
  new_numbers (Does (StepsMaking i g) ∷ doings) x once free = (tt, λ y played. new_numbers doings y once (others_free (Does (StepsMaking i g)) doings x y (λ n made. refl) free played))
  new_numbers (Does (BeginsEnding i m) ∷ doings) x once free = (tt, λ y played. new_numbers doings y once (others_free (Does (BeginsEnding i m)) doings x y (λ n made. refl) free played))
  new_numbers (Does (StepsEnding i g) ∷ doings) x once free = (tt, λ y played. new_numbers doings y once (others_free (Does (StepsEnding i g)) doings x y (λ n made. refl) free played))
  new_numbers (Does (BeginsRow i request) ∷ doings) x once free = (tt, λ y played. new_numbers doings y once (others_free (Does (BeginsRow i request)) doings x y (λ n made. refl) free played))
  new_numbers (Does (StepsRow i g) ∷ doings) x once free = (tt, λ y played. new_numbers doings y once (others_free (Does (StepsRow i g)) doings x y (λ n made. refl) free played))
  new_numbers (BeginsReclaiming i ∷ doings) x once free = (tt, λ y played. new_numbers doings y once (others_free (BeginsReclaiming i) doings x y (λ n made. refl) free played))
  new_numbers (BeginsClearing i ∷ doings) x once free = (tt, λ y played. new_numbers doings y once (others_free (BeginsClearing i) doings x y (λ n made. refl) free played))
  new_numbers (StepsReclaiming g ∷ doings) x once free = (tt, λ y played. new_numbers doings y once (others_free (StepsReclaiming g) doings x y (λ n made. refl) free played))
  new_numbers (Chooses choice ∷ doings) x once free = (tt, λ y played. new_numbers doings y once (others_free (Chooses choice) doings x y (λ n made. refl) free played))

  pub once_is_new : OnceIsNew same by_hasher batch_size roots aborts
  once_is_new doings once = new_numbers doings (first_state roots) once (λ n made. record { not_come = refl; not_made = λ i b has. absurd (cc has) })

  -- Of a list that makes each map with a new number each act has one.
  pub new_fits : (doings : List (Doing K V S)) (x : State K V S) → New doings x → AllFit V same by_hasher hash batch_size roots aborts HasNewNumber doings x
  new_fits [] x new = tt
  new_fits (Does act ∷ doings) x new = (new.0, λ y played. new_fits doings y (new.1 y played))
  new_fits (BeginsReclaiming i ∷ doings) x new = (tt, λ y played. new_fits doings y (new.1 y played))
  new_fits (BeginsClearing i ∷ doings) x new = (tt, λ y played. new_fits doings y (new.1 y played))
  new_fits (StepsReclaiming g ∷ doings) x new = (tt, λ y played. new_fits doings y (new.1 y played))
  new_fits (Chooses choice ∷ doings) x new = (tt, λ y played. new_fits doings y (new.1 y played))

  -- no other is made with that number, where a making may begin
  made_alone : (p : At V same by_hasher hash batch_size roots) (x : State K V S) → Is V same by_hasher hash batch_size roots aborts p x → (act : Act K V S) → MayBe same by_hasher batch_size roots slot_of act p.0
      → IsMadeAlone x act
  made_alone p x is (BeginsMaking i map hasher given places) may = λ j d has e.
      (let it = mapped made_so (p.0.makers j) (makes_so by_hasher d) (sym (is.scene.makers j) ∙ ap (option_map (makes_so by_hasher)) has) in
      may.2 j it.0 it.1 (e ∙ sym (ap (λ (q : ℕ × ((K → ℕ) × NewMap)). q.0) it.2)))
  made_alone p x is (BeginsCall i m wanted) may = tt
  made_alone p x is (StepsCall i m g) may = tt
  made_alone p x is (TellsCall i m reply) may = tt
  made_alone p x is (AsksCall i m) may = tt
  made_alone p x is (StopsCall i m) may = tt
  made_alone p x is (StepsMaking i g) may = tt
  made_alone p x is (BeginsEnding i m) may = tt
  made_alone p x is (StepsEnding i g) may = tt
  made_alone p x is (BeginsRow i request) may = tt
  made_alone p x is (StepsRow i g) may = tt

  pub coming_stay : StaysSo V same by_hasher hash batch_size roots aborts HasNewNumber (λ p x. ComingHolds x)
  coming_stay = record {
    acts = λ p n x y act told own fits none none_then is is_then at may led leads at_then played so.
        acts_come same by_hasher batch_size roots aborts x y so act fits (made_alone p x is act may) (played_as same by_hasher batch_size roots aborts x y act played);
    begins = λ p n x i c none begun same_scene all_free is is_then at so. record { rootless = so.rootless; apart = so.apart };
    steps = λ p n x y told g st is is_then at leads comes played so.
        left_coming same by_hasher batch_size roots aborts x y so (reclaiming_leaves same by_hasher batch_size roots aborts x y g (reclaimed_as same by_hasher batch_size roots aborts x y g played));
    chooses = λ p n x choice none none_then scene is is_then at so. record { rootless = so.rootless; apart = so.apart };
  }

-- nothing is made at first
pub coming_first : {K V S : Type 0} (roots : ℕ) → ComingHolds {K = K} {V = V} {S = S} (first_state roots)
coming_first roots = record { rootless = λ i b has none. absurd (cc has); apart = λ i j b d one two same_map. absurd (cc one) }
