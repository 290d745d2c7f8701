-- A step of the making of a map, as it is played: its map comes as it must, and other maps come and go as before.
use Rattle.std.specs.Prelude.{◌≡◌, ◌≢◌, ◌⊎◌, ◌<◌, ℕ, Bool, true, false, List, [], Option, Some, None}
use Rattle.std.proofs.Common.{refl, ap, sym, subst, ◌∙◌, inl, inr}
use Rattle.std.proofs.lemmas.Bool.{cases_eq}
use Rattle.seize_acts.specs.Acts.Answers.{Grant}
use Rattle.run_schedules.specs.Given.SeizeWordsMem.{Mem}
use Rattle.seize_acts.specs.Given.SeizeWorld.{World, with_at}
use Rattle.seize_acts.specs.Given.SeizeDeclared.advance.Advance.{Advance}
use Rattle.seize_acts.specs.Given.SeizeDeclared.advance.Advance.TheVariants as progress
use Rattle.play_lists.specs.Given.EffectsDeclared.changed.Changed.{Changed}
use Rattle.play_lists.specs.Given.TablesDeclared.node.Node.{Node}
use Rattle.play_lists.specs.Given.TablesDeclared.setting.Setting.{Setting}
use Rattle.run_logged.specs.Given.ResizeNewMap.{at_root, new_map_plan}
use Rattle.run_logged.specs.Given.ResizeDeclared.new_map.NewMap.{NewMap}
use Rattle.run_logged.specs.Given.ResizeDeclared.new_map.Opening.{Opening}
use Rattle.run_logged.specs.Given.ResizeDeclared.new_map.Opening.TheVariants as opens
use Rattle.play_lists.specs.Given.TellerTells.{StepsObserved}
use Rattle.play_lists.specs.Given.EffectsDeclared.changed.Changed.TheVariants as changed
use Rattle.play_lists.specs.Given.FinishesEndings.{MakingStepsWithEndings}
use Rattle.play_lists.specs.Given.FinishesMakings.{Beginning, HasTaken, PreservesItsOwn, MakingFacts, OpeningFacts}
use Rattle.run_logged.proofs.Given.CallersTogether.At.{at_other, at_same}
use Rattle.play_lists.specs.Given.ScenesHeld.{Held, IsAt}
use Rattle.play_lists.specs.Given.ScenesMaking.{MakingLeads}
use Rattle.play_lists.specs.Given.ScenesScene.{Scene, slot_of}
use Rattle.run_schedules.specs.declared.effect.Effect.{Effect}
use Rattle.run_schedules.specs.declared.outcome.Outcome.{Outcome}
use Rattle.run_schedules.specs.Schedules.Effects.{with_effects}
use Rattle.run_schedules.specs.Schedules.Moment.{MapThere, Moment}
use Rattle.run_schedules.specs.Schedules.Views.{tables_of}
use Rattle.play_lists.specs.Given.EffectsEffects.{effects_of}
use Rattle.play_lists.specs.Given.EffectsKnown.{Known}
use Rattle.play_lists.specs.Given.EffectsDeclared.acting.Acting.TheVariants as acts
use Rattle.play_lists.specs.Given.OthersMakings.{IsNew, WasNew}
use Rattle.run_logged.specs.Given.MomentsNumbers.{AreFound}
use Rattle.run_logged.specs.Given.MomentsWhole.{RefinesWhole}
use Rattle.play_lists.proofs.Given.OthersMakingGoes.{new_maps_stay}
use Rattle.play_lists.specs.Given.RemainsNumbered.{NumbersUpTo}
use Rattle.play_lists.proofs.Given.RemainsNumbered.{makings_keep_count}
use Rattle.play_lists.proofs.Given.ActsAsSteps.Told.{was_told}
use Rattle.play_lists.specs.Given.ActsAsSteps.{changed_of, held_in}
use Rattle.play_lists.specs.Given.ActsLeads.{MakingCame, making_steps}
use Rattle.play_lists.proofs.Agrees.Elsewhere.{SameOf}
use Rattle.play_lists.proofs.Agrees.Openings.{IsRefused, done_rooted, root_kept, rootless_quiet}
use Rattle.run_schedules.specs.Deeds.Deeds.{Deed, Entry, after, come, named, without_map}
use Rattle.play_lists.specs.Played.Play.{Ending, has_root, pairs_for}
use Rattle.play_linear.specs.Linear.Coming.{Comes, ComesBy, IsUnknown, MapsComeAndGo}
use Rattle.play_linear.proofs.Linear.Coming.{come_leaves, come_there, comes_bare, comes_on, gone_leaves, new_on, others_leave, same_of, same_then, unknown_on}
use Rattle.play_linear.proofs.Linear.Counted.{all_found, counted_again, counted_come, counted_gone}
use Rattle.play_linear.proofs.Linear.MapActs.{deed_by}
use Rattle.play_linear.proofs.Linear.MapsPlayed.{IsApart}
use Rattle.play_linear.proofs.Linear.Names.{apart_so}
use Rattle.play_lists.specs.Agrees.Fresh.{AreNamed}
use Rattle.play_lists.proofs.Agrees.Names.{come_named, effects_named, gone_named}
use Rattle.run_schedules.proofs.Given.General.{same_some}

-- it has taken its root where it has it
has_taken : {K V : Type 0} (w : World (Node K V)) (roots i : ℕ) (n : NewMap) (p : Opening) → OpeningFacts w roots i n p → has_root p ≡ true → HasTaken p
has_taken w roots i n opens.Takes facts has = absurd (cc has)
has_taken w roots i n opens.Shards facts has = tt
has_taken w roots i n (opens.Tables making) facts has = tt
has_taken w roots i n (opens.Unmakes fault) facts has = tt
has_taken w roots i n (opens.Frees fault) facts has = tt
has_taken w roots i n opens.Over facts has = absurd facts
has_taken w roots i n (opens.Refused fault) facts has = absurd facts

-- The step of a making has led on so.
module _ {K V S : Type 0} (same : K → K → Bool) (by_hasher : S → K → ℕ) (hash : ℕ → K → ℕ) (batch_size roots : ℕ) (m : Moment K V) (known : Known) (enders : ℕ → Option Ending) (s n : Scene K V) (before : Changed) (new : Held K V)
    (at : IsAt same hash (held_in batch_size roots before s) s) (whole : RefinesWhole same named m known s) (so : MapsComeAndGo m known enders s) (i : ℕ) (g : Grant) (b : Beginning K) (m2 : Mem (Node K V)) (machine : NewMap) (said : Advance Setting)
    (makes : s.makers i ≡ Some b) (computed : making_steps {S = S} same by_hasher batch_size roots slot_of s g b ≡ Some (m2, (machine, said)))
    (did : MakingStepsWithEndings V same same batch_size roots slot_of s.world s.maps s.calls s.makers s.enders i b m2 (machine, said))
    (came : MakingCame {S = S} same by_hasher batch_size roots slot_of s i b did.step.w2 machine n said) (leads : MakingLeads same hash i said s (held_in batch_size roots before s) new) where
  abbrev old : Held K V
  old = held_in batch_size roots before s

  abbrev effects : List Effect
  effects = effects_of (acts.Making b.map) known new.changed

  abbrev had : Bool
  had = has_root b.machine.stands

  abbrev has : Bool
  has = has_root machine.stands

  facts : MakingFacts s.world same batch_size roots i b
  facts = at.together.makings.facts i b makes

  abbrev change : Changed
  change = changed_of s.world.memory g (new_map_plan {K = K} {V = V} b.machine)

  told : StepsObserved K V (NewMap × Advance Setting) s.world.memory changed.Nothing (new_map_plan b.machine) m2 change (machine, said)
  told = was_told s.world.memory g (new_map_plan {K = K} {V = V} b.machine) (m2, (machine, said)) computed

  -- it had its root if its map stands then, and has it still unless it is refused
  done_had : (setting : Setting) → said ≡ progress.Done setting → had ≡ true
  done_had setting done = done_rooted b.machine s.world.memory m2 change (machine, said) b.machine.stands setting told done

  kept : had ≡ true → has ≡ false → IsRefused said
  kept was none = root_kept b.machine s.world.memory m2 change (machine, said) b.machine.stands refl was told none

  its : Comes b m
  its = so.coming i b makes

  itself : (q : Bool) → had ≡ q → ComesBy q b m
  itself q is = subst (λ (p : Bool). ComesBy p b m) is its

  had_taken : had ≡ true → HasTaken b.machine.stands
  had_taken is = has_taken s.world roots i b.machine b.machine.stands facts.point is

  below : b.map < so.count
  below = so.below.made i b makes

  -- while it has no root nothing is done
  quiet : had ≡ false → effects ≡ []
  quiet none = rootless_quiet b.machine old.memory new.memory new.changed ((leads b makes).0, said) b.machine.stands none (leads b makes).1 (acts.Making b.map) known

  -- the moment after its effects
  abbrev w : Moment K V
  w = with_effects None (Some b.map) effects m

  w_numbers : NumbersUpTo so.count w
  w_numbers = makings_keep_count K V same hash m known s new so.count so.below so.numbers i b makes None (Some b.map)

  w_names : AreNamed w
  w_names = effects_named None (Some b.map) effects m so.names

  worked_other : (k : ℕ) → b.map ≢ k → tables_of k m ≡ [] → SameOf k m w
  worked_other k other bare = others_leave m known whole.blocks k bare (acts.Making b.map) other new.changed None (Some b.map) (λ e. other (cc e))

  -- What is asked of it: a map that stands then was there as a new one,
  new_by : (p : Advance Setting) → said ≡ p → PreservesItsOwn V same same batch_size roots slot_of s.world did.step.w2 b.machine (machine, p)
      → MakingCame {S = S} same by_hasher batch_size roots slot_of s i b did.step.w2 machine n p → WasNew b.map p m
  new_by (progress.Done setting) done keeps (standing, is_made, led) =
      let was = done_had setting done in
      let new_one = itself true was in
      record {
        there = new_one.there;
        is = new_one.is;
        root = new_one.root ∙ sym (keeps.0 (had_taken was));
        mode = new_one.mode ∙ sym (ap (λ (z : Setting). z.mode) is_made.answer_is);
        first = new_one.first;
        no_pairs = new_one.no_pairs;
        no_tables = new_one.no_tables;
      }
  new_by progress.Goes is keeps came = tt
  new_by progress.Waits is keeps came = tt
  new_by (progress.Refused fault) is keeps came = tt

  pub was_new : WasNew b.map said m
  was_new = new_by said refl did.step.keeps came

  -- one that had no root does not stand then,
  never : (p : Advance Setting) → said ≡ p → had ≡ false → (v : Moment K V) → WasNew b.map p v
  never (progress.Done setting) done none v = absurd (let was = done_had setting done in cc (was, none))
  never progress.Goes is none v = tt
  never progress.Waits is none v = tt
  never (progress.Refused fault) is none v = tt

  pub not_yet : had ≡ false → (v : Moment K V) → WasNew b.map said v
  not_yet none v = never said refl none v

  pub unknown_yet : had ≡ false → IsUnknown b.map m
  unknown_yet none = itself false none

  -- and one that has left its root was refused.
  fails_by : (p : Advance Setting) → IsRefused p → MakingCame {S = S} same by_hasher batch_size roots slot_of s i b did.step.w2 machine n p → n.maps b.map ≡ None
  fails_by (progress.Refused fault) refused came = ap (λ (z : Scene K V). z.maps b.map) came ∙ at.together.makings.coming i b makes
  fails_by progress.Goes refused came = absurd refused
  fails_by progress.Waits refused came = absurd refused
  fails_by (progress.Done setting) refused came = absurd refused

  pub fails : had ≡ true → has ≡ false → AreFound w × IsApart b.map w n
  fails was none = (all_found so.count w w_numbers, apart_so b.map w n w_names (fails_by said (kept was none) came))

  -- The moment after the entry of this step, by whether it had its root and has it.
  module _ (at2 : IsAt same hash new n) (o : Outcome V) (refused : Bool) where
    abbrev step : Deed K V → List Effect → Entry K V
    step d l = record { deed = d; outcome = o; effects = l; refused = refused }

    abbrev then_at : Bool → Bool → List Effect → Moment K V
    then_at p q l = after (step (deed_by b.map machine p q) l) m

    abbrev pub v : Moment K V
    v = then_at had has effects

    abbrev f : MapThere
    f = record { name = named b.map; number = b.map; root = machine.setting.root; mode = machine.setting.mode; capacity = pairs_for machine.len; first = 0 }

    come_numbers : had ≡ false → NumbersUpTo so.count (come f m)
    come_numbers none = counted_come so.count f m (unknown_yet none).none below so.numbers

    numbers_by : (p q : Bool) → had ≡ p → has ≡ q → NumbersUpTo so.count (then_at p q effects)
    numbers_by true true was is = counted_again so.count w (then_at true true effects) refl refl w_numbers
    numbers_by false false was is = counted_again so.count w (then_at false false effects) refl refl w_numbers
    numbers_by true false was is = counted_again so.count (record w { maps = without_map b.map w.maps }) (then_at true false effects) refl refl (counted_gone so.count b.map w w_numbers)
    numbers_by false true was is =
        counted_again so.count (with_effects None (Some b.map) effects (come f m)) (then_at false true effects) refl refl
        (makings_keep_count K V same hash (come f m) known s new so.count so.below (come_numbers was) i b makes None (Some b.map))

    names_by : (p q : Bool) → had ≡ p → has ≡ q → AreNamed (then_at p q effects)
    names_by true true was is = w_names
    names_by false false was is = w_names
    names_by true false was is = gone_named b.map w.maps w_names
    names_by false true was is = effects_named None (Some b.map) effects (come f m) (come_named f m refl so.names)

    -- of another map all is the same,
    others_by : (k : ℕ) → b.map ≢ k → tables_of k m ≡ [] → (p q : Bool) → had ≡ p → has ≡ q → SameOf k m (then_at p q effects)
    others_by k other bare true true was is = same_then k m w (then_at true true effects) (worked_other k other bare) (same_of k w (then_at true true effects) refl refl refl)
    others_by k other bare true false was is = same_then k m w (then_at true false effects) (worked_other k other bare) (gone_leaves k b.map other w (then_at true false effects) w_names refl refl refl)
    others_by k other bare false true was is =
        subst (λ (l : List Effect). SameOf k m (then_at false true l)) (sym (quiet was))
        (same_then k m (come f m) (then_at false true []) (come_leaves k b.map other f m refl) (same_of k (come f m) (then_at false true []) refl refl refl))
    others_by k other bare false false was is =
        subst (λ (l : List Effect). SameOf k m (then_at false false l)) (sym (quiet was)) (same_of k m (then_at false false []) refl refl refl)

    pub others_same : (k : ℕ) → b.map ≢ k → tables_of k m ≡ [] → SameOf k m v
    others_same k other bare = others_by k other bare had has refl refl

    -- and its own comes as it must, while the making goes on
    module _ (goes : said ≡ progress.Goes) (led : n ≡ record s { world = did.step.w2; makers = with_at s.makers i (Some (record b { machine = machine })) }) where
      abbrev b2 : Beginning K
      b2 = record b { machine = machine }

      then_facts : MakingFacts n.world same new.batch_size new.roots i b2
      then_facts = at2.together.makings.facts i b2 (ap (λ (z : Scene K V). z.makers i) led ∙ at_same s.makers i (Some b2) i refl)

      mode_is : machine.setting.mode ≡ b.given.mode
      mode_is = ap (λ (z : Setting). z.mode) then_facts.setting_is

      taken_on : had ≡ true → HasTaken machine.stands × (machine.setting.root ≡ b.machine.setting.root)
      taken_on was =
          (subst (λ (p : Advance Setting). PreservesItsOwn V same same batch_size roots slot_of s.world did.step.w2 b.machine (machine, p)) goes did.step.keeps).0 (had_taken was)

      itself_by : (p q : Bool) → had ≡ p → has ≡ q → ComesBy q b2 (then_at p q effects)
      itself_by true true was is =
          subst (λ (r : ℕ). IsNew b.map (at_root b.given r) (then_at true true effects)) (sym (taken_on was).1)
          (new_on b.map (at_root b.given b.machine.setting.root) w (then_at true true effects) (same_of b.map w (then_at true true effects) refl refl refl)
          (new_maps_stay K V same hash named m known s old new at whole.all.shown i (subst (λ (p : Advance Setting). MakingLeads same hash i p s old new) goes leads) b makes (Some b.map)
          (at_root b.given b.machine.setting.root) (itself true was)))
      itself_by true false was is = absurd (subst IsRefused goes (kept was is))
      itself_by false true was is =
          subst (λ (l : List Effect). IsNew b.map (at_root b.given machine.setting.root) (then_at false true l)) (sym (quiet was)) (record {
            there = f;
            is = come_there f m (unknown_yet was).none;
            root = refl;
            mode = mode_is;
            first = refl;
            no_pairs = (unknown_yet was).no_pairs;
            no_tables = (unknown_yet was).no_tables;
          })
      itself_by false false was is =
          subst (λ (l : List Effect). IsUnknown b.map (then_at false false l)) (sym (quiet was))
          (unknown_on b.map m (then_at false false []) (same_of b.map m (then_at false false []) refl refl refl) (unknown_yet was))

    -- So all makings do.
    coming_by : (next : Option (Beginning K)) → n.makers ≡ with_at s.makers i next → ((c : Beginning K) → next ≡ Some c → Comes c v) → (j : ℕ) (c : Beginning K) → n.makers j ≡ Some c → Comes c v
    coming_by next makers own j c has_it = by (cases_eq j i)
      where
        there : with_at s.makers i next j ≡ Some c
        there = sym (ap (λ (h : ℕ → Option (Beginning K)). h j) makers) ∙ has_it

        by : (j ≡ i) ⊎ (j ≢ i) → Comes c v
        by (inl e) = own c (sym (at_same s.makers i next j e) ∙ there)
        by (inr ne) =
            let was : s.makers j ≡ Some c = sym (at_other s.makers i next j ne) ∙ there in
            comes_on c m v (others_same c.map (at.together.makings.numbers i j b c (λ e. ne (sym e)) makes was) (comes_bare c m (so.coming j c was))) (so.coming j c was)

    coming_said : (p : Advance Setting) → said ≡ p → MakingCame {S = S} same by_hasher batch_size roots slot_of s i b did.step.w2 machine n p → (j : ℕ) (c : Beginning K) → n.makers j ≡ Some c → Comes c v
    coming_said progress.Goes is led =
        coming_by (Some (record b { machine = machine })) (ap (λ (z : Scene K V). z.makers) led)
        (λ c it. subst (λ (z : Beginning K). Comes z v) (same_some (record b { machine = machine }) c it) (itself_by is led had has refl refl))
    coming_said progress.Waits is led = absurd led
    coming_said (progress.Done setting) is (standing, is_made, led) = coming_by None (ap (λ (z : Scene K V). z.makers) led) (λ c none. absurd (cc none))
    coming_said (progress.Refused fault) is led = coming_by None (ap (λ (z : Scene K V). z.makers) led) (λ c none. absurd (cc none))

    pub made_coming : (j : ℕ) (c : Beginning K) → n.makers j ≡ Some c → Comes c v
    made_coming = coming_said said refl came

    pub made_numbers : NumbersUpTo so.count v
    made_numbers = numbers_by had has refl refl

    pub made_names : AreNamed v
    made_names = names_by had has refl refl
