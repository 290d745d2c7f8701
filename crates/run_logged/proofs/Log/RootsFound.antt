-- The making of a map runs on, and takes the first root that is free.
use Rattle.std.specs.Prelude.{◌≡◌, ◌<◌, ◌≤◌, ◌^◌, ◌⊎◌, ℕ, Bool, true, false, List, [], ◌++◌, max, Option, Some, option_map}
use Rattle.std.proofs.Common.{refl, ap, subst, sym, ◌∙◌, inl, inr, arith}
use Rattle.std.proofs.lemmas.List.{append-nil, append_assoc}
use Rattle.run_schedules.specs.Given.SeizeWordsDeclared.at.At.TheVariants.{Used}
use Rattle.run_schedules.specs.Given.SeizeWordsMem.{Mem, word_at}
use Rattle.seize.specs.World.{World}
use Rattle.seize.specs.declared.advance.Advance.{Advance}
use Rattle.seize.specs.declared.advance.Advance.TheVariants as progress
use Rattle.papaya_raw.specs.Given.TablesDeclared.node.Node.{Node}
use Rattle.papaya_raw.specs.Given.TablesDeclared.setting.Setting.{Setting}
use Rattle.run_effects.specs.Given.ResizeNewMap.{opening}
use Rattle.run_effects.specs.Given.ResizeDeclared.new_map.NewMap.{NewMap}
use Rattle.run_effects.specs.Given.ResizeDeclared.new_map.Opening.{Opening}
use Rattle.run_effects.specs.Given.ResizeDeclared.new_map.Opening.TheVariants as opens
use Rattle.run_schedules.specs.declared.effect.Effect.{Effect}
use Rattle.run_schedules.specs.Schedules.InTurn.{has_grown}
use Rattle.run_effects.specs.Effects.Effects.{effects_of}
use Rattle.run_effects.specs.Effects.Known.{Known, known}
use Rattle.run_effects.specs.declared.acting.Acting.TheVariants.{Making}
use Rattle.run_shows.proofs.Given.CallersTogether.At.{at_same}
use Rattle.run_shows.specs.Given.FinishesMakings.{Beginning, HasTaken, HasComeTo, MakingFacts, OpeningFacts, StepsOfMaking}
use Rattle.run_executor.specs.declared.executor.Executor.{Executor}
use Rattle.run_executor.specs.declared.worker.Work.TheVariants as work
use Rattle.run_logged.specs.Log.Makings.{is_over, MakingCame, MakingRan}
use Rattle.run_logged.specs.Log.Roots.{AreTaken, FindsRoot, MakingFinds}
use Rattle.run_logged.specs.declared.logged.Logged.{Logged}
use Rattle.run_logged.proofs.Log.MakingsRun.{making_of}
use Rattle.run_logged.proofs.Log.MakingRoots.{GoesOnWith, HasItsRoot, LeavesOthers, RootSoFar, RootThen, root_then}
use Rattle.run_executor.specs.Executing.IsThere.{IsThere, work_of}
use Rattle.run_executor.specs.Executing.Making.{MakesThere}
use Rattle.run_shows.specs.Scenes.Scene.{Scene, slot_of}
use Rattle.run_executor.proofs.Given.MomentsWholeEnds.{one_if as bit}

module _ {K V S : Type 0} (same : K → K → Bool) (hash : K → ℕ) (mid new : Executor K V S) (s : Scene K V) (at : IsThere same hash mid s) (i : ℕ) (b : Beginning K) (here : s.makers i ≡ Some b) where
  abbrev m : Mem (Node K V)
  m = mid.memory.memory

  abbrev m2 : Mem (Node K V)
  m2 = new.memory.memory

  abbrev n : NewMap
  n = b.machine

  -- a step of a making, as one of the scene
  abbrev Step : NewMap → Advance Setting → Type 0
  Step n2 said = StepsOfMaking V same same mid.batch_size mid.roots slot_of s.world s.maps s.calls s.makers i b m2 (n2, said)

  module _ (n2 : NewMap) where
    come : (said : Advance Setting) (r : ℕ) → HasComeTo V same same mid.batch_size mid.roots slot_of (n2, said) r → GoesOnWith (n2, said) r
    come progress.Goes r h = h.1
    come progress.Waits r h = absurd h
    come (progress.Done setting) r h = absurd h
    come (progress.Refused fault) r h = absurd h

    others : (roots : ℕ) (said : Advance Setting) → Step n2 said → LeavesOthers roots m m2 n (n2, said)
    others roots said step r l apart q is = by q (ap (λ (x : Mem (Node K V)). word_at x (Used r)) at.held.memory ∙ is)
      where
        then_at : (x : Option ℕ) → word_at step.w2.memory (Used r) ≡ x → word_at m2 (Used r) ≡ x
        then_at x e = ap (λ (y : Mem (Node K V)). word_at y (Used r)) (sym step.memory) ∙ e

        either : (word_at step.w2.memory (Used r) ≡ Some 0) ⊎ HasComeTo V same same mid.batch_size mid.roots slot_of (n2, said) r → (word_at m2 (Used r) ≡ Some 0) ⊎ GoesOnWith (n2, said) r
        either (inl e) = inl (then_at (Some 0) e)
        either (inr h) = inr (come said r h)

        by : (q : Bool) → word_at s.world.memory (Used r) ≡ Some (bit q) → (word_at m2 (Used r) ≡ Some (bit q)) ⊎ GoesOnWith (n2, said) r
        by true e = inl (then_at (Some 1) (step.rest.used r apart e))
        by false e = either (step.rest.free r e)

    taken_at : (w : World (Node K V)) (roots : ℕ) (stands : Opening) → HasTaken stands → OpeningFacts w roots i n2 stands → word_at w.memory (Used n2.setting.root) ≡ Some 1
    taken_at w roots opens.Takes has facts = absurd has
    taken_at w roots opens.Shards has facts = facts.0
    taken_at w roots (opens.Tables making) has facts = facts.0.0
    taken_at w roots (opens.Unmakes fault) has facts = facts.0.0
    taken_at w roots (opens.Frees fault) has facts = facts.0
    taken_at w roots opens.Over has facts = absurd has
    taken_at w roots (opens.Refused fault) has facts = absurd has

    its : (roots : ℕ) (said : Advance Setting) → Step n2 said → HasItsRoot roots m m2 n (n2, said)
    its roots progress.Goes step = λ has.
        ap (λ (y : Mem (Node K V)). word_at y (Used n2.setting.root)) (sym step.memory)
        ∙ taken_at step.w2 mid.roots n2.stands has (step.told.facts i (record b { machine = n2 }) (at_same s.makers i (Some (record b { machine = n2 })) i refl)).point
    its roots progress.Waits step = tt
    its roots (progress.Done setting) step =
        ap (λ (y : Mem (Node K V)). word_at y (Used setting.root)) (sym step.memory)
        ∙ subst (λ (x : Setting). word_at step.w2.memory (Used x.root) ≡ Some 1) step.told.1.setting_is
        (step.told.2.used b.map step.told.0 (at_same s.maps b.map (Some step.told.0) b.map refl))
    its roots (progress.Refused fault) step = λ has. ap (λ (y : Mem (Node K V)). word_at y (Used n.setting.root)) (sym step.memory) ∙ (step.keeps.0 has).0

  -- the step leads on
  pub leads_on : (map : ℕ) (noted : Known) (roots : ℕ) (taken : ℕ → Bool) (did : List Effect) → n.roots ≡ roots → max n.len 8 ≤ 2 ^ 48 → RootSoFar roots taken (has_grown did) m n n.stands
      → (told : Advance Setting) (leads : MakesThere same hash i told s mid new) → RootThen map noted roots taken did m m2 new.memory.changed n ((leads b here).0, told)
  leads_on map noted roots taken did as_many small so told leads =
      let to = leads b here in
      root_then map noted roots taken did m m2 new.memory.changed n as_many small so (to.0, told) to.1 (others to.0 roots told to.2.step) (its to.0 roots told to.2.step)

-- While it goes on, it is so far.
module _ {K V S : Type 0} where
  abbrev pub MakingFindsSoFar : (i map : ℕ) → (before after : List Effect) → (old mid : Logged K V S) → Type 0
  MakingFindsSoFar i map before after old mid =
      (same : K → K → Bool) (hash : K → ℕ) (s : Scene K V) → IsThere same hash old.executor s → (b : Beginning K) → s.makers i ≡ Some b → b.map ≡ map
      → b.machine ≡ opening b.given old.executor.roots b.places → max b.places 8 ≤ 2 ^ 48
      → (taken : ℕ → Bool) → AreTaken old.executor.roots taken old.executor.memory.memory
      → (did : List Effect) × (after ≡ before ++ did) × (n : NewMap) × (work_of mid.executor i ≡ Some (work.Making map n)) × (n.roots ≡ old.executor.roots) × (max n.len 8 ≤ 2 ^ 48)
      × RootSoFar old.executor.roots taken (has_grown did) mid.executor.memory.memory n n.stands

module _ {K V S : Type 0} (i map : ℕ) where
  pub none_found : (l : Logged K V S) (xs : List Effect) → MakingFindsSoFar i map xs xs l l
  none_found l xs same hash s at b here of_map begins small taken are = (
    [],
    sym (append-nil xs),
    opening b.given l.executor.roots b.places,
    making_of (work_of l.executor i) map (opening b.given l.executor.roots b.places)
        (sym (at.makers i) ∙ ap (option_map (λ (x : Beginning K). (x.map, x.machine))) here ∙ ap (λ (x : ℕ). Some (x, b.machine)) of_map ∙ ap (λ (x : NewMap). Some (map, x)) begins),
    refl,
    small,
    (some, (λ q l. absurd (none_below q l)), are),
  )
    where
      facts : MakingFacts s.world same l.executor.batch_size l.executor.roots i b
      facts = at.held.together.makings.facts i b here

      some : 0 < l.executor.roots
      some = subst (λ (x : NewMap). OpeningFacts s.world l.executor.roots i x x.stands) begins facts.point

      none_below : (q : ℕ) → q < 0 → ⊥
      none_below q l = omega (arith, l)

  module _ (old mid new : Logged K V S) (xs ys zs : List Effect) (told : Advance Setting) (ran : MakingRan i map progress.Goes xs ys old mid) (so : MakingFindsSoFar i map xs ys old mid)
      (stepping : (same : K → K → Bool) (hash : K → ℕ) (s : Scene K V) → IsThere same hash mid.executor s → MakesThere same hash i told s mid.executor new.executor)
      (did_it : zs ≡ ys ++ effects_of (Making map) (known mid.notes) new.executor.memory.changed) where
    module _ (same : K → K → Bool) (hash : K → ℕ) (s : Scene K V) (at : IsThere same hash old.executor s) (b : Beginning K) (here : s.makers i ≡ Some b) (of_map : b.map ≡ map)
        (begins : b.machine ≡ opening b.given old.executor.roots b.places) (small : max b.places 8 ≤ 2 ^ 48) (taken : ℕ → Bool) (are : AreTaken old.executor.roots taken old.executor.memory.memory) where
      abbrev u : (s1 : Scene K V) × (came : MakingCame s s1 i b progress.Goes) × IsThere same hash mid.executor s1
      u = ran.2 same hash s at b here of_map

      abbrev b1 : Beginning K
      b1 = record b { machine = u.1.maker.0 }

      abbrev before : (did : List Effect) × (ys ≡ xs ++ did) × (n : NewMap) × (work_of mid.executor i ≡ Some (work.Making map n)) × (n.roots ≡ old.executor.roots) × (max n.len 8 ≤ 2 ^ 48)
          × RootSoFar old.executor.roots taken (has_grown did) mid.executor.memory.memory n n.stands
      before = so same hash s at b here of_map begins small taken are

      abbrev effects : List Effect
      effects = effects_of (Making map) (known mid.notes) new.executor.memory.changed

      same_machine : before.2 ≡ u.1.maker.0
      same_machine =
          let was = making_of (work_of mid.executor i) b.map u.1.maker.0 (sym (u.2.makers i) ∙ ap (option_map (λ (x : Beginning K). (x.map, x.machine))) u.1.maker.1) in
          let is = before.3 in cc (was, is)

      abbrev At : NewMap → Type 0
      At x = (x.roots ≡ old.executor.roots) × (max x.len 8 ≤ 2 ^ 48) × RootSoFar old.executor.roots taken (has_grown before.0) mid.executor.memory.memory x x.stands

      is_so : At u.1.maker.0
      is_so = subst At same_machine (before.4, before.5, before.6)

      abbrev leads : MakesThere same hash i told u.0 mid.executor new.executor
      leads = stepping same hash u.0 u.2

      abbrev n2 : NewMap
      n2 = (leads b1 u.1.maker.1).0

      pub after_it : zs ≡ xs ++ (before.0 ++ effects)
      after_it = did_it ∙ ap (λ (l : List Effect). l ++ effects) before.1 ∙ append_assoc xs before.0 effects

      pub led : RootThen map (known mid.notes) old.executor.roots taken before.0 mid.executor.memory.memory new.executor.memory.memory new.executor.memory.changed u.1.maker.0 (n2, told)
      led = leads_on same hash mid.executor new.executor u.0 u.2 i b1 u.1.maker.1 map (known mid.notes) old.executor.roots taken before.0 is_so.0 is_so.1 is_so.2 told leads

    over_found : (did : List Effect) (m m2 : Mem (Node K V)) (roots : ℕ) (taken : ℕ → Bool) (n n2 : NewMap) (said : Advance Setting) → is_over said ≡ true
        → RootThen map (known mid.notes) roots taken did m m2 new.executor.memory.changed n (n2, said)
        → FindsRoot roots taken (did ++ effects_of (Making map) (known mid.notes) new.executor.memory.changed) m2 said
    over_found did m m2 roots taken n n2 progress.Goes over led = absurd (cc over)
    over_found did m m2 roots taken n n2 progress.Waits over led = led
    over_found did m m2 roots taken n n2 (progress.Done setting) over led = led
    over_found did m m2 roots taken n n2 (progress.Refused fault) over led = led

    -- the last one has found it, or has been refused
    pub last_found : is_over told ≡ true → MakingFinds i map told xs zs old new
    last_found over same hash s at b here of_map begins small taken are = (
      (before same hash s at b here of_map begins small taken are).0 ++ effects_of (Making map) (known mid.notes) new.executor.memory.changed,
      after_it same hash s at b here of_map begins small taken are,
      over_found (before same hash s at b here of_map begins small taken are).0 mid.executor.memory.memory new.executor.memory.memory old.executor.roots taken
          (u same hash s at b here of_map begins small taken are).1.maker.0 (n2 same hash s at b here of_map begins small taken are) told over
          (led same hash s at b here of_map begins small taken are),
    )

  -- and each other one goes on
  pub goes_found : (same : K → K → Bool) (hash : K → ℕ) (s : Scene K V) (old mid new : Logged K V S) (xs ys zs : List Effect) (told : Advance Setting) → IsThere same hash old.executor s
      → (b : Beginning K) → s.makers i ≡ Some b → b.map ≡ map → MakingRan i map progress.Goes xs ys old mid → MakingFindsSoFar i map xs ys old mid
      → ((same : K → K → Bool) (hash : K → ℕ) (s : Scene K V) → IsThere same hash mid.executor s → MakesThere same hash i told s mid.executor new.executor)
      → zs ≡ ys ++ effects_of (Making map) (known mid.notes) new.executor.memory.changed → is_over told ≡ false → MakingFindsSoFar i map xs zs old new
  goes_found same0 hash0 s0 old mid new xs ys zs told at0 b0 here0 of_map0 ran so stepping did_it more = by told more stepping
    where
      by : (told : Advance Setting) → is_over told ≡ false
          → ((same : K → K → Bool) (hash : K → ℕ) (s : Scene K V) → IsThere same hash mid.executor s → MakesThere same hash i told s mid.executor new.executor) → MakingFindsSoFar i map xs zs old new
      by progress.Goes more stepping = λ same hash s at b here of_map begins small taken are.
          let x = led old mid new xs ys zs progress.Goes ran so stepping did_it same hash s at b here of_map begins small taken are in
          let v = u old mid new xs ys zs progress.Goes ran so stepping did_it same hash s at b here of_map begins small taken are in
          let c : Beginning K = record b { machine = v.1.maker.0 } in
          let to = stepping same hash v.0 v.2 c v.1.maker.1 in (
            (before old mid new xs ys zs progress.Goes ran so stepping did_it same hash s at b here of_map begins small taken are).0 ++ effects_of (Making map) (known mid.notes) new.executor.memory.changed,
            after_it old mid new xs ys zs progress.Goes ran so stepping did_it same hash s at b here of_map begins small taken are,
            to.0,
            making_of (work_of new.executor i) map to.0
                (sym (to.3.makers i) ∙ ap (option_map (λ (x : Beginning K). (x.map, x.machine))) (at_same v.0.makers i (Some (record c { machine = to.0 })) i refl)
                ∙ ap (λ (k : ℕ). Some (k, to.0)) of_map),
            x.0,
            x.1,
            x.2,
          )
      by progress.Waits more stepping = absurd (let v = ran.2 same0 hash0 s0 at0 b0 here0 of_map0 in (stepping same0 hash0 v.0 v.2 (record b0 { machine = v.1.maker.0 }) v.1.maker.1).3)
      by (progress.Done setting) more stepping = absurd (cc more)
      by (progress.Refused fault) more stepping = absurd (cc more)
