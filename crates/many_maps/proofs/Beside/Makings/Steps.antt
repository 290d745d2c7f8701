-- Whoever takes a step of a making, all stand together again: the maps, the calls on them, and the makings.
use Rattle.many_maps.proofs.Beside.Endings.Spares.{end_there}
use Rattle.std.specs.Prelude.{◌≡◌, ◌≢◌, ℕ, Bool, Option, Some, None}
use Rattle.std.specs.Int.{IsPowerOfTwo}
use Rattle.std.proofs.Common.{refl, ap, sym, subst, ◌∙◌, inl, inr}
use Rattle.std.proofs.lemmas.Bool.{cases_eq}
use Rattle.many_calls.specs.Given.SeizeWordsDeclared.at.At.TheVariants.{Used}
use Rattle.many_calls.specs.Given.SeizeWordsMem.{Mem, value_at, word_at}
use Rattle.many_calls.specs.Given.SeizeWorld.{World, Making, LeftTo, with_at}
use Rattle.many_calls.specs.Given.SeizeDeclared.advance.Advance.{Advance}
use Rattle.many_calls.specs.Given.SeizeDeclared.advance.Advance.TheVariants as progress
use Rattle.many_calls.specs.Given.TablesDeclared.node.Node.{Node}
use Rattle.many_calls.specs.Given.TablesDeclared.setting.Setting.{Setting}
use Rattle.many_calls.specs.Given.ResizeDeclared.new_map.NewMap.{NewMap}
use Rattle.many_calls.specs.Given.PointsSteps.{AreLawful}
use Rattle.many_calls.specs.Given.RuleInWorld.{IsOut}
use Rattle.many_maps.specs.Makings.{Beginning, HasTaken, HasMade, HasOwnCounter, MakingFacts, MakingsTogether, MakingOutcome, StepsOfMaking, LeavesRest}
use Rattle.many_maps.specs.Maps.{Standing, MapsTogether}
use Rattle.many_calls.specs.Together.{UnderWay, CameAbout}
use Rattle.many_maps.proofs.Beside.Makings.Lasts.{facts_last, taken_root, made_counter}
use Rattle.many_maps.proofs.Beside.Makings.Leaves.{LeavesOthers, came_then, IsAsItWas}
use Rattle.many_maps.proofs.Beside.Makings.OtherMakings.{making_left}
use Rattle.many_maps.proofs.Beside.Makings.OtherMaps.{map_stays}
use Rattle.many_maps.proofs.Beside.Makings.Outs.{out_there}
use Rattle.many_maps.proofs.Beside.Makings.Went.{IsOwnRoot, IsOwnCounter, GoesTo, MakesMap, MakingWent}
use Rattle.many_maps.proofs.Beside.Maps.All.{StandsSo}
use Rattle.many_maps.proofs.Beside.Maps.Comes.{each_at, two_at, none_at}
use Rattle.many_calls.proofs.Together.At.{at_other, at_same}
use Rattle.many_calls.proofs.Given.General.{same_some as one_of}

module _ {X : Type 0} (f : ℕ → Option X) (k : ℕ) (new : Option X) where
  -- what is so of all but one, and of that one, is so of all
  pub one_made : (P : ℕ → X → Type 0) → ((x : X) → new ≡ Some x → P k x) → ((j : ℕ) (x : X) → j ≢ k → f j ≡ Some x → P j x) → (j : ℕ) (x : X) → with_at f k new j ≡ Some x → P j x
  one_made P its others j x is = elim (cases_eq j k) as (λ _. P j x) [
    | inl e ↦ subst (λ (y : ℕ). P y x) (sym e) (its x (sym (at_same f k new j e) ∙ is))
    | inr ne ↦ others j x ne (sym (at_other f k new j ne) ∙ is)
  ]

  -- and of two of them
  pub two_made : (P : X → X → Type 0) → ((x : X) → new ≡ Some x → (j : ℕ) (y : X) → j ≢ k → f j ≡ Some y → P x y × P y x) → ((j l : ℕ) (x y : X) → j ≢ l → f j ≡ Some x → f l ≡ Some y → P x y)
      → (j l : ℕ) (x y : X) → j ≢ l → with_at f k new j ≡ Some x → with_at f k new l ≡ Some y → P x y
  two_made P its both j l x y ne is has =
      one_made (λ a z. a ≢ l → P z y)
      (λ z here other. one_made (λ c v. k ≢ c → P z v) (λ v there same. absurd (same refl)) (λ c v apart there _. (its z here c v apart there).0) l y has other)
      (λ a z apart here other. one_made (λ c v. a ≢ c → P z v) (λ v there _. (its v there a z apart here).1) (λ c v _ there differ. both a c z v differ here there) l y has other)
      j x is ne

module _ {K Q : Type 0} (V : Type 0) (same : K → K → Bool) (asks : Q → K → Bool) (batch_size roots : ℕ) (slot : ℕ → ℕ)
    (w : World (Node K V)) (maps : ℕ → Option (Standing K)) (calls : ℕ → ℕ → Option (UnderWay K V Q)) (makers : ℕ → Option (Beginning K))
    (all : MakingsTogether V same asks batch_size roots slot w maps calls makers) (i : ℕ) (b : Beginning K) (makes : makers i ≡ Some b)
    (w2 : World (Node K V)) (left : LeavesOthers i b.machine w w2 batch_size roots) where
  -- the root of a making that has one is taken, and its counter is there
  root_taken : (j : ℕ) (d : Beginning K) → makers j ≡ Some d → HasTaken d.machine.stands → word_at w.memory (Used d.machine.setting.root) ≡ Some 1
  root_taken j d is taken = (taken_root same j w w2 roots d.machine d.machine.stands taken (all.facts j d is).point).0

  counter_there : (j : ℕ) (d : Beginning K) → makers j ≡ Some d → HasMade d.machine.stands → HasOwnCounter w j d.machine.setting
  counter_there j d is made = made_counter same j w w2 roots d.machine d.machine.stands made (all.facts j d is).point

  -- a root of its own is no standing map's, and none of another making
  root_beside : (r : ℕ) → IsOwnRoot V same asks batch_size roots slot w i b r → (m : ℕ) (s : Standing K) → maps m ≡ Some s → r ≢ s.setting.root
  root_beside r (inl (taken, is)) m s here e = all.roots_apart i m b s makes here taken (sym is ∙ e)
  root_beside r (inr free) m s here e = (let one = all.used m s here in let none = subst (λ (x : ℕ). word_at w.memory (Used x) ≡ Some 0) e free in cc (one, none))

  root_aside : (r : ℕ) → IsOwnRoot V same asks batch_size roots slot w i b r → (j : ℕ) (d : Beginning K) → j ≢ i → makers j ≡ Some d → HasTaken d.machine.stands → r ≢ d.machine.setting.root
  root_aside r (inl (taken, is)) j d other has taken2 e = all.their_roots i j b d (λ x. other (sym x)) makes has taken taken2 (sym is ∙ e)
  root_aside r (inr free) j d other has taken2 e = (let one = root_taken j d has taken2 in let none = subst (λ (x : ℕ). word_at w.memory (Used x) ≡ Some 0) e free in cc (one, none))

  -- and so is a counter
  counter_beside : (x : ℕ) → IsOwnCounter V same asks batch_size roots slot w i b x → (m : ℕ) (s : Standing K) → maps m ≡ Some s → x ≢ s.setting.counter
  counter_beside x (inl (made, is)) m s here e = all.counters_apart i m b s makes here made (sym is ∙ e)
  counter_beside x (inr none) m s here e = (let there = (all.standing.each m s here).ground.map.counter in let gone = subst (λ (y : ℕ). value_at w.memory y ≡ None) e none in cc (there, gone))

  counter_aside : (x : ℕ) → IsOwnCounter V same asks batch_size roots slot w i b x → (j : ℕ) (d : Beginning K) → j ≢ i → makers j ≡ Some d → HasMade d.machine.stands → x ≢ d.machine.setting.counter
  counter_aside x (inl (made, is)) j d other has made2 e =
      other (same_maker j i (let theirs = (counter_there j d has made2).hand in let mine = (counter_there i b makes made).hand in let place = sym is ∙ e in cc (theirs, mine, place)))
    where
      same_maker : (a z : ℕ) → Making a ≡ Making z → a ≡ z
      same_maker a z e = cc e
  counter_aside x (inr none) j d other has made2 e = (let there = (counter_there j d has made2).value in let gone = subst (λ (y : ℕ). value_at w.memory y ≡ None) e none in cc (there, gone))

  -- the maps that stood stand
  map_stands : (m : ℕ) (s : Standing K) → maps m ≡ Some s → StandsSo V same asks batch_size slot w2 s (calls m)
  map_stands m s here =
      let fit = all.standing.fit m s here in
      map_stays same s.hash asks s.setting slot fit.0 w s.chart s.blocks s.sights (calls m) (all.standing.each m s here) roots i b.machine (all.alone i b makes m) w2
      (subst (λ (size : ℕ). LeavesOthers i b.machine w w2 size roots) (sym fit.2) left)
      (λ its. all.roots_apart i m b s makes here its.0 (sym its.1)) (all.counters_apart i m b s makes here)

  came2 : CameAbout batch_size w2
  came2 = came_then batch_size roots i b.machine w w2 all.standing.came left

  maps_stand : MapsTogether V same asks batch_size slot w2 maps calls
  maps_stand = record {
    came = came2;
    each = map_stands;
    fit = all.standing.fit;
    roots = all.standing.roots;
    counters = all.standing.counters;
    only = all.standing.only;
    once = all.standing.once;
  }

  still_used : (m : ℕ) (s : Standing K) → maps m ≡ Some s → word_at w2.memory (Used s.setting.root) ≡ Some 1
  still_used m s here = left.used s.setting.root (all.used m s here) (λ its. all.roots_apart i m b s makes here its.0 (sym its.1))

  -- each other making knows what it knew
  other_facts : (j : ℕ) (d : Beginning K) → j ≢ i → makers j ≡ Some d → MakingFacts w2 same batch_size roots j d
  other_facts j d other has =
      facts_last same j w w2 batch_size roots d (making_left same batch_size roots i b.machine w w2 left j (λ e. other (sym e)) d.machine (λ taken taken2. all.their_roots i j b d (λ e. other (sym e)) makes has taken taken2))
      (all.facts j d has)

  -- The making goes on as another one, or is over without a map.
  module _ (new : Option (Beginning K)) (facts : (d : Beginning K) → new ≡ Some d → MakingFacts w2 same batch_size roots i d × (d.map ≡ b.map)
      × (HasTaken d.machine.stands → IsOwnRoot V same asks batch_size roots slot w i b d.machine.setting.root)
      × (HasMade d.machine.stands → IsOwnCounter V same asks batch_size roots slot w i b d.machine.setting.counter)) where
    pub goes_together : MakingsTogether V same asks batch_size roots slot w2 maps calls (with_at makers i new)
    goes_together = record {
      standing = maps_stand;
      free = left.free;
      used = still_used;
      facts = one_made makers i new (λ j d. MakingFacts w2 same batch_size roots j d) (λ d is. (facts d is).0) (λ j d other has. other_facts j d other has);
      alone = one_made makers i new (λ j d. (m : ℕ) → calls m j ≡ None) (λ d is. all.alone i b makes) (λ j d other has. all.alone j d has);
      coming = one_made makers i new (λ j d. maps d.map ≡ None) (λ d is. ap maps (facts d is).1 ∙ all.coming i b makes) (λ j d other has. all.coming j d has);
      numbers = two_made makers i new (λ d e. d.map ≢ e.map)
          (λ d is j e other has. (λ x. all.numbers i j b e (λ y. other (sym y)) makes has (sym (facts d is).1 ∙ x), λ x. all.numbers i j b e (λ y. other (sym y)) makes has (sym (x ∙ (facts d is).1)))) all.numbers;
      their_roots = two_made makers i new (λ d e. HasTaken d.machine.stands → HasTaken e.machine.stands → d.machine.setting.root ≢ e.machine.setting.root)
          (λ d is j e other has. (
            λ taken taken2. root_aside d.machine.setting.root ((facts d is).2 taken) j e other has taken2,
            λ taken2 taken x. root_aside d.machine.setting.root ((facts d is).2 taken) j e other has taken2 (sym x),
          )) all.their_roots;
      roots_apart = λ j m d s has here. one_made makers i new (λ j d. HasTaken d.machine.stands → d.machine.setting.root ≢ s.setting.root)
          (λ d is taken. root_beside d.machine.setting.root ((facts d is).2 taken) m s here) (λ j d other has. all.roots_apart j m d s has here) j d has;
      counters_apart = λ j m d s has here. one_made makers i new (λ j d. HasMade d.machine.stands → d.machine.setting.counter ≢ s.setting.counter)
          (λ d is made. counter_beside d.machine.setting.counter ((facts d is).3 made) m s here) (λ j d other has. all.counters_apart j m d s has here) j d has;
    }

  -- Its map stands, and it is over.
  module _ (answer : Setting) (made : MakesMap V same asks batch_size roots slot w i b w2 answer) where
    setting_fit : AreLawful same made.s.hash × IsPowerOfTwo made.s.setting.initial × (made.s.setting.batch_size ≡ batch_size)
    setting_fit =
        let f = all.facts i b makes in
        let is : made.s.setting ≡ _ = made.made.setting_is ∙ made.made.answer_is in (
          subst (AreLawful same) (sym made.made.hash_is) f.lawful,
          subst IsPowerOfTwo (sym (ap (λ (x : Setting). x.initial) is)) f.initial,
          ap (λ (x : Setting). x.batch_size) is ∙ f.batches,
        )

    maps_stand2 : MapsTogether V same asks batch_size slot w2 (with_at maps b.map (Some made.s)) calls
    maps_stand2 = record {
      came = came2;
      each = each_at V same asks batch_size slot maps b.map made.s (λ m s. StandsSo V same asks batch_size slot w2 s (calls m))
          (made.together (calls b.map) (λ j. all.standing.only b.map j (all.coming i b makes))) (λ m s ne here. map_stands m s here);
      fit = each_at V same asks batch_size slot maps b.map made.s (λ m s. AreLawful same s.hash × IsPowerOfTwo s.setting.initial × (s.setting.batch_size ≡ batch_size)) setting_fit
          (λ m s ne here. all.standing.fit m s here);
      roots = two_at V same asks batch_size slot maps b.map made.s (λ s r. s.setting.root ≢ r.setting.root)
          (λ m s ne here. root_beside made.s.setting.root made.root m s here) (λ m s ne here e. root_beside made.s.setting.root made.root m s here (sym e)) all.standing.roots;
      counters = two_at V same asks batch_size slot maps b.map made.s (λ s r. s.setting.counter ≢ r.setting.counter)
          (λ m s ne here. counter_beside made.s.setting.counter made.counter m s here) (λ m s ne here e. counter_beside made.s.setting.counter made.counter m s here (sym e)) all.standing.counters;
      only = λ m j none. all.standing.only m j (none_at V same asks batch_size slot maps b.map made.s m none);
      once = all.standing.once;
    }

    -- what is so of all other makings
    beside : (P : ℕ → Beginning K → Type 0) → ((j : ℕ) (d : Beginning K) → j ≢ i → makers j ≡ Some d → P j d) → (j : ℕ) (d : Beginning K) → with_at makers i None j ≡ Some d → P j d
    beside P others = one_made makers i None P (λ d is. absurd (cc is)) others

    its_number : (j : ℕ) (d : Beginning K) → j ≢ i → makers j ≡ Some d → d.map ≢ b.map
    its_number j d other has = all.numbers j i d b other has makes

    pub ends_together : MakingsTogether V same asks batch_size roots slot w2 (with_at maps b.map (Some made.s)) calls (with_at makers i None)
    ends_together = record {
      standing = maps_stand2;
      free = left.free;
      used = each_at V same asks batch_size slot maps b.map made.s (λ m s. word_at w2.memory (Used s.setting.root) ≡ Some 1) made.used (λ m s ne here. still_used m s here);
      facts = beside (λ j d. MakingFacts w2 same batch_size roots j d) other_facts;
      alone = beside (λ j d. (m : ℕ) → calls m j ≡ None) (λ j d other has. all.alone j d has);
      coming = beside (λ j d. with_at maps b.map (Some made.s) d.map ≡ None) (λ j d other has. at_other maps b.map (Some made.s) d.map (its_number j d other has) ∙ all.coming j d has);
      numbers = two_made makers i None (λ d e. d.map ≢ e.map) (λ d is. absurd (cc is)) all.numbers;
      their_roots = two_made makers i None (λ d e. HasTaken d.machine.stands → HasTaken e.machine.stands → d.machine.setting.root ≢ e.machine.setting.root) (λ d is. absurd (cc is)) all.their_roots;
      roots_apart = λ j m d s has here. beside (λ j d. HasTaken d.machine.stands → d.machine.setting.root ≢ s.setting.root) (λ j d other has taken. roots2 j d other has taken m s here) j d has;
      counters_apart = λ j m d s has here. beside (λ j d. HasMade d.machine.stands → d.machine.setting.counter ≢ s.setting.counter) (λ j d other has its. counters2 j d other has its m s here) j d has;
    }
      where
        roots2 : (j : ℕ) (d : Beginning K) → j ≢ i → makers j ≡ Some d → HasTaken d.machine.stands → (m : ℕ) (s : Standing K) → with_at maps b.map (Some made.s) m ≡ Some s → d.machine.setting.root ≢ s.setting.root
        roots2 j d other has taken = each_at V same asks batch_size slot maps b.map made.s (λ m s. d.machine.setting.root ≢ s.setting.root)
            (λ e. root_aside made.s.setting.root made.root j d other has taken (sym e)) (λ m s ne here. all.roots_apart j m d s has here taken)

        counters2 : (j : ℕ) (d : Beginning K) → j ≢ i → makers j ≡ Some d → HasMade d.machine.stands → (m : ℕ) (s : Standing K) → with_at maps b.map (Some made.s) m ≡ Some s → d.machine.setting.counter ≢ s.setting.counter
        counters2 j d other has its = each_at V same asks batch_size slot maps b.map made.s (λ m s. d.machine.setting.counter ≢ s.setting.counter)
            (λ e. counter_aside made.s.setting.counter made.counter j d other has its (sym e)) (λ m s ne here. all.counters_apart j m d s has here its)

module _ {K Q : Type 0} (V : Type 0) (same : K → K → Bool) (asks : Q → K → Bool) (batch_size roots : ℕ) (slot : ℕ → ℕ)
    (w : World (Node K V)) (maps : ℕ → Option (Standing K)) (calls : ℕ → ℕ → Option (UnderWay K V Q)) (makers : ℕ → Option (Beginning K))
    (all : MakingsTogether V same asks batch_size roots slot w maps calls makers) (i : ℕ) (b : Beginning K) (makes : makers i ≡ Some b) where
  pub told : (w2 : World (Node K V)) → LeavesOthers i b.machine w w2 batch_size roots → (end : NewMap × Advance Setting) → GoesTo V same asks batch_size roots slot w i b w2 end
      → MakingOutcome V same asks batch_size roots slot w maps calls makers i b w2 end
  told w2 left (n, progress.Goes) t =
      goes_together V same asks batch_size roots slot w maps calls makers all i b makes w2 left (Some (record b { machine = n }))
      (λ d is. subst (λ (x : Beginning K). MakingFacts w2 same batch_size roots i x × (x.map ≡ b.map) × (HasTaken x.machine.stands → IsOwnRoot V same asks batch_size roots slot w i b x.machine.setting.root)
      × (HasMade x.machine.stands → IsOwnCounter V same asks batch_size roots slot w i b x.machine.setting.counter)) (one_of (record b { machine = n }) d is) (t.0, refl, t.1, t.2))
  told w2 left (n, progress.Waits) t = t
  told w2 left (n, progress.Done answer) t = (t.s, t.made, ends_together V same asks batch_size roots slot w maps calls makers all i b makes w2 left answer t)
  told w2 left (n, progress.Refused fault) t = goes_together V same asks batch_size roots slot w maps calls makers all i b makes w2 left None (λ d is. absurd (cc is))

  -- what it leaves of what is nobody's
  module _ (m2 : Mem (Node K V)) (end : NewMap × Advance Setting) (went : MakingWent V same asks batch_size roots slot w i b m2 end) where
    not_made : (x j : ℕ) → w.hand x ≡ LeftTo j → w.hand x ≡ Making i → ⊥
    not_made x j is making = cc (is, making)

    as_it_was : (x j : ℕ) → w.hand x ≡ LeftTo j → IsAsItWas i b.machine w went.w2 x
    as_it_was x j is =
        let there = end_there batch_size w all.standing.came 0 j x (inr is) in went.left.blocks x there.0 there.1 (λ its. not_made x j is its.0)

    pub outs : (x : ℕ) → IsOut (w.hand x) → went.w2.hand x ≡ w.hand x
    outs x out = let there = out_there batch_size w all.standing.came x out in (went.left.blocks x there.0 there.1 (λ its. subst IsOut its.0 out)).hand

    pub rest : LeavesRest {Q = Q} V same asks batch_size roots slot w went.w2 b.machine end
    rest = record {
      hands = λ x j is. (as_it_was x j is).hand ∙ is;
      values = λ x j is. (as_it_was x j is).value;
      links = λ x j word is there. (as_it_was x j is).link word (not_made x j is) there;
      leads = λ r word other is. went.left.root r word is (λ its. other its.0 its.1);
      used = λ r other is. went.left.used r is (λ its. other its.0 its.1);
      free = went.unused;
    }

  -- where a step of the making leads
  abbrev pub making_leads : (m2 : Mem (Node K V)) (end : NewMap × Advance Setting) → MakingWent V same asks batch_size roots slot w i b m2 end → StepsOfMaking V same asks batch_size roots slot w maps calls makers i b m2 end
  making_leads m2 end went = record {
    w2 = went.w2;
    events = went.left.events;
    users = went.left.users;
    runs = went.left.runs;
    memory = went.memory;
    keeps = went.keeps;
    rest = rest m2 end went;
    outs = outs m2 end went;
    links = went.links;
    told = told went.w2 went.left end went.told;
  }
