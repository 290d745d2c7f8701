-- A block is made, looked at, given another value, and taken away.
use Rattle.std.specs.Prelude.{◌≢◌, ◌<◌, ◌^◌, ◌==◌, Option, Some, None, IsSome, Ok, Err, length, slice_get, if◌then◌else◌}
use Rattle.std.proofs.Common.{◌≡◌, ℕ, List, Bool, true, ◌⊎◌, inl, inr, refl, sym, subst, ap, ◌∙◌}
use Rattle.std.proofs.lemmas.Bool.{cases_eq, eq-eqb}
use Rattle.seize_words.specs.OneMemory.Mem.{Mem, Took, value_at, word_at}
use Rattle.seize_words.specs.declared.at.At.TheVariants.{Root}
use Rattle.seize_words.specs.OneMemory.Op.{Op, Out, Make, Take, Rewrite, Found, Stored, Exchanged, Made as OutMade, Taken, Roomed}
use Rattle.seize_words.proofs.OneMemory.OneOwner.AfterWrites.{value_at-with_value}
use Rattle.seize.specs.Law.{Dropped, holds}
use Rattle.seize.specs.World.{World, Hand, Makes, Drops, Rewrites, Happens, HasListWord, made_by, with_hand, with_effect}
use Rattle.seize.specs.World as world
use Rattle.seize_acts.proofs.Given.SeizeMovesState.Held.{held_beside}
use Rattle.seize_acts.proofs.Given.SeizeRuleRows.Others.{with_here, with_other}
use Rattle.seize_acts.proofs.Given.SeizeMemoryWords.Named.{made_one, taken_one}
use Rattle.seize_acts.proofs.Given.SeizeRuleWorld.Values.{taken_value, made_value, rewritten_value}
use Rattle.seize_acts.specs.Given.SeizeAloneAlone.{IsOfUsers}
use Rattle.seize_acts.proofs.Given.SeizeAloneHistories.Reached.{Reached}
use Rattle.seize_acts.proofs.Given.SeizeAloneHistories.NotTaken.{IsHad, IsHeld, kept_there}
use Rattle.seize_seats.specs.Seats.State.{State, view_of}
use Rattle.seize_views.specs.Views.Chains.{IsChainRoot}
use Rattle.seize_views.specs.Views.Rows.{Leads, had_in, hand_of, IsMade, IsInHand, Holds}
use Rattle.seize_views.specs.Views.Told.{alone_with, told}
use Rattle.seize_views.specs.Views.Promises.{Names, BlocksAreMade, MadeAreTaken, OwnAreMade, OwnAreTaken, OwnAreRewritten, OwnAreShown, BorneAreShown, KnownAreShown}
use Rattle.seize_views.specs.declared.view.SlotView.{SlotView}
use Rattle.seize_views.specs.declared.view.SlotView.TheVariants.{Rests, Inside, Brings, Bears}
use Rattle.seize_views.specs.declared.view.Has.{Has}
use Rattle.seize_views.specs.declared.view.Has.TheVariants.{Nothing, Made, Seen, Both, Cut, Walks}
use Rattle.seize_views.specs.declared.view.Fixed.{Fixed}
use Rattle.seize_views.proofs.Views.Moved.{IsOthers, IsApart, LinksStay, chains_stay, hand_users, making_not_held}
use Rattle.seize_views.proofs.Views.Came.{of_users, reached, since_one}
use Rattle.seize_views.proofs.Views.Chains.{linked_beside, linked_back, same_where}
use Rattle.seize_views.proofs.Views.Links.{made_beside, taken_beside, rewritten_link}
use Rattle.seize_views.proofs.Views.Found.{AreFound, found_on, found_with}
use Rattle.seize_views.proofs.Views.Steps.{roots_kept, world_roots, world_rooted}
use Rattle.seize_views.proofs.Views.Users.{use_making, beside, same_hand, world_took, passes_one, Users, Carries, within, alone_carries, users}
use Rattle.seize_words.proofs.General.{same_some}

module _ {T : Type 0} (defers : T → Option ℕ) where
  taken_none : (m : Mem T) (b : ℕ) (x : T) (m2 : Mem T) → Took m (Take b) (Taken x) m2 → value_at m2 b ≡ None
  taken_none m b x m2 took =
      ap (λ (k : Mem T). value_at k b) took.1 ∙ ap (λ (f : ℕ → Option T). f b) (taken_one m b (subst IsSome (sym took.0) refl)).values
      ∙ with_here (value_at m) b None

  -- what is left once a block is taken away has its value
  value_left : (m : Mem T) (b c : ℕ) (x : T) (m2 : Mem T) → Took m (Take b) (Taken x) m2 → IsSome (value_at m2 c) → (c ≡ b) ⊎ (c ≢ b)
      → value_at m2 c ≡ value_at m c
  value_left m b c x m2 took some (inl e) =
      let none = taken_none m b x m2 took in let there = subst (λ (a : ℕ). IsSome (value_at m2 a)) e some in absurd (cc (there, none))
  value_left m b c x m2 took some (inr ne) = taken_value defers m c b (Taken x) m2 took ne

  -- what is given another value has it
  rewritten_here : (m : Mem T) (b : ℕ) (y x : T) (m2 : Mem T) → Took m (Rewrite b y) (Taken x) m2 → value_at m2 b ≡ Some y
  rewritten_here m b y x m2 took =
      ap (λ (k : Mem T). value_at k b) took.1 ∙ value_at-with_value m b y b (subst IsSome (sym took.0) refl)
      ∙ ap (λ (q : Bool). if q then Some y else value_at m b) (eq-eqb b b refl)

module _ {T : Type 0} (defers : T → Option ℕ) (fixed : Fixed) (s : State T (SlotView T) (World T)) (id t : ℕ) (v : SlotView T) (had : Has T)
    (in_its : hand_of v ≡ had_in had) (h : Holds defers fixed s) (at : view_of s id ≡ Some v) (is_so : IsInHand defers s.world t had) where
  abbrev w : World T
  w = s.world

  r : Reached defers fixed.batch_size w
  r = reached defers fixed w h.came

  -- the seat goes on, and this is in its hand
  abbrev pub GoesWith : Mem T → World T → Has T → (SlotView T → Type 0) → Type 0
  GoesWith m n has so = Users defers fixed s id t m n has → AreFound s id h.life.began fixed (had_in has) m n.hand → Leads defers fixed s m id so

  -- the roots are as they were
  same_roots : (m : Mem T) → m.roots ≡ w.memory.roots → m.roots ≡ s.memory.roots
  same_roots m e = e ∙ sym (ap (λ (x : Mem T). x.roots) h.memory)

  -- a number that is free is in nobody's hand
  free_hand : (b : ℕ) (k : Hand) → IsOfUsers k → value_at w.memory b ≡ None → k ≡ w.hand b → ⊥
  free_hand b k of none e =
      let some = kept_there defers fixed.batch_size w r b (IsHad (of_users w.hand b k of (sym e))) in cc (some, none)

  -- the roots name what they named
  pub root_words : (m : Mem T) → m.roots ≡ w.memory.roots → (a : ℕ) → IsChainRoot fixed a → word_at m (Root a) ≡ word_at s.memory (Root a)
  root_words m e a is = ap (λ (l : List ℕ). slice_get l a) (same_roots m e)

  -- a block with a link that another one has, or nobody, is there
  pub apart_there : (b : ℕ) → IsApart defers fixed s id b → IsSome (value_at w.memory b)
  apart_there b (inl has) = subst IsSome (sym has.0.0.1) refl
  apart_there b (inr its) = kept_there defers fixed.batch_size w r b (IsHad (of_users w.hand b (world.Making its.1.0) tt its.1.1))

  -- and is another one than the seat has made
  pub apart_from : (b : ℕ) → ((i : ℕ) × (w.hand b ≡ world.Making i)) → had_in had ≡ Some b → (c : ℕ) → IsApart defers fixed s id c → c ≡ b → ⊥
  apart_from b making had_it c (inl has) is = has.1 making.0 (ap w.hand is ∙ making.1)
  apart_from b making had_it c (inr its) is =
      its.0.2 (h.sole its.0.0 id b its.0.1 v its.0.3 at (its.0.4 ∙ ap Some is) (in_its ∙ had_it))

  -- a block is made, beside what the seat knew

  made_value_of : (value : T) (words b : ℕ) (m : Mem T) → Took w.memory (Make value words) (OutMade (Ok b)) m → value_at m b ≡ Some value
  made_value_of value words b m took =
      ap (λ (k : Mem T). value_at k b) took.1 ∙ ap (λ (f : ℕ → Option T). f b) (made_one w.memory value words b took.0.0).values
      ∙ with_here (value_at w.memory) b (Some value)

  -- another one does not have a block that is not there
  free_of : (j b : ℕ) (x : SlotView T) → j ≢ id → view_of s j ≡ Some x → hand_of x ≡ Some b → value_at w.memory b ≡ None → ⊥
  free_of j b x ne e q none =
      let some = kept_there defers fixed.batch_size w r b (IsHad (hand_users defers w x b (h.seats j x e).known q).0) in cc (some, none)

  pub makes_with : (value : T) (words : ℕ) → had_in had ≡ None → HasListWord defers (defers value) words → (after : ℕ → Has T) → ((b : ℕ) → had_in (after b) ≡ Some b)
      → ((b : ℕ) (n : World T) → IsMade n b value → ((c : ℕ) → holds t c w.log ≡ true → holds t c n.log ≡ true) → IsInHand defers n t (after b))
      → (so : Out T → SlotView T → Type 0)
      → ((b : ℕ) (m : Mem T) → b < 2 ^ 53 → Took w.memory (Make value words) (OutMade (Ok b)) m
      → GoesWith m (made_by defers w id m (OutMade (Ok b))) (after b) (so (OutMade (Ok b))))
      → ((back : T) (m : Mem T) → back ≡ value → GoesWith m (made_by defers w id m (OutMade (Err back))) had (so (OutMade (Err back)))) → (out : Out T) (m : Mem T)
      → Took s.memory (Make value words) out m
      → Leads defers fixed s m id (so out)
  makes_with value words empty list after made_hand hand so tells refused (OutMade (Ok b)) m took =
      let op : Op T = Make value words in let out : Out T = OutMade (Ok b) in
      let n : World T = made_by defers w id m out in
      let here = world_took s h.memory op out m took in
      let free = (made_one w.memory value words b here.0.0).was_free in
      let links : LinksStay defers fixed s id n =
      (λ c apart some. let there = apart_there c apart in (
        made_value defers w.memory c value words out m there here,
        made_beside w.memory m b value words c here.0.0 here.1 (λ e. let none = ap (value_at w.memory) e ∙ free in cc (there, none)),
      )) in
      let since = since_one defers fixed w n (Makes id value words) (out, m, list, here, refl) in
      tells b m took.0.1 here (record {
        since = since_one defers fixed w n (Makes id value words) (out, m, list, here, refl);
        memory = refl;
        row = refl;
        uses = refl;
        in_hand = hand b n ((id, with_here w.hand b (world.Making id)), made_value_of value words b m here) (λ c held. held);
        hands = λ j c x ne e q. with_other w.hand b c (world.Making id) (λ k. free_of j b x ne e (q ∙ ap Some k) free);
        sole = λ j c x ne e q p. free_of j b x ne e (q ∙ sym p ∙ made_hand b) free;
        values = λ c its some some2. made_value defers w.memory c value words out m some here;
        links = links;
        held = λ a c held. held;
        over = λ a c held. refl;
        chains = chains_stay defers fixed s id h m n refl since links (root_words m (ap (λ (x : Mem T). x.roots) here.1))
            (λ c a is e. linked_beside w.hand b (world.Making id) a c (λ its. free_hand b (world.InUse a) tt free (sym its)) e)
            (λ c a is e. linked_back w.hand b (world.Making id) a c (λ its. cc its) e);
        roots = roots_kept w.memory m w.hand n.hand (ap (λ (x : Mem T). x.roots) here.1)
            (λ c a is. beside w b c (world.Making id) (world.InUse a) (λ e. free_hand b (world.InUse a) tt free e) is)
            (world_roots defers fixed s id v h at);
        rooted = ap (λ (x : Mem T). length x.roots) here.1 ∙ world_rooted defers fixed s id v h at;
        passes = passes_one defers fixed s id t (Makes id value words) n (λ j. tt)
            (out, m, list, here, refl);
      }) (found_with defers fixed s id v h at (had_in (after b)) m (same_roots m (ap (λ (x : Mem T). x.roots) here.1)) b (world.Making id) (inl (made_hand b))
      (λ c ne e. absurd (let k = in_its in cc (empty, k, e))))
  makes_with value words empty list after made_hand hand so tells refused (OutMade (Err back)) m took =
      let op : Op T = Make value words in let out : Out T = OutMade (Err back) in
      let n : World T = made_by defers w id m out in
      let here = world_took s h.memory op out m took in
      let links : LinksStay defers fixed s id n = (λ c apart some. same_where w.memory m c here.1) in
      let since = since_one defers fixed w n (Makes id value words) (out, m, list, here, refl) in
      refused back m took.0 (record {
        since = since_one defers fixed w n (Makes id value words) (out, m, list, here, refl);
        memory = refl;
        row = refl;
        uses = refl;
        in_hand = same_hand defers w n t refl here.1 (λ c held. held) had is_so;
        hands = λ j c x ne e q. refl;
        sole = λ j c x ne e q p. ne (h.sole j id c x v e at q (in_its ∙ p));
        values = λ c its some some2. made_value defers w.memory c value words out m some here;
        links = links;
        held = λ a c held. held;
        over = λ a c held. refl;
        chains = chains_stay defers fixed s id h m n refl since links (root_words m (ap (λ (x : Mem T). x.roots) here.1)) (λ c a is e. e) (λ c a is e. e);
        roots = roots_kept w.memory m w.hand n.hand (ap (λ (x : Mem T). x.roots) here.1) (λ c a is. is) (world_roots defers fixed s id v h at);
        rooted = ap (λ (x : Mem T). length x.roots) here.1 ∙ world_rooted defers fixed s id v h at;
        passes = passes_one defers fixed s id t (Makes id value words) n (λ j. tt)
            (out, m, list, here, refl);
      }) (λ b. found_on defers fixed s id v h at (had_in had) m (same_roots m (ap (λ (x : Mem T). x.roots) here.1)) b (λ e. sym (in_its) ∙ e))
  makes_with value words empty list after made_hand hand so tells refused (Found x) m took = absurd took.0
  makes_with value words empty list after made_hand hand so tells refused Stored m took = absurd took.0
  makes_with value words empty list after made_hand hand so tells refused (Exchanged x) m took = absurd took.0
  makes_with value words empty list after made_hand hand so tells refused (Taken x) m took = absurd took.0
  makes_with value words empty list after made_hand hand so tells refused (Roomed x) m took = absurd took.0

  -- the block that is known is there

  known_there : (has : Has T) (b : ℕ) → IsInHand defers w t has → Names has b → IsSome (value_at w.memory b)
  known_there Nothing b is names = absurd names
  known_there (Made c x) b is names =
      subst (λ (a : ℕ). IsSome (value_at w.memory a)) names (kept_there defers fixed.batch_size w r c (IsHad (of_users w.hand c (world.Making is.0.0) tt is.0.1)))
  known_there (Seen c) b is names = subst (λ (a : ℕ). IsSome (value_at w.memory a)) names (kept_there defers fixed.batch_size w r c (IsHeld t is))
  known_there (Both c x a) b is (inl names) =
      subst (λ (k : ℕ). IsSome (value_at w.memory k)) names (kept_there defers fixed.batch_size w r c (IsHad (of_users w.hand c (world.Making is.0.0.0) tt is.0.0.1)))
  known_there (Both c x a) b is (inr names) = subst (λ (k : ℕ). IsSome (value_at w.memory k)) names (kept_there defers fixed.batch_size w r a (IsHeld t is.1))
  known_there (Walks c next) b is names = elim (is.0 0 c refl) as (λ _. IsSome (value_at w.memory b)) [
    | inl none ↦ absurd (names.1 (sym names.0 ∙ none))
    | inr held ↦ subst (λ (a : ℕ). IsSome (value_at w.memory a)) names.0 (kept_there defers fixed.batch_size w r c (IsHeld t held.0))
  ]
  known_there (Cut c) b is names =
      subst (λ (a : ℕ). IsSome (value_at w.memory a)) names (kept_there defers fixed.batch_size w r c (IsHad (of_users w.hand c (world.Cutting is.0) tt is.1)))

  pub shown : (b : ℕ) → Names had b → IsSome (value_at s.memory b)
  shown b names = subst (λ (m : Mem T). IsSome (value_at m b)) (sym h.memory) (known_there had b is_so names)

  -- the block that was made is taken away, and the seat knows what it knew beside

  pub takes_with : (b : ℕ) (x : T) → IsMade w b x → had_in had ≡ Some b → (after : Has T) → had_in after ≡ None
      → ((n : World T) → ((c : ℕ) → holds t c w.log ≡ true → holds t c n.log ≡ true) → IsInHand defers n t after)
      → (so : Out T → SlotView T → Type 0)
      → ((value : T) (m : Mem T) → value ≡ x → GoesWith m (with_effect (with_hand (record w { memory = m }) b world.NoBlock) (Dropped b)) after (so (Taken value)))
      → (out : Out T) (m : Mem T) → Took s.memory (Take b) out m
      → Leads defers fixed s m id (so out)
  takes_with b x made had_it after gone hand so tells (Taken value) m took =
      let op : Op T = Take b in let out : Out T = Taken value in
      let n : World T = with_effect (with_hand (record w { memory = m }) b world.NoBlock) (Dropped b) in
      let here = world_took s h.memory op out m took in
      let links : LinksStay defers fixed s id n =
      (λ c apart some.
      let ne = apart_from b made.0 had_it c apart in
      (taken_value defers w.memory c b out m here ne, taken_beside w.memory m b c (subst IsSome (sym here.0) refl) here.1 ne)) in
      let since = since_one defers fixed w n (Drops id b) (out, m, made.0, here, refl) in
      tells value m (same_some value x (sym here.0 ∙ made.1)) (record {
        since = since_one defers fixed w n (Drops id b) (out, m, made.0, here, refl);
        memory = refl;
        row = refl;
        uses = refl;
        in_hand = hand n (λ c held. held_beside t c b w.log (making_not_held defers fixed.batch_size w r made.0.0 t b c held made.0.1) held);
        hands = λ j c y ne e q. with_other w.hand b c world.NoBlock
            (λ k. ne (h.sole j id b y v e at (q ∙ ap Some k) (in_its ∙ had_it)));
        sole = λ j c y ne e q p. cc (gone, p);
        values = λ c its some some2. value_left defers w.memory b c value m here some2 (cases_eq c b);
        links = links;
        chains = chains_stay defers fixed s id h m n refl since links (root_words m (ap (λ (x : Mem T). x.roots) here.1))
            (λ c a is e. linked_beside w.hand b world.NoBlock a c (λ its. use_making a made.0.0 (sym its ∙ made.0.1)) e)
            (λ c a is e. linked_back w.hand b world.NoBlock a c (λ its. cc its) e);
        held = λ a c held. held_beside a c b w.log (making_not_held defers fixed.batch_size w r made.0.0 a b c held made.0.1) held;
        over = λ a c held. refl;
        roots = roots_kept w.memory m w.hand n.hand (ap (λ (x : Mem T). x.roots) here.1)
            (λ c a had. beside w b c world.NoBlock (world.InUse a) (λ e. use_making a made.0.0 (e ∙ made.0.1)) had) (world_roots defers fixed s id v h at);
        rooted = ap (λ (x : Mem T). length x.roots) here.1 ∙ world_rooted defers fixed s id v h at;
        passes = passes_one defers fixed s id t (Drops id b) n (λ j. tt) (out, m, made.0, here, refl);
      }) (found_with defers fixed s id v h at (had_in after) m (same_roots m (ap (λ (x : Mem T). x.roots) here.1)) b world.NoBlock tt
      (λ c ne e. absurd (ne (same_some c b (sym e ∙ in_its ∙ had_it)))))
  takes_with b x made had_it after gone hand so tells (Found y) m took = absurd took.0
  takes_with b x made had_it after gone hand so tells Stored m took = absurd took.0
  takes_with b x made had_it after gone hand so tells (Exchanged y) m took = absurd took.0
  takes_with b x made had_it after gone hand so tells (OutMade y) m took = absurd took.0
  takes_with b x made had_it after gone hand so tells (Roomed y) m took = absurd took.0

  -- the block that was made is given another value, which keeps its list in the same word

  -- a block that another one has, or the collector, or that is held, is another block
  apart : (b : ℕ) → ((i : ℕ) × (w.hand b ≡ world.Making i)) → had_in had ≡ Some b → (c : ℕ) → IsOthers defers fixed s id c → c ≡ b → ⊥
  apart b making had_it c (inl its) is = its.2 (h.sole its.0 id b its.1 v its.3 at (its.4 ∙ ap Some is) (in_its ∙ had_it))
  apart b making had_it c (inr (inl handed)) is = let same = ap w.hand is in let mine = making.1 in cc (same, handed, mine)
  apart b making had_it c (inr (inr held)) is = making_not_held defers fixed.batch_size w r making.0 held.0 b c held.2 making.1 is

  rewrites_with : (b : ℕ) (x y : T) → IsMade w b x → had_in had ≡ Some b → defers y ≡ defers x → (after : Has T) → had_in after ≡ Some b
      → ((n : World T) → IsMade n b y → ((c : ℕ) → holds t c w.log ≡ true → holds t c n.log ≡ true) → IsInHand defers n t after)
      → (so : Out T → SlotView T → Type 0) → ((value : T) (m : Mem T) → value ≡ x → GoesWith m (record w { memory = m }) after (so (Taken value)))
      → (out : Out T) (m : Mem T) → Took s.memory (Rewrite b y) out m
      → Leads defers fixed s m id (so out)
  rewrites_with b x y made had_it list after has_it hand so tells (Taken value) m took =
      let n : World T = record w { memory = m } in
      let here = world_took s h.memory (Rewrite b y) (Taken value) m took in
      let was : value ≡ x = same_some value x (sym here.0 ∙ made.1) in
      let happens : Happens defers fixed.batch_size (Rewrites id b y) w n = (value, m, made.0, here, list ∙ ap defers (sym was), refl) in
      let still : had_in after ≡ had_in had = has_it ∙ sym had_it in
      let links : LinksStay defers fixed s id n =
      (λ c apart some. (
        rewritten_value defers w.memory c b y value m here (apart_from b made.0 had_it c apart),
        rewritten_link w.memory m b y value c (subst IsSome (sym here.0) refl) here.1,
      )) in
      tells value m was (record {
        since = since_one defers fixed w n (Rewrites id b y) happens;
        memory = refl;
        row = refl;
        uses = refl;
        in_hand = hand n (made.0, rewritten_here defers w.memory b y value m here) (λ c held. held);
        hands = λ j c z ne e q. refl;
        sole = λ j c z ne e q p. ne (h.sole j id c z v e at q (in_its ∙ sym still ∙ p));
        values = λ c its some some2. rewritten_value defers w.memory c b y value m here (apart b made.0 had_it c its);
        links = links;
        chains = chains_stay defers fixed s id h m n refl (since_one defers fixed w n (Rewrites id b y) happens) links
            (root_words m (ap (λ (x : Mem T). x.roots) here.1)) (λ c a is e. e) (λ c a is e. e);
        held = λ a c held. held;
        over = λ a c held. refl;
        roots = roots_kept w.memory m w.hand n.hand (ap (λ (x : Mem T). x.roots) here.1) (λ c a is. is) (world_roots defers fixed s id v h at);
        rooted = ap (λ (x : Mem T). length x.roots) here.1 ∙ world_rooted defers fixed s id v h at;
        passes = passes_one defers fixed s id t (Rewrites id b y) n (λ j. tt) happens;
      }) (λ c. found_on defers fixed s id v h at (had_in after) m (same_roots m (ap (λ (x : Mem T). x.roots) here.1)) c
      (λ mine. still ∙ sym (in_its) ∙ mine))
  rewrites_with b x y made had_it list after has_it hand so tells (Found z) m took = absurd took.0
  rewrites_with b x y made had_it list after has_it hand so tells Stored m took = absurd took.0
  rewrites_with b x y made had_it list after has_it hand so tells (Exchanged z) m took = absurd took.0
  rewrites_with b x y made had_it list after has_it hand so tells (OutMade z) m took = absurd took.0
  rewrites_with b x y made had_it list after has_it hand so tells (Roomed z) m took = absurd took.0

module _ {T : Type 0} (defers : T → Option ℕ) (fixed : Fixed) (s : State T (SlotView T) (World T)) (id t : ℕ) (place : Has T → SlotView T) (carries : Carries t place)
    (had : Has T) (h : Holds defers fixed s) (at : view_of s id ≡ Some (place had)) (is_so : IsInHand defers s.world t had) where
  -- the same by a seat that stays where it is

  makes : (value : T) (words : ℕ) → had_in had ≡ None → HasListWord defers (defers value) words → (after : ℕ → Has T) → ((b : ℕ) → had_in (after b) ≡ Some b)
      → ((b : ℕ) (n : World T) → IsMade n b value → ((c : ℕ) → holds t c s.world.log ≡ true → holds t c n.log ≡ true) → IsInHand defers n t (after b))
      → (so : Out T → SlotView T → Type 0) → ((b : ℕ) → b < 2 ^ 53 → so (OutMade (Ok b)) (place (after b)))
      → ((back : T) → back ≡ value → so (OutMade (Err back)) (place had)) → (out : Out T) (m : Mem T) → Took s.memory (Make value words) out m
      → Leads defers fixed s m id (so out)
  makes value words empty list after made_hand hand so tells refused out m took =
      makes_with defers fixed s id t (place had) had (carries.hand had) h at is_so value words empty list after made_hand hand so
      (λ b m2 lt here u found.
      users defers fixed s id t h place carries had at m2 (made_by defers s.world id m2 (OutMade (Ok b))) (after b) u found (so (OutMade (Ok b))) (tells b lt))
      (λ back m2 same u found.
      users defers fixed s id t h place carries had at m2 (made_by defers s.world id m2 (OutMade (Err back))) had u found (so (OutMade (Err back))) (refused back same))
      out m took

  takes : (b : ℕ) (x : T) → IsMade s.world b x → had_in had ≡ Some b → (after : Has T) → had_in after ≡ None
      → ((n : World T) → ((c : ℕ) → holds t c s.world.log ≡ true → holds t c n.log ≡ true) → IsInHand defers n t after)
      → (so : Out T → SlotView T → Type 0) → ((value : T) → value ≡ x → so (Taken value) (place after)) → (out : Out T) (m : Mem T)
      → Took s.memory (Take b) out m
      → Leads defers fixed s m id (so out)
  takes b x made had_it after gone hand so tells out m took =
      takes_with defers fixed s id t (place had) had (carries.hand had) h at is_so b x made had_it after gone hand so
      (λ value m2 same u found.
      let n : World T = with_effect (with_hand (record s.world { memory = m2 }) b world.NoBlock) (Dropped b) in
      users defers fixed s id t h place carries had at m2 n after u found (so (Taken value)) (tells value same)) out m took

  rewrites : (b : ℕ) (x y : T) → IsMade s.world b x → had_in had ≡ Some b → defers y ≡ defers x → (after : Has T) → had_in after ≡ Some b
      → ((n : World T) → IsMade n b y → ((c : ℕ) → holds t c s.world.log ≡ true → holds t c n.log ≡ true) → IsInHand defers n t after)
      → (so : Out T → SlotView T → Type 0) → ((value : T) → value ≡ x → so (Taken value) (place after)) → (out : Out T) (m : Mem T)
      → Took s.memory (Rewrite b y) out m
      → Leads defers fixed s m id (so out)
  rewrites b x y made had_it list after has_it hand so tells out m took =
      rewrites_with defers fixed s id t (place had) had (carries.hand had) h at is_so b x y made had_it list after has_it hand so
      (λ value m2 same u found.
      users defers fixed s id t h place carries had at m2 (record s.world { memory = m2 }) after u found (so (Taken value)) (tells value same)) out m took

module _ (T : Type 0) (defers : T → Option ℕ) where
  pub blocks_are_made : BlocksAreMade T defers
  blocks_are_made Nothing value words looks list fixed id t s h at = (
    tt,
    makes defers fixed s id t (Inside t) (within t) Nothing h at tt value words refl list (λ b. Made b value) (λ b. refl) (λ b n made held. made) (told defers (Inside t Nothing) (Make value words))
        (λ b lt. (Made b value, (lt, refl), refl)) (λ back same. (Nothing, (same, refl), refl)),
  )
  blocks_are_made (Seen a) value words looks list fixed id t s h at = (
    tt,
    makes defers fixed s id t (Inside t) (within t) (Seen a) h at (h.seats id (Inside t (Seen a)) at).known value words refl list (λ b. Both b value a) (λ b. refl)
        (λ b n made held. (made, held a (h.seats id (Inside t (Seen a)) at).known))
        (told defers (Inside t (Seen a)) (Make value words)) (λ b lt. (Both b value a, (lt, refl), refl)) (λ back same. (Seen a, (same, refl), refl)),
  )
  blocks_are_made (Made b x) value words looks list fixed id t s h at = absurd looks
  blocks_are_made (Both b x a) value words looks list fixed id t s h at = absurd looks
  blocks_are_made (Walks b next) value words looks list fixed id t s h at = absurd looks
  blocks_are_made (Cut b) value words looks list fixed id t s h at = absurd looks

  pub made_are_taken : MadeAreTaken T defers
  made_are_taken (Made c x) b is fixed id t s h at =
      let known = (h.seats id (Inside t (Made c x)) at).known in
      let made = subst (λ (k : ℕ). IsMade s.world k x) is known in (
        shown defers fixed s id t (Inside t (Made c x)) (Made c x) refl h at known b is,
        takes defers fixed s id t (Inside t) (within t) (Made c x) h at known b x made (ap Some is) Nothing refl (λ n held. tt) (told defers (Inside t (Made c x)) (Take b))
            (λ value same. (Nothing, (same, refl), refl)),
      )
  made_are_taken (Both c x a) b is fixed id t s h at =
      let known = (h.seats id (Inside t (Both c x a)) at).known in
      let made = subst (λ (k : ℕ). IsMade s.world k x) is known.0 in (
        shown defers fixed s id t (Inside t (Both c x a)) (Both c x a) refl h at known b (inl is),
        takes defers fixed s id t (Inside t) (within t) (Both c x a) h at known b x made (ap Some is) (Seen a) refl (λ n held. held a known.1) (told defers (Inside t (Both c x a)) (Take b))
            (λ value same. (Seen a, (same, refl), refl)),
      )
  made_are_taken Nothing b is fixed id t s h at = absurd is
  made_are_taken (Seen a) b is fixed id t s h at = absurd is
  made_are_taken (Walks a next) b is fixed id t s h at = absurd is
  made_are_taken (Cut a) b is fixed id t s h at = absurd is

  pub known_are_shown : KnownAreShown T defers
  known_are_shown has b fixed id t names s h at = shown defers fixed s id t (Inside t has) has refl h at (h.seats id (Inside t has) at).known b names

  -- by a seat without a slot, too

  pub own_are_made : OwnAreMade T defers
  own_are_made value words list fixed id s h at = (
    tt,
    makes defers fixed s id 0 alone_with alone_carries Nothing h at tt value words refl list (λ b. Made b value) (λ b. refl) (λ b n made held. made)
        (told defers Rests (Make value words)) (λ b lt. (Made b value, (lt, refl), refl)) (λ back same. (Nothing, (same, refl), refl)),
  )

  pub own_are_taken : OwnAreTaken T defers
  own_are_taken b x fixed id s h at =
      let made = (h.seats id (Brings b x) at).known in (
        shown defers fixed s id 0 (alone_with (Made b x)) (Made b x) refl h at made b refl,
        takes defers fixed s id 0 alone_with alone_carries (Made b x) h at made b x made refl Nothing refl (λ n held. tt)
            (told defers (Brings b x) (Take b)) (λ value same. (Nothing, (same, refl), refl)),
      )

  pub own_are_rewritten : OwnAreRewritten T defers
  own_are_rewritten b x y list fixed id s h at =
      let made = (h.seats id (Brings b x) at).known in (
        shown defers fixed s id 0 (alone_with (Made b x)) (Made b x) refl h at made b refl,
        rewrites defers fixed s id 0 alone_with alone_carries (Made b x) h at made b x y made refl list (Made b y) refl (λ n made held. made)
            (told defers (Brings b x) (Rewrite b y)) (λ value same. (Made b y, (same, refl), refl)),
      )

  pub own_are_shown : OwnAreShown T defers
  own_are_shown fixed id b x = (
    λ s h at. shown defers fixed s id 0 (alone_with (Made b x)) (Made b x) refl h at (h.seats id (Brings b x) at).known b refl,
    λ y of. same_some y x (sym of.3 ∙ ap (λ (m : Mem T). value_at m b) of.1.memory ∙ (of.1.seats id (Brings b x) of.2).known.1),
  )

  pub borne_are_shown : BorneAreShown T defers
  borne_are_shown fixed id b s h at = shown defers fixed s id 0 (alone_with (Cut b)) (Cut b) refl h at (h.seats id (Bears b) at).known b refl
