-- Each step of reclaiming behind roots: it may be taken, and all stand on.
use Rattle.std.specs.Prelude.{Option, Some, IsSome, nat_lt, ◌==◌, if◌then◌else◌, cond, eqb}
use Rattle.std.proofs.Common.{◌≡◌, ℕ, suc, ◌+◌, ◌-◌, ◌*◌, ◌/◌, ◌<◌, ◌≤◌, ◌^◌, Bool, true, false, List, [], ◌∷◌, ◌⊎◌, inl, inr, refl, arith, ap, sym, subst, ◌∙◌, eqb-true}
use Rattle.std.proofs.lemmas.Bool.{cases_eq, eqb-false}
use Rattle.seize_words.specs.OneMemory.Word.{block_in}
use Rattle.seize_words.specs.declared.at.At.TheVariants.{Root, Used, Entry}
use Rattle.seize_words.specs.OneMemory.Mem.{Mem, Can, Took, value_at, word_at}
use Rattle.seize_words.specs.OneMemory.Plan.{Turn, Now, Seeing, Ends, May, MaySee, Steps}
use Rattle.seize_words.proofs.OneMemory.OneOwner.Operations.{may_load, loaded}
use Rattle.seize_words.proofs.OneMemory.Plans.{see_if, ends_if}
use Rattle.seize.specs.declared.states.TheConstants.{NEXT}
use Rattle.seize.specs.declared.rows.settle.Settled.{Settled}
use Rattle.seize.specs.declared.rows.settle.Settled.TheVariants as settled
use Rattle.seize.specs.declared.rows.reclaim_all.ReclaimAll.{ReclaimAll}
use Rattle.seize.specs.declared.rows.reclaim_all.Reclaiming.{Reclaiming}
use Rattle.seize.specs.declared.rows.reclaim_all.Reclaiming.TheVariants as at
use Rattle.seize.specs.Further.{ListFrom}
use Rattle.seize.specs.ReclaimAll.{standing, next_root, to, left_there, root_read, roots as roots_plan, next_read, nexts}
use Rattle.seize.specs.World.{World}
use Rattle.seize_acts.proofs.Given.SeizeMemoryWords.Named.{link-block}
use Rattle.run_effects.specs.Given.TablesNodes.{deferred_word, was_left}
use Rattle.run_effects.specs.Given.TablesDeclared.node.Node.{Node}
use Rattle.run_effects.specs.Given.TablesDeclared.node.Node.TheVariants as node
use Rattle.run_effects.specs.Given.TablesDeclared.setting.Setting.{Setting}
use Rattle.run_effects.specs.Given.RuleChart.{Chart}
use Rattle.run_effects.specs.Given.RuleInWorld.{IsMapIn}
use Rattle.run_effects.specs.Given.RuleWords.{Blocks, root_word}
use Rattle.many_maps.specs.Given.CallersTogether.{UnderWay, CameAbout}
use Rattle.many_maps.specs.Endings.{Finishing}
use Rattle.many_maps.specs.Makings.{Beginning, IsFreeRoot}
use Rattle.many_maps.specs.Maps.{Standing}
use Rattle.run_shows.specs.Reclaims.Reclaims.{IsRootOf, RootLeads, LeftBehind, Opened, ReclaimingAt, AllStandIdle, StepsOfReclaiming}
use Rattle.run_shows.specs.Reclaims.Slots.{IsQuiescent, DoesAt}
use Rattle.run_shows.proofs.Reclaims.Behind.Deferred.{tables_carry}
use Rattle.seize_acts.proofs.Quiet.Promised.{nothing_waits}
use Rattle.many_maps.proofs.Among.Machines.{same_map as same_still}
use Rattle.seize_words.proofs.General.{same_some, some_is as some_of}

-- the root of a map leads nowhere, or to a table
pub root_of_map : {K V : Type 0} (same : K → K → Bool) (hash : K → ℕ) (setting : Setting) (w : World (Node K V)) (c : Chart K) (blocks : Blocks) → IsMapIn same hash setting w c blocks
    → (a : ℕ) × (word_at w.memory (Root setting.root) ≡ Some a) × ((a ≡ 0) ⊎ ((value : Node K V) × (value_at w.memory (block_in a) ≡ Some value) × (was_left value ≡ false)))
root_of_map {K} {V} same hash setting w c blocks map = (root_word hash c blocks, map.map.shows.root_there, by (eqb c.past 0) (eqb-false c.past 0))
  where
    by : (b : Bool) → (b ≡ false → c.past ≡ 0 → ⊥)
        → (cond b 0 (blocks.table c.first * 2048) ≡ 0) ⊎ ((value : Node K V) × (value_at w.memory (block_in (cond b 0 (blocks.table c.first * 2048))) ≡ Some value) × (was_left value ≡ false))
    by true none = inl refl
    by false none =
        let made = map.map.rule.common.rooted (let k = none refl in omega (arith, k)) in
        let shows = map.map.shows.tables c.first made (map.map.shows.linked c.first (omega arith) made) in
        inr (node.Table (c.len c.first) (c.limit c.first) c.first, ap (λ (x : ℕ). value_at w.memory x) (link-block (blocks.table c.first)) ∙ shows.value, refl)

module _ {K Q : Type 0} (V : Type 0) (same : K → K → Bool) (asks : Q → K → Bool) (batch_size roots : ℕ) (slot : ℕ → ℕ)
    (maps : ℕ → Option (Standing K)) (calls : ℕ → ℕ → Option (UnderWay K V Q)) (makers : ℕ → Option (Beginning K)) (enders : ℕ → Option (Finishing K V))
    (w : World (Node K V)) (i : ℕ) (lists : ℕ → List ℕ) (word : batch_size < 2 ^ 64) (idle : AllStandIdle V same asks batch_size roots slot maps calls makers enders w)
    (quiet : IsQuiescent w) (c : ReclaimAll) (rs : c.roots ≡ roots) where
  abbrev pub LedTo : Reclaiming → Mem (Node K V) → ReclaimAll × Settled (Node K V) → Type 0
  LedTo point m2 end = StepsOfReclaiming V same asks batch_size roots slot maps calls makers enders w i lists point m2 end.0 end.1

  came : CameAbout batch_size w
  came = idle.together.makings.standing.came

  -- in the same world it goes on so
  still : (from : Reclaiming) (m2 : Mem (Node K V)) (end : ReclaimAll × Settled (Node K V)) (c2 : ReclaimAll) → DoesAt batch_size i [] w w from c2.stands → m2 ≡ w.memory → end ≡ (c2, settled.Goes)
      → c2.roots ≡ roots → ReclaimingAt batch_size roots i c2 w maps lists c2.stands → LedTo from m2 end
  still from m2 end c2 does memory e rs2 point =
      subst (λ (p : ReclaimAll × Settled (Node K V)). LedTo from m2 p) (sym e)
      (record {
        w2 = w;
        events = [];
        its = inl tt;
        runs = refl;
        does = does;
        memory = sym memory;
        maps2 = maps;
        as_they_were = λ m. same_still (maps m);
        lists2 = lists;
        told = (refl, refl);
        next = record { stand = idle; roots_are = rs2; point = point };
        over = λ e. absurd (cc e);
      })

  -- the root behind one of which nothing is left, in whichever world
  pub next_point : (v : World (Node K V)) (lists2 : ℕ → List ℕ) (root : ℕ) → IsQuiescent v → LeftBehind roots v maps lists2 → root < roots → ((r : ℕ) → r < suc root → lists2 r ≡ [])
      → ReclaimingAt batch_size roots i (next_root c root) v maps lists2 (next_root c root).stands
  next_point v lists2 root q left lt before = by (nat_lt root (c.roots - 1)) refl
    where
      by : (b : Bool) → nat_lt root (c.roots - 1) ≡ b → ReclaimingAt batch_size roots i (if b then standing c (at.Roots (root + 1)) else standing c at.Over) v maps lists2 (if b then standing c (at.Roots (root + 1)) else standing c at.Over).stands
      by true e = (q, left, (let k : root < c.roots - 1 = grind (arith, e) in omega (arith, k, rs)), λ r below. before r (omega (arith, below)))
      by false e = (q, left, λ r below. before r (let k : c.roots - 1 ≤ root = grind (arith, e) in omega (arith, k, rs, below)))

  pub next_roots : (root : ℕ) → (next_root c root).roots ≡ roots
  next_roots root = by (nat_lt root (c.roots - 1))
    where
      by : (b : Bool) → (if b then standing c (at.Roots (root + 1)) else standing c at.Over).roots ≡ roots
      by true = rs
      by false = rs

  before_more : (root : ℕ) → lists root ≡ [] → ((r : ℕ) → r < root → lists r ≡ []) → (r : ℕ) → r < suc root → lists r ≡ []
  before_more root none before r below = elim (cases_eq r root) as (λ _. lists r ≡ []) [
    | inl e ↦ ap lists e ∙ none
    | inr ne ↦ before r (omega (arith, below, ne))
  ]

  -- a root is looked at

  module _ (root : ℕ) (left : LeftBehind roots w maps lists) (lt : root < roots) (before : (r : ℕ) → r < root → lists r ≡ []) where
    -- nothing was left over there, or a list was
    abbrev Passes : ℕ → Type 0
    Passes a = (lists root ≡ []) × ((a ≡ 0) ⊎ ((value : Node K V) × (value_at w.memory (block_in a) ≡ Some value) × (was_left value ≡ false)))

    abbrev Finds : ℕ → Type 0
    Finds a =
        (b : ℕ) × (rest : List ℕ) × (lists root ≡ b ∷ rest) × ListFrom w.memory a (b ∷ rest) × ((value : Node K V) × (value_at w.memory b ≡ Some value) × (was_left value ≡ true))
        × (word_at w.memory (Used root) ≡ Some 1)

    abbrev Looks : Type 0
    Looks = (a : ℕ) × (word_at w.memory (Root root) ≡ Some a) × (Passes a ⊎ Finds a)

    of_map : IsRootOf maps root → Looks
    of_map (m, s, here, is) = at_root (root_of_map same s.hash s.setting w s.chart s.blocks (idle.together.makings.standing.each m s here).ground.map)
      where
        at_root : (a : ℕ) × (word_at w.memory (Root s.setting.root) ≡ Some a) × ((a ≡ 0) ⊎ ((value : Node K V) × (value_at w.memory (block_in a) ≡ Some value) × (was_left value ≡ false))) → Looks
        at_root (a, leads, what) = (a, subst (λ (r : ℕ). word_at w.memory (Root r) ≡ Some a) is leads, inl (left.none root lt (m, s, here, is), what))

    of_leads : (l : List ℕ) → lists root ≡ l → RootLeads w root l → Looks
    of_leads [] is (a, b) = (0, b, inl (is, inl refl))
    of_leads (b ∷ l) is (value, (a, root_is, there), used) = (a, root_is, inr (b, l, is, there, value, used))

    looks : Looks
    looks = elim (left.others root lt (λ e. omega (arith, e, lt))) as (λ _. Looks) [
      | inl is ↦ of_map is
      | inr leads ↦ of_leads (lists root) refl leads
    ]

    -- where a list is, the root is no map's
    apart : (b : ℕ) (rest : List ℕ) → lists root ≡ b ∷ rest → IsRootOf maps root → ⊥
    apart b rest is of = let none = left.none root lt of in cc (is, none)

    module _ (a : ℕ) (there : word_at w.memory (Root root) ≡ Some a) where
      opened : (b : ℕ) (rest : List ℕ) → lists root ≡ b ∷ rest → word_at w.memory (Used root) ≡ Some 1 → Opened roots w maps lists root
      opened b rest is used = record {
        below = lt;
        before = before;
        but = record { others = λ r below ne. left.others r below (λ e. omega (arith, e, below)); none = left.none; left = left.left; once = left.once };
        apart = apart b rest is;
        used = used;
        there = some_of (word_at w.memory (Root root)) a there;
      }

      see_left : (b : Bool) → MaySee {R = ReclaimAll × Settled (Node K V)} (value_at w.memory) (left_there c root a b)
      see_left true = tt
      see_left false = tt

      see_value : Passes a ⊎ Finds a → (a == 0) ≡ false → IsSome (value_at w.memory (block_in a))
      see_value (inl (none, inl z)) e = absurd (eqb-false a 0 e z)
      see_value (inl (none, inr (value, is, was))) e = some_of (value_at w.memory (block_in a)) value is
      see_value (inr (b, rest, is, from, (value, here, was), used)) e =
          some_of (value_at w.memory (block_in a)) value (ap (λ (x : ℕ). value_at w.memory x) (ap (λ u. u / 2048) from.2 ∙ link-block b) ∙ here)

      led_true : (m2 : Mem (Node K V)) (end : ReclaimAll × Settled (Node K V)) → m2 ≡ w.memory → a ≡ 0 → Passes a ⊎ Finds a → end ≡ (next_root c root, settled.Goes) → LedTo (at.Roots root) m2 end
      led_true m2 end memory z (inl (none, what)) e =
          still (at.Roots root) m2 end (next_root c root) tt memory e (next_roots root) (next_point w lists root quiet left lt (before_more root none before))
      led_true m2 end memory z (inr (b, rest, is, from, value, used)) e = absurd (let p = from.1 in let q = from.2 in omega (arith, z, p, q))

      led_false : (m2 : Mem (Node K V)) (end : ReclaimAll × Settled (Node K V)) → m2 ≡ w.memory → (a ≡ 0 → ⊥) → Passes a ⊎ Finds a → (value : Node K V) → value_at w.memory (block_in a) ≡ Some value
          → Ends (value_at w.memory) (left_there c root a (was_left value)) end → LedTo (at.Roots root) m2 end
      led_false m2 end memory ne (inl (none, inl z)) value is ends = absurd (ne z)
      led_false m2 end memory ne (inl (none, inr (x, there2, was))) value is ends =
          let here : was_left value ≡ false = ap was_left (same_some value x (sym is ∙ there2)) ∙ was in
          still (at.Roots root) m2 end (next_root c root) tt memory (subst (λ (b : Bool). Ends (value_at w.memory) (left_there c root a b) end) here ends) (next_roots root)
          (next_point w lists root quiet left lt (before_more root none before))
      led_false m2 end memory ne (inr (b, rest, list, from, (x, there2, was), used)) value is ends =
          let named : block_in a ≡ b = ap (λ u. u / 2048) from.2 ∙ link-block b in
          let here : was_left value ≡ true = ap was_left (same_some value x (sym is ∙ ap (λ (y : ℕ). value_at w.memory y) named ∙ there2)) ∙ was in
          still (at.Roots root) m2 end (standing c (at.Nexts root a)) tt memory (subst (λ (b : Bool). Ends (value_at w.memory) (left_there c root a b) end) here ends) rs
          (quiet, opened b rest list used, (b, rest, list, from))

    pub root_may : May Can Took value_at w.memory (roots_plan was_left c root)
    root_may =
        may_load w.memory (root_read was_left c root) (Root root) (some_of (word_at w.memory (Root root)) looks.0 looks.1)
        (λ a there. see_if (value_at w.memory) (a == 0) _ _ (λ e. tt)
        (λ e. (see_value a there (subst (λ (x : ℕ). Passes x ⊎ Finds x) (same_some looks.0 a (sym looks.1 ∙ there)) looks.2) e, λ value is. see_left a there (was_left value))))

    pub root_led : (m2 : Mem (Node K V)) (end : ReclaimAll × Settled (Node K V)) → Steps Took value_at w.memory (roots_plan was_left c root) m2 end → LedTo (at.Roots root) m2 end
    root_led m2 end steps =
        let d = loaded w.memory (root_read was_left c root) (Root root) m2 end steps in
        let what : Passes d.0 ⊎ Finds d.0 = subst (λ (x : ℕ). Passes x ⊎ Finds x) (same_some looks.0 d.0 (sym looks.1 ∙ d.1)) looks.2 in
        elim (ends_if (value_at w.memory) (d.0 == 0) (to (next_root c root)) (Seeing (block_in d.0) (λ value. left_there c root d.0 (was_left value))) end d.3) as (λ _. LedTo (at.Roots root) m2 end) [
          | inl h ↦ led_true d.0 d.1 m2 end d.2 (eqb-true d.0 0 h.0) what h.1
          | inr h ↦ led_false d.0 d.1 m2 end d.2 (eqb-false d.0 0 h.0) what h.1.0 h.1.1 h.1.2
        ]

  -- what comes behind a block

  module _ (root block : ℕ) (o : Opened roots w maps lists root) (b : ℕ) (rest : List ℕ) (is : lists root ≡ b ∷ rest) (from : ListFrom w.memory block (b ∷ rest)) where
    named : block_in block ≡ b
    named = ap (λ u. u / 2048) from.2 ∙ link-block b

    link_there : word_at w.memory (Entry (block_in block) NEXT) ≡ Some from.0
    link_there = ap (λ (x : ℕ). word_at w.memory (Entry x NEXT)) named ∙ from.3

    pub next_may : May Can Took value_at w.memory (nexts {T = Node K V} c root block)
    next_may = may_load w.memory (next_read c root block) (Entry (block_in block) NEXT) (some_of (word_at w.memory (Entry (block_in block) NEXT)) from.0 link_there) (λ a e. tt)

    pub next_led : (m2 : Mem (Node K V)) (end : ReclaimAll × Settled (Node K V)) → Steps Took value_at w.memory (nexts c root block) m2 end → LedTo (at.Nexts root block) m2 end
    next_led m2 end steps =
        let d = loaded w.memory (next_read c root block) (Entry (block_in block) NEXT) m2 end steps in
        let e : from.0 ≡ d.0 = same_some from.0 d.0 (sym link_there ∙ d.1) in
        still (at.Nexts root block) m2 end (standing c (at.Takes root block d.0)) tt d.2 d.3 rs
        (quiet, o, (b, rest, is, from.2, from.3 ∙ ap Some e, subst (λ (x : ℕ). ListFrom w.memory x rest) e from.4))

  -- it is over

  pub over_led : (left : LeftBehind roots w maps lists) → ((r : ℕ) → r < roots → lists r ≡ []) → c.stands ≡ at.Over → (m2 : Mem (Node K V)) (end : ReclaimAll × Settled (Node K V))
      → Steps Took value_at w.memory (Turn (Now (c, settled.Done))) m2 end → LedTo at.Over m2 end
  over_led left none at_over m2 end steps =
      subst (λ (p : ReclaimAll × Settled (Node K V)). LedTo at.Over m2 p) (sym steps.1)
      (record {
        w2 = w;
        events = [];
        its = inl tt;
        runs = refl;
        does = tt;
        memory = sym steps.0;
        maps2 = maps;
        as_they_were = λ m. same_still (maps m);
        lists2 = lists;
        told = (refl, refl);
        next = record { stand = idle; roots_are = rs; point = subst (λ p. ReclaimingAt batch_size roots i c w maps lists p) (sym at_over) (quiet, left, none) };
        over = λ e. record {
          nothing = nothing_waits deferred_word batch_size w word came quiet;
          free = λ r lt. (elim (left.others r lt (λ e. omega (arith, e, lt))) as (λ _. IsRootOf maps r ⊎ IsFreeRoot w r) [
            | inl of ↦ inl of
            | inr leads ↦ inr (subst (λ (l : List ℕ). RootLeads w r l) (none r lt) leads)
          ]);
          carry = tables_carry V same asks batch_size roots slot maps calls makers enders w idle;
        };
      })
