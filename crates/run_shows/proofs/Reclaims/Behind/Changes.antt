-- Each step of reclaiming behind roots that changes something: a block is taken away, or a root is written. It may be taken, and all stand on.
use Rattle.std.specs.Prelude.{◌≢◌, Option, Some, None, IsSome, ◌==◌, if◌then◌else◌, cond}
use Rattle.std.proofs.Common.{◌≡◌, ℕ, suc, ◌/◌, ◌<◌, ◌^◌, Bool, true, false, List, [], ◌∷◌, ◌⊎◌, inl, inr, refl, arith, ap, sym, subst, ◌∙◌, eqb-true}
use Rattle.std.proofs.lemmas.Bool.{cases_eq, eqb-false, eq-eqb}
use Rattle.seize_words.specs.OneMemory.Word.{block_in, link_to}
use Rattle.seize_words.specs.OneMemory.Op.{Stored, Taken, Take}
use Rattle.seize_words.specs.declared.at.At.TheVariants.{Root, Used, Entry}
use Rattle.seize_words.specs.OneMemory.Mem.{Mem, Can, Took, value_at, word_at, with_word, with_block}
use Rattle.seize_words.specs.OneMemory.Plan.{Do, Now, Ends, May, MaySee, Steps}
use Rattle.seize_words.proofs.OneMemory.OneOwner.AfterWrites.{word_at-with_word}
use Rattle.seize_words.proofs.OneMemory.OneOwner.Operations.{may_store, may_take, stored, taken}
use Rattle.seize_words.proofs.OneMemory.Plans.{ends_if}
use Rattle.seize.specs.declared.states.TheConstants.{NEXT}
use Rattle.seize.specs.declared.rows.settle.Settled.{Settled}
use Rattle.seize.specs.declared.rows.settle.Settled.TheVariants as settled
use Rattle.seize.specs.declared.rows.reclaim_all.ReclaimAll.{ReclaimAll}
use Rattle.seize.specs.declared.rows.reclaim_all.Reclaiming.{Reclaiming}
use Rattle.seize.specs.declared.rows.reclaim_all.Reclaiming.TheVariants as at
use Rattle.seize.specs.Further.{ListFrom}
use Rattle.seize.specs.Law.{holds}
use Rattle.seize.specs.ReclaimAll.{standing, next_root, to, given_back, takes, empties, unuses}
use Rattle.seize.specs.World.{World, Hand, Use, LeftTo, IsOutside, Runs, times}
use Rattle.seize_acts.proofs.Given.SeizeMemoryWords.Named.{link-block}
use Rattle.seize_acts.proofs.Given.SeizeAloneHistories.Uses.{none_held}
use Rattle.run_effects.specs.Given.TablesNodes.{deferred_word}
use Rattle.run_effects.specs.Given.TablesDeclared.node.Node.{Node}
use Rattle.run_effects.specs.Given.TablesDeclared.resize_mode.ResizeMode.TheVariants.{Blocking}
use Rattle.run_effects.specs.Given.TablesDeclared.setting.Setting.{Setting}
use Rattle.many_maps.specs.Given.CallersTogether.{UnderWay, CameAbout}
use Rattle.many_maps.proofs.Given.CallersTogether.Came.{came_reached, came_on}
use Rattle.many_maps.specs.Endings.{Finishing}
use Rattle.many_maps.specs.FactsEnds.{TakesLeft, WritesRoot, events_of, Spares}
use Rattle.many_maps.specs.Makings.{Beginning}
use Rattle.many_maps.specs.Maps.{Standing}
use Rattle.many_maps.proofs.Beside.Endings.Spares.{end_there}
use Rattle.many_maps.proofs.Ends.CountedBlocks.{times_other}
use Rattle.many_maps.proofs.Ends.Frames.{left_spare, root_spares, free_spares, that_one}
use Rattle.many_maps.proofs.Ends.Memory.{list_kept, taken_gone}
use Rattle.many_maps.proofs.Ends.Worlds.{away}
use Rattle.run_shows.specs.Reclaims.Reclaims.{IsRootOf, RootLeads, LeftBut, LeftBehind, Opened, ReclaimingAt, AllStandIdle}
use Rattle.run_shows.specs.Reclaims.Slots.{IsQuiescent}
use Rattle.run_shows.proofs.Reclaims.Behind.Kept.{leads_by}
use Rattle.run_shows.proofs.Reclaims.Behind.Lists.{less, less_here, less_other, gone_from, still_in, other_than, still_once, was_in, from_zero, from_some}
use Rattle.run_shows.proofs.Reclaims.Behind.Maps.{Leaves', idle_stands}
use Rattle.many_maps.proofs.Among.Own.Makings.{IsRoot}
use Rattle.run_shows.proofs.Reclaims.Behind.Points.{LedTo, next_point, next_roots}
use Rattle.many_maps.proofs.Among.Machines.{same_map as same_still}
use Rattle.seize_words.proofs.General.{some_is as some_of}

-- a setting with this root, and nothing else
abbrev at_this : ℕ → Setting
at_this r = record { slot = 0; batch_size = 0; root = r; mode = Blocking; counter = 0; mask = 0; initial = 0 }

module _ {K Q : Type 0} (V : Type 0) (same : K → K → Bool) (asks : Q → K → Bool) (batch_size roots : ℕ) (slot : ℕ → ℕ)
    (maps : ℕ → Option (Standing K)) (calls : ℕ → ℕ → Option (UnderWay K V Q)) (makers : ℕ → Option (Beginning K)) (enders : ℕ → Option (Finishing K V))
    (w : World (Node K V)) (i : ℕ) (lists : ℕ → List ℕ) (word : batch_size < 2 ^ 64) (idle : AllStandIdle V same asks batch_size roots slot maps calls makers enders w)
    (quiet : IsQuiescent w) (c : ReclaimAll) (rs : c.roots ≡ roots) (root : ℕ) (o : Opened roots w maps lists root) where
  abbrev Leads : Reclaiming → Mem (Node K V) → ReclaimAll × Settled (Node K V) → Type 0
  Leads point m2 end = LedTo V same asks batch_size roots slot maps calls makers enders w i lists word idle quiet c rs point m2 end

  came : CameAbout batch_size w
  came = idle.together.makings.standing.came

  apart_from : (m : ℕ) (s : Standing K) → maps m ≡ Some s → s.setting.root ≢ root
  apart_from m s here e = o.apart (m, s, here, e)

  -- the root is taken still
  taken_root : (w2 : World (Node K V)) → word_at w2.memory (Used root) ≡ Some 1 → IsRoot w2 root
  taken_root w2 is = (1, is, λ none. absurd (omega (arith, none)))

  -- a block is taken away

  module _ (b next : ℕ) (rest : List ℕ) (is : lists root ≡ b ∷ rest) (there : word_at w.memory (Entry b NEXT) ≡ Some next) (from : ListFrom w.memory next rest) where
    abbrev lists2 : ℕ → List ℕ
    lists2 = less lists root b rest is

    left_to : (j : ℕ) × (w.hand b ≡ LeftTo j)
    left_to = o.but.left b (was_in lists root b rest is roots o.below o.but.once)

    value_there : (value : Node K V) × (value_at w.memory b ≡ Some value)
    value_there = end_there batch_size w came 0 left_to.0 b (inr left_to.1)

    some : IsSome (value_at w.memory b)
    some = some_of (value_at w.memory b) value_there.0 value_there.1

    abbrev w2 : World (Node K V)
    w2 = away w i b

    spares : Spares (at_this root) i w w2 (TakesLeft b)
    spares = left_spare (at_this root) i w b some

    free : (s : ℕ) → holds s b w.log ≡ false
    free s = none_held deferred_word batch_size w (came_reached batch_size w came) (λ t. subst (λ (u : Use). IsOutside u) (sym (quiet.vacant t)) tt) b s

    module _ (value : Node K V) (value_is : value_at w.memory b ≡ Some value) where
      runs : Runs deferred_word batch_size (events_of i (TakesLeft b)) w w2
      runs = (w2, (Taken value, with_block w.memory b None, left_to, inr free, (value_is, refl), refl), refl)

      did : Leaves' batch_size i (at_this root) w w2
      did = record {
        deed = TakesLeft b;
        spares = spares;
        came2 = came_on batch_size w w2 (events_of i (TakesLeft b)) came runs;
        taken = λ x on. (left_to.0, ap w.hand (that_one x b on) ∙ left_to.1);
        none_left = λ x. refl;
        none_cut = λ x. refl;
      }

      idle2 : AllStandIdle V same asks batch_size roots slot maps calls makers enders w2
      idle2 = idle_stands V same asks batch_size roots slot maps calls makers enders w idle i (at_this root) w2 did apart_from (taken_root w2 o.used)

      quiet2 : IsQuiescent w2
      quiet2 = record { rests = quiet.rests; vacant = quiet.vacant; none = quiet.none }

      not_it : (x : ℕ) → x ≢ b → times x (b ∷ []) ≡ 0
      not_it x ne = times_other x b [] ne

      leads_on : (r : ℕ) → r < roots → r ≢ root → RootLeads w r (lists r) → RootLeads w2 r (lists2 r)
      leads_on r below ne leads =
          subst (λ (l : List ℕ). RootLeads w2 r l) (sym (less_other lists root b rest is r ne))
          (leads_by w w2 r (lists r) (λ a there2. there2) (λ a there2. there2)
          (λ x on. let other = gone_from lists root b rest is roots o.below o.but.once r below x (subst (λ (l : List ℕ). 0 < times x l) (sym (less_other lists root b rest is r ne)) on) in
          (spares.values x (not_it x other), λ more there2. spares.links x (not_it x other) refl ∙ there2)) leads)

      opened2 : Opened roots w2 maps lists2 root
      opened2 = record {
        below = o.below;
        before = λ r lt. less_other lists root b rest is r (λ e. omega (arith, lt, e)) ∙ o.before r lt;
        but = record {
          others = λ r below ne. (elim (o.but.others r below ne) as (λ _. IsRootOf maps r ⊎ RootLeads w2 r (lists2 r)) [
            | inl of ↦ inl of
            | inr leads ↦ inr (leads_on r below ne leads)
          ]);
          none = λ r below of. less_other lists root b rest is r (λ e. o.apart (subst (λ (x : ℕ). IsRootOf maps x) e of)) ∙ o.but.none r below of;
          left = λ x on.
              let k = o.but.left x (still_in lists root b rest is roots o.below o.but.once x on) in
              (k.0, spares.hands x (not_it x (other_than lists root b rest is roots o.below o.but.once x on)) refl ∙ k.1);
          once = still_once lists root b rest is roots o.below o.but.once;
        };
        apart = o.apart;
        used = o.used;
        there = o.there;
      }

      from2 : ListFrom w2.memory next rest
      from2 = list_kept w.memory w2.memory next rest
          (λ x on. spares.links x (not_it x (gone_from lists root b rest is roots o.below o.but.once root o.below x
          (subst (λ (l : List ℕ). 0 < times x l) (sym (less_here lists root b rest is)) on))) refl) from

      took : (block : ℕ) (m2 : Mem (Node K V)) (c2 : ReclaimAll) → m2 ≡ with_block w.memory b None → c2.roots ≡ roots → ReclaimingAt batch_size roots i c2 w2 maps lists2 c2.stands
          → Leads (at.Takes root block next) m2 (c2, settled.Gave value)
      took block m2 c2 memory rs2 point = record {
        w2 = w2;
        events = events_of i (TakesLeft b);
        its = inr (inl (b, refl));
        runs = runs;
        does = (tt, tt);
        memory = sym memory;
        maps2 = maps;
        as_they_were = λ m. same_still (maps m);
        lists2 = lists2;
        told = (b, value_is, taken_gone w.memory b some, inr (root, rest, o.before, is, refl, refl));
        next = record { stand = idle2; roots_are = rs2; point = point };
        over = λ e. absurd (cc e);
      }

      took_by : (block : ℕ) (m2 : Mem (Node K V)) (end : ReclaimAll × Settled (Node K V)) → m2 ≡ with_block w.memory b None
          → Ends (value_at (with_block w.memory b None)) (given_back c root next (Taken value)) end → Leads (at.Takes root block next) m2 end
      took_by block m2 end memory ends =
          elim (ends_if (value_at (with_block w.memory b None)) (next == 0) (Now (standing c (at.Empties root), settled.Gave value)) (Now (standing c (at.Nexts root next), settled.Gave value)) end ends) as (λ _. Leads (at.Takes root block next) m2 end) [
            | inl h ↦ subst (λ (p : ReclaimAll × Settled (Node K V)). Leads (at.Takes root block next) m2 p) (sym h.1)
                (took block m2 (standing c (at.Empties root)) memory rs
                (quiet2, opened2, less_here lists root b rest is ∙ from_zero w.memory rest next (eqb-true next 0 h.0) from))
            | inr h ↦ (let more = from_some w.memory rest next (eqb-false next 0 h.0) from in
                subst (λ (p : ReclaimAll × Settled (Node K V)). Leads (at.Takes root block next) m2 p) (sym h.1)
                (took block m2 (standing c (at.Nexts root next)) memory rs
                (quiet2, opened2, (more.0, more.1, less_here lists root b rest is ∙ more.2, subst (λ (l : List ℕ). ListFrom w2.memory next l) more.2 from2))))
          ]

    module _ (block : ℕ) (named : block ≡ link_to b) where
      block_is : block_in block ≡ b
      block_is = ap (λ u. u / 2048) named ∙ link-block b

      see_taken : (value : Node K V) (e : Bool) → MaySee {R = ReclaimAll × Settled (Node K V)} (value_at (with_block w.memory (block_in block) None))
          (if e then Now (standing c (at.Empties root), settled.Gave value) else Now (standing c (at.Nexts root next), settled.Gave value))
      see_taken value true = tt
      see_taken value false = tt

      pub take_may : May Can Took value_at w.memory (takes {T = Node K V} c root block next)
      take_may =
          may_take w.memory (given_back c root next) (block_in block) (subst (λ (x : ℕ). IsSome (value_at w.memory x)) (sym block_is) some) (λ value is. see_taken value (next == 0))

      pub take_led : (m2 : Mem (Node K V)) (end : ReclaimAll × Settled (Node K V)) → Steps Took value_at w.memory (takes c root block next) m2 end → Leads (at.Takes root block next) m2 end
      take_led m2 end steps =
          let d = taken w.memory (given_back c root next) b m2 end
          (subst (λ (x : ℕ). Steps Took value_at w.memory (Do (Take x) (given_back c root next)) m2 end) block_is steps) in
          took_by d.0 d.1 block m2 end d.2 d.3

  -- a root is written

  module _ (none : lists root ≡ []) where
    -- what is behind the others is as it was
    others_on : (w3 : World (Node K V)) → ((r : ℕ) → r ≢ root → (word_at w3.memory (Root r) ≡ word_at w.memory (Root r)) × (word_at w3.memory (Used r) ≡ word_at w.memory (Used r)))
        → ((x : ℕ) → value_at w3.memory x ≡ value_at w.memory x) → ((x : ℕ) → word_at w3.memory (Entry x NEXT) ≡ word_at w.memory (Entry x NEXT)) → w3.hand ≡ w.hand
        → LeftBut roots w3 maps lists root
    others_on w3 roots_same values links hands = record {
      others = λ r below ne. (elim (o.but.others r below ne) as (λ _. IsRootOf maps r ⊎ RootLeads w3 r (lists r)) [
        | inl of ↦ inl of
        | inr leads ↦ inr (leads_by w w3 r (lists r) (λ a there2. (roots_same r ne).0 ∙ there2) (λ a there2. (roots_same r ne).1 ∙ there2) (λ x on. (values x, λ more is. links x ∙ is)) leads)
      ]);
      none = o.but.none;
      left = λ x on. let k = o.but.left x on in (k.0, ap (λ (h : ℕ → Hand). h x) hands ∙ k.1);
      once = o.but.once;
    }

    -- it leads nowhere now

    abbrev emptied : World (Node K V)
    emptied = record w { memory = with_word w.memory (Root root) 0 }

    empties_spares : Spares (at_this root) i w emptied (WritesRoot (Root root) 0)
    empties_spares = root_spares (at_this root) i w 0 o.there

    empties_runs : Runs deferred_word batch_size (events_of i (WritesRoot (Root root) 0)) w emptied
    empties_runs = (emptied, (Stored, emptied.memory, tt, (tt, refl), refl), refl)

    nowhere : word_at emptied.memory (Root root) ≡ Some 0
    nowhere = word_at-with_word w.memory (Root root) 0 (Root root) o.there
        ∙ ap (λ (q : Bool). cond q (Some 0) (word_at w.memory (Root root))) (eq-eqb root root refl)

    emptied_did : Leaves' batch_size i (at_this root) w emptied
    emptied_did = record {
      deed = WritesRoot (Root root) 0;
      spares = empties_spares;
      came2 = came_on batch_size w emptied (events_of i (WritesRoot (Root root) 0)) came empties_runs;
      taken = λ x on. absurd (omega (arith, on));
      none_left = λ x. refl;
      none_cut = λ x. refl;
    }

    emptied_opened : Opened roots emptied maps lists root
    emptied_opened = record {
      below = o.below;
      before = o.before;
      but = others_on emptied empties_spares.roots (λ x. refl) (λ x. refl) refl;
      apart = o.apart;
      used = o.used;
      there = some_of (word_at emptied.memory (Root root)) 0 nowhere;
    }

    pub empty_may : May Can Took value_at w.memory (empties {T = Node K V} c root)
    empty_may = may_store w.memory (λ out. to (standing c (at.Unuses root))) (Root root) 0 o.there tt

    pub empty_led : (m2 : Mem (Node K V)) (end : ReclaimAll × Settled (Node K V)) → Steps Took value_at w.memory (empties c root) m2 end → Leads (at.Empties root) m2 end
    empty_led m2 end steps =
        let d = stored w.memory (λ out. to (standing c (at.Unuses root))) (Root root) 0 m2 end steps in
        subst (λ (p : ReclaimAll × Settled (Node K V)). Leads (at.Empties root) m2 p) (sym d.1)
        (record {
          w2 = emptied;
          events = events_of i (WritesRoot (Root root) 0);
          its = inr (inr (root, inl refl));
          runs = empties_runs;
          does = (tt, tt);
          memory = sym d.0;
          maps2 = maps;
          as_they_were = λ m. same_still (maps m);
          lists2 = lists;
          told = (refl, refl);
          next = record {
            stand = idle_stands V same asks batch_size roots slot maps calls makers enders w idle i (at_this root) emptied emptied_did apart_from (taken_root emptied o.used);
            roots_are = rs;
            point = (record { rests = quiet.rests; vacant = quiet.vacant; none = quiet.none }, emptied_opened, none, nowhere);
          };
          over = λ e. absurd (cc e);
        })

    -- it is free now

    module _ (leads_nowhere : word_at w.memory (Root root) ≡ Some 0) where
      abbrev freed : World (Node K V)
      freed = record w { memory = with_word w.memory (Used root) 0 }

      used_there : IsSome (word_at w.memory (Used root))
      used_there = some_of (word_at w.memory (Used root)) 1 o.used

      frees_spares : Spares (at_this root) i w freed (WritesRoot (Used root) 0)
      frees_spares = free_spares (at_this root) i w used_there

      frees_runs : Runs deferred_word batch_size (events_of i (WritesRoot (Used root) 0)) w freed
      frees_runs = (freed, (Stored, freed.memory, tt, (tt, refl), refl), refl)

      unused : word_at freed.memory (Used root) ≡ Some 0
      unused = word_at-with_word w.memory (Used root) 0 (Used root) used_there
          ∙ ap (λ (q : Bool). cond q (Some 0) (word_at w.memory (Used root))) (eq-eqb root root refl)

      freed_did : Leaves' batch_size i (at_this root) w freed
      freed_did = record {
        deed = WritesRoot (Used root) 0;
        spares = frees_spares;
        came2 = came_on batch_size w freed (events_of i (WritesRoot (Used root) 0)) came frees_runs;
        taken = λ x on. absurd (omega (arith, on));
        none_left = λ x. refl;
        none_cut = λ x. refl;
      }

      freed_left : LeftBehind roots freed maps lists
      freed_left = let but = others_on freed frees_spares.roots (λ x. refl) (λ x. refl) refl in record {
        others = λ r below ne. (elim (cases_eq r root) as (λ _. IsRootOf maps r ⊎ RootLeads freed r (lists r)) [
          | inl e ↦ inr (subst (λ (x : ℕ). RootLeads freed x (lists x)) (sym e) (subst (λ (l : List ℕ). RootLeads freed root l) (sym none) (unused, leads_nowhere)))
          | inr other ↦ but.others r below other
        ]);
        none = but.none;
        left = but.left;
        once = but.once;
      }

      freed_before : (r : ℕ) → r < suc root → lists r ≡ []
      freed_before r below = elim (cases_eq r root) as (λ _. lists r ≡ []) [
        | inl e ↦ ap lists e ∙ none
        | inr ne ↦ o.before r (omega (arith, below, ne))
      ]

      freed_quiet : IsQuiescent freed
      freed_quiet = record { rests = quiet.rests; vacant = quiet.vacant; none = quiet.none }

      pub free_may : May Can Took value_at w.memory (unuses {T = Node K V} c root)
      free_may = may_store w.memory (λ out. to (next_root c root)) (Used root) 0 used_there tt

      pub free_led : (m2 : Mem (Node K V)) (end : ReclaimAll × Settled (Node K V)) → Steps Took value_at w.memory (unuses c root) m2 end → Leads (at.Unuses root) m2 end
      free_led m2 end steps =
          let d = stored w.memory (λ out. to (next_root c root)) (Used root) 0 m2 end steps in
          subst (λ (p : ReclaimAll × Settled (Node K V)). Leads (at.Unuses root) m2 p) (sym d.1)
          (record {
            w2 = freed;
            events = events_of i (WritesRoot (Used root) 0);
            its = inr (inr (root, inr refl));
            runs = frees_runs;
            does = (tt, tt);
            memory = sym d.0;
            maps2 = maps;
            as_they_were = λ m. same_still (maps m);
            lists2 = lists;
            told = (refl, refl);
            next = record {
              stand = idle_stands V same asks batch_size roots slot maps calls makers enders w idle i (at_this root) freed freed_did apart_from (0, unused, λ e. leads_nowhere);
              roots_are = next_roots V same asks batch_size roots slot maps calls makers enders w i lists word idle quiet c rs root;
              point = next_point V same asks batch_size roots slot maps calls makers enders w i lists word idle quiet c rs freed lists root freed_quiet freed_left o.below freed_before;
            };
            over = λ e. absurd (cc e);
          })
