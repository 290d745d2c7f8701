-- The map of one owner is made: then it rests, with no pair.
use Rattle.std.specs.Prelude.{◌≡◌, ℕ, zero, suc, ◌+◌, ◌^◌, ◌<◌, ◌≤◌, max, Bool, true, false, List, [], ◌∷◌, ◌++◌, Option, Some, None, Result, Ok, Err, IfErr}
use Rattle.std.specs.Int.{IsPowerOfTwo}
use Rattle.std.proofs.Common.{refl, sym, ◌∙◌, ap, subst, arith, inl, inr, ⊎_elim}
use Rattle.seize_words.specs.OneMemory.Mem.{Mem, Can, Took, value_at, word_at}
use Rattle.seize_words.specs.OneMemory.Plan.{May, Steps}
use Rattle.seize_words.specs.declared.at.At.TheVariants.{Root, Used}
use Rattle.seize_words.specs.declared.fault.Fault.{Fault}
use Rattle.seize_words.specs.declared.fault.Fault.TheVariants.{Memory}
use Rattle.seize.specs.Sequence.{Turn, Whole, Between, TakesTurns, RunsOn}
use Rattle.seize.specs.WaitingSets.{Change}
use Rattle.seize.specs.World.{World, Event, Begin, Step, Runs, Rests, IsInside, at_start}
use Rattle.seize.specs.declared.advance.Advance.{Advance}
use Rattle.seize.specs.declared.advance.Advance.TheVariants as progress
use Rattle.owner_whole.specs.Given.SeizeAloneAlone.{History, IsHistory, at_rest}
use Rattle.map_tables.specs.Lengths.{IsTableLen}
use Rattle.map_tables.specs.Nodes.{deferred_word}
use Rattle.map_tables.specs.Chunks.{is_incremental}
use Rattle.map_tables.specs.declared.node.Node.{Node}
use Rattle.map_tables.specs.declared.setting.Setting.{Setting}
use Rattle.map_straight.specs.Given.ResizeNewMap.{at_root, with_counter, opening, new_map_plan}
use Rattle.map_straight.specs.Given.ResizeDeclared.new_map.NewMap.{NewMap}
use Rattle.map_straight.specs.Given.RuleChart.{Chart}
use Rattle.map_straight.specs.Given.RuleRule.{no_table}
use Rattle.map_straight.proofs.Given.RuleMoves.Totals.{total_none}
use Rattle.owner_whole.specs.Given.PointsSteps.{AreLawful}
use Rattle.owner_whole.proofs.Given.PointsMaking.NewTable.{links_current}
use Rattle.owner_whole.specs.Given.AloneCounting.{IsCounted, one_if, pairs_in}
use Rattle.owner_whole.specs.Given.AloneFactsAloneCalls.{AloneBetweenCalls}
use Rattle.owner_whole.proofs.Given.AloneLone.Beside.{rests_linked}
use Rattle.owner_whole.specs.Given.CallersTogether.{CameAbout, Together}
use Rattle.owner_whole.specs.Given.CallersSights.{Visible}
use Rattle.map_straight.specs.Given.RuleWords.{Blocks}
use Rattle.owner_whole.specs.Given.PointsTold.{OnlyLinks}
use Rattle.owner_whole.proofs.Whole.Contents.Below.{none_last}
use Rattle.owner_whole.proofs.Given.CallersTogether.Users.{events_uses, events_rows}
use Rattle.owner_whole.specs.Given.FinishesMakings.{Beginning, HasRoots, IsNewChart, MakingsTogether, StepsOfMaking}
use Rattle.owner_whole.specs.Given.FinishesMaps.{Standing}
use Rattle.owner_whole.proofs.Given.FinishesBeside.Makings.Promised.{no_makings_begin, makings_begin, makings_stand}
use Rattle.owner_whole.proofs.Given.FinishesBeside.Maps.Comes.{no_maps_begin}
use Rattle.owner_whole.specs.Given.MapsAloneBegins.{IsOpening, OpensTo}
use Rattle.owner_whole.specs.Given.MapsFaultsBegins.{NeedsMemoryAlone, NeedsOn}
use Rattle.owner_whole.specs.Given.MapsMeasuresBegins.{new_map_left}
use Rattle.owner_whole.proofs.Given.MapsLaws.{maps_may_begin, maps_go_on, beginnings_come_nearer, free_roots_are_enough, only_memory_is_refused}
use Rattle.owner_whole.specs.Whole.Contents.{ContentsBelow}
use Rattle.owner_whole.specs.Whole.Owner.{IsQuiescent}
use Rattle.owner_whole.specs.Strides.Ending.{Continues, EndsWith, Ends, all_end, RunsTo, stops, goes}
use Rattle.owner_calls.specs.Owned.Owned.{Holds}
use Rattle.owner_calls.specs.Owned.Rooms.{RepresentTables, tables_with}
use Rattle.owner_calls.proofs.Owned.Owned.Firsts.{first_shown}

-- what has happened to a memory has happened from the start
module _ {T : Type 0} (defers : T → Option ℕ) (size : ℕ) where
  runs_then : (first then : List (Event T)) (w v n : World T) → Runs defers size first w v → Runs defers size then v n → Runs defers size (first ++ then) w n
  runs_then [] then w v n a b = subst (λ (x : World T). Runs defers size then x n) a b
  runs_then (e ∷ first) then w v n a b = (a.0, a.1, runs_then first then a.0 v n a.2 b)

  abbrev Came : World T → World T → Type 0
  Came w n = (events : List (Event T)) × Runs defers size events w n

  came_on : (steps i : ℕ) (w n : World T) → RunsOn defers steps i w n → Came w n
  came_on zero i w n runs = ([], runs.1)
  came_on (suc steps) i w n runs = let k = came_on steps i runs.0 n runs.2 in (Step i ∷ k.0, (runs.0, runs.1, k.1))

  pub turns_came : (turns : List (Turn T)) (w n : World T) (all : List Change) → TakesTurns defers size turns w n all → Came w n
  turns_came [] w n all t = ([], t.0)
  turns_came (Whole i request ∷ turns) w n all (v, later, calls, rest, is) =
      let a = came_on calls.1 i calls.0 v calls.4 in let b = turns_came turns v n later rest in
      (Begin i request ∷ (a.0 ++ b.0), (calls.0, (calls.2, calls.3), runs_then a.0 b.0 calls.0 v n a.1 b.1))
  turns_came (Between e ∷ turns) w n all (v, later, between, happens, rest, is) = let b = turns_came turns v n later rest in (e ∷ b.0, (v, happens, b.1))

pub came_about : {K V : Type 0} (size roots : ℕ) (m : Mem (Node K V)) (h : History) → IsHistory deferred_word size roots m h → CameAbout size (at_rest deferred_word m h)
came_about size roots m h (turns, takes) =
    let c = turns_came deferred_word size turns (at_start deferred_word roots) (at_rest deferred_word m h) h.before takes in (roots, c.0, c.1)

-- what has been made so far, of one owner's only map
module _ {K V : Type 0} (same : K → K → Bool) (hash : K → ℕ) (lawful : AreLawful same hash) (setting : Setting) (initial : IsPowerOfTwo setting.initial) (mask : setting.mask + 1 < 2 ^ 64)
    (places : ℕ) (m0 : Mem (Node K V)) (h0 : History) where
  abbrev slot_of : ℕ → ℕ
  slot_of i = setting.slot

  abbrev making_at : NewMap → Beginning K
  making_at n = record { map = 0; given = setting; places = places; hash = hash; machine = n }

  abbrev AllTogether : World (Node K V) → (ℕ → Option (Standing K)) → (ℕ → Option (Beginning K)) → Type 0
  AllTogether w maps makers = MakingsTogether {Q = K} V same same setting.batch_size 1 slot_of w maps (λ m i. None) makers

  -- it is to begin still
  pub record Opens (n : NewMap) (m : Mem (Node K V)) : Type 0 where
    pub w : World (Node K V)
    pub makers : ℕ → Option (Beginning K)
    pub its : makers 0 ≡ Some (making_at n)
    pub together : AllTogether w (λ m. None) makers
    pub memory : w.memory ≡ m
    pub rows : (i : ℕ) → w.row i ≡ Rests
    pub inside : IsInside (w.uses setting.slot)
    pub history : History
    pub opening : IsOpening same hash setting 1 places m0 h0 n m history

  module _ (n : NewMap) (m : Mem (Node K V)) (o : Opens n m) where
    steps_at : (m2 : Mem (Node K V)) (end : NewMap × Advance Setting) → Steps Took value_at m (new_map_plan n) m2 end → Steps Took value_at o.w.memory (new_map_plan n) m2 end
    steps_at m2 end s = subst (λ (x : Mem (Node K V)). Steps Took value_at x (new_map_plan n) m2 end) (sym o.memory) s

    pub opens_may : May Can Took value_at m (new_map_plan {K = K} {V = V} n)
    opens_may = (maps_go_on V same hash lawful setting initial mask 1 places m0 h0 n m o.history o.opening).0

    opens_to : (m2 : Mem (Node K V)) (n2 : NewMap) (told : Advance Setting) → Steps Took value_at m (new_map_plan n) m2 (n2, told) → OpensTo same hash setting 1 places m0 h0 n2 m2 told
    opens_to m2 n2 told s = (maps_go_on V same hash lawful setting initial mask 1 places m0 h0 n m o.history o.opening).1 m2 n2 told s

    leads : (m2 : Mem (Node K V)) (n2 : NewMap) (told : Advance Setting) → Steps Took value_at m (new_map_plan n) m2 (n2, told)
        → StepsOfMaking {Q = K} V same same setting.batch_size 1 slot_of o.w (λ m. None) (λ m i. None) o.makers 0 (making_at n) m2 (n2, told)
    leads m2 n2 told s = (makings_stand {Q = K} V same same setting.batch_size 1 slot_of o.w (λ m. None) (λ m i. None) o.makers o.together 0 (making_at n) o.its).1 m2 (n2, told) (steps_at m2 (n2, told) s)

    pub opens_on : (m2 : Mem (Node K V)) (n2 : NewMap) (told : Advance Setting) → Continues told → Steps Took value_at m (new_map_plan n) m2 (n2, told) → Opens n2 m2 × (new_map_left n2 < new_map_left n)
    opens_on m2 n2 progress.Goes on s =
        let l = leads m2 n2 progress.Goes s in let to = opens_to m2 n2 progress.Goes s in (
          record {
            w = l.w2;
            makers = _;
            its = refl;
            together = l.told;
            memory = l.memory;
            rows = λ i. ap (λ f. f i) (events_rows setting.batch_size l.events o.w l.w2 l.users l.runs) ∙ o.rows i;
            inside = subst (λ f. IsInside (f setting.slot)) (sym (events_uses setting.batch_size l.events o.w l.w2 l.users l.runs)) o.inside;
            history = to.0;
            opening = to.1;
          },
          beginnings_come_nearer K V n n2 (m, m2, s),
        )
    opens_on m2 n2 progress.Waits on s = absurd (opens_to m2 n2 progress.Waits s)
    opens_on m2 n2 (progress.Done x) on s = absurd on
    opens_on m2 n2 (progress.Refused x) on s = absurd on

  ends_below : (k : ℕ) (n : NewMap) (m : Mem (Node K V)) → Opens n m → new_map_left n < k → Ends (new_map_plan {K = K} {V = V}) n m
  ends_below zero n m o l = absurd (omega (arith, l))
  ends_below (suc k) n m o l =
      all_end n m (opens_may n m o) (λ m2 n2 told on s. let g = opens_on n m o m2 n2 told on s in ends_below k n2 m2 g.0 (let less = g.1 in omega (arith, l, less)))

  -- it comes to its end
  pub opens_end : (n : NewMap) (m : Mem (Node K V)) → Opens n m → Ends (new_map_plan {K = K} {V = V}) n m
  opens_end n m o = ends_below (suc (new_map_left n)) n m o (omega arith)

  -- where it needs memory alone, it goes on so, and is refused for want of memory
  needs_on : (n n2 : NewMap) (m m2 : Mem (Node K V)) → Opens n m → (told : Advance Setting) → Continues told → Steps Took value_at m (new_map_plan n) m2 (n2, told) → NeedsOn m2 (n2, told) → NeedsMemoryAlone m2 n2 n2.stands
  needs_on n n2 m m2 o progress.Goes on s needs = needs
  needs_on n n2 m m2 o progress.Waits on s needs = absurd (opens_to n m o m2 n2 progress.Waits s)
  needs_on n n2 m m2 o (progress.Done begun) on s needs = absurd on
  needs_on n n2 m m2 o (progress.Refused fault) on s needs = absurd on

  refused_so : (n : NewMap) (m : Mem (Node K V)) (told : Advance Setting) (result : Result Setting Fault) → NeedsOn m (n, told) → EndsWith told result → IfErr result (λ fault. fault ≡ Memory)
  refused_so n m told (Ok begun) needs tells = tt
  refused_so n m (progress.Refused fault) (Err f) needs tells = tells ∙ needs
  refused_so n m (progress.Done begun) (Err f) needs tells = absurd tells
  refused_so n m progress.Goes (Err f) needs tells = absurd tells
  refused_so n m progress.Waits (Err f) needs tells = absurd tells

  runs_refused : (n : NewMap) (m : Mem (Node K V)) (n2 : NewMap) (m2 : Mem (Node K V)) (result : Result Setting Fault) → RunsTo (new_map_plan {K = K} {V = V}) n m n2 m2 result → Opens n m
      → NeedsMemoryAlone m n n.stands → IfErr result (λ fault. fault ≡ Memory)
  runs_refused n m n2 m2 result (stops _ _ _ _ told _ s tells) o needs = refused_so n2 m2 told result (only_memory_is_refused K V m m2 n (n2, told) needs s).1 tells
  runs_refused n m n2 m2 result (goes _ _ n1 m1 told on s _ _ _ runs) o needs =
      runs_refused n1 m1 n2 m2 result runs (opens_on n m o m1 n1 told on s).0 (needs_on n n1 m m1 o told on s (only_memory_is_refused K V m m1 n (n1, told) needs s).1)

  -- what it comes to
  module _ (one : setting.mask ≡ 0) (size : setting.batch_size < 2 ^ 64) (incremental : is_incremental setting.mode ≡ true) (few : setting.initial ≤ 2 ^ 48) where
    -- the map rests, with no pair, and with no table or a first one
    abbrev HoldsNew : Setting → Mem (Node K V) → Type 0
    HoldsNew begun m = (h : Holds same hash begun m []) × IsNewChart hash begun places h.chart

    no_contents : (m : Mem (Node K V)) (c : Chart K) (blocks : Blocks) → ((n : ℕ) → c.current n ≡ false) → (n : ℕ) → ContentsBelow m c blocks n []
    no_contents m c blocks empty zero = refl
    no_contents m c blocks empty (suc n) = none_last m c blocks n [] (empty n) (no_contents m c blocks empty n)

    no_pairs : (c : Chart K) → ((n : ℕ) → c.current n ≡ false) → pairs_in c ≡ 0
    no_pairs c empty = total_none one_if c.current c.stored (λ n l. ap one_if (empty n))

    module _ (w : World (Node K V)) (m : Mem (Node K V)) (memory : w.memory ≡ m) (rows : (i : ℕ) → w.row i ≡ Rests) (inside : IsInside (w.uses setting.slot))
        (begun : Setting) (answer_is : begun ≡ with_counter (at_root setting begun.root) begun.counter) (c : Chart K) (blocks : Blocks) (sights : ℕ → Visible)
        (together : Together V same hash same begun slot_of w c blocks sights (λ i. None)) (new : IsNewChart hash begun places c) (c0 : Chart K) (empty0 : (n : ℕ) → c0.current n ≡ false)
        (counted0 : IsCounted begun m c0) where
      only : OnlyLinks hash begun.mode no_table c
      only = ⊎_elim (λ h. inl h.1) (λ h. inr (max places 8, h.1, h.2)) new

      empty : (n : ℕ) → c.current n ≡ false
      empty n = ap (λ g. g n) (links_current hash begun.mode no_table c only)

      alone : AloneBetweenCalls (is_incremental begun.mode) 0 c
      alone = rests_linked same hash 0 begun.mode c together.ground.map.map.rule only

      rests_there : IsQuiescent {K = K} {V = V} {Q = K} same hash same begun slot_of w c blocks sights
      rests_there = record { calls = λ i. None; none = λ i. refl; together = together; rows = rows; inside = inside; alone = alone }

      slot_is : setting.slot ≡ begun.slot
      slot_is = sym (ap (λ (x : Setting). x.slot) answer_is)

      made_holds : HoldsNew begun m
      made_holds = (
        record {
          lawful = lawful;
          initial = subst IsPowerOfTwo (sym (ap (λ (x : Setting). x.initial) answer_is)) initial;
          few = subst (λ (x : ℕ). x ≤ 2 ^ 48) (sym (ap (λ (x : Setting). x.initial) answer_is)) few;
          one_shard = ap (λ (x : Setting). x.mask) answer_is ∙ one;
          incremental = ap (λ (x : Setting). is_incremental x.mode) answer_is ∙ incremental;
          size = subst (λ x. x < 2 ^ 64) (sym (ap (λ (x : Setting). x.batch_size) answer_is)) size;
          world = w;
          chart = c;
          blocks = blocks;
          sights = sights;
          memory = memory;
          rests = subst (λ x. IsQuiescent {K = K} {V = V} {Q = K} same hash same begun (λ i. x) w c blocks sights) slot_is rests_there;
          counted = subst (λ (x : Mem (Node K V)). IsCounted begun x c) (sym memory) (counted0 ∙ no_pairs c0 empty0 ∙ sym (no_pairs c empty));
          are = no_contents w.memory c blocks empty c.stored;
        },
        new,
      )

    done_holds : (n : NewMap) (m : Mem (Node K V)) (o : Opens n m) (m2 : Mem (Node K V)) (n2 : NewMap) (begun : Setting) → Steps Took value_at m (new_map_plan n) m2 (n2, progress.Done begun) → HoldsNew begun m2
    done_holds n m o m2 n2 begun s =
        let l = leads n m o m2 n2 (progress.Done begun) s in let to = opens_to n m o m2 n2 (progress.Done begun) s in
        let st = l.told.0 in let made = l.told.1 in
        made_holds l.w2 m2 l.memory (λ i. ap (λ f. f i) (events_rows setting.batch_size l.events o.w l.w2 l.users l.runs) ∙ o.rows i)
        (subst (λ f. IsInside (f setting.slot)) (sym (events_uses setting.batch_size l.events o.w l.w2 l.users l.runs)) o.inside)
        begun made.answer_is st.chart st.blocks st.sights
        (subst (λ (y : Setting). Together V same hash same y slot_of l.w2 st.chart st.blocks st.sights (λ i. None)) made.setting_is
        (subst (λ (g : K → ℕ). Together V same g same st.setting slot_of l.w2 st.chart st.blocks st.sights (λ i. None)) made.hash_is (l.told.2.standing.each 0 st refl)))
        made.chart_is to.1.chart to.1.empty to.1.counted

    -- By its result: the map rests, with no pair, and its words show the tables that it was made with.
    abbrev pub Made : Mem (Node K V) → Result Setting Fault → Type 0
    Made m (Ok begun) = Holds same hash begun m [] × RepresentTables begun m (tables_with places)
    Made m (Err fault) = Unit {0}

    shows_made : (begun : Setting) (m : Mem (Node K V)) → HoldsNew begun m → Made m (Ok begun)
    shows_made begun m (h, new) = (h, first_shown same hash begun m [] h places new)

    pub runs_made : (n : NewMap) (m : Mem (Node K V)) (n2 : NewMap) (m2 : Mem (Node K V)) (result : Result Setting Fault) → RunsTo (new_map_plan {K = K} {V = V}) n m n2 m2 result → Opens n m → Made m2 result
    runs_made n m n2 m2 result (stops _ _ _ _ told _ s tells) o = by_told told result s tells
      where
        by_told : (told : Advance Setting) (result : Result Setting Fault) → Steps Took value_at m (new_map_plan n) m2 (n2, told) → EndsWith told result → Made m2 result
        by_told (progress.Done begun) (Ok b) s tells = shows_made b m2 (subst (λ (x : Setting). HoldsNew x m2) (sym tells) (done_holds n m o m2 n2 begun s))
        by_told (progress.Done begun) (Err f) s tells = absurd tells
        by_told told (Err f) s tells = tt
        by_told progress.Goes (Ok b) s tells = absurd tells
        by_told progress.Waits (Ok b) s tells = absurd tells
        by_told (progress.Refused f) (Ok b) s tells = absurd tells
    runs_made n m n2 m2 result (goes _ _ n1 m1 told on s _ _ _ runs) o = runs_made n1 m1 n2 m2 result runs (opens_on n m o m1 n1 told on s).0

  -- it begins where nothing else has happened but that the owner's slot was taken
  module _ (had : IsHistory deferred_word setting.batch_size 1 m0 h0) (inside : IsInside (h0.uses setting.slot)) (root : word_at m0 (Root 0) ≡ Some 0) (used : word_at m0 (Used 0) ≡ Some 0)
      (table : max places 8 ≤ 2 ^ 48 → IsTableLen (max places 8)) where
    abbrev start : World (Node K V)
    start = at_rest deferred_word m0 h0

    roots_there : HasRoots start 1
    roots_there r l = (0, subst (λ x. word_at m0 (Used x) ≡ Some 0) (first r l) used, λ e. subst (λ x. word_at m0 (Root x) ≡ Some 0) (first r l) root)
      where
        first : (r : ℕ) → r < 1 → 0 ≡ r
        first r l = omega (arith, l)

    pub opens_first : Opens (opening setting 1 places) m0
    opens_first = record {
      w = start;
      makers = _;
      its = refl;
      together = makings_begin {Q = K} V same same setting.batch_size 1 slot_of start (λ m. None) (λ m i. None) (λ i. None)
          (no_makings_begin {Q = K} V same same setting.batch_size 1 slot_of start (λ m. None) (λ m i. None) (no_maps_begin {Q = K} V same same setting.batch_size slot_of start (came_about setting.batch_size 1 m0 h0 had)) roots_there
          (λ m s is. absurd (cc is)))
          0 refl (λ m. refl) 0 refl (λ j d is. absurd (cc is)) setting hash places lawful initial refl mask (omega arith) table;
      memory = refl;
      rows = λ i. refl;
      inside = inside;
      history = h0;
      opening = maps_may_begin V same hash setting 1 places m0 h0 had (omega arith) roots_there table;
    }

    pub first_refused : max places 8 ≤ 2 ^ 48 → (n2 : NewMap) (m2 : Mem (Node K V)) (result : Result Setting Fault) → RunsTo (new_map_plan {K = K} {V = V}) (opening setting 1 places) m0 n2 m2 result
        → IfErr result (λ fault. fault ≡ Memory)
    first_refused few n2 m2 result runs = runs_refused (opening setting 1 places) m0 n2 m2 result runs opens_first (free_roots_are_enough K V setting 1 places m0 used few)
