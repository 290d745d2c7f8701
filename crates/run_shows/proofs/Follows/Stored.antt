-- A pair was stored, or took the place of another one, or was removed.
use Rattle.std.specs.Prelude.{◌≡◌, ◌≢◌, ℕ, suc, ◌+◌, ◌<◌, ◌≤◌, Bool, true, false, cond, eqb, List, [], ◌∷◌, ◌++◌, length, Option, Some, None, ◌⊎◌}
use Rattle.std.proofs.Common.{refl, ap, sym, subst, ◌∙◌, arith, inl, inr}
use Rattle.std.proofs.lemmas.Bool.{ne_eqb, eq-eqb, cases_eq, cases_lt}
use Rattle.seize_words.specs.OneMemory.Mem.{Mem, value_at}
use Rattle.seize.specs.World.{World}
use Rattle.run_effects.specs.Given.TablesDeclared.node.Node.{Node}
use Rattle.run_effects.specs.Given.TablesDeclared.node.Node.TheVariants as node
use Rattle.run_effects.specs.Given.RunsLog.{pair_at}
use Rattle.run_effects.specs.Given.RunsDeclared.effect.Effect.{Effect}
use Rattle.run_effects.specs.Given.RunsDeclared.effect.Effect.TheVariants.{Stored, Replaced, Removed}
use Rattle.run_effects.specs.Given.RunsDeclared.effect.Spot.{Spot}
use Rattle.run_effects.specs.Given.SchedulesEntry.{acting}
use Rattle.run_effects.specs.Given.SchedulesEffects.{stored_by, with_effect}
use Rattle.run_effects.specs.Given.SchedulesLists.{put}
use Rattle.run_effects.specs.Given.SchedulesMoment.{Place, Unborn, InMap, Out, Handed, Behind, Left, GivenBack, UnderWay, Moment}
use Rattle.run_effects.specs.Given.SchedulesViews.{is_in_map}
use Rattle.run_effects.specs.Given.RuleChart.{Still, Holds, Chart, is_settled}
use Rattle.run_effects.specs.Given.RuleRule.{Rule}
use Rattle.many_maps.specs.Given.RuleMoves.{Promotes, MayChange, Allowed}
use Rattle.run_effects.specs.Given.RuleWords.{Blocks}
use Rattle.run_effects.specs.Given.RuleInWorld.{IsMapIn, StepSpec}
use Rattle.run_effects.proofs.Given.RuleLaws.{current_is_known}
use Rattle.many_maps.specs.Given.PointsSteps.{AreLawful}
use Rattle.many_maps.specs.Given.CallersSights.{Visible, seen_by, IsGrown, IsVisibility}
use Rattle.many_maps.specs.Given.CallersTogether.{in_slot}
use Rattle.many_maps.specs.Maps.{Standing}
use Rattle.run_effects.specs.Effects.Known.{Known, with_pair}
use Rattle.run_effects.specs.declared.role.Role.{Role}
use Rattle.run_effects.specs.declared.role.Role.TheVariants as role
use Rattle.run_shows.specs.Follows.Blocks.{WasLinked, HasRole, RefinesBlocks}
use Rattle.run_shows.specs.Follows.Finds.{MayStandAt}
use Rattle.run_shows.specs.Follows.Maps.{RefinesPairs, RefinesMap}
use Rattle.run_shows.specs.Follows.Steps.{HasPair}
use Rattle.run_shows.proofs.Follows.Alike.{alike_then, put_here, put_elsewhere, stored_other, replaced_other, removed_other}
use Rattle.run_shows.proofs.Follows.Contents.{Lasts, lasts_same, lasts_more, pair_within, pair_next}
use Rattle.run_shows.proofs.Follows.Kept.{role_kept}
use Rattle.run_shows.proofs.Follows.Leads.{IsNew, LeadsOn, after_step}
use Rattle.run_shows.proofs.Follows.Onward.{IsLasting, IsOfMap, KeepsRoles, StaysTables, StaysBlocks, blocks_grown, blocks_same, there_on, tables_on, counter_on}
use Rattle.run_shows.proofs.Follows.Operations.{StaysThere}
use Rattle.run_shows.proofs.Follows.Pairs.{StoresOne, stored_one, one_more_stored, goes_out, comes_in}
use Rattle.run_shows.proofs.Follows.Told.{ArePairsOnce}
use Rattle.run_shows.proofs.Follows.Writes.{own_pair}

-- a step of a call on one key stores no pair but with one effect
pub stored_no_more : {K V : Type 0} (o : Option (UnderWay K V)) (n : ℕ) (stored : List (K × V)) → (stored_by o (Replaced n) stored ≡ stored) × (stored_by o (Removed n) stored ≡ stored)
stored_no_more None n stored = (refl, refl)
stored_no_more (Some c) n stored = (refl, refl)

-- a pair that is in the map of a number is there
pub in_map_true : (a : ℕ) (p : Place) → is_in_map a p ≡ true → p ≡ InMap a
in_map_true a (InMap b) e = ap InMap (grind (arith, e))
in_map_true a Unborn e = absurd (cc e)
in_map_true a Out e = absurd (cc e)
in_map_true a Handed e = absurd (cc e)
in_map_true a Behind e = absurd (cc e)
in_map_true a Left e = absurd (cc e)
in_map_true a GivenBack e = absurd (cc e)

module _ {K : Type 0} (same : K → K → Bool) (spot : ℕ → K → ℕ → ℕ) (c : Chart K) (t : ℕ) where
  -- in blocking mode pairs change in the root's table alone
  pub in_root : (k : K) (b : Bool) → MayChange same spot b c t k → b ≡ false → t ≡ c.first
  in_root k true may e = absurd (cc e)
  in_root k false may e = may

  -- in incremental mode the root comes to the next table
  pub comes_next : (b : Bool) → Allowed same spot b (Promotes t) c → b ≡ true → t ≡ suc c.first
  comes_next true allowed e = allowed.3
  comes_next false allowed e = absurd (cc e)

  -- and in blocking mode to the last one
  pub comes_last : (b : Bool) → Rule same spot b c → Allowed same spot b (Promotes t) c → b ≡ false → suc t ≡ c.past
  comes_last true rule allowed e = absurd (cc e)
  comes_last false rule allowed e = elim (cases_lt (suc t) c.past) as (λ _. suc t ≡ c.past) [
    | inl more ↦ absurd (let lost = rule.in_mode.given_up t allowed.0 (rule.in_mode.aborted t allowed.0 more) in let counted = allowed.2 lost.0 lost.1 in let is = lost.2 in cc (counted, is))
    | inr last ↦ (let made = allowed.1 in omega (arith, last, made))
  ]

-- what may be changed, and is not marked, is in the map
module _ {K : Type 0} (same : K → K → Bool) (spot : ℕ → K → ℕ → ℕ) (c : Chart K) (t i n : ℕ) (borrowed : Bool) (k : K) (held : c.place t i ≡ Holds n Still borrowed) where
  pub inside : (b : Bool) → Rule same spot b c → (t < c.past) × (i < c.len t)
  inside b rule = elim (cases_lt t c.past) as (λ _. (t < c.past) × (i < c.len t)) [
    | inl l ↦ elim (cases_lt i (c.len t)) as (λ _. (t < c.past) × (i < c.len t)) [
      | inl m ↦ (l, m)
      | inr m ↦ absurd (let none = rule.common.outside t i l m in cc (none, held))
    ]
    | inr l ↦ absurd (let none = rule.common.unmade t i l in cc (none, held))
  ]

  pub still_home : (b : Bool) → Rule same spot b c → MayChange same spot b c t k → c.first ≤ t
  still_home true rule may = elim (cases_lt t c.first) as (λ _. c.first ≤ t) [
    | inl l ↦ absurd (let done = rule.in_mode.settled t i l (inside true rule).1 in let not : is_settled (c.place t i) ≡ false = ap is_settled held in cc (done, not))
    | inr l ↦ l
  ]
  still_home false rule may = omega (arith, may)

  pub still_current : (b : Bool) → Rule same spot b c → MayChange same spot b c t k → c.current n ≡ true
  still_current true rule may = rule.common.is_current t i n Still borrowed held (λ e. cc e) (still_home true rule may)
  still_current false rule may = rule.common.is_current t i n Still borrowed held (λ e. cc e) may

module _ {K V : Type 0} (same : K → K → Bool) (slot caller map : ℕ) (name : Option (List ℕ)) (number : ℕ → ℕ) (s : Standing K) (lawful : AreLawful same s.hash)
    (w : World (Node K V)) (sight : Visible) (is_sight : IsVisibility s.chart s.blocks sight) (is_map : IsMapIn same s.hash (in_slot s.setting slot) w s.chart (seen_by s.blocks sight))
    (m2 : Mem (Node K V)) (Told : World (Node K V) → Chart K → Blocks → Type 0)
    (went : StepSpec same s.hash (in_slot s.setting slot) caller w s.chart (seen_by s.blocks sight) m2 Told) (blocks2 : Blocks) (grown : IsGrown s.chart s.blocks went.blocks2 blocks2) (sights2 : ℕ → Visible)
    (m : Moment K V) (known : Known) (shown : RefinesMap map number s m known) (shown_blocks : RefinesBlocks m known w)
    (values : (b : ℕ) → value_at m2 b ≡ value_at w.memory b) where
  abbrev c : Chart K
  c = s.chart

  abbrev Leads : List Effect → Known → Type 0
  Leads = LeadsOn same slot caller map name number s lawful w sight is_sight is_map m2 Told went blocks2 grown sights2 m known shown shown_blocks

  abbrev s2 : Standing K
  s2 = after_step same slot caller map name number s lawful w sight is_sight is_map m2 Told went blocks2 grown sights2 m known shown shown_blocks

  blocks_on : StaysBlocks s.chart s.blocks blocks2
  blocks_on = blocks_grown s.chart s.blocks went.blocks2 blocks2 grown

  stays : (b : ℕ) → StaysThere w.memory m2 b
  stays b = record { gone = λ none. values b ∙ none; there = λ value is. (value, values b ∙ is) }

  kept : (more : List (K × V)) → Lasts m.stored more → (b : ℕ) → HasRole went.w2 more b (known.roles b)
  kept more lasts b =
      role_kept same s.hash (in_slot s.setting slot) caller w s.chart (seen_by s.blocks sight) m2 Told went is_map m.stored more lasts b (stays b) (known.roles b) (shown_blocks.roles b)

  -- the pair that was stored, in its block
  module _ (one_more : went.c2.stored ≡ suc c.stored) (current : went.c2.current c.stored ≡ true) (b : ℕ) (its_block : b ≡ went.blocks2.pair c.stored) where
    last : c.stored < went.c2.stored
    last = omega (arith, one_more)

    seen_then : went.blocks2.pair_known c.stored ≡ true
    seen_then = (current_is_known same s.hash (in_slot s.setting slot) went.w2.memory went.c2 went.blocks2 went.map.map.rule went.map.map.shows c.stored current).1

    abbrev HoldsPair : Mem (Node K V) → Type 0
    HoldsPair n = (k : K) × (v : V) × (value_at n b ≡ Some (node.Pair k v))

    holds_then : HoldsPair went.w2.memory
    holds_then =
        let it = went.map.map.shows.pairs c.stored last seen_then in (it.0, it.1, ap (value_at went.w2.memory) its_block ∙ it.2)

    holds_before : HoldsPair w.memory
    holds_before = (holds_then.0, holds_then.1, sym (values b) ∙ ap (λ (n : Mem (Node K V)). value_at n b) (sym went.memory) ∙ holds_then.2)

    pub was_own : (i : ℕ) × (known.roles b ≡ role.OwnPair i)
    was_own = own_pair w m.stored known shown_blocks.roles b caller holds_before.0 holds_before.1
        (ap w.hand its_block ∙ went.links.pairs c.stored (omega arith) last) holds_before.2

    is_linked : WasLinked (went.w2.hand b)
    is_linked = subst WasLinked (sym (ap went.w2.hand its_block ∙ went.map.pairs c.stored current)) tt

    -- it was none that lasts
    pub keeps_stored : KeepsRoles known (with_pair b known)
    keeps_stored x lasting = put_elsewhere b (role.Pair (known.stored + 1)) known.roles x (λ e. subst IsLasting (ap known.roles e ∙ was_own.1) lasting)

    -- and is the pair that is stored next
    back_stored : (x : ℕ) → IsOfMap (put b (role.Pair (known.stored + 1)) known.roles x)
        → (known.roles x ≡ put b (role.Pair (known.stored + 1)) known.roles x) ⊎ IsNew map c went.c2 went.blocks2 known x (put b (role.Pair (known.stored + 1)) known.roles x)
    back_stored x of = elim (cases_eq x b)
        as (λ _. (known.roles x ≡ put b (role.Pair (known.stored + 1)) known.roles x) ⊎ IsNew map c went.c2 went.blocks2 known x (put b (role.Pair (known.stored + 1)) known.roles x)) [
          | inl e ↦ inr (subst (IsNew map c went.c2 went.blocks2 known x) (sym (put_here b (role.Pair (known.stored + 1)) known.roles x e)) refl)
          | inr ne ↦ inl (sym (put_elsewhere b (role.Pair (known.stored + 1)) known.roles x ne))
        ]

    abbrev roles_then : ℕ → Role
    roles_then = put b (role.Pair (known.stored + 1)) known.roles

    pub blocks_stored : (v : Moment K V) → StoresOne w.memory b m.stored v.stored → RefinesBlocks v (with_pair b known) went.w2
    blocks_stored v one = record {
      roles = λ x. elim (cases_eq x b) as (λ _. HasRole went.w2 v.stored x (roles_then x)) [
        | inl e ↦ subst (λ (r : Role). HasRole went.w2 v.stored x r) (sym (put_here b (role.Pair (known.stored + 1)) known.roles x e))
            (subst (λ (y : ℕ). HasRole went.w2 v.stored y (role.Pair (known.stored + 1))) (sym e)
            (one.0, one.1, numbered, ap (λ (n : Mem (Node K V)). value_at n b) went.memory ∙ values b ∙ one.3, is_linked))
        | inr ne ↦ subst (λ (r : Role). HasRole went.w2 v.stored x r) (sym (put_elsewhere b (role.Pair (known.stored + 1)) known.roles x ne)) (kept v.stored lasting x)
      ];
      once = once_then;
      stored = ap (λ (n : ℕ). n + 1) shown_blocks.stored ∙ sym (one_more_stored w.memory b m.stored v.stored one);
    }
      where
        numbered : pair_at v.stored (known.stored + 1) ≡ Some (one.0, one.1)
        numbered = ap (λ (xs : List (K × V)). pair_at xs (known.stored + 1)) one.2 ∙ pair_next m.stored (one.0, one.1) (known.stored + 1) (ap (λ (n : ℕ). n + 1) shown_blocks.stored)

        lasting : Lasts m.stored v.stored
        lasting n p is = ap (λ (xs : List (K × V)). pair_at xs n) one.2 ∙ lasts_more m.stored ((one.0, one.1) ∷ []) n p is

        -- no block was this pair before
        none_before : (x : ℕ) → known.roles x ≡ role.Pair (known.stored + 1) → ⊥
        none_before x e = let was = subst (HasRole w m.stored x) e (shown_blocks.roles x) in let le = pair_within m.stored (known.stored + 1) (was.0, was.1) was.2 in let n = shown_blocks.stored in omega (arith, le, n)

        number_of : (x n : ℕ) → x ≡ b → roles_then x ≡ role.Pair n → n ≡ known.stored + 1
        number_of x n e is = let it : role.Pair n ≡ role.Pair (known.stored + 1) = sym is ∙ put_here b (role.Pair (known.stored + 1)) known.roles x e in cc it

        other_of : (x n : ℕ) → x ≢ b → roles_then x ≡ role.Pair n → known.roles x ≡ role.Pair n
        other_of x n ne is = sym (put_elsewhere b (role.Pair (known.stored + 1)) known.roles x ne) ∙ is

        once_then : ArePairsOnce roles_then
        once_then x y n is is2 = by (cases_eq x b) (cases_eq y b)
          where
            by : (x ≡ b) ⊎ (x ≢ b) → (y ≡ b) ⊎ (y ≢ b) → x ≡ y
            by (inl e) (inl f) = e ∙ sym f
            by (inl e) (inr f) = absurd (none_before y (other_of y n f is2 ∙ ap role.Pair (number_of x n e is)))
            by (inr e) (inl f) = absurd (none_before x (other_of x n e is ∙ ap role.Pair (number_of y n f is2)))
            by (inr e) (inr f) = shown_blocks.once x y n (other_of x n e is) (other_of y n f is2)

    its_role : (with_pair b known).roles (blocks2.pair c.stored) ≡ role.Pair (known.stored + 1)
    its_role = put_here b (role.Pair (known.stored + 1)) known.roles (blocks2.pair c.stored) ((grown.new_pairs c.stored (omega arith)).0 ∙ sym its_block)

    -- no table has come with it
    module _ (tables : StaysTables s.chart went.c2) (spot : Spot) (may : MayStandAt map m spot) where
      -- at a place where none was
      pub leads_stored : HasPair w.memory b (acting name m) (Stored (known.stored + 1) spot) → ((n : ℕ) → n < c.stored → went.c2.current n ≡ c.current n) → Leads (Stored (known.stored + 1) spot ∷ []) (with_pair b known)
      leads_stored has others =
          let n = shown_blocks.stored in
          let v = with_effect name (Some map) (Stored (known.stored + 1) spot) m in
          let one = stored_one w.memory b (acting name m) (known.stored + 1) spot m.stored has in
          let many : length v.stored ≡ length m.stored + 1 = one_more_stored w.memory b m.stored v.stored one in
          let next : known.stored + 1 ≡ length m.stored + 1 = omega (arith, n) in
          record {
            finds = ((next, may), tt);
            number_then = put c.stored (known.stored + 1) number;
            numbers = λ o l. put_elsewhere c.stored (known.stored + 1) number o (λ e. omega (arith, l, e));
            own = record {
              there = there_on map number s s2 m v known (with_pair b known) blocks_on keeps_stored refl tables (record { there = refl; tables = refl }) shown.there;
              pairs = comes_in map number s s2 m v known (with_pair b known) blocks_on keeps_stored shown.pairs (known.stored + 1) spot.turn next refl refl many one_more current others its_role;
              tables = tables_on map number s s2 m v known (with_pair b known) blocks_on keeps_stored refl tables (record { there = refl; tables = refl }) shown.tables;
              counter = counter_on map number s s2 m v known (with_pair b known) blocks_on keeps_stored refl shown.counter;
            };
            others = λ other ne. stored_other name map other ne m (known.stored + 1) spot next (omega (arith, many));
            keeps = keeps_stored;
            back = back_stored;
            blocks = blocks_stored v one;
          }

  -- a pair leaves the map
  module _ (p : ℕ) (there : p < c.stored) (current : c.current p ≡ true) where
    abbrev its : ℕ
    its = number p

    pub was_there : m.place its ≡ InMap map
    was_there = in_map_true map (m.place its) (shown.pairs.here p there ∙ current)

    -- the map without it
    abbrev pub without_it : Standing K
    without_it = record s { chart = record s.chart { current = λ n. cond (eqb n p) false (c.current n) } }

    module _ (v : Moment K V) (place : v.place ≡ put its Out m.place) (born : v.born ≡ m.born) (as_many : length v.stored ≡ length m.stored) where
      pub left_pairs : RefinesPairs map number without_it v known
      left_pairs =
          goes_out map number s without_it m v known known (blocks_same s.chart s.blocks) (λ b lasting. refl) shown.pairs p there place born as_many refl
          (ap (λ (q : Bool). cond q false (c.current p)) (eq-eqb p p refl)) (λ n l ne. ap (λ (q : Bool). cond q false (c.current n)) (ne_eqb n p ne))

    -- and nothing comes in its place
    pub leads_removed : went.c2.stored ≡ c.stored → StaysTables s.chart went.c2 → ((n : ℕ) → n < c.stored → went.c2.current n ≡ cond (eqb n p) false (c.current n)) → Leads (Removed its ∷ []) known
    leads_removed stored tables others =
        let v = with_effect name (Some map) (Removed its) m in
        let many : length v.stored ≡ length m.stored = ap length (stored_no_more (acting name m) its m.stored).1 in
        record {
          finds = (was_there, tt);
          number_then = number;
          numbers = λ o l. refl;
          own = record {
            there = there_on map number s s2 m v known known blocks_on (λ b lasting. refl) refl tables (record { there = refl; tables = refl }) shown.there;
            pairs = goes_out map number s s2 m v known known blocks_on (λ b lasting. refl) shown.pairs p there refl refl many stored
                (others p there ∙ ap (λ (q : Bool). cond q false (c.current p)) (eq-eqb p p refl))
                (λ n l ne. others n l ∙ ap (λ (q : Bool). cond q false (c.current n)) (ne_eqb n p ne));
            tables = tables_on map number s s2 m v known known blocks_on (λ b lasting. refl) refl tables (record { there = refl; tables = refl }) shown.tables;
            counter = counter_on map number s s2 m v known known blocks_on (λ b lasting. refl) refl shown.counter;
          };
          others = λ other ne. removed_other name map other ne m its was_there (omega (arith, many));
          keeps = λ b lasting. refl;
          back = λ b of. inl refl;
          blocks = record {
            roles = λ b. kept v.stored (lasts_same m.stored v.stored (stored_no_more (acting name m) its m.stored).1) b;
            once = shown_blocks.once;
            stored = shown_blocks.stored ∙ sym many;
          };
        }

    -- or another one does
    module _ (one_more : went.c2.stored ≡ suc c.stored) (fresh : went.c2.current c.stored ≡ true) (b : ℕ) (its_block : b ≡ went.blocks2.pair c.stored)
        (tables : StaysTables s.chart went.c2) (spot : Spot) (may : MayStandAt map m spot) (others : (n : ℕ) → n < c.stored → went.c2.current n ≡ cond (eqb n p) false (c.current n)) where
      abbrev out : Moment K V
      out = with_effect name (Some map) (Replaced its) m

      pub leads_replaced : HasPair w.memory b (acting name out) (Stored (known.stored + 1) spot) → Leads (Replaced its ∷ Stored (known.stored + 1) spot ∷ []) (with_pair b known)
      leads_replaced has =
          let n = shown_blocks.stored in
          let v = with_effect name (Some map) (Stored (known.stored + 1) spot) out in
          let none_more : length out.stored ≡ length m.stored = ap length (stored_no_more (acting name m) its m.stored).0 in
          let one = stored_one w.memory b (acting name out) (known.stored + 1) spot out.stored has in
          let many : length v.stored ≡ length out.stored + 1 = one_more_stored w.memory b out.stored v.stored one in
          let none_left : out.stored ≡ m.stored = (stored_no_more (acting name m) its m.stored).0 in
          let next : known.stored + 1 ≡ length out.stored + 1 = omega (arith, n, none_more) in
          let keeps = keeps_stored one_more fresh b its_block in
          record {
            finds = (was_there, ((next, may), tt));
            number_then = put c.stored (known.stored + 1) number;
            numbers = λ o l. put_elsewhere c.stored (known.stored + 1) number o (λ e. omega (arith, l, e));
            own = record {
              there = there_on map number s s2 m v known (with_pair b known) blocks_on keeps refl tables (record { there = refl; tables = refl }) shown.there;
              pairs = comes_in map number without_it s2 out v known (with_pair b known) (record { tables = blocks_on.tables; pairs = blocks_on.pairs }) keeps (left_pairs out refl refl none_more)
                  (known.stored + 1) spot.turn next refl refl many one_more fresh others (its_role one_more fresh b its_block);
              tables = tables_on map number s s2 m v known (with_pair b known) blocks_on keeps refl tables (record { there = refl; tables = refl }) shown.tables;
              counter = counter_on map number s s2 m v known (with_pair b known) blocks_on keeps refl shown.counter;
            };
            others = λ other ne. alike_then other m out v (replaced_other name map other ne m its was_there (omega (arith, none_more)))
                (stored_other name map other ne out (known.stored + 1) spot next (omega (arith, many)));
            keeps = keeps;
            back = back_stored one_more fresh b its_block;
            blocks = blocks_stored one_more fresh b its_block v (one.0, one.1, one.2 ∙ ap (λ (xs : List (K × V)). xs ++ (one.0, one.1) ∷ []) none_left, one.3);
          }
