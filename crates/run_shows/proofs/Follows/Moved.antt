-- Where a step of a call leads that is none of a row, by the change of its map's tables that its operation tells.
use Rattle.std.specs.Prelude.{◌≡◌, ◌≢◌, ℕ, zero, suc, ◌+◌, ◌*◌, ◌<◌, ◌≤◌, Bool, true, false, cond, eqb, List, [], ◌∷◌, Option, Some}
use Rattle.std.proofs.Common.{refl, ap, sym, subst, ◌∙◌, arith, inl, inr}
use Rattle.std.proofs.lemmas.Bool.{ne_eqb, eq-eqb, cases_eq}
use Rattle.seize_words.specs.declared.at.At.{At}
use Rattle.seize_words.specs.declared.at.At.TheVariants.{Root}
use Rattle.seize_words.specs.OneMemory.Mem.{Mem, value_at}
use Rattle.seize_words.specs.OneMemory.Word.{block_in}
use Rattle.seize.specs.World.{World}
use Rattle.run_effects.specs.Given.RunsDeclared.shapes.TableShape.{TableShape}
use Rattle.run_effects.specs.Given.TablesChunks.{is_incremental}
use Rattle.run_effects.specs.Given.TablesDeclared.marks.TheConstants.{TOMBSTONE}
use Rattle.run_effects.specs.Given.TablesDeclared.node.Node.{Node}
use Rattle.run_effects.specs.Given.TablesDeclared.setting.Setting.{Setting}
use Rattle.run_effects.specs.Given.TablesDeclared.table_words.TheConstants.{PLACES}
use Rattle.run_effects.specs.Given.RunsDeclared.effect.Effect.{Effect}
use Rattle.run_effects.specs.Given.RunsDeclared.effect.Effect.TheVariants.{Copied, Stored, Replaced, Removed, Linked, Promoted}
use Rattle.run_effects.specs.Given.RunsDeclared.effect.Spot.{Spot}
use Rattle.run_effects.specs.Given.SchedulesEntry.{acting}
use Rattle.run_effects.specs.Given.SchedulesEffects.{with_effect, AtEachEffect}
use Rattle.run_effects.specs.Given.SchedulesMoment.{Moment}
use Rattle.run_effects.specs.declared.changed.Changed.{Changed}
use Rattle.run_effects.specs.declared.changed.Changed.TheVariants as changed
use Rattle.run_effects.specs.Tells.Seen.{Seen, Wrote}
use Rattle.run_effects.specs.Tells.Tells.{place_at, last_link, PreservesNames, IsSilent, new_word, IsSeenAs, IsObserved}
use Rattle.run_effects.specs.Given.RuleChart.{Phase, Still, Copying, Empty, Holds, Chart}
use Rattle.many_maps.specs.Given.RuleMoves.{Move, Links, Stores, Replaces, Removes, Marks, MarksBlocking, Skips, Unmarks, Puts, Covers, PutsLate, Claims, Reclaims, Counts, GivesUp, Aborts, Promotes, Announces, Allowed, after, without}
use Rattle.run_effects.specs.Given.RuleWords.{Blocks, byte_of, place_word}
use Rattle.run_effects.specs.Given.RuleMaps.{spot_of}
use Rattle.run_effects.specs.Given.RuleInWorld.{IsMapIn, Moved, StepSpec}
use Rattle.many_maps.proofs.Given.RuleMoves.Writes.{put_in_here}
use Rattle.run_effects.proofs.Given.RuleLaws.{words_name_pairs, bytes_are_few}
use Rattle.run_effects.proofs.Given.RuleWords.TablesSeen.{block_of_link}
use Rattle.many_maps.specs.Given.PointsSteps.{AreLawful}
use Rattle.many_maps.specs.Given.CallersSights.{Visible, seen_by, IsGrown, IsVisibility}
use Rattle.many_maps.specs.Given.CallersTogether.{in_slot}
use Rattle.many_maps.specs.Maps.{Standing}
use Rattle.run_effects.specs.Effects.Effects.{spot_at, effects_of, known_after}
use Rattle.run_effects.specs.Effects.Known.{Known, with_pair, with_role}
use Rattle.run_effects.specs.declared.acting.Acting.{Acting}
use Rattle.run_effects.specs.declared.acting.Acting.TheVariants.{Call}
use Rattle.run_effects.specs.declared.role.Role.TheVariants as role
use Rattle.run_shows.specs.Follows.Blocks.{RefinesBlocks}
use Rattle.run_shows.specs.Follows.Finds.{MayBeRoot}
use Rattle.run_shows.specs.Follows.Maps.{table_of, RefinesMap}
use Rattle.run_shows.specs.Follows.Steps.{named_now, HasToStore, HasPair}
use Rattle.run_shows.proofs.Follows.Finds.{may_stand, may_be_root}
use Rattle.run_shows.proofs.Follows.Gives.{Gives, stores_none}
use Rattle.run_shows.proofs.Follows.Leads.{LeadsOn, tables_seen, leads_quiet}
use Rattle.run_shows.proofs.Follows.Linked.{leads_linked, leads_promoted, was_own as own_before}
use Rattle.run_shows.proofs.Follows.Onward.{StaysTables, StaysPairs, tables_same, pairs_same}
use Rattle.run_shows.proofs.Follows.Operations.{StaysThere, LeavesBy}
use Rattle.run_shows.proofs.Follows.Stored.{in_root, comes_next, comes_last, inside, still_home, still_current, was_own, leads_stored, leads_removed, leads_replaced}
use Rattle.run_shows.proofs.Follows.Told.{IsQuiet as IsStill, as_before, quiet_told}
use Rattle.run_shows.proofs.Follows.Writes.{Says, nothing_free, place_says, next_says, root_says}

module _ {K V : Type 0} (same : K → K → Bool) (slot caller map : ℕ) (name : Option (List ℕ)) (number : ℕ → ℕ) (s : Standing K) (lawful : AreLawful same s.hash)
    (w : World (Node K V)) (sight : Visible) (is_sight : IsVisibility s.chart s.blocks sight) (is_map : IsMapIn same s.hash (in_slot s.setting slot) w s.chart (seen_by s.blocks sight))
    (m2 : Mem (Node K V)) (Told : World (Node K V) → Chart K → Blocks → Type 0)
    (went : StepSpec same s.hash (in_slot s.setting slot) caller w s.chart (seen_by s.blocks sight) m2 Told) (blocks2 : Blocks) (grown : IsGrown s.chart s.blocks went.blocks2 blocks2) (sights2 : ℕ → Visible)
    (m : Moment K V) (known : Known) (shown : RefinesMap map number s m known) (shown_blocks : RefinesBlocks m known w) where
  abbrev c : Chart K
  c = s.chart

  abbrev seen_blocks : Blocks
  seen_blocks = seen_by s.blocks sight

  abbrev setting : Setting
  setting = in_slot s.setting slot

  abbrev incremental : Bool
  incremental = is_incremental s.setting.mode

  abbrev its : Acting
  its = Call caller map

  abbrev Leads : List Effect → Known → Type 0
  Leads = LeadsOn same slot caller map name number s lawful w sight is_sight is_map m2 Told went blocks2 grown sights2 m known shown shown_blocks

  -- each pair that is stored is one that the call has to store
  abbrev pub StoreTheirs : Changed → List Effect → Type 0
  StoreTheirs told effects = AtEachEffect (λ v f. HasPair w.memory (named_now told) (acting name v) f) name (Some map) effects m

  abbrev Quiet : List Effect → Known → Type 0
  Quiet = IsStill same s.hash setting caller w s.chart seen_blocks m2 Told went is_map map m.stored known shown_blocks.roles shown_blocks.once
      (tables_seen same slot caller map name number s lawful w sight is_sight is_map m2 Told went blocks2 grown sights2 m known shown shown_blocks)

  quiet_leads : (effects : List Effect) (after : Known) → Quiet effects after → StaysTables s.chart went.c2 → StaysPairs s.chart went.c2 → Leads effects after
  quiet_leads = leads_quiet same slot caller map name number s lawful w sight is_sight is_map m2 Told went blocks2 grown sights2 m known shown shown_blocks

  -- a linked table is seen, and has its role
  table_role : (t : ℕ) → c.first ≤ t → t < c.past → known.roles (s.blocks.table t) ≡ role.Table (table_of map t) (c.len t)
  table_role t l made = shown.tables.roles t made (is_sight.tables t made (is_sight.linked t l made))

  free : known.roles 0 ≡ role.Free
  free = nothing_free w m.stored known shown_blocks.roles

  -- the block that the word of a pair names
  pair_named : (d : Chart K) (blocks : Blocks) (n : ℕ) (phase : Phase) (borrowed : Bool) → block_in (place_word s.hash d blocks (Holds n phase borrowed)) ≡ blocks.pair n
  pair_named d blocks n phase borrowed = words_name_pairs blocks.pair (λ x. byte_of s.hash (d.key x)) n phase borrowed (bytes_are_few s.hash lawful.fits (d.key n))

  -- a pair that a linked table names has its role
  pair_role : (t i n : ℕ) (phase : Phase) (borrowed : Bool) → t < c.past → sight.tables t ≡ true → c.place t i ≡ Holds n phase borrowed
      → (n < c.stored) × (known.roles (s.blocks.pair n) ≡ role.Pair (number n))
  pair_role t i n phase borrowed made seen held =
      let l = (is_map.map.rule.common.keyed t i n phase borrowed held).0 in (l, shown.pairs.roles n l (is_sight.pairs n l (is_sight.named t i n phase borrowed made seen held)))

  -- what it has to store, by what it has changed
  abbrev pub GivesIts : Type 0
  GivesIts = Gives map name number s.chart went.c2 (went.blocks2.pair s.chart.stored) m w.memory m2

  module _ (told : Changed) (left : LeavesBy w.memory m2 told) where
    -- It stores what it has to; and where it does, it leads there.
    abbrev pub ComesBy : Changed → List Effect → Known → Type 0
    ComesBy by effects after = (GivesIts → StoreTheirs by effects) × (StoreTheirs by effects → Leads effects after)

    abbrev pub Comes : Type 0
    Comes = ComesBy told (effects_of its known told) (known_after its told known)

    -- by what is told
    as_said : (at : At) (old new : ℕ) → told ≡ changed.Wrote at old new → (effects : List Effect) (after : Known) → Says its known at old new effects after
        → (GivesIts → StoreTheirs (changed.Wrote at old new) effects) → (StoreTheirs (changed.Wrote at old new) effects → Leads effects after) → Comes
    as_said at old new e effects after says gives lead =
        subst (λ (t : Changed). ComesBy t (effects_of its known t) (known_after its t known)) (sym e)
        (subst (λ (x : List Effect). ComesBy (changed.Wrote at old new) x (known_after its (changed.Wrote at old new) known)) (sym says.0)
        (subst (λ (x : Known). ComesBy (changed.Wrote at old new) effects x) (sym says.1) (gives, lead)))

    values : (at : At) (old new : ℕ) → told ≡ changed.Wrote at old new → (b : ℕ) → value_at m2 b ≡ value_at w.memory b
    values at old new e = (subst (LeavesBy w.memory m2) e left).2

    stays : (at : At) (old new : ℕ) → told ≡ changed.Wrote at old new → (b : ℕ) → StaysThere w.memory m2 b
    stays at old new e b = record { gone = λ none. values at old new e b ∙ none; there = λ value is. (value, values at old new e b ∙ is) }

    still_leads : ((at : At) (old new : ℕ) → told ≡ changed.Wrote at old new → PreservesNames setting c seen_blocks at old new) → StaysTables c went.c2 → StaysPairs c went.c2 → Comes
    still_leads quiet tables pairs =
        let still = quiet_told same s.hash setting caller w s.chart seen_blocks m2 Told went is_map map m.stored known shown_blocks.roles shown_blocks.once
        (tables_seen same slot caller map name number s lawful w sight is_sight is_map m2 Told went blocks2 grown sights2 m known shown shown_blocks) told left quiet in
        (λ gives. stores_none w.memory (named_now told) name (Some map) (effects_of its known told) m still.still, λ st. quiet_leads (effects_of its known told) (known_after its told known) still tables pairs)

    module _ (seen : Seen (Node K V)) (as_told : (at : At) (old new : ℕ) → seen ≡ Wrote at old new → told ≡ changed.Wrote at old new)
        (as_seen : (at : At) (old new : ℕ) → told ≡ changed.Wrote at old new → seen ≡ Wrote at old new) where
      calm : IsSilent setting c seen_blocks seen → StaysTables c went.c2 → StaysPairs c went.c2 → Comes
      calm quiet tables pairs = still_leads (λ at old new e. subst (IsSilent setting c seen_blocks) (as_seen at old new e) quiet) tables pairs

      module _ (move : Move K) (is : went.c2 ≡ after (spot_of s.hash) incremental move c) where
        abbrev d : Chart K
        d = after (spot_of s.hash) incremental move c

        calm_tables : StaysTables c d → StaysTables c went.c2
        calm_tables h = record {
          past = ap (λ (x : Chart K). x.past) is ∙ h.past;
          first = ap (λ (x : Chart K). x.first) is ∙ h.first;
          lens = λ t l. (ap (λ (x : Chart K). x.len t) is ∙ (h.lens t l).0, ap (λ (x : Chart K). x.limit t) is ∙ (h.lens t l).1);
        }

        calm_pairs : StaysPairs c d → StaysPairs c went.c2
        calm_pairs h = record { stored = ap (λ (x : Chart K). x.stored) is ∙ h.stored; current = λ n l. ap (λ (x : Chart K). x.current n) is ∙ h.current n l }

        calm_by : IsSilent setting c seen_blocks seen → StaysTables c d → StaysPairs c d → Comes
        calm_by quiet tables pairs = calm quiet (calm_tables tables) (calm_pairs pairs)

      -- a pair is copied into an empty place of a table that is seen
      copied : (t i n : ℕ) (new : ℕ) → t < c.past → sight.tables t ≡ true → i < c.len t → block_in new ≡ s.blocks.pair n → known.roles (s.blocks.pair n) ≡ role.Pair (number n) → 0 < s.blocks.pair n
          → seen ≡ Wrote (place_at seen_blocks t i) 0 new → StaysTables c went.c2 → StaysPairs c went.c2 → Comes
      copied t i n new made known_table within names is_pair some wrote tables pairs =
          let e = as_told (place_at seen_blocks t i) 0 new wrote in
          let spot = spot_at (table_of map t) (i + PLACES) in
          as_said (place_at seen_blocks t i) 0 new e (Copied (number n) spot ∷ []) known
          (place_says its known (s.blocks.table t) (table_of map t) (c.len t) (shown.tables.roles t made (is_sight.tables t made known_table)) 0 new (λ z. omega (arith, z, names, some))
          role.Free (role.Pair (number n)) free (ap known.roles names ∙ is_pair) i within) (λ gives. (tt, tt))
          (λ st. quiet_leads (Copied (number n) spot ∷ []) known
          (as_before same s.hash setting caller w s.chart seen_blocks m2 Told went is_map map m.stored known shown_blocks.roles shown_blocks.once
          (tables_seen same slot caller map name number s lawful w sight is_sight is_map m2 Told went blocks2 grown sights2 m known shown shown_blocks)
          (Copied (number n) spot ∷ []) (refl, tt) known refl refl (stays (place_at seen_blocks t i) 0 new e)) tables pairs)

      -- a link to a table that is new
      linked : (len limit : ℕ) → 0 < len → went.c2 ≡ after (spot_of s.hash) incremental (Links len limit) c
          → seen ≡ Wrote (last_link setting seen_blocks c.past) 0 (went.blocks2.table c.past * 2048) → Comes
      linked len limit some is wrote = by c.past refl
        where
          past : went.c2.past ≡ suc c.past
          past = ap (λ (x : Chart K). x.past) is

          first : went.c2.first ≡ c.first
          first = ap (λ (x : Chart K). x.first) is

          len_is : went.c2.len c.past ≡ len
          len_is = ap (λ (x : Chart K). x.len c.past) is ∙ ap (λ (q : Bool). cond q len (c.len c.past)) (eq-eqb c.past c.past refl)

          limit_is : went.c2.limit c.past ≡ limit
          limit_is = ap (λ (x : Chart K). x.limit c.past) is ∙ ap (λ (q : Bool). cond q limit (c.limit c.past)) (eq-eqb c.past c.past refl)

          lens : (t : ℕ) → t < c.past → (went.c2.len t ≡ c.len t) × (went.c2.limit t ≡ c.limit t)
          lens t l = (
            ap (λ (x : Chart K). x.len t) is ∙ ap (λ (q : Bool). cond q len (c.len t)) (ne_eqb t c.past (λ e. omega (arith, l, e))),
            ap (λ (x : Chart K). x.limit t) is ∙ ap (λ (q : Bool). cond q limit (c.limit t)) (ne_eqb t c.past (λ e. omega (arith, l, e))),
          )

          pairs : StaysPairs c went.c2
          pairs = record { stored = ap (λ (x : Chart K). x.stored) is; current = λ n l. ap (λ (x : Chart K). x.current n) is }

          new : ℕ
          new = went.blocks2.table c.past * 2048

          block_is : block_in new ≡ went.blocks2.table c.past
          block_is = block_of_link (went.blocks2.table c.past)

          at_now : At
          at_now = last_link setting seen_blocks c.past

          told_so : told ≡ changed.Wrote at_now 0 new
          told_so = as_told at_now 0 new wrote

          shape : TableShape
          shape = record { len = len; limit = limit }

          own_then : known.roles (block_in new) ≡ role.OwnTable c.past shape
          own_then = own_before same slot caller map name number s lawful w sight is_sight is_map m2 Told went blocks2 grown sights2 m known shown shown_blocks (values at_now 0 new told_so) pairs
              len limit some past first len_is limit_is lens (block_in new) block_is

          leads : Leads (Linked (table_of map c.past) shape ∷ []) (with_role (block_in new) (role.Table (table_of map c.past) len) known)
          leads = leads_linked same slot caller map name number s lawful w sight is_sight is_map m2 Told went blocks2 grown sights2 m known shown shown_blocks (values at_now 0 new told_so) pairs
              len limit some past first len_is limit_is lens (block_in new) block_is

          -- the block is another one than none
          apart : block_in 0 ≢ block_in new
          apart z = (let one : role.Free ≡ role.OwnTable c.past shape = sym free ∙ ap known.roles z ∙ own_then in cc one)

          Told_at : At → Type 0
          Told_at at = Says its known at 0 new (Linked (table_of map c.past) shape ∷ []) (with_role (block_in new) (role.Table (table_of map c.past) len) known)

          says : (p : ℕ) → c.past ≡ p → Told_at (last_link setting seen_blocks p)
          says zero e = root_says its known setting.root 0 new apart role.Free (role.OwnTable c.past shape) free own_then
          says (suc t) e =
              next_says its known (s.blocks.table t) (table_of map t) (c.len t) (table_role t (let r = is_map.map.rule.common.rooted (omega (arith, e)) in omega (arith, r, e)) (omega (arith, e))) 0 new apart
              role.Free (role.OwnTable c.past shape) free own_then

          by : (p : ℕ) → c.past ≡ p → Comes
          by p e = as_said at_now 0 new told_so (Linked (table_of map c.past) shape ∷ []) (with_role (block_in new) (role.Table (table_of map c.past) len) known)
              (subst (λ (x : ℕ). Told_at (last_link setting seen_blocks x)) (sym e) (says p e)) (λ gives. (tt, tt)) (λ st. leads)

      -- the root comes to a table behind it
      promoted : (t : ℕ) → c.first < t → t < c.past → MayBeRoot map m (table_of map t) → went.c2 ≡ after (spot_of s.hash) incremental (Promotes t) c
          → seen ≡ Wrote (Root setting.root) (seen_blocks.table c.first * 2048) (seen_blocks.table t * 2048) → Comes
      promoted t ahead made may is wrote =
          as_said (Root setting.root) old new told_so (Promoted (table_of map t) ∷ []) known
          (root_says its known setting.root old new apart (role.Table (table_of map c.first) (c.len c.first)) (role.Table (table_of map t) (c.len t))
          (ap known.roles (block_of_link (s.blocks.table c.first)) ∙ table_role c.first (omega arith) (omega (arith, ahead, made)))
          (ap known.roles (block_of_link (s.blocks.table t)) ∙ table_role t (omega (arith, ahead)) made)) (λ gives. (tt, tt))
          (λ st. leads_promoted same slot caller map name number s lawful w sight is_sight is_map m2 Told went blocks2 grown sights2 m known shown shown_blocks (values (Root setting.root) old new told_so)
          (record { stored = ap (λ (x : Chart K). x.stored) is; current = λ n l. ap (λ (x : Chart K). x.current n) is })
          t ahead may (ap (λ (x : Chart K). x.past) is) (ap (λ (x : Chart K). x.first) is) (λ u l. (ap (λ (x : Chart K). x.len u) is, ap (λ (x : Chart K). x.limit u) is)))
        where
          old : ℕ
          old = s.blocks.table c.first * 2048

          new : ℕ
          new = s.blocks.table t * 2048

          told_so : told ≡ changed.Wrote (Root setting.root) old new
          told_so = as_told (Root setting.root) old new wrote

          apart : block_in old ≢ block_in new
          apart e =
              (let blocks_same : s.blocks.table c.first ≡ s.blocks.table t = sym (block_of_link (s.blocks.table c.first)) ∙ e ∙ block_of_link (s.blocks.table t) in
              let turns = is_map.map.shows.tables_apart c.first t (omega (arith, ahead, made)) made (is_sight.linked c.first (omega arith) (omega (arith, ahead, made))) (is_sight.linked t (omega (arith, ahead)) made) blocks_same in
              omega (arith, turns, ahead))

      -- a place that holds a pair which may be changed is seen
      module _ (t i n : ℕ) (borrowed : Bool) (k : K) (held : c.place t i ≡ Holds n Still borrowed) (home : c.first ≤ t) (current : c.current n ≡ true) (within : (t < c.past) × (i < c.len t))
          (root : incremental ≡ false → t ≡ c.first) where
        known_table : sight.tables t ≡ true
        known_table = is_sight.linked t home within.0

        its_pair : (n < c.stored) × (known.roles (s.blocks.pair n) ≡ role.Pair (number n))
        its_pair = pair_role t i n Still borrowed within.0 known_table held

        abbrev held_word : ℕ
        held_word = place_word s.hash c seen_blocks (Holds n Still borrowed)

        was_pair : known.roles (block_in held_word) ≡ role.Pair (number n)
        was_pair = ap known.roles (pair_named c seen_blocks n Still borrowed) ∙ its_pair.1

        abbrev spot : Spot
        spot = spot_at (table_of map t) (i + PLACES)

        removed : went.c2 ≡ after (spot_of s.hash) incremental (Removes t i) c → seen ≡ Wrote (place_at seen_blocks t i) held_word TOMBSTONE → Comes
        removed is wrote =
            as_said (place_at seen_blocks t i) held_word TOMBSTONE told_so (Removed (number n) ∷ []) known
            (place_says its known (s.blocks.table t) (table_of map t) (c.len t) (table_role t home within.0) held_word TOMBSTONE (λ e. apart e) (role.Pair (number n)) role.Free was_pair free i within.1)
            (λ gives. (tt, tt))
            (λ st. leads_removed same slot caller map name number s lawful w sight is_sight is_map m2 Told went blocks2 grown sights2 m known shown shown_blocks (values (place_at seen_blocks t i) held_word TOMBSTONE told_so)
            n its_pair.0 current (ap (λ (x : Chart K). x.stored) is)
            (record { past = ap (λ (x : Chart K). x.past) is; first = ap (λ (x : Chart K). x.first) is; lens = λ u l. (ap (λ (x : Chart K). x.len u) is, ap (λ (x : Chart K). x.limit u) is) })
            (λ o l. ap (λ (x : Chart K). x.current o) is ∙ ap (λ p. without (spot_of s.hash) incremental p c.current o) held))
          where
            told_so : told ≡ changed.Wrote (place_at seen_blocks t i) held_word TOMBSTONE
            told_so = as_told (place_at seen_blocks t i) held_word TOMBSTONE wrote

            apart : block_in held_word ≢ block_in TOMBSTONE
            apart e = (let one : role.Pair (number n) ≡ role.Free = sym was_pair ∙ ap known.roles e ∙ free in cc one)

        replaced : went.c2 ≡ after (spot_of s.hash) incremental (Replaces t i k) c → seen ≡ Wrote (place_at seen_blocks t i) held_word (new_word s.hash setting c seen_blocks went.c2 went.blocks2) → Comes
        replaced is wrote =
            as_said (place_at seen_blocks t i) held_word new told_so (Replaced (number n) ∷ Stored (known.stored + 1) spot ∷ []) (with_pair (block_in new) known)
            (place_says its known (s.blocks.table t) (table_of map t) (c.len t) (table_role t home within.0) held_word new apart (role.Pair (number n)) (role.OwnPair own.0) was_pair own.1 i within.1)
            (λ gives. (
              tt,
              (
                subst (λ (b : ℕ). HasToStore w.memory b (acting name (with_effect name (Some map) (Replaced (number n)) m)) (known.stored + 1)) (sym names)
                    (gives.replaced one_more fresh n its_pair.0 current gone (values (place_at seen_blocks t i) held_word new told_so) (known.stored + 1)),
                tt,
              ),
            ))
            (λ st. leads_replaced same slot caller map name number s lawful w sight is_sight is_map m2 Told went blocks2 grown sights2 m known shown shown_blocks (values (place_at seen_blocks t i) held_word new told_so)
            n its_pair.0 current one_more fresh (block_in new) names tables spot (may_stand map number s m known shown t i home within.0 within.1 root)
            others st.1.0)
          where
            others : (o : ℕ) → o < c.stored → went.c2.current o ≡ cond (eqb o n) false (c.current o)
            others o l = ap (λ (x : Chart K). x.current o) is
                ∙ ap (λ (q : Bool). cond q true (without (spot_of s.hash) incremental (c.place t i) c.current o)) (ne_eqb o c.stored (λ e. omega (arith, l, e)))
                ∙ ap (λ p. without (spot_of s.hash) incremental p c.current o) held

            gone : went.c2.current n ≡ false
            gone = others n its_pair.0 ∙ ap (λ (q : Bool). cond q false (c.current n)) (eq-eqb n n refl)

            new : ℕ
            new = new_word s.hash setting c seen_blocks went.c2 went.blocks2

            told_so : told ≡ changed.Wrote (place_at seen_blocks t i) held_word new
            told_so = as_told (place_at seen_blocks t i) held_word new wrote

            names : block_in new ≡ went.blocks2.pair c.stored
            names = pair_named went.c2 went.blocks2 c.stored Still false

            one_more : went.c2.stored ≡ suc c.stored
            one_more = ap (λ (x : Chart K). x.stored) is

            fresh : went.c2.current c.stored ≡ true
            fresh = ap (λ (x : Chart K). x.current c.stored) is ∙ ap (λ (q : Bool). cond q true (without (spot_of s.hash) incremental (c.place t i) c.current c.stored)) (eq-eqb c.stored c.stored refl)

            tables : StaysTables c went.c2
            tables = record { past = ap (λ (x : Chart K). x.past) is; first = ap (λ (x : Chart K). x.first) is; lens = λ u l. (ap (λ (x : Chart K). x.len u) is, ap (λ (x : Chart K). x.limit u) is) }

            own : (j : ℕ) × (known.roles (block_in new) ≡ role.OwnPair j)
            own = was_own same slot caller map name number s lawful w sight is_sight is_map m2 Told went blocks2 grown sights2 m known shown shown_blocks (values (place_at seen_blocks t i) held_word new told_so)
                one_more fresh (block_in new) names

            apart : block_in held_word ≢ block_in new
            apart e = (let one : role.Pair (number n) ≡ role.OwnPair own.0 = sym was_pair ∙ ap known.roles e ∙ own.1 in cc one)

      -- an empty place gets a pair
      stored : (t i : ℕ) (k : K) (j : ℕ) → c.first ≤ t → t < c.past → i < c.len t → (incremental ≡ false → t ≡ c.first) → i ≡ spot_of s.hash (c.len t) k j → c.place t i ≡ Empty false → went.c2 ≡ after (spot_of s.hash) incremental (Stores t k j) c
          → seen ≡ Wrote (place_at seen_blocks t i) 0 (new_word s.hash setting c seen_blocks went.c2 went.blocks2) → Comes
      stored t i k j home made within root i_is empty is wrote =
          as_said (place_at seen_blocks t i) 0 new told_so (Stored (known.stored + 1) spot ∷ []) (with_pair (block_in new) known)
          (place_says its known (s.blocks.table t) (table_of map t) (c.len t) (table_role t home made) 0 new apart role.Free (role.OwnPair own.0) free own.1 i within)
          (λ gives. (
            subst (λ (b : ℕ). HasToStore w.memory b (acting name m) (known.stored + 1)) (sym names)
                (gives.stored one_more fresh others (values (place_at seen_blocks t i) 0 new told_so) (known.stored + 1)),
            tt,
          ))
          (λ st. leads_stored same slot caller map name number s lawful w sight is_sight is_map m2 Told went blocks2 grown sights2 m known shown shown_blocks (values (place_at seen_blocks t i) 0 new told_so)
          one_more fresh (block_in new) names tables spot (may_stand map number s m known shown t i home made within root) st.0 others)
        where
          others : (o : ℕ) → o < c.stored → went.c2.current o ≡ c.current o
          others o l = ap (λ (x : Chart K). x.current o) is
              ∙ ap (λ (q : Bool). cond q true (without (spot_of s.hash) incremental (c.place t (spot_of s.hash (c.len t) k j)) c.current o)) (ne_eqb o c.stored (λ e. omega (arith, l, e)))
              ∙ ap (λ p. without (spot_of s.hash) incremental p c.current o) (ap (c.place t) (sym i_is) ∙ empty)

          new : ℕ
          new = new_word s.hash setting c seen_blocks went.c2 went.blocks2

          spot : Spot
          spot = spot_at (table_of map t) (i + PLACES)

          told_so : told ≡ changed.Wrote (place_at seen_blocks t i) 0 new
          told_so = as_told (place_at seen_blocks t i) 0 new wrote

          names : block_in new ≡ went.blocks2.pair c.stored
          names = pair_named went.c2 went.blocks2 c.stored Still false

          one_more : went.c2.stored ≡ suc c.stored
          one_more = ap (λ (x : Chart K). x.stored) is

          fresh : went.c2.current c.stored ≡ true
          fresh = ap (λ (x : Chart K). x.current c.stored) is
              ∙ ap (λ (q : Bool). cond q true (without (spot_of s.hash) incremental (c.place t (spot_of s.hash (c.len t) k j)) c.current c.stored)) (eq-eqb c.stored c.stored refl)

          tables : StaysTables c went.c2
          tables = record { past = ap (λ (x : Chart K). x.past) is; first = ap (λ (x : Chart K). x.first) is; lens = λ u l. (ap (λ (x : Chart K). x.len u) is, ap (λ (x : Chart K). x.limit u) is) }

          own : (x : ℕ) × (known.roles (block_in new) ≡ role.OwnPair x)
          own = was_own same slot caller map name number s lawful w sight is_sight is_map m2 Told went blocks2 grown sights2 m known shown shown_blocks (values (place_at seen_blocks t i) 0 new told_so)
              one_more fresh (block_in new) names

          apart : block_in 0 ≢ block_in new
          apart e = (let one : role.Free ≡ role.OwnPair own.0 = sym free ∙ ap known.roles e ∙ own.1 in cc one)

      -- so each change that may be made leads
      by_move : (move : Move K) → Allowed same (spot_of s.hash) incremental move c → went.c2 ≡ after (spot_of s.hash) incremental move c
          → IsSeenAs s.hash setting c seen_blocks went.c2 went.blocks2 move seen → Comes
      by_move (Links len limit) allowed is saw = linked len limit allowed.0 is saw
      by_move (Stores t k j) allowed is saw =
          stored t (spot_of s.hash (c.len t) k j) k j allowed.1 allowed.0 (lawful.lawful.within (c.len t) j k (is_map.map.rule.common.lens t allowed.0).0)
          (in_root same (spot_of s.hash) c t k incremental allowed.5) refl allowed.3 is saw
      by_move (Replaces t i k) allowed is (n, borrowed, held, wrote) =
          replaced t i n borrowed k held (still_home same (spot_of s.hash) c t i n borrowed k held incremental is_map.map.rule allowed.1)
          (still_current same (spot_of s.hash) c t i n borrowed k held incremental is_map.map.rule allowed.1)
          (inside same (spot_of s.hash) c t i n borrowed k held incremental is_map.map.rule) (in_root same (spot_of s.hash) c t k incremental allowed.1) is wrote
      by_move (Removes t i) (k, still, may) is (n, borrowed, held, wrote) =
          removed t i n borrowed k held (still_home same (spot_of s.hash) c t i n borrowed k held incremental is_map.map.rule may)
          (still_current same (spot_of s.hash) c t i n borrowed k held incremental is_map.map.rule may)
          (inside same (spot_of s.hash) c t i n borrowed k held incremental is_map.map.rule) (in_root same (spot_of s.hash) c t k incremental may) is wrote
      by_move (Puts i place t k j) allowed is (n, borrowed, held, wrote) =
          let root_made : c.first < c.past = let a = allowed.0 in let b = allowed.1 in omega (arith, a, b) in
          let root_seen = is_sight.linked c.first (omega arith) root_made in
          let here = pair_role c.first place n Copying borrowed root_made root_seen held in
          let known_pair = is_sight.named c.first place n Copying borrowed root_made root_seen held in
          let t_seen = is_sight.linked t (let a = allowed.0 in omega (arith, a)) allowed.1 in
          copied t (spot_of s.hash (c.len t) k j) n (place_word s.hash went.c2 went.blocks2 (Holds n Still (is_incremental setting.mode))) allowed.1 t_seen
          (lawful.lawful.within (c.len t) j k (is_map.map.rule.common.lens t allowed.1).0)
          (pair_named went.c2 went.blocks2 n Still (is_incremental setting.mode) ∙ (went.blocks_same.pairs n here.0 known_pair).0) here.1 (is_map.map.shows.pair_numbers n here.0 known_pair).0 wrote
          (calm_tables (Puts i place t k j) is (record { past = refl; first = refl; lens = λ u l. (refl, refl) }))
          (calm_pairs (Puts i place t k j) is (record { stored = refl; current = λ o l. refl }))
      by_move (PutsLate t i n) allowed is wrote =
          let made : t < c.past = (let r = root_before in let a = allowed.1 in omega (arith, r, a)) in
          let t_seen = late_seen made in
          let t_then = went.blocks_same.tables t made t_seen in
          let known_then = went.map.map.shows.named t i n Still false (subst (λ (x : ℕ). t < x) (sym (ap (λ (x : Chart K). x.past) is)) made) t_then.1 holds_then in
          let known_pair = went.blocks_same.pairs_back n allowed.5 known_then in
          copied t i n (place_word s.hash went.c2 went.blocks2 (Holds n Still false)) made t_seen allowed.2
          (pair_named went.c2 went.blocks2 n Still false ∙ (went.blocks_same.pairs n allowed.5 known_pair).0) (shown.pairs.roles n allowed.5 (is_sight.pairs n allowed.5 known_pair))
          (is_map.map.shows.pair_numbers n allowed.5 known_pair).0 wrote
          (calm_tables (PutsLate t i n) is (record { past = refl; first = refl; lens = λ u l. (refl, refl) }))
          (calm_pairs (PutsLate t i n) is (record { stored = refl; current = λ o l. refl }))
        where
          root_before : c.first ≤ c.past
          root_before = elim (cases_eq c.past 0) as (λ _. c.first ≤ c.past) [
            | inl none ↦ (let r = is_map.map.rule.common.rootless none in omega (arith, r))
            | inr any ↦ (let r = is_map.map.rule.common.rooted (omega (arith, any)) in omega (arith, r))
          ]

          holds_then : went.c2.place t i ≡ Holds n Still false
          holds_then = ap (λ (x : Chart K). x.place t i) is ∙ put_in_here c.place t i (Holds n Still false)

          late_seen : t < c.past → sight.tables t ≡ true
          late_seen made = by (sight.tables t) refl
            where
              by : (q : Bool) → sight.tables t ≡ q → sight.tables t ≡ true
              by true e = e
              by false e = absurd (let kept = (went.tables t made (λ k. cc (e, k))).0 i in let empty = allowed.4 in cc (kept, holds_then, empty))
      by_move (Promotes t) allowed is saw =
          promoted t allowed.0 allowed.1 (may_be_root map number s m known shown t allowed.0 allowed.1 (comes_next same (spot_of s.hash) c t incremental allowed)
          (comes_last same (spot_of s.hash) c t incremental is_map.map.rule allowed)) is saw
      by_move (Marks i place) allowed is saw = calm_by (Marks i place) is saw (record { past = refl; first = refl; lens = λ u l. (refl, refl) }) (record { stored = refl; current = λ o l. refl })
      by_move (MarksBlocking place) allowed is saw = calm_by (MarksBlocking place) is saw (record { past = refl; first = refl; lens = λ u l. (refl, refl) }) (record { stored = refl; current = λ o l. refl })
      by_move (Skips i t place) allowed is saw = calm_by (Skips i t place) is saw (record { past = refl; first = refl; lens = λ u l. (refl, refl) }) (record { stored = refl; current = λ o l. refl })
      by_move (Unmarks i place) allowed is saw = calm_by (Unmarks i place) is saw (record { past = refl; first = refl; lens = λ u l. (refl, refl) }) (record { stored = refl; current = λ o l. refl })
      by_move (Covers i place) allowed is saw = calm_by (Covers i place) is saw (record { past = refl; first = refl; lens = λ u l. (refl, refl) }) (record { stored = refl; current = λ o l. refl })
      by_move (Claims i t chunk) allowed is saw = calm_by (Claims i t chunk) is saw (record { past = refl; first = refl; lens = λ u l. (refl, refl) }) (record { stored = refl; current = λ o l. refl })
      by_move (Reclaims t claim) allowed is saw = calm_by (Reclaims t claim) is saw (record { past = refl; first = refl; lens = λ u l. (refl, refl) }) (record { stored = refl; current = λ o l. refl })
      by_move (Counts i t many) allowed is saw = calm_by (Counts i t many) is saw (record { past = refl; first = refl; lens = λ u l. (refl, refl) }) (record { stored = refl; current = λ o l. refl })
      by_move (GivesUp i t) allowed is saw = calm_by (GivesUp i t) is saw (record { past = refl; first = refl; lens = λ u l. (refl, refl) }) (record { stored = refl; current = λ o l. refl })
      by_move (Aborts t) allowed is saw = calm_by (Aborts t) is saw (record { past = refl; first = refl; lens = λ u l. (refl, refl) }) (record { stored = refl; current = λ o l. refl })
      by_move (Announces t) allowed is saw = calm_by (Announces t) is saw (record { past = refl; first = refl; lens = λ u l. (refl, refl) }) (record { stored = refl; current = λ o l. refl })

      -- and so does a step that made none
      pub by_moved : IsObserved s.hash setting c seen_blocks went.c2 went.blocks2 same caller went.moved seen → Comes
      by_moved saw = by went.moved saw
        where
          by : (moved : Moved same s.hash setting.mode caller c went.c2) → IsObserved s.hash setting c seen_blocks went.c2 went.blocks2 same caller moved seen → Comes
          by (inl still) quiet = calm quiet (subst (StaysTables c) (sym still) (tables_same c)) (subst (StaysPairs c) (sym still) (pairs_same c))
          by (inr made) saw = by_move made.0 made.1 made.2 saw
